-- What leaves that were opened leave on their device where they are only read.
use Rattle.std.proofs.Common.{◌≡◌, ◌∙◌, ◌≤◌, ℕ, Bool, false, List, [], length, get_or, IsTrue, Result, Ok, Err, refl, sym, ap, subst, arith}
use Rattle.std.specs.Prelude.{IfOk, IfErr, OnOk}
use Rattle.gx_device.specs.declared.device.Device as device
use Rattle.gx_device.specs.Content.{Content, NonePending, block_of}
use Rattle.gx_device.specs.Crash.{EachImage}
use Rattle.gx_ports.specs.declared.page_view.PageView as page_view
use Rattle.gx_ports.specs.declared.kinds.LeafSpec.{LeafSpec}
use Rattle.gx_ports.specs.Heads.{Head}
use Rattle.gx_ports.specs.LeafMaps.{LeafMap}
use Rattle.gx_ports.specs.Sheets.{Sheets, Ground}
use Rattle.gx_layout.specs.Layout.{bitmap_blocks, head_blocks, is_open, pages_of}
use Rattle.gx_layout.specs.Head.{HasMagic}
use Rattle.gx_layout.specs.Recovered.{IsUnwritten}
use Rattle.gx_journal.specs.State.{head_told}
use Rattle.gx_journal.specs.declared.journal.Journal.{Journal}
use Rattle.gx_journal.specs.declared.opening.Unopened.{Unopened as NoJournal}
use Rattle.gx_journal.specs.declared.opening.Unopened.TheVariants as journal
use Rattle.gx_journal.specs.Journal.{IsCalm, IsSteady, content_of, size_of}
use Rattle.gx_pages.specs.declared.paged.Paged.{Paged}
use Rattle.gx_pages.specs.Paged.{ground_of, kept_sheets}
use Rattle.gx_pages.specs.View.{journal_of}
use Rattle.gx_leaves.specs.declared.paged.PagedLeaves.{PagedLeaves}
use Rattle.gx_leaves.specs.Paged.{pages_of as pages_in, places_in, working_of, kept_of, head_of, IsWhole, WasWhole}
use Rattle.gx_leaves.specs.Places.{specs_of}
use Rattle.gx_store.specs.Causes.{no_journal}
use Rattle.gx_store.specs.Device.{AreTexts, IsHeadOf, IsSettled, ReadAlike, ground_on}
use Rattle.gx_store.specs.Crashes.{IsReplayed, IsLeftBy, IsFirstOf}
use Rattle.gx_store.specs.Opened.{IsStoreOn}
use Rattle.gx_store.specs.Opening.{AreOpened, AreUnread}
use Rattle.gx_store.specs.Store.{IsJustOpened, machine_of, machine_left}
use Rattle.gx_store.specs.declared.unopened.Unopened.{Unopened}
use Rattle.gx_store.specs.declared.unopened.Unopened.TheVariants as unopened
use Rattle.gx_store.proofs.AlikeLemmas.{recovered_alike}
use Rattle.gx_store.proofs.SettledLemmas.{home_replayed, homes_are}

module _ {M : Type 0} {g : device.Ghosts M} where
  module _ {v : page_view.Ghosts (Paged M g)} (old new : PagedLeaves (Paged M g) v)
      (schema equation : List ℕ) (specs : List LeafSpec)
      (blocks : List (List ℕ)) where
    -- Leaves that were whole when they were opened, and were only read since, leave blocks that are
    -- settled with the same maps. The last premise is what `close` says of its blocks.
    pub settled_still : IsHeadOf schema equation specs (head_of old) → IsJustOpened old
        → IsWhole old → head_of new ≡ head_of old
        → kept_of new ≡ kept_of old → (WasWhole old → WasWhole new)
        → (IsHeadOf schema equation (specs_of (places_in new)) (head_of new) → WasWhole new
        → IsSettled schema equation (specs_of (places_in new)) (kept_of new) blocks)
        → IsSettled schema equation specs (working_of old) blocks
    settled_still head just whole same kept still closed =
        let leaves : specs_of (places_in new) ≡ specs = ap (λ (h : Head). h.leaves) same
        ∙ head.leaves in
        subst (λ (ss : List LeafSpec). IsSettled schema equation ss (working_of old) blocks) leaves
        (subst (λ (ms : List LeafMap). IsSettled schema equation (specs_of (places_in new)) ms
        blocks) (kept ∙ just.kept_is)
        (closed (record {
          magic = subst (λ (h : Head). HasMagic h.base.blocks (get_or h.base.head 0 [])) (sym same)
              head.magic;
          texts = subst (λ (h : Head). AreTexts schema equation h.base.head) (sym same) head.texts;
          leaves = λ i. specs_of (places_in new);
        }) (still (just.was_whole whole))))

  -- While what is stored stays, and no commit has failed, the same is read from the blocks, whether
  -- the leaves are whole or not.
  pub alike_still : (old new : Journal M g) → IsTrue g.tells
      → g.size old.device ≡ length (content_of old).now.blocks
      → g.size new.device ≡ length (content_of new).now.blocks
      → IsSteady old → IsSteady new → ground_of new ≡ ground_of old
      → kept_sheets new ≡ kept_sheets old
      → ReadAlike (content_of old).now.blocks (content_of new).now.blocks
  alike_still old new told before after steady_old steady_new ground sheets =
      let blocks = (content_of old).now.blocks in
      let room = old.room in
      let size = ap (λ (b : Ground). b.blocks) ground in
      let fits : head_blocks (length blocks) ≤ length blocks =
      omega (arith, room, before, ap bitmap_blocks before) in
      let still = new.room in
      recovered_alike g.tells (size_of new) (content_of old) (content_of new) told (sym after ∙ size
      ∙ before) (omega (arith, still, after, ap bitmap_blocks after))
      (ap (λ (b : Ground). b.head) ground ∙ ap (λ (b : Bool). head_told b (content_of old)) told)
      (new.count ∙ ap pages_of after) (new.closed told steady_new)
      (ap (λ (s : Sheets). s.bytes) sheets
      ∙ homes_are g.tells (size_of old) (content_of old) told (old.count ∙ ap pages_of before)
      ∙ home_replayed blocks fits (old.closed told steady_old))

module _ {M : Type 0} {g : device.Ghosts M} {v : page_view.Ghosts (Paged M g)} (schema equation : List ℕ)
    (specs : List LeafSpec) (old : Content) where
  -- what leaves have that were opened, fact by fact
  pub opened_all : (r : Result (PagedLeaves (Paged M g) v) (M × Unopened))
      → IfOk r (λ s. IsJustOpened s)
      → OnOk r (AreOpened schema equation specs old.now.blocks)
      → IfOk r (λ s. IsHeadOf schema equation specs (head_of s))
      → IfOk r (λ s. ground_of (journal_of (pages_in s)) ≡ ground_on old.now.blocks)
      → IfOk r (λ s. IsWhole s
      → IsSettled schema equation specs (working_of s) (g.content (machine_of s)).now.blocks)
      → IfOk r (λ s. IsCalm (journal_of (pages_in s)) (content_of (journal_of (pages_in s))))
      → EachImage (IsReplayed old.now) (g.content (machine_left r)).now
      → NonePending (g.content (machine_left r)) → IsFirstOf old (g.content (machine_left r))
      → IfOk r (λ s. IsStoreOn schema equation specs old s)
  opened_all (Ok s) just opened head ground settled calm replayed none first = record {
    just_opened = just;
    opened = opened;
    head = head;
    ground = ground;
    settled = settled;
    calm = calm;
    replayed = replayed;
    none_pending = none;
    first = first;
  }
  opened_all (Err e) just opened head ground settled calm replayed none first = tt

  -- and a refusal after recovery was carried through
  pub left_all : (r : Result (PagedLeaves (Paged M g) v) (M × Unopened)) (head : List (List ℕ))
      → IfErr r (λ e. AreUnread schema equation head e.1)
      → is_open (block_of (g.content (machine_left r)).now 1) ≡ false
      → NonePending (g.content (machine_left r))
      → EachImage (IsReplayed old.now) (g.content (machine_left r)).now
      → IfErr r (λ e. IsLeftBy old (g.content e.0) e.1)
  left_all (Ok s) head unread gate none replayed = tt
  left_all (Err e) head unread gate none replayed =
      left_why (g.content e.0) e.1 head unread gate none replayed
    where
      left_why : (new : Content) (why : Unopened) (head : List (List ℕ))
          → AreUnread schema equation head why → is_open (block_of new.now 1) ≡ false
          → NonePending new → EachImage (IsReplayed old.now) new.now → IsLeftBy old new why
      left_why new (unopened.OtherTexts place) head is gate none replayed = (gate, none, replayed)
      left_why new unopened.Fault head is gate none replayed = tt
      left_why new unopened.NoMemory head is gate none replayed = tt
      left_why new unopened.Missing head is gate none replayed = tt
      left_why new unopened.Exists head is gate none replayed = tt
      left_why new unopened.Size head is gate none replayed = absurd is
      left_why new unopened.NoDatabase head is gate none replayed = absurd is

-- a journal that wasn't opened
pub unjournaled : (old new : Content) (why : NoJournal)
    → (why ≡ journal.NoDatabase → IsUnwritten old new × NonePending new)
    → IsLeftBy old new (no_journal why)
unjournaled old new journal.Fault none = tt
unjournaled old new journal.NoMemory none = tt
unjournaled old new journal.NoDatabase none = none refl
