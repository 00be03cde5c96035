use Rattle.std.proofs.Common.{◌≡◌, ◌∙◌, inl, inr, ℕ, Bool, true, not, List, [], length, get_or, refl, sym, ap, subst, arith}
use Rattle.std.specs.Prelude.{IfOk, OnOk}
use Rattle.std.proofs.lemmas.Result.{IfOk-weaker, IfErr-weaker, on_ok_weaker}
use Rattle.gx_device.specs.Content.{Moment, is_pending}
use Rattle.gx_device.specs.Crash.{EachImage}
use Rattle.gx_device.proofs.RunLemmas.{joined}
use Rattle.gx_layout.specs.Layout.{pages_of, is_open}
use Rattle.gx_layout.specs.Head.{HasMagic}
use Rattle.gx_layout.proofs.BlockLemmas.{silent_twice}
use Rattle.gx_journal.specs.State.{head_told}
use Rattle.gx_journal.specs.Journal.{size_of, kept_head, kept_of, content_of}
use Rattle.gx_journal.specs.Opening.{IsDeviceSize}
use Rattle.gx_leaves.specs.Paged as leaves
use Rattle.gx_leaves.specs.Places.{specs_of}
use Rattle.gx_pages.specs.Paged.{ground_of, kept_sheets}
use Rattle.gx_pages.specs.View.{journal_of}
use Rattle.gx_store.specs.Device.{IsSize, AreTexts, IsHeadOf, IsSettled, ground_on}
use Rattle.gx_store.specs.Store.{IsJustOpened, machine_of, machine_left, is_fault}
use Rattle.gx_store.specs.Opening.{AreOpened}
use Rattle.gx_store.specs.Crashes.{IsOpeningImage, IsLeftBy}
use Rattle.gx_store.proofs.HeldLemmas.{maps_opened, ground_same, if_ok_both}
use Rattle.gx_store.proofs.JournalLemmas.{journal_settled, maps_placed}
use Rattle.gx_store.proofs.SettledLemmas.{sized_device, rooms}
use Rattle.gx_store.proofs.CauseLemmas.{counted_after, sized_by, unread_on}
use Rattle.gx_store.proofs.AlikeLemmas.{alike_itself, unwritten_by, recovery_itself, recovery_of, recovery_then, headed}
use Rattle.gx_store.proofs.CrashLemmas.{reads_image, reached_once, recovered_then, recovers_alike, recovers_reached, opening_images, opening_none, opening_then, read_replayed}
use Rattle.gx_store.proofs.OpenedLemmas.{opened_all, left_all, unjournaled}
use Rattle.gx_store.proofs.opening.open_attached.Goals as goal

pub returns-in-Ok-clause-holds : goal.returns-in-Ok-clause-holds
returns-in-Ok-clause-holds g c = λ told maps is.
    let blocks = (g.M.Device.content c.args.machine).now.blocks in
    let j = c.in-Ok.journal in
    c.open_journal.ensures.holds told c.in-Ok.ensures.recovered.opened.working c.in-Ok.ensures.recovered.opened.steady maps
    (maps_opened blocks c.args.specs.now maps (size_of j) (g.M.Device.size j.device) (kept_head j)
    (kept_of j)
    (c.in-Ok.ensures.recovered.opened.size ∙ ap pages_of (g.met.M.Device.sized c.args.machine told))
    (c.in-Ok.ensures.opens.blocks ∙ g.met.M.Device.sized c.args.machine told)
    (c.in-Ok.ensures.recovered.head ∙ ap (λ (b : Bool). head_told b (g.M.Device.content c.args.machine)) told)
    (c.in-Ok.ensures.recovered.kept told) is.leaves)

pub returns-in-Ok-clause-silent : goal.returns-in-Ok-clause-silent
returns-in-Ok-clause-silent g c =
    silent_twice _ (content_of c.in-Ok.journal) _ c.in-Ok.ensures.opens.silent
    c.open_journal.ensures.read.silent

pub returns-in-Ok-clause-faults : goal.returns-in-Ok-clause-faults
returns-in-Ok-clause-faults g c =
    counted_after _ _ _ _ (c.in-Ok.ensures.opens.faults.same refl) c.open_journal.ensures.faults

pub returns-in-Ok-clause-unopened : goal.returns-in-Ok-clause-unopened
returns-in-Ok-clause-unopened g c = λ told.
    let old = g.M.Device.content c.args.machine in
    IfErr-weaker c.open_journal.result _ _
    (λ e is. unread_on c.args.schema.now c.args.equation.now c.args.specs.now old.now.blocks
    (kept_head c.in-Ok.journal) e.1
    (sized_by c.args.specs.now (length old.now.blocks) (g.M.Device.size c.args.machine)
    c.blocks-2.result c.is_size.result
    (g.met.M.Device.sized c.args.machine told) c.blocks-2.ensures.count c.is_size.ensures
    c.if-not-is_size.false)
    (subst (λ (n : ℕ). HasMagic n (get_or old.now.blocks 0 [])) (g.met.M.Device.sized c.args.machine told)
    (c.in-Ok.ensures.recovered.magic told))
    (c.in-Ok.ensures.recovered.head ∙ ap (λ (b : Bool). head_told b old) told) is)
    (c.open_journal.ensures.other told)

pub returns-in-Ok-clause-opened : goal.returns-in-Ok-clause-opened
returns-in-Ok-clause-opened g c = λ told.
    let schema = c.args.schema.now in
    let equation = c.args.equation.now in
    let specs = c.args.specs.now in
    let old = g.M.Device.content c.args.machine in
    let j = c.in-Ok.journal in
    let r = c.open_journal.result in
    let before = g.met.M.Device.sized c.args.machine told in
    let after = g.met.M.Device.sized j.device told in
    let head = c.in-Ok.ensures.recovered.head ∙ ap (λ (b : Bool). head_told b old) told in
    let opened : OnOk r (AreOpened schema equation specs old.now.blocks) =
    on_ok_weaker r
    (λ texts. record {
      size = sized_by specs (length old.now.blocks) (g.M.Device.size c.args.machine)
          c.blocks-2.result c.is_size.result before c.blocks-2.ensures.count c.is_size.ensures
          c.if-not-is_size.false;
      magic = subst (λ (n : ℕ). HasMagic n (get_or old.now.blocks 0 [])) before
          (c.in-Ok.ensures.recovered.magic told);
      texts = subst (λ (h : List (List ℕ)). AreTexts schema equation h) head texts;
    })
    (c.open_journal.ensures.texts told) in
    let ground : IfOk r (λ s. ground_of (journal_of (leaves.pages_of s))
    ≡ ground_on old.now.blocks) =
    IfOk-weaker r _ _
    (λ s is. is.ground ∙ sym (ground_same old.now.blocks (size_of j) (g.M.Device.size j.device)
    (kept_head j)
    (c.in-Ok.ensures.recovered.opened.size ∙ ap pages_of before)
    (c.in-Ok.ensures.opens.blocks ∙ before) head))
    c.open_journal.ensures.adopted in
    let heads : IfOk r (λ s. IsHeadOf schema equation specs (leaves.head_of s)) =
    headed r (λ s. leaves.head_of s) schema equation specs old.now.blocks opened
    ground
    (IfOk-weaker r _ _ (λ s is. is.specs_are) c.open_journal.ensures.adopted) in
    let just = c.open_journal.ensures.just_opened c.in-Ok.ensures.recovered.opened.working c.in-Ok.ensures.recovered.opened.steady in
    let reads = read_replayed old j (machine_left r) (sym after ∙ c.in-Ok.ensures.opens.blocks ∙ before)
    (c.in-Ok.ensures.recovered.kept told)
    (sym (ap (λ (b : Bool). head_told b (content_of j)) told) ∙ head)
    c.in-Ok.ensures.opens.silent (c.in-Ok.ensures.recovered.opened.calm told)
    c.open_journal.ensures.read in
    opened_all schema equation specs old r just opened heads ground
    (if_ok_both r (λ s. IsJustOpened s)
    (λ s. IsHeadOf schema equation specs (leaves.head_of s))
    (λ s. leaves.IsWhole s → IsSettled schema equation specs (leaves.working_of s)
    (g.M.Device.content (machine_of s)).now.blocks)
    (λ s was of whole.
    let k = journal_of (leaves.pages_of s) in
    subst (λ ks. IsSettled schema equation ks (leaves.working_of s) (content_of k).now.blocks)
    of.leaves
    (subst (λ maps. IsSettled schema equation (specs_of (leaves.places_in s)) maps
    (content_of k).now.blocks) was.kept_is
    (journal_settled k told (g.met.M.Device.sized k.device told) was.steady schema equation
    (specs_of (leaves.places_in s))
    (leaves.kept_of s) of.magic of.texts
    s.laid_out.room.room
    (maps_placed (ground_of k) (leaves.places_in s) (kept_sheets k) s.laid_out.places_are
    (was.was_whole whole).laid))))
    just heads)
    (IfOk-weaker r _ _ (λ s is. is.calm (c.in-Ok.ensures.recovered.opened.calm told))
    c.open_journal.ensures.adopted)
    reads.now
    (λ n. ap (λ (m : Moment). is_pending m n) c.open_journal.ensures.read.now
    ∙ c.in-Ok.ensures.recovered.opened.none_pending told n)
    (recovered_then old (content_of j) (g.M.Device.content (machine_left r))
    (c.in-Ok.ensures.images told) (c.in-Ok.ensures.recovered.opened.none_pending told)
    reads.between reads.past)

pub returns-in-Ok-clause-left : goal.returns-in-Ok-clause-left
returns-in-Ok-clause-left g c = λ told.
    let old = g.M.Device.content c.args.machine in
    let j = c.in-Ok.journal in
    let r = c.open_journal.result in
    let last = g.M.Device.content (machine_left r) in
    let before = g.met.M.Device.sized c.args.machine told in
    let after = g.met.M.Device.sized j.device told in
    let count = sym after ∙ c.in-Ok.ensures.opens.blocks ∙ before in
    let head = c.in-Ok.ensures.recovered.head ∙ ap (λ (b : Bool). head_told b old) told in
    let gate = j.closed told c.in-Ok.ensures.recovered.opened.steady in
    let now = c.open_journal.ensures.read.now in
    let same = ap (λ (m : Moment). m.blocks) now in
    let reads = read_replayed old j (machine_left r) count (c.in-Ok.ensures.recovered.kept told)
    (sym (ap (λ (b : Bool). head_told b (content_of j)) told) ∙ head) c.in-Ok.ensures.opens.silent
    (c.in-Ok.ensures.recovered.opened.calm told) c.open_journal.ensures.read in
    record {
      kept = (reads.now _ (reads_image last.now)).alike;
      reached = inl (recovered_then old (content_of j) last (c.in-Ok.ensures.images told)
          (c.in-Ok.ensures.recovered.opened.none_pending told) reads.between reads.past);
      images = joined (EachImage (IsOpeningImage old.now)) old (content_of j) last
          (opening_images old (content_of j) (c.in-Ok.ensures.images told))
          (opening_then old (content_of j) last reads);
      recovered = recovery_then old.now.blocks (content_of j).now.blocks last.now.blocks
          (recovery_of (g.M.Device.size c.args.machine) old (content_of j) before
          (c.in-Ok.ensures.touched told)) same;
      no_database = λ goes none. absurd (none (record {
        size = sized_by c.args.specs.now (length old.now.blocks) (g.M.Device.size c.args.machine)
            c.blocks-2.result c.is_size.result before c.blocks-2.ensures.count c.is_size.ensures
            c.if-not-is_size.false;
        magic = subst (λ (n : ℕ). HasMagic n (get_or old.now.blocks 0 [])) before
            (c.in-Ok.ensures.recovered.magic told);
      }));
      refused = left_all c.args.schema.now c.args.equation.now c.args.specs.now old r
          (kept_head j) (c.open_journal.ensures.other told)
          (ap (λ (bs : List (List ℕ)). is_open (get_or bs 1 [])) same ∙ gate)
          (λ n. ap (λ (m : Moment). is_pending m n) now
          ∙ c.in-Ok.ensures.recovered.opened.none_pending told n) reads.now;
    }

pub returns-in-Err-clause-left : goal.returns-in-Err-clause-left
returns-in-Err-clause-left g c = λ told.
    let old = g.M.Device.content c.args.machine in
    let new = g.M.Device.content c.in-Err.machine in
    record {
      kept = recovers_alike old new (c.in-Err.ensures.images told);
      reached = recovers_reached old new (c.in-Err.ensures.images told);
      images = opening_images old new (c.in-Err.ensures.images told);
      recovered = recovery_of (g.M.Device.size c.args.machine) old new
          (g.met.M.Device.sized c.args.machine told) (c.in-Err.ensures.touched told);
      no_database = λ goes none. unwritten_by c.in-Err.why old.now.blocks new.now.blocks
          (λ e. (c.in-Err.ensures.unrecovered.unwritten e).blocks) (λ e. ap (λ d. (g.M.Device.content d).now.blocks)
          (c.in-Err.ensures.unrecovered.uncalled e))
          (subst (λ w. not (is_fault w) ≡ true) c.into.ensures goes);
      refused = subst (λ w. IsLeftBy old new w) (sym c.into.ensures)
          (unjournaled old new c.in-Err.why
          (λ e. (
            c.in-Err.ensures.unrecovered.unwritten e,
            c.in-Err.ensures.unrecovered.none_pending
                told e,
          )));
    }

pub returns-then-not-is_size-clause-left : goal.returns-then-not-is_size-clause-left
returns-then-not-is_size-clause-left g c = λ told.
    let old = g.M.Device.content c.args.machine in
    record {
      kept = alike_itself old.now.blocks;
      reached = reached_once old old (inr refl);
      images = opening_none old;
      recovered = recovery_itself old.now.blocks;
      no_database = λ goes none. refl;
      refused = refl;
    }

pub recover-requires : goal.recover-requires
recover-requires g c =
    let size = c.is_size.ensures.0 c.if-not-is_size.false in
    let asked = c.blocks-2.ensures.count in
    record {
      frames = record { least = omega arith; most = omega arith };
      blocks = subst (λ (n : ℕ). IsDeviceSize n) asked
          (sized_device c.args.specs.now _ size);
    }

pub open_journal-requires-clause-room : goal.open_journal-requires-clause-room
open_journal-requires-clause-room g c =
    let j = c.in-Ok.journal in
    let asked = c.blocks-2.ensures.count in
    let blocks = c.in-Ok.ensures.opens.blocks in
    record {
      few = c.requires.few;
      room = rooms c.args.specs.now (g.M.Device.size j.device) (size_of j)
          c.requires.few c.requires.built
          (subst (λ (n : ℕ). IsSize c.args.specs.now n) (asked ∙ sym blocks)
          (c.is_size.ensures.0 c.if-not-is_size.false))
          (c.in-Ok.ensures.recovered.opened.size ∙ ap pages_of (sym blocks));
      built = c.requires.built;
    }
