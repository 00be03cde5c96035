-- What leaves that were opened have, and what opening leaves of the device.
use Rattle.std.specs.Prelude.{◌≡◌, ◌⊎◌, ℕ, true, List, Some, None, Result, IfErr}
use Rattle.gx_device.specs.declared.device.Device as device
use Rattle.gx_device.specs.Content.{Content, NonePending, Silent, device_at}
use Rattle.gx_device.specs.Crash.{EachImage, LeavesOnly}
use Rattle.gx_layout.specs.Layout.{StandsFor}
use Rattle.gx_layout.specs.Recovered.{view_now}
use Rattle.gx_ports.specs.declared.page_view.PageView as page_view
use Rattle.gx_ports.specs.declared.kinds.LeafSpec.{LeafSpec}
use Rattle.gx_journal.specs.declared.journal.Journal.{Journal}
use Rattle.gx_journal.specs.Journal.{IsCalm, content_of, kept_of}
use Rattle.gx_pages.specs.declared.paged.Paged.{Paged}
use Rattle.gx_pages.specs.View.{journal_of}
use Rattle.gx_pages.specs.Paged.{ground_of}
use Rattle.gx_leaves.specs.declared.paged.PagedLeaves.{PagedLeaves}
use Rattle.gx_leaves.specs.Paged.{pages_of, places_in, working_of, head_of, IsWhole}
use Rattle.gx_leaves.specs.Places.{specs_of}
use Rattle.gx_store.specs.Device.{IsHeadOf, IsSettled, ReadAlike, ground_on}
use Rattle.gx_store.specs.Store.{OfBlocks, IsJustOpened, machine_of, machine_left, goes_on}
use Rattle.gx_store.specs.Opening.{AreOpened, HaveDatabase, IsRecoveryOf, is_untouched}
use Rattle.gx_store.specs.Crashes.{Unattached, Opens, IsFirstOf, IsReached, IsReplayed, IsOpeningImage, IsLeftBy, RefusesBy}
use Rattle.gx_store.specs.declared.unopened.Unopened.{Unopened}

module _ {M : Type 0} {g : device.Ghosts M} where
  -- the device of a journal that was only read since
  pub record IsOnlyRead (j : Journal M g) (m : M) : Type 0 where
    pub now : (g.content m).now ≡ (content_of j).now
    pub images : IsCalm j (content_of j)
        → LeavesOnly (StandsFor (view_now (kept_of j) (content_of j))) (content_of j) (g.content m)
    pub silent : Silent (content_of j) (g.content m)

  module _ {v : page_view.Ghosts (Paged M g)} where
    -- leaves of these kinds over a journal that was only read since
    pub record IsAdopted (specs : List LeafSpec) (j : Journal M g)
        (s : PagedLeaves (Paged M g) v) : Type 0 where
      pub specs_are : specs_of (places_in s) ≡ specs
      pub ground : ground_of (journal_of (pages_of s)) ≡ ground_of j
      pub calm : IsCalm j (content_of j)
          → IsCalm (journal_of (pages_of s)) (content_of (journal_of (pages_of s)))

    -- Leaves were opened on what a device held. They hold what they held at the last commit, no
    -- crash leaves anything else, and nothing is pending.
    pub record IsStoreOn (schema equation : List ℕ) (specs : List LeafSpec) (old : Content)
        (s : PagedLeaves (Paged M g) v) : Type 0 where
      pub just_opened : IsJustOpened s
      pub opened : AreOpened schema equation specs old.now.blocks
      pub head : IsHeadOf schema equation specs (head_of s)
      pub ground : ground_of (journal_of (pages_of s)) ≡ ground_on old.now.blocks
      pub settled : IsWhole s
          → IsSettled schema equation specs (working_of s) (g.content (machine_of s)).now.blocks
      pub calm : IsCalm (journal_of (pages_of s)) (content_of (journal_of (pages_of s)))
      pub replayed : EachImage (IsReplayed old.now) (g.content (machine_of s)).now
      pub none_pending : NonePending (g.content (machine_of s))
      pub first : IsFirstOf old (g.content (machine_of s))

    -- the same of a device that was attached by its name
    pub record IsStoreOf (name schema equation : List ℕ) (specs : List LeafSpec) (old : Content)
        (s : PagedLeaves (Paged M g) v) : Type 0 where
      pub opens : Opens name old (g.content (machine_of s))
      pub is : IsStoreOn schema equation specs opens.middle s

    -- what opening leaves of the device that is attached, with that answer
    pub record LeavesOpened (specs : List LeafSpec) (old : Content)
        (result : Result (PagedLeaves (Paged M g) v) (M × Unopened)) : Type 0 where
      pub kept : ReadAlike old.now.blocks (g.content (machine_left result)).now.blocks
      pub reached : IsReached old (g.content (machine_left result))
      pub images : LeavesOnly (IsOpeningImage old.now) old (g.content (machine_left result))
      pub recovered : IsRecoveryOf old.now.blocks (g.content (machine_left result)).now.blocks
      pub no_database : goes_on result ≡ true → ¬ HaveDatabase specs old.now.blocks
          → (g.content (machine_left result)).now.blocks ≡ old.now.blocks
      pub refused : IfErr result (λ e. IsLeftBy old (g.content e.0) e.1)

    -- The same of a device by its name. The crash is told whatever the answer is, and what a
    -- refusal adds beside it.
    pub record LeavesNamed (name : List ℕ) (specs : List LeafSpec) (old : Content)
        (result : Result (PagedLeaves (Paged M g) v) (M × Unopened)) : Type 0 where
      pub kept : (blocks : List (List ℕ)) → device_at old.now name ≡ Some blocks
          → OfBlocks name (g.content (machine_left result)) (ReadAlike blocks)
      pub recovered : (blocks : List (List ℕ)) → device_at old.now name ≡ Some blocks
          → OfBlocks name (g.content (machine_left result)) (IsRecoveryOf blocks)
      pub no_database : goes_on result ≡ true → (blocks : List (List ℕ))
          → device_at old.now name ≡ Some blocks → ¬ HaveDatabase specs blocks
          → device_at (g.content (machine_left result)).now name ≡ Some blocks
      pub absent : device_at old.now name ≡ None
          → device_at (g.content (machine_left result)).now name ≡ None
      pub untouched : IfErr result (λ e. is_untouched e.1 ≡ true
          → device_at (g.content e.0).now name ≡ device_at old.now name)
      pub crash : Unattached old (g.content (machine_left result))
          ⊎ Opens name old (g.content (machine_left result))
      pub refused : IfErr result (λ e. RefusesBy name old (g.content e.0) e.1)
