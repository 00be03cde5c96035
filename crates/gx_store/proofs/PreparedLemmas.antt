-- What preparing leaves on a device by its name leaves.
use Rattle.std.proofs.Common.{◌≡◌, ◌∙◌, inl, inr, ℕ, true, List, [], Some, None, Result, Ok, Err, length, get_or, sym, ap, subst}
use Rattle.std.specs.Prelude.{replicate, IfOk, IfErr}
use Rattle.std.proofs.lemmas.List.{length-replicate}
use Rattle.std.proofs.lemmas.Option.{same_Some}
use Rattle.gx_device.specs.declared.device.Device as device
use Rattle.gx_device.specs.Content.{Content, Ticks, IsMade, Silent, block_of, device_at, zero_blocks}
use Rattle.gx_device.specs.Crash.{LeavesOnly}
use Rattle.gx_layout.specs.Head.{HasMagic}
use Rattle.gx_ports.specs.declared.kinds.LeafSpec.{LeafSpec}
use Rattle.gx_ports.specs.declared.page_view.PageView as page_view
use Rattle.gx_pages.specs.declared.paged.Paged.{Paged}
use Rattle.gx_leaves.specs.declared.paged.PagedLeaves.{PagedLeaves}
use Rattle.gx_store.specs.Device.{IsSize}
use Rattle.gx_store.specs.Store.{machine_left}
use Rattle.gx_store.specs.Opening.{is_untouched}
use Rattle.gx_store.specs.Making.{IsUnmadeOn, IsPrepared, IsPreparedBy, LeavesPreparing}
use Rattle.gx_store.specs.Crashes.{Unattached, HasNoMagic, Prepares, UnmakesBy}
use Rattle.gx_store.specs.declared.unopened.Unopened.{Unopened}
use Rattle.gx_store.specs.declared.unopened.Unopened.TheVariants as unopened
use Rattle.gx_store.proofs.CrashLemmas.{attached_now, reads_image}
use Rattle.gx_store.proofs.MakeLemmas.{none_made, unmade_touched}
use Rattle.gx_store.proofs.ShelfLemmas.{attached_at, attached_named, attached_rest, silent_itself}

-- where nothing was made
pub unmade_same : (old new : Content) → Unattached old new → (why : Unopened)
    → UnmakesBy old new why
unmade_same old new run unopened.Size = run
unmade_same old new run unopened.Exists = run
unmade_same old new run unopened.Missing = tt
unmade_same old new run unopened.NoDatabase = tt
unmade_same old new run (unopened.OtherTexts place) = tt
unmade_same old new run unopened.Fault = tt
unmade_same old new run unopened.NoMemory = tt

-- a refusal on a device of a right size
unmakes_by : (old new : Content) (specs : List LeafSpec) (size : ℕ) (why : Unopened)
    → IsUnmadeOn specs size why → IsSize specs size → UnmakesBy old new why
unmakes_by old new specs size unopened.Size are fits = absurd (are fits)
unmakes_by old new specs size unopened.Exists are fits = absurd are
unmakes_by old new specs size unopened.Missing are fits = tt
unmakes_by old new specs size unopened.NoDatabase are fits = tt
unmakes_by old new specs size (unopened.OtherTexts place) are fits = tt
unmakes_by old new specs size unopened.Fault are fits = tt
unmakes_by old new specs size unopened.NoMemory are fits = tt

module _ (name : List ℕ) (size : ℕ) (old mid : Content) (m : IsMade size name old mid) where
  -- a new device is of zeros
  pub none_new : (many : ℕ) → ¬ HasMagic many (block_of mid.now 0)
  none_new many has = none_made many size
      (subst (λ (bs : List (List ℕ)). HasMagic many (get_or bs 0 [])) m.attached.blocks_are has)

  pub new_count : length mid.now.blocks ≡ size
  new_count = ap (λ (bs : List (List ℕ)). length bs) m.attached.blocks_are
      ∙ length-replicate size (replicate 4096 0)

  -- it was attached, and no database has stood on it since
  pub prepares_named : (specs : List LeafSpec) (new : Content) → IsSize specs size → Ticks old mid
      → Silent mid new → LeavesOnly (HasNoMagic mid.now) mid new → Prepares name size specs old new
  prepares_named specs new fits time silent images = record {
    middle = mid;
    attached = attached_now name old mid time m.attached.named
        (attached_rest name (zero_blocks size) old mid mid m.attached (silent_itself mid));
    fits = fits;
    free = m.free;
    count = new_count;
    none_pending = m.none_pending;
    named = attached_named name (zero_blocks size) old mid new m.attached silent;
    images = images;
  }

module _ {M : Type 0} {g : device.Ghosts M} {v : page_view.Ghosts (Paged M g)}
    (name : List ℕ) (size : ℕ) (specs : List LeafSpec) (old : Content) where
  -- the machine refused to make one
  pub unprepared_same : (m : M) (why : Unopened)
      → device_at (g.content m).now name ≡ device_at old.now name → Unattached old (g.content m)
      → LeavesPreparing {v = v} name size specs old (Err (m, why))
  unprepared_same m why same run = record {
    there = λ blocks was. same ∙ was;
    left = λ none blocks is. absurd (let wrong : ◌≡◌ {A = _} (Some blocks) None = sym is ∙ same
        ∙ none in cc);
    untouched = λ e. same;
    crash = inl run;
    refused = unmade_same old (g.content m) run why;
  }

  module _ (mid : Content) (m : IsMade size name old mid) (fits : IsSize specs size)
      (time : Ticks old mid) (r : Result (PagedLeaves (Paged M g) v) (M × Unopened))
      (silent : Silent mid (g.content (machine_left r)))
      (images : LeavesOnly (HasNoMagic mid.now) mid (g.content (machine_left r))) where
    new_at : device_at (g.content (machine_left r)).now name
        ≡ Some (g.content (machine_left r)).now.blocks
    new_at = attached_at name (zero_blocks size) old mid (g.content (machine_left r)) m.attached silent

    left_new : (blocks : List (List ℕ))
        → device_at (g.content (machine_left r)).now name ≡ Some blocks
        → (length blocks ≡ size) × ¬ HasMagic (length blocks) (get_or blocks 0 [])
    left_new blocks is =
        let last = (g.content (machine_left r)).now in
        let h = images.now _ (reads_image last) in
        subst (λ (bs : List (List ℕ)). (length bs ≡ size) × ¬ HasMagic (length bs) (get_or bs 0 []))
        (same_Some last.blocks blocks (sym new_at ∙ is))
        (h.count ∙ new_count name size old mid m, h.none)

    pub left_preparing : IfErr r (λ e. IsUnmadeOn specs size e.1)
        → LeavesPreparing name size specs old r
    left_preparing un = record {
      there = λ blocks was. absurd (let wrong : ◌≡◌ {A = _} None (Some blocks) = sym m.free
          ∙ was in cc);
      left = λ none blocks is. left_new blocks is;
      untouched = touched r un;
      crash = inr (prepares_named name size old mid m specs _ fits time silent images);
      refused = refused r un;
    }
      where
        touched : (x : Result (PagedLeaves (Paged M g) v) (M × Unopened))
            → IfErr x (λ e. IsUnmadeOn specs size e.1)
            → IfErr x (λ e. is_untouched e.1 ≡ true
            → device_at (g.content e.0).now name ≡ device_at old.now name)
        touched (Ok s) is = tt
        touched (Err e) is = λ so. absurd (unmade_touched specs size e.1 fits is so)

        refused : (x : Result (PagedLeaves (Paged M g) v) (M × Unopened))
            → IfErr x (λ e. IsUnmadeOn specs size e.1)
            → IfErr x (λ e. UnmakesBy old (g.content e.0) e.1)
        refused (Ok s) is = tt
        refused (Err e) is = unmakes_by old (g.content e.0) specs size e.1 is fits

    pub prepared_by : (schema equation : List ℕ) → IfOk r (λ s. IsPrepared schema equation specs s)
        → IfOk r (λ s. IsPreparedBy name size schema equation specs old s)
    prepared_by schema equation is =
        prepared r (prepares_named name size old mid m specs _ fits time silent images) is
      where
        prepared : (x : Result (PagedLeaves (Paged M g) v) (M × Unopened))
            → Prepares name size specs old (g.content (machine_left x))
            → IfOk x (λ s. IsPrepared schema equation specs s)
            → IfOk x (λ s. IsPreparedBy name size schema equation specs old s)
        prepared (Ok s) from is = record { is = is; prepares = from }
        prepared (Err e) from is = tt
