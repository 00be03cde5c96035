-- What opening a device by its name leaves.
use Rattle.std.proofs.Common.{◌≡◌, ◌∙◌, inr, ℕ, false, true, List, Some, None, Result, Ok, Err, refl, sym, ap, subst}
use Rattle.std.specs.Prelude.{IfOk, IfErr}
use Rattle.gx_device.specs.declared.device.Device as device
use Rattle.gx_device.specs.Content.{Content, Ticks, IsOpened, Silent, device_at}
use Rattle.gx_device.specs.Crash.{LeavesOnly}
use Rattle.gx_device.specs.declared.device.AttachStop.{AttachStop}
use Rattle.gx_device.specs.declared.device.AttachStop.TheVariants as attach
use Rattle.gx_ports.specs.declared.kinds.LeafSpec.{LeafSpec}
use Rattle.gx_ports.specs.declared.page_view.PageView as page_view
use Rattle.gx_pages.specs.declared.paged.Paged.{Paged}
use Rattle.gx_leaves.specs.declared.paged.PagedLeaves.{PagedLeaves}
use Rattle.gx_store.specs.Causes.{not_attached}
use Rattle.gx_store.specs.Device.{ReadAlike}
use Rattle.gx_store.specs.Opening.{AreUnopened, HaveDatabase, IsRecoveryOf, is_untouched}
use Rattle.gx_store.specs.Crashes.{Unattached, Opens, IsReached, IsOpeningImage, IsLeftBy, RefusesBy}
use Rattle.gx_store.specs.Opened.{IsStoreOn, IsStoreOf, LeavesOpened, LeavesNamed}
use Rattle.gx_store.specs.Store.{machine_left}
use Rattle.gx_store.specs.declared.unopened.Unopened.{Unopened}
use Rattle.gx_store.specs.declared.unopened.Unopened.TheVariants as unopened
use Rattle.gx_store.proofs.ShelfLemmas.{attached_at, attached_named, attached_rest, silent_itself}
use Rattle.gx_store.proofs.AttachLemmas.{attached_blocks, left_alone}
use Rattle.gx_store.proofs.CrashLemmas.{attached_now}

-- a refusal of the machine
pub unattached_by : (stop : AttachStop) (name : List ℕ) (old new : Content)
    → (stop ≡ attach.Exists → ⊥) → Unattached old new → RefusesBy name old new (not_attached stop)
unattached_by attach.Missing name old new exists same = same
unattached_by attach.Exists name old new exists same = absurd (exists refl)
unattached_by attach.Fault name old new exists same = tt
unattached_by attach.NoMemory name old new exists same = tt

module _ (name : List ℕ) (old mid new : Content) (o : IsOpened name old mid)
    (time : Ticks old mid) (silent : Silent mid new) where
  -- a device that was there was attached, and no other since
  pub opens_named : IsReached mid new → LeavesOnly (IsOpeningImage mid.now) mid new
      → Opens name old new
  opens_named reached images = record {
    middle = mid;
    attached = attached_now name old mid time o.attached.named
        (attached_rest name o.blocks old mid mid o.attached (silent_itself mid));
    was = o.was ∙ ap (λ (bs : List (List ℕ)). Some bs) (sym o.attached.blocks_are);
    reached = reached;
    named = attached_named name o.blocks old mid new o.attached silent;
    images = images;
  }

  -- a refusal of the attached device
  pub refused_named : (schema equation : List ℕ) (specs : List LeafSpec) (why : Unopened)
      → AreUnopened schema equation specs mid.now.blocks why
      → IsReached mid new → LeavesOnly (IsOpeningImage mid.now) mid new → IsLeftBy mid new why
      → RefusesBy name old new why
  unfolding opens_named
  refused_named schema equation specs unopened.Missing un reached images is = absurd un
  refused_named schema equation specs unopened.Exists un reached images is = un
  refused_named schema equation specs unopened.Fault un reached images is = tt
  refused_named schema equation specs unopened.NoMemory un reached images is = tt
  refused_named schema equation specs unopened.Size un reached images is = (opens_named reached images, is)
  refused_named schema equation specs unopened.NoDatabase un reached images is = (opens_named reached images, is)
  refused_named schema equation specs (unopened.OtherTexts place) un reached images is =
      (opens_named reached images, is)

  -- where no block was written
  untouched_named : (schema equation : List ℕ) (specs : List LeafSpec) (why : Unopened)
      → AreUnopened schema equation specs mid.now.blocks why → IsLeftBy mid new why
      → is_untouched why ≡ true → device_at new.now name ≡ device_at old.now name
  untouched_named schema equation specs unopened.Missing un is so = absurd un
  untouched_named schema equation specs unopened.Exists un is so = absurd un
  untouched_named schema equation specs unopened.Fault un is so = absurd (let f : false ≡ true = so in cc)
  untouched_named schema equation specs unopened.NoMemory un is so =
      absurd (let f : false ≡ true = so in cc)
  untouched_named schema equation specs unopened.Size un is so =
      left_alone name old mid new o silent (ap (λ (c : Content). c.now.blocks) is)
  untouched_named schema equation specs unopened.NoDatabase un is so =
      left_alone name old mid new o silent is.0.blocks
  untouched_named schema equation specs (unopened.OtherTexts place) un is so =
      absurd (let f : false ≡ true = so in cc)

module _ {M : Type 0} {g : device.Ghosts M} {v : page_view.Ghosts (Paged M g)}
    (name schema equation : List ℕ) (specs : List LeafSpec) (old : Content) where
  pub opened_by : (r : Result (PagedLeaves (Paged M g) v) (M × Unopened)) (mid : Content)
      → IsOpened name old mid → Ticks old mid → Silent mid (g.content (machine_left r))
      → IsReached mid (g.content (machine_left r))
      → LeavesOnly (IsOpeningImage mid.now) mid (g.content (machine_left r))
      → IfOk r (λ s. IsStoreOn schema equation specs mid s)
      → IfOk r (λ s. IsStoreOf name schema equation specs old s)
  unfolding opens_named
  opened_by (Ok s) mid o time silent reached images is =
      record { opens = opens_named name old mid _ o time silent reached images; is = is }
  opened_by (Err e) mid o time silent reached images is = tt

  err_named : (mid : Content) → IsOpened name old mid → Ticks old mid
      → (r : Result (PagedLeaves (Paged M g) v) (M × Unopened))
      → Silent mid (g.content (machine_left r))
      → IsReached mid (g.content (machine_left r))
      → LeavesOnly (IsOpeningImage mid.now) mid (g.content (machine_left r))
      → IfErr r (λ e. AreUnopened schema equation specs mid.now.blocks e.1)
      → IfErr r (λ e. IsLeftBy mid (g.content e.0) e.1)
      → IfErr r (λ e. RefusesBy name old (g.content e.0) e.1)
  err_named mid o time (Ok s) silent reached images un is = tt
  err_named mid o time (Err e) silent reached images un is =
      refused_named name old mid (g.content e.0) o time silent schema equation specs e.1 un reached
      images is

  err_untouched : (mid : Content) → IsOpened name old mid → Ticks old mid
      → (r : Result (PagedLeaves (Paged M g) v) (M × Unopened))
      → Silent mid (g.content (machine_left r))
      → IfErr r (λ e. AreUnopened schema equation specs mid.now.blocks e.1)
      → IfErr r (λ e. IsLeftBy mid (g.content e.0) e.1)
      → IfErr r (λ e. is_untouched e.1 ≡ true
      → device_at (g.content e.0).now name ≡ device_at old.now name)
  err_untouched mid o time (Ok s) silent un is = tt
  err_untouched mid o time (Err e) silent un is =
      untouched_named name old mid (g.content e.0) o time silent schema equation specs e.1 un is

  pub left_named : (mid : Content) (o : IsOpened name old mid)
      (r : Result (PagedLeaves (Paged M g) v) (M × Unopened)) → Ticks old mid
      → Silent mid (g.content (machine_left r))
      → IfErr r (λ e. AreUnopened schema equation specs mid.now.blocks e.1)
      → LeavesOpened specs mid r → LeavesNamed name specs old r
  left_named mid o r time silent un left =
      let last = g.content (machine_left r) in
      let at : device_at last.now name ≡ Some last.now.blocks =
      attached_at name o.blocks old mid last o.attached silent in
      record {
        kept = λ blocks was. (
          last.now.blocks,
          at,
          subst (λ (bs : List (List ℕ)). ReadAlike bs last.now.blocks)
              (sym (attached_blocks name blocks old mid was o)) left.kept,
        );
        recovered = λ blocks was. (
          last.now.blocks,
          at,
          subst (λ (bs : List (List ℕ)). IsRecoveryOf bs last.now.blocks)
              (sym (attached_blocks name blocks old mid was o)) left.recovered,
        );
        no_database = λ goes blocks was none.
            let same = attached_blocks name blocks old mid was o in
            at ∙ ap (λ (bs : List (List ℕ)). Some bs) (left.no_database goes
            (subst (λ (bs : List (List ℕ)). ¬ HaveDatabase specs bs) same none) ∙ sym same);
        absent = λ none.
            absurd (let wrong : ◌≡◌ {A = _} None (Some o.blocks) = sym none ∙ o.was in cc);
        untouched = err_untouched mid o time r silent un left.refused;
        crash = inr (opens_named name old mid last o time silent left.reached left.images);
        refused = err_named mid o time r silent left.reached left.images un left.refused;
      }
