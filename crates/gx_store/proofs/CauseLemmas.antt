-- Causes of refusals, and faults that are counted over several calls.
use Rattle.std.proofs.Common.{◌≡◌, ◌∙◌, ℕ, ◌≤◌, ◌↔◌, IsTrue, Bool, true, false, List, [], Some, None, length, get_or, refl, subst, arith}
use Rattle.std.specs.Prelude.{slice_index_or}
use Rattle.gx_device.specs.Content.{Content, device_at}
use Rattle.gx_device.specs.Faults.{Counted, Rose}
use Rattle.gx_device.specs.declared.device.AttachStop.{AttachStop}
use Rattle.gx_device.specs.declared.device.AttachStop.TheVariants as attach
use Rattle.gx_ports.specs.declared.kinds.LeafSpec.{LeafSpec}
use Rattle.gx_layout.specs.Layout.{head_of}
use Rattle.gx_layout.specs.Head.{HasMagic, DifferFirst, text_at, text_area}
use Rattle.gx_journal.specs.declared.opening.Unopened.{Unopened as NoJournal}
use Rattle.gx_journal.specs.declared.opening.Unopened.TheVariants as journal
use Rattle.gx_store.specs.Causes.{not_attached, no_journal}
use Rattle.gx_store.specs.Device.{IsSize}
use Rattle.gx_store.specs.Opening.{AreUnopened, AreUnread, IsUnopened}
use Rattle.gx_store.specs.declared.unopened.Unopened.{Unopened}
use Rattle.gx_store.specs.declared.unopened.Unopened.TheVariants as unopened

-- a call that goes on, and then another
pub counted_after : (goes_on : Bool) (a b c : ℕ) → b ≡ a → Counted goes_on b c → Counted goes_on a c
counted_after goes_on a b c same y = record {
  later = omega (arith, same, y.later);
  rose = λ e. subst (λ (n : ℕ). Rose n c) same (y.rose e);
  same = λ e. y.same e ∙ same;
}

pub counted_still : (a b : ℕ) → b ≡ a → Counted true a b
counted_still a b same = record {
  later = omega (arith, same);
  rose = λ e. cc;
  same = λ e. same;
}

pub counted_fault : (a b : ℕ) → a ≤ b → Rose a b → Counted false a b
counted_fault a b later rose = record {
  later = later;
  rose = λ e. rose;
  same = λ e. absurd (let f : false ≡ true = e in cc);
}

module _ (schema equation : List ℕ) (specs : List LeafSpec) (blocks : List (List ℕ)) where
  pub unread_on : (head : List (List ℕ)) (why : Unopened) → IsSize specs (length blocks)
      → HasMagic (length blocks) (get_or blocks 0 [])
      → head ≡ head_of blocks
      → AreUnread schema equation head why → AreUnopened schema equation specs blocks why
  unread_on head (unopened.OtherTexts place) size magic same differ = (
    size,
    magic,
    subst (λ (h : List (List ℕ)). DifferFirst (text_at h)
        (λ q. slice_index_or (text_area schema equation) q 0)
        (Some place)) same differ,
  )
  unread_on head unopened.Fault size magic same none = tt
  unread_on head unopened.NoMemory size magic same none = tt
  unread_on head unopened.Missing size magic same none = absurd none
  unread_on head unopened.Exists size magic same none = absurd none
  unread_on head unopened.Size size magic same none = absurd none
  unread_on head unopened.NoDatabase size magic same none = absurd none

  pub unrecovered : (why : NoJournal) → IsSize specs (length blocks)
      → (why ≡ journal.NoDatabase → ¬ HasMagic (length blocks) (get_or blocks 0 []))
      → AreUnopened schema equation specs blocks (no_journal why)
  unrecovered journal.Fault size none = tt
  unrecovered journal.NoMemory size none = tt
  unrecovered journal.NoDatabase size none = (size, none refl)

  pub unopened_on : (name : List ℕ) (before : Content) (why : Unopened)
      → device_at before.now name ≡ Some blocks
      → AreUnopened schema equation specs blocks why
      → IsUnopened name schema equation specs before why
  unopened_on name before unopened.Missing was are = absurd are
  unopened_on name before unopened.Exists was are = absurd are
  unopened_on name before unopened.Fault was are = tt
  unopened_on name before unopened.NoMemory was are = tt
  unopened_on name before unopened.Size was are = (blocks, was, are)
  unopened_on name before unopened.NoDatabase was are = (blocks, was, are)
  unopened_on name before (unopened.OtherTexts place) was are = (blocks, was, are)

pub refused_by : (stop : AttachStop) (name schema equation : List ℕ) (specs : List LeafSpec)
    (before : Content)
    → (stop ≡ attach.Missing → device_at before.now name ≡ None) → (stop ≡ attach.Exists → ⊥)
    → IsUnopened name schema equation specs before (not_attached stop)
refused_by attach.Missing name schema equation specs before absent exists = absent refl
refused_by attach.Exists name schema equation specs before absent exists = absurd (exists refl)
refused_by attach.Fault name schema equation specs before absent exists = tt
refused_by attach.NoMemory name schema equation specs before absent exists = tt

-- the size that was asked for is that of the blocks
pub sized_by : (specs : List LeafSpec) (long size asked : ℕ) (r : Bool) → size ≡ long → asked ≡ size
    → (IsTrue r ↔ IsSize specs asked)
    → r ≡ true → IsSize specs long
sized_by specs long size asked r sized is test so =
    subst (λ (n : ℕ). IsSize specs n) (is ∙ sized) (test.0 so)
