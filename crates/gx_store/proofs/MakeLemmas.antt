-- Why nothing is made, and how faults are counted while a database is made.
use Rattle.std.proofs.Common.{◌≡◌, ◌≢◌, ◌∙◌, ℕ, zero, suc, Bool, true, false, not, List, [], ◌++◌, get_or, refl, sym, ap, arith}
use Rattle.std.proofs.lemmas.List.{get_or-replicate}
use Rattle.gx_device.specs.Content.{Content, device_at, zero_blocks}
use Rattle.gx_layout.specs.Head.{HasMagic}
use Rattle.std.specs.Prelude.{IsSome, nat_le, if◌then◌else◌, codes}
use Rattle.gx_layout.specs.declared.places.TheConstants.{FIRST_MOST}
use Rattle.gx_device.specs.Faults.{Counted}
use Rattle.gx_device.specs.declared.device.AttachStop.{AttachStop}
use Rattle.gx_device.specs.declared.device.AttachStop.TheVariants as attach
use Rattle.gx_ports.specs.declared.kinds.LeafSpec.{LeafSpec}
use Rattle.gx_journal.specs.declared.opening.Unopened.{Unopened as NoJournal}
use Rattle.gx_journal.specs.declared.opening.Unopened.TheVariants as journal
use Rattle.gx_store.specs.Causes.{not_attached, no_journal}
use Rattle.gx_ports.specs.declared.stop.Stop.{Stop}
use Rattle.gx_ports.specs.declared.stop.Stop.TheVariants as stop
use Rattle.gx_leaves.specs.Making.{HasMakeCause}
use Rattle.gx_store.specs.Device.{IsSize}
use Rattle.gx_store.specs.Store.{is_fault}
use Rattle.gx_store.specs.Opening.{is_untouched}
use Rattle.gx_store.specs.Making.{IsUnmade, IsUnmadeOn, IsUnlaid, not_laid}
use Rattle.gx_store.proofs.CauseLemmas.{counted_still}
use Rattle.gx_store.specs.declared.unopened.Unopened.{Unopened}
use Rattle.gx_store.specs.declared.unopened.Unopened.TheVariants as unopened

pub unlaid_by : (why : NoJournal) → why ≢ journal.NoDatabase → IsUnlaid (no_journal why)
unlaid_by journal.Fault other = tt
unlaid_by journal.NoMemory other = tt
unlaid_by journal.NoDatabase other = other refl

pub unlaid_on : (specs : List LeafSpec) (count : ℕ) (why : Unopened) → IsUnlaid why
    → IsUnmadeOn specs count why
unlaid_on specs count unopened.Fault is = is
unlaid_on specs count unopened.NoMemory is = is
unlaid_on specs count unopened.Missing is = is
unlaid_on specs count unopened.Exists is = is
unlaid_on specs count unopened.Size is = absurd is
unlaid_on specs count unopened.NoDatabase is = is
unlaid_on specs count (unopened.OtherTexts place) is = is

pub unmade_on : (name : List ℕ) (count : ℕ) (specs : List LeafSpec) (before : Content)
    (why : Unopened) → IsUnmadeOn specs count why
    → IsUnmade name count specs before why
unmade_on name count specs before unopened.Fault is = tt
unmade_on name count specs before unopened.NoMemory is = tt
unmade_on name count specs before unopened.Size is = is
unmade_on name count specs before unopened.Missing is = is
unmade_on name count specs before unopened.Exists is = absurd is
unmade_on name count specs before unopened.NoDatabase is = is
unmade_on name count specs before (unopened.OtherTexts place) is = is

pub unmade_by : (stop : AttachStop) (name : List ℕ) (count : ℕ) (specs : List LeafSpec)
    (before : Content) → IsSize specs count
    → (stop ≡ attach.Missing → ⊥) → (stop ≡ attach.Exists → IsSome (device_at before.now name))
    → IsUnmade name count specs before (not_attached stop)
unmade_by attach.Missing name count specs before size missing present = missing refl
unmade_by attach.Exists name count specs before size missing present = (size, present refl)
unmade_by attach.Fault name count specs before size missing present = tt
unmade_by attach.NoMemory name count specs before size missing present = tt

-- how faults are counted while leaves are made
pub counted_leaves : (why : Stop) (before now : ℕ) → HasMakeCause before now why
    → Counted (not (is_fault (not_laid why))) before now
counted_leaves stop.Fault before now is =
    record { later = is.0; rose = λ e. is.1; same = λ e. absurd (let f : false ≡ true = e in cc) }
counted_leaves stop.NoMemory before now is = counted_still before now is
counted_leaves stop.Full before now is = absurd is
counted_leaves (stop.Damaged block) before now is = absurd is

-- a refusal on the attached device comes after blocks were written, where the size is right
pub unmade_touched : (specs : List LeafSpec) (count : ℕ) (why : Unopened) → IsSize specs count
    → IsUnmadeOn specs count why
    → is_untouched why ≡ true → ⊥
unmade_touched specs count unopened.Size size are so = are size
unmade_touched specs count unopened.Fault size are so = let f : false ≡ true = so in cc
unmade_touched specs count unopened.NoMemory size are so = let f : false ≡ true = so in cc
unmade_touched specs count unopened.Missing size are so = are
unmade_touched specs count unopened.Exists size are so = are
unmade_touched specs count unopened.NoDatabase size are so = are
unmade_touched specs count (unopened.OtherTexts place) size are so = are

magic_first : (is_first : Bool) (rest : List ℕ)
    → get_or ((if is_first then codes "GENESIS1" else codes "GENESIS2") ++ rest) 0 0 ≡ 71
magic_first true rest = refl
magic_first false rest = refl

-- a block that begins with a zero doesn't begin with the magic
pub zero_first : (size : ℕ) (block : List ℕ) → get_or block 0 0 ≡ 0 → ¬ HasMagic size block
zero_first size block none is =
    let first : 71 ≡ 0 = sym (magic_first (nat_le size FIRST_MOST) is.0)
    ∙ sym (ap (λ (bytes : List ℕ). get_or bytes 0 0) is.1) ∙ none in
    absurd (omega (arith, first))

-- so no block of a device that was made has it
pub none_made : (size n : ℕ) → ¬ HasMagic size (get_or (zero_blocks n) 0 [])
none_made size n = zero_first size (get_or (zero_blocks n) 0 []) (first n)
  where
    first : (k : ℕ) → get_or (get_or (zero_blocks k) 0 []) 0 0 ≡ 0
    first zero = refl
    first (suc k) = get_or-replicate 4096 0 0 0 (omega arith)
