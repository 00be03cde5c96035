-- A request that ends with one line: what was said of it, and the status that is due.
use Rattle.std.proofs.Common.{◌≡◌, ◌∙◌, inl, inr, ℕ, zero, suc, List, [], ◌++◌, take, Some, refl, sym, ap, subst}
use Rattle.std.specs.Prelude.{◌⊎◌, ◌≢◌}
use Rattle.std.specs.FinMap.{get}
use Rattle.gx_device.specs.Content.{Content, device_at, with_named}
use Rattle.gx_play.specs.declared.ending.Ending.{Ending}
use Rattle.gx_play.specs.declared.ending.Ending.TheVariants as ending
use Rattle.gx_play.specs.declared.status.Status.{Status}
use Rattle.gx_play.specs.declared.status.Status.TheVariants as status
use Rattle.gx_play.specs.Endings.{IsEnded, ending_line, memory_line, status_of}
use Rattle.gx_play.specs.Say.{SameDevices, IsCut}
use Rattle.gx_store.specs.Store.{Attaches}
use Rattle.gx_operations.specs.Given.{KeepsAll, KeepsOthers}
use Rattle.gx_operations.specs.Promises.{Promise, IsSaid, SaysBoth, SaysPart}
use Rattle.gx_operations.proofs.NameLemmas.{other_at}

-- what is said changes no device
pub devices_same : (old new : Content) → SameDevices old new → (name : List ℕ)
    → device_at new.now name ≡ device_at old.now name
devices_same old new same name =
    λ i. get (with_named (same.shelf i).name (same.blocks i) (same.shelf i).devices) name

-- ---- what stays

-- while a line is said
pub keeps_said : (old new : Content) → SameDevices old new → new.aside ≡ old.aside
    → KeepsAll old new
keeps_said old new same aside = record {
  aside = aside;
  others = λ other free. devices_same old new same other;
}

-- while the device is attached, and a line is said then
pub keeps_attached : (device : List ℕ) (old mid new : Content) → Attaches device old mid
    → SameDevices mid new → new.aside ≡ mid.aside → KeepsOthers device old new
keeps_attached device old mid new attaches same aside = record {
  aside = aside ∙ attaches.aside;
  others = λ other differ. devices_same mid new same other ∙ attaches.others other differ;
}

-- while it is attached, and the same shelf stands then
pub keeps_opened : (device : List ℕ) (old opened new : Content) → Attaches device old opened
    → opened.now.shelf.name ≡ Some device → new.now.shelf ≡ opened.now.shelf
    → new.aside ≡ opened.aside → KeepsOthers device old new
keeps_opened device old opened new attaches named shelf aside = record {
  aside = aside ∙ attaches.aside;
  others = λ other differ. other_at opened.now new.now device other named shelf differ
      ∙ attaches.others other differ;
}

-- ---- the line

-- a status but Outside is one of two
pub said_or_memory : (s t : Status) → (s ≢ status.Outside → s ≢ status.Memory → s ≡ t)
    → s ≢ status.Outside → (s ≡ t) ⊎ (s ≡ status.Memory)
said_or_memory status.Memory t is outside = inr refl
said_or_memory status.Outside t is outside = absurd (outside refl)
said_or_memory status.Done t is outside = inl (is outside (λ e. cc))
said_or_memory status.Refused t is outside = inl (is outside (λ e. cc))
said_or_memory status.Script t is outside = inl (is outside (λ e. cc))
said_or_memory status.Full t is outside = inl (is outside (λ e. cc))
said_or_memory status.Device t is outside = inl (is outside (λ e. cc))

one_memory : (s : Status) → (s ≡ status.Memory) ⊎ (s ≡ status.Memory) → s ≡ status.Memory
one_memory s (inl is) = is
one_memory s (inr is) = is

module _ (why : Ending) (mid new : Content) (s : Status) (ended : IsEnded why mid new s) where
  -- the line of an ending has the status that is due
  pub ended_due : (due : Status) → (status_of why ≡ due) ⊎ (why ≡ ending.Fault)
      ⊎ (why ≡ ending.NoMemory) → s ≢ status.Outside → (s ≡ due) ⊎ (s ≡ status.Memory)
  ended_due due (inl is) outside =
      said_or_memory s due (λ o m. ended.due.status_is o m ∙ is) outside
  ended_due due (inr (inl is)) outside = absurd (outside (ended.due.fault is))
  ended_due due (inr (inr is)) outside =
      inr (one_memory s
      (said_or_memory s status.Memory (λ o m. ended.due.status_is o m ∙ ap status_of is) outside))

module _ (p : Promise) (old mid new : Content) (same : mid.now.said ≡ old.now.said)
    (memory : p.Says status.Memory [] memory_line new) (why : Ending)
    (line : (why ≡ ending.Fault) ⊎ p.Says (status_of why) [] (ending_line why) new) where
  both_memory : new.now.said ≡ mid.now.said ++ memory_line → SaysBoth p old new status.Memory
  both_memory said = record {
    whole = [];
    last = memory_line;
    says = memory;
    said = said ∙ ap (λ (t : List ℕ). t ++ memory_line) same;
  }

  both_line : (s : Status) → IsEnded why mid new s → s ≢ status.Outside → s ≢ status.Memory
      → SaysBoth p old new s
  both_line s ended outside other = elim line [
    | inl fault ↦ absurd (outside (ended.due.fault fault))
    | inr says ↦ record {
      whole = [];
      last = ending_line why;
      says = subst (λ (t : Status). p.Says t [] (ending_line why) new)
          (sym (ended.due.status_is outside other)) says;
      said = ended.words.said outside other ∙ ap (λ (t : List ℕ). t ++ ending_line why) same;
    }
  ]

  part_memory : (count : ℕ) → new.now.said ≡ mid.now.said ++ take count memory_line
      → SaysPart p old new
  part_memory count said = record {
    meant = status.Memory;
    whole = [];
    last = memory_line;
    says = memory;
    count = count;
    said = said ∙ ap (λ (t : List ℕ). t ++ take count memory_line) same;
  }

  part_line : (count : ℕ) → new.now.said ≡ mid.now.said ++ take count (ending_line why)
      → SaysPart p old new
  part_line count said = elim line [
    | inl fault ↦ part_memory 0
        (subst (λ (w : Ending). new.now.said ≡ mid.now.said ++ take count (ending_line w)) fault said
        ∙ ap (λ (t : List ℕ). mid.now.said ++ t) (none count))
    | inr says ↦ record {
      meant = status_of why;
      whole = [];
      last = ending_line why;
      says = says;
      count = count;
      said = said ∙ ap (λ (t : List ℕ). t ++ take count (ending_line why)) same;
    }
  ]
    where
      none : (n : ℕ) → ◌≡◌ {A = List ℕ} (take n []) []
      none zero = refl
      none (suc n) = refl

  part_cut : IsCut (ending_line why) memory_line mid new → SaysPart p old new
  part_cut (count, inl said) = part_line count said
  part_cut (count, inr said) = part_memory count said

  -- what was said of it
  pub ended_said : (s : Status) → IsEnded why mid new s → IsSaid p old new s
  ended_said status.Outside ended = inl (part_cut (ended.words.cut refl))
  ended_said status.Memory ended = both_memory (ended.words.memory refl)
  ended_said status.Done ended = both_line status.Done ended (λ e. cc) (λ e. cc)
  ended_said status.Refused ended = both_line status.Refused ended (λ e. cc) (λ e. cc)
  ended_said status.Script ended = both_line status.Script ended (λ e. cc) (λ e. cc)
  ended_said status.Full ended = both_line status.Full ended (λ e. cc) (λ e. cc)
  ended_said status.Device ended = both_line status.Device ended (λ e. cc) (λ e. cc)
