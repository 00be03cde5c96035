-- A device that is made, and the workload that is played on it.
use Rattle.std.proofs.Common.{◌≡◌, ◌+◌, ℕ, true, not, List, length, replicate, Option, Some, None, Result, Ok, Err, refl, sym, ap, subst, ◌∙◌, inl, inr}
use Rattle.std.specs.FinMap.{empty}
use Rattle.std.proofs.lemmas.Option.{same_Some}
use Rattle.gx_device.specs.Content.{Content, Shelf, Silent, device_at}
use Rattle.gx_ports.specs.declared.kinds.LeafSpec.{LeafSpec}
use Rattle.gx_ports.specs.LeafMaps.{LeafMap, Limits}
use Rattle.gx_model.specs.States.{State, empty_state}
use Rattle.gx_work.specs.Schema.{work_schema}
use Rattle.gx_work.specs.Workload.{work_script}
use Rattle.gx_play.specs.Played.{MayBeFullAt}
use Rattle.gx_working.specs.Worked.{IsWorkedAs}
use Rattle.gx_store.specs.Device.{IsMadeOn, IsNoneOrEmpty, IsSize, ReadAlike, Reopens}
use Rattle.gx_store.specs.Making.{IsUnmade}
use Rattle.gx_store.specs.Opening.{AreUnopened, is_untouched}
use Rattle.gx_store.specs.Store.{Attaches, OfBlocks, is_fault}
use Rattle.gx_store.specs.declared.unopened.Unopened.{Unopened}
use Rattle.gx_store.specs.declared.unopened.Unopened.TheVariants as unopened
use Rattle.gx_store.proofs.AlikeLemmas.{reopens_alike}
use Rattle.gx_store.proofs.ShelfLemmas.{named_at}
use Rattle.gx_play.specs.declared.ending.Ending.{Ending}
use Rattle.gx_play.specs.declared.ending.Ending.TheVariants as ending
use Rattle.gx_play.specs.Endings.{unopened_ending}
use Rattle.gx_requests.specs.declared.opened.Stored.{Stored}
use Rattle.gx_ports.specs.declared.pages.Place.{Place}
use Rattle.gx_ports.specs.Roots.{root_pages}
use Rattle.gx_ports.specs.Sheets.{Ground}
use Rattle.gx_leaves.specs.Places.{specs_of}
use Rattle.gx_leaves.specs.Wholeness.{limits_of}
use Rattle.gx_store.specs.Device.{ground_on}
use Rattle.gx_operations.specs.Settled.{IsSettledIn, limits_on}
use Rattle.gx_operations.proofs.NameLemmas.{other_at}
use Rattle.gx_operations.specs.Working.{IsSettledOf, HoldsFirst, IsPlayedOn, IsNewDevice, IsWorking}

-- ---- a device that isn't made

pub not_made : (x : Stored) (device : List ℕ) (count records : ℕ) (old new : Content)
    (why : Unopened)
    → IsUnmade device count x.built.specs old why
    → (is_untouched why ≡ true → device_at new.now device ≡ device_at old.now device)
    → (device_at old.now device ≡ None → (blocks : List (List ℕ))
    → device_at new.now device ≡ Some blocks
    → IsNoneOrEmpty x.schema_text x.equation_text x.built.specs blocks)
    → IsWorking x device count records old new (Err (unopened_ending why))
not_made x device count records old new unopened.Exists un same left = (un, same refl)
not_made x device count records old new unopened.Size un same left = (un, same refl)
not_made x device count records old new unopened.Fault un same left = tt
not_made x device count records old new unopened.NoMemory un same left =
    λ free blocks there. inl (left free blocks there)
not_made x device count records old new unopened.Missing un same left = absurd un
not_made x device count records old new unopened.NoDatabase un same left = absurd un
not_made x device count records old new (unopened.OtherTexts place) un same left = absurd un

-- ---- one that is

module _ (x : Stored) (device : List ℕ) (count records : ℕ) (old mid new : Content)
    (size : IsSize x.built.specs count) (free : device_at old.now device ≡ None)
    (made : OfBlocks device mid (IsMadeOn count x.schema_text x.equation_text x.built.specs))
    (named : mid.now.shelf.name ≡ Some device) (silent : Silent mid new) where
  here : made.0 ≡ mid.now.blocks
  here = same_Some made.0 mid.now.blocks (sym made.1 ∙ named_at mid.now device named)

  many : length mid.now.blocks ≡ count
  many = ap (λ (bs : List (List ℕ)). length bs) (sym here) ∙ made.2.count

  pub reopens : Reopens x.schema_text x.equation_text x.built.specs
      (replicate (length x.built.specs) empty) mid.now.blocks
  reopens =
      subst (λ (bs : List (List ℕ)). Reopens x.schema_text x.equation_text x.built.specs
      (replicate (length x.built.specs) empty) bs) here made.2.reopens

  -- the device holds the blocks that are left
  new_device : (P : List (List ℕ) → Type 0) → length new.now.blocks ≡ length mid.now.blocks
      → P new.now.blocks
      → IsNewDevice x device count old new P
  new_device P same is = record {
    size = size;
    free = free;
    left = (
      new.now.blocks,
      named_at new.now device
          (ap (λ (h : Shelf). h.name) silent.shelf ∙ named),
      is,
    );
    many = same ∙ many;
  }

  by_result : (r : Result (List ℕ) Ending) → length new.now.blocks ≡ length mid.now.blocks
      → IsPlayedOn x count records new.now.blocks r → IsWorking x device count records old new r
  by_result (Ok line) same is =
      new_device (λ after. IsPlayedOn x count records after (Ok line)) same is
  by_result (Err ending.Full) same is =
      new_device (λ after. IsPlayedOn x count records after (Err ending.Full)) same is
  by_result (Err ending.NoMemory) same is = λ none blocks there.
      subst (HoldsFirst x records) (same_Some new.now.blocks blocks
      (sym (named_at new.now device (ap (λ (h : Shelf). h.name) silent.shelf ∙ named)) ∙ there)) is
  by_result (Err ending.Fault) same is = tt
  by_result (Err (ending.Device why)) same is = absurd is
  by_result (Err ending.Words) same is = absurd is
  by_result (Err (ending.Missing name)) same is = absurd is
  by_result (Err (ending.TooLong name)) same is = absurd is
  by_result (Err (ending.Schema line why)) same is = absurd is
  by_result (Err (ending.Equation line why)) same is = absurd is
  by_result (Err (ending.Type line why)) same is = absurd is
  by_result (Err ending.TextsTooLong) same is = absurd is
  by_result (Err (ending.Accepted summary)) same is = absurd is
  by_result (Err (ending.Line number why)) same is = absurd is
  by_result (Err (ending.Made blocks pages)) same is = absurd is

  pub working_by : (r : Result (List ℕ) Ending) → length new.now.blocks ≡ length mid.now.blocks
      → IsPlayedOn x (length mid.now.blocks) records new.now.blocks r
      → IsWorking x device count records old new r
  working_by r same is = by_result r same
      (subst (λ (n : ℕ). IsPlayedOn x n records new.now.blocks r) many is)

-- ---- the play on it

-- what reads as an empty database is one
pub empty_still : (x : Stored) (old new : List (List ℕ)) → ReadAlike old new
    → Reopens x.schema_text x.equation_text x.built.specs (replicate (length x.built.specs) empty)
    old
    → IsNoneOrEmpty x.schema_text x.equation_text x.built.specs new
empty_still x old new same is =
    λ magic. reopens_alike x.schema_text x.equation_text x.built.specs
    (replicate (length x.built.specs) empty) old new same is

-- an empty database is opened
pub never_unopened : (x : Stored) (count records : ℕ) (schema equation : List ℕ)
    (specs : List LeafSpec)
    (maps : List LeafMap) (blocks after : List (List ℕ)) (why : Unopened)
    → Reopens schema equation specs maps blocks → AreUnopened schema equation specs blocks why
    → (not (is_fault why) ≡ true → IsNoneOrEmpty x.schema_text x.equation_text x.built.specs after)
    → IsPlayedOn x count records after (Err (unopened_ending why))
never_unopened x count records schema equation specs maps blocks after unopened.Size is un left =
    absurd (un is.size)
never_unopened x count records schema equation specs maps blocks after unopened.NoDatabase is un
    left = absurd (un.1 is.magic)
never_unopened x count records schema equation specs maps blocks after (unopened.OtherTexts place)
    is un left =
    absurd (un.2.1 (is.texts place un.2.0))
never_unopened x count records schema equation specs maps blocks after unopened.Fault is un left =
    tt
never_unopened x count records schema equation specs maps blocks after unopened.NoMemory is un
    left = inl (left refl)
never_unopened x count records schema equation specs maps blocks after unopened.Missing is un left =
    absurd un
never_unopened x count records schema equation specs maps blocks after unopened.Exists is un left =
    absurd un

-- what was played over the leaves is left on the device
pub played_on : (x : Stored) (count records : ℕ) (after : List (List ℕ)) (limit : Option Limits)
    (Holds : State → Type 0) (r : Result (List ℕ) Ending)
    → limit ≡ Some (limits_on x.built.specs count)
    → ((k : State) → Holds k → IsSettledOf x after k)
    → IsWorkedAs x.built limit (empty_state work_schema) Holds records r
    → IsPlayedOn x count records after r
played_on x count records after limit Holds (Ok line) same settled is = record {
  answers = is.answers;
  final = is.final;
  play = is.play;
  line_is = is.line_is;
  holds = settled is.final.kept is.holds;
}
played_on x count records after limit Holds (Err ending.Full) same settled is = record {
  answers = is.answers;
  final = is.final;
  full = subst (λ (l : Option Limits). MayBeFullAt work_schema x.built l (empty_state work_schema)
      (work_script records) is.answers is.final) same is.full;
  holds = settled is.final.kept is.holds;
}
played_on x count records after limit Holds (Err ending.NoMemory) same settled is = inr (record {
  answers = is.answers;
  first = is.first;
  holds = settled is.first.final.kept is.holds;
})
played_on x count records after limit Holds (Err ending.Fault) same settled is = tt
played_on x count records after limit Holds (Err (ending.Device why)) same settled is = absurd is
played_on x count records after limit Holds (Err ending.Words) same settled is = absurd is
played_on x count records after limit Holds (Err (ending.Missing name)) same settled is = absurd is
played_on x count records after limit Holds (Err (ending.TooLong name)) same settled is = absurd is
played_on x count records after limit Holds (Err (ending.Schema line why)) same settled is =
    absurd is
played_on x count records after limit Holds (Err (ending.Equation line why)) same settled is =
    absurd is
played_on x count records after limit Holds (Err (ending.Type line why)) same settled is = absurd is
played_on x count records after limit Holds (Err ending.TextsTooLong) same settled is = absurd is
played_on x count records after limit Holds (Err (ending.Accepted summary)) same settled is =
    absurd is
played_on x count records after limit Holds (Err (ending.Line number why)) same settled is =
    absurd is
played_on x count records after limit Holds (Err (ending.Made blocks pages)) same settled is =
    absurd is

-- ---- the texts and kinds that are read out of what is stored

pub sliced_texts : (x : Stored) (schema equation : List ℕ) (specs : List LeafSpec)
    (P : List ℕ → List ℕ → List LeafSpec → Type 0) → schema ≡ x.schema_text
    → equation ≡ x.equation_text
    → specs ≡ x.built.specs → P x.schema_text x.equation_text x.built.specs
    → P schema equation specs
sliced_texts x schema equation specs P a b c is =
    subst (λ t. P t equation specs) (sym a) (subst (λ e. P x.schema_text e specs) (sym b)
    (subst (λ k. P x.schema_text x.equation_text k) (sym c) is))

pub told_settled : (x : Stored) (schema equation : List ℕ) (specs : List LeafSpec)
    (after : List (List ℕ))
    (k : State) → schema ≡ x.schema_text → equation ≡ x.equation_text → specs ≡ x.built.specs
    → IsSettledIn x.schema x.built schema equation specs after k → IsSettledOf x after k
told_settled x schema equation specs after k a b c is =
    subst (λ t. IsSettledIn x.schema x.built t x.equation_text x.built.specs after k) a
    (subst (λ e. IsSettledIn x.schema x.built schema e x.built.specs after k) b
    (subst (λ ks. IsSettledIn x.schema x.built schema equation ks after k) c is))

pub told_unopened : (x : Stored) (schema equation : List ℕ) (specs : List LeafSpec)
    (blocks : List (List ℕ))
    (why : Unopened) → schema ≡ x.schema_text → equation ≡ x.equation_text → specs ≡ x.built.specs
    → AreUnopened schema equation specs blocks why
    → AreUnopened x.schema_text x.equation_text x.built.specs blocks why
told_unopened x schema equation specs blocks why a b c is =
    subst (λ t. AreUnopened t x.equation_text x.built.specs blocks why) a
    (subst (λ e. AreUnopened schema e x.built.specs blocks why) b
    (subst (λ ks. AreUnopened schema equation ks blocks why) c is))

-- the same limit is of as many blocks
pub same_blocks : (a b : Limits) → ◌≡◌ {A = Option Limits} (Some a) (Some b) → a.blocks ≡ b.blocks
same_blocks a b same = ap (blocks_or b) same
  where
    blocks_or : Limits → Option Limits → ℕ
    blocks_or d (Some limits) = limits.blocks
    blocks_or d None = d.blocks

-- the limit of the leaves on these blocks
pub limit_of : (blocks : List (List ℕ)) (base : Ground) (places : List Place)
    (specs : List LeafSpec)
    → base ≡ ground_on blocks → specs_of places ≡ specs
    → Some (limits_of base places) ≡ Some (limits_on specs (length blocks))
limit_of blocks base places specs same specs_are =
    λ i. Some (record {
      pages = (same i).size;
      fixed = (same i).tables + root_pages (specs_are i);
      blocks = (same i).blocks;
    })

-- ---- the device that was made stays attached

pub attached_still : (device : List ℕ) (old mid new : Content) → Attaches device old mid
    → mid.now.shelf.name ≡ Some device → Silent mid new → Attaches device old new
attached_still device old mid new attaches named silent = record {
  said = silent.said ∙ attaches.said;
  script = silent.script ∙ attaches.script;
  aside = silent.aside ∙ attaches.aside;
  others = λ other differ. other_at mid.now new.now device other named silent.shelf differ
      ∙ attaches.others other differ;
}
