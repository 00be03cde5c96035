-- What stays, whatever the words are.
use Rattle.std.proofs.Common.{◌≡◌, ◌∙◌, ℕ, List, Some, refl, sym, ap}
use Rattle.gx_device.specs.Content.{Content}
use Rattle.gx_requests.specs.Words.{Action, request_words}
use Rattle.gx_operations.specs.Given.{KeepsBut, KeepsAll, KeepsOthers}
use Rattle.gx_operations.proofs.UnchangedLemmas.{same_device_at}
use Rattle.gx_top.specs.Promised.{NameDevice, device_of}
use Rattle.gx_operations.specs.Crashes.{IsLater}

-- more names are left out
keeps_fewer : (P Q : List ℕ → Type 0) (old new : Content)
    → ((other : List ℕ) → P other → Q other) → KeepsBut P old new → KeepsBut Q old new
keeps_fewer P Q old new more keeps = record {
  aside = keeps.aside;
  others = λ other free. keeps.others other (λ is. free (more other is));
}

keeps_later : (P : List ℕ → Type 0) (old mid new : Content) → IsLater old mid
    → KeepsBut P mid new → KeepsBut P old new
keeps_later P old mid new later keeps = record {
  aside = keeps.aside ∙ later.aside;
  others = λ other free. keeps.others other free
      ∙ same_device_at old.now mid.now other later.through.now.unchanged.blocks
      later.through.now.unchanged.shelf;
}

-- no device is changed
pub keeps_all : (words : List (List ℕ)) (old new : Content) → KeepsAll old new
    → KeepsBut (NameDevice words) old new
keeps_all words old new keeps =
    keeps_fewer (λ other. ⊥) (NameDevice words) old new (λ other is. absurd is) keeps

pub keeps_words : (words : List (List ℕ)) (old mid new : Content) → IsLater old mid
    → KeepsAll mid new → KeepsBut (NameDevice words) old new
keeps_words words old mid new later keeps =
    keeps_all words old new (keeps_later (λ other. ⊥) old mid new later keeps)

-- the one of that name is, which the words name
pub keeps_named : (a : Action) (schema equation device : List ℕ) → device_of a ≡ Some device
    → (old mid new : Content) → IsLater old mid → KeepsOthers device mid new
    → KeepsBut (NameDevice (request_words a schema equation)) old new
keeps_named a schema equation device named old mid new later keeps =
    keeps_fewer (λ other. other ≡ device) (NameDevice (request_words a schema equation)) old new
    (λ other is. (a, schema, equation, refl, named ∙ ap (λ (d : List ℕ). Some d) (sym is)))
    (keeps_later (λ other. other ≡ device) old mid new later keeps)
