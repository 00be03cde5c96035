-- Lines that are paths, and lines that are none.
use Rattle.std.proofs.Common.{◌≡◌, ℕ, ◌<◌, false, List, [], ◌∷◌, length, sym, subst}
use Rattle.std.specs.List.{AllByRecursion}
use Rattle.gx_schema.specs.declared.schema.Schema.{Schema}
use Rattle.gx_commands.specs.declared.command.Find.{Find}
use Rattle.gx_commands.specs.declared.path.Leg.{Leg}
use Rattle.gx_commands.specs.Paths.{link_of, AreLegsFrom}
use Rattle.gx_script.specs.Paths.{is_path}
use Rattle.gx_model.specs.States.{State}
use Rattle.gx_model.specs.Play.{Playing}
use Rattle.gx_model.specs.Runs.{Step}
use Rattle.gx_model.specs.Paths.{PathOr, PathStep, last_find}
use Rattle.gx_plain.specs.Plain.{HasParts, IsLegIn, IsMoment, IsLineDone}
use Rattle.gx_plain.specs.declared.plain.Moment.{Moment}

-- ---- paths of a schema

pub legs_in : (schema : Schema) (s : State) (file : ℕ) (legs : List Leg) → HasParts schema s
    → AreLegsFrom schema file legs → AllByRecursion (IsLegIn s) legs
legs_in schema s file [] parts h = tt
legs_in schema s file (leg ∷ legs) parts h = (
  record {
    link = subst (λ n. link_of leg.way < n) (sym parts.links) h.0.link;
    file = subst (λ n. leg.find.file < n) (sym parts.files) h.0.find.of_schema.file;
  },
  legs_in schema s leg.find.file legs parts h.1,
)

pub last_within : (schema : Schema) (first : Find) (legs : List Leg)
    → first.file < length schema.files → AreLegsFrom schema first.file legs
    → (last_find first legs).file < length schema.files
last_within schema first [] lt h = lt
last_within schema first (leg ∷ legs) lt h =
    last_within schema leg.find legs h.0.find.of_schema.file h.1

-- ---- lines

pub command_done : (schema : Schema) (p : Playing) (line text : List ℕ) (m : Moment)
    (next : Playing) → is_path line ≡ false → Step schema p line text next → IsMoment m next
    → IsLineDone schema p line text m
command_done schema p line text m next no_path step at = record {
  next = next;
  step = subst (λ b. PathOr b (PathStep schema p line text next) (Step schema p line text next))
      (sym no_path) step;
  at = at;
}
