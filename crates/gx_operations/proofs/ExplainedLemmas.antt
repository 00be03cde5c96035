-- Good lines have plans.
use Rattle.std.proofs.Common.{◌≡◌, ℕ, ◌+◌, List, [], ◌∷◌, ◌++◌, Bool, false, None, Ok, refl}
use Rattle.gx_device.specs.Content.{Content}
use Rattle.gx_schema.specs.declared.schema.Schema.{Schema}
use Rattle.gx_commands.specs.Lines.{script_lines}
use Rattle.gx_explain.specs.Explained.{asked_text, indexed_fields, AreExplained}
use Rattle.gx_play.specs.Asked.{inside_behind}
use Rattle.gx_play.specs.ScriptEnds.{AreGood}
use Rattle.gx_play.specs.declared.status.Status.TheVariants as status
use Rattle.gx_operations.specs.Explains.{ExplainSays}
use Rattle.gx_operations.specs.Given.{Given}

explained : (schema : Schema) (indexed : ℕ → List Bool) (number : ℕ) (inside : Bool)
    (lines : List (List ℕ)) (final : Bool) → AreGood schema inside lines final
    → (text : List ℕ) × AreExplained schema indexed number inside lines text final
explained schema indexed number inside [] final is = ([], (refl, is))
explained schema indexed number inside (line ∷ lines) final is =
    let behind = inside_behind inside is.0 in
    let rest = explained schema indexed (number + 1) behind lines final is.2 in (
      asked_text schema indexed number is.0 ++ rest.0,
      (is.0, rest.0, is.1, rest.1, refl),
    )

-- those of a whole script are what `explain` says with Done
pub good_explained : (g : Given) (script : List ℕ) (inside : Bool) (c : Content)
    → AreGood g.schema false (script_lines script).lines inside
    → (script_lines script).stop ≡ None
    → (plans : List ℕ) × ExplainSays g script status.Done plans [] c
good_explained g script inside c good all =
    let plans = explained g.schema (indexed_fields g.schema g.definitions) 1 false
    (script_lines script).lines inside good in (
      plans.0,
      (
        record {
          ran = (script_lines script).lines;
          next = Ok None;
          first = (refl, all);
          inside = inside;
          explained = plans.1;
          ends = refl;
        },
        refl,
      ),
    )
