-- `explain`: the plan of each `find` of the script, and the direction of each path.
use Rattle.std.specs.Prelude.{◌≡◌, ◌⊎◌, ℕ, List, [], take}
use Rattle.gx_device.specs.Content.{Content}
use Rattle.gx_commands.specs.declared.command.LineWhy.{LineWhy}
use Rattle.gx_commands.specs.Lines.{script_lines}
use Rattle.gx_model.specs.Play.{good, stopped, end_text}
use Rattle.gx_play.specs.declared.status.Status.{Status}
use Rattle.gx_play.specs.declared.status.Status.TheVariants as status
use Rattle.gx_play.specs.Endings.{memory_line}
use Rattle.gx_explain.specs.Explained.{indexed_fields, IsExplainedTo, AreFirstExplained}
use Rattle.gx_play.specs.Say.{SameDevices}
use Rattle.gx_operations.specs.Given.{Given}
use Rattle.gx_operations.specs.Promises.{Promise}

-- the plans, and the line of the end
abbrev pub ExplainSays : Given → List ℕ → Status → List ℕ → List ℕ → Content → Type 0
ExplainSays g script status.Done plans line new =
    IsExplainedTo g.schema (indexed_fields g.schema g.definitions) (script_lines script) good plans
    × (line ≡ [])
ExplainSays g script status.Script plans line new =
    (number : ℕ) × (why : LineWhy)
    × IsExplainedTo g.schema (indexed_fields g.schema g.definitions) (script_lines script)
    (stopped number why) plans
    × (line ≡ end_text (stopped number why))
ExplainSays g script status.Memory plans line new =
    AreFirstExplained g.schema (indexed_fields g.schema g.definitions) (script_lines script) plans
    × (line ≡ memory_line)
ExplainSays g script other plans line new = ⊥

-- a front of the plans and directions of first lines
abbrev pub ExplainBreaks : Given → List ℕ → List ℕ → Content → Type 0
ExplainBreaks g script told new =
    (plans : List ℕ) × (count : ℕ)
    × AreFirstExplained g.schema (indexed_fields g.schema g.definitions) (script_lines script) plans
    × (told ≡ take count plans)

abbrev pub explains : Given → Content → Promise
explains g old = record {
  Says = ExplainSays g old.script;
  Breaks = ExplainBreaks g old.script;
  Due = λ s. (plans : List ℕ) × (line : List ℕ) × ((s ≡ status.Done) ⊎ (s ≡ status.Script))
      × ExplainSays g old.script s plans line old;
  Leaves = λ new s. SameDevices old new × (s ≡ status.Done → new.script ≡ []);
  Crashes = λ new. Unit {0};
}
