-- A play with paths is one.
use Rattle.std.proofs.Common.{◌≡◌, ℕ, Bool, true, false, List, Result, Ok, Err, sym, ap, ◌∙◌}
use Rattle.gx_schema.specs.declared.schema.Schema.{Schema}
use Rattle.gx_commands.specs.declared.command.LineWhy.{LineWhy}
use Rattle.gx_commands.specs.declared.path.PathQuery.{PathQuery}
use Rattle.gx_script.specs.Paths.{is_path, IsPathLine, IsPathReading}
use Rattle.gx_script.proofs.PathLaws.{path_line_again, one_path_reading}
use Rattle.gx_model.specs.Play.{Playing, is_inside, seen_state}
use Rattle.gx_model.specs.Runs.{Step, IsBadLine}
use Rattle.gx_model.specs.Paths.{PathStep, PathOr, path_text, with_paths}
use Rattle.gx_model.proofs.LanguageLemmas.{IsDefinite}
use Rattle.gx_model.proofs.RunLemmas.{step_once, bad_once, step_not_bad}

abbrev query_or : PathQuery → Result PathQuery LineWhy → PathQuery
query_or d (Ok q) = q
query_or d (Err why) = d

abbrev fault_or : LineWhy → Result PathQuery LineWhy → LineWhy
fault_or d (Ok q) = d
fault_or d (Err why) = why

query_once : (schema : Schema) (line : List ℕ) (q r : PathQuery) → IsPathLine schema line q
    → IsPathLine schema line r → q ≡ r
query_once schema line q r x y =
    ap (query_or q) (one_path_reading schema line (Ok q) (Ok r) (path_line_again schema line q x)
    (path_line_again schema line r y))

path_once : (schema : Schema) (p : Playing) (line a b : List ℕ) (q r : Playing)
    → PathStep schema p line a q → PathStep schema p line b r → (a ≡ b) × (q ≡ r)
path_once schema p line a b q r x y = (
  x.answered ∙ ap (path_text schema (seen_state p)) (query_once schema line x.query y.query x.means
      y.means) ∙ sym y.answered,
  x.next_is ∙ sym y.next_is,
)

path_not_bad : (schema : Schema) (p : Playing) (line a : List ℕ) (q : Playing) (why : LineWhy)
    → PathStep schema p line a q → IsPathReading schema line (Err why) → ⊥
path_not_bad schema p line a q why x y =
    let e = one_path_reading schema line (Ok x.query) (Err why)
    (path_line_again schema line x.query x.means) y in
    cc

pub definite_with_paths : (schema : Schema) → IsDefinite (with_paths schema)
definite_with_paths schema = record {
  goes_once = λ p line a b q r x y. goes (is_path line) p line a b q r x y;
  bad_once = λ p line why other x y. bad (is_path line) p line why other x y;
  never_both = λ p line a q why x y. both (is_path line) p line a q why x y;
}
  where
    goes : (t : Bool) (p : Playing) (line a b : List ℕ) (q r : Playing)
        → PathOr t (PathStep schema p line a q) (Step schema p line a q)
        → PathOr t (PathStep schema p line b r) (Step schema p line b r) → (a ≡ b) × (q ≡ r)
    goes true p line a b q r x y = path_once schema p line a b q r x y
    goes false p line a b q r x y = step_once schema p line a b q r x y

    bad : (t : Bool) (p : Playing) (line : List ℕ) (why other : LineWhy)
        → PathOr t (IsPathReading schema line (Err why))
        (IsBadLine schema (is_inside p) line why)
        → PathOr t (IsPathReading schema line (Err other))
        (IsBadLine schema (is_inside p) line other) → why ≡ other
    bad true p line why other x y =
        ap (fault_or why) (one_path_reading schema line (Err why) (Err other) x y)
    bad false p line why other x y = bad_once schema (is_inside p) line why other x y

    both : (t : Bool) (p : Playing) (line a : List ℕ) (q : Playing) (why : LineWhy)
        → PathOr t (PathStep schema p line a q) (Step schema p line a q)
        → PathOr t (IsPathReading schema line (Err why)) (IsBadLine schema (is_inside p) line why)
        → ⊥
    both true p line a q why x y = path_not_bad schema p line a q why x y
    both false p line a q why x y = step_not_bad schema p line a q why x y
