-- A path has at most as many conditions as bytes: each of them has a word, and each word a byte.
use Rattle.std.proofs.Common.{ℕ, ◌+◌, ◌<◌, ◌≤◌, List, [], ◌∷◌, length, Result, Ok, Err, ap, arith}
use Rattle.std.specs.Prelude.{IfOk}
use Rattle.std.specs.List.{AllByRecursion}
use Rattle.gx_schema.specs.declared.schema.FileDef.{FileDef}
use Rattle.gx_schema.specs.declared.schema.Schema.{Schema}
use Rattle.gx_schema.specs.Lookups.{file_at}
use Rattle.gx_commands.specs.declared.command.Cond.{Cond}
use Rattle.gx_commands.specs.declared.command.NoCommand.{NoCommand}
use Rattle.gx_commands.specs.declared.path.Way.{Way}
use Rattle.gx_commands.specs.declared.path.Way.TheVariants.{Down, Up}
use Rattle.gx_commands.specs.declared.path.Leg.{Leg}
use Rattle.gx_commands.specs.declared.path.PathQuery.{PathQuery}
use Rattle.gx_commands.specs.Words.{Word, AreWords}
use Rattle.gx_commands.proofs.WordLaws.{first_shorter}
use Rattle.gx_script.specs.Grammar.{CondWords, CondsWords, WhereWords}
use Rattle.gx_script.specs.Paths.{WayWords, LegsWords, PathWords, IsPathLine}
use Rattle.gx_paths.specs.Few.{HasAtMost}

words_few : (line : List ℕ) (ws : List Word) → AreWords line ws → length ws ≤ length line
words_few line [] h = omega arith
words_few line (w ∷ ws) h = omega (arith, words_few h.0 ws h.2, first_shorter line w h.0 h.1)

cond_less : (file : FileDef) (c : Cond) (words rest : List Word) → CondWords file c words rest
    → length rest < length words
cond_less file c words rest h =
    omega (arith, ap length h.1.1, ap length h.2.1, ap length h.2.2.1)

conds_few : (file : FileDef) (cs : List Cond) (words rest : List Word)
    → CondsWords file cs words rest → length cs + length rest ≤ length words
conds_few file [] words rest h = absurd h
conds_few file (c ∷ []) words rest h = omega (arith, cond_less file c words rest h)
conds_few file (c ∷ d ∷ cs) words rest h =
    omega (
      arith,
      cond_less file c words h.0 h.1,
      ap length h.2.1,
      conds_few file (d ∷ cs) h.2.0 rest h.2.2,
    )

where_few : (file : FileDef) (cs : List Cond) (words rest : List Word)
    → WhereWords file cs words rest → length cs + length rest ≤ length words
where_few file [] words rest h = omega (arith, ap length h)
where_few file (c ∷ cs) words rest h =
    omega (arith, ap length h.1, conds_few file (c ∷ cs) h.0 rest h.2)

way_less : (schema : Schema) (way : Way) (words rest : List Word) → WayWords schema way words rest
    → length rest < length words
way_less schema (Down link) words rest h = omega (arith, ap length h.1, ap length h.2.1)
way_less schema (Up link) words rest h = omega (arith, ap length h.1, ap length h.2.1)

legs_few : (schema : Schema) (legs : List Leg) (most : ℕ) (words rest : List Word)
    → LegsWords schema legs words rest → length words ≤ most
    → AllByRecursion (λ (leg : Leg). length leg.find.conds ≤ most) legs
legs_few schema [] most words rest h few = tt
legs_few schema (leg ∷ legs) most words rest h few =
    let way : length h.0 < length words = way_less schema leg.way words h.0 h.1 in
    let own : length leg.find.conds + length h.2.0 ≤ length h.0 =
    where_few (file_at schema leg.find.file) leg.find.conds h.0 h.2.0 h.2.1 in (
      omega (arith, few, way, own),
      legs_few schema legs most h.2.0 rest h.2.2 (omega (arith, few, way, own)),
    )

path_few : (schema : Schema) (q : PathQuery) (most : ℕ) (words rest : List Word)
    → PathWords schema q words rest → length words ≤ most → HasAtMost most q
path_few schema q most words rest h few =
    let file = h.2 in
    let conds = file.2 in
    let own : length q.first.conds + length conds.0 ≤ length file.0 =
    where_few (file_at schema q.first.file) q.first.conds file.0 conds.0 conds.1 in
    let before : length file.0 ≤ most = omega (arith, few, ap length h.1, ap length file.1.1) in
    record {
      first = omega (arith, own, before);
      legs = legs_few schema q.legs most conds.0 rest conds.2 (omega (arith, own, before));
    }

pub has_at_most : (schema : Schema) (line : List ℕ) (r : Result PathQuery NoCommand)
    → IfOk r (λ q. IsPathLine schema line q) → IfOk r (λ q. HasAtMost (length line) q)
has_at_most schema line (Ok q) h =
    let words = h.1 in
    path_few schema q (length line) words.0 [] words.2.text (words_few line words.0 words.1)
has_at_most schema line (Err e) h = tt
