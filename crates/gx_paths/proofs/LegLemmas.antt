-- Legs, read one after the other.
use Rattle.std.proofs.Common.{◌≡◌, ℕ, zero, suc, ◌+◌, ◌<◌, true, false, List, [], ◌∷◌, ◌++◌, length, Result, Ok, Err, refl, sym, ◌∙◌, arith}
use Rattle.std.proofs.lemmas.Bool.{cond-true, cond-false}
use Rattle.std.proofs.lemmas.List.{length-append}
use Rattle.gx_schema.specs.declared.schema.Schema.{Schema}
use Rattle.gx_commands.specs.declared.command.LineWhy.{LineWhy}
use Rattle.gx_commands.specs.declared.command.LineWhy.TheVariants as why
use Rattle.gx_commands.specs.declared.command.NoCommand.{NoCommand}
use Rattle.gx_commands.specs.declared.command.NoCommand.TheVariants as no_command
use Rattle.gx_commands.specs.declared.path.Leg.{Leg}
use Rattle.gx_commands.specs.Paths.{most_legs}
use Rattle.gx_commands.specs.Words.{Word}
use Rattle.gx_commands.specs.Cutting.{is_end}
use Rattle.gx_script.specs.Reading.{Fails}
use Rattle.gx_script.specs.Paths.{leg_at, legs_at}
use Rattle.gx_script.proofs.Steps.{bind_is}

-- room for as many legs more as a path may have
pub record LegsGo (schema : Schema) (file : ℕ) (before : List Leg) (words : List Word)
    (total : Result (List Leg) LineWhy) : Type 0 where
  pub room : ℕ
  pub many : room + length before ≡ most_legs
  pub same : legs_at room schema file before words ≡ total

pub legs_begin : (schema : Schema) (file : ℕ) (words : List Word)
    → LegsGo schema file [] words (legs_at most_legs schema file [] words)
legs_begin schema file words = record { room = most_legs; many = omega arith; same = refl }

legs_on : (room : ℕ) (schema : Schema) (file : ℕ) (before : List Leg) (words after : List Word)
    (leg : Leg) (total : Result (List Leg) LineWhy) → room + length before ≡ most_legs
    → length before < most_legs → leg_at schema file words ≡ Ok (leg, after)
    → is_end after ≡ false → legs_at room schema file before words ≡ total
    → LegsGo schema leg.find.file (before ++ leg ∷ []) after total
unfolding legs_at
legs_on zero schema file before words after leg total many less read more so_far =
    absurd (omega arith)
legs_on (suc room) schema file before words after leg total many less read more so_far =
    let one : legs_at (suc room) schema file before words
    ≡ legs_at room schema leg.find.file (before ++ leg ∷ []) after =
    bind_is (leg_at schema file words) _ (leg, after) _ read (cond-false (is_end after) _ _ more) in
    record {
      room = room;
      many = omega (arith, many, length-append before (leg ∷ []));
      same = sym one ∙ so_far;
    }

pub legs_go_on : (schema : Schema) (file : ℕ) (before : List Leg) (words after : List Word)
    (leg : Leg) (total : Result (List Leg) LineWhy) → LegsGo schema file before words total
    → length before < most_legs → leg_at schema file words ≡ Ok (leg, after)
    → is_end after ≡ false → LegsGo schema leg.find.file (before ++ leg ∷ []) after total
legs_go_on schema file before words after leg total g less read more =
    legs_on g.room schema file before words after leg total g.many less read more g.same

legs_over : (room : ℕ) (schema : Schema) (file : ℕ) (before : List Leg) (words after : List Word)
    (leg : Leg) (total : Result (List Leg) LineWhy) → room + length before ≡ most_legs
    → length before < most_legs → leg_at schema file words ≡ Ok (leg, after)
    → is_end after ≡ true → legs_at room schema file before words ≡ total
    → total ≡ Ok (before ++ leg ∷ [])
unfolding legs_at
legs_over zero schema file before words after leg total many less read over so_far =
    absurd (omega arith)
legs_over (suc room) schema file before words after leg total many less read over so_far =
    let one : legs_at (suc room) schema file before words ≡ Ok (before ++ leg ∷ []) =
    bind_is (leg_at schema file words) _ (leg, after) _ read (cond-true (is_end after) _ _ over) in
    sym so_far ∙ one

pub legs_end : (schema : Schema) (file : ℕ) (before : List Leg) (words after : List Word)
    (leg : Leg) (total : Result (List Leg) LineWhy) → LegsGo schema file before words total
    → length before < most_legs → leg_at schema file words ≡ Ok (leg, after)
    → is_end after ≡ true → total ≡ Ok (before ++ leg ∷ [])
legs_end schema file before words after leg total g less read over =
    legs_over g.room schema file before words after leg total g.many less read over g.same

leg_bad : (room : ℕ) (schema : Schema) (file : ℕ) (before : List Leg) (words : List Word)
    (reason : LineWhy) (total : Result (List Leg) LineWhy) → room + length before ≡ most_legs
    → length before < most_legs → leg_at schema file words ≡ Err reason
    → legs_at room schema file before words ≡ total → total ≡ Err reason
unfolding legs_at
leg_bad zero schema file before words reason total many less read so_far = absurd (omega arith)
leg_bad (suc room) schema file before words reason total many less read so_far =
    let one : legs_at (suc room) schema file before words ≡ Err reason = rw read refl in
    sym so_far ∙ one

pub leg_fails : (schema : Schema) (file : ℕ) (before : List Leg) (words : List Word)
    (e : NoCommand) (total : Result (List Leg) LineWhy) → LegsGo schema file before words total
    → length before < most_legs → Fails e (leg_at schema file words) → Fails e total
leg_fails schema file before words no_command.NoMemory total g less h = tt
leg_fails schema file before words (no_command.Bad reason) total g less h =
    leg_bad g.room schema file before words reason total g.many less h g.same

legs_out : (room : ℕ) (schema : Schema) (file : ℕ) (before : List Leg) (words : List Word)
    (total : Result (List Leg) LineWhy) → room + length before ≡ most_legs
    → (length before < most_legs → ⊥) → legs_at room schema file before words ≡ total
    → total ≡ Err why.Word
unfolding legs_at
legs_out zero schema file before words total many full so_far = sym so_far
legs_out (suc room) schema file before words total many full so_far =
    absurd (full (omega (arith, many)))

-- no room for a leg more
pub legs_full : (schema : Schema) (file : ℕ) (before : List Leg) (words : List Word)
    (total : Result (List Leg) LineWhy) → LegsGo schema file before words total
    → (length before < most_legs → ⊥) → total ≡ Err why.Word
legs_full schema file before words total g full =
    legs_out g.room schema file before words total g.many full g.same
