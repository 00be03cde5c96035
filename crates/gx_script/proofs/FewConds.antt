-- A line has at most as many conditions as bytes: each of them has a word, and each word a byte.
use Rattle.std.proofs.Common.{ℕ, ◌+◌, ◌<◌, ◌≤◌, List, [], ◌∷◌, length, Result, Ok, Err, sym, ap, subst, arith, inl, inr}
use Rattle.std.specs.Prelude.{IfOk}
use Rattle.gx_values.specs.declared.values.Value.{Value}
use Rattle.gx_schema.specs.declared.schema.FileDef.{FileDef}
use Rattle.gx_schema.specs.declared.schema.Schema.{Schema}
use Rattle.gx_schema.specs.Lookups.{file_at}
use Rattle.gx_commands.specs.declared.command.Cond.{Cond}
use Rattle.gx_commands.specs.declared.command.Command.{Command}
use Rattle.gx_commands.specs.declared.command.Command.TheVariants as command
use Rattle.gx_commands.specs.declared.command.NoCommand.{NoCommand}
use Rattle.gx_commands.specs.Words.{Word, AreWords}
use Rattle.gx_commands.specs.Commands.{conds_of}
use Rattle.gx_script.specs.Grammar.{Literal, CondWords, CondsWords, WhereWords, CommandWords, IsLineOf}
use Rattle.gx_commands.proofs.WordLaws.{first_shorter}

words_few : (line : List ℕ) (ws : List Word) → AreWords line ws → length ws ≤ length line
words_few line [] h = omega arith
words_few line (w ∷ ws) h = omega (arith, words_few h.0 ws h.2, first_shorter line w h.0 h.1)

literal_less : (v : Value) (words rest : List Word) → Literal v words rest
    → length rest < length words
literal_less v words rest h = omega (arith, ap length h.1)

cond_less : (file : FileDef) (c : Cond) (words rest : List Word) → CondWords file c words rest
    → length rest < length words
cond_less file c words rest h =
    omega (arith, ap length h.1.1, ap length h.2.1, literal_less c.bound h.2.0 rest h.2.2)

conds_few : (file : FileDef) (cs : List Cond) (words rest : List Word)
    → CondsWords file cs words rest → length cs + length rest ≤ length words
conds_few file [] words rest h = absurd h
conds_few file (c ∷ []) words rest h = omega (arith, cond_less file c words rest h)
conds_few file (c ∷ d ∷ cs) words rest h =
    omega (
      arith,
      cond_less file c words h.0 h.1,
      ap length h.2.1,
      conds_few file (d ∷ cs) h.2.0 rest h.2.2,
    )

where_few : (file : FileDef) (cs : List Cond) (words rest : List Word)
    → WhereWords file cs words rest → length cs ≤ length words
where_few file [] words rest h = omega arith
where_few file (c ∷ cs) words rest h =
    omega (arith, ap length h.1, conds_few file (c ∷ cs) h.0 rest h.2)

command_few : (schema : Schema) (c : Command) (words : List Word) → CommandWords schema c words []
    → length (conds_of c) ≤ length words
command_few schema (command.Find q) words h =
    omega (
      arith,
      ap length h.1,
      ap length h.2.1.1,
      where_few (file_at schema q.file) q.conds h.2.0 h.2.2.0 h.2.2.1,
    )
command_few schema _ words h = omega arith

line_few : (schema : Schema) (line : List ℕ) (c : Command) → IsLineOf schema line c
    → length (conds_of c) ≤ length line
line_few schema line c (inl h) =
    subst (λ (d : Command). length (conds_of d) ≤ length line) (sym h.1) (omega arith)
line_few schema line c (inr h) = let w = h.2 in
    omega (arith, words_few line w.0 w.1, command_few schema c w.0 w.2.words)

pub few_conds : (schema : Schema) (line : List ℕ) (r : Result Command NoCommand)
    → IfOk r (λ c. IsLineOf schema line c) → IfOk r (λ c. length (conds_of c) ≤ length line)
few_conds schema line (Ok c) h = line_few schema line c h
few_conds schema line (Err e) h = tt
