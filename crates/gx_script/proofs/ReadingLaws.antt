-- Whole lines.
use Rattle.std.proofs.Common.{◌≡◌, ℕ, Bool, true, false, List, [], ◌∷◌, Result, Ok, Err, sym, ap, subst, ◌∙◌, inl, inr}
use Rattle.std.specs.Prelude.{IsTrue, IfOk}
use Rattle.std.specs.List.{list_all}
use Rattle.gx_schema.specs.declared.schema.Schema.{Schema}
use Rattle.gx_schema.specs.WellFormed.{IsWellFormed}
use Rattle.gx_commands.specs.declared.command.Command.{Command}
use Rattle.gx_commands.specs.declared.command.Command.TheVariants as command
use Rattle.gx_commands.specs.declared.command.LineWhy.{LineWhy}
use Rattle.gx_commands.specs.declared.command.NoCommand.{NoCommand}
use Rattle.gx_commands.specs.declared.command.NoCommand.TheVariants as no_command
use Rattle.gx_commands.specs.Commands.{IsOfSchema}
use Rattle.gx_commands.specs.Words.{Word, is_character, is_comment, AreWords}
use Rattle.gx_commands.specs.Cutting.{words_in}
use Rattle.gx_script.specs.Reading.{reading, Gives, IsReading, AnswersUnlessNoMemory}
use Rattle.gx_script.specs.Grammar.{IsLineOf}
use Rattle.gx_script.proofs.Steps.{done, ok_is}
use Rattle.gx_script.proofs.WordMeanings.{AllWords}
use Rattle.gx_commands.proofs.CuttingLaws.{HasWords, words_of_line}
use Rattle.gx_script.proofs.CommandLaws.{reading_found, reading_again}

pub words_are : (line : List ℕ) (words : List Word) → AreWords line words → AllWords words
words_are line [] h = tt
words_are line (w ∷ ws) h = let f = h.1 in (f.is_word, words_are h.0 ws h.2)

pub words_same : (line : List ℕ) (words others : List Word) → AreWords line words
    → AreWords line others → words ≡ others
words_same line words others h k = sym (words_of_line line words h) ∙ words_of_line line others k

pub words_read : (schema : Schema) (line : List ℕ) (r : Result Command NoCommand)
    → is_comment line ≡ false → IsTrue (list_all is_character line) → HasWords line
    → Gives (λ c. c) r (reading schema (words_in line))
    → AnswersUnlessNoMemory r (IsReading schema line)
words_read schema line (Ok c) no_comment characters words e =
    inr
    (inr (inr (
      no_comment,
      characters,
      (words.0, words.1, sym e ∙ ap (reading schema) (words_of_line line words.0 words.1)),
    )))
words_read schema line (Err (no_command.Bad reason)) no_comment characters words e =
    inr
    (inr (inr (
      no_comment,
      characters,
      (words.0, words.1, sym e ∙ ap (reading schema) (words_of_line line words.0 words.1)),
    )))
words_read schema line (Err no_command.NoMemory) no_comment characters words e = tt

pub line_found : (schema : Schema) (line : List ℕ) (c : Command) → IsWellFormed schema
    → IsReading schema line (Ok c) → IsLineOf schema line c
line_found schema line c whole (inl r) = inl (r.0, ok_is c command.Nothing r.1)
line_found schema line c whole (inr (inl r)) = absurd (let e = r.2 in cc)
line_found schema line c whole (inr (inr (inl r))) = absurd (let e = r.3 in cc)
line_found schema line c whole (inr (inr (inr r))) = let w = r.2 in
    inr (r.0, r.1, (w.0, w.1, reading_found schema w.0 c whole (words_are line w.0 w.1) (sym w.2)))

pub is_found : (schema : Schema) (line : List ℕ) (r : Result Command NoCommand)
    → IsWellFormed schema → AnswersUnlessNoMemory r (IsReading schema line)
    → IfOk r (λ c. IsLineOf schema line c)
is_found schema line (Ok c) whole h = line_found schema line c whole h
is_found schema line (Err e) whole h = tt

rules_of : (schema : Schema) (line : List ℕ) (c : Command) → IsLineOf schema line c
    → IsOfSchema schema c
rules_of schema line c (inl h) = subst (IsOfSchema schema) (sym h.1) tt
rules_of schema line c (inr h) = let m = h.2.2 in m.rules

pub is_of_schema : (schema : Schema) (line : List ℕ) (r : Result Command NoCommand)
    → IfOk r (λ c. IsLineOf schema line c) → IfOk r (λ c. IsOfSchema schema c)
is_of_schema schema line (Ok c) h = rules_of schema line c h
is_of_schema schema line (Err e) h = tt

pub differ : {A : Type 0} (b : Bool) → b ≡ true → b ≡ false → A
differ b t f = absurd cc

pub reading_of_line : (schema : Schema) (line : List ℕ) (c : Command) → IsLineOf schema line c
    → IsReading schema line (Ok c)
reading_of_line schema line c (inl h) = inl (h.0, ap done h.1)
reading_of_line schema line c (inr h) = let w = h.2 in
    inr (inr (inr (h.0, h.1, (w.0, w.1, sym (reading_again schema w.0 c w.2)))))

pub one_reading : (schema : Schema) (line : List ℕ) (given other : Result Command LineWhy)
    → IsReading schema line given → IsReading schema line other → given ≡ other
one_reading schema line given other (inl a) (inl b) = a.1 ∙ sym b.1
one_reading schema line given other (inl a) (inr (inl b)) = differ (is_comment line) a.0 b.0
one_reading schema line given other (inl a) (inr (inr (inl b))) = differ (is_comment line) a.0 b.0
one_reading schema line given other (inl a) (inr (inr (inr b))) = differ (is_comment line) a.0 b.0
one_reading schema line given other (inr (inl a)) (inl b) = differ (is_comment line) b.0 a.0
one_reading schema line given other (inr (inl a)) (inr (inl b)) = a.2 ∙ sym b.2
one_reading schema line given other (inr (inl a)) (inr (inr (inl b))) =
    differ (list_all is_character line) b.1 a.1
one_reading schema line given other (inr (inl a)) (inr (inr (inr b))) =
    differ (list_all is_character line) b.1 a.1
one_reading schema line given other (inr (inr (inl a))) (inl b) = differ (is_comment line) b.0 a.0
one_reading schema line given other (inr (inr (inl a))) (inr (inl b)) =
    differ (list_all is_character line) a.1 b.1
one_reading schema line given other (inr (inr (inl a))) (inr (inr (inl b))) = a.3 ∙ sym b.3
one_reading schema line given other (inr (inr (inl a))) (inr (inr (inr b))) = let w = b.2 in
    absurd (a.2 w.0 w.1)
one_reading schema line given other (inr (inr (inr a))) (inl b) = differ (is_comment line) b.0 a.0
one_reading schema line given other (inr (inr (inr a))) (inr (inl b)) =
    differ (list_all is_character line) a.1 b.1
one_reading schema line given other (inr (inr (inr a))) (inr (inr (inl b))) = let w = a.2 in
    absurd (b.2 w.0 w.1)
one_reading schema line given other (inr (inr (inr a))) (inr (inr (inr b))) =
    let w = a.2 in let v = b.2 in
    w.2 ∙ (ap (reading schema) (words_same line w.0 v.0 w.1 v.1) ∙ sym v.2)

pub is_only : (schema : Schema) (line : List ℕ) (r : Result Command NoCommand)
    → AnswersUnlessNoMemory r (IsReading schema line) → (c : Command) → IsLineOf schema line c
    → AnswersUnlessNoMemory r (λ given. given ≡ Ok c)
is_only schema line (Ok d) h c l =
    one_reading schema line (Ok d) (Ok c) h (reading_of_line schema line c l)
is_only schema line (Err (no_command.Bad reason)) h c l =
    one_reading schema line (Err reason) (Ok c) h (reading_of_line schema line c l)
is_only schema line (Err no_command.NoMemory) h c l = tt
