-- Reading sides, definitions and a whole equation.
use Rattle.std.specs.Prelude.{ℕ, zero, suc, nat_eq, List, [], ◌∷◌, ◌++◌, length, map, Option, Some, None, Result, Ok, Err, if◌then◌else◌, codes}
use Rattle.std.specs.Cmp.Lexicographic.{pointwise}
use Rattle.gx_tokens.specs.declared.fault.Fault.{Fault}
use Rattle.gx_tokens.specs.declared.why.Why.{Why}
use Rattle.gx_tokens.specs.declared.why.Why.TheVariants as why
use Rattle.gx_tokens.specs.Lexemes.{Lexeme, Word, End}
use Rattle.gx_tokens.specs.Lines.{line_of}
use Rattle.gx_tokens.specs.Reading.{◌>>=◌, want, an_open, an_equals, a_word, unexpected}
use Rattle.gx_equation.specs.declared.heads.Linkset.{Linkset}
use Rattle.gx_equation.specs.declared.heads.Linkset.TheVariants as linksets
use Rattle.gx_equation.specs.Terms.{left_of, kids_behind, term_at}
use Rattle.gx_equation.specs.Trees.{linkset_arity, SideTree, file_side, link_side, DefinitionTree}

-- the head of a link's side that this word is, if it is one
unfoldable pub linkset_of_word : List ℕ → Option Linkset
linkset_of_word word =
    if pointwise nat_eq word (codes "array") then Some linksets.Array
    else (if pointwise nat_eq word (codes "ring") then Some linksets.Ring
    else (if pointwise nat_eq word (codes "inverted") then Some linksets.Inverted
    else None))

-- the head of a link's side, or none where a term is due
abbrev pub a_side : Lexeme → Result (Option Linkset) Why
a_side (Word text) = Ok (linkset_of_word text)
a_side other = Ok None

-- the name of one more definition, or none at the end
abbrev pub a_start : Lexeme → Result (Option (List ℕ)) Why
a_start (Word text) = Ok (Some text)
a_start End = Ok None
a_start other = unexpected other

unfoldable pub file_side_at : List ℕ → List ℕ → Result ((SideTree × List ℕ) × List ℕ) Fault
file_side_at places bytes = do
  t ← term_at 16 places bytes
  Ok ((file_side t.0.0, t.0.1), t.1)

unfoldable pub link_side_at : Linkset → List ℕ → List ℕ
    → Result ((SideTree × List ℕ) × List ℕ) Fault
link_side_at linkset places bytes = do
  opened ← want an_open bytes
  terms ← kids_behind (term_at 15) (linkset_arity linkset) places opened.1
  Ok ((link_side linkset terms.0.0, terms.0.1), terms.1)

unfoldable pub side_at : List ℕ → List ℕ → Result ((SideTree × List ℕ) × List ℕ) Fault
side_at places bytes = do
  x ← want a_side bytes
  elim x.0 [
    | None ↦ file_side_at places bytes
    | Some linkset ↦ link_side_at linkset (places ++ left_of bytes ∷ []) x.1
  ]

-- a definition of this name, behind the name
unfoldable pub definition_behind : List ℕ → List ℕ → List ℕ
    → Result ((DefinitionTree × List ℕ) × List ℕ) Fault
definition_behind name places bytes = do
  equals ← want an_equals bytes
  side ← side_at places equals.1
  Ok ((record { name = name; side = side.0.0 }, side.0.1), side.1)

-- the definitions before, and those of the text up to its end; there is fuel for each byte, so that
-- it never runs out
unfoldable pub definitions_at : ℕ → List DefinitionTree → List ℕ → List ℕ
    → Result (List DefinitionTree × List ℕ) Fault
definitions_at zero before places bytes = do
  x ← want (λ _. Err why.Count) bytes
  Ok x.0
definitions_at (suc fuel) before places bytes = do
  start ← want a_start bytes
  elim start.0 [
    | None ↦ Ok (before, places)
    | Some name ↦ definition_behind name (places ++ left_of bytes ∷ []) start.1 >>= λ d.
        definitions_at fuel (before ++ d.0.0 ∷ []) d.0.1 d.1
  ]

-- the definitions of a whole text, and the places of their names and heads
unfoldable pub equation_at : List ℕ → Result (List DefinitionTree × List ℕ) Fault
equation_at bytes = do
  name ← want a_word bytes
  d ← definition_behind name.0 (left_of bytes ∷ []) name.1
  definitions_at (suc (length d.1)) (d.0.0 ∷ []) d.0.1 d.1

-- the line of each place, and then the text's last
abbrev pub lines_of : List ℕ → List ℕ → List ℕ
lines_of bytes places = map (line_of bytes) places ++ line_of bytes 0 ∷ []

abbrev pub with_lines : List ℕ → List DefinitionTree × List ℕ → List DefinitionTree × List ℕ
with_lines bytes x = (x.0, lines_of bytes x.1)
