-- Reading terms.
use Rattle.std.specs.Prelude.{ℕ, zero, suc, false, List, [], ◌∷◌, ◌++◌, length, Result, Ok, Err, if◌then◌else◌}
use Rattle.gx_tokens.specs.declared.fault.Fault.{Fault}
use Rattle.gx_tokens.specs.declared.why.Why.TheVariants as why
use Rattle.gx_tokens.specs.Lexemes.{after_blanks}
use Rattle.gx_tokens.specs.Reading.{◌>>=◌, want, a_close, a_comma, comma_or_close, fault_at}
use Rattle.gx_equation.specs.declared.heads.Head.{Head}
use Rattle.gx_equation.specs.Heads.{head_at}
use Rattle.gx_equation.specs.Trees.{TermTree, node, kids_from, Arity, No_kids, One_kid, Two_kids, Some_kids, arity}

-- the place of the first token: how many bytes are left with it
abbrev pub left_of : List ℕ → ℕ
left_of bytes = length (after_blanks false bytes)

-- Reading is given the places of the heads so far, and gives those of its own behind them.
abbrev pub Reader : Type 0
Reader = List ℕ → List ℕ → Result ((TermTree × List ℕ) × List ℕ) Fault

-- the terms before, and those of the text up to the `)`; there is fuel for each byte, so that it
-- never runs out
unfoldable pub kids_at : Reader → ℕ → List TermTree → List ℕ → List ℕ
    → Result ((List TermTree × List ℕ) × List ℕ) Fault
kids_at term zero before places bytes = want (λ _. Err why.Count) bytes
kids_at term (suc fuel) before places bytes = do
  t ← term places bytes
  more ← want comma_or_close t.1
  if more.0 then kids_at term fuel (before ++ t.0.0 ∷ []) t.0.1 more.1
      else Ok ((before ++ t.0.0 ∷ [], t.0.1), more.1)

-- so many terms, up to the `)`
abbrev pub kids_behind : Reader → Arity → List ℕ → List ℕ
    → Result ((List TermTree × List ℕ) × List ℕ) Fault
kids_behind term No_kids places bytes = Ok (([], places), bytes)
kids_behind term One_kid places bytes = do
  t ← term places bytes
  closed ← want a_close t.1
  Ok ((t.0.0 ∷ [], t.0.1), closed.1)
kids_behind term Two_kids places bytes = do
  t ← term places bytes
  comma ← want a_comma t.1
  u ← term t.0.1 comma.1
  closed ← want a_close u.1
  Ok ((t.0.0 ∷ u.0.0 ∷ [], u.0.1), closed.1)
kids_behind term Some_kids places bytes = kids_at term (suc (length bytes)) [] places bytes

unfoldable pub term_behind : Reader → Head → Reader
term_behind term top places bytes = do
  x ← kids_behind term (arity top) places bytes
  Ok ((node top (kids_from x.0.0), x.0.1), x.1)

-- a term of at most so many levels of heads
unfoldable pub term_at : ℕ → Reader
term_at zero places bytes = do
  x ← head_at zero bytes
  Err (fault_at bytes why.Depth)
term_at (suc levels) places bytes = do
  x ← head_at (suc levels) bytes
  term_behind (term_at levels) x.0 (places ++ left_of bytes ∷ []) x.1
