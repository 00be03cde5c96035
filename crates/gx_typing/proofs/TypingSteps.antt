-- Steps of typing.
use Rattle.std.proofs.Common.{◌≡◌, ℕ, suc, List, [], ◌∷◌, length, Result, Ok, Err, refl, sym, ap, ◌∙◌}
use Rattle.gx_values.specs.declared.records.Form.{Form}
use Rattle.gx_equation.specs.declared.equation.Term.{Term}
use Rattle.gx_equation.specs.declared.heads.Head.{Head}
use Rattle.gx_equation.specs.declared.heads.Head.TheVariants as heads
use Rattle.gx_equation.specs.Trees.{TermTree, Trees, node, kids_from}
use Rattle.gx_equation.specs.Seen.{trees_of}
use Rattle.gx_typing.specs.declared.reasons.TypeWhy.{TypeWhy}
use Rattle.gx_typing.specs.declared.typing.Typing.{Typing}
use Rattle.gx_typing.specs.Rows.{row}
use Rattle.gx_forms.specs.Forms.{kid_form}
use Rattle.gx_typing.specs.Typing.{other_lines, at, count, term_row, with_head, typed_at, kids_typed}
use Rattle.gx_typing.proofs.RowLaws.{row_found}

pub count_kids : (ts : List Term) → count (kids_from (trees_of ts)) ≡ length ts
count_kids [] = refl
count_kids (t ∷ ts) = ap suc (count_kids ts)

pub at_ok : (lines : List ℕ) (r : Result (Unit {0}) TypeWhy) (u : Unit {0}) → at lines r ≡ Ok u
    → r ≡ Ok u
at_ok lines (Ok x) u e = refl
at_ok lines (Err w) u e = absurd cc

-- the conditions of a head are met
pub goes_on : (owner : ℕ) (form : Form) (s : TermTree) (top : Head) (kids : Trees)
    (r : Result (Unit {0}) TypeWhy) (u : Unit {0}) (lines : List ℕ) (typing : Typing)
    → s ≡ node top kids → r ≡ term_row form s → at lines r ≡ Ok u
    → with_head owner top form typing ≡ Ok typing
    → typed_at owner form s lines typing ≡ kids_typed owner (kid_form top form) 0 kids
    (other_lines lines) typing
goes_on owner form s top kids r u lines typing is asked met leaf =
    let k : row top form (count kids) ≡ Ok u = sym (asked ∙ ap (term_row form) is)
    ∙ at_ok lines r u met in
    ap (λ (x : TermTree). typed_at owner form x lines typing) is ∙ rw (k, leaf) refl

-- `transpose` has a child for each field
pub each_one : (form : Form) (s : TermTree) (ts : List Term) (r : Result (Unit {0}) TypeWhy)
    (u : Unit {0}) (lines : List ℕ)
    → s ≡ node heads.Transpose (kids_from (trees_of ts)) → r ≡ term_row form s → at lines r ≡ Ok u
    → length ts ≡ length form.fields
each_one form s ts r u lines is asked met =
    let k : row heads.Transpose form (count (kids_from (trees_of ts))) ≡ Ok u =
    sym (asked ∙ ap (term_row form) is) ∙ at_ok lines r u met in
    sym (count_kids ts) ∙ (row_found heads.Transpose form (count (kids_from (trees_of ts))) u
    k).each
