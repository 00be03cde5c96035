-- Terms whose child has a form that a program keeps in its own way.
use Rattle.std.proofs.Common.{◌≡◌, ℕ, List, Box, Global, Result, Ok, Err, inl, inr, refl, sym, ap, ◌∙◌}
use Rattle.gx_values.specs.declared.values.Kind.{Kind}
use Rattle.gx_values.specs.declared.records.Form.{Form}
use Rattle.gx_equation.specs.declared.heads.Head.{Head}
use Rattle.gx_equation.specs.declared.heads.Head.TheVariants as heads
use Rattle.gx_equation.specs.declared.heads.Linkset.TheVariants as linksets
use Rattle.gx_equation.specs.declared.equation.Term.{Term}
use Rattle.gx_equation.specs.declared.equation.Side.{Side}
use Rattle.gx_equation.specs.declared.equation.Side.TheVariants as sides
use Rattle.gx_equation.specs.Seen.{tree_of, side_of}
use Rattle.gx_typing.specs.Sides.{link_typed}
use Rattle.gx_equation.specs.Trees.{TermTree, head_of, node, none, kid}
use Rattle.gx_typing.specs.declared.reasons.TypeWhy.{TypeWhy}
use Rattle.gx_typing.specs.declared.reasons.Untyped.{Untyped}
use Rattle.gx_typing.specs.declared.reasons.Untyped.TheVariants as untyped
use Rattle.gx_typing.specs.declared.typing.Typing.{Typing}
use Rattle.gx_typing.specs.Rows.{◌>>=◌}
use Rattle.gx_forms.specs.Forms.{kid_form, link_form, array_form}
use Rattle.gx_forms.specs.Narrow.{narrow}
use Rattle.gx_typing.specs.Typing.{Mistake, other_lines, at, term_row, with_head, typed_at, kids_typed, FailsSo}
use Rattle.gx_typing.proofs.NarrowLaws.{typed_same}
use Rattle.gx_typing.proofs.SeenAs.{seen_actual, seen_encode, seen_divide, IsOver}
use Rattle.gx_typing.proofs.TypingSteps.{goes_on}

alone : (r : Result (List ℕ × Typing) Mistake) → (r >>= λ x. Ok (x.0, x.1)) ≡ r
alone (Ok x) = refl
alone (Err e) = refl

-- one child behind the place due
pub only_kid : (owner : ℕ) (forms : ℕ → Form) (made : Form) (t : TermTree) (lines : List ℕ)
    (typing : Typing) → narrow made ≡ narrow (forms 0)
    → kids_typed owner forms 0 (kid t none) lines typing ≡ typed_at owner made t lines typing
only_kid owner forms made t lines typing same =
    alone (typed_at owner (forms 0) t lines typing)
    ∙ sym (typed_same owner made (forms 0) t lines typing same)

-- a head whose conditions are met, and that has one child
one_goes_on : (owner : ℕ) (top : Head) (form made : Form) (s t : TermTree)
    (r : Result (Unit {0}) TypeWhy) (u : Unit {0}) (lines : List ℕ) (typing : Typing)
    → s ≡ node top (kid t none) → r ≡ term_row form s → with_head owner top form typing ≡ Ok typing
    → at lines r ≡ Ok u → narrow made ≡ narrow (kid_form (head_of s) form 0)
    → typed_at owner form s lines typing ≡ typed_at owner made t (other_lines lines) typing
one_goes_on owner top form made s t r u lines typing is asked leaf met same =
    goes_on owner form s top (kid t none) r u lines typing is asked met leaf
    ∙ only_kid owner (kid_form top form) made t (other_lines lines) typing
    (same ∙ ap (λ (x : TermTree). narrow (kid_form (head_of x) form 0)) is)

pub only_goes_on : (owner : ℕ) (form made : Form) (s : Term) (only : Box Term Global)
    (r : Result (Unit {0}) TypeWhy) (u : Unit {0}) (lines : List ℕ) (typing : Typing)
    → IsOver s only → r ≡ term_row form (tree_of s) → at lines r ≡ Ok u
    → narrow made ≡ narrow (kid_form (head_of (tree_of s)) form 0)
    → typed_at owner form (tree_of s) lines typing ≡ typed_at owner made (tree_of only.value)
    (other_lines lines) typing
only_goes_on owner form made s only r u lines typing (inl is) asked met same =
    one_goes_on owner heads.Actual form made (tree_of s) (tree_of only.value) r u lines typing
    (seen_actual s only is) asked refl met same
only_goes_on owner form made s only r u lines typing (inr (inl (name, code, is))) asked met same =
    one_goes_on owner (heads.Encode name code) form made (tree_of s) (tree_of only.value) r u lines
    typing (seen_encode s name code only is) asked refl met same
only_goes_on owner form made s only r u lines typing (inr (inr (size, is))) asked met same =
    one_goes_on owner (heads.Divide size) form made (tree_of s) (tree_of only.value) r u lines
    typing (seen_divide s size only is) asked refl met same

-- the first of two children fails
pub first_fails : (owner : ℕ) (forms : ℕ → Form) (made : Form) (t u : TermTree) (lines : List ℕ)
    (typing : Typing) (e : Untyped) → narrow made ≡ narrow (forms 0)
    → FailsSo e (typed_at owner made t lines typing)
    → FailsSo e (kids_typed owner forms 0 (kid t (kid u none)) lines typing)
first_fails owner forms made t u lines typing untyped.NoMemory same h = tt
first_fails owner forms made t u lines typing (untyped.Mistyped line reason) same h =
    ap (λ (r : Result (List ℕ × Typing) Mistake). r >>= λ x. kids_typed owner forms 1
    (kid u none) x.0 x.1) (sym (typed_same owner made (forms 0) t lines typing same) ∙ h)

-- or the second is typed behind it
pub second_goes_on : (owner : ℕ) (forms : ℕ → Form) (first second : Form) (t u : TermTree)
    (lines left : List ℕ) (typing more : Typing) → narrow first ≡ narrow (forms 0)
    → narrow second ≡ narrow (forms 1)
    → typed_at owner first t lines typing ≡ Ok (left, more)
    → kids_typed owner forms 0 (kid t (kid u none)) lines typing ≡ typed_at owner second u left
    more
second_goes_on owner forms first second t u lines left typing more same_0 same_1 h =
    ap (λ (r : Result (List ℕ × Typing) Mistake). r >>= λ x. kids_typed owner forms 1
    (kid u none) x.0 x.1) (sym (typed_same owner first (forms 0) t lines typing same_0) ∙ h)
    ∙ alone (typed_at owner (forms 1) u left more)
    ∙ sym (typed_same owner second (forms 1) u left more same_1)

-- ---- links

pub array_goes_on : (owner : ℕ) (o m : Kind) (made : Form) (side : Side) (members : Term)
    (lines : List ℕ) (typing : Typing) → side ≡ sides.Array members
    → narrow made ≡ narrow (array_form o m)
    → link_typed owner o m (side_of side) lines typing ≡ typed_at owner made (tree_of members)
    (other_lines lines) typing
array_goes_on owner o m made side members lines typing is same =
    ap (λ (s : Side). link_typed owner o m (side_of s) lines typing) is
    ∙ only_kid owner (link_form linksets.Array o m) made (tree_of members)
    (other_lines lines) typing same

pub ring_goes_on : (owner : ℕ) (o m : Kind) (side : Side) (firsts nexts : Term) (lines : List ℕ)
    (typing : Typing) → side ≡ sides.Ring firsts nexts
    → link_typed owner o m (side_of side) lines typing ≡ kids_typed owner
    (link_form linksets.Ring o m) 0 (kid (tree_of firsts) (kid (tree_of nexts) none))
    (other_lines lines) typing
ring_goes_on owner o m side firsts nexts lines typing is =
    ap (λ (s : Side). link_typed owner o m (side_of s) lines typing) is

pub inverted_goes_on : (owner : ℕ) (o m : Kind) (side : Side) (pairs owners : Term) (lines : List ℕ)
    (typing : Typing) → side ≡ sides.Inverted pairs owners
    → link_typed owner o m (side_of side) lines typing ≡ kids_typed owner
    (link_form linksets.Inverted o m) 0 (kid (tree_of pairs) (kid (tree_of owners) none))
    (other_lines lines) typing
inverted_goes_on owner o m side pairs owners lines typing is =
    ap (λ (s : Side). link_typed owner o m (side_of s) lines typing) is
