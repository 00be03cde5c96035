-- What is read leaves less.
use Rattle.std.proofs.Common.{◌≡◌, ℕ, zero, suc, ◌<◌, ◌≤◌, Bool, List, [], ◌∷◌, ◌++◌, length, Option, Result, Ok, refl, sym, ap, ◌∙◌, arith, length-append, inl, inr}
use Rattle.std.specs.Prelude.{ℤ, pos}
use Rattle.gx_tokens.specs.declared.why.Why.{Why}
use Rattle.gx_tokens.specs.Grammar.{the}
use Rattle.gx_tokens.specs.Lexemes.{Lexeme, Word, Number, Quoted, Open, Close, Comma, Equals, End}
use Rattle.gx_tokens.specs.Quotes.{doubled}
use Rattle.gx_tokens.specs.Reading.{want, a_word, comma_or_close}
use Rattle.gx_tokens.specs.Spelling.{spelling, StartsWord, IsToken}
use Rattle.gx_tokens.proofs.ReadingLaws.{want_ok}
use Rattle.gx_values.specs.declared.values.Value.{Value}
use Rattle.gx_values.specs.declared.values.Value.TheVariants as value
use Rattle.gx_ports.specs.declared.kinds.LeafKind.TheVariants as leaf
use Rattle.gx_equation.specs.declared.heads.Head.{Head}
use Rattle.gx_equation.specs.declared.heads.Head.TheVariants as heads
use Rattle.gx_equation.specs.Grammar.{NumberText, NameText, BoundText, MoreText, ItemsText, code_word, HeadText, TextOf, ListText, KidsText, TermText, linkset_word, SideText, DefinitionText}
use Rattle.gx_equation.specs.Heads.{a_bound, or_comma}
use Rattle.gx_equation.specs.Terms.{left_of, term_at}
use Rattle.gx_equation.specs.Trees.{TermTree, node, list_of, Arity, No_kids, One_kid, Two_kids, Some_kids, arity, linkset_arity, SideTree, file_side, link_side, DefinitionTree}
use Rattle.gx_equation.proofs.TermsFound.{term_found}

starts_some : (w : List ℕ) → StartsWord w → 0 < length w
starts_some [] s = absurd s
starts_some (b ∷ bs) s = omega arith

-- a token that isn't the end has bytes
spelled_some : (t : Lexeme) → (t ≡ End → ⊥) → IsToken t → 0 < length (spelling t)
spelled_some (Word w) not_end h = starts_some w h.starts
spelled_some (Number w) not_end h = elim h [
  | inl d ↦ d.some
  | inr n ↦ let l : length w ≡ suc (length n.0) = ap length n.1 in omega (arith, l)
]
spelled_some (Quoted w) not_end h = omega arith
spelled_some Open not_end h = omega arith
spelled_some Close not_end h = omega arith
spelled_some Comma not_end h = omega arith
spelled_some Equals not_end h = omega arith
spelled_some End not_end h = absurd (not_end refl)

pub first_shorter : (bytes : List ℕ) (t : Lexeme) (rest : List ℕ) → (t ≡ End → ⊥) → the t bytes rest
    → length rest < length bytes
first_shorter bytes t rest not_end f =
    let some = spelled_some t not_end f.begins.is_token in
    omega (
      arith,
      some,
      ap length f.parts,
      length-append f.blanks f.here,
      ap length f.begins.parts,
      length-append (spelling t) rest,
    )

pub wanted_shorter : {A : Type 0} (meaning : Lexeme → Result A Why) (bytes : List ℕ)
    (y : A × List ℕ) → ((x : A) → meaning End ≡ Ok x → ⊥) → want meaning bytes ≡ Ok y
    → length y.1 < length bytes
wanted_shorter meaning bytes y not_end e =
    let w = want_ok meaning bytes y e in
    first_shorter bytes w.token y.1 (λ is. not_end y.0 (ap meaning (sym is) ∙ w.is)) w.first

pub name_shorter : (bytes : List ℕ) (y : Option (List ℕ) × List ℕ)
    → want (or_comma a_word) bytes ≡ Ok y → length y.1 < length bytes
name_shorter bytes y e = wanted_shorter (or_comma a_word) bytes y (λ x h. absurd cc) e

pub bound_shorter : (bytes : List ℕ) (y : Option Value × List ℕ)
    → want (or_comma a_bound) bytes ≡ Ok y → length y.1 < length bytes
bound_shorter bytes y e = wanted_shorter (or_comma a_bound) bytes y (λ x h. absurd cc) e

pub more_shorter : (bytes : List ℕ) (y : Bool × List ℕ) → want comma_or_close bytes ≡ Ok y
    → length y.1 < length bytes
more_shorter bytes y e = wanted_shorter comma_or_close bytes y (λ x h. absurd cc) e

-- ---- by the grammar

pub the_word : (w : List ℕ) (bytes rest : List ℕ) → the (Word w) bytes rest
    → length rest < length bytes
the_word w bytes rest f = first_shorter bytes (Word w) rest (λ e. absurd cc) f

the_number : (n : ℤ) (bytes rest : List ℕ) → NumberText n bytes rest → length rest < length bytes
the_number n bytes rest t = first_shorter bytes (Number t.0) rest (λ e. absurd cc) t.2

open_shorter : (bytes rest : List ℕ) → the Open bytes rest → length rest < length bytes
open_shorter bytes rest f = first_shorter bytes Open rest (λ e. absurd cc) f

close_shorter : (bytes rest : List ℕ) → the Close bytes rest → length rest < length bytes
close_shorter bytes rest f = first_shorter bytes Close rest (λ e. absurd cc) f

comma_shorter : (bytes rest : List ℕ) → the Comma bytes rest → length rest < length bytes
comma_shorter bytes rest f = first_shorter bytes Comma rest (λ e. absurd cc) f

pub bound_text_shorter : (v : Value) (bytes rest : List ℕ) → BoundText v bytes rest
    → length rest < length bytes
bound_text_shorter (value.Int n) bytes rest t = the_number n bytes rest t.1
bound_text_shorter (value.Text w) bytes rest t =
    first_shorter bytes (Quoted (doubled w)) rest (λ e. absurd cc) t
bound_text_shorter (value.Bytes w) bytes rest t = absurd t

-- each text of an item leaves less
abbrev pub ItemShortens : {X : Type 0} → (X → List ℕ → List ℕ → Type 0) → Type 0
ItemShortens {X} Text = (x : X) (bytes rest : List ℕ) → Text x bytes rest
    → length rest < length bytes

more_text_shorter : {X : Type 0} (Text : X → List ℕ → List ℕ → Type 0) → ItemShortens Text
    → (xs : List X) (bytes rest : List ℕ) → MoreText Text xs bytes rest → length rest < length bytes
more_text_shorter Text each [] bytes rest t = comma_shorter bytes rest t
more_text_shorter Text each (x ∷ xs) bytes rest t =
    omega (arith, each x bytes t.0 t.1, more_text_shorter Text each xs t.0 rest t.2)

items_shorter : {X : Type 0} (Text : X → List ℕ → List ℕ → Type 0) → ItemShortens Text
    → (xs : List X) (bytes rest : List ℕ) → ItemsText Text xs bytes rest
    → length rest < length bytes
items_shorter Text each [] bytes rest t = absurd t
items_shorter Text each (x ∷ xs) bytes rest t =
    omega (arith, each x bytes t.0 t.1, more_text_shorter Text each xs t.0 rest t.2)

pub head_shorter : (h : Head) (bytes rest : List ℕ) → HeadText h bytes rest
    → length rest < length bytes
head_shorter (heads.Leaf leaf.Heap) bytes rest t = the_word _ bytes rest t
head_shorter (heads.Leaf (leaf.Hash n)) bytes rest t =
    omega (
      arith,
      the_word _ bytes t.0 t.1,
      open_shorter t.0 t.2.0 t.2.1,
      the_number (pos n) t.2.0 t.2.2.0 t.2.2.1.2,
      close_shorter t.2.2.0 rest t.2.2.2,
    )
head_shorter (heads.Leaf leaf.Isam) bytes rest t = the_word _ bytes rest t
head_shorter (heads.Leaf leaf.Bplus) bytes rest t = the_word _ bytes rest t
head_shorter heads.Actual bytes rest t =
    omega (arith, the_word _ bytes t.0 t.1, open_shorter t.0 rest t.2)
head_shorter (heads.Encode name code) bytes rest t =
    omega (
      arith,
      the_word _ bytes t.0 t.1,
      open_shorter t.0 t.2.0 t.2.1,
      the_word name t.2.0 t.2.2.0 t.2.2.1,
      the_word (code_word code) t.2.2.0 t.2.2.2.0 t.2.2.2.1,
      comma_shorter t.2.2.2.0 rest t.2.2.2.2,
    )
head_shorter (heads.Segment names) bytes rest t =
    omega (
      arith,
      the_word _ bytes t.0 t.1,
      open_shorter t.0 t.2.0 t.2.1,
      items_shorter NameText the_word names t.2.0 rest t.2.2,
    )
head_shorter heads.Transpose bytes rest t =
    omega (arith, the_word _ bytes t.0 t.1, open_shorter t.0 rest t.2)
head_shorter (heads.Partition name bounds) bytes rest t =
    omega (
      arith,
      the_word _ bytes t.0 t.1,
      open_shorter t.0 t.2.0 t.2.1,
      the_word name t.2.0 t.2.2.0 t.2.2.1,
      items_shorter BoundText bound_text_shorter bounds t.2.2.0 rest t.2.2.2,
    )
head_shorter (heads.Divide n) bytes rest t =
    omega (
      arith,
      the_word _ bytes t.0 t.1,
      open_shorter t.0 t.2.0 t.2.1,
      the_number (pos n) t.2.0 t.2.2.0 t.2.2.1.2,
      comma_shorter t.2.2.0 rest t.2.2.2,
    )
head_shorter (heads.Index name) bytes rest t =
    omega (
      arith,
      the_word _ bytes t.0 t.1,
      open_shorter t.0 t.2.0 t.2.1,
      the_word name t.2.0 t.2.2.0 t.2.2.1,
      comma_shorter t.2.2.0 rest t.2.2.2,
    )

abbrev pub Shortens : TextOf → Type 0
Shortens Text = (t : TermTree) (before after bytes rest : List ℕ) → Text t before after bytes rest
    → length rest < length bytes

pub list_shorter : (Text : TextOf) → Shortens Text
    → (ts : List TermTree) (before after bytes rest : List ℕ)
    → ListText Text ts before after bytes rest
    → length rest < length bytes
list_shorter Text each [] before after bytes rest t = absurd t
list_shorter Text each (u ∷ []) before after bytes rest t =
    omega (arith, each u before after bytes t.0 t.1, close_shorter t.0 rest t.2)
list_shorter Text each (u ∷ v ∷ vs) before after bytes rest (mid, t) =
    omega (
      arith,
      each u before mid bytes t.0 t.1,
      comma_shorter t.0 t.2.0 t.2.1,
      list_shorter Text each (v ∷ vs) mid after t.2.0 rest t.2.2,
    )

pub kids_shorter : (Text : TextOf) → Shortens Text
    → (a : Arity) (ts : List TermTree) (before after bytes rest : List ℕ)
    → KidsText Text a ts before after bytes rest → length rest ≤ length bytes
kids_shorter Text each No_kids ts before after bytes rest t = omega (arith, ap length t.2)
kids_shorter Text each One_kid ts before after bytes rest t =
    omega (arith, list_shorter Text each ts before after bytes rest t.1)
kids_shorter Text each Two_kids ts before after bytes rest t =
    omega (arith, list_shorter Text each ts before after bytes rest t.1)
kids_shorter Text each Some_kids ts before after bytes rest t =
    omega (arith, list_shorter Text each ts before after bytes rest t)

pub term_shorter : (levels : ℕ) → Shortens (TermText levels)
term_shorter zero t before after bytes rest h = absurd h
term_shorter (suc levels) (node top kids) before after bytes rest h =
    omega (
      arith,
      head_shorter top bytes h.0 h.1,
      kids_shorter (TermText levels) (term_shorter levels) (arity top) (list_of kids)
          (before ++ left_of bytes ∷ []) after h.0 rest h.2,
    )

pub read_shorter : (levels : ℕ) (places bytes : List ℕ) (y : (TermTree × List ℕ) × List ℕ)
    → term_at levels places bytes ≡ Ok y → length y.1 < length bytes
read_shorter levels places bytes y e =
    term_shorter levels y.0.0 places y.0.1 bytes y.1 (term_found levels places bytes y e)

-- ---- definitions

pub side_shorter : (s : SideTree) (before after bytes rest : List ℕ)
    → SideText s before after bytes rest → length rest < length bytes
side_shorter (file_side t) before after bytes rest h = term_shorter 16 t before after bytes rest h
side_shorter (link_side linkset ts) before after bytes rest h =
    omega (
      arith,
      the_word (linkset_word linkset) bytes h.0 h.1,
      open_shorter h.0 h.2.0 h.2.1,
      kids_shorter (TermText 15) (term_shorter 15) (linkset_arity linkset) ts
          (before ++ left_of bytes ∷ []) after h.2.0 rest h.2.2,
    )

pub definition_shorter : (d : DefinitionTree) (before after bytes rest : List ℕ)
    → DefinitionText d before after bytes rest → length rest < length bytes
definition_shorter d before after bytes rest h =
    omega (
      arith,
      the_word d.name bytes h.0 h.1,
      first_shorter h.0 Equals h.2.0 (λ e. absurd cc) h.2.1,
      side_shorter d.side (before ++ left_of bytes ∷ []) after h.2.0 rest h.2.2,
    )
