-- Places stand in the order of the text.
use Rattle.std.proofs.Common.{◌≡◌, ℕ, zero, suc, ◌<◌, ◌≤◌, false, List, [], ◌∷◌, ◌++◌, length, length-append, refl, sym, ap, subst, ◌∙◌, append_assoc, append-nil, arith}
use Rattle.gx_tokens.specs.Grammar.{the}
use Rattle.gx_tokens.specs.Lexemes.{Lexeme, Word, Open, Close, Comma, Equals, End, after_blanks}
use Rattle.gx_tokens.proofs.TokenAgain.{first_again}
use Rattle.gx_tokens.proofs.TokenFound.{found_here, blanks_found}
use Rattle.gx_equation.specs.declared.heads.Head.{Head}
use Rattle.gx_equation.specs.Grammar.{HeadText, TextOf, ListText, KidsText, TermText, linkset_word, SideText, DefinitionText, DefinitionsText, EquationText}
use Rattle.gx_equation.specs.Places.{AreInOrder}
use Rattle.gx_equation.specs.Terms.{left_of}
use Rattle.gx_equation.specs.Trees.{TermTree, node, list_of, Arity, No_kids, One_kid, Two_kids, Some_kids, arity, linkset_arity, SideTree, file_side, link_side, DefinitionTree}
use Rattle.gx_equation.proofs.HeadsPrinted.{head_moved}
use Rattle.gx_equation.proofs.Shorter.{first_shorter, the_word, head_shorter}

-- ---- the first token

left_below : (bytes : List ℕ) → left_of bytes ≤ length bytes
left_below bytes = let b = blanks_found false bytes in
    omega (arith, ap length b.parts, length-append b.blanks (after_blanks false bytes))

-- without the blanks before it
here_again : (bytes : List ℕ) (t : Lexeme) (rest : List ℕ) → the t bytes rest
    → the t (after_blanks false bytes) rest
here_again bytes t rest h =
    record {
      blanks = [];
      here = after_blanks false bytes;
      parts = refl;
      are_blanks = tt;
      begins = found_here (after_blanks false bytes) (t, rest) (first_again bytes t rest h);
    }

word_left : (w : List ℕ) (bytes rest : List ℕ) → the (Word w) bytes rest
    → length rest < left_of bytes
word_left w bytes rest h =
    the_word w (after_blanks false bytes) rest (here_again bytes (Word w) rest h)

head_left : (top : Head) (bytes rest : List ℕ) → HeadText top bytes rest
    → length rest < left_of bytes
head_left top bytes rest h =
    head_shorter top (after_blanks false bytes) rest
    (head_moved top bytes (after_blanks false bytes) rest (λ t r f. here_again bytes t r f) h)

-- ---- places from one to another

-- each at most the one before it, from the first number down to the last
abbrev Falls : ℕ → ℕ → List ℕ → Type 0
Falls from to [] = to ≤ from
Falls from to (p ∷ ps) = (p ≤ from) × Falls p to ps

falls_then : (from mid to : ℕ) (ps qs : List ℕ) → Falls from mid ps → Falls mid to qs
    → Falls from to (ps ++ qs)
falls_then from mid to [] [] a b = omega (arith, a, b)
falls_then from mid to [] (q ∷ qs) a b = (omega (arith, a, b.0), b.1)
falls_then from mid to (p ∷ ps) qs a b = (a.0, falls_then p mid to ps qs a.1 b)

falls_below : (from mid to : ℕ) (ps : List ℕ) → Falls from mid ps → to ≤ mid → Falls from to ps
falls_below from mid to [] a le = omega (arith, a, le)
falls_below from mid to (p ∷ ps) a le = (a.0, falls_below p mid to ps a.1 le)

-- the places between those before and those behind a piece of the text
record Placed (before after : List ℕ) (from to : ℕ) : Type 0 where
  pub own : List ℕ
  pub all : after ≡ before ++ own
  pub falls : Falls from to own

placed_then : (a b c : List ℕ) (from mid to : ℕ) → Placed a b from mid → Placed b c mid to
    → Placed a c from to
placed_then a b c from mid to p q = record {
  own = p.own ++ q.own;
  all = q.all ∙ (ap (λ (x : List ℕ). x ++ q.own) p.all ∙ append_assoc a p.own q.own);
  falls = falls_then from mid to p.own q.own p.falls q.falls;
}

placed_below : (a b : List ℕ) (from mid to : ℕ) → Placed a b from mid → to ≤ mid
    → Placed a b from to
placed_below a b from mid to p le =
    record { own = p.own; all = p.all; falls = falls_below from mid to p.own p.falls le }

-- one more place, and then others
placed_first : (a b : List ℕ) (place from mid to : ℕ) → place ≤ from → mid ≤ place
    → Placed (a ++ place ∷ []) b mid to → Placed a b from to
placed_first a b place from mid to le less p =
    placed_then a (a ++ place ∷ []) b from mid to
    (record { own = place ∷ []; all = refl; falls = (le, less) }) p

placed_none : (a b : List ℕ) (from to : ℕ) → a ≡ b → to ≤ from → Placed a b from to
placed_none a b from to same le =
    record { own = []; all = sym same ∙ sym (append-nil a); falls = le }

-- ---- terms

abbrev Places : TextOf → Type 0
Places Text = (t : TermTree) (before after bytes rest : List ℕ) → Text t before after bytes rest
    → Placed before after (length bytes) (length rest)

mark_less : (t : Lexeme) (bytes rest : List ℕ) → (t ≡ End → ⊥) → the t bytes rest
    → length rest ≤ length bytes
mark_less t bytes rest not_end h = let less = first_shorter bytes t rest not_end h in
    omega (arith, less)

list_places : (Text : TextOf) → Places Text
    → (ts : List TermTree) (before after bytes rest : List ℕ)
    → ListText Text ts before after bytes rest → Placed before after (length bytes) (length rest)
list_places Text each [] before after bytes rest t = absurd t
list_places Text each (u ∷ []) before after bytes rest t =
    placed_below before after (length bytes) (length t.0) (length rest)
    (each u before after bytes t.0 t.1) (mark_less Close t.0 rest (λ e. absurd cc) t.2)
list_places Text each (u ∷ v ∷ vs) before after bytes rest (mid, t) =
    placed_then before mid after (length bytes) (length t.2.0) (length rest)
    (placed_below before mid (length bytes) (length t.0) (length t.2.0)
    (each u before mid bytes t.0 t.1) (mark_less Comma t.0 t.2.0 (λ e. absurd cc) t.2.1))
    (list_places Text each (v ∷ vs) mid after t.2.0 rest t.2.2)

kids_places : (Text : TextOf) → Places Text
    → (a : Arity) (ts : List TermTree) (before after bytes rest : List ℕ)
    → KidsText Text a ts before after bytes rest
    → Placed before after (length bytes) (length rest)
kids_places Text each No_kids ts before after bytes rest t =
    placed_none before after (length bytes) (length rest) t.1 (omega (arith, ap length t.2))
kids_places Text each One_kid ts before after bytes rest t =
    list_places Text each ts before after bytes rest t.1
kids_places Text each Two_kids ts before after bytes rest t =
    list_places Text each ts before after bytes rest t.1
kids_places Text each Some_kids ts before after bytes rest t =
    list_places Text each ts before after bytes rest t

term_places : (levels : ℕ) → Places (TermText levels)
term_places zero t before after bytes rest h = absurd h
term_places (suc levels) (node top kids) before after bytes rest h =
    let less = head_left top bytes h.0 h.1 in
    placed_first before after (left_of bytes) (length bytes) (length h.0) (length rest)
    (left_below bytes) (omega (arith, less))
    (kids_places (TermText levels) (term_places levels) (arity top) (list_of kids)
    (before ++ left_of bytes ∷ []) after h.0 rest h.2)

-- ---- definitions

side_places : (s : SideTree) (before after bytes rest : List ℕ) → SideText s before after bytes rest
    → Placed before after (length bytes) (length rest)
side_places (file_side t) before after bytes rest h = term_places 16 t before after bytes rest h
side_places (link_side l ts) before after bytes rest h =
    let word = word_left (linkset_word l) bytes h.0 h.1 in
    let open_less = mark_less Open h.0 h.2.0 (λ e. absurd cc) h.2.1 in
    placed_first before after (left_of bytes) (length bytes) (length h.2.0) (length rest)
    (left_below bytes) (omega (arith, word, open_less))
    (kids_places (TermText 15) (term_places 15) (linkset_arity l) ts (before ++ left_of bytes ∷ [])
    after h.2.0 rest h.2.2)

definition_places : (d : DefinitionTree) (before after bytes rest : List ℕ)
    → DefinitionText d before after bytes rest → Placed before after (length bytes) (length rest)
definition_places d before after bytes rest h =
    let word = word_left d.name bytes h.0 h.1 in
    let equals_less = mark_less Equals h.0 h.2.0 (λ e. absurd cc) h.2.1 in
    placed_first before after (left_of bytes) (length bytes) (length h.2.0) (length rest)
    (left_below bytes) (omega (arith, word, equals_less))
    (side_places d.side (before ++ left_of bytes ∷ []) after h.2.0 rest h.2.2)

definitions_places : (ds : List DefinitionTree) (before after bytes rest : List ℕ)
    → DefinitionsText ds before after bytes rest → Placed before after (length bytes) 0
definitions_places [] before after bytes rest h =
    placed_none before after (length bytes) 0 h.0 (omega arith)
definitions_places (d ∷ ds) before after bytes rest (mid, h) =
    placed_then before mid after (length bytes) (length h.0) 0
    (definition_places d before mid bytes h.0 h.1)
    (definitions_places ds mid after h.0 rest h.2)

in_order : (from : ℕ) (ps : List ℕ) → Falls from 0 ps → AreInOrder from ps
in_order from [] h = tt
in_order from (p ∷ ps) h = (h.0, in_order p ps h.1)

pub places_in_order : (ds : List DefinitionTree) (places bytes : List ℕ)
    → EquationText ds places bytes → AreInOrder (length bytes) places
places_in_order ds places bytes t =
    let p = definitions_places ds [] places bytes [] t.text in
    subst (AreInOrder (length bytes)) (sym p.all) (in_order (length bytes) p.own p.falls)
