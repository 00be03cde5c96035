-- What is left of a line: behind blanks, behind words, and behind the session of a turn.
use Rattle.std.proofs.Common.{◌≡◌, ℕ, suc, ◌+◌, ◌-◌, ◌≤◌, Bool, true, false, cond, eqb, List, [], ◌∷◌, ◌++◌, length, drop, Option, Some, None, Result, refl, sym, ap, subst, ◌∙◌, inl, inr, arith}
use Rattle.std.specs.List.{list_all}
use Rattle.std.proofs.lemmas.List.{length-drop, drop-drop}
use Rattle.gx_commands.specs.declared.command.LineWhy.{LineWhy}
use Rattle.gx_commands.specs.Words.{Word, is_line_blank, is_character, past_blanks, spelling, FirstWord}
use Rattle.gx_commands.specs.Cutting.{IsRestOf}
use Rattle.gx_commands.specs.Turns.{is_empty, is_no_turn, has_comment, session_number, numbered, session_at, IsTurn}

pub itself : (line : List ℕ) → IsRestOf line line
itself line = record { from = 0; is = refl; within = omega arith }

further : (b : ℕ) (line rest : List ℕ) → IsRestOf line rest → IsRestOf (b ∷ line) rest
further b line rest e = record { from = suc e.from; is = e.is; within = omega (arith, e.within) }

pub blanks_end : (line : List ℕ) → IsRestOf line (past_blanks line)
blanks_end [] = itself []
blanks_end (b ∷ bs) = go (is_line_blank b) (further b bs (past_blanks bs) (blanks_end bs))
  where
    go : (t : Bool) → IsRestOf (b ∷ bs) (past_blanks bs)
        → IsRestOf (b ∷ bs) (cond t (past_blanks bs) (b ∷ bs))
    go true e = e
    go false e = itself (b ∷ bs)

pub rest_of_rest : (line middle rest : List ℕ) → IsRestOf line middle → IsRestOf middle rest
    → IsRestOf line rest
rest_of_rest line middle rest a b = record {
  from = a.from + b.from;
  is = b.is ∙ ap (drop b.from) a.is ∙ drop-drop b.from a.from line;
  within = (let m = ap (λ (xs : List ℕ). length xs) a.is ∙ length-drop a.from line in
      omega (arith, a.within, b.within, m));
}

behind_front : (front rest : List ℕ) → IsRestOf (front ++ rest) rest
behind_front [] rest = itself rest
behind_front (b ∷ bs) rest = further b (bs ++ rest) rest (behind_front bs rest)

pub word_rest : (line : List ℕ) (w : Word) (rest : List ℕ) → FirstWord line w rest
    → IsRestOf line rest
word_rest line w rest f =
    subst (λ (l : List ℕ). IsRestOf l rest) (sym f.parts)
    (rest_of_rest (f.blanks ++ (spelling w ++ rest)) (spelling w ++ rest) rest
    (behind_front f.blanks (spelling w ++ rest)) (behind_front (spelling w) rest))

abbrev behind_or : List ℕ → Option (ℕ × List ℕ) → List ℕ
behind_or d None = d
behind_or d (Some x) = x.1

numbered_is : (rest found : List ℕ) (n : ℕ) (o : Option ℕ) → numbered rest o ≡ Some (n, found)
    → found ≡ rest
numbered_is rest found n None e = absurd cc
numbered_is rest found n (Some k) e = sym (ap (behind_or found) e)

pub session_end : (first rest : List ℕ) (n : ℕ) → session_at first ≡ Some (n, rest)
    → IsRestOf first rest
session_end [] rest n e = absurd cc
session_end (b ∷ []) rest n e =
    subst (λ (xs : List ℕ). IsRestOf (b ∷ []) xs)
    (sym (numbered_is [] rest n (session_number b) e))
    (record { from = 1; is = refl; within = omega arith })
session_end (b ∷ c ∷ more) rest n e = go (is_line_blank c) e
  where
    go : (t : Bool) → cond t (numbered more (session_number b)) None ≡ Some (n, rest)
        → IsRestOf (b ∷ c ∷ more) rest
    go true same =
        subst (λ (xs : List ℕ). IsRestOf (b ∷ c ∷ more) xs)
        (sym (numbered_is more rest n (session_number b) same))
        (record { from = 2; is = refl; within = omega arith })
    go false same = absurd cc

-- the end of a line by its length
pub at_place : (line rest : List ℕ) → IsRestOf line rest
    → drop (length line - length rest) line ≡ rest
at_place line rest e =
    let long = ap (λ (xs : List ℕ). length xs) e.is ∙ length-drop e.from line in
    let at : length line - length rest ≡ e.from = omega (arith, e.within, long) in
    ap (λ n. drop n line) at ∙ sym e.is

pub not_longer : (line rest : List ℕ) → IsRestOf line rest → length rest ≤ length line
not_longer line rest e =
    let long = ap (λ (xs : List ℕ). length xs) e.is ∙ length-drop e.from line in
    omega (arith, long)

pub not_empty : (xs : List ℕ) → eqb (length xs) 0 ≡ false → is_empty xs ≡ false
not_empty [] e = absurd cc
not_empty (x ∷ xs) e = refl

-- ---- each line is one turn, or none for one reason

differ : {A : Type 0} (b : Bool) → b ≡ true → b ≡ false → A
differ b t f = absurd cc

pub one_turn : (line : List ℕ) (given other : Result (Option (ℕ × List ℕ)) LineWhy)
    → IsTurn line given → IsTurn line other → given ≡ other
one_turn line given other (inl a) (inl b) = a.1 ∙ sym b.1
one_turn line given other (inl a) (inr (inl b)) = differ (is_no_turn line) a.0 b.0
one_turn line given other (inl a) (inr (inr (inl b))) = differ (is_no_turn line) a.0 b.0
one_turn line given other (inl a) (inr (inr (inr b))) = differ (is_no_turn line) a.0 b.0
one_turn line given other (inr (inl a)) (inl b) = differ (is_no_turn line) b.0 a.0
one_turn line given other (inr (inl a)) (inr (inl b)) = a.3 ∙ sym b.3
one_turn line given other (inr (inl a)) (inr (inr (inl b))) =
    differ (list_all is_character line) b.2 a.2
one_turn line given other (inr (inl a)) (inr (inr (inr b))) = elim b.1 [
  | inl c ↦ differ (has_comment line) c a.1
  | inr w ↦ differ (list_all is_character line) w.0 a.2
]
one_turn line given other (inr (inr (inl a))) (inl b) = differ (is_no_turn line) b.0 a.0
one_turn line given other (inr (inr (inl a))) (inr (inl b)) =
    differ (list_all is_character line) a.2 b.2
one_turn line given other (inr (inr (inl a))) (inr (inr (inl b))) = a.4 ∙ sym b.4
one_turn line given other (inr (inr (inl a))) (inr (inr (inr b))) = elim b.1 [
  | inl c ↦ differ (has_comment line) c a.1
  | inr w ↦ absurd (let words = w.1 in a.3 words.0 words.1)
]
one_turn line given other (inr (inr (inr a))) (inl b) = differ (is_no_turn line) b.0 a.0
one_turn line given other (inr (inr (inr a))) (inr (inl b)) = elim a.1 [
  | inl c ↦ differ (has_comment line) c b.1
  | inr w ↦ differ (list_all is_character line) w.0 b.2
]
one_turn line given other (inr (inr (inr a))) (inr (inr (inl b))) = elim a.1 [
  | inl c ↦ differ (has_comment line) c b.1
  | inr w ↦ absurd (let words = w.1 in b.3 words.0 words.1)
]
one_turn line given other (inr (inr (inr a))) (inr (inr (inr b))) = a.2 ∙ sym b.2
