-- The reasons that reading an equation gives.
use Rattle.std.proofs.Common.{◌≡◌, ℕ, zero, suc, ◌<◌, Bool, true, false, cond, List, [], ◌∷◌, ◌++◌, length, Option, Some, None, Result, Ok, Err, refl, sym, ap, subst, ◌∙◌, arith}
use Rattle.std.specs.Prelude.{ℤ, codes, nat_eq}
use Rattle.std.specs.Cmp.Lexicographic.{pointwise}
use Rattle.std.proofs.lemmas.Bool.{cond_both}
use Rattle.gx_tokens.specs.declared.fault.Fault.{Fault}
use Rattle.gx_tokens.specs.declared.why.Why.{Why}
use Rattle.gx_tokens.specs.declared.why.Why.TheVariants as why
use Rattle.gx_tokens.specs.Lexemes.{Lexeme, Word, Number, Quoted, Open, Close, Comma, Equals, End, next_token}
use Rattle.gx_tokens.specs.Numbers.{number_value, natural_up_to, signed_number}
use Rattle.gx_tokens.specs.Reading.{◌>>=◌, map_ok, met, want, word_if, an_open, a_close, a_comma, an_equals, a_word, comma_or_close}
use Rattle.gx_tokens.specs.Grammar.{the}
use Rattle.gx_tokens.proofs.ReadingLaws.{bind_ok, mapped_ok, want_ok}
use Rattle.gx_tokens.proofs.TokenFound.{no_token}
use Rattle.gx_values.specs.declared.values.Value.{Value}
use Rattle.gx_equation.specs.declared.heads.Head.{Head}
use Rattle.gx_equation.specs.declared.heads.Head.TheVariants as heads
use Rattle.gx_equation.specs.declared.heads.HeadWord.{HeadWord}
use Rattle.gx_equation.specs.declared.heads.HeadWord.TheVariants as words
use Rattle.gx_equation.specs.declared.heads.Linkset.{Linkset}
use Rattle.gx_equation.specs.Definitions.{linkset_of_word, a_start, side_at}
use Rattle.gx_equation.specs.Heads.{in_depth, head_of_word, a_head, code_of_word, a_code, from_one, a_size, int_bound, a_bound, or_comma, items_at, hash_at, encode_at, segment_at, partition_at, divide_at, index_at, opened_at, arguments_at}
use Rattle.gx_equation.specs.Shape.{word_arity}
use Rattle.gx_equation.specs.Terms.{term_at}
use Rattle.gx_equation.specs.Trees.{Arity, No_kids, One_kid, Two_kids, Some_kids, linkset_arity}
use Rattle.gx_equation.proofs.Passing.{Pass, pass_kids, pass_behind, pass_from, no_level, pass_term, SideWord, link_word, head_word, side_word, a_side_word, pass_side_from, pass_side, pass_named, pass_definitions, pass_first, pass_equation, head_cases, term_passes, side_passes}
use Rattle.gx_equation.proofs.Shorter.{the_word, wanted_shorter, name_shorter, bound_shorter, more_shorter, read_shorter, side_shorter}
use Rattle.gx_equation.proofs.TermsFound.{side_found, start_mark}

-- one of the reasons for which an equation isn't read
abbrev pub IsSaid : Why → Type 0
IsSaid why.Token = Unit {0}
IsSaid why.Unexpected = Unit {0}
IsSaid why.End = Unit {0}
IsSaid why.Number = Unit {0}
IsSaid why.Depth = Unit {0}
IsSaid why.NameUse = ⊥
IsSaid why.KeyField = ⊥
IsSaid why.Count = ⊥

abbrev pub Says : {X : Type 0} → Result X Fault → Type 0
Says (Ok x) = Unit {0}
Says (Err f) = IsSaid f.why

abbrev pub MeansOr : {X : Type 0} → Result X Why → Type 0
MeansOr (Ok x) = Unit {0}
MeansOr (Err reason) = IsSaid reason

-- ---- one token, and one reader after another

says_met : {X : Type 0} (bytes rest : List ℕ) (m : Result X Why) → MeansOr m
    → Says (met bytes m rest)
says_met bytes rest (Ok x) h = tt
says_met bytes rest (Err reason) h = h

says_by : {X : Type 0} (meaning : Lexeme → Result X Why) (bytes : List ℕ)
    (n : Result (Lexeme × List ℕ) Fault) → ((t : Lexeme) → MeansOr (meaning t))
    → next_token bytes ≡ n → Says (n >>= λ x. met bytes (meaning x.0) x.1)
says_by meaning bytes (Ok x) each e = says_met bytes x.1 (meaning x.0) (each x.0)
says_by meaning bytes (Err f) each e = let n = no_token bytes f e in subst IsSaid (sym n.1) tt

says_want : {X : Type 0} (meaning : Lexeme → Result X Why) → ((t : Lexeme) → MeansOr (meaning t))
    → (bytes : List ℕ) → Says (want meaning bytes)
says_want meaning each bytes = says_by meaning bytes (next_token bytes) each refl

says_then : {X Y : Type 0} (r : Result X Fault) (k : X → Result Y Fault) → Says r
    → ((x : X) → r ≡ Ok x → Says (k x)) → Says (r >>= k)
says_then (Ok x) k h more = more x refl
says_then (Err f) k h more = h

-- ---- meanings

means_word : {X : Type 0} (meaning : List ℕ → Result X Why) → ((w : List ℕ) → MeansOr (meaning w))
    → (t : Lexeme) → MeansOr (word_if meaning t)
means_word meaning each (Word w) = each w
means_word meaning each other = tt

means_open : (t : Lexeme) → MeansOr (an_open t)
means_open Open = tt
means_open other = tt

means_close : (t : Lexeme) → MeansOr (a_close t)
means_close Close = tt
means_close other = tt

means_comma : (t : Lexeme) → MeansOr (a_comma t)
means_comma Comma = tt
means_comma other = tt

means_equals : (t : Lexeme) → MeansOr (an_equals t)
means_equals Equals = tt
means_equals other = tt

means_mark : (t : Lexeme) → MeansOr (comma_or_close t)
means_mark Comma = tt
means_mark Close = tt
means_mark other = tt

means_start : (t : Lexeme) → MeansOr (a_start t)
means_start (Word w) = tt
means_start End = tt
means_start other = tt

means_name : (t : Lexeme) → MeansOr (a_word t)
means_name t = means_word (λ w. Ok w) (λ w. tt) t

from_one_says : (o : Option ℕ) → MeansOr (from_one o)
from_one_says None = tt
from_one_says (Some zero) = tt
from_one_says (Some (suc n)) = tt

means_size : (most : ℕ) (t : Lexeme) → MeansOr (a_size most t)
means_size most (Number w) = from_one_says (natural_up_to most (number_value w))
means_size most other = tt

code_says : (w : List ℕ) → MeansOr (code_of_word w)
unfolding code_of_word
code_says w = cond_both (pointwise nat_eq w (codes "pack")) _ _ MeansOr (λ _. tt)
    (λ _. cond_both (pointwise nat_eq w (codes "rle")) _ _ MeansOr (λ _. tt) (λ _. tt))

means_code : (t : Lexeme) → MeansOr (a_code t)
means_code t = means_word code_of_word code_says t

int_says : (o : Option ℤ) → MeansOr (int_bound o)
int_says None = tt
int_says (Some n) = tt

means_bound : (t : Lexeme) → MeansOr (a_bound t)
means_bound (Number w) = int_says (signed_number w)
means_bound (Quoted w) = tt
means_bound other = tt

mapped_says : {X Y : Type 0} (f : X → Y) (m : Result X Why) → MeansOr m → MeansOr (map_ok f m)
mapped_says f (Ok x) h = tt
mapped_says f (Err reason) h = h

means_or_comma : {X : Type 0} (item : Lexeme → Result X Why) → ((t : Lexeme) → MeansOr (item t))
    → (t : Lexeme) → MeansOr (or_comma item t)
means_or_comma item each Comma = tt
means_or_comma item each other = mapped_says (λ x. Some x) (item other) (each other)

depth_says : (levels : ℕ) (w : HeadWord) → MeansOr (in_depth levels w)
depth_says zero w = tt
depth_says (suc levels) w = cond_both _ (Err why.Depth) (Ok w) MeansOr (λ _. tt) (λ _. tt)

head_says : (levels : ℕ) (w : List ℕ) → MeansOr (head_of_word levels w)
head_says levels w = head_cases levels w MeansOr (depth_says levels) tt

means_head : (levels : ℕ) (t : Lexeme) → MeansOr (a_head levels t)
means_head levels t = means_word (head_of_word levels) (head_says levels) t

side_word_says : (o : Option Linkset) (w : List ℕ) → MeansOr (side_word o w)
side_word_says (Some l) w = tt
side_word_says None w = mapped_says head_word (head_of_word 16 w) (head_says 16 w)

means_side : (t : Lexeme) → MeansOr (a_side_word t)
means_side t = means_word (λ w. side_word (linkset_of_word w) w)
    (λ w. side_word_says (linkset_of_word w) w) t

-- ---- heads

more_step : {X : Type 0} (before : List X) (o : Option X) (rest : List ℕ) (others : X
    → Result (List X × List ℕ) Fault) → ((x : X) → Says (others x))
    → Says {X = List X × List ℕ} (elim o [ None ↦ Ok (before, rest) | Some x ↦ others x ])
more_step before None rest others h = tt
more_step before (Some x) rest others h = h x

pub says_items : {X : Type 0} (item : Lexeme → Result X Why) → ((t : Lexeme) → MeansOr (item t))
    → ((bytes : List ℕ) (y : Option X × List ℕ) → want (or_comma item) bytes ≡ Ok y
    → length y.1 < length bytes)
    → (fuel : ℕ) (before : List X) (bytes : List ℕ) → length bytes < fuel
    → Says (items_at item fuel before bytes)
unfolding items_at
says_items item each short zero before bytes lt = absurd (omega arith)
says_items item each short (suc fuel) before bytes lt =
    says_then (want (or_comma item) bytes)
    (λ x. elim x.0 [ None ↦ Ok (before, x.1) | Some y ↦ items_at item fuel (before ++ y ∷ []) x.1 ])
    (says_want (or_comma item) (means_or_comma item each) bytes)
    (λ x e. more_step before x.0 x.1 (λ y. items_at item fuel (before ++ y ∷ []) x.1)
    (λ y. says_items item each short fuel (before ++ y ∷ []) x.1
    (omega (arith, short bytes x e))))

pub says_names : (first : List ℕ) (bytes : List ℕ)
    → Says (items_at a_word (suc (length bytes)) (first ∷ []) bytes)
says_names first bytes =
    says_items a_word means_name name_shorter (suc (length bytes)) (first ∷ []) bytes (omega arith)

pub says_bounds : (first : Value) (bytes : List ℕ)
    → Says (items_at a_bound (suc (length bytes)) (first ∷ []) bytes)
says_bounds first bytes =
    says_items a_bound means_bound bound_shorter (suc (length bytes)) (first ∷ []) bytes
    (omega arith)

says_hash : (bytes : List ℕ) → Says (hash_at bytes)
unfolding hash_at
says_hash bytes = says_then (want an_open bytes) _ (says_want an_open means_open bytes)
    (λ o _. says_then (want (a_size 64) o.1) _ (says_want (a_size 64) (means_size 64) o.1)
    (λ n _. says_then (want a_close n.1) _ (says_want a_close means_close n.1) (λ c _. tt)))

says_encode : (bytes : List ℕ) → Says (encode_at bytes)
unfolding encode_at
says_encode bytes =
    says_then (want an_open bytes) _ (says_want an_open means_open bytes)
    (λ o _. says_then (want a_word o.1) _ (says_want a_word means_name o.1)
    (λ n _. says_then (want a_code n.1) _ (says_want a_code means_code n.1) (λ c _.
    says_then (want a_comma c.1) _ (says_want a_comma means_comma c.1) (λ d _. tt))))

says_segment : (bytes : List ℕ) → Says (segment_at bytes)
unfolding segment_at
says_segment bytes =
    says_then (want an_open bytes) _ (says_want an_open means_open bytes)
    (λ o _. says_then (want a_word o.1) _ (says_want a_word means_name o.1) (λ n _.
    says_then (items_at a_word (suc (length n.1)) (n.0 ∷ []) n.1) _ (says_names n.0 n.1)
    (λ ns _. tt)))

says_partition : (bytes : List ℕ) → Says (partition_at bytes)
unfolding partition_at
says_partition bytes =
    says_then (want an_open bytes) _ (says_want an_open means_open bytes)
    (λ o _. says_then (want a_word o.1) _ (says_want a_word means_name o.1)
    (λ n _. says_then (want a_bound n.1) _ (says_want a_bound means_bound n.1) (λ b _.
    says_then (items_at a_bound (suc (length b.1)) (b.0 ∷ []) b.1) _ (says_bounds b.0 b.1)
    (λ bs _. tt))))

says_divide : (bytes : List ℕ) → Says (divide_at bytes)
unfolding divide_at
says_divide bytes = says_then (want an_open bytes) _ (says_want an_open means_open bytes)
    (λ o _. says_then (want (a_size 16000) o.1) _ (says_want (a_size 16000) (means_size 16000) o.1)
    (λ n _. says_then (want a_comma n.1) _ (says_want a_comma means_comma n.1) (λ c _. tt)))

says_index : (bytes : List ℕ) → Says (index_at bytes)
unfolding index_at
says_index bytes = says_then (want an_open bytes) _ (says_want an_open means_open bytes)
    (λ o _. says_then (want a_word o.1) _ (says_want a_word means_name o.1)
    (λ n _. says_then (want a_comma n.1) _ (says_want a_comma means_comma n.1) (λ c _. tt)))

says_opened : (top : Head) (bytes : List ℕ) → Says (opened_at top bytes)
says_opened top bytes =
    says_then (want an_open bytes) _ (says_want an_open means_open bytes) (λ o _. tt)

says_arguments : (w : HeadWord) (bytes : List ℕ) → Says (arguments_at w bytes)
unfolding arguments_at
says_arguments words.Heap bytes = tt
says_arguments words.Hash bytes = says_hash bytes
says_arguments words.Isam bytes = tt
says_arguments words.Bplus bytes = tt
says_arguments words.Actual bytes = says_opened heads.Actual bytes
says_arguments words.Encode bytes = says_encode bytes
says_arguments words.Segment bytes = says_segment bytes
says_arguments words.Transpose bytes = says_opened heads.Transpose bytes
says_arguments words.Partition bytes = says_partition bytes
says_arguments words.Divide bytes = says_divide bytes
says_arguments words.Index bytes = says_index bytes

-- ---- terms

-- what passes leaves less, says why it fails, and fails where no token stands
pub record IsGood (term : Pass) : Type 0 where
  pub says : (bytes : List ℕ) → Says (term bytes)
  pub shorter : (bytes : List ℕ) (y : Unit {0} × List ℕ) → term bytes ≡ Ok y
      → length y.1 < length bytes
  pub starts : (bytes : List ℕ) (f : Fault) → next_token bytes ≡ Err f → term bytes ≡ Err f

mark_step : (more : Bool) (r : Result (Unit {0} × List ℕ) Fault) (rest : List ℕ) → Says r
    → Says (cond more r (Ok (tt, rest)))
mark_step true r rest h = h
mark_step false r rest h = tt

pub says_kids : (term : Pass) → IsGood term → (fuel : ℕ) (bytes : List ℕ) → length bytes < fuel
    → Says (pass_kids term fuel bytes)
says_kids term good zero bytes lt = absurd (omega arith)
says_kids term good (suc fuel) bytes lt =
    says_then (term bytes) (λ t. want comma_or_close t.1 >>= λ more. cond more.0
    (pass_kids term fuel more.1) (Ok (tt, more.1))) (good.says bytes)
    (λ t e. says_then (want comma_or_close t.1)
    (λ more. cond more.0 (pass_kids term fuel more.1) (Ok (tt, more.1)))
    (says_want comma_or_close means_mark t.1)
    (λ more m. mark_step more.0 (pass_kids term fuel more.1) more.1
    (says_kids term good fuel more.1
    (omega (arith, good.shorter bytes t e, more_shorter t.1 more m)))))

says_behind : (term : Pass) → IsGood term → (a : Arity) (bytes : List ℕ)
    → Says (pass_behind term a bytes)
says_behind term good No_kids bytes = tt
says_behind term good One_kid bytes =
    says_then (term bytes) _ (good.says bytes) (λ t _. says_want a_close means_close t.1)
says_behind term good Two_kids bytes =
    says_then (term bytes) _ (good.says bytes)
    (λ t _. says_then (want a_comma t.1) _ (says_want a_comma means_comma t.1)
    (λ c _. says_then (term c.1) _ (good.says c.1)
    (λ u _. says_want a_close means_close u.1)))
says_behind term good Some_kids bytes = says_kids term good (suc (length bytes)) bytes (omega arith)

says_from : (term : Pass) → IsGood term → (w : HeadWord) (bytes : List ℕ)
    → Says (pass_from term w bytes)
says_from term good w bytes =
    says_then (arguments_at w bytes) (λ h. pass_behind term (word_arity w) h.1)
    (says_arguments w bytes) (λ h _. says_behind term good (word_arity w) h.1)

term_less : (levels : ℕ) (bytes : List ℕ) (y : Unit {0} × List ℕ) → pass_term levels bytes ≡ Ok y
    → length y.1 < length bytes
term_less levels bytes y e =
    let m = mapped_ok (λ x. (tt, x.1)) (term_at levels [] bytes) y (term_passes levels [] bytes ∙ e)
    in
    omega (
      arith,
      read_shorter levels [] bytes m.0 m.1,
      ap (λ (z : Unit {0} × List ℕ). length z.1) m.2,
    )

term_starts : (levels : ℕ) (bytes : List ℕ) (f : Fault) → next_token bytes ≡ Err f
    → pass_term levels bytes ≡ Err f
term_starts zero bytes f e = ap (λ n. n >>= λ x. met bytes (no_level x.0) x.1) e
term_starts (suc levels) bytes f e =
    ap (λ n. (n >>= λ x. met bytes (a_head (suc levels) x.0) x.1) >>= λ w. pass_from
    (pass_term levels) w.0 w.1) e

says_term : (levels : ℕ) (bytes : List ℕ) → Says (pass_term levels bytes)
says_term zero bytes = says_want no_level (λ t. mapped_says (λ _. tt) (a_head 0 t) (means_head 0 t))
    bytes
says_term (suc levels) bytes =
    says_then (want (a_head (suc levels)) bytes) (λ w. pass_from (pass_term levels) w.0 w.1)
    (says_want (a_head (suc levels)) (means_head (suc levels)) bytes)
    (λ w _. says_from (pass_term levels)
    (record { says = says_term levels; shorter = term_less levels; starts = term_starts levels })
    w.0 w.1)

pub good_term : (levels : ℕ) → IsGood (pass_term levels)
good_term levels = record {
  says = says_term levels;
  shorter = term_less levels;
  starts = term_starts levels;
}

-- ---- definitions

says_side_from : (x : SideWord) (bytes : List ℕ) → Says (pass_side_from x bytes)
says_side_from (link_word l) bytes =
    says_then (want an_open bytes) (λ o. pass_behind (pass_term 15) (linkset_arity l) o.1)
    (says_want an_open means_open bytes)
    (λ o _. says_behind (pass_term 15) (good_term 15) (linkset_arity l) o.1)
says_side_from (head_word w) bytes = says_from (pass_term 15) (good_term 15) w bytes

says_named : (bytes : List ℕ) → Says (pass_named bytes)
says_named bytes =
    says_then (want an_equals bytes) (λ e. pass_side e.1) (says_want an_equals means_equals bytes)
    (λ q _. says_then (want a_side_word q.1) (λ x. pass_side_from x.0 x.1)
    (says_want a_side_word means_side q.1) (λ x _. says_side_from x.0 x.1))

side_less : (bytes : List ℕ) (y : Unit {0} × List ℕ) → pass_side bytes ≡ Ok y
    → length y.1 < length bytes
side_less bytes y e =
    let m = mapped_ok (λ x. (tt, x.1)) (side_at [] bytes) y (side_passes [] bytes ∙ e) in
    omega (
      arith,
      side_shorter m.0.0.0 [] m.0.0.1 bytes m.0.1 (side_found [] bytes m.0 m.1),
      ap (λ (z : Unit {0} × List ℕ). length z.1) m.2,
    )

pub named_less : (bytes : List ℕ) (y : Unit {0} × List ℕ) → pass_named bytes ≡ Ok y
    → length y.1 < length bytes
named_less bytes y e =
    let a = bind_ok (want an_equals bytes) (λ q. pass_side q.1) y e in
    omega (arith, wanted_shorter an_equals bytes a.0 (λ x h. absurd cc) a.1, side_less a.0.1 y a.2)

pub start_less : (bytes : List ℕ) (name rest : List ℕ) → want a_start bytes ≡ Ok (Some name, rest)
    → length rest < length bytes
start_less bytes name rest e =
    let w = want_ok a_start bytes (Some name, rest) e in
    the_word name bytes rest
    (subst (λ (t : Lexeme). the t bytes rest) (start_mark w.token (Some name) w.is) w.first)

start_step : (fuel : ℕ) (bytes : List ℕ) (o : Option (List ℕ)) (rest : List ℕ)
    → length bytes < suc fuel → want a_start bytes ≡ Ok (o, rest)
    → ((b : List ℕ) → length b < fuel → Says (pass_definitions fuel b))
    → Says {X = Unit {0}} (elim o
    [ None ↦ Ok tt | Some name ↦ pass_named rest >>= λ d. pass_definitions fuel d.1 ])
start_step fuel bytes None rest lt e again = tt
start_step fuel bytes (Some name) rest lt e again =
    says_then (pass_named rest) (λ d. pass_definitions fuel d.1) (says_named rest)
    (λ d h. again d.1 (omega (arith, start_less bytes name rest e, named_less rest d h)))

pub says_definitions : (fuel : ℕ) (bytes : List ℕ) → length bytes < fuel
    → Says (pass_definitions fuel bytes)
says_definitions zero bytes lt = absurd (omega arith)
says_definitions (suc fuel) bytes lt =
    says_then (want a_start bytes)
    (λ s. elim s.0 [ None ↦ Ok tt | Some name ↦ pass_named s.1 >>= λ d. pass_definitions fuel d.1 ])
    (says_want a_start means_start bytes)
    (λ s e. start_step fuel bytes s.0 s.1 lt e (λ b h. says_definitions fuel b h))

pub says_equation : (bytes : List ℕ) → Says (pass_equation bytes)
says_equation bytes =
    says_then (pass_first bytes) (λ d. pass_definitions (suc (length d.1)) d.1)
    (says_then (want a_word bytes) (λ n. pass_named n.1) (says_want a_word means_name bytes)
    (λ n _. says_named n.1))
    (λ d _. says_definitions (suc (length d.1)) d.1 (omega arith))
