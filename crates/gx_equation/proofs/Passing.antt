-- Reading without what is read: which tokens are taken, and the first fault.
use Rattle.std.proofs.Common.{◌≡◌, ℕ, zero, suc, Bool, true, false, cond, List, [], ◌∷◌, ◌++◌, length, Option, Some, None, Result, Ok, Err, refl, sym, ap, ◌∙◌}
use Rattle.std.specs.Prelude.{codes, nat_eq}
use Rattle.std.specs.Cmp.Lexicographic.{pointwise}
use Rattle.std.proofs.lemmas.Bool.{cond_both}
use Rattle.gx_tokens.specs.declared.fault.Fault.{Fault}
use Rattle.gx_tokens.specs.declared.why.Why.{Why}
use Rattle.gx_tokens.specs.declared.why.Why.TheVariants as why
use Rattle.gx_tokens.specs.Lexemes.{Lexeme, Word, Number, Quoted, Open, Close, Comma, Equals, End, next_token}
use Rattle.gx_tokens.specs.Reading.{◌>>=◌, map_ok, met, want, word_if, an_open, a_close, a_comma, an_equals, a_word, comma_or_close, fault_at}
use Rattle.gx_tokens.proofs.ReadingLaws.{bind_ok}
use Rattle.gx_tokens.proofs.TokenFound.{done_is}
use Rattle.gx_ports.specs.declared.kinds.LeafKind.TheVariants as leaf
use Rattle.gx_equation.specs.declared.heads.Head.{Head}
use Rattle.gx_equation.specs.declared.heads.Head.TheVariants as heads
use Rattle.gx_equation.specs.declared.heads.HeadWord.{HeadWord}
use Rattle.gx_equation.specs.declared.heads.HeadWord.TheVariants as words
use Rattle.gx_equation.specs.declared.heads.Linkset.{Linkset}
use Rattle.gx_equation.specs.Definitions.{linkset_of_word, a_side, a_start, file_side_at, link_side_at, side_at, definition_behind, definitions_at, equation_at}
use Rattle.gx_equation.specs.Heads.{in_depth, head_of_word, a_head, a_size, a_code, a_bound, items_at, hash_at, encode_at, segment_at, partition_at, divide_at, index_at, opened_at, arguments_at, head_at}
use Rattle.gx_equation.specs.Shape.{word_arity}
use Rattle.gx_equation.specs.Terms.{Reader, left_of, kids_at, kids_behind, term_behind, term_at}
use Rattle.gx_equation.specs.Trees.{TermTree, node, kids_from, Arity, No_kids, One_kid, Two_kids, Some_kids, arity, linkset_arity, SideTree, file_side, link_side, DefinitionTree}

abbrev pub Pass : Type 0
Pass = List ℕ → Result (Unit {0} × List ℕ) Fault

-- ---- terms

abbrev pub pass_kids : Pass → ℕ → Pass
pass_kids term zero bytes = want (λ _. Err why.Count) bytes
pass_kids term (suc fuel) bytes =
    term bytes >>= λ t. want comma_or_close t.1 >>= λ more. cond more.0 (pass_kids term fuel more.1)
    (Ok (tt, more.1))

abbrev pub pass_behind : Pass → Arity → Pass
pass_behind term No_kids bytes = Ok (tt, bytes)
pass_behind term One_kid bytes = term bytes >>= λ t. want a_close t.1
pass_behind term Two_kids bytes =
    term bytes >>= λ t. want a_comma t.1 >>= λ comma. term comma.1 >>= λ u. want a_close u.1
pass_behind term Some_kids bytes = pass_kids term (suc (length bytes)) bytes

-- behind a head's word
abbrev pub pass_from : Pass → HeadWord → Pass
pass_from term w bytes = arguments_at w bytes >>= λ h. pass_behind term (word_arity w) h.1

-- a head that may not stand
abbrev pub no_level : Lexeme → Result (Unit {0}) Why
no_level t = map_ok (λ _. tt) (a_head 0 t)

abbrev pub pass_term : ℕ → Pass
pass_term zero bytes = want no_level bytes
pass_term (suc levels) bytes =
    want (a_head (suc levels)) bytes >>= λ w. pass_from (pass_term levels) w.0 w.1

-- ---- sides and definitions

-- the first word of a side
pub data SideWord : Type 0 where
  link_word : (linkset : Linkset) → SideWord
  head_word : (word : HeadWord) → SideWord

abbrev pub side_word : Option Linkset → List ℕ → Result SideWord Why
side_word (Some l) word = Ok (link_word l)
side_word None word = map_ok head_word (head_of_word 16 word)

abbrev pub a_side_word : Lexeme → Result SideWord Why
a_side_word = word_if (λ word. side_word (linkset_of_word word) word)

abbrev pub pass_link : Linkset → Pass
pass_link l bytes = want an_open bytes >>= λ opened. pass_behind (pass_term 15)
    (linkset_arity l) opened.1

abbrev pub pass_side_from : SideWord → Pass
pass_side_from (link_word l) bytes = pass_link l bytes
pass_side_from (head_word w) bytes = pass_from (pass_term 15) w bytes

abbrev pub pass_side : Pass
pass_side bytes = want a_side_word bytes >>= λ x. pass_side_from x.0 x.1

abbrev pub pass_named : Pass
pass_named bytes = want an_equals bytes >>= λ e. pass_side e.1

abbrev pub All : Type 0
All = Result (Unit {0}) Fault

abbrev pub pass_definitions : ℕ → List ℕ → All
pass_definitions zero bytes = want {A = Unit {0}} (λ _. Err why.Count) bytes >>= λ x. Ok x.0
pass_definitions (suc fuel) bytes =
    want a_start bytes >>= λ start. elim start.0
    [ None ↦ Ok tt | Some name ↦ pass_named start.1 >>= λ d. pass_definitions fuel d.1 ]

abbrev pub pass_first : Pass
pass_first bytes = want a_word bytes >>= λ name. pass_named name.1

abbrev pub pass_equation : List ℕ → All
pass_equation bytes = pass_first bytes >>= λ d. pass_definitions (suc (length d.1)) d.1

-- ---- what is read is passed

abbrev pub passed : {X : Type 0} → Result (X × List ℕ) Fault → Result (Unit {0} × List ℕ) Fault
passed r = map_ok (λ x. (tt, x.1)) r

passed_then : {X Y : Type 0} (r : Result (X × List ℕ) Fault) (s : Result (Unit {0} × List ℕ) Fault)
    (k : X × List ℕ → Result (Y × List ℕ) Fault) (p : Unit {0} × List ℕ
    → Result (Unit {0} × List ℕ) Fault)
    → passed r ≡ s → ((x : X × List ℕ) → passed (k x) ≡ p (tt, x.1)) → passed (r >>= k) ≡ s >>= p
passed_then (Ok x) s k p e h = h x ∙ ap (λ z. z >>= p) e
passed_then (Err f) s k p e h = ap (λ z. z >>= p) e

kept_then : {X Y Z : Type 0} (f : Y → Z) (r : Result X Fault) (k : X → Result Y Fault) (p : X
    → Result Z Fault) → ((x : X) → map_ok f (k x) ≡ p x) → map_ok f (r >>= k) ≡ r >>= p
kept_then f (Ok x) k p h = h x
kept_then f (Err e) k p h = refl

-- the reader takes the tokens that this one passes
abbrev pub PassesAs : {X : Type 0} → (List ℕ → List ℕ → Result ((X × List ℕ) × List ℕ) Fault) → Pass
    → Type 0
PassesAs reader pass = (places bytes : List ℕ) → passed (reader places bytes) ≡ pass bytes

kids_step : (more : Bool) (r : Result ((List TermTree × List ℕ) × List ℕ) Fault)
    (p : Result (Unit {0} × List ℕ) Fault) (done : (List TermTree × List ℕ) × List ℕ) → passed r ≡ p
    → passed (cond more r (Ok done)) ≡ cond more p (Ok (tt, done.1))
kids_step true r p done h = h
kids_step false r p done h = refl

kids_pass : (term : Reader) (pass : Pass) → PassesAs term pass → (fuel : ℕ) (before : List TermTree)
    → PassesAs (kids_at term fuel before) (pass_kids pass fuel)
unfolding kids_at
kids_pass term pass h zero before places bytes = spent (next_token bytes)
  where
    spent : (n : Result (Lexeme × List ℕ) Fault)
        → passed {X = List TermTree × List ℕ} (n >>= λ x. met bytes (Err why.Count) x.1)
        ≡ n >>= λ x. met bytes (Err why.Count) x.1
    spent (Ok x) = refl
    spent (Err f) = refl
kids_pass term pass h (suc fuel) before places bytes =
    passed_then (term places bytes) (pass bytes)
    (λ t. want comma_or_close t.1 >>= λ more. cond more.0
    (kids_at term fuel (before ++ t.0.0 ∷ []) t.0.1 more.1)
    (Ok ((before ++ t.0.0 ∷ [], t.0.1), more.1)))
    (λ t. want comma_or_close t.1 >>= λ more. cond more.0 (pass_kids pass fuel more.1)
    (Ok (tt, more.1))) (h places bytes)
    (λ t. kept_then (λ x. (tt, x.1)) (want comma_or_close t.1)
    (λ more. cond more.0 (kids_at term fuel (before ++ t.0.0 ∷ []) t.0.1 more.1)
    (Ok ((before ++ t.0.0 ∷ [], t.0.1), more.1)))
    (λ more. cond more.0 (pass_kids pass fuel more.1) (Ok (tt, more.1)))
    (λ more. kids_step more.0 (kids_at term fuel (before ++ t.0.0 ∷ []) t.0.1 more.1)
    (pass_kids pass fuel more.1) ((before ++ t.0.0 ∷ [], t.0.1), more.1)
    (kids_pass term pass h fuel (before ++ t.0.0 ∷ []) t.0.1 more.1)))

-- a mark behind which nothing stands
mark_pass : {X : Type 0} (r : Result (Unit {0} × List ℕ) Fault) (made : X)
    → passed (r >>= λ m. Ok (made, m.1)) ≡ r
mark_pass (Ok x) made = refl
mark_pass (Err f) made = refl

behind_pass : (term : Reader) (pass : Pass) → PassesAs term pass → (a : Arity)
    → PassesAs (kids_behind term a) (pass_behind pass a)
behind_pass term pass h No_kids places bytes = refl
behind_pass term pass h One_kid places bytes =
    passed_then (term places bytes) (pass bytes)
    (λ t. want a_close t.1 >>= λ closed. Ok ((t.0.0 ∷ [], t.0.1), closed.1))
    (λ t. want a_close t.1) (h places bytes)
    (λ t. mark_pass (want a_close t.1) (t.0.0 ∷ [], t.0.1))
behind_pass term pass h Two_kids places bytes =
    passed_then (term places bytes) (pass bytes)
    (λ t. want a_comma t.1 >>= λ comma. term t.0.1 comma.1 >>= λ u. want a_close u.1 >>=
    λ closed. Ok ((t.0.0 ∷ u.0.0 ∷ [], u.0.1), closed.1))
    (λ t. want a_comma t.1 >>= λ comma. pass comma.1 >>= λ u. want a_close u.1) (h places bytes)
    (λ t. kept_then (λ x. (tt, x.1)) (want a_comma t.1)
    (λ comma. term t.0.1 comma.1 >>= λ u. want a_close u.1 >>= λ closed. Ok
    ((t.0.0 ∷ u.0.0 ∷ [], u.0.1), closed.1))
    (λ comma. pass comma.1 >>= λ u. want a_close u.1)
    (λ comma. passed_then (term t.0.1 comma.1) (pass comma.1)
    (λ u. want a_close u.1 >>= λ closed. Ok ((t.0.0 ∷ u.0.0 ∷ [], u.0.1), closed.1))
    (λ u. want a_close u.1) (h t.0.1 comma.1)
    (λ u. mark_pass (want a_close u.1) (t.0.0 ∷ u.0.0 ∷ [], u.0.1))))
behind_pass term pass h Some_kids places bytes =
    kids_pass term pass h (suc (length bytes)) [] places bytes

-- ---- a word and its head

arity_of : (top : Head) (y : Head × List ℕ) (rest : List ℕ)
    → ◌≡◌ {A = Result (Head × List ℕ) Fault} (Ok (top, rest)) (Ok y) → arity top ≡ arity y.0
arity_of top y rest e = ap (λ z. arity z.0) (done_is (top, rest) y e)

hash_arity : (bytes : List ℕ) (y : Head × List ℕ) → hash_at bytes ≡ Ok y → No_kids ≡ arity y.0
unfolding hash_at
hash_arity bytes y e =
    let a = bind_ok (want an_open bytes) _ y e in
    let b = bind_ok (want (a_size 64) a.0.1) _ y a.2 in
    let c = bind_ok (want a_close b.0.1) _ y b.2 in
    arity_of (heads.Leaf (leaf.Hash b.0.0)) y c.0.1 c.2

encode_arity : (bytes : List ℕ) (y : Head × List ℕ) → encode_at bytes ≡ Ok y → One_kid ≡ arity y.0
unfolding encode_at
encode_arity bytes y e =
    let a = bind_ok (want an_open bytes) _ y e in
    let b = bind_ok (want a_word a.0.1) _ y a.2 in
    let c = bind_ok (want a_code b.0.1) _ y b.2 in
    let d = bind_ok (want a_comma c.0.1) _ y c.2 in
    arity_of (heads.Encode b.0.0 c.0.0) y d.0.1 d.2

segment_arity : (bytes : List ℕ) (y : Head × List ℕ) → segment_at bytes ≡ Ok y
    → Two_kids ≡ arity y.0
unfolding segment_at
segment_arity bytes y e =
    let a = bind_ok (want an_open bytes) _ y e in
    let b = bind_ok (want a_word a.0.1) _ y a.2 in
    let c = bind_ok (items_at a_word (suc (length b.0.1)) (b.0.0 ∷ []) b.0.1) _ y b.2 in
    arity_of (heads.Segment c.0.0) y c.0.1 c.2

partition_arity : (bytes : List ℕ) (y : Head × List ℕ) → partition_at bytes ≡ Ok y
    → Some_kids ≡ arity y.0
unfolding partition_at
partition_arity bytes y e =
    let a = bind_ok (want an_open bytes) _ y e in
    let b = bind_ok (want a_word a.0.1) _ y a.2 in
    let c = bind_ok (want a_bound b.0.1) _ y b.2 in
    let d = bind_ok (items_at a_bound (suc (length c.0.1)) (c.0.0 ∷ []) c.0.1) _ y c.2 in
    arity_of (heads.Partition b.0.0 d.0.0) y d.0.1 d.2

divide_arity : (bytes : List ℕ) (y : Head × List ℕ) → divide_at bytes ≡ Ok y → One_kid ≡ arity y.0
unfolding divide_at
divide_arity bytes y e =
    let a = bind_ok (want an_open bytes) _ y e in
    let b = bind_ok (want (a_size 16000) a.0.1) _ y a.2 in
    let c = bind_ok (want a_comma b.0.1) _ y b.2 in
    arity_of (heads.Divide b.0.0) y c.0.1 c.2

index_arity : (bytes : List ℕ) (y : Head × List ℕ) → index_at bytes ≡ Ok y → Two_kids ≡ arity y.0
unfolding index_at
index_arity bytes y e =
    let a = bind_ok (want an_open bytes) _ y e in
    let b = bind_ok (want a_word a.0.1) _ y a.2 in
    let c = bind_ok (want a_comma b.0.1) _ y b.2 in
    arity_of (heads.Index b.0.0) y c.0.1 c.2

opened_arity : (top : Head) (bytes : List ℕ) (y : Head × List ℕ) → opened_at top bytes ≡ Ok y
    → arity top ≡ arity y.0
opened_arity top bytes y e = let a = bind_ok (want an_open bytes) _ y e in arity_of top y a.0.1 a.2

arguments_arity : (w : HeadWord) (bytes : List ℕ) (y : Head × List ℕ) → arguments_at w bytes ≡ Ok y
    → word_arity w ≡ arity y.0
unfolding arguments_at
arguments_arity words.Heap bytes y e = arity_of (heads.Leaf leaf.Heap) y bytes e
arguments_arity words.Hash bytes y e = hash_arity bytes y e
arguments_arity words.Isam bytes y e = arity_of (heads.Leaf leaf.Isam) y bytes e
arguments_arity words.Bplus bytes y e = arity_of (heads.Leaf leaf.Bplus) y bytes e
arguments_arity words.Actual bytes y e = opened_arity heads.Actual bytes y e
arguments_arity words.Encode bytes y e = encode_arity bytes y e
arguments_arity words.Segment bytes y e = segment_arity bytes y e
arguments_arity words.Transpose bytes y e = opened_arity heads.Transpose bytes y e
arguments_arity words.Partition bytes y e = partition_arity bytes y e
arguments_arity words.Divide bytes y e = divide_arity bytes y e
arguments_arity words.Index bytes y e = index_arity bytes y e

-- ---- terms, sides and definitions

-- the meaning of a head's word, by what it is said for each
pub head_cases : (levels : ℕ) (word : List ℕ) (P : Result HeadWord Why → Type 0)
    → ((w : HeadWord) → P (in_depth levels w)) → P (Err why.Unexpected)
    → P (head_of_word levels word)
unfolding head_of_word
head_cases levels word P each other =
    cond_both (pointwise nat_eq word (codes "heap")) _ _ P (λ _. each words.Heap) (λ _.
    cond_both (pointwise nat_eq word (codes "hash")) _ _ P (λ _. each words.Hash) (λ _.
    cond_both (pointwise nat_eq word (codes "isam")) _ _ P (λ _. each words.Isam) (λ _.
    cond_both (pointwise nat_eq word (codes "bplus")) _ _ P (λ _. each words.Bplus) (λ _.
    cond_both (pointwise nat_eq word (codes "actual")) _ _ P (λ _. each words.Actual) (λ _.
    cond_both (pointwise nat_eq word (codes "encode")) _ _ P (λ _. each words.Encode) (λ _.
    cond_both (pointwise nat_eq word (codes "segment")) _ _ P (λ _. each words.Segment) (λ _.
    cond_both (pointwise nat_eq word (codes "transpose")) _ _ P (λ _. each words.Transpose) (λ _.
    cond_both (pointwise nat_eq word (codes "partition")) _ _ P (λ _. each words.Partition) (λ _.
    cond_both (pointwise nat_eq word (codes "divide")) _ _ P (λ _. each words.Divide) (λ _.
    cond_both (pointwise nat_eq word (codes "index")) _ _ P (λ _. each words.Index)
    (λ _. other)))))))))))

-- a token that may not stand
abbrev pub IsRefused : {A : Type 0} → Result A Why → Type 0
IsRefused (Ok x) = ⊥
IsRefused (Err reason) = Unit {0}

no_word : (word : List ℕ) → IsRefused (head_of_word 0 word)
no_word word = head_cases 0 word IsRefused (λ w. tt) tt

pub no_head : (t : Lexeme) → IsRefused (a_head 0 t)
no_head (Word w) = no_word w
no_head (Number w) = tt
no_head (Quoted w) = tt
no_head Open = tt
no_head Close = tt
no_head Comma = tt
no_head Equals = tt
no_head End = tt

refused_met : (bytes rest : List ℕ) (m : Result HeadWord Why) → IsRefused m
    → passed {X = TermTree × List ℕ}
    (met bytes m rest >>= λ w. arguments_at w.0 w.1 >>= λ h. Err (fault_at bytes why.Depth))
    ≡ met bytes (map_ok (λ _. tt) m) rest
refused_met bytes rest (Ok w) h = absurd h
refused_met bytes rest (Err reason) h = refl

zero_pass : (bytes : List ℕ) (n : Result (Lexeme × List ℕ) Fault)
    → passed {X = TermTree × List ℕ}
    (n >>= λ x. met bytes (a_head 0 x.0) x.1 >>= λ w. arguments_at w.0 w.1 >>= λ h. Err
    (fault_at bytes why.Depth)) ≡ n >>= λ x. met bytes (no_level x.0) x.1
zero_pass bytes (Ok x) = refused_met bytes x.1 (a_head 0 x.0) (no_head x.0)
zero_pass bytes (Err f) = refl

bind_assoc : {A B C : Type 0} (r : Result A Fault) (k : A → Result B Fault) (l : B → Result C Fault)
    → ((r >>= k) >>= l) ≡ r >>= λ x. k x >>= l
bind_assoc (Ok x) k l = refl
bind_assoc (Err f) k l = refl

made_pass : {X Y : Type 0} (r : Result (X × List ℕ) Fault) (f : X → Y)
    → passed (r >>= λ x. Ok (f x.0, x.1)) ≡ passed r
made_pass (Ok x) f = refl
made_pass (Err e) f = refl

known_then : {X Y Z : Type 0} (f : Y → Z) (r s : Result X Fault) (k : X → Result Y Fault) (p : X
    → Result Z Fault) → s ≡ r → ((x : X) → s ≡ Ok x → map_ok f (k x) ≡ p x)
    → map_ok f (r >>= k) ≡ r >>= p
known_then f (Ok x) s k p e h = h x e
known_then f (Err d) s k p e h = refl

from_pass : (term : Reader) (pass : Pass) → PassesAs term pass
    → (w : HeadWord) (places bytes : List ℕ)
    → passed (arguments_at w bytes >>= λ h. term_behind term h.0 places h.1)
    ≡ pass_from pass w bytes
unfolding term_behind
from_pass term pass each w places bytes =
    known_then (λ x. (tt, x.1)) (arguments_at w bytes) (arguments_at w bytes)
    (λ h. term_behind term h.0 places h.1) (λ h. pass_behind pass (word_arity w) h.1) refl
    (λ h e. made_pass (kids_behind term (arity h.0) places h.1)
    (λ z. (node h.0 (kids_from z.0), z.1))
    ∙ (behind_pass term pass each (arity h.0) places h.1
    ∙ ap (λ (a : Arity). pass_behind pass a h.1) (sym (arguments_arity w bytes h e))))

pub term_passes : (levels : ℕ) → PassesAs (term_at levels) (pass_term levels)
unfolding term_at term_behind head_at
term_passes zero places bytes =
    ap passed (bind_assoc (want (a_head 0) bytes) (λ w. arguments_at w.0 w.1)
    (λ h. Err (fault_at bytes why.Depth)))
    ∙ (ap passed (bind_assoc (next_token bytes) (λ x. met bytes (a_head 0 x.0) x.1)
    (λ w. arguments_at w.0 w.1 >>= λ h. Err (fault_at bytes why.Depth)))
    ∙ zero_pass bytes (next_token bytes))
term_passes (suc levels) places bytes =
    let before = places ++ left_of bytes ∷ [] in
    ap passed (bind_assoc (want (a_head (suc levels)) bytes) (λ w. arguments_at w.0 w.1)
    (λ h. term_behind (term_at levels) h.0 before h.1))
    ∙ kept_then (λ x. (tt, x.1)) (want (a_head (suc levels)) bytes)
    (λ w. arguments_at w.0 w.1 >>= λ h. term_behind (term_at levels) h.0 before h.1)
    (λ w. pass_from (pass_term levels) w.0 w.1)
    (λ w. from_pass (term_at levels) (pass_term levels) (term_passes levels) w.0 before w.1)

link_passes : (l : Linkset) → PassesAs (link_side_at l) (pass_link l)
unfolding link_side_at
link_passes l places bytes =
    kept_then (λ x. (tt, x.1)) (want an_open bytes)
    (λ o. kids_behind (term_at 15) (linkset_arity l) places o.1 >>= λ ts. Ok
    ((link_side l ts.0.0, ts.0.1), ts.1))
    (λ o. pass_behind (pass_term 15) (linkset_arity l) o.1)
    (λ o. made_pass (kids_behind (term_at 15) (linkset_arity l) places o.1)
    (λ z. (link_side l z.0, z.1))
    ∙ behind_pass (term_at 15) (pass_term 15) (term_passes 15) (linkset_arity l) places o.1)

file_passes : PassesAs file_side_at (pass_term 16)
unfolding file_side_at
file_passes places bytes = made_pass (term_at 16 places bytes) (λ z. (file_side z.0, z.1))
    ∙ term_passes 16 places bytes

word_pass : (bytes rest : List ℕ) (m : Result HeadWord Why)
    → (met bytes m rest >>= λ w. pass_from (pass_term 15) w.0 w.1) ≡ met bytes
    (map_ok head_word m) rest >>= λ x. pass_side_from x.0 x.1
word_pass bytes rest (Ok w) = refl
word_pass bytes rest (Err reason) = refl

-- a term is due
file_by : (places bytes : List ℕ) (t : Lexeme) (rest : List ℕ) → next_token bytes ≡ Ok (t, rest)
    → passed (file_side_at places bytes) ≡ met bytes (map_ok head_word (a_head 16 t)) rest >>= λ x.
    pass_side_from x.0 x.1
file_by places bytes t rest e =
    file_passes places bytes
    ∙ (ap (λ n. (n >>= λ x. met bytes (a_head 16 x.0) x.1) >>= λ w. pass_from
    (pass_term 15) w.0 w.1) e ∙ word_pass bytes rest (a_head 16 t))

side_word_by : (places bytes word rest : List ℕ) (o : Option Linkset)
    → next_token bytes ≡ Ok (Word word, rest)
    → passed {X = SideTree × List ℕ}
    (elim o [
      | None ↦ file_side_at places bytes
      | Some l ↦ link_side_at l (places ++ left_of bytes ∷ []) rest
    ]) ≡ met bytes
    (side_word o word) rest >>= λ x. pass_side_from x.0 x.1
side_word_by places bytes word rest (Some l) e = link_passes l (places ++ left_of bytes ∷ []) rest
side_word_by places bytes word rest None e = file_by places bytes (Word word) rest e

side_by : (places bytes : List ℕ) (n : Result (Lexeme × List ℕ) Fault) → next_token bytes ≡ n
    → passed {X = SideTree × List ℕ}
    ((n >>= λ x. met bytes (a_side x.0) x.1) >>= λ y. elim y.0 [
      | None ↦ file_side_at places bytes
      | Some l ↦ link_side_at l
          (places ++ left_of bytes ∷ []) y.1
    ])
    ≡ (n >>= λ x. met bytes (a_side_word x.0) x.1) >>= λ x. pass_side_from x.0 x.1
side_by places bytes (Err f) e = refl
side_by places bytes (Ok (Word w, rest)) e = side_word_by places bytes w rest (linkset_of_word w) e
side_by places bytes (Ok (Number w, rest)) e = file_by places bytes (Number w) rest e
side_by places bytes (Ok (Quoted w, rest)) e = file_by places bytes (Quoted w) rest e
side_by places bytes (Ok (Open, rest)) e = file_by places bytes Open rest e
side_by places bytes (Ok (Close, rest)) e = file_by places bytes Close rest e
side_by places bytes (Ok (Comma, rest)) e = file_by places bytes Comma rest e
side_by places bytes (Ok (Equals, rest)) e = file_by places bytes Equals rest e
side_by places bytes (Ok (End, rest)) e = file_by places bytes End rest e

pub side_passes : PassesAs side_at pass_side
unfolding side_at
side_passes places bytes = side_by places bytes (next_token bytes) refl

abbrev made : List ℕ → SideTree → DefinitionTree
made n s = record { name = n; side = s }

named_passes : (name : List ℕ) → PassesAs (definition_behind name) pass_named
unfolding definition_behind
named_passes name places bytes =
    kept_then (λ x. (tt, x.1)) (want an_equals bytes)
    (λ q. side_at places q.1 >>= λ s. Ok ((made name s.0.0, s.0.1), s.1)) (λ q. pass_side q.1)
    (λ q. made_pass (side_at places q.1) (λ z. (made name z.0, z.1)) ∙ side_passes places q.1)

-- ---- all of the text

abbrev all_passed : {Y : Type 0} → Result Y Fault → All
all_passed r = map_ok (λ _. tt) r

all_then : {X Y : Type 0} (r : Result (X × List ℕ) Fault) (s : Result (Unit {0} × List ℕ) Fault)
    (k : X × List ℕ → Result Y Fault) (p : Unit {0} × List ℕ → All)
    → passed r ≡ s → ((x : X × List ℕ) → all_passed (k x) ≡ p (tt, x.1))
    → all_passed (r >>= k) ≡ s >>= p
all_then (Ok x) s k p e h = h x ∙ ap (λ z. z >>= p) e
all_then (Err f) s k p e h = ap (λ z. z >>= p) e

spent_all : (bytes : List ℕ) (n : Result (Lexeme × List ℕ) Fault)
    → all_passed {Y = List DefinitionTree × List ℕ}
    ((n >>= λ x. met {A = List DefinitionTree × List ℕ} bytes (Err why.Count) x.1) >>= λ x. Ok
    x.0) ≡ (n >>= λ x. met {A = Unit {0}} bytes (Err why.Count) x.1) >>= λ x. Ok x.0
spent_all bytes (Ok x) = refl
spent_all bytes (Err f) = refl

start_step : (fuel : ℕ) (before : List DefinitionTree) (places bytes : List ℕ) (o : Option (List ℕ))
    (rest : List ℕ) → ((ds : List DefinitionTree) (seen b : List ℕ)
    → all_passed (definitions_at fuel ds seen b) ≡ pass_definitions fuel b)
    → all_passed {Y = List DefinitionTree × List ℕ}
    (elim o [
      | None ↦ Ok (before, places)
      | Some name ↦ definition_behind name
          (places ++ left_of bytes ∷ []) rest >>= λ d. definitions_at fuel
          (before ++ d.0.0 ∷ []) d.0.1 d.1
    ])
    ≡ elim o [ None ↦ Ok tt | Some name ↦ pass_named rest >>= λ d. pass_definitions fuel d.1 ]
start_step fuel before places bytes None rest again = refl
start_step fuel before places bytes (Some name) rest again =
    all_then (definition_behind name (places ++ left_of bytes ∷ []) rest) (pass_named rest)
    (λ d. definitions_at fuel (before ++ d.0.0 ∷ []) d.0.1 d.1) (λ d. pass_definitions fuel d.1)
    (named_passes name (places ++ left_of bytes ∷ []) rest)
    (λ d. again (before ++ d.0.0 ∷ []) d.0.1 d.1)

definitions_pass : (fuel : ℕ) (before : List DefinitionTree) (places bytes : List ℕ)
    → all_passed (definitions_at fuel before places bytes) ≡ pass_definitions fuel bytes
unfolding definitions_at
definitions_pass zero before places bytes = spent_all bytes (next_token bytes)
definitions_pass (suc fuel) before places bytes =
    kept_then {Z = Unit {0}} (λ _. tt) (want a_start bytes)
    (λ s. elim s.0 [
      | None ↦ Ok (before, places)
      | Some name ↦ definition_behind name (places ++ left_of bytes ∷ []) s.1 >>= λ d.
          definitions_at fuel (before ++ d.0.0 ∷ []) d.0.1 d.1
    ])
    (λ s. elim s.0 [ None ↦ Ok tt | Some name ↦ pass_named s.1 >>= λ d. pass_definitions fuel d.1 ])
    (λ s. start_step fuel before places bytes s.0 s.1
    (λ ds seen b. definitions_pass fuel ds seen b))

pub equation_passes : (bytes : List ℕ) → all_passed (equation_at bytes) ≡ pass_equation bytes
unfolding equation_at
equation_passes bytes =
    kept_then {Z = Unit {0}} (λ _. tt) (want a_word bytes)
    (λ n. definition_behind n.0 (left_of bytes ∷ []) n.1 >>= λ d. definitions_at
    (suc (length d.1)) (d.0.0 ∷ []) d.0.1 d.1)
    (λ n. pass_named n.1 >>= λ d. pass_definitions (suc (length d.1)) d.1)
    (λ n. all_then (definition_behind n.0 (left_of bytes ∷ []) n.1) (pass_named n.1)
    (λ d. definitions_at (suc (length d.1)) (d.0.0 ∷ []) d.0.1 d.1)
    (λ d. pass_definitions (suc (length d.1)) d.1)
    (named_passes n.0 (left_of bytes ∷ []) n.1)
    (λ d. definitions_pass (suc (length d.1)) (d.0.0 ∷ []) d.0.1 d.1))
    ∙ sym (bind_assoc (want a_word bytes) (λ n. pass_named n.1)
    (λ d. pass_definitions (suc (length d.1)) d.1))
