-- The ends of spans.
use Rattle.std.proofs.lemmas.Int.{ints}
use Rattle.std.proofs.Common.{◌≡◌, ◌≢◌, ℕ, zero, suc, ◌-◌, ◌<◌, List, [], ◌∷◌, ◌++◌, length, take, drop, get_or, Bool, true, false, refl, sym, ap, subst, ◌∙◌, arith, length-append, append-nil, ◌⊎◌, inl, inr}
use Rattle.std.specs.Prelude.{ℤ, pos, ◌<ℤ◌, ◌-ℤ◌, ◌+ℤ◌, IsTrue, ◌&&◌}
use Rattle.std.specs.List.{list_all}
use Rattle.std.specs.Ordering.{ordering_reverse, nat_cmp, int_cmp, is_le, is_lt, is_ge, is_gt, ordering_then}
use Rattle.std.specs.declared.cmp.Ordering.{Ordering}
use Rattle.std.specs.declared.cmp.Ordering.TheVariants.{Less, Equal, Greater}
use Rattle.std.specs.Cmp.{ranked, int_ranked}
use Rattle.std.specs.Cmp.Lexicographic.{slice_cmp}
use Rattle.std.specs.Int.{w64}
use Rattle.std.specs.Int.RustNames.{FitsSigned}
use Rattle.gx_laws.proofs.OrderingLemmas.{cmp_less, cmp_equal, cmp_greater}
use Rattle.gx_values.specs.declared.values.Kind.{Kind}
use Rattle.gx_values.specs.declared.values.Kind.TheVariants as kind
use Rattle.gx_values.specs.declared.values.Value.{Value}
use Rattle.gx_values.specs.declared.values.Value.TheVariants as value
use Rattle.gx_values.specs.declared.values.Op.{Op}
use Rattle.gx_values.specs.declared.values.Op.TheVariants as op
use Rattle.gx_values.specs.declared.keys.Span.{Span}
use Rattle.gx_values.specs.Values.{value_cmp, is_met, Fits, is_printable}
use Rattle.gx_values.specs.Keys.{bytes_of, IsKeyKind}
use Rattle.gx_values.specs.Spans.{IsSpanKind, IsSpanBound, IsLow, IsHigh, HoldsThoseMet, IsValueSpan, IsBeyond}
use Rattle.gx_values.proofs.OrderLemmas.{value_cmp_total, key_order, longer_order, value_prefix_free, printable_head, printable_one, printable_tail}

-- ---- no end

pub low_none : (k : Kind) (b : Value) → IsLow k (λ o. true) b []
low_none k b = record {
  whole = λ v rest fits e. absurd
      (omega (arith, ap length e, length-append (bytes_of v) rest, some v));
  decides = λ v rest fits. below (bytes_of v ++ rest);
}
  where
    some : (v : Value) → 0 < length (bytes_of v)
    some (value.Int n) = omega arith
    some (value.Text t) = omega (arith, length-append t (0 ∷ []))
    some (value.Bytes t) = omega (arith, length-append t (0 ∷ []))

    below : (l : List ℕ) → is_le (slice_cmp nat_cmp [] l) ≡ true
    below [] = refl
    below (x ∷ l) = refl

pub high_none : (k : Kind) (b : Value) → IsHigh k (λ o. true) b []
high_none k b = record {
  whole = λ v rest fits e. (low_none k b).whole v rest fits e;
  decides = λ v rest fits. refl;
}

-- ---- a value's own key bytes

keys_of : (k : Kind) → IsSpanKind k → IsKeyKind k
keys_of kind.Int h = tt
keys_of (kind.Text most) h = tt
keys_of (kind.Bytes most) h = absurd h

value_whole : (k : Kind) (b v : Value) (rest : List ℕ) → IsSpanKind k → Fits k b → Fits k v
    → bytes_of b ≡ bytes_of v ++ rest → rest ≡ []
value_whole k b v rest span f g e =
    sym (value_prefix_free k (keys_of k span) b v [] rest f g (append-nil (bytes_of b) ∙ e)).1

reversed : (o : Ordering) (rest : List ℕ)
    → is_le (ordering_then (ordering_reverse o) (slice_cmp nat_cmp [] rest)) ≡ is_ge o
reversed Less rest = refl
reversed Equal [] = refl
reversed Equal (x ∷ rest) = refl
reversed Greater rest = refl

pub low_of_key : (k : Kind) (b : Value) → IsSpanKind k → Fits k b → IsLow k is_ge b (bytes_of b)
low_of_key k b span f = record {
  whole = λ v rest g e. value_whole k b v rest span f g e;
  decides = λ v rest g.
      ap (λ l. is_le (slice_cmp nat_cmp l (bytes_of v ++ rest))) (sym (append-nil (bytes_of b)))
      ∙ ap is_le (longer_order k b v [] rest (keys_of k span) f g)
      ∙ ap (λ o. is_le (ordering_then o (slice_cmp nat_cmp [] rest))) (value_cmp_total.antisymm b v)
      ∙ reversed (value_cmp v b) rest;
}

-- the front as long as a key, of what begins with a value
text_key_high : (t v rest : List ℕ) → IsTrue (list_all is_printable t)
    → IsTrue (list_all is_printable v)
    → is_le (slice_cmp nat_cmp (take (length (t ++ 0 ∷ [])) ((v ++ 0 ∷ []) ++ rest))
    (t ++ 0 ∷ [])) ≡ is_le (slice_cmp nat_cmp v t)
text_key_high [] [] rest p q = refl
text_key_high [] (x ∷ v) rest p q =
    ap (λ o. is_le (ordering_then o Equal)) (cmp_greater x 0 (printable_head x v q))
text_key_high (y ∷ t) [] rest p q =
    ap (λ o. is_le (ordering_then o
    (slice_cmp nat_cmp (take (length (t ++ 0 ∷ [])) rest) (t ++ 0 ∷ []))))
    (cmp_less 0 y (printable_head y t p))
text_key_high (y ∷ t) (x ∷ v) rest p q =
    elim (nat_cmp x y) as (λ o. is_le
    (ordering_then o (slice_cmp nat_cmp (take (length (t ++ 0 ∷ [])) ((v ++ 0 ∷ []) ++ rest))
    (t ++ 0 ∷ []))) ≡ is_le (ordering_then o (slice_cmp nat_cmp v t))) [
      | Less ↦ refl
      | Equal ↦ text_key_high t v rest (printable_tail y t p) (printable_tail x v q)
      | Greater ↦ refl
    ]

int_front : (m n : ℤ) (rest : List ℕ)
    → take (length (bytes_of (value.Int n))) (bytes_of (value.Int m) ++ rest) ≡ bytes_of
    (value.Int m)
int_front m n rest = refl

pub high_of_key : (k : Kind) (b : Value) → IsSpanKind k → Fits k b → IsHigh k is_le b (bytes_of b)
high_of_key k b span f = record {
  whole = λ v rest g e. value_whole k b v rest span f g e;
  decides = λ v rest g. by_kind k b v rest span f g;
}
  where
    by_kind : (k : Kind) (b v : Value) (rest : List ℕ) → IsSpanKind k → Fits k b → Fits k v
        → is_le (slice_cmp nat_cmp (take (length (bytes_of b)) (bytes_of v ++ rest)) (bytes_of b))
        ≡ is_le (value_cmp v b)
    by_kind kind.Int (value.Int n) (value.Int m) rest span f g =
        ap (λ l. is_le (slice_cmp nat_cmp l (bytes_of (value.Int n)))) (int_front m n rest)
        ∙ ap is_le (key_order kind.Int (value.Int m) (value.Int n) tt g f)
    by_kind (kind.Text most) (value.Text t) (value.Text v) rest span f g =
        text_key_high t v rest f.1 g.1
    by_kind (kind.Bytes most) b v rest span f g = absurd span
    by_kind kind.Int (value.Text t) v rest span f g = absurd f
    by_kind kind.Int (value.Bytes t) v rest span f g = absurd f
    by_kind kind.Int (value.Int n) (value.Text t) rest span f g = absurd g
    by_kind kind.Int (value.Int n) (value.Bytes t) rest span f g = absurd g
    by_kind (kind.Text most) (value.Int t) v rest span f g = absurd f
    by_kind (kind.Text most) (value.Bytes t) v rest span f g = absurd f
    by_kind (kind.Text most) (value.Text n) (value.Int t) rest span f g = absurd g
    by_kind (kind.Text most) (value.Text n) (value.Bytes t) rest span f g = absurd g

-- ---- the ints beside

at_most : (a b : ℤ) → (b <ℤ a → ⊥) → is_le (int_cmp a b) ≡ true
at_most a b h = elim (int_cmp a b) as (λ o. o ≡ int_cmp a b → is_le o ≡ true) [
  | Less ↦ λ e. refl
  | Equal ↦ λ e. refl
  | Greater ↦ λ e. absurd (h (int_ranked a b Greater e))
] refl

is_above : (a b : ℤ) → b <ℤ a → is_le (int_cmp a b) ≡ false
is_above a b h = elim (int_cmp a b) as (λ o. o ≡ int_cmp a b → is_le o ≡ false) [
  | Less ↦ λ e. let lt = int_ranked a b Less e in absurd (omega (arith, ints, lt, h))
  | Equal ↦ λ e. let eq = int_ranked a b Equal e in absurd (omega (arith, ints, eq, h))
  | Greater ↦ λ e. refl
] refl

int_lower : (m n : ℤ) → is_le (int_cmp m (n -ℤ pos 1)) ≡ is_lt (int_cmp m n)
int_lower m n = elim (int_cmp m n) as (λ o. o ≡ int_cmp m n
    → is_le (int_cmp m (n -ℤ pos 1)) ≡ is_lt o) [
      | Less ↦ λ e. let lt = int_ranked m n Less e in
          at_most m (n -ℤ pos 1) (λ h. omega (arith, ints, lt, h))
      | Equal ↦ λ e. let eq = int_ranked m n Equal e in
          is_above m (n -ℤ pos 1) (omega (arith, ints, eq))
      | Greater ↦ λ e. let lt = int_ranked m n Greater e in
          is_above m (n -ℤ pos 1) (omega (arith, ints, lt))
    ] refl

int_higher : (m n : ℤ) → is_ge (int_cmp m (n +ℤ pos 1)) ≡ is_gt (int_cmp m n)
int_higher m n = elim (int_cmp m n) as (λ o. o ≡ int_cmp m n
    → is_ge (int_cmp m (n +ℤ pos 1)) ≡ is_gt o) [
      | Less ↦ λ e. let lt = int_ranked m n Less e in
          is_below m (n +ℤ pos 1) (omega (arith, ints, lt))
      | Equal ↦ λ e. let eq = int_ranked m n Equal e in
          is_below m (n +ℤ pos 1) (omega (arith, ints, eq))
      | Greater ↦ λ e. let lt = int_ranked m n Greater e in
          at_least m (n +ℤ pos 1) (λ h. omega (arith, ints, lt, h))
    ] refl
  where
    at_least : (a b : ℤ) → (a <ℤ b → ⊥) → is_ge (int_cmp a b) ≡ true
    at_least a b h = elim (int_cmp a b) as (λ o. o ≡ int_cmp a b → is_ge o ≡ true) [
      | Less ↦ λ e. absurd (h (int_ranked a b Less e))
      | Equal ↦ λ e. refl
      | Greater ↦ λ e. refl
    ] refl

    is_below : (a b : ℤ) → a <ℤ b → is_ge (int_cmp a b) ≡ false
    is_below a b h = elim (int_cmp a b) as (λ o. o ≡ int_cmp a b → is_ge o ≡ false) [
      | Less ↦ λ e. refl
      | Equal ↦ λ e. let eq = int_ranked a b Equal e in absurd (omega (arith, ints, eq, h))
      | Greater ↦ λ e. let lt = int_ranked a b Greater e in absurd (omega (arith, ints, lt, h))
    ] refl

-- the bytes of the int before are an upper end, and those of the int after a lower end
high_before : (k : Kind) (n : ℤ) (hi : List ℕ) → Fits k (value.Int n) → FitsSigned w64 (n -ℤ pos 1)
    → hi ≡ bytes_of (value.Int (n -ℤ pos 1)) → IsHigh k is_lt (value.Int n) hi
high_before kind.Int n hi f fits e = subst (IsHigh kind.Int is_lt (value.Int n)) (sym e) (
    let key = high_of_key kind.Int (value.Int (n -ℤ pos 1)) tt fits in
    record { whole = key.whole; decides = λ v rest g. key.decides v rest g ∙ lower v g })
  where
    lower : (v : Value) → Fits kind.Int v
        → is_le (value_cmp v (value.Int (n -ℤ pos 1))) ≡ is_lt (value_cmp v (value.Int n))
    lower (value.Int m) g = int_lower m n
    lower (value.Text m) g = absurd g
    lower (value.Bytes m) g = absurd g
high_before (kind.Text most) n hi f fits e = absurd f
high_before (kind.Bytes most) n hi f fits e = absurd f

low_after : (k : Kind) (n : ℤ) (lo : List ℕ) → Fits k (value.Int n) → FitsSigned w64 (n +ℤ pos 1)
    → lo ≡ bytes_of (value.Int (n +ℤ pos 1)) → IsLow k is_gt (value.Int n) lo
low_after kind.Int n lo f fits e = subst (IsLow kind.Int is_gt (value.Int n)) (sym e) (
    let key = low_of_key kind.Int (value.Int (n +ℤ pos 1)) tt fits in
    record { whole = key.whole; decides = λ v rest g. key.decides v rest g ∙ higher v g })
  where
    higher : (v : Value) → Fits kind.Int v
        → is_ge (value_cmp v (value.Int (n +ℤ pos 1))) ≡ is_gt (value_cmp v (value.Int n))
    higher (value.Int m) g = int_higher m n
    higher (value.Text m) g = absurd g
    higher (value.Bytes m) g = absurd g
low_after (kind.Text most) n lo f fits e = absurd f
low_after (kind.Bytes most) n lo f fits e = absurd f

-- ---- the texts beside

-- bytes without a 0 don't begin with those of a text
no_end : (front : List ℕ) (c : ℕ) (v rest : List ℕ) → IsTrue (list_all is_printable front) → 0 < c
    → front ++ c ∷ [] ≡ (v ++ 0 ∷ []) ++ rest → ⊥
no_end [] c [] rest p some e = let h : c ≡ 0 = ap (λ (l : List ℕ). get_or l 0 0) e in omega arith
no_end [] c (x ∷ v) rest p some e =
    let short : 0 ≡ length ((v ++ 0 ∷ []) ++ rest) = ap (λ (l : List ℕ). length (drop 1 l)) e in
    omega (arith, short, length-append (v ++ 0 ∷ []) rest, length-append v (0 ∷ []))
no_end (y ∷ front) c [] rest p some e = let h : y ≡ 0 = ap (λ (l : List ℕ). get_or l 0 0) e in
    omega (arith, printable_head y front p)
no_end (y ∷ front) c (x ∷ v) rest p some e =
    no_end front c v rest (printable_tail y front p) some (ap (drop 1) e)

above_one : (c : ℕ) (a : List ℕ) → IsTrue (list_all is_printable (c ∷ a)) → 1 < c
above_one zero a h = absurd (let x : false ≡ true = h in cc)
above_one (suc zero) a h = absurd (let x : false ≡ true = h in cc)
above_one (suc (suc c)) a h = omega arith

text_low : (t v rest : List ℕ) → IsTrue (list_all is_printable t) → IsTrue (list_all is_printable v)
    → is_le (slice_cmp nat_cmp (t ++ 1 ∷ []) ((v ++ 0 ∷ []) ++ rest)) ≡ is_gt
    (slice_cmp nat_cmp v t)
text_low [] [] rest p q = refl
text_low [] (x ∷ v) rest p q =
    ap (λ o. is_le (ordering_then o (slice_cmp nat_cmp [] ((v ++ 0 ∷ []) ++ rest))))
    (cmp_less 1 x (above_one x v q))
text_low (y ∷ t) [] rest p q =
    ap (λ o. is_le (ordering_then o (slice_cmp nat_cmp (t ++ 1 ∷ []) rest)))
    (cmp_greater y 0 (printable_head y t p))
text_low (y ∷ t) (x ∷ v) rest p q =
    elim (nat_cmp x y) as (λ o. o ≡ nat_cmp x y
    → is_le (ordering_then (nat_cmp y x)
    (slice_cmp nat_cmp (t ++ 1 ∷ []) ((v ++ 0 ∷ []) ++ rest))) ≡ is_gt
    (ordering_then o (slice_cmp nat_cmp v t))) [
      | Less ↦ λ e. ap (λ o. is_le
          (ordering_then o (slice_cmp nat_cmp (t ++ 1 ∷ []) ((v ++ 0 ∷ []) ++ rest))))
          (cmp_greater y x (ranked x y Less e))
      | Equal ↦ λ e. ap (λ o. is_le
          (ordering_then o (slice_cmp nat_cmp (t ++ 1 ∷ []) ((v ++ 0 ∷ []) ++ rest))))
          (cmp_equal y x (sym (ranked x y Equal e)))
          ∙ text_low t v rest (printable_tail y t p) (printable_tail x v q)
      | Greater ↦ λ e. ap (λ o. is_le
          (ordering_then o (slice_cmp nat_cmp (t ++ 1 ∷ []) ((v ++ 0 ∷ []) ++ rest))))
          (cmp_less y x (ranked x y Greater e))
    ] refl

below_next : (x p : ℕ) (v : List ℕ)
    → is_le (ordering_then (nat_cmp x p) Equal) ≡ is_lt
    (ordering_then (nat_cmp x (suc p)) (slice_cmp nat_cmp v []))
below_next x p v = elim (nat_cmp x p) as (λ o. o ≡ nat_cmp x p
    → is_le (ordering_then o Equal) ≡ is_lt
    (ordering_then (nat_cmp x (suc p)) (slice_cmp nat_cmp v []))) [
      | Less ↦ λ e. let lt = ranked x p Less e in
          ap (λ o. is_lt (ordering_then o (slice_cmp nat_cmp v [])))
          (sym (cmp_less x (suc p) (omega (arith, lt))))
      | Equal ↦ λ e. let eq = ranked x p Equal e in
          ap (λ o. is_lt (ordering_then o (slice_cmp nat_cmp v [])))
          (sym (cmp_less x (suc p) (omega (arith, eq))))
      | Greater ↦ λ e. not_less (nat_cmp x (suc p)) v (λ h. let lt = ranked x p Greater e in
          let le =
          ranked x (suc p) Less h in omega (arith, lt, le))
    ] refl
  where
    not_less : (o : Ordering) (v : List ℕ) → (Less ≡ o → ⊥)
        → false ≡ is_lt (ordering_then o (slice_cmp nat_cmp v []))
    not_less Less v h = absurd (h refl)
    not_less Equal [] h = refl
    not_less Equal (x ∷ v) h = refl
    not_less Greater v h = refl

text_high : (front : List ℕ) (p : ℕ) (v rest : List ℕ) → IsTrue (list_all is_printable front)
    → 0 < p → IsTrue (list_all is_printable v)
    → is_le (slice_cmp nat_cmp (take (length (front ++ p ∷ [])) ((v ++ 0 ∷ []) ++ rest))
    (front ++ p ∷ [])) ≡ is_lt (slice_cmp nat_cmp v (front ++ suc p ∷ []))
text_high [] p [] rest f some q = ap (λ o. is_le (ordering_then o Equal)) (cmp_less 0 p some)
text_high [] p (x ∷ v) rest f some q = below_next x p v
text_high (y ∷ front) p [] rest f some q =
    ap (λ o. is_le (ordering_then o
    (slice_cmp nat_cmp (take (length (front ++ p ∷ [])) rest) (front ++ p ∷ []))))
    (cmp_less 0 y (printable_head y front f))
text_high (y ∷ front) p (x ∷ v) rest f some q =
    elim (nat_cmp x y) as (λ o. is_le
    (ordering_then o (slice_cmp nat_cmp
    (take (length (front ++ p ∷ [])) ((v ++ 0 ∷ []) ++ rest)) (front ++ p ∷ []))) ≡ is_lt
    (ordering_then o (slice_cmp nat_cmp v (front ++ suc p ∷ [])))) [
      | Less ↦ refl
      | Equal ↦ text_high front p v rest (printable_tail y front f) some (printable_tail x v q)
      | Greater ↦ refl
    ]

-- a text and the byte 1 are a lower end
low_beside : (k : Kind) (t lo : List ℕ) → Fits k (value.Text t) → lo ≡ t ++ 1 ∷ []
    → IsLow k is_gt (value.Text t) lo
low_beside (kind.Text most) t lo f e =
    subst (IsLow (kind.Text most) is_gt (value.Text t)) (sym e) record {
      whole = λ v rest g same. whole v rest g same;
      decides = λ v rest g. decides v rest g;
    }
  where
    whole : (v : Value) (rest : List ℕ) → Fits (kind.Text most) v → t ++ 1 ∷ [] ≡ bytes_of v ++ rest
        → rest ≡ []
    whole (value.Text v) rest g same = absurd (no_end t 1 v rest f.1 (omega arith) same)
    whole (value.Int v) rest g same = absurd g
    whole (value.Bytes v) rest g same = absurd g

    decides : (v : Value) (rest : List ℕ) → Fits (kind.Text most) v
        → is_le (slice_cmp nat_cmp (t ++ 1 ∷ []) (bytes_of v ++ rest)) ≡ is_gt
        (value_cmp v (value.Text t))
    decides (value.Text v) rest g = text_low t v rest f.1 g.1
    decides (value.Int v) rest g = absurd g
    decides (value.Bytes v) rest g = absurd g
low_beside kind.Int t lo f e = absurd f
low_beside (kind.Bytes most) t lo f e = absurd f

-- a text with its last byte lowered is an upper end
high_beside : (k : Kind) (front : List ℕ) (p : ℕ) (hi : List ℕ)
    → Fits k (value.Text (front ++ suc p ∷ [])) → hi ≡ front ++ p ∷ []
    → IsHigh k is_lt (value.Text (front ++ suc p ∷ [])) hi
high_beside (kind.Text most) front p hi f e =
    subst (IsHigh (kind.Text most) is_lt (value.Text (front ++ suc p ∷ []))) (sym e) record {
      whole = λ v rest g same. whole v rest g same;
      decides = λ v rest g. decides v rest g;
    }
  where
    ends : (front : List ℕ) → IsTrue (list_all is_printable (front ++ suc p ∷ []))
        → IsTrue (list_all is_printable front) × (0 < p)
    ends [] h = (refl, omega (arith, above_one (suc p) [] h))
    ends (x ∷ front) h = let rest = ends front (printable_tail x (front ++ suc p ∷ []) h) in (
      subst (λ b. b && list_all is_printable front ≡ true)
          (sym (printable_one x (front ++ suc p ∷ []) h)) rest.0,
      rest.1,
    )

    whole : (v : Value) (rest : List ℕ) → Fits (kind.Text most) v
        → front ++ p ∷ [] ≡ bytes_of v ++ rest → rest ≡ []
    whole (value.Text v) rest g same =
        absurd (no_end front p v rest (ends front f.1).0 (ends front f.1).1 same)
    whole (value.Int v) rest g same = absurd g
    whole (value.Bytes v) rest g same = absurd g

    decides : (v : Value) (rest : List ℕ) → Fits (kind.Text most) v
        → is_le (slice_cmp nat_cmp (take (length (front ++ p ∷ [])) (bytes_of v ++ rest))
        (front ++ p ∷ [])) ≡ is_lt (value_cmp v (value.Text (front ++ suc p ∷ [])))
    decides (value.Text v) rest g =
        text_high front p v rest (ends front f.1).0 (ends front f.1).1 g.1
    decides (value.Int v) rest g = absurd g
    decides (value.Bytes v) rest g = absurd g
high_beside kind.Int front p hi f e = absurd f
high_beside (kind.Bytes most) front p hi f e = absurd f

-- ---- the same of a bound that is one of the two

-- (`z` and `y` are the ints `n` and `m` as the machine has them)
pub below_int : (b : Value) (n z m y : ℤ) (hi : List ℕ) → b ≡ value.Int n → IsSpanBound b
    → (FitsSigned w64 n → z ≡ n) → (FitsSigned w64 m → y ≡ m)
    → FitsSigned w64 (z -ℤ pos 1) × (m ≡ z -ℤ pos 1) → hi ≡ bytes_of (value.Int y)
    → (k : Kind) → Fits k b → IsHigh k is_lt b hi
below_int b n z m y hi is bound same again fits e = λ k f.
    let here : z ≡ n = same (subst IsSpanBound is bound) in
    let there : m ≡ n -ℤ pos 1 = fits.1 ∙ ap (λ (x : ℤ). x -ℤ pos 1) here in
    let fit : FitsSigned w64 (n -ℤ pos 1) =
    subst (λ (x : ℤ). FitsSigned w64 (x -ℤ pos 1)) here fits.0 in
    let whole : y ≡ n -ℤ pos 1 = again (subst (FitsSigned w64) (sym there) fit) ∙ there in
    subst (λ b. IsHigh k is_lt b hi) (sym is)
    (high_before k n hi (subst (Fits k) is f) fit
    (e ∙ ap (λ (x : ℤ). bytes_of (value.Int x)) whole))

pub above_int : (b : Value) (n z m y : ℤ) (lo : List ℕ) → b ≡ value.Int n → IsSpanBound b
    → (FitsSigned w64 n → z ≡ n) → (FitsSigned w64 m → y ≡ m)
    → FitsSigned w64 (z +ℤ pos 1) × (m ≡ z +ℤ pos 1) → lo ≡ bytes_of (value.Int y)
    → (k : Kind) → Fits k b → IsLow k is_gt b lo
above_int b n z m y lo is bound same again fits e = λ k f.
    let here : z ≡ n = same (subst IsSpanBound is bound) in
    let there : m ≡ n +ℤ pos 1 = fits.1 ∙ ap (λ (x : ℤ). x +ℤ pos 1) here in
    let fit : FitsSigned w64 (n +ℤ pos 1) =
    subst (λ (x : ℤ). FitsSigned w64 (x +ℤ pos 1)) here fits.0 in
    let whole : y ≡ n +ℤ pos 1 = again (subst (FitsSigned w64) (sym there) fit) ∙ there in
    subst (λ b. IsLow k is_gt b lo) (sym is)
    (low_after k n lo (subst (Fits k) is f) fit
    (e ∙ ap (λ (x : ℤ). bytes_of (value.Int x)) whole))

-- a bound isn't bytes
no_bytes : (b : Value) (t : List ℕ) → (b ≡ value.Text t) ⊎ (b ≡ value.Bytes t) → IsSpanBound b
    → b ≡ value.Text t
no_bytes b t (inl is) bound = is
no_bytes b t (inr is) bound = absurd (subst IsSpanBound is bound)

pub above_text : (b : Value) (t slice lo : List ℕ) → (b ≡ value.Text t) ⊎ (b ≡ value.Bytes t)
    → IsSpanBound b → slice ≡ t → lo ≡ slice ++ 1 ∷ [] → (k : Kind) → Fits k b → IsLow k is_gt b lo
above_text b t slice lo one bound same e = λ k f.
    let is = no_bytes b t one bound in
    subst (λ b. IsLow k is_gt b lo) (sym is)
    (low_beside k t lo (subst (Fits k) is f) (e ∙ ap (λ (l : List ℕ). l ++ 1 ∷ []) same))

pub below_text : (b : Value) (t slice front hi : List ℕ) (last : ℕ)
    → (b ≡ value.Text t) ⊎ (b ≡ value.Bytes t) → IsSpanBound b → slice ≡ t
    → slice ≡ front ++ last ∷ [] → hi ≡ front ++ (last - 1) ∷ [] → (k : Kind) → Fits k b
    → IsHigh k is_lt b hi
below_text b t slice front hi last one bound same parts e = λ k f.
    let is = no_bytes b t one bound in
    let all : t ≡ front ++ last ∷ [] = sym same ∙ parts in
    let some : 0 < last = ends front
    (subst (λ (l : List ℕ). IsTrue (list_all is_printable l)) all
    (subst IsSpanBound is bound).1) in
    let next : last ≡ suc (last - 1) = omega arith in
    let of_last : b ≡ value.Text (front ++ suc (last - 1) ∷ []) =
    is ∙ ap value.Text (all ∙ ap (λ (n : ℕ). front ++ n ∷ []) next) in
    subst (λ b. IsHigh k is_lt b hi) (sym of_last)
    (high_beside k front (last - 1) hi (subst (Fits k) of_last f) e)
  where
    ends : (front : List ℕ) → IsTrue (list_all is_printable (front ++ last ∷ [])) → 0 < last
    ends [] h = printable_head last [] h
    ends (x ∷ front) h = ends front (printable_tail x (front ++ last ∷ []) h)

-- ---- the span of a condition

-- such a span
pub record IsSpanOf (k : Kind) (o : Op) (b : Value) (span : Span) : Type 0 where
  pub holds : HoldsThoseMet k o b span
  pub whole : IsValueSpan k span

between : (k : Kind) (o : Op) (b : Value) (lo hi : List ℕ) (low high : Ordering → Bool)
    → IsLow k low b lo → IsHigh k high b hi → ((r : Ordering) → low r && high r ≡ is_met o r)
    → IsSpanOf k o b (record { lo = lo; hi = hi })
between k o b lo hi low high from to both = record {
  holds = λ v rest fits. (λ i. from.decides v rest fits i && to.decides v rest fits i)
      ∙ both (value_cmp v b);
  whole = record { lo_whole = from.whole; hi_whole = to.whole };
}

pub at_ends : {k : Kind} {o : Op} {b : Value} {lo hi : List ℕ} {ends : List ℕ × List ℕ}
    → ends ≡ (lo, hi) → IsSpanOf k o b (record { lo = lo; hi = hi })
    → IsSpanOf k o b (record { lo = ends.0; hi = ends.1 })
at_ends {k} {o} {b} e is =
    subst (λ (ends : List ℕ × List ℕ). IsSpanOf k o b (record { lo = ends.0; hi = ends.1 }))
    (sym e) is

pub equal_span : (k : Kind) (o : Op) (b : Value) (lo hi : List ℕ) → IsSpanKind k → Fits k b
    → (o ≡ op.Equal) ⊎ (o ≡ op.Unequal) → o ≢ op.Unequal → lo ≡ bytes_of b → hi ≡ bytes_of b
    → IsSpanOf k o b (record { lo = lo; hi = hi })
equal_span k o b lo hi span f (inr e) other is also = absurd (other e)
equal_span k o b lo hi span f (inl e) other is also =
    between k o b lo hi is_ge is_le (subst (IsLow k is_ge b) (sym is) (low_of_key k b span f))
    (subst (IsHigh k is_le b) (sym also) (high_of_key k b span f)) (λ r. both r
    ∙ ap (λ x. is_met x r) (sym e))
  where
    both : (r : Ordering) → is_ge r && is_le r ≡ is_met op.Equal r
    both Less = refl
    both Equal = refl
    both Greater = refl

pub less_span : (k : Kind) (o : Op) (b : Value) (lo hi : List ℕ) → o ≡ op.Less → lo ≡ []
    → IsHigh k is_lt b hi → IsSpanOf k o b (record { lo = lo; hi = hi })
less_span k o b lo hi e is high =
    between k o b lo hi (λ r. true) is_lt (subst (IsLow k (λ r. true) b) (sym is) (low_none k b))
    high (λ r. ap (λ x. is_met x r) (sym e))

pub at_most_span : (k : Kind) (o : Op) (b : Value) (lo hi : List ℕ) → IsSpanKind k → Fits k b
    → o ≡ op.AtMost → lo ≡ [] → hi ≡ bytes_of b → IsSpanOf k o b (record { lo = lo; hi = hi })
at_most_span k o b lo hi span f e is also =
    between k o b lo hi (λ r. true) is_le (subst (IsLow k (λ r. true) b) (sym is) (low_none k b))
    (subst (IsHigh k is_le b) (sym also) (high_of_key k b span f))
    (λ r. ap (λ x. is_met x r) (sym e))

pub greater_span : (k : Kind) (o : Op) (b : Value) (lo hi : List ℕ) → o ≡ op.Greater
    → IsLow k is_gt b lo → hi ≡ [] → IsSpanOf k o b (record { lo = lo; hi = hi })
greater_span k o b lo hi e low is =
    between k o b lo hi is_gt (λ r. true) low
    (subst (IsHigh k (λ r. true) b) (sym is) (high_none k b)) (λ r. both (is_gt r)
    ∙ ap (λ x. is_met x r) (sym e))
  where
    both : (x : Bool) → x && true ≡ x
    both true = refl
    both false = refl

pub at_least_span : (k : Kind) (o : Op) (b : Value) (lo hi : List ℕ) → IsSpanKind k → Fits k b
    → o ≡ op.AtLeast → lo ≡ bytes_of b → hi ≡ [] → IsSpanOf k o b (record { lo = lo; hi = hi })
at_least_span k o b lo hi span f e is also =
    between k o b lo hi is_ge (λ r. true) (subst (IsLow k is_ge b) (sym is) (low_of_key k b span f))
    (subst (IsHigh k (λ r. true) b) (sym also) (high_none k b)) (λ r. both (is_ge r)
    ∙ ap (λ x. is_met x r) (sym e))
  where
    both : (x : Bool) → x && true ≡ x
    both true = refl
    both false = refl

-- no value is beyond
pub beyond_none : (k : Kind) (o : Op) (b v : Value) → Fits k b → Fits k v → IsBeyond o b
    → is_met o (value_cmp v b) ≡ false
beyond_none kind.Int op.Less (value.Int n) (value.Int m) f g e =
    elim (int_cmp m n) as (λ r. r ≡ int_cmp m n → is_lt r ≡ false) [
      | Less ↦ λ h. let lt = int_ranked m n Less h in absurd (omega (arith, ints, lt, e, g.sfits))
      | Equal ↦ λ h. refl
      | Greater ↦ λ h. refl
    ] refl
beyond_none kind.Int op.Greater (value.Int n) (value.Int m) f g e =
    elim (int_cmp m n) as (λ r. r ≡ int_cmp m n → is_gt r ≡ false) [
      | Less ↦ λ h. refl
      | Equal ↦ λ h. refl
      | Greater ↦ λ h. let lt = int_ranked m n Greater h in
          absurd (omega (arith, ints, lt, e, g.sfits))
    ] refl
beyond_none (kind.Text most) op.Less (value.Text t) (value.Text v) f g e =
    ap (λ (l : List ℕ). is_lt (slice_cmp nat_cmp v l)) e ∙ least v
  where
    least : (v : List ℕ) → is_lt (slice_cmp nat_cmp v []) ≡ false
    least [] = refl
    least (x ∷ v) = refl
beyond_none kind.Int op.Less (value.Int n) (value.Text v) f g e = absurd g
beyond_none kind.Int op.Less (value.Int n) (value.Bytes v) f g e = absurd g
beyond_none kind.Int op.Less (value.Text t) v f g e = absurd f
beyond_none kind.Int op.Less (value.Bytes t) v f g e = absurd f
beyond_none kind.Int op.Greater (value.Int n) (value.Text v) f g e = absurd g
beyond_none kind.Int op.Greater (value.Int n) (value.Bytes v) f g e = absurd g
beyond_none k op.Greater (value.Text t) v f g e = absurd e
beyond_none k op.Greater (value.Bytes t) v f g e = absurd e
beyond_none (kind.Text most) op.Less (value.Text t) (value.Int v) f g e = absurd g
beyond_none (kind.Text most) op.Less (value.Text t) (value.Bytes v) f g e = absurd g
beyond_none (kind.Text most) op.Less (value.Int t) v f g e = absurd f
beyond_none (kind.Text most) op.Less (value.Bytes t) v f g e = absurd e
beyond_none (kind.Text most) op.Greater (value.Int t) v f g e = absurd f
beyond_none (kind.Bytes most) op.Less (value.Int t) v f g e = absurd f
beyond_none (kind.Bytes most) op.Less (value.Text t) v f g e = absurd f
beyond_none (kind.Bytes most) op.Less (value.Bytes t) v f g e = absurd e
beyond_none (kind.Bytes most) op.Greater (value.Int t) v f g e = absurd f
beyond_none k op.Equal b v f g e = absurd e
beyond_none k op.Unequal b v f g e = absurd e
beyond_none k op.AtMost b v f g e = absurd e
beyond_none k op.AtLeast b v f g e = absurd e
