-- The span of what meets all conditions on a field.
use Rattle.std.proofs.Common.{[], ◌≡◌, ◌≢◌, ℕ, zero, suc, ◌+◌, ◌<◌, List, ◌∷◌, ◌++◌, length, take, get_or, Bool, true, false, cond, refl, sym, ap, ◌∙◌, arith, append-nil, inl, inr}
use Rattle.std.specs.Prelude.{◌&&◌, ◌⊎◌, min, filter, nat_eq}
use Rattle.std.specs.List.{list_all}
use Rattle.std.specs.Ordering.{nat_cmp, is_le, ordering_then, ordering_reverse}
use Rattle.std.specs.declared.cmp.Ordering.{Ordering}
use Rattle.std.specs.declared.cmp.Ordering.TheVariants.{Less, Equal, Greater}
use Rattle.std.specs.Cmp.Lexicographic.{slice_cmp}
use Rattle.std.proofs.lemmas.Bool.{cases_Bool, eqb-true}
use Rattle.std.proofs.lemmas.Cmp.{ranked, upto, nat_eq_equiv, nat_list_cmp_total}
use Rattle.std.proofs.lemmas.List.Elements.{filter_more}
use Rattle.std.proofs.lemmas.List.Folds.{list_all-append}
use Rattle.gx_laws.proofs.OrderingLemmas.{le_not_gt, not_gt_le, cmp_less, cmp_equal, cmp_greater}
use Rattle.gx_values.specs.declared.values.Kind.{Kind}
use Rattle.gx_values.specs.declared.values.Op.{Op}
use Rattle.gx_values.specs.declared.values.Op.TheVariants as op
use Rattle.gx_values.specs.declared.values.Value.{Value}
use Rattle.gx_values.specs.declared.records.Form.{Form}
use Rattle.gx_values.specs.declared.keys.Span.{Span}
use Rattle.gx_values.specs.Values.{Fits, value_cmp, is_met}
use Rattle.gx_values.specs.Keys.{bytes_of, key_of, is_inside}
use Rattle.gx_values.specs.Spans.{IsValueSpan}
use Rattle.gx_schema.specs.declared.schema.FileDef.{FileDef}
use Rattle.gx_schema.specs.Lookups.{field_at}
use Rattle.gx_commands.specs.declared.command.Cond.{Cond}
use Rattle.gx_mapping.specs.Rule.{In}
use Rattle.gx_gather.proofs.Lists.{filter_in}
use Rattle.gx_stack.specs.Selected.{IsKeySpan}
use Rattle.gx_model.specs.States.{Row, IsRowOf}
use Rattle.gx_model.specs.Found.{value_at, meets_cond, meets_conds}
use Rattle.gx_finds.specs.Spans.{has_span, is_on, meets_on, HoldsAllMet, is_from, is_up_to}
use Rattle.gx_finds.proofs.PlannedLemmas.{one_met, value_kind}
use Rattle.std.proofs.lemmas.Bool.{and_parts}
use Rattle.std.proofs.Math.Bool.{and-true}

-- ---- the lower end

gt_back : (o : Ordering) → is_le o ≡ false → is_le (ordering_reverse o) ≡ true
gt_back Less h = cc
gt_back Equal h = cc
gt_back Greater h = refl

lets_less : (a b key : List ℕ) → is_le (slice_cmp nat_cmp a b) ≡ true → is_from b key ≡ true
    → is_from a key ≡ true
lets_less a b key le from =
    not_gt_le (slice_cmp nat_cmp a key)
    (upto nat_list_cmp_total a b key (le_not_gt (slice_cmp nat_cmp a b) le)
    (le_not_gt (slice_cmp nat_cmp b key) from))

second_of : (p q : Bool) → (q ≡ true → p ≡ true) → q ≡ (p && q)
second_of true q h = refl
second_of false true h = absurd (let x : false ≡ true = h refl in cc)
second_of false false h = refl

first_of_both : (p q : Bool) → (p ≡ true → q ≡ true) → p ≡ (p && q)
first_of_both true q h = sym (h refl)
first_of_both false q h = refl

pub second_low : (a b key : List ℕ) → is_le (slice_cmp nat_cmp a b) ≡ true
    → is_from b key ≡ (is_from a key && is_from b key)
second_low a b key le = second_of (is_from a key) (is_from b key) (lets_less a b key le)

pub first_low : (a b key : List ℕ) → is_le (slice_cmp nat_cmp a b) ≡ false
    → is_from a key ≡ (is_from a key && is_from b key)
first_low a b key above =
    let back : is_le (slice_cmp nat_cmp b a) ≡ true = ap is_le (nat_list_cmp_total.antisymm b a)
    ∙ gt_back (slice_cmp nat_cmp a b) above in
    first_of_both (is_from a key) (is_from b key) (lets_less b a key back)

-- ---- the upper end

-- an end is after each longer one that begins with it
abbrev high_cmp : List ℕ → List ℕ → Ordering
high_cmp [] [] = Equal
high_cmp (x ∷ a) [] = Less
high_cmp [] (y ∷ b) = Greater
high_cmp (x ∷ a) (y ∷ b) = ordering_then (nat_cmp x y) (high_cmp a b)

next_cmp : (m n : ℕ) → nat_cmp (suc m) (suc n) ≡ nat_cmp m n
next_cmp m n = go (nat_cmp m n) refl
  where
    go : (o : Ordering) → o ≡ nat_cmp m n → nat_cmp (suc m) (suc n) ≡ o
    go Less e = cmp_less (suc m) (suc n) (omega (arith, ranked m n Less e))
    go Equal e = cmp_equal (suc m) (suc n) (omega (arith, ranked m n Equal e))
    go Greater e = cmp_greater (suc m) (suc n) (omega (arith, ranked m n Greater e))

-- as the code compares them
high_cmp_is : (n : ℕ) (a b : List ℕ) → n ≡ min (length a) (length b)
    → ordering_then (slice_cmp nat_cmp (take n a) (take n b)) (nat_cmp (length b) (length a))
    ≡ high_cmp a b
high_cmp_is zero [] [] e = refl
high_cmp_is zero (x ∷ a) [] e = cmp_less 0 (suc (length a)) (omega arith)
high_cmp_is zero [] (y ∷ b) e = cmp_greater (suc (length b)) 0 (omega arith)
high_cmp_is zero (x ∷ a) (y ∷ b) e = absurd (omega (arith, e))
high_cmp_is (suc n) [] b e = absurd (omega (arith, e))
high_cmp_is (suc n) (x ∷ a) [] e = absurd (omega (arith, e))
high_cmp_is (suc n) (x ∷ a) (y ∷ b) e =
    elim (nat_cmp x y) as (λ o. ordering_then
    (ordering_then o (slice_cmp nat_cmp (take n a) (take n b)))
    (nat_cmp (suc (length b)) (suc (length a))) ≡ ordering_then o (high_cmp a b)) [
      | Less ↦ refl
      | Equal ↦ ap (ordering_then (slice_cmp nat_cmp (take n a) (take n b)))
          (next_cmp (length b) (length a)) ∙ high_cmp_is n a b (omega (arith, e))
      | Greater ↦ refl
    ]

fewer_step : (k x y : ℕ) (h s t : Ordering) → is_le (ordering_then (nat_cmp x y) h) ≡ true
    → (is_le h ≡ true → is_le s ≡ true → is_le t ≡ true)
    → is_le (ordering_then (nat_cmp k x) s) ≡ true
    → is_le (ordering_then (nat_cmp k y) t) ≡ true
fewer_step k x y h s t le more up = go (nat_cmp x y) (nat_cmp k x) refl refl le up
  where
    go : (o p : Ordering) → o ≡ nat_cmp x y → p ≡ nat_cmp k x → is_le (ordering_then o h) ≡ true
        → is_le (ordering_then p s) ≡ true → is_le (ordering_then (nat_cmp k y) t) ≡ true
    go Less Less e f l u = ap (λ o. is_le (ordering_then o t))
        (cmp_less k y (omega (arith, ranked x y Less e, ranked k x Less f)))
    go Less Equal e f l u =
        ap (λ o. is_le (ordering_then o t))
        (cmp_less k y (omega (arith, ranked x y Less e, ranked k x Equal f)))
    go Less Greater e f l u = cc
    go Equal Less e f l u =
        ap (λ o. is_le (ordering_then o t))
        (cmp_less k y (omega (arith, ranked x y Equal e, ranked k x Less f)))
    go Equal Equal e f l u =
        ap (λ o. is_le (ordering_then o t))
        (cmp_equal k y (ranked k x Equal f ∙ ranked x y Equal e)) ∙ more l u
    go Equal Greater e f l u = cc
    go Greater p e f l u = cc

lets_fewer : (a b key : List ℕ) → is_le (high_cmp a b) ≡ true → is_up_to a key ≡ true
    → is_up_to b key ≡ true
lets_fewer [] [] key le up = up
lets_fewer (x ∷ a) [] key le up = refl
lets_fewer [] (y ∷ b) key le up = absurd (let x : false ≡ true = le in cc)
lets_fewer (x ∷ a) (y ∷ b) [] le up = refl
lets_fewer (x ∷ a) (y ∷ b) (k ∷ key) le up =
    fewer_step k x y (high_cmp a b) (slice_cmp nat_cmp (take (length a) key) a)
    (slice_cmp nat_cmp (take (length b) key) b) le (lets_fewer a b key) up

high_back : (a b : List ℕ) → is_le (high_cmp a b) ≡ false → is_le (high_cmp b a) ≡ true
high_back [] [] h = cc
high_back (x ∷ a) [] h = cc
high_back [] (y ∷ b) h = refl
high_back (x ∷ a) (y ∷ b) h = go (high_back a b) (nat_cmp x y) refl h
  where
    go : (is_le (high_cmp a b) ≡ false → is_le (high_cmp b a) ≡ true) → (o : Ordering)
        → o ≡ nat_cmp x y → is_le (ordering_then o (high_cmp a b)) ≡ false
        → is_le (ordering_then (nat_cmp y x) (high_cmp b a)) ≡ true
    go back Less e f = cc
    go back Equal e f = ap (λ o. is_le (ordering_then o (high_cmp b a)))
        (cmp_equal y x (sym (ranked x y Equal e))) ∙ back f
    go back Greater e f = ap (λ o. is_le (ordering_then o (high_cmp b a)))
        (cmp_less y x (ranked x y Greater e))

first_high_by : (a b key : List ℕ) → is_le (high_cmp a b) ≡ true
    → is_up_to a key ≡ (is_up_to a key && is_up_to b key)
first_high_by a b key le = first_of_both (is_up_to a key) (is_up_to b key) (lets_fewer a b key le)

second_high_by : (a b key : List ℕ) → is_le (high_cmp a b) ≡ false
    → is_up_to b key ≡ (is_up_to a key && is_up_to b key)
second_high_by a b key above =
    second_of (is_up_to a key) (is_up_to b key) (lets_fewer b a key (high_back a b above))

-- the order of two ends, as the code takes it
abbrev pub order_of : ℕ → List ℕ → List ℕ → Ordering
order_of front a b = ordering_then (slice_cmp nat_cmp (take front a) (take front b))
    (nat_cmp (length b) (length a))

pub first_high : (front : ℕ) (a b key : List ℕ) → front ≡ min (length a) (length b)
    → is_le (order_of front a b) ≡ true → is_up_to a key ≡ (is_up_to a key && is_up_to b key)
first_high front a b key e le =
    first_high_by a b key (sym (ap is_le (high_cmp_is front a b e)) ∙ le)

pub second_high : (front : ℕ) (a b key : List ℕ) → front ≡ min (length a) (length b)
    → is_le (order_of front a b) ≡ false → is_up_to b key ≡ (is_up_to a key && is_up_to b key)
second_high front a b key e above =
    second_high_by a b key (sym (ap is_le (high_cmp_is front a b e)) ∙ above)

-- ---- both ends

swap_middle : (a b c d : Bool) → ((a && b) && (c && d)) ≡ ((a && c) && (b && d))
swap_middle true true c d = refl
swap_middle true false true d = refl
swap_middle true false false d = refl
swap_middle false b c d = refl

pub inside_both : (lo hi key : List ℕ) (first second : Span)
    → is_from lo key ≡ (is_from first.lo key && is_from second.lo key)
    → is_up_to hi key ≡ (is_up_to first.hi key && is_up_to second.hi key)
    → is_inside lo hi key ≡ (is_inside first.lo first.hi key
    && is_inside second.lo second.hi key)
inside_both lo hi key first second low high =
    (λ i. low i && high i) ∙ swap_middle (is_from first.lo key) (is_from second.lo key)
    (is_up_to first.hi key) (is_up_to second.hi key)

pub both_whole : (kind : Kind) (first second result : Span)
    → (result.lo ≡ first.lo) ⊎ (result.lo ≡ second.lo)
    → (result.hi ≡ first.hi) ⊎ (result.hi ≡ second.hi) → IsValueSpan kind first
    → IsValueSpan kind second → IsValueSpan kind result
both_whole kind first second result low high a b = record {
  lo_whole = λ v rest fits e. elim low [
    | inl is ↦ a.lo_whole v rest fits (sym is ∙ e)
    | inr is ↦ b.lo_whole v rest fits (sym is ∙ e)
  ];
  hi_whole = λ v rest fits e. elim high [
    | inl is ↦ a.hi_whole v rest fits (sym is ∙ e)
    | inr is ↦ b.hi_whole v rest fits (sym is ∙ e)
  ];
}

-- ---- all conditions

abbrev met_by : Value → Cond → Bool
met_by v c = is_met c.op (value_cmp v c.bound)

-- what one more condition on the field adds
more : (field : ℕ) (conds : List Cond) (i : ℕ) (c : Cond) (v : Value) (on : Bool)
    → c ≡ get_or conds i c → i < length conds → is_on field c ≡ on
    → meets_on field (take (i + 1) conds) v
    ≡ (meets_on field (take i conds) v && list_all (met_by v) (cond on (c ∷ []) []))
more field conds i c v on read lt is =
    let before = filter (is_on field) (take i conds) in
    ap (list_all (met_by v)) (filter_more (is_on field) conds i c lt
    ∙ ap (λ (d : Cond). before ++ cond (is_on field d) (d ∷ []) []) (sym read)
    ∙ ap (λ (b : Bool). before ++ cond b (c ∷ []) []) is)
    ∙ list_all-append (met_by v) before (cond on (c ∷ []) [])

pub meets_more : (field : ℕ) (conds : List Cond) (i : ℕ) (c : Cond) (v : Value)
    → c ≡ get_or conds i c → i < length conds → is_on field c ≡ true
    → meets_on field (take (i + 1) conds) v
    ≡ (meets_on field (take i conds) v && is_met c.op (value_cmp v c.bound))
meets_more field conds i c v read lt on = more field conds i c v true read lt on ∙ ap (λ (b : Bool).
    meets_on field (take i conds) v && b) (and-true (met_by v c))

pub meets_same : (field : ℕ) (conds : List Cond) (i : ℕ) (c : Cond) (v : Value)
    → c ≡ get_or conds i c → i < length conds → is_on field c ≡ false
    → meets_on field (take (i + 1) conds) v ≡ meets_on field (take i conds) v
meets_same field conds i c v read lt off = more field conds i c v false read lt off ∙ and-true
    (meets_on field (take i conds) v)

-- the field's value meets each of them
pub on_met : (field : ℕ) (conds : List Cond) (c : Cond) (v : Value) → In c conds
    → is_on field c ≡ true → meets_on field conds v ≡ true
    → is_met c.op (value_cmp v c.bound) ≡ true
on_met field conds c v there on met =
    one_met (met_by v) (filter (is_on field) conds) c (filter_in (is_on field) c conds there on) met

pub on_unmet : (field : ℕ) (conds : List Cond) (c : Cond) (v : Value) → In c conds
    → is_on field c ≡ true → is_met c.op (value_cmp v c.bound) ≡ false
    → meets_on field conds v ≡ false
on_unmet field conds c v there on unmet = elim (cases_Bool (meets_on field conds v)) [
  | inl t ↦ let met = on_met field conds c v there on t in absurd cc
  | inr f ↦ f
]

on_field : (field : ℕ) (c : Cond) → is_on field c ≡ true → c.field ≡ field
on_field field c on = eqb-true c.field field (and_parts (nat_eq c.field field) (has_span c.op) on).0

spans : (o : Op) → o ≢ op.Unequal → has_span o ≡ true
spans op.Equal other = refl
spans op.Unequal other = absurd (other refl)
spans op.Less other = refl
spans op.AtMost other = refl
spans op.Greater other = refl
spans op.AtLeast other = refl

-- a condition is on its own field
pub is_on_own : (c : Cond) → c.op ≢ op.Unequal → is_on c.field c ≡ true
is_on_own c other = λ i. nat_eq_equiv.refl c.field i && spans c.op other i

own_met : (field : ℕ) (c : Cond) (r : Row) → is_on field c ≡ true
    → met_by (value_at r field) c ≡ meets_cond r c
own_met field c r on = ap (λ (n : ℕ). met_by (value_at r n) c) (sym (on_field field c on))

-- where a record meets all conditions, its field meets those on it
pub field_meets : (field : ℕ) (conds : List Cond) (r : Row) → meets_conds conds r ≡ true
    → meets_on field conds (value_at r field) ≡ true
field_meets field [] r met = refl
field_meets field (c ∷ cs) r met =
    let here = and_parts (meets_cond r c) (list_all (meets_cond r) cs) met in
    go (is_on field c) refl here.0 (field_meets field cs r here.1)
  where
    go : (on : Bool) → is_on field c ≡ on → meets_cond r c ≡ true
        → meets_on field cs (value_at r field) ≡ true
        → list_all (met_by (value_at r field))
        (cond on (c ∷ filter (is_on field) cs) (filter (is_on field) cs)) ≡ true
    go true on one others = λ i. (own_met field c r on ∙ one) i && others i
    go false off one others = others

-- ---- the span to begin with

-- what no key is a proper front of, no value is
pub value_whole : (kind : Kind) (s : Span) → ((form : Form) → IsKeySpan form s) → IsValueSpan kind s
value_whole kind s keys = record {
  lo_whole = λ v rest fits e. (keys (form_of kind)).lo_whole (v ∷ []) rest (fits, tt)
      (e ∙ one v rest);
  hi_whole = λ v rest fits e. (keys (form_of kind)).hi_whole (v ∷ []) rest (fits, tt)
      (e ∙ one v rest);
}
  where
    form_of : Kind → Form
    form_of k = record { keys = record { name = []; kind = k } ∷ []; fields = [] }

    one : (v : Value) (rest : List ℕ) → bytes_of v ++ rest ≡ key_of (v ∷ []) ++ rest
    one v rest = ap (λ (b : List ℕ). b ++ rest) (sym (append-nil (bytes_of v)))

-- ---- the records of a file

-- a record's field is inside the span exactly where it meets the conditions on it
pub field_inside : (file : FileDef) (field : ℕ) (conds : List Cond) (s : Span) (r : Row)
    → field < length file.fields → HoldsAllMet (field_at file field).kind field conds s
    → IsRowOf file r → is_inside s.lo s.hi (bytes_of (value_at r field)) ≡ meets_on field conds
    (value_at r field)
field_inside file field conds s r lt holds fit =
    ap (is_inside s.lo s.hi) (sym (append-nil (bytes_of (value_at r field))))
    ∙ holds (value_at r field) [] (value_kind file r field fit lt)

-- so it is where the record meets all conditions
pub field_covered : (file : FileDef) (field : ℕ) (conds : List Cond) (s : Span) (r : Row)
    → field < length file.fields → HoldsAllMet (field_at file field).kind field conds s
    → IsRowOf file r → meets_conds conds r ≡ true
    → is_inside s.lo s.hi (bytes_of (value_at r field)) ≡ true
field_covered file field conds s r lt holds fit met = field_inside file field conds s r lt holds fit
    ∙ field_meets field conds r met

-- and then the record meets each condition on it
pub inside_meets : (file : FileDef) (c : Cond) (conds : List Cond) (s : Span) (r : Row) → In c conds
    → c.op ≢ op.Unequal → c.field < length file.fields
    → HoldsAllMet (field_at file c.field).kind c.field conds s → IsRowOf file r
    → is_inside s.lo s.hi (bytes_of (value_at r c.field)) ≡ true → meets_cond r c ≡ true
inside_meets file c conds s r there other lt holds fit inside =
    on_met c.field conds c (value_at r c.field) there (is_on_own c other)
    (sym (field_inside file c.field conds s r lt holds fit) ∙ inside)

-- where no value meets them, no record meets all conditions
pub none_meets : (file : FileDef) (field : ℕ) (conds : List Cond) (r : Row)
    → field < length file.fields
    → ((v : Value) → Fits (field_at file field).kind v → meets_on field conds v ≡ false)
    → IsRowOf file r → meets_conds conds r ≡ false
none_meets file field conds r lt nothing fit = elim (cases_Bool (meets_conds conds r)) [
  | inl t ↦ let met = field_meets field conds r t in let unmet =
      nothing (value_at r field) (value_kind file r field fit lt) in absurd cc
  | inr f ↦ f
]

-- where the field is the key
pub key_inside : (s : Span) (r : Row) (field : ℕ) → field ≡ 0
    → is_inside s.lo s.hi (bytes_of (value_at r field)) ≡ is_inside s.lo s.hi (bytes_of r.0)
key_inside s r field key = ap (λ (n : ℕ). is_inside s.lo s.hi (bytes_of (value_at r n))) key
