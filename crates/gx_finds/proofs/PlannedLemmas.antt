-- The records that meet the conditions of a `find`, by its plan.
use Rattle.std.proofs.Common.{[], ◌≡◌, ◌≢◌, ℕ, zero, suc, ◌<◌, ◌≤◌, List, ◌∷◌, ◌++◌, length, map, take, drop, get_or, Bool, true, false, cond, eqb, Some, refl, sym, ap, subst, ◌∙◌, arith, inl, inr, append-nil}
use Rattle.std.specs.Prelude.{◌⊎◌, pos, unwrap_or}
use Rattle.std.specs.List.{list_all, slice_get}
use Rattle.std.specs.Option.{option_map}
use Rattle.std.proofs.lemmas.Bool.{eqb-true, and_parts}
use Rattle.std.proofs.lemmas.Option.{same_Some}
use Rattle.gx_values.specs.declared.values.Kind.{Kind}
use Rattle.gx_values.specs.declared.values.Kind.TheVariants as kind
use Rattle.gx_values.specs.declared.values.Op.{Op}
use Rattle.gx_values.specs.declared.values.Op.TheVariants as op
use Rattle.gx_values.specs.declared.values.Value.{Value}
use Rattle.gx_values.specs.declared.values.Value.TheVariants as value
use Rattle.gx_values.specs.declared.records.Field.{Field}
use Rattle.gx_values.specs.declared.keys.Span.{Span}
use Rattle.gx_values.specs.Values.{Fits, AreFit, no_field}
use Rattle.gx_values.specs.Keys.{bytes_of, key_of, width_of, IsKeyKind}
use Rattle.gx_values.specs.Spans.{IsSpanKind, IsValueSpan}
use Rattle.gx_schema.specs.declared.schema.FileDef.{FileDef}
use Rattle.gx_schema.specs.Lookups.{field_at, key_kind}
use Rattle.gx_commands.specs.declared.command.Cond.{Cond}
use Rattle.gx_commands.specs.declared.command.Find.{Find}
use Rattle.gx_values.specs.declared.bytes.TheConstants.{MAX_KEY_LEN}
use Rattle.gx_gather.proofs.Lists.{none_some}
use Rattle.gx_mapping.specs.Rule.{In}
use Rattle.gx_mapping.proofs.FieldLemmas.{fit_at}
use Rattle.gx_stack.specs.Selected.{IsKeySpan}
use Rattle.gx_stack.specs.Tree.{Tree}
use Rattle.gx_stack.specs.Indexed.{is_indexed as is_tree_indexed}
use Rattle.gx_types.specs.declared.any.AnyMapping.{AnyMapping}
use Rattle.gx_types.specs.Any.{any_rule}
use Rattle.gx_typing.specs.Dues.{file_form}
use Rattle.gx_planner.specs.declared.plans.Plan.{Plan}
use Rattle.gx_planner.specs.declared.plans.Plan.TheVariants.{Key, Index, KeyRange, IndexRange}
use Rattle.gx_planner.specs.Plans.{condition_rank, rank_by, is_indexed, HasRank, Applies}
use Rattle.gx_model.specs.States.{Row, IsRowOf}
use Rattle.gx_model.specs.Found.{value_at}
use Rattle.gx_scan.proofs.FileLemmas.{key_of_form}
use Rattle.gx_finds.specs.Planned.{fields_indexed}

-- ---- the condition of a plan

-- a condition that has a rank is there
pub ranked_there : (q : Find) (indexed : List Bool) (n number : ℕ) → HasRank q indexed n number
    → number < length q.conds
ranked_there q indexed n number has = go q.conds number has
  where
    go : (cs : List Cond) (i : ℕ) → option_map (condition_rank indexed) (slice_get cs i) ≡ Some n
        → i < length cs
    go [] i e = absurd (none_some n e)
    go (c ∷ cs) zero e = omega arith
    go (c ∷ cs) (suc i) e = omega (arith, go cs i e)

ranked : (q : Find) (indexed : List Bool) (n number : ℕ) (c : Cond) → HasRank q indexed n number
    → slice_get q.conds number ≡ Some c → condition_rank indexed c ≡ n
ranked q indexed n number c has there =
    same_Some (condition_rank indexed c) n (sym (ap (option_map (condition_rank indexed)) there)
    ∙ has)

-- a plan by the key or by an index has a condition of one of two ranks
abbrev pub IsOneOf : ℕ → ℕ → ℕ → Type 0
IsOneOf a b n = (n ≡ a) ⊎ (n ≡ b)

pub by_key : (q : Find) (indexed : List Bool) (plan : Plan) (number : ℕ)
    → (plan ≡ Key number) ⊎ (plan ≡ KeyRange number) → Applies q indexed plan
    → (n : ℕ) × HasRank q indexed n number × IsOneOf 1 4 n
by_key q indexed plan number (inl e) a = (1, subst (Applies q indexed) e a, inl refl)
by_key q indexed plan number (inr e) a = (4, subst (Applies q indexed) e a, inr refl)

pub by_index : (q : Find) (indexed : List Bool) (plan : Plan) (number : ℕ)
    → (plan ≡ Index number) ⊎ (plan ≡ IndexRange number) → Applies q indexed plan
    → (n : ℕ) × HasRank q indexed n number × IsOneOf 3 5 n
by_index q indexed plan number (inl e) a = (3, subst (Applies q indexed) e a, inl refl)
by_index q indexed plan number (inr e) a = (5, subst (Applies q indexed) e a, inr refl)

abbrev pub IsOnKey : Cond → Type 0
IsOnKey c = (c.field ≡ 0) × (c.op ≢ op.Unequal)

-- on a field other than the key, which is indexed
pub record IsOnIndex (indexed : List Bool) (c : Cond) : Type 0 where
  pub past_key : 0 < c.field
  pub op : c.op ≢ op.Unequal
  pub indexed_is : is_indexed indexed c.field ≡ true

not_unequal : (equal range : ℕ) (o : Op) (n : ℕ) → equal < 6 → range < 6 → rank_by equal range o ≡ n
    → IsOneOf equal range n → o ≢ op.Unequal
not_unequal equal range o n less below e h is =
    let six : 6 ≡ n = ap (rank_by equal range) (sym is) ∙ e in
    elim h [ inl a ↦ absurd (omega arith) | inr b ↦ absurd (omega arith) ]

of_index : (o : Op) (n : ℕ) → rank_by 3 5 o ≡ n → IsOneOf 1 4 n → ⊥
of_index op.Equal n e h = elim h [ inl a ↦ omega arith | inr b ↦ omega arith ]
of_index op.Unequal n e h = elim h [ inl a ↦ omega arith | inr b ↦ omega arith ]
of_index op.Less n e h = elim h [ inl a ↦ omega arith | inr b ↦ omega arith ]
of_index op.AtMost n e h = elim h [ inl a ↦ omega arith | inr b ↦ omega arith ]
of_index op.Greater n e h = elim h [ inl a ↦ omega arith | inr b ↦ omega arith ]
of_index op.AtLeast n e h = elim h [ inl a ↦ omega arith | inr b ↦ omega arith ]

of_key : (o : Op) (n : ℕ) → rank_by 1 4 o ≡ n → IsOneOf 3 5 n → ⊥
of_key op.Equal n e h = elim h [ inl a ↦ omega arith | inr b ↦ omega arith ]
of_key op.Unequal n e h = elim h [ inl a ↦ omega arith | inr b ↦ omega arith ]
of_key op.Less n e h = elim h [ inl a ↦ omega arith | inr b ↦ omega arith ]
of_key op.AtMost n e h = elim h [ inl a ↦ omega arith | inr b ↦ omega arith ]
of_key op.Greater n e h = elim h [ inl a ↦ omega arith | inr b ↦ omega arith ]
of_key op.AtLeast n e h = elim h [ inl a ↦ omega arith | inr b ↦ omega arith ]

-- the rank of a condition, where it is known whether its field is the key and whether it is indexed
abbrev Ranks : Cond → Bool → Bool → ℕ → Type 0
Ranks c key indexed n = cond key (rank_by 1 4 c.op) (cond indexed (rank_by 3 5 c.op) 6) ≡ n

on_key_from : (c : Cond) (key indexed : Bool) (n : ℕ) → eqb c.field 0 ≡ key → Ranks c key indexed n
    → IsOneOf 1 4 n → IsOnKey c
on_key_from c true indexed n k e h =
    (eqb-true c.field 0 k, not_unequal 1 4 c.op n (omega arith) (omega arith) e h)
on_key_from c false true n k e h = absurd (of_index c.op n e h)
on_key_from c false false n k e h =
    elim h [ inl a ↦ absurd (omega arith) | inr b ↦ absurd (omega arith) ]

not_key : (n : ℕ) → eqb n 0 ≡ false → 0 < n
not_key zero e = absurd cc
not_key (suc n) e = omega arith

on_index_from : (fields : List Bool) (c : Cond) (key indexed : Bool) (n : ℕ) → eqb c.field 0 ≡ key
    → is_indexed fields c.field ≡ indexed → Ranks c key indexed n → IsOneOf 3 5 n
    → IsOnIndex fields c
on_index_from fields c true indexed n k i e h = absurd (of_key c.op n e h)
on_index_from fields c false true n k i e h = record {
  past_key = not_key c.field k;
  op = not_unequal 3 5 c.op n (omega arith) (omega arith) e h;
  indexed_is = i;
}
on_index_from fields c false false n k i e h =
    elim h [ inl a ↦ absurd (omega arith) | inr b ↦ absurd (omega arith) ]

-- a condition with the rank of a plan by the key is on the key
pub on_key : (q : Find) (indexed : List Bool) (n number : ℕ) (c : Cond) → HasRank q indexed n number
    → slice_get q.conds number ≡ Some c → IsOneOf 1 4 n → IsOnKey c
on_key q indexed n number c has there h =
    on_key_from c (eqb c.field 0) (is_indexed indexed c.field) n refl
    (ranked q indexed n number c has there) h

-- one with the rank of a plan by an index is on an indexed field
pub on_index : (q : Find) (indexed : List Bool) (n number : ℕ) (c : Cond)
    → HasRank q indexed n number → slice_get q.conds number ≡ Some c → IsOneOf 3 5 n
    → IsOnIndex indexed c
on_index q indexed n number c has there h =
    on_index_from indexed c (eqb c.field 0) (is_indexed indexed c.field) n refl refl
    (ranked q indexed n number c has there) h

-- the field is indexed in the tree
pub indexed_at : (t : Tree AnyMapping) (file : FileDef) (field : ℕ)
    → is_indexed (fields_indexed t file) field ≡ true
    → is_tree_indexed any_rule t (field_at file field).name ≡ true
indexed_at t file field e = go file.fields field e
  where
    go : (fs : List Field) (i : ℕ)
        → unwrap_or (slice_get (map (λ f. is_tree_indexed any_rule t f.name) fs) i) false ≡ true
        → is_tree_indexed any_rule t (get_or fs i no_field).name ≡ true
    go [] i h = absurd cc
    go (f ∷ fs) zero h = h
    go (f ∷ fs) (suc i) h = go fs i h

-- ---- the span of the key

pub span_kind : (k : Kind) → IsKeyKind k → width_of k ≤ MAX_KEY_LEN → IsSpanKind k
span_kind kind.Int key small = tt
span_kind (kind.Text most) key small = omega arith
span_kind (kind.Bytes most) key small = absurd key

alone : (file : FileDef) (key : List Value) (rest bytes : List ℕ) → 0 < length file.fields
    → AreFit (take 1 file.fields) key
    → ((v : Value) (more : List ℕ) → Fits (key_kind file) v → bytes ≡ bytes_of v ++ more
    → more ≡ []) → bytes ≡ key_of key ++ rest → rest ≡ []
alone file key rest bytes some fit whole e =
    let one = key_of_form file.fields key some fit in
    whole one.0 rest one.2 (e ∙ ap (λ (ks : List Value). key_of ks ++ rest) one.1
    ∙ ap (λ (b : List ℕ). b ++ rest) (append-nil (bytes_of one.0)))

pub key_spanned : (file : FileDef) (s : Span) → 0 < length file.fields
    → IsValueSpan (key_kind file) s → IsKeySpan (file_form file) s
key_spanned file s some is = record {
  lo_whole = λ key rest fit e. alone file key rest s.lo some fit is.lo_whole e;
  hi_whole = λ key rest fit e. alone file key rest s.hi some fit is.hi_whole e;
}

-- ---- all conditions

pub one_met : {A : Type 0} (p : A → Bool) (xs : List A) (x : A) → In x xs → list_all p xs ≡ true
    → p x ≡ true
one_met p [] x h all = absurd h
one_met p (y ∷ ys) x (inl e) all = ap p e ∙ (and_parts (p y) (list_all p ys) all).0
one_met p (y ∷ ys) x (inr h) all = one_met p ys x h (and_parts (p y) (list_all p ys) all).1

-- ---- the value of a field

all_fit : (fs : List Field) (k : Value) (vs : List Value) → 0 < length fs
    → Fits (get_or fs 0 no_field).kind k → AreFit (drop 1 fs) vs → AreFit fs (k ∷ vs)
all_fit [] k vs some fit fits = absurd (omega arith)
all_fit (f ∷ fs) k vs some fit fits = (fit, fits)

pub value_kind : (file : FileDef) (r : Row) (field : ℕ) → IsRowOf file r
    → field < length file.fields → Fits (field_at file field).kind (value_at r field)
value_kind file r field fit lt =
    fit_at field file.fields (r.0 ∷ r.1) no_field (value.Int (pos 0))
    (all_fit file.fields r.0 r.1 (omega arith) fit.0 fit.1) lt
