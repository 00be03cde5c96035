-- The chain in which an entry stands, and the one of all keys inside a span.
use Rattle.std.proofs.Common.{◌≡◌, ◌≢◌, inl, inr, ℕ, zero, suc, ◌<◌, ◌≤◌, ◌==◌, ◌%◌, Bool, true, cond, List, [], ◌∷◌, length, get_or, take, Option, Some, None, refl, sym, ap, subst, ◌∙◌, arith}
use Rattle.std.specs.Prelude.{nat_le}
use Rattle.std.specs.Option.{option_map, unwrap_or}
use Rattle.std.specs.Ordering.{is_le, ordering_reverse}
use Rattle.std.specs.Cmp.{first_so, second_so, tied_itself}
use Rattle.std.specs.Cmp.Lexicographic.{nat_list_cmp_total}
use Rattle.std.specs.declared.cmp.Ordering.{Ordering}
use Rattle.std.specs.declared.cmp.Ordering.TheVariants.{Less, Equal, Greater}
use Rattle.std.proofs.lemmas.Bool.{cases_Bool, eqb-true, false≢true, le-leb, leb-true}
use Rattle.std.proofs.lemmas.List.{length-take, take-take}
use Rattle.std.proofs.lemmas.Nat.{mod_below}
use Rattle.std.proofs.lemmas.Option.{same_Some, none-some}
use Rattle.gx_values.specs.declared.values.Kind.{Kind}
use Rattle.gx_values.specs.declared.values.Kind.TheVariants as kind
use Rattle.gx_values.specs.Keys.{is_inside}
use Rattle.gx_ports.specs.declared.kinds.LeafKind.{LeafKind}
use Rattle.gx_ports.specs.declared.kinds.LeafKind.TheVariants as kinds
use Rattle.gx_ports.specs.declared.kinds.LeafSpec.{LeafSpec}
use Rattle.gx_ports.specs.Keyed.{key_cmp}
use Rattle.gx_ports.specs.Roots.{roots_of, roots_of_kind}
use Rattle.gx_ports.proofs.KeyLemmas.{only_equal, front_le_of}
use Rattle.gx_hash.specs.Buckets.{fnv, through_zero, whole_front, front_of, hash_bucket, IsHashed}

-- ---- there is a chain

some_roots : (kind : LeafKind) → IsHashed kind → 1 ≤ roots_of_kind kind
some_roots (kinds.Hash buckets) some = some
some_roots kinds.Heap never = absurd never
some_roots kinds.Isam never = absurd never
some_roots kinds.Bplus never = absurd never

pub roots_some : (spec : LeafSpec) → IsHashed spec.kind → 1 ≤ roots_of spec
roots_some spec hashed = some_roots spec.kind hashed

pub bucket_below : (spec : LeafSpec) (key : List ℕ) → 1 ≤ roots_of spec
    → hash_bucket spec key < roots_of spec
bucket_below spec key some =
    mod_below (fnv (front_of spec.first key)) (roots_of spec) (omega (arith, some))

-- ---- the first 0

pub through_here : (key : List ℕ) (i : ℕ) → i < length key → ((k : ℕ) → k < i → get_or key k 0 ≢ 0)
    → get_or key i 0 ≡ 0
    → through_zero key ≡ Some (take (suc i) key)
through_here [] i below before here = absurd (omega (arith, below))
through_here (b ∷ bs) zero below before here =
    ap (λ (x : ℕ). cond (x == 0) (Some (0 ∷ []))
    (option_map (λ (f : List ℕ). x ∷ f) (through_zero bs))) here
    ∙ ap (λ (x : ℕ). Some (x ∷ [])) (sym here)
through_here (b ∷ bs) (suc i) below before here = elim (cases_Bool (b == 0)) [
  | inl e ↦ absurd (before zero (omega arith) (eqb-true b 0 e))
  | inr e ↦ ap (λ (t : Bool). cond t (Some (0 ∷ []))
      (option_map (λ (f : List ℕ). b ∷ f) (through_zero bs))) e
      ∙ ap (option_map (λ (f : List ℕ). b ∷ f))
      (through_here bs i (omega (arith, below)) (λ k less. before (suc k) (omega (arith, less)))
      here)
]

pub through_none : (key : List ℕ) → ((k : ℕ) → k < length key → get_or key k 0 ≢ 0)
    → through_zero key ≡ None
through_none [] each = refl
through_none (b ∷ bs) each = elim (cases_Bool (b == 0)) [
  | inl e ↦ absurd (each zero (omega arith) (eqb-true b 0 e))
  | inr e ↦ ap (λ (t : Bool). cond t (Some (0 ∷ []))
      (option_map (λ (f : List ℕ). b ∷ f) (through_zero bs))) e
      ∙ ap (option_map (λ (f : List ℕ). b ∷ f))
      (through_none bs (λ k less. each (suc k) (omega (arith, less))))
]

-- ---- a front is a front of what begins with it

mapped : (b : ℕ) (o : Option (List ℕ)) (f : List ℕ) → option_map (λ (x : List ℕ). b ∷ x) o ≡ Some f
    → (x : List ℕ) × (o ≡ Some x)
    × (f ≡ b ∷ x)
mapped b None f is = absurd (none-some f is)
mapped b (Some x) f is = (x, refl, sym (same_Some (b ∷ x) f is))

-- what has a front begins with it
begins : (lo f : List ℕ) → through_zero lo ≡ Some f → take (length f) lo ≡ f
begins [] f is = absurd (none-some f is)
begins (b ∷ bs) f is = elim (cases_Bool (b == 0)) [
  | inl e ↦ (let one : 0 ∷ [] ≡ f = same_Some (0 ∷ []) f
      (sym (ap (λ (t : Bool). cond t (Some (0 ∷ []))
      (option_map (λ (x : List ℕ). b ∷ x) (through_zero bs))) e) ∙ is) in
      subst (λ (x : List ℕ). take (length x) (b ∷ bs) ≡ x) one
      (ap (λ (x : ℕ). x ∷ []) (eqb-true b 0 e)))
  | inr e ↦ (let more = mapped b (through_zero bs) f
      (sym (ap (λ (t : Bool). cond t (Some (0 ∷ []))
      (option_map (λ (x : List ℕ). b ∷ x) (through_zero bs))) e) ∙ is) in
      subst (λ (x : List ℕ). take (length x) (b ∷ bs) ≡ x) (sym more.2)
      (ap (λ (x : List ℕ). b ∷ x) (begins bs more.0 more.1)))
]

head_is : (x y : ℕ) (xs ys : List ℕ) → x ∷ xs ≡ y ∷ ys → x ≡ y
head_is x y xs ys e = ap (λ (l : List ℕ). get_or l 0 0) e

tail_is : (x y : ℕ) (xs ys : List ℕ) → x ∷ xs ≡ y ∷ ys → xs ≡ ys
tail_is x y xs ys e = cc

begun_by : (lo f key : List ℕ) → through_zero lo ≡ Some f → take (length f) key ≡ f
    → through_zero key ≡ Some f
begun_by [] f key is same = absurd (none-some f is)
begun_by (b ∷ bs) f [] is same = elim (cases_Bool (b == 0)) [
  | inl e ↦ (let one : 0 ∷ [] ≡ f = same_Some (0 ∷ []) f
      (sym (ap (λ (t : Bool). cond t (Some (0 ∷ []))
      (option_map (λ (x : List ℕ). b ∷ x) (through_zero bs))) e) ∙ is) in
      let clash : [] ≡ 0 ∷ [] = subst (λ (x : List ℕ). take (length x) [] ≡ x) (sym one) same in cc)
  | inr e ↦ (let more = mapped b (through_zero bs) f
      (sym (ap (λ (t : Bool). cond t (Some (0 ∷ []))
      (option_map (λ (x : List ℕ). b ∷ x) (through_zero bs))) e) ∙ is) in
      let clash : [] ≡ b ∷ more.0 = subst (λ (x : List ℕ). take (length x) [] ≡ x) more.2 same in
      cc)
]
begun_by (b ∷ bs) f (c ∷ cs) is same = elim (cases_Bool (b == 0)) [
  | inl e ↦ (let one : 0 ∷ [] ≡ f = same_Some (0 ∷ []) f
      (sym (ap (λ (t : Bool). cond t (Some (0 ∷ []))
      (option_map (λ (x : List ℕ). b ∷ x) (through_zero bs))) e) ∙ is) in
      let here : c ∷ [] ≡ 0 ∷ [] =
      subst (λ (x : List ℕ). take (length x) (c ∷ cs) ≡ x) (sym one) same in
      ap (λ (x : ℕ). cond (x == 0) (Some (0 ∷ []))
      (option_map (λ (y : List ℕ). x ∷ y) (through_zero cs))) (head_is c 0 [] [] here)
      ∙ ap Some one)
  | inr e ↦ (let more = mapped b (through_zero bs) f
      (sym (ap (λ (t : Bool). cond t (Some (0 ∷ []))
      (option_map (λ (x : List ℕ). b ∷ x) (through_zero bs))) e) ∙ is) in
      let here : c ∷ take (length more.0) cs ≡ b ∷ more.0 =
      subst (λ (x : List ℕ). take (length x) (c ∷ cs) ≡ x) more.2 same in
      let first = head_is c b (take (length more.0) cs) more.0 here in
      let rest = begun_by bs more.0 cs more.1 (tail_is c b (take (length more.0) cs) more.0 here) in
      ap (λ (x : ℕ). cond (x == 0) (Some (0 ∷ []))
      (option_map (λ (y : List ℕ). x ∷ y) (through_zero cs))) first
      ∙ ap (λ (t : Bool). cond t (Some (0 ∷ []))
      (option_map (λ (y : List ℕ). b ∷ y) (through_zero cs))) e
      ∙ ap (option_map (λ (y : List ℕ). b ∷ y)) rest ∙ ap Some (sym more.2))
]

-- the same of each kind of a first field
int_front : (key f : List ℕ) → whole_front kind.Int key ≡ Some f
    → (8 ≤ length key) × (take 8 key ≡ f)
int_front key f is = elim (cases_Bool (nat_le 8 (length key))) [
  | inl e ↦ (
    leb-true 8 (length key) e,
    same_Some (take 8 key) f
        (sym (ap (λ (t : Bool). cond t (Some (take 8 key)) None) e) ∙ is),
  )
  | inr e ↦ absurd (none-some f (sym (ap (λ (t : Bool). cond t (Some (take 8 key)) None) e) ∙ is))
]

front_begins : (first : Kind) (lo f : List ℕ) → whole_front first lo ≡ Some f
    → take (length f) lo ≡ f
front_begins kind.Int lo f is =
    let h = int_front lo f is in
    let long = ap length (sym h.1) ∙ length-take 8 lo in
    let eight : length f ≡ 8 = (let whole = h.0 in omega (arith, long, whole)) in
    ap (λ (n : ℕ). take n lo) eight ∙ h.1
front_begins (kind.Text most) lo f is = begins lo f is
front_begins (kind.Bytes most) lo f is = absurd (none-some f is)

front_begun : (first : Kind) (lo f key : List ℕ) → whole_front first lo ≡ Some f
    → take (length f) key ≡ f → whole_front first key ≡ Some f
front_begun kind.Int lo f key is same =
    let h = int_front lo f is in
    let long = ap length (sym h.1) ∙ length-take 8 lo in
    let whole = h.0 in
    let eight : length f ≡ 8 = omega (arith, long, whole) in
    let taken = ap length (ap (λ (n : ℕ). take n key) (sym eight) ∙ same) in
    let front = length-take 8 key in
    ap (λ (t : Bool). cond t (Some (take 8 key)) None)
    (le-leb 8 (length key) (omega (arith, taken, front, eight)))
    ∙ ap Some (ap (λ (n : ℕ). take n key) (sym eight) ∙ same)
front_begun (kind.Text most) lo f key is same = begun_by lo f key is same
front_begun (kind.Bytes most) lo f key is same = absurd (none-some f is)

-- ---- keys inside a span

same_le : (x y : List ℕ) → x ≡ y → is_le (key_cmp x y) ≡ true
same_le x y e = ap is_le (ap (key_cmp x) (sym e) ∙ tied_itself nat_list_cmp_total x)

close : (r t : Ordering) → t ≡ ordering_reverse r → is_le r ≡ true → is_le t ≡ true → r ≡ Equal
close Less t e a b = absurd (false≢true (ap is_le (sym e) ∙ b))
close Equal t e a b = refl
close Greater t e a b = absurd (false≢true a)

le_both : (x y : List ℕ) → is_le (key_cmp x y) ≡ true → is_le (key_cmp y x) ≡ true → x ≡ y
le_both x y a b = only_equal x y
    (close (key_cmp x y) (key_cmp y x) (nat_list_cmp_total.antisymm y x) a b)

-- each key between two ends with one front has it
only_front : (first : Kind) (lo hi key f : List ℕ) → whole_front first lo ≡ Some f
    → whole_front first hi ≡ Some f
    → is_inside lo hi key ≡ true → whole_front first key ≡ Some f
only_front first lo hi key f low high inside =
    let at_lo = front_begins first lo f low in
    let at_hi = front_begins first hi f high in
    let long = ap length (sym at_hi) ∙ length-take (length f) hi in
    let above = subst (λ (x : List ℕ). is_le (key_cmp x (take (length f) key)) ≡ true) at_lo
    (front_le_of (length f) lo key
    (first_so (is_le (key_cmp lo key)) (is_le (key_cmp (take (length hi) key) hi)) inside)) in
    let below = front_le_of (length f) (take (length hi) key) hi
    (second_so (is_le (key_cmp lo key)) (is_le (key_cmp (take (length hi) key) hi)) inside) in
    let below_too = subst (λ (x : List ℕ). is_le (key_cmp x (take (length f) hi)) ≡ true)
    (take-take (length f) (length hi) key (omega (arith, long))) below in
    let under = subst (λ (x : List ℕ). is_le (key_cmp (take (length f) key) x) ≡ true) at_hi
    below_too in
    front_begun first lo f key low (sym (le_both f (take (length f) key) above under))

front_is : (first : Kind) (key f : List ℕ) → whole_front first key ≡ Some f → front_of first key ≡ f
front_is first key f is = ap (λ (o : Option (List ℕ)). unwrap_or o key) is

pub one_bucket : (spec : LeafSpec) (lo hi f : List ℕ) → whole_front spec.first lo ≡ Some f
    → whole_front spec.first hi ≡ Some f
    → (key : List ℕ) → is_inside lo hi key ≡ true → hash_bucket spec key ≡ hash_bucket spec lo
one_bucket spec lo hi f low high key inside =
    ap (λ (x : List ℕ). fnv x % roots_of spec)
    (front_is spec.first key f (only_front spec.first lo hi key f low high inside)
    ∙ sym (front_is spec.first lo f low))
