-- Members joined by their key bytes: the bytes tell the members, and how many there are at most.
use Rattle.std.proofs.Common.{◌≡◌, ◌<◌, ◌≤◌, ◌*◌, List, [], ◌∷◌, inl, inr, length, refl, ap, arith, length-append}
use Rattle.gx_laws.proofs.NumberLemmas.{times_suc}
use Rattle.gx_values.specs.declared.values.Kind.{Kind}
use Rattle.gx_values.specs.declared.values.Kind.TheVariants as kind
use Rattle.gx_values.specs.declared.values.Value.{Value}
use Rattle.gx_values.specs.declared.values.Value.TheVariants as value
use Rattle.gx_values.specs.Values.{Fits}
use Rattle.gx_values.specs.Keys.{bytes_of, key_of, width_of, IsKeyKind}
use Rattle.gx_values.proofs.KeyLemmas.{fit_bytes}
use Rattle.gx_values.proofs.OrderLemmas.{value_prefix_free}
use Rattle.gx_lists.specs.Arrays.{AreOfKind}

pub some_bytes : (k : Kind) (v : Value) → IsKeyKind k → Fits k v → 0 < length (bytes_of v)
some_bytes kind.Int (value.Int n) key fit = omega arith
some_bytes (kind.Text most) (value.Text t) key fit = omega (arith, length-append t (0 ∷ []))
some_bytes (kind.Bytes most) v key fit = absurd key
some_bytes kind.Int (value.Text t) key fit = absurd fit
some_bytes kind.Int (value.Bytes t) key fit = absurd fit
some_bytes (kind.Text most) (value.Int n) key fit = absurd fit
some_bytes (kind.Text most) (value.Bytes n) key fit = absurd fit

one_of : (k : Kind) (m : Value) (ms : List Value) → AreOfKind k (m ∷ ms) → Fits k m
one_of k m ms fit = fit m (inl refl)

rest_of : (k : Kind) (m : Value) (ms : List Value) → AreOfKind k (m ∷ ms) → AreOfKind k ms
rest_of k m ms fit = λ x h. fit x (inr h)

-- they tell the members
pub same_joined : (k : Kind) (xs ys : List Value) → IsKeyKind k → AreOfKind k xs → AreOfKind k ys
    → key_of xs ≡ key_of ys → xs ≡ ys
same_joined k [] [] key f g e = refl
same_joined k [] (y ∷ ys) key f g e =
    absurd (omega (
      arith,
      some_bytes k y key (one_of k y ys g),
      ap length e,
      length-append (bytes_of y) (key_of ys),
    ))
same_joined k (x ∷ xs) [] key f g e =
    absurd (omega (
      arith,
      some_bytes k x key (one_of k x xs f),
      ap length e,
      length-append (bytes_of x) (key_of xs),
    ))
same_joined k (x ∷ xs) (y ∷ ys) key f g e =
    let both =
    value_prefix_free k key x y (key_of xs) (key_of ys) (one_of k x xs f) (one_of k y ys g) e in
    λ i. both.0 i ∷ same_joined k xs ys key (rest_of k x xs f) (rest_of k y ys g) both.1 i

pub joined_small : (k : Kind) (ms : List Value) → AreOfKind k ms
    → length (key_of ms) ≤ length ms * width_of k
joined_small k [] fit = omega arith
joined_small k (m ∷ ms) fit =
    omega (
      arith,
      length-append (bytes_of m) (key_of ms),
      fit_bytes k m (one_of k m ms fit),
      joined_small k ms (rest_of k m ms fit),
      times_suc (length ms) (width_of k),
    )
