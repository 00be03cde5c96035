-- A body is that of one list of values, and no longer than the widths of their fields.
use Rattle.std.proofs.Common.{◌≡◌, ℕ, ◌/◌, ◌%◌, ◌≤◌, List, [], ◌∷◌, ◌++◌, length, drop, get_or, refl, sym, ap, ◌∙◌, arith, append_assoc}
use Rattle.std.specs.Int.{w16, to_be_bytes}
use Rattle.gx_values.specs.declared.values.Kind.{Kind}
use Rattle.gx_values.specs.declared.values.Kind.TheVariants as kind
use Rattle.gx_values.specs.declared.records.Field.{Field}
use Rattle.gx_values.specs.declared.values.Value.{Value}
use Rattle.gx_values.specs.declared.values.Value.TheVariants as value
use Rattle.gx_values.specs.Values.{AreFit}
use Rattle.gx_values.proofs.WrittenLemmas.{IsPrefixFree, ArePrefixFree, written_once}
use Rattle.gx_values.proofs.IntLemmas.{same_int}
use Rattle.gx_actual.specs.Bodies.{field_bytes, body_of, IsShort, AreShort}

-- ---- one value in front

same_front : (a b x y : List ℕ) → length a ≡ length b → a ++ x ≡ b ++ y → (a ≡ b) × (x ≡ y)
same_front [] [] x y n e = (refl, e)
same_front [] (c ∷ b) x y n e = absurd (omega arith)
same_front (c ∷ a) [] x y n e = absurd (omega arith)
same_front (c ∷ a) (d ∷ b) x y n e =
    let rest = same_front a b x y (omega arith) (ap (drop 1) e) in
    let head : c ≡ d = ap (λ (l : List ℕ). get_or l 0 0) e in
    ((λ i. head i ∷ rest.0 i), rest.1)

same_length : (m n : ℕ) → m ≤ 65535 → n ≤ 65535 → to_be_bytes w16 m ≡ to_be_bytes w16 n → m ≡ n
same_length m n f g e =
    let high : m / 256 % 256 ≡ n / 256 % 256 = ap (λ (l : List ℕ). get_or l 0 0) e in
    let low : m % 256 ≡ n % 256 = ap (λ (l : List ℕ). get_or l 1 0) e in
    omega (arith, high, low)

-- two values of a kind at the same front are one
field_prefix : (k : Kind) → IsShort k → IsPrefixFree field_bytes k
field_prefix kind.Int short (value.Int m) (value.Int n) x y f g e =
    let s = same_front (field_bytes (value.Int m)) (field_bytes (value.Int n)) x y refl e in
    (ap value.Int (same_int m n f g s.0), s.1)
field_prefix (kind.Text most) short (value.Text t) (value.Text u) x y f g e =
    let n : length t ≡ length u = ap (λ (l : List ℕ). get_or l 0 0) e in
    let s = same_front t u x y n (ap (drop 1) e) in
    (ap value.Text s.0, s.1)
field_prefix (kind.Bytes most) short (value.Bytes t) (value.Bytes u) x y f g e =
    let s = same_front (to_be_bytes w16 (length t)) (to_be_bytes w16 (length u)) (t ++ x)
    (u ++ y) refl
    (sym (append_assoc (to_be_bytes w16 (length t)) t x) ∙ e ∙ append_assoc
    (to_be_bytes w16 (length u)) u y) in
    let r = same_front t u x y
    (same_length (length t) (length u) (omega (arith, f)) (omega (arith, g)) s.0) s.1 in
    (ap value.Bytes r.0, r.1)
field_prefix kind.Int short (value.Int n) (value.Text t) x y f g e = absurd g
field_prefix kind.Int short (value.Int n) (value.Bytes t) x y f g e = absurd g
field_prefix kind.Int short (value.Text t) w x y f g e = absurd f
field_prefix kind.Int short (value.Bytes t) w x y f g e = absurd f
field_prefix (kind.Text most) short (value.Text t) (value.Int n) x y f g e = absurd g
field_prefix (kind.Text most) short (value.Text t) (value.Bytes n) x y f g e = absurd g
field_prefix (kind.Text most) short (value.Int t) w x y f g e = absurd f
field_prefix (kind.Text most) short (value.Bytes t) w x y f g e = absurd f
field_prefix (kind.Bytes most) short (value.Bytes t) (value.Int n) x y f g e = absurd g
field_prefix (kind.Bytes most) short (value.Bytes t) (value.Text n) x y f g e = absurd g
field_prefix (kind.Bytes most) short (value.Int t) w x y f g e = absurd f
field_prefix (kind.Bytes most) short (value.Text t) w x y f g e = absurd f

pub bodies_prefix_free : (fs : List Field) → AreShort fs → ArePrefixFree field_bytes fs
bodies_prefix_free [] short = tt
bodies_prefix_free (f ∷ fs) short = (field_prefix f.kind short.0, bodies_prefix_free fs short.1)

-- a body is that of one list of values
pub same_body : (fs : List Field) (a b : List Value) → AreShort fs → AreFit fs a → AreFit fs b
    → body_of a ≡ body_of b → a ≡ b
same_body fs a b short f g e = written_once field_bytes fs a b (bodies_prefix_free fs short) f g e
