-- Members joined by their key bytes, and what is cut of such bytes.
use Rattle.std.proofs.Common.{◌≡◌, ◌<◌, ◌≤◌, ◌+◌, ℕ, true, cond, List, [], ◌∷◌, ◌++◌, inl, inr, length, take, drop, Option, Some, None, refl, sym, ap, subst, ◌∙◌, arith, length-append, append_assoc, append-nil}
use Rattle.std.specs.Prelude.{IsTrue, not, ◌==◌, unwrap_or, nat_lt}
use Rattle.std.specs.List.{list_all, position, prefix_len}
use Rattle.std.proofs.lemmas.Bool.Decides.{nat_tests}
use Rattle.std.proofs.lemmas.List.{take-append-drop}
use Rattle.std.proofs.lemmas.List.Quantifiers.{position-Some}
use Rattle.std.proofs.lemmas.Grind.{flat_map-append}
use Rattle.gx_laws.proofs.ListLemmas.{drop_front, none_long}
use Rattle.gx_values.specs.declared.values.Kind.{Kind}
use Rattle.gx_values.specs.declared.values.Kind.TheVariants as kind
use Rattle.gx_values.specs.declared.values.Value.{Value}
use Rattle.gx_values.specs.declared.values.Value.TheVariants as value
use Rattle.gx_values.specs.Values.{Fits, is_printable}
use Rattle.gx_values.specs.Keys.{bytes_of, key_of}
use Rattle.gx_values.specs.Written.{IsRead}
use Rattle.gx_values.proofs.OrderLemmas.{printable_head, printable_tail}
use Rattle.gx_mapping.specs.Rule.{In}
use Rattle.gx_gather.proofs.Lists.{in_cases}
use Rattle.gx_lists.specs.Arrays.{AreOfKind, IsFrontWidth, AreCut, AreOfNone}

-- ---- the width of the value at the front

pub int_width : (v : Value) → Fits kind.Int v → length (bytes_of v) ≡ 8
int_width (value.Int n) fit = omega arith
int_width (value.Text t) fit = absurd fit
int_width (value.Bytes t) fit = absurd fit

-- eight bytes, or none
pub ints_none : (bytes : List ℕ) → length bytes < 8 → IsFrontWidth kind.Int bytes None
ints_none bytes few v rest fit e =
    absurd (omega (arith, few, ap length e, length-append (bytes_of v) rest, int_width v fit))

pub ints_some : (bytes : List ℕ) → 8 ≤ length bytes → IsFrontWidth kind.Int bytes (Some 8)
ints_some bytes many = (omega arith, many, λ v rest fit e. int_width v fit)

not_zero : (c : ℕ) → 0 < c → not (c == 0) ≡ true
not_zero c some = grind (arith, nat_tests)

text_length : (t rest : List ℕ) → IsTrue (list_all is_printable t)
    → prefix_len (λ b. not (b == 0)) ((t ++ 0 ∷ []) ++ rest) ≡ length t
text_length [] rest plain = refl
text_length (c ∷ t) rest plain =
    ap (λ b. cond b (1 + prefix_len (λ b. not (b == 0)) ((t ++ 0 ∷ []) ++ rest)) 0)
    (not_zero c (printable_head c t plain))
    ∙ (let e = text_length t rest (printable_tail c t plain) in omega (arith, e))

-- a text at the front ends at the first 0
text_there : (most : ℕ) (bytes : List ℕ) (v : Value) (rest : List ℕ) → Fits (kind.Text most) v
    → bytes ≡ bytes_of v ++ rest
    → (n : ℕ) × ((position (λ b. b == 0) bytes ≡ Some n) × (length (bytes_of v) ≡ n + 1))
text_there most bytes (value.Int z) rest fits e = absurd fits
text_there most bytes (value.Bytes t) rest fits e = absurd fits
text_there most bytes (value.Text t) rest fits e =
    (length t, (ap (position (λ b. b == 0)) e ∙ found, omega (arith, length-append t (0 ∷ []))))
  where
    place : (n l : ℕ) (k : ℕ) → n ≡ k → k < l → cond (nat_lt n l) (Some n) None ≡ Some k
    place n l k same lt = grind (arith, nat_tests)

    found : position (λ b. b == 0) ((t ++ 0 ∷ []) ++ rest) ≡ Some (length t)
    found = place _ (length ((t ++ 0 ∷ []) ++ rest)) (length t) (text_length t rest fits.1)
        (omega (arith, length-append (t ++ 0 ∷ []) rest, length-append t (0 ∷ [])))

no_place : (n : ℕ) → None ≡ Some n → ⊥
no_place n e = cc

pub texts_none : (most : ℕ) (bytes : List ℕ) → position (λ b. b == 0) bytes ≡ None
    → IsFrontWidth (kind.Text most) bytes None
texts_none most bytes none v rest fit e = let t = text_there most bytes v rest fit e in
    no_place t.0 (sym none ∙ t.1.0)

pub texts_some : (most : ℕ) (bytes : List ℕ) (end : ℕ) → position (λ b. b == 0) bytes ≡ Some end
    → IsFrontWidth (kind.Text most) bytes (Some (end + 1))
texts_some most bytes end there =
    let at = position-Some (λ b. b == 0) bytes end 0 there in (
      omega arith,
      omega (arith, at.0),
      λ v rest fit e.
          let t = text_there most bytes v rest fit e in
          let same : t.0 ≡ end = ap (λ (o : Option ℕ). unwrap_or o 0) (sym t.1.0 ∙ there) in
          omega (arith, t.1.1, same),
    )

-- ---- cutting

-- the members that were cut so far, and the bytes that are left of all
pub record AreCutSoFar (k : Kind) (bytes : List ℕ) (before now : List Value)
    (rest : List ℕ) : Type 0 where
  pub found : List Value
  pub appended : now ≡ before ++ found
  pub fit : AreOfKind k found
  pub joined : key_of found ++ rest ≡ bytes
  pub only : (ms : List Value) → AreOfKind k ms → key_of ms ≡ bytes
      → (more : List Value) × AreOfKind k more × (key_of more ≡ rest)

pub none_cut : (k : Kind) (bytes : List ℕ) (before : List Value)
    → AreCutSoFar k bytes before before bytes
none_cut k bytes before = record {
  found = [];
  appended = sym (append-nil before);
  fit = λ m h. absurd h;
  joined = refl;
  only = λ ms fit e. (ms, fit, e);
}

-- the next member's bytes, where some are left
next_there : (k : Kind) (ms : List Value) (rest : List ℕ) → AreOfKind k ms → key_of ms ≡ rest
    → 0 < length rest
    → (v : Value) × (vs : List Value) × (ms ≡ v ∷ vs) × (rest ≡ bytes_of v ++ key_of vs)
next_there k [] rest fit e some = absurd (omega (arith, ap length e, some))
next_there k (v ∷ vs) rest fit e some = (v, vs, refl, sym e)

pub no_front : (k : Kind) (bytes : List ℕ) (before now : List Value) (rest : List ℕ)
    → AreCutSoFar k bytes before now rest
    → 0 < length rest → IsFrontWidth k rest None → AreOfNone k bytes
no_front k bytes before now rest so_far some none ms fit e =
    let more = so_far.only ms fit e in
    let next = next_there k more.0 rest more.1 more.2 some in
    none next.0 (key_of next.1) (more.1 next.0 (subst (In next.0) (sym next.2) (inl refl))) next.3

take_front : (a b : List ℕ) → take (length a) (a ++ b) ≡ a
take_front [] b = refl
take_front (x ∷ a) b = ap (λ l. x ∷ l) (take_front a b)

front_bytes : (rest a b : List ℕ) (width : ℕ) → rest ≡ a ++ b → length a ≡ width
    → (take width rest ≡ a) × (drop width rest ≡ b)
front_bytes rest a b width e l = (
  (λ i. take (sym l i) (e i)) ∙ take_front a b,
  (λ i. drop (sym l i) (e i)) ∙ drop_front a b,
)

pub no_value : (k : Kind) (bytes : List ℕ) (before now : List Value) (rest : List ℕ) (width : ℕ)
    → AreCutSoFar k bytes before now rest
    → 0 < length rest → IsFrontWidth k rest (Some width) → IsRead bytes_of k (take width rest) None
    → AreOfNone k bytes
no_value k bytes before now rest width so_far some front none ms fit e =
    let more = so_far.only ms fit e in
    let next = next_there k more.0 rest more.1 more.2 some in
    let fits = more.1 next.0 (subst (In next.0) (sym next.2) (inl refl)) in
    none next.0 fits (sym (front_bytes rest (bytes_of next.0) (key_of next.1) width next.3
    (front.2 next.0 (key_of next.1) fits next.3)).0)

pub one_cut : (k : Kind) (bytes : List ℕ) (before now after : List Value) (rest : List ℕ)
    (width : ℕ) (v : Value)
    → AreCutSoFar k bytes before now rest → 0 < length rest → IsFrontWidth k rest (Some width)
    → IsRead bytes_of k (take width rest) (Some v) → after ≡ now ++ v ∷ []
    → AreCutSoFar k bytes before after (drop width rest)
one_cut k bytes before now after rest width v so_far some front is pushed = record {
  found = so_far.found ++ v ∷ [];
  appended = pushed ∙ ap (λ l. l ++ v ∷ []) so_far.appended
      ∙ append_assoc before so_far.found (v ∷ []);
  fit = λ m h. elim (in_cases m so_far.found (v ∷ []) h) [
    | inl a ↦ so_far.fit m a
    | inr b ↦ elim b [ inl e ↦ subst (Fits k) (sym e) is.0 | inr f ↦ absurd f ]
  ];
  joined = ap (λ l. l ++ drop width rest)
      (flat_map-append bytes_of so_far.found (v ∷ [])
      ∙ ap (λ l. key_of so_far.found ++ l) (append-nil (bytes_of v) ∙ is.1))
      ∙ append_assoc (key_of so_far.found) (take width rest) (drop width rest)
      ∙ ap (λ l. key_of so_far.found ++ l) (take-append-drop width rest)
      ∙ so_far.joined;
  only = λ ms fit e.
      let more = so_far.only ms fit e in
      let next = next_there k more.0 rest more.1 more.2 some in
      let fits = more.1 next.0 (subst (In next.0) (sym next.2) (inl refl)) in (
        next.1,
        (λ m h. more.1 m (subst (In m) (sym next.2) (inr h))),
        sym (front_bytes rest (bytes_of next.0) (key_of next.1) width next.3
            (front.2 next.0 (key_of next.1) fits next.3)).1,
      );
}

pub all_cut : (k : Kind) (bytes : List ℕ) (before now : List Value) (rest : List ℕ)
    → AreCutSoFar k bytes before now rest → length rest ≡ 0
    → AreCut k bytes before now
all_cut k bytes before now rest so_far none = record {
  found = so_far.found;
  appended = so_far.appended;
  fit = so_far.fit;
  joined = sym (append-nil (key_of so_far.found))
      ∙ ap (λ l. key_of so_far.found ++ l) (sym (none_long rest none)) ∙ so_far.joined;
}

-- ---- as the calls have them

pub front_none : (k : Kind) (most : ℕ) (bytes : List ℕ) (found result : Option ℕ)
    → k ≡ kind.Text most
    → found ≡ position (λ b. b == 0) bytes → found ≡ None → result ≡ None
    → IsFrontWidth k bytes result
front_none k most bytes found result is there none gives =
    subst (λ x. IsFrontWidth x bytes result) (sym is)
    (subst (λ o. IsFrontWidth (kind.Text most) bytes o) (sym gives)
    (texts_none most bytes (sym there ∙ none)))

pub front_some : (k : Kind) (most end : ℕ) (bytes : List ℕ) (found : Option ℕ) → k ≡ kind.Text most
    → found ≡ position (λ b. b == 0) bytes
    → found ≡ Some end → IsFrontWidth k bytes (Some (end + 1))
front_some k most end bytes found is there some =
    subst (λ x. IsFrontWidth x bytes (Some (end + 1))) (sym is)
    (texts_some most bytes end (sym there ∙ some))
