-- What is read at the front of a body.
use Rattle.std.proofs.Common.{◌≡◌, ℕ, zero, suc, ◌<◌, ◌≤◌, ◌^◌, List, [], ◌∷◌, ◌++◌, length, take, drop, get_or, Option, Some, None, IfSome, MatchOption, sym, ap, subst, ◌∙◌, arith, append_assoc}
use Rattle.std.specs.Prelude.{ℤ, min}
use Rattle.std.specs.Int.{w16, w64, to_be_bytes, from_be_bytes, cast_unsigned, cast_signed}
use Rattle.std.specs.Int.RustNames.{FitsSigned}
use Rattle.std.specs.Borrow.{Bor}
use Rattle.std.specs.List.{IsSplitAt}
use Rattle.std.proofs.lemmas.Nat.{be_bytes_2, be_bytes_8}
use Rattle.std.proofs.lemmas.List.{take-append-drop, length-take}
use Rattle.std.proofs.Math.Facts.{of_z-to_z}
use Rattle.gx_values.specs.declared.values.Kind.{Kind}
use Rattle.gx_values.specs.declared.values.Kind.TheVariants as kind
use Rattle.gx_values.specs.declared.records.Field.{Field}
use Rattle.gx_values.specs.declared.values.Value.{Value}
use Rattle.gx_values.specs.declared.values.Value.TheVariants as value
use Rattle.gx_values.specs.Values.{Fits, AreFit}
use Rattle.gx_actual.specs.Bodies.{field_bytes, IsShort, AreShort, HasLength}
use Rattle.gx_order.proofs.OrderLemmas.{first_bytes}

-- ---- lengths

pub has_length : (k : Kind) (v : Value) → IsShort k → Fits k v → HasLength v
has_length kind.Int (value.Int n) short h = tt
has_length (kind.Text most) (value.Text t) short h = omega (arith, h.0)
has_length (kind.Bytes most) (value.Bytes t) short h = omega (arith, h)
has_length kind.Int (value.Text t) short h = absurd h
has_length kind.Int (value.Bytes t) short h = absurd h
has_length (kind.Text most) (value.Int n) short h = absurd h
has_length (kind.Text most) (value.Bytes n) short h = absurd h
has_length (kind.Bytes most) (value.Int n) short h = absurd h
has_length (kind.Bytes most) (value.Text n) short h = absurd h

has_length_at : (fs : List Field) (vs : List Value) (d : Value) (i : ℕ) → AreShort fs → AreFit fs vs
    → i < length vs → HasLength (get_or vs i d)
has_length_at [] [] d i short h lt = absurd (omega arith)
has_length_at [] (v ∷ vs) d i short h lt = absurd h
has_length_at (f ∷ fs) [] d i short h lt = absurd h
has_length_at (f ∷ fs) (v ∷ vs) d zero short h lt = has_length f.kind v short.0 h.0
has_length_at (f ∷ fs) (v ∷ vs) d (suc i) short h lt =
    has_length_at fs vs d i short.1 h.1 (omega arith)

pub item_has_length : (fs : List Field) (vs : List Value) (v : Value) (i : ℕ) → AreShort fs
    → AreFit fs vs → i < length vs → v ≡ get_or vs i v → HasLength v
item_has_length fs vs v i short h lt is =
    subst HasLength (sym is) (has_length_at fs vs v i short h lt)

short_at : (fs : List Field) (d : Field) (i : ℕ) → AreShort fs → i < length fs
    → IsShort (get_or fs i d).kind
short_at [] d i short lt = absurd (omega arith)
short_at (f ∷ fs) d zero short lt = short.0
short_at (f ∷ fs) d (suc i) short lt = short_at fs d i short.1 (omega arith)

pub item_short : (fs : List Field) (f : Field) (i : ℕ) → AreShort fs → i < length fs
    → f ≡ get_or fs i f → IsShort f.kind
item_short fs f i short lt is =
    subst (λ (g : Field). IsShort g.kind) (sym is) (short_at fs f i short lt)

-- ---- splitting

pub int_split : (bytes front rest : List ℕ) (z : ℤ) (n : ℕ) → 8 ≤ length bytes
    → front ≡ take 8 bytes → rest ≡ drop 8 bytes → ((i : ℕ) → get_or bytes i 0 < 256) → n < 2 ^ 64
    → n ≡ from_be_bytes w64 front → FitsSigned w64 z → z ≡ cast_signed w64 n
    → bytes ≡ field_bytes (value.Int z) ++ rest
int_split bytes front rest z n long is left small low gives fits casts =
    let eight : length (take 8 bytes) ≡ 8 = length-take 8 bytes
    ∙ (let e : min 8 (length bytes) ≡ 8 = omega arith in e) in
    let back : cast_unsigned w64 z ≡ n = ap (cast_unsigned w64) casts
    ∙ of_z-to_z {w = w64} (record { fits = low }) in
    let written : to_be_bytes w64 (cast_unsigned w64 z) ≡ take 8 bytes =
    be_bytes_8 (take 8 bytes) (cast_unsigned w64 z) eight (first_bytes 8 bytes small)
    (back ∙ gives ∙ ap (from_be_bytes w64) is) in
    sym (take-append-drop 8 bytes) ∙ (λ i. sym written i ++ sym left i)

-- what follows the two bytes of a length
bytes_split : (rest front more bytes others : List ℕ) (n m : ℕ) → 2 ≤ length rest
    → front ≡ take 2 rest → more ≡ drop 2 rest → ((i : ℕ) → get_or rest i 0 < 256)
    → n ≡ from_be_bytes w16 front → m ≡ n → m ≤ length more → bytes ≡ take m more
    → others ≡ drop m more
    → rest ≡ field_bytes (value.Bytes bytes) ++ others
bytes_split rest front more bytes others n m long is left small gives same enough first second =
    let two : length (take 2 rest) ≡ 2 = length-take 2 rest
    ∙ (let e : min 2 (length rest) ≡ 2 = omega arith in e) in
    let size : length bytes ≡ n = ap length first ∙ length-take m more
    ∙ (let e : min m (length more) ≡ m = omega arith in e) ∙ same in
    let written : to_be_bytes w16 (length bytes) ≡ take 2 rest =
    be_bytes_2 (take 2 rest) (length bytes) two (first_bytes 2 rest small) (size ∙ gives
    ∙ ap (from_be_bytes w16) is) in
    let parts : bytes ++ others ≡ drop 2 rest = (λ i. first i ++ second i) ∙ take-append-drop m more
    ∙ left in
    sym (take-append-drop 2 rest) ∙ (λ i. sym written i ++ sym parts i)
    ∙ sym (append_assoc (to_be_bytes w16 (length bytes)) bytes others)

pub some_split : (rest front more : List ℕ) (n m : ℕ) (found : Option (Bor (List ℕ) × Bor (List ℕ)))
    → 2 ≤ length rest → front ≡ take 2 rest → more ≡ drop 2 rest → ((i : ℕ) → get_or rest i 0 < 256)
    → n ≡ from_be_bytes w16 front → m ≡ n
    → MatchOption found (length more < m) (λ p. IsSplitAt more m p.0.now p.1.now)
    → IfSome found (λ p. rest ≡ field_bytes (value.Bytes p.0.now) ++ p.1.now)
some_split rest front more n m None long is left small gives same split = tt
some_split rest front more n m (Some p) long is left small gives same split =
    bytes_split rest front more p.0.now p.1.now n m long is left small gives same split.0 split.1
    split.2
