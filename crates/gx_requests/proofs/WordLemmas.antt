-- The words of a request.
use Rattle.std.proofs.Common.{◌≡◌, ℕ, ◌<◌, ◌≤◌, ◌^◌, List, [], ◌∷◌, length, get_or, map, Bool, true, false, Option, Some, None, ℤ, pos, refl, sym, ap, subst, ◌∙◌, arith}
use Rattle.std.specs.Prelude.{IfSome, ◌≢◌, nat_lt, neg_ℤ, if◌then◌else◌, String, string_bytes}
use Rattle.std.proofs.lemmas.Bool.Decides.{nat_tests}
use Rattle.gx_tokens.specs.Numbers.{are_digits, digits_value, is_number, number_value, signed_in_range, signed_number}
use Rattle.gx_requests.specs.Words.{Action, checking, trying, explaining, making, running, sharing, inspecting, working, request_words, has_sign, IsCount, IsRecordCount, NoCounts, IsCounted}

abbrev number_by : Bool → ℕ → List ℕ → ℤ
number_by minus b bs = if minus then neg_ℤ (pos (digits_value bs)) else pos (digits_value (b ∷ bs))

plain_number : (word : List ℕ) → has_sign word ≡ false
    → signed_number word ≡ (if are_digits word then signed_in_range (pos (digits_value word)) else
    None)
unfolding is_number number_value
plain_number [] unsigned = refl
plain_number (b ∷ bs) unsigned =
    λ i. if (if unsigned i then are_digits bs else are_digits (b ∷ bs)) then signed_in_range
    (number_by (unsigned i) b bs) else None

some_pos : (m n : ℕ) → ◌≡◌ {A = Option ℤ} (Some (pos m)) (Some (pos n)) → m ≡ n
some_pos m n e = ap number e
  where
    number : Option ℤ → ℕ
    number (Some (pos k)) = k
    number other = 0

none_some : (n : ℕ) {A : Type 0} → ◌≡◌ {A = Option ℤ} None (Some (pos n)) → A
none_some n e = absurd (never e)
  where
    never : ◌≡◌ {A = Option ℤ} None (Some (pos n)) → ⊥
    never f = cc

in_range : (small : Bool) (m n : ℕ)
    → ◌≡◌ {A = Option ℤ} (if small then Some (pos m) else None) (Some (pos n)) → m ≡ n
in_range true m n e = some_pos m n e
in_range false m n e = none_some n e

digits_or : (digits : Bool) (m n : ℕ)
    → ◌≡◌ {A = Option ℤ} (if digits then signed_in_range (pos m) else None) (Some (pos n))
    → (digits ≡ true) × (m ≡ n)
digits_or true m n e = (refl, in_range (nat_lt m (2 ^ 63)) m n e)
digits_or false m n e = none_some n e

-- a number without a sign, of at most ten digits
pub is_count : (word : List ℕ) (n : ℕ) → has_sign word ≡ false → length word ≤ 10
    → signed_number word ≡ Some (pos n) → n < 2 ^ 32 → IsCount word n
is_count word n unsigned few is small =
    let digits = digits_or (are_digits word) (digits_value word) n (sym (plain_number word unsigned)
    ∙ is) in
    record { digits = digits.0; few = few; value_is = digits.1; small = small }

in_64 : (n : ℕ) → n < 2 ^ 32 → signed_in_range (pos n) ≡ Some (pos n)
in_64 n small =
    ap (λ (b : Bool). if b then Some (pos n) else None) (let lt : nat_lt n (2 ^ 63) ≡ true =
    grind (arith, nat_tests, small) in lt)

pub no_sign : (word : List ℕ) → are_digits word ≡ true → has_sign word ≡ false
no_sign [] digits = refl
no_sign (b ∷ bs) digits = grind (arith, nat_tests, digits)

-- it is what is read of it
pub count_is : (word : List ℕ) (n : ℕ) → IsCount word n → signed_number word ≡ Some (pos n)
count_is word n c =
    plain_number word (no_sign word c.digits)
    ∙ (λ i. if c.digits i then signed_in_range (pos (c.value_is i)) else None) ∙ in_64 n c.small

-- ---- five words

five_of : {Z : Type 0} (words : List (String Z)) (a b c d e : String Z) → 5 ≤ length words
    → length words < 6
    → a ≡ get_or words 0 a → b ≡ get_or words 1 b → c ≡ get_or words 2 c → d ≡ get_or words 3 d
    → e ≡ get_or words 4 e
    → map (λ w. string_bytes w) words ≡ string_bytes a ∷ string_bytes b ∷ string_bytes c
    ∷ string_bytes d ∷ string_bytes e ∷ []
five_of [] a b c d e least most p q r s t = absurd (omega arith)
five_of (u ∷ []) a b c d e least most p q r s t = absurd (omega arith)
five_of (u ∷ v ∷ []) a b c d e least most p q r s t = absurd (omega arith)
five_of (u ∷ v ∷ w ∷ []) a b c d e least most p q r s t = absurd (omega arith)
five_of (u ∷ v ∷ w ∷ x ∷ []) a b c d e least most p q r s t = absurd (omega arith)
five_of (u ∷ v ∷ w ∷ x ∷ y ∷ []) a b c d e least most p q r s t =
    λ i. string_bytes (sym p i) ∷ string_bytes (sym q i) ∷ string_bytes (sym r i) ∷ string_bytes
    (sym s i) ∷ string_bytes (sym t i) ∷ []
five_of (u ∷ v ∷ w ∷ x ∷ y ∷ z ∷ zs) a b c d e least most p q r s t = absurd (omega arith)

pub five_words : {Z : Type 0} (words : List (String Z)) (a b c d e : String Z)
    (first second third fourth fifth : List ℕ) → 5 ≤ length words → length words < 6
    → a ≡ get_or words 0 a
    → b ≡ get_or words 1 b → c ≡ get_or words 2 c → d ≡ get_or words 3 d → e ≡ get_or words 4 e
    → first ≡ string_bytes a → second ≡ string_bytes b → third ≡ string_bytes c
    → fourth ≡ string_bytes d
    → fifth ≡ string_bytes e
    → map (λ w. string_bytes w) words ≡ first ∷ second ∷ third ∷ fourth ∷ fifth ∷ []
five_words words a b c d e first second third fourth fifth least most p q r s t f g h k l =
    five_of words a b c d e least most p q r s t
    ∙ (λ i. sym f i ∷ sym g i ∷ sym h i ∷ sym k i ∷ sym l i ∷ [])

-- they are no request but `make` and `work`
pub no_five : (ws : List (List ℕ)) (first second third fourth fifth : List ℕ)
    → ws ≡ first ∷ second ∷ third ∷ fourth ∷ fifth ∷ [] → NoCounts first fourth fifth
    → (a : Action) (schema equation : List ℕ) → IsCounted a → ws ≡ request_words a schema equation
    → ⊥
no_five ws first second third fourth fifth are none checking schema equation counted is =
    let many : 5 ≡ 3 = ap (λ (l : List (List ℕ)). length l) (sym are ∙ is) in
    absurd (omega (arith, many))
no_five ws first second third fourth fifth are none trying schema equation counted is =
    let many : 5 ≡ 3 = ap (λ (l : List (List ℕ)). length l) (sym are ∙ is) in
    absurd (omega (arith, many))
no_five ws first second third fourth fifth are none explaining schema equation counted is =
    let many : 5 ≡ 3 = ap (λ (l : List (List ℕ)). length l) (sym are ∙ is) in
    absurd (omega (arith, many))
no_five ws first second third fourth fifth are none (running device) schema equation counted is =
    let many : 5 ≡ 4 = ap (λ (l : List (List ℕ)). length l) (sym are ∙ is) in
    absurd (omega (arith, many))
no_five ws first second third fourth fifth are none (sharing device) schema equation counted is =
    let many : 5 ≡ 4 = ap (λ (l : List (List ℕ)). length l) (sym are ∙ is) in
    absurd (omega (arith, many))
no_five ws first second third fourth fifth are none (inspecting device) schema equation counted is =
    let many : 5 ≡ 4 = ap (λ (l : List (List ℕ)). length l) (sym are ∙ is) in
    absurd (omega (arith, many))
no_five ws first second third fourth fifth are none (making device digits) schema equation counted
    is =
    none.make (ap (λ (l : List (List ℕ)). get_or l 0 []) (sym are ∙ is)) counted.0
    (subst (λ (w : List ℕ). IsCount w counted.0)
    (sym (ap (λ (l : List (List ℕ)). get_or l 4 []) (sym are ∙ is))) counted.1)
no_five ws first second third fourth fifth are none (working device blocks records) schema equation
    counted is =
    none.work (ap (λ (l : List (List ℕ)). get_or l 0 []) (sym are ∙ is)) counted.0.0 counted.1.0
    (subst (λ (w : List ℕ). IsCount w counted.0.0)
    (sym (ap (λ (l : List (List ℕ)). get_or l 3 []) (sym are ∙ is))) counted.0.1)
    (subst (λ (w : List ℕ). IsRecordCount w counted.1.0)
    (sym (ap (λ (l : List (List ℕ)). get_or l 4 []) (sym are ∙ is))) counted.1.1)

-- ---- what a word counts

pub counted : (word : List ℕ) (number : ℤ) (r : Option ℕ) → has_sign word ≡ false → length word ≤ 10
    → signed_number word ≡ Some number → IfSome r (λ n. (number ≡ pos n) × (n < 2 ^ 32))
    → IfSome r (IsCount word)
counted word number (Some n) plain few is h = is_count word n plain few (is ∙ ap Some h.0) h.1
counted word number None plain few is h = tt

pub no_count : (word : List ℕ) → signed_number word ≡ None → (n : ℕ) → ¬ IsCount word n
no_count word none n c = none_some n (sym none ∙ count_is word n c)

pub other_count : (word : List ℕ) (number : ℤ) → signed_number word ≡ Some number
    → ((n : ℕ) → n < 2 ^ 32 → number ≢ pos n) → (n : ℕ) → ¬ IsCount word n
other_count word number is none n c = none n c.small (same (sym is ∙ count_is word n c))
  where
    same : ◌≡◌ {A = Option ℤ} (Some number) (Some (pos n)) → number ≡ pos n
    same e = ap number_in e
      where
        number_in : Option ℤ → ℤ
        number_in (Some k) = k
        number_in None = number

pub early : (word : List ℕ) (n : ℕ) → IsCount word n → has_sign word ≡ true → ⊥
early word n c sign = absurd (never (sym (no_sign word c.digits) ∙ sign))
  where
    never : false ≡ true → ⊥
    never e = cc
