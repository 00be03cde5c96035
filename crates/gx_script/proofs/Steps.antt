-- Steps of reading that did not fail.
use Rattle.std.proofs.Common.{◌≡◌, ◌<◌, Bool, true, false, cond, List, [], ◌∷◌, length, Result, Ok, Err, refl, ap, ◌∙◌, arith}
use Rattle.gx_commands.specs.declared.command.LineWhy.{LineWhy}
use Rattle.gx_commands.specs.Words.{Word}
use Rattle.gx_script.specs.Reading.{◌>>=◌, met, want}

abbrev pub done : {A : Type 0} → A → Result A LineWhy
done x = Ok x

pub ok_is : {A : Type 0} (x y : A) → done x ≡ done y → x ≡ y
ok_is x y e = cc

pub bind_ok : {A B : Type 0} (r : Result A LineWhy) (f : A → Result B LineWhy) (y : B)
    → (r >>= f) ≡ Ok y → (x : A) × (r ≡ Ok x) × (f x ≡ Ok y)
bind_ok (Ok x) f y e = (x, refl, e)
bind_ok (Err d) f y e = absurd cc

-- a test that did not fail
pub test_ok : {A : Type 0} (b : Bool) (reason : LineWhy) (r : Result A LineWhy) (y : A)
    → cond b (Err reason) r ≡ Ok y → (b ≡ false) × (r ≡ Ok y)
test_ok true reason r y e = absurd cc
test_ok false reason r y e = (refl, e)

-- a test that held
pub held_ok : {A : Type 0} (b : Bool) (r : Result A LineWhy) (reason : LineWhy) (y : A)
    → cond b r (Err reason) ≡ Ok y → (b ≡ true) × (r ≡ Ok y)
held_ok true r reason y e = (refl, e)
held_ok false r reason y e = absurd cc

met_ok : {A : Type 0} (r : Result A LineWhy) (rest : List Word) (y : A × List Word)
    → met r rest ≡ Ok y → (r ≡ Ok y.0) × (rest ≡ y.1)
met_ok (Err reason) rest y e = absurd cc
met_ok (Ok x) rest y e = let p = ok_is (x, rest) y e in (ap (λ z. Ok z.0) p, ap (λ z. z.1) p)

-- the word that was wanted
pub record Wanted {A : Type 0} (meaning : Word → Result A LineWhy) (words : List Word)
    (y : A × List Word) : Type 0 where
  pub word : Word
  pub first : words ≡ word ∷ y.1
  pub is : meaning word ≡ Ok y.0

pub want_ok : {A : Type 0} (meaning : Word → Result A LineWhy) (words : List Word)
    (y : A × List Word) → want meaning words ≡ Ok y → Wanted meaning words y
want_ok meaning [] y e = absurd cc
want_ok meaning (w ∷ ws) y e = let m = met_ok (meaning w) ws y e in
    record { word = w; first = ap (λ (vs : List Word). w ∷ vs) m.1; is = m.0 }

pub want_shorter : {A : Type 0} (meaning : Word → Result A LineWhy) (words : List Word)
    (y : A × List Word) → want meaning words ≡ Ok y → length y.1 < length words
want_shorter meaning words y e = let w = want_ok meaning words y e in
    omega (arith, ap length w.first)

pub bind_is : {A B : Type 0} (r : Result A LineWhy) (f : A → Result B LineWhy) (x : A)
    (y : Result B LineWhy) → r ≡ Ok x → f x ≡ y → (r >>= f) ≡ y
bind_is r f x y e h = ap (λ s. s >>= f) e ∙ h
