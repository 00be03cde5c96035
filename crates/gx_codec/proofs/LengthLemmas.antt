-- The values behind the lengths of a body.
use Rattle.std.proofs.Common.{[], ◌≡◌, ℕ, zero, suc, ◌+◌, ◌*◌, ◌≤◌, List, ◌∷◌, ◌++◌, length, drop, refl, ap, subst, ◌∙◌, arith, append-nil, length-append}
use Rattle.std.proofs.Math.Seq.{drop-append-add}
use Rattle.std.specs.Int.{w16, to_be_bytes}
use Rattle.gx_values.specs.declared.values.Value.TheVariants as value
use Rattle.gx_values.specs.declared.records.Rec.{Rec}
use Rattle.gx_actual.specs.Bodies.{body_of}
use Rattle.gx_codec.specs.Stored.{wrapped}

length_be : (w : ℕ) → length (to_be_bytes w16 w) ≡ 2
length_be w = refl

-- so many bytes stand before the values
pub record IsBehind (body : List ℕ) (front : ℕ) (values : List ℕ) : Type 0 where
  pub long : front ≤ length body
  pub is : drop front body ≡ values

behind_more : (body values : List ℕ) (front : ℕ) → IsBehind body front values
    → IsBehind (body_of (value.Bytes body ∷ [])) (front + 2) values
behind_more body values front is =
    let two = to_be_bytes w16 (length body) in
    let all : body_of (value.Bytes body ∷ []) ≡ two ++ body = append-nil (two ++ body) in
    record {
      long = omega (arith, is.long, ap length all, length-append two body, length_be (length body));
      is = ap (drop (front + 2)) all
          ∙ ap (λ n. drop n (two ++ body)) (let y : front + 2 ≡ length two + front =
          omega (arith, length_be (length body)) in y) ∙ drop-append-add two body front ∙ is.is;
    }

pub values_behind : (n : ℕ) (r : Rec)
    → IsBehind (body_of (wrapped n r).fields) (2 * n) (body_of r.fields)
values_behind zero r = record { long = omega arith; is = refl }
values_behind (suc n) r =
    subst (λ k. IsBehind (body_of (wrapped (suc n) r).fields) k (body_of r.fields))
    (let y : 2 * n + 2 ≡ 2 * suc n = omega arith in y)
    (behind_more (body_of (wrapped n r).fields) (body_of r.fields) (2 * n) (values_behind n r))
