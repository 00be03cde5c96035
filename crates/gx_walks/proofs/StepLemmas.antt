-- How the steps of a walk add up.
use Rattle.std.proofs.Common.{◌≡◌, ◌≤◌, ◌+◌, ◌*◌, ◌<◌, ◌-◌, ◌∷◌, ◌++◌, ◌∙◌, [], ℕ, zero, suc, Bool, true, false, cond, refl, ap, append_assoc, append-nil, List, length, get_or, take, drop, sym, subst, arith}
use Rattle.std.proofs.lemmas.List.{take_all, take_more}
use Rattle.std.proofs.lemmas.Grind.{flat_map-append}
use Rattle.std.specs.Prelude.{filter, flat_map, not, ◌==◌, if◌then◌else◌, is_ok, Result, Ok, Err, OnOk, IfOk}
use Rattle.gx_laws.proofs.NumberLemmas.{equal_from_nat_eq}
use Rattle.gx_commands.specs.declared.command.Find.{Find}
use Rattle.gx_commands.specs.declared.path.Way.{Way}
use Rattle.gx_commands.specs.declared.path.Leg.{Leg}
use Rattle.gx_model.specs.States.{State, Row}
use Rattle.gx_model.specs.Paths.{last_find}
use Rattle.gx_walks.specs.Walks.{linked, all_linked, has_row}

-- the `find` of the last leg
pub last_at : (first : Find) (legs : List Leg) (leg : Leg) (n : ℕ) → n + 1 ≡ length legs
    → leg ≡ get_or legs n leg → leg.find ≡ last_find first legs
last_at first [] leg n many is = absurd (omega arith)
last_at first (l ∷ []) leg zero many is = ap (λ (x : Leg). x.find) is
last_at first (l ∷ m ∷ ms) leg zero many is = absurd (omega arith)
last_at first (l ∷ legs) leg (suc n) many is = last_at l.find legs leg n (omega arith) is

-- the records to which the link leads from one record more
pub linked_more : (s : State) (file : ℕ) (way : Way) (rows : List Row) (i : ℕ) (r : Row)
    → i < length rows → r ≡ get_or rows i r
    → all_linked s file way (take (i + 1) rows)
    ≡ all_linked s file way (take i rows) ++ linked s file way r.0
linked_more s file way rows i r lt is =
    let to = λ (from : Row). linked s file way from.0 in
    ap (flat_map to) (take_more rows i r lt)
    ∙ flat_map-append to (take i rows) (get_or rows i r ∷ [])
    ∙ ap (λ (l : List Row). flat_map to (take i rows) ++ l)
    (append-nil (to (get_or rows i r)) ∙ ap to (sym is))

-- a record whose linked ones were looked up
pub added : (start mid last n pairs one many all cost : ℕ) → n + 1 ≡ many → pairs + one ≡ all
    → mid ≤ start + 2 * (n + pairs) * cost → last ≤ mid + 2 * (one + 1) * cost
    → last ≤ start + 2 * (many + all) * cost
added start mid last n pairs one many all cost d e a b =
    subst (λ (k : ℕ). last ≤ start + 2 * (k + all) * cost) d
    (subst (λ (k : ℕ). last ≤ start + 2 * (n + 1 + k) * cost) e (omega (arith, a, b)))

-- one leg, and then the others
pub joined : (start mid last a m cost : ℕ) → mid ≤ start + 2 * a * cost → last ≤ mid + 2 * m * cost
    → last ≤ start + 2 * (a + m) * cost
joined start mid last a m cost x y = omega (arith, x, y)

-- the first set, and then all legs
pub begun : (start mid last c m cost : ℕ) → mid ≤ start + 2 * (c + 1) * cost
    → last ≤ mid + 2 * m * cost
    → last ≤ start + 2 * (c + m + 1) * cost
begun start mid last c m cost x y = omega (arith, x, y)

-- the first, and those behind it
pub split_first : {A : Type 0} (xs : List A) (x : A) → x ≡ get_or xs 0 x → 1 ≤ length xs
    → xs ≡ x ∷ take (length xs - 1) (drop 1 xs)
split_first [] x is long = absurd (omega (arith, long))
split_first (y ∷ ys) x is long =
    λ i. sym is i ∷ sym (take_all (length (y ∷ ys) - 1) ys (omega arith)) i

-- the walk from one record, and then those from the others
pub one_walked : (now after m rest most cost : ℕ) → now + 2 * (m + rest) * cost ≤ most
    → after ≤ now + 2 * m * cost → after + 2 * rest * cost ≤ most
one_walked now after m rest most cost a b = omega (arith, a, b)

-- a record that passes is kept behind the others, and one that fails isn't
pub row_kept : (test : Row → Bool) (kept now rest : List Row) (r : Row) → test r ≡ true
    → now ≡ kept ++ r ∷ [] → now ++ filter test rest ≡ kept ++ filter test (r ∷ rest)
row_kept test kept now rest r passes is =
    ap (λ (l : List Row). l ++ filter test rest) is
    ∙ append_assoc kept (r ∷ []) (filter test rest)
    ∙ ap (λ b. kept ++ cond b (r ∷ filter test rest) (filter test rest)) (sym passes)

pub row_dropped : (test : Row → Bool) (kept rest : List Row) (r : Row) → test r ≡ false
    → kept ++ filter test rest ≡ kept ++ filter test (r ∷ rest)
row_dropped test kept rest r fails =
    ap (λ b. kept ++ cond b (r ∷ filter test rest) (filter test rest)) (sym fails)

-- whether there is a record
pub some_row : (rows : List Row) (n : ℕ) → n ≡ length rows → not (n == 0) ≡ has_row rows
some_row [] n e = ap (λ (k : ℕ). not (k == 0)) e
some_row (r ∷ rows) n e = go (n == 0) refl
  where
    go : (b : Bool) → (n == 0) ≡ b → not (n == 0) ≡ true
    go true is = let none : n ≡ 0 = equal_from_nat_eq n 0 is in absurd (omega (arith, e, none))
    go false is = ap not is

-- what a push that answers Ok leaves
pub pushed : {T E A : Type 0} (r : Result T E) (x : T) (now more old : List A) → r ≡ Ok x
    → now ≡ (if is_ok r then more else old) → now ≡ more
pushed (Ok y) x now more old is e = e
pushed (Err y) x now more old is e = absurd cc

-- the last, and those before it
pub split_last : {A : Type 0} (xs : List A) (x : A) → x ≡ get_or xs (length xs - 1) x
    → 1 ≤ length xs → xs ≡ take (length xs - 1) xs ++ x ∷ []
split_last {A} xs x is long =
    let whole : length xs - 1 + 1 ≡ length xs = omega (arith, long) in
    sym (take_all (length xs) xs (omega arith))
    ∙ ap (λ (n : ℕ). take n xs) (sym whole)
    ∙ take_more xs (length xs - 1) x (omega (arith, long))
    ∙ ap (λ (y : A). take (length xs - 1) xs ++ y ∷ []) (sym is)

pub on_ok_map : {T E P Q : Type 0} (r : Result T E) → (P → Q) → OnOk r P → OnOk r Q
on_ok_map (Ok x) f p = f p
on_ok_map (Err e) f p = p

pub if_ok_map : {T E : Type 0} {P Q : T → Type 0} (r : Result T E) → ((x : T) → P x → Q x)
    → IfOk r P → IfOk r Q
if_ok_map (Ok x) f p = f x p
if_ok_map (Err e) f p = p

-- what holds on Ok, where it is Ok
pub given_ok : {T E P : Type 0} (r : Result T E) (x : T) → r ≡ Ok x → OnOk r P → P
given_ok (Ok y) x is p = p
given_ok (Err e) x is p = absurd cc
