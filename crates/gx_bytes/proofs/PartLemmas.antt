-- What stands in bytes after a part was written over, or moved.
use Rattle.std.proofs.Common.{◌≡◌, ℕ, suc, ◌+◌, ◌-◌, ◌≤◌, List, [], ◌∷◌, ◌++◌, length, take, drop, refl, sym, ap, ap₂, ◌∙◌, arith, append_assoc, length-append}
use Rattle.std.proofs.lemmas.List.{drop_at, take_at, drop-drop, length-take-le}
use Rattle.std.specs.List.{copy_within}
use Rattle.gx_bytes.specs.Parts.{overwritten}

-- a front that ends within the second of two lists
pub take-append_add : (xs ys : List ℕ) (n k : ℕ) → length xs ≡ n
    → take (n + k) (xs ++ ys) ≡ xs ++ take k ys
take-append_add [] ys n k len = ap (λ (m : ℕ). take m ys) (let e : n + k ≡ k = omega arith in e)
take-append_add (x ∷ xs) ys n k len =
    let more : n + k ≡ suc (length xs + k) = omega arith in
    ap (λ (m : ℕ). take m (x ∷ xs ++ ys)) more
    ∙ ap (λ zs. x ∷ zs) (take-append_add xs ys (length xs) k refl)

-- a part as long as the one that stood there
pub overwritten-same : (front old new back : List ℕ) (at : ℕ) → length front ≡ at
    → length old ≡ length new → overwritten (front ++ (old ++ back)) at new ≡ front ++ (new ++ back)
overwritten-same front old new back at here len =
    ap₂ (λ (a b : List ℕ). a ++ (new ++ b)) (take_at front (old ++ back) at here)
    (sym (drop-drop (length new) at (front ++ (old ++ back)))
    ∙ ap (drop (length new)) (drop_at front (old ++ back) at here) ∙ drop_at old back _ len)

-- bytes moved up by k, which leaves k bytes free before them
pub moved_up : (front part back : List ℕ) (at k : ℕ) → length front ≡ at → k ≤ length back
    → copy_within (front ++ (part ++ back)) at (at + length part) (at + k)
    ≡ front ++ (take k (part ++ back) ++ (part ++ drop k back))
moved_up front part back at k here room =
    let all = front ++ (part ++ back) in
    let moved =
    ap₂ (λ (n : ℕ) (xs : List ℕ). take n xs)
    (let n : (at + length part) - at ≡ length part = omega arith in n)
    (drop_at front (part ++ back) at here) ∙ take_at part back _ refl in
    let kept = take-append_add front (part ++ back) at k here in
    let behind =
    ap (λ (n : ℕ). drop n all)
    (let n : (at + k) + ((at + length part) - at) ≡ at + (length part + k) = omega arith in n)
    ∙ sym (drop-drop (length part + k) at all)
    ∙ ap (drop (length part + k)) (drop_at front (part ++ back) at here)
    ∙ sym (drop-drop k (length part) (part ++ back)) ∙ ap (drop k) (drop_at part back _ refl) in
    ap₂ (λ (xs ys : List ℕ). xs ++ ys ++ drop ((at + k) + ((at + length part) - at)) all) kept moved
    ∙ ap (λ (xs : List ℕ). ((front ++ take k (part ++ back)) ++ part) ++ xs) behind
    ∙ append_assoc (front ++ take k (part ++ back)) part (drop k back)
    ∙ append_assoc front (take k (part ++ back)) (part ++ drop k back)

-- bytes moved down over the part before them
pub moved_down : (front gone part back : List ℕ) (at : ℕ) → length front ≡ at
    → copy_within (front ++ (gone ++ (part ++ back))) (at + length gone)
    (at + length gone + length part) at
    ≡ front ++ (part ++ drop (length part) (gone ++ (part ++ back)))
moved_down front gone part back at here =
    let all = front ++ (gone ++ (part ++ back)) in
    let len : (at + length gone + length part) - (at + length gone) ≡ length part = omega arith in
    let source =
    sym (drop-drop (length gone) at all)
    ∙ ap (drop (length gone)) (drop_at front (gone ++ (part ++ back)) at here)
    ∙ drop_at gone (part ++ back) _ refl in
    let moved = ap₂ (λ (n : ℕ) (xs : List ℕ). take n xs) len source ∙ take_at part back _ refl in
    let behind =
    ap (λ (n : ℕ). drop (at + n) all) len ∙ sym (drop-drop (length part) at all)
    ∙ ap (drop (length part)) (drop_at front (gone ++ (part ++ back)) at here) in
    ap₂ (λ (xs ys : List ℕ). xs ++ ys
    ++ drop (at + ((at + length gone + length part) - (at + length gone))) all)
    (take_at front (gone ++ (part ++ back)) at here) moved
    ∙ ap (λ (xs : List ℕ). (front ++ part) ++ xs) behind
    ∙ append_assoc front part (drop (length part) (gone ++ (part ++ back)))

-- a part written behind the part before it
pub overwritten-overwritten : (bytes : List ℕ) (at next : ℕ) (part more : List ℕ)
    → next ≡ at + length part → next + length more ≤ length bytes
    → overwritten (overwritten bytes at part) next more ≡ overwritten bytes at (part ++ more)
overwritten-overwritten bytes at next part more here room =
    let front = take at bytes in
    let back = drop (at + length part) bytes in
    let front_len : length front ≡ at = length-take-le at bytes (omega arith) in
    let taken : take next (front ++ (part ++ back)) ≡ front ++ part =
    ap (λ (n : ℕ). take n (front ++ (part ++ back))) here
    ∙ take-append_add front (part ++ back) at (length part) front_len
    ∙ ap (λ (xs : List ℕ). front ++ xs) (take_at part back (length part) refl) in
    let dropped : drop (next + length more) (front ++ (part ++ back)) ≡ drop (length more) back =
    ap (λ (n : ℕ). drop (n + length more) (front ++ (part ++ back))) here
    ∙ sym (drop-drop (length more) (at + length part) (front ++ (part ++ back)))
    ∙ ap (drop (length more))
    (sym (drop-drop (length part) at (front ++ (part ++ back)))
    ∙ ap (drop (length part)) (drop_at front (part ++ back) at front_len)
    ∙ drop_at part back (length part) refl) in
    let behind : drop (length more) back ≡ drop (at + length (part ++ more)) bytes =
    drop-drop (length more) (at + length part) bytes
    ∙ ap (λ (n : ℕ). drop n bytes)
    (let n : at + length part + length more ≡ at + length (part ++ more) =
    omega (arith, length-append part more) in n) in
    ap₂ (λ (xs ys : List ℕ). xs ++ (more ++ ys)) taken (dropped ∙ behind)
    ∙ append_assoc front part (more ++ drop (at + length (part ++ more)) bytes)
    ∙ ap (λ (xs : List ℕ). front ++ xs)
    (sym (append_assoc part more (drop (at + length (part ++ more)) bytes)))

-- a part written behind a front
pub overwritten-append : (front back part : List ℕ) (at k : ℕ) → length front ≡ at
    → overwritten (front ++ back) (at + k) part ≡ front ++ overwritten back k part
overwritten-append front back part at k here =
    let behind : drop (at + k + length part) (front ++ back) ≡ drop (k + length part) back =
    ap (λ (n : ℕ). drop n (front ++ back))
    (let n : at + k + length part ≡ at + (k + length part) = omega arith in n)
    ∙ sym (drop-drop (k + length part) at (front ++ back))
    ∙ ap (drop (k + length part)) (drop_at front back at here) in
    ap₂ (λ (xs ys : List ℕ). xs ++ (part ++ ys)) (take-append_add front back at k here) behind
    ∙ append_assoc front (take k back) (part ++ drop (k + length part) back)
