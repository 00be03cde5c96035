-- Entries are read as they were written.
use Rattle.std.proofs.Common.{◌≡◌, ◌≢◌, ℕ, ◌+◌, ◌^◌, ◌<◌, ◌≤◌, List, ◌++◌, length, take, drop, refl, sym, ap, ap₂, ◌∙◌, arith, append_assoc, length-append}
use Rattle.std.specs.Int.{w16, to_be_bytes, from_be_bytes}
use Rattle.std.proofs.lemmas.List.{drop_at, take_at, drop-drop, length-take-le, length-drop, take-append-drop}
use Rattle.gx_bytes.specs.Parts.{overwritten}
use Rattle.gx_bytes.proofs.NumberLemmas.{from_be_bytes-front_2, same_front_2}
use Rattle.gx_bytes.proofs.PartLemmas.{overwritten-overwritten}
use Rattle.gx_bytes.proofs.RecordLemmas.{IsFormat}
use Rattle.gx_slots.specs.Entries.{Entry, IsFit, entry_bytes, entry_len, first_entry}

pub entry_parts : (entry : Entry)
    → entry_bytes entry
    ≡ to_be_bytes w16 (length entry.key)
    ++ (to_be_bytes w16 (length entry.body) ++ (entry.key ++ entry.body))
unfolding entry_bytes
entry_parts entry = refl

pub length-entry_bytes : (entry : Entry) → length (entry_bytes entry) ≡ entry_len entry
unfolding entry_bytes
length-entry_bytes entry = omega (arith, length-append entry.key entry.body)

-- two lengths, a key, a body and a tail
pub written_parts : (entry : Entry) (tail : List ℕ)
    → entry_bytes entry ++ tail
    ≡ to_be_bytes w16 (length entry.key)
    ++ (to_be_bytes w16 (length entry.body) ++ (entry.key ++ (entry.body ++ tail)))
unfolding entry_bytes
written_parts entry tail =
    ap (λ (xs : List ℕ). to_be_bytes w16 (length entry.key)
    ++ (to_be_bytes w16 (length entry.body) ++ xs)) (append_assoc entry.key entry.body tail)

-- an entry that is written is read as it was
pub first_entry-written : (entry : Entry) (tail : List ℕ) → IsFit entry
    → first_entry (entry_bytes entry ++ tail) ≡ entry
unfolding first_entry
first_entry-written entry tail fit =
    let key = entry.key in
    let body = entry.body in
    let all =
    to_be_bytes w16 (length key) ++ (to_be_bytes w16 (length body) ++ (key ++ (body ++ tail))) in
    let key_len : from_be_bytes w16 all ≡ length key = from_be_bytes-front_2 (length key)
    (to_be_bytes w16 (length body) ++ (key ++ (body ++ tail))) (omega (arith, fit.key)) in
    let body_len : from_be_bytes w16 (drop 2 all) ≡ length body =
    from_be_bytes-front_2 (length body) (key ++ (body ++ tail)) (omega (arith, fit.whole)) in
    let key_is : take (from_be_bytes w16 all) (drop 4 all) ≡ key =
    ap (λ (n : ℕ). take n (drop 4 all)) key_len ∙ take_at key (body ++ tail) (length key) refl in
    let behind : drop (4 + from_be_bytes w16 all) all ≡ body ++ tail =
    ap (λ (n : ℕ). drop (4 + n) all) key_len ∙ sym (drop-drop (length key) 4 all)
    ∙ drop_at key (body ++ tail) (length key) refl in
    let body_is : take (from_be_bytes w16 (drop 2 all)) (drop (4 + from_be_bytes w16 all) all)
    ≡ body =
    ap₂ (λ (n : ℕ) (xs : List ℕ). take n xs) body_len behind
    ∙ take_at body tail (length body) refl in
    ap first_entry (written_parts entry tail)
    ∙ ap₂ (λ (k b : List ℕ). record { key = k; body = b }) key_is body_is

-- the lengths that an entry begins with are its own
pub lengths_written : (entry : Entry) (rest bytes tail : List ℕ) (key_len body_len : ℕ)
    → bytes ≡ to_be_bytes w16 key_len ++ (to_be_bytes w16 body_len ++ tail) → key_len < 2 ^ 16
    → body_len < 2 ^ 16
    → IsFit entry → bytes ≡ entry_bytes entry ++ rest
    → (key_len ≡ length entry.key) × (body_len ≡ length entry.body)
    × (tail ≡ entry.key ++ (entry.body ++ rest))
lengths_written entry rest bytes tail key_len body_len is key_fits body_fits fit begins =
    let key = entry.key in
    let body = entry.body in
    let behind = to_be_bytes w16 (length body) ++ (key ++ (body ++ rest)) in
    let one = same_front_2 key_len (length key) (to_be_bytes w16 body_len ++ tail) behind key_fits
    (omega (arith, fit.key)) (sym is ∙ begins ∙ written_parts entry rest) in
    let two = same_front_2 body_len (length body) tail (key ++ (body ++ rest)) body_fits
    (omega (arith, fit.whole)) one.1 in
    (one.0, two.0, two.1)

-- bytes too short for the lengths begin with no entry
pub none_short : (bytes : List ℕ) → length bytes < 4 → (entry : Entry) (rest : List ℕ) → IsFit entry
    → bytes ≢ entry_bytes entry ++ rest
none_short bytes short entry rest fit begins =
    let len = ap length begins ∙ length-append (entry_bytes entry) rest in
    absurd (omega (arith, len, length-entry_bytes entry))

-- the key and the body that stand behind their lengths are an entry
pub entry_split : (bytes tail key middle body rest : List ℕ) (key_len body_len : ℕ)
    → bytes ≡ to_be_bytes w16 key_len ++ (to_be_bytes w16 body_len ++ tail)
    → key_len ≤ 400 → key_len + body_len ≤ 1000 → key_len + body_len ≤ length tail
    → key ≡ take key_len tail → middle ≡ drop key_len tail → body ≡ take body_len middle
    → rest ≡ drop body_len middle
    → IsFit (record { key = key; body = body })
    × (bytes ≡ entry_bytes (record { key = key; body = body }) ++ rest)
entry_split bytes tail key middle body rest key_len body_len is key_fits fits within key_is
    middle_is body_is rest_is =
    let key_size : length key ≡ key_len =
    ap length key_is ∙ length-take-le key_len tail (omega arith) in
    let middle_size : length middle + key_len ≡ length tail =
    omega (arith, ap length middle_is, length-drop key_len tail) in
    let body_size : length body ≡ body_len =
    ap length body_is ∙ length-take-le body_len middle (omega arith) in
    let whole : key ++ (body ++ rest) ≡ tail =
    ap₂ (λ (xs ys : List ℕ). xs ++ ys) key_is (ap₂ (λ (xs ys : List ℕ). xs ++ ys) body_is rest_is
    ∙ take-append-drop body_len middle ∙ middle_is) ∙ take-append-drop key_len tail in
    let lengths : to_be_bytes w16 key_len ++ (to_be_bytes w16 body_len ++ tail) ≡ to_be_bytes w16
    (length key)
    ++ (to_be_bytes w16 (length body) ++ (key ++ (body ++ rest))) =
    ap₂ (λ (k b : ℕ). to_be_bytes w16 k ++ (to_be_bytes w16 b ++ tail)) (sym key_size)
    (sym body_size)
    ∙ ap (λ (xs : List ℕ). to_be_bytes w16 (length key) ++ (to_be_bytes w16 (length body) ++ xs))
    (sym whole) in (
      record { key = omega arith; whole = omega arith },
      is ∙ lengths ∙ sym (written_parts (record { key = key; body = body }) rest),
    )

-- the four parts of an entry, each written behind the one before it, are the entry
pub entry_written : (bytes : List ℕ) (at : ℕ) (entry : Entry) (one two three four : List ℕ)
    → at + entry_len entry ≤ length bytes
    → one ≡ overwritten bytes at (to_be_bytes w16 (length entry.key))
    → two ≡ overwritten one (at + 2) (to_be_bytes w16 (length entry.body))
    → three ≡ overwritten two (at + 4) entry.key
    → four ≡ overwritten three (at + 4 + length entry.key) entry.body
    → four ≡ overwritten bytes at (entry_bytes entry)
entry_written bytes at entry one two three four room one_is two_is three_is four_is =
    let key = entry.key in
    let body = entry.body in
    let key_len = to_be_bytes w16 (length key) in
    let lengths = key_len ++ to_be_bytes w16 (length body) in
    let two_at : two ≡ overwritten bytes at lengths =
    two_is ∙ ap (λ (b : List ℕ). overwritten b (at + 2) (to_be_bytes w16 (length body))) one_is
    ∙ overwritten-overwritten bytes at (at + 2) key_len (to_be_bytes w16 (length body)) refl
    (omega arith) in
    let three_at : three ≡ overwritten bytes at (lengths ++ key) =
    three_is ∙ ap (λ (b : List ℕ). overwritten b (at + 4) key) two_at
    ∙ overwritten-overwritten bytes at (at + 4) lengths key refl (omega arith) in
    let four_at : four ≡ overwritten bytes at ((lengths ++ key) ++ body) =
    four_is ∙ ap (λ (b : List ℕ). overwritten b (at + 4 + length key) body) three_at
    ∙ overwritten-overwritten bytes at (at + 4 + length key) (lengths ++ key) body
    (omega (arith, length-append lengths key)) (omega arith) in
    four_at ∙ ap (overwritten bytes at) (append_assoc lengths key body ∙ sym (entry_parts entry))

-- entries are a format of records
pub entry_format : IsFormat entry_bytes first_entry IsFit entry_len
entry_format = record { reads = first_entry-written; sizes = length-entry_bytes }
