-- Separators are read as they were written.
use Rattle.std.proofs.Common.{◌≡◌, ◌≢◌, ℕ, ◌+◌, ◌^◌, ◌<◌, ◌≤◌, List, ◌++◌, length, take, drop, refl, sym, ap, ◌∙◌, arith, length-append}
use Rattle.std.specs.Int.{w16, to_be_bytes, from_be_bytes}
use Rattle.std.proofs.lemmas.List.{take_at, length-take-le}
use Rattle.gx_bytes.proofs.NumberLemmas.{from_be_bytes-front_2, same_front_2, cut_behind}
use Rattle.gx_bytes.proofs.RecordLemmas.{IsFormat}
use Rattle.gx_isam_index.specs.Index.{IsFitSeparator, separator_bytes, first_separator}

-- how many bytes a separator takes
abbrev pub separator_len : List ℕ → ℕ
separator_len separator = 2 + length separator

pub length-separator_bytes : (separator : List ℕ)
    → length (separator_bytes separator) ≡ separator_len separator
unfolding separator_bytes
length-separator_bytes separator = omega arith

-- a length and a separator
pub separator_parts : (separator : List ℕ)
    → separator_bytes separator ≡ to_be_bytes w16 (length separator) ++ separator
unfolding separator_bytes
separator_parts separator = refl

-- a length, a separator and a tail
pub written_parts : (separator tail : List ℕ)
    → separator_bytes separator ++ tail ≡ to_be_bytes w16 (length separator) ++ (separator ++ tail)
unfolding separator_bytes
written_parts separator tail = refl

-- a separator that is written is read as it was
pub first_separator-written : (separator tail : List ℕ) → IsFitSeparator separator
    → first_separator (separator_bytes separator ++ tail) ≡ separator
unfolding first_separator
first_separator-written separator tail fit =
    let all = to_be_bytes w16 (length separator) ++ (separator ++ tail) in
    let len : from_be_bytes w16 all ≡ length separator =
    from_be_bytes-front_2 (length separator) (separator ++ tail) fit.short in
    ap first_separator (written_parts separator tail) ∙ ap (λ (n : ℕ). take n (drop 2 all)) len
    ∙ take_at separator tail (length separator) refl

-- separators are a format of records
pub separator_format : IsFormat separator_bytes first_separator IsFitSeparator separator_len
separator_format = record { reads = first_separator-written; sizes = length-separator_bytes }

-- bytes too short for a length begin with no separator
pub none_short : (bytes : List ℕ) → length bytes < 2 → (separator rest : List ℕ)
    → IsFitSeparator separator
    → bytes ≢ separator_bytes separator ++ rest
none_short bytes short separator rest fit begins =
    let len = ap length begins ∙ length-append (separator_bytes separator) rest in
    absurd (omega (arith, len, length-separator_bytes separator))

-- nor do those whose bytes behind the length are too few
pub none_unfit : (bytes tail : List ℕ) (len : ℕ) → bytes ≡ to_be_bytes w16 len ++ tail
    → len < 2 ^ 16 → length tail < len → (separator rest : List ℕ) → IsFitSeparator separator
    → bytes ≢ separator_bytes separator ++ rest
none_unfit bytes tail len is fits few separator rest fit begins =
    let own = same_front_2 len (length separator) tail (separator ++ rest) fits fit.short
    (sym is ∙ begins ∙ written_parts separator rest) in
    let size : length tail ≡ length separator + length rest =
    ap length own.1 ∙ length-append separator rest in
    absurd (omega (arith, own.0, size, few))

-- the bytes that stand behind a length are a separator
pub separator_split : (bytes tail separator behind : List ℕ) (len : ℕ)
    → bytes ≡ to_be_bytes w16 len ++ tail → len < 2 ^ 16 → len ≤ length tail
    → separator ≡ take len tail → behind ≡ drop len tail
    → IsFitSeparator separator × (bytes ≡ separator_bytes separator ++ behind)
separator_split bytes tail separator behind len is fits within separator_is behind_is =
    let size : length separator ≡ len = ap length separator_is ∙ length-take-le len tail within in
    let top = cut_behind tail separator behind len within separator_is behind_is in
    (record { short = omega (arith, size, fits) }, is ∙ top ∙ sym (written_parts separator behind))
