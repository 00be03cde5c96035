-- Branches are read as they were written.
use Rattle.std.proofs.Common.{◌≡◌, ◌≢◌, ℕ, ◌+◌, ◌^◌, ◌<◌, ◌≤◌, List, ◌++◌, length, take, drop, refl, sym, ap, ap₂, ◌∙◌, arith, append_assoc, length-append}
use Rattle.std.specs.Int.{w16, w32, to_be_bytes, from_be_bytes}
use Rattle.std.proofs.lemmas.List.{drop_at, take_at, drop-drop, length-take-le}
use Rattle.gx_bytes.specs.Parts.{overwritten}
use Rattle.gx_bytes.proofs.NumberLemmas.{from_be_bytes-front_2, from_be_bytes-front_4, same_front_2, cut_behind}
use Rattle.gx_bytes.proofs.PartLemmas.{overwritten-overwritten}
use Rattle.gx_bytes.proofs.RecordLemmas.{IsFormat}
use Rattle.gx_bnode.specs.Branches.{Branch, IsFit, branch_bytes, branch_len, first_branch}

branch_parts : (branch : Branch)
    → branch_bytes branch
    ≡ to_be_bytes w16 (length branch.separator)
    ++ (branch.separator ++ to_be_bytes w32 branch.child)
unfolding branch_bytes
branch_parts branch = refl

pub length-branch_bytes : (branch : Branch) → length (branch_bytes branch) ≡ branch_len branch
unfolding branch_bytes
length-branch_bytes branch =
    omega (arith, length-append branch.separator (to_be_bytes w32 branch.child))

-- a length, a separator, a child and a tail
pub written_parts : (branch : Branch) (tail : List ℕ)
    → branch_bytes branch ++ tail
    ≡ to_be_bytes w16 (length branch.separator)
    ++ (branch.separator ++ (to_be_bytes w32 branch.child ++ tail))
unfolding branch_bytes
written_parts branch tail =
    ap (λ (xs : List ℕ). to_be_bytes w16 (length branch.separator) ++ xs)
    (append_assoc branch.separator (to_be_bytes w32 branch.child) tail)

-- a branch that is written is read as it was
pub first_branch-written : (branch : Branch) (tail : List ℕ) → IsFit branch
    → first_branch (branch_bytes branch ++ tail) ≡ branch
unfolding first_branch
first_branch-written branch tail fit =
    let separator = branch.separator in
    let behind = to_be_bytes w32 branch.child ++ tail in
    let all = to_be_bytes w16 (length separator) ++ (separator ++ behind) in
    let len : from_be_bytes w16 all ≡ length separator =
    from_be_bytes-front_2 (length separator) (separator ++ behind) (omega (arith, fit.separator)) in
    let separator_is : take (from_be_bytes w16 all) (drop 2 all) ≡ separator =
    ap (λ (n : ℕ). take n (drop 2 all)) len ∙ take_at separator behind (length separator) refl in
    let behind_is : drop (2 + from_be_bytes w16 all) all ≡ behind =
    ap (λ (n : ℕ). drop (2 + n) all) len ∙ sym (drop-drop (length separator) 2 all)
    ∙ drop_at separator behind (length separator) refl in
    let child_is : from_be_bytes w32 (drop (2 + from_be_bytes w16 all) all) ≡ branch.child =
    ap (from_be_bytes w32) behind_is ∙ from_be_bytes-front_4 branch.child tail fit.child in
    ap first_branch (written_parts branch tail)
    ∙ ap₂ (λ (s : List ℕ) (c : ℕ). record { separator = s; child = c }) separator_is child_is

-- branches are a format of records
pub branch_format : IsFormat branch_bytes first_branch IsFit branch_len
branch_format = record { reads = first_branch-written; sizes = length-branch_bytes }

-- the length that a branch begins with is its own
pub length_written : (branch : Branch) (rest bytes tail : List ℕ) (len : ℕ)
    → bytes ≡ to_be_bytes w16 len ++ tail → len < 2 ^ 16 → IsFit branch
    → bytes ≡ branch_bytes branch ++ rest
    → (len ≡ length branch.separator)
    × (tail ≡ branch.separator ++ (to_be_bytes w32 branch.child ++ rest))
length_written branch rest bytes tail len is fits fit begins =
    let behind = branch.separator ++ (to_be_bytes w32 branch.child ++ rest) in
    same_front_2 len (length branch.separator) tail behind fits (omega (arith, fit.separator))
    (sym is ∙ begins ∙ written_parts branch rest)

-- bytes too short for a length begin with no branch
pub none_short : (bytes : List ℕ) → length bytes < 2 → (branch : Branch) (rest : List ℕ)
    → IsFit branch → bytes ≢ branch_bytes branch ++ rest
none_short bytes short branch rest fit begins =
    let len = ap length begins ∙ length-append (branch_bytes branch) rest in
    absurd (omega (arith, len, length-branch_bytes branch))

-- nor do those whose bytes behind the length are too few, or whose length is too great
pub none_unfit : (bytes tail : List ℕ) (len : ℕ) → bytes ≡ to_be_bytes w16 len ++ tail
    → len < 2 ^ 16 → (len ≤ 400 → length tail < len + 4) → (branch : Branch) (rest : List ℕ)
    → IsFit branch → bytes ≢ branch_bytes branch ++ rest
none_unfit bytes tail len is fits few branch rest fit begins =
    let own = length_written branch rest bytes tail len is fits fit begins in
    let behind : length tail ≡ length branch.separator + (4 + length rest) =
    ap length own.1 ∙ length-append branch.separator (to_be_bytes w32 branch.child ++ rest)
    ∙ ap (λ (n : ℕ). length branch.separator + n)
    (length-append (to_be_bytes w32 branch.child) rest) in
    absurd (omega (arith, own.0, behind, few (omega (arith, own.0, fit.separator))))

-- the separator and the child that stand behind a length are a branch
pub branch_split : (bytes tail separator behind rest : List ℕ) (len child : ℕ)
    → bytes ≡ to_be_bytes w16 len ++ tail → len ≤ 400 → len ≤ length tail → child < 2 ^ 32
    → separator ≡ take len tail → behind ≡ drop len tail → behind ≡ to_be_bytes w32 child ++ rest
    → IsFit (record { separator = separator; child = child })
    × (bytes ≡ branch_bytes (record { separator = separator; child = child }) ++ rest)
branch_split bytes tail separator behind rest len child is len_fits within child_fits separator_is
    behind_is rest_is =
    let size : length separator ≡ len = ap length separator_is ∙ length-take-le len tail within in
    let top = cut_behind tail separator (to_be_bytes w32 child ++ rest) len within separator_is
    (sym rest_is ∙ behind_is) in (
      record { separator = omega arith; child = child_fits },
      is ∙ top ∙ sym (written_parts (record { separator = separator; child = child }) rest),
    )

-- the three parts of a branch, each written behind the one before it, are the branch
pub branch_written : (bytes : List ℕ) (at : ℕ) (branch : Branch) (one two three : List ℕ)
    → at + (6 + length branch.separator) ≤ length bytes
    → one ≡ overwritten bytes at (to_be_bytes w16 (length branch.separator))
    → two ≡ overwritten one (at + 2) branch.separator
    → three ≡ overwritten two (at + 2 + length branch.separator) (to_be_bytes w32 branch.child)
    → three ≡ overwritten bytes at (branch_bytes branch)
branch_written bytes at branch one two three room one_is two_is three_is =
    let separator = branch.separator in
    let len = to_be_bytes w16 (length separator) in
    let child = to_be_bytes w32 branch.child in
    let two_at : two ≡ overwritten bytes at (len ++ separator) =
    two_is ∙ ap (λ (b : List ℕ). overwritten b (at + 2) separator) one_is
    ∙ overwritten-overwritten bytes at (at + 2) len separator refl (omega arith) in
    let three_at : three ≡ overwritten bytes at ((len ++ separator) ++ child) =
    three_is ∙ ap (λ (b : List ℕ). overwritten b (at + 2 + length separator) child) two_at
    ∙ overwritten-overwritten bytes at (at + 2 + length separator) (len ++ separator) child
    (omega (arith, length-append len separator)) (omega arith) in
    three_at
    ∙ ap (overwritten bytes at) (append_assoc len separator child ∙ sym (branch_parts branch))
