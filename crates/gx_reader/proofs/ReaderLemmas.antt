-- Bytes more of a script.
use Rattle.std.proofs.Common.{◌≡◌, ◌≢◌, ◌⊎◌, ℕ, zero, suc, ◌+◌, ◌-◌, ◌<◌, ◌≤◌, false, eqb, cond, List, [], ◌∷◌, ◌++◌, length, take, drop, get_or, refl, sym, ap, subst, ◌∙◌, inl, inr, arith, append_assoc, length-append}
use Rattle.std.proofs.lemmas.Bool.{cond-true, cond-false, eqb-true, ne_eqb, cases_Bool}
use Rattle.std.proofs.lemmas.List.{append-nil, length-take, take_all}
use Rattle.std.proofs.lemmas.Slice.{take-put_mid}
use borrow.Rule.Slice.PartMut.{put_mid}
use Rattle.std.proofs.Math.Seq.{take-append_seam, take-append-add, get_or-append_seam, drop-append-add}
use Rattle.gx_commands.specs.declared.command.LineWhy.TheVariants as why
use Rattle.gx_commands.specs.Lines.{with_line, without_cr, stopped, lines_within, no_lines}
use Rattle.gx_commands.proofs.LineLaws.{NoLf, FrontLine, first_line, long_line, long_script, lines-nil, no_line, one_line}
use Rattle.gx_reader.specs.declared.reader.LineReader.{LineReader}
use Rattle.gx_reader.specs.declared.reader.Fed.{Fed}
use Rattle.gx_reader.specs.declared.reader.Fed.TheVariants as fed
use Rattle.gx_commands.specs.declared.lines.TheConstants.{LONGEST_LINE}
use Rattle.gx_reader.specs.Reader.{meant_of, meant, begun, left_of, IsFed, PassesLimit}

-- the bytes that the script may have, of an unended line and what comes
seen : (left : ℕ) (x rest : List ℕ) → take (length x + left) (x ++ rest) ≡ x ++ take left rest
seen left x rest = take-append-add x rest left

-- an LF ends the line
pub line_fed : (left : ℕ) (x rest : List ℕ) → NoLf x → length x ≤ 4096 → 0 < left
    → meant_of left x (10 ∷ rest) ≡ with_line (without_cr x) (meant_of (left - 1) [] rest)
line_fed left x rest none short some =
    let most = length x + left in
    let script = x ++ 10 ∷ rest in
    let one : take left (10 ∷ rest) ≡ 10 ∷ take (left - 1) rest =
    ap (λ (n : ℕ). take n (10 ∷ rest)) (let e : left ≡ suc (left - 1) = omega arith in e) in
    let is : take most script ≡ x ++ 10 ∷ take (left - 1) rest =
    seen left x (10 ∷ rest) ∙ ap (λ (l : List ℕ). x ++ l) one in
    let front_is : take (length x) (take most script) ≡ x =
    ap (λ (l : List ℕ). take (length x) l) is ∙ take-append_seam x (10 ∷ take (left - 1) rest) in
    let long : length (take most script) ≡ length x + (1 + length (take (left - 1) rest)) =
    omega (
      arith,
      ap (λ (l : List ℕ). length l) is,
      length-append x (10 ∷ take (left - 1) rest),
    ) in
    let front : FrontLine most script (length x) = record {
      before = subst NoLf (sym front_is) none;
      within = omega (arith, long);
      ended = λ lt. ap (λ (l : List ℕ). get_or l (length x) 0) is
          ∙ get_or-append_seam x 10 (take (left - 1) rest) 0;
    } in
    first_line most script (length x) front short (omega (arith, long))
    ∙ (λ i. with_line (without_cr (front_is i))
    (lines_within ((let e : most - (length x + 1) ≡ 0 + (left - 1) = omega (arith, some) in e) i)
    (drop-append-add x (10 ∷ rest) 1 i)))

-- bytes go on with it
pub more_fed : (left : ℕ) (x run rest : List ℕ) → length run ≤ left
    → meant_of left x (run ++ rest) ≡ meant_of (left - length run) (x ++ run) rest
more_fed left x run rest room =
    let count : length x + left ≡ length (x ++ run) + (left - length run) =
    omega (arith, length-append x run, room) in
    let same : x ++ (run ++ rest) ≡ (x ++ run) ++ rest = sym (append_assoc x run rest) in
    λ i. lines_within (count i) (same i)

-- where the first LF stands, or the end
abbrev first_lf : List ℕ → ℕ
first_lf [] = 0
first_lf (b ∷ bs) = cond (eqb b 10) 0 (suc (first_lf bs))

record IsFirst (text : List ℕ) (at : ℕ) : Type 0 where
  pub before : NoLf (take at text)
  pub within : at ≤ length text
  pub ended : at < length text → get_or text at 0 ≡ 10

first_parts : (text : List ℕ) → IsFirst text (first_lf text)
first_parts [] =
    record { before = tt; within = omega arith; ended = λ lt. absurd (omega (arith, lt)) }
first_parts (b ∷ bs) = elim (cases_Bool (eqb b 10)) [
  | inl on ↦ subst (λ (at : ℕ). IsFirst (b ∷ bs) at)
      (sym (cond-true (eqb b 10) 0 (suc (first_lf bs)) on))
      (record { before = tt; within = omega arith; ended = λ lt. eqb-true b 10 on })
  | inr off ↦
      let rest = first_parts bs in
      subst (λ (at : ℕ). IsFirst (b ∷ bs) at)
      (sym (cond-false (eqb b 10) 0 (suc (first_lf bs)) off))
      (record {
        before = (off, rest.before);
        within = omega (arith, rest.within);
        ended = λ lt. rest.ended (omega (arith, lt));
      })
]

-- no LF stands in a front
past_front : (x ys : List ℕ) → NoLf x → length x ≤ first_lf (x ++ ys)
past_front [] ys none = omega arith
past_front (b ∷ x) ys none =
    let on : first_lf (b ∷ (x ++ ys)) ≡ suc (first_lf (x ++ ys)) =
    cond-false (eqb b 10) 0 (suc (first_lf (x ++ ys))) none.0 in
    omega (arith, on, past_front x ys none.1)

pub one_more_no_lf : (x : List ℕ) (b : ℕ) → NoLf x → eqb b 10 ≡ false → NoLf (x ++ b ∷ [])
one_more_no_lf [] b none is = (is, tt)
one_more_no_lf (y ∷ x) b none is = (none.0, one_more_no_lf x b none.1 is)

-- byte 4,097 of a line, whatever comes behind it
pub long_fed : (left : ℕ) (x : List ℕ) (b : ℕ) (rest : List ℕ) → NoLf x → 4096 ≤ length x
    → eqb b 10 ≡ false → 0 < left → meant_of left x (b ∷ rest) ≡ stopped why.TooLong
long_fed left x b rest none long other some =
    let most = length x + left in
    let script = x ++ b ∷ rest in
    let one : take left (b ∷ rest) ≡ b ∷ take (left - 1) rest =
    ap (λ (n : ℕ). take n (b ∷ rest)) (let e : left ≡ suc (left - 1) = omega arith in e) in
    let is : take most script ≡ (x ++ b ∷ []) ++ take (left - 1) rest =
    seen left x (b ∷ rest) ∙ ap (λ (l : List ℕ). x ++ l) one
    ∙ sym (append_assoc x (b ∷ []) (take (left - 1) rest)) in
    let at = first_lf (take most script) in
    let p = first_parts (take most script) in
    let past : length (x ++ b ∷ []) ≤ at = subst (λ (l : List ℕ). length (x ++ b ∷ []) ≤ first_lf l)
    (sym is)
    (past_front (x ++ b ∷ []) (take (left - 1) rest) (one_more_no_lf x b none other)) in
    long_line most script at (record { before = p.before; within = p.within; ended = p.ended })
    (omega (arith, past, long, length-append x (b ∷ [])))

-- the byte by which the script is too long
pub past_fed : (x : List ℕ) (b : ℕ) (rest : List ℕ) → NoLf x → length x ≤ 4096
    → meant_of 0 x (b ∷ rest) ≡ stopped why.ScriptTooLong
past_fed x b rest none short =
    let most = length x + 0 in
    let script = x ++ b ∷ rest in
    let is : take most script ≡ x = seen 0 x (b ∷ rest) ∙ append-nil x in
    let size = ap (λ (l : List ℕ). length l) is in
    long_script most script (length x) (record {
      before = subst NoLf (sym (ap (λ (l : List ℕ). take (length x) l) is
          ∙ take_all (length x) x (omega arith))) none;
      within = omega (arith, size);
      ended = λ lt. absurd (omega (arith, lt, size));
    }) short (omega (arith, size))
    (omega (arith, length-append x (b ∷ rest)))

-- the end of the script
module _ (left : ℕ) (x : List ℕ) (none : NoLf x) (short : length x ≤ 4096) where
  most : ℕ
  most = length x + left

  all : take (length x + left) (x ++ []) ≡ x
  all = ap (λ (l : List ℕ). take (length x + left) l) (append-nil x)
      ∙ take_all (length x + left) x (omega arith)

  size : length (take (length x + left) (x ++ [])) ≡ length x
  size = ap (λ (l : List ℕ). length l) all

  front : FrontLine (length x + left) (x ++ []) (length x)
  front = record {
    before = subst NoLf (sym (ap (λ (l : List ℕ). take (length x) l) all
        ∙ take_all (length x) x (omega arith))) none;
    within = omega (arith, size);
    ended = λ lt. absurd (omega (arith, lt, size));
  }

  few : length (x ++ []) ≤ length x + left
  few = omega (arith, ap (λ (l : List ℕ). length l) (append-nil x))

  pub end_fed : 0 < length x → meant_of left x [] ≡ with_line x no_lines
  end_fed some = one_line (length x + left) (x ++ []) x (length x) front short
      (omega (arith, size)) few (sym (append-nil x))
      (ne_eqb (length x) 0 (λ (e : length x ≡ 0). absurd (omega (arith, some, e))))
      ∙ ap (with_line x) (lines-nil (length x + left))

  pub no_end_fed : length x ≡ 0 → meant_of left x [] ≡ no_lines
  no_end_fed empty = no_line (length x + left) (x ++ []) x (length x) front short
      (omega (arith, size)) few (sym (append-nil x))
      (ap (λ (n : ℕ). eqb n 0) empty)

-- ---- in the words of the reader

take-take-le : (k n : ℕ) (xs : List ℕ) → k ≤ n → take k (take n xs) ≡ take k xs
take-take-le zero n xs le = refl
take-take-le (suc k) zero xs le = absurd (omega (arith, le))
take-take-le (suc k) (suc n) [] le = refl
take-take-le (suc k) (suc n) (x ∷ xs) le =
    ap (λ (l : List ℕ). x ∷ l) (take-take-le k n xs (omega (arith, le)))

pub both_no_lf : (x run : List ℕ) → NoLf x → NoLf run → NoLf (x ++ run)
both_no_lf [] run none other = other
both_no_lf (b ∷ x) run none other = (none.0, both_no_lf x run none.1 other)

pub front_no_lf : (k : ℕ) (xs : List ℕ) → NoLf xs → NoLf (take k xs)
front_no_lf zero xs none = tt
front_no_lf (suc k) [] none = tt
front_no_lf (suc k) (b ∷ xs) none = (none.0, front_no_lf k xs none.1)

pub drop_one : (xs : List ℕ) (i : ℕ) → i < length xs → drop i xs ≡ get_or xs i 0 ∷ drop (i + 1) xs
drop_one [] i lt = absurd (omega (arith, lt))
drop_one (x ∷ xs) zero lt = refl
drop_one (x ∷ xs) (suc i) lt =
    drop_one xs i (omega (arith, lt))
    ∙ ap (λ (k : ℕ). get_or xs i 0 ∷ drop k (x ∷ xs))
    (let e : suc (i + 1) ≡ suc i + 1 = omega arith in e)

take_and_drop : (n : ℕ) (xs : List ℕ) → take n xs ++ drop n xs ≡ xs
take_and_drop zero xs = refl
take_and_drop (suc n) [] = refl
take_and_drop (suc n) (x ∷ xs) = ap (λ (l : List ℕ). x ∷ l) (take_and_drop n xs)

drop_in_front : (k n : ℕ) (xs : List ℕ) → k ≤ n → drop k (take n xs) ++ drop n xs ≡ drop k xs
drop_in_front zero n xs le = take_and_drop n xs
drop_in_front (suc k) zero xs le = absurd (omega (arith, le))
drop_in_front (suc k) (suc n) [] le = refl
drop_in_front (suc k) (suc n) (x ∷ xs) le = drop_in_front k n xs (omega (arith, le))

module _ (line : List ℕ) (n left : ℕ) (x : List ℕ) (is : x ≡ take n line)
    (few : n ≤ 4096) (none : NoLf x) where
  short : length x ≤ 4096
  short = omega (arith, ap (λ (l : List ℕ). length l) is, length-take n line, few)

  pub pushed_past : (b : ℕ) (rest : List ℕ) → left ≡ 0
      → meant_of left x (b ∷ rest) ≡ stopped why.ScriptTooLong
  pushed_past b rest zero_left =
      ap (λ (k : ℕ). meant_of k x (b ∷ rest)) zero_left ∙ past_fed x b rest none short

  pub pushed_line : (b k : ℕ) (rest : List ℕ) → b ≡ 10 → left ≢ 0 → k ≤ n
      → take k (take n line) ≡ without_cr (take n line)
      → meant_of left x (b ∷ rest) ≡ with_line (take k line) (meant_of (left - 1) [] rest)
  pushed_line b k rest lf some within cr =
      ap (λ (c : ℕ). meant_of left x (c ∷ rest)) lf
      ∙ line_fed left x rest none short (omega (arith, some))
      ∙ ap (λ (l : List ℕ). with_line l (meant_of (left - 1) [] rest))
      (ap without_cr is ∙ sym cr ∙ take-take-le k n line within)

  pub pushed_long : (b : ℕ) (rest : List ℕ) → b ≢ 10 → left ≢ 0
      → (b ≡ 10) ⊎ ((left ≡ 0) ⊎ (length x ≡ 4096))
      → meant_of left x (b ∷ rest) ≡ stopped why.TooLong
  pushed_long b rest other some (inl lf) = absurd (other lf)
  pushed_long b rest other some (inr (inl zero_left)) = absurd (some zero_left)
  pushed_long b rest other some (inr (inr full)) =
      long_fed left x b rest none (omega (arith, full)) (ne_eqb b 10 other) (omega (arith, some))

  pub finished_line : n ≢ 0 → n ≤ length line
      → meant_of left x [] ≡ with_line (take n line) no_lines
  finished_line some lt =
      end_fed left x none short
      (omega (arith, ap (λ (l : List ℕ). length l) is, length-take n line, some, lt))
      ∙ ap (λ (l : List ℕ). with_line l no_lines) is

  pub finished_none : n ≡ 0 → meant_of left x [] ≡ no_lines
  finished_none empty =
      no_end_fed left x none short
      (omega (arith, ap (λ (l : List ℕ). length l) is, length-take n line, empty))

-- the front of a run is written behind the line
module _ (line ys run : List ℕ) (n k count : ℕ) (x : List ℕ) (is : x ≡ take n line)
    (long : n ≤ length line) (taken : ys ≡ take count run) (within : count ≤ length run) where
  as_many : length (take count run) ≡ count
  as_many = omega (arith, length-take count run)

  written : take (n + count) (put_mid n k line ys) ≡ x ++ take count run
  written =
      take-put_mid n k line ys (n + count)
      (omega (arith, ap (λ (l : List ℕ). length l) taken, as_many)) long
      ∙ ap (λ (l : List ℕ). l ++ ys) (sym is)
      ∙ ap (λ (l : List ℕ). x ++ l) taken

  pub run_fed : (left : ℕ) (rest : List ℕ) → count ≤ left
      → meant_of left x (run ++ rest)
      ≡ meant_of (left - count) (take (n + count) (put_mid n k line ys)) (drop count run ++ rest)
  run_fed left rest room =
      ap (λ (l : List ℕ). meant_of left x (l ++ rest)) (sym (take_and_drop count run))
      ∙ ap (meant_of left x) (append_assoc (take count run) (drop count run) rest)
      ∙ more_fed left x (take count run) (drop count run ++ rest) (omega (arith, as_many, room))
      ∙ ap (λ (c : ℕ). meant_of (left - c) (x ++ take count run) (drop count run ++ rest)) as_many
      ∙ ap (λ (l : List ℕ). meant_of (left - count) l (drop count run ++ rest)) (sym written)

  pub run_clean : NoLf x → NoLf run → NoLf (take (n + count) (put_mid n k line ys))
  run_clean none other =
      subst NoLf (sym written) (both_no_lf x (take count run) none (front_no_lf count run other))

-- bytes, and then others
pub fed_through : (f : Fed) (old mid new : LineReader) (before between behind : List ℕ)
    → meant old before ≡ meant mid between → IsFed f mid between new behind
    → IsFed f old before new behind
fed_through fed.More old mid new before between behind same is = same ∙ is
fed_through fed.Line old mid new before between behind same is = same ∙ is
fed_through fed.TooLong old mid new before between behind same is = same ∙ is
fed_through fed.ScriptTooLong old mid new before between behind same is = same ∙ is

-- a run at the front of a piece
pub piece_fed : (old mid : LineReader) (piece rest : List ℕ) (n count : ℕ) → count ≤ n
    → ((more : List ℕ)
    → meant old (take n piece ++ more) ≡ meant mid (drop count (take n piece) ++ more))
    → meant old (piece ++ rest) ≡ meant mid (drop count piece ++ rest)
piece_fed old mid piece rest n count le pushed =
    ap (λ (l : List ℕ). meant old (l ++ rest)) (sym (take_and_drop n piece))
    ∙ ap (meant old) (append_assoc (take n piece) (drop n piece) rest)
    ∙ pushed (drop n piece ++ rest)
    ∙ ap (meant mid) (sym (append_assoc (drop count (take n piece)) (drop n piece) rest))
    ∙ ap (λ (l : List ℕ). meant mid (l ++ rest)) (drop_in_front count n piece le)

-- and the byte behind it
pub next_byte : (old mid : LineReader) (piece rest : List ℕ) (i : ℕ) → i < length piece
    → meant old (piece ++ rest) ≡ meant mid (drop i piece ++ rest)
    → meant old (piece ++ rest) ≡ meant mid (get_or piece i 0 ∷ (drop (i + 1) piece ++ rest))
next_byte old mid piece rest i lt same =
    same ∙ ap (λ (l : List ℕ). meant mid (l ++ rest)) (drop_one piece i lt)

-- ---- at which byte a limit is passed

-- a byte that doesn't end the line, where there is room in the script but none in the line
pub long_limit : (b left n : ℕ) → b ≢ 10 → left ≢ 0
    → (b ≡ 10) ⊎ ((left ≡ 0) ⊎ (n ≡ LONGEST_LINE)) → n + 1 ≡ LONGEST_LINE + 1
long_limit b left n other some (inl lf) = absurd (other lf)
long_limit b left n other some (inr (inl zero_left)) = absurd (some zero_left)
long_limit b left n other some (inr (inr full)) = ap (λ (k : ℕ). k + 1) full

-- behind bytes that passed none
pub limit_behind : (f : Fed) (old mid : LineReader) (count : ℕ)
    → length (begun mid) ≡ length (begun old) + count → left_of mid + count ≡ left_of old
    → PassesLimit f mid 1 → PassesLimit f old (count + 1)
limit_behind fed.More old mid count len left limit = tt
limit_behind fed.Line old mid count len left limit = tt
limit_behind fed.TooLong old mid count len left limit = omega (arith, len, limit)
limit_behind fed.ScriptTooLong old mid count len left limit = omega (arith, left, limit)
