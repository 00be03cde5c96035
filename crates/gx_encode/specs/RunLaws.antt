-- The runs of a text tell it, and are its only ones.
use Rattle.std.proofs.Common.{◌≡◌, ◌≢◌, ℕ, zero, suc, ◌+◌, ◌*◌, ◌<◌, ◌≤◌, List, [], ◌∷◌, ◌++◌, length, get_or, drop, cond, Bool, true, false, Option, Some, None, refl, sym, ap, subst, ◌∙◌, arith, append_assoc}
use Rattle.std.specs.Prelude.{◌&&◌, nat_eq}
use Rattle.std.specs.List.{list_all}
use Rattle.std.proofs.Math.ListN.{replicate}
use Rattle.std.proofs.lemmas.Bool.Decides.{nat_tests}
use Rattle.gx_laws.proofs.NumberLemmas.{equal_from_nat_eq, nat_eq_itself}
use Rattle.gx_values.specs.Values.{is_printable}
use Rattle.gx_encode.specs.Runs.{with_byte, runs_of, bytes_of_runs, rle, joined, AreLongest, AreRuns, AreShort, last_from, repeats}

other : (a b : ℕ) → nat_eq a b ≡ false → a ≢ b
other a b e = grind (arith, nat_tests)

some_same : (a b : ℕ) → ◌≡◌ {A = Option ℕ} (Some a) (Some b) → a ≡ b
some_same a b e = cc

no_some : (a : ℕ) → ◌≡◌ {A = Option ℕ} None (Some a) → ⊥
no_some a e = cc

-- ---- one byte more

with_joined : (b : ℕ) (runs : List (ℕ × ℕ)) → joined (with_byte b runs) ≡ b ∷ joined runs
with_joined b [] = refl
with_joined b (run ∷ runs) = by_test (nat_eq b run.1) refl
  where
    by_test : (t : Bool) → t ≡ nat_eq b run.1
        → joined (cond t ((suc run.0, b) ∷ runs) ((1, b) ∷ run ∷ runs)) ≡ b ∷ joined (run ∷ runs)
    by_test true is = ap (λ (x : ℕ). b ∷ (replicate run.0 x ++ joined runs))
        (equal_from_nat_eq b run.1 (sym is))
    by_test false is = refl

with_longest : (b : ℕ) (runs : List (ℕ × ℕ)) → AreLongest None runs
    → AreLongest None (with_byte b runs)
with_longest b [] are = (omega arith, no_some b, tt)
with_longest b (run ∷ runs) are = by_test (nat_eq b run.1) refl
  where
    by_test : (t : Bool) → t ≡ nat_eq b run.1
        → AreLongest None (cond t ((suc run.0, b) ∷ runs) ((1, b) ∷ run ∷ runs))
    by_test true is = (
      omega arith,
      no_some b,
      subst (λ (x : ℕ). AreLongest (Some x) runs)
          (sym (equal_from_nat_eq b run.1 (sym is))) are.2,
    )
    by_test false is = (
      omega arith,
      no_some b,
      (are.0, (λ e. other b run.1 (sym is) (some_same b run.1 e)), are.2),
    )

pub runs_joined : (text : List ℕ) → joined (runs_of text) ≡ text
runs_joined [] = refl
runs_joined (b ∷ text) =
    with_joined b (runs_of text) ∙ ap (λ (rest : List ℕ). b ∷ rest) (runs_joined text)

pub runs_longest : (text : List ℕ) → AreLongest None (runs_of text)
runs_longest [] = tt
runs_longest (b ∷ text) = with_longest b (runs_of text) (runs_longest text)

pub are_runs : (text : List ℕ) → AreRuns text (runs_of text)
are_runs text = record { joined = runs_joined text; longest = runs_longest text }

-- ---- pairs tell the runs

-- the runs begin with these, and the pairs of the others are the rest
pub record BeginWith (runs done : List (ℕ × ℕ)) (rest : List ℕ) : Type 0 where
  pub more : List (ℕ × ℕ)
  pub is : runs ≡ done ++ more
  pub pairs : bytes_of_runs more ≡ rest

pub pairs_cut : (runs done : List (ℕ × ℕ)) (rest : List ℕ)
    → bytes_of_runs runs ≡ bytes_of_runs done ++ rest
    → BeginWith runs done rest
pairs_cut runs [] rest e = record { more = runs; is = refl; pairs = e }
pairs_cut [] (d ∷ done) rest e = absurd (let n = ap length e in omega (arith, n))
pairs_cut (r ∷ runs) (d ∷ done) rest e =
    let count : r.0 ≡ d.0 = ap (λ (l : List ℕ). get_or l 0 0) e in
    let byte : r.1 ≡ d.1 = ap (λ (l : List ℕ). get_or l 1 0) e in
    let later = pairs_cut runs done rest (ap (drop 2) e) in
    let tail = later.is in
    record { more = later.more; is = λ i. (count i, byte i) ∷ tail i; pairs = later.pairs }

pub same_pairs : (a b : List (ℕ × ℕ)) → bytes_of_runs a ≡ bytes_of_runs b → a ≡ b
same_pairs [] [] e = refl
same_pairs [] (r ∷ b) e = absurd (let n = ap length e in omega (arith, n))
same_pairs (r ∷ a) [] e = absurd (let n = ap length e in omega (arith, n))
same_pairs (r ∷ a) (s ∷ b) e =
    let count : r.0 ≡ s.0 = ap (λ (l : List ℕ). get_or l 0 0) e in
    let byte : r.1 ≡ s.1 = ap (λ (l : List ℕ). get_or l 1 0) e in
    let tail = same_pairs a b (ap (drop 2) e) in
    λ i. (count i, byte i) ∷ tail i

-- a code is that of one text
pub same_rle : (a b : List ℕ) → rle a ≡ rle b → a ≡ b
same_rle a b e =
    sym (runs_joined a) ∙ ap joined (same_pairs (runs_of a) (runs_of b) e) ∙ runs_joined b

-- and at most twice as long
with_pairs : (b : ℕ) (runs : List (ℕ × ℕ))
    → length (bytes_of_runs (with_byte b runs)) ≤ length (bytes_of_runs runs) + 2
with_pairs b [] = omega arith
with_pairs b (run ∷ runs) = by_test (nat_eq b run.1)
  where
    by_test : (t : Bool)
        → length (bytes_of_runs (cond t ((suc run.0, b) ∷ runs) ((1, b) ∷ run ∷ runs)))
        ≤ length (bytes_of_runs (run ∷ runs)) + 2
    by_test true = omega arith
    by_test false = omega arith

pub short_rle : (text : List ℕ) → length (rle text) ≤ 2 * length text
short_rle [] = omega arith
short_rle (b ∷ text) = omega (arith, with_pairs b (runs_of text), short_rle text)

-- ---- the first run

pub first_run : (b : ℕ) (text : List ℕ)
    → runs_of (b ∷ text) ≡ (suc (repeats b text), b) ∷ runs_of (drop (repeats b text) text)
first_run b [] = refl
first_run b (x ∷ text) =
    ap (with_byte b) (first_run x text) ∙ by_test (first_run x text) (nat_eq b x) refl
  where
    by_test : runs_of (x ∷ text) ≡ (suc (repeats x text), x) ∷ runs_of (drop (repeats x text) text)
        → (t : Bool) → t ≡ nat_eq b x
        → cond t ((suc (suc (repeats x text)), b) ∷ runs_of (drop (repeats x text) text))
        ((1, b) ∷ (suc (repeats x text), x) ∷ runs_of (drop (repeats x text) text))
        ≡ (suc (cond t (suc (repeats b text)) 0), b)
        ∷ runs_of (drop (cond t (suc (repeats b text)) 0) (x ∷ text))
    by_test first true is =
        ap (λ (y : ℕ). (suc (suc (repeats y text)), b) ∷ runs_of (drop (repeats y text) text))
        (sym (equal_from_nat_eq b x (sym is)))
    by_test first false is = ap (λ (runs : List (ℕ × ℕ)). (1, b) ∷ runs) (sym first)

-- ---- a run behind

pub last_more : (previous : Option ℕ) (runs : List (ℕ × ℕ)) (run : ℕ × ℕ)
    → last_from previous (runs ++ run ∷ []) ≡ Some run.1
last_more previous [] run = refl
last_more previous (r ∷ runs) run = last_more (Some r.1) runs run

-- a run that is followed by others isn't merged with what comes in front of it
with_behind : (x : ℕ) (r : ℕ × ℕ) (runs : List (ℕ × ℕ)) (run : ℕ × ℕ)
    → with_byte x ((r ∷ runs) ++ run ∷ []) ≡ with_byte x (r ∷ runs) ++ run ∷ []
with_behind x r runs run = by_test (nat_eq x r.1)
  where
    by_test : (t : Bool)
        → cond t ((suc r.0, x) ∷ (runs ++ run ∷ [])) ((1, x) ∷ r ∷ (runs ++ run ∷ []))
        ≡ cond t ((suc r.0, x) ∷ runs) ((1, x) ∷ r ∷ runs) ++ run ∷ []
    by_test true = refl
    by_test false = refl

with_last : (x : ℕ) (r : ℕ × ℕ) (runs : List (ℕ × ℕ))
    → last_from None (with_byte x (r ∷ runs)) ≡ last_from None (r ∷ runs)
with_last x r runs = by_test (nat_eq x r.1) refl
  where
    by_test : (t : Bool) → t ≡ nat_eq x r.1
        → last_from None (cond t ((suc r.0, x) ∷ runs) ((1, x) ∷ r ∷ runs))
        ≡ last_from (Some r.1) runs
    by_test true is = ap (λ (y : ℕ). last_from (Some y) runs) (equal_from_nat_eq x r.1 (sym is))
    by_test false is = refl

one_run : (k b : ℕ) → runs_of (replicate (suc k) b) ≡ (suc k, b) ∷ []
one_run zero b = refl
one_run (suc k) b =
    ap (with_byte b) (one_run k b) ∙ ap
    (λ (t : Bool). cond t ((suc (suc k), b) ∷ []) ((1, b) ∷ (suc k, b) ∷ [])) (nat_eq_itself b)

unequal : (a b : ℕ) → a ≢ b → nat_eq a b ≡ false
unequal a b ne = grind (arith, nat_tests)

pub run_behind : (text : List ℕ) (k b : ℕ) → last_from None (runs_of text) ≢ Some b
    → runs_of (text ++ replicate (suc k) b) ≡ runs_of text ++ (suc k, b) ∷ []
run_behind [] k b apart = one_run k b
run_behind (x ∷ []) k b apart =
    ap (with_byte x) (one_run k b) ∙ ap
    (λ (t : Bool). cond t ((suc (suc k), x) ∷ []) ((1, x) ∷ (suc k, b) ∷ []))
    (unequal x b (λ e. apart (ap Some e)))
run_behind (x ∷ y ∷ text) k b apart =
    let first = first_run y text in
    let last = with_last x (suc (repeats y text), y) (runs_of (drop (repeats y text) text)) in
    let apart_later : last_from None (runs_of (y ∷ text)) ≢ Some b =
    λ e. apart
    (ap (λ runs. last_from None (with_byte x runs)) first ∙ last ∙ ap (last_from None)
    (sym first) ∙ e) in
    ap (with_byte x) (run_behind (y ∷ text) k b apart_later)
    ∙ ap (λ runs. with_byte x (runs ++ (suc k, b) ∷ [])) first
    ∙ with_behind x (suc (repeats y text), y) (runs_of (drop (repeats y text) text)) (suc k, b)
    ∙ ap (λ runs. with_byte x runs ++ (suc k, b) ∷ []) (sym first)

pub pairs_behind : (runs : List (ℕ × ℕ)) (run : ℕ × ℕ)
    → bytes_of_runs (runs ++ run ∷ []) ≡ bytes_of_runs runs ++ run.0 ∷ run.1 ∷ []
pairs_behind [] run = refl
pairs_behind (r ∷ runs) run = ap (λ (rest : List ℕ). r.0 ∷ r.1 ∷ rest) (pairs_behind runs run)

pub short_behind : (runs : List (ℕ × ℕ)) (run : ℕ × ℕ) → AreShort runs → run.0 ≤ 200
    → AreShort (runs ++ run ∷ [])
short_behind [] run short le = (le, tt)
short_behind (r ∷ runs) run short le = (short.0, short_behind runs run short.1 le)

-- ---- a run among others

pub longest_at : (previous : Option ℕ) (done more : List (ℕ × ℕ)) (run : ℕ × ℕ)
    → AreLongest previous (done ++ run ∷ more)
    → (0 < run.0) × (last_from previous done ≢ Some run.1)
longest_at previous [] more run are = (are.0, are.1)
longest_at previous (d ∷ done) more run are = longest_at (Some d.1) done more run are.2

pub short_at : (done more : List (ℕ × ℕ)) (run : ℕ × ℕ) → AreShort (done ++ run ∷ more)
    → run.0 ≤ 200
short_at [] more run short = short.0
short_at (d ∷ done) more run short = short_at done more run short.1

pub joined_at : (done more : List (ℕ × ℕ)) (run : ℕ × ℕ)
    → joined (done ++ run ∷ more) ≡ joined done ++ (replicate run.0 run.1 ++ joined more)
joined_at [] more run = refl
joined_at (d ∷ done) more run =
    ap (λ (rest : List ℕ). replicate d.0 d.1 ++ rest) (joined_at done more run) ∙ sym
    (append_assoc (replicate d.0 d.1) (joined done) (replicate run.0 run.1 ++ joined more))

-- ---- printable bytes

pub printable_append : (a b : List ℕ)
    → list_all is_printable (a ++ b) ≡ list_all is_printable a && list_all is_printable b
printable_append [] b = refl
printable_append (x ∷ a) b =
    ap (λ (t : Bool). is_printable x && t) (printable_append a b) ∙ assoc (is_printable x)
    (list_all is_printable a) (list_all is_printable b)
  where
    assoc : (p q r : Bool) → p && (q && r) ≡ (p && q) && r
    assoc true q r = refl
    assoc false q r = refl

pub printable_run : (k b : ℕ) → is_printable b ≡ true → list_all is_printable (replicate k b) ≡ true
printable_run zero b is = refl
printable_run (suc k) b is = λ i. is i && printable_run k b is i
