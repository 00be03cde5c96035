-- Steps of reading runs.
use Rattle.std.proofs.Common.{◌≡◌, ◌≢◌, ℕ, zero, suc, ◌-◌, ◌<◌, ◌≤◌, List, [], ◌∷◌, ◌++◌, length, get_or, drop, cond, Bool, true, false, Option, Some, None, refl, sym, ap, subst, ◌∙◌, arith, append_assoc, append-nil, length-append}
use Rattle.std.specs.Prelude.{◌&&◌, not, nat_eq, nat_le}
use Rattle.std.specs.List.{list_all}
use Rattle.std.proofs.Math.ListN.{replicate}
use Rattle.std.proofs.lemmas.List.{length-replicate}
use Rattle.std.proofs.lemmas.Bool.Decides.{nat_tests}
use Rattle.gx_laws.proofs.NumberLemmas.{at_most_from_nat_le, nat_le_from_at_most}
use Rattle.gx_values.specs.Values.{is_printable}
use Rattle.gx_encode.specs.Runs.{runs_of, bytes_of_runs, rle, joined, AreShort, AreLongest, IsUnrle, is_same, is_next, last_from, repeats}
use Rattle.gx_encode.specs.RunLaws.{runs_joined, runs_longest, BeginWith, pairs_cut, last_more, run_behind, pairs_behind, short_behind, longest_at, short_at, joined_at, printable_append, printable_run, first_run}

-- the text has been read, and the rest is to be read
pub record IsReading (longest : ℕ) (bytes : List ℕ) (previous : Option ℕ)
    (text rest : List ℕ) : Type 0 where
  pub few : length text ≤ longest
  pub printable : list_all is_printable text ≡ true
  pub short : AreShort (runs_of text)
  pub last : previous ≡ last_from None (runs_of text)
  pub so_far : rle text ++ rest ≡ bytes

-- what the tests of a run say
record IsNext (previous : Option ℕ) (count b room : ℕ) : Type 0 where
  apart : previous ≢ Some b
  some : 1 ≤ count
  short : count ≤ 200
  few : count ≤ room
  printable : is_printable b ≡ true

some_same : (a b : ℕ) → ◌≡◌ {A = Option ℕ} (Some a) (Some b) → a ≡ b
some_same a b e = cc

differs : (previous : Option ℕ) (b : ℕ) → is_same previous b ≡ false → previous ≢ Some b
differs None b e same = cc
differs (Some a) b e same = unequal a b e (some_same a b same)
  where
    unequal : (a b : ℕ) → nat_eq a b ≡ false → a ≢ b
    unequal a b e = grind (arith, nat_tests)

differ : (previous : Option ℕ) (b : ℕ) → previous ≢ Some b → is_same previous b ≡ false
differ None b ne = refl
differ (Some a) b ne = unequal a b (λ e. ne (ap Some e))
  where
    unequal : (a b : ℕ) → a ≢ b → nat_eq a b ≡ false
    unequal a b ne = grind (arith, nat_tests)

five : (a b c d e : Bool) → (((not a && b) && c) && d) && e ≡ true
    → (a ≡ false) × (b ≡ true) × (c ≡ true) × (d ≡ true) × (e ≡ true)
five false true true true true h = (refl, refl, refl, refl, refl)
five true b c d e h = cc
five false false c d e h = cc
five false true false d e h = cc
five false true true false e h = cc
five false true true true false h = cc

next_is : (previous : Option ℕ) (count b room : ℕ) → is_next previous count b room ≡ true
    → IsNext previous count b room
next_is previous count b room e =
    let t = five (is_same previous b) (nat_le 1 count) (nat_le count 200) (nat_le count room)
    (is_printable b) e in
    record {
      apart = differs previous b t.0;
      some = at_most_from_nat_le 1 count t.1;
      short = at_most_from_nat_le count 200 t.2;
      few = at_most_from_nat_le count room t.3;
      printable = t.4;
    }

is_next_by : (previous : Option ℕ) (count b room : ℕ) → IsNext previous count b room
    → is_next previous count b room ≡ true
is_next_by previous count b room n =
    let a = differ previous b n.apart in
    let s = nat_le_from_at_most 1 count n.some in
    let h = nat_le_from_at_most count 200 n.short in
    let f = nat_le_from_at_most count room n.few in
    let p = n.printable in
    λ i. (((not (a i) && s i) && h i) && f i) && p i

-- ---- a run more

suc_of : (count : ℕ) → 1 ≤ count → (k : ℕ) × (count ≡ suc k)
suc_of zero le = absurd (omega arith)
suc_of (suc k) le = (k, refl)

pub run_more : (longest : ℕ) (bytes : List ℕ) (previous : Option ℕ) (text more pushed : List ℕ)
    (count b : ℕ) → IsReading longest bytes previous text (count ∷ b ∷ more)
    → is_next previous count b (longest - length text) ≡ true
    → pushed ≡ text ++ replicate count b → IsReading longest bytes (Some b) pushed more
run_more longest bytes previous text more pushed count b now e is =
    let n = next_is previous count b (longest - length text) e in
    let k = suc_of count n.some in
    let few = now.few in
    let room = n.few in
    let apart : last_from None (runs_of text) ≢ Some b = λ same. n.apart (now.last ∙ same) in
    let text_is : pushed ≡ text ++ replicate (suc k.0) b =
    is ∙ ap (λ (c : ℕ). text ++ replicate c b) k.1 in
    let runs : runs_of pushed ≡ runs_of text ++ (count, b) ∷ [] = ap runs_of text_is
    ∙ run_behind text k.0 b apart ∙ ap (λ (c : ℕ). runs_of text ++ (c, b) ∷ []) (sym k.1) in
    record {
      few = omega (
        arith,
        ap length is,
        length-append text (replicate count b),
        length-replicate count b,
        room,
        few,
      );
      printable = ap (list_all is_printable) is ∙ printable_append text (replicate count b)
          ∙ (λ i. now.printable i && printable_run count b n.printable i);
      short = subst AreShort (sym runs) (short_behind (runs_of text) (count, b) now.short n.short);
      last = sym (ap (last_from None) runs ∙ last_more None (runs_of text) (count, b));
      so_far = ap (λ rs. bytes_of_runs rs ++ more) runs
          ∙ ap (λ (l : List ℕ). l ++ more) (pairs_behind (runs_of text) (count, b))
          ∙ append_assoc (rle text) (count ∷ b ∷ []) more ∙ now.so_far;
    }

-- ---- the end

pub all_read : (longest : ℕ) (bytes : List ℕ) (previous : Option ℕ) (text : List ℕ)
    → IsReading longest bytes previous text [] → IsUnrle longest bytes (Some text)
all_read longest bytes previous text now = (
  record { fits = (now.few, now.printable); short = now.short },
  sym (append-nil (rle text))
      ∙ now.so_far,
)

pub odd_read : (longest : ℕ) (bytes : List ℕ) (previous : Option ℕ) (text : List ℕ) (b : ℕ)
    → IsReading longest bytes previous text (b ∷ []) → IsUnrle longest bytes None
odd_read longest bytes previous text b now other coded same =
    let cut = pairs_cut (runs_of other) (runs_of text) (b ∷ []) (same ∙ sym now.so_far) in
    no_half cut.more cut.pairs
  where
    no_half : (runs : List (ℕ × ℕ)) → bytes_of_runs runs ≡ b ∷ [] → ⊥
    no_half [] e = (let n = ap length e in omega (arith, n))
    no_half (r ∷ runs) e = (let n = ap length e in omega (arith, n))

-- a text whose code goes on so has a run that may come next
record HasRun (done : List (ℕ × ℕ)) (count b : ℕ) (runs : List (ℕ × ℕ)) : Type 0 where
  more : List (ℕ × ℕ)
  is : runs ≡ done ++ (count, b) ∷ more

has_run : (done runs : List (ℕ × ℕ)) (count b : ℕ) (rest : List ℕ)
    → BeginWith runs done (count ∷ b ∷ rest) → HasRun done count b runs
has_run done runs count b rest begins = by_more begins.more begins.is begins.pairs
  where
    by_more : (more : List (ℕ × ℕ)) → runs ≡ done ++ more → bytes_of_runs more ≡ count ∷ b ∷ rest
        → HasRun done count b runs
    by_more [] is pairs = absurd (let n = ap length pairs in omega (arith, n))
    by_more (r ∷ more) is pairs =
        let first : r.0 ≡ count = ap (λ (l : List ℕ). get_or l 0 0) pairs in
        let second : r.1 ≡ b = ap (λ (l : List ℕ). get_or l 1 0) pairs in
        record { more = more; is = is ∙ (λ i. done ++ (first i, second i) ∷ more) }

both : (a b : Bool) → a && b ≡ true → (a ≡ true) × (b ≡ true)
both true true e = (refl, refl)
both true false e = cc
both false b e = cc

first_of_run : (k b : ℕ) (rest : List ℕ)
    → list_all is_printable (replicate (suc k) b ++ rest) ≡ true → is_printable b ≡ true
first_of_run k b rest e =
    (both (is_printable b) (list_all is_printable (replicate k b ++ rest)) e).0

pub not_next : (longest : ℕ) (bytes : List ℕ) (previous : Option ℕ) (text more : List ℕ)
    (count b : ℕ) → IsReading longest bytes previous text (count ∷ b ∷ more)
    → is_next previous count b (longest - length text) ≡ false → IsUnrle longest bytes None
not_next longest bytes previous text more count b now e other coded same =
    let run = has_run (runs_of text) (runs_of other) count b more
    (pairs_cut (runs_of other) (runs_of text) (count ∷ b ∷ more) (same ∙ sym now.so_far)) in
    let at = longest_at None (runs_of text) run.more (count, b)
    (subst (λ rs. AreLongest None rs) run.is (runs_longest other)) in
    let whole : other ≡ text ++ (replicate count b ++ joined run.more) =
    sym (runs_joined other) ∙ ap joined run.is ∙ joined_at (runs_of text) run.more (count, b)
    ∙ ap (λ (l : List ℕ). l ++ (replicate count b ++ joined run.more)) (runs_joined text) in
    let k = suc_of count at.0 in
    let few = coded.fits.0 in
    let sizes = ap length whole in
    let room : count ≤ longest - length text =
    omega (
      arith,
      few,
      sizes,
      length-append text (replicate count b ++ joined run.more),
      length-append (replicate count b) (joined run.more),
      length-replicate count b,
    ) in
    let printable = both (list_all is_printable text)
    (list_all is_printable (replicate count b ++ joined run.more))
    (sym (ap (list_all is_printable) whole
    ∙ printable_append text (replicate count b ++ joined run.more)) ∙ coded.fits.1) in
    let b_printable = first_of_run k.0 b (joined run.more)
    (ap (λ (c : ℕ). list_all is_printable (replicate c b ++ joined run.more)) (sym k.1)
    ∙ printable.1) in
    let next : IsNext previous count b (longest - length text) =
    record {
      apart = λ p. at.1 (sym now.last ∙ p);
      some = at.0;
      short = short_at (runs_of text) run.more (count, b) (subst AreShort run.is coded.short);
      few = room;
      printable = b_printable;
    } in
    true_false (sym (is_next_by previous count b (longest - length text) next) ∙ e)
  where
    true_false : true ≡ false → ⊥
    true_false e = cc

-- ---- writing

repeats_first : (b : ℕ) (text : List ℕ) → repeats b (b ∷ text) ≡ suc (repeats b text)
repeats_first b text = ap (λ (t : Bool). cond t (suc (repeats b text)) 0) (itself b)
  where
    itself : (a : ℕ) → nat_eq a a ≡ true
    itself a = grind (arith, nat_tests)

-- the code of the first run, and that of the others
pub first_code : (text : List ℕ) → 0 < length text
    → rle text ≡ repeats (get_or text 0 0) text ∷ get_or text 0 0 ∷ rle
    (drop (repeats (get_or text 0 0) text) text)
first_code [] some = absurd (omega arith)
first_code (b ∷ text) some =
    ap bytes_of_runs (first_run b text)
    ∙ ap (λ (n : ℕ). n ∷ b ∷ rle (drop n (b ∷ text))) (sym (repeats_first b text))

pub some_first : (text : List ℕ) → 0 < length text → 0 < repeats (get_or text 0 0) text
some_first [] some = absurd (omega arith)
some_first (b ∷ text) some = omega (arith, repeats_first b text)

pub none_left : (rest : List ℕ) → true ≡ nat_eq (length rest) 0 → rest ≡ []
none_left [] e = refl
none_left (x ∷ rest) e = absurd (some (length rest) (sym e))
  where
    some : (n : ℕ) → nat_eq (suc n) 0 ≡ true → ⊥
    some n e = grind (arith, nat_tests)

-- ---- the next two bytes

pub two_front : (rest : List ℕ) → 2 ≤ length rest
    → rest ≡ get_or rest 0 0 ∷ get_or rest 1 0 ∷ drop 2 rest
two_front [] le = absurd (omega arith)
two_front (a ∷ []) le = absurd (omega arith)
two_front (a ∷ b ∷ rest) le = refl

pub one_left : (rest : List ℕ) → length rest < 2 → false ≡ nat_eq (length rest) 0
    → rest ≡ get_or rest 0 0 ∷ []
one_left [] lt e = absurd (none e)
  where
    none : false ≡ nat_eq 0 0 → ⊥
    none e = cc
one_left (a ∷ []) lt e = refl
one_left (a ∷ b ∷ rest) lt e = absurd (omega arith)
