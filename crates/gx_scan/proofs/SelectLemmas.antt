-- The records that a node's selection finds, as rows of the file.
use Rattle.std.proofs.Common.{[], ◌≡◌, ℕ, List, ◌∷◌, ◌++◌, map, Bool, true, false, refl, sym, ap, subst, ◌∙◌, append-nil}
use Rattle.std.specs.Prelude.{filter, ◌&&◌}
use Rattle.std.specs.List.{AllByRecursion}
use Rattle.std.specs.List.Sorted.{IsPermutation}
use Rattle.std.proofs.lemmas.List.Sorted.{IsPermutation-refl}
use Rattle.std.specs.Ordering.{ordering_then}
use Rattle.std.specs.declared.cmp.Ordering.TheVariants.{Less, Equal}
use Rattle.std.specs.FinMap as fin
use Rattle.gx_values.specs.declared.records.Rec.{Rec}
use Rattle.gx_values.specs.declared.keys.Span.{Span}
use Rattle.gx_values.specs.Values.{value_cmp}
use Rattle.gx_values.specs.Keys.{bytes_of, key_of, is_inside}
use Rattle.gx_mapping.specs.Rule.{In}
use Rattle.gx_commands.specs.declared.command.Cond.{Cond}
use Rattle.gx_gather.specs.Gather.{rec_cmp}
use Rattle.gx_stack.specs.Selected.{IsSelection}
use Rattle.gx_gather.proofs.Lists.{in_map, from_map, in_filter, filter_in}
use Rattle.gx_gather.proofs.Orders.{Ascends, ascends, ascends_filter, ascends_unique, rec_total}
use Rattle.gx_model.specs.States.{File, Row}
use Rattle.gx_model.specs.Found.{meets_conds}
use Rattle.gx_scan.specs.Files.{rec_of, file_records}
use Rattle.gx_scan.specs.Within.{row_of, is_within, AreAdded}
use Rattle.gx_scan.proofs.PlaceLemmas.{key_cmp, entries_ascend}
use Rattle.gx_scan.proofs.ListingLemmas.{same_filter, filter_twice}

recs_below : (x : Row) (rs : List Row) → AllByRecursion (λ r. key_cmp x r ≡ Less) rs
    → AllByRecursion (λ s. rec_cmp (rec_of x) s ≡ Less) (map rec_of rs)
recs_below x [] h = tt
recs_below x (r ∷ rs) h = (ap (λ o. ordering_then o Equal) h.0, recs_below x rs h.1)

recs_ascend : (rs : List Row) → Ascends key_cmp rs → Ascends rec_cmp (map rec_of rs)
recs_ascend [] h = tt
recs_ascend (r ∷ rs) h = (recs_below r rs h.0, recs_ascend rs h.1)

key_inside : (span : Span) (r : Row)
    → is_inside span.lo span.hi (key_of (rec_of r).key) ≡ is_inside span.lo span.hi (bytes_of r.0)
key_inside span r = ap (is_inside span.lo span.hi) (append-nil (bytes_of r.0))

-- the selection has the file's records within the span, in the order of the file
pub selected_is : (f : File) (span : Span) (found : List Rec)
    → IsSelection (file_records f) span found
    → found ≡ map rec_of (filter (λ r. is_inside span.lo span.hi (bytes_of r.0))
    (fin.entries f))
selected_is f span found is =
    let test = λ (r : Row). is_inside span.lo span.hi (bytes_of r.0) in
    let rs = filter test (fin.entries f) in
    ascends_unique rec_total found (map rec_of rs) (ascends rec_cmp found is.in_order)
    (recs_ascend rs (ascends_filter key_cmp test (fin.entries f)
    (entries_ascend value_cmp (fin.entries f) (fin.entries_sorted f))))
    (λ q h.
    let s = is.sound q h in
    let r = from_map rec_of q (fin.entries f) s.0 in
    let met : test r.0 ≡ true = sym (key_inside span r.0)
    ∙ ap (λ (x : Rec). is_inside span.lo span.hi (key_of x.key)) (sym r.2) ∙ s.1 in
    subst (λ (x : Rec). In x (map rec_of rs)) (sym r.2)
    (in_map rec_of r.0 rs (filter_in test r.0 (fin.entries f) r.1 met)))
    (λ q h.
    let r = from_map rec_of q rs h in
    let kept = in_filter test r.0 (fin.entries f) r.1 in
    let there : In q (file_records f) =
    subst (λ (x : Rec). In x (file_records f)) (sym r.2)
    (in_map rec_of r.0 (fin.entries f) kept.0) in
    is.complete q there (ap (λ (x : Rec). is_inside span.lo span.hi (key_of x.key)) r.2
    ∙ key_inside span r.0 ∙ kept.1))

rows_again : (rs : List Row) → map row_of (map rec_of rs) ≡ rs
rows_again [] = refl
rows_again (r ∷ rs) = ap (λ (l : List Row). r ∷ l) (rows_again rs)

pub selected_added : (f : File) (span : Span) (conds : List Cond) (found : List Rec)
    (before now : List Row) → IsSelection (file_records f) span found
    → now ≡ before ++ filter (meets_conds conds) (map row_of found)
    → AreAdded span conds f before now
selected_added f span conds found before now is kept =
    let test = λ (r : Row). is_inside span.lo span.hi (bytes_of r.0) in
    let rs = filter test (fin.entries f) in
    let rows : map row_of found ≡ rs = ap (map row_of) (selected_is f span found is) ∙ rows_again rs
    in
    let those : filter (meets_conds conds) (map row_of found) ≡ filter (is_within span conds)
    (fin.entries f) = ap (filter (meets_conds conds)) rows
    ∙ filter_twice (meets_conds conds) test (fin.entries f) in
    record {
      added = filter (is_within span conds) (fin.entries f);
      appended = kept ∙ ap (λ (l : List Row). before ++ l) those;
      those = IsPermutation-refl (filter (is_within span conds) (fin.entries f));
    }

-- ---- the span of all keys

nothing_left : (front rest : List ℕ) → [] ≡ front ++ rest → rest ≡ []
nothing_left [] rest e = sym e
nothing_left (x ∷ front) rest e = cc

pub all_inside : (lo hi key : List ℕ) → lo ≡ [] → hi ≡ [] → is_inside lo hi key ≡ true
all_inside lo hi key l h = (λ i. is_inside (l i) (h i) key) ∙ each key
  where
    each : (key : List ℕ) → is_inside [] [] key ≡ true
    each [] = refl
    each (x ∷ key) = refl

pub second_alone : (a b : Bool) → (b ≡ true → a ≡ true) → (a && b) ≡ b
second_alone a true h = ap (λ (x : Bool). x && true) (h refl)
second_alone true false h = refl
second_alone false false h = refl

-- where the span has all records that meet the conditions, those within it are all that meet them
pub covered_added : (span : Span) (conds : List Cond) (f : File) (before now : List Row)
    → ((r : Row) → In r (fin.entries f) → meets_conds conds r ≡ true
    → is_inside span.lo span.hi (bytes_of r.0) ≡ true) → before ≡ []
    → AreAdded span conds f before now
    → IsPermutation (filter (meets_conds conds) (fin.entries f)) now
covered_added span conds f before now covers none is =
    let items : now ≡ is.added = is.appended ∙ ap (λ (l : List Row). l ++ is.added) none in
    let same = same_filter (is_within span conds) (meets_conds conds) (fin.entries f)
    (λ r h. second_alone (is_inside span.lo span.hi (bytes_of r.0)) (meets_conds conds r)
    (covers r h)) in
    subst (λ (l : List Row). IsPermutation l now) same
    (subst (IsPermutation (filter (is_within span conds) (fin.entries f))) (sym items) is.those)

-- where no record meets the conditions, none is all of them
pub none_added : (test : Row → Bool) (f : File) (now : List Row)
    → ((r : Row) → In r (fin.entries f) → test r ≡ false) → now ≡ []
    → IsPermutation (filter test (fin.entries f)) now
none_added test f now unmet none =
    subst (IsPermutation (filter test (fin.entries f)))
    (same_filter test (λ _. false) (fin.entries f) unmet ∙ nothing (fin.entries f) ∙ sym none)
    (IsPermutation-refl (filter test (fin.entries f)))
  where
    nothing : (xs : List Row) → filter (λ _. false) xs ≡ []
    nothing [] = refl
    nothing (x ∷ xs) = nothing xs
