-- The entries of a page that are given, one at a time.
use Rattle.std.proofs.Common.{◌≡◌, ◌≢◌, inl, ℕ, zero, suc, ◌+◌, ◌<◌, ◌≤◌, Bool, true, false, cond, List, [], ◌∷◌, ◌++◌, length, map, take, drop, get_or, refl, sym, ap, ap₂, ◌∙◌, subst, arith, append-nil, append_assoc}
use Rattle.std.specs.Prelude.{◌&&◌, filter}
use Rattle.std.specs.Cmp.Lexicographic.{slice_cmp}
use Rattle.std.specs.Ordering.{nat_cmp, is_le, is_gt}
use Rattle.std.specs.declared.cmp.Ordering.{Ordering}
use Rattle.std.specs.declared.cmp.Ordering.TheVariants.{Less, Equal, Greater}
use Rattle.std.proofs.lemmas.List.{drop_all, drop_more, length-drop}
use Rattle.gx_laws.proofs.OrderingLemmas.{not_gt_le, gt_not_le}
use Rattle.gx_bytes.specs.Page.{count_of}
use Rattle.gx_bytes.specs.Records.{HoldsRecords}
use Rattle.gx_bytes.proofs.RecordLemmas.{Passed, passed_none, passed_more, first_same, holds_first}
use Rattle.gx_values.specs.Keys.{is_inside}
use Rattle.gx_ports.specs.LeafMaps.{Extends}
use Rattle.gx_ports.specs.declared.leaves.Entry.{Entry as LeafEntry}
use Rattle.gx_ports.proofs.KeyLemmas.{front_le, le_trans}
use Rattle.gx_slots.specs.Entries.{Entry, IsFit, entry_bytes}
use Rattle.gx_slots.specs.Page.{IsAscendingPage, entries_of}
use Rattle.gx_slots.proofs.EntryLemmas.{entry_format}
use Rattle.gx_slots.proofs.PageLemmas.{body_holds, count_is}
use Rattle.gx_btree.specs.Order.{IsBelow}
use Rattle.gx_btree.specs.Selection.{given_entry, given_from, IsPastSpan}
use Rattle.gx_btree.specs.Tree.{Ascending}
use Rattle.gx_btree.proofs.EntryLemmas.{ascending_of}

abbrev pub is_given : List ℕ → List ℕ → List ℕ → Entry → Bool
is_given from lo hi e = is_le (slice_cmp nat_cmp from e.key) && is_inside lo hi e.key

-- ---- one entry

nothing_by : (from lo hi : List ℕ) (e : Entry) → is_given from lo hi e ≡ false
    → given_from from lo hi (e ∷ []) ≡ []
nothing_by from lo hi e is = ap (λ b. map given_entry (cond b (e ∷ []) [])) is

front_false : (a b c : Bool) → a ≡ false → (a && (b && c)) ≡ false
front_false a b c is = ap (λ x. x && (b && c)) is

middle_false : (a b c : Bool) → b ≡ false → (a && (b && c)) ≡ false
middle_false true b c is = ap (λ x. x && c) is
middle_false false b c is = refl

last_false : (a b c : Bool) → c ≡ false → (a && (b && c)) ≡ false
last_false true true c is = is
last_false true false c is = refl
last_false false b c is = refl

all_true : (a b c : Bool) → a ≡ true → b ≡ true → c ≡ true → (a && (b && c)) ≡ true
all_true a b c x y z = ap (λ n. n && (b && c)) x ∙ ap (λ n. n && c) y ∙ z

-- one below the key isn't given
pub given_not : (from lo hi : List ℕ) (e : Entry) → is_le (slice_cmp nat_cmp from e.key) ≡ false
    → given_from from lo hi (e ∷ []) ≡ []
given_not from lo hi e is =
    nothing_by from lo hi e (front_false _ (is_le (slice_cmp nat_cmp lo e.key))
    (is_le (slice_cmp nat_cmp (take (length hi) e.key) hi)) is)

-- nor one below the span
pub given_low : (from lo hi : List ℕ) (e : Entry) → is_le (slice_cmp nat_cmp lo e.key) ≡ false
    → given_from from lo hi (e ∷ []) ≡ []
given_low from lo hi e is =
    nothing_by from lo hi e (middle_false (is_le (slice_cmp nat_cmp from e.key)) _
    (is_le (slice_cmp nat_cmp (take (length hi) e.key) hi)) is)

-- nor one behind it
past_not : (from lo hi : List ℕ) (e : Entry) → IsPastSpan hi e.key → is_given from lo hi e ≡ false
past_not from lo hi e past =
    last_false (is_le (slice_cmp nat_cmp from e.key)) (is_le (slice_cmp nat_cmp lo e.key)) _
    (gt_not_le (slice_cmp nat_cmp (take (length hi) e.key) hi) past)

pub given_high : (from lo hi : List ℕ) (e : Entry) → IsPastSpan hi e.key
    → given_from from lo hi (e ∷ []) ≡ []
given_high from lo hi e past = nothing_by from lo hi e (past_not from lo hi e past)

pub given_it : (from lo hi : List ℕ) (e : Entry) → is_le (slice_cmp nat_cmp from e.key) ≡ true
    → is_le (slice_cmp nat_cmp lo e.key) ≡ true
    → is_gt (slice_cmp nat_cmp (take (length hi) e.key) hi) ≡ false
    → given_from from lo hi (e ∷ []) ≡ given_entry e ∷ []
given_it from lo hi e up low within =
    ap (λ b. map given_entry (cond b (e ∷ []) []))
    (all_true _ _ _ up low (not_gt_le (slice_cmp nat_cmp (take (length hi) e.key) hi) within))

-- ---- entries, from the first on

cons_cases : (b : Bool) (e : Entry) (ys : List Entry)
    → map given_entry (cond b (e ∷ ys) ys)
    ≡ map given_entry (cond b (e ∷ []) []) ++ map given_entry ys
cons_cases true e ys = refl
cons_cases false e ys = refl

given_cons : (from lo hi : List ℕ) (e : Entry) (es : List Entry)
    → given_from from lo hi (e ∷ es) ≡ given_from from lo hi (e ∷ []) ++ given_from from lo hi es
given_cons from lo hi e es = cons_cases (is_given from lo hi e) e (filter (is_given from lo hi) es)

-- a key behind one that stands behind the span does too
not_within : (o : Ordering) → (is_le o ≡ true → ⊥) → is_gt o ≡ true
not_within Less h = absurd (h refl)
not_within Equal h = absurd (h refl)
not_within Greater h = refl

clash_of : (o : Ordering) → is_le o ≡ true → is_gt o ≡ true → ⊥
clash_of Less h k = let never : ⊥ = cc in never
clash_of Equal h k = let never : ⊥ = cc in never
clash_of Greater h k = let never : ⊥ = cc in never

past_up : (hi a b : List ℕ) → IsBelow a b → IsPastSpan hi a → IsPastSpan hi b
past_up hi a b below past =
    not_within (slice_cmp nat_cmp (take (length hi) b) hi)
    (λ le. clash_of (slice_cmp nat_cmp (take (length hi) a) hi)
    (le_trans (take (length hi) a) (take (length hi) b) hi (front_le (length hi) a b below) le)
    past)

past_all : (from lo hi : List ℕ) (e : Entry) (es : List Entry) → Ascending (e ∷ es)
    → IsPastSpan hi e.key
    → given_from from lo hi (e ∷ es) ≡ []
past_all from lo hi e [] up past = given_high from lo hi e past
past_all from lo hi e (x ∷ es) up past =
    given_cons from lo hi e (x ∷ es)
    ∙ ap₂ (λ (xs ys : List LeafEntry). xs ++ ys) (given_high from lo hi e past)
    (past_all from lo hi x es up.1 (past_up hi e.key x.key (up.0 x (inl refl)) past))

ascending_drop : (n : ℕ) (es : List Entry) → Ascending es → Ascending (drop n es)
ascending_drop zero es up = up
ascending_drop (suc n) [] up = up
ascending_drop (suc n) (e ∷ es) up = ascending_drop n es up.1

-- ---- the walk over a page

-- so many entries of a page were passed, and gave what they have to give
pub record ArePassed (before : List LeafEntry) (from lo hi page body : List ℕ) (place : ℕ)
    (out : List LeafEntry)
    (rest : List ℕ) : Type 0 where
  pub passed : Passed entry_bytes IsFit (entries_of page) place body rest
  pub gives : out ++ given_from from lo hi (drop place (entries_of page))
      ≡ before ++ given_from from lo hi (entries_of page)

pub record IsGiving (before : List LeafEntry) (from lo hi page body : List ℕ) (place : ℕ)
    (out : List LeafEntry)
    (rest : List ℕ) : Type 0 where
  pub front : Extends before out
  pub passed : IsAscendingPage page → ArePassed before from lo hi page body place out rest

pub giving_starts : (before : List LeafEntry) (from lo hi page body : List ℕ) → body ≡ drop 8 page
    → IsGiving before from lo hi page (drop 8 page) 0 before body
giving_starts before from lo hi page body behind =
    record {
      front = ([], sym (append-nil before));
      passed = λ up. record {
        passed = subst (λ b. Passed entry_bytes IsFit (entries_of page) 0 b body) behind
            (passed_none entry_format (entries_of page) body (body_holds page body up.page behind));
        gives = refl;
      };
    }

module _ (before : List LeafEntry) (from lo hi page body : List ℕ) (place : ℕ)
    (out : List LeafEntry)
    (rest : List ℕ) (count : ℕ) (g : IsGiving before from lo hi page body place out rest)
    (counted : count ≡ count_of page) where
  inside : place < count → IsAscendingPage page → place < length (entries_of page)
  inside below up = omega (arith, below, counted, count_is page up.page)

  -- an entry is ahead
  pub giving_cut : place < count
      → ((e : Entry) (tail : List ℕ) → IsFit e → rest ≢ entry_bytes e ++ tail)
      → IsAscendingPage page → ⊥
  giving_cut below none up =
      holds_first entry_format (drop place (entries_of page)) rest (g.passed up).passed.ahead
      (omega (arith, inside below up, length-drop place (entries_of page))) none

  module _ (e : Entry) (behind : List ℕ) (below : place < count) (fit : IsFit e)
      (is : rest ≡ entry_bytes e ++ behind) where
    next_is : (up : IsAscendingPage page)
        → drop place (entries_of page) ≡ e ∷ drop (place + 1) (entries_of page)
    next_is up =
        let es = entries_of page in
        let more = drop_more es place e (inside below up) in
        let same =
        first_same entry_format (get_or es place e) e (drop (place + 1) es) rest behind
        (subst (λ xs. HoldsRecords entry_bytes IsFit xs rest) more (g.passed up).passed.ahead) fit
        is in
        more ∙ ap (λ (x : Entry). x ∷ drop (place + 1) es) (sym same)

    pub giving_more : (new : List LeafEntry) → new ≡ out ++ given_from from lo hi (e ∷ [])
        → IsGiving before from lo hi page body (place + 1) new behind
    giving_more new new_is = record {
      front = (
        g.front.0 ++ given_from from lo hi (e ∷ []),
        new_is
            ∙ ap (λ (xs : List LeafEntry). xs ++ given_from from lo hi (e ∷ [])) g.front.1
            ∙ append_assoc before g.front.0 (given_from from lo hi (e ∷ [])),
      );
      passed = λ up.
          let es = entries_of page in
          let p = g.passed up in
          let ahead = given_from from lo hi (drop (place + 1) es) in
          record {
            passed = passed_more entry_format es place body rest e behind p.passed (inside below up)
                fit is;
            gives =
                ap (λ (xs : List LeafEntry). xs ++ ahead) new_is
                ∙ append_assoc out (given_from from lo hi (e ∷ [])) ahead
                ∙ ap (λ (xs : List LeafEntry). out ++ xs)
                (sym (given_cons from lo hi e (drop (place + 1) es)))
                ∙ ap (λ (xs : List Entry). out ++ given_from from lo hi xs) (sym (next_is up))
                ∙ p.gives;
          };
    }

    -- behind the span there is nothing more
    pub giving_past : (new : List LeafEntry) → new ≡ out ++ given_from from lo hi (e ∷ [])
        → IsPastSpan hi e.key
        → IsAscendingPage page → new ≡ before ++ given_from from lo hi (entries_of page)
    giving_past new new_is past up =
        let es = entries_of page in
        let left = drop (place + 1) es in
        let rises =
        subst Ascending (next_is up) (ascending_drop place es (ascending_of es up.ascending)) in
        new_is
        ∙ ap (λ (xs : List LeafEntry). out ++ xs)
        (given_high from lo hi e past ∙ sym (past_all from lo hi e left rises past))
        ∙ ap (λ (xs : List Entry). out ++ given_from from lo hi xs) (sym (next_is up))
        ∙ (g.passed up).gives

  pub giving_ended : count ≤ place → IsAscendingPage page
      → out ≡ before ++ given_from from lo hi (entries_of page)
  giving_ended over up =
      let es = entries_of page in
      sym (append-nil out) ∙ ap (λ (xs : List Entry). out ++ given_from from lo hi xs)
      (sym (drop_all place es (omega (arith, over, counted, count_is page up.page))))
      ∙ (g.passed up).gives
