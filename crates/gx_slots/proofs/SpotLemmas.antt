-- The spot of a key, as entries are looked at one after the other.
use Rattle.std.proofs.Common.{◌≡◌, ◌≢◌, ◌↔◌, inl, inr, ℕ, zero, suc, ◌+◌, ◌-◌, ◌<◌, ◌≤◌, true, false, List, [], ◌∷◌, ◌++◌, length, take, drop, get_or, Bool, Option, None, Some, MatchOption, refl, sym, ap, ◌∙◌, subst, arith, length-append}
use Rattle.std.specs.List.{All, HoldsAt, flat_map, remove, sum_by}
use Rattle.std.specs.Ordering.{is_le, ordering_reverse}
use Rattle.std.specs.declared.cmp.Ordering.TheVariants.{Less, Equal}
use Rattle.std.proofs.lemmas.Bool.{false≢true, cases_Bool}
use Rattle.std.proofs.lemmas.Cmp.{nat_list_cmp_total, tied_itself}
use Rattle.std.proofs.lemmas.List.{take_all, drop_all, take-append-le, drop-append-le, get_or_at, get_or-drop, get_or_append_left, drop-drop, length-drop, length_push}
use Rattle.std.proofs.lemmas.List.Edits.{length-remove}
use Rattle.std.proofs.lemmas.List.Elements.{All-drop, All-nil, All-push}
use Rattle.std.proofs.lemmas.List.Sums.{sum_by-remove}
use Rattle.gx_bytes.specs.Page.{count_of}
use Rattle.gx_bytes.proofs.RecordLemmas.{found_more, length-flat_map, records-cons, records-held}
use Rattle.gx_bytes.proofs.ScanLemmas.{Scanned}
use Rattle.gx_order.proofs.BelowLemmas.{cmp}
use Rattle.gx_slots.specs.declared.seeking.Spot.{Spot}
use Rattle.gx_slots.specs.declared.seeking.Sought.{Sought}
use Rattle.gx_slots.specs.Entries.{Entry, IsFit, AreAscending, entry_bytes, entry_len, entries_in}
use Rattle.gx_slots.specs.Page.{IsAscendingPage, entries_of, used_by}
use Rattle.gx_slots.specs.Scan.{HoldsAscending}
use Rattle.gx_slots.specs.Spots.{IsSpot, IsRankOf, IsSought}
use Rattle.gx_slots.proofs.AscendingLemmas.{scanned_page, page_scanned}
use Rattle.gx_slots.proofs.EntryLemmas.{entry_format}
use Rattle.gx_slots.proofs.OrderLemmas.{le_less}
use Rattle.gx_slots.proofs.PageLemmas.{body_entries, count_is}

-- keys that differ, by their order
pub differ_before : (a key : List ℕ) → cmp a key ≡ Less → a ≢ key
differ_before a key less same =
    let clash : Less ≡ Equal =
    sym less ∙ ap (cmp a) (sym same) ∙ tied_itself nat_list_cmp_total a in cc

differ_over : (key a b : List ℕ) → is_le (cmp key a) ≡ true → cmp a b ≡ Less → b ≢ key
differ_over key a b le less same =
    let turned : is_le (cmp key a) ≡ false =
    ap is_le (nat_list_cmp_total.antisymm key a
    ∙ ap ordering_reverse (subst (λ (x : List ℕ). cmp a x ≡ Less) same less)) in
    false≢true (sym turned ∙ le)

-- a key isn't there where its spot is the end
pub none_there : (key : List ℕ) (entries : List Entry) (sought : Sought)
    → IsSought key entries sought → length entries ≤ sought.spot.place → sought.is_there ≡ false
none_there key entries sought is end = elim (cases_Bool sought.is_there) [
  | inl there ↦ absurd (let found = is.found there in omega (arith, found.0, end))
  | inr absent ↦ absent
]

none_at_end : (key : List ℕ) (entries : List Entry) (sought : Sought)
    → IsSought key entries sought → length entries ≤ sought.spot.place
    → All (λ entry. entry.key ≢ key) entries
none_at_end key entries sought is end = is.missing (none_there key entries sought is end)

-- one entry more, whose key doesn't stand before the one that is sought
stays : (key : List ℕ) (entries : List Entry) (entry : Entry) (sought new : Sought)
    → IsSought key entries sought → new.spot.place ≡ sought.spot.place
    → new.spot.at ≡ sought.spot.at
    → new.spot.end ≡ used_by (entries ++ entry ∷ []) → is_le (cmp key entry.key) ≡ true
    → (new.is_there ≡ true → (sought.spot.place < length (entries ++ entry ∷ []))
    × HoldsAt (λ e. e.key ≡ key) (entries ++ entry ∷ []) sought.spot.place)
    → (new.is_there ≡ false → All (λ e. e.key ≢ key) (entries ++ entry ∷ []))
    → IsSought key (entries ++ entry ∷ []) new
stays key entries entry sought new is place at end le found missing =
    let all = entries ++ entry ∷ [] in
    let i = sought.spot.place in
    let within = is.rank.within in
    let front : take i all ≡ take i entries = take-append-le i entries (entry ∷ []) within in
    let back : drop i all ≡ drop i entries ++ entry ∷ [] =
    drop-append-le i entries (entry ∷ []) within in
    let rank : IsRankOf key all i = record {
      within = omega (arith, within, length_push entries entry);
      before = subst (All (λ e. cmp e.key key ≡ Less)) (sym front) is.rank.before;
      behind = subst (All (λ e. is_le (cmp key e.key) ≡ true)) (sym back)
          (All-push (λ e. is_le (cmp key e.key) ≡ true) (drop i entries) entry is.rank.behind le);
    } in
    record {
      spot = record {
        place = omega (arith, place, within, length_push entries entry);
        at = at ∙ is.spot.at ∙ ap used_by (sym front)
            ∙ ap (λ (n : ℕ). used_by (take n all)) (sym place);
        end = end;
      };
      rank = subst (IsRankOf key all) (sym place) rank;
      found = λ there. subst
          (λ (n : ℕ). (n < length all) × HoldsAt (λ e. e.key ≡ key) all n) (sym place)
          (found there);
      missing = missing;
    }

-- what a search came to among these entries, by its parts
abbrev pub sought_at : ℕ → ℕ → Bool → List Entry → Sought
sought_at place at is_there entries = record {
  spot = record { place = place; at = at; end = used_by entries };
  is_there = is_there;
}

pub parts_sought : (key : List ℕ) (entries : List Entry) (sought : Sought)
    → IsSought key entries sought
    → IsSought key entries (sought_at sought.spot.place sought.spot.at sought.is_there entries)
parts_sought key entries sought is = record {
  spot = record { place = is.spot.place; at = is.spot.at; end = refl };
  rank = is.rank;
  found = is.found;
  missing = is.missing;
}

pub sought_parts : (key : List ℕ) (entries : List Entry) (sought : Sought)
    → IsSought key entries (sought_at sought.spot.place sought.spot.at sought.is_there entries)
    → sought.spot.end ≡ used_by entries → IsSought key entries sought
sought_parts key entries sought is end = record {
  spot = record { place = is.spot.place; at = is.spot.at; end = end };
  rank = is.rank;
  found = is.found;
  missing = is.missing;
}

-- the spot was passed before
pub passed_on : (key : List ℕ) (entries : List Entry) (entry : Entry) (sought new : Sought)
    → AreAscending (entries ++ entry ∷ []) → IsSought key entries sought
    → sought.spot.place < length entries
    → new.spot.place ≡ sought.spot.place → new.spot.at ≡ sought.spot.at
    → new.spot.end ≡ used_by (entries ++ entry ∷ []) → new.is_there ≡ sought.is_there
    → IsSought key (entries ++ entry ∷ []) new
passed_on key entries entry sought new ascending is inside place at end there_is =
    let all = entries ++ entry ∷ [] in
    let i = sought.spot.place in
    let there : get_or all i entry ≡ get_or entries i entry =
    get_or_append_left entries (entry ∷ []) entry i inside in
    let last : get_or all (length entries) entry ≡ entry =
    get_or_at entries entry [] entry (length entries) refl in
    let le : is_le (cmp key (get_or entries i entry).key) ≡ true =
    subst (λ (e : Entry). is_le (cmp key e.key) ≡ true)
    (get_or-drop i entries 0 entry
    ∙ ap (λ (n : ℕ). get_or entries n entry) (let n : i + 0 ≡ i = omega arith in n))
    (is.rank.behind 0 entry (omega (arith, length-drop i entries, inside))) in
    let less : cmp (get_or entries i entry).key entry.key ≡ Less =
    subst (λ (e : Entry). cmp (get_or entries i entry).key e.key ≡ Less) last
    (subst (λ (e : Entry). cmp e.key (get_or all (length entries) entry).key ≡ Less) there
    (ascending i (length entries) entry inside (omega (arith, length_push entries entry)))) in
    stays key entries entry sought new is place at end
    (le_less key (get_or entries i entry).key entry.key le less)
    (λ is_there. let found = is.found (sym there_is ∙ is_there) in (
      omega (arith, found.0, length_push entries entry),
      λ d. ap (λ (e : Entry). e.key) (get_or_append_left entries (entry ∷ []) d i inside)
          ∙ found.1 d,
    ))
    (λ absent. All-push (λ e. e.key ≢ key) entries entry (is.missing (sym there_is ∙ absent))
    (differ_over key (get_or entries i entry).key entry.key le less))

-- its key doesn't stand before
pub passed_stop : (key : List ℕ) (entries : List Entry) (entry : Entry) (sought new : Sought)
    → IsSought key entries sought → length entries ≤ sought.spot.place
    → new.spot.place ≡ sought.spot.place → new.spot.at ≡ sought.spot.at
    → new.spot.end ≡ used_by (entries ++ entry ∷ []) → is_le (cmp key entry.key) ≡ true
    → (new.is_there ≡ true ↔ entry.key ≡ key) → IsSought key (entries ++ entry ∷ []) new
passed_stop key entries entry sought new is over place at end le same =
    let i : sought.spot.place ≡ length entries = omega (arith, over, is.rank.within) in
    stays key entries entry sought new is place at end le
    (λ there. (
      omega (arith, is.rank.within, length_push entries entry),
      λ d. ap (λ (e : Entry). e.key) (get_or_at entries entry [] d sought.spot.place (sym i))
          ∙ same.0 there,
    ))
    (λ absent. All-push (λ e. e.key ≢ key) entries entry (none_at_end key entries sought is over)
    (λ is_key. false≢true (sym absent ∙ same.1 is_key)))

-- its key stands before
pub passed_less : (key : List ℕ) (entries : List Entry) (entry : Entry) (sought new : Sought)
    → IsSought key entries sought → length entries ≤ sought.spot.place
    → new.spot.place ≡ length entries + 1 → new.spot.at ≡ used_by (entries ++ entry ∷ [])
    → new.spot.end ≡ used_by (entries ++ entry ∷ []) → new.is_there ≡ false
    → cmp entry.key key ≡ Less → IsSought key (entries ++ entry ∷ []) new
passed_less key entries entry sought new is over place at end absent less =
    let all = entries ++ entry ∷ [] in
    let i = new.spot.place in
    let reach : length all ≤ i = omega (arith, place, length_push entries entry) in
    let whole : take i all ≡ all = take_all i all reach in
    let front : take sought.spot.place entries ≡ entries =
    take_all sought.spot.place entries over in
    record {
      spot = record {
        place = omega (arith, place, length_push entries entry);
        at = at ∙ ap used_by (sym whole);
        end = end;
      };
      rank = record {
        within = omega (arith, place, length_push entries entry);
        before = subst (All (λ e. cmp e.key key ≡ Less)) (sym whole)
            (All-push (λ e. cmp e.key key ≡ Less) entries entry
            (subst (All (λ e. cmp e.key key ≡ Less)) front is.rank.before) less);
        behind = subst (All (λ e. is_le (cmp key e.key) ≡ true)) (sym (drop_all i all reach))
            (All-nil (λ e. is_le (cmp key e.key) ≡ true));
      };
      found = λ there. absurd (false≢true (sym absent ∙ there));
      missing = λ _. All-push (λ e. e.key ≢ key) entries entry
          (none_at_end key entries sought is over) (differ_before entry.key key less);
    }

-- a search among no entries
pub sought_none : (key : List ℕ)
    → IsSought key [] (record { spot = record { place = 0; at = 8; end = 8 }; is_there = false })
sought_none key = record {
  spot = record { place = omega arith; at = refl; end = refl };
  rank = record {
    within = omega arith;
    before = All-nil (λ e. cmp e.key key ≡ Less);
    behind = All-nil (λ e. is_le (cmp key e.key) ≡ true);
  };
  found = λ there. absurd (false≢true there);
  missing = λ _. All-nil (λ e. e.key ≢ key);
}

-- the parts of a list without the element at a place
pub take_removed : (entries : List Entry) (i : ℕ) → take i (remove entries i) ≡ take i entries
take_removed [] zero = refl
take_removed [] (suc i) = refl
take_removed (x ∷ xs) zero = refl
take_removed (x ∷ xs) (suc i) = ap (λ (es : List Entry). x ∷ es) (take_removed xs i)

pub drop_removed : (entries : List Entry) (i : ℕ) → drop i (remove entries i) ≡ drop (suc i) entries
drop_removed [] zero = refl
drop_removed [] (suc i) = refl
drop_removed (x ∷ xs) zero = refl
drop_removed (x ∷ xs) (suc i) = drop_removed xs i

-- the place of a key stays without the entry there
pub rank_removed : (key : List ℕ) (entries : List Entry) (i : ℕ) → IsRankOf key entries i
    → i < length entries → IsRankOf key (remove entries i) i
rank_removed key entries i rank below = record {
  within = let len = length-remove entries i below in omega (arith, below, len);
  before = subst (All (λ e. cmp e.key key ≡ Less)) (sym (take_removed entries i)) rank.before;
  behind = subst (All (λ e. is_le (cmp key e.key) ≡ true))
      (drop-drop 1 i entries
      ∙ ap (λ (n : ℕ). drop n entries) (let n : i + 1 ≡ suc i = omega arith in n)
      ∙ sym (drop_removed entries i))
      (All-drop (λ e. is_le (cmp key e.key) ≡ true) 1 (drop i entries) rank.behind);
}

-- so is its spot, and the last entry ends so many bytes before
pub spot_removed : (entries : List Entry) (spot new : Spot) (len : ℕ) (d : Entry)
    → IsSpot entries spot → spot.place < length entries
    → len ≡ entry_len (get_or entries spot.place d) → new.place ≡ spot.place → new.at ≡ spot.at
    → new.end ≡ spot.end - len → IsSpot (remove entries spot.place) new
spot_removed entries spot new len d is below len_is place at end = record {
  place = let size = length-remove entries spot.place below in omega (arith, place, below, size);
  at = at ∙ is.at ∙ ap used_by (sym (take_removed entries spot.place))
      ∙ ap (λ (n : ℕ). used_by (take n (remove entries spot.place))) (sym place);
  end = let sum = sum_by-remove entry_len entries spot.place d below in
      omega (arith, end, is.end, sum, len_is);
}

-- the entries that a scan has found
module _ (bytes : List ℕ) (place : ℕ) (rest last : List ℕ)
    (scan : Scanned entry_bytes IsFit (λ entry. entry.key) bytes place rest last) where
  all_is : entries_in place bytes ≡ scan.before ++ scan.end ∷ []
  all_is =
      ap (λ (n : ℕ). entries_in n bytes) (sym (length_push scan.before scan.end ∙ scan.count))
      ∙ records-held entry_format (scan.before ++ scan.end ∷ []) bytes
      (record { fit = scan.fit; rest = rest; is = scan.is })

  pub scan_up : AreAscending (entries_in place bytes)
  scan_up = subst AreAscending (sym all_is) scan.ascending

  pub scan_len : length bytes ≡ sum_by entry_len (entries_in place bytes) + length rest
  scan_len =
      ap length scan.is
      ∙ length-append (flat_map entry_bytes (scan.before ++ scan.end ∷ [])) rest
      ∙ ap (λ (n : ℕ). n + length rest)
      (length-flat_map entry_format (scan.before ++ scan.end ∷ [])
      ∙ ap (sum_by entry_len) (sym all_is))

  pub scan_more : (entry : Entry) (behind : List ℕ) → IsFit entry
      → rest ≡ entry_bytes entry ++ behind
      → entries_in (place + 1) bytes ≡ entries_in place bytes ++ entry ∷ []
  scan_more entry behind fit is =
      let front = scan.before ++ scan.end ∷ [] in
      let size : length (front ++ entry ∷ []) ≡ place + 1 =
      omega (arith, length_push front entry, length_push scan.before scan.end, scan.count) in
      ap (λ (n : ℕ). entries_in n bytes) (sym size)
      ∙ records-held entry_format (front ++ entry ∷ []) bytes
      (record {
        fit = All-push IsFit front entry scan.fit fit;
        rest = behind;
        is = found_more entry_format front entry bytes rest behind scan.is is;
      })
      ∙ ap (λ (es : List Entry). es ++ entry ∷ []) (sym all_is)

pub scan_one : (bytes : List ℕ) (entry : Entry) (behind : List ℕ) → IsFit entry
    → bytes ≡ entry_bytes entry ++ behind → entries_in 1 bytes ≡ entry ∷ []
scan_one bytes entry behind fit is = records-cons entry_format 0 entry bytes behind fit is

pub one_up : (entry : Entry) → AreAscending (entry ∷ [])
one_up entry i j d lt below = absurd (omega (arith, lt, below))

-- a page whose entries were walked through
pub record IsWalked (page key : List ℕ) (found : Sought) : Type 0 where
  pub ascending : IsAscendingPage page
  pub sought : IsSought key (entries_of page) found

pub walked : (page body key : List ℕ) (count : ℕ) (found : Sought) → length page ≡ 4096
    → get_or page 0 0 ≡ 0x44 → get_or page 1 0 ≡ 0 → ((i : ℕ) → get_or page i 0 < 256)
    → body ≡ drop 8 page → count ≡ count_of page → HoldsAscending count body
    → IsSought key (entries_in count body) found → IsWalked page key found
walked page body key count found size kind blank small behind counted held is =
    let page_is = scanned_page page body count size kind blank small behind counted held in
    record {
      ascending = page_is;
      sought = subst (λ (es : List Entry). IsSought key es found)
          (body_entries page body count page_is.page behind (counted ∙ count_is page page_is.page))
          is;
    }

-- what a walk through the bytes behind a header tells of the page
pub walk_told : (page body key : List ℕ) (count : ℕ) (r : Option Sought) → length page ≡ 4096
    → get_or page 0 0 ≡ 0x44 → get_or page 1 0 ≡ 0 → ((i : ℕ) → get_or page i 0 < 256)
    → body ≡ drop 8 page → count ≡ count_of page
    → MatchOption r (¬ HoldsAscending count body)
    (λ found. HoldsAscending count body × IsSought key (entries_in count body) found)
    → MatchOption r (¬ IsAscendingPage page)
    (λ found. IsAscendingPage page × IsSought key (entries_of page) found)
walk_told page body key count None size kind blank small behind counted none =
    λ is. none (page_scanned page body count behind counted is)
walk_told page body key count (Some found) size kind blank small behind counted is =
    let w = walked page body key count found size kind blank small behind counted is.0 is.1 in
    (w.ascending, w.sought)
