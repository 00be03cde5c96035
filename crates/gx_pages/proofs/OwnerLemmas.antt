-- The owners of pages, by index and as a list.
use Rattle.std.proofs.Common.{◌≡◌, ◌≢◌, ◌⊎◌, inl, inr, ℕ, ◌+◌, ◌*◌, ◌/◌, ◌%◌, ◌^◌, ◌<◌, ◌≤◌, List, [], length, get_or, set, refl, sym, ap, subst, ◌∙◌, arith, length-set}
use Rattle.std.specs.Prelude.{slice_get, Option, Some, None}
use Rattle.std.specs.Int.{w16, to_be_bytes}
use Rattle.std.proofs.lemmas.Bool.{cases_lt}
use Rattle.std.proofs.lemmas.Bool.Decides.{eqb_tells}
use Rattle.std.proofs.lemmas.List.{same_lists, get_or-set_same, get_or-set_other}
use Rattle.std.proofs.lemmas.List.FromFn.{get_or-map-range_with_len}
use Rattle.std.proofs.lemmas.Option.{slice_get-get_or, slice_get_past, get_or_from_slice_get, MatchOption-at_none}
use Rattle.gx_bytes.specs.Parts.{overwritten}
use Rattle.gx_ports.specs.Sheets.{Ground, IsPast, IsOwnedAnew, IsClaimed, HasNone}
use Rattle.gx_pages.specs.Owners.{owner_number, owner_at, page_owners, sheets_of, IsFreeBetween, IsFoundFree, IsClear, IsAllFree}
use Rattle.gx_pages.specs.Laws.{count_owners}
use Rattle.gx_pages.proofs.TableLemmas.{number_set, number_other}

listed : (pages : List (List ℕ)) (page d : ℕ) → page < length pages
    → get_or (page_owners pages) page d ≡ owner_at pages page
listed pages page d below =
    get_or-map-range_with_len (owner_at pages) 0 (length pages) page page d below (omega arith)

pub owner_listed : (pages : List (List ℕ)) (page owner : ℕ) → page < length pages
    → owner_at pages page ≡ owner
    → slice_get (page_owners pages) page ≡ Some owner
owner_listed pages page owner below is =
    slice_get-get_or (page_owners pages) page 0 (omega (arith, below, count_owners pages))
    ∙ ap Some (listed pages page 0 below ∙ is)

pub listed_owner : (pages : List (List ℕ)) (page owner : ℕ) → page < length pages
    → slice_get (page_owners pages) page ≡ Some owner
    → owner_at pages page ≡ owner
listed_owner pages page owner below is = sym (listed pages page 0 below)
    ∙ get_or_from_slice_get (page_owners pages) page owner 0 is

-- another page stays where one is written
pub page_other : (pages : List (List ℕ)) (page other : ℕ) (bytes : List ℕ) → other ≢ page
    → slice_get (set pages page bytes) other ≡ slice_get pages other
page_other pages page other bytes differ = cases (cases_lt other (length pages)) where
  same : length (set pages page bytes) ≡ length pages
  same = length-set pages page bytes

  cases : ((other < length pages) ⊎ (length pages ≤ other))
      → slice_get (set pages page bytes) other ≡ slice_get pages other
  cases (inl low) = slice_get-get_or (set pages page bytes) other [] (omega (arith, low, same))
      ∙ ap Some (get_or-set_other pages page other bytes [] differ)
      ∙ sym (slice_get-get_or pages other [] low)
  cases (inr high) = slice_get_past (set pages page bytes) other (omega (arith, high, same))
      ∙ sym (slice_get_past pages other high)

-- owners by index make the list
owners_by : (pages next : List (List ℕ)) (page owner : ℕ) → length next ≡ length pages
    → page < length pages → owner_at next page ≡ owner
    → ((other : ℕ) → other ≢ page → owner_at next other ≡ owner_at pages other)
    → page_owners next ≡ set (page_owners pages) page owner
owners_by pages next page owner same below here others =
    let xs = page_owners next in
    let ys = page_owners pages in
    same_lists xs (set ys page owner) (count_owners next ∙ same ∙ sym (count_owners pages)
    ∙ sym (length-set ys page owner)) (λ k d lt.
    let under : k < length next = omega (arith, lt, count_owners next) in
    let within : k < length pages = omega (arith, under, same) in
    listed next k d under ∙ (elim (eqb_tells k page) [
      | inl at ↦ ap (owner_at next) at.1 ∙ here
          ∙ sym (get_or-set_same ys page owner d (omega (arith, below, count_owners pages)))
          ∙ ap (λ (n : ℕ). get_or (set ys page owner) n d) (sym at.1)
      | inr off ↦ others k off.1 ∙ sym (listed pages k d within)
          ∙ sym (get_or-set_other ys page k owner d off.1)
    ]))

-- the number of a page is written, and that of no other
module _ (pages : List (List ℕ)) (page owner : ℕ) (bytes : List ℕ) (below : page < length pages)
    (whole : length (get_or pages (page / 2048) []) ≡ 4096) (fits : owner < 2 ^ 16)
    (is : bytes ≡ overwritten (get_or pages (page / 2048) []) (2 * (page % 2048))
    (to_be_bytes w16 owner)) where
  table_there : get_or (set pages (page / 2048) bytes) (page / 2048) [] ≡ overwritten
      (get_or pages (page / 2048) []) (2 * (page % 2048))
      (to_be_bytes w16 owner)
  table_there = get_or-set_same pages (page / 2048) bytes [] (omega (arith, below)) ∙ is

  owner_here : owner_at (set pages (page / 2048) bytes) page ≡ owner
  owner_here = ap (λ (t : List ℕ). owner_number t page) table_there
      ∙ number_set (get_or pages (page / 2048) []) page owner whole fits

  owner_other : (other : ℕ) → other ≢ page
      → owner_at (set pages (page / 2048) bytes) other ≡ owner_at pages other
  owner_other other differ = elim (eqb_tells (other / 2048) (page / 2048)) [
    | inl same ↦ (let s = same.1 in
        ap (λ (k : ℕ). owner_number (get_or (set pages (page / 2048) bytes) k []) other) s
        ∙ ap (λ (t : List ℕ). owner_number t other) table_there
        ∙ number_other (get_or pages (page / 2048) []) (to_be_bytes w16 owner) page other whole refl
        (λ e. differ (omega (arith, s, e)))
        ∙ ap (λ (k : ℕ). owner_number (get_or pages k []) other) (sym s))
    | inr off ↦ ap (λ (t : List ℕ). owner_number t other)
        (get_or-set_other pages (page / 2048) (other / 2048) bytes [] off.1)
  ]

  pub owners_set : page_owners (set pages (page / 2048) bytes) ≡ set (page_owners pages) page owner
  owners_set =
      owners_by pages (set pages (page / 2048) bytes) page owner
      (length-set pages (page / 2048) bytes) below owner_here owner_other

-- pages past the table have no part in the owners
pub owners_past : (pages : List (List ℕ)) (tables page : ℕ) (bytes : List ℕ)
    → length pages ≤ 2048 * tables → tables ≤ page
    → page_owners (set pages page bytes) ≡ page_owners pages
owners_past pages tables page bytes few past =
    let next = set pages page bytes in
    let same = length-set pages page bytes in
    same_lists (page_owners next) (page_owners pages) (count_owners next ∙ same
    ∙ sym (count_owners pages)) (λ k d lt.
    let under : k < length next = omega (arith, lt, count_owners next) in
    let within : k < length pages = omega (arith, under, same) in
    listed next k d under ∙ ap (λ (t : List ℕ). owner_number t k)
    (get_or-set_other pages page (k / 2048) bytes []
    (λ e. absurd (omega (arith, e, past, few, within)))) ∙ sym (listed pages k d within))

-- so a page has another owner, and all past the table is as it was
pub owned_anew : (base : Ground) (pages next : List (List ℕ)) (page owner : ℕ)
    (table bytes : List ℕ) → page < length pages → length pages ≤ 2048 * base.tables
    → owner < 2 ^ 16 → length table ≡ 4096
    → table ≡ get_or pages (page / 2048) []
    → bytes ≡ overwritten table (2 * (page % 2048)) (to_be_bytes w16 owner)
    → next ≡ set pages (page / 2048) bytes
    → IsOwnedAnew page owner base (sheets_of pages) (sheets_of next)
owned_anew base pages next page owner table bytes below few fits whole read is next_is =
    record {
      owners = ap page_owners next_is
          ∙ owners_set pages page owner bytes below (ap (λ (t : List ℕ). length t) (sym read)
          ∙ whole) fits
          (is ∙ ap (λ (t : List ℕ). overwritten t (2 * (page % 2048)) (to_be_bytes w16 owner))
          read);
      bytes = λ other past. ap (λ (ps : List (List ℕ)). slice_get ps other) next_is
          ∙ page_other pages (page / 2048) other bytes
          (λ e. absurd (omega (arith, e, past, few, below)));
    }

pub sheets_written : (pages next : List (List ℕ)) (tables page : ℕ) (bytes : List ℕ)
    → length pages ≤ 2048 * tables → tables ≤ page → next ≡ set pages page bytes
    → sheets_of next ≡ record { owners = page_owners pages; bytes = set pages page bytes }
sheets_written pages next tables page bytes few past is =
    ap sheets_of is ∙ (λ i.
    record { owners = owners_past pages tables page bytes few past i; bytes = set pages page bytes })

-- where no free page is found, none is free
pub none_free : (base : Ground) (pages : List (List ℕ)) (found : Option ℕ)
    → length pages ≡ base.size → length pages ≤ 2048 * base.tables → found ≡ None
    → IsFoundFree 0 base.tables base pages found → HasNone base (sheets_of pages)
none_free base pages found long few none free page past is =
    let below : page < length pages = omega (arith, past.below, long) in
    MatchOption-at_none _ _ none free page (omega arith) (omega (arith, below, few)) past
    (listed_owner pages page 0 below is)

-- a page that was free before what was read in between has been claimed
pub claimed_since : (base mid : Ground) (pages between next : List (List ℕ)) (page owner : ℕ)
    → length pages ≡ base.size
    → mid.tables ≡ base.tables → between ≡ pages → IsPast base page → owner_at pages page ≡ 0
    → IsOwnedAnew page owner mid (sheets_of between) (sheets_of next)
    → IsClaimed page owner base (sheets_of pages) (sheets_of next)
claimed_since base mid pages between next page owner long tables same past free owned = record {
  past = past;
  was_free = owner_listed pages page 0 (omega (arith, past.below, long)) free;
  owned = record {
    owners = owned.owners ∙ ap (λ (ps : List (List ℕ)). set (page_owners ps) page owner) same;
    bytes = λ other behind. owned.bytes other (omega (arith, behind, tables))
        ∙ ap (λ (ps : List (List ℕ)). slice_get ps other) same;
  };
}

-- one more page of the table has been cleared
pub clear_more : (pages next : List (List ℕ)) (tables table : ℕ) (bytes : List ℕ)
    → table < length pages → next ≡ set pages table bytes → IsClear tables table bytes
    → ((t : ℕ) → t < table → IsClear tables t (get_or pages t [])) → (t : ℕ)
    → t < table + 1 → IsClear tables t (get_or next t [])
clear_more pages next tables table bytes below is clear before t lt = elim (eqb_tells t table) [
  | inl same ↦ subst (λ (k : ℕ). IsClear tables k (get_or next k [])) (sym same.1)
      (subst (IsClear tables table) (sym (ap (λ (ps : List (List ℕ)). get_or ps table []) is
      ∙ get_or-set_same pages table bytes [] below)) clear)
  | inr off ↦ (let ne = off.1 in
      subst (IsClear tables t) (sym (ap (λ (ps : List (List ℕ)). get_or ps t []) is
      ∙ get_or-set_other pages table t bytes [] ne)) (before t (omega (arith, lt, ne))))
]

-- where the whole table has been cleared, no page past it has an owner
pub all_free : (base : Ground) (pages : List (List ℕ)) (end : ℕ)
    → length pages ≡ base.size
    → ((page : ℕ) → page < length pages → page / 2048 < end)
    → ((t : ℕ) → t < end → IsClear base.tables t (get_or pages t []))
    → IsAllFree base (sheets_of pages)
all_free base pages end long within clear = record {
  own = λ page low lt. (let below : page < length pages = omega (arith, lt, long) in
      owner_listed pages page 65535 below
      ((clear (page / 2048) (within page below)).own page refl (omega (arith, low))));
  free = λ page past. (let below : page < length pages = omega (arith, past.below, long) in
      owner_listed pages page 0 below
      ((clear (page / 2048) (within page below)).free page refl
      (omega (arith, past.past))));
}

-- A page of the table is searched in two parts. What was found in the first one is free, and where
-- none was found in either, none past the table is.
pub found_on : (base : Ground) (pages : List (List ℕ)) (numbers : List ℕ)
    (table first middle end : ℕ) (found : Option ℕ)
    → numbers ≡ get_or pages table []
    → ((page : ℕ) → page / 2048 ≡ table → IsPast base page → (first ≤ page) × (page < end))
    → ((page : ℕ) → first ≤ page → page < middle → page / 2048 ≡ table)
    → ((page : ℕ) → middle ≤ page → page < end → owner_number numbers page ≢ 0)
    → IsFreeBetween numbers first middle found → IsFoundFree table (table + 1) base pages found
found_on base pages numbers table first middle end None is within inside behind before =
    λ page from to past free.
    let at : page / 2048 ≡ table = omega (arith, from, to) in
    let here : owner_number numbers page ≡ 0 =
    ap (λ (t : List ℕ). owner_number t page) is
    ∙ ap (λ (k : ℕ). owner_number (get_or pages k []) page) (sym at) ∙ free in
    elim (cases_lt page middle) [
      | inl low ↦ before page (within page at past).0 low here
      | inr high ↦ behind page high (within page at past).1 here
    ]
found_on base pages numbers table first middle end (Some page) is within inside behind found =
    ap (λ (k : ℕ). owner_number (get_or pages k []) page) (inside page found.0 found.1)
    ∙ ap (λ (t : List ℕ). owner_number t page) (sym is) ∙ found.2
