-- Entry pages: what is read of one, and what a change makes of it.
use Rattle.std.proofs.Common.{◌≡◌, ◌≢◌, ℕ, ◌+◌, ◌-◌, ◌*◌, ◌^◌, ◌<◌, ◌≤◌, List, [], ◌∷◌, length, take, drop, get_or, refl, sym, ap, ◌∙◌, subst, arith}
use Rattle.std.specs.Int.{w16, to_be_bytes}
use Rattle.std.specs.List.{All, sum_by, insert, remove, copy_within}
use Rattle.std.proofs.lemmas.List.Quantifiers.{all_pairs_remove}
use Rattle.std.proofs.lemmas.List.Sums.{sum_by-cons, sum_by-le, sum_by-insert}
use Rattle.gx_bytes.specs.Page.{count_of, number_of}
use Rattle.gx_bytes.specs.Parts.{overwritten}
use Rattle.gx_bytes.specs.Records.{HoldsRecords}
use Rattle.gx_bytes.proofs.PageLemmas as pages
use Rattle.gx_bytes.proofs.PairLemmas.{all_pairs_insert}
use Rattle.gx_bytes.proofs.RecordLemmas.{records-held}
use Rattle.gx_slots.specs.Entries.{Entry, IsFit, HoldsCount, entry_bytes, entry_len, entries_in}
use Rattle.gx_slots.specs.Page.{IsPageOf, IsEntryPage, entries_of, next_of, used_by}
use Rattle.gx_slots.proofs.EntryLemmas.{entry_format}

-- an entry has four bytes at least
pub four_each : (entries : List Entry) → 4 * length entries ≤ sum_by entry_len entries
four_each [] = omega arith
four_each (entry ∷ entries) = omega (arith, sum_by-cons entry_len entry entries, four_each entries)

pub count_small : (entries : List Entry) (next : ℕ) (bytes : List ℕ) → IsPageOf entries next bytes
    → length entries < 2 ^ 16
count_small entries next bytes is =
    omega (arith, pages.used_most entry_format 0x44 entries next bytes is.page, four_each entries)

-- a page has one meaning at most
pub entries_of-page : (entries : List Entry) (next : ℕ) (bytes : List ℕ)
    → IsPageOf entries next bytes → entries_of bytes ≡ entries
unfolding entries_of
entries_of-page entries next bytes is =
    pages.records_of-page entry_format 0x44 entries next bytes is.page
    (count_small entries next bytes is)

pub next_of-page : (entries : List Entry) (next : ℕ) (bytes : List ℕ) → IsPageOf entries next bytes
    → next_of bytes ≡ next
unfolding next_of
next_of-page entries next bytes is =
    pages.number_of-page entry_format 0x44 entries next bytes is.page

pub one_meaning : (entries others : List Entry) (next other : ℕ) (bytes : List ℕ)
    → IsPageOf entries next bytes → IsPageOf others other bytes
    → (entries ≡ others) × (next ≡ other)
one_meaning entries others next other bytes is same = (
  sym (entries_of-page entries next bytes is) ∙ entries_of-page others other bytes same,
  sym (next_of-page entries next bytes is) ∙ next_of-page others other bytes same,
)

-- bytes that are an entry page are one of what is read of them
pub page_of : (bytes : List ℕ) → IsEntryPage bytes
    → IsPageOf (entries_of bytes) (next_of bytes) bytes
page_of bytes page =
    subst (λ (es : List Entry). IsPageOf es (next_of bytes) bytes)
    (sym (entries_of-page page.entries page.next bytes page.is))
    (subst (λ (n : ℕ). IsPageOf page.entries n bytes)
    (sym (next_of-page page.entries page.next bytes page.is)) page.is)

pub used_most : (bytes : List ℕ) → IsEntryPage bytes → used_by (entries_of bytes) ≤ 4096
used_most bytes page =
    pages.used_most entry_format 0x44 (entries_of bytes) (next_of bytes) bytes
    (page_of bytes page).page

pub page_size : (bytes : List ℕ) → IsEntryPage bytes → length bytes ≡ 4096
page_size bytes page = page.is.page.size

-- a page with at most three entries has room for another of any length
pub three_leave_room : (entries : List Entry) (i : ℕ) (entry : Entry) → All IsFit entries
    → length entries ≤ 3 → IsFit entry → used_by (insert entries i entry) ≤ 4096
three_leave_room entries i entry fit few fits =
    let each = sum_by-le entry_len 1004 entries
    (λ k d below. let e = fit k d below in omega (arith, e.whole)) in
    omega (arith, each, sum_by-insert entry_len entries i entry, fits.whole)

-- what the header tells
pub count_is : (bytes : List ℕ) → IsEntryPage bytes → count_of bytes ≡ length (entries_of bytes)
count_is bytes page =
    let is = page_of bytes page in
    pages.count_of-page entry_format 0x44 (entries_of bytes) (next_of bytes) bytes is.page
    (count_small (entries_of bytes) (next_of bytes) bytes is)

pub next_is : (bytes : List ℕ) → number_of bytes ≡ next_of bytes
unfolding next_of
next_is bytes = refl

-- the entries behind the header, as many as the page counts
pub body_holds : (bytes body : List ℕ) → IsEntryPage bytes → body ≡ drop 8 bytes
    → HoldsRecords entry_bytes IsFit (entries_of bytes) body
body_holds bytes body page behind =
    pages.page_holds entry_format 0x44 (entries_of bytes) (next_of bytes) bytes body
    (page_of bytes page).page behind

pub body_count : (bytes body : List ℕ) (count : ℕ) → IsEntryPage bytes → body ≡ drop 8 bytes
    → count ≡ length (entries_of bytes) → HoldsCount count body
body_count bytes body count page behind counted = record {
  held = entries_of bytes;
  count = sym counted;
  holds = body_holds bytes body page behind;
}

pub body_entries : (bytes body : List ℕ) (count : ℕ) → IsEntryPage bytes → body ≡ drop 8 bytes
    → count ≡ length (entries_of bytes) → entries_in count body ≡ entries_of bytes
body_entries bytes body count page behind counted =
    ap (λ (n : ℕ). entries_in n body) counted
    ∙ records-held entry_format (entries_of bytes) body (body_holds bytes body page behind)

-- an entry put at a place
pub page_added : (entries : List Entry) (next : ℕ) (bytes : List ℕ) → IsPageOf entries next bytes
    → (i : ℕ) (entry : Entry) (at end : ℕ) (moved put new : List ℕ)
    → i ≤ length entries → All (λ other. other.key ≢ entry.key) entries → IsFit entry
    → at ≡ used_by (take i entries) → end ≡ used_by entries → entry_len entry ≤ 4096 - end
    → moved ≡ copy_within bytes at end (at + entry_len entry)
    → put ≡ overwritten moved at (entry_bytes entry)
    → new ≡ overwritten put 2 (to_be_bytes w16 (length entries + 1)) → length new ≡ 4096
    → IsPageOf (insert entries i entry) next new
page_added entries next bytes is i entry at end moved put new in' other fit at_is end_is room
    moved_is put_is new_is size = record {
      page = pages.page_added entry_format 0x44 entries next bytes is.page i entry at end moved put
          new
          in' fit at_is end_is room moved_is put_is new_is size;
      distinct = all_pairs_insert (λ (a b : Entry). a.key ≢ b.key) entries i entry in' is.distinct
          (λ k d before. other k d (omega arith))
          (λ k d behind below same. other k d below (sym same));
    }

-- the entry at a place taken away
pub page_taken : (entries : List Entry) (next : ℕ) (bytes : List ℕ) → IsPageOf entries next bytes
    → (i at behind end : ℕ) (d : Entry) (moved new : List ℕ)
    → i < length entries → at ≡ used_by (take i entries)
    → behind ≡ at + entry_len (get_or entries i d) → end ≡ used_by entries
    → moved ≡ copy_within bytes behind end at
    → new ≡ overwritten moved 2 (to_be_bytes w16 (length entries - 1)) → length new ≡ 4096
    → IsPageOf (remove entries i) next new
page_taken entries next bytes is i at behind end d moved new below at_is behind_is end_is moved_is
    new_is size = record {
      page = pages.page_taken entry_format 0x44 entries next bytes is.page i at behind end d moved
          new
          below at_is behind_is end_is moved_is new_is size;
      distinct = all_pairs_remove (λ (a b : Entry). a.key ≢ b.key) entries i below is.distinct;
    }
