-- The split of a page.
use Rattle.std.proofs.Common.{◌≡◌, ◌≢◌, ℕ, ◌^◌, ◌-◌, ◌<◌, ◌≤◌, List, length, take, drop, sym, ap, ◌∙◌, arith}
use Rattle.std.specs.Int.{w16, to_be_bytes}
use Rattle.std.specs.List.{flat_map, sum_by}
use Rattle.std.proofs.lemmas.List.{length-drop, take_at}
use Rattle.std.proofs.lemmas.List.Elements.{All-drop}
use Rattle.std.proofs.lemmas.List.Sums.{sum_by-take-drop}
use Rattle.gx_bytes.specs.Page.{header}
use Rattle.gx_bytes.specs.Parts.{overwritten}
use Rattle.gx_bytes.specs.Records.{HoldsRecords}
use Rattle.gx_bytes.proofs.PageLemmas as pages
use Rattle.gx_bytes.proofs.PairLemmas.{all_pairs_take, all_pairs_drop}
use Rattle.gx_bytes.proofs.RecordLemmas.{length-flat_map}
use Rattle.gx_slots.specs.Entries.{Entry, IsFit, entry_bytes, entry_len}
use Rattle.gx_slots.specs.Page.{IsPageOf, IsEntryPage, entries_of, next_of, used_by}
use Rattle.gx_slots.proofs.EntryLemmas.{entry_format}
use Rattle.gx_slots.proofs.PageLemmas.{page_of}

-- the entries of a page from a place on
pub back_holds : (page rest : List ℕ) (place at : ℕ) → IsEntryPage page
    → at ≡ used_by (take place (entries_of page)) → rest ≡ drop at page
    → HoldsRecords entry_bytes IsFit (drop place (entries_of page)) rest
back_holds page rest place at is =
    pages.place_holds entry_format 0x44 (entries_of page) (next_of page) page rest place at
    (page_of page is).page

pub back_len : (entries : List Entry) (place at end : ℕ) → at ≡ used_by (take place entries)
    → end ≡ used_by entries → (at ≤ end) × (end - at ≡ sum_by entry_len (drop place entries))
back_len entries place at end at_is end_is = let all = sum_by-take-drop entry_len entries place in
    (omega (arith, all), omega (arith, all))

-- their bytes
pub back_bytes : (es : List Entry) (rest others : List ℕ) (len : ℕ)
    → HoldsRecords entry_bytes IsFit es rest → len ≡ sum_by entry_len es → others ≡ take len rest
    → others ≡ flat_map entry_bytes es
back_bytes es rest others len holds len_is others_is =
    others_is ∙ ap (take len) holds.is
    ∙ take_at (flat_map entry_bytes es) holds.rest len
    (length-flat_map entry_format es ∙ sym len_is)

-- a page that counts fewer of its entries
pub left_page : (entries : List Entry) (next : ℕ) (bytes : List ℕ) → IsPageOf entries next bytes
    → (place : ℕ) (new : List ℕ) → place ≤ length entries
    → new ≡ overwritten bytes 2 (to_be_bytes w16 place) → length new ≡ 4096
    → IsPageOf (take place entries) next new
left_page entries next bytes is place new within new_is size = record {
  page = pages.page_cut entry_format 0x44 entries next bytes is.page place new within new_is size;
  distinct = all_pairs_take (λ (a b : Entry). a.key ≢ b.key) entries place is.distinct;
}

-- a page of the others
pub right_page : (entries : List Entry) (place next number : ℕ) (page bytes top new others : List ℕ)
    → IsPageOf entries next page → number < 2 ^ 32 → length bytes ≡ 4096
    → top ≡ overwritten bytes 0 (header 0x44 (length entries - place) number)
    → others ≡ flat_map entry_bytes (drop place entries) → new ≡ overwritten top 8 others
    → length new ≡ 4096
    → IsPageOf (drop place entries) number new
right_page entries place next number page bytes top new others is fits size top_is others_is new_is
    size_is =
    let rest = drop place entries in
    let count : length entries - place ≡ length rest = omega (arith, length-drop place entries) in
    let most = pages.used_most entry_format 0x44 entries next page is.page in
    record {
      page =
          pages.page_filled entry_format 0x44 rest number bytes top new size fits
          (All-drop IsFit place entries is.page.holds.fit)
          (omega (arith, most, sum_by-take-drop entry_len entries place))
          (top_is ∙ ap (λ (n : ℕ). overwritten bytes 0 (header 0x44 n number)) count)
          (new_is ∙ ap (overwritten top 8) others_is) size_is;
      distinct = all_pairs_drop (λ (a b : Entry). a.key ≢ b.key) entries place is.distinct;
    }
