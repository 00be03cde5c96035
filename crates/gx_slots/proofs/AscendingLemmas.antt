-- Bytes that begin with entries with ascending keys, and pages of such.
use Rattle.std.proofs.Common.{◌≡◌, ℕ, ◌<◌, List, [], length, drop, get_or, refl, sym, ap, ◌∙◌, subst, arith}
use Rattle.std.specs.declared.cmp.Ordering.TheVariants.{Less, Equal}
use Rattle.std.proofs.lemmas.Cmp.{nat_list_cmp_total, tied_itself}
use Rattle.std.proofs.lemmas.List.Elements.{All-nil}
use Rattle.gx_bytes.specs.Page.{count_of, number_of}
use Rattle.gx_bytes.proofs.PageLemmas as pages
use Rattle.gx_order.proofs.BelowLemmas.{cmp}
use Rattle.gx_slots.specs.Entries.{Entry, IsFit, AreDistinct, AreAscending}
use Rattle.gx_slots.specs.Page.{IsPageOf, IsAscendingPage, entries_of}
use Rattle.gx_slots.specs.Scan.{HoldsAscending}
use Rattle.gx_slots.proofs.EntryLemmas.{entry_format}
use Rattle.gx_slots.proofs.PageLemmas.{body_holds, count_is, entries_of-page}

-- entries with ascending keys have different ones
distinct_of : (entries : List Entry) → AreAscending entries → AreDistinct entries
distinct_of entries up i j d lt below same =
    let clash : Less ≡ Equal =
    sym (up i j d lt below) ∙ ap (cmp (get_or entries i d).key) (sym same)
    ∙ tied_itself nat_list_cmp_total (get_or entries i d).key in
    cc

-- bytes with the header of an entry page and so many entries behind it, whose keys ascend, are an
-- ascending page
pub scanned_page : (bytes body : List ℕ) (count : ℕ) → length bytes ≡ 4096 → get_or bytes 0 0 ≡ 0x44
    → get_or bytes 1 0 ≡ 0 → ((i : ℕ) → get_or bytes i 0 < 256) → body ≡ drop 8 bytes
    → count ≡ count_of bytes
    → HoldsAscending count body → IsAscendingPage bytes
scanned_page bytes body count size kind blank small behind counted held =
    let is : IsPageOf held.held (number_of bytes) bytes =
    record {
      page = pages.page_from_bytes entry_format 0x44 bytes body count size kind blank small behind
          counted held.held held.count
          held.holds;
      distinct = distinct_of held.held held.ascending;
    } in
    record {
      page = record { entries = held.held; next = number_of bytes; is = is };
      ascending = subst AreAscending (sym (entries_of-page held.held (number_of bytes) bytes is))
          held.ascending;
    }

-- no entries ascend
pub none_ascend : (bytes : List ℕ) (count : ℕ) → count ≡ 0 → HoldsAscending count bytes
none_ascend bytes count none = record {
  held = [];
  count = sym none;
  holds = record { fit = All-nil IsFit; rest = bytes; is = refl };
  ascending = λ i j d lt below. absurd (omega arith);
}

-- an ascending page has entries with ascending keys behind its header, as many as it counts
pub page_scanned : (bytes body : List ℕ) (count : ℕ) → body ≡ drop 8 bytes → count ≡ count_of bytes
    → IsAscendingPage bytes → HoldsAscending count body
page_scanned bytes body count behind counted is =
    record {
      held = entries_of bytes;
      count = sym (counted ∙ count_is bytes is.page);
      holds = body_holds bytes body is.page behind;
      ascending = is.ascending;
    }
