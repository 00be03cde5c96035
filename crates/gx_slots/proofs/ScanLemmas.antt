-- A scan of bytes for entries of different keys.
use Rattle.std.proofs.Common.{◌≡◌, ◌≢◌, ℕ, ◌+◌, ◌<◌, ◌≤◌, Bool, true, false, List, [], ◌∷◌, ◌++◌, length, take, drop, get_or, refl, sym, ap, ◌∙◌, subst, arith}
use Rattle.std.specs.List.{flat_map, All}
use Rattle.std.proofs.lemmas.List.{length-take-le, length-drop, length_push, get_or-take, get_or_default}
use Rattle.std.proofs.lemmas.List.Elements.{All-nil, All-push}
use Rattle.std.proofs.lemmas.List.Quantifiers.{all_pairs_push}
use Rattle.gx_bytes.specs.Page.{count_of, number_of}
use Rattle.gx_bytes.specs.Records.{HoldsRecords}
use Rattle.gx_bytes.proofs.PageLemmas as pages
use Rattle.gx_bytes.proofs.RecordLemmas.{records-held, holds_first, found_same, found_more, next_same}
use Rattle.gx_slots.specs.Entries.{Entry, IsFit, AreDistinct, HoldsCount, entry_bytes, entries_in}
use Rattle.gx_slots.specs.Page.{IsEntryPage, entries_of}
use Rattle.gx_slots.specs.Scan.{HasSeen, HoldsDistinct, hash_of}
use Rattle.gx_slots.proofs.EntryLemmas.{entry_format}
use Rattle.gx_slots.proofs.PageLemmas.{body_holds, count_is, page_of}

-- so many entries of different keys were found, and these bytes are left
pub record Scanned (bytes : List ℕ) (place : ℕ) (rest : List ℕ) (seen : List Bool) : Type 0 where
  pub entries : List Entry
  pub count : length entries ≡ place
  pub fit : All IsFit entries
  pub distinct : AreDistinct entries
  pub is : bytes ≡ flat_map entry_bytes entries ++ rest
  pub noted : HasSeen seen entries
  pub size : length seen ≡ 4096

pub scanned_none : (bytes : List ℕ) (seen : List Bool) → length seen ≡ 4096
    → Scanned bytes 0 bytes seen
scanned_none bytes seen size = record {
  entries = [];
  count = refl;
  fit = All-nil IsFit;
  distinct = λ i j d lt below. absurd (omega arith);
  is = refl;
  noted = λ k d below. absurd (omega arith);
  size = size;
}

pub scanned_holds : (bytes : List ℕ) (place : ℕ) (rest : List ℕ) (seen : List Bool)
    (scan : Scanned bytes place rest seen) → HoldsRecords entry_bytes IsFit scan.entries bytes
scanned_holds bytes place rest seen scan = record { fit = scan.fit; rest = rest; is = scan.is }

pub scanned_count : (bytes : List ℕ) (place : ℕ) (rest : List ℕ) (seen : List Bool)
    → Scanned bytes place rest seen → HoldsCount place bytes
scanned_count bytes place rest seen scan =
    record {
      held = scan.entries;
      count = scan.count;
      holds = scanned_holds bytes place rest seen scan;
    }

pub scanned_entries : (bytes : List ℕ) (place : ℕ) (rest : List ℕ) (seen : List Bool)
    (scan : Scanned bytes place rest seen) → scan.entries ≡ entries_in place bytes
scanned_entries bytes place rest seen scan =
    sym (records-held entry_format scan.entries bytes (scanned_holds bytes place rest seen scan))
    ∙ ap (λ (n : ℕ). entries_in n bytes) scan.count

pub scanned_seen : (bytes : List ℕ) (place : ℕ) (rest : List ℕ) (seen : List Bool)
    → Scanned bytes place rest seen → HasSeen seen (entries_in place bytes)
scanned_seen bytes place rest seen scan =
    subst (HasSeen seen) (scanned_entries bytes place rest seen scan) scan.noted

pub scanned_all : (bytes : List ℕ) (place : ℕ) (rest : List ℕ) (seen : List Bool)
    → Scanned bytes place rest seen → HoldsDistinct place bytes
scanned_all bytes place rest seen scan = record {
  entries = scan.entries;
  count = scan.count;
  holds = scanned_holds bytes place rest seen scan;
  distinct = scan.distinct;
}

-- one entry more
pub scanned_more : (bytes : List ℕ) (place : ℕ) (rest : List ℕ) (seen : List Bool) (entry : Entry)
    (behind : List ℕ) (marked : List Bool) → Scanned bytes place rest seen → IsFit entry
    → rest ≡ entry_bytes entry ++ behind
    → All (λ other. other.key ≢ entry.key) (entries_in place bytes)
    → HasSeen marked (entries_in place bytes) → get_or marked (hash_of entry.key) false ≡ true
    → length marked ≡ length seen
    → Scanned bytes (place + 1) behind marked
scanned_more bytes place rest seen entry behind marked scan fit is other kept added size =
    let before = scan.entries in
    let same = sym (scanned_entries bytes place rest seen scan) in
    record {
      entries = before ++ entry ∷ [];
      count = omega (arith, length_push before entry, scan.count);
      fit = All-push IsFit before entry scan.fit fit;
      distinct = all_pairs_push (λ (a b : Entry). a.key ≢ b.key) before entry scan.distinct
          (subst (All (λ (e : Entry). e.key ≢ entry.key)) same other);
      is = found_more entry_format before entry bytes rest behind scan.is is;
      noted = All-push (λ (e : Entry). get_or marked (hash_of e.key) false ≡ true) before entry
          (subst (HasSeen marked) same kept) added;
      size = size ∙ scan.size;
    }

-- entries that the bytes hold begin with those that were found, and the rest hold the others
pub held_same : (bytes : List ℕ) (place : ℕ) (rest : List ℕ) (seen : List Bool)
    (scan : Scanned bytes place rest seen) (entries : List Entry)
    → HoldsRecords entry_bytes IsFit entries bytes → place ≤ length entries
    → (scan.entries ≡ take place entries) × HoldsRecords entry_bytes IsFit (drop place entries) rest
held_same bytes place rest seen scan =
    found_same entry_format scan.entries place bytes rest scan.fit scan.is scan.count

-- where no entry is ahead, there are no more entries
pub no_more : (bytes : List ℕ) (place : ℕ) (rest : List ℕ) (seen : List Bool) (count : ℕ)
    → Scanned bytes place rest seen → place < count
    → ((entry : Entry) (tail : List ℕ) → IsFit entry → rest ≢ entry_bytes entry ++ tail)
    → HoldsDistinct count bytes → ⊥
no_more bytes place rest seen count scan below none held =
    let same =
    held_same bytes place rest seen scan held.entries held.holds (omega (arith, held.count)) in
    holds_first entry_format (drop place held.entries) rest same.1
    (omega (arith, length-drop place held.entries, held.count)) none

-- where an entry found before has the key of the next one, the keys aren't different
pub twice : (bytes : List ℕ) (place : ℕ) (rest : List ℕ) (seen : List Bool) (count : ℕ)
    (entry : Entry) (behind : List ℕ) → Scanned bytes place rest seen → place < count → IsFit entry
    → rest ≡ entry_bytes entry ++ behind
    → (All (λ other. other.key ≢ entry.key) (entries_in place bytes) → ⊥)
    → HoldsDistinct count bytes → ⊥
twice bytes place rest seen count entry behind scan below fit is double held =
    let entries = held.entries in
    let same =
    held_same bytes place rest seen scan entries held.holds (omega (arith, held.count)) in
    let inside : place < length entries = omega (arith, held.count) in
    let next = get_or entries place entry in
    let here : entry ≡ next =
    next_same entry_format entry place entries rest behind same.1 inside fit is in
    let key = ap (λ (e : Entry). e.key) here in
    double
    (subst (All (λ (e : Entry). e.key ≢ entry.key)) (sym same.0
    ∙ scanned_entries bytes place rest seen scan) (λ k d below_k.
    let k_in : k < place = omega (arith, length-take-le place entries (omega arith)) in
    let read =
    get_or-take place entries k d k_in ∙ get_or_default entries k d entry (omega arith) in
    λ equal. held.distinct k place entry k_in inside
    (sym (ap (λ (e : Entry). e.key) read) ∙ equal ∙ key)))

-- bytes with the header of an entry page and so many entries behind it are one
pub scanned_page : (bytes body : List ℕ) (count : ℕ) → length bytes ≡ 4096 → get_or bytes 0 0 ≡ 0x44
    → get_or bytes 1 0 ≡ 0 → ((i : ℕ) → get_or bytes i 0 < 256) → body ≡ drop 8 bytes
    → count ≡ count_of bytes
    → HoldsDistinct count body → IsEntryPage bytes
scanned_page bytes body count size kind blank small behind counted held = record {
  entries = held.entries;
  next = number_of bytes;
  is = record {
    page = pages.page_from_bytes entry_format 0x44 bytes body count size kind blank small behind
        counted held.entries
        held.count held.holds;
    distinct = held.distinct;
  };
}

-- an entry page begins with its kind and a 0
pub page_kind : (bytes : List ℕ) → IsEntryPage bytes
    → (get_or bytes 0 0 ≡ 0x44) × (get_or bytes 1 0 ≡ 0)
page_kind bytes page = (
  ap (λ (b : List ℕ). get_or b 0 0) page.is.page.is,
  ap (λ (b : List ℕ). get_or b 1 0) page.is.page.is,
)

-- and has entries of different keys behind its header, as many as it counts
pub page_scanned : (bytes body : List ℕ) (count : ℕ) → body ≡ drop 8 bytes → count ≡ count_of bytes
    → IsEntryPage bytes → HoldsDistinct count body
page_scanned bytes body count behind counted page =
    record {
      entries = entries_of bytes;
      count = sym (counted ∙ count_is bytes page);
      holds = body_holds bytes body page behind;
      distinct = (page_of bytes page).distinct;
    }
