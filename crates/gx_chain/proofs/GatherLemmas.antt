-- A walk that gathers the entries inside a span.
use Rattle.std.proofs.Common.{◌≡◌, ◌≢◌, ℕ, ◌+◌, ◌<◌, ◌≤◌, Bool, true, false, cond, List, [], ◌∷◌, ◌++◌, length, map, drop, get_or, refl, sym, ap, ◌∙◌, subst, arith, append_assoc, append-nil}
use Rattle.std.specs.Prelude.{IsTrue, filter}
use Rattle.std.proofs.lemmas.List.{drop_all, drop_more, length-drop}
use Rattle.std.proofs.lemmas.List.Concat.{flat_map-append}
use Rattle.gx_bytes.specs.Page.{count_of}
use Rattle.gx_bytes.specs.Records.{HoldsRecords}
use Rattle.gx_bytes.proofs.RecordLemmas.{Passed, passed_none, passed_more, first_same, holds_first}
use Rattle.gx_values.specs.Keys.{is_inside}
use Rattle.gx_ports.specs.declared.leaves.Entry.{Entry as LeafEntry}
use Rattle.gx_ports.specs.declared.page_view.PageView.{Ghosts}
use Rattle.gx_ports.specs.PageCalls.{ReadsPages}
use Rattle.gx_ports.specs.Sheets.{Sheets, IsPast}
use Rattle.gx_slots.specs.Entries.{Entry, IsFit, entry_bytes}
use Rattle.gx_slots.specs.Page.{IsEntryPage, entries_of}
use Rattle.gx_slots.proofs.EntryLemmas.{entry_format}
use Rattle.gx_slots.proofs.PageLemmas.{body_holds, count_is}
use Rattle.gx_chain.specs.Chain.{entries_at, IsChain}
use Rattle.gx_chain.specs.Collect.{leaf_entry, inside_of, inside_on}
use Rattle.gx_chain.proofs.WalkLemmas.{IsAtHand}

-- the page at hand, and what the pages before it gave
pub record IsGatheredSo (sheets : Sheets) (lo hi : List ℕ) (before found : List LeafEntry)
    (all : List ℕ) (done number : ℕ) : Type 0 where
  pub hand : IsAtHand sheets all done number
  pub gave : found ≡ before ++ inside_on sheets lo hi hand.front

pub record IsGathering {S : Type 0} (g : Ghosts S) (first : ℕ) (lo hi : List ℕ) (start now : S)
    (before found : List LeafEntry) (done number : ℕ) : Type 0 where
  pub reads : ReadsPages g start now
  pub faults : g.faults now ≡ g.faults start
  pub past : IsPast (g.ground start) number
  pub way : IsTrue g.tells → (owner : ℕ) (all : List ℕ)
      → IsChain (g.ground start) owner (g.working start) first all
      → IsGatheredSo (g.working start) lo hi before found all done number

-- one page more
pub gathered_more : (sheets : Sheets) (lo hi : List ℕ) (before found : List LeafEntry)
    (front : List ℕ) (number : ℕ) → found ≡ before ++ inside_on sheets lo hi front
    → found ++ inside_of lo hi (entries_at sheets number)
    ≡ before ++ inside_on sheets lo hi (front ++ number ∷ [])
gathered_more sheets lo hi before found front number gave =
    let on = λ (page : ℕ). inside_of lo hi (entries_at sheets page) in
    ap (λ (x : List LeafEntry). x ++ on number) gave
    ∙ append_assoc before (inside_on sheets lo hi front) (on number)
    ∙ ap (λ (x : List LeafEntry). before ++ x) (ap
    (λ (x : List LeafEntry). inside_on sheets lo hi front ++ x) (sym (append-nil (on number)))
    ∙ sym (flat_map-append on front (number ∷ [])))

-- ---- the walk over a page

cons_cases : (b : Bool) (e : Entry) (es : List Entry)
    → map leaf_entry (cond b (e ∷ es) es) ≡ map leaf_entry (cond b (e ∷ []) []) ++ map leaf_entry es
cons_cases true e es = refl
cons_cases false e es = refl

inside_cons : (lo hi : List ℕ) (e : Entry) (es : List Entry)
    → inside_of lo hi (e ∷ es) ≡ inside_of lo hi (e ∷ []) ++ inside_of lo hi es
inside_cons lo hi e es =
    cons_cases (is_inside lo hi e.key) e (filter (λ (x : Entry). is_inside lo hi x.key) es)

-- so many entries of an entry page were passed, and gave what they have to give
pub record ArePassed (before : List LeafEntry) (lo hi page body : List ℕ) (place : ℕ)
    (found : List LeafEntry) (rest : List ℕ) : Type 0 where
  pub passed : Passed entry_bytes IsFit (entries_of page) place body rest
  pub gives : found ++ inside_of lo hi (drop place (entries_of page))
      ≡ before ++ inside_of lo hi (entries_of page)

pub passed_starts : (before : List LeafEntry) (lo hi page body : List ℕ) → body ≡ drop 8 page
    → IsEntryPage page → ArePassed before lo hi page (drop 8 page) 0 before body
passed_starts before lo hi page body behind is =
    record {
      passed = subst (λ b. Passed entry_bytes IsFit (entries_of page) 0 b body) behind
          (passed_none entry_format (entries_of page) body (body_holds page body is behind));
      gives = refl;
    }

module _ (before : List LeafEntry) (lo hi page body : List ℕ) (place : ℕ) (found : List LeafEntry)
    (rest : List ℕ) (count : ℕ)
    (p : IsEntryPage page → ArePassed before lo hi page body place found rest)
    (counted : count ≡ count_of page)
    (page_is : IsEntryPage page) where
  within : place < count → place < length (entries_of page)
  within below = omega (arith, below, counted, count_is page page_is)

  -- an entry is ahead
  pub passed_cut : place < count
      → ((e : Entry) (tail : List ℕ) → IsFit e → rest ≢ entry_bytes e ++ tail) → ⊥
  passed_cut below none =
      holds_first entry_format (drop place (entries_of page)) rest (p page_is).passed.ahead
      (omega (arith, within below, length-drop place (entries_of page))) none

  pub passed_on : (e : Entry) (behind : List ℕ) (new : List LeafEntry) → place < count → IsFit e
      → rest ≡ entry_bytes e ++ behind → new ≡ found ++ inside_of lo hi (e ∷ [])
      → ArePassed before lo hi page body (place + 1) new behind
  passed_on e behind new below fit is new_is =
      let es = entries_of page in
      let more = drop_more es place e (within below) in
      let same = first_same entry_format (get_or es place e) e (drop (place + 1) es) rest behind
      (subst (λ xs. HoldsRecords entry_bytes IsFit xs rest) more (p page_is).passed.ahead) fit is in
      let next_is : drop place es ≡ e ∷ drop (place + 1) es =
      more ∙ ap (λ (x : Entry). x ∷ drop (place + 1) es) (sym same) in
      let ahead = inside_of lo hi (drop (place + 1) es) in
      record {
        passed = passed_more entry_format es place body rest e behind (p page_is).passed
            (within below) fit is;
        gives =
            ap (λ (xs : List LeafEntry). xs ++ ahead) new_is
            ∙ append_assoc found (inside_of lo hi (e ∷ [])) ahead
            ∙ ap (λ (xs : List LeafEntry). found ++ xs)
            (sym (inside_cons lo hi e (drop (place + 1) es)))
            ∙ ap (λ (xs : List Entry). found ++ inside_of lo hi xs) (sym next_is)
            ∙ (p page_is).gives;
      }

  pub passed_end : count ≤ place → found ≡ before ++ inside_of lo hi (entries_of page)
  passed_end over =
      let es = entries_of page in
      sym (append-nil found)
      ∙ ap (λ (xs : List Entry). found ++ inside_of lo hi xs)
      (sym (drop_all place es (omega (arith, over, counted, count_is page page_is))))
      ∙ (p page_is).gives
