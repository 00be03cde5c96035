-- What a call on the chain of a key's bucket makes of an indexed sequential file.
use Rattle.std.proofs.Common.{◌≡◌, ◌≢◌, inl, inr, ℕ, ◌<◌, ◌≤◌, ◌^◌, List, [], ◌∷◌, sym, ap, subst, ◌∙◌}
use Rattle.std.specs.List.{Contains}
use Rattle.std.specs.FinMap as fin
use Rattle.gx_bytes.specs.declared.page.TheConstants.{NONE}
use Rattle.gx_ports.specs.declared.page_view.PageView.{Ghosts}
use Rattle.gx_ports.specs.declared.pages.Place.{Place}
use Rattle.gx_ports.specs.Files.{OthersStay}
use Rattle.gx_ports.specs.LeafMaps.{LeafMap}
use Rattle.gx_ports.specs.PageCalls.{ReadsPages}
use Rattle.gx_ports.specs.Sheets.{Sheets, Ground, IsPast, bytes_at}
use Rattle.gx_slots.specs.Entries.{Entry}
use Rattle.gx_slots.specs.Page.{IsEntryPage}
use Rattle.gx_chain.specs.Chain.{IsChain, IsOn, LeadsOn}
use Rattle.gx_chain.specs.Changes.{IsPutIn, IsRemovedFrom}
use Rattle.gx_chain.proofs.ChainLemmas.{linked_page}
use Rattle.gx_chain.proofs.ListLemmas.{contains_here, contains_none}
use Rattle.gx_chain.proofs.PairLemmas.{found_put, found_removed, none_put}
use Rattle.gx_isam_index.specs.Index.{bucket_count, bucket_of, first_page_of}
use Rattle.gx_isam.specs.Isam.{IsIsam}
use Rattle.gx_isam.specs.Change.{IsHungBefore, IsLeftOutIfEmpty}
use Rattle.gx_isam.proofs.BucketLemmas.{as_isam, key_isam, bucket_others, isam_at}
use Rattle.gx_isam.proofs.HangLemmas.{no_pages, some_there, only_entry, that_entry, hung_bucket, hung_on}
use Rattle.gx_isam.proofs.LeaveOutLemmas.{headed, left_out_if_empty}

-- ---- the same file after calls that read

module _ {S : Type 0} (g : Ghosts S) (place : Place) (p q : S) (reads : ReadsPages g p q) where
  pub isam_read : (map : LeafMap) → IsIsam (g.ground p) place (g.working p) map
      → IsIsam (g.ground q) place (g.working q) map
  isam_read map h = subst (λ (x : Ground). IsIsam x place (g.working q) map)
      (sym reads.keeps.ground)
      (subst (λ (x : Sheets). IsIsam (g.ground p) place x map) (sym reads.working) h)

  pub isam_back : (t : Sheets) (map : LeafMap) → IsIsam (g.ground q) place t map
      → IsIsam (g.ground p) place t map
  isam_back t map h = subst (λ (x : Ground). IsIsam x place t map) reads.keeps.ground h

  pub others_back : (t : Sheets) → OthersStay (g.ground q) place.owner (g.working q) t
      → OthersStay (g.ground p) place.owner (g.working p) t
  others_back t o = subst (λ (x : Ground). OthersStay x place.owner (g.working p) t)
      reads.keeps.ground
      (subst (λ (x : Sheets). OthersStay (g.ground q) place.owner x t) reads.working o)

-- a chain begins at a page past the table, or nowhere
pub leads_on : (ground : Ground) (owner : ℕ) (s : Sheets) (first : ℕ) (pages : List ℕ)
    → IsChain ground owner s first pages
    → LeadsOn ground first
leads_on ground owner s first [] chain = inl chain.linked
leads_on ground owner s first (q ∷ qs) chain =
    inr (subst (λ n. IsPast ground n) (sym chain.linked.0) (chain.fit.past q (contains_here q qs)))

-- at its first page an entry page stands
pub entry_first : (ground : Ground) (owner : ℕ) (s : Sheets) (first : ℕ) (pages : List ℕ)
    → IsChain ground owner s first pages
    → first ≢ NONE → IsEntryPage (bytes_at s first)
entry_first ground owner s first pages chain some =
    let head = headed ground owner s first pages chain some in
    linked_page s first pages first chain.linked
    (subst (λ (x : List ℕ). Contains x first) (sym head.1) (contains_here first head.0))

module _ (ground : Ground) (place : Place) (s : Sheets) (map : LeafMap) (least : 1 ≤ place.owner)
    (past : ground.tables ≤ place.root)
    (h : IsIsam ground place s map) (page : List ℕ) (page_is : page ≡ bytes_at s place.root)
    (key : List ℕ) (bucket : ℕ) (bucket_is : bucket ≡ bucket_of page key)
    (below : bucket < bucket_count page) where
  -- on the chain of its bucket an entry stands
  abbrev there : List ℕ → List ℕ → Type 0
  there k b = IsOn s (h.pages (bucket_of (bytes_at s place.root) k)) k b

  at : bucket_of (bytes_at s place.root) key ≡ bucket
  at = sym (bucket_is ∙ ap (λ (b : List ℕ). bucket_of b key) page_is)

  within : bucket < bucket_count (bytes_at s place.root)
  within = subst (λ (b : List ℕ). bucket < bucket_count b) page_is below

  pub chain_first : (first : ℕ) → first_page_of page bucket ≡ first
      → IsChain ground place.owner s first (h.pages bucket)
  chain_first first is = subst (λ n. IsChain ground place.owner s n (h.pages bucket))
      (ap (λ (b : List ℕ). first_page_of b bucket) (sym page_is) ∙ is)
      (h.buckets.chains bucket within)

  -- ---- the bucket has no page
  module _ (none : first_page_of page bucket ≡ NONE) (small : ground.size < 2 ^ 32) where
    first_none : first_page_of (bytes_at s place.root) bucket ≡ NONE
    first_none = ap (λ (b : List ℕ). first_page_of b bucket) (sym page_is) ∙ none

    none_on : (k b : List ℕ) → IsOn s (h.pages bucket) k b → ⊥
    none_on k b on = contains_none on.page
        (subst (λ (x : List ℕ). Contains x on.page)
        (no_pages ground place.owner s (h.pages bucket) small (chain_first NONE none)) on.among)

    pub put_begun : (body : List ℕ) (u : Sheets)
        → IsHungBefore ground place page bucket (record { key = key; body = body } ∷ []) s u
        → IsIsam ground place u (fin.insert map key body) × OthersStay ground place.owner s u
    put_begun body u begun =
        let entry : Entry = record { key = key; body = body } in
        let b = subst (λ (x : List ℕ). IsHungBefore ground place x bucket (entry ∷ []) s u) page_is
        begun in
        let apart =
        λ (k x y : List ℕ) (here : Contains (entry ∷ []) (record { key = k; body = x }))
        (on : IsOn s (h.pages bucket) k y).
        none_on k y on in
        let changed = hung_bucket ground place s u map least h bucket within (entry ∷ [])
        (some_there entry []) apart b in (
          key_isam ground place s u map least h bucket within (b.fresh ∷ h.pages bucket) changed key
              at (λ k c. (k ≡ key) × (c ≡ body))
              (λ k c put. put.0)
              (λ k c. (
                λ on. elim ((hung_on ground place s u map least h bucket within (entry ∷ [])
                    (some_there entry []) apart b k c).0 on) [
                      | inl here ↦ inl (only_entry key body k c here)
                      | inr old ↦ absurd (none_on k c old)
                    ],
                λ put. elim put [
                  | inl is ↦ (hung_on ground place s u map least h bucket within (entry ∷ [])
                      (some_there entry []) apart b k c).1
                      (inl (that_entry key body k c is))
                  | inr old ↦ absurd (none_on k c old.1)
                ],
              )) (fin.insert map key body)
              (found_put map key there (isam_at ground place s map h) body),
          bucket_others ground place s u map least h bucket within (b.fresh ∷ h.pages bucket)
              changed,
        )

    lacks : (k b : List ℕ) → IsOn s (h.pages (bucket_of (bytes_at s place.root) k)) k b → k ≢ key
    lacks k b on same = none_on k b
        (subst (λ n. IsOn s (h.pages n) k b) (ap (bucket_of (bytes_at s place.root)) same ∙ at) on)

    pub removed_none : IsIsam ground place s (fin.remove map key)
    removed_none = as_isam ground place s (fin.remove map key) h.pages h.index h.root h.buckets
        h.owned
        (λ k b. (let found = found_removed map key there (isam_at ground place s map h) k b in
        (λ is. (found.0 is).1, λ on. found.1 (lacks k b on, on))))

  -- ---- the bucket has a chain
  module _ (first : ℕ) (is : first_page_of page bucket ≡ first) (some : first ≢ NONE)
      (t u : Sheets) where
    first_is : first_page_of (bytes_at s place.root) bucket ≡ first
    first_is = ap (λ (b : List ℕ). first_page_of b bucket) (sym page_is) ∙ is

    index_left_out : IsLeftOutIfEmpty ground place page bucket first t u
        → IsLeftOutIfEmpty ground place (bytes_at s place.root) bucket first t u
    index_left_out after = subst (λ (x : List ℕ). IsLeftOutIfEmpty ground place x bucket first t u)
        page_is after

    pub put_left_out : (body : List ℕ)
        → IsPutIn ground place.owner first key body s t (h.pages bucket)
        → IsLeftOutIfEmpty ground place page bucket first t u
        → IsIsam ground place u (fin.insert map key body)
        × OthersStay ground place.owner s u
    put_left_out body put after =
        let c = left_out_if_empty ground place s t u map least past h bucket within first first_is
        some put.pages put.chain put.beside
        (index_left_out after) in (
          key_isam ground place s u map least h bucket within c.now c.bucket key at
              (λ k b. (k ≡ key) × (b ≡ body)) (λ k b is. is.0)
              (λ k b. (
                λ on. (put.entries k b).0 ((c.on k b).0 on),
                λ old. (c.on k b).1 ((put.entries k b).1 old),
              ))
              (fin.insert map key body)
              (found_put map key there (isam_at ground place s map h) body),
          bucket_others ground place s u map least h bucket within c.now c.bucket,
        )

    pub removed_left_out : IsRemovedFrom ground place.owner first key s t (h.pages bucket)
        → IsLeftOutIfEmpty ground place page bucket first t u
        → IsIsam ground place u (fin.remove map key)
        × OthersStay ground place.owner s u
    removed_left_out less after =
        let c = left_out_if_empty ground place s t u map least past h bucket within first first_is
        some less.pages less.chain less.beside
        (index_left_out after) in (
          key_isam ground place s u map least h bucket within c.now c.bucket key at (λ k b. ⊥)
              (λ k b never. absurd never)
              (λ k b. none_put (
                λ on. (less.entries k b).0 ((c.on k b).0 on),
                λ old. (c.on k b).1 ((less.entries k b).1 old),
              ))
              (fin.remove map key) (λ k b. none_put
              (found_removed map key there (isam_at ground place s map h) k b)),
          bucket_others ground place s u map least h bucket within c.now c.bucket,
        )
