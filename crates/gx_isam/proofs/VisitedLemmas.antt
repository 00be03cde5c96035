-- Indexed sequential files that are checked.
use Rattle.std.proofs.Common.{◌≡◌, ◌≢◌, inl, inr, ℕ, ◌<◌, ◌≤◌, ◌^◌, Bool, List, [], sym, ap, subst, ◌∙◌}
use Rattle.std.specs.Prelude.{IsTrue}
use Rattle.std.specs.List.{Contains}
use Rattle.std.proofs.lemmas.Bool.{cases_eq}
use Rattle.gx_bytes.specs.declared.page.TheConstants.{NONE}
use Rattle.gx_ports.specs.declared.page_view.PageView.{Ghosts}
use Rattle.gx_ports.specs.declared.pages.Place.{Place}
use Rattle.gx_ports.specs.Files.{IsWhole}
use Rattle.gx_ports.specs.LeafMaps.{LeafMap}
use Rattle.gx_ports.specs.Sheets.{Sheets, Ground, bytes_at}
use Rattle.gx_chain.specs.Chain.{entries_at, IsChain}
use Rattle.gx_chain.specs.Placed.{HaveBucket}
use Rattle.gx_chain.proofs.ChainLemmas.{fit_none}
use Rattle.gx_chain.proofs.ListLemmas.{contains_here, contains_none}
use Rattle.gx_chain.proofs.PlacedChainLemmas.{IsVisiting, all_marked, chain_there}
use Rattle.gx_isam_index.specs.Index.{IsIndexPage, bucket_count, bucket_of, first_page_of}
use Rattle.gx_isam.specs.Isam.{IsIsam, AreBuckets}
use Rattle.gx_isam.specs.Map.{isam_map}
use Rattle.gx_isam.specs.Visited.{ArePlaced, IsVisitedBucket, HasUnseenBucket, AreVisitedBuckets, IsRootAndSeen, HasEntryAt}
use Rattle.gx_isam.proofs.BucketLemmas.{once}
use Rattle.gx_isam.proofs.HangLemmas.{no_pages}
use Rattle.gx_isam.proofs.ChangeLemmas.{entry_first}
use Rattle.gx_isam.proofs.LawLemmas.{isam_of}
use Rattle.gx_isam.proofs.LeaveOutLemmas.{headed}

-- ---- of a whole file

-- the owner has the root, and each other page of it is marked in the end
pub whole_seen : (ground : Ground) (place : Place) (s : Sheets) (map : LeafMap)
    → IsIsam ground place s map → (seen : List Bool)
    → AreVisitedBuckets ground place.owner s (bytes_at s place.root)
    (bucket_count (bytes_at s place.root)) seen
    → IsRootAndSeen s place.owner place.root seen
whole_seen ground place s map h seen v =
    let index = bytes_at s place.root in
    record {
      root_owned = h.root;
      others = λ q o. elim (h.owned q o) [
        | inl e ↦ inl e
        | inr of ↦ inr (all_marked ground place.owner s (first_page_of index)
            (ArePlaced index s) h.pages
            (bucket_count index) h.buckets.chains
            seen q v of)
      ];
    }

-- where it is so, the file is whole
pub seen_whole : (ground : Ground) (place : Place) (s : Sheets) (index : List ℕ) (seen : List Bool)
    → 1 ≤ place.owner → IsIndexPage index
    → index ≡ bytes_at s place.root
    → AreVisitedBuckets ground place.owner s index (bucket_count index) seen
    → IsRootAndSeen s place.owner place.root seen
    → IsIsam ground place s (isam_map place s)
seen_whole ground place s index seen some page is v all =
    let w = subst (λ (b : List ℕ). AreVisitedBuckets ground place.owner s b (bucket_count b) seen)
    is v in
    isam_of ground place s w.pages some (subst IsIndexPage is page) all.root_owned
    (record {
      chains = w.chains;
      filled = λ i q below c. (w.placed i below).filled q c;
      placed = λ i k b below on. (w.placed i below).placed k b on;
    })
    (λ q o. elim (all.others q o) [ inl e ↦ inl e | inr mark ↦ inr ((w.seen q).0 mark) ])

-- ---- the loop

-- in a whole file the next chain is there, and isn't seen yet
pub bucket_there : {S : Type 0} (g : Ghosts S) (place : Place) (index : List ℕ) (start now : S)
    (n : ℕ) (seen : List Bool)
    → (IsTrue g.tells → index ≡ bytes_at (g.working start) place.root) → n < bucket_count index
    → IsVisiting g place.owner (first_page_of index) (ArePlaced index) start now n
    (bucket_count index) seen
    → IsWhole g (IsIsam (g.ground start) place) start
    → HasUnseenBucket g now place.owner index n seen
bucket_there g place index start now n seen read below i whole =
    let h = whole.1.file in
    let b = subst (λ (x : List ℕ). AreBuckets (g.ground start) place.owner
    (g.working start) x h.pages)
    (sym (read whole.1.told)) h.buckets in
    chain_there g place.owner (first_page_of index) (ArePlaced index) start (bucket_count index) now
    n
    seen i h.pages b.chains
    (once (g.ground start) place.owner (g.working start) index h.pages b) below whole.1.told
    (record { placed = λ k v on. b.placed n k v below on; filled = λ q c. b.filled n q below c })

-- ---- one bucket

-- it has no page
pub visited_nothing : (ground : Ground) (owner : ℕ) (s : Sheets) (index : List ℕ) (bucket : ℕ)
    (seen : List Bool) → ground.size < 2 ^ 32
    → first_page_of index bucket ≡ NONE → IsVisitedBucket ground owner s index bucket seen seen
visited_nothing ground owner s index bucket seen small none = record {
  pages = [];
  chain = record { linked = none; fit = fit_none ground owner s (first_page_of index bucket) };
  only = λ other chain. no_pages ground owner s other small
      (subst (λ n. IsChain ground owner s n other) none chain);
  placed = record {
    placed = λ k b on. absurd (contains_none on.page on.among);
    filled = λ q c. absurd (contains_none q c);
  };
  seen = λ q. (
    λ is. inl is,
    λ is. elim is [
      | inl old ↦ old
      | inr never ↦ absurd (contains_none q never)
    ],
  );
}

-- it has a chain, whose first page has an entry
pub filled_chain : (ground : Ground) (owner : ℕ) (s : Sheets) (index : List ℕ) (bucket first : ℕ)
    (pages : List ℕ)
    → IsChain ground owner s first pages → HaveBucket (bucket_of index) s bucket pages
    → entries_at s first ≢ []
    → ArePlaced index s bucket pages
filled_chain ground owner s index bucket first pages chain placed some = record {
  placed = placed;
  filled = λ q c none. elim (cases_eq q first)
      [ inl e ↦ some (ap (entries_at s) (sym e) ∙ none) | inr d ↦ chain.fit.filled q c d none ];
}

pub entry_there : {S : Type 0} (g : Ghosts S) (p : S) (owner : ℕ) (index : List ℕ)
    (bucket first : ℕ) (seen : List Bool)
    → first_page_of index bucket ≡ first → HasUnseenBucket g p owner index bucket seen
    → first ≢ NONE
    → HasEntryAt g p first
entry_there g p owner index bucket first seen is has some =
    let chain = subst (λ n. IsChain (g.ground p) owner (g.working p) n has.pages) is has.chain in
    let head = headed (g.ground p) owner (g.working p) first has.pages chain some in (
      has.told,
      entry_first (g.ground p) owner (g.working p) first has.pages chain some,
      has.placed.filled first
          (subst (λ (x : List ℕ). Contains x first) (sym head.1) (contains_here first head.0)),
    )
