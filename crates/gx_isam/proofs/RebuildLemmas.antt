-- An indexed sequential file while it is laid out anew: it is whole between any two steps.
use Rattle.std.proofs.Common.{◌≡◌, ◌≢◌, ◌⊎◌, ◌↔◌, inl, inr, ℕ, zero, suc, ◌+◌, ◌-◌, ◌<◌, ◌≤◌, ◌^◌, ◌==◌, Bool, false, cond, List, [], ◌∷◌, length, set, get_or, Some, refl, sym, ap, subst, ◌∙◌, arith}
use Rattle.std.specs.Prelude.{slice_get, IsTrue}
use Rattle.std.specs.List.{All, Contains, count_by, insert}
use Rattle.std.specs.FinMap as fin
use Rattle.std.proofs.lemmas.Bool.{cases_eq, cases_lt}
use Rattle.std.proofs.lemmas.Bool.Decides.{nat_tests}
use Rattle.std.proofs.lemmas.List.{get_or-set_same}
use Rattle.std.proofs.lemmas.List.Sums.{count_by-le-length, sum_by-set}
use Rattle.std.proofs.lemmas.Option.{same_Some, none-some, get_or_from_slice_get, slice_get_within}
use Rattle.gx_laws.proofs.NumberLemmas.{number_itself}
use Rattle.gx_bytes.specs.declared.page.TheConstants.{NONE}
use Rattle.gx_ports.specs.declared.leaves.Entry.{Entry as LeafEntry}
use Rattle.gx_ports.specs.declared.page_view.PageView.{Ghosts}
use Rattle.gx_ports.specs.declared.pages.Place.{Place}
use Rattle.gx_ports.specs.Files.{OthersStay, page_count}
use Rattle.gx_ports.specs.LeafMaps.{LeafMap, selected}
use Rattle.gx_ports.specs.PageCalls.{KeepsPages}
use Rattle.gx_ports.specs.Sheets.{Sheets, Ground, bytes_at}
use Rattle.gx_ports.specs.Keyed.{key_cmp}
use Rattle.gx_ports.proofs.PageLemmas.{others_itself, others_joined}
use Rattle.gx_slots.specs.Entries.{Entry}
use Rattle.gx_slots.specs.Page.{IsEntryPage, entries_of}
use Rattle.gx_chain.specs.Chain.{entries_at, next_at, IsChain, IsOn}
use Rattle.gx_chain.specs.Changes.{StaysBeside}
use Rattle.gx_chain.proofs.ChainLemmas.{fit_none}
use Rattle.gx_chain.proofs.CountLemmas.{count_listed}
use Rattle.gx_chain.proofs.EntryLemmas.{more_from, more_to}
use Rattle.gx_chain.proofs.ListLemmas.{contains_here, contains_later, contains_none}
use Rattle.gx_chain.proofs.WriteLemmas.{slice_get_set}
use Rattle.gx_isam_index.specs.Index.{IsIndexPage, bucket_count, bucket_of, first_page_of, separators_of}
use Rattle.gx_isam.specs.Isam.{AreBuckets, IsIsam}
use Rattle.gx_isam.specs.Change.{IsHungBefore, IsLeftOut}
use Rattle.gx_chain.specs.Chains.{pages_below}
use Rattle.gx_isam_index.specs.Layout.{AreOrdered}
use Rattle.gx_isam.specs.Rebuild.{AreEntriesOf, HasIndex, IsBlankFor, IsEmptied, IsFilled, IsFreed, IsPartlyFilled, IsRun, IsWithin}
use Rattle.gx_isam.specs.Map.{isam_map}
use Rattle.gx_chain.proofs.ChainsLemmas.{changed}
use Rattle.gx_isam.proofs.BucketLemmas.{IsBucketChanged, as_isam, bucket_below, bucket_isam, bucket_others, buckets_now, isam_at, on_bucket, owned_now}
use Rattle.gx_isam.proofs.HangLemmas.{no_pages, hung_bucket, hung_on}
use Rattle.gx_isam.proofs.LawLemmas.{isam_map_on}
use Rattle.gx_isam_index.proofs.LayoutLemmas.{apart_keys, same_entry}
use Rattle.gx_chain.proofs.ChainsLemmas.{below_from}
use Rattle.gx_isam.proofs.PagesLemmas.{below_few, isam_map_is}
use Rattle.gx_isam.proofs.SelectedLemmas.{selected_those}
use Rattle.gx_isam.proofs.LeaveOutLemmas.{headed, left_out, on_rest}

-- ---- other owners, over two changes

-- ---- the pages of an owner are counted

zero_other : (n : ℕ) → 1 ≤ n → (0 == n) ≡ false
zero_other n some = grind (arith, nat_tests)

pub count_freed : (owner q : ℕ) (owners : List ℕ) → 1 ≤ owner → slice_get owners q ≡ Some owner
    → count_by (λ o. o == owner) (set owners q 0) + 1 ≡ count_by (λ o. o == owner) owners
count_freed owner q owners some is =
    let f = λ (o : ℕ). cond {A = ℕ} (o == owner) 1 0 in
    let parts = sum_by-set f owners q 0 0 (slice_get_within owners q owner is) in
    let here : f (get_or owners q 0) ≡ 1 = ap f (get_or_from_slice_get owners q owner 0 is)
    ∙ ap (λ (b : Bool). cond {A = ℕ} b 1 0) (number_itself owner) in
    let none : f 0 ≡ 0 = ap (λ (b : Bool). cond {A = ℕ} b 1 0) (zero_other owner some) in
    omega (arith, parts, here, none)

-- ---- the chain of one bucket has changed

module _ (ground : Ground) (place : Place) (s t : Sheets) (map : LeafMap) (some : 1 ≤ place.owner)
    (h : IsIsam ground place s map) (j : ℕ)
    (below : j < bucket_count (bytes_at s place.root)) (now : List ℕ)
    (c : IsBucketChanged ground place j s t (h.pages j) now)
    (Put : List ℕ → List ℕ → Type 0) (put_here : (k b : List ℕ) → Put k b
    → bucket_of (bytes_at s place.root) k ≡ j)
    (Stays : List ℕ → Type 0) (stays : (k : List ℕ) → bucket_of (bytes_at s place.root) k ≢ j
    → Stays k)
    (entries : (k b : List ℕ) → IsOn t now k b ↔ (Put k b ⊎ (Stays k × IsOn s (h.pages j) k b)))
  where
    abbrev pages_t : ℕ → List ℕ
    pages_t = changed h.pages j now

    b_now : AreBuckets ground place.owner t (bytes_at t place.root) pages_t
    b_now = buckets_now ground place s t map some h j below now c Put put_here Stays stays entries

    on_now : (k b : List ℕ) → (fin.get (isam_map place t) k ≡ Some b)
        ↔ (Put k b ⊎ (Stays k × IsOn s (h.pages (bucket_of (bytes_at s place.root) k)) k b))
    on_now k b =
        let read = isam_map_on ground place t pages_t some c.index c.root b_now
        (owned_now ground place s t map some h j below now c) k b in
        let on = on_bucket ground place s t map some h j below now c Put put_here Stays stays
        entries
        k b in (
          λ is. (let at = read.0 is in
              on.0 (subst (λ i. IsOn t (pages_t i) k b)
              (sym (b_now.placed at.bucket k b at.below at.on)) at.on)),
          λ put. read.1 (record {
            bucket = bucket_of (bytes_at t place.root) k;
            below = bucket_below (bytes_at t place.root) k c.index.some;
            on = on.1 put;
          }),
        )

    pub changed_found : (k b : List ℕ) → (fin.get (isam_map place t) k ≡ Some b)
        ↔ (Put k b ⊎ (Stays k × (fin.get map k ≡ Some b)))
    changed_found k b = (
      λ is. elim ((on_now k b).0 is)
          [ inl put ↦ inl put | inr old ↦ inr (old.0, (isam_at ground place s map h k b).1 old.1) ],
      λ put. (on_now k b).1 (elim put [
        | inl here ↦ inl here
        | inr old ↦ inr (
          old.0,
          (isam_at ground place s map h k b).0 old.1,
        )
      ]),
    )

    pub changed_isam : IsIsam ground place t (isam_map place t)
    changed_isam = bucket_isam ground place s t map some h j below now c Put put_here Stays stays
        entries (isam_map place t) on_now

-- ---- the first page of a chain is left out

module _ (ground : Ground) (place : Place) (s u : Sheets) (map : LeafMap) (some : 1 ≤ place.owner)
    (past : ground.tables ≤ place.root)
    (h : IsIsam ground place s map) (j : ℕ) (below : j < bucket_count (bytes_at s place.root))
    (first : ℕ) (first_is : first_page_of (bytes_at s place.root) j ≡ first)
    (first_some : first ≢ NONE)
    (l : IsLeftOut ground place (bytes_at s place.root) j first (next_at s first) s u) where
  chain : IsChain ground place.owner s first (h.pages j)
  chain = subst (λ n. IsChain ground place.owner s n (h.pages j)) first_is
      (h.buckets.chains j below)

  abbrev head : (rest : List ℕ) × (h.pages j ≡ first ∷ rest)
  head = headed ground place.owner s first (h.pages j) chain first_some

  same : StaysBeside ground s s (h.pages j) (h.pages j)
  same = record {
    owners = λ q off off'. refl;
    bytes = λ q in' off off'. refl;
    came = λ q c. inl c;
    left = λ q c. inl c;
  }

  first_in : Contains (h.pages j) first
  first_in = subst (λ (x : List ℕ). Contains x first) (sym head.1) (contains_here first head.0)

  out : IsBucketChanged ground place j s u (h.pages j) head.0
  out = left_out ground place s s u map some past h j below first first_is first_some
      (h.pages j) chain same l head.0 head.1

  abbrev Gone : List ℕ → Type 0
  Gone k = (c : List ℕ) → Contains (entries_at s first) (record { key = k; body = c }) → ⊥

  entries_out : (k b : List ℕ) → IsOn u head.0 k b ↔ (⊥ ⊎ (Gone k × IsOn s (h.pages j) k b))
  entries_out k b =
      let rest =
      on_rest ground place s s u map some past h j below first first_is first_some
      (h.pages j) chain same l head.0 head.1 k b in (
        λ on. inr (rest.0 on),
        λ old. elim old [ inl never ↦ absurd never | inr gone ↦ rest.1 gone ],
      )

  pub cut_isam : IsIsam ground place u (isam_map place u)
  cut_isam = changed_isam ground place s u map some h j below head.0 out (λ k b. ⊥)
      (λ k b never. absurd never) Gone
      (λ k d c at. d (h.buckets.placed j k c below
      (record { page = first; among = first_in; here = at }))) entries_out

  pub cut_others : OthersStay ground place.owner s u
  cut_others = bucket_others ground place s u map some h j below head.0 out

  pub cut_count : page_count place.owner u + 1 ≡ page_count place.owner s
  cut_count =
      let owners : u.owners ≡ set s.owners first 0 = l.freed.owners
      ∙ ap (λ (o : List ℕ). set o first 0) l.written.owners in
      ap (λ (o : List ℕ). count_by (λ n. n == place.owner) o + 1) owners
      ∙ count_freed place.owner first s.owners some (chain.fit.owned first first_in)

  pub cut_firsts : (bucket_count (bytes_at u place.root) ≡ bucket_count (bytes_at s place.root))
      × ((other : ℕ) → other < bucket_count (bytes_at s place.root) → other ≢ j
      → first_page_of (bytes_at u place.root) other ≡ first_page_of (bytes_at s place.root) other)
  cut_firsts = (out.count, out.firsts)

-- the file has a page
pub root_counted : (ground : Ground) (place : Place) (s : Sheets) (map : LeafMap) → 1 ≤ place.owner
    → IsIsam ground place s map
    → 1 ≤ page_count place.owner s
root_counted ground place s map some h = let less =
    count_freed place.owner place.root s.owners some h.root in omega (arith, less)

-- ---- chains are emptied

-- Pages of the chain of a bucket were freed. Those that are left are as many fewer.
pub record IsFreeingSo (ground : Ground) (place : Place) (bucket : ℕ) (start now : Sheets)
    (before index : List ℕ) (n : ℕ) : Type 0 where
  pub whole : HasIndex ground place now index
  pub firsts : (other : ℕ) → other < bucket_count before → other ≢ bucket
      → first_page_of index other ≡ first_page_of before other
  pub others : OthersStay ground place.owner start now
  pub few : page_count place.owner now + n ≤ ground.size

pub record IsFreeingChain {S : Type 0} (g : Ghosts S) (place : Place) (bucket : ℕ) (start now : S)
    (before index : List ℕ)
    (n : ℕ) : Type 0 where
  pub keeps : KeepsPages g start now
  pub faults : g.faults now ≡ g.faults start
  pub page : IsIndexPage index
  pub count : bucket_count index ≡ bucket_count before
  pub way : IsTrue g.tells → HasIndex (g.ground start) place (g.working start) before
      → IsFreeingSo (g.ground start) place bucket (g.working start) (g.working now) before index n

pub freeing_first : (ground : Ground) (place : Place) (bucket : ℕ) (s : Sheets) (index : List ℕ)
    → length s.owners ≡ ground.size
    → HasIndex ground place s index → IsFreeingSo ground place bucket s s index index 0
freeing_first ground place bucket s index many whole = record {
  whole = whole;
  firsts = λ other in' d. refl;
  others = others_itself ground place.owner s;
  few = let most = count_by-le-length (λ (o : ℕ). o == place.owner) s.owners in
      omega (arith, most, many);
}

module _ (ground : Ground) (place : Place) (bucket : ℕ) (start s : Sheets) (before index : List ℕ)
    (n : ℕ) (some : 1 ≤ place.owner)
    (f : IsFreeingSo ground place bucket start s before index n) where
  -- before all pages were freed there is an end
  pub freeing_ends : n < ground.size
  freeing_ends = let few = f.few in let one =
      root_counted ground place s f.whole.map some f.whole.file in omega (arith, few, one)

  module _ (below : bucket < bucket_count index) where
    pub freeing_chain : (pages : List ℕ)
        × IsChain ground place.owner s (first_page_of index bucket) pages
    freeing_chain = (
      f.whole.file.pages bucket,
      subst (λ (b : List ℕ). IsChain ground place.owner s (first_page_of b bucket)
          (f.whole.file.pages bucket))
          (sym f.whole.index_is)
          (f.whole.file.buckets.chains bucket
          (subst (λ (b : List ℕ). bucket < bucket_count b) f.whole.index_is below)),
    )

    pub freeing_done : ground.size < 2 ^ 32 → bucket_count index ≡ bucket_count before
        → first_page_of index bucket ≡ NONE
        → IsFreed ground place bucket before index start s
    freeing_done small count none = record {
      small = small;
      whole = f.whole;
      count = count;
      none = none;
      firsts = f.firsts;
      others = f.others;
    }

    pub freeing_cut : ground.tables ≤ place.root → (first next : ℕ) (index' : List ℕ) (u : Sheets)
        → first_page_of index bucket ≡ first
        → first ≢ NONE → next ≡ next_at s first → IsLeftOut ground place index bucket first next s u
        → index' ≡ bytes_at u place.root
        → bucket_count index ≡ bucket_count before
        → IsFreeingSo ground place bucket start u before index' (n + 1)
    freeing_cut past first next index' u first_is first_some next_is out read count =
        let below_s = subst (λ (b : List ℕ). bucket < bucket_count b) f.whole.index_is below in
        let first_s = ap (λ (b : List ℕ). first_page_of b bucket) (sym f.whole.index_is)
        ∙ first_is in
        let out_s = subst (λ m. IsLeftOut ground place (bytes_at s place.root) bucket first m s u)
        next_is
        (subst (λ (b : List ℕ). IsLeftOut ground place b bucket first next s u) f.whole.index_is
        out) in
        let firsts = (cut_firsts ground place s u f.whole.map some past f.whole.file bucket below_s
        first first_s first_some out_s).1 in
        record {
          whole = record {
            map = isam_map place u;
            file = cut_isam ground place s u f.whole.map some past f.whole.file bucket below_s first
                first_s first_some out_s;
            index_is = read;
          };
          firsts = λ other in' d. ap (λ (b : List ℕ). first_page_of b other) read
              ∙ firsts other (subst (λ (b : List ℕ). other < bucket_count b) f.whole.index_is
              (omega (arith, in', count))) d
              ∙ ap (λ (b : List ℕ). first_page_of b other) (sym f.whole.index_is)
              ∙ f.firsts other in' d;
          others = others_joined ground place.owner start s u f.others
              (cut_others ground place s u f.whole.map some past f.whole.file bucket below_s first
              first_s first_some out_s);
          few = let one = cut_count ground place s u f.whole.map some past f.whole.file bucket
              below_s first first_s first_some out_s in
              let few = f.few in omega (arith, one, few);
        }

-- the first chains were emptied
pub record IsFreeingAll (ground : Ground) (place : Place) (start now : Sheets) (index : List ℕ)
    (bucket : ℕ) : Type 0 where
  pub whole : HasIndex ground place now index
  pub small : 0 < bucket → ground.size < 2 ^ 32
  pub none : (i : ℕ) → i < bucket → first_page_of index i ≡ NONE
  pub others : OthersStay ground place.owner start now

pub record IsFreeing {S : Type 0} (g : Ghosts S) (place : Place) (start now : S) (index : List ℕ)
    (count bucket : ℕ) : Type 0 where
  pub keeps : KeepsPages g start now
  pub faults : g.faults now ≡ g.faults start
  pub page : IsIndexPage index
  pub counted : bucket_count index ≡ count
  pub within : bucket ≤ count
  pub way : (map : LeafMap) → IsTrue g.tells → IsIsam (g.ground start) place (g.working start) map
      → IsFreeingAll (g.ground start) place (g.working start) (g.working now) index bucket

pub freed_more : (ground : Ground) (place : Place) (start s u : Sheets) (index index' : List ℕ)
    (bucket : ℕ) → bucket < bucket_count index
    → IsFreeingAll ground place start s index bucket → IsFreed ground place bucket index index' s u
    → IsFreeingAll ground place start u index' (bucket + 1)
freed_more ground place start s u index index' bucket below f freed = record {
  whole = freed.whole;
  small = λ some. freed.small;
  none = λ i less. elim (cases_eq i bucket) [
    | inl e ↦ ap (first_page_of index') e ∙ freed.none
    | inr d ↦ freed.firsts i (omega (arith, less, below)) d ∙ f.none i (omega (arith, less, d))
  ];
  others = others_joined ground place.owner start s u f.others freed.others;
}

-- ---- all chains are empty

pub none_left : (ground : Ground) (place : Place) (s : Sheets) (map : LeafMap)
    → ground.size < 2 ^ 32 → IsIsam ground place s map
    → ((i : ℕ) → i < bucket_count (bytes_at s place.root)
    → first_page_of (bytes_at s place.root) i ≡ NONE)
    → (q : ℕ) → slice_get s.owners q ≡ Some place.owner → q ≡ place.root
none_left ground place s map small h none q o = elim (h.owned q o) [
  | inl e ↦ e
  | inr on ↦ (let pages = no_pages ground place.owner s (h.pages on.bucket) small
      (subst (λ n. IsChain ground place.owner s n (h.pages on.bucket)) (none on.bucket on.below)
      (h.buckets.chains on.bucket on.below)) in
      absurd (contains_none q (subst (λ (x : List ℕ). Contains x q) pages on.among)))
]

pub freed_all : (ground : Ground) (place : Place) (start s : Sheets) (index : List ℕ) (bucket : ℕ)
    → IsFreeingAll ground place start s index bucket → bucket ≡ bucket_count index
    → IsEmptied ground place start s
freed_all ground place start s index bucket f all = record {
  root = f.whole.file.root;
  only = none_left ground place s f.whole.map
      (f.small (let some = f.whole.file.index.some in let count = ap bucket_count f.whole.index_is
      in omega (arith, some, count, all)))
      f.whole.file
      (λ i less. ap (λ (b : List ℕ). first_page_of b i) (sym f.whole.index_is)
      ∙ f.none i (subst (λ n. i < n) (sym all)
      (subst (λ (b : List ℕ). i < bucket_count b) (sym f.whole.index_is) less)));
  others = f.others;
}

-- an index without pages is written to the root
module _ (ground : Ground) (place : Place) (before s m t : Sheets) (page : List ℕ)
    (e : IsEmptied ground place before s) (same : m ≡ s)
    (within : place.root < length s.bytes)
    (written : t ≡ record { owners = m.owners; bytes = set m.bytes place.root page })
    (index : IsIndexPage page)
    (none : (i : ℕ) → i < bucket_count page → first_page_of page i ≡ NONE) where
  t_is : t ≡ record { owners = s.owners; bytes = set s.bytes place.root page }
  t_is = written ∙ ap (λ (x : Sheets).
      record { owners = x.owners; bytes = set x.bytes place.root page }) same

  owners_same : t.owners ≡ s.owners
  owners_same = ap (λ (x : Sheets). x.owners) t_is

  pub blank_page : bytes_at t place.root ≡ page
  blank_page = ap (λ (x : Sheets). bytes_at x place.root) t_is
      ∙ get_or-set_same s.bytes place.root page [] within

  blank_chain : (i : ℕ) → i < bucket_count (bytes_at t place.root)
      → IsChain ground place.owner t (first_page_of (bytes_at t place.root) i) []
  blank_chain i less = record {
    linked = ap (λ (b : List ℕ). first_page_of b i) blank_page
        ∙ none i (subst (λ (b : List ℕ). i < bucket_count b) blank_page less);
    fit = fit_none ground place.owner t (first_page_of (bytes_at t place.root) i);
  }

  pub blank_isam : IsIsam ground place t fin.empty
  blank_isam = as_isam ground place t fin.empty (λ i. []) (subst IsIndexPage (sym blank_page) index)
      (ap (λ (o : List ℕ). slice_get o place.root) owners_same ∙ e.root)
      (record {
        chains = blank_chain;
        filled = λ i q less q_in. absurd (contains_none q q_in);
        placed = λ i k b less on. absurd (contains_none on.page on.among);
      })
      (λ q o. inl (e.only q (sym (ap (λ (x : List ℕ). slice_get x q) owners_same) ∙ o)))
      (λ k b. (
        λ is. absurd (none-some b (sym (fin.get-empty key_cmp k) ∙ is)),
        λ on. absurd (contains_none on.page on.among),
      ))

  pub blank_others : OthersStay ground place.owner before t
  blank_others = others_joined ground place.owner before s t e.others (λ other d z. record {
    owned = λ q. (
      λ o. ap (λ (x : List ℕ). slice_get x q) owners_same ∙ o,
      λ o. sym (ap (λ (x : List ℕ). slice_get x q) owners_same) ∙ o,
    );
    bytes = λ q in' o. ap (λ (x : Sheets). slice_get x.bytes q) t_is
        ∙ slice_get_set s.bytes place.root q page
        (λ is. d (sym (same_Some place.owner other (sym e.root ∙ ap (slice_get s.owners) (sym is)
        ∙ o))));
  })

-- it is blank for the entries of the map
pub blank_for : (ground : Ground) (place : Place) (s r t : Sheets) (map : LeafMap) (page : List ℕ)
    (entries : List LeafEntry)
    → IsEmptied ground place s r → place.root < length r.bytes
    → t ≡ record { owners = r.owners; bytes = set r.bytes place.root page }
    → IsIndexPage page
    → ((i : ℕ) → i < bucket_count page → first_page_of page i ≡ NONE) → entries ≡ selected [] [] map
    → IsBlankFor ground place t page entries map
blank_for ground place s r t map page entries e within written index none is = record {
  file = blank_isam ground place s r r t page e refl within written index none;
  index_is = sym (blank_page ground place s r r t page e refl within written index none);
  those = subst (AreEntriesOf map) (sym is) (selected_those map);
}

-- ---- chains are filled

-- The entries from a place on stand in the file, whose index this is.
pub record IsFilledFrom (ground : Ground) (place : Place) (start now : Sheets)
    (before index : List ℕ) (entries : List LeafEntry)
    (end : ℕ) : Type 0 where
  pub map : LeafMap
  pub file : IsIsam ground place now map
  pub index_is : index ≡ bytes_at now place.root
  pub count : bucket_count index ≡ bucket_count before
  pub separators : separators_of index ≡ separators_of before
  pub those : (k b : List ℕ) → (fin.get map k ≡ Some b) ↔ IsWithin entries end (length entries) k b
  pub others : OthersStay ground place.owner start now

pub filled_first : (ground : Ground) (place : Place) (s : Sheets) (index : List ℕ)
    (entries : List LeafEntry) (map : LeafMap) (end : ℕ)
    → IsBlankFor ground place s index entries map → end ≡ length entries
    → IsFilledFrom ground place s s index index entries end
filled_first ground place s index entries map end blank is = record {
  map = fin.empty;
  file = blank.file;
  index_is = blank.index_is;
  count = refl;
  separators = refl;
  those = λ k b. (
    λ some. absurd (none-some b (sym (fin.get-empty key_cmp k) ∙ some)),
    λ at. (let from = at.from in let below = at.below in absurd (omega (arith, from, below, is))),
  );
  others = others_itself ground place.owner s;
}

module _ (ground : Ground) (place : Place) (begin s u : Sheets) (before index index' : List ℕ)
    (entries : List LeafEntry)
    (ordered : AreOrdered entries) (start end : ℕ) (within : end ≤ length entries)
    (some : 1 ≤ place.owner)
    (f : IsFilledFrom ground place begin s before index entries end)
    (j : ℕ) (below : j < bucket_count index) (es : List Entry)
    (run : IsRun index entries start end j es)
    (hung : IsHungBefore ground place index j es s u) (read : index' ≡ bytes_at u place.root)
    (count : bucket_count index' ≡ bucket_count index)
    (separators : separators_of index' ≡ separators_of index) where
  abbrev h : IsIsam ground place s f.map
  h = f.file

  below_s : j < bucket_count (bytes_at s place.root)
  below_s = subst (λ (b : List ℕ). j < bucket_count b) f.index_is below

  hung_s : IsHungBefore ground place (bytes_at s place.root) j es s u
  hung_s = subst (λ (x : List ℕ). IsHungBefore ground place x j es s u) f.index_is hung

  es_apart : (k b c : List ℕ) → Contains es (record { key = k; body = b }) → IsOn s (h.pages j) k c
      → ⊥
  es_apart k b c here on =
      let new = (run.those k b).0 here in
      let old = (f.those k c).0 ((h.map_is k c).1 (record { bucket = j; below = below_s; on = on }))
      in
      let less = new.below in
      let more = old.from in
      apart_keys entries ordered new.place old.place k b c (omega (arith, less, more)) new.there
      old.there

  changed_s : IsBucketChanged ground place j s u (h.pages j) (hung_s.fresh ∷ h.pages j)
  changed_s = hung_bucket ground place s u f.map some h j below_s es run.filled es_apart hung_s

  abbrev Put : List ℕ → List ℕ → Type 0
  Put k b = Contains es (record { key = k; body = b })

  put_here : (k b : List ℕ) → Put k b → bucket_of (bytes_at s place.root) k ≡ j
  put_here k b put = ap (λ (x : List ℕ). bucket_of x k) (sym f.index_is) ∙ run.placed k b put

  entries_s : (k b : List ℕ) → IsOn u (hung_s.fresh ∷ h.pages j) k b
      ↔ (Put k b ⊎ (Unit {0} × IsOn s (h.pages j) k b))
  entries_s k b = (let on =
      hung_on ground place s u f.map some h j below_s es run.filled es_apart hung_s k b in (
        λ is. elim (on.0 is) [ inl here ↦ inl here | inr old ↦ inr (tt, old) ],
        λ is. on.1 (elim is [ inl here ↦ inl here | inr old ↦ inr old.1 ]),
      ))

  found : (k b : List ℕ) → (fin.get (isam_map place u) k ≡ Some b)
      ↔ (Put k b ⊎ (Unit {0} × (fin.get f.map k ≡ Some b)))
  found = changed_found ground place s u f.map some h j below_s (hung_s.fresh ∷ h.pages j) changed_s
      Put put_here (λ k. Unit {0})
      (λ k d. tt) entries_s

  pub filled_more : IsFilledFrom ground place begin u before index' entries start
  filled_more = record {
    map = isam_map place u;
    file = changed_isam ground place s u f.map some h j below_s (hung_s.fresh ∷ h.pages j) changed_s
        Put put_here (λ k. Unit {0})
        (λ k d. tt) entries_s;
    index_is = read;
    count = count ∙ f.count;
    separators = separators ∙ f.separators;
    those = λ k b. (
      λ is. elim ((found k b).0 is) [
        | inl here ↦
            (let w = (run.those k b).0 here in let less = w.below in
            record {
              place = w.place;
              from = w.from;
              below = omega (arith, less, within);
              there = w.there;
            })
        | inr old ↦ (let w = (f.those k b).0 old.1 in let more = w.from in let more' = run.some in
            record {
              place = w.place;
              from = omega (arith, more, more');
              below = w.below;
              there = w.there;
            })
      ],
      λ w. (found k b).1 (elim (cases_lt w.place end) [
        | inl less ↦ inl ((run.those k b).1
            (record { place = w.place; from = w.from; below = less; there = w.there }))
        | inr more ↦ inr (
          tt,
          (f.those k b).1
              (record { place = w.place; from = more; below = w.below; there = w.there }),
        )
      ]),
    );
    others = others_joined ground place.owner begin s u f.others
        (bucket_others ground place s u f.map some h j below_s (hung_s.fresh ∷ h.pages j)
        changed_s);
  }

pub record IsFilling {S : Type 0} (g : Ghosts S) (place : Place) (start now : S)
    (before index : List ℕ) (entries : List LeafEntry)
    (end : ℕ) : Type 0 where
  pub keeps : KeepsPages g start now
  pub faults : g.faults now ≡ g.faults start
  pub page : IsIndexPage index
  pub within : end ≤ length entries
  pub way : (map : LeafMap) → IsTrue g.tells
      → IsBlankFor (g.ground start) place (g.working start) before entries map
      → IsFilledFrom (g.ground start) place (g.working start) (g.working now) before index entries
      end

-- it is part of the map, so that the pages are few
module _ (ground : Ground) (place : Place) (start s : Sheets) (before index : List ℕ)
    (entries : List LeafEntry) (end : ℕ) (map : LeafMap)
    (all : AreEntriesOf map entries)
    (f : IsFilledFrom ground place start s before index entries end) where
  part : (k b : List ℕ) → fin.get f.map k ≡ Some b → fin.get map k ≡ Some b
  part k b is = let w = (f.those k b).0 is in (all k b).1 (w.place, w.there)

  abbrev pages : List ℕ
  pages = pages_below f.file.pages (bucket_count (bytes_at s place.root))

  owned : (q : ℕ) → slice_get s.owners q ≡ Some place.owner → Contains (place.root ∷ pages) q
  owned q o = elim (f.file.owned q o) [
    | inl e ↦ subst (Contains (place.root ∷ pages)) (sym e) (contains_here place.root pages)
    | inr r ↦ contains_later place.root q pages
        (below_from f.file.pages (bucket_count (bytes_at s place.root)) r.bucket q r.below r.among)
  ]

  pub filled_partly : IsPartlyFilled ground place start s map
  filled_partly =
      let listed = count_listed place.owner s.owners 0 (place.root ∷ pages)
      (λ q o. subst (Contains (place.root ∷ pages)) (omega arith) (owned q o)) in
      let most = below_few ground place.owner place.root s f.file.pages f.file.buckets map
      (λ k b on. part k b ((isam_map_is ground place s f.map f.file k b).1 on)) in
      record { others = f.others; few = omega (arith, listed, most) }

  pub filled_last : end ≡ 0 → IsFilled ground place before s map
  filled_last none = record {
    file = record {
      index = f.file.index;
      root = f.file.root;
      pages = f.file.pages;
      buckets = f.file.buckets;
      owned = f.file.owned;
      map_is = λ k b. (
        λ is. (let at = (all k b).0 is in (f.file.map_is k b).0
            ((f.those k b).1
            (record {
              place = at.0;
              from = omega (arith, none);
              below = slice_get_within entries at.0 (record { key = k; body = b }) at.1;
              there = at.1;
            }))),
        λ on. part k b ((f.file.map_is k b).1 on),
      );
    };
    count = ap bucket_count (sym f.index_is) ∙ f.count;
    separators = ap separators_of (sym f.index_is) ∙ f.separators;
  }

-- ---- a page is filled

-- the page has the entries from a place on
pub record IsFillingPage (index : List ℕ) (entries : List LeafEntry) (start end bucket : ℕ)
    (page : List ℕ) : Type 0 where
  pub is_page : IsEntryPage page
  pub run : IsRun index entries start end bucket (entries_of page)

within_one : (entries : List LeafEntry) (start end : ℕ) (k b : List ℕ) (e : LeafEntry) → start < end
    → slice_get entries start ≡ Some e
    → IsWithin entries start end k b → (e ≡ record { key = k; body = b })
    ⊎ IsWithin entries (start + 1) end k b
within_one entries start end k b e less at w = elim (cases_eq w.place start) [
  | inl same ↦
      inl (same_entry entries start e (record { key = k; body = b }) at
      (subst (λ n. slice_get entries n ≡ Some (record { key = k; body = b })) same w.there))
  | inr d ↦ (let from = w.from in
      inr (record {
        place = w.place;
        from = omega (arith, from, d);
        below = w.below;
        there = w.there;
      }))
]

-- an entry in front
pub run_more : (index : List ℕ) (entries : List LeafEntry) (start end bucket : ℕ)
    (page new : List Entry) (key body : List ℕ)
    → (start + 1 ≤ end) → slice_get entries start ≡ Some (record { key = key; body = body })
    → bucket_of index key ≡ bucket
    → ((k b : List ℕ) → Contains page (record { key = k; body = b })
    ↔ IsWithin entries (start + 1) end k b)
    → ((k b : List ℕ) → Contains page (record { key = k; body = b }) → bucket_of index k ≡ bucket)
    → new ≡ insert page 0 (record { key = key; body = body })
    → IsRun index entries start end bucket new
run_more index entries start end bucket page new key body less at placed those all_placed is =
    let e : Entry = record { key = key; body = body } in
    let to = λ (k b : List ℕ) (c : Contains new (record { key = k; body = b })). more_to page 0 e
    (record { key = k; body = b })
    (subst (λ (x : List Entry). Contains x (record { key = k; body = b })) is c) in
    let from =
    λ (k b : List ℕ) (c : (e ≡ record { key = k; body = b })
    ⊎ Contains page (record { key = k; body = b })). subst
    (λ (x : List Entry). Contains x (record { key = k; body = b })) (sym is)
    (more_from page 0 e (record { key = k; body = b }) c) in
    record {
      some = omega (arith, less);
      filled = λ none. contains_none e
          (subst (λ (x : List Entry). Contains x e) none (from key body (inl refl)));
      those = λ k b. (
        λ c. elim (to k b c) [
          | inl same ↦ record {
            place = start;
            from = omega arith;
            below = omega (arith, less);
            there = at ∙ ap Some (λ i.
                record {
                  key = (ap (λ (x : Entry). x.key) same) i;
                  body = (ap (λ (x : Entry). x.body) same) i;
                });
          }
          | inr old ↦
              (let w = (those k b).0 old in let low = w.from in record {
                place = w.place;
                from = omega (arith, low);
                below = w.below;
                there = w.there;
              })
        ],
        λ w. from k b (elim (within_one entries start end k b (record { key = key; body = body })
            (omega (arith, less)) at w) [
              | inl same ↦ inl (λ i. record {
                key = (ap (λ (x : LeafEntry). x.key) same) i;
                body = (ap (λ (x : LeafEntry). x.body) same) i;
              })
              | inr later ↦ inr ((those k b).1 later)
            ]),
      );
      placed = λ k b c. elim (to k b c) [
        | inl same ↦ ap (bucket_of index) (sym (ap (λ (x : Entry). x.key) same)) ∙ placed
        | inr old ↦ all_placed k b old
      ];
    }

-- the last entry alone
pub run_first : (index : List ℕ) (entries : List LeafEntry) (start end bucket : ℕ)
    (page new : List Entry) (key body : List ℕ)
    → start + 1 ≡ end → slice_get entries start ≡ Some (record { key = key; body = body })
    → bucket_of index key ≡ bucket → page ≡ []
    → new ≡ insert page 0 (record { key = key; body = body })
    → IsRun index entries start end bucket new
run_first index entries start end bucket page new key body last at placed none is =
    run_more index entries start end bucket page new key body (omega (arith, last)) at placed
    (λ k b. (
      λ c. absurd
          (contains_none (record { key = k; body = b })
          (subst (λ (x : List Entry). Contains x (record { key = k; body = b })) none c)),
      λ w. (let low = w.from in let high = w.below in absurd (omega (arith, low, high, last))),
    ))
    (λ k b c. absurd
    (contains_none (record { key = k; body = b })
    (subst (λ (x : List Entry). Contains x (record { key = k; body = b })) none c))) is

-- one entry more, in front
pub filling_more : (index : List ℕ) (entries : List LeafEntry) (start end bucket : ℕ)
    (page new : List ℕ) (key body : List ℕ) → 0 < start
    → IsFillingPage index entries start end bucket page
    → slice_get entries (start - 1) ≡ Some (record { key = key; body = body })
    → bucket_of index key ≡ bucket
    → IsEntryPage new → entries_of new ≡ insert (entries_of page) 0
    (record { key = key; body = body })
    → IsFillingPage index entries (start - 1) end bucket new
filling_more index entries start end bucket page new key body some f at placed is_page is =
    let before : start ≡ start - 1 + 1 = omega (arith, some) in
    let run = subst (λ n. IsRun index entries n end bucket (entries_of page)) before f.run in
    let less = run.some in
    record {
      is_page = is_page;
      run = run_more index entries (start - 1) end bucket (entries_of page)
          (entries_of new) key body
          (omega (arith, less)) at placed run.those run.placed is;
    }

-- its key is none of those behind it
pub run_apart : (index : List ℕ) (entries : List LeafEntry) (ordered : AreOrdered entries)
    (start end bucket : ℕ) (page : List Entry)
    (key body : List ℕ) → IsRun index entries (start + 1) end bucket page
    → slice_get entries start ≡ Some (record { key = key; body = body })
    → All (λ e. e.key ≢ key) page
run_apart index entries ordered start end bucket page key body run at i d below same =
    let e = get_or page i d in
    let w = (run.those e.key e.body).0 (i, below, get_or_same page i d e below) in
    let low = w.from in
    apart_keys entries ordered start w.place key body e.body (omega (arith, low)) at
    (subst (λ (k : List ℕ). slice_get entries w.place ≡ Some (record { key = k; body = e.body }))
    same w.there) where
      get_or_same : (xs : List Entry) (n : ℕ) (a b : Entry) → n < length xs
          → get_or xs n b ≡ get_or xs n a
      get_or_same [] n a b less = absurd (omega (arith, less))
      get_or_same (x ∷ xs) zero a b less = refl
      get_or_same (x ∷ xs) (suc n) a b less = get_or_same xs n a b (omega (arith, less))

pub filling_apart : (index : List ℕ) (entries : List LeafEntry) (start end bucket : ℕ)
    (page : List ℕ) (key body : List ℕ)
    → AreOrdered entries → 0 < start → IsFillingPage index entries start end bucket page
    → slice_get entries (start - 1) ≡ Some (record { key = key; body = body })
    → All (λ e. e.key ≢ key) (entries_of page)
filling_apart index entries start end bucket page key body ordered some f at =
    run_apart index entries ordered (start - 1) end bucket (entries_of page) key body
    (subst (λ n. IsRun index entries n end bucket (entries_of page))
    (let before : start ≡ start - 1 + 1 = omega (arith, some) in before)
    f.run) at
