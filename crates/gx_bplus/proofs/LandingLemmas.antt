-- A search that only reads, and a change of the entry page where it ends.
use Rattle.std.proofs.Common.{◌≡◌, ◌≢◌, inl, inr, ℕ, ◌+◌, ◌<◌, ◌≤◌, List, [], length, refl, sym, ap, ◌∙◌, subst, arith}
use Rattle.std.specs.Prelude.{IsTrue, Result, Err, OnOk, IsErrOf}
use Rattle.std.specs.FinMap.{insert, remove}
use Rattle.std.specs.List.{All}
use Rattle.gx_ports.specs.declared.page_view.PageView.{Ghosts}
use Rattle.gx_ports.specs.declared.pages.Place.{Place}
use Rattle.gx_ports.specs.declared.stop.Stop.{Stop}
use Rattle.gx_ports.specs.declared.stop.Stop.TheVariants.{Damaged, Fault}
use Rattle.gx_ports.specs.FileCalls.{PutsInFile, RemovesFromFile}
use Rattle.gx_ports.specs.Files.{Holds, IsWhole, EndsFile, IsFull, OthersStay}
use Rattle.gx_ports.specs.LeafMaps.{LeafMap}
use Rattle.gx_ports.specs.PageCalls.{ReadsPages}
use Rattle.gx_ports.specs.Sheets.{Sheets, Ground, IsPast, IsHome, HasNone, bytes_at}
use Rattle.gx_ports.proofs.PageLemmas.{kept_pages_joined, others_itself, read_pages_joined}
use Rattle.gx_slots.specs.Entries.{Entry}
use Rattle.gx_slots.specs.Page.{entries_of}
use Rattle.gx_bnode.specs.declared.leading.Fork.{Fork}
use Rattle.gx_bnode.specs.Page.{first_of, branches_of}
use Rattle.gx_btree.specs.declared.reading.Shape.TheVariants as shapes
use Rattle.gx_btree.specs.declared.reading.Step.{Step}
use Rattle.gx_btree.specs.declared.reading.Step.TheVariants as steps
use Rattle.gx_btree.specs.Bplus.{IsBplus, IsTreePage, IsOwned, IsWritten, ArePast, Shows}
use Rattle.gx_btree.specs.Hole.{IsAtHand}
use Rattle.gx_btree.specs.Order.{IsUpTo, IsUnder}
use Rattle.gx_btree.specs.Reading.{Tells}
use Rattle.gx_btree.specs.Tree.{In, BplusTree, ShowsEntries, entries, leaf, pages}
use Rattle.gx_btree.proofs.CallLemmas.{ends_after}
use Rattle.gx_btree.proofs.EntryLemmas.{shows_entries, entries_up, place_in, some_of}
use Rattle.gx_btree.proofs.OrderLemmas.{not_both, not_under_over}
use Rattle.gx_btree.proofs.FileLemmas.{past_of, descent_ends}
use Rattle.gx_btree.proofs.StepLemmas.{leaf_is, top_in}
use Rattle.gx_btree.proofs.SheetLemmas.{written_here, written_other, written_owned, written_others}
use Rattle.gx_bplus.specs.Changes.{IsPutIn, IsTakenFrom}
use Rattle.gx_bplus.specs.Search.{HasLanded, HasPut, HasRemoved}
use Rattle.gx_bplus.proofs.FileLemmas.{IsDescent, root_hand, next_ends, child_hand}
use Rattle.gx_bplus.proofs.PutLemmas.{added}
use Rattle.gx_bplus.proofs.RemoveLemmas.{taken_below}

abbrev entry : List ℕ → List ℕ → Entry
entry key body = record { key = key; body = body }

-- A search by a call has come to a page, and read alone.
pub record IsLanding {S : Type 0} (g : Ghosts S) (place : Place) (key : List ℕ) (start now : S)
    (at : ℕ) (page : List ℕ) (step : Step) (count : ℕ) : Type 0 where
  pub reads : ReadsPages g start now
  pub faults : g.faults now ≡ g.faults start
  pub past : IsPast (g.ground start) at
  pub tells : Tells key step page
  pub told : IsTrue g.tells → bytes_at (g.working start) at ≡ page
  pub hand : (map : LeafMap) (holds : Holds g (IsBplus (g.ground start) place) start map)
      → IsAtHand (bytes_at (g.working start))
      (IsOwned place.owner (g.working start)) place.root at key holds.file.tree count

module _ {S : Type 0} (g : Ghosts S) (place : Place) (key : List ℕ) (start : S) where
  abbrev Whole : Type 0
  Whole = IsWhole g (IsBplus (g.ground start) place) start

  pub landing_starts : (now : S) (page : List ℕ) (step : Step) → ReadsPages g start now
      → g.faults now ≡ g.faults start → IsPast (g.ground start) place.root → Tells key step page
      → (IsTrue g.tells → bytes_at (g.working start) place.root ≡ page)
      → IsLanding g place key start now place.root page step 0
  landing_starts now page step reads faults past tells told = record {
    reads = reads;
    faults = faults;
    past = past;
    tells = tells;
    told = told;
    hand = λ map holds. root_hand (g.ground start) place (g.working start) map key holds.file;
  }

  module _ {count : ℕ} (now : S) (at : ℕ) (page : List ℕ) (fork : Fork)
      (d : IsLanding g place key start now at page (steps.Inner fork) count) where
    -- it goes on from an inner page
    pub landing_descent : IsDescent g place key start now at page count
    landing_descent = record {
      reads = d.reads;
      faults = d.faults;
      past = d.past;
      inner = d.tells.0;
      told = d.told;
      hand = d.hand;
    }

    pub landing_reads : {T : Type 0} (b : S) (r : Result T Stop)
        → EndsFile g (IsTrue g.tells × IsTreePage (g.ground now) (g.working now) fork.child) now b r
        → EndsFile g Whole start b r
    landing_reads b r e =
        next_ends g place key start now at page landing_descent fork.child d.tells.1.child b r e

    pub landing_goes : (b : S) (below : List ℕ) (step : Step) → ReadsPages g now b
        → g.faults b ≡ g.faults now → IsPast (g.ground now) fork.child → Tells key step below
        → (IsTrue g.tells → bytes_at (g.working now) fork.child ≡ below)
        → IsLanding g place key start b fork.child below step (count + 1)
    landing_goes b below step reads faults past tells told = record {
      reads = read_pages_joined g d.reads reads;
      faults = faults ∙ d.faults;
      past = subst (λ x. IsPast x fork.child) d.reads.keeps.ground past;
      tells = tells;
      told = λ t. subst (λ s. bytes_at s fork.child ≡ below) d.reads.working (told t);
      hand = child_hand g place key start now at page landing_descent fork.child d.tells.1.child;
    }

  -- it ends on an entry page
  pub landing_lands : {count : ℕ} (now : S) (at : ℕ) (page : List ℕ) (step : Step)
      → IsLanding g place key start now at page step count → (map : LeafMap)
      (holds : Holds g (IsBplus (g.ground start) place) start map)
      → HasLanded place.owner (g.working start) place.root key holds.file.tree at page
  landing_lands {count} now at page step d map holds = record {
    steps = count;
    hand = d.hand map holds;
    bytes_are = d.told holds.told;
  }

  -- it never ends on damaged pages alone
  pub landing_lost : {T : Type 0} {count : ℕ} (now : S) (at : ℕ) (page : List ℕ) (step : Step)
      (n : ℕ) → IsLanding g place key start now at page step count → (g.ground start).size ≤ count
      → IsHome (g.ground start) n → EndsFile {T = T} g Whole start now (Err (Damaged n))
  landing_lost now at page step n d over block = record {
    cause = record {
      later = (let f = d.faults in omega (arith, f));
      fault = λ is. let no : ⊥ = cc in absurd no;
      counted = λ _. d.faults;
      damaged = λ m is w. (let e = descent_ends (g.ground start) place.owner
          (g.working start) place.root at key w.1.file.tree
          (past_of (g.ground start) place (g.working start) w.0 w.1.file) (d.hand w.0 w.1) in
          omega (arith, e, over));
    };
    home = λ m is. let same : n ≡ m = cc in subst (IsHome (g.ground start)) same block;
  }

-- an entry is put on the page where the search ended
pub landed_put : (ground : Ground) (owner root : ℕ) (key body : List ℕ) (a b : Sheets)
    (tree : BplusTree) (page : ℕ) (old new : List ℕ)
    → HasLanded owner a root key tree page old → ArePast ground owner a
    → Shows shapes.Entries old → Shows shapes.Entries new
    → IsPutIn (entry key body) (entries_of old) (entries_of new) → IsWritten page new a b
    → page < length a.bytes → HasPut ground owner root (entry key body) a b tree
landed_put ground owner root key body a b tree page old new landed past shown shown' puts written
    below =
    let h = landed.hand in
    let mine : IsOwned owner a page = (h.owns page).1
    (inl (subst (λ q. In q (pages h.subtree)) h.fits.page_is (top_in h.subtree))) in
    let owners = written_owned page new a b written owner in
    record {
      put = added (bytes_at a) (bytes_at b) (IsOwned owner a) (IsOwned owner b) root page
          (entry key body) tree (entries_of old) (entries_of new)
          (subst (λ d. ShowsEntries d (entries_of old)) (sym landed.bytes_are)
          (shows_entries old shown))
          (subst (λ d. ShowsEntries d (entries_of new))
          (sym (written_here page new a b written below)) (shows_entries new shown'))
          (λ _. entries_up new shown') (λ _. puts)
          (λ q o d. written_other page new a b written q d) owners landed.hand;
      past = λ q o. past q ((owners q).0 o);
      others = written_others ground owner page new a b written mine;
    }

-- the same, after a call that read
pub landed_written : {S : Type 0} (g : Ghosts S) (place : Place) (key body : List ℕ)
    (start b c : S) (page : ℕ) (old new : List ℕ) → ReadsPages g start b → (map : LeafMap)
    (holds : Holds g (IsBplus (g.ground start) place) start map)
    → HasLanded place.owner (g.working start) place.root key holds.file.tree page old
    → IsPast (g.ground start) page → length (g.working start).bytes ≡ (g.ground start).size
    → Shows shapes.Entries old → Shows shapes.Entries new
    → IsPutIn (entry key body) (entries_of old) (entries_of new)
    → IsWritten page new (g.working b) (g.working c)
    → HasPut (g.ground start) place.owner place.root (entry key body) (g.working start)
    (g.working c) holds.file.tree
landed_written g place key body start b c page old new reads map holds landed past size shown shown'
    puts written =
    landed_put (g.ground start) place.owner place.root key body (g.working start) (g.working c)
    holds.file.tree page old new landed
    (past_of (g.ground start) place (g.working start) map holds.file) shown shown' puts
    (subst (λ s. IsWritten page new s (g.working c)) reads.working written)
    (let l = past.below in omega (arith, l, size))

-- no entry of the tree has a key that isn't on the page where its search ended
absent : {steps : ℕ} (at : ℕ → List ℕ) (owned : ℕ → Type 0) (root p : ℕ) (key : List ℕ)
    (old : BplusTree) (es : List Entry) → IsAtHand at owned root p key old steps
    → ShowsEntries (at p) es → All (λ e. e.key ≢ key) es
    → IsTakenFrom key (entries old) (entries old)
absent at owned root p key old es h shows missing x = ((λ i. (i, other i)), λ k. k.0) where
  own : entries h.subtree ≡ es
  own = ap entries (leaf_is at h.subtree es
      (subst (λ q. ShowsEntries (at q) es) (sym h.fits.page_is) shows) h.fits.stands)

  other : In x (entries old) → x.key ≢ key
  other i same = elim ((h.entries_are x).0 i) [
    | inl a ↦ (let p = place_in x es (subst (In x) own a) in
        missing p.place x p.below (ap (λ (e : Entry). e.key) (p.is x) ∙ same))
    | inr b ↦ elim (h.hole.out x b) [
      | inl c ↦ not_both x.key h.lo c (subst (IsUpTo h.lo) (sym same) h.from)
      | inr c ↦ not_under_over x.key h.hi
          (subst (λ (k : List ℕ). IsUnder k h.hi) (sym same) h.to) c
    ]
  ]

-- a key that isn't there is removed already
pub landed_absent : {S : Type 0} (g : Ghosts S) (place : Place) (key : List ℕ) (start b : S)
    (page : ℕ) (bytes : List ℕ) → ReadsPages g start b → (map : LeafMap)
    (holds : Holds g (IsBplus (g.ground start) place) start map)
    → HasLanded place.owner (g.working start) place.root key holds.file.tree page bytes
    → Shows shapes.Entries bytes → All (λ e. e.key ≢ key) (entries_of bytes)
    → HasRemoved (g.ground start) place.owner place.root key (g.working start) (g.working b)
    holds.file.tree
landed_absent g place key start b page bytes reads map holds landed shown missing =
    let sheets = g.working start in
    let tree = holds.file.tree in
    subst (λ s. HasRemoved (g.ground start) place.owner place.root key sheets s tree)
    (sym reads.working)
    (record {
      removed = record {
        tree = tree;
        whole = holds.file.whole;
        owns = holds.file.owned;
        taken = absent (bytes_at sheets) (IsOwned place.owner sheets) place.root page key tree
            (entries_of bytes) landed.hand
            (subst (λ d. ShowsEntries d (entries_of bytes)) (sym landed.bytes_are)
            (shows_entries bytes shown)) missing;
      };
      past = past_of (g.ground start) place sheets map holds.file;
      others = others_itself (g.ground start) place.owner sheets;
    })

-- a key is taken off the page, which has another
pub landed_removed : {S : Type 0} (g : Ghosts S) (place : Place) (key : List ℕ)
    (start b c : S) (page : ℕ) (old new : List ℕ) → ReadsPages g start b → (map : LeafMap)
    (holds : Holds g (IsBplus (g.ground start) place) start map)
    → HasLanded place.owner (g.working start) place.root key holds.file.tree page old
    → IsPast (g.ground start) page → length (g.working start).bytes ≡ (g.ground start).size
    → Shows shapes.Entries old → Shows shapes.Entries new
    → IsTakenFrom key (entries_of old) (entries_of new) → 0 < length (entries_of new)
    → IsWritten page new (g.working b) (g.working c)
    → HasRemoved (g.ground start) place.owner place.root key (g.working start) (g.working c)
    holds.file.tree
landed_removed g place key start b c page old new reads map holds landed past size shown shown' taken
    some writes =
    let a = g.working start in
    let d = g.working c in
    let h = landed.hand in
    let owner = place.owner in
    let written : IsWritten page new a d =
    subst (λ s. IsWritten page new s d) reads.working writes in
    let mine : IsOwned owner a page = (h.owns page).1
    (inl (subst (λ q. In q (pages h.subtree)) h.fits.page_is (top_in h.subtree))) in
    let owners = written_owned page new a d written owner in
    let pasts = past_of (g.ground start) place a map holds.file in
    record {
      removed = taken_below (bytes_at a) (bytes_at d) (IsOwned owner a) (IsOwned owner d) place.root
          page key holds.file.tree (entries_of old) (entries_of new)
          (subst (λ e. ShowsEntries e (entries_of old)) (sym landed.bytes_are)
          (shows_entries old shown))
          (subst (λ e. ShowsEntries e (entries_of new))
          (sym (written_here page new a d written (let l = past.below in omega (arith, l, size))))
          (shows_entries new shown'))
          (λ _. entries_up new shown') (λ _. taken) (some_of (entries_of new) some)
          (λ q o e. written_other page new a d written q e) owners h;
      past = λ q o. pasts q ((owners q).0 o);
      others = written_others (g.ground start) owner page new a d written mine;
    }

-- a change after a call that read
module _ {S : Type 0} (g : Ghosts S) (place : Place) (key : List ℕ) (start b c : S)
    (reads : ReadsPages g start b) (faults : g.faults b ≡ g.faults start) where
  abbrev IsFile : S → Sheets → LeafMap → Type 0
  IsFile s = IsBplus (g.ground s) place

  still_holds : (map : LeafMap) → Holds g (IsFile start) start map → Holds g (IsFile b) b map
  still_holds map holds = record {
    told = holds.told;
    file = subst (λ x. IsBplus x place (g.working b) map) (sym reads.keeps.ground)
        (subst (λ s. IsBplus (g.ground start) place s map) (sym reads.working) holds.file);
  }

  still_whole : IsWhole g (IsFile start) start → IsWhole g (IsFile b) b
  still_whole whole = (whole.0, still_holds whole.0 whole.1)

  stay_from : OthersStay (g.ground b) place.owner (g.working b) (g.working c)
      → OthersStay (g.ground start) place.owner (g.working start) (g.working c)
  stay_from others =
      subst (λ x. OthersStay x place.owner (g.working start) (g.working c)) reads.keeps.ground
      (subst (λ s. OthersStay (g.ground b) place.owner s (g.working c)) reads.working others)

  pub put_after : (body : List ℕ) (r : Result (Unit {0}) Stop)
      → PutsInFile g (IsFile b) place key body b c r
      → PutsInFile g (IsFile start) place key body start c r
  put_after body r p = record {
    ok = λ map holds. subst (λ x. OnOk r (IsBplus x place (g.working c) (insert map key body)))
        reads.keeps.ground (p.ok map (still_holds map holds));
    others = λ whole fault. stay_from (p.others (still_whole whole) fault);
    full = record {
      none = λ t is. subst (λ x. HasNone x (g.working c)) reads.keeps.ground (p.full.none t is);
      few = λ map holds is. p.full.few map (still_holds map holds) is;
    };
    keeps = kept_pages_joined g reads.keeps p.keeps;
    ends = ends_after g _ _ start b c r faults reads.keeps.ground still_whole p.ends;
    frugal = p.frugal;
  }

  pub removed_after : (r : Result (Unit {0}) Stop)
      → RemovesFromFile g (IsFile b) place key b c r
      → RemovesFromFile g (IsFile start) place key start c r
  removed_after r p = record {
    ok = λ map holds. subst (λ x. OnOk r (IsBplus x place (g.working c) (remove map key)))
        reads.keeps.ground (p.ok map (still_holds map holds));
    others = λ whole fault. stay_from (p.others (still_whole whole) fault);
    keeps = kept_pages_joined g reads.keeps p.keeps;
    ends = ends_after g _ _ start b c r faults reads.keeps.ground still_whole p.ends;
    not_full = p.not_full;
    frugal = p.frugal;
  }
