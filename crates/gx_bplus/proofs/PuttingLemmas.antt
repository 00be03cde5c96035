-- The file of a tree with an entry put in, and a search that splits pages.
use Rattle.std.proofs.Common.{◌≡◌, inl, inr, ℕ, ◌+◌, ◌*◌, ◌≤◌, cond, List, Some, refl, sym, ap, ◌∙◌, subst, arith}
use Rattle.std.specs.Prelude.{IsTrue, Result, Err, IsErrOf, IsErrAnd, OnOk, Ok}
use Rattle.std.specs.FinMap.{get, insert, len, get-insert}
use Rattle.std.specs.Ordering.{nat_cmp, eq_by_cmp}
use Rattle.std.specs.Cmp.Lexicographic.{slice_cmp, nat_list_cmp_total}
use Rattle.gx_ports.specs.declared.page_view.PageView.{Ghosts}
use Rattle.gx_ports.specs.declared.pages.Place.{Place}
use Rattle.gx_ports.specs.declared.stop.Stop.{Stop}
use Rattle.gx_ports.specs.declared.stop.Stop.TheVariants.{Fault, Full, Damaged, NoMemory}
use Rattle.gx_ports.specs.declared.kinds.LeafKind.TheVariants as kinds
use Rattle.gx_ports.specs.Roots.{roots_of, roots_of_kind}
use Rattle.gx_ports.specs.Files.{Holds, IsWhole, IsFull, OthersStay, EndsFile, page_count}
use Rattle.gx_ports.specs.LeafMaps.{LeafMap}
use Rattle.gx_ports.specs.PageCalls.{KeepsPages, ReadsPages}
use Rattle.gx_ports.specs.Sheets.{Sheets, Ground, IsPast, HasNone, IsHome, bytes_at}
use Rattle.gx_ports.proofs.KeyLemmas.{tied, other_key, key_cases}
use Rattle.gx_ports.proofs.PageLemmas.{others_itself, others_joined, kept_pages_joined}
use Rattle.gx_slots.specs.Entries.{Entry}
use Rattle.gx_bnode.specs.Branches.{Branch}
use Rattle.gx_bnode.specs.Page.{IsInnerPage, HasRoom, separators_of}
use Rattle.gx_bnode.specs.Page as bnode
use Rattle.gx_btree.specs.Bplus.{IsBplus, IsTreePage, IsOwned, ArePast}
use Rattle.gx_btree.specs.Hole.{IsAtHand}
use Rattle.gx_btree.specs.Tree as trees
use Rattle.gx_btree.specs.Tree.{In, BplusTree, entries, Owns, ShowsInner, child_for}
use Rattle.gx_btree.proofs.CallLemmas.{ends_after}
use Rattle.gx_btree.proofs.EntryLemmas.{shows_inner}
use Rattle.gx_btree.proofs.FileLemmas.{past_of, descent_ends}
use Rattle.gx_btree.proofs.KidLemmas.{some_key}
use Rattle.gx_btree.proofs.SheetLemmas.{claimed_others}
use Rattle.gx_btree.proofs.ShapeLemmas.{hand_page}
use Rattle.gx_btree.proofs.StepLemmas.{at_node}
use Rattle.gx_bplus.specs.Changes.{IsPutIn}
use Rattle.gx_bplus.specs.Search.{IsHeld, IsSearch, IsReached, HasReached, HasCome, HasPut}
use Rattle.gx_bplus.specs.Splits.{MayHaveClaimed}
use Rattle.gx_bplus.proofs.ClaimLemmas.{listed_few}
use Rattle.gx_bplus.proofs.FileLemmas.{next_hand}

abbrev entry : List ℕ → List ℕ → Entry
entry key body = record { key = key; body = body }

-- what an entry put in makes of a map
put_get : (map : LeafMap) (key body : List ℕ) (es fs : List Entry)
    → ((k b : List ℕ) → (get map k ≡ Some b → In (entry k b) es)
    × (In (entry k b) es → get map k ≡ Some b)) → IsPutIn (entry key body) es fs
    → (k b : List ℕ) → (get (insert map key body) k ≡ Some b → In (entry k b) fs)
    × (In (entry k b) fs → get (insert map key body) k ≡ Some b)
put_get map key body es fs is put k b = elim (key_cases k key) [
  | inl e ↦
      (let new : get (insert map key body) k ≡ Some body =
      get-insert nat_list_cmp_total map key body k ∙ ap (λ c. cond c (Some body) (get map k))
      (ap (λ z. eq_by_cmp (slice_cmp nat_cmp) z key) e ∙ tied key) in (
        (λ h. let some : Some body ≡ Some b = sym new ∙ h in let same : body ≡ b =
            cc in (put (entry k b)).1 (inl (λ i. record { key = e i; body = sym same i }))),
        (λ i. elim ((put (entry k b)).0 i) [
          | inl d ↦ new
              ∙ ap Some (sym (ap (λ (x : Entry). x.body) d))
          | inr d ↦ absurd (d.1 e)
        ]),
      ))
  | inr d ↦
      (let same : get (insert map key body) k ≡ get map k =
      get-insert nat_list_cmp_total map key body k ∙ ap (λ c. cond c (Some body) (get map k))
      (other_key k key d) in (
        (λ h. (put (entry k b)).1 (inr ((is k b).0 (sym same ∙ h), d))),
        (λ i. same ∙ (is k b).1 (elim ((put (entry k b)).0 i) [
          | inl f ↦ absurd
              (d (ap (λ (x : Entry). x.key) f))
          | inr f ↦ f.0
        ])),
      ))
]

pub put_file : (ground : Ground) (place : Place) (old new : Sheets) (map : LeafMap)
    (key body : List ℕ) (b : IsBplus ground place old map) → HasPut ground place.owner place.root
    (entry key body) old new b.tree → IsBplus ground place new (insert map key body)
put_file ground place old new map key body b r = record {
  tree = r.put.tree;
  whole = r.put.whole;
  past = λ q i. r.past q ((r.put.owns q).1 i);
  owned = r.put.owns;
  map_is = put_get map key body (entries b.tree) (entries r.put.tree) b.map_is r.put.put;
}

pub claimed_apart : (ground : Ground) (owner : ℕ) (old new : Sheets)
    → MayHaveClaimed ground owner old new → OthersStay ground owner old new
claimed_apart ground owner old new (inl same) = subst (OthersStay ground owner old) (sym same)
    (others_itself ground owner old)
claimed_apart ground owner old new (inr c) = claimed_others c.0 owner ground old new c.1

-- the tree around a search that has come to an inner page
record IsAround (at : ℕ → List ℕ) (owned : ℕ → Type 0) (root : ℕ) (old : BplusTree) : Type 0 where
  pub tree : BplusTree
  pub whole : trees.IsWhole at root tree
  pub owns : Owns owned tree
  pub same : (x : Entry) → (In x (entries old) → In x (entries tree))
      × (In x (entries tree) → In x (entries old))

around : {steps : ℕ} (at : ℕ → List ℕ) (owned : ℕ → Type 0) (root p : ℕ) (key : List ℕ)
    (old : BplusTree)
    (first : ℕ) (branches : List Branch) → ShowsInner (at p) first branches
    → IsAtHand at owned root p key old steps → IsAround at owned root old
around at owned root p key old first branches shows h =
    let n = at_node at owned root p key old first branches shows h in
    let some = some_key n.kids n.ordered in
    let w = h.hole.fill at h.subtree (λ q i. refl) h.fits
    (some.0, subst (In some.0) (sym n.entries_is) some.1) in
    record {
      tree = w.tree;
      whole = w.whole;
      owns = λ q. (
        (λ o. (w.pages_are q).1 ((h.owns q).0 o)),
        (λ i. (h.owns q).1 ((w.pages_are q).0 i)),
      );
      same = λ x. (
        (λ i. (w.entries_are x).1 ((h.entries_are x).0 i)),
        (λ i. (h.entries_are x).1 ((w.entries_are x).0 i)),
      );
    }

few_at : (place : Place) (sheets : Sheets) (map : LeafMap) → place.spec.kind ≡ kinds.Bplus
    → page_count place.owner sheets ≤ 1 + 2 * len map + 1
    → page_count place.owner sheets ≤ roots_of place.spec + 2 * len map + 1
few_at place sheets map kind few = let r : roots_of place.spec ≡ 1 = ap roots_of_kind kind in
    omega (arith, r, few)

-- a call that fails on a whole file only by a fault, or where no page is free
pub spared : {T : Type 0} {Q : Type 0} (r : Result T Stop) → OnOk r Q → (IsErrOf r Full → Q)
    → ¬ IsErrOf r Fault → ¬ IsErrOf r NoMemory → ((n : ℕ) → ¬ IsErrOf r (Damaged n)) → Q
spared (Ok x) q full a b c = q
spared (Err Fault) q full a b c = absurd (a refl)
spared (Err Full) q full a b c = full refl
spared (Err NoMemory) q full a b c = absurd (b refl)
spared (Err (Damaged n)) q full a b c = absurd (c n refl)

-- the same of an error that is handed on
pub spared_handed : {T U : Type 0} {Q : Type 0} (why : Stop) (r : Result U Stop)
    → IsErrAnd r (λ s. s ≡ why) → (IsErrOf {T = T} (Err why) Full → Q) → ¬ IsErrOf r Fault
    → ¬ IsErrOf {T = T} (Err why) NoMemory → ((n : ℕ) → ¬ IsErrOf {T = T} (Err why) (Damaged n)) → Q
spared_handed why (Ok x) same full a b c = absurd same
spared_handed Fault (Err s) same full a b c = absurd (a (ap Err same))
spared_handed Full (Err s) same full a b c = full refl
spared_handed NoMemory (Err s) same full a b c = absurd (b refl)
spared_handed (Damaged n) (Err s) same full a b c = absurd (c n refl)

pub never_full : {T U : Type 0} (why : Stop) (r : Result U Stop) → IsErrAnd r (λ s. s ≡ why)
    → ¬ IsErrOf {T = T} (Err why) Full → ¬ IsErrOf r Full
never_full why (Ok x) same not is = absurd same
never_full why (Err s) same not is = let e : s ≡ Full = cc in not (ap Err (sym same ∙ e))

module _ {S : Type 0} (g : Ghosts S) (IsFile : Sheets → LeafMap → Type 0) (place : Place)
    (a b : S) where
  pub full_never : {T : Type 0} (r : Result T Stop) → ¬ IsErrOf r Full → IsFull g IsFile place a b r
  full_never r not = record { none = λ t is. absurd (not is); few = λ m h is. absurd (not is) }

  pub full_handed : {T U : Type 0} (why : Stop) (r : Result U Stop) → IsErrAnd r (λ s. s ≡ why)
      → IsFull g IsFile {T = T} place a b (Err why) → IsFull g IsFile place a b r
  full_handed why (Ok x) same f = absurd same
  full_handed why (Err s) same f = record {
    none = λ t is. f.none t (let e : s ≡ Full = cc in ap Err (sym same ∙ e));
    few = λ m h is. f.few m h (let e : s ≡ Full = cc in ap Err (sym same ∙ e));
  }

-- A search has come to an inner page with room, and may have split pages.
pub record IsGrowing {S : Type 0} (g : Ghosts S) (place : Place) (key : List ℕ) (start now : S)
    (at : ℕ) (page : List ℕ) (least : ℕ) : Type 0 where
  pub keeps : KeepsPages g start now
  pub faults : g.faults now ≡ g.faults start
  pub past : IsPast (g.ground start) at
  pub inner : IsInnerPage page
  pub room : HasRoom (separators_of page)
  pub come : (map : LeafMap) (holds : Holds g (IsBplus (g.ground start) place) start map)
      → HasCome (g.ground start) place.owner place.root key (g.working start)
      (g.working now) holds.file.tree least at page

module _ {S : Type 0} (g : Ghosts S) (place : Place) (key : List ℕ) (start : S) where
  abbrev Whole : Type 0
  Whole = IsWhole g (IsBplus (g.ground start) place) start

  -- the root is read
  pub held_of : (b : S) (page : List ℕ) → ReadsPages g start b
      → (IsTrue g.tells → bytes_at (g.working start) place.root ≡ page) → 1 ≤ place.owner
      → (map : LeafMap) (holds : Holds g (IsBplus (g.ground start) place) start map)
      → IsHeld (g.ground b) place.owner (g.working b) place.root holds.file.tree page
  held_of b page reads told least map holds =
      let there : IsHeld (g.ground start) place.owner
      (g.working start) place.root holds.file.tree page = record {
        whole = holds.file.whole;
        owns = holds.file.owned;
        past = past_of (g.ground start) place (g.working start) map holds.file;
        least = least;
        bytes_are = told holds.told;
      } in
      subst (λ x. IsHeld x place.owner (g.working b) place.root holds.file.tree page)
      (sym reads.keeps.ground) (subst
      (λ s. IsHeld (g.ground start) place.owner s place.root holds.file.tree page)
      (sym reads.working) there)

  -- what is put from there on is put from the start on
  pub put_from : (b c : S) (e : Entry) (tree : BplusTree) → ReadsPages g start b
      → HasPut (g.ground b) place.owner place.root e (g.working b) (g.working c) tree
      → HasPut (g.ground start) place.owner place.root e (g.working start) (g.working c) tree
  put_from b c e tree reads h =
      subst (λ x. HasPut x place.owner place.root e (g.working start) (g.working c) tree)
      reads.keeps.ground (subst (λ s. HasPut (g.ground b) place.owner place.root e s
      (g.working c) tree) reads.working h)

  pub come_from : (b c : S) (tree : BplusTree) (least at : ℕ) (page : List ℕ) → ReadsPages g start b
      → HasCome (g.ground b) place.owner place.root key (g.working b)
      (g.working c) tree least at page → HasCome (g.ground start) place.owner place.root key
      (g.working start) (g.working c) tree least at page
  come_from b c tree least at page reads h =
      subst (λ x. HasCome x place.owner place.root key (g.working start)
      (g.working c) tree least at page) reads.keeps.ground
      (subst (λ s. HasCome (g.ground b) place.owner place.root key s
      (g.working c) tree least at page) reads.working h)

  pub claimed_from : (b c : S) → ReadsPages g start b → MayHaveClaimed (g.ground b) place.owner
      (g.working b) (g.working c) → MayHaveClaimed (g.ground start) place.owner (g.working start)
      (g.working c)
  claimed_from b c reads h =
      subst (λ x. MayHaveClaimed x place.owner (g.working start) (g.working c)) reads.keeps.ground
      (subst (λ s. MayHaveClaimed (g.ground b) place.owner s (g.working c)) reads.working h)

  pub growing_starts : (b c : S) (at : ℕ) (page : List ℕ) → ReadsPages g start b
      → g.faults b ≡ g.faults start → KeepsPages g b c → g.faults c ≡ g.faults b
      → IsPast (g.ground b) at → IsInnerPage page → HasRoom (separators_of page)
      → ((map : LeafMap) (holds : Holds g (IsBplus (g.ground start) place) start map)
      → HasCome (g.ground b) place.owner place.root key (g.working b)
      (g.working c) holds.file.tree 0 at page) → IsGrowing g place key start c at page 0
  growing_starts b c at page reads faults keeps faults' past inner room come = record {
    keeps = kept_pages_joined g reads.keeps keeps;
    faults = faults' ∙ faults;
    past = subst (λ x. IsPast x at) reads.keeps.ground past;
    inner = inner;
    room = room;
    come = λ map holds. come_from b c holds.file.tree 0 at page reads (come map holds);
  }

  -- no free page was found for the parts of the root
  pub root_full : {T : Type 0} (b c : S) (r : Result T Stop) → ReadsPages g start b
      → place.spec.kind ≡ kinds.Bplus
      → (IsTrue g.tells → IsErrOf r Full → HasNone (g.ground b) (g.working c))
      → (IsTrue g.tells → IsErrOf r Full → MayHaveClaimed (g.ground b) place.owner (g.working b)
      (g.working c))
      → IsFull g (IsBplus (g.ground start) place) place start c r
  root_full b c r reads kind none claimed = record {
    none = λ t is. subst (λ x. HasNone x (g.working c)) reads.keeps.ground (none t is);
    few = λ map holds is. few_at place (g.working c) map kind
        (listed_few (g.ground start) place (g.working start) (g.working c) map holds.file
        (claimed_from b c reads (claimed holds.told is)));
  }

  module _ {least : ℕ} (now : S) (at : ℕ) (page : List ℕ)
      (d : IsGrowing g place key start now at page least) (next : ℕ)
      (goes : next ≡ child_for (bnode.first_of page) (bnode.branches_of page) key) where
    -- the pages still hold the map
    growing_file : (map : LeafMap) (holds : Holds g (IsBplus (g.ground start) place) start map)
        → IsBplus (g.ground start) place (g.working now) map
    growing_file map holds =
        let h = d.come map holds in
        let shows : ShowsInner (bytes_at (g.working now) at) (bnode.first_of page)
        (bnode.branches_of page) = subst (λ x. ShowsInner x (bnode.first_of page)
        (bnode.branches_of page)) (sym h.bytes_are) (shows_inner page d.inner) in
        let r = around (bytes_at (g.working now))
        (IsOwned place.owner (g.working now)) place.root at key holds.file.tree
        (bnode.first_of page) (bnode.branches_of page) shows h.search.hand in
        record {
          tree = r.tree;
          whole = r.whole;
          past = λ q i. h.search.past q ((r.owns q).1 i);
          owned = r.owns;
          map_is = λ k b. (
            (λ e. (r.same (entry k b)).0 ((holds.file.map_is k b).0 e)),
            (λ i. (holds.file.map_is k b).1 ((r.same (entry k b)).1 i)),
          );
        }

    -- the child on the way is read
    pub growing_reads : {T : Type 0} (b : S) (r : Result T Stop)
        → EndsFile g (IsTrue g.tells × IsTreePage (g.ground now) (g.working now) next) now b r
        → EndsFile g Whole start b r
    growing_reads b r e = ends_after g Whole _ start now b r d.faults d.keeps.ground
        (λ w. let h = d.come w.0 w.1 in (
          w.1.told,
          subst (λ x. IsTreePage x (g.working now) next) (sym d.keeps.ground)
              (hand_page (g.ground start) place.owner
              (g.working now) place.root next key w.1.file.tree
              (next_hand (g.working now) place.owner place.root at next key page w.1.file.tree
              h.bytes_are d.inner goes h.search.hand) h.search.past),
        )) e

    -- the pages of other owners have stayed
    pub growing_apart : (b : S) → ReadsPages g now b → (map : LeafMap)
        (holds : Holds g (IsBplus (g.ground start) place) start map)
        → OthersStay (g.ground start) place.owner (g.working start) (g.working b)
    growing_apart b reads map holds =
        subst (OthersStay (g.ground start) place.owner (g.working start)) (sym reads.working)
        (d.come map holds).others

    module _ (b : S) (below : List ℕ) (reads : ReadsPages g now b)
        (told : IsTrue g.tells → bytes_at (g.working now) next ≡ below)
        (some : 1 ≤ place.owner) where
      growing_ground : g.ground b ≡ g.ground start
      growing_ground = reads.keeps.ground ∙ d.keeps.ground

      pub growing_reached : (map : LeafMap)
          (holds : Holds g (IsBplus (g.ground start) place) start map)
          → IsReached (g.ground b) place.owner (g.working b) place.root at next key holds.file.tree
          (d.come map holds).steps page below
      growing_reached map holds =
          let h = d.come map holds in
          let there : IsReached (g.ground start) place.owner
          (g.working now) place.root at next key holds.file.tree h.steps page below = record {
            search = h.search;
            least = some;
            bytes_are = h.bytes_are;
            below_are = told holds.told;
          } in
          subst (λ x. IsReached x place.owner
          (g.working b) place.root at next key holds.file.tree h.steps page below)
          (sym growing_ground)
          (subst (λ s. IsReached (g.ground start) place.owner s place.root at next key
          holds.file.tree h.steps page below) (sym reads.working) there)

      pub growing_ends : {T : Type 0} (c : S) (r : Result T Stop) → g.faults b ≡ g.faults now
          → EndsFile g (IsTrue g.tells × HasReached (g.ground b)
          (g.working b) at next key page below) b c r → EndsFile g Whole start c r
      growing_ends c r faults e = ends_after g Whole _ start b c r
          (faults ∙ d.faults) growing_ground (λ w. (
            w.1.told,
            record {
              owner = place.owner;
              root = place.root;
              tree = w.1.file.tree;
              steps =
                  (d.come w.0 w.1).steps;
              reached = growing_reached w.0 w.1;
            },
          )) e

      -- a call that found no free page
      pub growing_full : {T : Type 0} (c : S) (r : Result T Stop) → place.spec.kind ≡ kinds.Bplus
          → (IsTrue g.tells → IsErrOf r Full → HasNone (g.ground b) (g.working b))
          → (IsErrOf r Full → g.working c ≡ g.working b)
          → IsFull g (IsBplus (g.ground start) place) place start c r
      growing_full c r kind none unchanged = record {
        none = λ t is. subst (λ x. HasNone x (g.working c)) growing_ground
            (subst (HasNone (g.ground b)) (sym (unchanged is)) (none t is));
        few = λ map holds is. few_at place (g.working c) map kind
            (listed_few (g.ground start) place (g.working now) (g.working c) map
            (growing_file map holds) (inl (unchanged is ∙ reads.working)));
      }

      -- they stay
      pub growing_spares : (c : S) (map : LeafMap)
          (holds : Holds g (IsBplus (g.ground start) place) start map)
          → OthersStay (g.ground b) place.owner (g.working b) (g.working c)
          → OthersStay (g.ground start) place.owner (g.working start) (g.working c)
      growing_spares c map holds others =
          others_joined (g.ground start) place.owner (g.working start) (g.working now) (g.working c)
          (d.come map holds).others
          (subst (λ x. OthersStay x place.owner (g.working now) (g.working c)) growing_ground
          (subst (λ s. OthersStay (g.ground b) place.owner s (g.working c)) reads.working others))

      pub growing_put : (c : S) (e : Entry) (map : LeafMap)
          (holds : Holds g (IsBplus (g.ground start) place) start map)
          → HasPut (g.ground b) place.owner place.root e (g.working b) (g.working c) holds.file.tree
          → HasPut (g.ground start) place.owner place.root e (g.working start)
          (g.working c) holds.file.tree
      growing_put c e map holds h = record {
        put = h.put;
        past = subst (λ x. ArePast x place.owner (g.working c)) growing_ground h.past;
        others = growing_spares c map holds h.others;
      }

      pub growing_goes : (c : S) (at' : ℕ) (page' : List ℕ) → g.faults b ≡ g.faults now
          → KeepsPages g b c → g.faults c ≡ g.faults b → IsPast (g.ground b) at' → IsInnerPage page'
          → HasRoom (separators_of page')
          → (IsTrue g.tells → (root steps : ℕ) (tree : BplusTree)
          → IsReached (g.ground b) place.owner
          (g.working b) root at next key tree steps page below
          → HasCome (g.ground b) place.owner root key (g.working b) (g.working c) tree
          (steps + 1) at' page')
          → IsGrowing g place key start c at' page' (least + 1)
      growing_goes c at' page' faults keeps faults' past inner room come = record {
        keeps = kept_pages_joined g d.keeps (kept_pages_joined g reads.keeps keeps);
        faults = faults' ∙ faults ∙ d.faults;
        past = subst (λ x. IsPast x at') growing_ground past;
        inner = inner;
        room = room;
        come = λ map holds.
            let before = d.come map holds in
            let h = come holds.told place.root before.steps holds.file.tree
            (growing_reached map holds) in
            record {
              steps = h.steps;
              many = (let m = h.many in let n = before.many in omega (arith, m, n));
              search = subst (λ x. IsSearch x place.owner
                  (g.working c) place.root at' key holds.file.tree h.steps) growing_ground h.search;
              bytes_are = h.bytes_are;
              others = growing_spares c map holds h.others;
            };
      }

  -- the search never ends on damaged pages alone
  pub growing_lost : {T : Type 0} {least : ℕ} (now : S) (at : ℕ) (page : List ℕ) (n : ℕ)
      → IsGrowing g place key start now at page least → (g.ground start).size ≤ least
      → IsHome (g.ground start) n → EndsFile {T = T} g Whole start now (Err (Damaged n))
  growing_lost now at page n d over block = record {
    cause = record {
      later = (let f = d.faults in omega (arith, f));
      fault = λ is. let no : ⊥ = cc in absurd no;
      counted = λ _. d.faults;
      damaged = λ m is w. let h = d.come w.0 w.1 in let e =
          descent_ends (g.ground start) place.owner
          (g.working now) place.root at key w.1.file.tree h.search.past h.search.hand in let m =
          h.many in omega (arith, e, m, over);
    };
    home = λ m is. let same : n ≡ m = cc in subst (IsHome (g.ground start)) same block;
  }
