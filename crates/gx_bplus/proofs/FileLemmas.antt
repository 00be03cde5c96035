-- The file of a tree, and a search in it.
use Rattle.std.proofs.Common.{◌≡◌, ◌≢◌, inl, inr, ℕ, ◌+◌, ◌<◌, ◌≤◌, cond, List, [], length, Some, None, refl, sym, ap, ◌∙◌, subst, arith}
use Rattle.std.specs.Prelude.{IsTrue, slice_get, Result, Err, IsErrOf, OnOk, Ok}
use Rattle.std.specs.FinMap.{get, remove, empty, get-remove, get-empty}
use Rattle.std.specs.Ordering.{nat_cmp, eq_by_cmp}
use Rattle.std.specs.Cmp.Lexicographic.{slice_cmp, nat_list_cmp_total}
use Rattle.gx_ports.specs.declared.kinds.LeafKind.TheVariants as kinds
use Rattle.gx_ports.specs.declared.page_view.PageView.{Ghosts}
use Rattle.gx_ports.specs.declared.pages.Place.{Place}
use Rattle.gx_ports.specs.declared.stop.Stop.{Stop}
use Rattle.gx_ports.specs.declared.stop.Stop.TheVariants.{Fault, Full, Damaged, NoMemory}
use Rattle.gx_ports.specs.Files.{IsPlace, IsVacant, ClaimsRoots, Holds, IsWhole, OthersStay, EndsFile}
use Rattle.gx_ports.specs.LeafMaps.{LeafMap}
use Rattle.gx_ports.specs.PageCalls.{ReadsPages}
use Rattle.gx_ports.specs.Roots.{roots_of, roots_of_kind}
use Rattle.gx_ports.specs.Sheets.{Sheets, Ground, IsPast, IsClaimed, IsHome, bytes_at}
use Rattle.gx_ports.proofs.KeyLemmas.{tied, other_key, key_cases}
use Rattle.gx_ports.proofs.PageLemmas.{others_joined, read_pages_joined}
use Rattle.gx_slots.specs.Entries.{Entry}
use Rattle.gx_bnode.specs.Page.{IsInnerPage}
use Rattle.gx_bnode.specs.Page as bnode
use Rattle.gx_btree.specs.Bplus.{IsBplus, IsTreePage, IsOwned, IsWritten, ArePast}
use Rattle.gx_btree.specs.Hole.{IsAtHand}
use Rattle.gx_btree.specs.Tree as trees
use Rattle.gx_btree.specs.Tree.{In, BplusTree, leaf, entries, ShowsInner, ShowsEntries, child_for}
use Rattle.gx_btree.proofs.EntryLemmas.{shows_inner}
use Rattle.gx_btree.proofs.CallLemmas.{ends_weaker, ends_after}
use Rattle.gx_btree.proofs.SheetLemmas.{written_here, written_owned, claimed_owned, claimed_others, written_others, written_owners, get_set_other}
use Rattle.gx_btree.proofs.ShapeLemmas.{hand_page}
use Rattle.gx_btree.proofs.StepLemmas.{at_root, descend}
use Rattle.gx_btree.proofs.FileLemmas.{past_of, descent_ends}
use Rattle.gx_bplus.specs.Changes.{IsTakenFrom}
use Rattle.gx_bplus.specs.Search.{IsReached, HasReached, HasRemoved}

pub root_hand : (ground : Ground) (place : Place) (sheets : Sheets) (map : LeafMap) (key : List ℕ)
    (b : IsBplus ground place sheets map) → IsAtHand (bytes_at sheets)
    (IsOwned place.owner sheets) place.root place.root key b.tree 0
root_hand ground place sheets map key b = at_root (bytes_at sheets)
    (IsOwned place.owner sheets) place.root key b.tree b.whole b.owned

pub root_page : (ground : Ground) (place : Place) (sheets : Sheets) (map : LeafMap)
    → IsBplus ground place sheets map → IsTreePage ground sheets place.root
root_page ground place sheets map b =
    hand_page ground place.owner sheets place.root place.root [] b.tree
    (root_hand ground place sheets map [] b) (past_of ground place sheets map b)

abbrev entry : List ℕ → List ℕ → Entry
entry key body = record { key = key; body = body }

-- what a removal makes of a map
removed_get : (map : LeafMap) (key : List ℕ) (es fs : List Entry)
    → ((k b : List ℕ) → (get map k ≡ Some b → In (entry k b) es)
    × (In (entry k b) es → get map k ≡ Some b)) → IsTakenFrom key es fs
    → (k b : List ℕ) → (get (remove map key) k ≡ Some b → In (entry k b) fs)
    × (In (entry k b) fs → get (remove map key) k ≡ Some b)
removed_get map key es fs is taken k b = elim (key_cases k key) [
  | inl e ↦
      (let none : get (remove map key) k ≡ None = get-remove nat_list_cmp_total map key k
      ∙ ap (λ c. cond c None (get map k))
      (ap (λ z. eq_by_cmp (slice_cmp nat_cmp) z key) e ∙ tied key) in (
        λ h. (let no : None ≡ Some b = sym none ∙ h in let clash : ⊥ = cc in absurd clash),
        λ i.
            absurd (((taken (entry k b)).0 i).1 e),
      ))
  | inr d ↦
      (let same : get (remove map key) k ≡ get map k = get-remove nat_list_cmp_total map key k
      ∙ ap (λ c. cond c None (get map k)) (other_key k key d) in (
        λ h. (taken (entry k b)).1 ((is k b).0 (sym same ∙ h), d),
        λ i. same
            ∙ (is k b).1 ((taken (entry k b)).0 i).0,
      ))
]

pub removed_file : (ground : Ground) (place : Place) (old new : Sheets) (map : LeafMap)
    (key : List ℕ) (b : IsBplus ground place old map)
    → HasRemoved ground place.owner place.root key old new b.tree → IsBplus ground place new
    (remove map key)
removed_file ground place old new map key b r = record {
  tree = r.removed.tree;
  whole = r.removed.whole;
  past = λ q i. r.past q ((r.removed.owns q).1 i);
  owned = r.removed.owns;
  map_is = removed_get map key (entries b.tree) (entries r.removed.tree) b.map_is r.removed.taken;
}

abbrev no_map : LeafMap
no_map = empty

pub root_free : (place : Place) (sheets : Sheets) → IsVacant place sheets
    → place.spec.kind ≡ kinds.Bplus → slice_get sheets.owners place.root ≡ Some 0
root_free place sheets vacant kind = let r : roots_of place.spec ≡ 1 = ap roots_of_kind kind in
    vacant.free place.root (omega arith) (omega (arith, r))

-- an empty tree
pub made_file : (ground : Ground) (place : Place) (a b c : Sheets) (page : List ℕ)
    → IsPlace ground place → place.root < length b.bytes → IsVacant place a → ShowsEntries page []
    → IsClaimed place.root place.owner ground a b → IsWritten place.root page b c
    → IsBplus ground place c empty
made_file ground place a b c page is below vacant shows claimed written = record {
  tree = leaf place.root [];
  whole = record {
    root_is = refl;
    stands = subst (λ x. ShowsEntries x [])
        (sym (written_here place.root page b c written below)) shows;
    ordered = tt;
    apart = tt;
  };
  past = λ q i. elim i [ inl e ↦ subst (IsPast ground) (sym e) claimed.past | inr n ↦ absurd n ];
  owned = λ q. (
    (λ o. elim ((claimed_owned place.root place.owner ground a b claimed q).0
        ((written_owned place.root page b c written place.owner q).0 o)) [
          | inl e ↦ inl e
          | inr h ↦ absurd (vacant.none q h)
        ]),
    (λ i. elim i [
      | inl e ↦ (written_owned place.root page b c written place.owner q).1
          ((claimed_owned place.root place.owner ground a b claimed q).1 (inl e))
      | inr n ↦ absurd n
    ]),
  );
  map_is = λ k v. (
    (λ h. let none : get no_map k ≡ None = get-empty (slice_cmp nat_cmp) k in
        let no : None ≡ Some v = sym none ∙ h in let clash : ⊥ = cc in absurd clash),
    λ i. absurd i,
  );
}

pub made_others : (ground : Ground) (place : Place) (a b c : Sheets) (page : List ℕ)
    → IsClaimed place.root place.owner ground a b → IsWritten place.root page b c
    → OthersStay ground place.owner a c
made_others ground place a b c page claimed written =
    others_joined ground place.owner a b c
    (claimed_others place.root place.owner ground a b claimed)
    (written_others ground place.owner place.root page b c written
    ((claimed_owned place.root place.owner ground a b claimed place.root).1 (inl refl)))

pub made_roots : (ground : Ground) (place : Place) (a b c : Sheets) (page : List ℕ)
    → place.spec.kind ≡ kinds.Bplus → IsClaimed place.root place.owner ground a b
    → IsWritten place.root page b c → ClaimsRoots place a c
made_roots ground place a b c page kind claimed written q off =
    let one : roots_of place.spec ≡ 1 = ap roots_of_kind kind in
    let other : q ≢ place.root = λ e. off (omega (arith, e), omega (arith, e, one)) in
    ap (λ (xs : List ℕ). slice_get xs q)
    (written_owners place.root page b c written ∙ claimed.owned.owners)
    ∙ get_set_other a.owners place.root q place.owner other

-- A search by a call has come to an inner page, and read alone.
pub record IsDescent {S : Type 0} (g : Ghosts S) (place : Place) (key : List ℕ) (start now : S)
    (at : ℕ) (page : List ℕ) (steps : ℕ) : Type 0 where
  pub reads : ReadsPages g start now
  pub faults : g.faults now ≡ g.faults start
  pub past : IsPast (g.ground start) at
  pub inner : IsInnerPage page
  pub told : IsTrue g.tells → bytes_at (g.working start) at ≡ page
  pub hand : (map : LeafMap) (holds : Holds g (IsBplus (g.ground start) place) start map)
      → IsAtHand (bytes_at (g.working start))
      (IsOwned place.owner (g.working start)) place.root at key holds.file.tree steps

-- one page down
pub next_hand : {steps : ℕ} (sheets : Sheets) (owner root at next : ℕ) (key page : List ℕ)
    (old : BplusTree) → bytes_at sheets at ≡ page → IsInnerPage page → next ≡ child_for
    (bnode.first_of page) (bnode.branches_of page) key
    → IsAtHand (bytes_at sheets) (IsOwned owner sheets) root at key old steps
    → IsAtHand (bytes_at sheets) (IsOwned owner sheets) root next key old (steps + 1)
next_hand {steps = steps} sheets owner root at next key page old is inner goes h =
    let at_p : ShowsInner (bytes_at sheets at) (bnode.first_of page) (bnode.branches_of page) =
    subst (λ x. ShowsInner x (bnode.first_of page) (bnode.branches_of page)) (sym is)
    (shows_inner page inner) in
    subst (λ q. IsAtHand (bytes_at sheets) (IsOwned owner sheets) root q key old (steps + 1))
    (sym goes) (descend (bytes_at sheets) (IsOwned owner sheets) root at key old
    (bnode.first_of page) (bnode.branches_of page) at_p h).0

-- the answer of a call that never fails on a whole file but by a fault
pub on_no_fault : {T : Type 0} {Q : Type 0} (r : Result T Stop) → OnOk r Q → ¬ IsErrOf r Fault
    → ¬ IsErrOf r Full → ¬ IsErrOf r NoMemory → ((n : ℕ) → ¬ IsErrOf r (Damaged n)) → Q
on_no_fault (Ok x) q a b c d = q
on_no_fault (Err Fault) q a b c d = absurd (a refl)
on_no_fault (Err Full) q a b c d = absurd (b refl)
on_no_fault (Err NoMemory) q a b c d = absurd (c refl)
on_no_fault (Err (Damaged n)) q a b c d = absurd (d n refl)

module _ {S : Type 0} (g : Ghosts S) (place : Place) (key : List ℕ) (start : S) where
  abbrev Whole : Type 0
  Whole = IsWhole g (IsBplus (g.ground start) place) start

  -- the root is read
  pub root_ends : {T : Type 0} (b : S) (r : Result T Stop)
      → EndsFile g (IsTrue g.tells × IsTreePage (g.ground start) (g.working start) place.root) start
      b r → EndsFile g Whole start b r
  root_ends b r e = ends_weaker g Whole _ start b r
      (λ w. (w.1.told, root_page (g.ground start) place (g.working start) w.0 w.1.file)) e

  pub descent_starts : (now : S) (page : List ℕ) → ReadsPages g start now
      → g.faults now ≡ g.faults start → IsPast (g.ground start) place.root → IsInnerPage page
      → (IsTrue g.tells → bytes_at (g.working start) place.root ≡ page)
      → IsDescent g place key start now place.root page 0
  descent_starts now page reads faults past inner told = record {
    reads = reads;
    faults = faults;
    past = past;
    inner = inner;
    told = told;
    hand = λ map holds. root_hand (g.ground start) place (g.working start) map key holds.file;
  }

  module _ {steps : ℕ} (now : S) (at : ℕ) (page : List ℕ)
      (d : IsDescent g place key start now at page steps) (next : ℕ)
      (goes : next ≡ child_for (bnode.first_of page) (bnode.branches_of page) key) where
    pub child_hand : (map : LeafMap) (holds : Holds g (IsBplus (g.ground start) place) start map)
        → IsAtHand (bytes_at (g.working start))
        (IsOwned place.owner (g.working start)) place.root next key holds.file.tree (steps + 1)
    child_hand map holds = next_hand
        (g.working start) place.owner place.root at next key page holds.file.tree
        (d.told holds.told) d.inner goes (d.hand map holds)

    -- the child on the way is read
    pub next_ends : {T : Type 0} (b : S) (r : Result T Stop)
        → EndsFile g (IsTrue g.tells × IsTreePage (g.ground now) (g.working now) next) now b r
        → EndsFile g Whole start b r
    next_ends b r e = ends_after g Whole _ start now b r d.faults d.reads.keeps.ground (λ w. (
      w.1.told,
      subst (λ s. IsTreePage (g.ground now) s next) (sym d.reads.working)
          (subst (λ x. IsTreePage x (g.working start) next) (sym d.reads.keeps.ground)
          (hand_page (g.ground start) place.owner
          (g.working start) place.root next key w.1.file.tree (child_hand w.0 w.1)
          (past_of (g.ground start) place (g.working start) w.0 w.1.file))),
    )) e

    pub descent_goes : (b : S) (below : List ℕ) → ReadsPages g now b → g.faults b ≡ g.faults now
        → IsPast (g.ground now) next → IsInnerPage below
        → (IsTrue g.tells → bytes_at (g.working now) next ≡ below)
        → IsDescent g place key start b next below (steps + 1)
    descent_goes b below reads faults past inner told = record {
      reads = read_pages_joined g d.reads reads;
      faults = faults ∙ d.faults;
      past = subst (λ x. IsPast x next) d.reads.keeps.ground past;
      inner = inner;
      told = λ t. subst (λ s. bytes_at s next ≡ below) d.reads.working (told t);
      hand = child_hand;
    }

    -- it is an entry page
    pub reached_of : (b : S) (below : List ℕ) → ReadsPages g now b
        → (IsTrue g.tells → bytes_at (g.working now) next ≡ below) → 1 ≤ place.owner
        → (map : LeafMap) (holds : Holds g (IsBplus (g.ground start) place) start map)
        → IsReached (g.ground b) place.owner
        (g.working b) place.root at next key holds.file.tree steps page below
    reached_of b below reads told least map holds =
        let all = read_pages_joined g d.reads reads in
        let there : IsReached (g.ground start) place.owner
        (g.working start) place.root at next key holds.file.tree steps page below = record {
          search = record {
            hand = d.hand map holds;
            past = past_of (g.ground start) place
                (g.working start) map holds.file;
          };
          least = least;
          bytes_are = d.told holds.told;
          below_are = subst (λ s. bytes_at s next ≡ below) d.reads.working (told holds.told);
        } in
        subst (λ x. IsReached x place.owner
        (g.working b) place.root at next key holds.file.tree steps page below)
        (sym all.keeps.ground)
        (subst (λ s. IsReached (g.ground start) place.owner s place.root at next key holds.file.tree
        steps page below) (sym all.working) there)

    pub reached_ends : {T : Type 0} (b c : S) (below : List ℕ) (r : Result T Stop)
        → ReadsPages g now b → g.faults b ≡ g.faults now
        → (IsTrue g.tells → bytes_at (g.working now) next ≡ below) → 1 ≤ place.owner
        → EndsFile g (IsTrue g.tells × HasReached (g.ground b) (g.working b) at next key page below)
        b c r → EndsFile g Whole start c r
    reached_ends b c below r reads faults told least e =
        let all = read_pages_joined g d.reads reads in
        ends_after g Whole _ start b c r (faults ∙ d.faults) all.keeps.ground (λ w. (
          w.1.told,
          record {
            owner = place.owner;
            root = place.root;
            tree = w.1.file.tree;
            steps =
                steps;
            reached = reached_of b below reads told least w.0 w.1;
          },
        )) e

    pub removed_of : (b c : S) → ReadsPages g now b → (tree : BplusTree)
        → HasRemoved (g.ground b) place.owner place.root key (g.working b) (g.working c) tree
        → HasRemoved (g.ground start) place.owner place.root key (g.working start)
        (g.working c) tree
    removed_of b c reads tree h =
        let all = read_pages_joined g d.reads reads in
        subst (λ x. HasRemoved x place.owner place.root key (g.working start) (g.working c) tree)
        all.keeps.ground
        (subst (λ s. HasRemoved (g.ground b) place.owner place.root key s (g.working c) tree)
        all.working h)

  -- the search never ends on damaged pages alone
  pub descent_lost : {T : Type 0} {steps : ℕ} (now : S) (at : ℕ) (page : List ℕ) (n : ℕ)
      → IsDescent g place key start now at page steps → (g.ground start).size ≤ steps
      → IsHome (g.ground start) n → EndsFile {T = T} g Whole start now (Err (Damaged n))
  descent_lost now at page n d over block = record {
    cause = record {
      later = (let f = d.faults in omega (arith, f));
      fault = λ is. let no : ⊥ = cc in absurd no;
      counted = λ _. d.faults;
      damaged = λ m is w. (let e = descent_ends (g.ground start) place.owner
          (g.working start) place.root at key w.1.file.tree
          (past_of (g.ground start) place (g.working start) w.0 w.1.file) (d.hand w.0 w.1) in
          omega (arith, e, over));
    };
    home = λ m is. let same : n ≡ m = cc in subst (IsHome (g.ground start)) same block;
  }

-- the tree is one page
pub alone_of : {S : Type 0} (g : Ghosts S) (place : Place) (key : List ℕ) (start b c : S)
    (page : List ℕ) → ReadsPages g start b → (map : LeafMap)
    (holds : Holds g (IsBplus (g.ground start) place) start map)
    → bytes_at (g.working start) place.root ≡ page
    → ((owner : ℕ) (tree : BplusTree) → trees.IsWhole (bytes_at (g.working b)) place.root tree
    → trees.Owns (IsOwned owner (g.working b)) tree → ArePast (g.ground b) owner (g.working b)
    → bytes_at (g.working b) place.root ≡ page
    → HasRemoved (g.ground b) owner place.root key (g.working b) (g.working c) tree)
    → HasRemoved (g.ground start) place.owner place.root key (g.working start)
    (g.working c) holds.file.tree
alone_of g place key start b c page reads map holds is removed =
    let t = holds.file.tree in
    let w = sym reads.working in
    let h = removed place.owner t (subst
    (λ s. trees.IsWhole (bytes_at s) place.root t) w holds.file.whole)
    (subst (λ s. trees.Owns (IsOwned place.owner s) t) w holds.file.owned)
    (subst (λ x. ArePast x place.owner (g.working b)) (sym reads.keeps.ground)
    (subst (ArePast (g.ground start) place.owner) w
    (past_of (g.ground start) place (g.working start) map holds.file)))
    (subst (λ s. bytes_at s place.root ≡ page) w is) in
    subst (λ x. HasRemoved x place.owner place.root key (g.working start) (g.working c) t)
    reads.keeps.ground (subst (λ s. HasRemoved (g.ground b) place.owner place.root key s
    (g.working c) t) reads.working h)
