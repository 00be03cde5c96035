-- A search for the entry page on the way to a key.
use Rattle.std.proofs.Common.{◌≡◌, inl, inr, ℕ, ◌+◌, ◌<◌, ◌≤◌, List, map, Option, Some, None, refl, sym, ap, ◌∙◌, subst, arith}
use Rattle.std.specs.Prelude.{IsTrue, Result, Err}
use Rattle.gx_ports.specs.declared.page_view.PageView.{Ghosts}
use Rattle.gx_ports.specs.declared.pages.Place.{Place}
use Rattle.gx_ports.specs.declared.stop.Stop.{Stop}
use Rattle.gx_ports.specs.declared.stop.Stop.TheVariants.{Damaged}
use Rattle.gx_ports.specs.Files.{Holds, IsWhole, EndsFile}
use Rattle.gx_ports.specs.LeafMaps.{LeafMap}
use Rattle.gx_ports.specs.PageCalls.{ReadsPages}
use Rattle.gx_ports.specs.Sheets.{Sheets, IsPast, IsHome, bytes_at}
use Rattle.gx_ports.proofs.PageLemmas.{pages_read_themselves, read_pages_joined}
use Rattle.gx_slots.specs.Page.{entries_of}
use Rattle.gx_bnode.specs.Branches.{Branch}
use Rattle.gx_bnode.specs.Page.{IsInnerPage, separators_in, first_of, branches_of}
use Rattle.gx_btree.specs.declared.reading.Shape.{Shape}
use Rattle.gx_btree.specs.declared.reading.Shape.TheVariants as shapes
use Rattle.gx_btree.specs.Bplus.{IsBplus, IsTreePage, IsOwned, Shows, Seems}
use Rattle.gx_btree.specs.Hole.{IsAtHand}
use Rattle.gx_btree.specs.Order.{IsUnder}
use Rattle.gx_btree.specs.Search.{IsFound}
use Rattle.gx_btree.specs.Tree as trees
use Rattle.gx_btree.specs.Tree.{In, BplusTree, BplusKids, leaf, node, last, more, entries, pages, kids_pages, separators, kids_separators, Stands, AllStand, ShowsInner, ShowsEntries, child_for, bound_for}
use Rattle.gx_btree.proofs.BranchLemmas.{bound_in}
use Rattle.gx_btree.proofs.CallLemmas.{ends_after, ends_shown}
use Rattle.gx_btree.proofs.EntryLemmas.{shows_entries, shows_inner}
use Rattle.gx_btree.proofs.FileLemmas.{past_of, descent_ends}
use Rattle.gx_btree.proofs.MemberLemmas.{in_left, in_right, in_cases}
use Rattle.gx_btree.proofs.OrderLemmas.{not_both, not_under_over, up_to_up_to}
use Rattle.gx_btree.proofs.PageLemmas.{one_inner, one_kind}
use Rattle.gx_btree.proofs.ShapeLemmas.{hand_page}
use Rattle.gx_btree.proofs.StepLemmas.{at_root, root_hi, leaf_is, top_in, descend}

-- the separators of a page of a tree are among those of the tree
own_separators : (kids : BplusKids) (s : List ℕ) → In s (separators_in (trees.branches_of kids))
    → In s (kids_separators kids)
own_separators (last t) s i = absurd i
own_separators (more t m kids) s i =
    elim i [
      | inl e ↦ inl e
      | inr j ↦ inr
          (in_right s (separators t) (kids_separators kids) (own_separators kids s j))
    ]

mutual
  page_separators : (at : ℕ → List ℕ) (t : BplusTree) (q f : ℕ) (bs : List Branch) (s : List ℕ)
      → Stands at t
      → In q (pages t) → ShowsInner (at q) f bs → In s (separators_in bs) → In s (separators t)
  page_separators at (leaf p es) q f bs s stands i shows j = elim i [
    | inl e ↦ absurd (one_kind (at p) es f bs stands (subst (λ n. ShowsInner (at n) f bs) e shows))
    | inr n ↦ absurd n
  ]
  page_separators at (node p kids) q f bs s stands i shows j = elim i [
    | inl e ↦ own_separators kids s
        (subst (λ cs. In s (separators_in cs))
        (sym (one_inner (at p) (trees.first_of kids) f (trees.branches_of kids) bs stands.0
        (subst (λ n. ShowsInner (at n) f bs) e shows)).1) j)
    | inr k ↦ kids_page_separators at kids q f bs s stands.1 k shows j
  ]

  kids_page_separators : (at : ℕ → List ℕ) (kids : BplusKids) (q f : ℕ) (bs : List Branch)
      (s : List ℕ)
      → AllStand at kids → In q (kids_pages kids) → ShowsInner (at q) f bs → In s (separators_in bs)
      → In s (kids_separators kids)
  kids_page_separators at (last t) q f bs s stand i shows j =
      page_separators at t q f bs s stand i shows j
  kids_page_separators at (more t m kids) q f bs s stand i shows j =
      inr (elim (in_cases q (pages t) (kids_pages kids) i) [
        | inl a ↦ in_left s (separators t) (kids_separators kids)
            (page_separators at t q f bs s stand.0 a shows j)
        | inr b ↦ in_right s (separators t) (kids_separators kids)
            (kids_page_separators at kids q f bs s stand.1 b shows j)
      ])

-- The search has come to a page that is yet to be read, with the nearest separator behind it.
pub record IsWay (sheets : Sheets) (owner root at : ℕ) (key : List ℕ) (bound : Option (List ℕ))
    (tree : BplusTree) (steps : ℕ) : Type 0 where
  pub hand : IsAtHand (bytes_at sheets) (IsOwned owner sheets) root at key tree steps
  pub bound_is : bound ≡ hand.hi
  pub separator : (s : List ℕ) → bound ≡ Some s → In s (separators tree)

pub record IsFinding {S : Type 0} (g : Ghosts S) (place : Place) (key : List ℕ) (start now : S)
    (from at : ℕ)
    (bound : Option (List ℕ)) (steps : ℕ) : Type 0 where
  pub reads : ReadsPages g start now
  pub faults : g.faults now ≡ g.faults start
  pub from_below : from < (g.ground start).size
  pub way : (map : LeafMap) (holds : Holds g (IsBplus (g.ground start) place) start map)
      → IsWay (g.working start) place.owner place.root at key bound holds.file.tree steps

module _ {S : Type 0} (g : Ghosts S) (place : Place) (key : List ℕ) (start : S) where
  abbrev Whole : Type 0
  Whole = IsWhole g (IsBplus (g.ground start) place) start

  pub finding_starts : place.root < (g.ground start).size
      → IsFinding g place key start start place.root place.root None 0
  finding_starts below = record {
    reads = pages_read_themselves g start;
    faults = refl;
    from_below = below;
    way = λ map holds. record {
      hand =
          at_root (bytes_at (g.working start))
          (IsOwned place.owner (g.working start)) place.root key holds.file.tree holds.file.whole
          holds.file.owned;
      bound_is =
          sym (root_hi (bytes_at (g.working start))
          (IsOwned place.owner (g.working start)) place.root key holds.file.tree holds.file.whole
          holds.file.owned);
      separator = λ s e. let no : ⊥ = cc in absurd no;
    };
  }

  module _ {steps : ℕ} (now : S) (from at : ℕ) (bound : Option (List ℕ))
      (f : IsFinding g place key start now from at bound steps) where
    pub finding_ends : {T : Type 0} (b : S) (r : Result T Stop)
        → EndsFile g (IsTrue g.tells × IsTreePage (g.ground now) (g.working now) at) now b r
        → EndsFile g Whole start b r
    finding_ends b r e = ends_after g Whole _ start now b r f.faults f.reads.keeps.ground (λ w. (
      w.1.told,
      subst (λ s. IsTreePage (g.ground now) s at) (sym f.reads.working)
          (subst (λ x. IsTreePage x (g.working start) at) (sym f.reads.keeps.ground)
          (hand_page (g.ground start) place.owner (g.working start) place.root at key w.1.file.tree
          (f.way w.0 w.1).hand (past_of (g.ground start) place (g.working start) w.0 w.1.file))),
    )) e

    -- where a tree stands, a page is what it seems
    pub finding_shape : (page : List ℕ) (shape : Shape) → Seems shape page
        → (IsTrue g.tells → bytes_at (g.working now) at ≡ page) → (map : LeafMap)
        → Holds g (IsBplus (g.ground start) place) start map → Shows shape page
    finding_shape page shape seems told map holds =
        let sheets = g.working start in
        let is : bytes_at sheets at ≡ page =
        subst (λ s. bytes_at s at ≡ page) f.reads.working (told holds.told) in
        let p =
        hand_page (g.ground start) place.owner sheets place.root at key holds.file.tree
        (f.way map holds).hand
        (past_of (g.ground start) place sheets map holds.file) in
        let shown : Shows p.shape page = subst (Shows p.shape) is p.shows in
        subst (λ s. Shows s page) (seems p.shape shown) shown

    pub finding_goes : (b : S) (page : List ℕ) (next : ℕ) (further : Option (List ℕ))
        → ReadsPages g now b
        → g.faults b ≡ g.faults now → IsPast (g.ground now) at → Seems shapes.Inner page
        → (IsTrue g.tells → bytes_at (g.working now) at ≡ page)
        → (IsInnerPage page → (next ≡ child_for (first_of page) (branches_of page) key)
        × (further ≡ bound_for (branches_of page) key bound))
        → IsFinding g place key start b at next further (steps +
        1)
    finding_goes b page next further reads faults past seems told leads = record {
      reads = read_pages_joined g f.reads reads;
      faults = faults ∙ f.faults;
      from_below = (let p = past.below in let e = ap (λ x. x.size) f.reads.keeps.ground in
          omega (arith, p, e));
      way = λ map holds.
          let w = f.way map holds in
          let sheets = g.working start in
          let tree = holds.file.tree in
          let inner : IsInnerPage page = finding_shape page shapes.Inner seems told map holds in
          let goes = (leads inner).0 in
          let further_is = (leads inner).1 in
          let is : bytes_at sheets at ≡ page =
          subst (λ s. bytes_at s at ≡ page) f.reads.working (told holds.told) in
          let shows : ShowsInner (bytes_at sheets at) (first_of page) (branches_of page) =
          subst (λ x. ShowsInner x (first_of page) (branches_of page)) (sym is)
          (shows_inner page inner) in
          let top : In at (pages tree) =
          (holds.file.owned at).0 ((w.hand.owns at).1
          (inl (subst (λ q. In q (pages w.hand.subtree)) w.hand.fits.page_is
          (top_in w.hand.subtree)))) in
          subst (λ q. IsWay sheets place.owner place.root q key further tree (steps + 1)) (sym goes)
          (let d = descend (bytes_at sheets) (IsOwned place.owner sheets) place.root at key tree
          (first_of page)
          (branches_of page) shows w.hand in
          record {
            hand = d.0;
            bound_is = further_is ∙ ap (bound_for (branches_of page) key) w.bound_is ∙ sym d.2;
            separator = λ s e. elim (bound_in (branches_of page) key bound s (sym further_is ∙ e)) [
              | inl h ↦ w.separator s h
              | inr i ↦ page_separators (bytes_at sheets) tree at (first_of page)
                  (branches_of page) s holds.file.whole.stands top shows i
            ];
          });
    }

    pub finding_found : (page : List ℕ) → Seems shapes.Entries page
        → (IsTrue g.tells → bytes_at (g.working now) at ≡ page)
        → (map : LeafMap) (holds : Holds g (IsBplus (g.ground start) place) start map)
        → IsFound holds.file.tree key bound (entries_of page)
    finding_found page seems told map holds =
        let shown : Shows shapes.Entries page =
        finding_shape page shapes.Entries seems told map holds in
        let w = f.way map holds in
        let h = w.hand in
        let sheets = g.working start in
        let is : bytes_at sheets at ≡ page =
        subst (λ s. bytes_at s at ≡ page) f.reads.working (told holds.told) in
        let shows : ShowsEntries (bytes_at sheets at) (entries_of page) =
        subst (λ x. ShowsEntries x (entries_of page)) (sym is) (shows_entries page shown) in
        let kid =
        leaf_is (bytes_at sheets) h.subtree (entries_of page)
        (subst (λ q. ShowsEntries (bytes_at sheets q) (entries_of page)) (sym h.fits.page_is) shows)
        h.fits.stands in
        let own : entries h.subtree ≡ entries_of page = ap entries kid in
        record {
          among = λ x i. (h.entries_are x).1 (inl (subst (In x) (sym own) i));
          under = λ x i. subst (IsUnder x.key) (sym w.bound_is)
              (h.fits.bounds x (subst (In x) (sym own) i)).1;
          all = λ x i from_key under. elim ((h.entries_are x).0 i) [
            | inl a ↦ subst (In x) own a
            | inr b ↦ absurd (elim (h.hole.out x b) [
              | inl c ↦ not_both x.key h.lo c (up_to_up_to h.lo key x.key h.from from_key)
              | inr c ↦ not_under_over x.key h.hi (subst (IsUnder x.key) w.bound_is under) c
            ])
          ];
          to = subst (IsUnder key) (sym w.bound_is) h.to;
          separator = w.separator;
        }

    -- no such page is none
    pub finding_torn : {T : Type 0} (b : S) (page : List ℕ) (n : ℕ) → g.faults b ≡ g.faults now
        → IsHome (g.ground start) n → Seems shapes.Inner page
        → (IsTrue g.tells → bytes_at (g.working now) at ≡ page) → ¬ IsInnerPage page
        → EndsFile {T = T} g Whole start b (Err (Damaged n))
    finding_torn b page n faults block seems told none =
        ends_shown g Whole start b n (faults ∙ f.faults) block
        (λ w. none (finding_shape page shapes.Inner seems told w.0 w.1))

    pub finding_lost : {T : Type 0} (n : ℕ) → (g.ground start).size ≤ steps
        → IsHome (g.ground start) n
        → EndsFile {T = T} g Whole start now (Err (Damaged n))
    finding_lost n over block = record {
      cause = record {
        later = (let e = f.faults in omega (arith, e));
        fault = λ is. let no : ⊥ = cc in absurd no;
        counted = λ _. f.faults;
        damaged =
            λ m is w. (let e = descent_ends (g.ground start) place.owner
            (g.working start) place.root at key w.1.file.tree
            (past_of (g.ground start) place (g.working start) w.0 w.1.file) (f.way w.0 w.1).hand in
            omega (arith, e, over));
      };
      home = λ m is. let same : n ≡ m = cc in subst (IsHome (g.ground start)) same block;
    }
