-- The pages after a page without room was split.
use Rattle.std.proofs.Common.{◌≡◌, ◌≢◌, ◌⊎◌, inl, inr, ◌++◌, ◌+◌, ◌<◌, ◌≤◌, ℕ, true, false, cond, List, [], ◌∷◌, length, slice_set, get_or, map, refl, sym, ap, ◌∙◌, subst, arith}
use Rattle.std.specs.Prelude.{slice_get}
use Rattle.std.proofs.lemmas.Bool.{cases_eq}
use Rattle.std.proofs.lemmas.List.{map-append}
use Rattle.std.proofs.lemmas.Option.{slice_get-get_or}
use Rattle.gx_ports.specs.Files.{OthersStay}
use Rattle.gx_ports.specs.Sheets.{Sheets, Ground, IsPast, IsClaimed, bytes_at}
use Rattle.gx_ports.proofs.PageLemmas.{others_itself, others_joined}
use Rattle.gx_slots.specs.Entries.{Entry}
use Rattle.gx_slots.specs.Page.{entries_of}
use Rattle.gx_bnode.specs.Branches.{Branch}
use Rattle.gx_bnode.specs.Page.{IsInnerPage, first_of, branches_of, separators_of, children_of}
use Rattle.gx_btree.specs.declared.reading.Shape.TheVariants as shapes
use Rattle.gx_btree.specs.Bplus.{Shows, IsWritten, IsOwned, ArePast}
use Rattle.gx_btree.specs.Hole.{IsAtHand}
use Rattle.gx_btree.specs.Order.{is_below}
use Rattle.gx_btree.specs.Tree.{In, BplusTree, pages, ShowsEntries, ShowsInner, child_for, with_branch}
use Rattle.gx_btree.proofs.BranchLemmas.{same_branches, tops, way_with}
use Rattle.gx_btree.proofs.EntryLemmas.{shows_entries, shows_inner, entries_up}
use Rattle.gx_btree.proofs.KidLemmas.{branch}
use Rattle.gx_btree.proofs.SheetLemmas.{get_below, get_set_same, get_set_other, written_owned, written_other, written_here, written_others, anew_bytes, claimed_owned, claimed_free, claimed_others}
use Rattle.gx_btree.proofs.StepLemmas.{at_root, descend, top_in}
use Rattle.gx_bplus.specs.Changes.{IsPutIn, IsTakenFrom, IsSpread, MayStand}
use Rattle.gx_bplus.specs.Search.{IsHeld, IsReached, HasCome, HasPut}
use Rattle.gx_bplus.specs.Splits.{IsDivided, IsRaised}
use Rattle.gx_bplus.proofs.PutLemmas.{added, split}
use Rattle.gx_bplus.proofs.RemovalLemmas.{IsChild, child_is, reached_node}
use Rattle.gx_bplus.proofs.SeparatorLemmas.{split_may, spread_may}
use Rattle.gx_bplus.proofs.SpreadLemmas.{spread, root_spread, root_split}

-- ---- pages that are there stay there

claimed_long : (page owner : ℕ) (ground : Ground) (old new : Sheets)
    → IsClaimed page owner ground old new → (q : ℕ) → ground.tables ≤ q
    → q < length old.bytes → q < length new.bytes
claimed_long page owner ground old new c q past below =
    get_below new.bytes q (get_or old.bytes q [])
    (c.owned.bytes q past ∙ slice_get-get_or old.bytes q [] below)

set_long : (xs : List (List ℕ)) (i : ℕ) (x : List ℕ) (q : ℕ) → q < length xs
    → q < length (slice_set xs i x)
set_long xs i x q below = elim (cases_eq q i) [
  | inl e ↦ get_below (slice_set xs i x) q x
      (ap (slice_get (slice_set xs i x)) e
      ∙ get_set_same xs i x (subst (λ n. n < length xs) e below))
  | inr d ↦ get_below (slice_set xs i x) q (get_or xs q []) (get_set_other xs i q x d
      ∙ slice_get-get_or xs q [] below)
]

written_long : (page : ℕ) (bytes : List ℕ) (old new : Sheets) → IsWritten page bytes old new
    → (q : ℕ) → q < length old.bytes
    → q < length new.bytes
written_long page bytes old new w q below =
    subst (λ (s : Sheets). q < length s.bytes) (sym w) (set_long old.bytes page bytes q below)

abbrev entry : List ℕ → List ℕ → Entry
entry key body = record { key = key; body = body }

-- the entry with the key is taken away before the others are spread with the new one
spread_again : (e : Entry) (es fs ls rs : List Entry) (s : List ℕ) → IsTakenFrom e.key es fs
    → IsSpread fs e ls rs s → IsSpread es e ls rs s
spread_again e es fs ls rs s taken w = record {
  left_up = w.left_up;
  right_up = w.right_up;
  left_some = w.left_some;
  right_some = w.right_some;
  below = w.below;
  above = w.above;
  put = λ x. (
    (λ i. elim ((w.put x).0 i) [ inl d ↦ inl d | inr d ↦ inr ((taken x).0 d.0) ]),
    (λ i. (w.put x).1 (elim i [ inl d ↦ inl d | inr d ↦ inr ((taken x).1 d, d.1) ])),
  );
}

-- ---- a child that is split

module _ (ground : Ground) (owner at child : ℕ) (page key separator left right : List ℕ)
    (old new : Sheets) (fresh : ℕ)
    (d : IsDivided ground owner at child page key separator left right old new fresh)
    (least : 1 ≤ owner) (past : ArePast ground owner old) (size : length old.bytes ≡ ground.size)
    (top : IsOwned owner old at)
    (kid : IsOwned owner old child) (apart : child ≢ at) where
  divided_free : IsOwned owner old fresh → ⊥
  divided_free o = claimed_free fresh owner ground old d.one least d.claimed o

  not_fresh : (q : ℕ) → IsOwned owner old q → q ≢ fresh
  not_fresh q o e = divided_free (subst (IsOwned owner old) e o)

  divided_owned : (q : ℕ) → (IsOwned owner new q → (q ≡ fresh) ⊎ IsOwned owner old q)
      × ((q ≡ fresh) ⊎ IsOwned owner old q → IsOwned owner new q)
  divided_owned q =
      let a = claimed_owned fresh owner ground old d.one d.claimed q in
      let b = written_owned fresh right d.one d.two d.right_is owner q in
      let c = written_owned child left d.two d.three d.left_is owner q in
      let e = written_owned at d.above d.three new d.above_is owner q in
      ((λ o. a.0 (b.0 (c.0 (e.0 o)))), (λ o. e.1 (c.1 (b.1 (a.1 o)))))

  long_one : (q : ℕ) → IsPast ground q → q < length d.one.bytes
  long_one q p = claimed_long fresh owner ground old d.one d.claimed q p.past (let b = p.below in
      omega (arith, b, size))

  divided_elsewhere : (q : ℕ) → IsOwned owner old q → q ≢ at → q ≢ child
      → bytes_at new q ≡ bytes_at old q
  divided_elsewhere q o not_at not_child =
      written_other at d.above d.three new d.above_is q not_at
      ∙ written_other child left d.two d.three d.left_is q not_child
      ∙ written_other fresh right d.one d.two d.right_is q (not_fresh q o)
      ∙ anew_bytes fresh owner ground old d.one d.claimed.owned q (past q o).past

  divided_at : bytes_at new at ≡ d.above
  divided_at = written_here at d.above d.three new d.above_is
      (written_long child left d.two d.three d.left_is at
      (written_long fresh right d.one d.two d.right_is at (long_one at (past at top))))

  divided_child : bytes_at new child ≡ left
  divided_child = written_other at d.above d.three new d.above_is child apart
      ∙ written_here child left d.two d.three d.left_is
      (written_long fresh right d.one d.two d.right_is child (long_one child (past child kid)))

  divided_fresh : bytes_at new fresh ≡ right
  divided_fresh =
      written_other at d.above d.three new d.above_is fresh (λ e. not_fresh at top (sym e))
      ∙ written_other child left d.two d.three d.left_is fresh (λ e. not_fresh child kid (sym e))
      ∙ written_here fresh right d.one d.two d.right_is (long_one fresh d.claimed.past)

  divided_others : OthersStay ground owner old new
  divided_others =
      let a = claimed_owned fresh owner ground old d.one d.claimed in
      let b = written_owned fresh right d.one d.two d.right_is owner in
      let c = written_owned child left d.two d.three d.left_is owner in
      others_joined ground owner old d.one new
      (claimed_others fresh owner ground old d.one d.claimed)
      (others_joined ground owner d.one d.two new
      (written_others ground owner fresh right d.one d.two d.right_is ((a fresh).1 (inl refl)))
      (others_joined ground owner d.two d.three new
      (written_others ground owner child left d.two d.three d.left_is
      ((b child).1 ((a child).1 (inr kid))))
      (written_others ground owner at d.above d.three new d.above_is
      ((c at).1 ((b at).1 ((a at).1 (inr top)))))))

  divided_past : ArePast ground owner new
  divided_past q o = elim ((divided_owned q).0 o)
      [ inl e ↦ subst (IsPast ground) (sym e) d.claimed.past | inr i ↦ past q i ]

  divided_shows : ShowsInner (bytes_at new at) (first_of page)
      (with_branch (branches_of page) key (branch separator fresh))
  divided_shows = subst (λ x. ShowsInner x (first_of page)
      (with_branch (branches_of page) key (branch separator fresh)))
      (sym divided_at) d.shows

-- the branches of an inner page that is split
pub record AreHalved (below left right separator : List ℕ) : Type 0 where
  pub first : first_of below ≡ first_of left
  pub branches : branches_of below ≡ branches_of left ++ branch separator (first_of right)
      ∷ branches_of right

pub halved : (below left right separator : List ℕ)
    → separators_of below ≡ separators_of left ++ separator ∷ separators_of right
    → children_of below ≡ children_of left ++ children_of right
    → AreHalved below left right separator
halved below left right separator seps kids =
    let ls = branches_of left in
    let rs = branch separator (first_of right) ∷ branches_of right in
    let t = tops (first_of below) (first_of left)
    (map (λ (b : Branch). b.child) (branches_of below))
    (map (λ (b : Branch). b.child) ls ++ map (λ (b : Branch). b.child) rs) kids in
    record {
      first = t.0;
      branches = same_branches (branches_of below) (ls ++ rs)
          (seps ∙ sym (map-append (λ (b : Branch). b.separator) ls rs))
          (t.1 ∙ sym (map-append (λ (b : Branch). b.child) ls rs));
    }

module _ (ground : Ground) (owner root at child steps : ℕ) (key : List ℕ) (tree : BplusTree)
    (page below : List ℕ) (a : Sheets)
    (reached : IsReached ground owner a root at child key tree steps page below)
    (inner : IsInnerPage page)
    (way : child ≡ child_for (first_of page) (branches_of page) key) where
  node_is : ShowsInner (bytes_at a at) (first_of page) (branches_of page)
  node_is = subst (λ d. ShowsInner d (first_of page) (branches_of page)) (sym reached.bytes_are)
      (shows_inner page inner)

  kid_is : IsChild (IsOwned owner a) at child
  kid_is = child_is (bytes_at a) (IsOwned owner a) root at child key tree (first_of page)
      (branches_of page) reached.search.hand
      (reached_node ground owner a root at child key tree steps page below reached inner) way

  top_is : IsOwned owner a at
  top_is = (reached_node ground owner a root at child key tree steps page below reached
      inner).top_owned

  below_hand : IsAtHand (bytes_at a) (IsOwned owner a) root child key tree (steps + 1)
  below_hand = subst (λ q. IsAtHand (bytes_at a) (IsOwned owner a) root q key tree (steps + 1))
      (sym way)
      (descend (bytes_at a) (IsOwned owner a) root at key tree (first_of page)
      (branches_of page) node_is reached.search.hand).0

  -- the child has room
  pub stay_come : HasCome ground owner root key a a tree (steps + 1) child below
  stay_come = record {
    steps = steps + 1;
    many = omega arith;
    search = record { hand = below_hand; past = reached.search.past };
    bytes_are = reached.below_are;
    others = others_itself ground owner a;
  }

  -- the child is an inner page
  module _ (left right separator : List ℕ) (shown : IsInnerPage below)
      (left_shown : IsInnerPage left) (right_shown : IsInnerPage right)
      (parts : AreHalved below left right separator) where
    kid_shows : ShowsInner (bytes_at a (child_for (first_of page) (branches_of page) key))
        (first_of below) (branches_of below)
    kid_shows = subst (λ q. ShowsInner (bytes_at a q) (first_of below) (branches_of below)) way
        (subst (λ d. ShowsInner d (first_of below) (branches_of below)) (sym reached.below_are)
        (shows_inner below shown))

    pub halves_may : MayStand (branches_of page) key separator
    halves_may = split_may (bytes_at a) (IsOwned owner a) root at key tree (first_of page)
        (branches_of page) (first_of below)
        (branches_of below) (branches_of left) separator (first_of right)
        (branches_of right) parts.branches
        node_is kid_shows reached.search.hand

    pub split_come : (b : Sheets) (fresh : ℕ)
        → IsDivided ground owner at child page key separator left right a b fresh
        → length a.bytes ≡ ground.size
        → (next : ℕ) (bytes : List ℕ)
        → ((is_below key separator ≡ true) × (next ≡ child) × (bytes ≡ left))
        ⊎ ((is_below key separator ≡ false) × (next ≡ fresh) × (bytes ≡ right))
        → HasCome ground owner root key a b tree (steps + 1) next bytes
    split_come b fresh d size next bytes case =
        let past = reached.search.past in
        let least = reached.least in
        let first = first_of page in
        let bs = branches_of page in
        let here = divided_child ground owner at child page key separator left right a b fresh d
        least past size top_is kid_is.mine
        kid_is.other in
        let new_fresh = divided_fresh ground owner at child page key separator left right a b fresh
        d least past size top_is kid_is.mine
        kid_is.other in
        let shows = divided_shows ground owner at child page key separator left right a b fresh d
        least past size top_is kid_is.mine
        kid_is.other in
        let h = split (bytes_at a) (bytes_at b) (IsOwned owner a) (IsOwned owner b) root at key tree
        first bs (first_of below)
        (branches_of below) (branches_of left) separator (first_of right) (branches_of right) fresh
        parts.branches
        node_is kid_shows (divided_free ground owner at child page key separator left right a b
        fresh d least past size top_is kid_is.mine
        kid_is.other)
        (divided_owned ground owner at child page key separator left right a b fresh d least past
        size top_is kid_is.mine kid_is.other)
        (λ q o e f. divided_elsewhere ground owner at child page key separator left right a b fresh
        d least past size top_is kid_is.mine
        kid_is.other q o e (λ g. f (g ∙ way)))
        shows
        (subst (λ q. ShowsInner (bytes_at b q) (first_of below) (branches_of left)) way
        (subst (λ x. ShowsInner x (first_of below) (branches_of left)) (sym here)
        (subst (λ f. ShowsInner left f (branches_of left)) (sym parts.first)
        (shows_inner left left_shown))))
        (subst (λ x. ShowsInner x (first_of right) (branches_of right)) (sym new_fresh)
        (shows_inner right right_shown))
        reached.search.hand in
        let down = (descend (bytes_at b) (IsOwned owner b) root at key tree first
        (with_branch bs key (branch separator fresh)) shows
        h).0 in
        let chosen : cond (is_below key separator) child fresh ≡ next = elim case [
          | inl l ↦ ap (λ t. cond t child fresh) l.0 ∙ sym l.1
          | inr r ↦ ap (λ t. cond t child fresh) r.0 ∙ sym r.1
        ] in
        let goes : child_for first (with_branch bs key (branch separator fresh)) key ≡ next =
        way_with first bs key (branch separator fresh)
        ∙ ap (λ c. cond (is_below key separator) c fresh) (sym way) ∙ chosen in
        record {
          steps = steps + 1;
          many = omega arith;
          search = record {
            hand = subst (λ q. IsAtHand (bytes_at b) (IsOwned owner b) root q key tree (steps + 1))
                goes down;
            past = divided_past ground owner at child page key separator left right a b fresh d
                least past size top_is kid_is.mine
                kid_is.other;
          };
          bytes_are = elim case [
            | inl l ↦ ap (bytes_at b) l.1 ∙ here ∙ sym l.2
            | inr r ↦ ap (bytes_at b) r.1 ∙ new_fresh ∙ sym r.2
          ];
          others = divided_others ground owner at child page key separator left right a b fresh d
              least past size top_is kid_is.mine
              kid_is.other;
        }

  -- the child is an entry page
  module _ (body : List ℕ) (shown : Shows shapes.Entries below) where
    leaf_shows : ShowsEntries (bytes_at a (child_for (first_of page) (branches_of page) key))
        (entries_of below)
    leaf_shows = subst (λ q. ShowsEntries (bytes_at a q) (entries_of below)) way
        (subst (λ d. ShowsEntries d (entries_of below)) (sym reached.below_are)
        (shows_entries below shown))

    -- the entry goes on it
    pub child_put : (bytes : List ℕ) (b : Sheets) → Shows shapes.Entries bytes
        → IsPutIn (entry key body) (entries_of below) (entries_of bytes) → IsWritten child bytes a b
        → length a.bytes ≡ ground.size
        → HasPut ground owner root (entry key body) a b tree
    child_put bytes b shown' puts written size =
        let past = reached.search.past in
        let owners = written_owned child bytes a b written owner in
        record {
          put = added (bytes_at a) (bytes_at b) (IsOwned owner a) (IsOwned owner b) root child
              (entry key body) tree (entries_of below)
              (entries_of bytes)
              (subst (λ d. ShowsEntries d (entries_of below)) (sym reached.below_are)
              (shows_entries below shown))
              (subst (λ d. ShowsEntries d (entries_of bytes))
              (sym (written_here child bytes a b written (let l = (past child kid_is.mine).below in
              omega (arith, l, size))))
              (shows_entries bytes shown'))
              (λ _. entries_up bytes shown') (λ _. puts)
              (λ q o d. written_other child bytes a b written q d) owners below_hand;
          past = λ q o. past q ((owners q).0 o);
          others = written_others ground owner child bytes a b written kid_is.mine;
        }

    -- the entry and those on it go to two pages
    module _ (taken left right separator : List ℕ)
        (takes : IsTakenFrom key (entries_of below) (entries_of taken))
        (spreads : IsSpread (entries_of taken) (entry key body) (entries_of left)
        (entries_of right) separator) where
      pub spread_stands : MayStand (branches_of page) key separator
      spread_stands = spread_may (bytes_at a) (IsOwned owner a) root at (entry key body) tree
          (first_of page) (branches_of page)
          (entries_of below) (entries_of left) (entries_of right) separator
          (spread_again (entry key body) (entries_of below) (entries_of taken) (entries_of left)
          (entries_of right) separator takes
          spreads) node_is leaf_shows reached.search.hand

      pub spread_put : (b : Sheets) (fresh : ℕ) → Shows shapes.Entries left
          → Shows shapes.Entries right
          → IsDivided ground owner at child page key separator left right a b fresh
          → length a.bytes ≡ ground.size
          → HasPut ground owner root (entry key body) a b tree
      spread_put b fresh left_shown right_shown d size =
          let past = reached.search.past in
          let least = reached.least in
          let first = first_of page in
          let bs = branches_of page in
          record {
            put = spread (bytes_at a) (bytes_at b) (IsOwned owner a) (IsOwned owner b) root at
                (entry key body) tree first bs
                (entries_of below) (entries_of left) (entries_of right) separator fresh
                (λ _. spread_again (entry key body) (entries_of below) (entries_of taken)
                (entries_of left)
                (entries_of right) separator takes spreads)
                node_is leaf_shows
                (divided_free ground owner at child page key separator left right a b fresh d least
                past size top_is kid_is.mine
                kid_is.other)
                (divided_owned ground owner at child page key separator left right a b fresh d least
                past size top_is kid_is.mine
                kid_is.other)
                (λ q o f f'. divided_elsewhere ground owner at child page key separator left right a
                b fresh d least past size top_is
                kid_is.mine kid_is.other q o f (λ g. f' (g ∙ way)))
                (divided_shows ground owner at child page key separator left right a b fresh d least
                past size top_is kid_is.mine
                kid_is.other)
                (subst (λ q. ShowsEntries (bytes_at b q) (entries_of left)) way
                (subst (λ x. ShowsEntries x (entries_of left))
                (sym (divided_child ground owner at child page key separator left right a b fresh d
                least past size top_is kid_is.mine
                kid_is.other)) (shows_entries left left_shown)))
                (subst (λ x. ShowsEntries x (entries_of right))
                (sym (divided_fresh ground owner at child page key separator left right a b fresh d
                least past size top_is kid_is.mine
                kid_is.other)) (shows_entries right right_shown))
                reached.search.hand;
            past = divided_past ground owner at child page key separator left right a b fresh d
                least past size top_is kid_is.mine
                kid_is.other;
            others = divided_others ground owner at child page key separator left right a b fresh d
                least past size top_is kid_is.mine
                kid_is.other;
          }

-- ---- a root that is split

module _ (ground : Ground) (owner root : ℕ) (separator left right : List ℕ) (old new : Sheets)
    (first second : ℕ)
    (r : IsRaised ground owner root separator left right old new first second)
    (least : 1 ≤ owner) (past : ArePast ground owner old) (size : length old.bytes ≡ ground.size)
    (top : IsOwned owner old root) where
  owned_one : (q : ℕ) → (IsOwned owner r.one q → (q ≡ first) ⊎ IsOwned owner old q)
      × ((q ≡ first) ⊎ IsOwned owner old q → IsOwned owner r.one q)
  owned_one = claimed_owned first owner ground old r.one r.claimed

  owned_two : (q : ℕ) → (IsOwned owner r.two q → (q ≡ second) ⊎ IsOwned owner r.one q)
      × ((q ≡ second) ⊎ IsOwned owner r.one q → IsOwned owner r.two q)
  owned_two = claimed_owned second owner ground r.one r.two r.claimed_too

  raised_free : IsOwned owner old first → ⊥
  raised_free o = claimed_free first owner ground old r.one least r.claimed o

  second_free : IsOwned owner r.one second → ⊥
  second_free o = claimed_free second owner ground r.one r.two least r.claimed_too o

  raised_free_too : IsOwned owner old second → ⊥
  raised_free_too o = second_free ((owned_one second).1 (inr o))

  raised_other : first ≢ second
  raised_other e = second_free (subst (IsOwned owner r.one) e ((owned_one first).1 (inl refl)))

  raised_owned : (q : ℕ) → (IsOwned owner new q → (q ≡ first) ⊎ (q ≡ second) ⊎ IsOwned owner old q)
      × ((q ≡ first) ⊎ (q ≡ second) ⊎ IsOwned owner old q → IsOwned owner new q)
  raised_owned q =
      let a = written_owned first left r.two r.three r.left_is owner q in
      let b = written_owned second right r.three r.four r.right_is owner q in
      let c = written_owned root r.top r.four new r.top_is owner q in (
        (λ o. elim ((owned_two q).0 (a.0 (b.0 (c.0 o)))) [
          | inl e ↦ inr (inl e)
          | inr i ↦ elim ((owned_one q).0 i) [ inl e ↦ inl e | inr j ↦ inr (inr j) ]
        ]),
        (λ o. c.1 (b.1
            (a.1 ((owned_two q).1
            (elim o [
              | inl e ↦ inr ((owned_one q).1 (inl e))
              | inr i ↦ elim i [ inl e ↦ inl e | inr j ↦ inr ((owned_one q).1 (inr j)) ]
            ]))))),
      )

  raised_elsewhere : (q : ℕ) → IsOwned owner old q → q ≢ root → bytes_at new q ≡ bytes_at old q
  raised_elsewhere q o d =
      written_other root r.top r.four new r.top_is q d
      ∙ written_other second right r.three r.four r.right_is q
      (λ e. raised_free_too (subst (IsOwned owner old) e o))
      ∙ written_other first left r.two r.three r.left_is q
      (λ e. raised_free (subst (IsOwned owner old) e o))
      ∙ anew_bytes second owner ground r.one r.two r.claimed_too.owned q (past q o).past
      ∙ anew_bytes first owner ground old r.one r.claimed.owned q (past q o).past

  long_two : (q : ℕ) → IsPast ground q → q < length r.two.bytes
  long_two q p = claimed_long second owner ground r.one r.two r.claimed_too q p.past
      (claimed_long first owner ground old r.one r.claimed q p.past (let b = p.below in
      omega (arith, b, size)))

  long_three : (q : ℕ) → IsPast ground q → q < length r.three.bytes
  long_three q p = written_long first left r.two r.three r.left_is q (long_two q p)

  raised_root : bytes_at new root ≡ r.top
  raised_root = written_here root r.top r.four new r.top_is
      (written_long second right r.three r.four r.right_is root (long_three root (past root top)))

  raised_first : bytes_at new first ≡ left
  raised_first =
      written_other root r.top r.four new r.top_is first
      (λ e. raised_free (subst (IsOwned owner old) (sym e) top))
      ∙ written_other second right r.three r.four r.right_is first raised_other
      ∙ written_here first left r.two r.three r.left_is (long_two first r.claimed.past)

  raised_second : bytes_at new second ≡ right
  raised_second =
      written_other root r.top r.four new r.top_is second
      (λ e. raised_free_too (subst (IsOwned owner old) (sym e) top))
      ∙ written_here second right r.three r.four r.right_is (long_three second r.claimed_too.past)

  raised_others : OthersStay ground owner old new
  raised_others =
      let a = written_owned first left r.two r.three r.left_is owner in
      let b = written_owned second right r.three r.four r.right_is owner in
      let in_two : (q : ℕ) → (q ≡ second) ⊎ IsOwned owner r.one q → IsOwned owner r.two q =
      λ q. (owned_two q).1 in
      others_joined ground owner old r.one new
      (claimed_others first owner ground old r.one r.claimed)
      (others_joined ground owner r.one r.two new
      (claimed_others second owner ground r.one r.two r.claimed_too)
      (others_joined ground owner r.two r.three new
      (written_others ground owner first left r.two r.three r.left_is
      (in_two first (inr ((owned_one first).1 (inl refl)))))
      (others_joined ground owner r.three r.four new
      (written_others ground owner second right r.three r.four r.right_is
      ((a second).1 (in_two second (inl refl))))
      (written_others ground owner root r.top r.four new r.top_is
      ((b root).1 ((a root).1 (in_two root (inr ((owned_one root).1 (inr top))))))))))

  raised_past : ArePast ground owner new
  raised_past q o = elim ((raised_owned q).0 o) [
    | inl e ↦ subst (IsPast ground) (sym e) r.claimed.past
    | inr i ↦ elim i [ inl e ↦ subst (IsPast ground) (sym e) r.claimed_too.past | inr j ↦ past q j ]
  ]

  raised_shows : ShowsInner (bytes_at new root) first (branch separator second ∷ [])
  raised_shows = subst (λ x. ShowsInner x first (branch separator second ∷ []))
      (sym raised_root) r.shows

module _ (ground : Ground) (owner root : ℕ) (key : List ℕ) (tree : BplusTree) (page : List ℕ)
    (a : Sheets)
    (held : IsHeld ground owner a root tree page) where
  root_owned : IsOwned owner a root
  root_owned = (held.owns root).1 (subst (λ q. In q (pages tree)) held.whole.root_is (top_in tree))

  -- an inner root has room
  pub root_come : HasCome ground owner root key a a tree 0 root page
  root_come = record {
    steps = 0;
    many = omega arith;
    search = record {
      hand = at_root (bytes_at a) (IsOwned owner a) root key tree held.whole
          held.owns;
      past = held.past;
    };
    bytes_are = held.bytes_are;
    others = others_itself ground owner a;
  }

  -- it hasn't
  pub raised_come : (left right separator : List ℕ) → IsInnerPage page → IsInnerPage left
      → IsInnerPage right
      → AreHalved page left right separator → (b : Sheets) (first second : ℕ)
      → IsRaised ground owner root separator left right a b first second
      → length a.bytes ≡ ground.size
      → (at : ℕ) (bytes : List ℕ)
      → ((is_below key separator ≡ true) × (at ≡ first) × (bytes ≡ left))
      ⊎ ((is_below key separator ≡ false) × (at ≡ second) × (bytes ≡ right))
      → HasCome ground owner root key a b tree 0 at bytes
  raised_come left right separator shown left_shown right_shown parts b first second r size at bytes
      case =
      let one = raised_first ground owner root separator left right a b first second r held.least
      held.past size root_owned in
      let two = raised_second ground owner root separator left right a b first second r held.least
      held.past size root_owned in
      let h = root_split (bytes_at a) (bytes_at b) (IsOwned owner a) (IsOwned owner b) root key tree
      (first_of page) (branches_of page)
      (branches_of left) separator (first_of right) (branches_of right) first second parts.branches
      (subst (λ d. ShowsInner d (first_of page) (branches_of page)) (sym held.bytes_are)
      (shows_inner page shown))
      (raised_free ground owner root separator left right a b first second r held.least held.past
      size root_owned)
      (raised_free_too ground owner root separator left right a b first second r held.least
      held.past size root_owned)
      (raised_other ground owner root separator left right a b first second r held.least held.past
      size root_owned)
      (raised_owned ground owner root separator left right a b first second r held.least held.past
      size root_owned)
      (raised_elsewhere ground owner root separator left right a b first second r held.least
      held.past size root_owned)
      (raised_shows ground owner root separator left right a b first second r held.least held.past
      size root_owned)
      (subst (λ x. ShowsInner x (first_of page) (branches_of left)) (sym one)
      (subst (λ f. ShowsInner left f (branches_of left)) (sym parts.first)
      (shows_inner left left_shown)))
      (subst (λ x. ShowsInner x (first_of right) (branches_of right)) (sym two)
      (shows_inner right right_shown))
      held.whole held.owns in
      let goes : child_for first (branch separator second ∷ []) key ≡ at = elim case [
        | inl l ↦ ap (λ t. cond t first second) l.0 ∙ sym l.1
        | inr l ↦ ap (λ t. cond t first second) l.0 ∙ sym l.1
      ] in
      record {
        steps = 1;
        many = omega arith;
        search = record {
          hand = subst (λ q. IsAtHand (bytes_at b) (IsOwned owner b) root q key tree 1) goes h;
          past = raised_past ground owner root separator left right a b first second r held.least
              held.past size root_owned;
        };
        bytes_are = elim case [
          | inl l ↦ ap (bytes_at b) l.1 ∙ one ∙ sym l.2
          | inr l ↦ ap (bytes_at b) l.1 ∙ two ∙ sym l.2
        ];
        others = raised_others ground owner root separator left right a b first second r held.least
            held.past size root_owned;
      }

  module _ (body : List ℕ) (shown : Shows shapes.Entries page) where
    alone_shows : ShowsEntries (bytes_at a root) (entries_of page)
    alone_shows = subst (λ d. ShowsEntries d (entries_of page)) (sym held.bytes_are)
        (shows_entries page shown)

    -- the entry goes on the one page
    pub alone_put : (bytes : List ℕ) (b : Sheets) → Shows shapes.Entries bytes
        → IsPutIn (entry key body) (entries_of page) (entries_of bytes) → IsWritten root bytes a b
        → length a.bytes ≡ ground.size
        → HasPut ground owner root (entry key body) a b tree
    alone_put bytes b shown' puts written size =
        let owners = written_owned root bytes a b written owner in
        record {
          put = added (bytes_at a) (bytes_at b) (IsOwned owner a) (IsOwned owner b) root root
              (entry key body) tree (entries_of page)
              (entries_of bytes) alone_shows
              (subst (λ d. ShowsEntries d (entries_of bytes))
              (sym (written_here root bytes a b written (let l = (held.past root root_owned).below
              in omega (arith, l, size))))
              (shows_entries bytes shown'))
              (λ _. entries_up bytes shown') (λ _. puts)
              (λ q o d. written_other root bytes a b written q d) owners
              (at_root (bytes_at a) (IsOwned owner a) root key tree held.whole held.owns);
          past = λ q o. held.past q ((owners q).0 o);
          others = written_others ground owner root bytes a b written root_owned;
        }

    -- the entry and those on it go to two pages
    pub raised_put : (taken left right separator : List ℕ)
        → IsTakenFrom key (entries_of page) (entries_of taken)
        → IsSpread (entries_of taken) (entry key body) (entries_of left)
        (entries_of right) separator → Shows shapes.Entries left
        → Shows shapes.Entries right
        → (b : Sheets) (first second : ℕ)
        → IsRaised ground owner root separator left right a b first second
        → length a.bytes ≡ ground.size
        → HasPut ground owner root (entry key body) a b tree
    raised_put taken left right separator takes spreads left_shown right_shown b first second r
        size = record {
          put = root_spread (bytes_at a) (bytes_at b) (IsOwned owner a) (IsOwned owner b) root
              (entry key body) tree (entries_of page)
              (entries_of left) (entries_of right) separator first second
              (λ _. spread_again (entry key body) (entries_of page) (entries_of taken)
              (entries_of left)
              (entries_of right) separator takes
              spreads) alone_shows
              (raised_free ground owner root separator left right a b first second r held.least
              held.past size root_owned)
              (raised_free_too ground owner root separator left right a b first second r held.least
              held.past size root_owned)
              (raised_other ground owner root separator left right a b first second r held.least
              held.past size root_owned)
              (raised_owned ground owner root separator left right a b first second r held.least
              held.past size root_owned)
              (raised_shows ground owner root separator left right a b first second r held.least
              held.past size root_owned)
              (subst (λ x. ShowsEntries x (entries_of left))
              (sym (raised_first ground owner root separator left right a b first second r
              held.least
              held.past size root_owned))
              (shows_entries left left_shown))
              (subst (λ x. ShowsEntries x (entries_of right))
              (sym (raised_second ground owner root separator left right a b first second r
              held.least
              held.past size root_owned))
              (shows_entries right right_shown))
              held.whole held.owns;
          past = raised_past ground owner root separator left right a b first second r held.least
              held.past size root_owned;
          others = raised_others ground owner root separator left right a b first second r
              held.least
              held.past size root_owned;
        }
