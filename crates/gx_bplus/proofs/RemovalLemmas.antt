-- The pages after a child was taken off its page.
use Rattle.std.proofs.Common.{◌≡◌, ◌≢◌, ℕ, zero, suc, ◌+◌, ◌≤◌, ◌-◌, map, get_or, List, [], ◌∷◌, length, inl, inr, refl, sym, ap, ◌∙◌, subst, arith}
use Rattle.std.specs.Prelude.{Result, Ok, Err, OnOk}
use Rattle.std.specs.List.{remove}
use Rattle.std.proofs.lemmas.Bool.{cond-true, cond-false}
use Rattle.gx_ports.specs.Files.{OthersStay}
use Rattle.gx_ports.specs.Sheets.{Sheets, Ground, IsPast, IsOwnedAnew, bytes_at}
use Rattle.gx_ports.proofs.PageLemmas.{others_joined}
use Rattle.gx_slots.specs.Entries.{Entry}
use Rattle.gx_slots.specs.Page.{entries_of}
use Rattle.gx_bnode.specs.Branches.{Branch}
use Rattle.gx_bnode.specs.Page.{IsInnerPage, first_of, branches_of, separators_of, children_of}
use Rattle.gx_bnode.proofs.PageLemmas.{page_of as inner_page_of}
use Rattle.gx_btree.specs.declared.reading.Shape.TheVariants as shapes
use Rattle.gx_btree.specs.Bplus.{Shows, IsTreePage, IsWritten, IsOwned, ArePast}
use Rattle.gx_btree.specs.Tree.{IsSome, In, BplusTree, page_of, entries, pages, kids_pages, ShowsEntries, ShowsInner, IsFilled, IsWhole, Owns, child_for, without_branch, first_without}
use Rattle.gx_btree.specs.Hole.{IsAtHand}
use Rattle.gx_btree.specs.Tree as trees
use Rattle.gx_btree.specs.Order.{is_below}
use Rattle.gx_btree.proofs.BranchLemmas.{IsPlaceFor, first_behind, first_before, without_is}
use Rattle.gx_btree.proofs.EntryLemmas.{shows_entries, shows_inner, entries_up}
use Rattle.gx_btree.proofs.ShapeLemmas.{first_in, kids_shape}
use Rattle.gx_btree.proofs.SheetLemmas.{written_owned, written_other, written_here, written_others, anew_bytes, freed_others, freed_owned}
use Rattle.gx_btree.proofs.StepLemmas.{IsAtNode, at_node, leaf_is, top_in, descend}
use Rattle.gx_bplus.specs.Changes.{IsTakenFrom, IsRemoved}
use Rattle.gx_bplus.specs.Search.{IsReached, HasRemoved}
use Rattle.gx_bplus.proofs.RemoveLemmas.{many_of, taken_below, taken_root, dropped, replaced}

pub on_ok : {T E : Type 0} {A B : Type 0} (r : Result T E) → (A → B) → OnOk r A → OnOk r B
on_ok (Ok x) f h = f h
on_ok (Err e) f h = h

dropped_any : {steps : ℕ} (at new : ℕ → List ℕ) (owned now : ℕ → Type 0) (root p : ℕ) (key : List ℕ)
    (old : BplusTree) (first : ℕ)
    (bs : List Branch) (es : List Entry) → 1 ≤ length bs
    → ShowsInner (at p) first bs → ShowsEntries (at (child_for first bs key)) es
    → IsTakenFrom key es []
    → ShowsInner (new p) (first_without first bs key) (without_branch bs key)
    → ((q : ℕ) → owned q → q ≢ p → q ≢ child_for first bs key → new q ≡ at q)
    → ((q : ℕ) → (now q → owned q × (q ≢ child_for first bs key))
    × (owned q × (q ≢ child_for first bs key) → now q))
    → IsAtHand at owned root p key old steps → IsRemoved new now root key old
dropped_any at new owned now root p key old first [] es some = absurd (omega (arith, some))
dropped_any at new owned now root p key old first (b ∷ bs) es some =
    dropped at new owned now root p key old first b bs es

-- the child on the way belongs to the owner, and isn't the page above it
pub record IsChild (owned : ℕ → Type 0) (p child : ℕ) : Type 0 where
  pub mine : owned child
  pub other : child ≢ p

pub child_is : {steps : ℕ} (at : ℕ → List ℕ) (owned : ℕ → Type 0) (root p child : ℕ) (key : List ℕ)
    (old : BplusTree) (first : ℕ)
    (bs : List Branch) (h : IsAtHand at owned root p key old steps)
    → IsAtNode at owned root p key old first bs h
    → child ≡ child_for first bs key → IsChild owned p child
child_is at owned root p child key old first bs h n way =
    let is : child ≡ page_of n.hole.kid = way ∙ n.goes in
    let within : In (page_of n.hole.kid) (kids_pages n.kids) =
    n.in_kids (page_of n.hole.kid) (top_in n.hole.kid) in
    record {
      mine = subst owned (sym is) (n.kids_owned (page_of n.hole.kid) within);
      other = λ e. n.out (subst (λ q. In q (kids_pages n.kids)) (sym is ∙ e) within);
    }

pub drop_sheets : (ground : Ground) (owner root at child : ℕ) (key : List ℕ) (tree : BplusTree)
    (steps : ℕ) (page below page' : List ℕ) (i : ℕ)
    (a b c : Sheets)
    → length a.bytes ≡ ground.size → IsPast ground at
    → IsReached ground owner a root at child key tree steps page below → IsInnerPage page
    → Shows shapes.Entries below
    → IsTakenFrom key (entries_of below) []
    → 2 ≤ length (branches_of page) → child ≡ child_for (first_of page) (branches_of page) key
    → IsPlaceFor (branches_of page) key i → IsInnerPage page'
    → separators_of page' ≡ remove (separators_of page) (i - 1)
    → children_of page' ≡ remove (children_of page) i
    → IsWritten at page' a b → IsOwnedAnew child 0 ground b c
    → HasRemoved ground owner root key a c tree
drop_sheets ground owner root at child key tree steps page below page' i a b c size at_past reached
    inner shown taken several way place
    inner' separators children written freed =
    let first = first_of page in
    let bs = branches_of page in
    let h = reached.search.hand in
    let at_p : ShowsInner (bytes_at a at) first bs =
    subst (λ d. ShowsInner d first bs) (sym reached.bytes_are) (shows_inner page inner) in
    let n = at_node (bytes_at a) (IsOwned owner a) root at key tree first bs at_p h in
    let kid = child_is (bytes_at a) (IsOwned owner a) root at child key tree first bs h n way in
    let at_c : ShowsEntries (bytes_at a (child_for first bs key)) (entries_of below) =
    subst (λ q. ShowsEntries (bytes_at a q) (entries_of below)) way
    (subst (λ d. ShowsEntries d (entries_of below)) (sym reached.below_are)
    (shows_entries below shown)) in
    let is = without_is page page' key i place (omega (arith, several)) separators children in
    let here : bytes_at c at ≡ page' = anew_bytes child 0 ground b c freed at at_past.past
    ∙ written_here at page' a b written (let l = at_past.below in omega (arith, l, size)) in
    let new_p : ShowsInner (bytes_at c at) (first_without first bs key) (without_branch bs key) =
    subst (λ d. ShowsInner d (first_without first bs key) (without_branch bs key)) (sym here)
    (subst (λ f. ShowsInner page' f (without_branch bs key)) is.0
    (subst (ShowsInner page' (first_of page')) is.1 (shows_inner page' inner'))) in
    let child_b : IsOwned owner b child =
    (written_owned at page' a b written owner child).1 kid.mine in
    let owners = freed_owned child owner ground b c reached.least freed child_b in
    record {
      removed = dropped_any (bytes_at a) (bytes_at c) (IsOwned owner a) (IsOwned owner c) root at
          key tree first bs (entries_of below)
          (omega (arith, several)) at_p at_c taken new_p
          (λ q o d e. anew_bytes child 0 ground b c freed q (reached.search.past q o).past
          ∙ written_other at page' a b written q d)
          (λ q. (
            (λ o. let f = (owners q).0 o in
                ((written_owned at page' a b written owner q).0 f.0, λ e. f.1 (e ∙ sym way))),
            (λ o. (owners q).1 (
              (written_owned at page' a b written owner q).1 o.0,
              λ e. o.1 (e ∙ way),
            )),
          )) h;
      past = λ q o. reached.search.past q
          ((written_owned at page' a b written owner q).0 ((owners q).0 o).0);
      others = others_joined ground owner a b c
          (written_others ground owner at page' a b written n.top_owned)
          (freed_others child owner ground b c freed child_b);
    }

replaced_any : {steps : ℕ} (at new : ℕ → List ℕ) (owned now : ℕ
    → Type 0) (root p : ℕ) (key : List ℕ) (old : BplusTree) (first : ℕ)
    (bs : List Branch) (es : List Entry) → length bs ≡ 1
    → ShowsInner (at p) first bs → ShowsEntries (at (child_for first bs key)) es
    → IsTakenFrom key es []
    → new p ≡ at (first_without first bs key)
    → ((q : ℕ) → owned q → q ≢ p → q ≢ child_for first bs key → q ≢ first_without first bs key
    → new q ≡ at q)
    → ((q : ℕ) → (now q → owned q × (q ≢ child_for first bs key) × (q ≢ first_without first bs key))
    × (owned q × (q ≢ child_for first bs key) × (q ≢ first_without first bs key) → now q))
    → IsAtHand at owned root p key old steps → IsRemoved new now root key old
replaced_any at new owned now root p key old first [] es some = absurd (omega (arith, some))
replaced_any at new owned now root p key old first (b ∷ []) es some =
    replaced at new owned now root p key old first b es
replaced_any at new owned now root p key old first (b ∷ (d ∷ bs)) es some =
    absurd (omega (arith, some))

-- the one other child
pub record IsSibling (ground : Ground) (owner : ℕ) (sheets : Sheets) (p child other : ℕ) : Type 0
  where
    pub mine : IsOwned owner sheets other
    pub not_top : other ≢ p
    pub not_child : other ≢ child
    pub page : IsTreePage ground sheets other

sibling : {steps : ℕ} (ground : Ground) (owner : ℕ) (sheets : Sheets) (root p child other : ℕ)
    (key : List ℕ) (old : BplusTree) (first : ℕ)
    (bs : List Branch) (h : IsAtHand (bytes_at sheets) (IsOwned owner sheets) root p key old steps)
    → IsAtNode (bytes_at sheets) (IsOwned owner sheets) root p key old first bs h
    → ArePast ground owner sheets → 1 ≤ length bs
    → child ≡ child_for first bs key → other ≡ first_without first bs key
    → IsSibling ground owner sheets p child other
sibling ground owner sheets root p child other key old first [] h n past some way is =
    absurd (omega (arith, some))
sibling ground owner sheets root p child other key old first (b ∷ bs) h n past some way is =
    let k = n.hole in
    let w = k.gone (bytes_at sheets) (λ q i. refl) (many_of n.kids b bs n.branches_are) in
    let first_is : trees.first_of w.kids ≡ other =
    w.first_is ∙ ap (λ f. first_without f (trees.branches_of n.kids) key) n.first_is
    ∙ ap (λ c. first_without first c key) n.branches_are ∙ sym is in
    let within : In other k.others =
    elim ((w.pages_are other).0
    (subst (λ q. In q (kids_pages w.kids)) first_is (first_in w.kids)))
    [ inl a ↦ a | inr z ↦ absurd z ] in
    let child_in : In child (pages k.kid) =
    subst (λ q. In q (pages k.kid)) (sym (way ∙ n.goes)) (top_in k.kid) in
    let mine = n.kids_owned other (n.in_others other within) in
    let shape = kids_shape (bytes_at sheets) n.kids other n.stand n.ordered
    (n.in_others other within) in
    record {
      mine = mine;
      not_top = λ e. n.out (subst (λ q. In q (kids_pages n.kids)) e (n.in_others other within));
      not_child = λ e. k.fits.alone child child_in (subst (λ q. In q k.others) e within);
      page = record { past = past other mine; shape = shape.shape; shows = shape.shows };
    }

pub reached_node : (ground : Ground) (owner : ℕ) (sheets : Sheets) (root at child : ℕ)
    (key : List ℕ) (tree : BplusTree) (steps : ℕ)
    (page below : List ℕ) (reached : IsReached ground owner sheets root at child key tree steps page
    below) → IsInnerPage page
    → IsAtNode (bytes_at sheets) (IsOwned owner sheets) root at key tree (first_of page)
    (branches_of page) reached.search.hand
reached_node ground owner sheets root at child key tree steps page below reached inner =
    at_node (bytes_at sheets) (IsOwned owner sheets) root at key tree (first_of page)
    (branches_of page)
    (subst (λ d. ShowsInner d (first_of page) (branches_of page)) (sym reached.bytes_are)
    (shows_inner page inner)) reached.search.hand

pub reached_sibling : (ground : Ground) (owner : ℕ) (sheets : Sheets) (root at child other : ℕ)
    (key : List ℕ) (tree : BplusTree) (steps : ℕ)
    (page below : List ℕ) → IsReached ground owner sheets root at child key tree steps page below
    → IsInnerPage page
    → 1 ≤ length (branches_of page) → child ≡ child_for (first_of page) (branches_of page) key
    → other ≡ first_without (first_of page) (branches_of page) key
    → IsSibling ground owner sheets at child other
reached_sibling ground owner sheets root at child other key tree steps page below reached inner some
    way is =
    sibling ground owner sheets root at child other key tree (first_of page)
    (branches_of page) reached.search.hand
    (reached_node ground owner sheets root at child key tree steps page below reached inner)
    reached.search.past some way is

pub replace_sheets : (ground : Ground) (owner root at child other : ℕ) (key : List ℕ)
    (tree : BplusTree)
    (steps : ℕ) (page below bytes : List ℕ)
    (a b c d : Sheets)
    → length a.bytes ≡ ground.size → IsPast ground at
    → IsReached ground owner a root at child key tree steps page below → IsInnerPage page
    → Shows shapes.Entries below
    → IsTakenFrom key (entries_of below) []
    → length (branches_of page) ≡ 1 → child ≡ child_for (first_of page) (branches_of page) key
    → other ≡ first_without (first_of page) (branches_of page) key
    → bytes_at a other ≡ bytes → IsWritten at bytes a b → IsOwnedAnew child 0 ground b c
    → IsOwnedAnew other 0 ground c d
    → HasRemoved ground owner root key a d tree
replace_sheets ground owner root at child other key tree steps page below bytes a b c d size at_past
    reached inner shown taken one way is
    read written freed freed_too =
    let first = first_of page in
    let bs = branches_of page in
    let h = reached.search.hand in
    let at_p : ShowsInner (bytes_at a at) first bs =
    subst (λ x. ShowsInner x first bs) (sym reached.bytes_are) (shows_inner page inner) in
    let n = reached_node ground owner a root at child key tree steps page below reached inner in
    let kid = child_is (bytes_at a) (IsOwned owner a) root at child key tree first bs h n way in
    let sib = reached_sibling ground owner a root at child other key tree steps page below reached
    inner (omega (arith, one)) way is in
    let at_c : ShowsEntries (bytes_at a (child_for first bs key)) (entries_of below) =
    subst (λ q. ShowsEntries (bytes_at a q) (entries_of below)) way
    (subst (λ x. ShowsEntries x (entries_of below)) (sym reached.below_are)
    (shows_entries below shown)) in
    let here : bytes_at d at ≡ bytes = anew_bytes other 0 ground c d freed_too at at_past.past
    ∙ anew_bytes child 0 ground b c freed at at_past.past
    ∙ written_here at bytes a b written (let l = at_past.below in omega (arith, l, size)) in
    let child_b : IsOwned owner b child =
    (written_owned at bytes a b written owner child).1 kid.mine in
    let owners = freed_owned child owner ground b c reached.least freed child_b in
    let other_c : IsOwned owner c other =
    (owners other).1 ((written_owned at bytes a b written owner other).1 sib.mine, sib.not_child) in
    let owners_too = freed_owned other owner ground c d reached.least freed_too other_c in
    let back : (q : ℕ) → IsOwned owner d q → IsOwned owner a q × (q ≢ child) × (q ≢ other) = λ q o.
    let f = (owners_too q).0 o in
    let g = (owners q).0 f.0 in
    ((written_owned at bytes a b written owner q).0 g.0, g.1, f.1) in
    record {
      removed = replaced_any (bytes_at a) (bytes_at d) (IsOwned owner a) (IsOwned owner d) root at
          key tree first bs
          (entries_of below) one at_p at_c taken
          (here ∙ sym read ∙ ap (bytes_at a) is)
          (λ q o e f g. let p = (reached.search.past q o).past in
          anew_bytes other 0 ground c d freed_too q p
          ∙ anew_bytes child 0 ground b c freed q p ∙ written_other at bytes a b written q e)
          (λ q. (
            (λ o. let f = back q o in (f.0, (λ e. f.1 (e ∙ sym way)), (λ e. f.2 (e ∙ sym is)))),
            (λ o. (owners_too q).1 (
              (owners q).1 ((written_owned at bytes a b written owner q).1 o.0, λ e. o.1 (e ∙ way)),
              λ e. o.2 (e ∙ is),
            )),
          )) h;
      past = λ q o. reached.search.past q (back q o).0;
      others = others_joined ground owner a b d
          (written_others ground owner at bytes a b written n.top_owned)
          (others_joined ground owner b c d (freed_others child owner ground b c freed child_b)
          (freed_others other owner ground c d freed_too other_c));
    }

-- the entry page below keeps an entry, or is as it was
pub keep_sheets : (ground : Ground) (owner root at child : ℕ) (key : List ℕ) (tree : BplusTree)
    (steps : ℕ) (page below new : List ℕ)
    (a b : Sheets)
    → IsReached ground owner a root at child key tree steps page below → IsInnerPage page
    → Shows shapes.Entries below
    → Shows shapes.Entries new
    → IsTakenFrom key (entries_of below) (entries_of new)
    → (IsSome (entries_of below) → IsSome (entries_of new))
    → child ≡ child_for (first_of page) (branches_of page) key
    → bytes_at b child ≡ new → ((q : ℕ) → q ≢ child → bytes_at b q ≡ bytes_at a q)
    → ((q : ℕ) → (IsOwned owner b q → IsOwned owner a q) × (IsOwned owner a q → IsOwned owner b q))
    → (IsOwned owner a child → OthersStay ground owner a b)
    → HasRemoved ground owner root key a b tree
keep_sheets ground owner root at child key tree steps page below new a b reached inner shown shown'
    taken some way here elsewhere owners
    others =
    let first = first_of page in
    let bs = branches_of page in
    let h = reached.search.hand in
    let at_p : ShowsInner (bytes_at a at) first bs =
    subst (λ x. ShowsInner x first bs) (sym reached.bytes_are) (shows_inner page inner) in
    let d : (g : IsAtHand (bytes_at a) (IsOwned owner a) root child key tree (steps + 1))
    × IsFilled g.subtree =
    subst (λ c. (g : IsAtHand (bytes_at a) (IsOwned owner a) root c key tree (steps + 1))
    × IsFilled g.subtree) (sym way)
    (let r = descend (bytes_at a) (IsOwned owner a) root at key tree first bs at_p h in (r.0, r.1))
    in
    let kid = child_is (bytes_at a) (IsOwned owner a) root at child key tree first bs h
    (reached_node ground owner a root at child key tree steps page below reached inner) way in
    let was : ShowsEntries (bytes_at a child) (entries_of below) =
    subst (λ x. ShowsEntries x (entries_of below)) (sym reached.below_are)
    (shows_entries below shown) in
    let is : ShowsEntries (bytes_at b child) (entries_of new) =
    subst (λ x. ShowsEntries x (entries_of new)) (sym here)
    (shows_entries new shown') in
    let g = d.0 in
    let leaf = leaf_is (bytes_at a) g.subtree (entries_of below)
    (subst (λ q. ShowsEntries (bytes_at a q) (entries_of below)) (sym g.fits.page_is) was)
    g.fits.stands in
    let filled : IsSome (entries_of below) =
    (d.1.0, subst (λ (t : BplusTree). In d.1.0 (entries t)) leaf d.1.1) in
    record {
      removed = taken_below (bytes_at a) (bytes_at b) (IsOwned owner a) (IsOwned owner b) root child
          key tree (entries_of below)
          (entries_of new) was is (λ _. entries_up new shown') (λ _. taken) (some filled)
          (λ q o e. elsewhere q e) owners g;
      past = λ q o. reached.search.past q ((owners q).0 o);
      others = others kid.mine;
    }

pub alone_sheets : (ground : Ground) (owner root : ℕ) (key : List ℕ) (tree : BplusTree)
    (page new : List ℕ) (a b : Sheets)
    → IsWhole (bytes_at a) root tree → Owns (IsOwned owner a) tree → ArePast ground owner a
    → bytes_at a root ≡ page
    → Shows shapes.Entries page → Shows shapes.Entries new
    → IsTakenFrom key (entries_of page) (entries_of new) → bytes_at b root ≡ new
    → ((q : ℕ) → (IsOwned owner b q → IsOwned owner a q) × (IsOwned owner a q → IsOwned owner b q))
    → (IsOwned owner a root → OthersStay ground owner a b)
    → HasRemoved ground owner root key a b tree
alone_sheets ground owner root key tree page new a b whole owns past bytes_are shown shown' taken
    here owners others =
    let root_owned : IsOwned owner a root =
    (owns root).1 (subst (λ q. In q (pages tree)) whole.root_is (top_in tree)) in
    let was : ShowsEntries (bytes_at a root) (entries_of page) =
    subst (λ x. ShowsEntries x (entries_of page)) (sym bytes_are)
    (shows_entries page shown) in
    let is : ShowsEntries (bytes_at b root) (entries_of new) =
    subst (λ x. ShowsEntries x (entries_of new)) (sym here)
    (shows_entries new shown') in
    record {
      removed = taken_root (bytes_at a) (bytes_at b) (IsOwned owner a) (IsOwned owner b) root key
          tree (entries_of page)
          (entries_of new) was is (λ _. entries_up new shown') (λ _. taken) owners whole owns;
      past = λ q o. past q ((owners q).0 o);
      others = others root_owned;
    }

-- the other one of two children
pub other_is : (first : ℕ) (bs : List Branch) (key : List ℕ) (i : ℕ) → IsPlaceFor bs key i
    → length bs ≡ 1
    → (i ≡ 0 → get_or (first ∷ map (λ b. b.child) bs) 1 0 ≡ first_without first bs key)
    × ((i ≡ 0 → ⊥) → first ≡ first_without first bs key)
other_is first [] key i at one = absurd (omega (arith, one))
other_is first (b ∷ bs) key zero at one = (
  (λ _. sym (cond-true (is_below key b.separator) b.child first (first_behind b bs key at))),
  λ d. absurd (d refl),
)
other_is first (b ∷ bs) key (suc i) at one = (
  (λ e. absurd (omega (arith, e))),
  λ _. sym (cond-false (is_below key b.separator) b.child first (first_before b bs key i at)),
)

pub some_branch : (page : List ℕ) → IsInnerPage page → 1 ≤ length (branches_of page)
some_branch page inner = let s = (inner_page_of page inner).some in omega (arith, s)
