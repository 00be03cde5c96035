-- What a change of its chain makes of a heap.
use Rattle.std.proofs.Common.{◌≡◌, ◌≢◌, ◌↔◌, inl, inr, ℕ, ◌+◌, ◌≤◌, List, [], ◌∷◌, set, Some, refl, sym, ap, subst, ◌∙◌, arith}
use Rattle.std.specs.Prelude.{slice_get}
use Rattle.std.specs.List.{Contains}
use Rattle.std.specs.FinMap as fin
use Rattle.std.proofs.lemmas.Bool.{cases_eq}
use Rattle.std.proofs.lemmas.Option.{same_Some, none-some}
use Rattle.gx_ports.specs.declared.pages.Place.{Place}
use Rattle.gx_ports.specs.Files.{SameFor, OthersStay, IsVacant, ClaimsRoots, page_count}
use Rattle.gx_ports.specs.Roots.{roots_of, roots_of_kind}
use Rattle.gx_ports.specs.declared.kinds.LeafKind.TheVariants as kinds
use Rattle.gx_ports.specs.LeafMaps.{LeafMap}
use Rattle.gx_ports.specs.Sheets.{Sheets, Ground, IsPast}
use Rattle.gx_ports.specs.Keyed.{key_cmp}
use Rattle.gx_ports.proofs.PageLemmas.{bytes_same}
use Rattle.gx_slots.specs.Entries.{Entry}
use Rattle.gx_chain.specs.Chain.{entries_at, IsChain, IsOn}
use Rattle.gx_chain.specs.Changes.{IsPutIn, IsRemovedFrom, IsMade, StaysBeside}
use Rattle.gx_chain.proofs.ChainLemmas.{same_on, same_on_back, same_chain}
use Rattle.gx_chain.proofs.CountLemmas.{count_listed, chain_few}
use Rattle.gx_chain.proofs.ListLemmas.{contains_here, contains_cases, contains_none}
use Rattle.gx_chain.proofs.OwnerLemmas.{others_beside, owned_beside}
use Rattle.gx_chain.proofs.PairLemmas.{found_put, found_removed}
use Rattle.gx_chain.proofs.WriteLemmas.{slice_get_set, slice_get_set_same}
use Rattle.gx_heap.specs.Heap.{IsHeap}

-- ---- its chain has changed

module _ (ground : Ground) (place : Place) (s t : Sheets) (map new : LeafMap)
    (some : 1 ≤ place.owner) (h : IsHeap ground place s map)
    (now : List ℕ) (is : IsChain ground place.owner t place.root now)
    (b : StaysBeside ground s t h.pages now) where
  heap_changed : ((k c : List ℕ) → (fin.get new k ≡ Some c) ↔ IsOn t now k c)
      → IsHeap ground place t new
  heap_changed map_is = record {
    pages = now;
    chain = is;
    owned = owned_beside ground place.owner s t h.pages now some b h.owned;
    map_is = map_is;
  }

module _ (ground : Ground) (place : Place) (s t : Sheets) (map : LeafMap) (key body : List ℕ)
    (some : 1 ≤ place.owner)
    (h : IsHeap ground place s map) (p : IsPutIn ground place.owner place.root key body s t h.pages)
  where
    pub heap_put : IsHeap ground place t (fin.insert map key body)
    heap_put = heap_changed ground place s t map (fin.insert map key body) some h p.pages p.chain
        p.beside
        (λ k b. (let found = found_put map key (IsOn s h.pages) h.map_is body k b in
        (λ is. (p.entries k b).1 (found.0 is), λ on. found.1 ((p.entries k b).0 on))))

    pub heap_put_others : OthersStay ground place.owner s t
    heap_put_others = others_beside ground place.owner s t h.pages p.pages h.chain.fit.owned
        p.chain.fit.owned p.beside

module _ (ground : Ground) (place : Place) (s t : Sheets) (map : LeafMap) (key : List ℕ)
    (some : 1 ≤ place.owner)
    (h : IsHeap ground place s map)
    (p : IsRemovedFrom ground place.owner place.root key s t h.pages) where
  pub heap_removed : IsHeap ground place t (fin.remove map key)
  heap_removed = heap_changed ground place s t map (fin.remove map key) some h p.pages p.chain
      p.beside
      (λ k b. (let found = found_removed map key (IsOn s h.pages) h.map_is k b in
      (λ is. (p.entries k b).1 (found.0 is), λ on. found.1 ((p.entries k b).0 on))))

  pub heap_removed_others : OthersStay ground place.owner s t
  heap_removed_others = others_beside ground place.owner s t h.pages p.pages h.chain.fit.owned
      p.chain.fit.owned p.beside

-- ---- its pages are few, and decide

pub heap_few : (ground : Ground) (place : Place) (s : Sheets) (map : LeafMap)
    → IsHeap ground place s map
    → page_count place.owner s ≤ 1 + fin.len map
heap_few ground place s map h =
    let listed = count_listed place.owner s.owners 0 h.pages
    (λ q o. subst (Contains h.pages) (omega arith) (h.owned q o)) in
    let most = chain_few ground place.owner s place.root h.pages map h.chain
    (λ k b. (h.map_is k b).1) in
    omega (arith, listed, most)

pub heap_same : (ground : Ground) (place : Place) (s t : Sheets) (map : LeafMap)
    → SameFor ground place.owner s t
    → IsHeap ground place s map → IsHeap ground place t map
heap_same ground place s t map same h =
    let bytes = λ (q : ℕ) (c : Contains h.pages q). bytes_same s t q
    (same.bytes q (h.chain.fit.past q c).past (h.chain.fit.owned q c)) in
    record {
      pages = h.pages;
      chain = same_chain ground place.owner place.root s t h.pages bytes
          (λ q c. (same.owned q).0 (h.chain.fit.owned q c)) h.chain;
      owned = λ q o. h.owned q ((same.owned q).1 o);
      map_is = λ k b. (
        λ is. same_on ground place.owner place.root s t h.pages bytes k b ((h.map_is k b).0 is),
        λ on. (h.map_is k b).1 (same_on_back ground place.owner place.root s t h.pages bytes k b
            on),
      );
    }

-- ---- an empty heap

module _ (ground : Ground) (place : Place) (s t : Sheets) (some : 1 ≤ place.owner)
    (vacant : IsVacant place s)
    (made : IsMade ground place.owner place.root s t)
    (free : slice_get s.owners place.root ≡ Some 0) where
  owners_is : (q : ℕ) → slice_get t.owners q ≡ slice_get (set s.owners place.root place.owner) q
  owners_is q = ap (λ (o : List ℕ). slice_get o q) (made.written.owners ∙ made.claimed.owned.owners)

  root_owned : slice_get t.owners place.root ≡ Some place.owner
  root_owned = owners_is place.root ∙ slice_get_set_same s.owners place.root place.owner 0 free

  other_owned : (q : ℕ) → q ≢ place.root → slice_get t.owners q ≡ slice_get s.owners q
  other_owned q d = owners_is q ∙ slice_get_set s.owners place.root q place.owner d

  only : (q : ℕ) → Contains (place.root ∷ []) q → place.root ≡ q
  only q c = elim (contains_cases place.root q [] c)
      [ inl e ↦ e | inr never ↦ absurd (contains_none q never) ]

  pub heap_made : IsHeap ground place t fin.empty
  heap_made = record {
    pages = place.root ∷ [];
    chain = record {
      linked = (refl, made.written.is_page, made.written.next_is);
      fit = record {
        once = λ i j d less below. absurd (omega arith);
        past = λ q c. subst (IsPast ground) (only q c) made.claimed.past;
        owned = λ q c. subst (λ n. slice_get t.owners n ≡ Some place.owner) (only q c) root_owned;
        filled = λ q c d. absurd (d (sym (only q c)));
        apart = λ q r k b c in_q in_r _ _. sym (only q in_q) ∙ only r in_r;
      };
    };
    owned = λ q o. elim (cases_eq q place.root) [
      | inl e ↦ subst (Contains (place.root ∷ [])) (sym e) (contains_here place.root [])
      | inr d ↦ absurd (vacant.none q (sym (other_owned q d) ∙ o))
    ];
    map_is = λ k b. (
      λ is. absurd (none-some b (sym (fin.get-empty key_cmp k) ∙ is)),
      λ on. absurd
          (contains_none (record { key = k; body = b })
          (subst (λ (x : List Entry). Contains x (record { key = k; body = b }))
          (ap (entries_at t) (sym (only on.page on.among)) ∙ made.written.entries_are) on.here)),
    );
  }

  pub heap_made_roots : place.spec.kind ≡ kinds.Heap → ClaimsRoots place s t
  heap_made_roots heap q off = other_owned q
      (λ e. (let one : roots_of place.spec ≡ 1 = ap roots_of_kind heap in
      off (omega (arith, e), omega (arith, e, one))))

  pub heap_made_others : OthersStay ground place.owner s t
  heap_made_others other d z =
      let off = λ (q : ℕ) (o : slice_get s.owners q ≡ Some other) (e : q ≡ place.root). z
      (sym (same_Some 0 other (sym free ∙ ap (slice_get s.owners) (sym e) ∙ o))) in
      record {
        owned = λ q. (
          λ o. other_owned q (off q o) ∙ o,
          λ o. elim (cases_eq q place.root) [
            | inl e ↦ absurd (d (sym
                (same_Some place.owner other (sym root_owned ∙ ap (slice_get t.owners) (sym e)
                ∙ o))))
            | inr f ↦ sym (other_owned q f) ∙ o
          ],
        );
        bytes = λ q past o. made.written.others q (off q o) ∙ made.claimed.owned.bytes q past;
      }
