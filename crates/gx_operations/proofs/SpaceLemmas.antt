-- The pages that the leaves of a device take are few.
use Rattle.std.proofs.Common.{◌≡◌, ◌∙◌, ℕ, ◌≤◌, List, length, true, refl, sym, ap, subst, arith}
use Rattle.std.specs.Prelude.{IsTrue}
use Rattle.std.proofs.lemmas.List.{length-map}
use Rattle.std.proofs.lemmas.List.FromFn.{length-map-range_with_len}
use Rattle.gx_ports.specs.LeafMaps.{LeafMap, entry_count}
use Rattle.gx_ports.specs.declared.kinds.TheConstants.{MAX_LEAVES}
use Rattle.gx_layout.specs.Recovered.{replayed_pages}
use Rattle.gx_layout.proofs.ReplayLemmas.{length-replayed}
use Rattle.gx_pages.specs.Owners.{owner_at, sheets_of}
use Rattle.gx_leaves.specs.Kinds.{are_built, map_in}
use Rattle.gx_leaves.specs.Places.{places_of}
use Rattle.gx_leaves.proofs.PlaceLemmas.{place_count}
use Rattle.gx_leaves.proofs.SpaceLemmas.{few_pages}
use Rattle.gx_model.specs.States.{State}
use Rattle.gx_states.specs.Terms.{state_size}
use Rattle.gx_states.proofs.SizeLemmas.{few_entries}
use Rattle.gx_store.specs.Device.{Reopens, ground_on}
use Rattle.gx_store.proofs.SettledLemmas.{rooms}
use Rattle.gx_requests.specs.declared.opened.Stored.{Stored}
use Rattle.gx_requests.specs.Checked.{IsStored}
use Rattle.gx_operations.specs.Given.{Given, under, HoldState, IsStoredAs}
use Rattle.gx_operations.specs.Space.{HasFewPages}
use Rattle.gx_operations.proofs.GivenLemmas.{internal_in}

module _ (g : Given) (x : Stored) (of : IsStoredAs g x) (is : IsStored x) where
  kinds : IsTrue (are_built g.typing.specs)
  kinds = subst (λ ks. are_built ks ≡ true) of.specs is.kinds

  few : length g.typing.specs ≤ MAX_LEAVES
  few = subst (λ ks. length ks ≤ MAX_LEAVES) of.specs is.can_play.0.few

  pub few_for_maps : (maps : List LeafMap) (blocks : List (List ℕ)) → under g Reopens maps blocks
      → HasFewPages g (entry_count maps) blocks
  few_for_maps maps blocks reopens =
      let specs = g.typing.specs in
      let base = ground_on blocks in
      let pages = replayed_pages blocks in
      let whole = few_pages base specs (sheets_of pages)
      (record {
        few = few;
        room = rooms specs (length blocks) base.size few kinds reopens.size refl;
        built = kinds;
      })
      (length-map-range_with_len (owner_at pages) 0 (length pages) ∙ length-replayed blocks)
      reopens.leaves.laid in
      subst (λ ms. HasFewPages g (entry_count ms) blocks) reopens.leaves.maps_are whole

  -- a leaf for each owner
  many_maps : (maps : List LeafMap) (blocks : List (List ℕ)) → under g Reopens maps blocks
      → length maps ≡ length x.built.owners
  many_maps maps blocks reopens =
      let specs = g.typing.specs in
      let base = ground_on blocks in
      let places = places_of base specs in
      sym (ap length reopens.leaves.maps_are)
      ∙ length-map places (λ place. map_in base place (sheets_of (replayed_pages blocks)))
      ∙ place_count base specs places refl ∙ ap length (sym of.specs)
      ∙ sym is.can_play.0.owned.each

  pub few_for_state : (s : State) (blocks : List (List ℕ)) → HoldState g s blocks
      → HasFewPages g (state_size g.schema g.definitions s) blocks
  few_for_state s blocks held =
      let fewer = few_for_maps held.maps blocks held.reopens in
      let no_more = few_entries g.schema g.definitions x.built held.maps s of.trees
      (many_maps held.maps blocks held.reopens)
      (internal_in g x.built held.maps s of.trees held.internal) in
      omega (arith, fewer, no_more)
