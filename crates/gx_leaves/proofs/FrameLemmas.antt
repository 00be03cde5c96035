-- A change of one file leaves the other leaves as they were.
use Rattle.std.proofs.Common.{◌≡◌, ◌≢◌, inl, inr, ℕ, List, length, set, sym, ap, subst, ◌∙◌, arith}
use Rattle.std.specs.Prelude.{slice_get, Some}
use Rattle.std.specs.FinMap.{empty}
use Rattle.std.proofs.lemmas.Bool.{cases_eq}
use Rattle.std.proofs.lemmas.Option.{slice_get_within, same_Some}
use Rattle.gx_ports.specs.declared.pages.Place.{Place}
use Rattle.gx_ports.specs.LeafMaps.{LeafMap, map_at, SameElsewhere}
use Rattle.gx_ports.specs.Sheets.{Sheets, Ground}
use Rattle.gx_ports.specs.Files.{AreFileLaws, OthersStay}
use Rattle.gx_leaves.specs.Kinds.{IsFileAt, IsFreshOf, map_in}
use Rattle.gx_leaves.specs.Places.{IsLaidOut}
use Rattle.gx_leaves.specs.Wholeness.{maps_of, table_owner, IsFreshAt, IsTable, AreLaid}
use Rattle.gx_leaves.proofs.KindLemmas.{file_laws, fresh_with}
use Rattle.gx_leaves.proofs.SumLemmas.{map_set_at, map_same_at, map_at_some}
use Rattle.gx_leaves.proofs.PlaceLemmas.{placed}

-- the laws of the file at the place of a leaf
pub laws_at : (base : Ground) (places : List Place) → IsLaidOut base places
    → (leaf : ℕ) (place : Place) → slice_get places leaf ≡ Some place
    → AreFileLaws base place (IsFileAt base place) (map_in base place)
laws_at base places laid leaf place at = let p = placed base places laid leaf place at in
    file_laws base place p.built p.is

-- the map that is read at a place where the sheets hold one
pub map_held : (base : Ground) (places : List Place) → IsLaidOut base places
    → (sheets : Sheets) (leaf : ℕ) (place : Place) → slice_get places leaf ≡ Some place
    → (m : LeafMap) → IsFileAt base place sheets m
    → map_at (maps_of base places sheets) leaf ≡ m
map_held base places laid sheets leaf place at m file =
    map_at_some (λ p. map_in base p sheets) places leaf place empty at
    ∙ (laws_at base places laid leaf place at).one sheets m file

-- and it holds that one
pub held_at : (base : Ground) (places : List Place) → IsLaidOut base places → (sheets : Sheets)
    → AreLaid base places sheets → (leaf : ℕ) (place : Place) → slice_get places leaf ≡ Some place
    → IsFileAt base place sheets (map_at (maps_of base places sheets) leaf)
held_at base places laid sheets whole leaf place at =
    let h = whole.each leaf place at in
    subst (λ m. IsFileAt base place sheets m)
    (sym (map_held base places laid sheets leaf place at h.0 h.1)) h.1

module _ (base : Ground) (places : List Place) (laid : IsLaidOut base places) (old new : Sheets)
    (leaf : ℕ) (place : Place) (at : slice_get places leaf ≡ Some place)
    (others : OthersStay base place.owner old new) where
  -- the sheets hold the map of another leaf as before
  pub file_stays : (i : ℕ) (other : Place) → i ≢ leaf → slice_get places i ≡ Some other
      → (m : LeafMap) → IsFileAt base other old m → IsFileAt base other new m
  file_stays i other differ there m file =
      let p = placed base places laid i other there in
      let q = placed base places laid leaf place at in
      let d = differ in
      let apart : other.owner ≢ place.owner = λ e. d (omega (arith, e, p.number, q.number)) in
      let some : other.owner ≢ 0 = omega (arith, p.number) in
      (laws_at base places laid i other there).same old new m (others other.owner apart some) file

  pub map_stays : AreLaid base places old → (i : ℕ) (other : Place) → i ≢ leaf
      → slice_get places i ≡ Some other → map_in base other new ≡ map_in base other old
  map_stays whole i other differ there =
      let h = whole.each i other there in
      let laws = laws_at base places laid i other there in
      laws.one new h.0 (file_stays i other differ there h.0 h.1) ∙ sym (laws.one old h.0 h.1)

  -- and is as fresh
  pub fresh_stays : AreLaid base places old → (i : ℕ) → i ≢ leaf → IsFreshAt base places old i
      → IsFreshAt base places new i
  fresh_stays whole i differ fresh other there =
      let p = placed base places laid i other there in
      let q = placed base places laid leaf place at in
      let d = differ in
      let apart : other.owner ≢ place.owner = λ e. d (omega (arith, e, p.number, q.number)) in
      let some : other.owner ≢ 0 = omega (arith, p.number) in
      let h = whole.each i other there in
      subst (λ m. IsFreshOf other.spec.kind other new m)
      (sym (map_stays whole i other differ there))
      (fresh_with base other p.is.past old new h.0 (map_in base other old)
      (others other.owner apart some) h.1 (fresh other there))

  pub elsewhere : AreLaid base places old
      → SameElsewhere (maps_of base places old) (maps_of base places new) leaf
  elsewhere whole i differ =
      map_same_at (λ p. map_in base p old) (λ p. map_in base p new) places i empty
      (λ other there. map_stays whole i other differ there)

  pub maps_set : AreLaid base places old → (m : LeafMap) → IsFileAt base place new m
      → maps_of base places new ≡ set (maps_of base places old) leaf m
  maps_set whole m file =
      map_set_at (λ p. map_in base p old) (λ p. map_in base p new) places leaf place m at
      ((laws_at base places laid leaf place at).one new m file)
      (λ i other differ there. map_stays whole i other differ there)

  pub table_stays : IsTable base (length places) old → IsTable base (length places) new
  table_stays table =
      let p = placed base places laid leaf place at in
      let within = slice_get_within places leaf place at in record {
        own = λ page below. ((others table_owner (omega (arith, p.is.most)) (omega arith)).owned
            page).0 (table.own page below);
        owned = λ page owner past is. elim (cases_eq owner 0) [
          | inl e ↦ omega (arith, e)
          | inr some ↦ elim (cases_eq owner place.owner) [
            | inl e ↦ omega (arith, e, p.number, within)
            | inr apart ↦ table.owned page owner past (((others owner apart some).owned page).1 is)
          ]
        ];
      }

  pub laid_stays : AreLaid base places old → (m : LeafMap) → IsFileAt base place new m
      → AreLaid base places new
  laid_stays whole m file = record {
    table = table_stays whole.table;
    each = λ i other there. elim (cases_eq i leaf) [
      | inl e ↦ (let same = same_Some place other (sym at ∙ ap (slice_get places) (sym e) ∙ there)
          in (m, subst (λ p. IsFileAt base p new m) same file))
      | inr differ ↦ (let h = whole.each i other there in
          (h.0, file_stays i other differ there h.0 h.1))
    ];
  }
