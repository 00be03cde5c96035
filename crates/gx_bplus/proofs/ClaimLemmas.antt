-- A tree has few pages also where one more was claimed.
use Rattle.std.proofs.Common.{◌≡◌, inl, inr, ◌+◌, ◌*◌, ◌≤◌, ◌∷◌, subst, arith}
use Rattle.std.specs.List.{Contains}
use Rattle.std.specs.FinMap as fin
use Rattle.gx_ports.specs.declared.pages.Place.{Place}
use Rattle.gx_ports.specs.Files.{page_count}
use Rattle.gx_ports.specs.LeafMaps.{LeafMap}
use Rattle.gx_ports.specs.Sheets.{Sheets, Ground, bytes_at}
use Rattle.gx_ports.proofs.CountLemmas.{count_listed}
use Rattle.gx_btree.specs.Bplus.{IsBplus, IsOwned}
use Rattle.gx_btree.specs.Tree.{pages}
use Rattle.gx_btree.proofs.SheetLemmas.{claimed_owned}
use Rattle.gx_btree.proofs.PageCountLemmas.{tree_few, contains_of, map_many}
use Rattle.gx_bplus.specs.Splits.{MayHaveClaimed}

-- pages of the owner that are those of the tree, or one more, are few
pub listed_few : (ground : Ground) (place : Place) (s t : Sheets) (m : LeafMap)
    → IsBplus ground place s m
    → MayHaveClaimed ground place.owner s t → page_count place.owner t ≤ 1 + 2 * fin.len m + 1
listed_few ground place s t m b (inl same) =
    let listed = count_listed t.owners place.owner 0 (pages b.tree)
    (λ q o. subst (Contains (pages b.tree)) (let z : q ≡ 0 + q = omega arith in z)
    (contains_of q (pages b.tree)
    ((b.owned q).0 (subst (λ (x : Sheets). IsOwned place.owner x q) same o)))) in
    let few = tree_few (bytes_at s) b.tree b.whole.stands b.whole.ordered in
    let many = map_many ground place s m b in
    omega (arith, listed, few, many)
listed_few ground place s t m b (inr c) =
    let all = c.0 ∷ pages b.tree in
    let listed = count_listed t.owners place.owner 0 all
    (λ q o. subst (Contains all) (let z : q ≡ 0 + q = omega arith in z)
    (contains_of q all (elim ((claimed_owned c.0 place.owner ground s t c.1 q).0 o)
    [ inl e ↦ inl e | inr i ↦ inr ((b.owned q).0 i) ]))) in
    let few = tree_few (bytes_at s) b.tree b.whole.stands b.whole.ordered in
    let many = map_many ground place s m b in
    omega (arith, listed, few, many)
