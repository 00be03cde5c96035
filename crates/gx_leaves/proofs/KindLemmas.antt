-- Files by the kind of their place.
use Rattle.std.proofs.Common.{◌≡◌, ◌≢◌, ◌<◌, ◌≤◌, refl, sym, IsTrue, ℕ, subst}
use Rattle.gx_ports.specs.declared.kinds.LeafKind.{LeafKind}
use Rattle.gx_ports.specs.declared.kinds.LeafKind.TheVariants as kinds
use Rattle.gx_ports.specs.declared.pages.Place.{Place}
use Rattle.gx_ports.specs.LeafMaps.{LeafMap}
use Rattle.gx_ports.specs.Sheets.{Ground, Sheets}
use Rattle.gx_ports.specs.Files.{IsPlace, AreFileLaws, SameFor}
use Rattle.gx_btree.specs.Bplus.{IsBplus}
use Rattle.gx_btree.proofs.BplusLaws.{bplus_laws}
use Rattle.gx_heap.specs.Heap.{IsHeap}
use Rattle.gx_heap.proofs.HeapLaws.{heap_laws}
use Rattle.std.specs.Prelude.{nat_lt, nat_le}
use Rattle.std.proofs.lemmas.Bool.{ltb-true, and_parts}
use Rattle.gx_hash.specs.Buckets.{IsHashed}
use Rattle.gx_hash.specs.Hash.{IsHash}
use Rattle.gx_hash.proofs.PagesLemmas.{hash_laws}
use Rattle.gx_isam.specs.Fresh.{IsFresh}
use Rattle.gx_isam.specs.Isam.{IsIsam}
use Rattle.gx_isam.proofs.FreshLemmas.{fresh_same}
use Rattle.gx_isam.proofs.LawLemmas.{isam_laws}
use Rattle.gx_leaves.specs.Kinds.{is_built, IsFileOf, IsFileAt, IsFreshOf, map_of, map_in}

-- the file at a heap's place is a heap
pub heap_is : (base : Ground) (place : Place) → place.spec.kind ≡ kinds.Heap
    → IsHeap base place ≡ IsFileAt base place
heap_is base place e = λ i. IsFileOf (sym e i) base place

-- and the one at a tree's place a tree
pub bplus_is : (base : Ground) (place : Place) → place.spec.kind ≡ kinds.Bplus
    → IsBplus base place ≡ IsFileAt base place
bplus_is base place e = λ i. IsFileOf (sym e i) base place

-- and the one at a hashed leaf's place a hashed file
pub hash_is : (base : Ground) (place : Place) (buckets : ℕ) → place.spec.kind ≡ kinds.Hash buckets
    → IsHash base place ≡ IsFileAt base place
hash_is base place buckets e = λ i. IsFileOf (sym e i) base place

-- and the one at an indexed sequential leaf's place an indexed sequential file
pub isam_is : (base : Ground) (place : Place) → place.spec.kind ≡ kinds.Isam
    → IsIsam base place ≡ IsFileAt base place
isam_is base place e = λ i. IsFileOf (sym e i) base place

-- it is fresh where that is
pub fresh_is : (place : Place) → place.spec.kind ≡ kinds.Isam
    → IsFresh place ≡ IsFreshOf place.spec.kind place
fresh_is place e = λ i. IsFreshOf (sym e i) place

-- a file of another kind is fresh
pub fresh_as_ever : (kind : LeafKind) (place : Place) (sheets : Sheets) (map : LeafMap)
    → kind ≢ kinds.Isam → IsFreshOf kind place sheets map
fresh_as_ever kinds.Heap place sheets map other = tt
fresh_as_ever (kinds.Hash buckets) place sheets map other = tt
fresh_as_ever kinds.Isam place sheets map other = absurd (other refl)
fresh_as_ever kinds.Bplus place sheets map other = tt

-- its pages decide
fresh_kind : (base : Ground) (place : Place) (kind : LeafKind) → base.tables ≤ place.root
    → (old new : Sheets) (held map : LeafMap) → SameFor base place.owner old new
    → IsFileOf kind base place old held → IsFreshOf kind place old map
    → IsFreshOf kind place new map
fresh_kind base place kinds.Heap past old new held map same file fresh = tt
fresh_kind base place (kinds.Hash buckets) past old new held map same file fresh = tt
fresh_kind base place kinds.Isam past old new held map same file fresh =
    fresh_same base place old new held map past same file fresh
fresh_kind base place kinds.Bplus past old new held map same file fresh = tt

pub fresh_with : (base : Ground) (place : Place) → base.tables ≤ place.root
    → (old new : Sheets) (held map : LeafMap) → SameFor base place.owner old new
    → IsFileAt base place old held → IsFreshOf place.spec.kind place old map
    → IsFreshOf place.spec.kind place new map
fresh_with base place = fresh_kind base place place.spec.kind

some_chain : (buckets : ℕ) → IsTrue (is_built (kinds.Hash buckets)) → 0 < buckets
some_chain buckets built =
    ltb-true 0 buckets (and_parts (nat_lt 0 buckets) (nat_le buckets 64) built).0

-- of at least one chain
pub hashed : (place : Place) (buckets : ℕ) → place.spec.kind ≡ kinds.Hash buckets
    → IsTrue (is_built place.spec.kind) → IsHashed place.spec.kind
hashed place buckets e built =
    subst IsHashed (sym e) (some_chain buckets
    (subst (λ (k : LeafKind). IsTrue (is_built k)) e built))

-- each kind that is built keeps the laws of files
laws_of : (base : Ground) (place : Place) (kind : LeafKind) → place.spec.kind ≡ kind
    → IsTrue (is_built kind) → IsPlace base place
    → AreFileLaws base place (IsFileOf kind base place) (map_of kind base place)
laws_of base place kinds.Heap e built is = heap_laws base place e is
laws_of base place (kinds.Hash buckets) e built is =
    hash_laws base place (subst IsHashed (sym e) (some_chain buckets built)) is
laws_of base place kinds.Isam e built is = isam_laws base place e is
laws_of base place kinds.Bplus e built is = bplus_laws base place e is

pub file_laws : (base : Ground) (place : Place) → IsTrue (is_built place.spec.kind)
    → IsPlace base place → AreFileLaws base place (IsFileAt base place) (map_in base place)
file_laws base place built is = laws_of base place place.spec.kind (λ i. place.spec.kind) built is
