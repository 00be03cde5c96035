-- What a journal at rest leaves on its device.
use Rattle.std.proofs.Common.{◌≡◌, inl, inr, ℕ, ◌+◌, ◌*◌, ◌<◌, ◌≤◌, Bool, false, List, [], ◌∷◌, map, length, get_or, take, drop, IsTrue, refl, sym, ap, subst, ◌∙◌, arith}
use Rattle.std.specs.Prelude.{nat_lt, nat_le}
use Rattle.std.proofs.lemmas.Bool.{cases_lt, and_parts, leb-true}
use Rattle.std.proofs.lemmas.List.Sums.{sum_by-cons}
use Rattle.std.proofs.lemmas.List.{same_lists, get_or-take, get_or-drop, get_or_default}
use Rattle.std.proofs.lemmas.List.FromFn.{get_or-map-range_with_len}
use Rattle.gx_device.specs.Content.{Content, block_of}
use Rattle.gx_ports.specs.declared.kinds.LeafSpec.{LeafSpec}
use Rattle.gx_ports.specs.LeafMaps.{LeafMap}
use Rattle.gx_ports.specs.declared.kinds.LeafKind.{LeafKind}
use Rattle.gx_ports.specs.declared.kinds.LeafKind.TheVariants as kinds
use Rattle.gx_ports.specs.declared.kinds.TheConstants.{MAX_LEAVES}
use Rattle.gx_ports.specs.Roots.{roots_of_kind, roots_of, root_pages}
use Rattle.gx_leaves.specs.Kinds.{is_built, are_built}
use Rattle.gx_ports.specs.Sheets.{Ground}
use Rattle.gx_layout.specs.Layout.{first_text, head_blocks, table_pages, pages_of, head_of, home, is_open, replayed}
use Rattle.gx_layout.specs.PlaceLaws.{one_bitmap, eight_bitmaps, few_bitmaps}
use Rattle.gx_layout.specs.PhaseLaws.{shut}
use Rattle.gx_layout.specs.Recovered.{replayed_pages}
use Rattle.gx_layout.specs.Head.{HasMagic, text_at, text_area, text_blocks, block_in}
use Rattle.gx_layout.proofs.ReplayLemmas.{length-replayed, homes_long}
use Rattle.gx_layout.proofs.TextLemmas.{more_same}
use Rattle.gx_journal.specs.State.{homes_told, head_told}
use Rattle.gx_journal.specs.Opening.{IsDeviceSize}
use Rattle.gx_pages.specs.Owners.{sheets_of}
use Rattle.gx_store.specs.Device.{smallest_device, IsSize, AreMaps, AreTexts, IsDatabase, IsSettled, Reopens, home_pages, ground_on}
use Rattle.gx_layout.specs.declared.places.TheConstants.{FIRST_MOST, MAX_BLOCKS}
use Rattle.gx_store.proofs.GroundLemmas.{maps_moved}

-- the text blocks of a device, byte by byte
pub texts_read : (c : Content) (schema equation : List ℕ)
    → drop 1 (head_of c.now.blocks) ≡ text_blocks schema equation
    → AreTexts schema equation (head_of c.now.blocks)
texts_read c schema equation is =
    let area = text_area schema equation in
    let m = c.now in
    let f = first_text (length m.blocks) in
    let e0 : block_of m f ≡ block_in area 0 = ap (λ (l : List (List ℕ)). get_or l 0 []) is in
    let e1 : block_of m (f + 1) ≡ block_in area 1 = ap (λ (l : List (List ℕ)). get_or l 1 []) is in
    let e2 : block_of m (f + 2) ≡ block_in area 2 = ap (λ (l : List (List ℕ)). get_or l 2 []) is in
    let e3 : block_of m (f + 3) ≡ block_in area 3 = ap (λ (l : List (List ℕ)). get_or l 3 []) is in
    let none : (q : ℕ) → q < 4096 * 0 → text_at (head_of m.blocks) q ≡ get_or area q 0 =
    λ q low. absurd (omega (arith, low)) in
    let here : block_of m f ≡ block_of m (f + 0) = ap (λ (n : ℕ). block_of m n) (omega arith) in
    let t0 = more_same m area 0 (omega arith) (block_of m f) (block_in area 0) here refl none
    (λ k lt. ap (λ (l : List ℕ). get_or l k 0) e0) in
    let t1 = more_same m area 1 (omega arith) (block_of m (f + 1)) (block_in area 1) refl refl t0
    (λ k lt. ap (λ (l : List ℕ). get_or l k 0) e1) in
    let t2 = more_same m area 2 (omega arith) (block_of m (f + 2)) (block_in area 2) refl refl t1
    (λ k lt. ap (λ (l : List ℕ). get_or l k 0) e2) in
    more_same m area 3 (omega arith) (block_of m (f + 3)) (block_in area 3) refl refl t2
    (λ k lt. ap (λ (l : List ℕ). get_or l k 0) e3)

-- behind a closed gate the pages are those at home
pub home_replayed : (blocks : List (List ℕ)) → head_blocks (length blocks) ≤ length blocks
    → is_open (get_or blocks 1 []) ≡ false
    → home_pages blocks ≡ replayed_pages blocks
home_replayed blocks room gate =
    let P = pages_of (length blocks) in
    let base = home (length blocks) P 0 in
    let homes = home_pages blocks in
    let long : length homes ≡ P = homes_long P blocks (omega (arith, room)) in
    same_lists homes (replayed_pages blocks) (long ∙ sym (length-replayed blocks)) (λ k d lt.
    let under : k < P = omega (arith, long, lt) in
    get_or-take P (drop base blocks) k d under ∙ get_or-drop base blocks k d
    ∙ get_or_default blocks (base + k) d [] (omega (arith, under, room))
    ∙ ap (λ (n : ℕ). get_or blocks n []) (omega arith)
    ∙ sym (shut P blocks k gate)
    ∙ sym (get_or-map-range_with_len (replayed P blocks) 0 P k k d under (omega arith)))

-- a device with room for leaves has room for the blocks before its pages
pub fits_head : (specs : List LeafSpec) (size : ℕ) → IsSize specs size → head_blocks size ≤ size
fits_head specs size is =
    let least = is.least in
    let first = one_bitmap 0 (omega arith) in
    elim (cases_lt FIRST_MOST size) [
      | inl many ↦ omega (arith, many, few_bitmaps size)
      | inr few ↦ omega (arith, least, one_bitmap size few, first)
    ]

pub sized_device : (specs : List LeafSpec) (size : ℕ) → IsSize specs size → IsDeviceSize size
sized_device specs size is =
    let least = is.least in
    let first = one_bitmap 0 (omega arith) in
    record { least = omega (arith, least, first); most = is.most }

-- so a device that is settled is opened with the same maps
pub settled_reopens : (schema equation : List ℕ) (specs : List LeafSpec) (maps : List LeafMap)
    (blocks : List (List ℕ))
    → IsSettled schema equation specs maps blocks → Reopens schema equation specs maps blocks
settled_reopens schema equation specs maps blocks is =
    subst (λ (pages : List (List ℕ)). IsDatabase schema equation specs maps blocks pages)
    (home_replayed blocks (fits_head specs (length blocks) is.database.size) is.gate)
    is.database

-- the kept pages are those at home
pub homes_are : (tells : Bool) (P : ℕ) (c : Content) → IsTrue tells
    → P ≡ pages_of (length c.now.blocks)
    → homes_told tells P c ≡ home_pages c.now.blocks
homes_are tells P c told many = ap (λ (b : Bool). homes_told b P c) told
    ∙ ap (λ (n : ℕ). take n (drop (home (length c.now.blocks) n 0) c.now.blocks)) many

-- where there is room for leaves among the pages
pub sized_for : (specs : List LeafSpec) (P size : ℕ) → size ≤ MAX_BLOCKS
    → table_pages size + root_pages specs ≤ P → P ≡ pages_of size → IsSize specs size
sized_for specs P size most least many =
    let first = one_bitmap 0 (omega arith) in
    let enough : smallest_device specs ≤ size = elim (cases_lt FIRST_MOST size) [
      | inl large ↦ omega (arith, least, many, eight_bitmaps size large, first)
      | inr small ↦ omega (arith, least, many, one_bitmap size small, first)
    ] in
    record { least = enough; most = most }

-- a leaf has at most 64 root pages
few_roots : (kind : LeafKind) → IsTrue (is_built kind) → roots_of_kind kind ≤ 64
few_roots kinds.Heap built = omega arith
few_roots (kinds.Hash buckets) built =
    leb-true buckets 64 (and_parts (nat_lt 0 buckets) (nat_le buckets 64) built).1
few_roots kinds.Isam built = omega arith
few_roots kinds.Bplus built = omega arith

few_root_pages : (specs : List LeafSpec) → IsTrue (are_built specs)
    → root_pages specs ≤ 64 * length specs
few_root_pages [] built = omega arith
few_root_pages (spec ∷ specs) built =
    let parts = and_parts (is_built spec.kind) (are_built specs) built in
    let front = few_roots spec.kind parts.0 in
    let rest = few_root_pages specs parts.1 in
    let whole = sum_by-cons (λ (n : ℕ). n) (roots_of spec) (map roots_of specs) in
    omega (arith, front, rest, whole)

-- a device of the second layout has room for all leaves that a database may have
pub rooms : (specs : List LeafSpec) (size P : ℕ) → length specs ≤ MAX_LEAVES
    → IsTrue (are_built specs) → IsSize specs size → P ≡ pages_of size
    → table_pages size + root_pages specs ≤ P
rooms specs size P few built is many =
    let least = is.least in
    let first = one_bitmap 0 (omega arith) in
    let roots = few_root_pages specs built in
    elim (cases_lt FIRST_MOST size) [
      | inl large ↦ omega (arith, few, roots, large, many, eight_bitmaps size large)
      | inr small ↦ omega (arith, least, many, one_bitmap size small, first)
    ]

-- Behind a closed gate the blocks hold what the kept pages hold.
pub closed_settled : (schema equation : List ℕ) (specs : List LeafSpec) (maps : List LeafMap)
    (tells : Bool) (P : ℕ) (c : Content)
    → IsTrue tells
    → P ≡ pages_of (length c.now.blocks) → is_open (block_of c.now 1) ≡ false
    → length c.now.blocks ≤ MAX_BLOCKS
    → table_pages (length c.now.blocks) + root_pages specs ≤ P
    → HasMagic (length c.now.blocks) (get_or (head_told tells c) 0 []) → AreTexts schema equation (head_told tells c)
    → (base : Ground) → base.size ≡ P
    → base.tables ≡ table_pages (length c.now.blocks)
    → AreMaps base specs maps (sheets_of (homes_told tells P c))
    → IsSettled schema equation specs maps c.now.blocks
closed_settled schema equation specs maps tells P c told many gate most least magic texts base size
    tables are =
    let head : head_told tells c ≡ head_of c.now.blocks = ap (λ (b : Bool). head_told b c) told in
    record {
      gate = gate;
      database = record {
        size = sized_for specs P (length c.now.blocks) most least many;
        magic = subst (λ (h : List (List ℕ)). HasMagic (length c.now.blocks) (get_or h 0 [])) head magic;
        texts = subst (λ (h : List (List ℕ)). AreTexts schema equation h) head texts;
        leaves = maps_moved base (ground_on c.now.blocks) (size ∙ many) tables specs maps
            (sheets_of (home_pages c.now.blocks))
            (subst (λ (ps : List (List ℕ)). AreMaps base specs maps (sheets_of ps))
            (homes_are tells P c told many) are);
      };
    }
