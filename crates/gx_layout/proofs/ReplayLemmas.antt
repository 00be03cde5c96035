-- The pages that recovery finds, and calm at rest.
use Rattle.std.proofs.Common.{◌≡◌, ℕ, ◌+◌, ◌*◌, ◌<◌, ◌≤◌, false, subst, List, [], length, get_or, take, drop, refl, sym, ◌∙◌, ap, arith, length-take, length-drop}
use Rattle.std.proofs.lemmas.List.{same_lists, get_or-take, get_or-drop, get_or_default}
use Rattle.std.proofs.lemmas.List.FromFn.{get_or-map-range_with_len, length-map-range_with_len}
use Rattle.gx_device.specs.Content.{Moment, Content, NonePending, block_of}
use Rattle.gx_layout.specs.Layout.{View, Replays, ReadsAs, Fits, AtRest, bitmap_blocks, head_blocks, pages_of, most_pages, replayed, home, head_of, is_open}
use Rattle.gx_layout.specs.Calm.{Calm, kept_view}
use Rattle.gx_layout.specs.CalmLaws.{calm_now}
use Rattle.gx_layout.specs.Recovered.{replayed_pages, view_now}

pub length-replayed : (blocks : List (List ℕ))
    → length (replayed_pages blocks) ≡ pages_of (length blocks)
length-replayed blocks =
    length-map-range_with_len (replayed (pages_of (length blocks)) blocks) 0
    (pages_of (length blocks))

replays : (blocks : List (List ℕ)) → Replays blocks (replayed_pages blocks)
replays blocks =
    let P = pages_of (length blocks) in
    record {
      count = length-replayed blocks;
      each = λ p below.
          ap (λ (n : ℕ). replayed n blocks p) (length-replayed blocks)
          ∙ sym (get_or-map-range_with_len (replayed P blocks) 0 P p p []
          (omega (arith, below, length-replayed blocks)) (omega arith));
    }

pub reads_replayed : (c : Content) → ReadsAs c.now (view_now (replayed_pages c.now.blocks) c)
reads_replayed c =
    record { size = refl; pages = replays c.now.blocks; head = refl; said = refl; shelf = refl }

-- the homes of so many pages, where the blocks past the head are as many
pub homes_long : (P : ℕ) (blocks : List (List ℕ))
    → head_blocks (length blocks) + 2 * P ≤ length blocks
    → length (take P (drop (home (length blocks) P 0) blocks)) ≡ P
homes_long P blocks room =
    let base = home (length blocks) P 0 in
    omega (arith, length-take P (drop base blocks), length-drop base blocks, room)

-- page p of them
home_at : (P : ℕ) (blocks : List (List ℕ)) (k : ℕ) (d : List ℕ) → k < P
    → head_blocks (length blocks) + 2 * P ≤ length blocks
    → get_or (take P (drop (home (length blocks) P 0) blocks)) k d
    ≡ get_or blocks (home (length blocks) P k) []
home_at P blocks k d under room =
    let base = home (length blocks) P 0 in
    get_or-take P (drop base blocks) k d under ∙ get_or-drop base blocks k d
    ∙ get_or_default blocks (base + k) d [] (omega (arith, under, room))
    ∙ ap (λ (n : ℕ). get_or blocks n []) (omega arith)

-- at rest the homes are the pages
pub rest_homes : (m : Moment) (v : View) (P : ℕ) → length v.pages ≡ P
    → head_blocks (length m.blocks) + 2 * P ≤ length m.blocks → AtRest m v
    → take P (drop (home (length m.blocks) P 0) m.blocks) ≡ v.pages
rest_homes m v P count room rest =
    let homes = take P (drop (home (length m.blocks) P 0) m.blocks) in
    let long : length homes ≡ P = homes_long P m.blocks room in
    same_lists homes v.pages (long ∙ sym count) (λ k d lt.
    let under : k < P = omega (arith, long, lt) in
    home_at P m.blocks k d under room
    ∙ ap (λ (n : ℕ). get_or m.blocks n [])
    (omega (arith, count, ap bitmap_blocks rest.fits.size))
    ∙ (rest.homes k (omega (arith, under, count))).reads
    ∙ get_or_default v.pages k [] d (omega (arith, under, count)))

-- where it is at rest with some pages, it is calm from now on with the pages at home
pub rest_calm : (c : Content) (v : View) (P : ℕ) → length v.pages ≡ P
    → head_blocks (length c.now.blocks) + 2 * P ≤ length c.now.blocks → AtRest c.now v
    → Calm c (kept_view P c) c
rest_calm c v P count room rest =
    let sized : AtRest c.now (record {
      size = length c.now.blocks;
      pages = v.pages;
      head = v.head;
      said = v.said;
      shelf = v.shelf;
    }) =
    subst (λ (n : ℕ). AtRest c.now (record {
      size = n;
      pages = v.pages;
      head = v.head;
      said = v.said;
      shelf = v.shelf;
    })) (sym rest.fits.size) rest in
    let own : Fits c.now (record {
      size = length c.now.blocks;
      pages = v.pages;
      head = head_of c.now.blocks;
      said = c.now.said;
      shelf = c.now.shelf;
    }) =
    record {
      size = refl;
      count = sized.fits.count;
      few = sized.fits.few;
      room = sized.fits.room;
      head_kept = sized.fits.head_kept;
      head = refl;
      said = refl;
      shelf = refl;
    } in
    calm_now (kept_view P c) c
    (subst (λ (pages : List (List ℕ)). AtRest c.now (record {
      size = length c.now.blocks;
      pages = pages;
      head = head_of c.now.blocks;
      said = c.now.said;
      shelf = c.now.shelf;
    }))
    (sym (rest_homes c.now v P count room rest))
    (record { fits = own; gate_kept = rest.gate_kept; gate = rest.gate; homes = sized.homes }))
    refl

-- where nothing is pending, behind a closed gate
pub closed_calm : (c : Content) (P : ℕ) → P ≡ pages_of (length c.now.blocks)
    → P ≤ most_pages (length c.now.blocks) → head_blocks (length c.now.blocks) ≤ length c.now.blocks
    → NonePending c → is_open (block_of c.now 1) ≡ false → Calm c (kept_view P c) c
closed_calm c P count few room none closed =
    let enough : head_blocks (length c.now.blocks) + 2 * P ≤ length c.now.blocks =
    omega (arith, count, room) in
    let long : length (kept_view P c).pages ≡ P = homes_long P c.now.blocks enough in
    calm_now (kept_view P c) c (record {
      fits = record {
        size = refl;
        count = long ∙ count;
        few = omega (arith, few, long);
        room = room;
        head_kept = λ n is. none n;
        head = refl;
        said = refl;
        shelf = refl;
      };
      gate_kept = none 1;
      gate = closed;
      homes = λ p below. record {
        kept = none (home (length c.now.blocks) (length (kept_view P c).pages) p);
        reads = ap (λ (n : ℕ). get_or c.now.blocks (home (length c.now.blocks) n p) []) long
            ∙ sym (home_at P c.now.blocks p [] (omega (arith, below, long)) enough);
      };
    }) refl

-- the homes stay where the blocks past the head do
pub homes_apart : (P : ℕ) (xs ys : List (List ℕ)) → length ys ≡ length xs
    → ((n : ℕ) → head_blocks (length xs) ≤ n → get_or ys n [] ≡ get_or xs n [])
    → take P (drop (home (length ys) P 0) ys) ≡ take P (drop (home (length xs) P 0) xs)
homes_apart P xs ys count same =
    let base = home (length xs) P 0 in
    let long = length-take P (drop base ys) in
    let wide = length-take P (drop base xs) in
    let down = length-drop base ys in
    let over = length-drop base xs in
    ap (λ (n : ℕ). take P (drop (home n P 0) ys)) count
    ∙ same_lists (take P (drop base ys)) (take P (drop base xs))
    (omega (arith, long, wide, down, over, count)) (λ k d lt.
    let under : k < P = omega (arith, long, lt) in
    let within : base + k < length ys = omega (arith, long, down, lt) in
    get_or-take P (drop base ys) k d under ∙ get_or-drop base ys k d
    ∙ get_or_default ys (base + k) d [] within
    ∙ same (base + k) (omega arith)
    ∙ get_or_default xs (base + k) [] d (omega (arith, within, count))
    ∙ sym (get_or-drop base xs k d)
    ∙ sym (get_or-take P (drop base xs) k d under))
