-- Leaves over a journal whose pages hold these maps.
use Rattle.std.proofs.Common.{◌≡◌, ◌+◌, ℕ, List, length, IsTrue, sym, ap, subst, ◌∙◌}
use Rattle.std.specs.Prelude.{Result, Ok, Err, IfOk}
use Rattle.gx_device.specs.declared.device.Device as device
use Rattle.gx_ports.specs.declared.page_view.PageView as page_view
use Rattle.gx_ports.specs.declared.kinds.LeafSpec.{LeafSpec}
use Rattle.gx_ports.specs.declared.pages.Place.{Place}
use Rattle.gx_ports.specs.LeafMaps.{LeafMap}
use Rattle.gx_ports.specs.Sheets.{Sheets, Ground}
use Rattle.gx_layout.specs.Layout.{head_blocks, table_pages, pages_of, head_of}
use Rattle.gx_layout.specs.Recovered.{replayed_pages}
use Rattle.gx_leaves.specs.Places.{places_of}
use Rattle.gx_leaves.specs.Wholeness.{AreLaid, maps_of}
use Rattle.gx_leaves.specs.declared.paged.PagedLeaves.{PagedLeaves}
use Rattle.gx_pages.specs.declared.paged.Paged.{Paged}
use Rattle.gx_pages.specs.Owners.{sheets_of}
use Rattle.gx_journal.specs.declared.journal.Journal.{Journal}
use Rattle.gx_journal.specs.Journal.{Keeps, IsSteady, working_of, kept_of}
use Rattle.gx_pages.specs.View.{journal_of}
use Rattle.gx_pages.specs.Paged.{ground_of, kept_sheets, working_sheets}
use Rattle.gx_leaves.specs.Paged as leaves
use Rattle.gx_store.specs.Device.{AreMaps, ground_on}
use Rattle.gx_store.specs.Store.{HoldsMaps, IsJustOpened}

pub if_ok_both : {T E : Type 0} (r : Result T E) (P Q R : T → Type 0) → ((x : T) → P x → Q x → R x)
    → IfOk r P → IfOk r Q → IfOk r R
if_ok_both (Ok x) P Q R f p q = f x p q
if_ok_both (Err e) P Q R f p q = tt

-- what each has where something holds beside it
pub if_ok_later : {T E : Type 0} (r : Result T E) (X : Type 0) (P : T → Type 0)
    → (X → IfOk r P) → IfOk r (λ x. X → P x)
if_ok_later (Ok x) X P f = λ is. f is
if_ok_later (Err e) X P f = tt

module _ (base : Ground) (specs : List LeafSpec) (maps : List LeafMap) (sheets : Sheets)
    (are : AreMaps base specs maps sheets) where
  pub laid_at : (b : Ground) (ps : List Place) (x : Sheets) → b ≡ base → ps ≡ places_of base specs
      → x ≡ sheets → AreLaid b ps x
  laid_at b ps x eb ep ex =
      subst (λ (y : Sheets). AreLaid b ps y) (sym ex)
      (subst (λ (p : List Place). AreLaid b p sheets) (sym ep)
      (subst (λ (c : Ground). AreLaid c (places_of base specs) sheets) (sym eb) are.laid))

  pub maps_at : (b : Ground) (ps : List Place) (x : Sheets) → b ≡ base → ps ≡ places_of base specs
      → x ≡ sheets → maps_of b ps x ≡ maps
  maps_at b ps x eb ep ex =
      ap (λ (y : Sheets). maps_of b ps y) ex
      ∙ ap (λ (p : List Place). maps_of b p sheets) ep
      ∙ ap (λ (c : Ground). maps_of c (places_of base specs) sheets) eb
      ∙ are.maps_are

  module _ {M : Type 0} {g : device.Ghosts M} {v : page_view.Ghosts (Paged M g)}
      (s : PagedLeaves (Paged M g) v) where
    pub holds_maps : IsTrue v.tells → v.steady s.pages → v.ground s.pages ≡ base
        → v.working s.pages ≡ sheets → v.kept s.pages ≡ sheets
        → s.places.items ≡ places_of base specs → HoldsMaps maps s
    holds_maps told steady ground working kept places = record {
      working = maps_at (v.ground s.pages) s.places.items (v.working s.pages) ground places working;
      kept = maps_at (v.ground s.pages) s.places.items (v.kept s.pages) ground places kept;
      whole = record {
        told = told;
        settled = steady;
        laid = laid_at (v.ground s.pages) s.places.items
            (v.working s.pages) ground places working;
      };
      was_whole =
          record {
            told = told;
            settled = steady;
            laid = laid_at (v.ground s.pages) s.places.items
                (v.kept s.pages) ground places kept;
          };
    }

-- where the numbers and the head are those of the blocks, so is the ground
pub ground_same : (blocks : List (List ℕ)) (size count : ℕ) (head : List (List ℕ))
    → size ≡ pages_of (length blocks) → count ≡ length blocks
    → head ≡ head_of blocks
    → ground_on blocks ≡ record {
      size = size;
      tables = table_pages count;
      blocks = count;
      first = head_blocks count + size;
      head = head;
    }
ground_same blocks size count head e n h =
    let es = sym e in
    let ns = sym n in
    let hs = sym h in
    λ i. record {
      size = es i;
      tables = table_pages (ns i);
      blocks = ns i;
      first = head_blocks (ns i) + es i;
      head = hs i;
    }

-- the maps of blocks as a journal over them has them
pub maps_opened : (blocks : List (List ℕ)) (specs : List LeafSpec) (maps : List LeafMap)
    (size count : ℕ) (head pages : List (List ℕ))
    → size ≡ pages_of (length blocks) → count ≡ length blocks → head ≡ head_of blocks
    → pages ≡ replayed_pages blocks
    → AreMaps (ground_on blocks) specs maps (sheets_of (replayed_pages blocks))
    → AreMaps (record {
      size = size;
      tables = table_pages count;
      blocks = count;
      first = head_blocks count + size;
      head = head;
    })
    specs maps (sheets_of pages)
maps_opened blocks specs maps size count head pages es en eh ep are =
    subst (λ (ps : List (List ℕ)). AreMaps
    (record {
      size = size;
      tables = table_pages count;
      blocks = count;
      first = head_blocks count + size;
      head = head;
    }) specs
    maps
    (sheets_of ps)) (sym ep)
    (subst (λ (b : Ground). AreMaps b specs maps (sheets_of (replayed_pages blocks)))
    (ground_same blocks size count head es en eh) are)

module _ {M : Type 0} {g : device.Ghosts M} where
  pub ground_kept : (j k : Journal M g) → Keeps j k → ground_of k ≡ ground_of j
  ground_kept j k keeps =
      let s = keeps.size in
      let n = keeps.blocks in
      let h = keeps.head in
      λ i. record {
        size = s i;
        tables = table_pages (n i);
        blocks = n i;
        first = head_blocks (n i) + s i;
        head = h i;
      }

  module _ {v : page_view.Ghosts (Paged M g)} where
    -- what leaves hold that have been made
    pub made_maps : (s : PagedLeaves (Paged M g) v) (base : Ground) (specs : List LeafSpec)
        (maps : List LeafMap) → v.ground s.pages ≡ base
        → s.places.items ≡ places_of base specs → leaves.working_of s ≡ maps → leaves.IsWhole s
        → AreMaps base specs maps (v.working s.pages)
    made_maps s base specs maps ground places working whole = record {
      laid = subst (λ (b : Ground). AreLaid b (places_of base specs) (v.working s.pages)) ground
          (subst (λ (ps : List Place). AreLaid (v.ground s.pages) ps (v.working s.pages)) places
          whole.laid);
      maps_are = ap (λ (b : Ground). maps_of b (places_of base specs) (v.working s.pages))
          (sym ground)
          ∙ ap (λ (ps : List Place). maps_of (v.ground s.pages) ps (v.working s.pages)) (sym places)
          ∙ working;
    }

  -- the leaves that are adopted over a journal at rest hold what it holds
  module _ {v : page_view.Ghosts (Paged M g)}
      (grounds : (p : Paged M g) → v.ground p ≡ ground_of (journal_of p))
      (works : (p : Paged M g) → v.working p ≡ working_sheets (journal_of p))
      (keeps_sheets : (p : Paged M g) → v.kept p ≡ kept_sheets (journal_of p))
      (steadies : (p : Paged M g) → IsSteady (journal_of p) → v.steady p) where
    pub adopted : IsTrue v.tells → (j k : Journal M g) → Keeps j k → working_of k ≡ working_of j
        → working_of j ≡ kept_of j → IsSteady j
        → (specs : List LeafSpec) (maps : List LeafMap)
        → AreMaps (ground_of j) specs maps (kept_sheets j)
        → (s : PagedLeaves (Paged M g) v) → journal_of (leaves.pages_of s) ≡ k
        → leaves.places_in s ≡ places_of (ground_of k) specs
        → HoldsMaps maps s
    adopted told j k keeps same kept steady specs maps are s is places =
        holds_maps (ground_of j) specs maps (kept_sheets j) are s told
        (steadies s.pages (ap (λ (x : Journal M g). x.failed) is ∙ keeps.steady ∙ steady))
        (grounds s.pages ∙ ap ground_of is ∙ ground_kept j k keeps)
        (works s.pages ∙ ap working_sheets is ∙ ap sheets_of (same ∙ kept))
        (keeps_sheets s.pages ∙ ap kept_sheets is ∙ ap sheets_of keeps.kept)
        (places ∙ ap (λ (b : Ground). places_of b specs) (ground_kept j k keeps))

    -- and they are as at the last commit
    pub adopted_just : (j k : Journal M g) → Keeps j k → working_of k ≡ working_of j
        → working_of j ≡ kept_of j → IsSteady j
        → (s : PagedLeaves (Paged M g) v) → journal_of (leaves.pages_of s) ≡ k → IsJustOpened s
    adopted_just j k keeps same kept steady s is =
        let sheets : v.working s.pages ≡ v.kept s.pages =
        works s.pages ∙ ap working_sheets is ∙ ap sheets_of (same ∙ kept ∙ sym keeps.kept)
        ∙ sym (ap kept_sheets is)
        ∙ sym (keeps_sheets s.pages) in
        record {
          steady = steadies s.pages (ap (λ (x : Journal M g). x.failed) is ∙ keeps.steady ∙ steady);
          kept_is = ap (λ (x : Sheets). maps_of (v.ground s.pages) s.places.items x) (sym sheets);
          was_whole = λ whole. record {
            told = whole.told;
            settled = whole.settled;
            laid = subst (λ (x : Sheets). AreLaid (v.ground s.pages) s.places.items x) sheets
                whole.laid;
          };
        }
