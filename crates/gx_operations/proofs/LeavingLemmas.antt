-- What a crash leaves while the workload is played on a device that is made.
use Rattle.std.proofs.Common.{◌≡◌, ◌∙◌, inl, inr, ℕ, Bool, false, List, length, replicate, Option, Result, Ok, Err, refl, sym, ap, subst}
use Rattle.std.specs.Prelude.{◌⊎◌, OnOk}
use Rattle.std.specs.FinMap.{empty}
use Rattle.gx_device.specs.Content.{Moment, Content, Shelf, Silent}
use Rattle.gx_device.specs.Crash.{Image, EachImage, LeavesOnly}
use Rattle.gx_commands.specs.Lines.{script_lines}
use Rattle.gx_ports.specs.Calm.{IsStored, StandsForKept}
use Rattle.gx_ports.specs.Heads.{Head}
use Rattle.gx_ports.specs.LeafMaps.{LeafMap, Limits}
use Rattle.gx_ports.specs.declared.view.View.{Ghosts}
use Rattle.gx_ports.specs.declared.kinds.LeafSpec.{LeafSpec}
use Rattle.gx_schema.specs.declared.schema.Schema.{Schema}
use Rattle.gx_types.specs.declared.built.Built.{Built}
use Rattle.gx_model.specs.Play.{start_at}
use Rattle.gx_model.specs.States.{State, empty_state}
use Rattle.gx_states.specs.Internal.{AreInternal}
use Rattle.gx_pages.specs.Paged.{StandsFor as PagesStandFor}
use Rattle.gx_leaves.specs.Wholeness.{IsLaid, StandsFor}
use Rattle.gx_store.specs.Crashes.{Unattached, IsOpeningImage, IsNewImage}
use Rattle.gx_store.specs.Device.{IsHeadOf, IsSize, Reopens, ground_on}
use Rattle.gx_store.specs.Making.{IsMadeBy, LeavesMaking}
use Rattle.gx_store.specs.declared.unopened.Unopened.{Unopened}
use Rattle.gx_store.proofs.AlikeLemmas.{reopens_alike}
use Rattle.gx_store.proofs.StoredLemmas.{stored_reopens}
use Rattle.gx_play.specs.declared.ending.Ending.{Ending}
use Rattle.gx_play.specs.declared.play.Answers.TheVariants as answers
use Rattle.gx_play.specs.Endings.{is_fault}
use Rattle.gx_play.specs.Images.{IsPlayImage}
use Rattle.gx_requests.specs.declared.opened.Stored.{Stored}
use Rattle.gx_work.specs.Schema.{work_schema}
use Rattle.gx_work.specs.Workload.{work_script}
use Rattle.gx_working.specs.Crashes.{HoldsState, LeavesWork}
use Rattle.gx_working.specs.Worked.{IsWorkedAs}
use Rattle.gx_operations.specs.Working.{IsHeldOf, IsWorkingImage, WorksThrough, EachReopens}
use Rattle.gx_operations.proofs.CrashLemmas.{reads_now, leaves_weaker, leaves_both}
use Rattle.gx_operations.proofs.MakeLemmas.{told_texts}

module _ (x : Stored) (records : ℕ) where
  abbrev Empties : List LeafMap
  Empties = replicate (length x.built.specs) empty

  abbrev IsEmpty : List (List ℕ) → Type 0
  IsEmpty = Reopens x.schema_text x.equation_text x.built.specs Empties

  abbrev Work : Moment → Image → Type 0
  Work = IsWorkingImage x records

  -- ---- it is opened

  -- an empty database is opened as one
  empty_image : (start : Moment) → EachImage (λ image. IsEmpty image.blocks) start
      → (image : Image) → IsOpeningImage start image → Work start image
  empty_image start each image (inl is) = record {
    is = inl (λ magic. each image is);
    said = is.said;
    shelf = is.shelf;
  }
  empty_image start each image (inr is) = record {
    is = inl (λ magic. reopens_alike x.schema_text x.equation_text x.built.specs Empties start.blocks
        image.blocks is.alike
        (each (record { blocks = start.blocks; said = start.said; shelf = start.shelf })
        (record { said = refl; shelf = refl; count = refl; same = λ n below firm. refl })));
    said = is.said;
    shelf = is.shelf;
  }

  pub opened_images : (old mid : Content) → EachImage (λ image. IsEmpty image.blocks) old.now
      → LeavesOnly (IsOpeningImage old.now) old mid → LeavesOnly (Work old.now) old mid
  opened_images old mid each run =
      leaves_weaker (IsOpeningImage old.now) (Work old.now) (empty_image old.now each) old mid run

  -- ---- it is played on

  pub played_images : (Holds : State → List (List ℕ) → Type 0)
      → ((s : State) (blocks : List (List ℕ)) → Holds s blocks → IsHeldOf x blocks s)
      → (old mid new : Content) → Silent old mid
      → LeavesOnly (Work old.now) old mid
      → LeavesOnly (IsPlayImage work_schema Holds answers.Kept (start_at (empty_state work_schema))
      (script_lines (work_script records)).lines mid.now) mid new
      → LeavesOnly (Work old.now) old new
  played_images Holds holds old mid new silent first run =
      leaves_both (Work old.now) old mid new first
      (leaves_weaker (IsPlayImage work_schema Holds answers.Kept
      (start_at (empty_state work_schema)) (script_lines (work_script records)).lines mid.now)
      (Work old.now)
      (λ image is. record {
        is = inr (record {
          answers = is.text;
          first = record {
            ran = is.ran;
            later = is.later;
            parts = is.parts;
            final = is.final;
            runs = is.runs;
          };
          holds = holds is.final.kept image.blocks is.holds;
        });
        said = is.up_to ∙ silent.said;
        shelf = is.shelf ∙ silent.shelf;
      }) mid new run)

  -- ---- it is made

  -- the same of a moment with the same said and the same others
  moved_images : (start mid : Moment) → mid.said ≡ start.said → mid.shelf ≡ start.shelf
      → (old new : Content) → LeavesOnly (Work mid) old new → LeavesOnly (Work start) old new
  moved_images start mid said shelf old new run =
      leaves_weaker (Work mid) (Work start)
      (λ image is. record { is = is.is; said = is.said ∙ said; shelf = is.shelf ∙ shelf }) old new
      run

  abbrev New : Moment → Image → Type 0
  New = IsNewImage x.schema_text x.equation_text x.built.specs Empties

  new_images : (start : Moment) (old new : Content) → LeavesOnly (New start) old new
      → LeavesOnly (Work start) old new
  new_images start old new run =
      leaves_weaker (New start) (Work start)
      (λ image is. record { is = inl is.is; said = is.said; shelf = is.shelf }) old new run

  pub through_made : (device : List ℕ) (count : ℕ) (old mid new : Content)
      → IsMadeBy device count x.schema_text x.equation_text x.built.specs old mid → Silent mid new
      → LeavesOnly (Work mid.now) mid new → WorksThrough x device count records old new
  through_made device count old mid new made silent run =
      let makes = made.makes in
      let middle = makes.middle in
      let reads = reads_now (New middle.now) middle mid makes.images in
      record {
        middle = middle;
        attached = makes.attached;
        fits = makes.fits;
        free = makes.free;
        none_pending = makes.none_pending;
        named = ap (λ (h : Shelf). h.name) silent.shelf ∙ makes.named;
        images = leaves_both (Work middle.now) middle mid new
            (new_images middle.now middle mid makes.images)
            (moved_images middle.now mid.now reads.said reads.shelf mid new run);
      }

  pub through_unmade : (device : List ℕ) (count : ℕ) (old new : Content)
      (r : Result (Unit {0}) Unopened)
      → LeavesMaking device count x.schema_text x.equation_text x.built.specs old new r
      → Unattached old new ⊎ WorksThrough x device count records old new
  through_unmade device count old new r left = elim left.crash [
    | inl still ↦ inl still
    | inr makes ↦ inr (record {
      middle = makes.middle;
      attached = makes.attached;
      fits = makes.fits;
      free = makes.free;
      none_pending = makes.none_pending;
      named = makes.named;
      images = new_images makes.middle.now makes.middle new makes.images;
    })
  ]

-- ---- the leaves that were played on

module _ {S : Type 0} {g : Ghosts S} (x : Stored) (records : ℕ) (is_work : x.schema ≡ work_schema)
    (failed : Bool) (a b : S)
    (work : LeavesWork g x.built (empty_state work_schema) records failed a b) where
  -- blocks that they stand for hold the state in them
  pub work_images : ((maps : List LeafMap) (blocks : List (List ℕ)) → g.stands (g.head a) maps blocks
      → g.laid (g.head a) blocks → Reopens x.schema_text x.equation_text x.built.specs maps blocks)
      → (old : Content) → Silent old (g.content a)
      → LeavesOnly (IsWorkingImage x records old.now) old (g.content a)
      → LeavesOnly (IsWorkingImage x records old.now) old (g.content b)
  work_images opens old silent first =
      played_images x records (HoldsState g work_schema x.built (g.head a))
      (λ s blocks h. (
        h.maps,
        opens h.maps blocks h.is h.laid,
        subst (λ (k : Schema). AreInternal k x.built h.maps s) (sym is_work) h.internal,
      )) old (g.content a) (g.content b) silent first work.play.images

  -- and each image is one that they stand for, unless a call failed
  pub work_each : ((blocks : List (List ℕ)) → StandsForKept g b blocks
      → Reopens x.schema_text x.equation_text x.built.specs (g.kept b) blocks)
      → failed ≡ false → EachReopens x (g.content b)
  work_each opens none = (g.kept b, λ image is. opens image.blocks (work.each none image is))

-- ---- what leaves stand for

module _ (x : Stored) (schema equation : List ℕ) (specs : List LeafSpec) (a : schema ≡ x.schema_text)
    (b : equation ≡ x.equation_text) (c : specs ≡ x.built.specs) (head : Head)
    (start : List (List ℕ)) (ground : head.base ≡ ground_on start)
    (of : IsHeadOf schema equation specs head) (size : IsSize specs (length start)) where
  -- blocks that leaves stand for are opened with their maps
  pub stored_opens : (maps : List LeafMap) (whole : Type 0) → whole → (blocks : List (List ℕ))
      → IsStored (StandsFor PagesStandFor) (IsLaid PagesStandFor) head maps whole blocks
      → Reopens x.schema_text x.equation_text x.built.specs maps blocks
  stored_opens maps whole w blocks stored =
      told_texts x schema equation specs (λ t e ks. Reopens t e ks maps blocks) a b c
      (stored_reopens schema equation specs head start blocks maps whole ground w stored of size)

-- what holds of a state that was kept, where all was played
pub each_ok : (r : Result (List ℕ) Ending) (E : Type 0) (Holds : State → Type 0) (built : Built)
    (limit : Option Limits) (start : State) (records : ℕ)
    → IsWorkedAs built limit start Holds records r
    → ((k : State) → Holds k → is_fault r ≡ false → E) → OnOk r E
each_ok (Ok line) E Holds built limit start records is f = f is.final.kept is.holds refl
each_ok (Err why) E Holds built limit start records is f = tt
