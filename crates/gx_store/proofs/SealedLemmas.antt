-- A database of leaves that were prepared, and one that is made.
use Rattle.std.proofs.Common.{◌≡◌, ◌∙◌, inl, inr, ℕ, ◌+◌, ◌≤◌, Bool, true, false, List, [], Some, None, Result, Ok, Err, IsTrue, length, get_or, drop, sym, ap, subst, arith}
use Rattle.std.specs.FinMap.{empty}
use Rattle.std.specs.Prelude.{replicate, IfErr, OnOk}
use Rattle.std.proofs.lemmas.Option.{same_Some}
use Rattle.gx_device.specs.declared.device.Device as device
use Rattle.gx_device.specs.Content.{Content, Shelf, NonePending, block_of, device_at}
use Rattle.gx_device.specs.Crash.{EachImage, LeavesOnly}
use Rattle.gx_device.proofs.RunLemmas.{joined, weakened}
use Rattle.gx_layout.specs.Layout.{table_pages, pages_of, head_of}
use Rattle.gx_layout.specs.Head.{HasMagic, text_blocks}
use Rattle.gx_layout.specs.Besides.{IsUnsealed as IsUnsealedImage}
use Rattle.gx_layout.specs.Recovered.{replayed_pages, view_now}
use Rattle.gx_ports.specs.Roots.{root_pages}
use Rattle.gx_ports.specs.declared.kinds.LeafSpec.{LeafSpec}
use Rattle.gx_ports.specs.declared.page_view.PageView as page_view
use Rattle.gx_ports.specs.LeafMaps.{LeafMap}
use Rattle.gx_journal.specs.State.{head_told}
use Rattle.gx_journal.specs.StateLaws.{calm_shows}
use Rattle.gx_journal.specs.declared.journal.Journal.{Journal}
use Rattle.gx_journal.specs.Calls.{KeepsPages}
use Rattle.gx_journal.specs.Journal.{IsCalm, IsSteady, content_of, device_of, size_of, kept_of, kept_head}
use Rattle.gx_pages.specs.declared.paged.Paged.{Paged}
use Rattle.gx_pages.specs.Owners.{sheets_of}
use Rattle.gx_pages.specs.Paged.{ground_of, kept_sheets}
use Rattle.gx_pages.proofs.StandLemmas.{replays_one}
use Rattle.gx_leaves.specs.Places.{IsRoomFor}
use Rattle.gx_store.specs.Device.{AreMaps, IsSettled, Reopens, ground_on}
use Rattle.gx_store.specs.Making.{IsMadeBy, LeavesMaking, LeavesPreparing, Seals}
use Rattle.gx_store.specs.Opening.{is_untouched}
use Rattle.gx_store.specs.Crashes.{IsNewImage, HasNoMagic, Prepares, Fills, Makes, UnmakesBy}
use Rattle.gx_store.specs.declared.unopened.Unopened.{Unopened}
use Rattle.gx_store.specs.declared.unopened.Unopened.TheVariants as unopened
use Rattle.gx_store.proofs.CrashLemmas.{reads_image}
use Rattle.gx_store.proofs.GroundLemmas.{maps_moved}
use Rattle.gx_store.proofs.JournalLemmas.{sealed_settled}
use Rattle.gx_store.proofs.MadeLemmas.{new_none, new_before, none_before}
use Rattle.gx_store.proofs.SettledLemmas.{texts_read, sized_for, settled_reopens}
use Rattle.gx_store.proofs.ShelfLemmas.{named_at}

module _ {M : Type 0} {g : device.Ghosts M} where
  -- while the magic is written over a journal whose kept pages hold these maps
  pub unsealed_new : (j : Journal M g) → IsTrue g.tells
      → g.size j.device ≡ length (content_of j).now.blocks
      → (schema equation : List ℕ) (specs : List LeafSpec) (maps : List LeafMap)
      → drop 1 (kept_head j) ≡ text_blocks schema equation → IsRoomFor (ground_of j) specs
      → AreMaps (ground_of j) specs maps (sheets_of (kept_of j)) → (mid new : Content)
      → LeavesOnly (IsUnsealedImage (view_now (kept_of j) (content_of j))) mid new
      → LeavesOnly (IsNewImage schema equation specs maps (content_of j).now) mid new
  unsealed_new j told sized schema equation specs maps texts room are mid new run =
      let c = content_of j in
      let head : head_of c.now.blocks ≡ kept_head j =
      sym (ap (λ (b : Bool). head_told b c) told) in
      weakened (EachImage (IsUnsealedImage (view_now (kept_of j) c)))
      (EachImage (IsNewImage schema equation specs maps c.now))
      (λ m leaves image is.
      let u = leaves image is in
      let fits = room.room in
      let long = sized ∙ sym u.size in
      let many = j.count ∙ ap pages_of long in
      let most = j.limit in
      record {
        count = u.size;
        is = λ magic. record {
          size = sized_for specs (size_of j) (length image.blocks)
              (omega (arith, most, long))
              (subst (λ (n : ℕ). table_pages n + root_pages specs ≤ size_of j) long fits) many;
          magic = magic;
          texts = texts_read (record {
            now = record {
              blocks = image.blocks;
              pending = [];
              said = image.said;
              shelf = image.shelf;
            };
            script = c.script;
            aside = c.aside;
            past = [];
          }) schema equation
              (u.texts ∙ ap (λ (h : List (List ℕ)). drop 1 h) head ∙ texts);
          leaves = maps_moved (ground_of j) (ground_on image.blocks) many (ap table_pages long) specs maps
              (sheets_of (replayed_pages image.blocks))
              (subst (λ (ps : List (List ℕ)). AreMaps (ground_of j) specs maps (sheets_of ps))
              (replays_one image.blocks (kept_of j) u.pages) are);
        };
        said = u.said;
        shelf = u.shelf;
      }) mid new run

  -- each image of a calm journal with the magic has it
  pub calm_magic : (j : Journal M g) (start : Content) → IsCalm j start
      → g.size j.device ≡ length (content_of j).now.blocks
      → HasMagic (g.size j.device) (get_or (kept_head j) 0 [])
      → EachImage (λ image. HasMagic (length image.blocks) (get_or image.blocks 0 []))
      (content_of j).now
  calm_magic j start calm sized magic image is =
      let quiet = calm_shows g.tells j.failed (size_of j) start (content_of j) calm in
      let shows = (quiet.last image is).is in
      subst (λ (n : ℕ). HasMagic n (get_or image.blocks 0 [])) (sized ∙ sym shows.count)
      (subst (λ (h : List (List ℕ)). HasMagic (g.size j.device) (get_or h 0 []))
      (sym shows.head_is) magic)

-- Each part of what is left where the magic is written over a journal whose kept pages hold these
-- maps.
module _ {M : Type 0} {g : device.Ghosts M} (j k : Journal M g) (told : IsTrue g.tells)
    (before : g.size j.device ≡ length (content_of j).now.blocks)
    (after : g.size k.device ≡ length (content_of k).now.blocks)
    (schema equation : List ℕ) (specs : List LeafSpec) (maps : List LeafMap) (steady : IsSteady j)
    (calm : IsCalm j (content_of j)) (texts : drop 1 (kept_head j) ≡ text_blocks schema equation)
    (room : IsRoomFor (ground_of j) specs) (are : AreMaps (ground_of j) specs maps (kept_sheets j))
    (keeps : KeepsPages j k) (same : drop 1 (kept_head k) ≡ drop 1 (kept_head j)) where
  sealed_on : HasMagic (g.size (device_of j)) (get_or (kept_head k) 0 [])
      → IsSettled schema equation specs maps (content_of k).now.blocks
  sealed_on magic =
      sealed_settled j k told after (keeps.steady.0 steady) keeps.size keeps.blocks keeps.kept same
      (subst (λ (n : ℕ). HasMagic n (block_of (content_of k).now 0)) (sym keeps.blocks)
      (subst (λ (b : Bool). HasMagic (g.size (device_of j)) (get_or (head_told b (content_of k)) 0 []))
      told magic))
      schema equation specs maps texts room are

  sealed_images : LeavesOnly (IsUnsealedImage (view_now (kept_of j) (content_of j))) (content_of j)
      (content_of k)
      → LeavesOnly (IsNewImage schema equation specs maps (content_of j).now) (content_of j)
      (content_of k)
  sealed_images images = unsealed_new j told before schema equation specs maps texts room are
      (content_of j) (content_of k) images

  pub sealed_done : LeavesOnly (IsUnsealedImage (view_now (kept_of j) (content_of j)))
      (content_of j) (content_of k)
      → HasMagic (g.size (device_of j)) (get_or (kept_head k) 0 []) → IsCalm k (content_of k)
      → NonePending (content_of k)
      → Seals schema equation specs maps (content_of j) (content_of k) (Ok tt)
  sealed_done images magic calm none = record {
    settled = sealed_on magic;
    each = λ image is. ((sealed_images images).now image is).is
        (calm_magic k (content_of k) calm after
        (subst (λ (n : ℕ). HasMagic n (get_or (kept_head k) 0 [])) (sym keeps.blocks) magic)
        image is);
    none_pending = none;
    images = sealed_images images;
  }

  pub sealed_failed : (why : Unopened)
      → LeavesOnly (IsUnsealedImage (view_now (kept_of j) (content_of j))) (content_of j)
      (content_of k) → Seals schema equation specs maps (content_of j) (content_of k) (Err why)
  sealed_failed why images =
      record { settled = tt; each = tt; none_pending = tt; images = sealed_images images }

-- ---- by its name

-- leaves that were prepared, while what has the magic holds these maps
pub filled : (name : List ℕ) (size : ℕ) (schema equation : List ℕ) (specs : List LeafSpec)
    (maps : List LeafMap) (old mid new : Content) → Prepares name size specs old mid
    → new.now.shelf ≡ mid.now.shelf
    → LeavesOnly (IsNewImage schema equation specs maps mid.now) mid new
    → Fills name size schema equation specs maps old new
filled name size schema equation specs maps old mid new p shelf images =
    let h = p.images.now _ (reads_image mid.now) in
    record {
      middle = p.middle;
      attached = p.attached;
      fits = p.fits;
      free = p.free;
      count = p.count;
      none_pending = p.none_pending;
      named = ap (λ (s : Shelf). s.name) shelf ∙ p.named;
      images = joined (EachImage (IsNewImage schema equation specs maps p.middle.now)) p.middle mid
          new
          (new_none schema equation specs maps p.middle.now p.middle mid p.images)
          (new_before p.middle.now mid.now h.count h.said h.shelf schema equation specs maps mid new
          images);
    }

-- while it stays no database
pub prepared_on : (name : List ℕ) (size : ℕ) (specs : List LeafSpec) (old mid new : Content)
    → Prepares name size specs old mid → new.now.shelf ≡ mid.now.shelf
    → LeavesOnly (HasNoMagic mid.now) mid new → Prepares name size specs old new
prepared_on name size specs old mid new p shelf images =
    let h = p.images.now _ (reads_image mid.now) in
    record {
      middle = p.middle;
      attached = p.attached;
      fits = p.fits;
      free = p.free;
      count = p.count;
      none_pending = p.none_pending;
      named = ap (λ (s : Shelf). s.name) shelf ∙ p.named;
      images = joined (EachImage (HasNoMagic p.middle.now)) p.middle mid new p.images
          (none_before p.middle.now mid.now h.count h.said h.shelf mid new images);
    }

-- a device that was made, with what was read from it last
module _ (name : List ℕ) (size : ℕ) (schema equation : List ℕ) (specs : List LeafSpec)
    (old new : Content) (m : Makes name size schema equation specs old new) where
  made_reads : IsNewImage schema equation specs (replicate (length specs) empty) m.middle.now
      (record { blocks = new.now.blocks; said = new.now.said; shelf = new.now.shelf })
  made_reads = m.images.now _ (reads_image new.now)

  made_at : (blocks : List (List ℕ)) → device_at new.now name ≡ Some blocks
      → new.now.blocks ≡ blocks
  made_at blocks is = same_Some new.now.blocks blocks (sym (named_at new.now name m.named) ∙ is)

  made_count : length new.now.blocks ≡ size
  made_count = made_reads.count ∙ m.count

  -- whatever is answered; a refusal comes after blocks were written
  pub left_made : (r : Result (Unit {0}) Unopened) → IfErr r (λ why. why ≡ unopened.Fault)
      → LeavesMaking name size schema equation specs old new r
  left_made r fault = record {
    there = λ blocks was. absurd (let wrong : ◌≡◌ {A = _} None (Some blocks) = sym m.free
        ∙ was in cc);
    left = λ none blocks is magic.
        subst (λ (bs : List (List ℕ)). HasMagic (length bs) (get_or bs 0 [])
        → Reopens schema equation specs (replicate (length specs) empty) bs)
        (made_at blocks is) made_reads.is magic;
    begun = λ none blocks is.
        ap (λ (bs : List (List ℕ)). length bs) (sym (made_at blocks is)) ∙ made_count;
    untouched = touched r fault;
    crash = inr m;
    refused = refused r fault;
  }
    where
      touched : (x : Result (Unit {0}) Unopened) → IfErr x (λ why. why ≡ unopened.Fault)
          → IfErr x (λ why. is_untouched why ≡ true
          → device_at new.now name ≡ device_at old.now name)
      touched (Ok y) is = tt
      touched (Err why) is = λ so.
          absurd (let f : false ≡ true = ap is_untouched (sym is) ∙ so in cc)

      refused : (x : Result (Unit {0}) Unopened) → IfErr x (λ why. why ≡ unopened.Fault)
          → IfErr x (λ why. UnmakesBy old new why)
      refused (Ok y) is = tt
      refused (Err why) is = subst (λ (w : Unopened). UnmakesBy old new w) (sym is) tt

  pub made_by : (mid : Content) (r : Result (Unit {0}) Unopened)
      → Seals schema equation specs (replicate (length specs) empty) mid new r
      → OnOk r (IsMadeBy name size schema equation specs old new)
  made_by mid (Ok x) s = record {
    is = (
      new.now.blocks,
      named_at new.now name m.named,
      record {
        count = made_count;
        settled = s.settled;
        reopens = settled_reopens schema equation specs (replicate (length specs) empty)
            new.now.blocks s.settled;
      },
    );
    each = s.each;
    none_pending = s.none_pending;
    makes = m;
  }
  made_by mid (Err why) s = tt

-- where no leaves were prepared
pub unmade_left : {M : Type 0} {g : device.Ghosts M} {v : page_view.Ghosts (Paged M g)}
    (name : List ℕ) (size : ℕ) (schema equation : List ℕ) (specs : List LeafSpec) (old : Content)
    (m : M) (why : Unopened) → LeavesPreparing {v = v} name size specs old (Err (m, why))
    → LeavesMaking name size schema equation specs old (g.content m) (Err why)
unmade_left {g = g} name size schema equation specs old m why l = record {
  there = l.there;
  left = λ none blocks is magic. absurd ((l.left none blocks is).1 magic);
  begun = λ none blocks is. (l.left none blocks is).0;
  untouched = l.untouched;
  crash = elim l.crash [
    | inl still ↦ inl still
    | inr p ↦ inr (begun p)
  ];
  refused = l.refused;
}
  where
    begun : Prepares name size specs old (g.content m)
        → Makes name size schema equation specs old (g.content m)
    begun p = record {
      middle = p.middle;
      attached = p.attached;
      fits = p.fits;
      free = p.free;
      count = p.count;
      none_pending = p.none_pending;
      named = p.named;
      images = new_none schema equation specs (replicate (length specs) empty) p.middle.now p.middle
          (g.content m) p.images;
    }
