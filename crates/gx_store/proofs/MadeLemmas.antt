-- What a crash leaves while there is no database yet.
use Rattle.std.proofs.Common.{◌≡◌, ◌∙◌, inl, inr, ℕ, ◌<◌, Bool, List, [], ◌∷◌, length, get_or, IsTrue, refl, sym, ap, subst, arith}
use Rattle.gx_device.specs.declared.device.Device as device
use Rattle.gx_device.specs.Content.{Moment, Content, NonePending, Silent, block_of}
use Rattle.gx_device.specs.Crash.{Image, EachImage, LeavesOnly}
use Rattle.gx_device.specs.Quiet.{IsOldOrNew}
use Rattle.gx_device.proofs.RunLemmas.{started, weakened}
use Rattle.gx_layout.specs.Layout.{StandsFor}
use Rattle.gx_layout.specs.Head.{HasMagic, IsFormatted}
use Rattle.gx_layout.specs.Besides.{IsImageBesides}
use Rattle.gx_ports.specs.declared.kinds.LeafSpec.{LeafSpec}
use Rattle.gx_ports.specs.Calm.{IsStored}
use Rattle.gx_ports.specs.Heads.{Head}
use Rattle.gx_ports.specs.LeafMaps.{LeafMap}
use Rattle.gx_ports.specs.Sheets.{Ground}
use Rattle.gx_journal.specs.State.{head_told, homes_told, CalmSince}
use Rattle.gx_journal.specs.declared.journal.Journal.{Journal}
use Rattle.gx_journal.specs.Journal.{IsCalm, content_of, size_of, kept_head}
use Rattle.gx_pages.specs.Paged.{ground_of, StandsFor as PagesFor}
use Rattle.gx_leaves.specs.Wholeness.{IsLaid, StandsFor as StoredFor}
use Rattle.gx_store.specs.Crashes.{HasNoMagic, IsNewImage}
use Rattle.gx_store.proofs.CrashLemmas.{calm_images}

module _ (a b : Moment) (count : length b.blocks ≡ length a.blocks) (said : b.said ≡ a.said)
    (shelf : b.shelf ≡ a.shelf) where
  -- the same from an earlier moment on
  pub none_before : (mid new : Content) → LeavesOnly (HasNoMagic b) mid new
      → LeavesOnly (HasNoMagic a) mid new
  none_before mid new run =
      weakened (EachImage (HasNoMagic b)) (EachImage (HasNoMagic a))
      (λ m leaves image is.
      let n = leaves image is in
      record {
        count = n.count ∙ count;
        none = n.none;
        said = n.said ∙ said;
        shelf = n.shelf ∙ shelf;
      }) mid new run

  pub new_before : (schema equation : List ℕ) (specs : List LeafSpec) (maps : List LeafMap)
      (mid new : Content) → LeavesOnly (IsNewImage schema equation specs maps b) mid new
      → LeavesOnly (IsNewImage schema equation specs maps a) mid new
  new_before schema equation specs maps mid new run =
      weakened (EachImage (IsNewImage schema equation specs maps b))
      (EachImage (IsNewImage schema equation specs maps a))
      (λ m leaves image is.
      let n = leaves image is in
      record {
        count = n.count ∙ count;
        is = n.is;
        said = n.said ∙ said;
        shelf = n.shelf ∙ shelf;
      }) mid new run

-- no database is one that may stand on a new device
pub new_none : (schema equation : List ℕ) (specs : List LeafSpec) (maps : List LeafMap)
    (start : Moment) (mid new : Content) → LeavesOnly (HasNoMagic start) mid new
    → LeavesOnly (IsNewImage schema equation specs maps start) mid new
new_none schema equation specs maps start mid new run =
    weakened (EachImage (HasNoMagic start))
    (EachImage (IsNewImage schema equation specs maps start))
    (λ m leaves image is.
    let n = leaves image is in
    record {
      count = n.count;
      is = λ magic. absurd (n.none magic);
      said = n.said;
      shelf = n.shelf;
    }) mid new run

-- while a device without the magic is calm
pub calm_none : (tells failed : Bool) (P : ℕ) (old new : Content)
    → CalmSince tells failed P old new → length new.now.blocks ≡ length old.now.blocks
    → head_told tells new ≡ head_told tells old → Silent old new
    → ¬ HasMagic (length old.now.blocks) (get_or (head_told tells old) 0 [])
    → LeavesOnly (HasNoMagic old.now) old new
calm_none tells failed P old new calm count heads silent none =
    weakened
    (EachImage (StandsFor (record {
      size = length old.now.blocks;
      pages = homes_told tells P new;
      head = head_told tells old;
      said = old.now.said;
      shelf = old.now.shelf;
    })))
    (EachImage (HasNoMagic old.now))
    (λ m leaves image is.
    let s = leaves image is in
    record {
      count = s.size;
      none = λ magic. none (subst (λ (n : ℕ). HasMagic n (get_or (head_told tells old) 0 [])) s.size
          (subst (λ (h : List (List ℕ)). HasMagic (length image.blocks) (get_or h 0 [])) s.head
          magic));
      said = s.said;
      shelf = s.shelf;
    }) old new
    (calm_images tells failed P old new (length old.now.blocks) (head_told tells old)
    (homes_told tells P new) calm count heads refl silent)

-- the first block of an image, where it isn't pending
first_image : (image old : List (List ℕ)) → length image ≡ length old
    → (0 < length old → get_or image 0 [] ≡ get_or old 0 []) → get_or image 0 [] ≡ get_or old 0 []
first_image [] [] count same = refl
first_image [] (x ∷ xs) count same = absurd (omega (arith, count))
first_image (x ∷ xs) old count same = same (omega (arith, count))

-- where it isn't called
pub rests_none : (old : Content) → NonePending old
    → ¬ HasMagic (length old.now.blocks) (block_of old.now 0)
    → LeavesOnly (HasNoMagic old.now) old old
rests_none old firm none = started (EachImage (HasNoMagic old.now)) old (λ image is. record {
  count = is.count;
  none = λ magic. none (subst (λ (n : ℕ). HasMagic n (block_of old.now 0)) is.count
      (subst (λ (b : List ℕ). HasMagic (length image.blocks) b)
      (first_image image.blocks old.now.blocks is.count (λ room. is.same 0 room (firm 0))) magic));
  said = is.said;
  shelf = is.shelf;
})

-- while a device without the magic is laid out
pub besides_none : (size : ℕ) (old new : Content) → NonePending old
    → ¬ HasMagic (length old.now.blocks) (block_of old.now 0)
    → LeavesOnly (IsImageBesides (IsFormatted size) old.now) old new
    → LeavesOnly (HasNoMagic old.now) old new
besides_none size old new firm none run =
    weakened (EachImage (IsImageBesides (IsFormatted size) old.now)) (EachImage (HasNoMagic old.now))
    (λ m leaves image is.
    let s = leaves image is in
    record {
      count = s.count;
      none = λ magic. none (subst (λ (n : ℕ). HasMagic n (block_of old.now 0)) s.count
          (subst (λ (b : List ℕ). HasMagic (length image.blocks) b)
          (first_image image.blocks old.now.blocks s.count (λ room. s.same 0 room
          (λ (f : IsFormatted size 0). (let low = f.0 in absurd (omega (arith, low)))) (firm 0)))
          magic));
      said = s.said;
      shelf = s.shelf;
    }) old new run

-- what stands for maps under a head without the magic is no database
pub stands_none : (head : Head) (maps : List LeafMap) (blocks : List (List ℕ))
    → ¬ HasMagic head.base.blocks (get_or head.base.head 0 [])
    → StoredFor PagesFor head maps blocks → ¬ HasMagic (length blocks) (get_or blocks 0 [])
stands_none head maps blocks none s has =
    none (subst (λ (n : ℕ). HasMagic n (get_or head.base.head 0 [])) s.is.shows.count
    (subst (λ (h : List (List ℕ)). HasMagic (length blocks) (get_or h 0 [])) s.is.shows.head_is has))

-- while leaves under such a head are committed
pub stored_none : (head : Head) (was is : List LeafMap) (before now : Type 0) (start : Moment)
    (old new : Content) → head.base.blocks ≡ length start.blocks
    → ¬ HasMagic head.base.blocks (get_or head.base.head 0 [])
    → LeavesOnly (IsOldOrNew (IsStored (StoredFor PagesFor) (IsLaid PagesFor) head was before)
    (IsStored (StoredFor PagesFor) (IsLaid PagesFor) head is now) start) old new
    → LeavesOnly (HasNoMagic start) old new
stored_none head was is before now start old new many none run =
    weakened (EachImage (IsOldOrNew (IsStored (StoredFor PagesFor) (IsLaid PagesFor) head was before)
    (IsStored (StoredFor PagesFor) (IsLaid PagesFor) head is now) start))
    (EachImage (HasNoMagic start))
    (λ m leaves image at.
    let s = leaves image at in
    elim s.is [
      | inl kept ↦ shown was image kept.is s.said s.shelf
      | inr made ↦ shown is image made.is s.said s.shelf
    ]) old new run
  where
    shown : (maps : List LeafMap) (image : Image) → StoredFor PagesFor head maps image.blocks
        → image.said ≡ start.said → image.shelf ≡ start.shelf → HasNoMagic start image
    shown maps image s said shelf = record {
      count = s.is.shows.count ∙ many;
      none = stands_none head maps image.blocks none s;
      said = said;
      shelf = shelf;
    }

module _ {M : Type 0} {g : device.Ghosts M} where
  -- while the working pages of a calm journal without the magic change
  pub kept_none : (j k : Journal M g) → IsTrue g.tells
      → g.size j.device ≡ length (content_of j).now.blocks
      → g.size k.device ≡ length (content_of k).now.blocks → ground_of k ≡ ground_of j
      → IsCalm k (content_of j) → Silent (content_of j) (content_of k)
      → ¬ HasMagic (g.size j.device) (get_or (kept_head j) 0 [])
      → LeavesOnly (HasNoMagic (content_of j).now) (content_of j) (content_of k)
  kept_none j k told before after ground calm silent none =
      calm_none g.tells k.failed (size_of k) (content_of j) (content_of k) calm
      (sym after ∙ ap (λ (b : Ground). b.blocks) ground ∙ before)
      (ap (λ (b : Ground). b.head) ground) silent
      (λ has. none (subst (λ (n : ℕ). HasMagic n (get_or (kept_head j) 0 [])) (sym before) has))
