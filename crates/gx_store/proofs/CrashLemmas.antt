-- What a crash leaves while a device is opened.
use Rattle.std.proofs.Common.{◌≡◌, ◌∙◌, inl, inr, ℕ, Bool, List, [], ◌∷◌, ◌++◌, length, Some, refl, sym, ap, subst, append_assoc}
use Rattle.std.proofs.lemmas.List.{append-nil}
use Rattle.std.proofs.lemmas.List.Elements.{All-nil, All-cons}
use Rattle.gx_device.specs.declared.device.Device as device
use Rattle.gx_device.specs.Content.{Moment, Content, NonePending, Ticks, Silent, SameContent, is_pending}
use Rattle.gx_device.specs.Crash.{Image, IsImage, EachImage, Through, LeavesOnly}
use Rattle.gx_device.specs.Quiet.{IsPrefix, IsQuiet}
use Rattle.gx_device.proofs.RunLemmas.{started, ticked, joined, weakened}
use Rattle.gx_layout.specs.Layout.{View, StandsFor, Shows, Replays, head_of}
use Rattle.gx_layout.specs.Recovered.{AfterSync, Recovers, replayed_pages, view_now}
use Rattle.gx_journal.specs.State.{head_told, homes_told, CalmSince}
use Rattle.gx_journal.specs.StateLaws.{calm_shows}
use Rattle.gx_journal.specs.declared.journal.Journal.{Journal}
use Rattle.gx_journal.specs.Journal.{Keeps, IsCalm, content_of, device_of, size_of, kept_of}
use Rattle.gx_pages.proofs.StandLemmas.{replays_one}
use Rattle.gx_ports.proofs.ImageLemmas.{prefix_both, quiet_images}
use Rattle.gx_store.specs.Device.{ReadAlike}
use Rattle.gx_store.specs.Store.{Attaches}
use Rattle.gx_store.specs.Opened.{IsOnlyRead}
use Rattle.gx_store.specs.Crashes.{Unattached, Attached, IsAsBefore, IsFirstOf, IsReached, IsReplayed, IsOpeningImage}

-- the blocks as they read are one of the images
pub reads_image : (m : Moment)
    → IsImage m (record { blocks = m.blocks; said = m.said; shelf = m.shelf })
reads_image m = record { said = refl; shelf = refl; count = refl; same = λ n below firm. refl }

-- ---- the call that attaches

-- a refusal changes nothing
pub unattached : (old new : Content) → Ticks old new → SameContent old new → Unattached old new
unattached old new time same = ticked (λ m. m ≡ old.now) old new time refl same.now

-- an answer Ok takes one moment at most
pub attached_now : (name : List ℕ) (old middle : Content) → Ticks old middle
    → middle.now.shelf.name ≡ Some name → Attaches name old middle → Attached name old middle
attached_now name old middle (inl on) named rest = record {
  between = old.now ∷ [];
  past = on;
  before = All-cons (λ (m : Moment). m ≡ old.now) old.now [] refl
      (All-nil (λ (m : Moment). m ≡ old.now));
  named = named;
  rest = rest;
}
attached_now name old middle (inr same) named rest = record {
  between = [];
  past = ap (λ (c : Content). c.past) same ∙ sym (append-nil old.past);
  before = All-nil (λ (m : Moment). m ≡ old.now);
  named = named;
  rest = rest;
}

-- ---- the first moment

-- one call that leaves the blocks, or that is none
pub reached_once : (old new : Content) → Ticks old new → IsReached old new
reached_once old new (inl on) = inl (inr ([], on))
reached_once old new (inr same) =
    inr (subst (λ (c : Content). Through (IsAsBefore old.now) old c) (sym same)
    (started (IsAsBefore old.now) old (record { blocks = refl; pending = refl })))

-- a sync that leaves nothing pending
first_sync : (old mid : Content) → Ticks old mid → NonePending mid → IsFirstOf old mid
first_sync old mid (inl on) none = inr ([], on)
first_sync old mid (inr same) none =
    inl (λ n. sym (ap (λ (c : Content). is_pending c.now n) same) ∙ none n)

-- and so it is whatever follows
pub first_on : (old mid new : Content) → IsFirstOf old mid → (between : List Moment)
    → new.past ≡ mid.past ++ between → IsFirstOf old new
first_on old mid new (inl none) between past = inl none
first_on old mid new (inr at) between past =
    inr (
      at.0 ++ between,
      past ∙ ap (λ (p : List Moment). p ++ between) at.1
          ∙ append_assoc old.past (old.now ∷ at.0) between,
    )

-- what was reached stays so where something follows that touches no block
pub reached_later : (start mid new : Content) → IsReached start mid
    → Through (IsAsBefore mid.now) mid new → IsReached start new
reached_later start mid new (inl first) run =
    inl (first_on start mid new first run.between run.past)
reached_later start mid new (inr same) run =
    inr (joined (IsAsBefore start.now) start mid new same
    (weakened (IsAsBefore mid.now) (IsAsBefore start.now)
    (λ m x. record {
      blocks = x.blocks ∙ same.now.blocks;
      pending = x.pending ∙ same.now.pending;
    }) mid new run))

-- ---- recovery

-- an image that stands for the pages that recovery finds
pub replayed_by : (old : Content) (image : Image)
    → StandsFor (view_now (replayed_pages old.now.blocks) old) image → IsReplayed old.now image
replayed_by old image s = record {
  alike = record {
    count = s.size;
    head = s.head;
    pages = sym (replays_one image.blocks (replayed_pages old.now.blocks) s.pages);
  };
  said = s.said;
  shelf = s.shelf;
}

module _ (old : Content) where
  abbrev pub view_old : View
  view_old = view_now (replayed_pages old.now.blocks) old

  pub replays_through : (mid new : Content) → LeavesOnly (StandsFor view_old) mid new
      → LeavesOnly (IsReplayed old.now) mid new
  replays_through mid new run =
      weakened (EachImage (StandsFor view_old)) (EachImage (IsReplayed old.now))
      (λ m leaves image is. replayed_by old image (leaves image is)) mid new run

  pub opening_first : (mid new : Content) → LeavesOnly (IsImage old.now) mid new
      → LeavesOnly (IsOpeningImage old.now) mid new
  opening_first mid new run =
      weakened (EachImage (IsImage old.now)) (EachImage (IsOpeningImage old.now))
      (λ m leaves image is. inl (leaves image is)) mid new run

  pub opening_then : (mid new : Content) → LeavesOnly (IsReplayed old.now) mid new
      → LeavesOnly (IsOpeningImage old.now) mid new
  opening_then mid new run =
      weakened (EachImage (IsReplayed old.now)) (EachImage (IsOpeningImage old.now))
      (λ m leaves image is. inr (leaves image is)) mid new run

  pub opening_images : (new : Content) → Recovers view_old old new
      → LeavesOnly (IsOpeningImage old.now) old new
  opening_images new (inl before) = opening_first old new before.0.images
  opening_images new (inr after) =
      joined (EachImage (IsOpeningImage old.now)) old after.mid new
      (opening_first old after.mid after.first)
      (opening_then after.mid new (replays_through after.mid new after.then))

  -- the blocks as they read are one of the images, and the same is read from them
  pub recovers_alike : (new : Content) → Recovers view_old old new
      → ReadAlike old.now.blocks new.now.blocks
  recovers_alike new (inl before) =
      subst (λ (bs : List (List ℕ)). ReadAlike old.now.blocks bs) (sym before.0.blocks)
      (record { count = refl; head = refl; pages = refl })
  recovers_alike new (inr after) =
      (replayed_by old _ (after.then.now _ (reads_image new.now))).alike

  -- what stood before is the first moment
  recovers_first : (new : Content) → AfterSync view_old old new → IsFirstOf old new
  recovers_first new after =
      first_on old after.mid new (first_sync old after.mid after.time after.none_pending)
      after.then.between after.then.past

  pub recovers_reached : (new : Content) → Recovers view_old old new → IsReached old new
  recovers_reached new (inl before) = reached_once old new before.1
  recovers_reached new (inr after) = inl (recovers_first new after)

  -- and so it stays where nothing was pending then
  pub recovered_then : (mid new : Content) → Recovers view_old old mid → NonePending mid
      → (between : List Moment) → new.past ≡ mid.past ++ between → IsFirstOf old new
  recovered_then mid new (inl before) none between past =
      first_on old mid new (first_sync old mid before.1 none) between past
  recovered_then mid new (inr after) none between past =
      first_on old mid new (recovers_first mid after) between past

  -- where the machine isn't called
  pub opening_none : LeavesOnly (IsOpeningImage old.now) old old
  opening_none = started (EachImage (IsOpeningImage old.now)) old (λ image is. inl is)

-- ---- calls that only read

-- while it is calm each image stands for the kept pages, the head and what was said
pub calm_images : (tells failed : Bool) (P : ℕ) (old new : Content) (size : ℕ)
    (head pages : List (List ℕ)) → CalmSince tells failed P old new → length new.now.blocks ≡ size
    → head_told tells new ≡ head → homes_told tells P new ≡ pages → Silent old new
    → LeavesOnly (StandsFor (record {
      size = size;
      pages = pages;
      head = head;
      said = old.now.said;
      shelf = old.now.shelf;
    })) old new
calm_images tells failed P old new size head pages calm count heads kept silent =
    let stands = Shows (length new.now.blocks) (head_told tells new) (homes_told tells P new) in
    let v : View = record {
      size = size;
      pages = pages;
      head = head;
      said = old.now.said;
      shelf = old.now.shelf;
    } in
    weakened (EachImage (IsQuiet stands old.now new.now.said)) (EachImage (StandsFor v))
    (λ m leaves image at.
    let q = leaves image at in
    record {
      size = q.is.count ∙ count;
      pages = subst (λ (ps : List (List ℕ)). Replays image.blocks ps) kept q.is.replays;
      head = q.is.head_is ∙ heads;
      said = prefix_both old.now.said image.said q.begins
          (subst (λ (s : List ℕ). IsPrefix image.said s) silent.said q.goes_on);
      shelf = q.shelf;
    }) old new (quiet_images stands old new (calm_shows tells failed P old new calm))

module _ {M : Type 0} {g : device.Ghosts M} where
  -- a journal that is calm, and was only read since
  pub only_read : (j k : Journal M g) → Keeps j k
      → (content_of k).now ≡ (content_of j).now
      → Silent (content_of j) (content_of k) → IsOnlyRead j (device_of k)
  only_read j k keeps now silent =
      let blocks = ap (λ (m : Moment). m.blocks) now in
      record {
        now = now;
        images = λ calm. calm_images g.tells k.failed (size_of k) (content_of j) (content_of k)
            (length (content_of j).now.blocks) (head_of (content_of j).now.blocks) (kept_of j)
            (keeps.calm (content_of j) calm) (ap (λ (bs : List (List ℕ)). length bs) blocks)
            (ap (λ (b : Bool). head_told b (content_of k)) calm.told
            ∙ ap (λ (bs : List (List ℕ)). head_of bs) blocks)
            keeps.kept silent;
        silent = silent;
      }

  -- The pages that a journal keeps are those that recovery found in what was there, and the journal
  -- was only read since.
  pub read_replayed : (old : Content) (j : Journal M g) (m : M)
      → length (content_of j).now.blocks ≡ length old.now.blocks
      → kept_of j ≡ replayed_pages old.now.blocks
      → head_of (content_of j).now.blocks ≡ head_of old.now.blocks → Silent old (content_of j)
      → IsCalm j (content_of j) → IsOnlyRead j m
      → LeavesOnly (IsReplayed old.now) (content_of j) (g.content m)
  read_replayed old j m count kept head silent calm read =
      let same : view_now (kept_of j) (content_of j)
      ≡ view_now (replayed_pages old.now.blocks) old = λ i. record {
        size = count i;
        pages = kept i;
        head = head i;
        said = silent.said i;
        shelf = silent.shelf i;
      } in
      replays_through old (content_of j) (g.content m)
      (subst (λ (v : View). LeavesOnly (StandsFor v) (content_of j) (g.content m)) same
      (read.images calm))
