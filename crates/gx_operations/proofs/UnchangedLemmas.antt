-- Moments at which no device is changed, and the device that is attached then.
use Rattle.std.proofs.Common.{◌≡◌, ℕ, List, [], ◌++◌, Bool, Some, take, refl, sym, ap, ◌∙◌, inl, inr}
use Rattle.std.proofs.lemmas.List.{append-nil}
use Rattle.std.specs.FinMap.{get}
use Rattle.gx_device.specs.Content.{Shelf, Content, Moment, is_pending, with_named, device_at}
use Rattle.gx_device.specs.Crash.{Image, IsImage, Through, LeavesOnly}
use Rattle.gx_device.proofs.RunLemmas.{started, joined, weakened}
use Rattle.gx_store.specs.Crashes.{Attached, IsReached}
use Rattle.gx_operations.specs.Crashes.{IsUnchanged, IsStill, IsIdle, IsLeftOf, CrashesOn}

pub unchanged_by : (old now : Moment) → now.blocks ≡ old.blocks → now.pending ≡ old.pending
    → now.shelf ≡ old.shelf → IsUnchanged old now
unchanged_by old now blocks pending shelf = record {
  blocks = blocks;
  kept = λ n none. ap (λ (l : List Bool). is_pending (record old { pending = l }) n) pending ∙ none;
  shelf = shelf;
}

pub unchanged_same : (m : Moment) → IsUnchanged m m
unchanged_same m = unchanged_by m m refl refl refl

pub unchanged_twice : (a b c : Moment) → IsUnchanged a b → IsUnchanged b c → IsUnchanged a c
unchanged_twice a b c x y = record {
  blocks = y.blocks ∙ x.blocks;
  kept = λ n none. y.kept n (x.kept n none);
  shelf = y.shelf ∙ x.shelf;
}

pub still_same : (m : Moment) → IsStill m m
still_same m = record { unchanged = unchanged_same m; said = refl }

pub still_twice : (a b c : Moment) → IsStill a b → IsStill b c → IsStill a c
still_twice a b c x y = record {
  unchanged = unchanged_twice a b c x.unchanged y.unchanged;
  said = y.said ∙ x.said;
}

-- no call
pub still_here : (old : Content) → Through (IsStill old.now) old old
still_here old = started (IsStill old.now) old (still_same old.now)

-- one run after another
pub still_joined : (old mid new : Content) → Through (IsStill old.now) old mid
    → Through (IsStill mid.now) mid new → Through (IsStill old.now) old new
still_joined old mid new first then =
    joined (IsStill old.now) old mid new first
    (weakened (IsStill mid.now) (IsStill old.now)
    (λ m x. still_twice old.now mid.now m first.now x) mid new then)

pub unchanged_after : (old mid new : Content) → Through (IsStill old.now) old mid
    → Through (IsUnchanged mid.now) mid new → Through (IsUnchanged old.now) old new
unchanged_after old mid new first then =
    joined (IsUnchanged old.now) old mid new
    (weakened (IsStill old.now) (IsUnchanged old.now) (λ m x. x.unchanged) old mid first)
    (weakened (IsUnchanged mid.now) (IsUnchanged old.now)
    (λ m x. unchanged_twice old.now mid.now m first.now.unchanged x) mid new then)

-- ---- nothing of a play is said

-- a run at which all is still
pub still_idle : (old m : Moment) → IsStill old m → IsIdle old m
still_idle old m x = record {
  unchanged = x.unchanged;
  line = [];
  idle = inl refl;
  count = 0;
  said = x.said ∙ sym (append-nil old.said);
}

idle_after : (a b c : Moment) → IsStill a b → IsIdle b c → IsIdle a c
idle_after a b c x y = record {
  unchanged = unchanged_twice a b c x.unchanged y.unchanged;
  line = y.line;
  idle = y.idle;
  count = y.count;
  said = y.said ∙ ap (λ (t : List ℕ). t ++ take y.count y.line) x.said;
}

pub idle_joined : (old mid new : Content) → Through (IsStill old.now) old mid
    → Through (IsIdle mid.now) mid new → Through (IsIdle old.now) old new
idle_joined old mid new first then =
    joined (IsIdle old.now) old mid new
    (weakened (IsStill old.now) (IsIdle old.now) (λ m x. still_idle old.now m x) old mid first)
    (weakened (IsIdle mid.now) (IsIdle old.now)
    (λ m x. idle_after old.now mid.now m first.now x) mid new then)

pub idle_unchanged : (old new : Content) → Through (IsIdle old.now) old new
    → Through (IsUnchanged old.now) old new
idle_unchanged old new run =
    weakened (IsIdle old.now) (IsUnchanged old.now) (λ m x. x.unchanged) old new run

-- ---- a device is attached

-- the same blocks and the same shelf are the same devices
pub same_device_at : (old new : Moment) (name : List ℕ) → new.blocks ≡ old.blocks
    → new.shelf ≡ old.shelf → device_at new name ≡ device_at old name
same_device_at old new name blocks shelf =
    ap (λ (bs : List (List ℕ)). get (with_named new.shelf.name bs new.shelf.devices) name) blocks
    ∙ ap (λ (s : Shelf). get (with_named s.name old.blocks s.devices) name) shelf

-- the device is attached at once
pub attached_crashes : (name : List ℕ) (P : Content → Image → Type 0) (old middle new : Content)
    → Attached name old middle
    → ((blocks : List (List ℕ)) → device_at old.now name ≡ Some blocks → middle.now.blocks ≡ blocks)
    → IsReached middle new → LeavesOnly (IsLeftOf P middle) middle new → CrashesOn name P old new
attached_crashes name P old middle new attached reads reached leaves = inr (
  middle,
  record {
    before = old;
    still = still_here old;
    attached = attached;
    reads = reads;
    reached = reached;
  },
  leaves,
)

-- what is so of a request that begins later is so of one that begins at once
pub crashes_after : (name : List ℕ) (P R : Content → Image → Type 0) (old mid new : Content)
    → Through (IsStill old.now) old mid
    → ((middle : Content) (image : Image) → P middle image → R middle image)
    → CrashesOn name P mid new → CrashesOn name R old new
crashes_after name P R old mid new first more (inl x) = inl (idle_joined old mid new first x)
crashes_after name P R old mid new first more (inr x) = inr (
  x.0,
  record {
    before = x.1.before;
    still = still_joined old mid x.1.before first x.1.still;
    attached = x.1.attached;
    reads = λ blocks there. x.1.reads blocks
        (same_device_at old.now mid.now name first.now.unchanged.blocks first.now.unchanged.shelf
        ∙ there);
    reached = x.1.reached;
  },
  weakened (λ m. (image : Image) → IsImage m image → IsLeftOf P x.0 image)
      (λ m. (image : Image) → IsImage m image → IsLeftOf R x.0 image)
      (λ m each image is. record {
        is = more x.0 image (each image is).is;
        shelf = (each image is).shelf;
      }) x.0 new x.2,
)
