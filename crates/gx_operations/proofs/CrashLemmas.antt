-- What a crash leaves while a device is attached, while something follows, and while a line is said.
use Rattle.std.proofs.Common.{◌≡◌, inl, inr, ℕ, ◌<◌, Bool, false, List, [], ◌++◌, length, take, get_or, Some, refl, sym, ◌∙◌, ap, subst}
use Rattle.std.specs.Prelude.{◌≢◌}
use Rattle.std.proofs.lemmas.Option.{same_Some}
use Rattle.gx_device.specs.Content.{Moment, Content, device_at}
use Rattle.gx_device.specs.Crash.{Image, IsImage, EachImage, Through, LeavesOnly}
use Rattle.gx_device.proofs.RunLemmas.{joined, weakened}
use Rattle.gx_store.specs.Crashes.{Unattached, IsAsBefore, IsFirstOf, IsReached, IsOpeningImage, Opens}
use Rattle.gx_store.specs.declared.unopened.Unopened.{Unopened}
use Rattle.gx_store.specs.declared.unopened.Unopened.TheVariants as unopened
use Rattle.gx_store.proofs.CrashLemmas.{first_on, reached_later}
use Rattle.gx_play.specs.declared.ending.DeviceWhy.TheVariants as device_why
use Rattle.gx_play.specs.declared.ending.Ending.{Ending}
use Rattle.gx_play.specs.declared.ending.Ending.TheVariants as ending
use Rattle.gx_play.specs.Say.{IsSaying, SaysThrough}
use Rattle.gx_play.specs.Endings.{EndsThrough, ending_line, memory_line, unopened_ending}
use Rattle.gx_operations.specs.Crashes.{IsUnchanged, IsStill, IsIdle, IsIdleLine, IsLeftOf, CrashesOn, ReadsAsAttached}
use Rattle.gx_operations.proofs.UnchangedLemmas.{unchanged_by, still_same, idle_joined, attached_crashes}

-- ---- images

-- the blocks as they read are an image of the content
pub reads_now : (P : Image → Type 0) (old new : Content) → LeavesOnly P old new
    → P (record { blocks = new.now.blocks; said = new.now.said; shelf = new.now.shelf })
reads_now P old new run =
    run.now _ (record { said = refl; shelf = refl; count = refl; same = λ n below firm. refl })

-- what a crash leaves has a weaker fact
pub leaves_weaker : (P Q : Image → Type 0) → ((image : Image) → P image → Q image)
    → (old new : Content) → LeavesOnly P old new → LeavesOnly Q old new
leaves_weaker P Q f old new run =
    weakened (EachImage P) (EachImage Q) (λ m leaves image is. f image (leaves image is)) old new run

-- one run after another
pub leaves_both : (P : Image → Type 0) (old mid new : Content) → LeavesOnly P old mid
    → LeavesOnly P mid new → LeavesOnly P old new
leaves_both P old mid new first then = joined (EachImage P) old mid new first then

-- an image of a moment is one of each moment with the same blocks, but for what was said
pub image_unsaid : (old m : Moment) (image : Image) → m.blocks ≡ old.blocks
    → m.pending ≡ old.pending → m.shelf ≡ old.shelf → IsImage m image
    → IsImage old (record image { said = old.said })
image_unsaid old m image blocks pending shelf is = record {
  said = refl;
  shelf = is.shelf ∙ shelf;
  count = is.count ∙ ap (λ (bs : List (List ℕ)). length bs) blocks;
  same = λ n below firm.
      is.same n (subst (λ (bs : List (List ℕ)). n < length bs) (sym blocks) below)
      (ap (λ (ps : List Bool). get_or ps n false) pending ∙ firm)
      ∙ ap (λ (bs : List (List ℕ)). get_or bs n []) blocks;
}

-- ---- a text is said

-- While a text is said each image is one of before, with a front of the text behind what was said.
pub says_leaves : (Q : Image → Type 0) (text : List ℕ) (old new : Content)
    → SaysThrough text old new
    → ((image : Image) (count : ℕ) → IsImage old.now (record image { said = old.now.said })
    → image.said ≡ old.now.said ++ take count text → Q image)
    → LeavesOnly Q old new
says_leaves Q text old new run each =
    weakened (IsSaying text old.now) (EachImage Q)
    (λ m saying image is.
    each image saying.said.0
    (image_unsaid old.now m image saying.blocks saying.pending saying.shelf is)
    (is.said ∙ saying.said.1))
    old new run

-- the same where one of two texts is
pub ends_leaves : (Q : Image → Type 0) (why : Ending) (old new : Content)
    → EndsThrough why old new
    → ((image : Image) (count : ℕ) → IsImage old.now (record image { said = old.now.said })
    → image.said ≡ old.now.said ++ take count (ending_line why) → Q image)
    → (why ≢ ending.Fault → (image : Image) (count : ℕ)
    → IsImage old.now (record image { said = old.now.said })
    → image.said ≡ old.now.said ++ take count memory_line → Q image)
    → LeavesOnly Q old new
ends_leaves Q why old new (inl run) each memory =
    says_leaves Q (ending_line why) old new run each
ends_leaves Q why old new (inr run) each memory =
    says_leaves Q memory_line old new run.1 (memory run.0)

-- ---- no device is changed

pub says_unchanged : (text : List ℕ) (old new : Content) → SaysThrough text old new
    → Through (IsUnchanged old.now) old new
says_unchanged text old new run =
    weakened (IsSaying text old.now) (IsUnchanged old.now)
    (λ m saying. unchanged_by old.now m saying.blocks saying.pending saying.shelf) old new run

pub ends_unchanged : (why : Ending) (old new : Content) → EndsThrough why old new
    → Through (IsUnchanged old.now) old new
ends_unchanged why old new (inl run) = says_unchanged (ending_line why) old new run
ends_unchanged why old new (inr run) = says_unchanged memory_line old new run.1

pub unattached_unchanged : (old new : Content) → Unattached old new
    → Through (IsUnchanged old.now) old new
unattached_unchanged old new run =
    weakened (λ m. m ≡ old.now) (IsUnchanged old.now)
    (λ m same. subst (λ (x : Moment). IsUnchanged old.now x) (sym same)
    (unchanged_by old.now old.now refl refl refl)) old new run

-- no more is said than a front of such a line
pub says_idle : (text : List ℕ) → IsIdleLine text → (old new : Content)
    → SaysThrough text old new → Through (IsIdle old.now) old new
says_idle text idle old new run =
    weakened (IsSaying text old.now) (IsIdle old.now)
    (λ m saying. record {
      unchanged = unchanged_by old.now m saying.blocks saying.pending saying.shelf;
      line = text;
      idle = idle;
      count = saying.said.0;
      said = saying.said.1;
    }) old new run

pub ends_idle : (why : Ending) → IsIdleLine (ending_line why) → (old new : Content)
    → EndsThrough why old new → Through (IsIdle old.now) old new
ends_idle why idle old new (inl run) = says_idle (ending_line why) idle old new run
ends_idle why idle old new (inr run) = says_idle memory_line (inr (inl refl)) old new run.1

-- the same of an ending whose line has no fronts but those of the line on memory
pub ends_idle_short : (why : Ending)
    → ((n : ℕ) → (k : ℕ) × (take n (ending_line why) ≡ take k memory_line)) → (old new : Content)
    → EndsThrough why old new → Through (IsIdle old.now) old new
ends_idle_short why short old new (inl run) =
    weakened (IsSaying (ending_line why) old.now) (IsIdle old.now)
    (λ m saying.
    let k = short saying.said.0 in
    record {
      unchanged = unchanged_by old.now m saying.blocks saying.pending saying.shelf;
      line = memory_line;
      idle = inr (inl refl);
      count = k.0;
      said = saying.said.1 ∙ ap (λ (t : List ℕ). old.now.said ++ t) k.1;
    }) old new run
ends_idle_short why short old new (inr run) =
    says_idle memory_line (inr (inl refl)) old new run.1

-- the line of a device that isn't had
pub unopened_idle : (e : Unopened) → IsIdleLine (ending_line (unopened_ending e))
unopened_idle unopened.Missing = inr (inr (device_why.Missing, refl))
unopened_idle unopened.Exists = inr (inr (device_why.Exists, refl))
unopened_idle unopened.Size = inr (inr (device_why.Size, refl))
unopened_idle unopened.NoDatabase = inr (inr (device_why.NoDatabase, refl))
unopened_idle (unopened.OtherTexts place) = inr (inr (device_why.OtherEquation place, refl))
unopened_idle unopened.Fault = inl refl
unopened_idle unopened.NoMemory = inr (inl refl)

-- nothing changed, and then nothing of a play was said
pub unattached_idle : (old mid new : Content) → Unattached old mid
    → Through (IsIdle mid.now) mid new → Through (IsIdle old.now) old new
unattached_idle old mid new first then =
    idle_joined old mid new
    (weakened (λ m. m ≡ old.now) (IsStill old.now)
    (λ m same. subst (λ (x : Moment). IsStill old.now x) (sym same) (still_same old.now))
    old mid first) then

-- nothing changed, and then no device was
pub unattached_then : (old mid new : Content) → Unattached old mid
    → Through (IsUnchanged mid.now) mid new → Through (IsUnchanged old.now) old new
unattached_then old mid new first then =
    joined (IsUnchanged old.now) old mid new (unattached_unchanged old mid first)
    (weakened (IsUnchanged mid.now) (IsUnchanged old.now)
    (λ m u. subst (λ (x : Moment). IsUnchanged x m) first.now u) mid new then)

-- ---- a device is attached

-- what reads as it did when the device was attached
opens_read : (name : List ℕ) (old mid : Content) (o : Opens name old mid)
    → (blocks : List (List ℕ)) → device_at old.now name ≡ Some blocks
    → o.middle.now.blocks ≡ blocks
opens_read name old mid o blocks there =
    same_Some o.middle.now.blocks blocks (sym o.was ∙ there)

-- a line is said, and no block is touched
says_before : (text : List ℕ) (old new : Content) → SaysThrough text old new
    → Through (IsAsBefore old.now) old new
says_before text old new run =
    weakened (IsSaying text old.now) (IsAsBefore old.now)
    (λ m saying. record { blocks = saying.blocks; pending = saying.pending }) old new run

pub ends_before : (why : Ending) (old new : Content) → EndsThrough why old new
    → Through (IsAsBefore old.now) old new
ends_before why old new (inl run) = says_before (ending_line why) old new run
ends_before why old new (inr run) = says_before memory_line old new run.1

-- an image while a device is opened keeps the other devices
pub opening_shelf : (m : Moment) (image : Image) → IsOpeningImage m image → image.shelf ≡ m.shelf
opening_shelf m image (inl is) = is.shelf
opening_shelf m image (inr is) = is.shelf

-- what a crash leaves while a device is opened
pub opens_leaves : (P : Content → Image → Type 0) (name : List ℕ) (old mid : Content)
    (o : Opens name old mid)
    → ((image : Image) → IsOpeningImage o.middle.now image → P o.middle image)
    → LeavesOnly (IsLeftOf P o.middle) o.middle mid
opens_leaves P name old mid o each =
    leaves_weaker (IsOpeningImage o.middle.now) (IsLeftOf P o.middle)
    (λ image is. record { is = each image is; shelf = opening_shelf o.middle.now image is })
    o.middle mid o.images

-- a device is opened, and then something follows
pub opens_then : (P : Content → Image → Type 0) (name : List ℕ) (old mid new : Content)
    (o : Opens name old mid) → IsReached o.middle new
    → ((image : Image) → IsOpeningImage o.middle.now image → P o.middle image)
    → LeavesOnly (IsLeftOf P o.middle) mid new → CrashesOn name P old new
opens_then P name old mid new o reached each then =
    attached_crashes name P old o.middle new o.attached (opens_read name old mid o) reached
    (leaves_both (IsLeftOf P o.middle) o.middle mid new (opens_leaves P name old mid o each) then)

-- what was reached when it was refused stays so while a line is said
pub opens_reached : (name : List ℕ) (why : Ending) (old mid new : Content)
    (o : Opens name old mid) → EndsThrough why mid new → IsReached o.middle new
opens_reached name why old mid new o ends =
    reached_later o.middle mid new o.reached (ends_before why mid new ends)

-- and when it was opened, whatever follows
pub first_reached : (middle mid new : Content) → IsFirstOf middle mid → (P : Image → Type 0)
    → LeavesOnly P mid new → IsReached middle new
first_reached middle mid new first P run =
    inl (first_on middle mid new first run.between run.past)

-- An image of the last content but for what was said is one while it was opened.
pub opening_unsaid : (name : List ℕ) (old mid : Content) (o : Opens name old mid) (image : Image)
    → IsImage mid.now (record image { said = mid.now.said })
    → IsOpeningImage o.middle.now (record image { said = mid.now.said })
opening_unsaid name old mid o image is = o.images.now (record image { said = mid.now.said }) is

-- blocks that are an image's or read as before, whatever was said
pub opening_reads : (middle : Content) (image : Image) (said : List ℕ)
    → IsOpeningImage middle.now (record image { said = said })
    → ReadsAsAttached middle image
opening_reads middle image said (inl is) = inl (record {
  said = refl;
  shelf = is.shelf;
  count = is.count;
  same = is.same;
})
opening_reads middle image said (inr is) = inr is.alike

-- a device is opened and refused, and a line of the end said
pub opens_refused : (name : List ℕ) (why : Ending) (old mid new : Content)
    → Opens name old mid → EndsThrough why mid new → CrashesOn name ReadsAsAttached old new
opens_refused name why old mid new o ends =
    let left = IsLeftOf ReadsAsAttached o.middle in
    let each = λ (image : Image)
    (is : IsImage mid.now (record image { said = mid.now.said })).
    let at = opening_unsaid name old mid o image is in
    let l : IsLeftOf ReadsAsAttached o.middle image = record {
      is = opening_reads o.middle image mid.now.said at;
      shelf = opening_shelf o.middle.now (record image { said = mid.now.said }) at;
    } in
    l in
    opens_then ReadsAsAttached name old mid new o (opens_reached name why old mid new o ends)
    (λ image is. opening_reads o.middle image image.said is)
    (ends_leaves left why mid new ends
    (λ image count is said. each image is) (λ other image count is said. each image is))
