-- What a crash within a call leaves, in weaker words, and what it leaves while it is calm.
use Rattle.std.proofs.Common.{◌≡◌, inl, inr, ℕ, List, ◌++◌, length, ◌∙◌, ap, subst, arith, length-append}
use Rattle.std.proofs.lemmas.List.{append-nil}
use Rattle.gx_laws.proofs.ListLemmas.{none_long}
use Rattle.gx_device.specs.Content.{Moment, Content}
use Rattle.gx_device.specs.Crash.{Image, EachImage, LeavesOnly}
use Rattle.gx_device.specs.Quiet.{IsPrefix, IsQuiet, QuietSince, IsOldOrNew}
use Rattle.gx_device.proofs.RunLemmas.{weakened}
use Rattle.gx_ports.specs.declared.view.View.{Ghosts}
use Rattle.gx_ports.specs.Heads.{Head}
use Rattle.gx_ports.specs.LeafMaps.{LeafMap}
use Rattle.gx_ports.specs.Calls.{Keeps}
use Rattle.gx_ports.specs.Calm.{IsStored, StandsForKept, StaysKept}

module _ (a b c d : List (List ℕ) → Type 0) (first : (blocks : List (List ℕ)) → a blocks → c blocks)
    (second : (blocks : List (List ℕ)) → b blocks → d blocks) (start : Moment) where
  turned : (image : Image) → IsOldOrNew a b start image → IsOldOrNew c d start image
  turned image q = record {
    is = elim q.is [
      | inl s ↦ inl (first image.blocks s)
      | inr s ↦ inr (second image.blocks s)
    ];
    said = q.said;
    shelf = q.shelf;
  }

  -- what stands for the old or for the new stands for weaker things
  pub replaced_weaker : (old new : Content) → LeavesOnly (IsOldOrNew a b start) old new
      → LeavesOnly (IsOldOrNew c d start) old new
  replaced_weaker old new run =
      weakened (EachImage (IsOldOrNew a b start)) (EachImage (IsOldOrNew c d start))
      (λ m leaves image is. turned image (leaves image is)) old new run

-- what is quiet since a content leaves this from there on
pub quiet_images : (stands : List (List ℕ) → Type 0) (start now : Content)
    → QuietSince stands start now
    → LeavesOnly (IsQuiet stands start.now now.now.said) start now
quiet_images stands start now quiet =
    record { between = quiet.since; past = quiet.past; each = quiet.each; now = quiet.last }

-- two texts that begin with each other are one
pub prefix_both : (xs ys : List ℕ) → IsPrefix xs ys → IsPrefix ys xs → ys ≡ xs
prefix_both xs ys p q =
    let more = length-append xs p.0 in
    let less = length-append ys q.0 in
    let up = ap (λ (l : List ℕ). length l) p.1 in
    let down = ap (λ (l : List ℕ). length l) q.1 in
    p.1 ∙ ap (λ (l : List ℕ). xs ++ l) (none_long p.0 (omega (arith, more, less, up, down)))
    ∙ append-nil xs

-- what stands for the same maps under the same head
pub stored_same : (stands : Head → List LeafMap → List (List ℕ) → Type 0)
    (laid : Head → List (List ℕ) → Type 0) (old new : Head) (was is : List LeafMap)
    (whole now : Type 0) (blocks : List (List ℕ)) → new ≡ old → is ≡ was → (whole → now)
    → IsStored stands laid new is now blocks
    → IsStored stands laid old was whole blocks
stored_same stands laid old new was is whole now blocks head maps still s = record {
  is = subst (λ (h : Head). stands h was blocks) head
      (subst (λ (ms : List LeafMap). stands new ms blocks) maps s.is);
  laid_is = λ w. subst (λ (h : Head). laid h blocks) head (s.laid_is (still w));
}

-- leaves whose calm tells of crashes, and goes on
module _ {S : Type 0} (g : Ghosts S)
    (means : (p : S) (start : Content) → g.calm p start → StaysKept g p start)
    (goes_on : (p : S) (start : Content) → g.calm p start → g.calm p (g.content p)) where
  -- A call that keeps what is calm: within it a crash leaves what stands for the kept maps.
  pub stays_kept : (old new : S) → ((start : Content) → g.calm old start → g.calm new start)
      → (start : Content) → g.calm old start → StaysKept g new (g.content old)
  stays_kept old new calm start is =
      means new (g.content old) (calm (g.content old) (goes_on old start is))

  pub kept_since : (old new : S) → g.head new ≡ g.head old → g.kept new ≡ g.kept old
      → (g.kept_whole old → g.kept_whole new) → (blocks : List (List ℕ))
      → StandsForKept g new blocks → StandsForKept g old blocks
  kept_since old new head kept whole blocks s =
      stored_same g.stands g.laid (g.head old) (g.head new) (g.kept old) (g.kept new)
      (g.kept_whole old) (g.kept_whole new) blocks head kept whole s

  -- a call that changes the working maps alone, in the words of a commit
  pub keeps_images : (old new : S) → Keeps g old new → (start : Content) → g.calm old start
      → LeavesOnly (IsOldOrNew (StandsForKept g old) (StandsForKept g old) (g.content old).now)
      (g.content old) (g.content new)
  keeps_images old new keeps start is =
      let first = (g.content old).now in
      let last = (g.content new).now.said in
      weakened (EachImage (IsQuiet (StandsForKept g new) first last))
      (EachImage (IsOldOrNew (StandsForKept g old) (StandsForKept g old) first))
      (λ m leaves image at.
      let q = leaves image at in
      record {
        is = inl (kept_since old new keeps.head keeps.kept keeps.kept_whole.0 image.blocks q.is);
        said = prefix_both first.said image.said q.begins
            (subst (λ (s : List ℕ). IsPrefix image.said s) keeps.silent.said q.goes_on);
        shelf = q.shelf;
      }) (g.content old) (g.content new)
      (quiet_images (StandsForKept g new) (g.content old) (g.content new)
      (stays_kept old new keeps.calm start is))
