-- Calls that fetch texts change nothing at any moment.
use Rattle.std.proofs.Common.{◌≡◌, refl, ◌∙◌}
use Rattle.gx_device.specs.Content.{Content, SameContent, Ticks}
use Rattle.gx_device.specs.Crash.{Through}
use Rattle.gx_device.proofs.RunLemmas.{started, joined, ticked, weakened}

-- no call
pub unfetched_yet : (old : Content) → Through (λ m. m ≡ old.now) old old
unfetched_yet old = started (λ m. m ≡ old.now) old refl

-- one call
pub fetched_once : (old new : Content) → SameContent old new → Ticks old new
    → Through (λ m. m ≡ old.now) old new
fetched_once old new same time = ticked (λ m. m ≡ old.now) old new time refl same.now

-- some calls after others
pub fetched_on : (old mid new : Content) → Through (λ m. m ≡ old.now) old mid
    → Through (λ m. m ≡ mid.now) mid new → Through (λ m. m ≡ old.now) old new
fetched_on old mid new first then =
    joined (λ m. m ≡ old.now) old mid new first
    (weakened (λ m. m ≡ mid.now) (λ m. m ≡ old.now) (λ m same. same ∙ first.now) mid new then)
