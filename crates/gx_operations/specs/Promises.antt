-- What is promised of a request, in one case of what there is before it.
use Rattle.std.specs.Prelude.{◌≡◌, ◌≢◌, ◌⊎◌, ℕ, List, [], ◌++◌, take}
use Rattle.gx_device.specs.Content.{Content}
use Rattle.gx_device.specs.Crash.{Through}
use Rattle.gx_play.specs.Say.{SameDevices}
use Rattle.gx_play.specs.declared.status.Status.{Status}
use Rattle.gx_play.specs.declared.status.Status.TheVariants as status
use Rattle.gx_play.specs.Endings.{memory_line}
use Rattle.gx_operations.specs.Crashes.{IsUnchanged}

-- What was said is told in two parts: what stands whole, and the last piece, of which a failure may
-- leave a front.
pub record Promise : Type 1 where
  -- with each status but Outside: the two parts, and what there is then
  pub Says : Status → List ℕ → List ℕ → Content → Type 0
  -- where a call of the machine failed before the last piece: what was said, and what there is then
  pub Breaks : List ℕ → Content → Type 0
  -- the status that it has where there is memory and no call of the machine fails
  pub Due : Status → Type 0
  -- what it leaves, whatever its status is
  pub Leaves : Content → Status → Type 0
  -- what a crash at any moment of it leaves
  pub Crashes : Content → Type 0

-- both parts were said, and nothing else
pub record SaysBoth (p : Promise) (old new : Content) (s : Status) : Type 0 where
  pub whole : List ℕ
  pub last : List ℕ
  pub says : p.Says s whole last new
  pub said : new.now.said ≡ old.now.said ++ (whole ++ last)

-- the one part and a front of the other were, as with some other status
pub record SaysPart (p : Promise) (old new : Content) : Type 0 where
  pub meant : Status
  pub whole : List ℕ
  pub last : List ℕ
  pub says : p.Says meant whole last new
  pub count : ℕ
  pub said : new.now.said ≡ old.now.said ++ (whole ++ take count last)

-- it was broken off before the last part
pub record SaysBroken (p : Promise) (old new : Content) : Type 0 where
  pub told : List ℕ
  pub breaks : p.Breaks told new
  pub said : new.now.said ≡ old.now.said ++ told

abbrev pub IsSaid : Promise → Content → Content → Status → Type 0
IsSaid p old new status.Outside = SaysPart p old new ⊎ SaysBroken p old new
IsSaid p old new s = SaysBoth p old new s

-- The promise is kept.
pub record IsKept (p : Promise) (old new : Content) (s : Status) : Type 0 where
  pub said : IsSaid p old new s
  pub due : (d : Status) → p.Due d → s ≢ status.Outside → (s ≡ d) ⊎ (s ≡ status.Memory)
  pub leaves : p.Leaves new s
  pub crashes : p.Crashes new

-- one line, and nothing before it
abbrev pub IsLine : List ℕ → List ℕ → List ℕ → Type 0
IsLine line whole last = (whole ≡ []) × (last ≡ line)

-- it isn't broken off
abbrev pub no_break : List ℕ → Content → Type 0
no_break told new = ⊥

-- all devices are as they were, and what of them a crash may spoil; no script was heard
pub record IsApart (old new : Content) : Type 0 where
  pub devices : SameDevices old new
  pub script : new.script ≡ old.script

-- ---- what is said in one piece

-- such a piece with the status that is due, or the line on memory
abbrev pub SaysOne : Status → (List ℕ → Content → Type 0) → Status → List ℕ → List ℕ → Content
    → Type 0
SaysOne status.Done P status.Done whole last new = (whole ≡ []) × P last new
SaysOne status.Refused P status.Refused whole last new = (whole ≡ []) × P last new
SaysOne status.Device P status.Device whole last new = (whole ≡ []) × P last new
SaysOne due P status.Memory whole last new = IsLine memory_line whole last
SaysOne due P other whole last new = ⊥

-- this line is due, and nothing else happens
abbrev pub says_line : Status → List ℕ → Content → Promise
says_line due line old = record {
  Says = SaysOne due (λ last new. last ≡ line);
  Breaks = no_break;
  Due = λ s. s ≡ due;
  Leaves = λ new s. IsApart old new;
  Crashes = Through (IsUnchanged old.now) old;
}
