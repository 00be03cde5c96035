-- A device that isn't what was asked for, of `run`, `share` and `inspect`.
use Rattle.std.specs.Prelude.{◌≡◌, ◌<◌, ℕ, List, [], Some, None, length, false, get_or, slice_index_or}
use Rattle.gx_device.specs.Content.{Content, NonePending, device_at}
use Rattle.gx_layout.specs.Head.{HasMagic, DifferFirst, text_at, text_area}
use Rattle.gx_layout.specs.Layout.{head_of, is_open}
use Rattle.gx_schema.specs.Printing.{schema_text}
use Rattle.gx_equation.specs.Printing.{equation_text}
use Rattle.gx_store.specs.Device.{IsSize, ReadAlike}
use Rattle.gx_store.specs.Opening.{IsRecoveryOf}
use Rattle.gx_store.specs.Store.{OfBlocks}
use Rattle.gx_play.specs.declared.ending.DeviceWhy.{DeviceWhy}
use Rattle.gx_play.specs.declared.ending.DeviceWhy.TheVariants as device_why
use Rattle.gx_play.specs.declared.status.Status.{Status}
use Rattle.gx_play.specs.declared.status.Status.TheVariants as status
use Rattle.gx_play.specs.Endings.{device_line, memory_line}
use Rattle.gx_operations.specs.Given.{Given, KeepsNamed, KeepsAbsent}
use Rattle.gx_operations.specs.Promises.{Promise, IsLine}
use Rattle.gx_operations.specs.Crashes.{IsUnchanged, CrashesOn, ReadsAsAttached}

-- Why it isn't opened. Each comes only where those before it don't. The place is the first one at
-- which the bytes of the text blocks are others.
abbrev pub IsWrong : Given → List ℕ → Content → DeviceWhy → Type 0
IsWrong g device old device_why.Missing = device_at old.now device ≡ None
IsWrong g device old device_why.Size = OfBlocks device old (λ b. ¬ IsSize g.typing.specs (length b))
IsWrong g device old device_why.NoDatabase =
    OfBlocks device old (λ b.
    IsSize g.typing.specs (length b) × ¬ HasMagic (length b) (get_or b 0 []))
IsWrong g device old (device_why.OtherEquation place) =
    OfBlocks device old (λ b. IsSize g.typing.specs (length b) × HasMagic (length b) (get_or b 0 [])
    × DifferFirst (text_at (head_of b)) (λ q.
    slice_index_or (text_area (schema_text g.schema) (equation_text g.definitions)) q 0)
    (Some place))
IsWrong g device old other = ⊥

-- What is left of it: all; of one with other texts, which reads as before, all but the blocks that
-- recovery writes.
abbrev pub StaysWrong : DeviceWhy → List ℕ → Content → Content → Type 0
StaysWrong device_why.Missing device old new = IsUnchanged old.now new.now
StaysWrong (device_why.OtherEquation place) device old new =
    (blocks : List (List ℕ)) → device_at old.now device ≡ Some blocks
    → OfBlocks device new (λ after. IsRecoveryOf blocks after × ReadAlike blocks after)
StaysWrong why device old new = KeepsNamed device old new

-- What is so where its line was said: where it has other texts recovery is done, and nothing is
-- pending, as without the magic.
abbrev pub IsSettledWrong : DeviceWhy → List ℕ → Content → Type 0
IsSettledWrong (device_why.OtherEquation place) device new =
    OfBlocks device new (λ blocks. is_open (get_or blocks 1 []) ≡ false) × NonePending new
IsSettledWrong device_why.NoDatabase device new = NonePending new
IsSettledWrong why device new = Unit {0}

-- A call failed before the line: nothing was said, and the device reads as it did.
abbrev pub WrongBreaks : List ℕ → Content → List ℕ → Content → Type 0
WrongBreaks device old told new =
    (told ≡ []) × ((blocks : List (List ℕ)) → device_at old.now device ≡ Some blocks
    → OfBlocks device new (ReadAlike blocks))

abbrev pub WrongSays : DeviceWhy → List ℕ → Content → Status → List ℕ → List ℕ → Content → Type 0
WrongSays why device old status.Device whole last new =
    IsLine (device_line why) whole last × StaysWrong why device old new
    × IsSettledWrong why device new
WrongSays why device old status.Memory whole last new =
    IsLine memory_line whole last × StaysWrong why device old new
WrongSays why device old other whole last new = ⊥

-- No script is heard, and no device is made.
abbrev pub finds_wrong : Given → DeviceWhy → List ℕ → Content → Promise
finds_wrong g why device old = record {
  Says = WrongSays why device old;
  Breaks = WrongBreaks device old;
  Due = λ s. s ≡ status.Device;
  Leaves = λ new s. KeepsAbsent device old new × (new.script ≡ old.script);
  Crashes = CrashesOn device ReadsAsAttached old;
}

-- the line of damage, in a block that the device has
abbrev pub IsDamageLine : List ℕ → Content → List ℕ → Type 0
IsDamageLine device old line =
    (block : ℕ) × OfBlocks device old (λ blocks. block < length blocks)
    × (line ≡ device_line (device_why.Damaged block))
