-- How a request ends that isn't played to its end: its line and its status.
use Rattle.std.specs.Prelude.{◌≡◌, ◌≢◌, ◌⊎◌, ℕ, ◌≤◌, Bool, true, false, Result, Ok, Err, IsErrOf, List, [], ◌++◌, take, codes}
use Rattle.std.specs.Fmt.{decimal}
use Rattle.gx_device.specs.Content.{Content}
use Rattle.gx_device.specs.Faults.{Rose}
use Rattle.gx_tokens.specs.Whys.{word_of as why_word}
use Rattle.gx_commands.specs.LineWhys.{word_of as line_word}
use Rattle.gx_typing.specs.Reasons.{words_of as type_words}
use Rattle.gx_ports.specs.declared.stop.Stop.TheVariants as stop
use Rattle.gx_store.specs.declared.unopened.Unopened.{Unopened}
use Rattle.gx_store.specs.declared.unopened.Unopened.TheVariants as unopened
use Rattle.gx_play.specs.declared.ending.DeviceWhy.{DeviceWhy}
use Rattle.gx_play.specs.declared.ending.DeviceWhy.TheVariants as device_why
use Rattle.gx_play.specs.declared.ending.Ending.{Ending}
use Rattle.gx_play.specs.declared.ending.Ending.TheVariants as ending
use Rattle.gx_play.specs.declared.play.PlayEnd.{PlayEnd}
use Rattle.gx_play.specs.declared.play.PlayEnd.TheVariants as play_end
use Rattle.gx_play.specs.declared.status.Status.{Status}
use Rattle.gx_play.specs.declared.status.Status.TheVariants as status
use Rattle.gx_play.specs.Say.{IsCut, SaysThrough}
use Rattle.gx_play.specs.Summaries.{accepted_line}

abbrev pub memory_line : List ℕ
memory_line = codes "stopped: memory\n"

abbrev pub full_line : List ℕ
full_line = codes "stopped: full\n"

-- why the device isn't what was asked for
abbrev pub device_line : DeviceWhy → List ℕ
device_line device_why.Missing = codes "device: missing\n"
device_line device_why.Exists = codes "device: exists\n"
device_line device_why.Size = codes "device: size\n"
device_line device_why.NoDatabase = codes "device: no database\n"
device_line (device_why.OtherEquation place) =
    codes "device: other equation at " ++ decimal place ++ codes "\n"
device_line (device_why.Damaged block) = codes "device: damaged " ++ decimal block ++ codes "\n"

-- a device of so many blocks was made, which has so many pages
abbrev pub made_line : ℕ → ℕ → List ℕ
made_line blocks pages =
    codes "made: " ++ decimal blocks ++ codes " blocks, " ++ decimal pages ++ codes " pages\n"

-- the line that is said of an ending; after a failed call nothing is said
abbrev pub ending_line : Ending → List ℕ
ending_line ending.Words = codes "refused: words\n"
ending_line (ending.Missing name) = codes "refused: missing " ++ name.now ++ codes "\n"
ending_line (ending.TooLong name) = codes "refused: too long " ++ name.now ++ codes "\n"
ending_line (ending.Schema line why) =
    codes "refused: schema line " ++ decimal line ++ codes ": " ++ why_word why ++ codes "\n"
ending_line (ending.Equation line why) =
    codes "refused: equation line " ++ decimal line ++ codes ": " ++ why_word why ++ codes "\n"
ending_line (ending.Type line why) =
    codes "refused: type line " ++ decimal line ++ codes ": " ++ type_words why ++ codes "\n"
ending_line ending.TextsTooLong = codes "refused: texts too long\n"
ending_line (ending.Accepted summary) = accepted_line summary
ending_line (ending.Line number why) =
    codes "stopped at line " ++ decimal number ++ codes ": " ++ line_word why ++ codes "\n"
ending_line ending.Full = full_line
ending_line (ending.Device why) = device_line why
ending_line (ending.Made blocks pages) = made_line blocks pages
ending_line ending.Fault = []
ending_line ending.NoMemory = memory_line

-- how the request ends where its play does
abbrev pub ending_of : PlayEnd → Ending
ending_of (play_end.Line number why) = ending.Line number why
ending_of (play_end.Stop stop.NoMemory) = ending.NoMemory
ending_of (play_end.Stop stop.Full) = ending.Full
ending_of (play_end.Stop (stop.Damaged block)) = ending.Device (device_why.Damaged block)
ending_of (play_end.Stop stop.Fault) = ending.Fault

-- how it ends where its device isn't had
abbrev pub unopened_ending : Unopened → Ending
unopened_ending unopened.Missing = ending.Device device_why.Missing
unopened_ending unopened.Exists = ending.Device device_why.Exists
unopened_ending unopened.Size = ending.Device device_why.Size
unopened_ending unopened.NoDatabase = ending.Device device_why.NoDatabase
unopened_ending (unopened.OtherTexts place) = ending.Device (device_why.OtherEquation place)
unopened_ending unopened.Fault = ending.Fault
unopened_ending unopened.NoMemory = ending.NoMemory

abbrev pub status_of : Ending → Status
status_of (ending.Accepted summary) = status.Done
status_of (ending.Line number why) = status.Script
status_of ending.Full = status.Full
status_of (ending.Device why) = status.Device
status_of (ending.Made blocks pages) = status.Done
status_of ending.Fault = status.Outside
status_of ending.NoMemory = status.Memory
status_of _ = status.Refused

-- whether a call of the machine failed
abbrev pub is_outside : Ending → Bool
is_outside ending.Fault = true
is_outside _ = false

abbrev pub is_fault : {T : Type 0} → Result T Ending → Bool
is_fault (Err why) = is_outside why
is_fault (Ok x) = false

-- `Fault` comes only where a call of the machine failed, and with any other answer none did
pub record CountsFault {T : Type 0} (before now : ℕ) (result : Result T Ending) : Type 0 where
  pub fault : IsErrOf result ending.Fault → Rose before now
  pub counted : is_fault result ≡ false → now ≡ before
  pub later : before ≤ now

-- the same by the status: `Outside` comes only where one failed, and with any other none did
pub record CountsOutside (before now : ℕ) (s : Status) : Type 0 where
  pub outside : s ≡ status.Outside → Rose before now
  pub counted : s ≢ status.Outside → now ≡ before
  pub later : before ≤ now

-- a failed call of the machine, or want of memory
abbrev pub IsOutside : ℕ → ℕ → Ending → Type 0
IsOutside before now ending.Fault = Rose before now
IsOutside before now ending.NoMemory = Unit {0}
IsOutside before now _ = ⊥

-- how a play may end: at a line, with a stop, or with a failed call
abbrev pub IsPlayEnding : Ending → Type 0
IsPlayEnding (ending.Line number why) = Unit {0}
IsPlayEnding ending.Fault = Unit {0}
IsPlayEnding ending.NoMemory = Unit {0}
IsPlayEnding ending.Full = Unit {0}
IsPlayEnding (ending.Device (device_why.Damaged block)) = Unit {0}
IsPlayEnding _ = ⊥

-- ---- what was said of an ending

-- the status that is due
pub record IsStatusFor (why : Ending) (s : Status) : Type 0 where
  pub status_is : s ≢ status.Outside → s ≢ status.Memory → s ≡ status_of why
  pub fault : why ≡ ending.Fault → s ≡ status.Outside

-- what is said of it where it has this status
pub record SaysEnding (why : Ending) (old new : Content) (s : Status) : Type 0 where
  pub said : s ≢ status.Outside → s ≢ status.Memory → new.now.said ≡ old.now.said ++ ending_line why
  pub memory : s ≡ status.Memory → new.now.said ≡ old.now.said ++ memory_line
  pub cut : s ≡ status.Outside → IsCut (ending_line why) memory_line old new
  pub silent : why ≡ ending.Fault → new.now.said ≡ old.now.said
  pub script : new.script ≡ old.script

-- the status that it gave, and what was said of it
pub record IsEnded (why : Ending) (old new : Content) (s : Status) : Type 0 where
  pub due : IsStatusFor why s
  pub words : SaysEnding why old new s

-- the same of a play, which says nothing more where it ends at no line
abbrev pub IsFinished : Result (Unit {0}) Ending → Content → Content → Status → Type 0
IsFinished (Ok x) old new s = (s ≡ status.Done) × (new ≡ old)
IsFinished (Err why) old new s = IsEnded why old new s

-- The text was said whole, or after a failure a front of it; or the line of the ending in its
-- place.
abbrev pub IsTold : Result (List ℕ) Ending → Content → Content → Status → Type 0
IsTold (Ok text) old new s =
    ((s ≡ status.Done) × (new.now.said ≡ old.now.said ++ text))
    ⊎ ((s ≡ status.Outside) × ((count : ℕ) × (new.now.said ≡ old.now.said ++ take count text)))
IsTold (Err why) old new s = IsEnded why old new s

-- ---- each moment while an ending is said

-- a front of its line was said, or of the line on memory in its place; after a failed call nothing
abbrev pub EndsThrough : Ending → Content → Content → Type 0
EndsThrough why old new = SaysThrough (ending_line why) old new
    ⊎ ((why ≢ ending.Fault) × SaysThrough memory_line old new)

-- the same of a play, which says nothing more where it ends at no line
abbrev pub FinishesThrough : Result (Unit {0}) Ending → Content → Content → Type 0
FinishesThrough (Ok x) old new = SaysThrough [] old new
FinishesThrough (Err why) old new = EndsThrough why old new

-- and of a text that was found
abbrev pub TellsThrough : Result (List ℕ) Ending → Content → Content → Type 0
TellsThrough (Ok text) old new = SaysThrough text old new
TellsThrough (Err why) old new = EndsThrough why old new
