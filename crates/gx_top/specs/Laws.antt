-- What laws say.
use Rattle.std.specs.Prelude.{◌≡◌, ◌⊎◌, ℕ, List, ◌++◌, Some}
use Rattle.std.specs.FinMap.{get}
use Rattle.gx_device.specs.Content.{Content, Texts}
use Rattle.gx_schema.specs.declared.schema.Schema.{Schema}
use Rattle.gx_schema.specs.Grammar.{IsSchemaText}
use Rattle.gx_model.specs.States.{State, empty_state}
use Rattle.gx_model.specs.Play.{End, end_text}
use Rattle.gx_model.specs.Languages.{IsPlayIn}
use Rattle.gx_commands.specs.Lines.{script_lines}
use Rattle.gx_sharing.specs.Sharing.{Sharing, share_start}
use Rattle.gx_sharing.specs.Texts.{turns}
use Rattle.gx_sharing.specs.Turns.{Turn}
use Rattle.gx_shares.specs.Player.{texts_of}
use Rattle.gx_store.specs.Opening.{AreOpened}
use Rattle.gx_store.specs.Store.{OfBlocks}
use Rattle.gx_play.specs.Played.{IsPlayText}
use Rattle.gx_play.specs.declared.ending.DeviceWhy.{DeviceWhy}
use Rattle.gx_play.specs.declared.ending.Ending.{Ending}
use Rattle.gx_play.specs.declared.status.Status.{Status}
use Rattle.gx_play.specs.declared.status.Status.TheVariants as status
use Rattle.gx_requests.specs.Words.{Action, trying, making, running, sharing, inspecting, request_words}
use Rattle.gx_requests.specs.Requests.{IsRefused}
use Rattle.gx_operations.specs.Given.{Given, under, IsHeldOn, IsStateless}
use Rattle.gx_operations.specs.Wrong.{IsWrong}
use Rattle.gx_top.specs.Promised.{IsGiven, IsPromised}

-- the words are refused for a reason, or their texts are accepted
abbrev pub AreRefusedOrGiven : List (List ℕ) → Texts → Type 0
AreRefusedOrGiven words texts = ((why : Ending) × IsRefused words texts why)
    ⊎ ((a : Action) × (g : Given) × IsGiven words texts a g)

-- ---- of two requests that play one script

-- what is asked for is to play a script
abbrev pub IsToPlay : Action → Type 0
IsToPlay trying = Unit {0}
IsToPlay (running device) = Unit {0}
IsToPlay other = ⊥

-- all that is said of a script that is played from this state to its end, or to the line that ends
-- it
pub record IsWholeText (words : List (List ℕ)) (before : Content) (start : State)
    (text : List ℕ) : Type 0 where
  pub action : Action
  pub plays : IsToPlay action
  pub given : Given
  pub is : IsGiven words before.aside.texts action given
  pub end : End
  pub kept : State
  pub played : IsPlayText given.schema start before.script end text kept

-- the words name a text that means this schema
pub record IsUnder (words : List (List ℕ)) (texts : Texts) (schema : Schema) : Type 0 where
  pub action : Action
  pub schema_name : List ℕ
  pub equation_name : List ℕ
  pub words_are : words ≡ request_words action schema_name equation_name
  pub text : List ℕ
  pub there : get texts schema_name ≡ Some text
  pub means : IsSchemaText text schema

-- two requests ask for one script to be played under one schema, however it is written, and
-- whatever their equations are
pub record PlayOneScript (words others : List (List ℕ)) (before other : Content) : Type 0 where
  pub schema : Schema
  pub under : IsUnder words before.aside.texts schema
  pub other_under : IsUnder others other.aside.texts schema
  pub script : before.script ≡ other.script

-- ---- of requests that follow each other on one machine

-- Words that were accepted before are accepted then, with the same meaning, and the device holds
-- the state. So much `run`, `share` and `inspect` are promised for.
pub record IsHeldFor (g : Given) (device : List ℕ) (s : State) (old new : Content) : Type 0 where
  pub given : (words : List (List ℕ)) (a : Action) (h : Given)
      → IsGiven words old.aside.texts a h → IsGiven words new.aside.texts a h
  pub held : IsHeldOn g device s new

-- The next request finds such a state, of which this is so.
abbrev pub NextFinds : Given → List ℕ → Content → Content → (State → Type 0) → Type 0
NextFinds g device old new P = (s : State) × P s × IsHeldFor g device s old new

-- the text was said that the script's play from this state has, with this last kept state
abbrev pub SaysPlay : Schema → State → Content → Content → State → Type 0
SaysPlay schema start old new kept =
    (end : End) × (text : List ℕ) × IsPlayText schema start old.script end text kept
    × (new.now.said ≡ old.now.said ++ text)

-- the same of its turns
abbrev pub SaysShare : Schema → State → Content → Content → State → Type 0
SaysShare schema start old new kept =
    (end : End) × (ts : List Turn) × (final : Sharing)
    × IsPlayIn (turns schema) (share_start start) (script_lines old.script) ts final end
    × (new.now.said ≡ old.now.said ++ (texts_of ts ++ end_text end)) × (kept ≡ final.kept)

-- What a request that ended so leaves for the next one: `make` the empty state; `run` and `share`,
-- to the script's end or a line of it, the last kept state; and `inspect` the state that it found.
pub record Follows (words : List (List ℕ)) (g : Given) (device : List ℕ)
    (old new : Content) : Type 0 where
  pub made : (digits : List ℕ) → IsGiven words old.aside.texts (making device digits) g
      → IsPromised words old new status.Done
      → NextFinds g device old new (λ s. s ≡ empty_state g.schema)
  pub ran : IsGiven words old.aside.texts (running device) g → (start : State)
      → IsHeldOn g device start old → (s : Status) → (s ≡ status.Done) ⊎ (s ≡ status.Script)
      → IsPromised words old new s
      → NextFinds g device old new (SaysPlay g.schema start old new)
  pub shared : IsGiven words old.aside.texts (sharing device) g → (start : State)
      → IsHeldOn g device start old → (s : Status) → (s ≡ status.Done) ⊎ (s ≡ status.Script)
      → IsPromised words old new s
      → NextFinds g device old new (SaysShare g.schema start old new)
  pub inspected : IsGiven words old.aside.texts (inspecting device) g → (state : State)
      → IsHeldOn g device state old → (s : Status) → IsPromised words old new s
      → NextFinds g device old new (λ s. s ≡ state)

-- ---- of the cases of a request on a device that is there

-- The device is wrong for one of these reasons, or it has the size, the magic and the texts; never
-- both. One that holds a state has them, and no other reason stands against it than that it holds
-- none.
pub record AreCases (g : Given) (device : List ℕ) (c : Content) : Type 0 where
  pub some : ((why : DeviceWhy) × IsWrong g device c why) ⊎ OfBlocks device c (under g AreOpened)
  pub never : (why : DeviceWhy) → IsWrong g device c why → ¬ OfBlocks device c (under g AreOpened)
  pub held : (s : State) → IsHeldOn g device s c → OfBlocks device c (under g AreOpened)
  pub not_held : (s : State) → IsHeldOn g device s c → ¬ IsStateless g device c
  pub none : OfBlocks device c (under g AreOpened) → ((s : State) → ¬ IsHeldOn g device s c)
      → IsStateless g device c
