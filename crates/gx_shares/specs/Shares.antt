-- What a turn says.
use Rattle.std.specs.Prelude.{◌≡◌, ℕ, ◌<◌, ◌≤◌, List, [], ◌++◌, length, take, drop, Option, Some, None, Result, codes}
use Rattle.std.specs.Fmt.{decimal}
use Rattle.gx_device.specs.declared.device.Failed.{Failed}
use Rattle.gx_ports.specs.declared.view.View.{Ghosts}
use Rattle.gx_sharing.specs.Texts.{with_number}
use Rattle.gx_sessions.specs.declared.sessions.Turn.{Turn as TheTurn}
use Rattle.gx_sessions.specs.declared.sessions.Turn.TheVariants as turn
use Rattle.gx_play.specs.Say.{SaysAll}

-- its answer, or that it was skipped or ended; but for the number of its session
abbrev pub said_of : TheTurn → List ℕ → List ℕ
said_of turn.Answer answer = answer
said_of turn.Skipped answer = codes "skipped\n"
said_of (turn.Ended m) answer = codes "ended: held by " ++ decimal m ++ codes "\n"

-- the text that is said of the first line that ends in a text, of so many bytes with its LF, and of
-- the rest
abbrev pub HasLine : List ℕ → Option ℕ → Type 0
HasLine text (Some len) =
    (0 < len) × (len ≤ length text)
    × ((n : ℕ) → with_number n text
    ≡ (decimal n ++ codes " " ++ take len text) ++ with_number n (drop len text))
HasLine text None = (n : ℕ) → with_number n text ≡ []

-- the session that ends a turn has one digit
abbrev pub IsNamed : TheTurn → Type 0
IsNamed (turn.Ended m) = m < 10
IsNamed other = Unit {0}

-- a text was said, each line with the number of the session, or after a failure a front of it; it
-- is that of the turn
pub record SaysTurn {S : Type 0} (g : Ghosts S) (n : ℕ) (t : TheTurn) (answer : List ℕ)
    (old new : S) (result : Result (Unit {0}) Failed) : Type 0 where
  pub text : List ℕ
  pub text_is : IsNamed t → text ≡ said_of t answer
  pub says : SaysAll g.tells (g.content old) (g.content new) (g.faults old) (g.faults new)
      (with_number n text) result
