-- Interleaved sessions: what they have at a moment, how a turn comes out, what it answers, and what
-- comes after it.
use Rattle.std.specs.Prelude.{◌≡◌, ℕ, List, [], ◌∷◌, ◌++◌, Bool, true, false, ◌&&◌, ◌==◌, not, Option, Some, None, if◌then◌else◌, codes, find}
use Rattle.std.specs.Option.{option_or}
use Rattle.std.specs.Fmt.{decimal}
use Rattle.gx_schema.specs.declared.schema.Schema.{Schema}
use Rattle.gx_commands.specs.declared.command.Command.{Command}
use Rattle.gx_commands.specs.declared.command.Command.TheVariants as command
use Rattle.gx_model.specs.States.{State}
use Rattle.gx_model.specs.Commands.{next_state}
use Rattle.gx_model.specs.Play.{Playing, after_command, IsAnswered}
use Rattle.gx_sharing.specs.Locks.{Item, Mode, free, conflict, lock_of, held, items_of}

-- a session: outside a transaction; in one that is open, with the commands that were carried out in
-- it; or in one that was ended, whose lines are skipped
pub data Session : Type 0 where
  outside : Session
  inside : List Command → Session
  ended : Session

abbrev pub is_in : Session → Bool
is_in outside = false
is_in (inside cs) = true
is_in ended = true

-- the numbers of the sessions
abbrev pub sessions : List ℕ
sessions = 1 ∷ 2 ∷ 3 ∷ 4 ∷ 5 ∷ 6 ∷ 7 ∷ 8 ∷ []

-- the last kept state and those before it, how many commits there were, and each session by its
-- number
pub record Sharing : Type 0 where
  pub earlier : List State
  pub kept : State
  pub commits : ℕ
  pub session : ℕ → Session

-- it begins with one kept state, and with no session in a transaction
abbrev pub share_start : State → Sharing
share_start s = record { earlier = []; kept = s; commits = 0; session = λ n. outside }

-- ---- what a session sees

-- the state after commands
abbrev pub played : Schema → State → List Command → State
played schema s [] = s
played schema s (c ∷ cs) = played schema (next_state schema s c) cs

-- its own changes on the last kept state, where its transaction is open
abbrev pub view_in : Schema → State → Session → Option State
view_in schema kept outside = None
view_in schema kept (inside cs) = Some (played schema kept cs)
view_in schema kept ended = None

-- the play as a session sees it
abbrev pub play_of : Schema → Sharing → ℕ → Playing
play_of schema p n = record {
  earlier = p.earlier;
  kept = p.kept;
  working = view_in schema p.kept (p.session n);
  commits = p.commits;
}

-- ---- locks

-- the lock that a session holds on an item
abbrev pub holds : Schema → Session → Item → Mode
holds schema outside item = free
holds schema (inside cs) item = held schema cs item
holds schema ended item = free

-- another session holds a lock on the item that doesn't go with the one that this one wants
abbrev pub is_barred : Schema → Sharing → ℕ → Command → Item → ℕ → Bool
is_barred schema p n c item m =
    not (m == n) && conflict (holds schema (p.session m) item) (lock_of schema c item)

-- the least session that does so, of the first of these items on which one does
abbrev pub holder_among : Schema → Sharing → ℕ → Command → List Item → Option ℕ
holder_among schema p n c [] = None
holder_among schema p n c (item ∷ items) =
    option_or (find (is_barred schema p n c item) sessions) (holder_among schema p n c items)

-- ---- turns

-- a turn is answered; or it is skipped; or it ends the transaction, since this session holds a lock
pub data Outcome : Type 0 where
  answered : Outcome
  skipped : Outcome
  ended_by : ℕ → Outcome

abbrev pub is_nothing : Command → Bool
is_nothing command.Nothing = true
is_nothing _ = false

abbrev pub refused_by : Option ℕ → Outcome
refused_by None = answered
refused_by (Some m) = ended_by m

abbrev pub outcome_in : Schema → Sharing → ℕ → Command → Session → Outcome
outcome_in schema p n c outside = answered
outcome_in schema p n c (inside cs) = refused_by (holder_among schema p n c (items_of schema))
outcome_in schema p n c ended = if is_nothing c then answered else skipped

-- how the turn of a session comes out
abbrev pub outcome_of : Schema → Sharing → ℕ → Command → Outcome
outcome_of schema p n c = outcome_in schema p n c (p.session n)

-- a session after a command of its own that was answered, or skipped
abbrev pub session_after : Session → Command → Session
session_after s command.Begin = inside []
session_after s command.Commit = outside
session_after s command.Abort = outside
session_after outside c = outside
session_after (inside cs) c = inside (cs ++ c ∷ [])
session_after ended c = ended

abbrev pub with_session : (ℕ → Session) → ℕ → Session → ℕ → Session
with_session before n s m = if m == n then s else before m

-- what comes after a turn: of one that is answered what comes after its command as the session sees
-- it; of another nothing but the session changes
abbrev pub after_turn : Schema → Sharing → ℕ → Command → Outcome → Sharing
after_turn schema p n c answered =
    let q = after_command schema (play_of schema p n) c in
    record {
      earlier = q.earlier;
      kept = q.kept;
      commits = q.commits;
      session = with_session p.session n (session_after (p.session n) c);
    }
after_turn schema p n c skipped =
    record p { session = with_session p.session n (session_after (p.session n) c) }
after_turn schema p n c (ended_by m) = record p { session = with_session p.session n ended }

-- the text is what a turn says, but for the number of its session
abbrev pub IsSaid : Schema → Sharing → ℕ → Command → Outcome → List ℕ → Type 0
IsSaid schema p n c answered text = IsAnswered schema (play_of schema p n) c text
IsSaid schema p n c skipped text = text ≡ codes "skipped\n"
IsSaid schema p n c (ended_by m) text = text ≡ codes "ended: held by " ++ decimal m ++ codes "\n"
