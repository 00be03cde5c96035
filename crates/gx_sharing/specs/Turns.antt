-- Turns one after another, and what of them committed.
use Rattle.std.specs.Prelude.{◌≡◌, Bool, true, false, ℕ, List, [], ◌∷◌, ◌++◌, map, None, ◌==◌, if◌then◌else◌}
use Rattle.std.specs.List.{flat_map}
use Rattle.gx_laws.specs.Members.{In}
use Rattle.gx_schema.specs.declared.schema.Schema.{Schema}
use Rattle.gx_commands.specs.declared.command.Command.{Command}
use Rattle.gx_commands.specs.declared.command.Command.TheVariants as command
use Rattle.gx_commands.specs.Commands.{place_reason}
use Rattle.gx_script.specs.Grammar.{IsLineOf}
use Rattle.gx_model.specs.Play.{Playing}
use Rattle.gx_model.specs.Runs.{Step}
use Rattle.gx_sharing.specs.Locks.{Item, conflict, lock_of, items_of}
use Rattle.gx_sharing.specs.Sharing.{Sharing, holds, Outcome, answered, skipped, ended_by, sessions, is_in, outcome_of, after_turn, IsSaid}

-- a turn that was played: its session, its line, the command of it, how it came out, and what it
-- said
pub record Turn : Type 0 where
  pub session : ℕ
  pub line : List ℕ
  pub command : Command
  pub outcome : Outcome
  pub said : List ℕ

-- the line of one of the sessions, which may stand where that session is
pub record TurnStep (schema : Schema) (p : Sharing) (t : Turn) (next : Sharing) : Type 0 where
  pub numbered : In t.session sessions
  pub means : IsLineOf schema t.line t.command
  pub allowed : place_reason (is_in (p.session t.session)) t.command ≡ None
  pub outcome_is : t.outcome ≡ outcome_of schema p t.session t.command
  pub said_is : IsSaid schema p t.session t.command t.outcome t.said
  pub next_is : next ≡ after_turn schema p t.session t.command t.outcome

-- turns one after another
abbrev pub Shares : Schema → Sharing → List Turn → Sharing → Type 0
Shares schema p [] final = final ≡ p
Shares schema p (t ∷ ts) final =
    (next : Sharing) × TurnStep schema p t next × Shares schema next ts final

-- ---- what committed

-- the answered turns of each session's open transaction, from its `begin` on; and those of all
-- transactions that committed, transaction after transaction, in the order of their commits
pub record Log : Type 0 where
  pub going : ℕ → List Turn
  pub committed : List Turn

abbrev pub log_start : Log
log_start = record { going = λ n. []; committed = [] }

abbrev pub with_going : (ℕ → List Turn) → ℕ → List Turn → ℕ → List Turn
with_going before n ts m = if m == n then ts else before m

-- a transaction that is open goes on by a turn; where none is open, none is
abbrev pub going_on : List Turn → Turn → List Turn
going_on [] t = []
going_on (first ∷ ts) t = first ∷ ts ++ t ∷ []

-- a turn that is answered where its session has no open transaction, if such turns count (`outer`)
abbrev pub alone : Bool → List Turn → Turn → List Turn
alone false ts t = []
alone true [] t = t ∷ []
alone true (first ∷ ts) t = []

abbrev pub log_answered : Bool → Log → Turn → Command → Log
log_answered outer log t command.Begin =
    record log { going = with_going log.going t.session (t ∷ []) }
log_answered outer log t command.Commit = record {
  going = with_going log.going t.session [];
  committed = log.committed ++ going_on (log.going t.session) t;
}
log_answered outer log t command.Abort = record log { going = with_going log.going t.session [] }
log_answered outer log t c = record {
  going = with_going log.going t.session (going_on (log.going t.session) t);
  committed = log.committed ++ alone outer (log.going t.session) t;
}

abbrev pub log_after : Bool → Log → Turn → Outcome → Log
log_after outer log t answered = log_answered outer log t t.command
log_after outer log t skipped = log
log_after outer log t (ended_by m) = record log { going = with_going log.going t.session [] }

abbrev pub log_of : Bool → Log → List Turn → Log
log_of outer log [] = log
log_of outer log (t ∷ ts) = log_of outer (log_after outer log t t.outcome) ts

-- the turns of the transactions that committed
abbrev pub committed_of : List Turn → List Turn
committed_of ts = (log_of false log_start ts).committed

-- these, and between them the turns that were answered outside a transaction, each where it stands
abbrev pub effective_of : List Turn → List Turn
effective_of ts = (log_of true log_start ts).committed

-- turns played one after another by one session alone, each with its own answer
abbrev pub ArePlayed : Schema → Playing → List Turn → Playing → Type 0
ArePlayed schema p [] final = final ≡ p
ArePlayed schema p (t ∷ ts) final =
    (next : Playing) × Step schema p t.line t.said next × ArePlayed schema next ts final

abbrev pub lines_of : List Turn → List (List ℕ)
lines_of ts = map (λ t. t.line) ts

abbrev pub answers_of : List Turn → List ℕ
answers_of ts = flat_map (λ t. t.said) ts

-- the play with no transaction open
abbrev pub resting : Sharing → Playing
resting p = record { earlier = p.earlier; kept = p.kept; working = None; commits = p.commits }

-- session m holds a lock on an item that doesn't go with the one that the command of session n
-- wants
pub record IsHolder (schema : Schema) (p : Sharing) (n : ℕ) (c : Command) (m : ℕ) : Type 0 where
  pub numbered : In m sessions
  pub other : (m == n) ≡ false
  pub item : Item
  pub among : In item (items_of schema)
  pub conflicts : conflict (holds schema (p.session m) item) (lock_of schema c item) ≡ true
