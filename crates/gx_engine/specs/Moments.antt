-- What an engine stands for at a moment of a play, and which commands may want room there.
use Rattle.std.specs.Prelude.{◌≡◌, ℕ, List, ◌++◌, Bool, true, None}
use Rattle.gx_schema.specs.declared.schema.Schema.{Schema}
use Rattle.gx_ports.specs.LeafMaps.{LeafMap}
use Rattle.gx_commands.specs.declared.command.Command.{Command}
use Rattle.gx_commands.specs.declared.command.Command.TheVariants as command
use Rattle.gx_types.specs.declared.built.Built.{Built}
use Rattle.gx_model.specs.Commands.{refusal_of}
use Rattle.gx_model.specs.Play.{Playing, seen_state, is_inside, after_command, IsAnswered}
pub use Rattle.gx_states.specs.Internal.{AreInternal}
use Rattle.gx_edits.specs.Edits.{may_bring}

-- what the engine has stands for a moment of the play
pub record Stands (schema : Schema) (built : Built) (inside : Bool) (commits : ℕ)
    (working kept : List LeafMap) (p : Playing) : Type 0 where
  pub inside_same : inside ≡ is_inside p
  pub commits_same : commits ≡ p.commits
  pub working_is : AreInternal schema built working (seen_state p)
  pub kept_is : AreInternal schema built kept p.kept

-- a command was carried out: its answer was appended, and the leaves stand for what comes after
pub record IsCarried (schema : Schema) (built : Built) (p : Playing) (c : Command)
    (old new : List ℕ) (inside : Bool) (commits : ℕ) (working kept : List LeafMap) : Type 0 where
  pub answer : List ℕ
  pub said : new ≡ old ++ answer
  pub answered : IsAnswered schema p c answer
  pub stands : Stands schema built inside commits working kept (after_command schema p c)

-- ---- which commands may want room

-- the command is an edit other than a delete, or lays the leaves of a file or a link out anew
abbrev pub may_want_room : Command → Bool
may_want_room (command.ReorganizeFile file) = true
may_want_room (command.ReorganizeLink link) = true
may_want_room c = may_bring c

-- it is such a command, and it isn't refused at this moment
pub record MayWantRoom (schema : Schema) (p : Playing) (c : Command) : Type 0 where
  pub kind : may_want_room c ≡ true
  pub accepted : refusal_of schema (seen_state p) c ≡ None
