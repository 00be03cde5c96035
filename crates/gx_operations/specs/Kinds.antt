-- What a script is of: the lines of one session, or the turns of several; and its plays.
use Rattle.std.specs.Prelude.{ℕ, List, Option}
use Rattle.gx_device.specs.Content.{Content}
use Rattle.gx_ports.specs.LeafMaps.{Limits}
use Rattle.gx_schema.specs.declared.schema.Schema.{Schema}
use Rattle.gx_types.specs.declared.built.Built.{Built}
use Rattle.gx_model.specs.Play.{Playing, End}
use Rattle.gx_model.specs.States.{State}
use Rattle.gx_sharing.specs.Sharing.{Sharing}
use Rattle.gx_play.specs.declared.status.Status.{Status}
use Rattle.gx_play.specs.Played.{IsPlay, MayBeFullAt}
use Rattle.gx_play.specs.Player.{Play, IsAfterFirst, IsBeforeCommit, IsSaidFront}
use Rattle.gx_play.specs.ScriptEnds.{IsScriptEnd}
use Rattle.gx_shares.specs.Ends.{IsShareEnd}
use Rattle.gx_shares.specs.Player.{share_over_play}
use Rattle.gx_operations.specs.declared.kinds.ScriptKind.{ScriptKind}
use Rattle.gx_operations.specs.declared.kinds.ScriptKind.TheVariants as script_kind
use Rattle.gx_operations.specs.Given.{Given}
use Rattle.gx_operations.specs.Runs.{RunsOn, script_play, turns_play}

-- where a play stands
abbrev pub Stand : ScriptKind → Type 0
Stand script_kind.Lines = Playing
Stand script_kind.Turns = Sharing

-- the play from each state on
abbrev pub plays_of : (k : ScriptKind) → Given → List ℕ → Limits → State → Play (Stand k)
plays_of script_kind.Lines g script limit start = script_play g script limit start
plays_of script_kind.Turns g script limit start = turns_play g script limit start

-- where the script ends by its lines alone
abbrev pub IsEndOfKind : ScriptKind → Schema → List ℕ → End → Type 0
IsEndOfKind script_kind.Lines schema script end = IsScriptEnd schema script end
IsEndOfKind script_kind.Turns schema script end = IsShareEnd schema script end

-- the script is played on the device
abbrev pub RunsAs : ScriptKind → Given → List ℕ → Content → Content → Status → Type 0
RunsAs k g device old new s =
    RunsOn g device (plays_of k g old.script) (IsEndOfKind k g.schema old.script) old new s

-- ---- over leaves

-- the play of a script's lines, by the entries of leaves that stand for the states
abbrev pub line_over_play : Schema → Built → Option Limits → State → List ℕ → Play Playing
line_over_play schema built limit start script = record {
  kept = λ m. m.kept;
  Ends = λ end answers m. IsPlay schema start script answers m end;
  First = λ answers m. IsAfterFirst schema start script answers m;
  Full = λ answers m. MayBeFullAt schema built limit start script answers m;
  Commits = λ answers m. IsBeforeCommit schema start script answers m;
  Front = λ told m. IsSaidFront schema start script told m;
}

abbrev pub over_play : (k : ScriptKind) → Schema → Built → Option Limits → State → List ℕ
    → Play (Stand k)
over_play script_kind.Lines schema built limit start script =
    line_over_play schema built limit start script
over_play script_kind.Turns schema built limit start script =
    share_over_play schema built limit start script
