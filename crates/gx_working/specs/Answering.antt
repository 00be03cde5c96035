-- The answers of a script that is played in silence.
use Rattle.std.specs.Prelude.{List, ℕ, [], Result, Ok, Err}
use Rattle.gx_commands.specs.Lines.{Lines}
use Rattle.gx_ports.specs.declared.view.View.{Ghosts}
use Rattle.gx_model.specs.Play.{Playing}
use Rattle.gx_play.specs.Plays.{Engine}
use Rattle.gx_play.specs.declared.play.PlayEnd.{PlayEnd}
use Rattle.gx_play.specs.declared.play.Answers.TheVariants as answers
use Rattle.gx_play.specs.Answering.{beside, with_answers}
use Rattle.gx_play.specs.Plays.{IsPlayedTo}

-- the lines were played up to an end, and what is given are their answers
abbrev pub IsAnsweredBy : {S : Type 0} → Ghosts S → Playing → Lines → Engine S → Engine S
    → Result (List ℕ) PlayEnd → Type 0
IsAnsweredBy g p lines old new (Ok kept) =
    IsPlayedTo (beside g answers.Kept) p lines (with_answers old []) (with_answers new kept) (Ok tt)
IsAnsweredBy g p lines old new (Err end) =
    (kept : List ℕ)
    × IsPlayedTo (beside g answers.Kept) p lines (with_answers old []) (with_answers new kept)
    (Err end)
