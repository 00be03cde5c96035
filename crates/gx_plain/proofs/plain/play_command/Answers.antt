use Rattle.std.proofs.Common.{◌≡◌, None, refl, ap, subst, ◌∙◌}
use Rattle.std.specs.Prelude.{is_some}
use Rattle.gx_commands.specs.Commands.{place_reason}
use Rattle.gx_plain.proofs.PathLemmas.{command_done}
use Rattle.gx_plain.proofs.plain.play_command.Goals as goal

pub returns-in-Ok-clause-done : goal.returns-in-Ok-clause-done
returns-in-Ok-clause-done c p at =
    command_done c.args.schema.now p c.args.line.now _ _ _ c.requires.no_path (record {
      command = c.in_ok-command.command;
      means = c.in_ok-command.ensures.means;
      allowed = subst (λ i. place_reason i c.in_ok-command.command ≡ None) (c.is_some.ensures
          ∙ ap (λ w. is_some w) at.working) c.in_ok-command.ensures.placed;
      answered = c.in-Ok.ensures.answered p at;
      next_is = refl;
    }) (c.in-Ok.ensures.at p at)
