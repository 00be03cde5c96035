use Rattle.gx_commands.specs.Lines.{longest_script}
use Rattle.gx_commands.proofs.LineLaws.{parts_joined, enough_lines}
use Rattle.gx_commands.proofs.lines.ScriptLines.new.Goals as goal

pub returns-clause-parts : goal.returns-clause-parts
returns-clause-parts c = parts_joined c.args.script.now

pub returns-clause-enough : goal.returns-clause-enough
returns-clause-enough c = enough_lines longest_script c.args.script.now
