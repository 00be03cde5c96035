use Rattle.std.proofs.Common.{◌≡◌, ◌++◌, map}
use Rattle.std.specs.FinMap.{len}
use Rattle.gx_model.specs.States.{State}
use Rattle.gx_audit.specs.Texts.{link_line, lines_below}
use Rattle.gx_audit.proofs.texts.push_links.Given as goal

abbrev pub invariant-loop-link : goal.invariant-loop-link
invariant-loop-link l = (s : State) → l.counts ≡ map len s.links
    → l.text.items ≡ l.fn.text.items ++ lines_below (link_line l.schema s) l.link
