use Rattle.std.proofs.Common.{◌≡◌, ◌++◌, ◌∙◌, List, length, ap}
use Rattle.gx_ports.specs.declared.leaves.Entry.{Entry}
use Rattle.gx_ports.specs.LeafMaps.{map_at, selected}
use Rattle.gx_stack.proofs.CountLemmas.{selected_all}
use Rattle.gx_audit.proofs.texts.read_count.Goals as goal

pub returns-clause-count : goal.returns-clause-count
returns-clause-count g c = λ w.
    let m = map_at (g.B.View.working c.args.leaves.now) c.args.leaf in
    let span = c.whole_span.result in
    let all : c.select.new.out ≡ selected span.lo span.hi m = c.in_ok-select.ensures.ok w
    ∙ ap (λ (es : List Entry). es ++ selected span.lo span.hi m) c.new-entries.ensures in
    c.len.ensures ∙ ap (λ (es : List Entry). length es) all
    ∙ selected_all m span.lo span.hi c.whole_span.ensures.all
