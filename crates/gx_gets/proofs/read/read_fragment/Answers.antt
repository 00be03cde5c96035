use Rattle.std.proofs.Common.{◌∙◌, sym}
use Rattle.gx_gets.proofs.ReadLemmas.{none_put, found_here}
use Rattle.gx_gets.proofs.read.read_fragment.Goals as goal

pub returns-then-is_empty-clause-read : goal.returns-then-is_empty-clause-read
returns-then-is_empty-clause-read g c = λ r whole fit same.
    let found = found_here c.select.new.out c.new-entries.result _
    (c.in_ok-select.ensures.ok whole) c.new-entries.ensures in
    none_put c.args.fragment.now r c.args.out.now
    (sym same ∙ sym found ∙ c.is_empty.ensures.0 c.if-is_empty.true)
