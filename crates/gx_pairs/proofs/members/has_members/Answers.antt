use Rattle.std.proofs.Common.{rules, ◌≡◌, ◌∙◌, ◌++◌, List, length, ap}
use Rattle.std.specs.Prelude.{◌==◌, not}
use Rattle.gx_values.specs.declared.values.Value.{Value}
use Rattle.gx_stack.proofs.PassLemmas.{read_passes, reads_given}
use Rattle.gx_pairs.proofs.MemberLemmas.{some_member}
use Rattle.gx_scan.proofs.CallLemmas.{reads_passed}
use Rattle.gx_pairs.proofs.SearchLemmas.{link_stopped}
use Rattle.gx_pairs.proofs.members.has_members.Goals as goal

pub returns-in_err-members : goal.returns-in_err-members
returns-in_err-members g c =
    link_stopped g.B.View g.L.Linkset.rule g.L.Linkset.held c.args.linkset.now _ _ _ _
    c.from_residual.result c.from_residual.ensures.1
    (reads_given g.B.View c.from_residual.result c.from_residual.ensures.1 (λ h. h)
    c.in_err-members.ensures.reads)

pub returns : goal.returns
returns g c = record {
  found = λ link whole is held.
      let found = c.in_ok-members.ensures.found in
      let all = found.appended
      ∙ ap (λ (before : List Value). before ++ found.found) c.new.ensures.items in
      let none : c.is_empty.result ≡ (length c.members.new.out == 0) = search rules in
      ap not none
      ∙ some_member link c.args.owner.now c.members.new.out (all ∙ found.those whole link is held);
  reads = reads_passed g.B.View _ (read_passes g.B.View c.in_ok-members.ensures.reads);
}
