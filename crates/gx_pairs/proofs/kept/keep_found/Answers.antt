use Rattle.std.proofs.Common.{rules, ◌≡◌, ◌∙◌, ◌++◌, List, length, ap}
use Rattle.gx_values.specs.declared.values.Value.{Value}
use Rattle.gx_links.specs.Links.{members_of}
use Rattle.gx_stack.proofs.PassLemmas.{read_passes, reads_given}
use Rattle.gx_pairs.proofs.MemberLemmas.{kept_members, round_steps}
use Rattle.gx_scan.proofs.CallLemmas.{reads_passed}
use Rattle.gx_pairs.proofs.SearchLemmas.{looks_stopped}
use Rattle.gx_pairs.proofs.kept.keep_found.Goals as goal

pub returns-in_err-members : goal.returns-in_err-members
returns-in_err-members g c =
    looks_stopped g.B.View g.L.Linkset.rule g.L.Linkset.held c.args.linkset.now _ _ _ 1 _
    c.from_residual.result c.from_residual.ensures.1
    (reads_given g.B.View c.from_residual.result c.from_residual.ensures.1 (λ h. h)
    c.in_err-members.ensures.reads)

pub returns : goal.returns
returns g c =
    let found = c.in_ok-members.ensures.found in
    record {
      answer = record {
        found = λ link whole is held.
            let all = found.appended
            ∙ ap (λ (before : List Value). before ++ found.found) c.new.ensures.items in
            let slice : c.deref.result.now ≡ c.members.new.out = search rules in
            kept_members link c.args.owner.now c.deref.result.now c.args.rows.items _
            (slice ∙ all ∙ found.those whole link is held) c.rows_among.ensures;
        reads = reads_passed g.B.View _ (read_passes g.B.View c.in_ok-members.ensures.reads);
      };
      steps = λ link most whole is held few.
          let rule = g.L.Linkset.rule c.args.linkset.now in
          let laws = g.met.L.Linkset.laws c.args.linkset.now c.requires.stored.valid in
          let them = members_of link c.args.owner.now in
          round_steps (rule.rounds (length them)) (length rule.leaves)
          (length (g.B.View.working c.args.leaves.now))
          (length (rule.entries c.args.owner.now them)) most _ _
          (laws.one_round c.requires.finds (length them)) c.requires.stored.few
          (few c.args.owner.now) (found.few_steps whole link is held);
    }
