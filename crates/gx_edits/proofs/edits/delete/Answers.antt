use Rattle.std.proofs.Common.{◌∙◌, sym}
use Rattle.gx_ports.proofs.CallLemmas.{reads_keep}
use Rattle.gx_scan.proofs.CallLemmas.{ends_now}
use Rattle.gx_edits.proofs.EditLemmas.{linked_edit}
use Rattle.gx_edits.proofs.edits.delete.Goals as goal

pub returns-then-branch : goal.returns-then-branch
returns-then-branch g c =
    let schema = c.args.schema.now in
    let built = c.args.built.now in
    let reads = c.is_linked.ensures.reads.reads in
    record {
      edit = λ s known whole are. linked_edit schema built (g.B.View.working c.args.leaves.now)
          (g.B.View.working c.is_linked.new.leaves) s c.args.file c.args.key are reads.working
          (sym (c.in_ok-is_linked.ensures.found s whole are) ∙ c.if-branch.true);
      full = λ s known whole are stops. absurd cc;
      bringing = λ stops. absurd cc;
      accepted = λ s known whole are stops. absurd cc;
      keeps = reads_keep g.B.View reads;
      ends = ends_now g.B.View _ c.args.leaves.now c.is_linked.new.leaves c.in_ok-is_linked.field-0
          _ c.in_ok-is_linked.ensures.reads.ends;
      block = λ n e whole. absurd cc;
    }
