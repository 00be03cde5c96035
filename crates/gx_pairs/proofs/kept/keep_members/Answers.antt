use Rattle.std.proofs.Common.{rules, ◌≡◌, ◌≤◌, ◌∙◌, ◌+◌, ◌*◌, length, refl, sym, arith}
use Rattle.std.specs.Prelude.{◌==◌}
use Rattle.gx_ports.proofs.CallLemmas.{reads_itself}
use Rattle.gx_scan.proofs.CallLemmas.{ok_alone, reads_passed}
use Rattle.gx_pairs.specs.Members.{is_member_of}
use Rattle.gx_pairs.proofs.MemberLemmas.{none_kept, above_none, once_at_least}
use Rattle.gx_pairs.proofs.kept.keep_members.Goals as goal

pub returns-then-is_empty : goal.returns-then-is_empty
returns-then-is_empty g c =
    let b = g.B.View in
    let rows = c.args.rows.items in
    let none : c.is_empty.result ≡ (length rows == 0) = search rules in
    record {
      answer = record {
        found = λ link whole is held.
            none_kept (is_member_of link c.args.owner.now) rows (sym none ∙ c.if-is_empty.true);
        reads = reads_passed b _ (record {
          reads = reads_itself b c.args.leaves.now;
          whole = λ h. h;
          counted = refl;
        });
      };
      steps = λ link most whole is held few. omega arith;
    }

pub returns-then-finds : goal.returns-then-finds
returns-then-finds g c = c.keep_owned.ensures

pub returns-else-finds : goal.returns-else-finds
returns-else-finds g c =
    let b = g.B.View in
    let before = b.work c.args.leaves.now in
    let after = b.work c.keep_found.new.leaves in
    let many = length c.args.rows.items in
    let none : c.is_empty.result ≡ (many == 0) = search rules in
    record {
      answer = c.keep_found.ensures.answer;
      steps = λ link most whole is held few.
          let cost = most + length (b.working c.args.leaves.now) in
          ok_alone c.keep_found.result (after ≤ before + 1 * cost) (after ≤ before + many * cost)
          (c.keep_found.ensures.steps link most whole is held few)
          (once_at_least many cost before after (above_none many (sym none ∙ c.if-is_empty.false)));
    }
