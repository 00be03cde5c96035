use Rattle.std.proofs.Common.{◌≡◌, ◌≤◌, ◌+◌, ◌*◌, ◌++◌, ℕ, length}
use Rattle.std.specs.Prelude.{filter}
use Rattle.std.specs.Vec.Iter.{into_iter_items, into_iter_len}
use Rattle.gx_values.specs.Values.{Fits}
use Rattle.gx_ports.specs.Calls.{Reads}
use Rattle.gx_mapping.specs.Rule.{In}
use Rattle.gx_model.specs.States.{Link, Row}
use Rattle.gx_links.specs.Links.{IsLink}
use Rattle.gx_pairs.specs.Stored.{OwnersHaveAtMost}
use Rattle.gx_pairs.specs.Members.{is_member_of}
use Rattle.gx_pairs.proofs.kept.keep_owned.Given as goal

abbrev pub invariant-loop-row : goal.invariant-loop-row
invariant-loop-row g l =
    let b = g.B.View in
    let rule = g.L.Linkset.rule l.linkset in
    let maps = b.working l.fn.leaves in
    let rest = into_iter_items l.row-iterator in record {
      many : into_iter_len l.row-iterator ≡ length rest;
      fit : (r : Row) → In r rest → Fits rule.member r.0;
      those : (link : Link) → b.whole l.fn.leaves → IsLink rule.owner rule.member link
          → g.L.Linkset.held l.linkset link maps →
          l.kept.items ++ filter (is_member_of link l.owner) rest ≡ filter
          (is_member_of link l.owner) l.fn.rows.items;
      steps : (link : Link) (most : ℕ) → b.whole l.fn.leaves → IsLink rule.owner rule.member link
          → g.L.Linkset.held l.linkset link maps → OwnersHaveAtMost most rule link →
          b.work l.leaves + length rest * (most + length maps) ≤ b.work l.fn.leaves
          + length l.fn.rows.items * (most + length maps);
      reads : Reads b l.fn.leaves l.leaves;
      whole : b.whole l.fn.leaves → b.whole l.leaves;
      counted : b.faults l.leaves ≡ b.faults l.fn.leaves;
    }
