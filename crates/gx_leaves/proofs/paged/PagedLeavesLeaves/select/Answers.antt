use Rattle.std.proofs.Common.{rules}
use Rattle.gx_ports.specs.Files.{IsWhole}
use Rattle.gx_ports.specs.LeafMaps.{map_at}
use Rattle.gx_leaves.specs.Kinds.{IsFileAt}
use Rattle.gx_leaves.proofs.ChangeLemmas.{maps, holds, file_whole, same_cause, same_block, not_ok}
use Rattle.gx_leaves.proofs.paged.PagedLeavesLeaves.select.Goals as goal

pub returns-clause-ok : goal.returns-clause-ok
returns-clause-ok g c = λ whole.
    let l = c.args.self.now in
    c.in_ok-select_in_file.ensures.ok
    (map_at (maps g.P.PageView l.places.items l.pages) c.args.leaf)
    (holds g.P.PageView l.places.items l.pages l.laid_out c.args.leaf c.place-place.result
    c.place-place.ensures.at whole)

pub returns-in_err-select_in_file-clause-reads : goal.returns-in_err-select_in_file-clause-reads
returns-in_err-select_in_file-clause-reads g c =
    let l = c.args.self.now in
    let whole = IsWhole g.P.PageView (IsFileAt (g.P.PageView.ground l.pages) c.place-place.result)
    l.pages in
    let cause = same_cause (g.P.PageView.faults l.pages)
    (g.P.PageView.faults c.select_in_file.new.pages) whole c.from_residual.result
    c.in_err-select_in_file.field-0.0 c.in_err-select_in_file.ensures.ends.cause
    c.from_residual.ensures.1 in
    let home = same_block g.P.PageView whole l.pages c.select_in_file.new.pages
    c.from_residual.result c.in_err-select_in_file.field-0.0
    c.in_err-select_in_file.ensures.ends c.from_residual.ensures.1 in
    record {
      reads = search rules;
      ends = record {
        whole = not_ok c.from_residual.result _ _ c.from_residual.ensures.1;
        later = cause.later;
        fault = cause.fault;
        counted = cause.counted;
        damaged = λ block is whole. cause.damaged block is
            (file_whole g.P.PageView l.places.items l.pages l.laid_out c.args.leaf
            c.place-place.result c.place-place.ensures.at whole);
      };
      block = record { bound = λ block is. (home block is).1.within; home = home };
      not_full = search rules;
    }
