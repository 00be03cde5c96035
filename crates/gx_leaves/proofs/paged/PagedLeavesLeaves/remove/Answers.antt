use Rattle.std.proofs.Common.{refl}
use Rattle.std.specs.FinMap.{remove}
use Rattle.gx_ports.specs.LeafMaps.{map_at}
use Rattle.gx_leaves.proofs.ChangeLemmas.{maps, holds, file_whole, others_stay, fresh_stays, stays_whole, sets, same_count, same_kept, were_whole, same_limit, same_head}
use Rattle.gx_leaves.proofs.paged.PagedLeavesLeaves.remove.Goals as goal

pub returns-clause-ok : goal.returns-clause-ok
returns-clause-ok g c = λ whole.
    let l = c.args.self.now in
    let old = map_at (maps g.P.PageView l.places.items l.pages) c.args.leaf in
    sets g.P.PageView l.places.items l.pages l.laid_out c.args.leaf c.place-place.result
    c.place-place.ensures.at c.remove_from_file.new.pages c.remove_from_file.ensures.keeps
    c.remove_from_file.result (remove old c.args.key.now) c.remove_from_file.ensures.others
    (c.remove_from_file.ensures.ok old
    (holds g.P.PageView l.places.items l.pages l.laid_out c.args.leaf c.place-place.result
    c.place-place.ensures.at whole)) whole

pub returns-clause-edits : goal.returns-clause-edits
returns-clause-edits g c =
    let l = c.args.self.now in
    let old = map_at (maps g.P.PageView l.places.items l.pages) c.args.leaf in
    let cause = c.remove_from_file.ensures.ends.cause in
    let home = c.remove_from_file.ensures.ends.home in record {
      others = others_stay g.P.PageView l.places.items l.pages l.laid_out c.args.leaf
          c.place-place.result c.place-place.ensures.at c.remove_from_file.new.pages
          c.remove_from_file.ensures.keeps c.remove_from_file.result
          c.remove_from_file.ensures.others;
      fresh_others = fresh_stays g.P.PageView l.places.items l.pages l.laid_out c.args.leaf
          c.place-place.result c.place-place.ensures.at c.remove_from_file.new.pages
          c.remove_from_file.ensures.keeps c.remove_from_file.result
          c.remove_from_file.ensures.others;
      keeps = record {
        leaves = same_count g.P.PageView l.places.items l.pages c.remove_from_file.new.pages
            c.remove_from_file.ensures.keeps;
        kept = same_kept g.P.PageView l.places.items l.pages c.remove_from_file.new.pages
            c.remove_from_file.ensures.keeps;
        kept_whole = were_whole g.P.PageView l.places.items l.pages c.remove_from_file.new.pages
            c.remove_from_file.ensures.keeps;
        limit = same_limit g.P.PageView l.places.items l.pages c.remove_from_file.new.pages
            c.remove_from_file.ensures.keeps;
        head = same_head g.P.PageView l.places.items l.pages c.remove_from_file.new.pages
            c.remove_from_file.ensures.keeps;
        calm = c.remove_from_file.ensures.keeps.calm;
        silent = c.remove_from_file.ensures.keeps.silent;
      };
      work = refl;
      ends = record {
        whole = stays_whole g.P.PageView l.places.items l.pages l.laid_out c.args.leaf
            c.place-place.result c.place-place.ensures.at c.remove_from_file.new.pages
            c.remove_from_file.ensures.keeps c.remove_from_file.result
            (remove old c.args.key.now) c.remove_from_file.ensures.others
            (λ whole. c.remove_from_file.ensures.ok old
            (holds g.P.PageView l.places.items l.pages l.laid_out c.args.leaf
            c.place-place.result c.place-place.ensures.at whole));
        later = cause.later;
        fault = cause.fault;
        counted = cause.counted;
        damaged = λ block is whole. cause.damaged block is
            (file_whole g.P.PageView l.places.items l.pages l.laid_out c.args.leaf
            c.place-place.result c.place-place.ensures.at whole);
      };
      block = record { bound = λ block is. (home block is).1.within; home = home };
    }
