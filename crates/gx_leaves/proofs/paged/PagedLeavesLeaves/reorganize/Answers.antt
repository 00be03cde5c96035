use Rattle.std.proofs.Common.{refl}
use Rattle.gx_ports.specs.LeafMaps.{map_at}
use Rattle.gx_leaves.proofs.ChangeLemmas.{maps, holds, file_whole, others_stay, stays_whole, stays, full, fresh_now, fresh_stays, same_count, same_kept, were_whole, same_limit, same_head}
use Rattle.gx_leaves.proofs.paged.PagedLeavesLeaves.reorganize.Goals as goal

pub returns-clause-ok : goal.returns-clause-ok
returns-clause-ok g c = λ whole.
    let l = c.args.self.now in
    let old = map_at (maps g.P.PageView l.places.items l.pages) c.args.leaf in
    stays g.P.PageView l.places.items l.pages l.laid_out c.args.leaf c.place-place.result
    c.place-place.ensures.at c.reorganize_file.new.pages c.reorganize_file.ensures.keeps
    c.reorganize_file.result c.reorganize_file.ensures.others
    (c.reorganize_file.ensures.ok old
    (holds g.P.PageView l.places.items l.pages l.laid_out c.args.leaf c.place-place.result
    c.place-place.ensures.at whole)) whole

pub returns-clause-edits : goal.returns-clause-edits
returns-clause-edits g c =
    let l = c.args.self.now in
    let old = map_at (maps g.P.PageView l.places.items l.pages) c.args.leaf in
    let cause = c.reorganize_file.ensures.ends.cause in
    let home = c.reorganize_file.ensures.ends.home in record {
      others = others_stay g.P.PageView l.places.items l.pages l.laid_out c.args.leaf
          c.place-place.result c.place-place.ensures.at c.reorganize_file.new.pages
          c.reorganize_file.ensures.keeps c.reorganize_file.result
          c.reorganize_file.ensures.others;
      fresh_others = fresh_stays g.P.PageView l.places.items l.pages l.laid_out c.args.leaf
          c.place-place.result c.place-place.ensures.at c.reorganize_file.new.pages
          c.reorganize_file.ensures.keeps c.reorganize_file.result
          c.reorganize_file.ensures.others;
      keeps = record {
        leaves = same_count g.P.PageView l.places.items l.pages c.reorganize_file.new.pages
            c.reorganize_file.ensures.keeps;
        kept = same_kept g.P.PageView l.places.items l.pages c.reorganize_file.new.pages
            c.reorganize_file.ensures.keeps;
        kept_whole = were_whole g.P.PageView l.places.items l.pages c.reorganize_file.new.pages
            c.reorganize_file.ensures.keeps;
        limit = same_limit g.P.PageView l.places.items l.pages c.reorganize_file.new.pages
            c.reorganize_file.ensures.keeps;
        head = same_head g.P.PageView l.places.items l.pages c.reorganize_file.new.pages
            c.reorganize_file.ensures.keeps;
        calm = c.reorganize_file.ensures.keeps.calm;
        silent = c.reorganize_file.ensures.keeps.silent;
      };
      work = refl;
      ends = record {
        whole = stays_whole g.P.PageView l.places.items l.pages l.laid_out c.args.leaf
            c.place-place.result c.place-place.ensures.at c.reorganize_file.new.pages
            c.reorganize_file.ensures.keeps c.reorganize_file.result old
            c.reorganize_file.ensures.others
            (λ whole. c.reorganize_file.ensures.ok old
            (holds g.P.PageView l.places.items l.pages l.laid_out c.args.leaf
            c.place-place.result c.place-place.ensures.at whole));
        later = cause.later;
        fault = cause.fault;
        counted = cause.counted;
        damaged = λ block is whole. cause.damaged block is
            (file_whole g.P.PageView l.places.items l.pages l.laid_out c.args.leaf
            c.place-place.result c.place-place.ensures.at whole);
      };
      block = record { bound = λ block is. (home block is).1.within; home = home };
    }

pub returns-clause-full : goal.returns-clause-full
returns-clause-full g c =
    let l = c.args.self.now in
    full g.P.PageView l.places.items l.pages l.laid_out c.args.leaf c.place-place.result
    c.place-place.ensures.at c.reorganize_file.new.pages c.reorganize_file.ensures.keeps
    c.reorganize_file.result c.reorganize_file.ensures.others c.reorganize_file.ensures.full
    (λ told. (g.met.P.Pages.many c.reorganize_file.new.pages told).0)

pub returns-clause-fresh : goal.returns-clause-fresh
returns-clause-fresh g c = λ whole.
    let l = c.args.self.now in
    let old = map_at (maps g.P.PageView l.places.items l.pages) c.args.leaf in
    let held = holds g.P.PageView l.places.items l.pages l.laid_out c.args.leaf c.place-place.result
    c.place-place.ensures.at whole in
    fresh_now g.P.PageView l.places.items l.pages l.laid_out c.args.leaf c.place-place.result
    c.place-place.ensures.at c.reorganize_file.new.pages c.reorganize_file.ensures.keeps
    c.reorganize_file.result old (c.reorganize_file.ensures.ok old held)
    (c.reorganize_file.ensures.fresh old held)
