use Rattle.std.proofs.Common.{ℕ, false, refl, subst, ◌∙◌, arith, rules}
use Rattle.std.proofs.lemmas.Result.{on_ok_weaker}
use Rattle.gx_device.specs.Faults.{Rose}
use Rattle.gx_ports.proofs.PageLemmas.{read_pages_joined}
use Rattle.std.specs.Prelude.{IsErrOf}
use Rattle.gx_ports.specs.Sheets.{Ground, IsHome}
use Rattle.gx_ports.specs.declared.stop.Stop.TheVariants.{Damaged}
use Rattle.gx_leaves.proofs.ExamineLemmas.{whole_by, file_of, whole_read}
use Rattle.gx_leaves.proofs.paged.PagedLeavesLeaves.check.Goals as goal

pub returns-clause-whole : goal.returns-clause-whole
returns-clause-whole g c told =
    let l = c.args.self.now in
    on_ok_weaker c.check_file.result
    (whole_by g.P.PageView l.places.items l.pages c.check_table.new.pages
    c.check_table.ensures.reads c.args.leaf c.place-place.result c.place-place.ensures.at
    c.len.result (search rules) (c.in_ok-check_table.ensures.table told))
    (c.check_file.ensures.ok told)

pub returns-clause-reads : goal.returns-clause-reads
returns-clause-reads g c =
    let l = c.args.self.now in
    let same = c.in_ok-check_table.ensures.ends.cause.counted (refl {a = false}) in
    let cause = c.check_file.ensures.ends.cause in
    let home : (block : ℕ) → IsErrOf c.check_file.result (Damaged block)
    → IsHome (g.P.PageView.ground c.args.self.now.pages) block = λ block is.
    subst (λ (x : Ground). IsHome x block) c.check_table.ensures.reads.keeps.ground
    (c.check_file.ensures.ends.home block is) in
    record {
      reads = search rules;
      ends = record {
        whole = whole_read g.P.PageView l.places.items l.pages c.check_file.new.pages
            (read_pages_joined g.P.PageView c.check_table.ensures.reads c.check_file.ensures.reads)
            c.check_file.result;
        later = omega (arith, cause.later, same);
        fault = λ is. subst (λ n. Rose n (g.P.PageView.faults c.check_file.new.pages)) same
            (cause.fault is);
        counted = λ is. cause.counted is ∙ same;
        damaged = λ block is whole. cause.damaged block is
            (file_of g.P.PageView l.places.items l.pages c.check_table.new.pages
            c.check_table.ensures.reads c.args.leaf c.place-place.result
            c.place-place.ensures.at whole);
      };
      block = record { bound = λ block is. (home block is).1.within; home = home };
      not_full = c.check_file.ensures.not_full;
    }
