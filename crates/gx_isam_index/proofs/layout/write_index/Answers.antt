use Rattle.std.proofs.Common.{inl, inr, ap, ◌∙◌, arith}
use Rattle.std.proofs.lemmas.Bool.{cases_eq}
use Rattle.gx_isam_index.specs.Index.{first_page_of}
use Rattle.gx_isam_index.specs.Layout.{keys_of}
use Rattle.gx_isam_index.proofs.LayoutLemmas.{fresh_new, fresh_stays, index_new, new_count}
use Rattle.gx_isam_index.proofs.layout.write_index.Goals as goal

pub loop-bucket-init : goal.loop-bucket-init
loop-bucket-init c =
    let es = c.args.entries.now in
    let count = c.fresh_count-count.result in
    let is = c.fresh_count-count.ensures in
    let old = c.begin_index.new.page in
    let new = c.write_separators.new.page in
    record {
      index = index_new es c.requires.ordered old new count is.some is.most is.few
          c.begin_index.ensures c.write_separators.ensures;
      fresh = fresh_new es c.requires.ordered old new count is.some is.most is.few
          c.begin_index.ensures c.write_separators.ensures is.value;
      counted = new_count es c.requires.ordered old new count is.some is.most is.few
          c.begin_index.ensures c.write_separators.ensures;
      within = omega arith;
      none = λ i less. absurd (omega (arith, less));
    }

pub loop-bucket-preserved : goal.loop-bucket-preserved
loop-bucket-preserved c =
    let i = c.loop-bucket.invariant in
    let bucket = c.loop-bucket.bucket in
    let test = c.loop-bucket-test.true in
    let counted = i.counted in
    let set = c.set_first.ensures in
    record {
      index = set.page;
      fresh = fresh_stays c.loop-bucket.page c.set_first.new.page (keys_of c.args.entries.now)
          i.fresh set.count set.separators;
      counted = set.count ∙ i.counted;
      within = omega (arith, test);
      none = λ n less. elim (cases_eq n bucket) [
        | inl e ↦ ap (first_page_of c.set_first.new.page) e ∙ set.first
        | inr d ↦ set.others n (omega (arith, less, test, counted)) d
            ∙ i.none n (omega (arith, less, d))
      ];
    }
