use Rattle.std.proofs.Common.{sym, subst, ◌∙◌}
use Rattle.gx_leaves.specs.Places.{IsLaidOut}
use Rattle.gx_leaves.proofs.PlaceLemmas.{laid_by}
use Rattle.gx_leaves.proofs.MakeLemmas.{made_empty, made_whole}
use Rattle.gx_leaves.proofs.paged.PagedLeaves.make.Goals as goal

pub make_files-requires : goal.make_files-requires
make_files-requires g c =
    laid_by (g.P.PageView.ground c.args.pages) c.args.specs.now c.deref.result.now c.requires
    (c.deref.ensures.value ∙ c.in-Ok.ensures)

pub invariant_of-result : goal.invariant_of-result
invariant_of-result g c = record {
  laid_out = subst (λ b. IsLaidOut b c.in-Ok.places.items) (sym c.make_files.ensures.keeps.ground)
      (laid_by (g.P.PageView.ground c.args.pages) c.args.specs.now c.in-Ok.places.items c.requires
      c.in-Ok.ensures);
}

pub returns-in-Ok-make_files-clause-working : goal.returns-in-Ok-make_files-clause-working
returns-in-Ok-make_files-clause-working g c = λ told free.
    made_empty (g.P.PageView.ground c.args.pages) (g.P.PageView.ground c.make_files.new.pages)
    c.make_files.ensures.keeps.ground c.args.specs.now c.requires c.deref.result.now
    c.in-Ok.places.items c.deref.ensures.value c.in-Ok.ensures
    (g.P.PageView.working c.make_files.new.pages) (c.in-Ok-make_files.ensures.made told free)

pub returns-in-Ok-make_files-clause-whole : goal.returns-in-Ok-make_files-clause-whole
returns-in-Ok-make_files-clause-whole g c = λ told free steady. record {
  told = told;
  settled = c.make_files.ensures.keeps.steady.0 steady;
  laid = made_whole (g.P.PageView.ground c.args.pages) (g.P.PageView.ground c.make_files.new.pages)
      c.make_files.ensures.keeps.ground c.args.specs.now c.requires c.deref.result.now
      c.in-Ok.places.items c.deref.ensures.value c.in-Ok.ensures
      (g.P.PageView.working c.make_files.new.pages) (c.in-Ok-make_files.ensures.made told free);
}
