use Rattle.std.proofs.Common.{◌≡◌, ◌<◌, IsTrue, refl, sym, subst, ◌∙◌, arith, rules}
use Rattle.std.specs.Prelude.{slice_get, Some}
use Rattle.gx_ports.specs.Files.{IsPlace, IsVacant}
use Rattle.gx_ports.specs.Roots.{roots_of}
use Rattle.gx_ports.specs.Sheets.{Ground}
use Rattle.gx_ports.proofs.PageLemmas.{pages_keep_themselves, kept_pages_joined}
use Rattle.gx_chain.specs.Changes.{IsMade}
use Rattle.gx_hash.proofs.BucketLemmas.{roots_some}
use Rattle.gx_hash.proofs.HashLemmas.{root_past}
use Rattle.gx_hash.proofs.MakeLemmas.{AreRootsMade, roots_none, root_free, roots_more, hash_made, hash_made_others}
use Rattle.gx_hash.proofs.hash.make.Goals as goal

pub loop-bucket-init : goal.loop-bucket-init
loop-bucket-init g c = record {
  keeps = pages_keep_themselves g.P.PageView c.args.pages.now;
  faults = refl;
  within = omega arith;
  made = λ told vacant. roots_none (g.P.PageView.ground c.args.pages.now) c.args.place.now
      (g.P.PageView.working c.args.pages.now);
}

pub make_first-requires-clause-first : goal.make_first-requires-clause-first
make_first-requires-clause-first g c =
    root_past (g.P.PageView.ground c.loop-bucket.pages) c.args.place.now c.loop-bucket.bucket
    c.root-first.result
    (subst (λ (x : Ground). IsPlace x c.args.place.now) (sym c.loop-bucket.invariant.keeps.ground)
    c.requires.place)
    (omega (arith, c.loop-bucket-test.true, c.roots-bucket-end.ensures.value)) c.root-first.ensures

pub loop-bucket-preserved : goal.loop-bucket-preserved
loop-bucket-preserved g c =
    let i = c.loop-bucket.invariant in
    let ground = g.P.PageView.ground c.args.pages.now in
    let place = c.args.place.now in
    let s = g.P.PageView.working c.args.pages.now in
    let t = g.P.PageView.working c.loop-bucket.pages in
    let u = g.P.PageView.working c.make_first.new.pages in
    let below : c.loop-bucket.bucket < roots_of place.spec =
    omega (arith, c.loop-bucket-test.true, c.roots-bucket-end.ensures.value) in
    record {
      keeps = kept_pages_joined g.P.PageView i.keeps c.make_first.ensures.keeps;
      faults = c.in_ok-make_first.ensures.faults.counted ∙ i.faults;
      within = omega (arith, below);
      made = λ told vacant.
          let before = i.made told vacant in
          let free = root_free ground place s t c.loop-bucket.bucket below vacant before in
          let made = c.in_ok-make_first.ensures.made told
          (subst (λ n. slice_get t.owners n ≡ Some 0) (sym c.root-first.ensures) free) in
          roots_more ground place s t u c.loop-bucket.bucket c.requires.place below before
          (subst (λ n. IsMade ground place.owner n t u) c.root-first.ensures
          (subst (λ (x : Ground). IsMade x place.owner c.root-first.result t u) i.keeps.ground
          made));
    }

pub returns : goal.returns
returns g c =
    let ground = g.P.PageView.ground c.args.pages.now in
    let place = c.args.place.now in
    let s = g.P.PageView.working c.args.pages.now in
    let t = g.P.PageView.working c.loop-bucket.pages in
    let i = c.loop-bucket.invariant in
    let within = i.within in
    let over = c.loop-bucket-test.false in
    let end : c.loop-bucket.bucket ≡ roots_of place.spec =
    omega (arith, within, over, c.roots-bucket-end.ensures.value) in
    let some = roots_some place.spec c.requires.kind in
    let made = λ (told : IsTrue g.P.PageView.tells) (vacant : IsVacant place s).
    subst (AreRootsMade ground place s t) end (i.made told vacant) in
    record {
      made = λ told vacant.
          hash_made ground place s t c.requires.place some vacant (made told vacant);
      others = λ told vacant.
          hash_made_others ground place s t c.requires.place some vacant (made told vacant);
      roots = λ told vacant. (made told vacant).owners;
      keeps = i.keeps;
      faults = search rules;
    }
