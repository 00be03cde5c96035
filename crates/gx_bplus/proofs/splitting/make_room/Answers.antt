use Rattle.std.proofs.Common.{◌++◌, ◌∷◌, ℕ, List, inl, inr, refl, sym, ap, ◌∙◌, rules}
use Rattle.gx_btree.proofs.CallLemmas.{ends_after, ends_handed}
use Rattle.gx_bplus.proofs.GrowthLemmas.{halved, halves_may, split_come, stay_come}
use Rattle.gx_bnode.specs.Page.{separators_of}
use Rattle.gx_btree.specs.Order.{is_below}
use Rattle.gx_bplus.proofs.splitting.make_room.Goals as goal

pub returns-then-has_room-clause-come : goal.returns-then-has_room-clause-come
returns-then-has_room-clause-come g c told root steps tree reached =
    stay_come (g.P.PageView.ground c.args.pages.now) c.args.owner root c.args.at c.args.child steps
    c.args.key.now tree c.args.page.now
    c.args.below.now (g.P.PageView.working c.args.pages.now) reached c.requires.page c.requires.way

pub returns-in_err-fresh-clause-claims : goal.returns-in_err-fresh-clause-claims
returns-in_err-fresh-clause-claims g c =
    let old = c.args.pages.now in
    let s = c.split-separator.ensures in
    record {
      full = search rules;
      unchanged = search rules;
      keeps = search rules;
      ends =
          ends_handed g.P.PageView _ _ _ old c.divide.new.pages _ c.from_residual.result
          (ends_after g.P.PageView _ _ old old c.divide.new.pages _ refl refl
          (λ h. let r = h.1 in halves_may (g.P.PageView.ground old) r.owner r.root c.args.at
          c.args.child r.steps c.args.key.now r.tree
          c.args.page.now c.args.below.now (g.P.PageView.working old) r.reached c.requires.page
          c.requires.way
          c.split-separator.new.page c.split-separator.new.right c.as_slice.result.now
          c.requires.below s.left s.right
          (halved c.args.below.now c.split-separator.new.page c.split-separator.new.right
          c.as_slice.result.now
          (s.separators ∙ ap (λ (k : List ℕ). separators_of c.split-separator.new.page
          ++ k ∷ separators_of c.split-separator.new.right)
          (sym c.as_slice.ensures.value)) s.children))
          c.in_err-fresh.ensures.claims.ends) c.from_residual.ensures.1;
      frugal = search rules;
    }

pub returns-then-is_below-clause-come : goal.returns-then-is_below-clause-come
returns-then-is_below-clause-come g c told root steps tree reached =
    let old = c.args.pages.now in
    let s = c.split-separator.ensures in
    split_come (g.P.PageView.ground old) c.args.owner root c.args.at c.args.child steps
    c.args.key.now tree c.args.page.now
    c.args.below.now (g.P.PageView.working old) reached c.requires.page c.requires.way
    c.split-separator.new.page c.split-separator.new.right c.as_slice.result.now c.requires.below
    s.left s.right
    (halved c.args.below.now c.split-separator.new.page c.split-separator.new.right
    c.as_slice.result.now
    (s.separators ∙ ap (λ (k : List ℕ). separators_of c.split-separator.new.page
    ++ k ∷ separators_of c.split-separator.new.right)
    (sym c.as_slice.ensures.value)) s.children)
    (g.P.PageView.working c.divide.new.pages) c.in_ok-fresh.fresh
    (c.in_ok-fresh.ensures.divided told) (g.met.P.Pages.many old told).1
    c.args.child c.split-separator.new.page
    (inl (
      ap (is_below c.args.key.now) (c.as_slice.ensures.value ∙ sym c.as_slice-2.ensures.value)
          ∙ sym c.is_below.ensures
          ∙ c.if-is_below.true,
      refl,
      refl,
    ))

pub returns-clause-come : goal.returns-clause-come
returns-clause-come g c told root steps tree reached =
    let old = c.args.pages.now in
    let s = c.split-separator.ensures in
    split_come (g.P.PageView.ground old) c.args.owner root c.args.at c.args.child steps
    c.args.key.now tree c.args.page.now
    c.args.below.now (g.P.PageView.working old) reached c.requires.page c.requires.way
    c.split-separator.new.page c.split-separator.new.right c.as_slice.result.now c.requires.below
    s.left s.right
    (halved c.args.below.now c.split-separator.new.page c.split-separator.new.right
    c.as_slice.result.now
    (s.separators ∙ ap (λ (k : List ℕ). separators_of c.split-separator.new.page
    ++ k ∷ separators_of c.split-separator.new.right)
    (sym c.as_slice.ensures.value)) s.children)
    (g.P.PageView.working c.divide.new.pages) c.in_ok-fresh.fresh
    (c.in_ok-fresh.ensures.divided told) (g.met.P.Pages.many old told).1
    c.in_ok-fresh.fresh c.copy_from_slice.new.self
    (inr (
      ap (is_below c.args.key.now) (c.as_slice.ensures.value ∙ sym c.as_slice-2.ensures.value)
          ∙ sym c.is_below.ensures
          ∙ c.if-is_below.false,
      refl,
      c.copy_from_slice.ensures.after,
    ))
