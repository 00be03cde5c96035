use Rattle.std.proofs.Common.{◌++◌, ◌∷◌, ℕ, List, inl, inr, refl, sym, ap, ◌∙◌}
use Rattle.gx_bplus.proofs.GrowthLemmas.{halved, root_come, raised_come}
use Rattle.gx_bnode.specs.Page.{separators_of}
use Rattle.gx_btree.specs.Order.{is_below}
use Rattle.gx_bplus.proofs.splitting.open_root.Goals as goal

pub returns-then-has_room-clause-come : goal.returns-then-has_room-clause-come
returns-then-has_room-clause-come g c told tree held =
    root_come (g.P.PageView.ground c.args.pages.now) c.args.owner c.args.root c.args.key.now tree
    c.args.page.now
    (g.P.PageView.working c.args.pages.now) held

pub returns-then-is_below-clause-come : goal.returns-then-is_below-clause-come
returns-then-is_below-clause-come g c told tree held =
    let old = c.args.pages.now in
    let s = c.split-separator.ensures in
    raised_come (g.P.PageView.ground old) c.args.owner c.args.root c.args.key.now tree
    c.args.page.now (g.P.PageView.working old) held
    c.split-separator.new.page c.split-separator.new.right c.as_slice.result.now c.requires.page
    s.left s.right
    (halved c.args.page.now c.split-separator.new.page c.split-separator.new.right
    c.as_slice.result.now
    (s.separators ∙ ap (λ (k : List ℕ). separators_of c.split-separator.new.page
    ++ k ∷ separators_of c.split-separator.new.right)
    (sym c.as_slice.ensures.value)) s.children)
    (g.P.PageView.working c.raise.new.pages) c.in_ok-below.below.left c.in_ok-below.below.right
    (c.in_ok-below.ensures.raised told)
    (g.met.P.Pages.many old told).1
    c.in_ok-below.below.left c.split-separator.new.page
    (inl (
      ap (is_below c.args.key.now) (c.as_slice.ensures.value ∙ sym c.as_slice-2.ensures.value)
          ∙ sym c.is_below.ensures
          ∙ c.if-is_below.true,
      refl,
      refl,
    ))

pub returns-clause-come : goal.returns-clause-come
returns-clause-come g c told tree held =
    let old = c.args.pages.now in
    let s = c.split-separator.ensures in
    raised_come (g.P.PageView.ground old) c.args.owner c.args.root c.args.key.now tree
    c.args.page.now (g.P.PageView.working old) held
    c.split-separator.new.page c.split-separator.new.right c.as_slice.result.now c.requires.page
    s.left s.right
    (halved c.args.page.now c.split-separator.new.page c.split-separator.new.right
    c.as_slice.result.now
    (s.separators ∙ ap (λ (k : List ℕ). separators_of c.split-separator.new.page
    ++ k ∷ separators_of c.split-separator.new.right)
    (sym c.as_slice.ensures.value)) s.children)
    (g.P.PageView.working c.raise.new.pages) c.in_ok-below.below.left c.in_ok-below.below.right
    (c.in_ok-below.ensures.raised told)
    (g.met.P.Pages.many old told).1
    c.in_ok-below.below.right c.copy_from_slice.new.self
    (inr (
      ap (is_below c.args.key.now) (c.as_slice.ensures.value ∙ sym c.as_slice-2.ensures.value)
          ∙ sym c.is_below.ensures
          ∙ c.if-is_below.false,
      refl,
      c.copy_from_slice.ensures.after,
    ))
