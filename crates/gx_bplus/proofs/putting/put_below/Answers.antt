use Rattle.std.proofs.Common.{refl, sym, subst, rules}
use Rattle.gx_btree.proofs.CallLemmas.{ends_after, ends_handed}
use Rattle.gx_bplus.proofs.GrowthLemmas.{child_put, spread_stands, spread_put}
use Rattle.gx_bplus.proofs.InsertLemmas.{none_left}
use Rattle.gx_bplus.specs.Changes.{IsSpread}
use Rattle.gx_bplus.proofs.putting.put_below.Goals as goal
use Rattle.gx_slots.specs.Page.{entries_of}

pub returns-then-set_entry-clause-put : goal.returns-then-set_entry-clause-put
returns-then-set_entry-clause-put g c told root steps tree reached =
    let old = c.args.pages.now in
    let bytes = c.set_entry.new.page in
    child_put (g.P.PageView.ground old) c.args.owner root c.args.at c.args.child steps
    c.args.key.now tree c.args.page.now c.args.below.now
    (g.P.PageView.working old) reached c.requires.page c.requires.way c.args.body.now
    c.requires.below
    bytes (g.P.PageView.working c.write.new.self) c.set_entry.ensures.shown
    c.if-set_entry.ensures.set (c.in_ok-write.ensures.written told)
    (g.met.P.Pages.many old told).1

pub spread-separator-requires-clause-other : goal.spread-separator-requires-clause-other
spread-separator-requires-clause-other g c =
    none_left (entries_of c.args.below.now) (entries_of c.set_entry.new.page) c.args.key.now
    c.if-set_entry.ensures.taken

pub returns-in_err-divide-clause-claims : goal.returns-in_err-divide-clause-claims
returns-in_err-divide-clause-claims g c =
    let old = c.args.pages.now in
    record {
      full = search rules;
      unchanged = search rules;
      keeps = search rules;
      ends =
          ends_handed g.P.PageView _ _ _ old c.divide.new.pages _
          c.from_residual-in_err-divide.result
          (ends_after g.P.PageView _ _ old old c.divide.new.pages _ refl refl
          (λ h. let r = h.1 in spread_stands (g.P.PageView.ground old) r.owner r.root c.args.at
          c.args.child r.steps c.args.key.now r.tree
          c.args.page.now c.args.below.now (g.P.PageView.working old) r.reached c.requires.page
          c.requires.way c.args.body.now
          c.requires.below
          c.set_entry.new.page c.spread-separator.new.page c.spread-separator.new.right
          c.as_slice.result.now c.if-set_entry.ensures.taken
          (subst (IsSpread (entries_of c.set_entry.new.page)
          (record { key = c.args.key.now; body = c.args.body.now })
          (entries_of c.spread-separator.new.page) (entries_of c.spread-separator.new.right))
          (sym c.as_slice.ensures.value) c.spread-separator.ensures.spread))
          c.in_err-divide.ensures.claims.ends) c.from_residual-in_err-divide.ensures.1;
      frugal = search rules;
    }

pub returns-clause-put : goal.returns-clause-put
returns-clause-put g c told root steps tree reached =
    let old = c.args.pages.now in
    let s = c.spread-separator.ensures in
    spread_put (g.P.PageView.ground old) c.args.owner root c.args.at c.args.child steps
    c.args.key.now tree c.args.page.now
    c.args.below.now (g.P.PageView.working old) reached c.requires.page c.requires.way
    c.args.body.now c.requires.below
    c.set_entry.new.page c.spread-separator.new.page c.spread-separator.new.right
    c.as_slice.result.now c.if-set_entry.ensures.taken
    (subst (IsSpread (entries_of c.set_entry.new.page)
    (record { key = c.args.key.now; body = c.args.body.now })
    (entries_of c.spread-separator.new.page) (entries_of c.spread-separator.new.right))
    (sym c.as_slice.ensures.value) s.spread)
    (g.P.PageView.working c.divide.new.pages) c.in_ok-divide.field-0 s.left s.right
    (c.in_ok-divide.ensures.divided told)
    (g.met.P.Pages.many old told).1
