use Rattle.std.proofs.Common.{◌<◌, sym, subst, length}
use Rattle.gx_stack.specs.Seen.{tree_of}
use Rattle.gx_stack.specs.Internal.{IsInternal, HasSet}
use Rattle.gx_stack.specs.Held.{IsHeld}
use Rattle.gx_stack.proofs.CountLemmas.{counts_joined}
use Rattle.gx_links.proofs.held.held_both.Goals as goal

pub held-requires-2-clause-below : goal.held-requires-2-clause-below
held-requires-2-clause-below g c = λ n h. subst (λ maps. n < length maps)
    (sym c.held.ensures.reads.reads.working) (c.requires.second_below n h)

pub returns-in_default-clause-held : goal.returns-in_default-clause-held
returns-in_default-clause-held g c = λ whole one two.
    let b = g.B.View in
    let old = c.args.leaves.now in
    let none = subst (IsHeld g.M.Mapping.rule (tree_of c.args.first.now) (b.whole old)
    (b.working old)) c.in_default.is c.in_ok-one.ensures.held in
    none whole one

pub returns-in_default-2-clause-held : goal.returns-in_default-2-clause-held
returns-in_default-2-clause-held g c = λ whole one two.
    let b = g.B.View in
    let rule = g.M.Mapping.rule in
    let half = c.held.new.leaves in
    let second = tree_of c.args.second.now in
    let none = subst (IsHeld rule second (b.whole half) (b.working half)) c.in_default-2.is
    c.in_ok-two.ensures.held in
    none (c.in_ok-one.ensures.reads.ends.whole whole)
    (subst (HasSet rule second) (sym c.held.ensures.reads.reads.working) two)

pub returns-clause-held : goal.returns-clause-held
returns-clause-held g c =
    let b = g.B.View in
    let rule = g.M.Mapping.rule in
    let old = c.args.leaves.now in
    let half = c.held.new.leaves in
    let second = tree_of c.args.second.now in
    let two = subst (IsHeld rule second (b.whole half) (b.working half)) c.in-Some-2.is
    c.in_ok-two.ensures.held in
    let still = c.in_ok-one.ensures.reads.ends.whole in (
      subst (IsHeld rule (tree_of c.args.first.now) (b.whole old) (b.working old)) c.in-Some.is
          c.in_ok-one.ensures.held,
      record {
        fit = two.fit;
        in_order = λ whole. two.in_order (still whole);
        held = λ whole. subst (IsInternal rule second c.in-Some-2.two)
            c.held.ensures.reads.reads.working (two.held (still whole));
      },
    )

pub returns-in_err-two-clause-counts : goal.returns-in_err-two-clause-counts
returns-in_err-two-clause-counts g c = λ w.
    let b = g.B.View in
    let e = c.held.ensures in
    counts_joined (b.working c.args.leaves.now) (b.working c.held.new.leaves) c.args.counts.now
    c.held.new.counts c.held-2.new.counts e.reads.reads.working (e.counts w)
    (c.held-2.ensures.counts (c.in_ok-one.ensures.reads.ends.whole w))

pub returns-in_default-2-clause-counts : goal.returns-in_default-2-clause-counts
returns-in_default-2-clause-counts g c = λ w.
    let b = g.B.View in
    let e = c.held.ensures in
    counts_joined (b.working c.args.leaves.now) (b.working c.held.new.leaves) c.args.counts.now
    c.held.new.counts c.held-2.new.counts e.reads.reads.working (e.counts w)
    (c.held-2.ensures.counts (c.in_ok-one.ensures.reads.ends.whole w))

pub returns-clause-counts : goal.returns-clause-counts
returns-clause-counts g c = λ w.
    let b = g.B.View in
    let e = c.held.ensures in
    counts_joined (b.working c.args.leaves.now) (b.working c.held.new.leaves) c.args.counts.now
    c.held.new.counts c.held-2.new.counts e.reads.reads.working (e.counts w)
    (c.held-2.ensures.counts (c.in_ok-one.ensures.reads.ends.whole w))
