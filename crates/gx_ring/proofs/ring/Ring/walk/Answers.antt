use Rattle.std.proofs.Common.{◌≤◌, ◌<◌, ◌∙◌, refl, sym, subst, length, arith}
use Rattle.gx_ports.proofs.CallLemmas.{reads_itself, reads_joined}
use Rattle.gx_links.specs.Links.{most_members}
use Rattle.gx_stack.specs.Seen.{tree_of}
use Rattle.gx_ring.specs.Walks.{HasMember, IsNext}
use Rattle.gx_stack.proofs.PassLemmas.{reads_given_after, reads_stopped}
use Rattle.gx_ring.proofs.WalkLemmas.{AtStep, first_step, next_step, last_step, no_step, member_at, next_again}
use Rattle.gx_ring.proofs.ring.Ring.walk.Goals as goal

pub loop-step-init : goal.loop-step-init
loop-step-init g c =
    let b = g.B.View in
    let rule = g.M.Mapping.rule in
    let heads = tree_of c.args.self.now.heads.now in
    let nexts = tree_of c.args.self.now.chain.now in
    let old = c.args.leaves.now in
    record {
      whole = λ w. w;
      reads = reads_itself b old;
      counted = refl;
      step = subst (λ xs. AtStep rule heads nexts (b.whole old) (b.working old) c.args.first
          c.args.out.now (b.work old) 0 c.args.first xs (b.work old)) (sym c.out.view_is)
          (first_step rule heads nexts c.requires.valid (b.whole old) (b.working old) c.args.first
          c.args.out.now (b.work old) c.requires.first);
    }

pub next_of-requires-clause-below : goal.next_of-requires-clause-below
next_of-requires-clause-below g c =
    λ n h. subst (λ ms. n < length ms) (sym c.loop-step.invariant.reads.working)
    (c.requires.below n h)

pub returns-in_err-next-clause-reads : goal.returns-in_err-next-clause-reads
returns-in_err-next-clause-reads g c =
    let b = g.B.View in
    let rule = g.M.Mapping.rule in
    let heads = tree_of c.args.self.now.heads.now in
    let nexts = tree_of c.args.self.now.chain.now in
    let old = c.args.leaves.now in
    let inv = c.loop-step.invariant in
    reads_given_after b c.from_residual.result c.from_residual.ensures.1
    (record { reads = inv.reads; whole = inv.whole; counted = inv.counted })
    (λ s. (
      inv.whole s.0,
      subst (λ ms. HasMember rule heads nexts ms c.loop-step.at)
          (sym inv.reads.working) (member_at rule heads nexts c.requires.valid (b.whole old)
          (b.working old) c.args.first c.args.out.now (b.work old) _ c.loop-step.at _ _
          inv.step s.0 s.1),
    ))
    c.in_err-next.ensures.reads

pub returns-in-None-clause-walked : goal.returns-in-None-clause-walked
returns-in-None-clause-walked g c =
    let b = g.B.View in
    let rule = g.M.Mapping.rule in
    let heads = tree_of c.args.self.now.heads.now in
    let nexts = tree_of c.args.self.now.chain.now in
    let old = c.args.leaves.now in
    let inv = c.loop-step.invariant in
    last_step rule heads nexts c.requires.valid (b.whole old) (b.working old) c.args.first
    c.args.out.now (b.work old) _ c.loop-step.at _ _ _ _ inv.step c.in_ok-push.ensures.items
    (subst (λ n. IsNext rule heads nexts (b.whole old) (b.working old) c.loop-step.at
    (b.work c.loop-step.leaves) (b.work c.next_of.new.leaves) n) c.in-None.is
    (next_again rule heads nexts c.requires.valid (b.whole old) (b.whole c.loop-step.leaves)
    (b.working old) (b.working c.loop-step.leaves) c.loop-step.at _ _ _ inv.whole
    inv.reads.working c.in_ok-next.ensures.found))

pub loop-step-preserved : goal.loop-step-preserved
loop-step-preserved g c =
    let b = g.B.View in
    let rule = g.M.Mapping.rule in
    let heads = tree_of c.args.self.now.heads.now in
    let nexts = tree_of c.args.self.now.chain.now in
    let old = c.args.leaves.now in
    let inv = c.loop-step.invariant in
    record {
      whole = λ w. c.in_ok-next.ensures.reads.ends.whole (inv.whole w);
      reads = reads_joined b inv.reads c.in_ok-next.ensures.reads.reads;
      counted = c.in_ok-next.ensures.reads.ends.counted refl ∙ inv.counted;
      step = next_step rule heads nexts c.requires.valid (b.whole old) (b.working old) c.args.first
          c.args.out.now (b.work old) _ c.loop-step.at _ _ _ _ inv.step c.in_ok-push.ensures.items
          c.in-Some.next
          (subst (λ n. IsNext rule heads nexts (b.whole old) (b.working old) c.loop-step.at
          (b.work c.loop-step.leaves) (b.work c.next_of.new.leaves) n) c.in-Some.is
          (next_again rule heads nexts c.requires.valid (b.whole old) (b.whole c.loop-step.leaves)
          (b.working old) (b.working c.loop-step.leaves) c.loop-step.at _ _ _ inv.whole
          inv.reads.working c.in_ok-next.ensures.found));
    }

pub returns-clause-reads : goal.returns-clause-reads
returns-clause-reads g c =
    let b = g.B.View in
    let rule = g.M.Mapping.rule in
    let heads = tree_of c.args.self.now.heads.now in
    let nexts = tree_of c.args.self.now.chain.now in
    let old = c.args.leaves.now in
    let inv = c.loop-step.invariant in
    let past : most_members ≤ c.loop-step._step = omega arith in
    reads_stopped b _ refl
    (λ s. no_step rule heads nexts c.requires.valid (b.whole old) (b.working old) c.args.first
    c.args.out.now (b.work old) _ c.loop-step.at _ _ inv.step past s.0 s.1)
    (record { reads = inv.reads; whole = inv.whole; counted = inv.counted })
