use Rattle.std.proofs.Common.{◌<◌, sym, subst, length}
use Rattle.std.proofs.lemmas.Result.{on_ok_weaker}
use Rattle.gx_values.specs.Values.{Fits}
use Rattle.gx_stack.specs.Seen.{tree_of}
use Rattle.gx_links.specs.Rows.{member_kind}
use Rattle.gx_ring.specs.Reads.{IsRecordAt}
use Rattle.gx_stack.proofs.PassLemmas.{read_passes, reads_after, reads_given}
use Rattle.gx_ring.proofs.FoundLemmas.{heads_below, nexts_below, heads_held, head_field, members_none, members_some, chain_of_link}
use Rattle.gx_ring.proofs.ring.RingLinkset.members.Goals as goal

pub record_at-requires-clause-below : goal.record_at-requires-clause-below
record_at-requires-clause-below g c =
    λ n h. c.requires.below n
    (heads_below g.M.Mapping.rule (tree_of c.args.self.now.heads.now)
    (tree_of c.args.self.now.chain.now) c.requires.valid n h)

pub returns-in_err-head-clause-reads : goal.returns-in_err-head-clause-reads
returns-in_err-head-clause-reads g c =
    let b = g.B.View in
    reads_given b c.from_residual.result c.from_residual.ensures.1
    (λ s. (
      s.0,
      heads_held g.M.Mapping.rule (tree_of c.args.self.now.heads.now)
          (tree_of c.args.self.now.chain.now) c.requires.valid (b.working c.args.leaves.now) s.1,
    ))
    c.in_err-head.ensures.reads

pub take_field-requires : goal.take_field-requires
take_field-requires g c =
    let b = g.B.View in
    let heads = tree_of c.args.self.now.heads.now in
    let at = subst (IsRecordAt g.M.Mapping.rule heads (b.whole c.args.leaves.now)
    (b.working c.args.leaves.now) c.args.owner.now (b.work c.args.leaves.now)
    (b.work c.record_at.new.leaves)) c.in-Some.is c.in_ok-head.ensures.found in
    (head_field g.M.Mapping.rule heads (tree_of c.args.self.now.chain.now) c.requires.valid
    c.in-Some.head at.fit).0

pub walk-requires-clause-below : goal.walk-requires-clause-below
walk-requires-clause-below g c =
    λ n h. subst (λ ms. n < length ms) (sym c.in_ok-head.ensures.reads.reads.working)
    (c.requires.below n (nexts_below g.M.Mapping.rule (tree_of c.args.self.now.heads.now)
    (tree_of c.args.self.now.chain.now) c.requires.valid n h))

pub walk-requires-clause-first : goal.walk-requires-clause-first
walk-requires-clause-first g c =
    let b = g.B.View in
    let heads = tree_of c.args.self.now.heads.now in
    let at = subst (IsRecordAt g.M.Mapping.rule heads (b.whole c.args.leaves.now)
    (b.working c.args.leaves.now) c.args.owner.now (b.work c.args.leaves.now)
    (b.work c.record_at.new.leaves)) c.in-Some.is c.in_ok-head.ensures.found in
    subst (Fits (member_kind g.M.Mapping.rule (tree_of c.args.self.now.chain.now)))
    (sym c.take_field.ensures)
    (head_field g.M.Mapping.rule heads (tree_of c.args.self.now.chain.now) c.requires.valid
    c.in-Some.head at.fit).1

pub returns-in-Some-clause-found : goal.returns-in-Some-clause-found
returns-in-Some-clause-found g c =
    let b = g.B.View in
    let heads = tree_of c.args.self.now.heads.now in
    let old = c.args.leaves.now in
    let half = c.record_at.new.leaves in
    let at = subst (IsRecordAt g.M.Mapping.rule heads (b.whole old) (b.working old) c.args.owner.now
    (b.work old) (b.work half)) c.in-Some.is c.in_ok-head.ensures.found in
    on_ok_weaker c.walk.result (λ walked.
    members_some g.M.Mapping.rule heads (tree_of c.args.self.now.chain.now) c.requires.valid
    (b.whole old) (b.whole half) (b.working old)
    (b.working half) c.in_ok-head.ensures.reads.ends.whole
    c.in_ok-head.ensures.reads.reads.working c.args.owner.now (b.work old)
    (b.work half) c.in-Some.head c.take_field.result c.take_field.ensures at
    (b.work c.walk.new.leaves) c.args.out.now c.walk.new.out walked)
    c.walk.ensures.walked

pub returns-in-Some-clause-reads : goal.returns-in-Some-clause-reads
returns-in-Some-clause-reads g c =
    let b = g.B.View in
    let heads = tree_of c.args.self.now.heads.now in
    let old = c.args.leaves.now in
    let half = c.record_at.new.leaves in
    let at = subst (IsRecordAt g.M.Mapping.rule heads (b.whole old) (b.working old) c.args.owner.now
    (b.work old) (b.work half)) c.in-Some.is c.in_ok-head.ensures.found in
    reads_after b c.walk.result (read_passes b c.in_ok-head.ensures.reads)
    (chain_of_link g.M.Mapping.rule heads (tree_of c.args.self.now.chain.now) c.requires.valid
    (b.whole old) (b.whole half) (b.working old)
    (b.working half) c.in_ok-head.ensures.reads.ends.whole
    c.in_ok-head.ensures.reads.reads.working c.args.owner.now (b.work old)
    (b.work half) c.in-Some.head c.take_field.result c.take_field.ensures at)
    c.walk.ensures.reads

pub returns-in-None-clause-found : goal.returns-in-None-clause-found
returns-in-None-clause-found g c =
    let b = g.B.View in
    let heads = tree_of c.args.self.now.heads.now in
    let at = subst (IsRecordAt g.M.Mapping.rule heads (b.whole c.args.leaves.now)
    (b.working c.args.leaves.now) c.args.owner.now (b.work c.args.leaves.now)
    (b.work c.record_at.new.leaves)) c.in-None.is c.in_ok-head.ensures.found in
    members_none g.M.Mapping.rule heads (tree_of c.args.self.now.chain.now) c.requires.valid
    (b.whole c.args.leaves.now) (b.working c.args.leaves.now) c.args.owner.now
    (b.work c.args.leaves.now) (b.work c.record_at.new.leaves) c.args.out.now at
