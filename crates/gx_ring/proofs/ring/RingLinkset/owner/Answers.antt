use Rattle.std.proofs.Common.{subst}
use Rattle.gx_stack.specs.Seen.{tree_of}
use Rattle.gx_ring.specs.Reads.{IsRecordAt}
use Rattle.gx_stack.proofs.PassLemmas.{reads_given}
use Rattle.gx_ring.proofs.FoundLemmas.{nexts_below, nexts_held, owner_field, owner_none, owner_some}
use Rattle.gx_ring.proofs.ring.RingLinkset.owner.Goals as goal

pub record_at-requires-clause-below : goal.record_at-requires-clause-below
record_at-requires-clause-below g c =
    λ n h. c.requires.below n
    (nexts_below g.M.Mapping.rule (tree_of c.args.self.now.heads.now)
    (tree_of c.args.self.now.chain.now) c.requires.valid n h)

pub returns-in_err-rec-clause-reads : goal.returns-in_err-rec-clause-reads
returns-in_err-rec-clause-reads g c =
    let b = g.B.View in
    reads_given b c.from_residual.result c.from_residual.ensures.1
    (λ s. (
      s.0,
      nexts_held g.M.Mapping.rule (tree_of c.args.self.now.heads.now)
          (tree_of c.args.self.now.chain.now) c.requires.valid (b.working c.args.leaves.now) s.1,
    ))
    c.in_err-rec.ensures.reads

pub take_field-requires : goal.take_field-requires
take_field-requires g c =
    let b = g.B.View in
    let nexts = tree_of c.args.self.now.chain.now in
    let at = subst (IsRecordAt g.M.Mapping.rule nexts (b.whole c.args.leaves.now)
    (b.working c.args.leaves.now) c.args.member.now (b.work c.args.leaves.now)
    (b.work c.record_at.new.leaves)) c.in-Some.is c.in_ok-rec.ensures.found in
    (owner_field g.M.Mapping.rule (tree_of c.args.self.now.heads.now) nexts c.requires.valid
    c.in-Some.rec at.fit).0

pub returns-in-Some-clause-found : goal.returns-in-Some-clause-found
returns-in-Some-clause-found g c =
    let b = g.B.View in
    let nexts = tree_of c.args.self.now.chain.now in
    let at = subst (IsRecordAt g.M.Mapping.rule nexts (b.whole c.args.leaves.now)
    (b.working c.args.leaves.now) c.args.member.now (b.work c.args.leaves.now)
    (b.work c.record_at.new.leaves)) c.in-Some.is c.in_ok-rec.ensures.found in
    owner_some g.M.Mapping.rule (tree_of c.args.self.now.heads.now) nexts c.requires.valid
    (b.whole c.args.leaves.now) (b.working c.args.leaves.now) c.args.member.now
    (b.work c.args.leaves.now) (b.work c.record_at.new.leaves) c.in-Some.rec
    c.take_field.result c.take_field.ensures at

pub returns-in-None-clause-found : goal.returns-in-None-clause-found
returns-in-None-clause-found g c =
    let b = g.B.View in
    let nexts = tree_of c.args.self.now.chain.now in
    let at = subst (IsRecordAt g.M.Mapping.rule nexts (b.whole c.args.leaves.now)
    (b.working c.args.leaves.now) c.args.member.now (b.work c.args.leaves.now)
    (b.work c.record_at.new.leaves)) c.in-None.is c.in_ok-rec.ensures.found in
    owner_none g.M.Mapping.rule (tree_of c.args.self.now.heads.now) nexts c.requires.valid
    (b.whole c.args.leaves.now) (b.working c.args.leaves.now) c.args.member.now
    (b.work c.args.leaves.now) (b.work c.record_at.new.leaves) at
