use Rattle.std.proofs.Common.{Some, None, refl, subst}
use Rattle.gx_stack.specs.Seen.{tree_of}
use Rattle.gx_ring.specs.declared.records.Behind.TheVariants as found
use Rattle.gx_ring.specs.Records.{IsBehind}
use Rattle.gx_ring.specs.Reads.{IsRecordAt}
use Rattle.gx_stack.proofs.PassLemmas.{read_passes, reads_given, reads_stopped}
use Rattle.gx_ring.proofs.WalkLemmas.{has_set, missing, unknown, next_found}
use Rattle.gx_ring.proofs.ring.Ring.next_of.Goals as goal

pub returns-in_err-rec-clause-reads : goal.returns-in_err-rec-clause-reads
returns-in_err-rec-clause-reads g c =
    let rule = g.M.Mapping.rule in
    let heads = tree_of c.args.self.now.heads.now in
    let nexts = tree_of c.args.self.now.chain.now in
    let b = g.B.View in
    let maps = b.working c.args.leaves.now in
    reads_given b c.from_residual.result c.from_residual.ensures.1
    (λ s. (s.0, has_set rule heads nexts c.requires.valid maps c.args.member.now s.1))
    c.in_err-rec.ensures.reads

pub returns-in_default-clause-reads : goal.returns-in_default-clause-reads
returns-in_default-clause-reads g c =
    let rule = g.M.Mapping.rule in
    let heads = tree_of c.args.self.now.heads.now in
    let nexts = tree_of c.args.self.now.chain.now in
    let b = g.B.View in
    let maps = b.working c.args.leaves.now in
    reads_stopped b _ refl
    (λ s. missing rule heads nexts c.requires.valid (b.whole c.args.leaves.now) maps
    c.args.member.now (b.work c.args.leaves.now) (b.work c.record_at.new.leaves)
    (subst (IsRecordAt rule nexts (b.whole c.args.leaves.now) maps c.args.member.now
    (b.work c.args.leaves.now) (b.work c.record_at.new.leaves)) c.in_default.is
    c.in_ok-rec.ensures.found) s.0 s.1)
    (read_passes b c.in_ok-rec.ensures.reads)

pub returns-in-Member-clause-found : goal.returns-in-Member-clause-found
returns-in-Member-clause-found g c =
    let rule = g.M.Mapping.rule in
    let heads = tree_of c.args.self.now.heads.now in
    let nexts = tree_of c.args.self.now.chain.now in
    let b = g.B.View in
    let maps = b.working c.args.leaves.now in
    next_found rule heads nexts c.requires.valid (b.whole c.args.leaves.now) maps c.args.member.now
    (b.work c.args.leaves.now) (b.work c.record_at.new.leaves) c.in-Some.rec
    (Some c.in-Member.next)
    (subst (IsRecordAt rule nexts (b.whole c.args.leaves.now) maps c.args.member.now
    (b.work c.args.leaves.now) (b.work c.record_at.new.leaves)) c.in-Some.is
    c.in_ok-rec.ensures.found)
    (subst (λ k. IsBehind k c.in-Some.rec (found.Member c.in-Member.next)) c.member_kind.ensures
    (subst (λ x. IsBehind c.member_kind.result c.in-Some.rec x) c.in-Member.is
    c.in_ok-next.ensures))

pub returns-in-Nothing-clause-found : goal.returns-in-Nothing-clause-found
returns-in-Nothing-clause-found g c =
    let rule = g.M.Mapping.rule in
    let heads = tree_of c.args.self.now.heads.now in
    let nexts = tree_of c.args.self.now.chain.now in
    let b = g.B.View in
    let maps = b.working c.args.leaves.now in
    next_found rule heads nexts c.requires.valid (b.whole c.args.leaves.now) maps c.args.member.now
    (b.work c.args.leaves.now) (b.work c.record_at.new.leaves) c.in-Some.rec None
    (subst (IsRecordAt rule nexts (b.whole c.args.leaves.now) maps c.args.member.now
    (b.work c.args.leaves.now) (b.work c.record_at.new.leaves)) c.in-Some.is
    c.in_ok-rec.ensures.found)
    (subst (λ k. IsBehind k c.in-Some.rec found.Nothing) c.member_kind.ensures
    (subst (λ x. IsBehind c.member_kind.result c.in-Some.rec x) c.in-Nothing.is
    c.in_ok-next.ensures))

pub returns-clause-reads : goal.returns-clause-reads
returns-clause-reads g c =
    let rule = g.M.Mapping.rule in
    let heads = tree_of c.args.self.now.heads.now in
    let nexts = tree_of c.args.self.now.chain.now in
    let b = g.B.View in
    let maps = b.working c.args.leaves.now in
    reads_stopped b _ refl
    (λ s. unknown rule heads nexts c.requires.valid (b.whole c.args.leaves.now) maps
    c.args.member.now (b.work c.args.leaves.now) (b.work c.record_at.new.leaves) c.in-Some.rec
    (subst (IsRecordAt rule nexts (b.whole c.args.leaves.now) maps c.args.member.now
    (b.work c.args.leaves.now) (b.work c.record_at.new.leaves)) c.in-Some.is
    c.in_ok-rec.ensures.found)
    (subst (λ k. IsBehind k c.in-Some.rec found.Unknown) c.member_kind.ensures
    (subst (λ x. IsBehind c.member_kind.result c.in-Some.rec x) c.in-Unknown.is
    c.in_ok-next.ensures)) s.0 s.1)
    (read_passes b c.in_ok-rec.ensures.reads)
