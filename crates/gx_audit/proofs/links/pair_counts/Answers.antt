use Rattle.std.proofs.Common.{rules, ◌≡◌, ◌++◌, ◌∷◌, [], ◌∙◌, refl, sym, subst}
use Rattle.std.specs.FinMap as fin
use Rattle.std.proofs.lemmas.List.{map-append}
use Rattle.gx_ports.proofs.CallLemmas.{reads_joined}
use Rattle.gx_stack.proofs.CountLemmas.{counts_joined}
use Rattle.gx_audit.specs.Audits.{AreFiles, IsLinkAt, IsPairCount}
use Rattle.gx_audit.proofs.StateLemmas.{link_more}
use Rattle.gx_audit.proofs.links.pair_counts.Goals as goal

pub loop-link-preserved : goal.loop-link-preserved
loop-link-preserved g c =
    let b = g.B.View in
    let at = c.loop-link in
    let inv = at.invariant in
    let schema = c.args.schema.now in
    let built = c.args.built.now in
    let maps = b.working c.args.leaves.now in
    let e = c.in_ok-count.ensures in
    let same : b.working at.leaves ≡ maps = inv.reads.working in
    record {
      found = λ fs files are w.
          let ls = inv.found fs files are w in
          let here = subst (IsPairCount schema built (b.whole at.leaves) (b.working at.leaves) fs
          at.link) c.in-Some.is (e.count fs
          (subst (λ ms. AreFiles schema built.files ms fs) (sym same) files) are)
          (inv.whole w) in (
            ls.0 ++ here.0 ∷ [],
            link_more schema built maps fs at.link ls.0 here.0 ls.1
                (subst (λ ms. IsLinkAt schema built ms fs at.link here.0) same here.1),
            c.in_ok-push.ensures.items ∙ (λ i. ls.2 i ++ here.2 i ∷ [])
                ∙ sym (map-append fin.len ls.0 (here.0 ∷ [])),
          );
      many = search rules;
      entries = λ w. counts_joined maps (b.working at.leaves) c.args.entries.now at.entries
          c.pair_count.new.entries inv.reads.working (inv.entries w) (e.entries (inv.whole w));
      reads = reads_joined b inv.reads e.reads.reads;
      whole = λ h. e.reads.ends.whole (inv.whole h);
      counted = e.reads.ends.counted refl ∙ inv.counted;
    }

pub returns-in_default-clause-entries : goal.returns-in_default-clause-entries
returns-in_default-clause-entries g c = λ w.
    let b = g.B.View in
    let at = c.loop-link in
    let inv = at.invariant in
    counts_joined (b.working c.args.leaves.now) (b.working at.leaves) c.args.entries.now at.entries
    c.pair_count.new.entries inv.reads.working (inv.entries w)
    (c.in_ok-count.ensures.entries (inv.whole w))

pub returns-in_err-push-clause-entries : goal.returns-in_err-push-clause-entries
returns-in_err-push-clause-entries g c = λ w.
    let b = g.B.View in
    let at = c.loop-link in
    let inv = at.invariant in
    counts_joined (b.working c.args.leaves.now) (b.working at.leaves) c.args.entries.now at.entries
    c.pair_count.new.entries inv.reads.working (inv.entries w)
    (c.in_ok-count.ensures.entries (inv.whole w))

pub returns-in_err-count-clause-entries : goal.returns-in_err-count-clause-entries
returns-in_err-count-clause-entries g c = λ w.
    let b = g.B.View in
    let at = c.loop-link in
    let inv = at.invariant in
    counts_joined (b.working c.args.leaves.now) (b.working at.leaves) c.args.entries.now at.entries
    c.pair_count.new.entries inv.reads.working (inv.entries w)
    (c.pair_count.ensures.entries (inv.whole w))
