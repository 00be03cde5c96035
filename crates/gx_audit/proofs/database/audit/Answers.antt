use Rattle.std.proofs.Common.{rules, ◌≡◌, ◌∙◌, ◌++◌, List, ℕ, None, length, take, drop, sym, ap, subst}
use Rattle.std.specs.Prelude.{replicate}
use Rattle.std.proofs.Math.Seq.{take-append_seam}
use Rattle.gx_ports.specs.LeafMaps.{LeafMap}
use Rattle.gx_stack.specs.Held.{AreCounts}
use Rattle.gx_stack.proofs.CountLemmas.{none_counted}
use Rattle.gx_states.specs.Internal.{AreInternal}
use Rattle.gx_audit.specs.Audits.{IsAnswer}
use Rattle.gx_audit.specs.Texts.{inspect_text}
use Rattle.gx_audit.proofs.database.audit.Goals as goal

pub returns-clause-sound : goal.returns-clause-sound
returns-clause-sound g c = λ w _.
    let b = g.B.View in
    let schema = c.args.schema.now in
    let built = c.args.built.now in
    let mid = c.check_leaves.new.leaves in
    let late = c.found_state.new.leaves in
    let first : b.working mid ≡ b.working c.args.leaves.now =
    c.check_leaves.ensures.reads.reads.working in
    let then : b.working late ≡ b.working mid = c.found_state.ensures.reads.reads.working in
    let wm : b.whole mid = c.in_ok-check_leaves.ensures.reads.ends.whole w in
    let wl : b.whole late = c.in_ok-found.ensures.reads.ends.whole wm in
    let f = subst (IsAnswer schema built (b.whole mid) (b.working mid)) c.in-Some.is
    c.in_ok-found.ensures.found wm in
    let before : c.deref_mut.result.now ≡ replicate c.leaves.result None = search rules in
    let are = c.found_state.ensures.entries wm
    (subst (AreCounts (b.working mid)) (sym before)
    (none_counted (b.working mid) c.leaves.result)) in
    let found = c.found_state.new.entries in
    let rest = drop (length found) c.in_ok-entries.entries.items in
    let many : c.in_ok-entries.entries.len ≡ length found = search rules in
    let there : c.deref.result.now ≡ found = c.deref.ensures.value
    ∙ ap (λ n. take n (found ++ rest)) many ∙ take-append_seam found rest in
    let noted = subst (λ ms. AreCounts ms c.deref.result.now) (sym then)
    (subst (AreCounts (b.working mid)) (sym there) are) in
    let text = c.in_ok-text.ensures.text f.state wl noted f.keys_are f.counts_are in
    let added : c.extend_from_slice.new.self.items ≡ c.args.out.now ++ c.in_ok-text.text.items =
    search rules in
    record {
      state = f.state;
      is = subst (λ ms. AreInternal schema built ms f.state) first f.is;
      said = added ∙ ap (λ (t : List ℕ). c.args.out.now ++ t)
          (text ∙ ap (λ (ms : List LeafMap). inspect_text schema built.specs built.owners ms
          f.state) (then ∙ first));
    }
