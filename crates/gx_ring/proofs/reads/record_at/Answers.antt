use Rattle.std.proofs.Common.{[], ◌∷◌, sym, subst}
use Rattle.gx_values.specs.Values.{AreFit, first_kind}
use Rattle.gx_values.specs.declared.records.Form.{Form}
use Rattle.gx_links.proofs.KindLemmas.{fit_fields}
use Rattle.gx_stack.specs.Tree.{tree_form}
use Rattle.gx_stack.specs.Seen.{tree_of}
use Rattle.gx_stack.specs.Selected.{IsFound}
use Rattle.gx_ring.proofs.ReadLemmas.{record_there}
use Rattle.gx_ring.proofs.reads.record_at.Goals as goal

pub returns-clause-found : goal.returns-clause-found
returns-clause-found g c =
    let rule = g.M.Mapping.rule in
    let t = tree_of c.args.node.now in
    let b = g.B.View in
    let old = c.args.leaves.now in
    let form = c.form.ensures in
    record_there rule t c.requires.one c.args.key.now c.requires.fits c.value_span-span.result
    (λ x fits. c.value_span-span.ensures.those (x ∷ [])
    (subst (λ (f : Form). AreFit f.keys (x ∷ [])) (sym form)
    (fit_fields (tree_form rule t).keys (first_kind (tree_form rule t).keys ∷ [])
    (x ∷ []) c.requires.one (fits, tt))))
    (b.whole old) (b.working old) (b.work old) (b.work c.select.new.leaves) c.select.new.out
    c.first_rec.result
    (subst (λ rs. IsFound rule t (b.whole old) (b.working old) c.value_span-span.result (b.work old)
    (b.work c.select.new.leaves) rs c.select.new.out) c.new-found.ensures
    c.in_ok-select.ensures.found)
    c.first_rec.ensures
