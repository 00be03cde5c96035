use Rattle.std.proofs.Common.{◌≡◌, ◌∷◌, ◌-◌, ◌∙◌, List, [], length, take, drop, Some, None, Ok, Err, inr, sym, ap, subst, arith}
use Rattle.std.specs.Prelude.{IfSome}
use Rattle.std.proofs.lemmas.List.{take_at}
use Rattle.gx_values.specs.declared.records.Field.{Field}
use Rattle.gx_values.specs.declared.records.Form.{Form}
use Rattle.gx_values.specs.declared.values.Value.{Value}
use Rattle.gx_values.specs.Values.{AreFit}
use Rattle.gx_mapping.proofs.FieldLemmas.{fit_length}
use Rattle.gx_gather.proofs.Lists.{in_read, in_map}
use Rattle.gx_mapping.specs.Rule.{In}
use Rattle.gx_stack.proofs.PassLemmas.{read_passes}
use Rattle.gx_access.specs.declared.access.Fragment.{Fragment}
use Rattle.gx_access.specs.Access.{all_slots}
use Rattle.gx_access.specs.Leaves.{fragment_leaves}
use Rattle.gx_access.proofs.CompileSteps.{split_first}
use Rattle.gx_gets.specs.Restored.{IsReadable}
use Rattle.gx_gets.specs.Whole.{AreRead, AreHeld, ReadsOne}
use Rattle.gx_gets.proofs.FragmentSteps.{ReadsLead, ReadsOthers, lead_stopped, lead_none, others_stopped, all_read, of_all}
use Rattle.gx_gets.proofs.whole.read_fragments.Goals as goal

pub read_lead-requires-clause-readable : goal.read_lead-requires-clause-readable
read_lead-requires-clause-readable g c =
    let same : c.as_slice-fields.result.now ≡ c.args.form.now.fields =
    c.as_slice-fields.ensures.value ∙ ap (λ (f : Form). f.fields) c.form.view_is in
    subst (λ (l : List Field). IsReadable (length l) c.lead-item.result.view) (sym same)
    (c.requires.reader.each c.lead-item.result (in_read c.args.fragments.now 0
    c.lead-item.result c.lead-item.is (omega (arith, c.in-len1-up.len_at_least)))).readable

pub read_lead-requires-clause-leaf : goal.read_lead-requires-clause-leaf
read_lead-requires-clause-leaf g c =
    c.requires.below c.lead-item.result.leaf (in_map (λ (f : Fragment). f.leaf) c.lead-item.result
    c.args.fragments.now (in_read c.args.fragments.now 0
    c.lead-item.result c.lead-item.is (omega (arith, c.in-len1-up.len_at_least))))

pub returns-in_err-values : goal.returns-in_err-values
returns-in_err-values g c = λ key.
    let form = c.args.form.now in
    let all = c.args.fragments.now in
    let f = c.lead-item.result in
    let others : List Fragment = take (length all - 1) (drop 1 all) in
    let split : all ≡ f ∷ others = split_first all f c.in-len1-up.len_at_least c.lead-item.is in
    let read = subst (AreRead form (all_slots 0 (length form.fields)) []) split c.requires.reader in
    let e = c.in_err-values.field-0.0 in
    let old = c.args.leaves.now in
    let mid = c.read_lead.new.leaves in
    let span = c.args.span.now in
    let same : c.as_slice-fields.result.now ≡ form.fields =
    c.as_slice-fields.ensures.value ∙ ap (λ (f : Form). f.fields) c.form.view_is in
    let lead = subst (λ (l : List Field). ReadsLead g.B.View span l f old mid (Err e)) same (record {
      read = c.in_err-values.ensures.read;
      none = c.in_err-values.ensures.none;
      fit = c.in_err-values.ensures.fit;
      steps = c.in_err-values.ensures.steps;
      reads = c.in_err-values.ensures.reads;
    }) in
    of_all g.B.View span form key f others read all split old mid c.from_residual.result
    (lead_stopped g.B.View span form key f others read old mid e c.from_residual.result
    c.from_residual.ensures.1 lead)

pub returns-in_default-2 : goal.returns-in_default-2
returns-in_default-2 g c = λ key.
    let form = c.args.form.now in
    let all = c.args.fragments.now in
    let f = c.lead-item.result in
    let others : List Fragment = take (length all - 1) (drop 1 all) in
    let split : all ≡ f ∷ others = split_first all f c.in-len1-up.len_at_least c.lead-item.is in
    let read = subst (AreRead form (all_slots 0 (length form.fields)) []) split c.requires.reader in
    let old = c.args.leaves.now in
    let mid = c.read_lead.new.leaves in
    let span = c.args.span.now in
    let same : c.as_slice-fields.result.now ≡ form.fields =
    c.as_slice-fields.ensures.value ∙ ap (λ (f : Form). f.fields) c.form.view_is in
    let lead = subst (λ (l : List Field).
    ReadsLead g.B.View span l f old mid (Ok c.in_ok-values.field-0)) same (record {
      read = c.in_ok-values.ensures.read;
      none = c.in_ok-values.ensures.none;
      fit = c.in_ok-values.ensures.fit;
      steps = c.in_ok-values.ensures.steps;
      reads = c.in_ok-values.ensures.reads;
    }) in
    of_all g.B.View span form key f others read all split old mid (Ok None)
    (lead_none g.B.View span form key f others read old mid
    (subst (λ o. ReadsLead g.B.View span form.fields f old mid (Ok o)) c.in_default-2.is lead))

pub read_others-requires-clause-readable : goal.read_others-requires-clause-readable
read_others-requires-clause-readable g c = λ f h.
    let all = c.args.fragments.now in
    let others : List Fragment = take (length all - 1) (drop 1 all) in
    let split : all ≡ c.lead-item.result ∷ others =
    split_first all c.lead-item.result c.in-len1-up.len_at_least c.lead-item.is in
    let there : In f all = subst (In f) (sym split) (inr h) in
    let same : c.as_slice-fields.result.now ≡ c.args.form.now.fields =
    c.as_slice-fields.ensures.value ∙ ap (λ (f : Form). f.fields) c.form.view_is in
    let passed = read_passes g.B.View c.in_ok-values.ensures.reads in
    let low = c.requires.below f.leaf (in_map (λ (f : Fragment). f.leaf) f all there) in (
      subst (λ (l : List Field). IsReadable (length l) f.view) (sym same)
          (c.requires.reader.each f there).readable,
      omega (arith, low, ap length passed.reads.working),
    )

pub read_others-requires-clause-long : goal.read_others-requires-clause-long
read_others-requires-clause-long g c =
    let fit = subst (λ o. IfSome o (AreFit c.as_slice-fields.result.now)) c.in-Some.is
    c.in_ok-values.ensures.fit in
    ap length (c.as_mut_slice.ensures.value ∙ c.values.view_is)
    ∙ sym (fit_length c.as_slice-fields.result.now c.in-Some.values fit)

pub returns-in_err-read_others : goal.returns-in_err-read_others
returns-in_err-read_others g c = λ key.
    let form = c.args.form.now in
    let all = c.args.fragments.now in
    let f = c.lead-item.result in
    let others : List Fragment = take (length all - 1) (drop 1 all) in
    let split : all ≡ f ∷ others = split_first all f c.in-len1-up.len_at_least c.lead-item.is in
    let read = subst (AreRead form (all_slots 0 (length form.fields)) []) split c.requires.reader in
    let e = c.in_err-read_others.field-0.0 in
    let old = c.args.leaves.now in
    let mid = c.read_lead.new.leaves in
    let new = c.read_others.new.leaves in
    let span = c.args.span.now in
    let vs : List Value = c.as_mut_slice.result.now in
    let ws : List Value = c.read_others.new.out in
    let same : c.as_slice-fields.result.now ≡ form.fields =
    c.as_slice-fields.ensures.value ∙ ap (λ (f : Form). f.fields) c.form.view_is in
    let values : c.in-Some.values ≡ vs =
    sym (c.as_mut_slice.ensures.value ∙ c.values.view_is) in
    let lead = subst (λ (l : List Field).
    ReadsLead g.B.View span l f old mid (Ok c.in_ok-values.field-0)) same (record {
      read = c.in_ok-values.ensures.read;
      none = c.in_ok-values.ensures.none;
      fit = c.in_ok-values.ensures.fit;
      steps = c.in_ok-values.ensures.steps;
      reads = c.in_ok-values.ensures.reads;
    }) in
    let rest = subst (λ (l : List Field).
    ReadsOthers g.B.View span l others vs ws mid new (Err e)) same (record {
      read = c.in_err-read_others.ensures.read;
      fit = c.in_err-read_others.ensures.fit;
      steps = c.in_err-read_others.ensures.steps;
      reads = c.in_err-read_others.ensures.reads;
    }) in
    of_all g.B.View span form key f others read all split old new
    c.from_residual-in_err-read_others.result
    (others_stopped g.B.View span form key f others read old mid new vs ws
    (subst (λ o. ReadsLead g.B.View span form.fields f old mid (Ok o))
    (c.in-Some.is ∙ ap Some values) lead) e
    c.from_residual-in_err-read_others.result c.from_residual-in_err-read_others.ensures.1 rest)

pub returns : goal.returns
returns g c = λ key.
    let form = c.args.form.now in
    let all = c.args.fragments.now in
    let f = c.lead-item.result in
    let others : List Fragment = take (length all - 1) (drop 1 all) in
    let split : all ≡ f ∷ others = split_first all f c.in-len1-up.len_at_least c.lead-item.is in
    let read = subst (AreRead form (all_slots 0 (length form.fields)) []) split c.requires.reader in
    let old = c.args.leaves.now in
    let mid = c.read_lead.new.leaves in
    let new = c.read_others.new.leaves in
    let span = c.args.span.now in
    let vs : List Value = c.as_mut_slice.result.now in
    let ws : List Value = c.read_others.new.out in
    let same : c.as_slice-fields.result.now ≡ form.fields =
    c.as_slice-fields.ensures.value ∙ ap (λ (f : Form). f.fields) c.form.view_is in
    let values : c.in-Some.values ≡ vs =
    sym (c.as_mut_slice.ensures.value ∙ c.values.view_is) in
    let lead = subst (λ (l : List Field).
    ReadsLead g.B.View span l f old mid (Ok c.in_ok-values.field-0)) same (record {
      read = c.in_ok-values.ensures.read;
      none = c.in_ok-values.ensures.none;
      fit = c.in_ok-values.ensures.fit;
      steps = c.in_ok-values.ensures.steps;
      reads = c.in_ok-values.ensures.reads;
    }) in
    let rest = subst (λ (l : List Field).
    ReadsOthers g.B.View span l others vs ws mid new (Ok tt)) same (record {
      read = c.in_ok-read_others.ensures.read;
      fit = c.in_ok-read_others.ensures.fit;
      steps = c.in_ok-read_others.ensures.steps;
      reads = c.in_ok-read_others.ensures.reads;
    }) in
    let long : length ws ≡ c.values.inside.0.len =
    omega (arith, c.read_others.ensures.same_length, c.as_mut_slice.ensures.len) in
    subst (λ (l : List Value). ReadsOne g.B.View form key span
    (λ r maps. AreHeld maps span r all) (fragment_leaves all) old new (Ok (Some l)))
    (sym (take_at ws (drop (length ws) c.values.inside.0.items) c.values.inside.0.len long))
    (of_all g.B.View span form key f others read all split old new (Ok (Some ws))
    (all_read g.B.View span form key f others read old mid new vs ws
    (subst (λ o. ReadsLead g.B.View span form.fields f old mid (Ok o))
    (c.in-Some.is ∙ ap Some values) lead) rest))
