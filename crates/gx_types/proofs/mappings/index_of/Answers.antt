use Rattle.std.proofs.Common.{◌≡◌, ℕ, List, None, ap, sym, subst, ◌∙◌, arith}
use Rattle.gx_values.specs.Values.{kind_in}
use Rattle.gx_values.specs.declared.records.Field.{Field}
use Rattle.gx_values.specs.declared.records.Form.{Form}
use Rattle.gx_index.specs.Forms.{CanIndex}
use Rattle.gx_index.specs.Rules.{index_rule}
use Rattle.gx_types.specs.Build.{IsFirstOf}
use Rattle.gx_types.proofs.HeadLaws.{first_only, none_first}
use Rattle.gx_types.proofs.mappings.index_of.Goals as goal

pub index-requires : goal.index-requires
index-requires c =
    let form = c.args.form.now in
    let name = c.args.name.now in
    let read : c.deref.result.now ≡ form.fields = c.deref.ensures.value
    ∙ ap (λ (f : Form). f.fields) c.form.view_is in
    let spelled = subst (λ (n : List ℕ). IsFirstOf c.deref.result.now n c.in-Some.field)
    c.as_slice.ensures.value c.in-Some.ensures.some in
    let first = subst (λ (fs : List Field). IsFirstOf fs name c.in-Some.field) read spelled in
    subst (λ (i : ℕ). CanIndex form i) (first_only form.fields name c.in-Some.field first)
    c.requires.can

pub unreachable-requires : goal.unreachable-requires
unreachable-requires c =
    let form = c.args.form.now in
    let name = c.args.name.now in
    let read : c.deref.result.now ≡ form.fields = c.deref.ensures.value
    ∙ ap (λ (f : Form). f.fields) c.form.view_is in
    let spelled = subst (λ (n : List ℕ). kind_in c.deref.result.now n ≡ None)
    c.as_slice.ensures.value c.in-None.ensures.none in
    let none = subst (λ (fs : List Field). kind_in fs name ≡ None) read spelled in
    omega (arith, none_first form.fields name none, c.requires.can.place)

pub returns : goal.returns
returns c =
    let fields = c.args.form.now.fields in
    let name = c.args.name.now in
    let read : c.deref.result.now ≡ fields = c.deref.ensures.value
    ∙ ap (λ (f : Form). f.fields) c.form.view_is in
    let spelled = subst (λ (n : List ℕ). IsFirstOf c.deref.result.now n c.in-Some.field)
    c.as_slice.ensures.value c.in-Some.ensures.some in
    let first = subst (λ (fs : List Field). IsFirstOf fs name c.in-Some.field) read spelled in
    let form = c.in_ok-index-in-Some.ensures.form in
    let number = c.in_ok-index-in-Some.ensures.field
    ∙ sym (first_only fields name c.in-Some.field first) in
    (tt, λ i. index_rule (form i) (number i))
