use Rattle.std.proofs.Common.{◌≡◌, length, not, ◌∙◌, [], sym, ap, subst, arith, rules}
use Rattle.std.proofs.lemmas.Bool.{true≢false}
use Rattle.std.proofs.lemmas.List.{take_at}
use Rattle.gx_values.specs.Values.{AreFit}
use Rattle.gx_split.specs.Groups.{defaults_of}
use Rattle.gx_split.specs.GroupLaws.{defaults_fit}
use Rattle.gx_gets.proofs.ReadLemmas.{none_put, found_here}
use Rattle.gx_gets.proofs.whole.read_lead.Goals as goal

pub returns-then-is_empty-clause-read : goal.returns-then-is_empty-clause-read
returns-then-is_empty-clause-read g c = λ r whole fit present same.
    let found = found_here c.select.new.out c.new-entries.result _
    (c.in_ok-select.ensures.ok whole) c.new-entries.ensures in
    let gone = none_put c.args.fragment.now r []
    (sym same ∙ sym found ∙ c.is_empty.ensures.0 c.if-is_empty.true) in
    absurd (true≢false (sym (gone.0 ∙ ap not present)))

pub returns-then-branch-clause-fit : goal.returns-then-branch-clause-fit
returns-then-branch-clause-fit g c =
    let start : c.as_mut_slice.result.now ≡ defaults_of c.args.fields.now = search rules in
    let long : length c.place_fragment.new.out ≡ c.values.inside.0.len =
    omega (arith, c.place_fragment.ensures.same_length, c.as_mut_slice.ensures.len) in
    let put = c.place_fragment.ensures.fit
    (subst (AreFit c.args.fields.now) (sym start) (defaults_fit c.args.fields.now)) in
    subst (AreFit c.args.fields.now) (sym (take_at c.place_fragment.new.out _ _ long)) put
