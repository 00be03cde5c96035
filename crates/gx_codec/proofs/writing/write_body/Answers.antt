use Rattle.std.proofs.Common.{◌+◌, ◌++◌, ◌∙◌, ℕ, [], List, get_or, drop, sym, ap, subst, arith, append_assoc, append-nil}
use Rattle.std.specs.List.{AllByRecursion}
use Rattle.std.proofs.lemmas.List.{drop_all, get_or_default}
use Rattle.gx_values.specs.declared.values.Value.{Value}
use Rattle.gx_values.specs.Values.{no_value}
use Rattle.gx_actual.specs.Bodies.{body_of, HasLength}
use Rattle.gx_codec.specs.Layouts.{laid, with_slot, HasSlot}
use Rattle.gx_codec.proofs.LayoutLemmas.{next_there, front_bytes, front_lengths}
use Rattle.gx_codec.proofs.writing.write_body.Goals as goal

pub push_slot-requires-clause-have : goal.push_slot-requires-clause-have
push_slot-requires-clause-have g c =
    let slots = g.L.Layout.slots c.args.layout.now in
    let vs = c.args.values.now in
    let i = c.loop-at.at in
    let v = c.index-values-at.result in
    let same = c.index-values-at.is ∙ get_or_default vs i v no_value c.loop-at-test.true in
    let at = next_there slots vs i c.requires.have c.loop-at-test.true in
    subst (λ s. HasSlot s v) (sym c.slot_of.ensures) (subst (HasSlot (slots i)) (sym same) at.0)

pub push_slot-requires-clause-length : goal.push_slot-requires-clause-length
push_slot-requires-clause-length g c =
    let slots = g.L.Layout.slots c.args.layout.now in
    let vs = c.args.values.now in
    let i = c.loop-at.at in
    let v = c.index-values-at.result in
    let same = c.index-values-at.is ∙ get_or_default vs i v no_value c.loop-at-test.true in
    let at = next_there slots vs i c.requires.have c.loop-at-test.true in
    let lengths = front_lengths (slots i) (get_or vs i no_value)
    (laid slots (i + 1) (drop (i + 1) vs))
    (subst (AllByRecursion HasLength) at.1 c.loop-at.invariant.lengths) in
    let slot = c.slot_of.ensures in
    subst (AllByRecursion HasLength) (sym (λ j. with_slot (slot j) (same j) [])) lengths.0

pub loop-at-preserved : goal.loop-at-preserved
loop-at-preserved g c =
    let slots = g.L.Layout.slots c.args.layout.now in
    let vs = c.args.values.now in
    let i = c.loop-at.at in
    let v = c.index-values-at.result in
    let same = c.index-values-at.is ∙ get_or_default vs i v no_value c.loop-at-test.true in
    let at = next_there slots vs i c.requires.have c.loop-at-test.true in
    let others = laid slots (i + 1) (drop (i + 1) vs) in
    let lengths = front_lengths (slots i) (get_or vs i no_value) others
    (subst (AllByRecursion HasLength) at.1 c.loop-at.invariant.lengths) in
    let slot = c.slot_of.ensures in
    let items = c.loop-at.body.items in
    record {
      lengths = lengths.1;
      bytes = ap (λ (l : List ℕ). l ++ body_of others) (c.in_ok-push_slot.ensures
          ∙ (λ j. items ++ body_of (with_slot (slot j) (same j) [])))
          ∙ append_assoc items (body_of (with_slot (slots i) (get_or vs i no_value) []))
          (body_of others)
          ∙ ap (λ (l : List ℕ). items ++ l)
          (sym (ap body_of at.1 ∙ front_bytes (slots i) (get_or vs i no_value) others))
          ∙ c.loop-at.invariant.bytes;
    }

pub returns : goal.returns
returns g c =
    let slots = g.L.Layout.slots c.args.layout.now in
    let items = c.loop-at.body.items in
    sym (append-nil items)
    ∙ ap (λ (l : List Value). items ++ body_of (laid slots c.loop-at.at l))
    (sym (drop_all c.loop-at.at c.args.values.now (omega (arith, c.loop-at-test.false))))
    ∙ c.loop-at.invariant.bytes
