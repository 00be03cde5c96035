use Rattle.std.proofs.Common.{rules, ◌≡◌, ◌∷◌, ◌∙◌, length, refl, sym, ap, subst, arith}
use Rattle.std.specs.List.{AllByRecursion}
use Rattle.std.specs.Vec.Iter.{into_iter_items, into_iter_len}
use Rattle.gx_values.specs.Values.{AreFit}
use Rattle.gx_schema.specs.Lookups.{data_fields}
use Rattle.gx_commands.specs.Commands.{IsChangeOf}
use Rattle.gx_model.specs.Commands.{with_changes}
use Rattle.gx_gather.proofs.Made.{nothing_left}
use Rattle.gx_edits.proofs.RecordLemmas.{value_fits, change_in}
use Rattle.gx_edits.proofs.records.changed_values.Goals as goal

pub loop-change-init : goal.loop-change-init
loop-change-init c =
    let items : into_iter_items c.into_iter-change-iterator.result ≡ c.args.changes = search
    rules in
    let many : into_iter_len c.into_iter-change-iterator.result ≡ length
    (into_iter_items c.into_iter-change-iterator.result) = search rules in
    record {
      many = many;
      those = subst (AllByRecursion (IsChangeOf c.args.file.now)) (sym items) c.requires.changes;
      so_far = λ i. with_changes (c.values.view_is i) (items i);
      fit = subst (AreFit (data_fields c.args.file.now)) (sym c.values.view_is) c.requires.values;
    }

pub index_mut-requires : goal.index_mut-requires
index_mut-requires c =
    let steps = c.in-Some.ensures.steps.0 in
    let those = subst (AllByRecursion (IsChangeOf c.args.file.now)) steps
    c.loop-change.invariant.those in
    omega (
      arith,
      c.loop-change.values.ok.0,
      change_in c.args.file.now c.in-Some.change
          c.loop-change.values.items those.0 c.loop-change.invariant.fit,
    )

pub loop-change-preserved : goal.loop-change-preserved
loop-change-preserved c =
    let file = c.args.file.now in
    let inv = c.loop-change.invariant in
    let ch = c.in-Some.change in
    let vs = c.loop-change.values.items in
    let steps : into_iter_items c.loop-change.change-iterator ≡ ch ∷ into_iter_items
    c.next.new.self = c.in-Some.ensures.steps.0 in
    let those = subst (AllByRecursion (IsChangeOf file)) steps inv.those in
    let many : into_iter_len c.next.new.self ≡ length (into_iter_items c.next.new.self) = let was =
    inv.many in let gone = c.in-Some.ensures.steps.1 in let short = ap length steps in omega
    arith in
    record {
      many = many;
      those = those.1;
      so_far = sym (ap (with_changes vs) steps) ∙ inv.so_far;
      fit = value_fits file ch vs ch.value those.0 inv.fit refl;
    }

pub loop-change-preserved-in-Some : goal.loop-change-preserved-in-Some
loop-change-preserved-in-Some c =
    let file = c.args.file.now in
    let inv = c.loop-change.invariant in
    let ch = c.in-Some.change in
    let vs = c.loop-change.values.items in
    let steps : into_iter_items c.loop-change.change-iterator ≡ ch ∷ into_iter_items
    c.next.new.self = c.in-Some.ensures.steps.0 in
    let those = subst (AllByRecursion (IsChangeOf file)) steps inv.those in
    let many : into_iter_len c.next.new.self ≡ length (into_iter_items c.next.new.self) = let was =
    inv.many in let gone = c.in-Some.ensures.steps.1 in let short = ap length steps in omega
    arith in
    record {
      many = many;
      those = those.1;
      so_far = sym (ap (with_changes vs) steps) ∙ inv.so_far;
      fit = value_fits file ch vs ch.value those.0 inv.fit refl;
    }

pub loop-change-preserved-in-Some-2 : goal.loop-change-preserved-in-Some-2
loop-change-preserved-in-Some-2 c =
    let file = c.args.file.now in
    let inv = c.loop-change.invariant in
    let ch = c.in-Some.change in
    let vs = c.loop-change.values.items in
    let steps : into_iter_items c.loop-change.change-iterator ≡ ch ∷ into_iter_items
    c.next.new.self = c.in-Some.ensures.steps.0 in
    let those = subst (AllByRecursion (IsChangeOf file)) steps inv.those in
    let many : into_iter_len c.next.new.self ≡ length (into_iter_items c.next.new.self) = let was =
    inv.many in let gone = c.in-Some.ensures.steps.1 in let short = ap length steps in omega
    arith in
    record {
      many = many;
      those = those.1;
      so_far = sym (ap (with_changes vs) steps) ∙ inv.so_far;
      fit = value_fits file ch vs ch.value those.0 inv.fit refl;
    }

pub returns-clause-changed : goal.returns-clause-changed
returns-clause-changed c =
    let inv = c.loop-change.invariant in
    let none = nothing_left _ (sym c.in-None.ensures.steps.0 ∙ inv.many) in
    sym (ap (with_changes c.loop-change.values.items) none) ∙ inv.so_far
