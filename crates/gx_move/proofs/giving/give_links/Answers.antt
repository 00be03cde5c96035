use Rattle.std.proofs.Common.{◌≡◌, get_or, ◌+◌, ◌<◌, List, ◌++◌, length, take, drop, Ok, sym, subst, arith, rules}
use Rattle.std.specs.Prelude.{Result, Err}
use Rattle.std.proofs.lemmas.List.{take_all}
use Rattle.gx_values.specs.declared.values.Value.{Value}
use Rattle.gx_schema.specs.declared.schema.Schema.{Schema}
use Rattle.gx_commands.specs.declared.command.Command.{Command}
use Rattle.gx_commands.specs.Commands.{IsOfSchema}
use Rattle.gx_engine.specs.declared.engine.StepStop.{StepStop}
use Rattle.gx_engine.specs.Steps.{schema_of}
use Rattle.gx_move.specs.Giving.{connects_of, each_from, AreOfSchema, CarriesOn}
use Rattle.gx_move.proofs.CarryLemmas.{carries_none, carries_then, carries_front, each_more, each_split, due_each, err_is}
use Rattle.gx_move.proofs.giving.give_links.Goals as goal

pub loop-link-init : goal.loop-link-init
loop-link-init g c = record {
  carried = carries_none g.B.View c.args.engine.now c.requires.ready c.requires.going
      c.requires.inside;
}

pub give_pairs-requires-clause-due : goal.give_pairs-requires-clause-due
give_pairs-requires-clause-due g c =
    let xs = c.args.links.now in
    let i = c.loop-link.link in
    let x = c.deref.result.now in
    let same : x ≡ c.index-links-link.result = search rules in
    let is : x ≡ get_or xs i x =
    subst (λ (y : List (Value × Value)). y ≡ get_or xs i y) (sym same) c.index-links-link.is in
    let lt : i < length xs = omega (arith, c.loop-link-test.true) in
    subst (λ (schema : Schema). AreOfSchema schema (connects_of i x))
    (sym c.loop-link.invariant.carried.keeps.schema)
    (due_each (IsOfSchema (schema_of c.args.engine.now)) connects_of xs i x lt is c.requires.due)

pub loop-link-preserved : goal.loop-link-preserved
loop-link-preserved g c =
    let xs = c.args.links.now in
    let i = c.loop-link.link in
    let x = c.deref.result.now in
    let same : x ≡ c.index-links-link.result = search rules in
    let is : x ≡ get_or xs i x =
    subst (λ (y : List (Value × Value)). y ≡ get_or xs i y) (sym same) c.index-links-link.is in
    let lt : i < length xs = omega (arith, c.loop-link-test.true) in
    record {
      carried = subst (λ (cs : List Command).
          CarriesOn g.B.View cs c.args.engine.now c.give_pairs.new.engine (Ok tt))
          (sym (each_more connects_of xs i x lt is))
          (carries_then g.B.View (each_from connects_of 0 (take i xs)) (connects_of i x)
          c.args.engine.now c.loop-link.engine c.give_pairs.new.engine (Ok tt)
          c.loop-link.invariant.carried
          c.in_ok-give_pairs.ensures);
    }

pub returns-in_err-give_pairs : goal.returns-in_err-give_pairs
returns-in_err-give_pairs g c =
    let xs = c.args.links.now in
    let i = c.loop-link.link in
    let x = c.deref.result.now in
    let same : x ≡ c.index-links-link.result = search rules in
    let is : x ≡ get_or xs i x =
    subst (λ (y : List (Value × Value)). y ≡ get_or xs i y) (sym same) c.index-links-link.is in
    let why = c.in_err-give_pairs.field-0.0 in
    let lt : i < length xs = omega (arith, c.loop-link-test.true) in
    subst (λ (r : Result (Unit {0}) StepStop).
    CarriesOn g.B.View (each_from connects_of 0 xs) c.args.engine.now c.give_pairs.new.engine r)
    (sym (err_is c.from_residual.result why c.from_residual.ensures.1))
    (subst (λ (cs : List Command).
    CarriesOn g.B.View cs c.args.engine.now c.give_pairs.new.engine (Err why))
    (each_split connects_of xs i x lt is)
    (carries_front g.B.View (each_from connects_of 0 (take i xs) ++ connects_of i x)
    (each_from connects_of (i + 1) (drop (i + 1) xs)) c.args.engine.now c.give_pairs.new.engine why
    (carries_then g.B.View (each_from connects_of 0 (take i xs)) (connects_of i x) c.args.engine.now
    c.loop-link.engine c.give_pairs.new.engine (Err why) c.loop-link.invariant.carried
    c.in_err-give_pairs.ensures)))

pub returns : goal.returns
returns g c =
    subst (λ (xs : List (List (Value × Value))). CarriesOn g.B.View (each_from connects_of 0 xs)
    c.args.engine.now c.loop-link.engine (Ok tt))
    (take_all c.loop-link.link c.args.links.now (omega (arith, c.loop-link-test.false)))
    c.loop-link.invariant.carried
