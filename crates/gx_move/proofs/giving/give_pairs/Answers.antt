use Rattle.std.proofs.Common.{◌+◌, ◌<◌, List, ◌∷◌, [], ◌++◌, length, map, take, drop, Ok, sym, subst, arith}
use Rattle.std.specs.Prelude.{Result, Err}
use Rattle.std.proofs.lemmas.List.{take_all}
use Rattle.gx_values.specs.declared.values.Value.{Value}
use Rattle.gx_schema.specs.declared.schema.Schema.{Schema}
use Rattle.gx_commands.specs.declared.command.Command.{Command}
use Rattle.gx_commands.specs.Commands.{IsOfSchema}
use Rattle.gx_engine.specs.declared.engine.StepStop.{StepStop}
use Rattle.gx_engine.specs.Steps.{schema_of}
use Rattle.gx_move.specs.Giving.{connect_of, connects_of, CarriesOn}
use Rattle.gx_move.proofs.CarryLemmas.{carries_none, carries_then, carries_front, of_more, of_split, due_one, err_is}
use Rattle.gx_move.proofs.giving.give_pairs.Goals as goal

pub loop-i-init : goal.loop-i-init
loop-i-init g c = record {
  carried = carries_none g.B.View c.args.engine.now c.requires.ready c.requires.going
      c.requires.inside;
}

pub connect-requires-clause-due : goal.connect-requires-clause-due
connect-requires-clause-due g c =
    let xs = c.args.pairs.now in
    let lt : c.loop-i.i < length xs = omega (arith, c.loop-i-test.true) in
    subst (λ (schema : Schema). IsOfSchema schema (connect_of c.args.link c.index-pairs-i.result))
    (sym c.loop-i.invariant.carried.keeps.schema)
    (due_one (IsOfSchema (schema_of c.args.engine.now)) (connect_of c.args.link) xs c.loop-i.i
    c.index-pairs-i.result lt c.index-pairs-i.is c.requires.due)

pub loop-i-preserved : goal.loop-i-preserved
loop-i-preserved g c =
    let xs = c.args.pairs.now in
    let f = connect_of c.args.link in
    let lt : c.loop-i.i < length xs = omega (arith, c.loop-i-test.true) in
    record {
      carried = subst (λ (cs : List Command).
          CarriesOn g.B.View cs c.args.engine.now c.connect.new.engine (Ok tt))
          (sym (of_more f xs c.loop-i.i c.index-pairs-i.result lt c.index-pairs-i.is))
          (carries_then g.B.View (map f (take c.loop-i.i xs)) (f c.index-pairs-i.result ∷ [])
          c.args.engine.now c.loop-i.engine c.connect.new.engine (Ok tt) c.loop-i.invariant.carried
          c.in_ok-connect.ensures);
    }

pub returns-in_err-connect : goal.returns-in_err-connect
returns-in_err-connect g c =
    let xs = c.args.pairs.now in
    let i = c.loop-i.i in
    let x = c.index-pairs-i.result in
    let f = connect_of c.args.link in
    let why = c.in_err-connect.field-0.0 in
    let lt : i < length xs = omega (arith, c.loop-i-test.true) in
    subst (λ (r : Result (Unit {0}) StepStop).
    CarriesOn g.B.View (map f xs) c.args.engine.now c.connect.new.engine r)
    (sym (err_is c.from_residual.result why c.from_residual.ensures.1))
    (subst (λ (cs : List Command).
    CarriesOn g.B.View cs c.args.engine.now c.connect.new.engine (Err why))
    (of_split f xs i x lt c.index-pairs-i.is)
    (carries_front g.B.View (map f (take i xs) ++ f x ∷ []) (map f (drop (i + 1) xs))
    c.args.engine.now c.connect.new.engine why
    (carries_then g.B.View (map f (take i xs)) (f x ∷ []) c.args.engine.now c.loop-i.engine
    c.connect.new.engine (Err why) c.loop-i.invariant.carried c.in_err-connect.ensures)))

pub returns : goal.returns
returns g c =
    subst (λ (xs : List (Value × Value)). CarriesOn g.B.View (connects_of c.args.link xs)
    c.args.engine.now c.loop-i.engine (Ok tt))
    (take_all c.loop-i.i c.args.pairs.now (omega (arith, c.loop-i-test.false)))
    c.loop-i.invariant.carried
