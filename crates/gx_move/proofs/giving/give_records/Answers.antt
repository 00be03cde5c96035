use Rattle.std.proofs.Common.{◌+◌, ◌<◌, List, ◌∷◌, [], ◌++◌, length, map, take, drop, Ok, sym, subst, arith}
use Rattle.std.specs.Prelude.{Result, Err}
use Rattle.std.proofs.lemmas.List.{take_all}
use Rattle.gx_values.specs.declared.records.Rec.{Rec}
use Rattle.gx_schema.specs.declared.schema.Schema.{Schema}
use Rattle.gx_commands.specs.declared.command.Command.{Command}
use Rattle.gx_commands.specs.Commands.{IsOfSchema}
use Rattle.gx_engine.specs.declared.engine.StepStop.{StepStop}
use Rattle.gx_engine.specs.Steps.{schema_of}
use Rattle.gx_move.specs.Giving.{insert_of, inserts_of, CarriesOn}
use Rattle.gx_move.proofs.CarryLemmas.{carries_none, carries_then, carries_front, of_more, of_split, due_one, err_is}
use Rattle.gx_move.proofs.giving.give_records.Goals as goal

pub loop-i-init : goal.loop-i-init
loop-i-init g c = record {
  carried = carries_none g.B.View c.args.engine.now c.requires.ready c.requires.going
      c.requires.inside;
}

pub insert-requires-clause-due : goal.insert-requires-clause-due
insert-requires-clause-due g c =
    let xs = c.args.records.now in
    let lt : c.loop-i.i < length xs = omega (arith, c.loop-i-test.true) in
    subst (λ (schema : Schema). IsOfSchema schema (insert_of c.args.file c.index-records-i.result))
    (sym c.loop-i.invariant.carried.keeps.schema)
    (due_one (IsOfSchema (schema_of c.args.engine.now)) (insert_of c.args.file) xs c.loop-i.i
    c.index-records-i.result lt c.index-records-i.is c.requires.due)

pub loop-i-preserved : goal.loop-i-preserved
loop-i-preserved g c =
    let xs = c.args.records.now in
    let f = insert_of c.args.file in
    let lt : c.loop-i.i < length xs = omega (arith, c.loop-i-test.true) in
    record {
      carried = subst (λ (cs : List Command).
          CarriesOn g.B.View cs c.args.engine.now c.insert.new.engine (Ok tt))
          (sym (of_more f xs c.loop-i.i c.index-records-i.result lt c.index-records-i.is))
          (carries_then g.B.View (map f (take c.loop-i.i xs)) (f c.index-records-i.result ∷ [])
          c.args.engine.now c.loop-i.engine c.insert.new.engine (Ok tt) c.loop-i.invariant.carried
          c.in_ok-insert.ensures);
    }

pub returns-in_err-insert : goal.returns-in_err-insert
returns-in_err-insert g c =
    let xs = c.args.records.now in
    let i = c.loop-i.i in
    let x = c.index-records-i.result in
    let f = insert_of c.args.file in
    let why = c.in_err-insert.field-0.0 in
    let lt : i < length xs = omega (arith, c.loop-i-test.true) in
    subst (λ (r : Result (Unit {0}) StepStop).
    CarriesOn g.B.View (map f xs) c.args.engine.now c.insert.new.engine r)
    (sym (err_is c.from_residual.result why c.from_residual.ensures.1))
    (subst (λ (cs : List Command).
    CarriesOn g.B.View cs c.args.engine.now c.insert.new.engine (Err why))
    (of_split f xs i x lt c.index-records-i.is)
    (carries_front g.B.View (map f (take i xs) ++ f x ∷ []) (map f (drop (i + 1) xs))
    c.args.engine.now c.insert.new.engine why
    (carries_then g.B.View (map f (take i xs)) (f x ∷ []) c.args.engine.now c.loop-i.engine
    c.insert.new.engine (Err why) c.loop-i.invariant.carried c.in_err-insert.ensures)))

pub returns : goal.returns
returns g c =
    subst (λ (xs : List Rec). CarriesOn g.B.View (inserts_of c.args.file xs) c.args.engine.now
    c.loop-i.engine (Ok tt))
    (take_all c.loop-i.i c.args.records.now (omega (arith, c.loop-i-test.false)))
    c.loop-i.invariant.carried
