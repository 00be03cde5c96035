use Rattle.std.proofs.Common.{sym}
use Rattle.std.proofs.lemmas.Result.{err_from_is_err_and}
use Rattle.gx_tokens.specs.declared.fault.ReadError.TheVariants as errors
use Rattle.gx_tokens.specs.Reading.{a_word}
use Rattle.gx_equation.proofs.Loops.{items_go_on, items_end, item_fails}
use Rattle.gx_equation.proofs.Shorter.{name_shorter}
use Rattle.gx_equation.proofs.arguments.read_names.Goals as goal

pub returns-in_err-name : goal.returns-in_err-name
returns-in_err-name c =
    let p = err_from_is_err_and c.from_residual-in_err-name.result
    c.from_residual-in_err-name.ensures.1 in
    let i = c.loop-names.invariant in
    rw (p.1, p.2) (item_fails a_word i.0 c.loop-names.names.items c.loop-names.rest.now
    (errors.Bad _) _ i.1 (sym c.in_err-name.ensures.exact) i.2)

pub returns-in-None : goal.returns-in-None
returns-in-None c =
    let i = c.loop-names.invariant in
    let e = rw c.in-None.is at (sym c.in_ok-name.ensures.exact) in
    items_end a_word i.0 c.loop-names.names.items c.loop-names.rest.now _ _ i.1 e i.2

pub loop-names-smaller : goal.loop-names-smaller
loop-names-smaller c = name_shorter c.loop-names.rest.now _ (sym c.in_ok-name.ensures.exact)

pub loop-names-preserved : goal.loop-names-preserved
loop-names-preserved c =
    let i = c.loop-names.invariant in
    let e = rw c.in-Some.is at (sym c.in_ok-name.ensures.exact) in
    rw (c.in_ok-push-in-Some.ensures.items, c.from_slice.ensures)
    (items_go_on a_word i.0 c.loop-names.names.items c.loop-names.rest.now _ _ _ i.1
    (name_shorter c.loop-names.rest.now _ e) e i.2)
