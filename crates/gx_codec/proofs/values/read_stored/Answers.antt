use Rattle.std.proofs.Common.{rules, ◌≡◌, ◌<◌, ◌+◌, ◌++◌, ◌∙◌, ◌∷◌, [], Some, length, drop, refl, sym, ap, subst, arith}
use Rattle.std.specs.Prelude.{IfSome}
use Rattle.std.proofs.lemmas.Option.{same_Some}
use Rattle.gx_values.specs.Values.{Fits}
use Rattle.gx_values.proofs.WrittenLemmas.{next_fit}
use Rattle.gx_actual.specs.Bodies.{body_of}
use Rattle.gx_actual.proofs.BodyLemmas.{item_short}
use Rattle.gx_codec.specs.Stored.{stored_values}
use Rattle.gx_codec.proofs.StoredLemmas.{stored_there, all_read}
use Rattle.gx_codec.proofs.values.read_stored.Goals as goal

pub split_stored-requires : goal.split_stored-requires
split_stored-requires c =
    item_short c.args.fields.now c.index-fields-at.result c.loop-at.at c.requires
    c.loop-at-test.true c.index-fields-at.is

pub returns-in_default-clause-read : goal.returns-in_default-clause-read
returns-in_default-clause-read c = λ vs fit have same.
    let i = c.loop-at.at in
    let cs = c.args.codes.now in
    let at = stored_there c.args.fields.now cs vs i c.index-fields-at.result c.code_at-code.result
    c.loop-at.rest.now fit have c.loop-at-test.true c.index-fields-at.is c.code_at-code.ensures
    (c.loop-at.invariant.so_far vs fit have same).0 in
    let next = body_of (stored_values (drop (i + 1) cs) (drop (i + 1) vs)) in
    absurd (c.in_default.ensures at.value next at.fits at.has at.front)

pub returns-in_default-2-clause-read : goal.returns-in_default-2-clause-read
returns-in_default-2-clause-read c = λ vs fit have same.
    let i = c.loop-at.at in
    let cs = c.args.codes.now in
    let at = stored_there c.args.fields.now cs vs i c.index-fields-at.result c.code_at-code.result
    c.loop-at.rest.now fit have c.loop-at-test.true c.index-fields-at.is c.code_at-code.ensures
    (c.loop-at.invariant.so_far vs fit have same).0 in
    let next = body_of (stored_values (drop (i + 1) cs) (drop (i + 1) vs)) in
    let front = c.in-Some.ensures at.value next at.fits at.has at.front in
    let found = c.in_ok-value.ensures.read at.value at.fits at.has front.0 in
    let none = c.in_default-2.is in
    cc

pub loop-at-preserved : goal.loop-at-preserved
loop-at-preserved c =
    let i = c.loop-at.at in
    let fields = c.args.fields.now in
    let cs = c.args.codes.now in
    let field = c.index-fields-at.result in
    let items = c.loop-at.values.items in
    let value = c.in-Some-2.value in
    record {
      fit = next_fit fields fields items _ value field i refl c.loop-at.invariant.fit
          c.loop-at-test.true c.index-fields-at.is
          (subst (λ o. IfSome o (Fits field.kind)) c.in-Some-2.is c.in_ok-value.ensures.fits)
          c.in_ok-push.ensures.items;
      so_far = λ vs fit have same.
          let so_far = c.loop-at.invariant.so_far vs fit have same in
          let at = stored_there fields cs vs i field c.code_at-code.result c.loop-at.rest.now fit
          have c.loop-at-test.true c.index-fields-at.is c.code_at-code.ensures so_far.0 in
          let next = body_of (stored_values (drop (i + 1) cs) (drop (i + 1) vs)) in
          let front = c.in-Some.ensures at.value next at.fits at.has at.front in
          let found = c.in_ok-value.ensures.read at.value at.fits at.has front.0 in
          let is : value ≡ at.value = same_Some value at.value (sym c.in-Some-2.is ∙ found) in (
            front.1,
            c.in_ok-push.ensures.items ∙ (λ j. so_far.1 j ++ is j ∷ []) ∙ sym at.more,
          );
    }

pub returns-then-is_empty-clause-read : goal.returns-then-is_empty-clause-read
returns-then-is_empty-clause-read c = λ vs fit have same.
    let so_far = c.loop-at.invariant.so_far vs fit have same in
    ap Some (all_read c.args.fields.now c.args.codes.now vs c.loop-at.values.items c.loop-at.at
    c.loop-at.rest.now fit c.loop-at-test.false so_far.0 so_far.1).1

pub returns-else-is_empty-clause-read : goal.returns-else-is_empty-clause-read
returns-else-is_empty-clause-read c = λ vs fit have same.
    let so_far = c.loop-at.invariant.so_far vs fit have same in
    let none = (all_read c.args.fields.now c.args.codes.now vs c.loop-at.values.items c.loop-at.at
    c.loop-at.rest.now fit c.loop-at-test.false so_far.0 so_far.1).0 in
    let some : 0 < length c.loop-at.rest.now = search rules in
    absurd (omega (arith, some, ap length none))
