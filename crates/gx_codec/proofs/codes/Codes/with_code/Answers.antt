use Rattle.std.proofs.Common.{◌<◌, ◌∙◌, length, Some, refl, sym, subst, arith}
use Rattle.std.proofs.Math.ListN.{set}
use Rattle.gx_codec.specs.Stored.{IsWithCode}
use Rattle.gx_codec.proofs.StoredLemmas.{same_more, one_more, none_there}
use Rattle.gx_codec.proofs.codes.Codes.with_code.Goals as goal

pub loop-preserved : goal.loop-preserved
loop-preserved c = record {
  same = same_more c.args.self.now c.loop.codes.items c.push.new.self.items c.loop.invariant.same
      c.in_ok-push.ensures.items;
  long = omega (arith, c.in_ok-push.ensures.len, c.loop.invariant.long);
}

pub returns : goal.returns
returns c =
    let ds = c.loop.codes.items in
    let field = c.from-field.ensures in
    let long : c.from-field.result < length ds =
    omega (arith, c.loop.invariant.long, c.loop-test.false) in
    let none = none_there ds c.from-field.result c.index.result.now c.index.ensures
    (sym c.is_some.ensures ∙ c.if-is_some.false) in
    subst (λ n. IsWithCode c.args.self.now n c.args.code
    (set ds c.from-field.result (Some c.args.code))) field
    (one_more c.args.self.now ds _ c.from-field.result c.args.code c.loop.invariant.same long none
    refl)
