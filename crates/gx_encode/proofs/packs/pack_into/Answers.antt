use Rattle.std.proofs.Common.{rules, ◌≡◌, ◌∙◌, sym, subst}
use Rattle.std.proofs.lemmas.Result.{IfOk-weaker}
use Rattle.gx_encode.specs.Packs.{pack, IsPack}
use Rattle.gx_encode.specs.PackLaws.{pack_is}
use Rattle.gx_encode.proofs.packs.pack_into.Goals as goal

pub returns-clause-shortest : goal.returns-clause-shortest
returns-clause-shortest c =
    let code : c.shortest.result.now ≡ pack c.args.value = search rules in
    IfOk-weaker c.from_slice.result (λ octets. octets ≡ c.shortest.result.now) (IsPack c.args.value)
    (λ octets is. subst (IsPack c.args.value) (sym (is ∙ code)) (pack_is c.args.value))
    c.from_slice.ensures
