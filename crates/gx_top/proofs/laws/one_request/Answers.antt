use Rattle.gx_requests.specs.Words.{texts_of}
use Rattle.gx_requests.proofs.AcceptedLemmas.{one_acceptance}
use Rattle.gx_top.proofs.laws.one_request.Goals as goal

pub returns : goal.returns
returns c texts a b g h x y =
    let same = one_acceptance (texts_of c.args.words.now) texts a b g.schema h.schema g.definitions
    h.definitions g.typing h.typing x y in (
      same.actions,
      λ i. record {
        schema = same.schemas i;
        definitions = same.definitions i;
        typing = same.typings i;
      },
    )
