use Rattle.gx_requests.specs.Words.{texts_of}
use Rattle.gx_requests.proofs.OnceLemmas.{refused_once}
use Rattle.gx_top.proofs.laws.one_reason.Goals as goal

pub returns : goal.returns
returns c texts why other x y = refused_once (texts_of c.args.words.now) texts why other x y
