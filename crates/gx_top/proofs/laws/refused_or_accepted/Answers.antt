use Rattle.gx_requests.specs.Words.{texts_of}
use Rattle.gx_top.proofs.DecidedLemmas.{decided}
use Rattle.gx_top.proofs.laws.refused_or_accepted.Goals as goal

pub returns : goal.returns
returns c texts = decided (texts_of c.args.words.now) texts
