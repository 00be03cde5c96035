use Rattle.gx_requests.specs.Words.{texts_of}
use Rattle.gx_requests.proofs.AcceptedLemmas.{accepted_not_refused}
use Rattle.gx_top.proofs.laws.never_both.Goals as goal

pub returns : goal.returns
returns c texts why a g given refused =
    accepted_not_refused (texts_of c.args.words.now) texts a g.schema g.definitions g.typing why given
    refused
