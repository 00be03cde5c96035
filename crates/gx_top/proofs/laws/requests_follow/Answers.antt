use Rattle.gx_requests.specs.Words.{texts_of}
use Rattle.gx_top.proofs.FollowLemmas.{follows}
use Rattle.gx_top.proofs.laws.requests_follow.Goals as goal

pub returns : goal.returns
returns c g old new = follows (texts_of c.args.words.now) g c.args.device.now old new
