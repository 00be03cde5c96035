use Rattle.gx_requests.specs.Words.{texts_of}
use Rattle.gx_top.proofs.CompleteLemmas.{done_or_memory}
use Rattle.gx_top.proofs.laws.done_or_memory.Goals as goal

pub returns : goal.returns
returns c old new before now s x =
    done_or_memory (texts_of c.args.words.now) old new before now s x
