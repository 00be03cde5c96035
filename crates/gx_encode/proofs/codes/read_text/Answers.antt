use Rattle.std.proofs.Common.{subst}
use Rattle.gx_encode.specs.Runs.{IsUnrle}
use Rattle.gx_encode.proofs.GatherLemmas.{none_text}
use Rattle.gx_encode.proofs.codes.read_text.Goals as goal

pub returns-in-None : goal.returns-in-None
returns-in-None c = none_text c.args.most c.args.bytes.now c.requires
    (subst (IsUnrle c.args.most c.args.bytes.now) c.in-None.is c.in_ok-text.ensures)
