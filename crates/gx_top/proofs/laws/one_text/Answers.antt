use Rattle.gx_requests.specs.Words.{texts_of}
use Rattle.gx_top.proofs.ScriptLemmas.{one_script_once}
use Rattle.gx_top.proofs.laws.one_text.Goals as goal

pub returns : goal.returns
returns c others before other start text more one x y =
    one_script_once (texts_of c.args.words.now) others before other start text more one x y
