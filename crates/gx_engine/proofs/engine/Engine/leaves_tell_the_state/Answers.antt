use Rattle.gx_states.proofs.ToldLemmas.{state_told}
use Rattle.gx_engine.proofs.engine.Engine.leaves_tell_the_state.Goals as goal

pub returns : goal.returns
returns g c = λ maps s t is_s is_t. state_told c.args.self.now.schema c.args.self.now.built _ maps s
    t c.requires is_s is_t
