use Rattle.gx_sessions.proofs.step.step.Goals as goal

pub returns-in-Ok-clause-images : goal.returns-in-Ok-clause-images
returns-in-Ok-clause-images g c = c.in-Ok.ensures.images
