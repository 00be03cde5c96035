use Rattle.std.proofs.Common.{rules, None, [], refl, sym, ap, subst, append-nil, ◌∙◌, arith}
use Rattle.gx_device.specs.Faults.{Rose}
use Rattle.gx_memory_leaves.specs.Plain.{kept_of}
use Rattle.gx_memory_leaves.proofs.HeadLemmas.{same_blocks, same_pending}
use Rattle.gx_states.specs.Internal.{AreInternal}
use Rattle.gx_model.specs.States.{State, empty_state}
use Rattle.gx_model.specs.Play.{start_at}
use Rattle.gx_play.specs.Plays.{IsPlayedAs}
use Rattle.gx_states.proofs.StartLemmas.{start_state}
use Rattle.gx_play.proofs.OverLemmas.{held_as}
use Rattle.gx_operations.proofs.trying.play_script.Goals as goal

pub returns-in-Ok-clause-answered : goal.returns-in-Ok-clause-answered
returns-in-Ok-clause-answered g c = λ told.
    let content = g.M.Device.content in
    let start = empty_state c.args.schema in
    let left = c.play_over-leaves.result.1 in
    held_as c.args.schema c.args.built None start
    (λ (s : State). AreInternal c.args.schema c.args.built (kept_of left) s × Unit {0})
    (λ s. Unit {0})
    (content c.args.machine).script (content c.args.machine).now.said
    (content c.into_device.result).now.said c.play_over-leaves.result.0 (λ s held. tt)
    (subst (λ m. IsPlayedAs c.args.schema c.args.built None start
    (λ (s : State). AreInternal c.args.schema c.args.built (kept_of left) s × Unit {0})
    (content c.args.machine).script (content c.args.machine).now.said
    (content m).now.said c.play_over-leaves.result.0) (sym c.into_device.ensures)
    (subst (λ m. IsPlayedAs c.args.schema c.args.built None start
    (λ (s : State). AreInternal c.args.schema c.args.built (kept_of left) s × Unit {0})
    (content m).script
    (content m).now.said (content left.device).now.said c.play_over-leaves.result.0)
    c.in-Ok.ensures.device
    (c.play_over-leaves.ensures.answered told start (record {
      working_is = subst (λ w. AreInternal c.args.schema c.args.built w start)
          (sym c.in-Ok.ensures.working)
          (start_state c.args.schema c.args.built _ _ c.requires.built);
      kept_same = c.in-Ok.ensures.kept ∙ sym c.in-Ok.ensures.working;
      whole_is = tt;
      kept_whole_is = tt;
    }))))

pub returns-in-Ok-clause-heard : goal.returns-in-Ok-clause-heard
returns-in-Ok-clause-heard g c = λ told e.
    ap (λ m. (g.M.Device.content m).script) c.into_device.ensures
    ∙ c.play_over-leaves.ensures.heard told (empty_state c.args.schema) (record {
      working_is = subst (λ w. AreInternal c.args.schema c.args.built w (empty_state c.args.schema))
          (sym c.in-Ok.ensures.working)
          (start_state c.args.schema c.args.built _ _ c.requires.built);
      kept_same = c.in-Ok.ensures.kept ∙ sym c.in-Ok.ensures.working;
      whole_is = tt;
      kept_whole_is = tt;
    }) e

pub returns-in-Ok-clause-failures : goal.returns-in-Ok-clause-failures
returns-in-Ok-clause-failures g c =
    let left = c.play_over-leaves.result.1.device in
    record {
      fault = λ e.
          subst (λ m. Rose (g.M.Device.faults c.args.machine) (g.M.Device.faults m))
          (sym c.into_device.ensures)
          (subst (λ m. Rose (g.M.Device.faults m) (g.M.Device.faults left)) c.in-Ok.ensures.device
          (c.play_over-leaves.ensures.failures.fault e));
      counted = λ e.
          ap g.M.Device.faults c.into_device.ensures ∙ c.play_over-leaves.ensures.failures.counted e
          ∙ ap g.M.Device.faults c.in-Ok.ensures.device;
      later = omega (
        arith,
        c.play_over-leaves.ensures.failures.later,
        ap g.M.Device.faults c.into_device.ensures,
        ap g.M.Device.faults c.in-Ok.ensures.device,
      );
    }

pub returns-in-Ok-clause-devices : goal.returns-in-Ok-clause-devices
returns-in-Ok-clause-devices g c =
    let content = g.M.Device.content in
    let now = (content c.play_over-leaves.result.1.device).now in
    let before = (content c.in-Ok.leaves.device).now in
    let head = c.play_over-leaves.ensures.keeps.head in
    record {
      blocks = ap (λ m. (content m).now.blocks) c.into_device.ensures ∙ same_blocks before now head
          ∙ ap (λ m. (content m).now.blocks) c.in-Ok.ensures.device;
      pending = ap (λ m. (content m).now.pending) c.into_device.ensures
          ∙ same_pending before now head ∙ ap (λ m. (content m).now.pending) c.in-Ok.ensures.device;
      shelf = ap (λ m. (content m).now.shelf) c.into_device.ensures
          ∙ c.play_over-leaves.ensures.keeps.shelf
          ∙ ap (λ m. (content m).now.shelf) c.in-Ok.ensures.device;
    }

pub returns-in-Ok-clause-aside : goal.returns-in-Ok-clause-aside
returns-in-Ok-clause-aside g c =
    ap (λ m. (g.M.Device.content m).aside) c.into_device.ensures
    ∙ c.play_over-leaves.ensures.keeps.aside
    ∙ ap (λ m. (g.M.Device.content m).aside) c.in-Ok.ensures.device

pub returns-clause-answered : goal.returns-clause-answered
returns-clause-answered g c = λ told. record {
  answers = [];
  first = record {
    ran = [];
    later = _;
    parts = refl;
    final = start_at (empty_state c.args.schema);
    runs = (refl, refl);
  };
  said = ap (λ m. (g.M.Device.content m).now.said) (search rules)
      ∙ sym (append-nil (g.M.Device.content c.args.machine).now.said);
  holds = tt;
}
