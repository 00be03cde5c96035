use Rattle.std.proofs.Common.{◌≡◌, ◌+◌, ◌<◌, length, get_or, take, drop, true, Ok, Err, refl, sym, ap, subst, ◌∙◌, arith}
use Rattle.std.proofs.lemmas.List.{get_or_read}
use Rattle.gx_commands.specs.declared.command.Command.TheVariants as command
use Rattle.gx_engine.specs.Steps.{schema_of, built_of, leaves_of, is_open}
use Rattle.gx_ports.specs.declared.stop.Stop.TheVariants as stop
use Rattle.gx_sharing.specs.Kept.{is_kept}
use Rattle.gx_sessions.specs.Shared.{Carries}
use Rattle.gx_sessions.proofs.SharedLemmas.{carries_still, carries_then, carries_unmade, again_more, short_at, split_here, err_is}
use Rattle.gx_sessions.proofs.AgainLemmas.{kept_quiet, kept_inside, due_again}
use Rattle.gx_sessions.proofs.shared.SharedEngine.carry_again.Goals as goal

pub loop-i-init : goal.loop-i-init
loop-i-init g c = record {
  again = λ p at. at;
  carries = carries_still g.B.View c.args.self.now.engine c.requires.ready c.requires.going;
  inside = c.requires.inside;
  carried = refl;
}

pub pass-requires-clause-due : goal.pass-requires-clause-due
pass-requires-clause-due g c =
    let kept = c.args.kept.now in
    let i = c.loop-i.i in
    let lt : i < length kept = omega (arith, c.loop-i-test.true) in
    let is : c.in_ok-command.command ≡ get_or kept i command.Nothing =
    c.in_ok-command.ensures
    ∙ get_or_read kept i c.index-kept-i.result lt c.index-kept-i.is command.Nothing in
    due_again c.loop-i.self.engine (schema_of c.args.self.now.engine) c.in_ok-command.command
    (get_or kept i command.Nothing) c.loop-i.invariant.carries.schema c.loop-i.invariant.inside is
    (c.requires.kept i lt).0 (ap is_kept is ∙ (c.requires.kept i lt).1)

pub pass-requires-clause-quiet : goal.pass-requires-clause-quiet
pass-requires-clause-quiet g c =
    let kept = c.args.kept.now in
    let i = c.loop-i.i in
    let lt : i < length kept = omega (arith, c.loop-i-test.true) in
    kept_quiet c.in_ok-command.command (ap is_kept (c.in_ok-command.ensures
    ∙ get_or_read kept i c.index-kept-i.result lt c.index-kept-i.is command.Nothing)
    ∙ (c.requires.kept i lt).1)

pub loop-i-preserved : goal.loop-i-preserved
loop-i-preserved g c =
    let kept = c.args.kept.now in
    let i = c.loop-i.i in
    let e = c.args.self.now.engine in
    let inv = c.loop-i.invariant in
    let lt : i < length kept = omega (arith, c.loop-i-test.true) in
    let is : c.in_ok-command.command ≡ get_or kept i command.Nothing =
    c.in_ok-command.ensures
    ∙ get_or_read kept i c.index-kept-i.result lt c.index-kept-i.is command.Nothing in
    let keeps : is_kept c.in_ok-command.command ≡ true =
    ap is_kept is ∙ (c.requires.kept i lt).1 in
    record {
      again = λ p at. again_more g.B.View (schema_of e) (schema_of c.loop-i.self.engine) p kept i
          c.in_ok-command.command c.pass.new.self.engine inv.carries.schema lt is keeps
          (c.in_ok-pass.ensures.passed _ (inv.again p at));
      carries = carries_then g.B.View e c.loop-i.self.engine c.pass.new.self.engine (Ok tt)
          inv.carries c.in_ok-pass.ensures.carries;
      inside = c.in_ok-pass.ensures.inside
          ∙ kept_inside (is_open c.loop-i.self.engine) c.in_ok-command.command keeps ∙ inv.inside;
      carried = c.in_ok-pass.ensures.carried ∙ inv.carried;
    }

pub returns-in_err-pass-clause-full : goal.returns-in_err-pass-clause-full
returns-in_err-pass-clause-full g c = λ p at full.
    let kept = c.args.kept.now in
    let i = c.loop-i.i in
    let e = c.args.self.now.engine in
    let inv = c.loop-i.invariant in
    let lt : i < length kept = omega (arith, c.loop-i-test.true) in
    let is : c.in_ok-command.command ≡ get_or kept i command.Nothing =
    c.in_ok-command.ensures
    ∙ get_or_read kept i c.index-kept-i.result lt c.index-kept-i.is command.Nothing in
    short_at g.B.View p kept (take i kept) c.in_ok-command.command (drop (i + 1) kept)
    (schema_of e) (built_of e) (g.B.View.limit (leaves_of e)) c.loop-i.self.engine
    inv.carries.schema inv.carries.built inv.carries.keeps.limit
    (split_here g.B.View kept i c.in_ok-command.command lt is) inv.carries.ready (inv.again p at)
    (c.in_err-pass.ensures.full _ (inv.again p at)
    (sym (err_is c.from_residual-in_err-pass.result c.in_err-pass.field-0.0
    c.from_residual-in_err-pass.ensures.1) ∙ full))

pub returns-in_err-pass-clause-carries : goal.returns-in_err-pass-clause-carries
returns-in_err-pass-clause-carries g c =
    subst (Carries g.B.View c.args.self.now.engine c.pass.new.self.engine)
    (sym (err_is c.from_residual-in_err-pass.result c.in_err-pass.field-0.0
    c.from_residual-in_err-pass.ensures.1))
    (carries_then g.B.View c.args.self.now.engine c.loop-i.self.engine c.pass.new.self.engine
    (Err c.in_err-pass.field-0.0) c.loop-i.invariant.carries c.in_err-pass.ensures.carries)

pub returns-in_err-command-clause-carries : goal.returns-in_err-command-clause-carries
returns-in_err-command-clause-carries g c =
    subst (Carries g.B.View c.args.self.now.engine c.loop-i.self.engine)
    (sym (err_is c.from_residual.result stop.NoMemory c.from_residual.ensures.1))
    (carries_unmade g.B.View c.args.self.now.engine c.loop-i.self.engine stop.NoMemory
    c.loop-i.invariant.carries refl)
