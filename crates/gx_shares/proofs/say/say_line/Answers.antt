use Rattle.std.proofs.Common.{◌++◌, ◌+◌, ◌∷◌, List, ℕ, [], Result, Err, sym, subst, arith}
use Rattle.std.specs.Prelude.{codes}
use Rattle.std.specs.Fmt.{decimal}
use Rattle.gx_device.specs.declared.device.Failed.{Failed}
use Rattle.gx_sessions.specs.Turns.{leaves_of}
use Rattle.gx_play.specs.Say.{SaysAll}
use Rattle.gx_play.proofs.PlayLemmas.{is_err}
use Rattle.gx_shares.proofs.SayLemmas.{says_then, says_cut, says_as, digit_first}
use Rattle.gx_shares.proofs.SessionLemmas.{same_then}
use Rattle.gx_shares.proofs.say.say_line.Goals as goal

pub returns-in_err-say_whole-clause-says : goal.returns-in_err-say_whole-clause-says
returns-in_err-say_whole-clause-says g c =
    let n = c.args.session in
    let line = c.args.line.now in
    let e = c.in_err-say_whole.field-0.0 in
    let a = g.B.View.content (leaves_of c.args.sessions.now) in
    let b = g.B.View.content (leaves_of c.say_whole.new.sessions) in
    let x = g.B.View.faults (leaves_of c.args.sessions.now) in
    let y = g.B.View.faults (leaves_of c.say_whole.new.sessions) in
    let number : List ℕ = (48 + n) ∷ 32 ∷ [] in
    subst (λ (r : Result (Unit {0}) Failed). SaysAll g.B.View.tells a b x y
    (decimal n ++ codes " " ++ line) r) (sym (is_err _ _ c.from_residual.ensures.1))
    (says_as g.B.View.tells a b x y (number ++ line) (decimal n ++ codes " " ++ line) (Err e)
    (digit_first n line (omega (arith, c.requires.numbered.1)))
    (says_cut g.B.View.tells a b x y number line e c.in_err-say_whole.ensures.says))

pub returns-clause-says : goal.returns-clause-says
returns-clause-says g c =
    let n = c.args.session in
    let line = c.args.line.now in
    let a = g.B.View.content (leaves_of c.args.sessions.now) in
    let m = g.B.View.content (leaves_of c.say_whole.new.sessions) in
    let b = g.B.View.content (leaves_of c.say_whole-2.new.sessions) in
    let x = g.B.View.faults (leaves_of c.args.sessions.now) in
    let k = g.B.View.faults (leaves_of c.say_whole.new.sessions) in
    let y = g.B.View.faults (leaves_of c.say_whole-2.new.sessions) in
    let number : List ℕ = (48 + n) ∷ 32 ∷ [] in
    says_as g.B.View.tells a b x y (number ++ line) (decimal n ++ codes " " ++ line)
    c.say_whole-2.result (digit_first n line (omega (arith, c.requires.numbered.1)))
    (says_then g.B.View.tells a m b x k y number line c.say_whole-2.result
    c.in_ok-say_whole.ensures.says c.say_whole-2.ensures.says)

pub returns-clause-same : goal.returns-clause-same
returns-clause-same g c =
    same_then g.B.View _ _ _ c.say_whole.ensures.same c.say_whole-2.ensures.same
