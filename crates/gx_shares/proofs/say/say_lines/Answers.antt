use Rattle.std.proofs.Common.{◌≡◌, ◌++◌, ◌-◌, ◌∙◌, List, ℕ, [], Result, Ok, Err, Option, length, take, drop, refl, sym, ap, subst, arith, append_assoc}
use Rattle.std.specs.Prelude.{codes}
use Rattle.std.specs.Fmt.{decimal}
use Rattle.std.proofs.lemmas.List.{append-nil, take_all, length-drop}
use Rattle.gx_device.specs.declared.device.Failed.{Failed}
use Rattle.gx_sharing.specs.Texts.{with_number}
use Rattle.gx_sessions.specs.Turns.{leaves_of}
use Rattle.gx_play.specs.Say.{SaysAll}
use Rattle.gx_play.proofs.PlayLemmas.{is_err}
use Rattle.gx_shares.specs.Shares.{HasLine}
use Rattle.gx_shares.proofs.SayLemmas.{says_none, says_then, says_cut, says_as}
use Rattle.gx_shares.proofs.SessionLemmas.{same_none, same_then}
use Rattle.gx_shares.proofs.say.say_lines.Goals as goal

pub loop-len-init : goal.loop-len-init
loop-len-init g c = record {
  done = [];
  parts = refl;
  says = says_none g.B.View.tells (g.B.View.content (leaves_of c.args.sessions.now))
      (g.B.View.faults (leaves_of c.args.sessions.now));
  same = same_none g.B.View c.args.sessions.now;
}

pub loop-len-preserved : goal.loop-len-preserved
loop-len-preserved g c =
    let rest = c.loop-len.rest.now in
    let len = c.in-Some.len in
    let n = c.args.session in
    let inv = c.loop-len.invariant in
    let h = subst (λ (o : Option ℕ). HasLine rest o) c.in-Some.is c.line_len.ensures in
    let line = decimal n ++ codes " " ++ take len rest in
    let left : take (length rest - len) (drop len rest) ≡ drop len rest =
    take_all (length rest - len) (drop len rest) (omega (arith, length-drop len rest)) in
    record {
      done = inv.done ++ line;
      parts = inv.parts ∙ ap (λ (l : List ℕ). inv.done ++ l) (h.2 n)
          ∙ sym (append_assoc inv.done line (with_number n (drop len rest)))
          ∙ ap (λ (l : List ℕ). (inv.done ++ line) ++ with_number n l) (sym left);
      says = says_then g.B.View.tells _ _ _ _ _ _ inv.done line (Ok tt) inv.says
          c.in_ok-say_line.ensures.says;
      same = same_then g.B.View _ _ _ inv.same c.say_line.ensures.same;
    }

pub returns-in_err-say_line-clause-says : goal.returns-in_err-say_line-clause-says
returns-in_err-say_line-clause-says g c =
    let rest = c.loop-len.rest.now in
    let len = c.in-Some.len in
    let n = c.args.session in
    let inv = c.loop-len.invariant in
    let h = subst (λ (o : Option ℕ). HasLine rest o) c.in-Some.is c.line_len.ensures in
    let line = decimal n ++ codes " " ++ take len rest in
    let e = c.in_err-say_line.field-0.0 in
    let whole : (inv.done ++ line) ++ with_number n (drop len rest)
    ≡ with_number n c.args.text.now =
    append_assoc inv.done line (with_number n (drop len rest))
    ∙ sym (inv.parts ∙ ap (λ (l : List ℕ). inv.done ++ l) (h.2 n)) in
    let a = g.B.View.content (leaves_of c.args.sessions.now) in
    let b = g.B.View.content (leaves_of c.say_line.new.sessions) in
    let x = g.B.View.faults (leaves_of c.args.sessions.now) in
    let y = g.B.View.faults (leaves_of c.say_line.new.sessions) in
    subst (λ (r : Result (Unit {0}) Failed). SaysAll g.B.View.tells a b x y
    (with_number n c.args.text.now) r) (sym (is_err _ _ c.from_residual.ensures.1))
    (says_as g.B.View.tells a b x y ((inv.done ++ line) ++ with_number n (drop len rest))
    (with_number n c.args.text.now) (Err e) whole
    (says_cut g.B.View.tells a b x y (inv.done ++ line) (with_number n (drop len rest)) e
    (says_then g.B.View.tells a (g.B.View.content (leaves_of c.loop-len.sessions)) b x
    (g.B.View.faults (leaves_of c.loop-len.sessions)) y inv.done line (Err e) inv.says
    c.in_err-say_line.ensures.says)))

pub returns-in_err-say_line-clause-same : goal.returns-in_err-say_line-clause-same
returns-in_err-say_line-clause-same g c =
    same_then g.B.View _ _ _ c.loop-len.invariant.same c.say_line.ensures.same

pub returns-clause-says : goal.returns-clause-says
returns-clause-says g c =
    let rest = c.loop-len.rest.now in
    let n = c.args.session in
    let inv = c.loop-len.invariant in
    let h = subst (λ (o : Option ℕ). HasLine rest o) c.in_default.is c.line_len.ensures in
    says_as g.B.View.tells _ _ _ _ inv.done (with_number n c.args.text.now) (Ok tt)
    (sym (inv.parts ∙ ap (λ (l : List ℕ). inv.done ++ l) (h n) ∙ append-nil inv.done)) inv.says
