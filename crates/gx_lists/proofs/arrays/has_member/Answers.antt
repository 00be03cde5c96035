use Rattle.std.proofs.Common.{rules, ◌≡◌, ◌∙◌, true, false, Ok, sym, ap, subst}
use Rattle.gx_mapping.specs.Rule.{In}
use Rattle.gx_lists.proofs.ArrayChanges.{has_of}
use Rattle.gx_lists.proofs.arrays.has_member.Goals as goal

pub returns-then-branch-clause-yes : goal.returns-then-branch-clause-yes
returns-then-branch-clause-yes c = λ e.
    let cut = c.in_ok-cut_members.ensures.yes (ap Ok c.if-branch.true) in
    let has = has_of c.args.kind c.args.rec.now _ _ _ c.body_of.ensures (search rules) cut in
    let list : c.deref.result.now ≡ c.cut_members.new.out = search rules in
    let same : c.is_among.result ≡ true = cc in
    (has.0, subst (In c.args.member.now) (list ∙ has.1) (c.is_among.ensures.yes same))

pub returns-then-branch-clause-no : goal.returns-then-branch-clause-no
returns-then-branch-clause-no c = λ e.
    let cut = c.in_ok-cut_members.ensures.yes (ap Ok c.if-branch.true) in
    let has = has_of c.args.kind c.args.rec.now _ _ _ c.body_of.ensures (search rules) cut in
    let list : c.deref.result.now ≡ c.cut_members.new.out = search rules in
    let same : c.is_among.result ≡ false = cc in
    (has.0, λ h. c.is_among.ensures.no same (subst (In c.args.member.now) (sym (list ∙ has.1)) h))
