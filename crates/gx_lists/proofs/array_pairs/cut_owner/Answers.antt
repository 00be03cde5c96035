use Rattle.std.proofs.Common.{rules, ◌≡◌, true, false, Ok, ap, sym, subst}
use Rattle.gx_lists.specs.Arrays.{AreOfOneOwner}
use Rattle.gx_lists.proofs.ArrayPairs.{cut_other}
use Rattle.gx_lists.proofs.array_pairs.cut_owner.Goals as goal

pub returns-then-not-are_of_one_owner : goal.returns-then-not-are_of_one_owner
returns-then-not-are_of_one_owner c =
    let now = c.cut_members.new.out in
    let done : c.in_ok-cut_members.field-0 ≡ true = search rules in
    let other : c.are_of_one_owner.result ≡ false = search rules in
    let list : c.deref.result.now ≡ now = search rules in
    cut_other c.args.kind c.args.rec.now c.body_of.result.now _ now c.requires.kind
    c.body_of.ensures (search rules)
    (c.in_ok-cut_members.ensures.yes (ap Ok done))
    (λ one. c.are_of_one_owner.ensures.no other (subst AreOfOneOwner (sym list) one))
