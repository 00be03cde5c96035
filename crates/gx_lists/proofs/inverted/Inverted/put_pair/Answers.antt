use Rattle.std.proofs.Common.{◌∙◌, ap, sym, subst}
use Rattle.std.proofs.lemmas.Result.{on_ok_weaker}
use Rattle.gx_stack.specs.Seen.{tree_of}
use Rattle.gx_stack.specs.Tree.{tree_form}
use Rattle.gx_links.specs.Changes.{FitsChange, coming}
use Rattle.gx_lists.proofs.InvertedLemmas.{down_leaf, up_leaf, pair_of_form, owned_of_form, pair_comes, crowded_by}
use Rattle.gx_lists.proofs.inverted.Inverted.put_pair.Goals as goal

pub replace_both-requires-clause-first_below : goal.replace_both-requires-clause-first_below
replace_both-requires-clause-first_below g c = λ n h. c.requires.below n
    (down_leaf g.M.Mapping.rule (tree_of c.args.self.now.down.now) (tree_of c.args.self.now.up.now)
    c.requires.valid n h)

pub replace_both-requires-clause-second_below : goal.replace_both-requires-clause-second_below
replace_both-requires-clause-second_below g c = λ n h. c.requires.below n
    (up_leaf g.M.Mapping.rule (tree_of c.args.self.now.down.now) (tree_of c.args.self.now.up.now)
    c.requires.valid n h)

pub replace_both-requires-clause-first_fits : goal.replace_both-requires-clause-first_fits
replace_both-requires-clause-first_fits g c = subst (FitsChange
    (tree_form g.M.Mapping.rule (tree_of c.args.self.now.down.now)))
    (sym (c.coming-pair.ensures ∙ ap coming c.in_ok-pair_rec.ensures)) (
      tt,
      pair_of_form g.M.Mapping.rule (tree_of c.args.self.now.down.now)
          (tree_of c.args.self.now.up.now) c.requires.valid c.args.owner.now c.args.member.now
          c.requires.owner c.requires.member,
    )

pub replace_both-requires-clause-second_fits : goal.replace_both-requires-clause-second_fits
replace_both-requires-clause-second_fits g c = subst (FitsChange
    (tree_form g.M.Mapping.rule (tree_of c.args.self.now.up.now)))
    (sym (c.coming-owned.ensures ∙ ap coming c.in_ok-owned_rec.ensures)) (
      tt,
      owned_of_form g.M.Mapping.rule (tree_of c.args.self.now.down.now)
          (tree_of c.args.self.now.up.now) c.requires.valid c.args.owner.now c.args.member.now
          c.requires.owner c.requires.member,
    )

pub returns : goal.returns
returns g c =
    let rule = g.M.Mapping.rule in
    let down = tree_of c.args.self.now.down.now in
    let up = tree_of c.args.self.now.up.now in
    let valid = c.requires.valid in
    let pair = c.coming-pair.ensures ∙ ap coming c.in_ok-pair_rec.ensures in
    let owned = c.coming-owned.ensures ∙ ap coming c.in_ok-owned_rec.ensures in
    let both = c.replace_both.ensures in
    record {
      connected = λ link whole can known.
          on_ok_weaker c.replace_both.result (λ are. pair_comes rule down up valid link
          c.args.owner.now c.args.member.now can.is_link _ _ can.free can.is_held _ _ pair owned
          are) (both.changed whole);
      others = λ n whole fault away. both.others n whole fault
          (λ h. away (down_leaf rule down up valid n h))
          (λ h. away (up_leaf rule down up valid n h));
      keeps = both.keeps;
      work = both.work;
      ends = both.ends;
      full = λ link whole can known full. crowded_by rule down up valid link c.args.owner.now
          c.args.member.now _ _ _ _ pair owned (both.full whole full);
    }
