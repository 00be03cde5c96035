use Rattle.std.proofs.Common.{◌∙◌, ap, sym, subst}
use Rattle.std.proofs.lemmas.Result.{on_ok_weaker}
use Rattle.gx_stack.specs.Seen.{tree_of}
use Rattle.gx_stack.specs.Tree.{tree_form}
use Rattle.gx_links.specs.Changes.{FitsChange, coming, reversed}
use Rattle.gx_lists.proofs.InvertedLemmas.{down_leaf, up_leaf, pair_of_form, owned_of_form, pair_goes}
use Rattle.gx_lists.proofs.inverted.InvertedLinkset.disconnect_from.Goals as goal

pub replace_both-requires-clause-first_below : goal.replace_both-requires-clause-first_below
replace_both-requires-clause-first_below g c = λ n h. c.requires.below n
    (down_leaf g.M.Mapping.rule (tree_of c.args.self.now.down.now) (tree_of c.args.self.now.up.now)
    c.requires.valid n h)

pub replace_both-requires-clause-second_below : goal.replace_both-requires-clause-second_below
replace_both-requires-clause-second_below g c = λ n h. c.requires.below n
    (up_leaf g.M.Mapping.rule (tree_of c.args.self.now.down.now) (tree_of c.args.self.now.up.now)
    c.requires.valid n h)

pub replace_both-requires-clause-first_fits : goal.replace_both-requires-clause-first_fits
replace_both-requires-clause-first_fits g c = subst (FitsChange
    (tree_form g.M.Mapping.rule (tree_of c.args.self.now.down.now)))
    (sym (c.reversed-pair.ensures ∙ ap reversed (c.coming.ensures
    ∙ ap coming c.in_ok-pair_rec.ensures))) (
      pair_of_form g.M.Mapping.rule (tree_of c.args.self.now.down.now)
          (tree_of c.args.self.now.up.now) c.requires.valid c.args.owner.now c.args.member.now
          c.requires.owner c.requires.member,
      tt,
    )

pub replace_both-requires-clause-second_fits : goal.replace_both-requires-clause-second_fits
replace_both-requires-clause-second_fits g c = subst (FitsChange
    (tree_form g.M.Mapping.rule (tree_of c.args.self.now.up.now)))
    (sym (c.reversed-owned.ensures ∙ ap reversed (c.coming-2.ensures
    ∙ ap coming c.in_ok-owned_rec.ensures))) (
      owned_of_form g.M.Mapping.rule (tree_of c.args.self.now.down.now)
          (tree_of c.args.self.now.up.now) c.requires.valid c.args.owner.now c.args.member.now
          c.requires.owner c.requires.member,
      tt,
    )

pub returns-clause-disconnected : goal.returns-clause-disconnected
returns-clause-disconnected g c = λ link whole can.
    on_ok_weaker c.replace_both.result (λ are. pair_goes g.M.Mapping.rule
    (tree_of c.args.self.now.down.now) (tree_of c.args.self.now.up.now) c.requires.valid link
    c.args.owner.now c.args.member.now can.is_link _ _ can.owned can.is_held _ _
    (c.reversed-pair.ensures ∙ ap reversed (c.coming.ensures
    ∙ ap coming c.in_ok-pair_rec.ensures)) (c.reversed-owned.ensures
    ∙ ap reversed (c.coming-2.ensures ∙ ap coming c.in_ok-owned_rec.ensures)) are)
    (c.replace_both.ensures.changed whole)

pub returns-clause-others : goal.returns-clause-others
returns-clause-others g c = λ n whole fault away. c.replace_both.ensures.others n whole fault
    (λ h. away (down_leaf g.M.Mapping.rule (tree_of c.args.self.now.down.now)
    (tree_of c.args.self.now.up.now) c.requires.valid n h))
    (λ h. away (up_leaf g.M.Mapping.rule (tree_of c.args.self.now.down.now)
    (tree_of c.args.self.now.up.now) c.requires.valid n h))
