use Rattle.std.proofs.Common.{rules, List, ◌≡◌, ◌++◌, ◌∙◌, Some, None, sym, ap, subst, refl}
use Rattle.std.specs.FinMap as fin
use Rattle.gx_values.specs.declared.values.Value.{Value}
use Rattle.gx_links.specs.Pairs.{ArePairs}
use Rattle.gx_linksets.specs.Any.{any_link_rule, any_link_laws, IsHeldBy, IsValidLinkset}
use Rattle.gx_model.specs.States.{Link, State, link_in}
use Rattle.gx_stack.proofs.PassLemmas.{read_passes, reads_stopped}
use Rattle.gx_states.proofs.StoredLemmas.{is_stored, is_linked_in, have_link}
use Rattle.gx_engine.proofs.pairs.append_pairs.Goals as goal

pub pairs-requires-clause-valid : goal.pairs-requires-clause-valid
pairs-requires-clause-valid g c =
    (is_stored any_link_rule IsHeldBy IsValidLinkset c.args.schema.now c.args.built.now _
    c.args.link c.stored_link-stored.result c.requires.ready c.requires.link
    c.stored_link-stored.ensures).linkset.valid

pub pairs-requires-clause-below : goal.pairs-requires-clause-below
pairs-requires-clause-below g c =
    (is_stored any_link_rule IsHeldBy IsValidLinkset c.args.schema.now c.args.built.now _
    c.args.link c.stored_link-stored.result c.requires.ready c.requires.link
    c.stored_link-stored.ensures).linkset.below

pub returns-in_default-clause-reads : goal.returns-in_default-clause-reads
returns-in_default-clause-reads g c =
    let x = c.stored_link-stored.result in
    let maps = g.B.View.working c.args.leaves.now in
    reads_stopped g.B.View 0 refl
    (λ sound.
    let linked = have_link any_link_rule IsHeldBy IsValidLinkset c.args.schema.now c.args.built.now
    _ c.args.link x c.requires.ready c.requires.link c.stored_link-stored.ensures maps sound.1 in
    subst (ArePairs (any_link_rule x.linkset) (IsHeldBy x.linkset)
    (g.B.View.whole c.args.leaves.now) maps) c.in_default.is c.in_ok-pairs.ensures.pairs sound.0
    (linked.2, linked.3.is_link, linked.3.link))
    (read_passes g.B.View c.in_ok-pairs.ensures.reads)

pub returns-clause-pairs : goal.returns-clause-pairs
returns-clause-pairs g c = λ s whole are.
    let x = c.stored_link-stored.result in
    let maps = g.B.View.working c.args.leaves.now in
    let stored = is_stored any_link_rule IsHeldBy IsValidLinkset c.args.schema.now
    c.args.built.now _ c.args.link x c.requires.ready c.requires.link
    c.stored_link-stored.ensures in
    let linked = is_linked_in any_link_rule IsHeldBy IsValidLinkset c.args.schema.now
    c.args.built.now _ c.args.link x c.requires.ready c.requires.link
    c.stored_link-stored.ensures maps s are in
    let found = subst (ArePairs (any_link_rule x.linkset) (IsHeldBy x.linkset)
    (g.B.View.whole c.args.leaves.now) maps) c.in-Some.is c.in_ok-pairs.ensures.pairs whole in
    let same = (any_link_laws x.linkset stored.linkset.valid).told found.link
    (link_in s c.args.link) maps found.is_link linked.is_link found.is_held linked.link in
    let front : c.out.inside.0.items ≡ c.args.out.now = search rules in
    let those : c.pairs-2.inside.0.items ≡ c.in-Some.pairs = search rules in
    c.in_ok-append.ensures.items ∙ (λ i. front i ++ those i)
    ∙ ap (λ (l : List (Value × Value)). c.args.out.now ++ l) found.those
    ∙ ap (λ (l : Link). c.args.out.now ++ fin.entries l) same
