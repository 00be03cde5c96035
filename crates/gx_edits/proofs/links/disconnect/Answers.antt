use Rattle.std.proofs.Common.{length, sym, subst, refl}
use Rattle.gx_values.specs.Values.{Fits}
use Rattle.gx_schema.specs.declared.schema.FileDef.{FileDef}
use Rattle.gx_schema.specs.Lookups.{key_kind}
use Rattle.gx_linksets.specs.Any.{any_link_rule, IsHeldBy, IsValidLinkset}
use Rattle.gx_scan.proofs.CallLemmas.{ok_both, ends_so}
use Rattle.gx_states.proofs.StoredLemmas.{is_stored, is_linked_in, have_link}
use Rattle.gx_edits.proofs.RelinkLemmas.{disconnect_edit, disconnect_full}
use Rattle.gx_edits.proofs.links.disconnect.Goals as goal

pub stored_link-stored-requires-clause-ready : goal.stored_link-stored-requires-clause-ready
stored_link-stored-requires-clause-ready g c =
    (length (g.B.View.working c.args.leaves.now), c.requires.ready)

pub disconnect_pair-requires-clause-stored : goal.disconnect_pair-requires-clause-stored
disconnect_pair-requires-clause-stored g c =
    is_stored any_link_rule IsHeldBy IsValidLinkset c.args.schema.now c.args.built.now _ c.args.link
    c.stored_link-stored.result c.requires.ready c.requires.of_schema.0 c.stored_link-stored.ensures

pub disconnect_pair-requires-clause-member : goal.disconnect_pair-requires-clause-member
disconnect_pair-requires-clause-member g c =
    subst (λ (f : FileDef). Fits (key_kind f) c.args.member.now)
    (sym c.stored_link-stored.ensures.member_file) c.requires.of_schema.1

pub returns : goal.returns
returns g c =
    let b = g.B.View in
    let schema = c.args.schema.now in
    let built = c.args.built.now in
    let i = c.args.link in
    let x = c.stored_link-stored.result in
    let is = c.stored_link-stored.ensures in
    let old = b.working c.args.leaves.now in
    let lt = c.requires.of_schema.0 in
    let pair = c.disconnect_pair.ensures in
    record {
      edit = λ s known whole are.
          let linked = is_linked_in any_link_rule IsHeldBy IsValidLinkset schema built _ i x
          c.requires.ready lt is old s are in
          ok_both c.disconnect_pair.result _ _ _ (pair.refused _ _ _ whole linked)
          (pair.changed _ _ _ whole linked)
          (λ why refused relinked. disconnect_edit any_link_rule IsHeldBy IsValidLinkset schema
          built _ i x c.requires.ready lt is old _ s c.args.member.now why are refused relinked);
      full = λ s known whole are stops.
          let linked = is_linked_in any_link_rule IsHeldBy IsValidLinkset schema built _ i x
          c.requires.ready lt is old s are in
          let full = pair.full _ _ _ whole linked stops in
          disconnect_full any_link_rule IsHeldBy IsValidLinkset schema built _ i x c.requires.ready
          lt is _ _ s full.1 c.args.member.now are.valid full.0 full.3;
      bringing = λ stops. refl;
      accepted = λ s known whole are stops.
          let linked = is_linked_in any_link_rule IsHeldBy IsValidLinkset schema built _ i x
          c.requires.ready lt is old s are in
          (pair.full _ _ _ whole linked stops).0;
      keeps = pair.keeps;
      ends = ends_so b _ _ _ _ _ (λ sound. (
        sound.0,
        have_link any_link_rule IsHeldBy IsValidLinkset schema built _ i x
            c.requires.ready lt is old sound.1,
      )) pair.ends;
      block = pair.block;
    }
