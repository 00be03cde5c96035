use Rattle.std.proofs.Common.{length, ◌+◌, sym, subst, refl}
use Rattle.std.specs.FinMap as fin
use Rattle.std.proofs.lemmas.Option.{same_Some}
use Rattle.gx_values.specs.declared.values.Value.{Value}
use Rattle.gx_values.specs.Values.{Fits}
use Rattle.gx_schema.specs.declared.schema.FileDef.{FileDef}
use Rattle.gx_schema.specs.Lookups.{key_kind}
use Rattle.gx_ports.specs.LeafMaps.{entry_count, IsCrowdedBy}
use Rattle.gx_links.specs.Links.{members_of}
use Rattle.gx_model.specs.States.{link_in}
use Rattle.gx_linksets.specs.Any.{any_link_rule, IsHeldBy, IsValidLinkset}
use Rattle.gx_scan.proofs.CallLemmas.{ok_both, ends_so}
use Rattle.gx_states.proofs.StoredLemmas.{is_stored, is_linked_in, have_link}
use Rattle.gx_edits.proofs.RelinkLemmas.{connect_edit, connect_full}
use Rattle.gx_edits.proofs.links.connect.Goals as goal

pub stored_link-stored-requires-clause-ready : goal.stored_link-stored-requires-clause-ready
stored_link-stored-requires-clause-ready g c =
    (length (g.B.View.working c.args.leaves.now), c.requires.ready)

pub connect_pair-requires-clause-stored : goal.connect_pair-requires-clause-stored
connect_pair-requires-clause-stored g c =
    is_stored any_link_rule IsHeldBy IsValidLinkset c.args.schema.now c.args.built.now _ c.args.link
    c.stored_link-stored.result c.requires.ready c.requires.of_schema.0 c.stored_link-stored.ensures

pub connect_pair-requires-clause-owner : goal.connect_pair-requires-clause-owner
connect_pair-requires-clause-owner g c =
    subst (λ (f : FileDef). Fits (key_kind f) c.args.owner.now)
    (sym c.stored_link-stored.ensures.owner_file) c.requires.of_schema.1

pub connect_pair-requires-clause-member : goal.connect_pair-requires-clause-member
connect_pair-requires-clause-member g c =
    subst (λ (f : FileDef). Fits (key_kind f) c.args.member.now)
    (sym c.stored_link-stored.ensures.member_file) c.requires.of_schema.2

pub returns : goal.returns
returns g c =
    let b = g.B.View in
    let schema = c.args.schema.now in
    let built = c.args.built.now in
    let i = c.args.link in
    let x = c.stored_link-stored.result in
    let is = c.stored_link-stored.ensures in
    let old = b.working c.args.leaves.now in
    let lt = c.requires.of_schema.0 in
    let pair = c.connect_pair.ensures in
    record {
      edit = λ s known whole are.
          let linked = is_linked_in any_link_rule IsHeldBy IsValidLinkset schema built _ i x
          c.requires.ready lt is old s are in
          ok_both c.connect_pair.result _ _ _ (pair.refused _ _ _ whole linked)
          (pair.changed _ _ _ whole linked)
          (λ why refused relinked. connect_edit any_link_rule IsHeldBy IsValidLinkset schema built _
          i x c.requires.ready lt is old _ s c.args.owner.now c.args.member.now why are refused
          relinked);
      full = λ s known whole are stops.
          let linked = is_linked_in any_link_rule IsHeldBy IsValidLinkset schema built _ i x
          c.requires.ready lt is old s are in
          let full = pair.full _ _ _ whole linked stops in
          let joined = fin.insert (link_in s i) c.args.member.now c.args.owner.now in
          let crowded = subst (λ (o : Value). IsCrowdedBy (b.limit c.args.leaves.now)
          (entry_count old + length ((any_link_rule x.linkset).entries o (members_of joined o))))
          (sym (same_Some c.args.owner.now full.1 full.2)) full.3 in
          connect_full any_link_rule IsHeldBy IsValidLinkset schema built _ i x c.requires.ready lt
          is _ _ s c.args.owner.now c.args.member.now are.valid full.0 crowded;
      bringing = λ stops. refl;
      accepted = λ s known whole are stops.
          (pair.full _ _ _ whole (is_linked_in any_link_rule IsHeldBy IsValidLinkset schema built _
          i x c.requires.ready lt is old s are) stops).0;
      keeps = pair.keeps;
      ends = ends_so b _ _ _ _ _ (λ sound. (
        sound.0,
        have_link any_link_rule IsHeldBy IsValidLinkset schema built _ i x
            c.requires.ready lt is old sound.1,
      )) pair.ends;
      block = pair.block;
    }
