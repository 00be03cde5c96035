use Rattle.std.proofs.Common.{rules, ◌≡◌, ◌<◌, ◌∙◌, length, ap, subst, arith}
use Rattle.std.proofs.lemmas.Result.{on_ok_weaker}
use Rattle.gx_mapping.specs.Rule.{In}
use Rattle.gx_stack.specs.Seen.{tree_of}
use Rattle.gx_links.specs.Links.{with_member}
use Rattle.gx_links.specs.Rows.{node_rows}
use Rattle.gx_lists.specs.Arrays.{array_rec, array_rows}
use Rattle.gx_lists.proofs.ArrayLemmas.{in_leaves, rows_set}
use Rattle.gx_lists.proofs.ArrayChanges.{bytes_small, with_fits, none_left, new_fits, old_fits, first_change, first_connected, more_change, more_connected, connect_crowded}
use Rattle.gx_lists.proofs.array.PointerArray.put_among.Goals as goal

pub array_rec-requires : goal.array_rec-requires
array_rec-requires g c = λ m h.
    let list : c.deref.result.now ≡ with_member c.args.member.now c.args.members.now =
    search rules in
    bytes_small c.args.self.now.member m c.requires.valid.member_kind
    (with_fits c.args.self.now.member c.args.member.now c.args.members.now c.requires.member
    c.requires.members m (subst (In m) list h))

pub replace-requires-clause-below : goal.replace-requires-clause-below
replace-requires-clause-below g c = λ n h. c.requires.below n
    (in_leaves g.M.Mapping.rule (tree_of c.args.self.now.tree.now) c.args.self.now.member
    c.requires.valid n h)

pub replace-requires-clause-new_fits : goal.replace-requires-clause-new_fits
replace-requires-clause-new_fits g c =
    let list : c.deref.result.now ≡ with_member c.args.member.now c.args.members.now =
    search rules in
    new_fits g.M.Mapping.rule (tree_of c.args.self.now.tree.now) c.args.self.now.member
    c.requires.valid c.args.owner.now c.args.member.now
    c.args.members.now c.deref.result.now c.in_ok-new.new c.requires.owner c.requires.member
    c.requires.members c.requires.room list
    c.in_ok-new.ensures

pub returns-then-is_empty : goal.returns-then-is_empty
returns-then-is_empty g c =
    let rule = g.M.Mapping.rule in
    let tree = tree_of c.args.self.now.tree.now in
    let kind = c.args.self.now.member in
    let valid = c.requires.valid in
    let o = c.args.owner.now in
    let m = c.args.member.now in
    let ms = c.args.members.now in
    let list : c.deref.result.now ≡ with_member m ms = search rules in
    let empty : length ms ≡ 0 = search rules in
    record {
      connected = λ link whole can those.
          let internal = c.replace.ensures.internal (node_rows array_rows link 0) whole
          (rows_set rule tree kind valid link can.is_link)
          (first_change rule tree kind valid link o m can.free ms c.deref.result.now those list
          c.in_ok-new.new c.in_ok-new.ensures (none_left ms empty)) can.is_held.0 in
          on_ok_weaker c.replace.result (λ d. first_connected rule tree kind valid link o m can.free
          ms c.deref.result.now those list c.in_ok-new.new (g.B.View.working c.replace.new.leaves)
          c.in_ok-new.ensures (none_left ms empty) d) internal;
      others = λ n whole fault away. c.replace.ensures.replaces.others n whole fault
          (λ h. away (in_leaves rule tree kind valid n h));
      keeps = c.replace.ensures.replaces.keeps;
      work = c.replace.ensures.replaces.work;
      ends = c.replace.ensures.replaces.ends;
      full = λ link whole can those full. connect_crowded rule tree kind valid link o m can.free ms
          c.deref.result.now those list _ _ c.in_ok-new.new c.in_ok-new.ensures
          (c.replace.ensures.replaces.full whole full);
    }

pub array_rec-requires-2 : goal.array_rec-requires-2
array_rec-requires-2 g c = λ m h.
    let list : c.deref-2.result.now ≡ c.args.members.now = search rules in
    bytes_small c.args.self.now.member m c.requires.valid.member_kind
    (c.requires.members m (subst (In m) list h))

pub replace-requires-2-clause-below : goal.replace-requires-2-clause-below
replace-requires-2-clause-below g c = λ n h. c.requires.below n
    (in_leaves g.M.Mapping.rule (tree_of c.args.self.now.tree.now) c.args.self.now.member
    c.requires.valid n h)

pub replace-requires-2-clause-old_fits : goal.replace-requires-2-clause-old_fits
replace-requires-2-clause-old_fits g c =
    let list : c.deref-2.result.now ≡ c.args.members.now = search rules in
    let room = c.requires.room in
    old_fits g.M.Mapping.rule (tree_of c.args.self.now.tree.now) c.args.self.now.member
    c.requires.valid c.args.owner.now
    c.args.members.now c.in_ok-old.old c.requires.owner c.requires.members (omega (arith, room))
    (c.in_ok-old.ensures ∙ ap (array_rec c.args.owner.now) list)

pub replace-requires-2-clause-new_fits : goal.replace-requires-2-clause-new_fits
replace-requires-2-clause-new_fits g c =
    let list : c.deref.result.now ≡ with_member c.args.member.now c.args.members.now =
    search rules in
    new_fits g.M.Mapping.rule (tree_of c.args.self.now.tree.now) c.args.self.now.member
    c.requires.valid c.args.owner.now c.args.member.now
    c.args.members.now c.deref.result.now c.in_ok-new.new c.requires.owner c.requires.member
    c.requires.members c.requires.room list
    c.in_ok-new.ensures

pub returns : goal.returns
returns g c =
    let rule = g.M.Mapping.rule in
    let tree = tree_of c.args.self.now.tree.now in
    let kind = c.args.self.now.member in
    let valid = c.requires.valid in
    let o = c.args.owner.now in
    let m = c.args.member.now in
    let ms = c.args.members.now in
    let list : c.deref.result.now ≡ with_member m ms = search rules in
    let list2 : c.deref-2.result.now ≡ ms = search rules in
    let some : 0 < length ms = search rules in
    let was = c.in_ok-old.ensures ∙ ap (array_rec o) list2 in
    record {
      connected = λ link whole can those.
          let internal = c.replace-2.ensures.internal (node_rows array_rows link 0) whole
          (rows_set rule tree kind valid link can.is_link)
          (more_change rule tree kind valid link o m can.free ms c.deref.result.now those list
          c.in_ok-old.old c.in_ok-new.new was c.in_ok-new.ensures some) can.is_held.0 in
          on_ok_weaker c.replace-2.result (λ d. more_connected rule tree kind valid link o m
          can.free ms c.deref.result.now those list c.in_ok-old.old c.in_ok-new.new
          (g.B.View.working c.replace-2.new.leaves) was c.in_ok-new.ensures d) internal;
      others = λ n whole fault away. c.replace-2.ensures.replaces.others n whole fault
          (λ h. away (in_leaves rule tree kind valid n h));
      keeps = c.replace-2.ensures.replaces.keeps;
      work = c.replace-2.ensures.replaces.work;
      ends = c.replace-2.ensures.replaces.ends;
      full = λ link whole can those full. connect_crowded rule tree kind valid link o m can.free ms
          c.deref.result.now those list _ _ c.in_ok-new.new c.in_ok-new.ensures
          (c.replace-2.ensures.replaces.full whole full);
    }
