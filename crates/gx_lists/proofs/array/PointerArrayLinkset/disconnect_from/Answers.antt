use Rattle.std.proofs.Common.{rules, ◌≡◌, ◌<◌, ◌≤◌, ◌+◌, ◌∙◌, ◌++◌, List, length, sym, ap, subst, arith}
use Rattle.std.proofs.lemmas.Result.{on_ok_weaker}
use Rattle.gx_values.specs.declared.values.Value.{Value}
use Rattle.gx_ports.specs.LeafMaps.{LeafMap, entry_count, IsCrowdedBy}
use Rattle.gx_mapping.specs.Rule.{In}
use Rattle.gx_stack.specs.Tree.{entries_of}
use Rattle.gx_stack.specs.Seen.{tree_of}
use Rattle.gx_stack.specs.Internal.{IsInternal}
use Rattle.gx_links.specs.Links.{without_member}
use Rattle.gx_links.specs.Rows.{node_rows}
use Rattle.gx_links.proofs.MemberLemmas.{without_length}
use Rattle.gx_lists.specs.Arrays.{array_rec, array_rows, AreOfKind}
use Rattle.gx_lists.proofs.ArrayLemmas.{in_leaves, rows_set}
use Rattle.gx_lists.proofs.ArrayChanges.{bytes_small, without_fits, none_left, old_fits, old_there, less_change, last_disconnected, less_disconnected, less_crowded}
use Rattle.gx_lists.proofs.array.PointerArrayLinkset.disconnect_from.Goals as goal

pub array_rec-requires : goal.array_rec-requires
array_rec-requires g c = λ m h.
    let found = c.in_ok-members.ensures.found in
    let kind = c.args.self.now.member in
    let ms_is : c.members.new.out ≡ found.found = found.appended
    ∙ ap (λ (before : List Value). before ++ found.found) c.new.ensures.items in
    let list : c.deref.result.now ≡ c.members.new.out = search rules in
    bytes_small kind m c.requires.valid.member_kind (found.fit m (subst (In m) (list ∙ ms_is) h))

pub replace-requires-clause-below : goal.replace-requires-clause-below
replace-requires-clause-below g c =
    λ n h. subst (λ (maps : List LeafMap). n < length maps)
    (sym c.in_ok-members.ensures.reads.reads.working)
    (c.requires.below n (in_leaves g.M.Mapping.rule (tree_of c.args.self.now.tree.now)
    c.args.self.now.member c.requires.valid n h))

pub replace-requires-clause-old_fits : goal.replace-requires-clause-old_fits
replace-requires-clause-old_fits g c =
    let found = c.in_ok-members.ensures.found in
    let kind = c.args.self.now.member in
    let o = c.args.owner.now in
    let ms_is : c.members.new.out ≡ found.found = found.appended
    ∙ ap (λ (before : List Value). before ++ found.found) c.new.ensures.items in
    let list : c.deref.result.now ≡ c.members.new.out = search rules in
    let few : length c.deref.result.now ≤ 500 =
    omega (arith, c.deref.ensures.len, c.len.ensures, c.if-len-gt-MOST_MEMBERS.false) in
    old_fits g.M.Mapping.rule (tree_of c.args.self.now.tree.now) kind c.requires.valid o
    c.deref.result.now c.in_ok-old.old c.requires.owner
    (subst (AreOfKind kind) (sym (list ∙ ms_is)) found.fit) few c.in_ok-old.ensures

pub returns-then-is_empty-clause-disconnected : goal.returns-then-is_empty-clause-disconnected
returns-then-is_empty-clause-disconnected g c = λ link whole can.
    let rule = g.M.Mapping.rule in
    let tree = tree_of c.args.self.now.tree.now in
    let kind = c.args.self.now.member in
    let valid = c.requires.valid in
    let o = c.args.owner.now in
    let m = c.args.member.now in
    let found = c.in_ok-members.ensures.found in
    let ms = c.members.new.out in
    let ws = c.without-rest.result in
    let ms_is : ms ≡ found.found = found.appended
    ∙ ap (λ (before : List Value). before ++ found.found) c.new.ensures.items in
    let those = ms_is ∙ found.those whole link can.is_link can.is_held in
    let without : ws ≡ without_member m ms = c.without-rest.ensures in
    let empty : length ws ≡ 0 = search rules in
    let list : c.deref.result.now ≡ ms = search rules in
    let was = c.in_ok-old.ensures ∙ ap (array_rec o) list in
    let held = subst (λ (maps : List LeafMap). IsInternal rule tree (node_rows array_rows link 0)
    maps) (sym c.in_ok-members.ensures.reads.reads.working) can.is_held.0 in
    let internal = c.replace.ensures.internal (node_rows array_rows link 0)
    (c.in_ok-members.ensures.reads.ends.whole whole)
    (rows_set rule tree kind valid link can.is_link)
    (old_there rule tree kind valid link o m can.owned ms ws those without
    c.in_ok-old.old was) held in
    on_ok_weaker c.replace.result
    (λ d. last_disconnected rule tree kind valid link o m can.owned ms ws those without
    c.in_ok-old.old (g.B.View.working c.replace.new.leaves) was (none_left ws empty) d)
    internal

pub array_rec-requires-2 : goal.array_rec-requires-2
array_rec-requires-2 g c = λ m h.
    let found = c.in_ok-members.ensures.found in
    let kind = c.args.self.now.member in
    let ms_is : c.members.new.out ≡ found.found = found.appended
    ∙ ap (λ (before : List Value). before ++ found.found) c.new.ensures.items in
    let without : c.without-rest.result ≡ without_member c.args.member.now c.members.new.out =
    c.without-rest.ensures in
    let list : c.deref-2.result.now ≡ c.without-rest.result = search rules in
    bytes_small kind m c.requires.valid.member_kind
    (without_fits kind c.args.member.now found.found found.fit m
    (subst (In m) (list ∙ without ∙ ap (without_member c.args.member.now) ms_is) h))

pub replace-requires-2-clause-below : goal.replace-requires-2-clause-below
replace-requires-2-clause-below g c =
    λ n h. subst (λ (maps : List LeafMap). n < length maps)
    (sym c.in_ok-members.ensures.reads.reads.working)
    (c.requires.below n (in_leaves g.M.Mapping.rule (tree_of c.args.self.now.tree.now)
    c.args.self.now.member c.requires.valid n h))

pub replace-requires-2-clause-old_fits : goal.replace-requires-2-clause-old_fits
replace-requires-2-clause-old_fits g c =
    let found = c.in_ok-members.ensures.found in
    let kind = c.args.self.now.member in
    let o = c.args.owner.now in
    let ms_is : c.members.new.out ≡ found.found = found.appended
    ∙ ap (λ (before : List Value). before ++ found.found) c.new.ensures.items in
    let list : c.deref.result.now ≡ c.members.new.out = search rules in
    let few : length c.deref.result.now ≤ 500 =
    omega (arith, c.deref.ensures.len, c.len.ensures, c.if-len-gt-MOST_MEMBERS.false) in
    old_fits g.M.Mapping.rule (tree_of c.args.self.now.tree.now) kind c.requires.valid o
    c.deref.result.now c.in_ok-old.old c.requires.owner
    (subst (AreOfKind kind) (sym (list ∙ ms_is)) found.fit) few c.in_ok-old.ensures

pub replace-requires-2-clause-new_fits : goal.replace-requires-2-clause-new_fits
replace-requires-2-clause-new_fits g c =
    let found = c.in_ok-members.ensures.found in
    let kind = c.args.self.now.member in
    let o = c.args.owner.now in
    let m = c.args.member.now in
    let ms_is : c.members.new.out ≡ found.found = found.appended
    ∙ ap (λ (before : List Value). before ++ found.found) c.new.ensures.items in
    let without : c.without-rest.result ≡ without_member m c.members.new.out =
    c.without-rest.ensures in
    let list : c.deref.result.now ≡ c.members.new.out = search rules in
    let list2 : c.deref-2.result.now ≡ c.without-rest.result = search rules in
    let is = list2 ∙ without ∙ ap (without_member m) (sym list) in
    let few : length c.deref.result.now ≤ 500 =
    omega (arith, c.deref.ensures.len, c.len.ensures, c.if-len-gt-MOST_MEMBERS.false) in
    let fewer : length (without_member m c.deref.result.now) ≤ 500 =
    omega (arith, few, without_length m c.deref.result.now) in
    old_fits g.M.Mapping.rule (tree_of c.args.self.now.tree.now) kind c.requires.valid o
    (without_member m c.deref.result.now) c.in_ok-new.new c.requires.owner
    (without_fits kind m c.deref.result.now
    (subst (AreOfKind kind) (sym (list ∙ ms_is)) found.fit)) fewer (c.in_ok-new.ensures
    ∙ ap (array_rec o) is)

pub returns-clause-disconnected : goal.returns-clause-disconnected
returns-clause-disconnected g c = λ link whole can.
    let rule = g.M.Mapping.rule in
    let tree = tree_of c.args.self.now.tree.now in
    let kind = c.args.self.now.member in
    let valid = c.requires.valid in
    let o = c.args.owner.now in
    let m = c.args.member.now in
    let found = c.in_ok-members.ensures.found in
    let ms = c.members.new.out in
    let ws = c.without-rest.result in
    let ms_is : ms ≡ found.found = found.appended
    ∙ ap (λ (before : List Value). before ++ found.found) c.new.ensures.items in
    let those = ms_is ∙ found.those whole link can.is_link can.is_held in
    let without : ws ≡ without_member m ms = c.without-rest.ensures in
    let some : 0 < length ws = search rules in
    let list : c.deref.result.now ≡ ms = search rules in
    let list2 : c.deref-2.result.now ≡ ws = search rules in
    let was = c.in_ok-old.ensures ∙ ap (array_rec o) list in
    let is = c.in_ok-new.ensures ∙ ap (array_rec o) list2 in
    let held = subst (λ (maps : List LeafMap). IsInternal rule tree (node_rows array_rows link 0)
    maps) (sym c.in_ok-members.ensures.reads.reads.working) can.is_held.0 in
    let internal = c.replace-2.ensures.internal (node_rows array_rows link 0)
    (c.in_ok-members.ensures.reads.ends.whole whole)
    (rows_set rule tree kind valid link can.is_link)
    (less_change rule tree kind valid link o m can.owned ms ws those without
    c.in_ok-old.old c.in_ok-new.new was is) held in
    on_ok_weaker c.replace-2.result
    (λ d. less_disconnected rule tree kind valid link o m can.owned ms ws those without
    c.in_ok-old.old c.in_ok-new.new (g.B.View.working c.replace-2.new.leaves) was is some d)
    internal

pub returns-clause-full : goal.returns-clause-full
returns-clause-full g c = λ link whole can full.
    let rule = g.M.Mapping.rule in
    let tree = tree_of c.args.self.now.tree.now in
    let kind = c.args.self.now.member in
    let valid = c.requires.valid in
    let o = c.args.owner.now in
    let m = c.args.member.now in
    let b = g.B.View in
    let found = c.in_ok-members.ensures.found in
    let ms = c.members.new.out in
    let ws = c.without-rest.result in
    let ms_is : ms ≡ found.found = found.appended
    ∙ ap (λ (before : List Value). before ++ found.found) c.new.ensures.items in
    let those = ms_is ∙ found.those whole link can.is_link can.is_held in
    let without : ws ≡ without_member m ms = c.without-rest.ensures in
    let some : 0 < length ws = search rules in
    let list2 : c.deref-2.result.now ≡ ws = search rules in
    let is = c.in_ok-new.ensures ∙ ap (array_rec o) list2 in
    let crowded = c.replace-2.ensures.replaces.full (c.in_ok-members.ensures.reads.ends.whole whole)
    full in
    let at_old = subst (λ (maps : List LeafMap). IsCrowdedBy (b.limit c.members.new.leaves)
    (entry_count maps + length (entries_of rule tree c.in_ok-new.new)))
    c.in_ok-members.ensures.reads.reads.working crowded in
    less_crowded rule tree kind valid link o m can.owned ms ws those without
    (b.limit c.args.leaves.now) (entry_count (b.working c.args.leaves.now)) c.in_ok-new.new is
    some
    (subst (λ limit. IsCrowdedBy limit
    (entry_count (b.working c.args.leaves.now) + length (entries_of rule tree c.in_ok-new.new)))
    c.in_ok-members.ensures.reads.reads.limit at_old)
