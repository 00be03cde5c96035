-- A link with one pair more or less, as it was asked for.
use Rattle.std.proofs.Common.{◌≡◌, ◌<◌, ◌+◌, ℕ, List, [], ◌++◌, length, Option, sym, ap, subst, ◌∙◌, arith}
use Rattle.std.specs.FinMap as fin
use Rattle.gx_values.specs.declared.values.Kind.{Kind}
use Rattle.gx_values.specs.declared.values.Value.{Value}
use Rattle.gx_values.specs.Values.{Fits}
use Rattle.gx_ports.specs.LeafMaps.{LeafMap, IsCrowdedBy, Limits, entry_count}
use Rattle.gx_mapping.specs.Rule.{Rule, In}
use Rattle.gx_stack.specs.Tree.{Tree}
use Rattle.gx_stack.specs.Internal.{IfThere, entries_if}
use Rattle.gx_links.specs.Links.{Link, members_of, most_members, IsLink, without_member}
use Rattle.gx_links.specs.Linksets.{LinkRule, AreMembers, CanConnect, CanDisconnect}
use Rattle.gx_links.specs.Rows.{IsHeldLink, two_nodes, owner_kind, member_kind}
use Rattle.gx_links.proofs.JoinLemmas.{crowded_more}
use Rattle.gx_links.proofs.MemberLemmas.{insert_link, remove_link, gone_free, gone_comes, members_gone, from_without}
use Rattle.gx_links.specs.declared.changes.Change.{Change}
use Rattle.gx_ring.specs.Ring.{ring_rows, IsRing, ring_rule}
use Rattle.gx_ring.specs.Places.{before_in, next_in}
use Rattle.gx_ring.specs.Steps.{leading, lead_change, own_change}
use Rattle.gx_links.specs.Changes.{AreReplaced, reversed}
use Rattle.gx_ring.proofs.ChainLemmas.{members_between}
use Rattle.gx_ring.proofs.HeldLemmas.{comes, goes, came_entries, went_entries}
use Rattle.gx_ring.proofs.ComeLemmas.{place_among, before_fits, next_fits}

-- the members but one, of those that were found
module _ (rule : LinkRule) (held : Link → List LeafMap → Type 0) (whole : Type 0)
    (maps : List LeafMap) (owner m : Value) (steps_before steps : ℕ)
    (before now others : List Value)
    (found : AreMembers rule held whole maps owner steps_before steps before now)
    (none : before ≡ []) (is : others ≡ without_member m now) where
  now_is : now ≡ found.found
  now_is = found.appended ∙ ap (λ xs. xs ++ found.found) none

  pub others_fit : (x : Value) → In x others → Fits rule.member x
  others_fit x h = found.fit x (subst (In x) now_is (from_without m now x (subst (In x) is h)).0)

  pub others_are : whole → (link : Link) → IsLink rule.owner rule.member link → held link maps
      → others ≡ without_member m (members_of link owner)
  others_are w link is_link is_held =
      is ∙ ap (without_member m) (now_is ∙ found.those w link is_link is_held)

-- the members beside the place of one are of the kind of all
pub beside_fit : (kind : Kind) (members : List Value) (m : Value) (before next : Option Value)
    → before ≡ before_in members m → next ≡ next_in members m
    → ((x : Value) → In x members → Fits kind x)
    → IfThere before (Fits kind) × IfThere next (Fits kind)
beside_fit kind members m before next before_is next_is fit = (
  subst (λ (x : Option Value). IfThere x (Fits kind)) (sym before_is)
      (before_fits (Fits kind) members m fit),
  subst (λ (x : Option Value). IfThere x (Fits kind)) (sym next_is)
      (next_fits (Fits kind) members m fit),
)

module _ {M : Type 0} (rule : M → Rule) (heads nexts : Tree M) (valid : IsRing rule heads nexts)
    (o m : Value) (fit_o : Fits (owner_kind rule heads) o) (fit_m : Fits (member_kind rule nexts) m)
    (members : List Value) (before next : Option Value)
    (before_is : before ≡ before_in members m) (next_is : next ≡ next_in members m)
    (leader : Tree M) (leader_is : leader ≡ leading heads nexts before)
    (lead own : Change) where
  -- it comes
  module _ (lead_is : lead ≡ lead_change o m before next) (own_is : own ≡ own_change o m next)
      (link : Link) (maps : List LeafMap)
      (can : CanConnect (ring_rule rule heads nexts)
      (IsHeldLink rule (two_nodes heads nexts) ring_rows) maps link m)
      (those : members ≡ members_of link o) where
    pub connected : (now : List LeafMap) → length members < most_members
        → AreReplaced rule leader nexts lead own maps now
        → IsHeldLink rule (two_nodes heads nexts) ring_rows (fin.insert link m o) now
    connected now room a =
        let at = place_among link o m members before next those can.free before_is next_is in
        let more = insert_link link o m can.free (owner_kind rule heads) (member_kind rule nexts)
        can.is_link fit_o fit_m (subst (λ ms. length ms < most_members) those room) in
        comes rule heads nexts valid link o m can.is_link more can.free maps now before next at
        can.is_held
        (subst (λ t. AreReplaced rule t nexts (lead_change o m before next)
        (own_change o m next) maps now) leader_is
        (subst (λ c. AreReplaced rule leader nexts c (own_change o m next) maps now) lead_is
        (subst (λ c. AreReplaced rule leader nexts lead c maps now) own_is a)))

    pub connect_full : (limit : Option Limits)
        → IsCrowdedBy limit (entry_count maps
        + (length (entries_if rule leader lead.new) + length (entries_if rule nexts own.new)))
        → IsCrowdedBy limit (entry_count maps + length
        ((ring_rule rule heads nexts).entries o (members_of (fin.insert link m o) o)))
    connect_full limit full =
        let at = place_among link o m members before next those can.free before_is next_is in
        let few = came_entries rule heads nexts (members_of link o)
        (members_of (fin.insert link m o) o) o m before next at
        (members_between link o m can.free at.front at.rest at.split at.lower at.upper) in
        let one : length (entries_if rule leader lead.new) ≡ length
        (entries_if rule (leading heads nexts before) (lead_change o m before next).new) =
        (λ i. length (entries_if rule (leader_is i) (lead_is i).new)) in
        let two : length (entries_if rule nexts own.new) ≡ length
        (entries_if rule nexts (own_change o m next).new) =
        ap (λ (c : Change). length (entries_if rule nexts c.new)) own_is in
        crowded_more limit _ _ (omega (arith, few, one, two)) full

  -- it goes
  module _ (lead_is : lead ≡ reversed (lead_change o m before next))
      (own_is : own ≡ reversed (own_change o m next)) (link : Link) (maps : List LeafMap)
      (can : CanDisconnect (ring_rule rule heads nexts)
      (IsHeldLink rule (two_nodes heads nexts) ring_rows) maps link o m)
      (others : members ≡ without_member m (members_of link o)) where
    rest_is : members ≡ members_of (fin.remove link m) o
    rest_is = others ∙ sym (members_gone link m o)

    pub disconnected : (now : List LeafMap) → AreReplaced rule nexts leader own lead maps now
        → IsHeldLink rule (two_nodes heads nexts) ring_rows (fin.remove link m) now
    disconnected now a =
        let at = place_among (fin.remove link m) o m members before next rest_is
        (gone_free link m) before_is next_is in
        let again = gone_comes link o m can.owned in
        goes rule heads nexts valid (fin.remove link m) o m
        (remove_link link m (owner_kind rule heads) (member_kind rule nexts) can.is_link)
        (subst (IsLink (owner_kind rule heads) (member_kind rule nexts))
        (sym again) can.is_link) (gone_free link m) maps now before next at
        (subst (λ (l : Link). IsHeldLink rule (two_nodes heads nexts) ring_rows l maps)
        (sym again) can.is_held)
        (subst (λ t. AreReplaced rule nexts t (reversed (own_change o m next))
        (reversed (lead_change o m before next)) maps now) leader_is
        (subst (λ c. AreReplaced rule nexts leader (reversed (own_change o m next)) c maps now)
        lead_is
        (subst (λ c. AreReplaced rule nexts leader c lead maps now) own_is a)))

    pub disconnect_full : (limit : Option Limits)
        → IsCrowdedBy limit (entry_count maps
        + (length (entries_if rule nexts own.new) + length (entries_if rule leader lead.new)))
        → IsCrowdedBy limit (entry_count maps + length
        ((ring_rule rule heads nexts).entries o (members_of (fin.remove link m) o)))
    disconnect_full limit full =
        let at = place_among (fin.remove link m) o m members before next rest_is
        (gone_free link m) before_is next_is in
        let few = went_entries rule heads nexts (members_of (fin.remove link m) o) o m before next
        at in
        let one : length (entries_if rule leader lead.new) ≡ length
        (entries_if rule (leading heads nexts before)
        (reversed (lead_change o m before next)).new) =
        (λ i. length (entries_if rule (leader_is i) (lead_is i).new)) in
        let two : length (entries_if rule nexts own.new) ≡ 0 =
        ap (λ (c : Change). length (entries_if rule nexts c.new)) own_is in
        crowded_more limit _ _ (omega (arith, few, one, two)) full
