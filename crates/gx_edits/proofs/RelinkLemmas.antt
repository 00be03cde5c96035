-- What a link command does to the state that leaves stand for.
use Rattle.std.proofs.Common.{[], ◌≡◌, ℕ, zero, suc, ◌+◌, ◌<◌, ◌≤◌, List, ◌∷◌, length, get_or, set, cond, Bool, true, false, Option, Some, None, drop, refl, sym, ap, subst, ◌∙◌, arith, inl, inr}
use Rattle.std.specs.Prelude.{◌&&◌, not, nat_le, is_some, IsTrue, ◌||◌, ◌==◌}
use Rattle.std.specs.Option.{option_map}
use Rattle.std.specs.FinMap as fin
use Rattle.std.proofs.lemmas.Bool.{cases_eq, true≢false}
use Rattle.std.proofs.lemmas.Bool.Decides.{nat_tests}
use Rattle.std.proofs.lemmas.List.{get_or-set_same, get_or-set_other, length-set}
use Rattle.gx_laws.proofs.ResultLemmas.{none_of}
use Rattle.gx_values.specs.declared.values.Value.{Value}
use Rattle.gx_values.proofs.OrderLemmas.{value_cases}
use Rattle.gx_schema.specs.declared.schema.LinkDef.{LinkDef}
use Rattle.gx_schema.specs.declared.schema.Schema.{Schema}
use Rattle.gx_schema.specs.Lookups.{no_link, link_at}
use Rattle.gx_commands.specs.declared.command.Command.{Command}
use Rattle.gx_commands.specs.declared.command.Command.TheVariants as command
use Rattle.gx_ports.specs.LeafMaps.{LeafMap, Limits, map_at, IsCrowdedBy}
use Rattle.gx_mapping.specs.Rule.{In}
use Rattle.gx_stack.specs.Tree.{kids_leaves}
use Rattle.gx_stack.proofs.Same.{internal_elsewhere}
use Rattle.gx_gather.proofs.Lists.{all_of}
use Rattle.gx_types.specs.declared.built.Built.{Built}
use Rattle.gx_types.specs.Any.{any_rule}
use Rattle.gx_types.specs.Links.{link_kids_at}
use Rattle.gx_types.specs.Nodes.{tree_at}
use Rattle.gx_links.specs.Links.{members_of}
use Rattle.gx_links.specs.Linksets.{LinkRule}
use Rattle.gx_links.proofs.MemberLemmas.{in_pair, from_insert, others_stay, members_with, with_length, members_gone, without_length, from_remove}
use Rattle.gx_linksets.specs.Stored.{IsHeldAt}
use Rattle.gx_pairs.specs.declared.refused.Refused.{Refused}
use Rattle.gx_pairs.specs.declared.stored.StoredLink.{StoredLink}
use Rattle.gx_pairs.specs.Changes.{refusal_for, connect_refusal, disconnect_refusal}
use Rattle.gx_pairs.specs.Members.{has_member}
use Rattle.gx_pairs.specs.Stored.{IsRelinked}
use Rattle.gx_model.specs.States.{File, Link, State, file_in, link_in, pairs_of, most_members, IsLinkOf, IsValid}
use Rattle.gx_model.specs.Commands.{Refusal, first_refusal, refusal_of, with_link, state_after, next_state, is_end_of, is_linked}
use Rattle.gx_states.specs.Internal.{AreInternal, AreFor, link_entries_from, state_entries}
use Rattle.gx_states.specs.Stored.{IsStoredLinkOf}
use Rattle.gx_states.proofs.CountLemmas.{entries_at, among_links, crowded_more}
use Rattle.gx_states.proofs.LinkLemmas.{member_there, owner_there, as_many, link_elsewhere}
use Rattle.gx_edits.specs.Edits.{IsEdit}

-- ---- a link with one pair more or less

there_as : (f : File) (k k' : Value) → k ≡ k' → IsTrue (is_some (fin.get f k'))
    → IsTrue (is_some (fin.get f k))
there_as f k k' e there = subst (λ (v : Value). IsTrue (is_some (fin.get f v))) (sym e) there

module _ (s : State) (def : LinkDef) (link : Link) (is : IsLinkOf s def link) where
  pub link_with : (o m : Value) → fin.get link m ≡ None
      → IsTrue (is_some (fin.get (file_in s def.member) m))
      → IsTrue (is_some (fin.get (file_in s def.owner) o)) → length (pairs_of link o) < most_members
      → IsLinkOf s def (fin.insert link m o)
  link_with o m free m_there o_there room = record {
    members =
        all_of _ (fin.entries (fin.insert link m o))
        (λ pair h. elim (from_insert link o m pair.0 pair.1
        (in_pair (fin.insert link m o) pair h)) [
          | inl both ↦ there_as (file_in s def.member) pair.0 m both.0 m_there
          | inr both ↦ member_there s def link pair.0 pair.1 is both.1
        ]);
    owners =
        all_of _ (fin.entries (fin.insert link m o))
        (λ pair h. elim (from_insert link o m pair.0 pair.1
        (in_pair (fin.insert link m o) pair h)) [
          | inl both ↦ there_as (file_in s def.owner) pair.1 o both.1 o_there
          | inr both ↦ owner_there s def link pair.0 pair.1 is both.1
        ]);
    few = λ x. elim (value_cases x o) [
      | inl e ↦ subst (λ z. length (pairs_of (fin.insert link m o) z) ≤ most_members) (sym e)
          (omega (
            arith,
            as_many (fin.insert link m o) o,
            ap (λ (zs : List Value). length zs)
                (members_with link o m free),
            with_length m (members_of link o),
            as_many link o,
            room,
          ))
      | inr ne ↦ omega (
        arith,
        as_many (fin.insert link m o) x,
        ap (λ (zs : List Value). length zs)
            (others_stay link o m free x ne),
        as_many link x,
        is.few x,
      )
    ];
  }

  pub link_without : (m : Value) → IsLinkOf s def (fin.remove link m)
  link_without m = record {
    members = all_of _ (fin.entries (fin.remove link m))
        (λ pair h. member_there s def link pair.0 pair.1 is
        (from_remove link m pair.0 pair.1 (in_pair (fin.remove link m) pair h)).1);
    owners = all_of _ (fin.entries (fin.remove link m))
        (λ pair h. owner_there s def link pair.0 pair.1 is
        (from_remove link m pair.0 pair.1 (in_pair (fin.remove link m) pair h)).1);
    few = λ x. omega (
      arith,
      as_many (fin.remove link m) x,
      ap (λ (zs : List Value). length zs)
          (members_gone link m x),
      without_length m (members_of link x),
      as_many link x,
      is.few x,
    );
  }

-- ---- a state with one link changed

same_ends : (s : State) (i : ℕ) (l : Link) (def : LinkDef) (link : Link) → IsLinkOf s def link
    → IsLinkOf (with_link s i l) def link
same_ends s i l def link is = record { members = is.members; owners = is.owners; few = is.few }

pub valid_with_link : (schema : Schema) (s : State) (i : ℕ) (l : Link) → IsValid schema s
    → i < length schema.links → IsLinkOf s (link_at schema i) l → IsValid schema (with_link s i l)
valid_with_link schema s i l valid lt is = record {
  files_many = valid.files_many;
  links_many = length-set s.links i l ∙ valid.links_many;
  files = valid.files;
  links = λ j h. elim (cases_eq j i) [
    | inl e ↦ subst (λ n. IsLinkOf (with_link s i l) (link_at schema n)
        (link_in (with_link s i l) n)) (sym e)
        (subst (λ (x : Link). IsLinkOf (with_link s i l) (link_at schema i) x)
        (sym (get_or-set_same s.links i l fin.empty (omega (arith, valid.links_many))))
        (same_ends s i l (link_at schema i) l is))
    | inr ne ↦ subst (λ (x : Link). IsLinkOf (with_link s i l) (link_at schema j) x)
        (sym (get_or-set_other s.links i j l fin.empty ne))
        (same_ends s i l (link_at schema j) (link_in s j) (valid.links j h))
  ];
}

-- the leaves hold the state with one link changed
pub relinked_are : (schema : Schema) (built : Built) (leaves : ℕ) (old new : List LeafMap)
    (s : State) (i : ℕ) (l : Link) → AreFor schema built leaves → AreInternal schema built old s
    → i < length schema.links → IsLinkOf s (link_at schema i) l → IsHeldAt built.links i l new
    → ((n : ℕ) → ¬ In n (kids_leaves (link_kids_at built.links i)) → map_at new n ≡ map_at old n)
    → AreInternal schema built new (with_link s i l)
relinked_are schema built leaves old new s i l for are lt is held others = record {
  valid = valid_with_link schema s i l are.valid lt is;
  files = λ j h. internal_elsewhere any_rule (tree_at built.files j) _ old new (for.nodes.valid j h)
      (λ n there. others n (λ too. for.link_nodes.file_apart j i n h lt there too)) (are.files j h);
  links = λ j h. elim (cases_eq j i) [
    | inl e ↦ subst (λ n. IsHeldAt built.links n (link_in (with_link s i l) n) new) (sym e)
        (subst (λ (x : Link). IsHeldAt built.links i x new)
        (sym (get_or-set_same s.links i l fin.empty (omega (arith, are.valid.links_many)))) held)
    | inr ne ↦ subst (λ (x : Link). IsHeldAt built.links j x new)
        (sym (get_or-set_other s.links i j l fin.empty ne))
        (link_elsewhere schema built.files built.links leaves j (link_in s j) old new for.link_nodes
        h (λ n there. others n (λ too. ne (for.link_nodes.apart j i n h lt there too)))
        (are.links j h))
  ];
}

set_itself : (ls : List Link) (i : ℕ) → set ls i (get_or ls i fin.empty) ≡ ls
set_itself [] i = refl
set_itself (l ∷ ls) zero = refl
set_itself (l ∷ ls) (suc i) = ap (λ (rest : List Link). l ∷ rest) (set_itself ls i)

link_itself : (s : State) (i : ℕ) → with_link s i (link_in s i) ≡ s
link_itself s i =
    ap (λ (ls : List Link). record { files = s.files; links = ls }) (set_itself s.links i)

-- ---- edits of links

-- a command that changes a link where it isn't refused
pub relinked_edit : (schema : Schema) (built : Built) (leaves : ℕ) (old new : List LeafMap)
    (s : State) (c : Command) (i : ℕ) (l : Link) (why : Option Refused) → AreFor schema built leaves
    → AreInternal schema built old s → i < length schema.links
    → option_map refusal_for why ≡ refusal_of schema s c → state_after s c ≡ with_link s i l
    → (refusal_of schema s c ≡ None → IsLinkOf s (link_at schema i) l)
    → IsHeldAt built.links i (cond (is_some why) (link_in s i) l) new
    → ((n : ℕ) → ¬ In n (kids_leaves (link_kids_at built.links i)) → map_at new n ≡ map_at old n)
    → IsEdit schema built c s new why
relinked_edit schema built leaves old new s c i l None for are lt refused after is held others =
    record {
      why_is = refused;
      stands =
          subst (AreInternal schema built new)
          (sym (ap (λ (o : Option Refusal). cond (is_some o) s (state_after s c)) (sym refused)
          ∙ after))
          (relinked_are schema built leaves old new s i l for are lt (is (sym refused)) held
          others);
    }
relinked_edit schema built leaves old new s c i l (Some why) for are lt refused after is held
    others =
    record {
      why_is = refused;
      stands =
          subst (AreInternal schema built new)
          (sym (ap (λ (o : Option Refusal). cond (is_some o) s (state_after s c)) (sym refused)
          ∙ sym (link_itself s i)))
          (relinked_are schema built leaves old new s i (link_in s i) for are lt
          (are.valid.links i lt)
          held others);
    }

some_none : {A : Type 0} (x : A) → Some x ≡ None → ⊥
some_none x e = cc

-- where no reason holds
pub record NoReason (a b c : Bool) : Type 0 where
  pub first : a ≡ false
  pub second : b ≡ false
  pub third : c ≡ false

no_reason : (a b c : Bool) (x y z : Refusal) → first_refusal ((a, x) ∷ (b, y) ∷ (c, z) ∷ []) ≡ None
    → NoReason a b c
no_reason true b c x y z e = absurd (some_none x e)
no_reason false true c x y z e = absurd (some_none y e)
no_reason false false true x y z e = absurd (some_none z e)
no_reason false false false x y z e = record { first = refl; second = refl; third = refl }

both_there : (a b : Bool) → not (a && b) ≡ false → IsTrue a × IsTrue b
both_there true true e = (refl, refl)
both_there true false e = absurd (true≢false e)
both_there false b e = absurd (true≢false e)

not_le : (m n : ℕ) → nat_le m n ≡ false → n < m
not_le m n e = grind (arith, nat_tests)

-- a pair that isn't refused may come
pub connected_link : (schema : Schema) (s : State) (i : ℕ) (owner member : Value) → IsValid schema s
    → i < length schema.links → refusal_of schema s (command.Connect i owner member) ≡ None
    → IsLinkOf s (link_at schema i) (fin.insert (link_in s i) member owner)
connected_link schema s i owner member valid lt e =
    let no = no_reason _ _ _ _ _ _ e in
    let there = both_there _ _ no.first in
    link_with s (link_at schema i) (link_in s i) (valid.links i lt) owner member
    (none_of _ no.second) there.1 there.0
    (not_le most_members (length (pairs_of (link_in s i) owner)) no.third)

-- ---- counts of entries

-- the entries of an owner are among those of the state after a command that isn't refused
pub short_with_link : (limit : Option Limits) (schema : Schema) (built : Built) (leaves before : ℕ)
    (s : State) (c : Command) (i : ℕ) (l : Link) (o : Value) → AreFor schema built leaves
    → IsValid schema s → i < length schema.links → refusal_of schema s c ≡ None
    → state_after s c ≡ with_link s i l
    → IsCrowdedBy limit (before + entries_at built.links i l o)
    → IsCrowdedBy limit (before + state_entries built (next_state schema s c))
short_with_link limit schema built leaves before s c i l o for valid lt allowed after crowded =
    let next : next_state schema s c ≡ with_link s i l = ap
    (λ (r : Option Refusal). cond (is_some r) s (state_after s c)) allowed ∙ after in
    let at : get_or (set s.links i l) i fin.empty ≡ l = get_or-set_same s.links i l fin.empty
    (omega (arith, valid.links_many)) in
    let one : entries_at built.links i l o ≤ link_entries_from built.links (set s.links i l) =
    subst (λ (x : Link). entries_at built.links i x o ≤ link_entries_from built.links
    (set s.links i l)) at
    (among_links built.links (set s.links i l) i o (omega (arith, for.link_nodes.many))
    (omega (arith, valid.links_many, length-set s.links i l))) in
    subst (λ (t : State). IsCrowdedBy limit (before + state_entries built t)) (sym next)
    (crowded_more limit _ _ (omega (arith, one)) crowded)

-- ---- edits of a stored link

module _ {L : Type 0} (rule : L → LinkRule) (held : L → Link → List LeafMap → Type 0)
    (valid : L → Type 0) (schema : Schema) (built : Built) (leaves i : ℕ) (x : StoredLink L)
    (for : AreFor schema built leaves) (lt : i < length schema.links)
    (is : IsStoredLinkOf rule held valid schema built i x) where
  pub connect_edit : (old new : List LeafMap) (s : State) (owner member : Value)
      (why : Option Refused) → AreInternal schema built old s
      → option_map refusal_for why ≡ connect_refusal (file_in s (link_at schema i).owner)
      (file_in s (link_at schema i).member) (link_in s i) owner member
      → IsRelinked rule held x old new
      (cond (is_some why) (link_in s i) (fin.insert (link_in s i) member owner))
      → IsEdit schema built (command.Connect i owner member) s new why
  connect_edit old new s owner member why are refused relinked =
      relinked_edit schema built leaves old new s (command.Connect i owner member) i
      (fin.insert (link_in s i) member owner) why for are lt refused refl
      (λ e. connected_link schema s i owner member are.valid lt e)
      (is.held_from _ new relinked.link)
      (λ n out. relinked.others n (λ h. out (subst (λ r. In n r.leaves) is.rule_is h)))

  pub disconnect_edit : (old new : List LeafMap) (s : State) (member : Value) (why : Option Refused)
      → AreInternal schema built old s
      → option_map refusal_for why ≡ disconnect_refusal (file_in s (link_at schema i).member)
      (link_in s i) member
      → IsRelinked rule held x old new
      (cond (is_some why) (link_in s i) (fin.remove (link_in s i) member))
      → IsEdit schema built (command.Disconnect i member) s new why
  disconnect_edit old new s member why are refused relinked =
      relinked_edit schema built leaves old new s (command.Disconnect i member) i
      (fin.remove (link_in s i) member) why for are lt refused refl
      (λ e. link_without s (link_at schema i) (link_in s i) (are.valid.links i lt) member)
      (is.held_from _ new relinked.link)
      (λ n out. relinked.others n (λ h. out (subst (λ r. In n r.leaves) is.rule_is h)))

  pub connect_full : (limit : Option Limits) (before : ℕ) (s : State) (owner member : Value)
      → IsValid schema s → connect_refusal (file_in s (link_at schema i).owner)
      (file_in s (link_at schema i).member) (link_in s i) owner member ≡ None
      → IsCrowdedBy limit (before + length
      ((rule x.linkset).entries owner (members_of (fin.insert (link_in s i) member owner) owner)))
      → IsCrowdedBy limit (before + state_entries built
      (next_state schema s (command.Connect i owner member)))
  connect_full limit before s owner member is_valid allowed crowded =
      short_with_link limit schema built leaves before s (command.Connect i owner member) i
      (fin.insert (link_in s i) member owner) owner for is_valid lt allowed refl
      (subst (λ r. IsCrowdedBy limit
      (before + length (r.entries owner
      (members_of (fin.insert (link_in s i) member owner) owner)))) is.rule_is crowded)

  pub disconnect_full : (limit : Option Limits) (before : ℕ) (s : State) (owner member : Value)
      → IsValid schema s → disconnect_refusal (file_in s (link_at schema i).member) (link_in s i)
      member ≡ None
      → IsCrowdedBy limit (before + length
      ((rule x.linkset).entries owner (members_of (fin.remove (link_in s i) member) owner)))
      → IsCrowdedBy limit (before + state_entries built
      (next_state schema s (command.Disconnect i member)))
  disconnect_full limit before s owner member is_valid allowed crowded =
      short_with_link limit schema built leaves before s (command.Disconnect i member) i
      (fin.remove (link_in s i) member) owner for is_valid lt allowed refl
      (subst (λ r. IsCrowdedBy limit
      (before + length (r.entries owner (members_of (fin.remove (link_in s i) member) owner))))
      is.rule_is crowded)

-- ---- whether a record is an end of a pair

module _ (file : ℕ) (key : Value) where
  -- of the links from one on
  abbrev pub linked_from : List LinkDef → List Link → ℕ → Bool
  linked_from defs links i = is_linked (drop i defs) (drop i links) file key

  linked_next : (defs : List LinkDef) (links : List Link) (i : ℕ) → i < length defs
      → length links ≡ length defs → linked_from defs links
      i ≡ (is_end_of (get_or defs i no_link) (get_or links i fin.empty) file key || linked_from defs
      links (suc i))
  linked_next [] links i lt many = absurd (omega arith)
  linked_next (d ∷ defs) [] i lt many = absurd (omega (arith, many))
  linked_next (d ∷ defs) (l ∷ links) zero lt many = refl
  linked_next (d ∷ defs) (l ∷ links) (suc i) lt many =
      linked_next defs links i (omega arith) (omega (arith, many))

  pub linked_more : (defs : List LinkDef) (links : List Link) (i n : ℕ) → n ≡ suc i
      → i < length defs → length links ≡ length defs
      → false ≡ is_end_of (get_or defs i no_link) (get_or links i fin.empty) file key
      → linked_from defs links i ≡ is_linked defs links file key
      → linked_from defs links n ≡ is_linked defs links file key
  linked_more defs links i n next lt many none same =
      ap (linked_from defs links) next ∙ ap (λ b. b || linked_from defs links (suc i)) none
      ∙ sym (linked_next defs links i lt many) ∙ same

  pub linked_here : (defs : List LinkDef) (links : List Link) (i : ℕ) → i < length defs
      → length links ≡ length defs → true ≡ is_end_of (get_or defs i no_link)
      (get_or links i fin.empty) file key → linked_from defs links i ≡ is_linked defs links file key
      → true ≡ is_linked defs links file key
  linked_here defs links i lt many here same =
      ap (λ b. b || linked_from defs links (suc i)) here ∙ sym (linked_next defs links i lt many)
      ∙ same

  pub linked_none : (defs : List LinkDef) (links : List Link) (i : ℕ) → length defs ≤ i
      → linked_from defs links i ≡ is_linked defs links file key
      → false ≡ is_linked defs links file key
  linked_none defs links i past same =
      ap (λ (ds : List LinkDef). is_linked ds (drop i links) file key) (sym (drop_all defs i past))
      ∙ same
    where
      drop_all : (ds : List LinkDef) (i : ℕ) → length ds ≤ i → drop i ds ≡ []
      drop_all [] zero le = refl
      drop_all [] (suc i) le = refl
      drop_all (d ∷ ds) zero le = absurd (omega arith)
      drop_all (d ∷ ds) (suc i) le = drop_all ds i (omega arith)

-- the first end is asked before the second one
pub end_as_member : (d def : LinkDef) (link : Link) (file : ℕ) (key : Value) (x : Bool) → d ≡ def
    → x ≡ true → x ≡ ((d.member == file) && is_some (fin.get link key))
    → true ≡ is_end_of def link file key
end_as_member d def link file key x same is e =
    subst (λ (y : LinkDef). true ≡ is_end_of y link file key) same
    (sym (ap (λ b. b || ((d.owner == file) && has_member link key)) (sym e ∙ is)))

pub end_as_owner : (d def : LinkDef) (link : Link) (file : ℕ) (key : Value) (y : Bool) → d ≡ def
    → ((d.member == file) && is_some (fin.get link key)) ≡ false
    → y ≡ ((d.owner == file) && has_member link key) → y ≡ is_end_of def link file key
end_as_owner d def link file key y same none is =
    subst (λ (z : LinkDef). y ≡ is_end_of z link file key) same
    (is ∙ sym (ap (λ b. b || ((d.owner == file) && has_member link key)) none))
