-- What leaves hold of a stored link.
use Rattle.std.proofs.Common.{◌≡◌, ◌<◌, ◌∙◌, ℕ, suc, Bool, true, false, List, [], ◌∷◌, length, Option, Some, None, sym, ap, subst, arith}
use Rattle.std.specs.Prelude.{not, ◌&&◌, nat_le, is_some, if◌then◌else◌}
use Rattle.std.specs.Option.{option_map}
use Rattle.std.specs.FinMap as fin
use Rattle.std.proofs.Math.Nat.{lt_of_not-le}
use Rattle.std.proofs.lemmas.Bool.{true≢false}
use Rattle.std.proofs.lemmas.Bool.Decides.{nat_tests}
use Rattle.std.proofs.lemmas.List.{length-map}
use Rattle.gx_laws.proofs.ResultLemmas.{none_of}
use Rattle.gx_values.specs.declared.values.Value.{Value}
use Rattle.gx_ports.specs.LeafMaps.{LeafMap}
use Rattle.gx_gather.proofs.Lists.{none_some}
use Rattle.gx_model.specs.States.{File, pairs_of, most_members}
use Rattle.gx_model.specs.Commands.{Refusal, no_record, has_owner, too_many_members, first_refusal}
use Rattle.gx_scan.specs.Files.{HasFile}
use Rattle.gx_links.specs.Links.{Link, members_of}
use Rattle.gx_links.specs.Linksets.{LinkRule, HasLink, HasRoom, CanConnect}
use Rattle.gx_links.proofs.JoinLemmas.{connect_still}
use Rattle.gx_pairs.specs.declared.stored.StoredLink.{StoredLink}
use Rattle.gx_pairs.specs.Stored.{file_of, node_tree, AreLinked, HaveLink}
use Rattle.gx_pairs.specs.Changes.{connect_refusal}

module _ {L : Type 0} (rule : L → LinkRule) (held : L → Link → List LeafMap → Type 0)
    (s : StoredLink L) (maps : List LeafMap) where
  pub owners_there : HaveLink rule held s maps
      → HasFile (file_of s.owners) (node_tree s.owners) maps
  owners_there h = (h.0, h.3.owners)

  pub members_there : HaveLink rule held s maps
      → HasFile (file_of s.members) (node_tree s.members) maps
  members_there h = (h.1, h.3.members)

  pub link_there : HaveLink rule held s maps → HasLink (rule s.linkset) (held s.linkset) maps
  link_there h = (h.2, h.3.is_link, h.3.link)

module _ {L : Type 0} (rule : L → LinkRule) (held : L → Link → List LeafMap → Type 0)
    (s : StoredLink L) (old new : List LeafMap) where
  pub linked_still : (owners members : File) (link : Link) → new ≡ old
      → AreLinked rule held s old owners members link
      → AreLinked rule held s new owners members link
  linked_still owners members link same are =
      subst (λ (maps : List LeafMap). AreLinked rule held s maps owners members link) (sym same) are

  pub have_still : new ≡ old → HaveLink rule held s old → HaveLink rule held s new
  have_still same h = (h.0, h.1, h.2, linked_still h.0 h.1 h.2 same h.3)

-- a look-up gives what is there
pub looked_up : {A B : Type 0} (f : A → B) (o : Option A) (found : Option B)
    → found ≡ option_map f o → found ≡ None → is_some o ≡ true → ⊥
looked_up f None found is none there = true≢false (sym there)
looked_up f (Some x) found is none there = none_some (f x) (sym none ∙ is)

-- the members and the pairs of an owner are as many
pub as_many : (link : Link) (owner : Value)
    → length (members_of link owner) ≡ length (pairs_of link owner)
as_many link owner = length-map (pairs_of link owner) (λ pair. pair.0)

-- ---- why a pair isn't connected

-- a member without an owner can be connected, where the owner has room
pub record MayJoin {L : Type 0} (rule : L → LinkRule) (held : L → Link → List LeafMap → Type 0)
    (s : StoredLink L) (maps : List LeafMap) (owners members : File) (link : Link)
    (owner member : Value) : Type 0 where
  pub can : CanConnect (rule s.linkset) (held s.linkset) maps link member
  pub room : HasRoom link owner → connect_refusal owners members link owner member ≡ None
  pub no_room : ¬ HasRoom link owner → connect_refusal owners members link owner member ≡ Some
      too_many_members

below_most : (n : ℕ) → n < most_members → nat_le most_members n ≡ false
below_most n few = grind (arith, nat_tests)

not_below_most : (n : ℕ) → ¬ (n < most_members) → nat_le most_members n ≡ true
not_below_most n many =
    let past : most_members < suc n = lt_of_not-le {n = suc n} {m = most_members} many in
    grind (arith, nat_tests)

module _ (owners members : File) (link : Link) (owner member : Value) where
  -- one of the two is no record
  pub not_both : (both : Bool)
      → both ≡ is_some (fin.get owners owner) && is_some (fin.get members member) → both ≡ false
      → Some no_record ≡ connect_refusal owners members link owner member
  not_both both both_are none =
      let records : is_some (fin.get owners owner) && is_some (fin.get members member) ≡ false =
      sym both_are ∙ none in
      let refused : connect_refusal owners members link owner member ≡ Some no_record =
      λ i. first_refusal ((not (records i), no_record)
      ∷ (is_some (fin.get link member), has_owner)
      ∷ (nat_le most_members (length (pairs_of link owner)), too_many_members) ∷ []) in
      sym refused

  -- both are records, and the member has an owner
  pub not_free : (both has : Bool)
      → both ≡ is_some (fin.get owners owner) && is_some (fin.get members member) → both ≡ true
      → has ≡ is_some (fin.get link member) → has ≡ true
      → Some has_owner ≡ connect_refusal owners members link owner member
  not_free both has both_are are has_is owned =
      let records : is_some (fin.get owners owner) && is_some (fin.get members member) ≡ true =
      sym both_are ∙ are in
      let found : is_some (fin.get link member) ≡ true = sym has_is ∙ owned in
      let refused : connect_refusal owners members link owner member ≡ Some has_owner =
      λ i. first_refusal ((not (records i), no_record) ∷ (found i, has_owner)
      ∷ (nat_le most_members (length (pairs_of link owner)), too_many_members) ∷ []) in
      sym refused

  abbrev for_room : Bool → Option Refusal
  for_room full = if full then Some too_many_members else None

  -- both are records, and the member has no owner
  module _ (both has : Bool) (both_are : both ≡ is_some (fin.get owners owner) && is_some
      (fin.get members member)) (yes : both ≡ true) (has_is : has ≡ is_some (fin.get link member))
      (no : has ≡ false) where
    for_room_alone : connect_refusal owners members link owner member ≡ for_room
        (nat_le most_members (length (pairs_of link owner)))
    for_room_alone =
        let records : is_some (fin.get owners owner) && is_some (fin.get members member) ≡ true =
        sym both_are ∙ yes in
        let owned : is_some (fin.get link member) ≡ false = sym has_is ∙ no in
        λ i. first_refusal ((not (records i), no_record) ∷ (owned i, has_owner)
        ∷ (nat_le most_members (length (pairs_of link owner)), too_many_members) ∷ [])

    is_free : fin.get link member ≡ None
    is_free = none_of (fin.get link member) (sym has_is ∙ no)

    may_connect : HasRoom link owner → connect_refusal owners members link owner member ≡ None
    may_connect room = for_room_alone
        ∙ ap for_room (ap (nat_le most_members) (sym (as_many link owner))
        ∙ below_most (length (members_of link owner)) room)

    has_no_room : ¬ HasRoom link owner → connect_refusal owners members link owner member ≡ Some
        too_many_members
    has_no_room full = for_room_alone
        ∙ ap for_room (ap (nat_le most_members) (sym (as_many link owner))
        ∙ not_below_most (length (members_of link owner)) full)

    pub may_join : {L : Type 0} (rule : L → LinkRule) (held : L → Link → List LeafMap → Type 0)
        (s : StoredLink L) (old new : List LeafMap) → new ≡ old
        → AreLinked rule held s old owners members link
        → MayJoin rule held s new owners members link owner member
    may_join rule held s old new same are = record {
      can = connect_still (rule s.linkset) (held s.linkset) old new link member same
          (record { is_link = are.is_link; is_held = are.link; free = is_free });
      room = may_connect;
      no_room = has_no_room;
    }
