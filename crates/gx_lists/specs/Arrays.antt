-- Pointer arrays: a record of each owner that has a member, with the key bytes of its members
-- joined.
use Rattle.std.specs.Prelude.{◌≡◌, ◌≢◌, ℕ, suc, ◌*◌, ◌≤◌, ◌<◌, false, List, [], ◌∷◌, ◌++◌, length, Option, Some, None, get_or, if◌then◌else◌}
use Rattle.std.specs.List.Sorted.{IsStrictlySortedBy}
use Rattle.std.specs.Ordering.{is_lt}
use Rattle.gx_values.specs.declared.values.Kind.{Kind}
use Rattle.gx_values.specs.declared.values.Kind.TheVariants as kind
use Rattle.gx_values.specs.declared.values.Value.{Value}
use Rattle.gx_values.specs.declared.values.Value.TheVariants as value
use Rattle.gx_values.specs.declared.records.Rec.{Rec}
use Rattle.gx_values.specs.Values.{value_cmp, Fits, no_value}
use Rattle.gx_values.specs.Keys.{bytes_of, key_of, width_of}
use Rattle.gx_values.specs.Spans.{IsSpanKind}
use Rattle.gx_mapping.specs.declared.parts.Part.{Part}
use Rattle.gx_mapping.specs.Rule.{Rule, In}
use Rattle.gx_gather.specs.Gather.{part_for}
use Rattle.gx_stack.specs.Tree.{Tree, Kids, no_kids, kid, tree_form, leaf_body, AreValid}
use Rattle.gx_links.specs.Kinds.{kinds_of}
use Rattle.gx_links.specs.declared.pairs.Owned.{Owned}
use Rattle.gx_links.specs.Links.{most_members}
use Rattle.gx_links.specs.Linksets.{LinkRule}
use Rattle.gx_links.specs.Rows.{link_rule, owner_kind}

-- the record of an owner with these members
abbrev pub array_rec : Value → List Value → Rec
array_rec owner members = record { key = owner ∷ []; fields = value.Bytes (key_of members) ∷ [] }

abbrev pub array_rows : Value → List Value → List Part
array_rows owner [] = []
array_rows owner (m ∷ ms) = part_for 0 (array_rec owner (m ∷ ms)) ∷ []

-- ---- the node

abbrev pub one_node : {M : Type 0} → Tree M → Kids M
one_node tree = kid tree no_kids

-- the node has the form of a pointer array and is valid
pub record IsArray {M : Type 0} (rule : M → Rule) (tree : Tree M) (member : Kind) : Type 0 where
  pub owner : IsSpanKind (owner_kind rule tree)
  pub member_kind : IsSpanKind member
  pub most : ℕ
  pub keys : kinds_of (tree_form rule tree).keys ≡ owner_kind rule tree ∷ []
  pub fields : kinds_of (tree_form rule tree).fields ≡ kind.Bytes most ∷ []
  pub room : most_members * width_of member ≤ most
  pub nodes : AreValid rule (λ c. tree_form rule tree) (one_node tree)

abbrev pub array_rule : {M : Type 0} (rule : M → Rule) → Tree M → Kind → LinkRule
array_rule rule tree member =
    link_rule rule (one_node tree) array_rows (owner_kind rule tree) member (λ _. 1) false

-- ---- joined members

abbrev pub AreOfKind : Kind → List Value → Type 0
AreOfKind kind ms = (m : Value) → In m ms → Fits kind m

-- the bytes of the first record's one field
abbrev pub first_body : List Rec → List ℕ
first_body [] = []
first_body (r ∷ rs) = leaf_body r.fields

-- as many bytes as a value at the front has, if there is one
abbrev pub IsFrontWidth : Kind → List ℕ → Option ℕ → Type 0
IsFrontWidth kind bytes None = (v : Value) (rest : List ℕ) → Fits kind v
    → bytes ≢ bytes_of v ++ rest
IsFrontWidth kind bytes (Some width) =
    (0 < width) × (width ≤ length bytes)
    × ((v : Value) (rest : List ℕ) → Fits kind v → bytes ≡ bytes_of v ++ rest
    → length (bytes_of v) ≡ width)

-- the members with these bytes were appended
pub record AreCut (kind : Kind) (bytes : List ℕ) (before now : List Value) : Type 0 where
  pub found : List Value
  pub appended : now ≡ before ++ found
  pub fit : AreOfKind kind found
  pub joined : key_of found ≡ bytes

-- the bytes are those of no members
abbrev pub AreOfNone : Kind → List ℕ → Type 0
AreOfNone kind bytes = (ms : List Value) → AreOfKind kind ms → key_of ms ≢ bytes

-- ---- changed members

-- how many of the members come before this one
abbrev pub place_in : Value → List Value → ℕ
place_in m [] = 0
place_in m (x ∷ xs) = if is_lt (value_cmp m x) then 0 else suc (place_in m xs)

-- ---- where an owner is looked for

-- a record with these members
pub record HasMembers (kind : Kind) (r : Rec) : Type 0 where
  pub members : List Value
  pub fit : AreOfKind kind members
  pub joined : key_of members ≡ leaf_body r.fields

-- a member is among those of a record, or isn't
abbrev pub WithMember : Kind → Rec → Value → Type 0
WithMember kind r member = (has : HasMembers kind r) × In member has.members

abbrev pub WithoutMember : Kind → Rec → Value → Type 0
WithoutMember kind r member = (has : HasMembers kind r) × (In member has.members → ⊥)

-- the owner of one of the records, whose members this one is among; or it is among those of none
abbrev pub IsOwnerAmong : Kind → Value → List Rec → Option Value → Type 0
IsOwnerAmong kind member found (Some owner) =
    (r : Rec) × In r found × (get_or r.key 0 no_value ≡ owner) × WithMember kind r member
IsOwnerAmong kind member found None = (r : Rec) → In r found → WithoutMember kind r member

-- ---- owners cut out of records

-- members that one owner can have, in the order in which its record has them
pub record AreOfOneOwner (ms : List Value) : Type 0 where
  pub some : 0 < length ms
  pub few : length ms ≤ most_members
  pub in_order : IsStrictlySortedBy value_cmp ms

-- the owner with its members that a record has
pub record IsCutOf (kind : Kind) (r : Rec) (g : Owned) : Type 0 where
  pub owner : g.owner ≡ get_or r.key 0 no_value
  pub fit : AreOfKind kind g.members
  pub joined : key_of g.members ≡ leaf_body r.fields
  pub members : AreOfOneOwner g.members

-- the record is that of no owner
abbrev pub IsOfNoOwner : Kind → Rec → Type 0
IsOfNoOwner kind r = (ms : List Value) → AreOfKind kind ms → AreOfOneOwner ms
    → key_of ms ≢ leaf_body r.fields

abbrev pub IsCutOwner : Kind → Rec → Option Owned → Type 0
IsCutOwner kind r None = IsOfNoOwner kind r
IsCutOwner kind r (Some g) = IsCutOf kind r g

-- those of each record
abbrev pub AreCutOf : Kind → List Rec → List Owned → Type 0
AreCutOf kind [] [] = Unit {0}
AreCutOf kind (r ∷ rs) (g ∷ gs) = IsCutOf kind r g × AreCutOf kind rs gs
AreCutOf kind _ _ = ⊥

-- those of each record, or some record is that of no owner
abbrev pub AreCutOwners : Kind → List Rec → Option (List Owned) → Type 0
AreCutOwners kind found None = (r : Rec) × In r found × IsOfNoOwner kind r
AreCutOwners kind found (Some gs) = AreCutOf kind found gs
