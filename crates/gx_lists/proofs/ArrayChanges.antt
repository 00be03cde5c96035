-- What the changes of a pointer array make of the link, in the words of its calls.
use Rattle.std.proofs.Common.{◌≡◌, ◌<◌, ◌≤◌, ◌+◌, ℕ, List, [], ◌∷◌, ◌++◌, inl, inr, length, get_or, Option, Some, None, refl, sym, ap, subst, ◌∙◌, arith}
use Rattle.std.specs.FinMap as fin
use Rattle.gx_values.specs.declared.values.Kind.{Kind}
use Rattle.gx_values.specs.declared.values.Kind.TheVariants as kind
use Rattle.gx_values.specs.declared.values.Value.{Value}
use Rattle.gx_values.specs.declared.records.Rec.{Rec}
use Rattle.gx_values.specs.Values.{Fits, no_value}
use Rattle.gx_values.specs.Keys.{bytes_of}
use Rattle.gx_values.specs.Spans.{IsSpanKind}
use Rattle.gx_values.proofs.KeyLemmas.{fit_bytes}
use Rattle.gx_ports.specs.LeafMaps.{LeafMap, Limits, IsCrowdedBy}
use Rattle.gx_mapping.specs.Rule.{Rule, In, IsOf}
use Rattle.gx_stack.specs.Tree.{Tree, tree_form, leaf_body, entries_of}
use Rattle.gx_stack.specs.Internal.{IsInternal, IsChange, changed}
use Rattle.gx_links.specs.Links.{Link, members_of, most_members, with_member, without_member}
use Rattle.gx_links.specs.Rows.{node_rows, owner_entries, IsHeldLink, owner_kind}
use Rattle.gx_links.proofs.JoinLemmas.{crowded_more}
use Rattle.gx_links.proofs.MemberLemmas.{in_members, from_members, new_here, members_with, members_gone, others_stay, from_with, from_without, with_length}
use Rattle.gx_lists.specs.Arrays.{array_rec, array_rows, one_node, IsArray, AreOfKind, AreCut, HasMembers}
use Rattle.gx_lists.proofs.ArrayLemmas.{of_form, none_there, one_there, first_held, more_held, last_held, others_gone, rec_crowded}

-- ---- values

pub bytes_small : (k : Kind) (m : Value) → IsSpanKind k → Fits k m → length (bytes_of m) ≤ 400
bytes_small kind.Int m key fit = omega (arith, fit_bytes kind.Int m fit)
bytes_small (kind.Text most) m key fit = omega (arith, fit_bytes (kind.Text most) m fit, key)
bytes_small (kind.Bytes most) m key fit = absurd key

pub with_fits : (k : Kind) (m : Value) (ms : List Value) → Fits k m → AreOfKind k ms
    → AreOfKind k (with_member m ms)
with_fits k m ms fit fits x h =
    elim (from_with m ms x h) [ inl e ↦ subst (Fits k) (sym e) fit | inr i ↦ fits x i ]

pub without_fits : (k : Kind) (m : Value) (ms : List Value) → AreOfKind k ms
    → AreOfKind k (without_member m ms)
without_fits k m ms fits x h = fits x (from_without m ms x h).0

pub none_left : (ms : List Value) → length ms ≡ 0 → ms ≡ []
none_left [] e = refl
none_left (m ∷ ms) e = absurd (omega arith)

module _ {M : Type 0} (rule : M → Rule) (tree : Tree M) (member : Kind)
    (valid : IsArray rule tree member) where
  abbrev held : Link → List LeafMap → Type 0
  held = IsHeldLink rule (one_node tree) array_rows

  abbrev rows : Link → List Rec
  rows link = node_rows array_rows link 0

  pub new_fits : (o m : Value) (ms ws : List Value) (r : Rec) → Fits (owner_kind rule tree) o
      → Fits member m → AreOfKind member ms
      → length ms < most_members → ws ≡ with_member m ms → r ≡ array_rec o ws
      → IsOf (tree_form rule tree) r
  new_fits o m ms ws r fit_o fit_m fits few is gives =
      subst (IsOf (tree_form rule tree)) (sym (gives ∙ ap (array_rec o) is))
      (of_form rule tree member valid o (with_member m ms) fit_o (with_fits member m ms fit_m fits)
      (omega (arith, with_length m ms, few)))

  pub old_fits : (o : Value) (ms : List Value) (r : Rec) → Fits (owner_kind rule tree) o
      → AreOfKind member ms → length ms ≤ most_members
      → r ≡ array_rec o ms → IsOf (tree_form rule tree) r
  old_fits o ms r fit_o fits few gives =
      subst (IsOf (tree_form rule tree)) (sym gives)
      (of_form rule tree member valid o ms fit_o fits few)

  -- ---- a member comes

  module _ (link : Link) (o m : Value) (free : fin.get link m ≡ None) (ms ws : List Value)
      (those : ms ≡ members_of link o)
      (with : ws ≡ with_member m ms) where
    now_are : ws ≡ members_of (fin.insert link m o) o
    now_are = with ∙ ap (with_member m) those ∙ sym (members_with link o m free)

    pub first_change : (new : Rec) → new ≡ array_rec o ws → ms ≡ []
        → IsChange (rows link) None (Some new)
    first_change new is none = subst (λ r. IsChange (rows link) None (Some r)) (sym is)
        (none_there rule tree member valid link o ws (sym those ∙ none))

    pub first_connected : (new : Rec) (maps : List LeafMap) → new ≡ array_rec o ws → ms ≡ []
        → IsInternal rule tree (changed (rows link) None (Some new)) maps
        → held (fin.insert link m o) maps
    first_connected new maps is none internal =
        first_held rule tree member valid link (fin.insert link m o) o
        (others_stay link o m free) maps (sym those ∙ none) m (new_here link o m)
        (subst (λ r. IsInternal rule tree (changed (rows link) None (Some r)) maps)
        (is ∙ ap (array_rec o) now_are) internal)

    pub more_change : (old new : Rec) → old ≡ array_rec o ms → new ≡ array_rec o ws → 0 < length ms
        → IsChange (rows link) (Some old) (Some new)
    more_change old new was is some = (
      subst (λ r. In r (rows link)) (sym (was ∙ ap (array_rec o) those))
          (one_there rule tree member valid link o (subst (λ zs. 0 < length zs) those some)),
      ap (λ (r : Rec). r.key) was ∙ sym (ap (λ (r : Rec). r.key) is),
    )

    pub more_connected : (old new : Rec) (maps : List LeafMap) → old ≡ array_rec o ms
        → new ≡ array_rec o ws
        → IsInternal rule tree (changed (rows link) (Some old) (Some new)) maps
        → held (fin.insert link m o) maps
    more_connected old new maps was is internal =
        more_held rule tree member valid link (fin.insert link m o) o
        (others_stay link o m free) maps m (new_here link o m)
        (subst (λ r. IsInternal rule tree
        (changed (rows link) (Some r) (Some (array_rec o (members_of (fin.insert link m o) o))))
        maps)
        (was ∙ ap (array_rec o) those)
        (subst (λ r. IsInternal rule tree (changed (rows link) (Some old) (Some r)) maps)
        (is ∙ ap (array_rec o) now_are) internal))

    pub connect_crowded : (limit : Option Limits) (before : ℕ) (new : Rec) → new ≡ array_rec o ws
        → IsCrowdedBy limit (before + length (entries_of rule tree new))
        → IsCrowdedBy limit (before + length
        (owner_entries rule (one_node tree) array_rows o (members_of (fin.insert link m o) o)))
    connect_crowded limit before new is crowded =
        rec_crowded rule tree member valid limit before o (members_of (fin.insert link m o) o)
        new (is ∙ ap (array_rec o) now_are)
        (subst (λ zs. 0 < length zs) now_are
        (subst (λ zs. 0 < length zs) (sym with) (omega (arith, with_length m ms)))) crowded

  -- ---- a member goes

  module _ (link : Link) (o m : Value) (owned : fin.get link m ≡ Some o) (ms ws : List Value)
      (those : ms ≡ members_of link o)
      (without : ws ≡ without_member m ms) where
    left_are : ws ≡ members_of (fin.remove link m) o
    left_are = without ∙ ap (without_member m) those ∙ sym (members_gone link m o)

    has_some : 0 < length (members_of link o)
    has_some = go (members_of link o) (in_members link o m owned)
      where
        go : (zs : List Value) → In m zs → 0 < length zs
        go [] h = absurd h
        go (z ∷ zs) h = omega arith

    pub old_there : (old : Rec) → old ≡ array_rec o ms → In old (rows link)
    old_there old was = subst (λ r. In r (rows link)) (sym (was ∙ ap (array_rec o) those))
        (one_there rule tree member valid link o has_some)

    pub less_change : (old new : Rec) → old ≡ array_rec o ms → new ≡ array_rec o ws
        → IsChange (rows link) (Some old) (Some new)
    less_change old new was is =
        (old_there old was, ap (λ (r : Rec). r.key) was ∙ sym (ap (λ (r : Rec). r.key) is))

    pub last_disconnected : (old : Rec) (maps : List LeafMap) → old ≡ array_rec o ms → ws ≡ []
        → IsInternal rule tree (changed (rows link) (Some old) None) maps
        → held (fin.remove link m) maps
    last_disconnected old maps was none internal =
        last_held rule tree member valid link (fin.remove link m) o
        (others_gone rule tree member valid link o m owned) maps (sym left_are ∙ none)
        (subst (λ r. IsInternal rule tree (changed (rows link) (Some r) None) maps)
        (was ∙ ap (array_rec o) those) internal)

    pub less_disconnected : (old new : Rec) (maps : List LeafMap) → old ≡ array_rec o ms
        → new ≡ array_rec o ws → 0 < length ws
        → IsInternal rule tree (changed (rows link) (Some old) (Some new)) maps
        → held (fin.remove link m) maps
    less_disconnected old new maps was is some internal = go (members_of (fin.remove link m) o) refl
        (subst (λ zs. 0 < length zs) left_are some)
      where
        go : (zs : List Value) → members_of (fin.remove link m) o ≡ zs → 0 < length zs
            → held (fin.remove link m) maps
        go [] e many = absurd (omega arith)
        go (z ∷ zs) e many = more_held rule tree member valid link (fin.remove link m) o
            (others_gone rule tree member valid link o m owned) maps z
            (from_members (fin.remove link m) o z (subst (In z) (sym e) (inl refl)))
            (subst (λ r. IsInternal rule tree
            (changed (rows link) (Some r)
            (Some (array_rec o (members_of (fin.remove link m) o)))) maps)
            (was ∙ ap (array_rec o) those)
            (subst (λ r. IsInternal rule tree (changed (rows link) (Some old) (Some r)) maps)
            (is ∙ ap (array_rec o) left_are) internal))

    pub less_crowded : (limit : Option Limits) (before : ℕ) (new : Rec) → new ≡ array_rec o ws
        → 0 < length ws
        → IsCrowdedBy limit (before + length (entries_of rule tree new))
        → IsCrowdedBy limit (before + length
        (owner_entries rule (one_node tree) array_rows o (members_of (fin.remove link m) o)))
    less_crowded limit before new is some crowded =
        rec_crowded rule tree member valid limit before o (members_of (fin.remove link m) o)
        new (is ∙ ap (array_rec o) left_are) (subst (λ zs. 0 < length zs) left_are some) crowded

    pub last_crowded : (limit : Option Limits) (before : ℕ) → IsCrowdedBy limit (before + 0)
        → IsCrowdedBy limit (before + length
        (owner_entries rule (one_node tree) array_rows o (members_of (fin.remove link m) o)))
    last_crowded limit before crowded = crowded_more limit (before + 0)
        (before + length (owner_entries rule (one_node tree) array_rows o
        (members_of (fin.remove link m) o))) (omega arith) crowded

-- ---- what is read of a record

pub has_of : (k : Kind) (r : Rec) (body : List ℕ) (before now : List Value)
    → body ≡ leaf_body r.fields → before ≡ []
    → AreCut k body before now → (has : HasMembers k r) × (now ≡ has.members)
has_of k r body before now is none cut = (
  record { members = cut.found; fit = cut.fit; joined = cut.joined ∙ is },
  cut.appended
      ∙ ap (λ l. l ++ cut.found) none,
)

pub first_value : (key : List Value) (x : Value) → 0 < length key → x ≡ get_or key 0 x
    → get_or key 0 no_value ≡ x
first_value [] x some read = absurd (omega arith)
first_value (v ∷ key) x some read = sym read
