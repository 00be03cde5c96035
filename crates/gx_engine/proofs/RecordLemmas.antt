-- Records that calls append: which they are, and in how many steps they are found.
use Rattle.std.proofs.Common.{[], ◌≡◌, ℕ, zero, suc, ◌+◌, ◌*◌, ◌≤◌, ◌<◌, List, ◌∷◌, length, cond, Bool, true, false, Option, Some, None, inl, inr, refl, sym, ap, subst, ◌∙◌, arith}
use Rattle.std.specs.Prelude.{T, ◌⊎◌, ◌++◌, Result, Ok, Err, filter, map, is_some, IsTrue, IsErrAnd}
use Rattle.std.specs.List.{AllByRecursion}
use Rattle.std.specs.Ordering.{ordering_then}
use Rattle.std.specs.declared.cmp.Ordering.TheVariants.{Less}
use Rattle.std.specs.FinMap as fin
use Rattle.std.specs.FinMap.Entries.{below_all}
use Rattle.std.proofs.Math.Nat.{mul-le-mul_left}
use Rattle.std.proofs.lemmas.Bool.{true≢false, false_from_ne_true}
use Rattle.std.proofs.lemmas.List.Sorted.{IsPermutation-refl}
use Rattle.gx_laws.proofs.BoolLemmas.{first_of_both, second_of_both}
use Rattle.gx_laws.proofs.ListLemmas.{all_filter}
use Rattle.gx_laws.proofs.OrderingLemmas.{is_less}
use Rattle.gx_values.specs.declared.records.Rec.{Rec}
use Rattle.gx_values.specs.declared.values.Value.{Value}
use Rattle.gx_values.specs.Values.{value_cmp}
use Rattle.gx_values.proofs.OrderLemmas.{same_value}
use Rattle.gx_schema.specs.declared.schema.Schema.{Schema}
use Rattle.gx_schema.specs.Lookups.{link_at}
use Rattle.gx_commands.specs.declared.command.Of.{Of}
use Rattle.gx_commands.specs.declared.command.OrderBy.{OrderBy}
use Rattle.gx_ports.specs.declared.stop.Stop.{Stop}
use Rattle.gx_ports.specs.declared.stop.Stop.TheVariants as stop
use Rattle.gx_ports.specs.declared.view.View.{Ghosts}
use Rattle.gx_ports.specs.LeafMaps.{LeafMap}
use Rattle.gx_ports.specs.Calls.{ReadsMaps}
use Rattle.gx_stack.proofs.PassLemmas.{read_passes, reads_given}
use Rattle.gx_stack.specs.Tree.{Tree, entries_of}
use Rattle.gx_links.specs.Links.{Link, members_of}
use Rattle.gx_links.specs.Linksets.{LinkRule}
use Rattle.gx_types.specs.declared.built.Built.{Built}
use Rattle.gx_types.specs.declared.built.LinkTree.{LinkTree}
use Rattle.gx_types.specs.declared.any.AnyMapping.{AnyMapping}
use Rattle.gx_types.specs.Any.{any_rule}
use Rattle.gx_types.specs.Nodes.{tree_at}
use Rattle.gx_model.specs.States.{File, State, Row, file_in, link_in}
use Rattle.gx_model.specs.Found.{IsListed, Ascends, row_cmp, is_owner}
use Rattle.gx_model.proofs.ListedLemmas.{listed_once}
use Rattle.gx_scan.specs.Files.{rec_of}
use Rattle.gx_scan.specs.Steps.{HaveAtMost}
use Rattle.gx_scan.proofs.CallLemmas.{reads_passed}
use Rattle.gx_pairs.specs.declared.owners.Owned.{Owned}
use Rattle.gx_pairs.specs.declared.owners.Owned.TheVariants as owned
use Rattle.gx_pairs.specs.declared.stored.StoredLink.{StoredLink}
use Rattle.gx_pairs.specs.Members.{is_member_of, member_rows}
use Rattle.gx_pairs.specs.Owners.{IsOwned}
use Rattle.gx_pairs.specs.Owners.{owner_look_ups}
use Rattle.gx_pairs.specs.Stored.{node_tree, AreLinked, OwnersHaveAtMost}
use Rattle.gx_states.specs.Internal.{AreFor, AreInternal, HaveState}
use Rattle.gx_states.specs.Stored.{IsStoredLinkOf}
use Rattle.gx_states.proofs.CountLemmas.{entries_at}
use Rattle.gx_answers.specs.Work.{most_owned, most_with}
use Rattle.gx_answers.proofs.WorkLemmas.{have_most, owned_most}
use Rattle.gx_engine.specs.Records.{AreOwner, most_of_links, most_in, AppendsFrom}

-- ---- rows by ascending key

abbrev pub by_key : OrderBy
by_key = record { field = 0; desc = false }

key_less : (a b : Row) → value_cmp a.0 b.0 ≡ Less → row_cmp by_key a b ≡ Less
key_less a b less = ap (λ order. ordering_then order (value_cmp a.0 b.0)) less

all_below : (x : Row) (rows : List Row) → T (below_all value_cmp x.0 rows)
    → AllByRecursion (λ y. row_cmp by_key x y ≡ Less) rows
all_below x [] h = tt
all_below x (y ∷ rows) h =
    (key_less x y (is_less _ (first_of_both _ _ h)), all_below x rows (second_of_both _ _ h))

sorted_ascend : (rows : List Row) → T (fin.is_sorted value_cmp rows)
    → Ascends (row_cmp by_key) rows
sorted_ascend [] h = tt
sorted_ascend (x ∷ rows) h =
    (all_below x rows (first_of_both _ _ h), sorted_ascend rows (second_of_both _ _ h))

filter_ascends : (test : Row → Bool) (rows : List Row) → Ascends (row_cmp by_key) rows
    → Ascends (row_cmp by_key) (filter test rows)
filter_ascends test [] h = tt
filter_ascends test (x ∷ rows) h =
    elim (test x) as
    (λ b. Ascends (row_cmp by_key) (cond b (x ∷ filter test rows) (filter test rows))) [
      | true ↦ (
        all_filter (λ y. row_cmp by_key x y ≡ Less) test rows h.0,
        filter_ascends test rows h.1,
      )
      | false ↦ filter_ascends test rows h.1
    ]

-- the records that are listed by key are those of the file in its own order
pub listed_by_key : (f : File) (test : Row → Bool) (rows : List Row)
    → IsListed f test by_key rows → rows ≡ filter test (fin.entries f)
listed_by_key f test rows is =
    let these : IsListed f test by_key (filter test (fin.entries f)) = record {
      those = IsPermutation-refl (filter test (fin.entries f));
      in_order = filter_ascends test (fin.entries f)
          (sorted_ascend (fin.entries f) (fin.entries_sorted f));
    } in
    listed_once f test by_key rows (filter test (fin.entries f)) is these

-- ---- the two ends of a link

none_pass : (test : Row → Bool) (rows : List Row) → ((r : Row) → test r ≡ true → ⊥)
    → filter test rows ≡ []
none_pass test [] none = refl
none_pass test (r ∷ rows) none = ap (λ b. cond b (r ∷ filter test rows) (filter test rows))
    (false_from_ne_true (test r) (none r)) ∙ none_pass test rows none

owner_is : (owner : Value) (o : Option Value) → is_owner owner o ≡ true → o ≡ Some owner
owner_is owner None e = absurd (true≢false (sym e))
owner_is owner (Some found) e = ap Some (same_value found owner e)

-- an owner without a record has no members
pub no_members : (owners members : File) (link : Link) (owner : Value)
    → ((m o : Value) → fin.get link m ≡ Some o
    → IsTrue (is_some (fin.get members m)) × IsTrue (is_some (fin.get owners o)))
    → is_some (fin.get owners owner) ≡ false → [] ≡ member_rows members link owner
no_members owners members link owner there none =
    sym (none_pass (is_member_of link owner) (fin.entries members) (λ r is.
    true≢false (sym (there r.0 owner (owner_is owner (fin.get link r.0) is)).1 ∙ none)))

-- the look-ups of an owner are two, and at most two more where it is one record
pub owner_looks_few : (f : File) (o : Option Value) (rows : List Row) → AreOwner f o rows
    → owner_look_ups o ≤ 2 * (length rows + 1)
owner_looks_few f None rows is = omega (arith, ap (λ (rs : List Row). length rs) is)
owner_looks_few f (Some owner) rows is = omega (arith, ap (λ (rs : List Row). length rs) is.2)

-- ---- the greatest number of entries

owned_within : (xs : List LinkTree) (links : List Link) (i : ℕ)
    → most_owned xs links i ≤ most_of_links xs links
owned_within [] links i = omega arith
owned_within (x ∷ xs) [] i = omega arith
owned_within (x ∷ xs) (link ∷ links) zero = omega arith
owned_within (x ∷ xs) (link ∷ links) (suc i) = omega (arith, owned_within xs links i)

pub most_within : (built : Built) (s : State) (of : Option Of)
    → most_with built s of ≤ most_in built s
most_within built s None = omega arith
most_within built s (Some of) = omega (arith, owned_within built.links s.links of.link)

-- no record of the link's files and no owner of the link has more entries
module _ {L : Type 0} (rule : L → LinkRule) (held : L → Link → List LeafMap → Type 0)
    (valid : L → Type 0) (schema : Schema) (built : Built) (leaves i : ℕ) (x : StoredLink L)
    (s : State) (maps : List LeafMap) (for : AreFor schema built leaves)
    (lt : i < length schema.links) (is : IsStoredLinkOf rule held valid schema built i x)
    (are : AreInternal schema built maps s) where
  record_most : (file : ℕ) (t : Tree AnyMapping) → file < length schema.files
      → t ≡ tree_at built.files file → HaveAtMost (most_in built s) t (file_in s file)
  record_most file t there tree = λ r h.
      let few : length (entries_of any_rule t (rec_of r)) ≤ most_with built s None =
      have_most schema built leaves s file t None for.nodes are.valid.files_many there tree r h in
      omega (arith, few, most_within built s None)

  pub owner_most : HaveAtMost (most_in built s) (node_tree x.owners)
      (file_in s (link_at schema i).owner)
  owner_most = record_most (link_at schema i).owner (node_tree x.owners)
      (for.storable.links i lt).owner is.owner_tree

  pub member_most : HaveAtMost (most_in built s) (node_tree x.members)
      (file_in s (link_at schema i).member)
  member_most = record_most (link_at schema i).member (node_tree x.members)
      (for.storable.links i lt).member is.member_tree

  pub owners_most : OwnersHaveAtMost (most_in built s) (rule x.linkset) (link_in s i)
  owners_most = λ o.
      let one : entries_at built.links i (link_in s i) o ≤ most_owned built.links s.links i =
      owned_most built.links s.links i o (omega (arith, for.link_nodes.many))
      (omega (arith, are.valid.links_many)) in
      subst (λ r. length (r.entries o (members_of (link_in s i) o)) ≤ most_in built s)
      (sym is.rule_is) (omega (arith, one, owned_within built.links s.links i))

pub looks_within : (looks few most leaves before after : ℕ) → few ≤ most
    → after ≤ before + looks * (few + leaves) → after ≤ before + looks * (most + leaves)
looks_within looks few most leaves before after le steps =
    let wide : few + leaves ≤ most + leaves = omega (arith, le) in
    let more : looks * (few + leaves) ≤ looks * (most + leaves) = mul-le-mul_left looks wide in
    omega (arith, steps, more)

-- ---- how a call ends

module _ {S : Type 0} (g : Ghosts S) (schema : Schema) (built : Built) (old new : S)
    (out : List Rec) (Are : State → List Row → Type 0) (counted : Bool) (looks : State → ℕ) where
  abbrev Sound : Type 0
  Sound = g.whole old × HaveState schema built (g.working old)

  -- a stop that is given on
  pub appends_stopped : {T : Type 0} {known : Type 0} {why : Stop} (now : List Rec)
      (result : Result (Unit {0}) Stop) → IsErrAnd result (λ s. s ≡ why) → now ≡ out
      → (Sound → known) → ReadsMaps {T = T} g known old new (Err why)
      → AppendsFrom g schema built old new out now result Are counted looks
  appends_stopped now (Ok x) err same more read = absurd err
  appends_stopped now (Err s) err same more read = record {
    found = λ s whole are. tt;
    steps = λ yes s whole are. tt;
    unsaid = same;
    reads = reads_given g (Err s) err more read;
  }

  pub appends_ok : {known : Type 0} {T : Type 0} {x : T} (now : List Rec)
      → ReadsMaps {T = T} g known old new (Ok x)
      → ((s : State) → g.whole old → AreInternal schema built (g.working old) s
      → (rows : List Row) × Are s rows × (now ≡ out ++ map rec_of rows))
      → (counted ≡ true → (s : State) → g.whole old → AreInternal schema built (g.working old) s
      → g.work new ≤ g.work old + looks s * (most_in built s + length (g.working old)))
      → AppendsFrom g schema built old new out now (Ok tt) Are counted looks
  appends_ok now read found steps = record {
    found = found;
    steps = steps;
    unsaid = tt;
    reads = reads_passed g tt (read_passes g read);
  }

-- ---- the owner of a member

module _ {L : Type 0} (rule : L → LinkRule) (held : L → Link → List LeafMap → Type 0)
    (x : StoredLink L) (maps : List LeafMap) (owners members : File) (link : Link)
    (member : Value) where
  -- a member that isn't there has none
  pub no_owner : (found : Owned) → AreLinked rule held x maps owners members link
      → (found ≡ owned.NoMember) ⊎ (found ≡ owned.Free)
      → IsOwned owners members link member found → AreOwner owners (fin.get link member) []
  no_owner found linked which is = subst (λ (o : Option Value). AreOwner owners o [])
      (sym (none which)) refl
    where
      missing : (o : Option Value) → fin.get link member ≡ o → fin.get members member ≡ None
          → fin.get link member ≡ None
      missing None e gone = e
      missing (Some o) e gone =
          absurd (true≢false (sym (linked.there member o e).0 ∙ ap is_some gone))

      none : (found ≡ owned.NoMember) ⊎ (found ≡ owned.Free) → fin.get link member ≡ None
      none (inl e) = missing (fin.get link member) refl
          (subst (λ (o : Owned). IsOwned owners members link member o) e is)
      none (inr e) = (subst (λ (o : Owned). IsOwned owners members link member o) e is).1

  pub one_owner : (found : Owned) (r : Rec) (out now : List Rec) → found ≡ owned.By r
      → now ≡ out ++ r ∷ [] → IsOwned owners members link member found
      → (rows : List Row) × AreOwner owners (fin.get link member) rows
      × (now ≡ out ++ map rec_of rows)
  one_owner found r out now e appended is =
      let by = subst (λ (o : Owned). IsOwned owners members link member o) e is in (
        (by.1, by.2) ∷ [],
        subst (λ (o : Option Value). AreOwner owners o ((by.1, by.2) ∷ [])) (sym by.3)
            (by.2, by.4, refl),
        appended ∙ ap (λ (made : Rec). out ++ made ∷ []) by.5,
      )
