-- How many entries the internal form of a state has: as many as nodes that the definitions mean
-- count for it, and no leaves have more that stand for it.
use Rattle.std.proofs.Common.{◌≡◌, ℕ, zero, suc, ◌+◌, ◌-◌, ◌≤◌, ◌<◌, Bool, true, false, cond, Option, Some, None, List, [], ◌∷◌, ◌++◌, length, map, get_or, refl, sym, ap, subst, ◌∙◌, arith, inl, inr, length-append}
use Rattle.std.specs.Prelude.{nat_eq}
use Rattle.std.proofs.lemmas.Bool.{cases_Bool, true≢false, eqb-true, eq-eqb, ne_eqb}
use Rattle.std.proofs.lemmas.List.{length-map}
use Rattle.std.proofs.lemmas.List.Sums.{sum_by-cons, sum_by-append}
use Rattle.std.proofs.lemmas.Option.{none-some}
use Rattle.std.specs.FinMap as fin
use Rattle.std.specs.FinMap.{nat_cmp-IsAntisymmetric, slice_cmp-IsAntisymmetric}
use Rattle.std.specs.Cmp.Lexicographic.{nat_list_cmp_total, slice_cmp}
use Rattle.std.specs.List.{sum_by, flat_map}
use Rattle.std.specs.Ordering.{eq_by_cmp, nat_cmp}
use Rattle.gx_values.specs.Keys.{key_of}
use Rattle.gx_values.specs.declared.records.Form.{Form}
use Rattle.gx_values.specs.declared.records.Rec.{Rec}
use Rattle.gx_values.specs.declared.values.Kind.{Kind}
use Rattle.gx_values.specs.declared.values.Value.{Value}
use Rattle.gx_schema.specs.declared.schema.FileDef.{FileDef}
use Rattle.gx_schema.specs.declared.schema.LinkDef.{LinkDef}
use Rattle.gx_schema.specs.declared.schema.Schema.{Schema}
use Rattle.gx_ports.specs.LeafMaps.{LeafMap, map_at, entry_count}
use Rattle.gx_ports.proofs.KeyLemmas.{tied}
use Rattle.gx_equation.specs.Trees.{TermTree, Trees, node, none, kid, kids_from, SideTree, file_side, link_side, DefinitionTree}
use Rattle.gx_forms.specs.Forms.{kid_form, link_form}
use Rattle.gx_typing.specs.Dues.{file_form, owner_kind, member_kind}
use Rattle.gx_mapping.specs.declared.parts.Part.{Part}
use Rattle.gx_mapping.specs.Rule.{In}
use Rattle.gx_gather.proofs.Lists.{in_map}
use Rattle.gx_stack.specs.declared.node.Node.{Node}
use Rattle.gx_stack.specs.Tree.{Tree, Kids, leaf, layer, no_kids, kid as node_kid, entries_of, kid_entries, entry_total}
use Rattle.gx_stack.specs.Seen.{tree_of}
use Rattle.gx_stack.specs.Internal.{IsLeafMap, parts_for, child_records}
use Rattle.gx_types.specs.declared.any.AnyMapping.{AnyMapping}
use Rattle.gx_types.specs.declared.built.Built.{Built}
use Rattle.gx_types.specs.declared.built.LinkTree.{LinkTree}
use Rattle.gx_types.specs.Any.{any_rule}
use Rattle.gx_types.specs.Build.{leaf_count, side_leaf_count, file_leaf_count, link_definitions, IsTreeOf, AreTreesOf, IsTreeOfSide, AreTreesOfFiles, IsLinkTreeOfSide, AreTreesOfLinks}
use Rattle.gx_types.specs.HeadRules.{head_rule}
use Rattle.gx_types.specs.Links.{linkset_of, link_kids}
use Rattle.gx_links.specs.Links.{Link, members_of, owners_of}
use Rattle.gx_links.specs.Rows.{node_rows, link_parts}
use Rattle.gx_linksets.specs.Stored.{rows_of}
use Rattle.gx_scan.specs.Files.{file_records}
use Rattle.gx_model.specs.States.{File, State}
use Rattle.gx_states.specs.Built.{IsBuiltOf}
use Rattle.gx_states.specs.Internal.{AreInternal, entries_from, owner_count, link_entries_from, state_entries}
use Rattle.gx_states.specs.Terms.{term_leaves, terms_leaves, file_leaves, link_leaves, files_leaves, links_leaves, state_leaves, state_size}
use Rattle.gx_states.proofs.TermLemmas.{layer_leaves, one_leaf, AreFrom, from_first, from_next, from_rule, from_rows, state_many, form_of_nodes}

-- ---- one leaf

one_less : (b : Bool) (n : ℕ) → n ≤ cond b (n - 1) n + 1
one_less true n = omega arith
one_less false n = omega arith

-- a map whose keys are all in a list has at most as many entries as the list
keys_few : (m : LeafMap) (ks : List (List ℕ))
    → ((key body : List ℕ) → fin.get m key ≡ Some body → In key ks) → fin.len m ≤ length ks
keys_few m [] all = omega
    (arith, ap (λ (x : LeafMap). fin.len x) is, fin.len-empty (slice_cmp nat_cmp) (List ℕ))
  where
    at : (q : List ℕ) (o : Option (List ℕ)) → fin.get m q ≡ o
        → fin.get m q ≡ fin.get (fin.empty {R = slice_cmp nat_cmp}) q
    at q None e = e ∙ sym (fin.get-empty (slice_cmp nat_cmp) q)
    at q (Some b) e = absurd (all q b e)

    is : m ≡ fin.empty
    is = fin.same_map nat_list_cmp_total (slice_cmp-IsAntisymmetric nat_cmp-IsAntisymmetric) m
        fin.empty (λ q. at q (fin.get m q) refl)
keys_few m (k ∷ ks) all =
    let shorter : fin.len (fin.remove m k) ≡ cond (fin.contains_key m k) (fin.len m - 1)
    (fin.len m) = fin.len-remove nat_list_cmp_total m k in
    omega (
      arith,
      keys_few (fin.remove m k) ks later,
      shorter,
      one_less (fin.contains_key m k) (fin.len m),
    )
  where
    other : (key : List ℕ) → eq_by_cmp (slice_cmp nat_cmp) key k ≡ false → In key (k ∷ ks)
        → In key ks
    other key e (inl is) = absurd
        (true≢false (sym (tied k) ∙ ap (λ q. eq_by_cmp (slice_cmp nat_cmp) q k) (sym is) ∙ e))
    other key e (inr h) = h

    later : (key body : List ℕ) → fin.get (fin.remove m k) key ≡ Some body → In key ks
    later key body h =
        let at : cond (eq_by_cmp (slice_cmp nat_cmp) key k) None (fin.get m key) ≡ Some body = sym
        (fin.get-remove nat_list_cmp_total m k key) ∙ h in
        elim (cases_Bool (eq_by_cmp (slice_cmp nat_cmp) key k)) [
          | inl e ↦ absurd (none-some body (sym (ap (λ (b : Bool). cond b None (fin.get m key)) e)
              ∙ at))
          | inr e ↦ other key e (all key body
              (sym (ap (λ (b : Bool). cond b None (fin.get m key)) e) ∙ at))
        ]

leaf_few : (m : LeafMap) (R : List Rec) → IsLeafMap m R → fin.len m ≤ length R
leaf_few m R is =
    omega (
      arith,
      keys_few m (map (λ r. key_of r.key) R) keys_in,
      length-map R (λ (r : Rec). key_of r.key),
    )
  where
    keys_in : (key body : List ℕ) → fin.get m key ≡ Some body → In key (map (λ r. key_of r.key) R)
    keys_in key body e =
        let o = is.only key body e in
        subst (λ k. In k (map (λ (r : Rec). key_of r.key) R)) o.2
        (in_map (λ (r : Rec). key_of r.key) o.0 R o.1)

-- leaves have no more entries than the records that they hold
maps_few : (maps : List LeafMap) (Rs : List (List Rec)) → length maps ≡ length Rs
    → ((n : ℕ) → n < length Rs → IsLeafMap (map_at maps n) (get_or Rs n []))
    → entry_count maps ≤ sum_by length Rs
maps_few [] Rs many each = omega arith
maps_few (m ∷ maps) [] many each = absurd (omega (arith, many))
maps_few (m ∷ maps) (R ∷ Rs) many each = omega (
  arith,
  sum_by-cons fin.len m maps,
  sum_by-cons length R Rs,
  leaf_few m R (each 0 (omega arith)),
  maps_few maps Rs (omega (arith, many)) (λ n lt. each (suc n) (omega (arith, lt))),
)

-- ---- nodes

-- how many entries children have for the records that go to each of them
abbrev kids_total : Kids AnyMapping → (ℕ → List Rec) → ℕ
kids_total no_kids Rs = 0
kids_total (node_kid t ks) Rs = entry_total any_rule t (Rs 0) + kids_total ks (λ c. Rs (suc c))

kids_none : (ks : Kids AnyMapping) → kids_total ks (λ c. []) ≡ 0
kids_none no_kids = refl
kids_none (node_kid t ks) = omega (arith, kids_none ks)

kids_append : (ks : Kids AnyMapping) (As Bs : ℕ → List Rec)
    → kids_total ks (λ c. As c ++ Bs c) ≡ kids_total ks As + kids_total ks Bs
kids_append no_kids As Bs = refl
kids_append (node_kid t ks) As Bs =
    let first : entry_total any_rule t (As 0 ++ Bs 0) ≡ entry_total any_rule t (As 0)
    + entry_total any_rule t
    (Bs 0) = sum_by-append (λ (r : Rec). length (entries_of any_rule t r)) (As 0) (Bs 0) in
    omega (arith, first, kids_append ks (λ c. As (suc c)) (λ c. Bs (suc c)))

first_not : (c : ℕ) → nat_eq 0 (suc c) ≡ false
first_not c = ne_eqb 0 (suc c) (λ e. omega (arith, e))

later_not : (j : ℕ) → nat_eq (suc j) 0 ≡ false
later_not j = ne_eqb (suc j) 0 (λ e. omega (arith, e))

both_later : (j c : ℕ) → nat_eq (suc j) (suc c) ≡ nat_eq j c
both_later j c = elim (cases_Bool (nat_eq j c)) [
  | inl e ↦ eq-eqb (suc j) (suc c) (ap suc (eqb-true j c e)) ∙ sym e
  | inr e ↦ ne_eqb (suc j) (suc c) (λ f. true≢false (sym (eq-eqb j c (omega (arith, f))) ∙ e))
      ∙ sym e
]

-- a record more for one of them
kids_more : (ks : Kids AnyMapping) (j : ℕ) (r : Rec) (Rs : ℕ → List Rec)
    → kids_total ks (λ c. cond (nat_eq j c) (r ∷ Rs c) (Rs c)) ≡ length
    (kid_entries any_rule ks j r) + kids_total ks Rs
kids_more no_kids j r Rs = refl
kids_more (node_kid t ks) zero r Rs =
    let first : entry_total any_rule t (cond (nat_eq 0 0) (r ∷ Rs 0) (Rs 0))
    ≡ entry_total any_rule t
    (r ∷ Rs 0) = ap (λ (b : Bool). entry_total any_rule t (cond b (r ∷ Rs 0) (Rs 0)))
    (eq-eqb 0 0 refl) in
    let others : kids_total ks (λ c. cond (nat_eq 0 (suc c)) (r ∷ Rs (suc c)) (Rs (suc c)))
    ≡ kids_total ks
    (λ c. Rs (suc c)) = λ i. kids_total ks (λ c. cond (first_not c i) (r ∷ Rs (suc c)) (Rs (suc c)))
    in
    let one : entry_total any_rule t (r ∷ Rs 0) ≡ length (entries_of any_rule t r)
    + entry_total any_rule t
    (Rs 0) = sum_by-cons (λ (q : Rec). length (entries_of any_rule t q)) r (Rs 0) in
    omega (arith, first, others, one)
kids_more (node_kid t ks) (suc j) r Rs =
    let first : entry_total any_rule t (cond (nat_eq (suc j) 0) (r ∷ Rs 0) (Rs 0))
    ≡ entry_total any_rule t
    (Rs 0) = ap (λ (b : Bool). entry_total any_rule t (cond b (r ∷ Rs 0) (Rs 0))) (later_not j) in
    let others : kids_total ks (λ c. cond (nat_eq (suc j) (suc c)) (r ∷ Rs (suc c)) (Rs (suc c)))
    ≡ kids_total
    ks (λ c. cond (nat_eq j c) (r ∷ Rs (suc c)) (Rs (suc c))) = λ i. kids_total ks
    (λ c. cond (both_later j c i) (r ∷ Rs (suc c)) (Rs (suc c))) in
    omega (arith, first, others, kids_more ks j r (λ c. Rs (suc c)))

-- the entries of parts
abbrev part_entries : Kids AnyMapping → List Part → ℕ
part_entries ks ps = length (flat_map (λ p. kid_entries any_rule ks p.child p.rec) ps)

parts_total : (ks : Kids AnyMapping) (ps : List Part)
    → kids_total ks (λ c. parts_for c ps) ≡ part_entries ks ps
parts_total ks [] = kids_none ks
parts_total ks (p ∷ ps) =
    omega (
      arith,
      kids_more ks p.child p.rec (λ c. parts_for c ps),
      parts_total ks ps,
      length-append
          (kid_entries any_rule ks p.child p.rec)
          (flat_map (λ q. kid_entries any_rule ks q.child q.rec) ps),
    )

parts_append : (ks : Kids AnyMapping) (ps qs : List Part)
    → part_entries ks (ps ++ qs) ≡ part_entries ks ps + part_entries ks qs
parts_append ks [] qs = omega arith
parts_append ks (p ∷ ps) qs =
    omega (
      arith,
      parts_append ks ps qs,
      length-append (kid_entries any_rule ks p.child p.rec)
          (flat_map (λ q. kid_entries any_rule ks q.child q.rec) ps),
      length-append (kid_entries any_rule ks p.child p.rec)
          (flat_map (λ q. kid_entries any_rule ks q.child q.rec) (ps ++ qs)),
    )

layer_total : (m : AnyMapping) (ks : Kids AnyMapping) (R : List Rec)
    → kids_total ks (λ c. child_records (any_rule m) c R) ≡ entry_total any_rule (layer m ks) R
layer_total m ks [] = kids_none ks
layer_total m ks (r ∷ R) =
    let one : entry_total any_rule (layer m ks) (r ∷ R) ≡ part_entries ks
    ((any_rule m).parts r) + entry_total any_rule (layer m ks) R = sum_by-cons
    (λ (q : Rec). length (entries_of any_rule (layer m ks) q)) r R in
    omega (
      arith,
      one,
      kids_append ks (λ c. parts_for c ((any_rule m).parts r))
          (λ c. child_records (any_rule m) c R),
      parts_total ks ((any_rule m).parts r),
      layer_total m ks R,
    )

leaf_total : (n : ℕ) (form : Form) (R : List Rec) → entry_total any_rule (leaf n form) R ≡ length R
leaf_total n form [] = refl
leaf_total n form (r ∷ R) =
    let one : entry_total any_rule (leaf n form) (r ∷ R) ≡ 1 + entry_total any_rule
    (leaf n form) R = sum_by-cons (λ (q : Rec). length (entries_of any_rule (leaf n form) q)) r R in
    omega (arith, one, leaf_total n form R)

one_sum : (R : List Rec) → sum_by length (R ∷ []) ≡ length R
one_sum R = sum_by-cons length R [] ∙ omega arith

mutual
  term_total : (n : ℕ) (form : Form) (t : TermTree) (u : Tree AnyMapping) (R : List Rec)
      → IsTreeOf n form t u → sum_by length (term_leaves form t R) ≡ entry_total any_rule u R
  term_total n form (node top kids) (leaf m f) R is =
      ap (λ Rs. sum_by length Rs) ((one_leaf n form top kids m f is).has R) ∙ one_sum R
      ∙ sym (leaf_total m f R)
  term_total n form (node top kids) (layer m ks) R is =
      ap (λ Rs. sum_by length Rs) (sym (layer_leaves top form kids R is.0.0))
      ∙ terms_total n (kid_form top form) 0 kids ks (λ c. child_records (head_rule top form) c R)
      (λ c. child_records (any_rule m) c R) (from_rule top form m R is.0.1) is.1
      ∙ layer_total m ks R

  terms_total : (n : ℕ) (forms : ℕ → Form) (i : ℕ) (ts : Trees) (us : Kids AnyMapping)
      (Rs Qs : ℕ → List Rec) → AreFrom i Rs Qs → AreTreesOf n forms i ts us
      → sum_by length (terms_leaves forms i ts Rs) ≡ kids_total us Qs
  terms_total n forms i none no_kids Rs Qs same is = refl
  terms_total n forms i none (node_kid u us) Rs Qs same is = absurd is
  terms_total n forms i (kid t ts) no_kids Rs Qs same is = absurd is
  terms_total n forms i (kid t ts) (node_kid u us) Rs Qs same is = omega (
    arith,
    sum_by-append length (term_leaves (forms i) t (Rs i)) (terms_leaves forms (suc i) ts Rs),
    term_total n (forms i) t u (Rs i) is.0,
    ap (entry_total any_rule u) (from_first i Rs Qs same),
    terms_total (n + leaf_count t) forms (suc i) ts us Rs (λ c. Qs (suc c))
        (from_next i Rs Qs same) is.1,
  )

-- ---- files

file_total : (n : ℕ) (form : Form) (side : SideTree) (u : Tree AnyMapping) (R : List Rec)
    → IsTreeOfSide n form side u
    → sum_by length (file_leaves form side R) ≡ entry_total any_rule u R
file_total n form (file_side t) u R is = term_total n form t u R is
file_total n form (link_side linkset ts) u R is = absurd is

files_total : (n : ℕ) (files : List FileDef) (ds : List DefinitionTree)
    (xs : List (Node AnyMapping)) (fs : List File) → AreTreesOfFiles n files ds xs
    → sum_by length (files_leaves files ds fs) ≡ entries_from xs fs
files_total n [] ds [] fs are = refl
files_total n [] ds (x ∷ xs) fs are = absurd are
files_total n (file ∷ files) [] xs fs are = absurd are
files_total n (file ∷ files) (d ∷ ds) [] fs are = absurd are
files_total n (file ∷ files) (d ∷ ds) (x ∷ xs) [] are = refl
files_total n (file ∷ files) (d ∷ ds) (x ∷ xs) (f ∷ fs) are = omega (
  arith,
  sum_by-append length (file_leaves (file_form file) d.side (file_records f))
      (files_leaves files ds fs),
  file_total n (file_form file) d.side (tree_of x) (file_records f) are.0,
  files_total (n + side_leaf_count d.side) files ds xs fs are.1,
)

-- ---- links

owners_total : (x : LinkTree) (l : Link) (os : List Value)
    → part_entries (link_kids x) (flat_map (λ o. rows_of (linkset_of x) o (members_of l o)) os)
    ≡ sum_by (owner_count x l) os
owners_total x l [] = refl
owners_total x l (o ∷ os) =
    omega (
      arith,
      parts_append (link_kids x) (rows_of (linkset_of x) o (members_of l o))
          (flat_map (λ q. rows_of (linkset_of x) q (members_of l q)) os),
      owners_total x l os,
      sum_by-cons (owner_count x l) o os,
    )

link_total : (n : ℕ) (o m : Kind) (side : SideTree) (x : LinkTree) (l : Link)
    → IsLinkTreeOfSide n o m side x
    → sum_by length (link_leaves o m side l) ≡ sum_by (owner_count x l) (owners_of l)
link_total n o m (file_side t) x l is = absurd is
link_total n o m (link_side linkset ts) x l is =
    terms_total n (link_form linkset o m) 0 (kids_from ts) (link_kids x)
    (node_rows (rows_of linkset) l) (node_rows (rows_of (linkset_of x)) l)
    (from_rows linkset (linkset_of x) l is.head) is.trees
    ∙ parts_total (link_kids x) (link_parts (rows_of (linkset_of x)) l)
    ∙ owners_total x l (owners_of l)

links_total : (files : List FileDef) (n : ℕ) (links : List LinkDef) (ds : List DefinitionTree)
    (xs : List LinkTree) (ls : List Link) → AreTreesOfLinks files n links ds xs
    → sum_by length (links_leaves files links ds ls) ≡ link_entries_from xs ls
links_total files n [] [] [] ls are = refl
links_total files n [] [] (x ∷ xs) ls are = absurd are
links_total files n [] (d ∷ ds) xs ls are = absurd are
links_total files n (link ∷ links) [] xs ls are = absurd are
links_total files n (link ∷ links) (d ∷ ds) [] ls are = absurd are
links_total files n (link ∷ links) (d ∷ ds) (x ∷ xs) [] are = refl
links_total files n (link ∷ links) (d ∷ ds) (x ∷ xs) (l ∷ ls) are =
    let o = owner_kind files link in
    let m = member_kind files link in
    omega (
      arith,
      sum_by-append length (link_leaves o m d.side l) (links_leaves files links ds ls),
      link_total n o m d.side x l are.0,
      links_total files (n + side_leaf_count d.side) links ds xs ls are.1,
    )

-- ---- all of them

-- the entries that nodes count are those of the internal form
pub same_size : (schema : Schema) (ds : List DefinitionTree) (built : Built) (s : State)
    → IsBuiltOf schema ds built → state_entries built s ≡ state_size schema ds s
same_size schema ds built s are =
    let behind = link_definitions schema.files ds in
    omega (
      arith,
      sum_by-append length (files_leaves schema.files ds s.files)
          (links_leaves schema.files schema.links behind s.links),
      files_total 0 schema.files ds built.files s.files are.files,
      links_total schema.files (file_leaf_count schema.files ds) schema.links behind built.links
          s.links are.links,
    )

-- a leaf for each owner, which hold the state, have no more entries
pub few_entries : (schema : Schema) (ds : List DefinitionTree) (built : Built)
    (maps : List LeafMap) (s : State) → IsBuiltOf schema ds built
    → length maps ≡ length built.owners → AreInternal schema built maps s
    → entry_count maps ≤ state_size schema ds s
few_entries schema ds built maps s are many is =
    maps_few maps (state_leaves schema ds s)
    (many ∙ are.owned
    ∙ sym (state_many schema ds built s are is.valid.files_many is.valid.links_many))
    (form_of_nodes schema ds built maps s are is).leaves
