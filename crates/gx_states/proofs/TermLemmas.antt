-- Nodes that definitions mean hold a state in the maps that are its internal form under them, and
-- in no others.
use Rattle.std.proofs.Common.{◌≡◌, ℕ, zero, suc, ◌+◌, ◌<◌, List, [], ◌∷◌, ◌++◌, length, get_or, refl, sym, ap, subst, ◌∙◌, arith, length-append}
use Rattle.std.specs.FinMap as fin
use Rattle.gx_values.specs.declared.records.Form.{Form}
use Rattle.gx_values.specs.declared.records.Rec.{Rec}
use Rattle.gx_values.specs.declared.values.Kind.{Kind}
use Rattle.gx_schema.specs.declared.schema.FileDef.{FileDef}
use Rattle.gx_schema.specs.declared.schema.LinkDef.{LinkDef}
use Rattle.gx_schema.specs.declared.schema.Schema.{Schema}
use Rattle.gx_ports.specs.LeafMaps.{LeafMap, map_at}
use Rattle.gx_equation.specs.declared.heads.Head.{Head}
use Rattle.gx_equation.specs.declared.heads.Head.TheVariants as heads
use Rattle.gx_equation.specs.declared.heads.Linkset.{Linkset}
use Rattle.gx_equation.specs.Trees.{TermTree, Trees, node, none, kid, kids_from, SideTree, file_side, link_side, DefinitionTree}
use Rattle.gx_forms.specs.Forms.{kid_form, link_form}
use Rattle.gx_typing.specs.Dues.{file_form, owner_kind, member_kind}
use Rattle.gx_mapping.specs.Rule.{Rule}
use Rattle.gx_stack.specs.declared.node.Node.{Node}
use Rattle.gx_stack.specs.Tree.{Tree, Kids, leaf, layer, no_kids, kid as node_kid}
use Rattle.gx_stack.specs.Seen.{tree_of}
use Rattle.gx_stack.specs.Internal.{IsLeafMap, child_records, IsInternal as IsHeld, AreInternal as AreHeld}
use Rattle.gx_types.specs.declared.any.AnyMapping.{AnyMapping}
use Rattle.gx_types.specs.declared.built.Built.{Built}
use Rattle.gx_types.specs.declared.built.LinkTree.{LinkTree}
use Rattle.gx_types.specs.Any.{any_rule}
use Rattle.gx_types.specs.Build.{leaf_count, leaf_counts, side_leaf_count, all_leaf_count, file_leaf_count, link_definitions, IsLeafOf, IsTreeOf, AreTreesOf, IsTreeOfSide, AreTreesOfFiles, IsLinkTreeOfSide, AreTreesOfLinks}
use Rattle.gx_types.specs.HeadRules.{head_rule, IsLayer}
use Rattle.gx_types.specs.Links.{linkset_of, link_kids}
use Rattle.gx_types.specs.Nodes.{tree_at}
use Rattle.gx_links.specs.Links.{Link}
use Rattle.gx_links.specs.Rows.{node_rows, IsHeldLink}
use Rattle.gx_linksets.specs.Stored.{rows_of, IsHeldAt}
use Rattle.gx_scan.specs.Files.{file_records}
use Rattle.gx_model.specs.States.{File, State}
use Rattle.gx_states.specs.Built.{IsBuiltOf}
use Rattle.gx_states.specs.Internal.{AreInternal}
use Rattle.gx_states.specs.Terms.{term_leaves, terms_leaves, file_leaves, link_leaves, files_leaves, links_leaves, state_leaves, IsInternalForm}

-- ---- leaves in a row

-- the leaves from the number n on have these records
abbrev HoldFrom : ℕ → List (List Rec) → List LeafMap → Type 0
HoldFrom n [] maps = Unit {0}
HoldFrom n (R ∷ Rs) maps = IsLeafMap (map_at maps n) R × HoldFrom (suc n) Rs maps

at_number : (n k : ℕ) (Rs : List (List Rec)) (maps : List LeafMap) → n ≡ k → HoldFrom n Rs maps
    → HoldFrom k Rs maps
at_number n k Rs maps is held = subst (λ x. HoldFrom x Rs maps) is held

hold_both : (n : ℕ) (As Bs : List (List Rec)) (maps : List LeafMap) → HoldFrom n As maps
    → HoldFrom (n + length As) Bs maps → HoldFrom n (As ++ Bs) maps
hold_both n [] Bs maps a b = at_number (n + 0) n Bs maps (omega arith) b
hold_both n (A ∷ As) Bs maps a b = (
  a.0,
  hold_both (suc n) As Bs maps a.1
      (at_number (n + suc (length As)) (suc n + length As) Bs maps (omega arith) b),
)

hold_first : (n : ℕ) (As Bs : List (List Rec)) (maps : List LeafMap) → HoldFrom n (As ++ Bs) maps
    → HoldFrom n As maps
hold_first n [] Bs maps held = tt
hold_first n (A ∷ As) Bs maps held = (held.0, hold_first (suc n) As Bs maps held.1)

hold_rest : (n : ℕ) (As Bs : List (List Rec)) (maps : List LeafMap) → HoldFrom n (As ++ Bs) maps
    → HoldFrom (n + length As) Bs maps
hold_rest n [] Bs maps held = at_number n (n + 0) Bs maps (omega arith) held
hold_rest n (A ∷ As) Bs maps held =
    at_number (suc n + length As) (n + suc (length As)) Bs maps (omega arith)
    (hold_rest (suc n) As Bs maps held.1)

each_of : (n k : ℕ) (Rs : List (List Rec)) (maps : List LeafMap) → k < length Rs
    → HoldFrom n Rs maps → IsLeafMap (map_at maps (n + k)) (get_or Rs k [])
each_of n k [] maps lt held = absurd (omega (arith, lt))
each_of n zero (R ∷ Rs) maps lt held =
    subst (λ x. IsLeafMap (map_at maps x) R) (omega arith) held.0
each_of n (suc k) (R ∷ Rs) maps lt held =
    subst (λ x. IsLeafMap (map_at maps x) (get_or Rs k [])) (omega arith)
    (each_of (suc n) k Rs maps (omega (arith, lt)) held.1)

all_of : (n : ℕ) (Rs : List (List Rec)) (maps : List LeafMap)
    → ((k : ℕ) → k < length Rs → IsLeafMap (map_at maps (n + k)) (get_or Rs k []))
    → HoldFrom n Rs maps
all_of n [] maps each = tt
all_of n (R ∷ Rs) maps each = (
  subst (λ x. IsLeafMap (map_at maps x) R) (omega arith) (each 0 (omega arith)),
  all_of (suc n) Rs maps (λ k lt. subst (λ x. IsLeafMap (map_at maps x) (get_or Rs k []))
      (omega arith) (each (suc k) (omega (arith, lt)))),
)

-- ---- terms

-- a layer has the leaves of its children
pub layer_leaves : (top : Head) (form : Form) (kids : Trees) (R : List Rec) → IsLayer top
    → terms_leaves (kid_form top form) 0 kids (λ c. child_records (head_rule top form) c R)
    ≡ term_leaves form (node top kids) R
layer_leaves (heads.Leaf kind) form kids R is = absurd is
layer_leaves heads.Actual form kids R is = refl
layer_leaves (heads.Encode name c) form kids R is = refl
layer_leaves (heads.Segment names) form kids R is = refl
layer_leaves heads.Transpose form kids R is = refl
layer_leaves (heads.Partition name bounds) form kids R is = refl
layer_leaves (heads.Divide size) form kids R is = refl
layer_leaves (heads.Index name) form kids R is = refl

layer_count : (top : Head) (kids : Trees) → IsLayer top → leaf_counts kids
    ≡ leaf_count (node top kids)
layer_count (heads.Leaf kind) kids is = absurd is
layer_count heads.Actual kids is = omega arith
layer_count (heads.Encode name c) kids is = omega arith
layer_count (heads.Segment names) kids is = omega arith
layer_count heads.Transpose kids is = omega arith
layer_count (heads.Partition name bounds) kids is = omega arith
layer_count (heads.Divide size) kids is = omega arith
layer_count (heads.Index name) kids is = omega arith

-- a leaf has its number, and the records
pub record IsOneLeaf (n : ℕ) (form : Form) (t : TermTree) (m : ℕ) : Type 0 where
  number : n ≡ m
  pub has : (R : List Rec) → term_leaves form t R ≡ R ∷ []
  one : leaf_count t ≡ 1

pub one_leaf : (n : ℕ) (form : Form) (top : Head) (kids : Trees) (m : ℕ) (f : Form)
    → IsLeafOf n form top kids m f → IsOneLeaf n form (node top kids) m
one_leaf n form (heads.Leaf kind) none m f is =
    record { number = sym is.0; has = λ R. refl; one = refl }
one_leaf n form (heads.Leaf kind) (kid t ts) m f is = absurd is
one_leaf n form heads.Actual kids m f is = absurd is
one_leaf n form (heads.Encode name c) kids m f is = absurd is
one_leaf n form (heads.Segment names) kids m f is = absurd is
one_leaf n form heads.Transpose kids m f is = absurd is
one_leaf n form (heads.Partition name bounds) kids m f is = absurd is
one_leaf n form (heads.Divide size) kids m f is = absurd is
one_leaf n form (heads.Index name) kids m f is = absurd is

-- as many leaves as are counted
mutual
  term_many : (n : ℕ) (form : Form) (t : TermTree) (u : Tree AnyMapping) (R : List Rec)
      → IsTreeOf n form t u → length (term_leaves form t R) ≡ leaf_count t
  term_many n form (node top kids) (leaf m f) R is =
      let one = one_leaf n form top kids m f is in ap length (one.has R) ∙ sym one.one
  term_many n form (node top kids) (layer m ks) R is =
      ap length (sym (layer_leaves top form kids R is.0.0))
      ∙ terms_many n (kid_form top form) 0 kids ks (λ c. child_records (head_rule top form) c R)
      is.1
      ∙ layer_count top kids is.0.0

  terms_many : (n : ℕ) (forms : ℕ → Form) (i : ℕ) (ts : Trees) (us : Kids AnyMapping)
      (Rs : ℕ → List Rec) → AreTreesOf n forms i ts us
      → length (terms_leaves forms i ts Rs) ≡ leaf_counts ts
  terms_many n forms i none no_kids Rs is = refl
  terms_many n forms i none (node_kid u us) Rs is = absurd is
  terms_many n forms i (kid t ts) no_kids Rs is = absurd is
  terms_many n forms i (kid t ts) (node_kid u us) Rs is = omega (
    arith,
    length-append (term_leaves (forms i) t (Rs i)) (terms_leaves forms (suc i) ts Rs),
    term_many n (forms i) t u (Rs i) is.0,
    terms_many (n + leaf_count t) forms (suc i) ts us Rs is.1,
  )

-- Qs are the records from the child with the number i on
abbrev pub AreFrom : ℕ → (ℕ → List Rec) → (ℕ → List Rec) → Type 0
AreFrom i Rs Qs = (c : ℕ) → Qs c ≡ Rs (i + c)

pub from_first : (i : ℕ) (Rs Qs : ℕ → List Rec) → AreFrom i Rs Qs → Qs 0 ≡ Rs i
from_first i Rs Qs same = same 0 ∙ ap Rs (omega arith)

pub from_next : (i : ℕ) (Rs Qs : ℕ → List Rec) → AreFrom i Rs Qs
    → AreFrom (suc i) Rs (λ c. Qs (suc c))
from_next i Rs Qs same c = same (suc c) ∙ ap Rs (omega arith)

pub from_rule : (top : Head) (form : Form) (m : AnyMapping) (R : List Rec)
    → any_rule m ≡ head_rule top form
    → AreFrom 0 (λ c. child_records (head_rule top form) c R)
    (λ c. child_records (any_rule m) c R)
from_rule top form m R is c = ap (λ (r : Rule). child_records r c R) is
    ∙ ap (λ x. child_records (head_rule top form) x R) (omega arith)

mutual
  term_holds : (n : ℕ) (form : Form) (t : TermTree) (u : Tree AnyMapping) (R : List Rec)
      (maps : List LeafMap) → IsTreeOf n form t u → IsHeld any_rule u R maps
      → HoldFrom n (term_leaves form t R) maps
  term_holds n form (node top kids) (leaf m f) R maps is held =
      let one = one_leaf n form top kids m f is in
      subst (λ Rs. HoldFrom n Rs maps) (sym (one.has R))
      (subst (λ k. IsLeafMap (map_at maps k) R) (sym one.number) held, tt)
  term_holds n form (node top kids) (layer m ks) R maps is held =
      subst (λ Rs. HoldFrom n Rs maps) (layer_leaves top form kids R is.0.0)
      (terms_hold n (kid_form top form) 0 kids ks (λ c. child_records (head_rule top form) c R)
      (λ c. child_records (any_rule m) c R) maps (from_rule top form m R is.0.1) is.1 held)

  terms_hold : (n : ℕ) (forms : ℕ → Form) (i : ℕ) (ts : Trees) (us : Kids AnyMapping)
      (Rs Qs : ℕ → List Rec) (maps : List LeafMap) → AreFrom i Rs Qs → AreTreesOf n forms i ts us
      → AreHeld any_rule us Qs maps → HoldFrom n (terms_leaves forms i ts Rs) maps
  terms_hold n forms i none no_kids Rs Qs maps same is held = tt
  terms_hold n forms i none (node_kid u us) Rs Qs maps same is held = absurd is
  terms_hold n forms i (kid t ts) no_kids Rs Qs maps same is held = absurd is
  terms_hold n forms i (kid t ts) (node_kid u us) Rs Qs maps same is held =
      hold_both n (term_leaves (forms i) t (Rs i)) (terms_leaves forms (suc i) ts Rs) maps
      (term_holds n (forms i) t u (Rs i) maps is.0
      (subst (λ R. IsHeld any_rule u R maps) (from_first i Rs Qs same) held.0))
      (at_number (n + leaf_count t) _ (terms_leaves forms (suc i) ts Rs) maps
      (ap (λ x. n + x) (sym (term_many n (forms i) t u (Rs i) is.0)))
      (terms_hold (n + leaf_count t) forms (suc i) ts us Rs (λ c. Qs (suc c)) maps
      (from_next i Rs Qs same) is.1 held.1))

mutual
  node_holds : (n : ℕ) (form : Form) (t : TermTree) (u : Tree AnyMapping) (R : List Rec)
      (maps : List LeafMap) → IsTreeOf n form t u → HoldFrom n (term_leaves form t R) maps
      → IsHeld any_rule u R maps
  node_holds n form (node top kids) (leaf m f) R maps is held =
      let one = one_leaf n form top kids m f is in
      subst (λ k. IsLeafMap (map_at maps k) R) one.number
      (subst (λ Rs. HoldFrom n Rs maps) (one.has R) held).0
  node_holds n form (node top kids) (layer m ks) R maps is held =
      nodes_hold n (kid_form top form) 0 kids ks (λ c. child_records (head_rule top form) c R)
      (λ c. child_records (any_rule m) c R) maps (from_rule top form m R is.0.1) is.1
      (subst (λ Rs. HoldFrom n Rs maps) (sym (layer_leaves top form kids R is.0.0)) held)

  nodes_hold : (n : ℕ) (forms : ℕ → Form) (i : ℕ) (ts : Trees) (us : Kids AnyMapping)
      (Rs Qs : ℕ → List Rec) (maps : List LeafMap) → AreFrom i Rs Qs → AreTreesOf n forms i ts us
      → HoldFrom n (terms_leaves forms i ts Rs) maps → AreHeld any_rule us Qs maps
  nodes_hold n forms i none no_kids Rs Qs maps same is held = tt
  nodes_hold n forms i none (node_kid u us) Rs Qs maps same is held = absurd is
  nodes_hold n forms i (kid t ts) no_kids Rs Qs maps same is held = absurd is
  nodes_hold n forms i (kid t ts) (node_kid u us) Rs Qs maps same is held =
      let As = term_leaves (forms i) t (Rs i) in
      let Bs = terms_leaves forms (suc i) ts Rs in (
        subst (λ R. IsHeld any_rule u R maps) (sym (from_first i Rs Qs same))
            (node_holds n (forms i) t u (Rs i) maps is.0 (hold_first n As Bs maps held)),
        nodes_hold (n + leaf_count t) forms (suc i) ts us Rs (λ c. Qs (suc c)) maps
            (from_next i Rs Qs same) is.1
            (at_number (n + length As) (n + leaf_count t) Bs maps
            (ap (λ x. n + x) (term_many n (forms i) t u (Rs i) is.0))
            (hold_rest n As Bs maps held)),
      )

-- ---- files

file_many : (n : ℕ) (form : Form) (side : SideTree) (u : Tree AnyMapping) (R : List Rec)
    → IsTreeOfSide n form side u → length (file_leaves form side R) ≡ side_leaf_count side
file_many n form (file_side t) u R is = term_many n form t u R is
file_many n form (link_side linkset ts) u R is = absurd is

file_holds : (n : ℕ) (form : Form) (side : SideTree) (u : Tree AnyMapping) (R : List Rec)
    (maps : List LeafMap) → IsTreeOfSide n form side u → IsHeld any_rule u R maps
    → HoldFrom n (file_leaves form side R) maps
file_holds n form (file_side t) u R maps is held = term_holds n form t u R maps is held
file_holds n form (link_side linkset ts) u R maps is held = absurd is

file_back : (n : ℕ) (form : Form) (side : SideTree) (u : Tree AnyMapping) (R : List Rec)
    (maps : List LeafMap) → IsTreeOfSide n form side u
    → HoldFrom n (file_leaves form side R) maps → IsHeld any_rule u R maps
file_back n form (file_side t) u R maps is held = node_holds n form t u R maps is held
file_back n form (link_side linkset ts) u R maps is held = absurd is

files_many : (n : ℕ) (files : List FileDef) (ds : List DefinitionTree)
    (xs : List (Node AnyMapping)) (fs : List File) → AreTreesOfFiles n files ds xs
    → length fs ≡ length files
    → length (files_leaves files ds fs) ≡ file_leaf_count files ds
files_many n [] ds xs fs are many = refl
files_many n (file ∷ files) [] xs fs are many = absurd are
files_many n (file ∷ files) (d ∷ ds) [] fs are many = absurd are
files_many n (file ∷ files) (d ∷ ds) (x ∷ xs) [] are many = absurd (omega (arith, many))
files_many n (file ∷ files) (d ∷ ds) (x ∷ xs) (f ∷ fs) are many =
    omega (
      arith,
      length-append (file_leaves (file_form file) d.side (file_records f))
          (files_leaves files ds fs),
      file_many n (file_form file) d.side (tree_of x) (file_records f) are.0,
      files_many (n + side_leaf_count d.side) files ds xs fs are.1 (omega (arith, many)),
    )

-- each of the nodes holds its file
abbrev HoldFiles : List FileDef → List (Node AnyMapping) → List File → List LeafMap → Type 0
HoldFiles files xs fs maps = (i : ℕ) → i < length files
    → IsHeld any_rule (tree_at xs i) (file_records (get_or fs i fin.empty)) maps

files_hold : (n : ℕ) (files : List FileDef) (ds : List DefinitionTree)
    (xs : List (Node AnyMapping)) (fs : List File) (maps : List LeafMap)
    → AreTreesOfFiles n files ds xs → length fs ≡ length files → HoldFiles files xs fs maps
    → HoldFrom n (files_leaves files ds fs) maps
files_hold n [] ds xs fs maps are many held = tt
files_hold n (file ∷ files) [] xs fs maps are many held = absurd are
files_hold n (file ∷ files) (d ∷ ds) [] fs maps are many held = absurd are
files_hold n (file ∷ files) (d ∷ ds) (x ∷ xs) [] maps are many held =
    absurd (omega (arith, many))
files_hold n (file ∷ files) (d ∷ ds) (x ∷ xs) (f ∷ fs) maps are many held =
    hold_both n (file_leaves (file_form file) d.side (file_records f)) (files_leaves files ds fs)
    maps
    (file_holds n (file_form file) d.side (tree_of x) (file_records f) maps are.0
    (held 0 (omega arith)))
    (at_number (n + side_leaf_count d.side) _ (files_leaves files ds fs) maps
    (ap (λ k. n + k)
    (sym (file_many n (file_form file) d.side (tree_of x) (file_records f) are.0)))
    (files_hold (n + side_leaf_count d.side) files ds xs fs maps are.1 (omega (arith, many))
    (λ i lt. held (suc i) (omega (arith, lt)))))

files_back : (n : ℕ) (files : List FileDef) (ds : List DefinitionTree)
    (xs : List (Node AnyMapping)) (fs : List File) (maps : List LeafMap)
    → AreTreesOfFiles n files ds xs → length fs ≡ length files
    → HoldFrom n (files_leaves files ds fs) maps → HoldFiles files xs fs maps
files_back n [] ds xs fs maps are many held i lt = absurd (omega (arith, lt))
files_back n (file ∷ files) [] xs fs maps are many held i lt = absurd are
files_back n (file ∷ files) (d ∷ ds) [] fs maps are many held i lt = absurd are
files_back n (file ∷ files) (d ∷ ds) (x ∷ xs) [] maps are many held i lt =
    absurd (omega (arith, many))
files_back n (file ∷ files) (d ∷ ds) (x ∷ xs) (f ∷ fs) maps are many held zero lt =
    file_back n (file_form file) d.side (tree_of x) (file_records f) maps are.0
    (hold_first n (file_leaves (file_form file) d.side (file_records f)) (files_leaves files ds fs)
    maps held)
files_back n (file ∷ files) (d ∷ ds) (x ∷ xs) (f ∷ fs) maps are many held (suc i) lt =
    files_back (n + side_leaf_count d.side) files ds xs fs maps are.1 (omega (arith, many))
    (at_number _ (n + side_leaf_count d.side) (files_leaves files ds fs) maps
    (ap (λ k. n + k) (file_many n (file_form file) d.side (tree_of x) (file_records f) are.0))
    (hold_rest n (file_leaves (file_form file) d.side (file_records f)) (files_leaves files ds fs)
    maps held)) i (omega (arith, lt))

-- ---- links

link_many : (n : ℕ) (o m : Kind) (side : SideTree) (x : LinkTree) (l : Link)
    → IsLinkTreeOfSide n o m side x → length (link_leaves o m side l) ≡ side_leaf_count side
link_many n o m (file_side t) x l is = absurd is
link_many n o m (link_side linkset ts) x l is =
    terms_many n (link_form linkset o m) 0 (kids_from ts) (link_kids x)
    (node_rows (rows_of linkset) l) is.trees

-- the rows of a link, as its nodes have them
pub from_rows : (linkset other : Linkset) (l : Link) → other ≡ linkset
    → AreFrom 0 (node_rows (rows_of linkset) l) (node_rows (rows_of other) l)
from_rows linkset other l is c = ap (λ (x : Linkset). node_rows (rows_of x) l c) is
    ∙ ap (λ x. node_rows (rows_of linkset) l x) (omega arith)

abbrev IsHeldBy : LinkTree → Link → List LeafMap → Type 0
IsHeldBy x = IsHeldLink any_rule (link_kids x) (rows_of (linkset_of x))

link_holds : (n : ℕ) (o m : Kind) (side : SideTree) (x : LinkTree) (l : Link) (maps : List LeafMap)
    → IsLinkTreeOfSide n o m side x → IsHeldBy x l maps → HoldFrom n (link_leaves o m side l) maps
link_holds n o m (file_side t) x l maps is held = absurd is
link_holds n o m (link_side linkset ts) x l maps is held =
    terms_hold n (link_form linkset o m) 0 (kids_from ts) (link_kids x)
    (node_rows (rows_of linkset) l) (node_rows (rows_of (linkset_of x)) l) maps
    (from_rows linkset (linkset_of x) l is.head) is.trees held

link_back : (n : ℕ) (o m : Kind) (side : SideTree) (x : LinkTree) (l : Link) (maps : List LeafMap)
    → IsLinkTreeOfSide n o m side x → HoldFrom n (link_leaves o m side l) maps → IsHeldBy x l maps
link_back n o m (file_side t) x l maps is held = absurd is
link_back n o m (link_side linkset ts) x l maps is held =
    nodes_hold n (link_form linkset o m) 0 (kids_from ts) (link_kids x)
    (node_rows (rows_of linkset) l) (node_rows (rows_of (linkset_of x)) l) maps
    (from_rows linkset (linkset_of x) l is.head) is.trees held

links_many : (files : List FileDef) (n : ℕ) (links : List LinkDef) (ds : List DefinitionTree)
    (xs : List LinkTree) (ls : List Link) → AreTreesOfLinks files n links ds xs
    → length ls ≡ length links → length (links_leaves files links ds ls) ≡ all_leaf_count ds
links_many files n [] [] [] ls are many = refl
links_many files n [] [] (x ∷ xs) ls are many = absurd are
links_many files n [] (d ∷ ds) xs ls are many = absurd are
links_many files n (link ∷ links) [] xs ls are many = absurd are
links_many files n (link ∷ links) (d ∷ ds) [] ls are many = absurd are
links_many files n (link ∷ links) (d ∷ ds) (x ∷ xs) [] are many = absurd (omega (arith, many))
links_many files n (link ∷ links) (d ∷ ds) (x ∷ xs) (l ∷ ls) are many =
    let o = owner_kind files link in
    let m = member_kind files link in
    omega (
      arith,
      length-append (link_leaves o m d.side l) (links_leaves files links ds ls),
      link_many n o m d.side x l are.0,
      links_many files (n + side_leaf_count d.side) links ds xs ls are.1 (omega (arith, many)),
    )

-- the nodes of each link hold it
abbrev HoldLinks : List LinkDef → List LinkTree → List Link → List LeafMap → Type 0
HoldLinks links xs ls maps = (i : ℕ) → i < length links
    → IsHeldAt xs i (get_or ls i fin.empty) maps

links_hold : (files : List FileDef) (n : ℕ) (links : List LinkDef) (ds : List DefinitionTree)
    (xs : List LinkTree) (ls : List Link) (maps : List LeafMap)
    → AreTreesOfLinks files n links ds xs → length ls ≡ length links → HoldLinks links xs ls maps
    → HoldFrom n (links_leaves files links ds ls) maps
links_hold files n [] [] [] ls maps are many held = tt
links_hold files n [] [] (x ∷ xs) ls maps are many held = absurd are
links_hold files n [] (d ∷ ds) xs ls maps are many held = absurd are
links_hold files n (link ∷ links) [] xs ls maps are many held = absurd are
links_hold files n (link ∷ links) (d ∷ ds) [] ls maps are many held = absurd are
links_hold files n (link ∷ links) (d ∷ ds) (x ∷ xs) [] maps are many held =
    absurd (omega (arith, many))
links_hold files n (link ∷ links) (d ∷ ds) (x ∷ xs) (l ∷ ls) maps are many held =
    let o = owner_kind files link in
    let m = member_kind files link in
    let Bs = links_leaves files links ds ls in
    hold_both n (link_leaves o m d.side l) Bs maps
    (link_holds n o m d.side x l maps are.0 (held 0 (omega arith)))
    (at_number (n + side_leaf_count d.side) _ Bs maps
    (ap (λ k. n + k) (sym (link_many n o m d.side x l are.0)))
    (links_hold files (n + side_leaf_count d.side) links ds xs ls maps are.1 (omega (arith, many))
    (λ i lt. held (suc i) (omega (arith, lt)))))

links_back : (files : List FileDef) (n : ℕ) (links : List LinkDef) (ds : List DefinitionTree)
    (xs : List LinkTree) (ls : List Link) (maps : List LeafMap)
    → AreTreesOfLinks files n links ds xs → length ls ≡ length links
    → HoldFrom n (links_leaves files links ds ls) maps → HoldLinks links xs ls maps
links_back files n [] ds xs ls maps are many held i lt = absurd (omega (arith, lt))
links_back files n (link ∷ links) [] xs ls maps are many held i lt = absurd are
links_back files n (link ∷ links) (d ∷ ds) [] ls maps are many held i lt = absurd are
links_back files n (link ∷ links) (d ∷ ds) (x ∷ xs) [] maps are many held i lt =
    absurd (omega (arith, many))
links_back files n (link ∷ links) (d ∷ ds) (x ∷ xs) (l ∷ ls) maps are many held zero lt =
    let o = owner_kind files link in
    let m = member_kind files link in
    link_back n o m d.side x l maps are.0
    (hold_first n (link_leaves o m d.side l) (links_leaves files links ds ls) maps held)
links_back files n (link ∷ links) (d ∷ ds) (x ∷ xs) (l ∷ ls) maps are many held (suc i) lt =
    let o = owner_kind files link in
    let m = member_kind files link in
    let Bs = links_leaves files links ds ls in
    links_back files (n + side_leaf_count d.side) links ds xs ls maps are.1 (omega (arith, many))
    (at_number _ (n + side_leaf_count d.side) Bs maps
    (ap (λ k. n + k) (link_many n o m d.side x l are.0))
    (hold_rest n (link_leaves o m d.side l) Bs maps held)) i (omega (arith, lt))

-- ---- all of them

-- as many leaves as the definitions have
pub state_many : (schema : Schema) (ds : List DefinitionTree) (built : Built) (s : State)
    → IsBuiltOf schema ds built → length s.files ≡ length schema.files
    → length s.links ≡ length schema.links
    → length (state_leaves schema ds s)
    ≡ file_leaf_count schema.files ds + all_leaf_count (link_definitions schema.files ds)
state_many schema ds built s are files_are links_are =
    let behind = link_definitions schema.files ds in
    omega (
      arith,
      length-append (files_leaves schema.files ds s.files)
          (links_leaves schema.files schema.links behind s.links),
      files_many 0 schema.files ds built.files s.files are.files files_are,
      links_many schema.files (file_leaf_count schema.files ds) schema.links behind built.links
          s.links are.links links_are,
    )

-- what nodes hold is the internal form
pub form_of_nodes : (schema : Schema) (ds : List DefinitionTree) (built : Built)
    (maps : List LeafMap) (s : State) → IsBuiltOf schema ds built
    → AreInternal schema built maps s → IsInternalForm schema ds maps s
form_of_nodes schema ds built maps s are is =
    let n = file_leaf_count schema.files ds in
    let behind = link_definitions schema.files ds in
    let As = files_leaves schema.files ds s.files in
    let Bs = links_leaves schema.files schema.links behind s.links in
    let files = files_hold 0 schema.files ds built.files s.files maps are.files is.valid.files_many
    is.files in
    let links = links_hold schema.files n schema.links behind built.links s.links maps are.links
    is.valid.links_many is.links in
    let from : n ≡ 0 + length As =
    omega (arith, files_many 0 schema.files ds built.files s.files are.files is.valid.files_many)
    in
    record {
      valid = is.valid;
      leaves = λ k lt. subst (λ x. IsLeafMap (map_at maps x) (get_or (As ++ Bs) k [])) (omega arith)
          (each_of 0 k (As ++ Bs) maps lt
          (hold_both 0 As Bs maps files (at_number n (0 + length As) Bs maps from links)));
    }

-- and nodes hold it
pub nodes_of_form : (schema : Schema) (ds : List DefinitionTree) (built : Built)
    (maps : List LeafMap) (s : State) → IsBuiltOf schema ds built
    → IsInternalForm schema ds maps s → AreInternal schema built maps s
nodes_of_form schema ds built maps s are is =
    let n = file_leaf_count schema.files ds in
    let behind = link_definitions schema.files ds in
    let As = files_leaves schema.files ds s.files in
    let Bs = links_leaves schema.files schema.links behind s.links in
    let all = all_of 0 (As ++ Bs) maps (λ k lt. subst
    (λ x. IsLeafMap (map_at maps x) (get_or (As ++ Bs) k [])) (omega arith) (is.leaves k lt)) in
    let to : 0 + length As ≡ n =
    omega (arith, files_many 0 schema.files ds built.files s.files are.files is.valid.files_many)
    in
    record {
      valid = is.valid;
      files = files_back 0 schema.files ds built.files s.files maps are.files is.valid.files_many
          (hold_first 0 As Bs maps all);
      links = links_back schema.files n schema.links behind built.links s.links maps are.links
          is.valid.links_many (at_number (0 + length As) n Bs maps to (hold_rest 0 As Bs maps all));
    }
