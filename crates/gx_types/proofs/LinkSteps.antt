-- Steps of building links: the sides of each linkset, and a link behind those before it.
use Rattle.std.proofs.Common.{◌≡◌, ℕ, zero, suc, ◌+◌, ◌*◌, ◌<◌, ◌≤◌, List, [], ◌∷◌, ◌++◌, length, drop, refl, sym, ap, subst, ◌∙◌, arith}
use Rattle.std.specs.Prelude.{max}
use Rattle.std.proofs.lemmas.List.{append-nil}
use Rattle.gx_values.specs.Keys.{width_of}
use Rattle.gx_values.specs.declared.values.Kind.{Kind}
use Rattle.gx_values.specs.declared.records.Form.{Form}
use Rattle.gx_schema.specs.declared.schema.FileDef.{FileDef}
use Rattle.gx_schema.specs.declared.schema.LinkDef.{LinkDef}
use Rattle.gx_equation.specs.declared.heads.Linkset.{Linkset}
use Rattle.gx_equation.specs.declared.equation.Definition.{Definition}
use Rattle.gx_equation.specs.Seen.{definitions_of}
use Rattle.gx_equation.specs.Trees.{TermTree, none, kid, SideTree, link_side, DefinitionTree}
use Rattle.gx_forms.specs.Forms.{link_form}
use Rattle.gx_stack.specs.Tree.{Tree as NodeTree, no_kids, kid as node_kid}
use Rattle.gx_types.specs.declared.any.AnyMapping.{AnyMapping}
use Rattle.gx_types.specs.declared.built.LinkTree.{LinkTree}
use Rattle.gx_types.specs.Build.{leaf_count, side_leaf_count, file_leaf_count, link_definitions, IsTreeOf, AreTreesOf, IsLinkTreeOfSide, AreTreesOfLinks, IsReady, IsReadyLink, IsReadyLinkSide, AreReadyLinks}
use Rattle.gx_types.specs.Links.{linkset_of, link_kids}
use Rattle.gx_types.proofs.MakerLaws.{greater}
use Rattle.gx_types.proofs.ReadyLaws.{first_ready, others_ready}

-- ---- the bytes of the fields are counted exactly

pub members_few : (n : ℕ) (o m : Kind) (linkset : Linkset) (ts : List TermTree)
    → IsReadyLink n o m linkset ts → 500 * width_of m ≤ 65535
members_few n o m linkset ts ready = omega (arith, ready.narrow_member)

pub next_few : (n : ℕ) (o m : Kind) (linkset : Linkset) (ts : List TermTree)
    → IsReadyLink n o m linkset ts → max (width_of o) (width_of m) ≤ 65535
next_few n o m linkset ts ready =
    greater (width_of o) (width_of m) 65535 (omega (arith, ready.narrow_owner))
    (omega (arith, ready.narrow_member))

-- ---- a link of one term

module _ (n : ℕ) (o m : Kind) (form : Form) (side : SideTree) (linkset : Linkset) (t : TermTree)
    (is : side ≡ link_side linkset (t ∷ [])) where
  pub one_link : IsReadyLinkSide n o m side → IsReadyLink n o m linkset (t ∷ [])
  one_link ready = subst (IsReadyLinkSide n o m) is ready

  pub one_ready : form ≡ link_form linkset o m 0 → IsReadyLinkSide n o m side → IsReady n form t
  one_ready form_is ready =
      subst (λ (f : Form). IsReady n f t) (sym form_is)
      (first_ready n (link_form linkset o m) 0 t none (one_link ready).terms)

  pub one_count : side_leaf_count side ≡ leaf_count t
  one_count = omega (arith, ap side_leaf_count is)

  pub one_tree : (x : LinkTree) (u : NodeTree AnyMapping) → form ≡ link_form linkset o m 0
      → linkset_of x ≡ linkset → link_kids x ≡ node_kid u no_kids → IsTreeOf n form t u
      → IsLinkTreeOfSide n o m side x
  one_tree x u form_is linkset_is kids_are tree =
      subst (λ (s : SideTree). IsLinkTreeOfSide n o m s x) (sym is) (record {
        head = linkset_is;
        trees = subst (AreTreesOf n (link_form linkset o m) 0 (kid t none)) (sym kids_are)
            (subst (λ (f : Form). IsTreeOf n f t u) form_is tree, tt);
      })

-- ---- a link of two terms

module _ (n : ℕ) (o m : Kind) (forms : Form × Form) (side : SideTree) (linkset : Linkset)
    (t u : TermTree) (is : side ≡ link_side linkset (t ∷ u ∷ [])) where
  pub both_link : IsReadyLinkSide n o m side → IsReadyLink n o m linkset (t ∷ u ∷ [])
  both_link ready = subst (IsReadyLinkSide n o m) is ready

  pub both_ready : forms.0 ≡ link_form linkset o m 0 → forms.1 ≡ link_form linkset o m 1
      → IsReadyLinkSide n o m side → IsReady n forms.0 t × IsReady (n + leaf_count t) forms.1 u
  both_ready first_is second_is ready =
      let terms = (both_link ready).terms in (
        subst (λ (f : Form). IsReady n f t) (sym first_is)
            (first_ready n (link_form linkset o m) 0 t (kid u none) terms),
        subst (λ (f : Form). IsReady (n + leaf_count t) f u) (sym second_is)
            (first_ready (n + leaf_count t) (link_form linkset o m) 1 u none
            (others_ready n (link_form linkset o m) 0 t (kid u none) terms)),
      )

  pub both_count : side_leaf_count side ≡ leaf_count t + leaf_count u
  both_count = omega (arith, ap side_leaf_count is)

  pub both_trees : (x : LinkTree) (a b : NodeTree AnyMapping) → forms.0 ≡ link_form linkset o m 0
      → forms.1 ≡ link_form linkset o m 1 → linkset_of x ≡ linkset
      → link_kids x ≡ node_kid a (node_kid b no_kids)
      → IsTreeOf n forms.0 t a → IsTreeOf (n + leaf_count t) forms.1 u b
      → IsLinkTreeOfSide n o m side x
  both_trees x a b first_is second_is linkset_is kids_are first second =
      subst (λ (s : SideTree). IsLinkTreeOfSide n o m s x) (sym is) (record {
        head = linkset_is;
        trees = subst (AreTreesOf n (link_form linkset o m) 0 (kid t (kid u none))) (sym kids_are) (
          subst (λ (f : Form). IsTreeOf n f t a) first_is first,
          (subst (λ (f : Form). IsTreeOf (n + leaf_count t) f u b) second_is second, tt),
        );
      })

-- ---- the definitions of links

pub definitions_behind : (k : ℕ) (ds : List Definition)
    → definitions_of (drop k ds) ≡ drop k (definitions_of ds)
definitions_behind zero ds = refl
definitions_behind (suc k) [] = refl
definitions_behind (suc k) (d ∷ ds) = definitions_behind k ds

-- what is said of the links and of the definitions behind those of the files, as the schema has
-- them or as they are passed on
module _ (P : List FileDef → ℕ → List LinkDef → List DefinitionTree
    → Type 0) (files given : List FileDef) (links linked : List LinkDef)
    (whole ds rest : List Definition) (next : ℕ) (files_are : given ≡ files)
    (links_are : linked ≡ links) (whole_is : ds ≡ whole)
    (rest_is : rest ≡ drop (length given) ds)
    (next_is : next ≡ 0 + file_leaf_count given (definitions_of ds)) where
  behind_is : definitions_of rest ≡ link_definitions files (definitions_of whole)
  behind_is = ap definitions_of rest_is ∙ definitions_behind (length given) ds
      ∙ (λ i. drop (length (files_are i)) (definitions_of (whole_is i)))

  count_is : next ≡ file_leaf_count files (definitions_of whole)
  count_is =
      let same : file_leaf_count given (definitions_of ds) ≡ file_leaf_count files
      (definitions_of whole) = λ i. file_leaf_count (files_are i) (definitions_of (whole_is i))
      in
      omega (arith, next_is, same)

  pub passed_on : P files (file_leaf_count files (definitions_of whole)) links
      (link_definitions files (definitions_of whole)) → P given next linked (definitions_of rest)
  passed_on h =
      subst (λ (fs : List FileDef). P fs next linked (definitions_of rest)) (sym files_are)
      (subst (λ (n : ℕ). P files n linked (definitions_of rest)) (sym count_is)
      (subst (λ (ls : List LinkDef). P files (file_leaf_count files (definitions_of whole)) ls
      (definitions_of rest)) (sym links_are)
      (subst (P files (file_leaf_count files (definitions_of whole)) links) (sym behind_is) h)))

  pub taken_back : P given next linked (definitions_of rest)
      → P files (file_leaf_count files (definitions_of whole)) links
      (link_definitions files (definitions_of whole))
  taken_back h =
      subst (P files (file_leaf_count files (definitions_of whole)) links) behind_is
      (subst (λ (ls : List LinkDef). P files (file_leaf_count files (definitions_of whole)) ls
      (definitions_of rest)) links_are
      (subst (λ (n : ℕ). P files n linked (definitions_of rest)) count_is
      (subst (λ (fs : List FileDef). P fs next linked (definitions_of rest)) files_are h)))

-- ---- behind the last link

pub all_links : (files : List FileDef) (first next : ℕ) (links left : List LinkDef)
    (definitions rest : List Definition) (trees : List LinkTree) → length left < 1
    → AreReadyLinks files next left (definitions_of rest)
    → ((more : List LinkTree) → AreTreesOfLinks files next left (definitions_of rest) more
    → AreTreesOfLinks files first links (definitions_of definitions) (trees ++ more))
    → AreTreesOfLinks files first links (definitions_of definitions) trees
all_links files first next links [] definitions [] trees end ready so_far =
    subst (AreTreesOfLinks files first links (definitions_of definitions)) (append-nil trees)
    (so_far [] tt)
all_links files first next links [] definitions (d ∷ rest) trees end ready so_far = absurd ready
all_links files first next links (link ∷ left) definitions rest trees end ready so_far =
    absurd (omega (arith, end))
