-- The access of a node, step by step.
use Rattle.std.proofs.lemmas.List.{map-append}
use Rattle.std.proofs.Common.{◌≡◌, ℕ, suc, ◌-◌, take, take_all, drop, ◌<◌, ◌≤◌, List, [], ◌∷◌, ◌++◌, length, map, get_or, refl, sym, ap, subst, ◌∙◌, arith, append_assoc, Some, None, Option, Bool, true, false, if◌then◌else◌}
use Rattle.std.specs.Bool.{then_some}
use Rattle.std.specs.Prelude.{Result, Ok, Err, IfOk, IfSome}
use Rattle.std.specs.List.{flat_map}
use Rattle.std.specs.Option.{option_map, option_and_then}
use Rattle.gx_values.specs.declared.values.Value.{Value}
use Rattle.gx_values.specs.declared.records.Field.{Field}
use Rattle.gx_mapping.specs.Rule.{Rule}
use Rattle.gx_stack.specs.declared.node.Node.{Node}
use Rattle.gx_stack.specs.declared.node.LeafNode.{LeafNode}
use Rattle.gx_stack.specs.declared.node.LayerNode.{LayerNode}
use Rattle.gx_stack.specs.declared.node.Node.TheVariants as nodes
use Rattle.gx_stack.specs.Tree.{height, kids_height}
use Rattle.gx_stack.specs.Seen.{tree_of, kids_from}
use Rattle.gx_stack.proofs.Seen.{seen_layer, seen_leaf}
use Rattle.gx_access.specs.declared.arrangement.Arrangement.{Arrangement}
use Rattle.gx_access.specs.declared.arrangement.Arrangement.TheVariants.{Groups}
use Rattle.gx_codec.specs.declared.slots.Slot.{Slot}
use Rattle.gx_access.specs.declared.access.Tested.{Tested}
use Rattle.gx_access.specs.declared.access.View.{View}
use Rattle.gx_access.specs.declared.access.Fragment.{Fragment}
use Rattle.gx_access.specs.declared.access.Chooser.{Chooser}
use Rattle.gx_access.specs.declared.access.Access.{Access}
use Rattle.gx_access.specs.declared.access.Access.TheVariants as accesses
use Rattle.gx_access.specs.declared.access.Access.TheOpen as open_access
use Rattle.gx_access.specs.declared.access.Access.TheFolds.{fold-roll-Access}
use Rattle.gx_access.specs.Access.{Choice, Choices, Only, By, no_choices, choice, flat, fragment_of}
use Rattle.gx_access.specs.Seen.{choice_step, choice_of, choices_from}
use Rattle.gx_access.specs.Views.{if_flat, group_views}
use Rattle.gx_access.specs.Whole.{Below, only_fragments, both, joined, first_leaf, column_fragments, kid_choices, access_row, access_below, kids_below}

-- ---- accesses as alternatives

pub seen_only : (fs : List Fragment) → choice_of (accesses.Only fs) ≡ Only fs
seen_only fs = ap choice_of (sym (accesses.rolls-Only fs))
    ∙ fold-roll-Access Choice choice_step (open_access.Only fs)

pub then_only : (b : Bool) (a : Access) (ch : Choice) → choice_of a ≡ ch
    → option_map choice_of (then_some b a) ≡ (if b then Some ch else None)
then_only true a ch is = ap Some is
then_only false a ch is = refl

-- none is found where it isn't some
pub none_left : {A : Type 0} (o : Option A) → ((x : A) → o ≡ Some x → ⊥) → o ≡ None
none_left None other = refl
none_left (Some x) other = absurd (other x refl)

-- ---- two groups

pub joined_none : (o p : Option Choice) → only_fragments o ≡ None → joined o p ≡ None
joined_none o p none =
    ap (λ (q : Option (List Fragment)).
    both (λ (fs gs : List Fragment). Only (fs ++ gs)) q (only_fragments p)) none

pub joined_one : (o p : Option Choice) (fs : List Fragment) → only_fragments o ≡ Some fs
    → only_fragments p ≡ None → joined o p ≡ None
joined_one o p fs one none =
    λ j. both (λ (fs gs : List Fragment). Only (fs ++ gs)) (one j) (none j)

pub joined_both : (o p : Option Choice) (fs gs : List Fragment) → only_fragments o ≡ Some fs
    → only_fragments p ≡ Some gs → joined o p ≡ Some (Only (fs ++ gs))
joined_both o p fs gs one other =
    λ j. both (λ (fs gs : List Fragment). Only (fs ++ gs)) (one j) (other j)

-- ---- heights

pub first_low : {M : Type 0} (n : Node M) (ns : List (Node M))
    → height (tree_of n) ≤ kids_height (kids_from (map tree_of (n ∷ ns)))
first_low n ns = omega arith

pub others_low : {M : Type 0} (n : Node M) (ns : List (Node M))
    → kids_height (kids_from (map tree_of ns)) ≤ kids_height (kids_from (map tree_of (n ∷ ns)))
others_low n ns = omega arith

pub layer_high : {M : Type 0} (n : Node M) (l : LayerNode M) → n ≡ nodes.Layer l
    → height (tree_of n) ≡ suc (kids_height (kids_from (map tree_of l.kids.items)))
layer_high n l is = ap height (seen_layer n l is)

-- the first of some, and those behind it
pub split_first : {A : Type 0} (xs : List A) (x : A) → 1 ≤ length xs → x ≡ get_or xs 0 x
    → xs ≡ x ∷ take (length xs - 1) (drop 1 xs)
split_first [] x some at = absurd (omega arith)
split_first (y ∷ xs) x some at =
    let short : length (y ∷ xs) - 1 ≡ length xs = omega arith in
    ap (λ z. z ∷ xs) (sym at) ∙ ap (λ ys. x ∷ ys) (sym (take_all (length xs) xs (omega arith)))
    ∙ ap (λ n. x ∷ take n xs) (sym short)

-- ---- columns

pub where_flat : {A : Type 0} (n : ℕ) (o : Option A) → n ≡ 0 → if_flat n o ≡ o
where_flat n o is = ap (λ m. if_flat m o) is

-- the fragments so far and those of the columns to come
abbrev pub with_columns : List Fragment → List Below → List (List Tested) → List Slot
    → Option Choice
with_columns all ks groups slots =
    option_map (λ fss. Only (all ++ flat_map (λ fs. fs) fss)) (column_fragments ks groups slots)

column_on : (all more : List Fragment) (o : Option (List (List Fragment)))
    → option_map (λ (fss : List (List Fragment)). Only (all ++ flat_map (λ fs. fs) fss))
    (both (λ (fs : List Fragment) (fss : List (List Fragment)). fs ∷ fss) (Some more) o)
    ≡ option_map (λ (fss : List (List Fragment)). Only ((all ++ more) ++ flat_map (λ fs. fs) fss)) o
column_on all more None = refl
column_on all more (Some fss) =
    ap (λ fs. Some (Only fs)) (sym (append_assoc all more (flat_map (λ fs. fs) fss)))

-- one column more
pub column_next : (all more next : List Fragment) (k : Below) (ks : List Below)
    (groups : List (List Tested)) (s : Slot) (slots : List Slot) (o : Option Choice)
    → o ≡ k.of (flat (s ∷ []) groups) → only_fragments o ≡ Some more → next ≡ all ++ more
    → with_columns all (k ∷ ks) groups (s ∷ slots) ≡ with_columns next ks groups slots
column_next all more next k ks groups s slots o is found new =
    ap (λ (p : Option (List Fragment)). option_map
    (λ (fss : List (List Fragment)). Only (all ++ flat_map (λ fs. fs) fss))
    (both (λ (fs : List Fragment) (fss : List (List Fragment)). fs ∷ fss) p
    (column_fragments ks groups slots))) (ap only_fragments (sym is) ∙ found)
    ∙ column_on all more (column_fragments ks groups slots)
    ∙ ap (λ (fs : List Fragment). with_columns fs ks groups slots) (sym new)

-- a column without an access
pub column_none : (all : List Fragment) (k : Below) (ks : List Below)
    (groups : List (List Tested)) (s : Slot) (slots : List Slot) (o : Option Choice)
    → o ≡ k.of (flat (s ∷ []) groups) → only_fragments o ≡ None
    → with_columns all (k ∷ ks) groups (s ∷ slots) ≡ None
column_none all k ks groups s slots o is none =
    ap (λ (p : Option (List Fragment)). option_map
    (λ (fss : List (List Fragment)). Only (all ++ flat_map (λ fs. fs) fss))
    (both (λ (fs : List Fragment) (fss : List (List Fragment)). fs ∷ fss) p
    (column_fragments ks groups slots))) (ap only_fragments (sym is) ∙ none)

-- ---- alternatives

-- those so far, and then these
abbrev pub behind : List Choice → Choices → Choices
behind [] cs = cs
behind (ch ∷ chs) cs = choice ch (behind chs cs)

behind_more : (chs : List Choice) (ch : Choice) (cs : Choices)
    → behind (chs ++ ch ∷ []) cs ≡ behind chs (choice ch cs)
behind_more [] ch cs = refl
behind_more (c ∷ chs) ch cs = ap (choice c) (behind_more chs ch cs)

pub behind_all : (chs : List Choice) → behind chs no_choices ≡ choices_from chs
behind_all [] = refl
behind_all (c ∷ chs) = ap (choice c) (behind_all chs)

abbrev pub with_choices : List Choice → List Below → View → Option Choices
with_choices chs ks x = option_map (behind chs) (kid_choices ks x)

pub with_none : (ks : List Below) (x : View) → with_choices [] ks x ≡ kid_choices ks x
with_none ks x = same (kid_choices ks x)
  where
    same : (o : Option Choices) → option_map (behind []) o ≡ o
    same None = refl
    same (Some cs) = refl

choices_on : (chs : List Choice) (ch : Choice) (o : Option Choices)
    → option_map (behind chs) (both choice (Some ch) o) ≡ option_map (behind (chs ++ ch ∷ [])) o
choices_on chs ch None = refl
choices_on chs ch (Some cs) = ap Some (sym (behind_more chs ch cs))

-- one alternative more
pub choices_next : (chs next : List Choice) (ch : Choice) (k : Below) (ks : List Below) (x : View)
    → k.of x ≡ Some ch → next ≡ chs ++ ch ∷ []
    → with_choices chs (k ∷ ks) x ≡ with_choices next ks x
choices_next chs next ch k ks x is new =
    ap (λ (o : Option Choice). option_map (behind chs) (both choice o (kid_choices ks x))) is
    ∙ choices_on chs ch (kid_choices ks x)
    ∙ ap (λ (cs : List Choice). with_choices cs ks x) (sym new)

-- a child without an access
pub choices_none : (chs : List Choice) (k : Below) (ks : List Below) (x : View) → k.of x ≡ None
    → with_choices chs (k ∷ ks) x ≡ None
choices_none chs k ks x is =
    ap (λ (o : Option Choice). option_map (behind chs) (both choice o (kid_choices ks x))) is

pub by_none : (bounds : List Value) (o : Option Chooser) (p : Option Choices) → p ≡ None
    → both (λ (c : Chooser) (cs : Choices). By c bounds cs) o p ≡ None
by_none bounds None p is = refl
by_none bounds (Some c) p is =
    ap (both (λ (c : Chooser) (cs : Choices). By c bounds cs) (Some c)) is

-- ---- a layer and a leaf

module _ {M : Type 0} (rule : M → Rule) (arranged : M → Arrangement) (fields : List Field) where
  abbrev pub of_nodes : List (Node M) → List Below
  of_nodes ns = kids_below rule arranged fields (kids_from (map tree_of ns))

  pub layer_row : (n : Node M) (l : LayerNode M) (x : View) (a : Arrangement) (own : List Field)
      → n ≡ nodes.Layer l → a ≡ arranged l.mapping → own ≡ (rule l.mapping).form.fields
      → access_row fields a own (of_nodes l.kids.items) x
      ≡ (access_below rule arranged fields (tree_of n)).of x
  layer_row n l x a own is a_is own_is =
      (λ j. access_row fields (a_is j) (own_is j) (of_nodes l.kids.items) x)
      ∙ ap (λ t. (access_below rule arranged fields t).of x) (sym (seen_layer n l is))

  pub leaf_row : (n : Node M) (l : LeafNode) (x : View) → n ≡ nodes.Leaf l
      → Some (Only (fragment_of fields l.leaf None x ∷ []))
      ≡ (access_below rule arranged fields (tree_of n)).of x
  leaf_row n l x is = ap (λ t. (access_below rule arranged fields t).of x) (sym (seen_leaf n l is))

  pub layer_no_leaf : (n : Node M) (l : LayerNode M) → n ≡ nodes.Layer l
      → None ≡ (access_below rule arranged fields (tree_of n)).leaf
  layer_no_leaf n l is =
      ap (λ t. (access_below rule arranged fields t).leaf) (sym (seen_layer n l is))

  -- the first child is no leaf
  pub layer_first : (ns : List (Node M)) (n : Node M) (l : LayerNode M) → 1 ≤ length ns
      → n ≡ get_or ns 0 n → n ≡ nodes.Layer l → None ≡ first_leaf (of_nodes ns)
  layer_first [] n l some at is = absurd (omega arith)
  layer_first (x ∷ ns) n l some at is = layer_no_leaf x l (sym at ∙ is)

  -- one alternative more, and one child less
  pub alternative_done : (left : List (Node M)) (kid : Node M) (x : View) (acc more : List Access)
      (a : Access) (o : Option Access) (high : ℕ) (goal : Option Choices) → 1 ≤ length left
      → kid ≡ get_or left 0 kid
      → option_map choice_of o ≡ (access_below rule arranged fields (tree_of kid)).of x
      → o ≡ Some a → more ≡ acc ++ a ∷ []
      → kids_height (kids_from (map tree_of left)) ≤ high
      → with_choices (map choice_of acc) (of_nodes left) x ≡ goal
      → (kids_height (kids_from (map tree_of (take (length left - 1) (drop 1 left)))) ≤ high)
      × (with_choices (map choice_of more) (of_nodes (take (length left - 1) (drop 1 left))) x ≡ goal)
  alternative_done left kid x acc more a o high goal some at found is new low so_far =
      let rest = take (length left - 1) (drop 1 left) in
      let split = split_first left kid some at in
      let lower : kids_height (kids_from (map tree_of (kid ∷ rest))) ≤ high =
      subst (λ (ns : List (Node M)). kids_height (kids_from (map tree_of ns)) ≤ high) split low in (
        omega (arith, others_low kid rest, lower),
        sym (choices_next (map choice_of acc) (map choice_of more) (choice_of a)
            (access_below rule arranged fields (tree_of kid)) (of_nodes rest) x
            (sym found ∙ ap (option_map choice_of) is)
            (ap (map choice_of) new ∙ map-append choice_of acc (a ∷ [])))
            ∙ ap (λ (ns : List (Node M)). with_choices (map choice_of acc) (of_nodes ns) x) (sym split)
            ∙ so_far,
      )

  -- no child is left
  pub alternatives_done : (left all : List (Node M)) (x : View) (acc : List Access)
      (bounds : List Value) (chooser : Chooser) (o : Option Chooser) → length left < 1
      → o ≡ Some chooser
      → with_choices (map choice_of acc) (of_nodes left) x ≡ with_choices [] (of_nodes all) x
      → Some (By chooser bounds (choices_from (map choice_of acc)))
      ≡ both (λ (c : Chooser) (cs : Choices). By c bounds cs) o (kid_choices (of_nodes all) x)
  alternatives_done [] all x acc bounds chooser o few is so_far =
      ap (λ cs. Some (By chooser bounds cs)) (sym (behind_all (map choice_of acc)))
      ∙ (λ j. both (λ (c : Chooser) (cs : Choices). By c bounds cs) (sym is j)
      ((so_far ∙ with_none (of_nodes all) x) j))
  alternatives_done (n ∷ left) all x acc bounds chooser o few is so_far = absurd (omega arith)

  -- one column more, and one child less
  pub column_done : (left : List (Node M)) (slots : List Slot) (kid : Node M) (s : Slot)
      (groups : List (List Tested)) (all more next : List Fragment) (o : Option Choice) (high : ℕ)
      (goal : Option Choice) → 1 ≤ length left → 1 ≤ length slots → kid ≡ get_or left 0 kid
      → o ≡ (access_below rule arranged fields (tree_of kid)).of
      (flat (get_or slots 0 s ∷ []) groups)
      → only_fragments o ≡ Some more → next ≡ all ++ more
      → kids_height (kids_from (map tree_of left)) ≤ high
      → with_columns all (of_nodes left) groups slots ≡ goal
      → (kids_height (kids_from (map tree_of (take (length left - 1) (drop 1 left)))) ≤ high)
      × (with_columns next (of_nodes (take (length left - 1) (drop 1 left))) groups
      (take (length slots - 1) (drop 1 slots)) ≡ goal)
  column_done left [] kid s groups all more next o high goal some none at found is new low so_far =
      absurd (omega arith)
  column_done left (t ∷ slots) kid s groups all more next o high goal some none at found is new low so_far =
      let rest = take (length left - 1) (drop 1 left) in
      let split = split_first left kid some at in
      let behind = split_first (t ∷ slots) t (omega arith) refl in
      let lower : kids_height (kids_from (map tree_of (kid ∷ rest))) ≤ high =
      subst (λ (ns : List (Node M)). kids_height (kids_from (map tree_of ns)) ≤ high) split low in (
        omega (arith, others_low kid rest, lower),
        sym (column_next all more next (access_below rule arranged fields (tree_of kid))
            (of_nodes rest) groups t (take (length (t ∷ slots) - 1) (drop 1 (t ∷ slots))) o found is new)
            ∙ (λ j. with_columns all (of_nodes (sym split j)) groups (sym behind j)) ∙ so_far,
      )

  -- a column without an access
  pub column_failed : (left : List (Node M)) (slots : List Slot) (kid : Node M) (s : Slot)
      (groups : List (List Tested)) (all : List Fragment) (o : Option Choice)
      (goal : Option Choice) → 1 ≤ length left → 1 ≤ length slots → kid ≡ get_or left 0 kid
      → o ≡ (access_below rule arranged fields (tree_of kid)).of
      (flat (get_or slots 0 s ∷ []) groups)
      → only_fragments o ≡ None → with_columns all (of_nodes left) groups slots ≡ goal
      → None ≡ goal
  column_failed left [] kid s groups all o goal some none at found is so_far =
      absurd (omega arith)
  column_failed left (t ∷ slots) kid s groups all o goal some none at found is so_far =
      let rest = take (length left - 1) (drop 1 left) in
      let split = split_first left kid some at in
      sym (column_none all (access_below rule arranged fields (tree_of kid)) (of_nodes rest) groups t
      slots o found is)
      ∙ (λ j. with_columns all (of_nodes (sym split j)) groups (t ∷ slots)) ∙ so_far

  -- two children and more
  pub groups_row : (ns : List (Node M)) (n m : Node M) (mask : List Bool) (own : List Field)
      (x : View) → 2 ≤ length ns → n ≡ get_or ns 0 n → m ≡ get_or ns 1 m
      → option_and_then (λ (p : View × View).
      joined ((access_below rule arranged fields (tree_of n)).of p.0)
      ((access_below rule arranged fields (tree_of m)).of p.1)) (group_views mask own x)
      ≡ access_row fields (Groups mask) own (of_nodes ns) x
  groups_row [] n m mask own x some first second = absurd (omega arith)
  groups_row (a ∷ []) n m mask own x some first second = absurd (omega arith)
  groups_row (a ∷ b ∷ ns) n m mask own x some first second =
      λ j. option_and_then (λ (p : View × View).
      joined ((access_below rule arranged fields (tree_of (first j))).of p.0)
      ((access_below rule arranged fields (tree_of (second j))).of p.1)) (group_views mask own x)

  -- what both groups have
  pub groups_found : (ns : List (Node M)) (n m : Node M) (mask : List Bool) (own : List Field)
      (x one other : View) (o p : Option Choice) → 2 ≤ length ns → n ≡ get_or ns 0 n
      → m ≡ get_or ns 1 m → group_views mask own x ≡ Some (one, other)
      → o ≡ (access_below rule arranged fields (tree_of n)).of one
      → p ≡ (access_below rule arranged fields (tree_of m)).of other
      → joined o p ≡ access_row fields (Groups mask) own (of_nodes ns) x
  groups_found ns n m mask own x one other o p some first second views o_is p_is =
      (λ j. joined (o_is j) (p_is j))
      ∙ ap (option_and_then (λ (p : View × View).
      joined ((access_below rule arranged fields (tree_of n)).of p.0)
      ((access_below rule arranged fields (tree_of m)).of p.1))) (sym views)
      ∙ groups_row ns n m mask own x some first second

  pub groups_few : (ns : List (Node M)) (mask : List Bool) (own : List Field) (x : View)
      → length ns < 2 → None ≡ access_row fields (Groups mask) own (of_nodes ns) x
  groups_few [] mask own x few = refl
  groups_few (a ∷ []) mask own x few = refl
  groups_few (a ∷ b ∷ ns) mask own x few = absurd (omega arith)

-- what is said of a value is said in other words
pub ok_weaker : {T E : Type 0} (r : Result T E) (P Q : T → Type 0) → ((x : T) → P x → Q x)
    → IfOk r P → IfOk r Q
ok_weaker (Ok x) P Q f h = f x h
ok_weaker (Err e) P Q f h = h

-- what follows of what is found
pub if_found : {A B : Type 0} (f : A → B) (o : Option A) (p : Option B) (P : A → Type 0)
    → option_map f o ≡ p → ((x : A) → p ≡ Some (f x) → P x) → IfSome o P
if_found f None p P is h = tt
if_found f (Some x) p P is h = h x (sym is)
