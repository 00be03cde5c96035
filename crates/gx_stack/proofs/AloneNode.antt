-- A node whose layer has one child alone searched.
use Rattle.std.proofs.Common.{◌≡◌, ◌<◌, ◌+◌, ℕ, List, [], ◌∷◌, ◌++◌, None, sym, ap, ◌∙◌, subst, length, map, get_or, arith}
use Rattle.gx_values.specs.declared.records.Rec.{Rec}
use Rattle.gx_values.specs.declared.keys.Span.{Span}
use Rattle.gx_ports.specs.LeafMaps.{LeafMap}
use Rattle.gx_mapping.specs.Rule.{Rule, In, IsOf, AreOfKey, IsGathered}
use Rattle.gx_mapping.specs.Laws.{MappingLaws}
use Rattle.gx_gather.specs.Gather.{part_for, AreEach}
use Rattle.gx_gather.proofs.Each.{each_fit}
use Rattle.gx_stack.specs.declared.node.Node.{Node}
use Rattle.gx_stack.specs.declared.node.LayerNode.{LayerNode}
use Rattle.gx_stack.specs.declared.node.Node.TheVariants as V
use Rattle.gx_stack.specs.Tree.{leaves_of, entries_of, kid_entries, entry_total, tree_form, IsValid}
use Rattle.gx_stack.specs.Seen.{tree_of, kids_from}
use Rattle.gx_stack.specs.Internal.{IsSet, IsInternal, HasSet, child_records}
use Rattle.gx_mapping.specs.Searched.{IsAlone}
use Rattle.gx_stack.specs.Selected.{IsKeySpan, IsSelection, IsFound}
use Rattle.gx_stack.proofs.Seen.{seen_layer, layer_form, child_there, child_valid, child_internal, kid_entries_at}
use Rattle.gx_stack.proofs.Children.{child_set}
use Rattle.gx_stack.proofs.Selects.{leaves_below_more, leaves_below_all, span_of_child}
use Rattle.gx_stack.proofs.Alone.{alone_rest, alone_of_key, alone_selection, alone_made, alone_total}

module _ {M : Type 0} (rule : M → Rule) (n : Node M) (l : LayerNode M) (is : n ≡ V.Layer l)
    (valid : IsValid rule (tree_of n)) (laws : MappingLaws (rule l.mapping)) (span : Span) (c : ℕ)
    (alone : IsAlone (rule l.mapping) span c) where
  pub alone_there : c < length l.kids.items
  alone_there = child_there rule n l is c valid alone.0.0

  module _ (k : Node M) (read : k ≡ get_or l.kids.items c k) where
    pub alone_kid : (tree_form rule (tree_of k) ≡ (rule l.mapping).kid_form c)
        × IsValid rule (tree_of k)
    alone_kid = child_valid rule n l is c k valid alone_there read

    pub alone_span : IsKeySpan (tree_form rule (tree_of n)) span
        → IsKeySpan (tree_form rule (tree_of k)) span
    alone_span fits = subst (λ f. IsKeySpan f span) (sym alone_kid.0)
        (span_of_child laws c span alone.0.0 (alone_rest laws span c alone)
        (subst (λ f. IsKeySpan f span) (layer_form rule n l is) fits))

    pub alone_key : (q : Rec) → IsOf (tree_form rule (tree_of k)) q
        → AreOfKey (rule l.mapping) q.key (part_for c q ∷ [])
    alone_key q fit = alone_of_key laws span c alone q (subst (λ f. IsOf f q) alone_kid.0 fit)

    -- what is found there, where the leaves hold a set of records
    kid_selection : {whole : Type 0} {maps : List LeafMap} {before steps : ℕ} {old now : List Rec}
        → (f : IsFound rule (tree_of k) whole maps span before steps old now) → whole
        → (R : List Rec) → IsSet (tree_form rule (tree_of n)) R
        → IsInternal rule (tree_of n) R maps
        → IsSelection (child_records (rule l.mapping) c R) span f.found
    kid_selection {maps = maps} f whole R set internal =
        let Rs = child_records (rule l.mapping) c R in
        let in_layer = subst (λ f. IsSet f R) (layer_form rule n l is) set in
        f.selected whole Rs (subst (λ f. IsSet f Rs) (sym alone_kid.0)
        (child_set laws c R in_layer))
        (child_internal rule n l is c k R maps alone_there read internal)

    -- the records that are made of it are what the node finds
    pub alone_found : {whole : Type 0} {maps : List LeafMap} {before steps : ℕ}
        {old now : List Rec} → IsKeySpan (tree_form rule (tree_of n)) span
        → (f : IsFound rule (tree_of k) whole maps span before steps old now)
        → (made made_now : List Rec) → AreEach (rule l.mapping) c f.found made
        → made_now ≡ old ++ made
        → IsFound rule (tree_of n) whole maps span before steps old made_now
    alone_found fits f made made_now each appended =
        let form = layer_form rule n l is in
        let seen = seen_layer n l is in
        let ks = kids_from (map tree_of l.kids.items) in
        let more = leaves_below_more l.kids.items c k alone_there in
        let here = ap (λ x. length (leaves_of (tree_of x))) (sym read) in
        let same : (r : Rec) → kid_entries rule ks c r ≡ entries_of rule (tree_of k) r =
        λ r. kid_entries_at rule l.kids.items c k r alone_there
        ∙ ap (λ x. entries_of rule (tree_of x) r) (sym read) in
        let total = alone_total rule l.mapping ks c (tree_of k) f.found made same each in
        record {
          found = made;
          appended = appended;
          fit = λ r h. subst (λ f. IsOf f r) (sym form)
              (each_fit (rule l.mapping) c f.found made each r h);
          few_steps = omega (
            arith,
            f.few_steps,
            more,
            here,
            leaves_below_all (c + 1) ks,
            total,
            ap (λ x. length (leaves_of x)) seen,
            ap (λ x. entry_total rule x made) seen,
          );
          selected = λ whole R set internal.
              alone_selection laws R (subst (λ f. IsSet f R) form set) span
              (subst (λ f. IsKeySpan f span) form fits) c alone f.found
              (kid_selection f whole R set internal) made each;
        }

    -- each makes a record, where the leaves hold a set of records
    pub alone_sound : {whole : Type 0} {maps : List LeafMap} {before steps : ℕ}
        {old now : List Rec} → IsKeySpan (tree_form rule (tree_of n)) span
        → (f : IsFound rule (tree_of k) whole maps span before steps old now)
        → whole × HasSet rule (tree_of n) maps → (q : Rec) → In q f.found
        → IsGathered (rule l.mapping) q.key (part_for c q ∷ []) None → ⊥
    alone_sound fits f held q there none =
        let form = layer_form rule n l is in
        let R = held.1.0 in
        alone_made laws R (subst (λ f. IsSet f R) form held.1.1) span
        (subst (λ f. IsKeySpan f span) form fits) c alone f.found
        (kid_selection f held.0 R held.1.1 held.1.2)
        (λ x h. subst (λ f. IsOf f x) alone_kid.0 (f.fit x h)) q there none
