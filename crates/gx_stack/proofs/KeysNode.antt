-- The keys that a node finds by an indexed field.
use Rattle.std.proofs.Common.{◌≡◌, ◌<◌, ◌≤◌, ◌+◌, ℕ, Bool, true, false, Option, Some, None, List, [], ◌∷◌, ◌++◌, inl, inr, refl, sym, ap, ◌∙◌, subst, length, get_or, map, drop, arith, append_assoc}
use Rattle.std.specs.Prelude.{◌&&◌, ◌||◌, is_some}
use Rattle.std.proofs.lemmas.Bool.{true≢false}
use Rattle.std.proofs.lemmas.List.Sums.{sum_by-append}
use Rattle.gx_values.specs.declared.values.Value.{Value}
use Rattle.gx_values.specs.declared.records.Field.{Field}
use Rattle.gx_values.specs.declared.records.Form.{Form}
use Rattle.gx_values.specs.declared.records.Rec.{Rec}
use Rattle.gx_values.specs.declared.keys.Span.{Span}
use Rattle.gx_values.specs.Values.{AreFit, kind_in}
use Rattle.gx_values.specs.Keys.{key_of, is_inside}
use Rattle.gx_values.specs.Spans.{IsValueSpan}
use Rattle.gx_ports.specs.LeafMaps.{LeafMap}
use Rattle.gx_values.specs.declared.values.Kind.{Kind}
use Rattle.gx_mapping.specs.Rule.{Rule, In, IsOf}
use Rattle.gx_mapping.specs.Laws.{MappingLaws, IsIndex}
use Rattle.gx_stack.specs.declared.node.Node.{Node}
use Rattle.gx_stack.specs.declared.node.Node.TheVariants as V
use Rattle.gx_stack.specs.declared.node.LayerNode.{LayerNode}
use Rattle.gx_stack.specs.Tree.{Kids, layer, leaves_of, tree_form, entries_of, entry_total, IsValid}
use Rattle.gx_stack.specs.Seen.{tree_of, kids_from}
use Rattle.gx_stack.specs.Internal.{IsSet, IsInternal, child_records}
use Rattle.gx_gather.specs.Gather.{rec_cmp}
use Rattle.gx_stack.specs.Selected.{IsKeySpan, IsSelection}
use Rattle.gx_stack.specs.Indexed.{is_carried, are_indexed, is_indexed, is_where, AreKeysFound}
use Rattle.gx_gather.proofs.Lists.{in_cases, from_map}
use Rattle.gx_gather.proofs.Orders.{ascends}
use Rattle.gx_stack.proofs.Seen.{seen_layer, layer_form, child_there, child_valid, child_internal, kid_entries_at, count_kids}
use Rattle.gx_stack.proofs.Children.{child_set}
use Rattle.gx_stack.proofs.Selects.{leaves_below, leaves_below_more, leaves_below_all}
use Rattle.gx_stack.proofs.IndexedLemmas.{carried_at, indexed_at}
use Rattle.gx_stack.proofs.FoundKeys.{AreFoundBelow, none_found, found_skip, found_add, own_once, ascending_once, carrier_single, carrier_lift, index_single, index_lift, index_span, lifted, lifted_keys, lifted_sound, lifted_complete, lifted_once, lifted_weight}

map_both : (xs ys : List Rec)
    → map (λ (r : Rec). r.key) (xs ++ ys) ≡ map (λ r. r.key) xs ++ map (λ r. r.key) ys
map_both [] ys = refl
map_both (x ∷ xs) ys = ap (λ ks. x.key ∷ ks) (map_both xs ys)

-- ---- the loop over the children

-- the records of R found in the children below c, and the steps so far
pub record AreRecsBelow {M : Type 0} (rule : M → Rule) (m : M) (ks : Kids M) (name : List ℕ)
    (span : Span) (R : List Rec) (c steps_before steps : ℕ) (keys : List (List Value)) : Type 0
  where
    pub recs : List Rec
    pub same : keys ≡ map (λ r. r.key) recs
    pub found : AreFoundBelow (rule m) name span R c recs
    pub few_steps : steps ≤ steps_before + (leaves_below c ks + entry_total rule (layer m ks) recs)

pub record AreKeysBelow {M : Type 0} (rule : M → Rule) (m : M) (ks : Kids M) (name : List ℕ)
    (span : Span) (whole : Type 0) (held : List Rec → Type 0) (c steps_before steps : ℕ)
    (before now : List (List Value)) : Type 0 where
  pub keys : List (List Value)
  pub appended : now ≡ before ++ keys
  pub fit : (key : List Value) → In key keys → AreFit (rule m).form.keys key
  pub those : whole → (R : List Rec) → IsSet (rule m).form R → held R
      → AreRecsBelow rule m ks name span R c steps_before steps keys

module _ {M : Type 0} (rule : M → Rule) (laws : (m : M) → MappingLaws (rule m)) (n : Node M)
    (l : LayerNode M) (is : n ≡ V.Layer l) (valid : IsValid rule (tree_of n)) (maps : List LeafMap)
    (name : List ℕ) (span : Span) (whole : Type 0) where
  pub no_keys : (steps : ℕ) (before : List (List Value)) → before ≡ before ++ []
      → AreKeysBelow rule l.mapping (kids_from (map tree_of l.kids.items)) name span whole
      (λ R. IsInternal rule (tree_of n) R maps) 0 steps steps before before
  no_keys steps before none = record {
    keys = [];
    appended = none;
    fit = λ key h. absurd h;
    those = λ w R set held.
        record {
          recs = [];
          same = refl;
          found = none_found (rule l.mapping) name span R;
          few_steps = omega arith;
        };
  }

  -- a child that doesn't carry the field
  pub keys_skip : (c steps_before steps : ℕ) (before now : List (List Value))
      → c < (rule l.mapping).kids → (rule l.mapping).carries c name ≡ false
      → AreKeysBelow rule l.mapping (kids_from (map tree_of l.kids.items)) name span whole
      (λ R. IsInternal rule (tree_of n) R maps) c steps_before steps before now
      → AreKeysBelow rule l.mapping (kids_from (map tree_of l.kids.items)) name span whole
      (λ R. IsInternal rule (tree_of n) R maps) (c + 1) steps_before steps before now
  keys_skip c steps_before steps before now below none are = record {
    keys = are.keys;
    appended = are.appended;
    fit = are.fit;
    those = λ w R set held.
        let at = are.those w R set held in
        let more = leaves_below_more l.kids.items c n (child_there rule n l is c valid below) in
        record {
          recs = at.recs;
          same = at.same;
          found = found_skip (rule l.mapping) name span R c at.recs none at.found;
          few_steps = omega (arith, at.few_steps, more);
        };
  }

  -- and one that does
  pub keys_add : (c : ℕ) (k : Node M) (whole_now : Type 0) (maps_now : List LeafMap)
      (steps_before steps steps_now : ℕ) (before now after : List (List Value))
      → c < (rule l.mapping).kids → (rule l.mapping).carries c name ≡ true
      → k ≡ get_or l.kids.items c k → (whole → whole_now) → maps_now ≡ maps
      → AreKeysBelow rule l.mapping (kids_from (map tree_of l.kids.items)) name span whole
      (λ R. IsInternal rule (tree_of n) R maps) c steps_before steps before now
      → AreKeysFound rule (tree_of k) name span whole_now maps_now steps steps_now now after
      → AreKeysBelow rule l.mapping (kids_from (map tree_of l.kids.items)) name span whole
      (λ R. IsInternal rule (tree_of n) R maps) (c + 1) steps_before steps_now before after
  keys_add c k whole_now maps_now steps_before steps steps_now before now after below carries read
      to same_maps are f =
      let m = l.mapping in
      let r = rule m in
      let ks = kids_from (map tree_of l.kids.items) in
      let there = child_there rule n l is c valid below in
      let v = child_valid rule n l is c k valid there read in
      let carrier = (laws m).carried name c below carries in
      record {
        keys = are.keys ++ f.keys;
        appended = f.appended ∙ ap (λ zs. zs ++ f.keys) are.appended
            ∙ append_assoc before are.keys f.keys;
        fit = λ key h. elim (in_cases key are.keys f.keys h) [
          | inl i ↦ are.fit key i
          | inr i ↦ subst (λ (fs : List Field). AreFit fs key) (ap (λ (form : Form). form.keys) v.0
              ∙ carrier.keys) (f.fit key i)
        ];
        those = λ w R set held.
            let at = are.those w R set held in
            let Rs = child_records r c R in
            let sets = subst (λ form. IsSet form Rs) (sym v.0) (child_set (laws m) c R set) in
            let internal = subst (IsInternal rule (tree_of k) Rs) (sym same_maps)
            (child_internal rule n l is c k R maps there read held) in
            let of = f.those (to w) Rs sets internal in
            let key = λ (q : Rec). q.key in
            let test = is_where (r.kid_form c) name span in
            let whether = is_where r.form name span in
            let single = carrier_single (laws m) R set name span c below carries in
            let lift = carrier_lift (laws m) R set name span c below carries in
            let lifts = lifted (laws m) R set c key test whether single lift of.recs
            (λ q h. (of.sound q h).0) in
            let rs = lifts.0 in
            let sound : (q : Rec) → In q of.recs
            → test q ≡ true = λ q h. ap (λ (form : Form). is_where form name span q) (sym v.0)
            ∙ (of.sound q h).1 in
            let complete : (q : Rec) → In q Rs → test q ≡ true
            → In q of.recs = λ q h e. of.complete q h
            (ap (λ (form : Form). is_where form name span q) v.0 ∙ e) in
            let more = leaves_below_more l.kids.items c k there in
            let more' : leaves_below (c + 1) ks ≡ leaves_below c ks + length
            (leaves_of (tree_of k)) =
            more ∙ ap (λ x. leaves_below c ks + length (leaves_of (tree_of x))) (sym read)
            in
            let weight = lifted_weight (laws m) R set c key test whether single lift rule m ks
            (tree_of k) refl (λ q. kid_entries_at rule l.kids.items c k q there
            ∙ ap (λ x. entries_of rule (tree_of x) q) (sym read)) of.recs rs lifts.1 in
            let total : entry_total rule (layer m ks) (at.recs ++ rs) ≡ entry_total rule
            (layer m ks) at.recs + entry_total rule (layer m ks) rs =
            sum_by-append (λ (q : Rec). length (entries_of rule (layer m ks) q)) at.recs rs
            in
            record {
              recs = at.recs ++ rs;
              same = (λ i. at.same i ++ (of.same
                  ∙ lifted_keys (laws m) R set c key test whether single lift of.recs rs lifts.1) i)
                  ∙ sym (map_both at.recs rs);
              found = found_add (laws m) R set name span c at.recs of.recs rs below carries at.found
                  lifts.1 sound complete (own_once of.recs of.once);
              few_steps = omega (arith, at.few_steps, of.few_steps, more', weight, total);
            };
      }

  -- all children that carry it
  pub keys_all : (steps_before steps : ℕ) (before now : List (List Value))
      → is_indexed rule (tree_of n) name ≡ true → (rule l.mapping).indexes name ≡ None
      → AreKeysBelow rule l.mapping (kids_from (map tree_of l.kids.items)) name span whole
      (λ R. IsInternal rule (tree_of n) R maps) (rule l.mapping).kids steps_before steps
      before now
      → AreKeysFound rule (tree_of n) name span whole maps steps_before steps before now
  keys_all steps_before steps before now indexed none are =
      let m = l.mapping in
      let r = rule m in
      let ks = kids_from (map tree_of l.kids.items) in
      let form = layer_form rule n l is in
      let seen = seen_layer n l is in
      let carries = λ (d : ℕ). r.carries d name in
      let some : is_carried ks carries ≡ true =
      first (is_carried ks carries) (are_indexed rule ks carries name)
      (sym (ap (λ (o : Option ℕ). is_some o
      || (is_carried ks carries && are_indexed rule ks carries name)) none)
      ∙ sym (ap (λ x. is_indexed rule x name) seen) ∙ indexed) in
      let d = carried_at rule name l.kids.items carries some in
      let v = subst (IsValid rule) seen valid in
      let below : d.0 < r.kids = (let lt = d.1 in omega (arith, v.0, count_kids l.kids.items)) in
      let carrier = (laws m).carried name d.0 below d.2 in
      record {
        keys = are.keys;
        appended = are.appended;
        fit = λ key h. subst (λ (f : Form). AreFit f.keys key) (sym form) (are.fit key h);
        those = λ w R set held.
            let set' = subst (λ f. IsSet f R) form set in
            let at = are.those w R set' held in
            let found = at.found in
            record {
              recs = at.recs;
              same = at.same;
              sound = λ q h. let s = found.sound q h in
                  (s.0, ap (λ (f : Form). is_where f name span q) form ∙ s.1);
              complete = λ q h e.
                  let c = carrier.each q (set'.fits q h) in
                  found.complete q h (ap (λ (f : Form). is_where f name span q) (sym form) ∙ e)
                  (record {
                    part = c.part;
                    there = c.there;
                    carries = c.carries;
                    below = ((laws m).fit q c.part (set'.fits q h) c.there).0;
                  });
              once = found.once;
              few_steps = omega (
                arith,
                at.few_steps,
                leaves_below_all r.kids ks,
                ap (λ x. length (leaves_of x)) seen,
                ap (λ x. entry_total rule x at.recs) seen,
              );
            };
      }
    where
      first : (a b : Bool) → a && b ≡ true → a ≡ true
      first true b e = refl
      first false b e = absurd (true≢false (sym e))

  -- ---- an index

  pub keys_indexed : (c : ℕ) (k : Node M) (steps_before steps : ℕ)
      (before after : List (List Value)) (found : List Rec)
      (index : IsIndex (rule l.mapping) name c) → IsValueSpan index.field.kind span
      → k ≡ get_or l.kids.items c k → after ≡ before ++ map (λ r. drop 1 r.key) found
      → ((r : Rec) → In r found → IsOf (tree_form rule (tree_of k)) r)
      → steps ≤ steps_before + (length (leaves_of (tree_of k)) + entry_total rule
      (tree_of k) found)
      → (whole → (R : List Rec) → IsSet (tree_form rule (tree_of k)) R
      → IsInternal rule (tree_of k) R maps → IsSelection R span found)
      → AreKeysFound rule (tree_of n) name span whole maps steps_before steps before after
  keys_indexed c k steps_before steps before after found index span_whole read appended fit few
      selected =
      let m = l.mapping in
      let r = rule m in
      let ks = kids_from (map tree_of l.kids.items) in
      let form = layer_form rule n l is in
      let seen = seen_layer n l is in
      let there = child_there rule n l is c valid index.child in
      let v = child_valid rule n l is c k valid there read in
      record {
        keys = map (λ q. drop 1 q.key) found;
        appended = appended;
        fit = λ key h.
            let q = from_map (λ (x : Rec). drop 1 x.key) key found h in
            let of_entry : AreFit (index.field ∷ r.form.keys) q.0.key =
            subst (λ (f : Form). AreFit f.keys q.0.key) (v.0 ∙ index.form) (fit q.0 q.1).key in
            subst (λ (f : Form). AreFit f.keys key) (sym form)
            (subst (AreFit r.form.keys) (sym q.2)
            (rest_fits index.field r.form.keys q.0.key of_entry));
        those = λ w R set held.
            let set' = subst (λ f. IsSet f R) form set in
            let Rs = child_records r c R in
            let sets = subst (λ f. IsSet f Rs) (sym v.0) (child_set (laws m) c R set') in
            let sel = selected w Rs sets (child_internal rule n l is c k R maps there read held) in
            let key = λ (q : Rec). drop 1 q.key in
            let test = λ (q : Rec). is_inside span.lo span.hi (key_of q.key) in
            let whether = is_where r.form name span in
            let single = index_single (laws m) R set' name span c index span_whole in
            let lift = index_lift (laws m) R set' name span c index span_whole in
            let lifts = lifted (laws m) R set' c key test whether single lift found
            (λ q h. (sel.sound q h).0) in
            let rs = lifts.0 in
            let more = leaves_below_more l.kids.items c k there in
            let more' : leaves_below (c + 1) ks ≡ leaves_below c ks + length
            (leaves_of (tree_of k)) =
            more ∙ ap (λ x. leaves_below c ks + length (leaves_of (tree_of x))) (sym read)
            in
            let weight = lifted_weight (laws m) R set' c key test whether single lift rule m ks
            (tree_of k) refl (λ q. kid_entries_at rule l.kids.items c k q there
            ∙ ap (λ x. entries_of rule (tree_of x) q) (sym read)) found rs lifts.1 in
            record {
              recs = rs;
              same = lifted_keys (laws m) R set' c key test whether single lift found rs lifts.1;
              sound = λ q h.
                  let s = lifted_sound (laws m) R set' c key test whether single lift found rs
                  lifts.1 (λ x i. (sel.sound x i).1) q h in
                  (s.0, ap (λ (f : Form). is_where f name span q) form ∙ s.1);
              complete = λ q h e.
                  let entered = index.entered q (set'.fits q h) in
                  lifted_complete (laws m) R set' c key test whether single lift found rs lifts.1
                  sel.complete q entered.part h entered.there entered.child
                  (ap (λ (f : Form). is_where f name span q) (sym form) ∙ e);
              once = lifted_once (laws m) R set' c key test whether single lift found rs lifts.1
                  (ascending_once found (ascends rec_cmp found sel.in_order));
              few_steps = omega (
                arith,
                few,
                weight,
                more',
                leaves_below_all (c + 1) ks,
                ap (λ x. length (leaves_of x)) seen,
                ap (λ x. entry_total rule x rs) seen,
              );
            };
      }
    where
      rest_fits : (field : Field) (fs : List Field) (key : List Value) → AreFit (field ∷ fs) key
          → AreFit fs (drop 1 key)
      rest_fits field fs [] fits = absurd fits
      rest_fits field fs (x ∷ key) fits = fits.1

-- ---- what is asked of the children

module _ {M : Type 0} (rule : M → Rule) (laws : (m : M) → MappingLaws (rule m)) (n : Node M)
    (l : LayerNode M) (is : n ≡ V.Layer l) (valid : IsValid rule (tree_of n)) where
  module _ (name : List ℕ) (span : Span) (spans : (kind : Kind)
      → kind_in (tree_form rule (tree_of n)).fields name ≡ Some kind → IsValueSpan kind span) where
    -- a child that carries an indexed field is indexed by it
    pub kid_indexed : (c : ℕ) (k : Node M) → is_indexed rule (tree_of n) name ≡ true
        → (rule l.mapping).indexes name ≡ None → c < (rule l.mapping).kids
        → k ≡ get_or l.kids.items c k → (rule l.mapping).carries c name ≡ true
        → is_indexed rule (tree_of k) name ≡ true
    kid_indexed c k indexed none below read e =
        let carries = λ (d : ℕ). (rule l.mapping).carries d name in
        let ks = kids_from (map tree_of l.kids.items) in
        let all : are_indexed rule ks carries name ≡ true =
        second (is_carried ks carries) (are_indexed rule ks carries name)
        (sym (ap (λ (o : Option ℕ). is_some o
        || (is_carried ks carries && are_indexed rule ks carries name)) none)
        ∙ sym (ap (λ x. is_indexed rule x name) (seen_layer n l is)) ∙ indexed) in
        indexed_at rule name l.kids.items carries c k all (child_there rule n l is c valid below)
        read e
      where
        second : (a b : Bool) → a && b ≡ true → b ≡ true
        second true b e = e
        second false b e = absurd (true≢false (sym e))

    -- and has the field's kind
    pub kid_spans : (c : ℕ) (k : Node M) → c < (rule l.mapping).kids → k ≡ get_or l.kids.items c k
        → (rule l.mapping).carries c name ≡ true → (kind : Kind)
        → kind_in (tree_form rule (tree_of k)).fields name ≡ Some kind → IsValueSpan kind span
    kid_spans c k below read e kind h =
        let v = child_valid rule n l is c k valid (child_there rule n l is c valid below) read in
        spans kind (ap (λ (f : Form). kind_in f.fields name) (layer_form rule n l is)
        ∙ sym ((laws l.mapping).carried name c below e).kind
        ∙ ap (λ (f : Form). kind_in f.fields name) (sym v.0) ∙ h)

    -- the span is one of the index's field
    pub index_spans : (c : ℕ) (index : IsIndex (rule l.mapping) name c)
        → IsValueSpan index.field.kind span
    index_spans c index = spans index.field.kind
        (ap (λ (f : Form). kind_in f.fields name) (layer_form rule n l is) ∙ index.named)

    pub index_key_span : (c : ℕ) (k : Node M) (index : IsIndex (rule l.mapping) name c)
        → k ≡ get_or l.kids.items c k → IsKeySpan (tree_form rule (tree_of k)) span
    index_key_span c k index read =
        let v = child_valid rule n l is c k valid (child_there rule n l is c valid index.child) read
        in
        subst (λ f. IsKeySpan f span) (sym v.0)
        (index_span (rule l.mapping) name c span index (index_spans c index))

    -- an entry has a key
    pub entry_some : (c : ℕ) (k : Node M) (index : IsIndex (rule l.mapping) name c)
        → k ≡ get_or l.kids.items c k → (r : Rec) → IsOf (tree_form rule (tree_of k)) r
        → 0 < length r.key
    entry_some c k index read r fits =
        let v = child_valid rule n l is c k valid (child_there rule n l is c valid index.child) read
        in
        some r.key (subst (λ (f : Form). AreFit f.keys r.key) (v.0 ∙ index.form) fits.key)
      where
        some : (key : List Value) → AreFit (index.field ∷ (rule l.mapping).form.keys) key
            → 0 < length key
        some [] fits = absurd fits
        some (x ∷ key) fits = omega arith
