-- The records inside a span below a layer that passes records whole.
use Rattle.std.proofs.Common.{[], ◌≡◌, ℕ, ◌<◌, ◌≤◌, ◌+◌, List, ◌∷◌, ◌++◌, length, map, get_or, cond, nat_eq, Bool, true, false, Option, Some, inl, inr, refl, sym, ap, subst, ◌∙◌, arith, append-nil}
use Rattle.std.specs.Prelude.{T, ◌&&◌, not, filter, Result, IfOk}
use Rattle.std.specs.List.{flat_map}
use Rattle.std.specs.Ordering.{eq_by_cmp, is_lt}
use Rattle.std.specs.declared.cmp.Ordering.{Ordering}
use Rattle.std.specs.FinMap as fin
use Rattle.std.specs.FinMap.Entries.{below_all}
use Rattle.std.proofs.lemmas.Bool.{true≢false, eqb-true, eq-eqb}
use Rattle.std.proofs.lemmas.Result.{on_ok_weaker}
use Rattle.gx_laws.proofs.NumberLemmas.{nat_cases}
use Rattle.gx_laws.proofs.BoolLemmas.{first_of_both, second_of_both}
use Rattle.gx_values.specs.declared.values.Value.{Value}
use Rattle.gx_values.specs.declared.records.Rec.{Rec}
use Rattle.gx_values.specs.declared.keys.Span.{Span}
use Rattle.gx_values.specs.Values.{value_cmp, Fits}
use Rattle.gx_values.specs.Keys.{bytes_of, key_of, is_inside}
use Rattle.gx_values.proofs.OrderLemmas.{same_value, value_itself}
use Rattle.gx_schema.specs.declared.schema.FileDef.{FileDef}
use Rattle.gx_schema.specs.Lookups.{key_kind}
use Rattle.gx_ports.specs.declared.stop.Stop.{Stop}
use Rattle.gx_ports.specs.declared.view.View.{Ghosts}
use Rattle.gx_ports.specs.LeafMaps.{LeafMap}
use Rattle.gx_mapping.specs.declared.parts.Part.{Part}
use Rattle.gx_mapping.specs.Rule.{In, IsOf}
use Rattle.gx_mapping.specs.Searched.{IsAlone}
use Rattle.gx_mapping.proofs.RuleLemmas.{the_one, all_in}
use Rattle.gx_gather.proofs.Lists.{in_filter, all_of}
use Rattle.gx_stack.specs.declared.node.Node.{Node}
use Rattle.gx_stack.specs.declared.node.LayerNode.{LayerNode}
use Rattle.gx_stack.specs.declared.node.Node.TheVariants as nodes
use Rattle.gx_stack.specs.Tree.{Tree, leaves_of, tree_form, entries_of, kid_entries, IsValid}
use Rattle.gx_stack.specs.Seen.{tree_of, kids_from}
use Rattle.gx_stack.specs.Internal.{IsInternal, child_records, parts_for}
use Rattle.gx_stack.proofs.PassLemmas.{reads_weaker}
use Rattle.gx_stack.proofs.Seen.{seen_layer, layer_form, child_there, child_valid, child_leaves, child_internal, kid_entries_at}
use Rattle.gx_stack.proofs.Selects.{leaves_below_more, leaves_below_all}
use Rattle.gx_types.specs.declared.any.AnyMapping.{AnyMapping}
use Rattle.gx_types.specs.Passing.{PassesWhole}
use Rattle.gx_types.specs.Any.{any_rule, any_laws}
use Rattle.gx_typing.specs.Dues.{file_form}
use Rattle.gx_model.specs.States.{File, Row, IsRowOf}
use Rattle.gx_scan.specs.Files.{rec_of, file_records, IsStorable, IsTreeFor}
use Rattle.gx_scan.specs.Files as files
use Rattle.gx_scan.specs.Search.{Finds}
use Rattle.gx_scan.specs.Searched.{IsPart, HasInside}
use Rattle.gx_scan.proofs.FileLemmas.{inside_key, row_fits}

-- ---- a tree itself, and one below another

pub inside_itself : (span : Span) (t : Tree AnyMapping) → HasInside span t t
inside_itself span t = record {
  tree = λ file n is. is;
  fewer = omega arith;
  leaves = λ n h. h;
  entries = λ r fits inside. refl;
  held = λ file maps f keyed form is.
      record { part = f; held = is; same = λ k h. refl; few = λ most h. h };
}

-- ---- a part of a map

module _ {K X : Type 0} (R : K → K → Ordering) (p : K × X → Bool) where
  filter_below : (k : K) (es : List (K × X)) → T (below_all R k es)
      → T (below_all R k (filter p es))
  filter_below k [] below = tt
  filter_below k (e ∷ es) below = go (p e) (filter_below k es (second_of_both _ _ below))
    where
      go : (b : Bool) → T (below_all R k (filter p es))
          → T (below_all R k (cond b (e ∷ filter p es) (filter p es)))
      go true more = both (is_lt (R k e.0)) (below_all R k (filter p es)) (first_of_both _ _ below)
          more
        where
          both : (a b : Bool) → T a → T b → T (a && b)
          both true true s t = tt
          both true false s t = absurd t
          both false b s t = absurd s
      go false more = more

  pub filter_sorted : (es : List (K × X)) → T (fin.is_sorted R es)
      → T (fin.is_sorted R (filter p es))
  filter_sorted [] sorted = tt
  filter_sorted (e ∷ es) sorted = go (p e) (filter_sorted es (second_of_both _ _ sorted))
    where
      go : (b : Bool) → T (fin.is_sorted R (filter p es))
          → T (fin.is_sorted R (cond b (e ∷ filter p es) (filter p es)))
      go true more = both (below_all R e.0 (filter p es)) (fin.is_sorted R (filter p es))
          (filter_below e.0 es (first_of_both _ _ sorted)) more
        where
          both : (a b : Bool) → T a → T b → T (a && b)
          both true true s t = tt
          both true false s t = absurd t
          both false b s t = absurd s
      go false more = more

  -- a look-up of a key whose entries are kept
  pub find_filter : (q : K) (es : List (K × X))
      → ((e : K × X) → In e es → eq_by_cmp R q e.0 ≡ true → p e ≡ true)
      → fin.find R q (filter p es) ≡ fin.find R q es
  find_filter q [] kept = refl
  find_filter q (e ∷ es) kept =
      go (p e) (eq_by_cmp R q e.0) refl refl (find_filter q es (λ x h. kept x (inr h)))
    where
      go : (b t : Bool) → b ≡ p e → t ≡ eq_by_cmp R q e.0
          → fin.find R q (filter p es) ≡ fin.find R q es
          → fin.find R q (cond b (e ∷ filter p es) (filter p es)) ≡ cond t (Some e.1)
          (fin.find R q es)
      go true t is test more = (λ i. cond (sym test i) (Some e.1) (more i))
      go false true is test more = absurd (true≢false (sym (kept e (inl refl) (sym test)) ∙ sym is))
      go false false is test more = more

-- ---- the records that go to one child

module _ (m : AnyMapping) (passes : PassesWhole (any_rule m)) (c : ℕ) where
  goes : Row → Bool
  goes r = nat_eq (passes.one (rec_of r)).0 c

  parts_one : (d : ℕ) (r : Rec)
      → parts_for c (record { child = d; rec = r } ∷ []) ≡ cond (nat_eq d c) (r ∷ []) []
  parts_one d r = refl

  pub child_rows : (rows : List Row)
      → child_records (any_rule m) c (map rec_of rows) ≡ map rec_of
      (filter (λ r. nat_eq (passes.one (rec_of r)).0 c) rows)
  child_rows [] = refl
  child_rows (r ∷ rows) =
      ap (λ ps. parts_for c ps ++ child_records (any_rule m) c (map rec_of rows))
      (passes.one (rec_of r)).1
      ∙ by_test (nat_eq (passes.one (rec_of r)).0 c) (child_rows rows)
    where
      by_test : (b : Bool) → child_records (any_rule m) c (map rec_of rows) ≡ map rec_of
          (filter (λ r. nat_eq (passes.one (rec_of r)).0 c) rows)
          → cond b (rec_of r ∷ []) [] ++ child_records (any_rule m) c (map rec_of rows)
          ≡ map rec_of (cond b (r ∷ filter (λ r. nat_eq (passes.one (rec_of r)).0 c) rows)
          (filter (λ r. nat_eq (passes.one (rec_of r)).0 c) rows))
      by_test true more = ap (λ rs. rec_of r ∷ rs) more
      by_test false more = more

  -- one whose key is inside the span goes to the child that is searched alone
  pub inside_goes : (span : Span) → IsAlone (any_rule m) span c → (r : Rec)
      → IsOf (any_rule m).form r
      → is_inside span.lo span.hi (key_of r.key) ≡ true → (passes.one r).0 ≡ c
  inside_goes span alone r fits inside =
      let rule = any_rule m in
      let laws = any_laws m in
      let d = (passes.one r).0 in
      let part : Part = record { child = d; rec = r } in
      let there : In part (rule.parts r) = subst (In part) (sym (passes.one r).1) (inl refl) in
      let main = laws.has_data r fits in
      let kept = in_filter (λ (p : Part). rule.holds_rest p.child) main.0 (rule.parts r) main.1 in
      let same : main.0 ≡ part = the_one main.0 part (subst (In main.0) (passes.one r).1 kept.0) in
      let rest : rule.holds_rest d ≡ true = ap (λ (p : Part). rule.holds_rest p.child) (sym same)
      ∙ kept.1 in
      elim (nat_cases d c) [
        | inl e ↦ e
        | inr other ↦ absurd (true≢false (sym inside ∙ laws.skipped r part span fits there
            (left (rule.holds_rest d) (rule.skips d span) rest
            (alone.0.2 d (laws.fit r part fits there).0 other))))
      ]
    where
      left : (a b : Bool) → a ≡ true → (a && not b) ≡ false → b ≡ true
      left true true e f = refl
      left true false e f = absurd (true≢false f)
      left false b e f = absurd (true≢false (sym e))

-- ---- one step down

module _ (n : Node AnyMapping) (l : LayerNode AnyMapping) (is : n ≡ nodes.Layer l)
    (valid : IsValid any_rule (tree_of n))
    (passes : PassesWhole (any_rule l.mapping)) (span : Span) (c : ℕ)
    (alone : IsAlone (any_rule l.mapping) span c) where
  pub kid_there : c < length l.kids.items
  kid_there = child_there any_rule n l is c valid alone.0.0

  module _ (k : Node AnyMapping) (read : k ≡ get_or l.kids.items c k) where
    pub kid_valid : IsValid any_rule (tree_of k)
    kid_valid = (child_valid any_rule n l is c k valid kid_there read).1

    kid_form : tree_form any_rule (tree_of k) ≡ tree_form any_rule (tree_of n)
    kid_form = (child_valid any_rule n l is c k valid kid_there read).0 ∙ passes.form c
        ∙ sym (layer_form any_rule n l is)

    kid_tree : (file : FileDef) (many : ℕ) → IsTreeFor file (tree_of n) many
        → IsTreeFor file (tree_of k) many
    kid_tree file many tree = record {
      valid = kid_valid;
      form = kid_form ∙ tree.form;
      below = λ j h. tree.below j (child_leaves any_rule n l is c k kid_there read j h);
    }

    kid_fewer : length (leaves_of (tree_of k)) ≤ length (leaves_of (tree_of n))
    kid_fewer =
        let ks = kids_from (map tree_of l.kids.items) in
        omega (
          arith,
          leaves_below_more l.kids.items c k kid_there,
          ap (λ x. length (leaves_of (tree_of x))) (sym read),
          leaves_below_all (c + 1) ks,
          ap (λ x. length (leaves_of x)) (seen_layer n l is),
        )

    same_entries : (r : Rec) → (passes.one r).0 ≡ c
        → entries_of any_rule (tree_of n) r ≡ entries_of any_rule (tree_of k) r
    same_entries r child =
        let ks = kids_from (map tree_of l.kids.items) in
        ap (λ t. entries_of any_rule t r) (seen_layer n l is)
        ∙ ap (λ (ps : List Part). flat_map (λ (p : Part). kid_entries any_rule ks p.child p.rec) ps)
        (passes.one r).1
        ∙ append-nil (kid_entries any_rule ks (passes.one r).0 r)
        ∙ ap (λ d. kid_entries any_rule ks d r) child
        ∙ kid_entries_at any_rule l.kids.items c k r kid_there
        ∙ ap (λ x. entries_of any_rule (tree_of x) r) (sym read)

    module _ (file : FileDef) (maps : List LeafMap) (f : File) (keyed : 0 < length file.fields)
        (form : tree_form any_rule (tree_of n) ≡ file_form file)
        (held : files.IsInternal file (tree_of n) maps f) where
      test : Row → Bool
      test r = nat_eq (passes.one (rec_of r)).0 c

      kept : List Row
      kept = filter (λ r. nat_eq (passes.one (rec_of r)).0 c) (fin.entries f)

      part_of : File
      part_of = fin.from_sorted {R = value_cmp}
          (filter (λ r. nat_eq (passes.one (rec_of r)).0 c) (fin.entries f))

      part_entries : fin.entries part_of ≡ filter (λ r. nat_eq (passes.one (rec_of r)).0 c)
          (fin.entries f)
      unfolding part_of
      part_entries = fin.entries-from_sorted value_cmp
          (filter (λ r. nat_eq (passes.one (rec_of r)).0 c) (fin.entries f))
          (filter_sorted value_cmp (λ r. nat_eq (passes.one (rec_of r)).0 c) (fin.entries f)
          (fin.entries_sorted f))

      in_part : (r : Row) → In r (fin.entries part_of)
          → In r (fin.entries f) × ((passes.one (rec_of r)).0 ≡ c)
      in_part r h =
          let x = in_filter (λ (s : Row). nat_eq (passes.one (rec_of s)).0 c) r (fin.entries f)
          (subst (λ es. In r es) part_entries h) in
          (x.0, eqb-true (passes.one (rec_of r)).0 c x.1)

      row_of_form : (r : Row) → In r (fin.entries f) → IsOf (any_rule l.mapping).form (rec_of r)
      row_of_form r h = subst (λ fm. IsOf fm (rec_of r)) (sym form ∙ layer_form any_rule n l is)
          (row_fits file r keyed (all_in (IsRowOf file) (fin.entries f) r held.fit h))

      kid_part : IsPart file span (tree_of n) (tree_of k) maps f
      kid_part = record {
        part = part_of;
        held = record {
          fit = all_of (IsRowOf file) (fin.entries part_of)
              (λ r h. all_in (IsRowOf file) (fin.entries f) r held.fit (in_part r h).0);
          held = subst (λ rs. IsInternal any_rule (tree_of k) rs maps)
              (child_rows l.mapping passes c (fin.entries f)
              ∙ ap (λ (es : List Row). map rec_of es) (sym part_entries))
              (child_internal any_rule n l is c k (file_records f) maps kid_there read held.held);
        };
        same = λ q inside. fin.get-entries part_of q ∙ ap (fin.find value_cmp q) part_entries
            ∙ find_filter value_cmp (λ (s : Row). nat_eq (passes.one (rec_of s)).0 c) q
            (fin.entries f)
            (λ r h e. eq-eqb _ _ (inside_goes l.mapping passes c span alone (rec_of r)
            (row_of_form r h)
            (ap (λ (x : Value). is_inside span.lo span.hi (key_of (x ∷ [])))
            (sym (same_value q r.0 e)) ∙ inside)))
            ∙ sym (fin.get-entries f q);
        few = λ most few r h.
            let x = in_part r h in
            subst (λ j. j ≤ most) (ap length (same_entries (rec_of r) x.1)) (few r x.0);
      }

    -- what is below the child is below the layer
    pub one_down : (u : Tree AnyMapping) → HasInside span (tree_of k) u
        → HasInside span (tree_of n) u
    one_down u inner = record {
      tree = λ file many tree. inner.tree file many (kid_tree file many tree);
      fewer = (let low = inner.fewer in omega (arith, low, kid_fewer));
      leaves = λ j h. child_leaves any_rule n l is c k kid_there read j (inner.leaves j h);
      entries = λ r fits within.
          let of_layer = subst (λ fm. IsOf fm r) (layer_form any_rule n l is) fits in
          same_entries r (inside_goes l.mapping passes c span alone r of_layer within)
          ∙ inner.entries r (subst (λ fm. IsOf fm r) (sym kid_form) fits) within;
      held = λ file maps f keyed form held.
          let a = kid_part file maps f keyed form held in
          let b = inner.held file maps a.part keyed (kid_form ∙ form) a.held in
          record {
            part = b.part;
            held = b.held;
            same = λ q inside. b.same q inside ∙ a.same q inside;
            few = λ most few. b.few most (a.few most few);
          };
    }

-- ---- the span of one key

module _ (file : FileDef) (k : Value) (span : Span) (storable : IsStorable file)
    (fit : Fits (key_kind file) k) (lo : span.lo ≡ bytes_of k) (hi : span.hi ≡ bytes_of k)
    (t u : Tree AnyMapping) (inside : HasInside span t u) (many : ℕ) (tree : IsTreeFor file t many)
    (maps : List LeafMap) (f : File) (is : files.IsInternal file t maps f) where
  pub key_part : IsPart file span t u maps f
  key_part = inside.held file maps f storable.keyed tree.form is

  -- the part has what the file has at the key
  pub key_same : fin.get key_part.part k ≡ fin.get f k
  unfolding key_part
  key_same = key_part.same k ((λ i. is_inside (lo i) (hi i) (key_of (k ∷ [])))
      ∙ inside_key file k k storable.key fit fit ∙ value_itself k)

-- What is found at a key of the part is what the file has there.
module _ {S T : Type 0} (g : Ghosts S) (file : FileDef) (k : Value) (span : Span)
    (storable : IsStorable file) (fit : Fits (key_kind file) k) (lo : span.lo ≡ bytes_of k)
    (hi : span.hi ≡ bytes_of k) (t u : Tree AnyMapping) (inside : HasInside span t u) (many : ℕ)
    (tree : IsTreeFor file t many) where
  pub finds_inside : (made : Option (List Value) → Option T) (IsFit : T → Type 0) (old new : S)
      (r : Result (Option T) Stop) → Finds g file u (λ f. made (fin.get f k)) IsFit old new r
      → Finds g file t (λ f. made (fin.get f k)) IsFit old new r
  finds_inside made IsFit old new r x =
      let part = λ (f : File) (is : files.IsInternal file t (g.working old) f).
      key_part file k span storable fit lo hi t u inside many tree (g.working old) f is in
      record {
        found = λ f whole is.
            let same = key_same file k span storable fit lo hi t u inside many tree
            (g.working old) f is in
            let own = part f is in
            subst (λ (o : Option (List Value)). IfOk r (λ found. found ≡ made o)) same
            (x.found own.part whole own.held);
        fits = x.fits;
        steps = λ f most whole is few.
            let own = part f is in
            on_ok_weaker r (λ steps. omega (arith, steps, inside.fewer))
            (x.steps own.part most whole own.held (own.few most few));
        reads = reads_weaker g (λ sound.
            let own = part sound.1.0 sound.1.1 in
            (sound.0, (own.part, own.held))) x.reads;
      }
