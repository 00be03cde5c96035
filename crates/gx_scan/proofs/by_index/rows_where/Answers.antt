use Rattle.std.proofs.Common.{rules, ◌≡◌, ◌∙◌, ◌++◌, ◌+◌, ◌*◌, ◌≤◌, List, ℕ, true, length, filter, [], sym, ap, subst, append-nil}
use Rattle.std.specs.Prelude.{flat_map}
use Rattle.gx_values.specs.declared.values.Value.{Value}
use Rattle.gx_values.specs.Values.{AreFit, kind_in}
use Rattle.gx_ports.specs.LeafMaps.{LeafMap}
use Rattle.gx_mapping.specs.Rule.{In}
use Rattle.gx_stack.specs.Seen.{tree_of}
use Rattle.gx_stack.specs.Internal.{IsSet}
use Rattle.gx_model.specs.Found.{meets_conds}
use Rattle.gx_scan.specs.Files.{IsInternal, file_records}
use Rattle.gx_scan.specs.Entries.{ArePlaces}
use Rattle.gx_scan.specs.Where.{rows_at_key}
use Rattle.gx_stack.specs.Tree.{leaves_of, tree_form}
use Rattle.gx_stack.specs.Indexed.{is_indexed, AreKeysOf}
use Rattle.gx_types.specs.Any.{any_rule}
use Rattle.gx_scan.proofs.FileLemmas.{set_of}
use Rattle.gx_scan.specs.Steps.{rows_with}
use Rattle.gx_scan.proofs.CallLemmas.{sound_after}
use Rattle.gx_stack.proofs.PassLemmas.{read_passes, reads_given, reads_given_after}
use Rattle.gx_scan.proofs.PlaceLemmas.{places_lent}
use Rattle.gx_scan.proofs.StepLemmas.{keys_many, keys_total, where_steps}
use Rattle.gx_scan.proofs.WhereLemmas.{named_at, span_named, found_where}
use Rattle.gx_scan.proofs.by_index.rows_where.Goals as goal

pub keys_where-requires-clause-span : goal.keys_where-requires-clause-span
keys_where-requires-clause-span g c = λ kind e.
    let file = c.args.file.now in
    let named = ap (λ (name : List ℕ). kind_in (tree_form any_rule (tree_of c.args.node.now)).fields
    name) (sym c.field_name-name.ensures) ∙ e in
    span_named c.args.file.now (tree_of c.args.node.now) c.args.field c.args.span.now kind
    c.requires.tree.form
    (named_at c.args.file.now c.args.field c.requires.named c.requires.past_key c.requires.in_file)
    c.requires.span named

pub keys_where-requires-clause-indexed : goal.keys_where-requires-clause-indexed
keys_where-requires-clause-indexed g c =
    subst (λ (name : List ℕ). is_indexed any_rule (tree_of c.args.node.now) name ≡ true)
    (sym c.field_name-name.ensures) c.requires.indexed

pub add_by_keys-requires-clause-places : goal.add_by_keys-requires-clause-places
add_by_keys-requires-clause-places g c =
    places_lent (λ ps. ps.now) (λ ps. ps.items) (ArePlaces 0 (tree_of c.args.node.now))
    c.as_deref.result c.in_ok-places.places c.as_deref.ensures.value c.in_ok-places.ensures

pub add_by_keys-requires-clause-fit : goal.add_by_keys-requires-clause-fit
add_by_keys-requires-clause-fit g c = λ key h.
    let found = c.in_ok-keys_where.ensures.found in
    let all = found.appended
    ∙ ap (λ (before : List (List Value)). before ++ found.keys) c.new-keys.ensures in
    let slice : c.as_slice.result.now ≡ c.keys_where.new.out = search rules in
    subst (λ form. AreFit form.keys key) c.requires.tree.form
    (found.fit key (subst (In key) (slice ∙ all) h))

pub returns-in_err-keys_where : goal.returns-in_err-keys_where
returns-in_err-keys_where g c = record {
  rows = search rules;
  steps = search rules;
  front = ([], sym (append-nil c.args.rows.now.items));
  reads =
      reads_given g.B.View c.from_residual-in_err-keys_where.result
      c.from_residual-in_err-keys_where.ensures.1
      (λ sound.
      let f = sound.1.0 in
      let set = subst (λ form. IsSet form (file_records f)) (sym c.requires.tree.form)
      (set_of c.args.file.now f c.requires.storable.keyed sound.1.1.fit) in
      (sound.0, (file_records f, set, sound.1.1.held)))
      c.in_err-keys_where.ensures.reads;
}

pub returns : goal.returns
returns g c = record {
  rows = λ f whole is.
      let t = tree_of c.args.node.now in
      let file = c.args.file.now in
      let keys = c.in_ok-keys_where.ensures in
      let set = subst (λ form. IsSet form (file_records f)) (sym c.requires.tree.form)
      (set_of file f c.requires.storable.keyed is.fit) in
      let slice : c.as_slice.result.now ≡ c.keys_where.new.out = search rules in
      let all = slice ∙ keys.found.appended
      ∙ ap (λ (before : List (List Value)). before ++ keys.found.keys) c.new-keys.ensures in
      let now = c.in_ok-add_by_keys.ensures.rows f (keys.reads.ends.whole whole)
      (subst (λ (maps : List LeafMap). IsInternal file t maps f) (sym keys.reads.reads.working) is)
      in
      found_where file t c.args.field c.args.span.now c.args.conds.now f _ _ keys.found.keys _ _
      c.requires.tree.form (named_at file c.args.field c.requires.named c.requires.past_key
      c.requires.in_file) is.fit (subst
      (λ (name : List ℕ). AreKeysOf any_rule t name c.args.span.now (file_records f)
      (g.B.View.work c.args.leaves.now) (g.B.View.work c.keys_where.new.leaves) keys.found.keys)
      c.field_name-name.ensures (keys.found.those whole (file_records f) set is.held))
      (now ∙ ap (λ (ks : List (List Value)). c.args.rows.now.items
      ++ filter (meets_conds c.args.conds.now) (flat_map (rows_at_key f) ks)) all);
  steps = λ f most whole is few.
      let t = tree_of c.args.node.now in
      let file = c.args.file.now in
      let field = c.args.field in
      let span = c.args.span.now in
      let keys = c.in_ok-keys_where.ensures in
      let set = subst (λ form. IsSet form (file_records f)) (sym c.requires.tree.form)
      (set_of file f c.requires.storable.keyed is.fit) in
      let slice : c.as_slice.result.now ≡ c.keys_where.new.out = search rules in
      let all = slice ∙ keys.found.appended
      ∙ ap (λ (before : List (List Value)). before ++ keys.found.keys) c.new-keys.ensures in
      let are = subst (λ (name : List ℕ). AreKeysOf any_rule t name span (file_records f)
      (g.B.View.work c.args.leaves.now) (g.B.View.work c.keys_where.new.leaves) keys.found.keys)
      c.field_name-name.ensures (keys.found.those whole (file_records f) set is.held) in
      let named = named_at file field c.requires.named c.requires.past_key c.requires.in_file in
      let now = c.in_ok-add_by_keys.ensures.steps f most (keys.reads.ends.whole whole)
      (subst (λ (maps : List LeafMap). IsInternal file t maps f) (sym keys.reads.reads.working) is)
      few in
      where_steps (length (leaves_of t)) (length (rows_with field span f)) most _ _ _
      (length keys.found.keys) (keys_many file t field span f _ _ keys.found.keys
      c.requires.tree.form named is.fit are)
      (keys_total file t field span f most _ _ keys.found.keys are few)
      (subst (λ (ks : List (List Value)). g.B.View.work c.add_by_keys.new.leaves
      ≤ g.B.View.work c.keys_where.new.leaves + length ks * (length (leaves_of t) + most)) all now);
  front = c.in_ok-add_by_keys.ensures.front;
  reads = search rules;
}

pub returns-in_err-add_by_keys : goal.returns-in_err-add_by_keys
returns-in_err-add_by_keys g c = record {
  rows = search rules;
  steps = search rules;
  front = c.in_err-add_by_keys.ensures.front;
  reads =
      let keys = c.in_ok-keys_where.ensures in
      reads_given_after g.B.View c.from_residual-in_err-add_by_keys.result
      c.from_residual-in_err-add_by_keys.ensures.1 (read_passes g.B.View keys.reads)
      (sound_after g.B.View c.args.file.now (tree_of c.args.node.now) _ _ keys.reads.reads
      keys.reads.ends.whole)
      c.in_err-add_by_keys.ensures.reads;
}
