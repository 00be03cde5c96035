-- What edits of one file do to the states that leaves stand for.
use Rattle.std.proofs.Common.{◌≡◌, ℕ, zero, suc, ◌+◌, ◌<◌, ◌≤◌, List, [], ◌∷◌, length, get_or, set, cond, true, false, Option, Some, None, refl, sym, ap, subst, ◌∙◌, arith, inl, inr}
use Rattle.std.specs.Prelude.{is_some, not, unwrap_or}
use Rattle.std.specs.FinMap as fin
use Rattle.std.proofs.lemmas.Bool.{cases_eq}
use Rattle.std.proofs.lemmas.List.{get_or-set_same, length-set}
use Rattle.gx_values.specs.declared.values.Value.{Value}
use Rattle.gx_values.specs.declared.records.Rec.{Rec}
use Rattle.gx_schema.specs.declared.schema.FileDef.{FileDef}
use Rattle.gx_schema.specs.declared.schema.Schema.{Schema}
use Rattle.gx_schema.specs.Lookups.{file_at, link_at}
use Rattle.gx_commands.specs.declared.command.Change.{Change}
use Rattle.gx_commands.specs.declared.command.Command.{Command}
use Rattle.gx_commands.specs.declared.command.Command.TheVariants as command
use Rattle.gx_ports.specs.LeafMaps.{LeafMap, Limits, IsCrowdedBy}
use Rattle.gx_mapping.specs.Rule.{In}
use Rattle.gx_stack.specs.Tree.{Tree, entries_of, entry_total}
use Rattle.gx_stack.proofs.Same.{internal_elsewhere}
use Rattle.gx_types.specs.declared.any.AnyMapping.{AnyMapping}
use Rattle.gx_types.specs.declared.built.Built.{Built}
use Rattle.gx_types.specs.Any.{any_rule}
use Rattle.gx_types.specs.Nodes.{tree_at}
use Rattle.gx_pairs.specs.declared.refused.Refused.{Refused}
use Rattle.gx_pairs.specs.declared.refused.Refused.TheVariants as refused
use Rattle.gx_model.specs.States.{File, State, file_in, link_in, IsLinkOf}
use Rattle.gx_model.specs.Commands.{Refusal, key_exists, no_record, linked, with_changes, updated, state_after, next_state, refusal_of, first_refusal, is_linked, with_file}
use Rattle.gx_scan.specs.Files.{rec_of, file_records, IsInternal}
use Rattle.gx_states.specs.Internal.{AreInternal, AreFor, entries_from, state_entries}
use Rattle.gx_states.proofs.CountLemmas.{one_total, one_file, crowded_more}
use Rattle.gx_states.proofs.LinkLemmas.{file_is, link_elsewhere}
use Rattle.gx_edits.specs.Edits.{IsEdit}
use Rattle.gx_edits.specs.Records.{IsEdited, IsEditedWhere}
use Rattle.gx_edits.proofs.ChangeLemmas.{inserted_new}
use Rattle.gx_edits.proofs.EndLemmas.{file_here, file_there, link_stays, inserted_stay, no_end, removed_stay, linked_there}

-- ---- one file among all

-- the leaves hold the state with one file changed
edited_are : (schema : Schema) (built : Built) (leaves : ℕ) (old new : List LeafMap) (s : State)
    (i : ℕ) (f : File) → AreFor schema built leaves → AreInternal schema built old s
    → i < length schema.files → IsEdited (file_at schema i) (tree_at built.files i) old new f
    → ((j : ℕ) → j < length schema.links
    → IsLinkOf (with_file s i f) (link_at schema j) (link_in s j))
    → AreInternal schema built new (with_file s i f)
edited_are schema built leaves old new s i f of are lt edit ends = record {
  valid = record {
    files_many = length-set s.files i f ∙ are.valid.files_many;
    links_many = are.valid.links_many;
    files = λ j h. (each j h).fit;
    links = ends;
  };
  files = λ j h. (each j h).held;
  links = λ j h. link_elsewhere schema built.files built.links leaves j (link_in s j) old new
      of.link_nodes h (λ n there. edit.others n
      (λ too. of.link_nodes.file_apart i j n lt h too there)) (are.links j h);
}
  where
    each : (j : ℕ) → j < length schema.files
        → IsInternal (file_at schema j) (tree_at built.files j) new (file_in (with_file s i f) j)
    each j h = elim (cases_eq j i) [
      | inl e ↦ subst (λ n. IsInternal (file_at schema n) (tree_at built.files n) new
          (file_in (with_file s i f) n)) (sym e)
          (subst (λ (x : File). IsInternal (file_at schema i) (tree_at built.files i) new x)
          (sym (file_here s i f (omega (arith, are.valid.files_many)))) edit.stands)
      | inr ne ↦ (
          let was = file_is schema built old s j are h in
          subst (λ (x : File). IsInternal (file_at schema j) (tree_at built.files j) new x)
          (sym (file_there s i j f ne))
          (record {
            fit = was.fit;
            held = internal_elsewhere any_rule (tree_at built.files j) (file_records (file_in s j))
                old new (of.nodes.valid j h)
                (λ n there. edit.others n (λ too. ne (of.nodes.apart j i n h lt there too)))
                was.held;
          }))
    ]

set_itself : (fs : List File) (i : ℕ) → set fs i (get_or fs i fin.empty) ≡ fs
set_itself [] i = refl
set_itself (f ∷ fs) zero = refl
set_itself (f ∷ fs) (suc i) = ap (λ (l : List File). f ∷ l) (set_itself fs i)

file_itself : (s : State) (i : ℕ) → with_file s i (file_in s i) ≡ s
file_itself s i =
    ap (λ (fs : List File). record { files = fs; links = s.links }) (set_itself s.files i)

-- what an edit of one file does to the state
edit_where : (schema : Schema) (built : Built) (leaves : ℕ) (old new : List LeafMap) (s : State)
    (c : Command) (i : ℕ) (after : File) (why : Option Refused) → AreFor schema built leaves
    → AreInternal schema built old s → i < length schema.files
    → IsEditedWhere (file_at schema i) (tree_at built.files i) old new (file_in s i)
    (refusal_of schema s c) after why → state_after s c ≡ with_file s i after
    → ((j : ℕ) → j < length schema.links
    → IsLinkOf (with_file s i after) (link_at schema j) (link_in s j))
    → IsEdit schema built c s new why
edit_where schema built leaves old new s c i after why of are lt edit is ends = record {
  why_is = edit.why_is;
  stands = go (refusal_of schema s c) edit.edited;
}
  where
    go : (r : Option Refusal) → IsEdited (file_at schema i) (tree_at built.files i) old new
        (cond (is_some r) (file_in s i) after)
        → AreInternal schema built new (cond (is_some r) s (state_after s c))
    go None e =
        subst (AreInternal schema built new) (sym is)
        (edited_are schema built leaves old new s i after of are lt e ends)
    go (Some r) e =
        subst (AreInternal schema built new) (file_itself s i)
        (edited_are schema built leaves old new s i (file_in s i) of are lt e
        (λ j h. subst (λ (x : State). IsLinkOf x (link_at schema j) (link_in s j))
        (sym (file_itself s i)) (are.valid.links j h)))

edited_at : (schema : Schema) (built : Built) (i : ℕ) (file : FileDef) (t : Tree AnyMapping)
    (old new : List LeafMap) (before after : File) (refusal : Option Refusal) (why : Option Refused)
    → file ≡ file_at schema i → t ≡ tree_at built.files i
    → IsEditedWhere file t old new before refusal after why
    → IsEditedWhere (file_at schema i) (tree_at built.files i) old new before refusal after why
edited_at schema built i file t old new before after refusal why e d is =
    subst (λ (x : Tree AnyMapping). IsEditedWhere (file_at schema i) x old new before refusal after
    why) d (subst (λ (x : FileDef). IsEditedWhere x t old new before refusal after why) e is)

module _ (schema : Schema) (built : Built) (leaves : ℕ) (old new : List LeafMap) (s : State) (i : ℕ)
    (file : FileDef) (t : Tree AnyMapping) (why : Option Refused) (of : AreFor schema built leaves)
    (are : AreInternal schema built old s) (lt : i < length schema.files)
    (def : file ≡ file_at schema i) (tree : t ≡ tree_at built.files i) where
  there : i < length s.files
  there = omega (arith, are.valid.files_many, lt)

  pub insert_edited : (key : Value) (values rest : List Value) → values ≡ key ∷ rest
      → IsEditedWhere file t old new (file_in s i)
      (first_refusal ((is_some (fin.get (file_in s i) key), key_exists) ∷ []))
      (fin.insert (file_in s i) key rest) why
      → IsEdit schema built (command.Insert i values) s new why
  insert_edited key values rest parts edit =
      let after = fin.insert (file_in s i) key rest in
      subst (λ (vs : List Value). IsEdit schema built (command.Insert i vs) s new why) (sym parts)
      (edit_where schema built leaves old new s (command.Insert i (key ∷ rest)) i after why of are
      lt (edited_at schema built i file t old new (file_in s i) after _ why def tree edit) refl
      (λ j h. link_stays s (link_at schema j) (link_in s j) i after there
      (inserted_stay s (link_at schema j) (link_in s j) i key rest (are.valid.links j h))
      (are.valid.links j h)))

  pub update_edited : (key : Value) (changes : List Change)
      → IsEditedWhere file t old new (file_in s i)
      (first_refusal ((not (is_some (fin.get (file_in s i) key)), no_record) ∷ []))
      (updated (file_in s i) key changes) why
      → IsEdit schema built (command.Update i key changes) s new why
  update_edited key changes edit =
      let after = updated (file_in s i) key changes in
      edit_where schema built leaves old new s (command.Update i key changes) i after why of are lt
      (edited_at schema built i file t old new (file_in s i) after _ why def tree edit) refl
      (λ j h. link_stays s (link_at schema j) (link_in s j) i after there
      (inserted_stay s (link_at schema j) (link_in s j) i key
      (with_changes (unwrap_or (fin.get (file_in s i) key) []) changes) (are.valid.links j h))
      (are.valid.links j h))

  pub delete_edited : (key : Value) → is_linked schema.links s.links i key ≡ false
      → IsEditedWhere file t old new (file_in s i)
      (first_refusal ((not (is_some (fin.get (file_in s i) key)), no_record) ∷ []))
      (fin.remove (file_in s i) key) why → IsEdit schema built (command.Delete i key) s new why
  delete_edited key free edit =
      let after = fin.remove (file_in s i) key in
      let at = edited_at schema built i file t old new (file_in s i) after
      (first_refusal ((not (is_some (fin.get (file_in s i) key)), no_record) ∷ [])) why def tree
      edit in
      let same : refusal_of schema s (command.Delete i key) ≡ first_refusal
      ((not (is_some (fin.get (file_in s i) key)), no_record) ∷ []) = ap
      (λ b. first_refusal ((not (is_some (fin.get (file_in s i) key)), no_record) ∷ (b, linked)
      ∷ [])) free in
      edit_where schema built leaves old new s (command.Delete i key) i after why of are lt
      (subst (λ (r : Option Refusal). IsEditedWhere (file_at schema i) (tree_at built.files i) old
      new (file_in s i) r after why) (sym same) at) refl
      (λ j h. link_stays s (link_at schema j) (link_in s j) i after there
      (removed_stay s (link_at schema j) (link_in s j) i key
      (no_end schema.links s.links j i key h (omega (arith, are.valid.links_many, h)) free)
      (are.valid.links j h)) (are.valid.links j h))

-- an end of a pair isn't deleted
pub linked_edit : (schema : Schema) (built : Built) (old new : List LeafMap) (s : State) (i : ℕ)
    (key : Value) → AreInternal schema built old s → new ≡ old
    → is_linked schema.links s.links i key ≡ true
    → IsEdit schema built (command.Delete i key) s new (Some refused.Linked)
linked_edit schema built old new s i key are same is =
    let there = linked_there s schema.links s.links i key are.valid.links is in
    let refusal : refusal_of schema s (command.Delete i key) ≡ Some linked = λ j. first_refusal
    ((not (there j), no_record) ∷ (is j, linked) ∷ []) in
    record {
      why_is = sym refusal;
      stands = subst (λ (r : Option Refusal). AreInternal schema built new
          (cond (is_some r) s (state_after s (command.Delete i key)))) (sym refusal)
          (subst (λ (maps : List LeafMap). AreInternal schema built maps s) (sym same) are);
    }

-- ---- counts of entries

-- the entries of a record of a file are among those of the state
short_with : (limit : Option Limits) (schema : Schema) (built : Built) (leaves before : ℕ)
    (s : State) (i : ℕ) (f : File) (r : Rec) → AreFor schema built leaves
    → length s.files ≡ length schema.files → i < length schema.files → In r (file_records f)
    → IsCrowdedBy limit (before + length (entries_of any_rule (tree_at built.files i) r))
    → IsCrowdedBy limit (before + state_entries built (with_file s i f))
short_with limit schema built leaves before s i f r of many lt there = crowded_more limit _ _
    (let at : get_or (set s.files i f) i fin.empty ≡ f = get_or-set_same s.files i f fin.empty
    (omega (arith, many)) in
    let one = one_total (tree_at built.files i) (file_records f) r there in
    let all : entry_total any_rule (tree_at built.files i) (file_records f) ≤ entries_from
    built.files
    (with_file s i f).files =
    subst (λ (x : File). entry_total any_rule (tree_at built.files i)
    (file_records x) ≤ entries_from
    built.files (with_file s i f).files) at
    (one_file built.files (set s.files i f) i (omega (arith, of.nodes.many))
    (omega (arith, many, length-set s.files i f))) in
    omega (arith, one, all))

-- ---- what isn't refused

pub insert_accepted : (schema : Schema) (s : State) (i : ℕ) (key : Value) (values rest : List Value)
    → values ≡ key ∷ rest → fin.get (file_in s i) key ≡ None
    → refusal_of schema s (command.Insert i values) ≡ None
insert_accepted schema s i key values rest parts none =
    subst (λ (vs : List Value). refusal_of schema s (command.Insert i vs) ≡ None) (sym parts)
    (ap (λ (o : Option (List Value)). first_refusal ((is_some o, key_exists) ∷ [])) none)

pub update_accepted : (schema : Schema) (s : State) (i : ℕ) (key : Value) (changes : List Change)
    (values : List Value) → fin.get (file_in s i) key ≡ Some values
    → refusal_of schema s (command.Update i key changes) ≡ None
update_accepted schema s i key changes values found =
    ap (λ (o : Option (List Value)). first_refusal ((not (is_some o), no_record) ∷ [])) found

-- what isn't refused is carried out
pub next_is : (schema : Schema) (s : State) (c : Command) → refusal_of schema s c ≡ None
    → next_state schema s c ≡ state_after s c
next_is schema s c none = ap (λ (r : Option Refusal). cond (is_some r) s (state_after s c)) none

pub short_after : (limit : Option Limits) (built : Built) (before : ℕ) (s t : State) → t ≡ s
    → IsCrowdedBy limit (before + state_entries built s)
    → IsCrowdedBy limit (before + state_entries built t)
short_after limit built before s t same c =
    subst (λ (x : State). IsCrowdedBy limit (before + state_entries built x)) (sym same) c

module _ (limit : Option Limits) (schema : Schema) (built : Built) (leaves before : ℕ)
    (maps : List LeafMap) (s : State) (i : ℕ) (t : Tree AnyMapping)
    (of : AreFor schema built leaves) (are : AreInternal schema built maps s)
    (lt : i < length schema.files) (tree : t ≡ tree_at built.files i) where
  pub short_insert : (key : Value) (values rest : List Value) → values ≡ key ∷ rest
      → fin.get (file_in s i) key ≡ None
      → IsCrowdedBy limit (before + length (entries_of any_rule t (rec_of (key, rest))))
      → IsCrowdedBy limit (before + state_entries built
      (next_state schema s (command.Insert i values)))
  short_insert key values rest parts none c =
      let f = fin.insert (file_in s i) key rest in
      let free = insert_accepted schema s i key (key ∷ rest) rest refl none in
      subst (λ (vs : List Value). IsCrowdedBy limit
      (before + state_entries built (next_state schema s (command.Insert i vs)))) (sym parts)
      (short_after limit built before (with_file s i f)
      (next_state schema s (command.Insert i (key ∷ rest)))
      (next_is schema s (command.Insert i (key ∷ rest)) free)
      (short_with limit schema built leaves before s i f (rec_of (key, rest)) of
      are.valid.files_many lt (inserted_new (file_in s i) key rest)
      (subst (λ (x : Tree AnyMapping). IsCrowdedBy limit
      (before + length (entries_of any_rule x (rec_of (key, rest))))) tree c)))

  pub short_update : (key : Value) (changes : List Change) (values : List Value)
      → fin.get (file_in s i) key ≡ Some values
      → IsCrowdedBy limit (before + length
      (entries_of any_rule t (rec_of (key, with_changes values changes))))
      → IsCrowdedBy limit (before + state_entries built
      (next_state schema s (command.Update i key changes)))
  short_update key changes values found c =
      let f = fin.insert (file_in s i) key (with_changes values changes) in
      let free = update_accepted schema s i key changes values found in
      let after : updated (file_in s i) key changes ≡ f = ap
      (λ (o : Option (List Value)). fin.insert (file_in s i) key
      (with_changes (unwrap_or o []) changes))
      found in
      short_after limit built before (with_file s i f)
      (next_state schema s (command.Update i key changes))
      (next_is schema s (command.Update i key changes) free ∙ ap (with_file s i) after)
      (short_with limit schema built leaves before s i f (rec_of (key, with_changes values changes))
      of
      are.valid.files_many lt (inserted_new (file_in s i) key (with_changes values changes))
      (subst (λ (x : Tree AnyMapping). IsCrowdedBy limit
      (before + length (entries_of any_rule x (rec_of (key, with_changes values changes))))) tree
      c))
