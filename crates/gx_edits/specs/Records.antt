-- What an edit of one file does to its leaves.
use Rattle.std.specs.Prelude.{[], ◌∷◌, ◌≡◌, ℕ, ◌+◌, List, length, Option, Some, None, Result, not, is_some, if◌then◌else◌, IfOk, IsErrOf}
use Rattle.std.specs.FinMap as fin
use Rattle.std.specs.Option.{option_map}
use Rattle.gx_values.specs.declared.values.Value.{Value}
use Rattle.gx_values.specs.Values.{Fits}
use Rattle.gx_schema.specs.declared.schema.FileDef.{FileDef}
use Rattle.gx_schema.specs.Lookups.{key_kind}
use Rattle.gx_commands.specs.declared.command.Change.{Change}
use Rattle.gx_ports.specs.declared.stop.Stop.{Stop}
use Rattle.gx_ports.specs.declared.stop.Stop.TheVariants as stop
use Rattle.gx_ports.specs.declared.view.View.{Ghosts}
use Rattle.gx_ports.specs.LeafMaps.{LeafMap, map_at, entry_count, IsCrowdedBy}
use Rattle.gx_ports.specs.Calls.{Keeps, Ends}
use Rattle.gx_mapping.specs.Rule.{In}
use Rattle.gx_stack.specs.Tree.{Tree, leaves_of, entries_of}
use Rattle.gx_types.specs.declared.any.AnyMapping.{AnyMapping}
use Rattle.gx_types.specs.Any.{any_rule}
use Rattle.gx_pairs.specs.declared.refused.Refused.{Refused}
use Rattle.gx_pairs.specs.Changes.{refusal_for}
use Rattle.gx_model.specs.States.{File}
use Rattle.gx_model.specs.Commands.{Refusal, with_changes, updated as updated_file, first_refusal, key_exists, no_record}
use Rattle.gx_scan.specs.Files.{rec_of, IsInternal, IsStorable, IsTreeFor, HasFile}

-- the tree is one for the records of the file, of which one may have this key
pub record CanEdit (file : FileDef) (t : Tree AnyMapping) (leaves : ℕ) (key : Value) : Type 0 where
  pub tree : IsTreeFor file t leaves
  pub storable : IsStorable file
  pub key_fits : Fits (key_kind file) key

-- the working maps after a command on one file: its tree holds the records after it, and all other
-- leaves stay
pub record IsEdited (file : FileDef) (t : Tree AnyMapping) (old new : List LeafMap)
    (f : File) : Type 0 where
  pub stands : IsInternal file t new f
  pub others : (n : ℕ) → ¬ In n (leaves_of t) → map_at new n ≡ map_at old n

-- a command on one file was done, or refused and changed nothing
pub record IsEditedWhere (file : FileDef) (t : Tree AnyMapping) (old new : List LeafMap)
    (before : File) (refusal : Option Refusal) (after : File) (why : Option Refused) : Type 0 where
  pub why_is : option_map refusal_for why ≡ refusal
  pub edited : IsEdited file t old new (if is_some refusal then before else after)

-- a new record of this key and these other values is put into the file, or is refused
pub record Inserts {S : Type 0} (g : Ghosts S) (file : FileDef) (t : Tree AnyMapping) (key : Value)
    (values : List Value) (old new : S) (result : Result (Option Refused) Stop) : Type 0 where
  pub inserted : (f : File) → g.whole old → IsInternal file t (g.working old) f
      → IfOk result (λ why. IsEditedWhere file t (g.working old) (g.working new) f
      (first_refusal ((is_some (fin.get f key), key_exists) ∷ [])) (fin.insert f key values) why)
  pub keeps : Keeps g old new
  pub ends : Ends g (g.whole old × HasFile file t (g.working old)) old new result
  pub block : (n : ℕ) → IsErrOf result (stop.Damaged n) → g.whole old → n ≡ 0
  -- it isn't refused, and the pages may not be enough for its entries besides all there are
  pub full : (f : File) → g.whole old → IsInternal file t (g.working old) f
      → IsErrOf result stop.Full → (fin.get f key ≡ None)
      × IsCrowdedBy (g.limit old)
      (entry_count (g.working old) + length (entries_of any_rule t (rec_of (key, values))))

-- the record with this key is taken out of the file, or this is refused
pub record Deletes {S : Type 0} (g : Ghosts S) (file : FileDef) (t : Tree AnyMapping) (key : Value)
    (old new : S) (result : Result (Option Refused) Stop) : Type 0 where
  pub deleted : (f : File) → g.whole old → IsInternal file t (g.working old) f
      → IfOk result (λ why. IsEditedWhere file t (g.working old) (g.working new) f
      (first_refusal ((not (is_some (fin.get f key)), no_record) ∷ [])) (fin.remove f key) why)
  pub keeps : Keeps g old new
  pub ends : Ends g (g.whole old × HasFile file t (g.working old)) old new result
  pub block : (n : ℕ) → IsErrOf result (stop.Damaged n) → g.whole old → n ≡ 0
  pub not_full : ¬ IsErrOf result stop.Full

-- the record with this key is changed in the file, or this is refused
pub record Updates {S : Type 0} (g : Ghosts S) (file : FileDef) (t : Tree AnyMapping) (key : Value)
    (changes : List Change) (old new : S) (result : Result (Option Refused) Stop) : Type 0 where
  pub updated : (f : File) → g.whole old → IsInternal file t (g.working old) f
      → IfOk result (λ why. IsEditedWhere file t (g.working old) (g.working new) f
      (first_refusal ((not (is_some (fin.get f key)), no_record) ∷ []))
      (updated_file f key changes) why)
  pub keeps : Keeps g old new
  pub ends : Ends g (g.whole old × HasFile file t (g.working old)) old new result
  pub block : (n : ℕ) → IsErrOf result (stop.Damaged n) → g.whole old → n ≡ 0
  -- it isn't refused, and the pages may not be enough for the new entries besides all there are
  pub full : (f : File) → g.whole old → IsInternal file t (g.working old) f
      → IsErrOf result stop.Full → (values : List Value) × (fin.get f key ≡ Some values)
      × IsCrowdedBy (g.limit old) (entry_count (g.working old)
      + length (entries_of any_rule t (rec_of (key, with_changes values changes))))
