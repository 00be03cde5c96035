-- Changes of one record at the places of its own entries.
use Rattle.std.specs.Prelude.{◌≡◌, ℕ, ◌+◌, ◌<◌, Bool, true, false, List, [], ◌∷◌, Option, Some, None, Result, length, is_some, IsSomeAnd, OnOk, IsErrOf}
use Rattle.gx_values.specs.declared.records.Rec.{Rec}
use Rattle.gx_values.specs.declared.values.Value.{Value}
use Rattle.gx_values.specs.Keys.{bytes_of}
use Rattle.gx_ports.specs.declared.stop.Stop.{Stop}
use Rattle.gx_ports.specs.declared.stop.Stop.TheVariants as stop
use Rattle.gx_ports.specs.declared.view.View.{Ghosts}
use Rattle.gx_ports.specs.LeafMaps.{map_at, entry_count, IsCrowdedBy}
use Rattle.gx_ports.specs.Calls.{Keeps, Ends}
use Rattle.gx_mapping.specs.Rule.{In, IsOf}
use Rattle.gx_stack.specs.Tree.{Tree, IsValid, leaves_of, tree_form, entries_of}
use Rattle.gx_stack.specs.Internal.{IsSet, IsInternal, IsChange, changed}
use Rattle.gx_types.specs.declared.any.AnyMapping.{AnyMapping}
use Rattle.gx_types.specs.Any.{any_rule}
use Rattle.gx_scan.specs.Files.{rec_of}
use Rattle.gx_entries.specs.Entries.{others_in}
use Rattle.gx_edits.specs.declared.one_record.RecordData.{RecordData}
use Rattle.gx_edits.specs.declared.one_record.Previous.{Previous}
use Rattle.gx_edits.specs.declared.one_record.Previous.TheVariants as previous

-- the record with this key, of which these are the bytes, can be taken out of the tree's leaves
pub record CanTake (t : Tree AnyMapping) (leaves : ℕ) (key : Value) (bytes : List ℕ) : Type 0 where
  pub valid : IsValid any_rule t
  pub below : (n : ℕ) → In n (leaves_of t) → n < leaves
  pub bytes_are : bytes ≡ bytes_of key

-- this record can be put into them
pub record CanPut (t : Tree AnyMapping) (leaves : ℕ) (new : RecordData) : Type 0 where
  pub valid : IsValid any_rule t
  pub below : (n : ℕ) → In n (leaves_of t) → n < leaves
  pub bytes_are : new.bytes.now ≡ bytes_of new.key.now
  pub fits : IsOf (tree_form any_rule t) (rec_of (new.key.now, new.fields))

-- the record with this key is taken out of the tree's leaves
pub record Takes {S : Type 0} (g : Ghosts S) (t : Tree AnyMapping) (key : Value) (old new : S)
    (result : Result (Unit {0}) Stop) : Type 0 where
  pub internal : (R : List Rec) (gone : Rec) → g.whole old → gone.key ≡ key ∷ []
      → IsSet (tree_form any_rule t) R → In gone R → IsInternal any_rule t R (g.working old)
      → OnOk result (IsInternal any_rule t (changed R (Some gone) None) (g.working new))
  -- all other leaves stay
  pub others : (n : ℕ) → g.whole old → ¬ IsErrOf result stop.Fault → ¬ In n (leaves_of t)
      → map_at (g.working new) n ≡ map_at (g.working old) n
  pub keeps : Keeps g old new
  pub ends : Ends g (g.whole old) old new result
  pub not_full : ¬ IsErrOf result stop.Full

-- the record of this key and these data is put into the tree's leaves, in the place of what is
-- there at the key, of which `Known` holds
pub record Puts {S : Type 0} (g : Ghosts S) (t : Tree AnyMapping) (key : Value)
    (fields : List Value) (Known : Option Rec → Type 0) (old new : S)
    (result : Result (Unit {0}) Stop) : Type 0 where
  pub internal : (R : List Rec) (gone : Option Rec) → g.whole old → Known gone
      → IsSet (tree_form any_rule t) R → IsChange R gone (Some (rec_of (key, fields)))
      → IsInternal any_rule t R (g.working old)
      → OnOk result (IsInternal any_rule t (changed R gone (Some (rec_of (key, fields))))
      (g.working new))
  -- all other leaves stay
  pub others : (n : ℕ) → g.whole old → ¬ IsErrOf result stop.Fault → ¬ In n (leaves_of t)
      → map_at (g.working new) n ≡ map_at (g.working old) n
  pub keeps : Keeps g old new
  pub ends : Ends g (g.whole old) old new result
  -- the pages may not be enough for its entries besides all there are
  pub full : g.whole old → IsErrOf result stop.Full → IsCrowdedBy (g.limit old)
      (entry_count (g.working old) + length (entries_of any_rule t (rec_of (key, fields))))

-- whether a record stands at the key
abbrev pub has_record : Previous → Bool
has_record previous.Absent = false
has_record previous.Present = true
has_record previous.SameOthers = true

-- this stands at the key where these data are put
abbrev pub StandsBefore : Previous → Tree AnyMapping → List Value → Option Rec → Type 0
StandsBefore previous.Absent t fields gone = is_some gone ≡ false
StandsBefore previous.Present t fields gone = is_some gone ≡ true
StandsBefore previous.SameOthers t fields gone =
    IsSomeAnd gone (λ r. others_in t r.fields ≡ others_in t fields)
