-- What a search answers or appends, how many steps it takes, and what it keeps.
use Rattle.std.specs.Prelude.{◌≡◌, ℕ, ◌+◌, ◌*◌, ◌≤◌, List, ◌++◌, length, filter, Bool, true, Option, Result, IfOk, IfSome, OnOk}
use Rattle.std.specs.FinMap as fin
use Rattle.std.specs.List.{AllByRecursion, flat_map}
use Rattle.gx_values.specs.declared.values.Value.{Value}
use Rattle.gx_values.specs.declared.records.Rec.{Rec}
use Rattle.gx_values.specs.declared.keys.Span.{Span}
use Rattle.gx_values.specs.Keys.{bytes_of}
use Rattle.gx_values.specs.Values.{Fits, AreFit}
use Rattle.gx_schema.specs.declared.schema.FileDef.{FileDef}
use Rattle.gx_schema.specs.Lookups.{key_kind, data_fields}
use Rattle.gx_commands.specs.declared.command.Cond.{Cond}
use Rattle.gx_ports.specs.declared.stop.Stop.{Stop}
use Rattle.gx_ports.specs.declared.view.View.{Ghosts}
use Rattle.gx_ports.specs.Calls.{ReadsMaps}
use Rattle.gx_ports.specs.LeafMaps.{Extends}
use Rattle.gx_mapping.specs.Rule.{IsOf}
use Rattle.gx_stack.specs.Tree.{Tree, leaves_of}
use Rattle.gx_types.specs.declared.any.AnyMapping.{AnyMapping}
use Rattle.gx_typing.specs.Dues.{file_form}
use Rattle.gx_model.specs.States.{File, Row, IsRowOf}
use Rattle.gx_model.specs.Found.{meets_conds}
use Rattle.gx_scan.specs.Files.{IsInternal, HasFile, IsStorable, IsTreeFor}
use Rattle.gx_scan.specs.Records.{record_at}
use Rattle.gx_scan.specs.Steps.{HaveAtMost, rows_inside, rows_with, span_bound, index_bound}
use Rattle.gx_scan.specs.Within.{AreAdded}
use Rattle.gx_scan.specs.Where.{AreAddedWhere, rows_at_key}

-- ---- by a key

-- the span has the bytes of the key at both ends
pub record IsSpanOf (key : Value) (span : Span) : Type 0 where
  pub lo : span.lo ≡ bytes_of key
  pub hi : span.hi ≡ bytes_of key

-- the tree can hold the file, whose keys are of the kind of the key; the span is that of the key
pub record IsKeySearch (file : FileDef) (t : Tree AnyMapping) (leaves : ℕ) (key : Value)
    (span : Span) : Type 0 where
  pub tree : IsTreeFor file t leaves
  pub storable : IsStorable file
  pub fits : Fits (key_kind file) key
  pub bounds : IsSpanOf key span

-- The answer is what is at the key of the file that a tree's leaves hold, and fits.
pub record Finds {S T : Type 0} (g : Ghosts S) (file : FileDef) (t : Tree AnyMapping)
    (at : File → Option T) (IsFit : T → Type 0) (old new : S)
    (result : Result (Option T) Stop) : Type 0 where
  pub found : (f : File) → g.whole old → IsInternal file t (g.working old) f
      → IfOk result (λ found. found ≡ at f)
  pub fits : IfOk result (λ found. IfSome found IsFit)
  -- a step for each leaf, and one for each leaf entry of the record
  pub steps : (f : File) (most : ℕ) → g.whole old → IsInternal file t (g.working old) f
      → HaveAtMost most t f
      → OnOk result (g.work new ≤ g.work old + (length (leaves_of t) + most))
  pub reads : ReadsMaps g (g.whole old × HasFile file t (g.working old)) old new result

-- the values of the record with the key, but for the key, where there is one
abbrev pub FindsValues : {S : Type 0} → Ghosts S → FileDef → Tree AnyMapping → (key : Value) → S → S
    → Result (Option (List Value)) Stop → Type 0
FindsValues g file t key old new result =
    Finds g file t (λ f. fin.get f key) (AreFit (data_fields file)) old new result

-- the record with the key, where there is one
abbrev pub FindsRecord : {S : Type 0} → Ghosts S → FileDef → Tree AnyMapping → (key : Value) → S → S
    → Result (Option Rec) Stop → Type 0
FindsRecord g file t key old new result =
    Finds g file t (λ f. record_at f key) (IsOf (file_form file)) old new result

-- ---- rows that are appended

-- What was appended is as the relation says of the file that a tree's leaves hold, in no more steps
-- than the bound says of that file and of the most leaf entries that a record of it has. Whatever
-- the answer is, the rows that were there are the front of those that are there now.
pub record AddsRows {S T : Type 0} (g : Ghosts S) (file : FileDef) (t : Tree AnyMapping)
    (Added : File → List Row → List Row → Type 0) (bound : File → ℕ → ℕ) (old new : S)
    (before now : List Row) (result : Result T Stop) : Type 0 where
  pub rows : (f : File) → g.whole old → IsInternal file t (g.working old) f
      → OnOk result (Added f before now)
  pub steps : (f : File) (most : ℕ) → g.whole old → IsInternal file t (g.working old) f
      → HaveAtMost most t f → OnOk result (g.work new ≤ g.work old + bound f most)
  pub front : Extends before now
  pub reads : ReadsMaps g (g.whole old × HasFile file t (g.working old)) old new result

-- the records within the span that meet the conditions
abbrev pub AddsWithin : {S T : Type 0} → Ghosts S → FileDef → Tree AnyMapping → Span → List Cond
    → S → S → List Row → List Row → Result T Stop → Type 0
AddsWithin g file t span conds old new before now result =
    AddsRows g file t (AreAdded span conds)
    (λ f most. span_bound (length (rows_inside span f)) most (length (leaves_of t)))
    old new before now result

-- those whose field, of this number, is within the span, by an index of the field
abbrev pub AddsWhere : {S T : Type 0} → Ghosts S → FileDef → Tree AnyMapping → (field : ℕ) → Span
    → List Cond → S → S → List Row → List Row → Result T Stop → Type 0
AddsWhere g file t field span conds old new before now result =
    AddsRows g file t (AreAddedWhere field span conds)
    (λ f most. index_bound (length (rows_with field span f)) most (length (leaves_of t)))
    old new before now result

-- the record at a key, where there is one and it meets the conditions
abbrev pub AddsAtKey : {S T : Type 0} → Ghosts S → FileDef → Tree AnyMapping → (key : List Value)
    → List Cond → S → S → List Row → List Row → Result T Stop → Type 0
AddsAtKey g file t key conds old new before now result =
    AddsRows g file t
    (λ f front rows. rows ≡ front ++ filter (meets_conds conds) (rows_at_key f key))
    (λ f most. length (leaves_of t) + most) old new before now result

-- the same at each of these keys
abbrev pub AddsAtKeys : {S T : Type 0} → Ghosts S → FileDef → Tree AnyMapping
    → (keys : List (List Value)) → List Cond → S → S → List Row → List Row → Result T Stop → Type 0
AddsAtKeys g file t keys conds old new before now result =
    AddsRows g file t
    (λ f front rows. rows
    ≡ front ++ filter (meets_conds conds) (flat_map (rows_at_key f) keys))
    (λ f most. length keys * (length (leaves_of t) + most)) old new before now result

-- ---- rows of entries

-- Where the entries are those of records of the file, appended are the records that meet the
-- conditions, in their order, and the answer is `true`. Whatever the answer is, the rows that were
-- there are the front of those that are there now, and all are rows of the file if they were.
pub record AddsChosen {E : Type 0} (file : FileDef) (HaveRows : List Row → Type 0)
    (conds : List Cond) (before now : List Row) (result : Result Bool E) : Type 0 where
  pub chosen : (rs : List Row) → HaveRows rs
      → IfOk result (λ all. (all ≡ true) × (now ≡ before ++ filter (meets_conds conds) rs))
  pub front : Extends before now
  pub fit : AllByRecursion (IsRowOf file) before → AllByRecursion (IsRowOf file) now
