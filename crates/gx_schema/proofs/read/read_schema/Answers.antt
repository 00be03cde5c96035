use Rattle.std.proofs.Common.{◌≡◌, List, ℕ, Result, Ok, Err, refl, sym, subst, inl, inr}
use Rattle.std.specs.Prelude.{IfOk, IfErr}
use Rattle.gx_tokens.specs.declared.why.Unread.{Unread}
use Rattle.gx_tokens.specs.declared.why.Unread.TheVariants as unread
use Rattle.gx_tokens.specs.Reading.{IsUnlessNoMemory, with_fault_line}
use Rattle.gx_schema.specs.declared.schema.Schema.{Schema}
use Rattle.gx_schema.specs.Grammar.{IsSchemaText}
use Rattle.gx_schema.specs.Reading.{all_items, schema_of}
use Rattle.gx_schema.specs.Rules.{IsSchema}
use Rattle.gx_schema.specs.WellFormed.{IsWellFormed}
use Rattle.gx_schema.specs.Faults.{IsBad}
use Rattle.gx_schema.proofs.SchemaLaws.{read_found, one_schema, schema_again}
use Rattle.gx_tokens.specs.declared.fault.Fault.{Fault}
use Rattle.gx_tokens.specs.Reading.{bad_of}
use Rattle.gx_schema.proofs.FaultLaws.{first_fault_is}
use Rattle.gx_schema.proofs.SchemaValid.{schema_valid}
use Rattle.gx_schema.proofs.WellFormedLaws.{well_formed}
use Rattle.gx_schema.proofs.read.read_schema.Goals as goal

abbrev answered : Schema → Result Schema Unread
answered s = Ok s

is_found : (bytes : List ℕ) (r : Result Schema Unread) → IsUnlessNoMemory r (schema_of bytes)
    → IfOk r (λ s. IsSchemaText bytes s)
is_found bytes (Err e) h = tt
is_found bytes (Ok s) (inl same) = read_found bytes s (sym same)
is_found bytes (Ok s) (inr none) = let no : answered s ≡ Err unread.NoMemory = none in absurd cc

pub returns-clause-found : goal.returns-clause-found
returns-clause-found c = is_found c.args.bytes.now c.read.result c.read.ensures

pub returns-clause-one : goal.returns-clause-one
returns-clause-one c s t p q = one_schema c.args.bytes.now s t p q

pub returns-clause-only : goal.returns-clause-only
returns-clause-only c s h = let e : schema_of c.args.bytes.now ≡ Ok s =
    schema_again c.args.bytes.now s h in rw e at c.read.ensures

is_valid : (bytes : List ℕ) (r : Result Schema Unread) → IfOk r (λ s. IsSchemaText bytes s)
    → IfOk r (λ s. IsSchema s)
is_valid bytes (Ok s) h = schema_valid bytes s h
is_valid bytes (Err e) h = tt

pub returns-clause-valid : goal.returns-clause-valid
returns-clause-valid c =
    is_valid c.args.bytes.now c.read.result (is_found c.args.bytes.now c.read.result c.read.ensures)

is_well_formed : (r : Result Schema Unread) → IfOk r (λ s. IsSchema s) → IfOk r IsWellFormed
is_well_formed (Ok s) h = well_formed s h
is_well_formed (Err e) h = tt

pub returns-clause-well_formed : goal.returns-clause-well_formed
returns-clause-well_formed c =
    is_well_formed c.read.result
    (is_valid c.args.bytes.now c.read.result
    (is_found c.args.bytes.now c.read.result c.read.ensures))

abbrev refused : Unread → Result Schema Unread
refused error = Err error

refused_is : (x y : Unread) → refused x ≡ refused y → x ≡ y
refused_is x y e = cc

bad_is : (bytes : List ℕ) (o : Result Schema Fault) (e : Unread) → all_items bytes ≡ o
    → refused e ≡ with_fault_line bytes o → IsBad bytes e
bad_is bytes (Ok s) e is same = absurd cc
bad_is bytes (Err f) e is same =
    subst (IsBad bytes) (sym (refused_is e (bad_of bytes f) same)) (first_fault_is bytes f is)

is_bad : (bytes : List ℕ) (r : Result Schema Unread) → IsUnlessNoMemory r (schema_of bytes)
    → IfErr r (λ e. IsBad bytes e)
is_bad bytes (Ok s) h = tt
is_bad bytes (Err e) (inl same) = bad_is bytes (all_items bytes) e refl same
is_bad bytes (Err e) (inr none) = subst (IsBad bytes) (sym (refused_is e unread.NoMemory none)) tt

pub returns-clause-fault : goal.returns-clause-fault
returns-clause-fault c = is_bad c.args.bytes.now c.read.result c.read.ensures
