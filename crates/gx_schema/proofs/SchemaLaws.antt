-- What texts mean.
use Rattle.std.proofs.Common.{◌≡◌, ℕ, List, Result, Ok, Err, sym, ap, ◌∙◌}
use Rattle.gx_tokens.specs.declared.fault.Fault.{Fault}
use Rattle.gx_tokens.specs.declared.why.Unread.{Unread}
use Rattle.gx_tokens.specs.Reading.{with_fault_line}
use Rattle.gx_schema.specs.declared.schema.Schema.{Schema}
use Rattle.gx_schema.specs.Grammar.{IsSchemaText}
use Rattle.gx_schema.specs.Reading.{all_items, schema_of}
use Rattle.gx_schema.proofs.TextFound.{schema_found}
use Rattle.gx_schema.proofs.TextAgain.{items_read}

abbrev answered : Schema → Result Schema Unread
answered s = Ok s

answered_is : (s t : Schema) → answered s ≡ answered t → s ≡ t
answered_is s t e = cc

with_line_ok : (bytes : List ℕ) (r : Result Schema Fault) (s : Schema)
    → with_fault_line bytes r ≡ answered s → r ≡ Ok s
with_line_ok bytes (Ok t) s e = ap (λ (z : Schema). Ok z) (answered_is t s e)
with_line_ok bytes (Err f) s e = absurd cc

pub read_found : (bytes : List ℕ) (s : Schema) → schema_of bytes ≡ Ok s → IsSchemaText bytes s
read_found bytes s e = schema_found bytes s (with_line_ok bytes (all_items bytes) s e)

pub schema_again : (bytes : List ℕ) (s : Schema) → IsSchemaText bytes s → schema_of bytes ≡ Ok s
schema_again bytes s h = ap (with_fault_line bytes) (items_read bytes s h)

-- a text means one schema at most
pub one_schema : (bytes : List ℕ) (s t : Schema) → IsSchemaText bytes s → IsSchemaText bytes t
    → s ≡ t
one_schema bytes s t p q = answered_is s t (sym (schema_again bytes s p) ∙ schema_again bytes t q)
