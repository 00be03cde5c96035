use Rattle.std.proofs.Common.{◌≡◌, ℕ, List, Result, Ok, Err, sym, subst}
use Rattle.std.specs.Prelude.{IfOk}
use Rattle.gx_values.specs.declared.no_memory.NoMemory.{NoMemory}
use Rattle.gx_schema.specs.declared.schema.Schema.{Schema}
use Rattle.gx_schema.specs.Grammar.{IsSchemaText}
use Rattle.gx_schema.specs.Printing.{schema_text}
use Rattle.gx_schema.specs.Reading.{schema_of}
use Rattle.gx_schema.specs.Rules.{IsSchema}
use Rattle.gx_schema.proofs.PrintedText.{schema_printed}
use Rattle.gx_schema.proofs.SchemaLaws.{schema_again}
use Rattle.gx_schema.proofs.print.print_schema.Goals as goal

does_mean : (s : Schema) (r : Result (List ℕ) NoMemory) → IsSchema s
    → IfOk r (λ text. text ≡ schema_text s) → IfOk r (λ text. IsSchemaText text s)
does_mean s (Ok text) h is = subst (λ (t : List ℕ). IsSchemaText t s) (sym is) (schema_printed s h)
does_mean s (Err e) h is = tt

reads_again : (s : Schema) (r : Result (List ℕ) NoMemory) → IfOk r (λ text. IsSchemaText text s)
    → IfOk r (λ text. schema_of text ≡ Ok s)
reads_again s (Ok text) h = schema_again text s h
reads_again s (Err e) h = tt

pub returns-clause-means : goal.returns-clause-means
returns-clause-means c = does_mean c.args.schema.now c.print.result c.requires c.print.ensures

pub returns-clause-again : goal.returns-clause-again
returns-clause-again c =
    reads_again c.args.schema.now c.print.result
    (does_mean c.args.schema.now c.print.result c.requires c.print.ensures)
