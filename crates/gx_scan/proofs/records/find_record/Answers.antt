use Rattle.std.proofs.Common.{rules, ◌∙◌, List, Some, sym, ap, subst}
use Rattle.std.specs.Prelude.{IfSome}
use Rattle.std.specs.Option.{option_map}
use Rattle.gx_values.specs.declared.values.Value.{Value}
use Rattle.gx_values.specs.Values.{AreFit}
use Rattle.gx_schema.specs.Lookups.{data_fields}
use Rattle.gx_mapping.specs.Rule.{IsOf}
use Rattle.gx_typing.specs.Dues.{file_form}
use Rattle.gx_scan.specs.Files.{rec_of}
use Rattle.gx_scan.proofs.FileLemmas.{row_fits}
use Rattle.gx_scan.proofs.records.find_record.Goals as goal

pub returns : goal.returns
returns g c =
    let file = c.args.file.now in
    let key = c.args.key.now in
    let values = c.in-Some.values in
    let made = c.in_ok-record_of.ensures in record {
      found = λ f whole is.
          let found = sym c.in-Some.is ∙ c.in_ok-values.ensures.found f whole is in
          ap Some made
          ∙ ap (option_map (λ (vs : List Value). rec_of (key, vs))) found;
      fits = subst (IsOf (file_form file)) (sym made)
          (row_fits file (key, values) c.requires.storable.keyed (
            c.requires.key,
            subst (λ o. IfSome o (AreFit (data_fields file))) c.in-Some.is
                c.in_ok-values.ensures.fits,
          ));
      steps = c.in_ok-values.ensures.steps;
      reads = search rules;
    }
