use Rattle.std.proofs.Common.{◌∙◌, ap}
use Rattle.gx_model.specs.Texts.{rows_text}
use Rattle.gx_finds.proofs.listing.found_text.Goals as goal

pub returns-clause-listed : goal.returns-clause-listed
returns-clause-listed g c = λ f whole is. record {
  rows = c.in_ok-rows.rows.items;
  listed = c.in_ok-rows.ensures.listed f whole is;
  is = c.in_ok-records_text.ensures ∙ ap (rows_text c.args.file.now) c.deref.ensures.value;
}
