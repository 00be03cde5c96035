use Rattle.std.proofs.Common.{◌≡◌, take}
use Rattle.std.specs.Prelude.{filter, not}
use Rattle.gx_forms.specs.Fields.{has_name}
use Rattle.gx_forms.proofs.forms.split_fields.Given as goal

abbrev pub invariant-loop-field : goal.invariant-loop-field
invariant-loop-field l = record {
  named : l.named.items ≡ filter (λ f. has_name l.names f.name) (take l.field-index l.fields);
  others : l.others.items ≡ filter (λ f. not (has_name l.names f.name))
      (take l.field-index l.fields);
}
