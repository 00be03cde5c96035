use Rattle.std.proofs.Common.{◌≡◌, take, map}
use Rattle.gx_forms.specs.Forms.{coded_field}
use Rattle.gx_forms.specs.Narrow.{narrow_field}
use Rattle.gx_forms.proofs.forms.encode_form.Given as goal

abbrev pub invariant-loop-field : goal.invariant-loop-field
invariant-loop-field l =
    map narrow_field l.fields.items ≡ map narrow_field
    (map (coded_field l.name l.code) (take l.field-index l.form.fields))
