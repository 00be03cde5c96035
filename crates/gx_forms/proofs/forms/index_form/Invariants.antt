use Rattle.std.proofs.Common.{◌≡◌, ◌∷◌, take}
use Rattle.gx_values.specs.Values.{kind_in}
use Rattle.gx_forms.specs.Fields.{field}
use Rattle.gx_forms.specs.Forms.{index_kind}
use Rattle.gx_forms.proofs.forms.index_form.Given as goal

abbrev pub invariant-loop-key : goal.invariant-loop-key
invariant-loop-key l = l.keys.items ≡ field l.name (index_kind (kind_in l.form.fields l.name))
    ∷ take l.key-index l.form.keys
