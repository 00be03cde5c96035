use Rattle.std.proofs.Common.{refl, arith}
use Rattle.gx_access.specs.Layers.{any_arranged}
use Rattle.gx_types.specs.Any.{any_rule}
use Rattle.gx_types.specs.declared.any.AnyMapping.{AnyMapping}
use Rattle.gx_types.specs.declared.any.AnyMapping.TheVariants as any
use Rattle.gx_gets.specs.Forms.{HasForms}
use Rattle.gx_gets.proofs.laws.layers_have_forms.Goals as goal

any_forms : (m : AnyMapping) → HasForms (any_rule m) (any_arranged m)
any_forms (any.Actual m) = tt
any_forms (any.Encode m) = m.sound
any_forms (any.Segment m) = (m.long, λ c. refl)
any_forms (any.Transpose m) = (m.some, λ c. refl)
any_forms (any.Partition m) = (m.sound, omega arith, λ c. refl)
any_forms (any.Divide m) = m.sound
any_forms (any.Index m) = refl

pub returns : goal.returns
returns c = any_forms
