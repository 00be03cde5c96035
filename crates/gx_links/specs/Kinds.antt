-- The kinds of the fields of a form, by which its values fit.
use Rattle.std.specs.Prelude.{List, [], ◌∷◌, map}
use Rattle.gx_values.specs.declared.values.Kind.{Kind}
use Rattle.gx_values.specs.declared.values.Kind.TheVariants as kind
use Rattle.gx_values.specs.declared.values.Value.{Value}
use Rattle.gx_values.specs.declared.values.Value.TheVariants as value
use Rattle.gx_values.specs.declared.records.Field.{Field}
use Rattle.gx_values.specs.Values.{Fits}

abbrev pub kinds_of : List Field → List Kind
kinds_of = map (λ field. field.kind)

-- one value for each kind, and each fits
abbrev pub AreOfKinds : List Kind → List Value → Type 0
AreOfKinds [] [] = Unit {0}
AreOfKinds (kind ∷ kinds) (value ∷ values) = Fits kind value × AreOfKinds kinds values
AreOfKinds _ _ = ⊥
