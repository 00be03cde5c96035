-- The defaults of fields.
use Rattle.std.proofs.Common.{◌≡◌, ℕ, suc, List, [], ◌∷◌, length, true, false, refl, ap, arith}
use Rattle.std.specs.Prelude.{nat_eq}
use Rattle.std.specs.Ordering.{nat_cmp, is_eq}
use Rattle.std.proofs.lemmas.Bool.Decides.{nat_tests}
use Rattle.std.specs.declared.cmp.Ordering.{Ordering}
use Rattle.std.specs.declared.cmp.Ordering.TheVariants.{Less, Equal, Greater}
use Rattle.std.specs.Cmp.{tied_itself}
use Rattle.std.specs.Cmp.Lexicographic.{slice_cmp}
use Rattle.gx_values.specs.declared.values.Kind.{Kind}
use Rattle.gx_values.specs.declared.values.Kind.TheVariants as kind
use Rattle.gx_values.specs.declared.values.Value.{Value}
use Rattle.gx_values.specs.declared.records.Field.{Field}
use Rattle.gx_values.specs.Values.{value_cmp, Fits, default_in, default_of, is_default}
use Rattle.gx_values.proofs.OrderLemmas.{value_cmp_total, value_cmp_same}

-- an empty list of bytes
pub none_default : (bytes : List ℕ) → nat_eq (length bytes) 0 ≡ is_eq (slice_cmp nat_cmp bytes [])
none_default [] = refl
none_default (b ∷ bytes) = some (length bytes)
  where
    some : (n : ℕ) → nat_eq (suc n) 0 ≡ false
    some n = grind (arith, nat_tests)

-- the default fits its field
pub default_fits : (field : Field) → Fits field.kind (default_of field)
default_fits field = by_kind field.kind
  where
    by_kind : (k : Kind) → Fits k (default_in k)
    by_kind kind.Int = record { sfits = omega arith }
    by_kind (kind.Text most) = (omega arith, refl)
    by_kind (kind.Bytes most) = omega arith

-- and is the one value that is the default
pub default_again : (field : Field) → is_default field (default_of field) ≡ true
default_again field = ap is_eq (tied_itself value_cmp_total (default_of field))

pub default_only : (field : Field) (v : Value) → is_default field v ≡ true → v ≡ default_of field
default_only field v is =
    value_cmp_same v (default_of field) (tied (value_cmp v (default_of field)) is)
  where
    tied : (o : Ordering) → is_eq o ≡ true → o ≡ Equal
    tied Less e = cc
    tied Equal e = refl
    tied Greater e = cc
