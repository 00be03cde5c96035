-- Records and their values.
use Rattle.std.proofs.Common.{[], ◌≡◌, ◌≤◌, List, ◌∷◌, ◌++◌, length, Option, Some, None, refl, sym, subst, arith, length-append, inl}
use Rattle.std.specs.Prelude.{IfSome}
use Rattle.gx_values.specs.declared.values.Kind.{Kind}
use Rattle.gx_values.specs.declared.values.Kind.TheVariants as kind
use Rattle.gx_values.specs.declared.values.Value.{Value}
use Rattle.gx_values.specs.declared.values.Value.TheVariants as value
use Rattle.gx_values.specs.declared.records.Rec.{Rec}
use Rattle.gx_values.specs.Values.{Fits}
use Rattle.gx_values.specs.Keys.{bytes_of, width_of, IsKeyKind}
use Rattle.gx_mapping.specs.Rule.{In}
use Rattle.std.specs.Option.{option_to_list}
use Rattle.gx_gather.proofs.Lists.{in_right}

-- ---- lengths

pub key_width : (k : Kind) (v : Value) → IsKeyKind k → Fits k v → length (bytes_of v) ≤ width_of k
key_width kind.Int (value.Int n) key h = omega arith
key_width (kind.Text most) (value.Text t) key h = omega (arith, h.0, length-append t (0 ∷ []))
key_width (kind.Bytes most) v key h = absurd key
key_width kind.Int (value.Text t) key h = absurd h
key_width kind.Int (value.Bytes t) key h = absurd h
key_width (kind.Text most) (value.Int n) key h = absurd h
key_width (kind.Text most) (value.Bytes n) key h = absurd h

-- ---- lists of records

pub last_fits : (P : Rec → Type 0) (found front : List Rec) (o : Option Rec)
    → found ≡ front ++ option_to_list o → ((r : Rec) → In r found → P r) → IfSome o P
last_fits P found front None is all = tt
last_fits P found front (Some r) is all =
    all r (subst (In r) (sym is) (in_right r front (r ∷ []) (inl refl)))
