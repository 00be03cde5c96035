-- The names of the files of a list.
use Rattle.std.proofs.Common.{◌≡◌, ℕ, zero, suc, ◌<◌, ◌≤◌, List, [], ◌∷◌, length, get_or, refl, arith}
use Rattle.gx_schema.specs.declared.schema.FileDef.{FileDef}
use Rattle.gx_schema.specs.Printing.{name_at}

pub name_at-within : (files : List FileDef) (number : ℕ) (f : FileDef) → number < length files
    → (get_or files number f).name ≡ name_at files number
name_at-within [] number f lt = absurd (omega arith)
name_at-within (g ∷ files) zero f lt = refl
name_at-within (g ∷ files) (suc number) f lt = name_at-within files number f (omega arith)

pub name_at-past : (files : List FileDef) (number : ℕ) → length files ≤ number
    → name_at files number ≡ []
name_at-past [] number h = refl
name_at-past (f ∷ files) zero h = absurd (omega arith)
name_at-past (f ∷ files) (suc number) h = name_at-past files number (omega arith)
