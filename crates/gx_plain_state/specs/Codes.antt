-- How a proof tells values, files, links and states apart.
use Rattle.std.specs.Prelude.{◌≡◌, ℕ, ℤ, List, ◌⊎◌}
use Rattle.std.proofs.Common.{refl, inl, inr}
use Rattle.std.specs.FinMap.{code}
use Rattle.std.specs.Coded.{Coded, code_by, coded_list, coded×, coded⊎, coded_ℕ, coded_ℤ}
use Rattle.gx_values.specs.declared.values.Value.{Value}
use Rattle.gx_values.specs.declared.values.Value.TheVariants as value
use Rattle.gx_model.specs.States.{File, Link, State}

abbrev parts : Value → ℤ ⊎ (List ℕ ⊎ List ℕ)
parts (value.Int n) = inl n
parts (value.Text text) = inr (inl text)
parts (value.Bytes bytes) = inr (inr bytes)

abbrev whole : ℤ ⊎ (List ℕ ⊎ List ℕ) → Value
whole (inl n) = value.Int n
whole (inr (inl text)) = value.Text text
whole (inr (inr bytes)) = value.Bytes bytes

pub whole_parts : (v : Value) → whole (parts v) ≡ v
whole_parts (value.Int n) = refl
whole_parts (value.Text text) = refl
whole_parts (value.Bytes bytes) = refl

abbrev pub coded_value : Coded Value
coded_value =
    code_by (ℤ ⊎ (List ℕ ⊎ List ℕ))
    (coded⊎ coded_ℤ (coded⊎ (coded_list coded_ℕ) (coded_list coded_ℕ))) parts whole whole_parts

abbrev pub coded_file : Coded File
coded_file = code coded_value (coded_list coded_value)

abbrev pub coded_link : Coded Link
coded_link = code coded_value coded_value

abbrev pub coded_state : Coded State
coded_state =
    code_by (List File × List Link) (coded× (coded_list coded_file) (coded_list coded_link))
    (λ s. (s.files, s.links)) (λ p. record { files = p.0; links = p.1 }) (λ _. refl)
