-- Which fields are indexed in the terms of an equation.
use Rattle.std.specs.Prelude.{ℕ, zero, suc, Bool, true, false, not, ◌&&◌, ◌||◌, is_some, List, [], ◌∷◌}
use Rattle.gx_values.specs.declared.records.Form.{Form}
use Rattle.gx_schema.specs.declared.schema.FileDef.{FileDef}
use Rattle.gx_equation.specs.Trees.{TermTree, Trees, node, none, kid, SideTree, file_side, link_side, DefinitionTree}
use Rattle.gx_typing.specs.Dues.{file_form}
use Rattle.gx_forms.specs.Forms.{kid_form}
use Rattle.gx_types.specs.HeadRules.{head_rule}

-- some of the terms carries the field; the first of them is the child with the number i
abbrev pub some_carries : (ℕ → Bool) → ℕ → Trees → Bool
some_carries carries i none = false
some_carries carries i (kid t ts) = carries i || some_carries carries (suc i) ts

-- A field of records of the form is indexed in a term where the head has an index by it, or where
-- some child carries it and it is indexed in each child that carries it. In a leaf none is.
abbrev mutual
  pub term_indexed : Form → TermTree → List ℕ → Bool
  term_indexed form (node top kids) name =
      is_some ((head_rule top form).indexes name)
      || (some_carries (λ c. (head_rule top form).carries c name) 0 kids
      && terms_indexed (kid_form top form) (λ c. (head_rule top form).carries c name) 0 kids name)

  -- so it is in each of the terms that carries it; the first of them is the child with the number i
  pub terms_indexed : (ℕ → Form) → (ℕ → Bool) → ℕ → Trees → List ℕ → Bool
  terms_indexed forms carries i none name = true
  terms_indexed forms carries i (kid t ts) name =
      (not (carries i) || term_indexed (forms i) t name) && terms_indexed forms carries
      (suc i) ts name

-- ---- files

abbrev pub side_indexed : Form → SideTree → List ℕ → Bool
side_indexed form (file_side t) name = term_indexed form t name
side_indexed form (link_side linkset ts) name = false

-- whether the file of this number is indexed by a field, where the definitions are those of the
-- files in their order
abbrev pub file_indexed : List FileDef → List DefinitionTree → ℕ → List ℕ → Bool
file_indexed [] ds i name = false
file_indexed (file ∷ files) [] i name = false
file_indexed (file ∷ files) (d ∷ ds) zero name = side_indexed (file_form file) d.side name
file_indexed (file ∷ files) (d ∷ ds) (suc i) name = file_indexed files ds i name
