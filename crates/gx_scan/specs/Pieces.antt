-- Records whose bytes stand in pieces, each an entry of one leaf.
use Rattle.std.specs.Prelude.{[], ◌≡◌, ℕ, suc, ◌<◌, ◌≤◌, pos, List, ◌∷◌, ◌++◌}
use Rattle.gx_values.specs.declared.values.Value.TheVariants as value
use Rattle.gx_values.specs.declared.records.Form.{Form}
use Rattle.gx_values.specs.Keys.{bytes_of}
use Rattle.gx_actual.specs.Bodies.{body_of, field_widths}
use Rattle.gx_actual.specs.Forms.{actual_form}
use Rattle.gx_actual.specs.Rules.{actual_rule}
use Rattle.gx_divide.specs.Pieces.{pieces}
use Rattle.gx_divide.specs.Rules.{divide_rule}
use Rattle.gx_stack.specs.Tree.{Tree, leaf, layer, kid, no_kids, tree_form}
use Rattle.gx_types.specs.declared.any.AnyMapping.{AnyMapping}
use Rattle.gx_types.specs.Any.{any_rule}
use Rattle.gx_model.specs.States.{Row}
use Rattle.gx_scan.specs.declared.pieces.Pieces.{Pieces}

-- The tree is a layer `actual` over a layer `divide` over the leaf, which has the bytes of each
-- record in pieces of the size.
pub record ArePieces (t : Tree AnyMapping) (p : Pieces) : Type 0 where
  pub outer : AnyMapping
  pub inner : AnyMapping
  pub form : Form
  pub tree : t ≡ layer outer (kid (layer inner (kid (leaf p.leaf form) no_kids)) no_kids)
  pub joins : any_rule outer ≡ actual_rule (tree_form any_rule t)
  pub cuts : any_rule inner ≡ divide_rule (actual_form (tree_form any_rule t)) p.size
  pub narrow : field_widths (tree_form any_rule t).fields ≤ 65535
  pub some : 0 < p.size

-- the entries of pieces, under the bytes of a record's key and the numbers from j on
abbrev pub numbered_entries : List ℕ → ℕ → List (List ℕ) → List (List ℕ × List ℕ)
numbered_entries key j [] = []
numbered_entries key j (p ∷ ps) =
    (key ++ bytes_of (value.Int (pos j)), p) ∷ numbered_entries key (suc j) ps

-- the entries of a record whose bytes stand in pieces of the size
abbrev pub piece_entries : ℕ → Row → List (List ℕ × List ℕ)
piece_entries size r = numbered_entries (bytes_of r.0) 0 (pieces size (body_of r.1))
