-- A fragment has an entry of each record, unless the record has no part in one of its groups.
use Rattle.std.proofs.Common.{◌≡◌, ◌∙◌, ℕ, zero, suc, ◌/◌, List, [], ◌++◌, map, not, length, Bool, true, false, if◌then◌else◌, Option, Some, None, refl, ap}
use Rattle.gx_values.specs.declared.records.Rec.{Rec}
use Rattle.gx_values.specs.declared.values.Value.{Value}
use Rattle.gx_ports.specs.declared.leaves.Entry.{Entry}
use Rattle.gx_mapping.specs.declared.parts.Part.{Part}
use Rattle.gx_divide.specs.Pieces.{cut}
use Rattle.gx_divide.specs.Rules.{bytes_in, numbered}
use Rattle.gx_stack.specs.Tree.{entry_in}
use Rattle.gx_access.specs.declared.access.Fragment.{Fragment}
use Rattle.gx_access.specs.Access.{fragment_entries, leaf_entries, is_absent, seen}
use Rattle.gx_access.specs.Held.{leaf_pair}
use Rattle.gx_gets.specs.Restored.{restored, put_fragment}

cut_some : (n : ℕ) (key : List Value) (more size : ℕ) (bytes : List ℕ)
    → map leaf_pair (map (λ (p : Part). entry_in n p.rec) (numbered key 0 (cut more size bytes)))
    ≡ [] → ⊥
cut_some n key zero size bytes e = cc
cut_some n key (suc more) size bytes e = cc

leaf_some : (n : ℕ) (piece : Option ℕ) (q : Rec) → map leaf_pair (leaf_entries n piece q) ≡ [] → ⊥
leaf_some n None q e = cc
leaf_some n (Some size) q e =
    cut_some n q.key (length (bytes_in q.fields) / size) size (bytes_in q.fields) e

-- what is put and answered where the fragment has no entry
pub none_put : (f : Fragment) (r : Rec) (ws : List Value)
    → map leaf_pair (fragment_entries r f) ≡ []
    → (false ≡ not (is_absent f.view.groups r.fields)) × (ws ≡ put_fragment f r.fields ws)
none_put f r ws = go (is_absent f.view.groups r.fields)
  where
    go : (b : Bool)
        → map leaf_pair (if b then [] else leaf_entries f.leaf f.piece (seen f.view r)) ≡ []
        → (false ≡ not b) × (ws ≡ (if b then ws else restored f.view.slots r.fields ws))
    go true e = (refl, refl)
    go false e = absurd (leaf_some f.leaf f.piece (seen f.view r) e)

-- what is appended to nothing is all
pub found_here : (new start more : List Entry) → new ≡ start ++ more → start ≡ [] → new ≡ more
found_here new start more is none = is ∙ ap (λ es. es ++ more) none
