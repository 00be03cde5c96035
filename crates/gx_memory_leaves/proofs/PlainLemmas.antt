-- What a change of the leaves in memory does to their maps.
use Rattle.std.proofs.Common.{◌≡◌, ◌≢◌, ℕ, zero, suc, ◌<◌, List, [], ◌∷◌, length, get_or, set, map, refl, sym, ap, ◌∙◌}
use Rattle.std.specs.Prelude.{replicate}
use Rattle.std.specs.FinMap as fin
use Rattle.std.specs.Global.{Vec}
use Rattle.std.specs.Vec.{vec_len, with_items}
use Rattle.std.proofs.Math.Seq.{map-set_same}
use Rattle.std.proofs.lemmas.List.{map-set, get_or-map, get_or-set_other, with_items_is, length-map, length-set}
use Rattle.gx_ports.specs.LeafMaps.{LeafMap, map_at, with_entry, without_entry}
use Rattle.gx_memory_leaves.specs.Cells.{LeafPair, ended}
use Rattle.gx_memory_leaves.specs.Pairs.{workings, kepts, empty_pair}
use Rattle.gx_memory_leaves.specs.declared.undo.End.{End}

-- one leaf is given another working map
module _ (ls : List LeafPair) (leaf : ℕ) (old new : LeafPair) (is : old ≡ get_or ls leaf old) where
  there : leaf < length ls → old.working ≡ map_at (workings ls) leaf
  there lt = ap (λ (l : LeafPair). l.working) is
      ∙ sym (get_or-map (λ (l : LeafPair). l.working) ls leaf old fin.empty lt)

  pub put_workings : (key body : List ℕ) → leaf < length ls
      → new ≡ record { working = fin.insert old.working key body; kept = old.kept }
      → workings (set ls leaf new) ≡ with_entry (workings ls) leaf key body
  put_workings key body lt e =
      map-set (λ (l : LeafPair). l.working) ls leaf new
      ∙ ap (set (workings ls) leaf) (ap (λ (l : LeafPair). l.working) e
      ∙ ap (λ (m : LeafMap). fin.insert m key body) (there lt))

  pub remove_workings : (key : List ℕ) → leaf < length ls
      → new ≡ record { working = fin.remove old.working key; kept = old.kept }
      → workings (set ls leaf new) ≡ without_entry (workings ls) leaf key
  remove_workings key lt e =
      map-set (λ (l : LeafPair). l.working) ls leaf new
      ∙ ap (set (workings ls) leaf) (ap (λ (l : LeafPair). l.working) e
      ∙ ap (λ (m : LeafMap). fin.remove m key) (there lt))

  pub same_many : length (workings (set ls leaf new)) ≡ length (workings ls)
  same_many = length-map (set ls leaf new) (λ (l : LeafPair). l.working) ∙ length-set ls leaf new
      ∙ sym (length-map ls (λ (l : LeafPair). l.working))

  pub same_kepts : (w : LeafMap) → new ≡ record { working = w; kept = old.kept }
      → kepts (set ls leaf new) ≡ kepts ls
  same_kepts w e = map-set_same (λ (l : LeafPair). l.kept) ls leaf new old
      (ap (λ (l : LeafPair). l.kept) e ∙ ap (λ (l : LeafPair). l.kept) is)

-- the others stay
pub others_stay : (ls : List LeafPair) (leaf : ℕ) (new : LeafPair) (i : ℕ) → i ≢ leaf
    → map_at (workings (set ls leaf new)) i ≡ map_at (workings ls) i
others_stay ls leaf new i other =
    ap (λ (ms : List LeafMap). map_at ms i) (map-set (λ (l : LeafPair). l.working) ls leaf new)
    ∙ get_or-set_other (workings ls) leaf i new.working fin.empty other

-- all leaves have ended their transaction
all_ended : (end : End) (g : LeafPair → LeafMap) (h : LeafPair → LeafMap)
    → ((l : LeafPair) → g (ended end l) ≡ h l) → (ls : List LeafPair)
    → map g (map (ended end) ls) ≡ map h ls
all_ended end g h same [] = refl
all_ended end g h same (l ∷ ls) = λ i. same l i ∷ all_ended end g h same ls i

-- the same, written back to a vector
pub written : (v : Vec LeafPair) (end : End) (g h : LeafPair → LeafMap)
    → ((l : LeafPair) → g (ended end l) ≡ h l) → (old new : List LeafPair) → old ≡ v.items
    → length old ≡ vec_len v → new ≡ map (ended end) old
    → map g (with_items v new).items ≡ map h v.items
written v end g h same old new is long e =
    ap (map g) (with_items_is v new (ap length e ∙ length-map old (ended end) ∙ long) ∙ e
    ∙ ap (map (ended end)) is) ∙ all_ended end g h same v.items

-- leaves made empty
pub made : (g : LeafPair → LeafMap) → g empty_pair ≡ fin.empty → (n : ℕ)
    → map g (replicate n empty_pair) ≡ replicate n fin.empty
made g e zero = refl
made g e (suc n) = λ i. e i ∷ made g e n i
