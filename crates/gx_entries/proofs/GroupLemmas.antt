-- Values in two groups.
use Rattle.std.proofs.Common.{◌≡◌, ℕ, zero, suc, ◌+◌, ◌-◌, ◌<◌, List, [], ◌∷◌, ◌++◌, length, map, get_or, set, drop, Bool, true, false, cond, refl, sym, ap, subst, ◌∙◌, append_assoc}
use Rattle.std.specs.Prelude.{not, slice_set}
use Rattle.std.specs.List.{AllByRecursion}
use Rattle.std.proofs.lemmas.Bool.{true≢false}
use Rattle.std.proofs.lemmas.List.{drop_more}
use Rattle.gx_values.specs.declared.values.Value.{Value}
use Rattle.gx_split.specs.Groups.{chosen}
use Rattle.gx_commands.specs.declared.command.Change.{Change}
use Rattle.gx_model.specs.Commands.{with_changes}

first_of : (b : Bool) (mask : List Bool) (v : Value) (vs : List Value)
    → chosen (b ∷ mask) (v ∷ vs) ≡ cond b (v ∷ []) [] ++ chosen mask vs
first_of true mask v vs = refl
first_of false mask v vs = refl

-- one value more is in its group
pub chosen_step : (mask : List Bool) (i n : ℕ) (b : Bool) (v : Value)
    (items rest done pushed total : List Value) → i < length mask → n ≡ i + 1
    → b ≡ get_or mask i false → items ≡ v ∷ rest → pushed ≡ done ++ cond b (v ∷ []) []
    → done ++ chosen (drop i mask) items ≡ total → pushed ++ chosen (drop n mask) rest ≡ total
chosen_step mask i n b v items rest done pushed total lt next is_b steps pushes so_far =
    let m = drop_more mask i false lt ∙ ap (λ (c : Bool). c ∷ drop (i + 1) mask) (sym is_b) in
    (λ j. pushes j ++ chosen (drop (next j) mask) rest)
    ∙ append_assoc done (cond b (v ∷ []) []) (chosen (drop (i + 1) mask) rest)
    ∙ ap (λ (vs : List Value). done ++ vs) (sym (first_of b (drop (i + 1) mask) v rest))
    ∙ (λ j. done ++ chosen (sym m j) (sym steps j))
    ∙ so_far

-- ---- changes of fields of the first group

chosen_set : (mask : List Bool) (vs : List Value) (i : ℕ) (v : Value) → get_or mask i false ≡ true
    → chosen (map not mask) (set vs i v) ≡ chosen (map not mask) vs
chosen_set [] vs i v here = refl
chosen_set (b ∷ mask) [] i v here = refl
chosen_set (true ∷ mask) (w ∷ vs) zero v here = refl
chosen_set (false ∷ mask) (w ∷ vs) zero v here = absurd (true≢false (sym here))
chosen_set (true ∷ mask) (w ∷ vs) (suc i) v here = chosen_set mask vs i v here
chosen_set (false ∷ mask) (w ∷ vs) (suc i) v here =
    ap (λ (ws : List Value). w ∷ ws) (chosen_set mask vs i v here)

pub others_same : (mask : List Bool) (cs : List Change) (vs : List Value)
    → AllByRecursion (λ (c : Change). get_or mask (c.field - 1) false ≡ true) cs
    → chosen (map not mask) (with_changes vs cs) ≡ chosen (map not mask) vs
others_same mask [] vs all = refl
others_same mask (c ∷ cs) vs all =
    others_same mask cs (slice_set vs (c.field - 1) c.value) all.1
    ∙ chosen_set mask vs (c.field - 1) c.value all.0

-- a change more is of the first group
pub all_more : (P : Change → Type 0) (cs : List Change) (i : ℕ) (c : Change) → i < length cs
    → c ≡ get_or cs i c → P c → (AllByRecursion P (drop i cs) → AllByRecursion P cs)
    → AllByRecursion P (drop (i + 1) cs) → AllByRecursion P cs
all_more P cs i c lt is here before rest =
    before (subst (AllByRecursion P)
    (sym (drop_more cs i c lt ∙ ap (λ (d : Change). d ∷ drop (i + 1) cs) (sym is))) (here, rest))
