-- Both directions of a path give the same records.
use Rattle.std.proofs.Common.{◌≡◌, refl, sym, ap, ◌∙◌, List, [], ◌∷◌, ◌++◌, Bool, true, false}
use Rattle.std.specs.Prelude.{◌&&◌, ◌||◌, filter}
use Rattle.std.specs.List.{list_any}
use Rattle.gx_values.specs.declared.values.Value.{Value}
use Rattle.gx_commands.specs.declared.command.Find.{Find}
use Rattle.gx_model.specs.States.{State, Row}
use Rattle.gx_commands.specs.declared.path.Way.{Way}
use Rattle.gx_commands.specs.declared.path.Way.TheVariants.{Down, Up}
use Rattle.gx_commands.specs.declared.path.Leg.{Leg}
use Rattle.gx_model.specs.Paths.{leads, chosen, is_led, after_leg, after_legs, last_find}
use Rattle.gx_walks.specs.Walks.{way_back, back_legs, comes_back}
use Rattle.gx_walks.proofs.Tests.{any_same, filter_same, filter_all, any_filter, any_and, any_swap}

back_leads : (s : State) (way : Way) (x y : Value) → leads s (way_back way) y x ≡ leads s way x y
back_leads s (Down link) x y = refl
back_leads s (Up link) x y = refl

one_more : (s : State) (legs : List Leg) (leg : Leg) (rows : List Row)
    → after_legs s (legs ++ leg ∷ []) rows ≡ after_leg s leg (after_legs s legs rows)
one_more s [] leg rows = refl
one_more s (l ∷ legs) leg rows = one_more s legs leg (after_leg s l rows)

or_none : (b : Bool) → (b || false) ≡ b
or_none true = refl
or_none false = refl

-- the last step back, to records of the first file that pass a test
step_back : (s : State) (first : Find) (way : Way) (p : Row → Bool) (reached : List Row)
    → list_any (λ y. list_any (λ x. leads s way x.0 y.0) (filter p (chosen s first))) reached
    ≡ list_any p (filter (is_led s (way_back way) reached) (chosen s first))
step_back s first way p reached =
    let all = chosen s first in
    any_same _ _ (λ y. any_filter (λ x. leads s way x.0 y.0) p all) reached
    ∙ any_swap (λ (x y : Row). p x && leads s way x.0 y.0) all reached
    ∙ any_same _ _ (λ x. any_and (p x) (λ (y : Row). leads s way x.0 y.0) reached
    ∙ and_swap (p x) (list_any (λ (y : Row). leads s way x.0 y.0) reached)
    ∙ ap (λ (b : Bool). b && p x)
    (any_same _ _ (λ y. sym (back_leads s way x.0 y.0)) reached)) all
    ∙ sym (any_filter p (is_led s (way_back way) reached) all)
  where
    and_swap : (a b : Bool) → (a && b) ≡ (b && a)
    and_swap true true = refl
    and_swap true false = refl
    and_swap false true = refl
    and_swap false false = refl

-- from records of the first file that pass a test
pub walked : (s : State) (first : Find) (legs : List Leg) (p : Row → Bool)
    → after_legs s legs (filter p (chosen s first))
    ≡ filter (λ r. list_any p (after_legs s (back_legs first legs) (r ∷ [])))
    (chosen s (last_find first legs))
walked s first [] p =
    filter_same p (λ r. p r || false) (λ r. sym (or_none (p r))) (chosen s first)
walked s first (leg ∷ legs) p =
    walked s leg.find legs (is_led s leg.way (filter p (chosen s first)))
    ∙ filter_same _ _ (λ r.
    let reached = after_legs s (back_legs leg.find legs) (r ∷ []) in
    step_back s first leg.way p reached
    ∙ ap (λ (l : List Row). list_any p l)
    (sym (one_more s (back_legs leg.find legs) (record { way = way_back leg.way; find = first })
    (r ∷ []))))
    (chosen s (last_find leg.find legs))

pub either : (s : State) (first : Find) (legs : List Leg)
    → after_legs s legs (chosen s first)
    ≡ filter (comes_back s first legs) (chosen s (last_find first legs))
either s first legs =
    ap (after_legs s legs) (sym (filter_all (chosen s first)))
    ∙ walked s first legs (λ r. true)
