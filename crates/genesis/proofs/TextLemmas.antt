-- A reader that is read up to a limit.
use Rattle.std.proofs.Common.{◌≡◌, ℕ, ◌<◌, List, [], ◌++◌, length, take, Option, None, Some, IfSome, ap, ◌∙◌, arith, length-take}
use Rattle.std.specs.Option.{option_map}
use Rattle.std.proofs.lemmas.List.{take_all}

-- what is shorter than the limit was all that there was
pub whole_text : (known : Option (List ℕ)) (limit : ℕ) (before text : List ℕ) → before ≡ []
    → IfSome (option_map (take limit) known) (λ bytes. text ≡ before ++ bytes) → length text < limit
    → IfSome known (λ bytes. text ≡ bytes)
whole_text None limit before text none is short = tt
whole_text (Some bytes) limit before text none is short =
    let front : text ≡ take limit bytes = is ∙ ap (λ xs. xs ++ take limit bytes) none in
    front ∙ take_all limit bytes (omega (arith, ap length front, length-take limit bytes))
