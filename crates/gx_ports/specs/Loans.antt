-- What stays of a value that lends a part of itself.
use Rattle.std.specs.Prelude.{⊤}
use Rattle.std.specs.Borrow.{follows_so, Fml, MutBor, RattleType}
use mathlib.Core.Option.{none}

-- P holds of what the lender is once the loan has ended
abbrev pub Rests : (R : RattleType) → MutBor R.Denot → (R.Denot → Type 0) → Fml
Rests R s P = follows_so R R s.ghost_name none (λ _ _. ⊤) P
