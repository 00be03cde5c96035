-- How a path is walked from either end, and how many records and pairs a walk meets.
use Rattle.std.specs.Prelude.{◌≡◌, ◌↔◌, ℕ, ◌+◌, List, [], ◌∷◌, ◌++◌, length, filter, flat_map, Bool, true}
use Rattle.std.specs.List.{list_any}
use Rattle.std.specs.FinMap as fin
use Rattle.gx_values.specs.declared.values.Value.{Value}
use Rattle.gx_commands.specs.declared.command.Find.{Find}
use Rattle.gx_commands.specs.declared.path.Way.{Way}
use Rattle.gx_commands.specs.declared.path.Way.TheVariants.{Down, Up}
use Rattle.gx_commands.specs.declared.path.Leg.{Leg}
use Rattle.gx_commands.specs.declared.path.PathQuery.{PathQuery}
use Rattle.gx_laws.specs.Members.{In}
use Rattle.gx_model.specs.States.{State, File, Row, file_in}
use Rattle.gx_model.specs.Paths.{leads, chosen, after_leg, after_legs, last_find}
use Rattle.gx_walks.specs.declared.directions.Direction.{Direction}
use Rattle.gx_walks.specs.declared.directions.Direction.TheVariants.{Forward, Backward}

-- ---- the way back

abbrev pub way_back : Way → Way
way_back (Down link) = Up link
way_back (Up link) = Down link

-- the legs from the last record back to the first file, each with the conditions of the file to
-- which it leads
abbrev pub back_legs : Find → List Leg → List Leg
back_legs first [] = []
back_legs first (leg ∷ legs) =
    back_legs leg.find legs ++ record { way = way_back leg.way; find = first } ∷ []

abbrev pub has_row : List Row → Bool
has_row rows = list_any (λ r. true) rows

-- whether a walk along the legs ends at a record, from this one
abbrev pub arrives : State → List Leg → Row → Bool
arrives s legs r = has_row (after_legs s legs (r ∷ []))

-- whether the walk back from a record of the last file ends at a record of the first
abbrev pub comes_back : State → Find → List Leg → Row → Bool
comes_back s first legs = arrives s (back_legs first legs)

-- ---- what a walk meets

-- the records of a file to which the link leads from a key
abbrev pub linked : State → ℕ → Way → Value → List Row
linked s file way key = filter (λ to. leads s way key to.0) (fin.entries (file_in s file))

-- those to which it leads from any record of a set
abbrev pub all_linked : State → ℕ → Way → List Row → List Row
all_linked s file way rows = flat_map (λ from. linked s file way from.0) rows

-- the records before each leg and the pairs that it follows
abbrev pub met : State → List Leg → List Row → ℕ
met s [] rows = 0
met s (leg ∷ legs) rows =
    length rows + length (all_linked s leg.find.file leg.way rows)
    + met s legs (after_leg s leg rows)

-- those of the walks from each of some records
abbrev pub all_met : State → List Leg → List Row → ℕ
all_met s legs [] = 0
all_met s legs (r ∷ rs) = met s legs (r ∷ []) + all_met s legs rs

-- ---- either way

-- where a path is walked from, along which legs, and how many records and pairs that meets: forward
-- one walk from the first set, backward one from each record of the last
abbrev pub start_of : Direction → PathQuery → Find
start_of Forward q = q.first
start_of Backward q = last_find q.first q.legs

abbrev pub legs_of : Direction → PathQuery → List Leg
legs_of Forward q = q.legs
legs_of Backward q = back_legs q.first q.legs

abbrev pub visits : Direction → State → PathQuery → ℕ
visits Forward s q = met s q.legs (chosen s q.first)
visits Backward s q = all_met s (back_legs q.first q.legs) (chosen s (last_find q.first q.legs))

-- ---- records in any order

-- the rows are the records of the file that pass the test, in any order and each as often as may be
abbrev pub AreThose : File → (Row → Bool) → List Row → Type 0
AreThose f test rows = (r : Row) → In r rows ↔ (In r (fin.entries f) × (test r ≡ true))
