-- The one direction of a path, and its last file.
use Rattle.std.proofs.Common.{◌≡◌, ◌<◌, ℕ, zero, suc, ◌+◌, Bool, List, [], ◌∷◌, length, get_or, refl, ap, arith, inl, inr}
use Rattle.std.proofs.lemmas.Bool.{cases_Bool}
use Rattle.std.proofs.lemmas.Bool.Decides.{Decides-ltb}
use Rattle.std.specs.Prelude.{◌↔◌, nat_lt, if◌then◌else◌}
use Rattle.gx_schema.specs.declared.schema.Schema.{Schema}
use Rattle.gx_commands.specs.declared.command.Find.{Find}
use Rattle.gx_commands.specs.declared.path.Leg.{Leg}
use Rattle.gx_commands.specs.declared.path.PathQuery.{PathQuery}
use Rattle.gx_commands.specs.Paths.{IsByKey, AreLegsFrom}
use Rattle.gx_model.specs.Paths.{last_find}
use Rattle.gx_walks.specs.declared.directions.Direction.{Direction}
use Rattle.gx_walks.specs.declared.directions.Direction.TheVariants.{Forward, Backward}
use Rattle.gx_walks.specs.Directions.{find_rank, IsDirectionOf}
use Rattle.gx_explain.specs.Explained.{direction_of}

-- the two directions differ
never : Forward ≡ Backward → ⊥
never e = cc

by_ranks : (last first : ℕ) (d : Direction) → (d ≡ Backward) ↔ (last < first)
    → d ≡ (if nat_lt last first then Backward else Forward)
by_ranks last first Backward is = rw ((Decides-ltb last first).1 (is.0 refl)) refl
by_ranks last first Forward is = elim (cases_Bool (nat_lt last first)) as
    (λ _. Forward ≡ (if nat_lt last first then Backward else Forward)) [
      | inl less ↦ absurd (never (is.1 ((Decides-ltb last first).0 less)))
      | inr not_less ↦ rw not_less refl
    ]

pub one_direction : (q : PathQuery) (first last : List Bool) (d : Direction)
    → IsDirectionOf q first last d → d ≡ direction_of q first last
one_direction q first last d is =
    by_ranks (find_rank (last_find q.first q.legs) last) (find_rank q.first first) d is

-- ---- the last file

-- the last leg leads to it
pub last_at : (first : Find) (legs : List Leg) (leg : Leg) (n : ℕ) → n + 1 ≡ length legs
    → leg ≡ get_or legs n leg → leg.find ≡ last_find first legs
last_at first [] leg n many is = absurd (omega arith)
last_at first (l ∷ []) leg zero many is = ap (λ (x : Leg). x.find) is
last_at first (l ∷ m ∷ ms) leg zero many is = absurd (omega arith)
last_at first (l ∷ legs) leg (suc n) many is = last_at l.find legs leg n (omega arith) is

-- it is one of the schema
pub last_within : (schema : Schema) (first : Find) (legs : List Leg) → IsByKey schema first
    → AreLegsFrom schema first.file legs → (last_find first legs).file < length schema.files
last_within schema first [] k h = let of = k.of_schema in of.file
last_within schema first (leg ∷ legs) k h = last_within schema leg.find legs h.0.find h.1
