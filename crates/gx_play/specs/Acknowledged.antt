-- Commits that were told of, and what a crash leaves of them.
use Rattle.std.specs.Prelude.{◌≡◌, ℕ, ◌+◌, ◌≤◌, List, ◌++◌, length}
use Rattle.gx_device.specs.Content.{Moment}
use Rattle.gx_device.specs.Crash.{Image}
use Rattle.gx_device.specs.Quiet.{IsPrefix}
use Rattle.gx_schema.specs.declared.schema.Schema.{Schema}
use Rattle.gx_model.specs.States.{State}
use Rattle.gx_model.specs.Play.{Playing}
use Rattle.gx_play.specs.Asked.{Runs}

-- how many commits there were, without a greatest value
abbrev pub commit_count : Playing → ℕ
commit_count p = length p.earlier

-- So many commits were told of: those of the first lines whose answers all stand whole in front of
-- what was told, as many lines as there can be.
pub record IsAcked (schema : Schema) (p : Playing) (lines : List (List ℕ)) (told : List ℕ)
    (acked : ℕ) : Type 0 where
  pub ran : List (List ℕ)
  pub later : List (List ℕ)
  pub parts : lines ≡ ran ++ later
  pub text : List ℕ
  pub final : Playing
  pub runs : Runs schema p ran text final
  pub stands : IsPrefix text told
  pub are : acked ≡ commit_count final
  pub most : (first rest : List (List ℕ)) (answers : List ℕ) (q : Playing) → lines ≡ first ++ rest
      → Runs schema p first answers q → IsPrefix answers told → commit_count q ≤ acked

-- A moment of a play of these lines comes after all commits that were told of, and after one more
-- at most, where this was said before the play and this now.
pub record KeepsAcked (schema : Schema) (p : Playing) (lines : List (List ℕ)) (final : Playing)
    (before now : List ℕ) : Type 0 where
  pub told : List ℕ
  pub said : now ≡ before ++ told
  pub acked : ℕ
  pub acked_is : IsAcked schema p lines told acked
  pub no_fewer : acked ≤ commit_count final
  pub no_more : commit_count final ≤ acked + 1

-- The blocks hold a state that first lines kept, after all commits that were told of, and after one
-- more at most.
pub record IsKeptImage (schema : Schema) (Holds : State → List (List ℕ) → Type 0) (p : Playing)
    (lines : List (List ℕ)) (start : Moment) (image : Image) : Type 0 where
  pub ran : List (List ℕ)
  pub later : List (List ℕ)
  pub parts : lines ≡ ran ++ later
  pub text : List ℕ
  pub final : Playing
  pub runs : Runs schema p ran text final
  pub holds : Holds final.kept image.blocks
  pub acked : KeepsAcked schema p lines final start.said image.said
  pub shelf : image.shelf ≡ start.shelf
