-- Commits of turns that were told of.
use Rattle.std.specs.Prelude.{◌≡◌, ℕ, ◌+◌, ◌≤◌, List, ◌++◌, length}
use Rattle.gx_device.specs.Quiet.{IsPrefix}
use Rattle.gx_schema.specs.declared.schema.Schema.{Schema}
use Rattle.gx_model.specs.Languages.{RunsIn}
use Rattle.gx_sharing.specs.Sharing.{Sharing}
use Rattle.gx_sharing.specs.Turns.{Turn}
use Rattle.gx_sharing.specs.Texts.{turns}
use Rattle.gx_shares.specs.Player.{texts_of}

-- how many commits there were, without a greatest value
abbrev pub commit_count : Sharing → ℕ
commit_count p = length p.earlier

-- So many commits were told of: those of the first lines whose turns' texts all stand whole in
-- front of what was told, as many lines as there can be.
pub record AreAcked (schema : Schema) (p : Sharing) (lines : List (List ℕ)) (told : List ℕ)
    (acked : ℕ) : Type 0 where
  pub ran : List (List ℕ)
  pub later : List (List ℕ)
  pub parts : lines ≡ ran ++ later
  pub ts : List Turn
  pub final : Sharing
  pub runs : RunsIn (turns schema) p ran ts final
  pub stands : IsPrefix (texts_of ts) told
  pub are : acked ≡ commit_count final
  pub most : (first rest : List (List ℕ)) (us : List Turn) (q : Sharing) → lines ≡ first ++ rest
      → RunsIn (turns schema) p first us q → IsPrefix (texts_of us) told → commit_count q ≤ acked

-- A moment of a play of these lines comes after all commits that were told of, and after one more
-- at most, where this was told.
pub record KeepsAckedTurns (schema : Schema) (p : Sharing) (lines : List (List ℕ))
    (final : Sharing) (told : List ℕ) : Type 0 where
  pub acked : ℕ
  pub acked_is : AreAcked schema p lines told acked
  pub no_fewer : acked ≤ commit_count final
  pub no_more : commit_count final ≤ acked + 1
