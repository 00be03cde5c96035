-- The grammar of a path line, and its reading, with the first reason why it is none.
use Rattle.std.specs.Prelude.{◌≡◌, ℕ, zero, suc, Bool, false, ◌⊎◌, List, [], ◌∷◌, ◌++◌, Option, Some, None, is_some, Result, Ok, Err, ◌==◌, if◌then◌else◌, codes, IsTrue}
use Rattle.std.specs.List.{list_all}
use Rattle.gx_schema.specs.declared.schema.Schema.{Schema}
use Rattle.gx_schema.specs.Lookups.{file_at}
use Rattle.gx_commands.specs.declared.command.LineWhy.{LineWhy}
use Rattle.gx_commands.specs.declared.command.LineWhy.TheVariants as why
use Rattle.gx_commands.specs.declared.path.Way.{Way}
use Rattle.gx_commands.specs.declared.path.Way.TheVariants.{Down, Up}
use Rattle.gx_commands.specs.declared.path.Leg.{Leg}
use Rattle.gx_commands.specs.declared.path.PathQuery.{PathQuery}
use Rattle.gx_commands.specs.Paths.{IsPathOf, most_legs, file_before, file_behind, by_key}
use Rattle.gx_commands.specs.Words.{Word, is_character, AreWords}
use Rattle.gx_commands.specs.Cutting.{is_end, words_in}
use Rattle.gx_script.specs.Grammar.{◌⨾◌, NoWord, the, FileName, LinkName, WhereWords}
use Rattle.gx_script.specs.Reading.{◌>>=◌, want, behind, a_file, a_link, where_at}

-- the first word is `path`
abbrev pub is_path : List ℕ → Bool
is_path line = is_some (behind (codes "path") (words_in line))

-- ---- the grammar

-- down LINK, or up LINK
abbrev pub WayWords : Schema → Way → List Word → List Word → Type 0
WayWords schema (Down link) = the (codes "down") ⨾ LinkName schema link
WayWords schema (Up link) = the (codes "up") ⨾ LinkName schema link

-- LEG {LEG}
abbrev pub LegsWords : Schema → List Leg → List Word → List Word → Type 0
LegsWords schema [] = NoWord
LegsWords schema (leg ∷ legs) =
    WayWords schema leg.way ⨾ WhereWords (file_at schema leg.find.file) leg.find.conds
    ⨾ LegsWords schema legs

-- path FILE [where COND {and COND}] LEG {LEG}
abbrev pub PathWords : Schema → PathQuery → List Word → List Word → Type 0
PathWords schema q =
    the (codes "path") ⨾ FileName schema q.first.file
    ⨾ WhereWords (file_at schema q.first.file) q.first.conds ⨾ LegsWords schema q.legs

-- the words, all of them, mean the path, which keeps the rules: each leg leads from the file to
-- which the one before leads, values fit their fields, and there are one to eight legs
pub record MeansPath (schema : Schema) (words : List Word) (q : PathQuery) : Type 0 where
  pub text : PathWords schema q words []
  pub rules : IsPathOf schema q

-- the line is characters, and words that mean the path
abbrev pub IsPathLine : Schema → List ℕ → PathQuery → Type 0
IsPathLine schema line q =
    IsTrue (list_all is_character line)
    × ((words : List Word) × AreWords line words × MeansPath schema words q)

-- ---- reading, from left to right

abbrev pub a_way : Schema → (ℕ → Way) → List Word → Result (Way × List Word) LineWhy
a_way schema made words = do
  link ← want (a_link schema) words
  Ok (made link.0, link.1)

abbrev pub way_from : Schema → Option (List Word) → Option (List Word)
    → Result (Way × List Word) LineWhy
way_from schema (Some rest) up = a_way schema (λ link. Down link) rest
way_from schema None (Some rest) = a_way schema (λ link. Up link) rest
way_from schema None None = Err why.Word

-- down LINK or up LINK, with a link that leads from the file
unfoldable pub way_at : Schema → ℕ → List Word → Result (Way × List Word) LineWhy
way_at schema file words = do
  x ← way_from schema (behind (codes "down") words) (behind (codes "up") words)
  if file_before schema x.0 == file then Ok x else Err why.Link

-- a leg from the file
unfoldable pub leg_at : Schema → ℕ → List Word → Result (Leg × List Word) LineWhy
leg_at schema file words = do
  way ← way_at schema file words
  conds ← where_at (file_at schema (file_behind schema way.0)) way.1
  Ok (record { way = way.0; find = by_key (file_behind schema way.0) conds.0 }, conds.1)

-- LEG {LEG} up to the end, from the file, behind the legs before; not more of them than `room`
unfoldable pub legs_at : ℕ → Schema → ℕ → List Leg → List Word → Result (List Leg) LineWhy
legs_at zero schema file before words = Err why.Word
legs_at (suc room) schema file before words = do
  x ← leg_at schema file words
  if is_end x.1 then Ok (before ++ x.0 ∷ [])
      else legs_at room schema x.0.find.file (before ++ x.0 ∷ []) x.1

-- what stands behind the first word
unfoldable pub path_at : Schema → List Word → Result PathQuery LineWhy
path_at schema words = do
  file ← want (a_file schema) words
  conds ← where_at (file_at schema file.0) file.1
  legs ← legs_at most_legs schema file.0 [] conds.1
  Ok (record { first = by_key file.0 conds.0; legs = legs })

abbrev pub path_from : Schema → Option (List Word) → Result PathQuery LineWhy
path_from schema None = Err why.Word
path_from schema (Some words) = path_at schema words

-- the path that words mean, or the first reason why they mean none
abbrev pub path_reading : Schema → List Word → Result PathQuery LineWhy
path_reading schema words = path_from schema (behind (codes "path") words)

-- What a line gives as a path: `Character` where a byte isn't one, else `Quote` where the line
-- isn't words with blanks between them, else what its words give.
abbrev pub IsPathReading : Schema → List ℕ → Result PathQuery LineWhy → Type 0
IsPathReading schema line given =
    ((list_all is_character line ≡ false) × (given ≡ Err why.Character))
    ⊎ (IsTrue (list_all is_character line) × ((words : List Word) → AreWords line words → ⊥)
    × (given ≡ Err why.Quote))
    ⊎ (IsTrue (list_all is_character line)
    × ((words : List Word) × AreWords line words × (given ≡ path_reading schema words)))
