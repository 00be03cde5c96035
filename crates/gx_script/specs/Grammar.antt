-- The grammar of lines: which words mean which command, apart from how they are read.
use Rattle.std.specs.Prelude.{◌≡◌, ℕ, Bool, true, false, ◌⊎◌, List, [], ◌∷◌, Option, Some, None, IsTrue, codes}
use Rattle.std.specs.List.{list_all}
use Rattle.gx_values.specs.declared.values.Value.{Value}
use Rattle.gx_values.specs.declared.values.Value.TheVariants as value
use Rattle.gx_schema.specs.declared.schema.FileDef.{FileDef}
use Rattle.gx_schema.specs.declared.schema.Schema.{Schema}
use Rattle.gx_schema.specs.Lookups.{file_at, link_at}
use Rattle.gx_tokens.specs.Numbers.{is_number, number_value}
use Rattle.gx_tokens.specs.Quotes.{unquoted}
use Rattle.gx_commands.specs.declared.command.Cond.{Cond}
use Rattle.gx_commands.specs.declared.command.Of.{Of}
use Rattle.gx_commands.specs.declared.command.OrderBy.{OrderBy}
use Rattle.gx_commands.specs.declared.command.Change.{Change}
use Rattle.gx_commands.specs.declared.command.Command.{Command}
use Rattle.gx_commands.specs.declared.command.Command.TheVariants as command
use Rattle.gx_commands.specs.Commands.{IsOfSchema}
use Rattle.gx_commands.specs.Words.{Word, Bare, Quoted, is_character, is_comment, AreWords}
use Rattle.gx_script.specs.Names.{op_text, file_number, link_number, field_number}

-- A phrase is a relation between the words that are left before it and those behind it: the one,
-- and then the other
infixr 10 ◌⨾◌
abbrev pub ◌⨾◌ : (List Word → List Word → Type 0) → (List Word → List Word → Type 0) → List Word
    → List Word → Type 0
(a ⨾ b) words rest = (mid : List Word) × a words mid × b mid rest

-- no word
abbrev pub NoWord : List Word → List Word → Type 0
NoWord words rest = words ≡ rest

-- this keyword
abbrev pub the : List ℕ → List Word → List Word → Type 0
the text words rest = words ≡ Bare text ∷ rest

-- ---- names and values

-- the name of the file, the link or the field of this number
abbrev pub FileName : Schema → ℕ → List Word → List Word → Type 0
FileName schema file words rest =
    (name : List ℕ) × the name words rest × (file_number schema.files name ≡ Some file)

abbrev pub LinkName : Schema → ℕ → List Word → List Word → Type 0
LinkName schema link words rest =
    (name : List ℕ) × the name words rest × (link_number schema.links name ≡ Some link)

-- the name of the link of this number, which no file has
abbrev pub NoFileName : Schema → ℕ → List Word → List Word → Type 0
NoFileName schema link words rest =
    (name : List ℕ) × the name words rest × (file_number schema.files name ≡ None)
    × (link_number schema.links name ≡ Some link)

abbrev pub FieldName : FileDef → ℕ → List Word → List Word → Type 0
FieldName file field words rest =
    (name : List ℕ) × the name words rest × (field_number file.fields name ≡ Some field)

-- an int is some spelling of the number; a text stands in quotes, with each quote in it twice
abbrev pub IsLiteral : Value → Word → Type 0
IsLiteral (value.Int n) (Bare text) = (is_number text ≡ true) × (number_value text ≡ n)
IsLiteral (value.Text text) (Quoted quoted) = unquoted false quoted ≡ text
IsLiteral _ _ = ⊥

abbrev pub Literal : Value → List Word → List Word → Type 0
Literal v words rest = (word : Word) × (words ≡ word ∷ rest) × IsLiteral v word

-- VALUE {VALUE}
abbrev pub Literals : List Value → List Word → List Word → Type 0
Literals [] = NoWord
Literals (v ∷ vs) = Literal v ⨾ Literals vs

-- ---- parts of commands

-- FIELD VALUE {FIELD VALUE}
abbrev pub ChangeWords : FileDef → Change → List Word → List Word → Type 0
ChangeWords file c = FieldName file c.field ⨾ Literal c.value

abbrev pub ChangesWords : FileDef → List Change → List Word → List Word → Type 0
ChangesWords file [] = λ _ _. ⊥
ChangesWords file (c ∷ []) = ChangeWords file c
ChangesWords file (c ∷ d ∷ cs) = ChangeWords file c ⨾ ChangesWords file (d ∷ cs)

-- FIELD OP VALUE {and FIELD OP VALUE}
abbrev pub CondWords : FileDef → Cond → List Word → List Word → Type 0
CondWords file c = FieldName file c.field ⨾ the (op_text c.op) ⨾ Literal c.bound

abbrev pub CondsWords : FileDef → List Cond → List Word → List Word → Type 0
CondsWords file [] = λ _ _. ⊥
CondsWords file (c ∷ []) = CondWords file c
CondsWords file (c ∷ d ∷ cs) = CondWords file c ⨾ the (codes "and") ⨾ CondsWords file (d ∷ cs)

-- [where COND {and COND}]
abbrev pub WhereWords : FileDef → List Cond → List Word → List Word → Type 0
WhereWords file [] = NoWord
WhereWords file (c ∷ cs) = the (codes "where") ⨾ CondsWords file (c ∷ cs)

-- [of LINK OWNER]
abbrev pub OfWords : Schema → Option Of → List Word → List Word → Type 0
OfWords schema None = NoWord
OfWords schema (Some of) = the (codes "of") ⨾ LinkName schema of.link ⨾ Literal of.owner

-- [desc]
abbrev pub DescWords : Bool → List Word → List Word → Type 0
DescWords false = NoWord
DescWords true = the (codes "desc")

-- [order FIELD [desc]]; without it the order is by the key, ascending
abbrev pub OrderWords : FileDef → OrderBy → List Word → List Word → Type 0
OrderWords file order words rest =
    ((order ≡ record { field = 0; desc = false }) × NoWord words rest)
    ⊎ (the (codes "order") ⨾ FieldName file order.field ⨾ DescWords order.desc) words rest

-- ---- commands

abbrev pub CommandWords : Schema → Command → List Word → List Word → Type 0
CommandWords schema command.Begin = the (codes "begin")
CommandWords schema command.Commit = the (codes "commit")
CommandWords schema command.Abort = the (codes "abort")
CommandWords schema (command.Insert file values) =
    the (codes "insert") ⨾ FileName schema file ⨾ Literals values
CommandWords schema (command.Get file key) = the (codes "get") ⨾ FileName schema file ⨾ Literal key
CommandWords schema (command.Update file key changes) =
    the (codes "update") ⨾ FileName schema file ⨾ Literal key ⨾ ChangesWords
    (file_at schema file) changes
CommandWords schema (command.Delete file key) =
    the (codes "delete") ⨾ FileName schema file ⨾ Literal key
CommandWords schema (command.Connect link owner member) =
    the (codes "connect") ⨾ LinkName schema link ⨾ Literal owner ⨾ Literal member
CommandWords schema (command.Disconnect link member) =
    the (codes "disconnect") ⨾ LinkName schema link ⨾ Literal member
CommandWords schema (command.Members link owner order) =
    the (codes "members") ⨾ LinkName schema link ⨾ Literal owner ⨾ OrderWords
    (file_at schema (link_at schema link).member) order
CommandWords schema (command.Owner link member) =
    the (codes "owner") ⨾ LinkName schema link ⨾ Literal member
CommandWords schema (command.Find q) =
    the (codes "find") ⨾ FileName schema q.file ⨾ WhereWords
    (file_at schema q.file) q.conds ⨾ OfWords schema q.of ⨾ OrderWords
    (file_at schema q.file) q.order
CommandWords schema (command.ReorganizeFile file) = the (codes "reorganize") ⨾ FileName schema file
CommandWords schema (command.ReorganizeLink link) =
    the (codes "reorganize") ⨾ NoFileName schema link
CommandWords schema command.Nothing = NoWord

-- the words, all of them, mean the command, which keeps the rules: values fit their fields,
-- `update` names neither the key nor a field twice, and the link of `of` has the file's records as
-- members
pub record MeansCommand (schema : Schema) (line : List Word) (c : Command) : Type 0 where
  pub words : CommandWords schema c line []
  pub rules : IsOfSchema schema c

-- a comment means nothing; another line is characters, and words that mean the command
abbrev pub IsLineOf : Schema → List ℕ → Command → Type 0
IsLineOf schema line c =
    (IsTrue (is_comment line) × (c ≡ command.Nothing))
    ⊎ ((is_comment line ≡ false) × IsTrue (list_all is_character line)
    × ((words : List Word) × AreWords line words × MeansCommand schema words c))
