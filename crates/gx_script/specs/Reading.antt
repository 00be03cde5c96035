-- Reading the words of a line from left to right, with the first reason why they are no command.
use Rattle.std.specs.Prelude.{◌≡◌, ℕ, ℤ, zero, suc, Bool, true, false, ◌||◌, List, [], ◌∷◌, ◌++◌, length, Option, Some, None, Result, Ok, Err, nat_le, ◌==◌, if◌then◌else◌, codes, ◌⊎◌, IsTrue}
use Rattle.std.specs.List.{list_all, list_any}
use Rattle.std.specs.Option.{ok_or}
use Rattle.gx_values.specs.declared.values.Kind.{Kind}
use Rattle.gx_values.specs.declared.values.Kind.TheVariants as kind
use Rattle.gx_values.specs.declared.values.Value.{Value}
use Rattle.gx_values.specs.declared.values.Value.TheVariants as value
use Rattle.gx_values.specs.declared.values.Op.{Op}
use Rattle.gx_values.specs.declared.records.Field.{Field}
use Rattle.gx_schema.specs.declared.schema.FileDef.{FileDef}
use Rattle.gx_schema.specs.declared.schema.Schema.{Schema}
use Rattle.gx_schema.specs.Lookups.{file_at, link_at, field_at, key_kind}
use Rattle.gx_tokens.specs.Numbers.{signed_number}
use Rattle.gx_tokens.specs.Quotes.{unquoted}
use Rattle.gx_commands.specs.declared.command.Cond.{Cond}
use Rattle.gx_commands.specs.declared.command.Of.{Of}
use Rattle.gx_commands.specs.declared.command.OrderBy.{OrderBy}
use Rattle.gx_commands.specs.declared.command.Change.{Change}
use Rattle.gx_commands.specs.declared.command.Command.{Command}
use Rattle.gx_commands.specs.declared.command.Command.TheVariants as command
use Rattle.gx_commands.specs.declared.command.LineWhy.{LineWhy}
use Rattle.gx_commands.specs.declared.command.LineWhy.TheVariants as why
use Rattle.gx_commands.specs.declared.command.NoCommand.{NoCommand}
use Rattle.gx_commands.specs.declared.command.NoCommand.TheVariants as no_command
use Rattle.gx_script.specs.declared.keywords.Verb.{Verb}
use Rattle.gx_script.specs.declared.keywords.Verb.TheVariants as verb
use Rattle.gx_commands.specs.Words.{Word, Bare, Quoted, is_character, is_comment, AreWords}
use Rattle.gx_commands.specs.Cutting.{taken, is_end}
use Rattle.gx_script.specs.Names.{is_text, verb_of, op_of, file_number, link_number, field_number}

-- the one reading, and then the other on what it left
infixl 10 ◌>>=◌
abbrev pub ◌>>=◌ : {A B : Type 0} → Result A LineWhy → (A → Result B LineWhy) → Result B LineWhy
(Ok x) >>= f = f x
(Err e) >>= f = Err e

-- what a word means, with the words behind it
abbrev pub met : {A : Type 0} → Result A LineWhy → List Word → Result (A × List Word) LineWhy
met (Ok x) rest = Ok (x, rest)
met (Err reason) rest = Err reason

-- One word: what it means at its place, or the reason why it may not stand there, is for `meaning`
-- to say. Where it is missing, the reason is `Word`.
abbrev pub want : {A : Type 0} → (Word → Result A LineWhy) → List Word
    → Result (A × List Word) LineWhy
want meaning words = do
  x ← taken words
  met (meaning x.0) x.1

-- what stands behind a keyword, where it is the next word
abbrev pub behind : List ℕ → List Word → Option (List Word)
behind keyword [] = None
behind keyword (Quoted text ∷ ws) = None
behind keyword (Bare text ∷ ws) = if is_text text keyword then Some ws else None

-- ---- what a word means at each place

-- a quoted text is no name, no keyword and no operator
abbrev pub bare_or : {A : Type 0} → LineWhy → (List ℕ → Option A) → Word → Result A LineWhy
bare_or reason meaning (Quoted text) = Err reason
bare_or reason meaning (Bare text) = ok_or (meaning text) reason

abbrev pub a_verb : Word → Result Verb LineWhy
a_verb = bare_or why.Word verb_of

abbrev pub an_op : Word → Result Op LineWhy
an_op = bare_or why.Word op_of

abbrev pub a_file : Schema → Word → Result ℕ LineWhy
a_file schema = bare_or why.File (file_number schema.files)

abbrev pub a_link : Schema → Word → Result ℕ LineWhy
a_link schema = bare_or why.Link (link_number schema.links)

-- a link whose members are of the file
abbrev pub a_link_to : Schema → ℕ → Word → Result ℕ LineWhy
a_link_to schema file word = do
  link ← a_link schema word
  if (link_at schema link).member == file then Ok link else Err why.Link

abbrev pub a_field : FileDef → Word → Result ℕ LineWhy
a_field file = bare_or why.Field (field_number file.fields)

abbrev pub is_changed : List Change → ℕ → Bool
is_changed before field = list_any (λ c. c.field == field) before

-- a field other than the key that isn't changed before
abbrev pub a_new_field : FileDef → List Change → Word → Result ℕ LineWhy
a_new_field file before word = do
  field ← a_field file word
  if field == 0 || is_changed before field then Err why.Field else Ok field

-- a file, or else a link
abbrev pub structure_from : Option ℕ → Option ℕ → Result Command LineWhy
structure_from (Some file) link = Ok (command.ReorganizeFile file)
structure_from None (Some link) = Ok (command.ReorganizeLink link)
structure_from None None = Err why.File

abbrev pub a_structure : Schema → Word → Result Command LineWhy
a_structure schema (Quoted text) = Err why.File
a_structure schema (Bare name) =
    structure_from (file_number schema.files name) (link_number schema.links name)

abbrev pub int_from : Option ℤ → Result Value LineWhy
int_from None = Err why.Value
int_from (Some n) = Ok (value.Int n)

-- a number for an int, a quoted text that is short enough for a text
abbrev pub a_value : Kind → Word → Result Value LineWhy
a_value kind.Int (Bare text) = int_from (signed_number text)
a_value (kind.Text most) (Quoted text) =
    if nat_le (length (unquoted false text)) most then Ok (value.Text (unquoted false text))
    else Err why.Value
a_value _ _ = Err why.Value

-- ---- parts of commands

-- FILE KEY
unfoldable pub record_at : Schema → List Word → Result (ℕ × Value × List Word) LineWhy
record_at schema words = do
  file ← want (a_file schema) words
  key ← want (a_value (key_kind (file_at schema file.0))) file.1
  Ok (file.0, key.0, key.1)

-- LINK OWNER
unfoldable pub link_and_owner : Schema → List Word → Result (ℕ × Value × List Word) LineWhy
link_and_owner schema words = do
  link ← want (a_link schema) words
  owner ← want (a_value (key_kind (file_at schema (link_at schema link.0).owner))) link.1
  Ok (link.0, owner.0, owner.1)

-- LINK MEMBER
unfoldable pub member_at : Schema → List Word → Result (ℕ × Value × List Word) LineWhy
member_at schema words = do
  link ← want (a_link schema) words
  member ← want (a_value (key_kind (file_at schema (link_at schema link.0).member))) link.1
  Ok (link.0, member.0, member.1)

-- a value for each field, behind those before
unfoldable pub values_at : List Field → List Value → List Word
    → Result (List Value × List Word) LineWhy
values_at [] before words = Ok (before, words)
values_at (field ∷ fields) before words = do
  x ← want (a_value field.kind) words
  values_at fields (before ++ x.0 ∷ []) x.1

-- FIELD VALUE
unfoldable pub change_at : FileDef → List Change → List Word → Result (Change × List Word) LineWhy
change_at file before words = do
  field ← want (a_new_field file before) words
  x ← want (a_value (field_at file field.0).kind) field.1
  Ok (record { field = field.0; value = x.0 }, x.1)

-- FIELD VALUE {FIELD VALUE} up to the end, behind the changes before; not more of them than `room`
unfoldable pub changes_at : ℕ → FileDef → List Change → List Word
    → Result (List Change × List Word) LineWhy
changes_at zero file before words = Err why.Word
changes_at (suc room) file before words = do
  x ← change_at file before words
  if is_end x.1 then Ok (before ++ x.0 ∷ [], x.1) else changes_at room file (before ++ x.0 ∷ []) x.1

-- FIELD OP VALUE
unfoldable pub cond_at : FileDef → List Word → Result (Cond × List Word) LineWhy
cond_at file words = do
  field ← want (a_field file) words
  op ← want an_op field.1
  x ← want (a_value (field_at file field.0).kind) op.1
  Ok (record { field = field.0; op = op.0; bound = x.0 }, x.1)

-- the conditions so far, or those with more of them where `and` stands
abbrev pub more_conds : (List Cond → List Word → Result (List Cond × List Word) LineWhy) → List Cond
    → List Word → Option (List Word) → Result (List Cond × List Word) LineWhy
more_conds reader conds words None = Ok (conds, words)
more_conds reader conds words (Some rest) = reader conds rest

-- COND {and COND}, behind the conditions before; not more of them than `room`
unfoldable pub conds_at : ℕ → FileDef → List Cond → List Word
    → Result (List Cond × List Word) LineWhy
conds_at zero file before words = Err why.Word
conds_at (suc room) file before words = do
  x ← cond_at file words
  more_conds (λ conds rest. conds_at room file conds rest) (before ++ x.0 ∷ []) x.1
      (behind (codes "and") x.1)

abbrev pub where_from : FileDef → List Word → Option (List Word)
    → Result (List Cond × List Word) LineWhy
where_from file words None = Ok ([], words)
where_from file words (Some rest) = conds_at (length rest) file [] rest

-- [where COND {and COND}]
unfoldable pub where_at : FileDef → List Word → Result (List Cond × List Word) LineWhy
where_at file words = where_from file words (behind (codes "where") words)

-- LINK OWNER, with a link whose members are of the file
unfoldable pub owner_of_at : Schema → ℕ → List Word → Result (Of × List Word) LineWhy
owner_of_at schema file words = do
  link ← want (a_link_to schema file) words
  owner ← want (a_value (key_kind (file_at schema (link_at schema link.0).owner))) link.1
  Ok (record { link = link.0; owner = owner.0 }, owner.1)

abbrev pub of_from : Schema → ℕ → List Word → Option (List Word)
    → Result (Option Of × List Word) LineWhy
of_from schema file words None = Ok (None, words)
of_from schema file words (Some rest) = do
  of ← owner_of_at schema file rest
  Ok (Some of.0, of.1)

-- [of LINK OWNER]
unfoldable pub of_at : Schema → ℕ → List Word → Result (Option Of × List Word) LineWhy
of_at schema file words = of_from schema file words (behind (codes "of") words)

abbrev pub desc_from : ℕ → List Word → Option (List Word) → OrderBy × List Word
desc_from field words None = (record { field = field; desc = false }, words)
desc_from field words (Some rest) = (record { field = field; desc = true }, rest)

-- [desc]
unfoldable pub desc_at : ℕ → List Word → OrderBy × List Word
desc_at field words = desc_from field words (behind (codes "desc") words)

abbrev pub order_from : FileDef → List Word → Option (List Word)
    → Result (OrderBy × List Word) LineWhy
order_from file words None = Ok (record { field = 0; desc = false }, words)
order_from file words (Some rest) = do
  field ← want (a_field file) rest
  Ok (desc_at field.0 field.1)

-- [order FIELD [desc]]; without it by the key, ascending
unfoldable pub order_at : FileDef → List Word → Result (OrderBy × List Word) LineWhy
order_at file words = order_from file words (behind (codes "order") words)

-- ---- commands, behind their first word

unfoldable pub insert_at : Schema → List Word → Result (Command × List Word) LineWhy
insert_at schema words = do
  file ← want (a_file schema) words
  x ← values_at (file_at schema file.0).fields [] file.1
  Ok (command.Insert file.0 x.0, x.1)

unfoldable pub update_at : Schema → List Word → Result (Command × List Word) LineWhy
update_at schema words = do
  r ← record_at schema words
  x ← changes_at (length r.2) (file_at schema r.0) [] r.2
  Ok (command.Update r.0 r.1 x.0, x.1)

unfoldable pub connect_at : Schema → List Word → Result (Command × List Word) LineWhy
connect_at schema words = do
  o ← link_and_owner schema words
  member ← want (a_value (key_kind (file_at schema (link_at schema o.0).member))) o.2
  Ok (command.Connect o.0 o.1 member.0, member.1)

unfoldable pub members_at : Schema → List Word → Result (Command × List Word) LineWhy
members_at schema words = do
  o ← link_and_owner schema words
  order ← order_at (file_at schema (link_at schema o.0).member) o.2
  Ok (command.Members o.0 o.1 order.0, order.1)

unfoldable pub find_at : Schema → List Word → Result (Command × List Word) LineWhy
find_at schema words = do
  file ← want (a_file schema) words
  conds ← where_at (file_at schema file.0) file.1
  of ← of_at schema file.0 conds.1
  order ← order_at (file_at schema file.0) of.1
  Ok (command.Find (record { file = file.0; conds = conds.0; of = of.0; order = order.0 }), order.1)

abbrev pub of_record : (ℕ → Value → Command) → ℕ × Value × List Word → Command × List Word
of_record made x = (made x.0 x.1, x.2)

-- what stands behind the first word of a command
unfoldable pub command_behind : Schema → Verb → List Word → Result (Command × List Word) LineWhy
command_behind schema verb.Begin words = Ok (command.Begin, words)
command_behind schema verb.Commit words = Ok (command.Commit, words)
command_behind schema verb.Abort words = Ok (command.Abort, words)
command_behind schema verb.Insert words = insert_at schema words
command_behind schema verb.Get words = do
  r ← record_at schema words
  Ok (of_record (λ file key. command.Get file key) r)
command_behind schema verb.Update words = update_at schema words
command_behind schema verb.Delete words = do
  r ← record_at schema words
  Ok (of_record (λ file key. command.Delete file key) r)
command_behind schema verb.Connect words = connect_at schema words
command_behind schema verb.Disconnect words = do
  r ← member_at schema words
  Ok (of_record (λ link member. command.Disconnect link member) r)
command_behind schema verb.Members words = members_at schema words
command_behind schema verb.Owner words = do
  r ← member_at schema words
  Ok (of_record (λ link member. command.Owner link member) r)
command_behind schema verb.Find words = find_at schema words
command_behind schema verb.Reorganize words = want (a_structure schema) words

-- no word is left
abbrev pub ended : Command × List Word → Result Command LineWhy
ended x = if is_end x.1 then Ok x.0 else Err why.Word

abbrev pub command_at : Schema → List Word → Result Command LineWhy
command_at schema words = do
  verb ← want a_verb words
  x ← command_behind schema verb.0 verb.1
  ended x

-- the command that words mean, or the first reason why they mean none
unfoldable pub reading : Schema → List Word → Result Command LineWhy
reading schema words = if is_end words then Ok command.Nothing else command_at schema words

-- ---- what a call answers

-- the error is what reading gives, or there was no memory
abbrev pub Fails : {Y : Type 0} → NoCommand → Result Y LineWhy → Type 0
Fails no_command.NoMemory read = Unit {0}
Fails (no_command.Bad reason) read = read ≡ Err reason

-- what a call returned, with its value seen by view, is what reading gives, or there was no memory
abbrev pub Gives : {X Y : Type 0} → (X → Y) → Result X NoCommand → Result Y LineWhy → Type 0
Gives view (Ok x) read = read ≡ Ok (view x)
Gives view (Err e) read = Fails e read

-- ---- whole lines

-- What a line gives, where its words give this: nothing for a comment, else `Character` where a
-- byte isn't one, else `Quote` where the line isn't words with blanks between them, else what its
-- words give.
abbrev pub IsReading : Schema → List ℕ → Result Command LineWhy → Type 0
IsReading schema line given =
    (IsTrue (is_comment line) × (given ≡ Ok command.Nothing))
    ⊎ ((is_comment line ≡ false) × (list_all is_character line ≡ false)
    × (given ≡ Err why.Character))
    ⊎ ((is_comment line ≡ false) × IsTrue (list_all is_character line)
    × ((words : List Word) → AreWords line words → ⊥) × (given ≡ Err why.Quote))
    ⊎ ((is_comment line ≡ false) × IsTrue (list_all is_character line)
    × ((words : List Word) × AreWords line words × (given ≡ reading schema words)))

-- the call answered this, or there was no memory
abbrev pub AnswersUnlessNoMemory : {A : Type 0} → Result A NoCommand → (Result A LineWhy → Type 0)
    → Type 0
AnswersUnlessNoMemory (Ok x) P = P (Ok x)
AnswersUnlessNoMemory (Err (no_command.Bad reason)) P = P (Err reason)
AnswersUnlessNoMemory (Err no_command.NoMemory) P = Unit {0}
