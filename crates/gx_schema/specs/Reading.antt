-- Reading a schema from left to right, with the first fault that is met.
use Rattle.std.specs.Prelude.{ℕ, zero, suc, Bool, true, false, not, ◌&&◌, ◌||◌, List, [], ◌∷◌, ◌++◌, length, Option, Some, None, Result, Ok, Err, nat_lt, nat_le, nat_eq, ◌==◌, if◌then◌else◌, codes}
use Rattle.std.specs.Cmp.Lexicographic.{pointwise}
use Rattle.gx_tokens.specs.declared.fault.Fault.{Fault}
use Rattle.gx_tokens.specs.declared.why.Why.{Why}
use Rattle.gx_tokens.specs.declared.why.Why.TheVariants as why
use Rattle.gx_tokens.specs.declared.why.Unread.{Unread}
use Rattle.gx_tokens.specs.Lexemes.{Lexeme, Word, End}
use Rattle.gx_tokens.specs.Numbers.{number_value, natural_up_to}
use Rattle.gx_tokens.specs.Reading.{◌>>=◌, map_ok, want, unexpected, word_if, number_if, an_open, a_close, a_comma, comma_or_close, with_fault_line}
use Rattle.gx_values.specs.declared.records.Field.{Field}
use Rattle.gx_values.specs.declared.values.Kind.{Kind}
use Rattle.gx_values.specs.declared.values.Kind.TheVariants as kinds
use Rattle.gx_schema.specs.declared.schema.Schema.{Schema}
use Rattle.gx_schema.specs.declared.schema.FileDef.{FileDef}
use Rattle.gx_schema.specs.declared.schema.LinkDef.{LinkDef}
use Rattle.gx_schema.specs.declared.item.Item.{Item}
use Rattle.gx_schema.specs.declared.item.Item.TheVariants as items
use Rattle.gx_schema.specs.Items.{with_item, no_schema}
use Rattle.gx_schema.specs.Names.{starts_with_letter, has_field, has_file, has_link, file_position}

-- ---- what a token means at each place, or the first reason why it may not stand there

-- the texts of a size, in the first field or another
abbrev pub size_from : Bool → Option ℕ → Result Kind Why
size_from first None = Err why.Number
size_from first (Some zero) = Err why.Number
size_from first (Some (suc n)) =
    if first && nat_lt 100 (suc n) then Err why.KeyField else Ok (kinds.Text (suc n))

abbrev pub a_kind_size : Bool → Lexeme → Result Kind Why
a_kind_size first = number_if (λ text. size_from first (natural_up_to 200 (number_value text)))

-- whether the kind is a text
abbrev pub a_kind : Lexeme → Result Bool Why
a_kind = word_if (λ word.
    if pointwise nat_eq word (codes "int") then Ok false
    else (if pointwise nat_eq word (codes "text") then Ok true else Err why.Unexpected))

-- the name of a field behind those before it
abbrev pub a_field_name : List Field → Lexeme → Result (List ℕ) Why
a_field_name before = word_if (λ word.
    if not (starts_with_letter word) || has_field before word then Err why.NameUse
    else (if nat_le 32 (length before) then Err why.Count else Ok word))

-- the name of a new file or link
abbrev pub a_new_name : Schema → Lexeme → Result (List ℕ) Why
a_new_name schema = word_if (λ word.
    if not (starts_with_letter word) || (has_file schema.files word || has_link schema.links word)
    then Err why.NameUse else Ok word)

abbrev pub number_from : Option ℕ → Result ℕ Why
number_from None = Err why.NameUse
number_from (Some place) = Ok place

-- the number of the file that is named
abbrev pub a_file_name : List FileDef → Lexeme → Result ℕ Why
a_file_name files = word_if (λ word. number_from (file_position files word))

-- what a file, a link, or nothing more, begins with
pub data Start : Type 0 where
  Starts_file : Start
  Starts_link : Start
  Ends : Start

abbrev pub an_item_start : Schema → Lexeme → Result Start Why
an_item_start schema (Word text) =
    if pointwise nat_eq text (codes "file")
    then (if nat_le 32 (length schema.files) then Err why.Count else Ok Starts_file)
    else (if pointwise nat_eq text (codes "link")
    then (if nat_le 32 (length schema.links) then Err why.Count else Ok Starts_link)
    else Err why.Unexpected)
an_item_start schema End = if length schema.files == 0 then Err why.End else Ok Ends
an_item_start schema other = unexpected other

-- ---- reading

-- the size of a text
unfoldable pub size_at : Bool → List ℕ → Result (Kind × List ℕ) Fault
size_at first bytes = want (a_kind_size first) bytes

-- the kind of a field, the first one or another
unfoldable pub kind_at : Bool → List ℕ → Result (Kind × List ℕ) Fault
kind_at first bytes = do
  is_text ← want a_kind bytes
  if is_text.0 then size_at first is_text.1 else Ok (kinds.Int, is_text.1)

-- the field behind those before it
unfoldable pub field_behind : List Field → List ℕ → Result (Field × List ℕ) Fault
field_behind before bytes = do
  name ← want (a_field_name before) bytes
  kind ← kind_at (length before == 0) name.1
  Ok (record { name = name.0; kind = kind.0 }, kind.1)

-- the fields before, and those of the text up to `)`, at most `room` of them
unfoldable pub fields_at : ℕ → List Field → List ℕ → Result (List Field × List ℕ) Fault
fields_at zero before bytes = want (λ _. Err why.Count) bytes
fields_at (suc room) before bytes = do
  field ← field_behind before bytes
  more ← want comma_or_close field.1
  if more.0 then fields_at room (before ++ field.0 ∷ []) more.1
      else Ok (before ++ field.0 ∷ [], more.1)

-- the file behind the word `file`
unfoldable pub file_behind : Schema → List ℕ → Result (FileDef × List ℕ) Fault
file_behind schema bytes = do
  name ← want (a_new_name schema) bytes
  opened ← want an_open name.1
  fields ← fields_at 33 [] opened.1
  Ok (record { name = name.0; fields = fields.0 }, fields.1)

-- the link behind the word `link`
unfoldable pub link_behind : Schema → List ℕ → Result (LinkDef × List ℕ) Fault
link_behind schema bytes = do
  name ← want (a_new_name schema) bytes
  opened ← want an_open name.1
  owner ← want (a_file_name schema.files) opened.1
  comma ← want a_comma owner.1
  member ← want (a_file_name schema.files) comma.1
  closed ← want a_close member.1
  Ok (record { name = name.0; owner = owner.0; member = member.0 }, closed.1)

abbrev pub as_file : FileDef × List ℕ → Option Item × List ℕ
as_file x = (Some (items.File x.0), x.1)

abbrev pub as_link : LinkDef × List ℕ → Option Item × List ℕ
as_link x = (Some (items.Link x.0), x.1)

abbrev pub item_from : Schema → Start → List ℕ → Result (Option Item × List ℕ) Fault
item_from schema Starts_file bytes = map_ok as_file (file_behind schema bytes)
item_from schema Starts_link bytes = map_ok as_link (link_behind schema bytes)
item_from schema Ends bytes = Ok (None, bytes)

-- the next file or link behind those of the schema, or none at the end
unfoldable pub item_at : Schema → List ℕ → Result (Option Item × List ℕ) Fault
item_at schema bytes = do
  start ← want (an_item_start schema) bytes
  item_from schema start.0 start.1

abbrev pub no_more_items : List ℕ → Result Schema Fault
no_more_items bytes = do
  x ← want (λ _. Err why.Count) bytes
  Ok x.0

-- the schema with the files and links of the text, of which there are fewer than `room`
unfoldable pub items_behind : ℕ → Schema → List ℕ → Result Schema Fault
items_behind zero schema bytes = no_more_items bytes
items_behind (suc room) schema bytes = do
  x ← item_at schema bytes
  elim x.0 [ None ↦ Ok schema | Some item ↦ items_behind room (with_item schema item) x.1 ]

-- the schema of all files and links of the text
abbrev pub all_items : List ℕ → Result Schema Fault
all_items bytes = items_behind 65 no_schema bytes

-- the schema that the text means, or the line and the reason of its first fault
abbrev pub schema_of : List ℕ → Result Schema Unread
schema_of bytes = with_fault_line bytes (all_items bytes)
