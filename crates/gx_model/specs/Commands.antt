-- What a command answers and what it leaves.
use Rattle.std.specs.Prelude.{◌≡◌, ℕ, ◌-◌, List, [], ◌∷◌, length, Bool, false, ◌&&◌, ◌||◌, ◌==◌, not, nat_le, Option, Some, None, is_some, unwrap_or, codes, if◌then◌else◌, slice_set}
use Rattle.std.specs.List.{list_any}
use Rattle.std.specs.FinMap as fin
use Rattle.gx_values.specs.declared.values.Value.{Value}
use Rattle.gx_schema.specs.declared.schema.FileDef.{FileDef}
use Rattle.gx_schema.specs.declared.schema.LinkDef.{LinkDef}
use Rattle.gx_schema.specs.declared.schema.Schema.{Schema}
use Rattle.gx_schema.specs.Lookups.{file_at, link_at}
use Rattle.gx_commands.specs.declared.command.Of.{Of}
use Rattle.gx_commands.specs.declared.command.OrderBy.{OrderBy}
use Rattle.gx_commands.specs.declared.command.Change.{Change}
use Rattle.gx_commands.specs.declared.command.Command.{Command}
use Rattle.gx_commands.specs.declared.command.Command.TheVariants as command
use Rattle.gx_model.specs.States.{File, Link, State, Row, file_in, link_in, is_same, pairs_of, most_members}
use Rattle.gx_model.specs.Found.{IsListed, is_chosen, is_owner}
use Rattle.gx_model.specs.Texts.{row_text, rows_text}

-- ---- refusals

pub data Refusal : Type 0 where
  key_exists : Refusal
  no_record : Refusal
  linked : Refusal
  has_owner : Refusal
  too_many_members : Refusal
  no_owner : Refusal

abbrev pub refusal_text : Refusal → List ℕ
refusal_text key_exists = codes "refused: key exists\n"
refusal_text no_record = codes "refused: no record\n"
refusal_text linked = codes "refused: linked\n"
refusal_text has_owner = codes "refused: has owner\n"
refusal_text too_many_members = codes "refused: too many members\n"
refusal_text no_owner = codes "refused: no owner\n"

-- the first whose test holds
abbrev pub first_refusal : List (Bool × Refusal) → Option Refusal
first_refusal [] = None
first_refusal (t ∷ ts) = if t.0 then Some t.1 else first_refusal ts

-- the file has a record with this key
abbrev pub has_record : State → ℕ → Value → Bool
has_record s file key = is_some (fin.get (file_in s file) key)

-- the record is a member in the link, or an owner of some member
abbrev pub is_end_of : LinkDef → Link → ℕ → Value → Bool
is_end_of def link file key =
    ((def.member == file) && is_some (fin.get link key)) ||
    ((def.owner == file) && list_any (λ pair. is_same pair.1 key) (fin.entries link))

-- the same in any of the links
abbrev pub is_linked : List LinkDef → List Link → ℕ → Value → Bool
is_linked (def ∷ defs) (link ∷ links) file key =
    is_end_of def link file key || is_linked defs links file key
is_linked _ _ file key = false

abbrev pub has_insert_key : State → ℕ → List Value → Bool
has_insert_key s file [] = false
has_insert_key s file (key ∷ values) = has_record s file key

abbrev pub lacks_of : Schema → State → Option Of → Bool
lacks_of schema s None = false
lacks_of schema s (Some of) = not (has_record s (link_at schema of.link).owner of.owner)

-- why a command is refused, where it is; of several reasons the first
abbrev pub refusal_of : Schema → State → Command → Option Refusal
refusal_of schema s (command.Insert file values) =
    first_refusal ((has_insert_key s file values, key_exists) ∷ [])
refusal_of schema s (command.Update file key changes) =
    first_refusal ((not (has_record s file key), no_record) ∷ [])
refusal_of schema s (command.Delete file key) =
    first_refusal ((not (has_record s file key), no_record)
    ∷ (is_linked schema.links s.links file key, linked) ∷ [])
refusal_of schema s (command.Connect link owner member) =
    first_refusal
    ((
      not (has_record s (link_at schema link).owner owner
          && has_record s (link_at schema link).member member),
      no_record,
    )
    ∷ (is_some (fin.get (link_in s link) member), has_owner)
    ∷ (nat_le most_members (length (pairs_of (link_in s link) owner)), too_many_members) ∷ [])
refusal_of schema s (command.Disconnect link member) =
    first_refusal ((not (has_record s (link_at schema link).member member), no_record)
    ∷ (not (is_some (fin.get (link_in s link) member)), no_owner) ∷ [])
refusal_of schema s (command.Members link owner order) =
    first_refusal ((not (has_record s (link_at schema link).owner owner), no_record) ∷ [])
refusal_of schema s (command.Owner link member) =
    first_refusal ((not (has_record s (link_at schema link).member member), no_record) ∷ [])
refusal_of schema s (command.Find q) = first_refusal ((lacks_of schema s q.of, no_record) ∷ [])
refusal_of schema s _ = None

-- ---- what a command that isn't refused changes

abbrev pub with_file : State → ℕ → File → State
with_file s i f = record { files = slice_set s.files i f; links = s.links }

abbrev pub with_link : State → ℕ → Link → State
with_link s i link = record { files = s.files; links = slice_set s.links i link }

abbrev pub inserted : File → List Value → File
inserted f [] = f
inserted f (key ∷ values) = fin.insert f key values

-- the named fields are replaced; the key is field 0 and is never named
abbrev pub with_changes : List Value → List Change → List Value
with_changes values [] = values
with_changes values (c ∷ cs) = with_changes (slice_set values (c.field - 1) c.value) cs

abbrev pub updated : File → Value → List Change → File
updated f key changes = fin.insert f key (with_changes (unwrap_or (fin.get f key) []) changes)

abbrev pub state_after : State → Command → State
state_after s (command.Insert file values) = with_file s file (inserted (file_in s file) values)
state_after s (command.Update file key changes) =
    with_file s file (updated (file_in s file) key changes)
state_after s (command.Delete file key) = with_file s file (fin.remove (file_in s file) key)
state_after s (command.Connect link owner member) =
    with_link s link (fin.insert (link_in s link) member owner)
state_after s (command.Disconnect link member) =
    with_link s link (fin.remove (link_in s link) member)
state_after s _ = s

-- the next state: that after the command, or the same where it is refused
abbrev pub next_state : Schema → State → Command → State
next_state schema s c = if is_some (refusal_of schema s c) then s else state_after s c

-- ---- what a command that isn't refused answers

-- the record line of a key, or that there is none
abbrev pub record_text : FileDef → Value → Option (List Value) → List ℕ
record_text file key None = codes "none\n"
record_text file key (Some values) = row_text file (key, values)

-- the same of a member's owner
abbrev pub owner_text : FileDef → File → Option Value → List ℕ
owner_text file f None = codes "none\n"
owner_text file f (Some owner) = record_text file owner (fin.get f owner)

-- the text lists such records
pub record IsListText (def : FileDef) (f : File) (test : Row → Bool) (order : OrderBy)
    (text : List ℕ) : Type 0 where
  pub rows : List Row
  pub listed : IsListed f test order rows
  pub is : text ≡ rows_text def rows

-- the text is the answer of a command on records or links that isn't refused
abbrev pub IsReply : Schema → State → Command → List ℕ → Type 0
IsReply schema s (command.Get file key) text =
    text ≡ record_text (file_at schema file) key (fin.get (file_in s file) key)
IsReply schema s (command.Members link owner order) text =
    IsListText (file_at schema (link_at schema link).member)
    (file_in s (link_at schema link).member)
    (λ r. is_owner owner (fin.get (link_in s link) r.0)) order text
IsReply schema s (command.Owner link member) text =
    text ≡ owner_text (file_at schema (link_at schema link).owner)
    (file_in s (link_at schema link).owner) (fin.get (link_in s link) member)
IsReply schema s (command.Find q) text =
    IsListText (file_at schema q.file) (file_in s q.file) (is_chosen s q) q.order text
IsReply schema s command.Nothing text = text ≡ []
IsReply schema s _ text = text ≡ codes "ok\n"

-- a refusal says its reason
abbrev pub IsAnswerOr : Option Refusal → (List ℕ → Type 0) → List ℕ → Type 0
IsAnswerOr None Reply text = Reply text
IsAnswerOr (Some why) Reply text = text ≡ refusal_text why

-- the text is the answer of a command on records or links
abbrev pub IsAnswer : Schema → State → Command → List ℕ → Type 0
IsAnswer schema s c = IsAnswerOr (refusal_of schema s c) (IsReply schema s c)
