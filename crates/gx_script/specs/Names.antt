-- What a word may name: a command, an operator, a file, a link, a field.
use Rattle.std.specs.Prelude.{ℕ, Bool, List, Option, Some, None, nat_eq, if◌then◌else◌, codes, position}
use Rattle.std.specs.Cmp.Lexicographic.{pointwise}
use Rattle.gx_values.specs.declared.values.Op.{Op}
use Rattle.gx_values.specs.declared.values.Op.TheVariants as op
use Rattle.gx_values.specs.declared.records.Field.{Field}
use Rattle.gx_schema.specs.declared.schema.FileDef.{FileDef}
use Rattle.gx_schema.specs.declared.schema.LinkDef.{LinkDef}
use Rattle.gx_script.specs.declared.keywords.Verb.{Verb}
use Rattle.gx_script.specs.declared.keywords.Verb.TheVariants as verb

-- the two texts are the same
abbrev pub is_text : List ℕ → List ℕ → Bool
is_text a b = pointwise nat_eq a b

-- the word that begins a command
abbrev pub verb_text : Verb → List ℕ
verb_text verb.Begin = codes "begin"
verb_text verb.Commit = codes "commit"
verb_text verb.Abort = codes "abort"
verb_text verb.Insert = codes "insert"
verb_text verb.Get = codes "get"
verb_text verb.Update = codes "update"
verb_text verb.Delete = codes "delete"
verb_text verb.Connect = codes "connect"
verb_text verb.Disconnect = codes "disconnect"
verb_text verb.Members = codes "members"
verb_text verb.Owner = codes "owner"
verb_text verb.Find = codes "find"
verb_text verb.Reorganize = codes "reorganize"

-- the command that a word begins
unfoldable pub verb_of : List ℕ → Option Verb
verb_of text =
    if is_text text (codes "begin") then Some verb.Begin
    else (if is_text text (codes "commit") then Some verb.Commit
    else (if is_text text (codes "abort") then Some verb.Abort
    else (if is_text text (codes "insert") then Some verb.Insert
    else (if is_text text (codes "get") then Some verb.Get
    else (if is_text text (codes "update") then Some verb.Update
    else (if is_text text (codes "delete") then Some verb.Delete
    else (if is_text text (codes "connect") then Some verb.Connect
    else (if is_text text (codes "disconnect") then Some verb.Disconnect
    else (if is_text text (codes "members") then Some verb.Members
    else (if is_text text (codes "owner") then Some verb.Owner
    else (if is_text text (codes "find") then Some verb.Find
    else (if is_text text (codes "reorganize") then Some verb.Reorganize
    else None))))))))))))

-- an operator as it is written
abbrev pub op_text : Op → List ℕ
op_text op.Equal = codes "="
op_text op.Unequal = codes "<>"
op_text op.Less = codes "<"
op_text op.AtMost = codes "<="
op_text op.Greater = codes ">"
op_text op.AtLeast = codes ">="

-- the operator that a word is
unfoldable pub op_of : List ℕ → Option Op
op_of text =
    if is_text text (codes "=") then Some op.Equal
    else (if is_text text (codes "<>") then Some op.Unequal
    else (if is_text text (codes "<") then Some op.Less
    else (if is_text text (codes "<=") then Some op.AtMost
    else (if is_text text (codes ">") then Some op.Greater
    else (if is_text text (codes ">=") then Some op.AtLeast
    else None)))))

-- the number of the first file, link or field of the name
unfoldable pub file_number : List FileDef → List ℕ → Option ℕ
file_number files name = position (λ f. is_text f.name name) files

unfoldable pub link_number : List LinkDef → List ℕ → Option ℕ
link_number links name = position (λ l. is_text l.name name) links

unfoldable pub field_number : List Field → List ℕ → Option ℕ
field_number fields name = position (λ f. is_text f.name name) fields
