-- Each command has an answer.
use Rattle.std.proofs.Common.{ℕ, List, [], Bool, refl}
use Rattle.std.specs.Prelude.{Option, Some, None, codes, ◌++◌}
use Rattle.std.specs.Fmt.{decimal}
use Rattle.std.specs.FinMap as fin
use Rattle.gx_schema.specs.declared.schema.FileDef.{FileDef}
use Rattle.gx_schema.specs.declared.schema.Schema.{Schema}
use Rattle.gx_schema.specs.Lookups.{file_at, link_at}
use Rattle.gx_commands.specs.declared.command.Command.{Command}
use Rattle.gx_commands.specs.declared.command.Command.TheVariants as command
use Rattle.gx_commands.specs.declared.command.OrderBy.{OrderBy}
use Rattle.gx_model.specs.States.{State, File, Row, file_in, link_in}
use Rattle.gx_model.specs.Found.{is_chosen, is_owner}
use Rattle.gx_model.specs.Texts.{rows_text}
use Rattle.gx_model.specs.Commands.{Refusal, refusal_of, refusal_text, record_text, owner_text, IsListText, IsReply, IsAnswerOr, IsAnswer}
use Rattle.gx_model.specs.Play.{Playing, seen_state, next_count, IsAnswered}
use Rattle.gx_top.proofs.SortLemmas.{some_list}

abbrev HasText : (List ℕ → Type 0) → Type 0
HasText P = (text : List ℕ) × P text

list_text : (def : FileDef) (f : File) (test : Row → Bool) (order : OrderBy)
    → HasText (IsListText def f test order)
list_text def f test order =
    let all = some_list f test order in
    (rows_text def all.0, record { rows = all.0; listed = all.1; is = refl })

reply : (schema : Schema) (s : State) (c : Command) → HasText (IsReply schema s c)
reply schema s (command.Get file key) =
    (record_text (file_at schema file) key (fin.get (file_in s file) key), refl)
reply schema s (command.Members link owner order) =
    list_text (file_at schema (link_at schema link).member)
    (file_in s (link_at schema link).member)
    (λ r. is_owner owner (fin.get (link_in s link) r.0)) order
reply schema s (command.Owner link member) = (
  owner_text (file_at schema (link_at schema link).owner)
      (file_in s (link_at schema link).owner) (fin.get (link_in s link) member),
  refl,
)
reply schema s (command.Find q) =
    list_text (file_at schema q.file) (file_in s q.file) (is_chosen s q) q.order
reply schema s command.Nothing = ([], refl)
reply schema s command.Begin = (codes "ok\n", refl)
reply schema s command.Commit = (codes "ok\n", refl)
reply schema s command.Abort = (codes "ok\n", refl)
reply schema s (command.Insert file values) = (codes "ok\n", refl)
reply schema s (command.Update file key changes) = (codes "ok\n", refl)
reply schema s (command.Delete file key) = (codes "ok\n", refl)
reply schema s (command.Connect link owner member) = (codes "ok\n", refl)
reply schema s (command.Disconnect link member) = (codes "ok\n", refl)
reply schema s (command.ReorganizeFile file) = (codes "ok\n", refl)
reply schema s (command.ReorganizeLink link) = (codes "ok\n", refl)

answer_or : (why : Option Refusal) (Reply : List ℕ → Type 0) → HasText Reply
    → HasText (IsAnswerOr why Reply)
answer_or None Reply is = is
answer_or (Some why) Reply is = (refusal_text why, refl)

answer : (schema : Schema) (s : State) (c : Command) → HasText (IsAnswer schema s c)
answer schema s c = answer_or (refusal_of schema s c) (IsReply schema s c) (reply schema s c)

pub some_answer : (schema : Schema) (p : Playing) (c : Command)
    → (text : List ℕ) × IsAnswered schema p c text
some_answer schema p command.Begin = (codes "begun\n", refl)
some_answer schema p command.Commit =
    (codes "committed " ++ decimal (next_count p.commits) ++ codes "\n", refl)
some_answer schema p command.Abort = (codes "dropped\n", refl)
some_answer schema p (command.Insert file values) =
    answer schema (seen_state p) (command.Insert file values)
some_answer schema p (command.Get file key) = answer schema (seen_state p) (command.Get file key)
some_answer schema p (command.Update file key changes) =
    answer schema (seen_state p) (command.Update file key changes)
some_answer schema p (command.Delete file key) =
    answer schema (seen_state p) (command.Delete file key)
some_answer schema p (command.Connect link owner member) =
    answer schema (seen_state p) (command.Connect link owner member)
some_answer schema p (command.Disconnect link member) =
    answer schema (seen_state p) (command.Disconnect link member)
some_answer schema p (command.Members link owner order) =
    answer schema (seen_state p) (command.Members link owner order)
some_answer schema p (command.Owner link member) =
    answer schema (seen_state p) (command.Owner link member)
some_answer schema p (command.Find q) = answer schema (seen_state p) (command.Find q)
some_answer schema p (command.ReorganizeFile file) =
    answer schema (seen_state p) (command.ReorganizeFile file)
some_answer schema p (command.ReorganizeLink link) =
    answer schema (seen_state p) (command.ReorganizeLink link)
some_answer schema p command.Nothing = answer schema (seen_state p) command.Nothing
