-- A command has one answer.
use Rattle.std.proofs.Common.{◌≡◌, ℕ, Bool, List, sym, ap, ◌∙◌}
use Rattle.std.specs.Prelude.{Option, Some, None}
use Rattle.gx_schema.specs.declared.schema.Schema.{Schema}
use Rattle.gx_commands.specs.declared.command.Command.{Command}
use Rattle.gx_commands.specs.declared.command.Command.TheVariants as command
use Rattle.gx_commands.specs.declared.command.OrderBy.{OrderBy}
use Rattle.gx_schema.specs.declared.schema.FileDef.{FileDef}
use Rattle.gx_model.specs.States.{State, File, Row}
use Rattle.gx_model.specs.Texts.{rows_text}
use Rattle.gx_model.specs.Commands.{Refusal, refusal_of, IsListText, IsReply, IsAnswerOr, IsAnswer}
use Rattle.gx_model.specs.Play.{Playing, seen_state, IsAnswered}
use Rattle.gx_model.proofs.ListedLemmas.{listed_once}

both : {A : Type 0} {x a b : A} → a ≡ x → b ≡ x → a ≡ b
both p q = p ∙ sym q

list_text_once : (def : FileDef) (f : File) (test : Row → Bool) (o : OrderBy) (a b : List ℕ)
    → IsListText def f test o a → IsListText def f test o b → a ≡ b
list_text_once def f test o a b p q =
    p.is ∙ ap (rows_text def) (listed_once f test o p.rows q.rows p.listed q.listed) ∙ sym q.is

reply_once : (schema : Schema) (s : State) (c : Command) (a b : List ℕ) → IsReply schema s c a
    → IsReply schema s c b → a ≡ b
reply_once schema s (command.Get file key) a b p q = both p q
reply_once schema s (command.Members link owner order) a b p q = list_text_once _ _ _ _ a b p q
reply_once schema s (command.Owner link member) a b p q = both p q
reply_once schema s (command.Find find) a b p q = list_text_once _ _ _ _ a b p q
reply_once schema s command.Nothing a b p q = both p q
reply_once schema s command.Begin a b p q = both p q
reply_once schema s command.Commit a b p q = both p q
reply_once schema s command.Abort a b p q = both p q
reply_once schema s (command.Insert file values) a b p q = both p q
reply_once schema s (command.Update file key changes) a b p q = both p q
reply_once schema s (command.Delete file key) a b p q = both p q
reply_once schema s (command.Connect link owner member) a b p q = both p q
reply_once schema s (command.Disconnect link member) a b p q = both p q
reply_once schema s (command.ReorganizeFile file) a b p q = both p q
reply_once schema s (command.ReorganizeLink link) a b p q = both p q

answer_or_once : (why : Option Refusal) (Reply : List ℕ → Type 0)
    → ((a b : List ℕ) → Reply a → Reply b → a ≡ b) → (a b : List ℕ) → IsAnswerOr why Reply a
    → IsAnswerOr why Reply b → a ≡ b
answer_or_once None Reply once a b p q = once a b p q
answer_or_once (Some why) Reply once a b p q = both p q

answer_once : (schema : Schema) (s : State) (c : Command) (a b : List ℕ) → IsAnswer schema s c a
    → IsAnswer schema s c b → a ≡ b
answer_once schema s c a b p q =
    answer_or_once (refusal_of schema s c) (IsReply schema s c) (reply_once schema s c) a b p q

-- a command has one answer
pub answered_once : (schema : Schema) (p : Playing) (c : Command) (a b : List ℕ)
    → IsAnswered schema p c a → IsAnswered schema p c b → a ≡ b
answered_once schema p command.Begin a b x y = both x y
answered_once schema p command.Commit a b x y = both x y
answered_once schema p command.Abort a b x y = both x y
answered_once schema p (command.Insert file values) a b x y =
    answer_once schema (seen_state p) (command.Insert file values) a b x y
answered_once schema p (command.Get file key) a b x y =
    answer_once schema (seen_state p) (command.Get file key) a b x y
answered_once schema p (command.Update file key changes) a b x y =
    answer_once schema (seen_state p) (command.Update file key changes) a b x y
answered_once schema p (command.Delete file key) a b x y =
    answer_once schema (seen_state p) (command.Delete file key) a b x y
answered_once schema p (command.Connect link owner member) a b x y =
    answer_once schema (seen_state p) (command.Connect link owner member) a b x y
answered_once schema p (command.Disconnect link member) a b x y =
    answer_once schema (seen_state p) (command.Disconnect link member) a b x y
answered_once schema p (command.Members link owner order) a b x y =
    answer_once schema (seen_state p) (command.Members link owner order) a b x y
answered_once schema p (command.Owner link member) a b x y =
    answer_once schema (seen_state p) (command.Owner link member) a b x y
answered_once schema p (command.Find find) a b x y =
    answer_once schema (seen_state p) (command.Find find) a b x y
answered_once schema p (command.ReorganizeFile file) a b x y =
    answer_once schema (seen_state p) (command.ReorganizeFile file) a b x y
answered_once schema p (command.ReorganizeLink link) a b x y =
    answer_once schema (seen_state p) (command.ReorganizeLink link) a b x y
answered_once schema p command.Nothing a b x y =
    answer_once schema (seen_state p) command.Nothing a b x y
