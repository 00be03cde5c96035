-- What commands are refused for, answer and leave.
use Rattle.std.proofs.Common.{◌≡◌, ℕ, ◌<◌, List, [], ◌∷◌, length, false, Option, Some, Result, Ok, Err, refl, ap, ◌∙◌, arith}
use Rattle.std.specs.Prelude.{IfOk, OnOk}
use Rattle.std.specs.FinMap as fin
use Rattle.gx_values.specs.declared.values.Value.{Value}
use Rattle.gx_schema.specs.declared.schema.LinkDef.{LinkDef}
use Rattle.gx_schema.specs.declared.schema.Schema.{Schema}
use Rattle.gx_schema.specs.Lookups.{file_at, link_at}
use Rattle.gx_commands.specs.declared.command.Command.{Command}
use Rattle.gx_commands.specs.declared.command.Command.TheVariants as command
use Rattle.gx_model.specs.States.{Link, State, file_in, link_in}
use Rattle.gx_model.specs.Commands.{is_linked, owner_text, record_text, next_state, IsAnswer}
use Rattle.gx_model.specs.Play.{Playing, IsAnswered, after_command, seen_state, with_working}

pub unlinked : (defs : List LinkDef) (links : List Link) (file : ℕ) (key : Value) → length links < 1
    → false ≡ is_linked defs links file key
unlinked [] links file key lt = refl
unlinked (d ∷ defs) [] file key lt = refl
unlinked (d ∷ defs) (l ∷ links) file key lt = absurd (omega arith)

-- the line of a member's owner
pub owner_found : {E : Type 0} (r : Result (List ℕ) E) (schema : Schema) (s : State) (link : ℕ)
    (member owner : Value) (n : ℕ) → n ≡ (link_at schema link).owner
    → Some owner ≡ fin.get (link_in s link) member
    → IfOk r (λ text. text ≡ record_text (file_at schema n) owner (fin.get (file_in s n) owner))
    → IfOk r (λ text. text ≡ owner_text (file_at schema (link_at schema link).owner)
    (file_in s (link_at schema link).owner) (fin.get (link_in s link) member))
owner_found (Err e) schema s link member owner n at found is = tt
owner_found (Ok text) schema s link member owner n at found is =
    is ∙ ap (λ m. record_text (file_at schema m) owner (fin.get (file_in s m) owner)) at
    ∙ ap (λ (o : Option Value). owner_text (file_at schema (link_at schema link).owner)
    (file_in s (link_at schema link).owner) o) found

-- a command on records or links
pub other_answered : (schema : Schema) (p : Playing) (c : Command) (text : List ℕ)
    → (c ≡ command.Begin → ⊥) → (c ≡ command.Commit → ⊥) → (c ≡ command.Abort → ⊥)
    → IsAnswer schema (seen_state p) c text → IsAnswered schema p c text
other_answered schema p command.Begin text begin commit abort is = absurd (begin refl)
other_answered schema p command.Commit text begin commit abort is = absurd (commit refl)
other_answered schema p command.Abort text begin commit abort is = absurd (abort refl)
other_answered schema p (command.Insert file values) text begin commit abort is = is
other_answered schema p (command.Get file key) text begin commit abort is = is
other_answered schema p (command.Update file key changes) text begin commit abort is = is
other_answered schema p (command.Delete file key) text begin commit abort is = is
other_answered schema p (command.Connect link owner member) text begin commit abort is = is
other_answered schema p (command.Disconnect link member) text begin commit abort is = is
other_answered schema p (command.Members link owner order) text begin commit abort is = is
other_answered schema p (command.Owner link member) text begin commit abort is = is
other_answered schema p (command.Find q) text begin commit abort is = is
other_answered schema p (command.ReorganizeFile file) text begin commit abort is = is
other_answered schema p (command.ReorganizeLink link) text begin commit abort is = is
other_answered schema p command.Nothing text begin commit abort is = is

pub other_next : (schema : Schema) (p : Playing) (c : Command) → (c ≡ command.Begin → ⊥)
    → (c ≡ command.Commit → ⊥) → (c ≡ command.Abort → ⊥)
    → with_working p (next_state schema (seen_state p) c) ≡ after_command schema p c
other_next schema p command.Begin begin commit abort = absurd (begin refl)
other_next schema p command.Commit begin commit abort = absurd (commit refl)
other_next schema p command.Abort begin commit abort = absurd (abort refl)
other_next schema p (command.Insert file values) begin commit abort = refl
other_next schema p (command.Get file key) begin commit abort = refl
other_next schema p (command.Update file key changes) begin commit abort = refl
other_next schema p (command.Delete file key) begin commit abort = refl
other_next schema p (command.Connect link owner member) begin commit abort = refl
other_next schema p (command.Disconnect link member) begin commit abort = refl
other_next schema p (command.Members link owner order) begin commit abort = refl
other_next schema p (command.Owner link member) begin commit abort = refl
other_next schema p (command.Find q) begin commit abort = refl
other_next schema p (command.ReorganizeFile file) begin commit abort = refl
other_next schema p (command.ReorganizeLink link) begin commit abort = refl
other_next schema p command.Nothing begin commit abort = refl

pub ok_maps : {A E : Type 0} (r : Result A E) (P Q : A → Type 0) → ((x : A) → P x → Q x) → IfOk r P
    → IfOk r Q
ok_maps (Ok x) P Q f h = f x h
ok_maps (Err e) P Q f h = tt

pub ok_stays : {A E : Type 0} (r : Result A E) (P Q : Type 0) → (P → Q) → OnOk r P → OnOk r Q
ok_stays (Ok x) P Q f h = f h
ok_stays (Err e) P Q f h = tt
