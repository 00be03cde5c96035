-- The answers of commands that follow a link.
use Rattle.std.proofs.Common.{[], ◌≡◌, ℕ, List, ◌∷◌, Bool, true, false, Option, Some, None, Result, Ok, Err, refl, sym, ap, subst, ◌∙◌}
use Rattle.std.specs.Prelude.{length, ◌&&◌, not, codes, is_some, IsTrue, IfOk, OnOk, IsErrOf, IsErrAnd}
use Rattle.std.specs.FinMap as fin
use Rattle.gx_values.specs.declared.values.Value.{Value}
use Rattle.gx_schema.specs.declared.schema.FileDef.{FileDef}
use Rattle.gx_schema.specs.declared.schema.Schema.{Schema}
use Rattle.gx_schema.specs.Lookups.{file_at, link_at}
use Rattle.gx_commands.specs.declared.command.Of.{Of}
use Rattle.gx_commands.specs.declared.command.OrderBy.{OrderBy}
use Rattle.gx_commands.specs.declared.command.Find.{Find}
use Rattle.gx_commands.specs.declared.command.Command.{Command}
use Rattle.gx_commands.specs.declared.command.Command.TheVariants as command
use Rattle.gx_ports.specs.declared.stop.Stop.{Stop}
use Rattle.gx_ports.specs.declared.stop.Stop.TheVariants as stop
use Rattle.gx_ports.specs.declared.view.View.{Ghosts}
use Rattle.gx_ports.specs.Calls.{ReadsMaps}
use Rattle.gx_types.specs.declared.built.Built.{Built}
use Rattle.gx_model.specs.States.{State, Row, file_in, link_in}
use Rattle.gx_model.specs.Found.{is_owner, is_chosen, meets_conds, meets_of}
use Rattle.gx_model.specs.Texts.{row_text}
use Rattle.gx_model.specs.Commands.{refusal_text, no_record, first_refusal, IsAnswerOr, IsReply, IsAnswer, IsListText, owner_text, record_text, lacks_of}
use Rattle.gx_pairs.specs.Members.{is_chosen_of}
use Rattle.gx_states.specs.Internal.{AreInternal, HaveState}
use Rattle.gx_stack.proofs.PassLemmas.{reads_given}
use Rattle.gx_answers.specs.Queries.{Answers}
use Rattle.gx_answers.specs.Work.{IsBounded}

-- ---- how a command ends

module _ {S : Type 0} (g : Ghosts S) (schema : Schema) (built : Built) (c : Command) (a b : S) where
  -- what stops a call on which the command stands
  pub answers_stopped : {U : Type 0} {known : Type 0} {why : Stop} (result : Result (List ℕ) Stop)
      → IsErrAnd result (λ s. s ≡ why)
      → (g.whole a × HaveState schema built (g.working a) → known)
      → ReadsMaps {T = U} g known a b (Err why)
      → Answers g schema built c a b result
  answers_stopped (Ok x) err more one = absurd err
  answers_stopped {U = U} (Err s) err more one = record {
    answered = λ t whole are. tt;
    few_steps = λ t whole are. tt;
    reads = reads_given g {T = U} (Err s) err more one;
  }

  -- an answer
  pub answers_ok : {U : Type 0} (known : Type 0) (x : U) (text : List ℕ)
      → ReadsMaps g known a b (Ok x)
      → ((s : State) → g.whole a → AreInternal schema built (g.working a) s
      → IsAnswer schema s c text)
      → ((s : State) → g.whole a → AreInternal schema built (g.working a) s
      → IsBounded schema built (length (g.working a)) s c (g.work a) (g.work b))
      → Answers g schema built c a b (Ok text)
  answers_ok known x text one answered steps = record {
    answered = answered;
    few_steps = steps;
    reads = record {
      reads = one.reads;
      ends = record {
        whole = one.ends.whole;
        later = one.ends.later;
        fault = λ e. absurd (ok_err text _ e);
        counted = λ e. one.ends.counted refl;
        damaged = λ block e h. ok_err text _ e;
      };
      block = λ n e whole. absurd (ok_err text _ e);
      not_full = λ e. ok_err text _ e;
    };
  }
    where
      ok_err : {A E : Type 0} (x : A) (e : E) → ◌≡◌ {A = Result A E} (Ok x) (Err e) → ⊥
      ok_err x e same = cc

  -- an answer that a last function makes
  pub answers_line : {U : Type 0} (known : Type 0) (x : U) (result : Result (List ℕ) Stop)
      → ReadsMaps g known a b (Ok x)
      → ((s : State) → g.whole a → AreInternal schema built (g.working a) s
      → IfOk result (IsAnswer schema s c))
      → ((s : State) → g.whole a → AreInternal schema built (g.working a) s
      → IsBounded schema built (length (g.working a)) s c (g.work a) (g.work b))
      → ((n : ℕ) → IsErrOf result (stop.Damaged n)
      → ¬ (g.whole a × HaveState schema built (g.working a)))
      → ((n : ℕ) → IsErrOf result (stop.Damaged n) → n ≡ 0) → ¬ IsErrOf result stop.Fault
      → ¬ IsErrOf result stop.Full → Answers g schema built c a b result
  answers_line known x result one answered steps no_damage block no_fault not_full = record {
    answered = answered;
    few_steps = λ s whole are. on_ok result _ (steps s whole are);
    reads = record {
      reads = one.reads;
      ends = record {
        whole = on_ok result _ one.ends.whole;
        later = one.ends.later;
        fault = λ e. absurd (no_fault e);
        counted = λ e. one.ends.counted refl;
        damaged = no_damage;
      };
      block = λ n e whole. block n e;
      not_full = not_full;
    };
  }
    where
      on_ok : {A E : Type 0} (r : Result A E) (P : Type 0) → P → OnOk r P
      on_ok (Ok y) P h = h
      on_ok (Err e) P h = tt

-- ---- owner

there_true : {A : Type 0} (o : Option A) → IsTrue (is_some o) → not (is_some o) ≡ false
there_true o there = ap not there

pub refused_so : (lacks : Bool) (Reply : List ℕ → Type 0) (text : List ℕ) → lacks ≡ true
    → text ≡ refusal_text no_record
    → IsAnswerOr (first_refusal ((lacks, no_record) ∷ [])) Reply text
refused_so lacks Reply text e is =
    subst (λ b. IsAnswerOr (first_refusal ((b, no_record) ∷ [])) Reply text) (sym e) is

pub replied_so : (lacks : Bool) (Reply : List ℕ → Type 0) (text : List ℕ) → lacks ≡ false
    → Reply text
    → IsAnswerOr (first_refusal ((lacks, no_record) ∷ [])) Reply text
replied_so lacks Reply text e is =
    subst (λ b. IsAnswerOr (first_refusal ((b, no_record) ∷ [])) Reply text) (sym e) is

pub owner_refused : (schema : Schema) (s : State) (i : ℕ) (member : Value) (text : List ℕ)
    → fin.get (file_in s (link_at schema i).member) member ≡ None → text ≡ refusal_text no_record
    → IsAnswer schema s (command.Owner i member) text
owner_refused schema s i member text none is =
    refused_so _ (IsReply schema s (command.Owner i member)) text
    (ap (λ (o : Option (List Value)). not (is_some o)) none) is

pub owner_free : (schema : Schema) (s : State) (i : ℕ) (member : Value) (text : List ℕ)
    → IsTrue (is_some (fin.get (file_in s (link_at schema i).member) member))
    → fin.get (link_in s i) member ≡ None → text ≡ codes "none\n"
    → IsAnswer schema s (command.Owner i member) text
owner_free schema s i member text there none is =
    replied_so _ (IsReply schema s (command.Owner i member)) text
    (there_true (fin.get (file_in s (link_at schema i).member) member) there)
    (is ∙ sym (ap (owner_text (file_at schema (link_at schema i).owner)
    (file_in s (link_at schema i).owner)) none))

pub owner_found : (schema : Schema) (s : State) (i : ℕ) (member owner : Value) (values : List Value)
    (file : FileDef) (text : List ℕ)
    → IsTrue (is_some (fin.get (file_in s (link_at schema i).member) member))
    → fin.get (link_in s i) member ≡ Some owner
    → fin.get (file_in s (link_at schema i).owner) owner ≡ Some values
    → file ≡ file_at schema (link_at schema i).owner → text ≡ row_text file (owner, values)
    → IsAnswer schema s (command.Owner i member) text
owner_found schema s i member owner values file text there owned found same is =
    replied_so _ (IsReply schema s (command.Owner i member)) text
    (there_true (fin.get (file_in s (link_at schema i).member) member) there)
    (is ∙ ap (λ f. row_text f (owner, values)) same
    ∙ sym (ap (record_text (file_at schema (link_at schema i).owner) owner) found)
    ∙ sym (ap (owner_text (file_at schema (link_at schema i).owner)
    (file_in s (link_at schema i).owner))
    owned))

-- ---- members, and a `find` among them

not_there : {A : Type 0} (o : Option A) (there : Bool) (b : Bool) → there ≡ b → there ≡ is_some o
    → not (is_some o) ≡ not b
not_there o there b e is = ap not (sym is ∙ e)

pub members_refused : (schema : Schema) (s : State) (i : ℕ) (owner : Value) (order : OrderBy)
    (there : Bool)
    (text : List ℕ) → there ≡ false
    → there ≡ is_some (fin.get (file_in s (link_at schema i).owner) owner)
    → text ≡ refusal_text no_record → IsAnswer schema s (command.Members i owner order) text
members_refused schema s i owner order there text e is text_is =
    refused_so _ (IsReply schema s (command.Members i owner order)) text
    (not_there (fin.get (file_in s (link_at schema i).owner) owner) there false e is) text_is

pub members_listed : (schema : Schema) (s : State) (i : ℕ) (owner : Value) (order : OrderBy)
    (there : Bool)
    (file : FileDef) (text : List ℕ) → there ≡ true
    → there ≡ is_some (fin.get (file_in s (link_at schema i).owner) owner)
    → file ≡ file_at schema (link_at schema i).member
    → IsListText file (file_in s (link_at schema i).member)
    (λ r. is_owner owner (fin.get (link_in s i) r.0)) order text
    → IsAnswer schema s (command.Members i owner order) text
members_listed schema s i owner order there file text e is same listed =
    replied_so _ (IsReply schema s (command.Members i owner order)) text
    (not_there (fin.get (file_in s (link_at schema i).owner) owner) there true e is)
    (subst (λ f. IsListText f (file_in s (link_at schema i).member)
    (λ r. is_owner owner (fin.get (link_in s i) r.0)) order text) same listed)

pub find_refused : (schema : Schema) (s : State) (q : Find) (of : Of) (there : Bool) (text : List ℕ)
    → q.of ≡ Some of → there ≡ false
    → there ≡ is_some (fin.get (file_in s (link_at schema of.link).owner) of.owner)
    → text ≡ refusal_text no_record → IsAnswer schema s (command.Find q) text
find_refused schema s q of there text of_is e is text_is =
    refused_so _ (IsReply schema s (command.Find q)) text
    (ap (lacks_of schema s) of_is ∙ not_there
    (fin.get (file_in s (link_at schema of.link).owner) of.owner) there false e is) text_is

pub find_listed : (schema : Schema) (s : State) (q : Find) (of : Of) (there : Bool) (file : FileDef)
    (text : List ℕ) → q.of ≡ Some of → (link_at schema of.link).member ≡ q.file → there ≡ true
    → there ≡ is_some (fin.get (file_in s (link_at schema of.link).owner) of.owner)
    → file ≡ file_at schema (link_at schema of.link).member
    → IsListText file (file_in s (link_at schema of.link).member)
    (is_chosen_of (link_in s of.link) of.owner q.conds) q.order text
    → IsAnswer schema s (command.Find q) text
find_listed schema s q of there file text of_is at e is same listed =
    replied_so _ (IsReply schema s (command.Find q)) text
    (ap (lacks_of schema s) of_is ∙ not_there
    (fin.get (file_in s (link_at schema of.link).owner) of.owner) there true e is)
    (subst (λ (n : ℕ). IsListText (file_at schema n) (file_in s n) (is_chosen s q) q.order text) at
    (subst (λ (f : FileDef). IsListText f (file_in s (link_at schema of.link).member)
    (is_chosen s q) q.order text) same
    (subst (λ (test : Row → Bool). IsListText file
    (file_in s (link_at schema of.link).member) test q.order text)
    (λ j r. meets_conds q.conds r && meets_of s (sym of_is j) r.0) listed)))
