-- What commands do to the moments of a play that leaves stand for, and what they answer.
use Rattle.std.proofs.Common.{◌≡◌, ℕ, ◌+◌, ◌<◌, List, [], ◌∷◌, length, cond, Bool, true, false, Option, Some, None, Result, Ok, Err, refl, sym, ap, subst, ◌∙◌}
use Rattle.std.specs.Prelude.{is_some, ◌&&◌, ◌++◌, unwrap_or, codes, if◌then◌else◌, IsErrAnd}
use Rattle.std.specs.Option.{option_map}
use Rattle.std.proofs.Math.Bool.{and-true}
use Rattle.std.proofs.lemmas.Bool.{true≢false}
use Rattle.gx_schema.specs.declared.schema.FileDef.{FileDef}
use Rattle.gx_schema.specs.declared.schema.Schema.{Schema}
use Rattle.gx_schema.specs.Lookups.{file_at}
use Rattle.gx_commands.specs.declared.command.Command.{Command}
use Rattle.gx_commands.specs.declared.command.Command.TheVariants as command
use Rattle.gx_commands.specs.declared.command.Of.{Of}
use Rattle.gx_commands.specs.declared.command.Find.{Find}
use Rattle.gx_commands.specs.declared.command.OrderBy.{OrderBy}
use Rattle.gx_commands.specs.Commands.{place_reason}
use Rattle.gx_commands.specs.declared.command.LineWhy.TheVariants as why
use Rattle.gx_ports.specs.LeafMaps.{LeafMap}
use Rattle.gx_ports.specs.declared.view.View.{Ghosts}
use Rattle.gx_ports.specs.declared.stop.Stop.{Stop}
use Rattle.gx_ports.specs.declared.stop.Stop.TheVariants as stop
use Rattle.gx_ports.specs.Stops.{is_outside, HasStopCause}
use Rattle.gx_ports.specs.Calls.{Ends}
use Rattle.gx_stack.specs.Tree.{Tree}
use Rattle.gx_types.specs.declared.any.AnyMapping.{AnyMapping}
use Rattle.gx_types.specs.declared.built.Built.{Built}
use Rattle.gx_types.specs.Nodes.{tree_at}
use Rattle.gx_edits.specs.Edits.{Refused, refusal_for}
use Rattle.gx_model.specs.States.{File, State, Row, file_in}
use Rattle.gx_model.specs.Found.{IsListed, is_chosen, meets_conds, meets_of}
use Rattle.gx_model.specs.Commands.{Refusal, no_record, next_state, refusal_of, first_refusal, IsAnswerOr, IsListText, lacks_of}
use Rattle.gx_model.specs.Play.{Playing, IsAnswered, seen_state, working_after, with_working, after_command}
use Rattle.gx_model.proofs.RunLemmas.{some_after}
use Rattle.gx_scan.specs.Files.{HasFile}
use Rattle.gx_engine.specs.declared.engine.Engine.{Engine}
use Rattle.gx_engine.specs.Steps.{schema_of, built_of, leaves_of, IsSound}
use Rattle.gx_states.specs.Internal.{AreInternal, HaveState}
use Rattle.gx_scan.proofs.CallLemmas.{ends_so}
use Rattle.gx_states.proofs.StoredLemmas.{has_file}
use Rattle.gx_edits.specs.Edits.{is_edit, edit_text, IsEdit}
use Rattle.gx_engine.specs.Moments.{Stands, IsCarried}

-- ---- moments of the play

seen_after : (w : Option State) (s k : State) → is_some w ≡ true
    → unwrap_or (working_after w s) k ≡ s
seen_after None s k e = cc
seen_after (Some old) s k e = refl

seen_again : (w : Option State) (k : State)
    → unwrap_or (working_after w (unwrap_or w k)) k ≡ unwrap_or w k
seen_again None k = refl
seen_again (Some old) k = refl

-- inside a transaction the working maps may stand for another state
stands_with : (schema : Schema) (built : Built) (inside : Bool) (commits : ℕ)
    (old new kept : List LeafMap) (p : Playing) (s : State)
    → Stands schema built inside commits old kept p → inside ≡ true → AreInternal schema built new s
    → Stands schema built inside commits new kept (with_working p s)
stands_with schema built inside commits old new kept p s stands open_ are = record {
  inside_same = stands.inside_same ∙ sym (some_after p.working s);
  commits_same = stands.commits_same;
  working_is = subst (AreInternal schema built new)
      (sym (seen_after p.working s p.kept (sym stands.inside_same ∙ open_))) are;
  kept_is = stands.kept_is;
}

-- a command that leaves the state as it is
pub stands_still : (schema : Schema) (built : Built) (inside : Bool) (commits : ℕ)
    (old new kept now : List LeafMap) (p : Playing) (s : State)
    → Stands schema built inside commits old kept p → new ≡ old → now ≡ kept → s ≡ seen_state p
    → Stands schema built inside commits new now (with_working p s)
stands_still schema built inside commits old new kept now p s stands same kept_same is = record {
  inside_same = stands.inside_same ∙ sym (some_after p.working s);
  commits_same = stands.commits_same;
  working_is = subst (λ (maps : List LeafMap). AreInternal schema built maps
      (unwrap_or (working_after p.working s) p.kept)) (sym same)
      (subst (λ (x : State). AreInternal schema built old
      (unwrap_or (working_after p.working x) p.kept)) (sym is) (subst (AreInternal schema built old)
      (sym (seen_again p.working p.kept)) stands.working_is));
  kept_is = subst (λ (maps : List LeafMap). AreInternal schema built maps p.kept)
      (sym kept_same) stands.kept_is;
}

-- ---- find without `of`

chosen_by_conds : (s : State) (q : Find) (of : Option Of) → q.of ≡ of → of ≡ None → (r : Row)
    → meets_conds q.conds r ≡ is_chosen s q r
chosen_by_conds s q of is none r =
    sym (ap (λ (o : Option Of). meets_conds q.conds r && meets_of s o r.0) (is ∙ none)
    ∙ and-true (meets_conds q.conds r))

listed_same : (f : File) (p q : Row → Bool) (o : OrderBy) (rows : List Row)
    → ((r : Row) → p r ≡ q r) → IsListed f p o rows → IsListed f q o rows
listed_same f p q o rows same is =
    subst (λ (test : Row → Bool). IsListed f test o rows) (λ i r. same r i) is

pub found_by_conds : (s : State) (q : Find) (def : FileDef) (f : File) (text : List ℕ) → q.of ≡ None
    → IsListText def f (meets_conds q.conds) q.order text
    → IsListText def f (is_chosen s q) q.order text
found_by_conds s q def f text none is = record {
  rows = is.rows;
  listed = listed_same f (meets_conds q.conds) (is_chosen s q) q.order is.rows
      (chosen_by_conds s q q.of refl none) is.listed;
  is = is.is;
}

pub found_answer : (schema : Schema) (s : State) (of : Option Of) (Reply : List ℕ → Type 0)
    (text : List ℕ) → of ≡ None → Reply text
    → IsAnswerOr (first_refusal ((lacks_of schema s of, no_record) ∷ [])) Reply text
found_answer schema s None Reply text none is = is
found_answer schema s (Some of) Reply text none is = cc

pub found_next : (schema : Schema) (s : State) (of : Option Of) → of ≡ None
    → cond (is_some (first_refusal ((lacks_of schema s of, no_record) ∷ []))) s s ≡ s
found_next schema s None none = refl
found_next schema s (Some of) none = cc

-- ---- commands that were carried out

pub open_of : (inside : Bool) → (if inside then None else Some why.NoTransaction) ≡ None
    → inside ≡ true
open_of true e = refl
open_of false e = cc

kept_stands : (schema : Schema) (built : Built) (inside : Bool) (commits : ℕ)
    (working kept now : List LeafMap) (p : Playing) → now ≡ kept
    → Stands schema built inside commits working kept p
    → Stands schema built inside commits working now p
kept_stands schema built inside commits working kept now p same is =
    subst (λ (maps : List LeafMap). Stands schema built inside commits working maps p) (sym same) is

pub find_carried : (schema : Schema) (built : Built) (inside : Bool) (commits : ℕ)
    (old new kept now : List LeafMap) (p : Playing) (q : Find) (file : FileDef)
    (out said text : List ℕ) → q.of ≡ None → Stands schema built inside commits old kept p
    → new ≡ old → now ≡ kept → file ≡ file_at schema q.file
    → IsListText file (file_in (seen_state p) q.file) (meets_conds q.conds) q.order text
    → said ≡ out ++ text → IsCarried schema built p (command.Find q) out said inside commits new now
find_carried schema built inside commits old new kept now p q file out said text none stands same
    kept_same e listed is_said =
    let at = subst (λ (x : FileDef). IsListText x (file_in (seen_state p) q.file)
    (meets_conds q.conds) q.order text) e listed in
    record {
      answer = text;
      said = is_said;
      answered = found_answer schema (seen_state p) q.of
          (IsListText (file_at schema q.file) (file_in (seen_state p) q.file)
          (is_chosen (seen_state p) q) q.order) text none
          (found_by_conds (seen_state p) q (file_at schema q.file)
          (file_in (seen_state p) q.file) text none at);
      stands = stands_still schema built inside commits old new kept now p
          (next_state schema (seen_state p) (command.Find q)) stands same kept_same
          (found_next schema (seen_state p) q.of none);
    }

-- ---- how a command on one file ends

-- where the engine is sound, the leaves hold a state
pub sound_state : {S : Type 0} (g : Ghosts S) (e : Engine S) → IsSound g e
    → g.whole (leaves_of e) × HaveState (schema_of e) (built_of e) (g.working (leaves_of e))
sound_state g e sound = (sound.1.whole_is, (seen_state sound.0, sound.1.stands.working_is))

-- what stops a call stops the command
pub state_cause : {S T U : Type 0} (g : Ghosts S) (e : Engine S) (new : S) (why : Stop)
    (result : Result U Stop) → Ends {T = T} g
    (g.whole (leaves_of e) × HaveState (schema_of e) (built_of e) (g.working (leaves_of e)))
    (leaves_of e) new (Err why) → IsErrAnd result (λ s. s ≡ why)
    → HasStopCause (g.faults (leaves_of e)) (g.faults new) (IsSound g e) result
state_cause g e new why (Ok x) ends err = absurd err
state_cause {S} {T} {U} g e new why (Err s) ends err = record {
  later = ends.later;
  fault = λ f. let same : s ≡ stop.Fault = cc in ends.fault (ap Err (sym err ∙ same));
  counted = λ c. ends.counted (ap is_outside (sym err) ∙ c);
  damaged = λ block f sound. let same : s ≡ stop.Damaged block = cc in
      ends.damaged block (ap Err (sym err ∙ same)) (sound_state g e sound);
}

-- of a call on one file
pub file_cause : {S T U : Type 0} (g : Ghosts S) (e : Engine S) (new : S) (i : ℕ) (file : FileDef)
    (t : Tree AnyMapping) (why : Stop) (result : Result U Stop) → i < length (schema_of e).files
    → file ≡ file_at (schema_of e) i → t ≡ tree_at (built_of e).files i
    → Ends {T = T} g (g.whole (leaves_of e) × HasFile file t (g.working (leaves_of e)))
    (leaves_of e) new (Err why) → IsErrAnd result (λ s. s ≡ why)
    → HasStopCause (g.faults (leaves_of e)) (g.faults new) (IsSound g e) result
file_cause g e new i file t why result lt is tree ends =
    state_cause g e new why result (ends_so g _ _ (leaves_of e) new (Err why) (λ found. (
      found.0,
      has_file (schema_of e) (built_of e) i file t (g.working (leaves_of e)) is tree lt found.1,
    )) ends)

-- ---- edits

pub edit_next : (schema : Schema) (p : Playing) (c : Command) → is_edit c ≡ true
    → after_command schema p c ≡ with_working p (next_state schema (seen_state p) c)
edit_next schema p command.Begin e = absurd (true≢false (sym e))
edit_next schema p command.Commit e = absurd (true≢false (sym e))
edit_next schema p command.Abort e = absurd (true≢false (sym e))
edit_next schema p _ e = refl

pub edit_open : (inside : Bool) (c : Command) → is_edit c ≡ true → place_reason inside c ≡ None
    → inside ≡ true
edit_open inside (command.Insert file values) e may = open_of inside may
edit_open inside (command.Update file key changes) e may = open_of inside may
edit_open inside (command.Delete file key) e may = open_of inside may
edit_open inside (command.Connect link owner member) e may = open_of inside may
edit_open inside (command.Disconnect link member) e may = open_of inside may
edit_open inside _ e may = absurd (true≢false (sym e))

answer_for : (refusal : Option Refusal) (why : Option Refused) (text : List ℕ)
    → option_map refusal_for why ≡ refusal → text ≡ edit_text why
    → IsAnswerOr refusal (λ t. t ≡ codes "ok\n") text
answer_for refusal None text is t =
    subst (λ (r : Option Refusal). IsAnswerOr r (λ t. t ≡ codes "ok\n") text) is t
answer_for refusal (Some why) text is t =
    subst (λ (r : Option Refusal). IsAnswerOr r (λ t. t ≡ codes "ok\n") text) is t

edit_answered : (schema : Schema) (p : Playing) (c : Command) (why : Option Refused) (text : List ℕ)
    → is_edit c ≡ true → option_map refusal_for why ≡ refusal_of schema (seen_state p) c
    → text ≡ edit_text why → IsAnswered schema p c text
edit_answered schema p (command.Insert file values) why text e is t =
    answer_for (refusal_of schema (seen_state p) (command.Insert file values)) why text is t
edit_answered schema p (command.Update file key changes) why text e is t =
    answer_for (refusal_of schema (seen_state p) (command.Update file key changes)) why text is t
edit_answered schema p (command.Delete file key) why text e is t =
    answer_for (refusal_of schema (seen_state p) (command.Delete file key)) why text is t
edit_answered schema p (command.Connect link owner member) why text e is t =
    answer_for (refusal_of schema (seen_state p) (command.Connect link owner member)) why text is t
edit_answered schema p (command.Disconnect link member) why text e is t =
    answer_for (refusal_of schema (seen_state p) (command.Disconnect link member)) why text is t
edit_answered schema p _ why text e is t = absurd (true≢false (sym e))

pub edit_carried : (schema : Schema) (built : Built) (inside : Bool) (commits : ℕ)
    (old new kept now : List LeafMap) (p : Playing) (c : Command) (why : Option Refused)
    (out said text : List ℕ) → is_edit c ≡ true → place_reason inside c ≡ None
    → Stands schema built inside commits old kept p → now ≡ kept
    → IsEdit schema built c (seen_state p) new why → text ≡ edit_text why → said ≡ out ++ text
    → IsCarried schema built p c out said inside commits new now
edit_carried schema built inside commits old new kept now p c why out said text is place stands same
    edit is_text is_said = record {
      answer = text;
      said = is_said;
      answered = edit_answered schema p c why text is edit.why_is is_text;
      stands = kept_stands schema built inside commits new kept now (after_command schema p c) same
          (subst (Stands schema built inside commits new kept) (sym (edit_next schema p c is))
          (stands_with schema built inside commits old new kept p
          (next_state schema (seen_state p) c) stands (edit_open inside c is place) edit.stands));
    }
