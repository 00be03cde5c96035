-- One request, carried out, is what `top` promises.
use Rattle.std.proofs.Common.{◌≡◌, ℕ, List, refl, sym, subst, ◌∙◌, inl, inr}
use Rattle.std.specs.Prelude.{◌⊎◌, ◌≢◌}
use Rattle.gx_device.specs.Content.{Content, Texts}
use Rattle.gx_schema.specs.declared.schema.Schema.{Schema}
use Rattle.gx_equation.specs.Trees.{DefinitionTree}
use Rattle.gx_typing.specs.declared.typing.Typing.{Typing}
use Rattle.gx_play.specs.ScriptEnds.{IsScriptEnd}
use Rattle.gx_shares.specs.Ends.{IsShareEnd}
use Rattle.gx_play.specs.declared.ending.Ending.{Ending}
use Rattle.gx_play.specs.declared.ending.Ending.TheVariants as ending
use Rattle.gx_play.specs.declared.status.Status.{Status}
use Rattle.gx_play.specs.declared.status.Status.TheVariants as status
use Rattle.gx_play.specs.Endings.{status_of, IsOutside}
use Rattle.gx_requests.specs.declared.opened.Stored.{Stored}
use Rattle.gx_requests.specs.Checked.{IsStoredFor}
use Rattle.gx_requests.specs.Requests.{IsRefused, IsUnprepared}
use Rattle.gx_requests.specs.Words.{Action, checking, trying, explaining, making, running, sharing, inspecting, working, IsCount, IsRecordCount}
use Rattle.gx_operations.specs.Given.{Given, IsStoredAs, KeepsBut, KeepsAll}
use Rattle.gx_operations.specs.GivenUp.{GivesUp}
use Rattle.gx_operations.specs.Makes.{MakesOn}
use Rattle.gx_operations.specs.Promises.{IsKept, says_line}
use Rattle.gx_operations.specs.Refuses.{refuses}
use Rattle.gx_operations.specs.Runs.{script_play, turns_play}
use Rattle.gx_operations.specs.Works.{WorksOn}
use Rattle.gx_operations.proofs.MemoryLemmas.{refusal_given_up, check_given_up, try_given_up, explain_given_up, make_given_up, run_given_up, inspect_given_up, work_given_up}
use Rattle.gx_top.specs.Promised.{IsGiven, CarriesOut, IsPromised, NameDevice}
use Rattle.gx_operations.specs.Crashes.{IsLater}
use Rattle.gx_requests.proofs.AcceptedLemmas.{accepted_not_refused, one_acceptance, refused_status}
use Rattle.gx_top.proofs.KeepLemmas.{keeps_words}
use Rattle.gx_operations.proofs.LaterLemmas.{refused_later, given_later}
use Rattle.gx_requests.proofs.OnceLemmas.{refused_once}
use Rattle.gx_top.proofs.ReasonLemmas.{carried_not_refused, refusal_status, given_up_status, given_up_not_refused}

-- words whose texts are accepted ask for this alone, and the texts mean nothing else
pub joined : (words : List (List ℕ)) (old new : Content) (s : Status) (a : Action) (g : Given)
    → IsGiven words old.aside.texts a g → CarriesOut a g old new s
    → KeepsBut (NameDevice words) old new → IsPromised words old new s
joined words old new s a g given done keeps = record {
  refused = λ why is. absurd
      (accepted_not_refused words old.aside.texts a g.schema g.definitions g.typing why given is);
  accepted = λ b h is.
      let same = one_acceptance words old.aside.texts a b g.schema h.schema g.definitions
      h.definitions g.typing h.typing given is in
      let one : g ≡ h = λ i. record {
        schema = same.schemas i;
        definitions = same.definitions i;
        typing = same.typings i;
      } in
      subst (λ c. CarriesOut c h old new s) same.actions
      (subst (λ k. CarriesOut a k old new s) one done);
  reason = λ is. absurd (carried_not_refused g old new words old.aside.texts a given
      (subst (λ k. CarriesOut a g old new k) is done));
  given = λ refused memory outside. (a, g, given);
  keeps = keeps;
}

-- words that are refused are so for one reason
pub joined_refusal : (words : List (List ℕ)) (old new : Content) (s : Status) (why : Ending)
    → IsRefused words old.aside.texts why → IsKept (refuses why old) old new s
    → KeepsBut (NameDevice words) old new → IsPromised words old new s
joined_refusal words old new s why is done keeps = record {
  refused = λ other too. subst (λ line. IsKept (says_line status.Refused line old) old new s)
      (refused_once words old.aside.texts why other is too) done;
  accepted = λ b h too. absurd
      (accepted_not_refused words old.aside.texts b h.schema h.definitions h.typing why too is);
  reason = λ is_refused. (why, is);
  given = λ refused memory outside.
      absurd (refusal_status why old new s done refused memory outside);
  keeps = keeps;
}

-- ---- a request that is given up before anything was done

pub carried_given_up : (g : Given) (old new : Content) (s : Status) → GivesUp old new s
    → (a : Action) → CarriesOut a g old new s
carried_given_up g old new s x checking = check_given_up g old new s x
carried_given_up g old new s x trying = try_given_up g old new s x
carried_given_up g old new s x explaining = explain_given_up g old new s x
carried_given_up g old new s x (making device digits) =
    λ blocks is. make_given_up g old new s x device blocks
carried_given_up g old new s x (running device) =
    run_given_up g old new s x device (script_play g old.script) (IsScriptEnd g.schema old.script)
carried_given_up g old new s x (sharing device) =
    run_given_up g old new s x device (turns_play g old.script) (IsShareEnd g.schema old.script)
carried_given_up g old new s x (inspecting device) = inspect_given_up g old new s x device
carried_given_up g old new s x (working device digits number) =
    λ blocks records is few. work_given_up g old new s x device blocks records

-- whatever the words ask for
pub joined_given_up : (words : List (List ℕ)) (old new : Content) (s : Status) → GivesUp old new s
    → KeepsBut (NameDevice words) old new → IsPromised words old new s
joined_given_up words old new s x keeps = record {
  refused = λ why is. refusal_given_up old new s x why;
  accepted = λ a g is. carried_given_up g old new s x a;
  reason = λ is. absurd (given_up_not_refused old new s x is);
  given = λ refused memory outside. absurd (either memory outside (given_up_status old new s x));
  keeps = keeps;
}
  where
    either : s ≢ status.Memory → s ≢ status.Outside → (s ≡ status.Memory) ⊎ (s ≡ status.Outside) → ⊥
    either memory outside (inl is) = memory is
    either memory outside (inr is) = outside is

-- ---- nothing is to be done

is_given_up : (before now : ℕ) (why : Ending) → IsOutside before now why
    → (why ≡ ending.Fault) ⊎ (why ≡ ending.NoMemory)
is_given_up before now ending.Fault out = inl refl
is_given_up before now ending.NoMemory out = inr refl
is_given_up before now ending.Words out = absurd out
is_given_up before now (ending.Missing name) out = absurd out
is_given_up before now (ending.TooLong name) out = absurd out
is_given_up before now (ending.Schema line why) out = absurd out
is_given_up before now (ending.Equation line why) out = absurd out
is_given_up before now (ending.Type line why) out = absurd out
is_given_up before now ending.TextsTooLong out = absurd out
is_given_up before now (ending.Accepted summary) out = absurd out
is_given_up before now (ending.Line number why) out = absurd out
is_given_up before now ending.Full out = absurd out
is_given_up before now (ending.Device why) out = absurd out
is_given_up before now (ending.Made blocks pages) out = absurd out

-- the words are refused, or the texts can't be had
pub unprepared : (words : List (List ℕ)) (old mid new : Content) (before now : ℕ) (why : Ending)
    (s : Status)
    → IsUnprepared words old.aside.texts before now why → IsLater old mid
    → mid.now.pending ≡ old.now.pending
    → (status_of why ≡ status.Refused → IsKept (refuses why mid) mid new s)
    → ((why ≡ ending.Fault) ⊎ (why ≡ ending.NoMemory) → GivesUp mid new s) → KeepsAll mid new
    → IsPromised words old new s
unprepared words old mid new before now why s (inl is) later same refused given keeps =
    joined_refusal words old new s why is
    (refused_later old mid later same why new s
    (refused (refused_status words old.aside.texts why is)))
    (keeps_words words old mid new later keeps)
unprepared words old mid new before now why s (inr out) later same refused given keeps =
    joined_given_up words old new s
    (given_later old mid new s later same (given (is_given_up before now why out)))
    (keeps_words words old mid new later keeps)

-- ---- what the texts give

abbrev pub given_by : Schema → List DefinitionTree → Typing → Given
given_by schema ds typing = record { schema = schema; definitions = ds; typing = typing }

pub stored_as : (words : List (List ℕ)) (texts : Texts) (a : Action) (x : Stored)
    (is : IsStoredFor words texts a x)
    → IsStoredAs (given_by x.schema is.definitions is.typing) x
stored_as words texts a x is = record {
  schema = refl;
  specs = is.specs_are;
  owners = is.owners_are;
  trees = is.trees;
  schema_text = is.schema_text_is;
  equation_text = is.equation_text_is;
}

-- a word counts one number
count_once : (digits : List ℕ) (n k : ℕ) → IsCount digits n → IsCount digits k → n ≡ k
count_once digits n k x y = sym x.value_is ∙ y.value_is

pub makes_counted : (g : Given) (device digits : List ℕ) (blocks : ℕ) (old new : Content)
    (s : Status) → IsCount digits blocks → MakesOn g device blocks old new s
    → CarriesOut (making device digits) g old new s
makes_counted g device digits blocks old new s is done =
    λ n other. subst (λ k. MakesOn g device k old new s) (count_once digits blocks n is other) done

pub works_counted : (g : Given) (device digits number : List ℕ) (blocks records : ℕ)
    (old new : Content) (s : Status) → IsCount digits blocks → IsRecordCount number records
    → WorksOn g device blocks records old new s
    → CarriesOut (working device digits number) g old new s
works_counted g device digits number blocks records old new s is few done =
    λ n m other more. subst (λ k. WorksOn g device n k old new s)
    (count_once number records m few.count more.count)
    (subst (λ k. WorksOn g device k records old new s) (count_once digits blocks n is other) done)
