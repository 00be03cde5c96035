-- Requests without a device: one is refused or given up, texts are checked, a script is tried or
-- explained.
use Rattle.std.proofs.Common.{◌≡◌, ℕ, ◌+◌, ◌-◌, ◌<◌, ◌≤◌, arith, length, Bool, List, [], ◌++◌, take, Result, Ok, None, refl, sym, subst, ap, ◌∙◌, inl, inr}
use Rattle.std.specs.Prelude.{◌⊎◌, ◌≢◌, IfErr}
use Rattle.std.proofs.lemmas.Bool.{cases_lt}
use Rattle.std.proofs.lemmas.List.{append-nil, take-append-le}
use Rattle.std.proofs.Math.Seq.{take-append-add}
use Rattle.gx_device.specs.Content.{Content}
use Rattle.gx_ports.specs.declared.kinds.LeafSpec.{LeafSpec}
use Rattle.gx_commands.specs.declared.command.LineWhy.{LineWhy}
use Rattle.gx_commands.specs.Lines.{script_lines}
use Rattle.gx_types.specs.declared.built.Built.{Built}
use Rattle.gx_model.specs.States.{empty_state}
use Rattle.gx_model.specs.Play.{End, good, stopped, end_text}
use Rattle.gx_explain.specs.Explained.{indexed_fields, IsExplainedTo, IsSomeText, IsScriptExplained, AreFirstExplained}
use Rattle.gx_explain.specs.Explaining.{fields_in}
use Rattle.gx_explain.proofs.ExplainEndLemmas.{same_fields}
use Rattle.gx_explain.proofs.ExplainOnceLemmas.{explained_once}
use Rattle.gx_states.specs.Built.{IsBuiltOf}
use Rattle.gx_play.specs.declared.ending.Ending.{Ending}
use Rattle.gx_play.specs.declared.ending.Ending.TheVariants as ending
use Rattle.gx_play.specs.declared.status.Status.{Status}
use Rattle.gx_play.specs.declared.status.Status.TheVariants as status
use Rattle.gx_play.specs.Endings.{ending_line, status_of, memory_line, IsEnded, IsFinished, IsPlayEnding, EndsThrough}
use Rattle.gx_play.specs.Overs.{IsPlayedOf}
use Rattle.gx_play.specs.Plays.{IsPlayedAs}
use Rattle.gx_play.specs.Say.{SameDevices, IsCut}
use Rattle.gx_play.specs.Summaries.{summary_of, accepted_line}
use Rattle.gx_operations.specs.Crashes.{IsIdleLine}
use Rattle.gx_operations.specs.Given.{Given}
use Rattle.gx_operations.specs.GivenUp.{GaveUp, GivesUp}
use Rattle.gx_operations.specs.Promises.{IsKept, IsSaid, SaysPart, SaysBroken}
use Rattle.gx_operations.specs.Refuses.{refuses}
use Rattle.gx_operations.specs.Checks.{checks}
use Rattle.gx_operations.specs.Kinds.{line_over_play}
use Rattle.gx_operations.specs.Tries.{tries, memory_play}
use Rattle.gx_operations.specs.Explains.{explains, ExplainSays}
use Rattle.gx_operations.proofs.CrashLemmas.{ends_unchanged, ends_idle}
use Rattle.gx_operations.proofs.SaidLemmas.{by_memory, line_kept, heard_all, finished_said, finished_due}
use Rattle.gx_operations.proofs.PlayerLemmas.{IsLawful, line_lawful, line_finer, line_played, played_finer, first_parts}

pub devices_twice : (old mid new : Content) → SameDevices old mid → SameDevices mid new
    → SameDevices old new
devices_twice old mid new x y = record {
  blocks = y.blocks ∙ x.blocks;
  pending = y.pending ∙ x.pending;
  shelf = y.shelf ∙ x.shelf;
}

-- ---- a line is said, and nothing else happens

module _ (why : Ending) (old new : Content) (s : Status) (e : IsEnded why old new s)
    (devices : SameDevices old new) (moments : EndsThrough why old new) where
  pub refusal_kept : status_of why ≡ status.Refused → IsKept (refuses why old) old new s
  refusal_kept is =
      line_kept (refuses why old) why old new s
      (subst (λ k. (refuses why old).Says k [] (ending_line why) new) (sym is) (refl, refl))
      (refl, refl) (λ d due. due ∙ sym is) (record { devices = devices; script = e.words.script })
      (ends_unchanged why old new moments) e

  gave_up : (why ≡ ending.Fault) ⊎ (why ≡ ending.NoMemory) → GaveUp old new s
  gave_up (inl fault) = inr (
    e.due.fault fault,
    0,
    e.words.silent fault ∙ sym (append-nil old.now.said),
  )
  gave_up (inr none) =
      by_memory s (λ is. inl (is, e.words.memory is)) (λ other.
      let is = outside s (λ firm. other (e.due.status_is firm other ∙ ap status_of none)) in
      let cut = cut_of (e.words.cut is) in
      inr (is, cut.0, cut.1))
    where
      outside : (k : Status) → ((k ≢ status.Outside) → ⊥) → k ≡ status.Outside
      outside status.Outside never = refl
      outside status.Done never = absurd (never (λ f. cc))
      outside status.Script never = absurd (never (λ f. cc))
      outside status.Refused never = absurd (never (λ f. cc))
      outside status.Full never = absurd (never (λ f. cc))
      outside status.Device never = absurd (never (λ f. cc))
      outside status.Memory never = absurd (never (λ f. cc))

      cut_of : IsCut (ending_line why) memory_line old new
          → (count : ℕ) × (new.now.said ≡ old.now.said ++ take count memory_line)
      cut_of (n, inl is) = (n, is ∙ ap (λ w. old.now.said ++ take n (ending_line w)) none)
      cut_of (n, inr is) = (n, is)

  pub gives_up : (why ≡ ending.Fault) ⊎ (why ≡ ending.NoMemory) → GivesUp old new s
  gives_up is = record {
    how = gave_up is;
    apart = record { devices = devices; script = e.words.script };
    through = ends_idle why (idle is) old new moments;
  }
    where
      idle : (why ≡ ending.Fault) ⊎ (why ≡ ending.NoMemory) → IsIdleLine (ending_line why)
      idle (inl fault) = inl (ap ending_line fault)
      idle (inr none) = inr (inl (ap ending_line none))

pub check_kept : (g : Given) (specs : List LeafSpec) (old new : Content) (s : Status)
    → g.typing.specs ≡ specs
    → IsEnded (ending.Accepted (summary_of specs)) old new s → SameDevices old new
    → EndsThrough (ending.Accepted (summary_of specs)) old new → IsKept (checks g old) old new s
check_kept g specs old new s same e devices moments =
    let why = ending.Accepted (summary_of specs) in
    line_kept (checks g old) why old new s
    (refl, ap (λ (l : List LeafSpec). accepted_line (summary_of l)) (sym same)) (refl, refl)
    (λ d due. due) (record { devices = devices; script = e.words.script })
    (ends_unchanged why old new moments) e

-- ---- a script is played in memory

module _ (g : Given) (built : Built) (old mid new : Content) (s : Status)
    (played : Result (Unit {0}) Ending)
    (is : IsPlayedAs g.schema built None (empty_state g.schema) (λ kept. Unit {0}) old.script
    old.now.said mid.now.said played)
    (ending : IfErr played IsPlayEnding) (heard : played ≡ Ok tt → mid.script ≡ []) (before : SameDevices old mid)
    (finished : IsFinished played mid new s) (behind : SameDevices mid new) where
  answered : IsPlayedOf (memory_play g old.script) (λ kept. Unit {0}) old.now.said mid.now.said
      played
  answered =
      played_finer (line_over_play g.schema built None (empty_state g.schema) old.script)
      (memory_play g old.script)
      (line_finer g.schema g.definitions built None (empty_state g.schema) old.script
      (λ answers m full. absurd full.short.short.short)) (λ kept. Unit {0}) (λ kept. Unit {0})
      (λ kept held. tt) old.now.said mid.now.said played
      (line_played g.schema built None (empty_state g.schema) old.script (λ kept. Unit {0})
      old.now.said mid.now.said played is)

  law : IsLawful (memory_play g old.script) (empty_state g.schema)
  law = line_lawful g.schema g.definitions None (empty_state g.schema) old.script

  pub try_kept : IsKept (tries g old) old new s
  try_kept = record {
    said = finished_said (memory_play g old.script) (empty_state g.schema) law (λ kept. Unit {0})
        (tries g old) old mid new (λ s answers line m ends holds. (m, ends, tt)) (λ d due. due)
        played s answered
        (λ front. record {
          told = front.told;
          breaks = (front.final, front.front, tt);
          said = front.said;
        }) finished;
    due = finished_due (memory_play g old.script) (empty_state g.schema) law (λ kept. Unit {0})
        (tries g old) old mid new (λ s answers line m ends holds. (m, ends, tt)) (λ d due. due)
        played s answered finished;
    leaves = (devices_twice old mid new before behind, heard_all mid new s played ending heard finished);
    crashes = tt;
  }

-- ---- a script is explained

module _ (g : Given) (old new : Content) where
  abbrev fields : ℕ → List Bool
  fields = indexed_fields g.schema g.definitions

  abbrev Ends : End → List ℕ → Type 0
  Ends end plans = IsExplainedTo g.schema fields (script_lines old.script) end plans

  abbrev First : List ℕ → Type 0
  First plans = AreFirstExplained g.schema fields (script_lines old.script) plans

  -- what is explained is so of first lines
  first_of : (end : End) (plans : List ℕ) → Ends end plans → First plans
  first_of end plans x = record {
    ran = x.ran;
    later = (first_parts (script_lines old.script) x.ran x.next x.first).0;
    parts = (first_parts (script_lines old.script) x.ran x.next x.first).1;
    inside = x.inside;
    explained = x.explained;
  }

  -- a front of the plans and of the line behind them
  cut_by : (meant : Status) (plans line : List ℕ) (n : ℕ)
      → ExplainSays g old.script meant plans line new → First plans
      → new.now.said ≡ old.now.said ++ take n (plans ++ line)
      → (n < length plans) ⊎ (length plans ≤ n)
      → SaysPart (explains g old) old new ⊎ SaysBroken (explains g old) old new
  cut_by meant plans line n says first said (inl few) = inr (record {
    told = take n plans;
    breaks = (plans, n, first, refl);
    said = said ∙ ap (λ t. old.now.said ++ t) (take-append-le n plans line (omega (arith, few)));
  })
  cut_by meant plans line n says first said (inr many) = inl (record {
    meant = meant;
    whole = plans;
    last = line;
    says = says;
    count = n - length plans;
    said = said ∙ ap (λ t. old.now.said ++ t)
        (ap (λ k. take k (plans ++ line))
        (let e : n ≡ length plans + (n - length plans) = omega (arith, many) in e)
        ∙ take-append-add plans line (n - length plans));
  })

  cut_of : (n : ℕ) (text : List ℕ) → IsSomeText g.schema fields old.script text
      → new.now.said ≡ old.now.said ++ take n text
      → SaysPart (explains g old) old new ⊎ SaysBroken (explains g old) old new
  cut_of n text (inl (good, x)) said =
      cut_by status.Done x.plans [] n (x.explained, refl) (first_of good x.plans x.explained)
      (said ∙ ap (λ t. old.now.said ++ take n t) x.text_is) (cases_lt n (length x.plans))
  cut_of n text (inl (stopped number why, x)) said =
      cut_by status.Script x.plans (end_text (stopped number why)) n
      (number, why, x.explained, refl) (first_of (stopped number why) x.plans x.explained)
      (said ∙ ap (λ t. old.now.said ++ take n t) x.text_is) (cases_lt n (length x.plans))
  cut_of n text (inr x) said =
      cut_by status.Memory x.plans memory_line n (x.explained, refl) x.explained
      (said ∙ ap (λ t. old.now.said ++ take n t) x.text_is) (cases_lt n (length x.plans))

  explain_said : (s : Status) → IsScriptExplained g.schema fields old new s
      → IsSaid (explains g old) old new s
  explain_said status.Done (text, x, said) = record {
    whole = x.plans;
    last = [];
    says = (x.explained, refl);
    said = said ∙ ap (λ t. old.now.said ++ t) x.text_is;
  }
  explain_said status.Script (text, (number, why, x), said) = record {
    whole = x.plans;
    last = end_text (stopped number why);
    says = (number, why, x.explained, refl);
    said = said ∙ ap (λ t. old.now.said ++ t) x.text_is;
  }
  explain_said status.Memory (text, x, said) = record {
    whole = x.plans;
    last = memory_line;
    says = (x.explained, refl);
    said = said ∙ ap (λ t. old.now.said ++ t) x.text_is;
  }
  explain_said status.Outside (text, x, (n, said)) = cut_of n text x said
  explain_said status.Refused x = absurd x
  explain_said status.Full x = absurd x
  explain_said status.Device x = absurd x

  -- a script has one end
  not_both : (a b : List ℕ) (number : ℕ) (why : LineWhy) → Ends good a → Ends (stopped number why) b
      → ⊥
  not_both a b number why x y =
      let same : ◌≡◌ {A = End} good (stopped number why) =
      (explained_once g.schema fields (script_lines old.script) good (stopped number why) a b x y).1
      in differ same
    where
      differ : ◌≡◌ {A = End} good (stopped number why) → ⊥
      differ e = cc

  abbrev IsPlain : Status → Type 0
  IsPlain d = (d ≡ status.Done) ⊎ (d ≡ status.Script)

  not_plain : IsPlain status.Memory → ⊥
  not_plain (inl e) = cc
  not_plain (inr e) = cc

  due_good : (plans : List ℕ) → Ends good plans → (d : Status) (other line : List ℕ) → IsPlain d
      → ExplainSays g old.script d other line old → (status.Done ≡ d) ⊎ (status.Done ≡ status.Memory)
  due_good plans x status.Done other line is says = inl refl
  due_good plans x status.Script other line is says =
      absurd (not_both plans other says.0 says.1 x says.2)
  due_good plans x status.Memory other line is says = absurd (not_plain is)
  due_good plans x status.Refused other line is says = absurd says
  due_good plans x status.Full other line is says = absurd says
  due_good plans x status.Device other line is says = absurd says
  due_good plans x status.Outside other line is says = absurd says

  due_stopped : (plans : List ℕ) (number : ℕ) (why : LineWhy) → Ends (stopped number why) plans
      → (d : Status) (other line : List ℕ) → IsPlain d
      → ExplainSays g old.script d other line old
      → (status.Script ≡ d) ⊎ (status.Script ≡ status.Memory)
  due_stopped plans number why x status.Script other line is says = inl refl
  due_stopped plans number why x status.Done other line is says =
      absurd (not_both other plans number why says.0 x)
  due_stopped plans number why x status.Memory other line is says = absurd (not_plain is)
  due_stopped plans number why x status.Refused other line is says = absurd says
  due_stopped plans number why x status.Full other line is says = absurd says
  due_stopped plans number why x status.Device other line is says = absurd says
  due_stopped plans number why x status.Outside other line is says = absurd says

  explain_due : (s : Status) → IsScriptExplained g.schema fields old new s → (d : Status)
      → (explains g old).Due d → s ≢ status.Outside → (s ≡ d) ⊎ (s ≡ status.Memory)
  explain_due status.Done (text, x, said) d due out =
      due_good x.plans x.explained d due.0 due.1 due.2 due.3
  explain_due status.Script (text, (number, why, x), said) d due out =
      due_stopped x.plans number why x.explained d due.0 due.1 due.2 due.3
  explain_due status.Memory x d due out = inr refl
  explain_due status.Outside x d due out = absurd (out refl)
  explain_due status.Refused x d due out = absurd x
  explain_due status.Full x d due out = absurd x
  explain_due status.Device x d due out = absurd x

  pub explain_kept : (s : Status) (built : Built) → IsBuiltOf g.schema g.definitions built
      → IsScriptExplained g.schema (fields_in g.schema built.files) old new s
      → (s ≡ status.Done → new.script ≡ []) → SameDevices old new
      → IsKept (explains g old) old new s
  explain_kept s built trees row heard devices =
      let is = subst (λ (f : ℕ → List Bool). IsScriptExplained g.schema f old new s)
      (same_fields g.schema g.definitions built.files trees.files) row in
      record {
        said = explain_said s is;
        due = explain_due s is;
        leaves = (devices, heard);
        crashes = tt;
      }
