-- From the lines that are explained to what a request to explain says.
use Rattle.std.proofs.Common.{◌≡◌, ℕ, ◌+◌, List, [], ◌∷◌, ◌++◌, length, take, map, Bool, Result, Ok, Err, Option, Some, None, refl, sym, ap, subst, ◌∙◌, arith, inl, inr}
use Rattle.std.specs.Prelude.{min}
use Rattle.std.proofs.lemmas.List.{append-nil, take-append-le}
use Rattle.gx_device.specs.Content.{Content}
use Rattle.gx_ports.specs.declared.stop.Stop.TheVariants as stop
use Rattle.gx_schema.specs.declared.schema.Schema.{Schema}
use Rattle.gx_schema.specs.Lookups.{file_at}
use Rattle.gx_commands.specs.declared.command.LineWhy.{LineWhy}
use Rattle.gx_commands.specs.Lines.{Lines, script_lines}
use Rattle.gx_equation.specs.Trees.{DefinitionTree}
use Rattle.gx_stack.specs.declared.node.Node.{Node}
use Rattle.gx_types.specs.declared.any.AnyMapping.{AnyMapping}
use Rattle.gx_types.specs.Build.{AreTreesOfFiles}
use Rattle.gx_explain.proofs.IndexedLaws.{file_indexed_as}
use Rattle.gx_model.specs.Play.{End, good, stopped}
use Rattle.gx_model.specs.Languages.{AreFirstLines}
use Rattle.gx_play.specs.declared.ending.Ending.TheVariants as ending
use Rattle.gx_play.specs.declared.play.PlayEnd.{PlayEnd}
use Rattle.gx_play.specs.declared.play.PlayEnd.TheVariants as play_end
use Rattle.gx_play.specs.declared.status.Status.{Status}
use Rattle.gx_play.specs.declared.status.Status.TheVariants as status
use Rattle.gx_play.specs.Endings.{ending_line, memory_line, ending_of, IsEnded}
use Rattle.gx_play.specs.Say.{IsCut}
use Rattle.gx_play.specs.Played.{SaysText, SaysFront}
use Rattle.gx_explain.specs.Explained.{indexed_fields, IsExplainedTo, AreFirstExplained, IsMemoryExplanation, IsSomeText, IsScriptExplained}
use Rattle.gx_explain.specs.Explaining.{fields_in, SaysPlans}
use Rattle.gx_explain.proofs.BehindLemmas.{behind, front_behind, taken}

-- the fields that are indexed in nodes are those that are indexed in the terms that they mean
pub same_fields : (schema : Schema) (ds : List DefinitionTree) (nodes : List (Node AnyMapping))
    → AreTreesOfFiles 0 schema.files ds nodes → fields_in schema nodes ≡ indexed_fields schema ds
same_fields schema ds nodes are =
    λ i file. map (λ f. file_indexed_as 0 schema.files ds nodes file f.name are i)
    (file_at schema file).fields

-- a front of a text is one of the text and a line behind it
front_within : (old new : Content) (text line : List ℕ)
    → ((n : ℕ) × (new.now.said ≡ old.now.said ++ take n text))
    → (n : ℕ) × (new.now.said ≡ old.now.said ++ take n (text ++ line))
front_within old new text line is =
    let m = min is.0 (length text) in (
      m,
      is.1 ∙ ap (λ t. old.now.said ++ t) (taken text is.0 m refl
          ∙ sym (take-append-le m text line (omega arith))),
    )

module _ (schema : Schema) (indexed : ℕ → List Bool) where
  -- ---- behind the plans, the line of the end

  pub done_said : (old new : Content)
      → SaysText (IsExplainedTo schema indexed (script_lines old.script) good) old new
      → IsScriptExplained schema indexed old new status.Done
  done_said old new is = (
    is.0,
    record {
      plans = is.0;
      explained = is.1;
      text_is = sym (append-nil is.0);
    },
    is.2,
  )

  -- what was explained are the first lines
  first_of : (all : Lines) (end : End) (text : List ℕ)
      → (x : IsExplainedTo schema indexed all end text)
      → AreFirstExplained schema indexed all text
  first_of all end text x =
      let parts = parts_of all x.ran x.next x.first in
      record {
        ran = x.ran;
        later = parts.0;
        parts = parts.1;
        inside = x.inside;
        explained = x.explained;
      }
    where
      parts_of : (all : Lines) (ran : List (List ℕ)) (next : Result (Option (List ℕ)) LineWhy)
          → AreFirstLines all ran next → (later : List (List ℕ)) × (all.lines ≡ ran ++ later)
      parts_of all ran (Ok (Some line)) first = (line ∷ first.0, first.1)
      parts_of all ran (Ok None) first = ([], first.0 ∙ sym (append-nil ran))
      parts_of all ran (Err why) first = ([], first.0 ∙ sym (append-nil ran))

  short_said : (old mid new : Content)
      → SaysText (AreFirstExplained schema indexed (script_lines old.script)) old mid
      → new.now.said ≡ mid.now.said ++ memory_line
      → SaysText (IsMemoryExplanation schema indexed old.script) old new
  short_said old mid new is said = (
    is.0 ++ memory_line,
    record { plans = is.0; explained = is.1; text_is = refl },
    behind old.now.said
        mid.now.said new.now.said is.0 memory_line is.2 said,
  )

  short_front : (old mid new : Content) (n : ℕ)
      → SaysText (AreFirstExplained schema indexed (script_lines old.script)) old mid
      → new.now.said ≡ mid.now.said ++ take n memory_line
      → SaysFront (IsSomeText schema indexed old.script) old new
  short_front old mid new n is said = (
    is.0 ++ memory_line,
    inr (record { plans = is.0; explained = is.1; text_is = refl }),
    (
      length is.0 + n,
      front_behind old.now.said mid.now.said new.now.said is.0 memory_line
          n is.2 said,
    ),
  )

  firsts : (old mid : Content) (number : ℕ) (why : LineWhy)
      → SaysText (IsExplainedTo schema indexed (script_lines old.script) (stopped number why)) old
      mid
      → SaysText (AreFirstExplained schema indexed (script_lines old.script)) old mid
  firsts old mid number why is =
      (is.0, first_of (script_lines old.script) (stopped number why) is.0 is.1, is.2)

  line_front : (old mid new : Content) (number : ℕ) (why : LineWhy)
      → SaysText (IsExplainedTo schema indexed (script_lines old.script) (stopped number why)) old
      mid
      → IsCut (ending_line (ending.Line number why)) memory_line mid new
      → SaysFront (IsSomeText schema indexed old.script) old new
  line_front old mid new number why is (n, inl said) = (
    is.0 ++ ending_line (ending.Line number why),
    inl (stopped number why, record { plans = is.0; explained = is.1; text_is = refl }),
    (
      length is.0 + n,
      front_behind old.now.said mid.now.said new.now.said is.0
          (ending_line (ending.Line number why)) n is.2 said,
    ),
  )
  line_front old mid new number why is (n, inr said) =
      short_front old mid new n (firsts old mid number why is) said

  memory_front : (old mid new : Content)
      → SaysText (AreFirstExplained schema indexed (script_lines old.script)) old mid
      → IsCut memory_line memory_line mid new
      → SaysFront (IsSomeText schema indexed old.script) old new
  memory_front old mid new is (n, inl said) = short_front old mid new n is said
  memory_front old mid new is (n, inr said) = short_front old mid new n is said

  fault_front : (old mid new : Content)
      → SaysFront (AreFirstExplained schema indexed (script_lines old.script)) old mid
      → new.now.said ≡ mid.now.said → SaysFront (IsSomeText schema indexed old.script) old new
  fault_front old mid new is silent = (
    is.0 ++ memory_line,
    inr (record { plans = is.0; explained = is.1; text_is = refl }),
    front_within old new is.0 memory_line (is.2.0, silent ∙ is.2.1),
  )

  line_said : (old mid new : Content) (number : ℕ) (why : LineWhy) (s : Status)
      → SaysText (IsExplainedTo schema indexed (script_lines old.script) (stopped number why)) old
      mid
      → IsEnded (ending.Line number why) mid new s → IsScriptExplained schema indexed old new s
  line_said old mid new number why status.Script is e = (
    is.0 ++ ending_line (ending.Line number why),
    (number, why, record { plans = is.0; explained = is.1; text_is = refl }),
    behind old.now.said mid.now.said new.now.said is.0 (ending_line (ending.Line number why)) is.2
        (e.words.said (λ f. cc) (λ f. cc)),
  )
  line_said old mid new number why status.Memory is e =
      short_said old mid new (firsts old mid number why is) (e.words.memory refl)
  line_said old mid new number why status.Outside is e =
      line_front old mid new number why is (e.words.cut refl)
  line_said old mid new number why status.Done is e =
      absurd (never (e.due.status_is (λ f. cc) (λ f. cc)))
    where
      never : status.Done ≡ status.Script → ⊥
      never f = cc
  line_said old mid new number why status.Refused is e =
      absurd (never (e.due.status_is (λ f. cc) (λ f. cc)))
    where
      never : status.Refused ≡ status.Script → ⊥
      never f = cc
  line_said old mid new number why status.Full is e =
      absurd (never (e.due.status_is (λ f. cc) (λ f. cc)))
    where
      never : status.Full ≡ status.Script → ⊥
      never f = cc
  line_said old mid new number why status.Device is e =
      absurd (never (e.due.status_is (λ f. cc) (λ f. cc)))
    where
      never : status.Device ≡ status.Script → ⊥
      never f = cc

  memory_said : (old mid new : Content) (s : Status)
      → SaysText (AreFirstExplained schema indexed (script_lines old.script)) old mid
      → IsEnded ending.NoMemory mid new s → IsScriptExplained schema indexed old new s
  memory_said old mid new status.Memory is e = short_said old mid new is (e.words.memory refl)
  memory_said old mid new status.Outside is e = memory_front old mid new is (e.words.cut refl)
  memory_said old mid new status.Script is e = absurd (never (e.due.status_is (λ f. cc) (λ f. cc)))
    where
      never : status.Script ≡ status.Memory → ⊥
      never f = cc
  memory_said old mid new status.Done is e = absurd (never (e.due.status_is (λ f. cc) (λ f. cc)))
    where
      never : status.Done ≡ status.Memory → ⊥
      never f = cc
  memory_said old mid new status.Refused is e = absurd (never (e.due.status_is (λ f. cc) (λ f. cc)))
    where
      never : status.Refused ≡ status.Memory → ⊥
      never f = cc
  memory_said old mid new status.Full is e = absurd (never (e.due.status_is (λ f. cc) (λ f. cc)))
    where
      never : status.Full ≡ status.Memory → ⊥
      never f = cc
  memory_said old mid new status.Device is e = absurd (never (e.due.status_is (λ f. cc) (λ f. cc)))
    where
      never : status.Device ≡ status.Memory → ⊥
      never f = cc

  -- whatever the status of the end is
  pub end_said : (old mid new : Content) (why : PlayEnd) (s : Status)
      → SaysPlans schema indexed (script_lines old.script) old mid (Err why)
      → IsEnded (ending_of why) mid new s
      → IsScriptExplained schema indexed old new s
  end_said old mid new (play_end.Line number why) s is e = line_said old mid new number why s is e
  end_said old mid new (play_end.Stop stop.NoMemory) s is e = memory_said old mid new s is e
  end_said old mid new (play_end.Stop stop.Fault) s is e =
      subst (IsScriptExplained schema indexed old new) (sym (e.due.fault refl))
      (fault_front old mid new is (e.words.silent refl))
  end_said old mid new (play_end.Stop stop.Full) s is e = absurd is
  end_said old mid new (play_end.Stop (stop.Damaged block)) s is e = absurd is
