-- What was said of a request that ends with a line, and of a script that was played before.
use Rattle.std.proofs.Common.{◌≡◌, ℕ, List, [], ◌++◌, take, Result, Ok, Err, refl, sym, subst, ap, ◌∙◌, inl, inr, append_assoc}
use Rattle.std.specs.Prelude.{◌⊎◌, ◌≢◌, IfErr}
use Rattle.std.proofs.lemmas.List.{append-nil}
use Rattle.gx_device.specs.Content.{Content}
use Rattle.gx_model.specs.States.{State}
use Rattle.gx_model.specs.Play.{stopped}
use Rattle.gx_play.specs.declared.ending.Ending.{Ending}
use Rattle.gx_play.specs.declared.ending.Ending.TheVariants as ending
use Rattle.gx_play.specs.declared.status.Status.{Status}
use Rattle.gx_play.specs.declared.status.Status.TheVariants as status
use Rattle.gx_play.specs.Endings.{ending_line, status_of, memory_line, IsStatusFor, IsEnded, IsFinished, IsPlayEnding}
use Rattle.gx_play.specs.Say.{IsCut}
use Rattle.gx_play.specs.Overs.{IsPlayedOf, SaysFrontOf}
use Rattle.gx_play.specs.Player.{Play, EndsWith, IsDueOf}
use Rattle.gx_operations.specs.Promises.{Promise, IsKept, IsSaid, SaysBoth, SaysPart, SaysBroken}
use Rattle.gx_operations.proofs.PlayerLemmas.{IsLawful}

-- ---- one line

-- what was said, by the status
pub said_by : (p : Promise) (old new : Content) (s : Status)
    → (s ≢ status.Outside → SaysBoth p old new s)
    → (s ≡ status.Outside → SaysPart p old new ⊎ SaysBroken p old new) → IsSaid p old new s
said_by p old new status.Outside both cut = cut refl
said_by p old new status.Done both cut = both (λ e. cc)
said_by p old new status.Script both cut = both (λ e. cc)
said_by p old new status.Refused both cut = both (λ e. cc)
said_by p old new status.Full both cut = both (λ e. cc)
said_by p old new status.Device both cut = both (λ e. cc)
said_by p old new status.Memory both cut = both (λ e. cc)

-- whether there was memory is known
pub by_memory : {P : Type 0} (s : Status) → (s ≡ status.Memory → P) → (s ≢ status.Memory → P) → P
by_memory status.Memory is not = is refl
by_memory status.Done is not = not (λ e. cc)
by_memory status.Script is not = not (λ e. cc)
by_memory status.Refused is not = not (λ e. cc)
by_memory status.Full is not = not (λ e. cc)
by_memory status.Device is not = not (λ e. cc)
by_memory status.Outside is not = not (λ e. cc)

-- the status that is due, but for want of memory
pub due_of : (why : Ending) (s d : Status) → IsStatusFor why s → d ≡ status_of why
    → s ≢ status.Outside → (s ≡ d) ⊎ (s ≡ status.Memory)
due_of why s d is same out =
    by_memory s (λ e. inr e) (λ other. inl (is.status_is out other ∙ sym same))

-- A promise of what was said before, and of the line of an ending behind it.
module _ (p : Promise) (why : Ending) (old mid new : Content) (whole : List ℕ)
    (before : mid.now.said ≡ old.now.said ++ whole)
    (says : p.Says (status_of why) whole (ending_line why) new)
    (memory : p.Says status.Memory whole memory_line new) where
  behind : (line : List ℕ) → new.now.said ≡ mid.now.said ++ line
      → new.now.said ≡ old.now.said ++ (whole ++ line)
  behind line is = is ∙ ap (λ t. t ++ line) before ∙ append_assoc old.now.said whole line

  line_both : (s : Status) → IsEnded why mid new s → s ≢ status.Outside → SaysBoth p old new s
  line_both s e out =
      by_memory s (λ is. record {
        whole = whole;
        last = memory_line;
        says = subst (λ k. p.Says k whole memory_line new) (sym is) memory;
        said = behind memory_line (e.words.memory is);
      }) (λ other. record {
        whole = whole;
        last = ending_line why;
        says = subst (λ k. p.Says k whole (ending_line why) new) (sym (e.due.status_is out other)) says;
        said = behind (ending_line why) (e.words.said out other);
      })

  line_cut : IsCut (ending_line why) memory_line mid new → SaysPart p old new
  line_cut (n, inl is) = record {
    meant = status_of why;
    whole = whole;
    last = ending_line why;
    says = says;
    count = n;
    said = behind (take n (ending_line why)) is;
  }
  line_cut (n, inr is) = record {
    meant = status.Memory;
    whole = whole;
    last = memory_line;
    says = memory;
    count = n;
    said = behind (take n memory_line) is;
  }

  pub line_said : (s : Status) → IsEnded why mid new s → IsSaid p old new s
  line_said s e = said_by p old new s (line_both s e) (λ is. inl (line_cut (e.words.cut is)))

-- the line of an ending alone
pub line_kept : (p : Promise) (why : Ending) (old new : Content) (s : Status)
    → p.Says (status_of why) [] (ending_line why) new → p.Says status.Memory [] memory_line new
    → ((d : Status) → p.Due d → d ≡ status_of why)
    → p.Leaves new s → p.Crashes new → IsEnded why old new s → IsKept p old new s
line_kept p why old new s says memory due leaves crashes e = record {
  said = line_said p why old old new [] (sym (append-nil old.now.said)) says memory s e;
  due = λ d is out. due_of why s d e.due (due d is) out;
  leaves = leaves;
  crashes = crashes;
}

-- ---- a script

not_done : (why : Ending) → IsPlayEnding why → status.Done ≡ status_of why → ⊥
not_done (ending.Line number why) is same = cc
not_done ending.Fault is same = cc
not_done ending.NoMemory is same = cc
not_done ending.Full is same = cc
not_done (ending.Device wrong) is same = cc
not_done ending.Words is same = absurd is
not_done (ending.Missing name) is same = absurd is
not_done (ending.TooLong name) is same = absurd is
not_done (ending.Schema number why) is same = absurd is
not_done (ending.Equation number why) is same = absurd is
not_done (ending.Type number why) is same = absurd is
not_done ending.TextsTooLong is same = absurd is
not_done (ending.Accepted summary) is same = absurd is
not_done (ending.Made blocks pages) is same = absurd is

-- after Done the script was heard to its end, where it was after the play
pub heard_all : (mid new : Content) (s : Status) (played : Result (Unit {0}) Ending)
    → IfErr played IsPlayEnding → (played ≡ Ok tt → mid.script ≡ []) → IsFinished played mid new s
    → s ≡ status.Done → new.script ≡ []
heard_all mid new s (Ok x) ends all (done, same) is = ap (λ (c : Content). c.script) same ∙ all refl
heard_all mid new s (Err why) ends all e is =
    absurd (not_done why ends (sym is ∙ e.due.status_is (λ f. never_out (sym is ∙ f))
    (λ f. never_memory (sym is ∙ f))))
  where
    never_out : status.Done ≡ status.Outside → ⊥
    never_out f = cc

    never_memory : status.Done ≡ status.Memory → ⊥
    never_memory f = cc

-- A play's answers, and the line of its end behind them.
module _ {M : Type 0} (P : Play M) (start : State) (law : IsLawful P start)
    (Holds : State → Type 0) where
  -- the answers that stand whole, and what may stand behind them
  pub record Answers (before mid : List ℕ) (s : Status) (line : List ℕ) : Type 0 where
    pub answers : List ℕ
    pub final : M
    pub said : mid ≡ before ++ answers
    pub ends : EndsWith P s answers final line
    pub memory : EndsWith P status.Memory answers final memory_line
    pub holds : Holds (P.kept final)

  -- how the play ended, before the line of the end was said
  pub answers_of : (before mid : List ℕ) (why : Ending)
      → IsPlayedOf P Holds before mid (Err why)
      → Answers before mid (status_of why) (ending_line why)
      ⊎ ((why ≡ ending.Fault) × SaysFrontOf P Holds before mid)
  answers_of before mid (ending.Line number why) out = inl (record {
    answers = out.answers;
    final = out.final;
    said = out.said;
    ends = (number, why, out.stands, refl);
    memory = (law.ends_first (stopped number why) out.answers out.final out.stands, refl);
    holds = out.holds;
  })
  answers_of before mid ending.NoMemory out = inl (record {
    answers = out.answers;
    final = out.final;
    said = out.said;
    ends = (out.stands, refl);
    memory = (out.stands, refl);
    holds = out.holds;
  })
  answers_of before mid ending.Full out = inl (record {
    answers = out.answers;
    final = out.final;
    said = out.said;
    ends = (out.stands, refl);
    memory = (law.full_first out.answers out.final out.stands, refl);
    holds = out.holds;
  })
  answers_of before mid ending.Fault out = inr (refl, out)
  answers_of before mid ending.Words out = absurd out
  answers_of before mid (ending.Missing name) out = absurd out
  answers_of before mid (ending.TooLong name) out = absurd out
  answers_of before mid (ending.Schema number why) out = absurd out
  answers_of before mid (ending.Equation number why) out = absurd out
  answers_of before mid (ending.Type number why) out = absurd out
  answers_of before mid ending.TextsTooLong out = absurd out
  answers_of before mid (ending.Accepted summary) out = absurd out
  answers_of before mid (ending.Device wrong) out = absurd out
  answers_of before mid (ending.Made blocks pages) out = absurd out

  due_done : (s : Status) (answers line : List ℕ) (m : M) → EndsWith P s answers m line
      → IsDueOf P status.Done → s ≢ status.Outside → (s ≡ status.Done) ⊎ (s ≡ status.Memory)
  due_done status.Done answers line m ends due out = inl refl
  due_done status.Memory answers line m ends due out = inr refl
  due_done status.Script answers line m ends due out =
      absurd (law.one_end due.1 answers due.2 m ends.0 ends.1 due.3 ends.2)
  due_done status.Full answers line m ends due out = absurd (due.0 answers m ends.0)
  due_done status.Refused answers line m ends due out = absurd ends
  due_done status.Device answers line m ends due out = absurd ends
  due_done status.Outside answers line m ends due out = absurd (out refl)

  due_script : (s : Status) (answers line : List ℕ) (m : M) → EndsWith P s answers m line
      → IsDueOf P status.Script → s ≢ status.Outside → (s ≡ status.Script) ⊎ (s ≡ status.Memory)
  due_script status.Script answers line m ends due out = inl refl
  due_script status.Memory answers line m ends due out = inr refl
  due_script status.Done answers line m ends due out =
      absurd (law.one_end answers due.3 m due.4 due.1 due.2 ends.0 due.5)
  due_script status.Full answers line m ends due out = absurd (due.0 answers m ends.0)
  due_script status.Refused answers line m ends due out = absurd ends
  due_script status.Device answers line m ends due out = absurd ends
  due_script status.Outside answers line m ends due out = absurd (out refl)

  pub due_play : (s d : Status) (answers line : List ℕ) (m : M) → EndsWith P s answers m line
      → IsDueOf P d → s ≢ status.Outside → (s ≡ d) ⊎ (s ≡ status.Memory)
  due_play s status.Done answers line m ends due out = due_done s answers line m ends due out
  due_play s status.Script answers line m ends due out = due_script s answers line m ends due out
  due_play s status.Refused answers line m ends due out = absurd due
  due_play s status.Full answers line m ends due out = absurd due
  due_play s status.Device answers line m ends due out = absurd due
  due_play s status.Memory answers line m ends due out = absurd due
  due_play s status.Outside answers line m ends due out = absurd due

  -- a promise of the play, said with the line of its end
  module _ (p : Promise) (old mid new : Content)
      (says : (s : Status) (answers line : List ℕ) (m : M) → EndsWith P s answers m line
      → Holds (P.kept m) → p.Says s answers line new)
      (due : (d : Status) → p.Due d → IsDueOf P d) where
    pub finished_said : (played : Result (Unit {0}) Ending) (s : Status)
        → IsPlayedOf P Holds old.now.said mid.now.said played
        → (SaysFrontOf P Holds old.now.said new.now.said → SaysBroken p old new)
        → IsFinished played mid new s → IsSaid p old new s
    finished_said (Ok x) s out broken (done, same) =
        said_by p old new s (λ other. record {
          whole = out.answers;
          last = [];
          says = says s out.answers [] out.final
              (subst (λ k. EndsWith P k out.answers out.final []) (sym done) (out.stands, refl))
              out.holds;
          said = ap (λ (c : Content). c.now.said) same ∙ out.said
              ∙ ap (λ t. old.now.said ++ t) (sym (append-nil out.answers));
        }) (λ is. absurd (not_outside (sym done ∙ is)))
      where
        not_outside : status.Done ≡ status.Outside → ⊥
        not_outside e = cc
    finished_said (Err why) s out broken e = by_answers (answers_of old.now.said mid.now.said why out)
      where
        by_answers : Answers old.now.said mid.now.said (status_of why) (ending_line why)
            ⊎ ((why ≡ ending.Fault) × SaysFrontOf P Holds old.now.said mid.now.said)
            → IsSaid p old new s
        by_answers (inl a) =
            line_said p why old mid new a.answers a.said
            (says (status_of why) a.answers (ending_line why) a.final a.ends a.holds)
            (says status.Memory a.answers memory_line a.final a.memory a.holds) s e
        by_answers (inr (fault, front)) =
            said_by p old new s (λ other. absurd (other (e.due.fault fault)))
            (λ is. inr (broken
            (subst (λ t. SaysFrontOf P Holds old.now.said t)
            (sym (e.words.silent fault)) front)))

    pub finished_due : (played : Result (Unit {0}) Ending) (s : Status)
        → IsPlayedOf P Holds old.now.said mid.now.said played
        → IsFinished played mid new s → (d : Status) → p.Due d → s ≢ status.Outside
        → (s ≡ d) ⊎ (s ≡ status.Memory)
    finished_due (Ok x) s out (done, same) d is firm =
        due_play s d out.answers [] out.final
        (subst (λ k. EndsWith P k out.answers out.final []) (sym done) (out.stands, refl))
        (due d is) firm
    finished_due (Err why) s out e d is firm = by_answers (answers_of old.now.said mid.now.said why out)
      where
        by_answers : Answers old.now.said mid.now.said (status_of why) (ending_line why)
            ⊎ ((why ≡ ending.Fault) × SaysFrontOf P Holds old.now.said mid.now.said)
            → (s ≡ d) ⊎ (s ≡ status.Memory)
        by_answers (inl a) =
            by_memory s (λ is. inr is) (λ other. due_play s d a.answers (ending_line why) a.final
            (subst (λ k. EndsWith P k a.answers a.final (ending_line why))
            (sym (e.due.status_is firm other)) a.ends) (due d is) firm)
        by_answers (inr (fault, front)) = absurd (firm (e.due.fault fault))
