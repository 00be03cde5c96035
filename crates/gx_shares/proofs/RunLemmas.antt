-- Lines that run one behind the other, in any language.
use Rattle.std.proofs.Common.{◌≡◌, ℕ, ◌+◌, List, [], ◌∷◌, ◌++◌, Some, None, Ok, Err, Option, Result, refl, sym, ap, subst, ◌∙◌}
use Rattle.std.proofs.lemmas.List.{append-nil, append_assoc, length-append}
use Rattle.gx_commands.specs.declared.command.LineWhy.{LineWhy}
use Rattle.gx_commands.specs.Lines.{Lines, with_line, no_lines, stopped as stopped_lines, script_lines}
use Rattle.gx_reader.specs.declared.reader.LineReader.{LineReader}
use Rattle.gx_reader.specs.Reader.{meant, number_of}
use Rattle.gx_model.specs.Play.{End, stopped, end_at}
use Rattle.gx_model.specs.Languages.{Language, RunsIn, IsEndIn, AreFirstLines, IsPlayIn}
use Rattle.gx_model.proofs.LanguageLemmas.{IsDefinite, go_on}
use Rattle.gx_shares.specs.Going.{RunsTo}

module _ {M A : Type 0} (l : Language M A) (start : M) where
  -- no line ran yet
  pub runs_new : (script : List ℕ) (reader : LineReader)
      → ((s : List ℕ) → meant reader s ≡ script_lines s) → number_of reader ≡ 0
      → RunsTo l start (script_lines script) (meant reader script) (number_of reader) [] start
  runs_new script reader lines number = record {
    ran = [];
    many = sym number;
    lines_are = ap (λ (ls : Lines). ls.lines) (sym (lines script));
    stop_is = ap (λ (ls : Lines). ls.stop) (sym (lines script));
    runs = (refl, refl);
  }

  -- one line more
  pub runs_line : (all before left : Lines) (number next : ℕ) (line : List ℕ)
      (answers answer : List A) (now after : M) → before ≡ with_line line left → next ≡ number + 1
      → RunsTo l start all before number answers now → l.Goes now line answer after
      → RunsTo l start all left next (answers ++ answer) after
  runs_line all before left number next line answers answer now after before_is next_is so goes =
      record {
        ran = so.ran ++ line ∷ [];
        many = length-append so.ran (line ∷ []) ∙ ap (λ n. n + 1) so.many ∙ sym next_is;
        lines_are = so.lines_are ∙ ap (λ (ls : Lines). so.ran ++ ls.lines) before_is
            ∙ sym (append_assoc so.ran (line ∷ []) left.lines);
        stop_is = so.stop_is ∙ ap (λ (ls : Lines). ls.stop) before_is;
        runs = subst (λ (t : List A). RunsIn l start (so.ran ++ line ∷ []) (answers ++ t) after)
            (append-nil answer)
            (go_on l start now after so.ran (line ∷ []) answers (answer ++ []) so.runs
            (answer, [], after, goes, (refl, refl), refl));
      }

  ended : (all left : Lines) (number : ℕ) (next : Result (Option (List ℕ)) LineWhy)
      (answers : List A) (now : M) (end : End) → (so : RunsTo l start all left number answers now)
      → AreFirstLines all so.ran next → IsEndIn l now number next end
      → IsPlayIn l start all answers now end
  ended all left number next answers now end so first ends = record {
    ran = so.ran;
    next = next;
    first = first;
    runs = so.runs;
    ends = subst (λ (n : ℕ). IsEndIn l now n next end) (sym so.many) ends;
  }

  all_ran : (all left : Lines) (number : ℕ) (stop : Option LineWhy) (answers : List A) (now : M)
      → left ≡ record { lines = []; stop = stop }
      → (so : RunsTo l start all left number answers now)
      → (all.lines ≡ so.ran) × (all.stop ≡ stop)
  all_ran all left number stop answers now left_is so = (
    so.lines_are ∙ ap (λ (ls : Lines). so.ran ++ ls.lines) left_is ∙ append-nil so.ran,
    so.stop_is ∙ ap (λ (ls : Lines). ls.stop) left_is,
  )

  -- no line is left
  pub plays_out : (all left : Lines) (number : ℕ) (answers : List A) (now : M)
      → RunsTo l start all left number answers now → left ≡ no_lines
      → IsPlayIn l start all answers now (end_at number (l.is_open now))
  plays_out all left number answers now so left_is =
      ended all left number (Ok None) answers now (end_at number (l.is_open now)) so
      (all_ran all left number None answers now left_is so) refl

  -- the next line can't be had
  pub plays_stopped : (all left : Lines) (number n : ℕ) (reason : LineWhy) (answers : List A)
      (now : M) → RunsTo l start all left number answers now → n ≡ number + 1
      → left ≡ stopped_lines reason → IsPlayIn l start all answers now (stopped n reason)
  plays_stopped all left number n reason answers now so n_is left_is =
      ended all left number (Err reason) answers now (stopped n reason) so
      (all_ran all left number (Some reason) answers now left_is so)
      (ap (λ k. stopped k reason) n_is)

  -- it is bad
  pub plays_bad : (all before left : Lines) (number n : ℕ) (line : List ℕ) (reason : LineWhy)
      (answers : List A) (now : M) → before ≡ with_line line left → n ≡ number + 1
      → RunsTo l start all before number answers now → l.IsBad now line reason
      → IsPlayIn l start all answers now (stopped n reason)
  plays_bad all before left number n line reason answers now before_is n_is so bad =
      ended all before number (Ok (Some line)) answers now (stopped n reason) so
      (left.lines, so.lines_are ∙ ap (λ (ls : Lines). so.ran ++ ls.lines) before_is)
      (reason, bad, ap (λ k. stopped k reason) n_is)

-- lines run in one way in a language that is definite
pub runs_once : {M A : Type 0} (l : Language M A) → IsDefinite l → (p q r : M)
    (ran : List (List ℕ)) (a b : List A) → RunsIn l p ran a q → RunsIn l p ran b r
    → (a ≡ b) × (q ≡ r)
runs_once l one p q r [] a b x y = (x.0 ∙ sym y.0, x.1 ∙ sym y.1)
runs_once {M = M} l one p q r (line ∷ ran) a b x y =
    let first = one.goes_once p line x.0 y.0 x.2 y.2 x.3 y.3 in
    let rest = runs_once l one y.2 q r ran x.1 y.1
    (subst (λ (s : M). RunsIn l s ran x.1 q) first.1 x.4) y.4 in
    (x.5 ∙ (λ i. first.0 i ++ rest.0 i) ∙ sym y.5, rest.1)

-- lines that run are first ones that run, and others that run behind them
pub run_parts : {M A : Type 0} (l : Language M A) (p r : M) (a b : List (List ℕ)) (t : List A)
    → RunsIn l p (a ++ b) t r
    → (u : List A) × (v : List A) × (q : M) × RunsIn l p a u q × RunsIn l q b v r × (t ≡ u ++ v)
run_parts l p r [] b t run = ([], t, p, (refl, refl), run, refl)
run_parts {A = A} l p r (line ∷ a) b t run =
    let x = run_parts l run.2 r a b run.1 run.4 in (
      run.0 ++ x.0,
      x.1,
      x.2,
      (run.0, x.0, run.2, run.3, x.3, refl),
      x.4,
      run.5 ∙ ap (λ (us : List A). run.0 ++ us) x.5 ∙ sym (append_assoc run.0 x.0 x.1),
    )
