-- The loop over the lines of a script that is explained.
use Rattle.std.proofs.Common.{◌≡◌, ℕ, ◌+◌, List, [], ◌∷◌, ◌++◌, length, take, Bool, false, Result, Ok, Err, Option, Some, None, refl, sym, ap, subst, ◌∙◌, arith}
use Rattle.std.proofs.lemmas.List.{append-nil, append_assoc, length-append, take_all}
use Rattle.std.proofs.Math.Seq.{take-append-add}
use Rattle.gx_device.specs.Content.{Content}
use Rattle.gx_ports.specs.declared.stop.Stop.{Stop}
use Rattle.gx_ports.specs.declared.stop.Stop.TheVariants as stop
use Rattle.gx_schema.specs.declared.schema.Schema.{Schema}
use Rattle.gx_commands.specs.declared.command.LineWhy.{LineWhy}
use Rattle.gx_commands.specs.Lines.{Lines, with_line, no_lines, script_lines, stopped as stopped_lines}
use Rattle.gx_reader.specs.declared.reader.LineReader.{LineReader}
use Rattle.gx_reader.specs.Reader.{meant, number_of}
use Rattle.gx_model.specs.Play.{End, good, stopped}
use Rattle.gx_model.specs.Languages.{AreFirstLines}
use Rattle.gx_play.specs.Asked.{IsBadLine, inside_behind}
use Rattle.gx_explain.specs.declared.explanation.ExplainedLine.{ExplainedLine}
use Rattle.gx_play.specs.declared.play.PlayEnd.{PlayEnd}
use Rattle.gx_play.specs.declared.play.PlayEnd.TheVariants as play_end
use Rattle.gx_play.specs.Plays.{IsBadAt, IsLineEnd}
use Rattle.gx_play.specs.Played.{SaysText, SaysFront}
use Rattle.gx_play.proofs.PlayLemmas.{parts_more}
use Rattle.gx_explain.specs.Explained.{asked_text, AreExplained, IsExplainEnd, IsExplainedTo, AreFirstExplained}
use Rattle.gx_explain.specs.Explaining.{IsLineExplained, SaysPlans, IsSoFar, HasEndCause}

module _ (schema : Schema) (indexed : ℕ → List Bool) where
  -- ---- lines one behind the other

  explained_on : (first later : List (List ℕ)) (number : ℕ) (inside mid final : Bool)
      (text more : List ℕ)
      → AreExplained schema indexed number inside first text mid
      → AreExplained schema indexed (number + length first) mid later more final
      → AreExplained schema indexed number inside (first ++ later) (text ++ more) final
  explained_on [] later number inside mid final text more (none, same) behind =
      subst (λ t. AreExplained schema indexed number inside later (t ++ more) final) (sym none)
      (subst (λ b. AreExplained schema indexed number b later more final) same
      (subst (λ n. AreExplained schema indexed n mid later more final)
      (let e : number + length {A = List ℕ} [] ≡ number = omega arith in e) behind))
  explained_on (line ∷ first) later number inside mid final text more
      (a, rest, means, front, is) behind = (
        a,
        rest ++ more,
        means,
        explained_on first later (number + 1) (inside_behind inside a) mid final rest more
            front
            (subst (λ n. AreExplained schema indexed n mid later more final)
            (let e : number + length (line ∷ first) ≡ number + 1 + length first = omega arith in
            e) behind),
        ap (λ t. t ++ more) is ∙ append_assoc (asked_text schema indexed number a) rest
            more,
      )

  -- ---- so far

  pub at_start : (all : Lines) (old : Content) → IsSoFar schema indexed all all 0 false old old
  at_start all old = record {
    ran = [];
    many = refl;
    lines_are = refl;
    stop_is = refl;
    text = [];
    explained = (refl, refl);
    said = sym (append-nil _);
  }

  -- one line more
  one_more : (ran : List (List ℕ)) (number : ℕ) (inside : Bool) (text line : List ℕ)
      (x : ExplainedLine)
      → length ran ≡ number → AreExplained schema indexed 1 false ran text inside
      → IsLineExplained schema indexed inside (number + 1) line x
      → AreExplained schema indexed 1 false (ran ++ line ∷ []) (text ++ x.text) x.inside
  one_more ran number inside text line x many explained is =
      let one : AreExplained schema indexed (number + 1) inside (line ∷ []) x.text x.inside
      = (is.asked, [], is.means, (refl, is.inside_is), is.text_is ∙ sym (append-nil _))
      in
      explained_on ran (line ∷ []) 1 false inside x.inside text x.text explained
      (subst (λ n. AreExplained schema indexed n inside (line ∷ []) x.text x.inside)
      (let e : number + 1 ≡ 1 + length ran = omega (arith, many) in e) one)

  pub after_line : (all before left : Lines) (number : ℕ) (inside : Bool) (line : List ℕ)
      (x : ExplainedLine)
      (old mid new : Content) → before ≡ with_line line left
      → IsSoFar schema indexed all before number inside old mid
      → IsLineExplained schema indexed inside (number + 1) line x
      → new.now.said ≡ mid.now.said ++ x.text
      → IsSoFar schema indexed all left (number + 1) x.inside old new
  after_line all before left number inside line x old mid new before_is so is said = record {
    ran = so.ran ++ line ∷ [];
    many = length-append so.ran (line ∷ []) ∙ ap (λ n. n + 1) so.many;
    lines_are = parts_more all before left so.ran line so.lines_are before_is;
    stop_is = so.stop_is ∙ ap (λ (ls : Lines). ls.stop) before_is;
    text = so.text ++ x.text;
    explained = one_more so.ran number inside so.text line x so.many so.explained is;
    said = said ∙ ap (λ t. t ++ x.text) so.said ∙ append_assoc _ so.text x.text;
  }

  -- ---- the end

  ended : (all left : Lines) (number : ℕ) (inside : Bool) (next : Result (Option (List ℕ)) LineWhy)
      (end : End)
      (old new : Content) → (so : IsSoFar schema indexed all left number inside old new)
      → AreFirstLines all so.ran next
      → IsExplainEnd schema inside number next end
      → SaysText (IsExplainedTo schema indexed all end) old new
  ended all left number inside next end old new so first ends = (
    so.text,
    record {
      ran = so.ran;
      next = next;
      first = first;
      inside = inside;
      explained = so.explained;
      ends = subst
          (λ n. IsExplainEnd schema inside n next end) (sym so.many) ends;
    },
    so.said,
  )

  -- no more lines are left
  all_ran : (all left : Lines) (number : ℕ) (inside : Bool) (stop : Option LineWhy)
      (old new : Content)
      → left ≡ record { lines = []; stop = stop }
      → (so : IsSoFar schema indexed all left number inside old new)
      → (all.lines ≡ so.ran) × (all.stop ≡ stop)
  all_ran all left number inside stop old new left_is so = (
    so.lines_are ∙ ap (λ (ls : Lines). so.ran ++ ls.lines) left_is ∙ append-nil so.ran,
    so.stop_is ∙ ap (λ (ls : Lines). ls.stop) left_is,
  )

  pub at_end : (all left : Lines) (number : ℕ) (inside : Bool) (old new : Content)
      → IsSoFar schema indexed all left number inside old new → left ≡ no_lines
      → SaysText (IsExplainedTo schema indexed all good) old new
  at_end all left number inside old new so left_is =
      ended all left number inside (Ok None) good old new so
      (all_ran all left number inside None old new left_is so) refl

  -- where the line behind can't be had
  at_stop : (all left : Lines) (number n : ℕ) (inside : Bool) (reason : LineWhy) (old new : Content)
      → IsSoFar schema indexed all left number inside old new → n ≡ number + 1
      → left ≡ stopped_lines reason
      → SaysText (IsExplainedTo schema indexed all (stopped n reason)) old new
  at_stop all left number n inside reason old new so n_is left_is =
      ended all left number inside (Err reason) (stopped n reason) old new so
      (all_ran all left number inside (Some reason) old new left_is so)
      (ap (λ k. stopped k reason) n_is)

  pub at_line_end : (all left : Lines) (number : ℕ) (inside : Bool) (end : PlayEnd)
      (result : Result (Unit {0}) PlayEnd) (old new : Content)
      → IsSoFar schema indexed all left number inside old new
      → result ≡ Err end → IsLineEnd left number end → SaysPlans schema indexed all old new result
  at_line_end all left number inside (play_end.Line n reason) result old new so result_is is =
      subst (λ r. SaysPlans schema indexed all old new r) (sym result_is)
      (at_stop all left number n inside reason old new so is.0 is.1)
  at_line_end all left number inside (play_end.Stop stop) result old new so result_is is = absurd is

  -- at a line that means neither a path nor a command that may stand there
  at_bad_line : (all before left : Lines) (number : ℕ) (inside : Bool) (line : List ℕ)
      (reason : LineWhy)
      (old new : Content) → before ≡ with_line line left
      → IsSoFar schema indexed all before number inside old new
      → IsBadLine schema inside line reason
      → SaysText (IsExplainedTo schema indexed all (stopped (number + 1) reason)) old new
  at_bad_line all before left number inside line reason old new before_is so bad =
      ended all before number inside (Ok (Some line)) (stopped (number + 1) reason) old new so
      (left.lines, so.lines_are ∙ ap (λ (ls : Lines). so.ran ++ ls.lines) before_is)
      (reason, bad, refl)

  first_so_far : (all left : Lines) (number : ℕ) (inside : Bool) (old new : Content)
      → (so : IsSoFar schema indexed all left number inside old new)
      → AreFirstExplained schema indexed all so.text
  first_so_far all left number inside old new
      so = record {
        ran = so.ran;
        later = left.lines;
        parts = so.lines_are;
        inside = inside;
        explained = so.explained;
      }

  -- where nothing is said of a line
  pub at_line : (all before left : Lines) (number : ℕ) (inside : Bool) (line : List ℕ)
      (end : PlayEnd)
      (result : Result (Unit {0}) PlayEnd) (old new : Content) → before ≡ with_line line left
      → IsSoFar schema indexed all before number inside old new → result ≡ Err end
      → ((n : ℕ) (reason : LineWhy) → end ≡ play_end.Line n reason
      → IsBadAt schema inside (number + 1) line n reason)
      → ((why : Stop) → end ≡ play_end.Stop why → why ≡ stop.NoMemory)
      → SaysPlans schema indexed all old new result
  at_line all before left number inside line (play_end.Line n reason) result old new before_is so
      result_is bad unread =
      let at = bad n reason refl in
      subst (λ r. SaysPlans schema indexed all old new r) (sym result_is)
      (subst (λ k. SaysText (IsExplainedTo schema indexed all (stopped k reason)) old new)
      (sym at.0)
      (at_bad_line all before left number inside line reason old new before_is so at.1))
  at_line all before left number inside line (play_end.Stop why) result old new before_is so
      result_is bad unread =
      subst (λ r. SaysPlans schema indexed all old new r)
      (sym (result_is ∙ ap (λ s. Err (play_end.Stop s)) (unread why refl)))
      (so.text, first_so_far all before number inside old new so, so.said)

  -- where saying the plan of a line failed
  pub at_fault : (all before left : Lines) (number n : ℕ) (inside : Bool) (line piece : List ℕ)
      (x : ExplainedLine) (old mid new : Content) → before ≡ with_line line left
      → IsSoFar schema indexed all before number inside old mid
      → IsLineExplained schema indexed inside (number + 1) line x
      → piece ≡ x.text → new.now.said ≡ mid.now.said ++ take n piece
      → SaysFront (AreFirstExplained schema indexed all) old new
  at_fault all before left number n inside line piece x old mid new before_is so is
      piece_is said = (
        so.text ++ x.text,
        record {
          ran = so.ran ++ line ∷ [];
          later = left.lines;
          parts = parts_more all before left so.ran line
              so.lines_are before_is;
          inside = x.inside;
          explained = one_more so.ran number inside so.text line x so.many so.explained is;
        },
        (
          length so.text + n,
          said ∙ ap (λ t. mid.now.said ++ take n t) piece_is ∙ ap (λ t. t ++ take n x.text) so.said
              ∙ append_assoc old.now.said so.text (take n x.text)
              ∙ ap (λ t. old.now.said ++ t) (sym (take-append-add so.text x.text n)),
        ),
      )

  -- where nothing could be heard
  pub at_unheard : (all left : Lines) (number : ℕ) (inside : Bool) (old mid new : Content)
      → IsSoFar schema indexed all left number inside old mid → new.now.said ≡ mid.now.said
      → SaysFront (AreFirstExplained schema indexed all) old new
  at_unheard all left number inside old mid new so same = (
    so.text,
    first_so_far all left number inside old mid so,
    (
      length so.text,
      same ∙ so.said ∙ ap (λ t. old.now.said ++ t) (sym (take_all (length so.text) so.text
          (omega arith))),
    ),
  )

  -- to hear says nothing
  pub still_so : (all left : Lines) (number : ℕ) (inside : Bool) (old mid new : Content)
      → IsSoFar schema indexed all left number inside old mid → new.now.said ≡ mid.now.said
      → IsSoFar schema indexed all left number inside old new
  still_so all left number inside old mid new so same = record {
    ran = so.ran;
    many = so.many;
    lines_are = so.lines_are;
    stop_is = so.stop_is;
    text = so.text;
    explained = so.explained;
    said = same ∙ so.said;
  }

  -- a new reader stands before the first line
  pub at_new : (script : List ℕ) (reader : LineReader) (old : Content)
      → ((t : List ℕ) → meant reader t ≡ script_lines t) → number_of reader ≡ 0
      → IsSoFar schema indexed (script_lines script) (meant reader script) (number_of reader) false
      old old
  at_new script reader old lines number =
      subst
      (λ n. IsSoFar schema indexed (script_lines script) (meant reader script) n false old old)
      (sym number)
      (subst (λ ls. IsSoFar schema indexed (script_lines script) ls 0 false old old)
      (sym (lines script)) (at_start (script_lines script) old))

-- a limit that is passed needs no cause
pub end_cause : (lines : Lines) (number : ℕ) (end : PlayEnd) (before now : ℕ)
    → IsLineEnd lines number end → HasEndCause before now end
end_cause lines number (play_end.Line n why) before now is = tt
end_cause lines number (play_end.Stop why) before now is = absurd is
