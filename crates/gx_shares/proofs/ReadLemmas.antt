-- Lines of turns that are read one behind the other, whatever state they are played from.
use Rattle.std.proofs.Common.{◌≡◌, inl, inr, ℕ, ◌+◌, ◌≤◌, List, [], ◌∷◌, Bool, true, false, Err, refl, sym, ap, subst, ◌∙◌, arith}
use Rattle.std.specs.Prelude.{◌||◌}
use Rattle.std.specs.List.{list_any}
use Rattle.gx_laws.specs.Members.{In}
use Rattle.gx_schema.specs.declared.schema.Schema.{Schema}
use Rattle.gx_commands.specs.declared.command.LineWhy.{LineWhy}
use Rattle.gx_commands.specs.Lines.{Lines, with_line, no_lines, script_lines}
use Rattle.gx_reader.specs.declared.reader.LineReader.{LineReader}
use Rattle.gx_reader.specs.Reader.{meant, number_of}
use Rattle.gx_ports.specs.declared.stop.Stop.{Stop}
use Rattle.gx_ports.specs.declared.stop.Stop.TheVariants as stop
use Rattle.gx_model.specs.Play.{stopped, end_at}
use Rattle.gx_model.specs.Languages.{IsPlayIn}
use Rattle.gx_sharing.specs.Sharing.{sessions}
use Rattle.gx_sessions.specs.declared.sessions.Sessions.{Sessions}
use Rattle.gx_ports.specs.declared.view.View.{Ghosts}
use Rattle.gx_sessions.specs.Turns.{schema_of, IsNumber, IsSame, is_in_at}
use Rattle.gx_play.specs.declared.play.PlayEnd.{PlayEnd}
use Rattle.gx_play.specs.declared.play.PlayEnd.TheVariants as play_end
use Rattle.gx_play.specs.Endings.{ending_of}
use Rattle.gx_play.specs.Plays.{IsLineEnd}
use Rattle.gx_play.specs.Readings.{EndsAs}
use Rattle.gx_shares.specs.Ends.{turn_lines, IsLineRead, IsLineBad, IsShareEnd}
use Rattle.gx_shares.specs.Going.{IsReadTo}
use Rattle.gx_shares.proofs.LineLemmas.{in_sessions}
use Rattle.gx_shares.proofs.RunLemmas.{runs_new, runs_line, plays_out, plays_stopped, plays_bad}

pub any_same : (f h : ℕ → Bool) → ((n : ℕ) → IsNumber n → f n ≡ h n)
    → list_any f sessions ≡ list_any h sessions
any_same f h same =
    let at = λ (n : ℕ) (least : 1 ≤ n) (most : n ≤ 8). same n (least, most) in
    let a : f 1 ≡ h 1 = at 1 (omega arith) (omega arith) in
    let b : f 2 ≡ h 2 = at 2 (omega arith) (omega arith) in
    let c : f 3 ≡ h 3 = at 3 (omega arith) (omega arith) in
    let d : f 4 ≡ h 4 = at 4 (omega arith) (omega arith) in
    let e : f 5 ≡ h 5 = at 5 (omega arith) (omega arith) in
    let x : f 6 ≡ h 6 = at 6 (omega arith) (omega arith) in
    let y : f 7 ≡ h 7 = at 7 (omega arith) (omega arith) in
    let z : f 8 ≡ h 8 = at 8 (omega arith) (omega arith) in
    λ i. a i || (b i || (c i || (d i || (e i || (x i || (y i || (z i || false)))))))

-- none is in one
pub none_in : (f : ℕ → Bool) → ((n : ℕ) → IsNumber n → f n ≡ false) → list_any f sessions ≡ false
none_in f out = any_same f (λ n. false) out

-- one is
pub one_in : (f : ℕ → Bool) (n : ℕ) → IsNumber n → f n ≡ true → list_any f sessions ≡ true
one_in f n number is = go sessions (in_sessions n number)
  where
    or_true : (b : Bool) → b || true ≡ true
    or_true true = refl
    or_true false = refl

    go : (ns : List ℕ) → In n ns → list_any f ns ≡ true
    go [] none = absurd none
    go (k ∷ ns) (inl e) = ap (λ (b : Bool). b || list_any f ns) (ap f (sym e) ∙ is)
    go (k ∷ ns) (inr later) = ap (λ (b : Bool). f k || b) (go ns later) ∙ or_true (f k)

-- a stop isn't an end of the lines
pub read_stop : (schema : Schema) (script : List ℕ) (why : Stop)
    → EndsAs (IsShareEnd schema script) (Err (ending_of (play_end.Stop why)))
read_stop schema script stop.Fault = tt
read_stop schema script stop.Full = tt
read_stop schema script stop.NoMemory = tt
read_stop schema script (stop.Damaged block) = tt

-- what was heard or said moves no session
pub read_same : {S : Type 0} (g : Ghosts S) (schema : Schema) (script : List ℕ) (left : Lines)
    (number : ℕ) (s f : Sessions S) → IsSame g s f → IsReadTo schema script left number s
    → IsReadTo schema script left number f
read_same g schema script left number s f same so = record {
  schema_is = same.engine.schema ∙ so.schema_is;
  answers = so.answers;
  within = so.within;
  runs = so.runs;
  stands = λ n is. rw (same.states) (so.stands n is);
}

module _ {S : Type 0} (schema : Schema) (script : List ℕ) where
  -- no line was read yet
  pub read_new : (reader : LineReader) (s : Sessions S)
      → ((text : List ℕ) → meant reader text ≡ script_lines text) → number_of reader ≡ 0
      → schema_of s ≡ schema → ((n : ℕ) → IsNumber n → is_in_at s n ≡ false)
      → IsReadTo schema script (meant reader script) (number_of reader) s
  read_new reader s lines number schema_is out = record {
    schema_is = schema_is;
    answers = [];
    within = λ n. false;
    runs = runs_new (turn_lines schema) (λ n. false) script reader lines number;
    stands = out;
  }

  pub read_line : (before left : Lines) (number next : ℕ) (line : List ℕ) (s new : Sessions S)
      → before ≡ with_line line left → next ≡ number + 1 → schema_of new ≡ schema_of s
      → (so : IsReadTo schema script before number s) (behind : ℕ → Bool)
      → IsLineRead (schema_of s) so.within line behind
      → ((n : ℕ) → IsNumber n → is_in_at new n ≡ behind n) → IsReadTo schema script left next new
  read_line before left number next line s new before_is next_is same so behind read stands =
      record {
        schema_is = same ∙ so.schema_is;
        answers = _;
        within = behind;
        runs = runs_line (turn_lines schema) (λ n. false) (script_lines script) before left number
            next line so.answers [] so.within behind before_is next_is so.runs
            (refl, subst (λ (k : Schema). IsLineRead k so.within line behind) so.schema_is read);
        stands = stands;
      }

  -- the next line can't be had
  pub read_end : (left : Lines) (number : ℕ) (s : Sessions S) → IsReadTo schema script left number s
      → (end : PlayEnd) → IsLineEnd left number end
      → EndsAs (IsShareEnd schema script) (Err (ending_of end))
  read_end left number s so (play_end.Line n reason) is = (
    so.answers,
    so.within,
    plays_stopped (turn_lines schema) (λ n. false) (script_lines script) left number n reason
        so.answers so.within so.runs is.0 is.1,
  )
  read_end left number s so (play_end.Stop stop) is = absurd is

  -- it is bad
  pub read_bad : (before left : Lines) (number n : ℕ) (line : List ℕ) (reason : LineWhy)
      (s : Sessions S) → before ≡ with_line line left → n ≡ number + 1
      → (so : IsReadTo schema script before number s)
      → IsLineBad (schema_of s) so.within line reason
      → IsShareEnd schema script (stopped n reason)
  read_bad before left number n line reason s before_is n_is so bad = (
    so.answers,
    so.within,
    plays_bad (turn_lines schema) (λ n. false) (script_lines script) before left number n line
        reason so.answers so.within before_is n_is so.runs
        (subst (λ (k : Schema). IsLineBad k so.within line reason) so.schema_is bad),
  )

  -- none is left
  pub read_out : (left : Lines) (number : ℕ) (s : Sessions S) (some : Bool)
      → IsReadTo schema script left number s → left ≡ no_lines
      → list_any (is_in_at s) sessions ≡ some → IsShareEnd schema script (end_at number some)
  read_out left number s some so left_is is = (
    so.answers,
    so.within,
    subst (λ (b : Bool). IsPlayIn (turn_lines schema) (λ n. false) (script_lines script) so.answers
        so.within (end_at number b)) (sym (any_same (is_in_at s) so.within so.stands) ∙ is)
        (plays_out (turn_lines schema) (λ n. false) (script_lines script) left number so.answers
        so.within so.runs left_is),
  )
