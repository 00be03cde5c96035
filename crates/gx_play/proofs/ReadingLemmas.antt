-- Lines that are read one behind the other.
use Rattle.std.proofs.Common.{◌≡◌, ℕ, ◌+◌, List, [], ◌∷◌, ◌++◌, length, Bool, false, Some, None, Result, Ok, Err, refl, sym, ap, subst, ◌∙◌}
use Rattle.std.specs.Prelude.{OnOk}
use Rattle.std.proofs.lemmas.List.{append-nil, length-append}
use Rattle.gx_schema.specs.declared.schema.Schema.{Schema}
use Rattle.gx_commands.specs.declared.command.LineWhy.{LineWhy}
use Rattle.gx_commands.specs.Lines.{Lines, with_line, no_lines, script_lines}
use Rattle.gx_reader.specs.declared.reader.LineReader.{LineReader}
use Rattle.gx_reader.specs.Reader.{meant, number_of}
use Rattle.gx_ports.specs.declared.stop.Stop.TheVariants as stop
use Rattle.gx_model.specs.Play.{good, stopped, end_at}
use Rattle.gx_play.specs.declared.ending.Ending.{Ending}
use Rattle.gx_play.specs.declared.play.PlayEnd.{PlayEnd}
use Rattle.gx_play.specs.declared.play.PlayEnd.TheVariants as play_end
use Rattle.gx_play.specs.Asked.{inside_behind}
use Rattle.gx_play.specs.Plays.{IsBadAt, IsLineEnd, IsEndingOf}
use Rattle.gx_play.specs.ScriptEnds.{AreGood, IsLinesEnd, IsScriptEnd}
use Rattle.gx_play.specs.Readings.{IsReadLine, IsReadTo, IsReadOut, IsReadOn, EndsAs}
use Rattle.gx_play.proofs.PlayLemmas.{parts_more}

-- of two facts the first, and the second
pub ok_first : {T E : Type 0} (P Q : Type 0) (result : Result T E) → OnOk result (P × Q)
    → OnOk result P
ok_first P Q (Ok x) both = both.0
ok_first P Q (Err e) both = tt

pub ok_second : {T E : Type 0} (P Q : Type 0) (result : Result T E) → OnOk result (P × Q)
    → OnOk result Q
ok_second P Q (Ok x) both = both.1
ok_second P Q (Err e) both = tt

-- one good line more
good_more : (schema : Schema) (begun inside behind : Bool) (ran : List (List ℕ)) (line : List ℕ)
    → AreGood schema begun ran inside → IsReadLine schema line inside behind
    → AreGood schema begun (ran ++ line ∷ []) behind
good_more schema begun inside behind [] line before read =
    subst (λ (b : Bool). AreGood schema b (line ∷ []) behind) before
    (read.asked, read.means, read.behind_is)
good_more schema begun inside behind (first ∷ ran) line before read = (
  before.0,
  before.1,
  good_more schema (inside_behind begun before.0) inside behind ran line before.2 read,
)

pub read_new : (schema : Schema) (begun : Bool) (script : List ℕ) (reader : LineReader)
    → ((s : List ℕ) → meant reader s ≡ script_lines s) → number_of reader ≡ 0
    → IsReadTo schema begun (script_lines script) (meant reader script) (number_of reader) begun
read_new schema begun script reader lines number = record {
  ran = [];
  many = sym number;
  lines_are = ap (λ (ls : Lines). ls.lines) (sym (lines script));
  stop_is = ap (λ (ls : Lines). ls.stop) (sym (lines script));
  good = refl;
}

pub read_line : (schema : Schema) (begun : Bool) (all before left : Lines) (number next : ℕ)
    (line : List ℕ) (inside behind : Bool) → before ≡ with_line line left → next ≡ number + 1
    → IsReadTo schema begun all before number inside → IsReadLine schema line inside behind
    → IsReadTo schema begun all left next behind
read_line schema begun all before left number next line inside behind before_is next_is so read =
    record {
      ran = so.ran ++ line ∷ [];
      many = length-append so.ran (line ∷ []) ∙ ap (λ n. n + 1) so.many ∙ sym next_is;
      lines_are = parts_more all before left so.ran line so.lines_are before_is;
      stop_is = so.stop_is ∙ ap (λ (ls : Lines). ls.stop) before_is;
      good = good_more schema begun inside behind so.ran line so.good read;
    }

-- the next line can't be had
pub read_end : (schema : Schema) (begun : Bool) (all left : Lines) (number : ℕ) (inside : Bool)
    (end : PlayEnd) (result : Result (Unit {0}) PlayEnd)
    → IsReadTo schema begun all left number inside → result ≡ Err end → IsLineEnd left number end
    → (behind : Lines) (many : ℕ) (then : Bool)
    → IsReadOn schema begun all behind many then result
read_end schema begun all left number inside (play_end.Line n reason) result so result_is is behind
    many then =
    subst (IsReadOn schema begun all behind many then) (sym result_is) (record {
      ran = so.ran;
      next = Err reason;
      first = (
        so.lines_are ∙ ap (λ (ls : Lines). so.ran ++ ls.lines) is.1 ∙ append-nil so.ran,
        so.stop_is ∙ ap (λ (ls : Lines). ls.stop) is.1,
      );
      inside = inside;
      good = so.good;
      ends = ap (λ k. stopped k reason) (is.0 ∙ ap (λ k. k + 1) (sym so.many));
    })
read_end schema begun all left number inside (play_end.Stop stop) result so result_is is behind many
    then = absurd is

-- the next line is bad
pub read_bad : (schema : Schema) (begun : Bool) (all before left : Lines) (number next : ℕ)
    (line : List ℕ) (inside : Bool) (end : PlayEnd) (result : Result (Unit {0}) PlayEnd)
    → before ≡ with_line line left → next ≡ number + 1
    → IsReadTo schema begun all before number inside → result ≡ Err end
    → ((n : ℕ) (reason : LineWhy) → end ≡ play_end.Line n reason
    → IsBadAt schema inside next line n reason) → (behind : Lines) (many : ℕ) (then : Bool)
    → IsReadOn schema begun all behind many then result
read_bad schema begun all before left number next line inside (play_end.Line n reason) result
    before_is next_is so result_is bad behind many then =
    subst (IsReadOn schema begun all behind many then) (sym result_is) (record {
      ran = so.ran;
      next = Ok (Some line);
      first = (
        left.lines,
        so.lines_are ∙ ap (λ (ls : Lines). so.ran ++ ls.lines) before_is,
      );
      inside = inside;
      good = so.good;
      ends = (
        reason,
        (bad n reason refl).1,
        ap (λ k. stopped k reason)
            ((bad n reason refl).0 ∙ next_is ∙ ap (λ k. k + 1) (sym so.many)),
      );
    })
read_bad schema begun all before left number next line inside (play_end.Stop stop) result before_is
    next_is so result_is bad behind many then =
    subst (IsReadOn schema begun all behind many then) (sym result_is) tt

-- a line, by the clauses of its play
pub read_on : (schema : Schema) (begun : Bool) (all before left : Lines) (number next : ℕ)
    (line : List ℕ) (inside behind : Bool) (result : Result (Unit {0}) PlayEnd)
    → before ≡ with_line line left → next ≡ number + 1
    → IsReadTo schema begun all before number inside
    → OnOk result (IsReadLine schema line inside behind)
    → ((n : ℕ) (reason : LineWhy) → result ≡ Err (play_end.Line n reason)
    → IsBadAt schema inside next line n reason)
    → IsReadOn schema begun all left next behind result
read_on schema begun all before left number next line inside behind (Ok x) before_is next_is so read
    bad =
    read_line schema begun all before left number next line inside behind before_is next_is so read
read_on schema begun all before left number next line inside behind (Err end) before_is next_is so
    read bad =
    read_bad schema begun all before left number next line inside end (Err end) before_is next_is so
    refl (λ n reason is. bad n reason (ap Err is)) left next behind

-- behind the last line
pub read_shut : (schema : Schema) (begun : Bool) (all left : Lines) (number many : ℕ)
    (inside within : Bool) → IsReadTo schema begun all left number inside → left ≡ no_lines
    → inside ≡ within → many ≡ number → IsLinesEnd schema begun all (end_at many within)
read_shut schema begun all left number many inside within so left_is is many_is = record {
  ran = so.ran;
  next = Ok None;
  first = (
    so.lines_are ∙ ap (λ (ls : Lines). so.ran ++ ls.lines) left_is ∙ append-nil so.ran,
    so.stop_is ∙ ap (λ (ls : Lines). ls.stop) left_is,
  );
  inside = inside;
  good = so.good;
  ends = ap (λ n. end_at n within) (many_is ∙ sym so.many)
      ∙ ap (end_at (length so.ran)) (sym is);
}

-- the end of a script's play, on an engine with no open transaction
pub read_as : (schema : Schema) (begun : Bool) (script : List ℕ)
    (played : Result (Unit {0}) PlayEnd) (result : Result (Unit {0}) Ending)
    → IsEndingOf played result → begun ≡ false → IsReadOut schema begun (script_lines script) played
    → EndsAs (IsScriptEnd schema script) result
read_as schema begun script (Ok x) result is shut read =
    subst (EndsAs (IsScriptEnd schema script)) (sym is)
    (subst (λ (b : Bool). IsLinesEnd schema b (script_lines script) good) shut read)
read_as schema begun script (Err (play_end.Line number reason)) result is shut read =
    subst (EndsAs (IsScriptEnd schema script)) (sym is)
    (subst (λ (b : Bool). IsLinesEnd schema b (script_lines script) (stopped number reason)) shut
    read)
read_as schema begun script (Err (play_end.Stop stop.NoMemory)) result is shut read =
    subst (EndsAs (IsScriptEnd schema script)) (sym is) tt
read_as schema begun script (Err (play_end.Stop stop.Full)) result is shut read =
    subst (EndsAs (IsScriptEnd schema script)) (sym is) tt
read_as schema begun script (Err (play_end.Stop stop.Fault)) result is shut read =
    subst (EndsAs (IsScriptEnd schema script)) (sym is) tt
read_as schema begun script (Err (play_end.Stop (stop.Damaged block))) result is shut read =
    subst (EndsAs (IsScriptEnd schema script)) (sym is) tt
