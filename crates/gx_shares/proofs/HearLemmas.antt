-- The play of a script of turns that is heard in pieces.
use Rattle.std.proofs.Common.{◌≡◌, ℕ, List, [], ◌++◌, Result, Ok, Err, sym, subst}
use Rattle.gx_device.specs.Content.{Content, Listens}
use Rattle.gx_schema.specs.declared.schema.Schema.{Schema}
use Rattle.gx_commands.specs.Lines.{script_lines}
use Rattle.gx_reader.specs.declared.reader.LineReader.{LineReader}
use Rattle.gx_reader.specs.Reader.{meant, number_of}
use Rattle.gx_ports.specs.Calm.{StaysKept}
use Rattle.gx_ports.specs.declared.stop.Stop.TheVariants as stop
use Rattle.gx_ports.specs.declared.view.View.{Ghosts}
use Rattle.gx_sessions.specs.declared.sessions.Sessions.{Sessions}
use Rattle.gx_sessions.specs.Turns.{leaves_of, IsSame}
use Rattle.gx_play.specs.declared.play.PlayEnd.{PlayEnd}
use Rattle.gx_play.specs.declared.play.PlayEnd.TheVariants as play_end
use Rattle.gx_play.specs.Readings.{EndsAs}
use Rattle.gx_shares.specs.Ends.{IsShareEnd}
use Rattle.gx_shares.specs.Going.{Over, IsGoing, PlaysPiece, PlaysRest, PlaysHeard, ended_as, IsReadTo}
use Rattle.gx_shares.specs.Reads.{ReadsPiece, ReadsRest}
use Rattle.gx_shares.proofs.GoingLemmas.{going_heard, over_unheard}
use Rattle.gx_shares.proofs.ReadLemmas.{read_same}

-- the play of a script, of which this text is still to come behind what was fed
abbrev pub ComesTo : {S : Type 0} → Ghosts S → LineReader → List ℕ → Sessions S → Sessions S → Type 0
ComesTo {S = S} g reader text old s =
    (o : Over S) → IsGoing g o (script_lines (g.content (leaves_of old)).script) 0 old
    → IsGoing g o (meant reader text) (number_of reader) s

-- nothing was heard yet
pub comes_first : {S : Type 0} (g : Ghosts S) (reader : LineReader) (s : Sessions S)
    → ((text : List ℕ) → meant reader text ≡ script_lines text) → number_of reader ≡ 0
    → ComesTo g reader (g.content (leaves_of s)).script s s
comes_first g reader s lines number o going =
    subst (λ n. IsGoing g o (meant reader (g.content (leaves_of s)).script) n s) (sym number)
    (subst (λ ls. IsGoing g o ls 0 s) (sym (lines (g.content (leaves_of s)).script)) going)

module _ {S : Type 0} (g : Ghosts S)
    (means : (l : S) (start : Content) → g.calm l start → StaysKept g l start)
    (goes_on : (l : S) (start : Content) → g.calm l start → g.calm l (g.content l))
    (reader : LineReader) (text : List ℕ) (old s f : Sessions S)
    (comes : ComesTo g reader text old s) (same : IsSame g s f)
    (listens : Listens (g.content (leaves_of s)) (g.content (leaves_of f))) where
  heard : ComesTo g reader text old f
  heard o going =
      going_heard g o means goes_on (meant reader text) (number_of reader) s f same listens
      (comes o going)

  heard_as : (other : List ℕ) → text ≡ other → ComesTo g reader other old f
  heard_as other is o going =
      subst (λ t. IsGoing g o (meant reader t) (number_of reader) f) is (heard o going)

  -- nothing more can be heard
  pub heard_fault : PlaysHeard g old f (Err (play_end.Stop stop.Fault))
  heard_fault o going = over_unheard g o (meant reader text) (number_of reader) f (heard o going)

  -- nothing more comes
  pub heard_rest : (new : Sessions S) (r : Result (Unit {0}) PlayEnd) → text ≡ []
      → PlaysRest g reader f new r → PlaysHeard g old new r
  heard_rest new r none plays o going = plays o (heard_as [] none o going)

  -- a piece was heard, and more comes behind it
  module _ (piece more : List ℕ) (then : LineReader) (new : Sessions S)
      (is : text ≡ piece ++ more) where
    pub heard_piece : PlaysPiece g piece reader then f new (Ok tt) → ComesTo g then more old new
    heard_piece plays o going = plays o more (heard_as (piece ++ more) is o going)

    pub heard_cut : (r : Result (Unit {0}) PlayEnd) (end : PlayEnd) → r ≡ Err end
        → PlaysPiece g piece reader then f new (Err end) → PlaysHeard g old new r
    heard_cut r end r_is plays =
        subst (PlaysHeard g old new) (sym r_is)
        (λ o going. plays o more (heard_as (piece ++ more) is o going))

-- ---- the lines alone

module _ {S : Type 0} (g : Ghosts S) (schema : Schema) (script : List ℕ) (reader : LineReader)
    (text : List ℕ) (s f : Sessions S) (same : IsSame g s f)
    (so : IsReadTo schema script (meant reader text) (number_of reader) s) where
  read_as : (other : List ℕ) → text ≡ other
      → IsReadTo schema script (meant reader other) (number_of reader) f
  read_as other is =
      subst (λ t. IsReadTo schema script (meant reader t) (number_of reader) f) is
      (read_same g schema script (meant reader text) (number_of reader) s f same so)

  pub read_rest : (r : Result (Unit {0}) PlayEnd) → text ≡ [] → ReadsRest reader f r
      → EndsAs (IsShareEnd schema script) (ended_as r)
  read_rest r none reads = reads schema script (read_as [] none)

  module _ (piece more : List ℕ) (then : LineReader) (new : Sessions S)
      (is : text ≡ piece ++ more) where
    pub read_piece : ReadsPiece piece reader then f new (Ok tt)
        → IsReadTo schema script (meant then more) (number_of then) new
    read_piece reads = reads schema script more (read_as (piece ++ more) is)

    pub read_cut : (r : Result (Unit {0}) PlayEnd) (end : PlayEnd) → r ≡ Err end
        → ReadsPiece piece reader then f new (Err end)
        → EndsAs (IsShareEnd schema script) (ended_as r)
    read_cut r end r_is reads =
        subst (λ k. EndsAs (IsShareEnd schema script) (ended_as k)) (sym r_is)
        (reads schema script more (read_as (piece ++ more) is))
