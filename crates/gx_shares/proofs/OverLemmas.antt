-- A script of turns over leaves: how the play starts, and what it leaves of them.
use Rattle.std.proofs.Common.{◌≡◌, ℕ, List, [], Bool, true, false, IsTrue, Result, Err, refl, sym, ap, subst, ◌∙◌, arith}
use Rattle.std.proofs.lemmas.Bool.{true≢false}
use Rattle.std.proofs.lemmas.List.{append-nil}
use Rattle.gx_device.specs.Content.{Content}
use Rattle.gx_device.specs.Crash.{EachImage}
use Rattle.gx_device.proofs.RunLemmas.{started}
use Rattle.gx_schema.specs.declared.schema.Schema.{Schema}
use Rattle.gx_commands.specs.Lines.{script_lines}
use Rattle.gx_ports.specs.Calm.{StaysKept, StandsForKept}
use Rattle.gx_ports.specs.declared.view.View.{Ghosts}
use Rattle.gx_ports.proofs.ImageLemmas.{prefix_both}
use Rattle.gx_types.specs.declared.built.Built.{Built}
use Rattle.gx_model.specs.States.{State}
use Rattle.gx_model.specs.Play.{start_at}
use Rattle.gx_engine.specs.declared.engine.Engine.{Engine}
use Rattle.gx_engine.specs.Crashes.{HoldsState}
use Rattle.gx_engine.specs.Moments.{AreInternal}
use Rattle.gx_engine.specs.Steps.{schema_of as engine_schema, built_of as engine_built, leaves_of as engine_leaves, Begins, IsAt}
use Rattle.gx_engine.proofs.CrashLemmas.{kept_state}
use Rattle.gx_sharing.specs.Sharing.{Sharing, share_start}
use Rattle.gx_sessions.specs.declared.sessions.Sessions.{Sessions}
use Rattle.gx_sessions.specs.Turns.{engine_of, leaves_of, AreShared}
use Rattle.gx_play.specs.declared.ending.Ending.{Ending}
use Rattle.gx_play.specs.declared.ending.Ending.TheVariants as ending
use Rattle.gx_play.specs.Endings.{is_fault}
use Rattle.gx_play.specs.Overs.{IsPlayedOf, IsImageOf, LeavesPlayOf}
use Rattle.gx_play.specs.Player.{Play}
use Rattle.gx_play.specs.Plays.{IsHolding, KeepsState, KeepsOver}
use Rattle.gx_shares.specs.Player.{share_over_play}
use Rattle.gx_shares.specs.Going.{Over, IsGoing, PlaysOut}
use Rattle.gx_shares.proofs.GoingLemmas.{going_first}

-- ---- the play

module _ {S : Type 0} (g : Ghosts S)
    (means : (l : S) (start : Content) → g.calm l start → StaysKept g l start)
    (goes_on : (l : S) (start : Content) → g.calm l start → g.calm l (g.content l))
    (schema : Schema) (built : Built) (s : State) (leaves left : S)
    (holds : IsHolding g schema built s leaves) (e : Engine S)
    (begins : Begins schema built leaves e) (at : IsAt g (start_at s) e) where
  abbrev P : Play Sharing
  P = share_over_play schema built (g.limit leaves) s (g.content leaves).script

  abbrev over : Bool → Over S
  over calm = record {
    schema = schema;
    built = built;
    from = s;
    script = (g.content leaves).script;
    leaves = leaves;
    calm = calm;
  }

  -- it starts
  module _ (old new : Sessions S) (starts : engine_of old ≡ e)
      (shared : AreShared g (share_start s) old) (left_is : left ≡ leaves_of new)
      (r : Result (Unit {0}) Ending) (plays : PlaysOut g old new r) where
    leaves_are : leaves_of old ≡ leaves
    leaves_are = ap engine_leaves starts ∙ begins.leaves_are

    first : (calm : Bool) → (IsTrue calm → (start : Content) × g.calm leaves start)
        → IsGoing g (over calm) (script_lines (g.content (leaves_of old)).script) 0 old
    first calm is =
        going_first g (over calm) means goes_on
        (script_lines (g.content (leaves_of old)).script) 0 old
        (ap engine_schema starts ∙ begins.schema_is) (ap engine_built starts ∙ begins.built_is)
        leaves_are shared
        (record {
          ran = [];
          many = refl;
          lines_are = ap (λ l. (script_lines (g.content l).script).lines) (sym leaves_are);
          stop_is = ap (λ l. (script_lines (g.content l).script).stop) (sym leaves_are);
          runs = (refl, refl);
        }) is

    pub played_out : IsPlayedOf P (KeepsState g schema built left) (g.content leaves).now.said
        (g.content left).now.said r
    played_out =
        subst (λ l. IsPlayedOf P (KeepsState g schema built l) (g.content leaves).now.said
        (g.content l).now.said r) (sym left_is)
        (plays (over false) (first false (λ none. absurd (true≢false (sym none))))).played

    pub left_out : (start : Content) → g.calm leaves start
        → LeavesPlayOf g schema built P (is_fault r) leaves left
    left_out start calm =
        subst (λ l. LeavesPlayOf g schema built P (is_fault r) leaves l) (sym left_is)
        ((plays (over true) (first true (λ is. (start, calm)))).images refl)

  -- or there was no memory for the sessions
  module _ (left_is : left ≡ engine_leaves e) where
    left_same : left ≡ leaves
    left_same = left_is ∙ begins.leaves_are

    pub played_none : IsPlayedOf P (KeepsState g schema built left) (g.content leaves).now.said
        (g.content left).now.said (Err ending.NoMemory)
    played_none =
        subst (λ l. IsPlayedOf P (KeepsState g schema built l) (g.content leaves).now.said
        (g.content l).now.said (Err ending.NoMemory)) (sym left_same)
        (record {
          answers = [];
          final = share_start s;
          stands = record {
            ts = [];
            first = record {
              ran = [];
              later = (script_lines (g.content leaves).script).lines;
              parts = refl;
              runs = (refl, refl);
            };
            answers_are = refl;
            next = tt;
          };
          said = sym (append-nil (g.content leaves).now.said);
          holds = (
            subst (λ maps. AreInternal schema built maps s) (sym holds.kept_same)
                holds.working_is,
            holds.kept_whole_is,
          );
        })

    held : (blocks : List (List ℕ)) → StandsForKept g leaves blocks
        → HoldsState g schema built (g.head leaves) s blocks
    held blocks stored =
        subst (λ (x : Schema). HoldsState g x built (g.head leaves) s blocks) begins.schema_is
        (subst (λ (x : Built). HoldsState g (engine_schema e) x (g.head leaves) s blocks)
        begins.built_is
        (subst (λ l. HoldsState g (engine_schema e) (engine_built e) (g.head l) s blocks)
        begins.leaves_are
        (kept_state g (start_at s) e at blocks
        (subst (λ l. StandsForKept g l blocks) (sym begins.leaves_are) stored))))

    pub left_none : (start : Content) → g.calm leaves start
        → LeavesPlayOf g schema built P false leaves left
    left_none start calm =
        let now = g.content leaves in
        let quiet = means leaves now (goes_on leaves start calm) in
        subst (λ l. LeavesPlayOf g schema built P false leaves l) (sym left_same)
        (record {
          images = started
              (EachImage (IsImageOf P (HoldsState g schema built (g.head leaves)) now.now)) now
              (λ image is.
              let q = quiet.last image is in
              record {
                told = [];
                final = share_start s;
                front = record {
                  ts = [];
                  first = record {
                    ran = [];
                    later = (script_lines (g.content leaves).script).lines;
                    parts = refl;
                    runs = (refl, refl);
                  };
                  told_of = record {
                    first = [];
                    last = [];
                    one = omega arith;
                    turns_are = refl;
                    count = 0;
                    told_is = refl;
                  };
                };
                said = prefix_both now.now.said image.said q.begins q.goes_on
                    ∙ sym (append-nil now.now.said);
                holds = held image.blocks q.is;
                shelf = q.shelf;
              });
          calm = λ none. goes_on leaves start calm;
        })

-- the same leaves
pub kept_none : {S : Type 0} (g : Ghosts S) (leaves left : S) → left ≡ leaves
    → KeepsOver g leaves left
kept_none g leaves left same =
    subst (λ l. KeepsOver g leaves l) (sym same)
    (record {
      head = refl;
      begins = λ told. ([], sym (append-nil (g.content leaves).now.said));
      shelf = refl;
      aside = refl;
    })
