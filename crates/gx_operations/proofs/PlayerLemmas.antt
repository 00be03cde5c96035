-- What requests need of a play, whatever it is a play of: of lines, or of turns.
use Rattle.std.proofs.Common.{◌≡◌, inl, inr, ℕ, List, [], ◌∷◌, ◌++◌, take, Bool, Option, Some, None, Result, Ok, Err, refl, sym, subst, ◌∙◌, append-nil, arith}
use Rattle.gx_ports.specs.LeafMaps.{Limits}
use Rattle.gx_ports.specs.declared.view.View.{Ghosts}
use Rattle.gx_schema.specs.declared.schema.Schema.{Schema}
use Rattle.gx_commands.specs.declared.command.LineWhy.{LineWhy}
use Rattle.gx_commands.specs.Lines.{Lines, script_lines}
use Rattle.gx_equation.specs.Trees.{DefinitionTree}
use Rattle.gx_types.specs.declared.built.Built.{Built}
use Rattle.gx_model.specs.Languages.{AreFirstLines}
use Rattle.gx_model.specs.Play.{Playing, End, good, stopped, start_at}
use Rattle.gx_model.specs.States.{State}
use Rattle.gx_model.proofs.LanguageLemmas.{one_play}
use Rattle.gx_states.specs.Built.{IsBuiltOf}
use Rattle.gx_sharing.specs.Sharing.{share_start}
use Rattle.gx_sharing.specs.Texts.{turns}
use Rattle.gx_sharing.proofs.Once.{definite_turns}
use Rattle.gx_engine.specs.Crashes.{HoldsState}
use Rattle.gx_play.specs.declared.ending.Ending.{Ending}
use Rattle.gx_play.specs.declared.ending.Ending.TheVariants as ending
use Rattle.gx_play.specs.declared.play.Answers.TheVariants as answers
use Rattle.gx_play.specs.Images.{IsPlayImage, LeavesPlay}
use Rattle.gx_play.specs.Overs.{SaysUpTo, SaysFrontOf, IsPlayedOf, IsImageOf, LeavesPlayOf}
use Rattle.gx_play.specs.Played.{MayBeFull}
use Rattle.gx_play.specs.Player.{Play, IsBeforeCommit, line_play}
use Rattle.gx_play.specs.Plays.{IsPlayedFront, IsPlayedAs}
use Rattle.gx_play.proofs.AskedLemmas.{play_once}
use Rattle.gx_play.proofs.FullLemmas.{full_by_state}
use Rattle.gx_play.proofs.TextLemmas.{cancel}
use Rattle.gx_shares.specs.Player.{AreFirstTurns, share_play}
use Rattle.gx_shares.proofs.FullLemmas.{share_full_by_state}
use Rattle.gx_operations.specs.declared.kinds.ScriptKind.{ScriptKind}
use Rattle.gx_operations.specs.declared.kinds.ScriptKind.TheVariants as script_kind
use Rattle.gx_operations.specs.Given.{Given}
use Rattle.gx_operations.specs.Kinds.{plays_of, line_over_play, over_play}
use Rattle.gx_operations.proofs.CrashLemmas.{leaves_weaker}

-- ---- one play

-- It begins at a state with nothing said, the answers up to an end are first ones, and it has one
-- end.
pub record IsLawful {M : Type 0} (p : Play M) (start : State) : Type 0 where
  pub at : M
  pub kept : p.kept at ≡ start
  pub first : p.First [] at
  pub front : p.Front [] at
  pub ends_first : (end : End) (answers : List ℕ) (m : M) → p.Ends end answers m
      → p.First answers m
  pub full_first : (answers : List ℕ) (m : M) → p.Full answers m → p.First answers m
  pub one_end : (a b : List ℕ) (m k : M) (number : ℕ) (why : LineWhy) → p.Ends good a m
      → p.Ends (stopped number why) b k → ⊥

-- the answers of a play are those of the first lines that ran
pub first_parts : (all : Lines) (ran : List (List ℕ)) (next : Result (Option (List ℕ)) LineWhy)
    → AreFirstLines all ran next → (later : List (List ℕ)) × (all.lines ≡ ran ++ later)
first_parts all ran (Ok (Some line)) first = (line ∷ first.0, first.1)
first_parts all ran (Ok None) first = ([], first.0 ∙ sym (append-nil ran))
first_parts all ran (Err why) first = ([], first.0 ∙ sym (append-nil ran))

-- a good end is no other
good_end : (number : ℕ) (why : LineWhy) → ◌≡◌ {A = End} good (stopped number why) → ⊥
good_end number why e = cc

-- the play of a script's lines
pub line_lawful : (schema : Schema) (ds : List DefinitionTree) (limit : Option Limits)
    (start : State) (script : List ℕ) → IsLawful (line_play schema ds limit start script) start
line_lawful schema ds limit start script = record {
  at = start_at start;
  kept = refl;
  first = record {
    first = record {
      ran = [];
      later = (script_lines script).lines;
      parts = refl;
      final = start_at start;
      runs = (refl, refl);
    };
    is = refl;
  };
  front = record {
    ran = [];
    later = (script_lines script).lines;
    parts = refl;
    answers = [];
    runs = (refl, refl);
    up_to = record {
      first = [];
      last = [];
      one = omega arith;
      ran_are = refl;
      whole = [];
      cut = [];
      text_is = refl;
      middle = start_at start;
      runs = (refl, refl);
      count = 0;
      said = refl;
    };
  };
  ends_first = λ end answers m play. record {
    first = record {
      ran = play.ran;
      later = (first_parts (script_lines script) play.ran play.next play.first).0;
      parts = (first_parts (script_lines script) play.ran play.next play.first).1;
      final = m;
      runs = play.runs;
    };
    is = refl;
  };
  full_first = λ answers m full. record {
    first = record {
      ran = full.ran;
      later = full.later;
      parts = full.parts;
      final = m;
      runs = full.runs;
    };
    is = refl;
  };
  one_end = λ a b m k number why x y. good_end number why
      (play_once schema (start_at start) (script_lines script) a b m k good (stopped number why) x
      y).2;
}

-- the play of its turns
pub turn_lawful : (schema : Schema) (ds : List DefinitionTree) (limit : Option Limits)
    (start : State) (script : List ℕ) → IsLawful (share_play schema ds limit start script) start
turn_lawful schema ds limit start script =
    let none : AreFirstTurns schema start script [] (share_start start) = record {
      ran = [];
      later = (script_lines script).lines;
      parts = refl;
      runs = (refl, refl);
    } in
    record {
      at = share_start start;
      kept = refl;
      first = record { ts = []; first = none; answers_are = refl; next = tt };
      front = record {
        ts = [];
        first = none;
        told_of = record {
          first = [];
          last = [];
          one = omega arith;
          turns_are = refl;
          count = 0;
          told_is = refl;
        };
      };
      ends_first = λ end answers m play. record {
        ts = play.0;
        first = record {
          ran = play.1.ran;
          later = (first_parts (script_lines script) play.1.ran play.1.next play.1.first).0;
          parts = (first_parts (script_lines script) play.1.ran play.1.next play.1.first).1;
          runs = play.1.runs;
        };
        answers_are = play.2;
        next = tt;
      };
      full_first = λ answers m full. record {
        ts = full.ts;
        first = full.first;
        answers_are = full.answers_are;
        next = tt;
      };
      one_end = λ a b m k number why x y. good_end number why
          (one_play (turns schema) (definite_turns schema) (share_start start)
          (script_lines script) x.0 y.0 m k good (stopped number why) x.1 y.1).2;
    }

pub lawful : (k : ScriptKind) (g : Given) (script : List ℕ) (limit : Limits) (start : State)
    → IsLawful (plays_of k g script limit start) start
lawful script_kind.Lines g script limit start =
    line_lawful g.schema g.definitions (Some limit) start script
lawful script_kind.Turns g script limit start =
    turn_lawful g.schema g.definitions (Some limit) start script

-- ---- two plays that differ in when the pages may be too few

-- what one says of answers the other says
pub record IsFiner {M : Type 0} (q p : Play M) : Type 0 where
  pub kept : (m : M) → q.kept m ≡ p.kept m
  pub ends : (end : End) (answers : List ℕ) (m : M) → q.Ends end answers m → p.Ends end answers m
  pub first : (answers : List ℕ) (m : M) → q.First answers m → p.First answers m
  pub full : (answers : List ℕ) (m : M) → q.Full answers m → p.Full answers m
  pub commits : (answers : List ℕ) (m : M) → q.Commits answers m → p.Commits answers m
  pub front : (told : List ℕ) (m : M) → q.Front told m → p.Front told m

pub same_play : {M : Type 0} (p : Play M) → IsFiner p p
same_play p = record {
  kept = λ m. refl;
  ends = λ end answers m is. is;
  first = λ answers m is. is;
  full = λ answers m is. is;
  commits = λ answers m is. is;
  front = λ told m is. is;
}

pub line_finer : (schema : Schema) (ds : List DefinitionTree) (built : Built)
    (limit : Option Limits) (start : State) (script : List ℕ)
    → ((answers : List ℕ) (m : Playing)
    → (line_over_play schema built limit start script).Full answers m
    → MayBeFull schema ds limit start script answers m)
    → IsFiner (line_over_play schema built limit start script)
    (line_play schema ds limit start script)
line_finer schema ds built limit start script full = record {
  kept = λ m. refl;
  ends = λ end answers m is. is;
  first = λ answers m is. is;
  full = full;
  commits = λ answers m is. is;
  front = λ told m is. is;
}

-- over nodes that the definitions mean, the one by the entries of leaves and the one by the states
pub finer : (k : ScriptKind) (g : Given) (built : Built) (limit : Limits) (start : State)
    (script : List ℕ) → IsBuiltOf g.schema g.definitions built
    → IsFiner (over_play k g.schema built (Some limit) start script)
    (plays_of k g script limit start)
finer script_kind.Lines g built limit start script trees =
    line_finer g.schema g.definitions built (Some limit) start script
    (λ answers m is. full_by_state g.schema g.definitions built (Some limit) start script answers m
    trees is)
finer script_kind.Turns g built limit start script trees = record {
  kept = λ m. refl;
  ends = λ end answers m is. is;
  first = λ answers m is. is;
  full = λ answers m is. share_full_by_state g.schema g.definitions built (Some limit) trees start
      script answers m is;
  commits = λ answers m is. is;
  front = λ told m is. is;
}

-- so what was said of one is said of the other, with what follows of the state that is kept
module _ {M : Type 0} (q p : Play M) (f : IsFiner q p) (Holds Other : State → Type 0)
    (weaker : (k : State) → Holds k → Other k) (before now : List ℕ) where
  holds_on : (m : M) → Holds (q.kept m) → Other (p.kept m)
  holds_on m is = weaker (p.kept m) (subst Holds (f.kept m) is)

  says_up : (Stands Then : List ℕ → M → Type 0)
      → ((answers : List ℕ) (m : M) → Stands answers m → Then answers m)
      → SaysUpTo q Stands Holds before now → SaysUpTo p Then Other before now
  says_up Stands Then then is = record {
    answers = is.answers;
    final = is.final;
    stands = then is.answers is.final is.stands;
    said = is.said;
    holds = holds_on is.final is.holds;
  }

  front_up : SaysFrontOf q Holds before now → SaysFrontOf p Other before now
  front_up is = record {
    told = is.told;
    final = is.final;
    front = f.front is.told is.final is.front;
    said = is.said;
    holds = elim is.holds [
      | inl held ↦ inl (holds_on is.final held)
      | inr commits ↦ inr (f.commits is.told is.final commits)
    ];
  }

  pub played_finer : (r : Result (Unit {0}) Ending) → IsPlayedOf q Holds before now r
      → IsPlayedOf p Other before now r
  played_finer (Ok x) is = says_up (q.Ends good) (p.Ends good) (f.ends good) is
  played_finer (Err (ending.Line number why)) is =
      says_up (q.Ends (stopped number why)) (p.Ends (stopped number why))
      (f.ends (stopped number why)) is
  played_finer (Err ending.NoMemory) is = says_up q.First p.First f.first is
  played_finer (Err ending.Full) is = says_up q.Full p.Full f.full is
  played_finer (Err ending.Fault) is = front_up is
  played_finer (Err ending.Words) is = absurd is
  played_finer (Err (ending.Missing name)) is = absurd is
  played_finer (Err (ending.TooLong name)) is = absurd is
  played_finer (Err (ending.Schema line why)) is = absurd is
  played_finer (Err (ending.Equation line why)) is = absurd is
  played_finer (Err (ending.Type line why)) is = absurd is
  played_finer (Err ending.TextsTooLong) is = absurd is
  played_finer (Err (ending.Accepted summary)) is = absurd is
  played_finer (Err (ending.Device why)) is = absurd is
  played_finer (Err (ending.Made blocks pages)) is = absurd is

-- ---- the landed forms of a play of lines

module _ (schema : Schema) (built : Built) (limit : Option Limits) (start : State)
    (script : List ℕ) where
  abbrev Over : Play Playing
  Over = line_over_play schema built limit start script

  line_front : (Holds : State → Type 0) (before now : List ℕ)
      → IsPlayedFront schema start Holds script before now → SaysFrontOf Over Holds before now
  line_front Holds before now is =
      let told = is.up_to.whole ++ take is.up_to.count is.up_to.cut in
      record {
        told = told;
        final = is.first.final;
        front = record {
          ran = is.first.ran;
          later = is.first.later;
          parts = is.first.parts;
          answers = is.answers;
          runs = is.first.runs;
          up_to = record {
            first = is.up_to.first;
            last = is.up_to.last;
            one = is.up_to.one;
            ran_are = is.up_to.ran_are;
            whole = is.up_to.whole;
            cut = is.up_to.cut;
            text_is = is.up_to.text_is;
            middle = is.up_to.middle;
            runs = is.up_to.runs;
            count = is.up_to.count;
            said = refl;
          };
        };
        said = is.up_to.said;
        holds = elim is.holds [
          | inl held ↦ inl held
          | inr all ↦ inr
              (subst (λ t. IsBeforeCommit schema start script t is.first.final)
              (cancel before is.answers told (sym all.0 ∙ is.up_to.said))
              (record { first = is.first; is = refl; commits = all.1 }))
        ];
      }

  pub line_played : (Holds : State → Type 0) (before now : List ℕ) (r : Result (Unit {0}) Ending)
      → IsPlayedAs schema built limit start Holds script before now r
      → IsPlayedOf Over Holds before now r
  line_played Holds before now (Ok x) is = record {
    answers = is.answers;
    final = is.final;
    stands = is.play;
    said = is.said;
    holds = is.holds;
  }
  line_played Holds before now (Err (ending.Line number why)) is = record {
    answers = is.answers;
    final = is.final;
    stands = is.play;
    said = is.said;
    holds = is.holds;
  }
  line_played Holds before now (Err ending.NoMemory) is = record {
    answers = is.answers;
    final = is.first.final;
    stands = record { first = is.first; is = refl };
    said = is.said;
    holds = is.holds;
  }
  line_played Holds before now (Err ending.Full) is = record {
    answers = is.answers;
    final = is.final;
    stands = is.full;
    said = is.said;
    holds = is.holds;
  }
  line_played Holds before now (Err ending.Fault) is = line_front Holds before now is
  line_played Holds before now (Err ending.Words) is = absurd is
  line_played Holds before now (Err (ending.Missing name)) is = absurd is
  line_played Holds before now (Err (ending.TooLong name)) is = absurd is
  line_played Holds before now (Err (ending.Schema line why)) is = absurd is
  line_played Holds before now (Err (ending.Equation line why)) is = absurd is
  line_played Holds before now (Err (ending.Type line why)) is = absurd is
  line_played Holds before now (Err ending.TextsTooLong) is = absurd is
  line_played Holds before now (Err (ending.Accepted summary)) is = absurd is
  line_played Holds before now (Err (ending.Device why)) is = absurd is
  line_played Holds before now (Err (ending.Made blocks pages)) is = absurd is

  pub line_leaves : {S : Type 0} (g : Ghosts S) (failed : Bool) (old new : S)
      → LeavesPlay g schema built answers.Said (start_at start) (script_lines script).lines failed
      old new
      → LeavesPlayOf g schema built Over failed old new
  line_leaves g failed old new leaves = record {
    images = leaves_weaker (IsPlayImage schema (HoldsState g schema built (g.head old)) answers.Said
        (start_at start) (script_lines script).lines (g.content old).now)
        (IsImageOf Over (HoldsState g schema built (g.head old)) (g.content old).now)
        (λ image is. record {
          told = is.up_to.whole ++ take is.up_to.count is.up_to.cut;
          final = is.final;
          front = record {
            ran = is.ran;
            later = is.later;
            parts = is.parts;
            answers = is.text;
            runs = is.runs;
            up_to = record {
              first = is.up_to.first;
              last = is.up_to.last;
              one = is.up_to.one;
              ran_are = is.up_to.ran_are;
              whole = is.up_to.whole;
              cut = is.up_to.cut;
              text_is = is.up_to.text_is;
              middle = is.up_to.middle;
              runs = is.up_to.runs;
              count = is.up_to.count;
              said = refl;
            };
          };
          said = is.up_to.said;
          holds = is.holds;
          shelf = is.shelf;
        }) (g.content old) (g.content new) leaves.images;
    calm = leaves.calm;
  }
