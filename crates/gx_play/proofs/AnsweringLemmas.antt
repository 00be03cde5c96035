-- Lines whose answers are said, or kept.
use Rattle.std.proofs.Common.{◌≡◌, ℕ, List, Bool, false, true, None, Result, Ok, Err, refl, sym, ap, subst, ◌∙◌, inl, inr, arith}
use Rattle.std.specs.Prelude.{◌⊎◌, Option, Some, IsSome}
use Rattle.gx_commands.specs.declared.command.LineWhy.{LineWhy}
use Rattle.gx_commands.specs.Lines.{Lines}
use Rattle.gx_ports.specs.declared.stop.Stop.{Stop}
use Rattle.gx_ports.specs.declared.stop.Stop.TheVariants as stop
use Rattle.gx_ports.specs.declared.view.View.{Ghosts}
use Rattle.gx_ports.specs.Stops.{HasStopCause}
use Rattle.gx_ports.specs.LeafMaps.{Limits, IsCrowdedBy}
use Rattle.gx_model.specs.Play.{Playing, End, good, stopped, is_inside}
use Rattle.gx_engine.specs.declared.engine.Engine.{Engine}
use Rattle.gx_engine.specs.Steps.{IsAt, IsReady, IsSound, schema_of, leaves_of, is_open}
use Rattle.gx_play.specs.declared.ending.Ending.{Ending}
use Rattle.gx_play.specs.Endings.{ending_of, is_outside, is_fault}
use Rattle.gx_play.specs.declared.carry.LineEnd.{LineEnd}
use Rattle.gx_play.specs.declared.carry.LineEnd.TheVariants as line_end
use Rattle.gx_play.specs.declared.play.PlayEnd.{PlayEnd}
use Rattle.gx_play.specs.declared.play.PlayEnd.TheVariants as play_end
use Rattle.gx_play.specs.declared.play.Answers.{Answers}
use Rattle.gx_play.specs.declared.play.Answers.TheVariants as answers
use Rattle.gx_play.specs.Answering.{beside, with_answers}
use Rattle.gx_play.specs.declared.lines.Asked.{Asked}
use Rattle.gx_play.specs.declared.lines.Asked.TheVariants as asked
use Rattle.gx_play.specs.Asked.{IsAsked}
use Rattle.gx_play.specs.Plays.{IsAskedPlayed, IsLinePlayed, IsAskedGivenUp, IsAskedShort, IsShortLine, IsGivenUp, IsPlayedUp, IsPlayedTo, KeepsPlayed, CountsFailed, HasPlayCause, is_play_fault}
use Rattle.gx_device.proofs.PrefixLemmas.{prefix_same, prefix_twice}

-- the engine stands so with answers beside it
pub at_beside : {S : Type 0} (g : Ghosts S) (to : Answers) (p : Playing) (e : Engine S)
    (out : List ℕ)
    → IsAt g p e → IsAt (beside g to) p (with_answers e out)
at_beside g to p e out at =
    record { stands = at.stands; whole_is = at.whole_is; kept_whole_is = at.kept_whole_is }

pub at_alone : {S : Type 0} (g : Ghosts S) (to : Answers) (p : Playing) (e : Engine S)
    (out : List ℕ)
    → IsAt (beside g to) p (with_answers e out) → IsAt g p e
at_alone g to p e out at =
    record { stands = at.stands; whole_is = at.whole_is; kept_whole_is = at.kept_whole_is }

-- ---- what stays of the engine

pub keeps_same : {S : Type 0} (g : Ghosts S) (to : Answers) (e : Engine S) → IsReady g e
    → KeepsPlayed g to e e
keeps_same g to e ready = record {
  schema = refl;
  built = refl;
  ready = ready;
  limit = refl;
  head = refl;
  rest = record { shelf = refl; script = refl; aside = refl };
  begins = λ told. prefix_same _ _ refl;
  silent = λ kept. record { said = refl; shelf = refl; script = refl; aside = refl };
}

pub keeps_then : {S : Type 0} (g : Ghosts S) (to : Answers) (a b c : Engine S)
    → KeepsPlayed g to a b
    → KeepsPlayed g to b c → KeepsPlayed g to a c
keeps_then g to a b c p q = record {
  schema = q.schema ∙ p.schema;
  built = q.built ∙ p.built;
  ready = q.ready;
  limit = q.limit ∙ p.limit;
  head = q.head ∙ p.head;
  rest = record {
    shelf = q.rest.shelf ∙ p.rest.shelf;
    script = q.rest.script ∙ p.rest.script;
    aside = q.rest.aside ∙ p.rest.aside;
  };
  begins = λ told. prefix_twice _ _ _ (p.begins told) (q.begins told);
  silent = λ kept.
      let x = p.silent kept in
      let y = q.silent kept in
      record {
        said = y.said ∙ x.said;
        shelf = y.shelf ∙ x.shelf;
        script = y.script ∙ x.script;
        aside = y.aside ∙ x.aside;
      };
}

-- ---- the line that asks for it

pub line_played : {S : Type 0} (g : Ghosts S) (to : Answers) (p : Playing) (line : List ℕ)
    (a : Asked)
    (old new : Engine S) (out now : List ℕ) → IsAt g p old
    → IsAsked (schema_of old) (is_open old) line a
    → IsAskedPlayed (beside g to) p a (with_answers old out) (with_answers new now)
    → IsLinePlayed (beside g to) p line (with_answers old out) (with_answers new now)
line_played g to p line a old new out now at means played = record {
  asked = a;
  means = subst (λ (b : Bool). IsAsked (schema_of old) b line a) at.stands.inside_same means;
  played = played;
}

-- a command for which the pages may be too few
short_line : {S : Type 0} (g : Ghosts S) (to : Answers) (p : Playing) (line : List ℕ) (a : Asked)
    (e : Engine S) (out : List ℕ) → IsAsked (schema_of e) (is_inside p) line a
    → IsAskedShort (beside g to) (with_answers e out) p a
    → IsShortLine (beside g to) (with_answers e out) p line
short_line g to p line (asked.Command c) e out (no_path, means, placed) short =
    (c, means, placed, short)
short_line g to p line (asked.Path q) e out means short = absurd short

pub line_given_up : {S : Type 0} (g : Ghosts S) (to : Answers) (p : Playing) (line : List ℕ)
    (a : Asked)
    (old new : Engine S) (out now : List ℕ) (why : Stop) → IsAt g p old
    → IsAsked (schema_of old) (is_open old) line a
    → IsAskedGivenUp (beside g to) p a (with_answers old out) (with_answers new now) why
    → IsGivenUp (beside g to) p line (with_answers old out) (with_answers new now) why
line_given_up g to p line a old new out now why at means up =
    let here : IsAsked (schema_of old) (is_inside p) line a =
    subst (λ (b : Bool). IsAsked (schema_of old) b line a) at.stands.inside_same means in
    record {
      unsaid = up.unsaid;
      cut = inr (a, here, up.cut);
      kept = up.kept;
      short = λ full. short_line g to p line a old out here (up.short full);
    }

no_memory_full : {A : Type 0} (why : Stop) → why ≡ stop.NoMemory → why ≡ stop.Full → A
no_memory_full why is full = absurd (never (sym is ∙ full))
  where
    never : stop.NoMemory ≡ stop.Full → ⊥
    never f = cc

-- an error is one
pub err_same : {A E : Type 0} (r : Result A E) (a b : E) → r ≡ Err a → r ≡ Err b → a ≡ b
err_same {A = A} {E = E} r a b p q = ap err_in (sym p ∙ q)
  where
    err_in : Result A E → E
    err_in (Err e) = e
    err_in (Ok x) = a

pub stop_same : (a b : Stop) → line_end.Stop a ≡ line_end.Stop b → a ≡ b
stop_same a b e = ap stop_in e
  where
    stop_in : LineEnd → Stop
    stop_in (line_end.Stop s) = s
    stop_in (line_end.Bad reason) = a

-- the same of the end of a play
pub play_stop_same : (a b : Stop) → play_end.Stop a ≡ play_end.Stop b → a ≡ b
play_stop_same a b e = ap stop_in e
  where
    stop_in : PlayEnd → Stop
    stop_in (play_end.Stop s) = s
    stop_in (play_end.Line number reason) = a

pub play_line_same : (a n : ℕ) (v w : LineWhy) → play_end.Line a v ≡ play_end.Line n w
    → (n ≡ a) × (v ≡ w)
play_line_same a n v w e = (sym (ap number_in e), ap why_in e)
  where
    number_in : PlayEnd → ℕ
    number_in (play_end.Line number reason) = number
    number_in (play_end.Stop s) = a

    why_in : PlayEnd → LineWhy
    why_in (play_end.Line number reason) = reason
    why_in (play_end.Stop s) = v

-- why what is asked for is given up on leaves that stand for a moment of a play
pub asked_cause : {S : Type 0} (g : Ghosts S) (p : Playing) (a : Asked) (old new : Engine S)
    (result : Result (Unit {0}) Stop) → IsAt g p old
    → HasStopCause (g.faults (leaves_of old)) (g.faults (leaves_of new)) (IsSound g old) result
    → (result ≡ Err stop.Full → IsAskedShort g old p a) → (why : Stop) → result ≡ Err why
    → HasPlayCause (g.limit (leaves_of old)) (g.faults (leaves_of old)) (g.faults (leaves_of new))
    why
asked_cause g p a old new result at cause full stop.Fault is = cause.fault is
asked_cause g p a old new result at cause full stop.Full is = limited a (full is)
  where
    some_limit : (limit : Option Limits) (n : ℕ) → IsCrowdedBy limit n → IsSome limit
    some_limit (Some l) n crowded = refl
    some_limit None n crowded = absurd crowded

    limited : (a : Asked) → IsAskedShort g old p a → IsSome (g.limit (leaves_of old))
    limited (asked.Command c) short = some_limit (g.limit (leaves_of old)) _ short.1
    limited (asked.Path q) short = absurd short
asked_cause g p a old new result at cause full stop.NoMemory is = tt
asked_cause g p a old new result at cause full (stop.Damaged block) is =
    absurd (cause.damaged block is (p, at))

-- a line for which there was no memory
pub unread_given_up : {S : Type 0} (g : Ghosts S) (to : Answers) (p : Playing) (line : List ℕ)
    (e : Engine S)
    (out : List ℕ) (why : Stop) → why ≡ stop.NoMemory
    → IsGivenUp (beside g to) p line (with_answers e out) (with_answers e out) why
unread_given_up g to p line e out why is = record {
  unsaid = λ other. refl;
  cut = inl refl;
  kept = λ other. record {
    leaves = refl;
    kept = refl;
    kept_whole = (λ h. h, λ h. h);
    limit = refl;
    head = refl;
    calm = λ s h. h;
    silent = record { said = refl; shelf = refl; script = refl; aside = refl };
  };
  short = λ full. no_memory_full why is full;
}

-- ---- what the machine said, alone

up_alone : {S : Type 0} (g : Ghosts S) (p : Playing) (lines : Lines) (old new : Engine S)
    (out now : List ℕ)
    (end : End) → IsPlayedUp (beside g answers.Said) p lines (with_answers old out)
    (with_answers new now) end
    → IsPlayedUp g p lines old new end
up_alone g p lines old new out now end up = record {
  text = up.text;
  final = up.final;
  played = up.played;
  said = up.said;
  at = at_alone g answers.Said up.final new now up.at;
}

-- the play of lines whose answers were said
pub played_aloud : {S : Type 0} (g : Ghosts S) (p : Playing) (lines : Lines) (old new : Engine S)
    (out now : List ℕ) (result : Result (Unit {0}) PlayEnd)
    → IsPlayedTo (beside g answers.Said) p lines (with_answers old out)
    (with_answers new now) result → IsPlayedTo g p lines old new result
played_aloud g p lines old new out now (Ok x) up = up_alone g p lines old new out now good up
played_aloud g p lines old new out now (Err (play_end.Line number why)) up =
    up_alone g p lines old new out now (stopped number why) up
played_aloud g p lines old new out now (Err (play_end.Stop why)) part = record {
  ran = part.ran;
  later = part.later;
  parts = part.parts;
  text = part.text;
  final = part.final;
  runs = part.runs;
  up_to = part.up_to;
  whole = part.whole;
  kept = part.kept;
  failed = λ fault. stands_alone (part.failed fault);
  short = part.short;
}
  where
    stands_alone : {B : Type 0} → IsAt (beside g answers.Said) part.final (with_answers new now) ⊎ B
        → IsAt g part.final new ⊎ B
    stands_alone (inl at) = inl (at_alone g answers.Said part.final new now at)
    stands_alone (inr b) = inr b

-- ---- how failures are counted where a play ends a request

pub none_failed : (before now : ℕ) → now ≡ before → CountsFailed before now false
none_failed before now same =
    record { later = omega (arith, same); rose = λ e. absurd (never e); counted = λ e. same }
  where
    never : ◌≡◌ {A = Bool} false true → ⊥
    never e = cc

outside_end : (U : Type 0) (end : PlayEnd)
    → is_outside (ending_of end) ≡ is_play_fault {T = U} (Err end)
outside_end U (play_end.Line number why) = refl
outside_end U (play_end.Stop stop.Fault) = refl
outside_end U (play_end.Stop stop.Full) = refl
outside_end U (play_end.Stop stop.NoMemory) = refl
outside_end U (play_end.Stop (stop.Damaged block)) = refl

pub failed_end : {T : Type 0} (U : Type 0) (before mid now : ℕ) (end : PlayEnd)
    (result : Result T Ending)
    → mid ≡ before → result ≡ Err (ending_of end)
    → CountsFailed mid now (is_play_fault {T = U} (Err end))
    → CountsFailed before now (is_fault result)
failed_end {T = T} U before mid now end result same is counts =
    subst (λ (r : Result T Ending). CountsFailed before now (is_fault r)) (sym is)
    (subst (CountsFailed before now) (sym (outside_end U end))
    (subst (λ n. CountsFailed n now (is_play_fault {T = U} (Err end))) same counts))
