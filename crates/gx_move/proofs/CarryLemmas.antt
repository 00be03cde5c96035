-- What an engine stands for while the commands that give a stock are carried out, and how they end.
use Rattle.std.proofs.Common.{◌≡◌, ℕ, ◌+◌, ◌<◌, ◌≤◌, List, [], ◌∷◌, ◌++◌, length, map, take, drop, get_or, true, false, Option, None, Ok, refl, sym, ap, subst, ◌∙◌, arith, append_assoc, append-nil, take-append-drop}
use Rattle.std.specs.Prelude.{Result, Err, IsErrAnd, OnOk}
use Rattle.std.specs.List.{AllByRecursion}
use Rattle.std.proofs.lemmas.List.{map-append, take_more, length-take-le}
use Rattle.gx_device.specs.Faults.{Rose}
use Rattle.gx_schema.specs.declared.schema.Schema.{Schema}
use Rattle.gx_commands.specs.declared.command.Command.{Command}
use Rattle.gx_commands.specs.Commands.{inside_after}
use Rattle.gx_ports.specs.LeafMaps.{Limits, IsCrowdedBy, entry_count}
use Rattle.gx_ports.specs.declared.stop.Stop.{Stop}
use Rattle.gx_ports.specs.declared.stop.Stop.TheVariants as stop
use Rattle.gx_ports.specs.declared.view.View.{Ghosts}
use Rattle.gx_ports.proofs.CallLemmas.{keeps_itself, keeps_joined}
use Rattle.gx_types.specs.declared.built.Built.{Built}
use Rattle.gx_states.specs.Internal.{state_entries}
use Rattle.gx_model.specs.Play.{Playing, seen_state, after_command}
use Rattle.gx_engine.specs.declared.engine.Engine.{Engine}
use Rattle.gx_engine.specs.declared.engine.StepStop.{StepStop}
use Rattle.gx_engine.specs.declared.engine.StepStop.TheVariants.{Now}
use Rattle.gx_engine.specs.Moments.{Stands, MayWantRoom, AreInternal}
use Rattle.gx_engine.specs.Parts.{EndsReading}
use Rattle.gx_engine.specs.Steps.{schema_of, built_of, leaves_of, is_open, commits_of, stop_of, is_commit, IsReady, IsAt, IsSound, IsServed, IsShortFor, CarriesOut, HasStepCause, EndsStep}
use Rattle.gx_move.specs.Giving.{each_from, after_commands, IsShortAmong, HasCause, KeepsLast, CarriesOn}
use Rattle.gx_move.proofs.GiftLemmas.{after_both}
use Rattle.gx_move.proofs.DueLemmas.{all_front, all_rest}

-- ---- results

-- how a call ends that gives another's error on
pub err_is : {T E : Type 0} (r : Result T E) (e : E) → IsErrAnd r (λ y. y ≡ e) → r ≡ Err e
err_is (Ok x) e h = absurd h
err_is {E = E} (Err y) e h = ap (λ (x : E). Err x) h

on_ok : {T A B : Type 0} (r : Result T StepStop) → (A → B) → OnOk r A → OnOk r B
on_ok (Ok x) f a = f a
on_ok (Err e) f a = tt

-- ---- pages that may be too few

-- a command of some is one of more
short_front : (schema : Schema) (built : Built) (limit : Option Limits) (p : Playing)
    (front rest : List Command) → IsShortAmong schema built limit p front
    → IsShortAmong schema built limit p (front ++ rest)
short_front schema built limit p front rest short = record {
  before = short.before;
  command = short.command;
  later = short.later ++ rest;
  parts = ap (λ (cs : List Command). cs ++ rest) short.parts
      ∙ append_assoc short.before (short.command ∷ short.later) rest;
  wants = short.wants;
  maps = short.maps;
  many = short.many;
  stands = short.stands;
  short = short.short;
}

-- so is one of those that are carried out behind others
short_rest : (schema : Schema) (built : Built) (limit : Option Limits) (p : Playing)
    (front rest : List Command)
    → IsShortAmong schema built limit (after_commands schema p front) rest
    → IsShortAmong schema built limit p (front ++ rest)
short_rest schema built limit p front rest short =
    let same : after_commands schema (after_commands schema p front) short.before
    ≡ after_commands schema p (front ++ short.before) =
    sym (after_both schema p front short.before) in
    let all : IsShortAmong schema built limit p (front ++ rest) = record {
      before = front ++ short.before;
      command = short.command;
      later = short.later;
      parts = ap (λ (cs : List Command). front ++ cs) short.parts
          ∙ sym (append_assoc front short.before (short.command ∷ short.later));
      wants = subst (λ (q : Playing). MayWantRoom schema q short.command) same short.wants;
      maps = short.maps;
      many = short.many;
      stands = subst (λ (q : Playing). AreInternal schema built short.maps (seen_state q)) same
          short.stands;
      short = subst (λ (q : Playing). IsCrowdedBy limit (entry_count short.maps
          + state_entries built (seen_state (after_command schema q short.command)))) same
          short.short;
    } in
    all

-- ---- one command, and several

module _ {S : Type 0} (g : Ghosts S) where
  pub at_after : (p : Playing) (c : Command) (old new : Engine S) (out now : List ℕ)
      → schema_of new ≡ schema_of old → built_of new ≡ built_of old
      → CarriesOut g p c old new out now → g.whole (leaves_of new)
      → g.kept_whole (leaves_of new) → IsAt g (after_command (schema_of old) p c) new
  at_after p c old new out now schema built carried whole kept = record {
    stands = subst (λ (x : Schema). Stands x (built_of new) (is_open new) (commits_of new)
        (g.working (leaves_of new)) (g.kept (leaves_of new)) (after_command (schema_of old) p c))
        (sym schema)
        (subst (λ (b : Built). Stands (schema_of old) b (is_open new) (commits_of new)
        (g.working (leaves_of new)) (g.kept (leaves_of new)) (after_command (schema_of old) p c))
        (sym built) carried.stands);
    whole_is = whole;
    kept_whole_is = kept;
  }

  pub stepped_at : (p : Playing) (c : Command) (old new : Engine S) (out now : List ℕ)
      (r : Result (Unit {0}) StepStop) → IsAt g p old
      → OnOk r (CarriesOut g p c old new out now) → EndsStep g old new c out now r
      → OnOk r (IsAt g (after_command (schema_of old) p c) new)
  stepped_at p c old new out now (Ok x) at carried ends =
      at_after p c old new out now ends.keeps.schema ends.keeps.built carried
      (ends.keeps.whole at.whole_is at.kept_whole_is)
      (ends.keeps.kept_whole at.whole_is at.kept_whole_is)
  stepped_at p c old new out now (Err why) at carried ends = tt

  pub cause_of_step : (old new : Engine S) (r : Result (Unit {0}) StepStop)
      → HasStepCause g old new r → HasCause g old new r
  cause_of_step old new r cause = record {
    later = cause.later;
    fault = cause.fault;
    counted = cause.counted;
    damaged = cause.damaged;
    block = λ n is whole kept. cause.block n is whole;
  }

  pub carries_step : (c : Command) (old new : Engine S) (out now : List ℕ)
      (r : Result (Unit {0}) StepStop) → IsReady g old → stop_of old ≡ None → is_commit c ≡ false
      → inside_after (is_open old) c ≡ true
      → ((p : Playing) → IsAt g p old → OnOk r (CarriesOut g p c old new out now))
      → ((p : Playing) → IsAt g p old → r ≡ Err (Now stop.Full) → IsShortFor g old p c)
      → EndsStep g old new c out now r → CarriesOn g (c ∷ []) old new r
  carries_step c old new out now r ready going quiet inside carried full ends = record {
    carried = λ p at. stepped_at p c old new out now r at (carried p at) ends;
    full = λ p at is. record {
      before = [];
      command = c;
      later = [];
      parts = refl;
      wants = (full p at is).0;
      maps = g.working (leaves_of old);
      many = sym ready.owned.each;
      stands = at.stands.working_is;
      short = (full p at is).1;
    };
    keeps = record {
      schema = ends.keeps.schema;
      built = ends.keeps.built;
      inside = on_ok r (λ (same : is_open new ≡ inside_after (is_open old) c). same ∙ inside)
          ends.keeps.inside;
      keeps = ends.keeps.keeps quiet;
      whole = ends.keeps.whole;
      served = subst (λ (o : Option Stop). IsServed o (stop_of new) r) going ends.served;
      cause = cause_of_step old new r ends.cause;
      ready = ends.ready;
    };
  }

  pub carries_none : (e : Engine S) → IsReady g e → stop_of e ≡ None → is_open e ≡ true
      → CarriesOn g [] e e (Ok tt)
  carries_none e ready going inside = record {
    carried = λ p at. at;
    full = λ p at is. absurd cc;
    keeps = record {
      schema = refl;
      built = refl;
      inside = inside;
      keeps = keeps_itself g (leaves_of e);
      whole = λ whole kept. whole;
      served = going;
      cause = record {
        later = omega arith;
        fault = λ is. absurd cc;
        counted = λ none. refl;
        damaged = λ block is. absurd cc;
        block = λ n is. absurd cc;
      };
      ready = ready;
    };
  }

  -- a call that only reads was given up
  pub carries_read : (cs : List Command) (old new : Engine S) (why : StepStop)
      → stop_of old ≡ None → EndsReading g old new (Err why) → CarriesOn g cs old new (Err why)
  carries_read cs old new why going ends = record {
    carried = λ p at. tt;
    full = λ p at is. absurd (ends.not_full is);
    keeps = record {
      schema = ends.keeps.schema;
      built = ends.keeps.built;
      inside = tt;
      keeps = ends.keeps.keeps;
      whole = tt;
      served = subst (λ (o : Option Stop). IsServed o (stop_of new) (Err why)) going ends.served;
      cause = cause_of_step old new (Err why) ends.cause;
      ready = ends.ready;
    };
  }

  pub cause_then : (a b c : Engine S) (r : Result (Unit {0}) StepStop) → KeepsLast g a b (Ok tt)
      → (IsSound g a → IsSound g b) → HasCause g b c r → HasCause g a c r
  cause_then a b c r x sound cause =
      let same : g.faults (leaves_of b) ≡ g.faults (leaves_of a) = x.cause.counted refl in
      record {
        later = subst (λ n. n ≤ g.faults (leaves_of c)) same cause.later;
        fault = λ is. subst (λ n. Rose n (g.faults (leaves_of c))) same (cause.fault is);
        counted = λ none. cause.counted none ∙ same;
        damaged = λ block is whole. cause.damaged block is (sound whole);
        block = λ n is whole kept.
            cause.block n is (x.whole whole kept) (x.keeps.kept_whole.0 kept);
      }

  -- where the first commands were carried out, it ends as the others do
  keeps_then : (a b c : Engine S) (r : Result (Unit {0}) StepStop)
      → (IsSound g a → IsSound g b) → KeepsLast g a b (Ok tt) → KeepsLast g b c r
      → KeepsLast g a c r
  keeps_then a b c r sound x y = record {
    schema = y.schema ∙ x.schema;
    built = y.built ∙ x.built;
    inside = y.inside;
    keeps = keeps_joined g x.keeps y.keeps;
    whole = on_ok r (λ (w : g.whole (leaves_of b) → g.kept_whole (leaves_of b)
        → g.whole (leaves_of c)). λ whole kept.
        w (x.whole whole kept) (x.keeps.kept_whole.0 kept)) y.whole;
    served = y.served;
    cause = cause_then a b c r x sound y.cause;
    ready = y.ready;
  }

  pub sound_after : (cs : List Command) (a b : Engine S) → CarriesOn g cs a b (Ok tt)
      → IsSound g a → IsSound g b
  sound_after cs a b x sound = (after_commands (schema_of a) sound.0 cs, x.carried sound.0 sound.1)

  pub carries_then : (cs ds : List Command) (a b c : Engine S) (r : Result (Unit {0}) StepStop)
      → CarriesOn g cs a b (Ok tt) → CarriesOn g ds b c r → CarriesOn g (cs ++ ds) a c r
  carries_then cs ds a b c r x y = record {
    carried = λ p at. subst (λ (q : Playing). OnOk r (IsAt g q c))
        (ap (λ (schema : Schema).
        after_commands schema (after_commands (schema_of a) p cs) ds) x.keeps.schema
        ∙ sym (after_both (schema_of a) p cs ds))
        (y.carried (after_commands (schema_of a) p cs) (x.carried p at));
    full = λ p at is.
        let q = after_commands (schema_of a) p cs in
        short_rest (schema_of a) (built_of a) (g.limit (leaves_of a)) p cs ds
        (subst (λ (limit : Option Limits). IsShortAmong (schema_of a) (built_of a) limit q ds)
        x.keeps.keeps.limit
        (subst (λ (built : Built).
        IsShortAmong (schema_of a) built (g.limit (leaves_of b)) q ds) x.keeps.built
        (subst (λ (schema : Schema).
        IsShortAmong schema (built_of b) (g.limit (leaves_of b)) q ds) x.keeps.schema
        (y.full q (x.carried p at) is))));
    keeps = keeps_then a b c r (sound_after cs a b x) x.keeps y.keeps;
  }

  -- given up before the others
  pub carries_front : (cs ds : List Command) (a b : Engine S) (why : StepStop)
      → CarriesOn g cs a b (Err why) → CarriesOn g (cs ++ ds) a b (Err why)
  carries_front cs ds a b why x = record {
    carried = λ p at. tt;
    full = λ p at is. short_front (schema_of a) (built_of a) (g.limit (leaves_of a)) p cs ds
        (x.full p at is);
    keeps = x.keeps;
  }

-- ---- lists of commands in parts, where x is the i-th of a list

-- those of the first i and that of the next
pub of_more : {A : Type 0} (f : A → Command) (xs : List A) (i : ℕ) (x : A) → i < length xs
    → x ≡ get_or xs i x → map f (take (i + 1) xs) ≡ map f (take i xs) ++ f x ∷ []
of_more f xs i x lt is =
    ap (map f) (take_more xs i x lt) ∙ map-append f (take i xs) (get_or xs i x ∷ [])
    ∙ ap (λ y. map f (take i xs) ++ f y ∷ []) (sym is)

-- and those behind them
pub of_split : {A : Type 0} (f : A → Command) (xs : List A) (i : ℕ) (x : A) → i < length xs
    → x ≡ get_or xs i x
    → (map f (take i xs) ++ f x ∷ []) ++ map f (drop (i + 1) xs) ≡ map f xs
of_split f xs i x lt is =
    ap (λ (cs : List Command). cs ++ map f (drop (i + 1) xs)) (sym (of_more f xs i x lt is))
    ∙ sym (map-append f (take (i + 1) xs) (drop (i + 1) xs))
    ∙ ap (map f) (take-append-drop (i + 1) xs)

each_both : {A : Type 0} (f : ℕ → A → List Command) (n m : ℕ) (front rest : List A)
    → n + length front ≡ m
    → each_from f n (front ++ rest) ≡ each_from f n front ++ each_from f m rest
each_both f n m [] rest is =
    let same : n ≡ m = omega (arith, is) in ap (λ k. each_from f k rest) same
each_both f n m (x ∷ front) rest is =
    ap (λ (cs : List Command). f n x ++ cs)
    (each_both f (n + 1) m front rest (omega (arith, is)))
    ∙ sym (append_assoc (f n x) (each_from f (n + 1) front) (each_from f m rest))

-- the same where each one has several commands
pub each_more : {A : Type 0} (f : ℕ → A → List Command) (xs : List A) (i : ℕ) (x : A)
    → i < length xs → x ≡ get_or xs i x
    → each_from f 0 (take (i + 1) xs) ≡ each_from f 0 (take i xs) ++ f i x
each_more f xs i x lt is =
    let long : length (take i xs) ≡ i = length-take-le i xs (omega (arith, lt)) in
    ap (each_from f 0) (take_more xs i x lt)
    ∙ each_both f 0 i (take i xs) (get_or xs i x ∷ []) (omega (arith, long))
    ∙ ap (λ (cs : List Command). each_from f 0 (take i xs) ++ cs) (append-nil (f i (get_or xs i x)))
    ∙ ap (λ y. each_from f 0 (take i xs) ++ f i y) (sym is)

pub each_split : {A : Type 0} (f : ℕ → A → List Command) (xs : List A) (i : ℕ) (x : A)
    → i < length xs → x ≡ get_or xs i x
    → (each_from f 0 (take i xs) ++ f i x) ++ each_from f (i + 1) (drop (i + 1) xs)
    ≡ each_from f 0 xs
each_split f xs i x lt is =
    let long : length (take (i + 1) xs) ≡ i + 1 =
    length-take-le (i + 1) xs (omega (arith, lt)) in
    ap (λ (cs : List Command). cs ++ each_from f (i + 1) (drop (i + 1) xs))
    (sym (each_more f xs i x lt is))
    ∙ sym (each_both f 0 (i + 1) (take (i + 1) xs) (drop (i + 1) xs) (omega (arith, long)))
    ∙ ap (each_from f 0) (take-append-drop (i + 1) xs)

-- ---- what each of them meets

pub due_one : {A : Type 0} (P : Command → Type 0) (f : A → Command) (xs : List A) (i : ℕ) (x : A)
    → i < length xs → x ≡ get_or xs i x → AllByRecursion P (map f xs) → P (f x)
due_one P f xs i x lt is all =
    (all_rest P (map f (take i xs)) (f x ∷ [])
    (all_front P (map f (take i xs) ++ f x ∷ []) (map f (drop (i + 1) xs))
    (subst (AllByRecursion P) (sym (of_split f xs i x lt is)) all))).0

pub due_each : {A : Type 0} (P : Command → Type 0) (f : ℕ → A → List Command) (xs : List A)
    (i : ℕ) (x : A) → i < length xs → x ≡ get_or xs i x → AllByRecursion P (each_from f 0 xs)
    → AllByRecursion P (f i x)
due_each P f xs i x lt is all =
    all_rest P (each_from f 0 (take i xs)) (f i x)
    (all_front P (each_from f 0 (take i xs) ++ f i x) (each_from f (i + 1) (drop (i + 1) xs))
    (subst (AllByRecursion P) (sym (each_split f xs i x lt is)) all))
