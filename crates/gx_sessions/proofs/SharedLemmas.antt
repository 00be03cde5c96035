-- What an engine stands for while the commands of sessions are carried out.
use Rattle.std.proofs.Common.{◌≡◌, ℕ, suc, ◌+◌, ◌<◌, ◌≤◌, List, [], ◌∷◌, ◌++◌, length, get_or, take, drop, Bool, true, false, cond, Option, Some, None, unwrap_or, Result, Ok, Err, OnOk, refl, sym, ap, subst, ◌∙◌, arith, eq-eqb, append_assoc, take-append-drop, drop-cons}
use Rattle.std.specs.Prelude.{IsErrAnd}
use Rattle.std.proofs.lemmas.Bool.{true≢false}
use Rattle.std.proofs.lemmas.List.{take_more}
use Rattle.gx_device.specs.Faults.{Rose}
use Rattle.gx_schema.specs.declared.schema.Schema.{Schema}
use Rattle.gx_commands.specs.declared.command.Command.{Command}
use Rattle.gx_commands.specs.declared.command.Command.TheVariants as command
use Rattle.gx_commands.specs.declared.command.LineWhy.{LineWhy}
use Rattle.gx_commands.specs.Commands.{place_reason}
use Rattle.gx_ports.specs.Calls.{Keeps}
use Rattle.gx_ports.specs.LeafMaps.{Limits, IsCrowdedBy, entry_count}
use Rattle.gx_ports.specs.Stops.{HasStopCause}
use Rattle.gx_ports.specs.declared.stop.Stop.{Stop}
use Rattle.gx_ports.specs.declared.stop.Stop.TheVariants as stop
use Rattle.gx_ports.specs.declared.view.View.{Ghosts}
use Rattle.gx_types.specs.declared.built.Built.{Built}
use Rattle.gx_states.specs.Internal.{state_entries}
use Rattle.gx_model.specs.States.{State}
use Rattle.gx_model.specs.Commands.{next_state}
use Rattle.gx_model.specs.Play.{Playing, after_command, seen_state}
use Rattle.gx_engine.specs.declared.engine.Engine.{Engine}
use Rattle.gx_engine.specs.Moments.{Stands, AreInternal, MayWantRoom, may_want_room}
use Rattle.gx_engine.specs.Steps.{schema_of, built_of, leaves_of, is_open, commits_of, stop_of, IsReady, IsAt, IsSound, IsShortFor, CarriesOut, KeepsEngine, is_commit}
use Rattle.gx_sharing.specs.Kept.{is_kept, kept_of}
use Rattle.gx_sharing.specs.Sharing.{Sharing, Session, outside, inside, ended, answered, played, view_in, play_of, session_after, after_turn}
use Rattle.gx_sharing.proofs.Carried.{is_control, Kind, begins, commits, aborts, plain, kind_of, plain_after, plain_session, played_push}
use Rattle.gx_sharing.proofs.Replays.{kept_played}
use Rattle.gx_sessions.specs.declared.session.SessionState.{SessionState}
use Rattle.gx_sessions.specs.declared.session.Standing.TheVariants.{Inside}
use Rattle.gx_sessions.specs.Standings.{IsSession, stands_in}
use Rattle.gx_sessions.specs.Shared.{seeing, IsShared, IsShortAmong, Carries}

-- how a call ends that gives another's error on
pub err_is : {T E : Type 0} (r : Result T E) (e : E) → IsErrAnd r (λ y. y ≡ e) → r ≡ Err e
err_is (Ok x) e h = absurd h
err_is {E = E} (Err y) e h = ap (λ (x : E). Err x) h

-- ---- commands that are kept, and those that want room

pub kept_plain : (c : Command) → is_kept c ≡ true → is_control c ≡ false
kept_plain c e = go c (kind_of c) e
  where
    go : (d : Command) → Kind d → is_kept d ≡ true → is_control d ≡ false
    go command.Begin begins same = absurd (true≢false (sym same))
    go command.Commit commits same = absurd (true≢false (sym same))
    go command.Abort aborts same = absurd (true≢false (sym same))
    go d (plain h) same = h

wanting_plain : (c : Command) → may_want_room c ≡ true → is_control c ≡ false
wanting_plain c e = go c (kind_of c) e
  where
    go : (d : Command) → Kind d → may_want_room d ≡ true → is_control d ≡ false
    go command.Begin begins same = absurd (true≢false (sym same))
    go command.Commit commits same = absurd (true≢false (sym same))
    go command.Abort aborts same = absurd (true≢false (sym same))
    go d (plain h) same = h

some_reason : (why : LineWhy) → ◌≡◌ {A = Option LineWhy} (Some why) None → ⊥
some_reason why e = cc

-- what may stand outside wants no room
pub outside_wants_none : (c : Command) → place_reason false c ≡ None → may_want_room c ≡ true → ⊥
outside_wants_none command.Begin e want = true≢false (sym want)
outside_wants_none command.Commit e want = true≢false (sym want)
outside_wants_none command.Abort e want = true≢false (sym want)
outside_wants_none command.Nothing e want = true≢false (sym want)
outside_wants_none (command.Get f key) e want = true≢false (sym want)
outside_wants_none (command.Members l owner order) e want = true≢false (sym want)
outside_wants_none (command.Owner l member) e want = true≢false (sym want)
outside_wants_none (command.Find q) e want = true≢false (sym want)
outside_wants_none (command.Delete f key) e want = true≢false (sym want)
outside_wants_none (command.Insert f values) e want = some_reason _ e
outside_wants_none (command.Update f key changes) e want = some_reason _ e
outside_wants_none (command.Connect l owner member) e want = some_reason _ e
outside_wants_none (command.Disconnect l member) e want = some_reason _ e
outside_wants_none (command.ReorganizeFile f) e want = some_reason _ e
outside_wants_none (command.ReorganizeLink l) e want = some_reason _ e

-- ---- views

-- what a session sees after a command that was carried out on its view
view_after : (schema : Schema) (p : Sharing) (n : ℕ) (c : Command)
    → (after_command schema (play_of schema p n) c).working
    ≡ view_in schema (after_command schema (play_of schema p n) c).kept
    (session_after (p.session n) c)
view_after schema p n c = go (p.session n) c (kind_of c)
  where
    sees : Session → Playing
    sees s = record {
      earlier = p.earlier;
      kept = p.kept;
      working = view_in schema p.kept s;
      commits = p.commits;
    }

    plain_view : (s : Session) (d : Command) → is_control d ≡ false
        → (after_command schema (sees s) d).working
        ≡ view_in schema (after_command schema (sees s) d).kept (session_after s d)
    plain_view outside d h =
        ap (λ (q : Playing). q.working) (plain_after schema (sees outside) d h)
        ∙ ap (view_in schema (after_command schema (sees outside) d).kept)
        (sym (plain_session outside d h))
    plain_view ended d h =
        ap (λ (q : Playing). q.working) (plain_after schema (sees ended) d h)
        ∙ ap (view_in schema (after_command schema (sees ended) d).kept)
        (sym (plain_session ended d h))
    plain_view (inside cs) d h =
        ap (λ (q : Playing). q.working) (plain_after schema (sees (inside cs)) d h)
        ∙ ap (λ (s : State). Some s) (sym (played_push schema p.kept cs d))
        ∙ ap (λ (k : State). Some (played schema k (cs ++ d ∷ [])))
        (sym (ap (λ (q : Playing). q.kept) (plain_after schema (sees (inside cs)) d h)))
        ∙ ap (view_in schema (after_command schema (sees (inside cs)) d).kept)
        (sym (plain_session (inside cs) d h))

    go : (s : Session) (d : Command) → Kind d → (after_command schema (sees s) d).working
        ≡ view_in schema (after_command schema (sees s) d).kept (session_after s d)
    go outside command.Begin begins = refl
    go (inside cs) command.Begin begins = refl
    go ended command.Begin begins = refl
    go outside command.Commit commits = refl
    go (inside cs) command.Commit commits = refl
    go ended command.Commit commits = refl
    go outside command.Abort aborts = refl
    go (inside cs) command.Abort aborts = refl
    go ended command.Abort aborts = refl
    go s d (plain h) = plain_view s d h

-- ---- what is kept among all that was carried out

abbrev first_or : Command → List Command → Command
first_or d [] = d
first_or d (c ∷ cs) = c

abbrev rest_of : List Command → List Command
rest_of [] = []
rest_of (c ∷ cs) = cs

-- a command that is kept, among all of them
record Split (cs before : List Command) (d : Command) : Type 0 where
  front : List Command
  rest : List Command
  parts : cs ≡ front ++ d ∷ rest
  same : kept_of front ≡ before

split_step : (c : Command) (cs before later : List Command) (d : Command) (b : Bool)
    → is_kept c ≡ b
    → ((front : List Command) → kept_of cs ≡ front ++ d ∷ later → Split cs front d)
    → cond b (c ∷ kept_of cs) (kept_of cs) ≡ before ++ d ∷ later → Split (c ∷ cs) before d
split_step c cs before later d false is again e =
    let r = again before e in record {
      front = c ∷ r.front;
      rest = r.rest;
      parts = ap (λ (es : List Command). c ∷ es) r.parts;
      same = ap (λ (b : Bool). cond b (c ∷ kept_of r.front) (kept_of r.front)) is ∙ r.same;
    }
split_step c cs [] later d true is again e = record {
  front = [];
  rest = cs;
  parts = ap (λ (x : Command). x ∷ cs) (ap (first_or c) e);
  same = refl;
}
split_step c cs (b ∷ bs) later d true is again e =
    let r = again bs (ap rest_of e) in
    let head : c ≡ b = ap (first_or c) e in record {
      front = c ∷ r.front;
      rest = r.rest;
      parts = ap (λ (es : List Command). c ∷ es) r.parts;
      same = ap (λ (t : Bool). cond t (c ∷ kept_of r.front) (kept_of r.front)) is
          ∙ (λ i. head i ∷ r.same i);
    }

kept_split : (cs before later : List Command) (d : Command)
    → kept_of cs ≡ before ++ d ∷ later → Split cs before d
kept_split [] [] later d e = absurd cc
kept_split [] (b ∷ bs) later d e = absurd cc
kept_split (c ∷ cs) before later d e =
    split_step c cs before later d (is_kept c) refl
    (λ front same. kept_split cs front later d same) e

-- ---- pages that may be too few

module _ {S : Type 0} (g : Ghosts S) where
  pub short_at : (p : Sharing) (cs before : List Command) (c : Command) (later : List Command)
      (schema : Schema) (built : Built) (limit : Option Limits) (e : Engine S)
      → schema_of e ≡ schema → built_of e ≡ built → g.limit (leaves_of e) ≡ limit
      → cs ≡ before ++ c ∷ later
      → IsReady g e → IsAt g (seeing p (Some (played schema p.kept before))) e
      → IsShortFor g e (seeing p (Some (played schema p.kept before))) c
      → IsShortAmong schema built limit p cs
  short_at p cs before c later schema built limit e same_schema same_built same_limit parts
      ready at short =
      let w = played schema p.kept before in
      let q = seeing p (Some w) in
      let next : seen_state (after_command (schema_of e) q c) ≡ next_state schema w c =
      ap seen_state (plain_after (schema_of e) q c (wanting_plain c short.0.kind))
      ∙ ap (λ (x : Schema). next_state x w c) same_schema in
      record {
        before = before;
        command = c;
        later = later;
        parts = parts;
        wants = subst (λ (x : Schema). MayWantRoom x q c) same_schema short.0;
        maps = g.working (leaves_of e);
        many = sym ready.owned.each ∙ ap (λ (b : Built). length b.owners) same_built;
        stands = subst (λ (x : Schema). AreInternal x built (g.working (leaves_of e)) w) same_schema
            (subst (λ (b : Built). AreInternal (schema_of e) b (g.working (leaves_of e)) w)
            same_built at.stands.working_is);
        short = subst (λ (l : Option Limits). IsCrowdedBy l (entry_count (g.working (leaves_of e))
            + state_entries built (next_state schema w c))) same_limit
            (subst (λ (b : Built). IsCrowdedBy (g.limit (leaves_of e))
            (entry_count (g.working (leaves_of e)) + state_entries b (next_state schema w c)))
            same_built
            (subst (λ (s : State). IsCrowdedBy (g.limit (leaves_of e))
            (entry_count (g.working (leaves_of e)) + state_entries (built_of e) s)) next short.1));
      }

-- a command that is carried out again is one of those that were carried out
pub short_more : (schema : Schema) (built : Built) (limit : Option Limits) (p : Sharing)
    (kept cs more : List Command) → kept ≡ kept_of cs
    → IsShortAmong schema built limit p kept → IsShortAmong schema built limit p (cs ++ more)
short_more schema built limit p kept cs more is short =
    let split = kept_split cs short.before short.later short.command (sym is ∙ short.parts) in
    let same : played schema p.kept short.before ≡ played schema p.kept split.front =
    ap (played schema p.kept) (sym split.same) ∙ kept_played schema p.kept split.front in
    record {
      before = split.front;
      command = short.command;
      later = split.rest ++ more;
      parts = ap (λ (es : List Command). es ++ more) split.parts
          ∙ append_assoc split.front (short.command ∷ split.rest) more;
      wants = subst (λ (s : State). MayWantRoom schema (seeing p (Some s)) short.command) same
          short.wants;
      maps = short.maps;
      many = short.many;
      stands = subst (λ (s : State). AreInternal schema built short.maps s) same short.stands;
      short = subst (λ (s : State). IsCrowdedBy limit (entry_count short.maps
          + state_entries built (next_state schema s short.command))) same short.short;
    }

-- ---- steps

module _ {S : Type 0} (g : Ghosts S) where
  pub at_after : (p : Playing) (c : Command) (old new : Engine S) (out now : List ℕ)
      → schema_of new ≡ schema_of old → built_of new ≡ built_of old
      → CarriesOut g p c old new out now → g.whole (leaves_of new)
      → g.kept_whole (leaves_of new) → IsAt g (after_command (schema_of old) p c) new
  at_after p c old new out now schema built carried whole kept = record {
    stands = subst (λ (x : Schema). Stands x (built_of new) (is_open new) (commits_of new)
        (g.working (leaves_of new)) (g.kept (leaves_of new)) (after_command (schema_of old) p c))
        (sym schema)
        (subst (λ (b : Built). Stands (schema_of old) b (is_open new) (commits_of new)
        (g.working (leaves_of new)) (g.kept (leaves_of new)) (after_command (schema_of old) p c))
        (sym built) carried.stands);
    whole_is = whole;
    kept_whole_is = kept;
  }

  pub passed_by : (p : Playing) (c : Command) (old new : Engine S) (out now : List ℕ)
      (r : Result (Unit {0}) Stop) → IsAt g p old → KeepsEngine g old new c r
      → OnOk r (CarriesOut g p c old new out now)
      → OnOk r (IsAt g (after_command (schema_of old) p c) new)
  passed_by p c old new out now (Ok x) at keeps carried =
      at_after p c old new out now keeps.schema keeps.built carried
      (keeps.whole at.whole_is at.kept_whole_is) (keeps.kept_whole at.whole_is at.kept_whole_is)
  passed_by p c old new out now (Err e) at keeps carried = tt

  sound_by : (c : Command) (old new : Engine S) (r : Result (Unit {0}) Stop)
      → ((p : Playing) → IsAt g p old → OnOk r (IsAt g (after_command (schema_of old) p c) new))
      → OnOk r (IsSound g old → IsSound g new)
  sound_by c old new (Ok x) passed =
      λ s. (after_command (schema_of old) s.0 c, passed s.0 s.1)
  sound_by c old new (Err e) passed = tt

  pub carries_by : (c : Command) (old new : Engine S) (r : Result (Unit {0}) Stop)
      → is_commit c ≡ false → KeepsEngine g old new c r
      → HasStopCause (g.faults (leaves_of old)) (g.faults (leaves_of new)) (IsSound g old) r
      → ((n : ℕ) → r ≡ Err (stop.Damaged n) → g.whole (leaves_of old) → n ≡ 0)
      → IsReady g new → OnOk r (stop_of new ≡ None)
      → ((p : Playing) → IsAt g p old → OnOk r (IsAt g (after_command (schema_of old) p c) new))
      → Carries g old new r
  carries_by c old new r quiet keeps cause block ready going passed = record {
    schema = keeps.schema;
    built = keeps.built;
    keeps = keeps.keeps quiet;
    whole = keeps.whole;
    cause = cause;
    block = λ n is whole kept. block n is whole;
    ready = ready;
    going = going;
    sound = sound_by c old new r passed;
  }

  pub keeps_still : (l : S) → Keeps g l l
  keeps_still l = record {
    leaves = refl;
    kept = refl;
    kept_whole = (λ h. h, λ h. h);
    limit = refl;
    head = refl;
    calm = λ s h. h;
    silent = record { said = refl; shelf = refl; script = refl; aside = refl };
  }

  pub carries_still : (e : Engine S) → IsReady g e → stop_of e ≡ None → Carries g e e (Ok tt)
  carries_still e ready going = record {
    schema = refl;
    built = refl;
    keeps = keeps_still (leaves_of e);
    whole = λ w k. w;
    cause = record {
      later = omega arith;
      fault = λ is. absurd cc;
      counted = λ none. refl;
      damaged = λ block is. absurd cc;
    };
    block = λ n is. absurd cc;
    ready = ready;
    going = going;
    sound = λ s. s;
  }

  pub keeps_then : (a b c : S) → Keeps g a b → Keeps g b c → Keeps g a c
  keeps_then a b c x y = record {
    leaves = y.leaves ∙ x.leaves;
    kept = y.kept ∙ x.kept;
    kept_whole = (λ h. y.kept_whole.0 (x.kept_whole.0 h), λ h. x.kept_whole.1 (y.kept_whole.1 h));
    limit = y.limit ∙ x.limit;
    head = y.head ∙ x.head;
    calm = λ s h. y.calm s (x.calm s h);
    silent = record {
      said = y.silent.said ∙ x.silent.said;
      shelf = y.silent.shelf ∙ x.silent.shelf;
      script = y.silent.script ∙ x.silent.script;
      aside = y.silent.aside ∙ x.silent.aside;
    };
  }

  -- where the first steps were carried out, the causes are those of the last
  pub cause_then : {T : Type 0} (a b c : Engine S) (r : Result T Stop)
      → g.faults (leaves_of b) ≡ g.faults (leaves_of a) → (IsSound g a → IsSound g b)
      → HasStopCause (g.faults (leaves_of b)) (g.faults (leaves_of c)) (IsSound g b) r
      → HasStopCause (g.faults (leaves_of a)) (g.faults (leaves_of c)) (IsSound g a) r
  cause_then a b c r same sound cause = record {
    later = subst (λ n. n ≤ g.faults (leaves_of c)) same cause.later;
    fault = λ is. subst (λ n. Rose n (g.faults (leaves_of c))) same (cause.fault is);
    counted = λ none. cause.counted none ∙ same;
    damaged = λ block is whole. cause.damaged block is (sound whole);
  }

  whole_then : (a b c : Engine S) (r : Result (Unit {0}) Stop) → Carries g a b (Ok tt)
      → OnOk r (g.whole (leaves_of b) → g.kept_whole (leaves_of b) → g.whole (leaves_of c))
      → OnOk r (g.whole (leaves_of a) → g.kept_whole (leaves_of a) → g.whole (leaves_of c))
  whole_then a b c (Ok x) first w =
      λ whole kept. w (first.whole whole kept) (first.keeps.kept_whole.0 kept)
  whole_then a b c (Err e) first w = tt

  sound_then : (a b c : Engine S) (r : Result (Unit {0}) Stop)
      → (IsSound g a → IsSound g b) → OnOk r (IsSound g b → IsSound g c)
      → OnOk r (IsSound g a → IsSound g c)
  sound_then a b c (Ok x) first w = λ s. w (first s)
  sound_then a b c (Err e) first w = tt

  pub carries_then : (a b c : Engine S) (r : Result (Unit {0}) Stop) → Carries g a b (Ok tt)
      → Carries g b c r → Carries g a c r
  carries_then a b c r x y = record {
    schema = y.schema ∙ x.schema;
    built = y.built ∙ x.built;
    keeps = keeps_then (leaves_of a) (leaves_of b) (leaves_of c) x.keeps y.keeps;
    whole = whole_then a b c r x y.whole;
    cause = cause_then a b c r (x.cause.counted refl) x.sound y.cause;
    block = λ n is whole kept.
        y.block n is (x.whole whole kept) (x.keeps.kept_whole.0 kept);
    ready = y.ready;
    going = y.going;
    sound = sound_then a b c r x.sound y.sound;
  }

  -- given up for want of memory
  pub carries_unmade : (a b : Engine S) (e : Stop) → Carries g a b (Ok tt) → e ≡ stop.NoMemory
      → Carries g a b (Err e)
  carries_unmade a b e x is = subst (λ (why : Stop). Carries g a b (Err why)) (sym is) (record {
    schema = x.schema;
    built = x.built;
    keeps = x.keeps;
    whole = tt;
    cause = record {
      later = x.cause.later;
      fault = λ same. absurd cc;
      counted = λ none. x.cause.counted refl;
      damaged = λ block same. absurd cc;
    };
    block = λ n same. absurd cc;
    ready = x.ready;
    going = tt;
    sound = tt;
  })

  -- ---- commands that are kept, carried out again

  pub again_more : (first now : Schema) (p : Sharing) (kept : List Command) (i : ℕ) (c : Command)
      (new : Engine S) → now ≡ first → i < length kept → c ≡ get_or kept i command.Nothing
      → is_kept c ≡ true
      → IsAt g (after_command now (seeing p (Some (played first p.kept (take i kept)))) c) new
      → IsAt g (seeing p (Some (played first p.kept (take (i + 1) kept)))) new
  again_more first now p kept i c new same lt is keeps at =
      let w = played first p.kept (take i kept) in
      subst (λ (t : State). IsAt g (seeing p (Some t)) new)
      (ap (λ (x : Schema). next_state x w c) same ∙ ap (λ (d : Command). next_state first w d) is
      ∙ sym (played_push first p.kept (take i kept) (get_or kept i command.Nothing))
      ∙ ap (played first p.kept) (sym (take_more kept i command.Nothing lt)))
      (subst (λ (q : Playing). IsAt g q new)
      (plain_after now (seeing p (Some w)) c (kept_plain c keeps)) at)

  pub split_here : (kept : List Command) (i : ℕ) (c : Command) → i < length kept
      → c ≡ get_or kept i command.Nothing → kept ≡ take i kept ++ c ∷ drop (i + 1) kept
  split_here kept i c lt is =
      sym (take-append-drop i kept) ∙ ap (λ (es : List Command). take i kept ++ es)
      (drop-cons kept i command.Nothing lt
      ∙ (λ k. sym is k ∷ (let e : suc i ≡ i + 1 = omega arith in ap (λ n. drop n kept) e) k))

  -- the open transaction of a session sees what its kept commands make
  pub opened_inside : (schema now : Schema) (p : Sharing) (s : Session) (state : SessionState)
      (kept : List Command) (e : Engine S) → now ≡ schema → state.standing ≡ Inside
      → IsSession schema s state → kept ≡ state.kept.items
      → IsAt g (seeing p (Some (played now p.kept kept))) e
      → IsAt g (seeing p (view_in schema p.kept s)) e
  opened_inside schema now p outside state kept e same open_ is all at =
      absurd (true≢false (sym (ap stands_in open_) ∙ ap stands_in is.standing))
  opened_inside schema now p ended state kept e same open_ is all at =
      absurd (true≢false (sym (ap stands_in open_) ∙ ap stands_in is.standing))
  opened_inside schema now p (inside cs) state kept e same open_ is all at =
      subst (λ (t : State). IsAt g (seeing p (Some t)) e)
      (ap (λ (x : Schema). played x p.kept kept) same ∙ ap (played schema p.kept) (all ∙ is.kept)
      ∙ kept_played schema p.kept cs) at

  -- ---- after a command

  own_after : (a b : ℕ) → ◌≡◌ {A = Option ℕ} (Some a) (Some b) → b ≡ a
  own_after a b e = sym (ap (λ (o : Option ℕ). unwrap_or o a) e)

  pub shared_after : (schema : Schema) (p : Sharing) (n : ℕ) (c : Command) (carried : Option ℕ)
      (new : Engine S) → schema_of new ≡ schema → carried ≡ Some n
      → IsAt g (after_command schema (play_of schema p n) c) new
      → IsShared g (after_turn schema p n c answered) carried new
  shared_after schema p n c carried new same is at = record {
    working = (after_command schema (play_of schema p n) c).working;
    at = at;
    own = λ m mine.
        let m_is : m ≡ n = own_after n m (sym is ∙ mine) in
        let q = after_command schema (play_of schema p n) c in
        view_after schema p n c
        ∙ ap (λ (x : Schema). view_in x q.kept (session_after (p.session n) c)) (sym same)
        ∙ ap (view_in (schema_of new) q.kept)
        (sym (ap (λ (b : Bool). cond b (session_after (p.session n) c) (p.session m))
        (eq-eqb m n m_is)));
  }
