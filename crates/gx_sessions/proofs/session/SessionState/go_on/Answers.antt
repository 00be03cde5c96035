use Rattle.std.proofs.Common.{◌≡◌, ◌∙◌, List, length, ap, sym, subst, refl, arith}
use Rattle.std.proofs.lemmas.List.{with_items_is}
use Rattle.std.specs.Vec.{with_items}
use Rattle.gx_sessions.specs.declared.locks.Lock.{Lock}
use Rattle.gx_sessions.specs.Standings.{AreKept, AreStronger}
use Rattle.gx_sessions.proofs.StandingLemmas.{went_on, kept_more}
use Rattle.gx_sessions.proofs.session.SessionState.go_on.Goals as goal

pub returns-clause-went : goal.returns-clause-went
returns-clause-went c = λ cs is.
    let locks = c.args.self.now.locks in
    let long : length c.take_locks.new.locks ≡ length locks.items =
    c.take_locks.ensures.many ∙ ap (λ (l : List Lock). length l) c.deref_mut.ensures.value in
    let back : (with_items locks c.take_locks.new.locks).items ≡ c.take_locks.new.locks =
    with_items_is locks c.take_locks.new.locks (omega (arith, long, locks.ok.0)) in
    went_on c.args.schema.now cs c.args.command.now c.args.self.now
    (record {
      standing = c.args.self.now.standing;
      kept = c.keep.new.kept;
      locks = with_items locks c.take_locks.new.locks;
    }) is refl c.in_ok-keep.ensures.ok
    (subst (λ (new : List Lock). AreStronger c.args.schema.now c.args.command.now locks.items new)
    (sym back)
    (subst (λ (old : List Lock). AreStronger c.args.schema.now c.args.command.now old
    c.take_locks.new.locks) c.deref_mut.ensures.value c.take_locks.ensures))

pub returns-clause-whole : goal.returns-clause-whole
returns-clause-whole c =
    let locks = c.args.self.now.locks in
    let long : length c.take_locks.new.locks ≡ length locks.items =
    c.take_locks.ensures.many ∙ ap (λ (l : List Lock). length l) c.deref_mut.ensures.value in
    let back : (with_items locks c.take_locks.new.locks).items ≡ c.take_locks.new.locks =
    with_items_is locks c.take_locks.new.locks (omega (arith, long, locks.ok.0)) in
    record {
      places = ap (λ (l : List Lock). length l) back ∙ long ∙ c.requires.whole.places;
      replayed = subst (AreKept c.args.schema.now) (sym c.in_ok-keep.ensures.ok)
          (kept_more c.args.schema.now c.args.self.now.kept.items c.args.command.now
          c.requires.whole.replayed c.requires.of_schema);
    }
