-- Calls that only read, one after the other, and the end of the last one.
use Rattle.std.proofs.Common.{◌≡◌, ◌∙◌, ℕ, Ok, Err, refl, sym, ap, subst, arith}
use Rattle.std.specs.Prelude.{Result}
use Rattle.std.specs.Result.{IsErrAnd}
use Rattle.std.proofs.lemmas.Result.{on_ok_weaker, err_from_is_err_and}
use Rattle.gx_device.specs.Faults.{Rose}
use Rattle.gx_ports.specs.declared.stop.Stop.{Stop}
use Rattle.gx_ports.specs.declared.stop.Stop.TheVariants.{Fault, Full, Damaged}
use Rattle.gx_ports.specs.declared.view.View.{Ghosts}
use Rattle.gx_ports.specs.Calls.{Reads, Ends, ReadsLeaf, ReadsMaps}
use Rattle.gx_ports.proofs.CallLemmas.{reads_joined}

-- a stop that is given on is the same
pub given_on : {U : Type 0} {e : Stop} (r : Result U Stop) → IsErrAnd r (λ y. y ≡ e) → r ≡ Err e
given_on r given = let p = err_from_is_err_and r given in p.1 ∙ ap Err p.2

pub same_stop : {T U : Type 0} {e : Stop} (r : Result U Stop) (why : Stop) → IsErrAnd r (λ y. y ≡ e)
    → r ≡ Err why
    → ◌≡◌ {A = Result T Stop} (Err e) (Err why)
same_stop {e = e} r why given is =
    let both = sym (given_on r given) ∙ is in
    let same : e ≡ why = cc in
    ap Err same

-- calls that answered Ok
pub record Passes {S : Type 0} (g : Ghosts S) (old new : S) : Type 0 where
  pub reads : Reads g old new
  pub whole : g.whole old → g.whole new
  pub counted : g.faults new ≡ g.faults old

module _ {S : Type 0} (g : Ghosts S) where
  pub passes_joined : {a b c : S} → Passes g a b → Passes g b c → Passes g a c
  passes_joined x y = record {
    reads = reads_joined g x.reads y.reads;
    whole = λ h. y.whole (x.whole h);
    counted = y.counted ∙ x.counted;
  }

  -- a call passes where it answers Ok
  pub passes : {T : Type 0} {a b : S} {sound : Type 0} {x : T} → Reads g a b
      → Ends g sound a b (Ok x) → Passes g a b
  passes reads ends = record { reads = reads; whole = ends.whole; counted = ends.counted refl }

  pub leaf_passes : {T : Type 0} {a b : S} {sound : Type 0} {x : T} → ReadsLeaf g sound a b (Ok x)
      → Passes g a b
  leaf_passes x = passes x.reads x.ends

  -- a call after those that passed
  pub ends_after : {T : Type 0} {a b c : S} (r : Result T Stop) {sound before : Type 0}
      → Passes g a b → (before → sound)
      → Ends g sound b c r → Ends g before a c r
  ends_after {c = c} r p to x = record {
    whole = on_ok_weaker r (λ then h. then (p.whole h)) x.whole;
    later = omega (arith, p.counted, x.later);
    fault = λ e. subst (λ n. Rose n (g.faults c)) p.counted (x.fault e);
    counted = λ e. x.counted e ∙ p.counted;
    damaged = λ block e h. x.damaged block e (to h);
  }

  -- a stop that is given on
  pub ends_given : {T U : Type 0} {a b : S} {e : Stop} (r : Result U Stop) {sound before : Type 0}
      → IsErrAnd r (λ y. y ≡ e)
      → (before → sound) → Ends {T = T} g sound a b (Err e) → Ends {T = U} g before a b r
  ends_given {T = T} {a = a} {b = b} {e = e} r {before = before} given to x =
      subst (λ (q : Result _ Stop). Ends g before a b q) (sym (given_on r given)) (record {
        whole = tt;
        later = x.later;
        fault = λ is. let same : e ≡ Fault = cc in x.fault (ap Err same);
        counted = λ none. x.counted none;
        damaged = λ block is h. let same : e ≡ Damaged block = cc in
            x.damaged block (ap Err same) (to h);
      })

  -- the same of a call after those that passed
  pub ends_given_after : {T U : Type 0} {a b c : S} {e : Stop}
      (r : Result U Stop) {sound before : Type 0} → IsErrAnd r (λ y. y ≡ e)
      → Passes g a b → (before → sound) → Ends {T = T} g sound b c (Err e)
      → Ends {T = U} g before a c r
  ends_given_after r given p to x = ends_given r given (λ h. h) (ends_after _ p to x)

  -- ---- calls that only read

  -- one passes where it answers Ok
  pub read_passes : {T : Type 0} {a b : S} {sound : Type 0} {x : T} → ReadsMaps g sound a b (Ok x)
      → Passes g a b
  read_passes x = passes x.reads x.ends

  -- it is sound in a narrower sense
  pub reads_weaker : {T : Type 0} {a b : S} {r : Result T Stop} {sound before : Type 0}
      → (before → sound) → ReadsMaps g sound a b r
      → ReadsMaps g before a b r
  reads_weaker to x = record {
    reads = x.reads;
    ends = record {
      whole = x.ends.whole;
      later = x.ends.later;
      fault = x.ends.fault;
      counted = x.ends.counted;
      damaged = λ block e h. x.ends.damaged block e (to h);
    };
    block = x.block;
    not_full = x.not_full;
  }

  -- one after those that passed
  pub reads_after : {T : Type 0} {a b c : S} (r : Result T Stop) {sound before : Type 0}
      → Passes g a b → (before → sound)
      → ReadsMaps g sound b c r → ReadsMaps g before a c r
  reads_after r p to x = record {
    reads = reads_joined g p.reads x.reads;
    ends = ends_after r p to x.ends;
    block = λ n e whole. x.block n e (p.whole whole);
    not_full = x.not_full;
  }

  -- its stop is given on
  pub reads_given : {T U : Type 0} {a b : S} {e : Stop} (r : Result U Stop) {sound before : Type 0}
      → IsErrAnd r (λ y. y ≡ e)
      → (before → sound) → ReadsMaps {T = T} g sound a b (Err e) → ReadsMaps {T = U} g before a b r
  reads_given r given to x = record {
    reads = x.reads;
    ends = ends_given r given to x.ends;
    block = λ n is whole. x.block n (same_stop r (Damaged n) given is) whole;
    not_full = λ is. x.not_full (same_stop r Full given is);
  }

  -- the same of one after those that passed
  pub reads_given_after : {T U : Type 0} {a b c : S} {e : Stop}
      (r : Result U Stop) {sound before : Type 0} → IsErrAnd r (λ y. y ≡ e)
      → Passes g a b → (before → sound) → ReadsMaps {T = T} g sound b c (Err e)
      → ReadsMaps {T = U} g before a c r
  reads_given_after r given p to x = reads_given r given (λ h. h) (reads_after _ p to x)

  -- one that stops where what was read shows that something isn't sound
  pub reads_stopped : {U : Type 0} {before : Type 0} {a b : S} (n : ℕ) → n ≡ 0 → (before → ⊥)
      → Passes g a b
      → ReadsMaps {T = U} g before a b (Err (Damaged n))
  reads_stopped n zero not p = record {
    reads = p.reads;
    ends = record {
      whole = tt;
      later = omega (arith, p.counted);
      fault = λ is. let clash : ⊥ = cc in absurd clash;
      counted = λ _. p.counted;
      damaged = λ m is. not;
    };
    block = λ m is whole. let same : m ≡ n = cc in same ∙ zero;
    not_full = λ is. let clash : ⊥ = cc in clash;
  }
