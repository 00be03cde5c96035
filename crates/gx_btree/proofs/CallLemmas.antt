-- Calls of pages, one after the other.
use Rattle.std.proofs.Common.{◌≡◌, ℕ, ◌≤◌, ◌∙◌, sym, ap, subst, arith}
use Rattle.std.specs.Prelude.{Result, Ok, Err, IsErrOf, IsErrAnd}
use Rattle.gx_ports.specs.declared.page_view.PageView.{Ghosts}
use Rattle.gx_ports.specs.declared.stop.Stop.{Stop}
use Rattle.gx_ports.specs.declared.stop.Stop.TheVariants.{Fault, Damaged}
use Rattle.gx_device.specs.Faults.{Rose}
use Rattle.gx_ports.specs.Sheets.{IsHome}
use Rattle.gx_ports.specs.Files.{EndsFile}

same_or_more : (n : ℕ) → n ≤ n
same_or_more n = omega arith

module _ {S : Type 0} (g : Ghosts S) where
  -- what shows less is shown by more
  pub ends_weaker : {T : Type 0} (more less : Type 0) (a b : S) (r : Result T Stop) → (more → less)
      → EndsFile g less a b r → EndsFile g more a b r
  ends_weaker more less a b r f e = record {
    cause =
        record {
          later = e.cause.later;
          fault = e.cause.fault;
          counted = e.cause.counted;
          damaged = λ n is h. e.cause.damaged n is (f h);
        };
    home = e.home;
  }

  -- a call whose count of faults begins where an earlier one ended
  pub ends_after : {T : Type 0} (more less : Type 0) (a b c : S) (r : Result T Stop)
      → g.faults b ≡ g.faults a
      → g.ground b ≡ g.ground a → (more → less) → EndsFile g less b c r → EndsFile g more a c r
  ends_after more less a b c r f h w e =
      let k = ends_weaker more less b c r w e in
      record {
        cause = record {
          later = subst (λ n. n ≤ g.faults c) f k.cause.later;
          fault = λ is. subst (λ n. Rose n (g.faults c)) f (k.cause.fault is);
          counted = λ is. k.cause.counted is ∙ f;
          damaged = k.cause.damaged;
        };
        home = λ n is. subst (λ x. IsHome x n) h (k.home n is);
      }

  -- a page shows that something isn't sound
  pub ends_shown : {T : Type 0} (sound : Type 0) (a b : S) (n : ℕ) → g.faults b ≡ g.faults a
      → IsHome (g.ground a) n → ¬ sound → EndsFile {T = T} g sound a b (Err (Damaged n))
  ends_shown sound a b n f block off = record {
    cause = record {
      later = subst (λ m. m ≤ g.faults b) f (same_or_more (g.faults b));
      fault = λ is. let clash : ⊥ = cc in absurd clash;
      counted = λ _. f;
      damaged = λ m is. off;
    };
    home = λ m is. let same : n ≡ m = cc in subst (λ x. IsHome (g.ground a) x) same block;
  }

  -- an error that is handed on
  recast : (T U : Type 0) (why v : Stop) → IsErrOf {T = U} (Err why) v → IsErrOf {T = T} (Err why) v
  recast T U why v h = let e : why ≡ v = cc in ap Err e

  pub ends_err : (T U : Type 0) (sound : Type 0) (a b : S) (why : Stop)
      → EndsFile {T = T} g sound a b (Err why)
      → EndsFile {T = U} g sound a b (Err why)
  ends_err T U sound a b why e = record {
    cause =
        record {
          later = e.cause.later;
          fault = λ h. e.cause.fault
              (recast T U why Fault h);
          counted = e.cause.counted;
          damaged = λ n h. e.cause.damaged n (recast T U why (Damaged n) h);
        };
    home = λ n h. e.home n (recast T U why (Damaged n) h);
  }

  pub ends_handed : (T U : Type 0) (sound : Type 0) (a b : S) (why : Stop) (r : Result U Stop)
      → EndsFile {T = T} g sound a b (Err why) → IsErrAnd r (λ s. s ≡ why)
      → EndsFile {T = U} g sound a b r
  ends_handed T U sound a b why (Ok x) e same = absurd same
  ends_handed T U sound a b why (Err s) e same =
      subst (λ x. EndsFile {T = U} g sound a b (Err x)) (sym same) (ends_err T U sound a b why e)
