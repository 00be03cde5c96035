-- Texts are fetched, and then the attached device is synced; and how failures are counted where a
-- request isn't carried out.
use Rattle.std.proofs.Common.{◌≡◌, ℕ, ◌≤◌, Result, Ok, Err, refl, sym, ap, subst, ◌∙◌, inl, inr, false, arith}
use Rattle.std.specs.Prelude.{◌⊎◌, ◌≢◌, Bool, IsErrAnd}
use Rattle.gx_device.specs.Content.{Content, Moment}
use Rattle.gx_device.specs.Faults.{Rose}
use Rattle.gx_play.specs.declared.ending.Ending.{Ending}
use Rattle.gx_play.specs.declared.ending.Ending.TheVariants as ending
use Rattle.gx_play.specs.declared.status.Status.{Status}
use Rattle.gx_play.specs.declared.status.Status.TheVariants as status
use Rattle.gx_play.specs.Endings.{is_outside, CountsFault, CountsOutside}
use Rattle.gx_requests.specs.Fetched.{Fetches}
use Rattle.gx_operations.proofs.UnchangedLemmas.{still_joined}
use Rattle.gx_operations.specs.Crashes.{IsLater}
use Rattle.gx_top.specs.Readied.{Readies}
use Rattle.gx_operations.proofs.LaterLemmas.{fetched_later}

later_joined : (old mid new : Content) → IsLater old mid → IsLater mid new → IsLater old new
later_joined old mid new x y = record {
  through = still_joined old mid new x.through y.through;
  script = y.script ∙ x.script;
  aside = y.aside ∙ x.aside;
}

-- the error that is answered
abbrev ending_in : {T : Type 0} → Result T Ending → Ending
ending_in (Ok x) = ending.NoMemory
ending_in (Err why) = why

is_err : {T : Type 0} (r : Result T Ending) (why : Ending) → IsErrAnd r (λ e. e ≡ why) → r ≡ Err why
is_err (Ok x) why is = absurd is
is_err (Err e) why is = ap Err is

ok_not_err : {T : Type 0} (y : T) (why : Ending) → ◌≡◌ {A = Result T Ending} (Ok y) (Err why) → ⊥
ok_not_err y why same = cc

module _ {S T : Type 0} (content : S → Content) (faults : S → ℕ) (tells : Bool) (old mid new : S)
    (x : T) (f : Fetches {T = T} content faults old mid (Ok x)) where
  later_of : IsLater (content mid) (content new) → IsLater (content old) (content new)
  later_of l =
      later_joined (content old) (content mid) (content new)
      (fetched_later (content old) (content mid) f.same f.time) l

  pub readied : (y : T) → Readies {T = Unit {0}} content faults tells mid new (Ok tt)
      → Readies {T = T} content faults tells old new (Ok y)
  readied y r = record {
    later = later_of r.later;
    ready = r.ready;
    refused = tt;
    failures = record {
      fault = λ is. absurd (ok_not_err y ending.Fault is);
      counted = λ is. r.failures.counted refl ∙ f.failures.counted refl;
      later = omega (arith, r.failures.later, f.failures.later);
    };
  }

  pub unreadied : (why : Ending) (result : Result T Ending)
      → Readies {T = Unit {0}} content faults tells mid new (Err why)
      → IsErrAnd result (λ e. e ≡ why) → Readies content faults tells old new result
  unreadied why result r is =
      subst (λ k. Readies content faults tells old new k) (sym (is_err result why is)) (record {
        later = later_of r.later;
        ready = λ told. tt;
        refused = r.refused ∙ ap (λ (m : Moment). m.pending) f.same.now;
        failures = record {
          fault = λ e. subst (λ n. Rose n (faults new)) (f.failures.counted refl)
              (r.failures.fault (ap Err (ap ending_in e)));
          counted = λ e. r.failures.counted e ∙ f.failures.counted refl;
          later = omega (arith, r.failures.later, f.failures.later);
        };
      })

-- ---- a request that isn't carried out

fault_or_not : (why : Ending) → (why ≡ ending.Fault) ⊎ (is_outside why ≡ false)
fault_or_not ending.Fault = inl refl
fault_or_not ending.NoMemory = inr refl
fault_or_not ending.Words = inr refl
fault_or_not (ending.Missing name) = inr refl
fault_or_not (ending.TooLong name) = inr refl
fault_or_not (ending.Schema line why) = inr refl
fault_or_not (ending.Equation line why) = inr refl
fault_or_not (ending.Type line why) = inr refl
fault_or_not ending.TextsTooLong = inr refl
fault_or_not (ending.Accepted summary) = inr refl
fault_or_not (ending.Line number why) = inr refl
fault_or_not ending.Full = inr refl
fault_or_not (ending.Device why) = inr refl
fault_or_not (ending.Made blocks pages) = inr refl

pub refused_counts : {T : Type 0} (before mid now : ℕ) (why : Ending) (s : Status)
    → CountsFault {T = T} before mid (Err why)
    → (s ≡ status.Outside → (why ≡ ending.Fault) ⊎ Rose mid now)
    → (why ≡ ending.Fault → s ≡ status.Outside)
    → (s ≢ status.Outside → now ≡ mid) → mid ≤ now → CountsOutside before now s
refused_counts before mid now why s c cause fault counted later =
    by_why (fault_or_not why)
  where
    rose_later : Rose before mid → Rose before now
    rose_later rose = omega (arith, rose, later)

    by_why : (why ≡ ending.Fault) ⊎ (is_outside why ≡ false) → CountsOutside before now s
    by_why (inl is) = record {
      outside = λ e. rose_later (c.fault (ap Err is));
      counted = λ other. absurd (other (fault is));
      later = omega (arith, c.later, later);
    }
    by_why (inr calm) = record {
      outside = λ e. by_cause (cause e);
      counted = λ other. counted other ∙ c.counted calm;
      later = omega (arith, c.later, later);
    }
      where
        by_cause : (why ≡ ending.Fault) ⊎ Rose mid now → Rose before now
        by_cause (inl is) = rose_later (c.fault (ap Err is))
        by_cause (inr rose) = subst (λ n. Rose n now) (c.counted calm) rose
