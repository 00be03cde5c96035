-- What calls of pages keep, one after the other, and how a call ends that hands on how another one
-- ended.
use Rattle.std.proofs.Common.{◌≡◌, ℕ, ◌≤◌, Ok, Err, refl, sym, ap, subst, ◌∙◌, slice_get, []}
use Rattle.std.specs.Prelude.{Result}
use Rattle.std.specs.Result.{IsErrAnd}
use Rattle.std.specs.Option.{unwrap_or}
use Rattle.std.proofs.lemmas.Option.{unwrap_or-slice_get}
use Rattle.gx_device.specs.Faults.{Rose}
use Rattle.gx_ports.specs.declared.page_view.PageView.{Ghosts}
use Rattle.gx_ports.specs.declared.stop.Stop.{Stop}
use Rattle.gx_ports.specs.Files.{EndsFile, OthersStay}
use Rattle.gx_ports.specs.Sheets.{IsHome, Sheets, Ground, bytes_at}
use Rattle.gx_ports.specs.PageCalls.{KeepsPages, ReadsPages}

module _ {S : Type 0} (g : Ghosts S) where
  pub pages_keep_themselves : (a : S) → KeepsPages g a a
  pages_keep_themselves a =
      record {
        ground = refl;
        kept = refl;
        steady = (λ h. h, λ h. h);
        calm = λ s h. h;
        silent = record { said = refl; shelf = refl; script = refl; aside = refl };
      }

  pub kept_pages_joined : {a b c : S} → KeepsPages g a b → KeepsPages g b c → KeepsPages g a c
  kept_pages_joined x y = record {
    ground = y.ground ∙ x.ground;
    kept = y.kept ∙ x.kept;
    steady = (λ h. y.steady.0 (x.steady.0 h), λ h. x.steady.1 (y.steady.1 h));
    calm = λ s h. y.calm s (x.calm s h);
    silent = record {
      said = y.silent.said ∙ x.silent.said;
      shelf = y.silent.shelf ∙ x.silent.shelf;
      script = y.silent.script ∙ x.silent.script;
      aside = y.silent.aside ∙ x.silent.aside;
    };
  }

  pub pages_read_themselves : (a : S) → ReadsPages g a a
  pages_read_themselves a =
      record { working = refl; unchanged = λ h. h; keeps = pages_keep_themselves a }

  pub read_pages_joined : {a b c : S} → ReadsPages g a b → ReadsPages g b c → ReadsPages g a c
  read_pages_joined x y =
      record {
        working = y.working ∙ x.working;
        unchanged = λ h. y.unchanged (x.unchanged h);
        keeps = kept_pages_joined x.keeps y.keeps;
      }

same_stop : {T U : Type 0} (e why : Stop) → ◌≡◌ {A = Result T Stop} (Err e) (Err why)
    → ◌≡◌ {A = Result U Stop} (Err e) (Err why)
same_stop e why is = let same : e ≡ why = cc in ap Err same

ends_err : {S T U : Type 0} (g : Ghosts S) (sound other : Type 0) (start now new : S) (e : Stop)
    → g.faults now ≡ g.faults start → g.ground now ≡ g.ground start → (sound → other)
    → EndsFile {T = T} g other now new (Err e) → EndsFile {T = U} g sound start new (Err e)
ends_err {T = T} {U = U} g sound other start now new e faults ground to ends = record {
  cause = record {
    later = subst (λ n. n ≤ g.faults new) faults ends.cause.later;
    fault = λ is. subst (λ n. Rose n (g.faults new)) faults (ends.cause.fault (same_stop e _ is));
    counted = λ is. ends.cause.counted is ∙ faults;
    damaged = λ block is whole. ends.cause.damaged block (same_stop e _ is) (to whole);
  };
  home = λ block is. subst (λ x. IsHome x block) ground (ends.home block (same_stop e _ is));
}

-- a refusal is handed on
pub ends_handed_on : {S T U : Type 0} (g : Ghosts S) (sound other : Type 0) (start now new : S)
    (why : Stop) (result : Result U Stop) → g.faults now ≡ g.faults start
    → g.ground now ≡ g.ground start → (sound → other)
    → EndsFile {T = T} g other now new (Err why) → IsErrAnd result (λ s. s ≡ why)
    → EndsFile {T = U} g sound start new result
ends_handed_on g sound other start now new why (Ok x) faults ground to ends same = absurd same
ends_handed_on {T = T} {U = U} g sound other start now new why (Err s) faults ground to ends same =
    subst (λ x. EndsFile {T = U} g sound start new (Err x)) (sym same)
    (ends_err {T = T} g sound other start now new why faults ground to ends)

-- a call ends as the last one in it
pub ends_as : {S T : Type 0} (g : Ghosts S) (sound other : Type 0) (start now new : S)
    (result : Result T Stop) → g.faults now ≡ g.faults start → g.ground now ≡ g.ground start
    → (sound → other)
    → EndsFile g other now new result → EndsFile g sound start new result
ends_as g sound other start now new result faults ground to ends = record {
  cause = record {
    later = subst (λ n. n ≤ g.faults new) faults ends.cause.later;
    fault = λ is. subst (λ n. Rose n (g.faults new)) faults (ends.cause.fault is);
    counted = λ is. ends.cause.counted is ∙ faults;
    damaged = λ block is whole. ends.cause.damaged block is (to whole);
  };
  home = λ block is. subst (λ x. IsHome x block) ground (ends.home block is);
}

-- ---- what stays of sheets

pub bytes_same : (old new : Sheets) (q : ℕ) → slice_get new.bytes q ≡ slice_get old.bytes q
    → bytes_at new q ≡ bytes_at old q
bytes_same old new q e = sym (unwrap_or-slice_get new.bytes q []) ∙ ap (λ o. unwrap_or o []) e
    ∙ unwrap_or-slice_get old.bytes q []

pub others_itself : (ground : Ground) (owner : ℕ) (s : Sheets) → OthersStay ground owner s s
others_itself ground owner s other d n =
    record { owned = λ q. (λ h. h, λ h. h); bytes = λ q past is. refl }

pub others_joined : (ground : Ground) (owner : ℕ) (s t u : Sheets) → OthersStay ground owner s t
    → OthersStay ground owner t u → OthersStay ground owner s u
others_joined ground owner s t u a b other d z =
    let x = a other d z in
    let y = b other d z in
    record {
      owned = λ q. (λ o. (y.owned q).0 ((x.owned q).0 o), λ o. (x.owned q).1 ((y.owned q).1 o));
      bytes = λ q past o. y.bytes q past ((x.owned q).0 o) ∙ x.bytes q past o;
    }
