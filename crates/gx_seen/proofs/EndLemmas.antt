-- How calls of pages end.
use Rattle.std.proofs.Common.{◌≡◌, ℕ, ◌≤◌, Ok, Err, sym, subst, arith}
use Rattle.std.specs.Prelude.{Result}
use Rattle.std.specs.Result.{IsErrAnd}
use Rattle.std.proofs.lemmas.Bool.{true≢false}
use Rattle.gx_device.specs.Faults.{Rose}
use Rattle.gx_ports.specs.declared.page_view.PageView.{Ghosts}
use Rattle.gx_ports.specs.declared.stop.Stop.{Stop}
use Rattle.gx_ports.specs.declared.stop.Stop.TheVariants.{Fault, Damaged}
use Rattle.gx_ports.specs.Sheets.{IsHome}
use Rattle.gx_ports.specs.Files.{EndsFile}

-- a page shows that something isn't sound
pub ends_shown : {S T : Type 0} (g : Ghosts S) (sound : Type 0) (start now : S) (block : ℕ)
    → g.faults now ≡ g.faults start → IsHome (g.ground start) block → (sound → ⊥)
    → EndsFile {T = T} g sound start now (Err (Damaged block))
ends_shown g sound start now block same below none = record {
  cause = record {
    later = omega (arith, same);
    fault = λ is. absurd (cc);
    counted = λ is. same;
    damaged = λ b is has. none has;
  };
  home = λ b is. (let equal : block ≡ b = cc in subst (λ n. IsHome (g.ground start) n) equal below);
}

pub ends_well : {S T : Type 0} (g : Ghosts S) (sound : Type 0) (start now : S) (x : T)
    → g.faults now ≡ g.faults start → EndsFile {T = T} g sound start now (Ok x)
ends_well g sound start now x same = record {
  cause = record {
    later = omega (arith, same);
    fault = λ is. absurd (cc);
    counted = λ is. same;
    damaged = λ b is has. absurd (cc);
  };
  home = λ b is. absurd (cc);
}

failed_ends : {S T : Type 0} (g : Ghosts S) (sound : Type 0) (start now new : S)
    → g.faults now ≡ g.faults start → g.faults now ≤ g.faults new
    → Rose (g.faults now) (g.faults new) → EndsFile {T = T} g sound start new (Err Fault)
failed_ends g sound start now new same later rose = record {
  cause = record {
    later = omega (arith, same, later);
    fault = λ is. subst (λ n. Rose n (g.faults new)) same rose;
    counted = λ is. absurd (true≢false is);
    damaged = λ b is has. absurd (cc);
  };
  home = λ b is. absurd (cc);
}

pub ends_failed : {S T : Type 0} (g : Ghosts S) (sound : Type 0) (start now new : S)
    (result : Result T Stop) → g.faults now ≡ g.faults start → g.faults now ≤ g.faults new
    → Rose (g.faults now) (g.faults new)
    → IsErrAnd result (λ s. s ≡ Fault) → EndsFile {T = T} g sound start new result
ends_failed g sound start now new (Ok x) same later rose is = absurd is
ends_failed {T = T} g sound start now new (Err s) same later rose is =
    subst (λ x. EndsFile {T = T} g sound start new (Err x)) (sym is)
    (failed_ends {T = T} g sound start now new same later rose)
