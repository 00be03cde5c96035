-- A call that replaces a record, where it answers Ok.
use Rattle.std.proofs.Common.{◌≡◌, Result, Ok, Err, refl}
use Rattle.std.specs.Prelude.{OnOk}
use Rattle.gx_ports.specs.declared.stop.Stop.{Stop}

pub on_ok : {Q : Type 0} (r : Result (Unit {0}) Stop) → ((x : Unit {0}) → r ≡ Ok x → Q) → OnOk r Q
on_ok (Ok x) f = f x refl
on_ok (Err e) f = tt
