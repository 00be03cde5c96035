-- What options and results say.
use Rattle.std.proofs.Common.{◌≡◌, false, Option, Some, None, Ok, Err, refl}
use Rattle.std.specs.Prelude.{Result, is_some}
use Rattle.std.specs.Result.{IfOk, OnOk}

pub none_of : {A : Type 0} (o : Option A) → is_some o ≡ false → o ≡ None
none_of None e = refl
none_of (Some x) e = cc

pub if_ok : {A E : Type 0} {P Q : A → Type 0} (r : Result A E) → ((x : A) → P x → Q x) → IfOk r P
    → IfOk r Q
if_ok (Ok x) more met = more x met
if_ok (Err e) more met = tt

pub on_ok_always : {A E P : Type 0} (r : Result A E) → P → OnOk r P
on_ok_always (Ok x) p = p
on_ok_always (Err e) p = tt
