-- What the answer of a reader says of its text.
use Rattle.std.proofs.Common.{◌≡◌, List, ℕ, Result, Ok, Err, refl, sym, ap, subst, inl, inr}
use Rattle.std.specs.Result.{IfOk, IfErr}
use Rattle.gx_tokens.specs.declared.fault.Fault.{Fault}
use Rattle.gx_tokens.specs.declared.why.Unread.{Unread}
use Rattle.gx_tokens.specs.declared.why.Unread.TheVariants as unread
use Rattle.gx_tokens.specs.Reading.{bad_of, map_ok, with_fault_line, IsUnlessNoMemory}

read_ok : {Y : Type 0} (bytes : List ℕ) (reading : Result Y Fault) (y : Y)
    → with_fault_line bytes reading ≡ Ok y → reading ≡ Ok y
read_ok {Y = Y} bytes (Ok x) y e = let same : x ≡ y = cc in ap (λ (z : Y). Ok z) same
read_ok bytes (Err f) y e = absurd cc

pub found_by : {X Y : Type 0} (see : X → Y) (P : Y → Type 0) (bytes : List ℕ) (r : Result X Unread)
    (reading : Result Y Fault) → IsUnlessNoMemory (map_ok see r) (with_fault_line bytes reading)
    → ((y : Y) → reading ≡ Ok y → P y) → IfOk r (λ x. P (see x))
found_by see P bytes (Ok x) reading (inl e) h = h (see x) (read_ok bytes reading (see x) (sym e))
found_by see P bytes (Ok x) reading (inr e) h = absurd cc
found_by see P bytes (Err u) reading answer h = tt

abbrev refused : {Y : Type 0} → Unread → Result Y Unread
refused u = Err u

refused_is : {Y : Type 0} (u v : Unread) → refused {Y = Y} u ≡ refused v → u ≡ v
refused_is u v e = cc

bad_is : {Y : Type 0} (P : Unread → Type 0) (bytes : List ℕ) (reading : Result Y Fault) (u : Unread)
    → refused u ≡ with_fault_line bytes reading
    → ((f : Fault) → reading ≡ Err f → P (bad_of bytes f))
    → P u
bad_is P bytes (Ok x) u e h = absurd cc
bad_is {Y = Y} P bytes (Err f) u e h =
    subst P (sym (refused_is {Y = Y} u (bad_of bytes f) e)) (h f refl)

pub bad_by : {X Y : Type 0} (see : X → Y) (P : Unread → Type 0) (bytes : List ℕ)
    (r : Result X Unread) (reading : Result Y Fault)
    → IsUnlessNoMemory (map_ok see r) (with_fault_line bytes reading) → P unread.NoMemory
    → ((f : Fault) → reading ≡ Err f → P (bad_of bytes f)) → IfErr r P
bad_by see P bytes (Ok x) reading answer none h = tt
bad_by {Y = Y} see P bytes (Err u) reading (inl e) none h = bad_is {Y = Y} P bytes reading u e h
bad_by {Y = Y} see P bytes (Err u) reading (inr e) none h =
    subst P (sym (refused_is {Y = Y} u unread.NoMemory e)) none

-- a mapped reading fails where the reading does
pub unmapped : {X Y : Type 0} (f : X → Y) (r : Result X Fault) (d : Fault) → map_ok f r ≡ Err d
    → r ≡ Err d
unmapped f (Ok x) d e = absurd cc
unmapped {X = X} f (Err c) d e = let same : c ≡ d = cc in ap (λ (z : Fault). Err z) same
