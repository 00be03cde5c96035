-- One call more in a log.
use Rattle.std.proofs.Common.{◌≡◌, ℕ, zero, suc, ◌+◌, ◌<◌, ◌≤◌, ◌^◌, Option, None, Some, Bool, false, List, [], ◌∷◌, ◌++◌, length, take, drop, set, replicate, refl, sym, ◌∙◌, ap, arith, length-append, length-take, length-drop}
use Rattle.std.proofs.lemmas.List.{take-append-drop, take-append-le, drop-append-le, take_all, length-replicate}
use Rattle.gx_memory_machine.specs.declared.trace.Step.{Step}
use Rattle.gx_memory_machine.specs.declared.trace.Step.TheVariants.{Still, Write, Sync, Say, Open, Make}
use Rattle.gx_device.specs.Content.{Moment, devices_of, zero_blocks}
use Rattle.gx_memory_machine.specs.Trace.{IsTrace, AreFew, attaching, blocks_given}
use Rattle.gx_memory_machine.specs.Names.{by_name}
use Rattle.gx_memory_machine.proofs.NameLemmas.{get_named}
use Rattle.std.specs.Global.{Vec}
use Rattle.std.specs.Option.{option_map_or}
use Rattle.gx_memory_machine.specs.Log.{uses, total, with_block, with_said, with_device, blocks_in, advance, earlier, latest}

-- a call has no more than its own bytes
advance_front : (m : Moment) (s : Step) (bytes more : List ℕ) → uses s ≤ length bytes
    → advance m s (bytes ++ more) ≡ advance m s bytes
advance_front m Still bytes more le = refl
advance_front m (Write n) bytes more le = ap (with_block m n) (take-append-le 4096 bytes more le)
advance_front m Sync bytes more le = refl
advance_front m (Say k) bytes more le = ap (with_said m) (take-append-le k bytes more le)
advance_front m (Open k) bytes more le =
    ap (λ (b : List ℕ). with_device m b (blocks_in (devices_of m) b))
    (take-append-le k bytes more le)
advance_front m (Make k n) bytes more le =
    ap (λ (b : List ℕ). with_device m b (zero_blocks n)) (take-append-le k bytes more le)

pub advance_own : (m : Moment) (s : Step) (bytes : List ℕ) → uses s ≤ length bytes
    → advance m s (take (uses s) bytes) ≡ advance m s bytes
advance_own m s bytes le =
    sym (advance_front m s (take (uses s) bytes) (drop (uses s) bytes)
    (omega (arith, length-take (uses s) bytes)))
    ∙ ap (advance m s) (take-append-drop (uses s) bytes)

-- with one call more, the moment before it is the last earlier one
pub earlier_push : (m : Moment) (steps : List Step) (s : Step) (bytes more : List ℕ)
    → length bytes ≡ total steps
    → earlier m (steps ++ s ∷ []) (bytes ++ more) ≡ earlier m steps bytes
    ++ latest m steps bytes ∷ []
earlier_push m [] s bytes more same = refl
earlier_push m (x ∷ steps) s bytes more same =
    let le : uses x ≤ length bytes = omega arith in
    ap (λ (l : List Moment). m ∷ l) (
    ap (λ (k : Moment). earlier k (steps ++ s ∷ []) (drop (uses x) (bytes ++ more)))
    (advance_front m x bytes more le)
    ∙ ap (λ (b : List ℕ). earlier (advance m x bytes) (steps ++ s ∷ []) b)
    (drop-append-le (uses x) bytes more le)
    ∙ earlier_push (advance m x bytes) steps s (drop (uses x) bytes) more
    (omega (arith, length-drop (uses x) bytes)))

-- and then its moment is the last
pub latest_push : (m : Moment) (steps : List Step) (s : Step) (bytes more : List ℕ)
    → length bytes ≡ total steps
    → latest m (steps ++ s ∷ []) (bytes ++ more) ≡ advance (latest m steps bytes) s more
latest_push m [] s [] more same = refl
latest_push m [] s (b ∷ bytes) more same = absurd (omega arith)
latest_push m (x ∷ steps) s bytes more same =
    let le : uses x ≤ length bytes = omega arith in
    ap (λ (k : Moment). latest k (steps ++ s ∷ []) (drop (uses x) (bytes ++ more)))
    (advance_front m x bytes more le)
    ∙ ap (λ (b : List ℕ). latest (advance m x bytes) (steps ++ s ∷ []) b)
    (drop-append-le (uses x) bytes more le)
    ∙ latest_push (advance m x bytes) steps s (drop (uses x) bytes) more
    (omega (arith, length-drop (uses x) bytes))

pub total_push : (steps : List Step) (s : Step) → total (steps ++ s ∷ []) ≡ total steps + uses s
total_push [] s = omega arith
total_push (x ∷ steps) s = omega (arith, total_push steps s)

-- what one call more makes of the moments
pub record Pushed (m : Moment) (s : Step) (more : List ℕ) (steps new_steps : List Step)
    (bytes new_bytes : List ℕ) : Type 0 where
  pub counts : length new_bytes ≡ total new_steps
  pub now : latest m new_steps new_bytes ≡ advance (latest m steps bytes) s more
  pub past : earlier m new_steps new_bytes ≡ earlier m steps bytes ++ latest m steps bytes ∷ []

pub pushed : (m : Moment) (s : Step) (more : List ℕ) (steps new_steps : List Step)
    (bytes new_bytes : List ℕ) → length bytes ≡ total steps
    → new_steps ≡ steps ++ s ∷ [] → new_bytes ≡ bytes ++ more → length more ≡ uses s
    → Pushed m s more steps new_steps bytes new_bytes
pushed m s more steps new_steps bytes new_bytes sound is_steps is_bytes own = record {
  counts = omega (
    arith,
    ap (λ (l : List ℕ). length l) is_bytes,
    length-append bytes more,
    ap total is_steps,
    total_push steps s,
  );
  now = ap (λ (l : List Step). latest m l new_bytes) is_steps
      ∙ ap (λ (b : List ℕ). latest m (steps ++ s ∷ []) b) is_bytes
      ∙ latest_push m steps s bytes more sound;
  past = ap (λ (l : List Step). earlier m l new_bytes) is_steps
      ∙ ap (λ (b : List ℕ). earlier m (steps ++ s ∷ []) b) is_bytes
      ∙ earlier_push m steps s bytes more sound;
}

-- one flag more is cleared
pub set_fill : (n : ℕ) (d : List Bool) → n < length d → set (replicate n false ++ drop n d) n false
    ≡ replicate (n + 1) false ++ drop (n + 1) d
set_fill n [] below = absurd (omega arith)
set_fill zero (x ∷ d) below = refl
set_fill (suc n) (x ∷ d) below =
    let next : suc n + 1 ≡ suc (n + 1) = omega arith in
    ap (λ (l : List Bool). false ∷ l) (set_fill n d (omega arith))
    ∙ ap (λ (k : ℕ). replicate k false ++ drop k (x ∷ d)) (sym next)

-- a moment's parts, each as the machine keeps it
pub cleared_room : (flags : List Bool) → length (replicate (length flags) false) ≡ length flags
cleared_room flags = length-replicate (length flags) false

-- a call has been noted, after which another moment stands
module _ (m now : Moment) (steps new_steps : List Step) (written new_written : List ℕ)
    (whole : IsTrace m steps written now) (s : Step)
    (more : List ℕ) (grown : new_steps ≡ steps ++ s ∷ []) (longer : new_written ≡ written ++ more)
    (own : length more ≡ uses s) where
  pub noted : (next : Moment) → advance now s more ≡ next → length next.pending ≡ length next.blocks
      → length next.blocks < 2 ^ 32 → AreFew next.shelf.devices
      → IsTrace m new_steps new_written next
  noted next is flags few each_few =
      let p = pushed m s more steps new_steps written new_written whole.total grown longer own in
      record {
        is = sym (p.now ∙ ap (λ (x : Moment). advance x s more) (sym whole.is) ∙ is);
        total = p.counts;
        flags = flags;
        few = few;
        each_few = each_few;
        start_few = whole.start_few;
      }

  pub noted_past : earlier m new_steps new_written ≡ earlier m steps written ++ now ∷ []
  noted_past =
      let p = pushed m s more steps new_steps written new_written whole.total grown longer own in
      p.past ∙ ap (λ (x : Moment). earlier m steps written ++ x ∷ []) (sym whole.is)

-- no device has too many blocks where there is none
pub none_few : (es : List (Vec ℕ × Vec (List ℕ))) → es ≡ [] → (name : List ℕ)
    → length (blocks_in (by_name es) name) < 2 ^ 32
none_few es none name =
    let empty : length (blocks_in (by_name es) name) ≡ 0 =
    ap (λ (l : List (Vec ℕ × Vec (List ℕ))). length (blocks_in (by_name l) name)) none
    ∙ ap (λ (o : Option (List (List ℕ))). length (option_map_or (λ (b : List (List ℕ)). b) o []))
    (get_named {A = List ℕ} [] name) in
    omega (arith, empty)

-- a device is attached
pub attaching_uses : (k : ℕ) (make : Option ℕ) → k ≡ uses (attaching k make)
attaching_uses k None = refl
attaching_uses k (Some n) = refl

pub attaching_is : (m : Moment) (name : List ℕ) (make : Option ℕ)
    → advance m (attaching (length name) make) name ≡ with_device m name
    (blocks_given (devices_of m) name make)
attaching_is m name None =
    ap (λ (b : List ℕ). with_device m b (blocks_in (devices_of m) b))
    (take_all (length name) name (omega arith))
attaching_is m name (Some n) =
    ap (λ (b : List ℕ). with_device m b (zero_blocks n)) (take_all (length name) name (omega arith))
