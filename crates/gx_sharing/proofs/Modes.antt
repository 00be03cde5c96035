-- Locks that go together.
use Rattle.std.proofs.Common.{◌≡◌, ℕ, zero, suc, ◌+◌, ◌<◌, List, [], ◌∷◌, ◌++◌, map, length, Bool, true, false, Option, Some, None, refl, sym, ap, subst, ◌∙◌, arith, inl, inr}
use Rattle.std.specs.Prelude.{◌&&◌, ◌==◌, not, cond, find}
use Rattle.std.specs.Option.{option_or}
use Rattle.std.specs.List.{range_with_len}
use Rattle.std.proofs.lemmas.Bool.{true≢false}
use Rattle.gx_laws.specs.Members.{In}
use Rattle.gx_laws.proofs.MemberLemmas.{in_left, in_right}
use Rattle.gx_schema.specs.declared.schema.Schema.{Schema}
use Rattle.gx_commands.specs.declared.command.Command.{Command}
use Rattle.gx_sharing.specs.Locks.{Item, file, link, Mode, free, shared, exclusive, is_held, is_exclusive, stronger, conflict, lock_of, held, IsItem, items_of}
use Rattle.gx_sharing.specs.Sharing.{Sharing, is_barred, holder_among, sessions, holds}

-- ---- the stronger of two

pub held_left : (a b : Mode) → is_held a ≡ true → is_held (stronger a b) ≡ true
held_left free b e = absurd (true≢false (sym e))
held_left shared free e = refl
held_left shared shared e = refl
held_left shared exclusive e = refl
held_left exclusive b e = refl

pub held_right : (a b : Mode) → is_held b ≡ true → is_held (stronger a b) ≡ true
held_right free b e = e
held_right shared free e = refl
held_right shared shared e = refl
held_right shared exclusive e = refl
held_right exclusive b e = refl

pub exclusive_left : (a b : Mode) → is_exclusive a ≡ true → is_exclusive (stronger a b) ≡ true
exclusive_left free b e = absurd (true≢false (sym e))
exclusive_left shared b e = absurd (true≢false (sym e))
exclusive_left exclusive b e = refl

pub exclusive_right : (a b : Mode) → is_exclusive b ≡ true → is_exclusive (stronger a b) ≡ true
exclusive_right free b e = e
exclusive_right shared free e = absurd (true≢false (sym e))
exclusive_right shared shared e = absurd (true≢false (sym e))
exclusive_right shared exclusive e = refl
exclusive_right exclusive b e = refl

stronger_assoc : (a b c : Mode) → stronger (stronger a b) c ≡ stronger a (stronger b c)
stronger_assoc free b c = refl
stronger_assoc shared free c = refl
stronger_assoc shared shared free = refl
stronger_assoc shared shared shared = refl
stronger_assoc shared shared exclusive = refl
stronger_assoc shared exclusive c = refl
stronger_assoc exclusive b c = refl

stronger_free : (a : Mode) → stronger a free ≡ a
stronger_free free = refl
stronger_free shared = refl
stronger_free exclusive = refl

-- what is held after one command more
pub held_push : (schema : Schema) (cs : List Command) (c : Command) (item : Item)
    → held schema (cs ++ c ∷ []) item ≡ stronger (held schema cs item) (lock_of schema c item)
held_push schema [] c item = stronger_free (lock_of schema c item)
held_push schema (d ∷ cs) c item =
    ap (stronger (lock_of schema d item)) (held_push schema cs c item)
    ∙ sym (stronger_assoc (lock_of schema d item) (held schema cs item) (lock_of schema c item))

-- ---- conflicts

pub conflict_sym : (a b : Mode) → conflict a b ≡ conflict b a
conflict_sym free free = refl
conflict_sym free shared = refl
conflict_sym free exclusive = refl
conflict_sym shared free = refl
conflict_sym shared shared = refl
conflict_sym shared exclusive = refl
conflict_sym exclusive free = refl
conflict_sym exclusive shared = refl
conflict_sym exclusive exclusive = refl

pub conflict_free : (a : Mode) → conflict a free ≡ false
conflict_free free = refl
conflict_free shared = refl
conflict_free exclusive = refl

-- what goes with two goes with the stronger of them
pub conflict_join : (a b c : Mode) → conflict a b ≡ false → conflict a c ≡ false
    → conflict a (stronger b c) ≡ false
conflict_join a free c p q = q
conflict_join a exclusive c p q = p
conflict_join a shared free p q = p
conflict_join a shared shared p q = p
conflict_join a shared exclusive p q = q

-- where one holds exclusively, the other that goes with it holds nothing
pub apart_modes : (a b : Mode) → conflict a b ≡ false → is_exclusive b ≡ true → is_held a ≡ false
apart_modes free b p e = refl
apart_modes shared b p e = absurd (true≢false (sym e ∙ p))
apart_modes exclusive free p e = absurd (true≢false (sym e))
apart_modes exclusive shared p e = absurd (true≢false (sym e))
apart_modes exclusive exclusive p e = absurd (true≢false p)

-- ---- no holder

none_of_both : (a b : Option ℕ) → option_or a b ≡ None → (a ≡ None) × (b ≡ None)
none_of_both None b e = (refl, e)
none_of_both (Some n) b e = absurd cc

none_not : (b : Bool) (n : ℕ) (rest : Option ℕ) → cond b (Some n) rest ≡ None
    → (b ≡ false) × (rest ≡ None)
none_not true n rest e = absurd cc
none_not false n rest e = (refl, e)

pub first_none : (test : ℕ → Bool) (ns : List ℕ) → find test ns ≡ None → (m : ℕ) → In m ns
    → test m ≡ false
first_none test [] e m h = absurd h
first_none test (n ∷ ns) e m (inl same) =
    ap test same ∙ (none_not (test n) n (find test ns) e).0
first_none test (n ∷ ns) e m (inr h) =
    first_none test ns (none_not (test n) n (find test ns) e).1 m h

pub holder_none : (schema : Schema) (p : Sharing) (n : ℕ) (c : Command) (items : List Item)
    → holder_among schema p n c items ≡ None → (x : Item) → In x items
    → find (is_barred schema p n c x) sessions ≡ None
holder_none schema p n c [] e x h = absurd h
holder_none schema p n c (y ∷ items) e x (inl same) =
    subst (λ (z : Item). find (is_barred schema p n c z) sessions ≡ None) (sym same)
    (none_of_both (find (is_barred schema p n c y) sessions)
    (holder_among schema p n c items) e).0
holder_none schema p n c (y ∷ items) e x (inr h) =
    holder_none schema p n c items
    (none_of_both (find (is_barred schema p n c y) sessions)
    (holder_among schema p n c items) e).1 x h

-- ---- all items

in_numbers : (first many k : ℕ) → k < many → In (first + k) (range_with_len first many)
in_numbers first zero k h = absurd (omega arith)
in_numbers first (suc many) zero h = inl (omega arith)
in_numbers first (suc many) (suc k) h =
    inr (subst (λ n. In n (range_with_len (first + 1) many))
    (let e : (first + 1) + k ≡ first + suc k = omega arith in e)
    (in_numbers (first + 1) many k (omega arith)))

in_map : (f : ℕ → Item) (n : ℕ) (ns : List ℕ) → In n ns → In (f n) (map f ns)
in_map f n [] h = absurd h
in_map f n (m ∷ ns) (inl e) = inl (ap f e)
in_map f n (m ∷ ns) (inr h) = inr (in_map f n ns h)

from_0 : (k many : ℕ) → k < many → In k (range_with_len 0 many)
from_0 k many h =
    subst (λ n. In n (range_with_len 0 many)) (let e : 0 + k ≡ k = omega arith in e)
    (in_numbers 0 many k h)

pub in_items : (schema : Schema) (x : Item) → IsItem schema x → In x (items_of schema)
in_items schema (file i) h =
    in_left (file i) (map file (range_with_len 0 (length schema.files)))
    (map link (range_with_len 0 (length schema.links)))
    (in_map file i (range_with_len 0 (length schema.files)) (from_0 i (length schema.files) h))
in_items schema (link j) h =
    in_right (link j) (map file (range_with_len 0 (length schema.files)))
    (map link (range_with_len 0 (length schema.links)))
    (in_map link j (range_with_len 0 (length schema.links)) (from_0 j (length schema.links) h))

not_barred : (b c : Bool) → (not b && c) ≡ false → b ≡ false → c ≡ false
not_barred true c e f = absurd (true≢false f)
not_barred false c e f = e

-- where no session bars a command, what each other session holds goes with it
pub no_conflict : (schema : Schema) (p : Sharing) (n : ℕ) (c : Command)
    → holder_among schema p n c (items_of schema) ≡ None → (m : ℕ) → In m sessions
    → (m == n) ≡ false → (x : Item) → IsItem schema x
    → conflict (holds schema (p.session m) x) (lock_of schema c x) ≡ false
no_conflict schema p n c e m h other x is =
    not_barred (m == n) (conflict (holds schema (p.session m) x) (lock_of schema c x))
    (first_none (is_barred schema p n c x) sessions
    (holder_none schema p n c (items_of schema) e x (in_items schema x is)) m h) other
