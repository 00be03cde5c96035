-- Steps of the loops that read values, changes and conditions.
use Rattle.std.proofs.Common.{◌≡◌, ℕ, zero, suc, ◌+◌, ◌<◌, ◌≤◌, Bool, true, false, cond, List, [], ◌∷◌, ◌++◌, length, drop, Some, None, Result, Ok, Err, refl, sym, ap, ◌∙◌, arith, add-one}
use Rattle.std.specs.Prelude.{codes}
use Rattle.std.proofs.Common.{get_or, drop-cons}
use Rattle.std.proofs.lemmas.List.{drop_all}
use Rattle.gx_values.specs.declared.records.Field.{Field}
use Rattle.gx_values.specs.declared.values.Value.{Value}
use Rattle.gx_schema.specs.declared.schema.FileDef.{FileDef}
use Rattle.gx_schema.specs.Lookups.{field_at}
use Rattle.gx_commands.specs.declared.command.Change.{Change}
use Rattle.gx_commands.specs.declared.command.Cond.{Cond}
use Rattle.gx_commands.specs.declared.command.LineWhy.{LineWhy}
use Rattle.gx_commands.specs.declared.command.NoCommand.{NoCommand}
use Rattle.gx_commands.specs.declared.command.NoCommand.TheVariants as no_command
use Rattle.gx_commands.specs.Words.{Word, Bare, Quoted}
use Rattle.gx_script.specs.Names.{is_text}
use Rattle.gx_commands.specs.Cutting.{is_end}
use Rattle.gx_script.specs.Reading.{◌>>=◌, want, behind, a_field, a_new_field, an_op, a_value, values_at, change_at, changes_at, cond_at, more_conds, conds_at, Fails}
use Rattle.gx_script.proofs.Steps.{bind_ok, want_shorter, ok_is}

-- ---- values

abbrev ValuesTotal : Type 0
ValuesTotal = Result (List Value × List Word) LineWhy

value_step : (fields : List Field) (i : ℕ) (before : List Value) (words : List Word) (field : Field)
    → i < length fields → field ≡ get_or fields i field
    → values_at (drop i fields) before words
    ≡ (want (a_value field.kind) words >>= λ x. values_at (drop (suc i) fields)
    (before ++ x.0 ∷ []) x.1)
unfolding values_at
value_step fields i before words field lt is =
    let e : drop i fields ≡ field ∷ drop (suc i) fields = drop-cons fields i field lt
    ∙ ap (λ (f : Field). f ∷ drop (suc i) fields) (sym is) in
    ap (λ (fs : List Field). values_at fs before words) e

pub values_go_on : (fields : List Field) (i : ℕ) (before : List Value) (words : List Word)
    (field : Field) (x : Value) (rest : List Word) (total : ValuesTotal) → i < length fields
    → field ≡ get_or fields i field
    → want (a_value field.kind) words ≡ Ok (x, rest)
    → values_at (drop i fields) before words ≡ total
    → values_at (drop (i + 1) fields) (before ++ x ∷ []) rest ≡ total
values_go_on fields i before words field x rest total lt is h so_far =
    let one = ap (λ (r : Result (Value × List Word) LineWhy). r >>= λ y. values_at
    (drop (suc i) fields) (before ++ y.0 ∷ []) y.1) h in
    let k : i + 1 ≡ suc i = add-one i in
    rw k (sym (value_step fields i before words field lt is ∙ one) ∙ so_far)

pub value_fails : (fields : List Field) (i : ℕ) (before : List Value) (words : List Word)
    (field : Field) (e : NoCommand) (total : ValuesTotal) → i < length fields
    → field ≡ get_or fields i field
    → Fails e (want (a_value field.kind) words) → values_at (drop i fields) before words ≡ total
    → Fails e total
value_fails fields i before words field no_command.NoMemory total lt is h so_far = tt
value_fails fields i before words field (no_command.Bad reason) total lt is h so_far =
    let one = ap (λ (r : Result (Value × List Word) LineWhy). r >>= λ y. values_at
    (drop (suc i) fields) (before ++ y.0 ∷ []) y.1) h in
    sym so_far ∙ (value_step fields i before words field lt is ∙ one)

pub values_end : (fields : List Field) (i : ℕ) (before : List Value) (words : List Word)
    (total : ValuesTotal) → length fields ≤ i → values_at (drop i fields) before words ≡ total
    → total ≡ Ok (before, words)
unfolding values_at
values_end fields i before words total le so_far =
    sym so_far ∙ ap (λ (fs : List Field). values_at fs before words) (drop_all i fields le)

-- ---- changes

pub change_shorter : (file : FileDef) (before : List Change) (words : List Word) (y : Change
    × List Word) → change_at file before words ≡ Ok y → length y.1 < length words
unfolding change_at
change_shorter file before words y e =
    let a = bind_ok (want (a_new_field file before) words)
    (λ field. want (a_value (field_at file field.0).kind) field.1 >>= λ x. Ok
    (record { field = field.0; value = x.0 }, x.1)) y e in
    let b = bind_ok (want (a_value (field_at file a.0.0).kind) a.0.1)
    (λ x. Ok (record { field = a.0.0; value = x.0 }, x.1)) y a.2 in
    let made : Change × List Word = (record { field = a.0.0; value = b.0.0 }, b.0.1) in
    omega (
      arith,
      want_shorter (a_new_field file before) words a.0 a.1,
      want_shorter (a_value (field_at file a.0.0).kind) a.0.1 b.0 b.1,
      ap (λ (z : Change × List Word). length z.1) (ok_is made y b.2),
    )

abbrev ChangesTotal : Type 0
ChangesTotal = Result (List Change × List Word) LineWhy

-- room enough for the changes that the words may be
pub record ChangesGo (file : FileDef) (before : List Change) (words : List Word)
    (total : ChangesTotal) : Type 0 where
  pub room : ℕ
  pub enough : length words ≤ room
  pub same : changes_at room file before words ≡ total

changes_on : (room : ℕ) (file : FileDef) (before : List Change) (words : List Word) (x : Change)
    (rest : List Word) (total : ChangesTotal) → length words ≤ room → length rest < length words
    → change_at file before words ≡ Ok (x, rest) → is_end rest ≡ false
    → changes_at room file before words ≡ total → ChangesGo file (before ++ x ∷ []) rest total
unfolding changes_at
changes_on zero file before words x rest total le less h more so_far = absurd (omega arith)
changes_on (suc room) file before words x rest total le less h more so_far =
    let one : changes_at (suc room) file before words ≡ changes_at room file
    (before ++ x ∷ []) rest = rw (h, more) refl in
    record { room = room; enough = omega arith; same = sym one ∙ so_far }

pub changes_go_on : (file : FileDef) (before : List Change) (words : List Word) (x : Change)
    (rest : List Word) (total : ChangesTotal) → ChangesGo file before words total
    → change_at file before words ≡ Ok (x, rest) → is_end rest ≡ false
    → ChangesGo file (before ++ x ∷ []) rest total
changes_go_on file before words x rest total g h more =
    changes_on g.room file before words x rest total g.enough
    (change_shorter file before words (x, rest) h) h more g.same

changes_over : (room : ℕ) (file : FileDef) (before : List Change) (words : List Word) (x : Change)
    (rest : List Word) (total : ChangesTotal) → length words ≤ room → length rest < length words
    → change_at file before words ≡ Ok (x, rest) → is_end rest ≡ true
    → changes_at room file before words ≡ total → total ≡ Ok (before ++ x ∷ [], rest)
unfolding changes_at
changes_over zero file before words x rest total le less h over so_far = absurd (omega arith)
changes_over (suc room) file before words x rest total le less h over so_far =
    let one : changes_at (suc room) file before words ≡ Ok (before ++ x ∷ [], rest) =
    rw (h, over) refl in
    sym so_far ∙ one

pub changes_end : (file : FileDef) (before : List Change) (words : List Word) (x : Change)
    (rest : List Word) (total : ChangesTotal) → ChangesGo file before words total
    → change_at file before words ≡ Ok (x, rest) → is_end rest ≡ true
    → total ≡ Ok (before ++ x ∷ [], rest)
changes_end file before words x rest total g h over =
    changes_over g.room file before words x rest total g.enough
    (change_shorter file before words (x, rest) h) h over g.same

-- a list of the one, where there is one
abbrev changes_of : Result (Change × List Word) LineWhy → ChangesTotal
changes_of r = r >>= λ x. Ok (x.0 ∷ [], x.1)

change_bad : (room : ℕ) (file : FileDef) (before : List Change) (words : List Word)
    (reason : LineWhy) (total : ChangesTotal) → length words ≤ room
    → change_at file before words ≡ Err reason → changes_at room file before words ≡ total
    → total ≡ Err reason
unfolding changes_at change_at
change_bad zero file before [] reason total le h so_far =
    let none : changes_at zero file before [] ≡ changes_of (change_at file before []) = refl in
    sym so_far ∙ (none ∙ ap changes_of h)
change_bad zero file before (w ∷ ws) reason total le h so_far = absurd (omega arith)
change_bad (suc room) file before words reason total le h so_far =
    let one = ap (λ (r : Result (Change × List Word) LineWhy). r >>= λ x. cond (is_end x.1)
    (Ok (before ++ x.0 ∷ [], x.1)) (changes_at room file (before ++ x.0 ∷ []) x.1)) h in
    sym so_far ∙ one

pub change_fails : (file : FileDef) (before : List Change) (words : List Word) (e : NoCommand)
    (total : ChangesTotal) → ChangesGo file before words total
    → Fails e (change_at file before words) → Fails e total
change_fails file before words no_command.NoMemory total g h = tt
change_fails file before words (no_command.Bad reason) total g h =
    change_bad g.room file before words reason total g.enough h g.same

-- ---- conditions

pub cond_shorter : (file : FileDef) (words : List Word) (y : Cond × List Word)
    → cond_at file words ≡ Ok y → length y.1 < length words
unfolding cond_at
cond_shorter file words y e =
    let a = bind_ok (want (a_field file) words)
    (λ field. want an_op field.1 >>= λ op. want (a_value (field_at file field.0).kind) op.1 >>=
    λ x. Ok (record { field = field.0; op = op.0; bound = x.0 }, x.1)) y e in
    let o = bind_ok (want an_op a.0.1)
    (λ op. want (a_value (field_at file a.0.0).kind) op.1 >>= λ x. Ok
    (record { field = a.0.0; op = op.0; bound = x.0 }, x.1)) y a.2 in
    let b = bind_ok (want (a_value (field_at file a.0.0).kind) o.0.1)
    (λ x. Ok (record { field = a.0.0; op = o.0.0; bound = x.0 }, x.1)) y o.2 in
    let made : Cond × List Word = (record { field = a.0.0; op = o.0.0; bound = b.0.0 }, b.0.1) in
    omega (
      arith,
      want_shorter (a_field file) words a.0 a.1,
      want_shorter an_op a.0.1 o.0 o.1,
      want_shorter (a_value (field_at file a.0.0).kind) o.0.1 b.0 b.1,
      ap (λ (z : Cond × List Word). length z.1) (ok_is made y b.2),
    )

behind_if : (b : Bool) (ws rest : List Word) → cond b (Some ws) None ≡ Some rest → ws ≡ rest
behind_if true ws rest e = cc
behind_if false ws rest e = absurd cc

pub behind_shorter : (keyword : List ℕ) (words rest : List Word) → behind keyword words ≡ Some rest
    → length rest < length words
behind_shorter keyword [] rest e = absurd cc
behind_shorter keyword (Quoted text ∷ ws) rest e = absurd cc
behind_shorter keyword (Bare text ∷ ws) rest e =
    omega (arith, ap length (behind_if (is_text text keyword) ws rest e))

abbrev CondsTotal : Type 0
CondsTotal = Result (List Cond × List Word) LineWhy

-- room enough for the conditions that the words may be
pub record CondsGo (file : FileDef) (before : List Cond) (words : List Word)
    (total : CondsTotal) : Type 0 where
  pub room : ℕ
  pub enough : length words ≤ room
  pub same : conds_at room file before words ≡ total

conds_on : (room : ℕ) (file : FileDef) (before : List Cond) (words : List Word) (x : Cond)
    (after rest : List Word) (total : CondsTotal) → length words ≤ room → length rest < length words
    → cond_at file words ≡ Ok (x, after) → behind (codes "and") after ≡ Some rest
    → conds_at room file before words ≡ total → CondsGo file (before ++ x ∷ []) rest total
unfolding conds_at
conds_on zero file before words x after rest total le less h more so_far = absurd (omega arith)
conds_on (suc room) file before words x after rest total le less h more so_far =
    let first = ap (λ (r : Result (Cond × List Word) LineWhy). r >>= λ y. more_conds
    (λ conds ws. conds_at room file conds ws) (before ++ y.0 ∷ []) y.1
    (behind (codes "and") y.1)) h in
    let one : conds_at (suc room) file before words ≡ conds_at room file (before ++ x ∷ []) rest =
    first ∙ ap (more_conds (λ conds ws. conds_at room file conds ws) (before ++ x ∷ []) after)
    more in
    record { room = room; enough = omega arith; same = sym one ∙ so_far }

pub conds_go_on : (file : FileDef) (before : List Cond) (words : List Word) (x : Cond)
    (after rest : List Word) (total : CondsTotal) → CondsGo file before words total
    → cond_at file words ≡ Ok (x, after) → behind (codes "and") after ≡ Some rest
    → CondsGo file (before ++ x ∷ []) rest total
conds_go_on file before words x after rest total g h more =
    let less : length rest < length words = omega (
      arith,
      cond_shorter file words (x, after) h,
      behind_shorter (codes "and") after rest more,
    ) in
    conds_on g.room file before words x after rest total g.enough less h more g.same

conds_over : (room : ℕ) (file : FileDef) (before : List Cond) (words : List Word) (x : Cond)
    (after : List Word) (total : CondsTotal) → length words ≤ room → length after < length words
    → cond_at file words ≡ Ok (x, after) → behind (codes "and") after ≡ None
    → conds_at room file before words ≡ total → total ≡ Ok (before ++ x ∷ [], after)
unfolding conds_at
conds_over zero file before words x after total le less h over so_far = absurd (omega arith)
conds_over (suc room) file before words x after total le less h over so_far =
    let first = ap (λ (r : Result (Cond × List Word) LineWhy). r >>= λ y. more_conds
    (λ conds ws. conds_at room file conds ws) (before ++ y.0 ∷ []) y.1
    (behind (codes "and") y.1)) h in
    let one : conds_at (suc room) file before words ≡ Ok (before ++ x ∷ [], after) =
    first ∙ ap (more_conds (λ conds ws. conds_at room file conds ws) (before ++ x ∷ []) after)
    over in
    sym so_far ∙ one

pub conds_end : (file : FileDef) (before : List Cond) (words : List Word) (x : Cond)
    (after : List Word) (total : CondsTotal) → CondsGo file before words total
    → cond_at file words ≡ Ok (x, after) → behind (codes "and") after ≡ None
    → total ≡ Ok (before ++ x ∷ [], after)
conds_end file before words x after total g h over =
    conds_over g.room file before words x after total g.enough
    (cond_shorter file words (x, after) h) h over g.same

abbrev conds_of : Result (Cond × List Word) LineWhy → CondsTotal
conds_of r = r >>= λ x. Ok (x.0 ∷ [], x.1)

cond_bad : (room : ℕ) (file : FileDef) (before : List Cond) (words : List Word) (reason : LineWhy)
    (total : CondsTotal) → length words ≤ room
    → cond_at file words ≡ Err reason → conds_at room file before words ≡ total → total ≡ Err reason
unfolding conds_at cond_at
cond_bad zero file before [] reason total le h so_far =
    let none : conds_at zero file before [] ≡ conds_of (cond_at file []) = refl in
    sym so_far ∙ (none ∙ ap conds_of h)
cond_bad zero file before (w ∷ ws) reason total le h so_far = absurd (omega arith)
cond_bad (suc room) file before words reason total le h so_far =
    let one : conds_at (suc room) file before words ≡ Err reason = rw h refl in
    sym so_far ∙ one

pub cond_fails : (file : FileDef) (before : List Cond) (words : List Word) (e : NoCommand)
    (total : CondsTotal) → CondsGo file before words total
    → Fails e (cond_at file words) → Fails e total
cond_fails file before words no_command.NoMemory total g h = tt
cond_fails file before words (no_command.Bad reason) total g h =
    cond_bad g.room file before words reason total g.enough h g.same
