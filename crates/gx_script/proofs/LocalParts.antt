-- The readers of names, values and parts of commands depend on the words that they read, and those
-- before a fault could go on.
use Rattle.std.proofs.Common.{◌≡◌, ℕ, ◌<◌, true, ℤ, List, [], ◌∷◌, ◌++◌, length, Option, None, Some, Result, Ok, Err, refl, ap, subst, ◌∙◌, arith}
use Rattle.std.specs.Prelude.{codes}
use Rattle.gx_tokens.specs.Numbers.{is_number, signed_number}
use Rattle.gx_values.specs.declared.values.Kind.{Kind}
use Rattle.gx_values.specs.declared.values.Kind.TheVariants as kind
use Rattle.gx_values.specs.declared.values.Op.TheVariants as op
use Rattle.gx_values.specs.declared.values.Value.{Value}
use Rattle.gx_values.specs.declared.records.Field.{Field}
use Rattle.gx_schema.specs.declared.schema.FileDef.{FileDef}
use Rattle.gx_schema.specs.declared.schema.Schema.{Schema}
use Rattle.gx_schema.specs.Lookups.{file_at, link_at, field_at, key_kind}
use Rattle.gx_commands.specs.declared.command.Change.{Change}
use Rattle.gx_commands.specs.declared.command.Command.{Command}
use Rattle.gx_commands.specs.declared.command.LineWhy.{LineWhy}
use Rattle.gx_commands.specs.declared.command.LineWhy.TheVariants as why
use Rattle.gx_commands.specs.Words.{Word, Bare, Quoted}
use Rattle.gx_script.specs.Names.{file_number, link_number, field_number, op_of}
use Rattle.gx_script.specs.Reading.{◌>>=◌, want, bare_or, a_file, a_link, a_link_to, a_field, a_new_field, an_op, a_structure, a_value, int_from, record_at, link_and_owner, member_at, values_at, change_at}
use Rattle.gx_script.specs.Grammar.{◌⨾◌, NoWord}
use Rattle.gx_script.specs.Shape.{AName, IsValue, AValue, AnOp, NameAndValue, ValuesShape, Repeated}
use Rattle.gx_script.proofs.Steps.{bind_ok}
use Rattle.gx_script.proofs.WordMeanings.{bare_found, op_found, signed_found}
use Rattle.gx_script.proofs.LocalWords.{IsFrontOf, IsLocal, local_want, local_bind, local_map, local_as, local_none, front_then}

-- ---- single words

pub some_name : IsFrontOf AName []
some_name = record {
  behind = Bare (codes "x") ∷ [];
  are = ((λ e. omega arith, (refl, tt)), tt);
  shaped = λ tail. (codes "x", refl);
}

pub some_value : IsFrontOf AValue []
some_value = record {
  behind = Quoted [] ∷ [];
  are = (tt, tt);
  shaped = λ tail. (Quoted [], refl, tt);
}

pub some_op : IsFrontOf AnOp []
some_op = record {
  behind = Bare (codes "=") ∷ [];
  are = ((λ e. omega arith, (refl, tt)), tt);
  shaped = λ tail. (op.Equal, refl);
}

name_shape : {A : Type 0} (reason : LineWhy) (meaning : List ℕ → Option A) (w : Word) (x : A)
    → bare_or reason meaning w ≡ Ok x → (rest : List Word) → AName (w ∷ rest) rest
name_shape reason meaning w x e rest = let b = bare_found reason meaning w x e in
    (b.0, ap (λ (v : Word). v ∷ rest) b.1)

pub local_file : (schema : Schema) → IsLocal (want (a_file schema)) AName
local_file schema = local_want (a_file schema) AName
    (λ w x e rest. name_shape why.File (file_number schema.files) w x e rest) some_name

pub local_link : (schema : Schema) → IsLocal (want (a_link schema)) AName
local_link schema = local_want (a_link schema) AName
    (λ w x e rest. name_shape why.Link (link_number schema.links) w x e rest) some_name

pub local_link_to : (schema : Schema) (file : ℕ) → IsLocal (want (a_link_to schema file)) AName
local_link_to schema file =
    local_want (a_link_to schema file) AName (λ w x e rest. let b = bind_ok (a_link schema w) _ x e
    in name_shape why.Link (link_number schema.links) w b.0 b.1 rest) some_name

pub local_field : (file : FileDef) → IsLocal (want (a_field file)) AName
local_field file = local_want (a_field file) AName
    (λ w x e rest. name_shape why.Field (field_number file.fields) w x e rest) some_name

pub local_new_field : (file : FileDef) (before : List Change)
    → IsLocal (want (a_new_field file before)) AName
local_new_field file before =
    local_want (a_new_field file before) AName (λ w x e rest. let b = bind_ok (a_field file w) _ x e
    in name_shape why.Field (field_number file.fields) w b.0 b.1 rest) some_name

structure_shape : (schema : Schema) (w : Word) (x : Command) → a_structure schema w ≡ Ok x
    → (rest : List Word) → AName (w ∷ rest) rest
structure_shape schema (Quoted text) x e rest = absurd cc
structure_shape schema (Bare name) x e rest = (name, refl)

pub local_structure : (schema : Schema) → IsLocal (want (a_structure schema)) AName
local_structure schema = local_want (a_structure schema) AName (structure_shape schema) some_name

pub local_op : IsLocal (want an_op) AnOp
local_op = local_want an_op AnOp (λ w x e rest. let b = bare_found why.Word op_of w x e in
    (x, ap (λ (v : Word). v ∷ rest) b.1 ∙ ap (λ (t : List ℕ). Bare t ∷ rest) (op_found b.0 x b.2)))
    some_op

number_is : (text : List ℕ) (o : Option ℤ) (v : Value) → signed_number text ≡ o → int_from o ≡ Ok v
    → is_number text ≡ true
number_is text None v is e = absurd cc
number_is text (Some n) v is e = (signed_found text n is).0

value_word : (k : Kind) (w : Word) (v : Value) → a_value k w ≡ Ok v → IsValue w
value_word kind.Int (Bare text) v e = number_is text (signed_number text) v refl e
value_word (kind.Text most) (Bare text) v e = absurd cc
value_word (kind.Bytes most) (Bare text) v e = absurd cc
value_word k (Quoted text) v e = tt

pub local_value : (k : Kind) → IsLocal (want (a_value k)) AValue
local_value k = local_want (a_value k) AValue (λ w x e rest. (w, refl, value_word k w x e))
    some_value

-- ---- a name and a value

pub some_pair : IsFrontOf NameAndValue []
some_pair = front_then AName AValue [] some_name some_value

abbrev pub named_value : (Word → Result ℕ LineWhy) → (ℕ → Kind) → List Word
    → Result ((ℕ × Value) × List Word) LineWhy
named_value name kind_of words =
    want name words >>= λ n. want (a_value (kind_of n.0)) n.1 >>= λ v. Ok ((n.0, v.0), v.1)

pub local_named : (name : Word → Result ℕ LineWhy) (kind_of : ℕ → Kind) → IsLocal (want name) AName
    → IsLocal (named_value name kind_of) NameAndValue
local_named name kind_of local =
    local_bind (want name) (λ n ws. want (a_value (kind_of n)) ws >>= λ v. Ok ((n, v.0), v.1)) AName
    AValue local some_value
    (λ n. local_map (λ (v : Value). (n, v)) (want (a_value (kind_of n))) AValue
    (local_value (kind_of n)))

abbrev pub flat : Result ((ℕ × Value) × List Word) LineWhy → Result (ℕ × Value × List Word) LineWhy
flat (Ok x) = Ok (x.0.0, x.0.1, x.1)
flat (Err reason) = Err reason

flat_bind : {A : Type 0} (r : Result A LineWhy) (f : A → Result ((ℕ × Value) × List Word) LineWhy)
    (g : A → Result (ℕ × Value × List Word) LineWhy) → ((x : A) → g x ≡ flat (f x))
    → (r >>= g) ≡ flat (r >>= f)
flat_bind (Ok x) f g same = same x
flat_bind (Err reason) f g same = refl

named_flat : (name : Word → Result ℕ LineWhy) (kind_of : ℕ → Kind) (words : List Word)
    → (want name words >>= λ n. want (a_value (kind_of n.0)) n.1 >>= λ v. Ok (n.0, v.0, v.1)) ≡ flat
    (named_value name kind_of words)
named_flat name kind_of words =
    flat_bind (want name words) _ _
    (λ n. flat_bind (want (a_value (kind_of n.0)) n.1) _ _ (λ v. refl))

pub flat_then : {B : Type 0} (r : Result ((ℕ × Value) × List Word) LineWhy) (k : ℕ × Value
    × List Word → Result B LineWhy) → (flat r >>= k) ≡ (r >>= λ y. k (y.0.0, y.0.1, y.1))
flat_then (Ok x) k = refl
flat_then (Err reason) k = refl

abbrev pub file_key : Schema → ℕ → Kind
file_key schema file = key_kind (file_at schema file)

abbrev pub owner_key : Schema → ℕ → Kind
owner_key schema link = key_kind (file_at schema (link_at schema link).owner)

abbrev pub member_key : Schema → ℕ → Kind
member_key schema link = key_kind (file_at schema (link_at schema link).member)

pub record_flat : (schema : Schema) (words : List Word)
    → record_at schema words ≡ flat (named_value (a_file schema) (file_key schema) words)
unfolding record_at
record_flat schema words = named_flat (a_file schema) (file_key schema) words

pub owner_flat : (schema : Schema) (words : List Word)
    → link_and_owner schema words ≡ flat (named_value (a_link schema) (owner_key schema) words)
unfolding link_and_owner
owner_flat schema words = named_flat (a_link schema) (owner_key schema) words

pub member_flat : (schema : Schema) (words : List Word)
    → member_at schema words ≡ flat (named_value (a_link schema) (member_key schema) words)
unfolding member_at
member_flat schema words = named_flat (a_link schema) (member_key schema) words

-- ---- values

abbrev ValuesOf : List Field → List Word → List Word → Type 0
ValuesOf [] = NoWord
ValuesOf (f ∷ fs) = AValue ⨾ ValuesOf fs

some_values : (fields : List Field) → IsFrontOf (ValuesOf fields) []
some_values [] = record { behind = []; are = tt; shaped = λ tail. refl }
some_values (f ∷ fs) = front_then AValue (ValuesOf fs) [] some_value (some_values fs)

values_local : (fields : List Field) (before : List Value)
    → IsLocal (values_at fields before) (ValuesOf fields)
unfolding values_at
values_local [] before = local_none before
values_local (f ∷ fs) before =
    local_bind (want (a_value f.kind)) (λ x ws. values_at fs (before ++ x ∷ []) ws) AValue
    (ValuesOf fs) (local_value f.kind) (some_values fs)
    (λ x. values_local fs (before ++ x ∷ []))

values_shape : (f : Field) (fs : List Field) (words rest : List Word) → ValuesOf (f ∷ fs) words rest
    → ValuesShape (length fs) words rest
values_shape f [] words rest h = subst (λ (r : List Word). AValue words r) h.2 h.1
values_shape f (g ∷ gs) words rest h = (h.0, h.1, values_shape g gs h.0 rest h.2)

repeated_values : (fields : List Field) → 0 < length fields → (words rest : List Word)
    → ValuesOf fields words rest → Repeated ValuesShape words rest
repeated_values [] some words rest h = absurd (omega arith)
repeated_values (f ∷ fs) some words rest h = (length fs, values_shape f fs words rest h)

pub local_values : (fields : List Field) → 0 < length fields
    → IsLocal (values_at fields []) (Repeated ValuesShape)
local_values fields some =
    local_as (values_at fields []) (ValuesOf fields) (Repeated ValuesShape)
    (repeated_values fields some) (values_local fields [])

pub some_repeated : IsFrontOf (Repeated ValuesShape) []
some_repeated = record {
  behind = some_value.behind;
  are = some_value.are;
  shaped = λ tail. (0, some_value.shaped tail);
}

-- ---- one change

pub local_change : (file : FileDef) (before : List Change)
    → IsLocal (change_at file before) NameAndValue
unfolding change_at
local_change file before =
    local_bind (want (a_new_field file before))
    (λ field ws. want (a_value (field_at file field).kind) ws >>= λ x. Ok
    (record { field = field; value = x.0 }, x.1)) AName AValue (local_new_field file before)
    some_value
    (λ field. local_map (λ (x : Value). record { field = field; value = x })
    (want (a_value (field_at file field).kind)) AValue (local_value (field_at file field).kind))
