-- What each head asks of the form that it gets and of its number of children, in the order of the
-- reasons.
use Rattle.std.specs.Prelude.{ℕ, suc, ◌+◌, Bool, false, ◌&&◌, List, [], ◌∷◌, length, Option, Some, None, Result, Ok, Err, nat_lt, nat_le, ◌==◌, if◌then◌else◌}
use Rattle.std.specs.List.{list_all}
use Rattle.gx_values.specs.Values.{is_bytes, kind_in}
use Rattle.gx_values.specs.Keys.{widths}
use Rattle.gx_values.specs.declared.bytes.TheConstants.{MAX_KEY_LEN}
use Rattle.gx_values.specs.declared.values.Code.{Code}
use Rattle.gx_values.specs.declared.values.Kind.{Kind}
use Rattle.gx_values.specs.declared.values.Kind.TheVariants as kinds
use Rattle.gx_values.specs.declared.values.Value.{Value}
use Rattle.gx_values.specs.declared.records.Field.{Field}
use Rattle.gx_values.specs.declared.records.Form.{Form}
use Rattle.gx_ports.specs.declared.leaves.TheConstants.{MAX_ENTRY_LEN}
use Rattle.gx_equation.specs.declared.heads.Head.{Head}
use Rattle.gx_equation.specs.declared.heads.Head.TheVariants as heads
use Rattle.gx_typing.specs.declared.reasons.TypeWhy.{TypeWhy}
use Rattle.gx_typing.specs.declared.reasons.TypeWhy.TheVariants as why
use Rattle.gx_typing.specs.Conditions.{is_key_kind, is_coded, is_bound, ascends, are_data, leaves_some}

-- the reason, unless the condition is met
abbrev pub tested : TypeWhy → Bool → Result (Unit {0}) TypeWhy
tested reason met = if met then Ok tt else Err reason

-- the one test, and then the others
infixl 10 ◌>>=◌
abbrev pub ◌>>=◌ : {A B E : Type 0} → Result A E → (A → Result B E) → Result B E
(Ok x) >>= f = f x
(Err e) >>= f = Err e

abbrev pub kind_from : Option Kind → Result Kind TypeWhy
kind_from None = Err why.FieldName
kind_from (Some kind) = Ok kind

-- where a key field of the name has a kind and where a data field has one: the data field's, where
-- no key field has the name
abbrev pub data_from : Option Kind → Option Kind → Result Kind TypeWhy
data_from None field = kind_from field
data_from (Some key) field = Err why.FieldName

-- keys before data
abbrev pub any_from : Option Kind → Option Kind → Result Kind TypeWhy
any_from None field = kind_from field
any_from (Some key) field = Ok key

abbrev pub data_kind : Form → List ℕ → Result Kind TypeWhy
data_kind form name = data_from (kind_in form.keys name) (kind_in form.fields name)

abbrev pub any_kind : Form → List ℕ → Result Kind TypeWhy
any_kind form name = any_from (kind_in form.keys name) (kind_in form.fields name)

-- how many bytes the one data field has at most
abbrev pub body_of : Kind → Result ℕ TypeWhy
body_of kinds.Int = Err why.LeafForm
body_of (kinds.Text most) = Err why.LeafForm
body_of (kinds.Bytes most) = Ok most

abbrev pub leaf_body : List Field → Result ℕ TypeWhy
leaf_body [] = Ok 0
leaf_body (f ∷ []) = body_of f.kind
leaf_body (f ∷ g ∷ fs) = Err why.LeafForm

abbrev pub leaf_row : Form → Result (Unit {0}) TypeWhy
leaf_row form = do
  body ← leaf_body form.fields
  short ← tested why.KeyLength (nat_le (widths form.keys) MAX_KEY_LEN)
  tested why.EntryLength (nat_le (widths form.keys + body) MAX_ENTRY_LEN)

abbrev pub encode_row : List ℕ → Code → Form → Result (Unit {0}) TypeWhy
encode_row name code form = do
  kind ← data_kind form name
  tested why.FieldKind (is_coded code kind)

abbrev pub segment_row : List (List ℕ) → Form → Result (Unit {0}) TypeWhy
segment_row names form = do
  named ← tested why.FieldName (are_data form names)
  tested why.Groups (leaves_some form.fields names)

abbrev pub transpose_row : Form → ℕ → Result (Unit {0}) TypeWhy
transpose_row form kids =
    tested why.Children (nat_lt 0 (length form.fields) && kids == length form.fields)

abbrev pub partition_row : List ℕ → List Value → Form → ℕ → Result (Unit {0}) TypeWhy
partition_row name bounds form kids = do
  kind ← any_kind form name
  fitting ← tested why.FieldKind (is_key_kind kind && list_all (is_bound kind) bounds)
  ordered ← tested why.Bounds (ascends bounds)
  tested why.Children (kids == suc (length bounds))

abbrev pub one_bytes : List Field → Bool
one_bytes [] = false
one_bytes (f ∷ []) = is_bytes f.kind
one_bytes (f ∷ g ∷ fs) = false

abbrev pub divide_row : Form → Result (Unit {0}) TypeWhy
divide_row form = tested why.OneBytes (one_bytes form.fields)

abbrev pub index_row : List ℕ → Form → Result (Unit {0}) TypeWhy
index_row name form = do
  kind ← data_kind form name
  tested why.FieldKind (is_key_kind kind)

abbrev pub row : Head → Form → ℕ → Result (Unit {0}) TypeWhy
row (heads.Leaf kind) form kids = leaf_row form
row heads.Actual form kids = Ok tt
row (heads.Encode name code) form kids = encode_row name code form
row (heads.Segment names) form kids = segment_row names form
row heads.Transpose form kids = transpose_row form kids
row (heads.Partition name bounds) form kids = partition_row name bounds form kids
row (heads.Divide size) form kids = divide_row form
row (heads.Index name) form kids = index_row name form
