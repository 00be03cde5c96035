-- The forms that heads give to their children, which are counted from 0.
use Rattle.std.specs.Prelude.{ℕ, zero, suc, ◌*◌, max, not, List, [], ◌∷◌, ◌++◌, map, filter, Option, Some, nat_eq, if◌then◌else◌, slice_index_or, codes}
use Rattle.std.specs.Cmp.Lexicographic.{pointwise}
use Rattle.gx_values.specs.Values.{coded_kind, kind_in}
use Rattle.gx_values.specs.Keys.{width_of}
use Rattle.gx_values.specs.declared.values.Code.{Code}
use Rattle.gx_values.specs.declared.values.Code.TheVariants as code
use Rattle.gx_values.specs.declared.values.Kind.{Kind}
use Rattle.gx_values.specs.declared.values.Kind.TheVariants as kinds
use Rattle.gx_values.specs.declared.records.Field.{Field}
use Rattle.gx_values.specs.declared.records.Form.{Form}
use Rattle.gx_equation.specs.declared.heads.Head.{Head}
use Rattle.gx_equation.specs.declared.heads.Head.TheVariants as heads
use Rattle.gx_equation.specs.declared.heads.Linkset.{Linkset}
use Rattle.gx_equation.specs.declared.heads.Linkset.TheVariants as linksets
use Rattle.gx_schema.specs.declared.schema.TheConstants.{MOST_MEMBERS}
pub use Rattle.gx_actual.specs.Forms.{actual_form}
use Rattle.gx_forms.specs.Fields.{field, has_name}

abbrev pub coded_field : List ℕ → Code → Field → Field
coded_field name code f =
    if pointwise nat_eq f.name name then field f.name (coded_kind code f.kind) else f

-- (K; D with the field by its code)
abbrev pub encode_form : List ℕ → Code → Form → Form
encode_form name code form =
    record { keys = form.keys; fields = map (coded_field name code) form.fields }

-- (K; the named fields, in the order of D)
abbrev pub named_form : List (List ℕ) → Form → Form
named_form names form =
    record { keys = form.keys; fields = filter (λ f. has_name names f.name) form.fields }

-- (K; the others)
abbrev pub others_form : List (List ℕ) → Form → Form
others_form names form =
    record { keys = form.keys; fields = filter (λ f. not (has_name names f.name)) form.fields }

abbrev pub segment_form : List (List ℕ) → Form → ℕ → Form
segment_form names form zero = named_form names form
segment_form names form (suc i) = others_form names form

-- (K; field i)
abbrev pub one_field : Form → ℕ → Form
one_field form i =
    record { keys = form.keys; fields = slice_index_or form.fields i (field [] kinds.Int) ∷ [] }

-- (K and `_seq` int; `_piece` bytes n)
abbrev pub divide_form : ℕ → Form → Form
divide_form size form =
    record {
      keys = form.keys ++ field (codes "_seq") kinds.Int ∷ [];
      fields = field (codes "_piece") (kinds.Bytes size) ∷ [];
    }

-- the kind of the field that is indexed, an int or a text
abbrev pub index_kind : Option Kind → Kind
index_kind (Some (kinds.Text most)) = kinds.Text most
index_kind other = kinds.Int

-- (the field, K; nothing)
abbrev pub index_form : List ℕ → Form → Form
index_form name form =
    record { keys = field name (index_kind (kind_in form.fields name)) ∷ form.keys; fields = [] }

abbrev pub index_forms : List ℕ → Form → ℕ → Form
index_forms name form zero = form
index_forms name form (suc i) = index_form name form

-- the form of each child of a head
abbrev pub kid_form : Head → Form → ℕ → Form
kid_form (heads.Leaf kind) form i = form
kid_form heads.Actual form i = actual_form form
kid_form (heads.Encode name code) form i = encode_form name code form
kid_form (heads.Segment names) form i = segment_form names form i
kid_form heads.Transpose form i = one_field form i
kid_form (heads.Partition name bounds) form i = form
kid_form (heads.Divide size) form i = divide_form size form
kid_form (heads.Index name) form i = index_forms name form i

-- ---- links, by the kinds of the keys of their owner file and of their member file

abbrev pub key_field : List ℕ → Kind → List Field
key_field name kind = field name kind ∷ []

-- (`owner` O; `members` bytes MOST_MEMBERS w(M))
abbrev pub array_form : Kind → Kind → Form
array_form o m =
    record {
      keys = key_field (codes "owner") o;
      fields = field (codes "members")
          (kinds.Bytes (MOST_MEMBERS * width_of m)) ∷ [];
    }

-- (`owner` O; `first` M) and (`member` M; `last` int, `next` bytes max (w(O), w(M)), `owner` O)
abbrev pub ring_form : Kind → Kind → ℕ → Form
ring_form o m zero =
    record { keys = key_field (codes "owner") o; fields = field (codes "first") m ∷ [] }
ring_form o m (suc i) =
    record {
      keys = key_field (codes "member") m;
      fields = field (codes "last") kinds.Int ∷ field
          (codes "next") (kinds.Bytes (max (width_of o) (width_of m))) ∷ field
          (codes "owner") o ∷ [];
    }

-- (`owner` O, `member` M; nothing) and (`member` M; `owner` O)
abbrev pub inverted_form : Kind → Kind → ℕ → Form
inverted_form o m zero =
    record { keys = field (codes "owner") o ∷ field (codes "member") m ∷ []; fields = [] }
inverted_form o m (suc i) =
    record { keys = key_field (codes "member") m; fields = field (codes "owner") o ∷ [] }

-- the form of each child of a link's head
abbrev pub link_form : Linkset → Kind → Kind → ℕ → Form
link_form linksets.Array o m i = array_form o m
link_form linksets.Ring o m i = ring_form o m i
link_form linksets.Inverted o m i = inverted_form o m i
