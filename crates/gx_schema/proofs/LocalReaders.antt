-- The readers of a schema are local.
use Rattle.std.proofs.Common.{ℕ, zero, suc, Bool, true, false, not, ◌||◌, ◌&&◌, cond, eqb, ltb, leb, List, [], ◌∷◌, ◌++◌, length, Option, Some, None, Ok, Err, refl, subst, ◌⊎◌, inl, inr, arith}
use Rattle.std.specs.Prelude.{nat_eq, codes}
use Rattle.std.specs.Cmp.Lexicographic.{pointwise}
use Rattle.std.proofs.lemmas.Bool.{cond_both}
use Rattle.gx_tokens.specs.declared.why.Why.TheVariants as why
use Rattle.gx_tokens.specs.Grammar.{◌⨾◌, the, AWord, ANumber}
use Rattle.gx_tokens.specs.Lexemes.{Word, Number, Open, Close, Comma}
use Rattle.gx_tokens.specs.Locality.{IsInhabited, HasReason, IsLocal}
use Rattle.gx_tokens.specs.Numbers.{number_value, natural_up_to}
use Rattle.gx_tokens.specs.Reading.{◌>>=◌, want, an_open, a_close, a_comma, comma_or_close}
use Rattle.gx_tokens.specs.Spelling.{IsWord}
use Rattle.gx_tokens.proofs.LocalLaws.{TakesToken, Nothing, some_token, some_both, some_nothing, local_want, local_done, local_bind, local_then, local_value, some_then}
use Rattle.gx_tokens.proofs.LocalTokens.{some_word, some_number, some_mark, takes_word, takes_these_words, takes_number, takes_comma_or_close, local_open, local_comma, local_close}
use Rattle.gx_tokens.proofs.ReadingLaws.{list_mark}
use Rattle.gx_values.specs.declared.records.Field.{Field}
use Rattle.gx_values.specs.declared.values.Kind.{Kind}
use Rattle.gx_values.specs.declared.values.Kind.TheVariants as kinds
use Rattle.gx_schema.specs.declared.schema.Schema.{Schema}
use Rattle.gx_schema.specs.declared.schema.FileDef.{FileDef}
use Rattle.gx_schema.specs.declared.schema.LinkDef.{LinkDef}
use Rattle.gx_schema.specs.Names.{starts_with_letter, has_field, has_file, has_link, file_position}
use Rattle.gx_schema.specs.Reading.{size_from, a_kind_size, size_at, a_kind, kind_at, a_field_name, field_behind, fields_at, a_new_name, file_behind, number_from, a_file_name, link_behind}
use Rattle.gx_schema.specs.Shape.{KindShape, FieldShape, SomeFields, FileShape, LinkShape}
use Rattle.gx_schema.proofs.TextFound.{kind_word, kind_word_is}

-- ---- sizes and kinds

size_reason : (first : Bool) (text : List ℕ) (o : Option ℕ)
    → HasReason (Number text) (size_from first o)
size_reason first text None = tt
size_reason first text (Some zero) = tt
size_reason first text (Some (suc n)) =
    cond_both (first && ltb 100 (suc n)) (Err why.KeyField) (Ok (kinds.Text (suc n)))
    (HasReason (Number text)) (λ _. tt) (λ _. tt)

local_size : (first : Bool) → IsLocal (size_at first) (λ _. ANumber)
unfolding size_at
local_size first = local_want (a_kind_size first) (λ _. ANumber)
    (takes_number (λ text. size_from first (natural_up_to 200 (number_value text))) kinds.Int
    (λ text. size_reason first text (natural_up_to 200 (number_value text))))

int_is_word : IsWord (codes "int")
int_is_word = record { starts = refl; each = (refl, (refl, (refl, tt))); short = omega arith }

kind_reason : (word : List ℕ) → HasReason (Word word) (a_kind (Word word))
kind_reason word =
    cond_both (pointwise nat_eq word (codes "int")) (Ok false)
    (cond (pointwise nat_eq word (codes "text")) (Ok true) (Err why.Unexpected))
    (HasReason (Word word)) (λ _. tt)
    (λ _. cond_both (pointwise nat_eq word (codes "text")) (Ok true) (Err why.Unexpected)
    (HasReason (Word word)) (λ _. tt) (λ _ e. absurd cc))

-- what stands behind the word of a kind
abbrev BehindKind : Bool → Kind → List ℕ → List ℕ → Type 0
BehindKind true kind = ANumber
BehindKind false kind = Nothing kind

kind_joins : (is_text : Bool) (kind : Kind) (bytes mid rest : List ℕ)
    → the (Word (kind_word is_text)) bytes mid → BehindKind is_text kind mid rest
    → KindShape bytes rest
kind_joins true kind bytes mid rest word number = inr (mid, word, number)
kind_joins false kind bytes mid rest word same = inl
    (subst (λ (z : List ℕ). the (Word (codes "int")) bytes z) same word)

some_behind_kind : (is_text : Bool) → IsInhabited (BehindKind is_text)
some_behind_kind true = some_number kinds.Int
some_behind_kind false = some_nothing kinds.Int

local_behind_kind : (first is_text : Bool)
    → IsLocal (λ b. cond is_text (size_at first b) (Ok (kinds.Int, b))) (BehindKind is_text)
local_behind_kind first true bytes = local_size first bytes
local_behind_kind first false bytes = local_done kinds.Int bytes

local_kind : (first : Bool) → IsLocal (kind_at first) (λ _. KindShape)
unfolding kind_at
local_kind first =
    local_bind (want a_kind) (λ is_text b. cond is_text (size_at first b) (Ok (kinds.Int, b)))
    (λ is_text. the (Word (kind_word is_text))) BehindKind (λ _. KindShape) kind_joins
    some_behind_kind
    (local_want a_kind (λ is_text. the (Word (kind_word is_text)))
    (takes_these_words _ kind_word false int_is_word kind_word_is kind_reason))
    (local_behind_kind first)

some_kind : {A : Type 0} (x : A) → IsInhabited {A = A} (λ _. KindShape)
some_kind x = some_token (λ _. KindShape) x (Word (codes "int")) int_is_word (λ bytes rest h. inl h)

-- ---- fields

field_name_reason : (before : List Field) (word : List ℕ)
    → HasReason (Word word) (a_field_name before (Word word))
field_name_reason before word =
    cond_both (not (starts_with_letter word) || has_field before word) (Err why.NameUse)
    (cond (leb 32 (length before)) (Err why.Count) (Ok word)) (HasReason (Word word)) (λ _. tt)
    (λ _. cond_both (leb 32 (length before)) (Err why.Count) (Ok word) (HasReason (Word word))
    (λ _. tt) (λ _. tt))

abbrev made_field : List ℕ → Kind → Field
made_field name kind = record { name = name; kind = kind }

no_field : Field
no_field = record { name = []; kind = kinds.Int }

local_field : (before : List Field) → IsLocal (field_behind before) (λ _. FieldShape)
unfolding field_behind
local_field before =
    local_then (want (a_field_name before))
    (λ name b. kind_at (eqb (length before) 0) b >>= λ kind. Ok
    (made_field name kind.0, kind.1)) AWord KindShape
    (λ name. some_kind (made_field name kinds.Int))
    (local_want (a_field_name before) (λ _. AWord)
    (takes_word _ (codes "a") (field_name_reason before)))
    (λ name. local_value (kind_at (eqb (length before) 0)) (made_field name) KindShape
    (local_kind (eqb (length before) 0)))

some_field : {A : Type 0} (x : A) → IsInhabited {A = A} (λ _. FieldShape)
some_field x = some_both {A = List ℕ} (λ _. AWord) (λ _ _. KindShape) (λ _. FieldShape)
    (λ a b bytes mid rest f g. (mid, f, g)) (some_word (codes "a")) (λ _. some_kind x)

some_fields : {A : Type 0} (x : A) → IsInhabited {A = A} (λ _. SomeFields)
some_fields x = some_both {A = Unit {0}} (λ _. FieldShape) (λ _ _. the Close) (λ _. SomeFields)
    (λ a b bytes mid rest f g. (0, (mid, f, g))) (some_field tt) (λ _. some_mark x Close tt)

-- what stands behind a field
abbrev MoreFields : List ℕ → List ℕ → Type 0
MoreFields bytes rest = (the Comma ⨾ SomeFields) bytes rest ⊎ the Close bytes rest

-- what stands behind the mark that says whether a list goes on
abbrev BehindMark : Bool → List Field → List ℕ → List ℕ → Type 0
BehindMark true fields = SomeFields
BehindMark false fields = Nothing fields

mark_joins : (more : Bool) (fields : List Field) (bytes mid rest : List ℕ)
    → the (list_mark more) bytes mid → BehindMark more fields mid rest → MoreFields bytes rest
mark_joins true fields bytes mid rest mark others = inl (mid, mark, others)
mark_joins false fields bytes mid rest mark same =
    inr (subst (λ (z : List ℕ). the Close bytes z) same mark)

some_behind_mark : (more : Bool) → IsInhabited (BehindMark more)
some_behind_mark true = some_fields []
some_behind_mark false = some_nothing []

fields_join : (field : Field) (fields : List Field) (bytes mid rest : List ℕ) → FieldShape bytes mid
    → MoreFields mid rest → SomeFields bytes rest
fields_join field fields bytes mid rest f (inl more) = let others = more.2 in
    (suc others.0, (others.1.0, (mid, f, (more.0, more.1, others.1.1)), others.1.2))
fields_join field fields bytes mid rest f (inr close) = (0, (mid, f, close))

some_more : IsInhabited {A = List Field} (λ _. MoreFields)
some_more = some_token (λ _. MoreFields) [] Close tt (λ bytes rest h. inr h)

local_behind_mark : (room : ℕ) (before : List Field) (more : Bool)
    → IsLocal (fields_at room before) (λ _. SomeFields)
    → IsLocal (λ b. cond more (fields_at room before b) (Ok (before, b))) (BehindMark more)
local_behind_mark room before true h = h
local_behind_mark room before false h = local_done before

no_fields : TakesToken {A = List Field} (λ _. Err why.Count) (λ _. SomeFields)
no_fields = record {
  proper = λ x e. absurd cc;
  shaped = λ t x bytes rest e h. absurd cc;
  reason = λ t. tt;
  some = some_fields [];
}

local_fields : (room : ℕ) (before : List Field) → IsLocal (fields_at room before) (λ _. SomeFields)
unfolding fields_at
local_fields zero before = local_want (λ _. Err why.Count) (λ _. SomeFields) no_fields
local_fields (suc room) before =
    local_bind (field_behind before)
    (λ field b. want comma_or_close b >>= λ more. cond more.0
    (fields_at room (before ++ field ∷ []) more.1) (Ok (before ++ field ∷ [], more.1)))
    (λ _. FieldShape) (λ _ _. MoreFields) (λ _. SomeFields) fields_join (λ _. some_more)
    (local_field before)
    (λ field. local_bind (want comma_or_close)
    (λ more b. cond more (fields_at room (before ++ field ∷ []) b)
    (Ok (before ++ field ∷ [], b)))
    (λ more. the (list_mark more)) BehindMark (λ _. MoreFields) mark_joins some_behind_mark
    (local_want comma_or_close (λ more. the (list_mark more)) takes_comma_or_close)
    (λ more. local_behind_mark room (before ++ field ∷ []) more
    (local_fields room (before ++ field ∷ []))))

-- ---- files and links

new_name_reason : (s : Schema) (word : List ℕ) → HasReason (Word word) (a_new_name s (Word word))
new_name_reason s word =
    cond_both (not (starts_with_letter word) || (has_file s.files word || has_link s.links word))
    (Err why.NameUse) (Ok word) (HasReason (Word word)) (λ _. tt) (λ _. tt)

local_new_name : (s : Schema) → IsLocal (want (a_new_name s)) (λ _. AWord)
local_new_name s = local_want (a_new_name s) (λ _. AWord)
    (takes_word _ (codes "a") (new_name_reason s))

number_reason : (word : List ℕ) (o : Option ℕ) → HasReason (Word word) (number_from o)
number_reason word None = tt
number_reason word (Some n) = tt

local_file_name : (files : List FileDef) → IsLocal (want (a_file_name files)) (λ _. AWord)
local_file_name files =
    local_want (a_file_name files) (λ _. AWord)
    (takes_word _ 0 (λ word. number_reason word (file_position files word)))

abbrev made_file : List ℕ → List Field → FileDef
made_file name fields = record { name = name; fields = fields }

pub some_file_shape : {A : Type 0} (x : A) → IsInhabited {A = A} (λ _. FileShape)
some_file_shape x = some_then AWord (the Open ⨾ SomeFields) (some_word tt)
    (some_then (the Open) SomeFields (some_mark tt Open tt) (some_fields x))

pub local_file : (s : Schema) → IsLocal (file_behind s) (λ _. FileShape)
unfolding file_behind
local_file s =
    local_then (want (a_new_name s))
    (λ name b. want an_open b >>= λ opened. fields_at 33 [] opened.1 >>= λ fields. Ok
    (made_file name fields.0, fields.1)) AWord (the Open ⨾ SomeFields)
    (λ name. some_then (the Open) SomeFields (some_mark tt Open tt)
    (some_fields (made_file name []))) (local_new_name s)
    (λ name. local_then (want an_open)
    (λ opened b. fields_at 33 [] b >>= λ fields. Ok (made_file name fields.0, fields.1))
    (the Open) SomeFields (λ _. some_fields (made_file name [])) local_open
    (λ opened. local_value (fields_at 33 []) (made_file name) SomeFields (local_fields 33 [])))

abbrev made_link : List ℕ → ℕ → ℕ → LinkDef
made_link name owner member = record { name = name; owner = owner; member = member }

abbrev Behind4 : List ℕ → List ℕ → Type 0
Behind4 = AWord ⨾ the Close

abbrev Behind3 : List ℕ → List ℕ → Type 0
Behind3 = the Comma ⨾ Behind4

abbrev Behind2 : List ℕ → List ℕ → Type 0
Behind2 = AWord ⨾ Behind3

abbrev Behind1 : List ℕ → List ℕ → Type 0
Behind1 = the Open ⨾ Behind2

some_behind4 : {A : Type 0} (x : A) → IsInhabited {A = A} (λ _. Behind4)
some_behind4 x = some_then AWord (the Close) (some_word tt) (some_mark x Close tt)

some_behind3 : {A : Type 0} (x : A) → IsInhabited {A = A} (λ _. Behind3)
some_behind3 x = some_then (the Comma) Behind4 (some_mark tt Comma tt) (some_behind4 x)

some_behind2 : {A : Type 0} (x : A) → IsInhabited {A = A} (λ _. Behind2)
some_behind2 x = some_then AWord Behind3 (some_word tt) (some_behind3 x)

some_behind1 : {A : Type 0} (x : A) → IsInhabited {A = A} (λ _. Behind1)
some_behind1 x = some_then (the Open) Behind2 (some_mark tt Open tt) (some_behind2 x)

pub some_link_shape : {A : Type 0} (x : A) → IsInhabited {A = A} (λ _. LinkShape)
some_link_shape x = some_then AWord Behind1 (some_word tt) (some_behind1 x)

pub local_link : (s : Schema) → IsLocal (link_behind s) (λ _. LinkShape)
unfolding link_behind
local_link s =
    let p = a_file_name s.files in
    local_then (want (a_new_name s))
    (λ name b. want an_open b >>= λ opened. want p opened.1 >>= λ owner. want a_comma owner.1
    >>= λ comma. want p comma.1 >>= λ member. want a_close member.1 >>= λ closed. Ok
    (made_link name owner.0 member.0, closed.1)) AWord Behind1
    (λ name. some_behind1 (made_link name 0 0)) (local_new_name s)
    (λ name. local_then (want an_open)
    (λ opened b. want p b >>= λ owner. want a_comma owner.1 >>= λ comma. want p comma.1 >>=
    λ member. want a_close member.1 >>= λ closed. Ok
    (made_link name owner.0 member.0, closed.1)) (the Open) Behind2
    (λ opened. some_behind2 (made_link name 0 0)) local_open
    (λ opened. local_then (want p)
    (λ owner b. want a_comma b >>= λ comma. want p comma.1 >>= λ member. want a_close member.1
    >>= λ closed. Ok (made_link name owner member.0, closed.1)) AWord Behind3
    (λ owner. some_behind3 (made_link name owner 0)) (local_file_name s.files)
    (λ owner. local_then (want a_comma)
    (λ comma b. want p b >>= λ member. want a_close member.1 >>= λ closed. Ok
    (made_link name owner member.0, closed.1)) (the Comma) Behind4
    (λ comma. some_behind4 (made_link name owner 0)) local_comma
    (λ comma. local_then (want p)
    (λ member b. want a_close b >>= λ closed. Ok (made_link name owner member, closed.1)) AWord
    (the Close)
    (λ member. some_mark (made_link name owner member) Close tt) (local_file_name s.files)
    (λ member. local_value (want a_close) (λ _. made_link name owner member)
    (the Close) local_close)))))
