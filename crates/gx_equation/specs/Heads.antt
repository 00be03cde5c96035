-- Heads of terms: how they are read up to their first child.
use Rattle.std.specs.Prelude.{ℕ, zero, suc, ℤ, false, ◌==◌, nat_eq, List, [], ◌∷◌, ◌++◌, length, Option, Some, None, Result, Ok, Err, if◌then◌else◌, codes}
use Rattle.std.specs.Cmp.Lexicographic.{pointwise}
use Rattle.gx_tokens.specs.declared.fault.Fault.{Fault}
use Rattle.gx_tokens.specs.declared.why.Why.{Why}
use Rattle.gx_tokens.specs.declared.why.Why.TheVariants as why
use Rattle.gx_tokens.specs.Lexemes.{Lexeme, Number, Quoted, Comma}
use Rattle.gx_tokens.specs.Numbers.{number_value, natural_up_to, signed_number}
use Rattle.gx_tokens.specs.Quotes.{unquoted}
use Rattle.gx_tokens.specs.Reading.{◌>>=◌, map_ok, want, an_open, a_close, a_comma, a_word, word_if, number_if, unexpected}
use Rattle.gx_values.specs.declared.values.Code.{Code}
use Rattle.gx_values.specs.declared.values.Code.TheVariants as code
use Rattle.gx_values.specs.declared.values.Value.{Value}
use Rattle.gx_values.specs.declared.values.Value.TheVariants as value
use Rattle.gx_ports.specs.declared.kinds.LeafKind.TheVariants as leaf
use Rattle.gx_equation.specs.declared.heads.HeadWord.{HeadWord}
use Rattle.gx_equation.specs.declared.heads.HeadWord.TheVariants as words
use Rattle.gx_equation.specs.declared.heads.Head.{Head}
use Rattle.gx_equation.specs.declared.heads.Head.TheVariants as heads

-- ---- words

-- the word of a head
abbrev pub spell : HeadWord → List ℕ
spell words.Heap = codes "heap"
spell words.Hash = codes "hash"
spell words.Isam = codes "isam"
spell words.Bplus = codes "bplus"
spell words.Actual = codes "actual"
spell words.Encode = codes "encode"
spell words.Segment = codes "segment"
spell words.Transpose = codes "transpose"
spell words.Partition = codes "partition"
spell words.Divide = codes "divide"
spell words.Index = codes "index"

-- the head may stand where there are levels left
abbrev pub in_depth : ℕ → HeadWord → Result HeadWord Why
in_depth levels word = if levels == 0 then Err why.Depth else Ok word

-- the head of this word, where so many levels of heads may still stand
unfoldable pub head_of_word : ℕ → List ℕ → Result HeadWord Why
head_of_word levels word =
    if pointwise nat_eq word (codes "heap") then in_depth levels words.Heap
    else (if pointwise nat_eq word (codes "hash") then in_depth levels words.Hash
    else (if pointwise nat_eq word (codes "isam") then in_depth levels words.Isam
    else (if pointwise nat_eq word (codes "bplus") then in_depth levels words.Bplus
    else (if pointwise nat_eq word (codes "actual") then in_depth levels words.Actual
    else (if pointwise nat_eq word (codes "encode") then in_depth levels words.Encode
    else (if pointwise nat_eq word (codes "segment") then in_depth levels words.Segment
    else (if pointwise nat_eq word (codes "transpose") then in_depth levels words.Transpose
    else (if pointwise nat_eq word (codes "partition") then in_depth levels words.Partition
    else (if pointwise nat_eq word (codes "divide") then in_depth levels words.Divide
    else (if pointwise nat_eq word (codes "index") then in_depth levels words.Index
    else Err why.Unexpected))))))))))

abbrev pub a_head : ℕ → Lexeme → Result HeadWord Why
a_head levels = word_if (head_of_word levels)

-- the code of this word
unfoldable pub code_of_word : List ℕ → Result Code Why
code_of_word word =
    if pointwise nat_eq word (codes "pack") then Ok code.Pack
    else (if pointwise nat_eq word (codes "rle") then Ok code.Rle
    else Err why.Unexpected)

abbrev pub a_code : Lexeme → Result Code Why
a_code = word_if code_of_word

-- ---- numbers and bounds

abbrev pub from_one : Option ℕ → Result ℕ Why
from_one None = Err why.Number
from_one (Some zero) = Err why.Number
from_one (Some (suc n)) = Ok (suc n)

-- a number from 1 to `most`
abbrev pub size_up_to : ℕ → List ℕ → Result ℕ Why
size_up_to most text = from_one (natural_up_to most (number_value text))

abbrev pub a_size : ℕ → Lexeme → Result ℕ Why
a_size most = number_if (size_up_to most)

abbrev pub int_bound : Option ℤ → Result Value Why
int_bound None = Err why.Number
int_bound (Some n) = Ok (value.Int n)

-- a number of 64 bits, or a text
abbrev pub a_bound : Lexeme → Result Value Why
a_bound (Number text) = int_bound (signed_number text)
a_bound (Quoted text) = Ok (value.Text (unquoted false text))
a_bound other = unexpected other

-- ---- lists up to a comma

-- one more item, or none at the comma behind the last one
abbrev pub or_comma : {X : Type 0} → (Lexeme → Result X Why) → Lexeme → Result (Option X) Why
or_comma item Comma = Ok None
or_comma item other = map_ok (λ x. Some x) (item other)

-- the items before, and those of the text up to the comma; there is fuel for each byte, so that it
-- never runs out
unfoldable pub items_at : {X : Type 0} → (Lexeme → Result X Why) → ℕ → List X → List ℕ
    → Result (List X × List ℕ) Fault
items_at item zero before bytes = want (λ _. Err why.Count) bytes
items_at item (suc fuel) before bytes = do
  x ← want (or_comma item) bytes
  elim x.0 [ None ↦ Ok (before, x.1) | Some y ↦ items_at item fuel (before ++ y ∷ []) x.1 ]

-- ---- what stands behind a head's word, up to its first child

unfoldable pub hash_at : List ℕ → Result (Head × List ℕ) Fault
hash_at bytes = do
  opened ← want an_open bytes
  size ← want (a_size 64) opened.1
  closed ← want a_close size.1
  Ok (heads.Leaf (leaf.Hash size.0), closed.1)

unfoldable pub encode_at : List ℕ → Result (Head × List ℕ) Fault
encode_at bytes = do
  opened ← want an_open bytes
  name ← want a_word opened.1
  code ← want a_code name.1
  comma ← want a_comma code.1
  Ok (heads.Encode name.0 code.0, comma.1)

unfoldable pub segment_at : List ℕ → Result (Head × List ℕ) Fault
segment_at bytes = do
  opened ← want an_open bytes
  first ← want a_word opened.1
  names ← items_at a_word (suc (length first.1)) (first.0 ∷ []) first.1
  Ok (heads.Segment names.0, names.1)

unfoldable pub partition_at : List ℕ → Result (Head × List ℕ) Fault
partition_at bytes = do
  opened ← want an_open bytes
  name ← want a_word opened.1
  first ← want a_bound name.1
  bounds ← items_at a_bound (suc (length first.1)) (first.0 ∷ []) first.1
  Ok (heads.Partition name.0 bounds.0, bounds.1)

unfoldable pub divide_at : List ℕ → Result (Head × List ℕ) Fault
divide_at bytes = do
  opened ← want an_open bytes
  size ← want (a_size 16000) opened.1
  comma ← want a_comma size.1
  Ok (heads.Divide size.0, comma.1)

unfoldable pub index_at : List ℕ → Result (Head × List ℕ) Fault
index_at bytes = do
  opened ← want an_open bytes
  name ← want a_word opened.1
  comma ← want a_comma name.1
  Ok (heads.Index name.0, comma.1)

-- a head without names and numbers, behind its `(`
abbrev pub opened_at : Head → List ℕ → Result (Head × List ℕ) Fault
opened_at top bytes = do
  opened ← want an_open bytes
  Ok (top, opened.1)

unfoldable pub arguments_at : HeadWord → List ℕ → Result (Head × List ℕ) Fault
arguments_at words.Heap bytes = Ok (heads.Leaf leaf.Heap, bytes)
arguments_at words.Hash bytes = hash_at bytes
arguments_at words.Isam bytes = Ok (heads.Leaf leaf.Isam, bytes)
arguments_at words.Bplus bytes = Ok (heads.Leaf leaf.Bplus, bytes)
arguments_at words.Actual bytes = opened_at heads.Actual bytes
arguments_at words.Encode bytes = encode_at bytes
arguments_at words.Segment bytes = segment_at bytes
arguments_at words.Transpose bytes = opened_at heads.Transpose bytes
arguments_at words.Partition bytes = partition_at bytes
arguments_at words.Divide bytes = divide_at bytes
arguments_at words.Index bytes = index_at bytes

-- a head where so many levels of heads may still stand
unfoldable pub head_at : ℕ → List ℕ → Result (Head × List ℕ) Fault
head_at levels bytes = do
  word ← want (a_head levels) bytes
  arguments_at word.0 word.1
