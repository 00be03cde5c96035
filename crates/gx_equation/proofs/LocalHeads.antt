-- The readers of heads are local.
use Rattle.std.proofs.Common.{◌≡◌, ℕ, zero, suc, List, [], ◌∷◌, ◌++◌, length, Option, Some, None, Result, Ok, Err, refl, subst, inl, inr}
use Rattle.std.specs.Prelude.{ℤ, pos, nat_eq, codes}
use Rattle.std.specs.Cmp.Lexicographic.{pointwise}
use Rattle.std.proofs.lemmas.Bool.{cond_both}
use Rattle.gx_tokens.specs.declared.why.Why.{Why}
use Rattle.gx_tokens.specs.declared.why.Why.TheVariants as why
use Rattle.gx_tokens.specs.Grammar.{◌⨾◌, the, AWord, ANumber}
use Rattle.gx_tokens.specs.Lexemes.{Lexeme, Word, Number, Quoted, Open, Close, Comma, Equals, End}
use Rattle.gx_tokens.specs.Locality.{IsInhabited, HasReason, IsLocal}
use Rattle.gx_tokens.specs.Numbers.{number_value, natural_up_to, signed_number}
use Rattle.gx_tokens.specs.Reading.{◌>>=◌, map_ok, want, an_open, a_close, a_comma, a_word}
use Rattle.gx_tokens.proofs.LocalLaws.{TakesToken, Nothing, some_token, some_nothing, local_want, local_done, local_bind, local_then, local_value, some_then}
use Rattle.gx_tokens.proofs.LocalTokens.{some_word, some_number, some_mark, takes_word, takes_these_words, takes_number, local_open, local_comma, local_close}
use Rattle.gx_values.specs.declared.values.Code.{Code}
use Rattle.gx_values.specs.declared.values.Code.TheVariants as code
use Rattle.gx_values.specs.declared.values.Value.{Value}
use Rattle.gx_values.specs.declared.values.Value.TheVariants as value
use Rattle.gx_ports.specs.declared.kinds.LeafKind.TheVariants as leaf
use Rattle.gx_equation.specs.declared.heads.Head.{Head}
use Rattle.gx_equation.specs.declared.heads.Head.TheVariants as heads
use Rattle.gx_equation.specs.declared.heads.HeadWord.{HeadWord}
use Rattle.gx_equation.specs.declared.heads.HeadWord.TheVariants as words
use Rattle.gx_equation.specs.Grammar.{code_word}
use Rattle.gx_equation.specs.Heads.{from_one, size_up_to, a_size, code_of_word, a_code, int_bound, a_bound, or_comma, items_at, hash_at, encode_at, segment_at, partition_at, divide_at, index_at, arguments_at}
use Rattle.gx_equation.specs.Shape.{ACode, ABound, SomeMore, ArgumentsShape}
use Rattle.gx_equation.proofs.Found.{code_is, OrComma, or_comma_is}
use Rattle.gx_equation.proofs.Fuel.{items_settle, local_fuel}
use Rattle.gx_equation.proofs.HeadsPrinted.{spelled_code}
use Rattle.gx_equation.proofs.Reasons.{says_names, says_bounds}
use Rattle.gx_equation.proofs.Shorter.{name_shorter, bound_shorter}

some_also : {A : Type 0} (shape other : List ℕ → List ℕ → Type 0)
    → ((bytes rest : List ℕ) → shape bytes rest → other bytes rest)
    → IsInhabited {A = A} (λ _. shape) → IsInhabited {A = A} (λ _. other)
some_also shape other also f =
    (f.0, λ tail. let s = f.1 tail in (s.0, also (32 ∷ s.0) (32 ∷ tail) s.1))

-- ---- names, numbers, codes and bounds

takes_name : TakesToken a_word (λ _. AWord)
takes_name = takes_word (λ word. Ok word) (codes "a") (λ word. tt)

pub local_name : IsLocal (want a_word) (λ _. AWord)
local_name = local_want a_word (λ _. AWord) takes_name

size_reason : (text : List ℕ) (o : Option ℕ) → HasReason (Number text) (from_one o)
size_reason text None = tt
size_reason text (Some zero) = tt
size_reason text (Some (suc n)) = tt

local_size : (most : ℕ) → IsLocal (want (a_size most)) (λ _. ANumber)
local_size most = local_want (a_size most) (λ _. ANumber)
    (takes_number (size_up_to most) 1
    (λ text. size_reason text (natural_up_to most (number_value text))))

code_reason : (word : List ℕ) → HasReason (Word word) (code_of_word word)
unfolding code_of_word
code_reason word =
    cond_both (pointwise nat_eq word (codes "pack")) _ _ (HasReason (Word word)) (λ _. tt)
    (λ _. cond_both (pointwise nat_eq word (codes "rle")) _ _ (HasReason (Word word)) (λ _. tt)
    (λ _ e. absurd cc))

code_shape : (c : Code) (bytes rest : List ℕ) → the (Word (code_word c)) bytes rest
    → ACode bytes rest
code_shape code.Pack bytes rest h = inl h
code_shape code.Rle bytes rest h = inr h

takes_code_words : TakesToken a_code (λ c. the (Word (code_word c)))
takes_code_words = takes_these_words code_of_word code_word code.Pack (spelled_code code.Pack)
    code_is code_reason

some_code : {A : Type 0} (x : A) → IsInhabited {A = A} (λ _. ACode)
some_code x = some_token (λ _. ACode) x (Word (code_word code.Pack)) (spelled_code code.Pack)
    (λ bytes rest h. inl h)

takes_code : TakesToken a_code (λ _. ACode)
takes_code = record {
  proper = takes_code_words.proper;
  shaped = λ t c bytes rest e h. code_shape c bytes rest
      (takes_code_words.shaped t c bytes rest e h);
  reason = takes_code_words.reason;
  some = some_code code.Pack;
}

int_reason : (text : List ℕ) (o : Option ℤ) → HasReason (Number text) (int_bound o)
int_reason text None = tt
int_reason text (Some n) = tt

bound_reason : (t : Lexeme) → HasReason t (a_bound t)
bound_reason (Word w) = λ e. absurd cc
bound_reason (Number w) = int_reason w (signed_number w)
bound_reason (Quoted w) = tt
bound_reason Open = λ e. absurd cc
bound_reason Close = λ e. absurd cc
bound_reason Comma = λ e. absurd cc
bound_reason Equals = λ e. absurd cc
bound_reason End = refl

bound_shape : (t : Lexeme) (v : Value) (bytes rest : List ℕ) → a_bound t ≡ Ok v → the t bytes rest
    → ABound bytes rest
bound_shape (Word w) v bytes rest e h = absurd cc
bound_shape (Number w) v bytes rest e h = inl (w, h)
bound_shape (Quoted w) v bytes rest e h = inr (w, h)
bound_shape Open v bytes rest e h = absurd cc
bound_shape Close v bytes rest e h = absurd cc
bound_shape Comma v bytes rest e h = absurd cc
bound_shape Equals v bytes rest e h = absurd cc
bound_shape End v bytes rest e h = absurd cc

some_bound : {A : Type 0} (x : A) → IsInhabited {A = A} (λ _. ABound)
some_bound x = some_also ANumber ABound (λ bytes rest h. inl h) (some_number x)

takes_bound : TakesToken a_bound (λ _. ABound)
takes_bound = record {
  proper = λ v e. absurd cc;
  shaped = bound_shape;
  reason = bound_reason;
  some = some_bound (value.Int (pos 1));
}

-- ---- items up to a comma

abbrev OrShape : {X : Type 0} → (List ℕ → List ℕ → Type 0) → Option X → List ℕ → List ℕ → Type 0
OrShape Item None = the Comma
OrShape Item (Some x) = Item

end_is_proper : {X : Type 0} (item : Lexeme → Result X Why) → ((x : X) → item End ≡ Ok x → ⊥)
    → (o : Option X) → OrComma item o End → ⊥
end_is_proper item never None e = cc
end_is_proper item never (Some x) e = never x e

or_shaped : {X : Type 0} (item : Lexeme → Result X Why) (Item : List ℕ → List ℕ → Type 0)
    → TakesToken item (λ _. Item) → (t : Lexeme) (o : Option X) (bytes rest : List ℕ)
    → OrComma item o t → the t bytes rest → OrShape Item o bytes rest
or_shaped item Item takes t None bytes rest is h = subst (λ (z : Lexeme). the z bytes rest) is h
or_shaped item Item takes t (Some x) bytes rest is h = takes.shaped t x bytes rest is h

some_reason : {X Y : Type 0} (f : X → Y) (t : Lexeme) (m : Result X Why) → HasReason t m
    → HasReason t (map_ok f m)
some_reason f t (Ok x) h = tt
some_reason f t (Err reason) h = h

or_reason : {X : Type 0} (item : Lexeme → Result X Why) → ((t : Lexeme) → HasReason t (item t))
    → (t : Lexeme) → HasReason t (or_comma item t)
or_reason item named Comma = tt
or_reason item named other = some_reason (λ x. Some x) other (item other) (named other)

takes_or : {X : Type 0} (item : Lexeme → Result X Why) (Item : List ℕ → List ℕ → Type 0)
    → TakesToken item (λ _. Item) → TakesToken (or_comma item) (OrShape Item)
takes_or item Item takes = record {
  proper = λ o e. end_is_proper item takes.proper o (or_comma_is item End o e);
  shaped = λ t o bytes rest e h. or_shaped item Item takes t o bytes rest (or_comma_is item t o e)
      h;
  reason = or_reason item takes.reason;
  some = some_token (OrShape Item) None Comma tt (λ bytes rest h. h);
}

some_more : {A : Type 0} (Item : List ℕ → List ℕ → Type 0) (x : A)
    → IsInhabited {A = A} (λ _. SomeMore Item)
some_more Item x = some_token (λ _. SomeMore Item) x Comma tt (λ bytes rest h. (0, h))

-- what stands behind an item, or behind the comma
abbrev BehindOr : {X : Type 0} → (List ℕ → List ℕ → Type 0) → Option X → List X → List ℕ → List ℕ
    → Type 0
BehindOr Item None xs = Nothing xs
BehindOr Item (Some x) xs = SomeMore Item

or_joins : {X : Type 0} (Item : List ℕ → List ℕ → Type 0) (o : Option X) (xs : List X)
    (bytes mid rest : List ℕ) → OrShape Item o bytes mid → BehindOr Item o xs mid rest
    → SomeMore Item bytes rest
or_joins Item None xs bytes mid rest comma same =
    (0, subst (λ (z : List ℕ). the Comma bytes z) same comma)
or_joins Item (Some x) xs bytes mid rest one more = (suc more.0, (mid, one, more.1))

some_behind_or : {X : Type 0} (Item : List ℕ → List ℕ → Type 0) (o : Option X)
    → IsInhabited (BehindOr Item o)
some_behind_or Item None = some_nothing []
some_behind_or Item (Some x) = some_more Item []

no_items : {X : Type 0} (Item : List ℕ → List ℕ → Type 0)
    → TakesToken {A = List X} (λ _. Err why.Count) (λ _. SomeMore Item)
no_items Item = record {
  proper = λ x e. absurd cc;
  shaped = λ t x bytes rest e h. absurd cc;
  reason = λ t. tt;
  some = some_more Item [];
}

local_behind_or : {X : Type 0} (item : Lexeme → Result X Why) (Item : List ℕ → List ℕ
    → Type 0) (fuel : ℕ) (before : List X) (o : Option X)
    → ((xs : List X) → IsLocal (items_at item fuel xs) (λ _. SomeMore Item))
    → IsLocal (λ b. elim o [
      | None ↦ Ok (before, b)
      | Some x ↦ items_at item fuel (before ++ x ∷ []) b
    ]) (BehindOr Item o)
local_behind_or item Item fuel before None again = local_done before
local_behind_or item Item fuel before (Some x) again = again (before ++ x ∷ [])

local_items : {X : Type 0} (item : Lexeme → Result X Why) (Item : List ℕ → List ℕ → Type 0)
    → TakesToken item (λ _. Item) → (fuel : ℕ) (before : List X)
    → IsLocal (items_at item fuel before) (λ _. SomeMore Item)
unfolding items_at
local_items item Item takes zero before =
    local_want (λ _. Err why.Count) (λ _. SomeMore Item) (no_items Item)
local_items {X = X} item Item takes (suc fuel) before =
    local_bind (want (or_comma item))
    (λ o b. elim o [ None ↦ Ok (before, b) | Some x ↦ items_at item fuel (before ++ x ∷ []) b ])
    (OrShape Item) (BehindOr {X = X} Item) (λ _. SomeMore Item) (or_joins Item)
    (some_behind_or Item)
    (local_want (or_comma item) (OrShape Item) (takes_or item Item takes))
    (λ o. local_behind_or item Item fuel before o (λ xs. local_items item Item takes fuel xs))

local_names : (first : List ℕ)
    → IsLocal (λ b. items_at a_word (suc (length b)) (first ∷ []) b) (λ _. SomeMore AWord)
local_names first = local_fuel (λ fuel b. items_at a_word fuel (first ∷ []) b) (λ _. SomeMore AWord)
    (items_settle a_word name_shorter (first ∷ [])) (λ b. says_names first b)
    (λ fuel. local_items a_word AWord takes_name fuel (first ∷ []))

local_bounds : (first : Value)
    → IsLocal (λ b. items_at a_bound (suc (length b)) (first ∷ []) b) (λ _. SomeMore ABound)
local_bounds first = local_fuel (λ fuel b. items_at a_bound fuel (first ∷ []) b)
    (λ _. SomeMore ABound) (items_settle a_bound bound_shorter (first ∷ []))
    (λ b. says_bounds first b)
    (λ fuel. local_items a_bound ABound takes_bound fuel (first ∷ []))

-- ---- what stands behind the word of a head

-- some head
some_head : Head
some_head = heads.Actual

local_hash : IsLocal hash_at (λ _. ArgumentsShape words.Hash)
unfolding hash_at
local_hash =
    local_then (want an_open)
    (λ o b. want (a_size 64) b >>= λ n. want a_close n.1 >>= λ c. Ok
    (heads.Leaf (leaf.Hash n.0), c.1)) (the Open) (ANumber ⨾ the Close)
    (λ o. some_then ANumber (the Close) (some_number tt) (some_mark some_head Close tt)) local_open
    (λ o. local_then (want (a_size 64))
    (λ n b. want a_close b >>= λ c. Ok (heads.Leaf (leaf.Hash n), c.1)) ANumber (the Close)
    (λ n. some_mark some_head Close tt) (local_size 64)
    (λ n. local_value (want a_close) (λ _. heads.Leaf (leaf.Hash n)) (the Close) local_close))

local_encode : IsLocal encode_at (λ _. ArgumentsShape words.Encode)
unfolding encode_at
local_encode =
    local_then (want an_open)
    (λ o b. want a_word b >>= λ n. want a_code n.1 >>= λ c. want a_comma c.1 >>= λ d. Ok
    (heads.Encode n.0 c.0, d.1)) (the Open) (AWord ⨾ ACode ⨾ the Comma)
    (λ o. some_then AWord (ACode ⨾ the Comma) (some_word tt)
    (some_then ACode (the Comma) (some_code tt) (some_mark some_head Comma tt))) local_open
    (λ o. local_then (want a_word)
    (λ n b. want a_code b >>= λ c. want a_comma c.1 >>= λ d. Ok (heads.Encode n c.0, d.1)) AWord
    (ACode ⨾ the Comma)
    (λ n. some_then ACode (the Comma) (some_code tt) (some_mark some_head Comma tt)) local_name
    (λ n. local_then (want a_code) (λ c b. want a_comma b >>= λ d. Ok (heads.Encode n c, d.1)) ACode
    (the Comma) (λ c. some_mark some_head Comma tt) (local_want a_code (λ _. ACode) takes_code)
    (λ c. local_value (want a_comma) (λ _. heads.Encode n c) (the Comma) local_comma)))

local_segment : IsLocal segment_at (λ _. ArgumentsShape words.Segment)
unfolding segment_at
local_segment =
    local_then (want an_open)
    (λ o b. want a_word b >>= λ n. items_at a_word (suc (length n.1)) (n.0 ∷ []) n.1 >>= λ ns.
    Ok (heads.Segment ns.0, ns.1)) (the Open) (AWord ⨾ SomeMore AWord)
    (λ o. some_then AWord (SomeMore AWord) (some_word tt) (some_more AWord some_head)) local_open
    (λ o. local_then (want a_word)
    (λ n b. items_at a_word (suc (length b)) (n ∷ []) b >>= λ ns. Ok (heads.Segment ns.0, ns.1))
    AWord (SomeMore AWord) (λ n. some_more AWord some_head) local_name
    (λ n. local_value (λ b. items_at a_word (suc (length b)) (n ∷ []) b) (λ ns. heads.Segment ns)
    (SomeMore AWord) (local_names n)))

local_partition : IsLocal partition_at (λ _. ArgumentsShape words.Partition)
unfolding partition_at
local_partition =
    local_then (want an_open)
    (λ o b. want a_word b >>= λ n. want a_bound n.1 >>= λ v. items_at a_bound (suc (length v.1))
    (v.0 ∷ []) v.1 >>= λ vs. Ok (heads.Partition n.0 vs.0, vs.1)) (the Open)
    (AWord ⨾ ABound ⨾ SomeMore ABound)
    (λ o. some_then AWord (ABound ⨾ SomeMore ABound) (some_word tt)
    (some_then ABound (SomeMore ABound) (some_bound tt) (some_more ABound some_head)))
    local_open
    (λ o. local_then (want a_word)
    (λ n b. want a_bound b >>= λ v. items_at a_bound (suc (length v.1)) (v.0 ∷ []) v.1 >>= λ vs.
    Ok (heads.Partition n vs.0, vs.1)) AWord (ABound ⨾ SomeMore ABound)
    (λ n. some_then ABound (SomeMore ABound) (some_bound tt) (some_more ABound some_head))
    local_name
    (λ n. local_then (want a_bound)
    (λ v b. items_at a_bound (suc (length b)) (v ∷ []) b >>= λ vs. Ok
    (heads.Partition n vs.0, vs.1)) ABound (SomeMore ABound)
    (λ v. some_more ABound some_head) (local_want a_bound (λ _. ABound) takes_bound)
    (λ v. local_value (λ b. items_at a_bound (suc (length b)) (v ∷ []) b)
    (λ vs. heads.Partition n vs) (SomeMore ABound) (local_bounds v))))

local_divide : IsLocal divide_at (λ _. ArgumentsShape words.Divide)
unfolding divide_at
local_divide =
    local_then (want an_open)
    (λ o b. want (a_size 16000) b >>= λ n. want a_comma n.1 >>= λ c. Ok (heads.Divide n.0, c.1))
    (the Open) (ANumber ⨾ the Comma)
    (λ o. some_then ANumber (the Comma) (some_number tt) (some_mark some_head Comma tt)) local_open
    (λ o. local_then (want (a_size 16000)) (λ n b. want a_comma b >>= λ c. Ok (heads.Divide n, c.1))
    ANumber (the Comma) (λ n. some_mark some_head Comma tt) (local_size 16000)
    (λ n. local_value (want a_comma) (λ _. heads.Divide n) (the Comma) local_comma))

local_index : IsLocal index_at (λ _. ArgumentsShape words.Index)
unfolding index_at
local_index =
    local_then (want an_open)
    (λ o b. want a_word b >>= λ n. want a_comma n.1 >>= λ c. Ok (heads.Index n.0, c.1))
    (the Open) (AWord ⨾ the Comma)
    (λ o. some_then AWord (the Comma) (some_word tt) (some_mark some_head Comma tt)) local_open
    (λ o. local_then (want a_word) (λ n b. want a_comma b >>= λ c. Ok (heads.Index n, c.1)) AWord
    (the Comma) (λ n. some_mark some_head Comma tt) local_name
    (λ n. local_value (want a_comma) (λ _. heads.Index n) (the Comma) local_comma))

pub local_arguments : (w : HeadWord) → IsLocal (arguments_at w) (λ _. ArgumentsShape w)
unfolding arguments_at
local_arguments words.Heap = local_done (heads.Leaf leaf.Heap)
local_arguments words.Hash = local_hash
local_arguments words.Isam = local_done (heads.Leaf leaf.Isam)
local_arguments words.Bplus = local_done (heads.Leaf leaf.Bplus)
local_arguments words.Actual = local_value (want an_open) (λ _. heads.Actual) (the Open) local_open
local_arguments words.Encode = local_encode
local_arguments words.Segment = local_segment
local_arguments words.Transpose =
    local_value (want an_open) (λ _. heads.Transpose) (the Open) local_open
local_arguments words.Partition = local_partition
local_arguments words.Divide = local_divide
local_arguments words.Index = local_index

pub some_arguments : (w : HeadWord) → IsInhabited {A = Unit {0}} (λ _. ArgumentsShape w)
some_arguments words.Heap = some_nothing tt
some_arguments words.Hash =
    some_then (the Open) (ANumber ⨾ the Close) (some_mark tt Open tt)
    (some_then ANumber (the Close) (some_number tt) (some_mark tt Close tt))
some_arguments words.Isam = some_nothing tt
some_arguments words.Bplus = some_nothing tt
some_arguments words.Actual = some_mark tt Open tt
some_arguments words.Encode =
    some_then (the Open) (AWord ⨾ ACode ⨾ the Comma) (some_mark tt Open tt)
    (some_then AWord (ACode ⨾ the Comma) (some_word tt)
    (some_then ACode (the Comma) (some_code tt) (some_mark tt Comma tt)))
some_arguments words.Segment =
    some_then (the Open) (AWord ⨾ SomeMore AWord) (some_mark tt Open tt)
    (some_then AWord (SomeMore AWord) (some_word tt) (some_more AWord tt))
some_arguments words.Transpose = some_mark tt Open tt
some_arguments words.Partition =
    some_then (the Open) (AWord ⨾ ABound ⨾ SomeMore ABound) (some_mark tt Open tt)
    (some_then AWord (ABound ⨾ SomeMore ABound) (some_word tt)
    (some_then ABound (SomeMore ABound) (some_bound tt) (some_more ABound tt)))
some_arguments words.Divide =
    some_then (the Open) (ANumber ⨾ the Comma) (some_mark tt Open tt)
    (some_then ANumber (the Comma) (some_number tt) (some_mark tt Comma tt))
some_arguments words.Index =
    some_then (the Open) (AWord ⨾ the Comma) (some_mark tt Open tt)
    (some_then AWord (the Comma) (some_word tt) (some_mark tt Comma tt))
