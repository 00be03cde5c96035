-- What is printed of heads is in the grammar.
use Rattle.std.proofs.Common.{◌≡◌, ℕ, ◌<◌, ◌≤◌, ◌^◌, true, false, List, [], ◌∷◌, ◌++◌, length, refl, sym, ap, subst, append_assoc, arith}
use Rattle.std.specs.Prelude.{codes, IsTrue}
use Rattle.std.specs.Fmt.{decimal, signed_decimal}
use Rattle.std.specs.List.{AllByRecursion, list_all}
use Rattle.std.proofs.lemmas.Bool.{and_parts}
use Rattle.gx_tokens.specs.Grammar.{◌⨾◌, the}
use Rattle.gx_tokens.specs.Lexemes.{Lexeme, Word, Number, Open, Close, Comma, is_word_byte, continues_run}
use Rattle.gx_tokens.specs.Spelling.{IsWord, StartsWord, NoQuote}
use Rattle.gx_tokens.proofs.NumberLaws.{number_value-decimal, IsNumber-decimal, number_value-signed_decimal, IsNumber-signed_decimal}
use Rattle.gx_tokens.proofs.PrintLaws.{token_printed, behind_space, word_printed, quoted_printed}
use Rattle.gx_values.specs.declared.values.Code.{Code}
use Rattle.gx_values.specs.declared.values.Code.TheVariants as code
use Rattle.gx_values.specs.declared.values.Value.{Value}
use Rattle.gx_values.specs.declared.values.Value.TheVariants as value
use Rattle.gx_ports.specs.declared.kinds.LeafKind.TheVariants as leaf
use Rattle.gx_equation.specs.declared.heads.Head.{Head}
use Rattle.gx_equation.specs.declared.heads.Head.TheVariants as heads
use Rattle.gx_equation.specs.declared.heads.HeadWord.{HeadWord}
use Rattle.gx_equation.specs.declared.heads.HeadWord.TheVariants as words
use Rattle.gx_equation.specs.declared.heads.Linkset.{Linkset}
use Rattle.gx_equation.specs.declared.heads.Linkset.TheVariants as linksets
use Rattle.gx_equation.specs.Grammar.{SizeText, NameText, BoundText, MoreText, ItemsText, code_word, HeadText, linkset_word}
use Rattle.gx_equation.specs.Heads.{spell}
use Rattle.gx_equation.specs.Printing.{bound_text, spaced, names_text, head_text, IsBound, IsHead}
use Rattle.gx_equation.specs.Trees.{No_kids, arity}

-- ---- words

each_from : (xs : List ℕ) → list_all is_word_byte xs ≡ true
    → AllByRecursion (λ b. IsTrue (is_word_byte b)) xs
each_from [] h = tt
each_from (b ∷ bs) h = let p = and_parts (is_word_byte b) (list_all is_word_byte bs) h in
    (p.0, each_from bs p.1)

word_by : (w : List ℕ) → StartsWord w → list_all is_word_byte w ≡ true → length w ≤ 16 → IsWord w
word_by w starts each short = record { starts = starts; each = each_from w each; short = short }

pub spelled : (w : HeadWord) → IsWord (spell w)
spelled words.Heap = word_by _ refl refl (omega arith)
spelled words.Hash = word_by _ refl refl (omega arith)
spelled words.Isam = word_by _ refl refl (omega arith)
spelled words.Bplus = word_by _ refl refl (omega arith)
spelled words.Actual = word_by _ refl refl (omega arith)
spelled words.Encode = word_by _ refl refl (omega arith)
spelled words.Segment = word_by _ refl refl (omega arith)
spelled words.Transpose = word_by _ refl refl (omega arith)
spelled words.Partition = word_by _ refl refl (omega arith)
spelled words.Divide = word_by _ refl refl (omega arith)
spelled words.Index = word_by _ refl refl (omega arith)

pub spelled_code : (c : Code) → IsWord (code_word c)
spelled_code code.Pack = word_by _ refl refl (omega arith)
spelled_code code.Rle = word_by _ refl refl (omega arith)

pub spelled_linkset : (l : Linkset) → IsWord (linkset_word l)
spelled_linkset linksets.Array = word_by _ refl refl (omega arith)
spelled_linkset linksets.Ring = word_by _ refl refl (omega arith)
spelled_linkset linksets.Inverted = word_by _ refl refl (omega arith)

-- ---- numbers, names and bounds

-- nothing that a token before it would take in
pub record IsApart (rest : List ℕ) : Type 0 where
  pub run : continues_run rest ≡ false
  pub quote : NoQuote rest

size_printed : (most n : ℕ) (rest : List ℕ) → 0 < n → n ≤ most → most < 2 ^ 64
    → continues_run rest ≡ false → SizeText most n (decimal n ++ rest) rest
size_printed most n rest some le small apart =
    let lt : n < 2 ^ 64 = omega arith in (
      some,
      le,
      (
        decimal n,
        number_value-decimal n lt,
        token_printed (Number (decimal n)) rest (IsNumber-decimal n lt) apart,
      ),
    )

-- an item before what is apart from it, and behind a space
pub record ItemPrints {X : Type 0} (Text : X → List ℕ → List ℕ → Type 0) (text : X
    → List ℕ) (Has : X → Type 0) : Type 0 where
  pub printed : (x : X) (rest : List ℕ) → Has x → IsApart rest → Text x (text x ++ rest) rest
  pub spaced : (x : X) (bytes rest : List ℕ) → Text x bytes rest → Text x (32 ∷ bytes) rest

name_prints : ItemPrints NameText (λ name. name) IsWord
name_prints = record {
  printed = λ name rest word apart. word_printed name rest word apart.run;
  spaced = λ name bytes rest h. behind_space (Word name) bytes rest h;
}

bound_printed : (v : Value) (rest : List ℕ) → IsBound v → IsApart rest
    → BoundText v (bound_text v ++ rest) rest
bound_printed (value.Int z) rest fits apart = (
  fits,
  (
    signed_decimal z,
    number_value-signed_decimal z fits,
    token_printed (Number (signed_decimal z)) rest (IsNumber-signed_decimal z fits) apart.run,
  ),
)
bound_printed (value.Text text) rest each apart = quoted_printed text rest each apart.quote
bound_printed (value.Bytes b) rest none apart = absurd none

bound_spaced : (v : Value) (bytes rest : List ℕ) → BoundText v bytes rest
    → BoundText v (32 ∷ bytes) rest
bound_spaced (value.Int z) bytes rest t =
    (t.0, (t.1.0, t.1.1, behind_space (Number t.1.0) bytes rest t.1.2))
bound_spaced (value.Text text) bytes rest t = behind_space _ bytes rest t
bound_spaced (value.Bytes b) bytes rest t = absurd t

bound_prints : ItemPrints BoundText bound_text IsBound
bound_prints = record { printed = bound_printed; spaced = bound_spaced }

spaced_apart : {X : Type 0} (text : X → List ℕ) (xs : List X) (rest : List ℕ)
    → IsApart (spaced text xs ++ rest)
spaced_apart text [] rest = record { run = refl; quote = λ e. omega arith }
spaced_apart text (x ∷ xs) rest = record { run = refl; quote = λ e. omega arith }

-- up to the space behind the comma
more_printed : {X : Type 0} (Text : X → List ℕ → List ℕ → Type 0) (text : X → List ℕ) (Has : X
    → Type 0) → ItemPrints Text text Has
    → (xs : List X) (rest : List ℕ) → AllByRecursion Has xs
    → MoreText Text xs (spaced text xs ++ rest) (32 ∷ rest)
more_printed Text text Has prints [] rest has = token_printed Comma (32 ∷ rest) tt tt
more_printed Text text Has prints (x ∷ xs) rest has =
    let more = spaced text xs ++ rest in
    let whole : spaced text (x ∷ xs) ++ rest ≡ 32 ∷ (text x ++ more) =
    ap (λ (ys : List ℕ). 32 ∷ ys) (append_assoc (text x) (spaced text xs) rest) in
    let one = prints.spaced x (text x ++ more) more
    (prints.printed x more has.0 (spaced_apart text xs rest)) in (
      more,
      subst (λ (y : List ℕ). Text x y more) (sym whole) one,
      more_printed Text text Has prints xs rest has.1,
    )

names_printed : (names : List (List ℕ)) (rest : List ℕ) → 0 < length names
    → AllByRecursion IsWord names → ItemsText NameText names (names_text names ++ rest) (32 ∷ rest)
names_printed [] rest some each = absurd (omega arith)
names_printed (n ∷ ns) rest some each =
    let more = spaced (λ name. name) ns ++ rest in
    let whole : names_text (n ∷ ns) ++ rest ≡ n ++ more =
    append_assoc n (spaced (λ name. name) ns) rest in
    let one = word_printed n more each.0 (spaced_apart (λ name. name) ns rest).run in (
      more,
      subst (λ (y : List ℕ). the (Word n) y more) (sym whole) one,
      more_printed NameText (λ name. name) IsWord name_prints ns rest each.1,
    )

bounds_printed : (bounds : List Value) (rest : List ℕ) → 0 < length bounds
    → AllByRecursion IsBound bounds
    → ItemsText BoundText bounds (spaced bound_text bounds ++ rest) (32 ∷ rest)
bounds_printed [] rest some each = absurd (omega arith)
bounds_printed (b ∷ bs) rest some each =
    more_printed BoundText bound_text IsBound bound_prints (b ∷ bs) rest each

-- ---- heads

-- what stands behind a head's text: the space behind a comma is of what follows
abbrev pub behind_head_text : Head → List ℕ → List ℕ
behind_head_text (heads.Leaf kind) rest = rest
behind_head_text heads.Actual rest = rest
behind_head_text (heads.Encode name code) rest = 32 ∷ rest
behind_head_text (heads.Segment names) rest = 32 ∷ rest
behind_head_text heads.Transpose rest = rest
behind_head_text (heads.Partition name bounds) rest = 32 ∷ rest
behind_head_text (heads.Divide n) rest = 32 ∷ rest
behind_head_text (heads.Index name) rest = 32 ∷ rest

opened : (w : HeadWord) (rest : List ℕ)
    → (the (Word (spell w)) ⨾ the Open) (spell w ++ 40 ∷ rest) rest
opened w rest = (
  40 ∷ rest,
  word_printed (spell w) (40 ∷ rest) (spelled w) refl,
  token_printed Open rest tt tt,
)

hash_printed : (n : ℕ) (rest : List ℕ) → 0 < n → n ≤ 64
    → HeadText (heads.Leaf (leaf.Hash n)) (head_text (heads.Leaf (leaf.Hash n)) ++ rest) rest
hash_printed n rest some le =
    let close = 41 ∷ rest in
    let whole : head_text (heads.Leaf (leaf.Hash n)) ++ rest ≡ codes "hash("
    ++ (decimal n ++ close) = simp append_assoc in
    let o = opened words.Hash (decimal n ++ close) in
    subst (λ (b : List ℕ). HeadText (heads.Leaf (leaf.Hash n)) b rest) (sym whole) (
      o.0,
      o.1,
      (
        decimal n ++ close,
        o.2,
        (
          close,
          size_printed 64 n close some le (omega arith) refl,
          token_printed Close rest tt tt,
        ),
      ),
    )

encode_printed : (name : List ℕ) (c : Code) (rest : List ℕ) → IsWord name
    → HeadText (heads.Encode name c) (head_text (heads.Encode name c) ++ rest) (32 ∷ rest)
encode_printed name c rest word =
    let comma = 44 ∷ 32 ∷ rest in
    let text = code_word c ++ comma in
    let whole : head_text (heads.Encode name c) ++ rest ≡ codes "encode("
    ++ (name ++ 32 ∷ text) = simp append_assoc in
    let o = opened words.Encode (name ++ 32 ∷ text) in
    subst (λ (b : List ℕ). HeadText (heads.Encode name c) b (32 ∷ rest)) (sym whole) (
      o.0,
      o.1,
      (
        name ++ 32 ∷ text,
        o.2,
        (
          32 ∷ text,
          word_printed name (32 ∷ text) word refl,
          (
            comma,
            behind_space (Word (code_word c)) text comma
                (word_printed (code_word c) comma (spelled_code c) refl),
            token_printed Comma (32 ∷ rest) tt tt,
          ),
        ),
      ),
    )

segment_printed : (names : List (List ℕ)) (rest : List ℕ) → 0 < length names
    → AllByRecursion IsWord names
    → HeadText (heads.Segment names) (head_text (heads.Segment names) ++ rest) (32 ∷ rest)
segment_printed names rest some each =
    let more = names_text names ++ rest in
    let whole : head_text (heads.Segment names) ++ rest ≡ codes "segment("
    ++ more = append_assoc (codes "segment(") (names_text names) rest in
    let o = opened words.Segment more in
    subst (λ (b : List ℕ). HeadText (heads.Segment names) b (32 ∷ rest)) (sym whole)
    (o.0, o.1, (more, o.2, names_printed names rest some each))

partition_printed : (name : List ℕ) (bounds : List Value) (rest : List ℕ) → IsWord name
    → 0 < length bounds → AllByRecursion IsBound bounds
    → HeadText (heads.Partition name bounds) (head_text (heads.Partition name bounds) ++ rest)
    (32 ∷ rest)
partition_printed name bounds rest word some each =
    let more = spaced bound_text bounds ++ rest in
    let whole : head_text (heads.Partition name bounds) ++ rest ≡ codes "partition("
    ++ (name ++ more) = simp append_assoc in
    let o = opened words.Partition (name ++ more) in
    subst (λ (b : List ℕ). HeadText (heads.Partition name bounds) b (32 ∷ rest)) (sym whole) (
      o.0,
      o.1,
      (
        name ++ more,
        o.2,
        (
          more,
          word_printed name more word (spaced_apart bound_text bounds rest).run,
          bounds_printed bounds rest some each,
        ),
      ),
    )

divide_printed : (n : ℕ) (rest : List ℕ) → 0 < n → n ≤ 16000
    → HeadText (heads.Divide n) (head_text (heads.Divide n) ++ rest) (32 ∷ rest)
divide_printed n rest some le =
    let comma = 44 ∷ 32 ∷ rest in
    let whole : head_text (heads.Divide n) ++ rest ≡ codes "divide("
    ++ (decimal n ++ comma) = simp append_assoc in
    let o = opened words.Divide (decimal n ++ comma) in
    subst (λ (b : List ℕ). HeadText (heads.Divide n) b (32 ∷ rest)) (sym whole) (
      o.0,
      o.1,
      (
        decimal n ++ comma,
        o.2,
        (
          comma,
          size_printed 16000 n comma some le (omega arith) refl,
          token_printed Comma (32 ∷ rest) tt tt,
        ),
      ),
    )

index_printed : (name rest : List ℕ) → IsWord name
    → HeadText (heads.Index name) (head_text (heads.Index name) ++ rest) (32 ∷ rest)
index_printed name rest word =
    let comma = 44 ∷ 32 ∷ rest in
    let whole : head_text (heads.Index name) ++ rest ≡ codes "index("
    ++ (name ++ comma) = simp append_assoc in
    let o = opened words.Index (name ++ comma) in
    subst (λ (b : List ℕ). HeadText (heads.Index name) b (32 ∷ rest)) (sym whole) (
      o.0,
      o.1,
      (
        name ++ comma,
        o.2,
        (
          comma,
          word_printed name comma word refl,
          token_printed Comma (32 ∷ rest) tt tt,
        ),
      ),
    )

pub head_printed : (h : Head) (rest : List ℕ) → IsHead h
    → (arity h ≡ No_kids → continues_run rest ≡ false)
    → HeadText h (head_text h ++ rest) (behind_head_text h rest)
head_printed (heads.Leaf leaf.Heap) rest has apart =
    word_printed (spell words.Heap) rest (spelled words.Heap) (apart refl)
head_printed (heads.Leaf (leaf.Hash n)) rest has apart = hash_printed n rest has.0 has.1
head_printed (heads.Leaf leaf.Isam) rest has apart =
    word_printed (spell words.Isam) rest (spelled words.Isam) (apart refl)
head_printed (heads.Leaf leaf.Bplus) rest has apart =
    word_printed (spell words.Bplus) rest (spelled words.Bplus) (apart refl)
head_printed heads.Actual rest has apart = opened words.Actual rest
head_printed (heads.Encode name c) rest has apart = encode_printed name c rest has
head_printed (heads.Segment names) rest has apart = segment_printed names rest has.0 has.1
head_printed heads.Transpose rest has apart = opened words.Transpose rest
head_printed (heads.Partition name bounds) rest has apart =
    partition_printed name bounds rest has.0 has.1 has.2
head_printed (heads.Divide n) rest has apart = divide_printed n rest has.0 has.1
head_printed (heads.Index name) rest has apart = index_printed name rest has

-- behind other blanks
pub head_moved : (h : Head) (bytes other rest : List ℕ)
    → ((t : Lexeme) (r : List ℕ) → the t bytes r → the t other r) → HeadText h bytes rest
    → HeadText h other rest
head_moved (heads.Leaf leaf.Heap) bytes other rest move t = move _ _ t
head_moved (heads.Leaf (leaf.Hash n)) bytes other rest move t = (t.0, move _ _ t.1, t.2)
head_moved (heads.Leaf leaf.Isam) bytes other rest move t = move _ _ t
head_moved (heads.Leaf leaf.Bplus) bytes other rest move t = move _ _ t
head_moved heads.Actual bytes other rest move t = (t.0, move _ _ t.1, t.2)
head_moved (heads.Encode name c) bytes other rest move t = (t.0, move _ _ t.1, t.2)
head_moved (heads.Segment names) bytes other rest move t = (t.0, move _ _ t.1, t.2)
head_moved heads.Transpose bytes other rest move t = (t.0, move _ _ t.1, t.2)
head_moved (heads.Partition name bounds) bytes other rest move t = (t.0, move _ _ t.1, t.2)
head_moved (heads.Divide n) bytes other rest move t = (t.0, move _ _ t.1, t.2)
head_moved (heads.Index name) bytes other rest move t = (t.0, move _ _ t.1, t.2)

pub head_spaced : (h : Head) (bytes rest : List ℕ) → HeadText h bytes rest
    → HeadText h (32 ∷ bytes) rest
head_spaced h bytes rest t =
    head_moved h bytes (32 ∷ bytes) rest (λ u r f. behind_space u bytes r f) t
