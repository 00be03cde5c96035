-- What is in the grammar is read.
use Rattle.std.proofs.Common.{◌≡◌, ℕ, zero, suc, ◌<◌, ◌≤◌, eqb, leb, List, [], ◌∷◌, ◌++◌, length, Option, Some, None, Result, Ok, refl, sym, ap, ◌∙◌, append_assoc, append-nil, arith}
use Rattle.std.specs.Prelude.{pos}
use Rattle.std.proofs.lemmas.Bool.{ne_eqb, cond-true, cond-false, le-leb}
use Rattle.gx_tokens.specs.declared.why.Why.{Why}
use Rattle.gx_tokens.specs.Grammar.{◌⨾◌, the}
use Rattle.gx_tokens.specs.Lexemes.{Lexeme, Word, Number, Quoted, Open, Close, Comma, Equals, End}
use Rattle.gx_tokens.specs.Numbers.{number_value, natural_up_to, signed_in_range, is_number, signed_number}
use Rattle.gx_tokens.specs.Quotes.{doubled}
use Rattle.gx_tokens.specs.Reading.{◌>>=◌, map_ok, want, a_word}
use Rattle.gx_tokens.specs.Spelling.{IsNumber}
use Rattle.gx_tokens.proofs.NumberLaws.{is_number-true, in_range_again}
use Rattle.gx_tokens.proofs.QuoteLaws.{unquoted-doubled}
use Rattle.gx_tokens.proofs.ReadingLaws.{want_again, open_again, close_again, comma_again, equals_again, goes_on_again, ends_again}
use Rattle.gx_values.specs.declared.values.Code.{Code}
use Rattle.gx_values.specs.declared.values.Code.TheVariants as code
use Rattle.gx_values.specs.declared.values.Value.{Value}
use Rattle.gx_values.specs.declared.values.Value.TheVariants as value
use Rattle.gx_ports.specs.declared.kinds.LeafKind.TheVariants as leaf
use Rattle.gx_equation.specs.declared.heads.HeadWord.{HeadWord}
use Rattle.gx_equation.specs.declared.heads.HeadWord.TheVariants as words
use Rattle.gx_equation.specs.declared.heads.Head.{Head}
use Rattle.gx_equation.specs.declared.heads.Head.TheVariants as heads
use Rattle.gx_equation.specs.declared.heads.Linkset.{Linkset}
use Rattle.gx_equation.specs.declared.heads.Linkset.TheVariants as linksets
use Rattle.gx_equation.specs.Definitions.{linkset_of_word, a_side, a_start, file_side_at, link_side_at, side_at, definition_behind, definitions_at, equation_at, with_lines}
use Rattle.gx_equation.specs.Grammar.{SizeText, NameText, BoundText, MoreText, ItemsText, code_word, HeadText, TextOf, ListText, KidsText, TermText, linkset_word, SideText, DefinitionsText, EquationText, Means}
use Rattle.gx_equation.specs.Heads.{spell, in_depth, head_of_word, a_head, code_of_word, a_code, from_one, a_size, int_bound, a_bound, or_comma, items_at, hash_at, encode_at, segment_at, partition_at, divide_at, index_at, opened_at, arguments_at, head_at}
use Rattle.gx_equation.specs.Terms.{Reader, left_of, kids_at, kids_behind, term_behind, term_at}
use Rattle.gx_equation.specs.Trees.{TermTree, Trees, node, none, kid, kids_from, list_of, Arity, No_kids, One_kid, Two_kids, Some_kids, arity, linkset_arity, SideTree, file_side, link_side, DefinitionTree}
use Rattle.gx_equation.proofs.Shorter.{first_shorter, the_word, ItemShortens, bound_text_shorter, Shortens, term_shorter, definition_shorter}

-- ---- names, numbers, codes and bounds

name_again : (name bytes rest : List ℕ) → the (Word name) bytes rest
    → want a_word bytes ≡ Ok (name, rest)
name_again name bytes rest h = want_again a_word bytes rest (Word name) name h refl

from_one_again : (o : Option ℕ) (n : ℕ) → o ≡ Some n → 0 < n → from_one o ≡ Ok n
from_one_again o zero is some = absurd (omega arith)
from_one_again o (suc n) is some = ap from_one is

natural_again : (most n : ℕ) → n ≤ most → natural_up_to most (pos n) ≡ Some n
natural_again most n le = cond-true (leb n most) _ _ (le-leb n most le)

size_again : (most n : ℕ) (bytes rest : List ℕ) → SizeText most n bytes rest
    → want (a_size most) bytes ≡ Ok (n, rest)
size_again most n bytes rest t =
    let text = t.2.0 in
    let is : natural_up_to most (number_value text) ≡ Some n = ap (natural_up_to most) t.2.1
    ∙ natural_again most n t.1 in
    want_again (a_size most) bytes rest (Number text) n t.2.2
    (from_one_again (natural_up_to most (number_value text)) n is t.0)

-- an item's text is a token that means it
abbrev pub ItemAgain : {X : Type 0} → (Lexeme → Result X Why) → (X → List ℕ → List ℕ → Type 0)
    → Type 0
ItemAgain {X} item Text = (x : X) (bytes rest : List ℕ) → Text x bytes rest
    → (want item bytes ≡ Ok (x, rest)) × (want (or_comma item) bytes ≡ Ok (Some x, rest))

name_item : ItemAgain a_word NameText
name_item name bytes rest h = (
  name_again name bytes rest h,
  want_again (or_comma a_word) bytes rest (Word name)
      (Some name) h refl,
)

bound_item : ItemAgain a_bound BoundText
bound_item (value.Int z) bytes rest t =
    let text = t.1.0 in
    let first : the (Number text) bytes rest = t.1.2 in
    let number : IsNumber text = first.begins.is_token in
    let is : signed_number text ≡ Some z =
    cond-true (is_number text) _ _ (is_number-true text number)
    ∙ (ap signed_in_range t.1.1 ∙ in_range_again z t.0) in
    let means = ap int_bound is in (
      want_again a_bound bytes rest (Number text) (value.Int z) first means,
      want_again (or_comma a_bound) bytes rest (Number text) (Some (value.Int z)) first
          (ap (map_ok (λ v. Some v)) means),
    )
bound_item (value.Text w) bytes rest t =
    let means : a_bound (Quoted (doubled w)) ≡ Ok (value.Text w) =
    ap (λ (v : List ℕ). Ok (value.Text v)) (unquoted-doubled w) in (
      want_again a_bound bytes rest (Quoted (doubled w)) (value.Text w) t means,
      want_again (or_comma a_bound) bytes rest (Quoted (doubled w)) (Some (value.Text w)) t
          (ap (map_ok (λ v. Some v)) means),
    )
bound_item (value.Bytes w) bytes rest t = absurd t

more_again : {X : Type 0} (item : Lexeme → Result X Why) (Text : X → List ℕ → List ℕ → Type 0)
    → ItemAgain item Text → ItemShortens Text
    → (xs before : List X) (bytes rest : List ℕ) (fuel : ℕ) → length bytes < fuel
    → MoreText Text xs bytes rest → items_at item fuel before bytes ≡ Ok (before ++ xs, rest)
unfolding items_at
more_again item Text again short xs before bytes rest zero lt t = absurd (omega arith)
more_again item Text again short [] before bytes rest (suc fuel) lt t =
    rw (want_again (or_comma item) bytes rest Comma None t refl, append-nil before) refl
more_again {X = X} item Text again short (x ∷ xs) before bytes rest (suc fuel) lt t =
    let less : length t.0 < fuel = omega (arith, short x bytes t.0 t.1) in
    let one : items_at item (suc fuel) before bytes ≡ items_at item fuel (before ++ x ∷ []) t.0 =
    rw (again x bytes t.0 t.1).1 refl in
    one ∙ more_again item Text again short xs (before ++ x ∷ []) t.0 rest fuel less t.2
    ∙ ap (λ (all : List X). Ok (all, rest)) (append_assoc before (x ∷ []) xs)

code_again : (c : Code) (bytes rest : List ℕ) → the (Word (code_word c)) bytes rest
    → want a_code bytes ≡ Ok (c, rest)
unfolding code_of_word
code_again code.Pack bytes rest h =
    want_again a_code bytes rest (Word (code_word code.Pack)) code.Pack h refl
code_again code.Rle bytes rest h =
    want_again a_code bytes rest (Word (code_word code.Rle)) code.Rle h refl

-- ---- heads

in_again : (levels : ℕ) (w : HeadWord) → in_depth (suc levels) w ≡ Ok w
in_again levels w = cond-false (eqb (suc levels) 0) _ _ (ne_eqb (suc levels) 0 (λ e. omega arith))

pub word_again : (levels : ℕ) (w : HeadWord) → head_of_word (suc levels) (spell w) ≡ Ok w
unfolding head_of_word
word_again levels words.Heap = in_again levels words.Heap
word_again levels words.Hash = in_again levels words.Hash
word_again levels words.Isam = in_again levels words.Isam
word_again levels words.Bplus = in_again levels words.Bplus
word_again levels words.Actual = in_again levels words.Actual
word_again levels words.Encode = in_again levels words.Encode
word_again levels words.Segment = in_again levels words.Segment
word_again levels words.Transpose = in_again levels words.Transpose
word_again levels words.Partition = in_again levels words.Partition
word_again levels words.Divide = in_again levels words.Divide
word_again levels words.Index = in_again levels words.Index

head_by : (levels : ℕ) (w : HeadWord) (bytes mid : List ℕ) (y : Head × List ℕ)
    → the (Word (spell w)) bytes mid → arguments_at w mid ≡ Ok y → head_at (suc levels) bytes ≡ Ok y
unfolding head_at
head_by levels w bytes mid y h e =
    ap (λ r. r >>= λ word. arguments_at word.0 word.1)
    (want_again (a_head (suc levels)) bytes mid (Word (spell w)) w h (word_again levels w)) ∙ e

hash_again : (n : ℕ) (bytes rest : List ℕ) → (the Open ⨾ SizeText 64 n ⨾ the Close) bytes rest
    → hash_at bytes ≡ Ok (heads.Leaf (leaf.Hash n), rest)
unfolding hash_at
hash_again n bytes rest t =
    rw (open_again bytes t.0 t.1, size_again 64 n t.0 t.2.0 t.2.1, close_again t.2.0 rest t.2.2)
    refl

encode_again : (name : List ℕ) (c : Code) (bytes rest : List ℕ)
    → (the Open ⨾ NameText name ⨾ the (Word (code_word c)) ⨾ the Comma) bytes rest
    → encode_at bytes ≡ Ok (heads.Encode name c, rest)
unfolding encode_at
encode_again name c bytes rest t =
    rw (
      open_again bytes t.0 t.1,
      name_again name t.0 t.2.0 t.2.1,
      code_again c t.2.0 t.2.2.0 t.2.2.1,
      comma_again t.2.2.0 rest t.2.2.2,
    ) refl

segment_again : (names : List (List ℕ)) (bytes rest : List ℕ)
    → (the Open ⨾ ItemsText NameText names) bytes rest
    → segment_at bytes ≡ Ok (heads.Segment names, rest)
unfolding segment_at
segment_again [] bytes rest t = absurd t.2
segment_again (n ∷ ns) bytes rest t =
    let u = t.2 in
    rw (
      open_again bytes t.0 t.1,
      name_again n t.0 u.0 u.1,
      more_again a_word NameText name_item the_word ns (n ∷ []) u.0 rest (suc (length u.0))
          (omega arith) u.2,
    ) refl

partition_again : (name : List ℕ) (bounds : List Value) (bytes rest : List ℕ)
    → (the Open ⨾ NameText name ⨾ ItemsText BoundText bounds) bytes rest
    → partition_at bytes ≡ Ok (heads.Partition name bounds, rest)
unfolding partition_at
partition_again name [] bytes rest t = absurd t.2.2
partition_again name (b ∷ bs) bytes rest t =
    let u = t.2.2 in
    rw (
      open_again bytes t.0 t.1,
      name_again name t.0 t.2.0 t.2.1,
      (bound_item b t.2.0 u.0 u.1).0,
      more_again a_bound BoundText bound_item bound_text_shorter bs (b ∷ []) u.0 rest
          (suc (length u.0)) (omega arith) u.2,
    ) refl

divide_again : (n : ℕ) (bytes rest : List ℕ) → (the Open ⨾ SizeText 16000 n ⨾ the Comma) bytes rest
    → divide_at bytes ≡ Ok (heads.Divide n, rest)
unfolding divide_at
divide_again n bytes rest t =
    rw (open_again bytes t.0 t.1, size_again 16000 n t.0 t.2.0 t.2.1, comma_again t.2.0 rest t.2.2)
    refl

index_again : (name bytes rest : List ℕ) → (the Open ⨾ NameText name ⨾ the Comma) bytes rest
    → index_at bytes ≡ Ok (heads.Index name, rest)
unfolding index_at
index_again name bytes rest t =
    rw (open_again bytes t.0 t.1, name_again name t.0 t.2.0 t.2.1, comma_again t.2.0 rest t.2.2)
    refl

opened_again : (top : Head) (bytes rest : List ℕ) → the Open bytes rest
    → opened_at top bytes ≡ Ok (top, rest)
opened_again top bytes rest h = rw (open_again bytes rest h) refl

pub head_again : (levels : ℕ) (h : Head) (bytes rest : List ℕ) → HeadText h bytes rest
    → head_at (suc levels) bytes ≡ Ok (h, rest)
unfolding arguments_at
head_again levels (heads.Leaf leaf.Heap) bytes rest t =
    head_by levels words.Heap bytes rest _ t refl
head_again levels (heads.Leaf (leaf.Hash n)) bytes rest t =
    head_by levels words.Hash bytes t.0 _ t.1 (hash_again n t.0 rest t.2)
head_again levels (heads.Leaf leaf.Isam) bytes rest t =
    head_by levels words.Isam bytes rest _ t refl
head_again levels (heads.Leaf leaf.Bplus) bytes rest t =
    head_by levels words.Bplus bytes rest _ t refl
head_again levels heads.Actual bytes rest t =
    head_by levels words.Actual bytes t.0 _ t.1 (opened_again heads.Actual t.0 rest t.2)
head_again levels (heads.Encode name c) bytes rest t =
    head_by levels words.Encode bytes t.0 _ t.1 (encode_again name c t.0 rest t.2)
head_again levels (heads.Segment names) bytes rest t =
    head_by levels words.Segment bytes t.0 _ t.1 (segment_again names t.0 rest t.2)
head_again levels heads.Transpose bytes rest t =
    head_by levels words.Transpose bytes t.0 _ t.1 (opened_again heads.Transpose t.0 rest t.2)
head_again levels (heads.Partition name bounds) bytes rest t =
    head_by levels words.Partition bytes t.0 _ t.1 (partition_again name bounds t.0 rest t.2)
head_again levels (heads.Divide n) bytes rest t =
    head_by levels words.Divide bytes t.0 _ t.1 (divide_again n t.0 rest t.2)
head_again levels (heads.Index name) bytes rest t =
    head_by levels words.Index bytes t.0 _ t.1 (index_again name t.0 rest t.2)

-- ---- terms

triple_is : {A B C : Type 0} {a d : A} {b e : B} {c f : C} → a ≡ d → b ≡ e → c ≡ f
    → ◌≡◌ {A = (A × B) × C} ((a, b), c) ((d, e), f)
triple_is p q r = cc

abbrev pub IsRead : Reader → TextOf → Type 0
IsRead term Text = (t : TermTree) (before after bytes rest : List ℕ)
    → Text t before after bytes rest
    → term before bytes ≡ Ok ((t, after), rest)

kids_again : (term : Reader) (Text : TextOf) → IsRead term Text → Shortens Text
    → (ts before : List TermTree) (places after bytes rest : List ℕ) (fuel : ℕ)
    → length bytes < fuel
    → ListText Text ts places after bytes rest
    → kids_at term fuel before places bytes ≡ Ok ((before ++ ts, after), rest)
unfolding kids_at
kids_again term Text read short ts before places after bytes rest zero lt t = absurd (omega arith)
kids_again term Text read short [] before places after bytes rest (suc fuel) lt t = absurd t
kids_again term Text read short (u ∷ []) before places after bytes rest (suc fuel) lt t =
    rw (read u places after bytes t.0 t.1, ends_again t.0 rest t.2) refl
kids_again term Text read short (u ∷ v ∷ vs) before places after bytes rest (suc fuel) lt (mid, t) =
    let less : length t.2.0 < fuel =
    omega (
      arith,
      short u places mid bytes t.0 t.1,
      first_shorter t.0 Comma t.2.0 (λ e. absurd cc) t.2.1,
    ) in
    let one : kids_at term (suc fuel) before places bytes ≡ kids_at term fuel
    (before ++ u ∷ []) mid t.2.0 =
    rw (read u places mid bytes t.0 t.1, goes_on_again t.0 t.2.0 t.2.1) refl in
    one ∙ kids_again term Text read short (v ∷ vs) (before ++ u ∷ []) mid after t.2.0 rest fuel less
    t.2.2 ∙ ap (λ (all : List TermTree). Ok ((all, after), rest))
    (append_assoc before (u ∷ []) (v ∷ vs))

one_again : (term : Reader) (Text : TextOf) → IsRead term Text
    → (ts : List TermTree) (places after bytes rest : List ℕ) → length ts ≡ 1
    → ListText Text ts places after bytes rest
    → kids_behind term One_kid places bytes ≡ Ok ((ts, after), rest)
one_again term Text read [] places after bytes rest n t = absurd t
one_again term Text read (u ∷ []) places after bytes rest n t =
    rw (read u places after bytes t.0 t.1, close_again t.0 rest t.2) refl
one_again term Text read (u ∷ v ∷ vs) places after bytes rest n t = absurd (omega (arith, n))

two_again : (term : Reader) (Text : TextOf) → IsRead term Text
    → (ts : List TermTree) (places after bytes rest : List ℕ) → length ts ≡ 2
    → ListText Text ts places after bytes rest
    → kids_behind term Two_kids places bytes ≡ Ok ((ts, after), rest)
two_again term Text read [] places after bytes rest n t = absurd t
two_again term Text read (u ∷ []) places after bytes rest n t = absurd (omega (arith, n))
two_again term Text read (u ∷ v ∷ []) places after bytes rest n (mid, t) =
    let w = t.2.2 in
    rw (
      read u places mid bytes t.0 t.1,
      comma_again t.0 t.2.0 t.2.1,
      read v mid after t.2.0 w.0 w.1,
      close_again w.0 rest w.2,
    ) refl
two_again term Text read (u ∷ v ∷ w ∷ ws) places after bytes rest n t = absurd (omega (arith, n))

pub behind_again : (term : Reader) (Text : TextOf) → IsRead term Text → Shortens Text
    → (a : Arity) (ts : List TermTree) (places after bytes rest : List ℕ)
    → KidsText Text a ts places after bytes rest
    → kids_behind term a places bytes ≡ Ok ((ts, after), rest)
behind_again term Text read short No_kids ts places after bytes rest t =
    ap (λ (z : (List TermTree × List ℕ) × List ℕ). Ok z) (triple_is (sym t.0) t.1 t.2)
behind_again term Text read short One_kid ts places after bytes rest t =
    one_again term Text read ts places after bytes rest t.0 t.1
behind_again term Text read short Two_kids ts places after bytes rest t =
    two_again term Text read ts places after bytes rest t.0 t.1
behind_again term Text read short Some_kids ts places after bytes rest t =
    kids_again term Text read short ts [] places after bytes rest (suc (length bytes))
    (omega arith) t

pub from_list : (ts : Trees) → kids_from (list_of ts) ≡ ts
from_list none = refl
from_list (kid t ts) = ap (λ (us : Trees). kid t us) (from_list ts)

pub term_again : (levels : ℕ) → IsRead (term_at levels) (TermText levels)
unfolding term_at term_behind
term_again zero t before after bytes rest h = absurd h
term_again (suc levels) (node top kids) before after bytes rest h =
    rw (
      head_again levels top bytes h.0 h.1,
      behind_again (term_at levels) (TermText levels)
          (term_again levels) (term_shorter levels) (arity top) (list_of kids)
          (before ++ left_of bytes ∷ []) after h.0 rest h.2,
      from_list kids,
    ) refl

-- ---- sides

-- a head of a term is none of a link's side
no_linkset : (h : Head) (bytes rest : List ℕ) → HeadText h bytes rest
    → (mid : List ℕ) × (want a_side bytes ≡ Ok (None, mid))
unfolding linkset_of_word
no_linkset (heads.Leaf leaf.Heap) bytes rest t = (rest, want_again a_side bytes rest _ None t refl)
no_linkset (heads.Leaf (leaf.Hash n)) bytes rest t =
    (t.0, want_again a_side bytes t.0 _ None t.1 refl)
no_linkset (heads.Leaf leaf.Isam) bytes rest t = (rest, want_again a_side bytes rest _ None t refl)
no_linkset (heads.Leaf leaf.Bplus) bytes rest t = (rest, want_again a_side bytes rest _ None t refl)
no_linkset heads.Actual bytes rest t = (t.0, want_again a_side bytes t.0 _ None t.1 refl)
no_linkset (heads.Encode name c) bytes rest t = (t.0, want_again a_side bytes t.0 _ None t.1 refl)
no_linkset (heads.Segment names) bytes rest t = (t.0, want_again a_side bytes t.0 _ None t.1 refl)
no_linkset heads.Transpose bytes rest t = (t.0, want_again a_side bytes t.0 _ None t.1 refl)
no_linkset (heads.Partition name bounds) bytes rest t =
    (t.0, want_again a_side bytes t.0 _ None t.1 refl)
no_linkset (heads.Divide n) bytes rest t = (t.0, want_again a_side bytes t.0 _ None t.1 refl)
no_linkset (heads.Index name) bytes rest t = (t.0, want_again a_side bytes t.0 _ None t.1 refl)

no_linkset_term : (levels : ℕ) (t : TermTree) (before after bytes rest : List ℕ)
    → TermText levels t before after bytes rest
    → (mid : List ℕ) × (want a_side bytes ≡ Ok (None, mid))
no_linkset_term zero t before after bytes rest h = absurd h
no_linkset_term (suc levels) (node top kids) before after bytes rest h =
    no_linkset top bytes h.0 h.1

pub linkset_again : (l : Linkset) → linkset_of_word (linkset_word l) ≡ Some l
unfolding linkset_of_word
linkset_again linksets.Array = refl
linkset_again linksets.Ring = refl
linkset_again linksets.Inverted = refl

file_again : (t : TermTree) (before after bytes rest : List ℕ)
    → TermText 16 t before after bytes rest
    → file_side_at before bytes ≡ Ok ((file_side t, after), rest)
unfolding file_side_at
file_again t before after bytes rest h = rw (term_again 16 t before after bytes rest h) refl

link_again : (l : Linkset) (ts : List TermTree) (places after bytes rest : List ℕ)
    → (the Open ⨾ KidsText (TermText 15) (linkset_arity l) ts places after) bytes rest
    → link_side_at l places bytes ≡ Ok ((link_side l ts, after), rest)
unfolding link_side_at
link_again l ts places after bytes rest h =
    rw (
      open_again bytes h.0 h.1,
      behind_again (term_at 15) (TermText 15) (term_again 15)
          (term_shorter 15) (linkset_arity l) ts places after h.0 rest h.2,
    ) refl

pub side_again : (s : SideTree) (before after bytes rest : List ℕ)
    → SideText s before after bytes rest → side_at before bytes ≡ Ok ((s, after), rest)
unfolding side_at
side_again (file_side t) before after bytes rest h = let n =
    no_linkset_term 16 t before after bytes rest h in
    rw n.1 (file_again t before after bytes rest h)
side_again (link_side l ts) before after bytes rest h =
    let w = want_again a_side bytes h.0 (Word (linkset_word l)) (Some l) h.1
    (ap (λ (o : Option Linkset). Ok o) (linkset_again l)) in
    rw w (link_again l ts (before ++ left_of bytes ∷ []) after h.0 rest h.2)

-- ---- definitions

definition_again : (d : DefinitionTree) (places after bytes rest : List ℕ)
    → (the Equals ⨾ SideText d.side places after) bytes rest
    → definition_behind d.name places bytes ≡ Ok ((d, after), rest)
unfolding definition_behind
definition_again d places after bytes rest h =
    rw (equals_again bytes h.0 h.1, side_again d.side places after h.0 rest h.2) refl

definitions_again : (ds before : List DefinitionTree) (places after bytes rest : List ℕ) (fuel : ℕ)
    → length bytes < fuel → DefinitionsText ds places after bytes rest
    → definitions_at fuel before places bytes ≡ Ok (before ++ ds, after)
unfolding definitions_at
definitions_again ds before places after bytes rest zero lt h = absurd (omega arith)
definitions_again [] before places after bytes rest (suc fuel) lt h =
    rw (want_again a_start bytes rest End None h.1 refl, append-nil before, h.0) refl
definitions_again (d ∷ ds) before places after bytes rest (suc fuel) lt (mid, h) =
    let one = h.1 in
    let less : length h.0 < fuel = omega (arith, definition_shorter d places mid bytes h.0 one) in
    let step : definitions_at (suc fuel) before places bytes ≡ definitions_at fuel
    (before ++ d ∷ []) mid h.0 =
    rw (
      want_again a_start bytes one.0 (Word d.name) (Some d.name) one.1 refl,
      definition_again d (places ++ left_of bytes ∷ []) mid one.0 h.0 one.2,
    ) refl in
    step ∙ definitions_again ds (before ++ d ∷ []) mid after h.0 rest fuel less h.2
    ∙ ap (λ (all : List DefinitionTree). Ok (all, after)) (append_assoc before (d ∷ []) ds)

all_again : (ds : List DefinitionTree) (places bytes rest : List ℕ) → 0 < length ds
    → DefinitionsText ds [] places bytes rest → equation_at bytes ≡ Ok (ds, places)
unfolding equation_at
all_again [] places bytes rest some h = absurd (omega arith)
all_again (d ∷ ds) places bytes rest some (mid, h) =
    let one = h.1 in
    rw (
      name_again d.name bytes one.0 one.1,
      definition_again d (left_of bytes ∷ []) mid one.0 h.0 one.2,
      definitions_again ds (d ∷ []) mid places h.0 rest (suc (length h.0)) (omega arith) h.2,
    ) refl

pub equation_again : (ds : List DefinitionTree) (places bytes : List ℕ)
    → EquationText ds places bytes → equation_at bytes ≡ Ok (ds, places)
equation_again ds places bytes t = all_again ds places bytes [] t.some t.text

pub meaning_again : (bytes : List ℕ) (meaning : List DefinitionTree × List ℕ) → Means bytes meaning
    → map_ok (with_lines bytes) (equation_at bytes) ≡ Ok meaning
meaning_again bytes meaning m =
    ap (map_ok (with_lines bytes)) (equation_again meaning.0 m.places bytes m.text)
    ∙ ap (λ (lines : List ℕ). Ok (meaning.0, lines)) (sym m.lines)

-- a text has one meaning
pub one_meaning : (bytes : List ℕ) (a b : List DefinitionTree × List ℕ) → Means bytes a
    → Means bytes b → a ≡ b
one_meaning bytes a b p q = let same = sym (meaning_again bytes a p) ∙ meaning_again bytes b q in cc
