-- What is read of heads is in the grammar.
use Rattle.std.proofs.Common.{◌≡◌, ℕ, zero, suc, ◌<◌, ◌≤◌, ◌^◌, false, cond, eqb, leb, ltb, List, [], ◌∷◌, ◌++◌, length, Option, Some, None, Result, Ok, Err, refl, sym, ap, subst, ◌∙◌, append_assoc, append-nil, arith}
use Rattle.std.specs.Prelude.{nat_eq, codes, ℤ, pos, negsuc}
use Rattle.std.specs.Cmp.Lexicographic.{pointwise}
use Rattle.std.specs.Int.RustNames.{FitsSigned}
use Rattle.std.specs.Int.{w64}
use Rattle.std.proofs.lemmas.Bool.{cond_both, leb-true, ltb-true}
use Rattle.std.proofs.lemmas.Option.{same_Some}
use Rattle.gx_tokens.specs.declared.fault.Fault.{Fault}
use Rattle.gx_tokens.specs.declared.why.Why.{Why}
use Rattle.gx_tokens.specs.declared.why.Why.TheVariants as why
use Rattle.gx_tokens.specs.Grammar.{◌⨾◌, the}
use Rattle.gx_tokens.specs.Lexemes.{Lexeme, Word, Number, Quoted, Open, Close, Comma, Equals, End}
use Rattle.gx_tokens.specs.Numbers.{number_value, natural_up_to, signed_in_range, is_number, signed_number}
use Rattle.gx_tokens.specs.Quotes.{unquoted}
use Rattle.gx_tokens.specs.Reading.{map_ok, want, an_open, a_close, a_comma, a_word}
use Rattle.gx_tokens.specs.Spelling.{IsQuoted}
use Rattle.gx_tokens.proofs.QuoteLaws.{doubled-unquoted}
use Rattle.gx_tokens.proofs.ReadingLaws.{means_is, bind_ok, test_ok, want_ok, word_is, word_ok, number_ok, open_found, close_found, comma_found, same_bytes}
use Rattle.gx_tokens.proofs.TokenFound.{done_is}
use Rattle.gx_values.specs.declared.values.Code.{Code}
use Rattle.gx_values.specs.declared.values.Code.TheVariants as code
use Rattle.gx_values.specs.declared.values.Value.{Value}
use Rattle.gx_values.specs.declared.values.Value.TheVariants as value
use Rattle.gx_ports.specs.declared.kinds.LeafKind.TheVariants as leaf
use Rattle.gx_equation.specs.declared.heads.HeadWord.{HeadWord}
use Rattle.gx_equation.specs.declared.heads.HeadWord.TheVariants as words
use Rattle.gx_equation.specs.declared.heads.Head.{Head}
use Rattle.gx_equation.specs.declared.heads.Head.TheVariants as heads
use Rattle.gx_equation.specs.Heads.{spell, in_depth, head_of_word, a_head, code_of_word, a_code, from_one, size_up_to, a_size, int_bound, a_bound, or_comma, items_at, hash_at, encode_at, segment_at, partition_at, divide_at, index_at, opened_at, arguments_at, head_at}
use Rattle.gx_equation.specs.Grammar.{SizeText, NameText, BoundText, MoreText, ItemsText, code_word, HeadText}

-- ---- items up to a comma

-- a token that means an item is a text of it
abbrev pub TokenFinds : {X : Type 0} → (Lexeme → Result X Why) → (X → List ℕ → List ℕ → Type 0)
    → Type 0
TokenFinds {X} item Text = (t : Lexeme) (x : X) (bytes rest : List ℕ) → item t ≡ Ok x
    → the t bytes rest → Text x bytes rest

pub item_found : {X : Type 0} (item : Lexeme → Result X Why) (Text : X → List ℕ → List ℕ → Type 0)
    → TokenFinds item Text → (bytes : List ℕ) (y : X × List ℕ) → want item bytes ≡ Ok y
    → Text y.0 bytes y.1
item_found item Text each bytes y e = let w = want_ok item bytes y e in
    each w.token y.0 bytes y.1 w.is w.first

abbrev pub OrComma : {X : Type 0} → (Lexeme → Result X Why) → Option X → Lexeme → Type 0
OrComma item None t = t ≡ Comma
OrComma item (Some x) t = item t ≡ Ok x

some_item : {X : Type 0} (item : Lexeme → Result X Why) (t : Lexeme) (r : Result X Why)
    (o : Option X) → item t ≡ r → map_ok (λ x. Some x) r ≡ Ok o → OrComma item o t
some_item {X = X} item t (Err reason) o is e = absurd cc
some_item {X = X} item t (Ok x) o is e =
    subst (λ (z : Option X). OrComma item z t) (means_is (Some x) o e) is

pub or_comma_is : {X : Type 0} (item : Lexeme → Result X Why) (t : Lexeme) (o : Option X)
    → or_comma item t ≡ Ok o → OrComma item o t
or_comma_is {X = X} item (Word w) o e = some_item item (Word w) (item (Word w)) o refl e
or_comma_is {X = X} item (Number w) o e = some_item item (Number w) (item (Number w)) o refl e
or_comma_is {X = X} item (Quoted w) o e = some_item item (Quoted w) (item (Quoted w)) o refl e
or_comma_is {X = X} item Open o e = some_item item Open (item Open) o refl e
or_comma_is {X = X} item Close o e = some_item item Close (item Close) o refl e
or_comma_is {X = X} item Comma o e =
    subst (λ (z : Option X). OrComma item z Comma) (means_is None o e) refl
or_comma_is {X = X} item Equals o e = some_item item Equals (item Equals) o refl e
or_comma_is {X = X} item End o e = some_item item End (item End) o refl e

pub record MoreFound {X : Type 0} (Text : X → List ℕ → List ℕ → Type 0) (before : List X)
    (bytes : List ℕ) (y : List X × List ℕ) : Type 0 where
  pub more : List X
  pub all : y.0 ≡ before ++ more
  pub text : MoreText Text more bytes y.1

items_step : {X : Type 0} (item : Lexeme → Result X Why) (Text : X → List ℕ → List ℕ → Type 0)
    → TokenFinds item Text
    → (before : List X) (bytes : List ℕ) (t : Lexeme) (o : Option X) (rest : List ℕ) (others : X
    → Result (List X × List ℕ) Fault) (y : List X × List ℕ)
    → ((x : X) → others x ≡ Ok y → MoreFound Text (before ++ x ∷ []) rest y) → OrComma item o t
    → the t bytes rest
    → ◌≡◌ {A = Result (List X × List ℕ) Fault}
    (elim o [ None ↦ Ok (before, rest) | Some x ↦ others x ]) (Ok y)
    → MoreFound Text before bytes y
items_step item Text each before bytes t None rest others y again is first h =
    let p = done_is (before, rest) y h in
    record {
      more = [];
      all = sym (ap (λ z. z.0) p) ∙ sym (append-nil before);
      text = subst (λ (r : List ℕ). the Comma bytes r) (ap (λ z. z.1) p)
          (subst (λ (u : Lexeme). the u bytes rest) is first);
    }
items_step item Text each before bytes t (Some x) rest others y again is first h =
    let r = again x h in
    record {
      more = x ∷ r.more;
      all = r.all ∙ append_assoc before (x ∷ []) r.more;
      text = (rest, each t x bytes rest is first, r.text);
    }

pub more_found : {X : Type 0} (item : Lexeme → Result X Why) (Text : X → List ℕ → List ℕ → Type 0)
    → TokenFinds item Text
    → (fuel : ℕ) (before : List X) (bytes : List ℕ) (y : List X × List ℕ)
    → items_at item fuel before bytes ≡ Ok y → MoreFound Text before bytes y
unfolding items_at
more_found item Text each zero before bytes y e = let w = want_ok (λ _. Err why.Count) bytes y e in
    absurd cc
more_found item Text each (suc fuel) before bytes y e =
    let a = bind_ok (want (or_comma item) bytes)
    (λ x. elim x.0 [ None ↦ Ok (before, x.1) | Some z ↦ items_at item fuel (before ++ z ∷ []) x.1 ])
    y e in
    let w = want_ok (or_comma item) bytes a.0 a.1 in
    items_step item Text each before bytes w.token a.0.0 a.0.1
    (λ z. items_at item fuel (before ++ z ∷ []) a.0.1) y
    (λ z h. more_found item Text each fuel (before ++ z ∷ []) a.0.1 y h)
    (or_comma_is item w.token a.0.0 w.is) w.first a.2

-- the first item, and then the others
pub items_found : {X : Type 0} (item : Lexeme → Result X Why) (Text : X → List ℕ → List ℕ → Type 0)
    → TokenFinds item Text
    → (bytes : List ℕ) (first : X × List ℕ) (y : List X × List ℕ) → want item bytes ≡ Ok first
    → items_at item (suc (length first.1)) (first.0 ∷ []) first.1 ≡ Ok y
    → ItemsText Text y.0 bytes y.1
items_found {X = X} item Text each bytes first y f e =
    let m = more_found item Text each (suc (length first.1)) (first.0 ∷ []) first.1 y e in
    subst (λ (xs : List X). ItemsText Text xs bytes y.1) (sym m.all)
    (first.1, item_found item Text each bytes first f, m.text)

-- ---- names, numbers, codes and bounds

pub name_token : TokenFinds a_word NameText
name_token t x bytes rest is h =
    let i = word_is (λ word. Ok word) t x is in
    subst (λ (u : Lexeme). the u bytes rest)
    (i.1 ∙ ap (λ (w : List ℕ). Word w) (means_is i.0 x i.2)) h

pub name_found : (bytes : List ℕ) (y : List ℕ × List ℕ) → want a_word bytes ≡ Ok y
    → the (Word y.0) bytes y.1
name_found bytes y e = item_found a_word NameText name_token bytes y e

from_one_is : (o : Option ℕ) (n : ℕ) → from_one o ≡ Ok n → (0 < n) × (o ≡ Some n)
from_one_is None n e = absurd cc
from_one_is (Some zero) n e = absurd cc
from_one_is (Some (suc m)) n e = let p = means_is (suc m) n e in
    (omega (arith, p), ap (λ (k : ℕ). Some k) p)

pub natural_is : (most : ℕ) (z : ℤ) (n : ℕ) → natural_up_to most z ≡ Some n
    → (n ≤ most) × (z ≡ pos n)
natural_is most (pos m) n e =
    cond_both (leb m most) (Some m) None (λ (r : Option ℕ). r ≡ Some n
    → (n ≤ most) × (pos m ≡ pos n))
    (λ le h. let p = same_Some m n h in let q = leb-true m most le in
    (omega (arith, p, q), ap pos p))
    (λ _ h. absurd cc)
    e
natural_is most (negsuc m) n e = absurd cc

pub size_is : (most : ℕ) (text : List ℕ) (n : ℕ) → size_up_to most text ≡ Ok n
    → (0 < n) × (n ≤ most) × (number_value text ≡ pos n)
size_is most text n e =
    let p = from_one_is (natural_up_to most (number_value text)) n e in
    let q = natural_is most (number_value text) n p.1 in
    (p.0, q.0, q.1)

pub size_found : (most : ℕ) (bytes : List ℕ) (y : ℕ × List ℕ) → want (a_size most) bytes ≡ Ok y
    → SizeText most y.0 bytes y.1
size_found most bytes y e =
    let a = number_ok (size_up_to most) bytes y e in
    let p = size_is most a.text y.0 a.is in
    (p.0, p.1, (a.text, p.2, a.first))

in_range_is : (v z : ℤ) → signed_in_range v ≡ Some z → FitsSigned w64 z × (v ≡ z)
in_range_is (pos n) z e =
    cond_both (ltb n (2 ^ 63)) (Some (pos n)) None (λ (r : Option ℤ). r ≡ Some z
    → FitsSigned w64 z × (pos n ≡ z))
    (λ lt h. let q = ltb-true n (2 ^ 63) lt in let p = same_Some (pos n) z h in
    (subst (λ (y : ℤ). FitsSigned w64 y) p (omega (arith, q)), p))
    (λ _ h. absurd cc)
    e
in_range_is (negsuc n) z e =
    cond_both (ltb n (2 ^ 63)) (Some (negsuc n)) None (λ (r : Option ℤ). r ≡ Some z
    → FitsSigned w64 z × (negsuc n ≡ z))
    (λ lt h. let q = ltb-true n (2 ^ 63) lt in let p = same_Some (negsuc n) z h in
    (subst (λ (y : ℤ). FitsSigned w64 y) p (omega (arith, q)), p))
    (λ _ h. absurd cc)
    e

signed_is : (text : List ℕ) (z : ℤ) → signed_number text ≡ Some z
    → FitsSigned w64 z × (number_value text ≡ z)
signed_is text z e =
    cond_both (is_number text) (signed_in_range (number_value text)) None
    (λ (r : Option ℤ). r ≡ Some z → FitsSigned w64 z × (number_value text ≡ z))
    (λ _ h. in_range_is (number_value text) z h)
    (λ _ h. absurd cc)
    e

int_found : (text : List ℕ) (o : Option ℤ) (x : Value) (bytes rest : List ℕ)
    → signed_number text ≡ o → int_bound o ≡ Ok x → the (Number text) bytes rest
    → BoundText x bytes rest
int_found text None x bytes rest is e h = absurd cc
int_found text (Some z) x bytes rest is e h =
    let p = signed_is text z is in
    subst (λ (v : Value). BoundText v bytes rest) (means_is (value.Int z) x e) (p.0, (text, p.1, h))

text_found : (text : List ℕ) (x : Value) (bytes rest : List ℕ)
    → ◌≡◌ {A = Result Value Why} (Ok (value.Text (unquoted false text))) (Ok x)
    → the (Quoted text) bytes rest → BoundText x bytes rest
text_found text x bytes rest e h =
    let quoted : IsQuoted false text = h.begins.is_token in
    subst (λ (v : Value). BoundText v bytes rest) (means_is (value.Text (unquoted false text)) x e)
    (subst (λ (w : List ℕ). the (Quoted w) bytes rest) (sym (doubled-unquoted text quoted)) h)

pub bound_token : TokenFinds a_bound BoundText
bound_token (Word w) x bytes rest e h = absurd cc
bound_token (Number w) x bytes rest e h = int_found w (signed_number w) x bytes rest refl e h
bound_token (Quoted w) x bytes rest e h = text_found w x bytes rest e h
bound_token Open x bytes rest e h = absurd cc
bound_token Close x bytes rest e h = absurd cc
bound_token Comma x bytes rest e h = absurd cc
bound_token Equals x bytes rest e h = absurd cc
bound_token End x bytes rest e h = absurd cc

pub code_is : (word : List ℕ) (c : Code) → code_of_word word ≡ Ok c → word ≡ code_word c
unfolding code_of_word
code_is word c e =
    cond_both (pointwise nat_eq word (codes "pack")) _ _
    (λ (r : Result Code Why). r ≡ Ok c → word ≡ code_word c)
    (λ is h. (same_bytes word (codes "pack")).0 is ∙ ap code_word (means_is code.Pack c h))
    (λ _. cond_both (pointwise nat_eq word (codes "rle")) _ _
    (λ (r : Result Code Why). r ≡ Ok c → word ≡ code_word c)
    (λ is h. (same_bytes word (codes "rle")).0 is ∙ ap code_word (means_is code.Rle c h))
    (λ _ h. absurd cc))
    e

pub code_found : (bytes : List ℕ) (y : Code × List ℕ) → want a_code bytes ≡ Ok y
    → the (Word (code_word y.0)) bytes y.1
code_found bytes y e =
    let a = word_ok code_of_word bytes y e in
    subst (λ (w : List ℕ). the (Word w) bytes y.1) (code_is a.text y.0 a.is) a.first

-- ---- heads

word_step : (levels : ℕ) (word : List ℕ) (x w : HeadWord) (other : Result HeadWord Why)
    → (other ≡ Ok x → word ≡ spell x)
    → cond (pointwise nat_eq word (spell w)) (in_depth levels w) other ≡ Ok x → word ≡ spell x
word_step levels word x w other again e =
    cond_both (pointwise nat_eq word (spell w)) (in_depth levels w) other
    (λ (r : Result HeadWord Why). r ≡ Ok x → word ≡ spell x)
    (λ is h. (same_bytes word (spell w)).0 is
    ∙ ap spell (means_is w x (test_ok (eqb levels 0) why.Depth (Ok w) x h).1))
    (λ _ h. again h)
    e

pub head_word_is : (levels : ℕ) (word : List ℕ) (x : HeadWord) → head_of_word levels word ≡ Ok x
    → word ≡ spell x
unfolding head_of_word
head_word_is levels word x e =
    word_step levels word x words.Heap _
    (word_step levels word x words.Hash _
    (word_step levels word x words.Isam _ (word_step levels word x words.Bplus _
    (word_step levels word x words.Actual _
    (word_step levels word x words.Encode _
    (word_step levels word x words.Segment _ (word_step levels word x words.Transpose _
    (word_step levels word x words.Partition _
    (word_step levels word x words.Divide _
    (word_step levels word x words.Index (Err why.Unexpected) (λ h. absurd cc))))))))))) e

-- what stands behind the word makes a head of it
abbrev pub MakesHead : List ℕ → (List ℕ → Result (Head × List ℕ) Fault) → Type 0
MakesHead word reader = (bytes mid : List ℕ) (y : Head × List ℕ) → the (Word word) bytes mid
    → reader mid ≡ Ok y → HeadText y.0 bytes y.1

hash_found : MakesHead (codes "hash") hash_at
unfolding hash_at
hash_found bytes mid y word e =
    let a = bind_ok (want an_open mid) _ y e in
    let b = bind_ok (want (a_size 64) a.0.1) _ y a.2 in
    let c = bind_ok (want a_close b.0.1) _ y b.2 in
    subst (λ (z : Head × List ℕ). HeadText z.0 bytes z.1)
    (done_is (heads.Leaf (leaf.Hash b.0.0), c.0.1) y c.2) (
      mid,
      word,
      (
        a.0.1,
        open_found mid a.0 a.1,
        (b.0.1, size_found 64 a.0.1 b.0 b.1, close_found b.0.1 c.0 c.1),
      ),
    )

encode_found : MakesHead (codes "encode") encode_at
unfolding encode_at
encode_found bytes mid y word e =
    let a = bind_ok (want an_open mid) _ y e in
    let b = bind_ok (want a_word a.0.1) _ y a.2 in
    let c = bind_ok (want a_code b.0.1) _ y b.2 in
    let d = bind_ok (want a_comma c.0.1) _ y c.2 in
    subst (λ (z : Head × List ℕ). HeadText z.0 bytes z.1)
    (done_is (heads.Encode b.0.0 c.0.0, d.0.1) y d.2) (
      mid,
      word,
      (
        a.0.1,
        open_found mid a.0 a.1,
        (
          b.0.1,
          name_found a.0.1 b.0 b.1,
          (c.0.1, code_found b.0.1 c.0 c.1, comma_found c.0.1 d.0 d.1),
        ),
      ),
    )

segment_found : MakesHead (codes "segment") segment_at
unfolding segment_at
segment_found bytes mid y word e =
    let a = bind_ok (want an_open mid) _ y e in
    let b = bind_ok (want a_word a.0.1) _ y a.2 in
    let c = bind_ok (items_at a_word (suc (length b.0.1)) (b.0.0 ∷ []) b.0.1) _ y b.2 in
    subst (λ (z : Head × List ℕ). HeadText z.0 bytes z.1)
    (done_is (heads.Segment c.0.0, c.0.1) y c.2) (
      mid,
      word,
      (
        a.0.1,
        open_found mid a.0 a.1,
        items_found a_word NameText name_token a.0.1 b.0 c.0 b.1 c.1,
      ),
    )

partition_found : MakesHead (codes "partition") partition_at
unfolding partition_at
partition_found bytes mid y word e =
    let a = bind_ok (want an_open mid) _ y e in
    let b = bind_ok (want a_word a.0.1) _ y a.2 in
    let c = bind_ok (want a_bound b.0.1) _ y b.2 in
    let d = bind_ok (items_at a_bound (suc (length c.0.1)) (c.0.0 ∷ []) c.0.1) _ y c.2 in
    subst (λ (z : Head × List ℕ). HeadText z.0 bytes z.1)
    (done_is (heads.Partition b.0.0 d.0.0, d.0.1) y d.2) (
      mid,
      word,
      (
        a.0.1,
        open_found mid a.0 a.1,
        (
          b.0.1,
          name_found a.0.1 b.0 b.1,
          items_found a_bound BoundText bound_token b.0.1 c.0
              d.0 c.1 d.1,
        ),
      ),
    )

divide_found : MakesHead (codes "divide") divide_at
unfolding divide_at
divide_found bytes mid y word e =
    let a = bind_ok (want an_open mid) _ y e in
    let b = bind_ok (want (a_size 16000) a.0.1) _ y a.2 in
    let c = bind_ok (want a_comma b.0.1) _ y b.2 in
    subst (λ (z : Head × List ℕ). HeadText z.0 bytes z.1)
    (done_is (heads.Divide b.0.0, c.0.1) y c.2) (
      mid,
      word,
      (
        a.0.1,
        open_found mid a.0 a.1,
        (b.0.1, size_found 16000 a.0.1 b.0 b.1, comma_found b.0.1 c.0 c.1),
      ),
    )

index_found : MakesHead (codes "index") index_at
unfolding index_at
index_found bytes mid y word e =
    let a = bind_ok (want an_open mid) _ y e in
    let b = bind_ok (want a_word a.0.1) _ y a.2 in
    let c = bind_ok (want a_comma b.0.1) _ y b.2 in
    subst (λ (z : Head × List ℕ). HeadText z.0 bytes z.1)
    (done_is (heads.Index b.0.0, c.0.1) y c.2) (
      mid,
      word,
      (
        a.0.1,
        open_found mid a.0 a.1,
        (b.0.1, name_found a.0.1 b.0 b.1, comma_found b.0.1 c.0 c.1),
      ),
    )

alone_found : (top : Head) (bytes mid : List ℕ) (y : Head × List ℕ) → HeadText top bytes mid
    → ◌≡◌ {A = Result (Head × List ℕ) Fault} (Ok (top, mid)) (Ok y) → HeadText y.0 bytes y.1
alone_found top bytes mid y h e =
    subst (λ (z : Head × List ℕ). HeadText z.0 bytes z.1) (done_is (top, mid) y e) h

opened_found : (top : Head) (word : List ℕ)
    → ((bytes rest : List ℕ) → (the (Word word) ⨾ the Open) bytes rest → HeadText top bytes rest)
    → MakesHead word (opened_at top)
opened_found top w is bytes mid y word e =
    let a = bind_ok (want an_open mid) _ y e in
    subst (λ (z : Head × List ℕ). HeadText z.0 bytes z.1) (done_is (top, a.0.1) y a.2)
    (is bytes a.0.1 (mid, word, open_found mid a.0 a.1))

arguments_found : (w : HeadWord) → MakesHead (spell w) (arguments_at w)
unfolding arguments_at
arguments_found words.Heap bytes mid y word e =
    alone_found (heads.Leaf leaf.Heap) bytes mid y word e
arguments_found words.Hash bytes mid y word e = hash_found bytes mid y word e
arguments_found words.Isam bytes mid y word e =
    alone_found (heads.Leaf leaf.Isam) bytes mid y word e
arguments_found words.Bplus bytes mid y word e =
    alone_found (heads.Leaf leaf.Bplus) bytes mid y word e
arguments_found words.Actual bytes mid y word e = opened_found heads.Actual (codes "actual")
    (λ b r h. h) bytes mid y word e
arguments_found words.Encode bytes mid y word e = encode_found bytes mid y word e
arguments_found words.Segment bytes mid y word e = segment_found bytes mid y word e
arguments_found words.Transpose bytes mid y word e = opened_found heads.Transpose
    (codes "transpose") (λ b r h. h) bytes mid y word e
arguments_found words.Partition bytes mid y word e = partition_found bytes mid y word e
arguments_found words.Divide bytes mid y word e = divide_found bytes mid y word e
arguments_found words.Index bytes mid y word e = index_found bytes mid y word e

pub head_found : (levels : ℕ) (bytes : List ℕ) (y : Head × List ℕ) → head_at levels bytes ≡ Ok y
    → HeadText y.0 bytes y.1
unfolding head_at
head_found levels bytes y e =
    let a = bind_ok (want (a_head levels) bytes) (λ word. arguments_at word.0 word.1) y e in
    let w = word_ok (head_of_word levels) bytes a.0 a.1 in
    arguments_found a.0.0 bytes a.0.1 y
    (subst (λ (t : List ℕ). the (Word t) bytes a.0.1) (head_word_is levels w.text a.0.0 w.is)
    w.first) a.2
