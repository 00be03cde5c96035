-- The readers of terms and sides are local.
use Rattle.std.proofs.Common.{◌≡◌, ℕ, zero, suc, Bool, true, false, cond, List, length, Option, Some, None, Result, Ok, Err, refl, ap, subst, ◌∙◌, ◌⊎◌, inl, inr, arith}
use Rattle.std.proofs.lemmas.Bool.{cond_both}
use Rattle.gx_tokens.specs.declared.why.Why.{Why}
use Rattle.gx_tokens.specs.declared.why.Why.TheVariants as why
use Rattle.gx_tokens.specs.Grammar.{◌⨾◌, the, AWord}
use Rattle.gx_tokens.specs.Lexemes.{Lexeme, Word, Open, Close, Comma, Equals, End}
use Rattle.gx_tokens.specs.Locality.{IsInhabited, HasReason, IsLocal}
use Rattle.gx_tokens.specs.Reading.{◌>>=◌, map_ok, want, an_open, a_close, a_comma, an_equals, a_word, comma_or_close}
use Rattle.gx_tokens.proofs.LocalLaws.{TakesToken, Nothing, some_token, some_both, some_nothing, local_want, local_done, local_bind, local_then, some_then}
use Rattle.gx_tokens.proofs.LocalTokens.{some_word, some_mark, takes_these_words, takes_equals, takes_comma_or_close, local_open, local_comma, local_close}
use Rattle.gx_tokens.proofs.ReadingLaws.{list_mark, means_is}
use Rattle.gx_equation.specs.declared.heads.HeadWord.{HeadWord}
use Rattle.gx_equation.specs.declared.heads.HeadWord.TheVariants as words
use Rattle.gx_equation.specs.declared.heads.Linkset.{Linkset}
use Rattle.gx_equation.specs.Definitions.{linkset_of_word}
use Rattle.gx_equation.specs.Grammar.{linkset_word}
use Rattle.gx_equation.specs.Heads.{spell, in_depth, head_of_word, a_head, arguments_at}
use Rattle.gx_equation.specs.Shape.{ArgumentsShape, word_arity, SomeList, KidsShape, BehindShape, TermShape, LinkShape, SideShape, DefinitionShape}
use Rattle.gx_equation.specs.Trees.{Arity, No_kids, One_kid, Two_kids, Some_kids, linkset_arity}
use Rattle.gx_equation.proofs.Found.{head_word_is}
use Rattle.gx_equation.proofs.Fuel.{kids_settle, local_fuel}
use Rattle.gx_equation.proofs.HeadsPrinted.{spelled}
use Rattle.gx_equation.proofs.LocalHeads.{local_name, local_arguments, some_arguments}
use Rattle.gx_equation.proofs.Passing.{Pass, pass_kids, pass_behind, pass_from, no_level, pass_term, SideWord, link_word, head_word, side_word, a_side_word, pass_link, pass_side_from, pass_side, pass_named, pass_first, head_cases, IsRefused, no_head}
use Rattle.gx_equation.proofs.Reasons.{IsGood, good_term, says_kids}
use Rattle.gx_equation.proofs.TermsFound.{linkset_is}

abbrev pub Shape : Type 1
Shape = List ℕ → List ℕ → Type 0

-- a piece of which nothing is kept
abbrev pub IsSome : Shape → Type 0
IsSome shape = IsInhabited {A = Unit {0}} (λ _. shape)

abbrev pub Passes : Pass → Shape → Type 0
Passes pass shape = IsLocal pass (λ _. shape)

-- ---- lists of terms

some_list : (Term : Shape) → IsSome Term → IsSome (SomeList Term)
some_list Term one = some_both {A = Unit {0}} (λ _. Term) (λ _ _. the Close) (λ _. SomeList Term)
    (λ a b bytes mid rest f g. (0, (mid, f, g))) one (λ _. some_mark tt Close tt)

-- what stands behind a term
abbrev MoreKids : Shape → Shape
MoreKids Term bytes rest = (the Comma ⨾ SomeList Term) bytes rest ⊎ the Close bytes rest

abbrev BehindMark : Shape → Bool → Unit {0} → Shape
BehindMark Term true u = SomeList Term
BehindMark Term false u = Nothing u

mark_joins : (Term : Shape) (more : Bool) (u : Unit {0}) (bytes mid rest : List ℕ)
    → the (list_mark more) bytes mid → BehindMark Term more u mid rest → MoreKids Term bytes rest
mark_joins Term true u bytes mid rest mark others = inl (mid, mark, others)
mark_joins Term false u bytes mid rest mark same =
    inr (subst (λ (z : List ℕ). the Close bytes z) same mark)

some_behind_mark : (Term : Shape) → IsSome Term → (more : Bool) → IsInhabited (BehindMark Term more)
some_behind_mark Term one true = some_list Term one
some_behind_mark Term one false = some_nothing tt

kids_join : (Term : Shape) (a b : Unit {0}) (bytes mid rest : List ℕ) → Term bytes mid
    → MoreKids Term mid rest → SomeList Term bytes rest
kids_join Term a b bytes mid rest f (inl more) = let others = more.2 in
    (suc others.0, (mid, f, (more.0, more.1, others.1)))
kids_join Term a b bytes mid rest f (inr close) = (0, (mid, f, close))

local_behind_mark : (Term : Shape) (term : Pass) (fuel : ℕ) (more : Bool)
    → Passes (pass_kids term fuel) (SomeList Term)
    → IsLocal (λ b. cond more (pass_kids term fuel b) (Ok (tt, b))) (BehindMark Term more)
local_behind_mark Term term fuel true h = h
local_behind_mark Term term fuel false h = local_done tt

no_kids : (Term : Shape) → IsSome Term
    → TakesToken {A = Unit {0}} (λ _. Err why.Count) (λ _. SomeList Term)
no_kids Term one = record {
  proper = λ x e. absurd cc;
  shaped = λ t x bytes rest e h. absurd cc;
  reason = λ t. tt;
  some = some_list Term one;
}

local_kids : (Term : Shape) (term : Pass) → IsSome Term → Passes term Term → (fuel : ℕ)
    → Passes (pass_kids term fuel) (SomeList Term)
local_kids Term term one each zero =
    local_want (λ _. Err why.Count) (λ _. SomeList Term) (no_kids Term one)
local_kids Term term one each (suc fuel) =
    local_bind term (λ t b. want comma_or_close b >>= λ more. cond more.0
    (pass_kids term fuel more.1) (Ok (tt, more.1))) (λ _. Term) (λ _ _. MoreKids Term)
    (λ _. SomeList Term) (kids_join Term)
    (λ _. some_token (λ _. MoreKids Term) tt Close tt (λ bytes rest h. inr h)) each
    (λ _. local_bind (want comma_or_close)
    (λ more b. cond more (pass_kids term fuel b) (Ok (tt, b))) (λ more. the (list_mark more))
    (BehindMark Term) (λ _. MoreKids Term) (mark_joins Term) (some_behind_mark Term one)
    (local_want comma_or_close (λ more. the (list_mark more)) takes_comma_or_close)
    (λ more. local_behind_mark Term term fuel more (local_kids Term term one each fuel)))

some_kids : (Term : Shape) → IsSome Term → (a : Arity) → IsSome (KidsShape Term a)
some_kids Term one No_kids = some_nothing tt
some_kids Term one One_kid = some_then Term (the Close) one (some_mark tt Close tt)
some_kids Term one Two_kids =
    some_then Term (the Comma ⨾ Term ⨾ the Close) one
    (some_then (the Comma) (Term ⨾ the Close) (some_mark tt Comma tt)
    (some_then Term (the Close) one (some_mark tt Close tt)))
some_kids Term one Some_kids = some_list Term one

local_behind : (Term : Shape) (term : Pass) → IsSome Term → Passes term Term → IsGood term
    → (a : Arity) → Passes (pass_behind term a) (KidsShape Term a)
local_behind Term term one each good No_kids = local_done tt
local_behind Term term one each good One_kid =
    local_then term (λ t b. want a_close b) Term (the Close) (λ _. some_mark tt Close tt) each
    (λ _. local_close)
local_behind Term term one each good Two_kids =
    local_then term (λ t b. want a_comma b >>= λ comma. term comma.1 >>= λ u. want a_close u.1) Term
    (the Comma ⨾ Term ⨾ the Close)
    (λ _. some_then (the Comma) (Term ⨾ the Close) (some_mark tt Comma tt)
    (some_then Term (the Close) one (some_mark tt Close tt))) each
    (λ _. local_then (want a_comma) (λ comma b. term b >>= λ u. want a_close u.1) (the Comma)
    (Term ⨾ the Close) (λ _. some_then Term (the Close) one (some_mark tt Close tt)) local_comma
    (λ _. local_then term (λ u b. want a_close b) Term (the Close) (λ _. some_mark tt Close tt) each
    (λ _. local_close)))
local_behind Term term one each good Some_kids =
    local_fuel (pass_kids term) (λ _. SomeList Term) (kids_settle term good)
    (λ b. says_kids term good (suc (length b)) b (omega arith)) (local_kids Term term one each)

-- ---- terms

some_from : (Term : Shape) → IsSome Term → (w : HeadWord) → IsSome (BehindShape Term w)
some_from Term one w = some_then (ArgumentsShape w) (KidsShape Term (word_arity w))
    (some_arguments w) (some_kids Term one (word_arity w))

local_from : (Term : Shape) (term : Pass) → IsSome Term → Passes term Term → IsGood term
    → (w : HeadWord) → Passes (pass_from term w) (BehindShape Term w)
local_from Term term one each good w =
    local_then (arguments_at w) (λ h b. pass_behind term (word_arity w) b) (ArgumentsShape w)
    (KidsShape Term (word_arity w)) (λ _. some_kids Term one (word_arity w)) (local_arguments w)
    (λ _. local_behind Term term one each good (word_arity w))

pub some_term : (levels : ℕ) → IsSome (TermShape (suc levels))
some_term levels = some_token (λ _. TermShape (suc levels)) tt (Word (spell words.Heap))
    (spelled words.Heap) (λ bytes rest h. (words.Heap, (rest, h, (rest, refl, refl))))

depth_reason : (word : List ℕ) (levels : ℕ) (w : HeadWord)
    → HasReason (Word word) (in_depth levels w)
depth_reason word zero w = tt
depth_reason word (suc levels) w =
    cond_both _ (Err why.Depth) (Ok w) (HasReason (Word word)) (λ _. tt) (λ _. tt)

head_reason : (levels : ℕ) (word : List ℕ) → HasReason (Word word) (head_of_word levels word)
head_reason levels word =
    head_cases levels word (HasReason (Word word)) (depth_reason word levels) (λ e. absurd cc)

takes_head : (levels : ℕ) → TakesToken (a_head levels) (λ w. the (Word (spell w)))
takes_head levels = takes_these_words (head_of_word levels) spell words.Heap (spelled words.Heap)
    (head_word_is levels) (head_reason levels)

mapped_reason : {X Y : Type 0} (f : X → Y) (t : Lexeme) (m : Result X Why) → HasReason t m
    → HasReason t (map_ok f m)
mapped_reason f t (Ok x) h = tt
mapped_reason f t (Err reason) h = h

refused_not : {X Y : Type 0} (f : X → Y) (m : Result X Why) (y : Y) → IsRefused m
    → map_ok f m ≡ Ok y → ⊥
refused_not f (Ok x) y h e = h
refused_not f (Err reason) y h e = cc

takes_no_level : TakesToken no_level (λ _. TermShape 1)
takes_no_level = record {
  proper = λ x e. refused_not (λ _. tt) (a_head 0 End) x tt e;
  shaped = λ t x bytes rest e h. absurd (refused_not (λ _. tt) (a_head 0 t) x (no_head t) e);
  reason = λ t. mapped_reason (λ _. tt) t (a_head 0 t) ((takes_head 0).reason t);
  some = some_term 0;
}

pub local_term : (levels : ℕ) → Passes (pass_term levels) (TermShape (suc levels))
local_term zero = local_want no_level (λ _. TermShape 1) takes_no_level
local_term (suc levels) =
    let Term = TermShape (suc levels) in
    local_bind (want (a_head (suc levels))) (λ w b. pass_from (pass_term levels) w b)
    (λ w. the (Word (spell w))) (λ w _. BehindShape Term w) (λ _. TermShape (suc (suc levels)))
    (λ w u bytes mid rest h g. (w, (mid, h, g)))
    (λ w. some_from Term (some_term levels) w)
    (local_want (a_head (suc levels)) (λ w. the (Word (spell w))) (takes_head (suc levels)))
    (λ w. local_from Term (pass_term levels) (some_term levels) (local_term levels)
    (good_term levels) w)

-- ---- sides

abbrev side_spell : SideWord → List ℕ
side_spell (link_word l) = linkset_word l
side_spell (head_word w) = spell w

abbrev BehindSide : SideWord → Shape
BehindSide (link_word l) = LinkShape 16 l
BehindSide (head_word w) = BehindShape (TermShape 16) w

side_joins : (x : SideWord) (u : Unit {0}) (bytes mid rest : List ℕ)
    → the (Word (side_spell x)) bytes mid → BehindSide x mid rest → SideShape 16 bytes rest
side_joins (link_word l) u bytes mid rest h g = inr (l, (mid, h, g))
side_joins (head_word w) u bytes mid rest h g = inl (w, (mid, h, g))

some_behind_side : (x : SideWord) → IsSome (BehindSide x)
some_behind_side (link_word l) =
    some_then (the Open) (KidsShape (TermShape 16) (linkset_arity l)) (some_mark tt Open tt)
    (some_kids (TermShape 16) (some_term 15) (linkset_arity l))
some_behind_side (head_word w) = some_from (TermShape 16) (some_term 15) w

word_of_mark : (v w : List ℕ) → Word v ≡ Word w → v ≡ w
word_of_mark v w e = cc

mapped_word : (word : List ℕ) (m : Result HeadWord Why) (y : SideWord) → head_of_word 16 word ≡ m
    → map_ok head_word m ≡ Ok y → word ≡ side_spell y
mapped_word word (Ok w) y is e = head_word_is 16 word w is
    ∙ ap side_spell (means_is (head_word w) y e)
mapped_word word (Err reason) y is e = absurd cc

side_word_is : (word : List ℕ) (o : Option Linkset) (y : SideWord) → linkset_of_word word ≡ o
    → side_word o word ≡ Ok y → word ≡ side_spell y
side_word_is word (Some l) y is e = word_of_mark word (linkset_word l) (linkset_is word (Some l) is)
    ∙ ap side_spell (means_is (link_word l) y e)
side_word_is word None y is e = mapped_word word (head_of_word 16 word) y refl e

side_word_reason : (word : List ℕ) (o : Option Linkset) → HasReason (Word word) (side_word o word)
side_word_reason word (Some l) = tt
side_word_reason word None =
    mapped_reason head_word (Word word) (head_of_word 16 word) (head_reason 16 word)

takes_side : TakesToken a_side_word (λ x. the (Word (side_spell x)))
takes_side =
    takes_these_words (λ word. side_word (linkset_of_word word) word) side_spell
    (head_word words.Heap) (spelled words.Heap)
    (λ word y e. side_word_is word (linkset_of_word word) y refl e)
    (λ word. side_word_reason word (linkset_of_word word))

local_link : (l : Linkset) → Passes (pass_link l) (LinkShape 16 l)
local_link l =
    local_then (want an_open) (λ o b. pass_behind (pass_term 15) (linkset_arity l) b) (the Open)
    (KidsShape (TermShape 16) (linkset_arity l))
    (λ _. some_kids (TermShape 16) (some_term 15) (linkset_arity l)) local_open
    (λ _. local_behind (TermShape 16) (pass_term 15) (some_term 15) (local_term 15) (good_term 15)
    (linkset_arity l))

local_side_from : (x : SideWord) → Passes (pass_side_from x) (BehindSide x)
local_side_from (link_word l) = local_link l
local_side_from (head_word w) =
    local_from (TermShape 16) (pass_term 15) (some_term 15) (local_term 15) (good_term 15) w

local_side : Passes pass_side (SideShape 16)
local_side =
    local_bind (want a_side_word) (λ x b. pass_side_from x b) (λ x. the (Word (side_spell x)))
    (λ x _. BehindSide x) (λ _. SideShape 16) side_joins some_behind_side
    (local_want a_side_word (λ x. the (Word (side_spell x))) takes_side) local_side_from

some_side : IsSome (SideShape 16)
some_side = some_token (λ _. SideShape 16) tt (Word (spell words.Heap)) (spelled words.Heap)
    (λ bytes rest h. inl (words.Heap, (rest, h, (rest, refl, refl))))

-- ---- definitions

pub local_named : Passes pass_named (the Equals ⨾ SideShape 16)
local_named = local_then (want an_equals) (λ e b. pass_side b) (the Equals) (SideShape 16)
    (λ _. some_side) (local_want an_equals (λ _. the Equals) takes_equals) (λ _. local_side)

pub some_named : IsSome (the Equals ⨾ SideShape 16)
some_named = some_then (the Equals) (SideShape 16) (some_mark tt Equals tt) some_side

pub local_first : Passes pass_first (DefinitionShape 16)
local_first = local_then (want a_word) (λ n b. pass_named b) AWord (the Equals ⨾ SideShape 16)
    (λ _. some_named) local_name (λ _. local_named)

pub some_definition : IsSome (DefinitionShape 16)
some_definition = some_then AWord (the Equals ⨾ SideShape 16) (some_word tt) some_named
