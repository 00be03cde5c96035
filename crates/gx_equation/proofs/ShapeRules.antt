-- In a text of the bare grammar only a rule can be broken.
use Rattle.std.proofs.Common.{◌≡◌, ℕ, zero, suc, cond, List, [], ◌∷◌, ◌++◌, length, Option, Some, None, Result, Ok, Err, refl, sym, ap, subst, ◌∙◌, inl, inr}
use Rattle.std.specs.Prelude.{ℤ, codes}
use Rattle.gx_tokens.specs.declared.fault.Fault.{Fault}
use Rattle.gx_tokens.specs.declared.why.Why.{Why}
use Rattle.gx_tokens.specs.declared.why.Why.TheVariants as why
use Rattle.gx_tokens.specs.Faults.{IsRule}
use Rattle.gx_tokens.specs.Grammar.{◌⨾◌, the, AWord, ANumber}
use Rattle.gx_tokens.specs.Lexemes.{Lexeme, Word, Number, Quoted, Open, Close, Comma, Equals, End}
use Rattle.gx_tokens.specs.Numbers.{number_value, natural_up_to, signed_number}
use Rattle.gx_tokens.specs.Reading.{◌>>=◌, map_ok, met, want, an_open, a_close, a_comma, an_equals, a_word, comma_or_close}
use Rattle.gx_tokens.specs.Spelling.{FirstToken}
use Rattle.gx_tokens.proofs.RuleLaws.{Goes, MeansOr, goes_want, goes_bind}
use Rattle.gx_tokens.proofs.TokenAgain.{first_again}
use Rattle.gx_values.specs.declared.values.Value.{Value}
use Rattle.gx_ports.specs.declared.kinds.LeafKind.TheVariants as leaf
use Rattle.gx_equation.specs.declared.heads.Head.{Head}
use Rattle.gx_equation.specs.declared.heads.Head.TheVariants as heads
use Rattle.gx_equation.specs.declared.heads.HeadWord.{HeadWord}
use Rattle.gx_equation.specs.declared.heads.HeadWord.TheVariants as words
use Rattle.gx_equation.specs.declared.heads.Linkset.{Linkset}
use Rattle.gx_equation.specs.Definitions.{linkset_of_word}
use Rattle.gx_equation.specs.Grammar.{linkset_word}
use Rattle.gx_equation.specs.Heads.{spell, head_of_word, from_one, a_size, code_of_word, a_code, int_bound, a_bound, or_comma, items_at, hash_at, encode_at, segment_at, partition_at, divide_at, index_at, opened_at, arguments_at}
use Rattle.gx_equation.specs.Shape.{ACode, ABound, MoreShape, SomeMore, ArgumentsShape, word_arity, ListShape, KidsShape, BehindShape, TermShape, SideShape, DefinitionShape, DefinitionsShape, IsShaped}
use Rattle.gx_equation.specs.Trees.{Arity, No_kids, One_kid, Two_kids, Some_kids, linkset_arity}
use Rattle.gx_equation.proofs.Again.{word_again, linkset_again}
use Rattle.gx_equation.proofs.Passing.{Pass, pass_kids, pass_behind, pass_from, pass_term, link_word, head_word, side_word, a_side_word, pass_side_from, pass_side, pass_named, All, pass_definitions, pass_first, pass_equation}

-- ---- tokens

goes_open : (bytes rest : List ℕ) → the Open bytes rest → Goes (want an_open bytes) rest
goes_open bytes rest h = goes_want an_open bytes rest Open h tt

goes_close : (bytes rest : List ℕ) → the Close bytes rest → Goes (want a_close bytes) rest
goes_close bytes rest h = goes_want a_close bytes rest Close h tt

goes_comma : (bytes rest : List ℕ) → the Comma bytes rest → Goes (want a_comma bytes) rest
goes_comma bytes rest h = goes_want a_comma bytes rest Comma h tt

goes_name : (bytes rest : List ℕ) → AWord bytes rest → Goes (want a_word bytes) rest
goes_name bytes rest h = goes_want a_word bytes rest (Word h.0) h.1 tt

size_means : (o : Option ℕ) → MeansOr (from_one o)
size_means None = tt
size_means (Some zero) = tt
size_means (Some (suc n)) = tt

goes_size : (most : ℕ) (bytes rest : List ℕ) → ANumber bytes rest
    → Goes (want (a_size most) bytes) rest
goes_size most bytes rest h =
    goes_want (a_size most) bytes rest (Number h.0) h.1
    (size_means (natural_up_to most (number_value h.0)))

goes_code : (bytes rest : List ℕ) → ACode bytes rest → Goes (want a_code bytes) rest
unfolding code_of_word
goes_code bytes rest (inl h) = goes_want a_code bytes rest (Word (codes "pack")) h tt
goes_code bytes rest (inr h) = goes_want a_code bytes rest (Word (codes "rle")) h tt

int_means : (o : Option ℤ) → MeansOr (int_bound o)
int_means None = tt
int_means (Some n) = tt

goes_bound : (bytes rest : List ℕ) → ABound bytes rest → Goes (want a_bound bytes) rest
goes_bound bytes rest (inl h) =
    goes_want a_bound bytes rest (Number h.0) h.1 (int_means (signed_number h.0))
goes_bound bytes rest (inr h) = goes_want a_bound bytes rest (Quoted h.0) h.1 tt

-- ---- items up to a comma

-- the token that an item is
pub record IsItem {X : Type 0} (item : Lexeme → Result X Why) (bytes rest : List ℕ) : Type 0 where
  pub token : Lexeme
  pub first : FirstToken bytes token rest
  pub alone : or_comma item token ≡ map_ok (λ x. Some x) (item token)
  pub means : MeansOr (item token)

name_item : (bytes rest : List ℕ) → AWord bytes rest → IsItem a_word bytes rest
name_item bytes rest h = record { token = Word h.0; first = h.1; alone = refl; means = tt }

bound_item : (bytes rest : List ℕ) → ABound bytes rest → IsItem a_bound bytes rest
bound_item bytes rest (inl h) =
    record { token = Number h.0; first = h.1; alone = refl; means = int_means (signed_number h.0) }
bound_item bytes rest (inr h) = record { token = Quoted h.0; first = h.1; alone = refl; means = tt }

-- without fuel
goes_spent : (A : Type 0) (bytes mid rest : List ℕ) (t : Lexeme) → FirstToken bytes t mid
    → Goes {A = A} (want (λ _. Err why.Count) bytes) rest
goes_spent A bytes mid rest t h = rw (first_again bytes t mid h) tt

item_step : {X : Type 0} (bytes mid rest : List ℕ) (before : List X) (m : Result X Why) (others : X
    → List ℕ → Result (List X × List ℕ) Fault) → MeansOr m → ((x : X) → Goes (others x mid) rest)
    → Goes {A = List X} (met bytes (map_ok (λ x. Some x) m) mid >>= λ x. elim x.0
    [ None ↦ Ok (before, x.1) | Some y ↦ others y x.1 ]) rest
item_step bytes mid rest before (Ok x) others h again = again x
item_step bytes mid rest before (Err reason) others h again = h

goes_more : {X : Type 0} (item : Lexeme → Result X Why) (Item : List ℕ → List ℕ → Type 0)
    → ((bytes rest : List ℕ) → Item bytes rest → IsItem item bytes rest)
    → (fuel : ℕ) (before : List X) (more : ℕ) (bytes rest : List ℕ) → MoreShape Item more bytes rest
    → Goes (items_at item fuel before bytes) rest
unfolding items_at
goes_more {X = X} item Item is zero before zero bytes rest h =
    goes_spent (List X) bytes rest rest Comma h
goes_more {X = X} item Item is zero before (suc more) bytes rest h = let i = is bytes h.0 h.1 in
    goes_spent (List X) bytes h.0 rest i.token i.first
goes_more item Item is (suc fuel) before zero bytes rest h =
    rw (first_again bytes Comma rest h) refl
goes_more item Item is (suc fuel) before (suc more) bytes rest h =
    let i = is bytes h.0 h.1 in
    rw (first_again bytes i.token h.0 i.first, i.alone)
    (item_step bytes h.0 rest before (item i.token) (λ y b. items_at item fuel (before ++ y ∷ []) b)
    i.means (λ y. goes_more item Item is fuel (before ++ y ∷ []) more h.0 rest h.2))

goes_names : (fuel : ℕ) (before : List (List ℕ)) (bytes rest : List ℕ) → SomeMore AWord bytes rest
    → Goes (items_at a_word fuel before bytes) rest
goes_names fuel before bytes rest h =
    goes_more a_word AWord name_item fuel before h.0 bytes rest h.1

goes_bounds : (fuel : ℕ) (before : List Value) (bytes rest : List ℕ) → SomeMore ABound bytes rest
    → Goes (items_at a_bound fuel before bytes) rest
goes_bounds fuel before bytes rest h =
    goes_more a_bound ABound bound_item fuel before h.0 bytes rest h.1

-- ---- what stands behind the word of a head

goes_hash : (bytes rest : List ℕ) → ArgumentsShape words.Hash bytes rest → Goes (hash_at bytes) rest
unfolding hash_at
goes_hash bytes rest h =
    goes_bind (want an_open bytes)
    (λ o b. want (a_size 64) b >>= λ n. want a_close n.1 >>= λ c. Ok
    (heads.Leaf (leaf.Hash n.0), c.1)) h.0 rest (goes_open bytes h.0 h.1)
    (λ o. goes_bind (want (a_size 64) h.0)
    (λ n b. want a_close b >>= λ c. Ok (heads.Leaf (leaf.Hash n), c.1)) h.2.0 rest
    (goes_size 64 h.0 h.2.0 h.2.1)
    (λ n. goes_bind (want a_close h.2.0) (λ c b. Ok (heads.Leaf (leaf.Hash n), b)) rest rest
    (goes_close h.2.0 rest h.2.2) (λ c. refl)))

goes_encode : (bytes rest : List ℕ) → ArgumentsShape words.Encode bytes rest
    → Goes (encode_at bytes) rest
unfolding encode_at
goes_encode bytes rest h =
    let w = h.2 in
    let c = w.2 in
    goes_bind (want an_open bytes)
    (λ o b. want a_word b >>= λ n. want a_code n.1 >>= λ c. want a_comma c.1 >>= λ d. Ok
    (heads.Encode n.0 c.0, d.1)) h.0 rest (goes_open bytes h.0 h.1)
    (λ o. goes_bind (want a_word h.0)
    (λ n b. want a_code b >>= λ c. want a_comma c.1 >>= λ d. Ok (heads.Encode n c.0, d.1)) w.0
    rest (goes_name h.0 w.0 w.1)
    (λ n. goes_bind (want a_code w.0) (λ k b. want a_comma b >>= λ d. Ok (heads.Encode n k, d.1))
    c.0 rest (goes_code w.0 c.0 c.1)
    (λ k. goes_bind (want a_comma c.0) (λ d b. Ok (heads.Encode n k, b)) rest rest
    (goes_comma c.0 rest c.2) (λ d. refl))))

goes_segment : (bytes rest : List ℕ) → ArgumentsShape words.Segment bytes rest
    → Goes (segment_at bytes) rest
unfolding segment_at
goes_segment bytes rest h =
    let w = h.2 in
    goes_bind (want an_open bytes)
    (λ o b. want a_word b >>= λ n. items_at a_word (suc (length n.1)) (n.0 ∷ []) n.1 >>= λ ns.
    Ok (heads.Segment ns.0, ns.1)) h.0 rest (goes_open bytes h.0 h.1)
    (λ o. goes_bind (want a_word h.0)
    (λ n b. items_at a_word (suc (length b)) (n ∷ []) b >>= λ ns. Ok (heads.Segment ns.0, ns.1))
    w.0 rest (goes_name h.0 w.0 w.1)
    (λ n. goes_bind (items_at a_word (suc (length w.0)) (n ∷ []) w.0)
    (λ ns b. Ok (heads.Segment ns, b)) rest rest
    (goes_names (suc (length w.0)) (n ∷ []) w.0 rest w.2) (λ ns. refl)))

goes_partition : (bytes rest : List ℕ) → ArgumentsShape words.Partition bytes rest
    → Goes (partition_at bytes) rest
unfolding partition_at
goes_partition bytes rest h =
    let w = h.2 in
    let v = w.2 in
    goes_bind (want an_open bytes)
    (λ o b. want a_word b >>= λ n. want a_bound n.1 >>= λ v. items_at a_bound (suc (length v.1))
    (v.0 ∷ []) v.1 >>= λ vs. Ok (heads.Partition n.0 vs.0, vs.1)) h.0 rest
    (goes_open bytes h.0 h.1)
    (λ o. goes_bind (want a_word h.0)
    (λ n b. want a_bound b >>= λ v. items_at a_bound (suc (length v.1)) (v.0 ∷ []) v.1 >>= λ vs.
    Ok (heads.Partition n vs.0, vs.1)) w.0 rest (goes_name h.0 w.0 w.1)
    (λ n. goes_bind (want a_bound w.0)
    (λ x b. items_at a_bound (suc (length b)) (x ∷ []) b >>= λ vs. Ok
    (heads.Partition n vs.0, vs.1)) v.0 rest (goes_bound w.0 v.0 v.1)
    (λ x. goes_bind (items_at a_bound (suc (length v.0)) (x ∷ []) v.0)
    (λ vs b. Ok (heads.Partition n vs, b)) rest rest
    (goes_bounds (suc (length v.0)) (x ∷ []) v.0 rest v.2) (λ vs. refl))))

goes_divide : (bytes rest : List ℕ) → ArgumentsShape words.Divide bytes rest
    → Goes (divide_at bytes) rest
unfolding divide_at
goes_divide bytes rest h =
    goes_bind (want an_open bytes)
    (λ o b. want (a_size 16000) b >>= λ n. want a_comma n.1 >>= λ c. Ok (heads.Divide n.0, c.1))
    h.0 rest (goes_open bytes h.0 h.1)
    (λ o. goes_bind (want (a_size 16000) h.0)
    (λ n b. want a_comma b >>= λ c. Ok (heads.Divide n, c.1)) h.2.0 rest
    (goes_size 16000 h.0 h.2.0 h.2.1)
    (λ n. goes_bind (want a_comma h.2.0) (λ c b. Ok (heads.Divide n, b)) rest rest
    (goes_comma h.2.0 rest h.2.2) (λ c. refl)))

goes_index : (bytes rest : List ℕ) → ArgumentsShape words.Index bytes rest
    → Goes (index_at bytes) rest
unfolding index_at
goes_index bytes rest h =
    goes_bind (want an_open bytes)
    (λ o b. want a_word b >>= λ n. want a_comma n.1 >>= λ c. Ok (heads.Index n.0, c.1)) h.0 rest
    (goes_open bytes h.0 h.1)
    (λ o. goes_bind (want a_word h.0) (λ n b. want a_comma b >>= λ c. Ok (heads.Index n, c.1)) h.2.0
    rest (goes_name h.0 h.2.0 h.2.1)
    (λ n. goes_bind (want a_comma h.2.0) (λ c b. Ok (heads.Index n, b)) rest rest
    (goes_comma h.2.0 rest h.2.2) (λ c. refl)))

goes_opened : (top : Head) (bytes rest : List ℕ) → the Open bytes rest
    → Goes (opened_at top bytes) rest
goes_opened top bytes rest h =
    goes_bind (want an_open bytes) (λ o b. Ok (top, b)) rest rest (goes_open bytes rest h)
    (λ o. refl)

goes_arguments : (w : HeadWord) (bytes rest : List ℕ) → ArgumentsShape w bytes rest
    → Goes (arguments_at w bytes) rest
unfolding arguments_at
goes_arguments words.Heap bytes rest h = h
goes_arguments words.Hash bytes rest h = goes_hash bytes rest h
goes_arguments words.Isam bytes rest h = h
goes_arguments words.Bplus bytes rest h = h
goes_arguments words.Actual bytes rest h = goes_opened heads.Actual bytes rest h
goes_arguments words.Encode bytes rest h = goes_encode bytes rest h
goes_arguments words.Segment bytes rest h = goes_segment bytes rest h
goes_arguments words.Transpose bytes rest h = goes_opened heads.Transpose bytes rest h
goes_arguments words.Partition bytes rest h = goes_partition bytes rest h
goes_arguments words.Divide bytes rest h = goes_divide bytes rest h
goes_arguments words.Index bytes rest h = goes_index bytes rest h

-- ---- terms

-- a term's text begins with a token, and is passed
pub record IsPassed (term : Pass) (Term : List ℕ → List ℕ → Type 0) : Type 0 where
  pub goes : (bytes rest : List ℕ) → Term bytes rest → Goes (term bytes) rest
  pub begins : (bytes rest : List ℕ) → Term bytes rest
      → (t : Lexeme) × (mid : List ℕ) × FirstToken bytes t mid

goes_kids : (term : Pass) (Term : List ℕ → List ℕ → Type 0) → IsPassed term Term
    → (fuel more : ℕ) (bytes rest : List ℕ) → ListShape Term more bytes rest
    → Goes (pass_kids term fuel bytes) rest
goes_kids term Term is zero zero bytes rest h = let b = is.begins bytes h.0 h.1 in
    goes_spent (Unit {0}) bytes b.1 rest b.0 b.2
goes_kids term Term is zero (suc more) bytes rest h = let b = is.begins bytes h.0 h.1 in
    goes_spent (Unit {0}) bytes b.1 rest b.0 b.2
goes_kids term Term is (suc fuel) zero bytes rest h =
    goes_bind (term bytes) (λ t b. want comma_or_close b >>= λ more. cond more.0
    (pass_kids term fuel more.1) (Ok (tt, more.1))) h.0 rest (is.goes bytes h.0 h.1)
    (λ t. rw (first_again h.0 Close rest h.2) refl)
goes_kids term Term is (suc fuel) (suc more) bytes rest h =
    goes_bind (term bytes) (λ t b. want comma_or_close b >>= λ more. cond more.0
    (pass_kids term fuel more.1) (Ok (tt, more.1))) h.0 rest (is.goes bytes h.0 h.1)
    (λ t. rw (first_again h.0 Comma h.2.0 h.2.1)
    (goes_kids term Term is fuel more h.2.0 rest h.2.2))

goes_behind : (term : Pass) (Term : List ℕ → List ℕ → Type 0) → IsPassed term Term
    → (a : Arity) (bytes rest : List ℕ) → KidsShape Term a bytes rest
    → Goes (pass_behind term a bytes) rest
goes_behind term Term is No_kids bytes rest h = h
goes_behind term Term is One_kid bytes rest h =
    goes_bind (term bytes) (λ t b. want a_close b) h.0 rest (is.goes bytes h.0 h.1)
    (λ t. goes_close h.0 rest h.2)
goes_behind term Term is Two_kids bytes rest h =
    let c = h.2 in
    let u = c.2 in
    goes_bind (term bytes) (λ t b. want a_comma b >>= λ comma. term comma.1 >>= λ u. want a_close
    u.1) h.0 rest (is.goes bytes h.0 h.1)
    (λ t. goes_bind (want a_comma h.0) (λ comma b. term b >>= λ u. want a_close u.1) c.0 rest
    (goes_comma h.0 c.0 c.1)
    (λ comma. goes_bind (term c.0) (λ v b. want a_close b) u.0 rest (is.goes c.0 u.0 u.1)
    (λ v. goes_close u.0 rest u.2)))
goes_behind term Term is Some_kids bytes rest h =
    goes_kids term Term is (suc (length bytes)) h.0 bytes rest h.1

goes_from : (term : Pass) (Term : List ℕ → List ℕ → Type 0) → IsPassed term Term
    → (w : HeadWord) (bytes rest : List ℕ) → BehindShape Term w bytes rest
    → Goes (pass_from term w bytes) rest
goes_from term Term is w bytes rest h =
    goes_bind (arguments_at w bytes) (λ top b. pass_behind term (word_arity w) b) h.0 rest
    (goes_arguments w bytes h.0 h.1)
    (λ top. goes_behind term Term is (word_arity w) h.0 rest h.2)

too_deep : (w : HeadWord) → head_of_word 0 (spell w) ≡ Err why.Depth
unfolding head_of_word
too_deep words.Heap = refl
too_deep words.Hash = refl
too_deep words.Isam = refl
too_deep words.Bplus = refl
too_deep words.Actual = refl
too_deep words.Encode = refl
too_deep words.Segment = refl
too_deep words.Transpose = refl
too_deep words.Partition = refl
too_deep words.Divide = refl
too_deep words.Index = refl

term_begins : (levels : ℕ) (bytes rest : List ℕ) → TermShape levels bytes rest
    → (t : Lexeme) × (mid : List ℕ) × FirstToken bytes t mid
term_begins zero bytes rest h = absurd h
term_begins (suc levels) bytes rest h = (Word (spell h.0), h.1.0, h.1.1)

goes_term : (levels deep : ℕ) (bytes rest : List ℕ) → TermShape deep bytes rest
    → Goes (pass_term levels bytes) rest
goes_term levels zero bytes rest h = absurd h
goes_term zero (suc deep) bytes rest h =
    rw (first_again bytes (Word (spell h.0)) h.1.0 h.1.1)
    (stops bytes h.1.0 rest (head_of_word 0 (spell h.0)) (too_deep h.0))
  where
    stops : (bytes mid rest : List ℕ) (m : Result HeadWord Why) → m ≡ Err why.Depth
        → Goes {A = Unit {0}} (met bytes (map_ok (λ _. tt) m) mid) rest
    stops bytes mid rest m e = rw e tt
goes_term (suc levels) (suc deep) bytes rest h =
    let term = pass_term levels in
    let is : IsPassed term (TermShape deep) =
    record { goes = goes_term levels deep; begins = term_begins deep } in
    rw (first_again bytes (Word (spell h.0)) h.1.0 h.1.1, word_again levels h.0)
    (goes_from term (TermShape deep) is h.0 h.1.0 rest h.1.2)

-- ---- sides and definitions

no_linkset : (w : HeadWord) → linkset_of_word (spell w) ≡ None
unfolding linkset_of_word
no_linkset words.Heap = refl
no_linkset words.Hash = refl
no_linkset words.Isam = refl
no_linkset words.Bplus = refl
no_linkset words.Actual = refl
no_linkset words.Encode = refl
no_linkset words.Segment = refl
no_linkset words.Transpose = refl
no_linkset words.Partition = refl
no_linkset words.Divide = refl
no_linkset words.Index = refl

is_passed : (levels deep : ℕ) → IsPassed (pass_term levels) (TermShape deep)
is_passed levels deep = record { goes = goes_term levels deep; begins = term_begins deep }

side_is_term : (w : HeadWord) → a_side_word (Word (spell w)) ≡ Ok (head_word w)
side_is_term w = ap (λ (o : Option Linkset). side_word o (spell w)) (no_linkset w)
    ∙ ap (map_ok head_word) (word_again 15 w)

side_is_link : (l : Linkset) → a_side_word (Word (linkset_word l)) ≡ Ok (link_word l)
side_is_link l = ap (λ (o : Option Linkset). side_word o (linkset_word l)) (linkset_again l)

-- a token that means this
goes_to : {A B : Type 0} (meaning : Lexeme → Result A Why) (k : A → List ℕ
    → Result (B × List ℕ) Fault) (bytes mid rest : List ℕ) (t : Lexeme) (x : A)
    → FirstToken bytes t mid → meaning t ≡ Ok x → Goes (k x mid) rest
    → Goes (want meaning bytes >>= λ z. k z.0 z.1) rest
goes_to meaning k bytes mid rest t x h e g = rw (first_again bytes t mid h, e) g

goes_side : (deep : ℕ) (bytes rest : List ℕ) → SideShape deep bytes rest
    → Goes (pass_side bytes) rest
goes_side deep bytes rest (inl h) =
    goes_to a_side_word pass_side_from bytes h.1.0 rest (Word (spell h.0)) (head_word h.0) h.1.1
    (side_is_term h.0) (goes_from (pass_term 15) (TermShape deep) (is_passed 15 deep) h.0 h.1.0
    rest h.1.2)
goes_side deep bytes rest (inr h) =
    let o = h.1.2 in
    goes_to a_side_word pass_side_from bytes h.1.0 rest (Word (linkset_word h.0))
    (link_word h.0) h.1.1 (side_is_link h.0)
    (goes_bind (want an_open h.1.0) (λ u b. pass_behind (pass_term 15) (linkset_arity h.0) b) o.0
    rest (goes_open h.1.0 o.0 o.1)
    (λ u. goes_behind (pass_term 15) (TermShape deep) (is_passed 15 deep)
    (linkset_arity h.0) o.0 rest o.2))

goes_named : (deep : ℕ) (bytes rest : List ℕ) → (the Equals ⨾ SideShape deep) bytes rest
    → Goes (pass_named bytes) rest
goes_named deep bytes rest h =
    goes_bind (want an_equals bytes) (λ e b. pass_side b) h.0 rest
    (goes_want an_equals bytes h.0 Equals h.1 tt) (λ e. goes_side deep h.0 rest h.2)

goes_first : (deep : ℕ) (bytes rest : List ℕ) → DefinitionShape deep bytes rest
    → Goes (pass_first bytes) rest
goes_first deep bytes rest h =
    goes_bind (want a_word bytes) (λ n b. pass_named b) h.0 rest (goes_name bytes h.0 h.1)
    (λ n. goes_named deep h.0 rest h.2)

-- ---- all of the text

abbrev GoesAll : All → Type 0
GoesAll (Ok x) = Unit {0}
GoesAll (Err f) = IsRule f.why

goes_on : (r : Result (Unit {0} × List ℕ) Fault) (k : Unit {0} × List ℕ → All) (mid : List ℕ)
    → Goes r mid → GoesAll (k (tt, mid)) → GoesAll (r >>= k)
goes_on (Ok y) k mid h g = subst (λ (b : List ℕ). GoesAll (k (tt, b))) (sym h) g
goes_on (Err f) k mid h g = h

goes_no_more : (bytes mid : List ℕ) (t : Lexeme) → FirstToken bytes t mid
    → GoesAll (pass_definitions 0 bytes)
goes_no_more bytes mid t h = rw (first_again bytes t mid h) tt

goes_definitions : (fuel deep more : ℕ) (bytes rest : List ℕ)
    → DefinitionsShape deep more bytes rest → GoesAll (pass_definitions fuel bytes)
goes_definitions zero deep zero bytes rest h = goes_no_more bytes rest End h
goes_definitions zero deep (suc more) bytes rest h = goes_no_more bytes h.1.0 (Word h.1.1.0) h.1.1.1
goes_definitions (suc fuel) deep zero bytes rest h = rw (first_again bytes End rest h) tt
goes_definitions (suc fuel) deep (suc more) bytes rest h =
    let one = h.1 in
    rw (first_again bytes (Word one.1.0) one.0 one.1.1)
    (goes_on (pass_named one.0) (λ d. pass_definitions fuel d.1) h.0
    (goes_named deep one.0 h.0 one.2) (goes_definitions fuel deep more h.0 rest h.2))

goes_equation : (bytes : List ℕ) → IsShaped bytes → GoesAll (pass_equation bytes)
goes_equation bytes h =
    let t = h.3 in
    goes_on (pass_first bytes) (λ d. pass_definitions (suc (length d.1)) d.1) t.0
    (goes_first h.0 bytes t.0 t.1) (goes_definitions (suc (length t.0)) h.0 h.1 t.0 h.2 t.2)

shaped_by : (r : All) (f : Fault) → GoesAll r → r ≡ Err f → IsRule f.why
shaped_by (Ok x) f h e = absurd cc
shaped_by (Err d) f h e = let is : d ≡ f = cc in subst (λ (z : Fault). IsRule z.why) is h

-- in a text of the bare grammar only a rule can be broken
pub shaped : (bytes : List ℕ) (f : Fault) → IsShaped bytes → pass_equation bytes ≡ Err f
    → IsRule f.why
shaped bytes f h e = shaped_by (pass_equation bytes) f (goes_equation bytes h) e
