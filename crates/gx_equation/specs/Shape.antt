-- The bare grammar: the texts whose numbers may be out of range, and whose heads may stand at any
-- depth.
use Rattle.std.specs.Prelude.{◌≡◌, ℕ, zero, suc, ◌⊎◌, List, codes}
use Rattle.gx_tokens.specs.Grammar.{◌⨾◌, the, AWord, ANumber, AQuoted}
use Rattle.gx_tokens.specs.Lexemes.{Word, Open, Close, Comma, Equals, End}
use Rattle.gx_equation.specs.declared.heads.HeadWord.{HeadWord}
use Rattle.gx_equation.specs.declared.heads.HeadWord.TheVariants as words
use Rattle.gx_equation.specs.declared.heads.Linkset.{Linkset}
use Rattle.gx_equation.specs.Grammar.{linkset_word}
use Rattle.gx_equation.specs.Heads.{spell}
use Rattle.gx_equation.specs.Trees.{Arity, No_kids, One_kid, Two_kids, Some_kids, linkset_arity}

-- ---- heads

-- "pack" | "rle"
abbrev pub ACode : List ℕ → List ℕ → Type 0
ACode bytes rest = the (Word (codes "pack")) bytes rest ⊎ the (Word (codes "rle")) bytes rest

-- NUMBER | QUOTED
abbrev pub ABound : List ℕ → List ℕ → Type 0
ABound bytes rest = ANumber bytes rest ⊎ AQuoted bytes rest

-- {item} ",", with so many items
abbrev pub MoreShape : (List ℕ → List ℕ → Type 0) → ℕ → List ℕ → List ℕ → Type 0
MoreShape Item zero = the Comma
MoreShape Item (suc n) = Item ⨾ MoreShape Item n

abbrev pub SomeMore : (List ℕ → List ℕ → Type 0) → List ℕ → List ℕ → Type 0
SomeMore Item bytes rest = (more : ℕ) × MoreShape Item more bytes rest

-- what stands between a head's word and its first term
abbrev pub ArgumentsShape : HeadWord → List ℕ → List ℕ → Type 0
ArgumentsShape words.Heap = λ bytes rest. bytes ≡ rest
ArgumentsShape words.Hash = the Open ⨾ ANumber ⨾ the Close
ArgumentsShape words.Isam = λ bytes rest. bytes ≡ rest
ArgumentsShape words.Bplus = λ bytes rest. bytes ≡ rest
ArgumentsShape words.Actual = the Open
ArgumentsShape words.Encode = the Open ⨾ AWord ⨾ ACode ⨾ the Comma
ArgumentsShape words.Segment = the Open ⨾ AWord ⨾ SomeMore AWord
ArgumentsShape words.Transpose = the Open
ArgumentsShape words.Partition = the Open ⨾ AWord ⨾ ABound ⨾ SomeMore ABound
ArgumentsShape words.Divide = the Open ⨾ ANumber ⨾ the Comma
ArgumentsShape words.Index = the Open ⨾ AWord ⨾ the Comma

abbrev pub word_arity : HeadWord → Arity
word_arity words.Heap = No_kids
word_arity words.Hash = No_kids
word_arity words.Isam = No_kids
word_arity words.Bplus = No_kids
word_arity words.Actual = One_kid
word_arity words.Encode = One_kid
word_arity words.Segment = Two_kids
word_arity words.Transpose = Some_kids
word_arity words.Partition = Some_kids
word_arity words.Divide = One_kid
word_arity words.Index = Two_kids

-- ---- terms

-- term {"," term} ")", with so many more
abbrev pub ListShape : (List ℕ → List ℕ → Type 0) → ℕ → List ℕ → List ℕ → Type 0
ListShape Term zero = Term ⨾ the Close
ListShape Term (suc n) = Term ⨾ the Comma ⨾ ListShape Term n

abbrev pub SomeList : (List ℕ → List ℕ → Type 0) → List ℕ → List ℕ → Type 0
SomeList Term bytes rest = (more : ℕ) × ListShape Term more bytes rest

abbrev pub KidsShape : (List ℕ → List ℕ → Type 0) → Arity → List ℕ → List ℕ → Type 0
KidsShape Term No_kids = λ bytes rest. bytes ≡ rest
KidsShape Term One_kid = Term ⨾ the Close
KidsShape Term Two_kids = Term ⨾ the Comma ⨾ Term ⨾ the Close
KidsShape Term Some_kids = SomeList Term

-- what stands behind a head's word
abbrev pub BehindShape : (List ℕ → List ℕ → Type 0) → HeadWord → List ℕ → List ℕ → Type 0
BehindShape Term w = ArgumentsShape w ⨾ KidsShape Term (word_arity w)

-- a term of at most so many levels of heads
abbrev pub TermShape : ℕ → List ℕ → List ℕ → Type 0
TermShape zero = λ _ _. ⊥
TermShape (suc levels) =
    λ bytes rest. (w : HeadWord)
    × (the (Word (spell w)) ⨾ BehindShape (TermShape levels) w) bytes rest

-- ---- definitions

-- "array" "(" term ")" | "ring" "(" term "," term ")" | "inverted" "(" term "," term ")"
abbrev pub LinkShape : ℕ → Linkset → List ℕ → List ℕ → Type 0
LinkShape levels l = the Open ⨾ KidsShape (TermShape levels) (linkset_arity l)

-- the head of a link's side counts as a level
abbrev pub SideShape : ℕ → List ℕ → List ℕ → Type 0
SideShape levels bytes rest =
    TermShape (suc levels) bytes rest
    ⊎ ((l : Linkset) × (the (Word (linkset_word l)) ⨾ LinkShape levels l) bytes rest)

-- NAME "=" side
abbrev pub DefinitionShape : ℕ → List ℕ → List ℕ → Type 0
DefinitionShape levels = AWord ⨾ the Equals ⨾ SideShape levels

-- {definition}, with so many, up to the end
abbrev pub DefinitionsShape : ℕ → ℕ → List ℕ → List ℕ → Type 0
DefinitionsShape levels zero = the End
DefinitionsShape levels (suc n) = DefinitionShape levels ⨾ DefinitionsShape levels n

-- the text is in the bare grammar
abbrev pub IsShaped : List ℕ → Type 0
IsShaped bytes =
    (levels : ℕ) × (more : ℕ) × (rest : List ℕ) × DefinitionsShape levels (suc more) bytes rest
