-- The bare grammar of lines: which words may stand where, whatever files, links and fields there
-- are, and whatever fits them.
use Rattle.std.specs.Prelude.{◌≡◌, ℕ, zero, suc, true, ◌⊎◌, List, [], ◌∷◌, codes}
use Rattle.gx_tokens.specs.Numbers.{is_number}
use Rattle.gx_values.specs.declared.values.Op.{Op}
use Rattle.gx_script.specs.declared.keywords.Verb.{Verb}
use Rattle.gx_script.specs.declared.keywords.Verb.TheVariants as verb
use Rattle.gx_commands.specs.Words.{Word, Bare, Quoted}
use Rattle.gx_script.specs.Names.{verb_text, op_text}
use Rattle.gx_script.specs.Grammar.{◌⨾◌, NoWord, the}

-- FILE, LINK or FIELD
abbrev pub AName : List Word → List Word → Type 0
AName words rest = (name : List ℕ) × the name words rest

-- a number or a quoted text
abbrev pub IsValue : Word → Type 0
IsValue (Bare text) = is_number text ≡ true
IsValue (Quoted text) = Unit {0}

-- VALUE
abbrev pub AValue : List Word → List Word → Type 0
AValue words rest = (word : Word) × (words ≡ word ∷ rest) × IsValue word

-- OP
abbrev pub AnOp : List Word → List Word → Type 0
AnOp words rest = (op : Op) × the (op_text op) words rest

-- a phrase, or no word
abbrev pub Perhaps : (List Word → List Word → Type 0) → List Word → List Word → Type 0
Perhaps phrase words rest = NoWord words rest ⊎ phrase words rest

-- a phrase of some number of parts
abbrev pub Repeated : (ℕ → List Word → List Word → Type 0) → List Word → List Word → Type 0
Repeated phrase words rest = (more : ℕ) × phrase more words rest

-- VALUE {VALUE}, with so many more
abbrev pub ValuesShape : ℕ → List Word → List Word → Type 0
ValuesShape zero = AValue
ValuesShape (suc n) = AValue ⨾ ValuesShape n

-- FILE KEY, LINK OWNER, LINK MEMBER or FIELD VALUE
abbrev pub NameAndValue : List Word → List Word → Type 0
NameAndValue = AName ⨾ AValue

-- FIELD VALUE {FIELD VALUE}, with so many more
abbrev pub ChangesShape : ℕ → List Word → List Word → Type 0
ChangesShape zero = NameAndValue
ChangesShape (suc n) = NameAndValue ⨾ ChangesShape n

-- FIELD OP VALUE
abbrev pub CondShape : List Word → List Word → Type 0
CondShape = AName ⨾ AnOp ⨾ AValue

-- COND {and COND}, with so many more
abbrev pub CondsShape : ℕ → List Word → List Word → Type 0
CondsShape zero = CondShape
CondsShape (suc n) = CondShape ⨾ the (codes "and") ⨾ CondsShape n

-- [where COND {and COND}]
abbrev pub WhereShape : List Word → List Word → Type 0
WhereShape = Perhaps (the (codes "where") ⨾ Repeated CondsShape)

-- [of LINK OWNER]
abbrev pub OfShape : List Word → List Word → Type 0
OfShape = Perhaps (the (codes "of") ⨾ NameAndValue)

-- [order FIELD [desc]]
abbrev pub OrderShape : List Word → List Word → Type 0
OrderShape = Perhaps (the (codes "order") ⨾ AName ⨾ Perhaps (the (codes "desc")))

-- what may stand behind the first word of a command
abbrev pub ArgumentsShape : Verb → List Word → List Word → Type 0
ArgumentsShape verb.Begin = NoWord
ArgumentsShape verb.Commit = NoWord
ArgumentsShape verb.Abort = NoWord
ArgumentsShape verb.Insert = AName ⨾ Repeated ValuesShape
ArgumentsShape verb.Get = NameAndValue
ArgumentsShape verb.Update = NameAndValue ⨾ Repeated ChangesShape
ArgumentsShape verb.Delete = NameAndValue
ArgumentsShape verb.Connect = NameAndValue ⨾ AValue
ArgumentsShape verb.Disconnect = NameAndValue
ArgumentsShape verb.Members = NameAndValue ⨾ OrderShape
ArgumentsShape verb.Owner = NameAndValue
ArgumentsShape verb.Find = AName ⨾ WhereShape ⨾ OfShape ⨾ OrderShape
ArgumentsShape verb.Reorganize = AName

-- the words, all of them, are a line of the bare grammar that has words
abbrev pub IsShaped : List Word → Type 0
IsShaped words = (v : Verb) × (the (verb_text v) ⨾ ArgumentsShape v) words []
