-- The bare grammar: the texts whose names and numbers may break rules.
use Rattle.std.specs.Prelude.{ℕ, zero, suc, ◌⊎◌, List, codes}
use Rattle.gx_tokens.specs.Grammar.{◌⨾◌, the, AWord, ANumber}
use Rattle.gx_tokens.specs.Lexemes.{Word, Open, Close, Comma, End}

-- "int" | "text" NUMBER
abbrev pub KindShape : List ℕ → List ℕ → Type 0
KindShape bytes rest =
    the (Word (codes "int")) bytes rest ⊎ (the (Word (codes "text")) ⨾ ANumber) bytes rest

-- NAME "int" | NAME "text" NUMBER
abbrev pub FieldShape : List ℕ → List ℕ → Type 0
FieldShape = AWord ⨾ KindShape

-- field {"," field}, with so many more
abbrev pub FieldsShape : ℕ → List ℕ → List ℕ → Type 0
FieldsShape zero = FieldShape
FieldsShape (suc n) = FieldShape ⨾ the Comma ⨾ FieldsShape n

abbrev pub SomeFields : List ℕ → List ℕ → Type 0
SomeFields bytes rest = (more : ℕ) × (FieldsShape more ⨾ the Close) bytes rest

-- NAME "(" field {"," field} ")"
abbrev pub FileShape : List ℕ → List ℕ → Type 0
FileShape = AWord ⨾ the Open ⨾ SomeFields

-- NAME "(" NAME "," NAME ")"
abbrev pub LinkShape : List ℕ → List ℕ → Type 0
LinkShape = AWord ⨾ the Open ⨾ AWord ⨾ the Comma ⨾ AWord ⨾ the Close

-- "file" NAME "(" field {"," field} ")" | "link" NAME "(" NAME "," NAME ")"
abbrev pub ItemShape : List ℕ → List ℕ → Type 0
ItemShape bytes rest =
    (the (Word (codes "file")) ⨾ FileShape) bytes rest
    ⊎ (the (Word (codes "link")) ⨾ LinkShape) bytes rest

-- item {item}, with so many more, up to the end
abbrev pub ItemsShape : ℕ → List ℕ → List ℕ → Type 0
ItemsShape zero = ItemShape ⨾ the End
ItemsShape (suc n) = ItemShape ⨾ ItemsShape n

-- the text is in the bare grammar
abbrev pub IsShaped : List ℕ → Type 0
IsShaped bytes = (more : ℕ) × (rest : List ℕ) × ItemsShape more bytes rest
