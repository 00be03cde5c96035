-- The printed words of the reasons.
use Rattle.std.specs.Prelude.{ℕ, List, codes}
use Rattle.gx_tokens.specs.declared.why.Why.{Why}
use Rattle.gx_tokens.specs.declared.why.Why.TheVariants as why

-- the word that is printed of a reason
abbrev pub word_of : Why → List ℕ
word_of why.Token = codes "token"
word_of why.Unexpected = codes "unexpected"
word_of why.End = codes "end"
word_of why.Number = codes "number"
word_of why.Depth = codes "depth"
word_of why.NameUse = codes "name"
word_of why.KeyField = codes "key"
word_of why.Count = codes "count"
