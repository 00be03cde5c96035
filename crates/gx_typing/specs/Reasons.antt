-- The printed words of the reasons.
use Rattle.std.specs.Prelude.{ℕ, List, codes}
use Rattle.gx_typing.specs.declared.reasons.TypeWhy.{TypeWhy}
use Rattle.gx_typing.specs.declared.reasons.TypeWhy.TheVariants as why

abbrev pub words_of : TypeWhy → List ℕ
words_of why.Definition = codes "definition"
words_of why.Linkset = codes "linkset"
words_of why.FieldName = codes "field"
words_of why.FieldKind = codes "kind"
words_of why.Bounds = codes "bounds"
words_of why.Children = codes "children"
words_of why.Groups = codes "groups"
words_of why.OneBytes = codes "one bytes"
words_of why.LeafForm = codes "leaf"
words_of why.KeyLength = codes "key too long"
words_of why.EntryLength = codes "entry too long"
words_of why.Leaves = codes "leaves"
