-- The printed words of the reasons.
use Rattle.std.specs.Prelude.{ℕ, List, codes}
use Rattle.gx_commands.specs.declared.command.LineWhy.{LineWhy}
use Rattle.gx_commands.specs.declared.command.LineWhy.TheVariants as why

-- the words that are printed of a reason
abbrev pub word_of : LineWhy → List ℕ
word_of why.Character = codes "character"
word_of why.TooLong = codes "too long"
word_of why.Quote = codes "quote"
word_of why.Session = codes "session"
word_of why.Word = codes "word"
word_of why.File = codes "file"
word_of why.Link = codes "link"
word_of why.Field = codes "field"
word_of why.Value = codes "value"
word_of why.InTransaction = codes "in transaction"
word_of why.NoTransaction = codes "no transaction"
word_of why.OpenTransaction = codes "open transaction"
word_of why.ScriptTooLong = codes "script too long"
