-- Reading from left to right, one token at a time, with the first fault that is met.
use Rattle.std.specs.Prelude.{◌≡◌, ℕ, Bool, true, false, List, length, Result, Ok, Err, ◌⊎◌}
use Rattle.gx_tokens.specs.declared.fault.Fault.{Fault}
use Rattle.gx_tokens.specs.declared.why.Why.{Why}
use Rattle.gx_tokens.specs.declared.why.Why.TheVariants as why
use Rattle.gx_tokens.specs.declared.why.Unread.{Unread}
use Rattle.gx_tokens.specs.declared.why.Unread.TheVariants as unread
use Rattle.gx_tokens.specs.declared.fault.ReadError.{ReadError}
use Rattle.gx_tokens.specs.declared.fault.ReadError.TheVariants as errors
use Rattle.gx_tokens.specs.Lexemes.{Lexeme, Word, Number, Open, Close, Comma, Equals, End, next_token, after_blanks}
use Rattle.gx_tokens.specs.Lines.{line_of}

-- the one reading, and then the other on what it left
infixl 10 ◌>>=◌
abbrev pub ◌>>=◌ : {A B : Type 0} → Result A Fault → (A → Result B Fault) → Result B Fault
(Ok x) >>= f = f x
(Err e) >>= f = Err e

-- what a call returned, with its value seen by f
abbrev pub map_ok : {X Y E : Type 0} → (X → Y) → Result X E → Result Y E
map_ok f (Ok x) = Ok (f x)
map_ok f (Err e) = Err e

-- the fault at the first token of these bytes
abbrev pub fault_at : List ℕ → Why → Fault
fault_at bytes reason = record { left = length (after_blanks false bytes); why = reason }

-- why a token is none of those that may stand at a place
abbrev pub unexpected_why : Lexeme → Why
unexpected_why End = why.End
unexpected_why other = why.Unexpected

abbrev pub unexpected : {A : Type 0} → Lexeme → Result A Why
unexpected token = Err (unexpected_why token)

-- what a token means and what follows it, or the fault at it
abbrev pub met : {A : Type 0} → List ℕ → Result A Why → List ℕ → Result (A × List ℕ) Fault
met bytes (Ok x) rest = Ok (x, rest)
met bytes (Err reason) rest = Err (fault_at bytes reason)

-- One token. What it means at its place, or the first reason why it may not stand there, is for
-- `meaning` to say.
abbrev pub want : {A : Type 0} → (Lexeme → Result A Why) → List ℕ → Result (A × List ℕ) Fault
want meaning bytes = do
  x ← next_token bytes
  met bytes (meaning x.0) x.1

-- ---- what a token means

abbrev pub word_if : {A : Type 0} → (List ℕ → Result A Why) → Lexeme → Result A Why
word_if meaning (Word text) = meaning text
word_if meaning other = unexpected other

abbrev pub number_if : {A : Type 0} → (List ℕ → Result A Why) → Lexeme → Result A Why
number_if meaning (Number text) = meaning text
number_if meaning other = unexpected other

abbrev pub a_word : Lexeme → Result (List ℕ) Why
a_word = word_if (λ word. Ok word)

abbrev pub a_number : Lexeme → Result (List ℕ) Why
a_number = number_if (λ text. Ok text)

abbrev pub an_open : Lexeme → Result (Unit {0}) Why
an_open Open = Ok tt
an_open other = unexpected other

abbrev pub a_close : Lexeme → Result (Unit {0}) Why
a_close Close = Ok tt
a_close other = unexpected other

abbrev pub a_comma : Lexeme → Result (Unit {0}) Why
a_comma Comma = Ok tt
a_comma other = unexpected other

abbrev pub an_equals : Lexeme → Result (Unit {0}) Why
an_equals Equals = Ok tt
an_equals other = unexpected other

-- whether a list goes on, behind one of its items
abbrev pub comma_or_close : Lexeme → Result Bool Why
comma_or_close Comma = Ok true
comma_or_close Close = Ok false
comma_or_close other = unexpected other

-- ---- what a call answers

-- the error is what reading gives, or there was no memory
abbrev pub Fails : {Y : Type 0} → ReadError → Result Y Fault → Type 0
Fails errors.NoMemory reading = Unit {0}
Fails (errors.Bad fault) reading = reading ≡ Err fault

-- what a call returned, with its value seen by view, is what reading gives, or there was no memory
abbrev pub Gives : {X Y : Type 0} → (X → Y) → Result X ReadError → Result Y Fault → Type 0
Gives view (Ok x) reading = reading ≡ Ok (view x)
Gives view (Err error) reading = Fails error reading

-- a fault of the text by its line
abbrev pub bad_of : List ℕ → Fault → Unread
bad_of bytes fault = unread.Bad (line_of bytes fault.left) fault.why

abbrev pub unread_of : List ℕ → ReadError → Unread
unread_of bytes errors.NoMemory = unread.NoMemory
unread_of bytes (errors.Bad fault) = bad_of bytes fault

-- what reading gives, with the line of a fault
abbrev pub with_fault_line : {A : Type 0} → List ℕ → Result A Fault → Result A Unread
with_fault_line bytes (Ok x) = Ok x
with_fault_line bytes (Err fault) = Err (bad_of bytes fault)

-- the call answered this, or there was no memory
abbrev pub IsUnlessNoMemory : {X : Type 0} → Result X Unread → Result X Unread → Type 0
IsUnlessNoMemory result answer = (result ≡ answer) ⊎ (result ≡ Err unread.NoMemory)
