-- The tokens of a text, one after another.
use Rattle.std.specs.Prelude.{ℕ, ◌+◌, ◌-◌, Bool, true, false, not, ◌&&◌, ◌||◌, List, [], ◌∷◌, length, take, drop, Option, Some, None, Result, Ok, Err, nat_lt, nat_le, ◌==◌, if◌then◌else◌, option_map}
use Rattle.std.specs.List.{prefix_len}
pub use Rattle.gx_laws.specs.Bytes.{is_printable}
use Rattle.gx_tokens.specs.declared.fault.Fault.{Fault}
use Rattle.gx_tokens.specs.declared.why.Why.TheVariants as why
use Rattle.gx_tokens.specs.declared.token.Token.{Token}
use Rattle.gx_tokens.specs.declared.token.Token.TheVariants as tokens

-- a token as it is spelled: a number with its sign, a quoted text without the quotes around it
pub data Lexeme : Type 0 where
  Word : (text : List ℕ) → Lexeme
  Number : (text : List ℕ) → Lexeme
  Quoted : (text : List ℕ) → Lexeme
  Open : Lexeme
  Close : Lexeme
  Comma : Lexeme
  Equals : Lexeme
  End : Lexeme

-- a token without where its bytes lie
abbrev pub lexeme_of : Token → Lexeme
lexeme_of (tokens.Word text) = Word text.now
lexeme_of (tokens.Number text) = Number text.now
lexeme_of (tokens.Quoted text) = Quoted text.now
lexeme_of tokens.Open = Open
lexeme_of tokens.Close = Close
lexeme_of tokens.Comma = Comma
lexeme_of tokens.Equals = Equals
lexeme_of tokens.End = End

-- ---- bytes

-- space, tab, CR or LF
abbrev pub is_blank : ℕ → Bool
is_blank b = b == 32 || b == 9 || b == 13 || b == 10

abbrev pub is_digit : ℕ → Bool
is_digit b = nat_le 48 b && nat_le b 57

-- a letter or `_`
abbrev pub is_word_start : ℕ → Bool
is_word_start b = (nat_le 97 b && nat_le b 122) || b == 95

-- a letter, `_` or a digit
abbrev pub is_word_byte : ℕ → Bool
is_word_byte b = (nat_le 97 b && nat_le b 122) || b == 95 || is_digit b

-- ---- the parts of a text

-- what follows blanks and comments; the flag says that a comment has begun
abbrev pub after_blanks : Bool → List ℕ → List ℕ
after_blanks in_comment [] = []
after_blanks true (b ∷ bs) = after_blanks (not (b == 10)) bs
after_blanks false (b ∷ bs) =
    if b == 35 then after_blanks true bs else (if is_blank b then after_blanks false bs else b ∷ bs)

-- a word or a number that stands right before would go on
abbrev pub continues_run : List ℕ → Bool
continues_run [] = false
continues_run (b ∷ bs) = is_word_byte b || b == 45

-- the word at the front, and what follows it
abbrev pub split_word : List ℕ → Option (List ℕ × List ℕ)
split_word bytes =
    let len = prefix_len is_word_byte bytes in
    if nat_lt 16 len || continues_run (drop len bytes) then None
    else Some (take len bytes, drop len bytes)

abbrev pub sign_len : List ℕ → ℕ
sign_len [] = 0
sign_len (b ∷ bs) = if b == 45 then 1 else 0

-- the number at the front whose sign has so many bytes, and what follows it
abbrev pub split_digits : ℕ → List ℕ → Option (List ℕ × List ℕ)
split_digits sign bytes =
    let digits = prefix_len is_digit (drop sign bytes) in
    let len = sign + digits in
    if digits == 0 || continues_run (drop len bytes) then None
    else Some (take len bytes, drop len bytes)

-- the number at the front, and what follows it
abbrev pub split_number : List ℕ → Option (List ℕ × List ℕ)
split_number bytes = split_digits (sign_len bytes) bytes

-- what follows the first quote, where all bytes before it are printable
abbrev pub after_quote : List ℕ → Option (List ℕ)
after_quote [] = None
after_quote (b ∷ bs) =
    if b == 34 then Some bs else (if is_printable b then after_quote bs else None)

-- what follows the second quote of a pair, where the first one stands right before
abbrev pub after_second : List ℕ → Option (List ℕ)
after_second [] = None
after_second (b ∷ bs) = if b == 34 then Some bs else None

-- what follows the quote that ends a quoted text; the flag says that a quote with no second one has
-- just come
abbrev pub after_quoted : Bool → List ℕ → Option (List ℕ)
after_quoted true [] = Some []
after_quoted false [] = None
after_quoted true (b ∷ bs) = if b == 34 then after_quoted false bs else Some (b ∷ bs)
after_quoted false (b ∷ bs) =
    if b == 34 then after_quoted true bs
    else (if is_printable b then after_quoted false bs else None)

-- the quoted text at the front, whose first quote stands before it, and what follows its last quote
abbrev pub split_quoted : List ℕ → Option (List ℕ × List ℕ)
split_quoted bytes =
    option_map (λ rest. (take (length bytes - length rest - 1) bytes, rest))
    (after_quoted false bytes)

-- ---- the first token

-- the token that a text is at the front, or the fault that there is none
abbrev pub token_or : (List ℕ → Lexeme) → ℕ → Option (List ℕ × List ℕ)
    → Result (Lexeme × List ℕ) Fault
token_or kind left None = Err (record { left = left; why = why.Token })
token_or kind left (Some x) = Ok (kind x.0, x.1)

-- the first token of a text with no blank or comment before it, and what follows it
abbrev pub token_here : List ℕ → Result (Lexeme × List ℕ) Fault
token_here [] = Ok (End, [])
token_here (b ∷ bs) =
    if b == 40 then Ok (Open, bs)
    else (if b == 41 then Ok (Close, bs)
    else (if b == 44 then Ok (Comma, bs)
    else (if b == 61 then Ok (Equals, bs)
    else (if b == 34 then token_or Quoted (length (b ∷ bs)) (split_quoted bs)
    else (if is_word_start b then token_or Word (length (b ∷ bs)) (split_word (b ∷ bs))
    else token_or Number (length (b ∷ bs)) (split_number (b ∷ bs)))))))

-- the first token of a text, and what follows it
abbrev pub next_token : List ℕ → Result (Lexeme × List ℕ) Fault
next_token bytes = token_here (after_blanks false bytes)
