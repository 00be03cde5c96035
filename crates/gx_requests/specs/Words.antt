-- The words of the command line.
use Rattle.std.specs.Prelude.{◌≡◌, ℕ, ◌<◌, ◌≤◌, ◌^◌, List, [], ◌∷◌, length, map, Bool, true, false, ◌==◌, codes, String, string_bytes}
use Rattle.gx_tokens.specs.Numbers.{are_digits, digits_value}
use Rattle.gx_requests.specs.declared.words.Request.{Request}
use Rattle.gx_requests.specs.declared.words.Request.TheVariants as request

-- the bytes of each word
abbrev pub texts_of : {Z : Type 0} → List (String Z) → List (List ℕ)
texts_of = map (λ word. string_bytes word)

-- what is asked of two texts: to be checked, or that the script is played or explained under them;
-- on a device that is made, whose blocks a word counts, or that is there and is played on, with
-- lines or with turns of several sessions, or inspected; or that so many records of the workload
-- are played on a device that is made
pub data Action : Type 0 where
  checking : Action
  trying : Action
  explaining : Action
  making : List ℕ → List ℕ → Action
  running : List ℕ → Action
  sharing : List ℕ → Action
  inspecting : List ℕ → Action
  working : List ℕ → List ℕ → List ℕ → Action

abbrev pub word_of : Action → List ℕ
word_of checking = codes "check"
word_of trying = codes "try"
word_of explaining = codes "explain"
word_of (making device blocks) = codes "make"
word_of (running device) = codes "run"
word_of (sharing device) = codes "share"
word_of (inspecting device) = codes "inspect"
word_of (working device blocks records) = codes "work"

-- The name of the schema stands first. The workload has its own schema, which no word names.
abbrev pub with_schema : Action → List ℕ → List (List ℕ) → List (List ℕ)
with_schema (working device blocks records) schema words = words
with_schema a schema words = schema ∷ words

-- the words behind those of the texts
abbrev pub more_words : Action → List (List ℕ)
more_words checking = []
more_words trying = []
more_words explaining = []
more_words (making device blocks) = device ∷ blocks ∷ []
more_words (running device) = device ∷ []
more_words (sharing device) = device ∷ []
more_words (inspecting device) = device ∷ []
more_words (working device blocks records) = device ∷ blocks ∷ records ∷ []

-- `check SCHEMA EQUATION`, `try SCHEMA EQUATION`, `explain SCHEMA EQUATION`, `make SCHEMA EQUATION
-- DEVICE BLOCKS`, `run SCHEMA EQUATION DEVICE`, `share SCHEMA EQUATION DEVICE`, `inspect SCHEMA
-- EQUATION DEVICE` or `work EQUATION DEVICE BLOCKS RECORDS`
abbrev pub request_words : Action → List ℕ → List ℕ → List (List ℕ)
request_words a schema equation = word_of a ∷ with_schema a schema (equation ∷ more_words a)

abbrev pub has_sign : List ℕ → Bool
has_sign [] = false
has_sign (b ∷ bs) = b == 45

-- one to ten digits that are a number of 32 bits; some of them may be leading zeros
pub record IsCount (word : List ℕ) (n : ℕ) : Type 0 where
  pub digits : are_digits word ≡ true
  pub few : length word ≤ 10
  pub value_is : digits_value word ≡ n
  pub small : n < 2 ^ 32

-- such a number of records, of which a workload has 10,000 at most
pub record IsRecordCount (word : List ℕ) (n : ℕ) : Type 0 where
  pub count : IsCount word n
  pub few : n ≤ 10000

-- the words for the blocks and for the records are such numbers
abbrev pub IsCounted : Action → Type 0
IsCounted checking = Unit {0}
IsCounted trying = Unit {0}
IsCounted explaining = Unit {0}
IsCounted (making device blocks) = (n : ℕ) × IsCount blocks n
IsCounted (running device) = Unit {0}
IsCounted (sharing device) = Unit {0}
IsCounted (inspecting device) = Unit {0}
IsCounted (working device blocks records) =
    ((n : ℕ) × IsCount blocks n) × ((n : ℕ) × IsRecordCount records n)

-- the two words are no numbers of blocks and of records
abbrev pub AreNoCounts : List ℕ → List ℕ → Type 0
AreNoCounts blocks records = (n k : ℕ) → IsCount blocks n → ¬ IsRecordCount records k

-- five words of which the first is this are no request for want of a number
pub record NoCounts (word third fourth : List ℕ) : Type 0 where
  pub make : word ≡ codes "make" → (n : ℕ) → ¬ IsCount fourth n
  pub work : word ≡ codes "work" → AreNoCounts third fourth

-- the same of a request that names both texts
abbrev pub IsCountedOfTwo : Action → Type 0
IsCountedOfTwo (working device blocks records) = ⊥
IsCountedOfTwo a = IsCounted a

-- the same of a request that names the equation alone
abbrev pub IsCountedOfOne : Action → Type 0
IsCountedOfOne (working device blocks records) = IsCounted (working device blocks records)
IsCountedOfOne a = ⊥

-- the words ask for this of two texts of these names
abbrev pub AskOfTwo : List ℕ → List ℕ → List (List ℕ) → Action → Type 0
AskOfTwo schema equation words a = IsCountedOfTwo a × (words ≡ request_words a schema equation)

-- they ask for it of an equation of this name alone
abbrev pub AskOfOne : List ℕ → List (List ℕ) → Action → Type 0
AskOfOne equation words a = IsCountedOfOne a × (words ≡ request_words a [] equation)

-- the words are this request
abbrev pub IsRequest : List (List ℕ) → Request → Type 0
IsRequest words (request.Check schema equation) =
    words ≡ request_words checking schema.now equation.now
IsRequest words (request.Try schema equation) = words ≡ request_words trying schema.now equation.now
IsRequest words (request.Explain schema equation) =
    words ≡ request_words explaining schema.now equation.now
IsRequest words (request.Make schema equation device blocks) =
    (digits : List ℕ) × IsCount digits blocks
    × (words ≡ request_words (making device.now digits) schema.now equation.now)
IsRequest words (request.Run schema equation device) =
    words ≡ request_words (running device.now) schema.now equation.now
IsRequest words (request.Share schema equation device) =
    words ≡ request_words (sharing device.now) schema.now equation.now
IsRequest words (request.Inspect schema equation device) =
    words ≡ request_words (inspecting device.now) schema.now equation.now
IsRequest words (request.Work equation device blocks records) =
    (digits : List ℕ) × (number : List ℕ) × IsCount digits blocks × IsRecordCount number records
    × (words ≡ request_words (working device.now digits number) [] equation.now)
