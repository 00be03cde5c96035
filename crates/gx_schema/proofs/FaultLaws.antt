-- The first fault of a text.
use Rattle.std.proofs.Common.{◌≡◌, ℕ, zero, suc, cond, eqb, leb, List, [], ◌∷◌, ◌++◌, length, Option, Some, None, Result, Ok, Err, refl, subst, inl, inr, arith}
use Rattle.std.specs.Prelude.{nat_eq, codes}
use Rattle.std.specs.Cmp.Lexicographic.{pointwise}
use Rattle.std.proofs.lemmas.Bool.{cond_both}
use Rattle.gx_tokens.specs.declared.fault.Fault.{Fault}
use Rattle.gx_tokens.specs.declared.why.Why.{Why}
use Rattle.gx_tokens.specs.declared.why.Why.TheVariants as why
use Rattle.gx_tokens.specs.Faults.{IsRule}
use Rattle.gx_tokens.specs.Grammar.{the}
use Rattle.gx_tokens.specs.Lexemes.{Lexeme, Word, Number, Quoted, Open, Close, Comma, Equals, End}
use Rattle.gx_tokens.specs.Lines.{line_of}
use Rattle.gx_tokens.specs.Locality.{IsProper, IsInhabited, IsFront, HasReason, FaultBehind, Takes, Outcome}
use Rattle.gx_tokens.specs.Reading.{◌>>=◌, map_ok, want}
use Rattle.gx_tokens.specs.Spelling.{Lexes}
use Rattle.gx_tokens.proofs.CauseLaws.{first_fault_of}
use Rattle.gx_tokens.proofs.LocalLaws.{some_token, proper_token, takes_token, want_fault, front_none, text_behind, later_fault, first_fault, both_take, local_map, some_both}
use Rattle.gx_tokens.proofs.ReadingLaws.{want_ok}
use Rattle.gx_tokens.proofs.LocalTokens.{the_end}
use Rattle.gx_schema.specs.declared.schema.Schema.{Schema}
use Rattle.gx_schema.specs.declared.item.Item.{Item}
use Rattle.gx_schema.specs.declared.item.Item.TheVariants as items
use Rattle.gx_schema.specs.Faults.{IsFirstFault}
use Rattle.gx_schema.specs.Grammar.{IsSchemaText}
use Rattle.gx_schema.specs.Items.{with_item, no_schema}
use Rattle.gx_schema.specs.Reading.{Start, Starts_file, Starts_link, Ends, an_item_start, as_file, as_link, file_behind, link_behind, item_from, item_at, no_more_items, items_behind, all_items}
use Rattle.gx_schema.specs.Shape.{FileShape, LinkShape, ItemShape, IsShaped}
use Rattle.gx_schema.proofs.LocalReaders.{some_file_shape, local_file, local_link}
use Rattle.gx_schema.proofs.ShapeRules.{shaped}
use Rattle.gx_schema.proofs.TextAgain.{items_read}
use Rattle.gx_schema.proofs.TextFound.{StartIs, start_case}

-- ---- the next file or link

start_reason : (s : Schema) (t : Lexeme) → HasReason t (an_item_start s t)
start_reason s (Word w) =
    cond_both (pointwise nat_eq w (codes "file"))
    (cond (leb 32 (length s.files)) (Err why.Count) (Ok Starts_file))
    (cond (pointwise nat_eq w (codes "link"))
    (cond (leb 32 (length s.links)) (Err why.Count) (Ok Starts_link)) (Err why.Unexpected))
    (HasReason (Word w))
    (λ _. cond_both (leb 32 (length s.files)) (Err why.Count) (Ok Starts_file) (HasReason (Word w))
    (λ _. tt) (λ _. tt))
    (λ _. cond_both (pointwise nat_eq w (codes "link"))
    (cond (leb 32 (length s.links)) (Err why.Count) (Ok Starts_link)) (Err why.Unexpected)
    (HasReason (Word w))
    (λ _. cond_both (leb 32 (length s.links)) (Err why.Count) (Ok Starts_link) (HasReason (Word w))
    (λ _. tt) (λ _. tt))
    (λ _ e. absurd cc))
start_reason s (Number w) = λ e. absurd cc
start_reason s (Quoted w) = λ e. absurd cc
start_reason s Open = λ e. absurd cc
start_reason s Close = λ e. absurd cc
start_reason s Comma = λ e. absurd cc
start_reason s Equals = λ e. absurd cc
start_reason s End = cond_both (eqb (length s.files) 0) (Err why.End) (Ok Ends) (HasReason End)
    (λ _. refl) (λ _. tt)

file_shape : (bytes mid rest : List ℕ) → the (Word (codes "file")) bytes mid → FileShape mid rest
    → ItemShape bytes rest
file_shape bytes mid rest word file = inl (mid, word, file)

link_shape : (bytes mid rest : List ℕ) → the (Word (codes "link")) bytes mid → LinkShape mid rest
    → ItemShape bytes rest
link_shape bytes mid rest word link = inr (mid, word, link)

file_is_word : IsProper (Word (codes "file"))
file_is_word = record {
  starts = refl;
  each = (refl, (refl, (refl, (refl, tt))));
  short = omega arith;
}

some_item : IsInhabited {A = Option Item} (λ _. ItemShape)
some_item =
    some_both {A = Unit {0}} (λ _. the (Word (codes "file"))) (λ _ _. FileShape) (λ _. ItemShape)
    (λ a b bytes mid rest f g. file_shape bytes mid rest f g)
    (some_token (λ _. the (Word (codes "file"))) tt (Word (codes "file")) file_is_word
    (λ bytes rest h. h)) (λ _. some_file_shape None)

-- what a start is, apart from how many files and links there may be
abbrev StartShape : Start → List ℕ → List ℕ → Type 0
StartShape Starts_file = the (Word (codes "file"))
StartShape Starts_link = the (Word (codes "link"))
StartShape Ends = the End

start_shape : (s : Schema) (start : Start) (bytes rest : List ℕ) → StartIs s start bytes rest
    → StartShape start bytes rest
start_shape s Starts_file bytes rest h = h.0
start_shape s Starts_link bytes rest h = h.0
start_shape s Ends bytes rest h = h.0

-- what stands behind a start that isn't the end
abbrev BehindStart : Start → Option Item → List ℕ → List ℕ → Type 0
BehindStart Starts_file o = FileShape
BehindStart Starts_link o = LinkShape
BehindStart Ends o = λ _ _. ⊥

start_joins : (start : Start) (o : Option Item) (bytes mid rest : List ℕ)
    → StartShape start bytes mid → BehindStart start o mid rest → ItemShape bytes rest
start_joins Starts_file o bytes mid rest word file = file_shape bytes mid rest word file
start_joins Starts_link o bytes mid rest word link = link_shape bytes mid rest word link
start_joins Ends o bytes mid rest word none = absurd none

-- the end starts nothing
abbrev IsSome : Start → Type 0
IsSome Starts_file = Unit {0}
IsSome Starts_link = Unit {0}
IsSome Ends = ⊥

end_is : (s : Schema) (start : Start) → IsSome start → an_item_start s End ≡ Ok start → ⊥
end_is s start some e =
    cond_both (eqb (length s.files) 0) (Err why.End) (Ok Ends)
    (λ (r : Result Start Why). r ≡ Ok start
    → ⊥) (λ _ h. cc) (λ _ h. no_end start some (ends_is start h)) e
  where
    ends_is : (start : Start) → ◌≡◌ {A = Result Start Why} (Ok Ends) (Ok start) → Ends ≡ start
    ends_is start h = cc

    no_end : (start : Start) → IsSome start → Ends ≡ start → ⊥
    no_end start some e = subst (λ (z : Start). IsSome z → ⊥) e (λ none. none) some

start_takes : (s : Schema) (bytes : List ℕ) (y : Start × List ℕ) → IsSome y.0
    → want (an_item_start s) bytes ≡ Ok y → Takes (want (an_item_start s)) StartShape bytes y
start_takes s bytes y some e =
    let w = want_ok (an_item_start s) bytes y e in
    takes_token (an_item_start s) StartShape bytes w.token y.0 y.1
    (proper_token (an_item_start s) w.token y.0 (end_is s y.0 some) w.is w.first.begins.is_token)
    w.is
    (λ b r h. start_shape s y.0 b r (start_case s b w.token r y.0 h w.is)) w.first

-- how the next file or link is read: the end may be read so too, of which nothing is said
abbrev ItemOutcome : Schema → List ℕ → Result (Option Item × List ℕ) Fault → Type 0
ItemOutcome s bytes (Ok (Some i, rest)) = Takes (item_at s) (λ _. ItemShape) bytes (Some i, rest)
ItemOutcome s bytes (Ok (None, rest)) = Unit {0}
ItemOutcome s bytes (Err f) = (before : List Lexeme) × FaultBehind (item_at s) bytes f before
    × IsFront {A = Option Item} (λ _. ItemShape) before

item_outcome : (s : Schema) (bytes : List ℕ) (r : Result (Option Item × List ℕ) Fault)
    → Outcome (item_at s) (λ _. ItemShape) bytes r → ItemOutcome s bytes r
item_outcome s bytes (Ok (Some i, rest)) t = t
item_outcome s bytes (Ok (None, rest)) t = tt
item_outcome s bytes (Err f) t = t

item_by : (s : Schema) (bytes : List ℕ) (w : Result (Start × List ℕ) Fault)
    → want (an_item_start s) bytes ≡ w
    → ItemOutcome s bytes (w >>= λ start. item_from s start.0 start.1)
unfolding item_at
item_by s bytes (Err f) e = (
  [],
  first_fault (want (an_item_start s)) (λ start. item_from s start.0 start.1) bytes f []
      (want_fault (an_item_start s) bytes f (start_reason s) e),
  front_none (λ _. ItemShape) some_item,
)
item_by s bytes (Ok (Ends, rest)) e = tt
item_by s bytes (Ok (Starts_file, rest)) e =
    let r = map_ok as_file (file_behind s rest) in
    item_outcome s bytes r
    (both_take (want (an_item_start s)) (item_from s) StartShape BehindStart (λ _. ItemShape) bytes
    (Starts_file, rest) r start_joins (start_takes s bytes (Starts_file, rest) tt e)
    (local_map (λ x. Some (items.File x)) (file_behind s) (λ _. FileShape) (λ _. FileShape)
    (λ x b c h. h) (local_file s) rest))
item_by s bytes (Ok (Starts_link, rest)) e =
    let r = map_ok as_link (link_behind s rest) in
    item_outcome s bytes r
    (both_take (want (an_item_start s)) (item_from s) StartShape BehindStart (λ _. ItemShape) bytes
    (Starts_link, rest) r start_joins (start_takes s bytes (Starts_link, rest) tt e)
    (local_map (λ x. Some (items.Link x)) (link_behind s) (λ _. LinkShape) (λ _. LinkShape)
    (λ x b c h. h) (local_link s) rest))

local_item : (s : Schema) (bytes : List ℕ) → ItemOutcome s bytes (item_at s bytes)
unfolding item_at
local_item s bytes = item_by s bytes (want (an_item_start s) bytes) refl

-- ---- all of the text

-- some text of files and links begins with these tokens
abbrev IsItemsFront : List Lexeme → Type 0
IsItemsFront before = (text : List ℕ) × (mid : List ℕ) × Lexes (32 ∷ text) before mid
    × IsShaped (32 ∷ text)

-- one more item may follow, and then the end
front_item : (before : List Lexeme) → IsFront {A = Option Item} (λ _. ItemShape) before
    → IsItemsFront before
front_item before f = let g = f.1 [] in (g.0, g.1, g.2, (0, [], (32 ∷ [], g.3, the_end)))

front_items : (s : Schema) (bytes : List ℕ) (y : Option Item × List ℕ) (before : List Lexeme)
    → (t : Takes (item_at s) (λ _. ItemShape) bytes y) → IsItemsFront before
    → IsItemsFront (t.taken ++ before)
front_items s bytes y before t f =
    let w = text_behind (item_at s) (λ _. ItemShape) bytes y before f.0 f.1 t f.2 in
    (w.whole, f.1, w.lexed, (suc f.3.0, f.3.1, (32 ∷ f.0, w.shaped, f.3.2)))

-- a fault behind tokens that begin some text
abbrev FaultInFront : (List ℕ → Result Schema Fault) → List ℕ → Fault → Type 0
FaultInFront reader bytes f = (before : List Lexeme) × FaultBehind reader bytes f before
    × IsItemsFront before

abbrev after_item : ℕ → Schema → Option Item → List ℕ → Result Schema Fault
after_item room s o b = elim o [ None ↦ Ok s | Some item ↦ items_behind room (with_item s item) b ]

items_by : (room : ℕ) (s : Schema) (bytes : List ℕ) (o : Result (Option Item × List ℕ) Fault)
    (f : Fault) → ItemOutcome s bytes o
    → ((i : Item) (b : List ℕ) → items_behind room (with_item s i) b ≡ Err f
    → FaultInFront (items_behind room (with_item s i)) b f)
    → ◌≡◌ {A = Result Schema Fault} (o >>= λ x. after_item room s x.0 x.1) (Err f)
    → FaultInFront (λ b. item_at s b >>= λ x. after_item room s x.0 x.1) bytes f
items_by room s bytes (Err d) f t more e =
    let same : d ≡ f = cc in
    subst (FaultInFront (λ b. item_at s b >>= λ x. after_item room s x.0 x.1) bytes) same (
      t.0,
      first_fault (item_at s) (λ x. after_item room s x.0 x.1) bytes d t.0 t.1,
      front_item t.0 t.2,
    )
items_by room s bytes (Ok (None, rest)) f t more e = absurd cc
items_by room s bytes (Ok (Some i, rest)) f t more e =
    let g = more i rest e in (
      t.taken ++ g.0,
      later_fault (item_at s) (λ _. ItemShape) (after_item room s) bytes
          (Some i, rest) f g.0 t g.1,
      front_items s bytes (Some i, rest) g.0 t g.2,
    )

abbrev no_more_reader : List ℕ → Result (Schema × List ℕ) Fault
no_more_reader = want (λ _. Err why.Count)

no_more_fault : (bytes : List ℕ) (f : Fault) (r : Result (Schema × List ℕ) Fault)
    → no_more_reader bytes ≡ r → ◌≡◌ {A = Result Schema Fault} (r >>= λ x. Ok x.0) (Err f)
    → FaultInFront no_more_items bytes f
no_more_fault bytes f (Ok y) is e = absurd cc
no_more_fault bytes f (Err d) is e =
    let same : d ≡ f = cc in
    subst (FaultInFront no_more_items bytes) same (
      [],
      first_fault no_more_reader (λ x. Ok x.0) bytes d []
          (want_fault (λ _. Err why.Count) bytes d (λ t. tt) is),
      front_item [] (front_none (λ _. ItemShape) some_item),
    )

items_fault : (room : ℕ) (s : Schema) (bytes : List ℕ) (f : Fault)
    → items_behind room s bytes ≡ Err f
    → FaultInFront (items_behind room s) bytes f
unfolding items_behind
items_fault zero s bytes f e = no_more_fault bytes f (no_more_reader bytes) refl e
items_fault (suc room) s bytes f e =
    items_by room s bytes (item_at s bytes) f (local_item s bytes)
    (λ i b. items_fault room (with_item s i) b f) e

-- ---- the cause

read_or_not : (bytes : List ℕ) (schema : Schema) (f : Fault) → IsSchemaText bytes schema
    → all_items bytes ≡ Err f → ⊥
read_or_not bytes schema f text e = let read : all_items bytes ≡ Ok schema = items_read bytes schema
    text in cc

pub first_fault_is : (bytes : List ℕ) (f : Fault) → all_items bytes ≡ Err f
    → IsFirstFault bytes (line_of bytes f.left) f.why
first_fault_is bytes f e =
    let g = items_fault 65 no_schema bytes f e in
    let front = g.2 in
    first_fault_of all_items IsSchemaText IsShaped IsRule read_or_not shaped bytes f g.0
    (λ rule. rule) g.1 (32 ∷ front.0, front.1, front.2, front.3)
