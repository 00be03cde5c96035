-- In a text of the grammar only rules are broken.
use Rattle.std.proofs.Common.{◌≡◌, ℕ, zero, suc, Bool, false, not, ◌||◌, ◌&&◌, cond, eqb, ltb, leb, List, [], ◌∷◌, ◌++◌, length, Option, Some, None, Result, Ok, Err, refl, sym, subst, inl, inr}
use Rattle.std.specs.Prelude.{codes}
use Rattle.std.proofs.Common.{◌<◌, arith, length-append}
use Rattle.std.proofs.lemmas.Bool.{cond_both, ne_eqb}
use Rattle.gx_tokens.specs.declared.fault.Fault.{Fault}
use Rattle.gx_tokens.specs.declared.why.Why.TheVariants as why
use Rattle.gx_tokens.specs.Lexemes.{Word, Number, Open, Close, Comma, End}
use Rattle.gx_tokens.specs.Numbers.{number_value, natural_up_to}
use Rattle.gx_tokens.specs.Reading.{◌>>=◌, map_ok, met, want, an_open, a_close, a_comma, comma_or_close}
use Rattle.gx_tokens.specs.Faults.{IsRule}
use Rattle.gx_tokens.specs.Grammar.{◌⨾◌, the, ANumber}
use Rattle.gx_values.specs.declared.records.Field.{Field}
use Rattle.gx_values.specs.declared.values.Kind.TheVariants as kinds
use Rattle.gx_schema.specs.declared.schema.Schema.{Schema}
use Rattle.gx_schema.specs.declared.item.Item.{Item}
use Rattle.gx_schema.specs.declared.item.Item.TheVariants as items
use Rattle.gx_schema.specs.Items.{with_item, no_schema}
use Rattle.gx_schema.specs.Names.{starts_with_letter, has_field, has_file, has_link, file_position}
use Rattle.gx_schema.specs.Reading.{size_from, a_kind_size, size_at, kind_at, a_field_name, field_behind, fields_at, a_new_name, file_behind, number_from, a_file_name, link_behind, Starts_file, Starts_link, an_item_start, item_from, item_at, no_more_items, items_behind, all_items}
use Rattle.gx_schema.specs.Grammar.{IsItem}
use Rattle.gx_tokens.proofs.RuleLaws.{Goes, MeansOr, goes_want, goes_bind}
use Rattle.gx_tokens.proofs.TokenAgain.{first_again}
use Rattle.gx_schema.specs.Shape.{KindShape, FieldShape, FieldsShape, FileShape, LinkShape, ItemShape, ItemsShape, IsShaped}
use Rattle.gx_schema.proofs.TextFound.{item_found}

-- ---- meanings

means_size : (first : Bool) (o : Option ℕ) → MeansOr (size_from first o)
means_size first None = tt
means_size first (Some zero) = tt
means_size first (Some (suc n)) = cond_both (first && ltb 100 (suc n)) (Err why.KeyField)
    (Ok (kinds.Text (suc n))) MeansOr (λ _. tt) (λ _. tt)

means_field_name : (before : List Field) (w : List ℕ) → MeansOr (a_field_name before (Word w))
means_field_name before w =
    cond_both (not (starts_with_letter w) || has_field before w) (Err why.NameUse)
    (cond (leb 32 (length before)) (Err why.Count) (Ok w)) MeansOr (λ _. tt)
    (λ _. cond_both (leb 32 (length before)) (Err why.Count) (Ok w) MeansOr (λ _. tt) (λ _. tt))

means_new_name : (s : Schema) (w : List ℕ) → MeansOr (a_new_name s (Word w))
means_new_name s w = cond_both (not (starts_with_letter w) ||
    (has_file s.files w || has_link s.links w)) (Err why.NameUse) (Ok w) MeansOr (λ _. tt) (λ _. tt)

means_place : (o : Option ℕ) → MeansOr (number_from o)
means_place None = tt
means_place (Some n) = tt

means_file : (s : Schema) → MeansOr (an_item_start s (Word (codes "file")))
means_file s = cond_both (leb 32 (length s.files)) (Err why.Count) (Ok Starts_file) MeansOr
    (λ _. tt) (λ _. tt)

means_link : (s : Schema) → MeansOr (an_item_start s (Word (codes "link")))
means_link s = cond_both (leb 32 (length s.links)) (Err why.Count) (Ok Starts_link) MeansOr
    (λ _. tt) (λ _. tt)

-- ---- readers

goes_size : (first : Bool) (bytes rest : List ℕ) → ANumber bytes rest
    → Goes (size_at first bytes) rest
unfolding size_at
goes_size first bytes rest h =
    goes_want (a_kind_size first) bytes rest (Number h.0) h.1
    (means_size first (natural_up_to 200 (number_value h.0)))

goes_kind : (first : Bool) (bytes rest : List ℕ) → KindShape bytes rest
    → Goes (kind_at first bytes) rest
unfolding kind_at
goes_kind first bytes rest (inl h) = rw (first_again bytes (Word (codes "int")) rest h) refl
goes_kind first bytes rest (inr h) = rw (first_again bytes (Word (codes "text")) h.0 h.1)
    (goes_size first h.0 rest h.2)

goes_field : (before : List Field) (bytes rest : List ℕ) → FieldShape bytes rest
    → Goes (field_behind before bytes) rest
unfolding field_behind
goes_field before bytes rest h =
    goes_bind (want (a_field_name before) bytes)
    (λ name b. kind_at (eqb (length before) 0) b >>= λ kind. Ok
    (record { name = name; kind = kind.0 }, kind.1)) h.0 rest
    (goes_want (a_field_name before) bytes h.0 (Word h.1.0) h.1.1 (means_field_name before h.1.0))
    (λ name. goes_bind (kind_at (eqb (length before) 0) h.0)
    (λ kind b. Ok (record { name = name; kind = kind }, b)) rest rest
    (goes_kind (eqb (length before) 0) h.0 rest h.2) (λ kind. refl))

goes_none : (bytes rest : List ℕ) (name mid : List ℕ) → the (Word name) bytes mid
    → Goes (want {A = List Field} (λ _. Err why.Count) bytes) rest
goes_none bytes rest name mid h = rw (first_again bytes (Word name) mid h) tt

goes_fields : (room : ℕ) (before : List Field) (more : ℕ) (bytes rest : List ℕ)
    → (FieldsShape more ⨾ the Close) bytes rest → Goes (fields_at room before bytes) rest
unfolding fields_at
goes_fields zero before zero bytes rest h = goes_none bytes rest h.1.1.0 h.1.0 h.1.1.1
goes_fields zero before (suc more) bytes rest h = goes_none bytes rest h.1.1.1.0 h.1.1.0 h.1.1.1.1
goes_fields (suc room) before zero bytes rest h =
    goes_bind (field_behind before bytes)
    (λ field b. want comma_or_close b >>= λ more. cond more.0
    (fields_at room (before ++ field ∷ []) more.1) (Ok (before ++ field ∷ [], more.1))) h.0
    rest
    (goes_field before bytes h.0 h.1)
    (λ field. rw (first_again h.0 Close rest h.2) refl)
goes_fields (suc room) before (suc more) bytes rest h =
    goes_bind (field_behind before bytes)
    (λ field b. want comma_or_close b >>= λ more. cond more.0
    (fields_at room (before ++ field ∷ []) more.1) (Ok (before ++ field ∷ [], more.1)))
    h.1.0 rest
    (goes_field before bytes h.1.0 h.1.1)
    (λ field. rw (first_again h.1.0 Comma h.1.2.0 h.1.2.1)
    (goes_fields room (before ++ field ∷ []) more h.1.2.0 rest (h.0, h.1.2.2, h.2)))

goes_file : (s : Schema) (bytes rest : List ℕ) → FileShape bytes rest
    → Goes (file_behind s bytes) rest
unfolding file_behind
goes_file s bytes rest h =
    let o = h.2 in
    let f = o.2 in
    goes_bind (want (a_new_name s) bytes)
    (λ name b. want an_open b >>= λ opened. fields_at 33 [] opened.1 >>= λ fields. Ok
    (record { name = name; fields = fields.0 }, fields.1)) h.0 rest
    (goes_want (a_new_name s) bytes h.0 (Word h.1.0) h.1.1 (means_new_name s h.1.0))
    (λ name. rw (first_again h.0 Open o.0 o.1)
    (goes_bind (fields_at 33 [] o.0) (λ fields b. Ok (record { name = name; fields = fields }, b))
    rest rest (goes_fields 33 [] f.0 o.0 rest f.1) (λ fields. refl)))

goes_link : (s : Schema) (bytes rest : List ℕ) → LinkShape bytes rest
    → Goes (link_behind s bytes) rest
unfolding link_behind
goes_link s bytes rest h =
    let p = a_file_name s.files in
    let o = h.2 in
    let w = o.2 in
    let c = w.2 in
    let m = c.2 in
    goes_bind (want (a_new_name s) bytes)
    (λ name b. want an_open b >>= λ opened. want p opened.1 >>= λ owner. want a_comma owner.1
    >>= λ comma. want p comma.1 >>= λ member. want a_close member.1 >>= λ closed. Ok
    (record { name = name; owner = owner.0; member = member.0 }, closed.1)) h.0 rest
    (goes_want (a_new_name s) bytes h.0 (Word h.1.0) h.1.1 (means_new_name s h.1.0))
    (λ name. rw (first_again h.0 Open o.0 o.1)
    (goes_bind (want p o.0)
    (λ owner b. want a_comma b >>= λ comma. want p comma.1 >>= λ member. want a_close member.1
    >>= λ closed. Ok (record { name = name; owner = owner; member = member.0 }, closed.1))
    w.0 rest
    (goes_want p o.0 w.0 (Word w.1.0) w.1.1 (means_place (file_position s.files w.1.0)))
    (λ owner. rw (first_again w.0 Comma c.0 c.1)
    (goes_bind (want p c.0)
    (λ member b. want a_close b >>= λ closed. Ok
    (record { name = name; owner = owner; member = member }, closed.1)) m.0 rest
    (goes_want p c.0 m.0 (Word m.1.0) m.1.1 (means_place (file_position s.files m.1.0)))
    (λ member. rw (first_again m.0 Close rest m.2) refl)))))

goes_mapped : {A B : Type 0} (g : A → B) (r : Result (A × List ℕ) Fault) (rest : List ℕ)
    → Goes r rest → Goes (map_ok (λ x. (g x.0, x.1)) r) rest
goes_mapped g (Ok y) rest h = h
goes_mapped g (Err f) rest h = h

goes_item : (s : Schema) (bytes rest : List ℕ) → ItemShape bytes rest → Goes (item_at s bytes) rest
unfolding item_at
goes_item s bytes rest (inl h) =
    rw (first_again bytes (Word (codes "file")) h.0 h.1)
    (cond_both (leb 32 (length s.files)) (Err why.Count) (Ok Starts_file)
    (λ m. Goes (met bytes m h.0 >>= λ start. item_from s start.0 start.1) rest)
    (λ _. tt)
    (λ _. goes_mapped (λ x. Some (items.File x)) (file_behind s h.0) rest
    (goes_file s h.0 rest h.2)))
goes_item s bytes rest (inr h) =
    rw (first_again bytes (Word (codes "link")) h.0 h.1)
    (cond_both (leb 32 (length s.links)) (Err why.Count) (Ok Starts_link)
    (λ m. Goes (met bytes m h.0 >>= λ start. item_from s start.0 start.1) rest)
    (λ _. tt)
    (λ _. goes_mapped (λ x. Some (items.Link x)) (link_behind s h.0) rest
    (goes_link s h.0 rest h.2)))

-- ---- all of the text

abbrev GoesAll : Result Schema Fault → Type 0
GoesAll (Ok s) = Unit {0}
GoesAll (Err f) = IsRule f.why

-- a file stands where an item was read
some_file : (s : Schema) (i : Item) → IsItem s i → 0 < length (with_item s i).files
some_file s (items.File f) rules = omega (arith, length-append s.files (f ∷ []))
some_file s (items.Link l) rules = let owner = rules.owner in omega arith

abbrev after_item : ℕ → Schema → Option Item → List ℕ → Result Schema Fault
after_item room s o b = elim o [ None ↦ Ok s | Some item ↦ items_behind room (with_item s item) b ]

goes_after : (room : ℕ) (s : Schema) (bytes mid : List ℕ) (o : Result (Option Item × List ℕ) Fault)
    → item_at s bytes ≡ o → Goes o mid
    → ((i : Item) → 0 < length (with_item s i).files
    → GoesAll (items_behind room (with_item s i) mid))
    → GoesAll (o >>= λ x. after_item room s x.0 x.1)
goes_after room s bytes mid (Err f) e h more = h
goes_after room s bytes mid (Ok (None, rest)) e h more = tt
goes_after room s bytes mid (Ok (Some i, rest)) e h more =
    let found = item_found s bytes (Some i, rest) e in
    subst (λ (b : List ℕ). GoesAll (items_behind room (with_item s i) b)) (sym h)
    (more i (some_file s i found.1))

goes_end : (room : ℕ) (s : Schema) (bytes rest : List ℕ) → 0 < length s.files → the End bytes rest
    → GoesAll (items_behind room s bytes)
unfolding items_behind item_at
goes_end zero s bytes rest some h = rw (first_again bytes End rest h) tt
goes_end (suc room) s bytes rest some h =
    let filled : eqb (length s.files) 0 ≡ false = ne_eqb (length s.files) 0 (λ e. omega arith) in
    rw (first_again bytes End rest h, filled) tt

goes_stop : (bytes mid : List ℕ) → ItemShape bytes mid → GoesAll (no_more_items bytes)
goes_stop bytes mid (inl h) = rw (first_again bytes (Word (codes "file")) h.0 h.1) tt
goes_stop bytes mid (inr h) = rw (first_again bytes (Word (codes "link")) h.0 h.1) tt

goes_items : (room : ℕ) (s : Schema) (more : ℕ) (bytes rest : List ℕ) → ItemsShape more bytes rest
    → GoesAll (items_behind room s bytes)
unfolding items_behind
goes_items zero s zero bytes rest h = goes_stop bytes h.0 h.1
goes_items zero s (suc more) bytes rest h = goes_stop bytes h.0 h.1
goes_items (suc room) s zero bytes rest h =
    goes_after room s bytes h.0 (item_at s bytes) refl (goes_item s bytes h.0 h.1)
    (λ i some. goes_end room (with_item s i) h.0 rest some h.2)
goes_items (suc room) s (suc more) bytes rest h =
    goes_after room s bytes h.0 (item_at s bytes) refl (goes_item s bytes h.0 h.1)
    (λ i some. goes_items room (with_item s i) more h.0 rest h.2)

shaped_by : (r : Result Schema Fault) (f : Fault) → GoesAll r → r ≡ Err f → IsRule f.why
shaped_by (Ok s) f h e = absurd cc
shaped_by (Err d) f h e = let is : d ≡ f = cc in subst (λ (z : Fault). IsRule z.why) is h

-- in a text of the grammar only a rule can be broken
pub shaped : (bytes : List ℕ) (f : Fault) → IsShaped bytes → all_items bytes ≡ Err f → IsRule f.why
shaped bytes f h e = shaped_by (all_items bytes) f (goes_items 65 no_schema h.0 bytes h.1 h.2) e
