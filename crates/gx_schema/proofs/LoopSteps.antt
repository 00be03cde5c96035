-- Steps of the loops.
use Rattle.std.proofs.Common.{◌≡◌, ℕ, suc, ◌+◌, ◌-◌, ◌<◌, ◌≤◌, true, false, List, [], ◌∷◌, ◌++◌, length, Result, Ok, Err, refl, sym, ◌∙◌, arith, length-append}
use Rattle.std.proofs.Common.{Some, None}
use Rattle.gx_tokens.specs.declared.fault.Fault.{Fault}
use Rattle.gx_tokens.specs.declared.fault.ReadError.{ReadError}
use Rattle.gx_tokens.specs.declared.fault.ReadError.TheVariants as errors
use Rattle.gx_tokens.specs.Reading.{Fails, want, comma_or_close}
use Rattle.gx_values.specs.declared.records.Field.{Field}
use Rattle.gx_schema.specs.declared.schema.Schema.{Schema}
use Rattle.gx_schema.specs.declared.item.Item.{Item}
use Rattle.gx_schema.specs.declared.item.Item.TheVariants as items
use Rattle.gx_schema.specs.Items.{with_item, HasRoom, room_left}
use Rattle.gx_schema.specs.Reading.{field_behind, fields_at, item_at, items_behind}

pub fields_go_on : (before : List Field) (bytes : List ℕ) (field : Field) (after rest : List ℕ)
    (total : Result (List Field × List ℕ) Fault) → length before < 33
    → field_behind before bytes ≡ Ok (field, after) → want comma_or_close after ≡ Ok (true, rest)
    → fields_at (33 - length before) before bytes ≡ total
    → fields_at (33 - length (before ++ field ∷ [])) (before ++ field ∷ []) rest ≡ total
unfolding fields_at
fields_go_on before bytes field after rest total lt h more so_far =
    let k : 33 - length before ≡ suc (33 - length (before ++ field ∷ [])) =
    omega (arith, length-append before (field ∷ [])) in
    let one : fields_at (33 - length before) before bytes ≡ fields_at
    (33 - length (before ++ field ∷ [])) (before ++ field ∷ []) rest = rw (k, h, more) refl in
    sym one ∙ so_far

pub fields_end : (before : List Field) (bytes : List ℕ) (field : Field) (after rest : List ℕ)
    (total : Result (List Field × List ℕ) Fault) → length before < 33
    → field_behind before bytes ≡ Ok (field, after) → want comma_or_close after ≡ Ok (false, rest)
    → fields_at (33 - length before) before bytes ≡ total
    → total ≡ Ok (before ++ field ∷ [], rest)
unfolding fields_at
fields_end before bytes field after rest total lt h more so_far =
    let k : 33 - length before ≡ suc (32 - length before) = omega arith in
    let one : fields_at (33 - length before) before bytes ≡ Ok (before ++ field ∷ [], rest) =
    rw (k, h, more) refl in
    sym so_far ∙ one

pub field_fails : (before : List Field) (bytes : List ℕ) (f : Fault)
    (total : Result (List Field × List ℕ) Fault) → length before < 33
    → field_behind before bytes ≡ Err f → fields_at (33 - length before) before bytes ≡ total
    → total ≡ Err f
unfolding fields_at
field_fails before bytes f total lt h so_far =
    let k : 33 - length before ≡ suc (32 - length before) = omega arith in
    let one : fields_at (33 - length before) before bytes ≡ Err f = rw (k, h) refl in
    sym so_far ∙ one

pub more_fails : (before : List Field) (bytes : List ℕ) (field : Field) (after : List ℕ) (f : Fault)
    (total : Result (List Field × List ℕ) Fault) → length before < 33
    → field_behind before bytes ≡ Ok (field, after) → want comma_or_close after ≡ Err f
    → fields_at (33 - length before) before bytes ≡ total → total ≡ Err f
unfolding fields_at
more_fails before bytes field after f total lt h more so_far =
    let k : 33 - length before ≡ suc (32 - length before) = omega arith in
    let one : fields_at (33 - length before) before bytes ≡ Err f = rw (k, h, more) refl in
    sym so_far ∙ one

-- the counts after one more file or link
pub record OneMore (s : Schema) (item : Item) : Type 0 where
  pub files : length (with_item s item).files ≤ 32
  pub links : length (with_item s item).links ≤ 32
  pub room : room_left s ≡ suc (room_left (with_item s item))

pub one_more : (s : Schema) (item : Item) → length s.files ≤ 32 → length s.links ≤ 32
    → HasRoom s item → OneMore s item
one_more s (items.File file) files links room =
    let n = length-append s.files (file ∷ []) in
    record { files = omega (arith, n); links = links; room = omega (arith, n) }
one_more s (items.Link link) files links room =
    let n = length-append s.links (link ∷ []) in
    record { files = files; links = omega (arith, n); room = omega (arith, n) }

pub items_go_on : (s : Schema) (bytes : List ℕ) (item : Item) (rest : List ℕ)
    (total : Result Schema Fault) → room_left s ≡ suc (room_left (with_item s item))
    → item_at s bytes ≡ Ok (Some item, rest) → items_behind (room_left s) s bytes ≡ total
    → items_behind (room_left (with_item s item)) (with_item s item) rest ≡ total
unfolding items_behind
items_go_on s bytes item rest total k h so_far =
    let one : items_behind (room_left s) s bytes ≡ items_behind (room_left (with_item s item))
    (with_item s item) rest = rw (k, h) refl in
    sym one ∙ so_far

pub items_end : (s : Schema) (bytes rest : List ℕ) (total : Result Schema Fault)
    → length s.files ≤ 32 → length s.links ≤ 32
    → item_at s bytes ≡ Ok (None, rest) → items_behind (room_left s) s bytes ≡ total → total ≡ Ok s
unfolding items_behind
items_end s bytes rest total files links h so_far =
    let k : room_left s ≡ suc (64 - (length s.files + length s.links)) = omega arith in
    let one : items_behind (room_left s) s bytes ≡ Ok s = rw (k, h) refl in
    sym so_far ∙ one

pub item_fails : (s : Schema) (bytes : List ℕ) (e : ReadError) (total : Result Schema Fault)
    → length s.files ≤ 32 → length s.links ≤ 32
    → Fails e (item_at s bytes) → items_behind (room_left s) s bytes ≡ total → Fails e total
unfolding items_behind
item_fails s bytes errors.NoMemory total files links h so_far = tt
item_fails s bytes (errors.Bad f) total files links h so_far =
    let k : room_left s ≡ suc (64 - (length s.files + length s.links)) = omega arith in
    let one : items_behind (room_left s) s bytes ≡ Err f = rw (k, h) refl in
    sym so_far ∙ one
