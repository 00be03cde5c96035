-- What is in the grammar, and breaks no rule, is read.
use Rattle.std.proofs.Common.{◌≡◌, ℕ, zero, suc, ◌+◌, ◌<◌, ◌≤◌, Bool, true, false, ◌&&◌, eqb, ltb, leb, List, [], ◌∷◌, ◌++◌, length, Some, None, Ok, refl, sym, ap, subst, ◌∙◌, append_assoc, length-append, arith}
use Rattle.std.specs.Prelude.{codes}
use Rattle.std.proofs.lemmas.Bool.{le-ltb, lt-leb, ne_eqb}
use Rattle.gx_tokens.specs.Lexemes.{Word, Number, Open, Close, Comma, End}
use Rattle.gx_tokens.specs.Numbers.{number_value, natural_up_to}
use Rattle.gx_tokens.specs.Reading.{want}
use Rattle.gx_tokens.specs.Grammar.{◌⨾◌, the}
use Rattle.gx_values.specs.declared.records.Field.{Field}
use Rattle.gx_values.specs.declared.values.Kind.{Kind}
use Rattle.gx_values.specs.declared.values.Kind.TheVariants as kinds
use Rattle.gx_schema.specs.declared.schema.Schema.{Schema}
use Rattle.gx_schema.specs.declared.schema.FileDef.{FileDef}
use Rattle.gx_schema.specs.declared.schema.LinkDef.{LinkDef}
use Rattle.gx_schema.specs.declared.item.Item.{Item}
use Rattle.gx_schema.specs.declared.item.Item.TheVariants as items
use Rattle.gx_schema.specs.Items.{with_item, with_items, no_schema}
use Rattle.gx_schema.specs.Names.{starts_with_letter, has_field, has_file, has_link}
use Rattle.gx_schema.specs.Rules.{IsName, IsKind, IsField, AreFields, IsFile, IsLink}
use Rattle.gx_schema.specs.Reading.{size_from, size_at, a_kind, kind_at, a_field_name, field_behind, fields_at, a_new_name, file_behind, number_from, a_file_name, link_behind, Starts_file, Starts_link, Ends, an_item_start, item_at, items_behind, all_items}
use Rattle.gx_schema.specs.Grammar.{KindSizeText, KindText, FieldText, FieldsText, FileNameText, ItemText, ItemsToEnd, IsItem, AreItems, IsSchemaText}
use Rattle.gx_tokens.proofs.ReadingLaws.{want_again, open_again, close_again, comma_again, goes_on_again, ends_again}

key_small : (first : Bool) (n : ℕ) → (first ≡ true → n ≤ 100) → (first && ltb 100 n) ≡ false
key_small true n h = le-ltb 100 n (h refl)
key_small false n h = refl

size_is : (first : Bool) (n : ℕ) (digits : List ℕ)
    → natural_up_to 200 (number_value digits) ≡ Some n → IsKind first (kinds.Text n)
    → size_from first (natural_up_to 200 (number_value digits)) ≡ Ok (kinds.Text n)
size_is first zero digits is fits = let some = fits.0 in absurd (omega arith)
size_is first (suc n) digits is fits = let small = key_small first (suc n) fits.2 in
    rw (is, small) refl

size_again : (first : Bool) (n : ℕ) (bytes rest : List ℕ) → KindSizeText n bytes rest
    → IsKind first (kinds.Text n) → size_at first bytes ≡ Ok (kinds.Text n, rest)
unfolding size_at
size_again first n bytes rest h fits =
    want_again _ bytes rest (Number h.0) (kinds.Text n) h.2 (size_is first n h.0 h.1 fits)

kind_again : (first : Bool) (k : Kind) (bytes rest : List ℕ) → KindText k bytes rest
    → IsKind first k → kind_at first bytes ≡ Ok (k, rest)
unfolding kind_at
kind_again first kinds.Int bytes rest h fits = rw
    (want_again a_kind bytes rest (Word (codes "int")) false h refl) refl
kind_again first (kinds.Text n) bytes rest h fits =
    rw (want_again a_kind bytes h.0 (Word (codes "text")) true h.1 refl)
    (size_again first n h.0 rest h.2 fits)
kind_again first (kinds.Bytes n) bytes rest h fits = absurd h

name_again : (before : List Field) (w bytes rest : List ℕ) → the (Word w) bytes rest
    → starts_with_letter w ≡ true → has_field before w ≡ false → length before < 32
    → want (a_field_name before) bytes ≡ Ok (w, rest)
name_again before w bytes rest h letter new room =
    let open_room : leb 32 (length before) ≡ false = lt-leb 32 (length before) room in
    want_again (a_field_name before) bytes rest (Word w) w h (rw (letter, new, open_room) refl)

field_again : (before : List Field) (f : Field) (bytes rest : List ℕ) → FieldText f bytes rest
    → IsField before f → field_behind before bytes ≡ Ok (f, rest)
unfolding field_behind
field_again before f bytes rest h rules =
    rw (
      name_again before f.name bytes h.0 h.1 rules.name.letter rules.new rules.room,
      kind_again (eqb (length before) 0) f.kind h.0 rest h.2 rules.kind,
    ) refl

fields_again : (room : ℕ) (before more : List Field) (bytes rest : List ℕ)
    → length before + room ≡ 33 → (FieldsText more ⨾ the Close) bytes rest → AreFields before more
    → fields_at room before bytes ≡ Ok (before ++ more, rest)
unfolding fields_at
fields_again room before [] bytes rest k h rules = absurd h.1
fields_again zero before (f ∷ more) bytes rest k h rules = let r = rules.0.room in
    absurd (omega arith)
fields_again (suc room) before (f ∷ []) bytes rest k h rules =
    rw (field_again before f bytes h.0 h.1 rules.0, ends_again h.0 rest h.2) refl
fields_again (suc room) before (f ∷ g ∷ more) bytes rest k h rules =
    let ih = fields_again room (before ++ f ∷ []) (g ∷ more) h.1.2.0 rest
    (omega (arith, length-append before (f ∷ []))) (h.0, h.1.2.2, h.2) rules.1 in
    rw (field_again before f bytes h.1.0 h.1.1 rules.0, goes_on_again h.1.0 h.1.2.0 h.1.2.1)
    (ih ∙ ap (λ (all : List Field). Ok (all, rest)) (append_assoc before (f ∷ []) (g ∷ more)))

new_name_again : (s : Schema) (w bytes rest : List ℕ) → the (Word w) bytes rest → IsName w
    → has_file s.files w ≡ false → has_link s.links w ≡ false
    → want (a_new_name s) bytes ≡ Ok (w, rest)
new_name_again s w bytes rest h name no_file no_link =
    let letter = name.letter in
    want_again (a_new_name s) bytes rest (Word w) w h (rw (letter, no_file, no_link) refl)

file_again : (s : Schema) (f : FileDef) (bytes rest : List ℕ)
    → (the (Word f.name) ⨾ the Open ⨾ FieldsText f.fields ⨾ the Close) bytes rest → IsFile s.files f
    → has_link s.links f.name ≡ false → file_behind s bytes ≡ Ok (f, rest)
unfolding file_behind
file_again s f bytes rest h rules no_link =
    rw (
      new_name_again s f.name bytes h.0 h.1 rules.name rules.new no_link,
      open_again h.0 h.2.0 h.2.1,
      fields_again 33 [] f.fields h.2.0 rest refl h.2.2
          rules.fields,
    ) refl

place_again : (files : List FileDef) (place : ℕ) (bytes rest : List ℕ)
    → FileNameText files place bytes rest → want (a_file_name files) bytes ≡ Ok (place, rest)
place_again files place bytes rest h =
    want_again (a_file_name files) bytes rest (Word h.0) place h.2 (ap number_from h.1)

link_again : (s : Schema) (l : LinkDef) (bytes rest : List ℕ)
    → (the (Word l.name) ⨾ the Open ⨾ FileNameText s.files l.owner ⨾ the Comma ⨾ FileNameText
    s.files
    l.member ⨾ the Close) bytes rest → IsLink s.files s.links l → link_behind s bytes ≡ Ok (l, rest)
unfolding link_behind
link_again s l bytes rest h rules =
    let o = h.2 in
    let w = o.2 in
    let c = w.2 in
    let m = c.2 in
    rw (
      new_name_again s l.name bytes h.0 h.1 rules.name rules.no_file rules.new,
      open_again h.0 o.0 o.1,
      place_again s.files l.owner o.0 w.0 w.1,
      comma_again w.0 c.0 c.1,
      place_again s.files l.member c.0 m.0 m.1,
      close_again m.0 rest m.2,
    ) refl

item_again : (s : Schema) (i : Item) (bytes rest : List ℕ) → ItemText s i bytes rest → IsItem s i
    → item_at s bytes ≡ Ok (Some i, rest)
unfolding item_at
item_again s (items.File f) bytes rest h rules =
    let room : leb 32 (length s.files) ≡ false = lt-leb 32 (length s.files) rules.0.room in
    let e = want_again (an_item_start s) bytes h.0 (Word (codes "file")) Starts_file h.1
    (rw room refl) in
    rw (e, file_again s f h.0 rest h.2 rules.0 rules.1) refl
item_again s (items.Link l) bytes rest h rules =
    let room : leb 32 (length s.links) ≡ false = lt-leb 32 (length s.links) rules.room in
    let e = want_again (an_item_start s) bytes h.0 (Word (codes "link")) Starts_link h.1
    (rw room refl) in
    rw (e, link_again s l h.0 rest h.2 rules) refl

end_again : (s : Schema) (bytes rest : List ℕ) → the End bytes rest → 0 < length s.files
    → item_at s bytes ≡ Ok (None, rest)
unfolding item_at
end_again s bytes rest h some =
    let filled : eqb (length s.files) 0 ≡ false = ne_eqb (length s.files) 0 (λ e. omega arith) in
    rw (want_again (an_item_start s) bytes rest End Ends h (rw filled refl)) refl

record Counted (s : Schema) (i : Item) : Type 0 where
  pub files : length (with_item s i).files ≤ 32
  pub links : length (with_item s i).links ≤ 32
  pub sum : length (with_item s i).files + length (with_item s i).links ≡ suc
      (length s.files + length s.links)

counted : (s : Schema) (i : Item) → length s.files ≤ 32 → length s.links ≤ 32 → IsItem s i
    → Counted s i
counted s (items.File f) files links rules =
    let room = rules.0.room in
    let n = length-append s.files (f ∷ []) in
    record { files = omega (arith, n); links = links; sum = omega (arith, n) }
counted s (items.Link l) files links rules =
    let room = rules.room in
    let n = length-append s.links (l ∷ []) in
    record { files = files; links = omega (arith, n); sum = omega (arith, n) }

items_again : (room : ℕ) (before : Schema) (is : List Item) (bytes rest : List ℕ)
    → (length before.files + length before.links) + room ≡ 65 → length before.files ≤ 32
    → length before.links ≤ 32
    → ItemsToEnd before is bytes rest → AreItems before is → 0 < length (with_items before is).files
    → items_behind room before bytes ≡ Ok (with_items before is)
unfolding items_behind
items_again zero before is bytes rest k files links text rules some = absurd (omega arith)
items_again (suc room) before [] bytes rest k files links text rules some =
    rw (end_again before bytes rest text some) refl
items_again (suc room) before (i ∷ is) bytes rest k files links text rules some =
    let n = counted before i files links rules.0 in
    let sum = n.sum in
    rw (item_again before i bytes text.0 text.1 rules.0)
    (items_again room (with_item before i) is text.0 rest (omega arith) n.files n.links text.2
    rules.1 some)

pub items_read : (bytes : List ℕ) (s : Schema) → IsSchemaText bytes s → all_items bytes ≡ Ok s
items_read bytes s h =
    let some : 0 < length (with_items no_schema h.listed).files =
    subst (λ (z : Schema). 0 < length z.files) h.whole h.some in
    items_again 65 no_schema h.listed bytes h.rest refl (omega arith) (omega arith) h.text h.rules
    some ∙ ap (λ (z : Schema). Ok z) (sym h.whole)
