-- What a text means has few files, links and fields, a key in each file, and links between files.
use Rattle.std.proofs.Common.{ℕ, zero, suc, ◌<◌, ◌≤◌, List, [], ◌∷◌, ◌++◌, length, get_or, sym, subst, arith, length-append}
use Rattle.std.specs.List.{AllByRecursion}
use Rattle.gx_schema.specs.declared.schema.Schema.{Schema}
use Rattle.gx_schema.specs.declared.schema.LinkDef.{LinkDef}
use Rattle.gx_schema.specs.declared.item.Item.{Item}
use Rattle.gx_schema.specs.declared.item.Item.TheVariants as items
use Rattle.gx_schema.specs.Grammar.{IsItem, AreItems, IsSchemaText}
use Rattle.gx_schema.specs.Items.{with_item, with_items, no_schema}
use Rattle.gx_schema.specs.Lookups.{no_file, no_link}
use Rattle.gx_schema.specs.WellFormed.{HasFields, IsWellFormed}
use Rattle.gx_schema.proofs.WellFormedLaws.{fields_few}

all_with : {A : Type 0} (P : A → Type 0) (xs : List A) (x : A) → AllByRecursion P xs → P x
    → AllByRecursion P (xs ++ x ∷ [])
all_with P [] x all p = (p, tt)
all_with P (y ∷ xs) x all p = (all.0, all_with P xs x all.1 p)

all_at : {A : Type 0} (P : A → Type 0) (xs : List A) (i : ℕ) (d : A) → AllByRecursion P xs
    → i < length xs → P (get_or xs i d)
all_at P [] i d all lt = absurd (omega (arith, lt))
all_at P (x ∷ xs) zero d all lt = all.0
all_at P (x ∷ xs) (suc i) d all lt = all_at P xs i d all.1 (omega arith)

-- the two files of a link are among so many
record IsWithin (files : ℕ) (link : LinkDef) : Type 0 where
  owner : link.owner < files
  member : link.member < files

all_within : (few many : ℕ) (links : List LinkDef) → few ≤ many
    → AllByRecursion (IsWithin few) links → AllByRecursion (IsWithin many) links
all_within few many [] le all = tt
all_within few many (link ∷ links) le all =
    let first = all.0 in
    let owner = first.owner in
    let member = first.member in (
      record { owner = omega (arith, owner, le); member = omega (arith, member, le) },
      all_within few many links le all.1,
    )

record IsFormed (s : Schema) : Type 0 where
  few_files : length s.files ≤ 32
  few_links : length s.links ≤ 32
  files : AllByRecursion HasFields s.files
  links : AllByRecursion (IsWithin (length s.files)) s.links

with_one : (s : Schema) (i : Item) → IsFormed s → IsItem s i → IsFormed (with_item s i)
with_one s (items.File f) is rules =
    let rule = rules.0 in
    let room = rule.room in
    let some = rule.some in
    let more = length-append s.files (f ∷ []) in
    let few = fields_few [] f.fields rule.fields (omega arith) in
    record {
      few_files = omega (arith, room, more);
      few_links = is.few_links;
      files = all_with HasFields s.files f is.files
          (record { key = some; few = omega (arith, few) });
      links = all_within (length s.files) (length (s.files ++ f ∷ [])) s.links
          (omega (arith, more)) is.links;
    }
with_one s (items.Link l) is rules =
    let room = rules.room in
    let more = length-append s.links (l ∷ []) in
    record {
      few_files = is.few_files;
      few_links = omega (arith, room, more);
      files = is.files;
      links = all_with (IsWithin (length s.files)) s.links l is.links
          (record { owner = rules.owner; member = rules.member });
    }

with_all : (s : Schema) (is : List Item) → IsFormed s → AreItems s is → IsFormed (with_items s is)
with_all s [] formed rules = formed
with_all s (i ∷ is) formed rules =
    with_all (with_item s i) is (with_one s i formed rules.0) rules.1

pub text_formed : (bytes : List ℕ) (schema : Schema) → IsSchemaText bytes schema
    → IsWellFormed schema
text_formed bytes schema is =
    let none : IsFormed no_schema = record {
      few_files = omega arith;
      few_links = omega arith;
      files = tt;
      links = tt;
    } in
    let formed : IsFormed schema = subst IsFormed (sym is.whole)
    (with_all no_schema is.listed none is.rules) in
    let few_files = formed.few_files in
    let few_links = formed.few_links in
    record {
      few_files = omega (arith, few_files);
      few_links = omega (arith, few_links);
      files = λ i lt. all_at HasFields schema.files i no_file formed.files lt;
      links = λ i lt.
          let link = all_at (IsWithin (length schema.files)) schema.links i no_link formed.links lt
          in
          record { owner = link.owner; member = link.member };
    }
