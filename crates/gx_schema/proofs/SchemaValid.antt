-- What texts mean are schemas.
use Rattle.std.proofs.Common.{◌≡◌, ℕ, Bool, true, false, List, [], ◌∷◌, ◌++◌, refl, sym, subst, append_assoc, append-nil, length-append, arith}
use Rattle.std.specs.Prelude.{nat_eq}
use Rattle.std.specs.Cmp.Lexicographic.{pointwise}
use Rattle.std.proofs.lemmas.Bool.{or_parts, or_from}
use Rattle.gx_tokens.proofs.ReadingLaws.{same_bytes}
use Rattle.gx_schema.specs.declared.schema.Schema.{Schema}
use Rattle.gx_schema.specs.declared.schema.FileDef.{FileDef}
use Rattle.gx_schema.specs.declared.schema.LinkDef.{LinkDef}
use Rattle.gx_schema.specs.declared.item.Item.{Item}
use Rattle.gx_schema.specs.declared.item.Item.TheVariants as items
use Rattle.gx_schema.specs.Items.{with_item, with_items, no_schema}
use Rattle.gx_schema.specs.Names.{has_file, has_link}
use Rattle.gx_schema.specs.Rules.{IsFile, AreFiles, IsLink, AreLinks, IsSchema}
use Rattle.gx_schema.specs.Grammar.{IsItem, AreItems, IsSchemaText}

differs : (b : Bool) (x y : List ℕ) → pointwise nat_eq y x ≡ b → pointwise nat_eq x y ≡ false
    → b ≡ false
differs false x y e h = refl
differs true x y e h = let same : y ≡ x = (same_bytes y x).0 e in
    let again : pointwise nat_eq x y ≡ true = (same_bytes x y).1 (sym same) in absurd cc

pub differs_sym : (x y : List ℕ) → pointwise nat_eq x y ≡ false → pointwise nat_eq y x ≡ false
differs_sym x y h = differs (pointwise nat_eq y x) x y refl h

has_file_more : (files : List FileDef) (f : FileDef) (name : List ℕ) → has_file files name ≡ false
    → pointwise nat_eq f.name name ≡ false → has_file (files ++ f ∷ []) name ≡ false
has_file_more [] f name h differ = or_from _ _ differ refl
has_file_more (g ∷ files) f name h differ = let p = or_parts _ _ h in
    or_from _ _ p.0 (has_file_more files f name p.1 differ)

-- one more file at the end
files_more : (before fs : List FileDef) (f : FileDef) → AreFiles before fs → IsFile (before ++ fs) f
    → AreFiles before (fs ++ f ∷ [])
files_more before [] f all one =
    (subst (λ (z : List FileDef). IsFile z f) (append-nil before) one, tt)
files_more before (g ∷ fs) f all one = (
  all.0,
  files_more (before ++ g ∷ []) fs f all.1
      (subst (λ (z : List FileDef). IsFile z f) (sym (append_assoc before (g ∷ []) fs)) one),
)

-- one more link at the end
links_more : (files : List FileDef) (before ls : List LinkDef) (l : LinkDef)
    → AreLinks files before ls → IsLink files (before ++ ls) l
    → AreLinks files before (ls ++ l ∷ [])
links_more files before [] l all one =
    (subst (λ (z : List LinkDef). IsLink files z l) (append-nil before) one, tt)
links_more files before (g ∷ ls) l all one = (
  all.0,
  links_more files (before ++ g ∷ []) ls l all.1
      (subst (λ (z : List LinkDef). IsLink files z l) (sym (append_assoc before (g ∷ []) ls)) one),
)

-- the links stay links where a file comes whose name none of them has
links_stay : (files : List FileDef) (before ls : List LinkDef) (f : FileDef)
    → has_link ls f.name ≡ false → AreLinks files before ls → AreLinks (files ++ f ∷ []) before ls
links_stay files before [] f new all = tt
links_stay files before (l ∷ ls) f new all =
    let p = or_parts _ _ new in
    let i = all.0 in
    let owner = i.owner in
    let member = i.member in
    let n = length-append files (f ∷ []) in (
      record {
        name = i.name;
        no_file = has_file_more files f l.name i.no_file (differs_sym l.name f.name p.0);
        new = i.new;
        room = i.room;
        owner = omega arith;
        member = omega arith;
      },
      links_stay files (before ++ l ∷ []) ls f p.1 all.1,
    )

record AreValid (s : Schema) : Type 0 where
  pub files : AreFiles [] s.files
  pub links : AreLinks s.files [] s.links

valid_item : (s : Schema) (i : Item) → AreValid s → IsItem s i → AreValid (with_item s i)
valid_item s (items.File f) valid rules =
    record {
      files = files_more [] s.files f valid.files rules.0;
      links = links_stay s.files [] s.links f rules.1 valid.links;
    }
valid_item s (items.Link l) valid rules =
    record { files = valid.files; links = links_more s.files [] s.links l valid.links rules }

valid_items : (s : Schema) (is : List Item) → AreValid s → AreItems s is
    → AreValid (with_items s is)
valid_items s [] valid rules = valid
valid_items s (i ∷ is) valid rules =
    valid_items (with_item s i) is (valid_item s i valid rules.0) rules.1

pub schema_valid : (bytes : List ℕ) (s : Schema) → IsSchemaText bytes s → IsSchema s
schema_valid bytes s h =
    let all = valid_items no_schema h.listed (record { files = tt; links = tt }) h.rules in
    let valid : AreValid s = subst AreValid (sym h.whole) all in
    record { some = h.some; files = valid.files; links = valid.links }
