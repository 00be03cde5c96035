-- The canonical text of a schema means the schema.
use Rattle.std.proofs.Common.{◌≡◌, ℕ, zero, suc, ◌<◌, ◌≤◌, Bool, true, false, ltb, leb, List, [], ◌∷◌, ◌++◌, length, Some, refl, sym, ap, subst, ◌∙◌, append_assoc, append-nil, arith}
use Rattle.std.specs.Prelude.{nat_eq, codes}
use Rattle.std.specs.List.{position_or_len}
use Rattle.std.specs.Cmp.Lexicographic.{pointwise}
use Rattle.std.specs.Fmt.{decimal}
use Rattle.std.proofs.lemmas.Bool.{or_parts, or_from, le-leb, lt-ltb, cond-true}
use Rattle.gx_tokens.specs.Grammar.{the}
use Rattle.gx_tokens.specs.Lexemes.{Word, Number, Open, Close, Comma, End, continues_run}
use Rattle.gx_tokens.specs.Numbers.{number_value, natural_up_to}
use Rattle.gx_tokens.specs.Spelling.{IsWord}
use Rattle.gx_tokens.proofs.NumberLaws.{number_value-decimal, IsNumber-decimal}
use Rattle.gx_tokens.proofs.PrintLaws.{token_printed, behind_space, behind_line, word_printed}
use Rattle.gx_tokens.proofs.ReadingLaws.{same_bytes}
use Rattle.gx_values.specs.declared.records.Field.{Field}
use Rattle.gx_values.specs.declared.values.Kind.{Kind}
use Rattle.gx_values.specs.declared.values.Kind.TheVariants as kinds
use Rattle.gx_schema.specs.declared.schema.Schema.{Schema}
use Rattle.gx_schema.specs.declared.schema.FileDef.{FileDef}
use Rattle.gx_schema.specs.declared.schema.LinkDef.{LinkDef}
use Rattle.gx_schema.specs.declared.item.Item.{Item}
use Rattle.gx_schema.specs.declared.item.Item.TheVariants as items
use Rattle.gx_schema.specs.Items.{with_items}
use Rattle.gx_schema.specs.Names.{has_file, file_position}
use Rattle.gx_schema.specs.Rules.{IsKind, IsField, AreFields, IsFile, AreFiles, IsLink, AreLinks, IsSchema}
use Rattle.gx_schema.specs.Grammar.{KindText, FieldText, FieldsText, FileText, FileNameText, LinkText, ItemsToEnd, AreItems, IsSchemaText}
use Rattle.gx_schema.specs.Printing.{kind_text, field_text, fields_text, file_text, files_text, name_at, link_text, links_text, schema_text}

-- ---- fields

int_is_word : IsWord (codes "int")
int_is_word = record { starts = refl; each = (refl, (refl, (refl, tt))); short = omega arith }

text_is_word : IsWord (codes "text")
text_is_word = record {
  starts = refl;
  each = (refl, (refl, (refl, (refl, tt))));
  short = omega arith;
}

file_is_word : IsWord (codes "file")
file_is_word = record {
  starts = refl;
  each = (refl, (refl, (refl, (refl, tt))));
  short = omega arith;
}

link_is_word : IsWord (codes "link")
link_is_word = record {
  starts = refl;
  each = (refl, (refl, (refl, (refl, tt))));
  short = omega arith;
}

size_is : (n : ℕ) → n ≤ 200 → natural_up_to 200 (number_value (decimal n)) ≡ Some n
size_is n most = ap (natural_up_to 200) (number_value-decimal n (omega arith))
    ∙ cond-true (leb n 200) _ _ (le-leb n 200 most)

kind_printed : (first : Bool) (k : Kind) (rest : List ℕ) → IsKind first k
    → continues_run rest ≡ false → KindText k (32 ∷ (kind_text k ++ rest)) rest
kind_printed first kinds.Int rest fits apart = behind_space _ _ _
    (word_printed (codes "int") rest int_is_word apart)
kind_printed first (kinds.Text n) rest fits apart =
    let most = fits.1 in (
      32 ∷ (decimal n ++ rest),
      behind_space _ _ _ (word_printed (codes "text") (32 ∷ (decimal n ++ rest)) text_is_word refl),
      (
        decimal n,
        size_is n most,
        behind_space _ _ _
            (token_printed (Number (decimal n)) rest (IsNumber-decimal n (omega arith)) apart),
      ),
    )
kind_printed first (kinds.Bytes n) rest fits apart = absurd fits

field_printed : (before : List Field) (f : Field) (rest : List ℕ) → IsField before f
    → continues_run rest ≡ false → FieldText f (field_text f ++ rest) rest
field_printed before f rest h apart =
    let whole : field_text f ++ rest ≡ f.name ++ (32 ∷ (kind_text f.kind ++ rest)) =
    append_assoc f.name (32 ∷ kind_text f.kind) rest in
    let mid = 32 ∷ (kind_text f.kind ++ rest) in (
      mid,
      subst (λ (b : List ℕ). the (Word f.name) b mid) (sym whole)
          (word_printed f.name mid h.name.word refl),
      kind_printed _ f.kind rest h.kind apart,
    )

fields_space : (f : Field) (fs : List Field) (bytes rest : List ℕ) → FieldsText (f ∷ fs) bytes rest
    → FieldsText (f ∷ fs) (32 ∷ bytes) rest
fields_space f [] bytes rest h = (h.0, behind_space _ _ _ h.1, h.2)
fields_space f (g ∷ fs) bytes rest h = (h.0, (h.1.0, behind_space _ _ _ h.1.1, h.1.2), h.2)

fields_printed : (before : List Field) (f : Field) (fs : List Field) (rest : List ℕ)
    → AreFields before (f ∷ fs) → continues_run rest ≡ false
    → FieldsText (f ∷ fs) (fields_text (f ∷ fs) ++ rest) rest
fields_printed before f [] rest h apart =
    subst (λ (b : List ℕ). FieldText f (b ++ rest) rest) (sym (append-nil (field_text f)))
    (field_printed before f rest h.0 apart)
fields_printed before f (g ∷ gs) rest h apart =
    let more = fields_text (g ∷ gs) ++ rest in
    let whole : fields_text (f ∷ g ∷ gs) ++ rest ≡ field_text f ++ (44 ∷ 32 ∷ more) =
    simp append_assoc in
    let first : FieldText f (fields_text (f ∷ g ∷ gs) ++ rest) (44 ∷ 32 ∷ more) =
    subst (λ (b : List ℕ). FieldText f b (44 ∷ 32 ∷ more)) (sym whole)
    (field_printed before f (44 ∷ 32 ∷ more) h.0 refl) in (
      44 ∷ 32 ∷ more,
      first,
      (
        32 ∷ more,
        token_printed Comma (32 ∷ more) tt tt,
        fields_space g gs more rest (fields_printed (before ++ f ∷ []) g gs rest h.1 apart),
      ),
    )

some_fields_printed : (fs : List Field) (rest : List ℕ) → 0 < length fs → AreFields [] fs
    → continues_run rest ≡ false → FieldsText fs (fields_text fs ++ rest) rest
some_fields_printed [] rest some h apart = absurd (omega arith)
some_fields_printed (f ∷ fs) rest some h apart = fields_printed [] f fs rest h apart

-- ---- files

file_printed : (before : List FileDef) (f : FileDef) (rest : List ℕ) → IsFile before f
    → FileText f (file_text f ++ rest) (10 ∷ rest)
file_printed before f rest h =
    let close = 41 ∷ 10 ∷ rest in
    let fields = fields_text f.fields ++ close in
    let inner = f.name ++ (32 ∷ 40 ∷ fields) in
    let whole : file_text f ++ rest ≡ codes "file " ++ inner = simp append_assoc in (
      32 ∷ inner,
      subst (λ (b : List ℕ). the (Word (codes "file")) b (32 ∷ inner)) (sym whole)
          (word_printed (codes "file") (32 ∷ inner) file_is_word refl),
      (
        32 ∷ 40 ∷ fields,
        behind_space _ _ _ (word_printed f.name (32 ∷ 40 ∷ fields) h.name.word refl),
        (
          fields,
          behind_space _ _ _ (token_printed Open fields tt tt),
          (
            close,
            some_fields_printed f.fields close h.some h.fields refl,
            token_printed Close (10 ∷ rest) tt tt,
          ),
        ),
      ),
    )

-- ---- the names of files in links

name_is_word : (before files : List FileDef) (number : ℕ) → AreFiles before files
    → number < length files → IsWord (name_at files number)
name_is_word before [] number h lt = absurd (omega arith)
name_is_word before (f ∷ fs) zero h lt = h.0.name.word
name_is_word before (f ∷ fs) (suc number) h lt =
    name_is_word (before ++ f ∷ []) fs number h.1 (omega arith)

no_file_before : (before : List FileDef) (f : FileDef) (name : List ℕ)
    → has_file (before ++ f ∷ []) name ≡ false
    → (has_file before name ≡ false) × (pointwise nat_eq f.name name ≡ false)
no_file_before [] f name h = (refl, (or_parts _ _ h).0)
no_file_before (g ∷ before) f name h =
    let p = or_parts _ _ h in
    let q = no_file_before before f name p.1 in
    (or_from _ _ p.0 q.0, q.1)

-- a later file has no name of an earlier one
new_at : (before files : List FileDef) (number : ℕ) → AreFiles before files → number < length files
    → has_file before (name_at files number) ≡ false
new_at before [] number h lt = absurd (omega arith)
new_at before (f ∷ fs) zero h lt = h.0.new
new_at before (f ∷ fs) (suc number) h lt =
    (no_file_before before f (name_at fs number)
    (new_at (before ++ f ∷ []) fs number h.1 (omega arith))).0

own_position : (before files : List FileDef) (number : ℕ) → AreFiles before files
    → number < length files
    → position_or_len (λ f. pointwise nat_eq f.name (name_at files number)) files ≡ number
own_position before [] number h lt = absurd (omega arith)
own_position before (f ∷ fs) zero h lt = let same : pointwise nat_eq f.name f.name ≡ true =
    (same_bytes f.name f.name).1 refl in rw same refl
own_position before (f ∷ fs) (suc number) h lt =
    let later : number < length fs = omega arith in
    let other : pointwise nat_eq f.name (name_at fs number) ≡ false =
    (no_file_before before f (name_at fs number)
    (new_at (before ++ f ∷ []) fs number h.1 later)).1 in
    let ih = own_position (before ++ f ∷ []) fs number h.1 later in
    rw (other, ih) (omega arith)

own_number : (files : List FileDef) (number : ℕ) → AreFiles [] files → number < length files
    → file_position files (name_at files number) ≡ Some number
own_number files number h lt =
    let own = own_position [] files number h lt in
    rw own (cond-true (ltb number (length files)) _ _ (lt-ltb number (length files) lt))

name_printed : (files : List FileDef) (number : ℕ) (rest : List ℕ) → AreFiles [] files
    → number < length files → continues_run rest ≡ false
    → FileNameText files number (name_at files number ++ rest) rest
name_printed files number rest h lt apart = (
  name_at files number,
  own_number files number h lt,
  word_printed (name_at files number) rest (name_is_word [] files number h lt) apart,
)

name_space : (files : List FileDef) (number : ℕ) (bytes rest : List ℕ)
    → FileNameText files number bytes rest → FileNameText files number (32 ∷ bytes) rest
name_space files number bytes rest h = (h.0, h.1, behind_space _ _ _ h.2)

-- ---- links

link_printed : (files : List FileDef) (before : List LinkDef) (l : LinkDef) (rest : List ℕ)
    → AreFiles [] files → IsLink files before l
    → LinkText files l (link_text files l ++ rest) (10 ∷ rest)
link_printed files before l rest all h =
    let close = 41 ∷ 10 ∷ rest in
    let member = name_at files l.member ++ close in
    let owner = name_at files l.owner ++ (44 ∷ 32 ∷ member) in
    let inner = l.name ++ (32 ∷ 40 ∷ owner) in
    let whole : link_text files l ++ rest ≡ codes "link " ++ inner = simp append_assoc in (
      32 ∷ inner,
      subst (λ (b : List ℕ). the (Word (codes "link")) b (32 ∷ inner)) (sym whole)
          (word_printed (codes "link") (32 ∷ inner) link_is_word refl),
      (
        32 ∷ 40 ∷ owner,
        behind_space _ _ _ (word_printed l.name (32 ∷ 40 ∷ owner) h.name.word refl),
        (
          owner,
          behind_space _ _ _ (token_printed Open owner tt tt),
          (
            44 ∷ 32 ∷ member,
            name_printed files l.owner (44 ∷ 32 ∷ member) all h.owner refl,
            (
              32 ∷ member,
              token_printed Comma (32 ∷ member) tt tt,
              (
                close,
                name_space files l.member member close
                    (name_printed files l.member close all h.member refl),
                token_printed Close (10 ∷ rest) tt tt,
              ),
            ),
          ),
        ),
      ),
    )

-- ---- all of the text

abbrev schema_with : List FileDef → List LinkDef → Schema
schema_with files links = record { files = files; links = links }

abbrev link_items : List LinkDef → List Item
link_items [] = []
link_items (l ∷ ls) = items.Link l ∷ link_items ls

-- the files, and then these items
abbrev file_items : List FileDef → List Item → List Item
file_items [] others = others
file_items (f ∷ fs) others = items.File f ∷ file_items fs others

items_line : (s : Schema) (is : List Item) (bytes rest : List ℕ) → ItemsToEnd s is bytes rest
    → ItemsToEnd s is (10 ∷ bytes) rest
items_line s [] bytes rest h = behind_line _ _ _ h
items_line s (items.File f ∷ is) bytes rest h = (h.0, (h.1.0, behind_line _ _ _ h.1.1, h.1.2), h.2)
items_line s (items.Link l ∷ is) bytes rest h = (h.0, (h.1.0, behind_line _ _ _ h.1.1, h.1.2), h.2)

the_end : the End [] []
the_end = token_printed End [] tt refl

links_printed : (files : List FileDef) (before ls : List LinkDef) → AreFiles [] files
    → AreLinks files before ls
    → ItemsToEnd (schema_with files before) (link_items ls) (links_text files ls) []
links_printed files before [] all h = the_end
links_printed files before (l ∷ ls) all h =
    let others = links_printed files (before ++ l ∷ []) ls all h.1 in (
      10 ∷ links_text files ls,
      link_printed files before l (links_text files ls) all h.0,
      items_line _ (link_items ls) (links_text files ls) [] others,
    )

files_printed : (before fs : List FileDef) (others : List Item) (bytes rest : List ℕ)
    → AreFiles before fs → ItemsToEnd (schema_with (before ++ fs) []) others bytes rest
    → ItemsToEnd (schema_with before []) (file_items fs others) (files_text fs ++ bytes) rest
files_printed before [] others bytes rest h text =
    subst (λ (z : List FileDef). ItemsToEnd (schema_with z []) others bytes rest)
    (append-nil before) text
files_printed before (f ∷ fs) others bytes rest h text =
    let more = files_text fs ++ bytes in
    let later : ItemsToEnd (schema_with ((before ++ f ∷ []) ++ fs) []) others bytes rest =
    subst (λ (z : List FileDef). ItemsToEnd (schema_with z []) others bytes rest)
    (sym (append_assoc before (f ∷ []) fs)) text in
    let ih = files_printed (before ++ f ∷ []) fs others bytes rest h.1 later in
    let whole : files_text (f ∷ fs) ++ bytes ≡ file_text f ++ more =
    append_assoc (file_text f) (files_text fs) bytes in (
      10 ∷ more,
      subst (λ (b : List ℕ). FileText f b (10 ∷ more)) (sym whole)
          (file_printed before f more h.0),
      items_line _ (file_items fs others) more rest ih,
    )

links_are_items : (files : List FileDef) (before ls : List LinkDef) → AreLinks files before ls
    → AreItems (schema_with files before) (link_items ls)
links_are_items files before [] h = tt
links_are_items files before (l ∷ ls) h = (h.0, links_are_items files (before ++ l ∷ []) ls h.1)

files_are_items : (before fs : List FileDef) (others : List Item) → AreFiles before fs
    → AreItems (schema_with (before ++ fs) []) others
    → AreItems (schema_with before []) (file_items fs others)
files_are_items before [] others h rules =
    subst (λ (z : List FileDef). AreItems (schema_with z []) others) (append-nil before) rules
files_are_items before (f ∷ fs) others h rules = (
  (h.0, refl),
  files_are_items (before ++ f ∷ []) fs others h.1
      (subst (λ (z : List FileDef). AreItems (schema_with z []) others)
      (sym (append_assoc before (f ∷ []) fs)) rules),
)

with_link_items : (files : List FileDef) (before ls : List LinkDef)
    → with_items (schema_with files before) (link_items ls) ≡ schema_with files (before ++ ls)
with_link_items files before [] = ap (schema_with files) (sym (append-nil before))
with_link_items files before (l ∷ ls) = with_link_items files (before ++ l ∷ []) ls
    ∙ ap (schema_with files) (append_assoc before (l ∷ []) ls)

with_file_items : (before fs : List FileDef) (others : List Item)
    → with_items (schema_with before []) (file_items fs others) ≡ with_items
    (schema_with (before ++ fs) []) others
with_file_items before [] others =
    ap (λ (z : List FileDef). with_items (schema_with z []) others) (sym (append-nil before))
with_file_items before (f ∷ fs) others = with_file_items (before ++ f ∷ []) fs others
    ∙ ap (λ (z : List FileDef). with_items (schema_with z []) others)
    (append_assoc before (f ∷ []) fs)

pub schema_printed : (s : Schema) → IsSchema s → IsSchemaText (schema_text s) s
schema_printed s h =
    let links = link_items s.links in
    record {
      listed = file_items s.files links;
      rest = [];
      text = files_printed [] s.files links (links_text s.files s.links) [] h.files
          (links_printed s.files [] s.links h.files h.links);
      rules = files_are_items [] s.files links h.files (links_are_items s.files [] s.links h.links);
      whole = sym (with_file_items [] s.files links ∙ with_link_items s.files [] s.links);
      some = h.some;
    }
