-- What is read is in the grammar, and breaks no rule.
use Rattle.std.proofs.Common.{◌≡◌, ℕ, zero, suc, ◌<◌, ◌≤◌, Bool, true, false, not, ◌||◌, ◌&&◌, cond, eqb, ltb, leb, List, [], ◌∷◌, ◌++◌, length, Option, Some, None, Result, Ok, Err, refl, sym, ap, subst, ◌∙◌, append_assoc, arith, inl, inr}
use Rattle.std.specs.Prelude.{nat_eq, codes, ℤ, pos, negsuc}
use Rattle.std.proofs.lemmas.List.Quantifiers.{position-Some}
use Rattle.std.specs.Cmp.Lexicographic.{pointwise}
use Rattle.std.proofs.lemmas.Bool.{cond_both, or_parts, not-false, ltb-false, leb-true, leb-false, eqb-false, and_cases}
use Rattle.gx_tokens.specs.declared.fault.Fault.{Fault}
use Rattle.gx_tokens.specs.declared.why.Why.{Why}
use Rattle.gx_tokens.specs.declared.why.Why.TheVariants as why
use Rattle.gx_tokens.specs.Lexemes.{Lexeme, Word, Number, Quoted, Open, Close, Comma, Equals, End}
use Rattle.gx_tokens.specs.Numbers.{number_value, natural_up_to}
use Rattle.gx_tokens.specs.Reading.{◌>>=◌, want, an_open, a_close, a_comma, comma_or_close}
use Rattle.gx_tokens.specs.Grammar.{◌⨾◌, the}
use Rattle.gx_values.specs.declared.records.Field.{Field}
use Rattle.gx_values.specs.declared.values.Kind.{Kind}
use Rattle.gx_values.specs.declared.values.Kind.TheVariants as kinds
use Rattle.gx_schema.specs.declared.schema.Schema.{Schema}
use Rattle.gx_schema.specs.declared.schema.FileDef.{FileDef}
use Rattle.gx_schema.specs.declared.schema.LinkDef.{LinkDef}
use Rattle.gx_schema.specs.declared.item.Item.{Item}
use Rattle.gx_schema.specs.Items.{with_item, with_items, no_schema}
use Rattle.gx_schema.specs.Names.{starts_with_letter, has_field, has_file, has_link, file_position}
use Rattle.gx_schema.specs.Rules.{IsName, IsKind, IsField, AreFields}
use Rattle.gx_schema.specs.Reading.{size_from, size_at, a_kind, kind_at, a_field_name, field_behind, fields_at, a_new_name, file_behind, number_from, a_file_name, link_behind, as_file, as_link, Start, Starts_file, Starts_link, Ends, an_item_start, item_from, item_at, items_behind, all_items}
use Rattle.gx_schema.specs.Grammar.{KindSizeText, KindText, FieldText, FieldsText, FileNameText, ItemText, ItemsToEnd, IsItem, AreItems, IsSchemaText}
use Rattle.gx_tokens.proofs.ReadingLaws.{means_is, bind_ok, mapped_ok, test_ok, want_ok, word_ok, number_ok, open_found, close_found, comma_found, list_mark_found, same_bytes}
use Rattle.gx_tokens.proofs.TokenFound.{done_is}

-- ---- sizes

up_to_most : (b : Bool) (v most n : ℕ) → leb v most ≡ b → cond b (Some v) None ≡ Some n → n ≤ most
up_to_most true v most n le e = let l = leb-true v most le in let s : v ≡ n = cc in omega arith
up_to_most false v most n le e = absurd cc

natural_most : (z : ℤ) (most n : ℕ) → natural_up_to most z ≡ Some n → n ≤ most
natural_most (pos k) most n e = up_to_most (leb k most) k most n refl e
natural_most (negsuc k) most n e = absurd cc

size_case : (first : Bool) (digits : List ℕ) (o : Option ℕ) (k : Kind)
    → natural_up_to 200 (number_value digits) ≡ o → size_from first o ≡ Ok k
    → (n : ℕ) × (k ≡ kinds.Text n) × (natural_up_to 200 (number_value digits) ≡ Some n)
    × IsKind first (kinds.Text n)
size_case first digits None k is e = absurd cc
size_case first digits (Some zero) k is e = absurd cc
size_case first digits (Some (suc n)) k is e =
    let g = test_ok (first && ltb 100 (suc n)) why.KeyField (Ok (kinds.Text (suc n))) k e in
    let most = natural_most (number_value digits) 200 (suc n) is in (
      suc n,
      sym (means_is (kinds.Text (suc n)) k g.1),
      is,
      (
        omega arith,
        most,
        λ key. elim (and_cases first (ltb 100 (suc n)) g.0) [
          | inl other ↦ absurd cc
          | inr small ↦ ltb-false _ _ small
        ],
      ),
    )

size_found : (first : Bool) (bytes : List ℕ) (y : Kind × List ℕ) → size_at first bytes ≡ Ok y
    → (n : ℕ) × (y.0 ≡ kinds.Text n) × KindSizeText n bytes y.1 × IsKind first (kinds.Text n)
unfolding size_at
size_found first bytes y e =
    let a = number_ok (λ digits. size_from first (natural_up_to 200 (number_value digits))) bytes y
    e in
    let c = size_case first a.text (natural_up_to 200 (number_value a.text)) y.0 refl a.is in
    (c.0, c.1, (a.text, c.2, a.first), c.3)

abbrev KindIs : Bool → List ℕ → Kind × List ℕ → Type 0
KindIs first bytes y = KindText y.0 bytes y.1 × IsKind first y.0

-- the word that says whether the kind is a text
abbrev pub kind_word : Bool → List ℕ
kind_word true = codes "text"
kind_word false = codes "int"

pub kind_word_is : (word : List ℕ) (b : Bool)
    → cond (pointwise nat_eq word (codes "int")) (Ok false)
    (cond (pointwise nat_eq word (codes "text")) (Ok true) (Err why.Unexpected)) ≡ Ok b
    → word ≡ kind_word b
kind_word_is word b e =
    cond_both (pointwise nat_eq word (codes "int")) (Ok false)
    (cond (pointwise nat_eq word (codes "text")) (Ok true) (Err why.Unexpected))
    (λ (r : Result Bool Why). r ≡ Ok b → word ≡ kind_word b)
    (λ is h. (same_bytes word (codes "int")).0 is ∙ ap kind_word (means_is false b h))
    (λ _ h. cond_both (pointwise nat_eq word (codes "text")) (Ok true) (Err why.Unexpected)
    (λ (r : Result Bool Why). r ≡ Ok b → word ≡ kind_word b)
    (λ is k. (same_bytes word (codes "text")).0 is ∙ ap kind_word (means_is true b k))
    (λ _ k. absurd cc)
    h)
    e

kind_step : (first is_text : Bool) (bytes mid : List ℕ) (y : Kind × List ℕ)
    → the (Word (kind_word is_text)) bytes mid
    → cond is_text (size_at first mid) (Ok (kinds.Int, mid)) ≡ Ok y → KindIs first bytes y
kind_step first true bytes mid y word e =
    let s = size_found first mid y e in
    subst (λ (kind : Kind). KindIs first bytes (kind, y.1)) (sym s.1) ((mid, word, s.2), s.3)
kind_step first false bytes mid y word e =
    subst (KindIs first bytes) (done_is (kinds.Int, mid) y e) (word, tt)

kind_found : (first : Bool) (bytes : List ℕ) (y : Kind × List ℕ) → kind_at first bytes ≡ Ok y
    → KindIs first bytes y
unfolding kind_at
kind_found first bytes y e =
    let a = bind_ok (want a_kind bytes)
    (λ is_text. cond is_text.0 (size_at first is_text.1) (Ok (kinds.Int, is_text.1))) y e in
    let w = word_ok _ bytes a.0 a.1 in
    kind_step first a.0.0 bytes a.0.1 y
    (subst (λ (t : List ℕ). the (Word t) bytes a.0.1) (kind_word_is w.text a.0.0 w.is) w.first)
    a.2

-- ---- fields

name_found : (before : List Field) (bytes : List ℕ) (y : List ℕ × List ℕ)
    → want (a_field_name before) bytes ≡ Ok y
    → the (Word y.0) bytes y.1 × IsName y.0 × (has_field before y.0 ≡ false) × (length before < 32)
name_found before bytes y e =
    let f = word_ok _ bytes y e in
    let w = f.text in
    let g = test_ok (not (starts_with_letter w) || has_field before w) why.NameUse
    (cond (leb 32 (length before)) (Err why.Count) (Ok w)) y.0 f.is in
    let h = test_ok (leb 32 (length before)) why.Count (Ok w) y.0 g.1 in
    let p = or_parts _ _ g.0 in
    subst (λ (z : List ℕ). the (Word z) bytes y.1 × IsName z × (has_field before z ≡ false)
    × (length before < 32)) (means_is w y.0 h.1) (
      f.first,
      record { word = f.first.begins.is_token; letter = not-false _ p.0 },
      p.1,
      leb-false _ _ h.0,
    )

abbrev FieldIs : List Field → List ℕ → Field × List ℕ → Type 0
FieldIs before bytes y = FieldText y.0 bytes y.1 × IsField before y.0

field_found : (before : List Field) (bytes : List ℕ) (y : Field × List ℕ)
    → field_behind before bytes ≡ Ok y → FieldIs before bytes y
unfolding field_behind
field_found before bytes y e =
    let a = bind_ok (want (a_field_name before) bytes)
    (λ name. kind_at (eqb (length before) 0) name.1 >>= λ kind. Ok
    (record { name = name.0; kind = kind.0 }, kind.1)) y e in
    let b = bind_ok (kind_at (eqb (length before) 0) a.0.1)
    (λ kind. Ok (record { name = a.0.0; kind = kind.0 }, kind.1)) y a.2 in
    let n = name_found before bytes a.0 a.1 in
    let k = kind_found (eqb (length before) 0) a.0.1 b.0 b.1 in
    let made : Field × List ℕ = (record { name = a.0.0; kind = b.0.0 }, b.0.1) in
    subst (FieldIs before bytes) (done_is made y b.2)
    ((a.0.1, n.0, k.0), record { name = n.1; new = n.2; room = n.3; kind = k.1 })

-- the fields that come after those before, with the bracket that closes them
pub record FieldsAre (before : List Field) (bytes : List ℕ) (all : List Field)
    (rest : List ℕ) : Type 0 where
  pub more : List Field
  pub text : (FieldsText more ⨾ the Close) bytes rest
  pub rules : AreFields before more
  pub whole : all ≡ before ++ more

abbrev no_more : Result (List Field) Why
no_more = Err why.Count

never : (x : List Field) → no_more ≡ Ok x → ⊥
never x e = cc

nonempty_text : (f : Field) (fs : List Field) (bytes mid after rest : List ℕ)
    → FieldText f bytes mid → the Comma mid after → (FieldsText fs ⨾ the Close) after rest
    → (FieldsText (f ∷ fs) ⨾ the Close) bytes rest
nonempty_text f [] bytes mid after rest field comma others = absurd others.1
nonempty_text f (g ∷ fs) bytes mid after rest field comma others =
    (others.0, (mid, field, (after, comma, others.1)), others.2)

fields_step : (room : ℕ) (before : List Field) (bytes : List ℕ) (f : Field) (mid : List ℕ)
    (more : Bool) (after : List ℕ) (y : List Field × List ℕ) → FieldIs before bytes (f, mid)
    → want comma_or_close mid ≡ Ok (more, after)
    → cond more (fields_at room (before ++ f ∷ []) after) (Ok (before ++ f ∷ [], after)) ≡ Ok y
    → (fields_at room (before ++ f ∷ []) after ≡ Ok y → FieldsAre (before ++ f ∷ []) after y.0 y.1)
    → FieldsAre before bytes y.0 y.1
fields_step room before bytes f mid true after y field comma e others =
    let o = others e in
    record {
      more = f ∷ o.more;
      text = nonempty_text f o.more bytes mid after y.1 field.0
          (list_mark_found mid (true, after) comma) o.text;
      rules = (field.1, o.rules);
      whole = o.whole ∙ append_assoc before (f ∷ []) o.more;
    }
fields_step room before bytes f mid false after y field close e others =
    subst (λ (z : List Field × List ℕ). FieldsAre before bytes z.0 z.1)
    (done_is (before ++ f ∷ [], after) y e)
    (record {
      more = f ∷ [];
      text = (mid, field.0, list_mark_found mid (false, after) close);
      rules = (field.1, tt);
      whole = refl;
    })

pub fields_found : (room : ℕ) (before : List Field) (bytes : List ℕ) (y : List Field × List ℕ)
    → fields_at room before bytes ≡ Ok y → FieldsAre before bytes y.0 y.1
unfolding fields_at
fields_found zero before bytes y e = let w = want_ok (λ _. no_more) bytes y e in
    absurd (never y.0 w.is)
fields_found (suc room) before bytes y e =
    let a = bind_ok (field_behind before bytes)
    (λ field. want comma_or_close field.1 >>= λ more. cond more.0
    (fields_at room (before ++ field.0 ∷ []) more.1) (Ok (before ++ field.0 ∷ [], more.1)))
    y e in
    let b = bind_ok (want comma_or_close a.0.1)
    (λ more. cond more.0 (fields_at room (before ++ a.0.0 ∷ []) more.1)
    (Ok (before ++ a.0.0 ∷ [], more.1))) y a.2 in
    fields_step room before bytes a.0.0 a.0.1 b.0.0 b.0.1 y (field_found before bytes a.0 a.1) b.1
    b.2 (fields_found room (before ++ a.0.0 ∷ []) b.0.1 y)

-- ---- files and links

-- a list of fields that has a text is not empty
some_fields : (fs : List Field) (bytes rest : List ℕ) → (FieldsText fs ⨾ the Close) bytes rest
    → 0 < length fs
some_fields [] bytes rest h = absurd h.1
some_fields (f ∷ fs) bytes rest h = omega arith

new_name_found : (s : Schema) (bytes : List ℕ) (y : List ℕ × List ℕ)
    → want (a_new_name s) bytes ≡ Ok y → the (Word y.0) bytes y.1 × IsName y.0
    × (has_file s.files y.0 ≡ false) × (has_link s.links y.0 ≡ false)
new_name_found s bytes y e =
    let f = word_ok _ bytes y e in
    let w = f.text in
    let g = test_ok (not (starts_with_letter w) || (has_file s.files w || has_link s.links w))
    why.NameUse (Ok w) y.0 f.is in
    let p = or_parts _ _ g.0 in
    let q = or_parts _ _ p.1 in
    subst (λ (z : List ℕ). the (Word z) bytes y.1 × IsName z × (has_file s.files z ≡ false)
    × (has_link s.links z ≡ false)) (means_is w y.0 g.1)
    (f.first, record { word = f.first.begins.is_token; letter = not-false _ p.0 }, q.0, q.1)

-- the file is new but for how many files there are
record FileIs (s : Schema) (bytes : List ℕ) (y : FileDef × List ℕ) : Type 0 where
  pub text : (the (Word y.0.name) ⨾ the Open ⨾ FieldsText y.0.fields ⨾ the Close) bytes y.1
  pub name : IsName y.0.name
  pub new : has_file s.files y.0.name ≡ false
  pub no_link : has_link s.links y.0.name ≡ false
  pub some : 0 < length y.0.fields
  pub fields : AreFields [] y.0.fields

file_found : (s : Schema) (bytes : List ℕ) (y : FileDef × List ℕ) → file_behind s bytes ≡ Ok y
    → FileIs s bytes y
unfolding file_behind
file_found s bytes y e =
    let a = bind_ok (want (a_new_name s) bytes)
    (λ name. want an_open name.1 >>= λ opened. fields_at 33 [] opened.1 >>= λ fields. Ok
    (record { name = name.0; fields = fields.0 }, fields.1)) y e in
    let b = bind_ok (want an_open a.0.1)
    (λ opened. fields_at 33 [] opened.1 >>= λ fields. Ok
    (record { name = a.0.0; fields = fields.0 }, fields.1)) y a.2 in
    let c = bind_ok (fields_at 33 [] b.0.1)
    (λ fields. Ok (record { name = a.0.0; fields = fields.0 }, fields.1)) y b.2 in
    let n = new_name_found s bytes a.0 a.1 in
    let o = open_found a.0.1 b.0 b.1 in
    let f = fields_found 33 [] b.0.1 c.0 c.1 in
    let more : f.more ≡ c.0.0 = sym f.whole in
    let fields = subst (λ (fs : List Field). (FieldsText fs ⨾ the Close) b.0.1 c.0.1
    × AreFields [] fs) more (f.text, f.rules) in
    let made : FileDef × List ℕ = (record { name = a.0.0; fields = c.0.0 }, c.0.1) in
    subst (FileIs s bytes) (done_is made y c.2)
    (record {
      text = (a.0.1, n.0, (b.0.1, o, fields.0));
      name = n.1;
      new = n.2;
      no_link = n.3;
      some = some_fields c.0.0 b.0.1 c.0.1 fields.0;
      fields = fields.1;
    })

place_case : (o : Option ℕ) (place : ℕ) → number_from o ≡ Ok place → o ≡ Some place
place_case None place e = absurd cc
place_case (Some n) place e = cc

place_found : (files : List FileDef) (bytes : List ℕ) (y : ℕ × List ℕ)
    → want (a_file_name files) bytes ≡ Ok y → FileNameText files y.0 bytes y.1
place_found files bytes y e =
    let f = word_ok _ bytes y e in
    (f.text, place_case (file_position files f.text) y.0 f.is, f.first)

-- a file of the schema is named
name_in : (files : List FileDef) (number : ℕ) (bytes rest : List ℕ)
    → FileNameText files number bytes rest → number < length files
name_in [] number bytes rest h = let none : ◌≡◌ {A = Option ℕ} None (Some number) = h.1 in absurd cc
name_in (f ∷ fs) number bytes rest h =
    (position-Some (λ (g : FileDef). pointwise nat_eq g.name h.0) (f ∷ fs) number f h.1).0

-- the link is new but for how many links there are
record LinkIs (s : Schema) (bytes : List ℕ) (y : LinkDef × List ℕ) : Type 0 where
  pub text : (the (Word y.0.name) ⨾ the Open ⨾ FileNameText s.files y.0.owner ⨾ the Comma ⨾
      FileNameText
      s.files y.0.member ⨾ the Close) bytes y.1
  pub name : IsName y.0.name
  pub no_file : has_file s.files y.0.name ≡ false
  pub new : has_link s.links y.0.name ≡ false
  pub owner : y.0.owner < length s.files
  pub member : y.0.member < length s.files

link_found : (s : Schema) (bytes : List ℕ) (y : LinkDef × List ℕ) → link_behind s bytes ≡ Ok y
    → LinkIs s bytes y
unfolding link_behind
link_found s bytes y e =
    let f3 : (n : List ℕ) (o m : ℕ) → Unit {0} × List ℕ → Result (LinkDef × List ℕ) Fault =
    λ n o m closed. Ok (record { name = n; owner = o; member = m }, closed.1) in
    let a = bind_ok (want (a_new_name s) bytes)
    (λ name. want an_open name.1 >>= λ opened. want (a_file_name s.files) opened.1 >>= λ owner.
    want a_comma owner.1 >>= λ comma. want (a_file_name s.files) comma.1 >>= λ member. want
    a_close member.1 >>= f3 name.0 owner.0 member.0) y e in
    let b = bind_ok (want an_open a.0.1)
    (λ opened. want (a_file_name s.files) opened.1 >>= λ owner. want a_comma owner.1 >>=
    λ comma. want (a_file_name s.files) comma.1 >>= λ member. want a_close member.1 >>= f3
    a.0.0 owner.0 member.0) y a.2 in
    let c = bind_ok (want (a_file_name s.files) b.0.1)
    (λ owner. want a_comma owner.1 >>= λ comma. want (a_file_name s.files) comma.1 >>= λ member.
    want a_close member.1 >>= f3 a.0.0 owner.0 member.0) y b.2 in
    let d = bind_ok (want a_comma c.0.1)
    (λ comma. want (a_file_name s.files) comma.1 >>= λ member. want a_close member.1 >>= f3
    a.0.0 c.0.0 member.0) y c.2 in
    let g = bind_ok (want (a_file_name s.files) d.0.1)
    (λ member. want a_close member.1 >>= f3 a.0.0 c.0.0 member.0) y d.2 in
    let h = bind_ok (want a_close g.0.1) (f3 a.0.0 c.0.0 g.0.0) y g.2 in
    let n = new_name_found s bytes a.0 a.1 in
    let made : LinkDef × List ℕ = (record { name = a.0.0; owner = c.0.0; member = g.0.0 }, h.0.1) in
    let owner = place_found s.files b.0.1 c.0 c.1 in
    let member = place_found s.files d.0.1 g.0 g.1 in
    subst (LinkIs s bytes) (done_is made y h.2) (record {
      text = (
        a.0.1,
        n.0,
        (
          b.0.1,
          open_found a.0.1 b.0 b.1,
          (
            c.0.1,
            owner,
            (
              d.0.1,
              comma_found c.0.1 d.0 d.1,
              (g.0.1, member, close_found g.0.1 h.0 h.1),
            ),
          ),
        ),
      );
      name = n.1;
      no_file = n.2;
      new = n.3;
      owner = name_in s.files c.0.0 b.0.1 c.0.1 owner;
      member = name_in s.files g.0.0 d.0.1 g.0.1 member;
    })

-- what the next_token item is, or the end
abbrev pub ItemIs : Schema → List ℕ → Option Item → List ℕ → Type 0
ItemIs s bytes None rest = the End bytes rest × (0 < length s.files)
ItemIs s bytes (Some i) rest = ItemText s i bytes rest × IsItem s i

abbrev pub Items : Type 0
Items = Option Item × List ℕ

-- what a start stands for
abbrev pub StartIs : Schema → Start → List ℕ → List ℕ → Type 0
StartIs s Starts_file bytes rest = the (Word (codes "file")) bytes rest × (length s.files < 32)
StartIs s Starts_link bytes rest = the (Word (codes "link")) bytes rest × (length s.links < 32)
StartIs s Ends bytes rest = the End bytes rest × (0 < length s.files)

start_word : (s : Schema) (text bytes rest : List ℕ) (start : Start) → the (Word text) bytes rest
    → cond (pointwise nat_eq text (codes "file"))
    (cond (leb 32 (length s.files)) (Err why.Count) (Ok Starts_file))
    (cond (pointwise nat_eq text (codes "link"))
    (cond (leb 32 (length s.links)) (Err why.Count) (Ok Starts_link))
    (Err why.Unexpected)) ≡ Ok start
    → StartIs s start bytes rest
start_word s text bytes rest start word e =
    cond_both (pointwise nat_eq text (codes "file")) _ _
    (λ (r : Result Start Why). r ≡ Ok start → StartIs s start bytes rest)
    (λ is h. let g = test_ok (leb 32 (length s.files)) why.Count (Ok Starts_file) start h in
    subst (λ (z : Start). StartIs s z bytes rest) (means_is Starts_file start g.1) (
      subst (λ (t : List ℕ). the (Word t) bytes rest) ((same_bytes text (codes "file")).0 is) word,
      leb-false _ _ g.0,
    ))
    (λ _ h. cond_both (pointwise nat_eq text (codes "link")) _ _
    (λ (r : Result Start Why). r ≡ Ok start → StartIs s start bytes rest)
    (λ is k. let g = test_ok (leb 32 (length s.links)) why.Count (Ok Starts_link) start k in
    subst (λ (z : Start). StartIs s z bytes rest) (means_is Starts_link start g.1) (
      subst (λ (t : List ℕ). the (Word t) bytes rest) ((same_bytes text (codes "link")).0 is) word,
      leb-false _ _ g.0,
    ))
    (λ _ k. absurd cc)
    h)
    e

pub start_case : (s : Schema) (bytes : List ℕ) (t : Lexeme) (rest : List ℕ) (start : Start)
    → the t bytes rest → an_item_start s t ≡ Ok start → StartIs s start bytes rest
start_case s bytes (Word text) rest start word e = start_word s text bytes rest start word e
start_case s bytes End rest start word e =
    let g = test_ok (eqb (length s.files) 0) why.End (Ok Ends) start e in
    let some = eqb-false _ _ g.0 in
    subst (λ (z : Start). StartIs s z bytes rest) (means_is Ends start g.1) (word, omega arith)
start_case s bytes (Number text) rest start word e = absurd cc
start_case s bytes (Quoted text) rest start word e = absurd cc
start_case s bytes Open rest start word e = absurd cc
start_case s bytes Close rest start word e = absurd cc
start_case s bytes Comma rest start word e = absurd cc
start_case s bytes Equals rest start word e = absurd cc

item_case : (s : Schema) (start : Start) (bytes rest : List ℕ) (y : Items)
    → StartIs s start bytes rest → item_from s start rest ≡ Ok y → ItemIs s bytes y.0 y.1
item_case s Starts_file bytes rest y start e =
    let m = mapped_ok as_file (file_behind s rest) y e in
    let f = file_found s rest m.0 m.1 in
    subst (λ (z : Items). ItemIs s bytes z.0 z.1) m.2 (
      (rest, start.0, f.text),
      (
        record { name = f.name; new = f.new; room = start.1; some = f.some; fields = f.fields },
        f.no_link,
      ),
    )
item_case s Starts_link bytes rest y start e =
    let m = mapped_ok as_link (link_behind s rest) y e in
    let f = link_found s rest m.0 m.1 in
    subst (λ (z : Items). ItemIs s bytes z.0 z.1) m.2 (
      (rest, start.0, f.text),
      record {
        name = f.name;
        no_file = f.no_file;
        new = f.new;
        room = start.1;
        owner = f.owner;
        member = f.member;
      },
    )
item_case s Ends bytes rest y start e =
    subst (λ (z : Items). ItemIs s bytes z.0 z.1) (done_is (None, rest) y e) start

pub item_found : (s : Schema) (bytes : List ℕ) (y : Items) → item_at s bytes ≡ Ok y
    → ItemIs s bytes y.0 y.1
unfolding item_at
item_found s bytes y e =
    let a = bind_ok (want (an_item_start s) bytes) (λ start. item_from s start.0 start.1) y e in
    let w = want_ok (an_item_start s) bytes a.0 a.1 in
    item_case s a.0.0 bytes a.0.1 y (start_case s bytes w.token a.0.1 a.0.0 w.first w.is) a.2

-- the items that come after a schema
pub record ItemsAre (before : Schema) (bytes : List ℕ) (all : Schema) : Type 0 where
  pub listed : List Item
  pub rest : List ℕ
  pub text : ItemsToEnd before listed bytes rest
  pub rules : AreItems before listed
  pub whole : all ≡ with_items before listed
  pub some : 0 < length all.files

items_step : (room : ℕ) (before : Schema) (bytes : List ℕ) (o : Option Item) (mid : List ℕ)
    (all : Schema) → ItemIs before bytes o mid
    → ◌≡◌ {A = Result Schema Fault}
    (elim o [ None ↦ Ok before | Some item ↦ items_behind room (with_item before item) mid ])
    (Ok all)
    → ((i : Item) → items_behind room (with_item before i) mid ≡ Ok all
    → ItemsAre (with_item before i) mid all)
    → ItemsAre before bytes all
items_step room before bytes None mid all h e others =
    subst (ItemsAre before bytes) (done_is before all e)
    (record { listed = []; rest = mid; text = h.0; rules = tt; whole = refl; some = h.1 })
items_step room before bytes (Some i) mid all h e others =
    let o = others i e in
    record {
      listed = i ∷ o.listed;
      rest = o.rest;
      text = (mid, h.0, o.text);
      rules = (h.1, o.rules);
      whole = o.whole;
      some = o.some;
    }

abbrev no_more_schema : Result Schema Why
no_more_schema = Err why.Count

never_schema : (x : Schema) → no_more_schema ≡ Ok x → ⊥
never_schema x e = cc

pub items_found : (room : ℕ) (before : Schema) (bytes : List ℕ) (all : Schema)
    → items_behind room before bytes ≡ Ok all → ItemsAre before bytes all
unfolding items_behind
items_found zero before bytes all e =
    let a = bind_ok (want (λ _. no_more_schema) bytes) (λ x. Ok x.0) all e in
    let w = want_ok (λ _. no_more_schema) bytes a.0 a.1 in
    absurd (never_schema a.0.0 w.is)
items_found (suc room) before bytes all e =
    let a = bind_ok (item_at before bytes)
    (λ x. elim x.0 [ None ↦ Ok before | Some item ↦ items_behind room (with_item before item) x.1 ])
    all e in
    items_step room before bytes a.0.0 a.0.1 all (item_found before bytes a.0 a.1) a.2
    (λ i. items_found room (with_item before i) a.0.1 all)

pub schema_found : (bytes : List ℕ) (all : Schema) → all_items bytes ≡ Ok all
    → IsSchemaText bytes all
schema_found bytes all e =
    let i = items_found 65 no_schema bytes all e in
    record {
      listed = i.listed;
      rest = i.rest;
      text = i.text;
      rules = i.rules;
      whole = i.whole;
      some = i.some;
    }
