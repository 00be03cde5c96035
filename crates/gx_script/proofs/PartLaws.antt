-- The parts of commands, both ways.
use Rattle.std.proofs.Common.{◌≡◌, ℕ, ◌<◌, List, [], ◌∷◌, ◌++◌, length, Ok, refl, sym, ap, subst, ◌∙◌, append_assoc}
use Rattle.std.proofs.lemmas.List.{append-nil}
use Rattle.gx_values.specs.declared.values.Value.{Value}
use Rattle.gx_values.specs.declared.records.Field.{Field}
use Rattle.gx_values.specs.Values.{AreFit}
use Rattle.gx_schema.specs.declared.schema.Schema.{Schema}
use Rattle.gx_schema.specs.Lookups.{file_at, link_at, key_kind}
use Rattle.gx_commands.specs.declared.command.LineWhy.TheVariants as why
use Rattle.gx_commands.specs.Commands.{IsKeyOf}
use Rattle.gx_commands.specs.Words.{Word, Bare}
use Rattle.gx_script.specs.Names.{file_number, link_number}
use Rattle.gx_script.specs.Reading.{want, a_file, a_link, a_value, record_at, link_and_owner, member_at, values_at}
use Rattle.gx_script.specs.Grammar.{◌⨾◌, FileName, LinkName, Literal, Literals}
use Rattle.gx_script.proofs.Steps.{bind_ok, bind_is, ok_is}
use Rattle.gx_script.proofs.WordMeanings.{AllWords, words_behind, name_found, name_again, file_within, link_within, value_found, value_again}

-- ---- FILE KEY

pub record RecordFound (schema : Schema) (words : List Word) (y : ℕ × Value × List Word) : Type 0
  where
    pub text : (FileName schema y.0 ⨾ Literal y.1) words y.2
    pub file : y.0 < length schema.files
    pub key : IsKeyOf (file_at schema y.0) y.1
    pub rest : AllWords y.2

pub record_found : (schema : Schema) (words : List Word) (y : ℕ × Value × List Word)
    → AllWords words → record_at schema words ≡ Ok y → RecordFound schema words y
unfolding record_at
record_found schema words y all e =
    let a = bind_ok (want (a_file schema) words) _ y e in
    let k = key_kind (file_at schema a.0.0) in
    let b = bind_ok (want (a_value k) a.0.1) _ y a.2 in
    let n = name_found why.File (file_number schema.files) words a.0 a.1 in
    let v = value_found k a.0.1 b.0 (words_behind words (Bare n.0) a.0.1 n.1 all) b.1 in
    let made : ℕ × Value × List Word = (a.0.0, b.0.0, b.0.1) in
    subst (RecordFound schema words) (ok_is made y b.2)
    (record {
      text = (a.0.1, n, v.text);
      file = file_within schema n.0 a.0.0 n.2;
      key = v.fits;
      rest = v.rest;
    })

pub record_again : (schema : Schema) (file : ℕ) (key : Value) (words rest : List Word)
    → (FileName schema file ⨾ Literal key) words rest → IsKeyOf (file_at schema file) key
    → record_at schema words ≡ Ok (file, key, rest)
unfolding record_at
record_again schema file key words rest t fits =
    bind_is (want (a_file schema) words) _ (file, t.0) _
    (name_again why.File (file_number schema.files) words t.1.0 file t.0 t.1.1 t.1.2)
    (bind_is (want (a_value (key_kind (file_at schema file))) t.0) _ (key, rest) _
    (value_again (key_kind (file_at schema file)) key t.0 rest t.2 fits) refl)

-- ---- LINK OWNER and LINK MEMBER

pub record OwnerFound (schema : Schema) (words : List Word) (y : ℕ × Value × List Word) : Type 0
  where
    pub text : (LinkName schema y.0 ⨾ Literal y.1) words y.2
    pub link : y.0 < length schema.links
    pub owner : IsKeyOf (file_at schema (link_at schema y.0).owner) y.1
    pub rest : AllWords y.2

pub owner_found : (schema : Schema) (words : List Word) (y : ℕ × Value × List Word) → AllWords words
    → link_and_owner schema words ≡ Ok y → OwnerFound schema words y
unfolding link_and_owner
owner_found schema words y all e =
    let a = bind_ok (want (a_link schema) words) _ y e in
    let k = key_kind (file_at schema (link_at schema a.0.0).owner) in
    let b = bind_ok (want (a_value k) a.0.1) _ y a.2 in
    let n = name_found why.Link (link_number schema.links) words a.0 a.1 in
    let v = value_found k a.0.1 b.0 (words_behind words (Bare n.0) a.0.1 n.1 all) b.1 in
    let made : ℕ × Value × List Word = (a.0.0, b.0.0, b.0.1) in
    subst (OwnerFound schema words) (ok_is made y b.2)
    (record {
      text = (a.0.1, n, v.text);
      link = link_within schema n.0 a.0.0 n.2;
      owner = v.fits;
      rest = v.rest;
    })

pub owner_again : (schema : Schema) (link : ℕ) (owner : Value) (words rest : List Word)
    → (LinkName schema link ⨾ Literal owner) words rest
    → IsKeyOf (file_at schema (link_at schema link).owner) owner
    → link_and_owner schema words ≡ Ok (link, owner, rest)
unfolding link_and_owner
owner_again schema link owner words rest t fits =
    let k = key_kind (file_at schema (link_at schema link).owner) in
    bind_is (want (a_link schema) words) _ (link, t.0) _
    (name_again why.Link (link_number schema.links) words t.1.0 link t.0 t.1.1 t.1.2)
    (bind_is (want (a_value k) t.0) _ (owner, rest) _ (value_again k owner t.0 rest t.2 fits) refl)

pub record MemberFound (schema : Schema) (words : List Word) (y : ℕ × Value × List Word) : Type 0
  where
    pub text : (LinkName schema y.0 ⨾ Literal y.1) words y.2
    pub link : y.0 < length schema.links
    pub member : IsKeyOf (file_at schema (link_at schema y.0).member) y.1
    pub rest : AllWords y.2

pub member_found : (schema : Schema) (words : List Word) (y : ℕ × Value × List Word)
    → AllWords words → member_at schema words ≡ Ok y → MemberFound schema words y
unfolding member_at
member_found schema words y all e =
    let a = bind_ok (want (a_link schema) words) _ y e in
    let k = key_kind (file_at schema (link_at schema a.0.0).member) in
    let b = bind_ok (want (a_value k) a.0.1) _ y a.2 in
    let n = name_found why.Link (link_number schema.links) words a.0 a.1 in
    let v = value_found k a.0.1 b.0 (words_behind words (Bare n.0) a.0.1 n.1 all) b.1 in
    let made : ℕ × Value × List Word = (a.0.0, b.0.0, b.0.1) in
    subst (MemberFound schema words) (ok_is made y b.2)
    (record {
      text = (a.0.1, n, v.text);
      link = link_within schema n.0 a.0.0 n.2;
      member = v.fits;
      rest = v.rest;
    })

pub member_again : (schema : Schema) (link : ℕ) (member : Value) (words rest : List Word)
    → (LinkName schema link ⨾ Literal member) words rest
    → IsKeyOf (file_at schema (link_at schema link).member) member
    → member_at schema words ≡ Ok (link, member, rest)
unfolding member_at
member_again schema link member words rest t fits =
    let k = key_kind (file_at schema (link_at schema link).member) in
    bind_is (want (a_link schema) words) _ (link, t.0) _
    (name_again why.Link (link_number schema.links) words t.1.0 link t.0 t.1.1 t.1.2)
    (bind_is (want (a_value k) t.0) _ (member, rest) _ (value_again k member t.0 rest t.2 fits)
    refl)

-- ---- VALUE {VALUE}

pub record ValuesFound (fields : List Field) (before : List Value) (words : List Word)
    (y : List Value × List Word) : Type 0 where
  pub more : List Value
  pub whole : before ++ more ≡ y.0
  pub text : Literals more words y.1
  pub fit : AreFit fields more
  pub rest : AllWords y.1

pub values_found : (fields : List Field) (before : List Value) (words : List Word) (y : List Value
    × List Word) → AllWords words → values_at fields before words ≡ Ok y
    → ValuesFound fields before words y
unfolding values_at
values_found [] before words y all e =
    let made : List Value × List Word = (before, words) in
    subst (ValuesFound [] before words) (ok_is made y e)
    (record { more = []; whole = append-nil before; text = refl; fit = tt; rest = all })
values_found (f ∷ fs) before words y all e =
    let a = bind_ok (want (a_value f.kind) words) _ y e in
    let v = value_found f.kind words a.0 all a.1 in
    let others = values_found fs (before ++ a.0.0 ∷ []) a.0.1 y v.rest a.2 in
    record {
      more = a.0.0 ∷ others.more;
      whole = sym (append_assoc before (a.0.0 ∷ []) others.more) ∙ others.whole;
      text = (a.0.1, v.text, others.text);
      fit = (v.fits, others.fit);
      rest = others.rest;
    }

pub values_again : (fields : List Field) (values before : List Value) (words rest : List Word)
    → Literals values words rest → AreFit fields values
    → values_at fields before words ≡ Ok (before ++ values, rest)
unfolding values_at
values_again [] [] before words rest t fit = ap (λ (ws : List Word). Ok (before, ws)) t
    ∙ ap (λ (vs : List Value). Ok (vs, rest)) (sym (append-nil before))
values_again [] (v ∷ vs) before words rest t fit = absurd fit
values_again (f ∷ fs) [] before words rest t fit = absurd fit
values_again (f ∷ fs) (v ∷ vs) before words rest t fit =
    bind_is (want (a_value f.kind) words) _ (v, t.0) _ (value_again f.kind v words t.0 t.1 fit.0)
    (values_again fs vs (before ++ v ∷ []) t.0 rest t.2 fit.1
    ∙ ap (λ (all : List Value). Ok (all, rest)) (append_assoc before (v ∷ []) vs))
