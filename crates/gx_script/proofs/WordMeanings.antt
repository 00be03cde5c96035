-- What single words mean, both ways: names, keywords, operators and values.
use Rattle.std.proofs.Common.{◌≡◌, ℕ, ◌<◌, ◌≤◌, ◌^◌, ℤ, pos, negsuc, Bool, true, false, cond, ltb, leb, List, [], ◌∷◌, length, Option, Some, None, Ok, refl, sym, ap, subst, ◌∙◌, inl, inr, arith}
use Rattle.std.specs.Prelude.{nat_eq}
use Rattle.std.specs.Option.{ok_or}
use Rattle.std.specs.Int.{w64}
use Rattle.std.specs.Int.RustNames.{FitsSigned}
use Rattle.std.specs.List.{AllByRecursion, list_all}
use Rattle.std.specs.Cmp.Lexicographic.{pointwise}
use Rattle.std.proofs.lemmas.Slice.Eq.{slice_eq-Decides}
use Rattle.std.proofs.lemmas.Bool.Decides.{Decides-eqb}
use Rattle.std.proofs.lemmas.Bool.{cond_both, cond-true, ltb-true, leb-true, le-leb, ne_eqb, eq-eqb, and_from}
use Rattle.std.proofs.lemmas.List.Quantifiers.{position-Some}
use Rattle.std.proofs.lemmas.Option.{same_Some}
use Rattle.gx_values.specs.declared.values.Kind.{Kind}
use Rattle.gx_values.specs.declared.values.Kind.TheVariants as kind
use Rattle.gx_values.specs.declared.values.Op.{Op}
use Rattle.gx_values.specs.declared.values.Op.TheVariants as op
use Rattle.gx_values.specs.declared.values.Value.{Value}
use Rattle.gx_values.specs.declared.values.Value.TheVariants as value
use Rattle.gx_values.specs.Values.{Fits, is_printable, no_field}
use Rattle.gx_schema.specs.declared.schema.FileDef.{FileDef}
use Rattle.gx_schema.specs.declared.schema.LinkDef.{LinkDef}
use Rattle.gx_schema.specs.declared.schema.Schema.{Schema}
use Rattle.gx_schema.specs.Lookups.{no_file, no_link}
use Rattle.gx_tokens.specs.Numbers.{is_number, number_value, signed_in_range, signed_number}
use Rattle.gx_tokens.specs.Quotes.{unquoted}
use Rattle.gx_tokens.specs.Spelling.{IsQuoted}
use Rattle.gx_tokens.proofs.NumberLaws.{in_range_again}
use Rattle.gx_commands.specs.declared.command.LineWhy.{LineWhy}
use Rattle.gx_commands.specs.declared.command.LineWhy.TheVariants as why
use Rattle.gx_script.specs.declared.keywords.Verb.{Verb}
use Rattle.gx_script.specs.declared.keywords.Verb.TheVariants as verb
use Rattle.gx_commands.specs.Words.{Word, Bare, Quoted, IsLineWord}
use Rattle.gx_script.specs.Names.{is_text, verb_text, verb_of, op_text, op_of, file_number, link_number, field_number}
use Rattle.gx_script.specs.Reading.{met, want, int_from, bare_or, behind, a_value}
use Rattle.gx_script.specs.Grammar.{the, IsLiteral, Literal}
use Rattle.gx_script.proofs.Steps.{held_ok, want_ok, ok_is}

-- each word of the line is one
abbrev pub AllWords : List Word → Type 0
AllWords words = AllByRecursion IsLineWord words

pub words_behind : (words : List Word) (w : Word) (rest : List Word) → words ≡ w ∷ rest
    → AllWords words → AllWords rest
words_behind words w rest e h = let whole : AllWords (w ∷ rest) = subst AllWords e h in whole.1

pub word_first : (words : List Word) (w : Word) (rest : List Word) → words ≡ w ∷ rest
    → AllWords words → IsLineWord w
word_first words w rest e h = let whole : AllWords (w ∷ rest) = subst AllWords e h in whole.0

-- ---- names

bare_is : {A : Type 0} (reason : LineWhy) (o : Option A) (x : A) → ok_or o reason ≡ Ok x
    → o ≡ Some x
bare_is reason None x e = absurd cc
bare_is reason (Some y) x e = ap (λ z. Some z) (ok_is y x e)

pub bare_found : {A : Type 0} (reason : LineWhy) (meaning : List ℕ → Option A) (w : Word) (x : A)
    → bare_or reason meaning w ≡ Ok x → (text : List ℕ) × (w ≡ Bare text) × (meaning text ≡ Some x)
bare_found reason meaning (Quoted text) x e = absurd cc
bare_found reason meaning (Bare text) x e = (text, refl, bare_is reason (meaning text) x e)

pub name_found : {A : Type 0} (reason : LineWhy) (meaning : List ℕ → Option A) (words : List Word)
    (y : A × List Word) → want (bare_or reason meaning) words ≡ Ok y
    → (text : List ℕ) × the text words y.1 × (meaning text ≡ Some y.0)
name_found reason meaning words y e =
    let w = want_ok (bare_or reason meaning) words y e in
    let b = bare_found reason meaning w.word y.0 w.is in
    (b.0, w.first ∙ ap (λ (v : Word). v ∷ y.1) b.1, b.2)

pub name_again : {A : Type 0} (reason : LineWhy) (meaning : List ℕ → Option A) (words : List Word)
    (text : List ℕ) (x : A) (rest : List Word) → the text words rest → meaning text ≡ Some x
    → want (bare_or reason meaning) words ≡ Ok (x, rest)
name_again {A} reason meaning words text x rest e is =
    ap (λ (ws : List Word). want (bare_or reason meaning) ws) e
    ∙ ap (λ (o : Option A). met (ok_or o reason) rest) is

pub file_within : (schema : Schema) (name : List ℕ) (file : ℕ)
    → file_number schema.files name ≡ Some file → file < length schema.files
unfolding file_number
file_within schema name file e =
    (position-Some (λ (f : FileDef). is_text f.name name) schema.files file no_file e).0

pub link_within : (schema : Schema) (name : List ℕ) (link : ℕ)
    → link_number schema.links name ≡ Some link → link < length schema.links
unfolding link_number
link_within schema name link e =
    (position-Some (λ (l : LinkDef). is_text l.name name) schema.links link no_link e).0

pub field_within : (file : FileDef) (name : List ℕ) (field : ℕ)
    → field_number file.fields name ≡ Some field → field < length file.fields
unfolding field_number
field_within file name field e =
    (position-Some (λ f. is_text f.name name) file.fields field no_field e).0

-- ---- keywords

pub same_text : (a b : List ℕ) → is_text a b ≡ true → a ≡ b
same_text a b e = (slice_eq-Decides Decides-eqb a b (pointwise nat_eq a b) refl).0 e

pub text_same : (a : List ℕ) → is_text a a ≡ true
text_same [] = refl
text_same (x ∷ xs) = and_from _ _ (eq-eqb x x refl) (text_same xs)

pub verb_again : (v : Verb) → verb_of (verb_text v) ≡ Some v
unfolding verb_of
verb_again verb.Begin = refl
verb_again verb.Commit = refl
verb_again verb.Abort = refl
verb_again verb.Insert = refl
verb_again verb.Get = refl
verb_again verb.Update = refl
verb_again verb.Delete = refl
verb_again verb.Connect = refl
verb_again verb.Disconnect = refl
verb_again verb.Members = refl
verb_again verb.Owner = refl
verb_again verb.Find = refl
verb_again verb.Reorganize = refl

verb_step : (text : List ℕ) (v w : Verb) (others : Option Verb)
    → (others ≡ Some w → text ≡ verb_text w)
    → cond (is_text text (verb_text v)) (Some v) others ≡ Some w → text ≡ verb_text w
verb_step text v w others later e =
    cond_both (is_text text (verb_text v)) (Some v) others (λ (r : Option Verb). r ≡ Some w
    → text ≡ verb_text w)
    (λ is h. same_text text (verb_text v) is ∙ ap verb_text (same_Some v w h))
    (λ _ h. later h)
    e

pub verb_found : (text : List ℕ) (w : Verb) → verb_of text ≡ Some w → text ≡ verb_text w
unfolding verb_of
verb_found text w e =
    verb_step text verb.Begin w _
    (verb_step text verb.Commit w _
    (verb_step text verb.Abort w _ (verb_step text verb.Insert w _
    (verb_step text verb.Get w _
    (verb_step text verb.Update w _
    (verb_step text verb.Delete w _ (verb_step text verb.Connect w _
    (verb_step text verb.Disconnect w _
    (verb_step text verb.Members w _
    (verb_step text verb.Owner w _ (verb_step text verb.Find w _
    (verb_step text verb.Reorganize w None (λ h. absurd cc))))))))))))) e

pub op_again : (o : Op) → op_of (op_text o) ≡ Some o
unfolding op_of
op_again op.Equal = refl
op_again op.Unequal = refl
op_again op.Less = refl
op_again op.AtMost = refl
op_again op.Greater = refl
op_again op.AtLeast = refl

op_step : (text : List ℕ) (o p : Op) (others : Option Op) → (others ≡ Some p → text ≡ op_text p)
    → cond (is_text text (op_text o)) (Some o) others ≡ Some p → text ≡ op_text p
op_step text o p others later e =
    cond_both (is_text text (op_text o)) (Some o) others (λ (r : Option Op). r ≡ Some p
    → text ≡ op_text p)
    (λ is h. same_text text (op_text o) is ∙ ap op_text (same_Some o p h))
    (λ _ h. later h)
    e

pub op_found : (text : List ℕ) (p : Op) → op_of text ≡ Some p → text ≡ op_text p
unfolding op_of
op_found text p e =
    op_step text op.Equal p _
    (op_step text op.Unequal p _
    (op_step text op.Less p _ (op_step text op.AtMost p _ (op_step text op.Greater p _
    (op_step text op.AtLeast p None (λ h. absurd cc)))))) e

behind_is : (text keyword : List ℕ) (ws rest : List Word)
    → cond (is_text text keyword) (Some ws) None ≡ Some rest → the keyword (Bare text ∷ ws) rest
behind_is text keyword ws rest e =
    cond_both (is_text text keyword) (Some ws) None (λ (r : Option (List Word)). r ≡ Some rest
    → the keyword (Bare text ∷ ws) rest)
    (λ is h. ap (λ (t : List ℕ). Bare t ∷ ws) (same_text text keyword is)
    ∙ ap (λ (vs : List Word). Bare keyword ∷ vs) (same_Some ws rest h))
    (λ _ h. absurd cc)
    e

pub behind_found : (keyword : List ℕ) (words rest : List Word) → behind keyword words ≡ Some rest
    → the keyword words rest
behind_found keyword [] rest e = absurd cc
behind_found keyword (Quoted text ∷ ws) rest e = absurd cc
behind_found keyword (Bare text ∷ ws) rest e = behind_is text keyword ws rest e

pub behind_again : (keyword : List ℕ) (words rest : List Word) → the keyword words rest
    → behind keyword words ≡ Some rest
behind_again keyword words rest e = rw (e, text_same keyword) refl

-- ---- values

in_range_found : (z n : ℤ) → signed_in_range z ≡ Some n → (z ≡ n) × FitsSigned w64 n
in_range_found (pos k) n e =
    cond_both (ltb k (2 ^ 63)) (Some (pos k)) None (λ (r : Option ℤ). r ≡ Some n
    → (pos k ≡ n) × FitsSigned w64 n)
    (λ lt h. let is = same_Some (pos k) n h in let low = ltb-true k (2 ^ 63) lt in
    let fits : FitsSigned w64 (pos k) = omega arith in (is, subst (FitsSigned w64) is fits))
    (λ _ h. absurd cc)
    e
in_range_found (negsuc k) n e =
    cond_both (ltb k (2 ^ 63)) (Some (negsuc k)) None (λ (r : Option ℤ). r ≡ Some n
    → (negsuc k ≡ n) × FitsSigned w64 n)
    (λ lt h. let is = same_Some (negsuc k) n h in let low = ltb-true k (2 ^ 63) lt in
    let fits : FitsSigned w64 (negsuc k) = omega arith in (is, subst (FitsSigned w64) is fits))
    (λ _ h. absurd cc)
    e

pub signed_found : (text : List ℕ) (n : ℤ) → signed_number text ≡ Some n
    → (is_number text ≡ true) × (number_value text ≡ n) × FitsSigned w64 n
signed_found text n e =
    cond_both (is_number text) (signed_in_range (number_value text)) None
    (λ (r : Option ℤ). r ≡ Some n → (is_number text ≡ true) × (number_value text ≡ n)
    × FitsSigned w64 n)
    (λ is h. let z = in_range_found (number_value text) n h in (is, z.0, z.1))
    (λ _ h. absurd cc)
    e

signed_again : (text : List ℕ) (n : ℤ) → is_number text ≡ true → number_value text ≡ n
    → FitsSigned w64 n → signed_number text ≡ Some n
signed_again text n is v fits = cond-true (is_number text) _ _ is
    ∙ (ap signed_in_range v ∙ in_range_again n fits)

-- what is meant by a quoted text is printable
printable : (flag : Bool) (text : List ℕ) → IsQuoted flag text
    → list_all is_printable (unquoted flag text) ≡ true
printable false [] q = refl
printable true [] q = absurd q
printable true (b ∷ bs) q = printable false bs q.1
printable false (b ∷ bs) (inl q) =
    let here : is_printable b ≡ true = subst (λ (n : ℕ). is_printable n ≡ true) (sym q.0) refl in
    and_from _ _ here (ap (λ (f : Bool). list_all is_printable (unquoted f bs)) (eq-eqb b 34 q.0)
    ∙ printable true bs q.1)
printable false (b ∷ bs) (inr q) =
    let here : is_printable b ≡ true = q.1 in
    and_from _ _ here (ap (λ (f : Bool). list_all is_printable (unquoted f bs)) (ne_eqb b 34 q.0)
    ∙ printable false bs q.2)

abbrev IsValue : Kind → Word → Value → Type 0
IsValue k w v = IsLiteral v w × Fits k v

int_found : (text : List ℕ) (o : Option ℤ) (v : Value) → signed_number text ≡ o → int_from o ≡ Ok v
    → IsValue kind.Int (Bare text) v
int_found text None v is e = absurd cc
int_found text (Some n) v is e =
    let s = signed_found text n is in
    subst (IsValue kind.Int (Bare text)) (ok_is (value.Int n) v e) ((s.0, s.1), s.2)

value_is : (k : Kind) (w : Word) (v : Value) → IsLineWord w → a_value k w ≡ Ok v → IsValue k w v
value_is kind.Int (Bare text) v word e = int_found text (signed_number text) v refl e
value_is kind.Int (Quoted text) v word e = absurd cc
value_is (kind.Text most) (Bare text) v word e = absurd cc
value_is (kind.Text most) (Quoted text) v word e =
    let h = held_ok (leb (length (unquoted false text)) most)
    (Ok (value.Text (unquoted false text))) why.Value v e in
    subst (IsValue (kind.Text most) (Quoted text)) (ok_is (value.Text (unquoted false text)) v h.1)
    (refl, (leb-true _ _ h.0, printable false text word))
value_is (kind.Bytes most) (Bare text) v word e = absurd cc
value_is (kind.Bytes most) (Quoted text) v word e = absurd cc

means_value : (k : Kind) (w : Word) (v : Value) → IsLiteral v w → Fits k v → a_value k w ≡ Ok v
means_value kind.Int (Bare text) (value.Int n) lit fits =
    ap int_from (signed_again text n lit.0 lit.1 fits)
means_value kind.Int (Quoted text) (value.Int n) lit fits = absurd lit
means_value kind.Int w (value.Text t) lit fits = absurd fits
means_value kind.Int w (value.Bytes t) lit fits = absurd fits
means_value (kind.Text most) w (value.Int n) lit fits = absurd fits
means_value (kind.Text most) (Bare text) (value.Text t) lit fits = absurd lit
means_value (kind.Text most) (Quoted text) (value.Text t) lit fits =
    let short : length (unquoted false text) ≤ most = rw lit fits.0 in
    cond-true (leb (length (unquoted false text)) most) _ _ (le-leb _ _ short)
    ∙ ap (λ (u : List ℕ). Ok (value.Text u)) lit
means_value (kind.Text most) w (value.Bytes t) lit fits = absurd fits
means_value (kind.Bytes most) w (value.Int n) lit fits = absurd fits
means_value (kind.Bytes most) w (value.Text t) lit fits = absurd fits
means_value (kind.Bytes most) (Bare text) (value.Bytes t) lit fits = absurd lit
means_value (kind.Bytes most) (Quoted text) (value.Bytes t) lit fits = absurd lit

pub record ValueFound (k : Kind) (words : List Word) (y : Value × List Word) : Type 0 where
  pub text : Literal y.0 words y.1
  pub fits : Fits k y.0
  pub rest : AllWords y.1

pub value_found : (k : Kind) (words : List Word) (y : Value × List Word) → AllWords words
    → want (a_value k) words ≡ Ok y → ValueFound k words y
value_found k words y all e =
    let w = want_ok (a_value k) words y e in
    let v = value_is k w.word y.0 (word_first words w.word y.1 w.first all) w.is in
    record {
      text = (w.word, w.first, v.0);
      fits = v.1;
      rest = words_behind words w.word y.1 w.first all;
    }

pub value_again : (k : Kind) (v : Value) (words rest : List Word) → Literal v words rest → Fits k v
    → want (a_value k) words ≡ Ok (v, rest)
value_again k v words rest l fits = rw (l.1, means_value k l.0 v l.2 fits) refl
