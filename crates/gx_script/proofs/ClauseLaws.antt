-- Changes, conditions, the owner and the order of commands, both ways.
use Rattle.std.proofs.Common.{◌≡◌, ◌≢◌, ℕ, zero, suc, ◌<◌, ◌≤◌, Bool, true, false, ◌||◌, cond, eqb, List, [], ◌∷◌, ◌++◌, length, Option, Some, None, Result, Ok, Err, refl, sym, ap, subst, ◌∙◌, inl, inr, arith, append_assoc}
use Rattle.std.specs.Prelude.{codes}
use Rattle.std.specs.Option.{ok_or}
use Rattle.std.specs.List.{AllByRecursion}
use Rattle.std.proofs.lemmas.Bool.{cond_both, cond-true, cond-false, or_parts, eqb-true, eqb-false, eq-eqb, ne_eqb}
use Rattle.gx_schema.specs.declared.schema.FileDef.{FileDef}
use Rattle.gx_schema.specs.declared.schema.Schema.{Schema}
use Rattle.gx_schema.specs.Lookups.{file_at, link_at, field_at, key_kind}
use Rattle.gx_commands.specs.declared.command.Cond.{Cond}
use Rattle.gx_commands.specs.declared.command.Of.{Of}
use Rattle.gx_commands.specs.declared.command.OrderBy.{OrderBy}
use Rattle.gx_commands.specs.declared.command.Change.{Change}
use Rattle.gx_commands.specs.declared.command.LineWhy.{LineWhy}
use Rattle.gx_commands.specs.declared.command.LineWhy.TheVariants as why
use Rattle.gx_commands.specs.Commands.{IsChangeOf, AreApart, IsCondOf, IsOrderOf, IsOfOf}
use Rattle.gx_commands.specs.Words.{Word, Bare}
use Rattle.gx_commands.specs.Cutting.{is_end}
use Rattle.gx_script.specs.Names.{is_text, op_text, op_of, link_number, field_number}
use Rattle.gx_script.specs.Reading.{met, want, behind, a_field, is_changed, a_new_field, an_op, a_link, a_link_to, a_value, change_at, changes_at, cond_at, more_conds, conds_at, where_from, where_at, owner_of_at, of_from, of_at, desc_from, desc_at, order_from, order_at}
use Rattle.gx_script.specs.Grammar.{◌⨾◌, the, LinkName, FieldName, Literal, ChangeWords, ChangesWords, CondWords, CondsWords, WhereWords, OfWords, DescWords, OrderWords}
use Rattle.gx_script.proofs.Steps.{bind_ok, bind_is, test_ok, held_ok, want_ok, ok_is}
use Rattle.gx_script.proofs.WordMeanings.{AllWords, words_behind, bare_found, name_found, name_again, link_within, field_within, op_found, op_again, behind_found, behind_again, value_found, value_again}
use Rattle.gx_script.proofs.LoopLaws.{change_shorter, cond_shorter}

all_more : {A : Type 0} (P Q : A → Type 0) → ((x : A) → P x → Q x) → (xs : List A)
    → AllByRecursion P xs → AllByRecursion Q xs
all_more P Q f [] h = tt
all_more P Q f (x ∷ xs) h = (f x h.0, all_more P Q f xs h.1)

all_both : {A : Type 0} (P Q R : A → Type 0) → ((x : A) → P x → Q x → R x) → (xs : List A)
    → AllByRecursion P xs → AllByRecursion Q xs → AllByRecursion R xs
all_both P Q R f [] h k = tt
all_both P Q R f (x ∷ xs) h k = (f x h.0 k.0, all_both P Q R f xs h.1 k.1)

-- ---- fields that aren't changed before

not_changed : (before : List Change) (c : Change) (f : ℕ) → is_changed (before ++ c ∷ []) f ≡ false
    → (is_changed before f ≡ false) × (c.field ≢ f)
not_changed [] c f h = let p = or_parts (eqb c.field f) false h in (refl, eqb-false c.field f p.0)
not_changed (b ∷ bs) c f h =
    let p = or_parts (eqb b.field f) (is_changed (bs ++ c ∷ []) f) h in
    let others = not_changed bs c f p.1 in
    (rw (p.0, others.0) refl, others.1)

still_new : (before : List Change) (c : Change) (f : ℕ) → is_changed before f ≡ false → c.field ≢ f
    → is_changed (before ++ c ∷ []) f ≡ false
still_new [] c f h ne = rw (ne_eqb c.field f ne) refl
still_new (b ∷ bs) c f h ne = let p = or_parts (eqb b.field f) (is_changed bs f) h in
    rw (p.0, still_new bs c f p.1 ne) refl

-- each of the changes is of a field that none before it changes
abbrev pub AreNew : List Change → List Change → Type 0
AreNew before [] = Unit {0}
AreNew before (c ∷ cs) = (is_changed before c.field ≡ false) × AreNew (before ++ c ∷ []) cs

record Apart (before cs : List Change) : Type 0 where
  pub old : AllByRecursion (λ d. is_changed before d.field ≡ false) cs
  pub apart : AreApart cs

apart_from : (before cs : List Change) → AreNew before cs → Apart before cs
apart_from before [] h = record { old = tt; apart = tt }
apart_from before (c ∷ cs) h =
    let others = apart_from (before ++ c ∷ []) cs h.1 in
    record {
      old = (
        h.0,
        all_more (λ (d : Change). is_changed (before ++ c ∷ []) d.field ≡ false)
            (λ (d : Change). is_changed before d.field ≡ false)
            (λ d k. (not_changed before c d.field k).0) cs others.old,
      );
      apart = (
        all_more (λ (d : Change). is_changed (before ++ c ∷ []) d.field ≡ false)
            (λ (d : Change). c.field ≢ d.field) (λ d k. (not_changed before c d.field k).1) cs
            others.old,
        others.apart,
      );
    }

pub apart_of_new : (cs : List Change) → AreNew [] cs → AreApart cs
apart_of_new cs h = (apart_from [] cs h).apart

new_from : (before cs : List Change)
    → AllByRecursion (λ (d : Change). is_changed before d.field ≡ false) cs → AreApart cs
    → AreNew before cs
new_from before [] old apart = tt
new_from before (c ∷ cs) old apart = (
  old.0,
  new_from (before ++ c ∷ []) cs
      (all_both (λ (d : Change). is_changed before d.field ≡ false)
      (λ (d : Change). c.field ≢ d.field)
      (λ (d : Change). is_changed (before ++ c ∷ []) d.field ≡ false)
      (λ d h ne. still_new before c d.field h ne) cs old.1 apart.0)
      apart.1,
)

none_old : (cs : List Change) → AllByRecursion (λ (d : Change). is_changed [] d.field ≡ false) cs
none_old [] = tt
none_old (c ∷ cs) = (refl, none_old cs)

pub new_of_apart : (cs : List Change) → AreApart cs → AreNew [] cs
new_of_apart cs apart = new_from [] cs (none_old cs) apart

-- ---- FIELD VALUE

record NewField (file : FileDef) (before : List Change) (words : List Word)
    (y : ℕ × List Word) : Type 0 where
  pub text : FieldName file y.0 words y.1
  pub past_key : 0 < y.0
  pub in_file : y.0 < length file.fields
  pub new : is_changed before y.0 ≡ false

new_field_at : (file : FileDef) (before : List Change) (words : List Word) (w : Word) (field : ℕ)
    (y : ℕ × List Word) → words ≡ w ∷ y.1 → a_field file w ≡ Ok field
    → cond (eqb field 0 || is_changed before field) (Err why.Field) (Ok field) ≡ Ok y.0
    → NewField file before words y
new_field_at file before words w field y first is e =
    let n = bare_found why.Field (field_number file.fields) w field is in
    let t = test_ok (eqb field 0 || is_changed before field) why.Field (Ok field) y.0 e in
    let p = or_parts _ _ t.0 in
    let zero_not = eqb-false field 0 p.0 in
    let past : 0 < field = omega arith in
    let same : field ≡ y.0 = ok_is field y.0 t.1 in
    let here : NewField file before words (field, y.1) =
    record {
      text = (n.0, first ∙ ap (λ (v : Word). v ∷ y.1) n.1, n.2);
      past_key = past;
      in_file = field_within file n.0 field n.2;
      new = p.1;
    } in
    subst (λ (f : ℕ). NewField file before words (f, y.1)) same here

new_field_found : (file : FileDef) (before : List Change) (words : List Word) (y : ℕ × List Word)
    → want (a_new_field file before) words ≡ Ok y → NewField file before words y
new_field_found file before words y e =
    let w = want_ok (a_new_field file before) words y e in
    let a = bind_ok (a_field file w.word) _ y.0 w.is in
    new_field_at file before words w.word a.0 y w.first a.1 a.2

new_field_again : (file : FileDef) (before : List Change) (field : ℕ) (words rest : List Word)
    → FieldName file field words rest → 0 < field → is_changed before field ≡ false
    → want (a_new_field file before) words ≡ Ok (field, rest)
new_field_again file before field words rest n past new =
    let named : a_field file (Bare n.0) ≡ Ok field = ap (λ (o : Option ℕ). ok_or o why.Field) n.2 in
    let free : (eqb field 0 || is_changed before field) ≡ false =
    rw (ne_eqb field 0 (λ e. omega arith), new) refl in
    let meant : a_new_field file before (Bare n.0) ≡ Ok field =
    bind_is (a_field file (Bare n.0)) _ field _ named (cond-false _ _ _ free) in
    ap (want (a_new_field file before)) n.1 ∙ ap (λ (r : Result ℕ LineWhy). met r rest) meant

record ChangeFound (file : FileDef) (before : List Change) (words : List Word) (y : Change
    × List Word) : Type 0 where
  pub text : ChangeWords file y.0 words y.1
  pub rule : IsChangeOf file y.0
  pub new : is_changed before y.0.field ≡ false
  pub rest : AllWords y.1

change_found : (file : FileDef) (before : List Change) (words : List Word) (y : Change × List Word)
    → AllWords words → change_at file before words ≡ Ok y → ChangeFound file before words y
unfolding change_at
change_found file before words y all e =
    let a = bind_ok (want (a_new_field file before) words) _ y e in
    let k = (field_at file a.0.0).kind in
    let b = bind_ok (want (a_value k) a.0.1) _ y a.2 in
    let n = new_field_found file before words a.0 a.1 in
    let v = value_found k a.0.1 b.0 (words_behind words (Bare n.text.0) a.0.1 n.text.1 all) b.1 in
    let made : Change × List Word = (record { field = a.0.0; value = b.0.0 }, b.0.1) in
    subst (ChangeFound file before words) (ok_is made y b.2) (record {
      text = (a.0.1, n.text, v.text);
      rule = record { past_key = n.past_key; in_file = n.in_file; fits = v.fits };
      new = n.new;
      rest = v.rest;
    })

change_again : (file : FileDef) (before : List Change) (c : Change) (words rest : List Word)
    → ChangeWords file c words rest → IsChangeOf file c → is_changed before c.field ≡ false
    → change_at file before words ≡ Ok (c, rest)
unfolding change_at
change_again file before c words rest t rule new =
    let k = (field_at file c.field).kind in
    bind_is (want (a_new_field file before) words) _ (c.field, t.0) _
    (new_field_again file before c.field words t.0 t.1 rule.past_key new)
    (bind_is (want (a_value k) t.0) _ (c.value, rest) _
    (value_again k c.value t.0 rest t.2 rule.fits) refl)

-- ---- FIELD VALUE {FIELD VALUE}

pub record ChangesFound (file : FileDef) (before : List Change) (words : List Word) (y : List Change
    × List Word) : Type 0 where
  pub more : List Change
  pub whole : before ++ more ≡ y.0
  pub text : ChangesWords file more words y.1
  pub rules : AllByRecursion (IsChangeOf file) more
  pub new : AreNew before more

changes_cons : (file : FileDef) (c : Change) (cs : List Change) (words mid rest : List Word)
    → ChangeWords file c words mid → ChangesWords file cs mid rest
    → ChangesWords file (c ∷ cs) words rest
changes_cons file c [] words mid rest one others = absurd others
changes_cons file c (d ∷ cs) words mid rest one others = (mid, one, others)

pub changes_found : (room : ℕ) (file : FileDef) (before : List Change) (words : List Word)
    (y : List Change × List Word) → AllWords words → changes_at room file before words ≡ Ok y
    → ChangesFound file before words y
unfolding changes_at
changes_found zero file before words y all e = absurd cc
changes_found (suc room) file before words y all e =
    let a = bind_ok (change_at file before words) _ y e in
    let c = a.0.0 in
    let mid = a.0.1 in
    let f = change_found file before words a.0 all a.1 in
    let made : List Change × List Word = (before ++ c ∷ [], mid) in
    cond_both (is_end mid) (Ok made) (changes_at room file (before ++ c ∷ []) mid)
    (λ (r : Result (List Change × List Word) LineWhy). r ≡ Ok y
    → ChangesFound file before words y)
    (λ _ h. subst (ChangesFound file before words) (ok_is made y h)
    (record {
      more = c ∷ [];
      whole = refl;
      text = f.text;
      rules = (f.rule, tt);
      new = (f.new, tt);
    }))
    (λ _ h.
    let others = changes_found room file (before ++ c ∷ []) mid y f.rest h in
    record {
      more = c ∷ others.more;
      whole = sym (append_assoc before (c ∷ []) others.more) ∙ others.whole;
      text = changes_cons file c others.more words mid y.1 f.text others.text;
      rules = (f.rule, others.rules);
      new = (f.new, others.new);
    })
    a.2

changes_start : (file : FileDef) (c : Change) (cs : List Change) (words rest : List Word)
    → ChangesWords file (c ∷ cs) words rest → is_end words ≡ false
changes_start file c [] words rest t = ap is_end t.1.1
changes_start file c (d ∷ cs) words rest t = let one = t.1 in ap is_end one.1.1

pub changes_again : (room : ℕ) (file : FileDef) (before cs : List Change) (words : List Word)
    → length words ≤ room → ChangesWords file cs words [] → AllByRecursion (IsChangeOf file) cs
    → AreNew before cs
    → changes_at room file before words ≡ Ok (before ++ cs, [])
unfolding changes_at
changes_again room file before [] words le t rules new = absurd t
changes_again zero file before (c ∷ []) words le t rules new =
    let less = change_shorter file before words (c, [])
    (change_again file before c words [] t rules.0 new.0) in absurd (omega arith)
changes_again (suc room) file before (c ∷ []) words le t rules new =
    bind_is (change_at file before words) _ (c, []) _
    (change_again file before c words [] t rules.0 new.0) refl
changes_again zero file before (c ∷ d ∷ cs) words le t rules new =
    let less = change_shorter file before words (c, t.0)
    (change_again file before c words t.0 t.1 rules.0 new.0) in absurd (omega arith)
changes_again (suc room) file before (c ∷ d ∷ cs) words le t rules new =
    let one = change_again file before c words t.0 t.1 rules.0 new.0 in
    let less = change_shorter file before words (c, t.0) one in
    let others = changes_again room file (before ++ c ∷ []) (d ∷ cs) t.0 (omega arith) t.2 rules.1
    new.1 in
    bind_is (change_at file before words) _ (c, t.0) _ one
    (cond-false (is_end t.0) _ _ (changes_start file d cs t.0 [] t.2)
    ∙ (others ∙ ap (λ (all : List Change). Ok (all, []))
    (append_assoc before (c ∷ []) (d ∷ cs))))

-- ---- FIELD OP VALUE {and FIELD OP VALUE}

record CondFound (file : FileDef) (words : List Word) (y : Cond × List Word) : Type 0 where
  pub text : CondWords file y.0 words y.1
  pub rule : IsCondOf file y.0
  pub rest : AllWords y.1

cond_found : (file : FileDef) (words : List Word) (y : Cond × List Word) → AllWords words
    → cond_at file words ≡ Ok y → CondFound file words y
unfolding cond_at
cond_found file words y all e =
    let a = bind_ok (want (a_field file) words) _ y e in
    let o = bind_ok (want an_op a.0.1) _ y a.2 in
    let k = (field_at file a.0.0).kind in
    let b = bind_ok (want (a_value k) o.0.1) _ y o.2 in
    let n = name_found why.Field (field_number file.fields) words a.0 a.1 in
    let op_named = name_found why.Word op_of a.0.1 o.0 o.1 in
    let op_word : the (op_text o.0.0) a.0.1 o.0.1 =
    op_named.1 ∙ ap (λ (t : List ℕ). Bare t ∷ o.0.1) (op_found op_named.0 o.0.0 op_named.2) in
    let v = value_found k o.0.1 b.0
    (words_behind a.0.1 (Bare op_named.0) o.0.1 op_named.1
    (words_behind words (Bare n.0) a.0.1 n.1 all)) b.1 in
    let made : Cond × List Word = (record { field = a.0.0; op = o.0.0; bound = b.0.0 }, b.0.1) in
    subst (CondFound file words) (ok_is made y b.2) (record {
      text = (a.0.1, n, (o.0.1, op_word, v.text));
      rule = record { in_file = field_within file n.0 a.0.0 n.2; fits = v.fits };
      rest = v.rest;
    })

cond_again : (file : FileDef) (c : Cond) (words rest : List Word) → CondWords file c words rest
    → IsCondOf file c → cond_at file words ≡ Ok (c, rest)
unfolding cond_at
cond_again file c words rest t rule =
    let k = (field_at file c.field).kind in
    bind_is (want (a_field file) words) _ (c.field, t.0) _
    (name_again why.Field (field_number file.fields) words t.1.0 c.field t.0 t.1.1 t.1.2)
    (bind_is (want an_op t.0) _ (c.op, t.2.0) _
    (name_again why.Word op_of t.0 (op_text c.op) c.op t.2.0 t.2.1 (op_again c.op))
    (bind_is (want (a_value k) t.2.0) _ (c.bound, rest) _
    (value_again k c.bound t.2.0 rest t.2.2 rule.fits) refl))

pub record CondsFound (file : FileDef) (before : List Cond) (words : List Word) (y : List Cond
    × List Word) : Type 0 where
  pub more : List Cond
  pub whole : before ++ more ≡ y.0
  pub text : CondsWords file more words y.1
  pub rules : AllByRecursion (IsCondOf file) more
  pub rest : AllWords y.1

conds_cons : (file : FileDef) (c : Cond) (cs : List Cond) (words mid after rest : List Word)
    → CondWords file c words mid → the (codes "and") mid after → CondsWords file cs after rest
    → CondsWords file (c ∷ cs) words rest
conds_cons file c [] words mid after rest one joined others = absurd others
conds_cons file c (d ∷ cs) words mid after rest one joined others =
    (mid, one, (after, joined, others))

abbrev CondsReader : Type 0
CondsReader = List Cond → List Word → Result (List Cond × List Word) LineWhy

conds_step : (room : ℕ) (file : FileDef) (before : List Cond) (words : List Word) (c : Cond)
    (mid : List Word) (y : List Cond × List Word) (o : Option (List Word))
    → CondFound file words (c, mid) → behind (codes "and") mid ≡ o
    → more_conds (λ conds ws. conds_at room file conds ws) (before ++ c ∷ []) mid o ≡ Ok y
    → ((rest : List Word) → AllWords rest → conds_at room file (before ++ c ∷ []) rest ≡ Ok y
    → CondsFound file (before ++ c ∷ []) rest y)
    → CondsFound file before words y
conds_step room file before words c mid y None f is e again =
    let made : List Cond × List Word = (before ++ c ∷ [], mid) in
    subst (CondsFound file before words) (ok_is made y e)
    (record { more = c ∷ []; whole = refl; text = f.text; rules = (f.rule, tt); rest = f.rest })
conds_step room file before words c mid y (Some after) f is e again =
    let joined = behind_found (codes "and") mid after is in
    let others = again after (words_behind mid (Bare (codes "and")) after joined f.rest) e in
    record {
      more = c ∷ others.more;
      whole = sym (append_assoc before (c ∷ []) others.more) ∙ others.whole;
      text = conds_cons file c others.more words mid after y.1 f.text joined others.text;
      rules = (f.rule, others.rules);
      rest = others.rest;
    }

pub conds_found : (room : ℕ) (file : FileDef) (before : List Cond) (words : List Word)
    (y : List Cond × List Word) → AllWords words → conds_at room file before words ≡ Ok y
    → CondsFound file before words y
unfolding conds_at
conds_found zero file before words y all e = absurd cc
conds_found (suc room) file before words y all e =
    let a = bind_ok (cond_at file words) _ y e in
    let f = cond_found file words a.0 all a.1 in
    conds_step room file before words a.0.0 a.0.1 y (behind (codes "and") a.0.1) f refl a.2
    (λ rest h k. conds_found room file (before ++ a.0.0 ∷ []) rest y h k)

pub conds_again : (room : ℕ) (file : FileDef) (before cs : List Cond) (words rest : List Word)
    → length words ≤ room → CondsWords file cs words rest → AllByRecursion (IsCondOf file) cs
    → behind (codes "and") rest ≡ None
    → conds_at room file before words ≡ Ok (before ++ cs, rest)
unfolding conds_at
conds_again room file before [] words rest le t rules over = absurd t
conds_again zero file before (c ∷ []) words rest le t rules over =
    let less = cond_shorter file words (c, rest) (cond_again file c words rest t rules.0) in
    absurd (omega arith)
conds_again (suc room) file before (c ∷ []) words rest le t rules over =
    bind_is (cond_at file words) _ (c, rest) _ (cond_again file c words rest t rules.0)
    (ap (more_conds (λ conds ws. conds_at room file conds ws) (before ++ c ∷ []) rest) over)
conds_again zero file before (c ∷ d ∷ cs) words rest le t rules over =
    let less = cond_shorter file words (c, t.0) (cond_again file c words t.0 t.1 rules.0) in
    absurd (omega arith)
conds_again (suc room) file before (c ∷ d ∷ cs) words rest le t rules over =
    let one = cond_again file c words t.0 t.1 rules.0 in
    let less = cond_shorter file words (c, t.0) one in
    let joined = t.2.1 in
    let fewer : length t.2.0 ≤ room = omega (arith, ap length joined) in
    let others = conds_again room file (before ++ c ∷ []) (d ∷ cs) t.2.0 rest fewer t.2.2 rules.1
    over in
    bind_is (cond_at file words) _ (c, t.0) _ one
    (ap (more_conds (λ conds ws. conds_at room file conds ws) (before ++ c ∷ []) t.0)
    (behind_again (codes "and") t.0 t.2.0 joined)
    ∙ (others ∙ ap (λ (all : List Cond). Ok (all, rest)) (append_assoc before (c ∷ []) (d ∷ cs))))

-- ---- [where COND {and COND}]

pub record WhereFound (file : FileDef) (words : List Word) (y : List Cond × List Word) : Type 0
  where
    pub text : WhereWords file y.0 words y.1
    pub rules : AllByRecursion (IsCondOf file) y.0
    pub rest : AllWords y.1

where_some : (file : FileDef) (cs : List Cond) (words mid rest : List Word)
    → the (codes "where") words mid → CondsWords file cs mid rest → WhereWords file cs words rest
where_some file [] words mid rest w t = absurd t
where_some file (c ∷ cs) words mid rest w t = (mid, w, t)

where_step : (file : FileDef) (words : List Word) (o : Option (List Word))
    (y : List Cond × List Word) → AllWords words → behind (codes "where") words ≡ o
    → where_from file words o ≡ Ok y → WhereFound file words y
where_step file words None y all is e =
    let made : List Cond × List Word = ([], words) in
    subst (WhereFound file words) (ok_is made y e) (record { text = refl; rules = tt; rest = all })
where_step file words (Some mid) y all is e =
    let w = behind_found (codes "where") words mid is in
    let f = conds_found (length mid) file [] mid y
    (words_behind words (Bare (codes "where")) mid w all) e in
    record {
      text = where_some file y.0 words mid y.1 w
          (subst (λ (cs : List Cond). CondsWords file cs mid y.1) f.whole f.text);
      rules = subst (AllByRecursion (IsCondOf file)) f.whole f.rules;
      rest = f.rest;
    }

pub where_found : (file : FileDef) (words : List Word) (y : List Cond × List Word) → AllWords words
    → where_at file words ≡ Ok y → WhereFound file words y
unfolding where_at
where_found file words y all e = where_step file words (behind (codes "where") words) y all refl e

pub where_again : (file : FileDef) (cs : List Cond) (words rest : List Word)
    → WhereWords file cs words rest → AllByRecursion (IsCondOf file) cs
    → behind (codes "where") rest ≡ None → behind (codes "and") rest ≡ None
    → where_at file words ≡ Ok (cs, rest)
unfolding where_at
where_again file [] words rest t rules no_where no_and =
    let none : behind (codes "where") words ≡ None = ap (behind (codes "where")) t ∙ no_where in
    ap (where_from file words) none ∙ ap (λ (ws : List Word). Ok ([], ws)) t
where_again file (c ∷ cs) words rest t rules no_where no_and =
    ap (where_from file words) (behind_again (codes "where") words t.0 t.1)
    ∙ conds_again (length t.0) file [] (c ∷ cs) t.0 rest (omega arith) t.2 rules no_and

-- ---- [of LINK OWNER]

pub record OfFound (schema : Schema) (file : ℕ) (words : List Word) (y : Option Of
    × List Word) : Type 0 where
  pub text : OfWords schema y.0 words y.1
  pub rule : IsOfOf schema file y.0
  pub rest : AllWords y.1

record OwnerOfFound (schema : Schema) (file : ℕ) (words : List Word) (y : Of × List Word) : Type 0
  where
    pub text : (LinkName schema y.0.link ⨾ Literal y.0.owner) words y.1
    pub rule : IsOfOf schema file (Some y.0)
    pub rest : AllWords y.1

record LinkTo (schema : Schema) (file : ℕ) (words : List Word) (y : ℕ × List Word) : Type 0 where
  pub text : LinkName schema y.0 words y.1
  pub link : y.0 < length schema.links
  pub member : (link_at schema y.0).member ≡ file

link_to_at : (schema : Schema) (file : ℕ) (words : List Word) (w : Word) (link : ℕ)
    (y : ℕ × List Word) → words ≡ w ∷ y.1 → a_link schema w ≡ Ok link
    → cond (eqb (link_at schema link).member file) (Ok link) (Err why.Link) ≡ Ok y.0
    → LinkTo schema file words y
link_to_at schema file words w link y first is e =
    let n = bare_found why.Link (link_number schema.links) w link is in
    let t = held_ok (eqb (link_at schema link).member file) (Ok link) why.Link y.0 e in
    let here : LinkTo schema file words (link, y.1) =
    record {
      text = (n.0, first ∙ ap (λ (v : Word). v ∷ y.1) n.1, n.2);
      link = link_within schema n.0 link n.2;
      member = eqb-true (link_at schema link).member file t.0;
    } in
    subst (λ (l : ℕ). LinkTo schema file words (l, y.1)) (ok_is link y.0 t.1) here

link_to_found : (schema : Schema) (file : ℕ) (words : List Word) (y : ℕ × List Word)
    → want (a_link_to schema file) words ≡ Ok y → LinkTo schema file words y
link_to_found schema file words y e =
    let w = want_ok (a_link_to schema file) words y e in
    let a = bind_ok (a_link schema w.word) _ y.0 w.is in
    link_to_at schema file words w.word a.0 y w.first a.1 a.2

link_to_again : (schema : Schema) (file link : ℕ) (words rest : List Word)
    → LinkName schema link words rest → (link_at schema link).member ≡ file
    → want (a_link_to schema file) words ≡ Ok (link, rest)
link_to_again schema file link words rest n member =
    let named : a_link schema (Bare n.0) ≡ Ok link = ap (λ (o : Option ℕ). ok_or o why.Link) n.2 in
    let meant : a_link_to schema file (Bare n.0) ≡ Ok link =
    bind_is (a_link schema (Bare n.0)) _ link _ named
    (cond-true _ _ _ (eq-eqb (link_at schema link).member file member)) in
    ap (want (a_link_to schema file)) n.1 ∙ ap (λ (r : Result ℕ LineWhy). met r rest) meant

owner_of_found : (schema : Schema) (file : ℕ) (words : List Word) (y : Of × List Word)
    → AllWords words → owner_of_at schema file words ≡ Ok y → OwnerOfFound schema file words y
unfolding owner_of_at
owner_of_found schema file words y all e =
    let a = bind_ok (want (a_link_to schema file) words) _ y e in
    let k = key_kind (file_at schema (link_at schema a.0.0).owner) in
    let b = bind_ok (want (a_value k) a.0.1) _ y a.2 in
    let n = link_to_found schema file words a.0 a.1 in
    let v = value_found k a.0.1 b.0 (words_behind words (Bare n.text.0) a.0.1 n.text.1 all) b.1 in
    let made : Of × List Word = (record { link = a.0.0; owner = b.0.0 }, b.0.1) in
    subst (OwnerOfFound schema file words) (ok_is made y b.2)
    (record { text = (a.0.1, n.text, v.text); rule = (n.link, n.member, v.fits); rest = v.rest })

owner_of_again : (schema : Schema) (file : ℕ) (of : Of) (words rest : List Word)
    → (LinkName schema of.link ⨾ Literal of.owner) words rest → IsOfOf schema file (Some of)
    → owner_of_at schema file words ≡ Ok (of, rest)
unfolding owner_of_at
owner_of_again schema file of words rest t rule =
    let k = key_kind (file_at schema (link_at schema of.link).owner) in
    bind_is (want (a_link_to schema file) words) _ (of.link, t.0) _
    (link_to_again schema file of.link words t.0 t.1 rule.1)
    (bind_is (want (a_value k) t.0) _ (of.owner, rest) _
    (value_again k of.owner t.0 rest t.2 rule.2) refl)

of_step : (schema : Schema) (file : ℕ) (words : List Word) (o : Option (List Word))
    (y : Option Of × List Word) → AllWords words → behind (codes "of") words ≡ o
    → of_from schema file words o ≡ Ok y → OfFound schema file words y
of_step schema file words None y all is e =
    let made : Option Of × List Word = (None, words) in
    subst (OfFound schema file words) (ok_is made y e)
    (record { text = refl; rule = tt; rest = all })
of_step schema file words (Some mid) y all is e =
    let w = behind_found (codes "of") words mid is in
    let a = bind_ok (owner_of_at schema file mid) _ y e in
    let f = owner_of_found schema file mid a.0
    (words_behind words (Bare (codes "of")) mid w all) a.1 in
    let made : Option Of × List Word = (Some a.0.0, a.0.1) in
    subst (OfFound schema file words) (ok_is made y a.2)
    (record { text = (mid, w, f.text); rule = f.rule; rest = f.rest })

pub of_found : (schema : Schema) (file : ℕ) (words : List Word) (y : Option Of × List Word)
    → AllWords words → of_at schema file words ≡ Ok y → OfFound schema file words y
unfolding of_at
of_found schema file words y all e = of_step schema file words
    (behind (codes "of") words) y all refl e

pub of_again : (schema : Schema) (file : ℕ) (of : Option Of) (words rest : List Word)
    → OfWords schema of words rest → IsOfOf schema file of → behind (codes "of") rest ≡ None
    → of_at schema file words ≡ Ok (of, rest)
unfolding of_at
of_again schema file None words rest t rule no_of =
    let none : behind (codes "of") words ≡ None = ap (behind (codes "of")) t ∙ no_of in
    ap (of_from schema file words) none ∙ ap (λ (ws : List Word). Ok (None, ws)) t
of_again schema file (Some of) words rest t rule no_of =
    ap (of_from schema file words) (behind_again (codes "of") words t.0 t.1)
    ∙ bind_is (owner_of_at schema file t.0) _ (of, rest) _
    (owner_of_again schema file of t.0 rest t.2 rule) refl

-- ---- [order FIELD [desc]]

record DescFound (field : ℕ) (words : List Word) (y : OrderBy × List Word) : Type 0 where
  pub same : y.0.field ≡ field
  pub text : DescWords y.0.desc words y.1

desc_step : (field : ℕ) (words : List Word) (o : Option (List Word))
    → behind (codes "desc") words ≡ o → DescFound field words (desc_from field words o)
desc_step field words None is = record { same = refl; text = refl }
desc_step field words (Some rest) is = record {
  same = refl;
  text = behind_found (codes "desc") words rest is;
}

desc_found : (field : ℕ) (words : List Word) → DescFound field words (desc_at field words)
unfolding desc_at
desc_found field words = desc_step field words (behind (codes "desc") words) refl

desc_again : (field : ℕ) (desc : Bool) (words : List Word) → DescWords desc words []
    → desc_at field words ≡ (record { field = field; desc = desc }, [])
unfolding desc_at
desc_again field false words t = rw t refl
desc_again field true words t = ap (desc_from field words) (behind_again (codes "desc") words [] t)

pub record OrderFound (file : FileDef) (words : List Word) (y : OrderBy × List Word) : Type 0 where
  pub text : OrderWords file y.0 words y.1
  pub rule : IsOrderOf file y.0

order_step : (file : FileDef) (words : List Word) (o : Option (List Word)) (y : OrderBy × List Word)
    → 0 < length file.fields → behind (codes "order") words ≡ o → order_from file words o ≡ Ok y
    → OrderFound file words y
order_step file words None y key is e =
    let made : OrderBy × List Word = (record { field = 0; desc = false }, words) in
    subst (OrderFound file words) (ok_is made y e) (record { text = inl (refl, refl); rule = key })
order_step file words (Some mid) y key is e =
    let w = behind_found (codes "order") words mid is in
    let a = bind_ok (want (a_field file) mid) _ y e in
    let n = name_found why.Field (field_number file.fields) mid a.0 a.1 in
    let d = desc_found a.0.0 a.0.1 in
    let made : OrderBy × List Word = desc_at a.0.0 a.0.1 in
    let named : FieldName file made.0.field mid a.0.1 =
    subst (λ (f : ℕ). FieldName file f mid a.0.1) (sym d.same) n in
    let within : made.0.field < length file.fields =
    subst (λ (f : ℕ). f < length file.fields) (sym d.same) (field_within file n.0 a.0.0 n.2) in
    subst (OrderFound file words) (ok_is made y a.2)
    (record { text = inr (mid, w, (a.0.1, named, d.text)); rule = within })

pub order_found : (file : FileDef) (words : List Word) (y : OrderBy × List Word)
    → 0 < length file.fields → order_at file words ≡ Ok y → OrderFound file words y
unfolding order_at
order_found file words y key e = order_step file words (behind (codes "order") words) y key refl e

pub order_again : (file : FileDef) (order : OrderBy) (words : List Word)
    → OrderWords file order words [] → order_at file words ≡ Ok (order, [])
unfolding order_at
order_again file order words (inl t) = rw t.1 (ap (λ (o : OrderBy). Ok (o, [])) (sym t.0))
order_again file order words (inr t) =
    ap (order_from file words) (behind_again (codes "order") words t.0 t.1)
    ∙ bind_is (want (a_field file) t.0) _ (order.field, t.2.0) _
    (name_again why.Field (field_number file.fields) t.0 t.2.1.0 order.field t.2.0 t.2.1.1
    t.2.1.2)
    (ap (λ (y : OrderBy × List Word). Ok y) (desc_again order.field order.desc t.2.0 t.2.2))

-- ---- what may follow

-- the words begin with no keyword other than `order`
pub order_start : (file : FileDef) (order : OrderBy) (words : List Word) (keyword : List ℕ)
    → OrderWords file order words [] → is_text (codes "order") keyword ≡ false
    → behind keyword words ≡ None
order_start file order words keyword (inl t) other = ap (behind keyword) t.1
order_start file order words keyword (inr t) other = ap (behind keyword) t.1
    ∙ ap (λ (b : Bool). cond b (Some t.0) None) other

-- or with no other than that and `of`
pub of_start : (schema : Schema) (of : Option Of) (words mid : List Word) (keyword : List ℕ)
    → OfWords schema of words mid → is_text (codes "of") keyword ≡ false → behind keyword mid ≡ None
    → behind keyword words ≡ None
of_start schema None words mid keyword t other none = ap (behind keyword) t ∙ none
of_start schema (Some of) words mid keyword t other none = ap (behind keyword) t.1
    ∙ ap (λ (b : Bool). cond b (Some t.0) None) other
