-- Commands, both ways.
use Rattle.std.proofs.Common.{◌≡◌, ℕ, true, cond, List, [], ◌∷◌, length, Option, Some, None, Ok, refl, sym, ap, subst, ◌∙◌, arith}
use Rattle.std.specs.Prelude.{codes}
use Rattle.std.proofs.lemmas.Bool.{cond-false}
use Rattle.gx_values.specs.declared.values.Value.{Value}
use Rattle.gx_schema.specs.declared.schema.Schema.{Schema}
use Rattle.gx_schema.specs.Lookups.{file_at, link_at, key_kind}
use Rattle.gx_schema.specs.WellFormed.{IsWellFormed}
use Rattle.gx_commands.specs.declared.command.Command.{Command}
use Rattle.gx_commands.specs.declared.command.Command.TheVariants as command
use Rattle.gx_commands.specs.declared.command.LineWhy.TheVariants as why
use Rattle.gx_script.specs.declared.keywords.Verb.{Verb}
use Rattle.gx_script.specs.declared.keywords.Verb.TheVariants as verb
use Rattle.gx_commands.specs.Commands.{IsOfSchema}
use Rattle.gx_commands.specs.Words.{Word, Bare, Quoted}
use Rattle.gx_commands.specs.Cutting.{is_end}
use Rattle.gx_script.specs.Names.{verb_text, verb_of, file_number, link_number}
use Rattle.gx_script.specs.Reading.{met, want, a_file, a_structure, structure_from, a_value, a_verb, record_at, link_and_owner, member_at, values_at, changes_at, where_at, of_at, order_at, insert_at, update_at, connect_at, members_at, find_at, command_behind, command_at, reading}
use Rattle.gx_script.specs.Grammar.{the, CommandWords, MeansCommand}
use Rattle.gx_script.proofs.Steps.{done, bind_ok, bind_is, held_ok, want_ok, ok_is}
use Rattle.gx_script.proofs.WordMeanings.{AllWords, words_behind, name_found, name_again, file_within, link_within, verb_found, verb_again, value_found, value_again}
use Rattle.gx_script.proofs.PartLaws.{record_found, record_again, owner_found, owner_again, member_found, member_again, values_found, values_again}
use Rattle.gx_script.proofs.ClauseLaws.{apart_of_new, new_of_apart, changes_found, changes_again, where_found, where_again, of_found, of_again, order_found, order_again, order_start, of_start}

-- ---- what is read is in the grammar

-- the words from a command's first word on
pub record ArgumentsFound (schema : Schema) (v : Verb) (words : List Word) (y : Command
    × List Word) : Type 0 where
  pub text : CommandWords schema y.0 (Bare (verb_text v) ∷ words) y.1
  pub rules : IsOfSchema schema y.0

insert_found : (schema : Schema) (words : List Word) (y : Command × List Word) → AllWords words
    → insert_at schema words ≡ Ok y → ArgumentsFound schema verb.Insert words y
unfolding insert_at
insert_found schema words y all e =
    let a = bind_ok (want (a_file schema) words) _ y e in
    let fields = (file_at schema a.0.0).fields in
    let b = bind_ok (values_at fields [] a.0.1) _ y a.2 in
    let n = name_found why.File (file_number schema.files) words a.0 a.1 in
    let v = values_found fields [] a.0.1 b.0 (words_behind words (Bare n.0) a.0.1 n.1 all) b.1 in
    let made : Command × List Word = (command.Insert a.0.0 v.more, b.0.1) in
    let here : ArgumentsFound schema verb.Insert words made =
    record {
      text = (words, refl, (a.0.1, n, v.text));
      rules = (file_within schema n.0 a.0.0 n.2, v.fit);
    } in
    let same : made ≡ y = ap (λ (vs : List Value). (command.Insert a.0.0 vs, b.0.1)) v.whole
    ∙ ok_is (command.Insert a.0.0 b.0.0, b.0.1) y b.2 in
    subst (ArgumentsFound schema verb.Insert words) same here

update_found : (schema : Schema) (words : List Word) (y : Command × List Word) → AllWords words
    → update_at schema words ≡ Ok y → ArgumentsFound schema verb.Update words y
unfolding update_at
update_found schema words y all e =
    let a = bind_ok (record_at schema words) _ y e in
    let r = record_found schema words a.0 all a.1 in
    let file = file_at schema a.0.0 in
    let b = bind_ok (changes_at (length a.0.2) file [] a.0.2) _ y a.2 in
    let c = changes_found (length a.0.2) file [] a.0.2 b.0 r.rest b.1 in
    let made : Command × List Word = (command.Update a.0.0 a.0.1 c.more, b.0.1) in
    let here : ArgumentsFound schema verb.Update words made = record {
      text = (words, refl, (r.text.0, r.text.1, (a.0.2, r.text.2, c.text)));
      rules = (r.file, r.key, c.rules, apart_of_new c.more c.new);
    } in
    let same : made ≡ y = ap (λ cs. (command.Update a.0.0 a.0.1 cs, b.0.1)) c.whole
    ∙ ok_is (command.Update a.0.0 a.0.1 b.0.0, b.0.1) y b.2 in
    subst (ArgumentsFound schema verb.Update words) same here

connect_found : (schema : Schema) (words : List Word) (y : Command × List Word) → AllWords words
    → connect_at schema words ≡ Ok y → ArgumentsFound schema verb.Connect words y
unfolding connect_at
connect_found schema words y all e =
    let a = bind_ok (link_and_owner schema words) _ y e in
    let o = owner_found schema words a.0 all a.1 in
    let k = key_kind (file_at schema (link_at schema a.0.0).member) in
    let b = bind_ok (want (a_value k) a.0.2) _ y a.2 in
    let v = value_found k a.0.2 b.0 o.rest b.1 in
    let made : Command × List Word = (command.Connect a.0.0 a.0.1 b.0.0, b.0.1) in
    subst (ArgumentsFound schema verb.Connect words) (ok_is made y b.2)
    (record {
      text = (words, refl, (o.text.0, o.text.1, (a.0.2, o.text.2, v.text)));
      rules = (o.link, o.owner, v.fits);
    })

members_found : (schema : Schema) (words : List Word) (y : Command × List Word)
    → IsWellFormed schema → AllWords words → members_at schema words ≡ Ok y
    → ArgumentsFound schema verb.Members words y
unfolding members_at
members_found schema words y whole all e =
    let a = bind_ok (link_and_owner schema words) _ y e in
    let o = owner_found schema words a.0 all a.1 in
    let ends = whole.links a.0.0 o.link in
    let file = file_at schema (link_at schema a.0.0).member in
    let has = whole.files (link_at schema a.0.0).member ends.member in
    let b = bind_ok (order_at file a.0.2) _ y a.2 in
    let order = order_found file a.0.2 b.0 has.key b.1 in
    let made : Command × List Word = (command.Members a.0.0 a.0.1 b.0.0, b.0.1) in
    subst (ArgumentsFound schema verb.Members words) (ok_is made y b.2)
    (record {
      text = (words, refl, (o.text.0, o.text.1, (a.0.2, o.text.2, order.text)));
      rules = (o.link, o.owner, order.rule);
    })

find_found : (schema : Schema) (words : List Word) (y : Command × List Word) → IsWellFormed schema
    → AllWords words → find_at schema words ≡ Ok y → ArgumentsFound schema verb.Find words y
unfolding find_at
find_found schema words y whole all e =
    let a = bind_ok (want (a_file schema) words) _ y e in
    let n = name_found why.File (file_number schema.files) words a.0 a.1 in
    let file = file_at schema a.0.0 in
    let within = file_within schema n.0 a.0.0 n.2 in
    let has = whole.files a.0.0 within in
    let b = bind_ok (where_at file a.0.1) _ y a.2 in
    let conds = where_found file a.0.1 b.0 (words_behind words (Bare n.0) a.0.1 n.1 all) b.1 in
    let o = bind_ok (of_at schema a.0.0 b.0.1) _ y b.2 in
    let of = of_found schema a.0.0 b.0.1 o.0 conds.rest o.1 in
    let r = bind_ok (order_at file o.0.1) _ y o.2 in
    let order = order_found file o.0.1 r.0 has.key r.1 in
    let made : Command × List Word =
    (command.Find (record { file = a.0.0; conds = b.0.0; of = o.0.0; order = r.0.0 }), r.0.1) in
    subst (ArgumentsFound schema verb.Find words) (ok_is made y r.2) (record {
      text = (words, refl, (a.0.1, n, (b.0.1, conds.text, (o.0.1, of.text, order.text))));
      rules = record { file = within; conds = conds.rules; of = of.rule; order = order.rule };
    })

structure_at : (schema : Schema) (words : List Word) (w : Word) (rest : List Word) (name : List ℕ)
    (f l : Option ℕ) (c : Command) → words ≡ w ∷ rest → w ≡ Bare name
    → file_number schema.files name ≡ f → link_number schema.links name ≡ l
    → structure_from f l ≡ Ok c → ArgumentsFound schema verb.Reorganize words (c, rest)
structure_at schema words w rest name (Some file) l c first bare f_is l_is e =
    let n : the name words rest = first ∙ ap (λ (v : Word). v ∷ rest) bare in
    subst (λ (d : Command). ArgumentsFound schema verb.Reorganize words (d, rest))
    (ok_is (command.ReorganizeFile file) c e)
    (record { text = (words, refl, (name, n, f_is)); rules = file_within schema name file f_is })
structure_at schema words w rest name None (Some link) c first bare f_is l_is e =
    let n : the name words rest = first ∙ ap (λ (v : Word). v ∷ rest) bare in
    subst (λ (d : Command). ArgumentsFound schema verb.Reorganize words (d, rest))
    (ok_is (command.ReorganizeLink link) c e)
    (record {
      text = (words, refl, (name, n, f_is, l_is));
      rules = link_within schema name link l_is;
    })
structure_at schema words w rest name None None c first bare f_is l_is e = absurd cc

structure_by : (schema : Schema) (words : List Word) (w : Word) (y : Command × List Word)
    → words ≡ w ∷ y.1 → a_structure schema w ≡ Ok y.0
    → ArgumentsFound schema verb.Reorganize words y
structure_by schema words (Quoted text) y first e = absurd cc
structure_by schema words (Bare name) y first e =
    structure_at schema words (Bare name) y.1 name (file_number schema.files name)
    (link_number schema.links name) y.0 first refl refl refl e

structure_found : (schema : Schema) (words : List Word) (y : Command × List Word)
    → want (a_structure schema) words ≡ Ok y → ArgumentsFound schema verb.Reorganize words y
structure_found schema words y e = let w = want_ok (a_structure schema) words y e in
    structure_by schema words w.word y w.first w.is

alone_found : (schema : Schema) (v : Verb) (c : Command) (words : List Word) (y : Command
    × List Word) → CommandWords schema c (Bare (verb_text v) ∷ words) words → IsOfSchema schema c
    → done {A = Command × List Word} (c, words) ≡ Ok y → ArgumentsFound schema v words y
alone_found schema v c words y text rules e =
    subst (ArgumentsFound schema v words) (ok_is (c, words) y e)
    (record { text = text; rules = rules })

pub arguments_found : (schema : Schema) (v : Verb) (words : List Word) (y : Command × List Word)
    → IsWellFormed schema → AllWords words → command_behind schema v words ≡ Ok y
    → ArgumentsFound schema v words y
unfolding command_behind
arguments_found schema verb.Begin words y whole all e =
    alone_found schema verb.Begin command.Begin words y refl tt e
arguments_found schema verb.Commit words y whole all e =
    alone_found schema verb.Commit command.Commit words y refl tt e
arguments_found schema verb.Abort words y whole all e =
    alone_found schema verb.Abort command.Abort words y refl tt e
arguments_found schema verb.Insert words y whole all e = insert_found schema words y all e
arguments_found schema verb.Get words y whole all e =
    let a = bind_ok (record_at schema words) _ y e in
    let r = record_found schema words a.0 all a.1 in
    let made : Command × List Word = (command.Get a.0.0 a.0.1, a.0.2) in
    subst (ArgumentsFound schema verb.Get words) (ok_is made y a.2)
    (record { text = (words, refl, r.text); rules = (r.file, r.key) })
arguments_found schema verb.Update words y whole all e = update_found schema words y all e
arguments_found schema verb.Delete words y whole all e =
    let a = bind_ok (record_at schema words) _ y e in
    let r = record_found schema words a.0 all a.1 in
    let made : Command × List Word = (command.Delete a.0.0 a.0.1, a.0.2) in
    subst (ArgumentsFound schema verb.Delete words) (ok_is made y a.2)
    (record { text = (words, refl, r.text); rules = (r.file, r.key) })
arguments_found schema verb.Connect words y whole all e = connect_found schema words y all e
arguments_found schema verb.Disconnect words y whole all e =
    let a = bind_ok (member_at schema words) _ y e in
    let r = member_found schema words a.0 all a.1 in
    let made : Command × List Word = (command.Disconnect a.0.0 a.0.1, a.0.2) in
    subst (ArgumentsFound schema verb.Disconnect words) (ok_is made y a.2)
    (record { text = (words, refl, r.text); rules = (r.link, r.member) })
arguments_found schema verb.Members words y whole all e = members_found schema words y whole all e
arguments_found schema verb.Owner words y whole all e =
    let a = bind_ok (member_at schema words) _ y e in
    let r = member_found schema words a.0 all a.1 in
    let made : Command × List Word = (command.Owner a.0.0 a.0.1, a.0.2) in
    subst (ArgumentsFound schema verb.Owner words) (ok_is made y a.2)
    (record { text = (words, refl, r.text); rules = (r.link, r.member) })
arguments_found schema verb.Find words y whole all e = find_found schema words y whole all e
arguments_found schema verb.Reorganize words y whole all e = structure_found schema words y e

pub no_more : (words : List Word) → is_end words ≡ true → words ≡ []
no_more [] e = refl
no_more (w ∷ ws) e = absurd cc

command_found : (schema : Schema) (words : List Word) (c : Command) → IsWellFormed schema
    → AllWords words → command_at schema words ≡ Ok c → MeansCommand schema words c
command_found schema words c whole all e =
    let a = bind_ok (want a_verb words) _ c e in
    let b = bind_ok (command_behind schema a.0.0 a.0.1) _ c a.2 in
    let n = name_found why.Word verb_of words a.0 a.1 in
    let first : Bare (verb_text a.0.0) ∷ a.0.1 ≡ words =
    sym (n.1 ∙ ap (λ (t : List ℕ). Bare t ∷ a.0.1) (verb_found n.0 a.0.0 n.2)) in
    let f = arguments_found schema a.0.0 a.0.1 b.0 whole
    (words_behind words (Bare n.0) a.0.1 n.1 all) b.1 in
    let t = held_ok (is_end b.0.1) (Ok b.0.0) why.Word c b.2 in
    let text : CommandWords schema b.0.0 words [] =
    subst (λ (rest : List Word). CommandWords schema b.0.0 words rest) (no_more b.0.1 t.0)
    (subst (λ (ws : List Word). CommandWords schema b.0.0 ws b.0.1) first f.text) in
    subst (MeansCommand schema words) (ok_is b.0.0 c t.1) (record { words = text; rules = f.rules })

pub reading_found : (schema : Schema) (words : List Word) (c : Command) → IsWellFormed schema
    → AllWords words → reading schema words ≡ Ok c → MeansCommand schema words c
unfolding reading
reading_found schema [] c whole all e =
    subst (MeansCommand schema []) (ok_is command.Nothing c e) (record { words = refl; rules = tt })
reading_found schema (w ∷ ws) c whole all e = command_found schema (w ∷ ws) c whole all e

-- ---- what is in the grammar is read

command_by : (schema : Schema) (v : Verb) (words mid : List Word) (c : Command)
    → the (verb_text v) words mid → command_behind schema v mid ≡ Ok (c, [])
    → reading schema words ≡ Ok c
unfolding reading
command_by schema v words mid c first e =
    let verbed : want a_verb words ≡ Ok (v, mid) =
    name_again why.Word verb_of words (verb_text v) v mid first (verb_again v) in
    cond-false (is_end words) _ _ (ap is_end first)
    ∙ bind_is (want a_verb words) _ (v, mid) _ verbed
    (bind_is (command_behind schema v mid) _ (c, []) _ e refl)

pub reading_again : (schema : Schema) (words : List Word) (c : Command)
    → MeansCommand schema words c
    → reading schema words ≡ Ok c
unfolding reading command_behind insert_at update_at connect_at members_at find_at
reading_again schema words command.Begin m =
    command_by schema verb.Begin words [] command.Begin m.words refl
reading_again schema words command.Commit m =
    command_by schema verb.Commit words [] command.Commit m.words refl
reading_again schema words command.Abort m =
    command_by schema verb.Abort words [] command.Abort m.words refl
reading_again schema words (command.Insert file values) m =
    let t = m.words in
    let fields = (file_at schema file).fields in
    command_by schema verb.Insert words t.0 (command.Insert file values) t.1
    (bind_is (want (a_file schema) t.0) _ (file, t.2.0) _
    (name_again why.File (file_number schema.files) t.0 t.2.1.0 file t.2.0 t.2.1.1 t.2.1.2)
    (bind_is (values_at fields [] t.2.0) _ (values, []) _
    (values_again fields values [] t.2.0 [] t.2.2 m.rules.1) refl))
reading_again schema words (command.Get file key) m =
    let t = m.words in
    command_by schema verb.Get words t.0 (command.Get file key) t.1
    (bind_is (record_at schema t.0) _ (file, key, []) _
    (record_again schema file key t.0 [] t.2 m.rules.1) refl)
reading_again schema words (command.Update file key changes) m =
    let t = m.words in
    let rest = t.2.2.0 in
    command_by schema verb.Update words t.0 (command.Update file key changes) t.1
    (bind_is (record_at schema t.0) _ (file, key, rest) _
    (record_again schema file key t.0 rest (t.2.0, t.2.1, t.2.2.1) m.rules.1)
    (bind_is (changes_at (length rest) (file_at schema file) [] rest) _ (changes, []) _
    (changes_again (length rest) (file_at schema file) [] changes rest
    (omega arith) t.2.2.2 m.rules.2 (new_of_apart changes m.rules.3)) refl))
reading_again schema words (command.Delete file key) m =
    let t = m.words in
    command_by schema verb.Delete words t.0 (command.Delete file key) t.1
    (bind_is (record_at schema t.0) _ (file, key, []) _
    (record_again schema file key t.0 [] t.2 m.rules.1) refl)
reading_again schema words (command.Connect link owner member) m =
    let t = m.words in
    let rest = t.2.2.0 in
    let k = key_kind (file_at schema (link_at schema link).member) in
    command_by schema verb.Connect words t.0 (command.Connect link owner member) t.1
    (bind_is (link_and_owner schema t.0) _ (link, owner, rest) _
    (owner_again schema link owner t.0 rest (t.2.0, t.2.1, t.2.2.1) m.rules.1)
    (bind_is (want (a_value k) rest) _ (member, []) _
    (value_again k member rest [] t.2.2.2 m.rules.2) refl))
reading_again schema words (command.Disconnect link member) m =
    let t = m.words in
    command_by schema verb.Disconnect words t.0 (command.Disconnect link member) t.1
    (bind_is (member_at schema t.0) _ (link, member, []) _
    (member_again schema link member t.0 [] t.2 m.rules.1) refl)
reading_again schema words (command.Members link owner order) m =
    let t = m.words in
    let rest = t.2.2.0 in
    let file = file_at schema (link_at schema link).member in
    command_by schema verb.Members words t.0 (command.Members link owner order) t.1
    (bind_is (link_and_owner schema t.0) _ (link, owner, rest) _
    (owner_again schema link owner t.0 rest (t.2.0, t.2.1, t.2.2.1) m.rules.1)
    (bind_is (order_at file rest) _ (order, []) _ (order_again file order rest t.2.2.2) refl))
reading_again schema words (command.Owner link member) m =
    let t = m.words in
    command_by schema verb.Owner words t.0 (command.Owner link member) t.1
    (bind_is (member_at schema t.0) _ (link, member, []) _
    (member_again schema link member t.0 [] t.2 m.rules.1) refl)
reading_again schema words (command.Find q) m =
    let t = m.words in
    let named = t.2 in
    let conds = named.2 in
    let of = conds.2 in
    let file = file_at schema q.file in
    let no_of = order_start file q.order of.0 (codes "of") of.2 refl in
    let no_where = of_start schema q.of conds.0 of.0 (codes "where") of.1 refl
    (order_start file q.order of.0 (codes "where") of.2 refl) in
    let no_and = of_start schema q.of conds.0 of.0 (codes "and") of.1 refl
    (order_start file q.order of.0 (codes "and") of.2 refl) in
    command_by schema verb.Find words t.0 (command.Find q) t.1
    (bind_is (want (a_file schema) t.0) _ (q.file, named.0) _
    (name_again why.File (file_number schema.files) t.0 named.1.0 q.file named.0 named.1.1
    named.1.2)
    (bind_is (where_at file named.0) _ (q.conds, conds.0) _
    (where_again file q.conds named.0 conds.0 conds.1 m.rules.conds no_where no_and)
    (bind_is (of_at schema q.file conds.0) _ (q.of, of.0) _
    (of_again schema q.file q.of conds.0 of.0 of.1 m.rules.of no_of)
    (bind_is (order_at file of.0) _ (q.order, []) _ (order_again file q.order of.0 of.2) refl))))
reading_again schema words (command.ReorganizeFile file) m =
    let t = m.words in
    let named : want (a_structure schema) t.0 ≡ Ok (command.ReorganizeFile file, []) =
    ap (want (a_structure schema)) t.2.1
    ∙ ap (λ (o : Option ℕ). met (structure_from o (link_number schema.links t.2.0)) []) t.2.2 in
    command_by schema verb.Reorganize words t.0 (command.ReorganizeFile file) t.1 named
reading_again schema words (command.ReorganizeLink link) m =
    let t = m.words in
    let named : want (a_structure schema) t.0 ≡ Ok (command.ReorganizeLink link, []) =
    ap (want (a_structure schema)) t.2.1
    ∙ (ap (λ (o : Option ℕ). met (structure_from o (link_number schema.links t.2.0)) []) t.2.2
    ∙ ap (λ (o : Option ℕ). met (structure_from None o) []) t.2.3) in
    command_by schema verb.Reorganize words t.0 (command.ReorganizeLink link) t.1 named
reading_again schema words command.Nothing m =
    ap (λ (ws : List Word). cond (is_end ws) (Ok command.Nothing) (command_at schema ws)) m.words
