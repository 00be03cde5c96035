-- The same of whole commands, and with it the first bad word of a line.
use Rattle.std.proofs.Common.{◌≡◌, ℕ, ◌<◌, true, false, List, [], ◌∷◌, ◌++◌, length, Option, None, Some, Result, Ok, Err, refl, sym, ap, subst, ◌∙◌, inl, inr, arith}
use Rattle.std.specs.Prelude.{codes, IfErr}
use Rattle.std.proofs.lemmas.List.{append-nil}
use Rattle.std.proofs.lemmas.Option.{same_Some}
use Rattle.gx_values.specs.declared.values.Value.{Value}
use Rattle.gx_values.specs.declared.values.Kind.{Kind}
use Rattle.gx_schema.specs.declared.schema.FileDef.{FileDef}
use Rattle.gx_schema.specs.declared.schema.Schema.{Schema}
use Rattle.gx_schema.specs.Lookups.{file_at, link_at}
use Rattle.gx_schema.specs.WellFormed.{IsWellFormed}
use Rattle.gx_commands.specs.declared.command.Change.{Change}
use Rattle.gx_commands.specs.declared.command.Command.{Command}
use Rattle.gx_commands.specs.declared.command.Command.TheVariants as command
use Rattle.gx_commands.specs.declared.command.LineWhy.{LineWhy}
use Rattle.gx_commands.specs.declared.command.LineWhy.TheVariants as why
use Rattle.gx_commands.specs.declared.command.NoCommand.{NoCommand}
use Rattle.gx_commands.specs.declared.command.NoCommand.TheVariants as no_command
use Rattle.gx_commands.specs.declared.command.Of.{Of}
use Rattle.gx_commands.specs.declared.command.OrderBy.{OrderBy}
use Rattle.gx_script.specs.declared.keywords.Verb.{Verb}
use Rattle.gx_script.specs.declared.keywords.Verb.TheVariants as verb
use Rattle.gx_script.specs.Faults.{IsFront, NoLineGoesOn, IsFirstBad, IsBad}
use Rattle.gx_script.specs.Grammar.{◌⨾◌, NoWord, the}
use Rattle.gx_script.specs.Names.{file_number, verb_of, verb_text}
use Rattle.gx_script.specs.Reading.{◌>>=◌, met, want, behind, a_verb, a_file, a_link, a_link_to, a_field, a_value, values_at, changes_at, where_from, where_at, owner_of_at, of_from, of_at, desc_from, desc_at, order_from, order_at, record_at, link_and_owner, member_at, insert_at, update_at, connect_at, members_at, find_at, command_behind, ended, reading, IsReading, AnswersUnlessNoMemory}
use Rattle.gx_script.specs.Shape.{AName, AValue, NameAndValue, Perhaps, Repeated, ValuesShape, ChangesShape, CondsShape, WhereShape, OfShape, OrderShape, ArgumentsShape, IsShaped}
use Rattle.gx_commands.specs.Words.{Word, Bare, IsLineWord, AreWords}
use Rattle.gx_script.proofs.CommandLaws.{reading_again}
use Rattle.gx_script.proofs.Steps.{done}
use Rattle.gx_script.proofs.WordMeanings.{bare_found, verb_found, name_found, file_within}
use Rattle.gx_script.proofs.LocalWords.{next_of, IsFrontOf, Outcome, IsLocal, local_then, local_bind, local_map, local_as, local_same, local_none, local_optional, front_then}
use Rattle.gx_script.proofs.LocalParts.{some_value, some_repeated, local_file, local_link, local_link_to, local_field, local_structure, local_value, local_values, named_value, local_named, flat, flat_then, file_key, owner_key, member_key, record_flat, owner_flat, member_flat}
use Rattle.gx_script.proofs.LocalLoops.{local_changes, some_changes, local_conds}

-- ---- the optional parts of `find` and `members`

some_none : (phrase : List Word → List Word → Type 0) → IsFrontOf (Perhaps phrase) []
some_none phrase = record { behind = []; are = tt; shaped = λ tail. inl refl }

local_where : (file : FileDef) → IsLocal (where_at file) WhereShape
unfolding where_at
local_where file = local_optional (codes "where") [] (λ words o. where_from file words o) _
    (Repeated CondsShape) (λ words. refl) (λ words rest. refl) (local_conds file)

local_owner_of : (schema : Schema) (file : ℕ) → IsLocal (owner_of_at schema file) NameAndValue
unfolding owner_of_at
local_owner_of schema file =
    local_bind (want (a_link_to schema file))
    (λ link ws. want (a_value (owner_key schema link)) ws >>= λ owner. Ok
    (record { link = link; owner = owner.0 }, owner.1)) AName AValue
    (local_link_to schema file) some_value
    (λ link. local_map (λ (owner : Value). record { link = link; owner = owner })
    (want (a_value (owner_key schema link))) AValue (local_value (owner_key schema link)))

some_of : Of → Option Of
some_of of = Some of

local_of : (schema : Schema) (file : ℕ) → IsLocal (of_at schema file) OfShape
unfolding of_at some_of
local_of schema file = local_optional (codes "of") None (λ words o. of_from schema file words o)
    (λ rest. owner_of_at schema file rest >>= λ of. Ok (Some of.0, of.1)) NameAndValue
    (λ words. refl)
    (λ words rest. refl)
    (local_map some_of (owner_of_at schema file) NameAndValue (local_owner_of schema file))

desc_shape : (words rest : List Word) → Perhaps (the (codes "desc") ⨾ NoWord) words rest
    → Perhaps (the (codes "desc")) words rest
desc_shape words rest (inl none) = inl none
desc_shape words rest (inr h) = inr (subst (λ (r : List Word). the (codes "desc") words r) h.2 h.1)

local_desc : (field : ℕ) → IsLocal {A = OrderBy} (λ words. Ok (desc_at field words))
    (Perhaps (the (codes "desc")))
unfolding desc_at
local_desc field = local_as (λ words. Ok (desc_from field words (behind (codes "desc") words)))
    (Perhaps (the (codes "desc") ⨾ NoWord)) (Perhaps (the (codes "desc"))) desc_shape
    (local_optional (codes "desc") (record { field = field; desc = false })
    (λ words o. Ok (desc_from field words o))
    (λ rest. Ok (record { field = field; desc = true }, rest)) NoWord (λ words. refl)
    (λ words rest. refl)
    (local_none (record { field = field; desc = true })))

local_order : (file : FileDef) → IsLocal (order_at file) OrderShape
unfolding order_at
local_order file = local_optional (codes "order") (record { field = 0; desc = false })
    (λ words o. order_from file words o)
    (λ rest. want (a_field file) rest >>= λ field. Ok (desc_at field.0 field.1))
    (AName ⨾ Perhaps (the (codes "desc"))) (λ words. refl) (λ words rest. refl)
    (local_bind (want (a_field file)) (λ field ws. Ok (desc_at field ws)) AName
    (Perhaps (the (codes "desc"))) (local_field file) (some_none (the (codes "desc"))) local_desc)

-- ---- commands, behind their first word

file_has_fields : (schema : Schema) (words : List Word) (y : ℕ × List Word) → IsWellFormed schema
    → want (a_file schema) words ≡ Ok y → 0 < length (file_at schema y.0).fields
file_has_fields schema words y whole e =
    let n = name_found why.File (file_number schema.files) words y e in
    (whole.files y.0 (file_within schema n.0 y.0 n.2)).key

local_insert : (schema : Schema) → IsWellFormed schema
    → IsLocal (insert_at schema) (AName ⨾ Repeated ValuesShape)
unfolding insert_at
local_insert schema whole =
    local_then (want (a_file schema))
    (λ file ws. values_at (file_at schema file).fields [] ws >>= λ x. Ok
    (command.Insert file x.0, x.1)) AName (Repeated ValuesShape)
    (local_file schema) some_repeated
    (λ words y e. local_map (λ (vs : List Value). command.Insert y.0 vs)
    (values_at (file_at schema y.0).fields []) (Repeated ValuesShape)
    (local_values (file_at schema y.0).fields (file_has_fields schema words y whole e)))

-- a command on a record, an owner or a member
local_one : (at : List Word → Result (ℕ × Value × List Word) LineWhy) (name : Word
    → Result ℕ LineWhy) (kind_of : ℕ → Kind) (made : ℕ → Value → Command)
    → ((words : List Word) → at words ≡ flat (named_value name kind_of words))
    → IsLocal (want name) AName
    → IsLocal (λ words. at words >>= λ r. Ok (made r.0 r.1, r.2)) NameAndValue
local_one at name kind_of made is local =
    local_same (λ words. at words >>= λ r. Ok (made r.0 r.1, r.2))
    (λ words. named_value name kind_of words >>= λ y. Ok (made y.0.0 y.0.1, y.1)) NameAndValue
    (λ words. sym (ap (λ (r : Result (ℕ × Value × List Word) LineWhy). r >>= λ x. Ok
    (made x.0 x.1, x.2)) (is words)
    ∙ flat_then (named_value name kind_of words) (λ x. Ok (made x.0 x.1, x.2))))
    (local_map (λ (p : ℕ × Value). made p.0 p.1) (named_value name kind_of) NameAndValue
    (local_named name kind_of local))

-- the same with more behind it
local_more : {B : Type 0} (at : List Word → Result (ℕ × Value × List Word) LineWhy) (name : Word
    → Result ℕ LineWhy) (kind_of : ℕ → Kind) (next : ℕ × Value → List Word
    → Result (B × List Word) LineWhy) (b : List Word → List Word → Type 0)
    → ((words : List Word) → at words ≡ flat (named_value name kind_of words))
    → IsLocal (want name) AName → IsFrontOf b []
    → ((p : ℕ × Value) → IsLocal (next p) b)
    → IsLocal (λ words. at words >>= λ r. next (r.0, r.1) r.2) (NameAndValue ⨾ b)
local_more at name kind_of next b is local some later =
    local_same (λ words. at words >>= λ r. next (r.0, r.1) r.2)
    (λ words. named_value name kind_of words >>= λ y. next y.0 y.1) (NameAndValue ⨾ b)
    (λ words. sym (ap (λ (r : Result (ℕ × Value × List Word) LineWhy). r >>= λ x. next
    (x.0, x.1) x.2) (is words)
    ∙ flat_then (named_value name kind_of words) (λ x. next (x.0, x.1) x.2)))
    (local_bind (named_value name kind_of) next NameAndValue b (local_named name kind_of local) some
    later)

local_update : (schema : Schema) → IsLocal (update_at schema) (NameAndValue ⨾ Repeated ChangesShape)
unfolding update_at
local_update schema =
    local_more (record_at schema) (a_file schema) (file_key schema)
    (λ p ws. changes_at (length ws) (file_at schema p.0) [] ws >>= λ x. Ok
    (command.Update p.0 p.1 x.0, x.1)) (Repeated ChangesShape) (record_flat schema)
    (local_file schema) some_changes
    (λ p. local_map (λ (cs : List Change). command.Update p.0 p.1 cs)
    (λ ws. changes_at (length ws) (file_at schema p.0) [] ws) (Repeated ChangesShape)
    (local_changes (file_at schema p.0)))

local_connect : (schema : Schema) → IsLocal (connect_at schema) (NameAndValue ⨾ AValue)
unfolding connect_at
local_connect schema =
    local_more (link_and_owner schema) (a_link schema) (owner_key schema)
    (λ p ws. want (a_value (member_key schema p.0)) ws >>= λ member. Ok
    (command.Connect p.0 p.1 member.0, member.1)) AValue (owner_flat schema)
    (local_link schema) some_value
    (λ p. local_map (λ (member : Value). command.Connect p.0 p.1 member)
    (want (a_value (member_key schema p.0))) AValue (local_value (member_key schema p.0)))

local_members : (schema : Schema) → IsLocal (members_at schema) (NameAndValue ⨾ OrderShape)
unfolding members_at
local_members schema =
    local_more (link_and_owner schema) (a_link schema) (owner_key schema)
    (λ p ws. order_at (file_at schema (link_at schema p.0).member) ws >>= λ order. Ok
    (command.Members p.0 p.1 order.0, order.1)) OrderShape (owner_flat schema)
    (local_link schema) (some_none _)
    (λ p. local_map (λ (order : OrderBy). command.Members p.0 p.1 order)
    (order_at (file_at schema (link_at schema p.0).member)) OrderShape
    (local_order (file_at schema (link_at schema p.0).member)))

local_find : (schema : Schema)
    → IsLocal (find_at schema) (AName ⨾ WhereShape ⨾ OfShape ⨾ OrderShape)
unfolding find_at
local_find schema =
    local_bind (want (a_file schema))
    (λ file ws. where_at (file_at schema file) ws >>= λ conds. of_at schema file conds.1 >>=
    λ of. order_at (file_at schema file) of.1 >>= λ order. Ok
    (command.Find (record { file = file; conds = conds.0; of = of.0; order = order.0 }), order.1))
    AName (WhereShape ⨾ OfShape ⨾ OrderShape) (local_file schema)
    (front_then WhereShape (OfShape ⨾ OrderShape) [] (some_none _)
    (front_then OfShape OrderShape [] (some_none _) (some_none _)))
    (λ file. local_bind (where_at (file_at schema file))
    (λ conds ws. of_at schema file ws >>= λ of. order_at (file_at schema file) of.1 >>= λ order.
    Ok (command.Find (record { file = file; conds = conds; of = of.0; order = order.0 }), order.1))
    WhereShape (OfShape ⨾ OrderShape) (local_where (file_at schema file))
    (front_then OfShape OrderShape [] (some_none _) (some_none _))
    (λ conds. local_bind (of_at schema file)
    (λ of ws. order_at (file_at schema file) ws >>= λ order. Ok
    (command.Find (record { file = file; conds = conds; of = of; order = order.0 }), order.1))
    OfShape OrderShape (local_of schema file) (some_none _)
    (λ of. local_map (λ (order : OrderBy). command.Find
    (record { file = file; conds = conds; of = of; order = order }))
    (order_at (file_at schema file)) OrderShape (local_order (file_at schema file)))))

local_arguments : (schema : Schema) (v : Verb) → IsWellFormed schema
    → IsLocal (command_behind schema v) (ArgumentsShape v)
unfolding command_behind
local_arguments schema verb.Begin whole = local_none command.Begin
local_arguments schema verb.Commit whole = local_none command.Commit
local_arguments schema verb.Abort whole = local_none command.Abort
local_arguments schema verb.Insert whole = local_insert schema whole
local_arguments schema verb.Get whole =
    local_one (record_at schema) (a_file schema) (file_key schema)
    (λ file key. command.Get file key) (record_flat schema) (local_file schema)
local_arguments schema verb.Update whole = local_update schema
local_arguments schema verb.Delete whole =
    local_one (record_at schema) (a_file schema) (file_key schema)
    (λ file key. command.Delete file key) (record_flat schema) (local_file schema)
local_arguments schema verb.Connect whole = local_connect schema
local_arguments schema verb.Disconnect whole =
    local_one (member_at schema) (a_link schema) (member_key schema)
    (λ link member. command.Disconnect link member) (member_flat schema) (local_link schema)
local_arguments schema verb.Members whole = local_members schema
local_arguments schema verb.Owner whole =
    local_one (member_at schema) (a_link schema) (member_key schema)
    (λ link member. command.Owner link member) (member_flat schema) (local_link schema)
local_arguments schema verb.Find whole = local_find schema
local_arguments schema verb.Reorganize whole = local_structure schema

-- ---- the first bad word

none_on : (schema : Schema) (before here : List Word) (reason : LineWhy)
    → ((other : List Word) → next_of other ≡ next_of here
    → reading schema (before ++ other) ≡ Err reason) → NoLineGoesOn schema before here
none_on schema before [] reason others = λ c means. let e : done c ≡ Err reason =
    sym (reading_again schema before c means) ∙ ap (reading schema) (sym (append-nil before))
    ∙ others [] refl in absurd cc
none_on schema before (w ∷ ws) reason others = λ behind c means. let e : done c ≡ Err reason =
    sym (reading_again schema (before ++ w ∷ behind) c means) ∙ others (w ∷ behind) refl in
    absurd cc

begin_is_word : IsLineWord (Bare (codes "begin"))
begin_is_word = (λ e. omega arith, (refl, (refl, (refl, (refl, (refl, tt))))))

some_line : IsFront []
some_line = (Bare (codes "begin") ∷ [], (begin_is_word, tt), (verb.Begin, ([], refl, refl)))

-- behind the word of a command
verb_is : (w : Word) (v : Verb) → a_verb w ≡ Ok v → w ≡ Bare (verb_text v)
verb_is w v e = let b = bare_found why.Word verb_of w v e in b.1 ∙ ap Bare (verb_found b.0 v b.2)

begun_shape : (w : Word) (v : Verb) (words behind : List Word) → w ≡ Bare (verb_text v)
    → ArgumentsShape v words [] → IsShaped (w ∷ words)
begun_shape w v words behind is h = (v, (words, ap (λ (x : Word). x ∷ words) is, h))

abbrev rest_of : Schema → Verb × List Word → Result Command LineWhy
rest_of schema x = command_behind schema x.0 x.1 >>= λ y. ended y

-- what words give that begin with that of a command
reading_from : (schema : Schema) (w : Word) (v : Verb) (ws : List Word) → a_verb w ≡ Ok v
    → reading schema (w ∷ ws) ≡ (command_behind schema v ws >>= λ y. ended y)
unfolding reading
reading_from schema w v ws e =
    ap (λ (r : Result Verb LineWhy). met r ws >>= λ x. rest_of schema x) e

no_verb : (schema : Schema) (w : Word) (ws : List Word) (reason : LineWhy) → a_verb w ≡ Err reason
    → reading schema (w ∷ ws) ≡ Err reason
unfolding reading
no_verb schema w ws reason e =
    ap (λ (r : Result Verb LineWhy). met r ws >>= λ x. rest_of schema x) e

no_verb_next : (schema : Schema) (w : Word) (reason : LineWhy) (other : List Word)
    → a_verb w ≡ Err reason → next_of other ≡ Some w → reading schema other ≡ Err reason
no_verb_next schema w reason [] e same = absurd cc
no_verb_next schema w reason (v ∷ vs) e same =
    no_verb schema v vs reason (ap a_verb (same_Some v w same) ∙ e)

ended_by : (c : Command) (rest : List Word) (u : Word) → next_of rest ≡ Some u
    → ended (c, rest) ≡ Err why.Word
ended_by c [] u e = absurd cc
ended_by c (w ∷ ws) u e = refl

bad_behind : (schema : Schema) (w : Word) (v : Verb) (ws : List Word) (reason : LineWhy)
    → a_verb w ≡ Ok v → (r : Result (Command × List Word) LineWhy)
    → Outcome (command_behind schema v) (ArgumentsShape v) ws r
    → (r >>= λ y. ended y) ≡ Err reason → IsFirstBad schema (w ∷ ws)
bad_behind schema w v ws reason is (Err why) (before, s, front) e = record {
  before = w ∷ before;
  here = s.here;
  parts = ap (λ (xs : List Word). w ∷ xs) s.parts;
  front = (
    front.behind,
    front.are,
    begun_shape w v (before ++ front.behind) [] (verb_is w v is)
        (subst (λ (xs : List Word). ArgumentsShape v (before ++ xs) []) (append-nil front.behind)
        (front.shaped [])),
  );
  none = none_on schema (w ∷ before) s.here why
      (λ other same. reading_from schema w v (before ++ other) is
      ∙ ap (λ (r : Result (Command × List Word) LineWhy). r >>= λ y. ended y)
      (s.others other same));
}
bad_behind schema w v ws reason is (Ok (c, [])) t e = absurd cc
bad_behind schema w v ws reason is (Ok (c, u ∷ us)) t e = record {
  before = w ∷ t.taken;
  here = u ∷ us;
  parts = ap (λ (xs : List Word). w ∷ xs) t.parts;
  front = ([], tt, begun_shape w v (t.taken ++ []) [] (verb_is w v is) (t.shaped []));
  none = none_on schema (w ∷ t.taken) (u ∷ us) why.Word
      (λ other same. reading_from schema w v (t.taken ++ other) is
      ∙ ap (λ (r : Result (Command × List Word) LineWhy). r >>= λ y. ended y)
      (t.others other same) ∙ ended_by c other u same);
}

bad_by : (schema : Schema) (w : Word) (ws : List Word) (reason : LineWhy) (r : Result Verb LineWhy)
    → IsWellFormed schema → a_verb w ≡ r → reading schema (w ∷ ws) ≡ Err reason
    → IsFirstBad schema (w ∷ ws)
bad_by schema w ws reason (Ok v) whole is e =
    bad_behind schema w v ws reason is (command_behind schema v ws)
    (local_arguments schema v whole ws) (sym (reading_from schema w v ws is) ∙ e)
bad_by schema w ws reason (Err why) whole is e = record {
  before = [];
  here = w ∷ ws;
  parts = refl;
  front = some_line;
  none = none_on schema [] (w ∷ ws) why (λ other same. no_verb_next schema w why other is same);
}

pub first_bad : (schema : Schema) (words : List Word) (reason : LineWhy) → IsWellFormed schema
    → reading schema words ≡ Err reason → IsFirstBad schema words
unfolding reading
first_bad schema [] reason whole e = absurd cc
first_bad schema (w ∷ ws) reason whole e = bad_by schema w ws reason (a_verb w) whole refl e

-- ---- lines

abbrev IsBadFor : Schema → List ℕ → LineWhy → Type 0
IsBadFor schema line reason = IsBad schema line (no_command.Bad reason)

bad_words : (schema : Schema) (line : List ℕ) (reason : LineWhy)
    → ((words : List Word) × AreWords line words × IsFirstBad schema words)
    → IsBadFor schema line reason
bad_words schema line why.Character w = tt
bad_words schema line why.Quote w = tt
bad_words schema line why.TooLong w = w
bad_words schema line why.Session w = w
bad_words schema line why.Word w = w
bad_words schema line why.File w = w
bad_words schema line why.Link w = w
bad_words schema line why.Field w = w
bad_words schema line why.Value w = w
bad_words schema line why.InTransaction w = w
bad_words schema line why.NoTransaction w = w
bad_words schema line why.OpenTransaction w = w
bad_words schema line why.ScriptTooLong w = w

failed_is : (a b : LineWhy) → ◌≡◌ {A = Result Command LineWhy} (Err a) (Err b) → a ≡ b
failed_is a b e = cc

bad_line : (schema : Schema) (line : List ℕ) (reason : LineWhy) → IsWellFormed schema
    → IsReading schema line (Err reason) → IsBadFor schema line reason
bad_line schema line reason whole (inl r) = absurd (let e = r.1 in cc)
bad_line schema line reason whole (inr (inl r)) =
    subst (IsBadFor schema line) (sym (failed_is reason why.Character r.2)) tt
bad_line schema line reason whole (inr (inr (inl r))) =
    subst (IsBadFor schema line) (sym (failed_is reason why.Quote r.3)) tt
bad_line schema line reason whole (inr (inr (inr r))) = let w = r.2 in
    bad_words schema line reason (w.0, w.1, first_bad schema w.0 reason whole (sym w.2))

pub is_bad : (schema : Schema) (line : List ℕ) (r : Result Command NoCommand) → IsWellFormed schema
    → AnswersUnlessNoMemory r (IsReading schema line) → IfErr r (λ e. IsBad schema line e)
is_bad schema line (Ok c) whole h = tt
is_bad schema line (Err no_command.NoMemory) whole h = tt
is_bad schema line (Err (no_command.Bad reason)) whole h = bad_line schema line reason whole h
