-- Path lines, both ways, and that each has one reading.
use Rattle.std.proofs.Common.{◌≡◌, ℕ, zero, suc, ◌<◌, ◌≤◌, false, eqb, List, [], ◌∷◌, ◌++◌, length, Option, Some, None, Result, Ok, refl, sym, ap, subst, ◌∙◌, inl, inr, arith, append_assoc}
use Rattle.std.specs.Prelude.{codes}
use Rattle.std.specs.List.{list_all}
use Rattle.std.proofs.lemmas.Bool.{cond_both, cond-true, cond-false, eqb-true, eq-eqb}
use Rattle.gx_schema.specs.declared.schema.Schema.{Schema}
use Rattle.gx_schema.specs.Lookups.{file_at}
use Rattle.gx_schema.specs.WellFormed.{IsWellFormed}
use Rattle.gx_commands.specs.declared.command.Cond.{Cond}
use Rattle.gx_commands.specs.declared.command.Find.{Find}
use Rattle.gx_commands.specs.declared.command.LineWhy.{LineWhy}
use Rattle.gx_commands.specs.declared.command.LineWhy.TheVariants as why
use Rattle.gx_commands.specs.declared.path.Way.{Way}
use Rattle.gx_commands.specs.declared.path.Way.TheVariants.{Down, Up}
use Rattle.gx_commands.specs.declared.path.Leg.{Leg}
use Rattle.gx_commands.specs.declared.path.PathQuery.{PathQuery}
use Rattle.gx_commands.specs.Paths.{IsByKey, IsLegFrom, AreLegsFrom, most_legs, link_of, file_before, file_behind, by_key}
use Rattle.gx_commands.specs.Words.{Word, Bare, is_character}
use Rattle.gx_commands.specs.Cutting.{is_end}
use Rattle.gx_script.specs.Names.{file_number, link_number}
use Rattle.gx_script.specs.Reading.{want, behind, a_file, a_link, where_at}
use Rattle.gx_script.specs.Grammar.{◌⨾◌, WhereWords}
use Rattle.gx_script.specs.Paths.{WayWords, LegsWords, MeansPath, IsPathLine, a_way, way_from, way_at, leg_at, legs_at, path_at, path_from, path_reading, IsPathReading}
use Rattle.gx_script.proofs.Steps.{bind_ok, bind_is, held_ok, ok_is}
use Rattle.gx_script.proofs.WordMeanings.{AllWords, words_behind, name_found, name_again, file_within, link_within, behind_found, behind_again}
use Rattle.gx_script.proofs.ClauseLaws.{WhereFound, where_found, where_again}
use Rattle.gx_script.proofs.CommandLaws.{no_more}
use Rattle.gx_script.proofs.ReadingLaws.{words_are, words_same, differ}

-- ---- down LINK or up LINK

record WayFound (schema : Schema) (words : List Word) (y : Way × List Word) : Type 0 where
  text : WayWords schema y.0 words y.1
  link : link_of y.0 < length schema.links
  rest : AllWords y.1

way_step : (schema : Schema) (words : List Word) (o p : Option (List Word)) (y : Way × List Word)
    → AllWords words → behind (codes "down") words ≡ o → behind (codes "up") words ≡ p
    → way_from schema o p ≡ Ok y → WayFound schema words y
way_step schema words (Some mid) p y all is also e =
    let w = behind_found (codes "down") words mid is in
    let a = bind_ok (want (a_link schema) mid) _ y e in
    let n = name_found why.Link (link_number schema.links) mid a.0 a.1 in
    let made : Way × List Word = (Down a.0.0, a.0.1) in
    subst (WayFound schema words) (ok_is made y a.2) (record {
      text = (mid, w, n);
      link = link_within schema n.0 a.0.0 n.2;
      rest = words_behind mid (Bare n.0) a.0.1 n.1
          (words_behind words (Bare (codes "down")) mid w all);
    })
way_step schema words None (Some mid) y all is also e =
    let w = behind_found (codes "up") words mid also in
    let a = bind_ok (want (a_link schema) mid) _ y e in
    let n = name_found why.Link (link_number schema.links) mid a.0 a.1 in
    let made : Way × List Word = (Up a.0.0, a.0.1) in
    subst (WayFound schema words) (ok_is made y a.2) (record {
      text = (mid, w, n);
      link = link_within schema n.0 a.0.0 n.2;
      rest = words_behind mid (Bare n.0) a.0.1 n.1
          (words_behind words (Bare (codes "up")) mid w all);
    })
way_step schema words None None y all is also e = absurd cc

way_found : (schema : Schema) (file : ℕ) (words : List Word) (y : Way × List Word)
    → AllWords words → way_at schema file words ≡ Ok y
    → WayFound schema words y × (file_before schema y.0 ≡ file)
unfolding way_at
way_found schema file words y all e =
    let down = behind (codes "down") words in
    let up = behind (codes "up") words in
    let a = bind_ok (way_from schema down up) _ y e in
    let t = held_ok (eqb (file_before schema a.0.0) file) (Ok a.0) why.Link y a.2 in
    subst (λ (z : Way × List Word). WayFound schema words z × (file_before schema z.0 ≡ file))
    (ok_is a.0 y t.1) (
      way_step schema words down up a.0 all refl refl a.1,
      eqb-true (file_before schema a.0.0) file t.0,
    )

made_again : (schema : Schema) (made : ℕ → Way) (link : ℕ) (words rest : List Word)
    (name : List ℕ) → words ≡ Bare name ∷ rest → link_number schema.links name ≡ Some link
    → a_way schema made words ≡ Ok (made link, rest)
made_again schema made link words rest name first is =
    bind_is (want (a_link schema) words) _ (link, rest) _
    (name_again why.Link (link_number schema.links) words name link rest first is) refl

way_from_again : (schema : Schema) (way : Way) (words rest : List Word)
    → WayWords schema way words rest
    → way_from schema (behind (codes "down") words) (behind (codes "up") words) ≡ Ok (way, rest)
way_from_again schema (Down link) words rest t =
    ap (λ (o : Option (List Word)). way_from schema o (behind (codes "up") words))
    (behind_again (codes "down") words t.0 t.1)
    ∙ made_again schema (λ l. Down l) link t.0 rest t.2.0 t.2.1 t.2.2
way_from_again schema (Up link) words rest t =
    let none : behind (codes "down") words ≡ None = ap (behind (codes "down")) t.1 in
    ap (λ (o : Option (List Word)). way_from schema o (behind (codes "up") words)) none
    ∙ (ap (way_from schema None) (behind_again (codes "up") words t.0 t.1)
    ∙ made_again schema (λ l. Up l) link t.0 rest t.2.0 t.2.1 t.2.2)

way_again : (schema : Schema) (file : ℕ) (way : Way) (words rest : List Word)
    → WayWords schema way words rest → file_before schema way ≡ file
    → way_at schema file words ≡ Ok (way, rest)
unfolding way_at
way_again schema file way words rest t before =
    let down = behind (codes "down") words in
    let up = behind (codes "up") words in
    bind_is (way_from schema down up) _ (way, rest) _ (way_from_again schema way words rest t)
    (cond-true _ _ _ (eq-eqb (file_before schema way) file before))

-- ---- a `find` by key

by_key_of : (schema : Schema) (file : ℕ) (words : List Word) (y : List Cond × List Word)
    → IsWellFormed schema → file < length schema.files
    → WhereFound (file_at schema file) words y → IsByKey schema (by_key file y.0)
by_key_of schema file words y whole within f =
    let has = whole.files file within in
    record {
      of_schema = record { file = within; conds = f.rules; of = tt; order = has.key };
      plain = refl;
    }

-- ---- legs

record LegFound (schema : Schema) (file : ℕ) (words : List Word) (y : Leg × List Word) : Type 0
  where
    text : (WayWords schema y.0.way ⨾ WhereWords (file_at schema y.0.find.file) y.0.find.conds)
        words y.1
    rule : IsLegFrom schema file y.0
    rest : AllWords y.1

behind_within : (schema : Schema) (way : Way) → IsWellFormed schema
    → link_of way < length schema.links → file_behind schema way < length schema.files
behind_within schema (Down link) whole within = let ends = whole.links link within in ends.member
behind_within schema (Up link) whole within = let ends = whole.links link within in ends.owner

leg_found : (schema : Schema) (file : ℕ) (words : List Word) (y : Leg × List Word)
    → IsWellFormed schema → AllWords words → leg_at schema file words ≡ Ok y
    → LegFound schema file words y
unfolding leg_at
leg_found schema file words y whole all e =
    let a = bind_ok (way_at schema file words) _ y e in
    let w = way_found schema file words a.0 all a.1 in
    let way = w.0 in
    let next = file_behind schema a.0.0 in
    let b = bind_ok (where_at (file_at schema next) a.0.1) _ y a.2 in
    let f = where_found (file_at schema next) a.0.1 b.0 way.rest b.1 in
    let made : Leg × List Word = (record { way = a.0.0; find = by_key next b.0.0 }, b.0.1) in
    subst (LegFound schema file words) (ok_is made y b.2) (record {
      text = (a.0.1, way.text, f.text);
      rule = record {
        link = way.link;
        before = w.1;
        behind = refl;
        find = by_key_of schema next a.0.1 b.0 whole (behind_within schema a.0.0 whole way.link) f;
      };
      rest = f.rest;
    })

leg_again : (schema : Schema) (file : ℕ) (leg : Leg) (words mid rest : List Word)
    → IsLegFrom schema file leg → WayWords schema leg.way words mid
    → WhereWords (file_at schema leg.find.file) leg.find.conds mid rest
    → behind (codes "where") rest ≡ None → behind (codes "and") rest ≡ None
    → leg_at schema file words ≡ Ok (leg, rest)
unfolding leg_at
leg_again schema file leg words mid rest rule way conds no_where no_and =
    let found = rule.find in
    let of = found.of_schema in
    let next = file_at schema (file_behind schema leg.way) in
    let read : where_at next mid ≡ Ok (leg.find.conds, rest) =
    ap (λ (f : ℕ). where_at (file_at schema f) mid) rule.behind
    ∙ where_again (file_at schema leg.find.file) leg.find.conds mid rest conds of.conds no_where
    no_and in
    bind_is (way_at schema file words) _ (leg.way, mid) _
    (way_again schema file leg.way words mid way rule.before)
    (bind_is (where_at next mid) _ (leg.find.conds, rest) _ read
    (ap (λ (f : ℕ). Ok (record { way = leg.way; find = by_key f leg.find.conds }, rest)) rule.behind
    ∙ ap (λ (q : Find). Ok (record { way = leg.way; find = q }, rest)) (sym found.plain)))

record LegsFound (room : ℕ) (schema : Schema) (file : ℕ) (before : List Leg) (words : List Word)
    (legs : List Leg) : Type 0 where
  more : List Leg
  whole : before ++ more ≡ legs
  text : LegsWords schema more words []
  rules : AreLegsFrom schema file more
  some : 0 < length more
  few : length more ≤ room

legs_found : (room : ℕ) (schema : Schema) (file : ℕ) (before : List Leg) (words : List Word)
    (legs : List Leg) → IsWellFormed schema → AllWords words
    → legs_at room schema file before words ≡ Ok legs
    → LegsFound room schema file before words legs
unfolding legs_at
legs_found zero schema file before words legs whole all e = absurd cc
legs_found (suc room) schema file before words legs whole all e =
    let a = bind_ok (leg_at schema file words) _ legs e in
    let leg = a.0.0 in
    let mid = a.0.1 in
    let f = leg_found schema file words a.0 whole all a.1 in
    let made : List Leg = before ++ leg ∷ [] in
    cond_both (is_end mid) (Ok made) (legs_at room schema leg.find.file made mid)
    (λ (r : Result (List Leg) LineWhy). r ≡ Ok legs
    → LegsFound (suc room) schema file before words legs)
    (λ last h. record {
      more = leg ∷ [];
      whole = ok_is made legs h;
      text = (f.text.0, f.text.1, (mid, f.text.2, no_more mid last));
      rules = (f.rule, tt);
      some = omega arith;
      few = omega arith;
    })
    (λ _ h.
    let others = legs_found room schema leg.find.file made mid legs whole f.rest h in
    record {
      more = leg ∷ others.more;
      whole = sym (append_assoc before (leg ∷ []) others.more) ∙ others.whole;
      text = (f.text.0, f.text.1, (mid, f.text.2, others.text));
      rules = (f.rule, others.rules);
      some = omega arith;
      few = omega (arith, others.few);
    })
    a.2

-- no condition goes on with a leg, or with the end
way_starts : (schema : Schema) (way : Way) (words rest : List Word) → WayWords schema way words rest
    → (behind (codes "where") words ≡ None) × (behind (codes "and") words ≡ None)
    × (is_end words ≡ false)
way_starts schema (Down link) words rest t =
    (ap (behind (codes "where")) t.1, ap (behind (codes "and")) t.1, ap is_end t.1)
way_starts schema (Up link) words rest t =
    (ap (behind (codes "where")) t.1, ap (behind (codes "and")) t.1, ap is_end t.1)

legs_start : (schema : Schema) (legs : List Leg) (words : List Word)
    → LegsWords schema legs words [] → (behind (codes "where") words ≡ None) × (behind (codes "and") words ≡ None)
legs_start schema [] words t = (ap (behind (codes "where")) t, ap (behind (codes "and")) t)
legs_start schema (leg ∷ legs) words t = let s = way_starts schema leg.way words t.0 t.1 in
    (s.0, s.1)

legs_again : (room : ℕ) (schema : Schema) (file : ℕ) (before legs : List Leg) (words : List Word)
    → length legs ≤ room → 0 < length legs → LegsWords schema legs words []
    → AreLegsFrom schema file legs → legs_at room schema file before words ≡ Ok (before ++ legs)
unfolding legs_at
legs_again room schema file before [] words few some t rules = absurd (omega arith)
legs_again zero schema file before (leg ∷ legs) words few some t rules = absurd (omega arith)
legs_again (suc room) schema file before (leg ∷ []) words few some t rules =
    let rest = t.2.0 in
    let none = legs_start schema [] rest t.2.2 in
    bind_is (leg_at schema file words) _ (leg, rest) _
    (leg_again schema file leg words t.0 rest rules.0 t.1 t.2.1 none.0 none.1)
    (cond-true (is_end rest) _ _ (ap is_end t.2.2))
legs_again (suc room) schema file before (leg ∷ next ∷ legs) words few some t rules =
    let rest = t.2.0 in
    let none = legs_start schema (next ∷ legs) rest t.2.2 in
    let start = way_starts schema next.way rest t.2.2.0 t.2.2.1 in
    bind_is (leg_at schema file words) _ (leg, rest) _
    (leg_again schema file leg words t.0 rest rules.0 t.1 t.2.1 none.0 none.1)
    (cond-false (is_end rest) _ _ start.2
    ∙ (legs_again room schema leg.find.file (before ++ leg ∷ []) (next ∷ legs) rest
    (omega (arith, few)) (omega arith) t.2.2 rules.1
    ∙ ap (λ (all : List Leg). Ok all) (append_assoc before (leg ∷ []) (next ∷ legs))))

-- ---- paths

path_step : (schema : Schema) (words : List Word) (o : Option (List Word)) (q : PathQuery)
    → IsWellFormed schema → AllWords words → behind (codes "path") words ≡ o
    → path_from schema o ≡ Ok q → MeansPath schema words q
unfolding path_at
path_step schema words None q whole all is e = absurd cc
path_step schema words (Some mid) q whole all is e =
    let w = behind_found (codes "path") words mid is in
    let a = bind_ok (want (a_file schema) mid) _ q e in
    let n = name_found why.File (file_number schema.files) mid a.0 a.1 in
    let within = file_within schema n.0 a.0.0 n.2 in
    let file = file_at schema a.0.0 in
    let b = bind_ok (where_at file a.0.1) _ q a.2 in
    let f = where_found file a.0.1 b.0
    (words_behind mid (Bare n.0) a.0.1 n.1 (words_behind words (Bare (codes "path")) mid w all)) b.1
    in
    let c = bind_ok (legs_at most_legs schema a.0.0 [] b.0.1) _ q b.2 in
    let legs = legs_found most_legs schema a.0.0 [] b.0.1 c.0 whole f.rest c.1 in
    let made : PathQuery = record { first = by_key a.0.0 b.0.0; legs = legs.more } in
    let same : made ≡ q =
    ap (λ (ls : List Leg). record { first = by_key a.0.0 b.0.0; legs = ls }) legs.whole
    ∙ ok_is (record { first = by_key a.0.0 b.0.0; legs = c.0 }) q c.2 in
    subst (MeansPath schema words) same (record {
      text = (mid, w, (a.0.1, n, (b.0.1, f.text, legs.text)));
      rules = record {
        first = by_key_of schema a.0.0 a.0.1 b.0 whole within f;
        legs = legs.rules;
        some = legs.some;
        few = legs.few;
      };
    })

path_found : (schema : Schema) (words : List Word) (q : PathQuery) → IsWellFormed schema
    → AllWords words → path_reading schema words ≡ Ok q → MeansPath schema words q
path_found schema words q whole all e =
    path_step schema words (behind (codes "path") words) q whole all refl e

at_again : (schema : Schema) (words : List Word) (q : PathQuery) (m : MeansPath schema words q)
    → path_at schema m.text.0 ≡ Ok q
unfolding path_at
at_again schema words q m =
    let rules = m.rules in
    let first = rules.first in
    let of = first.of_schema in
    let named = m.text.2 in
    let conds = named.2 in
    let none = legs_start schema q.legs conds.0 conds.2 in
    bind_is (want (a_file schema) m.text.0) _ (q.first.file, named.0) _
    (name_again why.File (file_number schema.files) m.text.0 named.1.0 q.first.file named.0
    named.1.1 named.1.2)
    (bind_is (where_at (file_at schema q.first.file) named.0) _ (q.first.conds, conds.0) _
    (where_again (file_at schema q.first.file) q.first.conds named.0 conds.0 conds.1 of.conds none.0
    none.1)
    (bind_is (legs_at most_legs schema q.first.file [] conds.0) _ q.legs _
    (legs_again most_legs schema q.first.file [] q.legs conds.0 rules.few rules.some conds.2
    rules.legs)
    (ap (λ (f : Find). Ok (record { first = f; legs = q.legs })) (sym first.plain))))

path_again : (schema : Schema) (words : List Word) (q : PathQuery) → MeansPath schema words q
    → path_reading schema words ≡ Ok q
path_again schema words q m =
    ap (path_from schema) (behind_again (codes "path") words m.text.0 m.text.1)
    ∙ at_again schema words q m

-- ---- whole lines

pub path_line_found : (schema : Schema) (line : List ℕ) (q : PathQuery) → IsWellFormed schema
    → IsPathReading schema line (Ok q) → IsPathLine schema line q
path_line_found schema line q whole (inl r) = absurd (let e = r.1 in cc)
path_line_found schema line q whole (inr (inl r)) = absurd (let e = r.2 in cc)
path_line_found schema line q whole (inr (inr r)) = let w = r.1 in
    (r.0, (w.0, w.1, path_found schema w.0 q whole (words_are line w.0 w.1) (sym w.2)))

pub path_line_again : (schema : Schema) (line : List ℕ) (q : PathQuery) → IsPathLine schema line q
    → IsPathReading schema line (Ok q)
path_line_again schema line q h = let w = h.1 in
    inr (inr (h.0, (w.0, w.1, sym (path_again schema w.0 q w.2))))

pub one_path_reading : (schema : Schema) (line : List ℕ) (given other : Result PathQuery LineWhy)
    → IsPathReading schema line given → IsPathReading schema line other → given ≡ other
one_path_reading schema line given other (inl a) (inl b) = a.1 ∙ sym b.1
one_path_reading schema line given other (inl a) (inr (inl b)) =
    differ (list_all is_character line) b.0 a.0
one_path_reading schema line given other (inl a) (inr (inr b)) =
    differ (list_all is_character line) b.0 a.0
one_path_reading schema line given other (inr (inl a)) (inl b) =
    differ (list_all is_character line) a.0 b.0
one_path_reading schema line given other (inr (inl a)) (inr (inl b)) = a.2 ∙ sym b.2
one_path_reading schema line given other (inr (inl a)) (inr (inr b)) = let w = b.1 in
    absurd (a.1 w.0 w.1)
one_path_reading schema line given other (inr (inr a)) (inl b) =
    differ (list_all is_character line) a.0 b.0
one_path_reading schema line given other (inr (inr a)) (inr (inl b)) = let w = a.1 in
    absurd (b.1 w.0 w.1)
one_path_reading schema line given other (inr (inr a)) (inr (inr b)) =
    let w = a.1 in let v = b.1 in
    w.2 ∙ (ap (path_reading schema) (words_same line w.0 v.0 w.1 v.1) ∙ sym v.2)
