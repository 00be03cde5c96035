-- The same of the readers of several changes and several conditions.
use Rattle.std.proofs.Common.{◌≡◌, ℕ, zero, suc, ◌<◌, ◌≤◌, List, [], ◌∷◌, ◌++◌, length, Option, None, Some, Result, Ok, Err, refl, sym, ap, subst, ◌∙◌, append_assoc, arith}
use Rattle.std.specs.Prelude.{codes}
use Rattle.gx_values.specs.declared.values.Value.{Value}
use Rattle.gx_schema.specs.declared.schema.FileDef.{FileDef}
use Rattle.gx_schema.specs.Lookups.{field_at}
use Rattle.gx_commands.specs.declared.command.Change.{Change}
use Rattle.gx_commands.specs.declared.command.Cond.{Cond}
use Rattle.gx_commands.specs.declared.command.LineWhy.{LineWhy}
use Rattle.gx_commands.specs.declared.command.NoCommand.TheVariants as no_command
use Rattle.gx_commands.specs.Words.{Word, Bare}
use Rattle.gx_commands.specs.Cutting.{is_end}
use Rattle.gx_script.specs.Reading.{◌>>=◌, want, behind, a_field, an_op, a_value, change_at, changes_at, cond_at, conds_at}
use Rattle.gx_script.specs.Grammar.{◌⨾◌, the}
use Rattle.gx_script.specs.Shape.{AName, AnOp, AValue, NameAndValue, ChangesShape, CondShape, CondsShape, Repeated}
use Rattle.gx_script.proofs.LoopLaws.{ChangesGo, change_shorter, changes_go_on, changes_end, change_fails, CondsGo, cond_shorter, behind_shorter, conds_go_on, conds_end, cond_fails}
use Rattle.gx_script.proofs.WordMeanings.{behind_found, behind_again}
use Rattle.gx_script.proofs.LocalWords.{next_of, IsFrontOf, Takes, Outcome, IsLocal, local_bind, local_map, front_then, next_behind, behind_same}
use Rattle.gx_script.proofs.LocalParts.{some_name, some_op, some_value, some_pair, local_field, local_op, local_value, local_change}

-- ---- readers that may read so many parts

pub record GoesOn {A : Type 0} (loop : ℕ → List Word → Result (A × List Word) LineWhy)
    (phrase : List Word → List Word → Type 0) (words : List Word) (y : A × List Word) : Type 0 where
  pub taken : List Word
  pub parts : words ≡ taken ++ y.1
  pub others : (more : ℕ) (other : List Word) → length (taken ++ other) ≤ more
      → next_of other ≡ next_of y.1 → loop more (taken ++ other) ≡ Ok (y.0, other)
  pub shaped : (other : List Word) → phrase (taken ++ other) other

pub record Halts {A : Type 0} (loop : ℕ → List Word → Result A LineWhy) (words : List Word)
    (reason : LineWhy) (before : List Word) : Type 0 where
  pub here : List Word
  pub parts : words ≡ before ++ here
  pub others : (more : ℕ) (other : List Word) → length (before ++ other) ≤ more
      → next_of other ≡ next_of here → loop more (before ++ other) ≡ Err reason

abbrev pub LoopOutcome : {A : Type 0} → (ℕ → List Word → Result (A × List Word) LineWhy)
    → (List Word → List Word → Type 0) → List Word → Result (A × List Word) LineWhy → Type 0
LoopOutcome loop phrase words (Ok y) = GoesOn loop phrase words y
LoopOutcome loop phrase words (Err reason) = (before : List Word) × Halts loop words reason before
    × IsFrontOf phrase before

loop_by : {A : Type 0} (loop : ℕ → List Word → Result (A × List Word) LineWhy) (phrase : List Word
    → List Word → Type 0) (words : List Word) (r : Result (A × List Word) LineWhy)
    → LoopOutcome loop phrase words r → Outcome (λ ws. loop (length ws) ws) phrase words r
loop_by loop phrase words (Ok y) t =
    record {
      taken = t.taken;
      parts = t.parts;
      others = λ other same. t.others (length (t.taken ++ other)) other (omega arith) same;
      shaped = t.shaped;
    }
loop_by loop phrase words (Err reason) (before, s, front) = (
  before,
  record {
    here = s.here;
    parts = s.parts;
    others = λ other same. s.others (length (before ++ other)) other (omega arith) same;
  },
  front,
)

pub local_loop : {A : Type 0} (loop : ℕ → List Word → Result (A × List Word) LineWhy)
    (phrase : List Word → List Word → Type 0)
    → ((words : List Word) → LoopOutcome loop phrase words (loop (length words) words))
    → IsLocal (λ words. loop (length words) words) phrase
local_loop loop phrase all words = loop_by loop phrase words (loop (length words) words) (all words)

end_same : (a b : List Word) → next_of a ≡ next_of b → is_end a ≡ is_end b
end_same [] [] e = refl
end_same [] (w ∷ ws) e = absurd cc
end_same (w ∷ ws) [] e = absurd cc
end_same (w ∷ ws) (v ∷ vs) e = refl

-- ---- changes

abbrev changes_loop : FileDef → List Change → ℕ → List Word
    → Result (List Change × List Word) LineWhy
changes_loop file before room words = changes_at room file before words

module _ (file : FileDef) (before : List Change) (words : List Word)
    (total : Result (List Change × List Word) LineWhy) where
  changes_err : (reason : LineWhy) → total ≡ Err reason
      → Outcome (change_at file before) NameAndValue words (Err reason)
      → LoopOutcome (changes_loop file before) (Repeated ChangesShape) words total
  changes_err reason is (pre, s, front) =
      subst (LoopOutcome (changes_loop file before) (Repeated ChangesShape) words) (sym is) (
        pre,
        record {
          here = s.here;
          parts = s.parts;
          others = λ more other le same. change_fails file before (pre ++ other)
              (no_command.Bad reason)
              (changes_at more file before (pre ++ other))
              (record { room = more; enough = le; same = refl }) (s.others other same);
        },
        record { behind = front.behind; are = front.are; shaped = λ tail. (0, front.shaped tail) },
      )

  changes_last : (x : Change) → total ≡ Ok (before ++ x ∷ [], [])
      → Takes (change_at file before) NameAndValue words (x, [])
      → LoopOutcome (changes_loop file before) (Repeated ChangesShape) words total
  changes_last x is t = subst (LoopOutcome (changes_loop file before) (Repeated ChangesShape) words)
      (sym is) (record {
        taken = t.taken;
        parts = t.parts;
        others = λ more other le same. changes_end file before (t.taken ++ other) x other
            (changes_at more file before (t.taken ++ other))
            (record { room = more; enough = le; same = refl }) (t.others other same)
            (end_same other [] same);
        shaped = λ other. (0, t.shaped other);
      })

  -- the changes behind the first
  changes_behind : (x : Change) (w : Word) (ws : List Word)
      → Takes (change_at file before) NameAndValue words (x, w ∷ ws)
      → LoopOutcome (changes_loop file (before ++ x ∷ [])) (Repeated ChangesShape)
      (w ∷ ws) total → LoopOutcome (changes_loop file before) (Repeated ChangesShape) words
      total
  changes_behind x w ws t =
      elim total as (λ r. LoopOutcome (changes_loop file (before ++ x ∷ [])) (Repeated ChangesShape)
      (w ∷ ws) r → LoopOutcome (changes_loop file before) (Repeated ChangesShape) words r) [
        | Ok z ↦ λ u. record {
          taken = t.taken ++ u.taken;
          parts = t.parts ∙ ap (λ (vs : List Word). t.taken ++ vs) u.parts
              ∙ sym (append_assoc t.taken u.taken z.1);
          others = λ more other le same.
              let first = next_behind u.taken other z.1 same ∙ ap next_of (sym u.parts) in
              let all = append_assoc t.taken u.taken other in
              let g = changes_go_on file before (t.taken ++ (u.taken ++ other)) x (u.taken ++ other)
              (changes_at more file before (t.taken ++ (u.taken ++ other)))
              (record {
                room = more;
                enough = subst (λ (vs : List Word). length vs ≤ more) all le;
                same = refl;
              }) (t.others (u.taken ++ other) first)
              (end_same (u.taken ++ other) (w ∷ ws) first) in
              ap (λ (vs : List Word). changes_at more file before vs) all ∙ sym g.same
              ∙ u.others g.room other g.enough same;
          shaped = λ other. let s = u.shaped other in (
            suc s.0,
            (
              u.taken ++ other,
              subst (λ (vs : List Word). NameAndValue vs (u.taken ++ other))
                  (sym (append_assoc t.taken u.taken other)) (t.shaped (u.taken ++ other)),
              s.1,
            ),
          );
        }
        | Err reason ↦ λ o. (
          t.taken ++ o.0,
          record {
            here = o.1.here;
            parts = t.parts ∙ ap (λ (vs : List Word). t.taken ++ vs) o.1.parts
                ∙ sym (append_assoc t.taken o.0 o.1.here);
            others = λ more other le same.
                let first = next_behind o.0 other o.1.here same ∙ ap next_of (sym o.1.parts) in
                let all = append_assoc t.taken o.0 other in
                let g = changes_go_on file before (t.taken ++ (o.0 ++ other)) x (o.0 ++ other)
                (changes_at more file before (t.taken ++ (o.0 ++ other)))
                (record {
                  room = more;
                  enough = subst (λ (vs : List Word). length vs ≤ more) all le;
                  same = refl;
                }) (t.others (o.0 ++ other) first)
                (end_same (o.0 ++ other) (w ∷ ws) first) in
                ap (λ (vs : List Word). changes_at more file before vs) all ∙ sym g.same
                ∙ o.1.others g.room other g.enough same;
          },
          record {
            behind = o.2.behind;
            are = o.2.are;
            shaped = λ tail. let s = o.2.shaped tail in (
              suc s.0,
              (
                o.0 ++ (o.2.behind ++ tail),
                subst (λ (vs : List Word). NameAndValue vs (o.0 ++ (o.2.behind ++ tail)))
                    (sym (append_assoc t.taken o.0 (o.2.behind ++ tail)))
                    (t.shaped (o.0 ++ (o.2.behind ++ tail))),
                s.1,
              ),
            );
          },
        )
      ]

changes_outcome : (fuel : ℕ) (file : FileDef) (before : List Change) (words : List Word)
    (total : Result (List Change × List Word) LineWhy) (r : Result (Change × List Word) LineWhy)
    → length words ≤ fuel → ChangesGo file before words total → change_at file before words ≡ r
    → Outcome (change_at file before) NameAndValue words r
    → LoopOutcome (changes_loop file before) (Repeated ChangesShape) words total
changes_outcome fuel file before words total (Err reason) le g e o =
    changes_err file before words total reason
    (change_fails file before words (no_command.Bad reason) total g e) o
changes_outcome fuel file before words total (Ok (x, [])) le g e t =
    changes_last file before words total x (changes_end file before words x [] total g e refl) t
changes_outcome zero file before words total (Ok (x, w ∷ ws)) le g e t =
    absurd (omega (arith, change_shorter file before words (x, w ∷ ws) e))
changes_outcome (suc fuel) file before words total (Ok (x, w ∷ ws)) le g e t =
    changes_behind file before words total x w ws t
    (changes_outcome fuel file (before ++ x ∷ []) (w ∷ ws) total
    (change_at file (before ++ x ∷ []) (w ∷ ws))
    (omega (arith, change_shorter file before words (x, w ∷ ws) e))
    (changes_go_on file before words x (w ∷ ws) total g e refl) refl
    (local_change file (before ++ x ∷ []) (w ∷ ws)))

pub local_changes : (file : FileDef)
    → IsLocal (λ words. changes_at (length words) file [] words) (Repeated ChangesShape)
local_changes file = local_loop (changes_loop file []) (Repeated ChangesShape)
    (λ words. changes_outcome (length words) file [] words (changes_at (length words) file [] words)
    (change_at file [] words) (omega arith)
    (record { room = length words; enough = omega arith; same = refl }) refl
    (local_change file [] words))

pub some_changes : IsFrontOf (Repeated ChangesShape) []
some_changes = record {
  behind = some_pair.behind;
  are = some_pair.are;
  shaped = λ tail. (0, some_pair.shaped tail);
}

-- ---- conditions

some_cond : IsFrontOf CondShape []
some_cond = front_then AName (AnOp ⨾ AValue) [] some_name
    (front_then AnOp AValue [] some_op some_value)

local_cond : (file : FileDef) → IsLocal (cond_at file) CondShape
unfolding cond_at
local_cond file =
    local_bind (want (a_field file))
    (λ field ws. want an_op ws >>= λ o. want (a_value (field_at file field).kind) o.1 >>= λ x.
    Ok (record { field = field; op = o.0; bound = x.0 }, x.1)) AName (AnOp ⨾ AValue)
    (local_field file) (front_then AnOp AValue [] some_op some_value)
    (λ field. local_bind (want an_op)
    (λ o ws. want (a_value (field_at file field).kind) ws >>= λ x. Ok
    (record { field = field; op = o; bound = x.0 }, x.1)) AnOp AValue local_op some_value
    (λ o. local_map (λ (x : Value). record { field = field; op = o; bound = x })
    (want (a_value (field_at file field).kind)) AValue
    (local_value (field_at file field).kind)))

abbrev conds_loop : FileDef → List Cond → ℕ → List Word → Result (List Cond × List Word) LineWhy
conds_loop file before room words = conds_at room file before words

module _ (file : FileDef) (before : List Cond) (words : List Word)
    (total : Result (List Cond × List Word) LineWhy) where
  conds_err : (reason : LineWhy) → total ≡ Err reason
      → Outcome (cond_at file) CondShape words (Err reason)
      → LoopOutcome (conds_loop file before) (Repeated CondsShape) words total
  conds_err reason is (pre, s, front) =
      subst (LoopOutcome (conds_loop file before) (Repeated CondsShape) words) (sym is) (
        pre,
        record {
          here = s.here;
          parts = s.parts;
          others = λ more other le same. cond_fails file before (pre ++ other)
              (no_command.Bad reason)
              (conds_at more file before (pre ++ other))
              (record { room = more; enough = le; same = refl }) (s.others other same);
        },
        record { behind = front.behind; are = front.are; shaped = λ tail. (0, front.shaped tail) },
      )

  conds_last : (x : Cond) (after : List Word) → total ≡ Ok (before ++ x ∷ [], after)
      → behind (codes "and") after ≡ None → Takes (cond_at file) CondShape words (x, after)
      → LoopOutcome (conds_loop file before) (Repeated CondsShape) words total
  conds_last x after is none t =
      subst (LoopOutcome (conds_loop file before) (Repeated CondsShape) words) (sym is) (record {
        taken = t.taken;
        parts = t.parts;
        others = λ more other le same. conds_end file before (t.taken ++ other) x other
            (conds_at more file before (t.taken ++ other))
            (record { room = more; enough = le; same = refl }) (t.others other same)
            (behind_same (codes "and") after other same none);
        shaped = λ other. (0, t.shaped other);
      })

  conds_behind : (x : Cond) (after ws : List Word) → the (codes "and") after ws
      → Takes (cond_at file) CondShape words (x, after)
      → LoopOutcome (conds_loop file (before ++ x ∷ [])) (Repeated CondsShape) ws total
      → LoopOutcome (conds_loop file before) (Repeated CondsShape) words total
  conds_behind x after ws is t =
      elim total as (λ r. LoopOutcome (conds_loop file (before ++ x ∷ [])) (Repeated CondsShape) ws
      r → LoopOutcome (conds_loop file before) (Repeated CondsShape) words r) [
        | Ok z ↦ λ u. record {
          taken = t.taken ++ (Bare (codes "and") ∷ u.taken);
          parts = t.parts ∙ ap (λ (vs : List Word). t.taken ++ vs)
              (is ∙ ap (λ (vs : List Word). Bare (codes "and") ∷ vs) u.parts)
              ∙ sym (append_assoc t.taken (Bare (codes "and") ∷ u.taken) z.1);
          others = λ more other le same.
              let all = append_assoc t.taken (Bare (codes "and") ∷ u.taken) other in
              let g = conds_go_on file before (t.taken ++ (Bare (codes "and") ∷ (u.taken ++ other)))
              x (Bare (codes "and") ∷ (u.taken ++ other)) (u.taken ++ other)
              (conds_at more file before (t.taken ++ (Bare (codes "and") ∷ (u.taken ++ other))))
              (record {
                room = more;
                enough = subst (λ (vs : List Word). length vs ≤ more) all le;
                same = refl;
              })
              (t.others (Bare (codes "and") ∷ (u.taken ++ other)) (ap next_of (sym is)))
              (behind_again (codes "and") (Bare (codes "and") ∷ (u.taken ++ other))
              (u.taken ++ other) refl) in
              ap (λ (vs : List Word). conds_at more file before vs) all ∙ sym g.same
              ∙ u.others g.room other g.enough same;
          shaped = λ other.
              let s = u.shaped other in (
                suc s.0,
                (
                  Bare (codes "and") ∷ (u.taken ++ other),
                  subst (λ (vs : List Word). CondShape vs (Bare (codes "and") ∷ (u.taken ++ other)))
                      (sym (append_assoc t.taken (Bare (codes "and") ∷ u.taken) other))
                      (t.shaped (Bare (codes "and") ∷ (u.taken ++ other))),
                  (u.taken ++ other, refl, s.1),
                ),
              );
        }
        | Err reason ↦ λ o. (
          t.taken ++ (Bare (codes "and") ∷ o.0),
          record {
            here = o.1.here;
            parts = t.parts ∙ ap (λ (vs : List Word). t.taken ++ vs)
                (is ∙ ap (λ (vs : List Word). Bare (codes "and") ∷ vs) o.1.parts)
                ∙ sym (append_assoc t.taken (Bare (codes "and") ∷ o.0) o.1.here);
            others = λ more other le same.
                let all = append_assoc t.taken (Bare (codes "and") ∷ o.0) other in
                let g = conds_go_on file before (t.taken ++ (Bare (codes "and") ∷ (o.0 ++ other))) x
                (Bare (codes "and") ∷ (o.0 ++ other)) (o.0 ++ other)
                (conds_at more file before (t.taken ++ (Bare (codes "and") ∷ (o.0 ++ other))))
                (record {
                  room = more;
                  enough = subst (λ (vs : List Word). length vs ≤ more) all
                      le;
                  same = refl;
                })
                (t.others (Bare (codes "and") ∷ (o.0 ++ other)) (ap next_of (sym is)))
                (behind_again (codes "and") (Bare (codes "and") ∷ (o.0 ++ other))
                (o.0 ++ other) refl) in
                ap (λ (vs : List Word). conds_at more file before vs) all ∙ sym g.same
                ∙ o.1.others g.room other g.enough same;
          },
          record {
            behind = o.2.behind;
            are = o.2.are;
            shaped = λ tail.
                let s = o.2.shaped tail in (
                  suc s.0,
                  (
                    Bare (codes "and") ∷ (o.0 ++ (o.2.behind ++ tail)),
                    subst (λ (vs : List Word). CondShape vs
                        (Bare (codes "and") ∷ (o.0 ++ (o.2.behind ++ tail))))
                        (sym (append_assoc t.taken (Bare (codes "and") ∷ o.0) (o.2.behind ++ tail)))
                        (t.shaped (Bare (codes "and") ∷ (o.0 ++ (o.2.behind ++ tail)))),
                    (o.0 ++ (o.2.behind ++ tail), refl, s.1),
                  ),
                );
          },
        )
      ]

conds_after : (file : FileDef) (before : List Cond) (words : List Word)
    (total : Result (List Cond × List Word) LineWhy) (x : Cond) (after : List Word)
    (o : Option (List Word)) → CondsGo file before words total → cond_at file words ≡ Ok (x, after)
    → behind (codes "and") after ≡ o → Takes (cond_at file) CondShape words (x, after)
    → ((rest : List Word) → length rest < length words → CondsGo file (before ++ x ∷ []) rest total
    → LoopOutcome (conds_loop file (before ++ x ∷ [])) (Repeated CondsShape) rest total)
    → LoopOutcome (conds_loop file before) (Repeated CondsShape) words total
conds_after file before words total x after None g e b t later =
    conds_last file before words total x after (conds_end file before words x after total g e b) b t
conds_after file before words total x after (Some rest) g e b t later =
    conds_behind file before words total x after rest (behind_found (codes "and") after rest b) t
    (later rest (omega (
      arith,
      cond_shorter file words (x, after) e,
      behind_shorter (codes "and") after rest b,
    ))
    (conds_go_on file before words x after rest total g e b))

conds_outcome : (fuel : ℕ) (file : FileDef) (before : List Cond) (words : List Word)
    (total : Result (List Cond × List Word) LineWhy) (r : Result (Cond × List Word) LineWhy)
    → length words ≤ fuel → CondsGo file before words total → cond_at file words ≡ r
    → Outcome (cond_at file) CondShape words r
    → LoopOutcome (conds_loop file before) (Repeated CondsShape) words total
conds_outcome fuel file before words total (Err reason) le g e o =
    conds_err file before words total reason
    (cond_fails file before words (no_command.Bad reason) total g e) o
conds_outcome zero file before words total (Ok (x, after)) le g e t =
    conds_after file before words total x after (behind (codes "and") after) g e refl t
    (λ rest lt go. absurd (omega arith))
conds_outcome (suc fuel) file before words total (Ok (x, after)) le g e t =
    conds_after file before words total x after (behind (codes "and") after) g e refl t
    (λ rest lt go. conds_outcome fuel file (before ++ x ∷ []) rest total (cond_at file rest)
    (omega arith) go refl (local_cond file rest))

pub local_conds : (file : FileDef)
    → IsLocal (λ words. conds_at (length words) file [] words) (Repeated CondsShape)
local_conds file = local_loop (conds_loop file []) (Repeated CondsShape)
    (λ words. conds_outcome (length words) file [] words (conds_at (length words) file [] words)
    (cond_at file words) (omega arith)
    (record { room = length words; enough = omega arith; same = refl }) refl
    (local_cond file words))

pub some_conds : IsFrontOf (Repeated CondsShape) []
some_conds = record {
  behind = some_cond.behind;
  are = some_cond.are;
  shaped = λ tail. (0, some_cond.shaped tail);
}
