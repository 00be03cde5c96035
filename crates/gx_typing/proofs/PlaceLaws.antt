-- The first place that fails is the one that typing names.
use Rattle.std.proofs.Common.{◌≡◌, ℕ, suc, ◌+◌, ◌⊎◌, cond, true, false, List, [], ◌∷◌, ◌++◌, length, Result, Ok, Err, refl, sym, ap, subst, inl, inr, ◌∙◌, arith, append_assoc, length-append}
use Rattle.std.specs.Prelude.{nat_lt, nat_eq}
use Rattle.std.specs.Cmp.Lexicographic.{pointwise}
use Rattle.gx_values.specs.declared.records.Form.{Form}
use Rattle.gx_ports.specs.declared.kinds.LeafSpec.{LeafSpec}
use Rattle.gx_schema.specs.declared.schema.Schema.{Schema}
use Rattle.gx_equation.specs.declared.heads.Head.{Head}
use Rattle.gx_equation.specs.declared.heads.Head.TheVariants as heads
use Rattle.gx_equation.specs.Trees.{TermTree, Trees, node, none, kid, kids_from, SideTree, file_side, link_side, DefinitionTree}
use Rattle.gx_typing.specs.declared.reasons.TypeWhy.{TypeWhy}
use Rattle.gx_typing.specs.declared.reasons.TypeWhy.TheVariants as why
use Rattle.gx_typing.specs.declared.reasons.Untyped.{Untyped}
use Rattle.gx_typing.specs.declared.reasons.Untyped.TheVariants as untyped
use Rattle.gx_typing.specs.declared.dues.Due.{Due}
use Rattle.gx_typing.specs.declared.dues.Stored.{Stored}
use Rattle.gx_typing.specs.declared.dues.Stored.TheVariants as stored
use Rattle.gx_typing.specs.declared.typing.Typing.{Typing}
use Rattle.gx_typing.specs.Dues.{dues}
use Rattle.gx_forms.specs.Forms.{kid_form, link_form}
use Rattle.gx_typing.specs.Leaves.{leaf_spec}
use Rattle.gx_typing.specs.Rows.{◌>>=◌, tested, row}
use Rattle.gx_typing.specs.Typing.{Mistake, here, other_lines, at, count, with_leaf, with_head, typed_at, kids_typed, Answers}
use Rattle.gx_typing.specs.Sides.{side_typed}
use Rattle.gx_typing.specs.Whole.{definition_typed, definitions_typed, no_leaves, typing_of}
use Rattle.gx_typing.specs.Places.{Place, a_head, leaves_at, leaf_test, asked, IsFirstFault, places_of_term, places_of_terms, places_of_side, places_of_all, places}
use Rattle.gx_typing.proofs.RowLaws.{behind_ok}

-- ---- steps

-- the one fails, or it doesn't and the other does
behind_err : {A B E : Type 0} (r : Result A E) (f : A → Result B E) (e : E) → (r >>= f) ≡ Err e
    → (r ≡ Err e) ⊎ ((x : A) × (r ≡ Ok x) × (f x ≡ Err e))
behind_err (Ok x) f e h = inr (x, refl, h)
behind_err (Err d) f e h = inl cc

at_ok : {A : Type 0} (lines : List ℕ) (r : Result A TypeWhy) (x : A) → at lines r ≡ Ok x → r ≡ Ok x
at_ok lines (Ok y) x h = cc
at_ok lines (Err w) x h = absurd cc

at_err : {A : Type 0} (lines : List ℕ) (r : Result A TypeWhy) (line : ℕ) (reason : TypeWhy)
    → at lines r ≡ Err (line, reason) → (r ≡ Err reason) × (here lines ≡ line)
at_err {A = A} lines (Ok y) line reason h = absurd cc
at_err {A = A} lines (Err w) line reason h =
    (ap Err (ap (λ (m : Mistake). m.1) (errs h)), ap (λ (m : Mistake). m.0) (errs h))
  where
    errs : ◌≡◌ {A = Result A Mistake} (Err (here lines, w)) (Err (line, reason))
        → ◌≡◌ {A = Mistake} (here lines, w) (line, reason)
    errs e = cc

-- ---- a head and its leaf

abbrev next : ℕ → LeafSpec → Typing → Typing
next owner spec typing =
    record { specs = typing.specs ++ spec ∷ []; owners = typing.owners ++ owner ∷ [] }

-- how many leaves there are behind a head
leaf_passed : (owner : ℕ) (spec : LeafSpec) (typing more : Typing)
    → with_leaf owner spec typing ≡ Ok more
    → (tested why.Leaves (nat_lt (length typing.specs) 255) ≡ Ok tt)
    × (length more.specs ≡ length typing.specs + 1)
leaf_passed owner spec typing more h =
    elim (nat_lt (length typing.specs) 255) as
    (λ b. cond b (Ok (next owner spec typing)) (Err why.Leaves) ≡ Ok more
    → (tested why.Leaves b ≡ Ok tt) × (length more.specs ≡ length typing.specs + 1)) [
      | true ↦ λ e. (
        refl,
        ap (λ (t : Typing). length t.specs)
            (sym (oks (next owner spec typing) e)) ∙ length-append typing.specs (spec ∷ []),
      )
      | false ↦ λ e. absurd (never e)
    ] h
  where
    oks : (x : Typing) → ◌≡◌ {A = Result Typing TypeWhy} (Ok x) (Ok more) → x ≡ more
    oks x e = cc

    never : ◌≡◌ {A = Result Typing TypeWhy} (Err why.Leaves) (Ok more) → ⊥
    never e = cc

nothing_passed : (typing more : Typing) → ◌≡◌ {A = Result Typing TypeWhy} (Ok typing) (Ok more)
    → length more.specs ≡ length typing.specs + 0
nothing_passed typing more h = let e : typing ≡ more = cc in
    let n : length typing.specs ≡ length more.specs = ap (λ (t : Typing). length t.specs) e in
    omega arith

head_passed : (owner : ℕ) (top : Head) (form : Form) (typing more : Typing)
    → with_head owner top form typing ≡ Ok more → (leaf_test (length typing.specs) top ≡ Ok tt)
    × (length more.specs ≡ length typing.specs + leaves_at top)
head_passed owner (heads.Leaf kind) form typing more h =
    leaf_passed owner (leaf_spec kind form) typing more h
head_passed owner heads.Actual form typing more h = (refl, nothing_passed typing more h)
head_passed owner (heads.Encode name code) form typing more h = (refl, nothing_passed typing more h)
head_passed owner (heads.Segment names) form typing more h = (refl, nothing_passed typing more h)
head_passed owner heads.Transpose form typing more h = (refl, nothing_passed typing more h)
head_passed owner (heads.Partition name bounds) form typing more h =
    (refl, nothing_passed typing more h)
head_passed owner (heads.Divide size) form typing more h = (refl, nothing_passed typing more h)
head_passed owner (heads.Index name) form typing more h = (refl, nothing_passed typing more h)

leaf_failed : (owner : ℕ) (spec : LeafSpec) (typing : Typing) (reason : TypeWhy)
    → with_leaf owner spec typing ≡ Err reason
    → tested why.Leaves (nat_lt (length typing.specs) 255) ≡ Err reason
leaf_failed owner spec typing reason h =
    elim (nat_lt (length typing.specs) 255) as
    (λ b. cond b (Ok (next owner spec typing)) (Err why.Leaves) ≡ Err reason
    → tested why.Leaves b ≡ Err reason) [
      | true ↦ λ e. absurd (never (next owner spec typing) e)
      | false ↦ λ e. ap Err (errs e)
    ] h
  where
    never : (x : Typing) → ◌≡◌ {A = Result Typing TypeWhy} (Ok x) (Err reason) → ⊥
    never x e = cc

    errs : ◌≡◌ {A = Result Typing TypeWhy} (Err why.Leaves) (Err reason) → why.Leaves ≡ reason
    errs e = cc

head_failed : (owner : ℕ) (top : Head) (form : Form) (typing : Typing) (reason : TypeWhy)
    → with_head owner top form typing ≡ Err reason
    → leaf_test (length typing.specs) top ≡ Err reason
head_failed owner (heads.Leaf kind) form typing reason h =
    leaf_failed owner (leaf_spec kind form) typing reason h
head_failed owner heads.Actual form typing reason h = absurd cc
head_failed owner (heads.Encode name code) form typing reason h = absurd cc
head_failed owner (heads.Segment names) form typing reason h = absurd cc
head_failed owner heads.Transpose form typing reason h = absurd cc
head_failed owner (heads.Partition name bounds) form typing reason h = absurd cc
head_failed owner (heads.Divide size) form typing reason h = absurd cc
head_failed owner (heads.Index name) form typing reason h = absurd cc

asked_is : (before : ℕ) (top : Head) (form : Form) (kids : ℕ) (u : Unit {0})
    (test : Result (Unit {0}) TypeWhy) → row top form kids ≡ Ok u → leaf_test before top ≡ test
    → asked before (a_head top form kids) ≡ test
asked_is before top form kids u test is tests =
    ap (λ (r : Result (Unit {0}) TypeWhy). r >>= λ met. leaf_test before top) is ∙ tests

asked_fails : (before : ℕ) (top : Head) (form : Form) (kids : ℕ) (reason : TypeWhy)
    → row top form kids ≡ Err reason → asked before (a_head top form kids) ≡ Err reason
asked_fails before top form kids reason is =
    ap (λ (r : Result (Unit {0}) TypeWhy). r >>= λ met. leaf_test before top) is

-- ---- terms

mutual
  term_passed : (owner : ℕ) (form : Form) (t : TermTree) (lines : List ℕ) (typing : Typing)
      (x : List ℕ
      × Typing) → typed_at owner form t lines typing ≡ Ok x
      → (rest : List Place) (line : ℕ) (reason : TypeWhy)
      → IsFirstFault (length x.1.specs) rest x.0 line reason
      → IsFirstFault (length typing.specs) (places_of_term form t ++ rest) lines line reason
  term_passed owner form (node top kids) lines typing x h rest line reason first =
      let met = behind_ok (at lines (row top form (count kids))) _ _ h in
      let more = behind_ok (at lines (with_head owner top form typing)) _ _ met.2 in
      let head = head_passed owner top form typing more.0
      (at_ok lines (with_head owner top form typing) more.0 more.1) in
      inr (
        asked_is (length typing.specs) top form (count kids) met.0 (Ok tt)
            (at_ok lines (row top form (count kids)) met.0 met.1) head.0,
        subst (λ (n : ℕ). IsFirstFault n (places_of_terms (kid_form top form) 0 kids ++ rest)
            (other_lines lines) line reason) head.1
            (terms_passed owner (kid_form top form) 0 kids (other_lines lines) more.0 x more.2 rest
            line
            reason first),
      )

  terms_passed : (owner : ℕ) (forms : ℕ → Form) (i : ℕ) (ts : Trees) (lines : List ℕ)
      (typing : Typing) (x : List ℕ × Typing) → kids_typed owner forms i ts lines typing ≡ Ok x
      → (rest : List Place) (line : ℕ) (reason : TypeWhy)
      → IsFirstFault (length x.1.specs) rest x.0 line reason
      → IsFirstFault (length typing.specs) (places_of_terms forms i ts ++ rest) lines line
      reason
  terms_passed owner forms i none lines typing x h rest line reason first =
      subst (λ (y : List ℕ × Typing). IsFirstFault (length y.1.specs) rest y.0 line reason)
      (sym (oks (lines, typing) h)) first
    where
      oks : (y : List ℕ × Typing) → ◌≡◌ {A = Result (List ℕ × Typing) Mistake} (Ok y) (Ok x) → y ≡ x
      oks y e = cc
  terms_passed owner forms i (kid t ts) lines typing x h rest line reason first =
      let one = behind_ok (typed_at owner (forms i) t lines typing) _ _ h in
      subst (λ (ps : List Place). IsFirstFault (length typing.specs) ps lines line reason)
      (sym (append_assoc (places_of_term (forms i) t) (places_of_terms forms (suc i) ts) rest))
      (term_passed owner (forms i) t lines typing one.0 one.1
      (places_of_terms forms (suc i) ts ++ rest) line reason
      (terms_passed owner forms (suc i) ts one.0.0 one.0.1 x one.2 rest line reason first))

mutual
  term_failed : (owner : ℕ) (form : Form) (t : TermTree) (lines : List ℕ) (typing : Typing)
      (line : ℕ)
      (reason : TypeWhy) → typed_at owner form t lines typing ≡ Err (line, reason)
      → (rest : List Place) → IsFirstFault (length typing.specs) (places_of_term form t ++ rest)
      lines line reason
  term_failed owner form (node top kids) lines typing line reason h rest =
      elim (behind_err (at lines (row top form (count kids))) _ _ h) [
        | inl e ↦ let r = at_err lines (row top form (count kids)) line reason e in
            inl (asked_fails (length typing.specs) top form (count kids) reason r.0, r.1)
        | inr met ↦ elim (behind_err (at lines (with_head owner top form typing)) _ _ met.2) [
          | inl e ↦
              let r = at_err lines (with_head owner top form typing) line reason e in
              inl (
                asked_is (length typing.specs) top form (count kids) met.0 (Err reason)
                    (at_ok lines (row top form (count kids)) met.0 met.1)
                    (head_failed owner top form typing reason r.0),
                r.1,
              )
          | inr more ↦
              let head = head_passed owner top form typing more.0
              (at_ok lines (with_head owner top form typing) more.0 more.1) in
              inr (
                asked_is (length typing.specs) top form (count kids) met.0 (Ok tt)
                    (at_ok lines (row top form (count kids)) met.0 met.1) head.0,
                subst (λ (n : ℕ). IsFirstFault n
                    (places_of_terms (kid_form top form) 0 kids ++ rest)
                    (other_lines lines) line reason) head.1
                    (terms_failed owner (kid_form top form) 0 kids (other_lines lines) more.0 line
                    reason
                    more.2 rest),
              )
        ]
      ]

  terms_failed : (owner : ℕ) (forms : ℕ → Form) (i : ℕ) (ts : Trees) (lines : List ℕ)
      (typing : Typing) (line : ℕ) (reason : TypeWhy)
      → kids_typed owner forms i ts lines typing ≡ Err (line, reason)
      → (rest : List Place) → IsFirstFault (length typing.specs)
      (places_of_terms forms i ts ++ rest) lines line reason
  terms_failed owner forms i none lines typing line reason h rest = absurd cc
  terms_failed owner forms i (kid t ts) lines typing line reason h rest =
      subst (λ (ps : List Place). IsFirstFault (length typing.specs) ps lines line reason)
      (sym (append_assoc (places_of_term (forms i) t) (places_of_terms forms (suc i) ts) rest))
      (elim (behind_err (typed_at owner (forms i) t lines typing) _ _ h) [
        | inl e ↦ term_failed owner (forms i) t lines typing line reason e
            (places_of_terms forms (suc i) ts ++ rest)
        | inr one ↦ term_passed owner (forms i) t lines typing one.0 one.1
            (places_of_terms forms (suc i) ts ++ rest) line reason
            (terms_failed owner forms (suc i) ts one.0.0 one.0.1 line reason one.2 rest)
      ])

-- ---- definitions

plus_none : (n : ℕ) → n ≡ n + 0
plus_none n = omega arith

-- behind a place that is no leaf
at_next : (n : ℕ) (ps : List Place) (lines : List ℕ) (line : ℕ) (reason : TypeWhy)
    → IsFirstFault n ps lines line reason → IsFirstFault (n + 0) ps lines line reason
at_next n ps lines line reason =
    subst (λ (m : ℕ). IsFirstFault m ps lines line reason) (plus_none n)

-- a place that fails whatever stands there
wrong : (A : Type 0) (lines : List ℕ) (given : TypeWhy) (line : ℕ) (reason : TypeWhy)
    → ◌≡◌ {A = Result A Mistake} (Err (here lines, given)) (Err (line, reason))
    → (◌≡◌ {A = Result (Unit {0}) TypeWhy} (Err given) (Err reason)) × (here lines ≡ line)
wrong A lines given line reason h =
    (ap Err (ap (λ (m : Mistake). m.1) e), ap (λ (m : Mistake). m.0) e)
  where
    e : ◌≡◌ {A = Mistake} (here lines, given) (line, reason)
    e = cc

side_passed : (owner : ℕ) (due : Stored) (side : SideTree) (lines : List ℕ) (typing : Typing)
    (x : List ℕ × Typing) → side_typed owner due side lines typing ≡ Ok x
    → (rest : List Place) (line : ℕ) (reason : TypeWhy)
    → IsFirstFault (length x.1.specs) rest x.0 line reason
    → IsFirstFault (length typing.specs) (places_of_side due side ++ rest) lines line reason
side_passed owner (stored.File form) (file_side t) lines typing x h rest line reason first =
    term_passed owner form t lines typing x h rest line reason first
side_passed owner (stored.File form) (link_side linkset ts) lines typing x h rest line reason
    first = absurd cc
side_passed owner (stored.Link o m) (file_side t) lines typing x h rest line reason first =
    absurd cc
side_passed owner (stored.Link o m) (link_side linkset ts) lines typing x h rest line reason first =
    inr (
      refl,
      at_next (length typing.specs) _ (other_lines lines) line reason
          (terms_passed owner (link_form linkset o m) 0 (kids_from ts)
          (other_lines lines) typing x h rest line reason first),
    )

side_failed : (owner : ℕ) (due : Stored) (side : SideTree) (lines : List ℕ) (typing : Typing)
    (line : ℕ) (reason : TypeWhy) → side_typed owner due side lines typing ≡ Err (line, reason)
    → (rest : List Place) → IsFirstFault (length typing.specs) (places_of_side due side ++ rest)
    lines line reason
side_failed owner (stored.File form) (file_side t) lines typing line reason h rest =
    term_failed owner form t lines typing line reason h rest
side_failed owner (stored.File form) (link_side linkset ts) lines typing line reason h rest =
    inl (wrong (List ℕ × Typing) lines why.Linkset line reason h)
side_failed owner (stored.Link o m) (file_side t) lines typing line reason h rest =
    inl (wrong (List ℕ × Typing) lines why.Linkset line reason h)
side_failed owner (stored.Link o m) (link_side linkset ts) lines typing line reason h rest =
    inr (
      refl,
      at_next (length typing.specs) _ (other_lines lines) line reason
          (terms_failed owner (link_form linkset o m) 0 (kids_from ts)
          (other_lines lines) typing line reason h rest),
    )

all_failed : (owner : ℕ) (ds : List Due) (es : List DefinitionTree) (lines : List ℕ)
    (typing : Typing) (line : ℕ) (reason : TypeWhy)
    → definitions_typed owner ds es lines typing ≡ Err (line, reason)
    → IsFirstFault (length typing.specs) (places_of_all ds es) lines line reason
all_failed owner [] [] lines typing line reason h = absurd cc
all_failed owner (due ∷ ds) [] lines typing line reason h =
    inl (wrong Typing lines why.Definition line reason h)
all_failed owner [] (d ∷ es) lines typing line reason h =
    inl (wrong Typing lines why.Definition line reason h)
all_failed owner (due ∷ ds) (d ∷ es) lines typing line reason h =
    elim (behind_err (definition_typed owner due d lines typing) _ _ h) [
      | inl one ↦ elim (behind_err
          (at lines (tested why.Definition (pointwise nat_eq due.name d.name))) _ _ one) [
            | inl e ↦ inl (at_err lines (tested why.Definition (pointwise nat_eq due.name d.name))
                line
                reason e)
            | inr named ↦ inr (
              at_ok lines (tested why.Definition (pointwise nat_eq due.name d.name)) named.0
                  named.1,
              at_next (length typing.specs) _ (other_lines lines) line reason
                  (side_failed owner due.stored d.side (other_lines lines) typing line
                  reason named.2
                  (places_of_all ds es)),
            )
          ]
      | inr first ↦
          let named = behind_ok (at lines
          (tested why.Definition (pointwise nat_eq due.name d.name))) _ _ first.1 in
          inr (
            at_ok lines (tested why.Definition (pointwise nat_eq due.name d.name)) named.0 named.1,
            at_next (length typing.specs) _ (other_lines lines) line reason
                (side_passed owner due.stored d.side (other_lines lines) typing first.0 named.2
                (places_of_all ds es) line reason
                (all_failed (suc owner) ds es first.0.0 first.0.1 line reason first.2)),
          )
    ]

pub first_fault : (schema : Schema) (ds : List DefinitionTree) (lines : List ℕ)
    (r : Result Typing Untyped) → Answers (λ x. x) r (typing_of schema ds lines)
    → (line : ℕ) (reason : TypeWhy) → r ≡ Err (untyped.Mistyped line reason)
    → IsFirstFault 0 (places schema ds) lines line reason
first_fault schema ds lines r h line reason is =
    all_failed 0 (dues schema) ds lines no_leaves line reason
    (subst (λ (s : Result Typing Untyped). Answers (λ x. x) s (typing_of schema ds lines)) is h)
