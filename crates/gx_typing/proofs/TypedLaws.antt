-- Typing gives leaves exactly where an equation is typed, and then its leaves.
use Rattle.std.proofs.Common.{◌≡◌, ℕ, suc, ◌<◌, ◌≤◌, cond, true, false, List, [], ◌∷◌, ◌++◌, length, map, Result, Ok, Err, refl, sym, ap, subst, ◌∙◌, arith, append_assoc, length-append}
use Rattle.std.specs.Prelude.{nat_lt, nat_eq, IfOk, IfErr}
use Rattle.std.specs.Cmp.Lexicographic.{pointwise, bytes_decides}
use Rattle.std.proofs.lemmas.Bool.{cond-true}
use Rattle.std.proofs.lemmas.Bool.Decides.{nat_tests}
use Rattle.std.proofs.lemmas.List.{length-map, map-append, append-nil}
use Rattle.gx_values.specs.declared.records.Form.{Form}
use Rattle.gx_ports.specs.declared.kinds.LeafSpec.{LeafSpec}
use Rattle.gx_schema.specs.declared.schema.Schema.{Schema}
use Rattle.gx_equation.specs.declared.heads.Head.{Head}
use Rattle.gx_equation.specs.declared.heads.Head.TheVariants as heads
use Rattle.gx_equation.specs.Trees.{TermTree, Trees, node, none, kid, kids_from, SideTree, file_side, link_side, DefinitionTree}
use Rattle.gx_typing.specs.declared.reasons.TypeWhy.{TypeWhy}
use Rattle.gx_typing.specs.declared.reasons.TypeWhy.TheVariants as why
use Rattle.gx_typing.specs.declared.reasons.Untyped.{Untyped}
use Rattle.gx_typing.specs.declared.reasons.Untyped.TheVariants as untyped
use Rattle.gx_typing.specs.declared.dues.Due.{Due}
use Rattle.gx_typing.specs.declared.dues.Stored.{Stored}
use Rattle.gx_typing.specs.declared.dues.Stored.TheVariants as stored
use Rattle.gx_typing.specs.declared.typing.Typing.{Typing}
use Rattle.gx_typing.specs.Dues.{dues}
use Rattle.gx_forms.specs.Forms.{kid_form, link_form}
use Rattle.gx_typing.specs.Leaves.{leaf_spec}
use Rattle.gx_typing.specs.Rows.{tested, row}
use Rattle.gx_typing.specs.Typing.{Mistake, other_lines, at, count, with_leaf, with_head, typed_at, kids_typed, Answers}
use Rattle.gx_typing.specs.Sides.{side_typed}
use Rattle.gx_typing.specs.Whole.{definition_typed, definitions_typed, typing_of}
use Rattle.gx_typing.specs.Typed.{IsTypedTerm, AreTypedTerms, Leaf, leaf_here, leaves_of, leaves_of_kids, IsTypedSide, leaves_of_side, AreTyped, leaves_of_all, leaves, IsTyped, owner_of, spec_of, typing_with}
use Rattle.gx_typing.proofs.RowLaws.{behind_ok, ok_behind, tested_ok, ok_tested, row_found, row_again}

at_ok : {A : Type 0} (lines : List ℕ) (r : Result A TypeWhy) (x : A) → at lines r ≡ Ok x → r ≡ Ok x
at_ok lines (Ok y) x h = cc
at_ok lines (Err w) x h = absurd cc

-- ---- leaves behind those before

one_more : (owner : ℕ) (spec : LeafSpec) → Leaf
one_more owner spec = record { owner = owner; spec = spec }

typing_one_more : (before : List Leaf) (leaf : Leaf)
    → typing_with (before ++ leaf ∷ [])
    ≡ record {
      specs = map spec_of before ++ leaf.spec ∷ [];
      owners = map owner_of before
          ++ leaf.owner ∷ [];
    }
typing_one_more before leaf =
    let s = map-append spec_of before (leaf ∷ []) in
    let o = map-append owner_of before (leaf ∷ []) in
    cc (s, o)

nothing_more : (before : List Leaf) → typing_with before ≡ typing_with (before ++ [])
nothing_more before = ap typing_with (sym (append-nil before))

-- typing went on to leaves behind those before
record Went (before more : List Leaf) (after : Typing) : Type 0 where
  typing : after ≡ typing_with (before ++ more)
  few : length (before ++ more) ≤ 255

few_nothing : (before : List Leaf) → length before ≤ 255 → length (before ++ []) ≤ 255
few_nothing before few = omega (arith, length-append before [])

went_nowhere : (before : List Leaf) (after : Typing) → length before ≤ 255
    → typing_with before ≡ after → Went before [] after
went_nowhere before after few is =
    record { typing = sym is ∙ nothing_more before; few = few_nothing before few }

went_both : (before one other : List Leaf) (after : Typing) → Went (before ++ one) other after
    → Went before (one ++ other) after
went_both before one other after w = record {
  typing = w.typing ∙ ap typing_with (append_assoc before one other);
  few = subst (λ (ls : List Leaf). length ls ≤ 255) (append_assoc before one other) w.few;
}

-- ---- a leaf

abbrev next : ℕ → LeafSpec → List Leaf → Typing
next owner spec before =
    record { specs = map spec_of before ++ spec ∷ []; owners = map owner_of before ++ owner ∷ [] }

leaf_ok : (owner : ℕ) (spec : LeafSpec) (before : List Leaf) (more : Typing)
    → with_leaf owner spec (typing_with before) ≡ Ok more
    → Went before (one_more owner spec ∷ []) more
unfolding one_more
leaf_ok owner spec before more h =
    elim (nat_lt (length (map spec_of before)) 255) as
    (λ b. nat_lt (length (map spec_of before)) 255 ≡ b
    → cond b (Ok (next owner spec before)) (Err why.Leaves) ≡ Ok more
    → Went before (one_more owner spec ∷ []) more) [
      | true ↦ λ is e. record {
        typing = sym (ok_is (next owner spec before) more e)
            ∙ sym (typing_one_more before (one_more owner spec));
        few = room is;
      }
      | false ↦ λ is e. absurd (not_ok why.Leaves more e)
    ] refl h
  where
    ok_is : (x y : Typing) → ◌≡◌ {A = Result Typing TypeWhy} (Ok x) (Ok y) → x ≡ y
    ok_is x y e = cc

    not_ok : (w : TypeWhy) (y : Typing) → ◌≡◌ {A = Result Typing TypeWhy} (Err w) (Ok y) → ⊥
    not_ok w y e = cc

    below : (n : ℕ) → nat_lt n 255 ≡ true → n < 255
    below n e = grind (arith, nat_tests)

    room : nat_lt (length (map spec_of before)) 255 ≡ true
        → length (before ++ one_more owner spec ∷ []) ≤ 255
    room is = let n = below (length (map spec_of before)) is in
        omega (arith, length-map before spec_of, length-append before (one_more owner spec ∷ []))

ok_leaf : (owner : ℕ) (spec : LeafSpec) (before : List Leaf)
    → length (before ++ one_more owner spec ∷ []) ≤ 255
    → with_leaf owner spec (typing_with before) ≡ Ok
    (typing_with (before ++ one_more owner spec ∷ []))
unfolding one_more
ok_leaf owner spec before few =
    cond-true (nat_lt (length (map spec_of before)) 255) _ _
    (room (length (map spec_of before))
    (omega (arith, length-map before spec_of, length-append before (one_more owner spec ∷ []))))
    ∙ ap Ok (sym (typing_one_more before (one_more owner spec)))
  where
    room : (n : ℕ) → n < 255 → nat_lt n 255 ≡ true
    room n lt = grind (arith, nat_tests)

head_ok : (owner : ℕ) (top : Head) (form : Form) (before : List Leaf) (more : Typing)
    → with_head owner top form (typing_with before) ≡ Ok more → length before ≤ 255
    → Went before (leaf_here owner top form) more
unfolding one_more
head_ok owner (heads.Leaf kind) form before more h few =
    leaf_ok owner (leaf_spec kind form) before more h
head_ok owner heads.Actual form before more h few = went_nowhere before more few cc
head_ok owner (heads.Encode name code) form before more h few = went_nowhere before more few cc
head_ok owner (heads.Segment names) form before more h few = went_nowhere before more few cc
head_ok owner heads.Transpose form before more h few = went_nowhere before more few cc
head_ok owner (heads.Partition name bounds) form before more h few = went_nowhere before more few cc
head_ok owner (heads.Divide size) form before more h few = went_nowhere before more few cc
head_ok owner (heads.Index name) form before more h few = went_nowhere before more few cc

ok_head : (owner : ℕ) (top : Head) (form : Form) (before : List Leaf)
    → length (before ++ leaf_here owner top form) ≤ 255
    → with_head owner top form (typing_with before) ≡ Ok
    (typing_with (before ++ leaf_here owner top form))
unfolding one_more
ok_head owner (heads.Leaf kind) form before few = ok_leaf owner (leaf_spec kind form) before few
ok_head owner heads.Actual form before few = ap Ok (nothing_more before)
ok_head owner (heads.Encode name code) form before few = ap Ok (nothing_more before)
ok_head owner (heads.Segment names) form before few = ap Ok (nothing_more before)
ok_head owner heads.Transpose form before few = ap Ok (nothing_more before)
ok_head owner (heads.Partition name bounds) form before few = ap Ok (nothing_more before)
ok_head owner (heads.Divide size) form before few = ap Ok (nothing_more before)
ok_head owner (heads.Index name) form before few = ap Ok (nothing_more before)

-- ---- terms

mutual
  term_found : (owner : ℕ) (form : Form) (t : TermTree) (lines : List ℕ) (before : List Leaf)
      (x : List ℕ × Typing) → length before ≤ 255
      → typed_at owner form t lines (typing_with before) ≡ Ok x
      → IsTypedTerm form t × Went before (leaves_of owner form t) x.1
  term_found owner form (node top kids) lines before x few h =
      let met = behind_ok (at lines (row top form (count kids))) _ _ h in
      let more = behind_ok (at lines (with_head owner top form (typing_with before))) _ _ met.2 in
      let here = head_ok owner top form before more.0
      (at_ok lines (with_head owner top form (typing_with before)) more.0 more.1) few in
      let onward = subst (λ (typing : Typing). kids_typed owner (kid_form top form) 0 kids
      (other_lines lines) typing ≡ Ok x) here.typing more.2 in
      let kids_are = kids_found owner (kid_form top form) 0 kids (other_lines lines)
      (before ++ leaf_here owner top form) x here.few onward in (
        (
          row_found top form (count kids) met.0
              (at_ok lines (row top form (count kids)) met.0 met.1),
          kids_are.0,
        ),
        went_both before (leaf_here owner top form)
            (leaves_of_kids owner (kid_form top form) 0 kids) x.1 kids_are.1,
      )

  kids_found : (owner : ℕ) (forms : ℕ → Form) (i : ℕ) (ts : Trees) (lines : List ℕ)
      (before : List Leaf) (x : List ℕ × Typing) → length before ≤ 255
      → kids_typed owner forms i ts lines (typing_with before) ≡ Ok x
      → AreTypedTerms forms i ts × Went before (leaves_of_kids owner forms i ts) x.1
  kids_found owner forms i none lines before x few h = (
    tt,
    went_nowhere before x.1 few
        (ap (λ (y : List ℕ × Typing). y.1) (ok_pair (lines, typing_with before) x h)),
  )
    where
      ok_pair : (x y : List ℕ × Typing) → ◌≡◌ {A = Result (List ℕ × Typing) Mistake} (Ok x) (Ok y)
          → x ≡ y
      ok_pair x y e = cc
  kids_found owner forms i (kid t ts) lines before x few h =
      let first = behind_ok (typed_at owner (forms i) t lines (typing_with before)) _ _ h in
      let term = term_found owner (forms i) t lines before first.0 few first.1 in
      let onward = subst (λ (typing : Typing). kids_typed owner forms (suc i) ts first.0.0 typing
      ≡ Ok x) term.1.typing first.2 in
      let others = kids_found owner forms (suc i) ts first.0.0
      (before ++ leaves_of owner (forms i) t) x term.1.few onward in (
        (term.0, others.0),
        went_both before (leaves_of owner (forms i) t)
            (leaves_of_kids owner forms (suc i) ts) x.1 others.1,
      )

front_few : (before one other : List Leaf) → length (before ++ (one ++ other)) ≤ 255
    → length (before ++ one) ≤ 255
front_few before one other few =
    omega (
      arith,
      length-append before (one ++ other),
      length-append one other,
      length-append before one,
    )

behind_few : (before one other : List Leaf) → length (before ++ (one ++ other)) ≤ 255
    → length ((before ++ one) ++ other) ≤ 255
behind_few before one other few =
    subst (λ (ls : List Leaf). length ls ≤ 255) (sym (append_assoc before one other)) few

mutual
  term_again : (owner : ℕ) (form : Form) (t : TermTree) (lines : List ℕ) (before : List Leaf)
      → IsTypedTerm form t → length (before ++ leaves_of owner form t) ≤ 255
      → (left : List ℕ) × (typed_at owner form t lines (typing_with before) ≡ Ok
      (left, typing_with (before ++ leaves_of owner form t)))
  term_again owner form (node top kids) lines before is few =
      let kids_are = kids_again owner (kid_form top form) 0 kids (other_lines lines)
      (before ++ leaf_here owner top form) is.1
      (behind_few before (leaf_here owner top form)
      (leaves_of_kids owner (kid_form top form) 0 kids) few) in (
        kids_are.0,
        ok_behind (at lines (row top form (count kids))) _ tt _
            (ap (at lines) (row_again top form (count kids) is.0))
            (ok_behind (at lines (with_head owner top form (typing_with before))) _
            (typing_with (before ++ leaf_here owner top form)) _
            (ap (at lines) (ok_head owner top form before
            (front_few before (leaf_here owner top form)
            (leaves_of_kids owner (kid_form top form) 0 kids) few)))
            (kids_are.1 ∙ ap (λ (ls : List Leaf). Ok (kids_are.0, typing_with ls))
            (append_assoc before (leaf_here owner top form)
            (leaves_of_kids owner (kid_form top form) 0 kids)))),
      )

  kids_again : (owner : ℕ) (forms : ℕ → Form) (i : ℕ) (ts : Trees) (lines : List ℕ)
      (before : List Leaf) → AreTypedTerms forms i ts
      → length (before ++ leaves_of_kids owner forms i ts) ≤ 255
      → (left : List ℕ) × (kids_typed owner forms i ts lines (typing_with before) ≡ Ok
      (left, typing_with (before ++ leaves_of_kids owner forms i ts)))
  kids_again owner forms i none lines before is few =
      (lines, ap (λ (typing : Typing). Ok (lines, typing)) (nothing_more before))
  kids_again owner forms i (kid t ts) lines before is few =
      let first = term_again owner (forms i) t lines before is.0
      (front_few before (leaves_of owner (forms i) t) (leaves_of_kids owner forms (suc i) ts)
      few) in
      let others = kids_again owner forms (suc i) ts first.0 (before ++ leaves_of owner (forms i) t)
      is.1 (behind_few before (leaves_of owner (forms i) t)
      (leaves_of_kids owner forms (suc i) ts) few) in (
        others.0,
        ok_behind (typed_at owner (forms i) t lines (typing_with before)) _
            (first.0, typing_with (before ++ leaves_of owner (forms i) t)) _ first.1
            (others.1 ∙ ap (λ (ls : List Leaf). Ok (others.0, typing_with ls))
            (append_assoc before (leaves_of owner (forms i) t)
            (leaves_of_kids owner forms (suc i) ts))),
      )

-- ---- definitions

side_found : (owner : ℕ) (due : Stored) (side : SideTree) (lines : List ℕ) (before : List Leaf)
    (x : List ℕ × Typing) → length before ≤ 255
    → side_typed owner due side lines (typing_with before) ≡ Ok x
    → IsTypedSide due side × Went before (leaves_of_side owner due side) x.1
side_found owner (stored.File form) (file_side t) lines before x few h =
    term_found owner form t lines before x few h
side_found owner (stored.File form) (link_side linkset ts) lines before x few h = absurd cc
side_found owner (stored.Link o m) (file_side t) lines before x few h = absurd cc
side_found owner (stored.Link o m) (link_side linkset ts) lines before x few h =
    kids_found owner (link_form linkset o m) 0 (kids_from ts) (other_lines lines) before x few h

side_again : (owner : ℕ) (due : Stored) (side : SideTree) (lines : List ℕ) (before : List Leaf)
    → IsTypedSide due side → length (before ++ leaves_of_side owner due side) ≤ 255
    → (left : List ℕ) × (side_typed owner due side lines (typing_with before) ≡ Ok
    (left, typing_with (before ++ leaves_of_side owner due side)))
side_again owner (stored.File form) (file_side t) lines before is few =
    term_again owner form t lines before is few
side_again owner (stored.File form) (link_side linkset ts) lines before is few = absurd is
side_again owner (stored.Link o m) (file_side t) lines before is few = absurd is
side_again owner (stored.Link o m) (link_side linkset ts) lines before is few =
    kids_again owner (link_form linkset o m) 0 (kids_from ts) (other_lines lines) before is few

all_found : (owner : ℕ) (ds : List Due) (es : List DefinitionTree) (lines : List ℕ)
    (before : List Leaf) (typing : Typing) → length before ≤ 255
    → definitions_typed owner ds es lines (typing_with before) ≡ Ok typing
    → AreTyped ds es × Went before (leaves_of_all owner ds es) typing
all_found owner [] [] lines before typing few h =
    (tt, went_nowhere before typing few (ok_typing (typing_with before) typing h))
  where
    ok_typing : (x y : Typing) → ◌≡◌ {A = Result Typing Mistake} (Ok x) (Ok y) → x ≡ y
    ok_typing x y e = cc
all_found owner (due ∷ ds) [] lines before typing few h = absurd cc
all_found owner [] (d ∷ es) lines before typing few h = absurd cc
all_found owner (due ∷ ds) (d ∷ es) lines before typing few h =
    let first = behind_ok (definition_typed owner due d lines (typing_with before)) _ _ h in
    let named = behind_ok (at lines (tested why.Definition (pointwise nat_eq due.name d.name))) _ _
    first.1 in
    let side = side_found owner due.stored d.side (other_lines lines) before first.0 few named.2 in
    let onward = subst (λ (so_far : Typing). definitions_typed (suc owner) ds es first.0.0 so_far
    ≡ Ok typing) side.1.typing first.2 in
    let others = all_found (suc owner) ds es first.0.0
    (before ++ leaves_of_side owner due.stored d.side) typing side.1.few onward in
    let name = (bytes_decides due.name d.name).0
    (tested_ok why.Definition (pointwise nat_eq due.name d.name) named.0
    (at_ok lines (tested why.Definition (pointwise nat_eq due.name d.name)) named.0
    named.1)) in (
      (name, side.0, others.0),
      went_both before (leaves_of_side owner due.stored d.side)
          (leaves_of_all (suc owner) ds es) typing others.1,
    )

all_again : (owner : ℕ) (ds : List Due) (es : List DefinitionTree) (lines : List ℕ)
    (before : List Leaf) → AreTyped ds es → length (before ++ leaves_of_all owner ds es) ≤ 255
    → definitions_typed owner ds es lines (typing_with before) ≡ Ok
    (typing_with (before ++ leaves_of_all owner ds es))
all_again owner [] [] lines before is few = ap Ok (nothing_more before)
all_again owner (due ∷ ds) [] lines before is few = absurd is
all_again owner [] (d ∷ es) lines before is few = absurd is
all_again owner (due ∷ ds) (d ∷ es) lines before is few =
    let side = side_again owner due.stored d.side (other_lines lines) before is.1
    (front_few before (leaves_of_side owner due.stored d.side) (leaves_of_all (suc owner) ds es)
    few) in
    let others = all_again (suc owner) ds es side.0
    (before ++ leaves_of_side owner due.stored d.side) is.2
    (behind_few before (leaves_of_side owner due.stored d.side)
    (leaves_of_all (suc owner) ds es) few) in
    ok_behind (definition_typed owner due d lines (typing_with before)) _
    (side.0, typing_with (before ++ leaves_of_side owner due.stored d.side)) _
    (ok_behind (at lines (tested why.Definition (pointwise nat_eq due.name d.name))) _ tt _
    (ap (at lines) (ok_tested why.Definition (pointwise nat_eq due.name d.name)
    ((bytes_decides due.name d.name).1 is.0))) side.1)
    (others ∙ ap (λ (ls : List Leaf). Ok (typing_with ls))
    (append_assoc before (leaves_of_side owner due.stored d.side)
    (leaves_of_all (suc owner) ds es)))

pub found : (schema : Schema) (ds : List DefinitionTree) (lines : List ℕ) (typing : Typing)
    → typing_of schema ds lines ≡ Ok typing
    → IsTyped schema ds × (typing ≡ typing_with (leaves schema ds))
found schema ds lines typing h =
    let all = all_found 0 (dues schema) ds lines [] typing (omega arith) h in
    (record { definitions = all.0; few = all.1.few }, all.1.typing)

pub again : (schema : Schema) (ds : List DefinitionTree) (lines : List ℕ) → IsTyped schema ds
    → typing_of schema ds lines ≡ Ok (typing_with (leaves schema ds))
again schema ds lines is = all_again 0 (dues schema) ds lines [] is.definitions is.few

-- ---- what a call answers

pub ok_typed : (schema : Schema) (ds : List DefinitionTree) (lines : List ℕ)
    (r : Result Typing Untyped) → Answers (λ x. x) r (typing_of schema ds lines)
    → IfOk r (λ _. IsTyped schema ds)
ok_typed schema ds lines (Ok typing) h = (found schema ds lines typing h).0
ok_typed schema ds lines (Err e) h = tt

pub ok_leaves : (schema : Schema) (ds : List DefinitionTree) (lines : List ℕ)
    (r : Result Typing Untyped) → Answers (λ x. x) r (typing_of schema ds lines)
    → IfOk r (λ typing. typing ≡ typing_with (leaves schema ds))
ok_leaves schema ds lines (Ok typing) h = (found schema ds lines typing h).1
ok_leaves schema ds lines (Err e) h = tt

pub only_memory : (schema : Schema) (ds : List DefinitionTree) (lines : List ℕ)
    (r : Result Typing Untyped) → Answers (λ x. x) r (typing_of schema ds lines) → IsTyped schema ds
    → IfErr r (λ error. error ≡ untyped.NoMemory)
only_memory schema ds lines (Ok typing) h is = tt
only_memory schema ds lines (Err untyped.NoMemory) h is = refl
only_memory schema ds lines (Err (untyped.Mistyped line reason)) h is =
    absurd (other (again schema ds lines is))
  where
    other : typing_of schema ds lines ≡ Ok (typing_with (leaves schema ds)) → ⊥
    other e = cc

pub ok_few : (schema : Schema) (ds : List DefinitionTree) (lines : List ℕ)
    (r : Result Typing Untyped) → Answers (λ x. x) r (typing_of schema ds lines)
    → IfOk r (λ typing. length typing.specs ≤ 255)
ok_few schema ds lines (Ok typing) h =
    let f = found schema ds lines typing h in
    omega (
      arith,
      f.0.few,
      ap (λ (t : Typing). length t.specs) f.1,
      length-map (leaves schema ds) spec_of,
    )
ok_few schema ds lines (Err e) h = tt
