-- What is printed is in the grammar.
use Rattle.std.proofs.Common.{◌≡◌, ℕ, zero, suc, ◌<◌, false, List, [], ◌∷◌, ◌++◌, length, refl, sym, subst, append_assoc, arith, inr}
use Rattle.std.specs.Prelude.{codes}
use Rattle.std.specs.List.{AllByRecursion}
use Rattle.gx_tokens.specs.Grammar.{the}
use Rattle.gx_tokens.specs.Lexemes.{Word, Open, Close, Comma, Equals, End, continues_run}
use Rattle.gx_tokens.proofs.PrintLaws.{token_printed, behind_space, behind_line, word_printed}
use Rattle.gx_equation.specs.declared.heads.Head.{Head}
use Rattle.gx_equation.specs.declared.heads.Head.TheVariants as heads
use Rattle.gx_equation.specs.declared.heads.Linkset.{Linkset}
use Rattle.gx_equation.specs.declared.heads.Linkset.TheVariants as linksets
use Rattle.gx_equation.specs.Definitions.{lines_of}
use Rattle.gx_equation.specs.Grammar.{TextOf, ListText, KidsText, TermText, linkset_word, SideText, DefinitionText, DefinitionsText, Means}
use Rattle.gx_equation.specs.Printing.{head_text, if_kids, term_text, list_text, more_text, side_text, definition_text, equation_text, IsCount, IsTerm, IsSide, IsDefinition, AreWritten}
use Rattle.gx_equation.specs.Terms.{left_of}
use Rattle.gx_equation.specs.Trees.{TermTree, Trees, node, none, kid, kids_from, list_of, Arity, No_kids, One_kid, Two_kids, Some_kids, arity, linkset_arity, SideTree, file_side, link_side, DefinitionTree}
use Rattle.gx_equation.proofs.HeadsPrinted.{spelled_linkset, behind_head_text, head_printed, head_spaced}
use Rattle.gx_equation.proofs.TermsFound.{list_from}

-- ---- terms

abbrev MaySpace : TextOf → Type 0
MaySpace Text = (t : TermTree) (before after bytes rest : List ℕ) → Text t before after bytes rest
    → Text t before after (32 ∷ bytes) rest

term_spaced : (levels : ℕ) → MaySpace (TermText levels)
term_spaced zero t before after bytes rest h = absurd h
term_spaced (suc levels) (node top kids) before after bytes rest h =
    (h.0, head_spaced top bytes h.0 h.1, h.2)

list_spaced : (Text : TextOf) → MaySpace Text
    → (ts : List TermTree) (before after bytes rest : List ℕ)
    → ListText Text ts before after bytes rest → ListText Text ts before after (32 ∷ bytes) rest
list_spaced Text space [] before after bytes rest h = absurd h
list_spaced Text space (t ∷ []) before after bytes rest h =
    (h.0, space t before after bytes h.0 h.1, h.2)
list_spaced Text space (t ∷ u ∷ us) before after bytes rest (mid, h) =
    (mid, (h.0, space t before mid bytes h.0 h.1, h.2))

abbrev Prints : TextOf → (TermTree → Type 0) → Type 0
Prints Text Has = (t : TermTree) (before rest : List ℕ) → Has t → continues_run rest ≡ false
    → (after : List ℕ) × Text t before after (term_text t ++ rest) rest

list_printed : (Text : TextOf) (Has : TermTree → Type 0) → Prints Text Has → MaySpace Text
    → (t : TermTree) (ts : Trees) (before rest : List ℕ) → AllByRecursion Has (t ∷ list_of ts)
    → (after : List ℕ) × ListText Text (t ∷ list_of ts) before after
    ((term_text t ++ more_text ts) ++ rest) rest
list_printed Text Has printed space t none before rest has =
    let one = printed t before (41 ∷ rest) has.0 refl in
    let whole : (term_text t ++ codes ")") ++ rest ≡ term_text t
    ++ (41 ∷ rest) = append_assoc (term_text t) (codes ")") rest in (
      one.0,
      subst (λ (b : List ℕ). ListText Text (t ∷ []) before one.0 b rest) (sym whole)
          (41 ∷ rest, one.1, token_printed Close rest tt tt),
    )
list_printed Text Has printed space t (kid u us) before rest has =
    let others = (term_text u ++ more_text us) ++ rest in
    let one = printed t before (44 ∷ 32 ∷ others) has.0 refl in
    let more = list_printed Text Has printed space u us one.0 rest has.1 in
    let whole : (term_text t ++ more_text (kid u us)) ++ rest ≡ term_text t ++ (44 ∷ 32 ∷ others) =
    simp append_assoc in (
      more.0,
      subst (λ (b : List ℕ). ListText Text (t ∷ u ∷ list_of us) before more.0 b rest)
          (sym whole) (
            one.0,
            (
              44 ∷ 32 ∷ others,
              one.1,
              (
                32 ∷ others,
                token_printed Comma (32 ∷ others) tt tt,
                list_spaced Text space (u ∷ list_of us) one.0 more.0 others rest more.1,
              ),
            ),
          ),
    )

some_printed : (Text : TextOf) (Has : TermTree → Type 0) → Prints Text Has → MaySpace Text
    → (kids : Trees) (before rest : List ℕ) → 0 < length (list_of kids)
    → AllByRecursion Has (list_of kids)
    → (after : List ℕ) × ListText Text (list_of kids) before after (list_text kids ++ rest) rest
some_printed Text Has printed space none before rest some has = absurd (omega arith)
some_printed Text Has printed space (kid t ts) before rest some has =
    list_printed Text Has printed space t ts before rest has

kids_printed : (Text : TextOf) (Has : TermTree → Type 0) → Prints Text Has → MaySpace Text
    → (a : Arity) (kids : Trees) (before rest : List ℕ) → IsCount a (list_of kids)
    → AllByRecursion Has (list_of kids)
    → (after : List ℕ) × KidsText Text a (list_of kids) before after
    (if_kids a (list_text kids) ++ rest) rest
kids_printed Text Has printed space No_kids kids before rest count has =
    (before, (count, refl, refl))
kids_printed Text Has printed space One_kid kids before rest count has = let p =
    some_printed Text Has printed space kids before rest (omega (arith, count)) has in
    (p.0, (count, p.1))
kids_printed Text Has printed space Two_kids kids before rest count has = let p =
    some_printed Text Has printed space kids before rest (omega (arith, count)) has in
    (p.0, (count, p.1))
kids_printed Text Has printed space Some_kids kids before rest count has =
    some_printed Text Has printed space kids before rest count has

behind_kids : (Text : TextOf) → MaySpace Text
    → (top : Head) (ts : List TermTree) (before after inner rest : List ℕ)
    → KidsText Text (arity top) ts before after inner rest
    → KidsText Text (arity top) ts before after (behind_head_text top inner) rest
behind_kids Text space (heads.Leaf kind) ts before after inner rest h = h
behind_kids Text space heads.Actual ts before after inner rest h = h
behind_kids Text space (heads.Encode name c) ts before after inner rest h =
    (h.0, list_spaced Text space ts before after inner rest h.1)
behind_kids Text space (heads.Segment names) ts before after inner rest h =
    (h.0, list_spaced Text space ts before after inner rest h.1)
behind_kids Text space heads.Transpose ts before after inner rest h = h
behind_kids Text space (heads.Partition name bounds) ts before after inner rest h =
    list_spaced Text space ts before after inner rest h
behind_kids Text space (heads.Divide n) ts before after inner rest h =
    (h.0, list_spaced Text space ts before after inner rest h.1)
behind_kids Text space (heads.Index name) ts before after inner rest h =
    (h.0, list_spaced Text space ts before after inner rest h.1)

leaf_apart : (a : Arity) (text rest : List ℕ) → continues_run rest ≡ false → a ≡ No_kids
    → continues_run (if_kids a text ++ rest) ≡ false
leaf_apart No_kids text rest apart e = apart
leaf_apart One_kid text rest apart e = absurd cc
leaf_apart Two_kids text rest apart e = absurd cc
leaf_apart Some_kids text rest apart e = absurd cc

term_printed : (levels : ℕ) → Prints (TermText levels) (IsTerm levels)
term_printed zero t before rest has apart = absurd has
term_printed (suc levels) (node top kids) before rest has apart =
    let inner = if_kids (arity top) (list_text kids) ++ rest in
    let whole : term_text (node top kids) ++ rest ≡ head_text top ++ inner =
    append_assoc (head_text top) (if_kids (arity top) (list_text kids)) rest in
    let k = kids_printed (TermText levels) (IsTerm levels) (term_printed levels)
    (term_spaced levels) (arity top) kids (before ++ left_of (head_text top ++ inner) ∷ []) rest
    has.1 has.2 in (
      k.0,
      subst (λ (b : List ℕ). TermText (suc levels) (node top kids) before k.0 b rest) (sym whole) (
        behind_head_text top inner,
        head_printed top inner has.0
            (leaf_apart (arity top) (list_text kids) rest apart),
        behind_kids (TermText levels) (term_spaced levels) top
            (list_of kids) _ k.0 inner rest k.1,
      ),
    )

-- ---- sides

link_kids_text : (l : Linkset) (text : List ℕ) → if_kids (linkset_arity l) text ≡ text
link_kids_text linksets.Array text = refl
link_kids_text linksets.Ring text = refl
link_kids_text linksets.Inverted text = refl

side_printed : (s : SideTree) (before rest : List ℕ) → IsSide s → continues_run rest ≡ false
    → (after : List ℕ) × SideText s before after (side_text s ++ rest) rest
side_printed (file_side t) before rest has apart = term_printed 16 t before rest has apart
side_printed (link_side l ts) before rest has apart =
    let inner = list_text (kids_from ts) ++ rest in
    let whole : side_text (link_side l ts) ++ rest ≡ linkset_word l ++ 40 ∷ inner =
    append_assoc (linkset_word l) (40 ∷ list_text (kids_from ts)) rest in
    let places = before ++ left_of (linkset_word l ++ 40 ∷ inner) ∷ [] in
    let count : IsCount (linkset_arity l) (list_of (kids_from ts)) =
    subst (IsCount (linkset_arity l)) (sym (list_from ts)) has.0 in
    let each : AllByRecursion (IsTerm 15) (list_of (kids_from ts)) =
    subst (AllByRecursion (IsTerm 15)) (sym (list_from ts)) has.1 in
    let k = kids_printed (TermText 15) (IsTerm 15) (term_printed 15) (term_spaced 15)
    (linkset_arity l) (kids_from ts) places rest count each in
    let kids = subst (λ (us : List TermTree). KidsText (TermText 15) (linkset_arity l) us places k.0
    (if_kids (linkset_arity l) (list_text (kids_from ts)) ++ rest) rest) (list_from ts) k.1 in
    let here = subst (λ (b : List ℕ). KidsText (TermText 15) (linkset_arity l) ts places k.0
    (b ++ rest) rest) (link_kids_text l (list_text (kids_from ts))) kids in (
      k.0,
      subst (λ (b : List ℕ). SideText (link_side l ts) before k.0 b rest) (sym whole) (
        40 ∷ inner,
        word_printed (linkset_word l) (40 ∷ inner) (spelled_linkset l) refl,
        (inner, token_printed Open inner tt tt, here),
      ),
    )

side_spaced : (s : SideTree) (before after bytes rest : List ℕ) → SideText s before after bytes rest
    → SideText s before after (32 ∷ bytes) rest
side_spaced (file_side t) before after bytes rest h = term_spaced 16 t before after bytes rest h
side_spaced (link_side l ts) before after bytes rest h =
    (h.0, behind_space (Word (linkset_word l)) bytes h.0 h.1, h.2)

-- ---- definitions

definition_printed : (d : DefinitionTree) (before rest : List ℕ) → IsDefinition d
    → (after : List ℕ) × DefinitionText d before after (definition_text d ++ rest) (10 ∷ rest)
definition_printed d before rest has =
    let line = 10 ∷ rest in
    let side = side_text d.side ++ line in
    let equals = 32 ∷ 61 ∷ 32 ∷ side in
    let whole : definition_text d ++ rest ≡ d.name ++ equals = simp append_assoc in
    let places = before ++ left_of (d.name ++ equals) ∷ [] in
    let s = side_printed d.side places line has.side refl in (
      s.0,
      subst (λ (b : List ℕ). DefinitionText d before s.0 b line) (sym whole) (
        equals,
        word_printed d.name equals has.name refl,
        (
          32 ∷ side,
          behind_space Equals (61 ∷ 32 ∷ side) (32 ∷ side)
              (token_printed Equals (32 ∷ side) tt tt),
          side_spaced d.side places s.0 side line s.1,
        ),
      ),
    )

definition_line : (d : DefinitionTree) (before after bytes rest : List ℕ)
    → DefinitionText d before after bytes rest → DefinitionText d before after (10 ∷ bytes) rest
definition_line d before after bytes rest h = (h.0, behind_line (Word d.name) bytes h.0 h.1, h.2)

end_line : the End (10 ∷ []) []
end_line = record {
  blanks = 10 ∷ [];
  here = [];
  parts = refl;
  are_blanks = inr (refl, tt);
  begins = record { parts = refl; is_token = tt; follows = refl };
}

lines_printed : (ds : List DefinitionTree) (before : List ℕ) → AllByRecursion IsDefinition ds
    → (after : List ℕ) × DefinitionsText ds before after (10 ∷ equation_text ds) []
lines_printed [] before has = (before, (refl, end_line))
lines_printed (d ∷ ds) before has =
    let p = definition_printed d before (equation_text ds) has.0 in
    let q = lines_printed ds p.0 has.1 in (
      q.0,
      (
        p.0,
        (
          10 ∷ equation_text ds,
          definition_line d before p.0
              (definition_text d ++ equation_text ds) (10 ∷ equation_text ds) p.1,
          q.1,
        ),
      ),
    )

all_printed : (ds : List DefinitionTree) → 0 < length ds → AllByRecursion IsDefinition ds
    → (after : List ℕ) × DefinitionsText ds [] after (equation_text ds) []
all_printed [] some has = absurd (omega arith)
all_printed (d ∷ ds) some has =
    let p = definition_printed d [] (equation_text ds) has.0 in
    let q = lines_printed ds p.0 has.1 in
    (q.0, (p.0, (10 ∷ equation_text ds, p.1, q.1)))

pub equation_printed : (ds : List DefinitionTree) → AreWritten ds
    → (lines : List ℕ) × Means (equation_text ds) (ds, lines)
equation_printed ds w =
    let p = all_printed ds w.some w.each in (
      lines_of (equation_text ds) p.0,
      record { places = p.0; text = record { some = w.some; text = p.1 }; lines = refl },
    )
