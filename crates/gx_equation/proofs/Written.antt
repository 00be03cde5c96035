-- What a text means can be written.
use Rattle.std.proofs.Common.{◌≡◌, ℕ, zero, suc, ◌<◌, true, false, eqb, List, [], ◌∷◌, ◌++◌, length, refl, sym, subst, arith, inl, inr}
use Rattle.std.specs.Prelude.{IsTrue}
use Rattle.std.specs.List.{AllByRecursion}
use Rattle.std.proofs.lemmas.Bool.{cond_both, eqb-true, eqb-false}
use Rattle.gx_tokens.specs.Lexemes.{is_printable}
use Rattle.gx_tokens.specs.Quotes.{doubled}
use Rattle.gx_tokens.specs.Spelling.{IsWord, IsQuoted}
use Rattle.gx_values.specs.declared.values.Value.{Value}
use Rattle.gx_values.specs.declared.values.Value.TheVariants as value
use Rattle.gx_ports.specs.declared.kinds.LeafKind.TheVariants as leaf
use Rattle.gx_equation.specs.declared.heads.Head.{Head}
use Rattle.gx_equation.specs.declared.heads.Head.TheVariants as heads
use Rattle.gx_equation.specs.Grammar.{NameText, BoundText, MoreText, ItemsText, HeadText, TextOf, ListText, KidsText, TermText, SideText, DefinitionsText, Means}
use Rattle.gx_equation.specs.Printing.{IsBound, IsHead, IsCount, IsTerm, IsSide, IsDefinition, AreWritten}
use Rattle.gx_equation.specs.Terms.{left_of}
use Rattle.gx_equation.specs.Trees.{TermTree, node, list_of, Arity, No_kids, One_kid, Two_kids, Some_kids, arity, linkset_arity, SideTree, file_side, link_side, DefinitionTree}

-- ---- names and bounds

abbrev IsDoubledQuoted : ℕ → List ℕ → List ℕ → Type 0
IsDoubledQuoted b bs text = IsQuoted false text
    → IsTrue (is_printable b) × IsQuoted false (doubled bs)

printable_34 : (b : ℕ) → b ≡ 34 → IsTrue (is_printable b)
printable_34 b e = rw e refl

pair_printable : (b : ℕ) (bs : List ℕ) → eqb b 34 ≡ true
    → IsDoubledQuoted b bs (34 ∷ 34 ∷ doubled bs)
pair_printable b bs is (inl q) = let e : b ≡ 34 = eqb-true b 34 is in (printable_34 b e, q.1.1)
pair_printable b bs is (inr q) = absurd (q.0 refl)

one_printable : (b : ℕ) (bs : List ℕ) → eqb b 34 ≡ false → IsDoubledQuoted b bs (b ∷ doubled bs)
one_printable b bs differs (inl q) = absurd (eqb-false b 34 differs q.0)
one_printable b bs differs (inr q) = (q.1, q.2)

printable : (text : List ℕ) → IsQuoted false (doubled text)
    → AllByRecursion (λ b. IsTrue (is_printable b)) text
printable [] q = tt
printable (b ∷ bs) q =
    let p = cond_both (eqb b 34) (34 ∷ 34 ∷ doubled bs) (b ∷ doubled bs) (IsDoubledQuoted b bs)
    (pair_printable b bs) (one_printable b bs) q in
    (p.0, printable bs p.1)

name_is : (name bytes rest : List ℕ) → NameText name bytes rest → IsWord name
name_is name bytes rest h = h.begins.is_token

bound_is : (v : Value) (bytes rest : List ℕ) → BoundText v bytes rest → IsBound v
bound_is (value.Int z) bytes rest t = t.0
bound_is (value.Text text) bytes rest t = printable text t.begins.is_token
bound_is (value.Bytes b) bytes rest t = absurd t

more_are : {X : Type 0} (Text : X → List ℕ → List ℕ → Type 0) (Is : X → Type 0)
    → ((x : X) (bytes rest : List ℕ) → Text x bytes rest → Is x)
    → (xs : List X) (bytes rest : List ℕ) → MoreText Text xs bytes rest → AllByRecursion Is xs
more_are Text Is each [] bytes rest t = tt
more_are Text Is each (x ∷ xs) bytes rest t =
    (each x bytes t.0 t.1, more_are Text Is each xs t.0 rest t.2)

items_are : {X : Type 0} (Text : X → List ℕ → List ℕ → Type 0) (Is : X → Type 0)
    → ((x : X) (bytes rest : List ℕ) → Text x bytes rest → Is x)
    → (xs : List X) (bytes rest : List ℕ) → ItemsText Text xs bytes rest
    → (0 < length xs) × AllByRecursion Is xs
items_are Text Is each [] bytes rest t = absurd t
items_are Text Is each (x ∷ xs) bytes rest t =
    (omega arith, (each x bytes t.0 t.1, more_are Text Is each xs t.0 rest t.2))

-- ---- heads and terms

head_is : (h : Head) (bytes rest : List ℕ) → HeadText h bytes rest → IsHead h
head_is (heads.Leaf leaf.Heap) bytes rest t = tt
head_is (heads.Leaf (leaf.Hash n)) bytes rest t = let s = t.2.2.1 in (s.0, s.1)
head_is (heads.Leaf leaf.Isam) bytes rest t = tt
head_is (heads.Leaf leaf.Bplus) bytes rest t = tt
head_is heads.Actual bytes rest t = tt
head_is (heads.Encode name c) bytes rest t = name_is name t.2.0 t.2.2.0 t.2.2.1
head_is (heads.Segment names) bytes rest t =
    items_are NameText IsWord name_is names t.2.0 rest t.2.2
head_is heads.Transpose bytes rest t = tt
head_is (heads.Partition name bounds) bytes rest t = let b =
    items_are BoundText IsBound bound_is bounds t.2.2.0 rest t.2.2.2 in
    (name_is name t.2.0 t.2.2.0 t.2.2.1, b.0, b.1)
head_is (heads.Divide n) bytes rest t = let s = t.2.2.1 in (s.0, s.1)
head_is (heads.Index name) bytes rest t = name_is name t.2.0 t.2.2.0 t.2.2.1

abbrev Fit : TextOf → (TermTree → Type 0) → Type 0
Fit Text Is = (t : TermTree) (before after bytes rest : List ℕ) → Text t before after bytes rest
    → Is t

list_are : (Text : TextOf) (Is : TermTree → Type 0) → Fit Text Is
    → (ts : List TermTree) (before after bytes rest : List ℕ)
    → ListText Text ts before after bytes rest
    → (0 < length ts) × AllByRecursion Is ts
list_are Text Is each [] before after bytes rest t = absurd t
list_are Text Is each (u ∷ []) before after bytes rest t =
    (omega arith, (each u before after bytes t.0 t.1, tt))
list_are Text Is each (u ∷ v ∷ vs) before after bytes rest (mid, t) = (
  omega arith,
  (
    each u before mid bytes t.0 t.1,
    (list_are Text Is each (v ∷ vs) mid after t.2.0 rest t.2.2).1,
  ),
)

none_are : (Is : TermTree → Type 0) (ts : List TermTree) → ts ≡ [] → AllByRecursion Is ts
none_are Is ts e = subst (AllByRecursion Is) (sym e) tt

kids_are : (Text : TextOf) (Is : TermTree → Type 0) → Fit Text Is
    → (a : Arity) (ts : List TermTree) (before after bytes rest : List ℕ)
    → KidsText Text a ts before after bytes rest → IsCount a ts × AllByRecursion Is ts
kids_are Text Is each No_kids ts before after bytes rest t = (t.0, none_are Is ts t.0)
kids_are Text Is each One_kid ts before after bytes rest t =
    (t.0, (list_are Text Is each ts before after bytes rest t.1).1)
kids_are Text Is each Two_kids ts before after bytes rest t =
    (t.0, (list_are Text Is each ts before after bytes rest t.1).1)
kids_are Text Is each Some_kids ts before after bytes rest t =
    list_are Text Is each ts before after bytes rest t

term_is : (levels : ℕ) → Fit (TermText levels) (IsTerm levels)
term_is zero t before after bytes rest h = absurd h
term_is (suc levels) (node top kids) before after bytes rest h =
    let k = kids_are (TermText levels) (IsTerm levels) (term_is levels) (arity top) (list_of kids)
    (before ++ left_of bytes ∷ []) after h.0 rest h.2 in
    (head_is top bytes h.0 h.1, k.0, k.1)

-- ---- definitions

side_is : (s : SideTree) (before after bytes rest : List ℕ) → SideText s before after bytes rest
    → IsSide s
side_is (file_side t) before after bytes rest h = term_is 16 t before after bytes rest h
side_is (link_side l ts) before after bytes rest h =
    kids_are (TermText 15) (IsTerm 15) (term_is 15) (linkset_arity l) ts
    (before ++ left_of bytes ∷ []) after h.2.0 rest h.2.2

definitions_are : (ds : List DefinitionTree) (before after bytes rest : List ℕ)
    → DefinitionsText ds before after bytes rest → AllByRecursion IsDefinition ds
definitions_are [] before after bytes rest h = tt
definitions_are (d ∷ ds) before after bytes rest (mid, h) =
    let one = h.1 in (
      record {
        name = name_is d.name bytes one.0 one.1;
        side = side_is d.side (before ++ left_of bytes ∷ []) mid one.2.0 h.0 one.2.2;
      },
      definitions_are ds mid after h.0 rest h.2,
    )

pub are_written : (bytes : List ℕ) (meaning : List DefinitionTree × List ℕ) → Means bytes meaning
    → AreWritten meaning.0
are_written bytes meaning m =
    record { some = m.text.some; each = definitions_are meaning.0 [] m.places bytes [] m.text.text }
