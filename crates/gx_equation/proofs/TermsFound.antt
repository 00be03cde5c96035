-- What is read of terms and definitions is in the grammar.
use Rattle.std.proofs.Common.{◌≡◌, ℕ, zero, suc, Bool, true, false, cond, List, [], ◌∷◌, ◌++◌, length, Option, Some, None, Result, Ok, Err, refl, sym, ap, subst, ◌∙◌, append_assoc, append-nil, arith}
use Rattle.std.specs.Prelude.{nat_eq}
use Rattle.std.specs.Cmp.Lexicographic.{pointwise}
use Rattle.std.proofs.lemmas.Bool.{cond_both}
use Rattle.gx_tokens.specs.declared.fault.Fault.{Fault}
use Rattle.gx_tokens.specs.declared.why.Why.{Why}
use Rattle.gx_tokens.specs.declared.why.Why.TheVariants as why
use Rattle.gx_tokens.specs.Grammar.{the}
use Rattle.gx_tokens.specs.Lexemes.{Lexeme, Word, Number, Quoted, Open, Close, Comma, Equals, End}
use Rattle.gx_tokens.specs.Reading.{◌>>=◌, map_ok, want, an_open, a_close, a_comma, an_equals, a_word, comma_or_close, fault_at}
use Rattle.gx_tokens.proofs.ReadingLaws.{means_is, bind_ok, mapped_ok, want_ok, open_found, close_found, comma_found, equals_found, list_mark_found, same_bytes}
use Rattle.gx_tokens.proofs.TokenFound.{done_is}
use Rattle.gx_equation.specs.declared.heads.Linkset.{Linkset}
use Rattle.gx_equation.specs.declared.heads.Linkset.TheVariants as linksets
use Rattle.gx_equation.specs.Definitions.{linkset_of_word, a_side, a_start, file_side_at, link_side_at, side_at, definition_behind, definitions_at, equation_at, with_lines}
use Rattle.gx_equation.specs.Grammar.{TextOf, ListText, KidsText, TermText, linkset_word, SideText, DefinitionText, DefinitionsText, EquationText, Means}
use Rattle.gx_equation.specs.Heads.{head_at}
use Rattle.gx_equation.specs.Terms.{Reader, left_of, kids_at, kids_behind, term_behind, term_at}
use Rattle.gx_equation.specs.Trees.{TermTree, node, kids_from, list_of, Arity, No_kids, One_kid, Two_kids, Some_kids, arity, linkset_arity, SideTree, file_side, link_side, DefinitionTree}
use Rattle.gx_equation.proofs.Found.{name_found, head_found}

-- ---- terms

pub list_from : (ts : List TermTree) → list_of (kids_from ts) ≡ ts
list_from [] = refl
list_from (t ∷ ts) = ap (λ (us : List TermTree). t ∷ us) (list_from ts)

abbrev pub Reads : Reader → TextOf → Type 0
Reads term Text = (places bytes : List ℕ) (y : (TermTree × List ℕ) × List ℕ)
    → term places bytes ≡ Ok y
    → Text y.0.0 places y.0.1 bytes y.1

pub record KidsFound (Text : TextOf) (before : List TermTree) (places bytes : List ℕ)
    (y : (List TermTree × List ℕ) × List ℕ) : Type 0 where
  pub more : List TermTree
  pub all : y.0.0 ≡ before ++ more
  pub text : ListText Text more places y.0.1 bytes y.1

longer : (Text : TextOf) (t : TermTree) (more : List TermTree)
    (before mid after bytes a b rest : List ℕ)
    → Text t before mid bytes a → the Comma a b → ListText Text more mid after b rest
    → ListText Text (t ∷ more) before after bytes rest
longer Text t [] before mid after bytes a b rest one comma others = absurd others
longer Text t (u ∷ us) before mid after bytes a b rest one comma others =
    (mid, (a, one, (b, comma, others)))

kids_step : (Text : TextOf) (before : List TermTree) (places bytes : List ℕ) (t : TermTree)
    (seen after : List ℕ) (more : Bool) (rest : List ℕ)
    (others : Result ((List TermTree × List ℕ) × List ℕ) Fault) (y : (List TermTree × List ℕ)
    × List ℕ)
    → (others ≡ Ok y → KidsFound Text (before ++ t ∷ []) seen rest y)
    → Text t places seen bytes after → want comma_or_close after ≡ Ok (more, rest)
    → cond more others (Ok ((before ++ t ∷ [], seen), rest)) ≡ Ok y
    → KidsFound Text before places bytes y
kids_step Text before places bytes t seen after true rest others y again text m h =
    let r = again h in
    record {
      more = t ∷ r.more;
      all = r.all ∙ append_assoc before (t ∷ []) r.more;
      text = longer Text t r.more places seen y.0.1 bytes after rest y.1 text
          (list_mark_found after (true, rest) m) r.text;
    }
kids_step Text before places bytes t seen after false rest others y again text m h =
    let p = done_is ((before ++ t ∷ [], seen), rest) y h in
    record {
      more = t ∷ [];
      all = sym (ap (λ z. z.0.0) p);
      text = (
        after,
        subst (λ (q : List ℕ). Text t places q bytes after) (ap (λ z. z.0.1) p) text,
        subst (λ (r : List ℕ). the Close after r) (ap (λ z. z.1) p)
            (list_mark_found after (false, rest) m),
      );
    }

kids_found : (term : Reader) (Text : TextOf) → Reads term Text
    → (fuel : ℕ) (before : List TermTree) (places bytes : List ℕ) (y : (List TermTree × List ℕ)
    × List ℕ)
    → kids_at term fuel before places bytes ≡ Ok y → KidsFound Text before places bytes y
unfolding kids_at
kids_found term Text reads zero before places bytes y e = let w =
    want_ok (λ _. Err why.Count) bytes y e in absurd cc
kids_found term Text reads (suc fuel) before places bytes y e =
    let a = bind_ok (term places bytes)
    (λ t. want comma_or_close t.1 >>= λ more. cond more.0
    (kids_at term fuel (before ++ t.0.0 ∷ []) t.0.1 more.1)
    (Ok ((before ++ t.0.0 ∷ [], t.0.1), more.1))) y e in
    let b = bind_ok (want comma_or_close a.0.1)
    (λ more. cond more.0 (kids_at term fuel (before ++ a.0.0.0 ∷ []) a.0.0.1 more.1)
    (Ok ((before ++ a.0.0.0 ∷ [], a.0.0.1), more.1))) y a.2 in
    kids_step Text before places bytes a.0.0.0 a.0.0.1 a.0.1 b.0.0 b.0.1
    (kids_at term fuel (before ++ a.0.0.0 ∷ []) a.0.0.1 b.0.1) y
    (λ h. kids_found term Text reads fuel (before ++ a.0.0.0 ∷ []) a.0.0.1 b.0.1 y h)
    (reads places bytes a.0 a.1) b.1 b.2

pub behind_found : (term : Reader) (Text : TextOf) → Reads term Text
    → (a : Arity) (places bytes : List ℕ) (y : (List TermTree × List ℕ) × List ℕ)
    → kids_behind term a places bytes ≡ Ok y → KidsText Text a y.0.0 places y.0.1 bytes y.1
behind_found term Text reads No_kids places bytes y e =
    subst (λ (z : (List TermTree × List ℕ) × List ℕ). KidsText Text No_kids z.0.0 places z.0.1 bytes
    z.1) (done_is (([], places), bytes) y e) (refl, refl, refl)
behind_found term Text reads One_kid places bytes y e =
    let a = bind_ok (term places bytes) _ y e in
    let b = bind_ok (want a_close a.0.1) _ y a.2 in
    subst (λ (z : (List TermTree × List ℕ) × List ℕ). KidsText Text One_kid z.0.0 places z.0.1 bytes
    z.1) (done_is ((a.0.0.0 ∷ [], a.0.0.1), b.0.1) y b.2)
    (omega arith, (a.0.1, reads places bytes a.0 a.1, close_found a.0.1 b.0 b.1))
behind_found term Text reads Two_kids places bytes y e =
    let a = bind_ok (term places bytes) _ y e in
    let b = bind_ok (want a_comma a.0.1) _ y a.2 in
    let c = bind_ok (term a.0.0.1 b.0.1) _ y b.2 in
    let d = bind_ok (want a_close c.0.1) _ y c.2 in
    subst (λ (z : (List TermTree × List ℕ) × List ℕ). KidsText Text Two_kids z.0.0 places z.0.1
    bytes
    z.1) (done_is ((a.0.0.0 ∷ c.0.0.0 ∷ [], c.0.0.1), d.0.1) y d.2) (
      omega arith,
      (
        a.0.0.1,
        (
          a.0.1,
          reads places bytes a.0 a.1,
          (
            b.0.1,
            comma_found a.0.1 b.0 b.1,
            (c.0.1, reads a.0.0.1 b.0.1 c.0 c.1, close_found c.0.1 d.0 d.1),
          ),
        ),
      ),
    )
behind_found term Text reads Some_kids places bytes y e =
    let f = kids_found term Text reads (suc (length bytes)) [] places bytes y e in
    subst (λ (ts : List TermTree). ListText Text ts places y.0.1 bytes y.1) (sym f.all) f.text

pub term_found : (levels : ℕ) → Reads (term_at levels) (TermText levels)
unfolding term_at term_behind
term_found zero places bytes y e = let a =
    bind_ok (head_at zero bytes) (λ x. Err (fault_at bytes why.Depth)) y e in absurd cc
term_found (suc levels) places bytes y e =
    let a = bind_ok (head_at (suc levels) bytes) _ y e in
    let more = places ++ left_of bytes ∷ [] in
    let b = bind_ok (kids_behind (term_at levels) (arity a.0.0) more a.0.1) _ y a.2 in
    let k = behind_found (term_at levels) (TermText levels) (term_found levels)
    (arity a.0.0) more a.0.1 b.0 b.1 in
    subst (λ (z : (TermTree × List ℕ) × List ℕ). TermText (suc levels) z.0.0 places z.0.1 bytes z.1)
    (done_is ((node a.0.0 (kids_from b.0.0.0), b.0.0.1), b.0.1) y b.2) (
      a.0.1,
      head_found (suc levels) bytes a.0 a.1,
      subst (λ (ts : List TermTree). KidsText (TermText levels)
          (arity a.0.0) ts more b.0.0.1 a.0.1 b.0.1) (sym (list_from b.0.0.0)) k,
    )

-- ---- sides

-- what the first word of a side says
abbrev pub SideMark : Option Linkset → Lexeme → Type 0
SideMark None t = Unit {0}
SideMark (Some linkset) t = t ≡ Word (linkset_word linkset)

linkset_step : (word : List ℕ) (o : Option Linkset) (l : Linkset) (other : Option Linkset)
    → (other ≡ o → SideMark o (Word word))
    → cond (pointwise nat_eq word (linkset_word l)) (Some l) other ≡ o → SideMark o (Word word)
linkset_step word o l other again e =
    cond_both (pointwise nat_eq word (linkset_word l)) (Some l) other (λ (r : Option Linkset). r ≡ o
    → SideMark o (Word word))
    (λ is h. subst (λ (z : Option Linkset). SideMark z (Word word)) h
    (ap (λ (w : List ℕ). Word w) ((same_bytes word (linkset_word l)).0 is)))
    (λ _ h. again h)
    e

pub linkset_is : (word : List ℕ) (o : Option Linkset) → linkset_of_word word ≡ o
    → SideMark o (Word word)
unfolding linkset_of_word
linkset_is word o e =
    linkset_step word o linksets.Array _
    (linkset_step word o linksets.Ring _
    (linkset_step word o linksets.Inverted None
    (λ h. subst (λ (z : Option Linkset). SideMark z (Word word)) h tt))) e

no_mark : (t : Lexeme) (o : Option Linkset) → ◌≡◌ {A = Result (Option Linkset) Why} (Ok None) (Ok o)
    → SideMark o t
no_mark t o e = subst (λ (z : Option Linkset). SideMark z t) (means_is None o e) tt

pub side_mark : (t : Lexeme) (o : Option Linkset) → a_side t ≡ Ok o → SideMark o t
side_mark (Word w) o e = linkset_is w o (means_is (linkset_of_word w) o e)
side_mark (Number w) o e = no_mark (Number w) o e
side_mark (Quoted w) o e = no_mark (Quoted w) o e
side_mark Open o e = no_mark Open o e
side_mark Close o e = no_mark Close o e
side_mark Comma o e = no_mark Comma o e
side_mark Equals o e = no_mark Equals o e
side_mark End o e = no_mark End o e

file_found : (places bytes : List ℕ) (y : (SideTree × List ℕ) × List ℕ)
    → file_side_at places bytes ≡ Ok y → SideText y.0.0 places y.0.1 bytes y.1
unfolding file_side_at
file_found places bytes y e =
    let t = bind_ok (term_at 16 places bytes) _ y e in
    subst (λ (z : (SideTree × List ℕ) × List ℕ). SideText z.0.0 places z.0.1 bytes z.1)
    (done_is ((file_side t.0.0.0, t.0.0.1), t.0.1) y t.2) (term_found 16 places bytes t.0 t.1)

link_found : (linkset : Linkset) (places bytes mid : List ℕ) (y : (SideTree × List ℕ) × List ℕ)
    → the (Word (linkset_word linkset)) bytes mid
    → link_side_at linkset (places ++ left_of bytes ∷ []) mid ≡ Ok y
    → SideText y.0.0 places y.0.1 bytes y.1
unfolding link_side_at
link_found linkset places bytes mid y word e =
    let before = places ++ left_of bytes ∷ [] in
    let a = bind_ok (want an_open mid) _ y e in
    let b = bind_ok (kids_behind (term_at 15) (linkset_arity linkset) before a.0.1) _ y a.2 in
    subst (λ (z : (SideTree × List ℕ) × List ℕ). SideText z.0.0 places z.0.1 bytes z.1)
    (done_is ((link_side linkset b.0.0.0, b.0.0.1), b.0.1) y b.2) (
      mid,
      word,
      (
        a.0.1,
        open_found mid a.0 a.1,
        behind_found (term_at 15) (TermText 15) (term_found 15)
            (linkset_arity linkset) before a.0.1 b.0 b.1,
      ),
    )

side_step : (o : Option Linkset) (t : Lexeme) (places bytes mid : List ℕ) (y : (SideTree × List ℕ)
    × List ℕ) → SideMark o t → the t bytes mid
    → ◌≡◌ {A = Result ((SideTree × List ℕ) × List ℕ) Fault}
    (elim o [
      | None ↦ file_side_at places bytes
      | Some linkset ↦ link_side_at linkset (places ++ left_of bytes ∷ []) mid
    ]) (Ok y)
    → SideText y.0.0 places y.0.1 bytes y.1
side_step None t places bytes mid y is h e = file_found places bytes y e
side_step (Some linkset) t places bytes mid y is h e =
    link_found linkset places bytes mid y (subst (λ (u : Lexeme). the u bytes mid) is h) e

pub side_found : (places bytes : List ℕ) (y : (SideTree × List ℕ) × List ℕ)
    → side_at places bytes ≡ Ok y → SideText y.0.0 places y.0.1 bytes y.1
unfolding side_at
side_found places bytes y e =
    let a = bind_ok (want a_side bytes)
    (λ x. elim x.0 [
      | None ↦ file_side_at places bytes
      | Some linkset ↦ link_side_at linkset (places ++ left_of bytes ∷ []) x.1
    ]) y e in
    let w = want_ok a_side bytes a.0 a.1 in
    side_step a.0.0 w.token places bytes a.0.1 y (side_mark w.token a.0.0 w.is) w.first a.2

-- ---- definitions

pub definition_found : (name before bytes mid : List ℕ) (y : (DefinitionTree × List ℕ) × List ℕ)
    → the (Word name) bytes mid → definition_behind name (before ++ left_of bytes ∷ []) mid ≡ Ok y
    → DefinitionText y.0.0 before y.0.1 bytes y.1
unfolding definition_behind
definition_found name before bytes mid y word e =
    let places = before ++ left_of bytes ∷ [] in
    let a = bind_ok (want an_equals mid) _ y e in
    let b = bind_ok (side_at places a.0.1) _ y a.2 in
    subst (λ (z : (DefinitionTree × List ℕ) × List ℕ). DefinitionText z.0.0 before z.0.1 bytes z.1)
    (done_is ((record { name = name; side = b.0.0.0 }, b.0.0.1), b.0.1) y b.2)
    (mid, word, (a.0.1, equals_found mid a.0 a.1, side_found places a.0.1 b.0 b.1))

abbrev pub StartMark : Option (List ℕ) → Lexeme → Type 0
StartMark None t = t ≡ End
StartMark (Some name) t = t ≡ Word name

pub start_mark : (t : Lexeme) (o : Option (List ℕ)) → a_start t ≡ Ok o → StartMark o t
start_mark (Word w) o e =
    subst (λ (z : Option (List ℕ)). StartMark z (Word w)) (means_is (Some w) o e) refl
start_mark (Number w) o e = absurd cc
start_mark (Quoted w) o e = absurd cc
start_mark Open o e = absurd cc
start_mark Close o e = absurd cc
start_mark Comma o e = absurd cc
start_mark Equals o e = absurd cc
start_mark End o e = subst (λ (z : Option (List ℕ)). StartMark z End) (means_is None o e) refl

pub record DefinitionsFound (before : List DefinitionTree) (places bytes : List ℕ)
    (y : List DefinitionTree × List ℕ) : Type 0 where
  pub more : List DefinitionTree
  pub all : y.0 ≡ before ++ more
  pub text : DefinitionsText more places y.1 bytes []

definitions_step : (before : List DefinitionTree) (places bytes : List ℕ) (t : Lexeme)
    (o : Option (List ℕ)) (rest : List ℕ) (others : (DefinitionTree × List ℕ) × List ℕ
    → Result (List DefinitionTree × List ℕ) Fault) (y : List DefinitionTree × List ℕ)
    → ((d : (DefinitionTree × List ℕ) × List ℕ) → others d ≡ Ok y
    → DefinitionsFound (before ++ d.0.0 ∷ []) d.0.1 d.1 y) → StartMark o t → the t bytes rest
    → ◌≡◌ {A = Result (List DefinitionTree × List ℕ) Fault}
    (elim o [
      | None ↦ Ok (before, places)
      | Some name ↦ definition_behind name
          (places ++ left_of bytes ∷ []) rest >>= others
    ]) (Ok y)
    → DefinitionsFound before places bytes y
definitions_step before places bytes t None rest others y again is h e =
    let p = done_is (before, places) y e in
    let first : the End bytes rest = subst (λ (u : Lexeme). the u bytes rest) is h in
    let ends : rest ≡ [] = first.begins.follows in
    record {
      more = [];
      all = sym (ap (λ z. z.0) p) ∙ sym (append-nil before);
      text = (ap (λ z. z.1) p, subst (λ (r : List ℕ). the End bytes r) ends first);
    }
definitions_step before places bytes t (Some name) rest others y again is h e =
    let a = bind_ok (definition_behind name (places ++ left_of bytes ∷ []) rest) others y e in
    let r = again a.0 a.2 in
    let one = definition_found name places bytes rest a.0
    (subst (λ (u : Lexeme). the u bytes rest) is h) a.1 in
    record {
      more = a.0.0.0 ∷ r.more;
      all = r.all ∙ append_assoc before (a.0.0.0 ∷ []) r.more;
      text = (a.0.0.1, (a.0.1, one, r.text));
    }

definitions_found : (fuel : ℕ) (before : List DefinitionTree) (places bytes : List ℕ)
    (y : List DefinitionTree × List ℕ) → definitions_at fuel before places bytes ≡ Ok y
    → DefinitionsFound before places bytes y
unfolding definitions_at
definitions_found zero before places bytes y e =
    let a = bind_ok (want {A = List DefinitionTree × List ℕ} (λ _. Err why.Count) bytes)
    (λ x. Ok x.0) y e in
    let w = want_ok (λ _. Err why.Count) bytes a.0 a.1 in
    absurd cc
definitions_found (suc fuel) before places bytes y e =
    let a = bind_ok (want a_start bytes)
    (λ start. elim start.0 [
      | None ↦ Ok (before, places)
      | Some name ↦ definition_behind name (places ++ left_of bytes ∷ []) start.1 >>= λ d.
          definitions_at fuel (before ++ d.0.0 ∷ []) d.0.1 d.1
    ]) y e in
    let w = want_ok a_start bytes a.0 a.1 in
    definitions_step before places bytes w.token a.0.0 a.0.1
    (λ d. definitions_at fuel (before ++ d.0.0 ∷ []) d.0.1 d.1) y
    (λ d h. definitions_found fuel (before ++ d.0.0 ∷ []) d.0.1 d.1 y h)
    (start_mark w.token a.0.0 w.is) w.first a.2

pub equation_found : (bytes : List ℕ) (y : List DefinitionTree × List ℕ) → equation_at bytes ≡ Ok y
    → EquationText y.0 y.1 bytes
unfolding equation_at
equation_found bytes y e =
    let n = bind_ok (want a_word bytes) _ y e in
    let d = bind_ok (definition_behind n.0.0 (left_of bytes ∷ []) n.0.1) _ y n.2 in
    let f = definitions_found (suc (length d.0.1)) (d.0.0.0 ∷ []) d.0.0.1 d.0.1 y d.2 in
    let one = definition_found n.0.0 [] bytes n.0.1 d.0 (name_found bytes n.0 n.1) d.1 in
    record {
      some = omega (arith, ap length f.all);
      text = subst (λ (ds : List DefinitionTree). DefinitionsText ds [] y.1 bytes []) (sym f.all)
          (d.0.0.1, (d.0.1, one, f.text));
    }

pub meaning_found : (bytes : List ℕ) (y : List DefinitionTree × List ℕ)
    → map_ok (with_lines bytes) (equation_at bytes) ≡ Ok y → Means bytes y
meaning_found bytes y e =
    let a = mapped_ok (with_lines bytes) (equation_at bytes) y e in
    subst (Means bytes) a.2
    (record { places = a.0.1; text = equation_found bytes a.0 a.1; lines = refl })
