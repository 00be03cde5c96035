-- Accesses as alternatives, and what is read by one of them.
use Rattle.std.proofs.Common.{◌≡◌, ◌∙◌, ℕ, zero, suc, ◌<◌, List, [], ◌∷◌, length, map, get_or, true, false, Option, Some, None, Result, Ok, Vec, Global, refl, sym, ap, subst, arith}
use Rattle.std.specs.Prelude.{is_some}
use Rattle.std.proofs.lemmas.Bool.{true≢false}
use Rattle.gx_values.specs.declared.keys.Span.{Span}
use Rattle.gx_values.specs.declared.records.Form.{Form}
use Rattle.gx_values.specs.declared.values.Value.{Value}
use Rattle.gx_values.specs.Values.{no_value}
use Rattle.gx_ports.specs.declared.stop.Stop.{Stop}
use Rattle.gx_ports.specs.declared.view.View.{Ghosts}
use Rattle.gx_partition.specs.Bounds.{child_of}
use Rattle.gx_access.specs.declared.access.Access.{Access}
use Rattle.gx_access.specs.declared.access.Access.TheVariants as accesses
use Rattle.gx_access.specs.declared.access.Access.TheOpen as open_access
use Rattle.gx_access.specs.declared.access.Access.TheFolds.{fold-roll-Access}
use Rattle.gx_access.specs.declared.access.Chooser.{Chooser}
use Rattle.gx_access.specs.declared.access.Chooser.TheVariants.{OfKey}
use Rattle.gx_access.specs.Access.{Choice, Choices, By, no_choices, choice, chooser_value}
use Rattle.gx_access.specs.Leaves.{choice_leaves, choices_leaves}
use Rattle.gx_access.specs.Seen.{choice_step, choice_of, choices_from}
use Rattle.gx_gets.specs.Whole.{choice_count, IsHeldAt, IsHeldIn, ReadsOne}
use Rattle.gx_gets.proofs.HeldSteps.{choice_at, held_child, child_leaf, asked_child}
use Rattle.gx_gets.proofs.WholeSteps.{choice_size, choices_size, reads_by, first_found, others_found}

pub seen_by : (chooser : Chooser) (bounds : List Value) (all : Vec Access Global)
    → choice_of (accesses.By chooser bounds all)
    ≡ By chooser bounds (choices_from (map choice_of all.items))
seen_by chooser bounds all = ap choice_of (sym (accesses.rolls-By chooser bounds all))
    ∙ fold-roll-Access Choice choice_step (open_access.By chooser bounds all)

-- an access by these, in whatever list they stand
pub seen_each : {chooser : Chooser} {bounds : List Value} (access : Access)
    (all : Vec Access Global) (list : List Access) → access ≡ accesses.By chooser bounds all
    → list ≡ all.items → choice_of access ≡ By chooser bounds (choices_from (map choice_of list))
seen_each {chooser} {bounds} access all list is same =
    ap choice_of is ∙ seen_by chooser bounds all
    ∙ ap (λ (l : List Access). By chooser bounds (choices_from (map choice_of l))) (sym same)

pub all_counted : (all : List Access) → choice_count (choices_from (map choice_of all)) ≡ length all
all_counted [] = refl
all_counted (a ∷ all) = ap suc (all_counted all)

pub choice_there : (all : List Access) (c : ℕ) (d : Access) → c < length all
    → choice_at (choices_from (map choice_of all)) c ≡ choice_of (get_or all c d)
choice_there [] c d below = absurd (omega (arith, below))
choice_there (a ∷ all) zero d below = refl
choice_there (a ∷ all) (suc c) d below = choice_there all c d (omega (arith, below))

pub child_smaller : (cs : Choices) (c : ℕ) → c < choice_count cs
    → choice_size (choice_at cs c) < choices_size cs
child_smaller no_choices c below = absurd (omega (arith, below))
child_smaller (choice ch cs) zero below = omega arith
child_smaller (choice ch cs) (suc c) below = omega (arith, child_smaller cs c (omega (arith, below)))

module _ {S : Type 0} (g : Ghosts S) (form : Form) (key : List Value) (span : Span) where
  abbrev pub ByChoice : Choice → S → S → Result (Option (List Value)) Stop → Type 0
  ByChoice ch old new result = ReadsOne g form key span (λ r maps. IsHeldAt maps span r ch)
      (choice_leaves ch) old new result

  abbrev pub ByEach : Choices → S → S → Result (Option (List Value)) Stop → Type 0
  ByEach cs old new result = ReadsOne g form key span (λ r maps. (c : ℕ) × IsHeldIn maps span r cs c)
      (choices_leaves cs) old new result

  -- by the child of the key's field
  pub child_read : (k : ℕ) (bounds : List Value) (cs : Choices) (c : ℕ) (old new : S)
      (result : Result (Option (List Value)) Stop) → c ≡ child_of bounds (get_or key k no_value)
      → ByChoice (choice_at cs c) old new result
      → ByChoice (By (OfKey k) bounds cs) old new result
  child_read k bounds cs c old new result is x =
      reads_by g form key span (λ r maps. IsHeldAt maps span r (choice_at cs c))
      (λ r maps. IsHeldAt maps span r (By (OfKey k) bounds cs)) (choice_leaves (choice_at cs c))
      (choices_leaves cs) old new result
      (λ r at held. held_child (g.working old) span r cs c
      (subst (λ n. IsHeldIn (g.working old) span r cs n)
      (ap (λ vs. child_of bounds (get_or vs k no_value)) at ∙ sym is) held))
      (λ none n h. none n (child_leaf cs c n h)) (asked_child (g.working old) span cs c) x

  -- by all children
  pub each_read : (chooser : Chooser) (bounds : List Value) (cs : Choices) (old new : S)
      (result : Result (Option (List Value)) Stop) → ByEach cs old new result
      → ByChoice (By chooser bounds cs) old new result
  each_read chooser bounds cs old new result x =
      reads_by g form key span (λ r maps. (c : ℕ) × IsHeldIn maps span r cs c)
      (λ r maps. IsHeldAt maps span r (By chooser bounds cs)) (choices_leaves cs)
      (choices_leaves cs) old new result
      (λ r at held. (child_of bounds (chooser_value chooser r), held))
      (λ none. none) (omega arith) x

  -- the first of them has the record
  pub found_some : (ch : Choice) (cs : Choices) (old new : S) (found : Option (List Value))
      → is_some found ≡ true → ByChoice ch old new (Ok found)
      → ByEach (choice ch cs) old new (Ok found)
  found_some ch cs old new None is x = absurd (true≢false (sym is))
  found_some ch cs old new (Some vs) is x = first_found g form key span ch cs old new vs x

  -- the first of them has none
  pub found_none : (ch : Choice) (cs : Choices) (old mid new : S) (found : Option (List Value))
      (result : Result (Option (List Value)) Stop) → is_some found ≡ false
      → ByChoice ch old mid (Ok found) → ByEach cs mid new result
      → ByEach (choice ch cs) old new result
  found_none ch cs old mid new None result is x y =
      others_found g form key span ch cs old mid new result x y
  found_none ch cs old mid new (Some vs) result is x y = absurd (true≢false is)
