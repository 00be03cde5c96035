-- The owner of a member: what it is, and in how many steps it is found.
use Rattle.std.proofs.Common.{◌≡◌, ℕ, ◌+◌, ◌*◌, ◌≤◌, ◌∙◌, List, length, Bool, true, Option, Some, None, refl, sym, ap, subst, arith}
use Rattle.std.specs.Prelude.{is_some, IsTrue}
use Rattle.std.specs.Option.{option_map}
use Rattle.std.specs.FinMap as fin
use Rattle.std.proofs.lemmas.Option.{same_Some}
use Rattle.gx_gather.proofs.Lists.{none_some}
use Rattle.gx_values.specs.declared.records.Rec.{Rec}
use Rattle.gx_values.specs.declared.values.Value.{Value}
use Rattle.gx_model.specs.States.{File}
use Rattle.gx_scan.specs.Files.{rec_of}
use Rattle.gx_scan.specs.Records.{record_at}
use Rattle.gx_links.specs.Links.{Link}
use Rattle.gx_links.specs.Linksets.{LinkRule, entries_if}
use Rattle.gx_pairs.specs.declared.owners.Owned.TheVariants as owned
use Rattle.gx_pairs.specs.Stored.{OwnersHaveAtMost}
use Rattle.gx_pairs.specs.Owners.{IsOwned, owner_look_ups}

-- ---- what it is

there_is : {A : Type 0} (o : Option A) (there : Bool) → there ≡ is_some o → there ≡ true
    → IsTrue (is_some o)
there_is o there is met = sym is ∙ met

module _ (owners members : File) (link : Link) (member : Value) (there : Bool)
    (there_as : there ≡ is_some (fin.get members member)) (met : there ≡ true)
    (found : Option Value) (found_as : found ≡ fin.get link member) where
  pub free_owner : found ≡ None → IsOwned owners members link member owned.Free
  free_owner none = (there_is (fin.get members member) there there_as met, sym found_as ∙ none)

  pub owned_by : (o : Value) (made : Option Rec) (r : Rec) → found ≡ Some o
      → made ≡ record_at owners o → made ≡ Some r
      → IsOwned owners members link member (owned.By r)
  owned_by o made r is made_as some = go (fin.get owners o) refl
    where
      go : (v : Option (List Value)) → fin.get owners o ≡ v
          → IsOwned owners members link member (owned.By r)
      go None e = absurd (none_some r
          (sym (made_as ∙ ap (option_map (λ values. rec_of (o, values))) e) ∙ some))
      go (Some values) e = (
        there_is (fin.get members member) there there_as met,
        o,
        values,
        sym found_as ∙ is,
        e,
        sym (same_Some (rec_of (o, values)) r
            (sym (made_as ∙ ap (option_map (λ values. rec_of (o, values))) e) ∙ some)),
      )

-- ---- steps

entries_few : (rule : LinkRule) (link : Link) (most : ℕ) (found : Option Value)
    → OwnersHaveAtMost most rule link → length (entries_if rule link found) ≤ most
entries_few rule link most None few = omega arith
entries_few rule link most (Some o) few = few o

-- a look-up of the member
pub one_look : (o : Option Value) (leaves most own before after : ℕ) → own ≤ leaves
    → after ≤ before + (own + most) → after ≤ before + owner_look_ups o * (most + leaves)
one_look None leaves most own before after few steps = omega (arith, few, steps)
one_look (Some owner) leaves most own before after few steps = omega (arith, few, steps)

-- and one in the link
pub two_looks : (o : Option Value) (rule : LinkRule) (link : Link) (found : Option Value)
    (leaves most own before middle after : ℕ) → OwnersHaveAtMost most rule link → own ≤ leaves
    → length rule.leaves ≤ leaves → middle ≤ before + (own + most)
    → after ≤ middle + (length rule.leaves + length (entries_if rule link found))
    → after ≤ before + owner_look_ups o * (most + leaves)
two_looks None rule link found leaves most own before middle after entries few small one two =
    omega (arith, entries_few rule link most found entries, few, small, one, two)
two_looks (Some owner) rule link found leaves most own before middle after entries few small one
    two = omega (arith, entries_few rule link most found entries, few, small, one, two)

-- and one of the owner
pub three_looks : (o : Option Value) (owner : Value) (rule : LinkRule) (link : Link)
    (found : Option Value) (leaves most own other before middle later after : ℕ) → o ≡ Some owner
    → OwnersHaveAtMost most rule link → own ≤ leaves → other ≤ leaves
    → length rule.leaves ≤ leaves → middle ≤ before + (own + most)
    → later ≤ middle + (length rule.leaves + length (entries_if rule link found))
    → after ≤ later + (other + most) → after ≤ before + owner_look_ups o * (most + leaves)
three_looks o owner rule link found leaves most own other before middle later after is entries few
    few_other small one two three =
    subst (λ (x : Option Value). after ≤ before + owner_look_ups x * (most + leaves)) (sym is)
    (omega (
      arith,
      entries_few rule link most found entries,
      few,
      few_other,
      small,
      one,
      two,
      three,
    ))
