use Rattle.std.proofs.Common.{rules, ◌≡◌, Ok, true, false, inl, inr, refl, sym, ap, subst}
use Rattle.std.specs.List.Sorted.{IsStrictlySortedBy}
use Rattle.gx_mapping.specs.Rule.{In, part_cmp}
use Rattle.gx_links.specs.Pairs.{two_parts}
use Rattle.gx_links.proofs.told.pairs_of_rows.Goals as goal

pub returns-then-not-are_few : goal.returns-then-not-are_few
returns-then-not-are_few c =
    let no : c.are_few.result ≡ false = search rules in
    inl (c.are_few.ensures.no no)

pub returns-else-branch : goal.returns-else-branch
returns-else-branch c =
    let found : c.add_parts-2.new.parts ≡ two_parts c.args.first c.args.second = search rules in
    let no : c.in_ok-are_rows.field-0 ≡ false = search rules in
    inr (λ order distinct same. c.in_ok-are_rows.ensures.no (ap Ok no)
    (subst (IsStrictlySortedBy part_cmp) (sym found) order) distinct
    (λ p. (λ h. (same p).0 (subst (In p) found h), λ h. subst (In p) (sym found) ((same p).1 h))))

pub returns-then-branch : goal.returns-then-branch
returns-then-branch c =
    let found : c.add_parts-2.new.parts ≡ two_parts c.args.first c.args.second = search rules in
    let few : c.are_few.result ≡ true = search rules in
    let yes : c.in_ok-are_rows.field-0 ≡ true = search rules in (
      refl,
      c.are_few.ensures.yes few,
      λ p.
          let both = c.in_ok-are_rows.ensures.yes (ap Ok yes) p in
          (λ h. both.0 (subst (In p) (sym found) h), λ h. subst (In p) found (both.1 h)),
    )
