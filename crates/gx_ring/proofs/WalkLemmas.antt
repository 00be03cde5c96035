-- The way along a chain.
use Rattle.std.proofs.Common.{◌≡◌, ◌≤◌, ◌+◌, ◌*◌, ℕ, suc, List, [], ◌∷◌, ◌++◌, length, Option, Some, None, inl, inr, refl, sym, ap, subst, ◌∙◌, append_assoc, length-append, arith}
use Rattle.std.proofs.Math.Nat.{suc-mul}
use Rattle.std.proofs.lemmas.List.Sums.{sum_by-cons}
use Rattle.std.proofs.lemmas.Option.{same_Some}
use Rattle.gx_values.specs.declared.values.Value.{Value}
use Rattle.gx_values.specs.declared.records.Rec.{Rec}
use Rattle.gx_values.specs.Values.{Fits}
use Rattle.gx_ports.specs.LeafMaps.{LeafMap}
use Rattle.gx_mapping.specs.Rule.{Rule, In}
use Rattle.gx_gather.proofs.Lists.{in_right, in_cases, none_some}
use Rattle.gx_stack.specs.Tree.{Tree, leaves_of, entries_of, entry_total}
use Rattle.gx_stack.specs.Internal.{IfThere, HasSet}
use Rattle.gx_links.specs.Links.{members_of, most_members}
use Rattle.gx_links.proofs.MemberLemmas.{from_members}
use Rattle.gx_ring.specs.declared.records.Behind.{Behind}
use Rattle.gx_ring.specs.declared.records.Behind.TheVariants as found
use Rattle.gx_links.specs.Rows.{member_kind}
use Rattle.gx_ring.specs.Ring.{first, chain_rec, chain, IsRing}
use Rattle.gx_ring.specs.RingLaws.{tells_key}
use Rattle.gx_ring.specs.Records.{behind_of, FitsBehind, IsBehind}
use Rattle.gx_ring.specs.Reads.{IsFoundAt, IsRecordAt}
use Rattle.gx_ring.specs.Walks.{HasMember, HasChain, IsNext, AreWalked}
use Rattle.gx_ring.proofs.ChainLemmas.{row_there}
use Rattle.gx_ring.proofs.ChangeLemmas.{chain_rows, chain_set, chain_in}

-- these members of an owner were passed, and this one is next
pub record IsSoFar {M : Type 0} (rule : M → Rule) (nexts : Tree M) (o : Value)
    (all passed : List Value) (at : Value) (steps_before steps : ℕ) : Type 0 where
  pub rest : List Value
  pub split : all ≡ passed ++ at ∷ rest
  pub few_steps : steps + entry_total rule nexts (chain o (at ∷ rest)) ≤ steps_before
      + (length passed * length (leaves_of nexts) + entry_total rule nexts (chain o all))

pub record AtStep {M : Type 0} (rule : M → Rule) (heads nexts : Tree M) (whole : Type 0)
    (maps : List LeafMap) (head : Value) (before : List Value) (steps_before i : ℕ) (at : Value)
    (now : List Value) (steps : ℕ) : Type 0 where
  pub passed : List Value
  pub appended : now ≡ before ++ passed
  pub fit : (m : Value) → In m passed → Fits (member_kind rule nexts) m
  pub at_fits : Fits (member_kind rule nexts) at
  pub count : length passed ≡ i
  pub so_far : whole → (has : HasChain rule heads nexts maps head)
      → IsSoFar rule nexts has.owner (head ∷ has.rest) passed at steps_before steps

module _ {M : Type 0} (rule : M → Rule) (heads nexts : Tree M) (valid : IsRing rule heads nexts)
  where
    -- ---- one step

    pub has_set : (maps : List LeafMap) (member : Value) → HasMember rule heads nexts maps member
        → HasSet rule nexts maps
    has_set maps member has = (
      chain_rows rule heads nexts valid has.link,
      chain_set rule heads nexts valid has.link has.is_link,
      has.held.1.0,
    )

    row_in : (maps : List LeafMap) (member : Value) (has : HasMember rule heads nexts maps member)
        → In (chain_rec has.owner member (first has.rest))
        (chain_rows rule heads nexts valid has.link)
    row_in maps member has =
        chain_in rule heads nexts valid has.link (chain_rec has.owner member (first has.rest)) (
          has.owner,
          subst (λ ms. In (chain_rec has.owner member (first has.rest))
              (chain has.owner ms)) (sym has.members)
              (row_there has.owner has.front member has.rest),
        )

    pub found_row : (maps : List LeafMap) (member : Value)
        (has : HasMember rule heads nexts maps member) (r : Rec)
        → IsFoundAt (chain_rows rule heads nexts valid has.link) member (Some r)
        → r ≡ chain_rec has.owner member (first has.rest)
    found_row maps member has r at =
        (chain_set rule heads nexts valid has.link has.is_link).one r
        (chain_rec has.owner member (first has.rest)) at.0 (row_in maps member has)
        (at.1 ∙ sym (tells_key has.owner member (first has.rest)))

    pub found_none : (maps : List LeafMap) (member : Value)
        (has : HasMember rule heads nexts maps member)
        → IsFoundAt (chain_rows rule heads nexts valid has.link) member None → ⊥
    found_none maps member has at =
        at (chain_rec has.owner member (first has.rest)) (row_in maps member has)
        (tells_key has.owner member (first has.rest))

    found_at : (whole : Type 0) (maps : List LeafMap) (member : Value) (before steps : ℕ)
        (r : Option Rec) → IsRecordAt rule nexts whole maps member before steps r → whole
        → (has : HasMember rule heads nexts maps member)
        → IsFoundAt (chain_rows rule heads nexts valid has.link) member r
    found_at whole maps member before steps r at w has =
        at.that w (chain_rows rule heads nexts valid has.link)
        (chain_set rule heads nexts valid has.link has.is_link) has.held.1.0

    rest_fits : (maps : List LeafMap) (member : Value)
        (has : HasMember rule heads nexts maps member)
        → IfThere (first has.rest) (Fits (member_kind rule nexts))
    rest_fits maps member has = go has.rest has.members
      where
        go : (ys : List Value) → members_of has.link has.owner ≡ has.front ++ member ∷ ys
            → IfThere (first ys) (Fits (member_kind rule nexts))
        go [] is = tt
        go (y ∷ ys) is = (has.is_link.fit y has.owner
            (from_members has.link has.owner y
            (subst (In y) (sym is) (in_right y has.front (member ∷ y ∷ ys) (inr (inl refl)))))).0

    abbrev next_in : Behind → Option Value
    next_in found.Nothing = None
    next_in (found.Member next) = Some next
    next_in found.Unknown = None

    next_is : (n : Option Value) → next_in (behind_of n) ≡ n
    next_is None = refl
    next_is (Some n) = refl

    pub missing : (whole : Type 0) (maps : List LeafMap) (member : Value) (before steps : ℕ)
        → IsRecordAt rule nexts whole maps member before steps None → whole
        → HasMember rule heads nexts maps member → ⊥
    missing whole maps member before steps at w has =
        found_none maps member has (found_at whole maps member before steps None at w has)

    pub unknown : (whole : Type 0) (maps : List LeafMap) (member : Value) (before steps : ℕ)
        (r : Rec)
        → IsRecordAt rule nexts whole maps member before steps (Some r)
        → IsBehind (member_kind rule nexts) r found.Unknown → whole
        → HasMember rule heads nexts maps member → ⊥
    unknown whole maps member before steps r at behind w has =
        let row = found_row maps member has r
        (found_at whole maps member before steps (Some r) at w has) in
        go (first has.rest) (behind.told has.owner member (first has.rest)
        (rest_fits maps member has)
        row)
      where
        go : (n : Option Value) → found.Unknown ≡ behind_of n → ⊥
        go None e = cc
        go (Some n) e = cc

    pub next_found : (whole : Type 0) (maps : List LeafMap) (member : Value) (before steps : ℕ)
        (r : Rec) (next : Option Value)
        → IsRecordAt rule nexts whole maps member before steps (Some r)
        → IsBehind (member_kind rule nexts) r (behind_of next)
        → IsNext rule heads nexts whole maps member before steps next
    next_found whole maps member before steps r next at behind = record {
      fit = fits next behind.fits;
      that = λ w has.
          let row = found_row maps member has r
          (found_at whole maps member before steps (Some r) at w has) in
          sym (next_is next) ∙ ap next_in
          (behind.told has.owner member (first has.rest) (rest_fits maps member has) row)
          ∙ next_is (first has.rest);
      few_steps = λ w has.
          let row = found_row maps member has r
          (found_at whole maps member before steps (Some r) at w has) in
          subst (λ q. steps ≤ before
          + (length (leaves_of nexts) + length (entries_of rule nexts q)))
          row (at.few_steps w (has_set maps member has));
    }
      where
        fits : (n : Option Value) → FitsBehind (member_kind rule nexts) (behind_of n)
            → IfThere n (Fits (member_kind rule nexts))
        fits None h = tt
        fits (Some n) h = h

    -- what was found in leaves that are as they were
    pub next_again : (whole other : Type 0) (maps changed : List LeafMap) (member : Value)
        (before steps : ℕ) (next : Option Value) → (whole → other) → changed ≡ maps
        → IsNext rule heads nexts other changed member before steps next
        → IsNext rule heads nexts whole maps member before steps next
    next_again whole other maps changed member before steps next to same is =
        weaker (subst (λ ms. IsNext rule heads nexts other ms member before steps next) same is)
      where
        weaker : IsNext rule heads nexts other maps member before steps next
            → IsNext rule heads nexts whole maps member before steps next
        weaker at = record {
          fit = at.fit;
          that = λ w. at.that (to w);
          few_steps = λ w. at.few_steps (to w);
        }

    -- ---- all steps

    none_behind : (xs : List Value) → xs ≡ xs ++ []
    none_behind [] = refl
    none_behind (x ∷ xs) = λ i. x ∷ none_behind xs i

    pub first_step : (whole : Type 0) (maps : List LeafMap) (head : Value) (before : List Value)
        (steps : ℕ) → Fits (member_kind rule nexts) head
        → AtStep rule heads nexts whole maps head before steps 0 head before steps
    first_step whole maps head before steps fits = record {
      passed = [];
      appended = none_behind before;
      fit = λ m h. absurd h;
      at_fits = fits;
      count = refl;
      so_far = λ w has. record { rest = has.rest; split = refl; few_steps = omega arith };
    }

    abbrev has_member : (maps : List LeafMap) (head : Value)
        (has : HasChain rule heads nexts maps head) (passed : List Value) (at : Value)
        (rest : List Value) → head ∷ has.rest ≡ passed ++ at ∷ rest
        → HasMember rule heads nexts maps at
    has_member maps head has passed at rest split =
        record {
          link = has.link;
          is_link = has.is_link;
          held = has.held;
          owner = has.owner;
          front = passed;
          rest = rest;
          members = has.members ∙ split;
        }

    pub member_at : (whole : Type 0) (maps : List LeafMap) (head : Value) (before : List Value)
        (steps_before i : ℕ) (at : Value) (now : List Value) (steps : ℕ)
        → AtStep rule heads nexts whole maps head before steps_before i at now steps → whole
        → HasChain rule heads nexts maps head → HasMember rule heads nexts maps at
    member_at whole maps head before steps_before i at now steps step w has =
        (let s = step.so_far w has in has_member maps head has step.passed at s.rest s.split)

    more_fit : (passed : List Value) (at m : Value)
        → ((x : Value) → In x passed → Fits (member_kind rule nexts) x)
        → Fits (member_kind rule nexts) at → In m (passed ++ at ∷ [])
        → Fits (member_kind rule nexts) m
    more_fit passed at m fit at_fits h = elim (in_cases m passed (at ∷ []) h) [
      | inl k ↦ fit m k
      | inr k ↦ elim k [
        | inl e ↦ subst (Fits (member_kind rule nexts)) (sym e) at_fits
        | inr f ↦ absurd f
      ]
    ]

    module _ (whole : Type 0) (maps : List LeafMap) (head : Value) (before : List Value)
        (steps_before i : ℕ) (at : Value) (now after : List Value) (steps steps_after : ℕ)
        (step : AtStep rule heads nexts whole maps head before steps_before i at now steps)
        (pushed : after ≡ now ++ at ∷ []) where
      pub next_step : (next : Value)
          → IsNext rule heads nexts whole maps at steps steps_after (Some next)
          → AtStep rule heads nexts whole maps head before steps_before
          (i + 1) next after steps_after
      next_step next is = record {
        passed = step.passed ++ at ∷ [];
        appended = pushed ∙ ap (λ xs. xs ++ at ∷ []) step.appended
            ∙ append_assoc before step.passed (at ∷ []);
        fit = λ m h. more_fit step.passed at m step.fit step.at_fits h;
        at_fits = is.fit;
        count = omega (arith, length-append step.passed (at ∷ []), step.count);
        so_far = λ w has. (let s = step.so_far w has in
            go has.owner (head ∷ has.rest) s.rest s.split s.few_steps
            (is.that w (has_member maps head has step.passed at s.rest s.split))
            (is.few_steps w (has_member maps head has step.passed at s.rest s.split)));
      }
        where
          go : (o : Value) (all rest : List Value) → all ≡ step.passed ++ at ∷ rest
              → steps + entry_total rule nexts (chain o (at ∷ rest)) ≤ steps_before
              + (length step.passed * length (leaves_of nexts) + entry_total rule nexts
              (chain o all)) → Some next ≡ first rest
              → steps_after ≤ steps + (length (leaves_of nexts) + length
              (entries_of rule nexts (chain_rec o at (first rest))))
              → IsSoFar rule nexts o all (step.passed ++ at ∷ []) next
              steps_before steps_after
          go o all [] split few e more = absurd (none_some next (sym e))
          go o all (y ∷ rest) split few e more = record {
            rest = rest;
            split = split ∙ sym (append_assoc step.passed (at ∷ []) (y ∷ rest))
                ∙ ap (λ z. (step.passed ++ at ∷ []) ++ z ∷ rest) (sym (same_Some next y e));
            few_steps =
                let same : entry_total rule nexts (chain o (next ∷ rest)) ≡ entry_total rule nexts
                (chain o (y ∷ rest)) = ap (λ z. entry_total rule nexts (chain o (z ∷ rest)))
                (same_Some next y e) in
                let longer : length (step.passed ++ at ∷ []) * length (leaves_of nexts)
                ≡ length step.passed * length (leaves_of nexts) + length (leaves_of nexts) =
                ap (λ n. n * length (leaves_of nexts))
                (let e : length (step.passed ++ at ∷ []) ≡ suc (length step.passed) =
                omega (arith, length-append step.passed (at ∷ [])) in e)
                ∙ suc-mul (length step.passed) (length (leaves_of nexts)) in
                let this : entry_total rule nexts (chain o (at ∷ y ∷ rest)) ≡ length
                (entries_of rule nexts (chain_rec o at (first (y ∷ rest))))
                + entry_total rule nexts (chain o (y ∷ rest)) =
                sum_by-cons (λ r. length (entries_of rule nexts r))
                (chain_rec o at (first (y ∷ rest))) (chain o (y ∷ rest)) in
                omega (arith, few, more, same, longer, this);
          }

      pub last_step : IsNext rule heads nexts whole maps at steps steps_after None
          → AreWalked rule heads nexts whole maps head steps_before steps_after before after
      last_step is = record {
        found = step.passed ++ at ∷ [];
        appended = pushed ∙ ap (λ xs. xs ++ at ∷ []) step.appended
            ∙ append_assoc before step.passed (at ∷ []);
        fit = λ m h. more_fit step.passed at m step.fit step.at_fits h;
        those = λ w has. (let s = step.so_far w has in
            those (head ∷ has.rest) s.rest s.split
            (is.that w (has_member maps head has step.passed at s.rest s.split)));
        few_steps = λ w has. (let s = step.so_far w has in
            few has.owner (head ∷ has.rest) s.rest s.few_steps
            (is.few_steps w (has_member maps head has step.passed at s.rest s.split)));
      }
        where
          those : (all rest : List Value) → all ≡ step.passed ++ at ∷ rest → None ≡ first rest
              → step.passed ++ at ∷ [] ≡ all
          those all [] split e = sym split
          those all (y ∷ rest) split e = absurd (none_some y e)

          few : (o : Value) (all rest : List Value)
              → steps + entry_total rule nexts (chain o (at ∷ rest)) ≤ steps_before
              + (length step.passed * length (leaves_of nexts) + entry_total rule nexts
              (chain o all)) → steps_after ≤ steps
              + (length (leaves_of nexts) + length
              (entries_of rule nexts (chain_rec o at (first rest))))
              → steps_after ≤ steps_before
              + (length (step.passed ++ at ∷ []) * length (leaves_of nexts)
              + entry_total rule nexts (chain o all))
          few o all rest so more =
              let this : entry_total rule nexts (chain o (at ∷ rest)) ≡ length
              (entries_of rule nexts (chain_rec o at (first rest))) + entry_total rule nexts
              (chain o rest) = sum_by-cons (λ r. length (entries_of rule nexts r))
              (chain_rec o at (first rest)) (chain o rest) in
              let longer : length (step.passed ++ at ∷ []) * length (leaves_of nexts)
              ≡ length step.passed * length (leaves_of nexts) + length (leaves_of nexts) =
              ap (λ n. n * length (leaves_of nexts))
              (let e : length (step.passed ++ at ∷ []) ≡ suc (length step.passed) =
              omega (arith, length-append step.passed (at ∷ [])) in e)
              ∙ suc-mul (length step.passed) (length (leaves_of nexts)) in
              omega (arith, so, more, longer, this)

    -- no owner has so many members
    pub no_step : (whole : Type 0) (maps : List LeafMap) (head : Value) (before : List Value)
        (steps_before i : ℕ) (at : Value) (now : List Value) (steps : ℕ)
        → AtStep rule heads nexts whole maps head before steps_before i at now steps
        → most_members ≤ i → whole → HasChain rule heads nexts maps head → ⊥
    no_step whole maps head before steps_before i at now steps step past w has =
        let s = step.so_far w has in
        omega (
          arith,
          step.count,
          past,
          ap length (has.members ∙ s.split),
          length-append step.passed (at ∷ s.rest),
          has.is_link.few has.owner,
        )
