-- Which children carry a field and are indexed by it, by their numbers.
use Rattle.std.proofs.Common.{◌≡◌, ◌<◌, ◌+◌, ℕ, zero, suc, Bool, true, false, List, [], ◌∷◌, inl, inr, refl, sym, ap, ◌∙◌, length, get_or, map, arith}
use Rattle.std.specs.Prelude.{◌&&◌, ◌||◌, not}
use Rattle.gx_laws.proofs.ListLemmas.{get_or_any}
use Rattle.gx_laws.proofs.NumberLemmas.{nat_cases}
use Rattle.gx_stack.specs.declared.node.Node.{Node}
use Rattle.gx_mapping.specs.Rule.{Rule}
use Rattle.gx_stack.specs.Seen.{tree_of, kids_from}
use Rattle.gx_stack.specs.Indexed.{is_carried, is_indexed, are_indexed}
use Rattle.std.proofs.lemmas.Bool.{true≢false}

module _ {M : Type 0} (rule : M → Rule) (name : List ℕ) where
  -- ---- some child carries it

  pub carried_some : (ns : List (Node M)) (carries : ℕ → Bool) (c : ℕ) → c < length ns
      → carries c ≡ true → is_carried (kids_from (map tree_of ns)) carries ≡ true
  carried_some [] carries c lt e = absurd (omega arith)
  carried_some (n ∷ ns) carries zero lt e =
      ap (λ (b : Bool). b || is_carried (kids_from (map tree_of ns)) (λ d. carries (suc d))) e
  carried_some (n ∷ ns) carries (suc c) lt e =
      ap (λ (b : Bool). carries 0 || b) (carried_some ns (λ d. carries (suc d)) c (omega arith) e)
      ∙ either (carries 0)
    where
      either : (b : Bool) → b || true ≡ true
      either true = refl
      either false = refl

  pub carried_none : (ns : List (Node M)) (carries : ℕ → Bool)
      → ((c : ℕ) → c < length ns → carries c ≡ false)
      → is_carried (kids_from (map tree_of ns)) carries ≡ false
  carried_none [] carries none = refl
  carried_none (n ∷ ns) carries none =
      (λ i. none 0 (omega arith) i || carried_none ns (λ d. carries (suc d))
      (λ c lt. none (suc c) (omega arith)) i)

  pub carried_at : (ns : List (Node M)) (carries : ℕ → Bool)
      → is_carried (kids_from (map tree_of ns)) carries ≡ true
      → (c : ℕ) × (c < length ns) × (carries c ≡ true)
  carried_at [] carries e = absurd (true≢false (sym e))
  carried_at (n ∷ ns) carries e =
      by_first (carries 0) refl e (λ h. carried_at ns (λ d. carries (suc d)) h)
    where
      by_first : (b : Bool) → carries 0 ≡ b
          → b || is_carried (kids_from (map tree_of ns)) (λ d. carries (suc d)) ≡ true
          → (is_carried (kids_from (map tree_of ns)) (λ d. carries (suc d)) ≡ true
          → (c : ℕ) × (c < length ns) × (carries (suc c) ≡ true))
          → (c : ℕ) × (c < suc (length ns)) × (carries c ≡ true)
      by_first true first e more = (0, omega arith, first)
      by_first false first e more =
          (let rest = more e in (suc rest.0, (let lt = rest.1 in omega arith), rest.2))

  -- ---- each that does is indexed

  pub indexed_each : (ns : List (Node M)) (carries : ℕ → Bool)
      → ((c : ℕ) (k : Node M) → c < length ns → k ≡ get_or ns c k → carries c ≡ true
      → is_indexed rule (tree_of k) name ≡ true)
      → are_indexed rule (kids_from (map tree_of ns)) carries name ≡ true
  indexed_each [] carries each = refl
  indexed_each (n ∷ ns) carries each =
      (λ i. first (carries 0) refl i && indexed_each ns (λ d. carries (suc d))
      (λ c k lt read e. each (suc c) k (omega arith) read e) i)
    where
      first : (b : Bool) → carries 0 ≡ b
          → not (carries 0) || is_indexed rule (tree_of n) name ≡ true
      first true e = ap (λ (x : Bool). not x || is_indexed rule (tree_of n) name) e
          ∙ each 0 n (omega arith) refl e
      first false e = ap (λ (x : Bool). not x || is_indexed rule (tree_of n) name) e

  pub indexed_not : (ns : List (Node M)) (carries : ℕ → Bool) (c : ℕ) (k : Node M) → c < length ns
      → k ≡ get_or ns c k → carries c ≡ true → is_indexed rule (tree_of k) name ≡ false
      → are_indexed rule (kids_from (map tree_of ns)) carries name ≡ false
  indexed_not [] carries c k lt read e none = absurd (omega arith)
  indexed_not (n ∷ ns) carries zero k lt read e none =
      (λ i. (not (e i) || is_indexed rule (tree_of (sym read i)) name) && are_indexed rule
      (kids_from (map tree_of ns)) (λ d. carries (suc d)) name)
      ∙ ap (λ (x : Bool). x && are_indexed rule (kids_from (map tree_of ns))
      (λ d. carries (suc d)) name) none
  indexed_not (n ∷ ns) carries (suc c) k lt read e none =
      ap (λ (x : Bool). (not (carries 0) || is_indexed rule (tree_of n) name) && x)
      (indexed_not ns (λ d. carries (suc d)) c k (omega arith) read e none)
      ∙ both (not (carries 0) || is_indexed rule (tree_of n) name)
    where
      both : (b : Bool) → b && false ≡ false
      both true = refl
      both false = refl

  pub indexed_at : (ns : List (Node M)) (carries : ℕ → Bool) (c : ℕ) (k : Node M)
      → are_indexed rule (kids_from (map tree_of ns)) carries name ≡ true → c < length ns
      → k ≡ get_or ns c k → carries c ≡ true → is_indexed rule (tree_of k) name ≡ true
  indexed_at [] carries c k all lt read e = absurd (omega arith)
  indexed_at (n ∷ ns) carries zero k all lt read e =
      let both = split (not (carries 0) || is_indexed rule (tree_of n) name)
      (are_indexed rule (kids_from (map tree_of ns)) (λ d. carries (suc d)) name) all in
      ap (λ x. is_indexed rule (tree_of x) name) read
      ∙ ap (λ (x : Bool). not x || is_indexed rule (tree_of n) name) (sym e) ∙ both.0
    where
      split : (a b : Bool) → a && b ≡ true → (a ≡ true) × (b ≡ true)
      split true b e = (refl, e)
      split false b e = absurd (true≢false (sym e))
  indexed_at (n ∷ ns) carries (suc c) k all lt read e =
      let both = split (not (carries 0) || is_indexed rule (tree_of n) name)
      (are_indexed rule (kids_from (map tree_of ns)) (λ d. carries (suc d)) name) all in
      indexed_at ns (λ d. carries (suc d)) c k both.1 (omega arith) read e
    where
      split : (a b : Bool) → a && b ≡ true → (a ≡ true) × (b ≡ true)
      split true b e = (refl, e)
      split false b e = absurd (true≢false (sym e))

  -- ---- the loop over the children

  -- what is known of the children below c, of which some carry the field or none
  pub record AreIndexedBelow (ns : List (Node M)) (carries : ℕ
      → Bool) (c : ℕ) (carried : Bool) : Type 0 where
    pub some : carried ≡ true → (d : ℕ) × (d < c) × (carries d ≡ true)
    pub none : carried ≡ false → (d : ℕ) → d < c → carries d ≡ false
    pub each : (d : ℕ) (k : Node M) → d < c → k ≡ get_or ns d k → carries d ≡ true
        → is_indexed rule (tree_of k) name ≡ true

  pub below_none : (ns : List (Node M)) (carries : ℕ → Bool) → AreIndexedBelow ns carries 0 false
  below_none ns carries =
      record {
        some = λ e. absurd (true≢false (sym e));
        none = λ e d lt. absurd (omega arith);
        each = λ d k lt read e. absurd (omega arith);
      }

  -- a child that carries it and is indexed by it
  pub below_carried : (ns : List (Node M)) (carries : ℕ → Bool) (c : ℕ) (carried : Bool)
      (k : Node M) → c < length ns → k ≡ get_or ns c k → carries c ≡ true
      → is_indexed rule (tree_of k) name ≡ true → AreIndexedBelow ns carries c carried
      → AreIndexedBelow ns carries (c + 1) true
  below_carried ns carries c carried k there read e indexed are = record {
    some = λ is. (c, omega arith, e);
    none = λ is. absurd (true≢false is);
    each = λ d k' lt read' e'. elim (nat_cases d c) [
      | inl same ↦ (
          let one : k' ≡ k = read' ∙ ap (λ n. get_or ns n k') same ∙ get_or_any ns c k' k there
          ∙ sym read in
          ap (λ x. is_indexed rule (tree_of x) name) one ∙ indexed)
      | inr other ↦ are.each d k' (omega arith) read' e'
    ];
  }

  -- and one that doesn't carry it
  pub below_other : (ns : List (Node M)) (carries : ℕ → Bool) (c : ℕ) (carried : Bool)
      → carries c ≡ false → AreIndexedBelow ns carries c carried
      → AreIndexedBelow ns carries (c + 1) carried
  below_other ns carries c carried e are = record {
    some = λ is. let d = are.some is in (d.0, (let lt = d.1 in omega arith), d.2);
    none = λ is d lt. elim (nat_cases d c) [
      | inl same ↦ ap carries same ∙ e
      | inr other ↦ are.none is d (omega arith)
    ];
    each = λ d k lt read e'. elim (nat_cases d c) [
      | inl same ↦ absurd (true≢false (sym e' ∙ ap carries same ∙ e))
      | inr other ↦ are.each d k (omega arith) read e'
    ];
  }

  pub all_indexed : (ns : List (Node M)) (carries : ℕ → Bool) (c : ℕ) (carried : Bool)
      → c ≡ length ns → AreIndexedBelow ns carries c carried
      → carried ≡ (is_carried (kids_from (map tree_of ns)) carries && are_indexed rule
      (kids_from (map tree_of ns)) carries name)
  all_indexed ns carries c true end are =
      let d = are.some refl in
      let lt : d.0 < length ns = (let h = d.1 in omega arith) in
      λ i. sym (carried_some ns carries d.0 lt d.2) i
      && sym (indexed_each ns carries (λ e k lt read. are.each e k (omega arith) read)) i
  all_indexed ns carries c false end are =
      ap (λ (b : Bool). b && are_indexed rule (kids_from (map tree_of ns)) carries name)
      (sym (carried_none ns carries (λ d lt. are.none refl d (omega arith))))
