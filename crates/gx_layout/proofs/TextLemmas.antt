-- The text blocks, byte by byte.
use Rattle.std.proofs.Common.{◌≡◌, ◌≢◌, inl, inr, ℕ, ◌+◌, ◌-◌, ◌*◌, ◌/◌, ◌%◌, ◌<◌, ◌≤◌, List, [], length, get_or, drop, Some, refl, sym, ◌∙◌, ap, subst, arith}
use Rattle.std.proofs.lemmas.Bool.{cases_eq, cases_lt}
use Rattle.std.proofs.lemmas.List.{get_or-take, get_or-drop}
use Rattle.gx_device.specs.Content.{Moment, Content, OnlyTime, block_of}
use Rattle.gx_layout.specs.Layout.{first_text, head_of}
use Rattle.gx_layout.specs.Head.{DifferFirst, text_at, block_in}
use Rattle.gx_layout.specs.Calm.{OnlyReads}
use Rattle.gx_layout.proofs.CalmLemmas.{calm_read}

pub one_read : (a b : Content) → OnlyTime a b → OnlyReads a b
one_read a b r = record {
  now = r.now;
  script = r.script;
  aside = r.aside;
  calm = λ start v calm. calm_read start v a b r calm;
}

pub reads_twice : (a b c : Content) → OnlyReads a b → OnlyReads b c → OnlyReads a c
reads_twice a b c first then = record {
  now = then.now ∙ first.now;
  script = then.script ∙ first.script;
  aside = then.aside ∙ first.aside;
  calm = λ start v calm. then.calm start v (first.calm start v calm);
}

head_text : (blocks : List (List ℕ)) (k : ℕ) → k < 4
    → get_or (head_of blocks) (1 + k) [] ≡ get_or blocks (first_text (length blocks) + k) []
head_text blocks k below = elim (cases_eq k 0) [
  | inl e ↦ at 0 (ap (λ (n : ℕ). get_or blocks n []) (omega arith)) e
  | inr n0 ↦ elim (cases_eq k 1) [
    | inl e ↦ at 1 refl e
    | inr n1 ↦ elim (cases_eq k 2) [
      | inl e ↦ at 2 refl e
      | inr n2 ↦ at 3 refl (omega (arith, below, n0, n1, n2))
    ]
  ]
]
  where
    at : (j : ℕ)
        → get_or (head_of blocks) (1 + j) [] ≡ get_or blocks (first_text (length blocks) + j) []
        → k ≡ j
        → get_or (head_of blocks) (1 + k) [] ≡ get_or blocks (first_text (length blocks) + k) []
    at j is e = ap (λ (n : ℕ). get_or (head_of blocks) (1 + n) []) e ∙ is
        ∙ ap (λ (n : ℕ). get_or blocks (first_text (length blocks) + n) []) (sym e)

-- text block i was read, and stands beside block i of an area
module _ (m : Moment) (area : List ℕ) (i : ℕ) (below : i < 4) (block part : List ℕ)
    (block_is : block ≡ block_of m (first_text (length m.blocks) + i))
    (part_is : part ≡ block_in area i) where
  byte : (k : ℕ) → k < 4096 → text_at (head_of m.blocks) (4096 * i + k) ≡ get_or block k 0
  byte k lt =
      let d : (4096 * i + k) / 4096 ≡ i = omega (arith, lt) in
      let r : (4096 * i + k) % 4096 ≡ k = omega (arith, lt) in
      ap (λ (n : ℕ). get_or (get_or (head_of m.blocks) (1 + n) []) ((4096 * i + k) % 4096) 0) d
      ∙ ap (λ (n : ℕ). get_or (get_or (head_of m.blocks) (1 + i) []) n 0) r
      ∙ ap (λ (l : List ℕ). get_or l k 0) (head_text m.blocks i below ∙ sym block_is)

  other : (k : ℕ) → k < 4096 → get_or area (4096 * i + k) 0 ≡ get_or part k 0
  other k lt =
      sym (ap (λ (l : List ℕ). get_or l k 0) part_is
      ∙ get_or-take 4096 (drop (4096 * i) area) k 0 lt ∙ get_or-drop (4096 * i) area k 0)

  module _ (so_far : (q : ℕ) → q < 4096 * i → text_at (head_of m.blocks) q ≡ get_or area q 0) where
    upto : (at : ℕ) → at ≤ 4096 → ((k : ℕ) → k < at → get_or block k 0 ≡ get_or part k 0) → (q : ℕ)
        → q < 4096 * i + at
        → text_at (head_of m.blocks) q ≡ get_or area q 0
    upto at within same q lt = elim (cases_lt q (4096 * i)) [
      | inl low ↦ so_far q low
      | inr past ↦ (
          let k = q - 4096 * i in
          let here : 4096 * i + k ≡ q = omega (arith, past) in
          let k_at : k < at = omega (arith, past, lt) in
          let k_in : k < 4096 = omega (arith, k_at, within) in
          subst (λ (n : ℕ). text_at (head_of m.blocks) n ≡ get_or area n 0) here (byte k k_in
          ∙ same k k_at ∙ sym (other k k_in)))
    ]

    pub more_same : ((k : ℕ) → k < 4096 → get_or block k 0 ≡ get_or part k 0) → (q : ℕ)
        → q < 4096 * (i + 1)
        → text_at (head_of m.blocks) q ≡ get_or area q 0
    more_same same q lt = upto 4096 (omega arith) same q (omega (arith, lt))

    pub differ_here : (at : ℕ) → at < 4096 → get_or block at 0 ≢ get_or part at 0
        → ((k : ℕ) → k < at → get_or block k 0 ≡ get_or part k 0)
        → DifferFirst (text_at (head_of m.blocks)) (λ q. get_or area q 0) (Some (4096 * i + at))
    differ_here at lt off same = (
      omega (arith, lt, below),
      (λ e. off (sym (byte at lt) ∙ e ∙ other at lt)),
      upto at (omega (arith, lt)) same,
    )
