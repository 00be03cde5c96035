-- The list of the spilled pages.
use Rattle.std.proofs.Common.{◌≡◌, inl, inr, ℕ, ◌+◌, ◌<◌, Bool, true, false, List, [], ◌∷◌, ◌++◌, length, get_or, set, sym, ◌∙◌, ap, arith, cond, length-append, length-set}
use Rattle.std.specs.List.{count_by}
use Rattle.std.proofs.Math.ListN.{get_or-append}
use Rattle.std.proofs.Math.Seq.{get_or-append_seam}
use Rattle.std.proofs.lemmas.List.{get_or-set_same, get_or-set_other}
use Rattle.std.proofs.lemmas.List.Sums.{sum_by-set, count_by-le-length}
use Rattle.std.proofs.lemmas.Bool.Decides.{eqb_tells}
use Rattle.gx_journal.specs.Sources.{IsListed}

pub counted : (spilled : List Bool) (p : ℕ) → p < length spilled → get_or spilled p false ≡ false
    → count_by (λ b. b) (set spilled p true) ≡ count_by (λ b. b) spilled + 1
counted spilled p below off =
    let e = sum_by-set (λ b. cond b 1 0) spilled p true false below in
    let z : cond (get_or spilled p false) 1 0 ≡ 0 = ap (λ (b : Bool). cond {A = ℕ} b 1 0) off in
    omega (arith, e, z)

pub listed_more : (spilled : List Bool) (listed : List ℕ) (p : ℕ) → p < length spilled
    → get_or spilled p false ≡ false
    → IsListed spilled listed → IsListed (set spilled p true) (listed ++ p ∷ [])
listed_more spilled listed p below off h =
    let long = length-append listed (p ∷ []) in
    let same = length-set spilled p true in
    record {
      within = λ i lt. elim (eqb_tells i (length listed)) [
        | inl at ↦ omega (
          arith,
          below,
          same,
          ap (λ (k : ℕ). get_or (listed ++ p ∷ []) k 0) at.1,
          get_or-append_seam listed p [] 0,
        )
        | inr other ↦ (let ne = other.1 in let less : i < length listed =
            omega (arith, long, lt, ne) in
            omega (arith, same, h.within i less, get_or-append listed (p ∷ []) 0 i less))
      ];
      every = λ q is none. elim (eqb_tells q p) [
        | inl at ↦ none (length listed) (omega arith) (omega (arith, long))
            (get_or-append_seam listed p [] 0 ∙ sym at.1)
        | inr other ↦ h.every q (sym (get_or-set_other spilled p q true false other.1) ∙ is)
            (λ k low lt e. none k low (omega (arith, long, lt))
            (get_or-append listed (p ∷ []) 0 k lt ∙ e))
      ];
      flagged = λ i lt. elim (eqb_tells i (length listed)) [
        | inl at ↦ ap (λ (k : ℕ). get_or (set spilled p true) k false)
            (ap (λ (k : ℕ). get_or (listed ++ p ∷ []) k 0) at.1 ∙ get_or-append_seam listed p [] 0)
            ∙ get_or-set_same spilled p true false below
        | inr other ↦ (let ne = other.1 in
            let less : i < length listed = omega (arith, long, lt, ne) in
            ap (λ (k : ℕ). get_or (set spilled p true) k false)
            (get_or-append listed (p ∷ []) 0 i less)
            ∙ (elim (eqb_tells (get_or listed i 0) p) [
              | inl same ↦ ap (λ (k : ℕ). get_or (set spilled p true) k false) same.1
                  ∙ get_or-set_same spilled p true false below
              | inr off ↦ get_or-set_other spilled p (get_or listed i 0) true false off.1
                  ∙ h.flagged i less
            ]))
      ];
      count = long ∙ ap (λ (k : ℕ). k + 1) h.count ∙ sym (counted spilled p below off);
    }

-- a list of pages that aren't all spilled has room for one more
pub listed_fewer : (spilled : List Bool) (listed : List ℕ) (p : ℕ) → p < length spilled
    → get_or spilled p false ≡ false
    → IsListed spilled listed → length listed < length spilled
listed_fewer spilled listed p below off h =
    omega (
      arith,
      h.count,
      counted spilled p below off,
      count_by-le-length (λ b. b) (set spilled p true),
      length-set spilled p true,
    )
