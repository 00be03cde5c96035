-- Changes are forgotten.
use Rattle.std.proofs.Common.{◌≡◌, inl, inr, ℕ, ◌<◌, ◌≤◌, Bool, true, false, List, [], ◌∷◌, length, get_or, Option, Some, None, refl, sym, ◌∙◌, ap, subst, arith, cond, replicate}
use Rattle.std.specs.Prelude.{not, map}
use Rattle.std.proofs.lemmas.Bool.{true≢false, cases_Bool}
use Rattle.std.proofs.lemmas.Bool.Decides.{eqb_tells}
use Rattle.std.proofs.lemmas.Option.{same_Some}
use Rattle.std.proofs.lemmas.List.Sums.{sum_by-le}
use Rattle.gx_laws.proofs.ListLemmas.{no_flag}
use Rattle.gx_frames.specs.Order.{IsUnique, IsAbsent}
use Rattle.gx_frames.specs.Pool.{Resident, find_page, unchanged}
use Rattle.gx_frames.proofs.PoolLemmas.{find_here}
use Rattle.gx_layout.specs.Layout.{slot, home}
use Rattle.gx_journal.specs.Sources.{stored, page_of, IsCached, IsAmong, IsListed}
use Rattle.gx_journal.proofs.SourceLemmas.{find_past, page_resident, page_absent}

absent_none : (q : ℕ) (rs : List Resident) → IsAbsent q (map (λ (r : Resident). r.page) rs)
    → find_page q rs ≡ None
absent_none q [] a = refl
absent_none q (r ∷ rs) a = find_past q r rs (λ e. a.0 (sym e)) ∙ absent_none q rs a.1

pub find_unchanged : (q : ℕ) (rs : List Resident) (r : Resident)
    → IsUnique (map (λ (x : Resident). x.page) rs)
    → find_page q (unchanged rs) ≡ Some r → (find_page q rs ≡ Some r) × (r.changed ≡ false)
find_unchanged q [] r u is = absurd (let e : ◌≡◌ {A = Option Resident} None (Some r) = is in cc)
find_unchanged q (x ∷ rs) r u is = elim (cases_Bool x.changed) [
  | inl on ↦ (let rest = find_unchanged q rs r u.1
      (ap (λ (b : Bool). find_page q (cond (not b) (x ∷ unchanged rs) (unchanged rs))) (sym on)
      ∙ is) in (
        find_past q x rs (λ e. (let n : ◌≡◌ {A = Option Resident} None (Some r) =
            sym (absent_none q rs (subst (λ (k : ℕ). IsAbsent k (map (λ (y : Resident). y.page) rs))
            e u.0)) ∙ rest.0 in absurd cc))
            ∙ rest.0,
        rest.1,
      ))
  | inr plain ↦ (let here : find_page q (x ∷ unchanged rs) ≡ Some r =
      ap (λ (b : Bool). find_page q (cond (not b) (x ∷ unchanged rs) (unchanged rs))) (sym plain)
      ∙ is in
      elim (eqb_tells x.page q) [
        | inl at ↦ (let same = same_Some x r (sym (find_here q x (unchanged rs) at.1) ∙ here) in (
          find_here q x rs at.1 ∙ ap Some same,
          ap (λ (y : Resident). y.changed)
              (sym same) ∙ plain,
        ))
        | inr off ↦ (let rest =
            find_unchanged q rs r u.1 (sym (find_past q x (unchanged rs) off.1) ∙ here) in
            (find_past q x rs off.1 ∙ rest.0, rest.1))
      ])
]

-- each resident page has the bytes that are stored of it
abbrev pub AllStored : ℕ → ℕ → List (List ℕ) → List Bool → List Resident → Type 0
AllStored N P blocks spilled rs = (q : ℕ) (r : Resident) → find_page q rs ≡ Some r
    → r.bytes ≡ stored N P blocks spilled q

-- where no page is spilled, each is as at home
pub all_home : (N P : ℕ) (blocks : List (List ℕ)) (spilled : List Bool) (rs : List Resident)
    → ((p : ℕ) → get_or spilled p false ≡ false)
    → AllStored N P blocks spilled rs → (q : ℕ)
    → page_of N P blocks spilled rs q ≡ get_or blocks (home N P q) []
all_home N P blocks spilled rs none all q = by (find_page q rs) refl
  where
    at_home : stored N P blocks spilled q ≡ get_or blocks (home N P q) []
    at_home = ap (λ (b : Bool). Rattle.std.specs.Prelude.if◌then◌else◌ b (get_or blocks (slot N q)
        [])
        (get_or blocks (home N P q) [])) (none q)

    by : (o : Option Resident) → find_page q rs ≡ o
        → page_of N P blocks spilled rs q ≡ get_or blocks (home N P q) []
    by None e = page_absent N P blocks spilled rs q e ∙ at_home
    by (Some r) e = page_resident N P blocks spilled rs q r e ∙ all q r e ∙ at_home

pub listed_none : (spilled : List Bool) → ((p : ℕ) → get_or spilled p false ≡ false)
    → IsListed spilled []
listed_none spilled none = record {
  within = λ i lt. absurd (omega (arith, lt));
  flagged = λ i lt. absurd (omega (arith, lt));
  every = λ p is. absurd (true≢false (sym is ∙ none p));
  count = (let most = sum_by-le (λ b. cond b 1 0) 0 spilled (λ n d lt. omega (
    arith,
    ap (λ (b : Bool). cond {A = ℕ} b 1 0)
        (Rattle.std.proofs.lemmas.List.get_or_default spilled n d false lt ∙ none n),
  )) in
      omega (arith, most));
}

-- from place i on the list has each page that is still spilled
abbrev pub AreLeft : ℕ → List ℕ → List Bool → Type 0
AreLeft i listed spilled = (p : ℕ) → get_or spilled p false ≡ true → IsAmong i listed p

pub none_left : (i : ℕ) (listed : List ℕ) (spilled : List Bool) → length listed ≤ i
    → AreLeft i listed spilled → (p : ℕ)
    → get_or spilled p false ≡ false
none_left i listed spilled past left p = elim (cases_Bool (get_or spilled p false)) [
  | inl on ↦ absurd (left p on (λ j low lt e. absurd (omega (arith, low, lt, past))))
  | inr off ↦ off
]

pub none_set : (n : ℕ) (flags : List Bool) → flags ≡ replicate n false → (p : ℕ)
    → get_or flags p false ≡ false
none_set n flags is p = ap (λ (l : List Bool). get_or l p false) is ∙ no_flag n p

-- once the spilled pages left the frames and none counts as spilled, what stayed is as it is stored
pub all_stored : (N P : ℕ) (blocks : List (List ℕ)) (was is : List Bool) (listed : List ℕ)
    (rs ss : List Resident) → IsListed was listed
    → ((p : ℕ) → get_or is p false ≡ false)
    → ((i : ℕ) → i < length listed → find_page (get_or listed i 0) ss ≡ None)
    → ((q : ℕ) (r : Resident) → find_page q ss ≡ Some r
    → (find_page q rs ≡ Some r) × (r.changed ≡ false))
    → IsCached N P blocks was rs → AllStored N P blocks is ss
all_stored N P blocks was is listed rs ss names none gone kept cached q r found =
    let before = kept q r found in
    cached q r before.0 before.1
    ∙ ap (λ (b : Bool). Rattle.std.specs.Prelude.if◌then◌else◌ b (get_or blocks (slot N q) [])
    (get_or blocks (home N P q) [])) (elim (cases_Bool (get_or was q false)) [
      | inl on ↦ absurd (names.every q on
          (λ i low lt at. absurd (let e : ◌≡◌ {A = Option Resident} None (Some r) =
          sym (gone i lt) ∙ ap (λ (k : ℕ). find_page k ss) at ∙ found in cc)))
      | inr off ↦ off ∙ sym (none q)
    ])
