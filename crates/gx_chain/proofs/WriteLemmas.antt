-- What one write makes of the pages.
use Rattle.std.proofs.Common.{◌≡◌, ◌≢◌, ℕ, zero, suc, ◌<◌, List, [], ◌∷◌, length, set, Some, refl, sym, ap, subst, ◌∙◌}
use Rattle.std.specs.Prelude.{slice_get}
use Rattle.std.proofs.lemmas.List.{get_or-set_same}
use Rattle.gx_ports.specs.Sheets.{Sheets, bytes_at}
use Rattle.gx_slots.specs.Entries.{Entry}
use Rattle.gx_slots.specs.Page.{IsEntryPage, entries_of, next_of}
use Rattle.gx_chain.specs.Changes.{IsRewritten}

pub slice_get_set : {A : Type 0} (xs : List A) (i j : ℕ) (x : A) → j ≢ i
    → slice_get (set xs i x) j ≡ slice_get xs j
slice_get_set [] i j x d = refl
slice_get_set (y ∷ ys) zero zero x d = absurd (d refl)
slice_get_set (y ∷ ys) zero (suc j) x d = refl
slice_get_set (y ∷ ys) (suc i) zero x d = refl
slice_get_set (y ∷ ys) (suc i) (suc j) x d = slice_get_set ys i j x (λ e. d (ap suc e))

pub slice_get_set_same : {A : Type 0} (xs : List A) (i : ℕ) (x y : A) → slice_get xs i ≡ Some y
    → slice_get (set xs i x) i ≡ Some x
slice_get_set_same [] i x y is = absurd (cc)
slice_get_set_same (z ∷ zs) zero x y is = refl
slice_get_set_same (z ∷ zs) (suc i) x y is = slice_get_set_same zs i x y is

-- an entry page was written
pub written : (s m t : Sheets) (p next : ℕ) (page : List ℕ) (es : List Entry) → m ≡ s
    → p < length s.bytes → t ≡ record { owners = m.owners; bytes = set m.bytes p page }
    → IsEntryPage page → entries_of page ≡ es → next_of page ≡ next → IsRewritten p next es s t
written s m t p next page es same below is is_page entries_are next_is =
    let t_is : t ≡ record { owners = s.owners; bytes = set s.bytes p page } = is
    ∙ ap (λ (x : Sheets). record { owners = x.owners; bytes = set x.bytes p page }) same in
    let here : bytes_at t p ≡ page =
    ap (λ (x : Sheets). bytes_at x p) t_is ∙ get_or-set_same s.bytes p page [] below in
    record {
      owners = ap (λ (x : Sheets). x.owners) t_is;
      is_page = subst IsEntryPage (sym here) is_page;
      entries_are = ap entries_of here ∙ entries_are;
      next_is = ap next_of here ∙ next_is;
      others =
          λ q d. ap (λ (x : Sheets). slice_get x.bytes q) t_is ∙ slice_get_set s.bytes p q page d;
    }
