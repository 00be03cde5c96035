-- Values fit fields by their kinds.
use Rattle.std.proofs.Common.{◌≡◌, List, [], ◌∷◌, get_or, refl, sym, subst}
use Rattle.gx_values.specs.declared.values.Kind.{Kind}
use Rattle.gx_values.specs.declared.values.Value.{Value}
use Rattle.gx_values.specs.declared.records.Field.{Field}
use Rattle.gx_values.specs.Values.{Fits, AreFit, no_value}
use Rattle.gx_links.specs.Kinds.{kinds_of, AreOfKinds}

by_fields : (fs : List Field) (vs : List Value) → AreFit fs vs → AreOfKinds (kinds_of fs) vs
by_fields [] [] fit = tt
by_fields [] (v ∷ vs) fit = absurd fit
by_fields (f ∷ fs) [] fit = absurd fit
by_fields (f ∷ fs) (v ∷ vs) fit = (fit.0, by_fields fs vs fit.1)

by_kinds : (fs : List Field) (vs : List Value) → AreOfKinds (kinds_of fs) vs → AreFit fs vs
by_kinds [] [] fit = tt
by_kinds [] (v ∷ vs) fit = absurd fit
by_kinds (f ∷ fs) [] fit = absurd fit
by_kinds (f ∷ fs) (v ∷ vs) fit = (fit.0, by_kinds fs vs fit.1)

pub fit_kinds : (fs : List Field) (ks : List Kind) (vs : List Value) → kinds_of fs ≡ ks
    → AreFit fs vs → AreOfKinds ks vs
fit_kinds fs ks vs is fit = subst (λ kinds. AreOfKinds kinds vs) is (by_fields fs vs fit)

pub fit_fields : (fs : List Field) (ks : List Kind) (vs : List Value) → kinds_of fs ≡ ks
    → AreOfKinds ks vs → AreFit fs vs
fit_fields fs ks vs is fit = by_kinds fs vs (subst (λ kinds. AreOfKinds kinds vs) (sym is) fit)

-- one value for one kind
pub one_kind : (kind : Kind) (vs : List Value) → AreOfKinds (kind ∷ []) vs
    → (vs ≡ get_or vs 0 no_value ∷ []) × Fits kind (get_or vs 0 no_value)
one_kind kind [] fit = absurd fit
one_kind kind (v ∷ []) fit = (refl, fit.0)
one_kind kind (v ∷ w ∷ vs) fit = absurd fit.1
