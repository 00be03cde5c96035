-- What the head of leaves in memory tells of their device.
use Rattle.std.proofs.Common.{◌≡◌, ℕ, List, [], ◌∷◌, drop, get_or, Bool, true, false, refl, ap}
use Rattle.gx_device.specs.Content.{Moment}
use Rattle.gx_ports.specs.Heads.{Head}
use Rattle.gx_memory_leaves.specs.Plain.{pending_marks, head_on}

mark_once : (a b : Bool) (xs ys : List Bool) → pending_marks (a ∷ xs) ≡ pending_marks (b ∷ ys)
    → a ≡ b
mark_once true true xs ys same = refl
mark_once false false xs ys same = refl
mark_once true false xs ys same =
    absurd (never (ap (λ (l : List ℕ). get_or l 0 0) same))
  where
    never : ◌≡◌ {A = ℕ} 1 0 → ⊥
    never e = cc
mark_once false true xs ys same =
    absurd (never (ap (λ (l : List ℕ). get_or l 0 0) same))
  where
    never : ◌≡◌ {A = ℕ} 0 1 → ⊥
    never e = cc

marks_once : (xs ys : List Bool) → pending_marks xs ≡ pending_marks ys → xs ≡ ys
marks_once [] [] same = refl
marks_once (a ∷ xs) (b ∷ ys) same =
    let first = mark_once a b xs ys same in
    let rest = marks_once xs ys (ap (λ (l : List ℕ). drop 1 l) same) in
    λ i. first i ∷ rest i
marks_once [] (b ∷ ys) same = cc
marks_once (a ∷ xs) [] same = cc

-- the same head is that of the same blocks
pub same_blocks : (old new : Moment) → head_on new ≡ head_on old → new.blocks ≡ old.blocks
same_blocks old new same = ap (λ (h : Head). drop 1 h.base.head) same

-- and of those of which a crash may spoil as many
pub same_pending : (old new : Moment) → head_on new ≡ head_on old → new.pending ≡ old.pending
same_pending old new same =
    marks_once new.pending old.pending (ap (λ (h : Head). get_or h.base.head 0 []) same)
