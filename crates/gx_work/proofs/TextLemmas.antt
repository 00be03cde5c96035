-- The text of tasks grows by that of a task.
use Rattle.std.proofs.Common.{◌≡◌, ℕ, zero, suc, ◌+◌, List, [], ◌∷◌, ◌++◌, map, flat_map, sym, ap, ◌∙◌, append_assoc, append-nil, arith}
use Rattle.std.specs.List.{range_with_len}
use Rattle.std.proofs.lemmas.Grind.{flat_map-append}
use Rattle.std.proofs.lemmas.List.{map-append}
use Rattle.gx_work.specs.declared.task.Task.{Task}
use Rattle.gx_work.specs.Tasks.{line_text}
use Rattle.gx_work.specs.declared.task.Task.TheVariants as task
use Rattle.gx_work.specs.Workload.{lines_text, departments, employees, raises, changes, work_script}

pub lines_then : (before out new : List ℕ) (ts more : List Task) → out ≡ before ++ lines_text ts
    → new ≡ out ++ lines_text more → new ≡ before ++ lines_text (ts ++ more)
lines_then before out new ts more p q =
    q ∙ ap (λ t. t ++ lines_text more) p ∙ append_assoc before (lines_text ts) (lines_text more)
    ∙ ap (λ t. before ++ t) (sym (flat_map-append line_text ts more))

pub line_then : (before out new : List ℕ) (ts : List Task) (t : Task)
    → out ≡ before ++ lines_text ts → new ≡ out ++ line_text t
    → new ≡ before ++ lines_text (ts ++ t ∷ [])
line_then before out new ts t p q =
    lines_then before out new ts (t ∷ []) p
    (q ∙ ap (λ x. out ++ x) (sym (append-nil (line_text t))))

pub range_more : (a n j : ℕ) → a + n ≡ j → range_with_len a (n + 1) ≡ range_with_len a n ++ j ∷ []
range_more a n j e = let on : n + 1 ≡ suc n = omega arith in ap (range_with_len a) on ∙ last a n j e
  where
    last : (a n j : ℕ) → a + n ≡ j → range_with_len a (suc n) ≡ range_with_len a n ++ j ∷ []
    last a zero j e = let same : a ≡ j = omega arith in ap (λ (k : ℕ). k ∷ []) same
    last a (suc n) j e = ap (λ ks. a ∷ ks) (last (a + 1) n j (omega arith))

pub map_more : (f : ℕ → Task) (a n j : ℕ) → a + n ≡ j
    → map f (range_with_len a (n + 1)) ≡ map f (range_with_len a n) ++ f j ∷ []
map_more f a n j e = ap (map f) (range_more a n j e) ∙ map-append f (range_with_len a n) (j ∷ [])

pub flat_more : (f : ℕ → List Task) (a n j : ℕ) → a + n ≡ j
    → flat_map f (range_with_len a (n + 1)) ≡ flat_map f (range_with_len a n) ++ f j
flat_more f a n j e = ap (flat_map f) (range_more a n j e)
    ∙ flat_map-append f (range_with_len a n) (j ∷ [])
    ∙ ap (λ t. flat_map f (range_with_len a n) ++ t) (append-nil (f j))

-- one line more, of a list of tasks by numbers
pub mapped : (f : ℕ → Task) (front : List Task) (a n j : ℕ) (before out new : List ℕ) → a + n ≡ j
    → out ≡ before ++ lines_text (front ++ map f (range_with_len a n))
    → new ≡ out ++ line_text (f j)
    → new ≡ before ++ lines_text (front ++ map f (range_with_len a (n + 1)))
mapped f front a n j before out new e p q =
    line_then before out new (front ++ map f (range_with_len a n)) (f j) p q
    ∙ ap (λ ts. before ++ lines_text ts)
    (append_assoc front (map f (range_with_len a n)) (f j ∷ [])
    ∙ ap (λ ts. front ++ ts) (sym (map_more f a n j e)))

-- the lines of some tasks more
pub flat_mapped : (f : ℕ → List Task) (front : List Task) (a n j : ℕ) (before out new : List ℕ)
    → a + n ≡ j → out ≡ before ++ lines_text (front ++ flat_map f (range_with_len a n))
    → new ≡ out ++ lines_text (f j)
    → new ≡ before ++ lines_text (front ++ flat_map f (range_with_len a (n + 1)))
flat_mapped f front a n j before out new e p q =
    lines_then before out new (front ++ flat_map f (range_with_len a n)) (f j) p q
    ∙ ap (λ ts. before ++ lines_text ts)
    (append_assoc front (flat_map f (range_with_len a n)) (f j)
    ∙ ap (λ ts. front ++ ts) (sym (flat_more f a n j e)))

-- two lines are those of two tasks
pub two_lines : (out mid new : List ℕ) (t u : Task) → mid ≡ out ++ line_text t
    → new ≡ mid ++ line_text u → new ≡ out ++ lines_text (t ∷ u ∷ [])
two_lines out mid new t u p q = q ∙ ap (λ x. x ++ line_text u) p
    ∙ append_assoc out (line_text t) (line_text u)
    ∙ ap (λ x. out ++ (line_text t ++ x)) (sym (append-nil (line_text u)))

-- a text that was made of five pieces
pub five_pieces : (o p q r s t a b c d e : List ℕ) → p ≡ o ++ a → q ≡ p ++ b → r ≡ q ++ c
    → s ≡ r ++ d → t ≡ s ++ e → t ≡ o ++ (a ++ b ++ c ++ d ++ e)
five_pieces o p q r s t a b c d e u v w x y =
    y ∙ ap (λ z. z ++ e) (x ∙ ap (λ z. z ++ d) (w ∙ ap (λ z. z ++ c) (v ∙ ap (λ z. z ++ b) u)))
    ∙ simp append_assoc

-- what changes something, part by part
pub changes_text : (n : ℕ) (o p q r : List ℕ) → p ≡ o ++ lines_text departments
    → q ≡ p ++ lines_text (employees n) → r ≡ q ++ lines_text (raises n)
    → r ≡ o ++ lines_text (changes n)
changes_text n o p q r d m g =
    let second : q ≡ o ++ lines_text (departments ++ employees n) =
    lines_then o p q departments (employees n) d m in
    lines_then o q r (departments ++ employees n) (raises n) second g

-- a text that begins with nothing
pub from_none : (o r t : List ℕ) → o ≡ [] → r ≡ o ++ t → r ≡ t
from_none o r t e f = f ∙ ap (λ z. z ++ t) e

-- the whole script
pub script_text : (n : ℕ) (o r s t : List ℕ) → o ≡ [] → r ≡ o ++ lines_text (changes n)
    → s ≡ r ++ line_text task.FindByPay → t ≡ s ++ line_text task.FindByLink → t ≡ work_script n
script_text n o r s t e f x y =
    let both : t ≡ r ++ lines_text (task.FindByPay ∷ task.FindByLink ∷ []) =
    two_lines r s t task.FindByPay task.FindByLink x y in
    lines_then [] r t (changes n) (task.FindByPay ∷ task.FindByLink ∷ [])
    (from_none o r (lines_text (changes n)) e f) both
