-- How the play of lines goes on: in one way, in parts, and with commits that are told of.
use Rattle.std.proofs.Common.{◌≡◌, ◌⊎◌, inl, inr, ℕ, Bool, true, false, ◌+◌, ◌≤◌, List, [], ◌∷◌, ◌++◌, length, refl, sym, ◌∙◌, ap, subst, arith, append_assoc, length-append}
use Rattle.gx_schema.specs.declared.schema.Schema.{Schema}
use Rattle.gx_commands.specs.declared.command.Command.{Command}
use Rattle.gx_commands.specs.declared.command.Command.TheVariants as command
use Rattle.gx_model.specs.Play.{Playing, after_command, IsAnswered}
use Rattle.gx_model.specs.Runs.{Step as CommandStep}
use Rattle.gx_model.specs.Paths.{PathOr, PathStep}
use Rattle.gx_model.proofs.PathLemmas.{definite_with_paths}
use Rattle.gx_script.specs.Paths.{is_path}
use Rattle.gx_play.specs.Asked.{Step, Runs}
use Rattle.gx_play.specs.Acknowledged.{commit_count}
use Rattle.gx_play.proofs.TextLemmas.{both_empty, Lacks, lacks_front, lacks_back}

-- ---- one step

-- a command that isn't a commit is no commit
abbrev pub IsCounted : Schema → Playing → Command → Type 0
IsCounted schema p c =
    (commit_count (after_command schema p c) ≡ commit_count p)
    ⊎ ((commit_count (after_command schema p c) ≡ commit_count p + 1) × (c ≡ command.Commit))

counts : (schema : Schema) (p : Playing) (c : Command) → IsCounted schema p c
counts schema p command.Commit = inr (length-append p.earlier (p.kept ∷ []), refl)
counts schema p _ = inl refl

-- a byte of each commit's answer, `c` or `m`
abbrev pub IsOfCommit : ℕ → Type 0
IsOfCommit b = (b ≡ 99) ⊎ (b ≡ 109)

says_it : (schema : Schema) (p : Playing) (b : ℕ) (answer : List ℕ) → IsOfCommit b
    → IsAnswered schema p command.Commit answer → Lacks b answer → ⊥
says_it schema p b answer (inl is) answered lacks =
    (subst (Lacks b) answered lacks).0 (sym is)
says_it schema p b answer (inr is) answered lacks =
    (subst (Lacks b) answered lacks).1.1.0 (sym is)

-- the answer of a commit isn't empty
says_something : (schema : Schema) (p : Playing) (answer : List ℕ)
    → IsAnswered schema p command.Commit answer → answer ≡ [] → ⊥
says_something schema p answer is none =
    omega (arith, ap (λ (l : List ℕ). length l) (sym is ∙ none))

module _ (schema : Schema) where
  step_once : (p : Playing) (line a b : List ℕ) (q r : Playing) → Step schema p line a q
      → Step schema p line b r → (a ≡ b) × (q ≡ r)
  step_once p line a b q r x y =
      let once = definite_with_paths schema in once.goes_once p line a b q r x y

  step_counts : (p : Playing) (line answer : List ℕ) (q : Playing) → Step schema p line answer q
      → (commit_count q ≡ commit_count p)
      ⊎ ((commit_count q ≡ commit_count p + 1) × IsAnswered schema p command.Commit answer)
  step_counts p line answer q step = of_kind (is_path line) step
    where
      of_kind : (path : Bool) → PathOr path (PathStep schema p line answer q)
          (CommandStep schema p line answer q) → (commit_count q ≡ commit_count p)
          ⊎ ((commit_count q ≡ commit_count p + 1) × IsAnswered schema p command.Commit answer)
      of_kind true step = inl (ap commit_count step.next_is)
      of_kind false step =
          let next = ap commit_count step.next_is in
          elim (counts schema p step.command) [
            | inl same ↦ inl (next ∙ same)
            | inr more ↦ inr (
              next ∙ more.0,
              subst (λ c. IsAnswered schema p c answer) more.1 step.answered,
            )
          ]

  -- ---- steps one after another

  pub runs_once : (p q r : Playing) (ran : List (List ℕ)) (t u : List ℕ) → Runs schema p ran t q
      → Runs schema p ran u r → (t ≡ u) × (q ≡ r)
  runs_once p q r [] t u x y = (x.0 ∙ sym y.0, x.1 ∙ sym y.1)
  runs_once p q r (line ∷ ran) t u x y =
      let first = step_once p line x.0 y.0 x.2 y.2 x.3 y.3 in
      let rest = runs_once y.2 q r ran x.1 y.1
      (subst (λ (s : Playing). Runs schema s ran x.1 q) first.1 x.4) y.4 in
      (x.5 ∙ (λ i. first.0 i ++ rest.0 i) ∙ sym y.5, rest.1)

  pub run_parts : (p r : Playing) (a b : List (List ℕ)) (t : List ℕ) → Runs schema p (a ++ b) t r
      → (u : List ℕ) × (v : List ℕ) × (q : Playing) × Runs schema p a u q × Runs schema q b v r
      × (t ≡ u ++ v)
  run_parts p r [] b t run = ([], t, p, (refl, refl), run, refl)
  run_parts p r (line ∷ a) b t run =
      let x = run_parts run.2 r a b run.1 run.4 in (
        run.0 ++ x.0,
        x.1,
        x.2,
        (run.0, x.0, run.2, run.3, x.3, refl),
        x.4,
        run.5 ∙ ap (λ (l : List ℕ). run.0 ++ l) x.5 ∙ sym (append_assoc run.0 x.0 x.1),
      )

  pub no_fewer : (p q : Playing) (ran : List (List ℕ)) (t : List ℕ) → Runs schema p ran t q
      → commit_count p ≤ commit_count q
  no_fewer p q [] t run = omega (arith, ap commit_count run.1)
  no_fewer p q (line ∷ ran) t run =
      let rest = no_fewer run.2 q ran run.1 run.4 in
      elim (step_counts p line run.0 run.2 run.3) [
        | inl same ↦ omega (arith, same, rest)
        | inr more ↦ omega (arith, more.0, rest)
      ]

  pub silent_same : (p q : Playing) (ran : List (List ℕ)) → Runs schema p ran [] q
      → commit_count q ≡ commit_count p
  silent_same p q [] run = ap commit_count run.1
  silent_same p q (line ∷ ran) run =
      let none = both_empty run.0 run.1 run.5 in
      let rest = silent_same run.2 q ran
      (subst (λ (t : List ℕ). Runs schema run.2 ran t q) none.1 run.4) in
      elim (step_counts p line run.0 run.2 run.3) [
        | inl same ↦ rest ∙ same
        | inr more ↦ absurd (says_something schema p run.0 more.1 none.0)
      ]

  -- answers without such a byte tell of no commit
  pub none_told : (b : ℕ) → IsOfCommit b → (p q : Playing) (ran : List (List ℕ)) (t : List ℕ)
      → Lacks b t → Runs schema p ran t q → commit_count q ≡ commit_count p
  none_told b of p q [] t lacks run = ap commit_count run.1
  none_told b of p q (line ∷ ran) t lacks run =
      let both = subst (Lacks b) run.5 lacks in
      let rest = none_told b of run.2 q ran run.1 (lacks_back b run.0 run.1 both) run.4 in
      elim (step_counts p line run.0 run.2 run.3) [
        | inl same ↦ rest ∙ same
        | inr more ↦ absurd (says_it schema p b run.0 of more.1 (lacks_front b run.0 run.1 both))
      ]

  pub one_more : (p q : Playing) (ran : List (List ℕ)) (t : List ℕ) → length ran ≤ 1
      → Runs schema p ran t q → commit_count q ≤ commit_count p + 1
  one_more p q [] t few run = omega (arith, ap commit_count run.1)
  one_more p q (line ∷ []) t few run =
      let last = ap commit_count run.4.1 in
      elim (step_counts p line run.0 run.2 run.3) [
        | inl same ↦ omega (arith, same, last)
        | inr more ↦ omega (arith, more.0, last)
      ]
  one_more p q (line ∷ other ∷ ran) t few run = absurd (omega (arith, few))
