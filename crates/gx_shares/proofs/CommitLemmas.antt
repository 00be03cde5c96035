-- How many commits turns make, and which of them are told of.
use Rattle.std.proofs.Common.{◌≡◌, ◌⊎◌, inl, inr, ℕ, zero, suc, ◌+◌, ◌<◌, ◌≤◌, Bool, true, false, cond, eqb, List, [], ◌∷◌, ◌++◌, length, take, drop, get_or, refl, sym, ◌∙◌, ap, subst, arith, length-append}
use Rattle.std.specs.Prelude.{codes}
use Rattle.std.specs.Fmt.{decimal}
use Rattle.std.specs.List.{flat_map}
use Rattle.std.proofs.lemmas.Fmt.{decimal_digit}
use Rattle.std.proofs.lemmas.Grind.{flat_map-append}
use Rattle.gx_schema.specs.declared.schema.Schema.{Schema}
use Rattle.gx_commands.specs.declared.command.Command.{Command}
use Rattle.gx_commands.specs.declared.command.Command.TheVariants as command
use Rattle.gx_commands.specs.Lines.{Parts, with_first_byte, parts_of}
use Rattle.gx_model.specs.Play.{next_count, IsAnswered}
use Rattle.gx_model.specs.Languages.{RunsIn}
use Rattle.gx_sharing.specs.Sharing.{Sharing, Outcome, answered, skipped, ended_by, play_of, after_turn, IsSaid}
use Rattle.gx_sharing.specs.Turns.{Turn, TurnStep}
use Rattle.gx_sharing.specs.Texts.{turn_text, turns}
use Rattle.gx_shares.specs.Player.{texts_of}
use Rattle.gx_shares.specs.Acknowledged.{commit_count}
use Rattle.gx_shares.proofs.CarryLemmas.{named}

-- ---- one turn

-- a command that isn't a commit is no commit
counts : (schema : Schema) (p : Sharing) (n : ℕ) (c : Command)
    → (commit_count (after_turn schema p n c answered) ≡ commit_count p)
    ⊎ ((commit_count (after_turn schema p n c answered) ≡ commit_count p + 1)
    × (c ≡ command.Commit))
counts schema p n command.Commit = inr (length-append p.earlier (p.kept ∷ []), refl)
counts schema p n _ = inl refl

-- an LF ends the text
abbrev EndsLine : List ℕ → Type 0
EndsLine text = (front : List ℕ) × (text ≡ front ++ 10 ∷ [])

-- a turn is no commit, or one, and then an LF ends what it says
abbrev IsCounted : Sharing → Turn → Sharing → Type 0
IsCounted p t q =
    (commit_count q ≡ commit_count p) ⊎ ((commit_count q ≡ commit_count p + 1) × EndsLine t.said)

turn_counts : (schema : Schema) (p : Sharing) (t : Turn) (q : Sharing) → TurnStep schema p t q
    → IsCounted p t q
turn_counts schema p t q step = of_outcome t.outcome step.said_is step.next_is
  where
    of_outcome : (outcome : Outcome)
        → IsSaid schema p t.session t.command outcome t.said
        → q ≡ after_turn schema p t.session t.command outcome → IsCounted p t q
    of_outcome answered said next = elim (counts schema p t.session t.command) [
      | inl same ↦ inl (ap commit_count next ∙ same)
      | inr more ↦ inr (
        ap commit_count next ∙ more.0,
        (
          codes "committed " ++ decimal (next_count p.commits),
          subst (λ c. IsAnswered schema (play_of schema p t.session) c t.said) more.1 said,
        ),
      )
    ]
    of_outcome skipped said next = inl (ap commit_count next)
    of_outcome (ended_by m) said next = inl (ap commit_count next)

-- ---- what it says

-- the text begins with this byte, unless it is empty
abbrev pub Begins : ℕ → List ℕ → Type 0
Begins b [] = Unit {0}
Begins b (x ∷ xs) = x ≡ b

pub begins_front : (b : ℕ) (xs ys : List ℕ) → Begins b (xs ++ ys) → Begins b xs
begins_front b [] ys begins = tt
begins_front b (x ∷ xs) ys begins = begins

pub begins_take : (b n : ℕ) (xs : List ℕ) → Begins b xs → Begins b (take n xs)
begins_take b zero xs begins = tt
begins_take b (suc n) [] begins = tt
begins_take b (suc n) (x ∷ xs) begins = begins

-- lines with a number begin with a digit, and not with `s`
no_lines : (n : ℕ) → n < 10 → (lines : List (List ℕ))
    → Begins 115 (flat_map (λ line. decimal n ++ codes " " ++ line ++ codes "\n") lines)
    → lines ≡ []
no_lines n small [] begins = refl
no_lines n small (line ∷ lines) begins =
    let more = flat_map (λ line. decimal n ++ codes " " ++ line ++ codes "\n") lines in
    let first : 48 + n ≡ 115 =
    subst (λ (d : List ℕ). Begins 115 ((d ++ codes " " ++ line ++ codes "\n") ++ more))
    (decimal_digit n small) begins in
    absurd (omega (arith, small, first))

-- a text that an LF ends has lines
same_many : (b : ℕ) (lines : List (List ℕ)) (rest : List ℕ)
    → length (with_first_byte b lines rest).ended ≡ 0 → length lines ≡ 0
same_many b [] rest none = refl
same_many b (line ∷ lines) rest none = absurd (omega (arith, none))

more_lines : (b : ℕ) (parts : Parts) (lf : Bool) → (length parts.ended ≡ 0 → ⊥)
    → length (cond lf (record { ended = [] ∷ parts.ended; rest = parts.rest })
    (with_first_byte b parts.ended parts.rest)).ended ≡ 0 → ⊥
more_lines b parts true some none = omega (arith, none)
more_lines b parts false some none = some (same_many b parts.ended parts.rest none)

has_lines : (front : List ℕ) → length (parts_of (front ++ 10 ∷ [])).ended ≡ 0 → ⊥
has_lines [] none = omega (arith, none)
has_lines (b ∷ front) none =
    more_lines b (parts_of (front ++ 10 ∷ [])) (eqb b 10) (has_lines front) none

-- a turn whose text begins with `s`, if with anything, says nothing and is no commit
silent_turn : (schema : Schema) (p : Sharing) (t : Turn) (q : Sharing) → TurnStep schema p t q
    → Begins 115 (turn_text t) → (turn_text t ≡ []) × (commit_count q ≡ commit_count p)
silent_turn schema p t q step begins =
    let none = no_lines t.session (named t.session step.numbered) (parts_of t.said).ended
    begins in (
      ap (λ (ls : List (List ℕ)).
          flat_map (λ line. decimal t.session ++ codes " " ++ line ++ codes "\n") ls) none,
      elim (turn_counts schema p t q step) [
        | inl same ↦ same
        | inr more ↦ absurd (has_lines more.1.0
            (ap (λ (text : List ℕ). length (parts_of text).ended) (sym more.1.1)
            ∙ ap (λ (ls : List (List ℕ)). length ls) none))
      ],
    )

-- ---- lines

-- what turns say in parts
pub texts_apart : (ts us vs : List Turn) → ts ≡ us ++ vs
    → texts_of ts ≡ texts_of us ++ texts_of vs
texts_apart ts us vs is =
    ap (λ (l : List Turn). texts_of l) is ∙ flat_map-append turn_text us vs

module _ (schema : Schema) where
  pub never_fewer : (p q : Sharing) (lines : List (List ℕ)) (ts : List Turn)
      → RunsIn (turns schema) p lines ts q → commit_count p ≤ commit_count q
  never_fewer p q [] ts run = omega (arith, ap commit_count run.1)
  never_fewer p q (line ∷ lines) ts run =
      let rest = never_fewer run.2 q lines run.1 run.4 in
      elim run.3 [
        | inl none ↦ omega (arith, rest, ap commit_count none.2)
        | inr one ↦ elim (turn_counts schema p one.0 run.2 one.3) [
          | inl same ↦ omega (arith, rest, same)
          | inr more ↦ omega (arith, rest, more.0)
        ]
      ]

  -- at most one commit for each turn
  pub few_more : (p q : Sharing) (lines : List (List ℕ)) (ts : List Turn)
      → RunsIn (turns schema) p lines ts q → commit_count q ≤ commit_count p + length ts
  few_more p q [] ts run = omega (arith, ap commit_count run.1)
  few_more p q (line ∷ lines) ts run =
      let rest = few_more run.2 q lines run.1 run.4 in
      let long : length ts ≡ length run.0 + length run.1 =
      ap (λ (l : List Turn). length l) run.5 ∙ length-append run.0 run.1 in
      elim run.3 [
        | inl none ↦ omega (arith, rest, long, ap commit_count none.2)
        | inr one ↦ (
            let many : length run.0 ≡ 1 = ap (λ (l : List Turn). length l) one.2 in
            elim (turn_counts schema p one.0 run.2 one.3) [
              | inl same ↦ omega (arith, rest, long, same)
              | inr more ↦ omega (arith, rest, long, many, more.0)
            ])
      ]

  -- texts that begin with `s`, if with anything, tell of no commit
  pub none_told : (p q : Sharing) (lines : List (List ℕ)) (ts : List Turn)
      → RunsIn (turns schema) p lines ts q → Begins 115 (texts_of ts)
      → commit_count q ≡ commit_count p
  none_told p q [] ts run begins = ap commit_count run.1
  none_told p q (line ∷ lines) ts run begins =
      let both = subst (Begins 115) (texts_apart ts run.0 run.1 run.5) begins in
      elim run.3 [
        | inl none ↦ none_told run.2 q lines run.1 run.4
            (subst (λ (l : List Turn). Begins 115 (texts_of l ++ texts_of run.1)) none.1 both)
            ∙ ap commit_count none.2
        | inr one ↦ (
            let here : Begins 115 (texts_of (one.0 ∷ []) ++ texts_of run.1) =
            subst (λ (l : List Turn). Begins 115 (texts_of l ++ texts_of run.1)) one.2 both in
            let silent = silent_turn schema p one.0 run.2 one.3
            (begins_front 115 (turn_text one.0) []
            (begins_front 115 (texts_of (one.0 ∷ [])) (texts_of run.1) here)) in
            none_told run.2 q lines run.1 run.4
            (subst (λ (l : List ℕ). Begins 115 ((l ++ []) ++ texts_of run.1)) silent.0 here)
            ∙ silent.1)
      ]

  -- lines that give first turns, and those that give the others behind them
  pub turns_apart : (p r : Sharing) (ran : List (List ℕ)) (first last : List Turn)
      → RunsIn (turns schema) p ran (first ++ last) r
      → (a : List (List ℕ)) × (b : List (List ℕ)) × (q : Sharing) × (ran ≡ a ++ b)
      × RunsIn (turns schema) p a first q × RunsIn (turns schema) q b last r
  turns_apart p r ran [] last run = ([], ran, p, refl, (refl, refl), run)
  turns_apart p r [] (t ∷ first) last run =
      absurd (omega (arith, ap (λ (l : List Turn). length l) run.0))
  turns_apart p r (line ∷ ran) (t ∷ first) last run = elim run.3 [
    | inl none ↦ (
        let all : run.1 ≡ (t ∷ first) ++ last =
        sym (run.5 ∙ ap (λ (l : List Turn). l ++ run.1) none.1) in
        let x = turns_apart run.2 r ran (t ∷ first) last
        (subst (λ (l : List Turn). RunsIn (turns schema) run.2 ran l r) all run.4) in (
          line ∷ x.0,
          x.1,
          x.2,
          ap (λ (l : List (List ℕ)). line ∷ l) x.3,
          (
            run.0,
            t ∷ first,
            run.2,
            run.3,
            x.4,
            sym (ap (λ (l : List Turn). l ++ t ∷ first) none.1),
          ),
          x.5,
        ))
    | inr one ↦ (
        let all : t ∷ (first ++ last) ≡ one.0 ∷ run.1 =
        run.5 ∙ ap (λ (l : List Turn). l ++ run.1) one.2 in
        let head : t ≡ one.0 = ap (λ (l : List Turn). get_or l 0 t) all in
        let tail : first ++ last ≡ run.1 = ap (λ (l : List Turn). drop 1 l) all in
        let x = turns_apart run.2 r ran first last
        (subst (λ (l : List Turn). RunsIn (turns schema) run.2 ran l r) (sym tail) run.4) in (
          line ∷ x.0,
          x.1,
          x.2,
          ap (λ (l : List (List ℕ)). line ∷ l) x.3,
          (
            run.0,
            first,
            run.2,
            run.3,
            x.4,
            (λ i. head i ∷ first) ∙ sym (ap (λ (l : List Turn). l ++ first) one.2),
          ),
          x.5,
        ))
  ]
