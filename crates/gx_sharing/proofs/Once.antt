-- A shared script has one text.
use Rattle.std.proofs.Common.{◌≡◌, ℕ, List, [], ◌∷◌, ◌++◌, Option, Some, None, Result, Ok, Err, sym, ap, subst, ◌∙◌, inl, inr}
use Rattle.std.specs.List.{flat_map}
use Rattle.gx_schema.specs.declared.schema.Schema.{Schema}
use Rattle.gx_commands.specs.declared.command.Command.{Command}
use Rattle.gx_commands.specs.declared.command.LineWhy.{LineWhy}
use Rattle.gx_commands.specs.Lines.{script_lines}
use Rattle.gx_commands.specs.Turns.{IsTurn}
use Rattle.gx_commands.proofs.TurnLaws.{one_turn}
use Rattle.gx_script.specs.Grammar.{IsLineOf}
use Rattle.gx_model.specs.States.{State}
use Rattle.gx_model.specs.Play.{end_text}
use Rattle.gx_model.specs.Runs.{IsBadLine}
use Rattle.gx_model.proofs.AnswerLemmas.{answered_once}
use Rattle.gx_model.proofs.LanguageLemmas.{IsDefinite, one_play}
use Rattle.gx_model.proofs.RunLemmas.{command_once, line_not_bad, bad_once}
use Rattle.gx_sharing.specs.Sharing.{Sharing, Outcome, answered, skipped, ended_by, is_in, share_start, play_of, outcome_of, after_turn, IsSaid}
use Rattle.gx_sharing.specs.Turns.{Turn, TurnStep}
use Rattle.gx_sharing.specs.Texts.{turn_text, IsLinePlayed, IsBadTurn, turns, IsShareText}

-- ---- one turn of a line

said_once : (schema : Schema) (p : Sharing) (n : ℕ) (c : Command) (outcome : Outcome)
    (a b : List ℕ) → IsSaid schema p n c outcome a → IsSaid schema p n c outcome b → a ≡ b
said_once schema p n c answered a b x y = answered_once schema (play_of schema p n) c a b x y
said_once schema p n c skipped a b x y = x ∙ sym y
said_once schema p n c (ended_by m) a b x y = x ∙ sym y

turn_once : (schema : Schema) (p : Sharing) (t u : Turn) (q r : Sharing) → t.session ≡ u.session
    → t.line ≡ u.line → TurnStep schema p t q → TurnStep schema p u r → (t ≡ u) × (q ≡ r)
turn_once schema p t u q r session line x y =
    let command = command_once schema u.line t.command u.command
    (subst (λ (l : List ℕ). IsLineOf schema l t.command) line x.means) y.means in
    let outcome : t.outcome ≡ u.outcome =
    x.outcome_is ∙ (λ i. outcome_of schema p (session i) (command i)) ∙ sym y.outcome_is in
    let said = said_once schema p u.session u.command u.outcome t.said u.said
    (subst (λ (o : Outcome). IsSaid schema p u.session u.command o t.said) outcome
    (subst (λ (c : Command). IsSaid schema p u.session c t.outcome t.said) command
    (subst (λ (n : ℕ). IsSaid schema p n t.command t.outcome t.said) session x.said_is)))
    y.said_is in (
      λ i. record {
        session = session i;
        line = line i;
        command = command i;
        outcome = outcome i;
        said = said i;
      },
      x.next_is ∙ (λ i. after_turn schema p (session i) (command i) (outcome i)) ∙ sym y.next_is,
    )

-- ---- one reading of a line

abbrev turn_or : ℕ × List ℕ → Result (Option (ℕ × List ℕ)) LineWhy → ℕ × List ℕ
turn_or d (Ok (Some x)) = x
turn_or d _ = d

abbrev fault_or : LineWhy → Result (Option (ℕ × List ℕ)) LineWhy → LineWhy
fault_or d (Err why) = why
fault_or d _ = d

same_turn : (line : List ℕ) (x y : ℕ × List ℕ) → IsTurn line (Ok (Some x))
    → IsTurn line (Ok (Some y)) → x ≡ y
same_turn line x y a b = ap (turn_or x) (one_turn line (Ok (Some x)) (Ok (Some y)) a b)

none_or_turn : (line : List ℕ) (x : ℕ × List ℕ) → IsTurn line (Ok None)
    → IsTurn line (Ok (Some x)) → ⊥
none_or_turn line x a b = let e = one_turn line (Ok None) (Ok (Some x)) a b in cc

none_or_bad : (line : List ℕ) (why : LineWhy) → IsTurn line (Ok None) → IsTurn line (Err why) → ⊥
none_or_bad line why a b = let e = one_turn line (Ok None) (Err why) a b in cc

turn_or_bad : (line : List ℕ) (x : ℕ × List ℕ) (why : LineWhy) → IsTurn line (Ok (Some x))
    → IsTurn line (Err why) → ⊥
turn_or_bad line x why a b = let e = one_turn line (Ok (Some x)) (Err why) a b in cc

goes : (schema : Schema) (p : Sharing) (line : List ℕ) (a b : List Turn) (q r : Sharing)
    → IsLinePlayed schema p line a q → IsLinePlayed schema p line b r → (a ≡ b) × (q ≡ r)
goes schema p line a b q r (inl x) (inl y) = (x.1 ∙ sym y.1, x.2 ∙ sym y.2)
goes schema p line a b q r (inl x) (inr y) =
    absurd (none_or_turn line (y.0.session, y.0.line) x.0 y.1)
goes schema p line a b q r (inr x) (inl y) =
    absurd (none_or_turn line (x.0.session, x.0.line) y.0 x.1)
goes schema p line a b q r (inr x) (inr y) =
    let at = same_turn line (x.0.session, x.0.line) (y.0.session, y.0.line) x.1 y.1 in
    let one = turn_once schema p x.0 y.0 q r (ap (λ z. z.0) at) (ap (λ z. z.1) at) x.3 y.3 in
    (x.2 ∙ ap (λ (t : Turn). t ∷ []) one.0 ∙ sym y.2, one.1)

bad : (schema : Schema) (p : Sharing) (line : List ℕ) (why other : LineWhy)
    → IsBadTurn schema p line why → IsBadTurn schema p line other → why ≡ other
bad schema p line why other (inl x) (inl y) =
    ap (fault_or why) (one_turn line (Err why) (Err other) x y)
bad schema p line why other (inl x) (inr y) = absurd (turn_or_bad line (y.0, y.1) why y.2 x)
bad schema p line why other (inr x) (inl y) = absurd (turn_or_bad line (x.0, x.1) other x.2 y)
bad schema p line why other (inr x) (inr y) =
    let at = same_turn line (x.0, x.1) (y.0, y.1) x.2 y.2 in
    bad_once schema (is_in (p.session y.0)) y.1 why other
    (subst (λ (z : ℕ × List ℕ). IsBadLine schema (is_in (p.session z.0)) z.1 why) at x.3) y.3

both : (schema : Schema) (p : Sharing) (line : List ℕ) (a : List Turn) (q : Sharing)
    (why : LineWhy) → IsLinePlayed schema p line a q → IsBadTurn schema p line why → ⊥
both schema p line a q why (inl x) (inl y) = none_or_bad line why x.0 y
both schema p line a q why (inl x) (inr y) = none_or_turn line (y.0, y.1) x.0 y.2
both schema p line a q why (inr x) (inl y) = turn_or_bad line (x.0.session, x.0.line) why x.1 y
both schema p line a q why (inr x) (inr y) =
    let at = same_turn line (y.0, y.1) (x.0.session, x.0.line) y.2 x.1 in
    let step = x.3 in
    line_not_bad schema (is_in (p.session x.0.session)) x.0.line x.0.command why step.means
    step.allowed
    (subst (λ (z : ℕ × List ℕ). IsBadLine schema (is_in (p.session z.0)) z.1 why) at y.3)

-- ---- the text

pub definite_turns : (schema : Schema) → IsDefinite (turns schema)
definite_turns schema = record {
  goes_once = λ p line a b q r x y. goes schema p line a b q r x y;
  bad_once = λ p line why other x y. bad schema p line why other x y;
  never_both = λ p line a q why x y. both schema p line a q why x y;
}

pub share_once : (schema : Schema) (start : State) (script a b : List ℕ)
    → IsShareText schema start script a → IsShareText schema start script b → a ≡ b
share_once schema start script a b x y =
    let same = one_play (turns schema) (definite_turns schema) (share_start start)
    (script_lines script) x.played y.played x.final y.final x.end y.end x.plays y.plays in
    x.text_is ∙ (λ i. flat_map turn_text (same.0 i) ++ end_text (same.2 i)) ∙ sym y.text_is
