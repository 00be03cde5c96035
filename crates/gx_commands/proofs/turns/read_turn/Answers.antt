use Rattle.std.proofs.Common.{◌≡◌, ℕ, ◌-◌, List, length, eqb, Option, Some, option_map, Bor, Ok, sym, ap, ◌∙◌, inl, inr}
use Rattle.std.proofs.lemmas.Bool.{or_from}
use Rattle.gx_commands.specs.Words.{past_blanks, is_comment}
use Rattle.gx_commands.specs.Turns.{is_empty, session_at, turn_or, past_word}
use Rattle.gx_commands.specs.Cutting.{IsRestOf}
use Rattle.gx_commands.proofs.TurnLaws.{blanks_end, rest_of_rest, session_end, at_place, not_longer, not_empty}
use Rattle.gx_commands.proofs.turns.read_turn.Goals.{then-not-is_comment+else-not-are_characters+else-not-are_words, else-not-is_comment}
use Rattle.gx_commands.proofs.turns.read_turn.Goals as goal

found : (c : goal.In-Some)
    → session_at (past_blanks c.args.line.now) ≡ Some (c.in-Some.session, c.in-Some.rest.now)
found c = ap session_at (sym c.after_blanks-first.ensures) ∙ sym c.split_session.ensures
    ∙ ap (λ (o : Option (ℕ × Bor (List ℕ))). option_map (λ x. (x.0, x.1.now)) o) c.in-Some.is

end : (c : goal.In-Some) → IsRestOf c.args.line.now c.in-Some.rest.now
end c =
    rest_of_rest c.args.line.now (past_blanks c.args.line.now) c.in-Some.rest.now
    (blanks_end c.args.line.now)
    (session_end (past_blanks c.args.line.now) c.in-Some.rest.now c.in-Some.session (found c))

pub overflow_sub-result : goal.overflow_sub-result
overflow_sub-result c = not_longer c.args.line.now c.in-Some.rest.now (end c)

pub returns-in-Some-clause-read : goal.returns-in-Some-clause-read
returns-in-Some-clause-read c =
    let place = at_place c.args.line.now c.in-Some.rest.now (end c) in
    inr (inr (inr (
      or_from (is_empty (past_blanks c.args.line.now)) (is_comment c.args.line.now)
          (not_empty (past_blanks c.args.line.now)
          (ap (λ (xs : List ℕ). eqb (length xs) 0) (sym c.after_blanks-first.ensures)
          ∙ sym c.is_empty.ensures ∙ c.if-is_empty.false))
          (sym c.is_comment.ensures ∙ c.if-is_comment.false),
      elim c.if-not-is_comment.branch [
        | then-not-is_comment+else-not-are_characters+else-not-are_words w ↦ inr (
          sym w.are_characters.ensures ∙ w.if-not-are_characters.false,
          w.are_words.ensures.0 w.if-not-are_words.false,
        )
        | else-not-is_comment w ↦ inl
            (sym (c.is_comment-2.ensures ∙ ap is_comment (c.after_word.ensures
            ∙ ap past_word c.after_blanks-first.ensures)) ∙ w.if-not-is_comment.false)
      ],
      ap (λ (xs : List ℕ). Ok (Some (c.in-Some.session, xs))) place ∙ ap turn_or (sym (found c)),
    )))
