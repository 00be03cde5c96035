use Rattle.std.proofs.Common.{rules, ◌∙◌, ◌++◌, ℕ, List, sym, ap}
use Rattle.std.proofs.lemmas.Bool.{true≢false}
use Rattle.gx_model.specs.Play.{seen_state}
use Rattle.gx_engine.proofs.FollowLemmas.{follow_stays, follow_fresh, follow_selects, answer_carried}
use Rattle.gx_engine.proofs.engine.Engine.answer.Goals as goal

pub returns-clause-step : goal.returns-clause-step
returns-clause-step g c =
    let e = c.args.self.now in
    let command = c.args.command.now in
    let asked = c.in_ok-text.ensures in
    record {
      carried = λ p at.
          answer_carried e.schema e.built e.inside e.commits _ _ _ _ p command c.args.out.now _
          c.in_ok-text.text c.requires.follows at.stands asked.reads.reads.working
          asked.reads.reads.kept (asked.answered (seen_state p) at.whole_is at.stands.working_is)
          (c.in_ok-append.ensures.ok ∙ ap
          (λ (text : List ℕ). c.args.out.now ++ text) c.as_slice.ensures);
      full = search rules;
      ends = record {
        keeps = record {
          schema = search rules;
          built = search rules;
          inside = sym (follow_stays e.inside command c.requires.follows);
          inside_stays = search rules;
          commits_stay = search rules;
          leaves = search rules;
          limit = search rules;
          head = search rules;
          silent = search rules;
          whole = search rules;
          kept_whole = search rules;
          keeps = search rules;
          work = λ none. absurd (true≢false
              (sym (follow_selects command c.requires.follows) ∙ none));
        };
        stopped = search rules;
        fresh = λ whole. follow_fresh g.B.View command _ c.requires.follows;
        unsaid = search rules;
        kept = search rules;
        cause = search rules;
        block = search rules;
      };
    }
