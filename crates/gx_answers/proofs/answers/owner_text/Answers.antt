use Rattle.std.proofs.Common.{subst}
use Rattle.gx_schema.specs.Lookups.{link_at}
use Rattle.gx_commands.specs.declared.command.Command.TheVariants as command
use Rattle.gx_linksets.specs.Any.{any_link_rule, IsHeldBy, IsValidLinkset}
use Rattle.gx_model.specs.States.{State, file_in, link_in}
use Rattle.gx_pairs.specs.declared.owners.Owned.{Owned}
use Rattle.gx_pairs.specs.declared.owners.Owned.TheVariants as owned
use Rattle.gx_pairs.specs.Owners.{IsOwned}
use Rattle.gx_states.specs.Internal.{AreInternal}
use Rattle.gx_scan.proofs.CallLemmas.{ok_one}
use Rattle.gx_states.proofs.StoredLemmas.{is_stored, is_linked_in, have_link}
use Rattle.gx_answers.proofs.AnswerLemmas.{answers_stopped, answers_ok, answers_line, owner_refused, owner_free, owner_found}
use Rattle.gx_answers.proofs.answers.owner_text.Goals as goal

pub find_owner-requires-clause-stored : goal.find_owner-requires-clause-stored
find_owner-requires-clause-stored g c =
    is_stored any_link_rule IsHeldBy IsValidLinkset c.args.schema.now c.args.built.now _ c.args.link
    c.stored_link-stored.result c.requires.ready c.requires.of_schema.0 c.stored_link-stored.ensures

pub returns-in_err-owned : goal.returns-in_err-owned
returns-in_err-owned g c =
    let stopped = c.in_err-owned.ensures in
    answers_stopped g.B.View c.args.schema.now c.args.built.now
    (command.Owner c.args.link c.args.member.now)
    c.args.leaves.now c.find_owner.new.leaves c.from_residual.result c.from_residual.ensures.1
    (λ sound. (
      sound.0,
      have_link any_link_rule IsHeldBy IsValidLinkset c.args.schema.now c.args.built.now _
          c.args.link c.stored_link-stored.result c.requires.ready c.requires.of_schema.0
          c.stored_link-stored.ensures _ sound.1,
    ))
    stopped.reads

pub returns-in_ok-refusal_text-in-NoMember : goal.returns-in_ok-refusal_text-in-NoMember
returns-in_ok-refusal_text-in-NoMember g c =
    let schema = c.args.schema.now in
    let built = c.args.built.now in
    let i = c.args.link in
    let member = c.args.member.now in
    answers_ok g.B.View schema built
    (command.Owner i member) c.args.leaves.now c.find_owner.new.leaves _ c.in_ok-owned.owned _
    c.in_ok-owned.ensures.reads
    (λ s whole are.
    let linked = is_linked_in any_link_rule IsHeldBy IsValidLinkset schema built _ i
    c.stored_link-stored.result c.requires.ready c.requires.of_schema.0 c.stored_link-stored.ensures
    _ s are in
    let found = subst (λ (o : Owned). IsOwned (file_in s (link_at schema i).owner)
    (file_in s (link_at schema i).member) (link_in s i) member o) c.in-NoMember.is
    (c.in_ok-owned.ensures.found _ _ _ whole linked) in
    owner_refused schema s i member _ found c.in_ok-refusal_text-in-NoMember.ensures)
    (λ s whole are. tt)

pub returns-in_ok-none_text-in-Free : goal.returns-in_ok-none_text-in-Free
returns-in_ok-none_text-in-Free g c =
    let schema = c.args.schema.now in
    let built = c.args.built.now in
    let i = c.args.link in
    let member = c.args.member.now in
    answers_ok g.B.View schema built
    (command.Owner i member) c.args.leaves.now c.find_owner.new.leaves _ c.in_ok-owned.owned _
    c.in_ok-owned.ensures.reads
    (λ s whole are.
    let linked = is_linked_in any_link_rule IsHeldBy IsValidLinkset schema built _ i
    c.stored_link-stored.result c.requires.ready c.requires.of_schema.0 c.stored_link-stored.ensures
    _ s are in
    let found = subst (λ (o : Owned). IsOwned (file_in s (link_at schema i).owner)
    (file_in s (link_at schema i).member) (link_in s i) member o) c.in-Free.is
    (c.in_ok-owned.ensures.found _ _ _ whole linked) in
    owner_free schema s i member _ found.0 found.1 c.in_ok-none_text-in-Free.ensures)
    (λ s whole are. tt)

pub returns-in-By : goal.returns-in-By
returns-in-By g c =
    let schema = c.args.schema.now in
    let built = c.args.built.now in
    let i = c.args.link in
    let member = c.args.member.now in
    let line = c.owner_line.ensures in
    let by : (s : State) → g.B.View.whole c.args.leaves.now
    → AreInternal schema built (g.B.View.working c.args.leaves.now) s
    → IsOwned (file_in s (link_at schema i).owner) (file_in s (link_at schema i).member)
    (link_in s i) member
    (owned.By c.in-By.record) =
    λ s whole are.
    let linked = is_linked_in any_link_rule IsHeldBy IsValidLinkset schema built _ i
    c.stored_link-stored.result c.requires.ready c.requires.of_schema.0 c.stored_link-stored.ensures
    _ s are in
    subst (λ (o : Owned). IsOwned (file_in s (link_at schema i).owner)
    (file_in s (link_at schema i).member)
    (link_in s i) member o) c.in-By.is (c.in_ok-owned.ensures.found _ _ _ whole linked) in
    answers_line g.B.View schema built
    (command.Owner i member) c.args.leaves.now c.find_owner.new.leaves _ c.in_ok-owned.owned
    c.owner_line.result c.in_ok-owned.ensures.reads
    (λ s whole are.
    let found = by s whole are in
    ok_one c.owner_line.result _ _ (line.line (found.1, found.2) found.5)
    (λ text is. owner_found schema s i member found.1 found.2 _ text found.0 found.3 found.4
    c.stored_link-stored.ensures.owner_file is))
    (λ s whole are. tt)
    (λ n e sound. let found = by sound.1.0 sound.0 sound.1.1 in
    line.no_damage (found.1, found.2) n found.5 e)
    line.block line.no_fault line.not_full
