use Rattle.std.proofs.Common.{◌≤◌, ◌<◌, ◌+◌, ◌*◌, ◌++◌, ◌∙◌, ℕ, List, length, sym, ap, subst, rules}
use Rattle.std.specs.FinMap as fin
use Rattle.gx_values.specs.Values.{Fits}
use Rattle.gx_schema.specs.Lookups.{file_at, link_at, key_kind}
use Rattle.gx_commands.specs.declared.path.Way.TheVariants.{Up}
use Rattle.gx_model.specs.States.{State, Row, IsValid, file_in, link_in}
use Rattle.gx_model.specs.Play.{seen_state}
use Rattle.gx_pairs.specs.Owners.{owner_look_ups}
use Rattle.gx_engine.specs.declared.engine.Engine.{Engine}
use Rattle.gx_engine.specs.Records.{most_in}
use Rattle.gx_engine.specs.Steps.{schema_of, built_of, leaves_of}
use Rattle.gx_engine.proofs.RecordLemmas.{owner_looks_few}
use Rattle.gx_walks.specs.Walks.{linked}
use Rattle.gx_walks.proofs.EngineLemmas.{rows_appended, nothing_added, none_up, owner_rows, few_looks}
use Rattle.gx_walks.proofs.StepLemmas.{on_ok_map}
use Rattle.gx_walks.proofs.reading.read_owner.Goals as goal

pub returns-then-not-is_key-clause-found : goal.returns-then-not-is_key-clause-found
returns-then-not-is_key-clause-found g c = λ s shows.
    let schema = schema_of c.args.engine.now in
    let file = (link_at schema c.args.link).member in
    let valid : IsValid schema s =
    subst (IsValid schema) shows.2 shows.1.stands.working_is.valid in
    let within : file < length schema.files =
    (c.requires.can.well_formed.links c.args.link c.requires.link).member in
    let unfit : Fits (key_kind (file_at schema file)) c.args.member.now → ⊥ = search rules in
    nothing_added c.args.out.now.items
    (linked s (link_at schema c.args.link).owner (Up c.args.link) c.args.member.now)
    (none_up schema s c.args.link c.args.member.now valid c.requires.link within unfit)

pub returns-clause-found : goal.returns-clause-found
returns-clause-found g c = λ s shows.
    let out = c.args.out.now.items in
    let file = (link_at (schema_of c.args.engine.now) c.args.link).owner in
    let seen = seen_state shows.0 in
    let to : State → List Row = λ x. linked x file (Up c.args.link) c.args.member.now in
    let made = c.in_ok-owner_of.ensures.found shows.0 shows.1 in
    on_ok_map c.add_rows.result (λ is.
    rows_appended out c.add_rows.new.out.items c.new-found.result c.owner_of.new.out made.0
    c.new-found.ensures made.2 is
    ∙ ap (λ (rows : List Row). out ++ rows) (owner_rows (file_in seen file)
    (fin.get (link_in seen c.args.link) c.args.member.now) made.0 made.1 ∙ ap to shows.2))
    c.add_rows.ensures.added

pub returns-clause-steps : goal.returns-clause-steps
returns-clause-steps g c = λ s shows finds.
    let work : Engine _ → ℕ = λ e. g.B.View.work (leaves_of e) in
    let old = c.args.engine.now in
    let mid = c.owner_of.new.self in
    let file = (link_at (schema_of old) c.args.link).owner in
    let seen = seen_state shows.0 in
    let o = fin.get (link_in seen c.args.link) c.args.member.now in
    let to : State → List Row = λ x. linked x file (Up c.args.link) c.args.member.now in
    let cost : State → ℕ = λ x. most_in (built_of old) x + length (g.B.View.working (leaves_of old)) in
    let made = c.in_ok-owner_of.ensures.found shows.0 shows.1 in
    let few : owner_look_ups o ≤ 2 * (length (to seen) + 1) =
    subst (λ (rows : List Row). owner_look_ups o ≤ 2 * (length rows + 1))
    (owner_rows (file_in seen file) o made.0 made.1)
    (owner_looks_few (file_in seen file) o made.0 made.1) in
    let steps : work mid ≤ work old + owner_look_ups o * cost seen =
    c.in_ok-owner_of.ensures.steps finds shows.0 shows.1 in
    on_ok_map c.add_rows.result (λ still.
    subst (λ e. work e ≤ work old + 2 * (length (to s) + 1) * cost s) (sym still)
    (subst (λ (x : State). work mid ≤ work old + 2 * (length (to x) + 1) * cost x) shows.2
    (few_looks (owner_look_ups o) (2 * (length (to seen) + 1)) (work old) (work mid) (cost seen)
    few steps))) c.add_rows.ensures.still
