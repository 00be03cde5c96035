use Rattle.std.proofs.Common.{◌<◌, ◌++◌, ◌∙◌, List, length, ap, subst, rules}
use Rattle.gx_values.specs.Values.{Fits}
use Rattle.gx_schema.specs.Lookups.{file_at, link_at, key_kind}
use Rattle.gx_commands.specs.declared.path.Way.TheVariants.{Down}
use Rattle.gx_model.specs.States.{State, Row, IsValid}
use Rattle.gx_engine.specs.Steps.{schema_of}
use Rattle.gx_walks.specs.Walks.{linked}
use Rattle.gx_walks.proofs.EngineLemmas.{rows_appended, nothing_added, none_down}
use Rattle.gx_walks.proofs.StepLemmas.{on_ok_map}
use Rattle.gx_walks.proofs.reading.read_members.Goals as goal

pub returns-then-not-is_key-clause-found : goal.returns-then-not-is_key-clause-found
returns-then-not-is_key-clause-found g c = λ s shows.
    let schema = schema_of c.args.engine.now in
    let file = (link_at schema c.args.link).owner in
    let valid : IsValid schema s =
    subst (IsValid schema) shows.2 shows.1.stands.working_is.valid in
    let within : file < length schema.files =
    (c.requires.can.well_formed.links c.args.link c.requires.link).owner in
    let unfit : Fits (key_kind (file_at schema file)) c.args.owner.now → ⊥ = search rules in
    nothing_added c.args.out.now.items
    (linked s (link_at schema c.args.link).member (Down c.args.link) c.args.owner.now)
    (none_down schema s c.args.link c.args.owner.now valid c.requires.link within unfit)

pub returns-clause-found : goal.returns-clause-found
returns-clause-found g c = λ s shows.
    let out = c.args.out.now.items in
    let to : State → List Row = λ x. linked x (link_at (schema_of c.args.engine.now)
    c.args.link).member (Down c.args.link) c.args.owner.now in
    let made = c.in_ok-members_of.ensures.found shows.0 shows.1 in
    on_ok_map c.add_rows.result (λ is.
    rows_appended out c.add_rows.new.out.items c.new-found.result c.members_of.new.out made.0
    c.new-found.ensures made.2 is
    ∙ ap (λ (rows : List Row). out ++ rows) (made.1 ∙ ap to shows.2)) c.add_rows.ensures.added
