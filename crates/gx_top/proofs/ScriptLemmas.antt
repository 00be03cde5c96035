-- A script is played by one text.
use Rattle.std.proofs.Common.{◌≡◌, ℕ, List, ◌++◌, sym, subst, ◌∙◌}
use Rattle.gx_device.specs.Content.{Content, Texts}
use Rattle.gx_schema.specs.declared.schema.Schema.{Schema}
use Rattle.gx_schema.specs.Grammar.{IsSchemaText}
use Rattle.gx_schema.proofs.SchemaLaws.{one_schema}
use Rattle.gx_commands.specs.Lines.{script_lines}
use Rattle.gx_model.specs.States.{State}
use Rattle.gx_model.specs.Play.{End, end_text, start_at}
use Rattle.gx_play.proofs.AskedLemmas.{play_once}
use Rattle.gx_requests.specs.Requests.{IsText, IsSchemaOf}
use Rattle.gx_play.specs.Played.{IsPlayText}
use Rattle.gx_operations.specs.Given.{Given}
use Rattle.gx_top.specs.Promised.{IsGiven}
use Rattle.gx_top.specs.Laws.{IsToPlay, IsWholeText, IsUnder, PlayOneScript}
use Rattle.gx_requests.specs.Words.{Action, checking, trying, explaining, making, running, sharing, inspecting, working}
use Rattle.gx_requests.proofs.AskedLemmas.{NamesSchema, same_words, text_once}

-- the schema that is played on is that of the schema text
played_named : (a : Action) → IsToPlay a → NamesSchema a
played_named checking is = absurd is
played_named trying is = tt
played_named explaining is = absurd is
played_named (making device blocks) is = absurd is
played_named (running device) is = tt
played_named (sharing device) is = absurd is
played_named (inspecting device) is = absurd is
played_named (working device blocks records) is = absurd is

played_there : (a : Action) (texts : Texts) (name text : List ℕ) → IsToPlay a
    → IsSchemaOf a texts name text → IsText texts name text
played_there trying texts name text plays is = is
played_there (running device) texts name text plays is = is
played_there checking texts name text plays is = absurd plays
played_there explaining texts name text plays is = absurd plays
played_there (making device blocks) texts name text plays is = absurd plays
played_there (sharing device) texts name text plays is = absurd plays
played_there (inspecting device) texts name text plays is = absurd plays
played_there (working device blocks records) texts name text plays is = absurd plays

schema_under : (words : List (List ℕ)) (texts : Texts) (schema : Schema) (a : Action) (g : Given)
    → IsToPlay a → IsUnder words texts schema → IsGiven words texts a g → g.schema ≡ schema
schema_under words texts schema a g plays is given =
    let asked = given.2 in
    let same = same_words words a is.action asked.schema_name is.schema_name asked.equation_name
    is.equation_name asked.words_are is.words_are in
    let there = played_there a texts asked.schema_name given.0 plays asked.schema_there in
    one_schema is.text g.schema schema
    (subst (λ s. IsSchemaText s g.schema)
    (text_once texts asked.schema_name is.schema_name given.0 is.text
    (same.schemas (played_named a plays)) there.0 is.there)
    given.3.read.schema_means)
    is.means

text_of_play : (schema : Schema) (start : State) (script : List ℕ) (end close : End) (a b : List ℕ)
    (kept left : State) → IsPlayText schema start script end a kept
    → IsPlayText schema start script close b left → a ≡ b
text_of_play schema start script end close a b kept left x y =
    let once = play_once schema (start_at start) (script_lines script) x.answers y.answers x.final
    y.final end close x.play y.play in
    x.text_is ∙ (λ i. once.0 i ++ end_text (once.2 i)) ∙ sym y.text_is

pub one_script_once : (words others : List (List ℕ)) (before other : Content) (start : State)
    (text more : List ℕ) → PlayOneScript words others before other
    → IsWholeText words before start text
    → IsWholeText others other start more → text ≡ more
one_script_once words others before other start text more one x y =
    let here = schema_under words before.aside.texts one.schema x.action x.given x.plays one.under
    x.is in
    let there = schema_under others other.aside.texts one.schema y.action y.given y.plays
    one.other_under y.is in
    let same = here ∙ sym there in
    text_of_play y.given.schema start other.script x.end y.end text more x.kept y.kept
    (subst (λ (t : List ℕ). IsPlayText y.given.schema start t x.end text x.kept) one.script
    (subst (λ (k : Schema). IsPlayText k start before.script x.end text x.kept) same x.played))
    y.played
