use Rattle.std.proofs.Common.{◌≡◌, ◌∙◌, rules, refl, sym, subst, ap, Bool, false, List, ℕ}
use Rattle.std.specs.Prelude.{IsTrue}
use Rattle.gx_device.specs.Content.{Aside, Texts}
use Rattle.gx_play.specs.declared.ending.Ending.{Ending}
use Rattle.gx_requests.specs.Checked.{IsAcceptedAs}
use Rattle.gx_requests.specs.Requests.{IsNamed, IsText, IsUnfetched, IsUnprepared}
use Rattle.gx_requests.specs.Words.{AskOfTwo}
use Rattle.gx_requests.proofs.RequestLemmas.{all_checked, asked_of_two, equation_named}
use Rattle.gx_requests.proofs.RequestLemmas.{passed_on, schema_named, unfetched}
use Rattle.gx_requests.proofs.FetchLemmas.{fetched_on}
use Rattle.gx_requests.proofs.reading.read_texts.Goals as goal

-- why it wasn't fetched after another text was
unfetched_then : (tells : Bool) (words : List (List ℕ)) (texts left : Texts)
    (before between now : ℕ) (name : List ℕ) (why : Ending) → IsTrue tells
    → IsNamed words texts name → left ≡ texts → between ≡ before
    → IsUnfetched tells left between now name why → IsUnprepared words texts before now why
unfetched_then tells words texts left before between now name why told named same counted is =
    unfetched tells words texts before now name why told named
    (subst (λ (b : ℕ). IsUnfetched tells texts b now name why) counted
    (subst (λ (t : Texts). IsUnfetched tells t between now name why) same is))

pub returns-clause-accepted : goal.returns-clause-accepted
returns-clause-accepted g c = λ told.
    let texts = (g.M.Device.content c.args.machine.now).aside.texts in
    let schema = c.args.schema.now in
    let equation = c.args.equation.now in
    let first : IsText texts schema c.deref.result.now =
    subst (λ (text : List ℕ). IsText texts schema text) (sym c.deref.ensures.value)
    (c.in_ok-schema_text.ensures.text told) in
    let second : IsText texts equation c.deref-2.result.now =
    subst (λ (text : List ℕ). IsText texts equation text) (sym c.deref-2.ensures.value)
    (subst (λ aside. IsText aside.texts equation c.in_ok-equation_text.equation_text.items)
    c.in_ok-schema_text.ensures.fetches.same.aside
    (c.in_ok-equation_text.ensures.text told)) in
    all_checked (AskOfTwo schema equation) texts _ _ c.deref.result.now c.deref-2.result.now
    c.check_texts.result
    (λ words a asks. asked_of_two words texts a schema equation c.deref.result.now
    c.deref-2.result.now asks first second)
    c.check_texts.ensures.accepted c.check_texts.ensures.unaccepted

pub returns-in_err-schema_text-clause-accepted : goal.returns-in_err-schema_text-clause-accepted
returns-in_err-schema_text-clause-accepted g c = λ told.
    let texts = (g.M.Device.content c.args.machine.now).aside.texts in
    let schema = c.args.schema.now in
    let equation = c.args.equation.now in
    let why = c.in_err-schema_text.field-0.0 in
    passed_on (AskOfTwo schema equation) IsAcceptedAs texts _ _ why c.from_residual.result
    (λ words a asks. unfetched g.M.Device.tells words texts _ _ schema why told
    (schema_named texts schema equation words a asks) c.in_err-schema_text.ensures.unfetched)
    c.from_residual.ensures.1

pub returns-in_err-equation_text-clause-accepted : goal.returns-in_err-equation_text-clause-accepted
returns-in_err-equation_text-clause-accepted g c = λ told.
    let texts = (g.M.Device.content c.args.machine.now).aside.texts in
    let schema = c.args.schema.now in
    let equation = c.args.equation.now in
    let why = c.in_err-equation_text.field-0.0 in
    let fetched = c.in_ok-schema_text.ensures.fetches in
    passed_on (AskOfTwo schema equation) IsAcceptedAs texts _ _ why
    c.from_residual-in_err-equation_text.result
    (λ words a asks. unfetched_then g.M.Device.tells words texts _ _ _ _ equation why told
    (equation_named texts schema equation words a asks
    (c.in_ok-schema_text.schema_text.items, c.in_ok-schema_text.ensures.text told))
    (ap (λ (aside : Aside). aside.texts) fetched.same.aside)
    (fetched.failures.counted (refl {a = false})) c.in_err-equation_text.ensures.unfetched)
    c.from_residual-in_err-equation_text.ensures.1

pub returns-clause-fetches : goal.returns-clause-fetches
returns-clause-fetches g c =
    let content = g.M.Device.content in
    let first = c.in_ok-schema_text.ensures.fetches in
    let then = c.in_ok-equation_text.ensures.fetches in
    record {
      same = record {
        now = then.same.now ∙ first.same.now;
        script = then.same.script ∙ first.same.script;
        aside = then.same.aside ∙ first.same.aside;
      };
      time = fetched_on (content c.args.machine.now) (content c.fetch_text.new.machine)
          (content c.fetch_text-2.new.machine) first.time then.time;
      failures = search rules;
    }
