use Rattle.std.proofs.Common.{◌≡◌, ◌-◌, ◌++◌, ◌∙◌, List, ℕ, Err, [], length, take, drop, refl, sym, ap, subst, arith}
use Rattle.std.specs.Prelude.{IfErr}
use Rattle.std.proofs.lemmas.List.{take_all, length-drop}
use Rattle.gx_commands.specs.Lines.{with_line}
use Rattle.gx_reader.specs.Reader.{meant, number_of}
use Rattle.gx_reader.proofs.FoundLemmas.{found_line, found_passes, found_none, found_within, none_passes}
use Rattle.gx_play.proofs.PlayLemmas.{is_err}
use Rattle.gx_explain.specs.Explaining.{fields_in, HasEndCause, IsExplainedOn, IsSoFar}
use Rattle.gx_explain.proofs.ExplainLemmas.{at_line_end, end_cause}
use Rattle.gx_explain.proofs.explanation.explain_piece.Goals as goal

pub loop-count-init : goal.loop-count-init
loop-count-init g c = record {
  stays_open = c.requires.open;
  taken = refl;
  so_far = λ told all rest start so. so;
  rest_is = record { script = refl; aside = refl; shelf = refl };
  devices = record { blocks = refl; pending = refl; shelf = refl };
  counted = refl;
}

pub loop-count-preserved : goal.loop-count-preserved
loop-count-preserved g c =
    let content = g.D.Device.content in
    let schema = c.args.schema.now in
    let indexed = fields_in schema c.args.built.now.files in
    let old = c.loop-count.rest.now in
    let reader = c.next_line.new.reader in
    let count = c.in-Some.count in
    let passes = found_passes c.in_ok-count.field-0 count (length old) c.loop-count.reader reader
    c.in-Some.is c.in_ok-count.ensures.passes in
    let left : take (length old - count) (drop count old) ≡ drop count old =
    take_all (length old - count) (drop count old) (omega (arith, length-drop count old)) in
    record {
      stays_open = passes.stays_open;
      taken = omega (
        arith,
        passes.left,
        c.loop-count.invariant.taken,
        (found_within c.in_ok-count.field-0 count (length old) c.in-Some.is
            c.in_ok-count.ensures.within).1,
        ap (λ (l : List ℕ). length l) left,
        length-drop count old,
      );
      so_far = λ told all rest start so.
          let number : c.number.result ≡ number_of reader = c.number.ensures in
          subst (λ (l : List ℕ). IsSoFar schema indexed all (meant reader (l ++ rest))
          (number_of reader) c.in_ok-open.open start (content c.explain_line.new.device))
          (sym left)
          (subst (λ n. IsSoFar schema indexed all (meant reader (drop count old ++ rest)) n
          c.in_ok-open.open start (content c.explain_line.new.device)) number
          (c.in_ok-open.ensures.said told all (meant c.loop-count.reader (old ++ rest))
          (meant reader (drop count old ++ rest)) (number_of c.loop-count.reader) start
          (number ∙ passes.number)
          (found_line c.in_ok-count.field-0 count old rest c.loop-count.reader reader c.in-Some.is
          (c.in_ok-count.ensures.next rest)
          ∙ ap (λ (l : List ℕ). with_line l (meant reader (drop count old ++ rest)))
          (sym c.line.ensures.line)) (c.loop-count.invariant.so_far told all rest start so)));
      rest_is = record {
        script = c.explain_line.ensures.rest.script ∙ c.loop-count.invariant.rest_is.script;
        aside = c.explain_line.ensures.rest.aside ∙ c.loop-count.invariant.rest_is.aside;
        shelf = c.explain_line.ensures.rest.shelf ∙ c.loop-count.invariant.rest_is.shelf;
      };
      devices = record {
        blocks = c.explain_line.ensures.devices.blocks ∙ c.loop-count.invariant.devices.blocks;
        pending = c.explain_line.ensures.devices.pending ∙ c.loop-count.invariant.devices.pending;
        shelf = c.explain_line.ensures.devices.shelf ∙ c.loop-count.invariant.devices.shelf;
      };
      counted = c.in_ok-open.ensures.counted refl ∙ c.loop-count.invariant.counted;
    }

pub returns-in_err-count-clause-said : goal.returns-in_err-count-clause-said
returns-in_err-count-clause-said g c = λ told all rest start so.
    let content = g.D.Device.content in
    let schema = c.args.schema.now in
    let indexed = fields_in schema c.args.built.now.files in
    let reader = c.next_line.new.reader in
    let now = content c.loop-count.device in
    let end = c.in_err-count.field-0.0 in
    subst (IsExplainedOn schema indexed all (meant reader rest) (number_of reader) start now)
    (sym (is_err _ _ c.from_residual.ensures.1))
    (at_line_end schema indexed all (meant c.loop-count.reader (c.loop-count.rest.now ++ rest))
    (number_of c.loop-count.reader) c.loop-count.open end (Err end) start now
    (c.loop-count.invariant.so_far told all rest start so) refl (c.in_err-count.ensures.none rest))

pub returns-in_err-count-clause-cause : goal.returns-in_err-count-clause-cause
returns-in_err-count-clause-cause g c =
    subst (λ r. IfErr r (HasEndCause (g.D.Device.faults c.args.device.now)
    (g.D.Device.faults c.loop-count.device))) (sym (is_err _ _ c.from_residual.ensures.1))
    (end_cause _ _ c.in_err-count.field-0.0 _ _ (c.in_err-count.ensures.none []))

pub returns-in_err-open-clause-said : goal.returns-in_err-open-clause-said
returns-in_err-open-clause-said g c = λ told all rest start so.
    let content = g.D.Device.content in
    let schema = c.args.schema.now in
    let indexed = fields_in schema c.args.built.now.files in
    let old = c.loop-count.rest.now in
    let reader = c.next_line.new.reader in
    let count = c.in-Some.count in
    let passes = found_passes c.in_ok-count.field-0 count (length old) c.loop-count.reader reader
    c.in-Some.is c.in_ok-count.ensures.passes in
    subst (IsExplainedOn schema indexed all (meant reader rest) (number_of reader) start
    (content c.explain_line.new.device)) (sym (is_err _ _ c.from_residual-in_err-open.ensures.1))
    (c.in_err-open.ensures.said told all (meant c.loop-count.reader (old ++ rest))
    (meant reader (drop count old ++ rest)) (number_of c.loop-count.reader) start
    (c.number.ensures ∙ passes.number)
    (found_line c.in_ok-count.field-0 count old rest c.loop-count.reader reader c.in-Some.is
    (c.in_ok-count.ensures.next rest)
    ∙ ap (λ (l : List ℕ). with_line l (meant reader (drop count old ++ rest)))
    (sym c.line.ensures.line)) (c.loop-count.invariant.so_far told all rest start so))

pub returns-clause-said : goal.returns-clause-said
returns-clause-said g c = λ told all rest start so.
    let content = g.D.Device.content in
    let schema = c.args.schema.now in
    let indexed = fields_in schema c.args.built.now.files in
    let old = c.loop-count.rest.now in
    let reader = c.next_line.new.reader in
    let now = content c.loop-count.device in
    let passes = none_passes c.in_ok-count.field-0 (length old) c.loop-count.reader reader
    c.in_default.is c.in_ok-count.ensures.passes in
    let number : number_of c.loop-count.reader ≡ number_of reader = omega (arith, passes.number) in
    subst (λ n. IsSoFar schema indexed all (meant reader rest) n c.loop-count.open start now) number
    (subst (λ ls. IsSoFar schema indexed all ls (number_of c.loop-count.reader) c.loop-count.open
    start now)
    (found_none c.in_ok-count.field-0 old rest c.loop-count.reader reader c.in_default.is
    (c.in_ok-count.ensures.next rest))
    (c.loop-count.invariant.so_far told all rest start so))
