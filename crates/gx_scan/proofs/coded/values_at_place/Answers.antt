use Rattle.std.proofs.Common.{◌≡◌, ◌∙◌, List, Option, Some, sym, ap}
use Rattle.std.specs.Option.{option_map}
use Rattle.std.proofs.lemmas.Option.{same_Some}
use Rattle.gx_values.specs.declared.values.Value.{Value}
use Rattle.gx_ports.specs.declared.leaves.Entry.{Entry}
use Rattle.gx_model.specs.States.{Row}
use Rattle.gx_scan.specs.Entries.{entry_of_row, IsStoredRow}
use Rattle.gx_scan.proofs.OnePlaceLemmas.{none_there, one_there}
use Rattle.gx_scan.proofs.coded.values_at_place.Goals as goal

pub returns-then-is_empty-clause-read : goal.returns-then-is_empty-clause-read
returns-then-is_empty-clause-read c = λ one all same.
    let place = c.args.place.now in
    let none = none_there (entry_of_row place.lengths place.codes) one c.args.entries.now same
    (c.is_empty.ensures.0 c.if-is_empty.true) in
    ap (λ (o : Option Row). Some (option_map (λ (r : Row). r.1) o)) (sym none)

pub returns-in-Some-clause-read : goal.returns-in-Some-clause-read
returns-in-Some-clause-read c = λ one all same.
    let place = c.args.place.now in
    let e : Entry = record { key = c.entry.result.key.now; body = c.entry.result.body.now } in
    let at = one_there (IsStoredRow c.args.file.now place.codes)
    (entry_of_row place.lengths place.codes) one c.args.entries.now e all same c.entry.ensures
    in
    let read = c.in_ok-values.ensures.read at.0 at.2 (ap (λ (x : Entry). x.body) at.3) in
    let values : c.in-Some.values ≡ at.0.1 =
    same_Some c.in-Some.values at.0.1 (sym c.in-Some.is ∙ read) in
    ap (λ (vs : List Value). Some (Some vs)) values
    ∙ ap (λ (o : Option Row). Some (option_map (λ (r : Row). r.1) o)) (sym at.1)

pub returns-in-None-clause-read : goal.returns-in-None-clause-read
returns-in-None-clause-read c = λ one all same.
    let place = c.args.place.now in
    let e : Entry = record { key = c.entry.result.key.now; body = c.entry.result.body.now } in
    let at = one_there (IsStoredRow c.args.file.now place.codes)
    (entry_of_row place.lengths place.codes) one c.args.entries.now e all same c.entry.ensures
    in
    let read = c.in_ok-values.ensures.read at.0 at.2 (ap (λ (x : Entry). x.body) at.3) in
    let none = c.in-None.is in
    cc
