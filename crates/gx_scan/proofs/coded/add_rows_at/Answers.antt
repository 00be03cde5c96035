use Rattle.std.proofs.Common.{◌≡◌, map, subst}
use Rattle.gx_ports.specs.LeafMaps.{entry_of}
use Rattle.gx_model.specs.States.{Row}
use Rattle.gx_scan.specs.Entries.{entry_of_row}
use Rattle.gx_scan.proofs.EntryLemmas.{rows_fit}
use Rattle.gx_scan.proofs.coded.add_rows_at.Goals as goal

pub returns-then-is_empty : goal.returns-then-is_empty
returns-then-is_empty c = record {
  chosen = λ rs is.
      let all = is.0 in
      let same = is.1 in
      let place = c.args.place.now in
      let none = c.is_empty.ensures.yes c.if-is_empty.true in
      c.add_chosen_rows.ensures.chosen rs (
        rows_fit c.args.file.now place.codes rs all,
        subst (λ cs. c.args.entries.now
            ≡ map (λ (r : Row). entry_of (entry_of_row place.lengths cs r)) rs) none same,
      );
  front = c.add_chosen_rows.ensures.front;
  fit = c.add_chosen_rows.ensures.fit;
}
