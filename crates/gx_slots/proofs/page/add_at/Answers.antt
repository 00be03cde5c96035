use Rattle.std.proofs.Common.{◌+◌, ◌-◌, ◌≤◌, refl, ap, ◌∙◌, arith, rules}
use Rattle.std.specs.Int.{w16, to_be_bytes}
use Rattle.std.specs.List.{insert, copy_within}
use Rattle.std.proofs.lemmas.List.Sums.{sum_by-insert}
use Rattle.gx_bytes.specs.Parts.{overwritten}
use Rattle.gx_slots.specs.Entries.{Entry, entry_len}
use Rattle.gx_slots.specs.Page.{entries_of, next_of}
use Rattle.gx_slots.proofs.PageLemmas.{used_most, four_each, three_leave_room, page_of, page_added, entries_of-page, next_of-page}
use Rattle.gx_slots.proofs.page.add_at.Goals as goal

pub overflow_sub-spot : goal.overflow_sub-spot
overflow_sub-spot c =
    omega (arith, used_most c.args.page.now c.requires.page, c.requires.spot.end)

pub overflow_add-count : goal.overflow_add-count
overflow_add-count c =
    let page = c.args.page.now in
    omega
    (arith, used_most page c.requires.page, four_each (entries_of page), c.count-count.ensures)

pub returns : goal.returns
returns c =
    let page = c.args.page.now in
    let entries = entries_of page in
    let next = next_of page in
    let entry : Entry = record { key = c.args.key.now; body = c.args.body.now } in
    let is = page_of page c.requires.page in
    let room : entry_len entry ≤ 4096 - c.args.spot.end =
    omega (arith, c.entry_len-len.ensures) in
    let new = page_added entries next page is c.args.spot.place entry c.args.spot.at
    c.args.spot.end c.copy_within.new.self
    c.write_entry.new.bytes c.set_record_count.new.page
    c.requires.spot.place c.requires.other c.requires.fit c.requires.spot.at
    c.requires.spot.end room
    (c.copy_within.ensures.after
    ∙ ap
    (λ n. copy_within page c.args.spot.at c.args.spot.end (c.args.spot.at + n))
    c.entry_len-len.ensures) c.write_entry.ensures (c.set_record_count.ensures
    ∙ ap (λ n. overwritten c.write_entry.new.bytes 2 (to_be_bytes w16 (n + 1)))
    c.count-count.ensures)
    (c.set_record_count.auto.page ∙ c.write_entry.auto.bytes ∙ c.copy_within.ensures.len
    ∙ is.page.size) in
    record {
      page = record { entries = insert entries c.args.spot.place entry; next = next; is = new };
      room = (
        λ _. omega (
          arith,
          room,
          c.requires.spot.end,
          sum_by-insert entry_len entries c.args.spot.place entry,
        ),
        λ _. refl,
      );
      few = λ _. refl;
      added = entries_of-page (insert entries c.args.spot.place entry) next c.set_record_count.new.page new;
      full = search rules;
      next = next_of-page (insert entries c.args.spot.place entry) next c.set_record_count.new.page new;
    }

pub returns-then-len-spot-clause-few : goal.returns-then-len-spot-clause-few
returns-then-len-spot-clause-few c = λ few.
    let page = c.args.page.now in
    let entries = entries_of page in
    let entry : Entry = record { key = c.args.key.now; body = c.args.body.now } in
    let room = three_leave_room entries c.args.spot.place entry (page_of page c.requires.page).page.holds.fit
    few c.requires.fit in
    absurd (omega (
      arith,
      room,
      sum_by-insert entry_len entries c.args.spot.place entry,
      c.requires.spot.end,
      c.entry_len-len.ensures,
    ))
