use Rattle.std.proofs.Common.{[], ◌+◌, ◌-◌, refl, sym, ap, ◌∙◌, subst, arith, rules}
use Rattle.std.specs.Int.{w16, to_be_bytes}
use Rattle.std.specs.List.{remove}
use Rattle.std.proofs.lemmas.List.Sums.{sum_by-take-le}
use Rattle.gx_bytes.specs.Parts.{overwritten}
use Rattle.gx_bytes.proofs.PageLemmas.{place_count, place_len}
use Rattle.gx_slots.specs.Entries.{Entry, entry_len}
use Rattle.gx_slots.specs.Page.{entries_of, next_of}
use Rattle.gx_slots.specs.Spots.{IsSpot}
use Rattle.gx_slots.proofs.EntryLemmas.{entry_format}
use Rattle.gx_slots.proofs.SpotLemmas.{spot_removed}
use Rattle.gx_slots.proofs.PageLemmas.{page_of, page_size, page_taken, used_most, entries_of-page, next_of-page}
use Rattle.gx_slots.proofs.page.take_at.Goals as goal

no_entry : Entry
no_entry = record { key = []; body = [] }

pub split_at-requires : goal.split_at-requires
split_at-requires c =
    let page = c.args.page.now in
    omega (
      arith,
      page_size page c.requires.page,
      used_most page c.requires.page,
      sum_by-take-le entry_len (entries_of page) c.args.spot.place,
      c.requires.spot.at,
    )

pub entries_len-len-requires : goal.entries_len-len-requires
entries_len-len-requires c =
    let page = c.args.page.now in
    place_count entry_format 0x44 (entries_of page) (next_of page) page c.split_at.result.1.now
    c.args.spot.place
    c.args.spot.at (page_of page c.requires.page).page c.requires.place
    c.requires.spot.at
    c.split_at.ensures.back

pub overflow_add-spot : goal.overflow_add-spot
overflow_add-spot c =
    let page = c.args.page.now in
    let len = place_len entry_format 0x44 (entries_of page)
    (next_of page) page c.split_at.result.1.now
    c.args.spot.place c.args.spot.at c.args.spot.end c.entries_len-len.result no_entry
    (page_of page c.requires.page).page c.requires.place c.requires.spot.at
    c.requires.spot.end c.split_at.ensures.back c.entries_len-len.ensures in
    omega (arith, len.1, used_most page c.requires.page, c.requires.spot.end)

pub overflow_sub-result : goal.overflow_sub-result
overflow_sub-result c =
    let page = c.args.page.now in
    let len = place_len entry_format 0x44 (entries_of page)
    (next_of page) page c.split_at.result.1.now
    c.args.spot.place c.args.spot.at c.args.spot.end c.entries_len-len.result no_entry
    (page_of page c.requires.page).page c.requires.place c.requires.spot.at
    c.requires.spot.end c.split_at.ensures.back c.entries_len-len.ensures in
    omega (arith, len.1, used_most page c.requires.page, c.requires.spot.end)

pub copy_within-requires : goal.copy_within-requires
copy_within-requires c =
    let page = c.args.page.now in
    let len = place_len entry_format 0x44 (entries_of page)
    (next_of page) page c.split_at.result.1.now
    c.args.spot.place c.args.spot.at c.args.spot.end c.entries_len-len.result no_entry
    (page_of page c.requires.page).page c.requires.place c.requires.spot.at
    c.requires.spot.end c.split_at.ensures.back c.entries_len-len.ensures in
    let most = used_most page c.requires.page in
    let size = page_size page c.requires.page in
    record {
      start_le_end = omega (arith, len.1);
      in_bounds = omega (arith, most, size, c.requires.spot.end);
      dest_in_bounds = omega (arith, most, size, c.requires.spot.end);
      not_exhausted = search rules;
    }

pub returns : goal.returns
returns c =
    let page = c.args.page.now in
    let new = c.set_record_count.new.page in
    let moved = c.copy_within.new.self in
    let entries = entries_of page in
    let next = next_of page in
    let old = page_of page c.requires.page in
    let at = c.args.spot.at in
    let len = place_len entry_format 0x44 entries next page c.split_at.result.1.now c.args.spot.place at
    c.args.spot.end c.entries_len-len.result no_entry old.page c.requires.place
    c.requires.spot.at c.requires.spot.end c.split_at.ensures.back
    c.entries_len-len.ensures in
    let counted = c.set_record_count.ensures
    ∙ ap (λ n. overwritten moved 2 (to_be_bytes w16 (n - 1))) c.count-count.ensures in
    let is = page_taken entries next page old c.args.spot.place at (at + c.entries_len-len.result)
    c.args.spot.end no_entry moved new c.requires.place c.requires.spot.at
    (ap (λ n. at + n) len.0) c.requires.spot.end c.copy_within.ensures.after counted
    (c.set_record_count.auto.page ∙ c.copy_within.ensures.len ∙ old.page.size) in
    record {
      page = record { entries = remove entries c.args.spot.place; next = next; is = is };
      entries = entries_of-page (remove entries c.args.spot.place) next new is;
      next = next_of-page (remove entries c.args.spot.place) next new is;
      place = refl;
      spot = subst (λ es. IsSpot es (record {
        place = c.args.spot.place;
        at = c.args.spot.at;
        end = c.args.spot.end - c.entries_len-len.result;
      })) (sym (entries_of-page (remove entries c.args.spot.place) next new is))
          (spot_removed entries c.args.spot (record {
            place = c.args.spot.place;
            at = c.args.spot.at;
            end = c.args.spot.end - c.entries_len-len.result;
          }) c.entries_len-len.result no_entry c.requires.spot c.requires.place len.0 refl refl
          refl);
    }
