use Rattle.std.proofs.Common.{◌≡◌, ℕ, ◌+◌, ◌-◌, ◌≤◌, List, [], ◌∷◌, ◌++◌, length, ◌∙◌, refl, sym, ap, subst, arith}
use Rattle.std.specs.List.{sum_by}
use Rattle.std.proofs.lemmas.Bool.Decides.{Decides-eqb}
use Rattle.std.proofs.lemmas.Slice.Eq.{slice_eq-Decides}
use Rattle.gx_bytes.proofs.RecordLemmas.{length-records}
use Rattle.gx_bytes.proofs.ScanLemmas.{scanned_first, scanned_more, scanned_all, none_first, no_more, not_ascending}
use Rattle.gx_order.proofs.BelowLemmas.{below_is_less, not_below_is_le}
use Rattle.gx_slots.specs.declared.seeking.Sought.{Sought}
use Rattle.gx_slots.specs.Entries.{Entry, AreAscending, entry_len, entries_in, lent}
use Rattle.gx_slots.specs.Scan.{HoldsAscending}
use Rattle.gx_slots.specs.Spots.{IsSought}
use Rattle.gx_slots.proofs.EntryLemmas.{entry_format}
use Rattle.gx_slots.proofs.SpotLemmas.{sought_at, parts_sought, sought_parts, none_there, passed_on, passed_less, passed_stop, scan_up, scan_len, scan_more, scan_one}
use Rattle.gx_slots.proofs.seeking.seek_among.Goals as goal
use Rattle.gx_slots.proofs.seeking.seek_among.Goals.{then-spot-place+then-is_below, then-spot-place+else-is_below, else-spot-place}

abbrev key_of : Entry → List ℕ
key_of entry = entry.key

pub returns-in_err-first : goal.returns-in_err-first
returns-in_err-first c =
    rw c.from_residual.ensures (λ held. none_first entry_format key_of c.args.bytes.now
    c.args.count c.requires c.in_err-first.ensures held)

pub loop-place-init : goal.loop-place-init
loop-place-init c =
    let found = c.in_ok-first.ensures in
    let bytes = c.args.bytes.now in
    let behind = c.in_ok-first.behind.now in
    let entry = lent (c.in_ok-first.first, c.in_ok-first.field-0-0-1) in
    let one = scan_one bytes entry behind found.0 found.1 in
    let scan = scanned_first entry_format key_of bytes entry behind found.0 found.1 in
    let len = scan_len bytes 1 behind entry.key scan in (
      scan,
      subst (λ es. IsSought c.args.key.now es
          (sought_at c.begin-start.result.spot.place c.begin-start.result.spot.at
          c.begin-start.result.is_there es)) (sym one)
          (parts_sought c.args.key.now (entry ∷ []) c.begin-start.result
          (c.begin-start.ensures entry refl
          (let sum : sum_by entry_len (entries_in 1 bytes) ≡ sum_by entry_len (entry ∷ []) =
          ap (sum_by entry_len) one in omega (arith, len, sum)))),
    )

pub returns-in_err-found : goal.returns-in_err-found
returns-in_err-found c =
    rw c.from_residual-in_err-found.ensures (λ held. no_more entry_format key_of
    c.args.bytes.now c.loop-place.place c.loop-place.rest.now c.loop-place.last.now c.args.count
    c.loop-place.invariant.0 c.loop-place-test.true c.in_err-found.ensures held)

pub returns-then-not-is_below : goal.returns-then-not-is_below
returns-then-not-is_below c =
    let found = c.in_ok-found.ensures in
    λ held. not_ascending entry_format key_of c.args.bytes.now c.loop-place.place
    c.loop-place.rest.now c.loop-place.last.now c.args.count
    (lent (c.in_ok-found.found, c.in_ok-found.field-0-0-1))
    c.in_ok-found.behind.now
    c.loop-place.invariant.0 c.loop-place-test.true found.0 found.1
    (sym c.if-not-is_below.ensures) held

pub loop-place-preserved : goal.loop-place-preserved
loop-place-preserved c =
    let found = c.in_ok-found.ensures in
    let bytes = c.args.bytes.now in
    let place = c.loop-place.place in
    let entry = lent (c.in_ok-found.found, c.in_ok-found.field-0-0-1) in
    let behind = c.in_ok-found.behind.now in
    let old = c.loop-place.invariant.0 in
    let scan = scanned_more entry_format key_of bytes place c.loop-place.rest.now
    c.loop-place.last.now entry behind old found.0 found.1 (below_is_less c.loop-place.last.now
    c.in_ok-found.found.now c.is_below.result c.is_below.ensures
    c.if-not-is_below.false) in
    let more = scan_more bytes place c.loop-place.rest.now c.loop-place.last.now old entry behind
    found.0 found.1 in
    let len = scan_len bytes (place + 1) behind entry.key scan in
    let key = c.args.key.now in
    let front = entries_in place bytes in
    let size = length-records entry_format place bytes in
    let was = sought_at c.loop-place.spot c.loop-place.at c.loop-place.is_there front in
    let is = c.loop-place.invariant.1 in
    let now = sought_at c.if-spot-place.spot c.if-spot-place.at c.if-spot-place.is_there
    (front ++ entry ∷ []) in (
      scan,
      subst (λ es. IsSought key es (sought_at c.if-spot-place.spot c.if-spot-place.at
          c.if-spot-place.is_there es)) (sym more)
          (elim c.if-spot-place.branch [
            | then-spot-place+then-is_below w ↦
                let over : length front ≤ was.spot.place =
                (let e = w.if-spot-place.true in omega (arith, e, size)) in
                passed_less key front entry was now is over
                (let e = w.spot-is in omega (arith, e, size))
                (let sum = ap (sum_by entry_len) more in let e = w.at-is in
                omega (arith, len, sum, e))
                refl
                (w.is_there-is ∙ none_there key front was is over)
                (below_is_less c.in_ok-found.found.now key w.is_below-then-spot-place.result
                w.is_below-then-spot-place.ensures w.if-is_below.true)
            | then-spot-place+else-is_below w ↦
                let same = slice_eq-Decides Decides-eqb _ _ _ w.eq-is_there.ensures in
                passed_stop key front entry was now is
                (let e = w.if-spot-place.true in omega (arith, e, size))
                w.spot-is w.at-is refl
                (not_below_is_le c.in_ok-found.found.now key w.is_below-then-spot-place.result
                w.is_below-then-spot-place.ensures w.if-is_below.false)
                (λ there. same.0 (sym w.is_there-is ∙ there), λ e. w.is_there-is ∙ same.1 e)
            | else-spot-place w ↦
                passed_on key front entry was now
                (subst AreAscending more (scan_up bytes (place + 1) behind entry.key scan)) is
                (let e = w.if-spot-place.false in let within = is.spot.place in
                omega (arith, e, within, size))
                w.spot-is w.at-is refl w.is_there-is
          ]),
    )

pub returns : goal.returns
returns c =
    let bytes = c.args.bytes.now in
    let scan = c.loop-place.invariant.0 in
    let len = scan_len bytes c.loop-place.place c.loop-place.rest.now c.loop-place.last.now scan in
    let found : Sought = record {
      spot = record {
        place = c.loop-place.spot;
        at = c.loop-place.at;
        end = 8 + (length bytes - length c.loop-place.rest.now);
      };
      is_there = c.loop-place.is_there;
    } in
    let end : c.loop-place.place ≡ c.args.count =
    omega (arith, c.loop-place-test.false, c.loop-place.auto.place-end c.requires) in (
      subst (λ (n : ℕ). HoldsAscending n bytes) end
          (scanned_all entry_format key_of bytes c.loop-place.place c.loop-place.rest.now
          c.loop-place.last.now scan),
      subst (λ (n : ℕ). IsSought c.args.key.now (entries_in n bytes) found) end
          (sought_parts c.args.key.now (entries_in c.loop-place.place bytes) found
          c.loop-place.invariant.1 (omega (arith, len))),
    )
