use Rattle.std.proofs.Common.{ℕ, ◌+◌, ◌++◌, ◌<◌, ◌^◌, ◌∙◌, [], List, length, map, inl, inr, sym, ap, subst, arith, append-nil}
use Rattle.std.specs.Prelude.{IsSomeAnd}
use Rattle.std.proofs.lemmas.List.{length-drop}
use Rattle.gx_values.specs.Keys.{bytes_of}
use Rattle.gx_ports.specs.declared.leaves.Entry.{Entry}
use Rattle.gx_ports.specs.LeafMaps.{entry_of}
use Rattle.gx_actual.specs.Bodies.{body_of}
use Rattle.gx_divide.specs.Pieces.{pieces}
use Rattle.gx_scan.specs.Pieces.{numbered_entries, piece_entries}
use Rattle.gx_scan.proofs.PiecedLemmas.{IsJoined, piece_at}
use Rattle.gx_scan.proofs.pieced.values_of_some.Goals as goal

pub returns-in_default-clause-read : goal.returns-in_default-clause-read
returns-in_default-clause-read c = λ r fit same.
    let e : Entry =
    record { key = c.entry-entry.result.key.now; body = c.entry-entry.result.body.now } in
    let whole = same ∙ sym (append-nil (map entry_of (piece_entries c.args.size r))) in
    let piece = piece_at c.args.size (bytes_of r.0) 0 (body_of r.1) [] c.args.entries.now 0 e
    c.requires.some (record { ahead = whole }) c.entry-entry.ensures in
    let small : 0 < 2 ^ 64 = omega arith in
    absurd (c.in_default.ensures (bytes_of r.0) 0 small piece.key_is)

pub returns-then-entry-from-clause-read : goal.returns-then-entry-from-clause-read
returns-then-entry-from-clause-read c = λ r fit same.
    let e : Entry =
    record { key = c.entry-entry.result.key.now; body = c.entry-entry.result.body.now } in
    let whole = same ∙ sym (append-nil (map entry_of (piece_entries c.args.size r))) in
    let piece = piece_at c.args.size (bytes_of r.0) 0 (body_of r.1) [] c.args.entries.now 0 e
    c.requires.some (record { ahead = whole }) c.entry-entry.ensures in
    elim piece.is [
      | inl last ↦ c.read_values.ensures.read r fit last.body
      | inr full ↦ absurd (omega (arith, c.if-entry-from.true, full.long, c.from.ensures))
    ]

pub returns-in_default-2-clause-read : goal.returns-in_default-2-clause-read
returns-in_default-2-clause-read c = λ r fit same.
    let e : Entry =
    record { key = c.entry-entry.result.key.now; body = c.entry-entry.result.body.now } in
    let whole = same ∙ sym (append-nil (map entry_of (piece_entries c.args.size r))) in
    let piece = piece_at c.args.size (bytes_of r.0) 0 (body_of r.1) [] c.args.entries.now 0 e
    c.requires.some (record { ahead = whole }) c.entry-entry.ensures in
    let small : 0 < 2 ^ 64 = omega arith in
    let key = (c.in-Some.ensures (bytes_of r.0) 0 small piece.key_is).0 in
    let joined = c.in_ok-last.ensures.joined (body_of r.1) []
    (whole ∙ ap (λ (k : List ℕ).
    map entry_of (numbered_entries k 0 (pieces c.args.size (body_of r.1))) ++ []) (sym key)) in
    absurd (subst (λ o. IsSomeAnd o (IsJoined c.args.entries.now [] c.push_pieces.new.bytes.items
    (c.new-bytes.result.items ++ body_of r.1))) c.in_default-2.is joined)

pub returns-then-len-last-clause-read : goal.returns-then-len-last-clause-read
returns-then-len-last-clause-read c = λ r fit same.
    let e : Entry =
    record { key = c.entry-entry.result.key.now; body = c.entry-entry.result.body.now } in
    let whole = same ∙ sym (append-nil (map entry_of (piece_entries c.args.size r))) in
    let piece = piece_at c.args.size (bytes_of r.0) 0 (body_of r.1) [] c.args.entries.now 0 e
    c.requires.some (record { ahead = whole }) c.entry-entry.ensures in
    let small : 0 < 2 ^ 64 = omega arith in
    let key = (c.in-Some.ensures (bytes_of r.0) 0 small piece.key_is).0 in
    let joined = c.in_ok-last.ensures.joined (body_of r.1) []
    (whole ∙ ap (λ (k : List ℕ).
    map entry_of (numbered_entries k 0 (pieces c.args.size (body_of r.1))) ++ []) (sym key)) in
    let all = subst (λ o. IsSomeAnd o (IsJoined c.args.entries.now []
    c.push_pieces.new.bytes.items (c.new-bytes.result.items ++ body_of r.1)))
    c.in-Some-2.is joined in
    absurd (omega (
      arith,
      ap length all.0,
      length-drop (c.in-Some-2.last + 1) c.args.entries.now,
      c.if-len-last.true,
      c.len-2.ensures,
    ))

pub returns-clause-read : goal.returns-clause-read
returns-clause-read c = λ r fit same.
    let e : Entry =
    record { key = c.entry-entry.result.key.now; body = c.entry-entry.result.body.now } in
    let whole = same ∙ sym (append-nil (map entry_of (piece_entries c.args.size r))) in
    let piece = piece_at c.args.size (bytes_of r.0) 0 (body_of r.1) [] c.args.entries.now 0 e
    c.requires.some (record { ahead = whole }) c.entry-entry.ensures in
    let small : 0 < 2 ^ 64 = omega arith in
    let key = (c.in-Some.ensures (bytes_of r.0) 0 small piece.key_is).0 in
    let joined = c.in_ok-last.ensures.joined (body_of r.1) []
    (whole ∙ ap (λ (k : List ℕ).
    map entry_of (numbered_entries k 0 (pieces c.args.size (body_of r.1))) ++ []) (sym key)) in
    let all = subst (λ o. IsSomeAnd o (IsJoined c.args.entries.now []
    c.push_pieces.new.bytes.items (c.new-bytes.result.items ++ body_of r.1)))
    c.in-Some-2.is joined in
    c.read_values-2.ensures.read r fit
    (c.as_slice.ensures.value ∙ all.1
    ∙ ap (λ (l : List ℕ). l ++ body_of r.1) c.new-bytes.ensures.items)
