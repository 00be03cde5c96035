use Rattle.std.proofs.Common.{ℕ, ◌++◌, ◌<◌, ◌^◌, ◌∷◌, ◌∙◌, [], List, map, inl, inr, sym, ap, subst, arith}
use Rattle.std.specs.Prelude.{IsSomeAnd, filter}
use Rattle.gx_values.specs.Keys.{bytes_of}
use Rattle.gx_ports.specs.declared.leaves.Entry.{Entry}
use Rattle.gx_ports.specs.LeafMaps.{entry_of}
use Rattle.gx_actual.specs.Bodies.{body_of}
use Rattle.gx_divide.specs.Pieces.{pieces}
use Rattle.gx_model.specs.Found.{meets_conds}
use Rattle.gx_scan.specs.Pieces.{numbered_entries}
use Rattle.gx_scan.proofs.PiecedLemmas.{IsJoined, IsAdded, kept_some, piece_at}
use Rattle.gx_scan.proofs.pieced.add_record.Goals as goal

pub returns-in_default-clause-chosen : goal.returns-in_default-clause-chosen
returns-in_default-clause-chosen c = λ r more fit ahead.
    let e : Entry =
    record { key = c.entry-entry.result.key.now; body = c.entry-entry.result.body.now } in
    let piece = piece_at c.args.size (bytes_of r.0) 0 (body_of r.1) more c.args.entries.now
    c.args.at e c.requires.some (record { ahead = ahead }) c.entry-entry.ensures in
    let small : 0 < 2 ^ 64 = omega arith in
    absurd (c.in_default.ensures (bytes_of r.0) 0 small piece.key_is)

pub returns-then-entry-from-clause-chosen : goal.returns-then-entry-from-clause-chosen
returns-then-entry-from-clause-chosen c = λ r more fit ahead.
    let e : Entry =
    record { key = c.entry-entry.result.key.now; body = c.entry-entry.result.body.now } in
    let piece = piece_at c.args.size (bytes_of r.0) 0 (body_of r.1) more c.args.entries.now
    c.args.at e c.requires.some (record { ahead = ahead }) c.entry-entry.ensures in
    let small : 0 < 2 ^ 64 = omega arith in
    let key = (c.in-Some.ensures (bytes_of r.0) 0 small piece.key_is).0 in
    elim piece.is [
      | inl last ↦ (
          let added = c.in_ok-is_one.ensures.chosen r fit key last.body in
          kept_some (IsAdded c.args.entries.now more c.add_met.new.rows.items
          (c.args.rows.now.items ++ filter (meets_conds c.args.conds.now) (r ∷ [])))
          _ _ _ c.then_some.ensures added.0 (last.after, added.1))
      | inr full ↦ absurd (omega (arith, c.if-entry-from.true, full.long, c.from.ensures))
    ]

pub returns-in_default-2-clause-chosen : goal.returns-in_default-2-clause-chosen
returns-in_default-2-clause-chosen c = λ r more fit ahead.
    let e : Entry =
    record { key = c.entry-entry.result.key.now; body = c.entry-entry.result.body.now } in
    let piece = piece_at c.args.size (bytes_of r.0) 0 (body_of r.1) more c.args.entries.now
    c.args.at e c.requires.some (record { ahead = ahead }) c.entry-entry.ensures in
    let small : 0 < 2 ^ 64 = omega arith in
    let key = (c.in-Some.ensures (bytes_of r.0) 0 small piece.key_is).0 in
    let joined = c.in_ok-last.ensures.joined (body_of r.1) more
    (ahead ∙ ap (λ (k : List ℕ).
    map entry_of (numbered_entries k 0 (pieces c.args.size (body_of r.1))) ++ more) (sym key)) in
    absurd (subst (λ o. IsSomeAnd o (IsJoined c.args.entries.now more
    c.push_pieces.new.bytes.items (c.clear.new.self.items ++ body_of r.1)))
    c.in_default-2.is joined)

pub returns-clause-chosen : goal.returns-clause-chosen
returns-clause-chosen c = λ r more fit ahead.
    let e : Entry =
    record { key = c.entry-entry.result.key.now; body = c.entry-entry.result.body.now } in
    let piece = piece_at c.args.size (bytes_of r.0) 0 (body_of r.1) more c.args.entries.now
    c.args.at e c.requires.some (record { ahead = ahead }) c.entry-entry.ensures in
    let small : 0 < 2 ^ 64 = omega arith in
    let key = (c.in-Some.ensures (bytes_of r.0) 0 small piece.key_is).0 in
    let joined = c.in_ok-last.ensures.joined (body_of r.1) more
    (ahead ∙ ap (λ (k : List ℕ).
    map entry_of (numbered_entries k 0 (pieces c.args.size (body_of r.1))) ++ more) (sym key)) in
    let all = subst (λ o. IsSomeAnd o (IsJoined c.args.entries.now more
    c.push_pieces.new.bytes.items (c.clear.new.self.items ++ body_of r.1)))
    c.in-Some-2.is joined in
    let added = c.in_ok-is_one-2.ensures.chosen r fit key
    (c.as_slice.ensures.value ∙ all.1
    ∙ ap (λ (l : List ℕ). l ++ body_of r.1) c.clear.ensures.items) in
    kept_some (IsAdded c.args.entries.now more c.add_met-2.new.rows.items
    (c.args.rows.now.items ++ filter (meets_conds c.args.conds.now) (r ∷ [])))
    _ _ _ c.then_some-2.ensures added.0 (all.0, added.1)
