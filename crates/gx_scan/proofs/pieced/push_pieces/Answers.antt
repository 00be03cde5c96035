use Rattle.std.proofs.Common.{◌≡◌, ℕ, suc, ◌+◌, ◌-◌, ◌≤◌, ◌∙◌, drop, inl, inr, sym, subst, refl, arith}
use Rattle.std.proofs.lemmas.Bool.{true≢false}
use Rattle.std.proofs.lemmas.List.{length-drop}
use Rattle.gx_ports.specs.declared.leaves.Entry.{Entry}
use Rattle.gx_scan.proofs.PiecedLemmas.{AreAhead, piece_at, pieces_some, joined_more, joined_all}
use Rattle.gx_scan.proofs.pieced.push_pieces.Goals.{then-not-is_piece-via-then-not-is_piece, then-not-is_piece-via-else-not-is_piece+then-entry-full}
use Rattle.gx_scan.proofs.pieced.push_pieces.Goals as goal

pub loop-index-init : goal.loop-index-init
loop-index-init c = λ whole more ahead.
    let none : 0 ≡ c.args.at - c.args.at = omega arith in
    record {
      rest = whole;
      left = subst
          (λ (n : ℕ). AreAhead c.args.size c.args.key.now n whole more
          (drop c.args.at c.args.entries.now)) none ahead;
      joined = refl;
    }

pub returns-then-not-is_piece-clause-joined : goal.returns-then-not-is_piece-clause-joined
returns-then-not-is_piece-clause-joined c = λ whole more ahead.
    let i = c.loop-index.index in
    let e : Entry =
    record { key = c.entry-entry.result.key.now; body = c.entry-entry.result.body.now } in
    let so_far = c.loop-index.invariant whole more (record { ahead = ahead }) in
    let piece = piece_at c.args.size c.args.key.now (i - c.args.at) so_far.rest more
    c.args.entries.now i e c.requires so_far.left c.entry-entry.ensures in
    let is = c.is_piece.ensures piece.key_is in
    elim c.then-not-is_piece.branch [
      | then-not-is_piece-via-then-not-is_piece w ↦ true≢false
          (sym is ∙ w.if-not-is_piece.true)
      | then-not-is_piece-via-else-not-is_piece+then-entry-full w ↦ elim piece.is [
        | inl last ↦ absurd (omega (arith, w.if-entry-full.true, last.short, c.from-full.ensures))
        | inr full ↦ absurd (omega (arith, w.if-entry-full.true, full.long, c.from-full.ensures))
      ]
    ]

pub returns-then-entry-full-2-clause-joined : goal.returns-then-entry-full-2-clause-joined
returns-then-entry-full-2-clause-joined c = λ whole more ahead.
    let i = c.loop-index.index in
    let e : Entry =
    record { key = c.entry-entry.result.key.now; body = c.entry-entry.result.body.now } in
    let so_far = c.loop-index.invariant whole more (record { ahead = ahead }) in
    let piece = piece_at c.args.size c.args.key.now (i - c.args.at) so_far.rest more
    c.args.entries.now i e c.requires so_far.left c.entry-entry.ensures in
    elim piece.is [
      | inl last ↦ (
        last.after,
        joined_all c.args.size c.args.key.now (i - c.args.at) whole more _ _
            c.args.bytes.now.items c.loop-index.bytes.items _ e so_far
            c.in_ok-extend_from_slice.ensures.items last,
      )
      | inr full ↦ absurd (omega (
        arith,
        c.if-entry-full-2.true,
        full.long,
        c.from-full.ensures,
      ))
    ]

pub loop-index-preserved : goal.loop-index-preserved
loop-index-preserved c = λ whole more ahead.
    let i = c.loop-index.index in
    let e : Entry =
    record { key = c.entry-entry.result.key.now; body = c.entry-entry.result.body.now } in
    let so_far = c.loop-index.invariant whole more ahead in
    let piece = piece_at c.args.size c.args.key.now (i - c.args.at) so_far.rest more
    c.args.entries.now i e c.requires so_far.left c.entry-entry.ensures in
    let from : c.args.at ≤ i = omega arith in
    let next : i + 1 - c.args.at ≡ suc (i - c.args.at) = omega (arith, from) in
    elim piece.is [
      | inl last ↦ absurd (omega (
        arith,
        c.if-entry-full-2.false,
        last.short,
        c.from-full.ensures,
      ))
      | inr full ↦ joined_more c.args.size c.args.key.now (i - c.args.at) whole more _ _
          c.args.bytes.now.items c.loop-index.bytes.items _ e so_far
          c.in_ok-extend_from_slice.ensures.items _ next full
    ]

pub returns-clause-joined : goal.returns-clause-joined
returns-clause-joined c = λ whole more ahead.
    let i = c.loop-index.index in
    let so_far = c.loop-index.invariant whole more (record { ahead = ahead }) in
    let some = pieces_some c.args.size c.args.key.now (i - c.args.at) so_far.rest more
    (drop i c.args.entries.now) so_far.left in
    absurd (omega (
      arith,
      some,
      length-drop i c.args.entries.now,
      c.loop-index-test.false,
      c.len-index-end.ensures,
    ))
