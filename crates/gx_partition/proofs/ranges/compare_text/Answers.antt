use Rattle.std.proofs.Common.{◌≡◌, ◌∙◌, sym, ap, drop, [], ◌∷◌}
use Rattle.std.specs.Ordering.{nat_cmp, ordering_then}
use Rattle.std.specs.Cmp.Lexicographic.{slice_cmp}
use Rattle.gx_partition.proofs.KeyLemmas.{text_cmp, first_counts}
use Rattle.gx_partition.proofs.ranges.compare_text.Goals as goal

pub returns-in-Equal : goal.returns-in-Equal
returns-in-Equal c =
    let n = c.min.result in
    let bytes = c.args.bytes.now in
    let front = c.compare_bytes.ensures
    ∙ ap (slice_cmp nat_cmp c.args.text.now) c.split_at.ensures.front in
    let rest : slice_cmp nat_cmp c.as_slice.result.now c.split_at.result.1.now ≡ slice_cmp nat_cmp
    (0 ∷ []) (drop n bytes) =
    λ i. slice_cmp nat_cmp (c.as_slice.ensures i) (c.split_at.ensures.back i) in
    c.cmp.ensures ∙ rest
    ∙ ap (λ o. ordering_then o (slice_cmp nat_cmp (0 ∷ []) (drop n bytes))) (sym c.in-Equal.is
    ∙ front)
    ∙ text_cmp c.args.text.now bytes n c.min.ensures

pub returns-in_default : goal.returns-in_default
returns-in_default c =
    let n = c.min.result in
    let bytes = c.args.bytes.now in
    let front = c.compare_bytes.ensures
    ∙ ap (slice_cmp nat_cmp c.args.text.now) c.split_at.ensures.front in
    first_counts c.compare_bytes.result (slice_cmp nat_cmp (0 ∷ []) (drop n bytes))
    c.in_default.not-Equal
    ∙ ap (λ o. ordering_then o (slice_cmp nat_cmp (0 ∷ []) (drop n bytes))) front
    ∙ text_cmp c.args.text.now bytes n c.min.ensures
