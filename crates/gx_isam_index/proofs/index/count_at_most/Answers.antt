use Rattle.std.proofs.Common.{◌≡◌, ℕ, Bool, List, ap, ◌∙◌, arith}
use Rattle.std.specs.Ordering.{is_le}
use Rattle.gx_ports.specs.Keyed.{key_cmp}
use Rattle.gx_bytes.proofs.RecordLemmas.{holds_split, split_found}
use Rattle.gx_isam_index.specs.Index.{IsFitSeparator, behind_firsts, lent, part_of, separator_bytes}
use Rattle.gx_isam_index.proofs.SeparatorLemmas.{separator_format}
use Rattle.gx_isam_index.proofs.IndexLemmas.{tick, tick_of, tick_small, counting_more}
use Rattle.gx_isam_index.proofs.index.count_at_most.Goals as goal

pub unwrap-requires : goal.unwrap-requires
unwrap-requires c =
    let ahead = c.loop.invariant.ahead in
    holds_split separator_format lent ahead.held c.loop.rest.now c.split_separator.result
    ahead.holds (omega (arith, ahead.count, c.loop-test.true)) c.split_separator.ensures

pub loop-preserved : goal.loop-preserved
loop-preserved c =
    let found = split_found separator_bytes IsFitSeparator lent c.loop.rest.now
    c.split_separator.result
    c.unwrap.result c.unwrap.ensures c.split_separator.ensures in
    let test : List ℕ → Bool = λ (separator : List ℕ).
    is_le (key_cmp (part_of c.args.fronts c.args.key.now separator) c.args.key.now) in
    let more : c.from-bucket.result ≡ tick (test c.unwrap.result.0.now) =
    tick_of c.from-bucket.result c.is_at_most.result c.from-bucket.ensures
    ∙ ap tick (c.is_at_most.ensures
    ∙ ap (λ (part : List ℕ). is_le (key_cmp part c.args.key.now)) c.part_of.ensures) in
    counting_more test (behind_firsts c.args.page.now) c.record_count-count.result c.loop.counter
    c.loop.rest.now c.loop.bucket c.unwrap.result.0.now c.unwrap.result.1.now c.from-bucket.result
    c.loop.invariant c.loop-test.true found.0 found.1 more
    (tick_small c.from-bucket.result (test c.unwrap.result.0.now) more)
