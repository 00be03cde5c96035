use Rattle.std.proofs.Common.{rules, ◌≡◌, ◌∙◌, ap}
use Rattle.std.specs.Int.{w64, to_be_bytes}
use Rattle.std.specs.Ordering.{nat_cmp}
use Rattle.std.specs.Cmp.Lexicographic.{slice_cmp}
use Rattle.gx_values.specs.Keys.{bytes_of}
use Rattle.gx_partition.proofs.ranges.compare_key.Goals as goal

pub returns-in-Int : goal.returns-in-Int
returns-in-Int c =
    let key : to_be_bytes w64 c.rank.result ≡ bytes_of c.args.value.now = search rules in
    c.compare_number.ensures ∙ ap (λ l. slice_cmp nat_cmp l c.args.bytes.now) key
