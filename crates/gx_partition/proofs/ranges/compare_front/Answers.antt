use Rattle.std.proofs.Common.{rules, ◌≡◌, ◌∙◌, ℕ, List, sym, ap, length, take}
use Rattle.std.specs.Int.{w64, to_be_bytes}
use Rattle.std.specs.Ordering.{nat_cmp}
use Rattle.std.specs.Cmp.Lexicographic.{slice_cmp}
use Rattle.gx_values.specs.Keys.{bytes_of}
use Rattle.gx_partition.proofs.KeyLemmas.{front_of_all}
use Rattle.gx_partition.proofs.ranges.compare_front.Goals as goal

pub returns-in-Int : goal.returns-in-Int
returns-in-Int c =
    let bytes = c.args.bytes.now in
    let key : to_be_bytes w64 c.rank.result ≡ bytes_of c.args.value.now = search rules in
    c.compare_number.ensures
    ∙ ap (λ (l : List ℕ). slice_cmp nat_cmp l bytes)
    (sym (front_of_all (length bytes) (to_be_bytes w64 c.rank.result) c.if-bytes-ge-INT_BYTES.true)
    ∙ ap (take (length bytes)) key)
