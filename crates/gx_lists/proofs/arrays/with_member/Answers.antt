use Rattle.std.proofs.Common.{rules, ◌≡◌, ◌∙◌, ◌∷◌, ◌++◌, take, drop}
use Rattle.std.specs.List.{insert}
use Rattle.gx_lists.specs.Arrays.{place_in}
use Rattle.gx_lists.proofs.ChangeLemmas.{with_at}
use Rattle.gx_lists.proofs.arrays.with_member.Goals as goal

pub returns : goal.returns
returns c =
    let m = c.args.member.now in
    let xs = c.args.members.now in
    let at : c.place_of-at.result ≡ place_in m xs = search rules in
    let old : c.with.inside.0.items ≡ xs = search rules in
    let new : c.in_ok-copy.field-0 ≡ m = c.in_ok-copy.ensures in
    let items : c.insert.new.self.items ≡ insert c.with.inside.0.items c.place_of-at.result
    c.in_ok-copy.field-0 = search rules in
    items ∙ (λ i. take (at i) (old i) ++ new i ∷ drop (at i) (old i)) ∙ with_at m xs
