use Rattle.std.proofs.Common.{◌≡◌, rules, get_or, false, ◌∷◌, ◌++◌, [], ap, sym, ◌∙◌, subst, arith, Bool}
use Rattle.std.specs.Prelude.{if◌then◌else◌}
use Rattle.gx_journal.specs.Sources.{IsListed}
use Rattle.gx_journal.proofs.ListLemmas.{listed_more, listed_fewer}
use Rattle.gx_journal.proofs.room.note.Goals as goal

pub returns-then-not-index-clause-listed : goal.returns-then-not-index-clause-listed
returns-then-not-index-clause-listed c =
    let old = c.args.spilled.now.items in
    let listed = c.args.listed.now.items in
    let p = c.args.p in
    let off : get_or old p false ≡ false = search rules in
    let less = listed_fewer old listed p c.requires.below off c.requires.listed in
    let ok = c.push-pushed.ensures.succeeds
    (omega (arith, less, c.requires.space, c.args.listed.now.ok.0)) in
    subst (IsListed _) (sym (c.push-pushed.ensures.items
    ∙ ap (λ (b : Bool). if b then listed ++ p ∷ [] else listed) ok))
    (listed_more old listed p c.requires.below off c.requires.listed)
