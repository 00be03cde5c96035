use Rattle.std.proofs.Common.{◌≡◌, List, length, ap, subst, ◌∙◌, arith}
use Rattle.std.specs.Prelude.{⊤, OnOk}
use Rattle.std.specs.List.{insert}
use Rattle.std.proofs.lemmas.Bool.{MatchBool-at_true}
use Rattle.gx_slots.specs.Entries.{Entry}
use Rattle.gx_slots.specs.Page.{entries_of}
use Rattle.gx_isam.specs.Change.{IsHungBefore}
use Rattle.gx_isam.proofs.change.begin_chain.Goals as goal

pub returns-clause-begun : goal.returns-clause-begun
returns-clause-begun g c told =
    let p = c.args.pages.now in
    let e : Entry = record { key = c.args.key.now; body = c.args.body.now } in
    let none : length (entries_of c.clear.new.page) ≡ 0 = ap length c.clear.ensures.entries in
    let added = MatchBool-at_true
    (entries_of c.add.new.page ≡ insert (entries_of c.clear.new.page) 0 e) ⊤
    (c.add.ensures.few (omega (arith, none))) c.add.ensures.added in
    subst (λ (es : List Entry). OnOk c.hang_before.result
    (IsHungBefore (g.P.PageView.ground p) c.args.place.now c.args.index.now c.args.bucket es
    (g.P.PageView.working p)
    (g.P.PageView.working c.hang_before.new.pages)))
    (added ∙ ap (λ (es : List Entry). insert es 0 e) c.clear.ensures.entries)
    (c.hang_before.ensures.hung told)
