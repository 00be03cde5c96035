use Rattle.std.proofs.Common.{◌≡◌, ℕ, drop, refl, sym, ◌∙◌, subst, arith}
use Rattle.std.proofs.lemmas.Bool.{false≢true}
use Rattle.gx_slots.specs.Entries.{entries_in}
use Rattle.gx_slots.specs.Spots.{IsSought}
use Rattle.gx_slots.proofs.AscendingLemmas.{none_ascend}
use Rattle.gx_slots.proofs.ScanLemmas.{page_kind}
use Rattle.gx_slots.proofs.SpotLemmas.{walked, walk_told}
use Rattle.gx_slots.proofs.seeking.seek.Goals as goal

pub returns-then-not-has_kind : goal.returns-then-not-has_kind
returns-then-not-has_kind c is =
    false≢true (sym c.if-not-has_kind.true
    ∙ c.has_kind.ensures.1 (page_kind c.args.page.now is.page))

pub returns-then-count-eq0 : goal.returns-then-count-eq0
returns-then-count-eq0 c =
    let page = c.args.page.now in
    let count = c.record_count-count.result in
    let key = c.args.key.now in
    let kind = c.has_kind.ensures.0 c.if-not-has_kind.false in
    let zero : count ≡ 0 = omega (arith, c.if-count-eq0.true) in
    let w = walked page (drop 8 page) key count c.nothing.result c.requires kind.0 kind.1
    (λ i. omega (arith, c.type_inv.page i)) refl c.record_count-count.ensures
    (none_ascend (drop 8 page) count zero)
    (subst (λ (n : ℕ). IsSought key (entries_in n (drop 8 page)) c.nothing.result) (sym zero)
    (c.nothing.ensures key)) in
    (w.ascending, w.sought)

pub returns : goal.returns
returns c =
    let kind = c.has_kind.ensures.0 c.if-not-has_kind.false in
    walk_told c.args.page.now c.page_body.result.now c.args.key.now c.record_count-count.result
    c.seek_among.result c.requires kind.0 kind.1 (λ i. omega (arith, c.type_inv.page i))
    c.page_body.ensures c.record_count-count.ensures c.seek_among.ensures
