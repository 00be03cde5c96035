use Rattle.std.proofs.Common.{◌∙◌, sym, ap, length, arith}
use Rattle.gx_slots.specs.Entries.{Entry, lent}
use Rattle.gx_slots.proofs.PageLemmas.{page_of}
use Rattle.gx_bplus.proofs.insertion.first_key.Goals as goal

pub from_slice-requires : goal.from_slice-requires
from_slice-requires c =
    let page = c.args.page.now in
    let e : Entry = lent c.entry.result in
    let fit = (page_of page c.requires.page).page.holds.fit 0 e c.requires.some in
    let is = ap (λ (x : Entry). length x.key) (c.entry.ensures e) in
    omega (arith, fit.key, is)

pub returns : goal.returns
returns c d = c.from_slice.ensures ∙ sym (ap (λ (x : Entry). x.key) (c.entry.ensures d))
