use Rattle.std.proofs.Common.{rules, ◌≡◌, sym, ◌∙◌}
use Rattle.gx_slots.specs.Entries.{lent}
use Rattle.gx_slots.specs.Page.{entries_of}
use Rattle.gx_slots.proofs.PageLemmas.{page_of}
use Rattle.gx_chain.specs.Check.{has_key}
use Rattle.gx_chain.proofs.CheckLemmas.{not_true, not_false, adding_first, adding_more, adding_shares, adding_last}
use Rattle.gx_chain.proofs.check.add_keys.Goals as goal

pub loop-key-init : goal.loop-key-init
loop-key-init c =
    adding_first (entries_of c.args.page.now) c.into_iter-key-iterator.result c.args.keys.now.keys
    (c.into_iter-key-iterator.ensures.into_iter_gives ∙ c.entries-key-items.ensures)

pub returns-then-not-branch-clause-shared : goal.returns-then-not-branch-clause-shared
returns-then-not-branch-clause-shared c =
    let key : c.in_ok-to_vec.field-0.items ≡ c.in-Some.key.now = search rules in
    adding_shares (entries_of c.args.page.now) c.loop-key.key-iterator
    (lent (c.in-Some.key, c.in-Some.field-0-1)) c.next.new.self c.args.keys.now.keys
    c.loop-key.keys.keys c.in_ok-to_vec.field-0 c.loop-key.invariant
    c.in-Some.ensures.steps key (page_of c.args.page.now c.requires.page).distinct
    (not_false (has_key c.loop-key.keys.keys c.in_ok-to_vec.field-0.items)
    (sym c.if-not-branch.true ∙ c.in_ok-insert.ensures.added))

pub loop-key-preserved : goal.loop-key-preserved
loop-key-preserved c =
    let key : c.in_ok-to_vec.field-0.items ≡ c.in-Some.key.now = search rules in
    adding_more (entries_of c.args.page.now) c.loop-key.key-iterator
    (lent (c.in-Some.key, c.in-Some.field-0-1)) c.next.new.self c.args.keys.now.keys
    c.loop-key.keys.keys c.insert.new.self.keys c.in_ok-to_vec.field-0 c.loop-key.invariant
    c.in-Some.ensures.steps key
    (not_true (has_key c.loop-key.keys.keys c.in_ok-to_vec.field-0.items)
    (sym c.if-not-branch.false ∙ c.in_ok-insert.ensures.added)) c.in_ok-insert.ensures.keys

pub returns-clause-added : goal.returns-clause-added
returns-clause-added c =
    adding_last (entries_of c.args.page.now) c.loop-key.key-iterator c.args.keys.now.keys
    c.loop-key.keys.keys c.loop-key.invariant c.in-None.ensures.steps.0
