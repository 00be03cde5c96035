use Rattle.std.proofs.Common.{◌≡◌, ◌∙◌, sym, arith}
use Rattle.std.specs.declared.cmp.Ordering.TheVariants.{Less, Equal, Greater}
use Rattle.gx_values.specs.Values.{value_cmp}
use Rattle.gx_audit.proofs.SearchLemmas.{behind, split_here, from_front, from_middle, from_back, not_before, not_behind}
use Rattle.gx_audit.proofs.search.+contains.Goals as goal

pub returns-in-Less-clause-yes : goal.returns-in-Less-clause-yes
returns-in-Less-clause-yes t c = λ e.
    let split =
    split_here c.args.keys.now c.split_at.result.0.now c.split_at.result.1.now _
    c.middle-item.result
    c.split_at.ensures.front c.split_at.ensures.back (omega (arith, c.in-len1-up.len_at_least))
    c.middle-item.is in
    from_front c.args.keys.now c.split_at.result.0.now
    (behind c.split_at.result.1.now) c.middle-item.result c.args.key.now split
    (c.contains.ensures.yes e)

pub returns-in-Less-clause-no : goal.returns-in-Less-clause-no
returns-in-Less-clause-no t c = λ e.
    let split =
    split_here c.args.keys.now c.split_at.result.0.now c.split_at.result.1.now _
    c.middle-item.result
    c.split_at.ensures.front c.split_at.ensures.back (omega (arith, c.in-len1-up.len_at_least))
    c.middle-item.is in
    let less : value_cmp c.args.key.now c.middle-item.result ≡ Less = sym c.compare.ensures
    ∙ c.in-Less.is in
    not_before c.args.keys.now c.split_at.result.0.now
    (behind c.split_at.result.1.now) c.middle-item.result c.args.key.now split less
    (c.contains.ensures.no e)

pub returns-in-Equal-clause-yes : goal.returns-in-Equal-clause-yes
returns-in-Equal-clause-yes t c = λ e.
    let split =
    split_here c.args.keys.now c.split_at.result.0.now c.split_at.result.1.now _
    c.middle-item.result
    c.split_at.ensures.front c.split_at.ensures.back (omega (arith, c.in-len1-up.len_at_least))
    c.middle-item.is in
    let equal : value_cmp c.args.key.now c.middle-item.result ≡ Equal = sym c.compare.ensures
    ∙ c.in-Equal.is in
    from_middle c.args.keys.now c.split_at.result.0.now (behind c.split_at.result.1.now)
    c.middle-item.result c.args.key.now split equal

pub returns-in-Greater-clause-yes : goal.returns-in-Greater-clause-yes
returns-in-Greater-clause-yes t c = λ e.
    let split =
    split_here c.args.keys.now c.split_at.result.0.now c.split_at.result.1.now _
    c.middle-item.result
    c.split_at.ensures.front c.split_at.ensures.back (omega (arith, c.in-len1-up.len_at_least))
    c.middle-item.is in
    from_back c.args.keys.now c.split_at.result.0.now
    (behind c.split_at.result.1.now) c.middle-item.result c.args.key.now split
    (c.contains-in-Greater.ensures.yes e)

pub returns-in-Greater-clause-no : goal.returns-in-Greater-clause-no
returns-in-Greater-clause-no t c = λ e.
    let split =
    split_here c.args.keys.now c.split_at.result.0.now c.split_at.result.1.now _
    c.middle-item.result
    c.split_at.ensures.front c.split_at.ensures.back (omega (arith, c.in-len1-up.len_at_least))
    c.middle-item.is in
    let greater : value_cmp c.args.key.now c.middle-item.result ≡ Greater = sym c.compare.ensures
    ∙ c.in-Greater.is in
    not_behind c.args.keys.now c.split_at.result.0.now
    (behind c.split_at.result.1.now) c.middle-item.result c.args.key.now split greater
    (c.contains-in-Greater.ensures.no e)
