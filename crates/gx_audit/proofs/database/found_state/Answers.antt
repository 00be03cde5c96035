use Rattle.std.proofs.Common.{◌≡◌, List, length, map, Some, None, sym, subst}
use Rattle.gx_stack.proofs.CountLemmas.{counts_joined}
use Rattle.gx_model.specs.States.{File}
use Rattle.gx_audit.specs.Audits.{keys_of, AreFiles, AreAllKeys, AreLinks, ArePairCounts}
use Rattle.gx_audit.proofs.StateLemmas.{no_link_state, state_found}
use Rattle.gx_audit.proofs.database.found_state.Goals as goal

pub returns-in_default-2-clause-found : goal.returns-in_default-2-clause-found
returns-in_default-2-clause-found g c =
    let b = g.B.View in
    let schema = c.args.schema.now in
    let built = c.args.built.now in
    let whole = b.whole c.args.leaves.now in
    let maps = b.working c.args.leaves.now in
    let at = c.file_keys.new.leaves in
    let e = c.in_ok-keys.ensures in
    let same : b.working at ≡ maps = e.reads.reads.working in
    let keys = subst (AreAllKeys schema built.files whole maps) c.in-Some.is e.keys in
    let none : (fs : List File) → AreFiles schema built.files maps fs
    → c.in-Some.keys ≡ map keys_of fs
    → ArePairCounts schema built whole maps fs None = λ fs files are w ls links.
    subst (ArePairCounts schema built (b.whole at) (b.working at) fs) c.in_default-2.is
    (c.in_ok-counts.ensures.counts fs
    (subst (λ ms. AreFiles schema built.files ms fs) (sym same) files) are)
    (e.reads.ends.whole w) ls (subst (λ ms. AreLinks schema built ms fs ls) (sym same) links) in
    no_link_state schema built (length maps) maps c.requires whole c.in-Some.keys keys none

pub returns-clause-found : goal.returns-clause-found
returns-clause-found g c =
    let b = g.B.View in
    let schema = c.args.schema.now in
    let built = c.args.built.now in
    let whole = b.whole c.args.leaves.now in
    let maps = b.working c.args.leaves.now in
    let at = c.file_keys.new.leaves in
    let e = c.in_ok-keys.ensures in
    let same : b.working at ≡ maps = e.reads.reads.working in
    let keys = subst (AreAllKeys schema built.files whole maps) c.in-Some.is e.keys in
    let counts : (fs : List File) → AreFiles schema built.files maps fs
    → c.in-Some.keys ≡ map keys_of fs
    → ArePairCounts schema built whole maps fs (Some c.in-Some-2.counts) = λ fs files are w.
    let ls =
    subst (ArePairCounts schema built (b.whole at) (b.working at) fs) c.in-Some-2.is
    (c.in_ok-counts.ensures.counts fs
    (subst (λ ms. AreFiles schema built.files ms fs) (sym same) files) are)
    (e.reads.ends.whole w) in
    (ls.0, subst (λ ms. AreLinks schema built ms fs ls.0) same ls.1, ls.2) in
    state_found schema built (length maps) maps c.requires whole c.in-Some.keys c.in-Some-2.counts
    keys counts

pub returns-in_err-counts-clause-entries : goal.returns-in_err-counts-clause-entries
returns-in_err-counts-clause-entries g c = λ w.
    let b = g.B.View in
    let e = c.file_keys.ensures in
    counts_joined (b.working c.args.leaves.now) (b.working c.file_keys.new.leaves)
    c.args.entries.now c.file_keys.new.entries c.pair_counts.new.entries e.reads.reads.working
    (e.entries w) (c.pair_counts.ensures.entries (c.in_ok-keys.ensures.reads.ends.whole w))

pub returns-in_default-2-clause-entries : goal.returns-in_default-2-clause-entries
returns-in_default-2-clause-entries g c = λ w.
    let b = g.B.View in
    let e = c.file_keys.ensures in
    counts_joined (b.working c.args.leaves.now) (b.working c.file_keys.new.leaves)
    c.args.entries.now c.file_keys.new.entries c.pair_counts.new.entries e.reads.reads.working
    (e.entries w) (c.pair_counts.ensures.entries (c.in_ok-keys.ensures.reads.ends.whole w))

pub returns-clause-entries : goal.returns-clause-entries
returns-clause-entries g c = λ w.
    let b = g.B.View in
    let e = c.file_keys.ensures in
    counts_joined (b.working c.args.leaves.now) (b.working c.file_keys.new.leaves)
    c.args.entries.now c.file_keys.new.entries c.pair_counts.new.entries e.reads.reads.working
    (e.entries w) (c.pair_counts.ensures.entries (c.in_ok-keys.ensures.reads.ends.whole w))
