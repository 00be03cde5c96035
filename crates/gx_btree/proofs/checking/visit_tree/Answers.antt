use Rattle.std.proofs.Common.{◌≡◌, ◌≢◌, List, [], false, length, replicate, refl, sym, ap, ◌∙◌, subst, arith, eq-eqb}
use Rattle.gx_ports.specs.Sheets.{Ground, IsHome}
use Rattle.std.proofs.lemmas.Bool.{eqb-true, false≢true}
use Rattle.gx_btree.specs.declared.checking.Part.{Part}
use Rattle.gx_btree.specs.declared.checking.Visits.{Visits}
use Rattle.gx_btree.proofs.CallLemmas.{ends_handed}
use Rattle.gx_btree.proofs.FileLemmas.{place_past}
use Rattle.gx_btree.proofs.VisitLemmas.{visiting_starts, visiting_ends, visiting_goes, visiting_all, visiting_lost, part_below, old_below, no_parts}
use Rattle.gx_btree.proofs.checking.visit_tree.Goals as goal

pub loop-init : goal.loop-init
loop-init g c =
    let made = c.in_ok-visits.ensures in
    visiting_starts g.P.PageView c.args.place.now c.args.pages.now c.in_ok-visits.visits
    (made.seen ∙ ap (λ n. replicate n false) c.pages-count.ensures) made.parts made.high
    (place_past (g.P.PageView.ground c.args.pages.now) c.args.place.now c.requires.place
    c.requires.kind).below

pub returns-in_default-clause-seen : goal.returns-in_default-clause-seen
returns-in_default-clause-seen g c told =
    let parts = c.loop.visits.parts in
    let none = c.in_default.ensures.cases.0 in
    visiting_all g.P.PageView c.args.place.now c.args.pages.now c.loop.pages c.loop.visits
    c.loop.invariant (no_parts parts.items (let len = parts.ok.0 in omega (arith, len, none))) told

pub visit_part-requires-clause-above : goal.visit_part-requires-clause-above
visit_part-requires-clause-above g c =
    let v = c.loop.visits in
    part_below g.P.PageView c.args.place.now c.args.pages.now c.loop.pages v c.loop.invariant
    c.in-Some.part (record v { parts = c.pop.new.self }) c.in-Some.ensures.items refl refl

pub returns-in_err-visit_part-clause-ends : goal.returns-in_err-visit_part-clause-ends
returns-in_err-visit_part-clause-ends g c =
    let v = c.loop.visits in
    ends_handed g.P.PageView _ _ _ c.args.pages.now c.visit_part.new.pages _
    c.from_residual-in_err-visit_part.result
    (visiting_ends g.P.PageView c.args.place.now c.args.pages.now c.loop.pages v c.loop.invariant
    c.in-Some.part
    (record v { parts = c.pop.new.self }) c.in-Some.ensures.items refl refl
    c.visit_part.new.pages _ c.in_err-visit_part.ensures.ends)
    c.from_residual-in_err-visit_part.ensures.1

pub loop-preserved : goal.loop-preserved
loop-preserved g c =
    let v = c.loop.visits in
    let old : Visits = record v { parts = c.pop.new.self } in
    let e = c.in_ok-visit_part.ensures in
    let start = c.args.pages.now in
    let i = c.loop.invariant in
    visiting_goes g.P.PageView c.args.place.now start c.loop.pages v i c.in-Some.part old
    c.in-Some.ensures.items refl refl
    c.visit_part.new.pages c.visit_part.new.visits e.reads (e.ends.cause.counted refl) e.visited
    (e.below (old_below g.P.PageView c.args.place.now start c.loop.pages v i c.in-Some.part old
    c.in-Some.ensures.items refl refl)) e.seen

pub returns-then-is_empty-clause-seen : goal.returns-then-is_empty-clause-seen
returns-then-is_empty-clause-seen g c told =
    let parts = c.loop.visits.parts in
    let none = eqb-true parts.len 0 (sym c.is_empty.ensures ∙ c.if-is_empty.true) in
    visiting_all g.P.PageView c.args.place.now c.args.pages.now c.loop.pages c.loop.visits
    c.loop.invariant (no_parts parts.items (let len = parts.ok.0 in omega (arith, len, none))) told

pub returns-clause-ends : goal.returns-clause-ends
returns-clause-ends g c =
    let i = c.loop.invariant in
    let parts = c.loop.visits.parts in
    let some : parts.items ≢ [] = λ none.
    let len = parts.ok.0 in
    let zero = ap (λ (ws : List Part). length ws) none in
    let empty : parts.len ≡ 0 = omega (arith, len, zero) in
    false≢true (sym c.if-is_empty.false ∙ c.is_empty.ensures ∙ eq-eqb parts.len 0 empty) in
    visiting_lost g.P.PageView c.args.place.now c.args.pages.now c.loop.pages c.loop.visits i
    c.block.result
    (let n = c.pages-count.ensures in let over = c.loop-test.false in omega (arith, n, over)) some
    (subst (λ (x : Ground). IsHome x c.block.result) i.reads.keeps.ground (_, c.block.ensures.home))
