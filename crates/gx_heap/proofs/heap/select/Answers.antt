use Rattle.std.proofs.Common.{◌++◌, ap, refl, sym, ◌∙◌}
use Rattle.std.proofs.lemmas.Result.{on_ok_weaker}
use Rattle.gx_ports.specs.Files.{IsWhole}
use Rattle.gx_ports.proofs.PageLemmas.{ends_as}
use Rattle.gx_chain.specs.Chain.{HasChain}
use Rattle.gx_chain.proofs.SelectLemmas.{pages_selected}
use Rattle.gx_heap.specs.Heap.{IsHeap}
use Rattle.gx_heap.proofs.heap.select.Goals as goal

pub returns : goal.returns
returns g c =
    let place = c.args.place.now in
    let span = c.args.span.now in
    let p = c.args.pages.now in
    let s = g.P.PageView.working p in
    let whole = IsWhole g.P.PageView (IsHeap (g.P.PageView.ground p) place) p in
    record {
      ok = λ map holds.
          let file = holds.file in
          on_ok_weaker c.collect.result
          (λ has. has.1 ∙ ap (λ x. c.args.out.now ++ x)
          (sym (pages_selected s file.pages map span.lo span.hi has.0
          (λ k b _. file.map_is k b) has.2)))
          (c.collect.ensures.collected holds.told place.owner file.pages file.chain);
      extends = c.collect.ensures.extends;
      reads = c.collect.ensures.reads;
      ends = ends_as g.P.PageView whole (HasChain g.P.PageView p place.root) p p
          c.collect.new.pages c.collect.result refl refl
          (λ is. (is.1.told, place.owner, is.1.file.pages, is.1.file.chain)) c.collect.ensures.ends;
      not_full = c.collect.ensures.not_full;
    }
