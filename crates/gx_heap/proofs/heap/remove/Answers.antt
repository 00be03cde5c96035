use Rattle.std.proofs.Common.{refl}
use Rattle.std.proofs.lemmas.Result.{on_ok_weaker}
use Rattle.gx_ports.specs.Files.{IsWhole}
use Rattle.gx_ports.proofs.PageLemmas.{ends_as}
use Rattle.gx_chain.specs.Chain.{HasChainOf}
use Rattle.gx_chain.proofs.OwnerLemmas.{spared}
use Rattle.gx_heap.specs.Heap.{IsHeap}
use Rattle.gx_heap.proofs.HeapLemmas.{heap_removed, heap_removed_others}
use Rattle.gx_heap.proofs.heap.remove.Goals as goal

pub returns : goal.returns
returns g c =
    let place = c.args.place.now in
    let key = c.args.key.now in
    let p = c.args.pages.now in
    let ground = g.P.PageView.ground p in
    let s = g.P.PageView.working p in
    let t = g.P.PageView.working c.remove_from.new.pages in
    let result = c.remove_from.result in
    let sound = HasChainOf g.P.PageView p place.owner place.root in
    let is_whole = IsWhole g.P.PageView (IsHeap ground place) p in
    let has_chain : is_whole → sound = λ whole. record {
      told = whole.1.told;
      pages = whole.1.file.pages;
      chain = whole.1.file.chain;
    } in
    let least = c.requires.place.least in
    record {
      ok = λ map holds. on_ok_weaker result
          (λ less. heap_removed ground place s t map key least holds.file less)
          (c.remove_from.ensures.removed holds.told holds.file.pages holds.file.chain);
      others = λ whole fault.
          let file = whole.1.file in
          spared g.P.PageView sound ground place.owner p c.remove_from.new.pages result
          (has_chain whole) c.remove_from.ensures.ends
          (on_ok_weaker result
          (λ less. heap_removed_others ground place s t whole.0 key least file less)
          (c.remove_from.ensures.removed whole.1.told file.pages file.chain))
          (λ is. absurd (c.remove_from.ensures.not_full is)) c.remove_from.ensures.frugal fault;
      keeps = c.remove_from.ensures.keeps;
      ends = ends_as g.P.PageView is_whole sound p p c.remove_from.new.pages result refl refl
          has_chain c.remove_from.ensures.ends;
      not_full = c.remove_from.ensures.not_full;
      frugal = c.remove_from.ensures.frugal;
    }
