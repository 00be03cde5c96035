use Rattle.std.proofs.Common.{refl}
use Rattle.std.proofs.lemmas.Result.{on_ok_weaker}
use Rattle.gx_ports.specs.Files.{IsWhole}
use Rattle.gx_ports.proofs.PageLemmas.{ends_as}
use Rattle.gx_chain.specs.Check.{HasWholeChain}
use Rattle.gx_heap.specs.Heap.{IsHeap}
use Rattle.gx_heap.specs.Map.{heap_map}
use Rattle.gx_heap.proofs.HeapLaws.{heap_read}
use Rattle.gx_heap.proofs.heap.check.Goals as goal

pub returns : goal.returns
returns g c =
    let place = c.args.place.now in
    let p = c.args.pages.now in
    let ground = g.P.PageView.ground p in
    let s = g.P.PageView.working p in
    let whole = IsWhole g.P.PageView (IsHeap ground place) p in
    let sound = HasWholeChain g.P.PageView p place.owner place.root in
    let result = c.check_chain.result in
    record {
      ok = λ told. on_ok_weaker result
          (λ w. (
            heap_map ground place s,
            record {
              told = told;
              file = heap_read ground place s w.pages c.requires.place.least w.chain w.owned;
            },
          ))
          (c.check_chain.ensures.whole told);
      reads = c.check_chain.ensures.reads;
      ends = ends_as g.P.PageView whole sound p p c.check_chain.new.pages result refl refl
          (λ is. record {
            told = is.1.told;
            whole = record {
              pages = is.1.file.pages;
              chain = is.1.file.chain;
              owned = is.1.file.owned;
            };
          })
          c.check_chain.ensures.ends;
      not_full = c.check_chain.ensures.not_full;
    }
