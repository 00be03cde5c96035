use Rattle.std.proofs.Common.{◌≡◌, ap, refl, sym, subst, arith}
use Rattle.std.proofs.lemmas.Result.{on_ok_weaker}
use Rattle.gx_ports.specs.Files.{IsWhole, page_count}
use Rattle.gx_ports.specs.Roots.{roots_of, roots_of_kind}
use Rattle.gx_ports.specs.Sheets.{HasNone}
use Rattle.gx_ports.proofs.PageLemmas.{ends_as}
use Rattle.gx_chain.specs.Chain.{HasChainOf}
use Rattle.gx_chain.proofs.OwnerLemmas.{spared}
use Rattle.gx_heap.specs.Heap.{IsHeap}
use Rattle.gx_heap.proofs.HeapLemmas.{heap_put, heap_put_others, heap_few}
use Rattle.gx_heap.proofs.heap.put.Goals as goal

pub returns : goal.returns
returns g c =
    let place = c.args.place.now in
    let key = c.args.key.now in
    let body = c.args.body.now in
    let p = c.args.pages.now in
    let ground = g.P.PageView.ground p in
    let s = g.P.PageView.working p in
    let t = g.P.PageView.working c.put_in.new.pages in
    let result = c.put_in.result in
    let sound = HasChainOf g.P.PageView p place.owner place.root in
    let is_whole = IsWhole g.P.PageView (IsHeap ground place) p in
    let has_chain : is_whole → sound = λ whole. record {
      told = whole.1.told;
      pages = whole.1.file.pages;
      chain = whole.1.file.chain;
    } in
    let least = c.requires.place.least in
    let one : roots_of place.spec ≡ 1 = ap roots_of_kind c.requires.kind in
    record {
      ok = λ map holds. on_ok_weaker result
          (λ put. heap_put ground place s t map key body least holds.file put)
          (c.put_in.ensures.put holds.told holds.file.pages holds.file.chain);
      others = λ whole fault.
          let file = whole.1.file in
          spared g.P.PageView sound ground place.owner p c.put_in.new.pages result
          (has_chain whole) c.put_in.ensures.claims.ends
          (on_ok_weaker result
          (λ put. heap_put_others ground place s t whole.0 key body least file put)
          (c.put_in.ensures.put whole.1.told file.pages file.chain))
          c.put_in.ensures.claims.unchanged c.put_in.ensures.claims.frugal fault;
      full = record {
        none = λ told is. subst (HasNone ground) (sym (c.put_in.ensures.claims.unchanged is))
            (c.put_in.ensures.claims.full told is);
        few = λ map holds is. (let few = heap_few ground place s map holds.file in
            let same = ap (page_count place.owner) (c.put_in.ensures.claims.unchanged is) in
            omega (arith, few, same, one));
      };
      keeps = c.put_in.ensures.claims.keeps;
      ends = ends_as g.P.PageView is_whole sound p p c.put_in.new.pages result refl refl
          has_chain c.put_in.ensures.claims.ends;
      frugal = c.put_in.ensures.claims.frugal;
    }
