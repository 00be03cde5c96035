use Rattle.std.proofs.Common.{◌≡◌, IsTrue, ap, arith}
use Rattle.std.proofs.lemmas.Result.{on_ok_weaker}
use Rattle.gx_ports.specs.Roots.{roots_of, roots_of_kind}
use Rattle.gx_ports.specs.Files.{IsVacant}
use Rattle.gx_heap.proofs.HeapLemmas.{heap_made, heap_made_others, heap_made_roots}
use Rattle.gx_heap.proofs.heap.make.Goals as goal

pub returns : goal.returns
returns g c =
    let place = c.args.place.now in
    let p = c.args.pages.now in
    let ground = g.P.PageView.ground p in
    let s = g.P.PageView.working p in
    let t = g.P.PageView.working c.make_first.new.pages in
    let least = c.requires.place.least in
    let one : roots_of place.spec ≡ 1 = ap roots_of_kind c.requires.kind in
    let result = c.make_first.result in
    let free = λ (vacant : IsVacant place s).
    vacant.free place.root (omega arith) (omega (arith, one)) in
    let made = λ (told : IsTrue g.P.PageView.tells) (vacant : IsVacant place s).
    c.make_first.ensures.made told (free vacant) in
    record {
      made = λ told vacant. on_ok_weaker result
          (λ is. heap_made ground place s t least vacant is (free vacant))
          (made told vacant);
      others = λ told vacant. on_ok_weaker result
          (λ is. heap_made_others ground place s t least vacant is (free vacant))
          (made told vacant);
      roots = λ told vacant. on_ok_weaker result
          (λ is. heap_made_roots ground place s t least vacant is (free vacant) c.requires.kind)
          (made told vacant);
      keeps = c.make_first.ensures.keeps;
      faults = c.make_first.ensures.faults;
    }
