use Rattle.std.proofs.Common.{◌≡◌, ◌+◌, ap, refl, sym, subst, ◌∙◌, arith}
use Rattle.std.proofs.lemmas.Result.{on_ok_weaker}
use Rattle.gx_ports.specs.LeafMaps.{LeafMap}
use Rattle.gx_ports.specs.Files.{IsWhole, page_count}
use Rattle.gx_ports.specs.Sheets.{HasNone}
use Rattle.gx_ports.proofs.PageLemmas.{ends_as}
use Rattle.gx_chain.specs.Chain.{HasChainOf}
use Rattle.gx_chain.specs.Changes.{IsPutIn}
use Rattle.gx_chain.proofs.OwnerLemmas.{spared}
use Rattle.gx_hash.specs.Buckets.{hash_bucket}
use Rattle.gx_hash.specs.Hash.{IsHash}
use Rattle.gx_hash.proofs.BucketLemmas.{roots_some}
use Rattle.gx_hash.proofs.HashLemmas.{root_past, chain_at, has_chain, hash_put, hash_put_others}
use Rattle.gx_hash.proofs.PagesLemmas.{hash_few}
use Rattle.gx_hash.proofs.hash.put.Goals as goal

pub put_in-requires-clause-first : goal.put_in-requires-clause-first
put_in-requires-clause-first g c =
    root_past (g.P.PageView.ground c.args.pages.now) c.args.place.now c.bucket.result
    c.root-first.result c.requires.place c.bucket.ensures.below c.root-first.ensures

pub returns : goal.returns
returns g c =
    let place = c.args.place.now in
    let key = c.args.key.now in
    let body = c.args.body.now in
    let p = c.args.pages.now in
    let ground = g.P.PageView.ground p in
    let s = g.P.PageView.working p in
    let t = g.P.PageView.working c.put_in.new.pages in
    let result = c.put_in.result in
    let root = c.root-first.result in
    let sound = HasChainOf g.P.PageView p place.owner root in
    let least = c.requires.place.least in
    let roots = roots_some place.spec c.requires.kind in
    let bucket = hash_bucket place.spec key in
    let first : root ≡ place.root + bucket =
    c.root-first.ensures ∙ ap (λ n. place.root + n) c.bucket.ensures.is in
    let chain = λ (map : LeafMap) (h : IsHash ground place s map).
    chain_at ground place s map key root roots first h in
    let is_put = λ (map : LeafMap) (h : IsHash ground place s map).
    subst (λ n. IsPutIn ground place.owner n key body s t (h.pages bucket)) first in
    let is_whole = IsWhole g.P.PageView (IsHash ground place) p in
    let has = has_chain g.P.PageView p place key root roots first in
    record {
      ok = λ map holds.
          let h = holds.file in
          on_ok_weaker result
          (λ put. hash_put ground place s t map key body least roots h (is_put map h put))
          (c.put_in.ensures.put holds.told (h.pages bucket) (chain map h));
      others = λ whole fault.
          let h = whole.1.file in
          spared g.P.PageView sound ground place.owner p c.put_in.new.pages result
          (has whole) c.put_in.ensures.claims.ends
          (on_ok_weaker result
          (λ put. hash_put_others ground place s t whole.0 key body least roots h
          (is_put whole.0 h put))
          (c.put_in.ensures.put whole.1.told (h.pages bucket) (chain whole.0 h)))
          c.put_in.ensures.claims.unchanged c.put_in.ensures.claims.frugal fault;
      full = record {
        none = λ told is. subst (HasNone ground) (sym (c.put_in.ensures.claims.unchanged is))
            (c.put_in.ensures.claims.full told is);
        few = λ map holds is. (let few = hash_few ground place s map holds.file in
            let same = ap (page_count place.owner) (c.put_in.ensures.claims.unchanged is) in
            omega (arith, few, same));
      };
      keeps = c.put_in.ensures.claims.keeps;
      ends = ends_as g.P.PageView is_whole sound p p c.put_in.new.pages result refl refl
          has c.put_in.ensures.claims.ends;
      frugal = c.put_in.ensures.claims.frugal;
    }
