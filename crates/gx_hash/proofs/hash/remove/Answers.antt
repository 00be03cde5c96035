use Rattle.std.proofs.Common.{◌≡◌, ◌+◌, ap, refl, subst, ◌∙◌}
use Rattle.std.proofs.lemmas.Result.{on_ok_weaker}
use Rattle.gx_ports.specs.LeafMaps.{LeafMap}
use Rattle.gx_ports.specs.Files.{IsWhole}
use Rattle.gx_ports.proofs.PageLemmas.{ends_as}
use Rattle.gx_chain.specs.Chain.{HasChainOf}
use Rattle.gx_chain.specs.Changes.{IsRemovedFrom}
use Rattle.gx_chain.proofs.OwnerLemmas.{spared}
use Rattle.gx_hash.specs.Buckets.{hash_bucket}
use Rattle.gx_hash.specs.Hash.{IsHash}
use Rattle.gx_hash.proofs.BucketLemmas.{roots_some}
use Rattle.gx_hash.proofs.HashLemmas.{root_past, chain_at, has_chain, hash_removed, hash_removed_others}
use Rattle.gx_hash.proofs.hash.remove.Goals as goal

pub remove_from-requires-clause-first : goal.remove_from-requires-clause-first
remove_from-requires-clause-first g c =
    root_past (g.P.PageView.ground c.args.pages.now) c.args.place.now c.bucket.result
    c.root-first.result c.requires.place c.bucket.ensures.below c.root-first.ensures

pub returns : goal.returns
returns g c =
    let place = c.args.place.now in
    let key = c.args.key.now in
    let p = c.args.pages.now in
    let ground = g.P.PageView.ground p in
    let s = g.P.PageView.working p in
    let t = g.P.PageView.working c.remove_from.new.pages in
    let result = c.remove_from.result in
    let root = c.root-first.result in
    let sound = HasChainOf g.P.PageView p place.owner root in
    let least = c.requires.place.least in
    let roots = roots_some place.spec c.requires.kind in
    let bucket = hash_bucket place.spec key in
    let first : root ≡ place.root + bucket =
    c.root-first.ensures ∙ ap (λ n. place.root + n) c.bucket.ensures.is in
    let chain = λ (map : LeafMap) (h : IsHash ground place s map).
    chain_at ground place s map key root roots first h in
    let is_less = λ (map : LeafMap) (h : IsHash ground place s map).
    subst (λ n. IsRemovedFrom ground place.owner n key s t (h.pages bucket)) first in
    let is_whole = IsWhole g.P.PageView (IsHash ground place) p in
    let has = has_chain g.P.PageView p place key root roots first in
    record {
      ok = λ map holds.
          let h = holds.file in
          on_ok_weaker result
          (λ less. hash_removed ground place s t map key least roots h (is_less map h less))
          (c.remove_from.ensures.removed holds.told (h.pages bucket) (chain map h));
      others = λ whole fault.
          let h = whole.1.file in
          spared g.P.PageView sound ground place.owner p c.remove_from.new.pages result
          (has whole) c.remove_from.ensures.ends
          (on_ok_weaker result
          (λ less. hash_removed_others ground place s t whole.0 key least roots h
          (is_less whole.0 h less))
          (c.remove_from.ensures.removed whole.1.told (h.pages bucket) (chain whole.0 h)))
          (λ is. absurd (c.remove_from.ensures.not_full is)) c.remove_from.ensures.frugal fault;
      keeps = c.remove_from.ensures.keeps;
      ends = ends_as g.P.PageView is_whole sound p p c.remove_from.new.pages result refl refl
          has c.remove_from.ensures.ends;
      not_full = c.remove_from.ensures.not_full;
      frugal = c.remove_from.ensures.frugal;
    }
