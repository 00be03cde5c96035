use Rattle.std.proofs.Common.{List, Bool, replicate, false, ap, refl, sym, subst, ◌∙◌, rules}
use Rattle.std.proofs.lemmas.Result.{on_ok_weaker}
use Rattle.gx_ports.specs.Files.{IsWhole}
use Rattle.gx_ports.specs.Sheets.{Sheets}
use Rattle.gx_ports.proofs.PageLemmas.{ends_as}
use Rattle.gx_seen.specs.Seen.{HasAllSeen, AreAllSeen}
use Rattle.gx_chain.specs.Map.{owned_map}
use Rattle.gx_hash.specs.Hash.{IsHash}
use Rattle.gx_hash.proofs.BucketLemmas.{roots_some}
use Rattle.gx_hash.proofs.VisitedLemmas.{whole_all_seen, seen_whole}
use Rattle.gx_hash.proofs.hash.check.Goals as goal

pub visit_buckets-requires-clause-none : goal.visit_buckets-requires-clause-none
visit_buckets-requires-clause-none g c =
    c.in_ok-visits.ensures.seen ∙ ap (λ n. replicate n false) c.pages-count.ensures

pub returns : goal.returns
returns g c =
    let p = c.args.pages.now in
    let now = c.visit_buckets.new.pages in
    let s = g.P.PageView.working p in
    let ground = g.P.PageView.ground p in
    let place = c.args.place.now in
    let seen = c.visit_buckets.new.visits.seen.items in
    let marks = c.deref.result.now in
    let visited = c.in_ok-visit_buckets.ensures.visited in
    let reads = c.visit_buckets.ensures.reads in
    let roots = roots_some place.spec c.requires.kind in
    let is_whole = IsWhole g.P.PageView (IsHash ground place) p in
    record {
      ok = λ told. on_ok_weaker c.seek_unseen.result
          (λ all. (
            owned_map place.owner s,
            record {
              told = told;
              file = seen_whole ground place s seen c.requires.place.least roots (visited told)
                  (subst (λ (x : List Bool). AreAllSeen s place.owner x) c.deref.ensures.value
                  (subst (λ (x : Sheets). AreAllSeen x place.owner marks) reads.working all));
            },
          ))
          (c.seek_unseen.ensures.all told);
      reads = search rules;
      ends = ends_as g.P.PageView is_whole (HasAllSeen g.P.PageView now place.owner marks)
          p now c.seek_unseen.new.pages c.seek_unseen.result
          (c.in_ok-visit_buckets.ensures.ends.cause.counted refl) reads.keeps.ground
          (λ whole. (
            whole.1.told,
            subst (λ (x : Sheets). AreAllSeen x place.owner marks) (sym reads.working)
                (subst (λ (x : List Bool). AreAllSeen s place.owner x) (sym c.deref.ensures.value)
                (whole_all_seen ground place s whole.0 whole.1.file seen (visited whole.1.told))),
          ))
          c.seek_unseen.ensures.ends;
      not_full = search rules;
    }
