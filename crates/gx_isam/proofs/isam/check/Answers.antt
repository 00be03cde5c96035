use Rattle.std.proofs.Common.{ℕ, List, Bool, ap, refl, sym, subst, ◌∙◌, rules}
use Rattle.std.proofs.lemmas.Result.{on_ok_weaker}
use Rattle.gx_ports.specs.Files.{IsWhole}
use Rattle.gx_ports.specs.Sheets.{Sheets, bytes_at}
use Rattle.gx_ports.proofs.PageLemmas.{ends_as, ends_handed_on}
use Rattle.gx_isam_index.specs.Index.{bucket_count}
use Rattle.gx_isam.specs.Isam.{IsIsam}
use Rattle.gx_isam.specs.Map.{isam_map}
use Rattle.gx_isam.specs.Visited.{AreVisitedBuckets, HasRootAndSeen, IsRootAndSeen}
use Rattle.gx_isam.proofs.ChangeLemmas.{isam_read, isam_back}
use Rattle.gx_isam.proofs.VisitedLemmas.{whole_seen, seen_whole}
use Rattle.gx_isam.proofs.isam.check.Goals as goal

pub returns-in_err-visit_buckets : goal.returns-in_err-visit_buckets
returns-in_err-visit_buckets g c =
    let p = c.args.pages.now in
    let q = c.read_index.new.pages in
    let place = c.args.place.now in
    let reads = c.in_ok-read_index.ensures.reads in
    record {
      ok = search rules;
      reads = search rules;
      ends =
          ends_handed_on {T = Unit {0}} g.P.PageView
          (IsWhole g.P.PageView (IsIsam (g.P.PageView.ground p) place) p)
          (IsWhole g.P.PageView (IsIsam (g.P.PageView.ground q) place) q) p q
          c.visit_buckets.new.pages _
          c.from_residual-in_err-visit_buckets.result
          (c.in_ok-read_index.ensures.ends.cause.counted refl) reads.keeps.ground
          (λ whole. (
            whole.0,
            record {
              told = whole.1.told;
              file = isam_read g.P.PageView place p q reads whole.0 whole.1.file;
            },
          ))
          c.in_err-visit_buckets.ensures.ends c.from_residual-in_err-visit_buckets.ensures.1;
      not_full = search rules;
    }

pub returns : goal.returns
returns g c =
    let p = c.args.pages.now in
    let q = c.read_index.new.pages in
    let s = g.P.PageView.working q in
    let ground = g.P.PageView.ground q in
    let place = c.args.place.now in
    let index = c.read_index.new.page in
    let seen = c.visit_buckets.new.visits.seen.items in
    let reads = c.in_ok-read_index.ensures.reads in
    let r = c.visit_buckets.new.pages in
    record {
      ok = λ told. (
          let page_is = c.in_ok-read_index.ensures.bytes told
          ∙ ap (λ (x : Sheets). bytes_at x place.root) (sym reads.working) in
          on_ok_weaker c.seek_others.result
          (λ all. (
            isam_map place s,
            record {
              told = told;
              file = subst (λ (x : Sheets). IsIsam (g.P.PageView.ground p) place x
                  (isam_map place s)) reads.working
                  (isam_back g.P.PageView place p q reads s (isam_map place s)
                  (seen_whole ground place s index seen c.requires.place.least
                  c.in_ok-read_index.ensures.read page_is
                  (c.in_ok-visit_buckets.ensures.visited told)
                  (subst (λ (x : List Bool). IsRootAndSeen s place.owner place.root x)
                  c.deref_mut.ensures.value
                  (subst (λ (x : Sheets). IsRootAndSeen x place.owner place.root
                  c.deref_mut.result.now)
                  c.visit_buckets.ensures.reads.working all))));
            },
          ))
          (c.seek_others.ensures.all told));
      reads = search rules;
      ends =
          ends_as g.P.PageView (IsWhole g.P.PageView (IsIsam (g.P.PageView.ground p) place) p)
          (HasRootAndSeen g.P.PageView r place.owner place.root c.deref_mut.result.now) p r
          c.seek_others.new.pages c.seek_others.result
          (c.in_ok-visit_buckets.ensures.ends.cause.counted refl
          ∙ c.in_ok-read_index.ensures.ends.cause.counted refl)
          (c.visit_buckets.ensures.reads.keeps.ground ∙ reads.keeps.ground)
          (λ whole. (
            whole.1.told,
            subst (λ (x : Sheets). IsRootAndSeen x place.owner place.root c.deref_mut.result.now)
                (sym c.visit_buckets.ensures.reads.working)
                (subst (λ (x : List Bool). IsRootAndSeen s place.owner place.root x)
                (sym c.deref_mut.ensures.value)
                (whole_seen ground place s whole.0
                (isam_read g.P.PageView place p q reads whole.0 whole.1.file) seen
                (subst (λ (b : List ℕ). AreVisitedBuckets ground place.owner s b
                (bucket_count b) seen)
                (c.in_ok-read_index.ensures.bytes whole.1.told
                ∙ ap (λ (x : Sheets). bytes_at x place.root) (sym reads.working))
                (c.in_ok-visit_buckets.ensures.visited whole.1.told)))),
          ))
          c.seek_others.ensures.ends;
      not_full = search rules;
    }
