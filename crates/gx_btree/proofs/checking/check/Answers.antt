use Rattle.std.proofs.Common.{refl, sym, subst, rules}
use Rattle.std.proofs.lemmas.Result.{on_ok_weaker}
use Rattle.gx_ports.specs.Files.{IsWhole}
use Rattle.gx_ports.specs.Sheets.{Sheets}
use Rattle.gx_ports.proofs.PageLemmas.{ends_as}
use Rattle.gx_btree.specs.Bplus.{IsBplus}
use Rattle.gx_seen.specs.Seen.{AreAllSeen, HasAllSeen}
use Rattle.gx_btree.proofs.checking.check.Goals as goal

pub returns : goal.returns
returns g c =
    let p = c.args.pages.now in
    let s = g.P.PageView.working p in
    let owner = c.args.place.now.owner in
    let now = c.visit_tree.new.pages in
    record {
      ok = λ told.
          on_ok_weaker c.seek_unseen.result
          (λ all. (c.in_ok-seen.ensures.seen told).1
          (subst (AreAllSeen s owner) c.deref.ensures.value
          (subst (λ (x : Sheets). AreAllSeen x owner c.deref.result.now)
          c.visit_tree.ensures.reads.working all)))
          (c.seek_unseen.ensures.all told);
      reads = search rules;
      ends =
          ends_as g.P.PageView (IsWhole g.P.PageView
          (IsBplus (g.P.PageView.ground p) c.args.place.now) p)
          (HasAllSeen g.P.PageView now owner c.deref.result.now) p now c.seek_unseen.new.pages
          c.seek_unseen.result
          (c.in_ok-seen.ensures.ends.cause.counted refl) c.visit_tree.ensures.reads.keeps.ground
          (λ whole. (
            whole.1.told,
            subst (λ (x : Sheets). AreAllSeen x owner c.deref.result.now)
                (sym c.visit_tree.ensures.reads.working)
                (subst (AreAllSeen s owner) (sym c.deref.ensures.value)
                ((c.in_ok-seen.ensures.seen whole.1.told).0 whole)),
          ))
          c.seek_unseen.ensures.ends;
      not_full = search rules;
    }
