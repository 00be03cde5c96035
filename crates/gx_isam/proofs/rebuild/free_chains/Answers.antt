use Rattle.std.proofs.Common.{refl, sym, ap, subst, ◌∙◌, arith}
use Rattle.gx_ports.specs.Files.{IsWhole, OthersStay}
use Rattle.gx_ports.specs.Sheets.{Ground, Sheets, bytes_at}
use Rattle.gx_ports.proofs.PageLemmas.{ends_handed_on, kept_pages_joined, others_itself}
use Rattle.gx_isam.specs.Isam.{IsIsam}
use Rattle.gx_isam.specs.Rebuild.{HasIndex, HasIndexAt, IsFreed}
use Rattle.gx_isam.proofs.RebuildLemmas.{freed_all, freed_more}
use Rattle.gx_isam.proofs.rebuild.free_chains.Goals as goal

pub loop-bucket-init : goal.loop-bucket-init
loop-bucket-init g c =
    let p = c.args.pages.now in
    let place = c.args.place.now in
    let ground = g.P.PageView.ground p in
    let reads = c.in_ok-read_index.ensures.reads in
    record {
      keeps = reads.keeps;
      faults = c.in_ok-read_index.ensures.ends.cause.counted refl;
      page = c.in_ok-read_index.ensures.read;
      counted = sym c.buckets-count.ensures.value;
      within = omega arith;
      way = λ map told h. record {
        whole = record {
          map = map;
          file = subst (λ (x : Sheets). IsIsam ground place x map) (sym reads.working) h;
          index_is = c.in_ok-read_index.ensures.bytes told
              ∙ ap (λ (x : Sheets). bytes_at x place.root) (sym reads.working);
        };
        small = λ some. absurd (omega (arith, some));
        none = λ i less. absurd (omega (arith, less));
        others = subst (λ (x : Sheets). OthersStay ground place.owner (g.P.PageView.working p) x)
            (sym reads.working)
            (others_itself ground place.owner (g.P.PageView.working p));
      };
    }

pub returns-in_err-free_chain-clause-ends : goal.returns-in_err-free_chain-clause-ends
returns-in_err-free_chain-clause-ends g c =
    let i = c.loop-bucket.invariant in
    let p = c.args.pages.now in
    let now = c.loop-bucket.pages in
    let place = c.args.place.now in
    let index = c.loop-bucket.index in
    ends_handed_on {T = Unit {0}} g.P.PageView
    (IsWhole g.P.PageView (IsIsam (g.P.PageView.ground p) place) p)
    (HasIndexAt g.P.PageView now place index) p now c.free_chain.new.pages _
    c.from_residual-in_err-free_chain.result
    i.faults i.keeps.ground
    (λ whole. (
      whole.1.told,
      subst (λ (x : Ground). HasIndex x place (g.P.PageView.working now) index) (sym i.keeps.ground)
          (i.way whole.0 whole.1.told whole.1.file).whole,
    ))
    c.in_err-free_chain.ensures.ends c.from_residual-in_err-free_chain.ensures.1

pub loop-bucket-preserved : goal.loop-bucket-preserved
loop-bucket-preserved g c =
    let i = c.loop-bucket.invariant in
    let p = c.args.pages.now in
    let now = c.loop-bucket.pages in
    let s = g.P.PageView.working now in
    let u = g.P.PageView.working c.free_chain.new.pages in
    let place = c.args.place.now in
    let bucket = c.loop-bucket.bucket in
    let index = c.loop-bucket.index in
    let after = c.free_chain.new.index in
    let test = c.loop-bucket-test.true in
    let counted = i.counted in
    let ground = g.P.PageView.ground p in
    record {
      keeps = kept_pages_joined g.P.PageView i.keeps c.free_chain.ensures.keeps;
      faults = c.in_ok-free_chain.ensures.ends.cause.counted refl ∙ i.faults;
      page = c.free_chain.ensures.index;
      counted = c.free_chain.ensures.count ∙ i.counted;
      within = omega (arith, test);
      way = λ map told h. (let so = i.way map told h in
          freed_more ground place (g.P.PageView.working p) s u index after bucket
          (omega (arith, test, counted)) so
          (subst (λ (x : Ground). IsFreed x place bucket index after s u) i.keeps.ground
          (c.in_ok-free_chain.ensures.freed told
          (subst (λ (x : Ground). HasIndex x place s index) (sym i.keeps.ground) so.whole))));
    }

pub returns-clause-emptied : goal.returns-clause-emptied
returns-clause-emptied g c map holds =
    let i = c.loop-bucket.invariant in
    let p = c.args.pages.now in
    let within = i.within in
    let counted = i.counted in
    let over = c.loop-bucket-test.false in
    freed_all (g.P.PageView.ground p) c.args.place.now (g.P.PageView.working p)
    (g.P.PageView.working c.loop-bucket.pages)
    c.loop-bucket.index c.loop-bucket.bucket (i.way map holds.told holds.file)
    (omega (arith, within, counted, over))
