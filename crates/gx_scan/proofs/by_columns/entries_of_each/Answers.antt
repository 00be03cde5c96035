use Rattle.std.proofs.Common.{◌≡◌, ◌<◌, ◌++◌, ◌∙◌, ◌∷◌, [], List, length, map, take, get_or, refl, sym, ap, subst, arith, length-append}
use Rattle.std.specs.List.{sum_by}
use Rattle.std.proofs.lemmas.List.{map-append, take_more}
use Rattle.std.proofs.lemmas.List.Sums.{sum_by_push}
use Rattle.gx_ports.specs.declared.leaves.Entry.{Entry}
use Rattle.gx_ports.specs.LeafMaps.{LeafMap, selected, map_at}
use Rattle.gx_ports.proofs.CallLemmas.{reads_itself, reads_joined}
use Rattle.gx_gather.proofs.Lists.{in_read}
use Rattle.gx_scan.specs.declared.places.Place.{Place}
use Rattle.gx_scan.proofs.StepLemmas.{counted_most}
use Rattle.gx_scan.proofs.by_columns.entries_of_each.Goals as goal

pub entries_at-requires : goal.entries_at-requires
entries_at-requires g c =
    let p : Place = c.place-item.result in
    subst (λ (maps : List LeafMap). p.leaf < length maps) (sym c.loop-place.invariant.reads.working)
    (c.requires p (in_read c.args.places.now c.loop-place.place-index p c.place-item.is
    c.loop-place-test.true))

pub loop-place-init : goal.loop-place-init
loop-place-init g c = record {
  many = ap length c.in_ok-columns.ensures.items;
  entries = λ whole. c.in_ok-columns.ensures.items;
  steps = omega arith;
  reads = reads_itself g.B.View c.args.leaves.now;
  whole = λ h. h;
  counted = refl;
}

pub loop-place-preserved : goal.loop-place-preserved
loop-place-preserved g c =
    let b = g.B.View in
    let ps = c.args.places.now in
    let i = c.loop-place.place-index in
    let p : Place = c.place-item.result in
    let inv = c.loop-place.invariant in
    let found = c.in_ok-entries.ensures in
    let es : List Entry = c.in_ok-entries.entries in
    let pushed = c.in_ok-push.ensures.items in
    let here = λ (q : Place). selected c.args.span.now.lo c.args.span.now.hi
    (map_at (b.working c.args.leaves.now) q.leaf) in
    record {
      many = omega (
        arith,
        ap length pushed,
        length-append c.loop-place.columns.items (es ∷ []),
        inv.many,
      );
      entries = λ whole.
          let one : es ≡ here p = found.entries (inv.whole whole)
          ∙ ap (λ (maps : List LeafMap). selected c.args.span.now.lo c.args.span.now.hi
          (map_at maps p.leaf)) inv.reads.working in
          pushed ∙ (λ j. inv.entries whole j ++ one j ∷ [])
          ∙ ap (λ (q : Place). map here (take i ps) ++ here q ∷ []) c.place-item.is
          ∙ sym (ap (map here) (take_more ps i p c.loop-place-test.true)
          ∙ map-append here (take i ps) (get_or ps i p ∷ []));
      steps = omega (
        arith,
        inv.steps,
        counted_most _ _ _ _ found.steps refl,
        ap (sum_by length) pushed,
        sum_by_push {X = List Entry} length c.loop-place.columns.items es,
      );
      reads = reads_joined b inv.reads found.reads.reads;
      whole = λ h. found.reads.ends.whole (inv.whole h);
      counted = found.reads.ends.counted refl ∙ inv.counted;
    }
