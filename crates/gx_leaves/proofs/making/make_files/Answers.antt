use Rattle.std.proofs.Common.{refl, sym, subst, ◌∙◌}
use Rattle.std.proofs.lemmas.Option.{slice_get-get_or}
use Rattle.gx_values.specs.declared.values.Kind.TheVariants.{Int}
use Rattle.gx_ports.specs.declared.kinds.LeafKind.TheVariants.{Heap}
use Rattle.gx_ports.specs.declared.pages.Place.{Place}
use Rattle.std.specs.FinMap.{empty}
use Rattle.std.specs.Prelude.{slice_index_or}
use Rattle.gx_ports.specs.Files.{IsPlace, OthersStay}
use Rattle.gx_ports.proofs.PageLemmas.{pages_keep_themselves, kept_pages_joined}
use Rattle.gx_leaves.specs.Kinds.{IsFileAt}
use Rattle.gx_leaves.proofs.PlaceLemmas.{placed}
use Rattle.gx_leaves.proofs.MakeLemmas.{none_made, next_vacant, next_made}
use Rattle.gx_leaves.proofs.making.make_files.Goals as goal

abbrev no_place : Place
no_place = record { spec = record { kind = Heap; first = Int; key_width = 0 }; root = 0; owner = 0 }

pub loop-place-init : goal.loop-place-init
loop-place-init g c = record {
  made = λ told free. none_made (g.P.PageView.ground c.args.pages.now) c.args.places.now c.requires
      (g.P.PageView.working c.args.pages.now) free;
  keeps = pages_keep_themselves g.P.PageView c.args.pages.now;
  faults = refl;
}

pub make_file-requires-clause-built : goal.make_file-requires-clause-built
make_file-requires-clause-built g c =
    let at = slice_get-get_or c.args.places.now c.loop-place.place-index no_place
    c.loop-place-test.true in
    (placed (g.P.PageView.ground c.args.pages.now) c.args.places.now c.requires
    c.loop-place.place-index
    (slice_index_or c.args.places.now c.loop-place.place-index no_place) at).built

pub make_file-requires-clause-place : goal.make_file-requires-clause-place
make_file-requires-clause-place g c =
    let place = slice_index_or c.args.places.now c.loop-place.place-index no_place in
    let at = slice_get-get_or c.args.places.now c.loop-place.place-index no_place
    c.loop-place-test.true in
    subst (λ b. IsPlace b place) (sym c.loop-place.invariant.keeps.ground)
    (placed (g.P.PageView.ground c.args.pages.now) c.args.places.now c.requires
    c.loop-place.place-index place at).is

pub loop-place-preserved : goal.loop-place-preserved
loop-place-preserved g c =
    let base = g.P.PageView.ground c.args.pages.now in
    let old = g.P.PageView.working c.loop-place.pages in
    let new = g.P.PageView.working c.make_file.new.pages in
    let place = slice_index_or c.args.places.now c.loop-place.place-index no_place in
    let at = slice_get-get_or c.args.places.now c.loop-place.place-index no_place
    c.loop-place-test.true in
    let so_far = c.loop-place.invariant in
    let done = c.in_ok-make_file.ensures in record {
      made = λ told free.
          let many = (g.met.P.Pages.many c.loop-place.pages told).0
          ∙ (λ i. (so_far.keeps.ground i).size) in
          let vacant = next_vacant base c.args.places.now c.requires c.loop-place.place-index old
          place at (so_far.made told free) many in
          next_made base c.args.places.now c.requires c.loop-place.place-index old place at
          (so_far.made told free) many new
          (subst (λ b. IsFileAt b place new empty) so_far.keeps.ground (done.made told vacant))
          (subst (λ b. OthersStay b place.owner old new) so_far.keeps.ground
          (done.others told vacant))
          (done.roots told vacant);
      keeps = kept_pages_joined g.P.PageView so_far.keeps done.keeps;
      faults = done.faults.counted ∙ so_far.faults;
    }
