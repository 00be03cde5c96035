use Rattle.std.proofs.Common.{Option, Vec, Global, sym, subst}
use Rattle.std.specs.Prelude.{IfSome}
use Rattle.gx_scan.specs.declared.places.Place.{Place}
use Rattle.gx_scan.specs.Columns.{ArePlainColumns}
use Rattle.gx_scan.proofs.within.rows_within.Goals as goal

pub add_by_columns-requires-clause-plain : goal.add_by_columns-requires-clause-plain
add_by_columns-requires-clause-plain g c =
    subst ArePlainColumns (sym c.as_slice.ensures.value)
    (subst (λ (o : Option (Vec Place Global)). IfSome o
    (λ (v : Vec Place Global). ArePlainColumns v.items)) c.in-Some-2.is
    c.in_ok-places.ensures.plain)
