use Rattle.std.proofs.Common.{◌≡◌, ◌∷◌, [], Some, inl, refl}
use Rattle.std.proofs.lemmas.Bool.{eqb-true}
use Rattle.gx_mapping.specs.declared.parts.Part.{Part}
use Rattle.gx_partition.proofs.GatherLemmas.{gathered_one, whole_there}
use Rattle.gx_partition.proofs.mapping.PartitionMapping.is_own_part.Goals as goal

pub child_for-requires : goal.child_for-requires
child_for-requires c =
    let p : Part = record { child = c.args.child; rec = c.args.rec.now } in
    (c.requires.each p (inl refl)).fits

pub returns : goal.returns
returns c = λ own.
    let m = c.args.self.now in
    let r = c.args.rec.now in
    let p : Part = record { child = c.args.child; rec = r } in
    let same : c.child_for.result ≡ p.child = eqb-true c.child_for.result p.child own in
    gathered_one m.form m.at m.bounds r.key p (p ∷ []) (Some r) c.requires refl
    (whole_there m.at m.bounds p c.child_for.result r c.child_for.ensures same refl)
