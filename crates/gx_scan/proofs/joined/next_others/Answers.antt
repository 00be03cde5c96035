use Rattle.std.proofs.Common.{◌∙◌, inl, inr, sym, ap, arith}
use Rattle.std.specs.Prelude.{not, map}
use Rattle.gx_ports.specs.declared.leaves.Entry.{Entry}
use Rattle.gx_schema.specs.Lookups.{data_fields}
use Rattle.gx_gather.proofs.Lists.{bool_cases}
use Rattle.gx_scan.specs.Files.{rec_of}
use Rattle.gx_scan.specs.Groups.{has_others, group_row}
use Rattle.gx_scan.proofs.JoinLemmas.{same_bytes, other_bytes, some_there, is_there, no_later, without_it, defaults_there}
use Rattle.gx_scan.proofs.joined.next_others.Goals.{then-at-len+else-eq, else-at-len}
use Rattle.gx_scan.proofs.joined.next_others.Goals as goal

pub returns-in_err-values : goal.returns-in_err-values
returns-in_err-values c = λ r rs fit key differ defaults same.
    let g = c.args.groups.now in
    let fields = data_fields c.args.file.now in
    let others = c.args.others.now in
    let e : Entry =
    record { key = c.entry-entry.result.key.now; body = c.entry-entry.result.body.now } in
    elim (bool_cases (has_others g.mask.now fields r)) [
      | inl has ↦ (
          let at = is_there g fields others c.args.at r rs same has e c.entry-entry.ensures in
          absurd (c.in_err-values.ensures (rec_of (group_row (map not g.mask.now) r)) (ap (λ (x :
          Entry). x.body) at.0)))
      | inr has ↦ absurd (no_later g fields others c.args.at r rs same has e c.entry-entry.ensures
          differ (same_bytes _ _ (sym c.if-eq.ensures) ∙ key))
    ]

pub returns-then-eq : goal.returns-then-eq
returns-then-eq c = λ r rs fit key differ defaults same.
    let g = c.args.groups.now in
    let fields = data_fields c.args.file.now in
    let others = c.args.others.now in
    let e : Entry =
    record { key = c.entry-entry.result.key.now; body = c.entry-entry.result.body.now } in
    elim (bool_cases (has_others g.mask.now fields r)) [
      | inl has ↦ (
          let at = is_there g fields others c.args.at r rs same has e c.entry-entry.ensures in (
            c.in_ok-values.ensures (rec_of (group_row (map not g.mask.now) r)) (ap (λ (x : Entry).
                x.body) at.0),
            at.1,
          ))
      | inr has ↦ absurd (no_later g fields others c.args.at r rs same has e c.entry-entry.ensures
          differ (same_bytes _ _ (sym c.if-eq.ensures) ∙ key))
    ]

pub returns : goal.returns
returns c = λ r rs fit key differ defaults same.
    let g = c.args.groups.now in
    let fields = data_fields c.args.file.now in
    let others = c.args.others.now in
    elim (bool_cases (has_others g.mask.now fields r)) [
      | inl has ↦ elim c.if-at-len.branch [
        | then-at-len+else-eq w ↦ (
            let e : Entry =
            record { key = w.entry-entry.result.key.now; body = w.entry-entry.result.body.now } in
            let at = is_there g fields others c.args.at r rs same has e w.entry-entry.ensures in
            absurd (other_bytes _ _ (sym w.if-eq.ensures) (ap (λ (x : Entry). x.key) at.0
            ∙ sym key)))
        | else-at-len w ↦ absurd (omega (
          arith,
          w.if-at-len.false,
          c.len.ensures,
          some_there g
              fields others c.args.at r rs same has,
        ))
      ]
      | inr has ↦ (
        defaults ∙ defaults_there g fields others c.args.at r rs same has fit.1,
        without_it g fields others c.args.at r rs same has,
      )
    ]
