use Rattle.std.proofs.Common.{List, sym, subst}
use Rattle.gx_values.specs.declared.records.Form.{Form}
use Rattle.gx_values.specs.declared.values.Value.{Value}
use Rattle.gx_partition.specs.Bounds.{IsPartition}
use Rattle.gx_partition.proofs.make.partition.Goals as goal

pub invariant_of-result : goal.invariant_of-result
invariant_of-result c =
    record {
      sound = subst (λ (f : Form). IsPartition f c.args.field c.in_ok-copy-2.field-0)
          (sym c.in_ok-copy.ensures)
          (subst (λ (b : List Value). IsPartition c.args.form.now c.args.field b)
          (sym c.in_ok-copy-2.ensures) c.requires);
    }

pub returns-clause-bounds : goal.returns-clause-bounds
returns-clause-bounds c =
    c.in_ok-copy-2.ensures
