use Rattle.std.proofs.Common.{rules, ◌≡◌, List, ap, sym, ◌∙◌}
use Rattle.std.specs.Prelude.{slice_get, not}
use Rattle.gx_ports.specs.declared.leaves.Entry.{Entry}
use Rattle.gx_ports.specs.LeafMaps.{map_at, selected}
use Rattle.gx_ports.proofs.KeySpanLemmas.{key_there, key_absent, other_first, no_first}
use Rattle.gx_ports.proofs.leaves.Leaves.insert.Goals.{else-not-is_empty-via-then-not-is_empty+else-eq, else-not-is_empty-via-else-not-is_empty}
use Rattle.gx_ports.proofs.leaves.Leaves.insert.Goals as goal

pub returns-then-eq-clause-ok : goal.returns-then-eq-clause-ok
returns-then-eq-clause-ok g c = λ whole.
    let key = c.args.key.now in
    let m = map_at (g.Self.View.working c.args.self.now) c.args.leaf in
    let found : c.select.new.out ≡ selected key key m = search rules in
    let same : c.entry.result.key.now ≡ key = search rules in
    record {
      absent = key_there key m _
          (ap (λ (es : List Entry). slice_get es 0) (sym found) ∙ c.entry.ensures) same;
      maps = search rules;
    }

pub returns-clause-ok : goal.returns-clause-ok
returns-clause-ok g c = λ whole.
    let key = c.args.key.now in
    let m = map_at (g.Self.View.working c.args.self.now) c.args.leaf in
    let found : c.select.new.out ≡ selected key key m = search rules in
    let absent = key_absent key m c.select.new.out found (elim c.else-not-is_empty.branch [
      | else-not-is_empty-via-then-not-is_empty+else-eq w ↦
          other_first key c.select.new.out _ w.entry.ensures (search rules)
      | else-not-is_empty-via-else-not-is_empty w ↦
          no_first key c.select.new.out (search rules)
    ]) in
    record { absent = sym (ap not absent); maps = search rules }

pub returns-in_err-put-clause-full : goal.returns-in_err-put-clause-full
returns-in_err-put-clause-full g c = λ whole full.
    let key = c.args.key.now in
    let m = map_at (g.Self.View.working c.args.self.now) c.args.leaf in
    let found : c.select.new.out ≡ selected key key m = search rules in (
      key_absent key m c.select.new.out found (elim c.else-not-is_empty.branch [
        | else-not-is_empty-via-then-not-is_empty+else-eq w ↦
            other_first key c.select.new.out _ w.entry.ensures (search rules)
        | else-not-is_empty-via-else-not-is_empty w ↦
            no_first key c.select.new.out (search rules)
      ]),
      search rules,
    )
