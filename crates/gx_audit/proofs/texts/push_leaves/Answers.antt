use Rattle.std.proofs.Common.{rules, ◌≡◌, ◌<◌, ◌++◌, ◌∙◌, List, ℕ, length, get_or, [], refl, sym, ap, subst, arith}
use Rattle.std.specs.FinMap.{len}
use Rattle.std.proofs.lemmas.List.{append_assoc, get_or_read}
use Rattle.gx_ports.specs.declared.kinds.LeafSpec.{LeafSpec}
use Rattle.gx_ports.specs.LeafMaps.{LeafMap, map_at}
use Rattle.gx_ports.proofs.CallLemmas.{reads_joined}
use Rattle.gx_stack.specs.Held.{AreCounts}
use Rattle.gx_audit.specs.Texts.{no_spec, definition_names, leaf_text, leaf_line, lines_below}
use Rattle.gx_audit.proofs.TextLemmas.{lines_more}
use Rattle.gx_audit.proofs.texts.push_leaves.Goals as goal

pub loop-leaf-preserved : goal.loop-leaf-preserved
loop-leaf-preserved g c =
    let b = g.B.View in
    let at = c.loop-leaf in
    let inv = at.invariant in
    let n = at.leaf in
    let schema = c.args.schema.now in
    let specs = c.args.built.now.specs in
    let owners = c.args.built.now.owners in
    let maps = b.working c.args.leaves.now in
    let old = c.args.text.now.items in
    let e = c.in_ok-count.ensures in
    let line = leaf_line schema specs owners maps in
    let below : n < length maps = search rules in
    let owner = c.index.result.now in
    let owned : owner ≡ get_or owners n owner = search rules in
    let name : c.definition_name-name.result.now ≡ get_or (definition_names schema)
    (get_or owners n 0) [] =
    c.definition_name-name.ensures
    ∙ ap (λ (k : ℕ). get_or (definition_names schema) k [])
    (get_or_read owners n owner (omega (arith, below, c.requires.owners)) owned 0) in
    let spec = c.index-in-loop-leaf.result.now in
    let stored : spec ≡ get_or specs n spec = search rules in
    let kind : spec.kind ≡ (get_or specs n no_spec).kind =
    ap (λ (s : LeafSpec). s.kind)
    (get_or_read specs n spec (omega (arith, below, c.requires.specs)) stored no_spec) in
    record {
      lines = λ w are.
          let count : c.in_ok-count.count ≡ len (map_at maps n) =
          e.count (inv.whole w) (subst (λ ms. AreCounts ms c.args.entries.now)
          (sym inv.reads.working) are)
          ∙ ap (λ (ms : List LeafMap). len (map_at ms n)) inv.reads.working in
          c.in_ok-push_leaf.ensures
          ∙ (λ i. inv.lines w are i ++ leaf_text n (name i) (kind i) (count i))
          ∙ append_assoc old (lines_below line n) (line n)
          ∙ ap (λ (lines : List ℕ). old ++ lines) (sym (lines_more line n));
      reads = reads_joined b inv.reads e.reads.reads;
      whole = λ h. e.reads.ends.whole (inv.whole h);
      counted = e.reads.ends.counted refl ∙ inv.counted;
    }
