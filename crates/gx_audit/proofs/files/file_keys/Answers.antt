use Rattle.std.proofs.Common.{rules, ◌≡◌, ◌<◌, ◌++◌, ◌∷◌, [], ◌∙◌, length, get_or, refl, sym, subst, arith}
use Rattle.std.specs.FinMap as fin
use Rattle.std.proofs.lemmas.List.{get_or_read, map-append}
use Rattle.gx_schema.specs.Lookups.{no_file, file_at}
use Rattle.gx_ports.proofs.CallLemmas.{reads_joined}
use Rattle.gx_stack.specs.Seen.{tree_of}
use Rattle.gx_stack.proofs.CountLemmas.{counts_joined}
use Rattle.gx_types.specs.Nodes.{tree_at, AreNodes}
use Rattle.gx_scan.specs.Files.{IsTreeFor}
use Rattle.gx_states.proofs.StoredLemmas.{tree_read, tree_for}
use Rattle.gx_audit.specs.Audits.{keys_of, AreKeys}
use Rattle.gx_audit.proofs.StateLemmas.{internal_as, file_more}
use Rattle.gx_audit.proofs.files.file_keys.Goals as goal

pub node_keys-requires-clause-tree : goal.node_keys-requires-clause-tree
node_keys-requires-clause-tree g c =
    let b = g.B.View in
    let at = c.loop-file in
    let schema = c.args.schema.now in
    let nodes = c.args.built.now.files in
    let def = c.index-def.result.now in
    let node = c.index.result.now in
    let many = length (b.working at.leaves) in
    let below : at.file < length nodes = search rules in
    let read : node ≡ get_or nodes at.file node = search rules in
    let tree = tree_read nodes at.file node below read in
    let file : def ≡ file_at schema at.file =
    get_or_read schema.files at.file def (omega (arith, below, c.requires.nodes.many))
    (search rules) no_file in
    let are : AreNodes schema nodes many =
    subst (λ ms. AreNodes schema nodes (length ms)) (sym at.invariant.reads.working)
    c.requires.nodes in
    subst (λ f. IsTreeFor f (tree_of node) many) (sym file)
    (tree_for schema nodes many at.file (tree_of node) below tree are)

pub returns-in_default-clause-keys : goal.returns-in_default-clause-keys
returns-in_default-clause-keys g c = λ w fs are.
    let b = g.B.View in
    let at = c.loop-file in
    let schema = c.args.schema.now in
    let nodes = c.args.built.now.files in
    let def = c.index-def.result.now in
    let node = c.index.result.now in
    let below : at.file < length nodes = search rules in
    let read : node ≡ get_or nodes at.file node = search rules in
    let there : at.file < length schema.files = omega (arith, below, c.requires.nodes.many) in
    let file : def ≡ file_at schema at.file =
    get_or_read schema.files at.file def there (search rules) no_file in
    let none = subst (AreKeys def (tree_of node) (b.whole at.leaves) (b.working at.leaves))
    c.in_default.is c.in_ok-found.ensures.keys in
    let f = get_or fs at.file fin.empty in
    none (at.invariant.whole w) (
      f,
      internal_as (file_at schema at.file) def (tree_at nodes at.file) (tree_of node)
          (b.working c.args.leaves.now) (b.working at.leaves) f file
          (tree_read nodes at.file node below read) at.invariant.reads.working
          (are.each at.file there),
    )

pub loop-file-preserved : goal.loop-file-preserved
loop-file-preserved g c =
    let b = g.B.View in
    let at = c.loop-file in
    let inv = at.invariant in
    let schema = c.args.schema.now in
    let nodes = c.args.built.now.files in
    let def = c.index-def.result.now in
    let node = c.index.result.now in
    let maps = b.working c.args.leaves.now in
    let e = c.in_ok-found.ensures in
    let below : at.file < length nodes = search rules in
    let read : node ≡ get_or nodes at.file node = search rules in
    let file : def ≡ file_at schema at.file =
    get_or_read schema.files at.file def (omega (arith, below, c.requires.nodes.many))
    (search rules) no_file in
    let found = subst (AreKeys def (tree_of node) (b.whole at.leaves) (b.working at.leaves))
    c.in-Some.is e.keys in
    record {
      found = λ w.
          let fs = inv.found w in
          let f = found (inv.whole w) in (
            fs.0 ++ f.0 ∷ [],
            file_more schema nodes maps at.file fs.0 f.0 fs.1
                (internal_as def (file_at schema at.file) (tree_of node) (tree_at nodes at.file)
                (b.working at.leaves) maps f.0 (sym file)
                (sym (tree_read nodes at.file node below read)) (sym inv.reads.working)
                f.1),
            c.in_ok-push.ensures.items ∙ (λ i. fs.2 i ++ f.2 i ∷ [])
                ∙ sym (map-append keys_of fs.0 (f.0 ∷ [])),
          );
      many = search rules;
      entries = λ w. counts_joined maps (b.working at.leaves) c.args.entries.now at.entries
          c.node_keys.new.entries inv.reads.working (inv.entries w) (e.entries (inv.whole w));
      reads = reads_joined b inv.reads e.reads.reads;
      whole = λ h. e.reads.ends.whole (inv.whole h);
      counted = e.reads.ends.counted refl ∙ inv.counted;
    }

pub returns-in_default-clause-entries : goal.returns-in_default-clause-entries
returns-in_default-clause-entries g c = λ w.
    let b = g.B.View in
    let at = c.loop-file in
    let inv = at.invariant in
    counts_joined (b.working c.args.leaves.now) (b.working at.leaves) c.args.entries.now at.entries
    c.node_keys.new.entries inv.reads.working (inv.entries w)
    (c.in_ok-found.ensures.entries (inv.whole w))

pub returns-in_err-push-clause-entries : goal.returns-in_err-push-clause-entries
returns-in_err-push-clause-entries g c = λ w.
    let b = g.B.View in
    let at = c.loop-file in
    let inv = at.invariant in
    counts_joined (b.working c.args.leaves.now) (b.working at.leaves) c.args.entries.now at.entries
    c.node_keys.new.entries inv.reads.working (inv.entries w)
    (c.in_ok-found.ensures.entries (inv.whole w))

pub returns-in_err-found-clause-entries : goal.returns-in_err-found-clause-entries
returns-in_err-found-clause-entries g c = λ w.
    let b = g.B.View in
    let at = c.loop-file in
    let inv = at.invariant in
    counts_joined (b.working c.args.leaves.now) (b.working at.leaves) c.args.entries.now at.entries
    c.node_keys.new.entries inv.reads.working (inv.entries w)
    (c.node_keys.ensures.entries (inv.whole w))
