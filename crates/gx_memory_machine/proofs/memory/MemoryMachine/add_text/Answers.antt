use Rattle.std.proofs.Common.{◌≡◌, rules, ap, ◌∙◌}
use Rattle.std.specs.FinMap.{insert}
use Rattle.gx_memory_machine.specs.Memory.{texts_of}
use Rattle.gx_memory_machine.proofs.NameLemmas.{set_named}
use Rattle.gx_memory_machine.proofs.memory.MemoryMachine.add_text.Goals as goal

pub returns-clause-ok : goal.returns-clause-ok
returns-clause-ok c =
    let name : c.in_ok-name.name.items ≡ c.args.name.now = search rules in
    let bytes : c.in_ok-bytes.bytes.items ≡ c.args.bytes.now = search rules in
    let texts : texts_of c.insert.new.self.entries ≡ insert c.args.self.now.texts c.args.name.now
    c.args.bytes.now =
    ap texts_of c.in_ok-insert.ensures.entries
    ∙ set_named c.self.inside.texts.entries c.in_ok-name.name c.in_ok-bytes.bytes
    ∙ (λ i. insert (c.self.view_is i).texts (name i) (bytes i)) in
    λ i. record {
      texts = texts i;
      script = (c.self.view_is i).script;
      now = (c.self.view_is i).now;
      past = (c.self.view_is i).past;
      counts = (c.self.view_is i).counts;
    }
