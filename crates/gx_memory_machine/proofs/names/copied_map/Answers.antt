use Rattle.std.proofs.Common.{◌≡◌, ◌++◌, ◌∷◌, [], rules}
use Rattle.gx_memory_machine.proofs.NameLemmas.{one_copied}
use Rattle.gx_memory_machine.proofs.names.copied_map.Goals as goal

pub loop-name-preserved-in_ok-insert : goal.loop-name-preserved-in_ok-insert
loop-name-preserved-in_ok-insert g c =
    let last : c.loop-name.left ≡ c.next_back.new.self
    ++ (c.in-Some.name.now, c.in-Some.items.now) ∷ [] = search rules in
    let name : c.in_ok-name.name.items ≡ c.in-Some.name.now.items = search rules in
    let items : c.in_ok-items.items.items ≡ c.in-Some.items.now.items = search rules in
    one_copied c.args.map.now.entries c.loop-name.left c.next_back.new.self c.loop-name.copy.entries
    c.insert.new.self.entries (c.in-Some.name.now, c.in-Some.items.now) c.in_ok-name.name
    c.in_ok-items.items c.loop-name.invariant last c.in_ok-insert.ensures.entries name items

pub loop-name-preserved : goal.loop-name-preserved
loop-name-preserved g c =
    let last : c.loop-name.left ≡ c.next_back.new.self
    ++ (c.in-Some.name.now, c.in-Some.items.now) ∷ [] = search rules in
    let name : c.in_ok-name.name.items ≡ c.in-Some.name.now.items = search rules in
    let items : c.in_ok-items.items.items ≡ c.in-Some.items.now.items = search rules in
    one_copied c.args.map.now.entries c.loop-name.left c.next_back.new.self c.loop-name.copy.entries
    c.insert.new.self.entries (c.in-Some.name.now, c.in-Some.items.now) c.in_ok-name.name
    c.in_ok-items.items c.loop-name.invariant last c.in_ok-insert.ensures.entries name items
