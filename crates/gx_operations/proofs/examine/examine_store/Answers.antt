use Rattle.std.proofs.Common.{◌∙◌, ℕ, Err, sym, subst}
use Rattle.gx_device.specs.Crash.{LeavesOnly}
use Rattle.gx_leaves.specs.Paged.{pages_of, working_of, kept_of, head_of, IsWhole}
use Rattle.gx_pages.specs.Paged.{ground_of, kept_sheets}
use Rattle.gx_pages.specs.View.{journal_of}
use Rattle.gx_store.specs.Crashes.{IsReplayed}
use Rattle.gx_store.specs.Store.{machine_of}
use Rattle.gx_operations.specs.Damage.{IsDamageBelow}
use Rattle.gx_operations.specs.Examined.{IsExamined}
use Rattle.gx_operations.proofs.DamageLemmas.{damage_kept}
use Rattle.gx_operations.proofs.ReadLemmas.{read_replayed, same_ground, same_sheets}
use Rattle.gx_operations.proofs.StoreLemmas.{settled_read}
use Rattle.gx_operations.proofs.examine.examine_store.Goals as goal

pub returns-in-Ok-clause-settled : goal.returns-in-Ok-clause-settled
returns-in-Ok-clause-settled g c = λ texts head whole.
    let old = c.args.store in
    let left = c.examine-found.new.leaves in
    settled_read texts.0 texts.1 (head_of old) (head_of left) (kept_of old) (kept_of left)
    (g.M.Device.content c.close-machine.result).now.blocks
    c.examine-found.ensures.reads.head c.examine-found.ensures.reads.kept head
    (λ is. c.close-machine.ensures.settled texts.0 texts.1 is
    (c.examine-found.ensures.reads.kept_whole.0 whole))

pub returns-clause-settled : goal.returns-clause-settled
returns-clause-settled g c = λ texts head whole.
    let old = c.args.store in
    let left = c.examine-found.new.leaves in
    settled_read texts.0 texts.1 (head_of old) (head_of left) (kept_of old) (kept_of left)
    (g.M.Device.content c.close-machine.result).now.blocks
    c.examine-found.ensures.reads.head c.examine-found.ensures.reads.kept head
    (λ is. c.close-machine.ensures.settled texts.0 texts.1 is
    (c.examine-found.ensures.reads.kept_whole.0 whole))

pub returns-in-Ok-clause-replayed : goal.returns-in-Ok-clause-replayed
returns-in-Ok-clause-replayed g c = λ told calm.
    let content = g.M.Device.content in
    let store = c.args.store in
    let left = c.examine-found.new.leaves in
    let j = journal_of (pages_of store) in
    let k = journal_of (pages_of left) in
    let reads = c.examine-found.ensures.reads in
    subst (λ m. LeavesOnly (IsReplayed (content (machine_of store)).now)
    (content (machine_of store)) (content m)) (sym c.close-machine.ensures.machine)
    (read_replayed j k (g.met.M.Device.sized j.device told) (g.met.M.Device.sized k.device told)
    calm (reads.calm (content (machine_of store)) calm)
    (same_ground (ground_of k) (ground_of j) (kept_sheets k) (kept_sheets j) reads.stored)
    (same_sheets (ground_of k) (ground_of j) (kept_sheets k) (kept_sheets j) reads.stored)
    reads.silent)

pub returns-clause-replayed : goal.returns-clause-replayed
returns-clause-replayed g c = λ told calm.
    let content = g.M.Device.content in
    let store = c.args.store in
    let left = c.examine-found.new.leaves in
    let j = journal_of (pages_of store) in
    let k = journal_of (pages_of left) in
    let reads = c.examine-found.ensures.reads in
    subst (λ m. LeavesOnly (IsReplayed (content (machine_of store)).now)
    (content (machine_of store)) (content m)) (sym c.close-machine.ensures.machine)
    (read_replayed j k (g.met.M.Device.sized j.device told) (g.met.M.Device.sized k.device told)
    calm (reads.calm (content (machine_of store)) calm)
    (same_ground (ground_of k) (ground_of j) (kept_sheets k) (kept_sheets j) reads.stored)
    (same_sheets (ground_of k) (ground_of j) (kept_sheets k) (kept_sheets j) reads.stored)
    reads.silent)

pub returns-clause-examined : goal.returns-clause-examined
returns-clause-examined g c = λ told steady.
    damage_kept (λ w. IsExamined c.args.schema c.args.built (working_of c.args.store)
    (IsWhole c.args.store) (Err w)) (λ block other is. is) c.in-Err.why c.damage_on-why.result
    c.damage_on-why.ensures.same (c.in-Err.ensures.examined told steady)

pub returns-clause-damage : goal.returns-clause-damage
returns-clause-damage g c = λ told.
    subst (λ (n : ℕ). IsDamageBelow n c.damage_on-why.result)
    (c.blocks-in-Err.ensures.count ∙ g.met.M.Device.sized c.close-machine.result told)
    c.damage_on-why.ensures.below
