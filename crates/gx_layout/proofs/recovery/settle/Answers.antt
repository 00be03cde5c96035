use Rattle.std.proofs.Common.{true, ◌∙◌}
use Rattle.gx_device.specs.Crash.{EachImage}
use Rattle.gx_device.proofs.RunLemmas.{joined}
use Rattle.gx_layout.specs.Layout.{StandsFor, flags, has_bit_on}
use Rattle.gx_layout.proofs.BlockLemmas.{silent_twice, blocks_read}
use Rattle.gx_layout.proofs.RecoverLemmas.{settled_home, settled_gate, read_images, found_leaves, still_none, still_reads, still_gate, room_of, few_of}
use Rattle.gx_layout.proofs.recovery.settle.Goals as goal

pub returns-in_err-is_gate_open-clause-images : goal.returns-in_err-is_gate_open-clause-images
returns-in_err-is_gate_open-clause-images g c told v counts none reads =
    let a = g.D.Device.content c.args.device.now in
    read_images (StandsFor v) a _ (c.is_gate_open.ensures.rest)
    (found_leaves a v
    (room_of _ c.args.pages _ (g.met.D.Device.sized c.args.device.now told) c.requires.room)
    (few_of _ c.args.pages _ v.pages (g.met.D.Device.sized c.args.device.now told) counts
    c.requires.limit) none reads)

pub returns-else-branch-clause-images : goal.returns-else-branch-clause-images
returns-else-branch-clause-images g c told v counts none reads =
    let a = g.D.Device.content c.args.device.now in
    read_images (StandsFor v) a _ (c.is_gate_open.ensures.rest)
    (found_leaves a v
    (room_of _ c.args.pages _ (g.met.D.Device.sized c.args.device.now told) c.requires.room)
    (few_of _ c.args.pages _ v.pages (g.met.D.Device.sized c.args.device.now told) counts
    c.requires.limit) none reads)

pub returns-in_err-bring_back-clause-images : goal.returns-in_err-bring_back-clause-images
returns-in_err-bring_back-clause-images g c told v counts none reads =
    let content = g.D.Device.content in
    let a = content c.args.device.now in
    let b = content c.is_gate_open.new.device in
    let r = c.is_gate_open.ensures.rest in
    let first = read_images (StandsFor v) a b r (found_leaves a v
    (room_of _ c.args.pages _ (g.met.D.Device.sized c.args.device.now told) c.requires.room)
    (few_of _ c.args.pages _ v.pages (g.met.D.Device.sized c.args.device.now told) counts
    c.requires.limit) none reads)
    in
    let none_b = still_none a b r none in
    let reads_b = still_reads a b v r reads in
    let gate_b = still_gate a b true r (c.in_ok-is_gate_open.ensures.gate told ∙ c.if-branch.true)
    in
    joined (EachImage (StandsFor v)) a b (content c.bring_back.new.device) first
    (c.bring_back.ensures.images told v counts none_b reads_b gate_b)

pub returns-in_err-close_gate-clause-images : goal.returns-in_err-close_gate-clause-images
returns-in_err-close_gate-clause-images g c told v counts none reads =
    let content = g.D.Device.content in
    let a = content c.args.device.now in
    let b = content c.is_gate_open.new.device in
    let r = c.is_gate_open.ensures.rest in
    let first = read_images (StandsFor v) a b r (found_leaves a v
    (room_of _ c.args.pages _ (g.met.D.Device.sized c.args.device.now told) c.requires.room)
    (few_of _ c.args.pages _ v.pages (g.met.D.Device.sized c.args.device.now told) counts
    c.requires.limit) none reads)
    in
    let none_b = still_none a b r none in
    let reads_b = still_reads a b v r reads in
    let gate_b = still_gate a b true r (c.in_ok-is_gate_open.ensures.gate told ∙ c.if-branch.true)
    in
    let back = joined (EachImage (StandsFor v)) a b (content c.bring_back.new.device) first
    (c.bring_back.ensures.images told v counts none_b reads_b gate_b) in
    let ready = c.in_ok-bring_back.ensures.ready told v counts none_b reads_b gate_b in
    joined (EachImage (StandsFor v)) a (content c.bring_back.new.device)
    (content c.close_gate.new.device) back
    (c.close_gate.ensures.images told v (flags (has_bit_on b.now.blocks) c.args.pages) ready)

pub returns-in_ok-close_gate-clause-images : goal.returns-in_ok-close_gate-clause-images
returns-in_ok-close_gate-clause-images g c told v counts none reads =
    let content = g.D.Device.content in
    let a = content c.args.device.now in
    let b = content c.is_gate_open.new.device in
    let r = c.is_gate_open.ensures.rest in
    let first = read_images (StandsFor v) a b r (found_leaves a v
    (room_of _ c.args.pages _ (g.met.D.Device.sized c.args.device.now told) c.requires.room)
    (few_of _ c.args.pages _ v.pages (g.met.D.Device.sized c.args.device.now told) counts
    c.requires.limit) none reads)
    in
    let none_b = still_none a b r none in
    let reads_b = still_reads a b v r reads in
    let gate_b = still_gate a b true r (c.in_ok-is_gate_open.ensures.gate told ∙ c.if-branch.true)
    in
    let back = joined (EachImage (StandsFor v)) a b (content c.bring_back.new.device) first
    (c.bring_back.ensures.images told v counts none_b reads_b gate_b) in
    let ready = c.in_ok-bring_back.ensures.ready told v counts none_b reads_b gate_b in
    joined (EachImage (StandsFor v)) a (content c.bring_back.new.device)
    (content c.close_gate.new.device) back
    (c.close_gate.ensures.images told v (flags (has_bit_on b.now.blocks) c.args.pages) ready)

pub returns-in_ok-close_gate-clause-at_rest : goal.returns-in_ok-close_gate-clause-at_rest
returns-in_ok-close_gate-clause-at_rest g c told v counts none reads =
    let content = g.D.Device.content in
    let a = content c.args.device.now in
    let b = content c.is_gate_open.new.device in
    let r = c.is_gate_open.ensures.rest in
    let first = read_images (StandsFor v) a b r (found_leaves a v
    (room_of _ c.args.pages _ (g.met.D.Device.sized c.args.device.now told) c.requires.room)
    (few_of _ c.args.pages _ v.pages (g.met.D.Device.sized c.args.device.now told) counts
    c.requires.limit) none reads)
    in
    let none_b = still_none a b r none in
    let reads_b = still_reads a b v r reads in
    let gate_b = still_gate a b true r (c.in_ok-is_gate_open.ensures.gate told ∙ c.if-branch.true)
    in
    let ready = c.in_ok-bring_back.ensures.ready told v counts none_b reads_b gate_b in
    c.in_ok-close_gate.ensures.at_rest told v (flags (has_bit_on b.now.blocks) c.args.pages) ready

pub returns-in_err-is_gate_open-clause-touched : goal.returns-in_err-is_gate_open-clause-touched
returns-in_err-is_gate_open-clause-touched g c told = blocks_read _ _ _ c.is_gate_open.ensures.rest

pub returns-else-branch-clause-touched : goal.returns-else-branch-clause-touched
returns-else-branch-clause-touched g c told = blocks_read _ _ _ c.is_gate_open.ensures.rest

pub returns-in_err-bring_back-clause-touched : goal.returns-in_err-bring_back-clause-touched
returns-in_err-bring_back-clause-touched g c told =
    let content = g.D.Device.content in
    let a = content c.args.device.now in
    let b = content c.is_gate_open.new.device in
    let r = c.is_gate_open.ensures.rest in
    settled_home (g.D.Device.size c.is_gate_open.new.device) c.args.pages a b _ r
    (g.met.D.Device.sized c.is_gate_open.new.device told)
    (still_gate a b true r (c.in_ok-is_gate_open.ensures.gate told ∙ c.if-branch.true))
    (c.bring_back.ensures.touched told)

pub returns-in_err-close_gate-clause-touched : goal.returns-in_err-close_gate-clause-touched
returns-in_err-close_gate-clause-touched g c told =
    let content = g.D.Device.content in
    let a = content c.args.device.now in
    let b = content c.is_gate_open.new.device in
    let r = c.is_gate_open.ensures.rest in
    settled_gate (g.D.Device.size c.is_gate_open.new.device) c.args.pages a b _ r
    (g.met.D.Device.sized c.is_gate_open.new.device told)
    (still_gate a b true r (c.in_ok-is_gate_open.ensures.gate told ∙ c.if-branch.true)) _
    (c.bring_back.ensures.touched told) c.close_gate.ensures.rest

pub returns-in_ok-close_gate-clause-touched : goal.returns-in_ok-close_gate-clause-touched
returns-in_ok-close_gate-clause-touched g c told =
    let content = g.D.Device.content in
    let a = content c.args.device.now in
    let b = content c.is_gate_open.new.device in
    let r = c.is_gate_open.ensures.rest in
    settled_gate (g.D.Device.size c.is_gate_open.new.device) c.args.pages a b _ r
    (g.met.D.Device.sized c.is_gate_open.new.device told)
    (still_gate a b true r (c.in_ok-is_gate_open.ensures.gate told ∙ c.if-branch.true)) _
    (c.bring_back.ensures.touched told) c.close_gate.ensures.rest

pub returns-in_err-bring_back-clause-silent : goal.returns-in_err-bring_back-clause-silent
returns-in_err-bring_back-clause-silent g c =
    silent_twice _ _ _ (blocks_read (λ n. Unit {0}) _ _ c.is_gate_open.ensures.rest).silent
    c.bring_back.ensures.silent

pub returns-in_err-close_gate-clause-silent : goal.returns-in_err-close_gate-clause-silent
returns-in_err-close_gate-clause-silent g c =
    silent_twice _ _ _ (silent_twice _ _ _
    (blocks_read (λ n. Unit {0}) _ _ c.is_gate_open.ensures.rest).silent
    c.bring_back.ensures.silent) c.close_gate.ensures.rest.silent

pub returns-in_ok-close_gate-clause-silent : goal.returns-in_ok-close_gate-clause-silent
returns-in_ok-close_gate-clause-silent g c =
    silent_twice _ _ _ (silent_twice _ _ _
    (blocks_read (λ n. Unit {0}) _ _ c.is_gate_open.ensures.rest).silent
    c.bring_back.ensures.silent) c.close_gate.ensures.rest.silent
