use Rattle.std.proofs.Common.{◌≡◌, ◌∙◌, ◌≤◌, ◌+◌, ◌*◌, ℕ, IsTrue, length, refl, ap, sym, subst, arith}
use Rattle.gx_device.specs.Content.{Content, NonePending}
use Rattle.gx_layout.specs.Layout.{AtRest, head_blocks, pages_of}
use Rattle.gx_layout.specs.PlaceLaws.{pages_fit}
use Rattle.gx_layout.specs.Recovered.{Recovers, replayed_pages, view_now}
use Rattle.gx_layout.proofs.ReplayLemmas.{reads_replayed}
use Rattle.gx_journal.specs.OpeningLaws.{has_head}
use Rattle.gx_journal.proofs.OpenLemmas.{opened_kept, opened_calm, room_at, replayed_many, recovered_head}
use Rattle.gx_journal.proofs.journal.Journal.recover.Goals as goal

pub recover-requires-clause-limit : goal.recover-requires-clause-limit
recover-requires-clause-limit g c =
    let size = c.blocks-2.ensures.count in
    omega (
      arith,
      c.count.ensures,
      c.in-Ok.ensures.count ∙ ap pages_of size,
      pages_fit (g.D.Device.size c.args.device) c.requires.blocks.most,
    )

pub over-requires-clause-closed : goal.over-requires-clause-closed
over-requires-clause-closed g c told =
    let old = g.D.Device.content c.args.device in
    let many = replayed_many old.now.blocks (g.D.Device.size c.args.device) c.blocks-2.result
    c.count.result (length c.in-Ok.working.spilled.items)
    (g.met.D.Device.sized c.args.device told) c.blocks-2.ensures.count c.in-Ok.ensures.count
    c.count.ensures in
    (c.in-Ok-true.ensures.at_rest told (view_now (replayed_pages old.now.blocks) old) many
    (reads_replayed old) c.in-Ok-true.field-0-test).gate

pub returns-in-Ok-true-clause-recovered : goal.returns-in-Ok-true-clause-recovered
returns-in-Ok-true-clause-recovered g c =
    let content = g.D.Device.content in
    let tells = g.D.Device.tells in
    let old = content c.args.device in
    let j = c.over.result in
    let P = length j.working.spilled.items in
    let v = view_now (replayed_pages old.now.blocks) old in
    let size : g.D.Device.size j.device ≡ g.D.Device.size c.args.device =
    ap (λ (d : _). g.D.Device.size d) c.over.ensures.device ∙ c.recover.ensures.recovers.size in
    let many = λ (told : IsTrue tells).
    replayed_many old.now.blocks (g.D.Device.size c.args.device) c.blocks-2.result
    c.count.result (length c.in-Ok.working.spilled.items)
    (g.met.D.Device.sized c.args.device told) c.blocks-2.ensures.count c.in-Ok.ensures.count
    c.count.ensures in
    let rest = λ (told : IsTrue tells).
    subst (λ (x : Content). AtRest x.now v) (sym (ap content c.over.ensures.device))
    (c.in-Ok-true.ensures.at_rest told v (many told) (reads_replayed old)
    c.in-Ok-true.field-0-test) in
    let count = λ (told : IsTrue tells).
    many told ∙ c.count.ensures ∙ sym c.over.ensures.size in
    let room = λ (told : IsTrue tells).
    room_at (length (content j.device).now.blocks) (g.D.Device.size j.device) P P
    (sym (g.met.D.Device.sized j.device told)) refl j.room in
    record {
      kept = λ told. opened_kept tells told P (content j.device) v (count told) (room told)
          (rest told);
      head = recovered_head tells (replayed_pages old.now.blocks) old (content j.device) rest;
      magic = λ told. (c.in-Ok-true.ensures.magic told).0 c.in-Ok-true.field-0-test;
      opened = record {
        working = c.over.ensures.working;
        size = j.count ∙ ap pages_of size;
        frames = c.over.ensures.frames ∙ c.in-Ok.ensures.frames;
        unchanged = c.over.ensures.unchanged;
        steady = c.over.ensures.steady;
        calm = λ told. opened_calm tells told P (content j.device) v (count told) (room told)
            (rest told) j.failed c.over.ensures.steady;
        none_pending = λ told.
            subst (λ (x : Content). NonePending x) (sym (ap content c.over.ensures.device))
            (c.in-Ok-true.ensures.none_pending told);
      };
    }

pub returns-in-Ok-true-clause-images : goal.returns-in-Ok-true-clause-images
returns-in-Ok-true-clause-images g c told =
    let content = g.D.Device.content in
    let old = content c.args.device in
    let v = view_now (replayed_pages old.now.blocks) old in
    let many = replayed_many old.now.blocks (g.D.Device.size c.args.device) c.blocks-2.result
    c.count.result (length c.in-Ok.working.spilled.items)
    (g.met.D.Device.sized c.args.device told) c.blocks-2.ensures.count c.in-Ok.ensures.count
    c.count.ensures in
    subst (λ (x : Content). Recovers v old x) (sym (ap content c.over.ensures.device))
    (c.recover.ensures.images told v many (reads_replayed old))

pub returns-in-Ok-false-clause-images : goal.returns-in-Ok-false-clause-images
returns-in-Ok-false-clause-images g c told =
    let old = g.D.Device.content c.args.device in
    let many = replayed_many old.now.blocks (g.D.Device.size c.args.device) c.blocks-2.result
    c.count.result (length c.in-Ok.working.spilled.items)
    (g.met.D.Device.sized c.args.device told) c.blocks-2.ensures.count c.in-Ok.ensures.count
    c.count.ensures in
    c.recover.ensures.images told (view_now (replayed_pages old.now.blocks) old) many
    (reads_replayed old)

pub returns-in-Err-clause-images : goal.returns-in-Err-clause-images
returns-in-Err-clause-images g c told =
    let old = g.D.Device.content c.args.device in
    let many = replayed_many old.now.blocks (g.D.Device.size c.args.device) c.blocks-2.result
    c.count.result (length c.in-Ok.working.spilled.items)
    (g.met.D.Device.sized c.args.device told) c.blocks-2.ensures.count c.in-Ok.ensures.count
    c.count.ensures in
    c.recover.ensures.images told (view_now (replayed_pages old.now.blocks) old) many
    (reads_replayed old)

pub recover-requires-clause-room : goal.recover-requires-clause-room
recover-requires-clause-room g c =
    let count = c.in-Ok.ensures.count ∙ ap pages_of c.blocks-2.ensures.count in
    omega (
      arith,
      c.count.ensures,
      count,
      has_head (g.D.Device.size c.args.device) c.requires.blocks,
    )

pub over-requires-clause-room : goal.over-requires-clause-room
over-requires-clause-room g c =
    let count = c.in-Ok.ensures.count ∙ ap pages_of c.blocks-2.ensures.count in
    subst (λ (n : ℕ). head_blocks n + 2 * length c.in-Ok.working.spilled.items ≤ n)
    (sym c.recover.ensures.recovers.size)
    (omega (arith, count, has_head (g.D.Device.size c.args.device) c.requires.blocks))
