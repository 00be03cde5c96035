use Rattle.std.proofs.Common.{◌≡◌, List, length, Option, Some, None, refl, ap, sym, ◌∙◌}
use Rattle.gx_frames.specs.Pool.{Resident, find_page}
use Rattle.gx_journal.proofs.PageLemmas.{pages_home}
use Rattle.gx_journal.proofs.ForgetLemmas.{all_home, none_set}
use Rattle.gx_journal.proofs.UnchangedLemmas.{none_changed}
use Rattle.gx_journal.proofs.journal.Journal.over.Goals as goal

pub returns-clause-working : goal.returns-clause-working
returns-clause-working g c =
    let working = c.args.working in
    let N = g.D.Device.size c.args.device in
    let P = length working.spilled.items in
    let content = g.D.Device.content c.args.device in
    let rs = working.frames.resident in
    pages_home g.D.Device.tells N P P content working.spilled.items rs refl c.requires.room
    (g.met.D.Device.sized c.args.device)
    (λ told. all_home N P content.now.blocks working.spilled.items rs
    (none_set P working.spilled.items c.requires.unspilled)
    (λ q r is. absurd (let e : ◌≡◌ {A = Option Resident} None (Some r) =
    sym (ap (λ (l : List Resident). find_page q l) c.requires.absent) ∙ is in cc)))

pub returns-clause-unchanged : goal.returns-clause-unchanged
returns-clause-unchanged g c =
    let working = c.args.working in
    record {
      clean = λ q is. none_changed working.frames.resident q c.requires.absent is;
      unspilled = none_set (length working.spilled.items) working.spilled.items
          c.requires.unspilled;
    }
