use Rattle.gx_layout.specs.Layout.{Shows}
use Rattle.gx_ports.proofs.ImageLemmas.{replaced_weaker}
use Rattle.gx_journal.specs.Journal.{content_of, kept_of, working_of, kept_head}
use Rattle.gx_pages.specs.Laws.{shown}
use Rattle.gx_pages.specs.Paged.{StandsFor, ground_of, kept_sheets, working_sheets}
use Rattle.gx_pages.proofs.paged.PagedPages.commit.Goals as goal

pub returns-clause-replaces : goal.returns-clause-replaces
returns-clause-replaces g c =
    let j = c.args.self.now.journal in
    record {
      images = λ start is.
          let sized = g.met.D.Device.sized j.device is.told in
          let size = Rattle.std.proofs.Common.length (content_of j).now.blocks in
          replaced_weaker (Shows size (kept_head j) (kept_of j))
          (Shows size (kept_head j) (working_of j)) (StandsFor (ground_of j) (kept_sheets j))
          (StandsFor (ground_of j) (working_sheets j)) (shown j sized (kept_of j))
          (shown j sized (working_of j)) (content_of j).now (content_of j) _
          (c.commit.ensures.replaces.images start is);
      calm = c.commit.ensures.replaces.calm;
    }
