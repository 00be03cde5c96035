use Rattle.std.proofs.Common.{[], refl, sym, ap, ◌∙◌, arith}
use Rattle.std.specs.Prelude.{Some}
use Rattle.std.proofs.lemmas.Option.{slice_get-get_or}
use Rattle.std.proofs.lemmas.Result.{IfOk-weaker}
use Rattle.gx_journal.specs.Journal.{working_of}
use Rattle.gx_pages.specs.Owners.{sheets_of}
use Rattle.gx_pages.specs.Laws.{count_pages}
use Rattle.gx_pages.proofs.CallLemmas.{ground_kept}
use Rattle.gx_pages.proofs.paged.PagedPages.look.Goals as goal

pub returns : goal.returns
returns g c =
    let j = c.args.self.now.journal in
    let read = c.lend_page.follows.holds-at-none in (
      (
        refl,
        λ _. tt,
        (
          record {
            working = ap sheets_of read.working;
            unchanged = read.unchanged;
            keeps = record {
              ground = ground_kept read.keeps;
              kept = ap sheets_of read.keeps.kept;
              steady = (λ h. read.keeps.steady ∙ h, λ h. sym read.keeps.steady ∙ h);
              calm = read.keeps.calm;
              silent = read.silent;
            };
          },
          record {
            later = read.faults.later;
            failed = read.faults.failed;
            counted = read.faults.same;
          },
        ),
      ),
      record {
        look = λ told. IfOk-weaker c.lend_page.result _ _
            (λ bytes is. slice_get-get_or (working_of j) c.args.page []
            (omega (arith, count_pages j, c.requires.page))
            ∙ ap Some (sym is)) (c.lend_page.ensures.page told);
        bytes = c.lend_page.ensures.size;
        reads = tt;
      },
    )
