use Rattle.std.proofs.Common.{◌≡◌, ◌≢◌, ◌≤◌, Err, ap, refl, sym, subst, ◌∙◌, arith, rules}
use Rattle.std.proofs.lemmas.Option.{MatchOption-at_none, MatchOption-at_some}
use Rattle.std.proofs.lemmas.Result.{on_ok_weaker}
use Rattle.gx_bytes.specs.declared.page.TheConstants.{NONE}
use Rattle.gx_ports.specs.Files.{IsWhole, page_count}
use Rattle.gx_ports.specs.Sheets.{Sheets, Ground, IsPast, HasNone, bytes_at}
use Rattle.gx_ports.specs.declared.stop.Stop.TheVariants as stop
use Rattle.gx_ports.proofs.PageLemmas.{ends_as, ends_handed_on}
use Rattle.gx_chain.specs.Chain.{IsEntryAt, LeadsOn}
use Rattle.gx_chain.proofs.OwnerLemmas.{spared}
use Rattle.gx_isam_index.specs.Index.{first_page_of}
use Rattle.gx_isam.specs.Isam.{IsIsam}
use Rattle.gx_isam.specs.Change.{IsLeftOutIfEmpty}
use Rattle.gx_isam.proofs.ChangeLemmas.{isam_read, isam_back, others_back, leads_on, entry_first, chain_first, put_begun, put_left_out}
use Rattle.gx_isam.proofs.MakeLemmas.{one_root}
use Rattle.gx_isam.proofs.PagesLemmas.{isam_few}
use Rattle.gx_isam.proofs.WriteLemmas.{same_refusal, changed_spared}
use Rattle.gx_isam.proofs.isam.put.Goals as goal

pub returns-in_err-first_page : goal.returns-in_err-first_page
returns-in_err-first_page g c =
    let p = c.args.pages.now in
    let q = c.read_index.new.pages in
    let place = c.args.place.now in
    let reads = c.in_ok-read_index.ensures.reads in
    let at = first_page_of c.read_index.new.page c.bucket_of-bucket.result in
    record {
      ok = search rules;
      others = search rules;
      full = search rules;
      keeps = search rules;
      ends =
          ends_handed_on g.P.PageView
          (IsWhole g.P.PageView (IsIsam (g.P.PageView.ground p) place) p)
          (LeadsOn (g.P.PageView.ground q) at)
          p q q _ c.from_residual-in_err-first_page.result
          (c.in_ok-read_index.ensures.ends.cause.counted refl) reads.keeps.ground
          (λ whole. (let h = isam_read g.P.PageView place p q reads whole.0 whole.1.file in
          let page_is = c.in_ok-read_index.ensures.bytes whole.1.told
          ∙ ap (λ (x : Sheets). bytes_at x place.root) (sym reads.working) in
          leads_on (g.P.PageView.ground q) place.owner (g.P.PageView.working q) at
          (h.pages c.bucket_of-bucket.result)
          (chain_first (g.P.PageView.ground q) place (g.P.PageView.working q) whole.0
          c.requires.place.least
          (subst (λ (x : Ground). x.tables ≤ place.root) (sym reads.keeps.ground)
          c.requires.place.past) h c.read_index.new.page page_is
          c.args.key.now c.bucket_of-bucket.result c.bucket_of-bucket.ensures.value
          c.bucket_of-bucket.ensures.below at refl)))
          c.in_err-first_page.ensures.ends c.from_residual-in_err-first_page.ensures.1;
      frugal = search rules;
    }

pub returns-in_err-put_in-in-Some : goal.returns-in_err-put_in-in-Some
returns-in_err-put_in-in-Some g c =
    let p = c.args.pages.now in
    let q = c.read_index.new.pages in
    let t = g.P.PageView.working c.put_in.new.pages in
    let place = c.args.place.now in
    let reads = c.in_ok-read_index.ensures.reads in
    let result = c.from_residual-in_err-put_in-in-Some.result in
    let handed = c.from_residual-in_err-put_in-in-Some.ensures.1 in
    record {
      ok = search rules;
      others = search rules;
      full =
          record {
            none = λ told is. (let why =
                ap Err (same_refusal result c.in_err-put_in-in-Some.field-0.0 stop.Full handed is)
                in
                subst (λ (x : Ground). HasNone x t) reads.keeps.ground
                (subst (HasNone (g.P.PageView.ground q))
                (sym (c.in_err-put_in-in-Some.ensures.claims.unchanged why))
                (c.in_err-put_in-in-Some.ensures.claims.full told why)));
            few = λ map holds is. (let why =
                ap Err (same_refusal result c.in_err-put_in-in-Some.field-0.0 stop.Full handed is)
                in
                let few = isam_few (g.P.PageView.ground p) place (g.P.PageView.working p) map
                holds.file in
                let same = ap (page_count place.owner)
                (c.in_err-put_in-in-Some.ensures.claims.unchanged why ∙ reads.working) in
                let roots = one_root place c.requires.kind in
                omega (arith, few, same, roots));
          };
      keeps = search rules;
      ends = search rules;
      frugal = search rules;
    }

pub returns-in-None : goal.returns-in-None
returns-in-None g c =
    let p = c.args.pages.now in
    let q = c.read_index.new.pages in
    let u = g.P.PageView.working c.begin_chain.new.pages in
    let place = c.args.place.now in
    let reads = c.in_ok-read_index.ensures.reads in
    let at = first_page_of c.read_index.new.page c.bucket_of-bucket.result in
    let none = MatchOption-at_none (at ≡ NONE) (λ n. (at ≡ n) × IsPast (g.P.PageView.ground q) n
    × (n ≢ NONE)) c.in-None.is
    c.in_ok-first_page.ensures.first in
    record {
      ok = λ map holds. (
          let h = isam_read g.P.PageView place p q reads map holds.file in
          let page_is = c.in_ok-read_index.ensures.bytes holds.told
          ∙ ap (λ (x : Sheets). bytes_at x place.root) (sym reads.working) in
          on_ok_weaker c.begin_chain.result
          (λ begun. isam_back g.P.PageView place p q reads u _
          (put_begun (g.P.PageView.ground q) place (g.P.PageView.working q) map
          c.requires.place.least
          (subst (λ (x : Ground). x.tables ≤ place.root) (sym reads.keeps.ground)
          c.requires.place.past) h c.read_index.new.page page_is
          c.args.key.now c.bucket_of-bucket.result c.bucket_of-bucket.ensures.value
          c.bucket_of-bucket.ensures.below none
          c.in_ok-first_page.ensures.small c.args.body.now u begun).0)
          (c.begin_chain.ensures.begun holds.told));
      others = λ whole fault. (
          let h = isam_read g.P.PageView place p q reads whole.0 whole.1.file in
          let page_is = c.in_ok-read_index.ensures.bytes whole.1.told
          ∙ ap (λ (x : Sheets). bytes_at x place.root) (sym reads.working) in
          others_back g.P.PageView place p q reads u
          (spared g.P.PageView (Unit {0}) (g.P.PageView.ground q) place.owner q
          c.begin_chain.new.pages c.begin_chain.result tt
          c.begin_chain.ensures.claims.ends
          (on_ok_weaker c.begin_chain.result
          (λ begun. (put_begun (g.P.PageView.ground q) place (g.P.PageView.working q) whole.0
          c.requires.place.least
          (subst (λ (x : Ground). x.tables ≤ place.root) (sym reads.keeps.ground)
          c.requires.place.past) h c.read_index.new.page page_is
          c.args.key.now c.bucket_of-bucket.result c.bucket_of-bucket.ensures.value
          c.bucket_of-bucket.ensures.below none
          c.in_ok-first_page.ensures.small c.args.body.now u begun).1)
          (c.begin_chain.ensures.begun whole.1.told))
          c.begin_chain.ensures.claims.unchanged c.begin_chain.ensures.claims.frugal fault));
      full =
          record {
            none = λ told is. subst (λ (x : Ground). HasNone x u) reads.keeps.ground
                (subst (HasNone (g.P.PageView.ground q))
                (sym (c.begin_chain.ensures.claims.unchanged is))
                (c.begin_chain.ensures.claims.full told is));
            few = λ map holds is. (let few =
                isam_few (g.P.PageView.ground p) place (g.P.PageView.working p) map holds.file in
                let same = ap (page_count place.owner) (c.begin_chain.ensures.claims.unchanged is
                ∙ reads.working) in
                let roots = one_root place c.requires.kind in
                omega (arith, few, same, roots));
          };
      keeps = search rules;
      ends = search rules;
      frugal = search rules;
    }

pub returns-in_ok-put_in-in-Some : goal.returns-in_ok-put_in-in-Some
returns-in_ok-put_in-in-Some g c =
    let p = c.args.pages.now in
    let q = c.read_index.new.pages in
    let t = g.P.PageView.working c.put_in.new.pages in
    let u = g.P.PageView.working c.leave_out_empty.new.pages in
    let place = c.args.place.now in
    let bucket = c.bucket_of-bucket.result in
    let index = c.read_index.new.page in
    let first = c.in-Some.first in
    let reads = c.in_ok-read_index.ensures.reads in
    let past = subst (λ (x : Ground). x.tables ≤ place.root) (sym reads.keeps.ground)
    c.requires.place.past in
    let at = first_page_of index bucket in
    let found = MatchOption-at_some (at ≡ NONE) (λ n. (at ≡ n) × IsPast (g.P.PageView.ground q) n
    × (n ≢ NONE)) first c.in-Some.is
    c.in_ok-first_page.ensures.first in
    let ground = c.in_ok-put_in-in-Some.ensures.claims.keeps.ground in
    let r = c.put_in.new.pages in
    let s = g.P.PageView.working q in
    record {
      ok = λ map holds. (
          let h = isam_read g.P.PageView place p q reads map holds.file in
          let page_is = c.in_ok-read_index.ensures.bytes holds.told
          ∙ ap (λ (x : Sheets). bytes_at x place.root) (sym reads.working) in
          let chain = chain_first (g.P.PageView.ground q) place (g.P.PageView.working q) map
          c.requires.place.least past h index page_is
          c.args.key.now bucket c.bucket_of-bucket.ensures.value c.bucket_of-bucket.ensures.below
          first found.0 in
          let put = c.in_ok-put_in-in-Some.ensures.put holds.told (h.pages bucket) chain in
          on_ok_weaker c.leave_out_empty.result
          (λ after. isam_back g.P.PageView place p q reads u _
          (put_left_out (g.P.PageView.ground q) place (g.P.PageView.working q) map
          c.requires.place.least past h index page_is
          c.args.key.now bucket c.bucket_of-bucket.ensures.value c.bucket_of-bucket.ensures.below
          first found.0 found.2 t u c.args.body.now put
          (subst (λ (x : Ground). IsLeftOutIfEmpty x place index bucket first t u) ground after)).0)
          (c.leave_out_empty.ensures.left_out holds.told));
      others = λ whole fault. (
          let h = isam_read g.P.PageView place p q reads whole.0 whole.1.file in
          let page_is = c.in_ok-read_index.ensures.bytes whole.1.told
          ∙ ap (λ (x : Sheets). bytes_at x place.root) (sym reads.working) in
          let chain = chain_first (g.P.PageView.ground q) place s whole.0 c.requires.place.least
          past h index page_is c.args.key.now bucket
          c.bucket_of-bucket.ensures.value c.bucket_of-bucket.ensures.below first found.0 in
          let put = c.in_ok-put_in-in-Some.ensures.put whole.1.told (h.pages bucket) chain in
          others_back g.P.PageView place p q reads u
          (changed_spared g.P.PageView (IsEntryAt g.P.PageView r first) (g.P.PageView.ground q)
          place.owner s r c.leave_out_empty.new.pages
          c.leave_out_empty.result (
            whole.1.told,
            entry_first (g.P.PageView.ground q) place.owner t first put.pages put.chain
                found.2,
          ) c.leave_out_empty.ensures.ends
          (on_ok_weaker c.leave_out_empty.result
          (λ after. (put_left_out (g.P.PageView.ground q) place s whole.0 c.requires.place.least
          past h index page_is c.args.key.now bucket
          c.bucket_of-bucket.ensures.value c.bucket_of-bucket.ensures.below
          first found.0 found.2 t u c.args.body.now put
          (subst (λ (x : Ground). IsLeftOutIfEmpty x place index bucket first t u) ground after)).1)
          (c.leave_out_empty.ensures.left_out whole.1.told))
          c.leave_out_empty.ensures.not_full c.leave_out_empty.ensures.frugal fault));
      full = search rules;
      keeps = search rules;
      ends =
          ends_as g.P.PageView (IsWhole g.P.PageView (IsIsam (g.P.PageView.ground p) place) p)
          (IsEntryAt g.P.PageView r first) p r
          c.leave_out_empty.new.pages c.leave_out_empty.result
          (c.in_ok-put_in-in-Some.ensures.claims.ends.cause.counted refl
          ∙ c.in_ok-read_index.ensures.ends.cause.counted refl)
          (c.in_ok-put_in-in-Some.ensures.claims.keeps.ground ∙ reads.keeps.ground)
          (λ whole. (let h = isam_read g.P.PageView place p q reads whole.0 whole.1.file in
          let page_is = c.in_ok-read_index.ensures.bytes whole.1.told
          ∙ ap (λ (x : Sheets). bytes_at x place.root) (sym reads.working) in
          let chain = chain_first (g.P.PageView.ground q) place (g.P.PageView.working q) whole.0
          c.requires.place.least past h index
          page_is c.args.key.now bucket c.bucket_of-bucket.ensures.value
          c.bucket_of-bucket.ensures.below first found.0 in
          let put = c.in_ok-put_in-in-Some.ensures.put whole.1.told (h.pages bucket) chain in (
            whole.1.told,
            entry_first (g.P.PageView.ground q) place.owner
                (g.P.PageView.working r) first put.pages put.chain found.2,
          )))
          c.leave_out_empty.ensures.ends;
      frugal = search rules;
    }
