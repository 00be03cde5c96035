use Rattle.std.proofs.Common.{◌≡◌, ◌∷◌, [], length, refl, ap, ◌∙◌, arith}
use Rattle.std.proofs.lemmas.Bool.{MatchBool-at_true}
use Rattle.std.specs.List.{insert}
use Rattle.std.specs.Prelude.{⊤}
use Rattle.gx_bytes.specs.declared.page.TheConstants.{NONE}
use Rattle.gx_slots.specs.Entries.{Entry}
use Rattle.gx_slots.specs.Page.{entries_of}
use Rattle.gx_chain.proofs.WriteLemmas.{written}
use Rattle.gx_chain.proofs.write.append.Goals as goal
use Rattle.gx_ports.proofs.PageLemmas.{bytes_same}

pub returns-clause-appended : goal.returns-clause-appended
returns-clause-appended g c told apart =
    let s = g.P.PageView.working c.args.pages.now in
    let b = g.P.PageView.working c.write.new.self in
    let m = g.P.PageView.working c.read_entries.new.pages in
    let e : Entry = record { key = c.args.key.now; body = c.args.body.now } in
    let many = g.met.P.Pages.many c.args.pages.now told in
    let later = g.met.P.Pages.many c.write.new.self told in
    let ground = c.in_ok-write.ensures.keeps.ground in
    let none : length (entries_of c.clear.new.page) ≡ 0 = ap length c.clear.ensures.entries in
    let added = MatchBool-at_true
    (entries_of c.add.new.page ≡ insert (entries_of c.clear.new.page) 0 e) ⊤
    (c.add.ensures.few (omega (arith, none))) c.add.ensures.added in
    let first = written s s b c.args.fresh NONE c.add.new.page (e ∷ []) refl
    (let below = c.requires.fresh.below in omega (arith, below, many.1))
    (c.in_ok-write.ensures.written told) c.add.ensures.page
    (added ∙ ap (λ es. insert es 0 e) c.clear.ensures.entries)
    (c.add.ensures.next ∙ c.clear.ensures.next) in
    let read =
    c.in_ok-read_entries.ensures.bytes told
    ∙ bytes_same s b c.args.last (first.others c.args.last apart) in
    record {
      between = b;
      begun = first;
      hung =
          written b m (g.P.PageView.working c.write-2.new.self) c.args.last c.args.fresh _ _
          c.in_ok-read_entries.ensures.reads.working
          (let below = c.requires.last.below in omega
          (arith, below, later.1, ap (λ x. x.size) ground)) (c.in_ok-write-2.ensures.written told)
          c.set_next.ensures.page
          (c.set_next.ensures.entries ∙ ap entries_of read) c.set_next.ensures.next;
    }
