use Rattle.std.proofs.Common.{◌≡◌, ℕ, ◌++◌, ◌∷◌, [], List, length, refl, sym, ap, subst, ◌∙◌, arith}
use Rattle.std.specs.List.{Contains, remove}
use Rattle.std.proofs.lemmas.Option.{MatchOption-at_none, MatchOption-at_some}
use Rattle.std.proofs.lemmas.List.Elements.{Contains-push, Contains-append_left}
use Rattle.gx_laws.proofs.ListLemmas.{none_long}
use Rattle.gx_ports.proofs.PageLemmas.{ends_handed_on}
use Rattle.gx_ports.specs.Sheets.{Sheets, Ground, bytes_at}
use Rattle.gx_slots.specs.Page.{IsEntryPage, entries_of, next_of}
use Rattle.gx_chain.specs.Chain.{entries_at, next_at, AreLinked, HasChainOf, IsEntryAt}
use Rattle.gx_chain.specs.Changes.{IsTaken, IsUnlinked}
use Rattle.gx_chain.specs.Seek.{IsFoundAt}
use Rattle.gx_chain.specs.Walk.{LackKey}
use Rattle.gx_chain.proofs.ChainLemmas.{linked_page}
use Rattle.gx_chain.proofs.ListLemmas.{contains_middle}
use Rattle.gx_chain.proofs.PutLemmas.{dropped_at, dropped_none}
use Rattle.gx_chain.proofs.RemoveLemmas.{removed_page, removed_there}
use Rattle.gx_chain.proofs.WriteLemmas.{written}
use Rattle.gx_chain.proofs.remove.remove_from.Goals as goal

pub returns-in_default-clause-removed : goal.returns-in_default-clause-removed
returns-in_default-clause-removed g c told before chain =
    let p = c.args.pages.now in
    let s = g.P.PageView.working p in
    let m = g.P.PageView.working c.find_key.new.pages in
    let lack = MatchOption-at_none (LackKey s before c.args.key.now)
    (IsFoundAt s c.args.key.now before c.find_key.new.page) c.in_default.is
    (c.in_ok-found.ensures.found told c.args.owner before chain) in
    removed_there (g.P.PageView.ground p) c.args.owner c.args.first c.args.key.now s m before
    (dropped_none (g.P.PageView.ground p) c.args.owner c.args.first c.args.key.now s m before chain
    c.find_key.ensures.reads.working lack)

pub returns-then-count-gt0-clause-removed : goal.returns-then-count-gt0-clause-removed
returns-then-count-gt0-clause-removed g c told before chain =
    let p = c.args.pages.now in
    let ground = g.P.PageView.ground p in
    let s = g.P.PageView.working p in
    let m = g.P.PageView.working c.find_key.new.pages in
    let t = g.P.PageView.working c.write.new.self in
    let number = c.in-Some.found.number in
    let place = c.in-Some.found.place in
    let many = g.met.P.Pages.many p told in
    let f = MatchOption-at_some (LackKey s before c.args.key.now)
    (IsFoundAt s c.args.key.now before c.find_key.new.page) c.in-Some.found c.in-Some.is
    (c.in_ok-found.ensures.found told c.args.owner before chain) in
    let among =
    subst (λ (x : List ℕ). Contains x number) (sym f.is) (contains_middle f.front number f.rest) in
    let below = (chain.fit.past number among).below in
    let entries = c.take.ensures.entries ∙ ap (λ b. remove (entries_of b) place) f.bytes_are in
    let taken : IsTaken number c.args.key.now s t = record {
      place = place;
      within = f.within;
      there = f.there;
      rewritten = written s m t number (next_at s number) c.take.new.page
          (remove (entries_at s number) place) c.find_key.ensures.reads.working
          (omega (arith, below, many.1)) (c.in_ok-write.ensures.written told) c.take.ensures.page
          entries (c.take.ensures.next ∙ ap next_of f.bytes_are);
    } in
    removed_there ground c.args.owner c.args.first c.args.key.now s t before
    (dropped_at ground c.args.owner c.args.first c.args.key.now s t before chain number among taken
    (λ _ none. (let zero = ap length (entries ∙ none) in let some = c.if-count-gt0.true in
    omega (arith, zero, some, c.count.ensures))))

pub returns-in_ok-write-in-None-clause-removed : goal.returns-in_ok-write-in-None-clause-removed
returns-in_ok-write-in-None-clause-removed g c told before chain =
    let p = c.args.pages.now in
    let ground = g.P.PageView.ground p in
    let s = g.P.PageView.working p in
    let m = g.P.PageView.working c.find_key.new.pages in
    let t = g.P.PageView.working c.write-in-None.new.self in
    let number = c.in-Some.found.number in
    let place = c.in-Some.found.place in
    let many = g.met.P.Pages.many p told in
    let f = MatchOption-at_some (LackKey s before c.args.key.now)
    (IsFoundAt s c.args.key.now before c.find_key.new.page) c.in-Some.found c.in-Some.is
    (c.in_ok-found.ensures.found told c.args.owner before chain) in
    let among =
    subst (λ (x : List ℕ). Contains x number) (sym f.is) (contains_middle f.front number f.rest) in
    let below = (chain.fit.past number among).below in
    let entries = c.take.ensures.entries ∙ ap (λ b. remove (entries_of b) place) f.bytes_are in
    let none = MatchOption-at_none (f.front ≡ [])
    (λ page. (others : List ℕ) × (f.front ≡ others ++ page ∷ [])) c.in-None.is f.previous in
    let linked = subst (λ (x : List ℕ). AreLinked s c.args.first (x ++ number ∷ f.rest)) none
    (subst (AreLinked s c.args.first) f.is chain.linked) in
    let taken : IsTaken number c.args.key.now s t = record {
      place = place;
      within = f.within;
      there = f.there;
      rewritten = written s m t number (next_at s number) c.take.new.page
          (remove (entries_at s number) place) c.find_key.ensures.reads.working
          (omega (arith, below, many.1)) (c.in_ok-write-in-None.ensures.written told)
          c.take.ensures.page entries (c.take.ensures.next ∙ ap next_of f.bytes_are);
    } in
    removed_there ground c.args.owner c.args.first c.args.key.now s t before
    (dropped_at ground c.args.owner c.args.first c.args.key.now s t before chain number among taken
    (λ other. absurd (other (sym linked.0))))

pub returns-in_err-unlink-in-Some-previous-clause-ends :
    goal.returns-in_err-unlink-in-Some-previous-clause-ends
returns-in_err-unlink-in-Some-previous-clause-ends g c =
    let p = c.args.pages.now in
    let s = g.P.PageView.working p in
    let q = c.find_key.new.pages in
    let reads = c.find_key.ensures.reads in
    ends_handed_on g.P.PageView (HasChainOf g.P.PageView p c.args.owner c.args.first)
    (IsEntryAt g.P.PageView q c.in-Some-previous.previous) p q c.unlink.new.pages _
    c.from_residual-in_err-unlink-in-Some-previous.result
    (c.in_ok-found.ensures.ends.cause.counted refl) reads.keeps.ground
    (λ has. (let f = MatchOption-at_some (LackKey s has.pages c.args.key.now)
    (IsFoundAt s c.args.key.now has.pages c.find_key.new.page)
    c.in-Some.found c.in-Some.is
    (c.in_ok-found.ensures.found has.told c.args.owner has.pages has.chain) in
    let before = MatchOption-at_some (f.front ≡ [])
    (λ page. (others : List ℕ) × (f.front ≡ others ++ page ∷ [])) c.in-Some-previous.previous
    c.in-Some-previous.is f.previous in
    let in_front = subst (λ (x : List ℕ). Contains x c.in-Some-previous.previous) (sym before.1)
    (Contains-push before.0 c.in-Some-previous.previous) in
    let among = subst (λ (x : List ℕ). Contains x c.in-Some-previous.previous) (sym f.is)
    (Contains-append_left f.front (c.in-Some.found.number ∷ f.rest) c.in-Some-previous.previous
    in_front) in (
      has.told,
      subst (λ (x : Sheets). IsEntryPage (bytes_at x c.in-Some-previous.previous))
          (sym reads.working)
          (linked_page s c.args.first has.pages c.in-Some-previous.previous has.chain.linked among),
    )))
    c.in_err-unlink-in-Some-previous.ensures.ends
    c.from_residual-in_err-unlink-in-Some-previous.ensures.1

pub returns-in_ok-unlink-in-Some-previous-clause-removed :
    goal.returns-in_ok-unlink-in-Some-previous-clause-removed
returns-in_ok-unlink-in-Some-previous-clause-removed g c told before chain =
    let p = c.args.pages.now in
    let ground = g.P.PageView.ground p in
    let s = g.P.PageView.working p in
    let m = g.P.PageView.working c.find_key.new.pages in
    let t = g.P.PageView.working c.unlink.new.pages in
    let number = c.in-Some.found.number in
    let place = c.in-Some.found.place in
    let previous = c.in-Some-previous.previous in
    let reads = c.find_key.ensures.reads in
    let f = MatchOption-at_some (LackKey s before c.args.key.now)
    (IsFoundAt s c.args.key.now before c.find_key.new.page) c.in-Some.found c.in-Some.is
    (c.in_ok-found.ensures.found told c.args.owner before chain) in
    let last = MatchOption-at_some (f.front ≡ [])
    (λ page. (others : List ℕ) × (f.front ≡ others ++ page ∷ [])) previous c.in-Some-previous.is
    f.previous in
    let behind : c.next-behind.result ≡ next_at s number =
    c.next-behind.ensures ∙ c.take.ensures.next ∙ ap next_of f.bytes_are in
    let entries = c.take.ensures.entries ∙ ap (λ b. remove (entries_of b) place) f.bytes_are in
    let few = c.if-count-gt0.false in
    let u = subst (λ (x : Ground). IsUnlinked x previous (next_at s number) number s t)
    reads.keeps.ground
    (subst (λ (x : Sheets). IsUnlinked (g.P.PageView.ground c.find_key.new.pages) previous
    (next_at s number) number x t) reads.working
    (subst (λ n. IsUnlinked (g.P.PageView.ground c.find_key.new.pages) previous n number m t) behind
    (c.in_ok-unlink-in-Some-previous.ensures.unlinked told))) in
    removed_page ground c.args.owner c.args.first c.args.key.now s t before last.0 f.rest previous
    number chain (f.is ∙ ap (λ (x : List ℕ). x ++ number ∷ f.rest) last.1) u place f.within f.there
    (sym entries ∙ none_long (entries_of c.take.new.page) (omega (arith, few, c.count.ensures)))
