-- How calls end that walk along a chain, where they don't come to its end.
use Rattle.std.proofs.Common.{◌≡◌, ℕ, ◌≤◌, List, Result, Err, sym, subst, ◌∙◌, arith}
use Rattle.std.specs.Prelude.{IsTrue}
use Rattle.std.specs.Result.{IsErrAnd}
use Rattle.gx_ports.specs.declared.page_view.PageView.{Ghosts}
use Rattle.gx_ports.specs.declared.stop.Stop.{Stop}
use Rattle.gx_ports.specs.declared.stop.Stop.TheVariants as stop
use Rattle.gx_ports.specs.Sheets.{IsHome, bytes_at}
use Rattle.gx_ports.specs.Files.{EndsFile}
use Rattle.gx_ports.specs.PageCalls.{ReadsPages}
use Rattle.gx_ports.proofs.PageLemmas.{read_pages_joined, ends_handed_on}
use Rattle.gx_slots.specs.Page.{IsEntryPage}
use Rattle.gx_chain.specs.Chain.{next_at, IsChain, HasChain, IsEntryAt, LeadsOn}
use Rattle.gx_chain.proofs.WalkLemmas.{IsAtHand, hand_ends, hand_leads}

-- a walk reads pages alone, and the next one is at hand on each chain that begins there
pub record IsWalking {S : Type 0} (g : Ghosts S) (first : ℕ) (start now : S) (done number : ℕ) :
    Type 0 where
  pub reads : ReadsPages g start now
  pub faults : g.faults now ≡ g.faults start
  pub hand : IsTrue g.tells → (owner : ℕ) (all : List ℕ)
      → IsChain (g.ground start) owner (g.working start) first all
      → IsAtHand (g.working start) all done number

module _ {S : Type 0} (g : Ghosts S) (first : ℕ) (start now : S) (done number : ℕ)
    (walk : IsWalking g first start now done number) where
  -- its page couldn't be read
  pub walk_unread : {T U : Type 0} (new : S) (why : Stop) (result : Result U Stop)
      → EndsFile {T = T} g (IsEntryAt g now number) now new (Err why)
      → IsErrAnd result (λ s. s ≡ why)
      → EndsFile {T = U} g (HasChain g start first) start new result
  walk_unread {T = T} new why result ends same =
      ends_handed_on {T = T} g (HasChain g start first) (IsEntryAt g now number) start now new why
      result walk.faults walk.reads.keeps.ground
      (λ has. (
        has.0,
        subst (λ x. IsEntryPage (bytes_at x number)) (sym walk.reads.working)
            (walk.hand has.0 has.1 has.2 has.3).linked.1,
      ))
      ends same

  -- its page was read, and doesn't lead on
  pub walk_stopped : {T U : Type 0} (mid new : S) (next : ℕ) (why : Stop) (result : Result U Stop)
      → g.faults mid ≡ g.faults now → ReadsPages g now mid
      → (IsTrue g.tells → next ≡ next_at (g.working start) number)
      → EndsFile {T = T} g (LeadsOn (g.ground mid) next) mid new (Err why)
      → IsErrAnd result (λ s. s ≡ why)
      → EndsFile {T = U} g (HasChain g start first) start new result
  walk_stopped {T = T} mid new next why result counted reads next_is ends same =
      let all = read_pages_joined g walk.reads reads in
      ends_handed_on {T = T} g (HasChain g start first) (LeadsOn (g.ground mid) next) start mid new
      why
      result (counted ∙ walk.faults) all.keeps.ground
      (λ has. subst (λ x. LeadsOn x next) (sym all.keeps.ground)
      (subst (LeadsOn (g.ground start)) (sym (next_is has.0))
      (hand_leads (g.ground start) has.1 (g.working start) first has.2 done number has.3
      (walk.hand has.0 has.1 has.2 has.3))))
      ends same

  -- it is longer than a chain can be
  pub walk_over : {T : Type 0} (block : ℕ) → (g.ground start).size ≤ done
      → IsHome (g.ground now) block
      → EndsFile {T = T} g (HasChain g start first) start now (Err (stop.Damaged block))
  walk_over block over below = record {
    cause = record {
      later = omega (arith, walk.faults);
      fault = λ is. absurd (cc);
      counted = λ is. walk.faults;
      damaged = λ other is has.
          (let less = hand_ends (g.ground start) has.1 (g.working start) first has.2 done number
          has.3
          (walk.hand has.0 has.1 has.2 has.3) in
          omega (arith, less, over));
    };
    home = λ other is. (let same : block ≡ other = cc in
        subst (λ n. IsHome (g.ground start) n) same
        (subst (λ x. IsHome x block) walk.reads.keeps.ground below));
  }
