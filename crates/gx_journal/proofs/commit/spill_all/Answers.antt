use Rattle.std.proofs.Common.{◌<◌, ◌∙◌, ℕ, inl, inr, sym, subst, arith}
use Rattle.std.proofs.lemmas.Bool.{true≢false}
use Rattle.std.proofs.lemmas.Bool.Decides.{eqb_tells, leb_tells}
use Rattle.gx_frames.specs.Pool.{Pool, find_page, IsPool, IsNextChanged, IsChanged}
use Rattle.gx_journal.proofs.SourceLemmas.{found_below}
use Rattle.gx_journal.proofs.CallLemmas.{keeps_failed, keeps_joined}
use Rattle.gx_journal.proofs.CleanLemmas.{changed_at}
use Rattle.gx_journal.proofs.UnchangedLemmas.{never_changed}
use Rattle.gx_journal.proofs.commit.spill_all.Goals as goal

next_below : (pool : Pool) (from page : ℕ) → IsPool pool → IsNextChanged pool from page
    → page < pool.pages
next_below pool from page whole next =
    let r = changed_at (find_page page pool.resident) next.changed in
    found_below pool.pages page pool.resident r.0 whole.within r.1

none_before : (pool : Pool) (from page : ℕ) → IsNextChanged pool from page
    → ((q : ℕ) → q < from → IsChanged pool q → ⊥) → (q : ℕ)
    → q < page → IsChanged pool q → ⊥
none_before pool from page next below q lt ch = elim (leb_tells from q) [
  | inl high ↦ (let least = next.least q high.1 ch in absurd (omega (arith, least, lt)))
  | inr low ↦ (let l = low.1 in below q (omega (arith, l)) ch)
]

pub spill_one-requires-clause-below : goal.spill_one-requires-clause-below
spill_one-requires-clause-below g c = omega (
  arith,
  next_below c.loop-p.working.frames c.loop-p.from c.in-Some.p c.next_changed.ensures.pool
      c.in-Some.ensures.next,
  c.loop-p.working.pages,
)

pub overflow_add-from : goal.overflow_add-from
overflow_add-from g c = omega (
  arith,
  next_below c.loop-p.working.frames c.loop-p.from c.in-Some.p c.next_changed.ensures.pool
      c.in-Some.ensures.next,
  c.loop-p.working.pages,
  c.loop-p.working.few,
)

pub loop-p-smaller : goal.loop-p-smaller
loop-p-smaller g c =
    let size = c.spill_one.ensures.keeps.writes.size in
    omega (
      arith,
      next_below c.loop-p.working.frames c.loop-p.from c.in-Some.p
          c.next_changed.ensures.pool c.in-Some.ensures.next,
      c.in-Some.ensures.next.above,
      c.loop-p.working.pages,
      size,
    )

pub loop-p-preserved : goal.loop-p-preserved
loop-p-preserved g c =
    let inv = c.loop-p.invariant in
    record {
      keeps = keeps_joined g.D.Device inv.keeps c.in_ok-spill_one.ensures.keeps;
      idle = λ none. absurd (never_changed c.args.working.now c.loop-p.working c.in-Some.p none
          (inv.idle none).1 c.in-Some.ensures.next.changed);
      untouched = λ none. absurd (true≢false (sym c.in_ok-spill_one.ensures.spilled
          ∙ none c.in-Some.p));
      below = λ q lt h. elim (eqb_tells q c.in-Some.p) [
        | inl same ↦ c.in_ok-spill_one.ensures.clean
            (subst (λ (k : ℕ). IsChanged c.spill_one.new.working.frames k) same.1 h)
        | inr other ↦ (let ne = other.1 in c.in_ok-spill_one.ensures.still q
            (none_before c.loop-p.working.frames c.loop-p.from c.in-Some.p c.in-Some.ensures.next
            inv.below q (omega (arith, lt, ne))) h)
      ];
    }

pub returns-in_err-spill_one-clause-keeps : goal.returns-in_err-spill_one-clause-keeps
returns-in_err-spill_one-clause-keeps g c =
    keeps_failed g.D.Device c.from_residual.result c.from_residual.ensures.0
    (keeps_joined g.D.Device c.loop-p.invariant.keeps c.in_err-spill_one.ensures.keeps)

pub returns-in_err-spill_one-clause-unchanged : goal.returns-in_err-spill_one-clause-unchanged
returns-in_err-spill_one-clause-unchanged g c none =
    absurd (never_changed c.args.working.now c.loop-p.working c.in-Some.p none
    (c.loop-p.invariant.idle none).1 c.in-Some.ensures.next.changed)
