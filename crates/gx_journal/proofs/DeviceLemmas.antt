-- What calls on the device keep, and what two of them keep together.
use Rattle.std.proofs.Common.{◌≡◌, ℕ, Result, Ok, Err, IsTrue, arith, ap, sym, subst, ◌∙◌}
use Rattle.std.specs.Prelude.{OnOk, IsErr}
use Rattle.std.proofs.lemmas.Bool.{true≢false}
use Rattle.gx_device.specs.declared.device.Device as device
use Rattle.gx_device.specs.declared.device.Failed.{Failed}
use Rattle.gx_device.specs.Content.{NonePending, Syncs, block_of}
use Rattle.gx_device.specs.Faults.{IsCounted}
use Rattle.gx_device.proofs.RunLemmas.{outside_joined, outside_write}
use Rattle.gx_layout.specs.Layout.{slot}
use Rattle.gx_layout.proofs.CallLemmas.{failed_counted}
use Rattle.gx_layout.proofs.BlockLemmas.{blocks_twice, blocks_more, blocks_read, blocks_sync, blocks_write}
use Rattle.gx_layout.proofs.FlushLemmas.{unflushed}
use Rattle.gx_layout.proofs.FormatLemmas.{run_more}
use Rattle.gx_layout.proofs.RecoverLemmas.{read_run}
use Rattle.gx_frames.specs.Pool.{Pool}
use Rattle.gx_journal.specs.DeviceCalls.{ReadsOnly, WritesBlock, TouchesOnly, WritesOnly, FlushesOnly}
use Rattle.gx_journal.specs.Publishing.{SameResidents, IsInSlot}

-- a call that fails answers no Ok
pub no_ok : {T E : Type 0} (A : Type 0) (result : Result T E) → IsErr result → OnOk result A
no_ok A (Ok x) is = absurd (true≢false (sym is))
no_ok A (Err e) is = tt

pub residents_joined : {a b c : Pool} → SameResidents a b → SameResidents b c → SameResidents a c
residents_joined first then = record {
  frames = then.frames ∙ first.frames;
  pages = then.pages ∙ first.pages;
  count =
      let one = first.count in
      let two = then.count in
      omega (arith, one, two);
  found = λ p. then.found p ∙ first.found p;
}

module _ {D : Type 0} (g : device.Ghosts D) where
  pub still_in_slot : (p : ℕ) (frames now : Pool) (d e : D) → IsInSlot g p frames d
      → SameResidents frames now
      → g.size e ≡ g.size d
      → block_of (g.content e).now (slot (g.size d) p)
      ≡ block_of (g.content d).now (slot (g.size d) p)
      → IsInSlot g p now e
  still_in_slot p frames now d e held same size block told r is =
      held told r (sym (same.found p) ∙ is) ∙ sym block
      ∙ ap (λ (n : ℕ). block_of (g.content e).now (slot n p)) (sym size)

  pub touches_joined : {T U : Type 0} {free : ℕ → Type 0} {a b c : D} {x : T}
      {result : Result U Failed} → TouchesOnly g free a b (Ok x) → TouchesOnly g free b c result
      → TouchesOnly g free a c result
  touches_joined {free = free} {a = a} {b = b} {c = c} {result = result} first then = record {
    rest = blocks_twice free (g.content a) (g.content b) (g.content c) first.rest then.rest;
    size = then.size ∙ first.size;
    faults = subst (λ (n : ℕ). IsCounted n (g.faults c) result) first.faults.same then.faults;
  }

  pub touches_more : {T : Type 0} {a b : D} {result : Result T Failed} (free more : ℕ → Type 0)
      → ((n : ℕ) → free n → more n) → TouchesOnly g free a b result
      → TouchesOnly g more a b result
  touches_more {a = a} {b = b} free more within touches = record {
    rest = blocks_more free more within (g.content a) (g.content b) touches.rest;
    size = touches.size;
    faults = touches.faults;
  }

  pub writes_joined : {T U : Type 0} {free : ℕ → Type 0} {a b c : D} {x : T}
      {result : Result U Failed} → WritesOnly g free a b (Ok x) → WritesOnly g free b c result
      → WritesOnly g free a c result
  writes_joined {free = free} {a = a} {b = b} {c = c} first then = record {
    run = outside_joined free (g.content a) (g.content b) (g.content c) first.run then.run;
    touches = touches_joined first.touches then.touches;
  }

  pub writes_more : {T : Type 0} {a b : D} {result : Result T Failed} (free more : ℕ → Type 0)
      → ((n : ℕ) → free n → more n) → WritesOnly g free a b result → WritesOnly g more a b result
  writes_more {a = a} {b = b} free more within writes = record {
    run = run_more free more within (g.content a) (g.content b) writes.run;
    touches = touches_more free more within writes.touches;
  }

  pub read_writes : {T : Type 0} {a b : D} {result : Result T Failed} (free : ℕ → Type 0)
      → ReadsOnly g a b result → WritesOnly g free a b result
  read_writes {a = a} {b = b} free reads = record {
    run = read_run free (g.content a) (g.content b) reads.rest;
    touches = record {
      rest = blocks_read free (g.content a) (g.content b) reads.rest;
      size = reads.size;
      faults = reads.faults;
    };
  }

  pub block_writes : {T : Type 0} {a b : D} {result : Result T Failed} (free : ℕ → Type 0)
      (n : ℕ) → free n → WritesBlock g n a b result → WritesOnly g free a b result
  block_writes {a = a} {b = b} free n is write = record {
    run = outside_write free n (g.content a) (g.content b) is write.rest;
    touches = record {
      rest = blocks_write free n (g.content a) (g.content b) is write.rest;
      size = write.size;
      faults = write.faults;
    };
  }

  pub touches_failed : {T U : Type 0} {free : ℕ → Type 0} {a b : D} {e : Failed}
      (result : Result U Failed) → IsErr result → TouchesOnly g {T = T} free a b (Err e)
      → TouchesOnly g free a b result
  touches_failed result is touches = record {
    rest = touches.rest;
    size = touches.size;
    faults = failed_counted result is touches.faults;
  }

  pub writes_failed : {T U : Type 0} {free : ℕ → Type 0} {a b : D} {e : Failed}
      (result : Result U Failed) → IsErr result → WritesOnly g {T = T} free a b (Err e)
      → WritesOnly g free a b result
  writes_failed result is writes = record {
    run = writes.run;
    touches = touches_failed result is writes.touches;
  }

  -- a write that failed, and no sync
  pub not_flushed : {T U : Type 0} {free : ℕ → Type 0} {a b : D} {e : Failed}
      (result : Result U Failed) → IsErr result → WritesOnly g {T = T} free a b (Err e)
      → FlushesOnly g free a b result
  not_flushed {free = free} {a = a} {b = b} result is writes = record {
    run = unflushed free (g.content a) (g.content b) writes.run;
    none_pending = λ told. no_ok _ result is;
    touches = touches_failed result is writes.touches;
  }

  -- a write, and then a sync
  pub flushed : {T U : Type 0} {free : ℕ → Type 0} {a b c : D} {x : T}
      {result : Result U Failed} → WritesOnly g free a b (Ok x)
      → Syncs (g.content b) (g.content c) → g.size c ≡ g.size b
      → IsCounted (g.faults b) (g.faults c) result
      → (IsTrue g.tells → OnOk result (NonePending (g.content c)))
      → FlushesOnly g free a c result
  flushed {free = free} {b = b} {c = c} writes sync size faults none = record {
    run = record { written = g.content b; run = writes.run; synced = sync };
    none_pending = none;
    touches = touches_joined writes.touches (record {
      rest = blocks_sync free (g.content b) (g.content c) sync;
      size = size;
      faults = faults;
    });
  }
