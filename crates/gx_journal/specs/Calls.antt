-- What calls of a journal keep, and how they end.
use Rattle.std.specs.Prelude.{◌≡◌, ◌↔◌, ◌≤◌, ◌<◌, ℕ, List, length, Result, Ok, OnOk, OnErr, IfOk, IsTrue, ⊤}
use Rattle.std.specs.Borrow.{follows_so, Fml, MutBor, RattleType}
use mathlib.Core.Option.{none}
use Rattle.gx_device.specs.declared.device.Device as device
use Rattle.gx_device.specs.declared.device.Failed.{Failed}
use Rattle.gx_device.specs.Content.{Content, Ticks, NonePending, Silent, Hears, Listens, Says, Speaks}
use Rattle.gx_device.specs.Crash.{LeavesOnly}
use Rattle.gx_device.specs.Quiet.{IsOldOrNew}
use Rattle.gx_device.specs.Faults.{Rose, HasCause, IsCounted}
use Rattle.gx_layout.specs.Layout.{Shows}
use Rattle.gx_layout.specs.Besides.{IsUnsealed}
use Rattle.gx_layout.specs.Recovered.{view_now}
use Rattle.gx_journal.specs.declared.journal.Journal.{Journal}
use Rattle.gx_journal.specs.Journal.{device_of, content_of, size_of, frames_of, working_of, kept_of, kept_head, IsSteady, IsUnchanged, IsCalm, Keeps}

-- P holds of what the lender is once the loan has ended
abbrev pub Rests : (R : RattleType) → MutBor R.Denot → (R.Denot → Type 0) → Fml
Rests R s P = follows_so R R s.ghost_name none (λ _ _. ⊤) P

module _ {D : Type 0} {g : device.Ghosts D} where
  -- what a call that reads keeps, and how it ends
  pub record Reads {T : Type 0} (old new : Journal D g) (result : Result T Failed) : Type 0 where
    pub working : working_of new ≡ working_of old
    pub unchanged : IsUnchanged old → IsUnchanged new
    pub keeps : Keeps old new
    pub silent : Silent (content_of old) (content_of new)
    pub faults : IsCounted (g.faults (device_of old)) (g.faults (device_of new)) result

  -- what `hear` and `say` keep: all but the content and the count of faults
  pub record Talks (old new : Journal D g) : Type 0 where
    pub working : working_of new ≡ working_of old
    pub unchanged : IsUnchanged old → IsUnchanged new
    pub keeps : Keeps old new

  -- What a crash within a commit leaves, where it was calm before: blocks with this head that stand
  -- for the pages that were kept, or for those that were to be. After an Ok it is calm again, and
  -- where a page had changed no block is pending.
  pub record ReplacesKept {T E : Type 0} (old new : Journal D g)
      (result : Result T E) : Type 0 where
    pub images : (start : Content) → IsCalm old start
        → LeavesOnly
        (IsOldOrNew
        (Shows (length (content_of old).now.blocks) (kept_head old) (kept_of old))
        (Shows (length (content_of old).now.blocks) (kept_head old) (working_of old))
        (content_of old).now)
        (content_of old) (content_of new)
    pub calm : (start : Content) → IsCalm old start → OnOk result (IsCalm new (content_of new))
    pub none_pending : IsTrue g.tells → ¬ IsUnchanged old
        → OnOk result (NonePending (content_of new))

  -- what a commit keeps, whatever it answers
  pub record Settles (old new : Journal D g) : Type 0 where
    pub head : kept_head new ≡ kept_head old
    pub size : size_of new ≡ size_of old
    pub frames : frames_of new ≡ frames_of old
    pub blocks : g.size (device_of new) ≡ g.size (device_of old)
    pub silent : Silent (content_of old) (content_of new)

  -- What a crash while the magic is written leaves, where it was calm before: blocks that stand for
  -- the kept pages, whatever block 0 holds. After an Ok it is calm again, and no block is pending.
  pub record SealsKept {T E : Type 0} (old new : Journal D g) (result : Result T E) : Type 0 where
    pub images : (start : Content) → IsCalm old start
        → LeavesOnly (IsUnsealed (view_now (kept_of old) (content_of old)))
        (content_of old) (content_of new)
    pub calm : (start : Content) → IsCalm old start → OnOk result (IsCalm new (content_of new))
    pub none_pending : IsTrue g.tells → OnOk result (NonePending (content_of new))

  -- what stays while the magic is written, whatever is answered
  pub record KeepsPages (old new : Journal D g) : Type 0 where
    pub working : working_of new ≡ working_of old
    pub kept : kept_of new ≡ kept_of old
    pub size : size_of new ≡ size_of old
    pub frames : frames_of new ≡ frames_of old
    pub blocks : g.size (device_of new) ≡ g.size (device_of old)
    pub steady : IsSteady old ↔ IsSteady new

  -- `hear`, of the bytes that then stand in the slice: the device is called once at most
  pub record Hearing (old new : Journal D g) (into : List ℕ)
      (result : Result ℕ Failed) : Type 0 where
    pub bound : IfOk result (λ n. n ≤ length into)
    pub heard : IsTrue g.tells → IfOk result (λ n. Hears n into (content_of old) (content_of new))
    pub not_heard : OnErr result ((content_of new).script ≡ (content_of old).script)
    pub rest : Listens (content_of old) (content_of new)
    pub time : Ticks (content_of old) (content_of new)
    pub faults : IsCounted (g.faults (device_of old)) (g.faults (device_of new)) result

  -- `say`, of a piece: the device is called once at most; to take no byte of a piece that has some
  -- is a fault
  pub record Saying (old new : Journal D g) (from : List ℕ)
      (result : Result ℕ Failed) : Type 0 where
    pub bound : IfOk result (λ n. n ≤ length from)
    pub said : IsTrue g.tells → IfOk result (λ n. Says n from (content_of old) (content_of new))
    pub not_said : OnErr result ((content_of new).now.said ≡ (content_of old).now.said)
    pub rest : Speaks (content_of old) (content_of new)
    pub time : Ticks (content_of old) (content_of new)
    pub cause : HasCause (g.faults (device_of old)) (g.faults (device_of new)) result
    pub counted : IfOk result (λ n. 0 < n → g.faults (device_of new) ≡ g.faults (device_of old))
    pub none_taken : result ≡ Ok 0 → 0 < length from
        → Rose (g.faults (device_of old)) (g.faults (device_of new))
