-- A call that reads pages, by what it keeps of the working ones.
use Rattle.std.proofs.Common.{◌≡◌, ℕ, List, Option, Some, None, Result, length, IsTrue, refl, ap, ◌∙◌}
use Rattle.std.specs.Prelude.{option_map}
use Rattle.std.specs.Option.{option_map_or}
use Rattle.gx_device.specs.declared.device.Device as device
use Rattle.gx_device.specs.declared.device.Failed.{Failed}
use Rattle.gx_device.specs.Faults.{IsCounted}
use Rattle.gx_frames.specs.Pool.{Resident}
use Rattle.gx_journal.specs.declared.journal.Journal.{Journal}
use Rattle.gx_journal.specs.State.{pages_told}
use Rattle.gx_journal.specs.Working.{IsUnchangedIn}
use Rattle.gx_journal.specs.WorkingCalls.{KeepsWorking}
use Rattle.gx_journal.specs.Calls.{Reads}
use Rattle.gx_journal.proofs.SlotLemmas.{slots_silent}
use Rattle.gx_journal.proofs.PageLemmas.{homes_same, head_same, calm_same, pages_same}

bytes_joined : (o : Option Resident) (stands : List ℕ)
    → option_map_or (λ (b : List ℕ). b) (option_map (λ (r : Resident). r.bytes) o) stands
    ≡ option_map_or (λ (r : Resident). r.bytes) o stands
bytes_joined None stands = refl
bytes_joined (Some r) stands = refl

-- where a page is found with these bytes, they are the page's
pub found_bytes : (o : Option Resident) (bytes stands : List ℕ)
    → Some bytes ≡ option_map (λ (r : Resident). r.bytes) o
    → bytes ≡ option_map_or (λ (r : Resident). r.bytes) o stands
found_bytes o bytes stands is =
    ap (λ (x : Option (List ℕ)). option_map_or (λ (b : List ℕ). b) x stands) is
    ∙ bytes_joined o stands

module _ {D : Type 0} {g : device.Ghosts D} where
  -- a call that keeps the working pages, in which no commit fails
  pub reads_by : {T U : Type 0} {old new : Journal D g} {within : Result U Failed}
      (result : Result T Failed)
      → new.failed ≡ old.failed
      → (IsTrue g.tells → g.size old.device ≡ length (g.content old.device).now.blocks)
      → KeepsWorking g old.device new.device old.working new.working within
      → (IsUnchangedIn old.working → IsUnchangedIn new.working)
      → IsCounted (g.faults old.device) (g.faults new.device) result
      → Reads old new result
  reads_by {old = old} {new = new} result steady sized keeps unchanged faults =
      let N = g.size old.device in
      let P = length old.working.spilled.items in
      let Q = length new.working.spilled.items in
      let before = g.content old.device in
      let after = g.content new.device in
      record {
        working =
            ap (λ (n : ℕ). pages_told g.tells n Q after new.working.spilled.items
            new.working.frames.resident) keeps.writes.blocks
            ∙ pages_same g.tells N P Q before after old.working.spilled.items
            new.working.spilled.items old.working.frames.resident new.working.frames.resident
            keeps.writes.size keeps.same;
        unchanged = unchanged;
        keeps = record {
          kept = homes_same g.tells N P Q before after keeps.writes.size sized
              (λ told. keeps.writes.slots);
          head = head_same g.tells N P before after sized (λ told. keeps.writes.slots);
          size = keeps.writes.size;
          frames = keeps.writes.frames;
          blocks = keeps.writes.blocks;
          steady = steady;
          calm = λ start calm. calm_same g.tells old.failed new.failed N P Q start before
              after keeps.writes.size steady sized (λ told. keeps.writes.slots) calm;
        };
        silent = slots_silent N P before after keeps.writes.slots;
        faults = faults;
      }
