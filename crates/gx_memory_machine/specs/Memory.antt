-- A machine in memory, as contracts see it.
use Rattle.std.specs.Prelude.{ℕ, List, [], ◌∷◌, ◌++◌, if◌then◌else◌}
use Rattle.std.specs.Global.{Vec}
use Rattle.std.specs.FinMap.{empty}
use Rattle.gx_device.specs.Content.{Texts, Content, Moment, nothing_told}
use Rattle.gx_memory_machine.specs.Counts.{Counts, is_short, numbered}
use Rattle.gx_memory_machine.specs.Names.{by_name}

pub record Memory : Type 0 where
  pub texts : Texts
  -- the bytes of the script that are left
  pub script : List ℕ
  pub now : Moment
  pub past : List Moment
  pub counts : Counts

-- no text, device, script, said byte, fault or call
abbrev pub empty_machine : Memory
empty_machine = record {
  texts = empty;
  script = [];
  now = nothing_told.now;
  past = [];
  counts = record { faults = 0; calls = 0; failing = []; spare_calls = 0; spare_bytes = 0 };
}

-- it tells everything
abbrev pub content_of : Memory → Content
content_of m =
    record { now = m.now; script = m.script; aside = record { texts = m.texts }; past = m.past }

-- the moments before a call of a device with so many bytes has ended; a call without room has none
abbrev pub past_after : Memory → ℕ → List Moment
past_after m bytes = if is_short m.counts bytes then m.past else m.past ++ m.now ∷ []

-- a call that takes its own room has been numbered, and changed nothing else
abbrev pub passed_itself : Memory → Memory
passed_itself m = record m { past = m.past ++ m.now ∷ []; counts = numbered m.counts }

abbrev pub texts_of : List (Vec ℕ × Vec ℕ) → Texts
texts_of es = by_name es
