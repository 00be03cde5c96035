use Rattle.std.proofs.Common.{take}
use Rattle.gx_layout.specs.Layout.{NamesBlock}
use Rattle.gx_layout.proofs.bitmap.bitmap_of.Given as goal

abbrev pub invariant-loop-k : goal.invariant-loop-k
invariant-loop-k l = record { listed : NamesBlock (take l.k l.listed) l.i l.bits }
