-- A device that has been attached, and a refusal to attach one.
use Rattle.std.proofs.Common.{◌≡◌, ◌∙◌, ℕ, List, Some, sym, ap}
use Rattle.std.proofs.lemmas.Option.{same_Some}
use Rattle.gx_device.specs.Content.{Content, IsOpened, device_at, Silent}
use Rattle.gx_store.proofs.ShelfLemmas.{attached_at}

-- the blocks of the device are those that are attached
pub attached_blocks : (name : List ℕ) (blocks : List (List ℕ)) (old new : Content)
    → device_at old.now name ≡ Some blocks
    → IsOpened name old new → blocks ≡ new.now.blocks
attached_blocks name blocks old new was o = same_Some blocks o.blocks (sym was ∙ o.was)
    ∙ sym o.attached.blocks_are

-- a device whose blocks were left is as it was
pub left_alone : (name : List ℕ) (old mid last : Content) → IsOpened name old mid → Silent mid last
    → last.now.blocks ≡ mid.now.blocks
    → device_at last.now name ≡ device_at old.now name
left_alone name old mid last o silent same =
    attached_at name o.blocks old mid last o.attached silent
    ∙ ap (λ (bs : List (List ℕ)). Some bs) (same ∙ o.attached.blocks_are)
    ∙ sym o.was
