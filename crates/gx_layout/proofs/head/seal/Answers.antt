use Rattle.std.proofs.Common.{◌≡◌, ℕ, refl, subst, arith}
use Rattle.gx_layout.specs.Head.{HasMagic}
use Rattle.gx_laws.proofs.ResultLemmas.{on_ok_always}
use Rattle.gx_layout.proofs.BlockLemmas.{blocks_twice, blocks_write, blocks_sync}
use Rattle.gx_layout.proofs.SealLemmas.{magic_stands, unsealed_images, unsealed_synced}
use Rattle.gx_layout.proofs.head.seal.Goals as goal

pub returns-in_err-write_block-clause-images : goal.returns-in_err-write_block-clause-images
returns-in_err-write_block-clause-images g c v rest =
    unsealed_images v _ _ rest c.write_block.ensures.rest

pub returns-clause-images : goal.returns-clause-images
returns-clause-images g c v rest =
    unsealed_synced v _ (g.D.Device.content c.write_block.new.self) _ rest
    c.write_block.ensures.rest c.sync.ensures.rest

pub returns-in_err-write_block-clause-rest : goal.returns-in_err-write_block-clause-rest
returns-in_err-write_block-clause-rest g c =
    blocks_write (λ n. n ≡ 0) 0 _ _ refl c.write_block.ensures.rest

pub returns-clause-rest : goal.returns-clause-rest
returns-clause-rest g c =
    blocks_twice (λ n. n ≡ 0) _ (g.D.Device.content c.write_block.new.self) _
    (blocks_write (λ n. n ≡ 0) 0 _ _ refl c.write_block.ensures.rest)
    (blocks_sync (λ n. n ≡ 0) _ _ c.sync.ensures.rest)

pub returns-clause-magic : goal.returns-clause-magic
returns-clause-magic g c told =
    on_ok_always c.sync.result
    (magic_stands (g.D.Device.size c.args.device.now) c.magic_block-block.result _
    (g.D.Device.content c.write_block.new.self) _
    (omega (arith, c.requires, g.met.D.Device.sized c.args.device.now told))
    (c.in_ok-write_block.ensures.block told) c.sync.ensures.rest
    (subst (λ (n : ℕ). HasMagic n c.magic_block-block.result) c.blocks-2.ensures.count
    c.magic_block-block.ensures))
