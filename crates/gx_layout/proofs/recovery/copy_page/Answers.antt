use Rattle.std.proofs.Common.{◌≡◌, refl}
use Rattle.gx_device.proofs.RunLemmas.{outside_joined, outside_write}
use Rattle.gx_layout.proofs.BlockLemmas.{blocks_twice, blocks_read, blocks_write}
use Rattle.gx_layout.proofs.RecoverLemmas.{read_run}
use Rattle.gx_layout.proofs.recovery.copy_page.Goals as goal

pub returns-in_err-read_block-clause-rest : goal.returns-in_err-read_block-clause-rest
returns-in_err-read_block-clause-rest g c =
    read_run (λ n. n ≡ c.args.home) _ _ (c.read_block.ensures.rest)

pub returns-clause-rest : goal.returns-clause-rest
returns-clause-rest g c =
    let content = g.D.Device.content in
    outside_joined (λ n. n ≡ c.args.home) (content c.args.device.now)
    (content c.read_block.new.self) (content c.write_block.new.self)
    (read_run (λ n. n ≡ c.args.home) _ _ (c.read_block.ensures.rest))
    (outside_write (λ n. n ≡ c.args.home) c.args.home _ _ refl (c.write_block.ensures.rest))

pub returns-in_err-read_block-clause-touched : goal.returns-in_err-read_block-clause-touched
returns-in_err-read_block-clause-touched g c =
    blocks_read (λ n. n ≡ c.args.home) _ _ c.read_block.ensures.rest

pub returns-clause-touched : goal.returns-clause-touched
returns-clause-touched g c =
    blocks_twice (λ n. n ≡ c.args.home) _ _ _
    (blocks_read (λ n. n ≡ c.args.home) _ _ c.read_block.ensures.rest)
    (blocks_write (λ n. n ≡ c.args.home) c.args.home _ _ refl c.write_block.ensures.rest)
