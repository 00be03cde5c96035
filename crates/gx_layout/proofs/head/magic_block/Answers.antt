use Rattle.std.proofs.Common.{ℕ, List, replicate, ap, ◌∙◌}
use Rattle.gx_bytes.specs.Parts.{overwritten}
use Rattle.gx_layout.proofs.SealLemmas.{has_magic}
use Rattle.gx_layout.proofs.head.magic_block.Goals as goal

pub returns : goal.returns
returns c =
    let zeros = replicate {A = ℕ} 4096 0 in
    has_magic c.args.size c.overwrite.new.bytes zeros
    (c.overwrite.ensures ∙ ap (λ (m : List ℕ). overwritten zeros 0 m) c.magic_of.ensures)
