use Rattle.std.proofs.Common.{◌≡◌, ◌++◌, ◌∙◌, ℕ, List, length, drop, sym, ap}
use Rattle.std.proofs.lemmas.Bool.Decides.{Decides-eqb}
use Rattle.std.proofs.lemmas.Slice.Eq.{starts_is}
use Rattle.gx_layout.specs.Places.{magic_of}
use Rattle.gx_layout.proofs.head.has_magic.Goals as goal

pub returns-clause-magic : goal.returns-clause-magic
returns-clause-magic g c told =
    let magic = c.magic_of.result.now in
    let block = c.read_block.new.into in
    let reads = c.in_ok-read_block.ensures.block told in
    let same : magic ≡ magic_of (g.D.Device.size c.args.device.now) =
    c.magic_of.ensures ∙ ap magic_of (c.blocks-2.ensures.count ∙ c.read_block.ensures.size) in
    let is = starts_is Decides-eqb block magic c.starts_with.result c.starts_with.ensures.value in (
      (λ found. (
        drop (length magic) block,
        sym reads ∙ is.0 found ∙ ap (λ (m : List ℕ). m ++ drop (length magic) block) same,
      )),
      (λ has. is.1 has.0 (reads ∙ has.1 ∙ ap (λ (m : List ℕ). m ++ has.0) (sym same))),
    )
