use Rattle.std.proofs.Common.{◌≡◌, ◌<◌, ◌≤◌, ◌∙◌, List, length, get_or, ap, arith}
use Rattle.gx_values.specs.declared.values.Value.{Value}
use Rattle.gx_values.specs.Keys.{bytes_of, widths}
use Rattle.gx_values.proofs.KeyLemmas.{fit_key, next_fits}
use Rattle.gx_stack.proofs.entries.entry_key.Goals as goal

pub set_value-requires : goal.set_value-requires
set_value-requires c =
    let key = c.args.key.now in
    let v = c.value-item.result in
    let items : c.as_slice.result.now ≡ key = c.as_slice.ensures.value ∙ c.key.view_is in
    let some : 0 < length key = omega (arith, c.in-len1.len_at_least, ap length items) in
    let at : v ≡ get_or key 0 v = c.value-item.is ∙ ap (λ (l : List Value). get_or l 0 v) items in
    let small : widths c.args.form.now.keys ≤ 400 = c.requires.form.key_small in
    omega (
      arith,
      ap (λ (x : Value). length (bytes_of x)) at,
      next_fits key v 0 some,
      fit_key c.args.form.now.keys key c.requires.of_form,
      small,
    )
