use Rattle.std.proofs.Common.{◌+◌, ◌++◌, ◌∙◌, ℕ, drop, get_or, map, false, refl, sym, ap, append_assoc, Vec, Global}
use Rattle.std.specs.Prelude.{not}
use Rattle.gx_values.specs.Values.{default_of}
use Rattle.gx_actual.specs.Bodies.{field_bytes, body_of}
use Rattle.gx_split.specs.Groups.{chosen, defaults_of}
use Rattle.gx_scan.proofs.JoinLemmas.{defaults_next, left_out, kept}
use Rattle.gx_scan.proofs.joined.default_body.Goals.{then-not-mask-at+in_ok-push_default, else-not-mask-at}
use Rattle.gx_scan.proofs.joined.default_body.Goals as goal

pub loop-at-preserved : goal.loop-at-preserved
loop-at-preserved c =
    let i = c.loop-at.at in
    let mask = c.args.mask.now in
    let fields = c.args.fields.now in
    let b = get_or mask i false in
    let f = c.index-fields-at.result in
    let old = c.loop-at.body.items in
    let rest = body_of (defaults_of (chosen (drop (i + 1) (map not mask)) (drop (i + 1) fields))) in
    let next = defaults_next fields mask i f b c.loop-at-test.true c.requires c.index-fields-at.is
    refl in
    elim c.if-not-mask-at.branch [
      | then-not-mask-at+in_ok-push_default w ↦ ap (λ l. l ++ rest)
          (ap (λ (v : Vec ℕ Global). v.items) w.body-is ∙ w.in_ok-push_default.ensures)
          ∙ append_assoc old (field_bytes (default_of f)) rest
          ∙ ap (λ l. old ++ l) (sym (next ∙ left_out b _ _ w.if-not-mask-at.true))
          ∙ c.loop-at.invariant
      | else-not-mask-at w ↦ ap (λ (v : Vec ℕ Global). v.items ++ rest) w.body-is
          ∙ ap (λ l. old ++ l) (sym (next ∙ kept b _ _ w.if-not-mask-at.false))
          ∙ c.loop-at.invariant
    ]
