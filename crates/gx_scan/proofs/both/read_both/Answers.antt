use Rattle.std.proofs.Common.{rules, ◌≡◌, ◌<◌, ◌+◌, ◌++◌, ◌∙◌, ◌∷◌, [], Some, length, drop, get_or, map, false, refl, sym, ap, subst, arith}
use Rattle.std.specs.Prelude.{not, IfSome}
use Rattle.std.proofs.lemmas.Option.{same_Some}
use Rattle.gx_values.specs.Values.{Fits}
use Rattle.gx_values.proofs.WrittenLemmas.{next_fit}
use Rattle.gx_actual.proofs.BodyLemmas.{item_short}
use Rattle.gx_split.specs.Groups.{chosen}
use Rattle.gx_scan.specs.Groups.{IsLeft}
use Rattle.gx_scan.proofs.BothLemmas.{split_at, group_ends, all_taken}
use Rattle.gx_scan.proofs.both.read_both.Goals.{else-is_empty-via-then-is_empty+else-is_empty-2, else-is_empty-via-else-is_empty}
use Rattle.gx_scan.proofs.both.read_both.Goals as goal

pub split_front-next-requires : goal.split_front-next-requires
split_front-next-requires c =
    item_short c.args.fields.now c.index-fields-at.result c.loop-at.at c.requires.short
    c.loop-at-test.true c.index-fields-at.is

pub returns-in_default-clause-read : goal.returns-in_default-clause-read
returns-in_default-clause-read c = λ vs fit first others.
    let i = c.loop-at.at in
    let mask = c.args.mask.now in
    let so_far = c.loop-at.invariant.so_far vs fit first others in
    let at = split_at c.args.fields.now mask vs i c.index-fields-at.result (get_or mask i false)
    fit c.loop-at-test.true c.requires.long c.index-fields-at.is refl in
    let next = chosen (drop (i + 1) mask) (drop (i + 1) vs) in
    let next_others = chosen (drop (i + 1) (map not mask)) (drop (i + 1) vs) in
    absurd (c.in_default.ensures at.value next next_others at.fits
    (subst (IsLeft c.loop-at.first) at.first so_far.0)
    (subst (IsLeft c.loop-at.others) at.others so_far.1))

pub returns-in_default-2-clause-read : goal.returns-in_default-2-clause-read
returns-in_default-2-clause-read c = λ vs fit first others.
    let i = c.loop-at.at in
    let mask = c.args.mask.now in
    let so_far = c.loop-at.invariant.so_far vs fit first others in
    let at = split_at c.args.fields.now mask vs i c.index-fields-at.result (get_or mask i false)
    fit c.loop-at-test.true c.requires.long c.index-fields-at.is refl in
    let next = chosen (drop (i + 1) mask) (drop (i + 1) vs) in
    let next_others = chosen (drop (i + 1) (map not mask)) (drop (i + 1) vs) in
    let front = c.in-Some.ensures at.value next next_others at.fits
    (subst (IsLeft c.loop-at.first) at.first so_far.0)
    (subst (IsLeft c.loop-at.others) at.others so_far.1) in
    let found = c.in_ok-value.ensures.read at.value at.fits front.0 front.1 in
    let none = c.in_default-2.is in
    cc

pub loop-at-preserved : goal.loop-at-preserved
loop-at-preserved c =
    let i = c.loop-at.at in
    let fields = c.args.fields.now in
    let mask = c.args.mask.now in
    let field = c.index-fields-at.result in
    let items = c.loop-at.values.items in
    let read = c.in-Some-2.value in
    record {
      fit = next_fit fields fields items _ read field i refl c.loop-at.invariant.fit
          c.loop-at-test.true c.index-fields-at.is
          (subst (λ o. IfSome o (Fits field.kind)) c.in-Some-2.is c.in_ok-value.ensures.fits)
          c.in_ok-push.ensures.items;
      so_far = λ vs fit first others.
          let so_far = c.loop-at.invariant.so_far vs fit first others in
          let at = split_at fields mask vs i field (get_or mask i false)
          fit c.loop-at-test.true c.requires.long c.index-fields-at.is refl in
          let next = chosen (drop (i + 1) mask) (drop (i + 1) vs) in
          let next_others = chosen (drop (i + 1) (map not mask)) (drop (i + 1) vs) in
          let front = c.in-Some.ensures at.value next next_others at.fits
          (subst (IsLeft c.loop-at.first) at.first so_far.0)
          (subst (IsLeft c.loop-at.others) at.others so_far.1) in
          let found = c.in_ok-value.ensures.read at.value at.fits front.0 front.1 in
          let is : read ≡ at.value = same_Some read _ (sym c.in-Some-2.is ∙ found) in (
            front.2,
            front.3,
            c.in_ok-push.ensures.items ∙ (λ j. so_far.2 j ++ is j ∷ []) ∙ sym at.more,
          );
    }

pub returns-then-is_empty-2-clause-read : goal.returns-then-is_empty-2-clause-read
returns-then-is_empty-2-clause-read c = λ vs fit first others.
    let so_far = c.loop-at.invariant.so_far vs fit first others in
    ap Some (so_far.2 ∙ all_taken c.args.fields.now vs c.loop-at.at fit c.loop-at-test.false)

pub returns-else-is_empty-clause-read : goal.returns-else-is_empty-clause-read
returns-else-is_empty-clause-read c = λ vs fit first others.
    let fields = c.args.fields.now in
    let mask = c.args.mask.now in
    let so_far = c.loop-at.invariant.so_far vs fit first others in
    let no_first = group_ends fields mask vs c.loop-at.at c.loop-at.first.codes.now _ fit
    c.loop-at-test.false so_far.0.1 in
    let no_others = group_ends fields (map not mask) vs c.loop-at.at c.loop-at.others.codes.now _
    fit c.loop-at-test.false so_far.1.1 in
    elim c.else-is_empty.branch [
      | else-is_empty-via-then-is_empty+else-is_empty-2 w ↦ (
          let some : 0 < length c.loop-at.others.body.now = search rules in
          absurd (omega (arith, some, ap length no_others)))
      | else-is_empty-via-else-is_empty w ↦ (
          let some : 0 < length c.loop-at.first.body.now = search rules in
          absurd (omega (arith, some, ap length no_first)))
    ]
