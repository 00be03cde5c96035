use Rattle.std.proofs.Common.{ℕ, List, Some, ◌∙◌, sym, ap, subst}
use Rattle.gx_values.specs.declared.values.Value.TheVariants as value
use Rattle.gx_encode.specs.Runs.{IsUnrle}
use Rattle.gx_encode.specs.RunLaws.{same_rle}
use Rattle.gx_codec.proofs.StoredLemmas.{text_coded}
use Rattle.gx_codec.proofs.fronts.joined_runs.Goals as goal

pub returns-in-Some-clause-read : goal.returns-in-Some-clause-read
returns-in-Some-clause-read c = λ text fits few same.
    let read = subst (IsUnrle c.args.most c.args.bytes.now) c.in-Some.is c.in_ok-text.ensures in
    ap (λ (t : List ℕ). Some (value.Text t)) (same_rle c.in-Some.text text (read.1 ∙ same))

pub returns-in-None-clause-read : goal.returns-in-None-clause-read
returns-in-None-clause-read c = λ text fits few same.
    let none = subst (IsUnrle c.args.most c.args.bytes.now) c.in-None.is c.in_ok-text.ensures in
    absurd (none text (text_coded c.args.most text fits few) (sym same))
