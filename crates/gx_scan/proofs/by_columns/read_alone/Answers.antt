use Rattle.std.proofs.Common.{rules, ◌≡◌, ◌<◌, ◌++◌, ◌∙◌, ◌∷◌, [], length, sym, ap, subst, arith}
use Rattle.std.specs.Prelude.{IsSomeAnd}
use Rattle.gx_actual.specs.Bodies.{field_bytes, body_of}
use Rattle.gx_scan.specs.Files.{rec_of}
use Rattle.gx_codec.specs.Stored.{stored_rec, stored_value, stored_values, HasCode}
use Rattle.gx_scan.proofs.ColumnSteps.{alone_stored}
use Rattle.gx_scan.proofs.by_columns.read_alone.Goals as goal

pub returns-in_default-clause-read : goal.returns-in_default-clause-read
returns-in_default-clause-read c = λ key v fits have same.
    let cs = c.args.place.now.codes in
    absurd (subst
    (λ o. IsSomeAnd o (λ stored. stored.now ≡ body_of (stored_values cs (v ∷ []))))
    c.in_default.is
    (c.behind_lengths.ensures (stored_rec cs (rec_of (key, v ∷ []))) same))

pub returns-in_default-split_stored-clause-read : goal.returns-in_default-split_stored-clause-read
returns-in_default-split_stored-clause-read c = λ key v fits have same.
    let cs = c.args.place.now.codes in
    let stored = subst
    (λ o. IsSomeAnd o (λ stored. stored.now ≡ body_of (stored_values cs (v ∷ []))))
    c.in-Some.is (c.behind_lengths.ensures (stored_rec cs (rec_of (key, v ∷ []))) same) in
    let one = alone_stored cs v have in
    let code = sym c.code_at-code.ensures in
    let has = subst (λ o. HasCode o v) code one.0 in
    let bytes = stored ∙ one.1 ∙ (λ j. field_bytes (stored_value (code j) v) ++ []) in
    absurd (c.in_default-split_stored.ensures v [] fits has bytes)

pub returns-then-not-is_empty-clause-read : goal.returns-then-not-is_empty-clause-read
returns-then-not-is_empty-clause-read c = λ key v fits have same.
    let cs = c.args.place.now.codes in
    let stored = subst
    (λ o. IsSomeAnd o (λ stored. stored.now ≡ body_of (stored_values cs (v ∷ []))))
    c.in-Some.is (c.behind_lengths.ensures (stored_rec cs (rec_of (key, v ∷ []))) same) in
    let one = alone_stored cs v have in
    let code = sym c.code_at-code.ensures in
    let has = subst (λ o. HasCode o v) code one.0 in
    let bytes = stored ∙ one.1 ∙ (λ j. field_bytes (stored_value (code j) v) ++ []) in
    let front = c.in-Some-split_stored.ensures v [] fits has bytes in
    let some : 0 < length c.in-Some-split_stored.rest.now = search rules in
    absurd (omega (arith, some, ap length front.1))

pub returns-clause-read : goal.returns-clause-read
returns-clause-read c = λ key v fits have same.
    let cs = c.args.place.now.codes in
    let stored = subst
    (λ o. IsSomeAnd o (λ stored. stored.now ≡ body_of (stored_values cs (v ∷ []))))
    c.in-Some.is (c.behind_lengths.ensures (stored_rec cs (rec_of (key, v ∷ []))) same) in
    let one = alone_stored cs v have in
    let code = sym c.code_at-code.ensures in
    let has = subst (λ o. HasCode o v) code one.0 in
    let bytes = stored ∙ one.1 ∙ (λ j. field_bytes (stored_value (code j) v) ++ []) in
    let front = c.in-Some-split_stored.ensures v [] fits has bytes in
    c.read_front.ensures.read v fits has front.0
