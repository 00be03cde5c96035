use Rattle.std.proofs.Common.{rules, ◌≡◌, ◌<◌, ◌++◌, ◌∙◌, List, ℕ, length, get_or, sym, ap, arith}
use Rattle.std.specs.FinMap.{len}
use Rattle.std.proofs.lemmas.List.{append_assoc}
use Rattle.gx_schema.specs.Lookups.{file_at}
use Rattle.gx_model.specs.States.{file_in}
use Rattle.gx_audit.specs.Texts.{file_count_text, file_line, lines_below}
use Rattle.gx_audit.proofs.TextLemmas.{lines_more, file_name, records_counted}
use Rattle.gx_audit.proofs.texts.push_files.Goals as goal

pub loop-file-preserved : goal.loop-file-preserved
loop-file-preserved c = λ s are.
    let at = c.loop-file in
    let schema = c.args.schema.now in
    let old = c.args.text.now.items in
    let below : at.file < length schema.files = search rules in
    let def : c.index.result.now ≡ get_or schema.files at.file c.index.result.now = search rules in
    let name : c.as_slice-name.result.now ≡ (file_at schema at.file).name =
    c.as_slice-name.ensures.value ∙ file_name schema at.file c.index.result.now below def in
    let keys : c.index-in-loop-file.result.now ≡ get_or c.args.keys.now at.file
    c.index-in-loop-file.result.now = search rules in
    let counted : length c.index-in-loop-file.result.now ≡ len (file_in s at.file) =
    records_counted c.args.keys.now s at.file c.index-in-loop-file.result.now
    (omega (arith, below, c.requires)) are keys in
    let count : c.len.result ≡ len (file_in s at.file) = search rules in
    c.in_ok-push_file.ensures ∙ (λ i. at.invariant s are i ++ file_count_text (name i) (count i))
    ∙ append_assoc old (lines_below (file_line schema s) at.file) (file_line schema s at.file)
    ∙ ap (λ (lines : List ℕ). old ++ lines) (sym (lines_more (file_line schema s) at.file))
