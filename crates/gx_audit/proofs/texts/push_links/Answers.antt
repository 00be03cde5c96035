use Rattle.std.proofs.Common.{rules, ◌≡◌, ◌<◌, ◌++◌, ◌∙◌, List, ℕ, length, get_or, sym, ap, arith}
use Rattle.std.specs.FinMap.{len}
use Rattle.std.proofs.lemmas.List.{append_assoc}
use Rattle.gx_schema.specs.Lookups.{link_at}
use Rattle.gx_model.specs.States.{link_in}
use Rattle.gx_audit.specs.Texts.{link_count_text, link_line, lines_below}
use Rattle.gx_audit.proofs.TextLemmas.{lines_more, link_name, members_counted}
use Rattle.gx_audit.proofs.texts.push_links.Goals as goal

pub loop-link-preserved : goal.loop-link-preserved
loop-link-preserved c = λ s are.
    let at = c.loop-link in
    let schema = c.args.schema.now in
    let old = c.args.text.now.items in
    let below : at.link < length schema.links = search rules in
    let def : c.index.result.now ≡ get_or schema.links at.link c.index.result.now = search rules in
    let name : c.as_slice-name.result.now ≡ (link_at schema at.link).name =
    c.as_slice-name.ensures.value ∙ link_name schema at.link c.index.result.now below def in
    let n = c.index-in-loop-link.result.now in
    let there : n ≡ get_or c.args.counts.now at.link n = search rules in
    let count : n ≡ len (link_in s at.link) =
    members_counted c.args.counts.now s at.link n (omega (arith, below, c.requires)) are there
    in
    c.in_ok-push_link.ensures ∙ (λ i. at.invariant s are i ++ link_count_text (name i) (count i))
    ∙ append_assoc old (lines_below (link_line schema s) at.link) (link_line schema s at.link)
    ∙ ap (λ (lines : List ℕ). old ++ lines) (sym (lines_more (link_line schema s) at.link))
