use Rattle.std.proofs.Common.{◌≡◌, rules, subst, length}
use Rattle.std.specs.List.Sorted.{IsPermutation, IsStrictlySortedBy}
use Rattle.std.proofs.lemmas.Result.{on_ok_weaker}
use Rattle.gx_mapping.specs.Rule.{part_cmp}
use Rattle.gx_gather.specs.Gather.{IsUnmade}
use Rattle.gx_gather.proofs.Made.{permuted_back, made_of_sorted, unmade_of_sorted}
use Rattle.gx_gather.proofs.gather.gather_parts.Goals as goal

pub gather_sorted-requires-clause-parts : goal.gather_sorted-requires-clause-parts
gather_sorted-requires-clause-parts g c = λ p h.
    let view : c.parts.inside.0.items ≡ c.args.parts = search rules in
    let perm = subst (λ ps. IsPermutation ps c.sort_parts.new.parts.items) view
    c.sort_parts.ensures.those in
    c.requires p (permuted_back c.args.parts c.sort_parts.new.parts.items p perm h)

pub returns-clause-made : goal.returns-clause-made
returns-clause-made g c =
    let view : c.parts.inside.0.items ≡ c.args.parts = search rules in
    let perm = subst (λ ps. IsPermutation ps c.sort_parts.new.parts.items) view
    c.sort_parts.ensures.those in
    on_ok_weaker c.gather_sorted.result
    (λ e. (
      e.0,
      e.1,
      made_of_sorted (g.M.Mapping.rule c.args.mapping.now) c.args.parts
          c.sort_parts.new.parts.items e.0 perm e.2,
    )) c.gather_sorted.ensures.made

pub returns-clause-damaged : goal.returns-clause-damaged
returns-clause-damaged g c = λ block e.
    let rule = g.M.Mapping.rule c.args.mapping.now in
    let view : c.parts.inside.0.items ≡ c.args.parts = search rules in
    let width : c.len-width.result ≡ length rule.form.keys = search rules in
    let perm = subst (λ ps. IsPermutation ps c.sort_parts.new.parts.items) view
    c.sort_parts.ensures.those in
    subst (λ n. IsUnmade rule n (IsStrictlySortedBy part_cmp c.args.parts) c.args.parts) width
    (unmade_of_sorted rule c.len-width.result c.args.parts c.sort_parts.new.parts.items perm
    c.in_ok-sort_parts.ensures.in_order (c.gather_sorted.ensures.damaged block e))
