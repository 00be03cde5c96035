use Rattle.std.proofs.Common.{◌∙◌, ap, rules}
use Rattle.std.specs.Prelude.{not}
use Rattle.std.proofs.lemmas.Fn.{filter_same}
use Rattle.gx_links.specs.Links.{is_same, without_member}
use Rattle.gx_links.proofs.members.without.Goals as goal

pub returns : goal.returns
returns c = filter_same _ (λ x. not (is_same x c.args.member.now)) _ (λ x b f' k. search rules) _ _
    c.retain.ensures.filtered ∙ ap (without_member c.args.member.now) c.members.view_is
