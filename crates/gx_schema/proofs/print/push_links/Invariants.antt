use Rattle.std.proofs.Common.{◌≡◌, ◌++◌, drop}
use Rattle.gx_schema.specs.Printing.{links_text}
use Rattle.gx_schema.proofs.print.push_links.Given as goal

abbrev pub invariant-loop-link : goal.invariant-loop-link
invariant-loop-link l =
    l.out.items ++ links_text l.files (drop l.link-index l.links) ≡ l.initial.out.items
    ++ links_text l.files l.links
