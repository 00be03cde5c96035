use Rattle.std.proofs.Common.{◌≡◌, length, ap, sym, ◌∙◌, get_or, arith}
use Rattle.gx_equation.specs.Seen.{tree_of}
use Rattle.gx_equation.specs.Trees.{Trees, list_of}
use Rattle.gx_types.specs.Build.{kids_of}
use Rattle.gx_types.proofs.NodeSteps.{listed, listed_at}
use Rattle.gx_typing.proofs.TypingSteps.{count_kids}
use Rattle.gx_typing.specs.Typing.{count}
use Rattle.gx_types.proofs.nodes.child.Goals as goal

pub index-requires : goal.index-requires
index-requires c =
    let kids = c.in-Transpose.kids in
    let many : count (kids_of (tree_of c.args.term.now)) ≡ length kids.items =
    ap count (listed c.args.term.now kids c.in-Transpose.is) ∙ count_kids kids.items in
    omega (arith, many, c.requires)

pub returns-in-Transpose : goal.returns-in-Transpose
returns-in-Transpose c =
    let kids = c.in-Transpose.kids in
    let whole = tree_of c.args.term.now in
    let same = listed c.args.term.now kids c.in-Transpose.is in
    let many : count (kids_of whole) ≡ length kids.items = ap count same ∙ count_kids kids.items in
    ap tree_of c.index.ensures
    ∙ listed_at kids.items c.args.number c.index.result.now whole (omega (arith, many, c.requires))
    ∙ sym (ap (λ (ts : Trees). get_or (list_of ts) c.args.number whole) same)
