use Rattle.std.proofs.Common.{◌≡◌, drop}
use Rattle.gx_equation.specs.Seen.{tree_of, trees_of}
use Rattle.gx_equation.specs.Trees.{none, kid, kids_from}
use Rattle.gx_forms.specs.Forms.{one_field}
use Rattle.gx_typing.specs.Typing.{kids_typed}
use Rattle.gx_typing.proofs.TermSize.{tree_size, trees_size}
use Rattle.gx_typing.proofs.terms.+typing.Given as goal

abbrev pub decreases-term_typed : goal.decreases-term_typed
decreases-term_typed l = tree_size (tree_of l.term.now)

abbrev pub decreases-both_typed : goal.decreases-both_typed
decreases-both_typed l = trees_size (kid (tree_of l.first.now) (kid (tree_of l.second.now) none))

abbrev pub decreases-each_typed : goal.decreases-each_typed
decreases-each_typed l = trees_size (kids_from (trees_of l.kids.now))

abbrev pub decreases-same_typed : goal.decreases-same_typed
decreases-same_typed l = trees_size (kids_from (trees_of l.kids.now))

abbrev pub invariant-each_typed-loop-i : goal.invariant-each_typed-loop-i
invariant-each_typed-loop-i l =
    kids_typed l.owner (one_field l.form) l.i (kids_from (trees_of (drop l.i l.kids))) l.left
    l.typing ≡ kids_typed l.owner (one_field l.form) 0 (kids_from (trees_of l.kids)) l.lines
    l.initial.typing

abbrev pub invariant-same_typed-loop-kid : goal.invariant-same_typed-loop-kid
invariant-same_typed-loop-kid l =
    kids_typed l.owner (λ _. l.form) l.kid-index (kids_from (trees_of (drop l.kid-index l.kids)))
    l.left l.typing ≡ kids_typed l.owner (λ _. l.form) 0 (kids_from (trees_of l.kids)) l.lines
    l.initial.typing
