-- What contracts see of a linkset of any of the three kinds.
use Rattle.std.specs.Prelude.{List}
use Rattle.gx_ports.specs.LeafMaps.{LeafMap}
use Rattle.gx_stack.specs.Seen.{tree_of}
use Rattle.gx_types.specs.Any.{any_rule, any_laws}
use Rattle.gx_links.specs.Links.{Link}
use Rattle.gx_links.specs.Linksets.{LinkRule, LinksetLaws}
use Rattle.gx_links.specs.Rows.{IsHeldLink, two_nodes}
use Rattle.gx_lists.specs.Arrays.{one_node, array_rows, array_rule, IsArray}
use Rattle.gx_lists.specs.Inverted.{inverted_rows, inverted_rule, IsInverted}
use Rattle.gx_lists.specs.ArrayLaws.{array_laws}
pub use Rattle.gx_lists.specs.ArrayLaws.{array_row_laws}
use Rattle.gx_lists.specs.InvertedLaws.{inverted_laws}
pub use Rattle.gx_lists.specs.InvertedLaws.{inverted_row_laws}
use Rattle.gx_ring.specs.RingLaws.{ring_laws}
pub use Rattle.gx_ring.specs.RingLaws.{ring_row_laws}
use Rattle.gx_ring.specs.Ring.{ring_rows, ring_rule, IsRing}
use Rattle.gx_linksets.specs.declared.any.AnyLinkset.{AnyLinkset}
use Rattle.gx_linksets.specs.declared.any.AnyLinkset.TheVariants.{Array, Ring, Inverted}

abbrev pub any_link_rule : AnyLinkset → LinkRule
any_link_rule (Array l) = array_rule any_rule (tree_of l.tree.now) l.member
any_link_rule (Ring l) = ring_rule any_rule (tree_of l.heads.now) (tree_of l.chain.now)
any_link_rule (Inverted l) = inverted_rule any_rule (tree_of l.down.now) (tree_of l.up.now)

abbrev pub IsHeldBy : AnyLinkset → Link → List LeafMap → Type 0
IsHeldBy (Array l) = IsHeldLink any_rule (one_node (tree_of l.tree.now)) array_rows
IsHeldBy (Ring l) =
    IsHeldLink any_rule (two_nodes (tree_of l.heads.now) (tree_of l.chain.now)) ring_rows
IsHeldBy (Inverted l) =
    IsHeldLink any_rule (two_nodes (tree_of l.down.now) (tree_of l.up.now)) inverted_rows

abbrev pub IsValidLinkset : AnyLinkset → Type 0
IsValidLinkset (Array l) = IsArray any_rule (tree_of l.tree.now) l.member
IsValidLinkset (Ring l) = IsRing any_rule (tree_of l.heads.now) (tree_of l.chain.now)
IsValidLinkset (Inverted l) = IsInverted any_rule (tree_of l.down.now) (tree_of l.up.now)

pub any_link_laws : (l : AnyLinkset) → IsValidLinkset l → LinksetLaws (any_link_rule l) (IsHeldBy l)
any_link_laws (Array l) valid = array_laws any_rule any_laws (tree_of l.tree.now) l.member valid
any_link_laws (Ring l) valid =
    ring_laws any_rule any_laws (tree_of l.heads.now) (tree_of l.chain.now) valid
any_link_laws (Inverted l) valid =
    inverted_laws any_rule any_laws (tree_of l.down.now) (tree_of l.up.now) valid
