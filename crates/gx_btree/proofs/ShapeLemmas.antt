-- Each page of a tree is an entry page or an inner page.
use Rattle.std.proofs.Common.{inl, inr, ℕ, List, sym, subst}
use Rattle.gx_bytes.specs.declared.page.TheConstants.{NONE}
use Rattle.gx_slots.specs.Entries.{Entry, AreAscending}
use Rattle.gx_slots.proofs.PageLemmas.{entries_of-page, next_of-page}
use Rattle.gx_ports.specs.Sheets.{Sheets, Ground, bytes_at}
use Rattle.gx_btree.specs.declared.reading.Shape.{Shape}
use Rattle.gx_btree.specs.declared.reading.Shape.TheVariants as shapes
use Rattle.gx_btree.specs.Bplus.{Shows, IsTreePage, IsOwned, ArePast}
use Rattle.gx_btree.specs.Hole.{IsAtHand}
use Rattle.gx_btree.specs.Tree.{In, BplusTree, BplusKids, leaf, node, last, more, page_of, first_of, branches_of, pages, kids_pages, Stands, AllStand, Ordered, AreOrdered, ShowsEntries, Ascending}
use Rattle.gx_btree.proofs.EntryLemmas.{ascending_from}
use Rattle.gx_btree.proofs.MemberLemmas.{in_left, in_cases}
use Rattle.gx_btree.proofs.StepLemmas.{top_in}

pub record HasShape (bytes : List ℕ) : Type 0 where
  pub shape : Shape
  pub shows : Shows shape bytes

leaf_shape : (bytes : List ℕ) (es : List Entry) → ShowsEntries bytes es → Ascending es
    → HasShape bytes
leaf_shape bytes es s up = record {
  shape = shapes.Entries;
  shows = (
    record {
      page = record { entries = es; next = NONE; is = s };
      ascending = subst AreAscending
          (sym (entries_of-page es NONE bytes s)) (ascending_from es up);
    },
    next_of-page es NONE bytes s,
  );
}

mutual
  pub tree_shape : (at : ℕ → List ℕ) (t : BplusTree) (q : ℕ) → Stands at t → Ordered t
      → In q (pages t)
      → HasShape (at q)
  tree_shape at (leaf p es) q stands ordered i =
      elim i [
        | inl e ↦ subst (λ n. HasShape (at n)) (sym e) (leaf_shape (at p) es stands ordered)
        | inr n ↦ absurd n
      ]
  tree_shape at (node p kids) q stands ordered i = elim i [
    | inl e ↦ subst (λ n. HasShape (at n)) (sym e)
        (record {
          shape = shapes.Inner;
          shows = record {
            first = first_of kids;
            branches = branches_of kids;
            is = stands.0;
          };
        })
    | inr j ↦ kids_shape at kids q stands.1 ordered j
  ]

  pub kids_shape : (at : ℕ → List ℕ) (kids : BplusKids) (q : ℕ) → AllStand at kids → AreOrdered kids
      → In q (kids_pages kids) → HasShape (at q)
  kids_shape at (last t) q stand ordered i = tree_shape at t q stand ordered.0 i
  kids_shape at (more t s kids) q stand ordered i =
      elim (in_cases q (pages t) (kids_pages kids) i) [
        | inl a ↦ tree_shape at t q stand.0 ordered.0 a
        | inr b ↦ kids_shape at kids q stand.1 ordered.4 b
      ]

pub first_in : (kids : BplusKids) → In (first_of kids) (kids_pages kids)
first_in (last t) = top_in t
first_in (more t s kids) = in_left (page_of t) (pages t) (kids_pages kids) (top_in t)

-- the page at hand is one of the tree
pub hand_page : {steps : ℕ} (ground : Ground) (owner : ℕ) (sheets : Sheets) (root p : ℕ)
    (key : List ℕ) (old : BplusTree)
    → IsAtHand (bytes_at sheets) (IsOwned owner sheets) root p key old steps
    → ArePast ground owner sheets → IsTreePage ground sheets p
hand_page ground owner sheets root p key old h past =
    let top : In p (pages h.subtree) =
    subst (λ q. In q (pages h.subtree)) h.fits.page_is (top_in h.subtree) in
    let shape = tree_shape (bytes_at sheets) h.subtree p h.fits.stands h.fits.ordered top in
    record { past = past p ((h.owns p).1 (inl top)); shape = shape.shape; shows = shape.shows }
