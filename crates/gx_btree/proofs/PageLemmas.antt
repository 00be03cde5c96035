-- What the bytes of a page show.
use Rattle.std.proofs.Common.{◌≡◌, ℕ, List, get_or, sym, ap, ◌∙◌, arith}
use Rattle.gx_bytes.specs.declared.page.TheConstants.{NONE}
use Rattle.gx_bytes.specs.Page.{number_of}
use Rattle.gx_slots.specs.Entries.{Entry}
use Rattle.gx_slots.proofs.PageLemmas as slots
use Rattle.gx_slots.proofs.ScanLemmas.{page_kind as entries_kind}
use Rattle.gx_bnode.specs.Branches.{Branch}
use Rattle.gx_bnode.proofs.PageLemmas as bnode
use Rattle.gx_bnode.proofs.ScanLemmas.{page_kind as inner_kind}
use Rattle.gx_btree.specs.declared.reading.Shape.{Shape}
use Rattle.gx_btree.specs.declared.reading.Shape.TheVariants as shapes
use Rattle.gx_btree.specs.Bplus.{Shows}
use Rattle.gx_btree.specs.Tree.{ShowsEntries, ShowsInner}

pub one_list : (bytes : List ℕ) (es fs : List Entry) → ShowsEntries bytes es → ShowsEntries bytes fs
    → es ≡ fs
one_list bytes es fs a b = (slots.one_meaning es fs NONE NONE bytes a b).0

pub one_inner : (bytes : List ℕ) (first other : ℕ) (bs cs : List Branch) → ShowsInner bytes first bs
    → ShowsInner bytes other cs → (first ≡ other) × (bs ≡ cs)
one_inner bytes first other bs cs a b = bnode.one_meaning first other bs cs bytes a b

-- no page is of both kinds
pub one_kind : (bytes : List ℕ) (es : List Entry) (first : ℕ) (bs : List Branch)
    → ShowsEntries bytes es → ShowsInner bytes first bs → ⊥
one_kind bytes es first bs a b =
    let e : 68 ≡ 73 =
    sym (ap (λ (xs : List ℕ). get_or xs 0 0) a.page.is)
    ∙ ap (λ (xs : List ℕ). get_or xs 0 0) b.page.is in
    omega (arith, e)

-- a page of a tree has one of two headers
pub shows_header : (bytes : List ℕ) (shape : Shape) → Shows shape bytes
    → ((get_or bytes 0 0 ≡ 0x49) × (get_or bytes 1 0 ≡ 0) → ⊥)
    → ((get_or bytes 0 0 ≡ 0x44) × (get_or bytes 1 0 ≡ 0) → number_of bytes ≡ NONE → ⊥) → ⊥
shows_header bytes shapes.Inner s inner outer = inner (inner_kind bytes s)
shows_header bytes shapes.Entries s inner outer =
    outer (entries_kind bytes s.0.page) (slots.next_is bytes ∙ s.1)
