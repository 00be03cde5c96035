-- Visits of the pages of a tree that is checked.
use Rattle.std.proofs.Common.{◌≡◌, ◌≢◌, ◌↔◌, inl, inr, ℕ, ◌+◌, ◌<◌, ◌≤◌, Bool, true, false, List, [], ◌∷◌, ◌++◌, map, length, replicate, slice_set, Option, Some, None, Err, refl, sym, ap, ◌∙◌, subst, arith}
use Rattle.std.specs.Prelude.{slice_get, IsTrue, Result}
use Rattle.gx_laws.proofs.ListLemmas.{unmarked}
use Rattle.gx_ports.specs.declared.page_view.PageView.{Ghosts}
use Rattle.gx_ports.specs.declared.pages.Place.{Place}
use Rattle.gx_ports.specs.declared.stop.Stop.{Stop}
use Rattle.gx_ports.specs.declared.stop.Stop.TheVariants.{Damaged}
use Rattle.gx_ports.specs.Files.{EndsFile, IsWhole}
use Rattle.gx_ports.specs.PageCalls.{ReadsPages}
use Rattle.gx_ports.specs.Sheets.{Sheets, Ground, IsPast, IsHome, bytes_at}
use Rattle.gx_ports.proofs.PageLemmas.{pages_read_themselves, read_pages_joined}
use Rattle.std.proofs.lemmas.List.{length-replicate}
use Rattle.gx_bnode.specs.Branches.{Branch}
use Rattle.gx_bnode.specs.Page.{first_of, branches_of}
use Rattle.gx_btree.specs.declared.checking.Part.{Part}
use Rattle.gx_btree.specs.declared.checking.Visits.{Visits}
use Rattle.gx_btree.specs.declared.reading.Shape.{Shape}
use Rattle.gx_btree.specs.declared.reading.Shape.TheVariants as shapes
use Rattle.gx_btree.specs.Bplus.{IsBplus, IsTreePage, Shows}
use Rattle.gx_btree.specs.Checking.{root_part, child_parts, HasRest, IsInside, IsPassed, IsVisited, AreBelow, HasNext, pages_of, AreAtParts}
use Rattle.gx_seen.specs.Seen.{IsUnseen, AreAllSeen}
use Rattle.gx_btree.specs.Tree.{In, BplusTree, pages}
use Rattle.gx_btree.proofs.CallLemmas.{ends_after, ends_shown}
use Rattle.gx_btree.proofs.MemberLemmas.{in_left, in_right, in_cases}
use Rattle.gx_btree.proofs.RestLemmas.{to_behind, from_behind, whole_rest, rest_whole, rest_seen, seen_rest, AreSeen, seen_more, seen_few}
use Rattle.gx_btree.proofs.ShapeLemmas.{tree_shape}
use Rattle.gx_btree.proofs.StepLemmas.{top_in}

-- ---- marks of pages

-- ---- one part

-- the page at the top of the next part is one of a tree
next_page : (ground : Ground) (owner : ℕ) (sheets : Sheets) (parts : List Part) (part : Part)
    (high : Option (List ℕ)) (seen : List Bool)
    → HasRest ground owner sheets (parts ++ part ∷ []) high seen
    → IsTreePage ground sheets part.page × IsUnseen sheets owner seen part.page
next_page ground owner sheets parts part high seen rest =
    go parts rest.trees rest.stand (λ q i. i) where
      go : (ws : List Part) (ts : List BplusTree)
          → AreAtParts (bytes_at sheets) (ws ++ part ∷ []) high ts
          → ((q : ℕ) → In q (pages_of ts) → In q (pages_of rest.trees))
          → IsTreePage ground sheets part.page × IsUnseen sheets owner seen part.page
      go [] [] a among = absurd a
      go [] (t ∷ ts) a among =
          let h = a.0 in
          let top : In part.page (pages t) = subst (λ q. In q (pages t)) h.page_is (top_in t) in
          let here = among part.page (in_left part.page (pages t) (pages_of ts) top) in
          let shape = tree_shape (bytes_at sheets) t part.page h.stands h.ordered top in (
            record {
              past = rest.left.past part.page here;
              shape = shape.shape;
              shows = shape.shows;
            },
            (rest.left.owned part.page here, rest.left.unseen part.page here),
          )
      go (w ∷ ws) [] a among = absurd a
      go (w ∷ ws) (t ∷ ts) a among =
          go ws ts a.1 (λ q i. among q (in_right q (pages t) (pages_of ts) i))

rest_same : (ground : Ground) (owner : ℕ) (sheets : Sheets) (parts others : List Part)
    (high bound : Option (List ℕ)) (seen marks : List Bool) → parts ≡ others → high ≡ bound
    → seen ≡ marks → HasRest ground owner sheets parts high seen
    → HasRest ground owner sheets others bound marks
rest_same ground owner sheets parts others high bound seen marks a b c rest =
    subst (λ (ws : List Part). HasRest ground owner sheets ws bound marks) a
    (subst (λ (h : Option (List ℕ)). HasRest ground owner sheets parts h marks) b
    (subst (λ (s : List Bool). HasRest ground owner sheets parts high s) c rest))

children_above : (above : ℕ) (bs : List Branch) (part : Part)
    → In part (map (λ b. record { above = above; page = b.child; low = b.separator }) bs)
    → part.above ≡ above
children_above above [] part i = absurd i
children_above above (b ∷ bs) part i =
    elim i [ inl e ↦ ap (λ (w : Part). w.above) e | inr j ↦ children_above above bs part j ]

pub parts_below : (ground : Ground) (shape : Shape) (bytes : List ℕ) (part : Part)
    (old new : Visits) → IsPassed shape bytes part old new → part.page < ground.size
    → AreBelow ground old.parts.items → AreBelow ground new.parts.items
parts_below ground shapes.Entries bytes part old new passed less below w i =
    below w (subst (In w) passed.parts i)
parts_below ground shapes.Inner bytes part old new passed less below w i =
    elim (in_cases w old.parts.items
    (child_parts part.page part.low (first_of bytes) (branches_of bytes))
    (subst (In w) passed.parts i)) [
      | inl a ↦ below w a
      | inr b ↦ elim b [
        | inl e ↦ (let s = ap (λ (x : Part). x.above) e in omega (arith, s, less))
        | inr c ↦ (let s = children_above part.page (branches_of bytes) w c in
            omega (arith, s, less))
      ]
    ]

module _ {S : Type 0} (g : Ghosts S) (owner : ℕ) (part : Part) (p : S) (old : Visits) where
  pub next_reads : HasNext g p owner part old
      → IsTrue g.tells × IsTreePage (g.ground p) (g.working p) part.page
      × IsUnseen (g.working p) owner old.seen.items part.page
  next_reads n = let h = next_page (g.ground p) owner (g.working p) old.parts.items part old.high
      old.seen.items n.1 in (n.0, h.0, h.1)

  module _ (shape : Shape) (bytes : List ℕ) (shown : Shows shape bytes)
      (read : IsTrue g.tells → bytes_at (g.working p) part.page ≡ bytes)
      (below : part.page < length old.seen.items) where
    pub next_inside : HasNext g p owner part old → IsInside shape bytes part old.high
    next_inside n =
        (to_behind (g.ground p) owner (g.working p) old.parts.items part old.high old.seen.items
        below shape bytes (read n.0) shown n.1).0.inside

    pub visited_of : (mid new : Visits) → IsTrue g.tells → IsPast (g.ground p) part.page
        → IsUnseen (g.working p) owner old.seen.items part.page → IsInside shape bytes part old.high
        → IsPassed shape bytes part old mid
        → new.parts.items ≡ mid.parts.items → new.high ≡ mid.high
        → new.seen.items ≡ slice_set old.seen.items part.page true
        → IsVisited (g.ground p) owner (g.working p) part old new
    visited_of mid new told past unseen inside passed parts high seen =
        let ground = g.ground p in
        let sheets = g.working p in
        let a = parts ∙ passed.parts in
        let b = high ∙ passed.high in
        record {
          rest = (
            (λ r. rest_same ground owner sheets _ new.parts.items _ new.high _ new.seen.items
                (sym a) (sym b) (sym seen)
                (to_behind ground owner sheets old.parts.items part old.high old.seen.items below
                shape bytes (read told) shown r).1),
            (λ r. from_behind ground owner sheets old.parts.items part old.high old.seen.items below
                shape bytes (read told) shown
                (record { owned = unseen.0; past = past; unseen = unseen.1; inside = inside })
                (rest_same ground owner sheets new.parts.items _ new.high _ new.seen.items _ a b
                seen r)),
          );
          past = past;
          unseen = unseen.1;
          seen = seen;
        }

-- ---- all parts

pub no_parts : (parts : List Part) → length parts ≡ 0 → parts ≡ []
no_parts [] none = refl
no_parts (w ∷ ws) none = absurd (omega (arith, none))

pub record IsVisiting {S : Type 0} (g : Ghosts S) (place : Place) (start now : S) (visits : Visits)
    (steps : ℕ) : Type 0 where
  pub reads : ReadsPages g start now
  pub faults : g.faults now ≡ g.faults start
  pub marks : length visits.seen.items ≡ (g.ground start).size
  pub below : AreBelow (g.ground start) visits.parts.items
  pub rest : IsTrue g.tells
      → IsWhole g (IsBplus (g.ground start) place) start ↔ HasRest (g.ground start) place.owner
      (g.working start) visits.parts.items visits.high visits.seen.items
  pub seen : IsTrue g.tells → AreSeen (g.ground start).size visits.seen.items steps

module _ {S : Type 0} (g : Ghosts S) (place : Place) (start : S) where
  abbrev Whole : Type 0
  Whole = IsWhole g (IsBplus (g.ground start) place) start

  pub visiting_starts : (visits : Visits)
      → visits.seen.items ≡ replicate (g.ground start).size false
      → visits.parts.items ≡ root_part place.root ∷ [] → visits.high ≡ None
      → place.root < (g.ground start).size → IsVisiting g place start start visits 0
  visiting_starts visits seen parts high below =
      let ground = g.ground start in
      let sheets = g.working start in
      let none = λ (q : ℕ) (is : slice_get visits.seen.items q ≡ Some true). unmarked ground.size q
      (sym (ap (λ (s : List Bool). slice_get s q) seen) ∙ is) in
      record {
        reads = pages_read_themselves g start;
        faults = refl;
        marks = ap length seen ∙ length-replicate ground.size false;
        below = λ part i. elim (subst (In part) parts i) [
          | inl e ↦ (let s = ap (λ (w : Part). w.above) e in omega (arith, s, below))
          | inr n ↦ absurd n
        ];
        rest = λ told. (
          (λ whole. rest_same ground place.owner sheets (root_part place.root ∷ [])
              visits.parts.items None visits.high visits.seen.items
              visits.seen.items (sym parts) (sym high) refl
              (whole_rest ground place sheets visits.seen.items none whole.0 whole.1.file)),
          (λ r. let w = rest_whole ground place sheets visits.seen.items none
              (rest_same ground place.owner sheets visits.parts.items (root_part place.root ∷ [])
              visits.high None visits.seen.items
              visits.seen.items parts high refl r) in
              (w.0, record { told = told; file = w.1 })),
        );
        seen = λ told. record {
          done = [];
          unique = tt;
          many = refl;
          marked = λ q i. absurd i;
          below = λ q i. absurd i;
        };
      }

  module _ {steps : ℕ} (now : S) (visits : Visits) (v : IsVisiting g place start now visits steps)
    where
      module _ (part : Part) (old : Visits)
          (parts : visits.parts.items ≡ old.parts.items ++ part ∷ [])
          (high : old.high ≡ visits.high)
          (seen : old.seen.items ≡ visits.seen.items) where
        next_there : IsTrue g.tells → Whole
            → HasRest (g.ground start) place.owner (g.working start) (old.parts.items ++ part ∷ [])
            old.high old.seen.items
        next_there told whole =
            rest_same (g.ground start) place.owner (g.working start) visits.parts.items _
            visits.high
            _ visits.seen.items _ parts (sym high) (sym seen) ((v.rest told).0 whole)

        pub visiting_ends : {T : Type 0} (b : S) (r : Result T Stop)
            → EndsFile g (HasNext g now place.owner part old) now b r → EndsFile g Whole start b r
        visiting_ends b r e =
            ends_after g Whole (HasNext g now place.owner part old) start now b r v.faults
            v.reads.keeps.ground
            (λ w. (
              w.1.told,
              subst (λ (x : Ground). HasRest x place.owner (g.working now)
                  (old.parts.items ++ part ∷ []) old.high old.seen.items) (sym v.reads.keeps.ground)
                  (subst (λ (s : Sheets). HasRest (g.ground start) place.owner s
                  (old.parts.items ++ part ∷ []) old.high old.seen.items)
                  (sym v.reads.working) (next_there w.1.told w)),
            )) e

        pub part_below : part.above < (g.ground now).size
        part_below =
            let b = v.below part
            (subst (In part) (sym parts) (in_right part old.parts.items (part ∷ []) (inl refl))) in
            let e = ap (λ (x : Ground). x.size) v.reads.keeps.ground in
            omega (arith, b, e)

        pub old_below : AreBelow (g.ground now) old.parts.items
        old_below w i =
            let b = v.below w (subst (In w) (sym parts) (in_left w old.parts.items (part ∷ []) i))
            in
            let e = ap (λ (x : Ground). x.size) v.reads.keeps.ground in
            omega (arith, b, e)

        pub visiting_goes : (b : S) (new : Visits) → ReadsPages g now b → g.faults b ≡ g.faults now
            → (IsTrue g.tells → IsVisited (g.ground now) place.owner (g.working now) part old new)
            → AreBelow (g.ground now) new.parts.items
            → length new.seen.items ≡ (g.ground now).size
            → IsVisiting g place start b new (steps + 1)
        visiting_goes b new reads faults visited below marks =
            let ground = v.reads.keeps.ground in
            let there = λ (told : IsTrue g.tells). subst
            (λ (x : Ground). IsVisited x place.owner (g.working start) part old new) ground
            (subst (λ (s : Sheets). IsVisited (g.ground now) place.owner s part old new)
            v.reads.working (visited told)) in
            let size = ap (λ (x : Ground). x.size) ground in
            record {
              reads = read_pages_joined g v.reads reads;
              faults = faults ∙ v.faults;
              marks = marks ∙ size;
              below = λ w i. let k = below w i in omega (arith, k, size);
              rest = λ told. (
                (λ whole. (there told).rest.0 (next_there told whole)),
                (λ r. (v.rest told).1 (rest_same (g.ground start) place.owner
                    (g.working start) _ visits.parts.items _ visits.high _
                    visits.seen.items (sym parts) high seen ((there told).rest.1 r))),
              );
              seen = λ told.
                  let t = there told in
                  let less = t.past.below in
                  let many = v.marks in
                  subst (λ (s : List Bool). AreSeen (g.ground start).size s (steps + 1))
                  (sym t.seen)
                  (seen_more (g.ground start).size old.seen.items steps part.page
                  (subst (λ (s : List Bool). AreSeen (g.ground start).size s steps) (sym seen)
                  (v.seen told)) t.unseen less
                  (subst (λ (s : List Bool). part.page < length s) (sym seen)
                  (omega (arith, less, many))));
            }

      pub visiting_all : visits.parts.items ≡ [] → IsTrue g.tells
          → Whole ↔ AreAllSeen (g.working start) place.owner visits.seen.items
      visiting_all none told =
          let ground = g.ground start in
          let sheets = g.working start in (
            (λ whole. rest_seen ground place.owner sheets visits.high visits.seen.items
                (subst (λ (ws : List Part). HasRest ground place.owner sheets ws visits.high
                visits.seen.items) none
                ((v.rest told).0 whole))),
            (λ all. (v.rest told).1
                (subst (λ (ws : List Part). HasRest ground place.owner sheets ws visits.high
                visits.seen.items)
                (sym none) (seen_rest ground place.owner sheets visits.high visits.seen.items
                all))),
          )

      rest_steps : (parts : List Part) → visits.parts.items ≡ parts → (parts ≢ []) → IsTrue g.tells
          → Whole → steps < (g.ground start).size
      rest_steps [] is some told whole = absurd (some refl)
      rest_steps (w ∷ ws) is some told whole =
          seen_few (g.ground start) place.owner (g.working start) w ws visits.high visits.seen.items
          steps (v.seen told)
          (subst (λ (ps : List Part). HasRest (g.ground start) place.owner (g.working start) ps
          visits.high visits.seen.items) is ((v.rest told).0 whole))

      pub visiting_lost : {T : Type 0} (n : ℕ) → (g.ground start).size ≤ steps
          → visits.parts.items ≢ [] → IsHome (g.ground start) n
          → EndsFile {T = T} g Whole start now (Err (Damaged n))
      visiting_lost n over some block =
          ends_shown g Whole start now n v.faults block
          (λ w. let s = rest_steps visits.parts.items refl some w.1.told w in
          omega (arith, s, over))
