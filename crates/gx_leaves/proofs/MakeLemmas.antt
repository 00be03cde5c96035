-- Leaves are made one after the other.
use Rattle.std.proofs.Common.{◌≡◌, ◌≢◌, inl, inr, ℕ, ◌+◌, ◌<◌, List, length, sym, ap, subst, ◌∙◌, arith}
use Rattle.std.specs.Prelude.{slice_get, replicate, Some}
use Rattle.std.specs.FinMap.{empty}
use Rattle.std.proofs.lemmas.Bool.{cases_eq, cases_lt}
use Rattle.std.proofs.lemmas.Option.{slice_get_within, same_Some}
use Rattle.gx_ports.specs.declared.kinds.LeafSpec.{LeafSpec}
use Rattle.gx_ports.specs.declared.pages.Place.{Place}
use Rattle.gx_ports.specs.Sheets.{Sheets, Ground}
use Rattle.gx_ports.specs.Files.{IsVacant, OthersStay, ClaimsRoots}
use Rattle.gx_leaves.specs.Kinds.{IsFileAt, map_in}
use Rattle.gx_leaves.specs.Places.{places_of, IsRoomFor, IsLaidOut}
use Rattle.gx_leaves.specs.Wholeness.{maps_of, table_owner, AreLaid}
use Rattle.gx_leaves.specs.Making.{IsAllFree, AreMade}
use Rattle.gx_leaves.proofs.SumLemmas.{map_all_same}
use Rattle.gx_leaves.proofs.PlaceLemmas.{placed, roots_apart, laid_by, place_count}
use Rattle.gx_leaves.proofs.FrameLemmas.{laws_at, file_stays}

module _ (base : Ground) (places : List Place) (laid : IsLaidOut base places) where
  pub none_made : (sheets : Sheets) → IsAllFree base sheets → AreMade base places 0 sheets
  none_made sheets free = record {
    made = λ leaf place below at. absurd (omega (arith, below));
    own = λ page below. free.own page below (omega (arith, below, laid.room.room));
    taken = λ page owner past at. (let e = same_Some 0 owner (sym (free.free page past) ∙ at) in
        omega (arith, e));
    free = λ leaf place behind at page from below. free.free page
        (record {
          past = omega (arith, from, (placed base places laid leaf place at).is.past);
          below = below;
        });
  }

  module _ (count : ℕ) (old : Sheets) (place : Place) (at : slice_get places count ≡ Some place)
      (so_far : AreMade base places count old) (many : length old.owners ≡ base.size) where
    not_mine : (page : ℕ) → slice_get old.owners page ≢ Some place.owner
    not_mine page is =
        let p = placed base places laid count place at in
        let within = slice_get_within old.owners page place.owner is in
        elim (cases_lt page base.tables) [
          | inr past ↦ (let most =
              so_far.taken page place.owner
              (record { past = past; below = omega (arith, within, many) }) is in
              omega (arith, most, p.number))
          | inl below ↦ (let e = same_Some table_owner place.owner (sym (so_far.own page below)
              ∙ is) in omega (arith, e, p.is.most))
        ]

    -- here the next one can be made
    pub next_vacant : IsVacant place old
    next_vacant = record {
      free = λ page from below. so_far.free count place (omega arith) at page from
          (omega (arith, below, (placed base places laid count place at).is.below));
      none = not_mine;
    }

    module _ (new : Sheets) (file : IsFileAt base place new empty)
        (others : OthersStay base place.owner old new) (roots : ClaimsRoots place old new) where
      one_more : (leaf : ℕ) (other : Place) → leaf < count + 1 → slice_get places leaf ≡ Some other
          → IsFileAt base other new empty
      one_more leaf other below there = elim (cases_eq leaf count) [
        | inl e ↦ subst (λ p. IsFileAt base p new empty)
            (same_Some place other (sym at ∙ ap (slice_get places) (sym e) ∙ there)) file
        | inr differ ↦ file_stays base places laid old new count place at others leaf other differ
            there empty (so_far.made leaf other (let d = differ in let b = below in
            omega (arith, d, b)) there)
      ]

      pub next_made : AreMade base places (count + 1) new
      next_made =
          let p = placed base places laid count place at in record {
            made = one_more;
            own = λ page below. roots page
                (λ in_roots. (let first = in_roots.0 in omega (arith, first, below, p.is.past)))
                ∙ so_far.own page below;
            taken = λ page owner past is. elim (cases_eq owner 0) [
              | inl e ↦ omega (arith, e)
              | inr some ↦ elim (cases_eq owner place.owner) [
                | inl e ↦ omega (arith, e, p.number)
                | inr apart ↦ (let most =
                    so_far.taken page owner past (((others owner apart some).owned page).1 is) in
                    omega (arith, most))
              ]
            ];
            free = λ leaf other behind there page from below.
                roots page (λ in_roots. (let last = in_roots.1 in let a =
                roots_apart base places laid count leaf place other (omega (arith, behind)) at
                there in omega (arith, last, a, from)))
                ∙ so_far.free leaf other (omega (arith, behind)) there page from below;
          }

  -- all of them
  pub all_made : (sheets : Sheets) → AreMade base places (length places) sheets
      → AreLaid base places sheets
  all_made sheets are = record {
    table = record { own = are.own; owned = are.taken };
    each = λ leaf place at. (empty, are.made leaf place (slice_get_within places leaf place at) at);
  }

  pub all_empty : (sheets : Sheets) → AreMade base places (length places) sheets
      → maps_of base places sheets ≡ replicate (length places) empty
  all_empty sheets are = map_all_same (λ p. map_in base p sheets) empty places
      (λ leaf place at. (laws_at base places laid leaf place at).one sheets empty
      (are.made leaf place (slice_get_within places leaf place at) at))

-- the same, of the places of these leaves
module _ (base now : Ground) (same : now ≡ base) (specs : List LeafSpec)
    (room : IsRoomFor base specs) (lent places : List Place) (lent_is : lent ≡ places)
    (is : places ≡ places_of base specs) (sheets : Sheets)
    (are : AreMade base lent (length lent) sheets) where
  made : AreMade base places (length places) sheets
  made = subst (λ ps. AreMade base ps (length ps) sheets) lent_is are

  pub made_empty : maps_of now places sheets ≡ replicate (length specs) empty
  made_empty =
      ap (λ b. maps_of b places sheets) same
      ∙ all_empty base places (laid_by base specs places room is) sheets made
      ∙ ap (λ n. replicate n empty) (place_count base specs places is)

  pub made_whole : AreLaid now places sheets
  made_whole = subst (λ b. AreLaid b places sheets) (sym same)
      (all_made base places (laid_by base specs places room is) sheets made)
