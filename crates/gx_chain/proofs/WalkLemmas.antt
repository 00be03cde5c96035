-- A walk along a chain, to where an entry is to be put.
use Rattle.std.proofs.Common.{◌≡◌, ◌≢◌, inl, inr, ℕ, ◌+◌, ◌<◌, ◌≤◌, List, [], ◌∷◌, ◌++◌, length, Option, Some, None, refl, sym, ap, subst, ◌∙◌, arith, append_assoc, length-append}
use Rattle.std.specs.Prelude.{IsTrue, MatchOption}
use Rattle.std.specs.List.{All, Contains}
use Rattle.std.proofs.lemmas.List.Elements.{Contains-push_cases, Contains-append_left, Contains-append_right, Contains-push}
use Rattle.gx_bytes.specs.declared.page.TheConstants.{NONE}
use Rattle.gx_ports.specs.declared.page_view.PageView.{Ghosts}
use Rattle.gx_ports.specs.PageCalls.{ReadsPages}
use Rattle.gx_ports.specs.Sheets.{Sheets, Ground, IsPast, bytes_at}
use Rattle.gx_slots.specs.Entries.{Entry}
use Rattle.gx_slots.specs.Page.{IsEntryPage}
use Rattle.gx_chain.specs.declared.walk.Trial.{Trial}
use Rattle.gx_chain.specs.declared.walk.Trial.TheVariants.{Replaced, Crowded, Room, Other}
use Rattle.gx_chain.specs.declared.walk.Away.{Away}
use Rattle.gx_chain.specs.Chain.{entries_at, next_at, AreLinked, IsChain, LeadsOn}
use Rattle.gx_chain.specs.Changes.{HasRoomFor}
use Rattle.gx_chain.specs.Seek.{IsPrevious}
use Rattle.gx_chain.specs.Walk.{IsTrial, IsCrowded, IsAwayPast, AreNoted, LackKey, noted}
use Rattle.gx_chain.proofs.ListLemmas.{contains_here, contains_later, contains_middle, contains_none, few}

-- ---- a page at hand, on any walk

-- the walk has come to a page, past so many others
pub record IsAtHand (sheets : Sheets) (all : List ℕ) (done number : ℕ) : Type 0 where
  pub front : List ℕ
  pub rest : List ℕ
  pub is : all ≡ front ++ number ∷ rest
  pub linked : AreLinked sheets number (number ∷ rest)
  pub steps : length front ≡ done

-- the first page is at hand
abbrev pub HasFirst : Sheets → List ℕ → ℕ → Type 0
HasFirst sheets all first = (h : IsAtHand sheets all 0 first) × (h.front ≡ [])

pub hand_first : (sheets : Sheets) (first : ℕ) (all : List ℕ) → first ≢ NONE
    → AreLinked sheets first all → HasFirst sheets all first
hand_first sheets first [] some l = absurd (some l)
hand_first sheets first (q ∷ qs) some l = (
  record {
    front = [];
    rest = qs;
    is = ap (λ n. n ∷ qs) (sym l.0);
    linked = (
      refl,
      subst (λ n. IsEntryPage (bytes_at sheets n)) (sym l.0) l.1,
      subst (λ n. AreLinked sheets (next_at sheets n) qs)
          (sym l.0) l.2,
    );
    steps = refl;
  },
  refl,
)

pub hand_in : (sheets : Sheets) (all : List ℕ) (done number : ℕ) → IsAtHand sheets all done number
    → Contains all number
hand_in sheets all done number h =
    subst (λ (x : List ℕ). Contains x number) (sym h.is) (contains_middle h.front number h.rest)

-- the next page is at hand, and this one is the last of those before it
abbrev pub HasNext : Sheets → List ℕ → ℕ → ℕ → List ℕ → ℕ → Type 0
HasNext sheets all done number front next =
    (k : IsAtHand sheets all (done + 1) next) × (k.front ≡ front ++ number ∷ [])

hand_moved : (sheets : Sheets) (all front rest : List ℕ) (done number next : ℕ) → next ≢ NONE
    → all ≡ front ++ number ∷ rest → length front ≡ done → AreLinked sheets next rest
    → HasNext sheets all done number front next
hand_moved sheets all front [] done number next some is steps l = absurd (some l)
hand_moved sheets all front (q ∷ qs) done number next some is steps l = (
  record {
    front = front ++ number ∷ [];
    rest = qs;
    is = is ∙ sym (append_assoc front (number ∷ []) (q ∷ qs))
        ∙ ap (λ n. (front ++ number ∷ []) ++ n ∷ qs) (sym l.0);
    linked = (
      refl,
      subst (λ n. IsEntryPage (bytes_at sheets n)) (sym l.0) l.1,
      subst (λ n. AreLinked sheets (next_at sheets n) qs)
          (sym l.0) l.2,
    );
    steps = omega (arith, length-append front (number ∷ []), steps);
  },
  refl,
)

pub hand_next : (sheets : Sheets) (all : List ℕ) (done number next : ℕ)
    (h : IsAtHand sheets all done number) → next ≢ NONE → next_at sheets number ≡ next
    → HasNext sheets all done number h.front next
hand_next sheets all done number next h some is =
    hand_moved sheets all h.front h.rest done number next some h.is h.steps
    (subst (λ n. AreLinked sheets n h.rest) is h.linked.2)

none_behind : (ground : Ground) (sheets : Sheets) (rest : List ℕ) (next : ℕ) → next ≡ NONE
    → ground.size ≤ NONE → ((q : ℕ) → Contains rest q → IsPast ground q)
    → AreLinked sheets next rest → rest ≡ []
none_behind ground sheets [] next none few_pages past l = refl
none_behind ground sheets (q ∷ qs) next none few_pages past l = let below =
    (past q (contains_here q qs)).below in let same = l.0 in
    absurd (omega (arith, below, same, none, few_pages))

-- the last page is at hand
pub hand_last : (ground : Ground) (owner : ℕ) (sheets : Sheets) (first : ℕ) (all : List ℕ)
    (done number : ℕ) → IsChain ground owner sheets first all → ground.size ≤ NONE
    → (h : IsAtHand sheets all done number) → next_at sheets number ≡ NONE
    → all ≡ h.front ++ number ∷ []
hand_last ground owner sheets first all done number chain few_pages h none =
    let ended : h.rest ≡ [] =
    none_behind ground sheets h.rest (next_at sheets number) none few_pages
    (λ q c. chain.fit.past q (subst (λ (x : List ℕ). Contains x q) (sym h.is)
    (Contains-append_right h.front (number ∷ h.rest) q (contains_later number q h.rest c))))
    h.linked.2 in
    h.is ∙ ap (λ (x : List ℕ). h.front ++ number ∷ x) ended

-- so many pages can't be on the way
pub hand_ends : (ground : Ground) (owner : ℕ) (sheets : Sheets) (first : ℕ) (all : List ℕ)
    (done number : ℕ) → IsChain ground owner sheets first all → IsAtHand sheets all done number
    → done < ground.size
hand_ends ground owner sheets first all done number chain h =
    let most = few ground.size all chain.fit.once (λ q c. (chain.fit.past q c).below) in
    let long = ap length h.is in
    omega (arith, most, long, length-append h.front (number ∷ h.rest), h.steps)

rest_leads : (ground : Ground) (sheets : Sheets) (next : ℕ) (rest : List ℕ)
    → ((q : ℕ) → Contains rest q → IsPast ground q) → AreLinked sheets next rest
    → LeadsOn ground next
rest_leads ground sheets next [] past l = inl l
rest_leads ground sheets next (q ∷ qs) past l =
    inr (subst (IsPast ground) (sym l.0) (past q (contains_here q qs)))

pub hand_leads : (ground : Ground) (owner : ℕ) (sheets : Sheets) (first : ℕ) (all : List ℕ)
    (done number : ℕ) → IsChain ground owner sheets first all → IsAtHand sheets all done number
    → LeadsOn ground (next_at sheets number)
hand_leads ground owner sheets first all done number chain h =
    rest_leads ground sheets (next_at sheets number) h.rest
    (λ q c. chain.fit.past q (subst (λ (x : List ℕ). Contains x q) (sym h.is)
    (Contains-append_right h.front (number ∷ h.rest) q (contains_later number q h.rest c))))
    h.linked.2

-- a number below the count of pages leads to a page
pub is_some_page : (ground : Ground) (page : ℕ) → ground.size ≤ NONE → IsPast ground page
    → page ≢ NONE
is_some_page ground page few_pages past same = let below = past.below in
    omega (arith, below, few_pages, same)

-- ---- what is noted on the way

pub lack_none : (sheets : Sheets) (key : List ℕ) → LackKey sheets [] key
lack_none sheets key q c = absurd (contains_none q c)

pub lack_more : (sheets : Sheets) (key : List ℕ) (front : List ℕ) (last : ℕ)
    → LackKey sheets front key → All (λ entry. entry.key ≢ key) (entries_at sheets last)
    → LackKey sheets (front ++ last ∷ []) key
lack_more sheets key front last lack here q c = elim (Contains-push_cases front last q c) [
  | inl before ↦ lack q before
  | inr same ↦ subst (λ n. All (λ (e : Entry). e.key ≢ key) (entries_at sheets n)) same here
]

pub none_noted : (sheets : Sheets) (key body : List ℕ) → AreNoted sheets key body [] None None
none_noted sheets key body = record { old_is = lack_none sheets key; room_is = tt }

module _ (sheets : Sheets) (key body : List ℕ) (front : List ℕ) (last : ℕ) where
  old_stays : (old : Option ℕ)
      → MatchOption old (LackKey sheets front key)
      (λ page. Contains front page × IsCrowded (entries_at sheets page) key)
      → All (λ entry. entry.key ≢ key) (entries_at sheets last)
      → MatchOption old (LackKey sheets (front ++ last ∷ []) key)
      (λ page. Contains (front ++ last ∷ []) page × IsCrowded (entries_at sheets page) key)
  old_stays None lack here = lack_more sheets key front last lack here
  old_stays (Some q) old here = (Contains-append_left front (last ∷ []) q old.0, old.1)

  room_stays : (room : Option ℕ)
      → MatchOption room (Unit {0})
      (λ page. Contains front page × HasRoomFor (entries_at sheets page) key body)
      → MatchOption room (Unit {0})
      (λ page. Contains (front ++ last ∷ []) page × HasRoomFor (entries_at sheets page) key body)
  room_stays None room = tt
  room_stays (Some q) room = (Contains-append_left front (last ∷ []) q room.0, room.1)

  room_noted : (old room : Option ℕ) (l : ℕ) → l ≡ last
      → HasRoomFor (entries_at sheets last) key body → AreNoted sheets key body front old room
      → AreNoted sheets key body (front ++ last ∷ [])
      (noted (record { old = old; room = room; last = l }) Room).old
      (noted (record { old = old; room = room; last = l }) Room).room
  room_noted old None l same is n = record {
    old_is = old_stays old n.old_is is.other;
    room_is = (
      subst (Contains (front ++ last ∷ [])) (sym same) (Contains-push front last),
      subst (λ q. HasRoomFor (entries_at sheets q) key body) (sym same) is,
    );
  }
  room_noted old (Some r) l same is n = record {
    old_is = old_stays old n.old_is is.other;
    room_is = room_stays (Some r) n.room_is;
  }

  pub noted_more : (away : Away) (trial : Trial) (new : List Entry) → away.last ≡ last
      → trial ≢ Replaced → IsTrial trial (entries_at sheets last) new key body
      → AreNoted sheets key body front away.old away.room
      → AreNoted sheets key body (front ++ last ∷ []) (noted away trial).old (noted away trial).room
  noted_more away Replaced new same other is n = absurd (other refl)
  noted_more away Crowded new same other is n = record {
    old_is = (
      subst (Contains (front ++ last ∷ [])) (sym same) (Contains-push front last),
      subst (λ q. IsCrowded (entries_at sheets q) key)
          (sym same) is,
    );
    room_is = room_stays away.room n.room_is;
  }
  noted_more away Room new same other is n = room_noted away.old away.room away.last same is n
  noted_more away Other new same other is n = record {
    old_is = old_stays away.old n.old_is is;
    room_is = room_stays away.room n.room_is;
  }

-- ---- the loop

pub record IsNoted (sheets : Sheets) (key body : List ℕ) (all : List ℕ) (done : ℕ) (away : Away) :
    Type 0 where
  pub hand : IsAtHand sheets all done away.last
  pub noted : AreNoted sheets key body hand.front away.old away.room

pub record IsOnWay {S : Type 0} (g : Ghosts S) (first : ℕ) (key body : List ℕ) (start now : S)
    (done : ℕ) (away : Away) : Type 0 where
  pub reads : ReadsPages g start now
  pub faults : g.faults now ≡ g.faults start
  pub past : IsAwayPast (g.ground start) away
  pub way : IsTrue g.tells → (owner : ℕ) (all : List ℕ)
      → IsChain (g.ground start) owner (g.working start) first all
      → IsNoted (g.working start) key body all done away

last_of_room : (old room : Option ℕ) (l : ℕ)
    → (noted (record { old = old; room = room; last = l }) Room).last ≡ l
last_of_room old None l = refl
last_of_room old (Some r) l = refl

pub noted_last : (away : Away) (trial : Trial) → (noted away trial).last ≡ away.last
noted_last away Replaced = refl
noted_last away Crowded = refl
noted_last away Room = last_of_room away.old away.room away.last
noted_last away Other = refl

room_past : (ground : Ground) (old room : Option ℕ) (l : ℕ)
    → IsAwayPast ground (record { old = old; room = room; last = l })
    → IsAwayPast ground (noted (record { old = old; room = room; last = l }) Room)
room_past ground old None l p = record { old = p.old; room = p.last; last = p.last }
room_past ground old (Some r) l p = p

-- what is noted lies past the table
pub noted_past : (ground : Ground) (away : Away) (trial : Trial) → IsAwayPast ground away
    → IsAwayPast ground (noted away trial)
noted_past ground away Replaced p = p
noted_past ground away Crowded p = record { old = p.last; room = p.room; last = p.last }
noted_past ground away Room p = room_past ground away.old away.room away.last p
noted_past ground away Other p = p

-- ---- a walk to an entry

-- the page at hand, and none before it has the key
pub record IsSoughtSo (sheets : Sheets) (key : List ℕ) (all : List ℕ) (done number : ℕ)
    (previous : Option ℕ) : Type 0 where
  pub hand : IsAtHand sheets all done number
  pub lacks : LackKey sheets hand.front key
  pub before : IsPrevious hand.front previous

pub record IsSeeking {S : Type 0} (g : Ghosts S) (first : ℕ) (key : List ℕ) (start now : S)
    (done number : ℕ) (previous : Option ℕ) : Type 0 where
  pub reads : ReadsPages g start now
  pub faults : g.faults now ≡ g.faults start
  pub past : IsPast (g.ground start) number
  pub past_before : MatchOption previous (Unit {0}) (IsPast (g.ground start))
  pub way : IsTrue g.tells → (owner : ℕ) (all : List ℕ)
      → IsChain (g.ground start) owner (g.working start) first all
      → IsSoughtSo (g.working start) key all done number previous
