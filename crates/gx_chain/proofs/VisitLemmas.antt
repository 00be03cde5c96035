-- The pages of a chain that is checked, visited one after the other.
use Rattle.std.proofs.Common.{◌≡◌, ◌≢◌, inl, inr, ℕ, ◌+◌, ◌<◌, ◌≤◌, Bool, true, false, List, [], ◌∷◌, ◌++◌, length, get_or, replicate, set, Some, refl, sym, ap, subst, ◌∙◌, arith, length-append}
use Rattle.std.specs.Prelude.{slice_get, IsTrue}
use Rattle.std.specs.Global.{Vec}
use Rattle.std.specs.List.{AllPairs, Contains}
use Rattle.std.proofs.lemmas.Bool.{cases_eq, false≢true}
use Rattle.std.proofs.lemmas.List.{get_or_default}
use Rattle.std.proofs.lemmas.List.Elements.{Contains-push_cases, Contains-append_left, Contains-push}
use Rattle.std.proofs.lemmas.List.Quantifiers.{all_pairs_push}
use Rattle.std.proofs.lemmas.Option.{slice_get-get_or}
use Rattle.gx_laws.proofs.ListLemmas.{unmarked}
use Rattle.gx_bytes.specs.declared.page.TheConstants.{NONE}
use Rattle.gx_ports.specs.declared.page_view.PageView.{Ghosts}
use Rattle.gx_ports.specs.PageCalls.{ReadsPages}
use Rattle.gx_ports.specs.Sheets.{Sheets, Ground, IsPast, bytes_at}
use Rattle.gx_slots.specs.Page.{IsEntryPage, next_of}
use Rattle.gx_chain.specs.declared.check.Visits.{Visits}
use Rattle.gx_chain.specs.Chain.{entries_at, next_at, AreLinked, IsChain}
use Rattle.gx_chain.specs.Check.{IsWholeChain, HasWholeChain, has_key, HasAddedKeys, SharesKey, AreVisited, IsNext, IsVisitedChain, HasUnseenChain}
use Rattle.gx_seen.specs.Seen.{IsUnseen, AreAllSeen}
use Rattle.gx_chain.proofs.ChainLemmas.{linked_page, fit_none}
use Rattle.gx_chain.proofs.ListLemmas.{contains_here, contains_later, contains_none, contains_middle, without_off}
use Rattle.gx_chain.proofs.WalkLemmas.{IsAtHand, is_some_page}
use Rattle.gx_chain.proofs.WriteLemmas.{slice_get_set, slice_get_set_same}

-- ---- a page more

pub visited_none : (ground : Ground) (owner : ℕ) (sheets : Sheets) (first : ℕ) (before : List Bool)
    (visits : Visits) → visits.seen.items ≡ before → visits.keys.keys ≡ []
    → AreVisited ground owner sheets first before [] visits
visited_none ground owner sheets first before visits same none = record {
  fit = fit_none ground owner sheets first;
  seen = λ q. (
    λ is. inl (ap (λ (x : List Bool). slice_get x q) (sym same) ∙ is),
    λ c. elim c [
      | inl is ↦ ap (λ (x : List Bool). slice_get x q) same ∙ is
      | inr among ↦ absurd (contains_none q among)
    ],
  );
  keys = λ key. (
    λ is. absurd (false≢true (ap (λ (x : List (Vec ℕ)). has_key x key) (sym none) ∙ is)),
    λ on. absurd (contains_none on.1.page on.1.among),
  );
}

module _ (ground : Ground) (owner : ℕ) (sheets : Sheets) (first : ℕ) (before : List Bool)
    (front : List ℕ) (number : ℕ) (old new : Visits)
    (v : AreVisited ground owner sheets first before front old)
    (unseen : IsUnseen sheets owner old.seen.items number) where
  off_front : Contains front number → ⊥
  off_front c = unseen.1 ((v.seen number).1 (inr c))

  -- another page that was marked still is
  still_marked : new.seen.items ≡ set old.seen.items number true → (q : ℕ) → q ≢ number
      → slice_get old.seen.items q ≡ Some true → slice_get new.seen.items q ≡ Some true
  still_marked marked q d is =
      ap (λ (x : List Bool). slice_get x q) marked ∙ slice_get_set old.seen.items number q true d
      ∙ is

  pub visited_more : IsPast ground number → (number ≢ first → entries_at sheets number ≢ [])
      → HasAddedKeys (entries_at sheets number) old.keys.keys new.keys.keys
      → number < length old.seen.items → new.seen.items ≡ set old.seen.items number true
      → AreVisited ground owner sheets first before (front ++ number ∷ []) new
  visited_more past filled added below marked = record {
    fit = record {
      once = all_pairs_push (λ (a b : ℕ). a ≢ b) front number v.fit.once
          (λ k d less e. off_front (k, less, get_or_default front k number d less ∙ e));
      past = λ q c. elim (Contains-push_cases front number q c)
          [ inl before ↦ v.fit.past q before | inr same ↦ subst (IsPast ground) same past ];
      owned = λ q c. elim (Contains-push_cases front number q c) [
        | inl before ↦ v.fit.owned q before
        | inr same ↦ subst (λ n. slice_get sheets.owners n ≡ Some owner) same unseen.0
      ];
      filled = λ q c d. elim (Contains-push_cases front number q c) [
        | inl before ↦ v.fit.filled q before d
        | inr same ↦ subst (λ n. n ≢ first → entries_at sheets n ≢ []) same filled d
      ];
      apart = λ q r k b c in_q in_r at_q at_r. elim (Contains-push_cases front number q in_q) [
        | inl before ↦ elim (Contains-push_cases front number r in_r) [
          | inl before_too ↦ v.fit.apart q r k b c before before_too at_q at_r
          | inr same ↦ absurd (added.fresh k (
            c,
            subst (λ n. Contains (entries_at sheets n) (record { key = k; body = c }))
                (sym same) at_r,
          )
              ((v.keys k).1 (b, record { page = q; among = before; here = at_q })))
        ]
        | inr same ↦ elim (Contains-push_cases front number r in_r) [
          | inl before ↦
              absurd (added.fresh k (
                b,
                subst (λ n. Contains (entries_at sheets n) (record { key = k; body = b }))
                    (sym same) at_q,
              )
              ((v.keys k).1 (c, record { page = r; among = before; here = at_r })))
          | inr same_too ↦ sym same ∙ same_too
        ]
      ];
    };
    seen = λ q. (
      λ is. elim (cases_eq q number) [
        | inl e ↦ inr (subst (Contains (front ++ number ∷ [])) (sym e) (Contains-push front number))
        | inr d ↦ elim
            ((v.seen q).0 (sym (slice_get_set old.seen.items number q true d)
            ∙ ap (λ (x : List Bool). slice_get x q) (sym marked) ∙ is)) [
              | inl earlier ↦ inl earlier
              | inr here ↦ inr (Contains-append_left front (number ∷ []) q here)
            ]
      ],
      λ c. elim c [
        | inl earlier ↦ still_marked marked q
            (λ e. unseen.1 (subst (λ n. slice_get old.seen.items n ≡ Some true) e
            ((v.seen q).1 (inl earlier))))
            ((v.seen q).1 (inl earlier))
        | inr among ↦ elim (Contains-push_cases front number q among) [
          | inl here ↦ still_marked marked q (λ e. off_front (subst (Contains front) e here))
              ((v.seen q).1 (inr here))
          | inr same ↦ subst (λ n. slice_get new.seen.items n ≡ Some true) same
              (ap (λ (x : List Bool). slice_get x number) marked
              ∙ slice_get_set_same old.seen.items number true (get_or old.seen.items number false)
              (slice_get-get_or old.seen.items number false below))
        ]
      ],
    );
    keys = λ key. (
      λ is. elim ((added.those key).0 is) [
        | inl of ↦ (of.0, record { page = number; among = Contains-push front number; here = of.1 })
        | inr was ↦
            (let on = (v.keys key).0 was in (
              on.0,
              record {
                page = on.1.page;
                among = Contains-append_left front
                    (number ∷ []) on.1.page on.1.among;
                here = on.1.here;
              },
            ))
      ],
      λ on. elim (Contains-push_cases front number on.1.page on.1.among) [
        | inl before ↦ (added.those key).1
            (inr ((v.keys key).1 (
              on.0,
              record {
                page = on.1.page;
                among = before;
                here = on.1.here;
              },
            )))
        | inr same ↦
            (added.those key).1
            (inl (
              on.0,
              subst (λ n. Contains (entries_at sheets n)
                  (record { key = key; body = on.0 })) (sym same) on.1.here,
            ))
      ],
    );
  }

-- ---- what the next page of a chain is

module _ {S : Type 0} (g : Ghosts S) (p : S) (owner first : ℕ) (visits : Visits) (page : ℕ)
    (n : IsNext g p owner first visits page) where
  next_in : Contains n.all page
  next_in = subst (λ (x : List ℕ). Contains x page) (sym n.is) (contains_middle n.front page n.rest)

  next_off : Contains n.front page → ⊥
  next_off c =
      without_off n.front page n.rest (subst (AllPairs (λ (a b : ℕ). a ≢ b)) n.is n.chain.fit.once)
      (Contains-append_left n.front n.rest page c)

  pub next_unseen : IsUnseen (g.working p) owner visits.seen.items page
  next_unseen = (
    n.chain.fit.owned page next_in,
    λ is. elim ((n.visited.seen page).0 is)
        [ inl earlier ↦ n.unseen page next_in earlier | inr here ↦ next_off here ],
  )

  pub next_page : IsEntryPage (bytes_at (g.working p) page)
  next_page = linked_page (g.working p) first n.all page n.chain.linked next_in

  pub next_filled : page ≢ first → entries_at (g.working p) page ≢ []
  next_filled = n.chain.fit.filled page next_in

  pub next_fresh : SharesKey (entries_at (g.working p) page) visits.keys.keys → ⊥
  next_fresh s =
      let on = (n.visited.keys s.key).0 s.shared in
      let in_all = subst (λ (x : List ℕ). Contains x on.1.page) (sym n.is)
      (Contains-append_left n.front (page ∷ n.rest) on.1.page on.1.among) in
      next_off (subst (Contains n.front)
      (n.chain.fit.apart on.1.page page s.key on.0 s.among.0 in_all next_in on.1.here s.among.1)
      on.1.among)

-- ---- pages that lead to another one

abbrev pub LeadTo : Sheets → ℕ → List ℕ → ℕ → Type 0
LeadTo sheets first [] last = first ≡ last
LeadTo sheets first (page ∷ pages) last =
    (first ≡ page) × IsEntryPage (bytes_at sheets page)
    × LeadTo sheets (next_at sheets page) pages last

lead_more : (sheets : Sheets) (first : ℕ) (front : List ℕ) (number next : ℕ)
    → LeadTo sheets first front number → IsEntryPage (bytes_at sheets number)
    → next_at sheets number ≡ next → LeadTo sheets first (front ++ number ∷ []) next
lead_more sheets first [] number next l page is = (l, page, is)
lead_more sheets first (q ∷ qs) number next l page is =
    (l.0, l.1, lead_more sheets (next_at sheets q) qs number next l.2 page is)

lead_ends : (sheets : Sheets) (first : ℕ) (pages : List ℕ) → LeadTo sheets first pages NONE
    → AreLinked sheets first pages
lead_ends sheets first [] l = l
lead_ends sheets first (q ∷ qs) l = (l.0, l.1, lead_ends sheets (next_at sheets q) qs l.2)

-- a chain goes on behind them
abbrev GoesOn : Sheets → List ℕ → ℕ → List ℕ → Type 0
GoesOn sheets front number all =
    (rest : List ℕ) × (all ≡ front ++ number ∷ rest) × AreLinked sheets number (number ∷ rest)

goes_on : (sheets : Sheets) (first : ℕ) (front : List ℕ) (number : ℕ) (all : List ℕ)
    → LeadTo sheets first front number → AreLinked sheets first all → number ≢ NONE
    → ((q : ℕ) → Contains front q → q ≢ NONE) → GoesOn sheets front number all
goes_on sheets first [] number [] l linked some each = absurd (some (sym l ∙ linked))
goes_on sheets first [] number (r ∷ rs) l linked some each =
    let same = sym linked.0 ∙ l in (
      rs,
      ap (λ n. n ∷ rs) same,
      (
        refl,
        subst (λ n. IsEntryPage (bytes_at sheets n)) same linked.1,
        subst (λ n. AreLinked sheets (next_at sheets n) rs) same linked.2,
      ),
    )
goes_on sheets first (q ∷ qs) number [] l linked some each =
    absurd (each q (contains_here q qs) (sym l.0 ∙ linked))
goes_on sheets first (q ∷ qs) number (r ∷ rs) l linked some each =
    let same = sym linked.0 ∙ l.0 in
    let more = goes_on sheets (next_at sheets q) qs number rs l.2
    (subst (λ n. AreLinked sheets (next_at sheets n) rs) same linked.2) some
    (λ x c. each x (contains_later q x qs c)) in
    (more.0, (λ i. same i ∷ more.1 i), more.2)

-- a page begins one chain at most
pub one_chain : (sheets : Sheets) (first : ℕ) (xs ys : List ℕ) → AreLinked sheets first xs
    → AreLinked sheets first ys → ((q : ℕ) → Contains xs q → q ≢ NONE)
    → ((q : ℕ) → Contains ys q → q ≢ NONE) → xs ≡ ys
one_chain sheets first [] [] l m in_xs in_ys = refl
one_chain sheets first [] (y ∷ ys) l m in_xs in_ys =
    absurd (in_ys y (contains_here y ys) (sym m.0 ∙ l))
one_chain sheets first (x ∷ xs) [] l m in_xs in_ys =
    absurd (in_xs x (contains_here x xs) (sym l.0 ∙ m))
one_chain sheets first (x ∷ xs) (y ∷ ys) l m in_xs in_ys =
    let same = sym l.0 ∙ m.0 in
    let more = one_chain sheets (next_at sheets x) xs ys l.2
    (subst (λ n. AreLinked sheets (next_at sheets n) ys) (sym same) m.2)
    (λ q c. in_xs q (contains_later x q xs c)) (λ q c. in_ys q (contains_later y q ys c)) in
    λ i. same i ∷ more i

-- ---- the walk

-- the pages that were visited lead to this one
pub record HasVisited (ground : Ground) (owner : ℕ) (sheets : Sheets) (first : ℕ)
    (before : List Bool) (done number : ℕ) (visits : Visits) : Type 0 where
  pub front : List ℕ
  pub steps : length front ≡ done
  pub led : LeadTo sheets first front number
  pub visited : AreVisited ground owner sheets first before front visits

pub record IsVisiting {S : Type 0} (g : Ghosts S) (owner first : ℕ) (before : List Bool)
    (start now : S) (done number : ℕ) (visits : Visits) : Type 0 where
  pub reads : ReadsPages g start now
  pub faults : g.faults now ≡ g.faults start
  pub past : IsPast (g.ground start) number
  pub len : length visits.seen.items ≡ (g.ground start).size
  pub so_far : IsTrue g.tells
      → HasVisited (g.ground start) owner (g.working start) first before done number visits

module _ (ground : Ground) (owner : ℕ) (sheets : Sheets) (first : ℕ) (before : List Bool)
    (few_pages : ground.size ≤ NONE) where
  pub whole_goes_on : (done number : ℕ) (visits : Visits) → IsPast ground number
      → (h : HasVisited ground owner sheets first before done number visits) → (all : List ℕ)
      → IsChain ground owner sheets first all → GoesOn sheets h.front number all
  whole_goes_on done number visits past h all chain =
      goes_on sheets first h.front number all h.led chain.linked
      (is_some_page ground number few_pages past)
      (λ q c. is_some_page ground q few_pages (h.visited.fit.past q c))

  pub whole_hand : (done number : ℕ) (visits : Visits) → IsPast ground number
      → HasVisited ground owner sheets first before done number visits → (all : List ℕ)
      → IsChain ground owner sheets first all → IsAtHand sheets all done number
  whole_hand done number visits past h all chain =
      let more = whole_goes_on done number visits past h all chain in
      record { front = h.front; rest = more.0; is = more.1; linked = more.2; steps = h.steps }

-- the same pages seen after calls that read
module _ {S : Type 0} (g : Ghosts S) (owner first : ℕ) (before : List Bool) (start now : S)
    (reads : ReadsPages g start now) where
  pub visited_now : (front : List ℕ) (visits : Visits)
      → AreVisited (g.ground start) owner (g.working start) first before front visits
      → AreVisited (g.ground now) owner (g.working now) first before front visits
  visited_now front visits v =
      subst (λ (x : Ground). AreVisited x owner (g.working now) first before front visits)
      (sym reads.keeps.ground)
      (subst (λ (x : Sheets). AreVisited (g.ground start) owner x first before front visits)
      (sym reads.working) v)

  pub visited_then : (front : List ℕ) (visits : Visits)
      → AreVisited (g.ground now) owner (g.working now) first before front visits
      → AreVisited (g.ground start) owner (g.working start) first before front visits
  visited_then front visits v =
      subst (λ (x : Ground). AreVisited x owner (g.working start) first before front visits)
      reads.keeps.ground
      (subst (λ (x : Sheets). AreVisited (g.ground now) owner x first before front visits)
      reads.working v)

  chain_now : (all : List ℕ) → IsChain (g.ground start) owner (g.working start) first all
      → IsChain (g.ground now) owner (g.working now) first all
  chain_now all c =
      subst (λ (x : Ground). IsChain x owner (g.working now) first all) (sym reads.keeps.ground)
      (subst (λ (x : Sheets). IsChain (g.ground start) owner x first all) (sym reads.working) c)

  -- a whole chain has the pages visited and then this one
  pub next_there : (g.ground start).size ≤ NONE → (done number : ℕ) (visits : Visits)
      → IsPast (g.ground start) number
      → (IsTrue g.tells
      → HasVisited (g.ground start) owner (g.working start) first before done number visits)
      → HasUnseenChain g start owner first before → IsNext g now owner first visits number
  next_there few_pages done number visits past so_far has =
      let h = so_far has.told in
      let more = whole_goes_on (g.ground start) owner (g.working start) first before few_pages done
      number visits past h has.pages has.chain in
      record {
        told = has.told;
        before = before;
        front = h.front;
        visited = visited_now h.front visits h.visited;
        all = has.pages;
        chain = chain_now has.pages has.chain;
        unseen = has.unseen;
        rest = more.0;
        is = more.1;
      }

  -- one page more was visited
  pub came_on : (done number next : ℕ) (old new : Visits) (page : List ℕ)
      → HasVisited (g.ground start) owner (g.working start) first before done number old
      → ((front : List ℕ) → AreVisited (g.ground now) owner (g.working now) first before front old
      → AreVisited (g.ground now) owner (g.working now) first before (front ++ number ∷ []) new)
      → page ≡ bytes_at (g.working now) number → IsEntryPage page → next_of page ≡ next
      → HasVisited (g.ground start) owner (g.working start) first before (done + 1) next new
  came_on done number next old new page h visited bytes is_page is_next =
      let read = bytes ∙ ap (λ (x : Sheets). bytes_at x number) reads.working in
      record {
        front = h.front ++ number ∷ [];
        steps = omega (arith, length-append h.front (number ∷ []), h.steps);
        led = lead_more (g.working start) first h.front number next h.led
            (subst IsEntryPage read is_page) (sym (ap next_of read) ∙ is_next);
        visited = visited_then (h.front ++ number ∷ []) new
            (visited h.front (visited_now h.front old h.visited));
      }

-- the last page was visited
pub came_to_end : (ground : Ground) (owner : ℕ) (sheets : Sheets) (first : ℕ) (before : List Bool)
    (done : ℕ) (visits : Visits) → ground.size ≤ NONE
    → HasVisited ground owner sheets first before done NONE visits
    → IsVisitedChain ground owner sheets first before visits
came_to_end ground owner sheets first before done visits few_pages h =
    let linked = lead_ends sheets first h.front h.led in
    record {
      pages = h.front;
      chain = record { linked = linked; fit = h.visited.fit };
      only = λ other c. one_chain sheets first other h.front c.linked linked
          (λ r i. is_some_page ground r few_pages (c.fit.past r i))
          (λ r i. is_some_page ground r few_pages (h.visited.fit.past r i));
      seen = h.visited.seen;
      keys = h.visited.keys;
    }

-- ---- the whole

-- no page was marked before
module _ (ground : Ground) (owner : ℕ) (sheets : Sheets) (first count : ℕ) (before : List Bool)
    (visits : Visits) (none : before ≡ replicate count false)
    (h : IsVisitedChain ground owner sheets first before visits) where
  unmarked_before : (q : ℕ) → slice_get before q ≢ Some true
  unmarked_before q is = unmarked count q (ap (λ (x : List Bool). slice_get x q) (sym none) ∙ is)

  pub whole_chain : AreAllSeen sheets owner visits.seen.items
      → IsWholeChain ground owner sheets first
  whole_chain all = record {
    pages = h.pages;
    chain = h.chain;
    owned = λ q o. elim ((h.seen q).0 (all q o))
        [ inl earlier ↦ absurd (unmarked_before q earlier) | inr here ↦ here ];
  }

  pub whole_seen : IsWholeChain ground owner sheets first
      → AreAllSeen sheets owner visits.seen.items
  whole_seen w q o =
      (h.seen q).1
      (inr (subst (λ (x : List ℕ). Contains x q) (h.only w.pages w.chain) (w.owned q o)))

-- the chain of a whole owner isn't seen yet
pub whole_unseen : {S : Type 0} (g : Ghosts S) (p : S) (owner first count : ℕ) (before : List Bool)
    → before ≡ replicate count false → HasWholeChain g p owner first
    → HasUnseenChain g p owner first before
whole_unseen g p owner first count before none has = record {
  told = has.told;
  pages = has.whole.pages;
  chain = has.whole.chain;
  unseen = λ q c is. unmarked count q (ap (λ (x : List Bool). slice_get x q) (sym none) ∙ is);
}
