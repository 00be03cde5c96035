-- What putting an entry makes of a chain.
use Rattle.std.proofs.Common.{◌≡◌, ◌≢◌, ◌⊎◌, inl, inr, ℕ, ◌<◌, ◌≤◌, List, [], ◌∷◌, ◌++◌, length, Some, None, refl, sym, ap, subst, ◌∙◌, arith}
use Rattle.std.specs.Prelude.{slice_get, Option}
use Rattle.std.specs.List.{All, AllPairs, Contains, insert, remove}
use Rattle.std.proofs.lemmas.Option.{same_Some, MatchOption-at_some}
use Rattle.std.proofs.lemmas.Bool.{cases_eq}
use Rattle.std.proofs.lemmas.List.Edits.{length-insert, length-remove}
use Rattle.std.proofs.lemmas.List.Elements.{Contains-push_cases, Contains-append_left, Contains-push, Contains-get_or}
use Rattle.std.proofs.lemmas.List.Quantifiers.{all_pairs_push}
use Rattle.gx_bytes.specs.declared.page.TheConstants.{NONE}
use Rattle.gx_ports.specs.Sheets.{Sheets, Ground, IsPast, IsClaimed, bytes_at}
use Rattle.gx_ports.proofs.PageLemmas.{bytes_same}
use Rattle.gx_slots.specs.Entries.{Entry, AreDistinct}
use Rattle.gx_slots.specs.Page.{IsEntryPage, entries_of, next_of}
use Rattle.gx_slots.proofs.PageLemmas.{page_of}
use Rattle.gx_chain.specs.Chain.{entries_at, next_at, AreLinked, IsOn, IsChain}
use Rattle.gx_chain.specs.Changes.{HasKey, IsRewritten, IsTaken, IsAdded, IsAppended, IsPutIn, HasRoomFor, HasRoom}
use Rattle.gx_chain.specs.Walk.{IsDropped, IsCrowded, IsExchanged, LackKey, HasOld, AreNoted}
use Rattle.gx_chain.proofs.ListLemmas.{contains_none, contains_cases, pairs_last}
use Rattle.gx_chain.proofs.EntryLemmas.{less_to, less_from, more_to, more_from, no_entry, entry_there}
use Rattle.gx_chain.proofs.ChainLemmas.{linked_page, linked_push, same_on, same_on_back, same_chain, rewritten_chain, rewritten_on}
use Rattle.gx_chain.proofs.WriteLemmas.{slice_get_set, slice_get_set_same}

-- the entries of a page of a chain have different keys
pub page_distinct : (sheets : Sheets) (page : ℕ) → IsEntryPage (bytes_at sheets page)
    → AreDistinct (entries_at sheets page)
page_distinct sheets page is = (page_of (bytes_at sheets page) is).distinct

not_empty : {A : Type 0} (xs : List A) → 0 < length xs → xs ≢ []
not_empty xs some none = let e = ap length none in omega (arith, some, e)

inserted : (es : List Entry) (i : ℕ) (e : Entry) → i ≤ length es → insert es i e ≢ []
inserted es i e within =
    not_empty (insert es i e) (let l = length-insert es i e within in omega (arith, l))

-- ---- an old entry is taken away

module _ (ground : Ground) (owner first : ℕ) (key : List ℕ) (s t : Sheets) (pages : List ℕ)
    (chain : IsChain ground owner s first pages) where
  pub dropped_none : t ≡ s → LackKey s pages key → IsDropped ground owner first key s t pages
  dropped_none same lack = record {
    chain = subst (λ x. IsChain ground owner x first pages) (sym same) chain;
    entries = λ k b. (
      λ on. (let here = subst (λ x. IsOn x pages k b) same on in (
        λ e. no_entry (entries_at s here.page) key b (lack here.page here.among)
            (subst (λ (n : List ℕ). Contains (entries_at s here.page)
            (record { key = n; body = b })) e here.here),
        here,
      )),
      λ on. subst (λ x. IsOn x pages k b) (sym same) on.1,
    );
    owners = ap (λ x. x.owners) same;
    same = λ q _. ap (λ x. bytes_at x q) same;
    beside = λ q _. ap (λ x. slice_get x.bytes q) same;
  }

  pub dropped_at : (p : ℕ) → Contains pages p → (taken : IsTaken p key s t)
      → (p ≢ first → remove (entries_at s p) taken.place ≢ [])
      → IsDropped ground owner first key s t pages
  dropped_at p among taken full =
      let w = taken.rewritten in
      let es = entries_at s p in
      let distinct = page_distinct s p (linked_page s first pages p chain.linked among) in
      let held = entry_there es taken.place key taken.within taken.there in
      let on = rewritten_on ground owner s t first pages p (remove es taken.place) chain among w
      (λ _ _. ⊥) key
      (λ k b c. inr (less_to es taken.place key distinct taken.within taken.there
      (record { key = k; body = b }) c))
      (λ k b c. elim c [
        | inl never ↦ absurd never
        | inr old ↦ less_from es taken.place key distinct taken.within taken.there
            (record { key = k; body = b }) old
      ])
      (λ q b d in_q c. d (chain.fit.apart q p key b held.0 in_q among c held.1)) in
      record {
        chain =
            rewritten_chain ground owner s t first pages p (remove es taken.place) chain among w
            full
            (λ k b c. inl (
              b,
              (less_to es taken.place key distinct taken.within taken.there
                  (record { key = k; body = b }) c).1,
            ));
        entries = λ k b. (
          λ o. elim ((on k b).0 o) [ inl never ↦ absurd never | inr r ↦ r ],
          λ o. (on k b).1 (inr o),
        );
        owners = w.owners;
        same = λ q lack. bytes_same s t q
            (w.others q (λ e. no_entry (entries_at s p) key held.0
            (subst (λ n. All (λ (x : Entry). x.key ≢ key) (entries_at s n)) e lack)
            held.1));
        beside = λ q off. w.others q (λ e. off (subst (Contains pages) (sym e) among));
      }

  pub dropped_some : (p : ℕ) → Contains pages p → IsCrowded (entries_at s p) key → IsTaken p key s t
      → IsDropped ground owner first key s t pages
  dropped_some p among crowded taken =
      let short = length-remove (entries_at s p) taken.place taken.within in
      let more = crowded.more in
      dropped_at p among taken
      (λ _. not_empty (remove (entries_at s p) taken.place) (omega (arith, short, more)))

pub has_key : (ground : Ground) (owner first : ℕ) (key : List ℕ) (s : Sheets) (pages : List ℕ)
    → IsChain ground owner s first pages → (p : ℕ) (old : Option ℕ) → old ≡ Some p
    → HasOld s key pages old → HasKey s p key
has_key ground owner first key s pages chain p old is has =
    let there = MatchOption-at_some (LackKey s pages key)
    (λ page. Contains pages page × IsCrowded (entries_at s page) key) p is has in
    let held = entry_there (entries_at s p) there.1.place key there.1.within there.1.there in
    record
    { is_page = linked_page s first pages p chain.linked there.0; body = held.0; here = held.1 }

-- the entry takes the place of the old one
pub put_here : (ground : Ground) (owner first : ℕ) (key body : List ℕ) (s t : Sheets)
    (pages : List ℕ) (p : ℕ) (es : List Entry) → IsChain ground owner s first pages
    → Contains pages p
    → IsExchanged (entries_at s p) es key body → IsRewritten p (next_at s p) es s t
    → IsPutIn ground owner first key body s t pages
put_here ground owner first key body s t pages p es chain among ex w =
    let old = entries_at s p in
    let e : Entry = record { key = key; body = body } in
    let distinct = page_distinct s p (linked_page s first pages p chain.linked among) in
    let held = entry_there old ex.place key ex.within ex.there in
    let short = length-remove old ex.place ex.within in
    let within : ex.place ≤ length (remove old ex.place) =
    (let i = ex.within in omega (arith, short, i)) in
    let to : (k b : List ℕ) → Contains es (record { key = k; body = b }) → ((k ≡ key) × (b ≡ body))
    ⊎ ((k ≢ key) × Contains old (record { key = k; body = b })) =
    λ k b c. elim (more_to (remove old ex.place) ex.place e (record { key = k; body = b })
    (subst (λ (x : List Entry). Contains x (record { key = k; body = b })) ex.is c)) [
      | inl same ↦ inl (sym (ap (λ (x : Entry). x.key) same), sym (ap (λ (x : Entry). x.body) same))
      | inr less ↦ inr (less_to old ex.place key distinct ex.within ex.there
          (record { key = k; body = b }) less)
    ] in
    record {
      pages = pages;
      chain =
          rewritten_chain ground owner s t first pages p es chain among w
          (λ _ none. inserted (remove old ex.place) ex.place e within (sym ex.is ∙ none))
          (λ k b c. elim (to k b c) [
            | inl same ↦ inl (
              held.0,
              subst (λ (n : List ℕ). Contains old (record { key = n; body = held.0 }))
                  (sym same.0) held.1,
            )
            | inr less ↦ inl (b, less.1)
          ]);
      entries =
          rewritten_on ground owner s t first pages p es chain among w
          (λ k b. (k ≡ key) × (b ≡ body)) key to
          (λ k b c. subst (λ (x : List Entry). Contains x (record { key = k; body = b }))
          (sym ex.is)
          (more_from (remove old ex.place) ex.place e (record { key = k; body = b }) (elim c [
            | inl same ↦ inl (λ j. record { key = sym same.0 j; body = sym same.1 j })
            | inr less ↦ inr (less_from old ex.place key distinct ex.within ex.there
                (record { key = k; body = b }) less)
          ])))
          (λ q b d in_q c. d (chain.fit.apart q p key b held.0 in_q among c held.1));
      beside = record {
        owners = λ q off _. ap (λ (o : List ℕ). slice_get o q) w.owners;
        bytes = λ q past off _. w.others q (λ f. off (subst (Contains pages) (sym f) among));
        came = λ q c. inl c;
        left = λ q c. inl c;
      };
    }

-- the key stands on no page of a chain from which it was taken
module _ (ground : Ground) (owner first : ℕ) (key body : List ℕ) (s u t : Sheets) (pages : List ℕ)
    (d : IsDropped ground owner first key s u pages) where
  gone : (q : ℕ) (b : List ℕ) → Contains pages q
      → Contains (entries_at u q) (record { key = key; body = b }) → ⊥
  gone q b in_q c = ((d.entries key b).0 (record { page = q; among = in_q; here = c })).0 refl

  other_key : (q : ℕ) (k b : List ℕ) → Contains pages q
      → Contains (entries_at u q) (record { key = k; body = b }) → k ≢ key
  other_key q k b in_q c = ((d.entries k b).0 (record { page = q; among = in_q; here = c })).0

  -- the entry goes to a page with room
  pub put_there : (p : ℕ) → Contains pages p → IsAdded p key body u t
      → IsPutIn ground owner first key body s t pages
  put_there p among w =
      let old = entries_at u p in
      let e : Entry = record { key = key; body = body } in
      let es = insert old (length old) e in
      let to : (k b : List ℕ) → Contains es (record { key = k; body = b })
      → ((k ≡ key) × (b ≡ body))
      ⊎ ((k ≢ key) × Contains old (record { key = k; body = b })) =
      λ k b c. elim (more_to old (length old) e (record { key = k; body = b }) c) [
        | inl same ↦ inl (
          sym (ap (λ (x : Entry). x.key) same),
          sym (ap (λ (x : Entry). x.body) same),
        )
        | inr there ↦ inr (other_key p k b among there, there)
      ] in
      let on = rewritten_on ground owner u t first pages p es d.chain among w (λ k b. (k ≡ key)
      × (b ≡ body)) key to
      (λ k b c. more_from old (length old) e (record { key = k; body = b }) (elim c [
        | inl same ↦ inl (λ j. record { key = sym same.0 j; body = sym same.1 j })
        | inr there ↦ inr there.1
      ]))
      (λ q b _ in_q c. gone q b in_q c) in
      record {
        pages = pages;
        chain =
            rewritten_chain ground owner u t first pages p es d.chain among w
            (λ _. inserted old (length old) e (omega arith))
            (λ k b c. elim (to k b c) [
              | inl same ↦
                  inr (λ q b' in_q c'. gone q b' in_q
                  (subst (λ (n : List ℕ). Contains (entries_at u q) (record { key = n; body = b' }))
                  same.0 c'))
              | inr there ↦ inl (b, there.1)
            ]);
        entries = λ k b. (
          λ o. elim ((on k b).0 o)
              [ inl put ↦ inl put | inr r ↦ inr (r.0, ((d.entries k b).0 r.1).1) ],
          λ o. (on k b).1 (elim o [ inl put ↦ inl put | inr r ↦ inr (r.0, (d.entries k b).1 r) ]),
        );
        beside = record {
          owners = λ q off _. ap (λ (o : List ℕ). slice_get o q) (w.owners ∙ d.owners);
          bytes = λ q past off _. w.others q (λ f. off (subst (Contains pages) (sym f) among))
              ∙ d.beside q off;
          came = λ q c. inl c;
          left = λ q c. inl c;
        };
      }

-- a page with room has it still once an old entry was taken elsewhere
pub still_room : (ground : Ground) (owner first : ℕ) (key body : List ℕ) (s u : Sheets)
    (pages : List ℕ) → IsDropped ground owner first key s u pages → (r : ℕ) → Contains pages r
    → HasRoomFor (entries_at s r) key body → HasRoom u r key body
still_room ground owner first key body s u pages d r among room = record {
  is_page = linked_page u first pages r d.chain.linked among;
  room =
      subst (λ (x : List ℕ). HasRoomFor (entries_of x) key body) (sym (d.same r room.other)) room;
}

-- the page with room
pub room_there : (sheets : Sheets) (key body : List ℕ) (pages : List ℕ) (old room : Option ℕ)
    (r : ℕ) → AreNoted sheets key body pages old room → room ≡ Some r
    → Contains pages r × HasRoomFor (entries_at sheets r) key body
room_there sheets key body pages old room r noted is =
    MatchOption-at_some (Unit {0})
    (λ page. Contains pages page × HasRoomFor (entries_at sheets page) key body) r is noted.room_is

-- the last page is one of them
pub last_among : (pages front : List ℕ) (last : ℕ) → pages ≡ front ++ last ∷ []
    → Contains pages last
last_among pages front last ended =
    subst (λ (x : List ℕ). Contains x last) (sym ended) (Contains-push front last)

-- ---- a fresh page is hung behind the last one

module _ (ground : Ground) (owner first : ℕ) (s u : Sheets) (pages : List ℕ) (fresh : ℕ)
    (chain : IsChain ground owner s first pages) (some : 1 ≤ owner)
    (claimed : IsClaimed fresh owner ground s u) where
  pub fresh_off : Contains pages fresh → ⊥
  fresh_off c = let same : owner ≡ 0 =
      same_Some owner 0 (sym (chain.fit.owned fresh c) ∙ claimed.was_free) in
      omega (arith, same, some)

  pub claimed_same : (q : ℕ) → Contains pages q → bytes_at u q ≡ bytes_at s q
  claimed_same q c = bytes_same s u q (claimed.owned.bytes q (chain.fit.past q c).past)

  pub claimed_chain : IsChain ground owner u first pages
  claimed_chain = same_chain ground owner first s u pages claimed_same
      (λ q c. ap (λ (o : List ℕ). slice_get o q) claimed.owned.owners
      ∙ slice_get_set s.owners fresh q owner (λ e. fresh_off (subst (Contains pages) e c))
      ∙ chain.fit.owned q c) chain

  pub claimed_old : (key : List ℕ) (old : Option ℕ) → HasOld s key pages old
      → HasOld u key pages old
  claimed_old key None lack =
      λ q c. subst (λ (x : List ℕ). All (λ (e : Entry). e.key ≢ key) (entries_of x))
      (sym (claimed_same q c)) (lack q c)
  claimed_old key (Some p) old = (
    old.0,
    subst (λ (x : List ℕ). IsCrowded (entries_of x) key) (sym (claimed_same p old.0)) old.1,
  )

  module _ (key body : List ℕ) (v t : Sheets) (d : IsDropped ground owner first key u v pages)
      (front : List ℕ) (last : ℕ) (ended : pages ≡ front ++ last ∷ [])
      (a : IsAppended last fresh key body v t) where
    last_in : Contains pages last
    last_in = subst (λ (x : List ℕ). Contains x last) (sym ended) (Contains-push front last)

    last_apart : last ≢ fresh
    last_apart e = fresh_off (subst (Contains pages) e last_in)

    bytes_stay : (q : ℕ) → q ≢ last → q ≢ fresh → slice_get t.bytes q ≡ slice_get v.bytes q
    bytes_stay q d e = a.hung.others q d ∙ a.begun.others q e

    at_page : (q : ℕ) → Contains pages q → entries_at t q ≡ entries_at v q
    at_page q c = elim (cases_eq q last) [
      | inl e ↦ ap (entries_at t) e ∙ a.hung.entries_are ∙ ap (entries_at v) (sym e)
      | inr d ↦ ap entries_of
          (bytes_same v t q (bytes_stay q d (λ e. fresh_off (subst (Contains pages) e c))))
    ]

    at_fresh : entries_at t fresh ≡ record { key = key; body = body } ∷ []
    at_fresh =
        ap entries_of (bytes_same a.between t fresh (a.hung.others fresh (λ e. last_apart (sym e))))
        ∙ a.begun.entries_are

    fresh_page : IsEntryPage (bytes_at t fresh) × (next_at t fresh ≡ NONE)
    fresh_page =
        let same = bytes_same a.between t fresh (a.hung.others fresh (λ e. last_apart (sym e))) in
        (subst IsEntryPage (sym same) a.begun.is_page, ap next_of same ∙ a.begun.next_is)

    to_old : (q : ℕ) (e : Entry) → Contains pages q → Contains (entries_at t q) e
        → Contains (entries_at v q) e
    to_old q e c here = subst (λ (x : List Entry). Contains x e) (at_page q c) here

    on_fresh : (q : ℕ) (k b : List ℕ) → fresh ≡ q
        → Contains (entries_at t q) (record { key = k; body = b }) → (k ≡ key) × (b ≡ body)
    on_fresh q k b same here =
        elim (contains_cases (record { key = key; body = body }) (record { key = k; body = b }) []
        (subst (λ (x : List Entry). Contains x (record { key = k; body = b }))
        (ap (entries_at t) (sym same) ∙ at_fresh) here)) [
          | inl e ↦ (sym (ap (λ (x : Entry). x.key) e), sym (ap (λ (x : Entry). x.body) e))
          | inr none ↦ absurd (contains_none (record { key = k; body = b }) none)
        ]

    absent : (q : ℕ) (k b : List ℕ) → Contains pages q → k ≡ key
        → Contains (entries_at t q) (record { key = k; body = b }) → ⊥
    absent q k b c same here =
        ((d.entries k b).0
        (record { page = q; among = c; here = to_old q (record { key = k; body = b }) c here })).0
        same

    appended_chain : IsChain ground owner t first (pages ++ fresh ∷ [])
    appended_chain = record {
      linked = subst (λ (x : List ℕ). AreLinked t first (x ++ fresh ∷ [])) (sym ended)
          (linked_push v t first front last fresh
          (λ q c page. (
          let off : q ≢ last = λ e. pairs_last front last
          (subst (AllPairs (λ a b. a ≢ b)) ended chain.fit.once) (subst (Contains front) e c) in
          let new : q ≢ fresh = λ e. fresh_off
          (subst (Contains pages) e
          (subst (λ (x : List ℕ). Contains x q) (sym ended)
          (Contains-append_left front (last ∷ []) q c))) in
          let same = bytes_same v t q (bytes_stay q off new) in
          (subst IsEntryPage (sym same) page, ap next_of same)))
          a.hung.is_page a.hung.next_is fresh_page.0 fresh_page.1
          (subst (AreLinked v first) ended d.chain.linked));
      fit = record {
        once = all_pairs_push (λ a b. a ≢ b) pages fresh chain.fit.once
            (λ k d below e. fresh_off (subst (Contains pages) e (Contains-get_or pages k d below)));
        past = λ q c. elim (Contains-push_cases pages fresh q c)
            [ inl old ↦ chain.fit.past q old | inr e ↦ subst (IsPast ground) e claimed.past ];
        owned =
            λ q c. ap (λ (o : List ℕ). slice_get o q) (a.hung.owners ∙ a.begun.owners)
            ∙ elim (Contains-push_cases pages fresh q c) [
              | inl old ↦ d.chain.fit.owned q old
              | inr e ↦ subst (λ n. slice_get v.owners n ≡ Some owner) e
                  (ap (λ (o : List ℕ). slice_get o fresh) (d.owners ∙ claimed.owned.owners)
                  ∙ slice_get_set_same s.owners fresh owner 0 claimed.was_free)
            ];
        filled = λ q c f none. elim (Contains-push_cases pages fresh q c) [
          | inl old ↦ d.chain.fit.filled q old f (sym (at_page q old) ∙ none)
          | inr e ↦ not_empty (record { key = key; body = body } ∷ []) (omega arith) (sym at_fresh
              ∙ ap (entries_at t) e ∙ none)
        ];
        apart = λ q r k b c in_q in_r at_q at_r. elim (Contains-push_cases pages fresh q in_q) [
          | inl old_q ↦ elim (Contains-push_cases pages fresh r in_r) [
            | inl old_r ↦ d.chain.fit.apart q r k b c old_q old_r (to_old q _ old_q at_q)
                (to_old r _ old_r at_r)
            | inr e ↦ absurd (absent q k b old_q (on_fresh r k c e at_r).0 at_q)
          ]
          | inr e ↦ elim (Contains-push_cases pages fresh r in_r) [
            | inl old_r ↦ absurd (absent r k c old_r (on_fresh q k b e at_q).0 at_r)
            | inr f ↦ sym e ∙ f
          ]
        ];
      };
    }

    pub put_behind : IsPutIn ground owner first key body s t pages
    put_behind = record {
      pages = pages ++ fresh ∷ [];
      chain = appended_chain;
      entries = λ k b. (
        λ on. elim (Contains-push_cases pages fresh on.page on.among) [
          | inl old ↦ (let was = (d.entries k b).0
              (record { page = on.page; among = old; here = to_old on.page _ old on.here }) in
              inr (was.0, same_on_back ground owner first s u pages claimed_same k b was.1))
          | inr e ↦ inl (on_fresh on.page k b e on.here)
        ],
        λ o. elim o [
          | inl put ↦ record {
            page = fresh;
            among = Contains-push pages fresh;
            here = subst (λ (x : List Entry). Contains x (record { key = k; body = b }))
                (sym at_fresh)
                (0, omega arith, λ j. record { key = sym put.0 j; body = sym put.1 j });
          }
          | inr r ↦ (let was = (d.entries k b).1
              (r.0, same_on ground owner first s u pages claimed_same k b r.1) in
              record {
                page = was.page;
                among = Contains-append_left pages (fresh ∷ []) was.page was.among;
                here = subst (λ (x : List Entry). Contains x (record { key = k; body = b }))
                    (sym (at_page was.page was.among)) was.here;
              })
        ],
      );
      beside = record {
        owners =
            λ q off out. ap (λ (o : List ℕ). slice_get o q)
            (a.hung.owners ∙ a.begun.owners ∙ d.owners ∙ claimed.owned.owners)
            ∙ slice_get_set s.owners fresh q owner
            (λ e. out (subst (Contains (pages ++ fresh ∷ [])) (sym e) (Contains-push pages fresh)));
        bytes =
            λ q past off out. bytes_stay q (λ e. off (subst (Contains pages) (sym e) last_in))
            (λ e. out (subst (Contains (pages ++ fresh ∷ [])) (sym e) (Contains-push pages fresh)))
            ∙ d.beside q off ∙ claimed.owned.bytes q past;
        came = λ q c. elim (Contains-push_cases pages fresh q c) [
          | inl old ↦ inl old
          | inr e ↦ inr
              (subst (λ n. slice_get s.owners n ≡ Some 0) e claimed.was_free)
        ];
        left = λ q c. inl (Contains-append_left pages (fresh ∷ []) q c);
      };
    }
