-- The first session that bars a command, found by going through the places.
use Rattle.std.proofs.Common.{◌≡◌, ℕ, zero, suc, ◌+◌, ◌-◌, ◌<◌, ◌≤◌, ◌⊎◌, List, [], ◌++◌, map, length, get_or, Bool, true, false, not, ◌&&◌, ◌==◌, cond, Option, Some, None, is_some, find, refl, sym, ap, subst, ◌∙◌, arith, lt-ltb, le-ltb}
use Rattle.std.proofs.lemmas.Bool.{true≢false, cases_lt}
use Rattle.std.proofs.lemmas.List.{append-nil}
use Rattle.std.proofs.Common.{inl, inr}
use Rattle.std.specs.Option.{option_or}
use Rattle.std.specs.List.{range_with_len}
use Rattle.gx_schema.specs.declared.schema.Schema.{Schema}
use Rattle.gx_commands.specs.declared.command.Command.{Command}
use Rattle.gx_sharing.specs.Locks.{Item, file, link, Mode, conflict, lock_of, items_of}
use Rattle.gx_sharing.specs.Sharing.{Sharing, sessions, is_barred, holder_among}
use Rattle.gx_sessions.specs.declared.locks.Lock.{Lock}
use Rattle.gx_sessions.specs.declared.session.SessionState.{SessionState}
use Rattle.gx_sessions.specs.Places.{mode_of, item_at}
use Rattle.gx_sessions.specs.Standings.{lock_in, IsSession, AreSessions, AreWhole}

-- ---- the first number that passes

found_at : (test : ℕ → Bool) (first many k : ℕ) → k < many
    → ((n : ℕ) → first ≤ n → n < first + k → test n ≡ false) → test (first + k) ≡ true
    → find test (range_with_len first many) ≡ Some (first + k)
found_at test first zero k lt none is = absurd (omega arith)
found_at test first (suc many) zero lt none is =
    let e : first + 0 ≡ first = omega arith in
    ap (λ (b : Bool). cond b (Some first) (find test (range_with_len (first + 1) many)))
    (ap test (sym e) ∙ is) ∙ ap (λ (n : ℕ). Some n) (sym e)
found_at test first (suc many) (suc k) lt none is =
    let e : (first + 1) + k ≡ first + suc k = omega arith in
    ap (λ (b : Bool). cond b (Some first) (find test (range_with_len (first + 1) many)))
    (none first (omega arith) (omega arith))
    ∙ found_at test (first + 1) many k (omega (arith, lt))
    (λ n a b. none n (omega (arith, a)) (omega (arith, b, e))) (ap test e ∙ is)
    ∙ ap (λ (n : ℕ). Some n) e

found_none : (test : ℕ → Bool) (first many : ℕ)
    → ((n : ℕ) → first ≤ n → n < first + many → test n ≡ false)
    → find test (range_with_len first many) ≡ None
found_none test first zero none = refl
found_none test first (suc many) none =
    ap (λ (b : Bool). cond b (Some first) (find test (range_with_len (first + 1) many)))
    (none first (omega arith) (omega arith))
    ∙ found_none test (first + 1) many (λ n a b. none n (omega (arith, a)) (omega (arith, b)))

before_it : (test : ℕ → Bool) (k n : ℕ) → ((j : ℕ) → j < k → test (j + 1) ≡ false) → 1 ≤ n
    → n < 1 + k → test n ≡ false
before_it test k n none a b =
    let e : (n - 1) + 1 ≡ n = omega (arith, a) in ap test (sym e) ∙ none (n - 1) (omega (
      arith,
      a,
      b,
    ))

-- of the eight sessions
pub first_session : (test : ℕ → Bool) (k : ℕ) → k < 8
    → ((j : ℕ) → j < k → test (j + 1) ≡ false) → test (k + 1) ≡ true
    → Some (k + 1) ≡ find test sessions
first_session test k lt none is =
    let e : 1 + k ≡ k + 1 = omega arith in
    ap (λ (n : ℕ). Some n) (sym e)
    ∙ sym (found_at test 1 8 k lt (λ n a b. before_it test k n none a b) (ap test e ∙ is))

pub no_session : (test : ℕ → Bool) (k : ℕ) → 8 ≤ k → ((j : ℕ) → j < k → test (j + 1) ≡ false)
    → None ≡ find test sessions
no_session test k le none =
    sym (found_none test 1 8 (λ n a b. before_it test k n none a (omega (arith, b, le))))

bars : (b c : Bool) → b ≡ false → c ≡ true → (not b && c) ≡ true
bars b c e f = λ i. not (e i) && f i

-- what stands in the table is what the session holds
barred_at : (schema : Schema) (p : Sharing) (n : ℕ) (c : Command) (states : List SessionState)
    (state : SessionState) (k place : ℕ) (wanted : Lock) → AreSessions schema p.session states
    → AreWhole schema states → k < 8 → state ≡ get_or states k state
    → place < length schema.files + length schema.links
    → mode_of wanted ≡ lock_of schema c (item_at schema place)
    → is_barred schema p n c (item_at schema place) (k + 1)
    ≡ (not ((k + 1) == n) && conflict (mode_of (lock_in state.locks.items place)) (mode_of wanted))
barred_at schema p n c states state k place wanted are whole lt is within same =
    ap (λ (m : Mode). not ((k + 1) == n) && conflict m (lock_of schema c (item_at schema place)))
    (sym (here.locks place (omega (arith, within, long))))
    ∙ ap (λ (m : Mode). not ((k + 1) == n)
    && conflict (mode_of (lock_in state.locks.items place)) m) (sym same)
  where
    here : IsSession schema (p.session (k + 1)) state
    here = subst (IsSession schema (p.session (k + 1))) (sym is) (are k state lt)

    long : length state.locks.items ≡ length schema.files + length schema.links
    long = ap (λ (s : SessionState). length s.locks.items) is ∙ (whole.each k state lt).places

pub barred_there : (schema : Schema) (p : Sharing) (n : ℕ) (c : Command)
    (states : List SessionState) (state : SessionState) (k place : ℕ) (wanted : Lock)
    → AreSessions schema p.session states → AreWhole schema states → k < 8
    → state ≡ get_or states k state → place < length schema.files + length schema.links
    → mode_of wanted ≡ lock_of schema c (item_at schema place) → ((k + 1) == n) ≡ false
    → conflict (mode_of (lock_in state.locks.items place)) (mode_of wanted) ≡ true
    → is_barred schema p n c (item_at schema place) (k + 1) ≡ true
barred_there schema p n c states state k place wanted are whole lt is within same other conflicts =
    barred_at schema p n c states state k place wanted are whole lt is within same
    ∙ bars ((k + 1) == n) (conflict (mode_of (lock_in state.locks.items place)) (mode_of wanted))
    other conflicts

-- ---- the first item on which one does

pub file_there : (schema : Schema) (i : ℕ) → i < length schema.files → item_at schema i ≡ file i
file_there schema i lt =
    ap (λ (b : Bool). cond b (file i) (link (i - length schema.files)))
    (lt-ltb i (length schema.files) lt)

pub link_there : (schema : Schema) (j : ℕ) → item_at schema (length schema.files + j) ≡ link j
link_there schema j =
    let e : (length schema.files + j) - length schema.files ≡ j = omega arith in
    ap (λ (b : Bool). cond b (file (length schema.files + j))
    (link ((length schema.files + j) - length schema.files)))
    (le-ltb (length schema.files + j) (length schema.files) (omega arith)) ∙ ap link e

or_some : (a b : Option ℕ) → is_some a ≡ true → option_or a b ≡ a
or_some None b e = absurd (true≢false (sym e))
or_some (Some n) b e = refl

or_none : (a b : Option ℕ) → a ≡ None → option_or a b ≡ b
or_none a b e = ap (λ (r : Option ℕ). option_or r b) e

pub none_is : (a : Option ℕ) → is_some a ≡ false → a ≡ None
none_is None e = refl
none_is (Some n) e = absurd (true≢false e)

module _ (schema : Schema) (p : Sharing) (n : ℕ) (c : Command) where
  abbrev barring : Item → Option ℕ
  barring x = find (is_barred schema p n c x) sessions

  among_at : (f : ℕ → Item) (first many k : ℕ) (rest : List Item) → k < many
      → ((j : ℕ) → first ≤ j → j < first + k → barring (f j) ≡ None)
      → is_some (barring (f (first + k))) ≡ true
      → holder_among schema p n c (map f (range_with_len first many) ++ rest)
      ≡ barring (f (first + k))
  among_at f first zero k rest lt none is = absurd (omega arith)
  among_at f first (suc many) zero rest lt none is =
      let e : first + 0 ≡ first = omega arith in
      subst (λ m. is_some (barring (f m)) ≡ true
      → holder_among schema p n c (map f (range_with_len first (suc many)) ++ rest)
      ≡ barring (f m)) (sym e)
      (or_some (barring (f first))
      (holder_among schema p n c (map f (range_with_len (first + 1) many) ++ rest))) is
  among_at f first (suc many) (suc k) rest lt none is =
      let e : (first + 1) + k ≡ first + suc k = omega arith in
      or_none (barring (f first))
      (holder_among schema p n c (map f (range_with_len (first + 1) many) ++ rest))
      (none first (omega arith) (omega arith))
      ∙ among_at f (first + 1) many k rest (omega (arith, lt))
      (λ j a b. none j (omega (arith, a)) (omega (arith, b, e)))
      (ap (λ m. is_some (barring (f m))) e ∙ is)
      ∙ ap (λ m. barring (f m)) e

  among_rest : (f : ℕ → Item) (first many : ℕ) (rest : List Item)
      → ((j : ℕ) → first ≤ j → j < first + many → barring (f j) ≡ None)
      → holder_among schema p n c (map f (range_with_len first many) ++ rest)
      ≡ holder_among schema p n c rest
  among_rest f first zero rest none = refl
  among_rest f first (suc many) rest none =
      or_none (barring (f first))
      (holder_among schema p n c (map f (range_with_len (first + 1) many) ++ rest))
      (none first (omega arith) (omega arith))
      ∙ among_rest f (first + 1) many rest
      (λ j a b. none j (omega (arith, a)) (omega (arith, b)))

  abbrev links_of : List Item
  links_of = map link (range_with_len 0 (length schema.links))

  files_free : ((i : ℕ) → i < length schema.files → barring (item_at schema i) ≡ None)
      → holder_among schema p n c (items_of schema) ≡ holder_among schema p n c links_of
  files_free none =
      among_rest file 0 (length schema.files) links_of
      (λ j a b. ap barring (sym (file_there schema j (omega (arith, b))))
      ∙ none j (omega (arith, b)))

  pub held_there : (place : ℕ) → place < length schema.files + length schema.links
      → ((i : ℕ) → i < place → barring (item_at schema i) ≡ None)
      → is_some (barring (item_at schema place)) ≡ true
      → barring (item_at schema place) ≡ holder_among schema p n c (items_of schema)
  held_there place within none is = go (cases_lt place (length schema.files))
    where
      at_file : place < length schema.files
          → barring (item_at schema place) ≡ holder_among schema p n c (items_of schema)
      at_file lt =
          let e : 0 + place ≡ place = omega arith in
          let here : item_at schema place ≡ file (0 + place) =
          file_there schema place lt ∙ ap file (sym e) in
          ap barring here
          ∙ sym (among_at file 0 (length schema.files) place links_of lt
          (λ j a b. ap barring (sym (file_there schema j (omega (arith, b, lt)))) ∙ none j (omega
          (arith, b)))
          (ap (λ (x : Item). is_some (barring x)) (sym here) ∙ is))

      at_link : length schema.files ≤ place
          → barring (item_at schema place) ≡ holder_among schema p n c (items_of schema)
      at_link le =
          let k : ℕ = place - length schema.files in
          let e : length schema.files + (0 + (place - length schema.files)) ≡ place = omega
          (arith, le) in
          let here : item_at schema place ≡ link (0 + (place - length schema.files)) =
          ap (item_at schema) (sym e) ∙ link_there schema (0 + (place - length schema.files)) in
          ap barring here
          ∙ sym (files_free (λ i lt. none i (omega (arith, lt, le)))
          ∙ ap (holder_among schema p n c) (sym (append-nil links_of))
          ∙ among_at link 0 (length schema.links) (place - length schema.files) [] (omega (
            arith,
            within,
            le,
          ))
          (λ j a b. ap barring (sym (link_there schema j))
          ∙ none (length schema.files + j) (omega (arith, b, le)))
          (ap (λ (x : Item). is_some (barring x)) (sym here) ∙ is))

      go : (place < length schema.files) ⊎ (length schema.files ≤ place)
          → barring (item_at schema place) ≡ holder_among schema p n c (items_of schema)
      go (inl lt) = at_file lt
      go (inr le) = at_link le

  pub held_nowhere : (many : ℕ) → length schema.files + length schema.links ≤ many
      → ((i : ℕ) → i < many → barring (item_at schema i) ≡ None)
      → None ≡ holder_among schema p n c (items_of schema)
  held_nowhere many all none =
      sym (files_free (λ i lt. none i (omega (arith, lt, all)))
      ∙ ap (holder_among schema p n c) (sym (append-nil links_of))
      ∙ among_rest link 0 (length schema.links) []
      (λ j a b. ap barring (sym (link_there schema j))
      ∙ none (length schema.files + j) (omega (arith, b, all))))
