-- The records of an owner's members, and the steps that finding them takes.
use Rattle.std.proofs.Common.{[], ◌≡◌, ℕ, zero, suc, ◌+◌, ◌*◌, ◌<◌, ◌≤◌, List, ◌∷◌, ◌++◌, length, map, drop, get_or, cond, Bool, true, false, Option, Some, None, inl, inr, refl, sym, ap, subst, ◌∙◌, arith, append_assoc, append-nil}
use Rattle.std.specs.Prelude.{T, filter, flat_map, ◌||◌, ◌==◌, not, is_some, IsTrue}
use Rattle.std.specs.List.{list_any}
use Rattle.std.specs.Option.{option_map}
use Rattle.std.specs.declared.cmp.Ordering.TheVariants.{Less}
use Rattle.std.specs.FinMap as fin
use Rattle.std.proofs.Math.Bool.{and_comm}
use Rattle.std.proofs.Math.Dec.{eqb-suc-zero}
use Rattle.std.proofs.Math.Nat.{mul-le-mul, mul-le-mul_right}
use Rattle.std.proofs.lemmas.Bool.{true≢false}
use Rattle.std.proofs.lemmas.List.{length-map, drop_all}
use Rattle.std.proofs.lemmas.List.Elements.{filter-append}
use Rattle.std.proofs.lemmas.List.Sorted.{IsPermutation-refl}
use Rattle.std.proofs.lemmas.Map.Views.{Contains-from_any}
use Rattle.gx_laws.proofs.BoolLemmas.{first_of_both, second_of_both}
use Rattle.gx_values.specs.declared.values.Value.{Value}
use Rattle.gx_values.specs.Values.{value_cmp}
use Rattle.gx_values.proofs.OrderLemmas.{value_cmp_total, value_cmp_same, same_value, value_itself}
use Rattle.gx_commands.specs.declared.command.Cond.{Cond}
use Rattle.gx_mapping.specs.Rule.{In}
use Rattle.gx_gather.proofs.Lists.{in_map, from_map, in_filter, filter_in, all_of, each_next, contains_in}
use Rattle.gx_gather.proofs.Orders.{Ascends}
use Rattle.gx_gather.proofs.Entries.{below_in, find_in, in_find}
use Rattle.gx_model.specs.States.{File, Row}
use Rattle.gx_model.specs.Found.{meets_conds, is_owner}
use Rattle.gx_scan.specs.Files.{rec_of}
use Rattle.gx_scan.specs.Records.{list_of_one}
use Rattle.gx_scan.specs.Within.{row_of}
use Rattle.gx_scan.proofs.ListingLemmas.{same_filter, filter_twice}
use Rattle.gx_links.specs.Links.{Link, is_same, members_of}
use Rattle.gx_links.proofs.MemberLemmas.{members_are, from_members, in_members}
use Rattle.gx_pairs.specs.Members.{is_member_of, is_chosen_of, AreMembersOf, member_rows, has_member, rows_at, AreThere}

-- ---- rows in the order of their keys

keys_ascend : (test : Row → Bool) (es : List Row) → T (fin.is_sorted value_cmp es)
    → Ascends value_cmp (map (λ r. r.0) (filter test es))
keys_ascend test [] h = tt
keys_ascend test (e ∷ es) h = go (test e) (keys_ascend test es (second_of_both _ _ h))
  where
    go : (b : Bool) → Ascends value_cmp (map (λ r. r.0) (filter test es))
        → Ascends value_cmp (map (λ r. r.0) (cond b (e ∷ filter test es) (filter test es)))
    go true more = (
      all_of _ (map (λ r. r.0) (filter test es)) (λ y k.
          let q = from_map (λ (r : Row). r.0) y (filter test es) k in
          subst (λ z. value_cmp e.0 z ≡ Less) (sym q.2)
          (below_in value_cmp e.0 es q.0 (first_of_both _ _ h) (in_filter test q.0 es q.1).0)),
      more,
    )
    go false more = more

-- ---- owners

owner_some : (owner : Value) (o : Option Value) → is_owner owner o ≡ true → o ≡ Some owner
owner_some owner None e = absurd (true≢false (sym e))
owner_some owner (Some found) e = ap Some (same_value found owner e)

some_owner : (owner : Value) (o : Option Value) → o ≡ Some owner → is_owner owner o ≡ true
some_owner owner o e = ap (is_owner owner) e ∙ value_itself owner

-- the value of what is there
pub some_there : {A : Type 0} (o : Option A) → IsTrue (is_some o) → (x : A) × (o ≡ Some x)
some_there None e = absurd (true≢false (sym e))
some_there (Some x) e = (x, refl)

-- ---- rows at keys

row_there : (f : File) (r : Row) → In r (fin.entries f) → rows_at f r.0 ≡ r ∷ []
row_there f r h = ap (λ (o : Option (List Value)). map row_of
    (list_of_one (option_map (λ values. rec_of (r.0, values)) o)))
    (fin.get-entries f r.0 ∙ in_find value_cmp_total r (fin.entries f) (fin.entries_sorted f) h)

rows_again : (f : File) (rs : List Row) → ((r : Row) → In r rs → In r (fin.entries f))
    → flat_map (rows_at f) (map (λ r. r.0) rs) ≡ rs
rows_again f [] there = refl
rows_again f (r ∷ rs) there =
    λ i. row_there f r (there r (inl refl)) i ++ rows_again f rs (λ q h. there q (inr h)) i

-- ---- the rows of an owner's members

module _ (f : File) (link : Link) (owner : Value)
    (there : (m : Value) → fin.get link m ≡ Some owner → IsTrue (is_some (fin.get f m))) where
  member_keys : map (λ r. r.0) (member_rows f link owner) ≡ members_of link owner
  member_keys = members_are link owner (map (λ r. r.0) (member_rows f link owner))
      (keys_ascend (is_member_of link owner) (fin.entries f) (fin.entries_sorted f))
      (λ z h.
      let r = from_map (λ (q : Row). q.0) z (member_rows f link owner) h in
      ap (fin.get link) r.2 ∙ owner_some owner (fin.get link r.0.0)
      (in_filter (is_member_of link owner) r.0 (fin.entries f) r.1).1)
      (λ z e.
      let v = some_there (fin.get f z) (there z e) in
      in_map (λ (q : Row). q.0) (z, v.0) (member_rows f link owner)
      (filter_in (is_member_of link owner) (z, v.0) (fin.entries f)
      (find_in value_cmp_same z v.0 (fin.entries f) (sym (fin.get-entries f z) ∙ v.1))
      (some_owner owner (fin.get link z) e)))

  -- each member has one record
  pub members_many : length (members_of link owner) ≡ length (member_rows f link owner)
  members_many = ap length (sym member_keys) ∙ length-map (member_rows f link owner) (λ r. r.0)

  -- the records at the members that meet conditions are those that are chosen
  pub chosen_members : (conds : List Cond)
      → filter (meets_conds conds) (flat_map (rows_at f) (members_of link owner)) ≡ filter
      (is_chosen_of link owner conds) (fin.entries f)
  chosen_members conds =
      ap (λ (keys : List Value). filter (meets_conds conds) (flat_map (rows_at f) keys))
      (sym member_keys)
      ∙ ap (filter (meets_conds conds)) (rows_again f (member_rows f link owner)
      (λ r h. (in_filter (is_member_of link owner) r (fin.entries f) h).0))
      ∙ filter_twice (meets_conds conds) (is_member_of link owner) (fin.entries f)
      ∙ same_filter _ (is_chosen_of link owner conds) (fin.entries f)
      (λ r h. and_comm (is_member_of link owner r) (meets_conds conds r))

  pub are_members : (conds : List Cond) (members : List Value) (before rows : List Row)
      → members ≡ members_of link owner → before ≡ []
      → rows ≡ before ++ filter (meets_conds conds) (flat_map (rows_at f) members)
      → AreMembersOf f link owner conds rows
  are_members conds members before rows those none is =
      let all : rows ≡ filter (is_chosen_of link owner conds) (fin.entries f) =
      is ∙ (λ i. none i ++ filter (meets_conds conds) (flat_map (rows_at f) (those i)))
      ∙ chosen_members conds in
      subst (AreMembersOf f link owner conds) (sym all)
      (IsPermutation-refl (filter (is_chosen_of link owner conds) (fin.entries f)))

  pub all_there : (keys : List Value) → keys ≡ members_of link owner → AreThere f keys
  all_there keys those key h = there key (from_members link owner key (subst (In key) those h))

-- ---- from key to key

-- `now` has also the record at the key of this number
pub next_row : (f : File) (p : Row → Bool) (keys : List Value) (i : ℕ) (key : Value)
    (before rows now : List Row) → key ≡ get_or keys i key → i < length keys
    → now ≡ rows ++ filter p (rows_at f key)
    → rows ++ filter p (flat_map (rows_at f) (drop i keys)) ≡ before
    → now ++ filter p (flat_map (rows_at f) (drop (i + 1) keys)) ≡ before
next_row f p keys i key before rows now read lt now_is so_far =
    let one = rows_at f key in
    let more = flat_map (rows_at f) (drop (i + 1) keys) in
    ap (λ (l : List Row). l ++ filter p more) now_is
    ∙ append_assoc rows (filter p one) (filter p more)
    ∙ ap (λ (l : List Row). rows ++ l) (sym (filter-append p one more))
    ∙ ap (λ (l : List Row). rows ++ filter p l) (sym (each_next (rows_at f) keys i key read lt))
    ∙ so_far

pub last_row : (f : File) (p : Row → Bool) (keys : List Value) (i : ℕ) (before rows : List Row)
    → length keys ≤ i → rows ++ filter p (flat_map (rows_at f) (drop i keys)) ≡ before
    → rows ≡ before
last_row f p keys i before rows past so_far =
    sym (append-nil rows) ∙ ap (λ (ks : List Value). rows ++ filter p (flat_map (rows_at f) ks))
    (sym (drop_all i keys past)) ∙ so_far

-- ---- rows that are kept

any_at : (key : Value) (keys : List Value) → In key keys → list_any (is_same key) keys ≡ true
any_at key [] h = absurd h
any_at key (k ∷ keys) (inl e) =
    ap (λ (x : Value). is_same key x || list_any (is_same key) keys) (sym e)
    ∙ ap (λ b. b || list_any (is_same key) keys) (value_itself key)
any_at key (k ∷ keys) (inr h) = go (is_same key k) (any_at key keys h)
  where
    go : (b : Bool) → list_any (is_same key) keys ≡ true → (b || list_any (is_same key) keys) ≡ true
    go true e = refl
    go false e = e

at_any : (key : Value) (keys : List Value) → list_any (is_same key) keys ≡ true → In key keys
at_any key keys e = contains_in key keys (Contains-from_any same_value key keys e)

same_bools : (a b : Bool) → (a ≡ true → b ≡ true) → (b ≡ true → a ≡ true) → a ≡ b
same_bools true b to from = sym (to refl)
same_bools false true to from = from refl
same_bools false false to from = refl

-- a key is among the members exactly where the owner is its owner
among_members : (link : Link) (owner key : Value)
    → list_any (is_same key) (members_of link owner) ≡ is_owner owner (fin.get link key)
among_members link owner key = same_bools _ _
    (λ e. some_owner owner (fin.get link key)
    (from_members link owner key (at_any key (members_of link owner) e)))
    (λ e. any_at key (members_of link owner)
    (in_members link owner key (owner_some owner (fin.get link key) e)))

pub kept_members : (link : Link) (owner : Value) (members : List Value) (rows kept : List Row)
    → members ≡ members_of link owner → kept ≡ filter (λ r. list_any (is_same r.0) members) rows
    → kept ≡ filter (is_member_of link owner) rows
kept_members link owner members rows kept those is =
    is ∙ ap (λ (ms : List Value). filter (λ (r : Row). list_any (is_same r.0) ms) rows) those
    ∙ same_filter (λ (r : Row). list_any (is_same r.0) (members_of link owner))
    (is_member_of link owner) rows (λ r h. among_members link owner r.0)

-- ---- from row to row

-- the next row is kept where it passes the test
pub row_kept : (test : Row → Bool) (kept now rest : List Row) (r : Row) → test r ≡ true
    → now ≡ kept ++ r ∷ [] → now ++ filter test rest ≡ kept ++ filter test (r ∷ rest)
row_kept test kept now rest r passes is =
    ap (λ (l : List Row). l ++ filter test rest) is
    ∙ append_assoc kept (r ∷ []) (filter test rest)
    ∙ ap (λ b. kept ++ cond b (r ∷ filter test rest) (filter test rest)) (sym passes)

pub row_dropped : (test : Row → Bool) (kept rest : List Row) (r : Row) → test r ≡ false
    → kept ++ filter test rest ≡ kept ++ filter test (r ∷ rest)
row_dropped test kept rest r fails =
    ap (λ b. kept ++ cond b (r ∷ filter test rest) (filter test rest)) (sym fails)

pub row_steps : (rest : List Row) (r : Row) (left : List Row) (cost before now after all : ℕ)
    → left ≡ r ∷ rest → now + length left * cost ≤ before + all * cost → after ≤ now + 1 * cost
    → after + length rest * cost ≤ before + all * cost
row_steps rest r left cost before now after all is so_far next =
    let many : length left ≡ length rest + 1 = omega (arith, ap length is) in
    let product : length left * cost ≡ (length rest + 1) * cost = ap (λ n. n * cost) many in
    omega (arith, product, so_far, next)

-- ---- whether there are members

some_kept : {A B : Type 0} (g : A → B) (test : A → Bool) (xs : List A)
    → not (length (map g (filter test xs)) == 0) ≡ list_any test xs
some_kept g test [] = refl
some_kept g test (x ∷ xs) = go (test x) (some_kept g test xs)
  where
    go : (b : Bool) → not (length (map g (filter test xs)) == 0) ≡ list_any test xs
        → not (length (map g (cond b (x ∷ filter test xs) (filter test xs))) == 0)
        ≡ (b || list_any test xs)
    go true e = ap not (eqb-suc-zero (length (map g (filter test xs))))
    go false e = e

pub some_member : (link : Link) (owner : Value) (members : List Value)
    → members ≡ members_of link owner → not (length members == 0) ≡ has_member link owner
some_member link owner members those = ap (λ (ms : List Value). not (length ms == 0)) those
    ∙ some_kept (λ (pair : Value × Value). pair.0) (λ pair. is_same pair.1 owner) (fin.entries link)

-- of no rows all are kept
pub none_kept : (test : Row → Bool) (rows : List Row) → (length rows == 0) ≡ true
    → rows ≡ filter test rows
none_kept test [] e = refl
none_kept test (r ∷ rows) e = absurd (true≢false (sym e ∙ eqb-suc-zero (length rows)))

pub above_none : (n : ℕ) → (n == 0) ≡ false → 0 < n
above_none zero e = absurd (true≢false e)
above_none (suc n) e = omega arith

-- ---- steps

-- of the owner's record alone
pub owner_steps : (leaves most own_leaves rows before after : ℕ) → own_leaves ≤ leaves
    → after ≤ before + (own_leaves + most) → after ≤ before + 2 * (rows + 1) * (most + leaves)
owner_steps leaves most own_leaves rows before after few steps =
    let least : 1 * (most + leaves) ≤ 2 * (rows + 1) * (most + leaves) =
    mul-le-mul (omega arith) (omega arith) in
    omega (arith, least, few, steps)

-- of a record, of members and of the record of each
pub member_steps : (leaves most own_leaves link_leaves leaves_each rounds entries many before first
    second after rows : ℕ) → own_leaves ≤ leaves → link_leaves ≤ leaves → leaves_each ≤ leaves
    → rounds ≤ suc many → entries ≤ most → many ≡ rows → first ≤ before + (own_leaves + most)
    → second ≤ first + (rounds * link_leaves + entries)
    → after ≤ second + many * (leaves_each + most)
    → after ≤ before + 2 * (rows + 1) * (most + leaves)
member_steps leaves most own_leaves link_leaves leaves_each rounds entries many before first second
    after rows own link each few small same one two three =
    let walk : rounds * link_leaves ≤ suc many * leaves = mul-le-mul few link in
    let reads : many * leaves_each ≤ many * leaves = mul-le-mul (omega arith) each in
    subst (λ n. after ≤ before + 2 * (n + 1) * (most + leaves)) same
    (omega (arith, own, walk, reads, small, one, two, three))

-- of one round over the leaves
pub round_steps : (rounds link_leaves leaves entries most before after : ℕ) → rounds ≤ 1
    → link_leaves ≤ leaves → entries ≤ most → after ≤ before + (rounds * link_leaves + entries)
    → after ≤ before + 1 * (most + leaves)
round_steps rounds link_leaves leaves entries most before after one few small steps =
    let walk : rounds * link_leaves ≤ 1 * leaves = mul-le-mul one few in
    omega (arith, walk, small, steps)

-- where there is a row, what one look-up takes is at most what one for each takes
pub once_at_least : (many cost before after : ℕ) → 0 < many → after ≤ before + 1 * cost
    → after ≤ before + many * cost
once_at_least many cost before after some steps =
    let least : 1 * cost ≤ many * cost = mul-le-mul some (omega arith) in
    omega (arith, least, steps)

-- ---- steps of one member, by its key

-- a look-up of the owner, where there is none
pub one_owner_steps : (n most few leaves before after : ℕ) → few ≤ leaves
    → after ≤ before + (few + most) → after ≤ before + (n + 2) * (most + leaves)
one_owner_steps n most few leaves before after le steps =
    let all : 2 * (most + leaves) ≤ (n + 2) * (most + leaves) =
    mul-le-mul_right (most + leaves) (omega arith) in
    omega (arith, le, steps, all)

-- look-ups of the owner and of the record, and of each row in the link
pub one_member_steps : (n k most few few' leaves leaves' before first second after : ℕ) → k ≡ n
    → leaves' ≡ leaves → few ≤ leaves → few' ≤ leaves → first ≤ before + (few + most)
    → second ≤ first + (few' + most) → after ≤ second + k * (most + leaves')
    → after ≤ before + (n + 2) * (most + leaves)
one_member_steps n k most few few' leaves leaves' before first second after rows same le le' one two
    three =
    let kept : after ≤ second + n * (most + leaves) =
    subst (λ m. after ≤ second + n * (most + m)) same
    (subst (λ m. after ≤ second + m * (most + leaves')) rows three) in
    omega (arith, le, le', one, two, kept)
