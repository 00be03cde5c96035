-- The order of entries that are laid out anew, and their index.
use Rattle.std.proofs.Common.{◌≡◌, inl, inr, ℕ, zero, suc, ◌+◌, ◌-◌, ◌*◌, ◌/◌, ◌%◌, ◌<◌, ◌≤◌, List, [], ◌∷◌, ◌++◌, length, take, drop, get_or, max, Some, refl, sym, ap, ap₂, subst, ◌∙◌, arith, append_assoc, length-append}
use Rattle.std.specs.Prelude.{slice_get}
use Rattle.std.specs.List.{All, flat_map, fold}
use Rattle.std.specs.Ordering.{is_eq, nat_cmp, ord_max}
use Rattle.std.specs.declared.cmp.Ordering.TheVariants.{Less}
use Rattle.std.specs.Cmp.Lexicographic.{nat_list_cmp_total}
use Rattle.std.specs.Option.{option_map}
use Rattle.std.proofs.lemmas.Bool.{cases_eq, false≢true}
use Rattle.std.proofs.lemmas.Grind.{common_steps}
use Rattle.std.proofs.lemmas.List.{append-nil, drop_at, get_or-drop, take_more, take-append-drop, length-take-le}
use Rattle.std.proofs.lemmas.List.Concat.{flat_map-append}
use Rattle.std.proofs.lemmas.List.Elements.{All-nil, All-push}
use Rattle.std.proofs.lemmas.List.Sums.{fold-append}
use Rattle.std.proofs.lemmas.Nat.{div-add-mod', from_be_bytes-to_be_bytes_2}
use Rattle.std.proofs.lemmas.Option.{get_or_from_slice_get, slice_get-get_or, slice_get-map, slice_get_within}
use Rattle.std.proofs.Math.Nat.{div-lt_iff_lt-mul, div-mul-le_self, le-div_iff_mul-le, mul-add-div_right, mul-le-mul_right}
use Rattle.gx_bytes.specs.declared.page.TheConstants.{NONE}
use Rattle.gx_bytes.specs.Page.{header}
use Rattle.gx_bytes.specs.Parts.{overwritten}
use Rattle.gx_bytes.specs.Records.{HoldsRecords}
use Rattle.gx_bytes.proofs.PartLemmas.{overwritten-append}
use Rattle.gx_bytes.proofs.RecordLemmas.{records-held}
use Rattle.gx_ports.specs.declared.leaves.Entry.{Entry as LeafEntry}
use Rattle.gx_ports.specs.Keyed.{key_cmp}
use Rattle.gx_ports.proofs.KeyLemmas.{tied}
use Rattle.gx_isam_index.specs.Fresh.{HasFreshBuckets, begin_of, fresh_count, longest_of}
use Rattle.gx_isam_index.specs.Index.{IsFitSeparator, AreAscending, IsIndexPage, behind_firsts, bucket_count, first_page_of, separator_bytes, separators_in, separators_of}
use Rattle.gx_isam_index.specs.Layout.{AreOrdered, FitsPage, HasFront, HasSeparators, keys_of}
use Rattle.gx_isam_index.proofs.IndexLemmas.{get_before}
use Rattle.gx_isam_index.proofs.SeparatorLemmas.{length-separator_bytes, separator_format}

-- ---- the keys ascend

pub not_itself : (k : List ℕ) → key_cmp k k ≡ Less → ⊥
not_itself k less = false≢true (sym (ap is_eq less) ∙ tied k)

ascend_by : (es : List LeafEntry) → AreOrdered es → (n i : ℕ) (e f : LeafEntry)
    → slice_get es i ≡ Some e → slice_get es (i + 1 + n) ≡ Some f → key_cmp e.key f.key ≡ Less
ascend_by es o zero i e f at_e at_f =
    o.ascending i e f at_e
    (subst (λ (k : ℕ). slice_get es k ≡ Some f) (let s : i + 1 + 0 ≡ i + 1 = omega arith in s) at_f)
ascend_by es o (suc n) i e f at_e at_f =
    let within = slice_get_within es (i + 1 + suc n) f at_f in
    let d = get_or es (i + 1) e in
    let mid = slice_get-get_or es (i + 1) e (omega (arith, within)) in
    nat_list_cmp_total.trans e.key d.key f.key (o.ascending i e d at_e mid)
    (ascend_by es o n (i + 1) d f mid (subst (λ (k : ℕ). slice_get es k ≡ Some f)
    (let s : i + 1 + suc n ≡ i + 1 + 1 + n = omega arith in s) at_f))

pub ascend : (es : List LeafEntry) → AreOrdered es → (i j : ℕ) (e f : LeafEntry) → i < j
    → slice_get es i ≡ Some e → slice_get es j ≡ Some f → key_cmp e.key f.key ≡ Less
ascend es o i j e f less at_e at_f =
    ascend_by es o (j - (i + 1)) i e f at_e (subst (λ (k : ℕ). slice_get es k ≡ Some f)
    (let s : j ≡ i + 1 + (j - (i + 1)) = omega (arith, less) in s) at_f)

-- no key stands twice
pub apart_keys : (es : List LeafEntry) → AreOrdered es → (i j : ℕ) (k b c : List ℕ) → i < j
    → slice_get es i ≡ Some (record { key = k; body = b })
    → slice_get es j ≡ Some (record { key = k; body = c }) → ⊥
apart_keys es o i j k b c less at_b at_c =
    not_itself k
    (ascend es o i j (record { key = k; body = b }) (record { key = k; body = c }) less at_b at_c)

-- ---- whether they do is tested

-- the first entries were found to
pub record IsOrderedTo (es : List LeafEntry) (n : ℕ) : Type 0 where
  pub fit : (i : ℕ) (e : LeafEntry) → i < n → slice_get es i ≡ Some e → FitsPage e
  pub ascending : (i : ℕ) (e f : LeafEntry) → i + 1 < n → slice_get es i ≡ Some e
      → slice_get es (i + 1) ≡ Some f → key_cmp e.key f.key ≡ Less

pub ordered_none : (es : List LeafEntry) → IsOrderedTo es 0
ordered_none es = record {
  fit = λ i e below at. absurd (omega (arith, below));
  ascending = λ i e f below a b. absurd (omega (arith, below));
}

pub same_entry : (es : List LeafEntry) (i : ℕ) (e f : LeafEntry) → slice_get es i ≡ Some e
    → slice_get es i ≡ Some f → e ≡ f
same_entry es i e f a b = sym (get_or_from_slice_get es i e e a) ∙ get_or_from_slice_get es i f e b

pub ordered_more : (es : List LeafEntry) (n : ℕ) (e : LeafEntry) → IsOrderedTo es n
    → slice_get es n ≡ Some e → FitsPage e
    → (0 < n → (d : LeafEntry) → slice_get es (n - 1) ≡ Some d → key_cmp d.key e.key ≡ Less)
    → IsOrderedTo es (n + 1)
ordered_more es n e o at fits less = record {
  fit = λ i f below is. elim (cases_eq i n) [
    | inl same ↦ subst FitsPage
        (same_entry es n e f at (subst (λ (k : ℕ). slice_get es k ≡ Some f) same is)) fits
    | inr apart ↦ o.fit i f (omega (arith, below, apart)) is
  ];
  ascending = λ i d f below is next. elim (cases_eq (i + 1) n) [
    | inl same ↦ (let this =
        same_entry es n e f at (subst (λ (k : ℕ). slice_get es k ≡ Some f) same next) in
        subst (λ (x : LeafEntry). key_cmp d.key x.key ≡ Less) this
        (less (omega (arith, same)) d
        (subst (λ (k : ℕ). slice_get es k ≡ Some d) (let s : i ≡ n - 1 = omega (arith, same) in
        s) is)))
    | inr apart ↦ o.ascending i d f (omega (arith, below, apart)) is next
  ];
}

pub ordered_all : (es : List LeafEntry) (n : ℕ) → n ≡ length es → IsOrderedTo es n → AreOrdered es
ordered_all es n all o = record {
  fit = λ i e at. o.fit i e (let w = slice_get_within es i e at in omega (arith, w, all)) at;
  ascending = λ i e f at next. o.ascending i e f
      (let w = slice_get_within es (i + 1) f next in omega (arith, w, all)) at next;
}

-- ---- the longest key

-- the key of an entry
pub key_at : (es : List LeafEntry) (i : ℕ) (e : LeafEntry) → slice_get es i ≡ Some e
    → slice_get (keys_of es) i ≡ Some e.key
key_at es i e at =
    slice_get-map (λ (x : LeafEntry). x.key) es i ∙ ap (option_map (λ (x : LeafEntry). x.key)) at

pub longest_more : (keys : List (List ℕ)) (i : ℕ) (k : List ℕ) → slice_get keys i ≡ Some k
    → longest_of (take (i + 1) keys) ≡ max (longest_of (take i keys)) (length k)
longest_more keys i k at =
    ap longest_of (take_more keys i k (slice_get_within keys i k at)
    ∙ ap (λ (x : List ℕ). take i keys ++ x ∷ []) (get_or_from_slice_get keys i k k at))
    ∙ fold-append (λ (most : ℕ) (key : List ℕ). max most (length key)) 0 (take i keys) (k ∷ [])

at_least : (keys : List (List ℕ)) (a : ℕ) → a ≤ fold (λ most key. max most (length key)) a keys
at_least [] a = omega arith
at_least (x ∷ xs) a = let h = at_least xs (max a (length x)) in omega (arith, h)

longest_from : (keys : List (List ℕ)) (a i : ℕ) (k : List ℕ) → slice_get keys i ≡ Some k
    → length k ≤ fold (λ most key. max most (length key)) a keys
longest_from [] a i k at = absurd (let w = slice_get_within [] i k at in omega (arith, w))
longest_from (x ∷ xs) a zero k at =
    let same : x ≡ k = cc in
    let h = at_least xs (max a (length x)) in
    let len = ap length same in
    omega (arith, h, len)
longest_from (x ∷ xs) a (suc i) k at = longest_from xs (max a (length x)) i k at

pub longest_least : (keys : List (List ℕ)) (i : ℕ) (k : List ℕ) → slice_get keys i ≡ Some k
    → length k ≤ longest_of keys
longest_least keys i k at = longest_from keys 0 i k at

-- the greater of two lengths, as it is computed
pub max_of : (a b m : ℕ) → m ≡ ord_max nat_cmp a b → m ≡ max a b
max_of a b m is = grind (arith, common_steps)

pub length-keys_of : (es : List LeafEntry) → length (keys_of es) ≡ length es
length-keys_of [] = refl
length-keys_of (x ∷ xs) = ap suc (length-keys_of xs)

-- the greatest length of the first keys
pub record IsLongestTo (keys : List (List ℕ)) (n longest : ℕ) : Type 0 where
  pub is : longest ≡ longest_of (take n keys)
  pub most : longest ≤ 400

-- ---- where buckets begin

parts_of : (bucket count n : ℕ) → bucket * n ≡ n / count * bucket * count + n % count * bucket
parts_of bucket count n =
    let q = n / count in
    let r = n % count in
    let all : q * count + r ≡ n = div-add-mod' n count in
    let ring : bucket * (q * count + r) ≡ q * bucket * count + r * bucket = grind arith in
    ap (λ (x : ℕ). bucket * x) (sym all) ∙ ring

pub begin_parts : (bucket count n : ℕ) → 0 < count
    → n / count * bucket + n % count * bucket / count ≡ begin_of bucket count n
begin_parts bucket count n some =
    sym (ap (λ (x : ℕ). x / count) (parts_of bucket count n)
    ∙ mul-add-div_right some (n / count * bucket) (n % count * bucket))

pub begin_below : (bucket count n : ℕ) → bucket < count → 0 < n → begin_of bucket count n < n
begin_below bucket count n less some =
    let step : bucket * n + n ≡ (bucket + 1) * n = grind arith in
    let le = mul-le-mul_right n (let s : bucket + 1 ≤ count = omega (arith, less) in s) in
    let turn : count * n ≡ n * count = grind arith in
    (div-lt_iff_lt-mul (let s : 0 < count = omega (arith, less) in s)).1
    (omega (arith, step, le, turn, some))

pub begin_ascends : (i j count n : ℕ) → i < j → 0 < count → count ≤ n
    → begin_of i count n < begin_of j count n
begin_ascends i j count n less some many =
    let low = div-mul-le_self (i * n) count in
    let step : i * n + n ≡ (i + 1) * n = grind arith in
    let le = mul-le-mul_right n (let s : i + 1 ≤ j = omega (arith, less) in s) in
    let next : (i * n / count + 1) * count ≡ i * n / count * count + count = grind arith in
    let up : i * n / count + 1 ≤ j * n / count =
    (le-div_iff_mul-le some).1 (omega (arith, low, step, le, next, many)) in
    omega (arith, up)

-- ---- separators are written

-- the first separators were written
pub record IsWriting (old bytes : List ℕ) (keys : List (List ℕ)) (count bucket at : ℕ) : Type 0
  where
    pub size : length bytes ≡ 4096
    pub front : (i : ℕ) → i < 4 → get_or bytes i 0 ≡ get_or old i 0
    pub low : 1 ≤ bucket
    pub high : bucket ≤ count
    pub separators : List (List ℕ)
    pub number : length separators + 1 ≡ bucket
    pub fit : All IsFitSeparator separators
    pub rest : List ℕ
    pub behind : drop (4 + 4 * count) bytes ≡ flat_map separator_bytes separators ++ rest
    pub at_is : at ≡ 4 + 4 * count + length (flat_map separator_bytes separators)
    pub room : at + (count - bucket) * (longest_of keys + 2) ≤ 4096
    pub each : (b : ℕ) → 1 ≤ b → b < bucket
        → slice_get separators (b - 1) ≡ slice_get keys (begin_of b count (length keys))

pub writing_first : (old : List ℕ) (keys : List (List ℕ)) (count at : ℕ) → length old ≡ 4096
    → 1 ≤ count → count ≤ 64 → count * (longest_of keys + 6) ≤ 3800 → at ≡ 4 + 4 * count
    → IsWriting old old keys count 1 at
writing_first old keys count at size some most room at_is =
    let longest = longest_of keys in
    let one : (count - 1) * (longest + 2) ≤ count * (longest + 2) =
    mul-le-mul_right (longest + 2) (let s : count - 1 ≤ count = omega arith in s) in
    let parts : count * (longest + 6) ≡ count * (longest + 2) + 4 * count = grind arith in
    record {
      size = size;
      front = λ i less. refl;
      low = omega arith;
      high = some;
      separators = [];
      number = refl;
      fit = All-nil IsFitSeparator;
      rest = drop (4 + 4 * count) old;
      behind = refl;
      at_is = omega (arith, at_is);
      room = omega (arith, at_is, one, parts, room);
      each = λ b low high. absurd (omega (arith, low, high));
    }

pub writing_room : (old bytes : List ℕ) (keys : List (List ℕ)) (count bucket at : ℕ) (key : List ℕ)
    → IsWriting old bytes keys count bucket at → bucket < count → length key ≤ longest_of keys
    → at + 2 + length key ≤ length bytes
writing_room old bytes keys count bucket at key w less short =
    let left : count - bucket ≡ suc (count - (bucket + 1)) = omega (arith, less) in
    let parts : suc (count - (bucket + 1)) * (longest_of keys + 2)
    ≡ (longest_of keys + 2) + (count - (bucket + 1)) * (longest_of keys + 2) =
    grind arith in
    let same = ap (λ (n : ℕ). n * (longest_of keys + 2)) left in
    omega (arith, w.room, w.size, same, parts, short)

slice_get_front : {X : Type 0} (xs : List X) (x : X) (i : ℕ) → i < length xs
    → slice_get (xs ++ x ∷ []) i ≡ slice_get xs i
slice_get_front [] x i less = absurd (omega (arith, less))
slice_get_front (y ∷ ys) x zero less = refl
slice_get_front (y ∷ ys) x (suc i) less = slice_get_front ys x i (omega (arith, less))

slice_get_last : {X : Type 0} (xs : List X) (x : X) → slice_get (xs ++ x ∷ []) (length xs) ≡ Some x
slice_get_last [] x = refl
slice_get_last (y ∷ ys) x = slice_get_last ys x

pub writing_more : (old bytes new : List ℕ) (keys : List (List ℕ)) (count bucket at end : ℕ)
    (key : List ℕ) → IsWriting old bytes keys count bucket at → bucket < count
    → slice_get keys (begin_of bucket count (length keys)) ≡ Some key → length key ≤ 400
    → new ≡ overwritten bytes at (separator_bytes key) → length new ≡ length bytes
    → end ≡ at + 2 + length key → IsWriting old new keys count (bucket + 1) end
writing_more old bytes new keys count bucket at end key w less key_is short is same_size end_is =
    let f = 4 + 4 * count in
    let part = separator_bytes key in
    let part_len : length part ≡ 2 + length key = length-separator_bytes key in
    let flat = flat_map separator_bytes w.separators in
    let room = writing_room old bytes keys count bucket at key w less
    (longest_least keys (begin_of bucket count (length keys)) key key_is) in
    let here : at + length part ≤ length bytes = omega (arith, room, part_len) in
    let at_is = w.at_is in
    let size = w.size in
    let front_len : length (take f bytes) ≡ f =
    length-take-le f bytes (omega (arith, here, at_is)) in
    let at_parts : at ≡ f + length flat = at_is in
    let new_parts : new ≡ take f bytes ++ overwritten (drop f bytes) (length flat) part =
    is ∙ ap (λ (n : ℕ). overwritten bytes n part) at_parts
    ∙ ap (λ (b : List ℕ). overwritten b (f + length flat) part) (sym (take-append-drop f bytes))
    ∙ overwritten-append (take f bytes) (drop f bytes) part f (length flat) front_len in
    let flat_zero : length flat ≡ length flat + 0 = omega arith in
    let back : overwritten (drop f bytes) (length flat) part ≡ flat
    ++ (part ++ drop (length part) w.rest) =
    ap (λ (b : List ℕ). overwritten b (length flat) part) w.behind
    ∙ ap (λ (n : ℕ). overwritten (flat ++ w.rest) n part) flat_zero
    ∙ overwritten-append flat w.rest part (length flat) 0 refl
    ∙ ap (λ (n : ℕ). flat ++ (part ++ drop n w.rest))
    (let z : 0 + length part ≡ length part = omega arith in z) in
    let all : flat_map separator_bytes (w.separators ++ key ∷ []) ≡ flat ++ part =
    flat_map-append separator_bytes w.separators (key ∷ [])
    ∙ ap (λ (b : List ℕ). flat ++ b) (append-nil part) in
    let left : count - bucket ≡ suc (count - (bucket + 1)) = omega (arith, less) in
    let parts : suc (count - (bucket + 1)) * (longest_of keys + 2)
    ≡ (longest_of keys + 2) + (count - (bucket + 1)) * (longest_of keys + 2) =
    grind arith in
    let budget = ap (λ (n : ℕ). n * (longest_of keys + 2)) left in
    let least = longest_least keys (begin_of bucket count (length keys)) key key_is in
    let number = w.number in
    let pushed : length (w.separators ++ key ∷ []) ≡ length w.separators + 1 =
    length-append w.separators (key ∷ []) in
    let all_len : length (flat_map separator_bytes (w.separators ++ key ∷ []))
    ≡ length flat + length part =
    ap length all ∙ length-append flat part in
    record {
      size = same_size ∙ size;
      front = λ i low. ap (λ (b : List ℕ). get_or b i 0) is
          ∙ get_before bytes part at here i (omega (arith, low, at_is)) ∙ w.front i low;
      low = omega arith;
      high = omega (arith, less);
      separators = w.separators ++ key ∷ [];
      number = omega (arith, number, pushed);
      fit = All-push IsFitSeparator w.separators key w.fit
          (record { short = omega (arith, short) });
      rest = drop (length part) w.rest;
      behind =
          ap (drop f) (new_parts ∙ ap (λ (b : List ℕ). take f bytes ++ b) back)
          ∙ drop_at (take f bytes) (flat ++ (part ++ drop (length part) w.rest)) f front_len
          ∙ sym (append_assoc flat part (drop (length part) w.rest))
          ∙ ap (λ (b : List ℕ). b ++ drop (length part) w.rest) (sym all);
      at_is = omega (arith, end_is, at_is, all_len, part_len);
      room = (let r = w.room in omega (arith, r, end_is, parts, budget, least));
      each = λ b low high. elim (cases_eq b bucket) [
        | inl e ↦ (let place : b - 1 ≡ length w.separators = omega (arith, number, e) in
            ap (slice_get (w.separators ++ key ∷ [])) place ∙ slice_get_last w.separators key
            ∙ sym (ap (λ (n : ℕ). slice_get keys (begin_of n count (length keys))) e ∙ key_is))
        | inr d ↦ slice_get_front w.separators key (b - 1) (omega (arith, low, high, d, number))
            ∙ w.each b low (omega (arith, high, d))
      ];
    }

pub writing_last : (old bytes : List ℕ) (keys : List (List ℕ)) (count bucket at : ℕ)
    → IsWriting old bytes keys count bucket at → bucket ≡ count → HasSeparators old bytes keys count
writing_last old bytes keys count bucket at w end = record {
  size = w.size;
  front = w.front;
  separators = w.separators;
  number = w.number ∙ end;
  holds = record { fit = w.fit; rest = w.rest; is = w.behind };
  each = λ b low high. w.each b low (omega (arith, high, end));
}

-- ---- they make an index

module _ (es : List LeafEntry) (ordered : AreOrdered es) (old new : List ℕ) (count : ℕ)
    (some : 1 ≤ count) (most : count ≤ 64) (few : 1 < count → count ≤ length es)
    (begun : HasFront old count) (has : HasSeparators old new (keys_of es) count) where
  abbrev n : ℕ
  n = length (keys_of es)

  keys_many : n ≡ length es
  keys_many = length-keys_of es

  pub new_count : bucket_count new ≡ count
  new_count =
      let a = get_or-drop 2 new 0 0 ∙ has.front 2 (omega arith) ∙ sym (get_or-drop 2 old 0 0) in
      let b = get_or-drop 2 new 1 0 ∙ has.front 3 (omega arith) ∙ sym (get_or-drop 2 old 1 0) in
      let same : bucket_count new ≡ bucket_count old = omega (arith, a, b) in
      same ∙ begun.count_is

  holds_new : HoldsRecords separator_bytes IsFitSeparator has.separators (behind_firsts new)
  holds_new =
      subst (λ (m : ℕ). HoldsRecords separator_bytes IsFitSeparator has.separators
      (drop (4 + 4 * m) new))
      (sym new_count) has.holds

  length_new : length has.separators ≡ bucket_count new - 1
  length_new = let number = has.number in let c = new_count in omega (arith, number, c)

  pub new_separators : separators_of new ≡ has.separators
  new_separators =
      ap (λ (m : ℕ). separators_in m (behind_firsts new)) (sym length_new)
      ∙ records-held separator_format has.separators (behind_firsts new) holds_new

  -- the entry that a bucket begins with
  first_entry : (b : ℕ) → 1 ≤ b → b < count
      → (e : LeafEntry) × (slice_get es (begin_of b count n) ≡ Some e)
      × (slice_get has.separators (b - 1) ≡ Some e.key)
  first_entry b low high =
      let many = few (omega (arith, low, high)) in
      let below = begin_below b count n high (omega (arith, many, keys_many, some)) in
      let within : begin_of b count n < length es = omega (arith, below, keys_many) in
      let found = at_place es (begin_of b count n) within in
      (found.0, found.1, has.each b low high ∙ key_at es (begin_of b count n) found.0 found.1) where
        at_place : (xs : List LeafEntry) (i : ℕ) → i < length xs
            → (e : LeafEntry) × (slice_get xs i ≡ Some e)
        at_place [] i less = absurd (omega (arith, less))
        at_place (x ∷ xs) zero less = (x, refl)
        at_place (x ∷ xs) (suc i) less = at_place xs i (omega (arith, less))

  ascending_new : AreAscending has.separators
  ascending_new i j d less below =
      let number = has.number in
      let a = first_entry (i + 1) (omega arith) (omega (arith, less, below, number)) in
      let b = first_entry (j + 1) (omega arith) (omega (arith, below, number)) in
      let up = begin_ascends (i + 1) (j + 1) count n (omega (arith, less)) some
      (omega (arith, few (omega (arith, less, below, number)), keys_many)) in
      let at_i : get_or has.separators i d ≡ a.0.key = get_or_from_slice_get has.separators i
      a.0.key d
      (subst (λ (m : ℕ). slice_get has.separators m ≡ Some a.0.key) (let s : i + 1 - 1 ≡ i =
      omega arith in s) a.2) in
      let at_j : get_or has.separators j d ≡ b.0.key = get_or_from_slice_get has.separators j
      b.0.key d
      (subst (λ (m : ℕ). slice_get has.separators m ≡ Some b.0.key) (let s : j + 1 - 1 ≡ j =
      omega arith in s) b.2) in
      ap₂ key_cmp at_i at_j
      ∙ ascend es ordered (begin_of (i + 1) count n) (begin_of (j + 1) count n) a.0 b.0 up a.1 b.1

  pub index_new : IsIndexPage new
  index_new = record {
    size = has.size;
    kind = has.front 0 (omega arith) ∙ begun.kind;
    blank = has.front 1 (omega arith) ∙ begun.blank;
    some = let c = new_count in omega (arith, some, c);
    most = let c = new_count in omega (arith, most, c);
    separators = record {
      held = has.separators;
      count = length_new;
      holds = holds_new;
      ascending = ascending_new;
    };
  }

  pub fresh_new : count ≡ fresh_count (keys_of es) → HasFreshBuckets new (keys_of es)
  fresh_new count_is = record {
    count = new_count ∙ count_is;
    separators = λ b low high.
        let counts = new_count in
        ap (λ (x : List (List ℕ)). slice_get x (b - 1)) new_separators
        ∙ has.each b low (omega (arith, high, counts))
        ∙ ap (λ (m : ℕ). slice_get (keys_of es) (begin_of b m n)) (sym counts);
  }

-- also after first pages were written
pub fresh_stays : (page new : List ℕ) (keys : List (List ℕ)) → HasFreshBuckets page keys
    → bucket_count new ≡ bucket_count page → separators_of new ≡ separators_of page
    → HasFreshBuckets new keys
fresh_stays page new keys fresh count separators = record {
  count = count ∙ fresh.count;
  separators = λ b low high.
      ap (λ (x : List (List ℕ)). slice_get x (b - 1)) separators
      ∙ fresh.separators b low (omega (arith, high, count))
      ∙ ap (λ (m : ℕ). slice_get keys (begin_of b m (length keys))) (sym count);
}

pub index_begun : (bytes new : List ℕ) (count : ℕ) → length bytes ≡ 4096 → count ≤ 64
    → new ≡ overwritten bytes 0 (header 0x58 count NONE) → length new ≡ length bytes
    → HasFront new count
index_begun bytes new count size most is same = record {
  size = same ∙ size;
  kind = ap (λ (b : List ℕ). get_or b 0 0) is;
  blank = ap (λ (b : List ℕ). get_or b 1 0) is;
  count_is = ap bucket_count is ∙ from_be_bytes-to_be_bytes_2 count (omega (arith, most));
}

-- the first buckets of an index have no page
pub record IsBlanking (keys : List (List ℕ)) (count : ℕ) (page : List ℕ) (bucket : ℕ) : Type 0 where
  pub index : IsIndexPage page
  pub fresh : HasFreshBuckets page keys
  pub counted : bucket_count page ≡ count
  pub within : bucket ≤ count
  pub none : (i : ℕ) → i < bucket → first_page_of page i ≡ NONE
