-- An entry put among others in their order.
use Rattle.std.proofs.Common.{◌≡◌, ◌≢◌, ◌⊎◌, inl, inr, Bool, true, false, ℕ, zero, suc, ◌+◌, ◌-◌, ◌<◌, ◌≤◌, List, [], ◌∷◌, ◌++◌, length, take, drop, get_or, refl, sym, ap, ap₂, ◌∙◌, subst, arith}
use Rattle.std.specs.Bool.{OnTrue, OnFalse}
use Rattle.std.specs.List.{All, insert, sum_by}
use Rattle.std.proofs.lemmas.List.{take-append-drop, length-drop, length-take-le}
use Rattle.std.proofs.lemmas.List.Edits.{length-insert}
use Rattle.std.proofs.lemmas.List.Elements.{All-head, All-tail}
use Rattle.std.proofs.lemmas.List.Sums.{sum_by-take-drop, sum_by_more, sum_by-insert}
use Rattle.std.proofs.lemmas.Bool.{cases_lt}
use Rattle.gx_bytes.specs.declared.page.TheConstants.{NONE}
use Rattle.gx_slots.specs.Entries.{Entry, IsFit, AreAscending, entry_len}
use Rattle.gx_slots.specs.Page.{IsEntryPage, entries_of, next_of, used_by}
use Rattle.gx_btree.specs.declared.reading.Shape.TheVariants as shapes
use Rattle.gx_btree.specs.Bplus.{Shows}
use Rattle.gx_btree.specs.Order.{IsBelow, IsUpTo}
use Rattle.gx_btree.specs.Tree.{In, Ascending}
use Rattle.gx_btree.proofs.EntryLemmas.{place_in, in_place, ascending_from, entries_up}
use Rattle.gx_btree.proofs.MemberLemmas.{in_left, in_right}
use Rattle.gx_btree.proofs.OrderLemmas.{up_to_itself, below_is_up_to, up_to_cases}
use Rattle.gx_bplus.specs.Changes.{IsPutIn, IsTakenFrom, IsSpread}

-- all that follows a key
all_in : (P : Entry → Type 0) (es : List Entry) → All P es → (x : Entry) → In x es → P x
all_in P es h x i = let p = place_in x es i in subst P (p.is x) (h p.place x p.below)

pub in_all : (P : Entry → Type 0) (es : List Entry) → ((x : Entry) → In x es → P x) → All P es
in_all P es h k d below = h (get_or es k d) (in_place es k d below)

pub inserted : (es : List Entry) (i : ℕ) (e x : Entry) → (In x (insert es i e) → (x ≡ e) ⊎ In x es)
    × ((x ≡ e) ⊎ In x es → In x (insert es i e))
inserted [] zero e x = ((λ h. h), (λ h. h))
inserted [] (suc i) e x = ((λ h. h), (λ h. h))
inserted (y ∷ ys) zero e x = ((λ h. h), (λ h. h))
inserted (y ∷ ys) (suc i) e x =
    let h = inserted ys i e x in (
      λ j. elim j [
        | inl s ↦ inr (inl s)
        | inr k ↦ elim (h.0 k) [ inl s ↦ inl s | inr l ↦ inr (inr l) ]
      ],
      λ j. elim j [
        | inl s ↦ inr (h.1 (inl s))
        | inr k ↦ elim k [ inl s ↦ inl s | inr l ↦ inr (h.1 (inr l)) ]
      ],
    )

pub insert_up : (es : List Entry) (i : ℕ) (e : Entry) → Ascending es
    → All (λ x. IsBelow x.key e.key) (take i es)
    → All (λ x. IsUpTo e.key x.key) (drop i es) → All (λ x. x.key ≢ e.key) es
    → Ascending (insert es i e)
insert_up [] zero e up before behind other = ((λ x j. absurd j), tt)
insert_up [] (suc i) e up before behind other = ((λ x j. absurd j), tt)
insert_up (y ∷ ys) zero e up before behind other = (
  (λ x j. elim (up_to_cases e.key x.key (all_in (λ z. IsUpTo e.key z.key) (y ∷ ys) behind x j)) [
    | inl l ↦ l
    | inr s ↦ absurd (all_in (λ z. z.key ≢ e.key) (y ∷ ys) other x j (sym s))
  ]),
  up,
)
insert_up (y ∷ ys) (suc i) e up before behind other = (
  (λ x j. elim ((inserted ys i e x).0 j) [
    | inl s ↦ subst (λ (z : Entry). IsBelow y.key z.key) (sym s)
        (All-head (λ z. IsBelow z.key e.key) y (take i ys) before)
    | inr k ↦ up.0 x k
  ]),
  insert_up ys i e up.1 (All-tail (λ z. IsBelow z.key e.key) y (take i ys) before) behind
      (All-tail (λ z. z.key ≢ e.key) y ys other),
)

-- an entry taken away and put again
pub put_again : (es fs gs : List Entry) (e : Entry) (i : ℕ) → IsTakenFrom e.key es fs
    → gs ≡ insert fs i e → IsPutIn e es gs
put_again es fs gs e i taken is x = (
  λ j. elim ((inserted fs i e x).0 (subst (In x) is j))
      [ inl s ↦ inl s | inr k ↦ inr ((taken x).0 k) ],
  λ j. subst (In x) (sym is)
      ((inserted fs i e x).1 (elim j [ inl s ↦ inl s | inr k ↦ inr ((taken x).1 k) ])),
)

pub none_left : (es fs : List Entry) (key : List ℕ) → IsTakenFrom key es fs
    → All (λ e. e.key ≢ key) fs
none_left es fs key taken = in_all (λ e. e.key ≢ key) fs (λ x i. ((taken x).0 i).1)

-- the two parts of a list with an entry more
pub front_part : (es : List Entry) (i m : ℕ) (e : Entry) → i ≤ m
    → insert (take m es) i e ++ drop m es ≡ insert es i e
front_part [] zero zero e le = refl
front_part [] zero (suc m) e le = refl
front_part [] (suc i) zero e le = absurd (omega (arith, le))
front_part [] (suc i) (suc m) e le = refl
front_part (y ∷ ys) zero m e le = ap (λ (xs : List Entry). e ∷ xs) (take-append-drop m (y ∷ ys))
front_part (y ∷ ys) (suc i) zero e le = absurd (omega (arith, le))
front_part (y ∷ ys) (suc i) (suc m) e le =
    ap (λ (xs : List Entry). y ∷ xs) (front_part ys i m e (omega (arith, le)))

pub back_part : (es : List Entry) (i m : ℕ) (e : Entry) → m ≤ i → i ≤ length es
    → take m es ++ insert (drop m es) (i - m) e ≡ insert es i e
back_part es i zero e le in' = ap (λ n. insert es n e) (let s : i - 0 ≡ i = omega arith in s)
back_part [] i (suc m) e le in' = absurd (omega (arith, le, in'))
back_part (y ∷ ys) zero (suc m) e le in' = absurd (omega (arith, le))
back_part (y ∷ ys) (suc i) (suc m) e le in' =
    ap (λ (xs : List Entry). y ∷ xs)
    (ap (λ n. take m ys ++ insert (drop m ys) n e) (let s : suc i - suc m ≡ i - m =
    omega arith in s)
    ∙ back_part ys i m e (omega (arith, le)) (omega (arith, in')))

up_front : (xs ys : List Entry) → Ascending (xs ++ ys) → Ascending xs
up_front [] ys h = tt
up_front (x ∷ xs) ys h = ((λ y i. h.0 y (in_left y xs ys i)), up_front xs ys h.1)

up_back : (xs ys : List Entry) → Ascending (xs ++ ys) → Ascending ys
up_back [] ys h = h
up_back (x ∷ xs) ys h = up_back xs ys h.1

up_across : (xs ys : List Entry) → Ascending (xs ++ ys) → (x y : Entry) → In x xs → In y ys
    → IsBelow x.key y.key
up_across [] ys h x y i j = absurd i
up_across (z ∷ xs) ys h x y (inl e) j =
    subst (λ (w : Entry). IsBelow w.key y.key) (sym e) (h.0 y (in_right y xs ys j))
up_across (z ∷ xs) ys h x y (inr i) j = up_across xs ys h.1 x y i j

pub record AreParts (es : List Entry) (e : Entry) (left right : List Entry)
    (separator : List ℕ) : Type 0 where
  pub left_up : Ascending left
  pub right_up : Ascending right
  pub spread : IsSpread es e left right separator

pub parts_of : (es left right all : List Entry) (e : Entry) (i : ℕ) (separator : List ℕ)
    → left ++ right ≡ all → all ≡ insert es i e
    → Ascending all → All (λ x. x.key ≢ e.key) es → 0 < length left → 0 < length right
    → ((d : Entry) → separator ≡ (get_or right 0 d).key)
    → AreParts es e left right separator
parts_of es [] right all e i separator is all_is up other some more at =
    absurd (omega (arith, some))
parts_of es (l ∷ ls) [] all e i separator is all_is up other some more at =
    absurd (omega (arith, more))
parts_of es (l ∷ ls) (r ∷ rs) all e i separator is all_is up other some more at =
    let left = l ∷ ls in
    let right = r ∷ rs in
    let joined : Ascending (left ++ right) = subst Ascending (sym is) up in
    let back : Ascending right = up_back left right joined in
    let key_is : separator ≡ r.key = at r in
    record {
      left_up = up_front left right joined;
      right_up = back;
      spread = record {
        left_up = up_front left right joined;
        right_up = back;
        left_some = (l, inl refl);
        right_some = (r, inl refl);
        below = λ x j. subst (IsBelow x.key) (sym key_is)
            (up_across left right joined x r j (inl refl));
        above = λ x j. subst (λ k. IsUpTo k x.key) (sym key_is)
            (elim j [
              | inl s ↦ subst (λ (w : Entry). IsUpTo r.key w.key) (sym s) (up_to_itself r.key)
              | inr k ↦ below_is_up_to r.key x.key (back.0 x k)
            ]);
        put = λ x. (
          (λ j. elim ((inserted es i e x).0 (subst (In x) (is ∙ all_is) j)) [
            | inl s ↦ inl s
            | inr k ↦ inr (k, all_in (λ z. z.key ≢ e.key) es other x k)
          ]),
          (λ j. subst (In x) (sym (is ∙ all_is))
              ((inserted es i e x).1 (elim j [ inl s ↦ inl s | inr k ↦ inr k.0 ]))),
        );
      };
    }

-- where a page is cut
pub middle_is : (es : List Entry) (m : ℕ) (d : Entry) → All IsFit es → m < length es
    → 2044 < sum_by entry_len (take (m + 1) es)
    → sum_by entry_len es ≤ 4088 → (0 < m) × (sum_by entry_len (drop m es) ≤ 3048)
middle_is es m d fit below across most =
    let more = sum_by_more entry_len es m d below in
    let short = (fit m d below).whole in
    let whole = sum_by-take-drop entry_len es m in (
      elim (cases_lt 0 m) [
        | inl some ↦ some
        | inr none ↦
            absurd (omega (
              arith,
              more,
              short,
              across,
              ap (λ n. sum_by entry_len (take n es)) (let n : m ≡ 0 = omega (arith, none) in n),
            ))
      ],
      omega (arith, more, short, across, most, whole),
    )

-- a page on which an entry was to be put
pub record IsSetOn (b : Bool) (old new : List ℕ) (e : Entry) : Type 0 where
  pub shown : Shows shapes.Entries new
  pub set : OnTrue b (IsPutIn e (entries_of old) (entries_of new))
  pub taken : OnFalse b (IsTakenFrom e.key (entries_of old) (entries_of new))

pub inserted_page : (page new : List ℕ) (i : ℕ) (e : Entry) → Shows shapes.Entries page
    → IsEntryPage new → next_of new ≡ next_of page
    → entries_of new ≡ insert (entries_of page) i e
    → All (λ x. IsBelow x.key e.key) (take i (entries_of page))
    → All (λ x. IsUpTo e.key x.key) (drop i (entries_of page))
    → All (λ x. x.key ≢ e.key) (entries_of page) → Shows shapes.Entries new
inserted_page page new i e shown is next added before behind other = (
  record {
    page = is;
    ascending = subst AreAscending (sym added)
        (ascending_from (insert (entries_of page) i e)
        (insert_up (entries_of page) i e (entries_up page shown) before behind other));
  },
  next ∙ shown.1,
)

pub set_on : (b : Bool) (old page new : List ℕ) (i : ℕ) (e : Entry)
    → OnTrue b (entries_of new ≡ insert (entries_of page) i e)
    → OnFalse b (new ≡ page) → IsEntryPage new → next_of new ≡ next_of page
    → Shows shapes.Entries page
    → IsTakenFrom e.key (entries_of old) (entries_of page)
    → All (λ x. IsBelow x.key e.key) (take i (entries_of page))
    → (AreAscending (entries_of page) → All (λ x. IsUpTo e.key x.key) (drop i (entries_of page)))
    → IsSetOn b old new e
set_on true old page new i e added same is next shown taken before behind = record {
  shown = inserted_page page new i e shown is next added before (behind shown.0.ascending)
      (none_left (entries_of old) (entries_of page) e.key taken);
  set = put_again (entries_of old) (entries_of page) (entries_of new) e i taken added;
  taken = tt;
}
set_on false old page new i e added same is next shown taken before behind = record {
  shown = subst (Shows shapes.Entries) (sym same) shown;
  set = tt;
  taken = subst (λ p. IsTakenFrom e.key (entries_of old) (entries_of p)) (sym same) taken;
}

-- ---- a page that is cut, with an entry more on one of its parts

pub record IsSpreadOver (old left right : List ℕ) (e : Entry) (separator : List ℕ) : Type 0 where
  pub left_shown : Shows shapes.Entries left
  pub right_shown : Shows shapes.Entries right
  pub spread : IsSpread (entries_of old) e (entries_of left) (entries_of right) separator

spread_over : (old left right : List ℕ) (e : Entry) (i : ℕ) (separator : List ℕ)
    → Shows shapes.Entries old → IsEntryPage left
    → next_of left ≡ NONE → IsEntryPage right → next_of right ≡ NONE
    → All (λ x. IsBelow x.key e.key) (take i (entries_of old))
    → All (λ x. IsUpTo e.key x.key) (drop i (entries_of old))
    → All (λ x. x.key ≢ e.key) (entries_of old)
    → entries_of left ++ entries_of right ≡ insert (entries_of old) i e
    → 0 < length (entries_of left) → 0 < length (entries_of right)
    → ((d : Entry) → separator ≡ (get_or (entries_of right) 0 d).key)
    → IsSpreadOver old left right e separator
spread_over old left right e i separator shown left_is left_next right_is right_next before behind
    other joined some more at =
    let p = parts_of (entries_of old) (entries_of left) (entries_of right)
    (insert (entries_of old) i e) e i separator joined refl
    (insert_up (entries_of old) i e (entries_up old shown) before behind other) other some more at
    in
    record {
      left_shown = (
        record { page = left_is; ascending = ascending_from (entries_of left) p.left_up },
        left_next,
      );
      right_shown = (
        record { page = right_is; ascending = ascending_from (entries_of right) p.right_up },
        right_next,
      );
      spread = p.spread;
    }

on_true : {A : Type 0} (b : Bool) → OnTrue b A → b ≡ true → A
on_true true a e = a
on_true false a e = let never : ⊥ = cc in absurd never

pub spread_left : (old l r new : List ℕ) (i m : ℕ) (e : Entry) (b : Bool) (separator : List ℕ)
    → Shows shapes.Entries old
    → entries_of l ≡ take m (entries_of old) → next_of l ≡ next_of old → IsEntryPage r
    → entries_of r ≡ drop m (entries_of old)
    → next_of r ≡ NONE
    → i < m → m < length (entries_of old) → sum_by entry_len (take m (entries_of old)) ≤ 2044
    → IsFit e
    → IsEntryPage new → (used_by (insert (entries_of l) i e) ≤ 4096 → b ≡ true)
    → OnTrue b (entries_of new ≡ insert (entries_of l) i e)
    → next_of new ≡ next_of l
    → All (λ x. IsBelow x.key e.key) (take i (entries_of old))
    → All (λ x. IsUpTo e.key x.key) (drop i (entries_of old))
    → All (λ x. x.key ≢ e.key) (entries_of old)
    → ((d : Entry) → separator ≡ (get_or (entries_of r) 0 d).key)
    → IsSpreadOver old new r e separator
spread_left old l r new i m e b separator shown l_is l_next r_page r_is r_next less inside half fit
    new_page room added next before behind
    other at =
    let es = entries_of old in
    let sum = sum_by-insert entry_len (entries_of l) i e in
    let size = ap (sum_by entry_len) l_is in
    let put = on_true b added (room (omega (arith, sum, size, half, fit.whole))) in
    let new_is : entries_of new ≡ insert (take m es) i e = put ∙ ap (λ xs. insert xs i e) l_is in
    let count = ap length new_is in
    let long = length-insert (take m es) i e (let t = length-take-le m es (omega (arith, inside)) in
    omega (arith, t, less)) in
    let back = ap length r_is in
    let short = length-drop m es in
    spread_over old new r e i separator shown new_page (next ∙ l_next ∙ shown.1) r_page r_next
    before behind other
    (ap₂ (λ (xs ys : List Entry). xs ++ ys) new_is r_is ∙ front_part es i m e (omega (arith, less)))
    (omega (arith, count, long)) (omega (arith, back, short, inside)) at

pub spread_right : (old l r new : List ℕ) (i m : ℕ) (e : Entry) (b : Bool) (separator : List ℕ)
    → Shows shapes.Entries old → IsEntryPage l
    → entries_of l ≡ take m (entries_of old) → next_of l ≡ next_of old
    → entries_of r ≡ drop m (entries_of old) → next_of r ≡ NONE
    → m ≤ i → i ≤ length (entries_of old) → 0 < m → m ≤ length (entries_of old)
    → sum_by entry_len (drop m (entries_of old)) ≤ 3048
    → IsFit e
    → IsEntryPage new → (used_by (insert (entries_of r) (i - m) e) ≤ 4096 → b ≡ true)
    → OnTrue b (entries_of new ≡ insert (entries_of r) (i - m) e) → next_of new ≡ next_of r
    → All (λ x. IsBelow x.key e.key) (take i (entries_of old))
    → All (λ x. IsUpTo e.key x.key) (drop i (entries_of old))
    → All (λ x. x.key ≢ e.key) (entries_of old)
    → ((d : Entry) → separator ≡ (get_or (entries_of new) 0 d).key)
    → IsSpreadOver old l new e separator
spread_right old l r new i m e b separator shown l_page l_is l_next r_is r_next le within some m_in
    rest fit new_page room added next
    before behind other at =
    let es = entries_of old in
    let sum = sum_by-insert entry_len (entries_of r) (i - m) e in
    let size = ap (sum_by entry_len) r_is in
    let put = on_true b added (room (omega (arith, sum, size, rest, fit.whole))) in
    let new_is : entries_of new ≡ insert (drop m es) (i - m) e =
    put ∙ ap (λ xs. insert xs (i - m) e) r_is in
    let count = ap length new_is in
    let long = length-insert (drop m es) (i - m) e (let t = length-drop m es in
    omega (arith, t, le, within)) in
    let front = ap length l_is in
    let short = length-take-le m es m_in in
    spread_over old l new e i separator shown l_page (l_next ∙ shown.1) new_page
    (next ∙ r_next) before behind other
    (ap₂ (λ (xs ys : List Entry). xs ++ ys) l_is new_is ∙ back_part es i m e le within)
    (omega (arith, front, short, some)) (omega (arith, count, long)) at
