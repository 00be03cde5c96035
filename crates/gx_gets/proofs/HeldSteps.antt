-- What the leaves of an access hold at a key, and the values that are put from them.
use Rattle.std.proofs.Common.{◌≡◌, ◌∙◌, ℕ, zero, suc, ◌+◌, ◌<◌, ◌≤◌, List, [], ◌∷◌, ◌++◌, length, get_or, cond, Bool, true, false, if◌then◌else◌, inl, inr, refl, sym, ap, subst, arith, length-append}
use Rattle.std.specs.Prelude.{◌⊎◌, slice_set}
use Rattle.std.specs.List.{filter, sum_by}
use Rattle.std.specs.Ordering.{is_le}
use Rattle.std.proofs.lemmas.Bool.{true≢false}
use Rattle.std.proofs.lemmas.List.{length-map}
use Rattle.std.proofs.lemmas.List.Sums.{sum_by-append, sum_by-cons}
use Rattle.gx_values.specs.declared.keys.Span.{Span}
use Rattle.gx_values.specs.declared.records.Field.{Field}
use Rattle.gx_values.specs.declared.records.Form.{Form}
use Rattle.gx_values.specs.declared.records.Rec.{Rec}
use Rattle.gx_values.specs.declared.values.Value.{Value}
use Rattle.gx_values.specs.Keys.{key_of, is_inside}
use Rattle.gx_values.specs.Values.{no_value, value_cmp}
use Rattle.gx_ports.specs.declared.leaves.Entry.{Entry}
use Rattle.gx_ports.specs.LeafMaps.{LeafMap, map_at, selected}
use Rattle.gx_mapping.specs.Rule.{Rule, In, IsOf}
use Rattle.gx_mapping.proofs.FieldLemmas.{fit_length}
use Rattle.gx_gather.proofs.Lists.{in_left, in_right, from_each, in_map, bool_cases, IsOnce}
use Rattle.gx_partition.specs.Bounds.{child_of}
use Rattle.gx_split.specs.Groups.{defaults_of}
use Rattle.gx_stack.specs.declared.entries.LeafEntry.{LeafEntry}
use Rattle.gx_stack.specs.Tree.{Tree, Kids, leaf, layer, no_kids, kid, kids_leaves, leaves_of}
use Rattle.gx_codec.specs.declared.slots.Slot.{Slot}
use Rattle.gx_access.specs.declared.access.Fragment.{Fragment}
use Rattle.gx_access.specs.declared.access.Tested.{Tested}
use Rattle.gx_access.specs.Access.{Choice, Choices, Only, By, no_choices, choice, chooser_value, fragments_of, fragments_at, fragment_entries, fragments_entries, is_absent}
use Rattle.gx_access.specs.Held.{IsHeldInside, leaf_pair}
use Rattle.gx_access.specs.Leaves.{fragment_leaves, choice_leaves, choices_leaves}
use Rattle.gx_access.specs.Whole.{data_leaves, kids_data_leaves}
use Rattle.gx_gets.specs.AtKey.{IsOneInside, NoneInside}
use Rattle.gx_gets.specs.Restored.{restored, put_fragment}
use Rattle.gx_gets.specs.Whole.{choice_count, IsReadBy, AreReadBy, IsReader, HaveNone, AreHeld, IsHeldAt, IsHeldIn, asked, put_fragments}
use Rattle.gx_gets.proofs.AtKey.{fragment_leaf}
use Rattle.gx_gets.proofs.LeafLemmas.{leaf_chosen, leaf_at}
use Rattle.gx_gets.proofs.SlotSteps.{slot_of_field}

-- ---- which records are inside a span

pub inside_cases : (span : Span) (R : List Rec)
    → ((r : Rec) × In r R × (is_inside span.lo span.hi (key_of r.key) ≡ true))
    ⊎ NoneInside span R
inside_cases span [] = inr (λ q h is. absurd h)
inside_cases span (r ∷ R) =
    elim (bool_cases (is_inside span.lo span.hi (key_of r.key))) [
      | inl is ↦ inl (r, inl refl, is)
      | inr not ↦ elim (inside_cases span R) [
        | inl p ↦ inl (p.0, inr p.1, p.2)
        | inr none ↦ inr (λ q h is. elim h [
          | inl e ↦ true≢false (sym is
              ∙ ap (λ (x : Rec). is_inside span.lo span.hi (key_of x.key)) e ∙ not)
          | inr k ↦ none q k is
        ])
      ]
    ]

-- at the key of a record the leaves of no fragment of it have no entry
module _ {M : Type 0} (rule : M → Rule) (t : Tree M) (ch : Choice) (R : List Rec)
    (maps : List LeafMap) (span : Span) (held : IsHeldInside rule t ch R maps span)
    (r : Rec) (is : IsOneInside span R r) where
  pub others_none : (n : ℕ) → In n (data_leaves rule t)
      → (In n (fragment_leaves (fragments_of ch r)) → ⊥)
      → selected span.lo span.hi (map_at maps n) ≡ []
  others_none n leaf_in other = empty (selected span.lo span.hi (map_at maps n))
      (λ e h.
      let q = held.only n e leaf_in h in
      let l : LeafEntry = record { leaf = n; key = e.key; body = e.body } in
      let here : In l (fragments_entries (fragments_of ch r) r) =
      subst (λ (x : Rec). In l (fragments_entries (fragments_of ch x) x)) (is.one q.0 q.1 q.2) q.3 in
      let g = from_each (fragment_entries r) l (fragments_of ch r) here in
      other (subst (λ m. In m (fragment_leaves (fragments_of ch r)))
      (sym (fragment_leaf r g.0 l g.2))
      (in_map (λ (f : Fragment). f.leaf) g.0 (fragments_of ch r) g.1)))
    where
      empty : (es : List Entry) → ((e : Entry) → In e es → ⊥) → es ≡ []
      empty [] nothing = refl
      empty (e ∷ es) nothing = absurd (nothing e (inl refl))

-- ---- what an access holds of a record

once_apart : (xs ys : List ℕ) (n : ℕ) → IsOnce (xs ++ ys) → In n xs → In n ys → ⊥
once_apart [] ys n once h k = h
once_apart (x ∷ xs) ys n once (inl is) k =
    once.0 (in_right x xs ys (subst (λ m. In m ys) is k))
once_apart (x ∷ xs) ys n once (inr h) k = once_apart xs ys n once.1 h k

once_left : (xs ys : List ℕ) → IsOnce (xs ++ ys) → IsOnce xs
once_left [] ys o = tt
once_left (x ∷ xs) ys o = (λ h. o.0 (in_left x xs ys h), once_left xs ys o.1)

once_right : (xs ys : List ℕ) → IsOnce (xs ++ ys) → IsOnce ys
once_right [] ys o = o
once_right (x ∷ xs) ys o = once_right xs ys o.1

pub count_below : (bounds : List Value) (v : Value) → child_of bounds v ≤ length bounds
count_below [] v = omega arith
count_below (b ∷ bounds) v = by_test (is_le (value_cmp b v)) (count_below bounds v)
  where
    by_test : (t : Bool) → child_of bounds v ≤ length bounds
        → length (cond t (b ∷ filter (λ bound. is_le (value_cmp bound v)) bounds)
        (filter (λ bound. is_le (value_cmp bound v)) bounds)) ≤ suc (length bounds)
    by_test true so_far = omega (arith, so_far)
    by_test false so_far = omega (arith, so_far)

fragment_in : (fs : List Fragment) (n : ℕ) → In n (fragment_leaves fs)
    → (f : Fragment) × In f fs × (f.leaf ≡ n)
fragment_in [] n h = absurd h
fragment_in (f ∷ fs) n (inl is) = (f, inl refl, sym is)
fragment_in (f ∷ fs) n (inr h) = let g = fragment_in fs n h in (g.0, inr g.1, g.2)

module _ (form : Form) (slots : List Slot) (groups : List (List Tested)) (maps : List LeafMap) (span : Span)
    (r : Rec) where
  mutual
    pub held_at : (ch : Choice) → IsReadBy form slots groups ch → IsOnce (choice_leaves ch)
        → AreHeld maps span r (fragments_of ch r)
        → ((n : ℕ) → In n (choice_leaves ch)
        → (In n (fragment_leaves (fragments_of ch r)) → ⊥)
        → selected span.lo span.hi (map_at maps n) ≡ []) → IsHeldAt maps span r ch
    held_at (Only fs) read once held none = held
    held_at (By chooser bounds cs) read once held none =
        held_in cs (child_of bounds (chooser_value chooser r)) read.3
        (omega (arith, count_below bounds (chooser_value chooser r), read.2)) once held none

    held_in : (cs : Choices) (c : ℕ) → AreReadBy form slots groups cs → c < choice_count cs
        → IsOnce (choices_leaves cs) → AreHeld maps span r (fragments_at cs c r)
        → ((n : ℕ) → In n (choices_leaves cs)
        → (In n (fragment_leaves (fragments_at cs c r)) → ⊥)
        → selected span.lo span.hi (map_at maps n) ≡ []) → IsHeldIn maps span r cs c
    held_in no_choices c read below once held none = absurd (omega (arith, below))
    held_in (choice ch cs) zero read below once held none = (
      held_at ch read.0 (once_left (choice_leaves ch) (choices_leaves cs) once) held
          (λ n h other. none n (in_left n (choice_leaves ch) (choices_leaves cs) h) other),
      λ n h. none n (in_right n (choice_leaves ch) (choices_leaves cs) h)
          (λ k. let f = fragment_in (fragments_of ch r) n k in
          once_apart (choice_leaves ch) (choices_leaves cs) n once
          (subst (λ m. In m (choice_leaves ch)) f.2 (leaf_chosen ch r f.0 f.1)) h),
    )
    held_in (choice ch cs) (suc c) read below once held none = (
      λ n h. none n (in_left n (choice_leaves ch) (choices_leaves cs) h)
          (λ k. let f = fragment_in (fragments_at cs c r) n k in
          once_apart (choice_leaves ch) (choices_leaves cs) n once h
          (subst (λ m. In m (choices_leaves cs)) f.2 (leaf_at cs c r f.0 f.1))),
      held_in cs c read.1 (omega (arith, below))
          (once_right (choice_leaves ch) (choices_leaves cs) once) held
          (λ n h other. none n (in_right n (choice_leaves ch) (choices_leaves cs) h) other),
    )

-- ---- how many entries that are

abbrev pub found_at : List LeafMap → Span → ℕ → ℕ
found_at maps span n = length (selected span.lo span.hi (map_at maps n))

pub total_none : (maps : List LeafMap) (span : Span) (ns : List ℕ) → HaveNone maps span ns
    → sum_by (found_at maps span) ns ≡ 0
total_none maps span [] none = refl
total_none maps span (n ∷ ns) none =
    let here : found_at maps span n ≡ 0 = ap length (none n (inl refl)) in
    let rest = total_none maps span ns (λ m h. none m (inr h)) in
    omega (arith, here, rest, sum_by-cons (found_at maps span) n ns)

total_held : (maps : List LeafMap) (span : Span) (r : Rec) (fs : List Fragment)
    → AreHeld maps span r fs
    → sum_by (found_at maps span) (fragment_leaves fs) ≡ length (fragments_entries fs r)
total_held maps span r [] held = refl
total_held maps span r (f ∷ fs) held =
    let here : found_at maps span f.leaf ≡ length (fragment_entries r f) =
    ap length (held f (inl refl)) ∙ length-map (fragment_entries r f) leaf_pair in
    let rest = total_held maps span r fs (λ g h. held g (inr h)) in
    omega (
      arith,
      here,
      rest,
      sum_by-cons (found_at maps span) f.leaf (fragment_leaves fs),
      length-append (fragment_entries r f) (fragments_entries fs r),
    )

module _ (maps : List LeafMap) (span : Span) (r : Rec) where
  mutual
    pub total_at : (ch : Choice) → IsHeldAt maps span r ch
        → sum_by (found_at maps span) (choice_leaves ch)
        ≡ length (fragments_entries (fragments_of ch r) r)
    total_at (Only fs) held = total_held maps span r fs held
    total_at (By chooser bounds cs) held =
        total_in cs (child_of bounds (chooser_value chooser r)) held

    total_in : (cs : Choices) (c : ℕ) → IsHeldIn maps span r cs c
        → sum_by (found_at maps span) (choices_leaves cs)
        ≡ length (fragments_entries (fragments_at cs c r) r)
    total_in no_choices c held = absurd held
    total_in (choice ch cs) zero held = omega (
      arith,
      sum_by-append (found_at maps span) (choice_leaves ch) (choices_leaves cs),
      total_at ch held.0,
      total_none maps span (choices_leaves cs) held.1,
    )
    total_in (choice ch cs) (suc c) held = omega (
      arith,
      sum_by-append (found_at maps span) (choice_leaves ch) (choices_leaves cs),
      total_none maps span (choice_leaves ch) held.0,
      total_in cs c held.1,
    )

-- no more data leaves than leaves
if_few : (b : Bool) (ns : List ℕ) → length (if b then ns else []) ≤ length ns
if_few true ns = omega arith
if_few false ns = omega arith

module _ {M : Type 0} (rule : M → Rule) where
  mutual
    pub fewer_leaves : (t : Tree M) → length (data_leaves rule t) ≤ length (leaves_of t)
    fewer_leaves (leaf n form) = omega arith
    fewer_leaves (layer m ks) = fewer_below (rule m).holds_rest ks

    fewer_below : (rest : ℕ → Bool) (ks : Kids M)
        → length (kids_data_leaves rule rest ks) ≤ length (kids_leaves ks)
    fewer_below rest no_kids = omega arith
    fewer_below rest (kid t ks) = omega (
      arith,
      length-append (if rest 0 then data_leaves rule t else [])
          (kids_data_leaves rule (λ c. rest (suc c)) ks),
      length-append (leaves_of t) (kids_leaves ks),
      if_few (rest 0) (data_leaves rule t),
      fewer_leaves t,
      fewer_below (λ c. rest (suc c)) ks,
    )

pub asked_joined : (maps : List LeafMap) (span : Span) (ns ms : List ℕ)
    → asked maps span (ns ++ ms) ≡ asked maps span ns + asked maps span ms
asked_joined maps span ns ms =
    omega (arith, length-append ns ms, sum_by-append (found_at maps span) ns ms)

-- ---- one alternative

abbrev pub choice_at : Choices → ℕ → Choice
choice_at no_choices c = Only []
choice_at (choice ch cs) zero = ch
choice_at (choice ch cs) (suc c) = choice_at cs c

pub read_child : (form : Form) (slots : List Slot) (groups : List (List Tested)) (cs : Choices) (c : ℕ)
    → AreReadBy form slots groups cs → c < choice_count cs
    → IsReadBy form slots groups (choice_at cs c)
read_child form slots groups no_choices c read below = absurd (omega (arith, below))
read_child form slots groups (choice ch cs) zero read below = read.0
read_child form slots groups (choice ch cs) (suc c) read below =
    read_child form slots groups cs c read.1 (omega (arith, below))

pub child_leaf : (cs : Choices) (c n : ℕ) → In n (choice_leaves (choice_at cs c))
    → In n (choices_leaves cs)
child_leaf no_choices c n h = absurd h
child_leaf (choice ch cs) zero n h = in_left n (choice_leaves ch) (choices_leaves cs) h
child_leaf (choice ch cs) (suc c) n h =
    in_right n (choice_leaves ch) (choices_leaves cs) (child_leaf cs c n h)

pub held_child : (maps : List LeafMap) (span : Span) (r : Rec) (cs : Choices) (c : ℕ)
    → IsHeldIn maps span r cs c → IsHeldAt maps span r (choice_at cs c)
held_child maps span r no_choices c held = absurd held
held_child maps span r (choice ch cs) zero held = held.0
held_child maps span r (choice ch cs) (suc c) held = held_child maps span r cs c held.1

pub asked_child : (maps : List LeafMap) (span : Span) (cs : Choices) (c : ℕ)
    → asked maps span (choice_leaves (choice_at cs c)) ≤ asked maps span (choices_leaves cs)
asked_child maps span no_choices c = omega arith
asked_child maps span (choice ch cs) zero =
    omega (arith, asked_joined maps span (choice_leaves ch) (choices_leaves cs))
asked_child maps span (choice ch cs) (suc c) = omega (
  arith,
  asked_joined maps span (choice_leaves ch) (choices_leaves cs),
  asked_child maps span cs c,
)

-- ---- the values that are put

set_length : (ws : List Value) (i : ℕ) (v : Value) → length (slice_set ws i v) ≡ length ws
set_length [] i v = refl
set_length (w ∷ ws) zero v = refl
set_length (w ∷ ws) (suc i) v = ap suc (set_length ws i v)

restored_length : (slots : List Slot) (vs ws : List Value)
    → length (restored slots vs ws) ≡ length ws
restored_length [] vs ws = refl
restored_length (s ∷ slots) vs ws =
    restored_length slots vs (slice_set ws s.number (get_or vs s.number no_value))
    ∙ set_length ws s.number (get_or vs s.number no_value)

set_here : (ws : List Value) (i : ℕ) (v : Value) → i < length ws
    → get_or (slice_set ws i v) i no_value ≡ v
set_here [] i v below = absurd (omega (arith, below))
set_here (w ∷ ws) zero v below = refl
set_here (w ∷ ws) (suc i) v below = set_here ws i v (omega (arith, below))

set_keeps : (ws : List Value) (i j : ℕ) (x y : Value) → get_or ws i no_value ≡ y
    → (j ≡ i → x ≡ y) → get_or (slice_set ws j x) i no_value ≡ y
set_keeps [] i j x y is same = is
set_keeps (w ∷ ws) zero zero x y is same = same refl
set_keeps (w ∷ ws) zero (suc j) x y is same = is
set_keeps (w ∷ ws) (suc i) zero x y is same = is
set_keeps (w ∷ ws) (suc i) (suc j) x y is same =
    set_keeps ws i j x y is (λ e. same (ap suc e))

-- the value at a number is that of the record
abbrev Agrees : List Value → ℕ → List Value → Type 0
Agrees vs i ws = get_or ws i no_value ≡ get_or vs i no_value

restored_keeps : (slots : List Slot) (vs ws : List Value) (i : ℕ) → Agrees vs i ws
    → Agrees vs i (restored slots vs ws)
restored_keeps [] vs ws i is = is
restored_keeps (s ∷ slots) vs ws i is =
    restored_keeps slots vs (slice_set ws s.number (get_or vs s.number no_value)) i
    (set_keeps ws i s.number (get_or vs s.number no_value) (get_or vs i no_value) is
    (λ e. ap (λ n. get_or vs n no_value) e))

restored_puts : (slots : List Slot) (vs ws : List Value) (s : Slot) → In s slots
    → s.number < length ws → Agrees vs s.number (restored slots vs ws)
restored_puts [] vs ws s h below = absurd h
restored_puts (t ∷ slots) vs ws s (inl is) below =
    restored_keeps slots vs (slice_set ws t.number (get_or vs t.number no_value)) s.number
    (subst (λ (x : Slot). Agrees vs s.number (slice_set ws x.number (get_or vs x.number no_value))) is
    (set_here ws s.number (get_or vs s.number no_value) below))
restored_puts (t ∷ slots) vs ws s (inr h) below =
    restored_puts slots vs (slice_set ws t.number (get_or vs t.number no_value)) s h
    (subst (λ n. s.number < n) (sym (set_length ws t.number (get_or vs t.number no_value))) below)

put_length : (f : Fragment) (vs ws : List Value) → length (put_fragment f vs ws) ≡ length ws
put_length f vs ws = by_test (is_absent f.view.groups vs)
  where
    by_test : (b : Bool) → length (if b then ws else restored f.view.slots vs ws) ≡ length ws
    by_test true = refl
    by_test false = restored_length f.view.slots vs ws

pub puts_length : (fs : List Fragment) (vs ws : List Value)
    → length (put_fragments fs vs ws) ≡ length ws
puts_length [] vs ws = refl
puts_length (f ∷ fs) vs ws = puts_length fs vs (put_fragment f vs ws) ∙ put_length f vs ws

put_keeps : (f : Fragment) (vs ws : List Value) (i : ℕ) → Agrees vs i ws
    → Agrees vs i (put_fragment f vs ws)
put_keeps f vs ws i is = by_test (is_absent f.view.groups vs)
  where
    by_test : (b : Bool) → Agrees vs i (if b then ws else restored f.view.slots vs ws)
    by_test true = is
    by_test false = restored_keeps f.view.slots vs ws i is

puts_keep : (fs : List Fragment) (vs ws : List Value) (i : ℕ) → Agrees vs i ws
    → Agrees vs i (put_fragments fs vs ws)
puts_keep [] vs ws i is = is
puts_keep (f ∷ fs) vs ws i is =
    puts_keep fs vs (put_fragment f vs ws) i (put_keeps f vs ws i is)

present_puts : (fs : List Fragment) (vs ws : List Value) (f : Fragment) (s : Slot) → In f fs
    → In s f.view.slots → is_absent f.view.groups vs ≡ false → s.number < length ws
    → Agrees vs s.number (put_fragments fs vs ws)
present_puts [] vs ws f s h k there below = absurd h
present_puts (g ∷ fs) vs ws f s (inl is) k there below =
    puts_keep fs vs (put_fragment g vs ws) s.number
    (subst (λ (x : Fragment). Agrees vs s.number (put_fragment x vs ws)) is
    (subst (λ (b : Bool). Agrees vs s.number (if b then ws else restored f.view.slots vs ws))
    (sym there) (restored_puts f.view.slots vs ws s k below)))
present_puts (g ∷ fs) vs ws f s (inr h) k there below =
    present_puts fs vs (put_fragment g vs ws) f s h k there
    (subst (λ n. s.number < n) (sym (put_length g vs ws)) below)

same_lists : (xs ys : List Value) → length xs ≡ length ys
    → ((i : ℕ) → i < length xs → get_or xs i no_value ≡ get_or ys i no_value) → xs ≡ ys
same_lists [] [] long same = refl
same_lists [] (y ∷ ys) long same = absurd (omega (arith, long))
same_lists (x ∷ xs) [] long same = absurd (omega (arith, long))
same_lists (x ∷ xs) (y ∷ ys) long same =
    let rest = same_lists xs ys (omega (arith, long)) (λ i below. same (suc i) (omega (arith, below)))
    in λ j. same 0 (omega arith) j ∷ rest j

-- all fragments put over the defaults give the record's values
pub all_put : (form : Form) (fs : List Fragment) (r : Rec) → IsReader form (Only fs) → IsOf form r
    → put_fragments fs r.fields (defaults_of form.fields) ≡ r.fields
all_put form fs r read of =
    let ds = defaults_of form.fields in
    let vs = r.fields in
    let many : length ds ≡ length form.fields = defaults_many form.fields in
    let long : length (put_fragments fs vs ds) ≡ length form.fields =
    puts_length fs vs ds ∙ many in
    same_lists (put_fragments fs vs ds) vs (long ∙ fit_length form.fields vs of.fields)
    (λ i below. one i (omega (arith, below, long)))
  where
    defaults_many : (fields : List Field) → length (defaults_of fields) ≡ length fields
    defaults_many [] = refl
    defaults_many (f ∷ fields) = ap suc (defaults_many fields)

    by_cases : (f : Fragment) (s : Slot) → In f fs → In s f.view.slots
        → s.number < length form.fields
        → Agrees r.fields s.number (put_fragments fs r.fields (defaults_of form.fields))
    by_cases f s h k below = elim (bool_cases (is_absent f.view.groups r.fields)) [
      | inl gone ↦ puts_keep fs r.fields (defaults_of form.fields) s.number
          (sym ((read.each f h).defaults r of gone s k))
      | inr there ↦ present_puts fs r.fields (defaults_of form.fields) f s h k there
          (subst (λ n. s.number < n) (sym (defaults_many form.fields)) below)
    ]

    one : (i : ℕ) → i < length form.fields
        → Agrees r.fields i (put_fragments fs r.fields (defaults_of form.fields))
    one i below =
        let s = slot_of_field (length form.fields) i below in
        let c = read.covers s.0 s.1 in
        let is : c.2.number ≡ i = c.4 ∙ s.2 in
        subst (λ n. Agrees r.fields n (put_fragments fs r.fields (defaults_of form.fields))) is
        (by_cases c.0 c.2 c.1 c.3 (subst (λ n. n < length form.fields) (sym is) below))
