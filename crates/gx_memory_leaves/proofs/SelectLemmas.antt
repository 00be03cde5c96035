-- The entries of a leaf inside a span.
use Rattle.std.proofs.Common.{◌≡◌, ℕ, Bool, true, false, cond, List, [], ◌∷◌, ◌++◌, length, take, map, Option, None, Some, refl, sym, ap, subst, ◌∙◌, append_assoc, append-nil}
use Rattle.std.specs.Prelude.{filter, not, ◌&&◌}
use Rattle.std.specs.List.{filter_map, cons_option, flat_map, AllByRecursion}
use Rattle.std.specs.List.Sorted.{IsStrictlySortedBy}
use Rattle.std.specs.Option.{option_map}
use Rattle.std.specs.Ordering.{is_le, is_lt, ordering_reverse}
use Rattle.std.specs.declared.cmp.Ordering.{Ordering}
use Rattle.std.specs.Cmp.Lexicographic.{nat_list_cmp_total}
use Rattle.std.specs.declared.cmp.Ordering.TheVariants.{Less, Equal, Greater}
use Rattle.std.specs.Map.{keys_of}
use Rattle.std.proofs.lemmas.Map.Keys.{sorted_head, sorted_tail}
use Rattle.gx_values.specs.Keys.{is_inside}
use Rattle.gx_ports.specs.LeafMaps.{entry_of, selected, Extends}
use Rattle.gx_ports.specs.Keyed.{key_cmp}
use Rattle.gx_memory_leaves.specs.Cells.{Cell, cells_of, body_entry, bodies, is_up_to, IsPastAll, picked_body, picked}
use Rattle.gx_ports.specs.declared.leaves.Entry.{Entry}
use Rattle.gx_ports.proofs.KeyLemmas.{le_trans, front_le}
use Rattle.gx_memory_leaves.proofs.MapLemmas.{entries_cells}
use Rattle.gx_memory_leaves.proofs.CellLemmas.{entries_bodies}

-- entries in order, from a key on
abbrev pub IsRest : List ℕ → List (List ℕ × Cell) → Type 0
IsRest lo [] = Unit {0}
IsRest lo (e ∷ es) = (is_le (key_cmp lo e.0) ≡ true)
    × (AllByRecursion (λ f. key_cmp e.0 f.0 ≡ Less) es × IsRest lo es)

-- those of a range
abbrev pub from_key : List ℕ → List (List ℕ × Cell) → List (List ℕ × Cell)
from_key lo es = filter (λ e. is_le (key_cmp lo e.0) && true) es

all_from : (x : List ℕ) (lo : List ℕ) (es : List (List ℕ × Cell))
    → AllByRecursion (λ y. key_cmp x y ≡ Less) (keys_of es)
    → AllByRecursion (λ f. key_cmp x f.0 ≡ Less) (from_key lo es)
all_from x lo [] h = tt
all_from x lo (e ∷ es) h =
    elim (is_le (key_cmp lo e.0)) as
    (λ b. AllByRecursion (λ (f : List ℕ × Cell). key_cmp x f.0 ≡ Less)
    (cond (b && true) (e ∷ from_key lo es) (from_key lo es))) [
      | true ↦ (h.0, all_from x lo es h.1)
      | false ↦ all_from x lo es h.1
    ]

pub rest_of_range : (lo : List ℕ) (es : List (List ℕ × Cell))
    → IsStrictlySortedBy key_cmp (keys_of es) → IsRest lo (from_key lo es)
rest_of_range lo [] sorted = tt
rest_of_range lo (e ∷ es) sorted =
    let rest = rest_of_range lo es (sorted_tail key_cmp e.0 (keys_of es) sorted) in
    elim (is_le (key_cmp lo e.0)) as (λ b. is_le (key_cmp lo e.0) ≡ b
    → IsRest lo (cond (b && true) (e ∷ from_key lo es) (from_key lo es))) [
      | true ↦ λ t. (t, (all_from e.0 lo es (sorted_head key_cmp e.0 (keys_of es) sorted), rest))
      | false ↦ λ _. rest
    ] refl

-- an entry outside gives none
outside : (lo hi : List ℕ) (e : List ℕ × Cell) → is_inside lo hi e.0 ≡ false → picked lo hi e ≡ []
outside lo hi e out = elim (e.1) as (λ (o : Option (List ℕ)). picked_body lo hi e.0 o ≡ []) [
  | None ↦ refl
  | Some b ↦ ap (λ (t : Bool). cond t (record { key = e.0; body = b } ∷ []) []) out
]

-- those below the lower end give none
pub picked_range : (lo : List ℕ) (hi : List ℕ) (es : List (List ℕ × Cell))
    → flat_map (picked lo hi) (from_key lo es) ≡ flat_map (picked lo hi) es
picked_range lo hi [] = refl
picked_range lo hi (e ∷ es) =
    elim (is_le (key_cmp lo e.0)) as (λ b. is_le (key_cmp lo e.0) ≡ b
    → flat_map (picked lo hi) (cond (b && true) (e ∷ from_key lo es) (from_key lo es))
    ≡ picked lo hi e ++ flat_map (picked lo hi) es) [
      | true ↦ λ _. ap (λ (xs : List Entry). picked lo hi e ++ xs) (picked_range lo hi es)
      | false ↦ λ t. picked_range lo hi es
          ∙ ap (λ (xs : List Entry). xs ++ flat_map (picked lo hi) es)
          (sym (outside lo hi e (ap
          (λ (b : Bool). b && is_le (key_cmp (take (length hi) e.0) hi)) t)))
    ] refl

-- ---- a key past all

back_le : (o : Ordering) → is_lt o ≡ false → is_le (ordering_reverse o) ≡ true
back_le Less e = cc
back_le Equal e = refl
back_le Greater e = refl

-- a key past the greatest one
past_one : (last q key : List ℕ) → is_lt (key_cmp last q) ≡ false → key_cmp last key ≡ Less
    → is_le (key_cmp key q) ≡ false
past_one last q key least less = go (is_le (key_cmp key q)) refl
  where
    go : (b : Bool) → is_le (key_cmp key q) ≡ b → b ≡ false
    go false t = refl
    go true t =
        let back : is_le (key_cmp q last) ≡ true = ap is_le (nat_list_cmp_total.antisymm q last)
        ∙ back_le (key_cmp last q) least in
        let up = le_trans key q last t back in
        let down : is_le (key_cmp key last) ≡ false =
        ap is_le (nat_list_cmp_total.antisymm key last ∙ ap ordering_reverse less) in
        sym up ∙ down

pub past_each : (last key : List ℕ) (keys : List (List ℕ))
    → AllByRecursion (λ q. is_lt (key_cmp last q) ≡ false) keys → key_cmp last key ≡ Less
    → AllByRecursion (λ q. is_le (key_cmp key q) ≡ false) keys
past_each last key [] all less = tt
past_each last key (q ∷ keys) all less =
    (past_one last q key all.0 less, past_each last key keys all.1 less)

-- from it on there is no entry
pub none_from_key : (lo : List ℕ) (es : List (List ℕ × Cell)) → IsPastAll lo es
    → from_key lo es ≡ []
none_from_key lo [] past = refl
none_from_key lo (e ∷ es) past =
    ap (λ (b : Bool). cond (b && true) (e ∷ from_key lo es) (from_key lo es)) past.0
    ∙ none_from_key lo es past.1

-- past the upper end
abbrev is_past : List ℕ → List ℕ → Bool
is_past hi key = not (is_le (key_cmp (take (length hi) key) hi))

left_true : (a b : Bool) → a ≡ true → (a && b) ≡ false → b ≡ false
left_true true b e out = out
left_true false b e out = cc

right_false : (a b : Bool) → b ≡ false → (a && b) ≡ false
right_false true b e = e
right_false false b e = refl

still_past : (hi x y : List ℕ) → key_cmp x y ≡ Less
    → is_le (key_cmp (take (length hi) x) hi) ≡ false
    → is_le (key_cmp (take (length hi) y) hi) ≡ false
still_past hi x y less out =
    elim (is_le (key_cmp (take (length hi) y) hi)) as
    (λ b. is_le (key_cmp (take (length hi) y) hi) ≡ b → b ≡ false) [
      | true ↦ λ t. sym (le_trans (take (length hi) x) (take (length hi) y) hi
          (front_le (length hi) x y less) t) ∙ out
      | false ↦ λ _. refl
    ] refl

none_past : (lo hi x : List ℕ) (es : List (List ℕ × Cell))
    → is_le (key_cmp (take (length hi) x) hi) ≡ false
    → AllByRecursion (λ f. key_cmp x f.0 ≡ Less) es → flat_map (picked lo hi) es ≡ []
none_past lo hi x [] out less = refl
none_past lo hi x (e ∷ es) out less =
    ap (λ (xs : List Entry). xs ++ flat_map (picked lo hi) es)
    (outside lo hi e (right_false (is_le (key_cmp lo e.0)) _ (still_past hi x e.0 less.0 out)))
    ∙ none_past lo hi x es out less.1

-- after the first key outside there is none inside
pub none_from : (lo hi : List ℕ) (e : List ℕ × Cell) (es : List (List ℕ × Cell))
    → IsRest lo (e ∷ es) → is_inside lo hi e.0 ≡ false → flat_map (picked lo hi) (e ∷ es) ≡ []
none_from lo hi e es rest out =
    ap (λ (xs : List Entry). xs ++ flat_map (picked lo hi) es) (outside lo hi e out)
    ∙ none_past lo hi e.0 es (left_true (is_le (key_cmp lo e.0)) _ rest.0 out) rest.1.0

-- an entry inside gives its body
pub picked_some : (lo hi : List ℕ) (e : List ℕ × Cell) (body : List ℕ) → is_inside lo hi e.0 ≡ true
    → e.1 ≡ Some body → picked lo hi e ≡ record { key = e.0; body = body } ∷ []
picked_some lo hi e body inside some = ap (picked_body lo hi e.0) some
    ∙ ap (λ (t : Bool). cond t (record { key = e.0; body = body } ∷ []) []) inside

pub picked_none : (lo hi : List ℕ) (e : List ℕ × Cell) → e.1 ≡ None → picked lo hi e ≡ []
picked_none lo hi e none = ap (picked_body lo hi e.0) none

picked_entries : (lo hi : List ℕ) (es : List (List ℕ × Cell))
    → flat_map (picked lo hi) es ≡ map entry_of
    (filter (λ e. is_inside lo hi e.0) (filter_map body_entry (es)))
picked_entries lo hi [] = refl
picked_entries lo hi (e ∷ es) =
    elim (e.1) as (λ (o : Option (List ℕ)). picked_body lo hi e.0 o ++ flat_map (picked lo hi) es
    ≡ map entry_of (filter (λ f. is_inside lo hi f.0)
    (cons_option (option_map (λ (b : List ℕ). (e.0, b)) o) (filter_map body_entry (es))))) [
      | None ↦ picked_entries lo hi es
      | Some b ↦ elim (is_inside lo hi e.0) as
          (λ (t : Bool). cond t (record { key = e.0; body = b } ∷ []) []
          ++ flat_map (picked lo hi) es
          ≡ map entry_of (cond t ((e.0, b) ∷ filter (λ f. is_inside lo hi f.0)
          (filter_map body_entry (es)))
          (filter (λ f. is_inside lo hi f.0) (filter_map body_entry (es))))) [
            | true ↦ ap (λ (xs : List Entry). record { key = e.0; body = b } ∷ xs)
                (picked_entries lo hi es)
            | false ↦ picked_entries lo hi es
          ]
    ]

-- what the entries give is what the map has inside the span
pub selected_cells : (lo hi : List ℕ) (es : List (List ℕ × Cell))
    → IsStrictlySortedBy key_cmp (keys_of es)
    → flat_map (picked lo hi) es ≡ selected lo hi (bodies (cells_of es))
selected_cells lo hi es sorted =
    picked_entries lo hi es
    ∙ ap (λ (xs : List (List ℕ × List ℕ)). map entry_of (filter (λ f. is_inside lo hi f.0) xs))
    (sym (entries_bodies (cells_of es) ∙ ap (filter_map body_entry) (entries_cells es sorted)))

-- ---- the loop

-- what is still to be read gives the rest of all that is to be given
pub record IsGoing (lo hi : List ℕ) (total before out : List Entry)
    (left : List (List ℕ × Cell)) : Type 0 where
  pub gives : out ++ flat_map (picked lo hi) left ≡ total
  pub rest : IsRest lo left
  pub front : Extends before out

module _ (lo hi : List ℕ) (total before out : List Entry) (left next : List (List ℕ × Cell))
    (key : List ℕ) (cell : Cell) (going : IsGoing lo hi total before out left)
    (step : left ≡ (key, cell) ∷ next) where
  here : out ++ (picked lo hi (key, cell) ++ flat_map (picked lo hi) next) ≡ total
  here = subst (λ (es : List (List ℕ × Cell)). out ++ flat_map (picked lo hi) es ≡ total) step
      going.gives

  next_rest : IsRest lo next
  next_rest = (subst (IsRest lo) step going.rest).1.1

  within : (t : Bool) → is_up_to hi key ≡ t → is_inside lo hi key ≡ t
  within t up = (λ i. (subst (IsRest lo) step going.rest).0 i && up i)

  -- an entry was given
  pub gone_on : (entry : Entry) (body : List ℕ) (after : List Entry) → is_up_to hi key ≡ true
      → cell ≡ Some body → entry.key ≡ key → entry.body ≡ body → after ≡ out ++ entry ∷ []
      → IsGoing lo hi total before after next
  gone_on entry body after up some same_key same_body is =
      let entry_is : entry ≡ record { key = key; body = body } =
      λ i. record { key = same_key i; body = same_body i } in
      let given : out ++ entry ∷ [] ≡ out ++ picked lo hi (key, cell) =
      ap (λ (e : Entry). out ++ e ∷ []) entry_is
      ∙ ap (λ (es : List Entry). out ++ es)
      (sym (picked_some lo hi (key, cell) body (within true up) some)) in
      record {
        gives = ap (λ (es : List Entry). es ++ flat_map (picked lo hi) next) (is ∙ given)
            ∙ append_assoc out (picked lo hi (key, cell)) (flat_map (picked lo hi) next) ∙ here;
        rest = next_rest;
        front = (
          going.front.0 ++ entry ∷ [],
          is
              ∙ ap (λ (es : List Entry). es ++ entry ∷ []) going.front.1
              ∙ append_assoc before going.front.0 (entry ∷ []),
        );
      }

  -- there was none to give
  pub passed_over : cell ≡ None → IsGoing lo hi total before out next
  passed_over none = record {
    gives = ap (λ (es : List Entry). out ++ (es ++ flat_map (picked lo hi) next))
        (sym (picked_none lo hi (key, cell) none)) ∙ here;
    rest = next_rest;
    front = going.front;
  }

  -- a key outside ends it
  pub ended_outside : is_up_to hi key ≡ false → out ≡ total
  ended_outside past = sym (append-nil out)
      ∙ ap (λ (es : List Entry). out ++ es)
      (sym (none_from lo hi (key, cell) next (subst (IsRest lo) step going.rest)
      (within false past))) ∙ here

pub ended_last : (lo hi : List ℕ) (total before out : List Entry) (left : List (List ℕ × Cell))
    → IsGoing lo hi total before out left → left ≡ [] → out ≡ total
ended_last lo hi total before out left going none = sym (append-nil out)
    ∙ ap (λ (es : List (List ℕ × Cell)). out ++ flat_map (picked lo hi) es) (sym none) ∙ going.gives

-- what a range from the lower end on gives
pub range_gives : (lo : List ℕ) (low hi : List ℕ) (before : List Entry)
    (range es : List (List ℕ × Cell)) → lo ≡ low → range ≡ from_key lo es
    → IsStrictlySortedBy key_cmp (keys_of es)
    → before ++ flat_map (picked low hi) range ≡ before ++ selected low hi (bodies (cells_of es))
range_gives lo low hi before range es same is sorted =
    ap (λ (xs : List Entry). before ++ xs)
    (subst (λ (l : List ℕ). flat_map (picked l hi) range ≡ selected l hi (bodies (cells_of es)))
    same
    (ap (flat_map (picked lo hi)) is ∙ picked_range lo hi es ∙ selected_cells lo hi es sorted))

-- the loop begins
pub begun : (lo : List ℕ) (low hi : List ℕ) (before out : List Entry)
    (range es : List (List ℕ × Cell)) → lo ≡ low → range ≡ from_key lo es
    → IsStrictlySortedBy key_cmp (keys_of es) → out ≡ before
    → IsGoing low hi (before ++ flat_map (picked low hi) range) before out range
begun lo low hi before out range es same is sorted start = record {
  gives = ap (λ (xs : List Entry). xs ++ flat_map (picked low hi) range) start;
  rest = subst (λ (l : List ℕ). IsRest l range) same
      (subst (IsRest lo) (sym is) (rest_of_range lo es sorted));
  front = ([], start ∙ sym (append-nil before));
}
