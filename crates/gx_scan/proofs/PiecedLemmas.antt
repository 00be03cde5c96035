-- Entries that are pieces of the bytes of records, read one after the other.
use Rattle.std.proofs.Common.{[], ◌≡◌, ℕ, zero, suc, ◌+◌, ◌/◌, ◌<◌, ◌≤◌, ◌⊎◌, List, ◌∷◌, ◌++◌, length, length-append, take, drop, get_or, map, Option, None, Some, inl, inr, refl, sym, ap, subst, ◌∙◌, arith, append-nil, append_assoc}
use Rattle.std.specs.Prelude.{filter, pos, slice_get, Bool, true, IsSomeAnd}
use Rattle.std.specs.Bool.{then_some}
use Rattle.std.specs.List.{AllByRecursion, flat_map}
use Rattle.std.proofs.lemmas.List.{length-map, length-take, take-append-drop, drop_more, map-append}
use Rattle.std.proofs.lemmas.List.Elements.{filter-append}
use Rattle.std.proofs.lemmas.Option.{slice_get_within, get_or_from_slice_get}
use Rattle.gx_values.specs.declared.values.Value.TheVariants as value
use Rattle.gx_values.specs.Keys.{bytes_of}
use Rattle.gx_actual.specs.Bodies.{body_of}
use Rattle.gx_divide.specs.Pieces.{cut, pieces}
use Rattle.gx_divide.specs.PieceLaws.{pieces_first, pieces_last}
use Rattle.gx_ports.specs.declared.leaves.Entry.{Entry}
use Rattle.gx_ports.specs.LeafMaps.{entry_of}
use Rattle.gx_mapping.specs.Rule.{In}
use Rattle.gx_gather.proofs.Lists.{in_right}
use Rattle.gx_model.specs.States.{Row}
use Rattle.gx_scan.specs.Pieces.{numbered_entries, piece_entries}
use Rattle.gx_scan.specs.Records.{list_of_one}

-- ---- one piece

less_or_more : (m n : ℕ) → (m < n) ⊎ (n ≤ m)
less_or_more m zero = inr (omega arith)
less_or_more zero (suc n) = inl (omega arith)
less_or_more (suc m) (suc n) = elim (less_or_more m n) [
  | inl less ↦ inl (omega (arith, less))
  | inr more ↦ inr (omega (arith, more))
]

-- the entries from an index on begin with the pieces of these bytes, from number j on
pub record AreAhead (size : ℕ) (key : List ℕ) (j : ℕ) (whole : List ℕ)
    (more es : List Entry) : Type 0
  where
    pub ahead : es ≡ map entry_of (numbered_entries key j (pieces size whole)) ++ more

-- the entry is the last of the pieces
pub record IsLast (size : ℕ) (whole : List ℕ) (more later : List Entry) (e : Entry) : Type 0 where
  pub short : length e.body < size
  pub body : e.body ≡ whole
  pub after : later ≡ more

-- others follow it
pub record IsFull (size : ℕ) (key : List ℕ) (j : ℕ) (whole : List ℕ) (more later : List Entry)
    (e : Entry) : Type 0 where
  pub long : length e.body ≡ size
  pub rest : List ℕ
  pub body : e.body ++ rest ≡ whole
  pub after : AreAhead size key (suc j) rest more later

pub record IsPiece (size : ℕ) (key : List ℕ) (j : ℕ) (whole : List ℕ) (more later : List Entry)
    (e : Entry) : Type 0 where
  pub key_is : e.key ≡ key ++ bytes_of (value.Int (pos j))
  pub is : IsLast size whole more later e ⊎ IsFull size key j whole more later e

pub piece_at : (size : ℕ) (key : List ℕ) (j : ℕ) (whole : List ℕ) (more es : List Entry) (i : ℕ)
    (e : Entry) → 0 < size → AreAhead size key j whole more (drop i es) → slice_get es i ≡ Some e
    → IsPiece size key j whole more (drop (i + 1) es) e
piece_at size key j whole more es i e some are at =
    let split : drop i es ≡ e ∷ drop (i + 1) es =
    drop_more es i e (slice_get_within es i e at)
    ∙ ap (λ (x : Entry). x ∷ drop (i + 1) es) (get_or_from_slice_get es i e e at) in
    let number = bytes_of (value.Int (pos j)) in
    elim (less_or_more (length whole) size) [
      | inl less ↦ (
          let both : e ∷ drop (i + 1) es ≡ entry_of (key ++ number, whole) ∷ more =
          sym split ∙ are.ahead
          ∙ ap (λ (ps : List (List ℕ)). map entry_of (numbered_entries key j ps) ++ more)
          (pieces_last size whole less) in
          let first : e ≡ entry_of (key ++ number, whole) =
          ap (λ (l : List Entry). get_or l 0 e) both in
          let body : e.body ≡ whole = ap (λ (x : Entry). x.body) first in
          record {
            key_is = ap (λ (x : Entry). x.key) first;
            is = inl (record {
              short = omega (arith, less, ap length body);
              body = body;
              after = ap (λ (l : List Entry). drop 1 l) both;
            });
          })
      | inr le ↦ (
          let rest = drop size whole in
          let both : e ∷ drop (i + 1) es
          ≡ entry_of (key ++ number, take size whole)
          ∷ (map entry_of (numbered_entries key (suc j) (pieces size rest)) ++ more) =
          sym split ∙ are.ahead
          ∙ ap (λ (ps : List (List ℕ)). map entry_of (numbered_entries key j ps) ++ more)
          (pieces_first size whole some le) in
          let first : e ≡ entry_of (key ++ number, take size whole) =
          ap (λ (l : List Entry). get_or l 0 e) both in
          let body : e.body ≡ take size whole = ap (λ (x : Entry). x.body) first in
          record {
            key_is = ap (λ (x : Entry). x.key) first;
            is = inr (record {
              long = omega (arith, le, ap length body, length-take size whole);
              rest = rest;
              body = ap (λ (l : List ℕ). l ++ rest) body ∙ take-append-drop size whole;
              after = record { ahead = ap (λ (l : List Entry). drop 1 l) both };
            });
          })
    ]

cut_some : (key : List ℕ) (j more size : ℕ) (bytes : List ℕ)
    → 1 ≤ length (numbered_entries key j (cut more size bytes))
cut_some key j zero size bytes = omega arith
cut_some key j (suc more) size bytes = omega arith

-- there is a piece
pub pieces_some : (size : ℕ) (key : List ℕ) (j : ℕ) (whole : List ℕ) (more es : List Entry)
    → AreAhead size key j whole more es → 1 ≤ length es
pieces_some size key j whole more es are =
    let front = numbered_entries key j (pieces size whole) in
    omega (
      arith,
      cut_some key j (length whole / size) size whole,
      ap length are.ahead,
      length-append (map entry_of front) more,
      length-map front entry_of,
    )

-- a record has a piece
record_some : (size : ℕ) (r : Row) → 1 ≤ length (piece_entries size r)
record_some size r = cut_some (bytes_of r.0) 0 (length (body_of r.1) / size) size (body_of r.1)

-- ---- the pieces of one record, some of which are read

pub record AreJoinedTo (size : ℕ) (key : List ℕ) (j : ℕ) (whole : List ℕ) (more es : List Entry)
    (before bytes : List ℕ) : Type 0 where
  pub rest : List ℕ
  pub left : AreAhead size key j rest more es
  pub joined : bytes ++ rest ≡ before ++ whole

module _ (size : ℕ) (key : List ℕ) (j : ℕ) (whole : List ℕ) (more es later : List Entry)
    (before bytes now : List ℕ) (e : Entry)
    (so_far : AreJoinedTo size key j whole more es before bytes)
    (pushed : now ≡ bytes ++ e.body) where
  -- with one more of them
  pub joined_more : (next : ℕ) → next ≡ suc j → IsFull size key j so_far.rest more later e
      → AreJoinedTo size key next whole more later before now
  joined_more next is full = record {
    rest = full.rest;
    left = subst (λ (n : ℕ). AreAhead size key n full.rest more later) (sym is) full.after;
    joined = ap (λ (l : List ℕ). l ++ full.rest) pushed ∙ append_assoc bytes e.body full.rest
        ∙ ap (λ (l : List ℕ). bytes ++ l) full.body ∙ so_far.joined;
  }

  -- with the last one
  pub joined_all : IsLast size so_far.rest more later e → now ≡ before ++ whole
  joined_all last = pushed ∙ ap (λ (l : List ℕ). bytes ++ l) last.body ∙ so_far.joined

-- ---- one record after the other

-- of these records some are read, of which those that meet the test are kept; the entries are the
-- pieces of those that are left
pub record AreReadTo (size : ℕ) (rs : List Row) (es : List Entry) (meets : Row → Bool)
    (before rows : List Row) : Type 0 where
  pub done : List Row
  pub left : List Row
  pub parts : rs ≡ done ++ left
  pub ahead : es ≡ map entry_of (flat_map (piece_entries size) left)
  pub kept : rows ≡ before ++ filter meets done

pub none_read : (size : ℕ) (rs : List Row) (es : List Entry) (meets : Row → Bool)
    (before rows : List Row) → es ≡ map entry_of (flat_map (piece_entries size) rs)
    → rows ≡ before → AreReadTo size rs es meets before rows
none_read size rs es meets before rows are same = record {
  done = [];
  left = rs;
  parts = refl;
  ahead = are;
  kept = same ∙ sym (append-nil before);
}

-- the record that is next
pub record IsNext (size : ℕ) (rs : List Row) (es : List Entry) (meets : Row → Bool)
    (before rows : List Row) : Type 0 where
  pub row : Row
  pub more : List Entry
  pub there : In row rs
  pub front : es ≡ map entry_of (piece_entries size row) ++ more
  pub then_read : (later : List Entry) (now : List Row) → later ≡ more
      → now ≡ rows ++ filter meets (row ∷ []) → AreReadTo size rs later meets before now

pub next_row : (size : ℕ) (rs : List Row) (es : List Entry) (meets : Row → Bool)
    (before rows : List Row) → AreReadTo size rs es meets before rows → 1 ≤ length es
    → IsNext size rs es meets before rows
next_row size rs es meets before rows are some = go are.left are.parts are.ahead
  where
    go : (left : List Row) → rs ≡ are.done ++ left
        → es ≡ map entry_of (flat_map (piece_entries size) left)
        → IsNext size rs es meets before rows
    go [] parts ahead = absurd (omega (arith, some, ap length ahead))
    go (r ∷ left) parts ahead =
        let more = map entry_of (flat_map (piece_entries size) left) in
        record {
          row = r;
          more = more;
          there = subst (In r) (sym parts) (in_right r are.done (r ∷ left) (inl refl));
          front = ahead
              ∙ map-append entry_of (piece_entries size r) (flat_map (piece_entries size) left);
          then_read = λ later now same pushed. record {
            done = are.done ++ r ∷ [];
            left = left;
            parts = parts ∙ sym (append_assoc are.done (r ∷ []) left);
            ahead = same;
            kept = pushed ∙ ap (λ (l : List Row). l ++ filter meets (r ∷ [])) are.kept
                ∙ append_assoc before (filter meets are.done) (filter meets (r ∷ []))
                ∙ ap (λ (l : List Row). before ++ l)
                (sym (filter-append meets are.done (r ∷ [])));
          };
        }

pub all_read : (size : ℕ) (rs : List Row) (es : List Entry) (meets : Row → Bool)
    (before rows : List Row) → AreReadTo size rs es meets before rows → length es ≡ 0
    → rows ≡ before ++ filter meets rs
all_read size rs es meets before rows are none = go are.left are.parts are.ahead
  where
    go : (left : List Row) → rs ≡ are.done ++ left
        → es ≡ map entry_of (flat_map (piece_entries size) left)
        → rows ≡ before ++ filter meets rs
    go [] parts ahead =
        are.kept ∙ ap (λ (l : List Row). before ++ filter meets l)
        (sym (parts ∙ append-nil are.done))
    go (r ∷ left) parts ahead =
        let here = piece_entries size r in
        let rest = flat_map (piece_entries size) left in
        absurd (omega (
          arith,
          none,
          ap length ahead,
          length-map (here ++ rest) entry_of,
          length-append here rest,
          record_some size r,
        ))

-- ---- what a search through the pieces gives

-- what follows the last piece, and what is joined
abbrev pub IsJoined : List Entry → List Entry → List ℕ → List ℕ → ℕ → Type 0
IsJoined es more bytes whole last = (drop (last + 1) es ≡ more) × (bytes ≡ whole)

-- the same, and which records are kept
abbrev pub IsAdded : List Entry → List Entry → List Row → List Row → ℕ → Type 0
IsAdded es more rows kept last = (drop (last + 1) es ≡ more) × (rows ≡ kept)

pub kept_some : {A : Type 0} (P : A → Type 0) (b : Bool) (x : A) (o : Option A)
    → o ≡ then_some b x → b ≡ true → P x → IsSomeAnd o P
kept_some P b x o is passed holds =
    subst (λ o. IsSomeAnd o P) (sym (is ∙ ap (λ (b : Bool). then_some b x) passed)) holds

-- ---- one record or none

pub none_pieced : (size : ℕ) (one : Option Row) (es : List Entry)
    → es ≡ map entry_of (flat_map (piece_entries size) (list_of_one one)) → es ≡ [] → one ≡ None
none_pieced size None es is none = refl
none_pieced size (Some r) es is none =
    let here = piece_entries size r in
    absurd (omega (
      arith,
      ap length none,
      ap length is,
      length-map (here ++ []) entry_of,
      length-append here [],
      record_some size r,
    ))

pub one_pieced : (size : ℕ) (P : Row → Type 0) (one : Option Row) (es : List Entry)
    → AllByRecursion P (list_of_one one)
    → es ≡ map entry_of (flat_map (piece_entries size) (list_of_one one)) → (es ≡ [] → ⊥)
    → (r : Row) × (one ≡ Some r) × P r × (es ≡ map entry_of (piece_entries size r))
one_pieced size P None es all is some = absurd (some is)
one_pieced size P (Some r) es all is some =
    (r, refl, all.0, is ∙ ap (map entry_of) (append-nil (piece_entries size r)))
