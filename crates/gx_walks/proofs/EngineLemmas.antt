-- What an engine's calls find, as the records to which a link leads.
use Rattle.std.proofs.Common.{◌≡◌, ◌≤◌, ◌<◌, ◌+◌, ◌*◌, ◌∙◌, ℕ, List, [], ◌∷◌, ◌++◌, append-nil, length, map, cond, Bool, true, Option, Some, None, inl, inr, refl, sym, ap, subst, arith}
use Rattle.std.specs.Prelude.{filter}
use Rattle.std.specs.FinMap as fin
use Rattle.std.proofs.Math.Nat.{mul-le-mul_right}
use Rattle.std.proofs.lemmas.Bool.{true≢false, false_from_ne_true}
use Rattle.std.proofs.lemmas.List.Sorted.{IsPermutation-refl}
use Rattle.gx_laws.specs.Members.{In}
use Rattle.gx_values.specs.declared.values.Value.{Value}
use Rattle.gx_values.specs.declared.records.Rec.{Rec}
use Rattle.gx_values.specs.Values.{Fits}
use Rattle.gx_values.proofs.OrderLemmas.{value_cmp_total, value_cmp_same, same_value, value_itself}
use Rattle.gx_schema.specs.declared.schema.Schema.{Schema}
use Rattle.gx_schema.specs.Lookups.{file_at, link_at, key_kind}
use Rattle.gx_commands.specs.declared.path.Way.TheVariants.{Down, Up}
use Rattle.gx_gather.proofs.Entries.{find_in, in_find}
use Rattle.gx_model.specs.States.{File, State, Row, file_in, link_in, IsValid}
use Rattle.gx_model.specs.Found.{is_owner}
use Rattle.gx_scan.specs.Files.{rec_of}
use Rattle.gx_scan.specs.Within.{row_of}
use Rattle.gx_states.proofs.LinkLemmas.{key_fits, member_there, owner_there}
use Rattle.gx_engine.specs.Records.{AreOwner}
use Rattle.gx_walks.specs.Walks.{linked, AreThose}
use Rattle.gx_walks.proofs.SetLemmas.{settled}
use Rattle.gx_walks.proofs.Tests.{filter_all}

-- ---- records as rows

pub rows_again : (rows : List Row) → map row_of (map rec_of rows) ≡ rows
rows_again [] = refl
rows_again (r ∷ rows) = ap (λ (rs : List Row). r ∷ rs) (rows_again rows)

-- rows that are appended as records are
pub rows_appended : (out now : List Row) (start records : List Rec) (rows : List Row) → start ≡ []
    → records ≡ start ++ map rec_of rows → now ≡ out ++ map row_of records → now ≡ out ++ rows
rows_appended out now start records rows none are is =
    is ∙ ap (λ (rs : List Rec). out ++ map row_of rs)
    (are ∙ ap (λ (rs : List Rec). rs ++ map rec_of rows) none)
    ∙ ap (λ (rs : List Row). out ++ rs) (rows_again rows)

pub nothing_added : (out rows : List Row) → rows ≡ [] → out ≡ out ++ rows
nothing_added out rows none = sym (append-nil out) ∙ ap (λ (rs : List Row). out ++ rs) (sym none)

-- ---- keys that don't fit

none_pass : (test : Row → Bool) (rows : List Row) → ((r : Row) → test r ≡ true → ⊥)
    → filter test rows ≡ []
none_pass test [] none = refl
none_pass test (r ∷ rows) none = ap (λ b. cond b (r ∷ filter test rows) (filter test rows))
    (false_from_ne_true (test r) (none r)) ∙ none_pass test rows none

owner_is : (owner : Value) (o : Option Value) → is_owner owner o ≡ true → o ≡ Some owner
owner_is owner None e = absurd (true≢false (sym e))
owner_is owner (Some found) e = ap Some (same_value found owner e)

module _ (schema : Schema) (s : State) (link : ℕ) (key : Value) (valid : IsValid schema s)
    (lt : link < length schema.links) where
  -- a link leads nowhere from a value that is no key of its file
  pub none_down : (link_at schema link).owner < length schema.files
      → (Fits (key_kind (file_at schema (link_at schema link).owner)) key → ⊥)
      → linked s (link_at schema link).member (Down link) key ≡ []
  none_down within unfit = none_pass (λ to. is_owner key (fin.get (link_in s link) to.0))
      (fin.entries (file_in s (link_at schema link).member))
      (λ r is. unfit (key_fits (file_at schema (link_at schema link).owner)
      (file_in s (link_at schema link).owner) key (valid.files (link_at schema link).owner within)
      (owner_there s (link_at schema link) (link_in s link) r.0 key (valid.links link lt)
      (owner_is key (fin.get (link_in s link) r.0) is))))

  pub none_up : (link_at schema link).member < length schema.files
      → (Fits (key_kind (file_at schema (link_at schema link).member)) key → ⊥)
      → linked s (link_at schema link).owner (Up link) key ≡ []
  none_up within unfit = none_pass (λ to. is_owner to.0 (fin.get (link_in s link) key))
      (fin.entries (file_in s (link_at schema link).owner))
      (λ r is. unfit (key_fits (file_at schema (link_at schema link).member)
      (file_in s (link_at schema link).member) key (valid.files (link_at schema link).member within)
      (member_there s (link_at schema link) (link_in s link) key r.0 (valid.links link lt)
      (owner_is r.0 (fin.get (link_in s link) key) is))))

-- ---- the owner of a member

one_those : (f : File) (owner : Value) (values : List Value) → fin.get f owner ≡ Some values
    → AreThose f (λ to. is_owner to.0 (Some owner)) ((owner, values) ∷ [])
one_those f owner values there r = (
  λ h. elim h [
    | inl e ↦ (
      subst (λ (x : Row). In x (fin.entries f)) (sym e) (find_in value_cmp_same owner values
          (fin.entries f) (sym (fin.get-entries f owner) ∙ there)),
      ap (λ (x : Row). is_owner x.0 (Some owner)) e ∙ value_itself owner,
    )
    | inr none ↦ absurd none
  ],
  λ h.
      let key : owner ≡ r.0 = same_value owner r.0 h.1 in
      let found : Some values ≡ Some r.1 = sym there ∙ ap (fin.get f) key ∙ fin.get-entries f r.0
      ∙ in_find value_cmp_total r (fin.entries f) (fin.entries_sorted f) h.0 in
      inl (λ i. (sym key i, sym (same_some values r.1 found) i)),
)
  where
    same_some : (a b : List Value) → Some a ≡ Some b → a ≡ b
    same_some a b e = cc

-- the one record that a link leads to from a member
pub owner_rows : (f : File) (o : Option Value) (rows : List Row) → AreOwner f o rows
    → rows ≡ filter (λ (to : Row). is_owner to.0 o) (fin.entries f)
owner_rows f None rows is =
    is ∙ sym (none_pass (λ to. is_owner to.0 None) (fin.entries f) (λ r e. true≢false (sym e)))
owner_rows f (Some owner) rows is =
    let row : Row = (owner, is.0) in
    is.2 ∙ settled f (λ to. is_owner to.0 (Some owner)) [] (row ∷ []) (row ∷ [])
    (one_those f owner is.0 is.1) (IsPermutation-refl (row ∷ []))
    (λ k d first last. absurd (omega (arith, last)))
    ∙ ap (filter (λ (to : Row). is_owner to.0 (Some owner))) (filter_all (fin.entries f))

-- ---- steps

pub few_looks : (looks most before after cost : ℕ) → looks ≤ most → after ≤ before + looks * cost
    → after ≤ before + most * cost
few_looks looks most before after cost le steps =
    let more : looks * cost ≤ most * cost = mul-le-mul_right cost le in
    omega (arith, steps, more)
