-- Entries of two leaves, joined by their keys.
use Rattle.std.proofs.Common.{[], ◌≡◌, ◌≢◌, ℕ, zero, suc, ◌+◌, ◌<◌, List, ◌∷◌, ◌++◌, length, take, drop, get_or, map, cond, Bool, true, false, Some, nat_eq, inl, refl, sym, ap, subst, ◌∙◌, arith, append-nil}
use Rattle.std.specs.Prelude.{pos, filter, not, slice_get, ◌&&◌}
use Rattle.std.specs.List.{AllByRecursion, list_all}
use Rattle.std.specs.Ordering.{nat_cmp}
use Rattle.std.specs.declared.cmp.Ordering.TheVariants.{Less}
use Rattle.std.specs.Cmp.Lexicographic.{pointwise, slice_cmp, nat_list_cmp_total}
use Rattle.std.proofs.lemmas.Cmp.{nat_list_eq_equiv}
use Rattle.std.proofs.lemmas.Slice.Eq.{slice_eq-Decides}
use Rattle.std.proofs.lemmas.Bool.Decides.{Decides-eqb}
use Rattle.std.proofs.lemmas.Bool.{true≢false}
use Rattle.std.proofs.lemmas.List.{length-map, length-drop, take_more, drop_more}
use Rattle.std.proofs.lemmas.Grind.{flat_map-append}
use Rattle.std.proofs.lemmas.Option.{slice_get_within, get_or_from_slice_get}
use Rattle.gx_laws.proofs.ListLemmas.{turned_at}
use Rattle.gx_values.specs.declared.values.Value.{Value}
use Rattle.gx_values.specs.declared.values.Value.TheVariants as value
use Rattle.gx_values.specs.declared.records.Field.{Field}
use Rattle.gx_values.specs.Values.{Fits, AreFit, default_of}
use Rattle.gx_values.specs.Keys.{bytes_of, IsKeyKind}
use Rattle.gx_values.proofs.OrderLemmas.{key_order}
use Rattle.gx_schema.specs.declared.schema.FileDef.{FileDef}
use Rattle.gx_schema.specs.Lookups.{key_kind}
use Rattle.gx_commands.specs.declared.command.Cond.{Cond}
use Rattle.gx_ports.specs.declared.leaves.Entry.{Entry}
use Rattle.gx_ports.specs.LeafMaps.{entry_of}
use Rattle.gx_actual.specs.Bodies.{field_bytes, body_of}
use Rattle.gx_mapping.specs.Rule.{In}
use Rattle.gx_mapping.proofs.RuleLemmas.{all_in}
use Rattle.gx_gather.proofs.Lists.{from_map, in_filter, all_of}
use Rattle.gx_gather.proofs.Orders.{Ascends, not_before_itself}
use Rattle.gx_split.specs.Groups.{chosen, defaults_of, are_default}
use Rattle.gx_mapping.proofs.FieldLemmas.{fit_at, fit_length}
use Rattle.gx_split.specs.GroupLaws.{chosen_fit, only_defaults}
use Rattle.gx_model.specs.States.{Row, IsRowOf}
use Rattle.gx_model.specs.Found.{meets_cond, meets_conds}
use Rattle.gx_scan.specs.declared.groups.Groups.{Groups}
use Rattle.gx_scan.specs.Groups.{has_others, other_entry}
use Rattle.gx_scan.proofs.PlaceLemmas.{key_cmp}

abbrev none : Value
none = value.Int (pos 0)

-- ---- bytes that are compared

pub same_bytes : (a b : List ℕ) → pointwise nat_eq a b ≡ true → a ≡ b
same_bytes a b e = (slice_eq-Decides Decides-eqb a b (pointwise nat_eq a b) refl).0 e

pub other_bytes : (a b : List ℕ) → pointwise nat_eq a b ≡ false → a ≡ b → ⊥
other_bytes a b e same = true≢false (sym (nat_list_eq_equiv.refl a)
    ∙ ap (pointwise nat_eq a) same ∙ e)

-- ---- what a mask chooses from a number on

chosen_more : {A : Type 0} (mask : List Bool) (xs : List A) (i : ℕ) (d : A) (b : Bool)
    → i < length mask
    → length mask ≡ length xs → b ≡ get_or mask i false
    → chosen (drop i mask) (drop i xs)
    ≡ cond b (get_or xs i d ∷ chosen (drop (suc i) mask) (drop (suc i) xs)) (chosen (drop (suc i)
    mask) (drop (suc i) xs))
chosen_more [] xs i d b lt same at = absurd (omega arith)
chosen_more (m ∷ mask) [] i d b lt same at = absurd (omega arith)
chosen_more (m ∷ mask) (x ∷ xs) zero d b lt same at = λ j. cond (sym at j) (x ∷ chosen mask xs)
    (chosen mask xs)
chosen_more (m ∷ mask) (x ∷ xs) (suc i) d b lt same at = chosen_more mask xs i d b (omega arith)
    (omega arith) at

pub chosen_next : {A : Type 0} (mask : List Bool) (xs : List A) (i : ℕ) (d : A) (b : Bool)
    → i < length mask
    → length mask ≡ length xs → b ≡ get_or mask i false
    → chosen (drop i mask) (drop i xs)
    ≡ cond b (get_or xs i d ∷ chosen (drop (i + 1) mask) (drop (i + 1) xs)) (chosen (drop (i + 1)
    mask) (drop (i + 1) xs))
chosen_next {A} mask xs i d b lt same at =
    chosen_more mask xs i d b lt same at
    ∙ (let next : suc i ≡ i + 1 = omega arith in
    ap (λ n. cond b (get_or xs i d ∷ chosen (drop n mask) (drop n xs)) (chosen (drop n mask) (drop n
    xs))) next)

-- the defaults of the fields that a mask leaves out
defaults_cond : (b : Bool) (f : Field) (fs : List Field)
    → body_of (defaults_of (cond (not b) (f ∷ fs) fs))
    ≡ cond b (body_of (defaults_of fs)) (field_bytes (default_of f) ++ body_of (defaults_of fs))
defaults_cond true f fs = refl
defaults_cond false f fs = refl

pub defaults_next : (fields : List Field) (mask : List Bool) (i : ℕ) (f : Field) (b : Bool)
    → i < length fields → length mask ≡ length fields → f ≡ get_or fields i f → b
    ≡ get_or mask i false
    → body_of (defaults_of (chosen (drop i (map not mask)) (drop i fields)))
    ≡ cond b (body_of (defaults_of (chosen (drop (i + 1) (map not mask)) (drop (i + 1) fields))))
    (field_bytes (default_of f) ++ body_of (defaults_of (chosen (drop (i + 1) (map not mask)) (drop
    (i + 1) fields))))
defaults_next fields mask i f b lt long item at =
    ap (λ (fs : List Field). body_of (defaults_of fs))
    (chosen_next (map not mask) fields i f (not b) (omega (arith, lt, long, length-map mask not))
    (omega (arith, long, length-map mask not)) (turned_at mask i b (omega (arith, lt, long)) at)
    ∙ ap (λ (g : Field). cond (not b) (g ∷ chosen (drop (i + 1) (map not mask)) (drop (i + 1)
    fields)) (chosen (drop (i + 1) (map not mask)) (drop (i + 1) fields))) (sym item))
    ∙ defaults_cond b f (chosen (drop (i + 1) (map not mask)) (drop (i + 1) fields))

-- a value that isn't chosen, and one that is
pub left_out : (b : Bool) (x y : List ℕ) → b ≡ false → cond b x y ≡ y
left_out true x y e = cc
left_out false x y e = refl

pub kept : (b : Bool) (x y : List ℕ) → b ≡ true → cond b x y ≡ x
kept true x y e = refl
kept false x y e = cc

-- ---- the entries of the second leaf, from a number on

module _ (g : Groups) (fields : List Field) (others : List Entry) (at : ℕ) (r : Row) (rs : List Row)
    (same : drop at others ≡ map (λ (q : Row). entry_of (other_entry g q)) (filter (has_others
    g.mask.now fields) (r ∷ rs))) where
  abbrev pub later : List Entry
  later = map (λ (q : Row). entry_of (other_entry g q)) (filter (has_others g.mask.now fields) rs)

  with_it : has_others g.mask.now fields r ≡ true → drop at others
      ≡ entry_of (other_entry g r) ∷ later
  with_it has = same ∙ ap (λ b. map (λ (q : Row). entry_of (other_entry g q)) (cond b (r ∷ filter
      (has_others g.mask.now fields) rs) (filter (has_others g.mask.now fields) rs))) has

  -- a record with none there
  pub without_it : has_others g.mask.now fields r ≡ false → drop at others ≡ later
  without_it has = same ∙ ap (λ b. map (λ (q : Row). entry_of (other_entry g q)) (cond b (r ∷ filter
      (has_others g.mask.now fields) rs) (filter (has_others g.mask.now fields) rs))) has

  pub some_there : has_others g.mask.now fields r ≡ true → at < length others
  some_there has = omega (arith, ap length (with_it has), length-drop at others)

  -- the entry there, and those that follow
  front : (e : Entry) → slice_get others at ≡ Some e → drop at others ≡ e ∷ drop (at + 1) others
  front e h = drop_more others at e (slice_get_within others at e h)
      ∙ ap (λ (x : Entry). x ∷ drop (at + 1) others) (get_or_from_slice_get others at e e h)

  pub is_there : has_others g.mask.now fields r ≡ true → (e : Entry) → slice_get others at
      ≡ Some e
      → (e ≡ entry_of (other_entry g r)) × (drop (at + 1) others ≡ later)
  is_there has e h =
      let both = sym (front e h) ∙ with_it has in
      (ap (λ (l : List Entry). get_or l 0 e) both, ap (λ (l : List Entry). drop 1 l) both)

  -- where it has none there, the entry is that of a later record
  pub later_there : has_others g.mask.now fields r ≡ false → (e : Entry) → slice_get others at
      ≡ Some e
      → (q : Row) × In q rs × (e ≡ entry_of (other_entry g q))
  later_there has e h =
      let there : In e later = subst (In e) (sym (front e h) ∙ without_it has) (inl refl) in
      let q = from_map (λ (q : Row). entry_of (other_entry g q)) e (filter (has_others g.mask.now
      fields) rs) there in
      (q.0, (in_filter (has_others g.mask.now fields) q.0 rs q.1).0, q.2)

  pub no_later : has_others g.mask.now fields r ≡ false → (e : Entry) → slice_get others at
      ≡ Some e
      → AllByRecursion (λ (q : Row). bytes_of q.0 ≢ bytes_of r.0) rs → e.key ≡ bytes_of r.0 → ⊥
  no_later has e h differ key =
      let q = later_there has e h in
      all_in (λ (q : Row). bytes_of q.0 ≢ bytes_of r.0) rs q.0 differ q.1 (sym (ap (λ (x : Entry).
      x.key) q.2) ∙ key)

  pub defaults_there : has_others g.mask.now fields r ≡ false → AreFit fields r.1
      → body_of (defaults_of (chosen (map not g.mask.now) fields))
      ≡ body_of (chosen (map not g.mask.now) r.1)
  defaults_there has fit =
      let others = map not g.mask.now in
      ap body_of (sym (only_defaults (chosen others fields) (chosen others r.1) (chosen_fit others
      fields r.1 fit) (defaults (are_default (chosen others fields) (chosen others r.1)) has)))
    where
      defaults : (b : Bool) → not b ≡ false → b ≡ true
      defaults true e = refl
      defaults false e = cc

-- ---- from record to record

-- the record at a number, and those after it
pub drop_row : (rs : List Row) (i : ℕ) (r : Row) → take (i + 1) rs ≡ take i rs ++ r ∷ []
    → drop i rs ≡ r ∷ drop (i + 1) rs
drop_row rs i r more =
    (let next : i + 1 ≡ suc i = omega arith in
    go rs i (sym (ap (λ n. take n rs) next) ∙ more) ∙ ap (λ n. r ∷ drop n rs) (sym next))
  where
    go : (rs : List Row) (i : ℕ) → take (suc i) rs ≡ take i rs ++ r ∷ [] → drop i rs
        ≡ r ∷ drop (suc i) rs
    go [] zero more = absurd (omega (arith, ap length more))
    go [] (suc i) more = absurd (omega (arith, ap length more))
    go (x ∷ rs) zero more = ap (λ (y : Row). y ∷ rs) (ap (λ (l : List Row). get_or l 0 r) more)
    go (x ∷ rs) (suc i) more = go rs i (ap (λ (l : List Row). drop 1 l) more)

drop_ascends : (rs : List Row) (i : ℕ) → Ascends key_cmp rs → Ascends key_cmp (drop i rs)
drop_ascends rs zero a = a
drop_ascends [] (suc i) a = tt
drop_ascends (r ∷ rs) (suc i) a = drop_ascends rs i a.1

drop_fits : (P : Row → Type 0) (rs : List Row) (i : ℕ) → AllByRecursion P rs
    → AllByRecursion P (drop i rs)
drop_fits P rs zero all = all
drop_fits P [] (suc i) all = tt
drop_fits P (r ∷ rs) (suc i) all = drop_fits P rs i all.1

-- later records have other keys
pub differ_later : (file : FileDef) (rs : List Row) (i : ℕ) (r : Row) → IsKeyKind (key_kind file)
    → AllByRecursion (IsRowOf file) rs → Ascends key_cmp rs → IsRowOf file r → drop i rs
    ≡ r ∷ drop (i + 1) rs
    → AllByRecursion (λ (q : Row). bytes_of q.0 ≢ bytes_of r.0) (drop (i + 1) rs)
differ_later file rs i r kind fits order fit at =
    let later = drop (i + 1) rs in
    let a = subst (Ascends key_cmp) at (drop_ascends rs i order) in
    let f = drop_fits (IsRowOf file) rs (i + 1) fits in
    all_of (λ (q : Row). bytes_of q.0 ≢ bytes_of r.0) later (λ q h same.
    let less : slice_cmp nat_cmp (bytes_of r.0) (bytes_of q.0) ≡ Less =
    key_order (key_kind file) r.0 q.0 kind fit.0 (all_in (IsRowOf file) later q f h).0
    ∙ all_in (λ (q : Row). key_cmp r q ≡ Less) later q a.0 h in
    not_before_itself nat_list_cmp_total (bytes_of r.0) (ap (slice_cmp nat_cmp (bytes_of r.0)) (sym
    same) ∙ less))
