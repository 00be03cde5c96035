-- The ends of pairs stay records where a file changes.
use Rattle.std.proofs.Common.{[], ◌≡◌, ℕ, zero, suc, ◌<◌, List, ◌∷◌, length, get_or, cond, Bool, true, false, Option, Some, None, refl, sym, ap, subst, ◌∙◌, arith, inl, inr}
use Rattle.std.specs.Prelude.{◌⊎◌, ◌≢◌, ◌&&◌, ◌||◌, ◌==◌, is_some, IsTrue}
use Rattle.std.specs.List.{list_any}
use Rattle.std.specs.FinMap as fin
use Rattle.std.proofs.lemmas.Bool.{cases_eq, or_parts, true≢false, eqb-true}
use Rattle.std.proofs.lemmas.List.{get_or-set_same, get_or-set_other}
use Rattle.gx_laws.proofs.BoolLemmas.{both_parts}
use Rattle.gx_laws.proofs.NumberLemmas.{same_number}
use Rattle.gx_values.specs.declared.values.Value.{Value}
use Rattle.gx_values.proofs.OrderLemmas.{value_cmp_total, same_value, value_itself, other_value}
use Rattle.gx_schema.specs.declared.schema.LinkDef.{LinkDef}
use Rattle.gx_schema.specs.Lookups.{no_link}
use Rattle.gx_mapping.specs.Rule.{In}
use Rattle.gx_gather.proofs.Lists.{all_of}
use Rattle.gx_links.specs.Links.{Link, is_same}
use Rattle.gx_links.proofs.MemberLemmas.{pair_in, in_pair}
use Rattle.gx_model.specs.States.{File, State, file_in, IsLinkOf}
use Rattle.gx_model.specs.Commands.{with_file, is_end_of, is_linked}
use Rattle.gx_states.proofs.LinkLemmas.{some_there, member_there, owner_there}

-- ---- a file changes

-- the file in its place after a change
pub file_here : (s : State) (i : ℕ) (f : File) → i < length s.files
    → file_in (with_file s i f) i ≡ f
file_here s i f lt = get_or-set_same s.files i f fin.empty lt

pub file_there : (s : State) (i j : ℕ) (f : File) → j ≢ i
    → file_in (with_file s i f) j ≡ file_in s j
file_there s i j f ne = get_or-set_other s.files i j f fin.empty ne

-- each record of the changed file that is an end of a pair is there
pub record EndsStay (def : LinkDef) (link : Link) (i : ℕ) (f : File) : Type 0 where
  pub members : def.member ≡ i → (m o : Value) → fin.get link m ≡ Some o
      → IsTrue (is_some (fin.get f m))
  pub owners : def.owner ≡ i → (m o : Value) → fin.get link m ≡ Some o
      → IsTrue (is_some (fin.get f o))

end_stays : (s : State) (i j : ℕ) (f : File) (k : Value) → i < length s.files
    → (j ≡ i → IsTrue (is_some (fin.get f k))) → IsTrue (is_some (fin.get (file_in s j) k))
    → IsTrue (is_some (fin.get (file_in (with_file s i f) j) k))
end_stays s i j f k lt here there = elim (cases_eq j i) [
  | inl e ↦ subst (λ (n : ℕ). IsTrue (is_some (fin.get (file_in (with_file s i f) n) k))) (sym e)
      (subst (λ (g : File). IsTrue (is_some (fin.get g k))) (sym (file_here s i f lt)) (here e))
  | inr ne ↦ subst (λ (g : File). IsTrue (is_some (fin.get g k))) (sym (file_there s i j f ne))
      there
]

pub link_stays : (s : State) (def : LinkDef) (link : Link) (i : ℕ) (f : File) → i < length s.files
    → EndsStay def link i f → IsLinkOf s def link → IsLinkOf (with_file s i f) def link
link_stays s def link i f lt stay is = record {
  members = all_of _ (fin.entries link)
      (λ pair h. end_stays s i def.member f pair.0 lt
      (λ e. stay.members e pair.0 pair.1 (in_pair link pair h))
      (member_there s def link pair.0 pair.1 is (in_pair link pair h)));
  owners = all_of _ (fin.entries link)
      (λ pair h. end_stays s i def.owner f pair.1 lt
      (λ e. stay.owners e pair.0 pair.1 (in_pair link pair h))
      (owner_there s def link pair.0 pair.1 is (in_pair link pair h)));
  few = is.few;
}

-- ---- a record comes or changes

inserted_there : (f : File) (k : Value) (vs : List Value) (x : Value)
    → IsTrue (is_some (fin.get f x)) → IsTrue (is_some (fin.get (fin.insert f k vs) x))
inserted_there f k vs x there =
    subst (λ (o : Option (List Value)). IsTrue (is_some o))
    (sym (fin.get-insert value_cmp_total f k vs x)) (go _ there)
  where
    go : (b : Bool) → IsTrue (is_some (fin.get f x))
        → IsTrue (is_some (cond b (Some vs) (fin.get f x)))
    go true h = refl
    go false h = h

-- no record goes, so the ends of pairs stay
pub inserted_stay : (s : State) (def : LinkDef) (link : Link) (i : ℕ) (k : Value) (vs : List Value)
    → IsLinkOf s def link → EndsStay def link i (fin.insert (file_in s i) k vs)
inserted_stay s def link i k vs is = record {
  members = λ e m o h. inserted_there (file_in s i) k vs m
      (subst (λ (n : ℕ). IsTrue (is_some (fin.get (file_in s n) m))) e
      (member_there s def link m o is h));
  owners = λ e m o h. inserted_there (file_in s i) k vs o
      (subst (λ (n : ℕ). IsTrue (is_some (fin.get (file_in s n) o))) e
      (owner_there s def link m o is h));
}

-- ---- a record goes

-- what isn't linked is no end of a pair of any link
pub no_end : (defs : List LinkDef) (links : List Link) (j file : ℕ) (key : Value) → j < length defs
    → j < length links → is_linked defs links file key ≡ false
    → is_end_of (get_or defs j no_link) (get_or links j fin.empty) file key ≡ false
no_end [] links j file key lt lt' e = absurd (omega arith)
no_end (def ∷ defs) [] j file key lt lt' e = absurd (omega arith)
no_end (def ∷ defs) (link ∷ links) zero file key lt lt' e = (or_parts _ _ e).0
no_end (def ∷ defs) (link ∷ links) (suc j) file key lt lt' e =
    no_end defs links j file key (omega arith) (omega arith) (or_parts _ _ e).1

pub other_number : (n m : ℕ) → (n ≡ m → ⊥) → (n == m) ≡ false
other_number n m ne = go (n == m) refl
  where
    go : (b : Bool) → (n == m) ≡ b → b ≡ false
    go true e = absurd (ne (eqb-true n m e))
    go false e = refl

both_false : (a b : Bool) → (a && b) ≡ false → a ≡ true → b ≡ false
both_false true b e t = e
both_false false b e t = absurd (true≢false (sym t))

-- no value passes a test that none passes
none_pass : {A : Type 0} (p : A → Bool) (xs : List A) (x : A) → list_any p xs ≡ false → In x xs
    → p x ≡ false
none_pass p [] x e h = absurd h
none_pass p (y ∷ xs) x e (inl is) = ap p is ∙ (or_parts _ _ e).0
none_pass p (y ∷ xs) x e (inr h) = none_pass p xs x (or_parts _ _ e).1 h

some_not : {A : Type 0} (o : Option A) (x : A) → o ≡ Some x → is_some o ≡ false → ⊥
some_not o x e none = true≢false (sym (ap is_some e) ∙ none)

removed_there : (f : File) (k x : Value) → x ≢ k → IsTrue (is_some (fin.get f x))
    → IsTrue (is_some (fin.get (fin.remove f k) x))
removed_there f k x ne there =
    subst (λ (o : Option (List Value)). IsTrue (is_some o))
    (sym (fin.get-remove value_cmp_total f k x
    ∙ ap (λ b. cond b None (fin.get f x)) (other_value x k ne))) there

pub removed_stay : (s : State) (def : LinkDef) (link : Link) (i : ℕ) (k : Value)
    → is_end_of def link i k ≡ false → IsLinkOf s def link
    → EndsStay def link i (fin.remove (file_in s i) k)
removed_stay s def link i k free is =
    let parts = or_parts _ _ free in
    record {
      members = λ e m o h.
          let none : is_some (fin.get link k) ≡ false = both_false _ _ parts.0
          (same_number def.member i e) in
          let ne : m ≢ k = λ same. some_not (fin.get link k) o (ap (fin.get link) (sym same) ∙ h)
          none in
          removed_there (file_in s i) k m ne
          (subst (λ (n : ℕ). IsTrue (is_some (fin.get (file_in s n) m))) e
          (member_there s def link m o is h));
      owners = λ e m o h.
          let none = both_false _ _ parts.1 (same_number def.owner i e) in
          let ne : o ≢ k = λ same. true≢false
          (sym (value_itself k) ∙ ap (λ (v : Value). is_same v k) (sym same)
          ∙ none_pass (λ pair. is_same pair.1 k) (fin.entries link) (m, o) none
          (pair_in link m o h)) in
          removed_there (file_in s i) k o ne
          (subst (λ (n : ℕ). IsTrue (is_some (fin.get (file_in s n) o))) e
          (owner_there s def link m o is h));
    }

-- an end of a pair is a record

either : (a b : Bool) → (a || b) ≡ true → (a ≡ true) ⊎ (b ≡ true)
either true b e = inl refl
either false b e = inr e

one_passes : {A : Type 0} (p : A → Bool) (xs : List A) → list_any p xs ≡ true → (x : A) × In x xs
    × (p x ≡ true)
one_passes p [] e = absurd (true≢false (sym e))
one_passes p (x ∷ xs) e = elim (either _ _ e) [
  | inl a ↦ (x, inl refl, a)
  | inr b ↦ (let r = one_passes p xs b in (r.0, inr r.1, r.2))
]

end_there : (s : State) (def : LinkDef) (link : Link) (file : ℕ) (key : Value) → IsLinkOf s def link
    → is_end_of def link file key ≡ true → is_some (fin.get (file_in s file) key) ≡ true
end_there s def link file key is e = elim (either _ _ e) [
  | inl a ↦ (
      let parts = both_parts _ _ a in
      let owned = some_there (fin.get link key) parts.1 in
      (subst (λ (n : ℕ). IsTrue (is_some (fin.get (file_in s n) key)))
      (eqb-true def.member file parts.0) (member_there s def link key owned.0 is owned.1)))
  | inr b ↦ (
      let parts = both_parts _ _ b in
      let pair = one_passes (λ pair. is_same pair.1 key) (fin.entries link) parts.1 in
      let there = owner_there s def link pair.0.0 pair.0.1 is (in_pair link pair.0 pair.1) in
      (subst (λ (n : ℕ). IsTrue (is_some (fin.get (file_in s n) key)))
      (eqb-true def.owner file parts.0)
      (subst (λ (k : Value). IsTrue (is_some (fin.get (file_in s def.owner) k)))
      (same_value pair.0.1 key pair.2) there)))
]

-- what is linked is there
pub linked_there : (s : State) (defs : List LinkDef) (links : List Link) (file : ℕ) (key : Value)
    → ((j : ℕ) → j < length defs → IsLinkOf s (get_or defs j no_link) (get_or links j fin.empty))
    → is_linked defs links file key ≡ true → is_some (fin.get (file_in s file) key) ≡ true
linked_there s [] links file key each e = absurd (true≢false (sym e))
linked_there s (def ∷ defs) [] file key each e = absurd (true≢false (sym e))
linked_there s (def ∷ defs) (link ∷ links) file key each e = elim (either _ _ e) [
  | inl a ↦ end_there s def link file key (each 0 (omega arith)) a
  | inr b ↦ linked_there s defs links file key (λ j lt. each (suc j) (omega (arith, lt))) b
]
