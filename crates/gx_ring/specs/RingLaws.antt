-- The rows of a ring keep the laws of rows.
use Rattle.std.proofs.Common.{◌≡◌, ◌<◌, ℕ, suc, pos, List, [], ◌∷◌, ◌⊎◌, inl, inr, Option, Some, None, refl, sym, ap, subst, ◌∙◌, get_or, true, arith}
use Rattle.std.specs.FinMap as fin
use Rattle.std.specs.declared.cmp.Ordering.TheVariants.{Less}
use Rattle.std.proofs.lemmas.Option.{same_Some}
use Rattle.gx_values.specs.declared.values.Kind.{Kind}
use Rattle.gx_values.specs.declared.values.Kind.TheVariants as kind
use Rattle.gx_values.specs.declared.values.Value.{Value}
use Rattle.gx_values.specs.declared.values.Value.TheVariants as value
use Rattle.gx_values.specs.declared.records.Form.{Form}
use Rattle.gx_values.specs.declared.records.Rec.{Rec}
use Rattle.gx_values.specs.Values.{value_cmp, Fits, no_value}
use Rattle.gx_values.specs.Keys.{bytes_of}
use Rattle.gx_values.proofs.KeyLemmas.{fit_bytes}
use Rattle.gx_values.proofs.OrderLemmas.{value_cmp_total}
use Rattle.gx_mapping.specs.declared.parts.Part.{Part}
use Rattle.gx_mapping.specs.Rule.{Rule, In, IsOf}
use Rattle.gx_mapping.specs.Laws.{MappingLaws}
use Rattle.gx_mapping.proofs.RuleLemmas.{all_in}
use Rattle.gx_gather.specs.Gather.{part_for}
use Rattle.gx_gather.proofs.Lists.{in_each, from_each, in_map, from_map, none_some}
use Rattle.gx_gather.proofs.Orders.{Ascends, not_before_itself}
use Rattle.gx_stack.specs.Tree.{Tree, tree_form}
use Rattle.gx_links.specs.Kinds.{kinds_of}
use Rattle.gx_links.specs.Links.{Link, members_of, owners_of}
use Rattle.gx_links.specs.Linksets.{LinksetLaws}
use Rattle.gx_links.specs.Rows.{link_parts, two_forms, RowLaws, IsHeldLink, two_nodes, owner_kind, member_kind}
use Rattle.gx_links.proofs.KindLemmas.{fit_fields}
use Rattle.gx_links.proofs.MemberLemmas.{in_members, from_members, members_ascend, owner_there, same_link}
use Rattle.gx_links.proofs.RowLemmas.{linkset_laws}
use Rattle.gx_ring.specs.Ring.{first, head_rec, chain_rec, chain, ring_rows, next_kind, IsRing, ring_rule, key_value}

-- ---- the chain of one owner

pub tells_key : (o m : Value) (n : Option Value) → (chain_rec o m n).key ≡ m ∷ []
tells_key o m None = refl
tells_key o m (Some n) = refl

pub tells : (o m : Value) (n : Option Value) → key_value (chain_rec o m n) ≡ m
tells o m n = ap (λ ks. get_or ks 0 no_value) (tells_key o m n)

-- the owner in a record of the chain
abbrev pub owner_in : Rec → Value
owner_in r = get_or r.fields 2 no_value

pub tells_owner : (o m : Value) (n : Option Value) → owner_in (chain_rec o m n) ≡ o
tells_owner o m None = refl
tells_owner o m (Some n) = refl

pub in_chain : (o : Value) (ms : List Value) (r : Rec) → In r (chain o ms) → In (key_value r) ms
in_chain o [] r h = absurd h
in_chain o (m ∷ ms) r (inl e) = inl (ap key_value e ∙ tells o m (first ms))
in_chain o (m ∷ ms) r (inr h) = inr (in_chain o ms r h)

pub key_in_chain : (o : Value) (ms : List Value) (r : Rec) → In r (chain o ms)
    → r.key ≡ key_value r ∷ []
key_in_chain o [] r h = absurd h
key_in_chain o (m ∷ ms) r (inl e) =
    ap (λ (q : Rec). q.key) e ∙ tells_key o m (first ms) ∙ ap (λ z. z ∷ [])
    (sym (ap key_value e ∙ tells o m (first ms)))
key_in_chain o (m ∷ ms) r (inr h) = key_in_chain o ms r h

pub owner_in_chain : (o : Value) (ms : List Value) (r : Rec) → In r (chain o ms) → owner_in r ≡ o
owner_in_chain o [] r h = absurd h
owner_in_chain o (m ∷ ms) r (inl e) = ap owner_in e ∙ tells_owner o m (first ms)
owner_in_chain o (m ∷ ms) r (inr h) = owner_in_chain o ms r h

-- each member has a record
pub chain_of : (o m : Value) (ms : List Value) → In m ms
    → (r : Rec) × In r (chain o ms) × (r.key ≡ m ∷ [])
chain_of o m [] h = absurd h
chain_of o m (x ∷ ms) (inl e) =
    (chain_rec o x (first ms), inl refl, tells_key o x (first ms) ∙ ap (λ z. z ∷ []) (sym e))
chain_of o m (x ∷ ms) (inr h) = (let q = chain_of o m ms h in (q.0, inr q.1, q.2))

chain_once : (o : Value) (ms : List Value) → Ascends value_cmp ms → (r s : Rec) → In r (chain o ms)
    → In s (chain o ms) → r.key ≡ s.key → r ≡ s
chain_once o [] up r s h k e = absurd h
chain_once o (m ∷ ms) up r s (inl a) (inl b) e = a ∙ sym b
chain_once o (m ∷ ms) up r s (inl a) (inr k) e =
    let same : key_value s ≡ m =
    ap (λ ks. get_or ks 0 no_value) (sym e) ∙ ap key_value a ∙ tells o m (first ms) in
    absurd (not_before_itself value_cmp_total m
    (subst (λ z. value_cmp m z ≡ Less) same
    (all_in _ ms (key_value s) up.0 (in_chain o ms s k))))
chain_once o (m ∷ ms) up r s (inr h) (inl b) e =
    let same : key_value r ≡ m =
    ap (λ ks. get_or ks 0 no_value) e ∙ ap key_value b ∙ tells o m (first ms) in
    absurd (not_before_itself value_cmp_total m
    (subst (λ z. value_cmp m z ≡ Less) same
    (all_in _ ms (key_value r) up.0 (in_chain o ms r h))))
chain_once o (m ∷ ms) up r s (inr h) (inr k) e = chain_once o ms up.1 r s h k e

-- ---- the rows of one owner

-- the head of an owner with these members
pub record IsHead (o : Value) (ms : List Value) (h : Rec) : Type 0 where
  pub member : Value
  pub others : List Value
  pub members : ms ≡ member ∷ others
  pub is : h ≡ head_rec o member

pub head_row : (o : Value) (ms : List Value) (h : Rec) → IsHead o ms h
    → In (part_for 0 h) (ring_rows o ms)
head_row o ms h is =
    subst (λ zs. In (part_for 0 h) (ring_rows o zs)) (sym is.members) (inl (ap (part_for 0) is.is))

pub chain_row : (o : Value) (ms : List Value) (r : Rec) → In r (chain o ms)
    → In (part_for 1 r) (ring_rows o ms)
chain_row o [] r h = absurd h
chain_row o (m ∷ ms) r h = inr (in_map (part_for 1) r (chain o (m ∷ ms)) h)

pub row_cases : (o : Value) (ms : List Value) (p : Part) → In p (ring_rows o ms)
    → ((p.child ≡ 0) × IsHead o ms p.rec) ⊎ ((p.child ≡ 1) × In p.rec (chain o ms))
row_cases o [] p h = absurd h
row_cases o (m ∷ ms) p (inl e) =
    inl (
      ap (λ (q : Part). q.child) e,
      record {
        member = m;
        others = ms;
        members = refl;
        is = ap (λ (q : Part). q.rec) e;
      },
    )
row_cases o (m ∷ ms) p (inr h) =
    let r = from_map (part_for 1) p (chain o (m ∷ ms)) h in
    inr (
      ap (λ (q : Part). q.child) r.2,
      subst (λ x. In x (chain o (m ∷ ms)))
          (sym (ap (λ (q : Part). q.rec) r.2)) r.1,
    )

-- ---- the rows of a link

pub row_of : (link : Link) (p : Part) → In p (link_parts ring_rows link)
    → (o : Value) × In p (ring_rows o (members_of link o))
row_of link p h = let o =
    from_each (λ x. ring_rows x (members_of link x)) p (owners_of link) h in (o.0, o.2)

pub of_row : (link : Link) (o : Value) (p : Part) → In p (ring_rows o (members_of link o))
    → In p (link_parts ring_rows link)
of_row link o p h =
    in_each (λ x. ring_rows x (members_of link x)) o p (owners_of link)
    (go (members_of link o) refl h) h
  where
    go : (ms : List Value) → members_of link o ≡ ms → In p (ring_rows o ms) → In o (owners_of link)
    go [] is k = absurd k
    go (m ∷ ms) is k =
        owner_there link o m (from_members link o m (subst (In m) (sym is) (inl refl)))

-- a record of the chain tells the owner of its member
pub owned_in_chain : (link : Link) (o : Value) (r : Rec) → In r (chain o (members_of link o))
    → fin.get link (key_value r) ≡ Some o
owned_in_chain link o r h = from_members link o (key_value r) (in_chain o (members_of link o) r h)

pub head_once : (link : Link) (o q : Value) (r s : Rec) → IsHead o (members_of link o) r
    → IsHead q (members_of link q) s → r.key ≡ s.key → r ≡ s
head_once link o q r s a b e =
    let owners : o ≡ q =
    ap (λ ks. get_or ks 0 no_value)
    (sym (ap (λ (x : Rec). x.key) a.is) ∙ e ∙ ap (λ (x : Rec). x.key) b.is) in
    let members : a.member ≡ b.member =
    ap (λ ms. get_or ms 0 no_value) (sym a.members ∙ ap (members_of link) owners ∙ b.members) in
    a.is ∙ (λ i. head_rec (owners i) (members i)) ∙ sym b.is

pub chained_once : (link : Link) (o q : Value) (r s : Rec) → In r (chain o (members_of link o))
    → In s (chain q (members_of link q)) → r.key ≡ s.key → r ≡ s
chained_once link o q r s h k e =
    let owners : q ≡ o =
    same_Some q o
    (sym (owned_in_chain link q s k) ∙ ap (λ ks. fin.get link (get_or ks 0 no_value))
    (sym e) ∙ owned_in_chain link o r h) in
    chain_once o (members_of link o) (members_ascend link o) r s h
    (subst (λ x. In s (chain x (members_of link x))) owners k) e

pub zero_one : (n m : ℕ) → n ≡ 0 → m ≡ 1 → n ≡ m → ⊥
zero_one n m a b e = omega (arith, a, b, e)

same_rows : (link : Link) (p q : Part) → In p (link_parts ring_rows link)
    → In q (link_parts ring_rows link) → p.child ≡ q.child → p.rec.key ≡ q.rec.key → p ≡ q
same_rows link p q h k child key =
    let a = row_of link p h in
    let b = row_of link q k in
    elim (row_cases a.0 (members_of link a.0) p a.1) [
      | inl x ↦ elim (row_cases b.0 (members_of link b.0) q b.1) [
        | inl y ↦ (let rec = head_once link a.0 b.0 p.rec q.rec x.1 y.1 key in λ i.
            record { child = child i; rec = rec i })
        | inr y ↦ absurd (zero_one p.child q.child x.0 y.0 child)
      ]
      | inr x ↦ elim (row_cases b.0 (members_of link b.0) q b.1) [
        | inl y ↦ absurd (zero_one q.child p.child y.0 x.0 (sym child))
        | inr y ↦ (let rec = chained_once link a.0 b.0 p.rec q.rec x.1 y.1 key in λ i.
            record { child = child i; rec = rec i })
      ]
    ]

-- the pairs of a link whose rows are among those of another one are among its pairs
pairs_there : (link other : Link)
    → ((p : Part) → In p (link_parts ring_rows link) → In p (link_parts ring_rows other))
    → (m o : Value) → fin.get link m ≡ Some o → fin.get other m ≡ Some o
pairs_there link other to m o owned =
    let r = chain_of o m (members_of link o) (in_members link o m owned) in
    let there =
    row_of other (part_for 1 r.0)
    (to (part_for 1 r.0)
    (of_row link o (part_for 1 r.0) (chain_row o (members_of link o) r.0 r.1))) in
    elim (row_cases there.0 (members_of other there.0) (part_for 1 r.0) there.1) [
      | inl x ↦ absurd (zero_one 1 1 x.0 refl refl)
      | inr x ↦ (
          let owners : there.0 ≡ o =
          sym (owner_in_chain there.0 (members_of other there.0) r.0 x.1) ∙ owner_in_chain o
          (members_of link o) r.0 r.1 in
          ap (fin.get other)
          (ap (λ ks. get_or ks 0 no_value) (sym r.2)) ∙ owned_in_chain other there.0 r.0 x.1 ∙
          ap Some owners)
    ]

module _ (owner member : Kind) (heads nexts : Form) (head_keys : kinds_of heads.keys ≡ owner ∷ [])
    (head_fields : kinds_of heads.fields ≡ member ∷ [])
    (chain_keys : kinds_of nexts.keys ≡ member ∷ [])
    (chain_fields : kinds_of nexts.fields ≡ kind.Int ∷ next_kind owner member ∷ owner ∷ []) where
  pub head_fits : (o m : Value) → Fits owner o → Fits member m → IsOf heads (head_rec o m)
  head_fits o m fit_o fit_m = record {
    key = fit_fields heads.keys (owner ∷ []) (o ∷ []) head_keys (fit_o, tt);
    fields = fit_fields heads.fields (member ∷ []) (m ∷ []) head_fields (fit_m, tt);
  }

  pub chain_fits : (o m : Value) (n : Option Value) → Fits owner o → Fits member m
      → ((x : Value) → n ≡ Some x → Fits member x) → IsOf nexts (chain_rec o m n)
  chain_fits o m None fit_o fit_m fit_n = record {
    key = fit_fields nexts.keys (member ∷ []) (m ∷ []) chain_keys (fit_m, tt);
    fields =
        fit_fields nexts.fields (kind.Int ∷ next_kind owner member ∷ owner ∷ [])
        (value.Int (pos 1) ∷ value.Bytes (bytes_of o) ∷ o ∷ []) chain_fields
        (omega arith, (omega (arith, fit_bytes owner o fit_o), (fit_o, tt)));
  }
  chain_fits o m (Some x) fit_o fit_m fit_n = record {
    key = fit_fields nexts.keys (member ∷ []) (m ∷ []) chain_keys (fit_m, tt);
    fields =
        fit_fields nexts.fields (kind.Int ∷ next_kind owner member ∷ owner ∷ [])
        (value.Int (pos 0) ∷ value.Bytes (bytes_of x) ∷ o ∷ []) chain_fields
        (omega arith, (omega (arith, fit_bytes member x (fit_n x refl)), (fit_o, tt)));
  }

  fits_in_chain : (o : Value) (ms : List Value) (r : Rec) → Fits owner o
      → ((m : Value) → In m ms → Fits member m) → In r (chain o ms) → IsOf nexts r
  fits_in_chain o [] r fit_o fit_ms h = absurd h
  fits_in_chain o (m ∷ ms) r fit_o fit_ms (inl e) =
      subst (IsOf nexts) (sym e)
      (chain_fits o m (first ms) fit_o (fit_ms m (inl refl))
      (λ x is. fit_ms x (inr (first_in ms x is))))
    where
      first_in : (xs : List Value) (x : Value) → first xs ≡ Some x → In x xs
      first_in [] x is = absurd (none_some x is)
      first_in (y ∷ xs) x is = inl (sym (same_Some y x is))
  fits_in_chain o (m ∷ ms) r fit_o fit_ms (inr h) =
      fits_in_chain o ms r fit_o (λ x k. fit_ms x (inr k)) h

  row_fits : (o : Value) (ms : List Value) (p : Part) → Fits owner o
      → ((m : Value) → In m ms → Fits member m) → In p (ring_rows o ms)
      → (p.child < 2) × IsOf (two_forms heads nexts p.child) p.rec
  row_fits o ms p fit_o fit_ms h = elim (row_cases o ms p h) [
    | inl x ↦ (
      omega (arith, x.0),
      subst (λ c. IsOf (two_forms heads nexts c) p.rec) (sym x.0)
          (subst (IsOf heads) (sym x.1.is)
          (head_fits o x.1.member fit_o
          (fit_ms x.1.member (subst (In x.1.member) (sym x.1.members) (inl refl))))),
    )
    | inr x ↦ (
      omega (arith, x.0),
      subst (λ c. IsOf (two_forms heads nexts c) p.rec) (sym x.0)
          (fits_in_chain o ms p.rec fit_o fit_ms x.1),
    )
  ]

  pub ring_row_laws : RowLaws owner member (two_forms heads nexts) 2 ring_rows
  ring_row_laws = record {
    none = λ o. refl;
    fit = λ o ms p fit_o fit_ms few h. row_fits o ms p fit_o fit_ms h;
    once = λ link p q is h k child key. same_rows link p q h k child key;
    told = λ link other is is' to from.
        same_link link other (pairs_there link other to) (pairs_there other link from);
  }

pub ring_laws : {M : Type 0} (rule : M → Rule) → ((m : M) → MappingLaws (rule m))
    → (heads nexts : Tree M) → IsRing rule heads nexts
    → LinksetLaws (ring_rule rule heads nexts) (IsHeldLink rule (two_nodes heads nexts) ring_rows)
ring_laws rule laws heads nexts valid =
    linkset_laws
    (ring_row_laws (owner_kind rule heads) (member_kind rule nexts) (tree_form rule heads)
    (tree_form rule nexts) valid.head_keys valid.head_fields valid.chain_keys valid.chain_fields)
    rule laws (two_nodes heads nexts) valid.nodes refl suc true (λ n. omega arith)
    (λ never n. absurd cc)
