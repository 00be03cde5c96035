-- The rows of an inverted list keep the laws of rows.
use Rattle.std.proofs.Common.{◌≡◌, ◌<◌, List, [], ◌∷◌, inl, inr, true, Some, refl, sym, ap, subst, ◌∙◌, get_or, arith}
use Rattle.std.specs.FinMap as fin
use Rattle.std.proofs.lemmas.Option.{same_Some}
use Rattle.gx_values.specs.declared.values.Kind.{Kind}
use Rattle.gx_values.specs.declared.values.Value.{Value}
use Rattle.gx_values.specs.declared.records.Form.{Form}
use Rattle.gx_values.specs.declared.records.Rec.{Rec}
use Rattle.gx_values.specs.Values.{Fits, no_value}
use Rattle.gx_mapping.specs.declared.parts.Part.{Part}
use Rattle.gx_mapping.specs.Rule.{Rule, In, IsOf}
use Rattle.gx_mapping.specs.Laws.{MappingLaws}
use Rattle.gx_gather.specs.Gather.{part_for}
use Rattle.gx_gather.proofs.Lists.{in_each, from_each}
use Rattle.gx_stack.specs.Tree.{Tree, tree_form}
use Rattle.gx_links.specs.Kinds.{kinds_of}
use Rattle.gx_links.specs.Links.{Link, members_of, owners_of}
use Rattle.gx_links.specs.Linksets.{LinksetLaws}
use Rattle.gx_links.specs.Rows.{link_parts, two_forms, RowLaws, IsHeldLink, two_nodes, owner_kind, member_kind}
use Rattle.gx_links.proofs.KindLemmas.{fit_fields}
use Rattle.gx_links.proofs.MemberLemmas.{in_members, from_members, owner_there, same_link}
use Rattle.gx_links.proofs.RowLemmas.{linkset_laws}
use Rattle.gx_lists.specs.Inverted.{pair_rec, owned_rec, pair_rows, inverted_rows, IsInverted, inverted_rule}

-- a pair of a link, and which of its two rows a part is
pub record IsRow (link : Link) (p : Part) : Type 0 where
  pub owner : Value
  pub member : Value
  pub owned : fin.get link member ≡ Some owner
  pub there : In p (pair_rows owner member)

pub row_of : (link : Link) (p : Part) → In p (link_parts inverted_rows link) → IsRow link p
row_of link p h =
    let o = from_each (λ x. inverted_rows x (members_of link x)) p (owners_of link) h in
    let m = from_each (pair_rows o.0) p (members_of link o.0) o.2 in
    record { owner = o.0; member = m.0; owned = from_members link o.0 m.0 m.1; there = m.2 }

pub of_row : (link : Link) (o m : Value) (p : Part) → fin.get link m ≡ Some o → In p (pair_rows o m)
    → In p (link_parts inverted_rows link)
of_row link o m p owned there =
    in_each (λ x. inverted_rows x (members_of link x)) o p (owners_of link)
    (owner_there link o m owned)
    (in_each (pair_rows o) m p (members_of link o) (in_members link o m owned) there)

-- values of keys
abbrev first_of : List Value → Value
first_of ks = get_or ks 0 no_value

abbrev second_of : List Value → Value
second_of ks = get_or ks 1 no_value

pub zero_one : (p q : Part) (r s : Rec) → p ≡ part_for 0 r → q ≡ part_for 1 s → p.child ≡ q.child
    → ⊥
zero_one p q r s a b same =
    (let e : 0
    ≡ 1 = ap (λ (x : Part). x.child) (sym a) ∙ same ∙ ap (λ (x : Part). x.child) b in omega
    (arith, e))

same_rows : (link : Link) (p q : Part) (a : IsRow link p) (b : IsRow link q) → p.child ≡ q.child
    → p.rec.key ≡ q.rec.key → p ≡ q
same_rows link p q a b child key = go a.there b.there
  where
    go : In p (pair_rows a.owner a.member) → In q (pair_rows b.owner b.member) → p ≡ q
    go (inl e) (inl f) =
        let keys : (pair_rec a.owner a.member).key ≡ (pair_rec b.owner b.member).key =
        ap (λ (x : Part). x.rec.key) (sym e) ∙ key ∙ ap (λ (x : Part). x.rec.key) f in
        e ∙ (λ i. part_for 0 (pair_rec (first_of (keys i)) (second_of (keys i)))) ∙ sym f
    go (inr (inl e)) (inr (inl f)) =
        let keys : (owned_rec a.owner a.member).key ≡ (owned_rec b.owner b.member).key =
        ap (λ (x : Part). x.rec.key) (sym e) ∙ key ∙ ap (λ (x : Part). x.rec.key) f in
        let members : a.member ≡ b.member = ap first_of keys in
        let owners : a.owner ≡ b.owner =
        same_Some a.owner b.owner (sym a.owned ∙ ap (fin.get link) members ∙ b.owned) in
        e ∙ (λ i. part_for 1 (owned_rec (owners i) (members i))) ∙ sym f
    go (inl e) (inr (inl f)) =
        absurd (zero_one p q (pair_rec a.owner a.member) (owned_rec b.owner b.member) e f child)
    go (inr (inl e)) (inl f) =
        absurd (zero_one q p (pair_rec b.owner b.member) (owned_rec a.owner a.member) f e
        (sym child))
    go (inr (inr k)) f = absurd k
    go (inl e) (inr (inr k)) = absurd k
    go (inr (inl e)) (inr (inr k)) = absurd k

-- the pair of a row in the first node
pair_there : (link : Link) (o m : Value)
    → In (part_for 0 (pair_rec o m)) (link_parts inverted_rows link) → fin.get link m ≡ Some o
pair_there link o m h = go (row_of link (part_for 0 (pair_rec o m)) h)
  where
    go : IsRow link (part_for 0 (pair_rec o m)) → fin.get link m ≡ Some o
    go row = at row.there
      where
        at : In (part_for 0 (pair_rec o m)) (pair_rows row.owner row.member)
            → fin.get link m ≡ Some o
        at (inl e) =
            let keys : o ∷ m ∷ [] ≡ row.owner ∷ row.member ∷ [] = ap (λ (x : Part). x.rec.key) e in
            ap (fin.get link) (ap second_of keys) ∙ row.owned ∙ ap
            (λ (ks : List Value). Some (first_of ks)) (sym keys)
        at (inr (inl e)) =
            absurd (zero_one (part_for 0 (pair_rec o m)) (part_for 0 (pair_rec o m)) (pair_rec o m)
            (owned_rec row.owner row.member) refl e refl)
        at (inr (inr k)) = absurd k

module _ (owner member : Kind) (down up : Form)
    (down_keys : kinds_of down.keys ≡ owner ∷ member ∷ []) (down_fields : kinds_of down.fields ≡ [])
    (up_keys : kinds_of up.keys ≡ member ∷ []) (up_fields : kinds_of up.fields ≡ owner ∷ []) where
  pub pair_fits : (o m : Value) → Fits owner o → Fits member m → IsOf down (pair_rec o m)
  pair_fits o m fit_o fit_m = record {
    key = fit_fields down.keys (owner ∷ member ∷ []) (o ∷ m ∷ []) down_keys (fit_o, (fit_m, tt));
    fields = fit_fields down.fields [] [] down_fields tt;
  }

  pub owned_fits : (o m : Value) → Fits owner o → Fits member m → IsOf up (owned_rec o m)
  owned_fits o m fit_o fit_m = record {
    key = fit_fields up.keys (member ∷ []) (m ∷ []) up_keys (fit_m, tt);
    fields = fit_fields up.fields (owner ∷ []) (o ∷ []) up_fields (fit_o, tt);
  }

  pub inverted_row_laws : RowLaws owner member (two_forms down up) 2 inverted_rows
  inverted_row_laws = record {
    none = λ o. refl;
    fit = λ o ms p fit_o fit_ms few h. let m =
        from_each (pair_rows o) p ms h in fits o m.0 p fit_o (fit_ms m.0 m.1) m.2;
    once = λ link p q is h k child key.
        same_rows link p q (row_of link p h) (row_of link q k) child key;
    told = λ link other is is' to from. same_link link other
        (λ m o e.
        pair_there other o m
        (to (part_for 0 (pair_rec o m)) (of_row link o m (part_for 0 (pair_rec o m)) e (inl refl))))
        (λ m o e.
        pair_there link o m
        (from (part_for 0 (pair_rec o m))
        (of_row other o m (part_for 0 (pair_rec o m)) e (inl refl))));
  }
    where
      fits : (o m : Value) (p : Part) → Fits owner o → Fits member m → In p (pair_rows o m)
          → (p.child < 2) × IsOf (two_forms down up p.child) p.rec
      fits o m p fit_o fit_m (inl e) =
          subst (λ (x : Part). (x.child < 2) × IsOf (two_forms down up x.child) x.rec) (sym e)
          (omega arith, pair_fits o m fit_o fit_m)
      fits o m p fit_o fit_m (inr (inl e)) =
          subst (λ (x : Part). (x.child < 2) × IsOf (two_forms down up x.child) x.rec) (sym e)
          (omega arith, owned_fits o m fit_o fit_m)
      fits o m p fit_o fit_m (inr (inr k)) = absurd k

pub inverted_laws : {M : Type 0} (rule : M → Rule) → ((m : M) → MappingLaws (rule m))
    → (down up : Tree M) → IsInverted rule down up
    → LinksetLaws (inverted_rule rule down up) (IsHeldLink rule (two_nodes down up) inverted_rows)
inverted_laws rule laws down up valid =
    linkset_laws
    (inverted_row_laws (owner_kind rule down) (member_kind rule up) (tree_form rule down)
    (tree_form rule up) valid.down_keys valid.down_fields valid.up_keys valid.up_fields) rule laws
    (two_nodes down up) valid.nodes refl (λ _. 1) true (λ n. omega arith) (λ _ n. omega arith)
