-- The rows of a pointer array keep the laws of rows.
use Rattle.std.proofs.Common.{◌≡◌, ◌<◌, ◌≤◌, ◌*◌, ℕ, List, [], ◌∷◌, inl, inr, length, false, Some, refl, sym, ap, subst, ◌∙◌, get_or, arith}
use Rattle.std.specs.FinMap as fin
use Rattle.std.proofs.Math.Nat.{mul-le-mul_right}
use Rattle.gx_values.specs.declared.values.Kind.{Kind}
use Rattle.gx_values.specs.declared.values.Kind.TheVariants as kind
use Rattle.gx_values.specs.declared.values.Value.{Value}
use Rattle.gx_values.specs.declared.values.Value.TheVariants as value
use Rattle.gx_values.specs.declared.records.Form.{Form}
use Rattle.gx_values.specs.Values.{Fits, no_value}
use Rattle.gx_values.specs.Keys.{key_of, width_of, IsKeyKind}
use Rattle.gx_values.specs.Spans.{IsSpanKind}
use Rattle.gx_mapping.specs.declared.parts.Part.{Part}
use Rattle.gx_mapping.specs.Rule.{Rule, In, IsOf}
use Rattle.gx_mapping.specs.Laws.{MappingLaws}
use Rattle.gx_gather.specs.Gather.{part_for}
use Rattle.gx_gather.proofs.Lists.{in_each, from_each}
use Rattle.gx_stack.specs.Tree.{Tree, tree_form, leaf_body}
use Rattle.gx_links.specs.Kinds.{kinds_of}
use Rattle.gx_links.specs.Links.{Link, members_of, owners_of, most_members, IsLink}
use Rattle.gx_links.specs.Linksets.{LinksetLaws}
use Rattle.gx_links.specs.Rows.{link_parts, RowLaws, IsHeldLink, owner_kind}
use Rattle.gx_links.proofs.KindLemmas.{fit_fields}
use Rattle.gx_links.proofs.MemberLemmas.{in_members, from_members, owner_there, same_link}
use Rattle.gx_links.proofs.RowLemmas.{linkset_laws}
use Rattle.gx_lists.specs.Arrays.{array_rec, array_rows, one_node, IsArray, array_rule, AreOfKind}
use Rattle.gx_lists.specs.Joined.{joined_small, same_joined}

pub key_kind : (k : Kind) → IsSpanKind k → IsKeyKind k
key_kind kind.Int key = tt
key_kind (kind.Text most) key = tt
key_kind (kind.Bytes most) key = absurd key

pub members_fit : (owner member : Kind) (link : Link) (o : Value) → IsLink owner member link
    → AreOfKind member (members_of link o)
members_fit owner member link o is = λ m h. (is.fit m o (from_members link o m h)).0

-- an owner with a member, and its row
pub record IsArrayRow (link : Link) (p : Part) : Type 0 where
  pub owner : Value
  pub member : Value
  pub owned : fin.get link member ≡ Some owner
  pub is : p ≡ part_for 0 (array_rec owner (members_of link owner))

row_at : (link : Link) (o : Value) (ms : List Value) (p : Part) → members_of link o ≡ ms
    → In p (array_rows o ms) → IsArrayRow link p
row_at link o [] p e h = absurd h
row_at link o (m ∷ ms) p e (inl is) =
    record {
      owner = o;
      member = m;
      owned = from_members link o m (subst (In m) (sym e) (inl refl));
      is = is ∙ ap (λ zs. part_for 0 (array_rec o zs)) (sym e);
    }
row_at link o (m ∷ ms) p e (inr k) = absurd k

pub array_row_of : (link : Link) (p : Part) → In p (link_parts array_rows link) → IsArrayRow link p
array_row_of link p h = let o =
    from_each (λ x. array_rows x (members_of link x)) p (owners_of link) h in row_at link o.0
    (members_of link o.0) p refl o.2

row_in : (o m : Value) (ms : List Value) → In m ms
    → In (part_for 0 (array_rec o ms)) (array_rows o ms)
row_in o m [] h = absurd h
row_in o m (x ∷ ms) h = inl refl

pub of_array_row : (link : Link) (o m : Value) → fin.get link m ≡ Some o
    → In (part_for 0 (array_rec o (members_of link o))) (link_parts array_rows link)
of_array_row link o m owned =
    in_each (λ x. array_rows x (members_of link x)) o (part_for 0 (array_rec o (members_of link o)))
    (owners_of link) (owner_there link o m owned)
    (row_in o m (members_of link o) (in_members link o m owned))

abbrev owner_at : Part → Value
owner_at p = get_or p.rec.key 0 no_value

module _ (owner member : Kind) (form : Form) (most : ℕ) (key : IsKeyKind member)
    (keys : kinds_of form.keys ≡ owner ∷ []) (fields : kinds_of form.fields ≡ kind.Bytes most ∷ [])
    (room : most_members * width_of member ≤ most) where
  pub array_fits : (o : Value) (ms : List Value) → Fits owner o → AreOfKind member ms
      → length ms ≤ most_members → IsOf form (array_rec o ms)
  array_fits o ms fit_o fit_ms few =
      let small = joined_small member ms fit_ms in
      let product : length ms * width_of member ≤ most_members * width_of member =
      mul-le-mul_right (width_of member) few in
      let short : length (key_of ms) ≤ most = omega (arith, small, product, room) in
      record {
        key = fit_fields form.keys (owner ∷ []) (o ∷ []) keys (fit_o, tt);
        fields =
            fit_fields form.fields (kind.Bytes most ∷ []) (value.Bytes (key_of ms) ∷ []) fields
            (short, tt);
      }

  pub array_row_laws : RowLaws owner member (λ c. form) 1 array_rows
  array_row_laws = record {
    none = λ o. refl;
    fit = λ o ms p fit_o fit_ms few h. fits o ms p fit_o fit_ms few h;
    once = λ link p q is h k child same.
        once link p q (array_row_of link p h) (array_row_of link q k) same;
    told = λ link other is is' to from. same_link link other
        (λ m o e. across link other is is' to m o e)
        (λ m o e. across other link is' is from m o e);
  }
    where
      fits : (o : Value) (ms : List Value) (p : Part) → Fits owner o → AreOfKind member ms
          → length ms ≤ most_members → In p (array_rows o ms) → (p.child < 1) × IsOf form p.rec
      fits o [] p fit_o fit_ms few h = absurd h
      fits o (m ∷ ms) p fit_o fit_ms few (inl e) =
          subst (λ (x : Part). (x.child < 1) × IsOf form x.rec) (sym e)
          (omega arith, array_fits o (m ∷ ms) fit_o fit_ms few)
      fits o (m ∷ ms) p fit_o fit_ms few (inr k) = absurd k

      once : (link : Link) (p q : Part) → IsArrayRow link p → IsArrayRow link q
          → p.rec.key ≡ q.rec.key → p ≡ q
      once link p q a b same =
          let owners : a.owner ≡ b.owner =
          ap owner_at (sym a.is) ∙ ap
          (λ (ks : List Value). get_or ks 0 no_value) same ∙ ap owner_at b.is in
          a.is ∙ (λ i. part_for 0 (array_rec (owners i) (members_of link (owners i)))) ∙ sym b.is

      across : (a b : Link) → IsLink owner member a → IsLink owner member b
          → ((p : Part) → In p (link_parts array_rows a) → In p (link_parts array_rows b))
          → (m o : Value) → fin.get a m ≡ Some o → fin.get b m ≡ Some o
      across a b is is' to m o e =
          let row =
          array_row_of b (part_for 0 (array_rec o (members_of a o)))
          (to (part_for 0 (array_rec o (members_of a o))) (of_array_row a o m e)) in
          let owners : o ≡ row.owner = ap owner_at row.is in
          let bytes : key_of (members_of a o) ≡ key_of (members_of b row.owner) =
          ap (λ (p : Part). leaf_body p.rec.fields) row.is in
          let lists =
          same_joined member (members_of a o) (members_of b row.owner) key
          (members_fit owner member a o is) (members_fit owner member b row.owner is') bytes in
          from_members b row.owner m (subst (In m) lists (in_members a o m e)) ∙ ap Some
          (sym owners)

pub array_laws : {M : Type 0} (rule : M → Rule) → ((m : M) → MappingLaws (rule m))
    → (tree : Tree M) (member : Kind) → IsArray rule tree member
    → LinksetLaws (array_rule rule tree member) (IsHeldLink rule (one_node tree) array_rows)
array_laws rule laws tree member valid =
    linkset_laws
    (array_row_laws (owner_kind rule tree) member (tree_form rule tree) valid.most
    (key_kind member valid.member_kind) valid.keys valid.fields valid.room) rule laws
    (one_node tree) valid.nodes refl (λ _. 1) false (λ n. omega arith) (λ _ n. omega arith)
