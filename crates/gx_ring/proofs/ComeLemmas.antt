-- What changes when a member comes or goes, and that nodes can take it.
use Rattle.std.proofs.Common.{◌≡◌, ◌≤◌, ℕ, List, slice_get, take, drop, Option, Some, None, refl, sym, ap, subst, ◌∙◌, arith}
use Rattle.std.specs.FinMap as fin
use Rattle.gx_values.specs.declared.values.Kind.{Kind}
use Rattle.gx_values.specs.declared.values.Kind.TheVariants as kind
use Rattle.gx_values.specs.declared.values.Value.{Value}
use Rattle.gx_values.specs.Values.{Fits}
use Rattle.gx_values.specs.Keys.{width_of}
use Rattle.gx_values.specs.Spans.{IsSpanKind}
use Rattle.gx_values.proofs.KeyLemmas.{fit_bytes}
use Rattle.gx_mapping.specs.Rule.{Rule, In, IsOf}
use Rattle.gx_gather.proofs.Lists.{take_in, in_at, in_right}
use Rattle.gx_stack.specs.Tree.{Tree, leaves_of, tree_form, IsValid}
use Rattle.gx_stack.specs.Internal.{IfThere}
use Rattle.gx_links.specs.Links.{Link, members_of}
use Rattle.gx_links.specs.Rows.{owner_kind, member_kind}
use Rattle.gx_ring.specs.Ring.{head_rec, chain_rec, head_if, IsRing, ring_rule}
use Rattle.gx_ring.specs.RingLaws.{head_fits, chain_fits}
use Rattle.gx_ring.specs.Records.{IsKeyValue}
use Rattle.gx_ring.specs.Places.{place_of, before_in, next_in}
use Rattle.gx_ring.specs.Steps.{leading, lead_change, own_change}
use Rattle.gx_links.specs.Changes.{FitsChange}
use Rattle.gx_ring.proofs.PlaceLemmas.{IsPlace, place_there, cut}
use Rattle.gx_ring.proofs.HeldLemmas.{heads_valid, nexts_valid}
use Rattle.gx_ring.proofs.FoundLemmas.{heads_below, nexts_below}

-- ---- values

width_small : (k : Kind) → IsSpanKind k → width_of k ≤ 400
width_small kind.Int small = omega arith
width_small (kind.Text most) small = omega (arith, small)
width_small (kind.Bytes most) small = absurd small

pub key_value_of : (k : Kind) (v : Value) → IsSpanKind k → Fits k v → IsKeyValue v
key_value_of k v small fits =
    omega (arith, fit_bytes k v fits, width_small k small)

pub key_value_if : (k : Kind) (v : Option Value) → IsSpanKind k → IfThere v (Fits k)
    → IfThere v IsKeyValue
key_value_if k None small fits = tt
key_value_if k (Some v) small fits = key_value_of k v small fits

there_in : (P : Value → Type 0) (all ms : List Value) (i : ℕ) → ((x : Value) → In x ms → In x all)
    → ((x : Value) → In x all → P x) → IfThere (slice_get ms i) P
there_in P all ms i among each = go (slice_get ms i) refl
  where
    go : (o : Option Value) → slice_get ms i ≡ o → IfThere o P
    go None e = tt
    go (Some x) e = each x (among x (in_at x ms i e))

drop_in : (ms : List Value) (i : ℕ) (x : Value) → In x (drop i ms) → In x ms
drop_in ms i x h = subst (In x) (sym (cut i ms)) (in_right x (take i ms) (drop i ms) h)

pub before_fits : (P : Value → Type 0) (ms : List Value) (m : Value) → ((x : Value) → In x ms → P x)
    → IfThere (before_in ms m) P
before_fits P ms m each =
    there_in P ms (take (place_of ms m) ms) _ (λ x h. take_in ms (place_of ms m) x h) each

pub next_fits : (P : Value → Type 0) (ms : List Value) (m : Value) → ((x : Value) → In x ms → P x)
    → IfThere (next_in ms m) P
next_fits P ms m each =
    there_in P ms (drop (place_of ms m) ms) 0 (λ x h. drop_in ms (place_of ms m) x h) each

-- the neighbours of a member without an owner
pub place_among : (link : Link) (o m : Value) (ms : List Value) (before next : Option Value)
    → ms ≡ members_of link o → fin.get link m ≡ None → before ≡ before_in ms m → next ≡ next_in ms m
    → IsPlace (members_of link o) m before next
place_among link o m ms before next is free b n =
    let at = place_there link o m free in
    subst (λ x. IsPlace (members_of link o) m x next) (sym (b ∙ ap (λ zs. before_in zs m) is))
    (subst (λ x. IsPlace (members_of link o) m (before_in (members_of link o) m) x)
    (sym (n ∙ ap (λ zs. next_in zs m) is)) at)

-- ---- nodes

module _ {M : Type 0} (rule : M → Rule) (heads nexts : Tree M) (valid : IsRing rule heads nexts)
  where
    pub leading_valid : (before : Option Value) → IsValid rule (leading heads nexts before)
    leading_valid None = heads_valid rule heads nexts valid
    leading_valid (Some p) = nexts_valid rule heads nexts valid

    pub leading_below : (before : Option Value) (n : ℕ)
        → In n (leaves_of (leading heads nexts before)) → In n (ring_rule rule heads nexts).leaves
    leading_below None n h = heads_below rule heads nexts valid n h
    leading_below (Some p) n h = nexts_below rule heads nexts valid n h

    module _ (o m : Value) (fit_o : Fits (owner_kind rule heads) o)
        (fit_m : Fits (member_kind rule nexts) m) where
      chain_is : (p : Value) (n : Option Value) → Fits (member_kind rule nexts) p
          → IfThere n (Fits (member_kind rule nexts))
          → IsOf (tree_form rule nexts) (chain_rec o p n)
      chain_is p n fit_p fit_n =
          chain_fits (owner_kind rule heads) (member_kind rule nexts) (tree_form rule heads)
          (tree_form rule nexts) valid.head_keys valid.head_fields valid.chain_keys
          valid.chain_fields o p n fit_o fit_p
          (λ x is. subst (λ y. IfThere y (Fits (member_kind rule nexts))) is fit_n)

      head_is : (p : Value) → Fits (member_kind rule nexts) p
          → IsOf (tree_form rule heads) (head_rec o p)
      head_is p fit_p = head_fits (owner_kind rule heads) (member_kind rule nexts)
          (tree_form rule heads) (tree_form rule nexts) valid.head_keys valid.head_fields
          valid.chain_keys valid.chain_fields o p fit_o fit_p

      head_if_is : (n : Option Value) → IfThere n (Fits (member_kind rule nexts))
          → IfThere (head_if o n) (IsOf (tree_form rule heads))
      head_if_is None fit_n = tt
      head_if_is (Some n) fit_n = head_is n fit_n

      pub own_fits : (next : Option Value) → IfThere next (Fits (member_kind rule nexts))
          → FitsChange (tree_form rule nexts) (own_change o m next)
      own_fits next fit_n = (tt, chain_is m next fit_m fit_n)

      pub lead_fits : (before next : Option Value) → IfThere before (Fits (member_kind rule nexts))
          → IfThere next (Fits (member_kind rule nexts))
          → FitsChange (tree_form rule (leading heads nexts before)) (lead_change o m before next)
      lead_fits None next fit_b fit_n = (head_if_is next fit_n, head_is m fit_m)
      lead_fits (Some p) next fit_b fit_n =
          (chain_is p next fit_b fit_n, chain_is p (Some m) fit_b fit_m)
