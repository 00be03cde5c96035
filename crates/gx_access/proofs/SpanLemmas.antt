-- What leaves hold inside a span, told by the access of their tree.
use Rattle.std.proofs.Common.{◌≡◌, ◌∙◌, ℕ, suc, List, [], ◌∷◌, ◌++◌, map, Bool, true, false, if◌then◌else◌, Option, Some, None, inl, inr, sym, ap, subst, append-nil, ◌&&◌, pos}
use Rattle.std.specs.List.{filter}
use Rattle.std.specs.FinMap.{entries}
use Rattle.std.proofs.lemmas.Grind.{flat_map-append}
use Rattle.gx_values.specs.declared.keys.Span.{Span}
use Rattle.gx_values.specs.declared.records.Form.{Form}
use Rattle.gx_values.specs.declared.records.Rec.{Rec}
use Rattle.gx_values.specs.declared.values.Value.{Value}
use Rattle.gx_values.specs.declared.values.Value.TheVariants as value
use Rattle.gx_values.specs.Keys.{bytes_of, key_of, is_inside}
use Rattle.gx_values.specs.Values.{AreFit}
use Rattle.gx_ports.specs.declared.leaves.Entry.{Entry}
use Rattle.gx_ports.specs.LeafMaps.{LeafMap, map_at, entry_of}
use Rattle.gx_mapping.specs.declared.parts.Part.{Part}
use Rattle.gx_mapping.specs.Rule.{Rule, In}
use Rattle.gx_gather.proofs.Lists.{in_map, from_map, in_filter, filter_in, from_each}
use Rattle.gx_divide.specs.Pieces.{pieces}
use Rattle.gx_divide.specs.Rules.{bytes_in, numbered}
use Rattle.gx_stack.specs.declared.entries.LeafEntry.{LeafEntry}
use Rattle.gx_stack.specs.Internal.{IsSet}
use Rattle.gx_stack.specs.Selected.{IsKeySpan}
use Rattle.gx_stack.specs.Tree.{Tree, tree_form, entry_in}
use Rattle.gx_stack.proofs.LeafRead.{entry_get, get_entry}
use Rattle.gx_stack.proofs.Selects.{le_longer, front_longer}
use Rattle.gx_access.specs.declared.access.Fragment.{Fragment}
use Rattle.gx_access.specs.Access.{Choice, fragments_of, fragments_entries, fragment_entries, leaf_entries, is_absent, seen, picked}
use Rattle.gx_access.specs.Held.{IsHeldBy, IsHeldInside}
use Rattle.gx_access.proofs.Rows.{wrapped_key}

-- ---- the key of an entry begins with that of its record

piece_key : (n : ℕ) (key : List Value) (j : ℕ) (ps : List (List ℕ)) (e : LeafEntry)
    → In e (map (λ (p : Part). entry_in n p.rec) (numbered key j ps))
    → (more : List ℕ) × (e.key ≡ key_of key ++ more)
piece_key n key j [] e h = absurd h
piece_key n key j (p ∷ ps) e (inl is) = (
  key_of (value.Int (pos j) ∷ []),
  ap (λ (x : LeafEntry). x.key) is ∙ flat_map-append bytes_of key (value.Int (pos j) ∷ []),
)
piece_key n key j (p ∷ ps) e (inr h) = piece_key n key (suc j) ps e h

leaf_key : (n : ℕ) (piece : Option ℕ) (q : Rec) (e : LeafEntry) → In e (leaf_entries n piece q)
    → (more : List ℕ) × (e.key ≡ key_of q.key ++ more)
leaf_key n None q e (inl is) = ([], ap (λ (x : LeafEntry). x.key) is ∙ sym (append-nil (key_of q.key)))
leaf_key n None q e (inr h) = absurd h
leaf_key n (Some size) q e h = piece_key n q.key 0 (pieces size (bytes_in q.fields)) e h

in_some : (b : Bool) (e : LeafEntry) (es : List LeafEntry) → In e (if b then [] else es) → In e es
in_some true e es h = absurd h
in_some false e es h = h

pub entry_key : (fs : List Fragment) (r : Rec) (e : LeafEntry) → In e (fragments_entries fs r)
    → (more : List ℕ) × (e.key ≡ key_of r.key ++ more)
entry_key fs r e h =
    let p = from_each (fragment_entries r) e fs h in
    let f = p.0 in
    let k = leaf_key f.leaf f.piece (seen f.view r) e
    (in_some (is_absent f.view.groups r.fields) e (leaf_entries f.leaf f.piece (seen f.view r)) p.2) in (
      k.0,
      k.1 ∙ ap (λ (key : List Value). key_of key ++ k.0)
          (wrapped_key f.view.wraps (record { key = r.key; fields = picked r.fields f.view.slots })),
    )

-- ---- inside a span

module _ (form : Form) (span : Span) (s : IsKeySpan form span) where
  inside_with : (k : List Value) (q : List ℕ) → AreFit form.keys k
      → (more : List ℕ) × (q ≡ key_of k ++ more)
      → is_inside span.lo span.hi q ≡ is_inside span.lo span.hi (key_of k)
  inside_with k q fits m =
      ap (is_inside span.lo span.hi) m.1
      ∙ (λ i. le_longer span.lo (key_of k) m.0 (λ rest. s.lo_whole k rest fits) i
      && front_longer span.hi (key_of k) m.0 (λ rest. s.hi_whole k rest fits) i)

module _ {M : Type 0} (rule : M → Rule) (t : Tree M) (ch : Choice) (R : List Rec)
    (maps : List LeafMap) (span : Span) (s : IsKeySpan (tree_form rule t) span)
    (set : IsSet (tree_form rule t) R) (held : IsHeldBy rule t ch R maps) where
  same_inside : (r : Rec) (e : LeafEntry) → In r R → In e (fragments_entries (fragments_of ch r) r)
      → is_inside span.lo span.hi e.key ≡ is_inside span.lo span.hi (key_of r.key)
  same_inside r e among h =
      inside_with (tree_form rule t) span s r.key e.key (set.fits r among).key
      (entry_key (fragments_of ch r) r e h)

  pub held_inside : IsHeldInside rule t ch R maps span
  held_inside = record {
    there = λ r e among inside h.
        in_map entry_of (e.key, e.body) (filter (λ (x : List ℕ × List ℕ).
        is_inside span.lo span.hi x.0) (entries (map_at maps e.leaf)))
        (filter_in (λ (x : List ℕ × List ℕ). is_inside span.lo span.hi x.0) (e.key, e.body)
        (entries (map_at maps e.leaf))
        (get_entry (map_at maps e.leaf) e.key e.body (held.there r e among h))
        (same_inside r e among h ∙ inside));
    only = λ n e leaf h.
        let p = from_map entry_of e (filter (λ (x : List ℕ × List ℕ).
        is_inside span.lo span.hi x.0) (entries (map_at maps n))) h in
        let f = in_filter (λ (x : List ℕ × List ℕ). is_inside span.lo span.hi x.0) p.0
        (entries (map_at maps n)) p.1 in
        let l : LeafEntry = record { leaf = n; key = p.0.0; body = p.0.1 } in
        let r = held.only l leaf (entry_get (map_at maps n) p.0 f.0) in (
          r.0,
          r.1,
          sym (same_inside r.0 l r.1 r.2) ∙ f.1,
          subst (λ (x : Entry). In (record { leaf = n; key = x.key; body = x.body })
              (fragments_entries (fragments_of ch r.0) r.0)) (sym p.2) r.2,
        );
  }
