-- Values put one after the other, and the bodies that they stand in.
use Rattle.std.proofs.Common.{[], ◌≡◌, ℕ, zero, suc, ◌<◌, List, ◌∷◌, ◌++◌, length, get_or, map, Option, Some, None, refl, sym, ap, ◌∙◌, arith, append-nil, append_assoc, take, ◌+◌}
use Rattle.std.specs.Prelude.{slice_set, slice_get}
use Rattle.std.proofs.lemmas.Grind.{flat_map-append}
use Rattle.std.specs.List.{flat_map, concat}
use Rattle.gx_values.specs.declared.values.Value.{Value}
use Rattle.gx_values.specs.declared.values.Value.TheVariants as value
use Rattle.gx_values.specs.declared.records.Field.{Field}
use Rattle.gx_values.specs.declared.records.Rec.{Rec}
use Rattle.gx_values.specs.Values.{Fits, AreFit, no_field, no_value}
use Rattle.gx_ports.specs.declared.leaves.Entry.{Entry}
use Rattle.gx_mapping.specs.declared.parts.Part.{Part}
use Rattle.gx_gather.proofs.Lists.{take_get}
use Rattle.gx_divide.specs.PieceLaws.{pieces_joined}
use Rattle.gx_divide.specs.Pieces.{pieces}
use Rattle.gx_divide.specs.Rules.{bytes_in, numbered}
use Rattle.gx_stack.specs.Tree.{entry_in, leaf_body}
use Rattle.gx_codec.specs.declared.slots.Slot.{Slot}
use Rattle.gx_access.specs.Access.{leaf_entries}
use Rattle.gx_access.specs.Held.{leaf_pair}
use Rattle.gx_gets.specs.Restored.{restored}

-- one slot more is put behind the others
pub restored_more : (slots : List Slot) (s : Slot) (vs ws : List Value)
    → restored (slots ++ s ∷ []) vs ws
    ≡ slice_set (restored slots vs ws) s.number (get_or vs s.number no_value)
restored_more [] s vs ws = refl
restored_more (t ∷ slots) s vs ws =
    restored_more slots s vs (slice_set ws t.number (get_or vs t.number no_value))

-- values that fit still do with one of them set to one that fits
pub fit_set : (fields : List Field) (vs : List Value) (i : ℕ) (v : Value) → AreFit fields vs
    → i < length fields → Fits (get_or fields i no_field).kind v → AreFit fields (slice_set vs i v)
fit_set [] vs i v fit below one = absurd (omega arith)
fit_set (f ∷ fields) [] i v fit below one = absurd fit
fit_set (f ∷ fields) (w ∷ vs) zero v fit below one = (one, fit.1)
fit_set (f ∷ fields) (w ∷ vs) (suc i) v fit below one =
    (fit.0, fit_set fields vs i v fit.1 (omega arith) one)

-- ---- the bodies of a fragment's entries

abbrev pub bodies : List Entry → List ℕ
bodies es = flat_map (λ (e : Entry). e.body) es

pieces_bodies : (n : ℕ) (key : List Value) (j : ℕ) (ps : List (List ℕ))
    → bodies (map leaf_pair (map (λ (p : Part). entry_in n p.rec) (numbered key j ps))) ≡ concat ps
pieces_bodies n key j [] = refl
pieces_bodies n key j (p ∷ ps) = ap (λ rest. p ++ rest) (pieces_bodies n key (suc j) ps)

same_bytes : (vs : List Value) → bytes_in vs ≡ leaf_body vs
same_bytes [] = refl
same_bytes (value.Int n ∷ vs) = refl
same_bytes (value.Text text ∷ vs) = refl
same_bytes (value.Bytes bytes ∷ vs) = refl

-- one after the other they are the bytes of what the leaf has
pub entries_body : (n : ℕ) (piece : Option ℕ) (q : Rec)
    → bodies (map leaf_pair (leaf_entries n piece q)) ≡ leaf_body q.fields
entries_body n None q = append-nil (leaf_body q.fields)
entries_body n (Some size) q =
    pieces_bodies n q.key 0 (pieces size (bytes_in q.fields))
    ∙ pieces_joined size (bytes_in q.fields) ∙ same_bytes q.fields

-- one entry more is joined to the others
pub joined_more : (start made : List ℕ) (es : List Entry) (i : ℕ) (e : Entry)
    → slice_get es i ≡ Some e → made ≡ start ++ bodies (take i es)
    → made ++ e.body ≡ start ++ bodies (take (i + 1) es)
joined_more start made es i e there is =
    let next : suc i ≡ i + 1 = omega arith in
    ap (λ bytes. bytes ++ e.body) is
    ∙ append_assoc start (bodies (take i es)) e.body
    ∙ ap (λ bytes. start ++ bytes)
    (ap (λ bytes. bodies (take i es) ++ bytes) (sym (append-nil e.body))
    ∙ sym (flat_map-append (λ (x : Entry). x.body) (take i es) (e ∷ []))
    ∙ ap bodies (sym (take_get e es i there) ∙ ap (λ n. take n es) next))
