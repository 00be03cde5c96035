-- The fragments of an alternative read one after the other.
use Rattle.std.proofs.Common.{◌≡◌, ◌∙◌, ℕ, ◌+◌, ◌≤◌, List, [], ◌∷◌, length, map, false, Option, Some, None, Result, Ok, Err, inl, inr, refl, sym, ap, subst, arith}
use Rattle.std.specs.Prelude.{◌⊎◌, IfOk, IfSome, OnOk}
use Rattle.std.specs.Result.{IsErrAnd}
use Rattle.std.proofs.lemmas.List.Sums.{sum_by-cons}
use Rattle.std.proofs.lemmas.Option.{same_Some}
use Rattle.gx_values.specs.declared.keys.Span.{Span}
use Rattle.gx_values.specs.declared.records.Field.{Field}
use Rattle.gx_values.specs.declared.records.Form.{Form}
use Rattle.gx_values.specs.declared.records.Rec.{Rec}
use Rattle.gx_values.specs.declared.values.Value.{Value}
use Rattle.gx_values.specs.Values.{AreFit}
use Rattle.gx_codec.specs.Slots.{AreStorable}
use Rattle.gx_ports.specs.Calls.{ReadsMaps}
use Rattle.gx_ports.specs.LeafMaps.{LeafMap, map_at, selected, counted}
use Rattle.gx_ports.specs.declared.leaves.Entry.{Entry}
use Rattle.gx_ports.specs.declared.stop.Stop.{Stop}
use Rattle.gx_ports.specs.declared.view.View.{Ghosts}
use Rattle.gx_mapping.specs.Rule.{In, IsOf}
use Rattle.gx_split.specs.Groups.{defaults_of}
use Rattle.gx_stack.proofs.PassLemmas.{Passes, read_passes, reads_weaker, reads_after, reads_given, reads_given_after}
use Rattle.gx_access.specs.declared.access.Fragment.{Fragment}
use Rattle.gx_access.specs.Access.{fragment_entries, is_absent, all_slots}
use Rattle.gx_access.specs.Held.{leaf_pair}
use Rattle.gx_access.specs.Leaves.{fragment_leaves}
use Rattle.gx_gets.specs.Restored.{put_fragment, IsOfOne}
use Rattle.gx_gets.specs.Whole.{AreRead, HaveNone, AreHeld, IsThere, ReadsOne, asked, put_fragments}
use Rattle.gx_gets.proofs.HeldSteps.{all_put, found_at}
use Rattle.gx_gets.proofs.WholeSteps.{none_some, some_none, one_stopped}

asked_first : (maps : List LeafMap) (span : Span) (n : ℕ) (ns : List ℕ)
    → asked maps span (n ∷ ns) ≡ 1 + found_at maps span n + asked maps span ns
asked_first maps span n ns = omega (arith, sum_by-cons (found_at maps span) n ns)

-- an answer of another kind
other_value : {S T U : Type 0} (g : Ghosts S) {sound : Type 0} {a b : S} (x : T) (y : U)
    → ReadsMaps g sound a b (Ok x) → ReadsMaps g sound a b (Ok y)
other_value g x y of = record {
  reads = of.reads;
  ends = record {
    whole = of.ends.whole;
    later = of.ends.later;
    fault = λ is. let clash : ⊥ = cc in absurd clash;
    counted = λ same. of.ends.counted refl;
    damaged = λ block is. let clash : ⊥ = cc in absurd clash;
  };
  block = λ n is. let clash : ⊥ = cc in absurd clash;
  not_full = λ is. cc;
}

module _ {S : Type 0} (g : Ghosts S) (span : Span) where
  abbrev pub found_of : S → Fragment → List Entry
  found_of s f = selected span.lo span.hi (map_at (g.working s) f.leaf)

  -- what is read of the first fragment
  pub record ReadsLead (fields : List Field) (f : Fragment) (old new : S)
      (result : Result (Option (List Value)) Stop) : Type 0 where
    pub read : (r : Rec) → g.whole old → AreStorable fields f.view.slots r.fields
        → is_absent f.view.groups r.fields ≡ false
        → found_of old f ≡ map leaf_pair (fragment_entries r f)
        → IfOk result (λ found. found ≡ Some (put_fragment f r.fields (defaults_of fields)))
    pub none : g.whole old → found_of old f ≡ [] → IfOk result (λ found. found ≡ None)
    pub fit : IfOk result (λ found. IfSome found (AreFit fields))
    pub steps : g.whole old
        → OnOk result (g.work new ≡ counted (g.work old) (1 + length (found_of old f)))
    pub reads : ReadsMaps g (g.whole old × IsOfOne fields f (found_of old f)) old new result

  abbrev pub Storable : List Field → List Fragment → Rec → Type 0
  Storable fields fs r = (f : Fragment) → In f fs → AreStorable fields f.view.slots r.fields

  -- what is read of the others
  pub record ReadsOthers (fields : List Field) (fs : List Fragment) (vs ws : List Value)
      (old new : S) (result : Result (Unit {0}) Stop) : Type 0 where
    pub read : (r : Rec) → g.whole old → Storable fields fs r → AreHeld (g.working old) span r fs
        → OnOk result (ws ≡ put_fragments fs r.fields vs)
    pub fit : AreFit fields vs → AreFit fields ws
    pub steps : g.whole old
        → OnOk result (g.work new ≤ g.work old + asked (g.working old) span (fragment_leaves fs))
    pub reads : ReadsMaps g (g.whole old
        × ((r : Rec) × Storable fields fs r × AreHeld (g.working old) span r fs)) old new result

  module _ (form : Form) (key : List Value) (f : Fragment) (fs : List Fragment)
      (read : AreRead form (all_slots 0 (length form.fields)) [] (f ∷ fs)) where
    abbrev Held : Rec → List LeafMap → Type 0
    Held r maps = AreHeld maps span r (f ∷ fs)

    abbrev All : S → S → Result (Option (List Value)) Stop → Type 0
    All old new result =
        ReadsOne g form key span Held (fragment_leaves (f ∷ fs)) old new result

    -- the same of a list that is this one
    pub of_all : (all : List Fragment) → all ≡ f ∷ fs → (old new : S)
        (result : Result (Option (List Value)) Stop) → All old new result
        → ReadsOne g form key span (λ r maps. AreHeld maps span r all) (fragment_leaves all) old
        new result
    of_all all split old new result x =
        subst (λ l. ReadsOne g form key span (λ r maps. AreHeld maps span r l) (fragment_leaves l)
        old new result) (sym split) x

    abbrev Sound : S → Type 0
    Sound old = g.whole old × (HaveNone (g.working old) span (fragment_leaves (f ∷ fs))
        ⊎ IsThere form key Held (g.working old))

    lead_sound : (old : S) → Sound old → g.whole old × IsOfOne form.fields f (found_of old f)
    lead_sound old sound = (
      sound.0,
      elim sound.1 [
        | inl none ↦ inl (none f.leaf (inl refl))
        | inr p ↦ inr (p.0, (read.each f (inl refl)).storable p.0 p.1, p.3 f (inl refl))
      ],
    )

    lead_value : (old new : S) (found : Option (List Value))
        → ReadsLead form.fields f old new (Ok found) → (r : Rec) → g.whole old → IsOf form r
        → Held r (g.working old)
        → found ≡ Some (put_fragment f r.fields (defaults_of form.fields))
    lead_value old new found x r whole of held =
        x.read r whole ((read.each f (inl refl)).storable r of)
        (ap (λ groups. is_absent groups r.fields) read.led) (held f (inl refl))

    -- the first one stopped
    pub lead_stopped : (old new : S) (e : Stop) (result : Result (Option (List Value)) Stop)
        → IsErrAnd result (λ y. y ≡ e) → ReadsLead form.fields f old new (Err e)
        → All old new result
    lead_stopped old new e result given x =
        one_stopped g form key span Held (fragment_leaves (f ∷ fs)) old new result e given
        (reads_given g result given (lead_sound old) x.reads)

    -- the first one has no entry
    pub lead_none : (old new : S) → ReadsLead form.fields f old new (Ok None)
        → All old new (Ok None)
    lead_none old new x = record {
      found = λ r whole of at held.
          absurd (none_some (put_fragment f r.fields (defaults_of form.fields))
          (lead_value old new None x r whole of held));
      none = λ whole none. refl;
      fits = tt;
      steps = λ whole. omega (
        arith,
        x.steps whole,
        asked_first (g.working old) span f.leaf (fragment_leaves fs),
      );
      reads = reads_weaker g (lead_sound old) x.reads;
    }

    module _ (old mid new : S) (vs ws : List Value)
        (x : ReadsLead form.fields f old mid (Ok (Some vs))) where
      passed : Passes g old mid
      passed = read_passes g x.reads

      held_others : (r : Rec) → Held r (g.working old) → AreHeld (g.working mid) span r fs
      held_others r held =
          subst (λ maps. AreHeld maps span r fs) (sym passed.reads.working) (λ q h. held q (inr h))

      others_sound : Sound old → g.whole mid
          × ((r : Rec) × Storable form.fields fs r × AreHeld (g.working mid) span r fs)
      others_sound sound = (
        passed.whole sound.0,
        elim sound.1 [
          | inl none ↦ absurd (some_none vs (x.none sound.0 (none f.leaf (inl refl))))
          | inr p ↦ (p.0, (λ q h. (read.each q (inr h)).storable p.0 p.1), held_others p.0 p.3)
        ],
      )

      -- another one stopped
      pub others_stopped : (e : Stop) (result : Result (Option (List Value)) Stop)
          → IsErrAnd result (λ y. y ≡ e) → ReadsOthers form.fields fs vs ws mid new (Err e)
          → All old new result
      others_stopped e result given y =
          one_stopped g form key span Held (fragment_leaves (f ∷ fs)) old new result e given
          (reads_given_after g result given passed others_sound y.reads)

      -- all are read
      pub all_read : ReadsOthers form.fields fs vs ws mid new (Ok tt)
          → All old new (Ok (Some ws))
      all_read y = record {
        found = λ r whole of at held.
            let first : vs ≡ put_fragment f r.fields (defaults_of form.fields) =
            same_Some _ _ (lead_value old mid (Some vs) x r whole of held) in
            let put = y.read r (passed.whole whole)
            (λ q h. (read.each q (inr h)).storable r of) (held_others r held) in
            ap Some (put ∙ ap (λ us. put_fragments fs r.fields us) first
            ∙ all_put form (f ∷ fs) r read of);
        none = λ whole none. absurd (some_none vs (x.none whole (none f.leaf (inl refl))));
        fits = y.fit x.fit;
        steps = λ whole. omega (
          arith,
          x.steps whole,
          y.steps (passed.whole whole),
          asked_first (g.working old) span f.leaf (fragment_leaves fs),
          ap (λ maps. asked maps span (fragment_leaves fs)) passed.reads.working,
        );
        reads = other_value g tt (Some ws)
            (reads_after g (Ok tt) passed others_sound y.reads);
      }
