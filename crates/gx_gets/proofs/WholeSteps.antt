-- Alternatives and fragments read one after the other.
use Rattle.std.proofs.Common.{◌≡◌, ℕ, zero, suc, ◌+◌, ◌≤◌, List, [], Option, Some, None, Result, Ok, Err, inl, inr, refl, sym, ap, subst, arith}
use Rattle.std.specs.Prelude.{◌⊎◌, IfOk}
use Rattle.std.specs.Result.{IsErrAnd}
use Rattle.std.proofs.lemmas.Result.{on_ok_weaker}
use Rattle.gx_values.specs.declared.keys.Span.{Span}
use Rattle.gx_values.specs.declared.records.Form.{Form}
use Rattle.gx_values.specs.declared.records.Rec.{Rec}
use Rattle.gx_values.specs.declared.values.Value.{Value}
use Rattle.gx_ports.specs.Calls.{ReadsMaps}
use Rattle.gx_ports.specs.LeafMaps.{LeafMap}
use Rattle.gx_ports.specs.declared.stop.Stop.{Stop}
use Rattle.gx_ports.specs.declared.view.View.{Ghosts}
use Rattle.gx_ports.proofs.CallLemmas.{reads_itself}
use Rattle.gx_gather.proofs.Lists.{in_left, in_right}
use Rattle.gx_mapping.specs.Rule.{IsOf}
use Rattle.gx_stack.proofs.PassLemmas.{Passes, read_passes, reads_weaker, reads_after, reads_given}
use Rattle.gx_access.specs.Access.{Choice, Choices, Only, By, no_choices, choice}
use Rattle.gx_access.specs.Leaves.{choice_leaves, choices_leaves}
use Rattle.gx_gets.specs.Whole.{HaveNone, IsHeldAt, IsHeldIn, IsThere, ReadsOne, asked}
use Rattle.gx_gets.proofs.HeldSteps.{asked_joined}

-- a number for each access, of which its alternatives have smaller ones
abbrev mutual
  pub choice_size : Choice → ℕ
  choice_size (Only fs) = 0
  choice_size (By chooser bounds cs) = suc (choices_size cs)

  pub choices_size : Choices → ℕ
  choices_size no_choices = 0
  choices_size (choice ch cs) = suc (choice_size ch + choices_size cs)

pub none_some : {A : Type 0} (x : A) → None ≡ Some x → ⊥
none_some x e = cc

pub some_none : {A : Type 0} (x : A) → Some x ≡ None → ⊥
some_none x e = cc

module _ {S : Type 0} (g : Ghosts S) (form : Form) (key : List Value) (span : Span) where
  abbrev One : (Rec → List LeafMap → Type 0) → List ℕ → S → S
      → Result (Option (List Value)) Stop → Type 0
  One Held ns old new result = ReadsOne g form key span Held ns old new result

  -- by others that hold the same
  pub reads_by : (Held Other : Rec → List LeafMap → Type 0) (ns ms : List ℕ) (old new : S)
      (result : Result (Option (List Value)) Stop)
      → ((r : Rec) → r.key ≡ key → Other r (g.working old) → Held r (g.working old))
      → (HaveNone (g.working old) span ms → HaveNone (g.working old) span ns)
      → asked (g.working old) span ns ≤ asked (g.working old) span ms
      → One Held ns old new result → One Other ms old new result
  reads_by Held Other ns ms old new result to nones few x = record {
    found = λ r whole of at held. x.found r whole of at (to r at held);
    none = λ whole none. x.none whole (nones none);
    fits = x.fits;
    steps = λ whole. on_ok_weaker result (λ most. omega (arith, most, few)) (x.steps whole);
    reads = reads_weaker g (λ sound. (
      sound.0,
      elim sound.1 [
        | inl none ↦ inl (nones none)
        | inr p ↦ inr (p.0, p.1, p.2, to p.0 p.2 p.3)
      ],
    )) x.reads;
  }

  -- a stop is given on
  pub one_stopped : (Held : Rec → List LeafMap → Type 0) (ns : List ℕ) (old new : S)
      (result : Result (Option (List Value)) Stop) (e : Stop) → IsErrAnd result (λ y. y ≡ e)
      → ReadsMaps g (g.whole old × (HaveNone (g.working old) span ns
      ⊎ IsThere form key Held (g.working old))) old new result
      → One Held ns old new result
  one_stopped Held ns old new (Ok x) e given reads = absurd given
  one_stopped Held ns old new (Err y) e given reads = record {
    found = λ r whole of at held. tt;
    none = λ whole none. tt;
    fits = tt;
    steps = λ whole. tt;
    reads = reads;
  }

  -- there is nothing to read
  pub reads_none : (Held : Rec → List LeafMap → Type 0) (old : S)
      → ((r : Rec) → Held r (g.working old) → ⊥) → One Held [] old old (Ok None)
  reads_none Held old not = record {
    found = λ r whole of at held. absurd (not r held);
    none = λ whole none. refl;
    fits = tt;
    steps = λ whole. omega arith;
    reads = record {
      reads = reads_itself g old;
      ends = record {
        whole = λ whole. whole;
        later = omega arith;
        fault = λ is. let clash : ⊥ = cc in absurd clash;
        counted = λ same. refl;
        damaged = λ block is. let clash : ⊥ = cc in absurd clash;
      };
      block = λ n is. let clash : ⊥ = cc in absurd clash;
      not_full = λ is. cc;
    };
  }

  module _ (ch : Choice) (cs : Choices) where
    abbrev First : Rec → List LeafMap → Type 0
    First r maps = IsHeldAt maps span r ch

    abbrev Others : Rec → List LeafMap → Type 0
    Others r maps = (c : ℕ) × IsHeldIn maps span r cs c

    abbrev pub All : Rec → List LeafMap → Type 0
    All r maps = (c : ℕ) × IsHeldIn maps span r (choice ch cs) c

    none_first : (maps : List LeafMap) → HaveNone maps span (choices_leaves (choice ch cs))
        → HaveNone maps span (choice_leaves ch)
    none_first maps none = λ n h. none n (in_left n (choice_leaves ch) (choices_leaves cs) h)

    none_others : (maps : List LeafMap) → HaveNone maps span (choices_leaves (choice ch cs))
        → HaveNone maps span (choices_leaves cs)
    none_others maps none = λ n h. none n (in_right n (choice_leaves ch) (choices_leaves cs) h)

    -- where all is sound, the first is
    first_sound : (old : S) → g.whole old
        × (HaveNone (g.working old) span (choices_leaves (choice ch cs))
        ⊎ IsThere form key All (g.working old))
        → g.whole old × (HaveNone (g.working old) span (choice_leaves ch)
        ⊎ IsThere form key First (g.working old))
    first_sound old sound = (
      sound.0,
      elim sound.1 [
        | inl none ↦ inl (none_first (g.working old) none)
        | inr p ↦ by_child p.0 p.1 p.2 p.3.0 p.3.1
      ],
    )
      where
        by_child : (r : Rec) → IsOf form r → r.key ≡ key → (c : ℕ)
            → IsHeldIn (g.working old) span r (choice ch cs) c
            → HaveNone (g.working old) span (choice_leaves ch)
            ⊎ IsThere form key First (g.working old)
        by_child r of at zero held = inr (r, of, at, held.0)
        by_child r of at (suc c) held = inl held.0

    -- the first one stopped
    pub first_stopped : (old new : S) (e : Stop) (result : Result (Option (List Value)) Stop)
        → IsErrAnd result (λ y. y ≡ e)
        → One First (choice_leaves ch) old new (Err e)
        → ReadsMaps g (g.whole old
        × (HaveNone (g.working old) span (choices_leaves (choice ch cs))
        ⊎ IsThere form key All (g.working old))) old new result
    first_stopped old new e result given x =
        reads_given g result given (first_sound old) x.reads

    -- the first one has the record
    pub first_found : (old new : S) (vs : List Value)
        → One First (choice_leaves ch) old new (Ok (Some vs))
        → One All (choices_leaves (choice ch cs)) old new (Ok (Some vs))
    first_found old new vs x = record {
      found = λ r whole of at held. by_child r whole of at held.0 held.1;
      none = λ whole none. absurd (some_none vs (x.none whole (none_first (g.working old) none)));
      fits = x.fits;
      steps = λ whole. omega (
        arith,
        x.steps whole,
        asked_joined (g.working old) span (choice_leaves ch) (choices_leaves cs),
      );
      reads = reads_weaker g (first_sound old) x.reads;
    }
      where
        by_child : (r : Rec) → g.whole old → IsOf form r → r.key ≡ key → (c : ℕ)
            → IsHeldIn (g.working old) span r (choice ch cs) c → Some vs ≡ Some r.fields
        by_child r whole of at zero held = x.found r whole of at held.0
        by_child r whole of at (suc c) held = absurd (some_none vs (x.none whole held.0))

    -- the first one has none, and then the others are read
    pub others_found : (old mid new : S) (result : Result (Option (List Value)) Stop)
        → One First (choice_leaves ch) old mid (Ok None)
        → One Others (choices_leaves cs) mid new result
        → One All (choices_leaves (choice ch cs)) old new result
    others_found old mid new result x y =
        record {
          found = λ r whole of at held. by_child r whole of at held.0 held.1;
          none = λ whole none. y.none (passed.whole whole)
              (back (λ maps. HaveNone maps span (choices_leaves cs))
              (none_others (g.working old) none));
          fits = y.fits;
          steps = λ whole. on_ok_weaker result (λ most. omega (
            arith,
            most,
            x.steps whole,
            asked_joined (g.working old) span (choice_leaves ch) (choices_leaves cs),
            ap (λ maps. asked maps span (choices_leaves cs)) passed.reads.working,
          )) (y.steps (passed.whole whole));
          reads = reads_after g result passed others_sound y.reads;
        }
      where
        passed : Passes g old mid
        passed = read_passes g x.reads

        back : (P : List LeafMap → Type 0) → P (g.working old) → P (g.working mid)
        back P p = subst P (sym passed.reads.working) p

        by_child : (r : Rec) → g.whole old → IsOf form r → r.key ≡ key → (c : ℕ)
            → IsHeldIn (g.working old) span r (choice ch cs) c
            → IfOk result (λ found. found ≡ Some r.fields)
        by_child r whole of at zero held =
            absurd (none_some r.fields (x.found r whole of at held.0))
        by_child r whole of at (suc c) held = y.found r (passed.whole whole) of at
            (c, back (λ maps. IsHeldIn maps span r cs c) held.1)

        others_sound : g.whole old × (HaveNone (g.working old) span (choices_leaves (choice ch cs))
            ⊎ IsThere form key All (g.working old))
            → g.whole mid × (HaveNone (g.working mid) span (choices_leaves cs)
            ⊎ IsThere form key Others (g.working mid))
        others_sound sound = (
          passed.whole sound.0,
          elim sound.1 [
            | inl none ↦ inl (back (λ maps. HaveNone maps span (choices_leaves cs))
                (none_others (g.working old) none))
            | inr p ↦ inr (sound_child p.0 p.1 p.2 p.3.0 p.3.1)
          ],
        )
          where
            sound_child : (r : Rec) → IsOf form r → r.key ≡ key → (c : ℕ)
                → IsHeldIn (g.working old) span r (choice ch cs) c
                → IsThere form key Others (g.working mid)
            sound_child r of at zero held =
                absurd (none_some r.fields (x.found r sound.0 of at held.0))
            sound_child r of at (suc c) held =
                (r, of, at, (c, back (λ maps. IsHeldIn maps span r cs c) held.1))
