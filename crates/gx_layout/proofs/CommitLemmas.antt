-- The parts of a commit, one after another.
use Rattle.std.proofs.Common.{◌≡◌, inl, inr, ⊎_elim, ℕ, ◌+◌, ◌<◌, ◌≤◌, Bool, true, false, List, [], length, get_or, refl, sym, ◌∙◌, ap, arith}
use Rattle.gx_device.specs.Content.{Moment, Content, block_of, Syncs, NonePending}
use Rattle.gx_device.specs.Crash.{EachImage, Through, LeavesOnly, Outside}
use Rattle.gx_device.proofs.RunLemmas.{joined, weakened, guarded, synced}
use Rattle.gx_layout.specs.Layout.{is_open, has_bit_on, first_text, head_blocks, head_in, slot, home, IsBitmap, Names, View, with_pages, StandsFor, IsIn, Holds, IsFirm, Fits, AtRest, IsLogged, SameButChanged, IsReady, IsOpened, Either}
use Rattle.gx_layout.specs.PhaseLaws.{bool_cases, same_size, same_count, rest_leaves, ready_leaves, opened_leaves, rest_slots, rest_bitmap, ready_gate, opened_homes}

module _ (kept : View) (changed : List Bool) (counts : length changed ≡ length kept.pages) where
  -- the slots are written at rest
  pub slots_images : (a b : Content) → AtRest a.now kept
      → Through (Outside (IsIn (head_blocks kept.size) changed) a.now) a b
      → LeavesOnly (StandsFor kept) a b
  slots_images a b rest run =
      guarded (IsIn (head_blocks kept.size) changed) (λ m. AtRest m kept) (StandsFor kept) a b
      (λ m o. rest_slots changed a.now m kept counts o rest) (λ m r. rest_leaves m kept r) run

  -- and the bitmap
  pub bitmap_images : (a b c : Content) → AtRest a.now kept
      → Through (Outside (IsIn (head_blocks kept.size) changed) a.now) a b
      → Through (Outside (IsBitmap kept.size) b.now) b c → LeavesOnly (StandsFor kept) a c
  bitmap_images a b c rest slots bitmap =
      let then_rest = rest_slots changed a.now b.now kept counts slots.now rest in
      joined (EachImage (StandsFor kept)) a b c (slots_images a b rest slots)
      (guarded (IsBitmap kept.size) (λ m. AtRest m kept) (StandsFor kept) b c
      (λ m o. rest_bitmap b.now m kept o then_rest)
      (λ m r. rest_leaves m kept r) bitmap)

  -- and a sync
  pub log_images : (a b c d : Content) → AtRest a.now kept
      → Through (Outside (IsIn (head_blocks kept.size) changed) a.now) a b
      → Through (Outside (IsBitmap kept.size) b.now) b c → Syncs c d
      → LeavesOnly (StandsFor kept) a d
  log_images a b c d rest slots bitmap s =
      let so_far = bitmap_images a b c rest slots bitmap in
      joined (EachImage (StandsFor kept)) a c d so_far (synced (StandsFor kept) c d s so_far.now)

-- a write below an area leaves what the area holds
pub held_past : (size base : ℕ) (pages : List (List ℕ)) (changed : List Bool) (a b : Moment)
    → first_text size ≤ base → Outside (IsBitmap size) a b
    → Holds base pages changed a → Holds base pages changed b
held_past size base pages changed a b low o held =
    λ p under is. o.blocks (base + p) (λ (at : IsBitmap size (base + p)). absurd
    (omega (arith, at.1, low))) ∙ held p under is

-- after a sync nothing is pending, and the blocks are the same
module _ (c d : Content) (s : Syncs c d) (none : NonePending d) where
  same_block : (n : ℕ) → block_of d.now n ≡ block_of c.now n
  same_block n = ap (λ (l : List (List ℕ)). get_or l n []) s.blocks

  synced_fits : (v : View) → Fits c.now v → Fits d.now v
  synced_fits v f = record {
    size = ap (λ (l : List (List ℕ)). length l) s.blocks ∙ f.size;
    count = f.count;
    few = f.few;
    room = f.room;
    head_kept = λ n is. none n;
    head = ap (head_in (first_text v.size)) s.blocks ∙ f.head;
    said = s.said ∙ f.said;
    shelf = s.shelf ∙ f.shelf;
  }

  same_bit : (p : ℕ) → has_bit_on d.now.blocks p ≡ has_bit_on c.now.blocks p
  same_bit p = ap (λ (l : List (List ℕ)). has_bit_on l p) s.blocks

  firm_now : (n : ℕ) (bytes : List ℕ) → block_of c.now n ≡ bytes → IsFirm d.now n bytes
  firm_now n bytes reads = record { kept = none n; reads = same_block n ∙ reads }

  pub log_ready : (kept : View) (pages : List (List ℕ)) (changed : List Bool)
      → length kept.pages ≡ length pages
      → length changed ≡ length pages
      → AtRest c.now kept → SameButChanged changed kept.pages pages
      → ((p : ℕ) → p < length changed → Names changed c.now.blocks p)
      → Holds (head_blocks kept.size) pages changed c.now
      → IsReady d.now kept (with_pages kept pages) changed
  log_ready kept pages changed counts flags rest same names held =
      let f = synced_fits kept rest.fits in
      record {
        fits = record {
          size = f.size;
          count = sym counts ∙ f.count;
          few = omega (arith, f.few, counts);
          room = f.room;
          head_kept = f.head_kept;
          head = f.head;
          said = f.said;
          shelf = f.shelf;
        };
        fits_kept = f;
        homes = λ p below. firm_now (home kept.size (length kept.pages) p)
            (get_or kept.pages p [])
            (rest.homes p below).reads;
        logged = record {
          bitmap_kept = λ n at. none n;
          bits = λ p below. same_bit p ∙ names p (omega (arith, flags, below));
          slots = λ p below is. firm_now (slot kept.size p) (get_or pages p []) (held p below is);
        };
        same = same;
      }

  -- the gate was written over a log
  pub gate_opened : (kept new : View) (changed : List Bool) → IsReady c.now kept new changed
      → is_open (block_of c.now 1) ≡ true
      → IsOpened d.now new changed
  gate_opened kept new changed r is =
      let counts = same_count c.now kept new r.fits_kept r.fits in
      let sizes = same_size c.now kept new r.fits_kept r.fits in
      record {
        fits = synced_fits new r.fits;
        gate_kept = none 1;
        gate = ap is_open (same_block 1) ∙ is;
        logged = synced_log new changed r.logged;
        homes = λ p below bit_off.
            let here : home new.size (length new.pages) p ≡ home kept.size (length kept.pages) p =
            λ i. home (sym sizes i) (sym counts i) p in
            firm_now (home new.size (length new.pages) p) (get_or new.pages p [])
            (ap (block_of c.now) here
            ∙ (r.homes p (omega (arith, counts, below))).reads
            ∙ r.same p below bit_off);
      }
    where
      synced_log : (v : View) (changed : List Bool) → IsLogged c.now v changed
          → IsLogged d.now v changed
      synced_log v changed l = record {
        bitmap_kept = λ n at. none n;
        bits = λ p below. same_bit p ∙ l.bits p below;
        slots = λ p below bit_on. firm_now (slot v.size p) (get_or v.pages p [])
            (l.slots p below bit_on).reads;
      }

  -- each changed page was written home
  pub homes_ready : (v : View) (changed : List Bool) → IsOpened c.now v changed
      → Holds (home v.size (length v.pages) 0) v.pages changed c.now
      → IsReady d.now v v changed
  homes_ready v changed o held = record {
    fits = synced_fits v o.fits;
    fits_kept = synced_fits v o.fits;
    homes = λ p below. firm_now (home v.size (length v.pages) p) (get_or v.pages p [])
        (elim (bool_cases (get_or changed p false)) [
          | inl bit_on ↦ ap (block_of c.now) (omega arith) ∙ held p below bit_on
          | inr bit_off ↦ (o.homes p below bit_off).reads
        ]);
    logged = record {
      bitmap_kept = λ n at. none n;
      bits = λ p below. same_bit p ∙ o.logged.bits p below;
      slots = λ p below bit_on. firm_now (slot v.size p) (get_or v.pages p [])
          (o.logged.slots p below bit_on).reads;
    };
    same = λ p below bit_off. refl;
  }

  -- the gate was closed over pages that are at home
  pub gate_closed : (v : View) (changed : List Bool) → IsReady c.now v v changed
      → is_open (block_of c.now 1) ≡ false → AtRest d.now v
  gate_closed v changed r is = record {
    fits = synced_fits v r.fits;
    gate_kept = none 1;
    gate = ap is_open (same_block 1) ∙ is;
    homes = λ p below. firm_now (home v.size (length v.pages) p) (get_or v.pages p [])
        (r.homes p below).reads;
  }

-- the gate is written while it decides
pub gate_images : (kept new : View) (changed : List Bool) (a b : Content)
    → IsReady a.now kept new changed
    → Through (Outside (λ n. n ≡ 1) a.now) a b → LeavesOnly (Either kept new) a b
gate_images kept new changed a b r run =
    guarded (λ n. n ≡ 1) (λ m. IsReady m kept new changed) (Either kept new) a b
    (λ m o. ready_gate a.now m kept new changed o r) (λ m q. ready_leaves m kept new changed q) run

pub gate_synced : (kept new : View) (changed : List Bool) (a b c : Content)
    → IsReady a.now kept new changed
    → Through (Outside (λ n. n ≡ 1) a.now) a b → Syncs b c → LeavesOnly (Either kept new) a c
gate_synced kept new changed a b c r run s =
    let so_far = gate_images kept new changed a b r run in
    joined (EachImage (Either kept new)) a b c so_far (synced (Either kept new) b c s so_far.now)

-- the changed pages are written home behind an open gate
pub home_images : (v : View) (changed : List Bool) (a b : Content) → IsOpened a.now v changed
    → Through (Outside (IsIn (home v.size (length v.pages) 0) changed) a.now) a b
    → LeavesOnly (StandsFor v) a b
home_images v changed a b o run =
    guarded (IsIn (home v.size (length v.pages) 0) changed) (λ m. IsOpened m v changed)
    (StandsFor v) a b
    (λ m out. opened_homes a.now m v changed out o) (λ m q. opened_leaves m v changed q) run

pub home_synced : (v : View) (changed : List Bool) (a b c : Content) → IsOpened a.now v changed
    → Through (Outside (IsIn (home v.size (length v.pages) 0) changed) a.now) a b → Syncs b c
    → LeavesOnly (StandsFor v) a c
home_synced v changed a b c o run s =
    let so_far = home_images v changed a b o run in
    joined (EachImage (StandsFor v)) a b c so_far (synced (StandsFor v) b c s so_far.now)

-- either of one view is that view
pub only_one : (v : View) (a b : Content) → LeavesOnly (Either v v) a b
    → LeavesOnly (StandsFor v) a b
only_one v a b run =
    weakened (EachImage (Either v v)) (EachImage (StandsFor v))
    (λ m leaves image is. ⊎_elim (λ s. s) (λ s. s) (leaves image is)) a b run

pub left : (kept new : View) (a b : Content) → LeavesOnly (StandsFor kept) a b
    → LeavesOnly (Either kept new) a b
left kept new a b run =
    weakened (EachImage (StandsFor kept)) (EachImage (Either kept new))
    (λ m leaves image is. inl (leaves image is)) a b run

pub right : (kept new : View) (a b : Content) → LeavesOnly (StandsFor new) a b
    → LeavesOnly (Either kept new) a b
right kept new a b run =
    weakened (EachImage (StandsFor new)) (EachImage (Either kept new))
    (λ m leaves image is. inr (leaves image is)) a b run
