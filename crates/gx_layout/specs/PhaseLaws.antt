-- What a crash leaves in each phase of a commit.
use Rattle.std.proofs.Common.{◌≡◌, ◌⊎◌, inl, inr, ℕ, ◌+◌, ◌/◌, ◌%◌, ◌<◌, ◌≤◌, ◌&&◌, if◌then◌else◌, Bool, true, false, List, [], length, get_or, refl, sym, ◌∙◌, ap, arith}
use Rattle.gx_device.specs.Content.{Moment, block_of, is_pending}
use Rattle.gx_device.specs.Crash.{Image, IsImage, EachImage, Outside}
use Rattle.gx_layout.specs.Layout.{is_open, has_bit, has_bit_on, pages_of, most_pages, first_text, head_blocks, slot, home, replayed, View, head_in, IsHead, IsBitmap, StandsFor, IsIn, IsFirm, Fits, AtRest, IsLogged, IsReady, IsOpened, Either}
use Rattle.gx_layout.specs.PlaceLaws.{bit_block}
use Rattle.gx_layout.specs.declared.bitmap.TheConstants.{BITS}

pub bool_cases : (b : Bool) → (b ≡ true) ⊎ (b ≡ false)
bool_cases true = inl refl
bool_cases false = inr refl

module _ (P : ℕ) (blocks : List (List ℕ)) (p : ℕ) where
  abbrev pub choose : Bool → Bool → List ℕ
  choose gate bit =
      if gate && bit then get_or blocks (slot (length blocks) p) []
      else get_or blocks (home (length blocks) P p) []

  pub shut : is_open (get_or blocks 1 []) ≡ false
      → replayed P blocks p ≡ get_or blocks (home (length blocks) P p) []
  shut is = ap (λ (g : Bool). choose g (has_bit_on blocks p)) is

  pub set_bit : is_open (get_or blocks 1 []) ≡ true → has_bit_on blocks p ≡ true
      → replayed P blocks p ≡ get_or blocks (slot (length blocks) p) []
  set_bit is bit =
      ap (λ (g : Bool). choose g (has_bit_on blocks p)) is ∙ ap
      (λ (b : Bool). choose true b) bit

  pub no_bit : is_open (get_or blocks 1 []) ≡ true → has_bit_on blocks p ≡ false
      → replayed P blocks p ≡ get_or blocks (home (length blocks) P p) []
  no_bit is bit =
      ap (λ (g : Bool). choose g (has_bit_on blocks p)) is ∙ ap
      (λ (b : Bool). choose true b) bit

-- a firm block stands in each image
firm : (m : Moment) (image : Image) (n : ℕ) (bytes : List ℕ) → IsImage m image → n < length m.blocks
    → IsFirm m n bytes → get_or image.blocks n [] ≡ bytes
firm m image n bytes is below f = is.same n below f.kept ∙ f.reads

-- and stays so outside of what is free
stays : (free : ℕ → Type 0) (a b : Moment) → Outside free a b → (n : ℕ) → (free n → ⊥)
    → (bytes : List ℕ) → IsFirm a n bytes → IsFirm b n bytes
stays free a b o n taken bytes f =
    record { kept = o.pending n taken ∙ f.kept; reads = o.blocks n taken ∙ f.reads }

same_head : (size : ℕ) (xs ys : List (List ℕ))
    → ((n : ℕ) → IsHead size n → get_or xs n [] ≡ get_or ys n [])
    → head_in (first_text size) xs ≡ head_in (first_text size) ys
same_head size xs ys same =
    let at0 = same 0 (inl refl) in
    let at1 = same (first_text size) (inr (omega arith, omega arith)) in
    let at2 = same (first_text size + 1) (inr (omega arith, omega arith)) in
    let at3 = same (first_text size + 2) (inr (omega arith, omega arith)) in
    let at4 = same (first_text size + 3) (inr (omega arith, omega arith)) in
    cc

head_below : (size n k : ℕ) → IsHead size n → head_blocks size ≤ k → n < k
head_below size n k (inl is) room = omega arith
head_below size n k (inr within) room = omega (arith, within.1)

pub fits_outside : (free : ℕ → Type 0) (a b : Moment) (v : View)
    → ((n : ℕ) → IsHead v.size n → free n → ⊥)
    → Outside free a b → Fits a v → Fits b v
fits_outside free a b v not_head o f = record {
  size = o.count ∙ f.size;
  count = f.count;
  few = f.few;
  room = f.room;
  head_kept = λ n is. o.pending n (not_head n is) ∙ f.head_kept n is;
  head = same_head v.size b.blocks a.blocks (λ n is. o.blocks n (not_head n is)) ∙ f.head;
  said = o.said ∙ f.said;
  shelf = o.shelf ∙ f.shelf;
}

home_below : (m : Moment) (v : View) → Fits m v → (p : ℕ) → p < length v.pages
    → home v.size (length v.pages) p < length m.blocks
home_below m v f p below = omega (arith, f.size, f.count, f.room)

slot_below : (m : Moment) (v : View) → Fits m v → (p : ℕ) → p < length v.pages
    → slot v.size p < length m.blocks
slot_below m v f p below = omega (arith, f.size, f.count, f.room)

-- an image has as many blocks
sized : (m : Moment) (image : Image) (v : View) → Fits m v → IsImage m image
    → length image.blocks ≡ v.size
sized m image v f is = is.count ∙ f.size

-- where its pages are replayed, an image stands for the view
stands : (m : Moment) (image : Image) (v : View) → Fits m v → IsImage m image
    → ((p : ℕ) → p < length v.pages
    → replayed (length v.pages) image.blocks p ≡ get_or v.pages p []) → StandsFor v image
stands m image v f is each = record {
  size = sized m image v f is;
  pages = record {
    count = f.count ∙ ap pages_of (sym (sized m image v f is));
    each = each;
  };
  head = ap (λ (n : ℕ). head_in (first_text n) image.blocks) (sized m image v f is)
      ∙ same_head v.size image.blocks m.blocks
      (λ n at. is.same n (omega (arith, head_below v.size n v.size at f.room, f.size))
      (f.head_kept n at))
      ∙ f.head;
  said = is.said ∙ f.said;
  shelf = is.shelf ∙ f.shelf;
}

-- where the gate is closed, it has the pages that are at home
shut_image : (m : Moment) (image : Image) (v : View) → Fits m v
    → ((p : ℕ) → p < length v.pages
    → IsFirm m (home v.size (length v.pages) p) (get_or v.pages p []))
    → IsImage m image → is_open (get_or image.blocks 1 []) ≡ false → StandsFor v image
shut_image m image v fits homes is closed_gate = stands m image v fits is (λ p below.
    shut (length v.pages) image.blocks p closed_gate
    ∙ ap (λ (n : ℕ). get_or image.blocks (home n (length v.pages) p) []) (sized m image v fits is)
    ∙ firm m image (home v.size (length v.pages) p) (get_or v.pages p []) is
    (home_below m v fits p below) (homes p below))

-- the bits of an image are those that are kept
kept_bit : (m : Moment) (image : Image) (v : View) (changed : List Bool) → Fits m v
    → IsLogged m v changed → IsImage m image → (p : ℕ) → p < length v.pages
    → has_bit_on image.blocks p ≡ get_or changed p false
kept_bit m image v changed fits logged is p below =
    let at = bit_block v.size p (length v.pages) below fits.few in
    ap (λ (b : List ℕ). has_bit b (p % BITS))
    (is.same (2 + p / BITS) (omega (arith, at.1, fits.room, fits.size))
    (logged.bitmap_kept (2 + p / BITS) at))
    ∙ logged.bits p below

-- where the gate is open, an image that has the log has the new pages
logged_image : (m : Moment) (image : Image) (v : View) (changed : List Bool) → Fits m v
    → IsLogged m v changed
    → ((p : ℕ) → p < length v.pages → get_or changed p false ≡ false
    → IsFirm m (home v.size (length v.pages) p) (get_or v.pages p []))
    → IsImage m image → is_open (get_or image.blocks 1 []) ≡ true → StandsFor v image
logged_image m image v changed fits logged homes is open_gate = stands m image v fits is (λ p below.
    let same = sized m image v fits is in
    let bit = kept_bit m image v changed fits logged is p below in
    elim (bool_cases (get_or changed p false)) [
      | inl bit_on ↦ set_bit (length v.pages) image.blocks p open_gate (bit ∙ bit_on)
          ∙ ap (λ (n : ℕ). get_or image.blocks (slot n p) []) same
          ∙ firm m image (slot v.size p) (get_or v.pages p []) is (slot_below m v fits p below)
          (logged.slots p below bit_on)
      | inr bit_off ↦ no_bit (length v.pages) image.blocks p open_gate (bit ∙ bit_off)
          ∙ ap (λ (n : ℕ). get_or image.blocks (home n (length v.pages) p) []) same
          ∙ firm m image (home v.size (length v.pages) p) (get_or v.pages p []) is
          (home_below m v fits p below) (homes p below bit_off)
    ])

-- at rest a crash leaves the pages
pub rest_leaves : (m : Moment) (v : View) → AtRest m v → EachImage (StandsFor v) m
rest_leaves m v rest image is =
    shut_image m image v rest.fits rest.homes is
    (ap is_open (is.same 1 (omega (arith, rest.fits.room, rest.fits.size)) rest.gate_kept)
    ∙ rest.gate)

pub same_size : (m : Moment) (kept new : View) → Fits m kept → Fits m new → kept.size ≡ new.size
same_size m kept new f g = sym f.size ∙ g.size

pub same_count : (m : Moment) (kept new : View) → Fits m kept → Fits m new
    → length kept.pages ≡ length new.pages
same_count m kept new f g = f.count ∙ ap pages_of (same_size m kept new f g) ∙ sym g.count

-- in each home of a page that hasn't changed the new page stands too
unchanged_home : (m : Moment) (kept new : View) (changed : List Bool) → IsReady m kept new changed
    → (p : ℕ) → p < length new.pages → get_or changed p false ≡ false
    → IsFirm m (home new.size (length new.pages) p) (get_or new.pages p [])
unchanged_home m kept new changed r p below bit_off =
    let counts = same_count m kept new r.fits_kept r.fits in
    let sizes = same_size m kept new r.fits_kept r.fits in
    let at = r.homes p (omega (arith, counts)) in
    let here : home new.size (length new.pages) p ≡ home kept.size (length kept.pages) p =
    λ i. home (sym sizes i) (sym counts i) p in
    record {
      kept = ap (is_pending m) here ∙ at.kept;
      reads = ap (block_of m) here ∙ at.reads ∙ r.same p below bit_off;
    }

-- while the gate decides, a crash leaves the kept pages or the new ones
pub ready_leaves : (m : Moment) (kept new : View) (changed : List Bool) → IsReady m kept new changed
    → EachImage (Either kept new) m
ready_leaves m kept new changed r image is =
    elim (bool_cases (is_open (get_or image.blocks 1 []))) [
      | inl open_gate ↦ inr
          (logged_image m image new changed r.fits r.logged
          (unchanged_home m kept new changed r) is open_gate)
      | inr closed_gate ↦ inl (shut_image m image kept r.fits_kept r.homes is closed_gate)
    ]

-- behind an open gate a crash leaves the new pages
pub opened_leaves : (m : Moment) (v : View) (changed : List Bool) → IsOpened m v changed
    → EachImage (StandsFor v) m
opened_leaves m v changed o image is =
    logged_image m image v changed o.fits o.logged o.homes is
    (ap is_open (is.same 1 (omega (arith, o.fits.room, o.fits.size)) o.gate_kept) ∙ o.gate)

-- no area of pages has a block of the head
not_head : (size base : ℕ) (changed : List Bool) → head_blocks size ≤ base → (n : ℕ)
    → IsHead size n → IsIn base changed n → ⊥
not_head size base changed low n head i =
    absurd (omega (arith, i.is, head_below size n (head_blocks size) head (omega arith)))

head_not_one : (size n : ℕ) → IsHead size n → n ≡ 1 → ⊥
head_not_one size n (inl is) e = absurd (omega arith)
head_not_one size n (inr within) e = absurd (omega (arith, within.0))

head_not_bitmap : (size n : ℕ) → IsHead size n → IsBitmap size n → ⊥
head_not_bitmap size n (inl is) at = absurd (omega (arith, at.0))
head_not_bitmap size n (inr within) at = absurd (omega (arith, within.0, at.1))

-- writes to slots and to the bitmap leave it at rest
pub rest_slots : (changed : List Bool) (a b : Moment) (v : View) → length changed ≡ length v.pages
    → Outside (IsIn (head_blocks v.size) changed) a b → AtRest a v → AtRest b v
rest_slots changed a b v counts o rest =
    let free = IsIn (head_blocks v.size) changed in
    let not_gate : free 1 → ⊥ = λ (i : free 1). absurd (omega (arith, i.is)) in
    record {
      fits = fits_outside free a b v (not_head v.size (head_blocks v.size) changed (omega arith)) o
          rest.fits;
      gate_kept = o.pending 1 not_gate ∙ rest.gate_kept;
      gate = ap is_open (o.blocks 1 not_gate) ∙ rest.gate;
      homes = λ p below.
          stays free a b o (home v.size (length v.pages) p)
          (λ (i : free (home v.size (length v.pages) p)). absurd
          (omega (arith, i.is, i.below, counts))) (get_or v.pages p []) (rest.homes p below);
    }

pub rest_bitmap : (a b : Moment) (v : View) → Outside (IsBitmap v.size) a b → AtRest a v
    → AtRest b v
rest_bitmap a b v o rest =
    let free = IsBitmap v.size in
    let not_gate : free 1 → ⊥ = λ (at : free 1). absurd (omega (arith, at.0)) in
    record {
      fits = fits_outside free a b v (head_not_bitmap v.size) o rest.fits;
      gate_kept = o.pending 1 not_gate ∙ rest.gate_kept;
      gate = ap is_open (o.blocks 1 not_gate) ∙ rest.gate;
      homes = λ p below.
          stays free a b o (home v.size (length v.pages) p)
          (λ (at : free (home v.size (length v.pages) p)). absurd (omega (arith, at.1)))
          (get_or v.pages p []) (rest.homes p below);
    }

logged_outside : (free : ℕ → Type 0) (a b : Moment) (v : View) (changed : List Bool)
    → length v.pages ≤ most_pages v.size → ((n : ℕ) → IsBitmap v.size n → free n → ⊥)
    → ((p : ℕ) → p < length v.pages → free (slot v.size p) → ⊥) → Outside free a b
    → IsLogged a v changed → IsLogged b v changed
logged_outside free a b v changed few not_bitmap not_slot o l = record {
  bitmap_kept = λ n at. o.pending n (not_bitmap n at) ∙ l.bitmap_kept n at;
  bits = λ p below.
      let at = bit_block v.size p (length v.pages) below few in
      ap (λ (x : List ℕ). has_bit x (p % BITS)) (o.blocks (2 + p / BITS)
      (not_bitmap (2 + p / BITS) at)) ∙ l.bits p below;
  slots = λ p below is. stays free a b o (slot v.size p) (not_slot p below) (get_or v.pages p [])
      (l.slots p below is);
}

-- a write to the gate leaves it to the gate
pub ready_gate : (a b : Moment) (kept new : View) (changed : List Bool) → Outside (λ n. n ≡ 1) a b
    → IsReady a kept new changed → IsReady b kept new changed
ready_gate a b kept new changed o r = record {
  fits = fits_outside (λ n. n ≡ 1) a b new (head_not_one new.size) o r.fits;
  fits_kept = fits_outside (λ n. n ≡ 1) a b kept (head_not_one kept.size) o r.fits_kept;
  homes = λ p below.
      stays (λ n. n ≡ 1) a b o (home kept.size (length kept.pages) p)
      (λ (e : home kept.size (length kept.pages) p ≡ 1). absurd (omega arith))
      (get_or kept.pages p []) (r.homes p below);
  logged =
      logged_outside (λ n. n ≡ 1) a b new changed r.fits.few
      (λ n at (e : n ≡ 1). absurd (omega (arith, at.0)))
      (λ p below (e : slot new.size p ≡ 1). absurd (omega arith)) o r.logged;
  same = r.same;
}

-- writes to the homes of changed pages leave it open
pub opened_homes : (a b : Moment) (v : View) (changed : List Bool)
    → Outside (IsIn (home v.size (length v.pages) 0) changed) a b → IsOpened a v changed
    → IsOpened b v changed
opened_homes a b v changed o r =
    let base = home v.size (length v.pages) 0 in
    let free = IsIn base changed in
    let not_gate : free 1 → ⊥ = λ (i : free 1). absurd (omega (arith, i.is)) in
    record {
      fits = fits_outside free a b v (not_head v.size base changed (omega arith)) o r.fits;
      gate_kept = o.pending 1 not_gate ∙ r.gate_kept;
      gate = ap is_open (o.blocks 1 not_gate) ∙ r.gate;
      logged =
          logged_outside free a b v changed r.fits.few
          (λ n at (i : free n). absurd (omega (arith, i.is, at.1)))
          (λ p below (i : free (slot v.size p)). absurd (omega (arith, i.is, below))) o r.logged;
      homes = λ p below bit_off.
          stays free a b o (home v.size (length v.pages) p)
          (λ (i : free (home v.size (length v.pages) p)).
          let at : i.page ≡ p = omega (arith, i.is) in
          absurd (cc (ap (λ (k : ℕ). get_or changed k false) at, i.changes, bit_off)))
          (get_or v.pages p []) (r.homes p below bit_off);
    }

-- a write to one slot leaves it at rest
pub rest_slot : (n : ℕ) (a b : Moment) (v : View) → head_blocks v.size ≤ n
    → n < head_blocks v.size + length v.pages
    → Outside (λ k. k ≡ n) a b → AtRest a v → AtRest b v
rest_slot n a b v low high o rest =
    record {
      fits = fits_outside (λ k. k ≡ n) a b v
          (λ k is (e : k ≡ n). absurd
          (omega (arith, head_below v.size k (head_blocks v.size) is (omega arith)))) o
          rest.fits;
      gate_kept = o.pending 1 (λ (e : 1 ≡ n). absurd (omega arith)) ∙ rest.gate_kept;
      gate = ap is_open (o.blocks 1 (λ (e : 1 ≡ n). absurd (omega arith))) ∙ rest.gate;
      homes = λ p below.
          stays (λ k. k ≡ n) a b o (home v.size (length v.pages) p)
          (λ (e : home v.size (length v.pages) p ≡ n). absurd (omega arith)) (get_or v.pages p [])
          (rest.homes p below);
    }
