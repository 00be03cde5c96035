-- Lists of pages, and calm, from pages by index.
use Rattle.std.proofs.Common.{◌≡◌, ◌≢◌, inl, inr, ℕ, ◌+◌, ◌*◌, ◌<◌, ◌≤◌, ◌⊎◌, Bool, true, false, List, [], length, get_or, set, take, drop, map, IsTrue, refl, sym, ◌∙◌, ap, subst, arith, length-take, length-drop, length-set, Result, Ok, Err}
use Rattle.std.specs.Prelude.{OnOk, OnErr, if◌then◌else◌}
use Rattle.std.specs.List.{range_with_len}
use Rattle.std.proofs.lemmas.Bool.Decides.{eqb_tells}
use Rattle.std.proofs.lemmas.List.{same_lists, get_or-take, get_or-drop, get_or_default, get_or-set_same, get_or-set_other}
use Rattle.std.proofs.lemmas.List.FromFn.{get_or-map-range_with_len, length-map-range_with_len}
use Rattle.gx_frames.specs.Pool.{Resident}
use Rattle.gx_device.specs.Content.{Content}
use Rattle.gx_layout.specs.Layout.{View, OnlyBlocks, slot, home, head_in, head_of, head_blocks, first_text, Holds, SameButChanged}
use Rattle.gx_layout.specs.Calm.{Calm, kept_view}
use Rattle.gx_journal.specs.Sources.{stored, page_of, IsCached, SamePages, IsSlot, IsBody, OnlySlots}
use Rattle.gx_journal.specs.State.{blank, pages_told, homes_told, head_told, CalmSince}

listed_pages : (f : ℕ → List ℕ) (P k : ℕ) (d : List ℕ) → k < P
    → get_or (map f (range_with_len 0 P)) k d ≡ f k
listed_pages f P k d below = get_or-map-range_with_len f 0 P k k d below (omega arith)

-- each page is what it was
pub pages_same : (tells : Bool) (N P Q : ℕ) (old new : Content) (was is : List Bool)
    (rs ss : List Resident) → Q ≡ P
    → (IsTrue tells → SamePages (page_of N P old.now.blocks was rs) (page_of N P new.now.blocks is
    ss))
    → pages_told tells N Q new is ss ≡ pages_told tells N P old was rs
pages_same true N P Q old new was is rs ss size same =
    ap (λ (n : ℕ). pages_told true N n new is ss) size
    ∙ (λ i. map (λ (q : ℕ). same refl q i) (range_with_len 0 P))
pages_same false N P Q old new was is rs ss size same = ap blank size

pub pages_at : (tells : Bool) (N P : ℕ) (c : Content) (spilled : List Bool) (rs : List Resident)
    → IsTrue tells → (p : ℕ) → p < P
    → get_or (pages_told tells N P c spilled rs) p [] ≡ page_of N P c.now.blocks spilled rs p
pages_at tells N P c spilled rs told p below =
    ap (λ (b : Bool). get_or (pages_told b N P c spilled rs) p []) told
    ∙ listed_pages (page_of N P c.now.blocks spilled rs) P p [] below

-- one page is written
pub pages_set : (tells : Bool) (N P Q : ℕ) (old new : Content) (was is : List Bool)
    (rs ss : List Resident) (p : ℕ) (bytes : List ℕ) → Q ≡ P
    → IsTrue tells → p < P
    → page_of N P new.now.blocks is ss p ≡ bytes
    → ((q : ℕ) → p ≢ q → page_of N P new.now.blocks is ss q ≡ page_of N P old.now.blocks was rs q)
    → pages_told tells N Q new is ss ≡ set (pages_told tells N P old was rs) p bytes
pages_set tells N P Q old new was is rs ss p bytes size told below here others =
    ap (λ (n : ℕ). pages_told tells N n new is ss) size
    ∙ subst (λ (b : Bool). pages_told b N P new is ss ≡ set (pages_told b N P old was rs) p bytes)
    (sym told) (
    let f = page_of N P new.now.blocks is ss in
    let g = page_of N P old.now.blocks was rs in
    let xs = map f (range_with_len 0 P) in
    let ys = map g (range_with_len 0 P) in
    let long : length xs ≡ P = length-map-range_with_len f 0 P in
    let wide : length ys ≡ P = length-map-range_with_len g 0 P in
    same_lists xs (set ys p bytes) (long ∙ sym wide ∙ sym (length-set ys p bytes)) (λ k d lt.
    let under : k < P = omega (arith, long, lt) in
    listed_pages f P k d under ∙ elim (eqb_tells p k) [
      | inl same ↦ ap f (sym same.1) ∙ here
          ∙ sym (get_or-set_same ys p bytes d (omega (arith, wide, below)))
          ∙ ap (λ (n : ℕ). get_or (set ys p bytes) n d) same.1
      | inr off ↦ others k off.1 ∙ sym (listed_pages g P k d under)
          ∙ sym (get_or-set_other ys p k bytes d (λ (e : k ≡ p). off.1 (sym e)))
    ]))

-- page k of the homes
at_base : (N P : ℕ) (blocks : List (List ℕ)) (k : ℕ) (d : List ℕ)
    → get_or (drop (home N P 0) blocks) k d ≡ get_or blocks (home N P k) d
at_base N P blocks k d = get_or-drop (home N P 0) blocks k d
    ∙ ap (λ (n : ℕ). get_or blocks n d) (omega arith)

-- the homes, where the places are those of so many blocks
pub homes_at : (tells : Bool) (N P : ℕ) (c : Content) → (IsTrue tells → N ≡ length c.now.blocks)
    → homes_told tells P c
    ≡ (if tells then take P (drop (home N P 0) c.now.blocks) else blank P)
homes_at true N P c sized =
    ap (λ (n : ℕ). take P (drop (home n P 0) c.now.blocks)) (sym (sized refl))
homes_at false N P c sized = refl

-- where each page is as at home, the working pages are the kept ones
pub pages_home : (tells : Bool) (N P Q : ℕ) (c : Content) (spilled : List Bool)
    (rs : List Resident) → Q ≡ P
    → head_blocks N + 2 * P ≤ N → (IsTrue tells → N ≡ length c.now.blocks)
    → (IsTrue tells → (q : ℕ)
    → page_of N P c.now.blocks spilled rs q ≡ get_or c.now.blocks (home N P q) [])
    → pages_told tells N Q c spilled rs ≡ homes_told tells P c
pages_home true N P Q c spilled rs size room sized same =
    ap (λ (n : ℕ). pages_told true N n c spilled rs) size ∙ (
    let f = page_of N P c.now.blocks spilled rs in
    let xs = map f (range_with_len 0 P) in
    let blocks = c.now.blocks in
    let many = sized refl in
    let long : length xs ≡ P = length-map-range_with_len f 0 P in
    let homes = take P (drop (home N P 0) blocks) in
    let wide : length homes ≡ P =
    omega (
      arith,
      length-take P (drop (home N P 0) blocks),
      length-drop (home N P 0) blocks,
      room,
      many,
    ) in
    same_lists xs homes (long ∙ sym wide)
    (λ k d lt.
    let under : k < P = omega (arith, long, lt) in
    listed_pages f P k d under ∙ same refl k
    ∙ get_or_default blocks (home N P k) [] d (omega (arith, under, room, many))
    ∙ sym (at_base N P blocks k d)
    ∙ sym (get_or-take P (drop (home N P 0) blocks) k d under)))
    ∙ sym (homes_at true N P c sized)
pages_home false N P Q c spilled rs size room sized same = ap blank size

same_in : (N : ℕ) (xs ys : List (List ℕ))
    → ((n : ℕ) → n < head_blocks N → (n ≡ 0) ⊎ (first_text N ≤ n)
    → get_or xs n [] ≡ get_or ys n [])
    → head_in (first_text N) xs ≡ head_in (first_text N) ys
same_in N xs ys same =
    let at0 = same 0 (omega arith) (inl refl) in
    let at1 = same (first_text N) (omega arith) (inr (omega arith)) in
    let at2 = same (first_text N + 1) (omega arith) (inr (omega arith)) in
    let at3 = same (first_text N + 2) (omega arith) (inr (omega arith)) in
    let at4 = same (first_text N + 3) (omega arith) (inr (omega arith)) in
    cc

-- slots alone changed: the kept pages and the head are the same
module _ (N P : ℕ) (old new : Content) (sized : N ≡ length old.now.blocks)
    (o : OnlySlots N P old new) where
  sized_new : N ≡ length new.now.blocks
  sized_new = sized ∙ sym o.outside.count

  same_head : head_of new.now.blocks ≡ head_of old.now.blocks
  same_head =
      ap (λ (n : ℕ). head_in (first_text n) new.now.blocks) (sym sized_new)
      ∙ same_in N new.now.blocks old.now.blocks (λ n low at. o.outside.blocks n
      (λ (s : IsSlot N P n). (let a = s.0 in absurd (omega (arith, a, low)))))
      ∙ ap (λ (n : ℕ). head_in (first_text n) old.now.blocks) sized

  same_at : take P (drop (home N P 0) new.now.blocks) ≡ take P (drop (home N P 0) old.now.blocks)
  same_at =
      let a = new.now.blocks in
      let b = old.now.blocks in
      let la = length-take P (drop (home N P 0) a) in
      let lb = length-take P (drop (home N P 0) b) in
      let da = length-drop (home N P 0) a in
      let db = length-drop (home N P 0) b in
      same_lists (take P (drop (home N P 0) a)) (take P (drop (home N P 0) b))
      (omega (arith, la, lb, da, db, o.outside.count)) (λ k d lt.
      let under : k < P = omega (arith, la, lt) in
      let within : home N P k < length a = omega (arith, la, da, lt) in
      get_or-take P (drop (home N P 0) a) k d under ∙ at_base N P a k d
      ∙ get_or_default a (home N P k) d [] within
      ∙ o.outside.blocks (home N P k)
      (λ (s : IsSlot N P (home N P k)). (let h = s.1 in absurd (omega (arith, h))))
      ∙ get_or_default b (home N P k) [] d (omega (arith, within, o.outside.count))
      ∙ sym (at_base N P b k d)
      ∙ sym (get_or-take P (drop (home N P 0) b) k d under))

  same_homes : (kept_view P new).pages ≡ (kept_view P old).pages
  same_homes =
      ap (λ (n : ℕ). take P (drop (home n P 0) new.now.blocks)) (sym sized_new) ∙ same_at
      ∙ ap (λ (n : ℕ). take P (drop (home n P 0) old.now.blocks)) sized

  same_view : kept_view P new ≡ kept_view P old
  same_view = λ i. record {
    size = o.outside.count i;
    pages = same_homes i;
    head = same_head i;
    said = [];
    shelf = o.outside.shelf i;
  }

pub homes_same : (tells : Bool) (N P Q : ℕ) (old new : Content) → Q ≡ P
    → (IsTrue tells → N ≡ length old.now.blocks)
    → (IsTrue tells → OnlySlots N P old new)
    → homes_told tells Q new ≡ homes_told tells P old
homes_same true N P Q old new size sized o = ap (λ (n : ℕ). homes_told true n new) size
    ∙ same_homes N P old new (sized refl) (o refl)
homes_same false N P Q old new size sized o = ap blank size

pub head_same : (tells : Bool) (N P : ℕ) (old new : Content)
    → (IsTrue tells → N ≡ length old.now.blocks) → (IsTrue tells → OnlySlots N P old new)
    → head_told tells new ≡ head_told tells old
head_same true N P old new sized o = same_head N P old new (sized refl) (o refl)
head_same false N P old new sized o = refl

pub calm_same : (tells failed now : Bool) (N P Q : ℕ) (start old new : Content) → Q ≡ P
    → now ≡ failed → (IsTrue tells → N ≡ length old.now.blocks)
    → (IsTrue tells → OnlySlots N P old new)
    → CalmSince tells failed P start old → CalmSince tells now Q start new
calm_same tells failed now N P Q start old new size flag sized o is =
    let s = o is.told in
    let many = sized is.told in
    let v = same_view N P old new many s in
    subst (λ (n : ℕ). CalmSince tells now n start new) (sym size) (record {
      told = is.told;
      steady = flag ∙ is.steady;
      count = ap (λ (x : View). length x.pages) v ∙ is.count;
      calm = subst (λ (x : View). Calm start x new) (sym v)
          (s.calm start (kept_view P old) (sym many) is.count is.calm);
    })

pub err_under : {T E A Q R : Type 0} (r : Result T E) → (A → OnErr r Q) → ((A → Q) → R) → OnErr r R
err_under (Ok x) h f = tt
err_under (Err x) h f = f h

-- where each page is as it is stored, the slots hold the spilled ones
pub slots_hold : (tells : Bool) (N P : ℕ) (c : Content) (spilled : List Bool) (rs : List Resident)
    → IsTrue tells
    → ((q : ℕ) → page_of N P c.now.blocks spilled rs q ≡ stored N P c.now.blocks spilled q)
    → Holds (head_blocks N) (pages_told tells N P c spilled rs) spilled c.now
slots_hold tells N P c spilled rs told all =
    subst (λ (b : Bool). Holds (head_blocks N) (pages_told b N P c spilled rs) spilled c.now) (sym
    told) (λ p lt on.
    let f = page_of N P c.now.blocks spilled rs in
    let under : p < P = omega (arith, lt, length-map-range_with_len f 0 P) in
    sym (listed_pages f P p [] under ∙ all p
    ∙ ap (λ (b : Bool). if b then get_or c.now.blocks (slot N p) [] else get_or c.now.blocks
    (home N P p) []) on))

-- and each other one is as at home
pub homes_stored : (tells : Bool) (N P : ℕ) (c : Content) (spilled : List Bool)
    (rs : List Resident) → IsTrue tells → N ≡ length c.now.blocks
    → ((q : ℕ) → page_of N P c.now.blocks spilled rs q ≡ stored N P c.now.blocks spilled q)
    → SameButChanged spilled (homes_told tells P c) (pages_told tells N P c spilled rs)
homes_stored tells N P c spilled rs told sized all =
    subst (λ (b : Bool). SameButChanged spilled (homes_told b P c) (pages_told b N P c spilled rs))
    (sym told) (λ p lt off.
    let f = page_of N P c.now.blocks spilled rs in
    let under : p < P = omega (arith, lt, length-map-range_with_len f 0 P) in
    ap (λ (n : ℕ). get_or (take P (drop (home n P 0) c.now.blocks)) p []) (sym sized)
    ∙ get_or-take P (drop (home N P 0) c.now.blocks) p [] under
    ∙ at_base N P c.now.blocks p []
    ∙ sym (listed_pages f P p [] under ∙ all p
    ∙ ap (λ (b : Bool). if b then get_or c.now.blocks (slot N p) [] else get_or c.now.blocks
    (home N P p) []) off))

-- a call that leaves all blocks leaves what they tell
module _ (old new : Content) (blocks : new.now.blocks ≡ old.now.blocks) where
  pub still_homes : (tells : Bool) (P : ℕ) → homes_told tells P new ≡ homes_told tells P old
  still_homes tells P = ap
      (λ (l : List (List ℕ)). if tells then take P (drop (home (length l) P 0) l) else blank P)
      blocks

  pub still_head : (tells : Bool) → head_told tells new ≡ head_told tells old
  still_head tells = ap (λ (l : List (List ℕ)). if tells then head_of l else []) blocks

  pub still_pages : (tells : Bool) (N P : ℕ) (spilled : List Bool) (rs : List Resident)
      → pages_told tells N P new spilled rs ≡ pages_told tells N P old spilled rs
  still_pages tells N P spilled rs =
      ap (λ (l : List (List ℕ)). if tells then map (page_of N P l spilled rs)
      (range_with_len 0 P) else blank P) blocks

  pub still_cached : (N P : ℕ) (spilled : List Bool) (rs : List Resident)
      → IsCached N P old.now.blocks spilled rs
      → IsCached N P new.now.blocks spilled rs
  still_cached N P spilled rs cached =
      subst (λ (l : List (List ℕ)). IsCached N P l spilled rs) (sym blocks) cached

  pub still_calm : (tells failed : Bool) (P : ℕ) (start : Content) → new.now.shelf ≡ old.now.shelf
      → ((v : View) → Calm start v old → Calm start v new) → CalmSince tells failed P start old
      → CalmSince tells failed P start new
  still_calm tells failed P start shelf calm is =
      let v : kept_view P new ≡ kept_view P old =
      λ i. record {
        size = length (blocks i);
        pages = take P (drop (home (length (blocks i)) P 0) (blocks i));
        head = head_of (blocks i);
        said = [];
        shelf = shelf i;
      } in
      record {
        told = is.told;
        steady = is.steady;
        count = ap (λ (x : View). length x.pages) v ∙ is.count;
        calm = subst (λ (x : View). Calm start x new) (sym v) (calm (kept_view P old) is.calm);
      }

-- a commit that left the head
not_body : (N n : ℕ) → n < head_blocks N → (n ≡ 0) ⊎ (first_text N ≤ n) → IsBody N n → ⊥
not_body N n low (inl z) (inl e) = absurd (omega (arith, z, e))
not_body N n low (inr high) (inl e) = absurd (omega (arith, high, e))
not_body N n low (inl z) (inr (inl e)) = absurd (omega (arith, z, e.0))
not_body N n low (inr high) (inr (inl e)) = absurd (omega (arith, high, e.1))
not_body N n low at (inr (inr high)) = absurd (omega (arith, low, high))

pub body_head : (tells : Bool) (N : ℕ) (old new : Content)
    → (IsTrue tells → N ≡ length old.now.blocks) → OnlyBlocks (IsBody N) old new
    → head_told tells new ≡ head_told tells old
body_head true N old new sized o =
    let many = sized refl in
    ap (λ (n : ℕ). head_in (first_text n) new.now.blocks) (sym (many ∙ sym o.count))
    ∙ same_in N new.now.blocks old.now.blocks (λ n low at. o.blocks n (not_body N n low at))
    ∙ ap (λ (n : ℕ). head_in (first_text n) old.now.blocks) many
body_head false N old new sized o = refl

-- after a commit the kept pages are the working ones
pub committed : {T E : Type 0} (r : Result T E) (tells : Bool) (N P Q : ℕ) (old new : Content)
    (was is : List Bool) (rs ss : List Resident)
    → Q ≡ P → head_blocks N + 2 * P ≤ N → (IsTrue tells → N ≡ length new.now.blocks)
    → (IsTrue tells → OnOk r ((q : ℕ)
    → page_of N P new.now.blocks is ss q ≡ get_or new.now.blocks (home N P q) []))
    → (IsTrue tells → OnOk r
    (SamePages (page_of N P old.now.blocks was rs) (page_of N P new.now.blocks is ss)))
    → OnOk r (homes_told tells Q new ≡ pages_told tells N P old was rs)
committed (Ok x) tells N P Q old new was is rs ss size room sized at_home same =
    ap (λ (n : ℕ). homes_told tells n new) size
    ∙ sym (pages_home tells N P Q new is ss size room sized at_home)
    ∙ pages_same tells N P Q old new was is rs ss size same
committed (Err e) tells N P Q old new was is rs ss size room sized at_home same = tt

pub committed_pages : {T E : Type 0} (r : Result T E) (tells : Bool) (N P Q : ℕ)
    (old new : Content)
    (was is : List Bool)
    (rs ss : List Resident) → Q ≡ P
    → (IsTrue tells → OnOk r
    (SamePages (page_of N P old.now.blocks was rs) (page_of N P new.now.blocks is ss)))
    → OnOk r (pages_told tells N Q new is ss ≡ pages_told tells N P old was rs)
committed_pages (Ok x) tells N P Q old new was is rs ss size same =
    pages_same tells N P Q old new was is rs ss size same
committed_pages (Err e) tells N P Q old new was is rs ss size same = tt
