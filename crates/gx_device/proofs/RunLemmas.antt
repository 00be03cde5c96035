-- How a run of calls goes on.
use Rattle.std.proofs.Common.{◌≡◌, inl, inr, ℕ, ◌<◌, Bool, false, List, [], ◌∷◌, ◌++◌, length, get_or, refl, sym, ◌∙◌, ap, subst, append_assoc, length-set}
use Rattle.std.proofs.lemmas.List.{append-nil, get_or-set_other}
use Rattle.std.proofs.lemmas.List.Elements.{All-append, All-nil, All-cons}
use Rattle.gx_device.specs.Content.{Moment, Content, block_of, is_pending, Ticks, Writes, Syncs}
use Rattle.gx_device.specs.Crash.{Image, EachImage, Through, LeavesOnly, Outside}

-- no call
pub started : (Q : Moment → Type 0) (old : Content) → Q old.now → Through Q old old
started Q old here = record {
  between = [];
  past = sym (append-nil old.past);
  each = All-nil Q;
  now = here;
}

-- one run after another
pub joined : (Q : Moment → Type 0) (old mid new : Content) → Through Q old mid → Through Q mid new
    → Through Q old new
joined Q old mid new first then = record {
  between = first.between ++ then.between;
  past = then.past ∙ ap (λ (l : List Moment). l ++ then.between) first.past
      ∙ append_assoc old.past first.between then.between;
  each = All-append Q first.between then.between first.each then.each;
  now = then.now;
}

-- one call
pub ticked : (Q : Moment → Type 0) (old new : Content) → Ticks old new → Q old.now → Q new.now
    → Through Q old new
ticked Q old new (inl on) before after = record {
  between = old.now ∷ [];
  past = on;
  each = All-cons Q old.now [] before (All-nil Q);
  now = after;
}
ticked Q old new (inr same) before after = record {
  between = [];
  past = ap (λ (c : Content). c.past) same ∙ sym (append-nil old.past);
  each = All-nil Q;
  now = after;
}

-- a weaker fact
pub weakened : (Q R : Moment → Type 0) → ((m : Moment) → Q m → R m) → (old new : Content)
    → Through Q old new → Through R old new
weakened Q R f old new run = record {
  between = run.between;
  past = run.past;
  each = λ n m at. f (get_or run.between n m) (run.each n m at);
  now = f new.now run.now;
}

-- the same, from a fact on where it began
pub outside_same : (free : ℕ → Type 0) (m : Moment) → Outside free m m
outside_same free m = record {
  count = refl;
  said = refl;
  shelf = refl;
  blocks = λ n taken. refl;
  pending = λ n taken. refl;
}

pub outside_twice : (free : ℕ → Type 0) (a b c : Moment) → Outside free a b → Outside free b c
    → Outside free a c
outside_twice free a b c first then = record {
  count = then.count ∙ first.count;
  said = then.said ∙ first.said;
  shelf = then.shelf ∙ first.shelf;
  blocks = λ n taken. then.blocks n taken ∙ first.blocks n taken;
  pending = λ n taken. then.pending n taken ∙ first.pending n taken;
}

pub outside_more : (free more : ℕ → Type 0) → ((n : ℕ) → free n → more n) → (old m : Moment)
    → Outside free old m → Outside more old m
outside_more free more f old m o = record {
  count = o.count;
  said = o.said;
  shelf = o.shelf;
  blocks = λ n taken. o.blocks n (λ is. taken (f n is));
  pending = λ n taken. o.pending n (λ is. taken (f n is));
}

-- one run after another, each outside of the same blocks
pub outside_joined : (free : ℕ → Type 0) (old mid new : Content)
    → Through (Outside free old.now) old mid
    → Through (Outside free mid.now) mid new → Through (Outside free old.now) old new
outside_joined free old mid new first then =
    joined (Outside free old.now) old mid new first
    (weakened (Outside free mid.now) (Outside free old.now)
    (λ m o. outside_twice free old.now mid.now m first.now o) mid new then)

-- a write to a free block
pub outside_write : (free : ℕ → Type 0) (n : ℕ) (old new : Content) → free n → Writes n old new
    → Through (Outside free old.now) old new
outside_write free n old new is w =
    ticked (Outside free old.now) old new w.time (outside_same free old.now) (record {
      count = ap (λ (l : List (List ℕ)). length l) w.blocks ∙ length-set old.now.blocks n w.bytes;
      said = w.said;
      shelf = w.shelf;
      blocks = λ k taken. ap (λ (l : List (List ℕ)). get_or l k []) w.blocks
          ∙ get_or-set_other old.now.blocks n k w.bytes []
          (λ (same : k ≡ n). taken (subst free (sym same) is));
      pending = λ k taken. ap (λ (l : List Bool). get_or l k false) w.pending
          ∙ get_or-set_other old.now.pending n k w.flag false
          (λ (same : k ≡ n). taken (subst free (sym same) is));
    })

-- what a moment leaves is no more than what another did
pub no_more : (old m : Moment) → length m.blocks ≡ length old.blocks → m.said ≡ old.said
    → m.shelf ≡ old.shelf
    → ((n : ℕ) → block_of m n ≡ block_of old n)
    → ((n : ℕ) → is_pending old n ≡ false → is_pending m n ≡ false) → (P : Image → Type 0)
    → EachImage P old → EachImage P m
no_more old m count said shelf blocks pending P leaves image is = leaves image (record {
  said = is.said ∙ said;
  shelf = is.shelf ∙ shelf;
  count = is.count ∙ count;
  same = λ n below firm. is.same n (subst (λ (k : ℕ). n < k) (sym count) below) (pending n firm)
      ∙ blocks n;
})

-- a sync keeps what may be left
pub synced : (P : Image → Type 0) (old new : Content) → Syncs old new → EachImage P old.now
    → LeavesOnly P old new
synced P old new s leaves = ticked (EachImage P) old new s.time leaves
    (no_more old.now new.now (ap (λ (l : List (List ℕ)). length l) s.blocks) s.said s.shelf
    (λ n. ap (λ (l : List (List ℕ)). get_or l n []) s.blocks) s.kept P leaves)

-- a run outside of free blocks that keeps a fact from which the images follow, and the fact at its
-- end
pub guarded : (free : ℕ → Type 0) (F : Moment → Type 0) (P : Image → Type 0) (old new : Content)
    → ((m : Moment) → Outside free old.now m → F m) → ((m : Moment) → F m → EachImage P m)
    → Through (Outside free old.now) old new
    → LeavesOnly P old new
guarded free F P old new keeps leaves run =
    weakened (Outside free old.now) (EachImage P) (λ m o. leaves m (keeps m o)) old new run
