-- Calls that leave the kept pages keep it calm.
use Rattle.std.proofs.Common.{◌≡◌, inl, inr, ℕ, ◌+◌, ◌<◌, ◌≤◌, Bool, false, List, [], ◌∷◌, ◌++◌, length, get_or, refl, sym, ◌∙◌, ap, subst, arith, append_assoc}
use Rattle.std.proofs.lemmas.List.Elements.{All-append, All-nil, All-cons}
use Rattle.gx_device.specs.Content.{Moment, Content, Ticks, OnlyTime, Writes, Listens, Speaks, block_of, is_pending}
use Rattle.gx_device.specs.Crash.{EachImage}
use Rattle.gx_device.specs.Quiet.{IsPrefix, IsQuiet}
use Rattle.gx_layout.specs.Layout.{View, Shows, AtRest, SameButChanged, with_pages, with_said, first_text, head_blocks, head_in, home, is_open}
use Rattle.gx_layout.specs.Calm.{Calm}
use Rattle.gx_layout.specs.CalmLaws.{quiet_rest}
use Rattle.gx_layout.specs.PhaseLaws.{rest_slot}
use Rattle.gx_device.proofs.RunLemmas.{outside_write}
use Rattle.gx_device.proofs.PrefixLemmas.{prefix_same, prefix_twice}

-- what was said may grow
quiet_longer : (v : View) (start : Moment) (last longer : List ℕ) → IsPrefix last longer
    → (m : Moment)
    → EachImage (IsQuiet (Shows v.size v.head v.pages) start last) m
    → EachImage (IsQuiet (Shows v.size v.head v.pages) start longer) m
quiet_longer v start last longer p m leaves image is =
    let q = leaves image is in
    record {
      is = q.is;
      begins = q.begins;
      goes_on = prefix_twice image.said last longer q.goes_on p;
      shelf = q.shelf;
    }

-- a call after which it is at rest with the same pages, and no less is said
pub calm_tick : (start : Content) (v : View) (old new : Content) → Ticks old new
    → AtRest new.now (with_said v new.now.said)
    → IsPrefix old.now.said new.now.said → Calm start v old → Calm start v new
calm_tick start v old new (inl on) rest longer calm =
    let first = start.now.said in
    let Q : Moment → Type 0 =
    EachImage (IsQuiet (Shows v.size v.head v.pages) start.now new.now.said) in
    record {
      since = calm.since ++ old.now ∷ [];
      past = on ∙ ap (λ (l : List Moment). l ++ old.now ∷ []) calm.past
          ∙ append_assoc start.past calm.since (old.now ∷ []);
      each = All-append Q calm.since (old.now ∷ [])
          (λ k at below. quiet_longer v start.now old.now.said new.now.said longer
          (get_or calm.since k at) (calm.each k at below))
          (All-cons Q old.now [] (quiet_rest v start.now new.now.said old.now calm.now calm.begun
          longer calm.shelf) (All-nil Q));
      now = rest;
      begun = prefix_twice first old.now.said new.now.said calm.begun longer;
      shelf = calm.shelf;
    }
calm_tick start v old new (inr same) rest longer calm =
    subst (λ (c : Content). Calm start v c) (sym same) calm

-- hear
pub calm_listens : (start : Content) (v : View) (old new : Content) → Ticks old new
    → Listens old new → Calm start v old → Calm start v new
calm_listens start v old new time l calm = calm_tick start v old new time
    (subst (λ (x : Moment). AtRest x (with_said v x.said)) (sym l.now) calm.now)
    (prefix_same old.now.said new.now.said (ap (λ (x : Moment). x.said) l.now)) calm

-- the same blocks are at rest, whatever is said
rest_said : (v : View) (a b : Moment) → b.blocks ≡ a.blocks → b.pending ≡ a.pending
    → b.shelf ≡ a.shelf → AtRest a (with_said v a.said)
    → AtRest b (with_said v b.said)
rest_said v a b blocks pending shelf rest =
    let kept : (n : ℕ) → is_pending a n ≡ false → is_pending b n ≡ false =
    λ n is. ap (λ (l : List Bool). get_or l n false) pending ∙ is in
    let same : (n : ℕ) → block_of b n ≡ block_of a n =
    λ n. ap (λ (l : List (List ℕ)). get_or l n []) blocks in
    record {
      fits = record {
        size = ap (λ (l : List (List ℕ)). length l) blocks ∙ rest.fits.size;
        count = rest.fits.count;
        few = rest.fits.few;
        room = rest.fits.room;
        head_kept = λ n is. kept n (rest.fits.head_kept n is);
        head = ap (head_in (first_text v.size)) blocks ∙ rest.fits.head;
        said = refl;
        shelf = shelf ∙ rest.fits.shelf;
      };
      gate_kept = kept 1 rest.gate_kept;
      gate = ap is_open (same 1) ∙ rest.gate;
      homes = λ p below. record {
        kept = kept (home v.size (length v.pages) p) (rest.homes p below).kept;
        reads = same (home v.size (length v.pages) p) ∙ (rest.homes p below).reads;
      };
    }

-- say, whatever it answers
pub calm_speaks : (start : Content) (v : View) (old new : Content) → Ticks old new → Speaks old new
    → Calm start v old → Calm start v new
calm_speaks start v old new time s calm =
    calm_tick start v old new time (rest_said v old.now new.now s.blocks s.pending s.shelf calm.now)
    (s.more, s.said) calm

-- at rest, with what was said at that moment
pub rest_own : (v : View) (m : Moment) → AtRest m v → AtRest m (with_said v m.said)
rest_own v m rest = record {
  fits = record {
    size = rest.fits.size;
    count = rest.fits.count;
    few = rest.fits.few;
    room = rest.fits.room;
    head_kept = rest.fits.head_kept;
    head = rest.fits.head;
    said = refl;
    shelf = rest.fits.shelf;
  };
  gate_kept = rest.gate_kept;
  gate = rest.gate;
  homes = rest.homes;
}

-- where no page has changed, it is at rest with the working pages
pub rest_new : (m : Moment) (v : View) (pages : List (List ℕ)) (changed : List Bool)
    → length v.pages ≡ length pages
    → SameButChanged changed v.pages pages → ((p : ℕ) → get_or changed p false ≡ false)
    → AtRest m (with_said v m.said)
    → AtRest m (with_said (with_pages v pages) m.said)
rest_new m v pages changed counts same none rest = record {
  fits = record {
    size = rest.fits.size;
    count = sym counts ∙ rest.fits.count;
    few = omega (arith, rest.fits.few, counts);
    room = rest.fits.room;
    head_kept = rest.fits.head_kept;
    head = rest.fits.head;
    said = refl;
    shelf = rest.fits.shelf;
  };
  gate_kept = rest.gate_kept;
  gate = rest.gate;
  homes = λ p below.
      let at = rest.homes p (omega (arith, counts, below)) in
      record {
        kept = ap (λ (P : ℕ). is_pending m (home v.size P p)) (sym counts) ∙ at.kept;
        reads = ap (λ (P : ℕ). block_of m (home v.size P p)) (sym counts) ∙ at.reads
            ∙ same p below (none p);
      };
}

-- a page that is spilled to its slot
pub calm_spill : (start : Content) (v : View) (n : ℕ) (old new : Content)
    → head_blocks v.size ≤ n → n < head_blocks v.size + length v.pages → Writes n old new
    → Calm start v old → Calm start v new
calm_spill start v n old new low high w calm =
    let run = outside_write (λ k. k ≡ n) n old new refl w in
    calm_tick start v old new w.time
    (rest_own (with_said v old.now.said) new.now
    (rest_slot n old.now new.now (with_said v old.now.said) low high run.now calm.now))
    (prefix_same old.now.said new.now.said w.said) calm

-- a read
pub calm_read : (start : Content) (v : View) (old new : Content) → OnlyTime old new
    → Calm start v old → Calm start v new
calm_read start v old new r calm = calm_tick start v old new r.time
    (subst (λ (x : Moment). AtRest x (with_said v x.said)) (sym r.now) calm.now)
    (prefix_same old.now.said new.now.said (ap (λ (x : Moment). x.said) r.now)) calm
