-- A piece that is said part by part.
use Rattle.std.proofs.Common.{◌≡◌, ℕ, zero, suc, ◌+◌, ◌-◌, List, [], ◌∷◌, ◌++◌, length, take, drop, refl, sym, ap, ◌∙◌, arith, append_assoc}
use Rattle.std.proofs.lemmas.List.{append-nil, drop-drop, take_all, length-drop}
use Rattle.gx_device.specs.Content.{Content, Ticks, Speaks}
use Rattle.gx_device.proofs.RunLemmas.{started, joined, ticked}
use Rattle.gx_ports.specs.Calls.{Talks}
use Rattle.gx_ports.specs.declared.view.View.{Ghosts}
use Rattle.gx_engine.specs.declared.engine.Engine.{Engine}
use Rattle.gx_engine.specs.Steps.{IsSame, leaves_of}
use Rattle.gx_play.specs.Say.{IsSaying, SaysThrough}

take_add : (a b : ℕ) (xs : List ℕ) → take a xs ++ take b (drop a xs) ≡ take (a + b) xs
take_add zero b xs = ap (λ k. take k xs) (let e : b ≡ 0 + b = omega arith in e)
take_add (suc a) b [] = take_all b [] (omega arith) ∙ sym (take_all (suc a + b) [] (omega arith))
take_add (suc a) b (x ∷ xs) =
    ap (λ (ys : List ℕ). x ∷ ys) (take_add a b xs)
    ∙ ap (λ k. take k (x ∷ xs)) (let e : suc (a + b) ≡ suc a + b = omega arith in e)

-- what is said so far, after the next part
pub said_more : (piece rest old mid new : List ℕ) (done n : ℕ) → rest ≡ drop done piece
    → mid ≡ old ++ take done piece → new ≡ mid ++ take n rest → new ≡ old ++ take (done + n) piece
said_more piece rest old mid new done n is so_far next =
    next ∙ (λ i. so_far i ++ take n (is i))
    ∙ append_assoc old (take done piece) (take n (drop done piece))
    ∙ ap (λ (p : List ℕ). old ++ p) (take_add done n piece)

pub rest_more : (piece rest : List ℕ) (done n : ℕ) → rest ≡ drop done piece
    → take (length rest - n) (drop n rest) ≡ drop (done + n) piece
rest_more piece rest done n is =
    take_all (length rest - n) (drop n rest) (omega (arith, length-drop n rest)) ∙ ap (drop n) is
    ∙ drop-drop n done piece

-- ---- each moment while a piece is said

-- before it
pub no_moments : (piece : List ℕ) (old : Content) → SaysThrough piece old old
no_moments piece old = started (IsSaying piece old.now) old (record {
  said = (0, sym (append-nil old.now.said));
  blocks = refl;
  pending = refl;
  shelf = refl;
})

-- one call more, behind which this much of it was said
pub more_moments : (piece : List ℕ) (old mid new : Content) (count : ℕ)
    → SaysThrough piece old mid → Ticks mid new → Speaks mid new
    → new.now.said ≡ old.now.said ++ take count piece → SaysThrough piece old new
more_moments piece old mid new count run time speaks said =
    joined (IsSaying piece old.now) old mid new run
    (ticked (IsSaying piece old.now) mid new time run.now (record {
      said = (count, said);
      blocks = speaks.blocks ∙ run.now.blocks;
      pending = speaks.pending ∙ run.now.pending;
      shelf = speaks.shelf ∙ run.now.shelf;
    }))

-- while nothing is said
pub none_through : (text : List ℕ) (old new : Content) → text ≡ [] → SaysThrough text old new
    → new.now.said ≡ old.now.said
none_through text old new none run =
    run.now.said.1
    ∙ ap (λ (t : List ℕ). old.now.said ++ take run.now.said.0 t) none
    ∙ ap (λ (t : List ℕ). old.now.said ++ t) (take_all run.now.said.0 [] (omega arith))
    ∙ append-nil old.now.said

-- ---- what `hear` and `say` keep, once and one after the other

pub talks_joined : {S : Type 0} (g : Ghosts S) (a b c : S) → Talks g a b → Talks g b c → Talks g a c
talks_joined g a b c p q = record {
  working = q.working ∙ p.working;
  whole = λ h. q.whole (p.whole h);
  fresh = λ leaf h. q.fresh leaf (p.fresh leaf h);
  kept = q.kept ∙ p.kept;
  unchanged = λ h. q.unchanged (p.unchanged h);
  kept_whole = (λ h. q.kept_whole.0 (p.kept_whole.0 h), λ h. p.kept_whole.1 (q.kept_whole.1 h));
  work = q.work ∙ p.work;
  limit = q.limit ∙ p.limit;
  head = q.head ∙ p.head;
  calm = λ s h. q.calm s (p.calm s h);
}

-- what stays the same twice stays the same
pub same_again : {S : Type 0} (g : Ghosts S) (a b c : Engine S) → IsSame g a b → IsSame g b c
    → IsSame g a c
same_again g a b c p q = record {
  talks = talks_joined g (leaves_of a) (leaves_of b) (leaves_of c) p.talks q.talks;
  schema = q.schema ∙ p.schema;
  built = q.built ∙ p.built;
  inside = q.inside ∙ p.inside;
  commits = q.commits ∙ p.commits;
  stopped = q.stopped ∙ p.stopped;
}
