-- How calls end, told of other answers and of other states that are sound.
use Rattle.std.proofs.Common.{◌∙◌, ◌++◌, List, Result, Ok, Err, sym, ap, subst, arith, append_assoc}
use Rattle.std.specs.Prelude.{IfOk, OnOk}
use Rattle.gx_schema.specs.declared.schema.FileDef.{FileDef}
use Rattle.gx_ports.specs.Calls.{Ends, Reads, ReadsMaps}
use Rattle.gx_ports.specs.LeafMaps.{LeafMap, Extends}
use Rattle.gx_ports.specs.declared.stop.Stop.{Stop}
use Rattle.gx_ports.specs.declared.view.View.{Ghosts}
use Rattle.gx_stack.specs.Tree.{Tree}
use Rattle.gx_stack.proofs.PassLemmas.{Passes}
use Rattle.gx_types.specs.declared.any.AnyMapping.{AnyMapping}
use Rattle.gx_scan.specs.Files.{IsInternal, HasFile}

pub ok_both : {A E : Type 0} (r : Result A E) (P Q R : A → Type 0) → IfOk r P → IfOk r Q
    → ((x : A) → P x → Q x → R x) → IfOk r R
ok_both (Ok x) P Q R p q more = more x p q
ok_both (Err e) P Q R p q more = tt

pub ok_one : {A E : Type 0} (r : Result A E) (P R : A → Type 0) → IfOk r P → ((x : A) → P x → R x)
    → IfOk r R
ok_one (Ok x) P R p more = more x p
ok_one (Err e) P R p more = tt

pub ok_alone : {A E : Type 0} (r : Result A E) (P R : Type 0) → OnOk r P → (P → R) → OnOk r R
ok_alone (Ok x) P R p more = more p
ok_alone (Err e) P R p more = tt

-- how a call ends is told of another sound state
pub ends_so : {S T : Type 0} (g : Ghosts S) (known sound : Type 0) (old new : S)
    (result : Result T Stop) → (sound → known) → Ends g known old new result
    → Ends g sound old new result
ends_so g known sound old new result more ends = record {
  whole = ends.whole;
  later = ends.later;
  fault = ends.fault;
  counted = ends.counted;
  damaged = λ block e h. ends.damaged block e (more h);
}

-- what was answered in the place of another answer
pub ends_now : {S T U : Type 0} (g : Ghosts S) (sound : Type 0) (old new : S) (x : T) (y : U)
    → Ends g sound old new (Ok x) → Ends g sound old new (Ok y)
ends_now g sound old new x y ends = record {
  whole = ends.whole;
  later = ends.later;
  fault = λ e. absurd cc;
  counted = ends.counted;
  damaged = λ block e. absurd cc;
}

-- whole leaves that hold a file are so after a call that kept their maps
pub sound_after : {S : Type 0} (g : Ghosts S) (file : FileDef) (t : Tree AnyMapping) (old new : S)
    → Reads g old new → (g.whole old → g.whole new)
    → g.whole old × HasFile file t (g.working old) → g.whole new × HasFile file t (g.working new)
sound_after g file t old new reads whole sound =
    let held = subst (λ (maps : List LeafMap). IsInternal file t maps sound.1.0) (sym reads.working)
    sound.1.1 in
    (whole sound.0, (sound.1.0, held))

-- the front of a list is the front of what follows from it
pub extends_further : {A : Type 0} (xs ys zs : List A) → Extends xs ys → Extends ys zs → Extends xs
    zs
extends_further {A} xs ys zs front more = (
  front.0 ++ more.0,
  more.1 ∙ ap (λ (l : List A). l ++ more.0) front.1 ∙ append_assoc xs front.0 more.0,
)

-- a call that passed, with an answer
pub reads_passed : {S T : Type 0} (g : Ghosts S) {before : Type 0} {a b : S} (x : T)
    → Passes g a b → ReadsMaps g before a b (Ok x)
reads_passed g x p = record {
  reads = p.reads;
  ends = record {
    whole = p.whole;
    later = omega (arith, p.counted);
    fault = λ is. absurd cc;
    counted = λ _. p.counted;
    damaged = λ block is. absurd cc;
  };
  block = λ n is. absurd cc;
  not_full = λ is. cc;
}
