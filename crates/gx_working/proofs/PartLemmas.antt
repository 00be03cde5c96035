-- What a crash leaves while the parts of the workload's script are played, one after another.
use Rattle.std.proofs.Common.{◌≡◌, ◌∙◌, ℕ, Bool, false, List, [], ◌++◌, refl, ap, subst, append_assoc}
use Rattle.gx_device.specs.Content.{Moment, Content, Silent}
use Rattle.gx_device.specs.Crash.{Image, EachImage, LeavesOnly}
use Rattle.gx_device.proofs.RunLemmas.{started, joined, weakened}
use Rattle.gx_schema.specs.declared.schema.Schema.{Schema}
use Rattle.gx_ports.specs.Calm.{StandsForKept, StaysKept}
use Rattle.gx_ports.specs.Heads.{Head}
use Rattle.gx_ports.specs.declared.view.View.{Ghosts}
use Rattle.gx_ports.proofs.ImageLemmas.{prefix_both}
use Rattle.gx_types.specs.declared.built.Built.{Built}
use Rattle.gx_model.specs.States.{State}
use Rattle.gx_model.specs.Play.{Playing}
use Rattle.gx_play.specs.Asked.{Runs}
use Rattle.gx_play.proofs.AskedLemmas.{run_on}
use Rattle.gx_engine.specs.Crashes.{HoldsState}
use Rattle.gx_play.specs.declared.play.Answers.TheVariants as answers
use Rattle.gx_play.specs.Images.{IsPlayImage, LeavesPlay}

-- ---- an image of a part

module _ (schema : Schema) (Holds Held : State → List (List ℕ) → Type 0)
    (holds : (s : State) (blocks : List (List ℕ)) → Holds s blocks → Held s blocks)
    (p q : Playing) (done part later all : List (List ℕ)) (text : List ℕ)
    (parts : all ≡ (done ++ part) ++ later) (runs : Runs schema p done text q)
    (start mid : Moment) (said : mid.said ≡ start.said) (shelf : mid.shelf ≡ start.shelf) where
  regroup : (a b c d : List (List ℕ)) → (a ++ (b ++ c)) ++ d ≡ (a ++ b) ++ (c ++ d)
  regroup a b c d = simp append_assoc

  -- is one of all
  pub part_image : (image : Image) → IsPlayImage schema Holds answers.Kept q part mid image
      → IsPlayImage schema Held answers.Kept p all start image
  part_image image is = record {
    ran = done ++ is.ran;
    later = is.later ++ later;
    parts = parts ∙ ap (λ (ls : List (List ℕ)). (done ++ ls) ++ later) is.parts
        ∙ regroup done is.ran is.later later;
    text = text ++ is.text;
    final = is.final;
    runs = run_on schema p q is.final done is.ran text is.text runs is.runs;
    up_to = is.up_to ∙ said;
    holds = holds is.final.kept image.blocks is.holds;
    shelf = is.shelf ∙ shelf;
  }

  pub part_images : (old new : Content)
      → LeavesOnly (IsPlayImage schema Holds answers.Kept q part mid) old new
      → LeavesOnly (IsPlayImage schema Held answers.Kept p all start) old new
  part_images old new run =
      weakened (EachImage (IsPlayImage schema Holds answers.Kept q part mid))
      (EachImage (IsPlayImage schema Held answers.Kept p all start))
      (λ m leaves image is. part_image image (leaves image is)) old new run

-- ---- over leaves

module _ {S : Type 0} (g : Ghosts S) (schema : Schema) (built : Built) (p : Playing)
    (all : List (List ℕ)) where
  abbrev pub Leaves : Bool → S → S → Type 0
  Leaves = LeavesPlay g schema built answers.Kept p all

  -- before anything is played
  pub leaves_none : ((l : S) (start : Content) → g.calm l start → StaysKept g l start)
      → ((l : S) (start : Content) → g.calm l start → g.calm l (g.content l)) → (l : S)
      → ((blocks : List (List ℕ)) → StandsForKept g l blocks
      → HoldsState g schema built (g.head l) p.kept blocks)
      → (start : Content) → g.calm l start → Leaves false l l
  leaves_none means goes_on l held start calm =
      let now = goes_on l start calm in
      let quiet = means l (g.content l) now in
      let first = (g.content l).now in
      record {
        images = started
            (EachImage (IsPlayImage schema (HoldsState g schema built (g.head l)) answers.Kept p all
            first)) (g.content l) (λ image is.
            let q = quiet.last image is in
            record {
              ran = [];
              later = all;
              parts = refl;
              text = [];
              final = p;
              runs = (refl, refl);
              up_to = prefix_both first.said image.said q.begins q.goes_on;
              holds = held image.blocks q.is;
              shelf = q.shelf;
            });
        calm = λ none. now;
      }

  module _ (q : Playing) (done part later : List (List ℕ)) (text : List ℕ)
      (parts : all ≡ (done ++ part) ++ later) (runs : Runs schema p done text q) where
    -- the first part
    pub leaves_first : (failed : Bool) (a b : S)
        → LeavesPlay g schema built answers.Kept q part failed a b → Leaves failed a b
    leaves_first failed a b leaves = record {
      images = part_images schema (HoldsState g schema built (g.head a))
          (HoldsState g schema built (g.head a)) (λ s blocks is. is) p q done part later all text
          parts runs (g.content a).now (g.content a).now refl refl (g.content a) (g.content b)
          leaves.images;
      calm = leaves.calm;
    }

    -- one that begins where the lines before it ran
    pub leaves_then : (failed : Bool) (a b c : S) → g.head b ≡ g.head a
        → Silent (g.content a) (g.content b) → Leaves false a b
        → LeavesPlay g schema built answers.Kept q part failed b c → Leaves failed a c
    leaves_then failed a b c head silent first then = record {
      images = joined
          (EachImage (IsPlayImage schema (HoldsState g schema built (g.head a)) answers.Kept p all
          (g.content a).now)) (g.content a) (g.content b) (g.content c) first.images
          (part_images schema (HoldsState g schema built (g.head b))
          (HoldsState g schema built (g.head a))
          (λ s blocks is. subst (λ (h : Head). HoldsState g schema built h s blocks) head is) p q
          done part later all text parts runs (g.content a).now (g.content b).now silent.said
          silent.shelf (g.content b) (g.content c) then.images);
      calm = then.calm;
    }
