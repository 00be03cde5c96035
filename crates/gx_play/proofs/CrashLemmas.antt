-- What a crash leaves while lines are played: one line, a line behind others, and the end.
use Rattle.std.proofs.Common.{◌≡◌, ◌⊎◌, inl, inr, ℕ, List, [], ◌∷◌, ◌++◌, length, take, Bool, false, Result, refl, sym, ◌∙◌, ap, subst, arith, append_assoc}
use Rattle.std.proofs.lemmas.List.{append-nil}
use Rattle.gx_device.specs.Content.{Moment, Content, Silent, Listens}
use Rattle.gx_device.specs.Crash.{Image, EachImage, LeavesOnly}
use Rattle.gx_device.specs.Quiet.{IsPrefix, IsQuiet, QuietSince, IsOldOrNew}
use Rattle.gx_device.proofs.RunLemmas.{started, joined, weakened}
use Rattle.gx_schema.specs.declared.schema.Schema.{Schema}
use Rattle.gx_commands.specs.declared.command.Command.TheVariants as command
use Rattle.gx_commands.specs.Lines.{Lines, with_line}
use Rattle.gx_ports.specs.declared.view.View.{Ghosts}
use Rattle.gx_ports.specs.Heads.{Head}
use Rattle.gx_ports.specs.Calm.{StaysKept}
use Rattle.gx_ports.specs.QuietLaws.{quiet_weaker}
use Rattle.gx_ports.proofs.ImageLemmas.{quiet_images, prefix_both}
use Rattle.gx_types.specs.declared.built.Built.{Built}
use Rattle.gx_model.specs.States.{State}
use Rattle.gx_model.specs.Play.{Playing, is_inside}
use Rattle.gx_engine.specs.declared.engine.Engine.{Engine}
use Rattle.gx_engine.specs.Steps.{IsAt, IsSame, schema_of, built_of, leaves_of}
use Rattle.gx_engine.specs.Crashes.{HoldsState, HoldsFor}
use Rattle.gx_engine.proofs.CrashLemmas.{kept_state, talks_states}
use Rattle.gx_store.proofs.CrashLemmas.{reads_image}
use Rattle.gx_play.specs.declared.play.Answers.{Answers}
use Rattle.gx_play.specs.declared.play.Answers.TheVariants as answers
use Rattle.gx_play.specs.declared.lines.Asked.{Asked}
use Rattle.gx_play.specs.declared.lines.Asked.TheVariants as asked
use Rattle.gx_play.specs.Asked.{IsAsked, IsAnsweredTo, after_asked, Runs}
use Rattle.gx_play.specs.Carrying.{CarriesOutAsked, KeepsAsked, LeavesAskedStates}
use Rattle.gx_play.specs.Answering.{beside, with_answers}
use Rattle.gx_play.proofs.AskedLemmas.{step_of, run_on}
use Rattle.gx_play.specs.Pieces.{IsGoing}
use Rattle.gx_play.specs.Images.{IsSaidOf, IsAskedImage, LeavesAsked, IsLineImage, LeavesLine, AreSaidOf, IsPlayImage, LeavesPlay}
use Rattle.gx_play.proofs.AnsweringLemmas.{at_alone}
use Rattle.gx_play.proofs.TextLemmas.{cancel, front_of}

-- ---- what is asked for

-- nothing of an answer is a front of it
none_said : (to : Answers) (answer before now : List ℕ) → now ≡ before
    → IsSaidOf to answer before now
none_said answers.Said answer before now same = (0, same ∙ sym (append-nil before))
none_said answers.Kept answer before now same = same

-- where it changes the kept state, it has an answer
changes_or_stays : (schema : Schema) (p : Playing) (c : Asked)
    → ((answer : List ℕ) × IsAnsweredTo schema p c answer)
    ⊎ ((after_asked schema p c).kept ≡ p.kept)
changes_or_stays schema p (asked.Command command.Commit) = inl (_, refl)
changes_or_stays schema p _ = inr refl

module _ (schema : Schema) (Holds : State → List (List ℕ) → Type 0) (to : Answers)
    (p : Playing) (c : Asked) where
  -- it is carried out: before its commit point the state before it, and behind it that after it, of
  -- which nothing was said
  step_images : (begin : Moment) (a b : Content)
      → LeavesOnly (IsOldOrNew (Holds p.kept) (Holds (after_asked schema p c).kept) begin) a b
      → LeavesOnly (IsAskedImage schema Holds to p c begin) a b
  step_images begin a b run =
      weakened (EachImage (IsOldOrNew (Holds p.kept) (Holds (after_asked schema p c).kept) begin))
      (EachImage (IsAskedImage schema Holds to p c begin))
      (λ m leaves image at. record {
        is = elim (leaves image at).is [
          | inl h ↦ inl (h, (leaves image at).said)
          | inr h ↦ elim (changes_or_stays schema p c) [
            | inl x ↦ inr (
              x.0,
              x.1,
              h,
              none_said to x.0 begin.said image.said (leaves image at).said,
            )
            | inr same ↦ inl (
              subst (λ (s : State). Holds s image.blocks) same h,
              (leaves image at).said,
            )
          ]
        ];
        shelf = (leaves image at).shelf;
      }) a b run

-- and then its answer is said, whole or in part
say_images : (schema : Schema) (Holds : State → List (List ℕ) → Type 0) (p : Playing) (c : Asked)
    (answer : List ℕ) → IsAnsweredTo schema p c answer → (begin : Moment) (a b : Content) (count : ℕ)
    → a.now.said ≡ begin.said → a.now.shelf ≡ begin.shelf
    → b.now.said ≡ a.now.said ++ take count answer
    → QuietSince (Holds (after_asked schema p c).kept) a b
    → LeavesOnly (IsAskedImage schema Holds answers.Said p c begin) a b
say_images schema Holds p c answer answered begin a b count silent shelf said quiet =
    weakened (EachImage (IsQuiet (Holds (after_asked schema p c).kept) a.now b.now.said))
    (EachImage (IsAskedImage schema Holds answers.Said p c begin))
    (λ m leaves image at. turn image (leaves image at)) a b
    (quiet_images (Holds (after_asked schema p c).kept) a b quiet)
  where
    turn : (image : Image)
        → IsQuiet (Holds (after_asked schema p c).kept) a.now b.now.said image
        → IsAskedImage schema Holds answers.Said p c begin image
    turn image i =
        let m = i.begins.0 in
        let rest = i.goes_on.0 in
        let all : a.now.said ++ (m ++ rest) ≡ a.now.said ++ take count answer =
        sym (append_assoc a.now.said m rest) ∙ ap (λ (s : List ℕ). s ++ rest) (sym i.begins.1)
        ∙ sym i.goes_on.1 ∙ said in
        let tail = cancel a.now.said (m ++ rest) (take count answer) all in
        record {
          is = inr (
            answer,
            answered,
            i.is,
            (length m, i.begins.1 ∙ (λ k. silent k ++ front_of m rest answer count tail k)),
          );
          shelf = i.shelf ∙ shelf;
        }

module _ {S : Type 0} (g : Ghosts S) where
  -- what holds a state on one engine holds it on another of the same database
  held_for : (schema : Schema) (built : Built) (head : Head) (e : Engine S) → schema_of e ≡ schema
      → built_of e ≡ built → g.head (leaves_of e) ≡ head → (s : State) (blocks : List (List ℕ))
      → HoldsFor g e s blocks → HoldsState g schema built head s blocks
  held_for schema built head e schema_is built_is head_is s blocks h =
      subst (λ (x : Schema). HoldsState g x built head s blocks) schema_is
      (subst (λ (x : Built). HoldsState g (schema_of e) x head s blocks) built_is
      (subst (λ (x : Head). HoldsState g (schema_of e) (built_of e) x s blocks) head_is h))

  -- nothing is said of it
  pub states_leave : (to : Answers) (p : Playing) (c : Asked) (old new : Engine S)
      (failed : Bool) → LeavesAskedStates g p c old new failed
      → LeavesAsked g (schema_of old) (built_of old) to p c failed (leaves_of old) (leaves_of new)
  states_leave to p c old new failed leaves = record {
    images = step_images (schema_of old) (HoldsFor g old) to p c (g.content (leaves_of old)).now
        (g.content (leaves_of old)) (g.content (leaves_of new)) leaves.images;
    calm = leaves.calm;
  }

  module _ (means : (l : S) (start : Content) → g.calm l start → StaysKept g l start)
      (goes_on : (l : S) (start : Content) → g.calm l start → g.calm l (g.content l)) where
    -- a line that isn't carried out
    pub still_line : (to : Answers) (p : Playing) (line : List ℕ) (e : Engine S) (failed : Bool)
        → IsAt g p e → (start : Content) → g.calm (leaves_of e) start
        → LeavesLine g (schema_of e) (built_of e) to p line failed (leaves_of e) (leaves_of e)
    still_line to p line e failed at start calm =
        let now = g.content (leaves_of e) in
        let quiet = means (leaves_of e) now (goes_on (leaves_of e) start calm) in
        record {
          images = started
              (EachImage (IsLineImage (schema_of e) (HoldsFor g e) to p line now.now)) now
              (λ image is.
              let q = quiet.last image is in
              record {
                is = inl (
                  kept_state g p e at image.blocks q.is,
                  prefix_both now.now.said image.said q.begins q.goes_on,
                );
                shelf = q.shelf;
              });
          calm = λ none. goes_on (leaves_of e) start calm;
        }

    -- its answer is said, whole or in part
    pub answer_leaves : (p : Playing) (c : Asked) (old mid new : Engine S) (answer : List ℕ)
        (count : ℕ) (failed : Bool) → LeavesAskedStates g p c old mid false
        → schema_of mid ≡ schema_of old → built_of mid ≡ built_of old
        → g.head (leaves_of mid) ≡ g.head (leaves_of old)
        → Silent (g.content (leaves_of old)) (g.content (leaves_of mid))
        → IsAnsweredTo (schema_of old) p c answer → IsAt g (after_asked (schema_of old) p c) mid
        → IsSame g mid new
        → (g.content (leaves_of new)).now.said
        ≡ (g.content (leaves_of mid)).now.said ++ take count answer
        → LeavesAsked g (schema_of old) (built_of old) answers.Said p c failed (leaves_of old)
        (leaves_of new)
    answer_leaves p c old mid new answer count failed leaves schema_is built_is head_is silent
        answered at same said = record {
          images = joined
              (EachImage (IsAskedImage (schema_of old) (HoldsFor g old) answers.Said p c begin))
              (g.content (leaves_of old)) (g.content (leaves_of mid)) (g.content (leaves_of new))
              (states_leave answers.Said p c old mid false leaves).images
              (say_images (schema_of old) (HoldsFor g old) p c answer answered begin
              (g.content (leaves_of mid)) (g.content (leaves_of new)) count silent.said silent.shelf
              said quiet);
          calm = λ none. goes_on (leaves_of new) (g.content (leaves_of mid))
              (same.talks.calm (g.content (leaves_of mid)) (leaves.calm refl));
        }
      where
        begin : Moment
        begin = (g.content (leaves_of old)).now

        quiet : QuietSince (HoldsFor g old (after_asked (schema_of old) p c).kept)
            (g.content (leaves_of mid)) (g.content (leaves_of new))
        quiet = quiet_weaker (HoldsFor g mid (after_asked (schema_of old) p c).kept)
            (HoldsFor g old (after_asked (schema_of old) p c).kept)
            (held_for (schema_of old) (built_of old) (g.head (leaves_of old)) mid schema_is built_is
            head_is (after_asked (schema_of old) p c).kept)
            (g.content (leaves_of mid)) (g.content (leaves_of new))
            (talks_states g means goes_on (after_asked (schema_of old) p c) mid new at same.talks
            (g.content (leaves_of mid)) (leaves.calm refl))

    -- the same as it is written to the room for it
    pub said_leaves : {E : Type 0} (to : Answers) (p : Playing) (c : Asked)
        (old mid new : Engine S) (result : Result (Unit {0}) E) (out piece now : List ℕ)
        (failed : Bool) → to ≡ answers.Said → out ≡ [] → piece ≡ now → IsAt g p old
        → LeavesAskedStates g p c old mid false → KeepsAsked g old mid c result
        → CarriesOutAsked g p c old mid out now
        → IsSame g mid new → ((count : ℕ) × ((g.content (leaves_of new)).now.said
        ≡ (g.content (leaves_of mid)).now.said ++ take count piece))
        → LeavesAsked g (schema_of old) (built_of old) to p c failed (leaves_of old)
        (leaves_of new)
    said_leaves to p c old mid new result out piece now failed to_is out_is piece_is at leaves keeps
        carried same front =
        subst (λ (a : Answers). LeavesAsked g (schema_of old) (built_of old) a p c failed
        (leaves_of old) (leaves_of new)) (sym to_is)
        (answer_leaves p c old mid new carried.answer front.0 failed leaves keeps.schema keeps.built
        keeps.head keeps.silent carried.answered carried.at same
        (front.1 ∙ ap (λ (t : List ℕ). (g.content (leaves_of mid)).now.said ++ take front.0 t)
        (piece_is ∙ carried.said ∙ ap (λ (t : List ℕ). t ++ carried.answer) out_is)))

  -- ---- a line

  -- the line that asks for it
  pub line_leaves : (schema : Schema) (built : Built) (to : Answers) (p : Playing) (line : List ℕ)
      (c : Asked) (failed : Bool) (old new : S) → IsAsked schema (is_inside p) line c
      → LeavesAsked g schema built to p c failed old new
      → LeavesLine g schema built to p line failed old new
  line_leaves schema built to p line c failed old new means leaves = record {
    images = weakened
        (EachImage (IsAskedImage schema (HoldsState g schema built (g.head old)) to p c
        (g.content old).now))
        (EachImage (IsLineImage schema (HoldsState g schema built (g.head old)) to p line
        (g.content old).now))
        (λ m leaves_image image at.
        let i = leaves_image image at in
        record {
          is = elim i.is [
            | inl h ↦ inl h
            | inr h ↦ inr (
              h.0,
              after_asked schema p c,
              step_of schema p line h.0 c means h.1,
              h.2,
              h.3,
            )
          ];
          shelf = i.shelf;
        }) (g.content old) (g.content new) leaves.images;
    calm = leaves.calm;
  }

-- ---- a line behind others

-- what was said when all answers so far were
abbrev AllSaid : Answers → List ℕ → List ℕ → List ℕ → Type 0
AllSaid answers.Said text before now = now ≡ before ++ text
AllSaid answers.Kept text before now = now ≡ before

whole_said : (schema : Schema) (to : Answers) (p q : Playing) (ran : List (List ℕ))
    (text before now image : List ℕ) → Runs schema p ran text q → AllSaid to text before now
    → image ≡ now → AreSaidOf to schema p ran text before image
whole_said schema answers.Said p q ran text before now image runs said same = record {
  first = ran;
  last = [];
  one = omega arith;
  ran_are = sym (append-nil ran);
  whole = text;
  cut = [];
  text_is = sym (append-nil text);
  middle = q;
  runs = runs;
  count = 0;
  said = same ∙ said ∙ ap (λ (t : List ℕ). before ++ t) (sym (append-nil text));
}
whole_said schema answers.Kept p q ran text before now image runs said same = same ∙ said

one_said : (schema : Schema) (to : Answers) (p q : Playing) (ran : List (List ℕ))
    (text line answer before now image : List ℕ) → Runs schema p ran text q
    → AllSaid to text before now → IsSaidOf to answer now image
    → AreSaidOf to schema p (ran ++ line ∷ []) (text ++ answer) before image
one_said schema answers.Said p q ran text line answer before now image runs said front = record {
  first = ran;
  last = line ∷ [];
  one = omega arith;
  ran_are = refl;
  whole = text;
  cut = answer;
  text_is = refl;
  middle = q;
  runs = runs;
  count = front.0;
  said = front.1 ∙ ap (λ (s : List ℕ). s ++ take front.0 answer) said
      ∙ append_assoc before text (take front.0 answer);
}
one_said schema answers.Kept p q ran text line answer before now image runs said front =
    front ∙ said

module _ (schema : Schema) (Holds : State → List (List ℕ) → Type 0) (to : Answers) (p : Playing)
    (lines : List (List ℕ)) (start : Moment) (ran later : List (List ℕ))
    (parts : lines ≡ ran ++ later) (text : List ℕ) (q : Playing) (runs : Runs schema p ran text q)
    (now : Moment) (said : AllSaid to text start.said now.said) (shelf : now.shelf ≡ start.shelf)
  where
    -- nothing happened behind them
    stays_image : (image : Image) → Holds q.kept image.blocks → image.said ≡ now.said
        → image.shelf ≡ now.shelf → IsPlayImage schema Holds to p lines start image
    stays_image image holds same place = record {
      ran = ran;
      later = later;
      parts = parts;
      text = text;
      final = q;
      runs = runs;
      up_to = whole_said schema to p q ran text start.said now.said image.said runs said same;
      holds = holds;
      shelf = place ∙ shelf;
    }

    -- the next one is carried out
    next_image : (line : List ℕ) (rest : List (List ℕ)) → later ≡ line ∷ rest → (image : Image)
        → IsLineImage schema Holds to q line now image
        → IsPlayImage schema Holds to p lines start image
    next_image line rest is image i = elim i.is [
      | inl h ↦ stays_image image h.0 h.1 i.shelf
      | inr h ↦ record {
        ran = ran ++ line ∷ [];
        later = rest;
        parts = parts ∙ ap (λ (l : List (List ℕ)). ran ++ l) is
            ∙ sym (append_assoc ran (line ∷ []) rest);
        text = text ++ h.0;
        final = h.1;
        runs = run_on schema p q h.1 ran (line ∷ []) text h.0 runs
            (h.0, [], h.1, h.2, (refl, refl), sym (append-nil h.0));
        up_to = one_said schema to p q ran text line h.0 start.said now.said image.said runs
            said h.4;
        holds = h.3;
        shelf = i.shelf ∙ shelf;
      }
    ]

module _ {S : Type 0} (g : Ghosts S) where
  -- what is calm whatever failed
  pub leaves_on : (schema : Schema) (built : Built) (to : Answers) (p : Playing)
      (lines : List (List ℕ)) (failed other : Bool) (old new : S)
      → (other ≡ false → failed ≡ false) → LeavesPlay g schema built to p lines failed old new
      → LeavesPlay g schema built to p lines other old new
  leaves_on schema built to p lines failed other old new less leaves =
      record { images = leaves.images; calm = λ none. leaves.calm (less none) }

  -- what was said so far in a play of which a crash leaves its images
  shelf_so_far : (schema : Schema) (built : Built) (to : Answers) (p : Playing)
      (lines : List (List ℕ)) (failed : Bool) (old new : S)
      → LeavesPlay g schema built to p lines failed old new
      → (g.content new).now.shelf ≡ (g.content old).now.shelf
  shelf_so_far schema built to p lines failed old new leaves =
      (leaves.images.now _ (reads_image (g.content new).now)).shelf

  said_so_far : (schema : Schema) (built : Built) (to : Answers) (p : Playing) (all left : Lines)
      (number : ℕ) (start e : Engine S) (kept out : List ℕ)
      → (going : IsGoing (beside g to) p all left number (with_answers start kept)
      (with_answers e out))
      → LeavesPlay g schema built to p all.lines false (leaves_of start) (leaves_of e)
      → AllSaid to going.so_far.answers (g.content (leaves_of start)).now.said
      (g.content (leaves_of e)).now.said
  said_so_far schema built answers.Said p all left number start e kept out going leaves =
      going.so_far.said
  said_so_far schema built answers.Kept p all left number start e kept out going leaves =
      (leaves.images.now _ (reads_image (g.content (leaves_of e)).now)).up_to

  -- the next line, over leaves
  next_play : (schema : Schema) (built : Built) (to : Answers) (p : Playing)
      (lines : List (List ℕ)) (failed : Bool) (old now new : S) (ran later : List (List ℕ))
      → lines ≡ ran ++ later → (text : List ℕ) (q : Playing) → Runs schema p ran text q
      → AllSaid to text (g.content old).now.said (g.content now).now.said → g.head now ≡ g.head old
      → (line : List ℕ) (rest : List (List ℕ)) → later ≡ line ∷ rest
      → LeavesPlay g schema built to p lines false old now
      → LeavesLine g schema built to q line failed now new
      → LeavesPlay g schema built to p lines failed old new
  next_play schema built to p lines failed old now new ran later parts text q runs said head_is line
      rest is leaves next = record {
        images = joined
            (EachImage (IsPlayImage schema (HoldsState g schema built (g.head old)) to p lines
            (g.content old).now))
            (g.content old) (g.content now) (g.content new) leaves.images
            (weakened
            (EachImage (IsLineImage schema (HoldsState g schema built (g.head now)) to q line
            (g.content now).now))
            (EachImage (IsPlayImage schema (HoldsState g schema built (g.head old)) to p lines
            (g.content old).now))
            (λ m leaves_image image at.
            next_image schema (HoldsState g schema built (g.head old)) to p lines
            (g.content old).now ran later parts text q runs (g.content now).now said
            (shelf_so_far schema built to p lines false old now leaves) line rest is image
            (subst (λ (h : Head). IsLineImage schema (HoldsState g schema built h) to q line
            (g.content now).now image) head_is (leaves_image image at)))
            (g.content now) (g.content new) next.images);
        calm = next.calm;
      }

  -- the next line of a play
  pub line_on_leaves : (to : Answers) (p : Playing) (all before left : Lines) (number : ℕ)
      (line : List ℕ) (start e new : Engine S) (kept out : List ℕ) (failed : Bool)
      → before ≡ with_line line left
      → IsGoing (beside g to) p all before number (with_answers start kept) (with_answers e out)
      → g.head (leaves_of e) ≡ g.head (leaves_of start)
      → LeavesPlay g (schema_of start) (built_of start) to p all.lines false (leaves_of start)
      (leaves_of e)
      → ((q : Playing) → IsAt g q e → (c : Content) → g.calm (leaves_of e) c
      → LeavesLine g (schema_of e) (built_of e) to q line failed (leaves_of e) (leaves_of new))
      → LeavesPlay g (schema_of start) (built_of start) to p all.lines failed (leaves_of start)
      (leaves_of new)
  line_on_leaves to p all before left number line start e new kept out failed before_is going
      head_is leaves next =
      let so = going.so_far in
      next_play (schema_of start) (built_of start) to p all.lines failed (leaves_of start)
      (leaves_of e) (leaves_of new) so.ran before.lines so.lines_are so.answers so.now so.runs
      (said_so_far (schema_of start) (built_of start) to p all before number start e kept out going
      leaves) head_is line left.lines (ap (λ (ls : Lines). ls.lines) before_is) leaves
      (subst (λ (x : Schema). LeavesLine g x (built_of start) to so.now line failed (leaves_of e)
      (leaves_of new)) going.schema
      (subst (λ (x : Built). LeavesLine g (schema_of e) x to so.now line failed (leaves_of e)
      (leaves_of new)) going.built
      (next so.now (at_alone g to so.now e out so.at) (g.content (leaves_of e))
      (leaves.calm refl))))

  module _ (means : (l : S) (start : Content) → g.calm l start → StaysKept g l start)
      (goes_on : (l : S) (start : Content) → g.calm l start → g.calm l (g.content l)) where
    -- before the first line
    pub first_leaves : (to : Answers) (p : Playing) (lines : List (List ℕ)) (e : Engine S)
        → IsAt g p e → (start : Content) → g.calm (leaves_of e) start
        → LeavesPlay g (schema_of e) (built_of e) to p lines false (leaves_of e) (leaves_of e)
    first_leaves to p lines e at start calm =
        let now = g.content (leaves_of e) in
        let quiet = means (leaves_of e) now (goes_on (leaves_of e) start calm) in
        record {
          images = started
              (EachImage (IsPlayImage (schema_of e) (HoldsFor g e) to p lines now.now)) now
              (λ image is.
              let q = quiet.last image is in
              stays_image (schema_of e) (HoldsFor g e) to p lines now.now [] lines refl [] p
              (refl, refl) now.now (nothing_said to now.now.said) refl image
              (kept_state g p e at image.blocks q.is)
              (prefix_both now.now.said image.said q.begins q.goes_on) q.shelf);
          calm = λ none. goes_on (leaves_of e) start calm;
        }
      where
        nothing_said : (to : Answers) (said : List ℕ) → AllSaid to [] said said
        nothing_said answers.Said said = sym (append-nil said)
        nothing_said answers.Kept said = refl

    -- more of the script is heard
    pub heard_leaves : (p : Playing) (all left : Lines) (number : ℕ) (start e f : Engine S)
        (kept out : List ℕ) (failed : Bool)
        → IsGoing (beside g answers.Said) p all left number (with_answers start kept)
        (with_answers e out)
        → g.head (leaves_of e) ≡ g.head (leaves_of start) → IsSame g e f
        → Listens (g.content (leaves_of e)) (g.content (leaves_of f))
        → LeavesPlay g (schema_of start) (built_of start) answers.Said p all.lines false
        (leaves_of start) (leaves_of e)
        → LeavesPlay g (schema_of start) (built_of start) answers.Said p all.lines failed
        (leaves_of start) (leaves_of f)
    heard_leaves p all left number start e f kept out failed going head_is same listens leaves =
        let so = going.so_far in
        let before = g.content (leaves_of start) in
        let now = g.content (leaves_of e) in
        let then = g.content (leaves_of f) in
        let at = at_alone g answers.Said so.now e out so.at in
        let quiet = talks_states g means goes_on so.now e f at same.talks now (leaves.calm refl) in
        record {
          images = joined
              (EachImage (IsPlayImage (schema_of start) (HoldsFor g start) answers.Said p all.lines
              before.now)) before now then leaves.images
              (weakened (EachImage (IsQuiet (HoldsFor g e so.now.kept) now.now then.now.said))
              (EachImage (IsPlayImage (schema_of start) (HoldsFor g start) answers.Said p all.lines
              before.now))
              (λ m leaves_image image is.
              let q = leaves_image image is in
              stays_image (schema_of start) (HoldsFor g start) answers.Said p all.lines before.now
              so.ran left.lines so.lines_are so.answers so.now so.runs now.now
              (said_so_far (schema_of start) (built_of start) answers.Said p all left number start
              e kept out going leaves)
              (shelf_so_far (schema_of start) (built_of start) answers.Said p all.lines false
              (leaves_of start) (leaves_of e) leaves) image
              (held_for g (schema_of start) (built_of start) (g.head (leaves_of start)) e
              going.schema going.built head_is so.now.kept image.blocks q.is)
              (prefix_both now.now.said image.said q.begins
              (subst (λ (m : Moment). IsPrefix image.said m.said) listens.now q.goes_on)) q.shelf)
              now then (quiet_images (HoldsFor g e so.now.kept) now then quiet));
          calm = λ none. goes_on (leaves_of f) now (same.talks.calm now (leaves.calm refl));
        }
