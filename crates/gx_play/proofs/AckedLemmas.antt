-- Commits that were told of.
use Rattle.std.proofs.Common.{◌≡◌, ◌⊎◌, inl, inr, ℕ, zero, suc, ◌+◌, ◌<◌, ◌≤◌, List, [], ◌∷◌, ◌++◌, length, take, refl, sym, ◌∙◌, ap, subst, arith, append_assoc, length-append}
use Rattle.std.specs.Prelude.{Option, Some, None, Result, Ok, Err}
use Rattle.std.proofs.lemmas.List.{append-nil, take_all, length-take}
use Rattle.gx_laws.proofs.ListLemmas.{none_long}
use Rattle.gx_device.specs.Content.{Moment, Content}
use Rattle.gx_device.specs.Crash.{Image, EachImage, LeavesOnly}
use Rattle.gx_device.specs.Quiet.{IsPrefix}
use Rattle.gx_device.proofs.RunLemmas.{weakened}
use Rattle.gx_schema.specs.declared.schema.Schema.{Schema}
use Rattle.gx_commands.specs.declared.command.LineWhy.{LineWhy}
use Rattle.gx_commands.specs.Lines.{script_lines}
use Rattle.gx_ports.specs.LeafMaps.{Limits}
use Rattle.gx_equation.specs.Trees.{DefinitionTree}
use Rattle.gx_model.specs.States.{State}
use Rattle.gx_model.specs.Play.{Playing, start_at}
use Rattle.gx_model.specs.Languages.{AreFirstLines}
use Rattle.gx_play.specs.Asked.{Runs}
use Rattle.gx_play.specs.declared.play.Answers.TheVariants as answers
use Rattle.gx_play.specs.Plays.{AreSaidUpTo}
use Rattle.gx_play.specs.Images.{IsPlayImage}
use Rattle.gx_play.specs.Acknowledged.{commit_count, KeepsAcked, IsKeptImage}
use Rattle.gx_play.specs.declared.status.Status.{Status}
use Rattle.gx_play.specs.declared.status.Status.TheVariants as status
use Rattle.gx_play.specs.Player.{EndsWith, MayBeSaid, line_play}
use Rattle.gx_play.proofs.TextLemmas.{cancel, fronts, Lacks, lacks_front, lacks_take}
use Rattle.gx_play.proofs.CommitLemmas.{IsOfCommit, runs_once, run_parts, no_fewer, silent_same, one_more, none_told}
use Rattle.gx_play.proofs.EndLineLemmas.{memory_lacks, full_lacks, stopped_lacks}

less : (m n : ℕ) → (m < n) ⊎ (n ≤ m)
less m zero = inr (omega arith)
less zero (suc n) = inl (omega arith)
less (suc m) (suc n) = elim (less m n) [
  | inl is ↦ inl (omega (arith, is))
  | inr is ↦ inr (omega (arith, is))
]

module _ (schema : Schema) (p : Playing) where
  -- lines that are a front of others have no more commits
  fewer : (a more : List (List ℕ)) (t u : List ℕ) (q r : Playing) → Runs schema p a t q
      → Runs schema p (a ++ more) u r → commit_count q ≤ commit_count r
  fewer a more t u q r short long =
      let x = run_parts schema p r a more u long in
      let same = ap commit_count (runs_once schema p q x.2 a t x.0 short x.3).1 in
      let up = no_fewer schema x.2 r more x.1 x.4 in
      omega (arith, same, up)

  -- lines that ran, whose answers were said but perhaps for an end of the last one's
  module _ (lines ran later : List (List ℕ)) (parts : lines ≡ ran ++ later) (text : List ℕ)
      (final : Playing) (runs : Runs schema p ran text final) (before now : List ℕ)
      (up : AreSaidUpTo schema p ran text before now) where
    abbrev told : List ℕ
    told = up.whole ++ take up.count up.cut

    -- the lines whose answers were said whole for sure
    are_acked : (first last : List (List ℕ)) (t : List ℕ) (q : Playing) → ran ≡ first ++ last
        → Runs schema p first t q → IsPrefix t told
        → ((a rest : List (List ℕ)) (u : List ℕ) (r : Playing) → lines ≡ a ++ rest
        → Runs schema p a u r → IsPrefix u told → commit_count r ≤ commit_count q)
        → commit_count q ≤ commit_count final → commit_count final ≤ commit_count q + 1
        → KeepsAcked schema p lines final before now
    are_acked first last t q are ran_first stands most fewer_than more_than = record {
      told = told;
      said = up.said;
      acked = commit_count q;
      acked_is = record {
        ran = first;
        later = last ++ later;
        parts = parts ∙ ap (λ (l : List (List ℕ)). l ++ later) are ∙ append_assoc first last later;
        text = t;
        final = q;
        runs = ran_first;
        stands = stands;
        are = refl;
        most = most;
      };
      no_fewer = fewer_than;
      no_more = more_than;
    }

    -- no lines have all answers of those that ran and one that says more
    module _ (a rest : List (List ℕ)) (u : List ℕ) (r : Playing) (run : Runs schema p a u r)
        (stands : IsPrefix u told) where
      longer : (more : List (List ℕ)) → a ≡ ran ++ more → length text ≤ length told
      longer more is =
          let x = run_parts schema p r ran more u
          (subst (λ (l : List (List ℕ)). Runs schema p l u r) is run) in
          let same = (runs_once schema p final x.2 ran text x.0 runs x.3).0 in
          omega (
            arith,
            ap (λ (l : List ℕ). length l) same,
            ap (λ (l : List ℕ). length l) x.5,
            length-append x.0 x.1,
            ap (λ (l : List ℕ). length l) stands.1,
            length-append u stands.0,
          )

      past_first : (line : List ℕ) (more : List (List ℕ)) → a ≡ up.first ++ line ∷ more
          → (other : List (List ℕ)) → ran ≡ a ++ other → length text ≤ length told
      past_first line more is other are =
          let none : length other ≡ 0 = omega (
            arith,
            ap (λ (l : List (List ℕ)). length l) are,
            length-append a other,
            ap (λ (l : List (List ℕ)). length l) is,
            length-append up.first (line ∷ more),
            ap (λ (l : List (List ℕ)). length l) up.ran_are,
            length-append up.first up.last,
            up.one,
          ) in
          longer [] (sym (append-nil ran ∙ are
          ∙ ap (λ (l : List (List ℕ)). a ++ l) (none_long other none) ∙ append-nil a))

      -- where all was said, the lines behind those that ran say nothing
      silent_past : (more : List (List ℕ)) → a ≡ ran ++ more → told ≡ text
          → commit_count r ≡ commit_count final
      silent_past more is all =
          let x = run_parts schema p r ran more u
          (subst (λ (l : List (List ℕ)). Runs schema p l u r) is run) in
          let same = (runs_once schema p final x.2 ran text x.0 runs x.3).0 in
          let none : length x.1 ≡ 0 = omega (
            arith,
            ap (λ (l : List ℕ). length l) same,
            ap (λ (l : List ℕ). length l) x.5,
            length-append x.0 x.1,
            ap (λ (l : List ℕ). length l) stands.1,
            length-append u stands.0,
            ap (λ (l : List ℕ). length l) all,
          ) in
          let still : Runs schema x.2 more [] r =
          subst (λ (t : List ℕ). Runs schema x.2 more t r) (none_long x.1 none) x.4 in
          silent_same schema x.2 r more still
          ∙ sym (ap commit_count (runs_once schema p final x.2 ran text x.0 runs x.3).1)

    whole_run : Runs schema p (up.first ++ up.last) text final
    whole_run = subst (λ (l : List (List ℕ)). Runs schema p l text final) up.ran_are runs

    -- the last line's answer was said in part: those before it count
    cut_short : length told < length text → KeepsAcked schema p lines final before now
    cut_short short =
        are_acked up.first up.last up.whole up.middle up.ran_are up.runs
        (take up.count up.cut, refl) most
        (fewer up.first up.last up.whole text up.middle final up.runs whole_run) no_more
      where
        no_more : commit_count final ≤ commit_count up.middle + 1
        no_more =
            let x = run_parts schema p final up.first up.last text whole_run in
            let once = runs_once schema p up.middle x.2 up.first up.whole x.0 up.runs x.3 in
            let same = ap commit_count once.1 in
            let one = one_more schema x.2 final up.last x.1 up.one x.4 in
            omega (arith, same, one)

        most : (a rest : List (List ℕ)) (u : List ℕ) (r : Playing) → lines ≡ a ++ rest
            → Runs schema p a u r → IsPrefix u told → commit_count r ≤ commit_count up.middle
        most a rest u r here run stands = elim (fronts a rest ran later (sym here ∙ parts)) [
          | inl within ↦ elim (fronts a within.0 up.first up.last (sym within.1 ∙ up.ran_are)) [
            | inl short_of ↦ fewer a short_of.0 u up.whole r up.middle run
                (subst (λ (l : List (List ℕ)). Runs schema p l up.whole up.middle) short_of.1
                up.runs)
            | inr past ↦ absurd (omega (
              arith,
              short,
              past_first a rest u r run stands past.0 past.1 past.2 within.0 within.1,
            ))
          ]
          | inr past ↦ absurd (omega (
            arith,
            short,
            longer a rest u r run stands (past.0 ∷ past.1) past.2,
          ))
        ]

    -- all answers were said: all lines that ran count
    said_whole : length text ≤ length told → KeepsAcked schema p lines final before now
    said_whole long =
        are_acked ran [] text final (sym (append-nil ran)) runs
        ([], all ∙ sym (append-nil text)) most (omega arith) (omega arith)
      where
        all : told ≡ text
        all = ap (λ (t : List ℕ). up.whole ++ t) (take_all up.count up.cut (omega (
          arith,
          long,
          ap (λ (l : List ℕ). length l) up.text_is,
          length-append up.whole up.cut,
          length-append up.whole (take up.count up.cut),
          length-take up.count up.cut,
        ))) ∙ sym up.text_is

        most : (a rest : List (List ℕ)) (u : List ℕ) (r : Playing) → lines ≡ a ++ rest
            → Runs schema p a u r → IsPrefix u told → commit_count r ≤ commit_count final
        most a rest u r here run stands = elim (fronts a rest ran later (sym here ∙ parts)) [
          | inl within ↦ fewer a within.0 u text r final run
              (subst (λ (l : List (List ℕ)). Runs schema p l text final) within.1 runs)
          | inr past ↦ omega (
            arith,
            silent_past a rest u r run stands (past.0 ∷ past.1) past.2 all,
          )
        ]

    pub keeps_acked : KeepsAcked schema p lines final before now
    keeps_acked = elim (less (length told) (length text)) [
      | inl short ↦ cut_short short
      | inr long ↦ said_whole long
    ]

-- ---- a front of the end's line

-- Lines ran, and all their answers were said, and then a text that lacks such a byte.
module _ (schema : Schema) (p : Playing) (lines ran later : List (List ℕ))
    (parts : lines ≡ ran ++ later) (text : List ℕ) (final : Playing)
    (runs : Runs schema p ran text final) (rest told : List ℕ) (said : told ≡ text ++ rest)
    (b : ℕ) (of : IsOfCommit b) (lacks : Lacks b rest) where
  -- no lines behind those that ran have a commit whose answer is said there
  none_past : (more : List (List ℕ)) (u : List ℕ) (r : Playing) → Runs schema p (ran ++ more) u r
      → IsPrefix u told → commit_count r ≡ commit_count final
  none_past more u r run stands =
      let x = run_parts schema p r ran more u run in
      let once = runs_once schema p final x.2 ran text x.0 runs x.3 in
      let all : text ++ (x.1 ++ stands.0) ≡ text ++ rest =
      sym (append_assoc text x.1 stands.0)
      ∙ ap (λ (t : List ℕ). t ++ x.1 ++ stands.0) once.0 ∙ ap (λ (t : List ℕ). t ++ stands.0) (sym x.5)
      ∙ sym stands.1 ∙ said in
      let tail = cancel text (x.1 ++ stands.0) rest all in
      none_told schema b of x.2 r more x.1
      (lacks_front b x.1 stands.0 (subst (Lacks b) (sym tail) lacks)) x.4
      ∙ sym (ap commit_count once.1)

  pub keeps_ended : KeepsAcked schema p lines final [] told
  keeps_ended = record {
    told = told;
    said = refl;
    acked = commit_count final;
    acked_is = record {
      ran = ran;
      later = later;
      parts = parts;
      text = text;
      final = final;
      runs = runs;
      stands = (rest, said);
      are = refl;
      most = λ a other u r here run stands.
          elim (fronts a other ran later (sym here ∙ parts)) [
            | inl within ↦ fewer schema p a within.0 u text r final run
                (subst (λ (l : List (List ℕ)). Runs schema p l text final) within.1 runs)
            | inr past ↦ omega (
              arith,
              none_past (past.0 ∷ past.1) u r
                  (subst (λ (l : List (List ℕ)). Runs schema p l u r) past.2 run) stands,
            )
          ];
    };
    no_fewer = omega arith;
    no_more = omega arith;
  }

-- ---- the play of a script

module _ (schema : Schema) (ds : List DefinitionTree) (limit : Option Limits) (start : State)
    (script : List ℕ) where
  abbrev IsKept : List ℕ → Playing → Type 0
  IsKept told m = KeepsAcked schema (start_at start) (script_lines script).lines m [] told

  -- the lines behind those that ran
  behind : (ran : List (List ℕ)) (next : Result (Option (List ℕ)) LineWhy)
      → AreFirstLines (script_lines script) ran next
      → (later : List (List ℕ)) × ((script_lines script).lines ≡ ran ++ later)
  behind ran (Ok (Some line)) first = (line ∷ first.0, first.1)
  behind ran (Ok None) first = ([], first.0 ∙ sym (append-nil ran))
  behind ran (Err why) first = ([], first.0 ∙ sym (append-nil ran))

  -- a front of such a line was said behind the answers of those that ran
  line_kept : (ran later : List (List ℕ)) → (script_lines script).lines ≡ ran ++ later
      → (answers : List ℕ) (m : Playing) → Runs schema (start_at start) ran answers m
      → (line : List ℕ) (count : ℕ) (told : List ℕ) → told ≡ answers ++ take count line → (b : ℕ)
      → IsOfCommit b → Lacks b line → IsKept told m
  line_kept ran later parts answers m runs line count told said b of lacks =
      keeps_ended schema (start_at start) (script_lines script).lines ran later parts answers m runs
      (take count line) told said b of (lacks_take b count line lacks)

  ended : (s : Status) (answers line told : List ℕ) (m : Playing) (count : ℕ)
      → EndsWith (line_play schema ds limit start script) s answers m line
      → told ≡ answers ++ take count line → IsKept told m
  ended status.Done answers line told m count ends said =
      let x = behind ends.0.ran ends.0.next ends.0.first in
      line_kept ends.0.ran x.0 x.1 answers m ends.0.runs line count told said 99 (inl refl)
      (subst (Lacks 99) (sym ends.1) tt)
  ended status.Script answers line told m count ends said =
      let x = behind ends.2.ran ends.2.next ends.2.first in
      line_kept ends.2.ran x.0 x.1 answers m ends.2.runs line count told said 109 (inr refl)
      (subst (Lacks 109) (sym ends.3) (stopped_lacks ends.0 ends.1))
  ended status.Memory answers line told m count ends said =
      let first = ends.0.first in
      line_kept first.ran first.later first.parts answers m
      (subst (Runs schema (start_at start) first.ran answers) (sym ends.0.is) first.runs) line count
      told said 99 (inl refl) (subst (Lacks 99) (sym ends.1) memory_lacks)
  ended status.Full answers line told m count ends said =
      line_kept ends.0.ran ends.0.later ends.0.parts answers m ends.0.runs line count told said 99
      (inl refl) (subst (Lacks 99) (sym ends.1) full_lacks)
  ended status.Refused answers line told m count ends said = absurd ends
  ended status.Device answers line told m count ends said = absurd ends
  ended status.Outside answers line told m count ends said = absurd ends

  -- whatever may be said of it
  pub may_be_acked : (told : List ℕ) (m : Playing)
      → MayBeSaid (line_play schema ds limit start script) told m → IsKept told m
  may_be_acked told m (inl x) =
      keeps_acked schema (start_at start) (script_lines script).lines x.ran x.later x.parts x.answers
      m x.runs [] told x.up_to
  may_be_acked told m (inr x) = ended x.meant x.answers x.line told m x.count x.ends x.told_is

-- ---- images

-- What a crash leaves while lines are played is a state that first lines kept, after all commits
-- that were told of and one more at most.
pub to_kept : (schema : Schema) (Holds : State → List (List ℕ) → Type 0) (p : Playing)
    (lines : List (List ℕ)) (start : Moment) (image : Image)
    → IsPlayImage schema Holds answers.Said p lines start image
    → IsKeptImage schema Holds p lines start image
to_kept schema Holds p lines start image i = record {
  ran = i.ran;
  later = i.later;
  parts = i.parts;
  text = i.text;
  final = i.final;
  runs = i.runs;
  holds = i.holds;
  acked = keeps_acked schema p lines i.ran i.later i.parts i.text i.final i.runs start.said
      image.said i.up_to;
  shelf = i.shelf;
}

-- the same of a run
pub kept_images : (schema : Schema) (Holds : State → List (List ℕ) → Type 0) (p : Playing)
    (lines : List (List ℕ)) (start : Moment) (a b : Content)
    → LeavesOnly (IsPlayImage schema Holds answers.Said p lines start) a b
    → LeavesOnly (IsKeptImage schema Holds p lines start) a b
kept_images schema Holds p lines start a b run =
    weakened (EachImage (IsPlayImage schema Holds answers.Said p lines start))
    (EachImage (IsKeptImage schema Holds p lines start))
    (λ m leaves image at. to_kept schema Holds p lines start image (leaves image at)) a b run
