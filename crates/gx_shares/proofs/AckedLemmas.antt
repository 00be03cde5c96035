-- Commits of turns that were told of.
use Rattle.std.proofs.Common.{◌≡◌, inl, inr, ℕ, ◌<◌, ◌≤◌, List, [], ◌∷◌, ◌++◌, length, take, refl, sym, ◌∙◌, ap, subst, arith, append_assoc, length-append}
use Rattle.std.specs.Prelude.{Option, Some, None, Result, Ok, Err}
use Rattle.std.proofs.lemmas.Bool.{cases_lt}
use Rattle.std.proofs.lemmas.List.{append-nil, take_all, length-take}
use Rattle.gx_laws.proofs.ListLemmas.{none_long}
use Rattle.gx_device.specs.Quiet.{IsPrefix}
use Rattle.gx_schema.specs.declared.schema.Schema.{Schema}
use Rattle.gx_commands.specs.declared.command.LineWhy.{LineWhy}
use Rattle.gx_commands.specs.Lines.{script_lines}
use Rattle.gx_ports.specs.LeafMaps.{Limits}
use Rattle.gx_equation.specs.Trees.{DefinitionTree}
use Rattle.gx_model.specs.States.{State}
use Rattle.gx_model.specs.Languages.{RunsIn, AreFirstLines}
use Rattle.gx_play.specs.declared.status.Status.{Status}
use Rattle.gx_play.specs.declared.status.Status.TheVariants as status
use Rattle.gx_play.specs.Player.{EndsWith, MayBeSaid}
use Rattle.gx_play.proofs.TextLemmas.{cancel, fronts}
use Rattle.gx_sharing.specs.Sharing.{Sharing, share_start}
use Rattle.gx_sharing.specs.Turns.{Turn}
use Rattle.gx_sharing.specs.Texts.{turns}
use Rattle.gx_sharing.proofs.Once.{definite_turns}
use Rattle.gx_shares.specs.Player.{texts_of, share_play, AreFirstTurns, AreToldOf}
use Rattle.gx_shares.specs.Acknowledged.{commit_count, KeepsAckedTurns}
use Rattle.gx_shares.proofs.RunLemmas.{runs_once, run_parts}
use Rattle.gx_shares.proofs.CommitLemmas.{Begins, begins_front, begins_take, texts_apart, never_fewer, few_more, none_told, turns_apart}

-- ---- runs from one start

module _ (schema : Schema) (p : Sharing) where
  turns_once : (q r : Sharing) (ran : List (List ℕ)) (us vs : List Turn)
      → RunsIn (turns schema) p ran us q → RunsIn (turns schema) p ran vs r → (us ≡ vs) × (q ≡ r)
  turns_once q r ran us vs x y =
      runs_once (turns schema) (definite_turns schema) p q r ran us vs x y

  -- lines that are a front of others have no more commits
  fewer : (a more : List (List ℕ)) (us vs : List Turn) (q r : Sharing)
      → RunsIn (turns schema) p a us q → RunsIn (turns schema) p (a ++ more) vs r
      → commit_count q ≤ commit_count r
  fewer a more us vs q r short long =
      let x = run_parts (turns schema) p r a more vs long in
      let same = ap commit_count (turns_once q x.2 a us x.0 short x.3).1 in
      let up = never_fewer schema x.2 r more x.1 x.4 in
      omega (arith, same, up)

  -- lines that give a turn say all that others say which give one at most
  says_as_much : (b c d e : List (List ℕ)) (us vs : List Turn) (q r : Sharing)
      → b ++ c ≡ d ++ e → RunsIn (turns schema) p b us q → RunsIn (turns schema) p d vs r
      → length vs ≤ 1 → 0 < length us → length (texts_of vs) ≤ length (texts_of us)
  says_as_much b c d e us vs q r same x y few some = elim (fronts b c d e same) [
    | inl within ↦ (
        let z = run_parts (turns schema) p r b within.0 vs
        (subst (λ (l : List (List ℕ)). RunsIn (turns schema) p l vs r) within.1 y) in
        let once = (turns_once q z.2 b us z.0 x z.3).0 in
        let none : length z.1 ≡ 0 = omega (
          arith,
          few,
          some,
          ap (λ (l : List Turn). length l) once,
          ap (λ (l : List Turn). length l) z.5,
          length-append z.0 z.1,
        ) in
        let all : vs ≡ us =
        z.5 ∙ ap (λ (l : List Turn). z.0 ++ l) (none_long z.1 none) ∙ append-nil z.0 ∙ sym once in
        omega (arith, ap (λ (l : List Turn). length (texts_of l)) all))
    | inr past ↦ (
        let z = run_parts (turns schema) p q d (past.0 ∷ past.1) us
        (subst (λ (l : List (List ℕ)). RunsIn (turns schema) p l us q) past.2 x) in
        let once = (turns_once r z.2 d vs z.0 y z.3).0 in
        omega (
          arith,
          ap (λ (l : List Turn). length (texts_of l)) once,
          ap (λ (l : List ℕ). length l) (texts_apart us z.0 z.1 z.5),
          length-append (texts_of z.0) (texts_of z.1),
        ))
  ]

-- ---- lines that ran

module _ (schema : Schema) (p : Sharing) (lines ran later : List (List ℕ))
    (parts : lines ≡ ran ++ later) (ts : List Turn) (final : Sharing)
    (runs : RunsIn (turns schema) p ran ts final) (told : List ℕ) where
  -- all that their turns say was said, and then a text that begins with `s`, if with anything
  module _ (rest : List ℕ) (said : told ≡ texts_of ts ++ rest) (begins : Begins 115 rest) where
    -- no lines behind them have a commit whose text is said there
    none_past : (more : List (List ℕ)) (us : List Turn) (r : Sharing)
        → RunsIn (turns schema) p (ran ++ more) us r → IsPrefix (texts_of us) told
        → commit_count r ≡ commit_count final
    none_past more us r run stands =
        let x = run_parts (turns schema) p r ran more us run in
        let once = turns_once schema p final x.2 ran ts x.0 runs x.3 in
        let front : texts_of us ≡ texts_of ts ++ texts_of x.1 =
        texts_apart us x.0 x.1 x.5
        ∙ ap (λ (l : List Turn). texts_of l ++ texts_of x.1) (sym once.0) in
        let all : texts_of ts ++ (texts_of x.1 ++ stands.0) ≡ texts_of ts ++ rest =
        sym (append_assoc (texts_of ts) (texts_of x.1) stands.0)
        ∙ ap (λ (l : List ℕ). l ++ stands.0) (sym front) ∙ sym stands.1 ∙ said in
        let tail = cancel (texts_of ts) (texts_of x.1 ++ stands.0) rest all in
        none_told schema x.2 r more x.1 x.4
        (begins_front 115 (texts_of x.1) stands.0 (subst (Begins 115) (sym tail) begins))
        ∙ sym (ap commit_count once.1)

    pub keeps_whole : KeepsAckedTurns schema p lines final told
    keeps_whole = record {
      acked = commit_count final;
      acked_is = record {
        ran = ran;
        later = later;
        parts = parts;
        ts = ts;
        final = final;
        runs = runs;
        stands = (rest, said);
        are = refl;
        most = λ a other us r here run stands.
            elim (fronts a other ran later (sym here ∙ parts)) [
              | inl within ↦ fewer schema p a within.0 us ts r final run
                  (subst (λ (l : List (List ℕ)). RunsIn (turns schema) p l ts final) within.1 runs)
              | inr past ↦ omega (
                arith,
                none_past (past.0 ∷ past.1) us r
                    (subst (λ (l : List (List ℕ)). RunsIn (turns schema) p l us r) past.2 run)
                    stands,
              )
            ];
      };
      no_fewer = omega arith;
      no_more = omega arith;
    }

  -- what the last turn says was said in part: the lines before it count
  module _ (first last : List Turn) (one : length last ≤ 1) (ts_are : ts ≡ first ++ last)
      (cut : List ℕ) (said : told ≡ texts_of first ++ cut)
      (short : length cut < length (texts_of last)) where
    apart : (a : List (List ℕ)) × (b : List (List ℕ)) × (q : Sharing) × (ran ≡ a ++ b)
        × RunsIn (turns schema) p a first q × RunsIn (turns schema) q b last final
    apart = turns_apart schema p final ran first last
        (subst (λ (l : List Turn). RunsIn (turns schema) p ran l final) ts_are runs)

    here_are : lines ≡ apart.0 ++ (apart.1 ++ later)
    here_are = parts ∙ ap (λ (l : List (List ℕ)). l ++ later) apart.3
        ∙ append_assoc apart.0 apart.1 later

    -- no lines behind these have a commit whose text is said there
    none_behind : (more rest : List (List ℕ)) (us : List Turn) (r : Sharing)
        → lines ≡ (apart.0 ++ more) ++ rest → RunsIn (turns schema) p (apart.0 ++ more) us r
        → IsPrefix (texts_of us) told → commit_count r ≤ commit_count apart.2
    none_behind more rest us r here run stands =
        let x = run_parts (turns schema) p r apart.0 more us run in
        let once = turns_once schema p apart.2 x.2 apart.0 first x.0 apart.4 x.3 in
        let from : RunsIn (turns schema) apart.2 more x.1 r =
        subst (λ (s : Sharing). RunsIn (turns schema) s more x.1 r) (sym once.1) x.4 in
        let same : more ++ rest ≡ apart.1 ++ later =
        cancel apart.0 (more ++ rest) (apart.1 ++ later)
        (sym (append_assoc apart.0 more rest) ∙ sym here ∙ here_are) in
        let long : length (texts_of x.1) ≤ length cut = omega (
          arith,
          ap (λ (l : List Turn). length (texts_of l)) once.0,
          ap (λ (l : List ℕ). length l) (texts_apart us x.0 x.1 x.5),
          length-append (texts_of x.0) (texts_of x.1),
          ap (λ (l : List ℕ). length l) stands.1,
          length-append (texts_of us) stands.0,
          ap (λ (l : List ℕ). length l) said,
          length-append (texts_of first) cut,
        ) in
        elim (cases_lt 0 (length x.1)) [
          | inl some ↦ absurd (omega (
            arith,
            short,
            long,
            says_as_much schema apart.2 more rest apart.1 later x.1 last r final same from apart.5
                one some,
          ))
          | inr none ↦ omega (arith, none, few_more schema apart.2 r more x.1 from)
        ]

    pub keeps_cut : KeepsAckedTurns schema p lines final told
    keeps_cut = record {
      acked = commit_count apart.2;
      acked_is = record {
        ran = apart.0;
        later = apart.1 ++ later;
        parts = here_are;
        ts = first;
        final = apart.2;
        runs = apart.4;
        stands = (cut, said);
        are = refl;
        most = λ a rest us r here run stands.
            elim (fronts a rest apart.0 (apart.1 ++ later) (sym here ∙ here_are)) [
              | inl within ↦ fewer schema p a within.0 us first r apart.2 run
                  (subst (λ (l : List (List ℕ)). RunsIn (turns schema) p l first apart.2) within.1
                  apart.4)
              | inr past ↦ none_behind (past.0 ∷ past.1) rest us r
                  (here ∙ ap (λ (l : List (List ℕ)). l ++ rest) past.2)
                  (subst (λ (l : List (List ℕ)). RunsIn (turns schema) p l us r) past.2 run) stands
            ];
      };
      no_fewer = never_fewer schema apart.2 final apart.1 last apart.5;
      no_more = (let up = few_more schema apart.2 final apart.1 last apart.5 in
          omega (arith, up, one));
    }

-- ---- the play of a script

module _ (schema : Schema) (ds : List DefinitionTree) (limit : Option Limits) (start : State)
    (script : List ℕ) where
  abbrev AreKept : List ℕ → Sharing → Type 0
  AreKept told m = KeepsAckedTurns schema (share_start start) (script_lines script).lines m told

  -- the lines behind those that ran
  behind : (ran : List (List ℕ)) (next : Result (Option (List ℕ)) LineWhy)
      → AreFirstLines (script_lines script) ran next
      → (later : List (List ℕ)) × ((script_lines script).lines ≡ ran ++ later)
  behind ran (Ok (Some line)) first = (line ∷ first.0, first.1)
  behind ran (Ok None) first = ([], first.0 ∙ sym (append-nil ran))
  behind ran (Err why) first = ([], first.0 ∙ sym (append-nil ran))

  -- a front of such a line was said behind all that those that ran say
  line_kept : (ran later : List (List ℕ)) → (script_lines script).lines ≡ ran ++ later
      → (ts : List Turn) (m : Sharing) → RunsIn (turns schema) (share_start start) ran ts m
      → (answers : List ℕ) → answers ≡ texts_of ts → (line : List ℕ) (count : ℕ) (told : List ℕ)
      → told ≡ answers ++ take count line → Begins 115 line → AreKept told m
  line_kept ran later parts ts m runs answers answers_are line count told said begins =
      keeps_whole schema (share_start start) (script_lines script).lines ran later parts ts m runs
      told (take count line) (said ∙ ap (λ (l : List ℕ). l ++ take count line) answers_are)
      (begins_take 115 count line begins)

  ended : (s : Status) (answers line told : List ℕ) (m : Sharing) (count : ℕ)
      → EndsWith (share_play schema ds limit start script) s answers m line
      → told ≡ answers ++ take count line → AreKept told m
  ended status.Done answers line told m count ends said =
      let play = ends.0.1 in
      let x = behind play.ran play.next play.first in
      line_kept play.ran x.0 x.1 ends.0.0 m play.runs answers ends.0.2 line count told said
      (subst (Begins 115) (sym ends.1) tt)
  ended status.Script answers line told m count ends said =
      let play = ends.2.1 in
      let x = behind play.ran play.next play.first in
      line_kept play.ran x.0 x.1 ends.2.0 m play.runs answers ends.2.2 line count told said
      (subst (Begins 115) (sym ends.3) refl)
  ended status.Memory answers line told m count ends said =
      let first = ends.0.first in
      line_kept first.ran first.later first.parts ends.0.ts m first.runs answers
      ends.0.answers_are line count told said (subst (Begins 115) (sym ends.1) refl)
  ended status.Full answers line told m count ends said =
      let first = ends.0.first in
      line_kept first.ran first.later first.parts ends.0.ts m first.runs answers
      ends.0.answers_are line count told said (subst (Begins 115) (sym ends.1) refl)
  ended status.Refused answers line told m count ends said = absurd ends
  ended status.Device answers line told m count ends said = absurd ends
  ended status.Outside answers line told m count ends said = absurd ends

  -- all that turns say was said, but perhaps an end of what the last one says
  front_kept : (ts : List Turn) (told : List ℕ) (m : Sharing)
      → AreFirstTurns schema start script ts m → AreToldOf ts told → AreKept told m
  front_kept ts told m x up =
      elim (cases_lt (length (take up.count (texts_of up.last))) (length (texts_of up.last))) [
        | inl short ↦ keeps_cut schema (share_start start) (script_lines script).lines x.ran
            x.later x.parts ts m x.runs told up.first up.last up.one up.turns_are
            (take up.count (texts_of up.last)) up.told_is short
        | inr long ↦ (
            let all : told ≡ texts_of ts =
            up.told_is
            ∙ ap (λ (l : List ℕ). texts_of up.first ++ l)
            (take_all up.count (texts_of up.last)
            (omega (arith, long, length-take up.count (texts_of up.last))))
            ∙ sym (texts_apart ts up.first up.last up.turns_are) in
            keeps_whole schema (share_start start) (script_lines script).lines x.ran x.later x.parts
            ts m x.runs told [] (all ∙ sym (append-nil (texts_of ts))) tt)
      ]

  -- whatever may be said of it
  pub may_be_acked : (told : List ℕ) (m : Sharing)
      → MayBeSaid (share_play schema ds limit start script) told m → AreKept told m
  may_be_acked told m (inl x) = front_kept x.ts told m x.first x.told_of
  may_be_acked told m (inr x) = ended x.meant x.answers x.line told m x.count x.ends x.told_is
