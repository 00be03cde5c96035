-- Lines that run go on behind others, and a script has one play in a language that is definite.
use Rattle.std.proofs.Common.{◌≡◌, ℕ, ◌+◌, List, [], ◌∷◌, ◌++◌, length, Option, Some, None, Result, Ok, Err, refl, sym, ap, subst, ◌∙◌, arith}
use Rattle.std.proofs.lemmas.List.{append_assoc}
use Rattle.gx_commands.specs.declared.command.LineWhy.{LineWhy}
use Rattle.gx_commands.specs.Lines.{Lines, script_lines}
use Rattle.gx_model.specs.Play.{End, stopped, end_text}
use Rattle.gx_model.specs.Languages.{Language, RunsIn, IsEndIn, AreFirstLines, IsPlayIn, IsPlayTextIn}

-- ---- runs one behind the other

pub go_on : {M A : Type 0} (l : Language M A) (p q r : M) (first later : List (List ℕ))
    (text more : List A) → RunsIn l p first text q → RunsIn l q later more r
    → RunsIn l p (first ++ later) (text ++ more) r
go_on {M = M} l p q r [] later text more (none, same) runs =
    subst (λ (s : M). RunsIn l s later (text ++ more) r) same
    (subst (λ t. RunsIn l q later (t ++ more) r) (sym none) runs)
go_on l p q r (line ∷ first) later text more (answer, rest, next, step, front, is) runs = (
  answer,
  rest ++ more,
  next,
  step,
  go_on l next q r first later rest more front runs,
  ap (λ t. t ++ more) is ∙ append_assoc answer rest more,
)

-- ---- lines have one play

-- a line is good or bad, in one way
pub record IsDefinite {M A : Type 0} (l : Language M A) : Type 0 where
  pub goes_once : (m : M) (line : List ℕ) (a b : List A) (p q : M) → l.Goes m line a p
      → l.Goes m line b q → (a ≡ b) × (p ≡ q)
  pub bad_once : (m : M) (line : List ℕ) (why other : LineWhy) → l.IsBad m line why
      → l.IsBad m line other → why ≡ other
  pub never_both : (m : M) (line : List ℕ) (a : List A) (q : M) (why : LineWhy)
      → l.Goes m line a q → l.IsBad m line why → ⊥

abbrev pub some_or : LineWhy → Option LineWhy → LineWhy
some_or d None = d
some_or d (Some why) = why

pub none_not_some : (why : LineWhy) → ◌≡◌ {A = Option LineWhy} None (Some why) → ⊥
none_not_some why e = cc

-- the answers, the last moment and the end of two plays are one
abbrev pub AreOne : {M A : Type 0} → List A → List A → M → M → End → End → Type 0
AreOne a b p q d e = (a ≡ b) × (p ≡ q) × (d ≡ e)

-- the lines ran from a place on, behind so many others
record IsRun {M A : Type 0} (l : Language M A) (last : ℕ) (p : M) (all : Lines)
    (ran : List (List ℕ)) (next : Result (Option (List ℕ)) LineWhy) (text : List A) (final : M)
    (end : End) : Type 0 where
  first : AreFirstLines all ran next
  runs : RunsIn l p ran text final
  ends : IsEndIn l final (last + length ran) next end

abbrev pub head_or : List ℕ → List (List ℕ) → List ℕ
head_or d [] = d
head_or d (line ∷ lines) = line

abbrev pub tail_of : List (List ℕ) → List (List ℕ)
tail_of [] = []
tail_of (line ∷ lines) = lines

pub no_line : (line : List ℕ) (lines : List (List ℕ)) → ◌≡◌ {A = List (List ℕ)} (line ∷ lines) []
    → ⊥
no_line line lines e = cc

-- where no line ran, the end is that of the next one
none_once : {M A : Type 0} (l : Language M A) → IsDefinite l → (last : ℕ) (p : M) (all : Lines)
    (next then : Result (Option (List ℕ)) LineWhy) (end close : End)
    → AreFirstLines all [] next → AreFirstLines all [] then → IsEndIn l p last next end
    → IsEndIn l p last then close → end ≡ close
none_once l one last p all (Ok None) (Ok None) end close f g x y = x ∙ sym y
none_once l one last p all (Ok None) (Ok (Some line)) end close f g x y =
    absurd (no_line line g.0 (sym g.1 ∙ f.0))
none_once l one last p all (Ok None) (Err why) end close f g x y =
    absurd (none_not_some why (sym f.1 ∙ g.1))
none_once l one last p all (Ok (Some line)) (Ok None) end close f g x y =
    absurd (no_line line f.0 (sym f.1 ∙ g.0))
none_once l one last p all (Ok (Some line)) (Ok (Some other)) end close f g x y =
    let same = ap (head_or line) (sym f.1 ∙ g.1) in
    x.2 ∙ ap (stopped (last + 1))
    (one.bad_once p other x.0 y.0 (subst (λ t. l.IsBad p t x.0) same x.1) y.1) ∙ sym y.2
none_once l one last p all (Ok (Some line)) (Err why) end close f g x y =
    absurd (no_line line f.0 (sym f.1 ∙ g.0))
none_once l one last p all (Err why) (Ok None) end close f g x y =
    absurd (none_not_some why (sym g.1 ∙ f.1))
none_once l one last p all (Err why) (Ok (Some line)) end close f g x y =
    absurd (no_line line g.0 (sym g.1 ∙ f.0))
none_once l one last p all (Err why) (Err other) end close f g x y =
    x ∙ ap (stopped (last + 1)) (ap (some_or why) (sym f.1 ∙ g.1)) ∙ sym y

-- the lines behind the first of those that ran
pub record AreLater (line : List ℕ) (all : Lines) (ran : List (List ℕ))
    (next : Result (Option (List ℕ)) LineWhy) : Type 0 where
  pub rest : List (List ℕ)
  pub parts : all.lines ≡ line ∷ rest
  pub first : AreFirstLines (record { lines = rest; stop = all.stop }) ran next

pub later_of : (line : List ℕ) (all : Lines) (ran : List (List ℕ))
    (next : Result (Option (List ℕ)) LineWhy) → AreFirstLines all (line ∷ ran) next
    → AreLater line all ran next
later_of line all ran (Ok (Some other)) h =
    record { rest = ran ++ other ∷ h.0; parts = h.1; first = (h.0, refl) }
later_of line all ran (Ok None) h = record { rest = ran; parts = h.0; first = (refl, h.1) }
later_of line all ran (Err why) h = record { rest = ran; parts = h.0; first = (refl, h.1) }

-- a line that ran isn't one at which the play ends
not_here : {M A : Type 0} (l : Language M A) → IsDefinite l → (last : ℕ) (p q : M) (all : Lines)
    (line : List ℕ) (answer : List A) (rest : List (List ℕ))
    (next : Result (Option (List ℕ)) LineWhy) (end : End)
    → l.Goes p line answer q → all.lines ≡ line ∷ rest → AreFirstLines all [] next
    → IsEndIn l p last next end → ⊥
not_here l one last p q all line answer rest (Ok None) end step parts f x =
    no_line line rest (sym parts ∙ f.0)
not_here l one last p q all line answer rest (Err why) end step parts f x =
    no_line line rest (sym parts ∙ f.0)
not_here l one last p q all line answer rest (Ok (Some other)) end step parts f x =
    one.never_both p line answer q x.0 step
    (subst (λ t. l.IsBad p t x.0) (ap (head_or other) (sym f.1 ∙ parts)) x.1)

more_ran : {M A : Type 0} (l : Language M A) (last : ℕ) (line : List ℕ) (ran : List (List ℕ))
    (next : Result (Option (List ℕ)) LineWhy) (final : M) (end : End)
    → IsEndIn l final (last + length (line ∷ ran)) next end
    → IsEndIn l final (last + 1 + length ran) next end
more_ran l last line ran next final end =
    subst (λ n. IsEndIn l final n next end)
    (let e : last + length (line ∷ ran) ≡ last + 1 + length ran = omega arith in e)

once : {M A : Type 0} (l : Language M A) → IsDefinite l → (ran others : List (List ℕ)) (last : ℕ)
    (p : M) (all : Lines) (next then : Result (Option (List ℕ)) LineWhy) (a b : List A)
    (final other : M) (end close : End)
    → IsRun l last p all ran next a final end
    → IsRun l last p all others then b other close → AreOne a b final other end close
once {M = M} l one [] [] last p all next then a b final other end close x y = (
  x.runs.0 ∙ sym y.runs.0,
  x.runs.1 ∙ sym y.runs.1,
  none_once l one (last + 0) p all next then end close x.first y.first
      (subst (λ (q : M). IsEndIn l q (last + 0) next end) x.runs.1 x.ends)
      (subst (λ (q : M). IsEndIn l q (last + 0) then close) y.runs.1 y.ends),
)
once {M = M} l one [] (line ∷ others) last p all next then a b final other end close x y =
    let step = y.runs in
    absurd (not_here l one (last + 0) p step.2 all line step.0
    (later_of line all others then y.first).rest next end step.3
    (later_of line all others then y.first).parts x.first
    (subst (λ (q : M). IsEndIn l q (last + 0) next end) x.runs.1 x.ends))
once {M = M} l one (line ∷ ran) [] last p all next then a b final other end close x y =
    let step = x.runs in
    absurd (not_here l one (last + 0) p step.2 all line step.0
    (later_of line all ran next x.first).rest then close step.3
    (later_of line all ran next x.first).parts y.first
    (subst (λ (q : M). IsEndIn l q (last + 0) then close) y.runs.1 y.ends))
once {M = M} l one (line ∷ ran) (another ∷ others) last p all next then a b final other end close
    x y =
    let before = later_of line all ran next x.first in
    let behind = later_of another all others then y.first in
    let parts : line ∷ before.rest ≡ another ∷ behind.rest = sym before.parts ∙ behind.parts in
    let this = x.runs in
    let that = y.runs in
    let same = one.goes_once p another this.0 that.0 this.2 that.2
    (subst (λ t. l.Goes p t this.0 this.2) (ap (head_or line) parts) this.3) that.3 in
    let rest = once l one ran others (last + 1) that.2
    (record { lines = behind.rest; stop = all.stop }) next then this.1 that.1 final other end
    close
    (record {
      first = subst (λ ls. AreFirstLines (record { lines = ls; stop = all.stop }) ran next)
          (ap tail_of parts) before.first;
      runs = subst (λ (s : M). RunsIn l s ran this.1 final) same.1 this.4;
      ends = more_ran l last line ran next final end x.ends;
    })
    (record {
      first = behind.first;
      runs = that.4;
      ends = more_ran l last another others then other close y.ends;
    }) in
    (this.5 ∙ (λ i. same.0 i ++ rest.0 i) ∙ sym that.5, rest.1, rest.2)

-- lines have one play from a start
pub one_play : {M A : Type 0} (l : Language M A) → IsDefinite l → (start : M) (all : Lines)
    (a b : List A) (final other : M) (end close : End)
    → IsPlayIn l start all a final end → IsPlayIn l start all b other close
    → AreOne a b final other end close
one_play {M = M} l one start all a b final other end close x y =
    once l one x.ran y.ran 0 start all x.next y.next a b final other end close
    (record { first = x.first; runs = x.runs; ends = from_0 x.ran x.next final end x.ends })
    (record { first = y.first; runs = y.runs; ends = from_0 y.ran y.next other close y.ends })
  where
    from_0 : (ran : List (List ℕ)) (next : Result (Option (List ℕ)) LineWhy) (p : M) (e : End)
        → IsEndIn l p (length ran) next e → IsEndIn l p (0 + length ran) next e
    from_0 ran next p e = subst (λ n. IsEndIn l p n next e)
        (let k : length ran ≡ 0 + length ran = omega arith in k)

pub one_text_in : {M : Type 0} (l : Language M ℕ) → IsDefinite l → (start : M)
    (script a b : List ℕ) → IsPlayTextIn l start script a → IsPlayTextIn l start script b → a ≡ b
one_text_in l one start script a b p q =
    let same = one_play l one start (script_lines script) p.answers q.answers p.final q.final
    p.end q.end p.played q.played in
    p.is ∙ (λ i. same.0 i ++ end_text (same.2 i)) ∙ sym q.is
