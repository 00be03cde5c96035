-- The lines of a script are explained by one text, and end in one way.
use Rattle.std.proofs.Common.{◌≡◌, ℕ, ◌+◌, Bool, false, List, [], ◌∷◌, ◌++◌, length, Option, Some, None, Result, Ok, Err, sym, ap, subst, ◌∙◌, arith}
use Rattle.gx_schema.specs.declared.schema.Schema.{Schema}
use Rattle.gx_commands.specs.declared.command.LineWhy.{LineWhy}
use Rattle.gx_commands.specs.Lines.{Lines, script_lines}
use Rattle.gx_model.specs.Play.{End, stopped, end_text}
use Rattle.gx_model.specs.Languages.{AreFirstLines}
use Rattle.gx_model.proofs.LanguageLemmas.{some_or, head_or, tail_of, none_not_some, no_line, later_of}
use Rattle.gx_play.specs.declared.lines.Asked.{Asked}
use Rattle.gx_play.specs.Asked.{IsAsked, IsBadLine, inside_behind}
use Rattle.gx_play.proofs.AskedLemmas.{asked_once, asked_not_bad, bad_once}
use Rattle.gx_explain.specs.Explained.{asked_text, AreExplained, IsExplainEnd, IsExplainedTo, IsExplainText}

-- ---- the first of the lines that were explained

-- the text and the end of two explanations are one
abbrev pub AreOne : List ℕ → List ℕ → End → End → Type 0
AreOne a b d e = (a ≡ b) × (d ≡ e)

module _ (schema : Schema) (indexed : ℕ → List Bool) where
  -- so many lines are before the first of these
  record IsFrom (last : ℕ) (inside : Bool) (all : Lines) (ran : List (List ℕ))
      (next : Result (Option (List ℕ)) LineWhy) (text : List ℕ) (final : Bool)
      (end : End) : Type 0 where
    first : AreFirstLines all ran next
    explained : AreExplained schema indexed (last + 1) inside ran text final
    ends : IsExplainEnd schema final (last + length ran) next end

  -- where no line was explained, the end is that of the next one
  none_once : (last : ℕ) (inside : Bool) (all : Lines)
      (next then : Result (Option (List ℕ)) LineWhy) (end close : End)
      → AreFirstLines all [] next → AreFirstLines all [] then
      → IsExplainEnd schema inside last next end
      → IsExplainEnd schema inside last then close → end ≡ close
  none_once last inside all (Ok None) (Ok None) end close f g x y = x ∙ sym y
  none_once last inside all (Ok None) (Ok (Some line)) end close f g x y =
      absurd (no_line line g.0 (sym g.1 ∙ f.0))
  none_once last inside all (Ok None) (Err why) end close f g x y =
      absurd (none_not_some why (sym f.1 ∙ g.1))
  none_once last inside all (Ok (Some line)) (Ok None) end close f g x y =
      absurd (no_line line f.0 (sym f.1 ∙ g.0))
  none_once last inside all (Ok (Some line)) (Ok (Some other)) end close f g x y =
      let same = ap (head_or line) (sym f.1 ∙ g.1) in
      x.2 ∙ ap (stopped (last + 1)) (bad_once schema inside other x.0 y.0
      (subst (λ l. IsBadLine schema inside l x.0) same x.1) y.1) ∙ sym y.2
  none_once last inside all (Ok (Some line)) (Err why) end close f g x y =
      absurd (no_line line f.0 (sym f.1 ∙ g.0))
  none_once last inside all (Err why) (Ok None) end close f g x y =
      absurd (none_not_some why (sym g.1 ∙ f.1))
  none_once last inside all (Err why) (Ok (Some line)) end close f g x y =
      absurd (no_line line g.0 (sym g.1 ∙ f.0))
  none_once last inside all (Err why) (Err other) end close f g x y =
      x ∙ ap (stopped (last + 1)) (ap (some_or why) (sym f.1 ∙ g.1)) ∙ sym y

  -- a line that was explained isn't one at which it ends
  not_here : (last : ℕ) (inside : Bool) (all : Lines) (line : List ℕ) (a : Asked)
      (rest : List (List ℕ))
      (next : Result (Option (List ℕ)) LineWhy) (end : End)
      → IsAsked schema inside line a → all.lines ≡ line ∷ rest → AreFirstLines all [] next
      → IsExplainEnd schema inside last next end → ⊥
  not_here last inside all line a rest (Ok None) end means parts f x =
      no_line line rest (sym parts ∙ f.0)
  not_here last inside all line a rest (Err why) end means parts f x =
      no_line line rest (sym parts ∙ f.0)
  not_here last inside all line a rest (Ok (Some other)) end means parts f x =
      asked_not_bad schema inside line x.0 a means
      (subst (λ l. IsBadLine schema inside l x.0) (ap (head_or other) (sym f.1 ∙ parts)) x.1)

  more : (last : ℕ) (line : List ℕ) (ran : List (List ℕ)) (next : Result (Option (List ℕ)) LineWhy)
      (final : Bool) (end : End) → IsExplainEnd schema final (last + length (line ∷ ran)) next end
      → IsExplainEnd schema final (last + 1 + length ran) next end
  more last line ran next final end =
      subst (λ n. IsExplainEnd schema final n next end)
      (let e : last + length (line ∷ ran) ≡ last + 1 + length ran = omega arith in e)

  once : (ran others : List (List ℕ)) (last : ℕ) (inside : Bool) (all : Lines)
      (next then : Result (Option (List ℕ)) LineWhy) (a b : List ℕ) (final other : Bool)
      (end close : End)
      → IsFrom last inside all ran next a final end
      → IsFrom last inside all others then b other close → AreOne a b end close
  once [] [] last inside all next then a b final other end close x y = (
    x.explained.0 ∙ sym y.explained.0,
    none_once (last + 0) inside all next then end close x.first y.first
        (subst (λ i. IsExplainEnd schema i (last + 0) next end) x.explained.1 x.ends)
        (subst (λ i. IsExplainEnd schema i (last + 0) then close) y.explained.1 y.ends),
  )
  once [] (line ∷ others) last inside all next then a b final other end close x y =
      let e = y.explained in
      let l = later_of line all others then y.first in
      absurd (not_here (last + 0) inside all line e.0 l.rest next end e.2 l.parts x.first
      (subst (λ i. IsExplainEnd schema i (last + 0) next end) x.explained.1 x.ends))
  once (line ∷ ran) [] last inside all next then a b final other end close x y =
      let e = x.explained in
      let l = later_of line all ran next x.first in
      absurd (not_here (last + 0) inside all line e.0 l.rest then close e.2 l.parts y.first
      (subst (λ i. IsExplainEnd schema i (last + 0) then close) y.explained.1 y.ends))
  once (line ∷ ran) (another ∷ others) last inside all next then a b final other end close x y =
      let l = later_of line all ran next x.first in
      let m = later_of another all others then y.first in
      let parts : line ∷ l.rest ≡ another ∷ m.rest = sym l.parts ∙ m.parts in
      let p = x.explained in
      let q = y.explained in
      let same : p.0 ≡ q.0 = asked_once schema inside another p.0 q.0
      (subst (λ t. IsAsked schema inside t p.0) (ap (head_or line) parts) p.2) q.2 in
      let rest = once ran others (last + 1) (inside_behind inside q.0)
      (record { lines = m.rest; stop = all.stop }) next then p.1 q.1 final other end close
      (record {
        first = subst (λ ls. AreFirstLines (record { lines = ls; stop = all.stop }) ran next)
            (ap tail_of parts) l.first;
        explained = subst (λ a. AreExplained schema indexed (last + 1 + 1) (inside_behind inside a)
            ran p.1 final) same p.3;
        ends = more last line ran next final end x.ends;
      })
      (record {
        first = m.first;
        explained = q.3;
        ends = more last another others then other close y.ends;
      }) in
      (p.4 ∙ (λ i. asked_text schema indexed (last + 1) (same i) ++ rest.0 i) ∙ sym q.4, rest.1)

  from_0 : (all : Lines) (end : End) (text : List ℕ)
      → (x : IsExplainedTo schema indexed all end text)
      → IsFrom 0 false all x.ran x.next text x.inside end
  from_0 all end text x = record {
    first = x.first;
    explained = subst (λ n. AreExplained schema indexed n false x.ran text x.inside)
        (let e : 1 ≡ 0 + 1 = omega arith in e) x.explained;
    ends = subst (λ n. IsExplainEnd schema x.inside n x.next end)
        (let e : length x.ran ≡ 0 + length x.ran = omega arith in e) x.ends;
  }

  pub explained_once : (all : Lines) (end close : End) (a b : List ℕ)
      → IsExplainedTo schema indexed all end a
      → IsExplainedTo schema indexed all close b → AreOne a b end close
  explained_once all end close a b x y =
      once x.ran y.ran 0 false all x.next y.next a b x.inside y.inside end close
      (from_0 all end a x) (from_0 all close b y)

  -- the same of the whole text
  pub text_once : (script : List ℕ) (end close : End) (a b : List ℕ)
      → IsExplainText schema indexed script end a
      → IsExplainText schema indexed script close b → AreOne a b end close
  text_once script end close a b x y =
      let same = explained_once (script_lines script) end close x.plans y.plans x.explained
      y.explained in
      (x.text_is ∙ (λ i. same.0 i ++ end_text (same.1 i)) ∙ sym y.text_is, same.1)
