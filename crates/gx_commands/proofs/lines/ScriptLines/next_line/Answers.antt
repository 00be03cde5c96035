use Rattle.std.proofs.Common.{◌≡◌, ◌+◌, ◌-◌, ◌≤◌, ◌<◌, List, ℕ, length, take, drop, refl, sym, ap, ◌∙◌, arith}
use Rattle.std.proofs.lemmas.List.{take_all, length-drop, length-take}
use Rattle.gx_commands.specs.Lines.{longest_line, without_cr, with_line, lines_within}
use Rattle.gx_commands.proofs.LineLaws.{front_line, take_seen, long_line, first_line, long_script, lines-nil, whole_line, no_line, one_line}
use Rattle.gx_commands.proofs.lines.ScriptLines.next_line.Goals as goal

pub returns-then-len-gt-LONGEST_LINE-clause-next : goal.returns-then-len-gt-LONGEST_LINE-clause-next
returns-then-len-gt-LONGEST_LINE-clause-next c =
    let l = c.line_len-len.ensures in
    let front = front_line c.self.inside.rest.now c.min.result c.self.inside.most
    c.line_len-len.result c.min.ensures l.before l.within l.ended in (
      sym c.self.view_is ∙ long_line c.self.inside.most c.self.inside.rest.now c.line_len-len.result
          front c.if-len-gt-LONGEST_LINE.true,
      refl,
    )

pub returns-then-len-seen-clause-next : goal.returns-then-len-seen-clause-next
returns-then-len-seen-clause-next c =
    let l = c.line_len-len.ensures in
    let rest = c.self.inside.rest.now in
    let most = c.self.inside.most in
    let at = c.line_len-len.result in
    let same = take_seen rest c.min.result most c.min.ensures in
    let front = front_line rest c.min.result most at c.min.ensures l.before l.within l.ended in
    let lt : at < length (take most rest) = rw same at c.if-len-seen.true in
    let line : c.without_cr.result.now ≡ without_cr (take at (take most rest)) =
    c.without_cr.ensures.value ∙ ap (λ (s : List ℕ). without_cr (take at s)) same in
    rw line
    (sym c.self.view_is
    ∙ (first_line most rest at front c.if-len-gt-LONGEST_LINE.false lt
    ∙ ap (λ (r : List ℕ). with_line (without_cr (take at (take most rest)))
    (lines_within (most - (at + 1)) r))
    (sym (take_all (length rest - (at + 1)) (drop (at + 1) rest)
    (omega (arith, length-drop (at + 1) rest))))))

pub returns-then-self-clause-next : goal.returns-then-self-clause-next
returns-then-self-clause-next c =
    let l = c.line_len-len.ensures in
    let rest = c.self.inside.rest.now in
    let most = c.self.inside.most in
    let same = take_seen rest c.min.result most c.min.ensures in
    let front = front_line rest c.min.result most c.line_len-len.result c.min.ensures l.before
    l.within l.ended in
    let over : length (take most rest) ≤ c.line_len-len.result = rw same at c.if-len-seen.false in (
      sym c.self.view_is ∙ long_script most rest c.line_len-len.result front
          c.if-len-gt-LONGEST_LINE.false over c.if-self.true,
      refl,
    )

pub returns-then-is_empty-clause-next : goal.returns-then-is_empty-clause-next
returns-then-is_empty-clause-next c =
    let l = c.line_len-len.ensures in
    let rest = c.self.inside.rest.now in
    let most = c.self.inside.most in
    let at = c.line_len-len.result in
    let same = take_seen rest c.min.result most c.min.ensures in
    let front = front_line rest c.min.result most at c.min.ensures l.before l.within l.ended in
    let over : length (take most rest) ≤ at = rw same at c.if-len-seen.false in
    let line = whole_line rest c.min.result most at c.min.ensures c.if-len-seen.false
    c.if-self.false in (
      sym c.self.view_is ∙ no_line most rest (take at (take c.min.result rest)) at front
          c.if-len-gt-LONGEST_LINE.false over c.if-self.false line
          (sym c.is_empty.ensures ∙ c.if-is_empty.true),
      lines-nil most,
    )

pub returns-clause-next : goal.returns-clause-next
returns-clause-next c =
    let l = c.line_len-len.ensures in
    let rest = c.self.inside.rest.now in
    let most = c.self.inside.most in
    let at = c.line_len-len.result in
    let same = take_seen rest c.min.result most c.min.ensures in
    let front = front_line rest c.min.result most at c.min.ensures l.before l.within l.ended in
    let over : length (take most rest) ≤ at = rw same at c.if-len-seen.false in
    let line = whole_line rest c.min.result most at c.min.ensures c.if-len-seen.false
    c.if-self.false in
    sym c.self.view_is ∙ one_line most rest (take at (take c.min.result rest)) at front
    c.if-len-gt-LONGEST_LINE.false over c.if-self.false line (sym c.is_empty.ensures
    ∙ c.if-is_empty.false)

pub returns-then-len-seen-clause-short : goal.returns-then-len-seen-clause-short
unfolding longest_line
returns-then-len-seen-clause-short c =
    omega (
      arith,
      length-take c.line_len-len.result (take c.min.result c.self.inside.rest.now),
      c.without_cr.ensures.within,
    )

pub returns-clause-short : goal.returns-clause-short
unfolding longest_line
returns-clause-short c =
    omega (arith, length-take c.line_len-len.result (take c.min.result c.self.inside.rest.now))
