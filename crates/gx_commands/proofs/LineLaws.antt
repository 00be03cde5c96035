-- The first line of a script.
use Rattle.std.proofs.Common.{◌≡◌, ◌≢◌, ℕ, zero, suc, ◌+◌, ◌-◌, ◌<◌, ◌≤◌, min, Bool, true, false, eqb, ltb, List, [], ◌∷◌, Option, Some, None, length, take, drop, get_or, refl, sym, ap, subst, ◌∙◌, inl, inr, arith, add-one}
use Rattle.std.specs.Prelude.{slice_index, ◌==◌}
use Rattle.std.specs.Option.{unwrap_or}
use Rattle.std.specs.List.{AllByRecursion}
use Rattle.memchr.specs.Find.{IsFirstByte, is_byte}
use Rattle.std.proofs.lemmas.Bool.{cond-true, cond-false, cases_lt, lt-ltb, le-ltb, eq-eqb, ne_eqb, eqb-true, eqb-false, cases_Bool}
use Rattle.std.proofs.lemmas.List.{take_all, take_min, drop-take, length-drop, length-take}
use Rattle.std.proofs.Math.Seq.{take-nil}
use Rattle.gx_commands.specs.declared.command.LineWhy.TheVariants as why
use Rattle.gx_commands.specs.Lines.{longest_line, Parts, ArePartsOf, with_first_byte, parts_of, without_cr, Lines, with_line, stopped, last_line, up_to_limit, lines_within, no_lines}

-- ---- the first LF

none_before : (byte : ℕ) (text : List ℕ) (n : ℕ)
    → ((k : ℕ) → k < n → k < length text → (slice_index text k == byte) ≡ true → ⊥)
    → AllByRecursion (λ b. (b == byte) ≡ false) (take n text)
none_before byte text zero none = tt
none_before byte [] (suc n) none = tt
none_before byte (b ∷ bs) (suc n) none = (
  elim (b == byte) as (λ t. (b == byte) ≡ t → t ≡ false) [
    | true ↦ λ is. absurd (none 0 (omega arith) (omega arith) is)
    | false ↦ λ _. refl
  ] refl,
  none_before byte bs n (λ k lt within. none (suc k) (omega arith) (omega arith)),
)

-- of a search for a byte that found one
pub ended_at : (byte : ℕ) (text : List ℕ) (found : Option ℕ) (at : ℕ)
    → IsFirstByte (is_byte byte) text found → found ≡ Some at
    → AllByRecursion (λ b. (b == byte) ≡ false) (take at text)
    × ((at ≤ length text) × (slice_index text at ≡ byte))
ended_at byte text None at first e = cc
ended_at byte text (Some k) at first e =
    let same : k ≡ at = ap (λ o. unwrap_or o 0) e in
    subst (λ n. AllByRecursion (λ b. (b == byte) ≡ false) (take n text)
    × ((n ≤ length text) × (slice_index text n ≡ byte))) same (
      none_before byte text k (λ j lt _. first.0.before j (omega arith) lt),
      (
        let below : k < length text = first.0.high in omega arith,
        eqb-true (slice_index text k) byte first.1,
      ),
    )

-- and of one that found none
pub not_ended : (byte : ℕ) (text : List ℕ) (found : Option ℕ) (n : ℕ)
    → IsFirstByte (is_byte byte) text found → found ≡ None
    → AllByRecursion (λ b. (b == byte) ≡ false) (take n text)
not_ended byte text None n none _ = none_before byte text n (λ k _ lt. none k (omega arith) lt)
not_ended byte text (Some k) n none e = cc

-- ---- a CR at the end

dropped : (b : ℕ) (bs : List ℕ) → get_or (b ∷ bs) (length bs) 0 ≡ 13
    → take (length bs) (b ∷ bs) ≡ without_cr (b ∷ bs)
dropped b [] is = sym (cond-true (eqb b 13) [] (b ∷ []) (eq-eqb b 13 is))
dropped b (c ∷ bs) is = ap (λ (l : List ℕ). b ∷ l) (dropped c bs is)

kept : (b : ℕ) (bs : List ℕ) → get_or (b ∷ bs) (length bs) 0 ≢ 13 → b ∷ bs ≡ without_cr (b ∷ bs)
kept b [] other = sym (cond-false (eqb b 13) [] (b ∷ []) (ne_eqb b 13 other))
kept b (c ∷ bs) other = ap (λ (l : List ℕ). b ∷ l) (kept c bs other)

pub cr_dropped : (line : List ℕ) → 0 < length line → get_or line (length line - 1) 0 ≡ 13
    → take (length line - 1) line ≡ without_cr line
cr_dropped [] some is = absurd (omega arith)
cr_dropped (b ∷ bs) some is =
    let n : length (b ∷ bs) - 1 ≡ length bs = omega arith in
    ap (λ (k : ℕ). take k (b ∷ bs)) n
    ∙ dropped b bs (ap (λ (k : ℕ). get_or (b ∷ bs) k 0) (sym n) ∙ is)

pub cr_kept : (line : List ℕ) → (0 < length line → get_or line (length line - 1) 0 ≢ 13)
    → line ≡ without_cr line
cr_kept [] other = refl
cr_kept (b ∷ bs) other =
    let n : length (b ∷ bs) - 1 ≡ length bs = omega arith in
    kept b bs (λ is. other (omega arith) (ap (λ (k : ℕ). get_or (b ∷ bs) k 0) n ∙ is))

-- ---- lines that an LF ends

abbrev pub NoLf : List ℕ → Type 0
NoLf text = AllByRecursion (λ b. eqb b 10 ≡ false) text

abbrev with_ended : List ℕ → Parts → Parts
with_ended line parts = record { ended = line ∷ parts.ended; rest = parts.rest }

ended_parts : (text : List ℕ) (at : ℕ) → at < length text → NoLf (take at text)
    → get_or text at 0 ≡ 10
    → parts_of text ≡ with_ended (take at text) (parts_of (drop (suc at) text))
ended_parts [] at lt before lf = absurd (omega arith)
ended_parts (b ∷ bs) zero lt before lf =
    cond-true (eqb b 10) (with_ended [] (parts_of bs))
    (with_first_byte b (parts_of bs).ended (parts_of bs).rest) (eq-eqb b 10 lf)
ended_parts (b ∷ bs) (suc at) lt before lf =
    cond-false (eqb b 10) (with_ended [] (parts_of bs))
    (with_first_byte b (parts_of bs).ended (parts_of bs).rest) before.0
    ∙ ap (λ (p : Parts). with_first_byte b p.ended p.rest)
    (ended_parts bs at (omega arith) before.1 lf)

rest_parts : (text : List ℕ) → NoLf text → parts_of text ≡ record { ended = []; rest = text }
rest_parts [] h = refl
rest_parts (b ∷ bs) h =
    cond-false (eqb b 10) (with_ended [] (parts_of bs))
    (with_first_byte b (parts_of bs).ended (parts_of bs).rest) h.0
    ∙ ap (λ (p : Parts). with_first_byte b p.ended p.rest) (rest_parts bs h.1)

-- what a line is at the front of the bytes that a script may have
pub record FrontLine (most : ℕ) (script : List ℕ) (at : ℕ) : Type 0 where
  pub before : NoLf (take at (take most script))
  pub within : at ≤ length (take most script)
  pub ended : at < length (take most script) → get_or (take most script) at 0 ≡ 10

all_parts : (most : ℕ) (script : List ℕ) (at : ℕ) → FrontLine most script at
    → length (take most script) ≤ at
    → parts_of (take most script) ≡ record { ended = []; rest = take most script }
all_parts most script at f le =
    rest_parts (take most script) (subst NoLf (take_all at (take most script) le) f.before)

some_parts : (most : ℕ) (script : List ℕ) (at : ℕ) → FrontLine most script at
    → at < length (take most script)
    → parts_of (take most script) ≡ with_ended (take at (take most script))
    (parts_of (drop (suc at) (take most script)))
some_parts most script at f lt = ended_parts (take most script) at lt f.before (f.ended lt)

-- lines by their parts
abbrev of_parts : Parts → Bool → Lines
of_parts parts longer = up_to_limit parts.ended parts.rest longer

at_limit : (n : ℕ) → 4096 < n → ltb longest_line n ≡ true
unfolding longest_line
at_limit n h = lt-ltb 4096 n h

in_limit : (n : ℕ) → n ≤ 4096 → ltb longest_line n ≡ false
unfolding longest_line
in_limit n h = le-ltb 4096 n h

pub long_line : (most : ℕ) (script : List ℕ) (at : ℕ) → FrontLine most script at → 4096 < at
    → lines_within most script ≡ stopped why.TooLong
unfolding lines_within
long_line most script at f long = elim (cases_lt at (length (take most script))) [
  | inl lt ↦
      let len : length (take at (take most script)) ≡ at =
      omega (arith, length-take at (take most script)) in
      ap (λ (p : Parts). of_parts p (ltb most (length script))) (some_parts most script at f lt)
      ∙ cond-true (ltb longest_line (length (take at (take most script)))) _ _
      (at_limit (length (take at (take most script))) (omega arith))
  | inr le ↦
      ap (λ (p : Parts). of_parts p (ltb most (length script))) (all_parts most script at f le)
      ∙ (let w = f.within in cond-true (ltb longest_line (length (take most script))) _ _
      (at_limit (length (take most script)) (omega arith)))
]

fewer : (a b k : ℕ) → k ≤ a → k ≤ b → ltb (a - k) (b - k) ≡ ltb a b
fewer a b k ka kb = elim (cases_lt a b) [
  | inl lt ↦ lt-ltb (a - k) (b - k) (omega arith) ∙ sym (lt-ltb a b lt)
  | inr le ↦ le-ltb (a - k) (b - k) (omega arith) ∙ sym (le-ltb a b le)
]

pub first_line : (most : ℕ) (script : List ℕ) (at : ℕ) → FrontLine most script at → at ≤ 4096
    → at < length (take most script)
    → lines_within most script ≡ with_line (without_cr (take at (take most script)))
    (lines_within (most - (at + 1)) (drop (at + 1) script))
unfolding lines_within
first_line most script at f short lt =
    let seen = take most script in
    let k : at + 1 ≡ suc at = add-one at in
    let size = length-take most script in
    let line_size : length (take at seen) ≤ 4096 = omega (arith, length-take at seen) in
    let sum : at + 1 + (most - (at + 1)) ≡ most = omega arith in
    let rest : drop (at + 1) seen ≡ take (most - (at + 1)) (drop (at + 1) script) =
    ap (λ (n : ℕ). drop (at + 1) (take n script)) (sym sum)
    ∙ drop-take (at + 1) (most - (at + 1)) script in
    let longer : ltb most (length script) ≡ ltb (most - (at + 1)) (length (drop (at + 1) script)) =
    sym (fewer most (length script) (at + 1) (omega arith) (omega arith))
    ∙ ap (λ (n : ℕ). ltb (most - (at + 1)) n) (sym (length-drop (at + 1) script)) in
    ap (λ (p : Parts). of_parts p (ltb most (length script))) (some_parts most script at f lt)
    ∙ (cond-false (ltb longest_line (length (take at seen))) _ _
    (in_limit (length (take at seen)) line_size)
    ∙ (ap (λ (b : Bool). with_line (without_cr (take at seen))
    (of_parts (parts_of (drop (suc at) seen)) b)) longer
    ∙ (ap (λ (n : ℕ). with_line (without_cr (take at seen))
    (of_parts (parts_of (drop n seen)) (ltb (most - (at + 1)) (length (drop (at + 1) script)))))
    (sym k)
    ∙ ap (λ (r : List ℕ). with_line (without_cr (take at seen))
    (of_parts (parts_of r) (ltb (most - (at + 1)) (length (drop (at + 1) script))))) rest)))

rest_line : (most : ℕ) (script : List ℕ) (at : ℕ) → FrontLine most script at → at ≤ 4096
    → length (take most script) ≤ at
    → lines_within most script ≡ last_line (take most script) (ltb most (length script))
unfolding lines_within
rest_line most script at f short le =
    ap (λ (p : Parts). of_parts p (ltb most (length script))) (all_parts most script at f le)
    ∙ cond-false (ltb longest_line (length (take most script))) _ _
    (in_limit (length (take most script)) (omega arith))

pub long_script : (most : ℕ) (script : List ℕ) (at : ℕ) → FrontLine most script at → at ≤ 4096
    → length (take most script) ≤ at → most < length script
    → lines_within most script ≡ stopped why.ScriptTooLong
long_script most script at f short le more = rest_line most script at f short le
    ∙ ap (last_line (take most script)) (lt-ltb most (length script) more)

pub whole_rest : (most : ℕ) (script : List ℕ) (at : ℕ) → FrontLine most script at → at ≤ 4096
    → length (take most script) ≤ at → length script ≤ most
    → lines_within most script ≡ last_line script false
whole_rest most script at f short le few =
    rest_line most script at f short le
    ∙ (ap (last_line (take most script)) (le-ltb most (length script) few)
    ∙ ap (λ (s : List ℕ). last_line s false) (take_all most script few))

pub lines-nil : (most : ℕ) → lines_within most [] ≡ no_lines
unfolding lines_within longest_line
lines-nil most = ap (λ (s : List ℕ). of_parts (parts_of s) (ltb most 0)) (take-nil most)
    ∙ ap (last_line []) (le-ltb most 0 (omega arith))

-- ---- what stands behind the first byte too many

pub take_seen : (xs : List ℕ) (m most : ℕ) → m ≡ min (length xs) most → take m xs ≡ take most xs
take_seen xs m most e =
    let turned : m ≡ min most (length xs) = omega arith in
    ap (λ (n : ℕ). take n xs) turned ∙ take_min most xs

pub front_line : (script : List ℕ) (m most at : ℕ) → m ≡ min (length script) most
    → NoLf (take at (take m script)) → at ≤ length (take m script)
    → (at < length (take m script) → get_or (take m script) at 0 ≡ 10)
    → FrontLine most script at
front_line script m most at e before within ended =
    let same = take_seen script m most e in
    record {
      before = subst (λ (s : List ℕ). NoLf (take at s)) same before;
      within = subst (λ (s : List ℕ). at ≤ length s) same within;
      ended = subst (λ (s : List ℕ). at < length s → get_or s at 0 ≡ 10) same ended;
    }

last_none : (rest : List ℕ) → eqb (length rest) 0 ≡ true → last_line rest false ≡ no_lines
last_none [] e = refl
last_none (b ∷ bs) e = absurd (let z = eqb-true (length (b ∷ bs)) 0 e in omega arith)

last_some : (rest : List ℕ) → eqb (length rest) 0 ≡ false
    → last_line rest false ≡ with_line rest no_lines
last_some [] e = absurd cc
last_some (b ∷ bs) e = refl

-- all the rest is the last line, or there is none
pub whole_line : (script : List ℕ) (m most at : ℕ) → m ≡ min (length script) most
    → length (take m script) ≤ at → length script ≤ most → take at (take m script) ≡ script
whole_line script m most at e over few = take_all at (take m script) over
    ∙ (take_seen script m most e ∙ take_all most script few)

pub no_line : (most : ℕ) (script line : List ℕ) (at : ℕ) → FrontLine most script at → at ≤ 4096
    → length (take most script) ≤ at → length script ≤ most → line ≡ script
    → eqb (length line) 0 ≡ true → lines_within most script ≡ no_lines
no_line most script line at f short over few same empty = whole_rest most script at f short over few
    ∙ last_none script (ap (λ (s : List ℕ). eqb (length s) 0) (sym same) ∙ empty)

pub one_line : (most : ℕ) (script line : List ℕ) (at : ℕ) → FrontLine most script at → at ≤ 4096
    → length (take most script) ≤ at → length script ≤ most → line ≡ script
    → eqb (length line) 0 ≡ false
    → lines_within most script ≡ with_line line (lines_within most [])
one_line most script line at f short over few same some =
    whole_rest most script at f short over few
    ∙ (last_some script (ap (λ (s : List ℕ). eqb (length s) 0) (sym same) ∙ some)
    ∙ (ap (λ (s : List ℕ). with_line s no_lines) (sym same)
    ∙ ap (with_line line) (sym (lines-nil most))))

-- ---- the parts of a script, and what stands behind its limit

byte_before : (b : ℕ) (bs : List ℕ) (ended : List (List ℕ)) (rest : List ℕ) → b ≢ 10
    → ArePartsOf bs (record { ended = ended; rest = rest })
    → ArePartsOf (b ∷ bs) (with_first_byte b ended rest)
byte_before b bs [] rest other h =
    record { joined = ap (λ (t : List ℕ). b ∷ t) h.joined; lines = tt; behind = (other, h.behind) }
byte_before b bs (line ∷ lines) rest other h =
    record {
      joined = ap (λ (t : List ℕ). b ∷ t) h.joined;
      lines = ((other, h.lines.0), h.lines.1);
      behind = h.behind;
    }

lf_before : (b : ℕ) (bs : List ℕ) (parts : Parts) → b ≡ 10 → ArePartsOf bs parts
    → ArePartsOf (b ∷ bs) (with_ended [] parts)
lf_before b bs parts lf h =
    record {
      joined = ap (λ (t : List ℕ). 10 ∷ t) h.joined ∙ ap (λ (n : ℕ). n ∷ bs) (sym lf);
      lines = (tt, h.lines);
      behind = h.behind;
    }

pub parts_joined : (script : List ℕ) → ArePartsOf script (parts_of script)
parts_joined [] = record { joined = refl; lines = tt; behind = tt }
parts_joined (b ∷ bs) =
    let parts = parts_of bs in
    let others = parts_joined bs in
    elim (cases_Bool (eqb b 10)) [
      | inl lf ↦ subst (ArePartsOf (b ∷ bs))
          (sym (cond-true (eqb b 10) (with_ended [] parts)
          (with_first_byte b parts.ended parts.rest) lf))
          (lf_before b bs parts (eqb-true b 10 lf) others)
      | inr other ↦ subst (ArePartsOf (b ∷ bs))
          (sym (cond-false (eqb b 10) (with_ended [] parts)
          (with_first_byte b parts.ended parts.rest)
          other)) (byte_before b bs parts.ended parts.rest (eqb-false b 10 other) others)
    ]

take_more_of : (most : ℕ) (script : List ℕ) → take most (take (suc most) script) ≡ take most script
take_more_of zero script = refl
take_more_of (suc most) [] = refl
take_more_of (suc most) (b ∷ bs) = ap (λ (t : List ℕ). b ∷ t) (take_more_of most bs)

still_longer : (most n : ℕ) → ltb most (min (suc most) n) ≡ ltb most n
still_longer most n = elim (cases_lt most n) [
  | inl lt ↦ lt-ltb most (min (suc most) n) (omega arith) ∙ sym (lt-ltb most n lt)
  | inr le ↦ le-ltb most (min (suc most) n) (omega arith) ∙ sym (le-ltb most n le)
]

pub enough_lines : (most : ℕ) (script : List ℕ)
    → lines_within most (take (most + 1) script) ≡ lines_within most script
unfolding lines_within
enough_lines most script =
    let k : most + 1 ≡ suc most = add-one most in
    let longer : ltb most (length (take (suc most) script)) ≡ ltb most (length script) =
    ap (λ (n : ℕ). ltb most n) (length-take (suc most) script)
    ∙ still_longer most (length script) in
    ap (λ (n : ℕ). of_parts (parts_of (take most (take n script)))
    (ltb most (length (take n script)))) k
    ∙ (ap (λ (s : List ℕ). of_parts (parts_of s) (ltb most (length (take (suc most) script))))
    (take_more_of most script)
    ∙ ap (of_parts (parts_of (take most script))) longer)
