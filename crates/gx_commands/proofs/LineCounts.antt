-- How many lines a script has.
use Rattle.std.proofs.Common.{◌≡◌, ℕ, ◌+◌, ◌≤◌, List, [], ◌∷◌, length, take, Bool, true, false, refl, sym, subst, arith}
use Rattle.std.specs.Prelude.{nat_lt, ◌==◌, if◌then◌else◌}
use Rattle.std.proofs.lemmas.List.{length-take}
use Rattle.gx_commands.specs.declared.command.LineWhy.TheVariants as why
use Rattle.gx_commands.specs.Lines.{Lines, Parts, with_line, with_first_byte, parts_of, without_cr, last_line, up_to_limit, lines_within, longest_line, longest_script, script_lines, stopped as stopped_lines}

with_byte_few : (b : ℕ) (ended : List (List ℕ)) (rest : List ℕ)
    → length (with_first_byte b ended rest).ended ≡ length ended
with_byte_few b [] rest = refl
with_byte_few b (line ∷ lines) rest = refl

parts_or : (t : Bool) (a c : Parts) (n : ℕ) → length a.ended ≤ n → length c.ended ≤ n
    → length (if t then a else c).ended ≤ n
parts_or true a c n le other = le
parts_or false a c n le other = other

parts_few : (bs : List ℕ) → length (parts_of bs).ended ≤ length bs
parts_few [] = omega arith
parts_few (b ∷ bs) =
    parts_or (b == 10) (record { ended = [] ∷ (parts_of bs).ended; rest = (parts_of bs).rest })
    (with_first_byte b (parts_of bs).ended (parts_of bs).rest) (length (b ∷ bs))
    (omega (arith, parts_few bs))
    (omega (arith, parts_few bs, with_byte_few b (parts_of bs).ended (parts_of bs).rest))

lines_or : (t : Bool) (a c : Lines) (n : ℕ) → length a.lines ≤ n → length c.lines ≤ n
    → length (if t then a else c).lines ≤ n
lines_or true a c n le other = le
lines_or false a c n le other = other

last_few : (rest : List ℕ) (longer : Bool) → length (last_line rest longer).lines ≤ 1
last_few rest true = omega arith
last_few [] false = omega arith
last_few (b ∷ bs) false = omega arith

limit_few : (ended : List (List ℕ)) (rest : List ℕ) (longer : Bool)
    → length (up_to_limit ended rest longer).lines ≤ length ended + 1
limit_few [] rest longer =
    lines_or (nat_lt longest_line (length rest)) (stopped_lines why.TooLong)
    (last_line rest longer) 1 (omega arith) (last_few rest longer)
limit_few (line ∷ lines) rest longer =
    lines_or (nat_lt longest_line (length line)) (stopped_lines why.TooLong)
    (with_line (without_cr line) (up_to_limit lines rest longer)) (length (line ∷ lines) + 1)
    (omega arith)
    (omega (arith, limit_few lines rest longer))

pub few_lines : (script : List ℕ) → length (script_lines script).lines ≤ 16777217
unfolding lines_within longest_script
few_lines script =
    omega (
      arith,
      limit_few (parts_of (take 16777216 script)).ended (parts_of (take 16777216 script)).rest
          (nat_lt 16777216 (length script)),
      parts_few (take 16777216 script),
      taken,
    )
  where
    taken : length (take 16777216 script) ≤ 16777216
    taken = subst (λ n. n ≤ 16777216) (sym (length-take 16777216 script)) (omega arith)
