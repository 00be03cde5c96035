-- The line of an end tells of no commit.
use Rattle.std.proofs.Common.{◌≡◌, ℕ, zero, suc, ◌+◌, ◌<◌, ◌/◌, ◌%◌, List, [], ◌∷◌, ◌++◌, Bool, true, false, ltb, eqb, cond, refl, sym, ◌∙◌, ap, arith}
use Rattle.std.specs.Prelude.{◌≢◌, not, codes}
use Rattle.std.proofs.lemmas.Bool.{false≢true, eq-eqb, and_parts, cond-true, lt-ltb}
use Rattle.std.specs.List.{list_all}
use Rattle.std.specs.Fmt.{decimal, digits, digits_onto, digit_glyph}
use Rattle.gx_commands.specs.declared.command.LineWhy.{LineWhy}
use Rattle.gx_commands.specs.declared.command.LineWhy.TheVariants as why
use Rattle.gx_commands.specs.LineWhys.{word_of}
use Rattle.gx_model.specs.Play.{stopped, end_text}
use Rattle.gx_play.specs.Endings.{memory_line, full_line}
use Rattle.gx_play.proofs.TextLemmas.{Lacks, lacks_both}

-- ---- what is tested

no_byte : (x b : ℕ) → not (eqb x b) ≡ true → x ≢ b
no_byte x b is same = false≢true (sym (ap not (eq-eqb x b same)) ∙ is)

lacks_if : (b : ℕ) (xs : List ℕ) → list_all (λ x. not (eqb x b)) xs ≡ true → Lacks b xs
lacks_if b [] is = tt
lacks_if b (x ∷ xs) is =
    let both = and_parts (not (eqb x b)) (list_all (λ x. not (eqb x b)) xs) is in
    (no_byte x b both.0, lacks_if b xs both.1)

-- ---- a number

glyph_small : (n : ℕ) → digit_glyph false (n % 10) < 100
glyph_small n =
    let digit : n % 10 < 10 = omega arith in
    let is : digit_glyph false (n % 10) ≡ 48 + n % 10 =
    cond-true (ltb (n % 10) 10) _ _ (lt-ltb (n % 10) 10 digit) in
    omega (arith, is, digit)

either_lacks : (one : Bool) (xs ys : List ℕ) → Lacks 109 xs → Lacks 109 ys
    → Lacks 109 (cond one xs ys)
either_lacks true xs ys a b = a
either_lacks false xs ys a b = b

digits_lack : (k n : ℕ) (acc : List ℕ) → Lacks 109 acc → Lacks 109 (digits_onto k 10 false n acc)
digits_lack zero n acc lacks = lacks
digits_lack (suc k) n acc lacks =
    let all = digit_glyph false (n % 10) ∷ acc in
    let first : Lacks 109 all = ((λ same. omega (arith, glyph_small n, same)), lacks) in
    either_lacks (eqb (n / 10) 0) all (digits_onto k 10 false (n / 10) all) first
    (digits_lack k (n / 10) all first)

number_lacks : (n : ℕ) → Lacks 109 (decimal n)
unfolding digits
number_lacks n = digits_lack 64 n [] tt

-- ---- the lines

word_lacks : (reason : LineWhy) → Lacks 109 (word_of reason)
word_lacks why.Character = lacks_if 109 (codes "character") refl
word_lacks why.TooLong = lacks_if 109 (codes "too long") refl
word_lacks why.Quote = lacks_if 109 (codes "quote") refl
word_lacks why.Session = lacks_if 109 (codes "session") refl
word_lacks why.Word = lacks_if 109 (codes "word") refl
word_lacks why.File = lacks_if 109 (codes "file") refl
word_lacks why.Link = lacks_if 109 (codes "link") refl
word_lacks why.Field = lacks_if 109 (codes "field") refl
word_lacks why.Value = lacks_if 109 (codes "value") refl
word_lacks why.InTransaction = lacks_if 109 (codes "in transaction") refl
word_lacks why.NoTransaction = lacks_if 109 (codes "no transaction") refl
word_lacks why.OpenTransaction = lacks_if 109 (codes "open transaction") refl
word_lacks why.ScriptTooLong = lacks_if 109 (codes "script too long") refl

pub memory_lacks : Lacks 99 memory_line
memory_lacks = lacks_if 99 memory_line refl

pub full_lacks : Lacks 99 full_line
full_lacks = lacks_if 99 full_line refl

pub stopped_lacks : (number : ℕ) (reason : LineWhy) → Lacks 109 (end_text (stopped number reason))
stopped_lacks number reason =
    let front = codes "stopped at line " in
    lacks_both 109 (front ++ decimal number ++ codes ": " ++ word_of reason) (codes "\n")
    (lacks_both 109 (front ++ decimal number ++ codes ": ") (word_of reason)
    (lacks_both 109 (front ++ decimal number) (codes ": ")
    (lacks_both 109 front (decimal number) (lacks_if 109 front refl) (number_lacks number))
    (lacks_if 109 (codes ": ") refl))
    (word_lacks reason))
    (lacks_if 109 (codes "\n") refl)
