-- What the lines of tasks mean.
use Rattle.std.proofs.Common.{◌≡◌, ℕ, ◌%◌, ◌^◌, ◌<◌, ◌≤◌, Bool, true, false, cond, eqb, List, [], ◌∷◌, ◌++◌, length, codes, refl, sym, ap, ◌∙◌, append_assoc, inl, inr, arith, length-append}
use Rattle.std.specs.Prelude.{IsTrue}
use Rattle.std.specs.List.{AllByRecursion, list_all}
use Rattle.std.specs.Fmt.{decimal}
use Rattle.std.proofs.lemmas.Fmt.{length-decimal-le}
use Rattle.std.proofs.lemmas.Bool.{and_from, le-leb}
use Rattle.gx_tokens.proofs.NumberLaws.{number_value-decimal, IsNumber-decimal, is_number-true}
use Rattle.gx_tokens.specs.Numbers.{is_number, number_value}
use Rattle.gx_values.specs.Values.{is_printable}
use Rattle.gx_commands.specs.Words.{Word, Bare, Quoted, is_character, is_comment, IsLineWord}
use Rattle.gx_commands.specs.Commands.{IsOfSchema}
use Rattle.gx_script.specs.Names.{file_number, link_number, field_number}
use Rattle.gx_script.specs.Grammar.{CommandWords, IsLineOf, FileName, LinkName, FieldName, IsLiteral}
use Rattle.gx_work.specs.declared.task.Task.{Task}
use Rattle.gx_work.specs.declared.task.Task.TheVariants as task
use Rattle.gx_work.specs.Schema.{work_schema, emp}
use Rattle.gx_work.specs.Tasks.{int, pay_of, room_of, department_of, room_text, command_of, line_text}
use Rattle.gx_work.proofs.WordLemmas.{spaced, IsGood, words_are, all_characters, number_good, quoted_good, IsPlain, plain_decimal, plain_unquoted}

-- the numbers of a task are no greater than those of the largest workload
abbrev pub IsSmall : Task → Type 0
IsSmall (task.Department d) = d < 10
IsSmall (task.Employee i) = i ≤ 10000
IsSmall (task.Connection i) = i ≤ 10000
IsSmall (task.Raise i) = i ≤ 10000
IsSmall _ = Unit {0}

-- the words of its line
abbrev pub words_of : Task → List Word
words_of task.Begin = Bare (codes "begin") ∷ []
words_of task.Commit = Bare (codes "commit") ∷ []
words_of (task.Department d) = Bare (codes "insert") ∷ Bare (codes "dept") ∷ Bare
    (decimal d) ∷ Quoted (codes "dept " ++ decimal d) ∷ []
words_of (task.Employee i) = Bare (codes "insert") ∷ Bare (codes "emp") ∷ Bare (decimal i) ∷ Quoted
    (codes "emp " ++ decimal i) ∷ Bare (decimal (pay_of i)) ∷ Quoted (room_of i) ∷ []
words_of (task.Connection i) = Bare (codes "connect") ∷ Bare (codes "works") ∷ Bare
    (decimal (department_of i)) ∷ Bare (decimal i) ∷ []
words_of (task.Raise i) = Bare (codes "update") ∷ Bare (codes "emp") ∷ Bare (decimal i) ∷ Bare
    (codes "pay") ∷ Bare (codes "1500") ∷ []
words_of task.FindByPay = Bare (codes "find") ∷ Bare (codes "emp") ∷ Bare (codes "where") ∷ Bare
    (codes "pay") ∷ Bare (codes "=") ∷ Bare (codes "1500") ∷ []
words_of task.FindByLink = Bare (codes "find") ∷ Bare (codes "emp") ∷ Bare (codes "of") ∷ Bare
    (codes "works") ∷ Bare (codes "3") ∷ []

-- its line without the LF
abbrev pub line_of : Task → List ℕ
line_of t = spaced (words_of t)

room_same : (b : Bool) → 32 ∷ (34 ∷ cond b [] (codes "r7") ++ 34 ∷ [])
    ++ 10 ∷ [] ≡ cond b (codes " \"\"\n") (codes " \"r7\"\n")
room_same true = refl
room_same false = refl

to_the_right : (a b c d p t : List ℕ)
    → a ++ d ++ b ++ d ++ c ++ p ++ t ≡ a ++ (d ++ (b ++ (d ++ (c ++ (p ++ t)))))
to_the_right a b c d p t = simp append_assoc

quoted_twice : (d a b x y : List ℕ)
    → (d ++ (a ++ ((d ++ b) ++ x))) ++ y ≡ d ++ (a ++ (d ++ (b ++ (x ++ y))))
quoted_twice d a b x y = simp append_assoc

employee_line : (d p r t : List ℕ) → t ≡ 32 ∷ (34 ∷ r ++ 34 ∷ []) ++ 10 ∷ []
    → codes "insert emp " ++ d ++ codes " \"emp " ++ d ++ codes "\" " ++ p
    ++ t ≡ spaced (Bare (codes "insert") ∷ Bare (codes "emp") ∷ Bare d ∷ Quoted
    (codes "emp " ++ d) ∷ Bare p ∷ Quoted r ∷ []) ++ 10 ∷ []
employee_line d p r t e =
    let z = 32 ∷ (34 ∷ r ++ 34 ∷ []) in
    ap (λ x. codes "insert emp " ++ d ++ codes " \"emp " ++ d ++ codes "\" " ++ p ++ x) e
    ∙ to_the_right (codes "insert emp ") (codes " \"emp ") (codes "\" ") d p (z ++ 10 ∷ [])
    ∙ ap (λ x. codes "insert emp " ++ (d ++ (codes " \"emp " ++ (d ++ (codes "\" " ++ x)))))
    (sym (append_assoc p z (10 ∷ [])))
    ∙ ap (λ x. codes "insert emp " ++ x)
    (sym (quoted_twice d (codes " \"emp ") (34 ∷ []) (32 ∷ (p ++ z)) (10 ∷ [])))

pub line_is : (t : Task) → line_text t ≡ line_of t ++ 10 ∷ []
line_is task.Begin = refl
line_is task.Commit = refl
line_is (task.Department d) = simp append_assoc
line_is (task.Employee i) =
    employee_line (decimal i) (decimal (pay_of i)) (room_of i) (room_text i)
    (sym (room_same (eqb (i % 2) 0)))
line_is (task.Connection i) = simp append_assoc
line_is (task.Raise i) = simp append_assoc
line_is task.FindByPay = refl
line_is task.FindByLink = refl

-- ---- good words

bare : (text : List ℕ) → IsLineWord (Bare text) → list_all is_character text ≡ true
    → IsGood (Bare text)
bare text w c = record { is_word = w; characters = c }

plain_front : (front text : List ℕ) → AllByRecursion IsPlain front → AllByRecursion IsPlain text
    → AllByRecursion IsPlain (front ++ text)
plain_front [] text h k = k
plain_front (b ∷ bs) text h k = (h.0, plain_front bs text h.1 k)

plain_byte : (b : ℕ) → 34 < b → b ≤ 126 → IsPlain b
plain_byte b lt le = record { low = omega arith; high = le; other = λ e. omega arith }

plain_blank : IsPlain 32
plain_blank = record { low = omega arith; high = omega arith; other = λ e. omega arith }

plain_room : (b : Bool) → AllByRecursion IsPlain (cond b [] (codes "r7"))
plain_room true = tt
plain_room false = (
  plain_byte 114 (omega arith) (omega arith),
  (plain_byte 55 (omega arith) (omega arith), tt),
)

plain_dept : (d : ℕ) → d < 2 ^ 64 → AllByRecursion IsPlain (codes "dept " ++ decimal d)
plain_dept d lt = (
  plain_byte 100 (omega arith) (omega arith),
  (
    plain_byte 101 (omega arith) (omega arith),
    (
      plain_byte 112 (omega arith) (omega arith),
      (plain_byte 116 (omega arith) (omega arith), (plain_blank, plain_decimal d lt)),
    ),
  ),
)

plain_emp : (i : ℕ) → i < 2 ^ 64 → AllByRecursion IsPlain (codes "emp " ++ decimal i)
plain_emp i lt = (
  plain_byte 101 (omega arith) (omega arith),
  (
    plain_byte 109 (omega arith) (omega arith),
    (plain_byte 112 (omega arith) (omega arith), (plain_blank, plain_decimal i lt)),
  ),
)

good_begin : IsGood (Bare (codes "begin"))
good_begin = bare _ (λ e. omega arith, (refl, (refl, (refl, (refl, (refl, tt)))))) refl

good_commit : IsGood (Bare (codes "commit"))
good_commit = bare _ (λ e. omega arith, (refl, (refl, (refl, (refl, (refl, (refl, tt))))))) refl

good_insert : IsGood (Bare (codes "insert"))
good_insert = bare _ (λ e. omega arith, (refl, (refl, (refl, (refl, (refl, (refl, tt))))))) refl

good_dept : IsGood (Bare (codes "dept"))
good_dept = bare _ (λ e. omega arith, (refl, (refl, (refl, (refl, tt))))) refl

good_emp : IsGood (Bare (codes "emp"))
good_emp = bare _ (λ e. omega arith, (refl, (refl, (refl, tt)))) refl

good_connect : IsGood (Bare (codes "connect"))
good_connect = bare _ (λ e. omega arith, (refl, (refl, (refl, (refl, (refl, (refl, (refl, tt))))))))
    refl

good_works : IsGood (Bare (codes "works"))
good_works = bare _ (λ e. omega arith, (refl, (refl, (refl, (refl, (refl, tt)))))) refl

good_update : IsGood (Bare (codes "update"))
good_update = bare _ (λ e. omega arith, (refl, (refl, (refl, (refl, (refl, (refl, tt))))))) refl

good_pay : IsGood (Bare (codes "pay"))
good_pay = bare _ (λ e. omega arith, (refl, (refl, (refl, tt)))) refl

good_1500 : IsGood (Bare (codes "1500"))
good_1500 = bare _ (λ e. omega arith, (refl, (refl, (refl, (refl, tt))))) refl

good_find : IsGood (Bare (codes "find"))
good_find = bare _ (λ e. omega arith, (refl, (refl, (refl, (refl, tt))))) refl

good_where : IsGood (Bare (codes "where"))
good_where = bare _ (λ e. omega arith, (refl, (refl, (refl, (refl, (refl, tt)))))) refl

good_equal : IsGood (Bare (codes "="))
good_equal = bare _ (λ e. omega arith, (refl, tt)) refl

good_of : IsGood (Bare (codes "of"))
good_of = bare _ (λ e. omega arith, (refl, (refl, tt))) refl

good_3 : IsGood (Bare (codes "3"))
good_3 = bare _ (λ e. omega arith, (refl, tt)) refl

pub good_words : (t : Task) → IsSmall t → AllByRecursion IsGood (words_of t)
good_words task.Begin s = (good_begin, tt)
good_words task.Commit s = (good_commit, tt)
good_words (task.Department d) s = (
  good_insert,
  (good_dept, (number_good d (omega arith), (quoted_good _ (plain_dept d (omega arith)), tt))),
)
good_words (task.Employee i) s = (
  good_insert,
  (
    good_emp,
    (
      number_good i (omega arith),
      (
        quoted_good _ (plain_emp i (omega arith)),
        (
          number_good (pay_of i) (omega arith),
          (quoted_good (room_of i) (plain_room (eqb (i % 2) 0)), tt),
        ),
      ),
    ),
  ),
)
good_words (task.Connection i) s = (
  good_connect,
  (
    good_works,
    (
      number_good (department_of i) (omega arith),
      (number_good i (omega arith), tt),
    ),
  ),
)
good_words (task.Raise i) s =
    (good_update, (good_emp, (number_good i (omega arith), (good_pay, (good_1500, tt)))))
good_words task.FindByPay s =
    (good_find, (good_emp, (good_where, (good_pay, (good_equal, (good_1500, tt))))))
good_words task.FindByLink s = (good_find, (good_emp, (good_of, (good_works, (good_3, tt)))))

no_comment : (t : Task) → is_comment (line_of t) ≡ false
no_comment task.Begin = refl
no_comment task.Commit = refl
no_comment (task.Department d) = refl
no_comment (task.Employee i) = refl
no_comment (task.Connection i) = refl
no_comment (task.Raise i) = refl
no_comment task.FindByPay = refl
no_comment task.FindByLink = refl

-- ---- what the words mean

number_means : (n : ℕ) → n < 2 ^ 64 → IsLiteral (int n) (Bare (decimal n))
number_means n lt = (is_number-true (decimal n) (IsNumber-decimal n lt), number_value-decimal n lt)

dept_name : (rest : List Word) → FileName work_schema 0 (Bare (codes "dept") ∷ rest) rest
unfolding file_number
dept_name rest = (codes "dept", refl, refl)

emp_name : (rest : List Word) → FileName work_schema 1 (Bare (codes "emp") ∷ rest) rest
unfolding file_number
emp_name rest = (codes "emp", refl, refl)

works_name : (rest : List Word) → LinkName work_schema 0 (Bare (codes "works") ∷ rest) rest
unfolding link_number
works_name rest = (codes "works", refl, refl)

pay_name : (rest : List Word) → FieldName emp 2 (Bare (codes "pay") ∷ rest) rest
unfolding field_number
pay_name rest = (codes "pay", refl, refl)

means_1500 : IsLiteral (int 1500) (Bare (codes "1500"))
unfolding is_number number_value
means_1500 = (refl, refl)

means_3 : IsLiteral (int 3) (Bare (codes "3"))
unfolding is_number number_value
means_3 = (refl, refl)

words_mean : (t : Task) → IsSmall t → CommandWords work_schema (command_of t) (words_of t) []
words_mean task.Begin s = refl
words_mean task.Commit s = refl
words_mean (task.Department d) s = (
  _,
  refl,
  (
    _,
    dept_name _,
    (
      _,
      (_, refl, number_means d (omega arith)),
      (_, (_, refl, plain_unquoted _ (plain_dept d (omega arith))), refl),
    ),
  ),
)
words_mean (task.Employee i) s = (
  _,
  refl,
  (
    _,
    emp_name _,
    (
      _,
      (_, refl, number_means i (omega arith)),
      (
        _,
        (_, refl, plain_unquoted _ (plain_emp i (omega arith))),
        (
          _,
          (_, refl, number_means (pay_of i) (omega arith)),
          (_, (_, refl, plain_unquoted (room_of i) (plain_room (eqb (i % 2) 0))), refl),
        ),
      ),
    ),
  ),
)
words_mean (task.Connection i) s = (
  _,
  refl,
  (
    _,
    works_name _,
    (
      _,
      (_, refl, number_means (department_of i) (omega arith)),
      (_, refl, number_means i (omega arith)),
    ),
  ),
)
words_mean (task.Raise i) s = (
  _,
  refl,
  (
    _,
    emp_name _,
    (
      _,
      (_, refl, number_means i (omega arith)),
      (_, pay_name _, (_, refl, means_1500)),
    ),
  ),
)
words_mean task.FindByPay s = (
  _,
  refl,
  (
    _,
    emp_name _,
    (
      _,
      (_, refl, (_, pay_name _, (_, refl, (_, refl, means_1500)))),
      (_, refl, inl (refl, refl)),
    ),
  ),
)
words_mean task.FindByLink s = (
  _,
  refl,
  (
    _,
    emp_name _,
    (_, refl, (_, (_, refl, (_, works_name _, (_, refl, means_3))), inl (refl, refl))),
  ),
)

-- ---- what fits the schema

printable : (text : List ℕ) → AllByRecursion IsPlain text → IsTrue (list_all is_printable text)
printable [] h = refl
printable (b ∷ bs) h = and_from _ _ (and_from _ _ (le-leb 32 b h.0.low) (le-leb b 126 h.0.high))
    (printable bs h.1)

short : (k n : ℕ) → 0 < k → n < 10 ^ k → n < 2 ^ 64 → length (decimal n) ≤ k
short = length-decimal-le

dept_short : (d : ℕ) → d < 10 → length (codes "dept " ++ decimal d) ≤ 12
dept_short d lt = omega (
  arith,
  short 1 d (omega arith) (omega arith) (omega arith),
  length-append (codes "dept ") (decimal d),
)

emp_short : (i : ℕ) → i ≤ 10000 → length (codes "emp " ++ decimal i) ≤ 24
emp_short i le = omega (
  arith,
  short 5 i (omega arith) (omega arith) (omega arith),
  length-append (codes "emp ") (decimal i),
)

room_short : (b : Bool) → length (cond b [] (codes "r7")) ≤ 8
room_short true = omega arith
room_short false = omega arith

fits : (t : Task) → IsSmall t → IsOfSchema work_schema (command_of t)
fits task.Begin s = tt
fits task.Commit s = tt
fits (task.Department d) s = (
  omega arith,
  (
    omega arith,
    ((dept_short d s, printable (codes "dept " ++ decimal d) (plain_dept d (omega arith))), tt),
  ),
)
fits (task.Employee i) s = (
  omega arith,
  (
    omega arith,
    (
      (emp_short i s, printable (codes "emp " ++ decimal i) (plain_emp i (omega arith))),
      (
        omega arith,
        ((room_short (eqb (i % 2) 0), printable (room_of i) (plain_room (eqb (i % 2) 0))), tt),
      ),
    ),
  ),
)
fits (task.Connection i) s = (omega arith, omega arith, omega arith)
fits (task.Raise i) s = (
  omega arith,
  omega arith,
  (record { past_key = omega arith; in_file = omega arith; fits = omega arith }, tt),
  (tt, tt),
)
fits task.FindByPay s =
    record {
      file = omega arith;
      conds = (record { in_file = omega arith; fits = omega arith }, tt);
      of = tt;
      order = omega arith;
    }
fits task.FindByLink s =
    record {
      file = omega arith;
      conds = tt;
      of = (omega arith, refl, omega arith);
      order = omega arith;
    }

-- the line of a task means its command
pub line_means : (t : Task) → IsSmall t → IsLineOf work_schema (line_of t) (command_of t)
line_means t s = inr (
  no_comment t,
  all_characters (words_of t) (good_words t s),
  (
    words_of t,
    words_are (words_of t) (good_words t s),
    record { words = words_mean t s; rules = fits t s },
  ),
)

pub line_characters : (t : Task) → IsSmall t → list_all is_character (line_of t) ≡ true
line_characters t s = all_characters (words_of t) (good_words t s)

-- ---- how long it is

employee_length : (d p r : List ℕ) → length d ≤ 5 → length p ≤ 5 → length r ≤ 8
    → length (spaced (Bare (codes "insert") ∷ Bare (codes "emp") ∷ Bare d ∷ Quoted
    (codes "emp " ++ d) ∷ Bare p ∷ Quoted r ∷ [])) ≤ 50
employee_length d p r x y z =
    omega (
      arith,
      length-append d (32 ∷ (34 ∷ (codes "emp " ++ d) ++ 34 ∷ [])
          ++ 32 ∷ (p ++ 32 ∷ (34 ∷ r ++ 34 ∷ []))),
      length-append (codes "emp " ++ d) (34 ∷ []),
      length-append ((codes "emp " ++ d) ++ 34 ∷ []) (32 ∷ (p ++ 32 ∷ (34 ∷ r ++ 34 ∷ []))),
      length-append p (32 ∷ (34 ∷ r ++ 34 ∷ [])),
      length-append r (34 ∷ []),
      length-append d (34 ∷ []),
      length-append (d ++ 34 ∷ [])
          (32 ∷ (p ++ 32 ∷ (34 ∷ r ++ 34 ∷ []))),
    )

dept_length : (d : List ℕ) → length d ≤ 5
    → length (spaced (Bare (codes "insert") ∷ Bare (codes "dept") ∷ Bare d ∷ Quoted
    (codes "dept " ++ d) ∷ [])) ≤ 50
dept_length d x = omega (
  arith,
  length-append d (32 ∷ (34 ∷ (codes "dept " ++ d) ++ 34 ∷ [])),
  length-append d (34 ∷ []),
)

connection_length : (o i : List ℕ) → length o ≤ 5 → length i ≤ 5
    → length (spaced (Bare (codes "connect") ∷ Bare (codes "works") ∷ Bare o ∷ Bare i ∷ [])) ≤ 50
connection_length o i x y = omega (arith, length-append o (32 ∷ i))

raise_length : (i : List ℕ) → length i ≤ 5
    → length (spaced (Bare (codes "update") ∷ Bare (codes "emp") ∷ Bare i ∷ Bare
    (codes "pay") ∷ Bare (codes "1500") ∷ [])) ≤ 50
raise_length i x = omega (arith, length-append i (codes " pay 1500"))

pub line_short : (t : Task) → IsSmall t → length (line_of t) ≤ 50
line_short task.Begin s = omega arith
line_short task.Commit s = omega arith
line_short (task.Department d) s =
    dept_length (decimal d) (short 5 d (omega arith) (omega arith) (omega arith))
line_short (task.Employee i) s =
    employee_length (decimal i) (decimal (pay_of i)) (room_of i)
    (short 5 i (omega arith) (omega arith) (omega arith))
    (short 5 (pay_of i) (omega arith) (omega arith) (omega arith))
    (room_short (eqb (i % 2) 0))
line_short (task.Connection i) s =
    connection_length (decimal (department_of i)) (decimal i)
    (short 5 (department_of i) (omega arith) (omega arith) (omega arith))
    (short 5 i (omega arith) (omega arith) (omega arith))
line_short (task.Raise i) s =
    raise_length (decimal i) (short 5 i (omega arith) (omega arith) (omega arith))
line_short task.FindByPay s = omega arith
line_short task.FindByLink s = omega arith
