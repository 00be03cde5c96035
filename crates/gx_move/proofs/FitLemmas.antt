-- When a stock is one for databases of a schema, and what a loop over its parts has found so far.
use Rattle.std.proofs.Common.{◌≡◌, ◌↔◌, ℕ, zero, suc, ◌+◌, ◌<◌, ◌≤◌, Bool, true, false, List, [], ◌∷◌, ◌++◌, length, map, take, get_or, refl, sym, ap, subst, ◌∙◌, arith, take-append-drop, length-append}
use Rattle.std.specs.Prelude.{IsTrue}
use Rattle.std.specs.List.{AllByRecursion, IsSplitAt}
use Rattle.std.proofs.lemmas.List.{get_or_default, take_all}
use Rattle.std.proofs.lemmas.Bool.{true≢false}
use Rattle.gx_values.specs.declared.records.Field.{Field}
use Rattle.gx_values.specs.declared.records.Rec.{Rec}
use Rattle.gx_values.specs.declared.values.Value.{Value}
use Rattle.gx_values.specs.Values.{Fits, AreFit}
use Rattle.gx_schema.specs.declared.schema.FileDef.{FileDef}
use Rattle.gx_schema.specs.declared.schema.Schema.{Schema}
use Rattle.gx_schema.specs.Lookups.{file_at, no_file}
use Rattle.gx_commands.specs.declared.command.Command.{Command}
use Rattle.gx_commands.specs.Commands.{IsOfSchema}
use Rattle.gx_move.specs.declared.stock.Stock.{Stock}
use Rattle.gx_move.specs.Giving.{insert_of, inserts_of, connects_of, each_from, AreOfSchema, IsStockFor}
use Rattle.gx_move.proofs.DueLemmas.{all_both, stock_inserts, stock_connects}
use Rattle.gx_move.proofs.CarryLemmas.{of_more, each_more}

-- ---- answers of tests

pub no_for : {A : Type 0} → (A → ⊥) → IsTrue false ↔ A
no_for none = ((λ no. absurd (true≢false (sym no))), (λ a. absurd (none a)))

pub met_by : {A : Type 0} (answer : Bool) → answer ≡ true → IsTrue answer ↔ A → A
met_by answer is exact = exact.0 is

pub not_met : {A : Type 0} (answer : Bool) → answer ≡ false → IsTrue answer ↔ A → A → ⊥
not_met answer is exact a = true≢false (sym (exact.1 a) ∙ is)

-- ---- one of a list after another, where x is the i-th

pub met_more : {A : Type 0} (P : Command → Type 0) (f : A → Command) (xs : List A) (i : ℕ) (x : A)
    → i < length xs → x ≡ get_or xs i x → AllByRecursion P (map f (take i xs)) → P (f x)
    → AllByRecursion P (map f (take (i + 1) xs))
met_more P f xs i x lt is front one =
    subst (AllByRecursion P) (sym (of_more f xs i x lt is))
    (all_both P (map f (take i xs)) (f x ∷ []) front (one, tt))

-- the same where each one has several commands
pub each_met_more : {A : Type 0} (P : Command → Type 0) (f : ℕ → A → List Command) (xs : List A)
    (i : ℕ) (x : A) → i < length xs → x ≡ get_or xs i x
    → AllByRecursion P (each_from f 0 (take i xs)) → AllByRecursion P (f i x)
    → AllByRecursion P (each_from f 0 (take (i + 1) xs))
each_met_more P f xs i x lt is front one =
    subst (AllByRecursion P) (sym (each_more f xs i x lt is))
    (all_both P (each_from f 0 (take i xs)) (f i x) front one)

-- what is found of the values of a record tells whether its insert is of the schema
pub insert_exact : (schema : Schema) (file : ℕ) (def : FileDef) (r : Rec) (answer : Bool)
    → file < length schema.files → def ≡ get_or schema.files file def
    → IsTrue answer ↔ AreFit def.fields (r.key ++ r.fields)
    → IsTrue answer ↔ IsOfSchema schema (insert_of file r)
insert_exact schema file def r answer lt is exact =
    let same : def ≡ file_at schema file =
    is ∙ get_or_default schema.files file def no_file lt in
    let here : IsTrue answer ↔ AreFit (file_at schema file).fields (r.key ++ r.fields) =
    subst (λ (d : FileDef). IsTrue answer ↔ AreFit d.fields (r.key ++ r.fields)) same exact in
    ((λ yes. (lt, here.0 yes)), (λ due. here.1 due.1))

-- ---- values of fields

pub fit_long : (fs : List Field) (vs : List Value) → AreFit fs vs → length fs ≡ length vs
fit_long [] [] fit = refl
fit_long [] (v ∷ vs) fit = absurd fit
fit_long (f ∷ fs) [] fit = absurd fit
fit_long (f ∷ fs) (v ∷ vs) fit = ap suc (fit_long fs vs fit.1)

pub fit_at : (i : ℕ) (fs : List Field) (vs : List Value) (f : Field) (v : Value)
    → i < length fs → f ≡ get_or fs i f → v ≡ get_or vs i v → AreFit fs vs → Fits f.kind v
fit_at i [] vs f v lt is same fit = absurd (omega (arith, lt))
fit_at i (g ∷ fs) [] f v lt is same fit = absurd fit
fit_at zero (g ∷ fs) (w ∷ vs) f v lt is same fit =
    subst (λ (h : Field). Fits h.kind v) (sym is)
    (subst (λ (u : Value). Fits g.kind u) (sym same) fit.0)
fit_at (suc i) (g ∷ fs) (w ∷ vs) f v lt is same fit =
    fit_at i fs vs f v (omega (arith, lt)) is same fit.1

fit_more : (i : ℕ) (fs : List Field) (vs : List Value) (f : Field) (v : Value)
    → i < length fs → i < length vs → f ≡ get_or fs i f → v ≡ get_or vs i v
    → AreFit (take i fs) (take i vs) → Fits f.kind v
    → AreFit (take (suc i) fs) (take (suc i) vs)
fit_more i [] vs f v lt short is same front one = absurd (omega (arith, lt))
fit_more i (g ∷ fs) [] f v lt short is same front one = absurd (omega (arith, short))
fit_more zero (g ∷ fs) (w ∷ vs) f v lt short is same front one = (
  subst (λ (u : Value). Fits g.kind u) same (subst (λ (h : Field). Fits h.kind v) is one),
  tt,
)
fit_more (suc i) (g ∷ fs) (w ∷ vs) f v lt short is same front one = (
  front.0,
  fit_more i fs vs f v (omega (arith, lt)) (omega (arith, short)) is same front.1 one,
)

pub fit_next : (i : ℕ) (fs : List Field) (vs : List Value) (f : Field) (v : Value)
    → i < length fs → i < length vs → f ≡ get_or fs i f → v ≡ get_or vs i v
    → AreFit (take i fs) (take i vs) → Fits f.kind v
    → AreFit (take (i + 1) fs) (take (i + 1) vs)
fit_next i fs vs f v lt short is same front one =
    let next : suc i ≡ i + 1 = omega arith in
    subst (λ n. AreFit (take n fs) (take n vs)) next
    (fit_more i fs vs f v lt short is same front one)

pub fit_all : (i : ℕ) (fs : List Field) (vs : List Value) → length fs ≤ i
    → length fs ≡ length vs → AreFit (take i fs) (take i vs) → AreFit fs vs
fit_all i fs vs le same front =
    subst (λ ws. AreFit fs ws) (take_all i vs (omega (arith, le, same)))
    (subst (λ gs. AreFit gs (take i vs)) (take_all i fs le) front)

fit_join : (fs gs : List Field) (vs ws : List Value) → AreFit fs vs → AreFit gs ws
    → AreFit (fs ++ gs) (vs ++ ws)
fit_join [] gs [] ws one two = two
fit_join [] gs (v ∷ vs) ws one two = absurd one
fit_join (f ∷ fs) gs [] ws one two = absurd one
fit_join (f ∷ fs) gs (v ∷ vs) ws one two = (one.0, fit_join fs gs vs ws one.1 two)

fit_parts : (fs gs : List Field) (vs ws : List Value) → length fs ≡ length vs
    → AreFit (fs ++ gs) (vs ++ ws) → AreFit fs vs × AreFit gs ws
fit_parts [] gs [] ws long fit = (tt, fit)
fit_parts [] gs (v ∷ vs) ws long fit = absurd (omega (arith, long))
fit_parts (f ∷ fs) gs [] ws long fit = absurd (omega (arith, long))
fit_parts (f ∷ fs) gs (v ∷ vs) ws long fit =
    let rest = fit_parts fs gs vs ws (omega (arith, long)) fit.1 in ((fit.0, rest.0), rest.1)

pub fit_both : (fs front back : List Field) (ks vs : List Value) (n : ℕ)
    → IsSplitAt fs n front back → n ≡ length ks
    → (AreFit front ks → AreFit back vs → AreFit fs (ks ++ vs))
    × (AreFit fs (ks ++ vs) → AreFit front ks × AreFit back vs)
fit_both fs front back ks vs n split is =
    let parts : front ++ back ≡ fs =
    (λ i. split.1 i ++ split.2 i) ∙ take-append-drop n fs in (
      (λ one two. subst (λ gs. AreFit gs (ks ++ vs)) parts (fit_join front back ks vs one two)),
      (λ fit. fit_parts front back ks vs (split.3 ∙ is)
          (subst (λ gs. AreFit gs (ks ++ vs)) (sym parts) fit)),
    )

pub fit_short : (fs : List Field) (ks vs : List Value) → length fs < length ks
    → AreFit fs (ks ++ vs) → ⊥
fit_short fs ks vs short fit =
    let long = fit_long fs (ks ++ vs) fit ∙ length-append ks vs in omega (arith, short, long)

-- ---- all of a stock

pub stock_for : (schema : Schema) (stock : Stock)
    → (length stock.files ≡ length schema.files)
    × AreOfSchema schema (each_from inserts_of 0 stock.files)
    → (length stock.links ≡ length schema.links)
    × AreOfSchema schema (each_from connects_of 0 stock.links)
    → IsStockFor schema stock
stock_for schema stock files links = record {
  files = files.0;
  links = links.0;
  commands = all_both (IsOfSchema schema) (each_from inserts_of 0 stock.files)
      (each_from connects_of 0 stock.links) files.1 links.1;
}

pub files_of_stock : (schema : Schema) (stock : Stock) → IsStockFor schema stock
    → (length stock.files ≡ length schema.files)
    × AreOfSchema schema (each_from inserts_of 0 stock.files)
files_of_stock schema stock is = (is.files, stock_inserts schema stock is)

pub links_of_stock : (schema : Schema) (stock : Stock) → IsStockFor schema stock
    → (length stock.links ≡ length schema.links)
    × AreOfSchema schema (each_from connects_of 0 stock.links)
links_of_stock schema stock is = (is.links, stock_connects schema stock is)
