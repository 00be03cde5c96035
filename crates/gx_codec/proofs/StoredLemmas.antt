-- Fields that stand by their codes.
use Rattle.std.proofs.Common.{[], ◌≡◌, ℕ, zero, suc, ◌+◌, ◌<◌, ◌≤◌, List, ◌∷◌, ◌++◌, length, take, drop, get_or, Option, Some, None, false, refl, sym, ap, subst, ◌∙◌, arith, length-append}
use Rattle.std.specs.Option.{is_some}
use Rattle.std.proofs.Math.ListN.{set, replicate}
use Rattle.std.proofs.lemmas.Bool.{true≢false}
use Rattle.std.proofs.lemmas.List.{length-set, length-replicate, take_all, take_more, drop_all}
use Rattle.gx_values.specs.declared.values.Code.{Code}
use Rattle.gx_values.specs.declared.values.Code.TheVariants as code
use Rattle.gx_values.specs.declared.values.Kind.TheVariants as kind
use Rattle.gx_values.specs.declared.values.Value.{Value}
use Rattle.gx_values.specs.declared.values.Value.TheVariants as value
use Rattle.gx_values.specs.declared.records.Field.{Field}
use Rattle.gx_values.specs.Values.{Fits, AreFit, no_value}
use Rattle.gx_actual.specs.Bodies.{field_bytes, body_of}
use Rattle.gx_mapping.proofs.FieldLemmas.{fit_at, fit_length}
use Rattle.gx_encode.specs.Codes.{code_of, IsCodable}
use Rattle.gx_encode.specs.Forms.{changed}
use Rattle.gx_encode.specs.Rules.{coded}
use Rattle.gx_encode.specs.PackLaws.{short_pack}
use Rattle.gx_encode.specs.Runs.{runs_of, joined, AreShort, IsCoded}
use Rattle.gx_encode.specs.RunLaws.{runs_joined, short_rle}
use Rattle.gx_codec.specs.Stored.{code_at, stored_value, stored_values, HasCode, HaveCodes, IsWithCode}
use Rattle.gx_codec.specs.Layouts.{coded_slot}
use Rattle.gx_codec.proofs.LayoutLemmas.{front_there, coded_laid, coded_have, nothing_stored}

-- ---- one more code

-- one more field that is told of and has none
pub none_values : (cs : List (Option Code)) (vs : List Value)
    → stored_values (cs ++ None ∷ []) vs ≡ stored_values cs vs
none_values [] [] = refl
none_values [] (v ∷ vs) = refl
none_values (c ∷ cs) [] = refl
none_values (c ∷ cs) (v ∷ vs) = ap (λ (ws : List Value). stored_value c v ∷ ws) (none_values cs vs)

pub none_have : (cs : List (Option Code)) (vs : List Value) → HaveCodes cs vs
    → HaveCodes (cs ++ None ∷ []) vs
none_have [] [] have = tt
none_have [] (v ∷ vs) have = (tt, tt)
none_have (c ∷ cs) [] have = tt
none_have (c ∷ cs) (v ∷ vs) have = (have.0, none_have cs vs have.1)

set_values : (cs : List (Option Code)) (i : ℕ) (c : Code) (vs : List Value) → i < length cs
    → get_or cs i None ≡ None
    → stored_values (set cs i (Some c)) vs ≡ changed i (coded c) (stored_values cs vs)
set_values [] i c vs lt is = absurd (omega arith)
set_values (x ∷ cs) zero c [] lt is = refl
set_values (x ∷ cs) zero c (v ∷ vs) lt is =
    λ j. coded c (stored_value (sym is j) v) ∷ stored_values cs vs
set_values (x ∷ cs) (suc i) c [] lt is = refl
set_values (x ∷ cs) (suc i) c (v ∷ vs) lt is =
    ap (λ (ws : List Value). stored_value x v ∷ ws) (set_values cs i c vs (omega arith) is)

set_have : (cs : List (Option Code)) (i : ℕ) (c : Code) (vs : List Value) → i < length cs
    → get_or cs i None ≡ None → HaveCodes cs vs
    → IsCodable c (get_or (stored_values cs vs) i no_value) → HaveCodes (set cs i (Some c)) vs
set_have [] i c vs lt is have code = absurd (omega arith)
set_have (x ∷ cs) zero c [] lt is have code = tt
set_have (x ∷ cs) zero c (v ∷ vs) lt is have code =
    (subst (λ (o : Option Code). IsCodable c (stored_value o v)) is code, have.1)
set_have (x ∷ cs) (suc i) c [] lt is have code = tt
set_have (x ∷ cs) (suc i) c (v ∷ vs) lt is have code =
    (have.0, set_have cs i c vs (omega arith) is have.1 code)

pub none_there : (cs : List (Option Code)) (i : ℕ) (c : Option Code) → c ≡ get_or cs i c
    → is_some c ≡ false → get_or cs i None ≡ None
none_there cs i None read is = sym read
none_there cs i (Some c) read is = absurd (true≢false is)

-- told of as the same codes
pub record IsSame (cs ds : List (Option Code)) : Type 0 where
  pub values : (vs : List Value) → stored_values ds vs ≡ stored_values cs vs
  pub have : (vs : List Value) → HaveCodes cs vs → HaveCodes ds vs

pub same_more : (cs ds es : List (Option Code)) → IsSame cs ds → es ≡ ds ++ None ∷ [] → IsSame cs es
same_more cs ds es same is = subst (IsSame cs) (sym is) (record {
  values = λ vs. none_values ds vs ∙ same.values vs;
  have = λ vs have. none_have ds vs (same.have vs have);
})

pub one_more : (cs ds es : List (Option Code)) (i : ℕ) (c : Code) → IsSame cs ds → i < length ds
    → get_or ds i None ≡ None → es ≡ set ds i (Some c) → IsWithCode cs i c es
one_more cs ds es i c same lt none is = subst (IsWithCode cs i c) (sym is) (record {
  some = λ e. (let n = ap length e in omega (arith, n, length-set ds i (Some c), lt));
  values = λ vs. set_values ds i c vs lt none ∙ ap (changed i (coded c)) (same.values vs);
  have = λ vs have code. set_have ds i c vs lt none (same.have vs have)
      (subst (λ (ws : List Value). IsCodable c (get_or ws i no_value)) (sym (same.values vs)) code);
})

-- ---- the values of a body

-- a code is short
pub code_short : (c : Code) (v : Value) → IsCodable c v → length (code_of c v) ≤ 65535
code_short code.Pack (value.Int n) is = omega (arith, short_pack n)
code_short code.Pack (value.Text text) is = absurd is
code_short code.Pack (value.Bytes bytes) is = absurd is
code_short code.Rle (value.Int n) is = absurd is
code_short code.Rle (value.Text text) is = omega (arith, short_rle text, is)
code_short code.Rle (value.Bytes bytes) is = absurd is

pub code_read : (cs : List (Option Code)) (i : ℕ) (c : Option Code) → i < length cs
    → c ≡ get_or cs i c → c ≡ code_at cs i
code_read [] i c lt is = absurd (omega arith)
code_read (d ∷ cs) zero c lt is = is
code_read (d ∷ cs) (suc i) c lt is = code_read cs i c (omega arith) is

pub code_past : (cs : List (Option Code)) (i : ℕ) → length cs ≤ i → None ≡ code_at cs i
code_past [] i le = refl
code_past (d ∷ cs) zero le = absurd (omega arith)
code_past (d ∷ cs) (suc i) le = code_past cs i (omega arith)

-- the value of a field, stored by its code if it has one, and what follows it
pub record StoredAt (f : Field) (c : Option Code) (cs : List (Option Code)) (vs : List Value)
    (i : ℕ) (rest : List ℕ) : Type 0 where
  pub value : Value
  pub fits : Fits f.kind value
  pub has : HasCode c value
  pub front : rest ≡ field_bytes (stored_value c value) ++ body_of
      (stored_values (drop (i + 1) cs) (drop (i + 1) vs))
  pub more : take (i + 1) vs ≡ take i vs ++ value ∷ []

pub stored_there : (fs : List Field) (cs : List (Option Code)) (vs : List Value) (i : ℕ) (f : Field)
    (c : Option Code) (rest : List ℕ) → AreFit fs vs → HaveCodes cs vs → i < length fs
    → f ≡ get_or fs i f → c ≡ code_at cs i
    → rest ≡ body_of (stored_values (drop i cs) (drop i vs)) → StoredAt f c cs vs i rest
stored_there fs cs vs i f c rest fit have lt item code is =
    let long : i < length vs = omega (arith, lt, fit_length fs vs fit) in
    let at = front_there (coded_slot cs) vs i rest (coded_have cs 0 vs have) long
    (is ∙ ap body_of (sym (coded_laid cs i (drop i vs)))) c (ap Some (sym code)) in
    record {
      value = get_or vs i no_value;
      fits = subst (λ (g : Field). Fits g.kind (get_or vs i no_value)) (sym item)
          (fit_at i fs vs f no_value fit lt);
      has = at.0;
      front = at.1 ∙ ap (λ (l : List Value). field_bytes (stored_value c (get_or vs i no_value))
          ++ body_of l) (coded_laid cs (i + 1) (drop (i + 1) vs));
      more = take_more vs i no_value long;
    }

-- past the last field all values are read, and nothing follows
pub all_read : (fs : List Field) (cs : List (Option Code)) (vs read : List Value) (i : ℕ)
    (rest : List ℕ) → AreFit fs vs → length fs ≤ i
    → rest ≡ body_of (stored_values (drop i cs) (drop i vs)) → read ≡ take i vs
    → (rest ≡ []) × (read ≡ vs)
all_read fs cs vs read i rest fit le left is =
    let past : length vs ≤ i = omega (arith, fit_length fs vs fit, le) in (
      left ∙ ap (λ (l : List Value). body_of (stored_values (drop i cs) l)) (drop_all i vs past)
          ∙ ap body_of (nothing_stored (drop i cs)),
      is ∙ take_all i vs past,
    )

-- ---- texts

short_runs : (runs : List (ℕ × ℕ)) → length (joined runs) ≤ 200 → AreShort runs
short_runs [] few = tt
short_runs (r ∷ runs) few =
    let all = length-append (replicate r.0 r.1) (joined runs) in
    let here = length-replicate r.0 r.1 in
    (omega (arith, all, here, few), short_runs runs (omega (arith, all, here, few)))

pub text_coded : (most : ℕ) (text : List ℕ) → Fits (kind.Text most) (value.Text text)
    → length text ≤ 200 → IsCoded most text
text_coded most text fits few =
    record {
      fits = fits;
      short =
          short_runs (runs_of text)
          (subst (λ (n : ℕ). n ≤ 200) (ap length (sym (runs_joined text))) few);
    }
