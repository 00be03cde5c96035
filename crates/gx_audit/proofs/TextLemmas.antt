-- Lines, one after the other, and what stands in them.
use Rattle.std.proofs.Common.{◌≡◌, ◌<◌, ◌+◌, ℕ, suc, List, ◌++◌, length, map, get_or, sym, ap, ◌∙◌, arith}
use Rattle.std.specs.FinMap as fin
use Rattle.std.proofs.lemmas.List.{get_or-map, get_or_read, length-map}
use Rattle.gx_values.specs.declared.values.Value.{Value}
use Rattle.gx_schema.specs.declared.schema.FileDef.{FileDef}
use Rattle.gx_schema.specs.declared.schema.LinkDef.{LinkDef}
use Rattle.gx_schema.specs.declared.schema.Schema.{Schema}
use Rattle.gx_schema.specs.Lookups.{no_file, no_link, file_at, link_at}
use Rattle.gx_model.specs.States.{State, file_in, link_in}
use Rattle.gx_audit.specs.Audits.{keys_of}
use Rattle.gx_audit.specs.Texts.{lines_below}

pub lines_more : (line : ℕ → List ℕ) (n : ℕ)
    → lines_below line (n + 1) ≡ lines_below line n ++ line n
lines_more line n = let next : n + 1 ≡ suc n = omega arith in ap (lines_below line) next

-- ---- names

-- the name of a file, and that of a link
pub file_name : (schema : Schema) (i : ℕ) (f : FileDef) → i < length schema.files
    → f ≡ get_or schema.files i f → f.name ≡ (file_at schema i).name
file_name schema i f lt is =
    ap (λ (x : FileDef). x.name) (get_or_read schema.files i f lt is no_file)

pub link_name : (schema : Schema) (i : ℕ) (l : LinkDef) → i < length schema.links
    → l ≡ get_or schema.links i l → l.name ≡ (link_at schema i).name
link_name schema i l lt is =
    ap (λ (x : LinkDef). x.name) (get_or_read schema.links i l lt is no_link)

-- ---- counts

pub records_counted : (keys : List (List Value)) (s : State) (i : ℕ) (ks : List Value)
    → i < length keys → keys ≡ map keys_of s.files
    → ks ≡ get_or keys i ks → length ks ≡ fin.len (file_in s i)
records_counted keys s i ks lt are is =
    let f = file_in s i in
    let there : i < length s.files =
    omega (arith, lt, ap (λ (xs : List (List Value)). length xs) are, length-map s.files keys_of) in
    let same : ks ≡ keys_of f = is ∙ ap (λ (xs : List (List Value)). get_or xs i ks) are
    ∙ get_or-map keys_of s.files i fin.empty ks there in
    ap (λ (xs : List Value). length xs) same ∙ length-map (fin.entries f) (λ row. row.0)
    ∙ sym (fin.len-entries f)

pub members_counted : (counts : List ℕ) (s : State) (i n : ℕ) → i < length counts
    → counts ≡ map fin.len s.links → n ≡ get_or counts i n
    → n ≡ fin.len (link_in s i)
members_counted counts s i n lt are is =
    let there : i < length s.links =
    omega (arith, lt, ap (λ (xs : List ℕ). length xs) are, length-map s.links fin.len) in
    is ∙ ap (λ (xs : List ℕ). get_or xs i n) are ∙ get_or-map fin.len s.links i fin.empty n there
