-- The files and the links that were found, one after the other, and the state that they are.
use Rattle.std.proofs.Common.{◌≡◌, ◌<◌, ◌+◌, ℕ, List, [], ◌∷◌, ◌++◌, length, map, get_or, Some, None, inl, inr, refl, sym, subst, ◌∙◌, arith, length-append}
use Rattle.std.specs.FinMap as fin
use Rattle.std.proofs.lemmas.List.{get_or_push, get_or_append_left, get_or-map, length-map, ext_get_or}
use Rattle.gx_laws.proofs.NumberLemmas.{nat_cases}
use Rattle.gx_values.specs.declared.values.Value.{Value}
use Rattle.gx_schema.specs.declared.schema.FileDef.{FileDef}
use Rattle.gx_schema.specs.declared.schema.Schema.{Schema}
use Rattle.gx_schema.specs.Lookups.{file_at}
use Rattle.gx_ports.specs.LeafMaps.{LeafMap}
use Rattle.gx_stack.specs.declared.node.Node.{Node}
use Rattle.gx_stack.specs.Tree.{Tree}
use Rattle.gx_types.specs.declared.any.AnyMapping.{AnyMapping}
use Rattle.gx_types.specs.declared.built.Built.{Built}
use Rattle.gx_types.specs.Nodes.{tree_at}
use Rattle.gx_model.specs.States.{File, Link, State}
use Rattle.gx_scan.specs.Files.{IsInternal}
use Rattle.gx_states.specs.Internal.{AreInternal, AreFor, HaveState}
use Rattle.gx_states.proofs.LinkLemmas.{file_is}
use Rattle.gx_audit.proofs.KeyLemmas.{keys_told}
use Rattle.gx_audit.specs.Audits.{keys_of, AreFirstFiles, AreFiles, AreAllKeys, IsLinkAt, AreFirstLinks, AreLinks, ArePairCounts, IsFound}

-- ---- lists with one item more

-- what is true of the first items, and of one more
each_more : {A : Type 0} (P : ℕ → A → Type 0) (none : A) (n : ℕ) (xs : List A) (x : A)
    → length xs ≡ n
    → ((i : ℕ) → i < n → P i (get_or xs i none)) → P n x → (i : ℕ) → i < n + 1
    → P i (get_or (xs ++ x ∷ []) i none)
each_more P none n xs x many each one i lt = elim (nat_cases i n) [
  | inl e ↦ subst (P i) (sym (get_or_push xs x none i (many ∙ sym e)))
      (subst (λ j. P j x) (sym e) one)
  | inr ne ↦ let below : i < n =
      omega (arith, lt, ne) in
      subst (P i) (sym (get_or_append_left xs (x ∷ []) none i (omega (arith, below, many))))
      (each i below)
]

-- ---- files

-- of a file, its tree and the maps under other names
pub internal_as : (file other : FileDef) (t u : Tree AnyMapping) (maps now : List LeafMap)
    (f : File) → other ≡ file → u ≡ t → now ≡ maps
    → IsInternal file t maps f → IsInternal other u now f
internal_as file other t u maps now f e d m is =
    subst (λ x. IsInternal x u now f) (sym e)
    (subst (λ (x : Tree AnyMapping). IsInternal file x now f) (sym d)
    (subst (λ (x : List LeafMap). IsInternal file t x f) (sym m) is))

module _ (schema : Schema) (nodes : List (Node AnyMapping)) (maps : List LeafMap) where
  pub no_files : AreFirstFiles schema nodes maps 0 []
  no_files = record { many = refl; each = λ i lt. absurd (omega arith) }

  pub file_more : (n : ℕ) (fs : List File) (f : File) → AreFirstFiles schema nodes maps n fs
      → IsInternal (file_at schema n) (tree_at nodes n) maps f
      → AreFirstFiles schema nodes maps (n + 1) (fs ++ f ∷ [])
  file_more n fs f are is = record {
    many = omega (arith, are.many, length-append fs (f ∷ []));
    each = each_more (λ i g. IsInternal (file_at schema i) (tree_at nodes i) maps g) fin.empty n fs
        f are.many are.each is;
  }

-- ---- links

module _ (schema : Schema) (built : Built) (maps : List LeafMap) (fs : List File) where
  pub no_links : AreFirstLinks schema built maps fs 0 []
  no_links = record { many = refl; each = λ i lt. absurd (omega arith) }

  pub link_more : (n : ℕ) (ls : List Link) (link : Link) → AreFirstLinks schema built maps fs n ls
      → IsLinkAt schema built maps fs n link
      → AreFirstLinks schema built maps fs (n + 1) (ls ++ link ∷ [])
  link_more n ls link are is = record {
    many = omega (arith, are.many, length-append ls (link ∷ []));
    each = each_more (λ i l. IsLinkAt schema built maps fs i l) fin.empty n ls link are.many
        are.each is;
  }

-- ---- states

module _ (schema : Schema) (built : Built) (leaves : ℕ) (maps : List LeafMap)
    (for : AreFor schema built leaves) where
  files_are : (s : State) → AreInternal schema built maps s
      → AreFiles schema built.files maps s.files
  files_are s are = record {
    many = are.valid.files_many;
    each = λ i lt. file_is schema built maps s i are lt;
  }

  links_are : (s : State) → AreInternal schema built maps s
      → AreLinks schema built maps s.files s.links
  links_are s are = record {
    many = are.valid.links_many;
    each =
        λ i lt. let v = are.valid.links i lt in
        record {
          valid = record { members = v.members; owners = v.owners; few = v.few };
          held = are.links i lt;
        };
  }

  -- the leaves tell the keys of each file
  same_keys : (fs gs : List File) → AreFiles schema built.files maps fs
      → AreFiles schema built.files maps gs
      → map keys_of fs ≡ map keys_of gs
  same_keys fs gs f g =
      ext_get_or [] (map keys_of fs) (map keys_of gs) (length-map fs keys_of ∙ f.many ∙ sym g.many
      ∙ sym (length-map gs keys_of)) (λ i lt.
      let there : i < length schema.files = omega (arith, lt, f.many, length-map fs keys_of) in
      get_or-map keys_of fs i fin.empty [] (omega (arith, there, f.many))
      ∙ keys_told (file_at schema i) (tree_at built.files i) maps (get_or fs i fin.empty)
      (get_or gs i fin.empty)
      (for.storable.files i there).keyed (for.nodes.valid i there) (for.nodes.form i there)
      (f.each i there) (g.each i there)
      ∙ sym (get_or-map keys_of gs i fin.empty [] (omega (arith, there, g.many))))

  pub no_state : (whole : Type 0) → AreAllKeys schema built.files whole maps None → whole
      → ¬ HaveState schema built maps
  no_state whole none w has = none w has.0.files (files_are has.0 has.1)

  -- the files are there, and the links aren't
  pub no_link_state : (whole : Type 0) (keys : List (List Value))
      → AreAllKeys schema built.files whole maps (Some keys)
      → ((fs : List File) → AreFiles schema built.files maps fs → keys ≡ map keys_of fs
      → ArePairCounts schema built whole maps fs None)
      → whole → ¬ HaveState schema built maps
  no_link_state whole keys found none w has =
      let fs = found w in
      none has.0.files (files_are has.0 has.1)
      (fs.2 ∙ same_keys fs.0 has.0.files fs.1 (files_are has.0 has.1)) w has.0.links
      (links_are has.0 has.1)

  pub state_found : (whole : Type 0) (keys : List (List Value)) (found : List ℕ)
      → AreAllKeys schema built.files whole maps (Some keys)
      → ((fs : List File) → AreFiles schema built.files maps fs → keys ≡ map keys_of fs
      → ArePairCounts schema built whole maps fs (Some found))
      → whole → IsFound schema built maps keys found
  state_found whole keys found read counts w =
      let fs = read w in
      let ls = counts fs.0 fs.1 fs.2 w in
      record {
        state = record { files = fs.0; links = ls.0 };
        is = record {
          valid = record {
            files_many = fs.1.many;
            links_many = ls.1.many;
            files = λ i lt. (fs.1.each i lt).fit;
            links = λ i lt. let v = (ls.1.each i lt).valid in
                record { members = v.members; owners = v.owners; few = v.few };
          };
          files = λ i lt. (fs.1.each i lt).held;
          links = λ i lt. (ls.1.each i lt).held;
        };
        keys_are = fs.2;
        counts_are = ls.2;
      }
