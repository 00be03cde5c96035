-- Links whose pairs are between records of files.
use Rattle.std.proofs.Common.{◌≡◌, ◌<◌, ℕ, List, length, map, get_or, Some, None, sym, ap, subst, ◌∙◌, arith}
use Rattle.std.specs.Prelude.{◌↔◌, is_some, IsTrue}
use Rattle.std.specs.List.Sorted.{IsStrictlySortedBy}
use Rattle.std.specs.FinMap as fin
use Rattle.std.proofs.lemmas.List.{get_or-map, length-map}
use Rattle.gx_values.specs.declared.values.Value.{Value}
use Rattle.gx_values.specs.Values.{value_cmp}
use Rattle.gx_schema.specs.declared.schema.LinkDef.{LinkDef}
use Rattle.gx_schema.specs.declared.schema.Schema.{Schema}
use Rattle.gx_schema.specs.Lookups.{file_at, link_at}
use Rattle.gx_ports.specs.LeafMaps.{LeafMap}
use Rattle.gx_mapping.specs.Rule.{In}
use Rattle.gx_mapping.proofs.RuleLemmas.{all_in}
use Rattle.gx_gather.proofs.Lists.{all_of}
use Rattle.gx_types.specs.declared.built.Built.{Built}
use Rattle.gx_links.specs.Links.{IsLink}
use Rattle.gx_links.specs.Pairs.{ArePairs}
use Rattle.gx_linksets.specs.declared.any.AnyLinkset.{AnyLinkset}
use Rattle.gx_linksets.specs.Any.{any_link_rule, any_link_laws, IsHeldBy, IsValidLinkset}
use Rattle.gx_linksets.specs.Stored.{rule_at, IsHeldAt}
use Rattle.gx_model.specs.States.{File, Link}
use Rattle.gx_states.specs.Internal.{AreFor}
use Rattle.gx_states.proofs.LinkLemmas.{key_fits, member_there, owner_there, as_many}
use Rattle.gx_audit.proofs.KeyLemmas.{there, in_keys, keys_sorted}
use Rattle.gx_audit.specs.Audits.{keys_of, AreFiles, AreAmong, with_files, IsLinkAt, IsPairCount}

-- ---- keys

-- the keys that stand at the place of a file
pub keys_at : (keys : List (List Value)) (fs : List File) (i j : ℕ) (ks : List Value)
    → keys ≡ map keys_of fs → i ≡ j → j < length keys
    → ks ≡ get_or keys i ks → ks ≡ keys_of (get_or fs j fin.empty)
keys_at keys fs i j ks are same lt is =
    let there : j < length fs =
    omega (arith, lt, ap (λ (xs : List (List Value)). length xs) are, length-map fs keys_of) in
    is ∙ (λ k. get_or (are k) (same k) ks) ∙ get_or-map keys_of fs j fin.empty ks there

-- ---- one link

module _ (schema : Schema) (built : Built) (leaves : ℕ) (for : AreFor schema built leaves)
    (maps : List LeafMap) (fs : List File)
    (files : AreFiles schema built.files maps fs) (i : ℕ) (lt : i < length schema.links)
    (l : AnyLinkset) (rule_is : any_link_rule l ≡ rule_at schema built.links i)
    (valid : IsValidLinkset l)
    (held : (link : Link) (ms : List LeafMap) → IsHeldAt built.links i link ms ↔ IsHeldBy l link ms)
    (members owners : List Value)
    (members_are : members ≡ keys_of (get_or fs (link_at schema i).member fin.empty))
    (owners_are : owners ≡ keys_of (get_or fs (link_at schema i).owner fin.empty))
    (whole : Type 0) where
  abbrev def : LinkDef
  def = link_at schema i

  abbrev member_file : File
  member_file = get_or fs def.member fin.empty

  abbrev owner_file : File
  owner_file = get_or fs def.owner fin.empty

  -- a valid link is one that nodes can hold
  is_link : (link : Link) → IsLinkAt schema built maps fs i link
      → IsLink (any_link_rule l).owner (any_link_rule l).member link
  is_link link is =
      let storable = for.storable.links i lt in
      subst (λ r. IsLink r.owner r.member link) (sym rule_is) (record {
        fit = λ m o e. (
          key_fits (file_at schema def.member) member_file m
              (files.each def.member storable.member).fit
              (member_there (with_files fs) def link m o is.valid e),
          key_fits (file_at schema def.owner) owner_file o (files.each def.owner storable.owner).fit
              (owner_there (with_files fs) def link m o is.valid e),
        );
        few = λ o. omega (arith, as_many link o, is.valid.few o);
      })

  pub no_pairs : ArePairs (any_link_rule l) (IsHeldBy l) whole maps None
      → IsPairCount schema built whole maps fs i None
  no_pairs none w link is = none w (link, is_link link is, (held link maps).0 is.held)

  pub pairs_among : (pairs : List (Value × Value))
      → ArePairs (any_link_rule l) (IsHeldBy l) whole maps (Some pairs)
      → AreAmong members owners pairs
      → IsPairCount schema built whole maps fs i (Some (length pairs))
  pairs_among pairs are among w =
      let a = are w in (
        a.link,
        record {
          valid = record {
            members =
                all_of (λ (p : Value × Value). IsTrue (is_some (fin.get member_file p.0)))
                (fin.entries a.link)
                (λ p h. there member_file p.0
                (subst (In p.0) members_are (among p (subst (In p) (sym a.those) h)).0));
            owners =
                all_of (λ (p : Value × Value). IsTrue (is_some (fin.get owner_file p.1)))
                (fin.entries a.link)
                (λ p h. there owner_file p.1
                (subst (In p.1) owners_are (among p (subst (In p) (sym a.those) h)).1));
            few = λ o. omega (arith, as_many a.link o, a.is_link.few o);
          };
          held = (held a.link maps).1 a.is_held;
        },
        ap (λ (ps : List (Value × Value)). length ps) a.those ∙ sym (fin.len-entries a.link),
      )

  pub pairs_apart : (pairs : List (Value × Value))
      → ArePairs (any_link_rule l) (IsHeldBy l) whole maps (Some pairs)
      → (IsStrictlySortedBy value_cmp members → IsStrictlySortedBy value_cmp owners
      → ¬ AreAmong members owners pairs)
      → IsPairCount schema built whole maps fs i None
  pairs_apart pairs are apart w link is =
      let a = are w in
      let same : a.link ≡ link =
      (any_link_laws l valid).told a.link link maps a.is_link (is_link link is) a.is_held
      ((held link maps).0 is.held) in
      let entries : pairs ≡ fin.entries link = a.those ∙ ap fin.entries same in
      apart (subst (IsStrictlySortedBy value_cmp) (sym members_are) (keys_sorted member_file))
      (subst (IsStrictlySortedBy value_cmp) (sym owners_are) (keys_sorted owner_file)) (λ p h.
      let there_in = subst (In p) entries h in (
        subst (In p.0) (sym members_are)
            (in_keys member_file p.0
            (all_in (λ (q : Value × Value). IsTrue (is_some (fin.get member_file q.0)))
            (fin.entries link) p is.valid.members there_in)),
        subst (In p.1) (sym owners_are)
            (in_keys owner_file p.1
            (all_in (λ (q : Value × Value). IsTrue (is_some (fin.get owner_file q.1)))
            (fin.entries link) p is.valid.owners there_in)),
      ))
