use Rattle.std.proofs.Common.{◌≡◌, true, refl, sym, ap, subst, ◌∙◌, ◌<◌, arith, length}
use Rattle.gx_equation.specs.Seen.{definitions_of}
use Rattle.gx_typing.specs.declared.typing.Typing.{Typing}
use Rattle.gx_states.proofs.StartLemmas.{are_storable}
use Rattle.gx_leaves.specs.Kinds.{are_built}
use Rattle.gx_requests.proofs.LeafLemmas.{leaves_built, some_leaves, all_owned}
use Rattle.gx_requests.proofs.opened.build_stored.Goals as goal

pub returns-clause-built : goal.returns-clause-built
returns-clause-built c = record {
  schema_is = refl;
  specs_are = sym (ap (λ (t : Typing). t.specs) c.in_ok-built.ensures.leaves);
  owners_are = sym (ap (λ (t : Typing). t.owners) c.in_ok-built.ensures.leaves);
  trees = record {
    files = c.in_ok-built.ensures.trees;
    links = c.in_ok-built.ensures.link_trees;
    owned =
        all_owned c.args.checked.schema (definitions_of c.args.checked.equation.definitions)
        c.args.checked.typing c.in_ok-built.built.specs c.in_ok-built.built.owners
        c.requires.typed c.requires.leaves_are c.in_ok-built.ensures.leaves
        c.in_ok-built.ensures.owned.each;
  };
  schema_text_is = c.in_ok-schema_text.ensures.exact;
  equation_text_is = c.in_ok-equation_text.ensures.text;
}

pub returns-clause-stored : goal.returns-clause-stored
returns-clause-stored c =
    let schema = c.args.checked.schema in
    let ds = definitions_of c.args.checked.equation.definitions in
    record {
      can_play = (
        record {
          storable = are_storable schema c.requires.rules;
          nodes = c.in_ok-built.ensures.nodes;
          link_nodes = c.in_ok-built.ensures.link_nodes;
          owned = c.in_ok-built.ensures.owned;
          few = c.in_ok-built.ensures.few;
        },
        c.requires.well_formed,
      );
      short = omega (
        arith,
        c.requires.short,
        ap (λ t. length t) c.in_ok-schema_text.ensures.exact,
        ap
            (λ t. length t) c.in_ok-equation_text.ensures.text,
      );
      some = subst (λ ks. 0 < length ks) (ap (λ (t : Typing). t.specs)
          (sym c.requires.leaves_are ∙ c.in_ok-built.ensures.leaves))
          (some_leaves schema ds c.requires.rules c.requires.written c.requires.typed);
      kinds = subst (λ ks. are_built ks ≡ true)
          (ap (λ (t : Typing). t.specs) (sym c.requires.leaves_are ∙ c.in_ok-built.ensures.leaves))
          (leaves_built schema ds c.requires.written);
    }
