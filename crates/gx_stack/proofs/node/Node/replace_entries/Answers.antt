use Rattle.std.proofs.Common.{rules, ◌<◌, ◌∙◌, Err, ap, sym, subst, length}
use Rattle.std.proofs.lemmas.Result.{on_ok_weaker, err_from_is_err_and}
use Rattle.gx_mapping.specs.Rule.{In}
use Rattle.gx_stack.specs.Tree.{leaves_of}
use Rattle.gx_stack.specs.Seen.{tree_of}
use Rattle.gx_stack.specs.Internal.{AreSmall, IsRemoved, IsPut, entries_if}
use Rattle.gx_stack.proofs.Children.{union_from_internal}
use Rattle.gx_stack.proofs.Replaced.{all_small, entries_leaf, replaced}
use Rattle.gx_stack.proofs.node.Node.replace_entries.Goals as goal

pub remove_others-requires : goal.remove_others-requires
remove_others-requires g c =
    let t = tree_of c.args.self.now in
    let k = length (g.B.View.working c.args.leaves.now) in
    record {
      small = subst (AreSmall k) (sym c.requires.gone.2)
          (all_small g.M.Mapping.rule t g.met.M.Mapping.laws c.requires.gone.0 k c.requires.valid
          c.requires.gone.1 c.requires.below);
    }

pub put_new-requires : goal.put_new-requires
put_new-requires g c =
    let t = tree_of c.args.self.now in
    let k = length (g.B.View.working c.remove_others.new.leaves) in
    record {
      small = subst (AreSmall k) (sym (c.deref-2.ensures.value ∙ c.in_ok-come.ensures))
          (all_small g.M.Mapping.rule t g.met.M.Mapping.laws c.args.new k c.requires.valid
          c.requires.new_fits
          (λ n h. subst (λ j. n < j) (sym c.in_ok-remove_others.ensures.keeps.leaves)
          (c.requires.below n h)));
    }

pub returns-in_err-remove_others-clause-replaces : goal.returns-in_err-remove_others-clause-replaces
returns-in_err-remove_others-clause-replaces g c =
    let t = tree_of c.args.self.now in
    let p = err_from_is_err_and c.from_residual-in_err-remove_others.result
    c.from_residual-in_err-remove_others.ensures.1 in
    record {
      others = λ n whole fault away. c.in_err-remove_others.ensures.others whole
          (λ f. fault (p.1 ∙ ap Err p.2 ∙ f)) n
          (λ e h is. away (subst (λ k. In k (leaves_of t)) is
          (entries_leaf g.M.Mapping.rule t c.requires.gone.0 e
          (subst (In e) c.requires.gone.2 h))));
      count = search rules;
      keeps = search rules;
      work = search rules;
      ends = search rules;
      full = search rules;
      full_of_new = search rules;
    }

pub returns-clause-replaces : goal.returns-clause-replaces
returns-clause-replaces g c =
    let t = tree_of c.args.self.now in
    record {
      others = λ n whole fault away.
          c.put_new.ensures.others (c.in_ok-remove_others.ensures.ends.whole whole) fault n
          (λ e h is. away (subst (λ k. In k (leaves_of t)) is
          (entries_leaf g.M.Mapping.rule t c.args.new e
          (subst (In e) (c.deref-2.ensures.value ∙ c.in_ok-come.ensures) h))))
          ∙ c.in_ok-remove_others.ensures.others whole (λ f. cc) n
          (λ e h is. away (subst (λ k. In k (leaves_of t)) is
          (entries_leaf g.M.Mapping.rule t c.requires.gone.0 e
          (subst (In e) c.requires.gone.2 h))));
      count = search rules;
      keeps = search rules;
      work = search rules;
      ends = search rules;
      full = search rules;
      full_of_new = search rules;
    }

pub returns-clause-internal : goal.returns-clause-internal
returns-clause-internal g c = λ R old whole gone set change is.
    let rule = g.M.Mapping.rule in
    let t = tree_of c.args.self.now in
    let b = g.B.View in
    let new = c.args.new in
    let maps = b.working c.args.leaves.now in
    let between = b.working c.remove_others.new.leaves in
    let after = b.working c.put_new.new.leaves in
    let done = c.in_ok-remove_others.ensures.done whole in
    let removed : IsRemoved (entries_if rule t old) (entries_if rule t new) maps between =
    subst (λ es. IsRemoved es (entries_if rule t new) maps between) gone
    (subst (λ es. IsRemoved c.args.gone.now es maps between) (c.deref.ensures.value
    ∙ c.in_ok-come.ensures) done) in
    on_ok_weaker c.put_new.result (λ d.
    let put : IsPut (entries_if rule t old) (entries_if rule t new) between after =
    subst (λ es. IsPut es (entries_if rule t new) between after) gone
    (subst (λ es. IsPut c.args.gone.now es between after) (c.deref-2.ensures.value
    ∙ c.in_ok-come.ensures) d) in
    replaced rule g.met.M.Mapping.laws t c.requires.valid R set old new c.requires.new_fits change
    maps between after c.requires.below removed put (union_from_internal rule t R maps is))
    (c.put_new.ensures.done (c.in_ok-remove_others.ensures.ends.whole whole))
