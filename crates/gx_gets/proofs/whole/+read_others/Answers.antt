use Rattle.std.proofs.Common.{◌≡◌, ◌∷◌, ◌-◌, ◌∙◌, List, length, take, drop, inr, sym, ap, subst, arith}
use Rattle.gx_gather.proofs.Lists.{in_read}
use Rattle.gx_mapping.specs.Rule.{In}
use Rattle.gx_stack.proofs.PassLemmas.{read_passes}
use Rattle.gx_access.specs.declared.access.Fragment.{Fragment}
use Rattle.gx_access.proofs.CompileSteps.{split_first}
use Rattle.gx_gets.proofs.whole.+read_others.Goals as goal

pub read_fragment-requires-clause-readable : goal.read_fragment-requires-clause-readable
read_fragment-requires-clause-readable g t c =
    (c.requires.readable c.fragment-item.result (in_read c.args.fragments.now 0
    c.fragment-item.result c.fragment-item.is (omega (arith, c.in-len1-up.len_at_least)))).0

pub read_fragment-requires-clause-leaf : goal.read_fragment-requires-clause-leaf
read_fragment-requires-clause-leaf g t c =
    (c.requires.readable c.fragment-item.result (in_read c.args.fragments.now 0
    c.fragment-item.result c.fragment-item.is (omega (arith, c.in-len1-up.len_at_least)))).1

pub read_others-requires : goal.read_others-requires
read_others-requires g t c κs within =
    let fs = c.args.fragments.now in
    let others : List Fragment = take (length fs - 1) (drop 1 fs) in
    let split : fs ≡ c.fragment-item.result ∷ others =
    split_first fs c.fragment-item.result c.in-len1-up.len_at_least c.fragment-item.is in
    let passed = read_passes g.B.View c.in_ok-read_fragment.ensures.reads in (
      omega (arith, c.decreases, ap length split),
      (
        within,
        (
          c.requires.short,
          (
            λ f h.
                let all = c.requires.readable f (subst (In f) (sym split) (inr h)) in (
                  all.0,
                  omega (arith, all.1, ap length passed.reads.working),
                ),
            c.read_fragment.ensures.same_length ∙ c.requires.long,
          ),
        ),
      ),
    )
