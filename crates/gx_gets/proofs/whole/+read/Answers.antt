use Rattle.std.proofs.Common.{◌≡◌, ◌-◌, ◌∙◌, ◌<◌, ℕ, List, length, map, take, drop, get_or, Ok, sym, ap, subst, arith}
use Rattle.gx_values.specs.Values.{no_value}
use Rattle.gx_gather.proofs.Lists.{in_left, in_right}
use Rattle.gx_mapping.specs.Rule.{In}
use Rattle.gx_stack.proofs.PassLemmas.{read_passes}
use Rattle.gx_access.specs.declared.access.Access.{Access}
use Rattle.gx_access.specs.declared.access.Chooser.{Chooser}
use Rattle.gx_access.specs.declared.access.Chooser.TheVariants.{OfKey}
use Rattle.gx_access.specs.Access.{Only, By, choice}
use Rattle.gx_access.specs.Leaves.{choice_leaves, choices_leaves}
use Rattle.gx_access.specs.Seen.{choice_of, choices_from}
use Rattle.gx_access.proofs.CompileSteps.{split_first, seen_only}
use Rattle.gx_gets.specs.Whole.{IsReader, AreReaders, choice_count}
use Rattle.gx_gets.proofs.HeldSteps.{choice_at, child_leaf, read_child, count_below}
use Rattle.gx_gets.proofs.WholeSteps.{choice_size, choices_size, first_stopped, one_stopped, All}
use Rattle.gx_gets.proofs.AccessSteps.{seen_by, seen_each, all_counted, choice_there, child_smaller, ByChoice, ByEach, child_read, each_read, found_some, found_none}
use Rattle.gx_gets.proofs.whole.+read.Goals as goal

pub read_access-read_fragments-requires-clause-below :
    goal.read_access-read_fragments-requires-clause-below
read_access-read_fragments-requires-clause-below g t c =
    let seen : choice_of c.args.access.now ≡ Only c.as_slice.result.now =
    ap choice_of c.in-Only.is ∙ seen_only c.in-Only.fragments
    ∙ ap Only (sym (c.as_slice.ensures.value ∙ c.fragments.view_is)) in
    subst (λ ch. (n : ℕ) → In n (choice_leaves ch) → n < length (g.B.View.working c.args.leaves.now))
    seen c.requires.below

pub read_access-read_access-requires : goal.read_access-read_access-requires
read_access-read_access-requires g t c κs within =
    let arm = c.in-By in
    let all : List Access = arm.accesses.items in
    let cs = choices_from (map choice_of all) in
    let k = c.child_in-child.result in
    let seen : choice_of c.args.access.now ≡ By arm.chooser arm.bounds cs =
    ap choice_of arm.is ∙ seen_by arm.chooser arm.bounds arm.accesses in
    let low : k < length all =
    omega (arith, c.if-child-len.true, c.len.ensures, arm.accesses.ok.0) in
    let count : k < choice_count cs = omega (arith, low, all_counted all) in
    let child : choice_at cs k ≡ choice_of c.index.result.now =
    choice_there all k c.index.result.now low ∙ ap choice_of (sym c.index.ensures) in
    let readers : IsReader c.args.form.now (By arm.chooser arm.bounds cs) =
    subst (IsReader c.args.form.now) seen c.requires.reader in
    let leaves = subst (λ ch. (n : ℕ) → In n (choice_leaves ch)
    → n < length (g.B.View.working c.args.leaves.now)) seen c.requires.below in (
      omega (
        arith,
        c.decreases,
        ap choice_size seen,
        ap choice_size child,
        child_smaller cs k count,
      ),
      (
        within,
        (
          c.requires.short,
          (
            subst (IsReader c.args.form.now) child (read_child c.args.form.now _ _ cs k readers.3 count),
            λ n h. leaves n (child_leaf cs k n (subst (λ ch. In n (choice_leaves ch)) (sym child) h)),
          ),
        ),
      ),
    )

pub read_access-read_each-requires : goal.read_access-read_each-requires
read_access-read_each-requires g t c κs within =
    let arm = c.in-By in
    let slice = c.as_slice-in-OfData in
    let seen = seen_each c.args.access.now arm.accesses slice.result.now arm.is slice.ensures.value
    in (
      omega (arith, c.decreases, ap choice_size seen),
      (
        within,
        (
          c.requires.short,
          (
            (subst (IsReader c.args.form.now) seen c.requires.reader).3,
            subst (λ ch. (n : ℕ) → In n (choice_leaves ch)
                → n < length (g.B.View.working c.args.leaves.now)) seen c.requires.below,
          ),
        ),
      ),
    )

pub read_access-returns-in-Only : goal.read_access-returns-in-Only
read_access-returns-in-Only g t c =
    let seen : choice_of c.args.access.now ≡ Only c.as_slice.result.now =
    ap choice_of c.in-Only.is ∙ seen_only c.in-Only.fragments
    ∙ ap Only (sym (c.as_slice.ensures.value ∙ c.fragments.view_is)) in
    subst (λ ch. ByChoice g.B.View c.args.form.now c.args.key.now c.args.span.now ch
    c.args.leaves.now c.read_fragments.new.leaves c.read_fragments.result) (sym seen)
    (c.read_fragments.ensures c.args.key.now)

pub read_access-returns-then-child-len : goal.read_access-returns-then-child-len
read_access-returns-then-child-len g t c =
    let form = c.args.form.now in
    let key = c.args.key.now in
    let span = c.args.span.now in
    let old = c.args.leaves.now in
    let new = c.read_access.new.leaves in
    let result = c.read_access.result in
    let arm = c.in-By in
    let all : List Access = arm.accesses.items in
    let cs = choices_from (map choice_of all) in
    let k = c.child_in-child.result in
    let n = c.from.result in
    let of_key : arm.chooser ≡ OfKey n = c.in-OfKey.is ∙ ap OfKey (sym c.from.ensures) in
    let seen : choice_of c.args.access.now ≡ By (OfKey n) arm.bounds cs =
    ap choice_of arm.is ∙ seen_by arm.chooser arm.bounds arm.accesses
    ∙ ap (λ (chooser : Chooser). By chooser arm.bounds cs) of_key in
    let low : k < length all =
    omega (arith, c.if-child-len.true, c.len.ensures, arm.accesses.ok.0) in
    let child : choice_at cs k ≡ choice_of c.index.result.now =
    choice_there all k c.index.result.now low ∙ ap choice_of (sym c.index.ensures) in
    subst (λ ch. ByChoice g.B.View form key span ch old new result) (sym seen)
    (child_read g.B.View form key span n arm.bounds cs k old new result c.child_in-child.ensures
    (subst (λ ch. ByChoice g.B.View form key span ch old new result) (sym child)
    c.read_access.ensures))

pub read_access-returns-else-child-len : goal.read_access-returns-else-child-len
read_access-returns-else-child-len g t c =
    let arm = c.in-By in
    let all : List Access = arm.accesses.items in
    let cs = choices_from (map choice_of all) in
    let seen : choice_of c.args.access.now ≡ By arm.chooser arm.bounds cs =
    ap choice_of arm.is ∙ seen_by arm.chooser arm.bounds arm.accesses in
    let readers : IsReader c.args.form.now (By arm.chooser arm.bounds cs) =
    subst (IsReader c.args.form.now) seen c.requires.reader in
    absurd (omega (
      arith,
      c.if-child-len.false,
      c.len.ensures,
      arm.accesses.ok.0,
      all_counted all,
      readers.2,
      c.child_in-child.ensures,
      count_below arm.bounds (get_or c.args.key.now c.from.result no_value),
    ))

pub read_access-returns-in-OfData :
    goal.read_access-returns-in-OfData
read_access-returns-in-OfData g t c =
    let form = c.args.form.now in
    let key = c.args.key.now in
    let span = c.args.span.now in
    let old = c.args.leaves.now in
    let new = c.read_each.new.leaves in
    let result = c.read_each.result in
    let arm = c.in-By in
    let slice = c.as_slice-in-OfData in
    let cs = choices_from (map choice_of slice.result.now) in
    let seen = seen_each c.args.access.now arm.accesses slice.result.now arm.is slice.ensures.value
    in
    subst (λ ch. ByChoice g.B.View form key span ch old new result) (sym seen)
    (each_read g.B.View form key span arm.chooser _ cs old new result c.read_each.ensures)

pub read_each-read_access-requires : goal.read_each-read_access-requires
read_each-read_access-requires g t c κs within =
    let all = c.args.accesses.now in
    let a = c.access-item.result in
    let others : List Access = take (length all - 1) (drop 1 all) in
    let ds = choices_from (map choice_of others) in
    let seen : choices_from (map choice_of all) ≡ choice (choice_of a) ds =
    ap (λ (list : List Access). choices_from (map choice_of list))
    (split_first all a c.in-len1-up.len_at_least c.access-item.is) in
    let below = subst (λ cs. (n : ℕ) → In n (choices_leaves cs)
    → n < length (g.B.View.working c.args.leaves.now)) seen c.requires.below in (
      omega (arith, c.decreases, ap choices_size seen),
      (
        within,
        (
          c.requires.short,
          (
            (subst (AreReaders c.args.form.now) seen c.requires.readers).0,
            λ n h. below n (in_left n (choice_leaves (choice_of a)) (choices_leaves ds) h),
          ),
        ),
      ),
    )

pub read_each-returns-in_err-found : goal.read_each-returns-in_err-found
read_each-returns-in_err-found g t c =
    let form = c.args.form.now in
    let key = c.args.key.now in
    let span = c.args.span.now in
    let old = c.args.leaves.now in
    let new = c.read_access.new.leaves in
    let e = c.in_err-found.field-0.0 in
    let result = c.from_residual.result in
    let all = c.args.accesses.now in
    let a = c.access-item.result in
    let others : List Access = take (length all - 1) (drop 1 all) in
    let ds = choices_from (map choice_of others) in
    let seen : choices_from (map choice_of all) ≡ choice (choice_of a) ds =
    ap (λ (list : List Access). choices_from (map choice_of list))
    (split_first all a c.in-len1-up.len_at_least c.access-item.is) in
    subst (λ cs. ByEach g.B.View form key span cs old new result) (sym seen)
    (one_stopped g.B.View form key span (All g.B.View form key span (choice_of a) ds)
    (choices_leaves (choice (choice_of a) ds)) old new result e c.from_residual.ensures.1
    (first_stopped g.B.View form key span (choice_of a) ds old new e result
    c.from_residual.ensures.1 c.in_err-found.ensures))

pub read_each-returns-then-is_some : goal.read_each-returns-then-is_some
read_each-returns-then-is_some g t c =
    let form = c.args.form.now in
    let key = c.args.key.now in
    let span = c.args.span.now in
    let old = c.args.leaves.now in
    let new = c.read_access.new.leaves in
    let all = c.args.accesses.now in
    let a = c.access-item.result in
    let others : List Access = take (length all - 1) (drop 1 all) in
    let ds = choices_from (map choice_of others) in
    let seen : choices_from (map choice_of all) ≡ choice (choice_of a) ds =
    ap (λ (list : List Access). choices_from (map choice_of list))
    (split_first all a c.in-len1-up.len_at_least c.access-item.is) in
    let found = c.in_ok-found.found in
    subst (λ cs. ByEach g.B.View form key span cs old new (Ok found)) (sym seen)
    (found_some g.B.View form key span (choice_of a) ds old new found
    (sym c.is_some.ensures ∙ c.if-is_some.true) c.in_ok-found.ensures)

pub read_each-read_each-requires : goal.read_each-read_each-requires
read_each-read_each-requires g t c κs within =
    let all = c.args.accesses.now in
    let a = c.access-item.result in
    let others : List Access = take (length all - 1) (drop 1 all) in
    let ds = choices_from (map choice_of others) in
    let seen : choices_from (map choice_of all) ≡ choice (choice_of a) ds =
    ap (λ (list : List Access). choices_from (map choice_of list))
    (split_first all a c.in-len1-up.len_at_least c.access-item.is) in
    let below = subst (λ cs. (n : ℕ) → In n (choices_leaves cs)
    → n < length (g.B.View.working c.args.leaves.now)) seen c.requires.below in
    let passed = read_passes g.B.View c.in_ok-found.ensures.reads in (
      omega (arith, c.decreases, ap choices_size seen),
      (
        within,
        (
          c.requires.short,
          (
            (subst (AreReaders c.args.form.now) seen c.requires.readers).1,
            λ n h. omega (
              arith,
              below n (in_right n (choice_leaves (choice_of a)) (choices_leaves ds) h),
              ap length passed.reads.working,
            ),
          ),
        ),
      ),
    )

pub read_each-returns : goal.read_each-returns
read_each-returns g t c =
    let form = c.args.form.now in
    let key = c.args.key.now in
    let span = c.args.span.now in
    let old = c.args.leaves.now in
    let mid = c.read_access.new.leaves in
    let new = c.read_each.new.leaves in
    let result = c.read_each.result in
    let all = c.args.accesses.now in
    let a = c.access-item.result in
    let others : List Access = take (length all - 1) (drop 1 all) in
    let ds = choices_from (map choice_of others) in
    let seen : choices_from (map choice_of all) ≡ choice (choice_of a) ds =
    ap (λ (list : List Access). choices_from (map choice_of list))
    (split_first all a c.in-len1-up.len_at_least c.access-item.is) in
    let found = c.in_ok-found.found in
    subst (λ cs. ByEach g.B.View form key span cs old new result) (sym seen)
    (found_none g.B.View form key span (choice_of a) ds old mid new found result
    (sym c.is_some.ensures ∙ c.if-is_some.false) c.in_ok-found.ensures c.read_each.ensures)
