-- What a change of the cells does to the maps that they stand for.
use Rattle.std.proofs.Common.{◌≡◌, ℕ, Bool, true, false, cond, List, [], ◌∷◌, ◌++◌, Option, None, Some, Result, Ok, Err, OnOk, OnErr, refl, sym, ap, subst, ◌∙◌}
use Rattle.std.specs.Prelude.{T, is_some}
use Rattle.std.specs.List.{filter_map, cons_option}
use Rattle.std.specs.Option.{option_map, option_and_then}
use Rattle.std.specs.Ordering.{is_eq, is_lt, eq_by_cmp}
use Rattle.std.specs.declared.cmp.Ordering.{Ordering}
use Rattle.std.specs.declared.cmp.Ordering.TheVariants.{Less, Equal, Greater}
use Rattle.std.specs.Cmp.Lexicographic.{nat_list_cmp_total}
use Rattle.std.specs.FinMap as fin
use Rattle.std.specs.FinMap.Entries.{below_all}
use Rattle.gx_laws.proofs.ResultLemmas.{none_of}
use Rattle.gx_laws.proofs.BoolLemmas.{both_true, first_of_both, second_of_both}
use Rattle.gx_ports.specs.Keyed.{key_cmp}
use Rattle.gx_memory_leaves.specs.Cells.{Cell, Cells, body_entry, bodies, put_back, undone, without, kept_cells, emptied, HasCell, CanUndo, LeafPair, pair_of}
use Rattle.gx_memory_leaves.specs.declared.undo.Undo.{Undo}
use Rattle.gx_memory_leaves.specs.Pairs.{empty_pair}
use Rattle.gx_ports.proofs.KeyLemmas.{only_equal, same_key, tied, shadowed, swapped, apart}
use Rattle.gx_ports.proofs.KeyedLemmas.{entries_of_sorted}

-- a cell that may be missing has no body either
abbrev pub flat : Option Cell → Cell
flat = option_and_then (λ (c : Cell). c)

-- ---- a look-up among the bodies

not_less : (r : Ordering) → T (is_lt r) → is_eq r ≡ false
not_less Less h = refl
not_less Equal h = absurd h
not_less Greater h = refl

none_below : (x : List ℕ) (es : List (List ℕ × Cell)) → T (below_all key_cmp x es)
    → fin.find key_cmp x es ≡ None
none_below x [] h = refl
none_below x (e ∷ es) h =
    ap (λ b. cond b (Some e.1) (fin.find key_cmp x es))
    (not_less (key_cmp x e.0) (first_of_both _ _ h)) ∙ none_below x es (second_of_both _ _ h)

find_bodies : (es : List (List ℕ × Cell)) → T (fin.is_sorted key_cmp es) → (q : List ℕ)
    → fin.find key_cmp q (filter_map body_entry es) ≡ flat (fin.find key_cmp q es)
find_bodies [] sorted q = refl
find_bodies (e ∷ es) sorted q = found (find_bodies es (second_of_both _ _ sorted) q) (e.1) refl
  where
    -- none where the body of q's cell is none
    hidden : (b : Bool) → eq_by_cmp key_cmp q e.0 ≡ b → e.1 ≡ None
        → flat (fin.find key_cmp q es) ≡ flat (cond b (Some e.1) (fin.find key_cmp q es))
    hidden true t none = ap flat
        (subst (λ x. fin.find key_cmp x es ≡ None) (sym (same_key q e.0 t))
        (none_below e.0 es (first_of_both _ _ sorted))) ∙ sym none
    hidden false t none = refl

    shown : fin.find key_cmp q (filter_map body_entry es) ≡ flat (fin.find key_cmp q es)
        → (b : Bool) (x : List ℕ) → e.1 ≡ Some x
        → cond b (Some x) (fin.find key_cmp q (filter_map body_entry es)) ≡ flat
        (cond b (Some e.1) (fin.find key_cmp q es))
    shown rest true x some = sym some
    shown rest false x some = rest

    found : fin.find key_cmp q (filter_map body_entry es) ≡ flat (fin.find key_cmp q es)
        → (o : Option (List ℕ)) → e.1 ≡ o
        → fin.find key_cmp q (cons_option (option_map (λ (x : List ℕ). (e.0, x)) o)
        (filter_map body_entry es)) ≡ flat
        (cond (eq_by_cmp key_cmp q e.0) (Some e.1) (fin.find key_cmp q es))
    found rest None is = rest ∙ hidden (eq_by_cmp key_cmp q e.0) refl is
    found rest (Some x) is = shown rest (eq_by_cmp key_cmp q e.0) x is

pub get_bodies : (m : Cells) (q : List ℕ) → fin.get (bodies m) q ≡ flat (fin.get m q)
get_bodies m q =
    fin.get-from_entries nat_list_cmp_total (filter_map body_entry (fin.entries m)) q
    ∙ find_bodies (fin.entries m) (fin.entries_sorted m) q
    ∙ ap flat (sym (fin.get-entries m q))

below_bodies : (x : List ℕ) (es : List (List ℕ × Cell)) → T (below_all key_cmp x es)
    → T (below_all key_cmp x (filter_map body_entry es))
below_bodies x [] h = tt
below_bodies x (e ∷ es) h =
    elim (e.1) as (λ (o : Option (List ℕ)). T
    (below_all key_cmp x (cons_option (option_map (λ (y : List ℕ). (e.0, y)) o)
    (filter_map body_entry es)))) [
      | None ↦ below_bodies x es (second_of_both _ _ h)
      | Some b ↦ both_true _ _ (first_of_both _ _ h) (below_bodies x es (second_of_both _ _ h))
    ]

sorted_bodies : (es : List (List ℕ × Cell)) → T (fin.is_sorted key_cmp es)
    → T (fin.is_sorted key_cmp (filter_map body_entry es))
sorted_bodies [] h = tt
sorted_bodies (e ∷ es) h =
    elim (e.1) as (λ (o : Option (List ℕ)). T
    (fin.is_sorted key_cmp (cons_option (option_map (λ (y : List ℕ). (e.0, y)) o)
    (filter_map body_entry es)))) [
      | None ↦ sorted_bodies es (second_of_both _ _ h)
      | Some b ↦ both_true _ _ (below_bodies e.0 es (first_of_both _ _ h))
          (sorted_bodies es (second_of_both _ _ h))
    ]

-- the entries of the bodies, in order
pub entries_bodies : (m : Cells) → fin.entries (bodies m) ≡ filter_map body_entry (fin.entries m)
entries_bodies m = entries_of_sorted (filter_map body_entry (fin.entries m))
    (sorted_bodies (fin.entries m) (fin.entries_sorted m))

-- ---- one cell is changed

same_bodies : (m n : Cells) → ((q : List ℕ) → flat (fin.get m q) ≡ flat (fin.get n q))
    → bodies m ≡ bodies n
same_bodies m n same = fin.same_map nat_list_cmp_total only_equal (bodies m) (bodies n)
    (λ q. get_bodies m q ∙ same q ∙ sym (get_bodies n q))

-- at the key and elsewhere
at_key : {A : Type 0} (q k : List ℕ) (x y : A) (z : A) → (q ≡ k → x ≡ z) → y ≡ z
    → cond (eq_by_cmp key_cmp q k) x y ≡ z
at_key {A} q k x y z here there =
    elim (eq_by_cmp key_cmp q k) as (λ b. eq_by_cmp key_cmp q k ≡ b → cond b x y ≡ z) [
      | true ↦ λ t. here (same_key q k t)
      | false ↦ λ _. there
    ] refl

flat_cond : (b : Bool) (x y : Option Cell) → flat (cond b x y) ≡ cond b (flat x) (flat y)
flat_cond true x y = refl
flat_cond false x y = refl

get_inserted : (m : Cells) (k q : List ℕ) (c : Cell)
    → flat (fin.get (fin.insert m k c) q) ≡ cond (eq_by_cmp key_cmp q k) c (flat (fin.get m q))
get_inserted m k q c = ap flat (fin.get-insert nat_list_cmp_total m k c q)
    ∙ flat_cond (eq_by_cmp key_cmp q k) (Some c) (fin.get m q)

pub put_body : (m : Cells) (k b : List ℕ)
    → bodies (fin.insert m k (Some b)) ≡ fin.insert (bodies m) k b
put_body m k b = fin.same_map nat_list_cmp_total only_equal _ _ (λ q.
    get_bodies _ q
    ∙ get_inserted m k q (Some b)
    ∙ ap (cond (eq_by_cmp key_cmp q k) (Some b)) (sym (get_bodies m q))
    ∙ sym (fin.get-insert nat_list_cmp_total (bodies m) k b q))

pub remove_body : (m : Cells) (k : List ℕ) → bodies (fin.insert m k None) ≡ fin.remove (bodies m) k
remove_body m k = fin.same_map nat_list_cmp_total only_equal _ _ (λ q.
    get_bodies _ q
    ∙ get_inserted m k q None
    ∙ ap (cond (eq_by_cmp key_cmp q k) None) (sym (get_bodies m q))
    ∙ sym (fin.get-remove nat_list_cmp_total (bodies m) k q))

-- where a key has no body, there is none to take away
pub remove_absent : (m : Cells) (k : List ℕ) → is_some (flat (fin.get m k)) ≡ false
    → fin.remove (bodies m) k ≡ bodies m
remove_absent m k none = fin.same_map nat_list_cmp_total only_equal _ _ (λ q.
    fin.get-remove nat_list_cmp_total (bodies m) k q
    ∙ at_key q k _ _ _ (λ e. sym (get_bodies m q ∙ ap (λ x. flat (fin.get m x)) e ∙ none_of _ none))
    refl)

-- a cell without a body may go
pub dropped : (m : Cells) (k : List ℕ) → is_some (flat (fin.get m k)) ≡ false
    → bodies (fin.remove m k) ≡ bodies m
dropped m k none = same_bodies _ m (λ q.
    ap flat (fin.get-remove nat_list_cmp_total m k q)
    ∙ flat_cond (eq_by_cmp key_cmp q k) None (fin.get m q)
    ∙ at_key q k _ _ _ (λ e. sym (ap (λ x. flat (fin.get m x)) e ∙ none_of _ none)) refl)

no_bodies : bodies fin.empty ≡ fin.empty
no_bodies = fin.same_map nat_list_cmp_total only_equal _ _ (λ q.
    get_bodies fin.empty q ∙ ap flat (fin.get-empty key_cmp q) ∙ sym (fin.get-empty key_cmp q))

pub no_pair : pair_of fin.empty [] [] ≡ empty_pair
no_pair = λ i. record { working = no_bodies i; kept = no_bodies i }

-- ---- changes are taken back

-- what stood there before is back
back : (m : Cells) (k : List ℕ) (b c : Cell) → fin.get m k ≡ Some b
    → fin.insert (fin.insert m k c) k b ≡ m
back m k b c here = fin.same_map nat_list_cmp_total only_equal _ m (λ q.
    fin.get-insert nat_list_cmp_total (fin.insert m k c) k b q
    ∙ ap (cond (eq_by_cmp key_cmp q k) (Some b)) (fin.get-insert nat_list_cmp_total m k c q)
    ∙ sym (shadowed (eq_by_cmp key_cmp q k) (Some b) (Some c) (fin.get m q))
    ∙ at_key q k _ _ _ (λ e. sym (ap (fin.get m) e ∙ here)) refl)

-- a cell that was made is taken out
out_again : (m : Cells) (k : List ℕ) (c : Cell) → fin.get m k ≡ None
    → fin.remove (fin.insert m k c) k ≡ m
out_again m k c none = fin.same_map nat_list_cmp_total only_equal _ m (λ q.
    fin.get-remove nat_list_cmp_total (fin.insert m k c) k q
    ∙ ap (cond (eq_by_cmp key_cmp q k) None) (fin.get-insert nat_list_cmp_total m k c q)
    ∙ sym (shadowed (eq_by_cmp key_cmp q k) None (Some c) (fin.get m q))
    ∙ at_key q k _ _ _ (λ e. sym (ap (fin.get m) e ∙ none)) refl)

-- a cell is written over with what it has
same_again : (m : Cells) (k : List ℕ) (b : Cell) → fin.get m k ≡ Some b → fin.insert m k b ≡ m
same_again m k b here = fin.same_map nat_list_cmp_total only_equal _ m (λ q.
    fin.get-insert nat_list_cmp_total m k b q
    ∙ at_key q k _ _ _ (λ e. sym (ap (fin.get m) e ∙ here)) refl)

-- a cell is put in and another one taken out, of two keys, in either order
in_and_out : (m : Cells) (j k : List ℕ) (b : Cell) → eq_by_cmp key_cmp k j ≡ false
    → fin.remove (fin.insert m j b) k ≡ fin.insert (fin.remove m k) j b
in_and_out m j k b differ = fin.same_map nat_list_cmp_total only_equal _ _ (λ q.
    fin.get-remove nat_list_cmp_total (fin.insert m j b) k q
    ∙ ap (cond (eq_by_cmp key_cmp q k) None) (fin.get-insert nat_list_cmp_total m j b q)
    ∙ sym (swapped (eq_by_cmp key_cmp q j) (eq_by_cmp key_cmp q k) (Some b) None (fin.get m q)
    (apart q k j differ))
    ∙ ap (cond (eq_by_cmp key_cmp q j) (Some b)) (sym (fin.get-remove nat_list_cmp_total m k q))
    ∙ sym (fin.get-insert nat_list_cmp_total (fin.remove m k) j b q))

-- a key with a cell isn't one without
two_keys : (m : Cells) (j k : List ℕ) → HasCell m j → fin.get m k ≡ None
    → eq_by_cmp key_cmp k j ≡ false
two_keys m j k has none =
    elim (eq_by_cmp key_cmp k j) as (λ b. eq_by_cmp key_cmp k j ≡ b → b ≡ false) [
      | true ↦ λ t. sym has ∙ ap (λ x. is_some (fin.get m x)) (sym (same_key k j t))
          ∙ ap is_some none
      | false ↦ λ _. refl
    ] refl

some_cond : (b : Bool) (c : Cell) (o : Option Cell) → is_some o ≡ true
    → is_some (cond b (Some c) o) ≡ true
some_cond true c o e = refl
some_cond false c o e = e

still_there : (m : Cells) (k : List ℕ) (c : Cell) (q : List ℕ) → HasCell m q
    → HasCell (fin.insert m k c) q
still_there m k c q has = ap is_some (fin.get-insert nat_list_cmp_total m k c q)
    ∙ some_cond (eq_by_cmp key_cmp q k) c (fin.get m q) has

there : (m : Cells) (k : List ℕ) (c : Cell) → HasCell (fin.insert m k c) k
there m k c = ap is_some (fin.get-insert nat_list_cmp_total m k c k
    ∙ ap (λ b. cond b (Some c) (fin.get m k)) (tied k))

can_still : (us : List Undo) (m : Cells) (k : List ℕ) (c : Cell) → CanUndo us m
    → CanUndo us (fin.insert m k c)
can_still [] m k c can = tt
can_still (u ∷ us) m k c can = (still_there m k c u.key can.0, can_still us m k c can.1)

can_more : (us : List Undo) (u : Undo) (m : Cells) → CanUndo us m → HasCell m u.key
    → CanUndo (us ++ u ∷ []) m
can_more [] u m can here = (here, tt)
can_more (v ∷ vs) u m can here = (can.0, can_more vs u m can.1 here)

can_last : (us : List Undo) (u : Undo) (m : Cells) → CanUndo (us ++ u ∷ []) m
    → CanUndo us m × HasCell m u.key
can_last [] u m can = (tt, can.0)
can_last (v ∷ vs) u m can = let rest = can_last vs u m can.1 in ((can.0, rest.0), rest.1)

undone_last : (us : List Undo) (u : Undo) (m : Cells)
    → undone (us ++ u ∷ []) m ≡ undone us (put_back u m)
undone_last [] u m = refl
undone_last (v ∷ vs) u m = ap (put_back v) (undone_last vs u m)

without_last : (ks : List (List ℕ)) (k : List ℕ) (m : Cells)
    → without (ks ++ k ∷ []) m ≡ without ks (fin.remove m k)
without_last [] k m = refl
without_last (j ∷ js) k m = ap (λ (x : Cells). fin.remove x j) (without_last js k m)

-- changes of other cells are taken back beside one that was made
beside : (us : List Undo) (m : Cells) (k : List ℕ) (c : Cell) → CanUndo us m → fin.get m k ≡ None
    → fin.remove (undone us (fin.insert m k c)) k ≡ undone us m
beside [] m k c can none = out_again m k c none
beside (u ∷ us) m k c can none =
    in_and_out (undone us (fin.insert m k c)) u.key k u.before (two_keys m u.key k can.0 none)
    ∙ ap (λ (x : Cells). fin.insert x u.key u.before) (beside us m k c can.1 none)

-- a cell more was made
pub made_more : (ks mid ls : List (List ℕ)) (us vs : List Undo) (m n : Cells) (k noted : List ℕ)
    (c : Cell) → mid ≡ ks → ls ≡ mid ++ noted ∷ [] → noted ≡ k → vs ≡ us → n ≡ fin.insert m k c
    → fin.get m k ≡ None → CanUndo us m
    → (kept_cells ls vs n ≡ kept_cells ks us m) × CanUndo vs n
made_more ks mid ls us vs m n k noted c same pushed key same_undos inserted none can = (
  (λ i. without (pushed i) (undone (same_undos i) (inserted i)))
      ∙ (λ i. without (same i ++ key i ∷ []) (undone us (fin.insert m k c)))
      ∙ without_last ks k (undone us (fin.insert m k c))
      ∙ ap (without ks) (beside us m k c can none),
  subst (λ (ws : List Undo). CanUndo ws n) (sym same_undos)
      (subst (CanUndo us) (sym inserted) (can_still us m k c can)),
)

-- one change more, noted with what stood there before
pub noted_more : (us mid vs : List Undo) (u : Undo) (m n : Cells) (k : List ℕ) (c : Cell) → mid ≡ us
    → vs ≡ mid ++ u ∷ [] → n ≡ fin.insert m k c → u.key ≡ k → fin.get m k ≡ Some u.before
    → CanUndo us m
    → (undone vs n ≡ undone us m) × CanUndo vs n
noted_more us mid vs u m n k c same pushed inserted key before can =
    let here : HasCell (fin.insert m k c) u.key =
    subst (HasCell (fin.insert m k c)) (sym key) (there m k c) in (
      (λ i. undone (pushed i) (inserted i))
          ∙ ap (λ (ws : List Undo). undone (ws ++ u ∷ []) (fin.insert m k c)) same
          ∙ undone_last us u (fin.insert m k c)
          ∙ ap (undone us) (ap (λ x. fin.insert (fin.insert m k c) x u.before) key
          ∙ back m k u.before c before),
      subst (λ (ws : List Undo). CanUndo ws n)
          (sym (pushed ∙ ap (λ (ws : List Undo). ws ++ u ∷ []) same))
          (subst (CanUndo (us ++ u ∷ [])) (sym inserted)
          (can_more us u (fin.insert m k c) (can_still us m k c can) here)),
    )

-- the last change is taken back
pub taken : (all us : List Undo) (u : Undo) (m n start : Cells) → all ≡ us ++ u ∷ []
    → n ≡ put_back u m → CanUndo all m → undone all m ≡ start → CanUndo us n × (undone us n ≡ start)
taken all us u m n start is now can so_far =
    let last = can_last us u m (subst (λ (ws : List Undo). CanUndo ws m) is can) in (
      subst (CanUndo us) (sym now) (can_still us m u.key u.before last.0),
      ap (undone us) now ∙ sym (undone_last us u m) ∙ ap (λ (ws : List Undo). undone ws m) (sym is)
          ∙ so_far,
    )

-- there is a cell where one is put back
pub last_place : (all us : List Undo) (u : Undo) (m : Cells) → all ≡ us ++ u ∷ [] → CanUndo all m
    → HasCell m u.key
last_place all us u m is can = (can_last us u m (subst (λ (ws : List Undo). CanUndo ws m) is can)).1

pub no_place : (here : Option Cell) → here ≡ None → is_some here ≡ true → ⊥
no_place here none has =
    let clash : false ≡ true = sym (ap is_some none) ∙ has in
    cc

-- the cell that was made last is taken out
pub taken_out : (all ks : List (List ℕ)) (k : List ℕ) (m n start : Cells) → all ≡ ks ++ k ∷ []
    → n ≡ fin.remove m k → without all m ≡ start → without ks n ≡ start
taken_out all ks k m n start is now so_far = ap (without ks) now ∙ sym (without_last ks k m)
    ∙ ap (λ (js : List (List ℕ)). without js m) (sym is) ∙ so_far

-- ---- a body is taken away

pub emptied_here : (m : Cells) (k : List ℕ) (b : Cell) → fin.get m k ≡ Some b
    → fin.insert m k None ≡ emptied m k b
emptied_here m k None here = same_again m k None here
emptied_here m k (Some x) here = refl

pub removed_body : (m n : Cells) (k : List ℕ) (b : Cell) → b ≡ flat (fin.get m k)
    → n ≡ emptied m k b → bodies n ≡ fin.remove (bodies m) k
removed_body m n k None flat_is now = ap bodies now
    ∙ sym (remove_absent m k (ap is_some (sym flat_is)))
removed_body m n k (Some x) flat_is now = ap bodies now ∙ remove_body m k

flat_some : (o : Option Cell) (b : Cell) → b ≡ flat o → is_some b ≡ true → o ≡ Some b
flat_some None b e some =
    let clash : false ≡ true = sym (ap is_some e) ∙ some in
    cc
flat_some (Some c) b e some = ap Some (sym e)

emptied_some : (m : Cells) (k : List ℕ) (b : Cell) → is_some b ≡ true
    → emptied m k b ≡ fin.insert m k None
emptied_some m k None e = cc
emptied_some m k (Some x) e = refl

emptied_none : (m : Cells) (k : List ℕ) (b : Cell) → is_some b ≡ false → emptied m k b ≡ m
emptied_none m k None e = refl
emptied_none m k (Some x) e = cc

-- a body that was taken away is noted
pub removal_noted : (us mid vs : List Undo) (u : Undo) (m n : Cells) (k : List ℕ) → mid ≡ us
    → vs ≡ mid ++ u ∷ [] → n ≡ emptied m k u.before → u.key ≡ k → u.before ≡ flat (fin.get m k)
    → is_some u.before ≡ true → CanUndo us m
    → (undone vs n ≡ undone us m) × CanUndo vs n
removal_noted us mid vs u m n k same pushed now key before some can =
    noted_more us mid vs u m n k None same pushed (now ∙ emptied_some m k u.before some) key
    (flat_some (fin.get m k) u.before before some) can

-- where there was none, nothing is noted
pub nothing_noted : (us vs : List Undo) (m n : Cells) (k : List ℕ) (b : Cell) → vs ≡ us
    → n ≡ emptied m k b → is_some b ≡ false → CanUndo us m
    → (undone vs n ≡ undone us m) × CanUndo vs n
nothing_noted us vs m n k b same now none can =
    let is : n ≡ m = now ∙ emptied_none m k b none in (
      (λ i. undone (same i) (is i)),
      subst (λ (ws : List Undo). CanUndo ws n) (sym same) (subst (CanUndo us) (sym is) can),
    )

-- ---- the pair of maps after a call

pub put_view : {A E : Type 0} (r : Result A E) (m n : Cells) (ks ls : List (List ℕ))
    (us vs : List Undo) (j k : List ℕ) (b : Cell) (body : List ℕ) (p : LeafPair)
    → OnOk r (n ≡ fin.insert m j b) → kept_cells ls vs n ≡ kept_cells ks us m → j ≡ k
    → b ≡ Some body → pair_of m ks us ≡ p
    → OnOk r (pair_of n ls vs ≡ record { working = fin.insert p.working k body; kept = p.kept })
put_view (Ok a) m n ks ls us vs j k b body p ok kept key same is =
    let working : bodies n ≡ fin.insert p.working k body = ap bodies ok
    ∙ ap (λ (x : Cell). bodies (fin.insert m j x)) same ∙ put_body m j body
    ∙ (λ i. fin.insert (is i).working (key i) body) in
    let stays : bodies (kept_cells ls vs n) ≡ p.kept = ap bodies kept
    ∙ ap (λ (l : LeafPair). l.kept) is in
    λ i. record { working = working i; kept = stays i }
put_view (Err e) m n ks ls us vs j k b body p ok kept key same is = tt

pub remove_view : {A E : Type 0} (r : Result A E) (m n : Cells) (ks : List (List ℕ))
    (us vs : List Undo) (j k : List ℕ) (p : LeafPair) → OnOk r (bodies n ≡ fin.remove (bodies m) j)
    → undone vs n ≡ undone us m → j ≡ k → pair_of m ks us ≡ p
    → OnOk r (pair_of n ks vs ≡ record { working = fin.remove p.working k; kept = p.kept })
remove_view (Ok a) m n ks us vs j k p ok kept key is =
    let working : bodies n ≡ fin.remove p.working k = ok ∙ (λ i. fin.remove (is i).working (key i))
    in
    let stays : bodies (kept_cells ks vs n) ≡ p.kept =
    ap (λ (x : Cells). bodies (without ks x)) kept ∙ ap (λ (l : LeafPair). l.kept) is in
    λ i. record { working = working i; kept = stays i }
remove_view (Err e) m n ks us vs j k p ok kept key is = tt

pub same_view : {A E : Type 0} (r : Result A E) (m n : Cells) (ks ls : List (List ℕ))
    (us vs : List Undo) (p : LeafPair) → OnErr r (n ≡ m) → kept_cells ls vs n ≡ kept_cells ks us m
    → pair_of m ks us ≡ p → OnErr r (pair_of n ls vs ≡ p)
same_view (Ok a) m n ks ls us vs p err kept is = tt
same_view (Err e) m n ks ls us vs p err kept is =
    (λ i. record { working = bodies (err i); kept = bodies (kept i) }) ∙ is
