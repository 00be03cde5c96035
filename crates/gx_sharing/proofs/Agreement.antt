-- What a command answers and changes depends on the items that it locks alone, and it changes only
-- those that it locks exclusively.
use Rattle.std.proofs.Common.{◌≡◌, ℕ, zero, suc, ◌<◌, List, [], ◌∷◌, length, get_or, set, cond, Bool, true, false, Option, Some, None, refl, sym, ap, subst, ◌∙◌, arith, inl, inr}
use Rattle.std.specs.Prelude.{◌||◌, ◌&&◌, ◌==◌, not, is_some, nat_le}
use Rattle.std.specs.List.{list_any}
use Rattle.std.specs.FinMap as fin
use Rattle.std.proofs.lemmas.Bool.{true≢false, cases_Bool, cases_lt, eq-eqb, or_left, or_right, or_parts, or_from, and_left}
use Rattle.std.proofs.lemmas.List.{get_or_past, length-set, get_or-set_other}
use Rattle.gx_values.specs.declared.values.Value.{Value}
use Rattle.gx_schema.specs.declared.schema.LinkDef.{LinkDef}
use Rattle.gx_schema.specs.declared.schema.Schema.{Schema}
use Rattle.gx_schema.specs.Lookups.{file_at, link_at, no_link}
use Rattle.gx_commands.specs.declared.command.Cond.{Cond}
use Rattle.gx_commands.specs.declared.command.Of.{Of}
use Rattle.gx_commands.specs.declared.command.OrderBy.{OrderBy}
use Rattle.gx_commands.specs.declared.command.Command.{Command}
use Rattle.gx_commands.specs.declared.command.Command.TheVariants as command
use Rattle.gx_model.specs.States.{File, Link, State, file_in, link_in, pairs_of, most_members, is_same}
use Rattle.gx_model.specs.Found.{is_owner, meets_of, meets_conds}
use Rattle.gx_model.specs.Commands.{Refusal, key_exists, no_record, linked, has_owner, too_many_members, no_owner, first_refusal, refusal_of, lacks_of, is_end_of, is_linked, with_file, with_link, inserted, updated, state_after, next_state, record_text, owner_text, IsListText, IsReply, IsAnswerOr, IsAnswer}
use Rattle.gx_sharing.specs.Locks.{Item, file, link, is_held, is_exclusive, shared_if, exclusive_if, is_end_file, find_lock, lock_of, IsItem}

-- the state has each file and each link of the schema
pub record IsSized (schema : Schema) (s : State) : Type 0 where
  pub files : length s.files ≡ length schema.files
  pub links : length s.links ≡ length schema.links

-- two states are the same at some items
pub record Agree (schema : Schema) (at : Item → Bool) (s t : State) : Type 0 where
  pub one : IsSized schema s
  pub other : IsSized schema t
  pub files : (i : ℕ) → i < length schema.files → at (file i) ≡ true → file_in s i ≡ file_in t i
  pub links : (j : ℕ) → j < length schema.links → at (link j) ≡ true → link_in s j ≡ link_in t j

-- a command takes locks only there
abbrev pub LocksWithin : Schema → Command → (Item → Bool) → Type 0
LocksWithin schema c at = (x : Item) → is_held (lock_of schema c x) ≡ true → at x ≡ true

-- a command takes exclusive locks only elsewhere
abbrev pub LocksElsewhere : Schema → Command → (Item → Bool) → Type 0
LocksElsewhere schema c at =
    (x : Item) → IsItem schema x → is_exclusive (lock_of schema c x) ≡ true → at x ≡ false

module _ (schema : Schema) (at : Item → Bool) where
  pub agree_itself : (s : State) → IsSized schema s → Agree schema at s s
  agree_itself s is = record {
    one = is;
    other = is;
    files = λ i lt h. refl;
    links = λ j lt h. refl;
  }

  pub agree_on : (s t u : State) → Agree schema at s t → Agree schema at t u → Agree schema at s u
  agree_on s t u a b = record {
    one = a.one;
    other = b.other;
    files = λ i lt h. a.files i lt h ∙ b.files i lt h;
    links = λ j lt h. a.links j lt h ∙ b.links j lt h;
  }

  same_file : (s t : State) (i : ℕ) → Agree schema at s t → at (file i) ≡ true
      → file_in s i ≡ file_in t i
  same_file s t i a h = elim (cases_lt i (length schema.files)) [
    | inl lt ↦ a.files i lt h
    | inr past ↦ get_or_past s.files i fin.empty (omega (arith, a.one.files))
        ∙ sym (get_or_past t.files i fin.empty (omega (arith, a.other.files)))
  ]

  same_link : (s t : State) (j : ℕ) → Agree schema at s t → at (link j) ≡ true
      → link_in s j ≡ link_in t j
  same_link s t j a h = elim (cases_lt j (length schema.links)) [
    | inl lt ↦ a.links j lt h
    | inr past ↦ get_or_past s.links j fin.empty (omega (arith, a.one.links))
        ∙ sym (get_or_past t.links j fin.empty (omega (arith, a.other.links)))
  ]

-- ---- locks that are taken

exclusive_here : (n : ℕ) → is_held (exclusive_if (n == n)) ≡ true
exclusive_here n = ap (λ b. is_held (exclusive_if b)) (eq-eqb n n refl)

exclusively_here : (n : ℕ) → is_exclusive (exclusive_if (n == n)) ≡ true
exclusively_here n = ap (λ b. is_exclusive (exclusive_if b)) (eq-eqb n n refl)

shared_where : (b : Bool) → b ≡ true → is_held (shared_if b) ≡ true
shared_where b e = ap (λ c. is_held (shared_if c)) e

shared_here : (n : ℕ) → is_held (shared_if (n == n)) ≡ true
shared_here n = shared_where (n == n) (eq-eqb n n refl)

shared_left : (n : ℕ) (b : Bool) → is_held (shared_if ((n == n) || b)) ≡ true
shared_left n b = shared_where ((n == n) || b) (or_left (n == n) b (eq-eqb n n refl))

shared_right : (b : Bool) (n : ℕ) → is_held (shared_if (b || (n == n))) ≡ true
shared_right b n = shared_where (b || (n == n)) (or_right b (n == n) (eq-eqb n n refl))

-- ---- links of which a record is an end

end_alike : (def : LinkDef) (x y : Link) (i : ℕ) (key : Value)
    → (is_end_file def i ≡ true → x ≡ y) → is_end_of def x i key ≡ is_end_of def y i key
end_alike def x y i key same = elim (cases_Bool (is_end_file def i)) [
  | inl is ↦ ap (λ (l : Link). is_end_of def l i key) (same is)
  | inr isnt ↦ (let parts = or_parts (def.owner == i) (def.member == i) isnt in
      none x parts.0 parts.1 ∙ sym (none y parts.0 parts.1))
]
  where
    none : (l : Link) → (def.owner == i) ≡ false → (def.member == i) ≡ false
        → is_end_of def l i key ≡ false
    none l o m =
        or_from ((def.member == i) && is_some (fin.get l key))
        ((def.owner == i) && list_any (λ pair. is_same pair.1 key) (fin.entries l))
        (and_left (def.member == i) (is_some (fin.get l key)) m)
        (and_left (def.owner == i) (list_any (λ pair. is_same pair.1 key) (fin.entries l)) o)

linked_alike : (defs : List LinkDef) (xs ys : List Link) (i : ℕ) (key : Value)
    → length xs ≡ length ys
    → ((j : ℕ) → is_end_file (get_or defs j no_link) i ≡ true
    → get_or xs j fin.empty ≡ get_or ys j fin.empty)
    → is_linked defs xs i key ≡ is_linked defs ys i key
linked_alike [] xs ys i key n h = refl
linked_alike (def ∷ defs) [] [] i key n h = refl
linked_alike (def ∷ defs) [] (y ∷ ys) i key n h = absurd (omega arith)
linked_alike (def ∷ defs) (x ∷ xs) [] i key n h = absurd (omega arith)
linked_alike (def ∷ defs) (x ∷ xs) (y ∷ ys) i key n h =
    let first = end_alike def x y i key (λ e. h 0 e) in
    let rest = linked_alike defs xs ys i key (omega arith) (λ j e. h (suc j) e) in
    λ k. first k || rest k

-- ---- what is refused

module _ (schema : Schema) (at : Item → Bool) (s t : State) (a : Agree schema at s t) where
  lacks_alike : (found : ℕ) (of : Option Of)
      → ((x : Item) → is_held (find_lock schema found of x) ≡ true → at x ≡ true)
      → lacks_of schema s of ≡ lacks_of schema t of
  lacks_alike found None within = refl
  lacks_alike found (Some of) within =
      ap (λ (f : File). not (is_some (fin.get f of.owner)))
      (same_file schema at s t (link_at schema of.link).owner a
      (within (file (link_at schema of.link).owner)
      (shared_right (found == (link_at schema of.link).owner) (link_at schema of.link).owner)))

  pub refusal_alike : (c : Command) → LocksWithin schema c at
      → refusal_of schema s c ≡ refusal_of schema t c
  refusal_alike (command.Insert f []) within = refl
  refusal_alike (command.Insert f (key ∷ values)) within =
      ap (λ (x : File). first_refusal ((is_some (fin.get x key), key_exists) ∷ []))
      (same_file schema at s t f a (within (file f) (exclusive_here f)))
  refusal_alike (command.Update f key changes) within =
      ap (λ (x : File). first_refusal ((not (is_some (fin.get x key)), no_record) ∷ []))
      (same_file schema at s t f a (within (file f) (exclusive_here f)))
  refusal_alike (command.Delete f key) within =
      let here = same_file schema at s t f a (within (file f) (exclusive_here f)) in
      let ends = linked_alike schema.links s.links t.links f key
      (omega (arith, a.one.links, a.other.links))
      (λ j e. same_link schema at s t j a (within (link j)
      (shared_where (is_end_file (link_at schema j) f) e))) in
      λ k. first_refusal ((not (is_some (fin.get (here k) key)), no_record) ∷ (ends k, linked) ∷ [])
  refusal_alike (command.Connect l owner member) within =
      let def = link_at schema l in
      let o = same_file schema at s t def.owner a
      (within (file def.owner) (shared_left def.owner (def.member == def.owner))) in
      let m = same_file schema at s t def.member a
      (within (file def.member) (shared_right (def.owner == def.member) def.member)) in
      let x = same_link schema at s t l a (within (link l) (exclusive_here l)) in
      λ k. first_refusal ((
        not (is_some (fin.get (o k) owner) && is_some (fin.get (m k) member)),
        no_record,
      ) ∷ (is_some (fin.get (x k) member), has_owner)
      ∷ (nat_le most_members (length (pairs_of (x k) owner)), too_many_members) ∷ [])
  refusal_alike (command.Disconnect l member) within =
      let def = link_at schema l in
      let m = same_file schema at s t def.member a
      (within (file def.member) (shared_here def.member)) in
      let x = same_link schema at s t l a (within (link l) (exclusive_here l)) in
      λ k. first_refusal ((not (is_some (fin.get (m k) member)), no_record)
      ∷ (not (is_some (fin.get (x k) member)), no_owner) ∷ [])
  refusal_alike (command.Members l owner order) within =
      let def = link_at schema l in
      ap (λ (x : File). first_refusal ((not (is_some (fin.get x owner)), no_record) ∷ []))
      (same_file schema at s t def.owner a
      (within (file def.owner) (shared_left def.owner (def.member == def.owner))))
  refusal_alike (command.Owner l member) within =
      let def = link_at schema l in
      ap (λ (x : File). first_refusal ((not (is_some (fin.get x member)), no_record) ∷ []))
      (same_file schema at s t def.member a
      (within (file def.member) (shared_right (def.owner == def.member) def.member)))
  refusal_alike (command.Find q) within =
      ap (λ b. first_refusal ((b, no_record) ∷ [])) (lacks_alike q.file q.of within)
  refusal_alike (command.Get f key) within = refl
  refusal_alike command.Begin within = refl
  refusal_alike command.Commit within = refl
  refusal_alike command.Abort within = refl
  refusal_alike (command.ReorganizeFile f) within = refl
  refusal_alike (command.ReorganizeLink l) within = refl
  refusal_alike command.Nothing within = refl

  -- ---- what is answered

  find_alike : (found : ℕ) (conds : List Cond) (of : Option Of) (order : OrderBy) (text : List ℕ)
      → ((x : Item) → is_held (find_lock schema found of x) ≡ true → at x ≡ true)
      → IsListText (file_at schema found) (file_in s found)
      (λ r. meets_conds conds r && meets_of s of r.0) order text
      → IsListText (file_at schema found) (file_in t found)
      (λ r. meets_conds conds r && meets_of t of r.0) order text
  find_alike found conds None order text within is =
      subst (λ (f : File). IsListText (file_at schema found) f
      (λ r. meets_conds conds r && true) order text)
      (same_file schema at s t found a (within (file found) (shared_here found))) is
  find_alike found conds (Some of) order text within is =
      subst (λ (l : Link). IsListText (file_at schema found) (file_in t found)
      (λ r. meets_conds conds r && is_owner of.owner (fin.get l r.0)) order text)
      (same_link schema at s t of.link a (within (link of.link) (shared_here of.link)))
      (subst (λ (f : File). IsListText (file_at schema found) f
      (λ r. meets_conds conds r && meets_of s (Some of) r.0) order text)
      (same_file schema at s t found a
      (within (file found) (shared_left found ((link_at schema of.link).owner == found)))) is)

  pub reply_alike : (c : Command) (text : List ℕ) → LocksWithin schema c at
      → IsReply schema s c text → IsReply schema t c text
  reply_alike (command.Get f key) text within is =
      subst (λ (x : File). text ≡ record_text (file_at schema f) key (fin.get x key))
      (same_file schema at s t f a (within (file f) (shared_here f))) is
  reply_alike (command.Members l owner order) text within is =
      let def = link_at schema l in
      subst (λ (x : Link). IsListText (file_at schema def.member) (file_in t def.member)
      (λ r. is_owner owner (fin.get x r.0)) order text)
      (same_link schema at s t l a (within (link l) (shared_here l)))
      (subst (λ (x : File). IsListText (file_at schema def.member) x
      (λ r. is_owner owner (fin.get (link_in s l) r.0)) order text)
      (same_file schema at s t def.member a
      (within (file def.member) (shared_right (def.owner == def.member) def.member))) is)
  reply_alike (command.Owner l member) text within is =
      let def = link_at schema l in
      subst (λ (x : Link). text ≡ owner_text (file_at schema def.owner) (file_in t def.owner)
      (fin.get x member))
      (same_link schema at s t l a (within (link l) (shared_here l)))
      (subst (λ (x : File). text ≡ owner_text (file_at schema def.owner) x
      (fin.get (link_in s l) member))
      (same_file schema at s t def.owner a
      (within (file def.owner) (shared_left def.owner (def.member == def.owner)))) is)
  reply_alike (command.Find q) text within is =
      find_alike q.file q.conds q.of q.order text within is
  reply_alike command.Nothing text within is = is
  reply_alike command.Begin text within is = is
  reply_alike command.Commit text within is = is
  reply_alike command.Abort text within is = is
  reply_alike (command.Insert f values) text within is = is
  reply_alike (command.Update f key changes) text within is = is
  reply_alike (command.Delete f key) text within is = is
  reply_alike (command.Connect l owner member) text within is = is
  reply_alike (command.Disconnect l member) text within is = is
  reply_alike (command.ReorganizeFile f) text within is = is
  reply_alike (command.ReorganizeLink l) text within is = is

  answer_or_alike : (c : Command) (why : Option Refusal) (text : List ℕ) → LocksWithin schema c at
      → IsAnswerOr why (IsReply schema s c) text → IsAnswerOr why (IsReply schema t c) text
  answer_or_alike c None text within is = reply_alike c text within is
  answer_or_alike c (Some why) text within is = is

  -- it answers the same on both
  pub answer_alike : (c : Command) (text : List ℕ) → LocksWithin schema c at
      → IsAnswer schema s c text → IsAnswer schema t c text
  answer_alike c text within is =
      subst (λ (why : Option Refusal). IsAnswerOr why (IsReply schema t c) text)
      (refusal_alike c within)
      (answer_or_alike c (refusal_of schema s c) text within is)

-- ---- what is changed

set_alike : {A : Type 0} (xs ys : List A) (i j : ℕ) (f g d : A) → length xs ≡ length ys → f ≡ g
    → get_or xs j d ≡ get_or ys j d → get_or (set xs i f) j d ≡ get_or (set ys i g) j d
set_alike [] [] i j f g d n e h = refl
set_alike [] (y ∷ ys) i j f g d n e h = absurd (omega arith)
set_alike (x ∷ xs) [] i j f g d n e h = absurd (omega arith)
set_alike (x ∷ xs) (y ∷ ys) zero zero f g d n e h = e
set_alike (x ∷ xs) (y ∷ ys) zero (suc j) f g d n e h = h
set_alike (x ∷ xs) (y ∷ ys) (suc i) zero f g d n e h = h
set_alike (x ∷ xs) (y ∷ ys) (suc i) (suc j) f g d n e h =
    set_alike xs ys i j f g d (omega arith) e h

sized_file : (schema : Schema) (s : State) (i : ℕ) (f : File) → IsSized schema s
    → IsSized schema (with_file s i f)
sized_file schema s i f is =
    record { files = length-set s.files i f ∙ is.files; links = is.links }

sized_link : (schema : Schema) (s : State) (j : ℕ) (l : Link) → IsSized schema s
    → IsSized schema (with_link s j l)
sized_link schema s j l is =
    record { files = is.files; links = length-set s.links j l ∙ is.links }

module _ (schema : Schema) (at : Item → Bool) (s t : State) (a : Agree schema at s t) where
  file_changed : (i : ℕ) (f g : File) → f ≡ g → Agree schema at (with_file s i f) (with_file t i g)
  file_changed i f g e = record {
    one = sized_file schema s i f a.one;
    other = sized_file schema t i g a.other;
    files = λ j lt h.
        set_alike s.files t.files i j f g fin.empty (a.one.files ∙ sym a.other.files) e
        (a.files j lt h);
    links = a.links;
  }

  link_changed : (i : ℕ) (f g : Link) → f ≡ g → Agree schema at (with_link s i f) (with_link t i g)
  link_changed i f g e = record {
    one = sized_link schema s i f a.one;
    other = sized_link schema t i g a.other;
    files = a.files;
    links = λ j lt h.
        set_alike s.links t.links i j f g fin.empty (a.one.links ∙ sym a.other.links) e
        (a.links j lt h);
  }

  after_alike : (c : Command) → LocksWithin schema c at
      → Agree schema at (state_after s c) (state_after t c)
  after_alike (command.Insert f values) within =
      file_changed f (inserted (file_in s f) values) (inserted (file_in t f) values)
      (ap (λ (x : File). inserted x values)
      (same_file schema at s t f a (within (file f) (exclusive_here f))))
  after_alike (command.Update f key changes) within =
      file_changed f (updated (file_in s f) key changes) (updated (file_in t f) key changes)
      (ap (λ (x : File). updated x key changes)
      (same_file schema at s t f a (within (file f) (exclusive_here f))))
  after_alike (command.Delete f key) within =
      file_changed f (fin.remove (file_in s f) key) (fin.remove (file_in t f) key)
      (ap (λ (x : File). fin.remove x key)
      (same_file schema at s t f a (within (file f) (exclusive_here f))))
  after_alike (command.Connect l owner member) within =
      link_changed l (fin.insert (link_in s l) member owner) (fin.insert (link_in t l) member owner)
      (ap (λ (x : Link). fin.insert x member owner)
      (same_link schema at s t l a (within (link l) (exclusive_here l))))
  after_alike (command.Disconnect l member) within =
      link_changed l (fin.remove (link_in s l) member) (fin.remove (link_in t l) member)
      (ap (λ (x : Link). fin.remove x member)
      (same_link schema at s t l a (within (link l) (exclusive_here l))))
  after_alike (command.Get f key) within = a
  after_alike (command.Members l owner order) within = a
  after_alike (command.Owner l member) within = a
  after_alike (command.Find q) within = a
  after_alike command.Begin within = a
  after_alike command.Commit within = a
  after_alike command.Abort within = a
  after_alike (command.ReorganizeFile f) within = a
  after_alike (command.ReorganizeLink l) within = a
  after_alike command.Nothing within = a

  either_alike : (b : Bool) (x y : State) → Agree schema at x y
      → Agree schema at (cond b s x) (cond b t y)
  either_alike true x y h = a
  either_alike false x y h = h

  -- it leaves both the same
  pub next_alike : (c : Command) → LocksWithin schema c at
      → Agree schema at (next_state schema s c) (next_state schema t c)
  next_alike c within =
      subst (λ (why : Option Refusal). Agree schema at
      (cond (is_some (refusal_of schema s c)) s (state_after s c))
      (cond (is_some why) t (state_after t c)))
      (refusal_alike schema at s t a c within)
      (either_alike (is_some (refusal_of schema s c)) (state_after s c) (state_after t c)
      (after_alike c within))

-- ---- what stays

module _ (schema : Schema) (at : Item → Bool) (s : State) (is : IsSized schema s) where
  other_file : (i : ℕ) (f : File) → (i < length schema.files → at (file i) ≡ false)
      → Agree schema at s (with_file s i f)
  other_file i f away = record {
    one = is;
    other = sized_file schema s i f is;
    files = λ j lt h. sym (get_or-set_other s.files i j f fin.empty
        (λ e. true≢false (sym h ∙ ap (λ n. at (file n)) e
        ∙ away (subst (λ n. n < length schema.files) e lt))));
    links = λ j lt h. refl;
  }

  other_link : (i : ℕ) (l : Link) → (i < length schema.links → at (link i) ≡ false)
      → Agree schema at s (with_link s i l)
  other_link i l away = record {
    one = is;
    other = sized_link schema s i l is;
    files = λ j lt h. refl;
    links = λ j lt h. sym (get_or-set_other s.links i j l fin.empty
        (λ e. true≢false (sym h ∙ ap (λ n. at (link n)) e
        ∙ away (subst (λ n. n < length schema.links) e lt))));
  }

  after_elsewhere : (c : Command) → LocksElsewhere schema c at
      → Agree schema at s (state_after s c)
  after_elsewhere (command.Insert f values) away =
      other_file f (inserted (file_in s f) values) (λ lt. away (file f) lt (exclusively_here f))
  after_elsewhere (command.Update f key changes) away =
      other_file f (updated (file_in s f) key changes) (λ lt. away (file f) lt (exclusively_here f))
  after_elsewhere (command.Delete f key) away =
      other_file f (fin.remove (file_in s f) key) (λ lt. away (file f) lt (exclusively_here f))
  after_elsewhere (command.Connect l owner member) away =
      other_link l (fin.insert (link_in s l) member owner)
      (λ lt. away (link l) lt (exclusively_here l))
  after_elsewhere (command.Disconnect l member) away =
      other_link l (fin.remove (link_in s l) member) (λ lt. away (link l) lt (exclusively_here l))
  after_elsewhere (command.Get f key) away = agree_itself schema at s is
  after_elsewhere (command.Members l owner order) away = agree_itself schema at s is
  after_elsewhere (command.Owner l member) away = agree_itself schema at s is
  after_elsewhere (command.Find q) away = agree_itself schema at s is
  after_elsewhere command.Begin away = agree_itself schema at s is
  after_elsewhere command.Commit away = agree_itself schema at s is
  after_elsewhere command.Abort away = agree_itself schema at s is
  after_elsewhere (command.ReorganizeFile f) away = agree_itself schema at s is
  after_elsewhere (command.ReorganizeLink l) away = agree_itself schema at s is
  after_elsewhere command.Nothing away = agree_itself schema at s is

  either_stays : (b : Bool) (x : State) → Agree schema at s x → Agree schema at s (cond b s x)
  either_stays true x h = agree_itself schema at s is
  either_stays false x h = h

  -- it leaves what it doesn't lock exclusively as it is
  pub next_elsewhere : (c : Command) → LocksElsewhere schema c at
      → Agree schema at s (next_state schema s c)
  next_elsewhere c away =
      either_stays (is_some (refusal_of schema s c)) (state_after s c) (after_elsewhere c away)
