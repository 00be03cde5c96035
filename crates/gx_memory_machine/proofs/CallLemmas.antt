-- What a call of a machine in memory does to what it tells.
use Rattle.std.proofs.Common.{◌≡◌, inl, inr, ap, sym, refl, ◌∙◌, ℕ, List, [], ◌∷◌, ◌++◌, Bool, true, false, length, get_or, Option, Some, None}
use Rattle.std.specs.Prelude.{if◌then◌else◌, is_some, is_none, Result, OnOk, Ok, Err}
use Rattle.std.specs.Option.{option_map_or}
use Rattle.std.specs.FinMap.{get}
use Rattle.std.proofs.lemmas.List.{set-get_or}
use Rattle.gx_laws.proofs.ListLemmas.{no_flag}
use Rattle.gx_device.specs.Content.{Moment, Content, Ticks, OnlyTime, Writes, IsAttached, IsOpened, IsMade, block_of, is_pending, devices_of, zero_blocks}
use Rattle.gx_memory_machine.specs.Log.{with_device, blocks_in}
use Rattle.gx_memory_machine.specs.Trace.{blocks_given, is_there}

-- a call takes its moment, or has none
pub ticks : (none : Bool) (old new : Content) → new.now ≡ old.now → new.script ≡ old.script
    → new.aside ≡ old.aside
    → new.past ≡ (if none then old.past else old.past ++ old.now ∷ []) → Ticks old new
ticks true old new now script aside past =
    inr (λ i. record { now = now i; script = script i; aside = aside i; past = past i })
ticks false old new now script aside past = inl past

-- where nothing changes but the clock, a block was written as it is
pub writes_nothing : (n : ℕ) (old new : Content) → OnlyTime old new
    → length (block_of old.now n) ≡ 4096 → Writes n old new
writes_nothing n old new r whole = record {
  time = r.time;
  bytes = block_of old.now n;
  flag = is_pending old.now n;
  size = whole;
  blocks = ap (λ (m : Moment). m.blocks) r.now ∙ sym (set-get_or old.now.blocks n []);
  pending = ap (λ (m : Moment). m.pending) r.now ∙ sym (set-get_or old.now.pending n false);
  said = ap (λ (m : Moment). m.said) r.now;
  shelf = ap (λ (m : Moment). m.shelf) r.now;
  script = r.script;
  aside = r.aside;
}

pub on_ok_both : {T E P Q R : Type 0} (r : Result T E) → (P → Q → R) → OnOk r P → OnOk r Q
    → OnOk r R
on_ok_both (Ok x) f p q = f p q
on_ok_both (Err e) f p q = p

-- what a finite map has, and what it hasn't
some_blocks : (o : Option (List (List ℕ))) → is_some o ≡ true
    → o ≡ Some (option_map_or (λ (b : List (List ℕ)). b) o [])
some_blocks None is = absurd (let e : ◌≡◌ {A = Bool} false true = is in cc)
some_blocks (Some b) is = refl

no_blocks : (o : Option (List (List ℕ))) → is_some o ≡ false → o ≡ None
no_blocks None is = refl
no_blocks (Some b) is = absurd (let e : ◌≡◌ {A = Bool} true false = is in cc)

-- a device is attached
module _ (old new : Content) (given name : List ℕ) (make : Option ℕ) (before : Moment)
    (named : given ≡ name) (was : before ≡ old.now)
    (script : new.script ≡ old.script) (aside : new.aside ≡ old.aside)
    (now : new.now ≡ with_device before given (blocks_given (devices_of before) given make))
    (there : is_there (devices_of before) given ≡ is_none make) where
  after : new.now ≡ with_device old.now name (blocks_given (devices_of old.now) name make)
  after = now ∙ (λ i. with_device (was i) (named i)
      (blocks_given (devices_of (was i)) (named i) make))

  was_there : is_there (devices_of old.now) name ≡ is_none make
  was_there = sym (λ i. is_there (devices_of (was i)) (named i)) ∙ there

  is_attached : (blocks : List (List ℕ)) → blocks_given (devices_of old.now) name make ≡ blocks
      → IsAttached name blocks old new
  is_attached blocks is =
      let end = after ∙ ap (with_device old.now name) is in
      record {
        blocks_are = ap (λ (m : Moment). m.blocks) end;
        named = ap (λ (m : Moment). m.shelf.name) end;
        others = ap (λ (m : Moment). m.shelf.devices) end;
        said = ap (λ (m : Moment). m.said) end;
        script = script;
        aside = aside;
      }

  pub is_opened : make ≡ None → IsOpened name old new
  is_opened opens = record {
    blocks = blocks_in (devices_of old.now) name;
    was = some_blocks (get (devices_of old.now) name)
        (was_there ∙ ap (λ (o : Option ℕ). is_none o) opens);
    attached = is_attached (blocks_in (devices_of old.now) name)
        (ap (blocks_given (devices_of old.now) name) opens);
  }

  pub is_made : (n : ℕ) → make ≡ Some n → IsMade n name old new
  is_made n makes = record {
    free = no_blocks (get (devices_of old.now) name)
        (was_there ∙ ap (λ (o : Option ℕ). is_none o) makes);
    attached = is_attached (zero_blocks n) (ap (blocks_given (devices_of old.now) name) makes);
    none_pending = λ k.
        let end = after ∙ ap (λ (o : Option ℕ). with_device old.now name
        (blocks_given (devices_of old.now) name o)) makes in
        ap (λ (m : Moment). get_or m.pending k false) end ∙ no_flag (length (zero_blocks n)) k;
  }
