-- The device of a name, and the others, while one is attached.
use Rattle.std.proofs.Common.{◌≡◌, ◌≢◌, ◌∙◌, ℕ, Bool, false, List, Some, None, cond, refl, sym, ap}
use Rattle.std.specs.FinMap as fin
use Rattle.std.specs.Ordering.{eq_by_cmp}
use Rattle.std.specs.Cmp.Lexicographic.{nat_list_cmp_total}
use Rattle.std.proofs.lemmas.Bool.{false_from_ne_true}
use Rattle.gx_device.specs.Content.{Moment, Content, Shelf, Devices, Silent, SameContent, IsAttached, device_at, devices_of, with_named}
use Rattle.gx_ports.specs.Keyed.{key_cmp}
use Rattle.gx_ports.proofs.KeyLemmas.{same_key, tied}
use Rattle.gx_store.specs.Store.{Attaches}

pub silent_itself : (a : Content) → Silent a a
silent_itself a = record { said = refl; shelf = refl; script = refl; aside = refl }

other_named : (devices : Devices) (name : List ℕ) (blocks : List (List ℕ)) (other : List ℕ)
    → other ≢ name
    → fin.get (with_named (Some name) blocks (fin.remove devices name)) other
    ≡ fin.get devices other
other_named devices name blocks other differ =
    let off : eq_by_cmp key_cmp other name ≡ false =
    false_from_ne_true (eq_by_cmp key_cmp other name) (λ e. differ (same_key other name e)) in
    fin.get-insert nat_list_cmp_total (fin.remove devices name) name blocks other
    ∙ ap (λ (b : Bool). cond b (Some blocks) (fin.get (fin.remove devices name) other)) off
    ∙ fin.get-remove nat_list_cmp_total devices name other
    ∙ ap (λ (b : Bool). cond b None (fin.get devices other)) off

-- the attached one has the blocks
pub named_at : (m : Moment) (name : List ℕ) → m.shelf.name ≡ Some name
    → device_at m name ≡ Some m.blocks
named_at m name named =
    ap (λ n. fin.get (with_named n m.blocks m.shelf.devices) name) named
    ∙ fin.get-insert nat_list_cmp_total m.shelf.devices name m.blocks name
    ∙ ap (λ (b : Bool). cond b (Some m.blocks) (fin.get m.shelf.devices name)) (tied name)

-- and the others are as they stand among the rest
pub other_at : (m : Moment) (name : List ℕ) → m.shelf.name ≡ Some name → (other : List ℕ)
    → other ≢ name → device_at m other ≡ fin.get m.shelf.devices other
other_at m name named other differ =
    let off : eq_by_cmp key_cmp other name ≡ false =
    false_from_ne_true (eq_by_cmp key_cmp other name) (λ e. differ (same_key other name e)) in
    ap (λ n. fin.get (with_named n m.blocks m.shelf.devices) other) named
    ∙ fin.get-insert nat_list_cmp_total m.shelf.devices name m.blocks other
    ∙ ap (λ (b : Bool). cond b (Some m.blocks) (fin.get m.shelf.devices other)) off

-- a call in which no device is attached, after one of that name was
pub attaches_later : (name : List ℕ) (a b c : Content) → Attaches name a b
    → b.now.shelf.name ≡ Some name → Silent b c → Attaches name a c
attaches_later name a b c first named silent = record {
  said = silent.said ∙ first.said;
  script = silent.script ∙ first.script;
  aside = silent.aside ∙ first.aside;
  others = λ other differ.
      other_at c.now name (ap (λ (s : Shelf). s.name) silent.shelf ∙ named) other differ
      ∙ ap (λ (s : Shelf). fin.get s.devices other) silent.shelf
      ∙ sym (other_at b.now name named other differ) ∙ first.others other differ;
}

module _ (name : List ℕ) (blocks : List (List ℕ)) (a b c : Content)
    (at : IsAttached name blocks a b)
    (silent : Silent b c) where
  pub attached_named : c.now.shelf.name ≡ Some name
  attached_named = ap (λ (s : Shelf). s.name) silent.shelf ∙ at.named

  pub attached_at : device_at c.now name ≡ Some c.now.blocks
  attached_at = named_at c.now name attached_named

  pub attached_rest : Attaches name a c
  attached_rest = record {
    said = silent.said ∙ at.said;
    script = silent.script ∙ at.script;
    aside = silent.aside ∙ at.aside;
    others = λ other differ.
        ap (λ n. fin.get (with_named n c.now.blocks c.now.shelf.devices) other) attached_named
        ∙ ap (λ (d : Devices). fin.get (with_named (Some name) c.now.blocks d) other)
        (ap (λ (s : Shelf). s.devices) silent.shelf ∙ at.others)
        ∙ other_named (devices_of a.now) name c.now.blocks other differ;
  }

-- where none was attached all is as it was
pub refused_rest : (name : List ℕ) (a b : Content) → SameContent a b → Attaches name a b
refused_rest name a b same = record {
  said = ap (λ (m : Moment). m.said) same.now;
  script = same.script;
  aside = same.aside;
  others = λ other differ. ap (λ (m : Moment). device_at m other) same.now;
}
