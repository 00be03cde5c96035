-- Devices of other names.
use Rattle.std.proofs.Common.{◌≡◌, ◌≢◌, ◌∙◌, ℕ, Bool, false, List, Some, cond, sym, ap}
use Rattle.std.proofs.lemmas.Bool.{false_from_ne_true}
use Rattle.std.specs.FinMap as fin
use Rattle.std.specs.Ordering.{eq_by_cmp}
use Rattle.std.specs.Cmp.Lexicographic.{nat_list_cmp_total}
use Rattle.gx_device.specs.Content.{Moment, Shelf, device_at, with_named}
use Rattle.gx_ports.specs.Keyed.{key_cmp}
use Rattle.gx_ports.proofs.KeyLemmas.{same_key}

-- they don't stand on the attached one
off_name : (m : Moment) (name other : List ℕ) → m.shelf.name ≡ Some name → other ≢ name
    → device_at m other ≡ fin.get m.shelf.devices other
off_name m name other named differ =
    let off : eq_by_cmp key_cmp other name ≡ false =
    false_from_ne_true (eq_by_cmp key_cmp other name)
    (λ e. differ (same_key other name e)) in
    ap (λ n. fin.get (with_named n m.blocks m.shelf.devices) other) named
    ∙ fin.get-insert nat_list_cmp_total m.shelf.devices name m.blocks other
    ∙ ap (λ (b : Bool). cond b (Some m.blocks) (fin.get m.shelf.devices other)) off

pub other_at : (m n : Moment) (name other : List ℕ) → m.shelf.name ≡ Some name → n.shelf ≡ m.shelf
    → other ≢ name → device_at n other ≡ device_at m other
other_at m n name other named shelf differ =
    off_name n name other (ap (λ (s : Shelf). s.name) shelf ∙ named) differ
    ∙ ap (λ (s : Shelf). fin.get s.devices other) shelf ∙ sym (off_name m name other named differ)
