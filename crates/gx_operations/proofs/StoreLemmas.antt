-- The limit of the leaves of a store, and what the blocks hold after it is closed.
use Rattle.std.proofs.Common.{◌≡◌, ◌+◌, List, ℕ, length, Some, sym, ap, subst, ◌∙◌}
use Rattle.std.proofs.lemmas.Option.{same_Some}
use Rattle.gx_device.specs.Content.{Content, device_at}
use Rattle.gx_ports.specs.declared.kinds.LeafSpec.{LeafSpec}
use Rattle.gx_ports.specs.declared.pages.Place.{Place}
use Rattle.gx_ports.specs.Heads.{Head}
use Rattle.gx_ports.specs.LeafMaps.{LeafMap}
use Rattle.gx_ports.specs.Roots.{root_pages}
use Rattle.gx_ports.specs.Sheets.{Ground}
use Rattle.gx_schema.specs.declared.schema.Schema.{Schema}
use Rattle.gx_leaves.specs.Places.{specs_of}
use Rattle.gx_leaves.specs.Wholeness.{limits_of}
use Rattle.gx_store.specs.Device.{IsHeadOf, IsSettled, ground_on}
use Rattle.gx_store.specs.Store.{OfBlocks}
use Rattle.gx_types.specs.declared.built.Built.{Built}
use Rattle.gx_model.specs.States.{State}
use Rattle.gx_states.specs.Internal.{AreInternal}
use Rattle.gx_operations.specs.Settled.{IsSettledIn, limits_on}

-- the same head tells which database it is
head_kept : (schema_text equation_text : List ℕ) (old new : Head) → new ≡ old
    → IsHeadOf schema_text equation_text old.leaves old
    → IsHeadOf schema_text equation_text new.leaves new
head_kept schema_text equation_text old new same is =
    subst (λ (h : Head). IsHeadOf schema_text equation_text h.leaves h) (sym same) is

pub settled_from : (schema : Schema) (built : Built) (schema_text equation_text : List ℕ)
    (old new : Head)
    (kept : List LeafMap) (blocks : List (List ℕ)) (s : State) → new ≡ old
    → IsHeadOf schema_text equation_text old.leaves old
    → (IsHeadOf schema_text equation_text new.leaves new
    → IsSettled schema_text equation_text new.leaves kept blocks) → AreInternal schema built kept s
    → IsSettledIn schema built schema_text equation_text old.leaves blocks s
settled_from schema built schema_text equation_text old new kept blocks s same is
    settled internal = (
      kept,
      subst (λ (h : Head). IsSettled schema_text equation_text h.leaves kept blocks) same
          (settled (head_kept schema_text equation_text old new same is)),
      internal,
    )

-- the same where the leaves were only read
pub settled_read : (schema_text equation_text : List ℕ) (old new : Head) (was kept : List LeafMap)
    (blocks : List (List ℕ)) → new ≡ old → kept ≡ was
    → IsHeadOf schema_text equation_text old.leaves old
    → (IsHeadOf schema_text equation_text new.leaves new
    → IsSettled schema_text equation_text new.leaves kept blocks)
    → IsSettled schema_text equation_text old.leaves was blocks
settled_read schema_text equation_text old new was kept blocks same maps_same is settled =
    subst (λ (ms : List LeafMap). IsSettled schema_text equation_text old.leaves ms blocks)
    maps_same
    (subst (λ (h : Head). IsSettled schema_text equation_text h.leaves kept blocks) same
    (settled (head_kept schema_text equation_text old new same is)))

-- ---- the limit of the leaves of a store

-- it is that of the blocks which were opened
pub limit_on : (device : List ℕ) (before : Content) (blocks : List (List ℕ)) (base : Ground)
    (places : List Place) (specs : List LeafSpec) → device_at before.now device ≡ Some blocks
    → OfBlocks device before (λ b. base ≡ ground_on b) → specs_of places ≡ specs
    → limits_of base places ≡ limits_on specs (length blocks)
limit_on device before blocks base places specs there is specs_are =
    let same : base ≡ ground_on blocks =
    is.2 ∙ ap ground_on (same_Some is.0 blocks (sym is.1 ∙ there)) in
    λ i. record {
      pages = (same i).size;
      fixed = (same i).tables + root_pages (specs_are i);
      blocks = (same i).blocks;
    }
