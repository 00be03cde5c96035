-- What blocks hold of accepted texts, in the words of what is stored.
use Rattle.std.proofs.Common.{◌≡◌, ◌∙◌, ℕ, List, length, sym, subst}
use Rattle.std.proofs.lemmas.Option.{same_Some}
use Rattle.gx_device.specs.Content.{Content}
use Rattle.gx_ports.specs.declared.kinds.LeafSpec.{LeafSpec}
use Rattle.gx_ports.specs.LeafMaps.{LeafMap}
use Rattle.gx_ports.specs.Heads.{Head}
use Rattle.gx_pages.specs.Paged.{StandsFor as PagesStandFor}
use Rattle.gx_leaves.specs.Wholeness.{IsLaid, StandsFor}
use Rattle.gx_schema.specs.declared.schema.Schema.{Schema}
use Rattle.gx_schema.specs.Printing.{schema_text}
use Rattle.gx_equation.specs.Printing.{equation_text}
use Rattle.gx_types.specs.declared.built.Built.{Built}
use Rattle.gx_model.specs.States.{State}
use Rattle.gx_states.specs.Internal.{AreInternal}
use Rattle.gx_states.proofs.TermLemmas.{form_of_nodes, nodes_of_form}
use Rattle.gx_states.proofs.ToldLemmas.{state_told}
use Rattle.gx_store.specs.Device.{IsHeadOf, IsSize, Reopens, IsSettled, ReadAlike, ground_on}
use Rattle.gx_store.proofs.AlikeLemmas.{reopens_alike}
use Rattle.gx_store.proofs.SettledLemmas.{settled_reopens}
use Rattle.gx_store.proofs.StoredLemmas.{stored_reopens}
use Rattle.gx_states.specs.Built.{IsBuiltOf}
use Rattle.gx_requests.specs.declared.opened.Stored.{Stored}
use Rattle.gx_requests.specs.Checked.{IsStored}
use Rattle.gx_operations.specs.Given.{Given, under, IsInternalOf, HoldState, SettleState, IsHeldOn, IsStoredAs}

-- ---- the internal form

pub internal_of : (g : Given) (built : Built) (maps : List LeafMap) (s : State)
    → IsBuiltOf g.schema g.definitions built → AreInternal g.schema built maps s
    → IsInternalOf g maps s
internal_of g built maps s trees is = form_of_nodes g.schema g.definitions built maps s trees is

-- back, in the nodes that are given
pub internal_in : (g : Given) (built : Built) (maps : List LeafMap) (s : State)
    → IsBuiltOf g.schema g.definitions built → IsInternalOf g maps s
    → AreInternal g.schema built maps s
internal_in g built maps s trees is = nodes_of_form g.schema g.definitions built maps s trees is

-- ---- blocks

-- what opens to the same holds the same
pub hold_alike : (g : Given) (s : State) (old new : List (List ℕ)) → ReadAlike old new
    → HoldState g s old → HoldState g s new
hold_alike g s old new alike held = record {
  maps = held.maps;
  reopens = reopens_alike (schema_text g.schema) (equation_text g.definitions) g.typing.specs
      held.maps old new alike held.reopens;
  internal = held.internal;
}

-- what is settled with a state reopens to it
pub settle_holds : (g : Given) (s : State) (blocks : List (List ℕ)) → SettleState g s blocks
    → HoldState g s blocks
settle_holds g s blocks is = record {
  maps = is.maps;
  reopens = settled_reopens (schema_text g.schema) (equation_text g.definitions) g.typing.specs
      is.maps blocks is.settled;
  internal = is.internal;
}

-- blocks reopen to one list of maps
pub maps_once : (g : Given) (maps other : List LeafMap) (blocks : List (List ℕ))
    → under g Reopens maps blocks → under g Reopens other blocks → other ≡ maps
maps_once g maps other blocks one two = sym two.leaves.maps_are ∙ one.leaves.maps_are

-- the state is held in the maps that they reopen to
pub internal_there : (g : Given) (maps : List LeafMap) (s : State) (blocks : List (List ℕ))
    → under g Reopens maps blocks → HoldState g s blocks → IsInternalOf g maps s
internal_there g maps s blocks reopens held =
    subst (λ (m : List LeafMap). IsInternalOf g m s)
    (maps_once g maps held.maps blocks reopens held.reopens) held.internal

-- ---- what is stored of accepted texts

module _ (g : Given) (x : Stored) (of : IsStoredAs g x) where
  -- what is said of its texts and kinds of leaves
  pub under_given : (P : List ℕ → List ℕ → List LeafSpec → Type 0)
      → P x.schema_text x.equation_text x.built.specs → under g P
  under_given P is =
      subst (λ t. P t (equation_text g.definitions) g.typing.specs) of.schema_text
      (subst (λ t. P x.schema_text t g.typing.specs) of.equation_text
      (subst (λ k. P x.schema_text x.equation_text k) of.specs is))

  pub under_stored : (P : List ℕ → List ℕ → List LeafSpec → Type 0) → under g P
      → P x.schema_text x.equation_text x.built.specs
  under_stored P is =
      subst (λ t. P t x.equation_text x.built.specs) (sym of.schema_text)
      (subst (λ t. P (schema_text g.schema) t x.built.specs) (sym of.equation_text)
      (subst (λ k. P (schema_text g.schema) (equation_text g.definitions) k) (sym of.specs) is))

  -- its nodes
  pub internal_given : (maps : List LeafMap) (s : State) → AreInternal x.schema x.built maps s
      → IsInternalOf g maps s
  internal_given maps s is =
      internal_of g x.built maps s of.trees
      (subst (λ (schema : Schema). AreInternal schema x.built maps s) of.schema is)

  pub internal_stored : (maps : List LeafMap) (s : State) → IsInternalOf g maps s
      → AreInternal x.schema x.built maps s
  internal_stored maps s is =
      subst (λ (schema : Schema). AreInternal schema x.built maps s) (sym of.schema)
      (internal_in g x.built maps s of.trees is)

  -- blocks that reopen to maps in which its nodes hold a state
  pub hold_given : (maps : List LeafMap) (s : State) (blocks : List (List ℕ))
      → Reopens x.schema_text x.equation_text x.built.specs maps blocks
      → AreInternal x.schema x.built maps s → HoldState g s blocks
  hold_given maps s blocks reopens is = record {
    maps = maps;
    reopens = under_given (λ t e k. Reopens t e k maps blocks) reopens;
    internal = internal_given maps s is;
  }

  pub settle_given : (maps : List LeafMap) (s : State) (blocks : List (List ℕ))
      → IsSettled x.schema_text x.equation_text x.built.specs maps blocks
      → AreInternal x.schema x.built maps s → SettleState g s blocks
  settle_given maps s blocks settled is = record {
    maps = maps;
    settled = under_given (λ t e k. IsSettled t e k maps blocks) settled;
    internal = internal_given maps s is;
  }

  -- blocks that stand for such maps, under a head that was read from a device of such a size
  pub stored_given : (head : Head) (start blocks : List (List ℕ)) (maps : List LeafMap) (s : State)
      → head.base ≡ ground_on start → IsHeadOf x.schema_text x.equation_text x.built.specs head
      → IsSize x.built.specs (length start) → StandsFor PagesStandFor head maps blocks
      → IsLaid PagesStandFor head blocks → AreInternal x.schema x.built maps s
      → HoldState g s blocks
  stored_given head start blocks maps s ground is_head size stands laid is =
      hold_given maps s blocks
      (stored_reopens x.schema_text x.equation_text x.built.specs head start blocks maps (Unit {0})
      ground tt (record { is = stands; laid_is = λ whole. laid }) is_head size) is

  -- the state that blocks hold, in the maps that they reopen to
  pub held_there : (maps : List LeafMap) (s : State) (blocks : List (List ℕ))
      → Reopens x.schema_text x.equation_text x.built.specs maps blocks → HoldState g s blocks
      → AreInternal x.schema x.built maps s
  held_there maps s blocks reopens held =
      internal_stored maps s
      (internal_there g maps s blocks (under_given (λ t e k. Reopens t e k maps blocks) reopens)
      held)

  -- they hold one state
  pub state_once : IsStored x → (s t : State) (blocks : List (List ℕ)) → HoldState g s blocks
      → HoldState g t blocks → s ≡ t
  state_once is s t blocks one two =
      state_told x.schema x.built (length x.built.specs) one.maps s t is.can_play.0
      (internal_stored one.maps s one.internal)
      (internal_stored one.maps t (internal_there g one.maps t blocks one.reopens two))

  -- and so does a device
  pub held_once : IsStored x → (device : List ℕ) (c : Content) (s t : State)
      → IsHeldOn g device s c → IsHeldOn g device t c → s ≡ t
  held_once is device c s t one two =
      state_once is s t one.0 one.2
      (subst (HoldState g t) (same_Some two.0 one.0 (sym two.1 ∙ one.1)) two.2)
