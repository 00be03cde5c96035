-- A script that is played on a store: what a crash leaves, and what the play keeps.
use Rattle.std.proofs.Common.{◌≡◌, ℕ, Bool, false, List, length, Result, Err, subst}
use Rattle.gx_device.specs.declared.device.Device as device
use Rattle.gx_device.specs.Crash.{EachImage, LeavesOnly}
use Rattle.gx_ports.specs.declared.pages.Place.{Place}
use Rattle.gx_ports.specs.declared.view.View.{Ghosts}
use Rattle.gx_ports.specs.Heads.{Head}
use Rattle.gx_ports.specs.LeafMaps.{LeafMap}
use Rattle.gx_schema.specs.declared.schema.Schema.{Schema}
use Rattle.gx_journal.specs.declared.journal.Journal.{Journal}
use Rattle.gx_journal.specs.Journal.{IsCalm, content_of, device_of}
use Rattle.gx_pages.specs.Laws.{calm_stands}
use Rattle.gx_pages.specs.Paged.{StandsFor as PagesStandFor, ground_of, kept_sheets}
use Rattle.gx_leaves.specs.PagedLaws.{stored_kept}
use Rattle.gx_leaves.specs.Places.{places_of, specs_of}
use Rattle.gx_leaves.specs.Wholeness.{AreWhole, IsLaid, StandsFor, maps_of}
use Rattle.gx_types.specs.declared.built.Built.{Built}
use Rattle.gx_model.specs.States.{State}
use Rattle.gx_states.specs.Internal.{AreInternal}
use Rattle.gx_engine.specs.Crashes.{HoldsState}
use Rattle.gx_play.specs.declared.ending.Ending.{Ending}
use Rattle.gx_play.specs.Endings.{is_outside, is_fault}
use Rattle.gx_play.specs.Overs.{IsPlayedOf, IsImageOf, LeavesPlayOf}
use Rattle.gx_play.specs.Player.{Play}
use Rattle.gx_operations.specs.Damage.{IsDamageOf}
use Rattle.gx_operations.specs.Held.{StoreState}
use Rattle.gx_operations.proofs.CrashLemmas.{leaves_weaker}
use Rattle.gx_operations.proofs.DamageLemmas.{damage_kept}
use Rattle.gx_operations.proofs.PlayerLemmas.{same_play, played_finer}

-- ---- images

-- where it is calm each image stands for what is kept
module _ {D : Type 0} {g : device.Ghosts D} where
  pub store_images : (j : Journal D g) (places : List Place) (tells : Bool) (steady : Type 0)
      (schema : Schema) (built : Built) (s : State) (head : Head)
      → record { base = ground_of j; leaves = specs_of places } ≡ head
      → g.size (device_of j) ≡ length (content_of j).now.blocks → IsCalm j (content_of j)
      → places ≡ places_of (ground_of j) (specs_of places)
      → AreWhole tells steady (ground_of j) places (kept_sheets j)
      → AreInternal schema built (maps_of (ground_of j) places (kept_sheets j)) s
      → EachImage (λ image. StoreState schema built head s image.blocks) (content_of j).now
  store_images j places tells steady schema built s head same sized calm at whole internal =
      λ image is.
      let quiet = (calm_stands j sized (content_of j) calm).last image is in
      let stored = stored_kept tells steady PagesStandFor (ground_of j) places at (kept_sheets j)
      image.blocks quiet.is in
      record {
        maps = maps_of (ground_of j) places (kept_sheets j);
        internal = internal;
        is = subst (λ (h : Head). StandsFor PagesStandFor h
            (maps_of (ground_of j) places (kept_sheets j)) image.blocks) same stored.is;
        laid = subst (λ (h : Head). IsLaid PagesStandFor h image.blocks) same
            (stored.laid_is whole);
      }

-- what a crash leaves while it is played, in the words of blocks
pub play_leaves : {S M : Type 0} (g : Ghosts S) (schema : Schema) (built : Built) (p : Play M)
    (failed : Bool) (old new : S)
    → ((head : Head) (maps : List LeafMap) (blocks : List (List ℕ)) → g.stands head maps blocks
    → StandsFor PagesStandFor head maps blocks)
    → ((head : Head) (blocks : List (List ℕ)) → g.laid head blocks
    → IsLaid PagesStandFor head blocks)
    → LeavesPlayOf g schema built p failed old new
    → LeavesOnly (IsImageOf p (StoreState schema built (g.head old)) (g.content old).now)
    (g.content old) (g.content new)
play_leaves g schema built p failed old new stands laid leaves =
    leaves_weaker (IsImageOf p (HoldsState g schema built (g.head old)) (g.content old).now)
    (IsImageOf p (StoreState schema built (g.head old)) (g.content old).now)
    (λ image is. record {
      told = is.told;
      final = is.final;
      front = is.front;
      said = is.said;
      holds = record {
        maps = is.holds.maps;
        internal = is.holds.internal;
        is = stands (g.head old) is.holds.maps image.blocks is.holds.is;
        laid = laid (g.head old) image.blocks is.holds.laid;
      };
      shelf = is.shelf;
    }) (g.content old) (g.content new) leaves.images

-- ---- damage

-- where it began with a state no damage was found, so the block of it changes nothing
damage_played : {M : Type 0} (p : Play M) (Settled Stored : State → Type 0)
    (before now : List ℕ) (why other : Ending) → IsDamageOf why other
    → IsPlayedOf p (λ k. Settled k × (is_outside why ≡ false → Stored k)) before now (Err why)
    → IsPlayedOf p (λ k. Settled k × (is_outside other ≡ false → Stored k)) before now (Err other)
damage_played p Settled Stored before now why other of is =
    damage_kept (λ w. IsPlayedOf p (λ k. Settled k × (is_outside w ≡ false → Stored k)) before now
    (Err w)) (λ block to found. found) why other of is

-- ---- the end

-- What the play of a script over a store answered, after it was closed: `Settled` and, where no call
-- failed, `Stored` hold of the state that it keeps.
module _ {M : Type 0} (p : Play M) (Kept Settled Stored : State → Type 0)
    (before now : List ℕ) (played : Result (Unit {0}) Ending)
    (is : IsPlayedOf p Kept before now played)
    (settle : (k : State) → Kept k → Settled k)
    (images : is_fault played ≡ false → (k : State) → Kept k → Stored k) where
  abbrev pub After : Result (Unit {0}) Ending → Type 0
  After r = IsPlayedOf p (λ k. Settled k × (is_fault r ≡ false → Stored k)) before now r

  after : After played
  after =
      played_finer p p (same_play p) Kept (λ k. Settled k × (is_fault played ≡ false → Stored k))
      (λ k kept. (settle k kept, λ calm. images calm k kept)) before now played is

  pub store_played : (r : Result (Unit {0}) Ending) → played ≡ r → After r
  store_played r same = subst After same after

  pub store_stopped : (why other : Ending) → played ≡ Err why → IsDamageOf why other
      → After (Err other)
  store_stopped why other same of =
      damage_played p Settled Stored before now why other of (subst After same after)
