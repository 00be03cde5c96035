-- What a crash leaves while leaves are only read.
use Rattle.std.proofs.Common.{◌≡◌, ◌∙◌, ℕ, List, length, Some, Option, None, refl, sym, ap, subst}
use Rattle.gx_device.specs.declared.device.Device as device
use Rattle.gx_device.specs.Content.{Content, Silent}
use Rattle.gx_device.specs.Crash.{EachImage, LeavesOnly}
use Rattle.gx_device.specs.Quiet.{IsPrefix, IsQuiet, QuietSince}
use Rattle.gx_device.proofs.RunLemmas.{weakened}
use Rattle.gx_ports.specs.Sheets.{Sheets, Ground, Stored}
use Rattle.gx_ports.proofs.ImageLemmas.{prefix_both, quiet_images}
use Rattle.gx_journal.specs.declared.journal.Journal.{Journal}
use Rattle.gx_journal.specs.Journal.{IsCalm, content_of, device_of}
use Rattle.gx_pages.specs.Paged.{StandsFor, ground_of, kept_sheets}
use Rattle.gx_pages.specs.Laws.{calm_stands}
use Rattle.gx_pages.proofs.StandLemmas.{replays_one}
use Rattle.gx_store.specs.Device.{ReadAlike}
use Rattle.gx_store.specs.Crashes.{IsReplayed}

-- what stands for the same sheets reads alike
pub stand_alike : (base : Ground) (sheets : Sheets) (old new : List (List ℕ))
    → StandsFor base sheets old → StandsFor base sheets new → ReadAlike old new
stand_alike base sheets old new one two = record {
  count = two.shows.count ∙ sym one.shows.count;
  head = two.shows.head_is ∙ sym one.shows.head_is;
  pages = sym (replays_one new sheets.bytes two.shows.replays)
      ∙ replays_one old sheets.bytes one.shows.replays;
}

-- While it is quiet and nothing is said, the same is read from each image as from the blocks of the
-- beginning.
pub quiet_replayed : (base : Ground) (sheets : Sheets) (old new : Content)
    → StandsFor base sheets old.now.blocks → QuietSince (StandsFor base sheets) old new
    → Silent old new → LeavesOnly (IsReplayed old.now) old new
quiet_replayed base sheets old new before quiet silent =
    weakened (EachImage (IsQuiet (StandsFor base sheets) old.now new.now.said))
    (EachImage (IsReplayed old.now))
    (λ m leaves image at.
    let q = leaves image at in
    record {
      alike = stand_alike base sheets old.now.blocks image.blocks before q.is;
      said = prefix_both old.now.said image.said q.begins
          (subst (λ (s : List ℕ). IsPrefix image.said s) silent.said q.goes_on);
      shelf = q.shelf;
    }) old new (quiet_images (StandsFor base sheets) old new quiet)

module _ {M : Type 0} {g : device.Ghosts M} where
  -- A journal that is calm, and was only read since.
  pub read_replayed : (j k : Journal M g)
      → g.size (device_of j) ≡ length (content_of j).now.blocks
      → g.size (device_of k) ≡ length (content_of k).now.blocks
      → IsCalm j (content_of j) → IsCalm k (content_of j)
      → ground_of k ≡ ground_of j → kept_sheets k ≡ kept_sheets j
      → Silent (content_of j) (content_of k)
      → LeavesOnly (IsReplayed (content_of j).now) (content_of j) (content_of k)
  read_replayed j k sized_j sized_k calm_j calm_k ground sheets silent =
      let base = ground_of k in
      let kept = kept_sheets k in
      let before : StandsFor (ground_of j) (kept_sheets j) (content_of j).now.blocks =
      ((calm_stands j sized_j (content_of j) calm_j).last _ (record {
        said = refl;
        shelf = refl;
        count = refl;
        same = λ n below firm. refl;
      })).is in
      quiet_replayed base kept (content_of j) (content_of k)
      (subst (λ (b : Ground). StandsFor b kept (content_of j).now.blocks) (sym ground)
      (subst (λ (s : Sheets). StandsFor (ground_of j) s (content_of j).now.blocks) (sym sheets)
      before))
      (calm_stands k sized_k (content_of j) calm_k) silent

-- the one that is there
abbrev stored_or : Stored → Option Stored → Stored
stored_or d (Some s) = s
stored_or d None = d

-- what is stored is the ground and the sheets
pub same_ground : (a b : Ground) (s t : Sheets)
    → ◌≡◌ {A = Option Stored} (Some (record { ground = a; sheets = s }))
    (Some (record { ground = b; sheets = t })) → a ≡ b
same_ground a b s t same = ap (λ (o : Option Stored). (stored_or
    (record { ground = b; sheets = t }) o).ground) same

pub same_sheets : (a b : Ground) (s t : Sheets)
    → ◌≡◌ {A = Option Stored} (Some (record { ground = a; sheets = s }))
    (Some (record { ground = b; sheets = t })) → s ≡ t
same_sheets a b s t same = ap (λ (o : Option Stored). (stored_or
    (record { ground = b; sheets = t }) o).sheets) same
