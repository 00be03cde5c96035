-- Blocks from which the same is read.
use Rattle.std.proofs.Common.{◌≡◌, ◌∙◌, ℕ, ◌≤◌, Bool, true, false, not, List, [], length, get_or, IsTrue, refl, sym, ap, subst, Result, Ok, Err}
use Rattle.std.specs.Prelude.{IfOk, OnOk}
use Rattle.gx_device.specs.Content.{Content, block_of}
use Rattle.gx_ports.specs.declared.kinds.LeafSpec.{LeafSpec}
use Rattle.gx_ports.specs.Heads.{Head}
use Rattle.gx_ports.specs.LeafMaps.{LeafMap}
use Rattle.gx_layout.specs.Layout.{OnlyBlocks, head_blocks, table_pages, pages_of, head_of, is_open}
use Rattle.gx_ports.specs.Sheets.{Ground}
use Rattle.gx_layout.specs.Head.{HasMagic}
use Rattle.gx_layout.specs.Recovered.{replayed_pages, IsOfRecovery}
use Rattle.gx_journal.specs.State.{head_told, homes_told}
use Rattle.gx_journal.specs.declared.opening.Unopened.{Unopened as NoJournal}
use Rattle.gx_journal.specs.declared.opening.Unopened.TheVariants as journal
use Rattle.gx_pages.specs.Owners.{sheets_of}
use Rattle.gx_store.specs.Causes.{no_journal}
use Rattle.gx_store.specs.Device.{IsSize, AreMaps, AreTexts, IsHeadOf, ReadAlike, Reopens, ground_on}
use Rattle.gx_store.specs.Opening.{AreOpened, IsRecoveryOf}
use Rattle.gx_store.specs.Store.{is_fault}
use Rattle.gx_store.proofs.GroundLemmas.{maps_moved}
use Rattle.gx_store.proofs.SettledLemmas.{home_replayed, homes_are}

pub alike_itself : (blocks : List (List ℕ)) → ReadAlike blocks blocks
alike_itself blocks = record { count = refl; head = refl; pages = refl }

pub alike_back : (old new : List (List ℕ)) → ReadAlike old new → ReadAlike new old
alike_back old new is = record { count = sym is.count; head = sym is.head; pages = sym is.pages }

-- what opens one opens the other, with the same maps
pub reopens_alike : (schema equation : List ℕ) (specs : List LeafSpec) (maps : List LeafMap)
    (old new : List (List ℕ)) → ReadAlike old new
    → Reopens schema equation specs maps old → Reopens schema equation specs maps new
reopens_alike schema equation specs maps old new same is = record {
  size = subst (λ (n : ℕ). IsSize specs n) (sym same.count) is.size;
  magic = subst (λ (n : ℕ). HasMagic n (get_or new 0 [])) (sym same.count)
      (subst (λ (h : List (List ℕ)). HasMagic (length old) (get_or h 0 [])) (sym same.head)
      is.magic);
  texts = subst (λ (h : List (List ℕ)). AreTexts schema equation h) (sym same.head) is.texts;
  leaves = maps_moved (ground_on old) (ground_on new) (ap pages_of (sym same.count))
      (ap table_pages (sym same.count)) specs maps
      (sheets_of (replayed_pages new))
      (subst (λ (ps : List (List ℕ)). AreMaps (ground_on old) specs maps (sheets_of ps))
      (sym same.pages) is.leaves);
}

-- recovered blocks read as those that were there
pub recovered_alike : (tells : Bool) (P : ℕ) (old new : Content) → IsTrue tells
    → length new.now.blocks ≡ length old.now.blocks
    → head_blocks (length new.now.blocks) ≤ length new.now.blocks
    → head_told tells new ≡ head_of old.now.blocks → P ≡ pages_of (length new.now.blocks)
    → is_open (block_of new.now 1) ≡ false
    → homes_told tells P new ≡ replayed_pages old.now.blocks
    → ReadAlike old.now.blocks new.now.blocks
recovered_alike tells P old new told count room head many gate kept = record {
  count = count;
  head = sym (ap (λ (b : Bool). head_told b new) told) ∙ head;
  pages = sym (home_replayed new.now.blocks room gate)
      ∙ sym (homes_are tells P new told many) ∙ kept;
}

-- no block is written where there is no journal, unless a call failed
pub unwritten_by : (why : NoJournal) (old new : List (List ℕ))
    → (why ≡ journal.NoDatabase → new ≡ old)
    → (why ≡ journal.NoMemory → new ≡ old)
    → not (is_fault (no_journal why)) ≡ true → new ≡ old
unwritten_by journal.Fault old new none memory goes = absurd (let f : false ≡ true = goes in cc)
unwritten_by journal.NoMemory old new none memory goes = memory refl
unwritten_by journal.NoDatabase old new none memory goes = none refl

pub headed : {T E : Type 0} (r : Result T E) (H : T → Head) (schema equation : List ℕ)
    (specs : List LeafSpec) (blocks : List (List ℕ))
    → OnOk r (AreOpened schema equation specs blocks)
    → IfOk r (λ s. (H s).base ≡ ground_on blocks)
    → IfOk r (λ s. (H s).leaves ≡ specs)
    → IfOk r (λ s. IsHeadOf schema equation specs (H s))
headed (Ok s) H schema equation specs blocks opened base leaves = record {
  magic = subst (λ (b : Ground). HasMagic b.blocks (get_or b.head 0 [])) (sym base) opened.magic;
  texts = subst (λ (b : Ground). AreTexts schema equation b.head) (sym base) opened.texts;
  leaves = leaves;
}
headed (Err e) H schema equation specs blocks opened head leaves = tt

pub recovery_itself : (blocks : List (List ℕ)) → IsRecoveryOf blocks blocks
recovery_itself blocks = record { count = refl; others = λ n not. refl }

pub recovery_of : (size : ℕ) (old new : Content) → size ≡ length old.now.blocks
    → OnlyBlocks (IsOfRecovery (pages_of size) old.now.blocks) old new
    → IsRecoveryOf old.now.blocks new.now.blocks
recovery_of size old new same o = record {
  count = o.count;
  others = λ n not. o.blocks n
      (λ is. not (subst (λ (k : ℕ). IsOfRecovery (pages_of k) old.now.blocks n) same is));
}

pub recovery_then : (old mid new : List (List ℕ)) → IsRecoveryOf old mid → new ≡ mid
    → IsRecoveryOf old new
recovery_then old mid new is same =
    subst (λ (bs : List (List ℕ)). IsRecoveryOf old bs) (sym same) is
