-- The machine below what is handed back.
use Rattle.std.proofs.Common.{◌≡◌, ◌∙◌, List, true, not, Result, Ok, Err, refl, sym, ap, subst}
use Rattle.std.specs.Prelude.{IfOk, IfErr}
use Rattle.gx_device.specs.declared.device.Device as device
use Rattle.gx_ports.specs.declared.page_view.PageView as page_view
use Rattle.gx_journal.specs.declared.journal.Journal.{Journal}
use Rattle.gx_journal.specs.Journal.{IsCalm, content_of, device_of}
use Rattle.gx_ports.specs.declared.kinds.LeafSpec.{LeafSpec}
use Rattle.gx_pages.specs.Paged.{ground_of}
use Rattle.gx_leaves.specs.Places.{specs_of}
use Rattle.gx_pages.specs.declared.paged.Paged.{Paged}
use Rattle.gx_pages.specs.View.{journal_of}
use Rattle.gx_leaves.specs.declared.paged.PagedLeaves.{PagedLeaves}
use Rattle.gx_leaves.specs.Paged.{pages_of, places_in}
use Rattle.gx_store.specs.Opened.{IsAdopted}
use Rattle.gx_store.specs.Store.{is_fault, machine_left, goes_on}
use Rattle.gx_store.specs.declared.unopened.Unopened.{Unopened}
use Rattle.gx_store.specs.declared.unopened.Unopened.TheVariants as unopened

module _ {M : Type 0} {g : device.Ghosts M} {v : page_view.Ghosts (Paged M g)} where
  pub left_is : (r : Result (PagedLeaves (Paged M g) v) (M × Unopened)) (k : Journal M g)
      → IfOk r (λ s. journal_of (pages_of s) ≡ k) → IfErr r (λ e. e.0 ≡ device_of k)
      → machine_left r ≡ device_of k
  left_is (Ok s) k is back = ap (λ (j : Journal M g). device_of j) is
  left_is (Err e) k is back = back

  pub goes_on_is : (r : Result (PagedLeaves (Paged M g) v) (M × Unopened))
      → IfErr r (λ e. e.1 ≡ unopened.NoMemory) → goes_on r ≡ true
  goes_on_is (Ok s) none = refl
  goes_on_is (Err e) none = ap (λ (w : Unopened). not (is_fault w)) none

  -- what leaves have that were adopted over a journal
  pub adopted_over : (r : Result (PagedLeaves (Paged M g) v) (M × Unopened)) (specs : List LeafSpec)
      (j k : Journal M g) → ground_of k ≡ ground_of j
      → (IsCalm j (content_of j) → IsCalm k (content_of k))
      → IfOk r (λ s. journal_of (pages_of s) ≡ k) → IfOk r (λ s. specs_of (places_in s) ≡ specs)
      → IfOk r (λ s. IsAdopted specs j s)
  adopted_over (Ok s) specs j k ground calm is kinds = record {
    specs_are = kinds;
    ground = ap (λ (x : Journal M g). ground_of x) is ∙ ground;
    calm = λ before. subst (λ (x : Journal M g). IsCalm x (content_of x)) (sym is) (calm before);
  }
  adopted_over (Err e) specs j k ground calm is kinds = tt
