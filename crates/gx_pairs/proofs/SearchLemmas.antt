-- Calls that read a stored file or link: one that passes, and one that stops.
use Rattle.std.proofs.Common.{◌≡◌, ℕ, List, Result, Ok, Err}
use Rattle.std.specs.Prelude.{Bool, IsErrAnd, IfOk}
use Rattle.gx_values.specs.declared.values.Value.{Value}
use Rattle.gx_ports.specs.declared.stop.Stop.{Stop}
use Rattle.gx_ports.specs.declared.view.View.{Ghosts}
use Rattle.gx_ports.specs.LeafMaps.{LeafMap}
use Rattle.gx_ports.specs.Calls.{ReadsMaps}
use Rattle.gx_model.specs.States.{File}
use Rattle.gx_links.specs.Links.{Link}
use Rattle.gx_links.specs.Linksets.{LinkRule, HasLink}
use Rattle.gx_pairs.specs.declared.stored.StoredLink.{StoredLink}
use Rattle.gx_pairs.specs.Stored.{HaveLink}
use Rattle.gx_pairs.specs.declared.owners.Owned.{Owned}
use Rattle.gx_pairs.specs.Owners.{FindsOwner}
use Rattle.gx_pairs.specs.Search.{ReadsLink, LooksInLink, ReadsLinkedFiles, FindsMembers}

-- nothing is said of what is in an answer that is none
pub if_stopped : {T : Type 0} (why : Stop) (result : Result T Stop) (P : T → Type 0)
    → IsErrAnd result (λ stop. stop ≡ why) → IfOk result P
if_stopped why (Ok x) P err = absurd err
if_stopped why (Err stop) P err = tt

module _ {S L : Type 0} (g : Ghosts S) (rule : L → LinkRule)
    (held : L → Link → List LeafMap → Type 0) where
  pub link_stopped : {T : Type 0} (l : L) (old new : S) (Is : Link → T → Type 0) (why : Stop)
      (result : Result T Stop) → IsErrAnd result (λ stop. stop ≡ why)
      → ReadsMaps g (g.whole old × HasLink (rule l) (held l) (g.working old)) old new result
      → ReadsLink g rule held l old new result Is
  link_stopped l old new Is why (Ok x) err reads = absurd err
  link_stopped l old new Is why (Err stop) err reads = record {
    found = λ link whole is held. tt;
    reads = reads;
  }

  pub looks_stopped : {T : Type 0} (l : L) (old new : S) (Is : Link → T → Type 0) (looks : ℕ)
      (why : Stop) (result : Result T Stop) → IsErrAnd result (λ stop. stop ≡ why)
      → ReadsMaps g (g.whole old × HasLink (rule l) (held l) (g.working old)) old new result
      → LooksInLink g rule held l old new result Is looks
  looks_stopped l old new Is looks why (Ok x) err reads = absurd err
  looks_stopped l old new Is looks why (Err stop) err reads = record {
    answer = record { found = λ link whole is held. tt; reads = reads };
    steps = λ link most whole is held few. tt;
  }

  module _ (s : StoredLink L) (old new : S) where
    pub linked_stopped : {T : Type 0} (Is : File → File → Link → T → Type 0) (why : Stop)
        (result : Result T Stop) → IsErrAnd result (λ stop. stop ≡ why)
        → ReadsMaps g (g.whole old × HaveLink rule held s (g.working old)) old new result
        → ReadsLinkedFiles g rule held s old new result Is
    linked_stopped Is why (Ok x) err reads = absurd err
    linked_stopped Is why (Err stop) err reads = record {
      found = λ owners members link whole are. tt;
      reads = reads;
    }

    pub finds_stopped : (owner : Value) (Are : File → Link → Type 0) (looks : File → Link → ℕ)
        (why : Stop) (result : Result Bool Stop) → IsErrAnd result (λ stop. stop ≡ why)
        → ReadsMaps g (g.whole old × HaveLink rule held s (g.working old)) old new result
        → FindsMembers g rule held s owner old new result Are looks
    finds_stopped owner Are looks why (Ok x) err reads = absurd err
    finds_stopped owner Are looks why (Err stop) err reads = record {
      there = λ owners members link whole are. tt;
      those = λ owners members link whole are. tt;
      steps = λ owners members link most whole are few_o few_m few_l. tt;
      reads = reads;
    }

    pub owner_stopped : (member : Value) (why : Stop) (result : Result Owned Stop)
        → IsErrAnd result (λ stop. stop ≡ why)
        → ReadsMaps g (g.whole old × HaveLink rule held s (g.working old)) old new result
        → FindsOwner g rule held s member old new result
    owner_stopped member why (Ok x) err reads = absurd err
    owner_stopped member why (Err stop) err reads = record {
      found = λ owners members link whole are. tt;
      steps = λ finds owners members link most whole are few_o few_m few_l. tt;
      reads = reads;
    }
