-- A change of a link that is refused, or that stops before it begins.
use Rattle.std.proofs.Common.{◌≡◌, List, Option, Some, Result, Ok, Err, sym, ap, subst, arith}
use Rattle.std.specs.Prelude.{IsErrAnd}
use Rattle.gx_values.specs.declared.values.Value.{Value}
use Rattle.gx_ports.specs.declared.stop.Stop.{Stop}
use Rattle.gx_ports.specs.declared.view.View.{Ghosts}
use Rattle.gx_ports.specs.LeafMaps.{LeafMap, map_at}
use Rattle.gx_ports.specs.Calls.{ReadsMaps}
use Rattle.gx_ports.proofs.CallLemmas.{reads_keep}
use Rattle.gx_stack.proofs.PassLemmas.{Passes}
use Rattle.gx_model.specs.States.{File, Link}
use Rattle.gx_model.specs.Commands.{Refusal}
use Rattle.gx_links.specs.Linksets.{LinkRule}
use Rattle.gx_pairs.specs.declared.refused.Refused.{Refused}
use Rattle.gx_pairs.specs.declared.stored.StoredLink.{StoredLink}
use Rattle.gx_pairs.specs.Stored.{AreLinked, HaveLink}
use Rattle.gx_pairs.specs.Changes.{ChangesLink, refusal_for}

module _ {S L : Type 0} (g : Ghosts S) (rule : L → LinkRule)
    (held : L → Link → List LeafMap → Type 0) (s : StoredLink L) (old new : S)
    (refusal : File → File → Link → Option Refusal) (after : Link → Link)
    (owner : Link → Option Value) where
  pub change_stopped : (why : Stop) (result : Result (Option Refused) Stop)
      → IsErrAnd result (λ stop. stop ≡ why)
      → ReadsMaps g (g.whole old × HaveLink rule held s (g.working old)) old new result
      → ChangesLink g rule held s old new result refusal after owner
  change_stopped why (Ok x) err reads = absurd err
  change_stopped why (Err stop) err reads = record {
    refused = λ owners members link whole are. tt;
    changed = λ owners members link whole are. tt;
    keeps = reads_keep g reads.reads;
    ends = reads.ends;
    block = reads.block;
    full = λ owners members link whole are is. absurd (reads.not_full is);
  }

  pub change_refused : (why : Refused) → Passes g old new
      → ((owners members : File) (link : Link) → g.whole old
      → AreLinked rule held s (g.working old) owners members link
      → Some (refusal_for why) ≡ refusal owners members link)
      → ChangesLink g rule held s old new (Ok (Some why)) refusal after owner
  change_refused why passed refused = record {
    refused = refused;
    changed = λ owners members link whole are. record {
      link = subst (held s.linkset link) (sym passed.reads.working) are.link;
      others = λ n away. ap (λ (maps : List LeafMap). map_at maps n) passed.reads.working;
    };
    keeps = reads_keep g passed.reads;
    ends = record {
      whole = passed.whole;
      later = omega (arith, passed.counted);
      fault = λ is. let clash : ⊥ = cc in absurd clash;
      counted = λ _. passed.counted;
      damaged = λ block is sound. let clash : ⊥ = cc in clash;
    };
    block = λ n is whole. let clash : ⊥ = cc in absurd clash;
    full = λ owners members link whole are is. let clash : ⊥ = cc in absurd clash;
  }
