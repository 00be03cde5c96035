-- What a call answers that reads a stored file or link, in how many steps, and what it keeps.
use Rattle.std.specs.Prelude.{◌≡◌, ℕ, ◌+◌, ◌*◌, ◌≤◌, Bool, true, List, length, Result, IfOk, OnOk, is_some}
use Rattle.std.specs.FinMap as fin
use Rattle.gx_values.specs.declared.values.Value.{Value}
use Rattle.gx_ports.specs.declared.stop.Stop.{Stop}
use Rattle.gx_ports.specs.declared.view.View.{Ghosts}
use Rattle.gx_ports.specs.LeafMaps.{LeafMap}
use Rattle.gx_ports.specs.Calls.{ReadsMaps}
use Rattle.gx_stack.specs.Tree.{leaves_of}
use Rattle.gx_model.specs.States.{File}
use Rattle.gx_scan.specs.Files.{IsInternal, HasFile}
use Rattle.gx_scan.specs.Steps.{HaveAtMost}
use Rattle.gx_links.specs.Links.{Link, IsLink}
use Rattle.gx_links.specs.Linksets.{LinkRule, HasLink}
use Rattle.gx_pairs.specs.declared.stored.StoredFile.{StoredFile}
use Rattle.gx_pairs.specs.declared.stored.StoredLink.{StoredLink}
use Rattle.gx_pairs.specs.Stored.{file_of, node_tree, AreLinked, HaveLink, OwnersHaveAtMost}

-- The answer is what `Is` says of the file that the leaves hold, and takes one look-up.
pub record LooksInFile {S T : Type 0} (g : Ghosts S) (s : StoredFile) (old new : S)
    (result : Result T Stop) (Is : File → T → Type 0) : Type 0 where
  pub found : (f : File) → g.whole old → IsInternal (file_of s) (node_tree s) (g.working old) f
      → IfOk result (Is f)
  -- a look-up takes a step for each leaf, and one for each leaf entry of a record
  pub steps : (f : File) (most : ℕ) → g.whole old
      → IsInternal (file_of s) (node_tree s) (g.working old) f → HaveAtMost most (node_tree s) f
      → OnOk result (g.work new ≤ g.work old + (length (leaves_of (node_tree s)) + most))
  pub reads : ReadsMaps g (g.whole old × HasFile (file_of s) (node_tree s) (g.working old))
      old new result

-- The answer is what `Is` says of the link that the leaves hold.
pub record ReadsLink {S L T : Type 0} (g : Ghosts S) (rule : L → LinkRule)
    (held : L → Link → List LeafMap → Type 0) (linkset : L) (old new : S)
    (result : Result T Stop) (Is : Link → T → Type 0) : Type 0 where
  pub found : (link : Link) → g.whole old
      → IsLink (rule linkset).owner (rule linkset).member link → held linkset link (g.working old)
      → IfOk result (Is link)
  pub reads : ReadsMaps g (g.whole old × HasLink (rule linkset) (held linkset) (g.working old))
      old new result

-- What `ReadsLink` says, and that the answer takes at most the steps of so many look-ups.
pub record LooksInLink {S L T : Type 0} (g : Ghosts S) (rule : L → LinkRule)
    (held : L → Link → List LeafMap → Type 0) (linkset : L) (old new : S)
    (result : Result T Stop) (Is : Link → T → Type 0) (looks : ℕ) : Type 0 where
  pub answer : ReadsLink g rule held linkset old new result Is
  -- a look-up takes a step for each leaf, and one for each leaf entry of an owner
  pub steps : (link : Link) (most : ℕ) → g.whole old
      → IsLink (rule linkset).owner (rule linkset).member link → held linkset link (g.working old)
      → OwnersHaveAtMost most (rule linkset) link
      → OnOk result (g.work new ≤ g.work old + looks * (most + length (g.working old)))

-- The answer is what `Is` says of both files and the link that the leaves hold.
pub record ReadsLinkedFiles {S L T : Type 0} (g : Ghosts S) (rule : L → LinkRule)
    (held : L → Link → List LeafMap → Type 0) (s : StoredLink L) (old new : S)
    (result : Result T Stop) (Is : File → File → Link → T → Type 0) : Type 0 where
  pub found : (owners members : File) (link : Link) → g.whole old
      → AreLinked rule held s (g.working old) owners members link
      → IfOk result (Is owners members link)
  pub reads : ReadsMaps g (g.whole old × HaveLink rule held s (g.working old)) old new result

-- The answer is whether there is a record of the owner. Where there is one, `Are` says which of its
-- members were found. It takes at most the steps of as many look-ups as `looks` says.
pub record FindsMembers {S L : Type 0} (g : Ghosts S) (rule : L → LinkRule)
    (held : L → Link → List LeafMap → Type 0) (s : StoredLink L) (owner : Value) (old new : S)
    (result : Result Bool Stop) (Are : File → Link → Type 0)
    (looks : File → Link → ℕ) : Type 0 where
  pub there : (owners members : File) (link : Link) → g.whole old
      → AreLinked rule held s (g.working old) owners members link
      → IfOk result (λ there. there ≡ is_some (fin.get owners owner))
  pub those : (owners members : File) (link : Link) → g.whole old
      → AreLinked rule held s (g.working old) owners members link
      → IfOk result (λ there. there ≡ true → Are members link)
  -- a look-up takes a step for each leaf, and one for each leaf entry of a record or of an owner
  pub steps : (owners members : File) (link : Link) (most : ℕ) → g.whole old
      → AreLinked rule held s (g.working old) owners members link
      → HaveAtMost most (node_tree s.owners) owners
      → HaveAtMost most (node_tree s.members) members
      → OwnersHaveAtMost most (rule s.linkset) link
      → OnOk result
      (g.work new ≤ g.work old + looks members link * (most + length (g.working old)))
  pub reads : ReadsMaps g (g.whole old × HaveLink rule held s (g.working old)) old new result
