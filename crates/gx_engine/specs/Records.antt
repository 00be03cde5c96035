-- Records that a call appends, over leaves that hold a state, and in how many steps.
use Rattle.std.specs.Prelude.{◌≡◌, ℕ, ◌+◌, ◌*◌, ◌≤◌, max, Bool, true, List, [], ◌∷◌, ◌++◌, length, map, Option, Some, None, Result, OnOk, OnErr}
use Rattle.std.specs.FinMap as fin
use Rattle.gx_values.specs.declared.records.Rec.{Rec}
use Rattle.gx_values.specs.declared.values.Value.{Value}
use Rattle.gx_schema.specs.declared.schema.Schema.{Schema}
use Rattle.gx_ports.specs.declared.stop.Stop.{Stop}
use Rattle.gx_ports.specs.declared.view.View.{Ghosts}
use Rattle.gx_ports.specs.Calls.{ReadsMaps}
use Rattle.gx_links.specs.Links.{Link, owners_of}
use Rattle.gx_types.specs.declared.built.Built.{Built}
use Rattle.gx_types.specs.declared.built.LinkTree.{LinkTree}
use Rattle.gx_model.specs.States.{File, State, Row}
use Rattle.gx_scan.specs.Files.{rec_of}
use Rattle.gx_states.specs.Internal.{AreInternal, HaveState}
use Rattle.gx_answers.specs.Work.{most_entries, most_of_owners}

-- ---- which records

-- no record where a member has no owner, else the record of the owner
abbrev pub AreOwner : File → Option Value → List Row → Type 0
AreOwner owners None rows = rows ≡ []
AreOwner owners (Some owner) rows =
    (values : List Value) × (fin.get owners owner ≡ Some values)
    × (rows ≡ (owner, values) ∷ [])

-- ---- in how many steps

-- the greatest number of leaf entries that come from one owner of any link
abbrev pub most_of_links : List LinkTree → List Link → ℕ
most_of_links [] links = 0
most_of_links (x ∷ xs) [] = 0
most_of_links (x ∷ xs) (link ∷ links) =
    max (most_of_owners x link (owners_of link)) (most_of_links xs links)

-- from one record of any file, or from one owner of any link
abbrev pub most_in : Built → State → ℕ
most_in built s = max (most_entries built.files s.files) (most_of_links built.links s.links)

-- ---- one call

-- An Ok appends records that are as `Are` says of the state. Where they are counted, it takes at
-- most so many look-ups, each with a step for each leaf, and one for each leaf entry of a record or
-- of an owner.
pub record AppendsFrom {S : Type 0} (g : Ghosts S) (schema : Schema) (built : Built) (old new : S)
    (out now : List Rec) (result : Result (Unit {0}) Stop) (Are : State → List Row → Type 0)
    (counted : Bool) (looks : State → ℕ) : Type 0 where
  pub found : (s : State) → g.whole old → AreInternal schema built (g.working old) s
      → OnOk result ((rows : List Row) × Are s rows × (now ≡ out ++ map rec_of rows))
  pub steps : counted ≡ true → (s : State) → g.whole old
      → AreInternal schema built (g.working old) s
      → OnOk result
      (g.work new ≤ g.work old + looks s * (most_in built s + length (g.working old)))
  pub unsaid : OnErr result (now ≡ out)
  pub reads : ReadsMaps g (g.whole old × HaveState schema built (g.working old)) old new result
