-- Why a pair isn't connected or disconnected, and what a call does that changes a link.
use Rattle.std.specs.Prelude.{◌≡◌, ℕ, ◌+◌, List, [], ◌∷◌, length, not, ◌&&◌, nat_le, Option, Some, None, Result, Ok, Err, is_some, IfOk, IsErrOf, if◌then◌else◌}
use Rattle.std.specs.Option.{option_map}
use Rattle.std.specs.FinMap as fin
use Rattle.gx_values.specs.declared.values.Value.{Value}
use Rattle.gx_ports.specs.declared.stop.Stop.{Stop}
use Rattle.gx_ports.specs.declared.stop.Stop.TheVariants.{Full, Damaged}
use Rattle.gx_ports.specs.declared.view.View.{Ghosts}
use Rattle.gx_ports.specs.LeafMaps.{LeafMap, entry_count, IsCrowdedBy}
use Rattle.gx_ports.specs.Calls.{Keeps, Ends}
use Rattle.gx_model.specs.States.{File, Link, pairs_of, most_members}
use Rattle.gx_model.specs.Commands.{Refusal, no_record, has_owner, too_many_members, no_owner, key_exists, linked, first_refusal}
use Rattle.gx_links.specs.Links.{members_of}
use Rattle.gx_links.specs.Linksets.{LinkRule}
use Rattle.gx_pairs.specs.declared.stored.StoredLink.{StoredLink}
use Rattle.gx_pairs.specs.Stored.{AreLinked, HaveLink, IsRelinked}
use Rattle.gx_pairs.specs.declared.refused.Refused.{Refused}
use Rattle.gx_pairs.specs.declared.refused.Refused.TheVariants as refused

-- the refusal of the abstract database
abbrev pub refusal_for : Refused → Refusal
refusal_for refused.KeyExists = key_exists
refusal_for refused.NoRecord = no_record
refusal_for refused.Linked = linked
refusal_for refused.HasOwner = has_owner
refusal_for refused.TooManyMembers = too_many_members
refusal_for refused.NoOwner = no_owner

-- a member comes to an owner where both are records, it has no owner yet, and the owner has room
abbrev pub connect_refusal : File → File → Link → Value → Value → Option Refusal
connect_refusal owners members link owner member =
    first_refusal
    ((not (is_some (fin.get owners owner) && is_some (fin.get members member)), no_record)
    ∷ (is_some (fin.get link member), has_owner)
    ∷ (nat_le most_members (length (pairs_of link owner)), too_many_members) ∷ [])

-- a member goes where it is a record and has an owner
abbrev pub disconnect_refusal : File → Link → Value → Option Refusal
disconnect_refusal members link member =
    first_refusal ((not (is_some (fin.get members member)), no_record)
    ∷ (not (is_some (fin.get link member)), no_owner) ∷ [])

-- the refusal in the place of what is asked for
abbrev pub refusal_in : {T : Type 0} → Result T Refused → Option Refusal
refusal_in (Ok x) = None
refusal_in (Err why) = Some (refusal_for why)

-- The link becomes what `after` makes of it, or stays, and the answer is why, as `refusal` says.
-- `owner` is the one whose members change.
pub record ChangesLink {S L : Type 0} (g : Ghosts S) (rule : L → LinkRule)
    (held : L → Link → List LeafMap → Type 0) (s : StoredLink L) (old new : S)
    (result : Result (Option Refused) Stop) (refusal : File → File → Link → Option Refusal)
    (after : Link → Link) (owner : Link → Option Value) : Type 0 where
  pub refused : (owners members : File) (link : Link) → g.whole old
      → AreLinked rule held s (g.working old) owners members link
      → IfOk result (λ why. option_map refusal_for why ≡ refusal owners members link)
  pub changed : (owners members : File) (link : Link) → g.whole old
      → AreLinked rule held s (g.working old) owners members link
      → IfOk result (λ why. IsRelinked rule held s (g.working old) (g.working new)
      (if is_some why then link else after link))
  pub keeps : Keeps g old new
  pub ends : Ends g (g.whole old × HaveLink rule held s (g.working old)) old new result
  pub block : (n : ℕ) → IsErrOf result (Damaged n) → g.whole old → n ≡ 0
  -- only where it isn't refused, and the pages may not be enough for the entries of the owner after
  -- the change, besides all that there are
  pub full : (owners members : File) (link : Link) → g.whole old
      → AreLinked rule held s (g.working old) owners members link → IsErrOf result Full
      → (refusal owners members link ≡ None) × (o : Value) × (owner link ≡ Some o)
      × IsCrowdedBy (g.limit old) (entry_count (g.working old)
      + length ((rule s.linkset).entries o (members_of (after link) o)))
