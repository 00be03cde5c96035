use Rattle.std.proofs.Common.{◌≡◌, get_or, Some, None, [], sym, ap, ◌∙◌, arith}
use Rattle.std.specs.Prelude.{option_map}
use Rattle.gx_frames.specs.Pool.{Resident}
use Rattle.gx_frames.proofs.CallLemmas.{table_is, frame_below, not_found, resident_iff, splits, bytes_found}
use Rattle.gx_frames.proofs.frames.Frames.peek.Goals as goal

pub returns-in_err-place-clause-found : goal.returns-in_err-place-clause-found
returns-in_err-place-clause-found c =
    let i = c.self.inside in
    let t : get_or i.table.items c.args.page None ≡ None =
    table_is i.order i.slots.items i.region.frames.items i.table.items c.self.invariant
    c.args.page c.args.self.now c.self.view_is c.requires c.index.result.now c.index.ensures
    ∙ c.in_err-place.was in
    rw (c.from_residual.ensures, ← c.self.view_is)
    (resident_iff i.order i.slots.items i.region.frames.items i.table.items c.self.invariant
    c.args.page None t)

pub returns-in_err-place-clause-value : goal.returns-in_err-place-clause-value
returns-in_err-place-clause-value c =
    let i = c.self.inside in
    let t : get_or i.table.items c.args.page None ≡ None =
    table_is i.order i.slots.items i.region.frames.items i.table.items c.self.invariant
    c.args.page c.args.self.now c.self.view_is c.requires c.index.result.now c.index.ensures
    ∙ c.in_err-place.was in
    rw (c.from_residual.ensures, ← c.self.view_is)
    (sym (ap (option_map (λ (r : Resident). r.bytes))
    (not_found i.order i.slots.items i.region.frames.items i.table.items c.self.invariant
    c.args.page t)))

pub frame-requires : goal.frame-requires
frame-requires c =
    let i = c.self.inside in
    let t : get_or i.table.items c.args.page None ≡ Some c.in_ok-place.place =
    table_is i.order i.slots.items i.region.frames.items i.table.items c.self.invariant
    c.args.page c.args.self.now c.self.view_is c.requires c.index.result.now c.index.ensures
    ∙ c.in_ok-place.was in
    omega (
      arith,
      c.self.invariant.backed,
      i.region.frames.ok.0,
      frame_below i.order i.slots.items i.region.frames.items i.table.items c.self.invariant
          c.args.page c.in_ok-place.place t,
    )

pub returns-clause-found : goal.returns-clause-found
returns-clause-found c =
    let i = c.self.inside in
    let t : get_or i.table.items c.args.page None ≡ Some c.in_ok-place.place =
    table_is i.order i.slots.items i.region.frames.items i.table.items c.self.invariant
    c.args.page c.args.self.now c.self.view_is c.requires c.index.result.now c.index.ensures
    ∙ c.in_ok-place.was in
    rw (← c.self.view_is)
    (resident_iff i.order i.slots.items i.region.frames.items i.table.items c.self.invariant
    c.args.page (Some c.in_ok-place.place) t)

pub returns-clause-value : goal.returns-clause-value
returns-clause-value c =
    let i = c.self.inside in
    let t : get_or i.table.items c.args.page None ≡ Some c.in_ok-place.place =
    table_is i.order i.slots.items i.region.frames.items i.table.items c.self.invariant
    c.args.page c.args.self.now c.self.view_is c.requires c.index.result.now c.index.ensures
    ∙ c.in_ok-place.was in
    let s = splits i.order i.slots.items i.region.frames.items i.table.items c.self.invariant
    c.args.page c.in_ok-place.place t in
    rw (← c.self.view_is)
    (ap Some (c.frame.ensures.value
    ∙ ap (λ k. get_or i.region.frames.items k []) c.from.ensures)
    ∙ sym (bytes_found i.order i.slots.items i.region.frames.items i.table.items
    c.self.invariant c.args.page c.in_ok-place.place t s.0 s.1 s.2))
