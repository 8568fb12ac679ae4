use Rattle.std.proofs.Common.{refl, sym, ◌∙◌}
use Rattle.box_trace.proofs.Overlaps.{meet-Some, meet-None, all_steps, window_x, window_y, window_z, apart_on_x, apart_on_xy, apart_on_xyz, first_overlap_is}
use Rattle.box_trace.proofs.way.Way.first_overlap.Goals as goal

pub returns-in_err-steps : goal.returns-in_err-steps
returns-in_err-steps c =
    let way = c.args.self.now in
    rw c.from_residual.ensures (apart_on_x way.body way.d c.args.solid.now (meet-None _ _ _ _ _ (all_steps _ _ way.counted) (window_x way.body way.d c.args.solid.now _ _ _ _ _ c.on_x.ensures.value c.on_x-2.ensures.value refl way.near.x way.counted c.overlap_window-x.ensures) (sym c.meet.ensures ∙ c.in_err-steps.was)))

pub returns-in_err-steps-2 : goal.returns-in_err-steps-2
returns-in_err-steps-2 c =
    let way = c.args.self.now in
    let in_x = meet-Some _ _ _ _ _ _ (all_steps _ _ way.counted) (window_x way.body way.d c.args.solid.now _ _ _ _ _ c.on_x.ensures.value c.on_x-2.ensures.value refl way.near.x way.counted c.overlap_window-x.ensures) (sym c.meet.ensures ∙ c.in_ok-steps.was) in
    rw c.from_residual-in_err-steps-2.ensures (apart_on_xy way.body way.d c.args.solid.now (meet-None _ _ _ _ _ in_x.holds (window_y way.body way.d c.args.solid.now _ _ _ _ _ c.on_y.ensures.value c.on_y-2.ensures.value refl way.near.y way.counted c.overlap_window-y.ensures) (sym c.meet-2.ensures ∙ c.in_err-steps-2.was)))

pub returns-in_err-steps-3 : goal.returns-in_err-steps-3
returns-in_err-steps-3 c =
    let way = c.args.self.now in
    let in_x = meet-Some _ _ _ _ _ _ (all_steps _ _ way.counted) (window_x way.body way.d c.args.solid.now _ _ _ _ _ c.on_x.ensures.value c.on_x-2.ensures.value refl way.near.x way.counted c.overlap_window-x.ensures) (sym c.meet.ensures ∙ c.in_ok-steps.was) in
    let in_xy = meet-Some _ _ _ _ _ _ in_x.holds (window_y way.body way.d c.args.solid.now _ _ _ _ _ c.on_y.ensures.value c.on_y-2.ensures.value refl way.near.y way.counted c.overlap_window-y.ensures) (sym c.meet-2.ensures ∙ c.in_ok-steps-2.was) in
    rw c.from_residual-in_err-steps-3.ensures (apart_on_xyz way.body way.d c.args.solid.now (meet-None _ _ _ _ _ in_xy.holds (window_z way.body way.d c.args.solid.now _ _ _ _ _ c.on_z.ensures.value c.on_z-2.ensures.value refl way.near.z way.counted c.overlap_window-z.ensures) (sym c.meet-3.ensures ∙ c.in_err-steps-3.was)))

pub returns : goal.returns
returns c =
    let way = c.args.self.now in
    let in_x = meet-Some _ _ _ _ _ _ (all_steps _ _ way.counted) (window_x way.body way.d c.args.solid.now _ _ _ _ _ c.on_x.ensures.value c.on_x-2.ensures.value refl way.near.x way.counted c.overlap_window-x.ensures) (sym c.meet.ensures ∙ c.in_ok-steps.was) in
    let in_xy = meet-Some _ _ _ _ _ _ in_x.holds (window_y way.body way.d c.args.solid.now _ _ _ _ _ c.on_y.ensures.value c.on_y-2.ensures.value refl way.near.y way.counted c.overlap_window-y.ensures) (sym c.meet-2.ensures ∙ c.in_ok-steps-2.was) in
    let in_xyz = meet-Some _ _ _ _ _ _ in_xy.holds (window_z way.body way.d c.args.solid.now _ _ _ _ _ c.on_z.ensures.value c.on_z-2.ensures.value refl way.near.z way.counted c.overlap_window-z.ensures) (sym c.meet-3.ensures ∙ c.in_ok-steps-3.was) in
    first_overlap_is way.body way.d c.args.solid.now c.in_ok-steps-3.steps in_xyz
