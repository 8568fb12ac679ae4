use Rattle.std.proofs.Common.{Bool, ◌&&◌, not, nat_eq, sym, ap, ◌∙◌}
use Rattle.world_tree.specs.Worlds.{record_of}
use Rattle.snapshot_write.proofs.InView.{seen_by_box}
use Rattle.snapshot_write.proofs.writing.sees.Goals as goal

pub returns-then-touches : goal.returns-then-touches
returns-then-touches c =
    ap (λ (b : Bool). b && not (nat_eq c.args.id c.args.me)) (sym (sym c.touches.ensures ∙ c.if-touches.true))
    ∙ seen_by_box (record_of c.args.world.now c.args.id) c.in-Some.abs c.args.view.now c.args.me c.args.id (sym c.in-Some.is ∙ c.abs_box.ensures.value)
    (λ r e. (c.abs_box.ensures.linked.entries c.args.id r e).own_id)

pub returns-else-touches : goal.returns-else-touches
returns-else-touches c =
    c.if-touches.false
    ∙ ap (λ (b : Bool). b && not (nat_eq c.args.id c.args.me)) (sym (sym c.touches.ensures ∙ c.if-touches.false))
    ∙ seen_by_box (record_of c.args.world.now c.args.id) c.in-Some.abs c.args.view.now c.args.me c.args.id (sym c.in-Some.is ∙ c.abs_box.ensures.value)
    (λ r e. (c.abs_box.ensures.linked.entries c.args.id r e).own_id)
