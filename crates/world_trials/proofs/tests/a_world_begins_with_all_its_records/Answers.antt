use Rattle.std.proofs.Common.{[], ◌∷◌, ap, nat_eq, ◌∙◌}
use Rattle.std.specs.List.{IsDistinct}
use Rattle.std.proofs.lemmas.List.Elements.{All-cons, All-nil}
use Rattle.entity_recs.specs.Records.{IsRecord}
use Rattle.world_trials.proofs.tests.a_world_begins_with_all_its_records.Goals as goal

pub new-requires-clause-records : goal.new-requires-clause-records
new-requires-clause-records g c =
    All-cons IsRecord c.player.result (c.ammo.result ∷ c.player-2.result ∷ []) c.player.ensures.record
    (All-cons IsRecord c.ammo.result (c.player-2.result ∷ []) c.ammo.ensures.record
    (All-cons IsRecord c.player-2.result [] c.player-2.ensures.record (All-nil IsRecord)))

pub new-requires-clause-apart : goal.new-requires-clause-apart
unfolding IsDistinct
new-requires-clause-apart g c = (
  (
    ap (λ a. nat_eq a c.ammo.result.id) c.player.ensures.id ∙ ap (nat_eq 3) c.ammo.ensures.id,
    (ap (λ a. nat_eq a c.player-2.result.id) c.player.ensures.id ∙ ap (nat_eq 3) c.player-2.ensures.id, tt),
  ),
  ((ap (λ a. nat_eq a c.player-2.result.id) c.ammo.ensures.id ∙ ap (nat_eq 511) c.player-2.ensures.id, tt), (tt, tt)),
)
