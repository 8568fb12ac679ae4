use Rattle.std.proofs.Common.{◌≡◌, true, false, not, map, rules}
use Rattle.std.specs.Prelude.{◌==◌}
use Rattle.std.specs.List.{list_all}
use Rattle.std.specs.List.Sorted.{IsStrictlyIncreasing}
use Rattle.std.proofs.lemmas.Bool.{not-true}
use Rattle.entity_recs.specs.declared.rec.Rec.{Rec}
use Rattle.trial_outcomes.specs.Errand.{takes}
use Rattle.core_trials.proofs.Calls.{all_hold}
use Rattle.core_trials.proofs.plain.outcome.Goals as goal

pub act-requires : goal.act-requires
act-requires c =
    let me = c.args.me.now in
    let others = c.args.others.now in
    let own : me.id ≡ c.args.cmd.now.slot = search rules in
    let taken : takes me ≡ true = search rules in
    let each : list_all takes others ≡ true = search rules in
    let none : list_all (λ (r : Rec). not (r.id == me.id)) others ≡ true = search rules in
    let rising : IsStrictlyIncreasing (map (λ (r : Rec). r.id) others) = search rules in
    record {
      player = record { command = c.requires; own = own; taken = taken };
      others = all_hold takes takes true (λ r h. h) others each;
      rising = rising;
      none_is_me = all_hold (λ (r : Rec). not (r.id == me.id)) (λ (r : Rec). r.id == me.id) false (λ r h. not-true (r.id == me.id) h) others none;
    }
