use Rattle.std.proofs.Common.{◌≡◌, true, arith}
use Rattle.std.proofs.lemmas.List.Elements.{All-nil}
use Rattle.entity_recs.specs.declared.rec.Rec.{Rec}
use Rattle.arena_outcomes.specs.Takes.{takes}
use Rattle.arena_outcomes.proofs.Lawful.Taking.{player_is_taken}
use Rattle.arena_action_trials.proofs.tests.alone.Goals as goal
use Rattle.arena_outcomes.proofs.OnMaps.{inside_by_test}

pub alone_by-requires-after_bounds : goal.alone_by-requires-after_bounds
alone_by-requires-after_bounds c bounds =
    let map = c.args.action.now.map in
    let me = c.args.me.now in
    let inside = inside_by_test map c.map.result.now c.bounds.result.now c.body_box.result me c.contains.result c.map.ensures.value c.bounds.ensures.value c.body_box.ensures c.contains.ensures c.if-not-contains.false in
    record {
      player = record {
        command = c.requires.command;
        own = c.requires.own;
        taken = player_is_taken map me (record { kind = c.requires.kind; is_record = c.requires.record; score = c.requires.score; inside = inside }) c.requires.seq;
      };
      others = All-nil (λ (r : Rec). takes map r ≡ true);
      rising = λ k below. absurd (omega (arith, below));
      none_is_me = λ k d below. absurd (omega (arith, below));
    }
