-- What a sound view says of what its seat does next.
use Rattle.std.proofs.Common.{◌≡◌, ℕ, ◌<◌, List, [], ◌∷◌, map, length, refl, ap, subst, Option}
use Rattle.std.specs.Prelude.{◌&&◌, nat_le}
use Rattle.std.specs.Option.{option_map}
use Rattle.std.proofs.lemmas.Bool.{or_left, eq-eqb}
use Rattle.arena_geo.specs.Regions.{touches_region}
use Rattle.entity_recs.specs.Commands.{Command}
use Rattle.entity_recs.specs.Bodies.{abs_of}
use Rattle.entity_recs.specs.declared.limits.TheConstants.{IDS}
use Rattle.core_steps.specs.declared.sizes.TheConstants.{TABLE_WORDS}
use Rattle.core_steps.specs.Cells.{state_index, cell_index, cell_of}
use Rattle.core_steps.specs.Nodes.{Fixed}
use Rattle.core_steps.specs.Points.{Loading, Sensing, Storing, stores_owed}
use Rattle.core_steps.specs.Reads.{View, region_in}
use Rattle.core_steps.specs.Stands.{IsLawful, IsStart, IsAt}
use Rattle.core_steps.specs.Steps.{first}
use Rattle.core_steps.specs.declared.step.StepKind.TheVariants.{Load}
use Rattle.core_steps.specs.Machine.{index_of_store, step_of, next_at}
use Rattle.core_steps.proofs.Lists.{has_filter}
use Rattle.core_steps.proofs.TableWords.{live_in}
use Rattle.core_machine.specs.declared.point.Store.{Store}
use Rattle.core_machine.specs.Points.{store_of}
use Rattle.core_seats.specs.Sound.{IsSound}

-- the first thing whose state is to be loaded has an id of the table
pub sensed_in : (F : Fixed) (view : View) (id : ℕ) (rest : List ℕ) → IsLawful F → IsStart F → IsSound F view → view.point ≡ Sensing (id ∷ rest) → id < IDS
sensed_in F view id rest lawful start sound at =
    let here = subst (IsAt F view.cmd view.own view.wanted view.again view.lists view.others view.states view.effect) at sound.at in
    let thing = here.sensed.things id (or_left _ _ (eq-eqb id id refl)) in
    live_in F id lawful start
    (has_filter (λ other. nat_le 64 other && touches_region (abs_of (F.start.record_of other)) (region_in F view.cmd view.own)) F.start.ids id thing).listed

-- the next store that is owed is one of the table
pub owed_in_table : (F : Fixed) (view : View) (nodes : List ℕ) (store : Store) (rest : List Store) → IsSound F view → view.point ≡ Storing nodes (map store_of (store ∷ rest))
    → index_of_store (store_of store) < TABLE_WORDS
owed_in_table F view nodes store rest sound at = sound.owed (store_of store) (map store_of rest) (ap stores_owed at)

-- the step that loads the next word of the first of these players is what comes next
pub player_next : (F : Fixed) (view : View) (given : Option Command) (i node : ℕ) (part players plan : List ℕ)
    → option_map (λ (p : ℕ). record { seat = i; word = cell_index (cell_of p (length part)); kind = Load }) (first players)
    ≡ option_map (step_of i view) (next_at F view given (Loading node part players plan))
player_next F view given i node part [] plan = refl
player_next F view given i node part (p ∷ players) plan = refl

-- the step that loads the state of the first of these things is what comes next
pub state_next : (F : Fixed) (view : View) (given : Option Command) (i : ℕ) (ids : List ℕ)
    → option_map (λ (id : ℕ). record { seat = i; word = state_index id; kind = Load }) (first ids) ≡ option_map (step_of i view) (next_at F view given (Sensing ids))
state_next F view given i [] = refl
state_next F view given i (id ∷ ids) = refl
