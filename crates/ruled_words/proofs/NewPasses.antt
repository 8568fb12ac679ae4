-- New passes belong to their table.
use Rattle.std.proofs.Common.{◌≡◌, ℕ, zero, suc, ◌+◌, ◌-◌, ◌<◌, ◌≤◌, Bool, true, false, List, [], ◌∷◌, ◌++◌, map, length, refl, ap, ◌∙◌, subst, Option, Some, None, arith, slice_index, All}
use Rattle.std.specs.List.{range_with_len, AllByRecursion}
use Rattle.std.proofs.lemmas.Bool.{false≢true}
use Rattle.std.proofs.lemmas.List.Elements.{All-from_recursion}
use Rattle.std.proofs.lemmas.List.FromFn.{map-range_with_len_more}
use Rattle.areanode.specs.Trees.{IsTreeDepth}
use Rattle.core_steps.specs.declared.sizes.TheConstants.{TABLE_WORDS}
use Rattle.atomic_table.specs.Seated.{TableId}
use Rattle.entity_recs.specs.Commands.{Command}
use Rattle.core_steps.specs.Nodes.{Fixed}
use Rattle.core_steps.specs.Points.{Store}
use Rattle.core_steps.specs.Reads.{View}
use Rattle.core_steps.specs.Machine.{Next, Begin, beginning, index_of, IsPending}
use Rattle.core_steps.proofs.Machines.{fits_none}
use Rattle.ruled_words.specs.Going.{MayGo}
use Rattle.ruled_words.specs.Plays.{IsSoundSight}
use Rattle.core_seats.specs.Sound.{IsSound}
use Rattle.core_seats.specs.Ready.{is_resolving}
use Rattle.ruled_words.specs.Hands.{IsPlain}
use Rattle.ruled_words.specs.Sights.{SightView, no_tally}
use Rattle.ruled_words.specs.Passes.{PassView, IsPassOf, setting_of, sight_of}
use Rattle.ruled_words.specs.declared.setting.Setting.{Setting}
use Rattle.ruled_words.specs.NewPasses.{new_pass, view_with_made, other_pass, new_passes}

module _ (F : Fixed) (depth : IsTreeDepth F.tree.depth) (room made : ℕ) where
  abbrev view : View
  view = view_with_made room made

  none_owed : {R : Type 0} (store : Store) (stores : List Store) → [] ≡ store ∷ stores → R
  none_owed store stores e = cc

  sound : IsSound F view
  sound = record {
    depth = depth;
    own_part = λ e. absurd (false≢true e);
    own_whole = λ e. absurd (false≢true e);
    again_whole = λ e. absurd (false≢true e);
    room = λ e. absurd (false≢true e);
    hand = λ e. absurd (false≢true e);
    whole = λ e. absurd (false≢true e);
    holding = record {
      wanted_once = tt;
      wanted_are_leaves = λ node e. absurd (false≢true e);
      leaves_once = tt;
      leaves_are_leaves = λ node e. absurd (false≢true e);
      inner_once = tt;
      inner_are_inner = λ node e. absurd (false≢true e);
    };
    unread = record { no_own = λ _. refl; no_again = λ _. refl; no_lists = λ _. refl; no_others = λ _. refl; no_states = λ _. refl; no_effect = λ _. refl };
    at = tt;
    next = record { some_wanted = λ e. absurd (false≢true e); left = tt };
    fits = fits_none F;
    region = λ e whole. absurd (false≢true e);
    effect = λ at. absurd (false≢true (ap is_resolving at));
    owed = λ store stores e. none_owed store stores e;
    taken_again = λ e read. absurd (false≢true e);
    taken_after = λ e f some. absurd (false≢true e);
  }

  begun : (given : Option Command) (next : Next) → beginning given ≡ Some next → ((c : Command) → given ≡ Some c → IsPending F view c) → index_of view next < TABLE_WORDS
  begun None next e pending = absurd (none_next e)
    where
      none_next : None ≡ Some next → ⊥
      none_next e = cc
  begun (Some c) next e pending =
      let below = (pending c refl).command.command.slot in
      subst (λ (n : Next). index_of view n < TABLE_WORDS) (same_next e) (omega (arith, below))
    where
      same_next : Some (Begin c) ≡ Some next → Begin c ≡ next
      same_next e = cc

  pub sound_sight_new : (passes number : ℕ) → IsSoundSight F passes (record { number = number; view = view; tally = no_tally })
  sound_sight_new passes number = record { sound = sound; in_table = λ given quits next may. in_table given quits next may }
    where
      in_table : (given : Option Command) (quits : Bool) (next : Next) → MayGo F passes number view given quits next → index_of view next < TABLE_WORDS
      in_table given true next may = absurd (false≢true (may.at_take refl))
      in_table given false next may = begun given next may.comes may.pending

  pub new_own : (passes : ℕ) (table : TableId) (number : ℕ) → IsPassOf F passes table (new_pass table (setting_of F) number view)
  new_own passes table number = record {
    at_table = refl;
    at_setting = refl;
    lives = refl;
    sound_sight = sound_sight_new passes number;
    pending = λ c e. absurd (no_given c e);
    serves = λ c e. absurd (no_given c e);
    may_quit = λ e. absurd (false≢true e);
    has_effect = λ e. absurd (false≢true e);
    only_resolving = λ e. refl;
    refusal = tt;
    counted = refl;
  }
    where
      no_given : (c : Command) → None ≡ Some c → ⊥
      no_given c e = cc

-- all new passes belong to their table
pub all_own : (F : Fixed) (table : TableId) (rooms : List ℕ) → IsTreeDepth F.tree.depth → All (IsPassOf F (length rooms) table) (new_passes table (setting_of F) rooms)
all_own F table rooms depth =
    All-from_recursion (IsPassOf F (length rooms) table) (new_passes table (setting_of F) rooms)
    (new_own F depth (slice_index rooms 0) (length rooms) (length rooms) table 0, others 1 (length rooms - 1))
  where
    others : (low n : ℕ) → AllByRecursion (IsPassOf F (length rooms) table) (map (other_pass table (setting_of F) rooms) (range_with_len low n))
    others low zero = tt
    others low (suc n) = (new_own F depth (slice_index rooms low) 0 (length rooms) table low, others (low + 1) n)

pub others_more : (table : TableId) (setting : Setting) (rooms : List ℕ) (i : ℕ) → 1 ≤ i
    → map (other_pass table setting rooms) (range_with_len 1 (i + 1 - 1)) ≡ map (other_pass table setting rooms) (range_with_len 1 (i - 1)) ++ other_pass table setting rooms i ∷ []
others_more table setting rooms i least =
    let count : i + 1 - 1 ≡ i - 1 + 1 = omega (arith, least) in
    ap (λ (n : ℕ). map (other_pass table setting rooms) (range_with_len 1 n)) count ∙ map-range_with_len_more (other_pass table setting rooms) 1 (i - 1) i (omega (arith, least))

-- the hand of a new seat is the new pass of that seat
pub new_hand : (hand : PassView) (table : TableId) (setting : Setting) (sight : SightView) → hand.table ≡ table → hand.setting ≡ setting → sight_of hand ≡ sight → sight.tally ≡ no_tally
    → IsPlain hand → hand ≡ new_pass table setting sight.number sight.view
new_hand hand table setting sight at knows seat none plain = λ i. record {
  table = at i;
  setting = knows i;
  number = ap (λ (s : SightView). s.number) seat i;
  given = plain.given i;
  quits = plain.quits i;
  effect = plain.effect i;
  view = ap (λ (s : SightView). s.view) seat i;
  tally = (ap (λ (s : SightView). s.tally) seat ∙ none) i;
}
