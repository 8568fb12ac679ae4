-- What a sound view says of the step that comes next: what the action is asked, and that the lists have room.
use Rattle.std.proofs.Common.{◌≡◌, ℕ, ◌+◌, ◌<◌, ◌≤◌, ◌==◌, true, List, ◌∷◌, length, refl, sym, ap, ◌∙◌, subst, inl, inr, Some, arith}
use Rattle.std.specs.Prelude.{filter, not, ◌||◌, All}
use Rattle.std.specs.List.{range_with_len}
use Rattle.std.proofs.lemmas.Bool.{eq-eqb, eqb-true, or_cases, or_left}
use Rattle.std.proofs.lemmas.List.{length-map, length-append}
use Rattle.std.proofs.lemmas.List.FromFn.{length-range_with_len}
use Rattle.std.proofs.lemmas.List.Elements.{All-from_recursion}
use Rattle.areanode.specs.Depths.{sizes_of_depth}
use Rattle.areanode.specs.declared.sizes.TheConstants.{MOST_NODES}
use Rattle.entity_recs.specs.declared.effect.Effect.{Effect}
use Rattle.entity_recs.specs.Records.{IsRecord}
use Rattle.entity_recs.specs.Actions.{HasPlayer, IsCommand, HasValidity}
use Rattle.core_steps.specs.Nodes.{Fixed, has, nodes_of, inner_nodes, inner_of_two, home}
use Rattle.core_steps.specs.Points.{Store, Point, Taking, Entered, Loading, Sensing, Resolving, Claiming, Storing}
use Rattle.core_steps.specs.Points.{stage_of, is_busy, is_open, is_whole, is_settled, is_read_again}
use Rattle.core_steps.specs.Reads.{View, PlayerRead, record_read, region_in, effect_loaded, without_player}
use Rattle.core_steps.specs.Stands.{AreDistinct, IsAt, IsUnder, IsTaking, IsClaiming, IsClaimingAfter, IsStoring}
use Rattle.core_steps.specs.Machine.{slots_of, lists_ahead, states_ahead, SomeIsLeft}
use Rattle.core_steps.proofs.Lists.{distinct_filter, has_filter}
use Rattle.core_steps.proofs.Planned.{slots_without, gone, leaf_nodes_length, filter_few}
use Rattle.core_steps.proofs.Runs.{all_from_has}
use Rattle.core_steps.proofs.TreeNodes.{leaf_below}
use Rattle.core_steps.proofs.Fitting.{few_below}
use Rattle.core_seats.specs.Sound.{IsSound}

-- ---- numbers that differ

-- the players but one below 64 are fewer than 64
others_room : (slot : ℕ) (others : List PlayerRead) → slot < 64 → AreDistinct (slots_of others) → ((v : ℕ) → has (slots_of others) v ≡ true → v < 64)
    → length (without_player slot others) < 64
others_room slot others own once below =
    let kept = filter (λ v. not (v == slot)) (slots_of others) in
    let few = few_below 64 (slot ∷ kept) (gone slot (slots_of others), distinct_filter (λ v. not (v == slot)) (slots_of others) once) (λ v there.
    elim (or_cases (slot == v) (has kept v) there) [
      | inl same ↦ subst (λ (n : ℕ). n < 64) (eqb-true slot v same) own
      | inr rest ↦ below v (has_filter (λ w. not (w == slot)) (slots_of others) v rest).listed
    ]) in
    let same = ap length (slots_without slot others) in
    let size = length-map (without_player slot others) (λ (read : PlayerRead). read.slot) in
    omega (arith, few, same, size)

writes_few : (F : Fixed) (a b : ℕ) → length (inner_of_two F a b) ≤ inner_nodes F
writes_few F a b =
    let few = filter_few (λ node. (node == a) || (node == b)) (range_with_len 0 (inner_nodes F)) in
    let all = length-range_with_len 0 (inner_nodes F) in
    omega (arith, few, all)

-- ---- what a sound view says

module _ (F : Fixed) (view : View) (sound : IsSound F view) where
  -- what holds of the command in hand
  pub command_at : (point : Point) → view.point ≡ point → is_busy (stage_of point) ≡ true → IsCommand view.cmd
  command_at point at busy = (sound.hand (ap (λ (p : Point). is_busy (stage_of p)) at ∙ busy)).command

  pub player_at_point : (point : Point) → view.point ≡ point → is_open (stage_of point) ≡ true → is_whole (stage_of point) ≡ true
      → HasPlayer F.takes (record_read view.cmd.slot view.own) view.cmd
  player_at_point point at open' whole = sound.region (ap (λ (p : Point). is_open (stage_of p)) at ∙ open') (ap (λ (p : Point). is_whole (stage_of p)) at ∙ whole)

  pub log_room : (point : Point) → view.point ≡ point → is_open (stage_of point) ≡ true → length view.log < view.room
  log_room point at open' = sound.room (ap (λ (p : Point). is_open (stage_of p)) at ∙ open')

  pub after_is_record : (point : Point) (e : Effect) → HasValidity F.takes F.effect_of → view.point ≡ point → is_settled (stage_of point) ≡ true
      → view.effect ≡ Some e → IsRecord e.me
  after_is_record point e validity at settled in_view =
      (validity.keepable e.me (sound.taken_after (ap (λ (p : Point). is_settled (stage_of p)) at ∙ settled) e in_view)).bounds

  at_here : (point : Point) → view.point ≡ point → IsAt F view.cmd view.own view.wanted view.again view.lists view.others view.states view.effect point
  at_here point at = subst (IsAt F view.cmd view.own view.wanted view.again view.lists view.others view.states view.effect) at sound.at

  pub lists_room : (node : ℕ) (plan : List ℕ) → view.point ≡ Entered node plan → length view.lists < MOST_NODES
  lists_room node plan at =
      let few : length view.lists + lists_ahead F (Entered node plan) ≤ nodes_of F = subst (λ (p : Point). length view.lists + lists_ahead F p ≤ nodes_of F) at sound.fits.few_lists in
      let nodes = (sizes_of_depth F.tree.depth sound.depth).nodes in
      omega (arith, few, nodes)

  pub others_few : (node slot : ℕ) (part players plan : List ℕ) → view.point ≡ Loading node part (slot ∷ players) plan → length (without_player slot view.others) < 64
  others_few node slot part players plan at =
      let here : IsUnder F (region_in F view.cmd view.own) view.cmd.slot node part (slot ∷ players) plan view.lists view.others = at_here (Loading node part (slot ∷ players) plan) at in
      others_room slot view.others (here.load.each slot (or_left _ _ (eq-eqb slot slot refl))).player sound.fits.once sound.fits.below

  pub players_left : (node : ℕ) (part players plan : List ℕ) → view.point ≡ Loading node part players plan → 0 < length players
  players_left node part players plan at =
      let here : IsUnder F (region_in F view.cmd view.own) view.cmd.slot node part players plan view.lists view.others = at_here (Loading node part players plan) at in
      here.load.left

  pub things_left : (ids : List ℕ) → view.point ≡ Sensing ids → 0 < length ids
  things_left ids at = subst (λ (p : Point). SomeIsLeft p view.wanted) at sound.next.left

  pub states_room : (ids : List ℕ) → view.point ≡ Sensing ids → length view.states < length F.start.ids
  states_room ids at =
      let few : length view.states + states_ahead F (Sensing ids) ≤ length F.start.ids = subst (λ (p : Point). length view.states + states_ahead F p ≤ length F.start.ids) at sound.fits.few_states in
      let some = things_left ids at in
      omega (arith, few, some)

  pub leaves_room : (got rest : List ℕ) → view.point ≡ Taking got rest → length got < MOST_NODES
  leaves_room got rest at =
      let here : IsTaking got rest view.wanted = at_here (Taking got rest) at in
      let wanted = ap length (here.all ∙ sound.whole (ap (λ (p : Point). is_whole (stage_of p)) at)) in
      let size = length-append got rest in
      let few = leaf_nodes_length F (region_in F view.cmd view.own) in
      let leaves = (sizes_of_depth F.tree.depth sound.depth).leaves in
      omega (arith, wanted, size, few, leaves)

  pub leaves_left : (got rest : List ℕ) → view.point ≡ Taking got rest → 0 < length rest
  leaves_left got rest at =
      let here : IsTaking got rest view.wanted = at_here (Taking got rest) at in
      here.left

  pub claimed : (got rest : List ℕ) → view.point ≡ Claiming got rest → IsClaiming F (record_read view.cmd.slot view.again) view.effect got rest
  claimed got rest at =
      let here : IsClaimingAfter F (region_in F view.cmd view.own) view.cmd.slot (record_read view.cmd.slot view.again) view.lists view.others view.states view.effect got rest =
      at_here (Claiming got rest) at in
      here.claim

  pub nodes_room : (got rest : List ℕ) → view.point ≡ Claiming got rest → length got < MOST_NODES
  nodes_room got rest at =
      let here = claimed got rest at in
      let size = length-append got rest in
      let same = ap length here.nodes in
      let few = writes_few F (home F (record_read view.cmd.slot view.again)) (home F here.e.me) in
      let leaves = (sizes_of_depth F.tree.depth sound.depth).leaves in
      omega (arith, size, same, few, leaves)

  pub stores_left : (nodes : List ℕ) (stores : List Store) → view.point ≡ Storing nodes stores → 0 < length stores
  stores_left nodes stores at =
      let here : IsStoring F view.cmd.slot (record_read view.cmd.slot view.again) view.effect nodes stores = at_here (Storing nodes stores) at in
      here.left

  pub wanted_in : (point : Point) → view.point ≡ point → is_whole (stage_of point) ≡ true → All (λ (n : ℕ). n < nodes_of F) view.wanted
  wanted_in point at whole =
      let leaves = sound.whole (ap (λ (p : Point). is_whole (stage_of p)) at ∙ whole) in
      let sizes = sizes_of_depth F.tree.depth sound.depth in
      let some = sizes.some in
      let double = sizes.double in
      All-from_recursion (λ (n : ℕ). n < nodes_of F) view.wanted (all_from_has (λ (n : ℕ). n < nodes_of F) view.wanted (λ v there.
      let below = leaf_below F (region_in F view.cmd view.own) v (subst (λ (ns : List ℕ). has ns v ≡ true) leaves there) in
      omega (arith, below, some, double)))

  pub wanted_few : (point : Point) → view.point ≡ point → is_whole (stage_of point) ≡ true → length view.wanted ≤ MOST_NODES
  wanted_few point at whole =
      let wanted = ap length (sound.whole (ap (λ (p : Point). is_whole (stage_of p)) at ∙ whole)) in
      let few = leaf_nodes_length F (region_in F view.cmd view.own) in
      let leaves = (sizes_of_depth F.tree.depth sound.depth).leaves in
      omega (arith, wanted, few, leaves)
