use Rattle.std.proofs.Common.{◌≡◌, ℕ, ◌<◌, List, ◌∷◌, length, sym, ap, ◌∙◌, subst, arith, length-set, slice_set}
use Rattle.core_steps.specs.Points.{Point, is_busy, stage_of}
use Rattle.core_steps.specs.Reads.{PlayerRead}
use Rattle.core_steps.specs.Reads.{players_in}
use Rattle.ruled_words.specs.Passes.{fixed_in, next_of_pass}
use Rattle.ruled_words.specs.Visits.{under_until}
use Rattle.ruled_words.proofs.BitWalks.{bits_in, bits_first, bits_none, players_are}
use Rattle.ruled_words.proofs.Gives.{lists_next, list_there}
use Rattle.ruled_words.proofs.Visited.{AreKept, list_comes, under_start, same_others, under_next, under_more, under_others, kept_start, kept_more, kept_end}
use Rattle.ruled_words.proofs.shared_words.SharedWords.read_under.Goals as goal

pub without_bit-players-requires : goal.without_bit-players-requires
without_bit-players-requires g c =
    subst (λ (n : ℕ). n < 64) (sym c.requires.slot) (c.requires.own.pass.sound_sight.sound.hand (ap (λ (q : Point). is_busy (stage_of q)) c.requires.at)).command.slot

pub step_hand-list-requires-clause-comes : goal.step_hand-list-requires-clause-comes
step_hand-list-requires-clause-comes g c κs within =
    let F = fixed_in g.A.Action.meaning c.args.self.now in
    list_there (next_of_pass F c.args.hand.now) c.args.node (list_comes F c.args.hand.now c.args.node c.requires.own.plain c.requires.at)

pub step_hand-list-requires-clause-index : goal.step_hand-list-requires-clause-index
step_hand-list-requires-clause-index g c κs within =
    let F = fixed_in g.A.Action.meaning c.args.self.now in
    c.from.ensures ∙ c.list_word.ensures
    ∙ sym (lists_next F (length c.args.self.now.rooms) c.args.self.now.table c.args.hand.now c.args.node c.requires.own.pass (list_comes F c.args.hand.now c.args.node c.requires.own.plain c.requires.at)).index

pub step_hand-list-requires-clause-left : goal.step_hand-list-requires-clause-left
step_hand-list-requires-clause-left g c κs within =
    let F = fixed_in g.A.Action.meaning c.args.self.now in
    (lists_next F (length c.args.self.now.rooms) c.args.self.now.table c.args.hand.now c.args.node c.requires.own.pass (list_comes F c.args.hand.now c.args.node c.requires.own.plain c.requires.at)).left

pub loop-rest-init : goal.loop-rest-init
loop-rest-init g c =
    let F = fixed_in g.A.Action.meaning c.args.self.now in
    let p = c.args.hand.now in
    let new = c.step_hand-list.new.hand in
    let left = c.without_bit-players.result in
    let start = under_start F p c.args.node c.requires.own.plain c.requires.at new c.step_hand-list.result c.step_hand-list.ensures.pass in
    let players = ap (λ (n : ℕ). players_in c.step_hand-list.result n) (sym c.requires.slot) ∙ players_are c.step_hand-list.result c.args.slot left c.without_bit-players.ensures.bits in
    let others = same_others F p c.args.node c.requires.own.plain c.requires.at new c.step_hand-list.result c.step_hand-list.ensures.pass in (
      c.step_hand-list.ensures.own,
      start ∙ ap (λ (xs : List ℕ). under_until F p c.args.node xs new) players,
      subst (λ (os : List PlayerRead). AreKept left left c.args.by_slot.now c.args.by_slot.now p.view.others os) (sym others) (kept_start left c.args.by_slot.now p.view.others),
      c.told-by_slot,
    )

pub load_player_words-requires-clause-next : goal.load_player_words-requires-clause-next
load_player_words-requires-clause-next g c κs within =
    let first = bits_first 64 c.loop-rest.rest c.without_bit-rest.result c.lowest_bit-other.result c.lowest_bit-other.ensures.below (omega arith) c.lowest_bit-other.ensures.there c.lowest_bit-other.ensures.first c.without_bit-rest.ensures.bits in
    under_next (fixed_in g.A.Action.meaning c.args.self.now) c.args.hand.now c.args.node c.lowest_bit-other.result (bits_in 64 c.without_bit-rest.result) c.loop-rest.hand
    (c.loop-rest.invariant.1 ∙ ap (λ (xs : List ℕ). under_until (fixed_in g.A.Action.meaning c.args.self.now) c.args.hand.now c.args.node xs c.loop-rest.hand) first)

pub loop-rest-preserved : goal.loop-rest-preserved
loop-rest-preserved g c =
    let other = c.lowest_bit-other.result in
    let new = c.load_player_words.new.hand in
    let words = c.load_player_words.result in
    let first = bits_first 64 c.loop-rest.rest c.without_bit-rest.result other c.lowest_bit-other.ensures.below (omega arith) c.lowest_bit-other.ensures.there c.lowest_bit-other.ensures.first c.without_bit-rest.ensures.bits in
    let is : c.loop-rest.hand ≡ under_until (fixed_in g.A.Action.meaning c.args.self.now) c.args.hand.now c.args.node (other ∷ bits_in 64 c.without_bit-rest.result) c.loop-rest.hand =
    c.loop-rest.invariant.1 ∙ ap (λ (xs : List ℕ). under_until (fixed_in g.A.Action.meaning c.args.self.now) c.args.hand.now c.args.node xs c.loop-rest.hand) first in
    let more = under_more (fixed_in g.A.Action.meaning c.args.self.now) c.args.hand.now c.args.node other (bits_in 64 c.without_bit-rest.result) c.loop-rest.hand is new words c.load_player_words.ensures.pass c.load_player_words.ensures.six in
    let others = under_others (fixed_in g.A.Action.meaning c.args.self.now) c.args.hand.now c.args.node other (bits_in 64 c.without_bit-rest.result) c.loop-rest.hand is new words c.load_player_words.ensures.pass c.load_player_words.ensures.six in
    let long = c.loop-rest.invariant.3 in
    let below = c.lowest_bit-other.ensures.below in
    let kept = kept_more c.without_bit-players.result c.loop-rest.rest c.without_bit-rest.result other c.args.by_slot.now c.loop-rest.by_slot c.args.hand.now.view.others c.loop-rest.hand.view.others words c.loop-rest.invariant.2 c.lowest_bit-other.ensures.below c.lowest_bit-other.ensures.there c.without_bit-rest.ensures.bits (omega (arith, long, below)) in (
      c.load_player_words.ensures.own,
      more,
      subst (λ (k : ℕ). AreKept c.without_bit-players.result c.without_bit-rest.result c.args.by_slot.now (slice_set c.loop-rest.by_slot k words) c.args.hand.now.view.others new.view.others) (sym c.from-in-loop-rest.ensures)
          (subst (λ (os : List PlayerRead). AreKept c.without_bit-players.result c.without_bit-rest.result c.args.by_slot.now (slice_set c.loop-rest.by_slot other words) c.args.hand.now.view.others os) (sym others) kept),
      length-set c.loop-rest.by_slot c.from-in-loop-rest.result words ∙ long,
    )

pub loop-rest-smaller : goal.loop-rest-smaller
loop-rest-smaller g c = c.without_bit-rest.ensures.less c.lowest_bit-other.ensures.there

pub returns-clause-kept : goal.returns-clause-kept
returns-clause-kept g c seen kept =
    kept_end c.without_bit-players.result seen c.args.by_slot.now c.loop-rest.by_slot c.args.hand.now.view.others c.loop-rest.hand.view.others
    (subst (λ (n : ℕ). AreKept c.without_bit-players.result n c.args.by_slot.now c.loop-rest.by_slot c.args.hand.now.view.others c.loop-rest.hand.view.others) c.loop-rest-test.false c.loop-rest.invariant.2) kept

pub returns-clause-view : goal.returns-clause-view
returns-clause-view g c =
    c.loop-rest.invariant.1 ∙ ap (λ (xs : List ℕ). under_until (fixed_in g.A.Action.meaning c.args.self.now) c.args.hand.now c.args.node xs c.loop-rest.hand) (ap (bits_in 64) c.loop-rest-test.false ∙ bits_none 64)
