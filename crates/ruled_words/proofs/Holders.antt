-- Who holds a node that is not free: another seat than the one that is to take it.
use Rattle.std.proofs.Common.{◌≡◌, ◌≢◌, ℕ, suc, ◌+◌, ◌-◌, ◌*◌, ◌/◌, ◌%◌, ◌^◌, ◌<◌, Bool, true, false, if◌then◌else◌, List, [], ◌∷◌, length, refl, sym, ap, ◌∙◌, subst, inl, inr, Option, Some, None, arith, slice_index}
use Rattle.std.specs.Prelude.{filter}
use Rattle.std.specs.List.{range_with_len}
use mathlib.Core.Option as maybe
use lib.ListN.{get_elem?}
use Rattle.std.proofs.lemmas.Bool.{cases_Bool, false≢true, true≢false, or_cases, cond-true}
use Rattle.std.proofs.Math.Nat.{pow-le-pow_right}
use Rattle.core_steps.specs.declared.sizes.TheConstants.{TABLE_LEAVES, MOST_SEATS, NODE_HOLDERS}
use Rattle.arena_geo.specs.Bounds.{Bounds}
use Rattle.atomic_table.specs.Table.{State}
use Rattle.entity_recs.specs.declared.effect.Effect.{Effect}
use Rattle.entity_recs.specs.Commands.{Command}
use Rattle.areanode.specs.Words.{has_bit}
use Rattle.areanode.specs.Depths.{sizes_of_depth}
use Rattle.areanode.specs.Trees.{IsTreeDepth, leaves_of}
use Rattle.core_steps.specs.Cells.{Words}
use Rattle.core_steps.specs.Nodes.{Fixed, has, is_leaf, inner_nodes, leaf_nodes, write_nodes}
use Rattle.core_steps.specs.Points.{Point, Idle, Owning, Taking, Checking, Entering, Entered, Loading, Leaving, Sensing}
use Rattle.core_steps.specs.Points.{Resolving, Claiming, Storing, Releasing, Returning, Yielding, stage_of, is_busy}
use Rattle.core_steps.specs.Points.{is_whole, is_writing}
use Rattle.core_steps.specs.Reads.{View, region_in, record_read, effect_loaded}
use Rattle.core_steps.specs.Held.{leaf_word, holds, held_word, inner_held, leaves_held}
use Rattle.core_steps.specs.Steps.{first_yield, next_give, next_node_at}
use Rattle.core_steps.specs.Stands.{IsAt}
use Rattle.core_steps.specs.Machine.{Next, Begin, LoadOwn, LoadAgain, TakeNode, ClaimNode, ReadList, ReadPlayer, ReadState, CommitMove, StoreWord, GiveNode, YieldNode, YieldCount, giving, quitting, beginning, committing, next_at, index_of, word_of_next, SomeIsLeft}
use Rattle.core_steps.specs.Calls.{node_taken}
use Rattle.core_steps.proofs.Lists.{has_front, has_filter, has_shifted}
use Rattle.core_steps.proofs.Waiting.{holder_below, holder_is_below, comes_next}
use Rattle.core_steps.proofs.Nexts.{taken_resolved}
use Rattle.ruled_words.specs.Sights.{SightView}
use Rattle.ruled_words.specs.Going.{next_asked, MayGo}
use Rattle.ruled_words.specs.Rule.{IsRuled}
use Rattle.ruled_words.specs.Passes.{node_taken_next, IsHolderIn}
use Rattle.ruled_words.specs.Holders.{IsHeldByOther, IsFoundHeld, IsOtherHolder}
use Rattle.ruled_words.proofs.Goes.{number_is, found_is}
use Rattle.ruled_words.proofs.LeafWords.{leaf_word_is, leaves_small}

-- ---- the node that is taken is the one that the seat takes next

taken_begun : {R : Type 0} (given : Option Command) (node : ℕ) → node_taken_next (beginning given) ≡ Some node → R
taken_begun None node e = cc
taken_begun (Some c) node e = cc

taken_given : {R : Type 0} (given : Option ℕ) (node : ℕ) → node_taken_next (giving given) ≡ Some node → R
taken_given None node e = cc
taken_given (Some given) node e = cc

taken_committed : {R : Type 0} (effect : Option Effect) (nodes : List ℕ) (node : ℕ) → node_taken_next (committing effect nodes) ≡ Some node → R
taken_committed None nodes node e = cc
taken_committed (Some effect) nodes node e = cc

taken_quitting : {R : Type 0} (yields : Option ℕ) (node : ℕ) → node_taken (quitting yields) ≡ Some node → R
taken_quitting None node e = cc
taken_quitting (Some n) node e = cc

taken_at : (F : Fixed) (view : View) (given : Option Command) (point : Point) (node : ℕ) → node_taken_next (next_at F view given point) ≡ Some node → next_node_at F view point ≡ Some node
taken_at F view given Idle node taken = taken_begun given node taken
taken_at F view given Owning node taken = cc
taken_at F view given (Taking got []) node taken = cc
taken_at F view given (Taking got (leaf ∷ rest)) node taken = taken
taken_at F view given Checking node taken = cc
taken_at F view given (Entering n plan) node taken = taken
taken_at F view given (Entered n plan) node taken = cc
taken_at F view given (Loading n part [] plan) node taken = cc
taken_at F view given (Loading n part (slot ∷ players) plan) node taken = cc
taken_at F view given (Leaving n plan) node taken = cc
taken_at F view given (Sensing []) node taken = cc
taken_at F view given (Sensing (id ∷ ids)) node taken = cc
taken_at F view given Resolving node taken =
    let effect = effect_loaded F view in
    taken_resolved effect (write_nodes F (record_read view.cmd.slot view.again) effect) node taken
taken_at F view given (Claiming got []) node taken = taken_committed view.effect got node taken
taken_at F view given (Claiming got (n ∷ rest)) node taken = taken
taken_at F view given (Storing nodes []) node taken = cc
taken_at F view given (Storing nodes (store ∷ stores)) node taken = cc
taken_at F view given (Releasing nodes) node taken = taken_given (next_give (Releasing nodes) view.wanted) node taken
taken_at F view given (Returning leaves) node taken = taken_given (next_give (Returning leaves) view.wanted) node taken
taken_at F view given (Yielding nodes leaves) node taken = taken_given (next_give (Yielding nodes leaves) view.wanted) node taken

pub taken_asked : (F : Fixed) (view : View) (given : Option Command) (quits : Bool) (node : ℕ) → node_taken_next (next_asked F view given quits) ≡ Some node → next_node_at F view view.point ≡ Some node
taken_asked F view given true node taken = taken_quitting (first_yield F view) node taken
taken_asked F view given false node taken = taken_at F view given view.point node taken

-- the word of a take is the node's
word_taken : (words : Words) (view : View) (next : Next) (node : ℕ) → node_taken next ≡ Some node → word_of_next words view next ≡ words.node node
word_taken words view (Begin c) node e = cc
word_taken words view LoadOwn node e = cc
word_taken words view LoadAgain node e = cc
word_taken words view (TakeNode n) node e = ap words.node (same_node n node e)
  where
    same_node : (n node : ℕ) → Some n ≡ Some node → n ≡ node
    same_node n node e = cc
word_taken words view (ClaimNode effect n) node e = ap words.node (same_node n node e)
  where
    same_node : (n node : ℕ) → Some n ≡ Some node → n ≡ node
    same_node n node e = cc
word_taken words view (ReadList n plan) node e = cc
word_taken words view (ReadPlayer n part slot players plan) node e = cc
word_taken words view (ReadState id ids) node e = cc
word_taken words view (CommitMove effect nodes) node e = cc
word_taken words view (StoreWord nodes store stores) node e = cc
word_taken words view (GiveNode n) node e = cc
word_taken words view (YieldNode n) node e = cc
word_taken words view YieldCount node e = cc

-- ---- what is known of a seat that holds a node

record IsHolder (point : Point) : Type 0 where
  busy : is_busy (stage_of point) ≡ true
  whole : is_whole (stage_of point) ≡ true

holds_whole : (F : Fixed) (point : Point) (wanted : List ℕ) (node : ℕ) → holds F point wanted node ≡ true → IsHolder point
holds_whole F Idle wanted node held = absurd (false≢true held)
holds_whole F Owning wanted node held = absurd (false≢true held)
holds_whole F (Taking got rest) wanted node held = record { busy = refl; whole = refl }
holds_whole F Checking wanted node held = record { busy = refl; whole = refl }
holds_whole F (Entering n plan) wanted node held = record { busy = refl; whole = refl }
holds_whole F (Entered n plan) wanted node held = record { busy = refl; whole = refl }
holds_whole F (Loading n part players plan) wanted node held = record { busy = refl; whole = refl }
holds_whole F (Leaving n plan) wanted node held = record { busy = refl; whole = refl }
holds_whole F (Sensing ids) wanted node held = record { busy = refl; whole = refl }
holds_whole F Resolving wanted node held = record { busy = refl; whole = refl }
holds_whole F (Claiming got rest) wanted node held = record { busy = refl; whole = refl }
holds_whole F (Storing nodes stores) wanted node held = record { busy = refl; whole = refl }
holds_whole F (Releasing nodes) wanted node held = record { busy = refl; whole = refl }
holds_whole F (Returning leaves) wanted node held = record { busy = refl; whole = refl }
holds_whole F (Yielding nodes leaves) wanted node held = record { busy = refl; whole = refl }

-- the leaves that are held are among those wanted
held_wanted : (F : Fixed) (view : View) (point : Point) (node : ℕ) → IsAt F view.cmd view.own view.wanted view.again view.lists view.others view.states view.effect point → SomeIsLeft point view.wanted
    → has (leaves_held point view.wanted) node ≡ true → has view.wanted node ≡ true
held_wanted F view Idle node at left held = absurd (false≢true held)
held_wanted F view Owning node at left held = absurd (false≢true held)
held_wanted F view (Taking got rest) node at left held = subst (λ (ns : List ℕ). has ns node ≡ true) at.all (has_front got rest node held)
held_wanted F view Checking node at left held = held
held_wanted F view (Entering n plan) node at left held = held
held_wanted F view (Entered n plan) node at left held = held
held_wanted F view (Loading n part players plan) node at left held = held
held_wanted F view (Leaving n plan) node at left held = held
held_wanted F view (Sensing ids) node at left held = held
held_wanted F view Resolving node at left held = held
held_wanted F view (Claiming got rest) node at left held = held
held_wanted F view (Storing nodes stores) node at left held = held
held_wanted F view (Releasing nodes) node at left held = held
held_wanted F view (Returning leaves) node at left held = left.among node held
held_wanted F view (Yielding nodes leaves) node at left held = left.among node held

-- a leaf of a region has its bit in the word of the region's leaves
leaf_has_bit : (F : Fixed) (region : List Bounds) (node : ℕ) → has (leaf_nodes F region) node ≡ true → has_bit (leaves_of F.tree region) (node - inner_nodes F) ≡ true
leaf_has_bit F region node there =
    let range = range_with_len 0 (2 ^ F.tree.depth) in
    let s = has_shifted (2 ^ F.tree.depth - 1) (filter (has_bit (leaves_of F.tree region)) range) node there in
    let kept = has_filter (has_bit (leaves_of F.tree region)) range s.from s.listed in
    subst (λ (n : ℕ). has_bit (leaves_of F.tree region) n ≡ true) (from_is node s.from (inner_nodes F) s.is) kept.passes
  where
    from_is : (node from inner : ℕ) → node ≡ inner + from → from ≡ node - inner
    from_is node from inner e = omega (arith, e)

module _ (F : Fixed) (rooms : List ℕ) (s : State (Unit {0}) SightView) (r : IsRuled F rooms s) where
  -- a seat that holds a leaf wants it
  holder_wants : (j node : ℕ) → holds F (r.core.view j).point (r.core.view j).wanted node ≡ true → is_leaf F node ≡ true → has (r.core.view j).wanted node ≡ true
  holder_wants j node held leaf =
      let view = r.core.view j in
      let seat = r.stands.core.seats j in
      elim (or_cases (has (inner_held F view.point) node) (has (leaves_held view.point view.wanted) node) held) [
        | inl inner ↦ absurd (true≢false (sym leaf ∙ seat.holding.inner_are_inner node inner))
        | inr there ↦ held_wanted F view view.point node seat.at (r.stands.next j).left there
      ]

  -- what is known of the seat that holds a node
  held_by : (number j node : ℕ) → j ≢ number → holds F (r.core.view j).point (r.core.view j).wanted node ≡ true → IsHeldByOther F (length rooms) number node (r.core.words.node node)
  held_by number j node other held =
      let view = r.core.view j in
      let seat = r.stands.core.seats j in
      let is = holds_whole F view.point view.wanted node held in
      let made = holder_is_below F r.core r.history r.now j node r.stands.core held in
      let most = r.fits.made in
      let few = r.fits.few in
      let wanted : view.wanted ≡ leaf_nodes F (region_in F view.cmd view.own) = seat.own.leaves is.whole in
      record {
        holder = j;
        other = other;
        below = omega (arith, made, most);
        small = omega (arith, made, most, few);
        view = view;
        given = seat.hand is.busy;
        serves = r.serves j is.busy;
        held = held;
        wanted = wanted;
        has_leaf = λ leaf.
            leaf_has_bit F (region_in F view.cmd view.own) node
            (subst (λ (ns : List ℕ). has ns node ≡ true) wanted (holder_wants j node held leaf));
        is_word = seat.named node held;
      }

  module _ (i : ℕ) (sight : SightView) (at : get_elem? s.views i ≡ maybe.some sight) (given : Option Command) (quits : Bool) (next : Next) (may : MayGo F (length rooms) sight.number sight.view given quits next) where
    -- a node that isn't free is held by another seat than the one that is to take it
    held_in_core : (node : ℕ) → node_taken next ≡ Some node → r.core.words.node node ≢ 0 → IsHeldByOther F (length rooms) i node (r.core.words.node node)
    held_in_core node taken busy =
        let seen : r.core.view i ≡ sight.view = r.seats.view i sight at in
        let next_node : next_node_at F (r.core.view i) (r.core.view i).point ≡ Some node =
        subst (λ (v : View). next_node_at F v v.point ≡ Some node) (sym seen) (taken_asked F sight.view given quits node (ap node_taken_next may.comes ∙ taken)) in
        let later = comes_next F r.core r.history r.now i node (r.core.view i).point r.stands.core refl next_node in
        elim (holder_below F r.core node (r.core.view 0).made) [
          | inl found ↦ held_by i found.holder node
              (λ same. not_before node (later.before node (subst (λ (n : ℕ). holds F (r.core.view n).point (r.core.view n).wanted node ≡ true) same found.held))) found.held
          | inr none ↦ absurd (busy (r.stands.core.free node (λ j. elim (cases_Bool (holds F (r.core.view j).point (r.core.view j).wanted node)) [
            | inl held ↦ absurd (true≢false (sym held ∙ none j (holder_is_below F r.core r.history r.now j node r.stands.core held)))
            | inr free ↦ free
          ])))
        ]
      where
        not_before : (node : ℕ) → {a : ℕ} → a < a → ⊥
        not_before node less = omega (arith, less)

    -- where the word that a take finds isn't 0, another seat holds the node
    pub found_held : IsFoundHeld F (length rooms) sight.number next (slice_index s.words (index_of sight.view next))
    found_held node taken busy =
        let seen : r.core.view i ≡ sight.view = r.seats.view i sight at in
        let found : slice_index s.words (index_of sight.view next) ≡ r.core.words.node node =
        ap (λ (v : View). slice_index s.words (index_of v next)) (sym seen) ∙ found_is F rooms s r i sight at given quits next may ∙ word_taken r.core.words (r.core.view i) next node taken in
        subst (λ (n : ℕ). IsHeldByOther F (length rooms) n node (slice_index s.words (index_of sight.view next))) (sym (number_is F rooms s r i sight at may.lives))
        (subst (IsHeldByOther F (length rooms) i node) (sym found) (held_in_core node taken (λ zero. busy (found ∙ zero))))

-- ---- the holder, as its word names it

number_in : (word holder mark : ℕ) → word ≡ suc (holder + NODE_HOLDERS * mark) → holder < MOST_SEATS → (word - 1) % NODE_HOLDERS ≡ holder
number_in word holder mark e small = subst (λ (w : ℕ). (w - 1) % NODE_HOLDERS ≡ holder) (sym e) (plain holder mark small)
  where
    plain : (holder mark : ℕ) → holder < MOST_SEATS → (suc (holder + NODE_HOLDERS * mark) - 1) % NODE_HOLDERS ≡ holder
    plain holder mark small = omega (arith, small)

mark_in : (word holder mark : ℕ) → word ≡ suc (holder + NODE_HOLDERS * mark) → holder < MOST_SEATS → mark < 2 ^ TABLE_LEAVES → word / NODE_HOLDERS % 2 ^ TABLE_LEAVES ≡ mark
mark_in word holder mark e small low = subst (λ (w : ℕ). w / NODE_HOLDERS % 2 ^ TABLE_LEAVES ≡ mark) (sym e) (plain holder mark small low)
  where
    plain : (holder mark : ℕ) → holder < MOST_SEATS → mark < 2 ^ TABLE_LEAVES → suc (holder + NODE_HOLDERS * mark) / NODE_HOLDERS % 2 ^ TABLE_LEAVES ≡ mark
    plain holder mark small low = omega (arith, small, low)

-- the word of a node has a bit for each leaf of the tree
pub leaves_fit : (F : Fixed) (region : List Bounds) → IsTreeDepth F.tree.depth → leaves_of F.tree region < 2 ^ TABLE_LEAVES
leaves_fit F region depth =
    let small = leaves_small F region (leaves_of F.tree region) refl in
    let fits = pow-le-pow_right {n = 2} (omega arith) (sizes_of_depth F.tree.depth depth).leaves in
    omega (arith, small, fits)

module _ (F : Fixed) (passes own node word number leaves : ℕ) (depth : IsTreeDepth F.tree.depth) (by : IsHeldByOther F passes own node word) (is : IsHolderIn F word node number leaves) where
  abbrev region : List Bounds
  region = region_in F by.view.cmd by.view.own

  same_number : number ≡ by.holder
  same_number = is.is_number ∙ number_in word by.holder _ by.is_word by.small

  -- the word of a leaf has the leaves of the command
  same_leaves : is_leaf F node ≡ true → leaves ≡ leaves_of F.tree region
  same_leaves leaf =
      let mark : leaf_word F by.view.wanted ≡ leaves_of F.tree region = ap (leaf_word F) by.wanted ∙ leaf_word_is F region in
      let low = leaves_fit F region depth in
      let full : word ≡ suc (by.holder + NODE_HOLDERS * leaves_of F.tree region) =
      by.is_word ∙ ap (λ (x : ℕ). suc (by.holder + NODE_HOLDERS * x)) (cond-true (is_leaf F node) (leaf_word F by.view.wanted) (if is_writing (stage_of by.view.point) then 1 else 0) leaf ∙ mark) in
      is.are_leaves ∙ cond-true (is_leaf F node) (word / NODE_HOLDERS % 2 ^ TABLE_LEAVES) 0 leaf ∙ mark_in word by.holder (leaves_of F.tree region) full by.small low

  pub other_holder : IsOtherHolder F passes own node word number leaves
  other_holder = record {
    other = λ same. by.other (sym same_number ∙ same);
    below = subst (λ (n : ℕ). n < passes) (sym same_number) by.below;
    view = by.view;
    given = by.given;
    serves = by.serves ∙ sym same_number;
    held = by.held;
    wanted = by.wanted;
    is_word = by.is_word ∙ ap (λ (n : ℕ). held_word F n (stage_of by.view.point) by.view.wanted node) (sym same_number);
    are_leaves = same_leaves;
    has_leaf = λ leaf. subst (λ (w : ℕ). has_bit w (node - inner_nodes F) ≡ true) (sym (same_leaves leaf)) (by.has_leaf leaf);
  }
