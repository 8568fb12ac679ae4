-- What each step on a word asks of the rule.
use Rattle.std.proofs.Common.{◌≡◌, ℕ, zero, suc, ◌+◌, ◌*◌, ◌%◌, ◌^◌, bit_and, bit_or, w64, ◌<◌, ◌≤◌, Bool, true, false, if◌then◌else◌, List, [], ◌∷◌, length, refl, sym, ap, ◌∙◌, subst, Option, Some, None, arith, slice_index}
use Rattle.std.specs.Prelude.{◌==◌}
use mathlib.Core.Option as maybe
use mathlib.Core.Option.{some-ne-none}
use lib.ListN.{get_elem?}
use prog.Atomic.{either}
use Rattle.atomic_table.specs.Table.{Me, State, keeps, Allows}
use Rattle.atomic_table.proofs.Lists.{set_here}
use Rattle.entity_recs.specs.Commands.{Command}
use Rattle.core_steps.specs.Nodes.{Fixed}
use Rattle.core_steps.specs.Points.{Clear, Put, Link}
use Rattle.core_steps.specs.Reads.{View}
use Rattle.core_steps.specs.declared.step.StepKind.TheVariants.{Commit}
use Rattle.core_steps.specs.Calls.{node_taken}
use Rattle.core_steps.specs.Machine.{Next, Begin, LoadOwn, LoadAgain, TakeNode, ClaimNode, ReadList, ReadPlayer, ReadState, CommitMove, StoreWord, GiveNode, YieldNode, YieldCount, index_of, kind_of}
use Rattle.ruled_words.specs.Sights.{SightView, sight_found, tally_taken, begun_after}
use Rattle.ruled_words.specs.Going.{MayGo}
use Rattle.core_seats.specs.Going.{view_found, word_left}
use Rattle.ruled_words.specs.Rule.{IsRuled}
use Rattle.ruled_words.specs.Plays.{SeatStepped}
use Rattle.ruled_words.specs.WordSteps.{word_by, MayBe}
use Rattle.ruled_words.specs.declared.word_step.WordStep.{WordStep}
use Rattle.ruled_words.proofs.Goes.{goes}
use Rattle.ruled_words.proofs.Holders.{found_held}
use Rattle.ruled_words.proofs.Reaching.{are_reached}
use Rattle.ruled_words.proofs.SoundSights.{sound_sight}
use Rattle.ruled_words.proofs.Found.{commit_index, found_small, found_taken, store_small, store_loads}
use Rattle.ruled_words.proofs.Bits.{cleared, set_bit}
use Rattle.ruled_words.proofs.Counting.{count_is_small, seen_is_below}
use Rattle.std.specs.Int.{bit_not}
use Rattle.core_steps.specs.Cells.{with_bit, without_bit}

-- a place at which there is something is in the list
pub there_below : {A : Type 0} (xs : List A) (i : ℕ) (x : A) → get_elem? xs i ≡ maybe.some x → i < length xs
there_below [] i x e = absurd (some-ne-none x (sym e))
there_below (y ∷ ys) zero x e = omega arith
there_below (y ∷ ys) (suc i) x e = let below = there_below ys i x e in omega arith

-- the step leaves in its word what it should, whatever the table is
abbrev Leaves : Fixed → List ℕ → Me (Unit {0}) SightView → Next → (ℕ → ℕ) → Type 0
Leaves F rooms me next f =
    (s : State (Unit {0}) SightView) → IsRuled F rooms s → slice_index s.words (index_of me.0.view next) < 18446744073709551616
    → f (slice_index s.words (index_of me.0.view next)) ≡ word_left F me.0.number me.0.view next (slice_index s.words (index_of me.0.view next))

-- a step that leaves in its word what it should is allowed, and gives the view after it
allowed_here : (F : Fixed) (rooms : List ℕ) (slots i : ℕ) (me : Me (Unit {0}) SightView) (given : Option Command) (quits : Bool) (next : Next) (f : ℕ → ℕ)
    → MayGo F (length rooms) me.0.number me.0.view given quits next
    → Leaves F rooms me next f
    → Allows (IsRuled F rooms) slots i me (index_of me.0.view next) f (λ found after. SeatStepped F (length rooms) next me found after)
allowed_here F rooms slots i me given quits next f may leaves s r homes at small =
    let found = slice_index s.words (index_of me.0.view next) in
    let new : SightView = sight_found F me.0 next found in
    let ruled = goes F rooms s r i me.0 at given quits next may (f found) (leaves s r small) in (
      new,
      keeps,
      tt,
      ruled,
      record {
        went = (
          record {
            number = refl;
            view = refl;
            tally = refl;
            sound_sight = sound_sight F rooms _ ruled i new (set_here s.views i new (there_below s.views i me.0 at));
            small = found_small F rooms s r i me.0 at given quits next may;
            taken = found_taken F rooms s r i me.0 at given quits next may;
            counted = λ is. subst (λ (n : Next). me.0.view.seen ≤ slice_index s.words (index_of me.0.view n)) (sym is) (seen_is_below F rooms s r i me.0 at);
          },
          refl,
        );
        held = found_held F rooms s r i me.0 at given quits next may;
        reached = are_reached F rooms s r i me.0 at given quits next may;
        seen = λ is. subst (λ (n : ℕ). me.0.view.seen ≤ slice_index s.words n) (sym (commit_index me.0.view next is)) (seen_is_below F rooms s r i me.0 at);
      },
    )

-- the same where what doesn't change, the number of passes and the word are picked
allowed_as : (F G : Fixed) (rooms : List ℕ) (passes word slots i : ℕ) (me : Me (Unit {0}) SightView) (given : Option Command) (quits : Bool) (next : Next) (f : ℕ → ℕ)
    → F ≡ G → passes ≡ length rooms → word ≡ index_of me.0.view next → MayGo F passes me.0.number me.0.view given quits next
    → Leaves F rooms me next f
    → Allows (IsRuled G rooms) slots i me word f (λ found after. SeatStepped F passes next me found after)
allowed_as F G rooms passes word slots i me given quits next f fixed count at may leaves =
    subst (λ (H : Fixed). Allows (IsRuled H rooms) slots i me word f (λ found after. SeatStepped F passes next me found after)) fixed
    (subst (λ (n : ℕ). Allows (IsRuled F rooms) slots i me word f (λ found after. SeatStepped F n next me found after)) (sym count)
    (subst (λ (n : ℕ). Allows (IsRuled F rooms) slots i me n f (λ found after. SeatStepped F (length rooms) next me found after)) (sym at)
    (allowed_here F rooms slots i me given quits next f (subst (λ (n : ℕ). MayGo F n me.0.number me.0.view given quits next) count may) leaves)))

-- the same where the word that is left is right of each word that may be found
pub allowed : (F G : Fixed) (rooms : List ℕ) (passes word slots i : ℕ) (me : Me (Unit {0}) SightView) (given : Option Command) (quits : Bool) (next : Next) (f : ℕ → ℕ)
    → F ≡ G → passes ≡ length rooms → word ≡ index_of me.0.view next → MayGo F passes me.0.number me.0.view given quits next
    → ((found : ℕ) → found < 18446744073709551616 → f found ≡ word_left F me.0.number me.0.view next found)
    → Allows (IsRuled G rooms) slots i me word f (λ found after. SeatStepped F passes next me found after)
allowed F G rooms passes word slots i me given quits next f fixed count at may leaves =
    allowed_as F G rooms passes word slots i me given quits next f fixed count at may (λ t ruled. leaves (slice_index t.words (index_of me.0.view next)))

-- a step that leaves the same word whatever was found doesn't load the count
no_store : {R : Type 0} (F : Fixed) (number : ℕ) (view : View) (next : Next) (new : ℕ) → ((found : ℕ) → word_left F number view next found ≡ new) → next ≡ YieldCount → R
no_store F number view next new leaves is =
    let left : (found : ℕ) → found ≡ new = λ found. subst (λ (n : Next). word_left F number view n found ≡ new) is (leaves found) in
    let zero_is = left 0 in
    let one_is = left 1 in
    absurd (omega (arith, zero_is, one_is))

-- doesn't commit
no_commit : {R : Type 0} (F : Fixed) (number : ℕ) (view : View) (next : Next) (new : ℕ) → ((found : ℕ) → word_left F number view next found ≡ new) → kind_of next ≡ Commit → R
no_commit F number view (CommitMove e nodes) new leaves is = let one = leaves 1 in let two = leaves 2 in absurd (omega (arith, one, two))
no_commit F number view (Begin c) new leaves is = cc
no_commit F number view LoadOwn new leaves is = cc
no_commit F number view LoadAgain new leaves is = cc
no_commit F number view (TakeNode node) new leaves is = cc
no_commit F number view (ClaimNode e node) new leaves is = cc
no_commit F number view (ReadList node plan) new leaves is = cc
no_commit F number view (ReadPlayer node part slot players plan) new leaves is = cc
no_commit F number view (ReadState id ids) new leaves is = cc
no_commit F number view (StoreWord nodes (Clear node) stores) new leaves is = cc
no_commit F number view (StoreWord nodes (Put cell x) stores) new leaves is = cc
no_commit F number view (StoreWord nodes (Link node) stores) new leaves is = cc
no_commit F number view (GiveNode node) new leaves is = cc
no_commit F number view (YieldNode node) new leaves is = cc
no_commit F number view YieldCount new leaves is = cc

-- and takes no node
no_take : (F : Fixed) (number : ℕ) (view : View) (next : Next) (new : ℕ) → ((n : ℕ) → word_left F number view next n ≡ new) → node_taken next ≡ None
no_take F number view (Begin c) new leaves = refl
no_take F number view LoadOwn new leaves = refl
no_take F number view LoadAgain new leaves = refl
no_take F number view (TakeNode node) new leaves = let one = leaves 1 in let two = leaves 2 in absurd (omega (arith, one, two))
no_take F number view (ClaimNode e node) new leaves = let one = leaves 1 in let two = leaves 2 in absurd (omega (arith, one, two))
no_take F number view (ReadList node plan) new leaves = refl
no_take F number view (ReadPlayer node part slot players plan) new leaves = refl
no_take F number view (ReadState id ids) new leaves = refl
no_take F number view (CommitMove e nodes) new leaves = refl
no_take F number view (StoreWord nodes store stores) new leaves = refl
no_take F number view (GiveNode node) new leaves = refl
no_take F number view (YieldNode node) new leaves = refl
no_take F number view YieldCount new leaves = refl

none_taken : {R : Type 0} (o : Option ℕ) (node : ℕ) → o ≡ None → o ≡ Some node → R
none_taken o node none some = cc

-- the same for a store, whose step gets the word that is stored
pub allowed_store : (F G : Fixed) (rooms : List ℕ) (passes word slots i : ℕ) (me : Me (Unit {0}) SightView) (given : Option Command) (quits : Bool) (next : Next) (new : ℕ)
    → F ≡ G → passes ≡ length rooms → word ≡ index_of me.0.view next → MayGo F passes me.0.number me.0.view given quits next
    → ((found : ℕ) → word_left F me.0.number me.0.view next found ≡ new)
    → ((found : ℕ) → view_found F me.0.view next found ≡ view_found F me.0.view next new)
    → Allows (IsRuled G rooms) slots i me word (λ _. new) (λ _ after. SeatStepped F passes next me new after)
allowed_store F G rooms passes word slots i me given quits next new fixed count at may leaves blind s r homes here small =
    let step = allowed F G rooms passes word slots i me given quits next (λ _. new) fixed count at may (λ found _. sym (leaves found)) s r homes here small in
    let went = step.4.went in
    let none = no_take F me.0.number me.0.view next new leaves in (
      step.0,
      step.1,
      step.2,
      step.3,
      record {
        went = (
          record {
            number = went.0.number;
            view = went.0.view ∙ blind (slice_index s.words word);
            tally = went.0.tally
                ∙ ap (λ (o : Option ℕ). record (tally_taken o (slice_index s.words word) (word_left F me.0.number me.0.view next (slice_index s.words word)) me.0.tally) { begun = begun_after next me.0.tally.begun }) none
                ∙ sym (ap (λ (o : Option ℕ). record (tally_taken o new (word_left F me.0.number me.0.view next new) me.0.tally) { begun = begun_after next me.0.tally.begun }) none);
            sound_sight = went.0.sound_sight;
            small = store_small F me.0.number me.0.view next new leaves;
            taken = λ node slot part players plan is five. store_loads F me.0.number me.0.view next new node slot part players plan leaves is;
            counted = λ is. no_store F me.0.number me.0.view next new leaves is;
          },
          went.1,
        );
        held = λ node is some. none_taken (node_taken next) node none is;
        reached = step.4.reached;
        seen = λ is. no_commit F me.0.number me.0.view next new leaves is;
      },
    )

either_is : (b : Bool) (x y : ℕ) → either b x y ≡ (if b then x else y)
either_is true x y = refl
either_is false x y = refl

-- the same for a compare-exchange from 0
pub allowed_from_0 : (F G : Fixed) (rooms : List ℕ) (passes word slots i : ℕ) (me : Me (Unit {0}) SightView) (given : Option Command) (quits : Bool) (next : Next) (new : ℕ)
    → F ≡ G → passes ≡ length rooms → word ≡ index_of me.0.view next → MayGo F passes me.0.number me.0.view given quits next
    → ((found : ℕ) → word_left F me.0.number me.0.view next found ≡ (if found == 0 then new else found))
    → Allows (IsRuled G rooms) slots i me word (λ n. either (n == 0) new n) (λ found after. SeatStepped F passes next me found after)
allowed_from_0 F G rooms passes word slots i me given quits next new fixed count at may leaves =
    allowed F G rooms passes word slots i me given quits next (λ n. either (n == 0) new n) fixed count at may
    (λ found _. either_is (found == 0) new found ∙ sym (leaves found))

-- the same for the count of commits, which grows by one
pub allowed_add : (F G : Fixed) (rooms : List ℕ) (passes word slots i : ℕ) (me : Me (Unit {0}) SightView) (given : Option Command) (quits : Bool) (next : Next)
    → F ≡ G → passes ≡ length rooms → word ≡ index_of me.0.view next → word ≡ 0 → MayGo F passes me.0.number me.0.view given quits next
    → ((found : ℕ) → word_left F me.0.number me.0.view next found ≡ found + 1)
    → Allows (IsRuled G rooms) slots i me word (λ n. (n + 1) % 2 ^ 64) (λ found after. SeatStepped F passes next me found after)
allowed_add F G rooms passes word slots i me given quits next fixed count at at_0 may leaves =
    allowed_as F G rooms passes word slots i me given quits next (λ n. (n + 1) % 2 ^ 64) fixed count at may
    (λ s r small.
    let found = slice_index s.words (index_of me.0.view next) in
    let bound : found < 2 ^ 40 = subst (λ (n : ℕ). slice_index s.words n < 2 ^ 40) (sym at_0 ∙ at) (count_is_small F rooms s r) in
    grown found bound ∙ sym (leaves found))
  where
    grown : (n : ℕ) → n < 2 ^ 40 → (n + 1) % 2 ^ 64 ≡ n + 1
    grown n bound = omega (arith, bound)

-- the same for a bit that is cleared or set
pub allowed_clear : (F G : Fixed) (rooms : List ℕ) (passes word slots i : ℕ) (me : Me (Unit {0}) SightView) (given : Option Command) (quits : Bool) (next : Next) (slot : ℕ)
    → F ≡ G → passes ≡ length rooms → word ≡ index_of me.0.view next → MayGo F passes me.0.number me.0.view given quits next → slot < 64
    → ((found : ℕ) → word_left F me.0.number me.0.view next found ≡ without_bit found slot)
    → Allows (IsRuled G rooms) slots i me word (λ n. bit_and n (bit_not w64 (1 * 2 ^ slot % 2 ^ 64))) (λ found after. SeatStepped F passes next me found after)
allowed_clear F G rooms passes word slots i me given quits next slot fixed count at may below leaves =
    allowed F G rooms passes word slots i me given quits next (λ n. bit_and n (bit_not w64 (1 * 2 ^ slot % 2 ^ 64))) fixed count at may
    (λ found small. cleared found slot small below ∙ sym (leaves found))

pub allowed_set : (F G : Fixed) (rooms : List ℕ) (passes word slots i : ℕ) (me : Me (Unit {0}) SightView) (given : Option Command) (quits : Bool) (next : Next) (slot : ℕ)
    → F ≡ G → passes ≡ length rooms → word ≡ index_of me.0.view next → MayGo F passes me.0.number me.0.view given quits next → slot < 64
    → ((found : ℕ) → word_left F me.0.number me.0.view next found ≡ with_bit found slot)
    → Allows (IsRuled G rooms) slots i me word (λ n. bit_or n (1 * 2 ^ slot % 2 ^ 64)) (λ found after. SeatStepped F passes next me found after)
allowed_set F G rooms passes word slots i me given quits next slot fixed count at may below leaves =
    allowed F G rooms passes word slots i me given quits next (λ n. bit_or n (1 * 2 ^ slot % 2 ^ 64)) fixed count at may
    (λ found small. set_bit found slot small below ∙ sym (leaves found))

-- ---- what a step on a word asks

-- the step leaves its word as what comes next of the seat does, and may be it
pub record AreAsked (F : Fixed) (number : ℕ) (view : View) (next : Next) (index : ℕ) (step : WordStep) : Type 0 where
  pub left : (found : ℕ) → word_left F number view next found ≡ word_by step found
  pub may : MayBe step F view next index

pub asked_as : (F : Fixed) (number : ℕ) (view : View) (next : Next) (index : ℕ) (step other : WordStep) → step ≡ other → AreAsked F number view next index step → AreAsked F number view next index other
asked_as F number view next index step other is asked = subst (AreAsked F number view next index) is asked
