-- What is known of the word that a step finds.
use Rattle.std.proofs.Common.{◌≡◌, ℕ, ◌+◌, ◌^◌, ◌<◌, Bool, true, false, List, [], ◌∷◌, ◌++◌, length, refl, sym, ap, ◌∙◌, subst, Option, Some, None, arith, slice_index}
use mathlib.Core.Option as maybe
use lib.ListN.{get_elem?}
use Rattle.atomic_table.specs.Table.{State}
use Rattle.entity_recs.specs.declared.effect.Effect.{Effect}
use Rattle.entity_recs.specs.Commands.{Command}
use Rattle.core_steps.specs.declared.step.StepKind.TheVariants.{Commit}
use Rattle.core_steps.specs.Cells.{word_in, cell_of}
use Rattle.core_steps.specs.Nodes.{Fixed, write_nodes}
use Rattle.core_steps.specs.Points.{Clear, Put, Link, Point, Idle, Owning, Taking, Checking, Entering, Entered, Loading}
use Rattle.core_steps.specs.Points.{Leaving, Sensing, Resolving, Claiming, Storing, Releasing, Returning, Yielding}
use Rattle.core_steps.specs.Reads.{View, record_read, effect_loaded}
use Rattle.core_steps.specs.Steps.{first_yield, next_give}
use Rattle.core_steps.specs.Machine.{Next, Begin, LoadOwn, LoadAgain, TakeNode, ClaimNode, ReadList, ReadPlayer, ReadState, CommitMove, StoreWord, GiveNode, YieldNode, YieldCount, beginning, resolving, quitting, committing, giving, next_at, kind_of, index_of, word_of_next}
use Rattle.core_steps.proofs.Asking.{loaded_record_is_taken}
use Rattle.core_seats.specs.Going.{word_left}
use Rattle.ruled_words.specs.Sights.{SightView}
use Rattle.ruled_words.specs.Going.{next_asked, MayGo}
use Rattle.ruled_words.specs.Rule.{IsRuled}
use Rattle.ruled_words.proofs.Goes.{found_is}
use Rattle.ruled_words.proofs.Counting.{count_is_small}

-- a commit is a step on the count
pub commit_index : (view : View) (next : Next) → kind_of next ≡ Commit → index_of view next ≡ 0
commit_index view (Begin c) e = cc
commit_index view LoadOwn e = cc
commit_index view LoadAgain e = cc
commit_index view (TakeNode node) e = cc
commit_index view (ClaimNode f node) e = cc
commit_index view (ReadList node plan) e = cc
commit_index view (ReadPlayer node part slot players plan) e = cc
commit_index view (ReadState id ids) e = cc
commit_index view (CommitMove f nodes) e = refl
commit_index view (StoreWord nodes (Clear node) stores) e = cc
commit_index view (StoreWord nodes (Put cell x) stores) e = cc
commit_index view (StoreWord nodes (Link node) stores) e = cc
commit_index view (GiveNode node) e = cc
commit_index view (YieldNode node) e = cc
commit_index view YieldCount e = cc

-- the point at which a word of a player's record is loaded next, but the first of the own
abbrev pub loading_of : Next → Option Point
loading_of (Begin c) = None
loading_of LoadOwn = Some Owning
loading_of LoadAgain = Some Checking
loading_of (TakeNode node) = None
loading_of (ClaimNode e node) = None
loading_of (ReadList node plan) = None
loading_of (ReadPlayer node part slot players plan) = Some (Loading node part (slot ∷ players) plan)
loading_of (ReadState id ids) = None
loading_of (CommitMove e nodes) = None
loading_of (StoreWord nodes store stores) = None
loading_of (GiveNode node) = None
loading_of (YieldNode node) = None
loading_of YieldCount = None

abbrev loading_next : Option Next → Option Point
loading_next None = None
loading_next (Some next) = loading_of next

none_loads : {R : Type 0} (q : Point) → None ≡ Some q → R
none_loads q e = cc

begin_loads : {R : Type 0} (q : Point) (given : Option Command) → loading_next (beginning given) ≡ Some q → R
begin_loads q None e = none_loads q e
begin_loads q (Some c) e = none_loads q e

give_loads : {R : Type 0} (q : Point) (o : Option ℕ) → loading_next (giving o) ≡ Some q → R
give_loads q None e = none_loads q e
give_loads q (Some node) e = none_loads q e

quit_loads : {R : Type 0} (q : Point) (o : Option ℕ) → loading_of (quitting o) ≡ Some q → R
quit_loads q None e = none_loads q e
quit_loads q (Some node) e = none_loads q e

commit_loads : {R : Type 0} (q : Point) (o : Option Effect) (nodes : List ℕ) → loading_next (committing o nodes) ≡ Some q → R
commit_loads q None nodes e = none_loads q e
commit_loads q (Some f) nodes e = none_loads q e

free_loads : {R : Type 0} (q : Point) (f : Effect) (nodes : List ℕ) → loading_of (resolving f nodes) ≡ Some q → R
free_loads q f [] e = none_loads q e
free_loads q f (node ∷ nodes) e = none_loads q e

same_point : (a b : Point) → Some a ≡ Some b → a ≡ b
same_point a b e = cc

loads_at : (F : Fixed) (view : View) (given : Option Command) (q point : Point) → loading_next (next_at F view given point) ≡ Some q → point ≡ q
loads_at F view given q Idle e = begin_loads q given e
loads_at F view given q Owning e = same_point Owning q e
loads_at F view given q (Taking got []) e = none_loads q e
loads_at F view given q (Taking got (leaf ∷ rest)) e = none_loads q e
loads_at F view given q Checking e = same_point Checking q e
loads_at F view given q (Entering node plan) e = none_loads q e
loads_at F view given q (Entered node plan) e = none_loads q e
loads_at F view given q (Loading node part [] plan) e = none_loads q e
loads_at F view given q (Loading node part (slot ∷ players) plan) e = same_point (Loading node part (slot ∷ players) plan) q e
loads_at F view given q (Leaving node plan) e = none_loads q e
loads_at F view given q (Sensing []) e = none_loads q e
loads_at F view given q (Sensing (id ∷ ids)) e = none_loads q e
loads_at F view given q Resolving e = free_loads q (effect_loaded F view) (write_nodes F (record_read view.cmd.slot view.again) (effect_loaded F view)) e
loads_at F view given q (Claiming got []) e = commit_loads q view.effect got e
loads_at F view given q (Claiming got (node ∷ rest)) e = none_loads q e
loads_at F view given q (Storing nodes []) e = none_loads q e
loads_at F view given q (Storing nodes (store ∷ stores)) e = none_loads q e
loads_at F view given q (Releasing nodes) e = give_loads q (next_give (Releasing nodes) view.wanted) e
loads_at F view given q (Returning leaves) e = give_loads q (next_give (Returning leaves) view.wanted) e
loads_at F view given q (Yielding nodes leaves) e = give_loads q (next_give (Yielding nodes leaves) view.wanted) e

pub loads_from : (F : Fixed) (view : View) (given : Option Command) (quits : Bool) (next : Next) (q : Point) → next_asked F view given quits ≡ Some next → loading_of next ≡ Some q → view.point ≡ q
loads_from F view given true next q comes e = quit_loads q (first_yield F view) (ap loading_next comes ∙ e)
loads_from F view given false next q comes e = loads_at F view given q view.point (ap loading_next comes ∙ e)

module _ (F : Fixed) (rooms : List ℕ) (s : State (Unit {0}) SightView) (r : IsRuled F rooms s) (i : ℕ) (sight : SightView) (at : get_elem? s.views i ≡ maybe.some sight)
    (given : Option Command) (quits : Bool) (next : Next) (may : MayGo F (length rooms) sight.number sight.view given quits next) where
  -- a count that a commit finds is small
  pub found_small : kind_of next ≡ Commit → slice_index s.words (index_of sight.view next) + 1 < 2 ^ 64
  found_small commits =
      let bound : slice_index s.words (index_of sight.view next) < 2 ^ 40 =
      subst (λ (n : ℕ). slice_index s.words n < 2 ^ 40) (sym (commit_index sight.view next commits)) (count_is_small F rooms s r) in
      omega (arith, bound)

  -- the record whose last word is found is one that the action takes
  pub found_taken : (node slot : ℕ) (part players plan : List ℕ) → next ≡ ReadPlayer node part slot players plan → length part ≡ 5
      → F.takes (record_read slot (part ++ slice_index s.words (index_of sight.view next) ∷ [])) ≡ true
  found_taken node slot part players plan is five =
      let view : View = r.core.view i in
      let seen : view ≡ sight.view = r.seats.view i sight at in
      let point : view.point ≡ Loading node part (slot ∷ players) plan =
      ap (λ (v : View). v.point) seen ∙ loads_from F sight.view given quits next (Loading node part (slot ∷ players) plan) may.comes (ap loading_of is) in
      let found : slice_index s.words (index_of sight.view next) ≡ word_in r.core.words (cell_of slot 5) =
      ap (λ (v : View). slice_index s.words (index_of v next)) (sym seen)
      ∙ found_is F rooms s r i sight at given quits next may
      ∙ ap (word_of_next r.core.words view) is ∙ ap (λ (k : ℕ). word_in r.core.words (cell_of slot k)) five in
      ap (λ (x : ℕ). F.takes (record_read slot (part ++ x ∷ []))) found
      ∙ loaded_record_is_taken F r.core r.history r.now i node slot part players plan r.lawful r.start point five r.stands.core

-- a store leaves a word that doesn't depend on the word found, and so is no commit and loads no record
pub store_small : (F : Fixed) (number : ℕ) (view : View) (next : Next) (new : ℕ) → ((found : ℕ) → word_left F number view next found ≡ new) → kind_of next ≡ Commit → new + 1 < 2 ^ 64
store_small F number view (Begin c) new left e = cc
store_small F number view LoadOwn new left e = cc
store_small F number view LoadAgain new left e = cc
store_small F number view (TakeNode node) new left e = cc
store_small F number view (ClaimNode f node) new left e = cc
store_small F number view (ReadList node plan) new left e = cc
store_small F number view (ReadPlayer node part slot players plan) new left e = cc
store_small F number view (ReadState id ids) new left e = cc
store_small F number view (CommitMove f nodes) new left e = let one = left 0 in let two = left 1 in absurd (omega (arith, one, two))
store_small F number view (StoreWord nodes (Clear node) stores) new left e = cc
store_small F number view (StoreWord nodes (Put cell x) stores) new left e = cc
store_small F number view (StoreWord nodes (Link node) stores) new left e = cc
store_small F number view (GiveNode node) new left e = cc
store_small F number view (YieldNode node) new left e = cc
store_small F number view YieldCount new left e = cc

pub store_loads : {R : Type 0} (F : Fixed) (number : ℕ) (view : View) (next : Next) (new node slot : ℕ) (part players plan : List ℕ) → ((found : ℕ) → word_left F number view next found ≡ new)
    → next ≡ ReadPlayer node part slot players plan → R
store_loads F number view next new node slot part players plan left is =
    let same : (found : ℕ) → found ≡ new = λ found. ap (λ (n : Next). word_left F number view n found) (sym is) ∙ left found in
    let one = same 0 in
    let two = same 1 in
    absurd (omega (arith, one, two))
