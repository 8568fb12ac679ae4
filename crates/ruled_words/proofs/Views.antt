-- What a step keeps of the view: its seat lives, and its room, the seats that it made and ended, and its command stay.
use Rattle.std.proofs.Common.{◌≡◌, ℕ, Bool, true, false, if◌then◌else◌, List, [], ◌∷◌, ◌++◌, length, refl, subst, Option, Some, None}
use Rattle.std.specs.Prelude.{◌==◌}
use Rattle.std.proofs.lemmas.Bool.{false≢true}
use Rattle.entity_recs.specs.declared.effect.Effect.{Effect}
use Rattle.entity_recs.specs.Commands.{Command}
use Rattle.core_steps.specs.Nodes.{Fixed, write_nodes}
use Rattle.core_steps.specs.Points.{Point, Idle, Owning, Taking, Checking, Entering, Entered, Loading, Leaving, Sensing}
use Rattle.core_steps.specs.Points.{Resolving, Claiming, Storing, Releasing, Returning, Yielding, stage_of, is_busy}
use Rattle.core_steps.specs.Reads.{View, record_read, effect_loaded}
use Rattle.core_steps.specs.Held.{inner_held, leaves_held}
use Rattle.core_steps.specs.Steps.{rest_of, first_yield, next_give, is_taking, returning, released, yielding, yielded, view_after_give}
use Rattle.core_steps.specs.Machine.{Next, Begin, LoadOwn, LoadAgain, TakeNode, ClaimNode, ReadList, ReadPlayer, ReadState, CommitMove, StoreWord, GiveNode, YieldNode, YieldCount, giving, quitting, beginning, resolving, committing, next_at}
use Rattle.ruled_words.specs.Going.{next_asked}
use Rattle.core_seats.specs.Going.{view_found}

-- the command in view after what comes next
abbrev pub command_next : View → Next → Command
command_next view (Begin c) = c
command_next view LoadOwn = view.cmd
command_next view LoadAgain = view.cmd
command_next view (TakeNode node) = view.cmd
command_next view (ClaimNode e node) = view.cmd
command_next view (ReadList node plan) = view.cmd
command_next view (ReadPlayer node part slot players plan) = view.cmd
command_next view (ReadState id ids) = view.cmd
command_next view (CommitMove e nodes) = view.cmd
command_next view (StoreWord nodes store stores) = view.cmd
command_next view (GiveNode node) = view.cmd
command_next view (YieldNode node) = view.cmd
command_next view YieldCount = view.cmd

pub record Keeps (c : Command) (old new : View) : Type 0 where
  pub live : new.live ≡ old.live
  pub room : new.room ≡ old.room
  pub made : new.made ≡ old.made
  pub ended : new.ended ≡ old.ended
  pub cmd : is_busy (stage_of new.point) ≡ true → new.cmd ≡ c

-- all stays
pub all_stays : (c : Command) (old new : View) → new.live ≡ old.live → new.room ≡ old.room → new.made ≡ old.made → new.ended ≡ old.ended → new.cmd ≡ c → Keeps c old new
all_stays c old new live room made ended cmd = record { live = live; room = room; made = made; ended = ended; cmd = λ busy. cmd }

keeps_idle : (view : View) → Keeps view.cmd view (returning view [])
keeps_idle view = record { live = refl; room = refl; made = refl; ended = refl; cmd = λ busy. absurd (false≢true busy) }

keeps_returning : (view : View) (leaves : List ℕ) → Keeps view.cmd view (returning view leaves)
keeps_returning view [] = keeps_idle view
keeps_returning view (leaf ∷ leaves) = all_stays view.cmd view _ refl refl refl refl refl

keeps_released : (view : View) (nodes : List ℕ) → Keeps view.cmd view (released view nodes)
keeps_released view [] = keeps_returning view (rest_of view.wanted)
keeps_released view (node ∷ nodes) = all_stays view.cmd view _ refl refl refl refl refl

keeps_yielding : (view : View) (nodes leaves : List ℕ) → Keeps view.cmd view (yielding view nodes leaves)
keeps_yielding view [] [] = record { live = refl; room = refl; made = refl; ended = refl; cmd = λ busy. absurd (false≢true busy) }
keeps_yielding view [] (leaf ∷ leaves) = all_stays view.cmd view _ refl refl refl refl refl
keeps_yielding view (node ∷ nodes) leaves = all_stays view.cmd view _ refl refl refl refl refl

keeps_yielded : (view : View) (nodes leaves : List ℕ) → Keeps view.cmd view (yielded view nodes leaves)
keeps_yielded view [] leaves = keeps_yielding view [] (rest_of leaves)
keeps_yielded view (node ∷ nodes) leaves = keeps_yielding view nodes leaves

keeps_given : (F : Fixed) (view : View) (point : Point) → Keeps view.cmd view (view_after_give F view point)
keeps_given F view Idle = all_stays view.cmd view _ refl refl refl refl refl
keeps_given F view Owning = all_stays view.cmd view _ refl refl refl refl refl
keeps_given F view (Taking got rest) = all_stays view.cmd view _ refl refl refl refl refl
keeps_given F view Checking = all_stays view.cmd view _ refl refl refl refl refl
keeps_given F view (Entering node plan) = all_stays view.cmd view _ refl refl refl refl refl
keeps_given F view (Entered node plan) = all_stays view.cmd view _ refl refl refl refl refl
keeps_given F view (Loading node part players plan) = all_stays view.cmd view _ refl refl refl refl refl
keeps_given F view (Leaving node plan) = all_stays view.cmd view _ refl refl refl refl refl
keeps_given F view (Sensing ids) = all_stays view.cmd view _ refl refl refl refl refl
keeps_given F view Resolving = all_stays view.cmd view _ refl refl refl refl refl
keeps_given F view (Claiming got rest) = all_stays view.cmd view _ refl refl refl refl refl
keeps_given F view (Storing nodes stores) = all_stays view.cmd view _ refl refl refl refl refl
keeps_given F view (Releasing nodes) = keeps_released view nodes
keeps_given F view (Returning leaves) = keeps_returning view (rest_of leaves)
keeps_given F view (Yielding nodes leaves) = keeps_yielded view nodes leaves

either_keeps : (b : Bool) (c : Command) (old one two : View) → Keeps c old one → Keeps c old two → Keeps c old (if b then one else two)
either_keeps true c old one two yes' no' = yes'
either_keeps false c old one two yes' no' = no'

-- a step keeps what it should
pub keeps_found : (F : Fixed) (view : View) (next : Next) (found : ℕ) → Keeps (command_next view next) view (view_found F view next found)
keeps_found F view (Begin c) found = all_stays c view _ refl refl refl refl refl
keeps_found F view LoadOwn found =
    either_keeps (length (view.own ++ found ∷ []) == 6) view.cmd view _ _ (all_stays view.cmd view _ refl refl refl refl refl) (all_stays view.cmd view _ refl refl refl refl refl)
keeps_found F view LoadAgain found =
    either_keeps (length (view.again ++ found ∷ []) == 6) view.cmd view _ _ (all_stays view.cmd view _ refl refl refl refl refl) (all_stays view.cmd view _ refl refl refl refl refl)
keeps_found F view (TakeNode node) found =
    either_keeps (found == 0) view.cmd view _ _ (all_stays view.cmd view _ refl refl refl refl refl) (all_stays view.cmd view _ refl refl refl refl refl)
keeps_found F view (ClaimNode e node) found =
    either_keeps (found == 0) view.cmd view _ _ (all_stays view.cmd view _ refl refl refl refl refl) (all_stays view.cmd view _ refl refl refl refl refl)
keeps_found F view (ReadList node plan) found = all_stays view.cmd view _ refl refl refl refl refl
keeps_found F view (ReadPlayer node part slot players plan) found =
    either_keeps (length (part ++ found ∷ []) == 6) view.cmd view _ _ (all_stays view.cmd view _ refl refl refl refl refl) (all_stays view.cmd view _ refl refl refl refl refl)
keeps_found F view (ReadState id ids) found = all_stays view.cmd view _ refl refl refl refl refl
keeps_found F view (CommitMove e nodes) found = all_stays view.cmd view _ refl refl refl refl refl
keeps_found F view (StoreWord nodes store stores) found = all_stays view.cmd view _ refl refl refl refl refl
keeps_found F view (GiveNode node) found = keeps_given F view view.point
keeps_found F view (YieldNode node) found = keeps_yielded view (inner_held F view.point) (leaves_held view.point view.wanted)
keeps_found F view YieldCount found = record { live = refl; room = refl; made = refl; ended = refl; cmd = λ busy. absurd (false≢true busy) }

-- ---- whose command it is

module _ (view : View) (P : Command → Type 0) where
  command_is : (a next : Next) → Some a ≡ Some next → P (command_next view a) → P (command_next view next)
  command_is a next e p = subst (λ (o : Option Next). holds_of o) e p
    where
      holds_of : Option Next → Type 0
      holds_of None = Unit {0}
      holds_of (Some n) = P (command_next view n)

  none_comes : {R : Type 0} (next : Next) → None ≡ Some next → R
  none_comes next e = cc

  giving_is : (given : Option ℕ) (next : Next) → giving given ≡ Some next → P view.cmd → P (command_next view next)
  giving_is None next e p = none_comes next e
  giving_is (Some node) next e p = command_is (GiveNode node) next e p

  committing_is : (effect : Option Effect) (nodes : List ℕ) (next : Next) → committing effect nodes ≡ Some next → P view.cmd → P (command_next view next)
  committing_is None nodes next e p = none_comes next e
  committing_is (Some f) nodes next e p = command_is (CommitMove f nodes) next e p

  resolving_is : (f : Effect) (nodes : List ℕ) → P view.cmd → P (command_next view (resolving f nodes))
  resolving_is f [] p = p
  resolving_is f (node ∷ nodes) p = p

  quitting_is : (o : Option ℕ) → P view.cmd → P (command_next view (quitting o))
  quitting_is None p = p
  quitting_is (Some node) p = p

  beginning_is : (given : Option Command) (next : Next) → beginning given ≡ Some next → ((c : Command) → given ≡ Some c → P c) → P (command_next view next)
  beginning_is None next e p = none_comes next e
  beginning_is (Some c) next e p = command_is (Begin c) next e (p c refl)

  pub next_is : (F : Fixed) (given : Option Command) (point : Point) (next : Next) → next_at F view given point ≡ Some next
      → ((c : Command) → given ≡ Some c → P c) → (is_busy (stage_of point) ≡ true → P view.cmd) → P (command_next view next)
  next_is F given Idle next e new old = beginning_is given next e new
  next_is F given Owning next e new old = command_is LoadOwn next e (old refl)
  next_is F given (Taking got []) next e new old = none_comes next e
  next_is F given (Taking got (leaf ∷ rest)) next e new old = command_is (TakeNode leaf) next e (old refl)
  next_is F given Checking next e new old = command_is LoadAgain next e (old refl)
  next_is F given (Entering node plan) next e new old = command_is (TakeNode node) next e (old refl)
  next_is F given (Entered node plan) next e new old = command_is (ReadList node plan) next e (old refl)
  next_is F given (Loading node part [] plan) next e new old = none_comes next e
  next_is F given (Loading node part (slot ∷ players) plan) next e new old = command_is (ReadPlayer node part slot players plan) next e (old refl)
  next_is F given (Leaving node plan) next e new old = command_is (GiveNode node) next e (old refl)
  next_is F given (Sensing []) next e new old = none_comes next e
  next_is F given (Sensing (id ∷ ids)) next e new old = command_is (ReadState id ids) next e (old refl)
  next_is F given Resolving next e new old =
      let effect = effect_loaded F view in
      let nodes = write_nodes F (record_read view.cmd.slot view.again) effect in
      command_is (resolving effect nodes) next e (resolving_is effect nodes (old refl))
  next_is F given (Claiming got []) next e new old = committing_is view.effect got next e (old refl)
  next_is F given (Claiming got (node ∷ rest)) next e new old = command_is (TakeNode node) next e (old refl)
  next_is F given (Storing nodes []) next e new old = none_comes next e
  next_is F given (Storing nodes (store ∷ stores)) next e new old = command_is (StoreWord nodes store stores) next e (old refl)
  next_is F given (Releasing nodes) next e new old = giving_is (next_give (Releasing nodes) view.wanted) next e (old refl)
  next_is F given (Returning leaves) next e new old = giving_is (next_give (Returning leaves) view.wanted) next e (old refl)
  next_is F given (Yielding nodes leaves) next e new old = giving_is (next_give (Yielding nodes leaves) view.wanted) next e (old refl)

  taking_busy : (point : Point) → is_taking point ≡ true → is_busy (stage_of point) ≡ true
  taking_busy Idle e = e
  taking_busy Owning e = refl
  taking_busy (Taking got rest) e = refl
  taking_busy Checking e = refl
  taking_busy (Entering node plan) e = refl
  taking_busy (Entered node plan) e = refl
  taking_busy (Loading node part players plan) e = refl
  taking_busy (Leaving node plan) e = refl
  taking_busy (Sensing ids) e = refl
  taking_busy Resolving e = refl
  taking_busy (Claiming got rest) e = refl
  taking_busy (Storing nodes stores) e = refl
  taking_busy (Releasing nodes) e = refl
  taking_busy (Returning leaves) e = refl
  taking_busy (Yielding nodes leaves) e = refl

  -- the command in view after the step is the one that was given, or the one in view
  pub asked_is : (F : Fixed) (given : Option Command) (quits : Bool) (next : Next) → next_asked F view given quits ≡ Some next → (quits ≡ true → is_taking view.point ≡ true)
      → ((c : Command) → given ≡ Some c → P c) → (is_busy (stage_of view.point) ≡ true → P view.cmd) → P (command_next view next)
  asked_is F given true next e at new old = command_is (quitting (first_yield F view)) next e (quitting_is (first_yield F view) (old (taking_busy view.point (at refl))))
  asked_is F given false next e at new old = next_is F given view.point next e new old
