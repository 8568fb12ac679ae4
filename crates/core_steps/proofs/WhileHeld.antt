-- What a seat that holds all its leaves has read.
use Rattle.std.proofs.Common.{◌≡◌, ℕ, true, List, length, refl, ap, ◌∙◌, arith}
use Rattle.std.proofs.lemmas.Bool.{false≢true, or_left}
use Rattle.entity_recs.specs.declared.effect.NewState.{NewState}
use Rattle.entity_recs.specs.Worlds.{World}
use Rattle.entity_recs.specs.Histories.{Item}
use Rattle.core_steps.specs.Nodes.{Fixed, home}
use Rattle.core_steps.specs.Points.{Point, Idle, Owning, Taking, Checking, Entering, Entered, Loading, Leaving, Sensing}
use Rattle.core_steps.specs.Points.{Resolving, Claiming, Storing, Releasing, Returning, Yielding, AtChecking, stage_of}
use Rattle.core_steps.specs.Points.{is_open, is_settled, is_before_leaves, is_without_effect}
use Rattle.core_steps.specs.Reads.{ListRead, PlayerRead, View, list_at, player_at, state_at}
use Rattle.core_steps.specs.Held.{leaves_held}
use Rattle.core_steps.specs.Steps.{Core}
use Rattle.core_steps.specs.Stands.{IsReadStill, Stands}
use Rattle.core_steps.specs.Laws.{ReadIsRightWhileLeavesAreHeld}

module _ (F : Fixed) (core : Core) (history : List Item) (now : World) (i : ℕ) (is : Stands F core history now) where
  abbrev view : View
  view = core.view i

  abbrev IsRight : Type 0
  IsRight = IsReadStill F core.words.links now view.cmd AtChecking view.own view.wanted view.again view.lists view.others view.states view.effect

  -- before all leaves are held nothing is read
  before_leaves : is_before_leaves (stage_of view.point) ≡ true → is_without_effect (stage_of view.point) ≡ true → IsRight
  before_leaves before without =
      let unread = (is.seats i).unread in
      let again = unread.no_again before in
      let lists = unread.no_lists before in
      let others = unread.no_others before in
      let states = unread.no_states before in
      let effect = unread.no_effect without in
      record {
        right = record {
          same_again = λ _ k below. let none = ap length again in absurd (omega (arith, below, none));
          whole = λ read. absurd (false≢true read);
          same_player = λ _ p words _ read _. let none = ap (λ (rs : List PlayerRead). player_at rs p) others in cc;
          same_state = λ _ id state _ _ read _. let none = ap (λ (ss : List NewState). state_at ss id) states in cc;
          has_its_bit = λ _ p word _ _ _ read. let none = ap (λ (ls : List ListRead). list_at ls (home F (now.record_of p))) lists in cc;
        };
        resolved = record { is_outcome = λ _ e is_e. cc };
        same_list = λ node word read _. let none = ap (λ (ls : List ListRead). list_at ls node) lists in cc;
      }

  -- once all leaves are held and the command isn't given up
  settled_right : is_settled (stage_of view.point) ≡ true → IsRight
  settled_right settled =
      let seat = is.seats i in
      record {
        right = record {
          same_again = λ _. seat.right.same_again settled;
          whole = λ read. absurd (false≢true read);
          same_player = λ _. seat.right.same_player settled;
          same_state = λ _. seat.right.same_state settled;
          has_its_bit = λ _. seat.right.has_its_bit settled;
        };
        resolved = record { is_outcome = λ _. seat.resolved.is_outcome settled };
        same_list = λ node word read leaf. seat.current.same_list settled node word read (or_left _ _ leaf);
      }

  -- while the command is given up
  giving_up_right : (nodes : List ℕ) → view.point ≡ Yielding nodes view.wanted → IsRight
  giving_up_right nodes e =
      let still = (is.seats i).giving_up.still nodes e in
      record {
        right = record {
          same_again = λ _. still.right.same_again refl;
          whole = λ read. absurd (false≢true read);
          same_player = λ _. still.right.same_player refl;
          same_state = λ _. still.right.same_state refl;
          has_its_bit = λ _. still.right.has_its_bit refl;
        };
        resolved = record { is_outcome = λ _. still.resolved.is_outcome refl };
        same_list = still.same_list;
      }

  at_point : (point : Point) → view.point ≡ point → is_open (stage_of point) ≡ true → leaves_held point view.wanted ≡ view.wanted → IsRight
  at_point Idle e open' all = absurd (false≢true open')
  at_point Owning e open' all = before_leaves (ap (λ (p : Point). is_before_leaves (stage_of p)) e) (ap (λ (p : Point). is_without_effect (stage_of p)) e)
  at_point (Taking got rest) e open' all = before_leaves (ap (λ (p : Point). is_before_leaves (stage_of p)) e) (ap (λ (p : Point). is_without_effect (stage_of p)) e)
  at_point Checking e open' all = settled_right (ap (λ (p : Point). is_settled (stage_of p)) e)
  at_point (Entering node plan) e open' all = settled_right (ap (λ (p : Point). is_settled (stage_of p)) e)
  at_point (Entered node plan) e open' all = settled_right (ap (λ (p : Point). is_settled (stage_of p)) e)
  at_point (Loading node part players plan) e open' all = settled_right (ap (λ (p : Point). is_settled (stage_of p)) e)
  at_point (Leaving node plan) e open' all = settled_right (ap (λ (p : Point). is_settled (stage_of p)) e)
  at_point (Sensing ids) e open' all = settled_right (ap (λ (p : Point). is_settled (stage_of p)) e)
  at_point Resolving e open' all = settled_right (ap (λ (p : Point). is_settled (stage_of p)) e)
  at_point (Claiming got rest) e open' all = settled_right (ap (λ (p : Point). is_settled (stage_of p)) e)
  at_point (Storing nodes stores) e open' all = absurd (false≢true open')
  at_point (Releasing nodes) e open' all = absurd (false≢true open')
  at_point (Returning leaves) e open' all = absurd (false≢true open')
  at_point (Yielding nodes leaves) e open' all = giving_up_right nodes (e ∙ ap (λ (ls : List ℕ). Yielding nodes ls) all)

pub read_is_right_while_leaves_are_held : ReadIsRightWhileLeavesAreHeld
read_is_right_while_leaves_are_held F core history now i is open' all = at_point F core history now i is (core.view i).point refl open' all
