-- A round of turns: each pass serves its share.
use Rattle.std.proofs.Common.{◌≡◌, ℕ, ◌-◌, ◌<◌, List, [], ◌∷◌, ◌++◌, length, map, take, drop, get_or, Option, Some, None, refl, sym, ap, ◌∙◌, subst, arith}
use Rattle.std.proofs.lemmas.List.{take_all, take-append-le}
use Rattle.std.specs.Prelude.{All, IsSome, IfSome, IsSomeAnd}
use Rattle.std.specs.Arc.{arc_value}
use Rattle.entity_recs.specs.declared.cmd.Cmd.{Cmd}
use Rattle.entity_recs.specs.Commands.{Command, command_of}
use Rattle.arena_actions.specs.declared.map_action.MapAction.{MapAction}
use Rattle.ruled_words.specs.Passes.{PassView, TableView}
use Rattle.crew.specs.Rounds.{ChangesEach}
use Rattle.move_phase.specs.declared.frame_moves.FrameMoves.{FrameMoves}
use Rattle.move_phase.specs.declared.turn.Work.{Work}
use Rattle.move_phase.specs.declared.turn.Turn.{Turn}
use Rattle.move_phase.specs.Turns.{AreReversed, commands_in, MayServeOn, HasServedOn, MayWork, HasWorked, MayRun, HasRun, HasPass, HasSomePass, IsTurnOf}

-- the frame has this world, these moves, and so many workers
pub record IsFrameOf (table : TableView MapAction) (moves : List Cmd) (workers : ℕ) (frame : FrameMoves) : Type 0 where
  pub shared : frame.shared ≡ Some table
  pub moves_are : frame.moves.items ≡ moves
  pub workers_are : frame.workers ≡ workers

-- an item of a list that has one
an_item : {X : Type 0} → (xs : List X) → 0 < length xs → X
an_item [] some = absurd (omega (arith, some))
an_item (x ∷ xs) some = x

-- what is lent whole, and comes back with as many items, is what came back
pub same_turns : {X : Type 0} → (us ts : List X) (n : ℕ) → length us ≡ length ts → n ≡ length ts → take n (us ++ drop (length us) ts) ≡ us
same_turns us ts n count whole = take-append-le n us (drop (length us) ts) (omega (arith, count, whole)) ∙ take_all n us (omega (arith, count, whole))

module _ (table : TableView MapAction) (moves : List Cmd) (workers : ℕ) (frame : FrameMoves) (is : IsFrameOf table moves workers frame) where
  same_commands : commands_in frame ≡ map command_of moves
  same_commands = ap (map command_of) is.moves_are

  -- ---- one turn, by its work

  may_work : (w : Work) (p : PassView) → arc_value w.frame ≡ frame → w.pass ≡ p → MayServeOn workers (map command_of moves) table p → MayWork w
  may_work w p same pass may =
      subst (λ (f : FrameMoves). IsSomeAnd f.shared (λ t. MayServeOn f.workers (commands_in f) t w.pass)) (sym same)
      (subst (λ (s : Option (TableView MapAction)). IsSomeAnd s (λ t. MayServeOn frame.workers (commands_in frame) t w.pass)) (sym is.shared)
      (subst (λ (n : ℕ). MayServeOn n (commands_in frame) table w.pass) (sym is.workers_are)
      (subst (λ (cs : List Command). MayServeOn workers cs table w.pass) (sym same_commands)
      (subst (MayServeOn workers (map command_of moves) table) (sym pass) may))))

  may_run : (work : Option Work) (p : PassView) → IsSomeAnd work (λ w. (arc_value w.frame ≡ frame) × (w.pass ≡ p))
      → MayServeOn workers (map command_of moves) table p → IfSome work MayWork
  may_run (Some w) p (same, pass) may = may_work w p same pass may
  may_run None p of may = tt

  has_worked : (w u : Work) (p q : PassView) → arc_value w.frame ≡ frame → w.pass ≡ p → u.pass ≡ q → HasWorked w u → HasServedOn (map command_of moves) table p q
  has_worked w u p q same before after worked =
      subst (λ (r : PassView). HasServedOn (map command_of moves) table r q) before
      (subst (HasServedOn (map command_of moves) table w.pass) after
      (subst (λ (cs : List Command). HasServedOn cs table w.pass u.pass) same_commands
      (subst (λ (s : Option (TableView MapAction)). IfSome s (λ t. HasServedOn (commands_in frame) t w.pass u.pass)) is.shared
      (subst (λ (f : FrameMoves). IfSome f.shared (λ t. HasServedOn (commands_in f) t w.pass u.pass)) same worked))))

  has_served : (work new : Option Work) (p q : PassView) → IsSomeAnd work (λ w. (arc_value w.frame ≡ frame) × (w.pass ≡ p))
      → IfSome work (λ w. IsSomeAnd new (HasWorked w)) → IsSomeAnd new (λ w. w.pass ≡ q) → HasServedOn (map command_of moves) table p q
  has_served (Some w) (Some u) p q (same, before) worked after = has_worked w u p q same before after worked
  has_served (Some w) None p q of ran after = absurd ran
  has_served None new p q of ran after = absurd of

  still_has : (work new : Option Work) (p : PassView) → IsSomeAnd work (λ w. (arc_value w.frame ≡ frame) × (w.pass ≡ p))
      → IfSome work (λ w. IsSomeAnd new (HasWorked w)) → IsSome new
  still_has (Some w) (Some u) p of ran = refl
  still_has (Some w) None p of ran = absurd ran
  still_has None new p of ran = absurd of

  -- ---- all turns

  module _ {G : Type 0} (passes : List PassView) (turns : List (Turn G)) (given : AreReversed (IsTurnOf frame) passes turns) where
    pub all_may_run : All (MayServeOn workers (map command_of moves) table) passes → All MayRun turns
    all_may_run may i e within =
        let c = given.count in
        let inside : i < length passes = omega (arith, c, within) in
        let d = an_item passes (omega (arith, inside)) in
        may_run (get_or turns i e).work (get_or passes (length passes - 1 - i) d) (given.each i d e inside)
        (may (length passes - 1 - i) d (omega (arith, inside)))

    module _ (after : List (Turn G)) (ran : ChangesEach HasRun turns after) where
      pub all_have_passes : All HasSomePass after
      all_have_passes i e within =
          let c = given.count in
          let k = ran.count in
          let inside : i < length passes = omega (arith, c, k, within) in
          let d = an_item passes (omega (arith, inside)) in
          still_has (get_or turns i e).work (get_or after i e).work (get_or passes (length passes - 1 - i) d) (given.each i d e inside)
          (ran.each i e (omega (arith, k, within)))

      pub all_served : (new : List PassView) → AreReversed HasPass after new → ChangesEach (HasServedOn (map command_of moves) table) passes new
      all_served new back =
          let c = given.count in
          let k = ran.count in
          let b = back.count in
          record {
            count = omega (arith, c, k, b);
            each = λ i d within.
                let e = an_item turns (omega (arith, c, within)) in
                let place : length passes - 1 - (length passes - 1 - i) ≡ i = omega (arith, within) in
                let from : length after - 1 - i ≡ length passes - 1 - i = omega (arith, c, k) in
                let was : IsTurnOf frame (get_or passes i d) (get_or turns (length passes - 1 - i) e) =
                subst (λ (n : ℕ). IsTurnOf frame (get_or passes n d) (get_or turns (length passes - 1 - i) e)) place
                (given.each (length passes - 1 - i) d e (omega (arith, within))) in
                let now : HasPass (get_or after (length passes - 1 - i) e) (get_or new i d) =
                subst (λ (n : ℕ). HasPass (get_or after n e) (get_or new i d)) from (back.each i e d (omega (arith, c, k, within))) in
                has_served (get_or turns (length passes - 1 - i) e).work (get_or after (length passes - 1 - i) e).work (get_or passes i d)
                (get_or new i d) was (ran.each (length passes - 1 - i) e (omega (arith, c, within))) now;
          }
