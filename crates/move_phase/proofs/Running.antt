-- A pass that runs its moves, one after another.
use Rattle.std.proofs.Common.{◌≡◌, ℕ, suc, ◌+◌, ◌<◌, ◌≤◌, ◌%◌, ◌==◌, List, [], ◌∷◌, ◌++◌, length, map, take, drop, get_or, sym, ap, ◌∙◌, subst, length-append, take-append-drop, take-suc, arith}
use Rattle.std.specs.Prelude.{All}
use Rattle.std.proofs.lemmas.List.{length-map, map-append, get_or-map}
use Rattle.std.proofs.lemmas.List.Elements.{filter-append}
use Rattle.atomic_table.specs.Seated.{TableId}
use Rattle.entity_recs.specs.declared.cmd.Cmd.{Cmd}
use Rattle.entity_recs.specs.Commands.{Command, command_of}
use Rattle.entity_recs.specs.Histories.{Item, commands_of}
use Rattle.core_steps.specs.Nodes.{Fixed}
use Rattle.ruled_words.specs.Passes.{PassView}
use Rattle.move_phase.specs.Serving.{served_by}
use Rattle.move_phase.specs.Running.{MayServe, HasServed}

-- the first moves, with one more
commands_next : (moves : List Cmd) (i : ℕ) (m : Cmd) → i < length moves → m ≡ get_or moves i m
    → map command_of (take (i + 1) moves) ≡ map command_of (take i moves) ++ command_of m ∷ []
commands_next moves i m inside is =
    let next : i + 1 ≡ suc i = omega arith in
    ap (λ (k : ℕ). map command_of (take k moves)) next
    ∙ ap (map command_of) (take-suc moves i m inside)
    ∙ map-append command_of (take i moves) (get_or moves i m ∷ [])
    ∙ ap (λ (x : Cmd). map command_of (take i moves) ++ command_of x ∷ []) (sym is)

-- what holds of all commands holds of the one at a place
pub command_at : (P : Command → Type 0) (moves : List Cmd) (i : ℕ) (m : Cmd) → i < length moves → m ≡ get_or moves i m
    → All P (map command_of moves) → P (command_of m)
command_at P moves i m inside is all =
    let long : i < length (map command_of moves) = omega (arith, inside, length-map moves command_of) in
    subst (λ (x : Cmd). P (command_of x)) (sym is)
    (subst P (get_or-map command_of moves i m (command_of m) inside) (all i (command_of m) long))

module _ (passes number : ℕ) where
  served_append : (xs ys : List Command) → served_by passes number (xs ++ ys) ≡ served_by passes number xs ++ served_by passes number ys
  served_append xs ys = filter-append (λ (c : Command). c.slot % passes == number) xs ys

  -- of the first moves and one more
  pub served_next : (moves : List Cmd) (i : ℕ) (m : Cmd) → i < length moves → m ≡ get_or moves i m
      → served_by passes number (map command_of (take (i + 1) moves))
      ≡ served_by passes number (map command_of (take i moves)) ++ served_by passes number (command_of m ∷ [])
  served_next moves i m inside is =
      ap (served_by passes number) (commands_next moves i m inside is) ∙ served_append (map command_of (take i moves)) (command_of m ∷ [])

  -- of the first moves a pass serves no more than of all
  served_few : (moves : List Cmd) (i : ℕ)
      → length (served_by passes number (map command_of (take i moves))) ≤ length (served_by passes number (map command_of moves))
  served_few moves i =
      let parts : map command_of moves ≡ map command_of (take i moves) ++ map command_of (drop i moves) =
      ap (map command_of) (sym (take-append-drop i moves)) ∙ map-append command_of (take i moves) (drop i moves) in
      let served = ap (λ (cs : List Command). length (served_by passes number cs)) parts in
      let split = ap length (served_append (map command_of (take i moves)) (map command_of (drop i moves))) in
      let count = length-append (served_by passes number (map command_of (take i moves))) (served_by passes number (map command_of (drop i moves))) in
      omega (arith, served, split, count)

module _ (F : Fixed) (passes : ℕ) (table : TableId) where
  module _ (moves : List Cmd) (i : ℕ) (m : Cmd) (inside : i < length moves) (is : m ≡ get_or moves i m) (old p : PassView)
      (so_far : HasServed F passes table old p (served_by passes old.number (map command_of (take i moves)))) where
    -- there is room for the next move
    pub room_for_next : MayServe F passes table (map command_of moves) old
        → length p.view.log + length (served_by passes p.number (command_of m ∷ [])) ≤ p.view.room
    room_for_next may =
        let done = served_by passes old.number (map command_of (take i moves)) in
        let one = served_by passes old.number (command_of m ∷ []) in
        let items : length p.view.log ≡ length (commands_of p.view.log) = sym (length-map p.view.log (λ (item : Item). item.command)) in
        let log : length (commands_of p.view.log) ≡ length done = ap length (so_far.log ∙ ap (λ (items : List Item). commands_of items ++ done) may.empty) in
        let next : length (served_by passes old.number (map command_of (take (i + 1) moves))) ≡ length done + length one =
        ap length (served_next passes old.number moves i m inside is) ∙ length-append done one in
        let few = served_few passes old.number moves (i + 1) in
        let number : length (served_by passes p.number (command_of m ∷ [])) ≡ length one = ap (λ (k : ℕ). length (served_by passes k (command_of m ∷ []))) so_far.number in
        let room = so_far.room in
        let enough = may.room in
        omega (arith, items, log, next, few, number, room, enough)
