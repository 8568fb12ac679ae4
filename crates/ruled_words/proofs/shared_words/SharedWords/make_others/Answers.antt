use Rattle.std.proofs.Common.{◌≡◌, ℕ, suc, ◌+◌, ◌-◌, List, [], ◌∷◌, ◌++◌, map, refl, sym, ap, ◌∙◌, slice_index, arith}
use Rattle.std.specs.List.{range_with_len}
use Rattle.atomic_table.specs.Seated.{TableId}
use Rattle.ruled_words.specs.Sights.{no_tally, sight_made, with_one_made}
use Rattle.ruled_words.specs.Passes.{PassView, fixed_in, setting_of}
use Rattle.ruled_words.specs.declared.setting.Setting.{Setting}
use Rattle.ruled_words.specs.NewPasses.{other_pass, view_with_made}
use Rattle.ruled_words.proofs.NewPasses.{new_hand, others_more}
use Rattle.ruled_words.proofs.shared_words.SharedWords.make_others.Goals as goal

pub loop-i-preserved : goal.loop-i-preserved
loop-i-preserved g c =
    let inv = c.loop-i.invariant in
    let hand = c.make.ensures in
    let table : TableId = c.args.self.now.table in
    let setting : Setting = setting_of (fixed_in g.A.Action.meaning c.args.self.now) in
    let more : suc c.loop-i.i ≡ c.loop-i.i + 1 = omega arith in
    let made : c.make.result ≡ other_pass table setting c.args.room.now c.loop-i.i =
    new_hand c.make.result table setting _ (hand.table.1 ∙ inv.2) (hand.setting.1 ∙ inv.4) (hand.made ∙ ap (sight_made (slice_index c.args.room.now c.loop-i.i)) inv.1) refl hand.plain.1 in (
      c.in_ok-push.ensures.items
          ∙ ap (λ (xs : List PassView). xs ++ c.make.result ∷ []) inv.0
          ∙ ap (λ (p : PassView). map (other_pass table setting c.args.room.now) (range_with_len 1 (c.loop-i.i - 1)) ++ p ∷ []) made
          ∙ sym (others_more table setting c.args.room.now c.loop-i.i inv.3),
      hand.first
          ∙ ap with_one_made inv.1
          ∙ ap (λ (n : ℕ). record { number = 0; view = view_with_made (slice_index c.args.room.now 0) n; tally = no_tally }) more,
      hand.table.0 ∙ inv.2,
      omega (arith, inv.3),
      hand.setting.0 ∙ inv.4,
      hand.plain.0,
    )
