-- The parts of a move as straight code, one after another.
use Rattle.std.proofs.Common.{◌≡◌, ℕ, suc, ◌≤◌, true, List, [], ◌∷◌, ◌++◌, refl, sym, ap, ◌∙◌, subst, Some}
use Rattle.std.specs.Prelude.{◌&&◌}
use Rattle.entity_recs.specs.declared.effect.Effect.{Effect}
use Rattle.entity_recs.specs.declared.effect.Entry.{Entry}
use Rattle.entity_recs.specs.Commands.{Command}
use Rattle.entity_recs.specs.Histories.{entry_of}
use Rattle.core_steps.specs.Steps.{visiting}
use Rattle.core_steps.specs.Nodes.{Fixed, plan_of}
use Rattle.core_steps.specs.Points.{Point, stage_of, is_committed, Checking, Resolving}
use Rattle.core_steps.specs.Reads.{View, without_command, region_in, effect_loaded}
use Rattle.core_seats.specs.Ready.{is_resolving}
use Rattle.core_seats.specs.declared.refusals.Refusals.{Refusals}
use Rattle.core_seats.specs.Refusals.{AreRefusals}
use Rattle.ruled_words.specs.GivingUp.{NoTakeWasRefused, HasGivenUp, IsRefusedBy, view_after_giving_up}
use Rattle.ruled_words.specs.Sights.{HeldWord, Tally}
use Rattle.ruled_words.specs.Passes.{PassView}
use Rattle.ruled_words.specs.Hands.{pass_keeping}
use Rattle.ruled_words.specs.Straight.{in_view, in_view_with, taking_leaves, at_point, nodes_read, AreHeldFor, HasMoreInFront, IsTriedOn}
use Rattle.ruled_words.specs.declared.held.Held.{Held}
use Rattle.ruled_words.specs.Tries.{tried_until}
use Rattle.ruled_words.specs.Writing.{HasWritten, all_written}
use Rattle.shared_moves.specs.declared.gate_point.GatePoint.TheVariants.{Leaves, Computed, Committed}
use Rattle.shared_moves.specs.InHand.{HoldsLeavesAlone, command_pursued, is_checking, item_of}
use Rattle.shared_moves.specs.Moments.{IsAtPoint}
use Rattle.shared_moves.specs.Runs.{AreHeldBy, HoldsLeavesOf, HasReadAll, HasMoved, HasLeft, HasInHand, all_read}
use Rattle.ruled_words.proofs.GivingUp.{none_refused_yet}
use Rattle.ruled_words.proofs.LoadedWords.{visiting_same}
use Rattle.ruled_words.proofs.TriedTakes.{more_again, more_still, tried_again}

-- ---- an entry that is there

pub some_entry : (a b : Entry) → Some a ≡ Some b → a ≡ b
some_entry a b e = cc

-- ---- refused takes

-- what refusals say of a view, they say of one with the same
pub refusals_kept : (r : Refusals) (v w : View) → v.refusals ≡ w.refusals → v.refused ≡ w.refused → AreRefusals r v → AreRefusals r w
refusals_kept r v w count last are = record { count = are.count ∙ count; last = are.last ∙ last }

pub none_at : (old new : PassView) (v : View) (t : Tally) → new ≡ in_view_with old v t → v.refusals ≡ old.view.refusals → v.refused ≡ old.view.refused → t.refused ≡ old.tally.refused
    → NoTakeWasRefused old new
none_at old new v t is count last listed = record {
  refusals = ap (λ (p : PassView). p.view.refusals) is ∙ count;
  refused = ap (λ (p : PassView). p.view.refused) is ∙ last;
  listed = ap (λ (p : PassView). p.tally.refused) is ∙ listed;
}

-- ---- a command that is given up

in_its_view : (old new : PassView) (v : View) (t : Tally) → new ≡ in_view_with old v t → new ≡ in_view_with old new.view new.tally
in_its_view old new v t is = is ∙ (λ i. in_view_with old (sym (ap (λ (p : PassView). p.view) is) i) (sym (ap (λ (p : PassView). p.tally) is) i))

pub has_left : (F : Fixed) (passes : ℕ) (c : Command) (start now new : PassView) → HasInHand c start now → HasGivenUp F passes now new → HasLeft F passes c start new
has_left F passes c start now new in_hand up = record {
  r = up.r;
  holder = up.holder;
  leaves = up.leaves;
  fault = subst (λ (n : ℕ). IsRefusedBy F passes n c up.r up.holder up.leaves) (ap (λ (p : PassView). p.number) in_hand.hand)
      (subst (λ (d : Command). IsRefusedBy F passes now.number d up.r up.holder up.leaves) in_hand.cmd up.fault);
  seen = subst (λ (n : ℕ). n ≤ new.view.seen) (ap (λ (v : View). v.seen) in_hand.rest) up.seen;
  hand = up.hand
      ∙ ap (λ (p : PassView). in_view_with p (view_after_giving_up up.r new.view.seen now.view) new.tally) in_hand.hand
      ∙ ap (λ (v : View). in_view_with start (view_after_giving_up up.r new.view.seen v) new.tally) in_hand.rest;
  begun = up.begun ∙ in_hand.begun;
  listed = up.listed ∙ ap (λ (hs : List HeldWord). (record { node = up.r.node; word = up.r.word }) ∷ hs) in_hand.listed;
}

-- ---- the leaves are taken

module _ (F : Fixed) (c : Command) (words : List ℕ) (old at new : PassView) (first : at ≡ in_view_with old (taking_leaves F c words old.view) (record old.tally { begun = suc old.tally.begun })) where
  -- the command is in hand, and no take was refused
  pub begun_in_hand : HasInHand c old at
  begun_in_hand = subst (HasInHand c old) (sym first) (record { hand = refl; rest = refl; cmd = refl; begun = refl; listed = refl })

  pub none_begun : NoTakeWasRefused old at
  none_begun = none_at old at _ _ first refl refl refl

  pub refusals_begun : (r : Refusals) → AreRefusals r old.view → AreRefusals r at.view
  refusals_begun r are = refusals_kept r old.view at.view (sym (ap (λ (p : PassView). p.view.refusals) first)) (sym (ap (λ (p : PassView). p.view.refused) first)) are

  module _ (second : new ≡ tried_until at Checking new) where
    pub held_point : IsAtPoint new Leaves
    held_point = record {
      come = ap (λ (p : PassView). is_checking p.view.point) second;
      alone = subst HoldsLeavesAlone (sym second) (record { busy = refl; leaves = refl; inner = λ G. refl; stores = refl });
    }

    pub holds_leaves : IsTriedOn at.tally new.tally → HoldsLeavesOf F c words old new
    holds_leaves tried = record {
      hand = second ∙ ap (λ (p : PassView). tried_until p Checking new) first;
      begun = tried.begun ∙ ap (λ (p : PassView). p.tally.begun) first;
      listed = subst (λ (p : PassView). HasMoreInFront p.tally.refused new.tally.refused) first tried.listed;
    }

-- ---- the region is read

-- once the own record is loaded again, the first node of the plan is visited
pub first_visit : (F : Fixed) (again : List ℕ) (old new : PassView)
    → new ≡ in_view old (record old.view { again = again; point = visiting F old.view (plan_of F (region_in F old.view.cmd old.view.own)) })
    → new.view.point ≡ visiting F new.view (plan_of F (region_in F new.view.cmd new.view.own))
first_visit F again old new is =
    ap (λ (p : PassView). p.view.point) is
    ∙ visiting_same F old.view new.view (plan_of F (region_in F old.view.cmd old.view.own)) (sym (ap (λ (p : PassView). p.view.cmd) is)) (sym (ap (λ (p : PassView). p.view.own) is))
    ∙ ap (λ (p : PassView). visiting F new.view (plan_of F (region_in F p.view.cmd p.view.own))) (sym is)

module _ (F : Fixed) (old at new : PassView) (first : at ≡ in_view_with old (nodes_read F old.view at.view) at.tally)
    (second : new ≡ in_view at (record at.view { states = new.view.states; point = Resolving })) where
  both : new ≡ in_view_with old (record (nodes_read F old.view at.view) { states = new.view.states; point = Resolving }) at.tally
  both = second ∙ ap (λ (p : PassView). in_view p (record p.view { states = new.view.states; point = Resolving })) first

  read_all : new ≡ in_view_with old (all_read old.view new.view) new.tally
  read_all =
      let lists : at.view.lists ≡ new.view.lists = sym (ap (λ (p : PassView). p.view.lists) both) in
      let others : at.view.others ≡ new.view.others = sym (ap (λ (p : PassView). p.view.others) both) in
      let count : at.view.refusals ≡ new.view.refusals = sym (ap (λ (p : PassView). p.view.refusals) both) in
      let last : at.view.refused ≡ new.view.refused = sym (ap (λ (p : PassView). p.view.refused) both) in
      let tally : at.tally ≡ new.tally = sym (ap (λ (p : PassView). p.tally) both) in
      both ∙ (λ i. in_view_with old (record old.view {
        point = Resolving;
        lists = lists i;
        others = others i;
        states = new.view.states;
        refusals = count i;
        refused = last i;
      }) (tally i))

  read_tally : IsTriedOn old.tally at.tally → IsTriedOn old.tally new.tally
  read_tally tried = subst (IsTriedOn old.tally) (sym (ap (λ (p : PassView). p.tally) both)) tried

  -- what is read, with the effect on it
  pub has_read : (e : Effect) → IsTriedOn old.tally at.tally → e ≡ effect_loaded F new.view → HasReadAll F e old new
  has_read e tried effect = record { hand = read_all; tried = read_tally tried; effect = effect }

  pub none_while_read : NoTakeWasRefused old at → NoTakeWasRefused old new
  none_while_read none = none_refused_yet old at new none (none_at at new _ _ second refl refl refl)

  pub read_refusals : (r : Refusals) → AreRefusals r at.view → AreRefusals r new.view
  read_refusals r are = refusals_kept r at.view new.view (sym (ap (λ (p : PassView). p.view.refusals) both)) (sym (ap (λ (p : PassView). p.view.refused) both)) are

  pub known_point : (e : Effect) → IsAtPoint (pass_keeping new e) Computed
  known_point e = record {
    come = ap (λ (p : PassView). is_resolving p.view.point && true) both;
    alone = subst (λ (p : PassView). HoldsLeavesAlone (pass_keeping p e)) (sym both) (record { busy = refl; leaves = refl; inner = λ G. refl; stores = refl });
  }

-- ---- the whole move

module _ (F : Fixed) (c : Command) (own words : List ℕ) (q : Point) (h0 h1 h2 : PassView)
    (holds : HoldsLeavesOf F c own h0 h1) (again : h2 ≡ in_view h1 (record h1.view { again = words; point = q })) where
  -- the view after the own record was loaded again
  abbrev checked_view : View
  checked_view = record (at_point (taking_leaves F c own h0.view) Checking h1.view) { again = words; point = q }

  at_again : h2 ≡ in_view_with h0 checked_view h1.tally
  at_again = again ∙ ap (λ (p : PassView). in_view p (record p.view { again = words; point = q })) holds.hand

  pub held_again : (held : Held) → AreHeldBy F held c own → AreHeldFor F held h2.view
  held_again held are = subst (λ (p : PassView). AreHeldFor F held p.view) (sym at_again) are

  pub cmd_again : h2.view.cmd ≡ c
  cmd_again = ap (λ (p : PassView). p.view.cmd) at_again

  none_again : NoTakeWasRefused h1 h2
  none_again = none_at h1 h2 _ _ again refl refl refl

  pub in_hand_again : NoTakeWasRefused h0 h1 → HasInHand c h0 h2
  in_hand_again none = record {
    hand = in_its_view h0 h2 _ _ at_again;
    rest = ap (λ (p : PassView). without_command p.view) at_again ∙ (λ i. record (without_command h0.view) { refusals = none.refusals i; refused = none.refused i });
    cmd = ap (λ (p : PassView). p.view.cmd) at_again;
    begun = ap (λ (p : PassView). p.tally.begun) at_again ∙ holds.begun;
    listed = ap (λ (p : PassView). p.tally.refused) at_again ∙ none.listed;
  }

  pub refusals_again : (r : Refusals) → AreRefusals r h1.view → AreRefusals r h2.view
  refusals_again r are = refusals_kept r h1.view h2.view (sym (ap (λ (p : PassView). p.view.refusals) again)) (sym (ap (λ (p : PassView). p.view.refused) again)) are

  module _ (e : Effect) (h3 : PassView) (read : HasReadAll F e h2 h3) where
    at_read : h3 ≡ in_view_with h0 (all_read checked_view h3.view) h3.tally
    at_read = read.hand ∙ ap (λ (p : PassView). in_view_with p (all_read p.view h3.view) h3.tally) at_again

    pub held_read : (held : Held) → AreHeldBy F held c own → AreHeldFor F held h3.view
    held_read held are = subst (λ (p : PassView). AreHeldFor F held p.view) (sym at_read) are

    pub none_read : NoTakeWasRefused h0 h1 → NoTakeWasRefused h2 h3 → NoTakeWasRefused h0 h3
    none_read one two = none_refused_yet h0 h2 h3 (none_refused_yet h0 h1 h2 one none_again) two

    pub in_hand_read : NoTakeWasRefused h0 h1 → NoTakeWasRefused h2 h3 → HasInHand c h0 h3
    in_hand_read one two =
        let none = none_read one two in record {
          hand = in_its_view h0 h3 _ _ at_read;
          rest = ap (λ (p : PassView). without_command p.view) at_read ∙ (λ i. record (without_command h0.view) { refusals = none.refusals i; refused = none.refused i });
          cmd = ap (λ (p : PassView). p.view.cmd) at_read;
          begun = read.tried.begun ∙ ap (λ (p : PassView). p.tally.begun) again ∙ holds.begun;
          listed = none.listed;
        }

    pub in_hand_known : command_pursued h3 ≡ c ∷ []
    in_hand_known = ap (λ (p : PassView). command_pursued p) at_read

    pub again_still : words ≡ h3.view.again
    again_still = sym (ap (λ (p : PassView). p.view.again) at_read)

    module _ (place : ℕ) (h4 : PassView) (writes : HasWritten e place h3 h4) where
      -- the view after all is written
      abbrev last_view : View
      last_view = all_written e place (all_read checked_view h3.view) h4.view

      at_written : h4 ≡ in_view_with h0 last_view h4.tally
      at_written = writes.hand ∙ ap (λ (p : PassView). in_view_with p (all_written e place p.view h4.view) h4.tally) at_read

      pub committed_point : IsAtPoint h4 Committed
      committed_point = record {
        come = ap (λ (p : PassView). is_committed (stage_of p.view.point)) at_written;
        alone = subst HoldsLeavesAlone (sym at_written) (record { busy = refl; leaves = refl; inner = λ G. refl; stores = refl });
      }

      module _ (h5 : PassView) (gives : h5 ≡ in_view h4 (without_command h4.view)) where
        at_end : h5 ≡ in_view_with h0 (without_command last_view) h4.tally
        at_end = gives ∙ ap (λ (p : PassView). in_view p (without_command p.view)) at_written

        pub none_end : NoTakeWasRefused h0 h1 → NoTakeWasRefused h2 h3 → NoTakeWasRefused h3 h4 → NoTakeWasRefused h0 h5
        none_end one two three = none_refused_yet h0 h4 h5 (none_refused_yet h0 h3 h4 (none_read one two) three) (none_at h4 h5 _ _ gives refl refl refl)

        pub refusals_end : (r : Refusals) → AreRefusals r h4.view → AreRefusals r h5.view
        refusals_end r are = refusals_kept r h4.view h5.view (sym (ap (λ (p : PassView). p.view.refusals) gives)) (sym (ap (λ (p : PassView). p.view.refused) gives)) are

        pub has_moved : (entry : Entry) → entry ≡ entry_of place c e → HasMoved c entry h0 h5
        has_moved entry is =
            let count : h4.view.refusals ≡ h5.view.refusals = sym (ap (λ (p : PassView). p.view.refusals) at_end) in
            let last : h4.view.refused ≡ h5.view.refused = sym (ap (λ (p : PassView). p.view.refused) at_end) in
            let tally : h4.tally ≡ h5.tally = sym (ap (λ (p : PassView). p.tally) at_end) in
            let same : h2.tally ≡ h1.tally = ap (λ (p : PassView). p.tally) again in
            let later = tried_again h2.tally h3.tally h4.tally read.tried writes.tried in
            subst (λ (x : Entry). HasMoved c x h0 h5) (sym is) (record {
              hand = at_end ∙ (λ i. in_view_with h0 (record (without_command h0.view) {
                seen = suc place;
                log = h0.view.log ++ item_of c (entry_of place c e) ∷ [];
                refusals = count i;
                refused = last i;
              }) (tally i));
              begun = sym (ap (λ (t : Tally). t.begun) tally) ∙ later.begun ∙ ap (λ (t : Tally). t.begun) same ∙ holds.begun;
              listed =
                  more_again h0.tally.refused h1.tally.refused h5.tally.refused holds.listed
                  (more_still h1.tally.refused h4.tally.refused h5.tally.refused (sym (ap (λ (t : Tally). t.refused) tally)) (subst (λ (t : Tally). HasMoreInFront t.refused h4.tally.refused) same later.listed));
              slot = refl;
              seq = refl;
              place = subst (λ (n : ℕ). n ≤ place) (ap (λ (p : PassView). p.view.seen) at_read) writes.place_is;
              small = writes.small;
            })
