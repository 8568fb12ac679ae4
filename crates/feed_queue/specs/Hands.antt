-- What the passes of a queue have done, and how that changes.
use Rattle.std.specs.Prelude.{ℕ, zero, suc, List, [], ◌∷◌, ◌++◌, Option, Some, None, option_map}
use Rattle.feed_queue.specs.declared.hand.Hand.{Hand}

abbrev pub hand : Option (List ℕ) → Option (List ℕ) → Option (List ℕ) → Hand
hand evens odds got = record { evens = evens; odds = odds; got = got }

-- the first pass may do all, and has done nothing
abbrev pub nothing_done : Hand
nothing_done = hand (Some []) (Some []) (Some [])

-- it may do nothing
abbrev pub empty_hand : Hand
empty_hand = hand None None None

-- what it does as feeder 0 is another's, or its own again; and the same as feeder 1
abbrev pub without_evens : Hand → Hand
without_evens v = hand None v.odds v.got

abbrev pub evens_alone : Hand → Hand
evens_alone v = hand v.evens None None

abbrev pub with_evens : Hand → Hand → Hand
with_evens v w = hand w.evens v.odds v.got

abbrev pub without_odds : Hand → Hand
without_odds v = hand v.evens None v.got

abbrev pub odds_alone : Hand → Hand
odds_alone v = hand None v.odds None

abbrev pub with_odds : Hand → Hand → Hand
with_odds v w = hand v.evens w.odds v.got

-- a feeder that has pushed these places, and does nothing else
abbrev pub feeder_hand : ℕ → List ℕ → Hand
feeder_hand zero sent = hand (Some sent) None None
feeder_hand (suc _) sent = hand None (Some sent) None

-- one place more
abbrev pub one_more : ℕ → Option (List ℕ) → Option (List ℕ)
one_more place done = option_map (λ places. places ++ place ∷ []) done

-- a place was pushed, or popped
abbrev pub hand_after_push : Hand → ℕ → Hand
hand_after_push v place = hand (one_more place v.evens) (one_more place v.odds) v.got

abbrev pub hand_after_pop : Hand → ℕ → Hand
hand_after_pop v place = hand v.evens v.odds (one_more place v.got)
