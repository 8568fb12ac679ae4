-- The replies to a list of slots: to each the snapshot of the player in it.
use Rattle.std.specs.Prelude.{◌≡◌, ℕ, List, [], All, map, Option, Some, None, IsSome}
use Rattle.entity_recs.specs.declared.rec.Rec.{Rec}
use Rattle.world_tree.specs.Live.{record_at, live_in}
use Rattle.snapshot_write.specs.Snapshots.{snapshot}

-- each slot is live
abbrev pub AreLive : List (Option Rec) → List ℕ → Type 0
AreLive records slots = All (λ slot. IsSome (record_at records slot)) slots

-- each list of bytes is empty
abbrev pub AreEmpty : List (List ℕ) → Type 0
AreEmpty outs = All (λ bytes. bytes ≡ []) outs

-- the snapshot of the player in a place among all live records, and no bytes where the place is empty
abbrev pub reply_from : ℕ → List (Option Rec) → Option Rec → List ℕ
reply_from frame records None = []
reply_from frame records (Some me) = snapshot frame me (live_in records)

-- the reply to the player in a slot
abbrev pub reply_to : ℕ → List (Option Rec) → ℕ → List ℕ
reply_to frame records slot = reply_from frame records (record_at records slot)

-- the replies to the players in these slots, in this order
abbrev pub replies_to : ℕ → List (Option Rec) → List ℕ → List (List ℕ)
replies_to frame records slots = map (λ slot. reply_to frame records slot) slots
