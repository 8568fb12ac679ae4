-- The live players are the records of the slots.
use Rattle.std.proofs.Common.{◌≡◌, ℕ, zero, suc, ◌<◌, ◌≤◌, Bool, true, false, cond, List, [], ◌∷◌, length, filter, take, Option, Some, None, refl, ap, arith}
use Rattle.entity_recs.specs.declared.kind.Kind.{Kind}
use Rattle.entity_recs.specs.declared.kind.Kind.TheVariants.{Player, Ammo, Gem, Teleporter, Goal, Lift}
use Rattle.entity_recs.specs.declared.rec.Rec.{Rec}
use Rattle.entity_recs.specs.Records.{IsIdOf}
use Rattle.entity_recs.specs.Kinds.{is_player}
use Rattle.world_tree.specs.Live.{record_at, live_in, AreEntries}
use Rattle.world_physics.proofs.Finding.{kind_past}
use Rattle.plain_server.specs.Replies.{players_in}

-- the test of a player
abbrev is_players : Rec → Bool
is_players r = is_player r.kind

-- exactly the records of the first m places are players'
record AreSplitAt (m : ℕ) (records : List (Option Rec)) : Type 0 where
  before : (id : ℕ) (r : Rec) → record_at records id ≡ Some r → id < m → is_players r ≡ true
  after : (id : ℕ) (r : Rec) → record_at records id ≡ Some r → m ≤ id → is_players r ≡ false

kept : (b : Bool) (r : Rec) (rs ls : List Rec) → b ≡ true → rs ≡ ls → cond b (r ∷ rs) rs ≡ r ∷ ls
kept true r rs ls is same = ap (λ l. r ∷ l) same
kept false r rs ls is same = cc

dropped : (b : Bool) (r : Rec) (rs ls : List Rec) → b ≡ false → rs ≡ ls → cond b (r ∷ rs) rs ≡ ls
dropped true r rs ls is same = cc
dropped false r rs ls is same = same

none_are : (records : List (Option Rec)) → AreSplitAt 0 records → filter is_players (live_in records) ≡ []
none_are [] split = refl
none_are (None ∷ records) split =
    none_are records (record { before = λ id r at below. split.before (suc id) r at (omega arith); after = λ id r at above. split.after (suc id) r at (omega arith) })
none_are (Some r ∷ records) split =
    dropped (is_players r) r (filter is_players (live_in records)) [] (split.after zero r refl (omega arith))
    (none_are records (record { before = λ id q at below. split.before (suc id) q at (omega arith); after = λ id q at above. split.after (suc id) q at (omega arith) }))

first_are : (m : ℕ) (records : List (Option Rec)) → AreSplitAt m records → filter is_players (live_in records) ≡ live_in (take m records)
first_are zero records split = none_are records split
first_are (suc m) [] split = refl
first_are (suc m) (None ∷ records) split =
    first_are m records (record { before = λ id r at below. split.before (suc id) r at (omega arith); after = λ id r at above. split.after (suc id) r at (omega arith) })
first_are (suc m) (Some r ∷ records) split =
    kept (is_players r) r (filter is_players (live_in records)) (live_in (take m records)) (split.before zero r refl (omega arith))
    (first_are m records (record { before = λ id q at below. split.before (suc id) q at (omega arith); after = λ id q at above. split.after (suc id) q at (omega arith) }))

slot_is_player : (kind : Kind) (id : ℕ) → IsIdOf kind id → id < 64 → is_player kind ≡ true
slot_is_player Player id is below = refl
slot_is_player Ammo id is below = absurd (omega arith)
slot_is_player Gem id is below = absurd (omega arith)
slot_is_player Teleporter id is below = absurd (omega arith)
slot_is_player Goal id is below = absurd (omega arith)
slot_is_player Lift id is below = absurd (omega arith)

-- the live players are the live records of the first 64 ids
pub players_are_first : (records : List (Option Rec)) → AreEntries records → players_in records ≡ live_in (take 64 records)
players_are_first records entries =
    first_are 64 records (record {
      before = λ id r at below. slot_is_player r.kind r.id (entries id r at).is_record.id (let own : r.id ≡ id = (entries id r at).own_id in omega arith);
      after = λ id r at above. kind_past r.kind r.id (entries id r at).is_record.id (let own : r.id ≡ id = (entries id r at).own_id in omega arith);
    })

-- they are no more than the places
pub few_first : (records : List (Option Rec)) (k : ℕ) → length (live_in (take k records)) ≤ k
few_first records zero = omega arith
few_first [] (suc k) = omega arith
few_first (None ∷ records) (suc k) = let rest = few_first records k in omega (arith, rest)
few_first (Some r ∷ records) (suc k) = let rest = few_first records k in omega (arith, rest)
