-- What a lawful action keeps: which records it takes, what it reads, and what it writes.
use Rattle.std.specs.Prelude.{◌≡◌, ℕ, ◌^◌, ◌<◌, ◌≤◌, ◌==◌, Bool, ◌&&◌, true, false, List, map, filter, All, ◌≤ℤ◌, pos}
use Rattle.std.specs.Prelude.{neg_ℤ}
use Rattle.std.specs.List.{list_any, IsDistinct}
use Rattle.std.specs.List.Sorted.{IsStrictlyIncreasing}
use Rattle.arena_geo.specs.Bounds.{Bounds}
use Rattle.arena_geo.specs.Regions.{touches_region, is_inside, IsRegion}
use Rattle.entity_recs.specs.declared.rec.Rec.{Rec}
use Rattle.entity_recs.specs.declared.effect.NewState.{NewState}
use Rattle.entity_recs.specs.declared.effect.Effect.{Effect}
use Rattle.entity_recs.specs.Records.{IsRecord, with_state}
use Rattle.entity_recs.specs.Bodies.{abs_of}
use Rattle.entity_recs.specs.Commands.{Command}
use Rattle.entity_recs.specs.Histories.{Action}

-- what an action means: which records it takes, the boxes in which a move may read and write, and what a move does, of
-- the player's record, other live records in rising id, and the command
pub record Meaning : Type 0 where
  pub takes : Rec → Bool
  pub region_of : Rec → Command → List Bounds
  pub effect_of : Action

-- the numbers of a command are those of its type
pub record IsCommand (c : Command) : Type 0 where
  pub slot : c.slot < 64
  pub seq : c.seq < 2 ^ 32
  pub frame : c.frame < 2 ^ 32
  pub least_ms : 1 ≤ c.ms
  pub most_ms : c.ms ≤ 50
  pub low_x : neg_ℤ (pos 32768) ≤ℤ c.wish_x
  pub high_x : c.wish_x ≤ℤ pos 32767
  pub low_y : neg_ℤ (pos 32768) ≤ℤ c.wish_y
  pub high_y : c.wish_y ≤ℤ pos 32767
  pub buttons : c.buttons < 2 ^ 8

-- the command's player has this record, which is one of those that are taken
pub record HasPlayer (takes : Rec → Bool) (me : Rec) (c : Command) : Type 0 where
  pub command : IsCommand c
  pub own : me.id ≡ c.slot
  pub taken : takes me ≡ true

-- the command's player among other records, which are taken and in rising id
pub record IsCall (takes : Rec → Bool) (me : Rec) (near : List Rec) (c : Command) : Type 0 where
  pub player : HasPlayer takes me c
  pub others : All (λ r. takes r ≡ true) near
  pub rising : IsStrictlyIncreasing (map (λ r. r.id) near)
  pub none_is_me : All (λ r. (r.id == me.id) ≡ false) near

-- a record that can be kept in words: it is within its bounds, and its numbers are those of its type
pub record IsKeepable (r : Rec) : Type 0 where
  pub bounds : IsRecord r
  pub score : r.score < 2 ^ 32
  pub seq : r.seq < 2 ^ 32

-- the records that are taken can be kept and are taken in every state, and a move leaves its player such a record
pub record HasValidity (takes : Rec → Bool) (effect : Action) : Type 0 where
  pub keepable : (r : Rec) → takes r ≡ true → IsKeepable r
  pub any_state : (r : Rec) (state : ℕ) → takes r ≡ true → takes (with_state r state) ≡ true
  pub me : (me : Rec) (near : List Rec) (c : Command) → IsCall takes me near c → takes (effect me near c).me ≡ true

-- the records whose absolute box touches the region
abbrev pub records_touching : List Bounds → List Rec → List Rec
records_touching region near = filter (λ r. touches_region (abs_of r) region) near

-- the effect over all records is the effect over those that touch the region
pub record HasLocality (takes : Rec → Bool) (region : Rec → Command → List Bounds) (effect : Action) : Type 0 where
  pub near : (me : Rec) (near : List Rec) (c : Command) → IsCall takes me near c
      → effect me near c ≡ effect me (records_touching (region me c) near) c

-- the new state is that of one of these records, and that record lies inside the region
abbrev pub is_of_one_inside : List Bounds → List Rec → NewState → Bool
is_of_one_inside region near s = list_any (λ r. (r.id == s.id) && is_inside (abs_of r) region) near

-- what an effect may change: its player's record inside the region, which keeps its id, its kind and its shape, and the
-- states of others inside it, each once
pub record StaysWithin (region : List Bounds) (me : Rec) (near : List Rec) (e : Effect) : Type 0 where
  pub before : is_inside (abs_of me) region ≡ true
  pub after : is_inside (abs_of e.me) region ≡ true
  pub id : e.me.id ≡ me.id
  pub kind : e.me.kind ≡ me.kind
  pub mins : e.me.mins ≡ me.mins
  pub maxs : e.me.maxs ≡ me.maxs
  pub listed : All (λ s. is_of_one_inside region near s ≡ true) e.states
  pub apart : IsDistinct (λ (a b : NewState). a.id == b.id) e.states

-- an effect stays within the region, which is a list of boxes and doesn't depend on the state of the player's record
pub record HasFootprint (takes : Rec → Bool) (region : Rec → Command → List Bounds) (effect : Action) : Type 0 where
  pub boxes : (me : Rec) (c : Command) → HasPlayer takes me c → IsRegion (region me c)
  pub any_state : (me : Rec) (state : ℕ) (c : Command) → region (with_state me state) c ≡ region me c
  pub within : (me : Rec) (near : List Rec) (c : Command) → IsCall takes me near c
      → StaysWithin (region me c) me near (effect me near c)
