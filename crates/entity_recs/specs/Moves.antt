-- What a move sees of a world, and what it changes there.
use Rattle.std.specs.Prelude.{◌≡◌, ◌≢◌, ℕ, ◌↔◌, List, ◌∷◌, ◌++◌, map, All, Contains}
use Rattle.std.specs.List.Sorted.{IsStrictlyIncreasing}
use Rattle.entity_recs.specs.declared.effect.NewState.{NewState}
use Rattle.entity_recs.specs.declared.effect.Effect.{Effect}
use Rattle.entity_recs.specs.declared.rec.Rec.{Rec}
use Rattle.entity_recs.specs.Commands.{Command}
use Rattle.entity_recs.specs.Worlds.{World, others_of}
use Rattle.entity_recs.specs.Histories.{Action, outcome, with_effect, apply}

-- ---- what a move sees

-- the record is that of a live id other than this one
pub record IsOfAnother (w : World) (id : ℕ) (r : Rec) : Type 0 where
  pub other : ℕ
  pub live : Contains w.ids other
  pub apart : other ≢ id
  pub its : w.record_of other ≡ r

-- these are the records of all live ids but this one, in rising id
pub record AreOthers (w : World) (id : ℕ) (others : List Rec) : Type 0 where
  pub each : (r : Rec) → Contains others r ↔ IsOfAnother w id r
  pub rising : IsStrictlyIncreasing (map (λ r. r.id) others)

-- the live ids rise, and each live record has its own id
pub record HasOwnIds (w : World) : Type 0 where
  pub rising : IsStrictlyIncreasing w.ids
  pub own : All (λ id. (w.record_of id).id ≡ id) w.ids

-- the others of an id are the records of all other live ids and no others, whatever the world; they are in rising id where
-- the live ids are
pub record OthersAreKnown : Type 0 where
  pub each : (w : World) (id : ℕ) (r : Rec) → Contains (others_of w id) r ↔ IsOfAnother w id r
  pub in_order : (w : World) (id : ℕ) → HasOwnIds w → AreOthers w id (others_of w id)

-- ---- what a move changes

-- the record is the old one, but for this state
pub record DiffersInState (old : Rec) (state : ℕ) (new : Rec) : Type 0 where
  pub id : new.id ≡ old.id
  pub kind : new.kind ≡ old.kind
  pub origin : new.origin ≡ old.origin
  pub mins : new.mins ≡ old.mins
  pub maxs : new.maxs ≡ old.maxs
  pub vel : new.vel ≡ old.vel
  pub flags : new.flags ≡ old.flags
  pub ammo : new.ammo ≡ old.ammo
  pub carry : new.carry ≡ old.carry
  pub score : new.score ≡ old.score
  pub seq : new.seq ≡ old.seq
  pub state_is : new.state ≡ state

-- none of these states is of this id
abbrev pub ListsNoneOf : ℕ → List NewState → Type 0
ListsNoneOf id states = All (λ (s : NewState). s.id ≢ id) states

-- the new world is the old one after an effect: the same ids are live; the player's record is that of the effect; the record of
-- another id that is listed has the state that is listed first, and else is as it was; each other record is as it was
pub record ChangesWhatIsListed (old : World) (slot : ℕ) (e : Effect) (new : World) : Type 0 where
  pub ids : new.ids ≡ old.ids
  pub me : new.record_of slot ≡ e.me
  pub listed : (before : List NewState) (s : NewState) (after : List NewState) → e.states ≡ before ++ s ∷ after
      → ListsNoneOf s.id before → s.id ≢ slot
      → DiffersInState (old.record_of s.id) s.state (new.record_of s.id)
  pub others : (id : ℕ) → id ≢ slot → ListsNoneOf id e.states → new.record_of id ≡ old.record_of id

-- an effect changes in a world the player's record and the states that it lists, and nothing else
abbrev pub EffectsChangeWhatIsListed : Type 0
EffectsChangeWhatIsListed = (w : World) (slot : ℕ) (e : Effect) → ChangesWhatIsListed w slot e (with_effect w slot e)

-- a move is what the action makes of the player's record, of the records of all other live ids in rising id, and of the
-- command; the world after it differs by this effect alone
pub record MovesSeeAllOthers : Type 0 where
  pub seen : (act : Action) (w : World) (c : Command) (others : List Rec) → HasOwnIds w → AreOthers w c.slot others
      → outcome act w c ≡ act (w.record_of c.slot) others c
  pub left : (act : Action) (w : World) (c : Command) → ChangesWhatIsListed w c.slot (outcome act w c) (apply act w c)
