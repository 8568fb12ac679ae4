-- What a seat has left to do: its point, and the stores that are owed.
use Rattle.std.specs.Prelude.{ℕ, suc, ◌+◌, ◌-◌, Bool, true, false, not}
use Rattle.std.specs.Prelude.{if◌then◌else◌, List, [], ◌∷◌, ◌++◌, map}
use Rattle.entity_recs.specs.declared.effect.NewState.{NewState}
use Rattle.entity_recs.specs.declared.effect.Effect.{Effect}
use Rattle.core_steps.specs.Cells.{Cell, Body, State}
use Rattle.core_steps.specs.Encoding.{words_of}
use Rattle.core_steps.specs.Nodes.{Fixed, home}

-- a store that is owed: the own bit is cleared at the old node or set at the new one, or a word is stored
pub data Store : Type 0 where
  Clear : ℕ → Store
  Put : Cell → ℕ → Store
  Link : ℕ → Store

-- what a seat has left to do
pub data Point : Type 0 where
  -- no command is in hand
  Idle : Point
  -- the rest of the own record is to be loaded
  Owning : Point
  -- some leaves are taken, the others are to be taken
  Taking : List ℕ → List ℕ → Point
  -- the rest of the own record is to be loaded again
  Checking : Point
  -- an inner node is to be taken and visited, then the other nodes
  Entering : ℕ → List ℕ → Point
  -- the list word of the node is to be loaded
  Entered : ℕ → List ℕ → Point
  -- under the node the first of these players is loaded, of which some words are loaded
  Loading : ℕ → List ℕ → List ℕ → List ℕ → Point
  -- the inner node is to be given back
  Leaving : ℕ → List ℕ → Point
  -- the states of these things of the map are to be loaded
  Sensing : List ℕ → Point
  -- all is read: the effect enters the view with the next step
  Resolving : Point
  -- some write nodes are taken, the others are to be taken; then comes the commit
  Claiming : List ℕ → List ℕ → Point
  -- the write nodes are held, and these stores are owed
  Storing : List ℕ → List Store → Point
  -- these write nodes are to be given back, then the leaves
  Releasing : List ℕ → Point
  -- these leaves are to be given back
  Returning : List ℕ → Point
  -- the command is given up: these inner nodes and these leaves are to be given back
  Yielding : List ℕ → List ℕ → Point

-- how far a command is, without what is left to do
pub data Stage : Type 0 where
  AtRest AtOwning AtTaking AtChecking AtReading AtClaiming AtStoring AtReleasing AtReturning AtYielding : Stage

-- the stage of a point
abbrev pub stage_of : Point → Stage
stage_of Idle = AtRest
stage_of Owning = AtOwning
stage_of (Taking got rest) = AtTaking
stage_of Checking = AtChecking
stage_of (Entering node plan) = AtReading
stage_of (Entered node plan) = AtReading
stage_of (Loading node part players plan) = AtReading
stage_of (Leaving node plan) = AtReading
stage_of (Sensing ids) = AtReading
stage_of Resolving = AtReading
stage_of (Claiming got rest) = AtClaiming
stage_of (Storing nodes stores) = AtStoring
stage_of (Releasing nodes) = AtReleasing
stage_of (Returning leaves) = AtReturning
stage_of (Yielding nodes leaves) = AtYielding

-- a command is in hand
abbrev pub is_busy : Stage → Bool
is_busy AtRest = false
is_busy _ = true

-- a command is in hand that isn't committed
abbrev pub is_open : Stage → Bool
is_open AtRest = false
is_open AtStoring = false
is_open AtReleasing = false
is_open AtReturning = false
is_open _ = true

-- all own leaves are held, and the command is neither committed nor given up
abbrev pub is_settled : Stage → Bool
is_settled AtChecking = true
is_settled AtReading = true
is_settled AtClaiming = true
is_settled _ = false

-- the command is committed, and no leaf is given back yet
abbrev pub is_committed : Stage → Bool
is_committed AtStoring = true
is_committed AtReleasing = true
is_committed _ = false

-- the leaves are not all held yet, or no command is in hand
abbrev pub is_before_leaves : Stage → Bool
is_before_leaves AtRest = true
is_before_leaves AtOwning = true
is_before_leaves AtTaking = true
is_before_leaves _ = false

-- a command is in hand whose own record is loaded whole
abbrev pub is_whole : Stage → Bool
is_whole AtRest = false
is_whole AtOwning = false
is_whole _ = true

-- the own record is loaded again whole, and no leaf is given back yet
abbrev pub is_read_again : Stage → Bool
is_read_again AtReading = true
is_read_again AtClaiming = true
is_read_again AtStoring = true
is_read_again AtReleasing = true
is_read_again _ = false

-- the inner nodes that are held, if any, are held to write
abbrev pub is_writing : Stage → Bool
is_writing AtClaiming = true
is_writing AtStoring = true
is_writing AtReleasing = true
is_writing AtYielding = true
is_writing _ = false

-- the own record is loaded in part
abbrev pub is_owning : Stage → Bool
is_owning AtOwning = true
is_owning _ = false

-- a command is in hand whose effect isn't in view yet, or none is in hand
abbrev pub is_without_effect : Stage → Bool
is_without_effect AtRest = true
is_without_effect AtOwning = true
is_without_effect AtTaking = true
is_without_effect AtChecking = true
is_without_effect AtReading = true
is_without_effect AtClaiming = false
is_without_effect AtStoring = false
is_without_effect AtReleasing = false
is_without_effect AtReturning = false
is_without_effect AtYielding = false

-- the stores that are owed
abbrev pub stores_owed : Point → List Store
stores_owed (Storing nodes stores) = stores
stores_owed _ = []

-- the stores of the own bit and words are being made
abbrev pub is_storing : Stage → Bool
is_storing AtStoring = true
is_storing _ = false

-- the stores of a player's words from the k-th on
abbrev pub body_stores : ℕ → ℕ → List ℕ → List Store
body_stores slot k [] = []
body_stores slot k (word ∷ words) = Put (Body slot k) word ∷ body_stores slot (suc k) words

-- the stores of an effect of this player, which was linked at this node
abbrev pub stores_of : Fixed → ℕ → ℕ → Effect → List Store
stores_of F slot old e =
    Clear old ∷ (body_stores slot 0 (words_of e.me)
    ++ (Put (State slot) e.me.state
    ∷ (map (λ (s : NewState). Put (State s.id) s.state) e.states ++ (Link (home F e.me) ∷ []))))
