-- What a body meets first on its way.
use Rattle.std.specs.Prelude.{◌≡◌, ℕ, ◌+◌, ◌-◌, ◌<◌, ◌≤◌, nat_lt, true, false, if◌then◌else◌}
use Rattle.std.specs.Prelude.{List, Option, Some, None, position, find}
use Rattle.arena_geo.specs.declared.vec3.Vec3.{Vec3}
use Rattle.arena_geo.specs.Bounds.{Bounds}
use Rattle.arena_geo.specs.Boxes.{overlaps, is_blocked}
use Rattle.box_trace.specs.declared.hit.Hit.{Hit}
use Rattle.box_trace.specs.declared.meeting.Meeting.{Meeting}
use Rattle.box_trace.specs.Steps.{step_count, body_at}
use Rattle.box_trace.specs.Traces.{IsFree, apart_axis}

-- k is the first step, from 1 on, at which the body overlaps the solid
pub record OverlapsFirst (body : Bounds) (d : Vec3) (solid : Bounds) (k : ℕ) : Type 0 where
  pub from : 1 ≤ k
  pub within : k ≤ step_count d
  pub overlap : overlaps (body_at body d k) solid ≡ true
  pub before : (i : ℕ) → 1 ≤ i → i < k → overlaps (body_at body d i) solid ≡ false

-- the body overlaps the solid at no step from 1 on
pub record IsApart (body : Bounds) (d : Vec3) (solid : Bounds) : Type 0 where
  pub apart : (i : ℕ) → 1 ≤ i → i ≤ step_count d → overlaps (body_at body d i) solid ≡ false

-- the first step from 1 on at which the body overlaps the solid, none where there is none
abbrev pub IsFirstOverlap : Bounds → Vec3 → Bounds → Option ℕ → Type 0
IsFirstOverlap body d solid None = IsApart body d solid
IsFirstOverlap body d solid (Some k) = OverlapsFirst body d solid k

-- the meeting is the first overlap with this solid, which has this place in its list
pub record MeetsAlone (body : Bounds) (d : Vec3) (one : Bounds) (place : ℕ) (meeting : Meeting) : Type 0 where
  pub overlap : OverlapsFirst body d one meeting.step
  pub block : meeting.block ≡ place
  pub solid : meeting.solid ≡ one

-- the first overlap with this solid, which has this place in its list, none where there is none
abbrev pub IsMeetingWith : Bounds → Vec3 → Bounds → ℕ → Option Meeting → Type 0
IsMeetingWith body d one place None = IsApart body d one
IsMeetingWith body d one place (Some meeting) = MeetsAlone body d one place meeting

-- the step of the meeting is one of the way
pub record IsOnWay (d : Vec3) (meeting : Meeting) : Type 0 where
  pub from : 1 ≤ meeting.step
  pub within : meeting.step ≤ step_count d

-- of these solids the first that overlaps the body is that of the meeting
pub record MeetsAt (k : ℕ) (body : Bounds) (solids : List Bounds) (meeting : Meeting) : Type 0 where
  pub step : meeting.step ≡ k
  pub block : position (overlaps body) solids ≡ Some meeting.block
  pub solid : find (overlaps body) solids ≡ Some meeting.solid

-- the meeting at step k, where the body then is: none where no solid overlaps it
abbrev pub IsMeetingAt : ℕ → Bounds → List Bounds → Option Meeting → Type 0
IsMeetingAt k body solids None = is_blocked body solids ≡ false
IsMeetingAt k body solids (Some meeting) = MeetsAt k body solids meeting

-- no step before the meeting is blocked, and its solid is the first that blocks that step
pub record MeetsFirst (body : Bounds) (d : Vec3) (solids : List Bounds) (meeting : Meeting) : Type 0 where
  pub on_way : IsOnWay d meeting
  pub free : IsFree body d solids (meeting.step - 1)
  pub meets : MeetsAt meeting.step (body_at body d meeting.step) solids meeting

-- the first meeting on the way, none where the whole way is free
abbrev pub IsFirstMeeting : Bounds → Vec3 → List Bounds → Option Meeting → Type 0
IsFirstMeeting body d solids None = IsFree body d solids (step_count d)
IsFirstMeeting body d solids (Some meeting) = MeetsFirst body d solids meeting

-- the same meeting in a longer list, which has so many other solids first
abbrev pub after : ℕ → Meeting → Meeting
after solids meeting = record meeting { block = solids + meeting.block }

-- the meeting at the lower step, the former where both are at one step
abbrev pub earlier : Option Meeting → Option Meeting → Option Meeting
earlier None second = second
earlier (Some a) None = Some a
earlier (Some a) (Some b) = if nat_lt b.step a.step then Some b else Some a

-- the answer for a body that meets this first
abbrev pub hit_of : Bounds → Vec3 → Option Meeting → Hit
hit_of body d None = record { steps = step_count d; whole = true; axis = None; block = None }
hit_of body d (Some meeting) =
    let steps = meeting.step - 1 in
    record {
      steps = steps;
      whole = false;
      axis = apart_axis (body_at body d steps) meeting.solid;
      block = Some meeting.block;
    }
