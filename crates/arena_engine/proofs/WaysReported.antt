-- What a report says of ways that were planned, by how that ended.
use Rattle.std.proofs.Common.{◌≡◌, ◌≢◌, ℕ, ◌≤◌, length, Result, Err, inl, inr, true, false, List, [], ◌∷◌, ◌==◌, Option, Some, None, IfSome, IsSome, IsSomeAnd, refl, ap, subst, arith}
use Rattle.std.proofs.lemmas.Bool.Decides.{nat_tests}
use Rattle.edge_io.specs.declared.source.Source as sources
use Rattle.edge_io.specs.declared.sink.Sink as sinks
use Rattle.edge_io.specs.Counts.{HasRisen}
use Rattle.edge_io.specs.Writes.{AppendsPart}
use Rattle.arena_map.specs.Maps.{MapView, IsMap}
use Rattle.bot_ways.specs.declared.plan.Plan.{Plan}
use Rattle.bot_ways.specs.declared.plan_stop.PlanStop.{PlanStop}
use Rattle.bot_ways.specs.declared.plan_stop.PlanStop.TheVariants as plan_stop
use Rattle.bot_ways.specs.declared.writing.TheConstants.{MOST_PLAN_BYTES}
use Rattle.bot_ways.specs.Walks.{IsWalk, IsUnreached, IsLeast, HasLeast, length_to}
use Rattle.bot_ways.specs.Ways.{IsWay, IsCertificate}
use Rattle.bot_ways.specs.PlanTexts.{IsPlan, plan_text}
use Rattle.bot_ways.proofs.PlanBounds.{plan_texts_are_bounded}
use Rattle.demo_lines.specs.Bytes.{fault, map_of}
use Rattle.arena_engine.specs.declared.report.Report.{Report}
use Rattle.arena_engine.specs.Planned.{IsPlanned, HasMap, ShowsWay, ShowsWays, HasRoomForWays}
use Rattle.arena_engine.specs.MapReads.{GivesMap, WritesWay, WritesNothing, WritesLeast, WritesCut, WritesStop}

-- ---- what was planned

-- a plan with a way is that of the way to its target
pub shows-way : (m : MapView) (plan : Plan) (target : ℕ) → IsMap m → HasLeast m plan.least → IsCertificate m plan.least → (IsUnreached m target → plan.way ≡ [])
    → IfSome (length_to plan.least target) (λ n. IsWay m plan.least target plan.way) → IfSome (length_to plan.least target) (IsWalk m 0 target plan.way)
    → length plan.way ≤ 64 → (plan.way ≡ [] → ⊥) → ShowsWay m target (plan_text m plan)
shows-way m plan target is least certificate no_way way walk few some = by (length_to plan.least target) refl
  where
    by : (o : Option ℕ) → length_to plan.least target ≡ o → ShowsWay m target (plan_text m plan)
    by None e = absurd (some (no_way (subst (IsLeast m target) e (least.each target))))
    by (Some far) e = record {
      plan = plan;
      far = far;
      is_map = is;
      is = record {
        certificate = certificate;
        reached = e;
        way = subst (λ o. IfSome o (λ n. IsWay m plan.least target plan.way)) e way;
        walk = subst (λ o. IfSome o (IsWalk m 0 target plan.way)) e walk;
        few = few;
      };
      text_is = refl;
    }

-- a way is empty where its length is 0, and only there
pub empty-way : (way : List ℕ) → true ≡ (length way == 0) → way ≡ []
empty-way way e = let none : length way ≡ 0 = grind (arith, nat_tests) in by way none
  where
    by : (way : List ℕ) → length way ≡ 0 → way ≡ []
    by [] none = refl
    by (u ∷ way) none = absurd (omega (arith, none))

pub some-way : (way : List ℕ) → false ≡ (length way == 0) → way ≡ [] → ⊥
some-way [] e is = let never : false ≡ true = e in cc
some-way (u ∷ way) e is = cc

-- the writing of this text stopped
pub ways-cut : {K : Type 0} (k : sinks.Ghosts K) (m : MapView) (target : ℕ) (sink sink' : K) (text : List ℕ) (r : Result (Unit {0}) PlanStop) (stop : PlanStop) → r ≡ Err stop
    → (r ≡ Err plan_stop.WriteFault → AppendsPart (k.taken sink) (k.taken sink') text) → (r ≡ Err plan_stop.NoMemory → sink' ≡ sink) → k.faults sink ≤ k.faults sink'
    → (r ≡ Err plan_stop.WriteFault → HasRisen (k.faults sink) (k.faults sink')) → (length text ≤ k.room sink → r ≢ Err plan_stop.WriteFault) → ShowsWays m target text
    → WritesStop k m target sink sink' stop
ways-cut k m target sink sink' text r plan_stop.WriteFault is part nothing later risen sure shows = record {
  written = record { text = text; written = part is; holds = shows };
  fault = risen is;
  later = later;
  no_room = λ room. sure (room text shows) is;
}
ways-cut k m target sink sink' text r plan_stop.NoMemory is part nothing later risen sure shows = nothing is

-- so much room is enough, whatever the map and the target
ways-fit : (m : MapView) (target room : ℕ) → MOST_PLAN_BYTES ≤ room → HasRoomForWays room target m
ways-fit m target room enough text (inl shows) =
    let plan : IsPlan m shows.plan = record { target = target; far = shows.far; is = shows.is } in
    omega (arith, ap (λ (t : List ℕ). length t) shows.text_is, plan_texts_are_bounded.longest m shows.plan shows.is_map plan, enough)
ways-fit m target room enough text (inr shows) =
    omega (
      arith,
      ap (λ (t : List ℕ). length t) shows.text_is,
      plan_texts_are_bounded.least m shows.least shows.is_map shows.certificate,
      shows.is_map.few_spawns,
      enough,
    )

-- ---- recordings that were read

-- a recording without a fault, of this map
of-map : (a : Option (List ℕ)) (m : MapView) (P : MapView → Type 0) → IfSome a (λ bytes. fault bytes ≡ None) → IfSome a (λ bytes. map_of bytes ≡ Some m) → P m
    → IfSome a (λ bytes. HasMap bytes P)
of-map None m P faultless is holds = tt
of-map (Some bytes) m P faultless is holds = record { map = m; map_is = is; faultless = faultless; holds = holds }

not-faulty : (a : Option (List ℕ)) → IfSome a (λ bytes. fault bytes ≡ None) → IsSomeAnd a (λ bytes. IsSome (fault bytes)) → ⊥
not-faulty None faultless some = absurd some
not-faulty (Some bytes) faultless some = let never : false ≡ true = subst IsSome faultless some in cc

-- there is room for what is to be written of this map
room-of : (a : Option (List ℕ)) (m : MapView) (P : MapView → Type 0) → IfSome a (λ bytes. map_of bytes ≡ Some m) → IsSomeAnd a (λ bytes. IsSomeAnd (map_of bytes) P) → P m
room-of None m P is room = absurd room
room-of (Some bytes) m P is room = subst (λ o. IsSomeAnd o P) is room

module _ {S K : Type 0} (s : sources.Ghosts S) (k : sinks.Ghosts K) (target : ℕ) (source source' : S) (sink sink' : K) (r : Report) (last : r.last ≡ None) (all : r.all ≡ []) where
  -- ---- the map was read

  module _ (m : MapView) (given : GivesMap s source source' m) where
    pub way_planned : r.status ≡ 0 → WritesWay k m target sink sink' → IsPlanned s k target source source' sink sink' r
    way_planned status writes = record {
      known = λ is. omega (arith, is, status);
      done = λ is. of-map (s.left source) m _ given.faultless given.map_is writes.written;
      no_spawn = λ is fault_is. absurd (omega (arith, is, status));
      no_walk = λ is fault_is. absurd (omega (arith, is, status));
      read = λ is. given.read;
      refused = λ is. absurd (omega (arith, is, status));
      refused_read = λ is. absurd (omega (arith, is, status));
      cut = λ is. absurd (omega (arith, is, status));
      nothing = λ is. absurd (omega (arith, is, status));
      no_frame = last;
      no_journals = all;
      sure_writes = λ room is. absurd (omega (arith, is, status));
      sure_longest = λ room is. absurd (omega (arith, is, status));
      complete = λ none nothing. inl (inr status);
      complete_refusal = λ some nothing. absurd (not-faulty (s.left source) given.faultless some);
    }

    pub no_spawn_planned : r.status ≡ 7 → r.fault ≡ 1 → WritesNothing k m target sink sink' → IsPlanned s k target source source' sink sink' r
    no_spawn_planned status one writes = record {
      known = λ is. omega (arith, is, status);
      done = λ is. absurd (omega (arith, is, status));
      no_spawn = λ is fault_is. (of-map (s.left source) m _ given.faultless given.map_is writes.past, writes.same);
      no_walk = λ is fault_is. absurd (omega (arith, fault_is, one));
      read = λ is. given.read;
      refused = λ is. absurd (omega (arith, is, status));
      refused_read = λ is. absurd (omega (arith, is, status));
      cut = λ is. absurd (omega (arith, is, status));
      nothing = λ is. absurd (omega (arith, is, status));
      no_frame = last;
      no_journals = all;
      sure_writes = λ room is. absurd (omega (arith, is, status));
      sure_longest = λ room is. absurd (omega (arith, is, status));
      complete = λ none nothing. inr status;
      complete_refusal = λ some nothing. absurd (not-faulty (s.left source) given.faultless some);
    }

    pub no_walk_planned : r.status ≡ 7 → r.fault ≡ 2 → WritesLeast k m target sink sink' → IsPlanned s k target source source' sink sink' r
    no_walk_planned status two writes = record {
      known = λ is. omega (arith, is, status);
      done = λ is. absurd (omega (arith, is, status));
      no_spawn = λ is fault_is. absurd (omega (arith, fault_is, two));
      no_walk = λ is fault_is. of-map (s.left source) m _ given.faultless given.map_is writes.written;
      read = λ is. given.read;
      refused = λ is. absurd (omega (arith, is, status));
      refused_read = λ is. absurd (omega (arith, is, status));
      cut = λ is. absurd (omega (arith, is, status));
      nothing = λ is. absurd (omega (arith, is, status));
      no_frame = last;
      no_journals = all;
      sure_writes = λ room is. absurd (omega (arith, is, status));
      sure_longest = λ room is. absurd (omega (arith, is, status));
      complete = λ none nothing. inr status;
      complete_refusal = λ some nothing. absurd (not-faulty (s.left source) given.faultless some);
    }

    pub cut_planned : r.status ≡ 4 → WritesCut k m target sink sink' → IsPlanned s k target source source' sink sink' r
    cut_planned status cuts = record {
      known = λ is. omega (arith, is, status);
      done = λ is. absurd (omega (arith, is, status));
      no_spawn = λ is fault_is. absurd (omega (arith, is, status));
      no_walk = λ is fault_is. absurd (omega (arith, is, status));
      read = λ is. given.read;
      refused = λ is. absurd (omega (arith, is, status));
      refused_read = λ is. absurd (omega (arith, is, status));
      cut = λ is. of-map (s.left source) m _ given.faultless given.map_is cuts.written;
      nothing = λ is. absurd (omega (arith, is, status));
      no_frame = last;
      no_journals = all;
      sure_writes = λ room is. cuts.no_room (room-of (s.left source) m (HasRoomForWays (k.room sink) target) given.map_is room);
      sure_longest = λ room is. cuts.no_room (ways-fit m target (k.room sink) room);
      complete = λ none nothing. absurd (nothing.writing cuts.fault);
      complete_refusal = λ some nothing. absurd (nothing.writing cuts.fault);
    }
