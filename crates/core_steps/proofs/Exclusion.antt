-- Regions that are held: no box that lies inside one touches another one.
use Rattle.std.proofs.Common.{◌≡◌, ℕ, ◌-◌, ◌^◌, ◌<◌, true, false, List, [], ◌∷◌, refl, sym, ap, ◌∙◌, subst, inl, inr, arith}
use Rattle.std.specs.Prelude.{◌==◌, ◌||◌, filter, All, int_le}
use Rattle.std.specs.List.{range_with_len}
use Rattle.std.proofs.lemmas.Bool.{false≢true, true≢false, or_cases, or_left, or_right}
use Rattle.std.proofs.lemmas.List.Elements.{recursion_from_All, All-weaker}
use Rattle.std.proofs.Math.Bool.{and_comm}
use Rattle.arena_geo.specs.Bounds.{Bounds, IsOrdered, IsBox}
use Rattle.arena_geo.specs.Boxes.{touches, contains}
use Rattle.arena_geo.specs.Regions.{touches_region, is_inside}
use Rattle.arena_geo.proofs.Containment.{contained_is_touched}
use Rattle.entity_recs.specs.declared.rec.Rec.{Rec}
use Rattle.entity_recs.specs.Records.{with_state}
use Rattle.entity_recs.specs.Bodies.{abs_of}
use Rattle.entity_recs.specs.Commands.{Command}
use Rattle.entity_recs.specs.Worlds.{World, others_of}
use Rattle.entity_recs.specs.Histories.{Item}
use Rattle.entity_recs.specs.Actions.{HasPlayer}
use Rattle.entity_recs.proofs.Ids.{kind_of_id}
use Rattle.areanode.specs.Words.{has_bit}
use Rattle.areanode.specs.Trees.{leaf_node, region_has_leaf, leaves_of}
use Rattle.areanode.proofs.Words.{word_has_its_bits}
use Rattle.areanode.proofs.Nodes.{inside_and_touched_share_a_leaf}
use Rattle.core_steps.specs.Encoding.{words_of, nth_word, record_from}
use Rattle.core_steps.specs.Nodes.{Fixed, has, leaf_nodes}
use Rattle.core_steps.specs.Points.{Point, Idle, Owning, Taking, Checking, Entering, Entered, Loading, Leaving, Sensing}
use Rattle.core_steps.specs.Points.{Resolving, Claiming, Storing, Releasing, Returning, Yielding, Stage, AtRest}
use Rattle.core_steps.specs.Points.{AtOwning, AtTaking, AtChecking, AtReading, AtClaiming, AtStoring, AtReleasing}
use Rattle.core_steps.specs.Points.{AtReturning, AtYielding, stage_of, is_busy, is_open, is_settled, is_committed}
use Rattle.core_steps.specs.Points.{is_whole, is_storing}
use Rattle.core_steps.specs.Reads.{View, region_in, record_read}
use Rattle.core_steps.specs.Held.{holds, leaves_held}
use Rattle.core_steps.specs.Steps.{Core}
use Rattle.core_steps.specs.Stands.{IsGiven, IsStart, IsLawful, HasOwn, Stands, touches_own}
use Rattle.core_steps.proofs.Lists.{filter_has, range_has, shifted_has}
use Rattle.core_steps.proofs.Encodings.{encoded_is_decoded}
use Rattle.core_steps.proofs.Runs.{IsRunWorld, start_world, world_of_run, is_call, live_ordered}

-- the run of the history
pub now_world : (F : Fixed) (core : Core) (history : List Item) (now : World) → IsLawful F → IsStart F → Stands F core history now → IsRunWorld F now
now_world F core history now lawful start is =
    subst (IsRunWorld F) (sym is.tied) (world_of_run F history F.start lawful start (start_world F start) (recursion_from_All (λ (item : Item). IsGiven F item.command) history is.given))

-- ---- the own record

-- two lists of words with the same first five make the same record
pub record SameFive (words other : List ℕ) : Type 0 where
  pub zeroth : nth_word words 0 ≡ nth_word other 0
  pub first : nth_word words 1 ≡ nth_word other 1
  pub second : nth_word words 2 ≡ nth_word other 2
  pub third : nth_word words 3 ≡ nth_word other 3
  pub fourth : nth_word words 4 ≡ nth_word other 4

same_record : (id : ℕ) (words other : List ℕ) (state : ℕ) → SameFive words other → record_from id words state ≡ record_from id other state
same_record id words other state same = rw (same.zeroth, same.first, same.second, same.third, same.fourth) refl

-- the words of a live player's record make that record
pub player_from_words : (F : Fixed) (w : World) (slot state : ℕ) (words : List ℕ) → IsLawful F → IsRunWorld F w → slot < 64 → has F.start.ids slot ≡ true
    → SameFive words (words_of (w.record_of slot)) → record_from slot words state ≡ with_state (w.record_of slot) state
player_from_words F w slot state words lawful is below live same =
    let r = w.record_of slot in
    let id : r.id ≡ slot = is.own slot live in
    let keep = lawful.validity.keepable r (is.taken slot live) in
    let kind = kind_of_id r.kind r.id keep.bounds.id (omega arith) in
    same_record slot words (words_of r) state same
    ∙ ap (λ (n : ℕ). record_from n (words_of r) state) (sym id)
    ∙ encoded_is_decoded r state keep kind

-- the own record as loaded is, its state aside, as in the run
pub own_record_is : (F : Fixed) (w : World) (cmd : Command) (stage : Stage) (own wanted : List ℕ) → IsLawful F → IsRunWorld F w → IsGiven F cmd → is_open stage ≡ true → is_whole stage ≡ true
    → HasOwn F w cmd stage own wanted → record_read cmd.slot own ≡ with_state (w.record_of cmd.slot) (nth_word own 5)
own_record_is F w cmd stage own wanted lawful is given open' whole has_own =
    let long = has_own.whole whole in
    player_from_words F w cmd.slot (nth_word own 5) own lawful is given.command.slot given.live (record {
      zeroth = has_own.matches open' 0 (omega arith) (omega arith);
      first = has_own.matches open' 1 (omega arith) (omega arith);
      second = has_own.matches open' 2 (omega arith) (omega arith);
      third = has_own.matches open' 3 (omega arith) (omega arith);
      fourth = has_own.matches open' 4 (omega arith) (omega arith);
    })

-- the region of a seat that has loaded its own record is that of the run
pub own_region_is : (F : Fixed) (w : World) (cmd : Command) (stage : Stage) (own wanted : List ℕ) → IsLawful F → IsRunWorld F w → IsGiven F cmd → is_open stage ≡ true → is_whole stage ≡ true
    → HasOwn F w cmd stage own wanted → region_in F cmd own ≡ F.region_of (w.record_of cmd.slot) cmd
own_region_is F w cmd stage own wanted lawful is given open' whole has_own =
    ap (λ (r : Rec). F.region_of r cmd) (own_record_is F w cmd stage own wanted lawful is given open' whole has_own)
    ∙ lawful.footprint.any_state (w.record_of cmd.slot) (nth_word own 5) cmd

-- the boxes of a live player's region are ordered
pub region_ordered : (F : Fixed) (w : World) (cmd : Command) → IsLawful F → IsRunWorld F w → IsGiven F cmd → All IsOrdered (F.region_of (w.record_of cmd.slot) cmd)
region_ordered F w cmd lawful is given =
    let player : HasPlayer F.takes (w.record_of cmd.slot) cmd = record { command = given.command; own = is.own cmd.slot given.live; taken = is.taken cmd.slot given.live } in
    All-weaker IsBox IsOrdered (λ b box. box.ordered) (F.region_of (w.record_of cmd.slot) cmd) (lawful.footprint.boxes (w.record_of cmd.slot) cmd player).boxes

-- ---- all leaves are held

-- where all leaves are held they are those wanted
pub all_leaves : (point : Point) (wanted : List ℕ) → (is_settled (stage_of point) || is_committed (stage_of point)) ≡ true → leaves_held point wanted ≡ wanted
all_leaves Idle wanted held = absurd (false≢true held)
all_leaves Owning wanted held = absurd (false≢true held)
all_leaves (Taking got rest) wanted held = absurd (false≢true held)
all_leaves Checking wanted held = refl
all_leaves (Entering node plan) wanted held = refl
all_leaves (Entered node plan) wanted held = refl
all_leaves (Loading node part players plan) wanted held = refl
all_leaves (Leaving node plan) wanted held = refl
all_leaves (Sensing ids) wanted held = refl
all_leaves Resolving wanted held = refl
all_leaves (Claiming got rest) wanted held = refl
all_leaves (Storing nodes stores) wanted held = refl
all_leaves (Releasing nodes) wanted held = refl
all_leaves (Returning leaves) wanted held = absurd (false≢true held)
all_leaves (Yielding nodes leaves) wanted held = absurd (false≢true held)

-- a region's leaf is among its leaf nodes
pub leaf_listed : (F : Fixed) (region : List Bounds) (leaf : ℕ) → leaf < 2 ^ F.tree.depth → region_has_leaf F.tree region leaf ≡ true → has (leaf_nodes F region) (leaf_node F.tree.depth leaf) ≡ true
leaf_listed F region leaf below there =
    shifted_has (2 ^ F.tree.depth - 1) (filter (has_bit (leaves_of F.tree region)) (range_with_len 0 (2 ^ F.tree.depth))) leaf
    (filter_has (has_bit (leaves_of F.tree region)) (range_with_len 0 (2 ^ F.tree.depth)) leaf (range_has 0 (2 ^ F.tree.depth) leaf (omega arith) (omega arith))
    (word_has_its_bits (2 ^ F.tree.depth) (region_has_leaf F.tree region) leaf below ∙ there))

-- the seat holds all leaves of this region, whose boxes are ordered
pub record HoldsRegion (F : Fixed) (view : View) (region : List Bounds) : Type 0 where
  pub leaves : leaves_held view.point view.wanted ≡ leaf_nodes F region
  pub ordered : All IsOrdered region

-- of two seats that hold their regions no box inside one touches the other
pub regions_apart : (F : Fixed) (core : Core) (history : List Item) (now : World) (i j : ℕ) (mine theirs : List Bounds) (b : Bounds) → Stands F core history now → (i == j) ≡ false
    → HoldsRegion F (core.view i) mine → HoldsRegion F (core.view j) theirs → is_inside b theirs ≡ true → touches_region b mine ≡ true → ⊥
regions_apart F core history now i j mine theirs b is differ here there inside touches =
    let shared = inside_and_touched_share_a_leaf F.tree b theirs mine there.ordered here.ordered inside touches in
    let node = leaf_node F.tree.depth shared.leaf in
    let by_i : holds F (core.view i).point (core.view i).wanted node ≡ true =
    or_right _ _ (subst (λ (leaves : List ℕ). has leaves node ≡ true) (sym here.leaves) (leaf_listed F mine shared.leaf shared.below shared.second)) in
    let by_j : holds F (core.view j).point (core.view j).wanted node ≡ true =
    or_right _ _ (subst (λ (leaves : List ℕ). has leaves node ≡ true) (sym there.leaves) (leaf_listed F theirs shared.leaf shared.below shared.first)) in
    true≢false (sym by_j ∙ (is.apart i j differ).nodes node by_i)

-- what is true of a stage at which all leaves are held and nothing is committed
pub record IsSettledStage (stage : Stage) : Type 0 where
  pub busy : is_busy stage ≡ true
  pub open' : is_open stage ≡ true
  pub whole : is_whole stage ≡ true
  pub not_storing : is_storing stage ≡ false

pub settled_stage : (stage : Stage) → is_settled stage ≡ true → IsSettledStage stage
settled_stage AtRest e = absurd (false≢true e)
settled_stage AtOwning e = absurd (false≢true e)
settled_stage AtTaking e = absurd (false≢true e)
settled_stage AtChecking e = record { busy = refl; open' = refl; whole = refl; not_storing = refl }
settled_stage AtReading e = record { busy = refl; open' = refl; whole = refl; not_storing = refl }
settled_stage AtClaiming e = record { busy = refl; open' = refl; whole = refl; not_storing = refl }
settled_stage AtStoring e = absurd (false≢true e)
settled_stage AtReleasing e = absurd (false≢true e)
settled_stage AtReturning e = absurd (false≢true e)
settled_stage AtYielding e = absurd (false≢true e)

-- what is true of a stage at which a command is in hand whose own record is loaded whole and that isn't committed
record IsOpenStage (stage : Stage) : Type 0 where
  busy : is_busy stage ≡ true
  open' : is_open stage ≡ true
  whole : is_whole stage ≡ true

-- a seat that holds all its leaves, and hasn't committed, holds its region, which is that of the run
pub record IsSettledSeat (F : Fixed) (now : World) (view : View) : Type 0 where
  pub given : IsGiven F view.cmd
  pub region : region_in F view.cmd view.own ≡ F.region_of (now.record_of view.cmd.slot) view.cmd
  pub holds_it : HoldsRegion F view (region_in F view.cmd view.own)

holding_seat : (F : Fixed) (core : Core) (history : List Item) (now : World) (i : ℕ) → IsLawful F → IsStart F → Stands F core history now
    → IsOpenStage (stage_of (core.view i).point) → leaves_held (core.view i).point (core.view i).wanted ≡ (core.view i).wanted → IsSettledSeat F now (core.view i)
holding_seat F core history now i lawful start is stage all =
    let view = core.view i in
    let seat = is.seats i in
    let given = seat.hand stage.busy in
    let world = now_world F core history now lawful start is in
    let region = own_region_is F now view.cmd (stage_of view.point) view.own view.wanted lawful world given stage.open' stage.whole seat.own in
    record {
      given = given;
      region = region;
      holds_it = record {
        leaves = all ∙ seat.own.leaves stage.whole;
        ordered = subst (All IsOrdered) (sym region) (region_ordered F now view.cmd lawful world given);
      };
    }

pub settled_seat : (F : Fixed) (core : Core) (history : List Item) (now : World) (i : ℕ) → IsLawful F → IsStart F → Stands F core history now
    → is_settled (stage_of (core.view i).point) ≡ true → IsSettledSeat F now (core.view i)
settled_seat F core history now i lawful start is settled =
    let view = core.view i in
    let stage = settled_stage (stage_of view.point) settled in
    holding_seat F core history now i lawful start is (record { busy = stage.busy; open' = stage.open'; whole = stage.whole }) (all_leaves view.point view.wanted (or_left _ _ settled))

-- and so is one that gives up and holds all its leaves still
pub giving_up_seat : (F : Fixed) (core : Core) (history : List Item) (now : World) (i : ℕ) (nodes : List ℕ) → IsLawful F → IsStart F → Stands F core history now
    → (core.view i).point ≡ Yielding nodes (core.view i).wanted → IsSettledSeat F now (core.view i)
giving_up_seat F core history now i nodes lawful start is e =
    let wanted = (core.view i).wanted in
    holding_seat F core history now i lawful start is (subst (λ (p : Point). IsOpenStage (stage_of p)) (sym e) (record { busy = refl; open' = refl; whole = refl }))
    (ap (λ (p : Point). leaves_held p wanted) e)

-- ---- what lies inside a region touches it

touches_sym : (a b : Bounds) → touches a b ≡ touches b a
touches_sym a b =
    let x = and_comm (int_le a.lo.x b.hi.x) (int_le b.lo.x a.hi.x) in
    let y = and_comm (int_le a.lo.y b.hi.y) (int_le b.lo.y a.hi.y) in
    let z = and_comm (int_le a.lo.z b.hi.z) (int_le b.lo.z a.hi.z) in
    rw (x, y, z) refl

pub inside_touches : (b : Bounds) (region : List Bounds) → IsOrdered b → is_inside b region ≡ true → touches_region b region ≡ true
inside_touches b [] ordered inside = absurd (false≢true inside)
inside_touches b (one ∷ region) ordered inside =
    elim (or_cases (contains one b) (is_inside b region) inside) [
      | inl here ↦ or_left _ _ (touches_sym b one ∙ contained_is_touched one b ordered here)
      | inr rest ↦ or_right _ _ (inside_touches b region ordered rest)
    ]

-- the own record of such a seat touches its region
pub own_touches_in : (F : Fixed) (core : Core) (history : List Item) (now : World) (i : ℕ) → IsLawful F → IsStart F → Stands F core history now
    → IsSettledSeat F now (core.view i)
    → touches_own (region_in F (core.view i).cmd (core.view i).own) (now.record_of (core.view i).cmd.slot) ≡ true
own_touches_in F core history now i lawful start is mine =
    let view = core.view i in
    let cmd = view.cmd in
    let world = now_world F core history now lawful start is in
    let within = lawful.footprint.within (now.record_of cmd.slot) (others_of now cmd.slot) cmd (is_call F now cmd start world mine.given) in
    subst (λ (region : List Bounds). touches_own region (now.record_of cmd.slot) ≡ true) (sym mine.region)
    (inside_touches (abs_of (now.record_of cmd.slot)) (F.region_of (now.record_of cmd.slot) cmd) (live_ordered F now cmd.slot lawful world mine.given.live) within.before)

pub own_touches : (F : Fixed) (core : Core) (history : List Item) (now : World) (i : ℕ) → IsLawful F → IsStart F → Stands F core history now
    → is_settled (stage_of (core.view i).point) ≡ true
    → touches_own (region_in F (core.view i).cmd (core.view i).own) (now.record_of (core.view i).cmd.slot) ≡ true
own_touches F core history now i lawful start is settled = own_touches_in F core history now i lawful start is (settled_seat F core history now i lawful start is settled)
