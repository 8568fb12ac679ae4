-- What no other seat writes: the records that touch the region of a seat that holds all its leaves.
use Rattle.std.proofs.Common.{◌≡◌, ℕ, true, false, not, List, [], ◌∷◌, ◌++◌, map, refl, sym, ap, ◌∙◌, subst, inl, inr, Option, Some, None}
use Rattle.std.specs.Prelude.{◌==◌, ◌||◌, ◌&&◌, filter, All, is_some}
use Rattle.std.specs.List.{AllByRecursion, list_any}
use Rattle.std.proofs.lemmas.Bool.{cases_Bool, false≢true, true≢false, eqb-true, eq-eqb, ne_eqb, and_parts, or_cases, or_left, or_right, false_from_ne_true, not-true}
use Rattle.std.proofs.lemmas.List.Elements.{recursion_from_All}
use Rattle.arena_geo.specs.Bounds.{Bounds, IsOrdered}
use Rattle.arena_geo.specs.Regions.{is_inside}
use Rattle.entity_recs.specs.declared.rec.Rec.{Rec}
use Rattle.entity_recs.specs.declared.effect.NewState.{NewState}
use Rattle.entity_recs.specs.declared.effect.Effect.{Effect}
use Rattle.entity_recs.specs.Bodies.{abs_of}
use Rattle.entity_recs.specs.Commands.{Command}
use Rattle.entity_recs.specs.Worlds.{World, others_of}
use Rattle.entity_recs.specs.Histories.{Item, outcome, apply, run}
use Rattle.entity_recs.specs.Actions.{is_of_one_inside}
use Rattle.areanode.specs.Words.{has_bit}
use Rattle.core_steps.specs.Cells.{Cell, Body, State, word_in}
use Rattle.core_steps.specs.Nodes.{Fixed, has, home}
use Rattle.core_steps.specs.Points.{Stage, AtRest, AtOwning, AtTaking, AtChecking, AtReading, AtClaiming, AtStoring}
use Rattle.core_steps.specs.Points.{AtReleasing, AtReturning, AtYielding, stage_of, is_busy, is_settled, is_storing}
use Rattle.core_steps.specs.Points.{is_committed, is_whole, stores_owed}
use Rattle.core_steps.specs.Reads.{View, region_in, record_read, state_at}
use Rattle.core_steps.specs.Steps.{Core}
use Rattle.core_steps.specs.Stands.{IsGiven, IsStart, IsLawful, LeavesAlone, Stands, value_in, touches_own, is_player, is_live_cell, owed_at}
use Rattle.core_steps.proofs.Puts.{eqb_sym}
use Rattle.core_steps.proofs.Lists.{has_filter, IsKept}
use Rattle.core_steps.proofs.Runs.{IsRunWorld, live_ordered, start_world, world_of_run, is_call, run_append, box_kept, actor_after, other_after}
use Rattle.core_steps.proofs.Exclusion.{HoldsRegion, all_leaves, region_ordered, regions_apart, settled_seat}
use Rattle.core_steps.proofs.Owing.{is_written, owing, settled_owes_nothing}

-- what is true of a seat that stores
record IsStoringStage (stage : Stage) : Type 0 where
  busy : is_busy stage ≡ true
  committed : is_committed stage ≡ true
  whole : is_whole stage ≡ true
  unsettled : is_settled stage ≡ false

storing_stage : (stage : Stage) → is_storing stage ≡ true → IsStoringStage stage
storing_stage AtRest e = absurd (false≢true e)
storing_stage AtOwning e = absurd (false≢true e)
storing_stage AtTaking e = absurd (false≢true e)
storing_stage AtChecking e = absurd (false≢true e)
storing_stage AtReading e = absurd (false≢true e)
storing_stage AtClaiming e = absurd (false≢true e)
storing_stage AtStoring e = record { busy = refl; committed = refl; whole = refl; unsettled = refl }
storing_stage AtReleasing e = absurd (false≢true e)
storing_stage AtReturning e = absurd (false≢true e)
storing_stage AtYielding e = absurd (false≢true e)

-- what is true of a seat that has committed and given back no leaf
record IsCommittedStage (stage : Stage) : Type 0 where
  busy : is_busy stage ≡ true
  whole : is_whole stage ≡ true

committed_stage : (stage : Stage) → is_committed stage ≡ true → IsCommittedStage stage
committed_stage AtRest e = absurd (false≢true e)
committed_stage AtOwning e = absurd (false≢true e)
committed_stage AtTaking e = absurd (false≢true e)
committed_stage AtChecking e = absurd (false≢true e)
committed_stage AtReading e = absurd (false≢true e)
committed_stage AtClaiming e = absurd (false≢true e)
committed_stage AtStoring e = record { busy = refl; whole = refl }
committed_stage AtReleasing e = record { busy = refl; whole = refl }
committed_stage AtReturning e = absurd (false≢true e)
committed_stage AtYielding e = absurd (false≢true e)

-- a seat that has committed holds the region of its last item, and what that item wrote lies inside it in the run
pub record HasWritten (F : Fixed) (now : World) (view : View) : Type 0 where
  pub e : Effect
  pub is : view.effect ≡ Some e
  pub given : IsGiven F view.cmd
  pub holds_it : HoldsRegion F view (region_in F view.cmd view.own)
  pub actor : is_inside (abs_of (now.record_of view.cmd.slot)) (region_in F view.cmd view.own) ≡ true
  pub listed : (id : ℕ) → is_some (state_at e.states id) ≡ true → is_inside (abs_of (now.record_of id)) (region_in F view.cmd view.own) ≡ true
  pub live : (id : ℕ) → is_some (state_at e.states id) ≡ true → has F.start.ids id ≡ true
  pub before : is_inside (abs_of (record_read view.cmd.slot view.again)) (region_in F view.cmd view.own) ≡ true
  pub before_ordered : IsOrdered (abs_of (record_read view.cmd.slot view.again))
  pub me : abs_of (now.record_of view.cmd.slot) ≡ abs_of e.me

-- a listed id is live, isn't the actor's, and its record lies inside the region
pub record IsListedInside (F : Fixed) (w : World) (slot : ℕ) (region : List Bounds) (id : ℕ) : Type 0 where
  pub live : has F.start.ids id ≡ true
  pub other : (id == slot) ≡ false
  pub inside : is_inside (abs_of (w.record_of id)) region ≡ true

pub listed_inside : (F : Fixed) (w : World) (slot : ℕ) (region : List Bounds) (states : List NewState) (id : ℕ) → IsRunWorld F w
    → AllByRecursion (λ (s : NewState). is_of_one_inside region (others_of w slot) s ≡ true) states → is_some (state_at states id) ≡ true
    → IsListedInside F w slot region id
listed_inside F w slot region [] id is all there = absurd (false≢true there)
listed_inside F w slot region (s ∷ states) id is all there =
    elim (cases_Bool (s.id == id)) [
      | inl e ↦ subst (IsListedInside F w slot region) (eqb-true s.id id e) (one_inside (filter (λ other. not (other == slot)) w.ids) (has_filter (λ other. not (other == slot)) w.ids) all.0)
      | inr e ↦ listed_inside F w slot region states id is all.1 (rw e at there)
    ]
  where
    one_inside : (ids : List ℕ) → ((v : ℕ) → has ids v ≡ true → IsKept (λ other. not (other == slot)) w.ids v)
        → list_any (λ (r : Rec). (r.id == s.id) && is_inside (abs_of r) region) (map w.record_of ids) ≡ true → IsListedInside F w slot region s.id
    one_inside [] kept any = absurd (false≢true any)
    one_inside (v ∷ ids) kept any =
        elim (or_cases ((((w.record_of v).id) == s.id) && is_inside (abs_of (w.record_of v)) region) _ any) [
          | inl here ↦
              let parts = and_parts ((w.record_of v).id == s.id) (is_inside (abs_of (w.record_of v)) region) here in
              let k = kept v (or_left _ _ (eq-eqb v v refl)) in
              let live : has F.start.ids v ≡ true = subst (λ (ids : List ℕ). has ids v ≡ true) is.ids k.listed in
              let same : v ≡ s.id = sym (is.own v live) ∙ eqb-true (w.record_of v).id s.id parts.0 in
              subst (IsListedInside F w slot region) same (record { live = live; other = not-true (v == slot) k.passes; inside = parts.1 })
          | inr rest ↦ one_inside ids (λ u h. kept u (or_right _ _ h)) rest
        ]

-- items that leave an effect's records alone are not of a slot that it lists
alone_listed : (slot id : ℕ) (states : List NewState) (after : List Item) → is_some (state_at states id) ≡ true → AllByRecursion (LeavesAlone slot states) after
    → AllByRecursion (λ (item : Item). (item.command.slot == id) ≡ false) after
alone_listed slot id states [] there all = tt
alone_listed slot id states (item ∷ after) there all =
    (ne_eqb item.command.slot id (λ same. true≢false (sym there ∙ subst (λ (n : ℕ). is_some (state_at states n) ≡ false) same all.0.listed)), alone_listed slot id states after there all.1)

alone_own : (slot : ℕ) (states : List NewState) (after : List Item) → AllByRecursion (LeavesAlone slot states) after
    → AllByRecursion (λ (item : Item). (item.command.slot == slot) ≡ false) after
alone_own slot states [] all = tt
alone_own slot states (item ∷ after) all = (all.0.own, alone_own slot states after all.1)

given_front : (F : Fixed) (before after : List Item) → AllByRecursion (λ (item : Item). IsGiven F item.command) (before ++ after) → AllByRecursion (λ (item : Item). IsGiven F item.command) before
given_front F [] after all = tt
given_front F (item ∷ before) after all = (all.0, given_front F before after all.1)

pub has_committed : (F : Fixed) (core : Core) (history : List Item) (now : World) (j : ℕ) → IsLawful F → IsStart F → Stands F core history now
    → is_committed (stage_of (core.view j).point) ≡ true → HasWritten F now (core.view j)
has_committed F core history now j lawful start is committed =
    let view = core.view j in
    let cmd = view.cmd in
    let slot = cmd.slot in
    let seat = is.seats j in
    let stage = committed_stage (stage_of view.point) committed in
    let given = seat.hand stage.busy in
    let item = seat.committed.item committed in
    let all = recursion_from_All (λ (i : Item). IsGiven F i.command) history is.given in
    let w = run F.effect_of F.start item.before in
    let world : IsRunWorld F w = world_of_run F item.before F.start lawful start (start_world F start)
    (given_front F item.before (item.item ∷ item.after) (subst (AllByRecursion (λ (i : Item). IsGiven F i.command)) item.place all)) in
    let e = outcome F.effect_of w cmd in
    let w' = apply F.effect_of w cmd in
    let region = region_in F cmd view.own in
    let there = F.region_of (w.record_of slot) cmd in
    let now_is : now ≡ run F.effect_of w' item.after =
    is.tied ∙ ap (run F.effect_of F.start) item.place ∙ run_append F.effect_of F.start item.before (item.item ∷ item.after)
    ∙ ap (λ (c : Command). run F.effect_of (apply F.effect_of w c) item.after) item.command in
    let within = lawful.footprint.within (w.record_of slot) (others_of w slot) cmd (is_call F w cmd start world given) in
    let alone = recursion_from_All (LeavesAlone slot e.states) item.after item.alone in
    let listed_all = recursion_from_All (λ (s : NewState). is_of_one_inside there (others_of w slot) s ≡ true) e.states within.listed in
    record {
      e = e;
      is = item.is;
      given = given;
      holds_it = record {
        leaves = all_leaves view.point view.wanted (or_right _ _ committed) ∙ seat.own.leaves stage.whole;
        ordered = subst (All IsOrdered) (sym item.region) (region_ordered F w cmd lawful world given);
      };
      actor =
          let box : abs_of (now.record_of slot) ≡ abs_of e.me =
          ap (λ (v : World). abs_of (v.record_of slot)) now_is ∙ box_kept F item.after w' slot (alone_own slot e.states item.after alone) ∙ ap abs_of (actor_after F w cmd) in
          ap (λ b. is_inside b region) box ∙ ap (is_inside (abs_of e.me)) item.region ∙ within.after;
      listed = λ id listed.
          let thing = listed_inside F w slot there e.states id world listed_all listed in
          let box : abs_of (now.record_of id) ≡ abs_of (w.record_of id) =
          ap (λ (v : World). abs_of (v.record_of id)) now_is ∙ box_kept F item.after w' id (alone_listed slot id e.states item.after listed alone)
          ∙ ap abs_of (other_after F w cmd id thing.other) in
          ap (λ b. is_inside b region) box ∙ ap (is_inside (abs_of (w.record_of id))) item.region ∙ thing.inside;
      live = λ id listed. (listed_inside F w slot there e.states id world listed_all listed).live;
      before = ap (λ r. is_inside (abs_of r) region) item.actor ∙ ap (is_inside (abs_of (w.record_of slot))) item.region ∙ within.before;
      me =
          ap (λ (v : World). abs_of (v.record_of slot)) now_is
          ∙ box_kept F item.after w' slot (alone_own slot e.states item.after alone)
          ∙ ap abs_of (actor_after F w cmd);
      before_ordered = subst (λ (r : Rec). IsOrdered (abs_of r)) (sym item.actor) (live_ordered F w slot lawful world given.live);
    }

pub has_written : (F : Fixed) (core : Core) (history : List Item) (now : World) (j : ℕ) → IsLawful F → IsStart F → Stands F core history now
    → is_storing (stage_of (core.view j).point) ≡ true → HasWritten F now (core.view j)
has_written F core history now j lawful start is storing =
    has_committed F core history now j lawful start is (storing_stage (stage_of (core.view j).point) storing).committed

-- whose word a cell is
abbrev pub id_of_cell : Cell → ℕ
id_of_cell (Body p k) = p
id_of_cell (State id) = id

-- what is written is the actor's or a listed one's
pub written_by : (slot : ℕ) (states : List NewState) (cell : Cell) → is_written slot states cell ≡ true → ((id_of_cell cell == slot) || is_some (state_at states (id_of_cell cell))) ≡ true
written_by slot states (Body p k) e = or_left _ _ e
written_by slot states (State id) e = e

-- a seat that stores writes no record that touches the region of a settled seat
pub writes_elsewhere : (F : Fixed) (core : Core) (history : List Item) (now : World) (i j id : ℕ) → IsLawful F → IsStart F → Stands F core history now
    → is_settled (stage_of (core.view i).point) ≡ true → (i == j) ≡ false → touches_own (region_in F (core.view i).cmd (core.view i).own) (now.record_of id) ≡ true
    → HasWritten F now (core.view j) → (e : Effect) → (core.view j).effect ≡ Some e → ((id == (core.view j).cmd.slot) || is_some (state_at e.states id)) ≡ true → ⊥
writes_elsewhere F core history now i j id lawful start is settled differ touches wrote e effect written =
    let mine = settled_seat F core history now i lawful start is settled in
    let same : wrote.e ≡ e = let both = sym wrote.is ∙ effect in cc in
    let inside : is_inside (abs_of (now.record_of id)) (region_in F (core.view j).cmd (core.view j).own) ≡ true =
    elim (or_cases (id == (core.view j).cmd.slot) (is_some (state_at e.states id)) written) [
      | inl own ↦ subst (λ (n : ℕ). is_inside (abs_of (now.record_of n)) (region_in F (core.view j).cmd (core.view j).own) ≡ true) (sym (eqb-true id (core.view j).cmd.slot own)) wrote.actor
      | inr listed ↦ wrote.listed id (subst (λ (f : Effect). is_some (state_at f.states id) ≡ true) (sym same) listed)
    ] in
    regions_apart F core history now i j (region_in F (core.view i).cmd (core.view i).own) (region_in F (core.view j).cmd (core.view j).own) (abs_of (now.record_of id)) is differ
    mine.holds_it wrote.holds_it inside touches

pub no_some : (o : Option ℕ) → ((x : ℕ) → o ≡ Some x → ⊥) → o ≡ None
no_some None none = refl
no_some (Some x) none = absurd (none x refl)

-- no seat owes a word of a record that touches the region of a settled seat
pub nothing_owed : (F : Fixed) (core : Core) (history : List Item) (now : World) (i : ℕ) (cell : Cell) → IsLawful F → IsStart F → Stands F core history now
    → is_settled (stage_of (core.view i).point) ≡ true → touches_own (region_in F (core.view i).cmd (core.view i).own) (now.record_of (id_of_cell cell)) ≡ true
    → (j : ℕ) → owed_at (stores_owed (core.view j).point) cell ≡ None
nothing_owed F core history now i cell lawful start is settled touches j =
    elim (cases_Bool (j == i)) [
      | inl here ↦
          subst (λ (n : ℕ). owed_at (stores_owed (core.view n).point) cell ≡ None) (sym (eqb-true j i here))
          (ap (λ stores. owed_at stores cell) (settled_owes_nothing (core.view i).point settled))
      | inr other ↦ no_some (owed_at (stores_owed (core.view j).point) cell) (λ x owed.
          let view = core.view j in
          let owes = owing F view.cmd view.own view.wanted view.again view.lists view.others view.states view.effect view.point cell x (is.seats j).at owed in
          writes_elsewhere F core history now i j (id_of_cell cell) lawful start is settled (eqb_sym j i other) touches (has_written F core history now j lawful start is owes.storing)
          owes.e owes.is (written_by view.cmd.slot owes.e.states cell owes.written))
    ]

-- the words of a record that touches the region of a settled seat are those of the run
pub quiet_word : (F : Fixed) (core : Core) (history : List Item) (now : World) (i : ℕ) (cell : Cell) → IsLawful F → IsStart F → Stands F core history now
    → is_settled (stage_of (core.view i).point) ≡ true → is_live_cell F cell ≡ true → touches_own (region_in F (core.view i).cmd (core.view i).own) (now.record_of (id_of_cell cell)) ≡ true
    → word_in core.words cell ≡ value_in now cell
quiet_word F core history now i cell lawful start is settled live touches = is.unowed cell live (nothing_owed F core history now i cell lawful start is settled touches)

-- a player that touches the region of a settled seat is linked at its node alone
pub quiet_bit : (F : Fixed) (core : Core) (history : List Item) (now : World) (i p node : ℕ) → IsLawful F → IsStart F → Stands F core history now
    → is_settled (stage_of (core.view i).point) ≡ true → is_player F p ≡ true → touches_own (region_in F (core.view i).cmd (core.view i).own) (now.record_of p) ≡ true
    → has_bit (core.words.links node) p ≡ (node == home F (now.record_of p))
quiet_bit F core history now i p node lawful start is settled player touches = is.linked p node player (λ j.
    false_from_ne_true _ (λ storing_it.
    let view = core.view j in
    let parts = and_parts (is_storing (stage_of view.point)) (view.cmd.slot == p) storing_it in
    let wrote = has_written F core history now j lawful start is parts.0 in
    let differ : (i == j) ≡ false = ne_eqb i j (λ same.
    false≢true (sym (storing_stage (stage_of view.point) parts.0).unsettled ∙ subst (λ (n : ℕ). is_settled (stage_of (core.view n).point) ≡ true) same settled)) in
    writes_elsewhere F core history now i j p lawful start is settled differ touches wrote wrote.e wrote.is (or_left _ _ (eq-eqb p view.cmd.slot (sym (eqb-true view.cmd.slot p parts.1))))))
