-- Under a node that is held, a player whose bit is set there is written by nobody.
use Rattle.std.proofs.Common.{◌≡◌, ℕ, suc, ◌+◌, ◌-◌, ◌^◌, ◌*◌, ◌<◌, ◌≤◌, true, List, [], ◌∷◌, ◌++◌, map, refl, sym, ap, ◌∙◌, subst, inl, inr, None, arith, add-one}
use Rattle.std.specs.Prelude.{◌==◌, ◌||◌, nat_lt, All}
use Rattle.std.specs.List.{range_with_len}
use Rattle.std.proofs.lemmas.Bool.{cases_Bool, false≢true, true≢false, eqb-true, eq-eqb, and_from, or_cases, or_left, or_right, leb-true, leb-false, lt-ltb, lt-leb, cond-false}
use Rattle.std.proofs.Math.Nat.{pow-suc}
use Rattle.arena_geo.specs.Bounds.{Bounds, IsOrdered}
use Rattle.arena_geo.specs.Regions.{is_inside}
use Rattle.entity_recs.specs.declared.rec.Rec.{Rec}
use Rattle.entity_recs.specs.declared.effect.NewState.{NewState}
use Rattle.entity_recs.specs.Bodies.{abs_of}
use Rattle.entity_recs.specs.Worlds.{World}
use Rattle.entity_recs.specs.Histories.{Item}
use Rattle.areanode.specs.Words.{has_bit}
use Rattle.areanode.specs.Trees.{leaf_node, visited_of, leaves_of}
use Rattle.areanode.proofs.Nodes.{node_is_in_range, touched_leaf_is_listed}
use Rattle.core_steps.specs.Cells.{Body, State}
use Rattle.core_steps.specs.Encoding.{words_of, nth_word}
use Rattle.core_steps.specs.Nodes.{Fixed, has, is_leaf, inner_nodes, leaf_nodes, inner_visited, plan_of, home}
use Rattle.core_steps.specs.Points.{Store, Clear, Put, Link, Point, Idle, Owning, Taking, Checking, Entering, Entered}
use Rattle.core_steps.specs.Points.{Loading, Leaving, Sensing, Resolving, Claiming, Storing, Releasing, Returning}
use Rattle.core_steps.specs.Points.{Yielding, stage_of, is_whole, is_settled, is_storing, body_stores, stores_owed}
use Rattle.core_steps.specs.Reads.{region_in, record_read}
use Rattle.core_steps.specs.Held.{leaves_held, holds}
use Rattle.core_steps.specs.Steps.{Core}
use Rattle.core_steps.specs.Stands.{IsStart, IsLawful, Stands, owed_at, is_linked_at}
use Rattle.core_steps.proofs.Puts.{eqb_sym}
use Rattle.core_steps.proofs.Lists.{has_append, has_filter, filter_has, has_range, range_has}
use Rattle.core_steps.proofs.Giving.{seat_at}
use Rattle.core_steps.proofs.Exclusion.{inside_touches, leaf_listed}
use Rattle.core_steps.proofs.Owing.{owing, settled_owes_nothing}
use Rattle.core_steps.proofs.Quiet.{has_written, no_some}

-- ---- the one clearing store

abbrev pub NoClear : List Store → Type 0
NoClear [] = Unit {0}
NoClear (Clear node ∷ stores) = ⊥
NoClear (Put cell x ∷ stores) = NoClear stores
NoClear (Link node ∷ stores) = NoClear stores

pub no_clear_append : (xs ys : List Store) → NoClear xs → NoClear ys → NoClear (xs ++ ys)
no_clear_append [] ys a b = b
no_clear_append (Clear node ∷ xs) ys a b = absurd a
no_clear_append (Put cell x ∷ xs) ys a b = no_clear_append xs ys a b
no_clear_append (Link node ∷ xs) ys a b = no_clear_append xs ys a b

pub no_clear_body : (slot k : ℕ) (words : List ℕ) → NoClear (body_stores slot k words)
no_clear_body slot k [] = tt
no_clear_body slot k (word ∷ words) = no_clear_body slot (suc k) words

pub no_clear_states : (states : List NewState) → NoClear (map (λ (s : NewState). Put (State s.id) s.state) states)
no_clear_states [] = tt
no_clear_states (s ∷ states) = no_clear_states states

no_clear_within : (made : List Store) (node : ℕ) (rest : List Store) → NoClear (made ++ Clear node ∷ rest) → ⊥
no_clear_within [] node rest none = none
no_clear_within (Clear n ∷ made) node rest none = none
no_clear_within (Put cell x ∷ made) node rest none = no_clear_within made node rest none
no_clear_within (Link n ∷ made) node rest none = no_clear_within made node rest none

-- a clearing store that is still owed is the first one, at the old node
cleared_at : (made rest tail : List Store) (node old : ℕ) → NoClear tail → made ++ Clear node ∷ rest ≡ Clear old ∷ tail → node ≡ old
cleared_at [] rest tail node old none e = cc
cleared_at (store ∷ made) rest tail node old none e =
    let same : made ++ Clear node ∷ rest ≡ tail = cc in
    absurd (no_clear_within made node rest (subst NoClear (sym same) none))

record FirstClear (stores : List Store) (node : ℕ) : Type 0 where
  rest : List Store
  is : stores ≡ Clear node ∷ rest

-- where a seat's bit is set, the clearing store is owed
linked_first : (stores : List Store) (node : ℕ) → is_linked_at stores node ≡ true → FirstClear stores node
linked_first [] node linked = absurd (false≢true linked)
linked_first (Clear old ∷ stores) node linked = record { rest = stores; is = ap (λ (n : ℕ). Clear n ∷ stores) (sym (eqb-true node old linked)) }
linked_first (Put cell x ∷ stores) node linked = absurd (false≢true linked)
linked_first (Link new ∷ stores) node linked = absurd (false≢true linked)

-- ---- the node of the coming unlink is held

-- the node of a record that lies inside a region is among the region's leaf nodes, where it is a leaf
pub leaf_home : (F : Fixed) (r : Rec) (region : List Bounds) → All IsOrdered region → IsOrdered (abs_of r) → is_inside (abs_of r) region ≡ true → is_leaf F (home F r) ≡ true
    → has (leaf_nodes F region) (home F r) ≡ true
leaf_home F r region ordered box inside leaf =
    let h = home F r in
    let least = leb-true (inner_nodes F) h leaf in
    let range = node_is_in_range F.tree (abs_of r) in
    let number = h - inner_nodes F in
    let is : h ≡ leaf_node F.tree.depth number = omega arith in
    let below : number < 2 ^ F.tree.depth = below_depth h F.tree.depth range least in
    let listed = touched_leaf_is_listed F.tree (abs_of r) region number box ordered (inside_touches (abs_of r) region box inside) below is in
    subst (λ (n : ℕ). has (leaf_nodes F region) n ≡ true) (sym is) (leaf_listed F region number below listed)
  where
    below_depth : (h d : ℕ) → h + 1 < 2 ^ (d + 1) → 2 ^ d - 1 ≤ h → h - (2 ^ d - 1) < 2 ^ d
    below_depth h d range least =
        let twice : 2 ^ (d + 1) ≡ 2 ^ d * 2 = rw add-one (pow-suc 2 d) in
        omega arith

-- a seat that stores and whose bit is still set holds the node where it is
pub holds_old : (F : Fixed) (core : Core) (history : List Item) (now : World) (j node : ℕ) (point : Point) → IsLawful F → IsStart F → Stands F core history now → (core.view j).point ≡ point
    → is_storing (stage_of point) ≡ true → is_linked_at (stores_owed point) node ≡ true → holds F point (core.view j).wanted node ≡ true
holds_old F core history now j node Idle lawful start is e storing linked = absurd (false≢true storing)
holds_old F core history now j node Owning lawful start is e storing linked = absurd (false≢true storing)
holds_old F core history now j node (Taking got rest) lawful start is e storing linked = absurd (false≢true storing)
holds_old F core history now j node Checking lawful start is e storing linked = absurd (false≢true storing)
holds_old F core history now j node (Entering n plan) lawful start is e storing linked = absurd (false≢true storing)
holds_old F core history now j node (Entered n plan) lawful start is e storing linked = absurd (false≢true storing)
holds_old F core history now j node (Loading n part players plan) lawful start is e storing linked = absurd (false≢true storing)
holds_old F core history now j node (Leaving n plan) lawful start is e storing linked = absurd (false≢true storing)
holds_old F core history now j node (Sensing ids) lawful start is e storing linked = absurd (false≢true storing)
holds_old F core history now j node Resolving lawful start is e storing linked = absurd (false≢true storing)
holds_old F core history now j node (Claiming got rest) lawful start is e storing linked = absurd (false≢true storing)
holds_old F core history now j node (Storing nodes stores) lawful start is e storing linked =
    let view = core.view j in
    let slot = view.cmd.slot in
    let seat = seat_at F core history now j (Storing nodes stores) is e in
    let at = seat.at in
    let before = record_read slot view.again in
    let wrote = has_written F core history now j lawful start is (ap (λ (p : Point). is_storing (stage_of p)) e) in
    let first = linked_first stores node linked in
    let tail = body_stores slot 0 (words_of at.e.me) ++ (Put (State slot) at.e.me.state ∷ (map (λ (s : NewState). Put (State s.id) s.state) at.e.states ++ (Link (home F at.e.me) ∷ []))) in
    let none : NoClear tail = no_clear_append (body_stores slot 0 (words_of at.e.me)) (Put (State slot) at.e.me.state ∷ (map (λ (s : NewState). Put (State s.id) s.state) at.e.states ++ (Link (home F at.e.me) ∷ [])))
    (no_clear_body slot 0 (words_of at.e.me)) (no_clear_append (map (λ (s : NewState). Put (State s.id) s.state) at.e.states) (Link (home F at.e.me) ∷ []) (no_clear_states at.e.states) tt) in
    let owed : at.made ++ Clear node ∷ first.rest ≡ Clear (home F before) ∷ tail = ap (λ (s : List Store). at.made ++ s) (sym first.is) ∙ at.owed in
    let old : node ≡ home F before = cleared_at at.made first.rest tail node (home F before) none owed in
    let h = home F before in
    let wanted : leaves_held view.point view.wanted ≡ view.wanted = ap (λ (p : Point). leaves_held p view.wanted) e in
    let here : (has nodes h || has view.wanted h) ≡ true = elim (cases_Bool (is_leaf F h)) [
      | inl leaf ↦ or_right _ _ (subst (λ (leaves : List ℕ). has leaves h ≡ true) (sym wrote.holds_it.leaves ∙ wanted)
          (leaf_home F before (region_in F view.cmd view.own) wrote.holds_it.ordered wrote.before_ordered wrote.before leaf))
      | inr inner ↦
          let below = leb-false (inner_nodes F) h inner in
          or_left _ _ (subst (λ (ns : List ℕ). has ns h ≡ true) (sym at.held)
          (filter_has (λ n. (n == h) || (n == home F at.e.me)) (range_with_len 0 (inner_nodes F)) h (range_has 0 (inner_nodes F) h (omega arith) (omega arith))
          (or_left _ _ (eq-eqb h h refl))))
    ] in
    subst (λ (n : ℕ). (has nodes n || has view.wanted n) ≡ true) (sym old) here
holds_old F core history now j node (Releasing nodes) lawful start is e storing linked = absurd (false≢true storing)
holds_old F core history now j node (Returning leaves) lawful start is e storing linked = absurd (false≢true storing)
holds_old F core history now j node (Yielding nodes leaves) lawful start is e storing linked = absurd (false≢true storing)

-- ---- the node under which players are loaded is held

-- a planned node that is a leaf is a leaf of the region
pub planned_leaf : (F : Fixed) (region : List Bounds) (node : ℕ) → has (plan_of F region) node ≡ true → is_leaf F node ≡ true → has (leaf_nodes F region) node ≡ true
planned_leaf F region node planned leaf =
    elim (or_cases (has (leaf_nodes F region) node) (has (inner_visited F region) node) (sym (has_append (leaf_nodes F region) (inner_visited F region) node) ∙ planned)) [
      | inl there ↦ there
      | inr inner ↦
          let kept = has_filter (has_bit (visited_of F.tree.depth (leaves_of F.tree region))) (range_with_len 0 (inner_nodes F)) node inner in
          let range = has_range 0 (inner_nodes F) node kept.listed in
          absurd (true≢false (sym leaf ∙ lt-leb (inner_nodes F) node (omega arith)))
    ]

pub under_held : (F : Fixed) (core : Core) (history : List Item) (now : World) (i node : ℕ) (part players plan : List ℕ) → Stands F core history now
    → (core.view i).point ≡ Loading node part players plan → holds F (core.view i).point (core.view i).wanted node ≡ true
under_held F core history now i node part players plan is e =
    let view = core.view i in
    let seat = is.seats i in
    let at = (seat_at F core history now i (Loading node part players plan) is e).at in
    let whole : is_whole (stage_of view.point) ≡ true = ap (λ (p : Point). is_whole (stage_of p)) e in
    subst (λ (p : Point). holds F p view.wanted node ≡ true) (sym e) (elim (cases_Bool (is_leaf F node)) [
      | inl leaf ↦ or_right _ _ (subst (λ (leaves : List ℕ). has leaves node ≡ true) (sym (seat.own.leaves whole)) (planned_leaf F (region_in F view.cmd view.own) node at.load.planned leaf))
      | inr inner ↦ or_left _ _ (subst (λ (ns : List ℕ). has ns node ≡ true) (sym (cond-false (is_leaf F node) [] (node ∷ []) inner)) (or_left _ _ (eq-eqb node node refl)))
    ])

-- what is known of a player under load: it is live, and its words are those of the run
pub record IsUnderLoad (F : Fixed) (core : Core) (now : World) (p : ℕ) : Type 0 where
  pub slot : p < 64
  pub live : has F.start.ids p ≡ true
  pub words : (k : ℕ) → k < 5 → core.words.body p k ≡ nth_word (words_of (now.record_of p)) k

pub held_words : (F : Fixed) (core : Core) (history : List Item) (now : World) (i node p : ℕ) (part players plan : List ℕ) → IsLawful F → IsStart F → Stands F core history now
    → (core.view i).point ≡ Loading node part (p ∷ players) plan → IsUnderLoad F core now p
held_words F core history now i node p part players plan lawful start is e =
    let view = core.view i in
    let here = seat_at F core history now i (Loading node part (p ∷ players) plan) is e in
    let load = here.at.load.each p (or_left _ _ (eq-eqb p p refl)) in
    let word : core.words.links node ≡ load.word = here.current.same_list refl node load.word load.read (or_right _ _ (eq-eqb node node refl)) in
    let bit : has_bit (core.words.links node) p ≡ true = ap (λ (w : ℕ). has_bit w p) word ∙ load.bit in
    let live : has F.start.ids p ≡ true = elim (cases_Bool (has F.start.ids p)) [
      | inl there ↦ there
      | inr dead ↦ absurd (true≢false (sym bit ∙ is.unlinked p node load.player dead))
    ] in
    let settled : is_settled (stage_of view.point) ≡ true = ap (λ (q : Point). is_settled (stage_of q)) e in
    record {
      slot = load.player;
      live = live;
      words = λ k five. is.unowed (Body p k) (and_from _ _ (and_from (nat_lt p 64) (has F.start.ids p) (lt-ltb p 64 load.player) live) (lt-ltb k 5 five)) (λ j.
          elim (cases_Bool (j == i)) [
            | inl same ↦ subst (λ (n : ℕ). owed_at (stores_owed (core.view n).point) (Body p k) ≡ None) (sym (eqb-true j i same))
                (ap (λ stores. owed_at stores (Body p k)) (settled_owes_nothing view.point settled))
            | inr other ↦ no_some (owed_at (stores_owed (core.view j).point) (Body p k)) (λ x owed.
                let theirs = core.view j in
                let owes = owing F theirs.cmd theirs.own theirs.wanted theirs.again theirs.lists theirs.others theirs.states theirs.effect theirs.point (Body p k) x (is.seats j).at owed in
                let slot : p ≡ theirs.cmd.slot = eqb-true p theirs.cmd.slot owes.written in
                let linked : is_linked_at (stores_owed theirs.point) node ≡ true =
                sym ((is.seats j).committed.linked owes.storing node) ∙ subst (λ (s : ℕ). has_bit (core.words.links node) s ≡ true) slot bit in
                let by_j = holds_old F core history now j node theirs.point lawful start is refl owes.storing linked in
                let by_i = under_held F core history now i node part (p ∷ players) plan is e in
                true≢false (sym by_j ∙ (is.apart i j (eqb_sym j i other)).nodes node by_i))
          ]);
    }
