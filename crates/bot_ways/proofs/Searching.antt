-- What the search for the least lengths keeps, and what it comes to.
use Rattle.std.proofs.Common.{◌≡◌, ◌≢◌, ℕ, ◌+◌, ◌*◌, ◌<◌, ◌≤◌, ◌⊎◌, Bool, true, false, cond, min, List, length, set, get_or, count_by, Option, Some, None, option_map, refl, sym, ◌∙◌, subst, ap, inl, inr, arith, length-set, get_or-set_same, get_or-set_other}
use Rattle.std.proofs.lemmas.Bool.{cases_eq, cases_lt}
use Rattle.std.proofs.lemmas.List.Sums.{sum_by-set, count_by-le-length}
use Rattle.std.proofs.lemmas.Option.{none-some, same_Some}
use Rattle.arena_map.specs.Maps.{MapView}
use Rattle.bot_ways.specs.declared.search.Reached.{Reached}
use Rattle.bot_ways.specs.Edges.{edge}
use Rattle.bot_ways.specs.Walks.{length_to}
use Rattle.bot_ways.specs.Ways.{IsBefore, IsAtMost, IsCertificate}
use Rattle.bot_ways.specs.Search.{lesser, through, AreTried, is_settled, IsNearestOpen, AreSettled}
use Rattle.bot_ways.proofs.EdgeParts.{edge_most, to_within}
use Rattle.bot_ways.proofs.Lengths.{within_of, at_most_more, length_within, same_length, HasLength}

-- how many waypoints have been tried
abbrev pub tried : List Bool → ℕ
tried settled = count_by (λ (b : Bool). b) settled

-- a waypoint whose edges have been tried is before v
pub record HasTriedBefore (map : MapView) (least : List (Option ℕ)) (settled : List Bool) (v : ℕ) : Type 0 where
  pub waypoint : ℕ
  pub is_tried : is_settled settled waypoint ≡ true
  pub before : IsBefore map least waypoint v

-- the lengths so far are lengths of walks, and those of the waypoints whose edges have been tried are at most the others
-- and don't change any more
pub record IsSearch (map : MapView) (least : List (Option ℕ)) (settled : List Bool) : Type 0 where
  pub count : length least ≡ length map.spawns
  pub marks : length settled ≡ length map.spawns
  pub start : length_to least 0 ≡ Some 0
  pub reached : (v : ℕ) → is_settled settled v ≡ true → HasLength (length_to least v)
  pub closed : (u v here step : ℕ) → is_settled settled u ≡ true → length_to least u ≡ Some here
      → edge map u v ≡ Some step → IsAtMost (here + step) (length_to least v)
  pub ordered : (u v here there : ℕ) → is_settled settled u ≡ true → length_to least u ≡ Some here
      → is_settled settled v ≡ false → length_to least v ≡ Some there → here ≤ there
  pub tight : (v n : ℕ) → length_to least v ≡ Some n → v ≢ 0 → HasTriedBefore map least settled v
  pub few : (v n : ℕ) → length_to least v ≡ Some n → n ≤ 65536 * tried settled

-- ---- the lesser of two lengths

lesser_keeps : (b : ℕ) (o : Option ℕ) → ((m : ℕ) → o ≡ Some m → b ≤ m) → lesser (Some b) o ≡ Some b
lesser_keeps b None le = refl
lesser_keeps b (Some m) le = let h = le m refl in let e : min b m ≡ b = omega arith in ap (λ (x : ℕ). Some x) e

lesser_is : (a b : Option ℕ) (n : ℕ) → lesser a b ≡ Some n → (a ≡ Some n) ⊎ (b ≡ Some n)
lesser_is None b n h = inr h
lesser_is (Some x) None n h = inl h
lesser_is (Some x) (Some y) n h =
    let s = same_Some (min x y) n h in
    elim (cases_lt x y) [
      | inl lt ↦ let e : x ≡ n = omega arith in inl (ap (λ (z : ℕ). Some z) e)
      | inr ge ↦ let e : y ≡ n = omega arith in inr (ap (λ (z : ℕ). Some z) e)
    ]

lesser_at_most_first : (a : ℕ) (o b : Option ℕ) → o ≡ Some a → IsAtMost a (lesser o b)
lesser_at_most_first a None b h = absurd (none-some a h)
lesser_at_most_first a (Some x) None h = let e = same_Some x a h in omega arith
lesser_at_most_first a (Some x) (Some y) h = let e = same_Some x a h in omega arith

lesser_at_most_second : (b : ℕ) (o p : Option ℕ) → p ≡ Some b → IsAtMost b (lesser o p)
lesser_at_most_second b o None h = absurd (none-some b h)
lesser_at_most_second b None (Some y) h = let e = same_Some y b h in omega arith
lesser_at_most_second b (Some x) (Some y) h = let e = same_Some y b h in omega arith

-- a length through a waypoint, with its edge
record IsThrough (map : MapView) (at : Reached) (v n : ℕ) : Type 0 where
  step : ℕ
  edge_is : edge map at.waypoint v ≡ Some step
  sum : n ≡ at.length + step

through_at : (map : MapView) (at : Reached) (v n : ℕ) (o : Option ℕ) → edge map at.waypoint v ≡ o
    → option_map (λ step. at.length + step) o ≡ Some n → IsThrough map at v n
through_at map at v n None e h = absurd (none-some n h)
through_at map at v n (Some step) e h = record { step = step; edge_is = e; sum = sym (same_Some (at.length + step) n h) }

through_is : (map : MapView) (at : Reached) (v n : ℕ) → through map at v ≡ Some n → IsThrough map at v n
through_is map at v n h = through_at map at v n (edge map at.waypoint v) refl h

-- ---- marks

pub not_both : (b : Bool) → b ≡ true → b ≡ false → ⊥
not_both true p q = cc
not_both false p q = cc

mark_is : (settled : List Bool) (w v : ℕ) → is_settled (set settled w true) v ≡ true → (v ≡ w) ⊎ (is_settled settled v ≡ true)
mark_is settled w v h = elim (cases_eq v w) [
  | inl same ↦ inl same
  | inr apart ↦ inr (sym (get_or-set_other settled w v true false apart) ∙ h)
]

mark_own : (settled : List Bool) (w : ℕ) → w < length settled → is_settled (set settled w true) w ≡ true
mark_own settled w lt = get_or-set_same settled w true false lt

mark_kept : (settled : List Bool) (w v : ℕ) → w < length settled → is_settled settled v ≡ true
    → is_settled (set settled w true) v ≡ true
mark_kept settled w v lt h = elim (cases_eq v w) [
  | inl same ↦ subst (λ (x : ℕ). is_settled (set settled w true) x ≡ true) (sym same) (mark_own settled w lt)
  | inr apart ↦ get_or-set_other settled w v true false apart ∙ h
]

mark_none : (settled : List Bool) (w v : ℕ) → w < length settled → is_settled (set settled w true) v ≡ false
    → is_settled settled v ≡ false
mark_none settled w v lt h = elim (cases_eq v w) [
  | inl same ↦ absurd (not_both (is_settled (set settled w true) v)
      (subst (λ (x : ℕ). is_settled (set settled w true) x ≡ true) (sym same) (mark_own settled w lt)) h)
  | inr apart ↦ sym (get_or-set_other settled w v true false apart) ∙ h
]

pub tried_more : (settled : List Bool) (w : ℕ) → w < length settled → is_settled settled w ≡ false
    → tried (set settled w true) ≡ tried settled + 1
tried_more settled w lt unmarked =
    let f : Bool → ℕ = λ b. cond b 1 0 in
    let sums = sum_by-set f settled w true false lt in
    let was : f (get_or settled w false) ≡ 0 = ap f unmarked in
    omega (arith, sums, was)

-- ---- one more waypoint is tried

module _ (map : MapView) (least new : List (Option ℕ)) (settled : List Bool) (at : Reached) (search : IsSearch map least settled) (nearest : IsNearestOpen (length settled) least settled at) (done : AreTried map at least new) where
  abbrev pub next : List Bool
  next = set settled at.waypoint true

  w_within : at.waypoint < length settled
  w_within = let a = search.count in let b = search.marks in let c = nearest.there in omega arith

  keeps : (v b : ℕ) → length_to least v ≡ Some b → b ≤ at.length → length_to new v ≡ Some b
  keeps v b h le =
      let each = done.each v (length_within least v b h) in
      let low = lesser_keeps b (through map at v) (λ m e. let t = through_is map at v m e in let s = t.sum in omega arith) in
      each ∙ ap (λ (o : Option ℕ). lesser o (through map at v)) h ∙ low

  own : length_to new at.waypoint ≡ Some at.length
  own = keeps at.waypoint at.length nearest.length_is (omega arith)

  tried_keeps : (v b : ℕ) → is_settled settled v ≡ true → length_to least v ≡ Some b → length_to new v ≡ Some b
  tried_keeps v b is h = keeps v b h (search.ordered v at.waypoint b at.length is h nearest.untried nearest.length_is)

  -- a tried waypoint's length is the one that it had
  tried_had : (v b : ℕ) → is_settled settled v ≡ true → length_to new v ≡ Some b → length_to least v ≡ Some b
  tried_had v b is h =
      let has = search.reached v is in
      let now = tried_keeps v has.number is has.is in
      has.is ∙ (sym now ∙ h)

  new_within : (v n : ℕ) → length_to new v ≡ Some n → v < length least
  new_within v n h = let lt = length_within new v n h in let c = done.count in omega arith

  came_from : (v n : ℕ) → length_to new v ≡ Some n → (length_to least v ≡ Some n) ⊎ IsThrough map at v n
  came_from v n h =
      let each = done.each v (new_within v n h) in
      elim (lesser_is (length_to least v) (through map at v) n (sym each ∙ h)) [
        | inl was ↦ inl was
        | inr by ↦ inr (through_is map at v n by)
      ]

  lower : (v b : ℕ) → length_to least v ≡ Some b → IsAtMost b (length_to new v)
  lower v b h =
      let each = done.each v (length_within least v b h) in
      subst (IsAtMost b) (sym each) (lesser_at_most_first b (length_to least v) (through map at v) h)

  by_edge : (v step : ℕ) → edge map at.waypoint v ≡ Some step → IsAtMost (at.length + step) (length_to new v)
  by_edge v step e =
      let lt = to_within map at.waypoint v step e in
      let c = search.count in
      let each = done.each v (omega arith) in
      subst (IsAtMost (at.length + step)) (sym each)
      (lesser_at_most_second (at.length + step) (length_to least v) (through map at v) (ap (option_map (λ (s : ℕ). at.length + s)) e))

  closed_more : (u v here step : ℕ) → is_settled next u ≡ true → length_to new u ≡ Some here
      → edge map u v ≡ Some step → IsAtMost (here + step) (length_to new v)
  closed_more u v here step is h e = elim (mark_is settled at.waypoint u is) [
    | inl same ↦
        let there = subst (λ (x : ℕ). length_to new x ≡ Some here) same h in
        let edge_w = subst (λ (x : ℕ). edge map x v ≡ Some step) same e in
        let eq : at.length ≡ here = same_length (length_to new at.waypoint) at.length here own there in
        at_most_more (at.length + step) (here + step) (length_to new v) (omega arith) (by_edge v step edge_w)
    | inr old ↦
        let mid = within_of (here + step) (length_to least v) (search.closed u v here step old (tried_had u here old h) e) in
        at_most_more mid.number (here + step) (length_to new v) mid.within (lower v mid.number mid.is)
  ]

  above : (v there : ℕ) → is_settled next v ≡ false → length_to new v ≡ Some there → at.length ≤ there
  above v there unmarked h = elim (came_from v there h) [
    | inl was ↦
        let lt = new_within v there h in
        let c = search.count in
        let m = search.marks in
        nearest.nearest v there (omega arith) was (mark_none settled at.waypoint v w_within unmarked)
    | inr by ↦ let s = by.sum in omega arith
  ]

  below : (u here : ℕ) → is_settled next u ≡ true → length_to new u ≡ Some here → here ≤ at.length
  below u here is h = elim (mark_is settled at.waypoint u is) [
    | inl same ↦
        let there = subst (λ (x : ℕ). length_to new x ≡ Some here) same h in
        let eq : at.length ≡ here = same_length (length_to new at.waypoint) at.length here own there in
        omega arith
    | inr old ↦ search.ordered u at.waypoint here at.length old (tried_had u here old h) nearest.untried nearest.length_is
  ]

  tight_more : (v n : ℕ) → length_to new v ≡ Some n → v ≢ 0 → HasTriedBefore map new next v
  tight_more v n h some = elim (came_from v n h) [
    | inl was ↦
        let old = search.tight v n was some in
        let b = old.before in
        let sum : n ≡ b.here + b.step = same_length (length_to least v) n (b.here + b.step) was b.to in
        record {
          waypoint = old.waypoint;
          is_tried = mark_kept settled at.waypoint old.waypoint w_within old.is_tried;
          before = record {
            here = b.here;
            step = b.step;
            from = tried_keeps old.waypoint b.here old.is_tried b.from;
            edge_is = b.edge_is;
            to = h ∙ ap (λ (x : ℕ). Some x) sum;
          };
        }
    | inr by ↦ record {
      waypoint = at.waypoint;
      is_tried = mark_own settled at.waypoint w_within;
      before = record {
        here = at.length;
        step = by.step;
        from = own;
        edge_is = by.edge_is;
        to = h ∙ ap (λ (x : ℕ). Some x) by.sum;
      };
    }
  ]

  few_more : (v n : ℕ) → length_to new v ≡ Some n → n ≤ 65536 * tried next
  few_more v n h =
      let more = tried_more settled at.waypoint w_within nearest.untried in
      elim (came_from v n h) [
        | inl was ↦ let few = search.few v n was in omega arith
        | inr by ↦
            let few = search.few at.waypoint at.length nearest.length_is in
            let most = edge_most map at.waypoint v by.step by.edge_is in
            let s = by.sum in
            omega arith
      ]

  reached_more : (v : ℕ) → is_settled next v ≡ true → HasLength (length_to new v)
  reached_more v is = elim (mark_is settled at.waypoint v is) [
    | inl same ↦ record { number = at.length; is = subst (λ (x : ℕ). length_to new x ≡ Some at.length) (sym same) own }
    | inr old ↦ let has = search.reached v old in record { number = has.number; is = tried_keeps v has.number old has.is }
  ]

  pub search_more : IsSearch map new next
  search_more = record {
    count = done.count ∙ search.count;
    marks = length-set settled at.waypoint true ∙ search.marks;
    start = keeps 0 0 search.start (omega arith);
    reached = reached_more;
    closed = closed_more;
    ordered = λ u v here there is h unmarked k. let a = below u here is h in let b = above v there unmarked k in omega arith;
    tight = tight_more;
    few = few_more;
  }

-- ---- the end

pub search_ends : (map : MapView) (least : List (Option ℕ)) (settled : List Bool) → IsSearch map least settled
    → AreSettled (length settled) least settled → IsCertificate map least
search_ends map least settled search all =
    let count = search.count in
    let marks = search.marks in
    record {
      count = search.count;
      start = λ _. search.start;
      closed = λ u v here step h e.
          let lt = length_within least u here h in
          search.closed u v here step (all.tried u here (omega arith) h) h e;
      tight = λ v n h some. let b = search.tight v n h some in record { waypoint = b.waypoint; before = b.before };
    }

-- lengths stay few while a waypoint is unmarked
pub nearest_few : (map : MapView) (least : List (Option ℕ)) (settled : List Bool) (at : Reached) → IsSearch map least settled
    → IsNearestOpen (length settled) least settled at → length map.spawns ≤ 64 → at.length ≤ 4194304
nearest_few map least settled at search nearest few =
    let most = search.few at.waypoint at.length nearest.length_is in
    let some = count_by-le-length (λ (b : Bool). b) settled in
    let marks = search.marks in
    omega arith

-- ---- the edges from a waypoint, tried one after another

-- the edges to the waypoints below `to` have been tried, and the lengths of the others are as they were
pub record AreTriedBelow (map : MapView) (from : Reached) (to : ℕ) (old new : List (Option ℕ)) : Type 0 where
  pub count : length new ≡ length old
  pub done : (v : ℕ) → v < to → length_to new v ≡ lesser (length_to old v) (through map from v)
  pub rest : (v : ℕ) → to ≤ v → length_to new v ≡ length_to old v

pub tried_next : (map : MapView) (from : Reached) (to : ℕ) (old now new : List (Option ℕ)) → to < length old
    → AreTriedBelow map from to old now → new ≡ set now to (lesser (length_to now to) (through map from to))
    → AreTriedBelow map from (to + 1) old new
tried_next map from to old now new lt h is =
    let one = lesser (length_to now to) (through map from to) in
    let c = h.count in
    let within : to < length now = omega arith in
    let here : length_to new to ≡ lesser (length_to old to) (through map from to) =
    ap (λ (xs : List (Option ℕ)). length_to xs to) is ∙ get_or-set_same now to one None within
    ∙ ap (λ (o : Option ℕ). lesser o (through map from to)) (h.rest to (omega arith)) in
    let other : (v : ℕ) → v ≢ to → length_to new v ≡ length_to now v =
    λ v apart. ap (λ (xs : List (Option ℕ)). length_to xs v) is ∙ get_or-set_other now to v one None apart in
    record {
      count = ap (λ (xs : List (Option ℕ)). length xs) is ∙ length-set now to one ∙ c;
      done = λ v below. elim (cases_eq v to) [
        | inl same ↦ subst (λ (x : ℕ). length_to new x ≡ lesser (length_to old x) (through map from x)) (sym same) here
        | inr apart ↦ other v apart ∙ h.done v (omega arith)
      ];
      rest = λ v above. other v (λ e. omega arith) ∙ h.rest v (omega arith);
    }
