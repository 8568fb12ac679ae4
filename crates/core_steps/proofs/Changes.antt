-- What an effect that is applied changes, what it leaves, and that its stores put just that.
use Rattle.std.proofs.Common.{◌≡◌, ℕ, suc, ◌+◌, ◌<◌, ◌≤◌, true, false, List, [], ◌∷◌, ◌++◌, length, map, refl, sym, ap, ◌∙◌, subst, inl, inr, Some, arith}
use Rattle.std.specs.Prelude.{◌==◌, ◌||◌, nat_lt, is_some}
use Rattle.std.specs.List.{AllByRecursion, IsDistinct}
use Rattle.std.proofs.lemmas.Bool.{cases_Bool, false≢true, true≢false, eqb-true, eq-eqb, and_parts, and_from, or_cases, or_parts, ltb-true, cond-true, cond-false}
use Rattle.std.proofs.lemmas.Map.Keys.{IsDistinct-head, IsDistinct-tail}
use Rattle.entity_recs.specs.declared.rec.Rec.{Rec}
use Rattle.entity_recs.specs.declared.effect.NewState.{NewState}
use Rattle.entity_recs.specs.declared.effect.Effect.{Effect}
use Rattle.entity_recs.specs.Commands.{Command}
use Rattle.entity_recs.specs.Worlds.{World}
use Rattle.entity_recs.specs.Histories.{outcome, with_new_state, apply}
use Rattle.core_steps.specs.Cells.{Cell, Body, State, is_cell}
use Rattle.core_steps.specs.Encoding.{words_of, nth_word}
use Rattle.core_steps.specs.Nodes.{Fixed, home}
use Rattle.core_steps.specs.Points.{Store, Clear, Put, Link, body_stores, stores_of}
use Rattle.core_steps.specs.Reads.{state_at}
use Rattle.core_steps.specs.Stands.{OwesRight, is_player, is_live_cell, value_in, owed_at}
use Rattle.core_steps.proofs.Owing.{is_written}
use Rattle.core_steps.proofs.Runs.{other_after}

-- ---- what is left

not_listed : (states : List NewState) (id : ℕ) (r : Rec) → is_some (state_at states id) ≡ false → with_new_state states id r ≡ r
not_listed [] id r none = refl
not_listed (s ∷ states) id r none =
    elim (cases_Bool (s.id == id)) [
      | inl e ↦ absurd (true≢false (sym (ap is_some (cond-true (s.id == id) (Some s.state) (state_at states id) e)) ∙ none))
      | inr e ↦ rw e (not_listed states id r (rw e at none))
    ]

-- the record of an id that isn't the actor's and isn't listed is as before
pub unwritten_record : (F : Fixed) (w : World) (c : Command) (id : ℕ) → ((id == c.slot) || is_some (state_at (outcome F.effect_of w c).states id)) ≡ false
    → (apply F.effect_of w c).record_of id ≡ w.record_of id
unwritten_record F w c id none =
    let parts = or_parts (id == c.slot) (is_some (state_at (outcome F.effect_of w c).states id)) none in
    cond-false (id == c.slot) (outcome F.effect_of w c).me (with_new_state (outcome F.effect_of w c).states id (w.record_of id)) parts.0
    ∙ not_listed (outcome F.effect_of w c).states id (w.record_of id) parts.1

-- the five words of another player are as before
pub unwritten_body : (F : Fixed) (w : World) (c : Command) (p k : ℕ) → (p == c.slot) ≡ false → value_in (apply F.effect_of w c) (Body p k) ≡ value_in w (Body p k)
unwritten_body F w c p k other = ap (λ (r : Rec). nth_word (words_of r) k) (other_after F w c p other)

-- a cell that isn't written has the value that it had
pub unwritten_value : (F : Fixed) (w : World) (c : Command) (cell : Cell) → is_written c.slot (outcome F.effect_of w c).states cell ≡ false
    → value_in (apply F.effect_of w c) cell ≡ value_in w cell
unwritten_value F w c (Body p k) none = unwritten_body F w c p k none
unwritten_value F w c (State id) none = ap (λ (r : Rec). r.state) (unwritten_record F w c id none)

-- ---- each written cell is owed

owed_first : (xs ys : List Store) (cell : Cell) → is_some (owed_at xs cell) ≡ true → is_some (owed_at (xs ++ ys) cell) ≡ true
owed_first [] ys cell owed = absurd (false≢true owed)
owed_first (Clear node ∷ xs) ys cell owed = owed_first xs ys cell owed
owed_first (Put c x ∷ xs) ys cell owed =
    elim (cases_Bool (is_cell c cell)) [
      | inl e ↦ ap is_some (cond-true (is_cell c cell) (Some x) (owed_at (xs ++ ys) cell) e)
      | inr e ↦ ap is_some (cond-false (is_cell c cell) (Some x) (owed_at (xs ++ ys) cell) e) ∙ owed_first xs ys cell (rw e at owed)
    ]
owed_first (Link node ∷ xs) ys cell owed = owed_first xs ys cell owed

owed_second : (xs ys : List Store) (cell : Cell) → is_some (owed_at ys cell) ≡ true → is_some (owed_at (xs ++ ys) cell) ≡ true
owed_second [] ys cell owed = owed
owed_second (Clear node ∷ xs) ys cell owed = owed_second xs ys cell owed
owed_second (Put c x ∷ xs) ys cell owed =
    elim (cases_Bool (is_cell c cell)) [
      | inl e ↦ ap is_some (cond-true (is_cell c cell) (Some x) (owed_at (xs ++ ys) cell) e)
      | inr e ↦ ap is_some (cond-false (is_cell c cell) (Some x) (owed_at (xs ++ ys) cell) e) ∙ owed_second xs ys cell owed
    ]
owed_second (Link node ∷ xs) ys cell owed = owed_second xs ys cell owed

owed_body : (slot m k : ℕ) (words : List ℕ) → m ≤ k → k < m + length words → is_some (owed_at (body_stores slot m words) (Body slot k)) ≡ true
owed_body slot m k [] least below = absurd (omega arith)
owed_body slot m k (word ∷ words) least below =
    elim (cases_Bool (m == k)) [
      | inl e ↦ ap is_some (cond-true (is_cell (Body slot m) (Body slot k)) (Some word) (owed_at (body_stores slot (suc m) words) (Body slot k)) (and_from (slot == slot) (m == k) (eq-eqb slot slot refl) e))
      | inr e ↦
          let more : suc m ≤ k = above m k least (λ same. true≢false (sym (eq-eqb m k same) ∙ e)) in
          let rest = owed_body slot (suc m) k words more (omega arith) in
          owed_second (Put (Body slot m) word ∷ []) (body_stores slot (suc m) words) (Body slot k) rest
    ]
  where
    above : (m k : ℕ) → m ≤ k → (m ≡ k → ⊥) → suc m ≤ k
    above m k least other = omega (arith, other)

owed_listed : (states : List NewState) (id : ℕ) → is_some (state_at states id) ≡ true → is_some (owed_at (map (λ (s : NewState). Put (State s.id) s.state) states) (State id)) ≡ true
owed_listed [] id there = absurd (false≢true there)
owed_listed (s ∷ states) id there =
    elim (cases_Bool (s.id == id)) [
      | inl e ↦ ap is_some (cond-true (s.id == id) (Some s.state) (owed_at (map (λ (s : NewState). Put (State s.id) s.state) states) (State id)) e)
      | inr e ↦ ap is_some (cond-false (s.id == id) (Some s.state) (owed_at (map (λ (s : NewState). Put (State s.id) s.state) states) (State id)) e) ∙ owed_listed states id (rw e at there)
    ]

pub written_is_owed : (F : Fixed) (slot old : ℕ) (e : Effect) (cell : Cell) → is_live_cell F cell ≡ true → is_written slot e.states cell ≡ true → is_some (owed_at (stores_of F slot old e) cell) ≡ true
written_is_owed F slot old e (Body p k) live written =
    let parts = and_parts (is_player F p) (nat_lt k 5) live in
    let same : slot ≡ p = sym (eqb-true p slot written) in
    owed_first (body_stores slot 0 (words_of e.me)) (Put (State slot) e.me.state ∷ (map (λ (s : NewState). Put (State s.id) s.state) e.states ++ (Link (home F e.me) ∷ []))) (Body p k)
    (subst (λ (n : ℕ). is_some (owed_at (body_stores slot 0 (words_of e.me)) (Body n k)) ≡ true) same (owed_body slot 0 k (words_of e.me) (omega arith) (ltb-true k 5 parts.1)))
written_is_owed F slot old e (State id) live written =
    let states = map (λ (s : NewState). Put (State s.id) s.state) e.states in
    let last = Link (home F e.me) ∷ [] in
    owed_second (body_stores slot 0 (words_of e.me)) (Put (State slot) e.me.state ∷ (states ++ last)) (State id) (elim (or_cases (id == slot) (is_some (state_at e.states id)) written) [
      | inl own ↦ ap is_some (cond-true (slot == id) (Some e.me.state) (owed_at (states ++ last) (State id)) (eq-eqb slot id (sym (eqb-true id slot own))))
      | inr listed ↦ owed_second (Put (State slot) e.me.state ∷ []) (states ++ last) (State id) (owed_first states last (State id) (owed_listed e.states id listed))
    ])

-- ---- each store puts the new value

-- each entry of a list has what each listed id has
pub each_listed : (P : NewState → Type 0) (all states : List NewState) → ((t : NewState) → is_some (state_at states t.id) ≡ true → is_some (state_at all t.id) ≡ true)
    → ((s : NewState) → is_some (state_at all s.id) ≡ true → P s) → AllByRecursion P states
each_listed P all [] more each = tt
each_listed P all (s ∷ states) more each = (
  each s (more s (ap is_some (cond-true (s.id == s.id) (Some s.state) (state_at states s.id) (eq-eqb s.id s.id refl)))),
  each_listed P all states (λ t there. more t (later s t states there)) each,
)
  where
    later : (s t : NewState) (states : List NewState) → is_some (state_at states t.id) ≡ true → is_some (state_at (s ∷ states) t.id) ≡ true
    later s t states there = elim (cases_Bool (s.id == t.id)) [ inl e ↦ rw e refl | inr e ↦ rw e there ]

-- where the ids of new states differ, each new state is the state of its id
new_states : (states : List NewState) (f : ℕ → Rec) → IsDistinct (λ (a b : NewState). a.id == b.id) states
    → AllByRecursion (λ (s : NewState). s.state ≡ (with_new_state states s.id (f s.id)).state) states
new_states [] f apart = tt
new_states (s ∷ states) f apart = (
  ap (λ (r : Rec). r.state) (sym (cond-true (s.id == s.id) (record (f s.id) { state = s.state }) (with_new_state states s.id (f s.id)) (eq-eqb s.id s.id refl))),
  skipped states (IsDistinct-head (λ (a b : NewState). a.id == b.id) s states apart) (new_states states f (IsDistinct-tail (λ (a b : NewState). a.id == b.id) s states apart)),
)
  where
    skipped : (some : List NewState) → AllByRecursion (λ (t : NewState). (s.id == t.id) ≡ false) some
        → AllByRecursion (λ (t : NewState). t.state ≡ (with_new_state states t.id (f t.id)).state) some
        → AllByRecursion (λ (t : NewState). t.state ≡ (with_new_state (s ∷ states) t.id (f t.id)).state) some
    skipped [] differ all = tt
    skipped (t ∷ some) differ all = (
      all.0 ∙ ap (λ (r : Rec). r.state) (sym (cond-false (s.id == t.id) (record (f t.id) { state = s.state }) (with_new_state states t.id (f t.id)) differ.0)),
      skipped some differ.1 all.1,
    )

owes_states : (now : World) (states : List NewState) (rest : List Store) → AllByRecursion (λ (s : NewState). s.state ≡ (now.record_of s.id).state) states → OwesRight now rest
    → OwesRight now (map (λ (s : NewState). Put (State s.id) s.state) states ++ rest)
owes_states now [] rest all right = right
owes_states now (s ∷ states) rest all right = (all.0, owes_states now states rest all.1 right)

-- the stores of an outcome put the values of the world after it
pub owes_outcome : (F : Fixed) (w : World) (c : Command) (old : ℕ) → IsDistinct (λ (a b : NewState). a.id == b.id) (outcome F.effect_of w c).states
    → ((id : ℕ) → is_some (state_at (outcome F.effect_of w c).states id) ≡ true → (id == c.slot) ≡ false)
    → OwesRight (apply F.effect_of w c) (stores_of F c.slot old (outcome F.effect_of w c))
owes_outcome F w c old apart others =
    let e = outcome F.effect_of w c in
    let new = apply F.effect_of w c in
    let me : e.me ≡ new.record_of c.slot = sym (cond-true (c.slot == c.slot) e.me (with_new_state e.states c.slot (w.record_of c.slot)) (eq-eqb c.slot c.slot refl)) in
    let word : (k : ℕ) → nth_word (words_of e.me) k ≡ nth_word (words_of (new.record_of c.slot)) k = λ k. ap (λ (r : Rec). nth_word (words_of r) k) me in (
      word 0,
      (
        word 1,
        (
          word 2,
          (
            word 3,
            (
              word 4,
              (
                ap (λ (r : Rec). r.state) me,
                owes_states new e.states (Link (home F e.me) ∷ []) (moved e.states (each_listed (λ (s : NewState). (s.id == c.slot) ≡ false) e.states e.states (λ t there. there) (λ s there. others s.id there))
                    (new_states e.states w.record_of apart)) tt,
              ),
            ),
          ),
        ),
      ),
    )
  where
    moved : (some : List NewState) → AllByRecursion (λ (s : NewState). (s.id == c.slot) ≡ false) some
        → AllByRecursion (λ (s : NewState). s.state ≡ (with_new_state (outcome F.effect_of w c).states s.id (w.record_of s.id)).state) some
        → AllByRecursion (λ (s : NewState). s.state ≡ ((apply F.effect_of w c).record_of s.id).state) some
    moved [] differ all = tt
    moved (s ∷ some) differ all = (
      all.0 ∙ ap (λ (r : Rec). r.state) (sym (cond-false (s.id == c.slot) (outcome F.effect_of w c).me (with_new_state (outcome F.effect_of w c).states s.id (w.record_of s.id)) differ.0)),
      moved some differ.1 all.1,
    )

-- what is owed of a list is right in another world that gives the same values to its cells
pub owes_still : (now new : World) (stores : List Store) → ((cell : Cell) → is_some (owed_at stores cell) ≡ true → value_in new cell ≡ value_in now cell) → OwesRight now stores → OwesRight new stores
owes_still now new [] same right = tt
owes_still now new (Clear node ∷ stores) same right = owes_still now new stores same right
owes_still now new (Put cell x ∷ stores) same right = (
  right.0 ∙ sym (same cell (ap is_some (cond-true (is_cell cell cell) (Some x) (owed_at stores cell) (is_itself cell)))),
  owes_still now new stores (λ other owed. same other (owed_second (Put cell x ∷ []) stores other owed)) right.1,
)
  where
    is_itself : (cell : Cell) → is_cell cell cell ≡ true
    is_itself (Body p k) = and_from (p == p) (k == k) (eq-eqb p p refl) (eq-eqb k k refl)
    is_itself (State id) = eq-eqb id id refl
owes_still now new (Link node ∷ stores) same right = owes_still now new stores same right
