-- A plain hand makes the store that comes next.
use Rattle.std.proofs.Common.{◌≡◌, ℕ, suc, ◌+◌, ◌<◌, ◌≤◌, List, [], ◌∷◌, ◌++◌, map, length, slice_index_or, drop, refl, sym, ap, ◌∙◌, subst, Option, Some, arith}
use Rattle.std.proofs.lemmas.List.{length-map, drop_more, drop_all}
use Rattle.entity_recs.specs.declared.effect.NewState.{NewState}
use Rattle.entity_recs.specs.declared.effect.Effect.{Effect}
use Rattle.core_steps.specs.Cells.{Body, State}
use Rattle.core_steps.specs.Encoding.{words_of}
use Rattle.core_steps.specs.Nodes.{Fixed, home}
use Rattle.core_steps.specs.Points.{Point, Releasing, Store, Clear, Put, Link, body_stores, stores_of, is_busy}
use Rattle.core_steps.specs.Points.{stage_of, stores_owed}
use Rattle.core_steps.specs.Reads.{View}
use Rattle.core_steps.specs.Steps.{storing}
use Rattle.core_steps.specs.Machine.{Next, StoreWord}
use Rattle.core_seats.specs.Going.{view_found, word_stored}
use Rattle.core_seats.specs.Nexts.{the_next}
use Rattle.atomic_table.specs.Seated.{TableId}
use Rattle.ruled_words.specs.Passes.{PassView, IsPassOf, next_of_pass, pass_after, word_after}
use Rattle.ruled_words.specs.Hands.{IsPlain, IsHandOf}
use Rattle.ruled_words.specs.Straight.{in_view}
use Rattle.ruled_words.specs.Writing.{nodes_held, owed_beyond, state_store}
use Rattle.ruled_words.proofs.LoadedWords.{plain_is, plain_after, plain_next}
use Rattle.ruled_words.proofs.PlainHands.{left_next, after_next_is}

-- the view with these stores owed
abbrev pub storing_view : View → List ℕ → List Store → View
storing_view view nodes stores = record view { point = storing nodes stores }

module _ (F : Fixed) (p : PassView) (plain : IsPlain p) (store : Store) (at : p.view.point ≡ storing (nodes_held p.view.point) (store ∷ owed_beyond 1 p.view.point)) where
  abbrev pub store_step : Next
  store_step = StoreWord (nodes_held p.view.point) store (owed_beyond 1 p.view.point)

  pub store_is : next_of_pass F p ≡ Some store_step
  store_is = plain_next F p _ plain at

  pub store_left : (found : ℕ) → word_after F p found ≡ word_stored p.view.cmd.slot store found
  store_left found = left_next F p store_step store_is found

  pub store_blind : (found word : ℕ) → view_found F p.view (the_next (next_of_pass F p)) found ≡ view_found F p.view (the_next (next_of_pass F p)) word
  store_blind found word = ap (λ (o : Option Next). view_found F p.view (the_next o) found) store_is ∙ sym (ap (λ (o : Option Next). view_found F p.view (the_next o) word) store_is)

  pub store_after : (new : PassView) (found : ℕ) → new ≡ pass_after F (the_next (next_of_pass F p)) found p
      → new ≡ in_view p (storing_view p.view (nodes_held p.view.point) (owed_beyond 1 p.view.point))
  store_after new found is = is ∙ after_next_is F p store_step store_is found ∙ plain_after F p store_step found plain

-- the slot of a command in hand is small
pub slot_small : (F : Fixed) (passes : ℕ) (table : TableId) (p : PassView) (nodes : List ℕ) (store : Store) (stores : List Store) → IsPassOf F passes table p → p.view.point ≡ storing nodes (store ∷ stores) → p.view.cmd.slot < 64
slot_small F passes table p nodes store stores own at =
    (own.sound_sight.sound.hand (ap (λ (q : Point). is_busy (stage_of q)) at)).command.slot

-- ---- stores one after another

held_storing : (nodes : List ℕ) (stores : List Store) → nodes_held (storing nodes stores) ≡ nodes
held_storing nodes [] = refl
held_storing nodes (store ∷ stores) = refl

owed_storing : (nodes : List ℕ) (stores : List Store) → stores_owed (storing nodes stores) ≡ stores
owed_storing nodes [] = refl
owed_storing nodes (store ∷ stores) = refl

drop_front : (xs ys : List Store) → drop (length xs) (xs ++ ys) ≡ ys
drop_front [] ys = refl
drop_front (x ∷ xs) ys = drop_front xs ys

module _ (nodes : List ℕ) (front rest : List Store) (n : ℕ) (many : n ≡ length front) (point : Point) (at : point ≡ storing nodes (front ++ rest)) where
  -- what is owed after these stores
  pub owed_rest : owed_beyond n point ≡ rest
  owed_rest =
      ap (λ (q : Point). owed_beyond n q) at ∙ ap (λ (stores : List Store). drop n stores) (owed_storing nodes (front ++ rest))
      ∙ ap (λ (k : ℕ). drop k (front ++ rest)) many ∙ drop_front front rest

  pub held_there : nodes_held point ≡ nodes
  held_there = ap nodes_held at ∙ held_storing nodes (front ++ rest)

  -- these stores come next
  pub stores_next : point ≡ storing (nodes_held point) (front ++ owed_beyond n point)
  stores_next = at ∙ ap (λ (ns : List ℕ). storing ns (front ++ rest)) (sym held_there) ∙ ap (λ (stores : List Store). storing (nodes_held point) (front ++ stores)) (sym owed_rest)

  -- where they were made
  pub stores_made : storing (nodes_held point) (owed_beyond n point) ≡ storing nodes rest
  stores_made = ap (λ (ns : List ℕ). storing ns (owed_beyond n point)) held_there ∙ ap (storing nodes) owed_rest

-- from the hand at the start some stores were made, and these are owed
pub record HasStored (F : Fixed) (passes : ℕ) (table : TableId) (start now : PassView) (stores : List Store) : Type 0 where
  pub own : IsHandOf F passes table now
  pub now_is : now ≡ in_view start (storing_view start.view (nodes_held start.view.point) stores)

module _ (F : Fixed) (passes : ℕ) (table : TableId) (start : PassView) where
  pub stored_none : (stores : List Store) → IsHandOf F passes table start → start.view.point ≡ storing (nodes_held start.view.point) stores → HasStored F passes table start start stores
  stored_none stores own at = record {
    own = own;
    now_is = plain_is start own.plain ∙ ap (λ (q : Point). in_view start (record start.view { point = q })) at;
  }

  module _ (now : PassView) (front rest : List Store) (n : ℕ) (many : n ≡ length front) (is : HasStored F passes table start now (front ++ rest)) where
    stored_at : now.view.point ≡ storing (nodes_held start.view.point) (front ++ rest)
    stored_at = ap (λ (q : PassView). q.view.point) is.now_is

    -- the first of the stores that are owed come next
    pub stored_next : now.view.point ≡ storing (nodes_held now.view.point) (front ++ owed_beyond n now.view.point)
    stored_next = stores_next (nodes_held start.view.point) front rest n many now.view.point stored_at

    -- they were made
    pub stored_more : (new : PassView) → IsHandOf F passes table new → new ≡ in_view now (storing_view now.view (nodes_held now.view.point) (owed_beyond n now.view.point)) → HasStored F passes table start new rest
    stored_more new own made = record {
      own = own;
      now_is =
          made ∙ ap (λ (q : Point). in_view now (record now.view { point = q })) (stores_made (nodes_held start.view.point) front rest n many now.view.point stored_at)
          ∙ ap (λ (q : PassView). in_view q (storing_view q.view (nodes_held start.view.point) rest)) is.now_is;
    }

-- ---- the words of the own record, and the new states

module _ (F : Fixed) (passes : ℕ) (table : TableId) (start : PassView) (rest : List Store) (now : PassView) where
  -- the stores of a player's words are made from the k-th on
  module _ (slot k : ℕ) (words : List ℕ) (is : HasStored F passes table start now (body_stores slot k (drop k words) ++ rest)) where
    abbrev words_left : List Store
    words_left = body_stores slot (k + 1) (drop (k + 1) words) ++ rest

    word_first : k < length words → HasStored F passes table start now (Put (Body slot k) (slice_index_or words k 0) ∷ words_left)
    word_first below =
        let next : suc k ≡ k + 1 = omega arith in
        subst (HasStored F passes table start now)
        (ap (λ (ws : List ℕ). body_stores slot k ws ++ rest) (drop_more words k 0 below)
        ∙ ap (λ (n : ℕ). Put (Body slot k) (slice_index_or words k 0) ∷ (body_stores slot n (drop (k + 1) words) ++ rest)) next) is

    pub word_next : k < length words → now.view.point ≡ storing (nodes_held now.view.point) (Put (Body slot k) (slice_index_or words k 0) ∷ owed_beyond 1 now.view.point)
    word_next below = stored_next F passes table start now (Put (Body slot k) (slice_index_or words k 0) ∷ []) words_left 1 refl (word_first below)

    pub word_made : k < length words → (new : PassView) → IsHandOf F passes table new → new ≡ in_view now (storing_view now.view (nodes_held now.view.point) (owed_beyond 1 now.view.point))
        → HasStored F passes table start new words_left
    word_made below new own made = stored_more F passes table start now (Put (Body slot k) (slice_index_or words k 0) ∷ []) words_left 1 refl (word_first below) new own made

    pub words_made : length words ≤ k → now ≡ in_view start (storing_view start.view (nodes_held start.view.point) rest)
    words_made over = is.now_is ∙ ap (λ (ws : List ℕ). in_view start (storing_view start.view (nodes_held start.view.point) (body_stores slot k ws ++ rest))) (drop_all k words over)

  -- the stores of new states are made from the i-th on
  module _ (i : ℕ) (states : List NewState) (is : HasStored F passes table start now (map state_store (drop i states) ++ rest)) where
    abbrev states_left : List Store
    states_left = map state_store (drop (i + 1) states) ++ rest

    state_first : (d : NewState) → i < length states → HasStored F passes table start now (state_store (slice_index_or states i d) ∷ states_left)
    state_first d below = subst (HasStored F passes table start now) (ap (λ (xs : List NewState). map state_store xs ++ rest) (drop_more states i d below)) is

    pub state_next : (d : NewState) → i < length states → now.view.point ≡ storing (nodes_held now.view.point) (state_store (slice_index_or states i d) ∷ owed_beyond 1 now.view.point)
    state_next d below = stored_next F passes table start now (state_store (slice_index_or states i d) ∷ []) states_left 1 refl (state_first d below)

    pub state_made : (d : NewState) → i < length states → (new : PassView) → IsHandOf F passes table new → new ≡ in_view now (storing_view now.view (nodes_held now.view.point) (owed_beyond 1 now.view.point))
        → HasStored F passes table start new states_left
    state_made d below new own made = stored_more F passes table start now (state_store (slice_index_or states i d) ∷ []) states_left 1 refl (state_first d below) new own made

    pub states_made : length states ≤ i → now ≡ in_view start (storing_view start.view (nodes_held start.view.point) rest)
    states_made over = is.now_is ∙ ap (λ (xs : List NewState). in_view start (storing_view start.view (nodes_held start.view.point) (map state_store xs ++ rest))) (drop_all i states over)

-- ---- all stores of an effect

module _ (F : Fixed) (passes : ℕ) (table : TableId) (start : PassView) (slot old new : ℕ) (e : Effect) (own : IsHandOf F passes table start)
    (is_new : new ≡ home F e.me) (at : start.view.point ≡ storing (nodes_held start.view.point) (stores_of F slot old e)) where
  abbrev after_states : List Store
  after_states = Link (home F e.me) ∷ []

  abbrev after_state : List Store
  after_state = map state_store e.states ++ after_states

  abbrev after_words : List Store
  after_words = Put (State slot) e.me.state ∷ after_state

  abbrev after_clear : List Store
  after_clear = body_stores slot 0 (words_of e.me) ++ after_words

  all_left : HasStored F passes table start start (stores_of F slot old e)
  all_left = stored_none F passes table start (stores_of F slot old e) own at

  pub clear_comes : start.view.point ≡ storing (nodes_held start.view.point) (Clear old ∷ owed_beyond 1 start.view.point)
  clear_comes = stored_next F passes table start start (Clear old ∷ []) after_clear 1 refl all_left

  module _ (one : PassView) (own_one : IsHandOf F passes table one) (made_one : one ≡ in_view start (storing_view start.view (nodes_held start.view.point) (owed_beyond 1 start.view.point)))
      (words : List ℕ) (are : words ≡ words_of e.me) where
    cleared : HasStored F passes table start one (body_stores slot 0 words ++ after_words)
    cleared = subst (λ (ws : List ℕ). HasStored F passes table start one (body_stores slot 0 ws ++ after_words)) (sym are)
        (stored_more F passes table start start (Clear old ∷ []) after_clear 1 refl all_left one own_one made_one)

    five : 5 ≡ length (body_stores slot 0 words)
    five = sym (ap (λ (ws : List ℕ). length (body_stores slot 0 ws)) are)

    pub words_come : one.view.point ≡ storing (nodes_held one.view.point) (body_stores slot 0 words ++ owed_beyond 5 one.view.point)
    words_come = stored_next F passes table start one (body_stores slot 0 words) after_words 5 five cleared

    module _ (two : PassView) (own_two : IsHandOf F passes table two) (made_two : two ≡ in_view one (storing_view one.view (nodes_held one.view.point) (owed_beyond 5 one.view.point)))
        (id : ℕ) (is_id : id ≡ slot) where
      stored_words : HasStored F passes table start two (Put (State id) e.me.state ∷ after_state)
      stored_words = subst (λ (n : ℕ). HasStored F passes table start two (Put (State n) e.me.state ∷ after_state)) (sym is_id)
          (stored_more F passes table start one (body_stores slot 0 words) after_words 5 five cleared two own_two made_two)

      pub state_comes : two.view.point ≡ storing (nodes_held two.view.point) (Put (State id) e.me.state ∷ owed_beyond 1 two.view.point)
      state_comes = stored_next F passes table start two (Put (State id) e.me.state ∷ []) after_state 1 refl stored_words

      module _ (three : PassView) (own_three : IsHandOf F passes table three) (made_three : three ≡ in_view two (storing_view two.view (nodes_held two.view.point) (owed_beyond 1 two.view.point)))
          (states : List NewState) (are_states : states ≡ e.states) where
        stored_state : HasStored F passes table start three (map state_store states ++ after_states)
        stored_state = subst (λ (xs : List NewState). HasStored F passes table start three (map state_store xs ++ after_states)) (sym are_states)
            (stored_more F passes table start two (Put (State id) e.me.state ∷ []) after_state 1 refl stored_words three own_three made_three)

        pub states_come : three.view.point ≡ storing (nodes_held three.view.point) (map state_store states ++ owed_beyond (length states) three.view.point)
        states_come = stored_next F passes table start three (map state_store states) after_states (length states) (sym (length-map states state_store)) stored_state

        module _ (four : PassView) (own_four : IsHandOf F passes table four) (made_four : four ≡ in_view three (storing_view three.view (nodes_held three.view.point) (owed_beyond (length states) three.view.point))) where
          stored_states : HasStored F passes table start four (Link new ∷ [])
          stored_states = subst (λ (n : ℕ). HasStored F passes table start four (Link n ∷ [])) (sym is_new)
              (stored_more F passes table start three (map state_store states) after_states (length states) (sym (length-map states state_store)) stored_state four own_four made_four)

          pub link_comes : four.view.point ≡ storing (nodes_held four.view.point) (Link new ∷ owed_beyond 1 four.view.point)
          link_comes = stored_next F passes table start four (Link new ∷ []) [] 1 refl stored_states

          pub same_slot : slot ≡ start.view.cmd.slot → slot ≡ four.view.cmd.slot
          same_slot is = is ∙ sym (ap (λ (q : PassView). q.view.cmd.slot) stored_states.now_is)

          pub all_stored : (five : PassView) → IsHandOf F passes table five → five ≡ in_view four (storing_view four.view (nodes_held four.view.point) (owed_beyond 1 four.view.point))
              → five ≡ in_view start (record start.view { point = Releasing (nodes_held start.view.point) })
          all_stored five own_five made_five = (stored_more F passes table start four (Link new ∷ []) [] 1 refl stored_states five own_five made_five).now_is
