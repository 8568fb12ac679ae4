-- A word of another player's record is loaded.
use Rattle.std.proofs.Common.{◌≡◌, ℕ, Bool, not, Option, ◌+◌, ◌<◌, true, false, List, [], ◌∷◌, ◌++◌, length, refl, sym, ap, ◌∙◌, subst, inl, inr, Some, arith}
use Rattle.std.specs.Prelude.{◌==◌, ◌||◌, ◌&&◌, nat_lt, is_some, if◌then◌else◌}
use Rattle.std.proofs.lemmas.Bool.{cases_Bool, false≢true, true≢false, eqb-true, eqb-false, eq-eqb, ne_eqb, or_cases, or_left, or_right, or_from, ltb-true, ltb-false, cond-true, cond-false}
use Rattle.entity_recs.specs.declared.rec.Rec.{Rec}
use Rattle.entity_recs.specs.Records.{with_state}
use Rattle.entity_recs.specs.Worlds.{World}
use Rattle.entity_recs.specs.Histories.{Item}
use Rattle.core_steps.specs.Cells.{State, cell_of, word_in, put}
use Rattle.core_steps.specs.Encoding.{words_of, nth_word}
use Rattle.core_steps.specs.Nodes.{Fixed, has}
use Rattle.core_steps.specs.Points.{Point, Loading, Stage, AtReading, stage_of, is_busy, is_settled, is_storing}
use Rattle.core_steps.specs.Points.{is_committed, is_without_effect, stores_owed}
use Rattle.core_steps.specs.Reads.{PlayerRead, View, region_in, record_read, player_at, without_player}
use Rattle.core_steps.specs.Held.{visited_node, leaves_held, holds, held_word}
use Rattle.core_steps.specs.Steps.{Core, loading}
use Rattle.core_steps.specs.Stands.{OwesRight, IsStart, IsLawful, IsHolding, HasOwn, IsCounted, IsUnread, IsReadRight, IsResolved, is_present, part_of, Stands, touches_own}
use Rattle.core_steps.specs.Laws.{LoadedPlayerStands}
use Rattle.core_steps.proofs.Unyielding.{is_yielding, not_giving_up}
use Rattle.core_steps.proofs.Puts.{eqb_sym}
use Rattle.core_steps.proofs.Frames.{busy_lives, stands_with_view}
use Rattle.core_steps.proofs.Giving.{seat_at}
use Rattle.core_steps.proofs.Exclusion.{now_world, SameFive, player_from_words}
use Rattle.core_steps.proofs.Quiet.{quiet_word}
use Rattle.core_steps.proofs.Listing.{loading_listed, at_loading}
use Rattle.core_steps.proofs.Held.{held_words}
use Rattle.core_steps.proofs.Owned.{one_more, the_last, longer, cell_low}

pub without_other : (others : List PlayerRead) (slot v : ℕ) → (v == slot) ≡ false → player_at (without_player slot others) v ≡ player_at others v
without_other [] slot v other = refl
without_other (read ∷ others) slot v other =
    let rest = without_other others slot v other in
    elim (cases_Bool (read.slot == slot)) [
      | inl same ↦
          let away : (read.slot == v) ≡ false = ne_eqb read.slot v (λ e. true≢false (sym (eq-eqb v slot (sym e ∙ eqb-true read.slot slot same)) ∙ other)) in
          ap (λ (rs : List PlayerRead). player_at rs v) (cond-false (not (read.slot == slot)) (read ∷ without_player slot others) (without_player slot others) (ap not same)) ∙ rest
          ∙ sym (cond-false (read.slot == v) (Some read.words) (player_at others v) away)
      | inr differs ↦
          ap (λ (rs : List PlayerRead). player_at rs v) (cond-true (not (read.slot == slot)) (read ∷ without_player slot others) (without_player slot others) (ap not differs))
          ∙ kept (read.slot == v) (Some read.words) (player_at (without_player slot others) v) (player_at others v) rest
    ]
  where
    kept : (b : Bool) (x y z : Option (List ℕ)) → y ≡ z → (if b then x else y) ≡ (if b then x else z)
    kept true x y z e = refl
    kept false x y z e = e

other_player : (others : List PlayerRead) (slot : ℕ) (words : List ℕ) (v : ℕ) → (v == slot) ≡ false
    → player_at (record { slot = slot; words = words } ∷ without_player slot others) v ≡ player_at others v
other_player others slot words v other =
    cond-false (slot == v) (Some words) (player_at (without_player slot others) v) (eqb_sym v slot other) ∙ without_other others slot v other

this_player : (others : List PlayerRead) (slot : ℕ) (words : List ℕ) (v : ℕ) → (v == slot) ≡ true
    → player_at (record { slot = slot; words = words } ∷ without_player slot others) v ≡ Some words
this_player others slot words v same =
    cond-true (slot == v) (Some words) (player_at (without_player slot others) v) (eq-eqb slot v (sym (eqb-true v slot same)))

-- the words of the present load are the player's words, also with one more
pub part_words : (F : Fixed) (core : Core) (history : List Item) (now : World) (i node p : ℕ) (part players plan : List ℕ) → Stands F core history now
    → (core.view i).point ≡ Loading node part (p ∷ players) plan
    → (k : ℕ) → k < length (part ++ word_in core.words (cell_of p (length part)) ∷ []) → k < 5 → core.words.body p k ≡ nth_word (part ++ word_in core.words (cell_of p (length part)) ∷ []) k
part_words F core history now i node p part players plan is e k below five =
    let here = seat_at F core history now i (Loading node part (p ∷ players) plan) is e in
    let n = length part in
    let x = word_in core.words (cell_of p n) in
    let long = longer part x in
    let same : part_of (Loading node part (p ∷ players) plan) p ≡ part = cond-true (p == p) part [] (eq-eqb p p refl) in
    elim (cases_Bool (nat_lt k n)) [
      | inl old ↦
          let shorter = ltb-true k n old in
          here.current.same_part p k (subst (λ (words : List ℕ). k < length words) (sym same) shorter) five
          ∙ ap (λ (words : List ℕ). nth_word words k) same ∙ sym (one_more part x k shorter)
      | inr new ↦
          let last : n ≡ k = let least = ltb-false k n new in omega arith in
          subst (λ (m : ℕ). core.words.body p m ≡ nth_word (part ++ x ∷ []) m) last
          (sym (the_last part x ∙ ap (word_in core.words) (cell_low p n (omega arith))))
    ]

-- a player that is loaded whole was loaded as it is in the run, where it touches the region
whole_player : (F : Fixed) (core : Core) (history : List Item) (now : World) (i node p : ℕ) (part players plan : List ℕ) → IsLawful F → IsStart F → Stands F core history now
    → (core.view i).point ≡ Loading node part (p ∷ players) plan → length (part ++ word_in core.words (cell_of p (length part)) ∷ []) ≡ 6
    → (touches_own (region_in F (core.view i).cmd (core.view i).own) (record_read p (part ++ word_in core.words (cell_of p (length part)) ∷ []))
    || touches_own (region_in F (core.view i).cmd (core.view i).own) (now.record_of p)) ≡ true
    → record_read p (part ++ word_in core.words (cell_of p (length part)) ∷ []) ≡ now.record_of p
whole_player F core history now i node p part players plan lawful start is e six touches =
    let view = core.view i in
    let region = region_in F view.cmd view.own in
    let n = length part in
    let x = word_in core.words (cell_of p n) in
    let words = part ++ x ∷ [] in
    let long = longer part x in
    let five : n ≡ 5 = omega arith in
    let load = held_words F core history now i node p part players plan lawful start is e in
    let world = now_world F core history now lawful start is in
    let settled : is_settled (stage_of view.point) ≡ true = ap (λ (q : Point). is_settled (stage_of q)) e in
    let matches : (k : ℕ) → k < 5 → nth_word words k ≡ nth_word (words_of (now.record_of p)) k =
    λ k below. sym (part_words F core history now i node p part players plan is e k (omega arith) below) ∙ load.words k below in
    let same : SameFive words (words_of (now.record_of p)) = record {
      zeroth = matches 0 (omega arith);
      first = matches 1 (omega arith);
      second = matches 2 (omega arith);
      third = matches 3 (omega arith);
      fourth = matches 4 (omega arith);
    } in
    let last : nth_word words 5 ≡ core.words.state p =
    subst (λ (m : ℕ). nth_word words m ≡ core.words.state p) five
    (the_last part x ∙ ap (λ (m : ℕ). word_in core.words (cell_of p m)) five) in
    let made : record_read p words ≡ with_state (now.record_of p) (nth_word words 5) = player_from_words F now p (nth_word words 5) words lawful world load.slot load.live same in
    let touching : touches_own region (now.record_of p) ≡ true =
    elim (or_cases (touches_own region (record_read p words)) (touches_own region (now.record_of p)) touches) [
      | inl loaded ↦ subst (λ (r : Rec). touches_own region r ≡ true) made loaded
      | inr there ↦ there
    ] in
    let state = quiet_word F core history now i (State p) lawful start is settled load.live touching in
    made ∙ ap (with_state (now.record_of p)) (last ∙ state)

-- what holds of the words that were loaded holds of the same words
read_same : (F : Fixed) (now : World) (view : View) (q p : ℕ) (loaded words : List ℕ) → q ≡ p → loaded ≡ words
    → (touches_own (region_in F view.cmd view.own) (record_read q loaded) || touches_own (region_in F view.cmd view.own) (now.record_of q)) ≡ true
    → ((touches_own (region_in F view.cmd view.own) (record_read p words) || touches_own (region_in F view.cmd view.own) (now.record_of p)) ≡ true → record_read p words ≡ now.record_of p)
    → record_read q loaded ≡ now.record_of q
read_same F now view q p loaded words same equal touches known =
    ap (λ (n : ℕ). record_read n loaded) same ∙ ap (record_read p) equal
    ∙ known (ap (λ (ws : List ℕ). touches_own (region_in F view.cmd view.own) (record_read p ws) || touches_own (region_in F view.cmd view.own) (now.record_of p)) (sym equal)
    ∙ ap (λ (n : ℕ). touches_own (region_in F view.cmd view.own) (record_read n loaded) || touches_own (region_in F view.cmd view.own) (now.record_of n)) (sym same) ∙ touches)
    ∙ ap now.record_of (sym same)

pub loaded_player_stands : LoadedPlayerStands
loaded_player_stands F core history now i node p part players plan lawful start e is =
    let view = core.view i in
    let seat = is.seats i in
    let old = Loading node part (p ∷ players) plan in
    let here = seat_at F core history now i old is e in
    let x = word_in core.words (cell_of p (length part)) in
    let words = part ++ x ∷ [] in
    let long = longer part x in
    let stage : stage_of view.point ≡ AtReading = ap stage_of e in
    let busy : is_busy (stage_of view.point) ≡ true = ap is_busy stage in
    let settled : is_settled (stage_of view.point) ≡ true = ap is_settled stage in
    let slot = view.cmd.slot in
    let short = here.at.load.partly in
    let whole_view = record view { others = record { slot = p; words = words } ∷ without_player p view.others; point = loading F view node players plan } in
    let part_view = record view { point = Loading node words (p ∷ players) plan } in
    elim (cases_Bool (length words == 6)) [
      | inl six ↦
          let others = record { slot = p; words = words } ∷ without_player p view.others in
          let point = loading F view node players plan in
          let listed = loading_listed F view node players plan in
          let same_stage : stage_of point ≡ stage_of view.point = listed.stage ∙ sym stage in
          let long_six = eqb-true (length words) 6 six in
          let same_holds : (v : ℕ) → holds F point view.wanted v ≡ holds F view.point view.wanted v =
          λ v. ap (λ (nodes : List ℕ). has nodes v || has (leaves_held point view.wanted) v) listed.inner
          ∙ ap (λ (nodes : List ℕ). has (visited_node F node) v || has nodes v) (listed.leaves view.wanted)
          ∙ ap (λ (q : Point). holds F q view.wanted v) (sym e) in
          subst (λ (v : View). Stands F (record core { view = put i v core.view }) history now) (sym (cond-true (length words == 6) whole_view part_view six))
          (stands_with_view F core history now i whole_view is (record {
            lives = busy_lives core.view i is.numbers busy;
            keeps = record { live = refl; log = refl; made = refl; ended = refl };
            seat = record {
              named = λ v held. seat.named v (sym (same_holds v) ∙ held) ∙ ap (λ (s : Stage). held_word F i s view.wanted v) (sym same_stage);
              holding = subst (λ (inner : List ℕ). IsHolding F view.wanted (leaves_held point view.wanted) inner) (sym listed.inner)
                  (subst (λ (leaves : List ℕ). IsHolding F view.wanted leaves (visited_node F node)) (sym (listed.leaves view.wanted)) here.holding);
              counted = subst (IsCounted core.words.commits view.seen view.room view.log) (sym same_stage) seat.counted;
              hand = λ _. seat.hand busy;
              own = subst (λ (s : Stage). HasOwn F now view.cmd s view.own view.wanted) (sym same_stage) seat.own;
              unread = subst (λ (s : Stage). IsUnread s view.own view.again view.lists others view.states view.effect) (sym listed.stage) (record {
                no_own = λ idle. absurd (true≢false idle);
                no_again = λ before. absurd (false≢true before);
                no_lists = λ before. absurd (false≢true before);
                no_others = λ before. absurd (false≢true before);
                no_states = λ before. absurd (false≢true before);
                no_effect = λ _. seat.unread.no_effect (ap is_without_effect stage);
              });
              at = at_loading F (record view { others = others }) node players plan (record {
                read = record {
                  planned = here.at.read.planned;
                  read = here.at.read.read;
                  loaded = λ v word q read below bit other none. elim (cases_Bool (q == p)) [
                    | inl same ↦ ap is_some (this_player view.others p words q same)
                    | inr differs ↦ ap is_some (other_player view.others p words q differs)
                        ∙ here.at.read.loaded v word q read below bit other (or_from (p == q) (has players q) (eqb_sym q p differs) none)
                  ];
                  whole = λ q loaded read. elim (cases_Bool (q == p)) [
                    | inl same ↦ let equal : words ≡ loaded = let there = sym (this_player view.others p words q same) ∙ read in cc in ap length (sym equal) ∙ long_six
                    | inr differs ↦ here.at.read.whole q loaded (sym (other_player view.others p words q differs) ∙ read)
                  ];
                };
                planned = here.at.load.planned;
                each = λ q listed_q. here.at.load.each q (or_right _ _ listed_q);
              });
              current = record {
                same_list = λ _ v word read held. here.current.same_list refl v word read (elim (or_cases (has view.wanted v) (is_present point v) held) [
                  | inl leaf ↦ or_left _ _ leaf
                  | inr present ↦ or_right _ _ (eq-eqb node v (sym (listed.present v present)))
                ]);
                same_part = λ q k below. let none = listed.part q in absurd (omega (arith, below, none));
              };
              right = subst (λ (s : Stage). IsReadRight F now view.cmd s view.own view.again view.lists others view.states) (sym same_stage) (record {
                same_again = seat.right.same_again;
                whole = seat.right.whole;
                same_player = λ _ q loaded player read touches. elim (cases_Bool (q == p)) [
                  | inl same ↦
                      let equal : words ≡ loaded = let there = sym (this_player view.others p words q same) ∙ read in cc in
                      let at : q ≡ p = eqb-true q p same in
                      read_same F now view q p loaded words at (sym equal) touches
                      (whole_player F core history now i node p part players plan lawful start is e long_six)
                  | inr differs ↦ seat.right.same_player settled q loaded player (sym (other_player view.others p words q differs) ∙ read) touches
                ];
                same_state = seat.right.same_state;
                has_its_bit = seat.right.has_its_bit;
              });
              resolved = subst (λ (s : Stage). IsResolved F now view.cmd s view.effect) (sym same_stage) seat.resolved;
              giving_up = not_giving_up (ap is_yielding listed.stage);
              committed = record {
                item = λ done. absurd (false≢true (ap is_committed (sym listed.stage) ∙ done));
                owed = subst (OwesRight now) (sym listed.owes) tt;
                linked = λ storing. absurd (false≢true (ap is_storing (sym listed.stage) ∙ storing));
              };
            };
            same = same_holds;
            slots = λ j other _. (is.apart i j (eqb_sym j i other)).slots busy;
            owes = listed.owes ∙ sym (ap stores_owed e);
            stores = λ q. ap (λ (s : Stage). is_storing s && (slot == q)) same_stage;
          }))
      | inr not_six ↦
          let differs = eqb-false (length words) 6 not_six in
          let point = Loading node words (p ∷ players) plan in
          let same_holds : (v : ℕ) → holds F point view.wanted v ≡ holds F view.point view.wanted v = λ v. ap (λ (q : Point). holds F q view.wanted v) (sym e) in
          subst (λ (v : View). Stands F (record core { view = put i v core.view }) history now) (sym (cond-false (length words == 6) whole_view part_view not_six))
          (stands_with_view F core history now i part_view is (record {
            lives = busy_lives core.view i is.numbers busy;
            keeps = record { live = refl; log = refl; made = refl; ended = refl };
            seat = record {
              named = λ v held. seat.named v (sym (same_holds v) ∙ held) ∙ ap (λ (s : Stage). held_word F i s view.wanted v) stage;
              holding = here.holding;
              counted = subst (IsCounted core.words.commits view.seen view.room view.log) stage seat.counted;
              hand = λ _. seat.hand busy;
              own = subst (λ (s : Stage). HasOwn F now view.cmd s view.own view.wanted) stage seat.own;
              unread = subst (λ (s : Stage). IsUnread s view.own view.again view.lists view.others view.states view.effect) stage seat.unread;
              at = record {
                read = here.at.read;
                load = record { partly = shorter (length part) (length words) long short differs; left = omega arith; planned = here.at.load.planned; each = here.at.load.each };
              };
              current = record {
                same_list = here.current.same_list;
                same_part = λ q k below five. elim (cases_Bool (p == q)) [
                  | inl same ↦
                      let all : part_of point q ≡ words = cond-true (p == q) words [] same in
                      let at : p ≡ q = eqb-true p q same in
                      subst (λ (m : ℕ). core.words.body m k ≡ nth_word (part_of point q) k) at
                      (part_words F core history now i node p part players plan is e k (subst (λ (ws : List ℕ). k < length ws) all below) five
                      ∙ ap (λ (ws : List ℕ). nth_word ws k) (sym all))
                  | inr other ↦ let none : part_of point q ≡ [] = cond-false (p == q) words [] other in let empty = ap length none in absurd (omega (arith, below, empty))
                ];
              };
              right = subst (λ (s : Stage). IsReadRight F now view.cmd s view.own view.again view.lists view.others view.states) stage seat.right;
              resolved = subst (λ (s : Stage). IsResolved F now view.cmd s view.effect) stage seat.resolved;
              giving_up = not_giving_up refl;
              committed = record { item = λ done. absurd (false≢true done); owed = tt; linked = λ storing. absurd (false≢true storing) };
            };
            same = same_holds;
            slots = λ j other _. (is.apart i j (eqb_sym j i other)).slots busy;
            owes = sym (ap stores_owed e);
            stores = λ q. ap (λ (s : Stage). is_storing s && (slot == q)) (sym stage);
          }))
    ]
  where
    shorter : (n m : ℕ) → m ≡ n + 1 → n < 6 → (m ≡ 6 → ⊥) → m < 6
    shorter n m e below differs = omega arith
