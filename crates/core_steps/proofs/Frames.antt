-- What a step leaves that changes the view of one seat and the words of nodes.
use Rattle.std.proofs.Common.{◌≡◌, ℕ, zero, suc, ◌<◌, ◌≤◌, Bool, true, false, List, refl, sym, ap, ◌∙◌, subst, inl, inr, Option, Some, None}
use Rattle.std.specs.Prelude.{◌==◌, All, ◌||◌}
use Rattle.std.specs.List.Sorted.{IsPermutation}
use Rattle.std.proofs.lemmas.Bool.{cases_Bool, eqb-true, true≢false, false≢true, false_from_ne_true}
use Rattle.entity_recs.specs.Worlds.{World}
use Rattle.entity_recs.specs.Histories.{Item}
use Rattle.core_steps.specs.Cells.{Words, Cell, put}
use Rattle.core_steps.specs.Nodes.{Fixed, nodes_of}
use Rattle.core_steps.specs.Points.{Store, stage_of, is_busy, stores_owed}
use Rattle.core_steps.specs.Reads.{View, Ended, spent}
use Rattle.core_steps.specs.Held.{holds}
use Rattle.core_steps.specs.Steps.{Core}
use Rattle.core_steps.specs.Stands.{owed_at, IsLogWithin, is_ended, log_of, items_below, items_of, IsNumbered, SeatStands, SeatsApart, is_storing_for, Stands}
use Rattle.core_steps.proofs.Puts.{each_put, put_same, put_other, kept_put, eqb_sym}

-- a view keeps its log and what it says of numbers
pub record KeepsLog (new old : View) : Type 0 where
  pub live : new.live ≡ old.live
  pub log : new.log ≡ old.log
  pub made : new.made ≡ old.made
  pub ended : new.ended ≡ old.ended

none_owed : (o other : Option ℕ) (x : ℕ) → ((y : ℕ) → o ≡ Some y → other ≡ None) → other ≡ Some x → o ≡ None
none_owed None other x is owed = refl
none_owed (Some y) other x is owed = let none = is y refl in cc

-- two seats are apart either way round
pub apart_sym : (F : Fixed) (a b : View) → SeatsApart F a b → SeatsApart F b a
apart_sym F a b is = record {
  nodes = λ node held. false_from_ne_true _ (λ other. true≢false (sym held ∙ is.nodes node other));
  slots = λ busy other. eqb_sym a.cmd.slot b.cmd.slot (is.slots other busy);
  cells = λ cell x owed. none_owed (owed_at (stores_owed a.point) cell) (owed_at (stores_owed b.point) cell) x (λ y e. is.cells cell y e) owed;
}

-- all seats are apart where one has a new view that is apart from the others
pub apart_put : (F : Fixed) (view : ℕ → View) (i : ℕ) (new : View) → ((j k : ℕ) → (j == k) ≡ false → SeatsApart F (view j) (view k))
    → ((j : ℕ) → (j == i) ≡ false → SeatsApart F new (view j)) → (j k : ℕ) → (j == k) ≡ false → SeatsApart F (put i new view j) (put i new view k)
apart_put F view i new old here j k differ =
    each_put (λ (m : ℕ) (x : View). (m == k) ≡ false → SeatsApart F x (put i new view k)) i new view
    (λ other. subst (λ (y : View). SeatsApart F new y) (sym (put_other i k new view (eqb_sym i k other))) (here k (eqb_sym i k other)))
    (λ m not_i other. each_put (λ (n : ℕ) (y : View). (m == n) ≡ false → SeatsApart F (view m) y) i new view
    (λ _. apart_sym F new (view m) (here m not_i)) (λ n _ apart. old m n apart) k other)
    j differ

-- the logs of the same numbers are the same
pub items_same : (n : ℕ) (f g : ℕ → List Item) → ((k : ℕ) → f k ≡ g k) → items_below n f ≡ items_below n g
unfolding items_below
items_same zero f g same = refl
items_same (suc n) f g same = let rest = items_same n f g same in let here = same n in cc

-- views with the same logs
pub record SameLogs (view other : ℕ → View) : Type 0 where
  pub live : (n : ℕ) → (view n).live ≡ (other n).live
  pub log : (n : ℕ) → (view n).log ≡ (other n).log
  pub made : (view 0).made ≡ (other 0).made
  pub ended : (view 0).ended ≡ (other 0).ended

pub log_same : (view other : ℕ → View) → SameLogs view other → (n : ℕ) → log_of view n ≡ log_of other n
log_same view other same n = rw (same.live n, same.log n, same.ended) refl

pub items_of_same : (view other : ℕ → View) → SameLogs view other → items_of view ≡ items_of other
items_of_same view other same =
    ap (λ (m : ℕ). items_below m (log_of view)) same.made ∙ items_same (other 0).made (log_of view) (log_of other) (log_same view other same)

-- numbers are the same where logs are
pub numbered_same : (view other : ℕ → View) → SameLogs view other → ((n : ℕ) → (view n).live ≡ false → view n ≡ spent) → IsNumbered other → IsNumbered view
numbered_same view other same spends is = record {
  first = same.live 0 ∙ is.first;
  live = λ n lives. subst (λ (m : ℕ). n < m) (sym same.made) (is.live n (sym (same.live n) ∙ lives));
  ended = λ n ends. subst (λ (m : ℕ). n < m) (sym same.made) (is.ended n (ap (λ (es : List Ended). is_ended es n) (sym same.ended) ∙ ends));
  differ = λ n lives. ap (λ (es : List Ended). is_ended es n) same.ended ∙ is.differ n (sym (same.live n) ∙ lives);
  once = rw same.ended is.once;
  all = λ n below. ap (λ (b : Bool). b || is_ended (view 0).ended n) (same.live n) ∙ ap (λ (es : List Ended). (other n).live || is_ended es n) same.ended ∙ is.all n (subst (λ (m : ℕ). n < m) same.made below);
  others = spends;
}

-- a seat with another view that keeps its log
pub same_logs_put : (view : ℕ → View) (i : ℕ) (new : View) → KeepsLog new (view i) → SameLogs (put i new view) view
same_logs_put view i new keeps = record {
  live = kept_put (λ (v : View). v.live) i new view keeps.live;
  log = kept_put (λ (v : View). v.log) i new view keeps.log;
  made = kept_put (λ (v : View). v.made) i new view keeps.made 0;
  ended = kept_put (λ (v : View). v.ended) i new view keeps.ended 0;
}

pub numbered_put : (view : ℕ → View) (i : ℕ) (new : View) → (view i).live ≡ true → KeepsLog new (view i) → IsNumbered view → IsNumbered (put i new view)
numbered_put view i new lives keeps is =
    numbered_same (put i new view) view (same_logs_put view i new keeps)
    (each_put (λ (n : ℕ) (v : View). v.live ≡ false → v ≡ spent) i new view
    (λ dead. absurd (true≢false (sym lives ∙ sym keeps.live ∙ dead))) (λ n _. is.others n)) is

-- what doesn't live has no command
pub busy_lives : (view : ℕ → View) (i : ℕ) → IsNumbered view → is_busy (stage_of (view i).point) ≡ true → (view i).live ≡ true
busy_lives view i is busy =
    elim (cases_Bool (view i).live) [
      | inl lives ↦ lives
      | inr dead ↦ absurd (false≢true (ap (λ (v : View). is_busy (stage_of v.point)) (sym (is.others i dead)) ∙ busy))
    ]

-- a seat whose nodes keep their words stands with other words of nodes
pub seat_with_nodes : (F : Fixed) (words : Words) (node' : ℕ → ℕ) (history : List Item) (now : World) (i : ℕ) (view : View)
    → ((node : ℕ) → holds F view.point view.wanted node ≡ true → node' node ≡ words.node node) → SeatStands F words history now i view
    → SeatStands F (record words { node = node' }) history now i view
seat_with_nodes F words node' history now i view same is = record {
  named = λ node held. same node held ∙ is.named node held;
  holding = is.holding;
  counted = is.counted;
  hand = is.hand;
  own = is.own;
  unread = is.unread;
  at = is.at;
  current = is.current;
  right = is.right;
  resolved = is.resolved;
  giving_up = is.giving_up;
  committed = is.committed;
}

-- a seat's new view, and the words of nodes after its step
pub record IsNodeStep (F : Fixed) (core : Core) (history : List Item) (now : World) (i : ℕ) (new : View) (node' : ℕ → ℕ) : Type 0 where
  pub lives : (core.view i).live ≡ true
  pub keeps : KeepsLog new (core.view i)
  pub seat : SeatStands F (record core.words { node = node' }) history now i new
  pub others : (j : ℕ) → (j == i) ≡ false → (node : ℕ) → holds F (core.view j).point (core.view j).wanted node ≡ true → node' node ≡ core.words.node node
  pub apart : (j : ℕ) → (j == i) ≡ false → SeatsApart F new (core.view j)
  pub free : (node : ℕ) → holds F new.point new.wanted node ≡ false → ((j : ℕ) → (j == i) ≡ false → holds F (core.view j).point (core.view j).wanted node ≡ false) → node' node ≡ 0
  pub owes : (cell : Cell) → owed_at (stores_owed new.point) cell ≡ owed_at (stores_owed (core.view i).point) cell
  pub stores : (p : ℕ) → is_storing_for new p ≡ is_storing_for (core.view i) p
  pub unused : (v : ℕ) → nodes_of F ≤ v → node' v ≡ 0

-- the core after a step that changes one seat's view and words of nodes
abbrev pub core_after : Core → ℕ → View → (ℕ → ℕ) → Core
core_after core i new node' = record { words = record core.words { node = node' }; view = put i new core.view }

-- such a step keeps what stands
pub stands_after : (F : Fixed) (core : Core) (history : List Item) (now : World) (i : ℕ) (new : View) (node' : ℕ → ℕ) → Stands F core history now
    → IsNodeStep F core history now i new node' → Stands F (core_after core i new node') history now
stands_after F core history now i new node' is step = record {
  tied = is.tied;
  legal = is.legal;
  given = is.given;
  count = is.count;
  items = subst (IsPermutation history) (sym (items_of_same (put i new core.view) core.view (same_logs_put core.view i new step.keeps))) is.items;
  numbers = numbered_put core.view i new step.lives step.keeps is.numbers;
  ended = subst (All (λ (e : Ended). IsLogWithin core.words.commits e.room e.log)) (sym (kept_put (λ (v : View). v.ended) i new core.view step.keeps.ended 0)) is.ended;
  seats = each_put (λ (j : ℕ) (v : View). SeatStands F (record core.words { node = node' }) history now j v) i new core.view step.seat
      (λ j other. seat_with_nodes F core.words node' history now j (core.view j) (step.others j other) (is.seats j));
  apart = apart_put F core.view i new is.apart step.apart;
  free = λ node none. step.free node (subst (λ (v : View). holds F v.point v.wanted node ≡ false) (put_same i new core.view) (none i))
      (λ j other. subst (λ (v : View). holds F v.point v.wanted node ≡ false) (put_other i j new core.view other) (none j));
  unowed = λ cell lives none. is.unowed cell lives
      (λ j. sym (kept_put (λ (v : View). owed_at (stores_owed v.point) cell) i new core.view (step.owes cell) j) ∙ none j);
  linked = λ p node lives none. is.linked p node lives (λ j. sym (kept_put (λ (v : View). is_storing_for v p) i new core.view (step.stores p) j) ∙ none j);
  unlinked = is.unlinked;
  unused = record { no_node = step.unused; no_links = is.unused.no_links; no_body = is.unused.no_body; no_state = is.unused.no_state };
}

-- ---- steps that change no word of a node

-- what all seats hold is as before, where one seat's new view holds what the old one did
pub none_before : (F : Fixed) (view : ℕ → View) (i node : ℕ) → holds F (view i).point (view i).wanted node ≡ false
    → ((j : ℕ) → (j == i) ≡ false → holds F (view j).point (view j).wanted node ≡ false) → (j : ℕ) → holds F (view j).point (view j).wanted node ≡ false
none_before F view i node here others j =
    elim (cases_Bool (j == i)) [
      | inl e ↦ subst (λ (k : ℕ). holds F (view k).point (view k).wanted node ≡ false) (sym (eqb-true j i e)) here
      | inr e ↦ others j e
    ]

-- a seat's new view after a step that takes and gives back nothing
pub record IsViewStep (F : Fixed) (core : Core) (history : List Item) (now : World) (i : ℕ) (new : View) : Type 0 where
  pub lives : (core.view i).live ≡ true
  pub keeps : KeepsLog new (core.view i)
  pub seat : SeatStands F core.words history now i new
  pub same : (node : ℕ) → holds F new.point new.wanted node ≡ holds F (core.view i).point (core.view i).wanted node
  pub slots : (j : ℕ) → (j == i) ≡ false → is_busy (stage_of new.point) ≡ true → is_busy (stage_of (core.view j).point) ≡ true → (new.cmd.slot == (core.view j).cmd.slot) ≡ false
  pub owes : stores_owed new.point ≡ stores_owed (core.view i).point
  pub stores : (p : ℕ) → is_storing_for new p ≡ is_storing_for (core.view i) p

pub stands_with_view : (F : Fixed) (core : Core) (history : List Item) (now : World) (i : ℕ) (new : View) → Stands F core history now
    → IsViewStep F core history now i new → Stands F (record core { view = put i new core.view }) history now
stands_with_view F core history now i new is step = stands_after F core history now i new core.words.node is (record {
  lives = step.lives;
  keeps = step.keeps;
  seat = step.seat;
  others = λ j _ node _. refl;
  apart = λ j other. record {
    nodes = λ node held. (is.apart i j (eqb_sym j i other)).nodes node (sym (step.same node) ∙ held);
    slots = step.slots j other;
    cells = λ cell x owed. (is.apart i j (eqb_sym j i other)).cells cell x (ap (λ (stores : List Store). owed_at stores cell) (sym step.owes) ∙ owed);
  };
  free = λ node here others. is.free node (none_before F core.view i node (sym (step.same node) ∙ here) others);
  owes = λ cell. ap (λ (stores : List Store). owed_at stores cell) step.owes;
  stores = step.stores;
  unused = is.unused.no_node;
})
