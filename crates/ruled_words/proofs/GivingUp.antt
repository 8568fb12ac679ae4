-- A plain hand gives back all that it holds, and its command is no longer in hand.
use Rattle.std.proofs.Common.{◌≡◌, ◌≤◌, ℕ, ◌+◌, ◌-◌, ◌/◌, ◌%◌, ◌^◌, ◌<◌, Bool, true, false, if◌then◌else◌, List, [], ◌∷◌, length, slice_index_or, drop, min, refl, sym, ap, ◌∙◌, subst, Option, Some, None, Result, Ok, Err, arith}
use Rattle.std.specs.Result.{OnErr}
use Rattle.std.proofs.lemmas.Bool.{false≢true}
use Rattle.std.proofs.lemmas.List.{drop_more, drop_all}
use Rattle.atomic_table.specs.Seated.{TableId}
use Rattle.areanode.specs.Trees.{IsTreeDepth}
use Rattle.core_steps.specs.declared.sizes.TheConstants.{TABLE_LEAVES, NODE_HOLDERS}
use Rattle.core_steps.specs.Nodes.{Fixed, is_leaf}
use Rattle.core_steps.specs.Points.{Point, Yielding}
use Rattle.core_steps.specs.Reads.{Refused, View, without_command}
use Rattle.core_steps.specs.Held.{inner_held, leaves_held}
use Rattle.core_steps.specs.Steps.{first_of_two, first_yield, is_taking, yielding, yielded}
use Rattle.core_steps.specs.Machine.{Next, GiveNode, YieldNode, YieldCount, giving, quitting, index_of}
use Rattle.core_seats.specs.declared.refusals.Refusals.{Refusals}
use Rattle.core_seats.specs.Refusals.{AreRefusals}
use Rattle.core_seats.specs.Going.{view_found, word_left}
use Rattle.core_seats.specs.Nexts.{the_next}
use Rattle.ruled_words.specs.Sights.{Tally, tally_after}
use Rattle.ruled_words.specs.Passes.{PassView, next_of_pass, node_given_next, pass_after, word_after, IsPassOf, IsHolderIn}
use Rattle.ruled_words.specs.Hands.{IsPlain, IsHandOf}
use Rattle.ruled_words.specs.Straight.{in_view, in_view_with, IsTriedOn}
use Rattle.ruled_words.specs.Writing.{as_tried}
use Rattle.ruled_words.specs.GivingUp.{NoTakeWasRefused, WasRefused, IsRefusedBy, HasGivenUp, IsSameCommand, quitting_pass, view_given_up, view_after_giving_up}
use Rattle.ruled_words.proofs.Holders.{other_holder}
use Rattle.ruled_words.proofs.LoadedWords.{plain_is, plain_after}

-- a hand may be asked to give up where a node or the commit comes next
pub quits_own : (F : Fixed) (passes : ℕ) (table : TableId) (p : PassView) (begins : Bool) → IsHandOf F passes table p → (begins ≡ true → is_taking p.view.point ≡ true) → IsPassOf F passes table (quitting_pass p begins)
quits_own F passes table p begins own at = record {
  at_table = own.pass.at_table;
  at_setting = own.pass.at_setting;
  lives = own.pass.lives;
  sound_sight = own.pass.sound_sight;
  pending = own.pass.pending;
  serves = own.pass.serves;
  may_quit = at;
  has_effect = own.pass.has_effect;
  only_resolving = own.pass.only_resolving;
  refusal = own.pass.refusal;
  counted = own.pass.counted;
}

-- ---- nodes are given back

-- the step that gives the node back, by whether giving up begins with it
abbrev pub yield_next : Bool → ℕ → Next
yield_next true node = YieldNode node
yield_next false node = GiveNode node

-- the view with these inner nodes and these leaves left to be given back, which are all where giving up hasn't begun
abbrev pub left_view : Bool → View → List ℕ → List ℕ → View
left_view true view nodes leaves = view
left_view false view nodes leaves = yielding view nodes leaves

-- the hand has these inner nodes and these leaves left to be given back
pub record HasLeft (F : Fixed) (passes : ℕ) (table : TableId) (start now : PassView) (begins : Bool) (nodes leaves : List ℕ) : Type 0 where
  pub own : IsHandOf F passes table now
  pub now_is : now ≡ in_view start (left_view begins start.view nodes leaves)
  pub all_nodes : begins ≡ true → nodes ≡ inner_held F start.view.point
  pub all_leaves : begins ≡ true → leaves ≡ leaves_held start.view.point start.view.wanted

yielding_again : (view : View) (q : Point) (nodes leaves : List ℕ) → yielding (record view { point = q }) nodes leaves ≡ yielding view nodes leaves
yielding_again view q [] [] = refl
yielding_again view q [] (leaf ∷ leaves) = refl
yielding_again view q (node ∷ nodes) leaves = refl

module _ (F : Fixed) (start : PassView) (node : ℕ) where
  gives_at : (nodes leaves : List ℕ) → first_of_two nodes leaves ≡ Some node → next_of_pass F (in_view start (yielding start.view nodes leaves)) ≡ Some (GiveNode node)
  gives_at [] [] there = cc
  gives_at [] (leaf ∷ leaves) there = ap giving there
  gives_at (n ∷ nodes) leaves there = ap giving there

  given_at : (nodes leaves : List ℕ) → first_of_two nodes leaves ≡ Some node → view_found F (yielding start.view nodes leaves) (GiveNode node) 0 ≡ yielded start.view nodes leaves
  given_at [] [] there = cc
  given_at [] (leaf ∷ leaves) there = yielding_again start.view (Yielding [] (leaf ∷ leaves)) [] leaves
  given_at (n ∷ nodes) leaves there = yielding_again start.view (Yielding (n ∷ nodes) leaves) nodes leaves

tally_kept : (begins : Bool) (node found left : ℕ) (tally : Tally) → tally_after (yield_next begins node) found left tally ≡ tally
tally_kept true node found left tally = refl
tally_kept false node found left tally = refl

module _ (F : Fixed) (passes : ℕ) (table : TableId) (start : PassView) where
  pub left_all : (nodes leaves : List ℕ) → IsHandOf F passes table start → nodes ≡ inner_held F start.view.point → leaves ≡ leaves_held start.view.point start.view.wanted → HasLeft F passes table start start true nodes leaves
  left_all nodes leaves own are those = record { own = own; now_is = plain_is start own.plain; all_nodes = λ e. are; all_leaves = λ e. those }

  module _ (now : PassView) (begins : Bool) (nodes leaves : List ℕ) (node : ℕ) (there : first_of_two nodes leaves ≡ Some node) (is : HasLeft F passes table start now begins nodes leaves) where
    both : begins ≡ true → first_yield F start.view ≡ Some node
    both e = sym (λ i. first_of_two (is.all_nodes e i) (is.all_leaves e i)) ∙ there

    comes : (b : Bool) → begins ≡ b → next_of_pass F (quitting_pass now begins) ≡ Some (yield_next b node)
    comes true e =
        ap (λ (q : PassView). next_of_pass F (quitting_pass q begins)) is.now_is
        ∙ ap (λ (b : Bool). next_of_pass F (quitting_pass (in_view start (left_view b start.view nodes leaves)) b)) e
        ∙ ap (λ (o : Option ℕ). Some (quitting o)) (both e)
    comes false e =
        ap (λ (q : PassView). next_of_pass F (quitting_pass q begins)) is.now_is
        ∙ ap (λ (b : Bool). next_of_pass F (quitting_pass (in_view start (left_view b start.view nodes leaves)) b)) e
        ∙ gives_at F start node nodes leaves there

    found_at : (b : Bool) → begins ≡ b → view_found F now.view (yield_next b node) 0 ≡ yielded start.view nodes leaves
    found_at true e =
        ap (λ (q : PassView). view_found F q.view (YieldNode node) 0) is.now_is
        ∙ ap (λ (b : Bool). view_found F (left_view b start.view nodes leaves) (YieldNode node) 0) e
        ∙ sym (λ i. yielded start.view (is.all_nodes e i) (is.all_leaves e i))
    found_at false e =
        ap (λ (q : PassView). view_found F q.view (GiveNode node) 0) is.now_is
        ∙ ap (λ (b : Bool). view_found F (left_view b start.view nodes leaves) (GiveNode node) 0) e
        ∙ given_at F start node nodes leaves there

    -- the first node is given back next
    pub left_next : node_given_next (next_of_pass F (quitting_pass now begins)) ≡ Some node
    left_next = ap (λ (o : Option Next). node_given_next o) (comes begins refl) ∙ gives begins
      where
        gives : (b : Bool) → node_given_next (Some (yield_next b node)) ≡ Some node
        gives true = refl
        gives false = refl

    left_after : (new : PassView) → new ≡ pass_after F (the_next (next_of_pass F (quitting_pass now begins))) 0 (quitting_pass now begins) → new ≡ in_view start (yielded start.view nodes leaves)
    left_after new after =
        after
        ∙ ap (λ (o : Option Next). pass_after F (the_next o) 0 now) (comes begins refl)
        ∙ plain_after F now (yield_next begins node) 0 is.own.plain
        ∙ ap (in_view_with now (view_found F now.view (yield_next begins node) 0)) (tally_kept begins node 0 _ now.tally)
        ∙ ap (in_view now) (found_at begins refl)
        ∙ ap (λ (q : PassView). in_view q (yielded start.view nodes leaves)) is.now_is

  -- one more inner node is given back
  pub left_node : (now : PassView) (begins : Bool) (node : ℕ) (nodes leaves : List ℕ) → HasLeft F passes table start now begins (node ∷ nodes) leaves → (new : PassView) → IsHandOf F passes table new
      → new ≡ pass_after F (the_next (next_of_pass F (quitting_pass now begins))) 0 (quitting_pass now begins) → HasLeft F passes table start new false nodes leaves
  left_node now begins node nodes leaves is new own after = record {
    own = own;
    now_is = left_after now begins (node ∷ nodes) leaves node refl is new after;
    all_nodes = λ e. absurd (false≢true e);
    all_leaves = λ e. absurd (false≢true e);
  }

  -- one more leaf is given back
  pub left_leaf : (now : PassView) (begins : Bool) (leaf : ℕ) (leaves : List ℕ) → HasLeft F passes table start now begins [] (leaf ∷ leaves) → (new : PassView) → IsHandOf F passes table new
      → new ≡ pass_after F (the_next (next_of_pass F (quitting_pass now begins))) 0 (quitting_pass now begins) → HasLeft F passes table start new false [] leaves
  left_leaf now begins leaf leaves is new own after = record {
    own = own;
    now_is = left_after now begins [] (leaf ∷ leaves) leaf refl is new after;
    all_nodes = λ e. absurd (false≢true e);
    all_leaves = λ e. absurd (false≢true e);
  }

  module _ (now : PassView) (begins : Bool) (nodes leaves : List ℕ) (is : HasLeft F passes table start now begins nodes leaves) where
    -- where giving up hasn't begun, the hand is as at the start
    pub left_start : begins ≡ true → now ≡ in_view start start.view
    left_start e = is.now_is ∙ ap (λ (b : Bool). in_view start (left_view b start.view nodes leaves)) e

    pub left_own : is_taking start.view.point ≡ true → IsPassOf F passes table (quitting_pass now begins)
    left_own at = quits_own F passes table now begins is.own (λ e. ap (λ (q : PassView). is_taking q.view.point) (left_start e) ∙ at)

  module _ (now : PassView) (begins : Bool) (is : HasLeft F passes table start now begins [] []) where
    -- nothing was held
    pub none_held : begins ≡ true → first_yield F now.view ≡ None
    none_held e = ap (λ (q : PassView). first_yield F q.view) (left_start now begins [] [] is e) ∙ sym (λ i. first_of_two (is.all_nodes e i) (is.all_leaves e i))

    -- all is given back
    pub all_left : begins ≡ false → now ≡ in_view start (view_given_up now.view.seen start.view)
    all_left e =
        let gone : now ≡ in_view start (without_command start.view) = is.now_is ∙ ap (λ (b : Bool). in_view start (left_view b start.view [] [])) e in
        gone ∙ ap (λ (n : ℕ). in_view start (view_given_up n start.view)) (sym (ap (λ (q : PassView). q.view.seen) gone))

    pub seen_left : begins ≡ false → start.view.seen ≤ now.view.seen
    seen_left e =
        let same : now.view.seen ≡ start.view.seen = ap (λ (q : PassView). q.view.seen) (is.now_is ∙ ap (λ (b : Bool). in_view start (left_view b start.view [] [])) e) in
        omega (arith, same)

    -- or the count was loaded
    pub count_left : begins ≡ true → (new : PassView) → new ≡ in_view now (view_given_up new.view.seen now.view) → new ≡ in_view start (view_given_up new.view.seen start.view)
    count_left e new counted = counted ∙ ap (λ (q : PassView). in_view q (view_given_up new.view.seen q.view)) (left_start now begins [] [] is e)

    pub seen_counted : begins ≡ true → (new : PassView) → now.view.seen ≤ new.view.seen → start.view.seen ≤ new.view.seen
    seen_counted e new low = subst (λ (n : ℕ). n ≤ new.view.seen) (ap (λ (q : PassView). q.view.seen) (left_start now begins [] [] is e)) low

-- ---- one node after another

pub nodes_there : (F : Fixed) (passes : ℕ) (table : TableId) (start now : PassView) (begins : Bool) (nodes leaves : List ℕ) (i : ℕ) → i < length nodes → HasLeft F passes table start now begins (drop i nodes) leaves
    → HasLeft F passes table start now begins (slice_index_or nodes i 0 ∷ drop (i + 1) nodes) leaves
nodes_there F passes table start now begins nodes leaves i below is = subst (λ (ns : List ℕ). HasLeft F passes table start now begins ns leaves) (drop_more nodes i 0 below) is

pub leaves_there : (F : Fixed) (passes : ℕ) (table : TableId) (start now : PassView) (begins : Bool) (nodes leaves : List ℕ) (i : ℕ) → i < length leaves → HasLeft F passes table start now begins nodes (drop i leaves)
    → HasLeft F passes table start now begins nodes (slice_index_or leaves i 0 ∷ drop (i + 1) leaves)
leaves_there F passes table start now begins nodes leaves i below is = subst (HasLeft F passes table start now begins nodes) (drop_more leaves i 0 below) is

pub nodes_done : (F : Fixed) (passes : ℕ) (table : TableId) (start now : PassView) (begins : Bool) (nodes leaves : List ℕ) (i : ℕ) → length nodes ≤ i → HasLeft F passes table start now begins (drop i nodes) leaves
    → HasLeft F passes table start now begins [] leaves
nodes_done F passes table start now begins nodes leaves i over is = subst (λ (ns : List ℕ). HasLeft F passes table start now begins ns leaves) (drop_all i nodes over) is

pub leaves_done : (F : Fixed) (passes : ℕ) (table : TableId) (start now : PassView) (begins : Bool) (nodes leaves : List ℕ) (i : ℕ) → length leaves ≤ i → HasLeft F passes table start now begins nodes (drop i leaves)
    → HasLeft F passes table start now begins nodes []
leaves_done F passes table start now begins nodes leaves i over is = subst (HasLeft F passes table start now begins nodes) (drop_all i leaves over) is

-- ---- nothing is held

module _ (F : Fixed) (p : PassView) (none : first_yield F p.view ≡ None) where
  counts : next_of_pass F (quitting_pass p true) ≡ Some YieldCount
  counts = ap (λ (o : Option ℕ). Some (quitting o)) none

  pub count_index : index_of p.view (the_next (next_of_pass F (quitting_pass p true))) ≡ 0
  count_index = ap (λ (o : Option Next). index_of p.view (the_next o)) counts

  pub count_left_as : (found : ℕ) → word_after F (quitting_pass p true) found ≡ found
  count_left_as found = ap (λ (o : Option Next). word_left F p.number p.view (the_next o) found) counts

  pub count_next : the_next (next_of_pass F (quitting_pass p true)) ≡ YieldCount
  count_next = ap the_next counts

  -- the count is loaded
  pub count_after : IsPlain p → (new : PassView) (found : ℕ) → new ≡ pass_after F (the_next (next_of_pass F (quitting_pass p true))) found (quitting_pass p true) → new ≡ in_view p (view_given_up found p.view)
  count_after plain new found after = after ∙ ap (λ (o : Option Next). pass_after F (the_next o) found p) counts ∙ plain_after F p YieldCount found plain

  pub count_seen : IsPlain p → (new : PassView) (found : ℕ) → new ≡ pass_after F (the_next (next_of_pass F (quitting_pass p true))) found (quitting_pass p true) → new ≡ in_view p (view_given_up new.view.seen p.view)
  count_seen plain new found after =
      let is = count_after plain new found after in
      is ∙ ap (λ (n : ℕ). in_view p (view_given_up n p.view)) (sym (ap (λ (q : PassView). q.view.seen) is))

  pub count_low : IsPlain p → (new : PassView) (found : ℕ) → new ≡ pass_after F (the_next (next_of_pass F (quitting_pass p true))) found (quitting_pass p true) → p.view.seen ≤ found → p.view.seen ≤ new.view.seen
  count_low plain new found after low = subst (λ (n : ℕ). p.view.seen ≤ n) (sym (ap (λ (q : PassView). q.view.seen) (count_after plain new found after))) low

-- ---- the command is given up for a refused take

module _ (F : Fixed) (passes : ℕ) (old refused new : PassView) (node : ℕ) (depth : IsTreeDepth F.tree.depth) (was : WasRefused F passes node old refused)
    (gone : new ≡ in_view refused (view_given_up new.view.seen refused.view)) (low : refused.view.seen ≤ new.view.seen) where
  abbrev taken : Refused
  taken = record { node = node; word = was.word; own = old.view.own; wanted = old.view.wanted }

  holds_it : IsHolderIn F was.word node ((was.word - 1) % NODE_HOLDERS) (if is_leaf F node then was.word / NODE_HOLDERS % 2 ^ TABLE_LEAVES else 0)
  holds_it = record { is_held = was.busy; is_number = refl; are_leaves = refl }

  after_refusal : new ≡ in_view_with old (view_after_giving_up taken new.view.seen old.view) (record old.tally { refused = record { node = node; word = was.word } ∷ old.tally.refused })
  after_refusal = gone ∙ ap (λ (q : PassView). in_view q (view_given_up new.view.seen q.view)) was.hand

  pub given_up : HasGivenUp F passes old new
  given_up =
      let tally = ap (λ (q : PassView). q.tally) after_refusal in record {
        r = taken;
        own = refl;
        wanted = refl;
        holder = (was.word - 1) % NODE_HOLDERS;
        leaves = if is_leaf F node then was.word / NODE_HOLDERS % 2 ^ TABLE_LEAVES else 0;
        fault = record {
          held = holds_it;
          other = other_holder F passes old.number node was.word _ _ depth was.held holds_it;
          wanted = was.reached.wanted;
          is_wanted = was.reached.is_wanted;
          is_visited = was.reached.is_visited;
        };
        seen = subst (λ (n : ℕ). n ≤ new.view.seen) (ap (λ (q : PassView). q.view.seen) was.hand) low;
        hand = after_refusal ∙ ap (in_view_with old (view_after_giving_up taken new.view.seen old.view)) (sym tally);
        begun = ap (λ (t : Tally). t.begun) tally;
        listed = ap (λ (t : Tally). t.refused) tally;
      }

  pub refusals_given_up : (r : Refusals) → AreRefusals r refused.view → AreRefusals r new.view
  refusals_given_up r are = subst (λ (q : PassView). AreRefusals r q.view) (sym gone) (record { count = are.count; last = are.last })

  pub tried_given_up : IsTriedOn old.tally refused.tally → IsTriedOn old.tally new.tally
  tried_given_up tried = subst (IsTriedOn old.tally) (sym (ap (λ (q : PassView). q.tally) gone)) tried

-- ---- from a stage of a move back to an earlier one

-- no take was refused, one stage after another
pub none_refused_yet : (one two three : PassView) → NoTakeWasRefused one two → NoTakeWasRefused two three → NoTakeWasRefused one three
none_refused_yet one two three a b = record { refusals = b.refusals ∙ a.refusals; refused = b.refused ∙ a.refused; listed = b.listed ∙ a.listed }

pub none_refused_at_start : (p : PassView) → NoTakeWasRefused p p
none_refused_at_start p = record { refusals = refl; refused = refl; listed = refl }

-- a stage that ends in this view but for refused takes
pub same_command : (old now : PassView) (view : View) → now ≡ in_view_with old (as_tried view now.view) now.tally → NoTakeWasRefused old now → now.tally.begun ≡ old.tally.begun
    → without_command (as_tried view old.view) ≡ without_command old.view → view.cmd ≡ old.view.cmd → view.own ≡ old.view.own → view.wanted ≡ old.view.wanted → IsSameCommand old now
same_command old now view is none begun rest cmd own wanted = record {
  hand = is ∙ ap (λ (v : View). in_view_with old v now.tally) (sym (ap (λ (q : PassView). q.view) is));
  rest = ap (λ (q : PassView). without_command q.view) is ∙ (λ i. without_command (record view { refusals = none.refusals i; refused = none.refused i })) ∙ rest;
  cmd = ap (λ (q : PassView). q.view.cmd) is ∙ cmd;
  own = ap (λ (q : PassView). q.view.own) is ∙ own;
  wanted = ap (λ (q : PassView). q.view.wanted) is ∙ wanted;
  begun = begun;
  listed = none.listed;
}

-- the record with the command left out
abbrev after_rest : Refused → ℕ → View → View
after_rest r seen rest = record rest { seen = seen; refusals = min (rest.refusals + 1) (2 ^ 64 - 1); refused = Some r }

-- a command that is given up in a later stage is given up since the earlier one
pub given_up_before : (F : Fixed) (passes : ℕ) (old now new : PassView) → IsSameCommand old now → HasGivenUp F passes now new → HasGivenUp F passes old new
given_up_before F passes old now new same gone = record {
  r = gone.r;
  own = gone.own ∙ same.own;
  wanted = gone.wanted ∙ same.wanted;
  holder = gone.holder;
  leaves = gone.leaves;
  fault = subst (λ (n : ℕ). IsRefusedBy F passes n old.view.cmd gone.r gone.holder gone.leaves) (ap (λ (q : PassView). q.number) same.hand)
      (subst (λ c. IsRefusedBy F passes now.number c gone.r gone.holder gone.leaves) same.cmd gone.fault);
  seen = subst (λ (n : ℕ). n ≤ new.view.seen) (ap (λ (v : View). v.seen) same.rest) gone.seen;
  hand =
      gone.hand ∙ ap (λ (q : PassView). in_view_with q (view_after_giving_up gone.r new.view.seen now.view) new.tally) same.hand
      ∙ ap (λ (v : View). in_view_with old (after_rest gone.r new.view.seen v) new.tally) same.rest;
  begun = gone.begun ∙ same.begun;
  listed = gone.listed ∙ (λ i. record { node = gone.r.node; word = gone.r.word } ∷ same.listed i);
}

-- ---- the exits of a `?`

-- what holds where the answer is an error
pub on_err : {T E P : Type 0} (r : Result T E) → P → OnErr r P
on_err (Ok x) p = tt
on_err (Err e) p = p
