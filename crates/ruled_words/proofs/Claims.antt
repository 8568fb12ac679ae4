-- A plain hand takes the write nodes of its effect, and commits.
use Rattle.std.proofs.Common.{◌≡◌, ℕ, suc, ◌+◌, ◌*◌, ◌^◌, Bool, true, false, if◌then◌else◌, ◌<◌, ◌≤◌, List, [], ◌∷◌, ◌++◌, length, slice_index_or, take, drop, refl, sym, ap, ◌∙◌, subst, Option, Some, None, arith}
use Rattle.std.specs.Prelude.{◌==◌}
use Rattle.std.proofs.lemmas.Bool.{eqb-true, or_left, or_right, eq-eqb}
use Rattle.std.proofs.lemmas.List.{take_more, take_all, drop_more, drop_all}
use Rattle.core_steps.specs.declared.sizes.TheConstants.{NODE_HOLDERS}
use Rattle.atomic_table.specs.Seated.{TableId}
use Rattle.entity_recs.specs.declared.effect.Effect.{Effect}
use Rattle.core_steps.specs.Nodes.{Fixed, has, is_leaf, home}
use Rattle.core_steps.specs.Points.{Point, Resolving, Claiming, Storing, Releasing, AtClaiming, stage_of}
use Rattle.core_steps.specs.Points.{is_without_effect, stores_of}
use Rattle.core_steps.specs.Reads.{View, record_read, region_in}
use Rattle.core_steps.specs.Held.{leaf_word, held_word}
use Rattle.core_steps.specs.Steps.{first, rest_of, point_after_take, view_after_take, view_after_claim, view_after_refusal, view_after_commit, storing, item_at}
use Rattle.core_steps.specs.Machine.{Next, TakeNode, ClaimNode, CommitMove, resolving, committing, kind_of}
use Rattle.core_steps.specs.declared.step.StepKind.TheVariants.{Commit}
use Rattle.core_steps.specs.Stands.{IsAt, IsClaimingAfter}
use Rattle.core_steps.proofs.Lists.{has_append}
use Rattle.core_steps.proofs.Takes.{two_inner}
use Rattle.core_steps.proofs.Waiting.{first_there}
use Rattle.core_seats.specs.Going.{view_found, word_left}
use Rattle.core_seats.specs.Nexts.{the_next}
use Rattle.core_seats.specs.declared.refusals.Refusals.{Refusals}
use Rattle.core_seats.specs.Refusals.{AreRefusals}
use Rattle.ruled_words.specs.Sights.{Tally, tally_after}
use Rattle.ruled_words.specs.Passes.{PassView, next_of_pass, pass_after, word_after, IsPassOf}
use Rattle.ruled_words.specs.Hands.{IsPlain, IsHandOf, pass_keeping, still_keeping}
use Rattle.ruled_words.specs.Straight.{in_view, in_view_with, IsTriedOn}
use Rattle.ruled_words.specs.Writing.{as_tried, HasTried, nodes_written, nodes_held, claims_left, claimed_point, claimed_effect, view_with_claims, IsClaimed, HasWritten, view_after_stores}
use Rattle.ruled_words.proofs.Owns.{no_effect}
use Rattle.ruled_words.proofs.LoadedWords.{plain_is, plain_after, plain_next}
use Rattle.ruled_words.proofs.PlainHands.{keeping_next, left_next, after_next_is}
use Rattle.ruled_words.specs.GivingUp.{NoTakeWasRefused, IsSameCommand}
use Rattle.ruled_words.proofs.GivingUp.{same_command}
use Rattle.ruled_words.proofs.RefusedTakes.{none_refused_still}
use Rattle.ruled_words.proofs.TriedTakes.{tried_on, tried_again, not_tried}

-- ---- the word of a write node

-- the word with which an inner node is held to write
held_to_write : (F : Fixed) (number node : ℕ) (wanted : List ℕ) → is_leaf F node ≡ false → held_word F number AtClaiming wanted node ≡ suc (number + NODE_HOLDERS)
held_to_write F number node wanted inner =
    ap (λ (b : Bool). suc (number + NODE_HOLDERS * (if b then leaf_word F wanted else 1))) inner

-- ---- a take that is tried

module _ (p : PassView) (node found : ℕ) (b : Bool) (same : b ≡ (found == 0)) (after : View) (tally : Tally) (on : IsTriedOn p.tally tally) where
  abbrev after_found : Bool → View
  after_found free = if free then after else view_after_refusal node found p.view

  abbrev after_tried : Bool → View
  after_tried free = if free then after else p.view

  as_found : (free : Bool) → after_found free ≡ as_tried (after_tried free) (after_found free)
  as_found true = refl
  as_found false = refl

  -- the hand after a take, by whether it was served
  pub has_tried : (new : PassView) → new ≡ in_view_with p (after_found (found == 0)) tally → HasTried p (after_tried b) new
  has_tried new is = record {
    hand =
        let view : new.view ≡ after_found (found == 0) = ap (λ (q : PassView). q.view) is in
        let counted : new.tally ≡ tally = ap (λ (q : PassView). q.tally) is in
        is ∙ ap (λ (v : View). in_view_with p v tally) (as_found (found == 0))
        ∙ ap (λ (free : Bool). in_view_with p (as_tried (after_tried free) (after_found (found == 0))) tally) (sym same)
        ∙ (λ i. in_view_with p (as_tried (after_tried b) (sym view i)) (sym counted i));
    tally = subst (IsTriedOn p.tally) (sym (ap (λ (q : PassView). q.tally) is)) on;
  }

-- the takes that were refused are those of the view after the take
refusals_after : (r : Refusals) (view after refusal : View) (free : Bool) → after.refusals ≡ view.refusals → after.refused ≡ view.refused
    → AreRefusals r (if free then view else refusal) → AreRefusals r (if free then after else refusal)
refusals_after r view after refusal true count last are = record { count = are.count ∙ sym count; last = are.last ∙ sym last }
refusals_after r view after refusal false count last are = are

pub refusals_found : (r : Refusals) (view after new : View) (node found : ℕ) → new ≡ (if found == 0 then after else view_after_refusal node found view) → after.refusals ≡ view.refusals → after.refused ≡ view.refused
    → AreRefusals r (if found == 0 then view else view_after_refusal node found view) → AreRefusals r new
refusals_found r view after new node found is count last are =
    subst (AreRefusals r) (sym is) (refusals_after r view after (view_after_refusal node found view) (found == 0) count last are)

-- ---- takes one after another

-- the hand has tried nothing yet
pub tried_none : (p : PassView) → IsPlain p → HasTried p p.view p
tried_none p plain = record { hand = plain_is p plain; tally = not_tried p.tally }

-- a further take, whose view doesn't look at refusals
pub has_tried_on : (p q r : PassView) (view : View) (next : View → View) → ((v t u : View) → as_tried (next (as_tried v t)) u ≡ as_tried (next v) u)
    → HasTried p view q → HasTried q (next q.view) r → HasTried p (next view) r
has_tried_on p q r view next blind one two = record {
  hand =
      two.hand ∙ ap (λ (x : PassView). in_view_with x (as_tried (next x.view) r.view) r.tally) one.hand
      ∙ ap (λ (v : View). in_view_with p v r.tally) (blind view q.view r.view);
  tally = tried_again p.tally q.tally r.tally one.tally two.tally;
}

-- the hand that has come to this view so is the table's
pub record Tries (F : Fixed) (passes : ℕ) (table : TableId) (start : PassView) (view : View) (now : PassView) : Type 0 where
  pub own : IsHandOf F passes table now
  pub tried : HasTried start view now

module _ (F : Fixed) (passes : ℕ) (table : TableId) (start : PassView) (view : View) (now : PassView) (is : Tries F passes table start view now) where
  pub view_tried : now.view ≡ as_tried view now.view
  view_tried = ap (λ (q : PassView). q.view) is.tried.hand

  -- what doesn't look at refusals holds still
  pub holds_still : (P : View → Type 0) → P (as_tried view now.view) → P now.view
  holds_still P there = subst P (sym view_tried) there

  pub tries_on : (new : PassView) (next : View → View) → ((v t u : View) → as_tried (next (as_tried v t)) u ≡ as_tried (next v) u) → IsHandOf F passes table new → HasTried now (next now.view) new
      → Tries F passes table start (next view) new
  tries_on new next blind own tried = record { own = own; tried = has_tried_on start now new view next blind is.tried tried }

-- ---- a further write node

module _ (F : Fixed) (passes : ℕ) (table : TableId) (p : PassView) (nodes : List ℕ) (node : ℕ) (own : IsPassOf F passes table p) (plain : IsPlain p)
    (at : p.view.point ≡ Claiming nodes (node ∷ claims_left p.view.point)) where
  pub further_is : next_of_pass F p ≡ Some (TakeNode node)
  further_is = plain_next F p _ plain at

  further_inner : is_leaf F node ≡ false
  further_inner =
      let view = p.view in
      let got = nodes in
      let rest = claims_left view.point in
      let before = record_read view.cmd.slot view.again in
      let is : IsClaimingAfter F (region_in F view.cmd view.own) view.cmd.slot before view.lists view.others view.states view.effect got (node ∷ rest) =
      subst (IsAt F view.cmd view.own view.wanted view.again view.lists view.others view.states view.effect) at own.sound_sight.sound.at in
      two_inner F (home F before) (home F is.claim.e.me) node
      (subst (λ (ns : List ℕ). has ns node ≡ true) is.claim.nodes (has_append got (node ∷ rest) node ∙ or_right (has got node) _ (or_left (node == node) (has rest node) (eq-eqb node node refl))))

  pub further_left : (found : ℕ) → word_after F p found ≡ (if found == 0 then suc (p.number + NODE_HOLDERS) else found)
  further_left found =
      left_next F p (TakeNode node) further_is found
      ∙ ap (λ (q : Point). if found == 0 then held_word F p.number (stage_of (point_after_take node q)) p.view.wanted node else found) at
      ∙ ap (λ (w : ℕ). if found == 0 then w else found) (held_to_write F p.number node p.view.wanted further_inner)

-- ---- a step with the effect in hand

-- the hand that keeps no effect is the table's where it is with one
pub dropped_own : (F : Fixed) (passes : ℕ) (table : TableId) (p : PassView) (o : Option Effect) → IsPassOf F passes table (record p { effect = o }) → p.effect ≡ None → IsPassOf F passes table p
dropped_own F passes table p o is none = record {
  at_table = is.at_table;
  at_setting = is.at_setting;
  lives = is.lives;
  sound_sight = is.sound_sight;
  pending = is.pending;
  serves = is.serves;
  may_quit = is.may_quit;
  has_effect = λ at e some. no_effect p.effect e none some;
  only_resolving = λ not. none;
  refusal = is.refusal;
  counted = is.counted;
}

module _ (F : Fixed) (p : PassView) (e : Effect) (plain : IsPlain p) (at : p.view.point ≡ Resolving) where
  resolved_is : next_of_pass F (pass_keeping p e) ≡ Some (resolving e (nodes_written F p.view e))
  resolved_is = keeping_next F p e Resolving plain at

  module _ (next : Next) (is : resolving e (nodes_written F p.view e) ≡ next) where
    pub with_effect_is : next_of_pass F (pass_keeping p e) ≡ Some next
    with_effect_is = resolved_is ∙ ap (λ (n : Next). Some n) is

    -- the hand after the step
    pub with_effect_after : (new : PassView) (found : ℕ) → IsPlain new → still_keeping new e ≡ pass_after F (the_next (next_of_pass F (pass_keeping p e))) found (pass_keeping p e)
        → new ≡ in_view_with p (view_found F p.view next found) (tally_after next found (word_left F p.number p.view next found) p.tally)
    with_effect_after new found plain_new after =
        let made : still_keeping new e ≡ pass_after F next found (pass_keeping p e) = after ∙ after_next_is F (pass_keeping p e) next with_effect_is found in
        λ i. record {
          table = (made i).table;
          setting = (made i).setting;
          number = (made i).number;
          given = plain_new.given i;
          quits = plain_new.quits i;
          effect = plain_new.effect i;
          view = (made i).view;
          tally = (made i).tally;
        }

-- ---- the first write node

claims_first : (e : Effect) (nodes : List ℕ) (node : ℕ) → first nodes ≡ Some node → resolving e nodes ≡ ClaimNode e node
claims_first e [] node there = cc
claims_first e (n ∷ nodes) node there = let same : n ≡ node = cc in ap (ClaimNode e) same

module _ (F : Fixed) (p : PassView) (e : Effect) (node : ℕ) (plain : IsPlain p) (at : p.view.point ≡ Resolving) (there : first (nodes_written F p.view e) ≡ Some node) where
  pub first_is : next_of_pass F (pass_keeping p e) ≡ Some (ClaimNode e node)
  first_is = with_effect_is F p e plain at (ClaimNode e node) (claims_first e (nodes_written F p.view e) node there)

  pub first_left : (found : ℕ) → word_after F (pass_keeping p e) found ≡ (if found == 0 then suc (p.number + NODE_HOLDERS) else found)
  first_left found =
      left_next F (pass_keeping p e) (ClaimNode e node) first_is found
      ∙ ap (λ (w : ℕ). if found == 0 then w else found)
      (held_to_write F p.number node p.view.wanted (two_inner F (home F (record_read p.view.cmd.slot p.view.again)) (home F e.me) node (first_there (nodes_written F p.view e) node there)))

  -- the hand after the take
  pub first_made : (new : PassView) (found : ℕ) → IsPlain new → still_keeping new e ≡ pass_after F (the_next (next_of_pass F (pass_keeping p e))) found (pass_keeping p e)
      → new ≡ in_view_with p (view_found F p.view (ClaimNode e node) found) (tally_after (ClaimNode e node) found (word_left F p.number p.view (ClaimNode e node) found) p.tally)
  first_made new found plain_new after = with_effect_after F p e plain at (ClaimNode e node) (claims_first e (nodes_written F p.view e) node there) new found plain_new after

  pub first_tried : (new : PassView) (found : ℕ) (b : Bool) → b ≡ (found == 0) → IsPlain new → still_keeping new e ≡ pass_after F (the_next (next_of_pass F (pass_keeping p e))) found (pass_keeping p e)
      → HasTried p (if b then view_after_claim F e node p.view else p.view) new
  first_tried new found b same plain_new after =
      has_tried p node found b same (view_after_claim F e node p.view) _ (tried_on (ClaimNode e node) node found (word_left F p.number p.view (ClaimNode e node) found) p.tally refl) new
      (with_effect_after F p e plain at (ClaimNode e node) (claims_first e (nodes_written F p.view e) node there) new found plain_new after)

  pub first_view : (new : PassView) (found : ℕ) → IsPlain new → still_keeping new e ≡ pass_after F (the_next (next_of_pass F (pass_keeping p e))) found (pass_keeping p e)
      → new.view ≡ (if found == 0 then view_after_claim F e node p.view else view_after_refusal node found p.view)
  first_view new found plain_new after =
      ap (λ (q : PassView). q.view) (with_effect_after F p e plain at (ClaimNode e node) (claims_first e (nodes_written F p.view e) node there) new found plain_new after)

-- ---- the commit

module _ (F : Fixed) (p : PassView) (e : Effect) (plain : IsPlain p) (at : p.view.point ≡ Resolving) (none : nodes_written F p.view e ≡ []) where
  pub free_is : next_of_pass F (pass_keeping p e) ≡ Some (CommitMove e [])
  free_is = with_effect_is F p e plain at (CommitMove e []) (ap (resolving e) none)

  pub free_after : (new : PassView) (found : ℕ) → IsPlain new → still_keeping new e ≡ pass_after F (the_next (next_of_pass F (pass_keeping p e))) found (pass_keeping p e)
      → new ≡ in_view p (view_after_commit F found e [] p.view)
  free_after new found plain_new after = with_effect_after F p e plain at (CommitMove e []) (ap (resolving e) none) new found plain_new after

module _ (F : Fixed) (p : PassView) (e : Effect) (plain : IsPlain p) (at : p.view.point ≡ Claiming (nodes_held p.view.point) []) (has_effect : p.view.effect ≡ Some e) where
  pub held_is : next_of_pass F p ≡ Some (CommitMove e (nodes_held p.view.point))
  held_is = plain_next F p _ plain at ∙ ap (λ (o : Option Effect). committing o (nodes_held p.view.point)) has_effect

  pub held_after : (new : PassView) (found : ℕ) → new ≡ pass_after F (the_next (next_of_pass F p)) found p → new ≡ in_view p (view_after_commit F found e (nodes_held p.view.point) p.view)
  held_after new found after =
      after ∙ after_next_is F p (CommitMove e (nodes_held p.view.point)) held_is found ∙ plain_after F p (CommitMove e (nodes_held p.view.point)) found plain

-- a step that commits
pub commits_next : (F : Fixed) (p : PassView) (e : Effect) (nodes : List ℕ) → next_of_pass F p ≡ Some (CommitMove e nodes) → (found : ℕ) → word_after F p found ≡ found + 1
commits_next F p e nodes is found = let one : suc found ≡ found + 1 = omega arith in left_next F p (CommitMove e nodes) is found ∙ one

pub kind_commits : (F : Fixed) (p : PassView) (e : Effect) (nodes : List ℕ) → next_of_pass F p ≡ Some (CommitMove e nodes) → kind_of (the_next (next_of_pass F p)) ≡ Commit
kind_commits F p e nodes is = ap (λ (o : Option Next). kind_of (the_next o)) is

-- ---- a take that is tried again and again

pub tried_where : {b : Bool} (p : PassView) (one two : View) (q : PassView) → b ≡ true → HasTried p (if b then one else two) q → HasTried p one q
tried_where {b} p one two q served is = subst (λ (free : Bool). HasTried p (if free then one else two) q) served is

pub tried_not : {b : Bool} (p : PassView) (one two : View) (q : PassView) → b ≡ false → HasTried p (if b then one else two) q → HasTried p two q
tried_not {b} p one two q refused is = subst (λ (free : Bool). HasTried p (if free then one else two) q) refused is

pub tries_none : (F : Fixed) (passes : ℕ) (table : TableId) (p : PassView) → IsHandOf F passes table p → Tries F passes table p p.view p
tries_none F passes table p own = record { own = own; tried = tried_none p own.plain }

-- ---- all write nodes, one after another

abbrev pub claiming_view : View → Effect → List ℕ → List ℕ → View
claiming_view view e got rest = record view { effect = Some e; point = Claiming got rest }

pub first_node : (nodes : List ℕ) → (length nodes == 0) ≡ false → first nodes ≡ Some (slice_index_or nodes 0 0)
first_node [] some = cc
first_node (node ∷ nodes) some = refl

module _ (F : Fixed) (passes : ℕ) (table : TableId) (start : PassView) (e : Effect) where
  begun_with : (nodes : List ℕ) → (length nodes == 0) ≡ false → claiming_view start.view e (slice_index_or nodes 0 0 ∷ []) (rest_of nodes) ≡ claiming_view start.view e (take 1 nodes) (drop 1 nodes)
  begun_with [] some = cc
  begun_with (node ∷ nodes) some = refl

  -- where the first is taken
  pub claims_begun : (nodes : List ℕ) (now : PassView) → (length nodes == 0) ≡ false → nodes ≡ nodes_written F start.view e → IsHandOf F passes table now
      → HasTried start (view_after_claim F e (slice_index_or nodes 0 0) start.view) now → Tries F passes table start (claiming_view start.view e (take 1 nodes) (drop 1 nodes)) now
  claims_begun nodes now some are own tried = record {
    own = own;
    tried = subst (λ (v : View). HasTried start v now) (begun_with nodes some)
        (subst (λ (ns : List ℕ). HasTried start (claiming_view start.view e (slice_index_or nodes 0 0 ∷ []) (rest_of ns)) now) (sym are) tried);
  }

  module _ (nodes : List ℕ) (now : PassView) (i : ℕ) (below : i < length nodes) (is : Tries F passes table start (claiming_view start.view e (take i nodes) (drop i nodes)) now) where
    claims_there : Tries F passes table start (claiming_view start.view e (take i nodes) (slice_index_or nodes i 0 ∷ drop (i + 1) nodes)) now
    claims_there = subst (λ (ns : List ℕ). Tries F passes table start (claiming_view start.view e (take i nodes) ns) now) (drop_more nodes i 0 below) is

    pub claim_comes : now.view.point ≡ Claiming (take i nodes) (slice_index_or nodes i 0 ∷ claims_left now.view.point)
    claim_comes =
        let at = ap (λ (q : PassView). q.view.point) claims_there.tried.hand in
        at ∙ sym (ap (λ (q : Point). Claiming (take i nodes) (slice_index_or nodes i 0 ∷ claims_left q)) at)

    -- no other command is in hand
    pub claims_same : NoTakeWasRefused start now → IsSameCommand start now
    claims_same none = same_command start now (claiming_view start.view e (take i nodes) (drop i nodes)) is.tried.hand none is.tried.tally.begun refl refl refl refl

    pub claim_taken : (new : PassView) → IsHandOf F passes table new → HasTried now (view_after_take (slice_index_or nodes i 0) now.view) new
        → Tries F passes table start (claiming_view start.view e (take (i + 1) nodes) (drop (i + 1) nodes)) new
    claim_taken new own tried =
        subst (λ (ns : List ℕ). Tries F passes table start (claiming_view start.view e ns (drop (i + 1) nodes)) new) (sym (take_more nodes i 0 below))
        (tries_on F passes table start (claiming_view start.view e (take i nodes) (slice_index_or nodes i 0 ∷ drop (i + 1) nodes)) now claims_there new (view_after_take (slice_index_or nodes i 0)) (λ v t u. refl) own tried)

  made_of : (nodes : List ℕ) → (length nodes == 0) ≡ false → claiming_view start.view e nodes [] ≡ record start.view { effect = claimed_effect e nodes; point = claimed_point nodes }
  made_of [] some = cc
  made_of (node ∷ nodes) some = refl

  pub claims_made : (nodes : List ℕ) (now : PassView) (i : ℕ) → (length nodes == 0) ≡ false → length nodes ≤ i → nodes ≡ nodes_written F start.view e
      → Tries F passes table start (claiming_view start.view e (take i nodes) (drop i nodes)) now → HasTried start (view_with_claims F e start.view) now
  claims_made nodes now i some over are is =
      subst (λ (ns : List ℕ). HasTried start (record start.view { effect = claimed_effect e ns; point = claimed_point ns }) now) are
      (subst (λ (v : View). HasTried start v now) (made_of nodes some)
      (subst (λ (ns : List ℕ). HasTried start (claiming_view start.view e nodes ns) now) (drop_all i nodes over)
      (subst (λ (ns : List ℕ). HasTried start (claiming_view start.view e ns (drop i nodes)) now) (take_all i nodes over) is.tried)))

-- where there is no write node the hand stays
pub claims_none : (F : Fixed) (passes : ℕ) (table : TableId) (p : PassView) (e : Effect) → IsHandOf F passes table p → p.view.point ≡ Resolving → nodes_written F p.view e ≡ [] → HasTried p (view_with_claims F e p.view) p
claims_none F passes table p e own at none =
    let without : p.view.effect ≡ None = own.pass.sound_sight.sound.unread.no_effect (ap (λ (q : Point). is_without_effect (stage_of q)) at) in
    subst (λ (v : View). HasTried p v p)
    ((λ i. record p.view { effect = without i; point = at i }) ∙ ap (λ (ns : List ℕ). record p.view { effect = claimed_effect e ns; point = claimed_point ns }) (sym none))
    (tried_none p own.plain)

-- ---- which way a commit goes

none_there : {R : Type 0} (node : ℕ) (nodes : List ℕ) → (length (node ∷ nodes) == 0) ≡ true → R
none_there node nodes none = absurd (let e : length (node ∷ nodes) ≡ 0 = eqb-true (length (node ∷ nodes)) 0 none in omega (arith, e))

pub claimed_none : (nodes : List ℕ) (point : Point) → (length nodes == 0) ≡ true → point ≡ claimed_point nodes → point ≡ Resolving
claimed_none [] point none at = at
claimed_none (node ∷ nodes) point none at = none_there node nodes none

pub no_nodes : (nodes : List ℕ) → (length nodes == 0) ≡ true → nodes ≡ []
no_nodes [] none = refl
no_nodes (node ∷ nodes) none = none_there node nodes none

pub claimed_some : (nodes : List ℕ) (point : Point) → (length nodes == 0) ≡ false → point ≡ claimed_point nodes → point ≡ Claiming nodes []
claimed_some [] point some at = cc
claimed_some (node ∷ nodes) point some at = at

pub claimed_held : (nodes : List ℕ) (point : Point) → point ≡ Claiming nodes [] → point ≡ Claiming (nodes_held point) []
claimed_held nodes point at = at ∙ ap (λ (ns : List ℕ). Claiming ns []) (sym (ap nodes_held at))

pub claimed_effect_is : (nodes : List ℕ) (e : Effect) (o : Option Effect) → (length nodes == 0) ≡ false → o ≡ claimed_effect e nodes → o ≡ Some e
claimed_effect_is [] e o some is = cc
claimed_effect_is (node ∷ nodes) e o some is = is

-- ---- the effect is written

module _ (F : Fixed) (passes : ℕ) (table : TableId) (start : PassView) (e : Effect) (nodes : List ℕ) (one : PassView) (own_one : IsHandOf F passes table one) (tried : HasTried start (view_with_claims F e start.view) one) where
  -- the hand that holds its write nodes is where it commits
  pub is_claimed : IsClaimed F e one.view
  is_claimed = holds_still F passes table start (view_with_claims F e start.view) one (record { own = own_one; tried = tried }) (IsClaimed F e) (record { at = refl; effect = refl })

  pub claimed_still : (P : View → Type 0) → P (as_tried (view_with_claims F e start.view) one.view) → P one.view
  claimed_still P there = holds_still F passes table start (view_with_claims F e start.view) one (record { own = own_one; tried = tried }) P there

  module _ (place : ℕ) (two : PassView) (committed : two ≡ in_view one (view_after_commit F place e nodes one.view)) where
    -- its stores come next
    pub stores_come : (slot old : ℕ) → slot ≡ start.view.cmd.slot → old ≡ home F (record_read start.view.cmd.slot start.view.again)
        → two.view.point ≡ storing (nodes_held two.view.point) (stores_of F slot old e)
    stores_come slot old is_slot is_old =
        let at : two.view.point ≡ Storing nodes (stores_of F start.view.cmd.slot (home F (record_read start.view.cmd.slot start.view.again)) e) =
        ap (λ (q : PassView). q.view.point) committed
        ∙ claimed_still (λ (v : View). Storing nodes (stores_of F v.cmd.slot (home F (record_read v.cmd.slot v.again)) e) ≡ Storing nodes (stores_of F start.view.cmd.slot (home F (record_read start.view.cmd.slot start.view.again)) e)) refl in
        at ∙ ap (λ (n : ℕ). Storing nodes (stores_of F n (home F (record_read start.view.cmd.slot start.view.again)) e)) (sym is_slot)
        ∙ ap (λ (n : ℕ). Storing nodes (stores_of F slot n e)) (sym is_old)
        ∙ ap (λ (ns : List ℕ). Storing ns (stores_of F slot old e)) (sym (ap nodes_held at))

    pub slot_still : (slot : ℕ) → slot ≡ start.view.cmd.slot → slot ≡ two.view.cmd.slot
    slot_still slot is = claimed_still (λ (v : View). slot ≡ v.cmd.slot) is ∙ sym (ap (λ (q : PassView). q.view.cmd.slot) committed)

    module _ (three : PassView) (stored : three ≡ in_view two (record two.view { point = Releasing (nodes_held two.view.point) })) where
      all_written : three ≡ in_view one (view_after_stores F place e nodes one.view)
      all_written = stored ∙ ap (λ (q : PassView). in_view q (record q.view { point = Releasing (nodes_held q.view.point) })) committed

      -- the effect is written
      pub has_written : HasTried start (view_after_stores F place e nodes start.view) three
      has_written =
          has_tried_on start one three (view_with_claims F e start.view) (view_after_stores F place e nodes) (λ v t u. refl) tried
          (record {
            hand = subst (λ (q : PassView). q ≡ in_view_with one (as_tried (view_after_stores F place e nodes one.view) q.view) q.tally) (sym all_written) refl;
            tally = subst (IsTriedOn one.tally) (sym (ap (λ (q : PassView). q.tally) all_written)) (not_tried one.tally);
          })

      pub none_refused_stored : NoTakeWasRefused start one → NoTakeWasRefused start three
      none_refused_stored none =
          none_refused_still start one three none (ap (λ (q : PassView). q.view.refusals) all_written) (ap (λ (q : PassView). q.view.refused) all_written) (ap (λ (q : PassView). q.tally) all_written)

      pub refusals_written : (r : Refusals) → AreRefusals r one.view → AreRefusals r three.view
      refusals_written r are = subst (λ (q : PassView). AreRefusals r q.view) (sym all_written) (record { count = are.count; last = are.last })

-- ---- the write nodes are given back

module _ (F : Fixed) (e : Effect) (place : ℕ) (nodes : List ℕ) (old at new : PassView) (first : HasTried old (view_after_stores F place e nodes old.view) at)
    (second : new ≡ in_view at (record at.view { point = Releasing [] })) where
  released : new ≡ in_view_with old (record (as_tried (view_after_stores F place e nodes old.view) at.view) { point = Releasing [] }) at.tally
  released = second ∙ ap (λ (p : PassView). in_view p (record p.view { point = Releasing [] })) first.hand

  pub written_all : old.view.seen ≤ place → place + 1 < 2 ^ 64 → HasWritten e place old new
  written_all seen small =
      let count : at.view.refusals ≡ new.view.refusals = sym (ap (λ (p : PassView). p.view.refusals) released) in
      let last : at.view.refused ≡ new.view.refused = sym (ap (λ (p : PassView). p.view.refused) released) in
      let tally : at.tally ≡ new.tally = sym (ap (λ (p : PassView). p.tally) released) in
      record {
        hand = released ∙ (λ i. in_view_with old (record old.view {
          point = Releasing [];
          effect = Some e;
          seen = suc place;
          log = old.view.log ++ item_at place old.view e ∷ [];
          refusals = count i;
          refused = last i;
        }) (tally i));
        tried = subst (IsTriedOn old.tally) tally first.tally;
        place_is = seen;
        small = small;
      }

  pub written_none_refused : NoTakeWasRefused old at → NoTakeWasRefused old new
  written_none_refused none = none_refused_still old at new none (ap (λ (p : PassView). p.view.refusals) second) (ap (λ (p : PassView). p.view.refused) second) (ap (λ (p : PassView). p.tally) second)

  pub written_refusals : (r : Refusals) → AreRefusals r at.view → AreRefusals r new.view
  written_refusals r are = record {
    count = are.count ∙ sym (ap (λ (p : PassView). p.view.refusals) released);
    last = are.last ∙ sym (ap (λ (p : PassView). p.view.refused) released);
  }
