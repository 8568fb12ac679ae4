-- A take that may be refused, and is tried again.
use Rattle.std.proofs.Common.{◌≡◌, ◌≢◌, ℕ, suc, ◌+◌, ◌-◌, ◌*◌, ◌^◌, ◌<◌, ◌≤◌, zero, arith, Bool, true, false, if◌then◌else◌, List, [], ◌∷◌, ◌++◌, length, map, take, min, refl, sym, ap, ◌∙◌, subst, inl, inr, Option, Some, None}
use Rattle.std.specs.Prelude.{◌==◌, filter}
use Rattle.std.specs.List.{range_with_len}
use Rattle.std.proofs.lemmas.Bool.{cases_Bool, cases_eq, cond-true, cond-false, eq-eqb, ne_eqb, le-leb}
use Rattle.std.proofs.lemmas.List.{append_assoc, length-append, length-map}
use Rattle.std.proofs.lemmas.List.Elements.{filter-append}
use Rattle.std.proofs.Math.Seq.{take-append_seam}
use Rattle.areanode.specs.Words.{has_bit}
use Rattle.std.proofs.lemmas.Option.{same_Some}
use Rattle.core_steps.specs.declared.sizes.TheConstants.{NODE_HOLDERS}
use Rattle.atomic_table.specs.Seated.{TableId}
use Rattle.areanode.specs.Trees.{IsTreeDepth, leaf_node, leaves_of}
use Rattle.core_steps.specs.Reads as core_reads
use Rattle.core_steps.specs.Nodes.{Fixed, is_leaf, inner_nodes, leaf_nodes}
use Rattle.core_steps.specs.Points.{Point, Idle, Owning, Taking, Checking, Entering, Entered, Loading, Leaving, Sensing}
use Rattle.core_steps.specs.Points.{Resolving, Claiming, Storing, Releasing, Returning, Yielding, stage_of, is_whole}
use Rattle.core_steps.specs.Points.{is_writing}
use Rattle.core_steps.specs.Reads.{View, region_in}
use Rattle.core_steps.specs.Held.{leaf_word, held_word}
use Rattle.core_steps.specs.Steps.{taking, point_after_take, view_after_take, view_after_refusal}
use Rattle.core_steps.specs.Machine.{Next, Begin, LoadOwn, LoadAgain, TakeNode, ClaimNode, ReadList, ReadPlayer, ReadState, CommitMove, StoreWord, GiveNode, YieldNode, YieldCount}
use Rattle.core_steps.specs.Stands.{IsTaking, IsAt}
use Rattle.core_steps.specs.Calls.{node_taken}
use Rattle.core_seats.specs.declared.refusals.Refusals.{Refusals}
use Rattle.core_seats.specs.Refusals.{AreRefusals}
use Rattle.core_seats.specs.Going.{view_found, word_left}
use Rattle.core_seats.specs.Nexts.{next_point, the_next}
use Rattle.ruled_words.specs.Hands.{IsPlain}
use Rattle.ruled_words.specs.Passes.{PassView, next_of_pass, node_taken_next, pass_after, word_after, AreCounted, IsPassOf}
use Rattle.ruled_words.specs.Sights.{HeldWord, Tally, tally_after}
use Rattle.ruled_words.specs.Straight.{in_view_with, HasMoreInFront, IsTriedOn, got_at}
use Rattle.ruled_words.specs.GivingUp.{NoTakeWasRefused, IsSameCommand}
use Rattle.ruled_words.specs.Tries.{IsTried, tried_until}
use Rattle.ruled_words.proofs.BitWalks.{bits_in, bits_none}
use Rattle.ruled_words.proofs.GivingUp.{same_command}
use Rattle.ruled_words.proofs.LeafWords.{range_end, leaf_word_is, leaves_few, leaves_small}
use Rattle.ruled_words.proofs.LoadedWords.{plain_is, plain_after, plain_next}

-- ---- the refused takes that are listed

pub none_more : (xs : List HeldWord) → HasMoreInFront xs xs
none_more xs = record { more = []; whole = refl }

pub one_more : (h : HeldWord) (xs ys zs : List HeldWord) → zs ≡ h ∷ ys → HasMoreInFront xs ys → HasMoreInFront xs zs
one_more h xs ys zs is first = record { more = h ∷ first.more; whole = is ∙ ap (λ (rest : List HeldWord). h ∷ rest) first.whole }

pub more_again : (xs ys zs : List HeldWord) → HasMoreInFront xs ys → HasMoreInFront ys zs → HasMoreInFront xs zs
more_again xs ys zs first second = record {
  more = second.more ++ first.more;
  whole = second.whole ∙ ap (λ (rest : List HeldWord). second.more ++ rest) first.whole ∙ sym (append_assoc second.more first.more xs);
}

pub more_still : (xs ys zs : List HeldWord) → zs ≡ ys → HasMoreInFront xs ys → HasMoreInFront xs zs
more_still xs ys zs same first = record { more = first.more; whole = same ∙ first.whole }

-- the count of those that are listed, where it stays at the most
count_of_more : (m n most : ℕ) → min (m + n) most ≡ min (min n most + m) most
count_of_more m n most = grind arith

-- so a pass's count of refused takes rises by the number of those that are listed more
pub counted_more : (old new : PassView) (listed : HasMoreInFront old.tally.refused new.tally.refused)
    → AreCounted old.view.refusals old.tally.refused → AreCounted new.view.refusals new.tally.refused
    → new.view.refusals ≡ min (old.view.refusals + length listed.more) (2 ^ 64 - 1)
counted_more old new listed before after =
    let more = listed.more in
    let n = length old.tally.refused in
    after
    ∙ ap (λ (xs : List HeldWord). min (length xs) (2 ^ 64 - 1)) listed.whole
    ∙ ap (λ (k : ℕ). min k (2 ^ 64 - 1)) (length-append more old.tally.refused)
    ∙ count_of_more (length more) n (2 ^ 64 - 1)
    ∙ ap (λ (k : ℕ). min (k + length more) (2 ^ 64 - 1)) (sym before)

-- ---- what a take leaves beside the point

tried_by : (b : Bool) (t : Tally) (served : List HeldWord) (h : HeldWord)
    → IsTriedOn t (record (if b then record t { served = served } else record t { refused = h ∷ t.refused }) { begun = t.begun })
tried_by true t served h = record { begun = refl; listed = none_more t.refused }
tried_by false t served h = record { begun = refl; listed = one_more h t.refused t.refused (h ∷ t.refused) refl (none_more t.refused) }

pub tried_on : (next : Next) (node found left : ℕ) (t : Tally) → node_taken next ≡ Some node → IsTriedOn t (tally_after next found left t)
tried_on (Begin c) node found left t e = cc
tried_on LoadOwn node found left t e = cc
tried_on LoadAgain node found left t e = cc
tried_on (TakeNode n) node found left t e = tried_by (found == 0) t _ _
tried_on (ClaimNode f n) node found left t e = tried_by (found == 0) t _ _
tried_on (ReadList n plan) node found left t e = cc
tried_on (ReadPlayer n part slot players plan) node found left t e = cc
tried_on (ReadState id ids) node found left t e = cc
tried_on (CommitMove f nodes) node found left t e = cc
tried_on (StoreWord nodes store stores) node found left t e = cc
tried_on (GiveNode n) node found left t e = cc
tried_on (YieldNode n) node found left t e = cc
tried_on YieldCount node found left t e = cc

-- a take that is served leaves the refused ones as they are
served_keeps : (F : Fixed) (r : Refusals) (view : View) (next : Next) (node : ℕ) → node_taken next ≡ Some node → AreRefusals r view → AreRefusals r (view_found F view next 0)
served_keeps F r view (Begin c) node e is = cc
served_keeps F r view LoadOwn node e is = cc
served_keeps F r view LoadAgain node e is = cc
served_keeps F r view (TakeNode n) node e is = record { count = is.count; last = is.last }
served_keeps F r view (ClaimNode f n) node e is = record { count = is.count; last = is.last }
served_keeps F r view (ReadList n plan) node e is = cc
served_keeps F r view (ReadPlayer n part slot players plan) node e is = cc
served_keeps F r view (ReadState id ids) node e is = cc
served_keeps F r view (CommitMove f nodes) node e is = cc
served_keeps F r view (StoreWord nodes store stores) node e is = cc
served_keeps F r view (GiveNode n) node e is = cc
served_keeps F r view (YieldNode n) node e is = cc
served_keeps F r view YieldCount node e is = cc

-- the view after a take that is refused
pub refused_is : (F : Fixed) (view : View) (next : Next) (node found : ℕ) → node_taken next ≡ Some node → found ≢ 0 → view_found F view next found ≡ view_after_refusal node found view
refused_is F view (Begin c) node found e busy = cc
refused_is F view LoadOwn node found e busy = cc
refused_is F view LoadAgain node found e busy = cc
refused_is F view (TakeNode n) node found e busy =
    cond-false (found == 0) (view_found F view (TakeNode n) 0) (view_after_refusal n found view) (ne_eqb found 0 busy) ∙ ap (λ (k : ℕ). view_after_refusal k found view) (same_Some n node e)
refused_is F view (ClaimNode f n) node found e busy =
    cond-false (found == 0) (view_found F view (ClaimNode f n) 0) (view_after_refusal n found view) (ne_eqb found 0 busy) ∙ ap (λ (k : ℕ). view_after_refusal k found view) (same_Some n node e)
refused_is F view (ReadList n plan) node found e busy = cc
refused_is F view (ReadPlayer n part slot players plan) node found e busy = cc
refused_is F view (ReadState id ids) node found e busy = cc
refused_is F view (CommitMove f nodes) node found e busy = cc
refused_is F view (StoreWord nodes store stores) node found e busy = cc
refused_is F view (GiveNode n) node found e busy = cc
refused_is F view (YieldNode n) node found e busy = cc
refused_is F view YieldCount node found e busy = cc

served_noted : (F : Fixed) (r : Refusals) (view after : View) (next : Next) (node found : ℕ) → node_taken next ≡ Some node → found ≡ 0 → after ≡ view_found F view next found → AreRefusals r view → AreRefusals r after
served_noted F r view after next node found taken free is here =
    subst (AreRefusals r) (sym (is ∙ ap (view_found F view next) free)) (served_keeps F r view next node taken here)

-- what was noted, by the word that was found, is that of the view after the step
pub found_noted : (F : Fixed) (r : Refusals) (view after : View) (next : Next) (node found : ℕ) → node_taken next ≡ Some node → after ≡ view_found F view next found
    → AreRefusals r (if found == 0 then view else view_after_refusal node found view) → AreRefusals r after
found_noted F r view after next node found taken is here = elim (cases_eq found 0) [
  | inl free ↦
      served_noted F r view after next node found taken free is
      (subst (AreRefusals r) (cond-true (found == 0) view (view_after_refusal node found view) (eq-eqb found 0 free)) here)
  | inr busy ↦
      subst (AreRefusals r) (cond-false (found == 0) view (view_after_refusal node found view) (ne_eqb found 0 busy) ∙ sym (is ∙ refused_is F view next node found taken busy)) here
]

-- ---- one take after another

pub tried_again : (one two three : Tally) → IsTriedOn one two → IsTriedOn two three → IsTriedOn one three
tried_again one two three a b = record { begun = b.begun ∙ a.begun; listed = more_again one.refused two.refused three.refused a.listed b.listed }

pub not_tried : (t : Tally) → IsTriedOn t t
not_tried t = record { begun = refl; listed = none_more t.refused }

-- at the same point where nothing was tried yet
pub until_start : (p : PassView) → IsPlain p → p ≡ tried_until p p.view.point p
until_start p plain = plain_is p plain

pub until_plain : (p new : PassView) (at : Point) → new ≡ tried_until p at new → IsPlain new
until_plain p new at is = record { given = ap (λ (q : PassView). q.given) is; quits = ap (λ (q : PassView). q.quits) is; effect = ap (λ (q : PassView). q.effect) is }

pub until_more : (p now new : PassView) (one two : Point) → now ≡ tried_until p one now → new ≡ tried_until now two new → new ≡ tried_until p two new
until_more p now new one two is more = more ∙ ap (λ (q : PassView). tried_until q two new) is

module _ (F : Fixed) (p : PassView) (node : ℕ) where
  tried_case : (k : Bool) (found : ℕ) (t : Tally) →
      in_view_with p (if k then view_after_take node p.view else view_after_refusal node found p.view) t
      ≡ tried_until p (if k then point_after_take node p.view.point else p.view.point) (in_view_with p (if k then view_after_take node p.view else view_after_refusal node found p.view) t)
  tried_case true found t = refl
  tried_case false found t = refl

  -- the pass after its take was tried
  pub tried_is : IsPlain p → next_of_pass F p ≡ Some (TakeNode node) → (new : PassView) (b : Bool) → IsTried F p new b
      → new ≡ tried_until p (if b then point_after_take node p.view.point else p.view.point) new
  tried_is plain comes new b is =
      let found = is.found in
      let tally = tally_after (TakeNode node) found (word_left F p.number p.view (TakeNode node) found) p.tally in
      let q = in_view_with p (if found == 0 then view_after_take node p.view else view_after_refusal node found p.view) tally in
      let made : new ≡ q = is.pass ∙ ap (λ (o : Option Next). pass_after F (the_next o) found p) comes ∙ plain_after F p (TakeNode node) found plain in
      subst (λ (r : PassView). r ≡ tried_until p (if b then point_after_take node p.view.point else p.view.point) r) (sym made)
      (subst (λ (k : Bool). q ≡ tried_until p (if k then point_after_take node p.view.point else p.view.point) q) (sym is.where_free) (tried_case (found == 0) found tally))

-- ---- tried again

module _ (F : Fixed) (view : View) (refusals : ℕ) (refused : Option core_reads.Refused) where
  abbrev tried_view : Point → View
  tried_view point = record view { point = point; refusals = refusals; refused = refused }

  -- what comes next doesn't depend on the refused takes
  same_next : (at q : Point) → next_point F (tried_view at) None None q ≡ next_point F view None None q
  same_next at Idle = refl
  same_next at Owning = refl
  same_next at (Taking got []) = refl
  same_next at (Taking got (leaf ∷ rest)) = refl
  same_next at Checking = refl
  same_next at (Entering n plan) = refl
  same_next at (Entered n plan) = refl
  same_next at (Loading n part [] plan) = refl
  same_next at (Loading n part (slot ∷ players) plan) = refl
  same_next at (Leaving n plan) = refl
  same_next at (Sensing []) = refl
  same_next at (Sensing (id ∷ ids)) = refl
  same_next at Resolving = refl
  same_next at (Claiming got []) = refl
  same_next at (Claiming got (n ∷ rest)) = refl
  same_next at (Storing nodes []) = refl
  same_next at (Storing nodes (store ∷ stores)) = refl
  same_next at (Releasing nodes) = refl
  same_next at (Returning leaves) = refl
  same_next at (Yielding nodes leaves) = refl

module _ (F : Fixed) (p : PassView) (node : ℕ) (plain : IsPlain p) (comes : next_of_pass F p ≡ Some (TakeNode node)) (now : PassView) (is : now ≡ tried_until p p.view.point now) where
  -- the same node comes next
  pub until_next : next_of_pass F now ≡ Some (TakeNode node)
  until_next =
      ap (λ (q : PassView). next_of_pass F q) is ∙ same_next F p.view now.view.refusals now.view.refused p.view.point p.view.point
      ∙ sym (plain_next F p p.view.point plain refl) ∙ comes

  pub until_taken : node_taken_next (next_of_pass F now) ≡ Some node
  until_taken = ap (λ (o : Option Next). node_taken_next o) until_next

  -- with the same word
  pub until_word : (found : ℕ) → word_after F now found ≡ word_after F p found
  until_word found =
      ap (λ (o : Option Next). word_left F now.number now.view (the_next o) found) until_next
      ∙ ap (λ (q : PassView). word_left F q.number q.view (TakeNode node) found) is
      ∙ sym (ap (λ (o : Option Next). word_left F p.number p.view (the_next o) found) comes)

  -- it was taken
  pub until_tried : (new : PassView) (b : Bool) → b ≡ true → IsTried F now new b → new ≡ tried_until p (point_after_take node p.view.point) new
  until_tried new b served tried =
      until_more p now new p.view.point (point_after_take node p.view.point) is
      (tried_is F now node (until_plain p now p.view.point is) until_next new b tried
      ∙ ap (λ (k : Bool). tried_until now (if k then point_after_take node now.view.point else now.view.point) new) served
      ∙ ap (λ (q : Point). tried_until now (point_after_take node q) new) (ap (λ (q : PassView). q.view.point) is))

  -- it was refused once more
  pub until_refused : (new : PassView) (b : Bool) → b ≡ false → IsTried F now new b → new ≡ tried_until p p.view.point new
  until_refused new b refused tried =
      until_more p now new p.view.point p.view.point is
      (tried_is F now node (until_plain p now p.view.point is) until_next new b tried
      ∙ ap (λ (k : Bool). tried_until now (if k then point_after_take node now.view.point else now.view.point) new) refused
      ∙ ap (λ (q : Point). tried_until now q new) (ap (λ (q : PassView). q.view.point) is))

-- ---- leaves

-- the nodes of these leaves
abbrev pub leaf_list : Fixed → ℕ → List ℕ
leaf_list F leaves = map (leaf_node F.tree.depth) (bits_in (2 ^ F.tree.depth) leaves)

pub leaf_there : (F : Fixed) (leaf node : ℕ) → node ≡ leaf_node F.tree.depth leaf → is_leaf F node ≡ true
leaf_there F leaf node at = le-leb (inner_nodes F) node (omega (arith, at))

-- the lowest leaf comes first
pub leaf_list_first : (F : Fixed) (leaves rest leaf node : ℕ) → bits_in (2 ^ F.tree.depth) leaves ≡ leaf ∷ bits_in (2 ^ F.tree.depth) rest → node ≡ leaf_node F.tree.depth leaf
    → leaf_list F leaves ≡ node ∷ leaf_list F rest
leaf_list_first F leaves rest leaf node first at = ap (map (leaf_node F.tree.depth)) first ∙ ap (λ (n : ℕ). n ∷ leaf_list F rest) (sym at)

taking_got : (got rest : List ℕ) → taking got rest ≡ taking (got_at (taking got rest)) rest
taking_got got [] = refl
taking_got got (x ∷ xs) = refl

start_point : (q : Point) (nodes : List ℕ) → q ≡ Taking [] nodes → 0 < length nodes → q ≡ taking (got_at q) nodes
start_point q [] at some = absurd (omega (arith, some))
start_point q (x ∷ xs) at some = at ∙ ap (λ (g : List ℕ). taking g (x ∷ xs)) (sym (ap got_at at))

-- no more than the tree has
bits_few : (n word : ℕ) → length (bits_in n word) ≤ n
bits_few zero word = omega arith
bits_few (suc n) word =
    let rest = bits_few n word in
    let all : length (bits_in (suc n) word) ≡ length (bits_in n word) + length (filter (has_bit word) (n ∷ [])) =
    ap (λ (xs : List ℕ). length (filter (has_bit word) xs)) (range_end n) ∙ ap (λ (xs : List ℕ). length xs) (filter-append (has_bit word) (range_with_len 0 n) (n ∷ []))
    ∙ length-append (bits_in n word) (filter (has_bit word) (n ∷ [])) in
    let one = one_few (has_bit word) n in
    omega (arith, rest, all, one)
  where
    one_few : (test : ℕ → Bool) (k : ℕ) → length (filter test (k ∷ [])) ≤ 1
    one_few test k = elim (cases_Bool (test k)) [ inl e ↦ rw e (omega arith) | inr e ↦ rw e (omega arith) ]

leaf_list_few : (F : Fixed) (leaves : ℕ) → length (leaf_list F leaves) ≤ 2 ^ F.tree.depth
leaf_list_few F leaves =
    let few = bits_few (2 ^ F.tree.depth) leaves in
    let same = length-map (bits_in (2 ^ F.tree.depth) leaves) (leaf_node F.tree.depth) in
    omega (arith, few, same)

pub none_taken : (n m : ℕ) → n ≡ m → 0 + n ≡ m
none_taken n m same = omega (arith, same)

-- what is known where the leaves of a command are to be taken
pub record WantsLeaves (F : Fixed) (p : PassView) (leaves : ℕ) : Type 0 where
  pub depth : IsTreeDepth F.tree.depth
  pub small : leaves < 2 ^ 2 ^ F.tree.depth
  pub wanted : p.view.wanted ≡ leaf_list F leaves
  pub word : leaf_word F p.view.wanted ≡ leaves
  pub some : 0 < length (leaf_list F leaves)

pub wants_leaves : (F : Fixed) (passes : ℕ) (table : TableId) (p : PassView) (leaves : ℕ) → IsPassOf F passes table p → p.view.point ≡ Taking [] p.view.wanted → leaves ≡ leaves_of F.tree (region_in F p.view.cmd p.view.own)
    → WantsLeaves F p leaves
wants_leaves F passes table p leaves own at is =
    let sound = own.sound_sight.sound in
    let region = region_in F p.view.cmd p.view.own in
    let nodes : p.view.wanted ≡ leaf_nodes F region = sound.whole (ap (λ (q : Point). is_whole (stage_of q)) at) in
    let wanted : p.view.wanted ≡ leaf_list F leaves = nodes ∙ ap (leaf_list F) (sym is) in
    let left : IsTaking [] p.view.wanted p.view.wanted = subst (λ (q : Point). IsAt F p.view.cmd p.view.own p.view.wanted p.view.again p.view.lists p.view.others p.view.states p.view.effect q) at sound.at in
    record {
      depth = sound.depth;
      small = leaves_small F region leaves is;
      wanted = wanted;
      word = ap (leaf_word F) nodes ∙ leaf_word_is F region ∙ sym is;
      some = subst (λ (xs : List ℕ). 0 < length xs) wanted left.left;
    }

-- these leaves are left to be taken
abbrev pub left_until : Fixed → PassView → ℕ → PassView → PassView
left_until F p rest now = tried_until p (taking (got_at now.view.point) (leaf_list F rest)) now

module _ (F : Fixed) (p : PassView) (leaves : ℕ) (plain : IsPlain p) (wants : WantsLeaves F p leaves) where
  pub leaves_start : p.view.point ≡ Taking [] p.view.wanted → p ≡ left_until F p leaves p
  leaves_start at = plain_is p plain ∙ ap (λ (q : Point). tried_until p q p) (start_point p.view.point (leaf_list F leaves) (at ∙ ap (Taking []) wants.wanted) wants.some)

  pub leaves_end : (now : PassView) → now ≡ left_until F p 0 now → now ≡ tried_until p Checking now
  leaves_end now is = is ∙ ap (λ (xs : List ℕ). tried_until p (taking (got_at now.view.point) (map (leaf_node F.tree.depth) xs)) now) (bits_none (2 ^ F.tree.depth))

  module _ (rest after leaf node : ℕ) (first : bits_in (2 ^ F.tree.depth) rest ≡ leaf ∷ bits_in (2 ^ F.tree.depth) after) (there : node ≡ leaf_node F.tree.depth leaf) (now : PassView) (is : now ≡ left_until F p rest now) where
    at_leaf : now ≡ tried_until p (Taking (got_at now.view.point) (node ∷ leaf_list F after)) now
    at_leaf = is ∙ ap (λ (xs : List ℕ). tried_until p (taking (got_at now.view.point) xs) now) (leaf_list_first F rest after leaf node first there)

    -- as many leaves are taken as come before this one
    module _ (passes : ℕ) (table : TableId) (taken : ℕ) (own : IsPassOf F passes table now) (so_many : taken + length (leaf_list F rest) ≡ length (leaf_list F leaves)) where
      at_point_leaf : now.view.point ≡ Taking (got_at now.view.point) (node ∷ leaf_list F after)
      at_point_leaf = ap (λ (q : PassView). q.view.point) at_leaf

      is_taking_leaf : IsTaking (got_at now.view.point) (node ∷ leaf_list F after) now.view.wanted
      is_taking_leaf = subst (λ (q : Point). IsAt F now.view.cmd now.view.own now.view.wanted now.view.again now.view.lists now.view.others now.view.states now.view.effect q) at_point_leaf own.sound_sight.sound.at

      same_wanted : now.view.wanted ≡ leaf_list F leaves
      same_wanted = ap (λ (q : PassView). q.view.wanted) at_leaf ∙ wants.wanted

      so_many_got : taken ≡ length (got_at now.view.point)
      so_many_got =
          let whole : length (leaf_list F leaves) ≡ length (got_at now.view.point) + length (node ∷ leaf_list F after) =
          ap (λ (xs : List ℕ). length xs) (sym (is_taking_leaf.all ∙ same_wanted)) ∙ length-append (got_at now.view.point) (node ∷ leaf_list F after) in
          let left = ap (λ (xs : List ℕ). length xs) (leaf_list_first F rest after leaf node first there) in
          omega (arith, whole, left, so_many)

      pub leaf_at : now.view.point ≡ Taking (got_at now.view.point) (node ∷ leaf_list F after)
      leaf_at = at_point_leaf

      pub leaves_taken : take taken now.view.wanted ≡ got_at now.view.point
      leaves_taken =
          ap (take taken) (sym is_taking_leaf.all) ∙ ap (λ (n : ℕ). take n (got_at now.view.point ++ node ∷ leaf_list F after)) so_many_got
          ∙ take-append_seam (got_at now.view.point) (node ∷ leaf_list F after)

      pub one_more_taken : taken + 1 + length (leaf_list F after) ≡ length (leaf_list F leaves)
      one_more_taken = let left = ap (λ (xs : List ℕ). length xs) (leaf_list_first F rest after leaf node first there) in omega (arith, left, so_many)

      pub few_taken : taken + 1 ≤ 64
      few_taken =
          let more = one_more_taken in
          let few = leaf_list_few F leaves in
          let most = leaves_few F wants.depth in
          omega (arith, more, few, most)

    -- no other command is in hand
    pub leaf_same : NoTakeWasRefused p now → now.tally.begun ≡ p.tally.begun → IsSameCommand p now
    leaf_same none begun = same_command p now (record p.view { point = Taking (got_at now.view.point) (node ∷ leaf_list F after) }) at_leaf none begun refl refl refl refl

    pub leaf_comes : next_of_pass F now ≡ Some (TakeNode node)
    leaf_comes = ap (λ (q : PassView). next_of_pass F q) at_leaf

    pub leaf_left : (new : ℕ) → new ≡ p.number + NODE_HOLDERS * leaves + 1 → (found : ℕ) → word_after F now found ≡ (if found == 0 then new else found)
    leaf_left new marked found =
        let held : held_word F p.number (stage_of (taking (got_at now.view.point ++ node ∷ []) (leaf_list F after))) p.view.wanted node ≡ new =
        ap (λ (n : ℕ). suc (p.number + NODE_HOLDERS * n)) (cond-true (is_leaf F node) (leaf_word F p.view.wanted) (if is_writing (stage_of (taking (got_at now.view.point ++ node ∷ []) (leaf_list F after))) then 1 else 0) (leaf_there F leaf node there))
        ∙ ap (λ (n : ℕ). suc (p.number + NODE_HOLDERS * n)) wants.word ∙ (let m = marked in omega (arith, m)) in
        ap (λ (q : PassView). word_after F q found) at_leaf ∙ ap (λ (w : ℕ). if found == 0 then w else found) held

    pub leaf_taken : (new : PassView) → new ≡ tried_until now (point_after_take node now.view.point) new → new ≡ left_until F p after new
    leaf_taken new taken =
        let got = got_at now.view.point in
        let point : point_after_take node now.view.point ≡ taking (got ++ node ∷ []) (leaf_list F after) = ap (λ (q : PassView). point_after_take node q.view.point) at_leaf in
        let made : new ≡ tried_until p (taking (got ++ node ∷ []) (leaf_list F after)) new =
        until_more p now new (Taking got (node ∷ leaf_list F after)) (taking (got ++ node ∷ []) (leaf_list F after)) at_leaf (taken ∙ ap (λ (q : Point). tried_until now q new) point) in
        made ∙ ap (λ (q : Point). tried_until p q new)
        (taking_got (got ++ node ∷ []) (leaf_list F after) ∙ ap (λ (g : List ℕ). taking g (leaf_list F after)) (sym (ap (λ (q : PassView). got_at q.view.point) made)))
