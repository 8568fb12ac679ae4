-- The nodes of a region are read, one after another.
use Rattle.std.proofs.Common.{◌≡◌, ℕ, suc, ◌+◌, ◌*◌, ◌%◌, ◌^◌, ◌<◌, ◌≤◌, arith, Bool, false, ◌||◌, if◌then◌else◌, List, [], ◌∷◌, ◌++◌, refl, sym, ap, ◌∙◌, subst, inl, inr, map, bit_or, Option, Some, None}
use Rattle.std.specs.Prelude.{◌==◌, nat_le, get_or}
use Rattle.std.proofs.lemmas.Bool.{cases_Bool, cond-true, cond-false, leb-true}
use Rattle.std.proofs.lemmas.Nat.{mod_below, pow_pos}
use Rattle.std.proofs.Math.Bool.{or-false, or_assoc}
use Rattle.core_steps.specs.declared.sizes.TheConstants.{NODE_HOLDERS}
use Rattle.areanode.specs.Words.{has_bit}
use Rattle.arena_geo.specs.Bounds.{Bounds}
use Rattle.areanode.specs.Trees.{leaf_node, leaves_of, visited_of}
use Rattle.core_steps.specs.Nodes.{Fixed, is_leaf, inner_nodes, plan_of, inner_visited}
use Rattle.core_steps.specs.Points.{Point, Entering, Entered, Leaving, stage_of}
use Rattle.core_steps.specs.Reads.{PlayerRead, View, player_at, region_in}
use Rattle.core_steps.specs.Held.{leaf_word, held_word}
use Rattle.core_steps.specs.Steps.{loading, visiting, point_after_take, view_after_give}
use Rattle.core_steps.specs.Machine.{Next, TakeNode, GiveNode}
use Rattle.core_seats.specs.declared.refusals.Refusals.{Refusals}
use Rattle.core_seats.specs.Refusals.{AreRefusals}
use Rattle.core_seats.specs.Going.{word_left}
use Rattle.core_seats.specs.Nexts.{the_next}
use Rattle.ruled_words.specs.Hands.{IsPlain}
use Rattle.ruled_words.specs.Passes.{PassView, next_of_pass, pass_after, node_given_next, word_after}
use Rattle.ruled_words.specs.Straight.{AreHeldFor, in_view, in_view_with, HasKept, nodes_read}
use Rattle.ruled_words.specs.declared.held.Held.{Held}
use Rattle.ruled_words.specs.GivingUp.{NoTakeWasRefused, IsSameCommand}
use Rattle.ruled_words.specs.Tries.{tried_until}
use Rattle.ruled_words.specs.Writing.{as_tried}
use Rattle.ruled_words.specs.Visits.{plan_left, read_until, under_until, visited_until}
use Rattle.ruled_words.proofs.EitherBits.{either_bits}
use Rattle.ruled_words.proofs.BitWalks.{bits_in, bits_none, bits_low}
use Rattle.ruled_words.proofs.LoadedWords.{plain_is, plain_after, plain_next, visiting_same}
use Rattle.ruled_words.proofs.GivingUp.{same_command}
use Rattle.ruled_words.proofs.RefusedTakes.{none_refused_still}
use Rattle.ruled_words.proofs.TriedTakes.{leaf_list, leaf_list_first, leaf_there}
use Rattle.ruled_words.proofs.Visited.{kept_same, no_bit}

entered_is : (q : Point) (node : ℕ) (plan : List ℕ) → q ≡ Entered node plan → q ≡ Entered node (plan_left q)
entered_is q node plan e = e ∙ ap (Entered node) (sym (ap plan_left e))

entering_is : (q : Point) (node : ℕ) (plan : List ℕ) → q ≡ Entering node plan → q ≡ Entering node (plan_left q)
entering_is q node plan e = e ∙ ap (Entering node) (sym (ap plan_left e))

leaving_is : (q : Point) (node : ℕ) (plan : List ℕ) → q ≡ Leaving node plan → q ≡ Leaving node (plan_left q)
leaving_is q node plan e = e ∙ ap (Leaving node) (sym (ap plan_left e))

pub inner_there : (F : Fixed) (node : ℕ) → node < inner_nodes F → is_leaf F node ≡ false
inner_there F node below = elim (cases_Bool (nat_le (inner_nodes F) node)) [
  | inl above ↦ let b = leb-true (inner_nodes F) node above in absurd (omega (arith, b, below))
  | inr under ↦ under
]

-- ---- the words kept by slot

-- none are seen yet
pub none_kept_yet : (seen : ℕ) (six : List (List ℕ)) (others : List PlayerRead) → HasKept seen six others → HasKept (bit_or seen 0) six others
none_kept_yet seen six others = kept_same seen (bit_or seen 0) six others (λ i. sym (either_bits seen 0 i ∙ ap (λ (b : Bool). has_bit seen i || b) (no_bit i) ∙ or-false (has_bit seen i)))

-- those of one node after another
pub kept_after : (seen one two : ℕ) (six : List (List ℕ)) (others : List PlayerRead) → HasKept (bit_or (bit_or seen one) two) six others → HasKept (bit_or seen (bit_or one two)) six others
kept_after seen one two six others =
    kept_same (bit_or (bit_or seen one) two) (bit_or seen (bit_or one two)) six others
    (λ i. either_bits (bit_or seen one) two i ∙ ap (λ (b : Bool). b || has_bit two i) (either_bits seen one i) ∙ or_assoc (has_bit seen i) (has_bit one i) (has_bit two i)
    ∙ sym (either_bits seen (bit_or one two) i ∙ ap (λ (b : Bool). has_bit seen i || b) (either_bits one two i)))

-- where no player was loaded before
pub kept_from_none : (seen : ℕ) (six : List (List ℕ)) (others : List PlayerRead) → HasKept (bit_or 0 seen) six others → HasKept seen six others
kept_from_none seen six others = kept_same (bit_or 0 seen) seen six others (λ i. either_bits 0 seen i ∙ ap (λ (b : Bool). b || has_bit seen i) (no_bit i))

pub nothing_kept : (six : List (List ℕ)) (others : List PlayerRead) → others ≡ [] → HasKept 0 six others
nothing_kept six others none slot within =
    ap (λ (os : List PlayerRead). player_at os slot) none ∙ sym (cond-false (has_bit 0 slot) (Some (get_or six slot [])) None (no_bit slot))

-- ---- leaves

-- these leaves are left to be read, and the inner nodes
abbrev pub leaves_until : Fixed → PassView → ℕ → PassView → PassView
leaves_until F p rest now = read_until p (visiting F p.view (leaf_list F rest ++ inner_visited F (region_in F p.view.cmd p.view.own))) now

module _ (F : Fixed) (p : PassView) where
  abbrev inner_nodes_in : List ℕ
  inner_nodes_in = inner_visited F (region_in F p.view.cmd p.view.own)

  pub reading_start : (leaves : ℕ) → IsPlain p → p.view.point ≡ visiting F p.view (plan_of F (region_in F p.view.cmd p.view.own)) → leaves ≡ leaves_of F.tree (region_in F p.view.cmd p.view.own) → p ≡ leaves_until F p leaves p
  reading_start leaves plain at is =
      plain_is p plain
      ∙ ap (λ (q : Point). read_until p q p)
      (at ∙ ap (λ (xs : List ℕ). visiting F p.view (xs ++ inner_nodes_in)) (ap (leaf_list F) (sym is)))

  pub reading_end : (now : PassView) → now ≡ leaves_until F p 0 now → now ≡ read_until p (visiting F p.view inner_nodes_in) now
  reading_end now is = is ∙ ap (λ (xs : List ℕ). read_until p (visiting F p.view (map (leaf_node F.tree.depth) xs ++ inner_nodes_in)) now) (bits_none (2 ^ F.tree.depth))

  module _ (rest after leaf node : ℕ) (first : bits_in (2 ^ F.tree.depth) rest ≡ leaf ∷ bits_in (2 ^ F.tree.depth) after) (there : node ≡ leaf_node F.tree.depth leaf) (now : PassView) (is : now ≡ leaves_until F p rest now) where
    abbrev ahead : List ℕ
    ahead = leaf_list F after ++ inner_nodes_in

    at_leaf : now ≡ read_until p (Entered node ahead) now
    at_leaf =
        is ∙ ap (λ (xs : List ℕ). read_until p (visiting F p.view (xs ++ inner_nodes_in)) now) (leaf_list_first F rest after leaf node first there)
        ∙ ap (λ (q : Point). read_until p q now) (cond-true (is_leaf F node) (Entered node ahead) (Entering node ahead) (leaf_there F leaf node there))

    pub leaf_entered : now.view.point ≡ Entered node (plan_left now.view.point)
    leaf_entered = entered_is now.view.point node ahead (ap (λ (q : PassView). q.view.point) at_leaf)

    -- the leaf was read
    pub leaf_read : (new : PassView) → new ≡ under_until F now node [] new → new ≡ leaves_until F p after new
    leaf_read new read =
        let point : loading F now.view node [] (plan_left now.view.point) ≡ visiting F p.view ahead =
        cond-true (is_leaf F node) (visiting F now.view (plan_left now.view.point)) (Leaving node (plan_left now.view.point)) (leaf_there F leaf node there)
        ∙ ap (visiting F now.view) (ap (λ (q : PassView). plan_left q.view.point) at_leaf)
        ∙ visiting_same F now.view p.view ahead (ap (λ (q : PassView). q.view.cmd) is) (ap (λ (q : PassView). q.view.own) is) in
        read ∙ ap (λ (q : Point). read_until now q new) point ∙ ap (λ (q : PassView). read_until q (visiting F p.view ahead) new) is

-- ---- an inner node

module _ (F : Fixed) (p : PassView) (node : ℕ) (plain : IsPlain p) (at : p.view.point ≡ Leaving node (plan_left p.view.point)) where
  gives : next_of_pass F p ≡ Some (GiveNode node)
  gives = plain_next F p (Leaving node (plan_left p.view.point)) plain at

  pub leave_next : node_given_next (next_of_pass F p) ≡ Some node
  leave_next = ap (λ (o : Option Next). node_given_next o) gives

  -- the node was given back
  pub left_node : (new : PassView) (found : ℕ) → new ≡ pass_after F (the_next (next_of_pass F p)) found p → new ≡ in_view p (record p.view { point = visiting F p.view (plan_left p.view.point) })
  left_node new found after =
      after ∙ ap (λ (o : Option Next). pass_after F (the_next o) found p) gives ∙ plain_after F p (GiveNode node) found plain
      ∙ ap (λ (q : Point). in_view_with p (view_after_give F p.view q) p.tally) at

module _ (F : Fixed) (p : PassView) (node : ℕ) (below : node < inner_nodes F) (plain : IsPlain p) (at : p.view.point ≡ Entering node (plan_left p.view.point)) where
  abbrev plan : List ℕ
  plan = plan_left p.view.point

  pub enter_next : next_of_pass F p ≡ Some (TakeNode node)
  enter_next = plain_next F p (Entering node plan) plain at

  -- an inner node that is visited is taken with the pass's number alone
  pub enter_word : (new : ℕ) → new ≡ p.number + 1 → (found : ℕ) → word_after F p found ≡ (if found == 0 then new else found)
  enter_word new is found =
      let held : held_word F p.number (stage_of (point_after_take node p.view.point)) p.view.wanted node ≡ new =
      ap (λ (q : Point). held_word F p.number (stage_of (point_after_take node q)) p.view.wanted node) at
      ∙ ap (λ (n : ℕ). suc (p.number + NODE_HOLDERS * n)) (cond-false (is_leaf F node) (leaf_word F p.view.wanted) 0 (inner_there F node below))
      ∙ (let n = is in omega (arith, n)) in
      ap (λ (o : Option Next). word_left F p.number p.view (the_next o) found) enter_next ∙ ap (λ (w : ℕ). if found == 0 then w else found) held

  module _ (one : PassView) (entered : one ≡ tried_until p (point_after_take node p.view.point) one) where
    now_entered : one ≡ tried_until p (Entered node plan) one
    now_entered = entered ∙ ap (λ (q : Point). tried_until p (point_after_take node q) one) at

    pub inner_entered : one.view.point ≡ Entered node (plan_left one.view.point)
    inner_entered = entered_is one.view.point node plan (ap (λ (q : PassView). q.view.point) now_entered)

    pub entered_slot : one.view.cmd.slot ≡ p.view.cmd.slot
    entered_slot = ap (λ (q : PassView). q.view.cmd.slot) entered

    pub entered_others : one.view.others ≡ p.view.others
    entered_others = ap (λ (q : PassView). q.view.others) entered

    module _ (two : PassView) (read : two ≡ under_until F one node [] two) where
      now_read : two ≡ read_until one (Leaving node plan) two
      now_read =
          read
          ∙ ap (λ (q : Point). read_until one q two)
          (cond-false (is_leaf F node) (visiting F one.view (plan_left one.view.point)) (Leaving node (plan_left one.view.point)) (inner_there F node below)
          ∙ ap (Leaving node) (ap (λ (q : PassView). plan_left q.view.point) now_entered))

      two_is : two ≡ visited_until p (Leaving node plan) two
      two_is =
          let made : two ≡ read_until (tried_until p (Entered node plan) one) (Leaving node plan) two = now_read ∙ ap (λ (q : PassView). read_until q (Leaving node plan) two) now_entered in
          subst (λ (q : PassView). q ≡ visited_until p (Leaving node plan) q) (sym made) refl

      pub inner_leaving : two.view.point ≡ Leaving node (plan_left two.view.point)
      inner_leaving = leaving_is two.view.point node plan (ap (λ (q : PassView). q.view.point) two_is)

      module _ (three : PassView) (left : three ≡ in_view two (record two.view { point = visiting F two.view (plan_left two.view.point) })) where
        goes_on : visiting F two.view (plan_left two.view.point) ≡ visiting F p.view plan
        goes_on =
            ap (visiting F two.view) (ap (λ (q : PassView). plan_left q.view.point) two_is)
            ∙ visiting_same F two.view p.view plan (ap (λ (q : PassView). q.view.cmd) two_is) (ap (λ (q : PassView). q.view.own) two_is)

        -- the inner node was visited
        pub inner_read : three ≡ visited_until p (visiting F p.view plan) three
        inner_read =
            let made : three ≡ in_view (visited_until p (Leaving node plan) two) (record (visited_until p (Leaving node plan) two).view { point = visiting F p.view plan }) =
            left ∙ ap (λ (q : Point). in_view two (record two.view { point = q })) goes_on
            ∙ ap (λ (r : PassView). in_view r (record r.view { point = visiting F p.view plan })) two_is in
            subst (λ (q : PassView). q ≡ visited_until p (visiting F p.view plan) q) (sym made) refl

        pub inner_others : three.view.others ≡ two.view.others
        inner_others = ap (λ (q : PassView). q.view.others) left

        pub inner_tally : three.tally ≡ one.tally
        inner_tally = ap (λ (q : PassView). q.tally) left ∙ ap (λ (q : PassView). q.tally) read

        pub inner_none_refused : NoTakeWasRefused p one → NoTakeWasRefused p three
        inner_none_refused none =
            none_refused_still p one three none (ap (λ (q : PassView). q.view.refusals) left ∙ ap (λ (q : PassView). q.view.refusals) read)
            (ap (λ (q : PassView). q.view.refused) left ∙ ap (λ (q : PassView). q.view.refused) read) inner_tally

        pub inner_refusals : (r : Refusals) → AreRefusals r one.view → AreRefusals r three.view
        inner_refusals r here = record {
          count = here.count ∙ sym (ap (λ (q : PassView). q.view.refusals) left ∙ ap (λ (q : PassView). q.view.refusals) read);
          last = here.last ∙ sym (ap (λ (q : PassView). q.view.refused) left ∙ ap (λ (q : PassView). q.view.refused) read);
        }

-- ---- the inner nodes

-- these inner nodes are left to be visited
abbrev pub inner_until : Fixed → PassView → ℕ → PassView → PassView
inner_until F p rest now = visited_until p (visiting F p.view (bits_in (inner_nodes F) rest)) now

pub inner_list_is : (F : Fixed) (region : List Bounds) (leaves inner : ℕ) → leaves ≡ leaves_of F.tree region → inner ≡ visited_of F.tree.depth leaves % 2 ^ inner_nodes F
    → inner_visited F region ≡ bits_in (inner_nodes F) inner
inner_list_is F region leaves inner is visited =
    ap (λ (w : ℕ). bits_in (inner_nodes F) (visited_of F.tree.depth w)) (sym is)
    ∙ sym (ap (bits_in (inner_nodes F)) visited ∙ bits_low (inner_nodes F) (visited_of F.tree.depth leaves))

pub inner_of_command : (F : Fixed) (held : Held) (view : View) → AreHeldFor F held view → held.inner ≡ visited_of F.tree.depth (leaves_of F.tree (region_in F view.cmd view.own)) % 2 ^ inner_nodes F
inner_of_command F held view is = is.inner_are ∙ ap (λ (leaves : ℕ). visited_of F.tree.depth leaves % 2 ^ inner_nodes F) is.leaves_are

-- they are cut from the nodes that are visited
pub inner_small : (F : Fixed) (visited inner rest : ℕ) → inner ≡ visited % 2 ^ inner_nodes F → rest ≤ inner → rest < 2 ^ inner_nodes F
inner_small F visited inner rest is few =
    let low = mod_below visited (2 ^ inner_nodes F) (pow_pos (inner_nodes F)) in
    omega (arith, is, few, low)

module _ (F : Fixed) (p : PassView) where
  pub inner_start : (inner : ℕ) → IsPlain p → p.view.point ≡ visiting F p.view (bits_in (inner_nodes F) inner) → p ≡ inner_until F p inner p
  inner_start inner plain at = plain_is p plain ∙ ap (λ (q : Point). visited_until p q p) at

  pub inner_end : (now : PassView) → now ≡ inner_until F p 0 now → now ≡ visited_until p (visiting F p.view []) now
  inner_end now is = is ∙ ap (λ (xs : List ℕ). visited_until p (visiting F p.view xs) now) (bits_none (inner_nodes F))

  module _ (rest after node : ℕ) (below : node < inner_nodes F) (first : bits_in (inner_nodes F) rest ≡ node ∷ bits_in (inner_nodes F) after) (now : PassView) (is : now ≡ inner_until F p rest now) where
    at_inner : now ≡ visited_until p (Entering node (bits_in (inner_nodes F) after)) now
    at_inner =
        is ∙ ap (λ (xs : List ℕ). visited_until p (visiting F p.view xs) now) first
        ∙ ap (λ (q : Point). visited_until p q now) (cond-false (is_leaf F node) (Entered node (bits_in (inner_nodes F) after)) (Entering node (bits_in (inner_nodes F) after)) (inner_there F node below))

    -- no other command is in hand
    pub inner_same : NoTakeWasRefused p now → now.tally.begun ≡ p.tally.begun → IsSameCommand p now
    inner_same none begun = same_command p now (record p.view { point = visiting F p.view (bits_in (inner_nodes F) rest); lists = now.view.lists; others = now.view.others }) is none begun refl refl refl refl

    pub now_entering : now.view.point ≡ Entering node (plan_left now.view.point)
    now_entering = entering_is now.view.point node (bits_in (inner_nodes F) after) (ap (λ (q : PassView). q.view.point) at_inner)

    pub inner_own : now.view.own ≡ p.view.own
    inner_own = ap (λ (q : PassView). q.view.own) is

    pub inner_more : (new : PassView) → new ≡ visited_until now (visiting F now.view (plan_left now.view.point)) new → new ≡ inner_until F p after new
    inner_more new read =
        let point : visiting F now.view (plan_left now.view.point) ≡ visiting F p.view (bits_in (inner_nodes F) after) =
        ap (visiting F now.view) (ap (λ (q : PassView). plan_left q.view.point) at_inner)
        ∙ visiting_same F now.view p.view (bits_in (inner_nodes F) after) (ap (λ (q : PassView). q.view.cmd) is) inner_own in
        read ∙ ap (λ (q : Point). visited_until now q new) point ∙ ap (λ (q : PassView). visited_until q (visiting F p.view (bits_in (inner_nodes F) after)) new) is

-- ---- the leaves, then the inner nodes

module _ (F : Fixed) (p : PassView) (one : PassView) (outer : one ≡ read_until p (visiting F p.view (inner_visited F (region_in F p.view.cmd p.view.own))) one) where
  -- the inner nodes come next
  pub read_at : one.view.point ≡ visiting F one.view (inner_visited F (region_in F one.view.cmd one.view.own))
  read_at =
      ap (λ (q : PassView). q.view.point) outer
      ∙ sym (visiting_same F one.view p.view (inner_visited F (region_in F p.view.cmd p.view.own)) (ap (λ (q : PassView). q.view.cmd) outer) (ap (λ (q : PassView). q.view.own) outer))
      ∙ sym (ap (λ (q : PassView). visiting F one.view (inner_visited F (region_in F q.view.cmd q.view.own))) outer)

  -- no other command is in hand, and no take was refused
  pub read_none_refused : NoTakeWasRefused p one
  read_none_refused = record {
    refusals = ap (λ (q : PassView). q.view.refusals) outer;
    refused = ap (λ (q : PassView). q.view.refused) outer;
    listed = ap (λ (q : PassView). q.tally.refused) outer;
  }

  pub read_same : IsSameCommand p one
  read_same =
      same_command p one (record p.view { point = one.view.point; lists = one.view.lists; others = one.view.others })
      (subst (λ (q : PassView). q ≡ in_view_with p (as_tried (record p.view { point = q.view.point; lists = q.view.lists; others = q.view.others }) q.view) q.tally) (sym outer) refl)
      read_none_refused (ap (λ (q : PassView). q.tally.begun) outer) refl refl refl refl

  pub read_refusals : (r : Refusals) → AreRefusals r p.view → AreRefusals r one.view
  read_refusals r here = record {
    count = here.count ∙ sym (ap (λ (q : PassView). q.view.refusals) outer);
    last = here.last ∙ sym (ap (λ (q : PassView). q.view.refused) outer);
  }

  -- all nodes were read
  pub nodes_are_read : (two : PassView) → two ≡ visited_until one (visiting F one.view []) two → two ≡ in_view_with p (nodes_read F p.view two.view) two.tally
  nodes_are_read two over =
      over ∙ ap (λ (q : Point). visited_until one q two) (visiting_same F one.view p.view [] (ap (λ (q : PassView). q.view.cmd) outer) (ap (λ (q : PassView). q.view.own) outer))
      ∙ ap (λ (q : PassView). visited_until q (visiting F p.view []) two) outer
