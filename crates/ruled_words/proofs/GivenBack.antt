-- A plain hand gives back its write nodes, and then its leaves.
use Rattle.std.proofs.Common.{◌≡◌, ◌⊎◌, ℕ, ◌+◌, ◌^◌, ◌<◌, ◌≤◌, true, false, List, [], ◌∷◌, map, length, slice_index_or, drop, refl, sym, ap, ◌∙◌, inl, inr, Some, None, arith}
use Rattle.std.specs.Prelude.{◌==◌, ◌&&◌, not}
use Rattle.std.proofs.lemmas.List.{drop_more, drop_all}
use Rattle.atomic_table.specs.Seated.{TableId}
use Rattle.areanode.specs.Words.{has_bit}
use Rattle.areanode.specs.Trees.{IsTreeDepth, leaf_node, leaves_of}
use Rattle.core_steps.specs.Nodes.{Fixed, leaf_nodes}
use Rattle.core_steps.specs.Points.{Point, Releasing, is_whole, stage_of}
use Rattle.core_steps.specs.Reads.{View, region_in, without_command}
use Rattle.core_steps.specs.Steps.{first, rest_of, returning, view_after_give}
use Rattle.core_steps.specs.Machine.{GiveNode, giving}
use Rattle.core_seats.specs.Nexts.{the_next}
use Rattle.core_seats.specs.Ready.{is_resolving}
use Rattle.ruled_words.specs.Passes.{PassView, next_of_pass, node_given_next, pass_after, IsPassOf}
use Rattle.ruled_words.specs.Hands.{IsPlain, IsHandOf}
use Rattle.ruled_words.specs.Straight.{in_view}
use Rattle.ruled_words.proofs.BitWalks.{bits_in, bits_none, lowest_first}
use Rattle.ruled_words.proofs.LeafWords.{leaves_few}
use Rattle.ruled_words.proofs.LoadedWords.{none_kept, plain_is, plain_after, plain_next}
use Rattle.ruled_words.proofs.PlainHands.{after_next_is}

-- ---- the write nodes

abbrev pub releasing_view : View → List ℕ → View
releasing_view view nodes = record view { point = Releasing nodes }

-- these write nodes are left to be given back
pub record HasReleased (F : Fixed) (passes : ℕ) (table : TableId) (start now : PassView) (left : List ℕ) : Type 0 where
  pub own : IsHandOf F passes table now
  pub now_is : now ≡ in_view start (releasing_view start.view left)

module _ (F : Fixed) (passes : ℕ) (table : TableId) (start : PassView) (nodes : List ℕ) where
  pub released_none : IsHandOf F passes table start → start.view.point ≡ Releasing nodes → HasReleased F passes table start start nodes
  released_none own at = record { own = own; now_is = plain_is start own.plain ∙ ap (λ (q : Point). in_view start (record start.view { point = q })) at }

  module _ (now : PassView) (i : ℕ) (below : i < length nodes) (is : HasReleased F passes table start now (drop i nodes)) where
    at_node : now ≡ in_view start (releasing_view start.view (slice_index_or nodes i 0 ∷ drop (i + 1) nodes))
    at_node = is.now_is ∙ ap (λ (ns : List ℕ). in_view start (releasing_view start.view ns)) (drop_more nodes i 0 below)

    pub release_next : node_given_next (next_of_pass F now) ≡ Some (slice_index_or nodes i 0)
    release_next = ap (λ (q : PassView). node_given_next (next_of_pass F q)) at_node

    pub released_more : (new : PassView) → IsHandOf F passes table new → new ≡ pass_after F (the_next (next_of_pass F now)) 0 now → HasReleased F passes table start new (drop (i + 1) nodes)
    released_more new own after = record { own = own; now_is = after ∙ ap (λ (q : PassView). pass_after F (the_next (next_of_pass F q)) 0 q) at_node }

  pub released_all : (now : PassView) (i : ℕ) → length nodes ≤ i → HasReleased F passes table start now (drop i nodes) → now ≡ in_view start (releasing_view start.view [])
  released_all now i over is = is.now_is ∙ ap (λ (ns : List ℕ). in_view start (releasing_view start.view ns)) (drop_all i nodes over)

-- ---- the leaves

-- the nodes of the leaves of this word, rising
abbrev pub leaves_in : Fixed → ℕ → List ℕ
leaves_in F word = map (leaf_node F.tree.depth) (bits_in (2 ^ F.tree.depth) word)

-- these leaves are left to be given back: all of those wanted where none was
pub record HasReturned (F : Fixed) (passes : ℕ) (table : TableId) (start now : PassView) (left : List ℕ) : Type 0 where
  pub own : IsHandOf F passes table now
  pub phase : ((now ≡ start) × (left ≡ start.view.wanted)) ⊎ (now ≡ in_view start (returning start.view left))

module _ (F : Fixed) (passes : ℕ) (table : TableId) (start : PassView) (plain : IsPlain start) (at : start.view.point ≡ Releasing []) where
  -- the leaves are those of the word
  pub returned_none : (leaves : ℕ) → IsHandOf F passes table start → leaves ≡ leaves_of F.tree (region_in F start.view.cmd start.view.own) → HasReturned F passes table start start (leaves_in F leaves)
  returned_none leaves own are = record { own = own; phase = inl (refl, wanted) }
    where
      whole : start.view.wanted ≡ leaf_nodes F (region_in F start.view.cmd start.view.own)
      whole = own.pass.sound_sight.sound.whole (ap (λ (q : Point). is_whole (stage_of q)) at)

      wanted : leaves_in F leaves ≡ start.view.wanted
      wanted = ap (leaves_in F) are ∙ sym whole

  module _ (now : PassView) (node : ℕ) (rest : List ℕ) where
    first_given : now ≡ start → node ∷ rest ≡ start.view.wanted → next_of_pass F now ≡ Some (GiveNode node)
    first_given same wanted =
        ap (next_of_pass F) same ∙ plain_next F start (Releasing []) plain at ∙ ap (λ (ns : List ℕ). giving (first ns)) (sym wanted)

    later_given : now ≡ in_view start (returning start.view (node ∷ rest)) → next_of_pass F now ≡ Some (GiveNode node)
    later_given is = ap (next_of_pass F) is

    -- the next leaf is given back
    pub return_next : HasReturned F passes table start now (node ∷ rest) → node_given_next (next_of_pass F now) ≡ Some node
    return_next is = elim is.phase [
      | inl none ↦ ap node_given_next (first_given none.0 none.1)
      | inr some ↦ ap node_given_next (later_given some)
    ]

    first_after : now ≡ start → node ∷ rest ≡ start.view.wanted → pass_after F (the_next (next_of_pass F now)) 0 now ≡ in_view start (returning start.view rest)
    first_after same wanted =
        after_next_is F now (GiveNode node) (first_given same wanted) 0 ∙ ap (λ (q : PassView). pass_after F (GiveNode node) 0 q) same
        ∙ plain_after F start (GiveNode node) 0 plain
        ∙ ap (λ (q : Point). in_view start (view_after_give F start.view q)) at
        ∙ ap (λ (ns : List ℕ). in_view start (returning start.view (rest_of ns))) (sym wanted)

    at_rest : (leaves : List ℕ) → returning (returning start.view (node ∷ leaves)) leaves ≡ returning start.view leaves
    at_rest [] = refl
    at_rest (leaf ∷ leaves) = refl

    later_after : now ≡ in_view start (returning start.view (node ∷ rest)) → pass_after F (the_next (next_of_pass F now)) 0 now ≡ in_view start (returning start.view rest)
    later_after is =
        ap (λ (q : PassView). pass_after F (the_next (next_of_pass F q)) 0 q) is
        ∙ (λ i. record (in_view start (returning (returning start.view (node ∷ rest)) rest)) { effect = none_kept (is_resolving (returning (returning start.view (node ∷ rest)) rest).point) None refl i })
        ∙ ap (in_view start) (at_rest rest)

    pub returned_more : HasReturned F passes table start now (node ∷ rest) → (new : PassView) → IsHandOf F passes table new → new ≡ pass_after F (the_next (next_of_pass F now)) 0 now → HasReturned F passes table start new rest
    returned_more is new own after = record {
      own = own;
      phase = elim is.phase [
        | inl none ↦ inr (after ∙ first_after none.0 none.1)
        | inr some ↦ inr (after ∙ later_after some)
      ];
    }

  pub returned_all : (now : PassView) → IsPassOf F passes table start → HasReturned F passes table start now [] → now ≡ in_view start (without_command start.view)
  returned_all now own is = elim is.phase [
    | inl none ↦
        let some : 0 < length start.view.wanted = own.sound_sight.sound.next.some_wanted (ap (λ (q : Point). is_whole (stage_of q)) at) in
        let zero : 0 ≡ length start.view.wanted = ap (λ (ns : List ℕ). length ns) none.1 in
        absurd (omega (arith, some, zero))
    | inr some ↦ some
  ]

-- ---- the lowest leaf

-- the lowest leaf comes first
pub leaves_first : (F : Fixed) (word rest bit node : ℕ) → IsTreeDepth F.tree.depth → node ≡ leaf_node F.tree.depth bit → word < 2 ^ 2 ^ F.tree.depth → has_bit word bit ≡ true
    → ((i : ℕ) → i < bit → has_bit word i ≡ false) → ((i : ℕ) → i < 64 → has_bit rest i ≡ (has_bit word i && not (i == bit)))
    → leaves_in F word ≡ node ∷ leaves_in F rest
leaves_first F word rest bit node depth at small there lowest without =
    ap (map (leaf_node F.tree.depth)) (lowest_first (2 ^ F.tree.depth) word rest bit (leaves_few F depth) small there lowest without)
    ∙ ap (λ (n : ℕ). n ∷ leaves_in F rest) (sym at)

pub leaves_none : (F : Fixed) → leaves_in F 0 ≡ []
leaves_none F = ap (map (leaf_node F.tree.depth)) (bits_none (2 ^ F.tree.depth))
