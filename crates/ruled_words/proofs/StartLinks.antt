-- The list words at the start, made player by player.
use Rattle.std.proofs.Common.{◌≡◌, ℕ, ◌+◌, ◌^◌, ◌<◌, ◌==◌, ◌&&◌, Bool, true, false, if◌then◌else◌, List, length, set, length-set, get_or, get_or-set_same, get_or-set_other, refl, sym, ap, ◌∙◌, subst, inl, inr, Some, None, arith}
use Rattle.std.proofs.lemmas.Bool.{cases_eq, eq-eqb, ne_eqb}
use Rattle.areanode.specs.Words.{word_of}
use Rattle.areanode.proofs.Words.{word_of-below, word_none, word_next}
use Rattle.core_steps.specs.declared.sizes.TheConstants.{TABLE_NODES}
use Rattle.core_steps.specs.Nodes.{home}
use Rattle.core_steps.specs.Stands.{is_player, start_words}
use Rattle.core_steps.proofs.StartWords.{zeros_at, zeros}
use Rattle.world_tree.specs.Worlds.{WorldView}
use Rattle.ruled_words.specs.Starts.{world_at_start, fixed_of_world, home_of}
use Rattle.ruled_words.proofs.Worlds.{is_found, is_missing}

-- the player of this slot is live and linked at the node
abbrev pub links_here : WorldView → ℕ → ℕ → Bool
links_here w node slot = is_player (fixed_of_world w) slot && (node == home (fixed_of_world w) ((world_at_start w).record_of slot))

-- these are the list words of all nodes, with the bits of the players before this one
pub record AreLinks (w : WorldView) (slot : ℕ) (links : List ℕ) : Type 0 where
  pub size : length links ≡ TABLE_NODES
  pub each : (node : ℕ) → node < TABLE_NODES → get_or links node 0 ≡ word_of slot (links_here w node)

pub none_linked_yet : (w : WorldView) → AreLinks w 0 (zeros TABLE_NODES)
none_linked_yet w = record { size = refl; each = λ node below. zeros_at TABLE_NODES node ∙ word_none (links_here w node) }

-- each has bits of these players alone
pub link_below : (w : WorldView) (slot node : ℕ) (links : List ℕ) → AreLinks w slot links → node < TABLE_NODES → get_or links node 0 < 2 ^ slot
link_below w slot node links is below = subst (λ (n : ℕ). n < 2 ^ slot) (sym (is.each node below)) (word_of-below slot (links_here w node))

-- a word with one more test that passes, and with one that doesn't
word_plus : (n : ℕ) (test : ℕ → Bool) → test n ≡ true → word_of (n + 1) test ≡ 2 ^ n + word_of n test
word_plus n test is = word_next n test ∙ ap (λ (c : Bool). (if c then 2 ^ n else 0) + word_of n test) is

word_same : (n : ℕ) (test : ℕ → Bool) → test n ≡ false → word_of (n + 1) test ≡ word_of n test
word_same n test is = word_next n test ∙ ap (λ (c : Bool). (if c then 2 ^ n else 0) + word_of n test) is ∙ omega arith

-- the player is linked at this node
pub link_more : (w : WorldView) (slot h x : ℕ) (links : List ℕ) → AreLinks w slot links → h < TABLE_NODES → Some h ≡ home_of w slot → x ≡ 2 ^ slot + get_or links h 0
    → AreLinks w (slot + 1) (set links h x)
link_more w slot h x links is below home_is more = record {
  size = length-set links h x ∙ is.size;
  each = λ node within.
      let b = is_player (fixed_of_world w) slot in
      let at = home (fixed_of_world w) ((world_at_start w).record_of slot) in
      let test : links_here w node slot ≡ (node == h) = sym (is_found b at h node home_is) in
      elim (cases_eq node h) [
        | inl same ↦
            let there : h < length links = omega (arith, below, is.size) in
            ap (λ (n : ℕ). get_or (set links h x) n 0) same ∙ get_or-set_same links h x 0 there ∙ more
            ∙ ap (λ (n : ℕ). 2 ^ slot + n) (is.each h below)
            ∙ ap (λ (n : ℕ). 2 ^ slot + word_of slot (links_here w n)) (sym same)
            ∙ sym (word_plus slot (links_here w node) (test ∙ eq-eqb node h same))
        | inr other ↦
            get_or-set_other links h node x 0 other ∙ is.each node within
            ∙ sym (word_same slot (links_here w node) (test ∙ ne_eqb node h other))
      ];
}

-- the player isn't live
pub link_same : (w : WorldView) (slot : ℕ) (links : List ℕ) → AreLinks w slot links → None ≡ home_of w slot → AreLinks w (slot + 1) links
link_same w slot links is none = record {
  size = is.size;
  each = λ node within.
      let b = is_player (fixed_of_world w) slot in
      let at = home (fixed_of_world w) ((world_at_start w).record_of slot) in
      is.each node within ∙ sym (word_same slot (links_here w node) (sym (is_missing b at node none)));
}

-- all players' bits are set
pub all_linked : (w : WorldView) (slot : ℕ) (links : List ℕ) → AreLinks w slot links → slot ≡ 64 → (node : ℕ) → node < TABLE_NODES → get_or links node 0 ≡ (start_words (fixed_of_world w)).links node
all_linked w slot links is end node below = is.each node below ∙ ap (λ (n : ℕ). word_of n (links_here w node)) end
