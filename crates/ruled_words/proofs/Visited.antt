-- A node is read: its list word, and the words of the players under it.
use Rattle.std.proofs.Common.{◌≡◌, ◌≢◌, ℕ, ◌<◌, Bool, true, false, ◌&&◌, ◌||◌, not, if◌then◌else◌, List, [], ◌∷◌, length, refl, sym, ap, ◌∙◌, subst, inl, inr, bit_or, slice_set, get_or-set_same, get_or-set_other, Option, Some, None}
use Rattle.std.specs.Prelude.{◌==◌, get_or}
use Rattle.std.proofs.lemmas.Bool.{cases_Bool, cond-true, cond-false, eqb-true, eq-eqb, ne_eqb, true≢false, and_parts}
use Rattle.std.proofs.lemmas.Nat.Bits.{bit_at-zero}
use Rattle.std.proofs.Math.Bool.{and-false, and-true, and-not_self, or-false, or-true}
use Rattle.areanode.specs.Words.{has_bit}
use Rattle.core_steps.specs.Nodes.{Fixed, is_leaf}
use Rattle.core_steps.specs.Points.{Point, Entered, Loading, Leaving}
use Rattle.core_steps.specs.Reads.{View, PlayerRead, player_at, without_player, players_in}
use Rattle.core_steps.specs.Steps.{loading}
use Rattle.core_steps.specs.Machine.{Next, ReadList}
use Rattle.core_steps.proofs.Players.{without_other}
use Rattle.core_seats.specs.Nexts.{the_next}
use Rattle.ruled_words.specs.Hands.{IsPlain}
use Rattle.ruled_words.specs.Loads.{after_loads, record_loaded_next}
use Rattle.ruled_words.specs.Passes.{PassView, next_of_pass, pass_after, list_read_next}
use Rattle.ruled_words.specs.Straight.{in_view, HasKept}
use Rattle.ruled_words.specs.Visits.{plan_left, under_until}
use Rattle.ruled_words.proofs.EitherBits.{either_bits}
use Rattle.ruled_words.proofs.LoadedWords.{plain_after, plain_next, kept_in_view, by_six, visiting_same}

-- what is loaded under a node depends on the command and the own record alone
pub loading_same : (F : Fixed) (v w : View) (node : ℕ) (players plan : List ℕ) → v.cmd ≡ w.cmd → v.own ≡ w.own → loading F v node players plan ≡ loading F w node players plan
loading_same F v w node [] plan cmd own = ap (λ (q : Point). if is_leaf F node then q else Leaving node plan) (visiting_same F v w plan cmd own)
loading_same F v w node (slot ∷ players) plan cmd own = refl

-- ---- the list word

module _ (F : Fixed) (p : PassView) (node : ℕ) (plain : IsPlain p) (at : p.view.point ≡ Entered node (plan_left p.view.point)) where
  list_is : next_of_pass F p ≡ Some (ReadList node (plan_left p.view.point))
  list_is = plain_next F p (Entered node (plan_left p.view.point)) plain at

  pub list_comes : list_read_next (next_of_pass F p) ≡ Some node
  list_comes = ap (λ (o : Option Next). list_read_next o) list_is

  -- the list word was loaded
  list_made : (new : PassView) (word : ℕ) → new ≡ pass_after F (the_next (next_of_pass F p)) word p → new ≡ in_view p (record p.view {
    lists = record { node = node; word = word } ∷ p.view.lists;
    point = loading F p.view node (players_in word p.view.cmd.slot) (plan_left p.view.point);
  })
  list_made new word after =
      after ∙ ap (λ (o : Option Next). pass_after F (the_next o) word p) list_is ∙ plain_after F p (ReadList node (plan_left p.view.point)) word plain

  pub under_start : (new : PassView) (word : ℕ) → new ≡ pass_after F (the_next (next_of_pass F p)) word p → new ≡ under_until F p node (players_in word p.view.cmd.slot) new
  under_start new word after =
      subst (λ (q : PassView). q ≡ under_until F p node (players_in word p.view.cmd.slot) q) (sym (list_made new word after)) refl

  pub same_others : (new : PassView) (word : ℕ) → new ≡ pass_after F (the_next (next_of_pass F p)) word p → new.view.others ≡ p.view.others
  same_others new word after = ap (λ (q : PassView). q.view.others) (list_made new word after)

-- ---- a player under it

module _ (F : Fixed) (p : PassView) (node slot : ℕ) (players : List ℕ) (now : PassView) (is : now ≡ under_until F p node (slot ∷ players) now) where
  abbrev plan : List ℕ
  plan = plan_left p.view.point

  -- the lists and the players that are loaded
  abbrev seen : View
  seen = record p.view { lists = now.view.lists; others = now.view.others }

  -- the player's words come next
  pub under_next : record_loaded_next now.view (next_of_pass F now) ≡ Some slot
  under_next = ap (λ (q : PassView). record_loaded_next q.view (next_of_pass F q)) is

  abbrev with_player : List ℕ → View
  with_player words = record seen {
    others = record { slot = slot; words = words } ∷ without_player slot now.view.others;
    point = loading F seen node players plan;
  }

  six_loaded : (a b c d e f : ℕ) → after_loads F (in_view p (record seen { point = Loading node [] (slot ∷ players) plan })) (a ∷ b ∷ c ∷ d ∷ e ∷ f ∷ [])
      ≡ in_view p (record (with_player (a ∷ b ∷ c ∷ d ∷ e ∷ f ∷ [])) { point = loading F (record seen { point = Loading node (a ∷ b ∷ c ∷ d ∷ e ∷ []) (slot ∷ players) plan }) node players plan })
  six_loaded a b c d e f =
      kept_in_view p (record (with_player (a ∷ b ∷ c ∷ d ∷ e ∷ f ∷ [])) { point = loading F (record seen { point = Loading node (a ∷ b ∷ c ∷ d ∷ e ∷ []) (slot ∷ players) plan }) node players plan }) p.tally

  loaded : (words : List ℕ) → length words ≡ 6 → after_loads F now words ≡ in_view p (record (with_player words) { point = loading F p.view node players plan })
  loaded words six =
      ap (λ (q : PassView). after_loads F q words) is
      ∙ by_six (λ (ws : List ℕ). after_loads F (in_view p (record seen { point = Loading node [] (slot ∷ players) plan })) ws ≡ in_view p (record (with_player ws) { point = loading F p.view node players plan }))
      (λ a b c d e f. six_loaded a b c d e f
      ∙ ap (λ (q : Point). in_view p (record (with_player (a ∷ b ∷ c ∷ d ∷ e ∷ f ∷ [])) { point = q }))
      (loading_same F (record seen { point = Loading node (a ∷ b ∷ c ∷ d ∷ e ∷ []) (slot ∷ players) plan }) p.view node players plan refl refl))
      words six

  pub under_others : (new : PassView) (words : List ℕ) → new ≡ after_loads F now words → length words ≡ 6
      → new.view.others ≡ record { slot = slot; words = words } ∷ without_player slot now.view.others
  under_others new words after six = ap (λ (q : PassView). q.view.others) (after ∙ loaded words six)

  -- its words were loaded
  pub under_more : (new : PassView) (words : List ℕ) → new ≡ after_loads F now words → length words ≡ 6 → new ≡ under_until F p node players new
  under_more new words after six =
      subst (λ (q : PassView). q ≡ under_until F p node players q) (sym (after ∙ loaded words six)) refl

-- ---- the words kept by slot

-- a player's words are kept where they were loaded, and are as they were where they weren't
abbrev pub KeptAt : Bool → List (List ℕ) → List (List ℕ) → List PlayerRead → List PlayerRead → ℕ → Type 0
KeptAt true old_six six old others s = player_at others s ≡ Some (get_or six s [])
KeptAt false old_six six old others s = (player_at others s ≡ player_at old s) × (get_or six s [] ≡ get_or old_six s [])

-- of these players, those that aren't left were loaded, and those that are left are of these
pub record AreKept (players left : ℕ) (old_six six : List (List ℕ)) (old others : List PlayerRead) : Type 0 where
  pub each : (s : ℕ) → s < 64 → KeptAt (has_bit players s && not (has_bit left s)) old_six six old others s
  pub among : (s : ℕ) → s < 64 → has_bit left s ≡ true → has_bit players s ≡ true

pub kept_start : (players : ℕ) (six : List (List ℕ)) (others : List PlayerRead) → AreKept players players six six others others
kept_start players six others = record {
  each = λ s within. subst (λ (b : Bool). KeptAt b six six others others s) (sym (and-not_self (has_bit players s))) (refl, refl);
  among = λ s within there. there;
}

module _ (players left rest slot : ℕ) (old_six six : List (List ℕ)) (old others : List PlayerRead) (words : List ℕ) (is : AreKept players left old_six six old others) (below : slot < 64) (there : has_bit left slot ≡ true)
    (without : (i : ℕ) → i < 64 → has_bit rest i ≡ (has_bit left i && not (i == slot))) (long : slot < length six) where
  abbrev more : List PlayerRead
  more = record { slot = slot; words = words } ∷ without_player slot others

  here_kept : KeptAt (has_bit players slot && not (has_bit rest slot)) old_six (slice_set six slot words) old more slot
  here_kept =
      let gone : has_bit rest slot ≡ false = without slot below ∙ ap (λ (b : Bool). has_bit left slot && not b) (eq-eqb slot slot refl) ∙ and-false (has_bit left slot) in
      let done : (has_bit players slot && not (has_bit rest slot)) ≡ true = ap (λ (b : Bool). has_bit players slot && not b) gone ∙ and-true (has_bit players slot) ∙ is.among slot below there in
      subst (λ (b : Bool). KeptAt b old_six (slice_set six slot words) old more slot) (sym done)
      (cond-true (slot == slot) (Some words) (player_at (without_player slot others) slot) (eq-eqb slot slot refl)
      ∙ ap Some (sym (get_or-set_same six slot words [] long)))

  other_kept : (b : Bool) (s : ℕ) → s ≢ slot → KeptAt b old_six six old others s → KeptAt b old_six (slice_set six slot words) old more s
  other_kept true s apart kept =
      cond-false (slot == s) (Some words) (player_at (without_player slot others) s) (ne_eqb slot s (λ e. apart (sym e))) ∙ without_other others slot s (ne_eqb s slot apart)
      ∙ kept ∙ ap Some (sym (get_or-set_other six slot s words [] apart))
  other_kept false s apart kept = (
    cond-false (slot == s) (Some words) (player_at (without_player slot others) s) (ne_eqb slot s (λ e. apart (sym e))) ∙ without_other others slot s (ne_eqb s slot apart) ∙ kept.0,
    get_or-set_other six slot s words [] apart ∙ kept.1,
  )

  at_each : (s : ℕ) → s < 64 → KeptAt (has_bit players s && not (has_bit rest s)) old_six (slice_set six slot words) old more s
  at_each s within = elim (cases_Bool (s == slot)) [
    | inl same ↦ subst (λ (n : ℕ). KeptAt (has_bit players n && not (has_bit rest n)) old_six (slice_set six slot words) old more n) (sym (eqb-true s slot same)) here_kept
    | inr other ↦
        let as_it_was : has_bit rest s ≡ has_bit left s = without s within ∙ ap (λ (b : Bool). has_bit left s && not b) other ∙ and-true (has_bit left s) in
        subst (λ (b : Bool). KeptAt (has_bit players s && not b) old_six (slice_set six slot words) old more s) (sym as_it_was)
        (other_kept (has_bit players s && not (has_bit left s)) s (λ e. true≢false (sym (eq-eqb s slot e) ∙ other)) (is.each s within))
  ]

  pub kept_more : AreKept players rest old_six (slice_set six slot words) old more
  kept_more = record {
    each = at_each;
    among = λ s within bit. is.among s within (and_parts (has_bit left s) (not (s == slot)) (sym (without s within) ∙ bit)).0;
  }

pub no_bit : (i : ℕ) → has_bit 0 i ≡ false
no_bit i = ap (λ (n : ℕ). n == 1) (bit_at-zero i)

-- the bits that count are the same
pub kept_same : (one two : ℕ) (six : List (List ℕ)) (others : List PlayerRead) → ((i : ℕ) → has_bit one i ≡ has_bit two i) → HasKept one six others → HasKept two six others
kept_same one two six others same kept s within =
    kept s within ∙ ap (λ (b : Bool). if b then Some (get_or six s []) else None) (same s)

-- no player is left
pub kept_end : (players seen : ℕ) (old_six six : List (List ℕ)) (old others : List PlayerRead) → AreKept players 0 old_six six old others → HasKept seen old_six old → HasKept (bit_or seen players) six others
kept_end players seen old_six six old others is kept s within =
    at_bit (has_bit players s) refl (subst (λ (b : Bool). KeptAt b old_six six old others s) (ap (λ (b : Bool). has_bit players s && not b) (no_bit s) ∙ and-true (has_bit players s)) (is.each s within))
  where
    at_bit : (b : Bool) → has_bit players s ≡ b → KeptAt b old_six six old others s → player_at others s ≡ (if has_bit (bit_or seen players) s then Some (get_or six s []) else None)
    at_bit true there here =
        here ∙ sym (cond-true (has_bit (bit_or seen players) s) (Some (get_or six s [])) None (either_bits seen players s ∙ ap (λ (b : Bool). has_bit seen s || b) there ∙ or-true (has_bit seen s)))
    at_bit false none here =
        here.0 ∙ kept s within
        ∙ (λ i. if has_bit seen s then Some (sym here.1 i) else None)
        ∙ ap (λ (b : Bool). if b then Some (get_or six s []) else None) (sym (either_bits seen players s ∙ ap (λ (b : Bool). has_bit seen s || b) none ∙ or-false (has_bit seen s)))
