-- The words of a record that a hand loads, one after another.
use Rattle.std.proofs.Common.{◌≡◌, ℕ, suc, ◌+◌, ◌<◌, ◌≤◌, take, set, arith, Bool, true, false, if◌then◌else◌, List, [], ◌∷◌, ◌++◌, length, refl, ap, ◌∙◌, Option, Some, None}
use Rattle.std.specs.Prelude.{◌==◌}
use Rattle.std.proofs.lemmas.Bool.{cond-true, cond-false, ne_eqb, eq-eqb}
use Rattle.std.proofs.lemmas.List.{length-take-le, take_all, take_more_set}
use Rattle.entity_recs.specs.declared.effect.Effect.{Effect}
use Rattle.entity_recs.specs.Commands.{Command}
use Rattle.core_steps.specs.Cells.{cell_of, cell_index}
use Rattle.core_steps.specs.Nodes.{Fixed, plan_of}
use Rattle.core_steps.specs.Points.{Point, Owning, Checking}
use Rattle.core_steps.specs.Reads.{View, region_in, things_in}
use Rattle.core_steps.specs.Steps.{owned, visiting, sensing}
use Rattle.core_steps.specs.Machine.{Next, LoadOwn, index_of}
use Rattle.core_seats.specs.Going.{view_found, word_left}
use Rattle.core_seats.specs.Nexts.{next_point, the_next}
use Rattle.core_seats.specs.Ready.{is_resolving}
use Rattle.ruled_words.specs.Hands.{IsPlain, begun_with, plain_pass}
use Rattle.ruled_words.specs.Loads.{after_loads, record_loaded_next}
use Rattle.ruled_words.specs.Passes.{PassView, effect_kept, next_of_pass, pass_after, word_after}
use Rattle.ruled_words.specs.Sights.{Tally, tally_after}
use Rattle.ruled_words.specs.Straight.{in_view, in_view_with, taking_leaves}

-- no effect is kept where none was
pub none_kept : (b : Bool) (o : Option Effect) → o ≡ None → (if b then o else None) ≡ None
none_kept true o none = none
none_kept false o none = refl

-- a plain pass is its view, beside its table, number and tally
pub plain_is : (p : PassView) → IsPlain p → p ≡ in_view p p.view
plain_is p plain = λ i. record p { given = plain.given i; quits = plain.quits i; effect = plain.effect i }

-- a pass in view with this tally, whose effect is one that is kept
pub kept_in_view : (p : PassView) (view : View) (tally : Tally) → record (in_view_with p view tally) { effect = effect_kept view None } ≡ in_view_with p view tally
kept_in_view p view tally = λ i. record (in_view_with p view tally) { effect = none_kept (is_resolving view.point) None refl i }

-- a plain pass after a step is plain
pub plain_after : (F : Fixed) (p : PassView) (next : Next) (found : ℕ) → IsPlain p
    → pass_after F next found p ≡ in_view_with p (view_found F p.view next found) (tally_after next found (word_left F p.number p.view next found) p.tally)
plain_after F p next found plain =
    let view = view_found F p.view next found in
    (λ i. record (pass_after F next found p) { effect = none_kept (is_resolving view.point) p.effect plain.effect i })

-- what comes next of a plain pass at this point
pub plain_next : (F : Fixed) (p : PassView) (q : Point) → IsPlain p → p.view.point ≡ q → next_of_pass F p ≡ next_point F p.view None None q
plain_next F p q plain at = ap (λ (r : PassView). next_of_pass F r) (plain_is p plain) ∙ ap (λ (r : Point). next_point F p.view None None r) at

-- ---- the own record for a command

module _ (F : Fixed) (p : PassView) (c : Command) where
  -- one more command is begun
  abbrev pub begun_once : Tally
  begun_once = record p.tally { begun = suc p.tally.begun }

  -- the pass after these words of the own record were loaded for the command
  abbrev pub own_at : List ℕ → PassView
  own_at words = in_view_with p (owned F (record p.view { cmd = c; own = words; point = Owning })) begun_once

  -- the same where they are fewer than six
  abbrev part_at : List ℕ → PassView
  part_at words = in_view_with p (record p.view { cmd = c; own = words; point = Owning }) begun_once

  own_part : (words : List ℕ) → length words < 6 → own_at words ≡ part_at words
  own_part words below =
      ap (λ (v : View). in_view_with p v begun_once)
      (cond-false (length words == 6) (taking_leaves F c words p.view) (record p.view { cmd = c; own = words; point = Owning }) (ne_eqb (length words) 6 (omega (arith, below))))

  pub own_comes : (words : List ℕ) → length words < 6 → next_of_pass F (own_at words) ≡ Some LoadOwn
  own_comes words below = ap (λ (q : PassView). next_of_pass F q) (own_part words below)

  pub own_index : (words : List ℕ) → length words < 6 → index_of (own_at words).view (the_next (next_of_pass F (own_at words))) ≡ cell_index (cell_of c.slot (length words))
  own_index words below = ap (λ (q : PassView). index_of q.view (the_next (next_of_pass F q))) (own_part words below)

  pub own_left : (words : List ℕ) (found : ℕ) → length words < 6 → word_after F (own_at words) found ≡ found
  own_left words found below = ap (λ (q : PassView). word_after F q found) (own_part words below)

  -- one more word is loaded
  pub own_more : (words : List ℕ) (word : ℕ) → length words < 6 → pass_after F (the_next (next_of_pass F (own_at words))) word (own_at words) ≡ own_at (words ++ word ∷ [])
  own_more words word below =
      ap (λ (q : PassView). pass_after F (the_next (next_of_pass F q)) word q) (own_part words below)
      ∙ kept_in_view p (owned F (record p.view { cmd = c; own = words ++ word ∷ []; point = Owning })) begun_once

  -- the first word is loaded
  pub own_begun : (word : ℕ) → begun_with c word (plain_pass p) ≡ own_at (word ∷ [])
  own_begun word = refl

  -- all six are loaded
  pub own_whole : (words : List ℕ) → length words ≡ 6 → own_at words ≡ in_view_with p (taking_leaves F c words p.view) begun_once
  own_whole words six =
      ap (λ (v : View). in_view_with p v begun_once)
      (cond-true (length words == 6) (taking_leaves F c words p.view) (record p.view { cmd = c; own = words; point = Owning }) (eq-eqb (length words) 6 six))

-- ---- six words

-- the words of an array of six that are loaded, which come first
pub part_size : (words : List ℕ) (k : ℕ) → length words ≡ 6 → k ≤ 6 → length (take k words) ≡ k
part_size words k six few = length-take-le k words (omega (arith, six, few))

pub part_more : (words : List ℕ) (k word : ℕ) → length words ≡ 6 → k < 6 → take (k + 1) (set words k word) ≡ take k words ++ word ∷ []
part_more words k word six few = take_more_set words k word (omega (arith, six, few))

pub part_whole : (words : List ℕ) (k : ℕ) → length words ≡ 6 → k ≡ 6 → take k words ≡ words
part_whole words k six whole = take_all k words (omega (arith, six, whole))

pub by_six : (P : List ℕ → Type 0) → ((a b c d e f : ℕ) → P (a ∷ b ∷ c ∷ d ∷ e ∷ f ∷ [])) → (words : List ℕ) → length words ≡ 6 → P words
by_six P made [] six = absurd (omega (arith, six))
by_six P made (a ∷ []) six = absurd (omega (arith, six))
by_six P made (a ∷ b ∷ []) six = absurd (omega (arith, six))
by_six P made (a ∷ b ∷ c ∷ []) six = absurd (omega (arith, six))
by_six P made (a ∷ b ∷ c ∷ d ∷ []) six = absurd (omega (arith, six))
by_six P made (a ∷ b ∷ c ∷ d ∷ e ∷ []) six = absurd (omega (arith, six))
by_six P made (a ∷ b ∷ c ∷ d ∷ e ∷ f ∷ []) six = made a b c d e f
by_six P made (a ∷ b ∷ c ∷ d ∷ e ∷ f ∷ g ∷ words) six = absurd (omega (arith, six))

-- the visits depend on the command and the own record alone
pub visiting_same : (F : Fixed) (v w : View) (plan : List ℕ) → v.cmd ≡ w.cmd → v.own ≡ w.own → visiting F v plan ≡ visiting F w plan
visiting_same F v w [] cmd own = (λ i. sensing (things_in F (region_in F (cmd i) (own i))))
visiting_same F v w (node ∷ plan) cmd own = refl

-- ---- the own record again

module _ (F : Fixed) (p : PassView) (at : p.view.point ≡ Checking) (none : p.view.again ≡ []) (plain : IsPlain p) where
  -- the plan of the command
  abbrev plan : List ℕ
  plan = plan_of F (region_in F p.view.cmd p.view.own)

  at_checking : p ≡ in_view p (record p.view { again = []; point = Checking })
  at_checking = plain_is p plain ∙ (λ i. in_view p (record p.view { again = none i; point = at i }))

  pub again_next : record_loaded_next p.view (next_of_pass F p) ≡ Some p.view.cmd.slot
  again_next = ap (λ (q : PassView). record_loaded_next q.view (next_of_pass F q)) at_checking

  -- the view after these words were loaded
  abbrev again_view : List ℕ → View
  again_view words = record p.view { again = words; point = visiting F (record p.view { again = words; point = Checking }) plan }

  again_six : (a b c d e f : ℕ) → after_loads F (in_view p (record p.view { again = []; point = Checking })) (a ∷ b ∷ c ∷ d ∷ e ∷ f ∷ [])
      ≡ in_view p (again_view (a ∷ b ∷ c ∷ d ∷ e ∷ f ∷ []))
  again_six a b c d e f = kept_in_view p (again_view (a ∷ b ∷ c ∷ d ∷ e ∷ f ∷ [])) p.tally

  pub again_whole : (words : List ℕ) → length words ≡ 6
      → after_loads F p words ≡ in_view p (record p.view { again = words; point = visiting F p.view plan })
  again_whole words six =
      ap (λ (q : PassView). after_loads F q words) at_checking
      ∙ by_six (λ (ws : List ℕ). after_loads F (in_view p (record p.view { again = []; point = Checking })) ws ≡ in_view p (again_view ws)) again_six words six
      ∙ ap (λ (q : Point). in_view p (record p.view { again = words; point = q })) (visiting_same F (record p.view { again = words; point = Checking }) p.view plan refl refl)
