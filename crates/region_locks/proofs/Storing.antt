-- A pass makes the next store that it owes: it clears its player's bit, puts a word of a record, or sets the bit.
use Rattle.std.proofs.Common.{◌≡◌, ℕ, ◌+◌, Bool, true, false, if◌then◌else◌, List, [], ◌∷◌, refl, sym, ap, subst, Option, Some, None, is_some}
use Rattle.std.proofs.lemmas.Bool.{false≢true}
use Rattle.core_steps.specs.declared.sizes.TheConstants.{FIRST_LIST_WORD}
use Rattle.entity_recs.specs.declared.effect.Effect.{Effect}
use Rattle.entity_recs.specs.Commands.{Command}
use Rattle.core_steps.specs.Cells.{with_bit, without_bit}
use Rattle.core_steps.specs.Nodes.{Fixed, write_nodes}
use Rattle.core_steps.specs.Points.{Store, Clear, Put, Link, Point, Idle, Owning, Taking, Checking, Entering, Entered}
use Rattle.core_steps.specs.Points.{Loading, Leaving, Sensing, Resolving, Claiming, Storing, Releasing, Returning}
use Rattle.core_steps.specs.Points.{Yielding, stores_owed}
use Rattle.core_steps.specs.Reads.{View, record_read}
use Rattle.core_steps.specs.Steps.{first_yield, next_give}
use Rattle.core_steps.specs.Machine.{Next, beginning, StoreWord, resolving, quitting, committing, giving, index_of}
use Rattle.core_seats.specs.Going.{word_left}
use Rattle.core_seats.specs.Nexts.{next_resolved, next_point, the_next}
use Rattle.ruled_words.specs.Passes.{PassView, next_of_pass, pass_after}
use Rattle.region_locks.specs.NextCalls.{bit_owed, index_owed, word_owed, store_made, store_made_next, is_clear, is_put, is_set, is_unlink_next, is_store_next, is_link_next}

-- what is known of a pass whose next step makes this store
pub record Makes (p : PassView) (store : Store) (next : Next) : Type 0 where
  pub nodes : List ℕ
  pub stores : List Store
  pub owed : stores_owed p.view.point ≡ store ∷ stores
  pub is : next ≡ StoreWord nodes store stores

none_made : {R : Type 0} (store : Store) → None ≡ Some store → R
none_made store e = cc

begin_makes : {R : Type 0} (store : Store) (given : Option Command) → store_made_next (beginning given) ≡ Some store → R
begin_makes store None e = none_made store e
begin_makes store (Some c) e = none_made store e

give_makes : {R : Type 0} (store : Store) (o : Option ℕ) → store_made_next (giving o) ≡ Some store → R
give_makes store None e = none_made store e
give_makes store (Some node) e = none_made store e

quit_makes : {R : Type 0} (store : Store) (o : Option ℕ) → store_made (quitting o) ≡ Some store → R
quit_makes store None e = none_made store e
quit_makes store (Some node) e = none_made store e

commit_makes : {R : Type 0} (store : Store) (o : Option Effect) (nodes : List ℕ) → store_made_next (committing o nodes) ≡ Some store → R
commit_makes store None nodes e = none_made store e
commit_makes store (Some f) nodes e = none_made store e

free_makes : {R : Type 0} (store : Store) (f : Effect) (nodes : List ℕ) → store_made (resolving f nodes) ≡ Some store → R
free_makes store f [] e = none_made store e
free_makes store f (node ∷ nodes) e = none_made store e

resolved_makes : {R : Type 0} (store : Store) (F : Fixed) (view : View) (o : Option Effect) → store_made_next (next_resolved F view o) ≡ Some store → R
resolved_makes store F view None e = none_made store e
resolved_makes store F view (Some f) e = free_makes store f (write_nodes F (record_read view.cmd.slot view.again) f) e

same_store : (a b : Store) → Some a ≡ Some b → a ≡ b
same_store a b e = cc

module _ (F : Fixed) (p : PassView) (store : Store) where
  makes_at : (point : Point) → p.view.point ≡ point → store_made_next (next_point F p.view p.given p.effect point) ≡ Some store → Makes p store (the_next (next_point F p.view p.given p.effect point))
  makes_at Idle at e = begin_makes store p.given e
  makes_at Owning at e = none_made store e
  makes_at (Taking got []) at e = none_made store e
  makes_at (Taking got (leaf ∷ rest)) at e = none_made store e
  makes_at Checking at e = none_made store e
  makes_at (Entering node plan) at e = none_made store e
  makes_at (Entered node plan) at e = none_made store e
  makes_at (Loading node part [] plan) at e = none_made store e
  makes_at (Loading node part (slot ∷ players) plan) at e = none_made store e
  makes_at (Leaving node plan) at e = none_made store e
  makes_at (Sensing []) at e = none_made store e
  makes_at (Sensing (id ∷ ids)) at e = none_made store e
  makes_at Resolving at e = resolved_makes store F p.view p.effect e
  makes_at (Claiming got []) at e = commit_makes store p.view.effect got e
  makes_at (Claiming got (node ∷ rest)) at e = none_made store e
  makes_at (Storing nodes []) at e = none_made store e
  makes_at (Storing nodes (s ∷ stores)) at e =
      subst (λ (t : Store). Makes p t (StoreWord nodes s stores)) (same_store s store e) (record { nodes = nodes; stores = stores; owed = ap stores_owed at; is = refl })
  makes_at (Releasing nodes) at e = give_makes store (next_give (Releasing nodes) p.view.wanted) e
  makes_at (Returning leaves) at e = give_makes store (next_give (Returning leaves) p.view.wanted) e
  makes_at (Yielding nodes leaves) at e = give_makes store (next_give (Yielding nodes leaves) p.view.wanted) e

  pub makes_next : store_made_next (next_of_pass F p) ≡ Some store → Makes p store (the_next (next_of_pass F p))
  makes_next made = by_quits p.quits made
    where
      by_quits : (quits : Bool) → store_made_next (if quits then Some (quitting (first_yield F p.view)) else next_point F p.view p.given p.effect p.view.point) ≡ Some store
          → Makes p store (the_next (if quits then Some (quitting (first_yield F p.view)) else next_point F p.view p.given p.effect p.view.point))
      by_quits true e = quit_makes store (first_yield F p.view) e
      by_quits false e = makes_at p.view.point refl e

-- what is known of a pass whose next step clears its player's bit
pub record Unlinks (F : Fixed) (p : PassView) (next : Next) : Type 0 where
  pub index : index_of p.view next ≡ FIRST_LIST_WORD + bit_owed (stores_owed p.view.point)
  pub left : (found : ℕ) → word_left F p.number p.view next found ≡ without_bit found p.view.cmd.slot
  pub blind : (found : ℕ) → pass_after F next found p ≡ pass_after F next 0 p

-- what is known of a pass whose next step puts a word
pub record Puts (F : Fixed) (p : PassView) (next : Next) : Type 0 where
  pub index : index_of p.view next ≡ index_owed (stores_owed p.view.point)
  pub left : (found : ℕ) → word_left F p.number p.view next found ≡ word_owed (stores_owed p.view.point)
  pub blind : (found other : ℕ) → pass_after F next found p ≡ pass_after F next other p

-- what is known of a pass whose next step sets its player's bit
pub record Links (F : Fixed) (p : PassView) (next : Next) : Type 0 where
  pub index : index_of p.view next ≡ FIRST_LIST_WORD + bit_owed (stores_owed p.view.point)
  pub left : (found : ℕ) → word_left F p.number p.view next found ≡ with_bit found p.view.cmd.slot
  pub blind : (found : ℕ) → pass_after F next found p ≡ pass_after F next 0 p

not_true : {R : Type 0} → false ≡ true → R
not_true e = absurd (false≢true e)

module _ (F : Fixed) (p : PassView) where
  unlinks_with : (o : Option Store) → store_made_next (next_of_pass F p) ≡ o → is_clear o ≡ true → Unlinks F p (the_next (next_of_pass F p))
  unlinks_with None made e = not_true e
  unlinks_with (Some (Clear node)) made e =
      let m = makes_next F p (Clear node) made in
      subst (Unlinks F p) (sym m.is) (record { index = ap (λ (s : List Store). FIRST_LIST_WORD + bit_owed s) (sym m.owed); left = λ found. refl; blind = λ found. refl })
  unlinks_with (Some (Put cell x)) made e = not_true e
  unlinks_with (Some (Link node)) made e = not_true e

  pub unlinks_next : is_unlink_next (next_of_pass F p) ≡ true → Unlinks F p (the_next (next_of_pass F p))
  unlinks_next e = unlinks_with (store_made_next (next_of_pass F p)) refl e

  puts_with : (o : Option Store) → store_made_next (next_of_pass F p) ≡ o → is_put o ≡ true → Puts F p (the_next (next_of_pass F p))
  puts_with None made e = not_true e
  puts_with (Some (Clear node)) made e = not_true e
  puts_with (Some (Put cell x)) made e =
      let m = makes_next F p (Put cell x) made in
      subst (Puts F p) (sym m.is) (record { index = ap index_owed (sym m.owed); left = λ found. ap word_owed (sym m.owed); blind = λ found other. refl })
  puts_with (Some (Link node)) made e = not_true e

  pub puts_next : is_store_next (next_of_pass F p) ≡ true → Puts F p (the_next (next_of_pass F p))
  puts_next e = puts_with (store_made_next (next_of_pass F p)) refl e

  links_with : (o : Option Store) → store_made_next (next_of_pass F p) ≡ o → is_set o ≡ true → Links F p (the_next (next_of_pass F p))
  links_with None made e = not_true e
  links_with (Some (Clear node)) made e = not_true e
  links_with (Some (Put cell x)) made e = not_true e
  links_with (Some (Link node)) made e =
      let m = makes_next F p (Link node) made in
      subst (Links F p) (sym m.is) (record { index = ap (λ (s : List Store). FIRST_LIST_WORD + bit_owed s) (sym m.owed); left = λ found. refl; blind = λ found. refl })

  pub links_next : is_link_next (next_of_pass F p) ≡ true → Links F p (the_next (next_of_pass F p))
  links_next e = links_with (store_made_next (next_of_pass F p)) refl e

pub unlink_there : (o : Option Next) → is_unlink_next o ≡ true → is_some o ≡ true
unlink_there None e = not_true e
unlink_there (Some next) e = refl

pub store_there : (o : Option Next) → is_store_next o ≡ true → is_some o ≡ true
store_there None e = not_true e
store_there (Some next) e = refl

pub link_there : (o : Option Next) → is_link_next o ≡ true → is_some o ≡ true
link_there None e = not_true e
link_there (Some next) e = refl
