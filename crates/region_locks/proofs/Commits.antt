-- A pass commits.
use Rattle.std.proofs.Common.{◌≡◌, ℕ, ◌+◌, Bool, true, false, if◌then◌else◌, List, [], ◌∷◌, refl, ap, Option, Some, None, is_some, IfSome, IsSomeAnd}
use Rattle.std.proofs.lemmas.Bool.{false≢true}
use Rattle.std.proofs.Math.Numerals.{suc-eq-add-one}
use Rattle.entity_recs.specs.declared.effect.Effect.{Effect}
use Rattle.entity_recs.specs.declared.effect.Reply.{Reply}
use Rattle.entity_recs.specs.declared.effect.Entry.{Entry}
use Rattle.entity_recs.specs.Commands.{Command}
use Rattle.entity_recs.specs.Histories.{entry_of}
use Rattle.core_steps.specs.Nodes.{Fixed, write_nodes}
use Rattle.core_steps.specs.Points.{Point, Idle, Owning, Taking, Checking, Entering, Entered, Loading, Leaving, Sensing}
use Rattle.core_steps.specs.Points.{Resolving, Claiming, Storing, Releasing, Returning, Yielding}
use Rattle.core_steps.specs.Reads.{record_read}
use Rattle.core_steps.specs.Steps.{first_yield, next_give}
use Rattle.core_steps.specs.Machine.{Next, Begin, LoadOwn, LoadAgain, TakeNode, ClaimNode, ReadList, ReadPlayer, ReadState, CommitMove, StoreWord, GiveNode, YieldNode, YieldCount, beginning, resolving, quitting, committing, giving, index_of, kind_of}
use Rattle.core_steps.specs.declared.step.StepKind.TheVariants.{Commit}
use Rattle.core_seats.specs.Going.{word_left}
use Rattle.ruled_words.specs.Passes.{PassView, first_effect, effect_in_hand, next_of_pass}
use Rattle.region_locks.specs.NextCalls.{is_commit, is_commit_next}
use Rattle.core_seats.specs.Nexts.{next_resolved, next_point, the_next}

-- what is known of a pass whose next step commits
pub record Commits (F : Fixed) (p : PassView) (next : Next) : Type 0 where
  pub index : index_of p.view next ≡ 0
  pub left : (found : ℕ) → word_left F p.number p.view next found ≡ found + 1
  pub has_effect : is_some (effect_in_hand p) ≡ true

not_true : {R : Type 0} → false ≡ true → R
not_true e = absurd (false≢true e)

begin_commits : {R : Type 0} (given : Option Command) → is_commit_next (beginning given) ≡ true → R
begin_commits None e = not_true e
begin_commits (Some c) e = not_true e

give_commits : {R : Type 0} (o : Option ℕ) → is_commit_next (giving o) ≡ true → R
give_commits None e = not_true e
give_commits (Some node) e = not_true e

quit_commits : {R : Type 0} (o : Option ℕ) → is_commit (quitting o) ≡ true → R
quit_commits None e = not_true e
quit_commits (Some node) e = not_true e

-- the first of two effects is there where either is
kept_first : (kept in_view : Option Effect) → is_some kept ≡ true → is_some (first_effect kept in_view) ≡ true
kept_first None in_view is = not_true is
kept_first (Some e) in_view is = refl

viewed_first : (kept in_view : Option Effect) → is_some in_view ≡ true → is_some (first_effect kept in_view) ≡ true
viewed_first None in_view is = is
viewed_first (Some e) in_view is = refl

module _ (F : Fixed) (p : PassView) where
  commits_with : (e : Effect) (nodes : List ℕ) → is_some (effect_in_hand p) ≡ true → Commits F p (CommitMove e nodes)
  commits_with e nodes has = record { index = refl; left = suc-eq-add-one; has_effect = has }

  commits_claimed : (o : Option Effect) (nodes : List ℕ) → p.view.effect ≡ o → is_commit_next (committing o nodes) ≡ true → Commits F p (the_next (committing o nodes))
  commits_claimed None nodes same e = not_true e
  commits_claimed (Some f) nodes same e = commits_with f nodes (viewed_first p.effect p.view.effect (ap (λ (o : Option Effect). is_some o) same))

  commits_free : (f : Effect) (nodes : List ℕ) → is_some (effect_in_hand p) ≡ true → is_commit (resolving f nodes) ≡ true → Commits F p (resolving f nodes)
  commits_free f [] has e = commits_with f [] has
  commits_free f (node ∷ nodes) has e = not_true e

  commits_resolved : (o : Option Effect) → p.effect ≡ o → is_commit_next (next_resolved F p.view o) ≡ true → Commits F p (the_next (next_resolved F p.view o))
  commits_resolved None same e = not_true e
  commits_resolved (Some f) same e =
      commits_free f (write_nodes F (record_read p.view.cmd.slot p.view.again) f) (kept_first p.effect p.view.effect (ap (λ (o : Option Effect). is_some o) same)) e

  commits_at : (point : Point) → is_commit_next (next_point F p.view p.given p.effect point) ≡ true → Commits F p (the_next (next_point F p.view p.given p.effect point))
  commits_at Idle e = begin_commits p.given e
  commits_at Owning e = not_true e
  commits_at (Taking got []) e = not_true e
  commits_at (Taking got (leaf ∷ rest)) e = not_true e
  commits_at Checking e = not_true e
  commits_at (Entering node plan) e = not_true e
  commits_at (Entered node plan) e = not_true e
  commits_at (Loading node part [] plan) e = not_true e
  commits_at (Loading node part (slot ∷ players) plan) e = not_true e
  commits_at (Leaving node plan) e = not_true e
  commits_at (Sensing []) e = not_true e
  commits_at (Sensing (id ∷ ids)) e = not_true e
  commits_at Resolving e = commits_resolved p.effect refl e
  commits_at (Claiming got []) e = commits_claimed p.view.effect got refl e
  commits_at (Claiming got (node ∷ rest)) e = not_true e
  commits_at (Storing nodes []) e = not_true e
  commits_at (Storing nodes (store ∷ stores)) e = not_true e
  commits_at (Releasing nodes) e = give_commits (next_give (Releasing nodes) p.view.wanted) e
  commits_at (Returning leaves) e = give_commits (next_give (Returning leaves) p.view.wanted) e
  commits_at (Yielding nodes leaves) e = give_commits (next_give (Yielding nodes leaves) p.view.wanted) e

  pub commits_next : is_commit_next (next_of_pass F p) ≡ true → Commits F p (the_next (next_of_pass F p))
  commits_next commits = by_quits p.quits commits
    where
      by_quits : (quits : Bool) → is_commit_next (if quits then Some (quitting (first_yield F p.view)) else next_point F p.view p.given p.effect p.view.point) ≡ true
          → Commits F p (the_next (if quits then Some (quitting (first_yield F p.view)) else next_point F p.view p.given p.effect p.view.point))
      by_quits true e = quit_commits (first_yield F p.view) e
      by_quits false e = commits_at p.view.point e

pub commit_there : (o : Option Next) → is_commit_next o ≡ true → is_some o ≡ true
commit_there None e = not_true e
commit_there (Some next) e = refl

kind_is : (next : Next) → is_commit next ≡ true → kind_of next ≡ Commit
kind_is (CommitMove e nodes) is = refl
kind_is (Begin c) is = not_true is
kind_is LoadOwn is = not_true is
kind_is LoadAgain is = not_true is
kind_is (TakeNode node) is = not_true is
kind_is (ClaimNode e node) is = not_true is
kind_is (ReadList node plan) is = not_true is
kind_is (ReadPlayer node part slot players plan) is = not_true is
kind_is (ReadState id ids) is = not_true is
kind_is (StoreWord nodes store stores) is = not_true is
kind_is (GiveNode node) is = not_true is
kind_is (YieldNode node) is = not_true is
kind_is YieldCount is = not_true is

pub commit_kind : (o : Option Next) → is_commit_next o ≡ true → kind_of (the_next o) ≡ Commit
commit_kind None e = not_true e
commit_kind (Some next) e = kind_is next e

abbrev entry_with : ℕ → ℕ → ℕ → Reply → Entry
entry_with place slot seq reply = record { place = place; slot = slot; seq = seq; reply = reply }

-- the entry of a commit, from what the pass holds
pub entry_is : (place slot seq : ℕ) (c : Command) (reply : Reply) (o : Option Effect) → slot ≡ c.slot → seq ≡ c.seq → is_some o ≡ true → IfSome o (λ e. reply ≡ e.reply)
    → IsSomeAnd o (λ e. entry_with place slot seq reply ≡ entry_of place c e)
entry_is place slot seq c reply None same_slot same_seq has is = not_true has
entry_is place slot seq c reply (Some e) same_slot same_seq has is = λ i. record { place = place; slot = same_slot i; seq = same_seq i; reply = is i }
