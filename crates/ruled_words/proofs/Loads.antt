-- A pass loads a player's record.
use Rattle.std.proofs.Common.{◌≡◌, ℕ, ◌<◌, Bool, true, false, List, [], ◌∷◌, ◌++◌, length, refl, sym, ap, ◌∙◌, subst, Option, Some, None, is_some, arith}
use Rattle.std.specs.Prelude.{◌==◌}
use Rattle.std.proofs.lemmas.Bool.{false≢true, eqb-true, eq-eqb, cond-true, cond-false}
use Rattle.std.proofs.lemmas.Option.{same_Some}
use Rattle.atomic_table.specs.Seated.{TableId}
use Rattle.entity_recs.specs.declared.effect.Effect.{Effect}
use Rattle.entity_recs.specs.declared.rec.Rec.{Rec}
use Rattle.core_steps.specs.Cells.{cell_of, cell_index}
use Rattle.core_steps.specs.Nodes.{Fixed, leaf_nodes, plan_of}
use Rattle.core_steps.specs.Points.{Point, Owning, Taking, Checking, Loading, is_settled, is_read_again}
use Rattle.core_steps.specs.Reads.{View, region_in, record_read}
use Rattle.core_steps.specs.Steps.{visiting}
use Rattle.core_steps.specs.Machine.{Next, Begin, LoadOwn, LoadAgain, TakeNode, ClaimNode, ReadList, ReadPlayer, ReadState, CommitMove, StoreWord, GiveNode, YieldNode, YieldCount, index_of}
use Rattle.core_steps.proofs.Points.{visiting_between}
use Rattle.core_steps.proofs.Owned.{longer}
use Rattle.core_seats.specs.Going.{view_found, word_left}
use Rattle.core_seats.specs.Nexts.{next_point, the_next}
use Rattle.core_seats.specs.Sound.{IsSound}
use Rattle.ruled_words.specs.Passes.{PassView, next_of_pass, pass_after, IsPassOf}
use Rattle.ruled_words.specs.Loads.{PlayerWord, player_word, player_word_next, slot_of_first, slot_begun, record_loaded_next, after_loads, HasLoaded, IsLoading}
use Rattle.ruled_words.proofs.Found.{loading_of, loads_from}
use Rattle.ruled_words.proofs.Ready.{may_go}

pub loads_there : (view : View) (o : Option Next) (w : PlayerWord) → player_word_next view o ≡ Some w → is_some o ≡ true
loads_there view None w e = cc
loads_there view (Some next) w e = refl

word_there : (view : View) (o : Option Next) (w : PlayerWord) → player_word_next view o ≡ Some w → player_word view (the_next o) ≡ Some w
word_there view None w e = cc
word_there view (Some next) w e = e

none_word : {R : Type 0} (w : PlayerWord) → None ≡ Some w → R
none_word w e = cc

-- the index of the word, and what a load leaves in it
pub record IsLoad (F : Fixed) (number : ℕ) (view : View) (w : PlayerWord) (next : Next) : Type 0 where
  pub index : index_of view next ≡ cell_index (cell_of w.slot (length w.before))
  pub left : (found : ℕ) → word_left F number view next found ≡ found

is_load : (F : Fixed) (number : ℕ) (view : View) (w : PlayerWord) (next : Next) → player_word view next ≡ Some w → IsLoad F number view w next
is_load F number view w (Begin c) e = record { index = ap (λ (v : PlayerWord). cell_index (cell_of v.slot (length v.before))) (same_Some _ w e); left = λ found. refl }
is_load F number view w LoadOwn e = record { index = ap (λ (v : PlayerWord). cell_index (cell_of v.slot (length v.before))) (same_Some _ w e); left = λ found. refl }
is_load F number view w LoadAgain e = record { index = ap (λ (v : PlayerWord). cell_index (cell_of v.slot (length v.before))) (same_Some _ w e); left = λ found. refl }
is_load F number view w (TakeNode node) e = none_word w e
is_load F number view w (ClaimNode f node) e = none_word w e
is_load F number view w (ReadList node plan) e = none_word w e
is_load F number view w (ReadPlayer node part slot players plan) e =
    record { index = ap (λ (v : PlayerWord). cell_index (cell_of v.slot (length v.before))) (same_Some _ w e); left = λ found. refl }
is_load F number view w (ReadState id ids) e = none_word w e
is_load F number view w (CommitMove f nodes) e = none_word w e
is_load F number view w (StoreWord nodes store stores) e = none_word w e
is_load F number view w (GiveNode node) e = none_word w e
is_load F number view w (YieldNode node) e = none_word w e
is_load F number view w YieldCount e = none_word w e

pub load_next : (F : Fixed) (p : PassView) (w : PlayerWord) → player_word_next p.view (next_of_pass F p) ≡ Some w → IsLoad F p.number p.view w (the_next (next_of_pass F p))
load_next F p w e = is_load F p.number p.view w (the_next (next_of_pass F p)) (word_there p.view (next_of_pass F p) w e)

loads_more : (F : Fixed) (p : PassView) (words : List ℕ) (word : ℕ) → after_loads F p (words ++ word ∷ []) ≡ pass_after F (the_next (next_of_pass F (after_loads F p words))) word (after_loads F p words)
loads_more F p [] word = refl
loads_more F p (x ∷ words) word = loads_more F (pass_after F (the_next (next_of_pass F p)) x p) words word

-- what the next view says, once one more word is loaded
record LoadsOn (F : Fixed) (slot : ℕ) (words : List ℕ) (view : View) : Type 0 where
  next : (effect : Option Effect) → length words < 6 → player_word_next view (next_point F view None effect view.point) ≡ Some (record { slot = slot; before = words })
  taken : length words ≡ 6 → IsSound F view → F.takes (record_read slot words) ≡ true

module _ (F : Fixed) (view : View) (word : ℕ) where
  owned_on : (b : Bool) → length (view.own ++ word ∷ []) == 6 ≡ b → view.point ≡ Owning → LoadsOn F view.cmd.slot (view.own ++ word ∷ []) (view_found F view LoadOwn word)
  owned_on true whole at =
      let more : View = record view { own = view.own ++ word ∷ [] } in
      let full : View = record more { wanted = leaf_nodes F (region_in F view.cmd more.own); point = Taking [] (leaf_nodes F (region_in F view.cmd more.own)) } in
      subst (LoadsOn F view.cmd.slot more.own) (sym (cond-true (length more.own == 6) full more whole)) (record {
        next = λ effect below. let six = eqb-true (length more.own) 6 whole in absurd (omega (arith, below, six));
        taken = λ six sound. (sound.region refl refl).taken;
      })
  owned_on false part at =
      let more : View = record view { own = view.own ++ word ∷ [] } in
      let full : View = record more { wanted = leaf_nodes F (region_in F view.cmd more.own); point = Taking [] (leaf_nodes F (region_in F view.cmd more.own)) } in
      subst (LoadsOn F view.cmd.slot more.own) (sym (cond-false (length more.own == 6) full more part)) (record {
        next = λ effect below. ap (λ (q : Point). player_word_next more (next_point F more None effect q)) at;
        taken = λ six sound. absurd (false≢true (sym part ∙ eq-eqb (length more.own) 6 six));
      })

  again_on : (b : Bool) → length (view.again ++ word ∷ []) == 6 ≡ b → view.point ≡ Checking → LoadsOn F view.cmd.slot (view.again ++ word ∷ []) (view_found F view LoadAgain word)
  again_on true whole at =
      let more : View = record view { again = view.again ++ word ∷ [] } in
      let plan = plan_of F (region_in F view.cmd view.own) in
      let full : View = record more { point = visiting F more plan } in
      let stage = (visiting_between F more plan).stage in
      subst (LoadsOn F view.cmd.slot more.again) (sym (cond-true (length more.again == 6) full more whole)) (record {
        next = λ effect below. let six = eqb-true (length more.again) 6 whole in absurd (omega (arith, below, six));
        taken = λ six sound. (sound.taken_again (ap is_settled stage) (ap is_read_again stage)).taken;
      })
  again_on false part at =
      let more : View = record view { again = view.again ++ word ∷ [] } in
      let full : View = record more { point = visiting F more (plan_of F (region_in F view.cmd view.own)) } in
      subst (LoadsOn F view.cmd.slot more.again) (sym (cond-false (length more.again == 6) full more part)) (record {
        next = λ effect below. ap (λ (q : Point). player_word_next more (next_point F more None effect q)) at;
        taken = λ six sound. absurd (false≢true (sym part ∙ eq-eqb (length more.again) 6 six));
      })

  other_on : (node slot : ℕ) (part players plan : List ℕ) (b : Bool) → length (part ++ word ∷ []) == 6 ≡ b
      → (length (part ++ word ∷ []) ≡ 6 → F.takes (record_read slot (part ++ word ∷ [])) ≡ true)
      → LoadsOn F slot (part ++ word ∷ []) (view_found F view (ReadPlayer node part slot players plan) word)
  other_on node slot part players plan true whole takes = record {
    next = λ effect below. let six = eqb-true (length (part ++ word ∷ [])) 6 whole in absurd (omega (arith, below, six));
    taken = λ six sound. takes six;
  }
  other_on node slot part players plan false small takes =
      let more : View = record view { point = Loading node (part ++ word ∷ []) (slot ∷ players) plan } in
      subst (LoadsOn F slot (part ++ word ∷ [])) (sym (cond-false (length (part ++ word ∷ []) == 6) _ more small)) (record {
        next = λ effect below. refl;
        taken = λ six sound. takes six;
      })

  loads_on : (next : Next) (w : PlayerWord) → player_word view next ≡ Some w → (loading_of next ≡ Some Owning → view.point ≡ Owning) → (loading_of next ≡ Some Checking → view.point ≡ Checking)
      → ((node slot : ℕ) (part players plan : List ℕ) → next ≡ ReadPlayer node part slot players plan → length part ≡ 5 → F.takes (record_read slot (part ++ word ∷ [])) ≡ true)
      → LoadsOn F w.slot (w.before ++ word ∷ []) (view_found F view next word)
  loads_on (Begin c) w e owning checking takes =
      subst (λ (v : PlayerWord). LoadsOn F v.slot (v.before ++ word ∷ []) (view_found F view (Begin c) word)) (same_Some _ w e) (record {
        next = λ effect below. refl;
        taken = λ six sound. absurd (omega (arith, six));
      })
  loads_on LoadOwn w e owning checking takes =
      subst (λ (v : PlayerWord). LoadsOn F v.slot (v.before ++ word ∷ []) (view_found F view LoadOwn word)) (same_Some _ w e)
      (owned_on (length (view.own ++ word ∷ []) == 6) refl (owning refl))
  loads_on LoadAgain w e owning checking takes =
      subst (λ (v : PlayerWord). LoadsOn F v.slot (v.before ++ word ∷ []) (view_found F view LoadAgain word)) (same_Some _ w e)
      (again_on (length (view.again ++ word ∷ []) == 6) refl (checking refl))
  loads_on (TakeNode node) w e owning checking takes = none_word w e
  loads_on (ClaimNode f node) w e owning checking takes = none_word w e
  loads_on (ReadList node plan) w e owning checking takes = none_word w e
  loads_on (ReadPlayer node part slot players plan) w e owning checking takes =
      subst (λ (v : PlayerWord). LoadsOn F v.slot (v.before ++ word ∷ []) (view_found F view (ReadPlayer node part slot players plan) word)) (same_Some _ w e)
      (other_on node slot part players plan (length (part ++ word ∷ []) == 6) refl
      (λ six. takes node slot part players plan refl (let more = longer part word in omega (arith, six, more))))
  loads_on (ReadState id ids) w e owning checking takes = none_word w e
  loads_on (CommitMove f nodes) w e owning checking takes = none_word w e
  loads_on (StoreWord nodes store stores) w e owning checking takes = none_word w e
  loads_on (GiveNode node) w e owning checking takes = none_word w e
  loads_on (YieldNode node) w e owning checking takes = none_word w e
  loads_on YieldCount w e owning checking takes = none_word w e

abbrev word_at : ℕ → List ℕ → PlayerWord
word_at slot before = record { slot = slot; before = before }

first_of : (slot own : ℕ) (before : List ℕ) → slot_of_first own before ≡ Some slot → word_at own before ≡ word_at slot []
first_of slot own [] e = ap (λ (n : ℕ). word_at n []) (same_slot own slot e)
  where
    same_slot : (a b : ℕ) → Some a ≡ Some b → a ≡ b
    same_slot a b e = cc
first_of slot own (word ∷ before) e = none_slot slot e
  where
    none_slot : {R : Type 0} (n : ℕ) → None ≡ Some n → R
    none_slot n e = cc

begun : (o : Option PlayerWord) (slot : ℕ) → slot_begun o ≡ Some slot → o ≡ Some (record { slot = slot; before = [] })
begun None slot e = cc
begun (Some word) slot e = ap Some (first_of slot word.slot word.before e)

-- nothing of the record is loaded yet
pub loading_none : (F : Fixed) (passes : ℕ) (table : TableId) (p : PassView) (slot : ℕ) → IsPassOf F passes table p → record_loaded_next p.view (next_of_pass F p) ≡ Some slot
    → IsLoading F passes table p p slot []
loading_none F passes table p slot own next = record { own = own; pass = refl; next = λ below. begun (player_word_next p.view (next_of_pass F p)) slot next; taken = λ six. absurd (omega (arith, six)) }

-- one more word is loaded
pub loading_more : (F : Fixed) (passes : ℕ) (table : TableId) (old now new : PassView) (slot : ℕ) (words : List ℕ) (word : ℕ) → IsLoading F passes table old now slot words → length words < 6
    → new ≡ pass_after F (the_next (next_of_pass F now)) word now → IsPassOf F passes table new
    → ((node s : ℕ) (part players plan : List ℕ) → the_next (next_of_pass F now) ≡ ReadPlayer node part s players plan → length part ≡ 5 → F.takes (record_read s (part ++ word ∷ [])) ≡ true)
    → IsLoading F passes table old new slot (words ++ word ∷ [])
loading_more F passes table old now new slot words word is below after own takes =
    let w : PlayerWord = record { slot = slot; before = words } in
    let next : Next = the_next (next_of_pass F now) in
    let comes = (may_go F passes table now is.own (loads_there now.view (next_of_pass F now) w (is.next below))).comes in
    let on : LoadsOn F slot (words ++ word ∷ []) (view_found F now.view next word) =
    loads_on F now.view word next w (word_there now.view (next_of_pass F now) w (is.next below))
    (λ e. loads_from F now.view now.given now.quits next Owning comes e) (λ e. loads_from F now.view now.given now.quits next Checking comes e) takes in
    let own_after : IsPassOf F passes table (pass_after F next word now) = subst (IsPassOf F passes table) after own in
    subst (λ (q : PassView). IsLoading F passes table old q slot (words ++ word ∷ [])) (sym after) (record {
      own = own_after;
      pass = ap (λ (q : PassView). pass_after F (the_next (next_of_pass F q)) word q) is.pass ∙ sym (loads_more F old words word);
      next = λ few. on.next (pass_after F next word now).effect few;
      taken = λ six. on.taken six own_after.sound_sight.sound;
    })

pub has_loaded : (F : Fixed) (passes : ℕ) (table : TableId) (old now : PassView) (slot : ℕ) (words : List ℕ) (r : Rec) → IsLoading F passes table old now slot words → length words ≡ 6
    → r ≡ record_read slot words → HasLoaded F old now slot r
has_loaded F passes table old now slot words r is six made = record {
  words = words;
  six = six;
  pass = is.pass;
  is_record = made;
  taken = ap F.takes made ∙ is.taken six;
}
