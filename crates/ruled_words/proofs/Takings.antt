-- The takes of all seats are listed, before a step and after it.
use Rattle.std.proofs.Common.{◌≡◌, ◌≢◌, ℕ, ◌⊎◌, true, false, List, [], ◌∷◌, ◌++◌, refl, sym, ap, ◌∙◌, subst, inl, inr, Option, Some, None, slice_set}
use Rattle.std.specs.Prelude.{◌==◌}
use mathlib.Core.Option as maybe
use mathlib.Core.Option.{some-injective}
use lib.ListN.{get_elem?}
use Rattle.std.proofs.lemmas.Bool.{cases_Bool, false≢true, cond-true, cond-false, eqb-true, eqb-false, eq-eqb}
use Rattle.atomic_table.proofs.Lists.{at_set, set_here, set_else, at_longer, at_snoc}
use Rattle.core_steps.specs.Cells.{Words, Body, State, put}
use Rattle.core_steps.specs.Nodes.{Fixed}
use Rattle.core_steps.specs.Points.{Store, Clear, Put, Link}
use Rattle.core_steps.specs.Reads.{View}
use Rattle.core_steps.specs.Steps.{Core, words_after_store}
use Rattle.core_steps.specs.Machine.{Next, Begin, LoadOwn, LoadAgain, TakeNode, ClaimNode, ReadList, ReadPlayer, ReadState, CommitMove, StoreWord, GiveNode, YieldNode, YieldCount, core_after, word_of_next}
use Rattle.core_steps.specs.Calls.{node_taken}
use Rattle.core_steps.proofs.Puts.{put_same, put_other}
use Rattle.core_seats.specs.Going.{word_left}
use Rattle.core_seats.proofs.Changing.{word_here}
use Rattle.ruled_words.specs.Sights.{HeldWord, Tally, no_tally, tally_taken, tally_after, tally_of_both, IsOneOf, AreRefusalsServed, SightView}
use Rattle.ruled_words.specs.Rule.{WasTaken, AreTakesListed}
use Rattle.ruled_words.proofs.Idle.{place_below}

-- ---- lists

pub one_in_front : (h : HeldWord) (xs ys : List HeldWord) → IsOneOf h xs → IsOneOf h (xs ++ ys)
one_in_front h [] ys is = absurd is
one_in_front h (x ∷ xs) ys is = elim is [ inl here ↦ inl here | inr there ↦ inr (one_in_front h xs ys there) ]

pub one_in_back : (h : HeldWord) (xs ys : List HeldWord) → IsOneOf h ys → IsOneOf h (xs ++ ys)
one_in_back h [] ys is = is
one_in_back h (x ∷ xs) ys is = inr (one_in_back h xs ys is)

pub one_of_both : (h : HeldWord) (xs ys : List HeldWord) → IsOneOf h (xs ++ ys) → IsOneOf h xs ⊎ IsOneOf h ys
one_of_both h [] ys is = inr is
one_of_both h (x ∷ xs) ys is = elim is [
  | inl here ↦ inl (inl here)
  | inr there ↦ elim (one_of_both h xs ys there) [ inl front ↦ inl (inr front) | inr back ↦ inr back ]
]

-- ---- what stays listed

-- what these takes served is listed at some seat
pub record IsListedAt (sights : List SightView) (served : List HeldWord) : Type 0 where
  pub seat : ℕ
  pub sight : SightView
  pub at : get_elem? sights seat ≡ maybe.some sight
  pub all : (h : HeldWord) → IsOneOf h served → IsOneOf h sight.tally.served

-- what any seat's takes served is still listed at some seat
abbrev pub AreCarried : List SightView → List SightView → Type 0
AreCarried old new = (k : ℕ) (sight : SightView) → get_elem? old k ≡ maybe.some sight → IsListedAt new sight.tally.served

pub still_taken : (old new : List SightView) (h : HeldWord) → AreCarried old new → WasTaken old h → WasTaken new h
still_taken old new h carried is =
    let there = carried is.seat is.sight is.at in
    record { seat = there.seat; sight = there.sight; at = there.at; listed = there.all h is.listed }

-- one seat's list grows
pub carried_set : (sights : List SightView) (i : ℕ) (sight new : SightView) → get_elem? sights i ≡ maybe.some sight
    → ((h : HeldWord) → IsOneOf h sight.tally.served → IsOneOf h new.tally.served) → AreCarried sights (slice_set sights i new)
carried_set sights i sight new at grows k x e = elim (cases_Bool (k == i)) [
  | inl same ↦
      let is : sight ≡ x = some-injective sight x (sym at ∙ subst (λ (n : ℕ). get_elem? sights n ≡ maybe.some x) (eqb-true k i same) e) in
      record {
        seat = i;
        sight = new;
        at = set_here sights i new (place_below sights i sight at);
        all = λ h one. grows h (subst (λ (y : SightView). IsOneOf h y.tally.served) (sym is) one);
      }
  | inr other ↦ record { seat = k; sight = x; at = set_else sights i k new (eqb-false k i other) ∙ e; all = λ h one. one }
]

-- ---- the takes after a step

pub takes_grow : (o : Option ℕ) (found left : ℕ) (tally : Tally) (h : HeldWord) → IsOneOf h tally.served → IsOneOf h (tally_taken o found left tally).served
takes_grow None found left tally h is = is
takes_grow (Some node) found left tally h is = elim (cases_Bool (found == 0)) [ inl free ↦ rw free (inr is) | inr held ↦ rw held is ]

listed_now : (o : Option ℕ) (node found left word : ℕ) (tally : Tally) → o ≡ Some node → found ≡ 0 → word ≡ left
    → IsOneOf (record { node = node; word = word }) (tally_taken o found left tally).served
listed_now o node found left word tally taken free is =
    subst (λ (p : Option ℕ). IsOneOf (record { node = node; word = word }) (tally_taken p found left tally).served) (sym taken)
    (rw (eq-eqb found 0 free) (inl (ap (λ (w : ℕ). record { node = node; word = w }) is)))

-- the take was refused now
record IsRefusedNow (o : Option ℕ) (found : ℕ) (h : HeldWord) : Type 0 where
  taken : o ≡ Some h.node
  busy : found ≢ 0
  word : h.word ≡ found

refused_now : (o : Option ℕ) (found left : ℕ) (tally : Tally) (h : HeldWord) → IsOneOf h (tally_taken o found left tally).refused → IsOneOf h tally.refused ⊎ IsRefusedNow o found h
refused_now None found left tally h is = inl is
refused_now (Some node) found left tally h is = elim (cases_Bool (found == 0)) [
  | inl free ↦ inl (subst (λ (t : Tally). IsOneOf h t.refused) (cond-true (found == 0) _ _ free) is)
  | inr held ↦
      elim (subst (λ (t : Tally). IsOneOf h t.refused) (cond-false (found == 0) _ _ held) is) [
        | inl here ↦ inr (record { taken = ap (λ (x : HeldWord). Some x.node) (sym here); busy = eqb-false found 0 held; word = ap (λ (x : HeldWord). x.word) here })
        | inr there ↦ inl there
      ]
]

-- ---- the word of a node after a step

store_node : (slot : ℕ) (store : Store) (words : Words) (node : ℕ) → (words_after_store slot store words).node node ≡ words.node node
store_node slot (Clear n) words node = refl
store_node slot (Put (Body p k) x) words node = refl
store_node slot (Put (State id) x) words node = refl
store_node slot (Link n) words node = refl

-- the word of a node is the old one, or the node was free and is taken now
abbrev IsWordAfter : ℕ → ℕ → Option ℕ → ℕ → Type 0
IsWordAfter after before o node = (after ≡ before) ⊎ ((o ≡ Some node) × (before ≡ 0))

put_word : (words : ℕ → ℕ) (n word node : ℕ) → words n ≡ 0 → IsWordAfter (put n word words node) (words node) (Some n) node
put_word words n word node free = elim (cases_Bool (node == n)) [
  | inl same ↦ inr (ap Some (sym (eqb-true node n same)), ap words (eqb-true node n same) ∙ free)
  | inr other ↦ inl (put_other n node word words other)
]

given_word : (words : ℕ → ℕ) (n node : ℕ) (o : Option ℕ) → put n 0 words node ≢ 0 → IsWordAfter (put n 0 words node) (words node) o node
given_word words n node o busy = elim (cases_Bool (node == n)) [
  | inl same ↦ absurd (busy (subst (λ (k : ℕ). put n 0 words k ≡ 0) (sym (eqb-true node n same)) (put_same n 0 words)))
  | inr other ↦ inl (put_other n node 0 words other)
]

word_after : (F : Fixed) (core : Core) (i : ℕ) (next : Next) (node : ℕ) → (core_after F core i next).words.node node ≢ 0
    → IsWordAfter ((core_after F core i next).words.node node) (core.words.node node) (node_taken next) node
word_after F core i (Begin c) node busy = inl refl
word_after F core i LoadOwn node busy = inl refl
word_after F core i LoadAgain node busy = inl refl
word_after F core i (TakeNode n) node busy = elim (cases_Bool (core.words.node n == 0)) [
  | inl free ↦ rw free (put_word core.words.node n _ node (eqb-true (core.words.node n) 0 free))
  | inr held ↦ rw held (inl refl)
]
word_after F core i (ClaimNode e n) node busy = elim (cases_Bool (core.words.node n == 0)) [
  | inl free ↦ rw free (put_word core.words.node n _ node (eqb-true (core.words.node n) 0 free))
  | inr held ↦ rw held (inl refl)
]
word_after F core i (ReadList n plan) node busy = inl refl
word_after F core i (ReadPlayer n part slot players plan) node busy = inl refl
word_after F core i (ReadState id ids) node busy = inl refl
word_after F core i (CommitMove e nodes) node busy = inl refl
word_after F core i (StoreWord nodes store stores) node busy = inl (store_node (core.view i).cmd.slot store core.words node)
word_after F core i (GiveNode n) node busy = given_word core.words.node n node None busy
word_after F core i (YieldNode n) node busy = given_word core.words.node n node None busy
word_after F core i YieldCount node busy = inl refl

-- the word of a take is the node's
pub word_taken : (words : Words) (view : View) (next : Next) (node : ℕ) → node_taken next ≡ Some node → word_of_next words view next ≡ words.node node
word_taken words view (Begin c) node e = cc
word_taken words view LoadOwn node e = cc
word_taken words view LoadAgain node e = cc
word_taken words view (TakeNode n) node e = ap words.node (same_node n node e)
  where
    same_node : (n node : ℕ) → Some n ≡ Some node → n ≡ node
    same_node n node e = cc
word_taken words view (ClaimNode effect n) node e = ap words.node (same_node n node e)
  where
    same_node : (n node : ℕ) → Some n ≡ Some node → n ≡ node
    same_node n node e = cc
word_taken words view (ReadList n plan) node e = cc
word_taken words view (ReadPlayer n part slot players plan) node e = cc
word_taken words view (ReadState id ids) node e = cc
word_taken words view (CommitMove effect nodes) node e = cc
word_taken words view (StoreWord nodes store stores) node e = cc
word_taken words view (GiveNode n) node e = cc
word_taken words view (YieldNode n) node e = cc
word_taken words view YieldCount node e = cc

-- ---- a step

module _ (F : Fixed) (sights : List SightView) (core : Core) (i : ℕ) (sight new : SightView) (next : Next) (found left : ℕ) (listed : AreTakesListed sights core.words.node)
    (at : get_elem? sights i ≡ maybe.some sight) (is : found ≡ word_of_next core.words (core.view i) next) (left_is : left ≡ word_left F i (core.view i) next found)
    (lives : new.view.live ≡ true) (tally : new.tally ≡ tally_after next found left sight.tally) where
  carried : AreCarried sights (slice_set sights i new)
  carried = carried_set sights i sight new at (λ h one. subst (λ (t : Tally). IsOneOf h t.served) (sym tally) (takes_grow (node_taken next) found left sight.tally h one))

  found_at : (node : ℕ) → node_taken next ≡ Some node → found ≡ core.words.node node
  found_at node taken = is ∙ word_taken core.words (core.view i) next node taken

  abbrev after : Core
  after = core_after F core i next

  left_at : (node : ℕ) → node_taken next ≡ Some node → after.words.node node ≡ left
  left_at node taken =
      sym (word_taken after.words (core.view i) next node taken) ∙ word_here F core i next
      ∙ ap (word_left F i (core.view i) next) (sym is) ∙ sym left_is

  pub takes_step : AreTakesListed (slice_set sights i new) after.words.node
  takes_step = record {
    held = λ node busy. elim (word_after F core i next node busy) [
      | inl same ↦
          subst (λ (w : ℕ). WasTaken (slice_set sights i new) (record { node = node; word = w })) (sym same)
          (still_taken sights (slice_set sights i new) _ carried (listed.held node (λ zero. busy (same ∙ zero))))
      | inr now ↦ record {
        seat = i;
        sight = new;
        at = set_here sights i new (place_below sights i sight at);
        listed = subst (λ (t : Tally). IsOneOf (record { node = node; word = after.words.node node }) t.served) (sym tally)
            (listed_now (node_taken next) node found left (after.words.node node) sight.tally now.0 (found_at node now.0 ∙ now.1) (left_at node now.0));
      }
    ];
    ended = λ k x e gone. elim (at_set sights i k new x e) [
      | inl here ↦ absurd (false≢true (sym gone ∙ ap (λ (y : SightView). y.view.live) (sym here.1) ∙ lives))
      | inr there ↦ listed.ended k x there.1 gone
    ];
    refused = λ k x e h one. elim (at_set sights i k new x e) [
      | inl here ↦ elim (refused_now (node_taken next) found left sight.tally h
          (subst (λ (t : Tally). IsOneOf h t.refused) tally (subst (λ (y : SightView). IsOneOf h y.tally.refused) (sym here.1) one))) [
            | inl before ↦ still_taken sights (slice_set sights i new) h carried (listed.refused i sight at h before)
            | inr now ↦
                let at_node = found_at h.node now.taken in
                still_taken sights (slice_set sights i new) h carried
                (subst (λ (w : ℕ). WasTaken sights (record { node = h.node; word = w })) (sym at_node ∙ sym now.word) (listed.held h.node (λ zero. now.busy (at_node ∙ zero))))
          ]
      | inr there ↦ still_taken sights (slice_set sights i new) h carried (listed.refused k x there.1 h one)
    ];
  }

-- ---- a look, and seats that are made and ended

-- a seat that lives keeps its takes
pub takes_set : (sights : List SightView) (i : ℕ) (sight new : SightView) (node_word : ℕ → ℕ) → AreTakesListed sights node_word → get_elem? sights i ≡ maybe.some sight → new.tally ≡ sight.tally
    → new.view.live ≡ true → AreTakesListed (slice_set sights i new) node_word
takes_set sights i sight new node_word listed at same lives =
    let carried : AreCarried sights (slice_set sights i new) = carried_set sights i sight new at (λ h one. subst (λ (t : Tally). IsOneOf h t.served) (sym same) one) in
    record {
      held = λ node busy. still_taken sights (slice_set sights i new) _ carried (listed.held node busy);
      ended = λ k x e gone. elim (at_set sights i k new x e) [
        | inl here ↦ absurd (false≢true (sym gone ∙ ap (λ (y : SightView). y.view.live) (sym here.1) ∙ lives))
        | inr there ↦ listed.ended k x there.1 gone
      ];
      refused = λ k x e h one. elim (at_set sights i k new x e) [
        | inl here ↦ still_taken sights (slice_set sights i new) h carried
            (listed.refused i sight at h (subst (λ (t : Tally). IsOneOf h t.refused) same (subst (λ (y : SightView). IsOneOf h y.tally.refused) (sym here.1) one)))
        | inr there ↦ still_taken sights (slice_set sights i new) h carried (listed.refused k x there.1 h one)
      ];
    }

-- a seat more, which took nothing
pub takes_end : (sights : List SightView) (new : SightView) (node_word : ℕ → ℕ) → AreTakesListed sights node_word → new.tally ≡ no_tally → AreTakesListed (sights ++ new ∷ []) node_word
takes_end sights new node_word listed none =
    let carried : AreCarried sights (sights ++ new ∷ []) = λ k x e. record { seat = k; sight = x; at = at_longer sights (new ∷ []) k x e; all = λ h one. one } in
    record {
      held = λ node busy. still_taken sights (sights ++ new ∷ []) _ carried (listed.held node busy);
      ended = λ k x e gone. elim (at_snoc sights new x k e) [
        | inl there ↦ listed.ended k x there gone
        | inr here ↦ subst (λ (y : SightView). y.tally ≡ no_tally) here none
      ];
      refused = λ k x e h one. elim (at_snoc sights new x k e) [
        | inl there ↦ still_taken sights (sights ++ new ∷ []) h carried (listed.refused k x there h one)
        | inr here ↦ absurd (subst (λ (t : Tally). IsOneOf h t.refused) none (subst (λ (y : SightView). IsOneOf h y.tally.refused) (sym here) one))
      ];
    }

-- a seat's takes are put to those of seat 0
pub takes_joined : (sights : List SightView) (i : ℕ) (sight ended both gone : SightView) (node_word : ℕ → ℕ) → AreTakesListed sights node_word → get_elem? sights 0 ≡ maybe.some sight → i ≢ 0
    → get_elem? sights i ≡ maybe.some ended → both.tally ≡ tally_of_both sight.tally ended.tally → both.view.live ≡ true → gone.tally ≡ no_tally
    → AreTakesListed (slice_set (slice_set sights 0 both) i gone) node_word
takes_joined sights i sight ended both gone node_word listed at other there joined lives none =
    let one : List SightView = slice_set sights 0 both in
    let two : List SightView = slice_set one i gone in
    let at_0 : get_elem? two 0 ≡ maybe.some both = set_else one i 0 gone (λ same. other (sym same)) ∙ set_here sights 0 both (place_below sights 0 sight at) in
    let carried : AreCarried sights two = λ k x e. elim (cases_Bool (k == 0)) [
      | inl zeroth ↦
          let is : sight ≡ x = some-injective sight x (sym at ∙ subst (λ (n : ℕ). get_elem? sights n ≡ maybe.some x) (eqb-true k 0 zeroth) e) in
          record {
            seat = 0;
            sight = both;
            at = at_0;
            all = λ h is_one. subst (λ (t : Tally). IsOneOf h t.served) (sym joined) (one_in_front h sight.tally.served ended.tally.served (subst (λ (y : SightView). IsOneOf h y.tally.served) (sym is) is_one));
          }
      | inr not_0 ↦ elim (cases_Bool (k == i)) [
        | inl same ↦
            let is : ended ≡ x = some-injective ended x (sym there ∙ subst (λ (n : ℕ). get_elem? sights n ≡ maybe.some x) (eqb-true k i same) e) in
            record {
              seat = 0;
              sight = both;
              at = at_0;
              all = λ h is_one. subst (λ (t : Tally). IsOneOf h t.served) (sym joined) (one_in_back h sight.tally.served ended.tally.served (subst (λ (y : SightView). IsOneOf h y.tally.served) (sym is) is_one));
            }
        | inr not_i ↦ record { seat = k; sight = x; at = set_else one i k gone (eqb-false k i not_i) ∙ set_else sights 0 k both (eqb-false k 0 not_0) ∙ e; all = λ h is_one. is_one }
      ]
    ] in
    record {
      held = λ node busy. still_taken sights two _ carried (listed.held node busy);
      ended = λ k x e dead. elim (at_set one i k gone x e) [
        | inl here ↦ subst (λ (y : SightView). y.tally ≡ no_tally) here.1 none
        | inr away ↦ elim (at_set sights 0 k both x away.1) [
          | inl here ↦ absurd (false≢true (sym dead ∙ ap (λ (y : SightView). y.view.live) (sym here.1) ∙ lives))
          | inr far ↦ listed.ended k x far.1 dead
        ]
      ];
      refused = λ k x e h is_one. elim (at_set one i k gone x e) [
        | inl here ↦ absurd (subst (λ (t : Tally). IsOneOf h t.refused) none (subst (λ (y : SightView). IsOneOf h y.tally.refused) (sym here.1) is_one))
        | inr away ↦ elim (at_set sights 0 k both x away.1) [
          | inl here ↦ elim (one_of_both h sight.tally.refused ended.tally.refused
              (subst (λ (t : Tally). IsOneOf h t.refused) joined (subst (λ (y : SightView). IsOneOf h y.tally.refused) (sym here.1) is_one))) [
                | inl front ↦ still_taken sights two h carried (listed.refused 0 sight at h front)
                | inr back ↦ still_taken sights two h carried (listed.refused i ended there h back)
              ]
          | inr far ↦ still_taken sights two h carried (listed.refused k x far.1 h is_one)
        ]
      ];
    }

-- where all other seats are ended, what seat 0 was refused it holds as served
pub takes_at_end : (sights : List SightView) (sight : SightView) (node_word : ℕ → ℕ) → AreTakesListed sights node_word → get_elem? sights 0 ≡ maybe.some sight
    → ((k : ℕ) (x : SightView) → get_elem? sights k ≡ maybe.some x → (k == 0) ≡ false → x.view.live ≡ false) → AreRefusalsServed sight.tally
takes_at_end sights sight node_word listed at others h one =
    let was = listed.refused 0 sight at h one in
    elim (cases_Bool (was.seat == 0)) [
      | inl zeroth ↦
          let is : sight ≡ was.sight = some-injective sight was.sight (sym at ∙ subst (λ (n : ℕ). get_elem? sights n ≡ maybe.some was.sight) (eqb-true was.seat 0 zeroth) was.at) in
          subst (λ (y : SightView). IsOneOf h y.tally.served) (sym is) was.listed
      | inr other ↦ absurd (subst (λ (t : Tally). IsOneOf h t.served) (listed.ended was.seat was.sight was.at (others was.seat was.sight was.at other)) was.listed)
    ]
