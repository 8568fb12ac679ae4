-- The linked world through the packets of a frame and its end.
use Rattle.std.proofs.Common.{◌≡◌, ◌≢◌, List, [], ◌∷◌, ◌++◌, All, Option, Some, None, is_some, IsSome, sym, refl, ap, ◌∙◌, subst, inl, inr, get_or-set_other, ℕ, zero, suc, ◌+◌, ◌≤◌, Bool, true, false, cond, if◌then◌else◌, filter, add-one, arith}
use Rattle.std.specs.List.{cons_option, range_with_len}
use Rattle.std.proofs.lemmas.List.Elements.{All-head, All-push, All-tail, All-weaker, filter-append, filter_map-append}
use Rattle.std.proofs.lemmas.List.{append-nil}
use Rattle.std.proofs.lemmas.List.Sums.{fold_push}
use Rattle.entity_recs.specs.declared.rec.Rec.{Rec}
use Rattle.world_tree.specs.Live.{record_at}
use Rattle.world_tree.specs.Worlds.{WorldView, with_record, with_records, without_id}
use Rattle.world_tree.proofs.Rounds.{range-more}
use Rattle.client_ports.specs.declared.received.Joined.{Joined}
use Rattle.client_ports.specs.declared.client.Client.{Client}
use Rattle.client_ports.specs.Clients.{client_at}
use Rattle.client_ports.specs.States.{State}
use Rattle.client_ports.specs.Finishing.{is_leaver, finished_client, finished_up_to}
use Rattle.client_ports.specs.Linking.{players_of, HasNewPlayer, IsWorldAfter, leavers_of, world_finished_at, without_ids}

-- the world since the frame began: the records of the players that joined are put in, and are live
pub record IsLinkedSince (start w : WorldView) (joined : List Joined) : Type 0 where
  pub world : w ≡ with_records start (players_of w.records joined)
  pub live : All (λ j. IsSome (record_at w.records j.slot)) joined

-- where the same records are read, the same players are
players-same : (records other : List (Option Rec)) (joined : List Joined) → All (λ j. record_at other j.slot ≡ record_at records j.slot) joined → players_of other joined ≡ players_of records joined
players-same records other [] same = refl
players-same records other (j ∷ joined) same =
    let P : Joined → Type 0 = λ k. record_at other k.slot ≡ record_at records k.slot in
    ap (λ (o : Option Rec). cons_option o (players_of other joined)) (All-head P j joined same)
    ∙ ap (cons_option (record_at records j.slot)) (players-same records other joined (All-tail P j joined same))

-- the record of one player more leaves those that were live
kept : (w next : WorldView) (joined all : List Joined) → HasNewPlayer w next joined all → (j : Joined) → IsSome (record_at w.records j.slot) → record_at next.records j.slot ≡ record_at w.records j.slot
kept w next joined all new j live =
    ap (λ (v : WorldView). record_at v.records j.slot) new.world ∙ get_or-set_other w.records new.r.id j.slot (Some new.r) None apart
  where
    apart : j.slot ≢ new.r.id
    apart e = let none : IsSome {T = Rec} None = subst IsSome (ap (record_at w.records) (e ∙ new.own_id) ∙ new.free) live in cc

linked-new : (start w next : WorldView) (joined all : List Joined) → IsLinkedSince start w joined → HasNewPlayer w next joined all → IsLinkedSince start next all
linked-new start w next joined all so_far new = subst (λ (js : List Joined). IsLinkedSince start next js) (sym new.joins) (record {
  world = new.world ∙ ap (λ (v : WorldView). with_record v new.r) so_far.world ∙ sym (fold_push with_record start (players_of w.records joined) new.r) ∙ ap (with_records start) (sym players);
  live = All-push Live joined new.player (All-weaker (λ j. IsSome (record_at w.records j.slot)) Live (λ j h. ap is_some (kept w next joined all new j h) ∙ h) joined so_far.live) (ap is_some new.live);
})
  where
    Live : Joined → Type 0
    Live j = IsSome (record_at next.records j.slot)

    same : players_of next.records joined ≡ players_of w.records joined
    same = players-same w.records next.records joined
        (All-weaker (λ j. IsSome (record_at w.records j.slot)) (λ j. record_at next.records j.slot ≡ record_at w.records j.slot) (kept w next joined all new) joined so_far.live)

    players : players_of next.records (joined ++ new.player ∷ []) ≡ players_of w.records joined ++ new.r ∷ []
    players =
        filter_map-append (λ j. record_at next.records j.slot) joined (new.player ∷ [])
        ∙ ap (λ (rs : List Rec). rs ++ players_of next.records (new.player ∷ [])) same
        ∙ ap (λ (o : Option Rec). players_of w.records joined ++ cons_option o []) new.live

-- one packet more
pub linked-step : (start w next : WorldView) (joined all : List Joined) → IsLinkedSince start w joined → IsWorldAfter w next joined all → IsLinkedSince start next all
linked-step start w next joined all so_far (inl e) =
    subst (λ (js : List Joined). IsLinkedSince start next js) (sym e.0) (subst (λ (v : WorldView). IsLinkedSince start v joined) (sym e.1) so_far)
linked-step start w next joined all so_far (inr new) = linked-new start w next joined all so_far new

-- where nobody joined the world is as it was
pub linked-none : (start w : WorldView) (joined : List Joined) → IsLinkedSince start w joined → joined ≡ [] → w ≡ start
linked-none start w joined is none = is.world ∙ ap (λ (js : List Joined). with_records start (players_of w.records js)) none

-- ---- the end of a frame

-- the slots below some whose clients leave
pub leavers_below : List (Option Client) → ℕ → List ℕ
leavers_below clients n = filter (λ slot. is_leaver (client_at clients slot)) (range_with_len 0 n)

-- the end of a frame for the slots below some leaves the others' clients
untouched : (state : State) (n slot : ℕ) → n ≤ slot → client_at (finished_up_to state n).clients slot ≡ client_at state.clients slot
unfolding finished_up_to
untouched state zero slot below = refl
untouched state (suc n) slot below =
    let before = finished_up_to state n in
    let apart : slot ≢ n = λ same. absurd (omega (arith, below, same)) in
    get_or-set_other before.clients n slot (finished_client (client_at before.clients n)) None apart ∙ untouched state n slot (omega (arith, below))

-- no slot is finished
pub ended-start : (w : WorldView) (clients : List (Option Client)) → w ≡ without_ids w (leavers_below clients 0)
unfolding leavers_below
ended-start w clients = refl

-- one slot more
pub ended-step : (start w next : WorldView) (state now : State) (slot : ℕ) → now ≡ finished_up_to state slot → w ≡ without_ids start (leavers_below state.clients slot)
    → next ≡ world_finished_at (client_at now.clients slot) w slot → next ≡ without_ids start (leavers_below state.clients (slot + 1))
unfolding leavers_below
ended-step start w next state now slot so_far is e =
    e ∙ ap (λ (place : Option Client). world_finished_at place w slot) here ∙ by (is_leaver (client_at state.clients slot)) refl
    ∙ ap (λ (n : ℕ). without_ids start (leavers_below state.clients n)) (sym (add-one slot))
  where
    here : client_at now.clients slot ≡ client_at state.clients slot
    here = ap (λ (s : State). client_at s.clients slot) so_far ∙ untouched state slot slot (omega arith)

    more : leavers_below state.clients (suc slot) ≡ leavers_below state.clients slot ++ filter (λ k. is_leaver (client_at state.clients k)) (slot ∷ [])
    more = ap (filter (λ k. is_leaver (client_at state.clients k))) (range-more 0 slot ∙ ap (λ (k : ℕ). range_with_len 0 slot ++ k ∷ []) (omega arith))
        ∙ filter-append (λ k. is_leaver (client_at state.clients k)) (range_with_len 0 slot) (slot ∷ [])

    by : (b : Bool) → is_leaver (client_at state.clients slot) ≡ b → (if b then without_id w slot else w) ≡ without_ids start (leavers_below state.clients (suc slot))
    by true f =
        ap (λ (v : WorldView). without_id v slot) is ∙ sym (fold_push without_id start (leavers_below state.clients slot) slot)
        ∙ ap (without_ids start) (sym (more ∙ ap (λ (b : Bool). leavers_below state.clients slot ++ cond b (slot ∷ []) []) f))
    by false f =
        is ∙ ap (without_ids start) (sym (more ∙ ap (λ (b : Bool). leavers_below state.clients slot ++ cond b (slot ∷ []) []) f ∙ append-nil (leavers_below state.clients slot)))

-- all slots are finished
pub ended-all : (start w : WorldView) (clients : List (Option Client)) (n : ℕ) → n ≡ 64 → w ≡ without_ids start (leavers_below clients n) → w ≡ without_ids start (leavers_of clients)
unfolding leavers_below leavers_of
ended-all start w clients n all is = is ∙ ap (λ (k : ℕ). without_ids start (leavers_below clients k)) all
