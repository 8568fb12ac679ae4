-- The lines of a frame have one `to` line for each live slot, in rising slot.
use Rattle.std.proofs.Common.{◌≡◌, ℕ, zero, suc, List, [], ◌∷◌, ◌++◌, map, take, Option, Some, refl, sym, ap, ◌∙◌, subst}
use Rattle.std.specs.List.Sorted.{IsStrictlyIncreasing}
use Rattle.entity_recs.specs.declared.rec.Rec.{Rec}
use Rattle.entity_recs.specs.declared.effect.Entry.{Entry}
use Rattle.arena_map.specs.Maps.{MapView}
use Rattle.arena_map.specs.Validity.{IsValidWorld}
use Rattle.world_tree.specs.Live.{record_at, live_in, AreEntries}
use Rattle.world_tree.proofs.Rising.{ids_rise}
use Rattle.client_ports.specs.declared.received.Refused.{Refused}
use Rattle.client_ports.specs.declared.received.Joined.{Joined}
use Rattle.client_ports.specs.Lists.{Lists}
use Rattle.plain_server.specs.Frames.{received_in, moved_by}
use Rattle.plain_server.specs.Replies.{players_in}
use Rattle.plain_server.proofs.Frames.{received_is, moved_by_is}
use Rattle.plain_server.proofs.SlotPlayers.{players_are_first}
use Rattle.out_text.specs.OutLines.{OutLine, FrameLine, FromLine, NoLine, JoinedLine, DidLine, ToLine, EndLine}
use Rattle.out_text.specs.FrameLines.{no_line, joined_line, did_line, to_line, to_lines, frame_lines}
use Rattle.out_text.specs.ToLines.{Reply, replies_in, reply_to, HasOneReplyEach}
use Rattle.out_text.specs.Laws.{FramesHaveOneReplyEach}

replies-append : (xs ys : List OutLine) → replies_in (xs ++ ys) ≡ replies_in xs ++ replies_in ys
replies-append [] ys = refl
replies-append (FrameLine frame ∷ xs) ys = replies-append xs ys
replies-append (FromLine port bytes ∷ xs) ys = replies-append xs ys
replies-append (NoLine place why ∷ xs) ys = replies-append xs ys
replies-append (JoinedLine port slot ∷ xs) ys = replies-append xs ys
replies-append (DidLine did ∷ xs) ys = replies-append xs ys
replies-append (ToLine slot bytes ∷ xs) ys = ap (λ rs. record { slot = slot; bytes = bytes } ∷ rs) (replies-append xs ys)
replies-append (EndLine frames ∷ xs) ys = replies-append xs ys

-- no other line has one
none-refused : (ts : List Refused) → replies_in (map no_line ts) ≡ []
none-refused [] = refl
none-refused (t ∷ ts) = none-refused ts

none-joined : (js : List Joined) → replies_in (map joined_line js) ≡ []
none-joined [] = refl
none-joined (j ∷ js) = none-joined js

none-done : (es : List Entry) → replies_in (map did_line es) ≡ []
none-done [] = refl
none-done (e ∷ es) = none-done es

each-shown : (frame : ℕ) (live players : List Rec) → replies_in (map (to_line frame live) players) ≡ map (reply_to frame live) players
each-shown frame live [] = refl
each-shown frame live (me ∷ players) = ap (λ rs. reply_to frame live me ∷ rs) (each-shown frame live players)

of_frame : (frame : ℕ) (lists : Lists) (journal : List Entry) (records : List (Option Rec)) → replies_in (frame_lines frame lists journal records) ≡ map (reply_to frame (live_in records)) (players_in records)
of_frame frame lists journal records =
    let refused = map no_line lists.refused in
    let joined = map joined_line lists.joined in
    let done = map did_line journal in
    let tos = to_lines frame records in
    let first : replies_in (refused ++ joined) ≡ [] = replies-append refused joined ∙ ap (λ rs. rs ++ replies_in joined) (none-refused lists.refused) ∙ none-joined lists.joined in
    let before : replies_in (refused ++ joined ++ done) ≡ [] = replies-append (refused ++ joined) done ∙ ap (λ rs. rs ++ replies_in done) first ∙ none-done journal in
    replies-append (refused ++ joined ++ done) tos ∙ ap (λ rs. rs ++ replies_in tos) before ∙ each-shown frame (live_in records) (players_in records)

-- ---- in rising slot

slots-are : (frame : ℕ) (live players : List Rec) → map (λ (r : Reply). r.slot) (map (reply_to frame live) players) ≡ map (λ (me : Rec). me.id) players
slots-are frame live [] = refl
slots-are frame live (me ∷ players) = ap (λ (ids : List ℕ). me.id ∷ ids) (slots-are frame live players)

-- a place of the first records is a place of all
pub at_front : (k : ℕ) (records : List (Option Rec)) (i : ℕ) (r : Rec) → record_at (take k records) i ≡ Some r → record_at records i ≡ Some r
at_front zero records i r at = cc
at_front (suc k) [] i r at = cc
at_front (suc k) (o ∷ records) zero r at = at
at_front (suc k) (o ∷ records) (suc i) r at = at_front k records i r at

one_each : (frame : ℕ) (lists : Lists) (journal : List Entry) (records : List (Option Rec)) → AreEntries records → HasOneReplyEach frame records (frame_lines frame lists journal records)
one_each frame lists journal records entries =
    let shown = of_frame frame lists journal records ∙ ap (λ (ps : List Rec). map (reply_to frame (live_in records)) ps) (players_are_first records entries) in
    let front = take 64 records in
    let slots = ap (map (λ (r : Reply). r.slot)) shown ∙ slots-are frame (live_in records) (live_in front) in
    record {
      replies = shown;
      rising = subst IsStrictlyIncreasing (sym slots) (ids_rise front (λ id r at. (entries id r (at_front 64 records id r at)).own_id));
    }

pub entries_of : (arena : MapView) (records : List (Option Rec)) → IsValidWorld arena records → AreEntries records
entries_of arena records valid id r at = record { is_record = (valid.each id r at).is_record; own_id = (valid.each id r at).own_id }

pub one_reply : FramesHaveOneReplyEach
one_reply arena frame state arrivals journal is_map is =
    let r = received_in arena frame state arrivals in
    let moved = moved_by_is arena r journal is_map (received_is arena frame state arrivals is_map is) in
    let records = (moved_by arena r journal).records in
    one_each frame r.lists journal records (entries_of arena records moved.fits.valid)
