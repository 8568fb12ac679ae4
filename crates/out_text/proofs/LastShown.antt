-- Where the last `did` line of a slot reports its player, there its `to` line shows it.
use Rattle.std.proofs.Common.{◌≡◌, ◌≢◌, ℕ, zero, suc, ◌<◌, false, List, [], ◌∷◌, ◌++◌, map, take, Option, Some, None, Ok, refl, sym, ap, ◌∙◌, subst, arith, append-nil}
use Rattle.std.specs.Prelude.{All, Contains}
use Rattle.std.specs.Int.{w32}
use Rattle.std.proofs.lemmas.Int.{fits_signed_from_abs}
use Rattle.std.proofs.lemmas.Option.{same_Some}
use Rattle.std.proofs.lemmas.List.Elements.{All-head, All-tail, All-nil, All-cons}
use Rattle.arena_geo.specs.declared.vec3.Vec3.{Vec3}
use Rattle.arena_geo.specs.Vectors.{IsNear, Fits}
use Rattle.entity_recs.specs.declared.rec.Rec.{Rec}
use Rattle.entity_recs.specs.declared.effect.Entry.{Entry}
use Rattle.arena_map.specs.Maps.{MapView, IsMap}
use Rattle.world_tree.specs.Live.{record_at, live_in, AreEntries}
use Rattle.packet_read.specs.declared.arrival.Arrival.{Arrival}
use Rattle.client_ports.specs.declared.received.Refused.{Refused}
use Rattle.client_ports.specs.declared.received.Joined.{Joined}
use Rattle.client_ports.specs.Clients.{client_at}
use Rattle.client_ports.specs.States.{State, IsServerState}
use Rattle.client_ports.specs.Receiving.{Receiving}
use Rattle.client_ports.specs.Finishing.{is_leaver}
use Rattle.client_ports.specs.Lists.{Lists}
use Rattle.snapshot_write.specs.declared.snapshot.Snapshot.{Snapshot}
use Rattle.snapshot_write.specs.declared.snap_fault.SnapFault.{SnapFault}
use Rattle.snapshot_write.specs.Snapshots.{snapshot}
use Rattle.snapshot_write.specs.Faults.{fault_of}
use Rattle.snapshot_write.specs.Reading.{snapshot_in, answer, reading}
use Rattle.snapshot_write.proofs.Fields.{vector_again}
use Rattle.plain_server.specs.Replies.{players_in}
use Rattle.plain_server.specs.Frames.{received_in, moved_by, state_after, IsRightAfter}
use Rattle.plain_server.specs.Ends.{HasNoEntryOf, IsLastEntry, IsAsReported}
use Rattle.plain_server.proofs.Frames.{received_is, moved_by_is}
use Rattle.plain_server.proofs.Ending.{moved_in, kept_in}
use Rattle.out_text.specs.Dids.{Did, did_of}
use Rattle.out_text.specs.OutLines.{OutLine, FrameLine, FromLine, NoLine, JoinedLine, DidLine, ToLine, EndLine}
use Rattle.out_text.specs.FrameLines.{no_line, joined_line, did_line, to_line, to_lines, frame_lines, lines_with}
use Rattle.out_text.specs.ToLines.{Reply, replies_in, reply_to}
use Rattle.out_text.specs.LastMoves.{moves_in, IsLastMove, IsShownAt, IsLiveAt}
use Rattle.out_text.specs.Laws.{LastMovesAreShown}
use Rattle.out_text.proofs.OneReply.{at_front, entries_of, one_reply}

-- ---- the moves that lines report are the journal's

moves-append : (xs ys : List OutLine) → moves_in (xs ++ ys) ≡ moves_in xs ++ moves_in ys
moves-append [] ys = refl
moves-append (FrameLine frame ∷ xs) ys = moves-append xs ys
moves-append (FromLine port bytes ∷ xs) ys = moves-append xs ys
moves-append (NoLine place why ∷ xs) ys = moves-append xs ys
moves-append (JoinedLine port slot ∷ xs) ys = moves-append xs ys
moves-append (DidLine did ∷ xs) ys = ap (λ (ds : List Did). did ∷ ds) (moves-append xs ys)
moves-append (ToLine slot bytes ∷ xs) ys = moves-append xs ys
moves-append (EndLine frames ∷ xs) ys = moves-append xs ys

none-refused : (ts : List Refused) → moves_in (map no_line ts) ≡ []
none-refused [] = refl
none-refused (t ∷ ts) = none-refused ts

none-joined : (js : List Joined) → moves_in (map joined_line js) ≡ []
none-joined [] = refl
none-joined (j ∷ js) = none-joined js

each-done : (es : List Entry) → moves_in (map did_line es) ≡ map did_of es
each-done [] = refl
each-done (e ∷ es) = ap (λ (ds : List Did). did_of e ∷ ds) (each-done es)

none-shown : (frame : ℕ) (live players : List Rec) → moves_in (map (to_line frame live) players) ≡ []
none-shown frame live [] = refl
none-shown frame live (me ∷ players) = none-shown frame live players

moves_of_frame : (frame : ℕ) (lists : Lists) (journal : List Entry) (records : List (Option Rec)) → moves_in (frame_lines frame lists journal records) ≡ map did_of journal
moves_of_frame frame lists journal records =
    let refused = map no_line lists.refused in
    let joined = map joined_line lists.joined in
    let done = map did_line journal in
    let first : moves_in (refused ++ joined) ≡ [] = moves-append refused joined ∙ ap (λ ds. ds ++ moves_in joined) (none-refused lists.refused) ∙ none-joined lists.joined in
    let before : moves_in (refused ++ joined ++ done) ≡ map did_of journal = moves-append (refused ++ joined) done ∙ ap (λ ds. ds ++ moves_in done) first ∙ each-done journal in
    moves-append (refused ++ joined ++ done) (to_lines frame records)
    ∙ ap (λ ds. moves_in (refused ++ joined ++ done) ++ ds) (none-shown frame (live_in records) (players_in records))
    ∙ append-nil (moves_in (refused ++ joined ++ done))
    ∙ before

-- the entry of a report, and the entries after it
record IsEntryOf (journal : List Entry) (d : Did) (after : List Did) : Type 0 where
  before : List Entry
  e : Entry
  later : List Entry
  journal_is : journal ≡ before ++ e ∷ later
  did_is : did_of e ≡ d
  later_is : map did_of later ≡ after

entry_of_report : (journal : List Entry) (before : List Did) (d : Did) (after : List Did) → map did_of journal ≡ before ++ d ∷ after → IsEntryOf journal d after
entry_of_report [] [] d after same = cc
entry_of_report [] (x ∷ before) d after same = cc
entry_of_report (e ∷ journal) [] d after same = record { before = []; e = e; later = journal; journal_is = refl; did_is = cc; later_is = cc }
entry_of_report (e ∷ journal) (x ∷ before) d after same =
    let tail : map did_of journal ≡ before ++ d ∷ after = cc in
    let rest = entry_of_report journal before d after tail in
    record {
      before = e ∷ rest.before;
      e = rest.e;
      later = rest.later;
      journal_is = ap (λ (es : List Entry). e ∷ es) rest.journal_is;
      did_is = rest.did_is;
      later_is = rest.later_is;
    }

no_later : (slot : ℕ) (later : List Entry) → All (λ (other : Did). other.slot ≢ slot) (map did_of later) → HasNoEntryOf slot later
no_later slot [] none = All-nil (λ (e : Entry). e.slot ≢ slot)
no_later slot (e ∷ later) none =
    All-cons (λ (x : Entry). x.slot ≢ slot) e later (All-head (λ (other : Did). other.slot ≢ slot) (did_of e) (map did_of later) none)
    (no_later slot later (All-tail (λ (other : Did). other.slot ≢ slot) (did_of e) (map did_of later) none))

-- ---- the replies are those of the live players

-- a live record, at its place
record IsAllowedAt (records : List (Option Rec)) (me : Rec) : Type 0 where
  place : ℕ
  at : record_at records place ≡ Some me

placed : (records : List (Option Rec)) (me : Rec) → Contains (live_in records) me → IsAllowedAt records me
placed [] me (k, within, is) = absurd (omega (arith, within))
placed (None ∷ records) me has = let rest = placed records me has in record { place = suc rest.place; at = rest.at }
placed (Some r ∷ records) me (zero, within, is) = record { place = 0; at = ap Some is }
placed (Some r ∷ records) me (suc k, within, is) =
    let rest = placed records me (k, omega (arith, within), is) in
    record { place = suc rest.place; at = rest.at }

listed : (records : List (Option Rec)) (id : ℕ) (me : Rec) → record_at records id ≡ Some me → Contains (live_in records) me
listed [] id me at = cc
listed (None ∷ records) zero me at = cc
listed (Some r ∷ records) zero me at = (0, omega arith, same_Some r me at)
listed (None ∷ records) (suc id) me at = listed records id me at
listed (Some r ∷ records) (suc id) me at = one_later (listed records id me at)
  where
    one_later : Contains (live_in records) me → Contains (r ∷ live_in records) me
    one_later (k, within, is) = (suc k, omega (arith, within), is)

in_front : (n : ℕ) (records : List (Option Rec)) (id : ℕ) (me : Rec) → id < n → record_at records id ≡ Some me → record_at (take n records) id ≡ Some me
in_front zero records id me below at = absurd (omega (arith, below))
in_front (suc n) [] id me below at = cc
in_front (suc n) (o ∷ records) zero me below at = at
in_front (suc n) (o ∷ records) (suc id) me below at = in_front n records id me (omega (arith, below)) at

-- the player of a reply
record IsReplyOf (frame : ℕ) (live players : List Rec) (reply : Reply) : Type 0 where
  me : Rec
  has : Contains players me
  is : reply_to frame live me ≡ reply

reply_of : (frame : ℕ) (live players : List Rec) (reply : Reply) → Contains (map (reply_to frame live) players) reply → IsReplyOf frame live players reply
reply_of frame live [] reply (k, within, is) = absurd (omega (arith, within))
reply_of frame live (me ∷ players) reply (zero, within, is) = record { me = me; has = (0, omega arith, refl); is = is }
reply_of frame live (me ∷ players) reply (suc k, within, is) =
    let rest = reply_of frame live players reply (k, omega (arith, within), is) in
    record { me = rest.me; has = one_later rest.me rest.has; is = rest.is }
  where
    one_later : (other : Rec) → Contains players other → Contains (me ∷ players) other
    one_later other (i, inside, there) = (suc i, omega (arith, inside), there)

replied : (frame : ℕ) (live players : List Rec) (me : Rec) → Contains players me → Contains (map (reply_to frame live) players) (reply_to frame live me)
replied frame live [] me (k, within, is) = absurd (omega (arith, within))
replied frame live (r ∷ players) me (zero, within, is) = (0, omega arith, ap (reply_to frame live) is)
replied frame live (r ∷ players) me (suc k, within, is) = one_later (replied frame live players me (k, omega (arith, within), is))
  where
    one_later : Contains (map (reply_to frame live) players) (reply_to frame live me) → Contains (map (reply_to frame live) (r ∷ players)) (reply_to frame live me)
    one_later (i, inside, there) = (suc i, omega (arith, inside), there)

-- ---- a snapshot is read with the origin that was written

near_fits : (v : Vec3) → IsNear 1048576 v → Fits v
near_fits v near = record {
  x = fits_signed_from_abs w32 v.x (omega (arith, near.x));
  y = fits_signed_from_abs w32 v.y (omega (arith, near.y));
  z = fits_signed_from_abs w32 v.z (omega (arith, near.z));
}

read_as : (bytes : List ℕ) (s : Snapshot) → reading bytes ≡ Ok s → snapshot_in bytes ≡ s
read_as bytes s is = by (fault_of bytes) is
  where
    by : (found : Option SnapFault) → answer found (snapshot_in bytes) ≡ Ok s → snapshot_in bytes ≡ s
    by None e = cc
    by (Some fault) e = cc

origin_read : (frame : ℕ) (me : Rec) (live : List Rec) (s : Snapshot) → IsNear 1048576 me.origin → reading (snapshot frame me live) ≡ Ok s → s.own.origin ≡ me.origin
origin_read frame me live s near is =
    ap (λ (t : Snapshot). t.own.origin) (sym (read_as (snapshot frame me live) s is)) ∙ vector_again me.origin (near_fits me.origin near)

-- ---- a frame

module _ (arena : MapView) (frame : ℕ) (state : State) (arrivals : List Arrival) (journal : List Entry) (is_map : IsMap arena) (is : IsServerState arena state)
    (right : IsRightAfter arena (received_in arena frame state arrivals) journal) (d : Did)
    (last : IsLastMove (lines_with arena frame (received_in arena frame state arrivals) journal) d) where
  abbrev r : Receiving
  r = received_in arena frame state arrivals

  abbrev records : List (Option Rec)
  records = (moved_by arena r journal).records

  after : IsServerState arena (moved_by arena r journal)
  after = moved_by_is arena r journal is_map (received_is arena frame state arrivals is_map is)

  entries : AreEntries records
  entries = entries_of arena records after.fits.valid

  of_report : IsEntryOf journal d last.after
  of_report = entry_of_report journal last.before d last.after (sym (moves_of_frame frame r.lists journal records) ∙ last.moves_are)

  slot_is : of_report.e.slot ≡ d.slot
  slot_is = ap (λ (x : Did). x.slot) of_report.did_is

  is_last : IsLastEntry journal of_report.e
  is_last = record {
    before = of_report.before;
    after = of_report.later;
    journal_is = of_report.journal_is;
    last = subst (λ (slot : ℕ). HasNoEntryOf slot of_report.later) (sym slot_is)
        (no_later d.slot of_report.later (subst (All (λ (other : Did). other.slot ≢ d.slot)) (sym of_report.later_is) last.last));
  }

  reported : IsAsReported records of_report.e
  reported = moved_in arena frame state arrivals journal is_map is right of_report.e is_last

  below : d.slot < 64
  below = subst (λ (slot : ℕ). slot < 64) slot_is reported.slot

  -- the player is live at the origin that is reported
  pub live_at : IsLiveAt records d.slot d.origin
  live_at = record {
    now = reported.now;
    live = ap (record_at records) (sym slot_is) ∙ reported.live;
    origin_is = reported.origin ∙ ap (λ (x : Did). x.origin) of_report.did_is;
  }

  each_shown : (other : Reply) (s : Snapshot) → Contains (replies_in (lines_with arena frame r journal)) other → other.slot ≡ d.slot → reading other.bytes ≡ Ok s → s.own.origin ≡ d.origin
  each_shown other s has to_slot read =
      let all = one_reply arena frame state arrivals journal is_map is in
      let one = reply_of frame (live_in records) (live_in (take 64 records)) other (subst (λ (rs : List Reply). Contains rs other) all.replies has) in
      let place = placed (take 64 records) one.me one.has in
      let at : record_at records place.place ≡ Some one.me = at_front 64 records place.place one.me place.at in
      let entry = entries place.place one.me at in
      let slot : one.me.id ≡ d.slot = ap (λ (x : Reply). x.slot) one.is ∙ to_slot in
      let same : one.me ≡ live_at.now = same_Some one.me live_at.now (sym at ∙ ap (record_at records) (sym entry.own_id ∙ slot) ∙ live_at.live) in
      let bytes : other.bytes ≡ snapshot frame one.me (live_in records) = sym (ap (λ (x : Reply). x.bytes) one.is) in
      origin_read frame one.me (live_in records) s entry.is_record.origin (sym (ap reading bytes) ∙ read)
      ∙ ap (λ (x : Rec). x.origin) same
      ∙ live_at.origin_is

  pub shown_at : IsShownAt (lines_with arena frame r journal) d.slot d.origin
  shown_at =
      let all = one_reply arena frame state arrivals journal is_map is in
      let me = live_at.now in
      let there = listed (take 64 records) d.slot me (in_front 64 records d.slot me below live_at.live) in
      record {
        reply = reply_to frame (live_in records) me;
        listed = subst (λ (rs : List Reply). Contains rs (reply_to frame (live_in records) me)) (sym all.replies) (replied frame (live_in records) (live_in (take 64 records)) me there);
        to_slot = (entries d.slot me live_at.live).own_id;
        each = each_shown;
      }

  pub next_at : is_leaver (client_at r.state.clients d.slot) ≡ false → IsLiveAt (state_after arena r journal).records d.slot d.origin
  next_at stays = record {
    now = live_at.now;
    live = kept_in arena frame state arrivals journal is_map is d.slot stays ∙ live_at.live;
    origin_is = live_at.origin_is;
  }

pub last_shown : LastMovesAreShown
last_shown = record { shown = shown_at; next = next_at }
