-- The lines of snapshots.
use Rattle.std.proofs.Common.{◌≡◌, ℕ, zero, suc, ◌+◌, ◌<◌, List, [], ◌∷◌, ◌++◌, map, take, drop, Option, Some, None, IfSome, add-one, refl, sym, ap, ◌∙◌, subst, arith}
use Rattle.std.specs.Option.{option_to_list}
use Rattle.std.proofs.lemmas.List.{map-append}
use Rattle.entity_recs.specs.declared.rec.Rec.{Rec}
use Rattle.world_tree.specs.Live.{record_at, live_in, AreEntries}
use Rattle.world_tree.specs.Worlds.{WorldView, record_of}
use Rattle.snapshot_write.specs.Snapshots.{snapshot}
use Rattle.out_text.specs.FrameLines.{to_line}
use Rattle.out_text.specs.OutLines.{OutLine, ToLine}
use Rattle.plain_server.specs.Replies.{players_in}
use Rattle.plain_server.proofs.SlotPlayers.{players_are_first}

-- the line of what was written for a player is that of its snapshot
pub reply-line : (w : WorldView) (frame slot : ℕ) (me : Rec) (bytes given : List ℕ) → AreEntries w.records → record_of w slot ≡ Some me
    → IfSome (record_of w slot) (λ r. bytes ≡ snapshot frame r (live_in w.records)) → given ≡ bytes → ToLine slot given ≡ to_line frame (live_in w.records) me
reply-line w frame slot me bytes given entries at written is =
    let shown : bytes ≡ snapshot frame me (live_in w.records) = subst (λ (o : Option Rec). IfSome o (λ r. bytes ≡ snapshot frame r (live_in w.records))) at written in
    ap (λ (bs : List ℕ). ToLine slot bs) (is ∙ shown) ∙ ap (λ (n : ℕ). ToLine n (snapshot frame me (live_in w.records))) (sym (entries slot me at).own_id)

-- ---- slot after slot

live-drop : (xs : List (Option Rec)) (k : ℕ) → live_in (drop k xs) ≡ option_to_list (record_at xs k) ++ live_in (drop (suc k) xs)
live-drop [] zero = refl
live-drop [] (suc k) = refl
live-drop (None ∷ xs) zero = refl
live-drop (Some x ∷ xs) zero = refl
live-drop (x ∷ xs) (suc k) = live-drop xs k

at-take : (n k : ℕ) (xs : List (Option Rec)) → k < n → record_at (take n xs) k ≡ record_at xs k
at-take zero k xs inside = absurd (omega (arith, inside))
at-take (suc n) k [] inside = refl
at-take (suc n) zero (x ∷ xs) inside = refl
at-take (suc n) (suc k) (x ∷ xs) inside = at-take n k xs (omega (arith, inside))

none-past : (n : ℕ) (xs : List (Option Rec)) → drop n (take n xs) ≡ []
none-past zero xs = refl
none-past (suc n) [] = refl
none-past (suc n) (x ∷ xs) = none-past n xs

module _ (f : Rec → OutLine) (records : List (Option Rec)) where
  -- the lines of the players from this slot on
  abbrev pub replies_left : ℕ → List OutLine
  replies_left k = map f (live_in (drop k (take 64 records)))

  pub replies-next : (k : ℕ) → k < 64 → replies_left k ≡ map f (option_to_list (record_at records k)) ++ replies_left (k + 1)
  replies-next k inside =
      ap (map f) (live-drop (take 64 records) k)
      ∙ map-append f (option_to_list (record_at (take 64 records) k)) (live_in (drop (suc k) (take 64 records)))
      ∙ ap (λ (o : Option Rec). map f (option_to_list o) ++ replies_left (suc k)) (at-take 64 k records inside)
      ∙ ap (λ (n : ℕ). map f (option_to_list (record_at records k)) ++ replies_left n) (sym (add-one k))

  pub replies-none : (k : ℕ) → k ≡ 64 → replies_left k ≡ []
  replies-none k all = ap replies_left all ∙ ap (λ (xs : List (Option Rec)). map f (live_in xs)) (none-past 64 records)

  pub replies-all : AreEntries records → map f (players_in records) ≡ replies_left 0
  replies-all entries = ap (map f) (players_are_first records entries)
