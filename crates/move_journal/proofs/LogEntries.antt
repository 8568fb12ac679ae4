-- The entries of several logs, counted.
use Rattle.std.proofs.Common.{◌≡◌, ℕ, ◌+◌, ◌<◌, ◌≤◌, suc, zero, List, [], ◌∷◌, take, length, ap, ◌∙◌, arith}
use Rattle.std.specs.Prelude.{slice_index_or}
use Rattle.std.proofs.lemmas.List.Concat.{flat_map-cons}
use Rattle.std.proofs.lemmas.List.{length-append}
use Rattle.move_journal.specs.Logs.{JournalView}
use Rattle.move_journal.specs.ByPlace.{entries_in}

count_cons : (log : JournalView) (logs : List JournalView) → length (entries_in (log ∷ logs)) ≡ length log.entries + length (entries_in logs)
count_cons log logs = ap length (flat_map-cons (λ (l : JournalView). l.entries) log logs) ∙ length-append log.entries (entries_in logs)

-- a log's entries and those of the logs before it are no more than all
pub log_fits : (logs : List JournalView) (i : ℕ) (d : JournalView) → i < length logs
    → length (entries_in (take i logs)) + length (slice_index_or logs i d).entries ≤ length (entries_in logs)
log_fits [] i d below = absurd (omega (arith, below))
log_fits (log ∷ logs) zero d below = let all = count_cons log logs in omega (arith, all)
log_fits (log ∷ logs) (suc i) d below =
    let all = count_cons log logs in
    let front = count_cons log (take i logs) in
    let rest = log_fits logs i d (omega (arith, below)) in
    omega (arith, all, front, rest)
