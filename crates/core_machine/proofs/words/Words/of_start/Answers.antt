use Rattle.std.proofs.Common.{◌≡◌, ◌∙◌, ℕ, List, ap}
use Rattle.core_steps.specs.Encoding.{nth_word}
use Rattle.core_steps.specs.declared.sizes.TheConstants.{TABLE_NODES, TABLE_STATES}
use Rattle.core_steps.specs.Nodes.{has}
use Rattle.core_steps.specs.Stands.{is_player, start_words}
use Rattle.core_seats.specs.Shown.{fixed_of}
use Rattle.core_machine.specs.Tables.{within}
use Rattle.core_steps.proofs.StartWords.{dead_record, dead_player, words_if_live, state_if_live, zeros_at, zeros}
use Rattle.core_machine.proofs.StartRecords.{all_within, all_rows, same_words}
use Rattle.core_machine.proofs.words.Words.of_start.Goals as goal

pub returns : goal.returns
returns g c =
    let F = fixed_of g.A.Action.meaning c.args.rules.now in
    let start = start_words F in
    let node : within TABLE_NODES (zeros TABLE_NODES) start.node ≡ start.node = all_within TABLE_NODES (zeros TABLE_NODES) start.node (λ k below. zeros_at TABLE_NODES k) in
    let links = all_within TABLE_NODES c.all_links.result start.links c.all_links.ensures in
    let records = c.args.rules.now.start in
    let body = all_rows c.all_bodies.result start.body (λ slot k below. ap (λ (words : List ℕ). nth_word words k) (c.all_bodies.ensures slot below)
    ∙ words_if_live (is_player F slot) (F.start.record_of slot) k (λ dead. dead_record records slot (dead_player F slot below dead))) in
    let state = all_within TABLE_STATES c.all_states.result start.state (λ id below. c.all_states.ensures id below
    ∙ state_if_live (has F.start.ids id) (F.start.record_of id) (λ dead. dead_record records id dead)) in
    same_words start _ _ _ _ node links body state
