use Rattle.ruled_words.proofs.rule.laws.refused_takes_were_served.Goals as goal

pub returns : goal.returns
returns c = λ F rooms s r i sight at h one. r.takes.refused i sight at h one
