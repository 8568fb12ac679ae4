use Rattle.core_machine.proofs.words.Words.make_store.Goals as goal

pub returns-in-Clear : goal.returns-in-Clear
returns-in-Clear c = λ beyond. rw c.in-Clear.is (c.unlink.ensures beyond)

pub returns-in-Link : goal.returns-in-Link
returns-in-Link c = λ beyond. rw c.in-Link.is (c.link.ensures beyond)
