use Rattle.std.proofs.Common.{◌+◌, ◌*◌}
use Rattle.crew.proofs.helper.+Helpers-help+fn-Helpers-help-others.Given as goal

abbrev pub decreases-Helpers::help : goal.decreases-Helpers::help
decreases-Helpers::help g l = 2 * l.self

abbrev pub decreases-others : goal.decreases-others
decreases-others g l = 2 * l.rest + 1
