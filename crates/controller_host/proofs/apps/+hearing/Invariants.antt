use Rattle.std.proofs.Common.{◌+◌, ◌*◌, length}
use Rattle.controller_host.proofs.apps.+hearing.Given as goal

-- fewer applications are left
abbrev pub decreases-hear_all : goal.decreases-hear_all
decreases-hear_all l = 2 * length l.apps.now

abbrev pub decreases-hear_both : goal.decreases-hear_both
decreases-hear_both l = 2 * length l.rest.now + 1
