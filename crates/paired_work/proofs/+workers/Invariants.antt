use Rattle.std.proofs.Common.{◌+◌, ◌*◌, length}
use Rattle.paired_work.proofs.+workers.Given as goal

abbrev pub decreases-work_all : goal.decreases-work_all
decreases-work_all g l = 4 * length l.works.now

abbrev pub decreases-work_from : goal.decreases-work_from
decreases-work_from g l = 4 * length l.others.now + 3

abbrev pub decreases-work_both : goal.decreases-work_both
decreases-work_both g l = 4 * length l.others.now + 2

abbrev pub decreases-work_both-rest : goal.decreases-work_both-rest
decreases-work_both-rest g l = 4 * length l.others.now + 1
