use Rattle.std.proofs.Common.{rules, ◌≡◌, ◌∷◌, All, subst}
use Rattle.std.proofs.lemmas.List.Elements.{All-tail}
use Rattle.paired_work.specs.Worked.{CanWork}
use Rattle.paired_work.proofs.+workers.Goals as goal

pub work_all-work_from-requires-clause-others : goal.work_all-work_from-requires-clause-others
work_all-work_from-requires-clause-others g t c κs within =
    let list : c.args.works.now ≡ c.in-Some.first.now ∷ c.in-Some.others.now = search rules in
    All-tail (CanWork g.F.Fn c.args.work.now) c.in-Some.first.now c.in-Some.others.now (subst (All (CanWork g.F.Fn c.args.work.now)) list c.requires.can)
