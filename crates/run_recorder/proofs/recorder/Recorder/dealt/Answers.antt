use Rattle.std.proofs.Common.{◌≡◌, ◌+◌, ◌++◌, ◌∷◌, [], All, length, ap, sym, ◌∙◌, subst, arith, length-append}
use Rattle.turn_book.specs.Words.{view_of}
use Rattle.run_recorder.proofs.Dealing.{all_idle, all_parts, idle_left, others_more, part_of}
use Rattle.run_recorder.specs.Answers.{AreParts, IsIdle}
use Rattle.run_recorder.specs.Recorder.{recorded}
use Rattle.run_recorder.proofs.recorder.Recorder.dealt.Goals as goal

pub loop-before-preserved : goal.loop-before-preserved
loop-before-preserved g c =
    let i = c.loop-before.invariant in
    let pushed : c.push.new.self.items ≡ c.loop-before.parts.items ++ c.in_ok-rest.dealt ∷ [] = c.in_ok-push.ensures.items in
    let long = ap length pushed ∙ length-append c.loop-before.parts.items (c.in_ok-rest.dealt ∷ []) in
    let its = c.in_ok-rest.ensures.part in
    record {
      count = let was = i.count in omega arith;
      of = c.in_ok-rest.ensures.of;
      left = c.in_ok-rest.ensures.left;
      others = others_more (recorded c.args.self.now) c.loop-before.parts.items c.push.new.self.items c.in_ok-rest.dealt (c.loop-before.before + 1) i.others pushed (ap (λ n. n + 1) (sym i.count)) its.0 its.1 its.2;
    }

pub returns-clause-parts : goal.returns-clause-parts
returns-clause-parts g c =
    let i = c.loop-before.invariant in
    let its = part_of (recorded c.args.self.now) c.part.result 0 c.loop-before.left c.part.ensures i.of in
    let list : c.of.result ≡ c.part.result ∷ c.loop-before.parts.items = c.of.ensures ∙ c.in_ok-insert.ensures.items in
    subst (AreParts (recorded c.args.self.now)) (sym list) (all_parts (recorded c.args.self.now) c.part.result c.loop-before.parts.items i.others (let count = i.count in omega arith) its.0 its.1)

pub returns-clause-idle : goal.returns-clause-idle
returns-clause-idle g c =
    let i = c.loop-before.invariant in
    let list : c.of.result ≡ c.part.result ∷ c.loop-before.parts.items = c.of.ensures ∙ c.in_ok-insert.ensures.items in
    let idle = idle_left (recorded c.args.self.now) (view_of c.loop-before.left) c.loop-before.before i.left c.part.result (ap (λ p. p.view) c.part.ensures) in
    subst (All IsIdle) (sym list) (all_idle (recorded c.args.self.now) c.part.result c.loop-before.parts.items i.others idle)
