use Rattle.std.proofs.Common.{rules, arith, ◌≡◌, List, Some, slice_get, slice_index, IsTrue}
use Rattle.std.proofs.lemmas.Option.{get_or_from_slice_get, slice_get_within}
use borrow.Author.Count.{below_more}
use Rattle.machine_setup.specs.Setup.{IsPresetsAt}
use Rattle.machine_setup.specs.declared.preset.Preset.{Preset}
use Rattle.machine_setup.proofs.presets.are_presets.Goals as goal

pub loop-s-preserved : goal.loop-s-preserved
loop-s-preserved c =
    let passed : IsTrue c.in_ok-are_presets_at.field-0 = search rules in
    let here = c.in_ok-are_presets_at.ensures.0 passed in
    below_more (λ k. (list : List Preset) → slice_get c.args.presets.now k ≡ Some list → IsPresetsAt (slice_index c.args.ports.now k) list)
    c.loop-s.s c.loop-s.invariant
    (λ list e.
    let at = get_or_from_slice_get c.args.presets.now c.loop-s.s list c.index-presets-s.result e in
    let same : list ≡ c.as_slice.result.now = cc in
    rw same here)

pub returns : goal.returns
returns c = (
  λ _. record {
    lists = c.if-presets-ports.false;
    each = λ s list e. let within = slice_get_within c.args.presets.now s list e in c.loop-s.invariant s (omega arith) list e;
  },
  λ _. search rules,
)
