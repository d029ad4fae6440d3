-- The host's place, and the headers of which the invariant speaks there.
use Rattle.std.proofs.Common.{◌≡◌, ◌∙◌, ℕ, Some, get_or, slice_get, sym}
use Rattle.invariant_check.proofs.Verdicts.{keeps_at, lesser_keep, place_here, witness_starts}
use Rattle.invariant_check.proofs.judge.by_host.Goals as goal

pub returns-in-Some-clause-first : goal.returns-in-Some-clause-first
returns-in-Some-clause-first c =
    let place : ℕ × ℕ = get_or c.deref.result.now c.from.result (0, 0) in
    let here : slice_get c.args.net.now.status.place c.args.host ≡ Some place =
    place_here c.deref.result.now c.args.net.now.status.place c.from.result c.args.host c.deref.ensures c.from.ensures c.requires.host in
    let spoken = rw c.in-Some.is at c.spoken_of.ensures in
    witness_starts c.args.net.now c.args.invariant.now c.args.host place c.in-Some.cell here (sym c.is_switch_up.ensures ∙ c.if-not-is_switch_up.false) spoken
    c.least_witness.result c.least_witness.ensures.inside c.least_witness.ensures.first

pub returns-in-Some-clause-least : goal.returns-in-Some-clause-least
returns-in-Some-clause-least c =
    let place : ℕ × ℕ = get_or c.deref.result.now c.from.result (0, 0) in
    let here : slice_get c.args.net.now.status.place c.args.host ≡ Some place =
    place_here c.deref.result.now c.args.net.now.status.place c.from.result c.args.host c.deref.ensures c.from.ensures c.requires.host in
    let spoken = rw c.in-Some.is at c.spoken_of.ensures in
    lesser_keep c.args.net.now c.args.invariant.now c.args.host place c.in-Some.cell here spoken c.least_witness.result c.least_witness.ensures.least

pub returns-in-None-clause-keeps : goal.returns-in-None-clause-keeps
returns-in-None-clause-keeps c = λ none h.
    let place : ℕ × ℕ = get_or c.deref.result.now c.from.result (0, 0) in
    let here : slice_get c.args.net.now.status.place c.args.host ≡ Some place =
    place_here c.deref.result.now c.args.net.now.status.place c.from.result c.args.host c.deref.ensures c.from.ensures c.requires.host in
    let spoken = rw c.in-None.is at c.spoken_of.ensures in
    keeps_at c.args.net.now c.args.invariant.now c.args.host place here h (λ valid speaks. absurd (let no = (spoken h).1 (valid, speaks) in cc no))
