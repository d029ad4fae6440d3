-- Applications and lines of scripts read back.
use Rattle.std.proofs.lemmas.List.Elements.{All-weaker}
use Rattle.std.proofs.Common.{◌≡◌, ℕ, ◌≤◌, All, List, length, Bool, true, false, Ok, refl, arith, rules}
use Rattle.machine_setup.specs.declared.script.Input.{Input}
use Rattle.machine_setup.specs.declared.script.Input.TheVariants as input
use Rattle.machine_setup.specs.declared.script.Line.{Line}
use Rattle.of10_match.specs.declared.matches.Match.{Match}
use Rattle.doc_forms.specs.Forms.{list}
use Rattle.doc_forms.specs.Written.{list_data}
use Rattle.scenario_doc.specs.Packets.{match_of}
use Rattle.scenario_doc.specs.Plans.{plan_of}
use Rattle.scenario_doc.specs.Ranges.{AreWidePlans, IsWideInput, IsWideLine, IsWideMatch, IsWidePlan}
use Rattle.scenario_doc.specs.Script.{line_of}
use Rattle.scenario_doc.specs.Written.{IsNarrowInput, IsNarrowLine, IsNarrowPlan, input_data, line_data, mark_of, match_data, plan_data}
use Rattle.scenario_doc.specs.declared.plans.Plan.{Plan}
use Rattle.scenario_doc.specs.declared.plans.Plan.TheVariants as plan
use Rattle.scenario_doc.proofs.WrittenForms.{All-both, bits_reads, list_reads, narrow, number_reads}
use Rattle.scenario_doc.proofs.WrittenPackets.{header_reads, match_reads}

pub rules_read : (rules : List Match) → (length rules ≤ 64) × All IsWideMatch rules → list match_of 64 (list_data match_data rules) ≡ Ok rules
rules_read matches w = list_reads match_of match_data 64 matches w.0 (All-weaker IsWideMatch (λ m. match_of (match_data m) ≡ Ok m) match_reads matches w.1)

pub plan_reads : (one : Plan) → IsWidePlan one → IsNarrowPlan one → plan_of (plan_data one) ≡ Ok one
plan_reads (plan.Learning idle) w n = rw (bits_reads 16 idle (omega arith))
plan_reads (plan.Firewall reinstall matches) w n = rw (rules_read matches w)
plan_reads (plan.Routing clear_on_down) w n = refl

pub plans_read : (plans : List Plan) → AreWidePlans plans → All IsNarrowPlan plans → list plan_of 4 (list_data plan_data plans) ≡ Ok plans
plans_read plans w n = list_reads plan_of plan_data 4 plans w.0 (All-both IsWidePlan IsNarrowPlan (λ p. plan_of (plan_data p) ≡ Ok p) plan_reads plans w.1 n)

-- a line, by its mark and its input
input_reads : (quiet : Bool) (one : Input) → IsWideInput one → IsNarrowInput one
    → line_of (input_data (mark_of quiet) one) ≡ Ok (record { after_quiet = quiet; input = one })
input_reads true (input.Inject host packet) w n = rw (narrow host n, header_reads packet.header w.header, bits_reads 32 packet.tag w.tag)
input_reads false (input.Inject host packet) w n = rw (narrow host n, header_reads packet.header w.header, bits_reads 32 packet.tag w.tag)
input_reads true (input.LinkDown link) w n = rw (narrow link n)
input_reads false (input.LinkDown link) w n = rw (narrow link n)
input_reads true (input.LinkUp link) w n = rw (narrow link n)
input_reads false (input.LinkUp link) w n = rw (narrow link n)
input_reads true (input.SwitchFail s) w n = rw (narrow s n)
input_reads false (input.SwitchFail s) w n = rw (narrow s n)
input_reads true (input.SwitchUp s) w n = rw (narrow s n)
input_reads false (input.SwitchUp s) w n = rw (narrow s n)
input_reads true (input.ControlDown s) w n = rw (narrow s n)
input_reads false (input.ControlDown s) w n = rw (narrow s n)
input_reads true (input.ControlUp s) w n = rw (narrow s n)
input_reads false (input.ControlUp s) w n = rw (narrow s n)
input_reads true (input.HostMove host s p) w n = rw (narrow host n.0, narrow s n.1, narrow p n.2)
input_reads false (input.HostMove host s p) w n = rw (narrow host n.0, narrow s n.1, narrow p n.2)
input_reads true (input.Policy c deny) w n = rw (narrow c n, match_reads deny w)
input_reads false (input.Policy c deny) w n = rw (narrow c n, match_reads deny w)
input_reads true (input.Seconds n) w h = rw (number_reads 1 1000000 n w.0 w.1)
input_reads false (input.Seconds n) w h = rw (number_reads 1 1000000 n w.0 w.1)

pub line_reads : (line : Line) → IsWideLine line → IsNarrowLine line → line_of (line_data line) ≡ Ok line
line_reads line w n = input_reads line.after_quiet line.input w n
