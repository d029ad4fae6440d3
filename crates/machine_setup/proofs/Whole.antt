-- What the tests of the parts of a setup say together.
use Rattle.std.proofs.Common.{◌≡◌, ℕ, ◌≤◌, List, length, Bool, IsTrue, ◌↔◌, All, ◌&&◌}
use Rattle.topology.specs.declared.network.Topology.{Topology}
use Rattle.machine_setup.specs.Setup.{IsInput, IsLimits, IsNetwork, IsPresets, IsValid}
use Rattle.machine_setup.specs.declared.preset.Preset.{Preset}
use Rattle.machine_setup.specs.declared.script.Line.{Line}
use Rattle.machine_setup.specs.declared.setup.Limits.{Limits}
use Rattle.machine_setup.proofs.Wired.{both}

-- all four tests are passed
all_four : (a b c d : Bool) → IsTrue (((a && b) && c) && d) ↔ (IsTrue a × IsTrue b × IsTrue c × IsTrue d)
all_four a b c d = (
  λ ok. let abcd = (both ((a && b) && c) d).0 ok in let abc = (both (a && b) c).0 abcd.0 in let ab = (both a b).0 abc.0 in
      (ab.0, ab.1, abc.1, abcd.1),
  λ h. (both ((a && b) && c) d).1 ((both (a && b) c).1 ((both a b).1 (h.0, h.1), h.2), h.3),
)

pub whole : (t : Topology) (ports : List ℕ) (presets entries : List (List Preset)) (n m : ℕ) (script lines : List Line) (l : Limits) (a b c d : Bool)
    → n ≡ m → lines ≡ script → ports ≡ t.ports → entries ≡ presets
    → (IsTrue a ↔ ((n ≤ 8) × IsLimits l))
    → (IsTrue b ↔ ((length lines ≤ 256) × All (λ line. IsInput t n line.input) lines))
    → (IsTrue c ↔ IsNetwork t n)
    → (IsTrue d ↔ IsPresets ports entries)
    → IsTrue (((a && b) && c) && d) ↔ IsValid t presets m script l
whole t ports presets entries n m script lines l a b c d en es ep ee ha hb hc hd = (
  λ ok. let h = (all_four a b c d).0 ok in
      record {
        network = rw (← en) (hc.0 h.2);
        few = rw (← en) (ha.0 h.0).0;
        starts = rw (← ep, ← ee) (hd.0 h.3);
        lines = rw (← es) (hb.0 h.1).0;
        inputs = rw (← en, ← es) (hb.0 h.1).1;
        bounds = (ha.0 h.0).1;
      },
  λ v. (all_four a b c d).1 (ha.1 (rw en v.few, v.bounds), hb.1 (rw es v.lines, rw (en, es) v.inputs), hc.1 (rw en v.network), hd.1 (rw (ep, ee) v.starts)),
)
