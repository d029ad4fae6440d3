use Rattle.std.proofs.Common.{rules}
use Rattle.machine_setup.proofs.Wired.{wired}
use Rattle.machine_setup.proofs.network.is_wired.Goals as goal

pub returns : goal.returns
returns c = wired c.args.topology.now c.in_ok-ends.ends.items c.in_ok-places.places.items c.in_ok-attached.attached.items
    c.in_ok-addresses.addresses.items c.are_both_ports-fit.result c.are_both_different-differ.result c.have_addresses-ranges.result
    (search rules) (search rules) (search rules) (search rules)
    (rw (← c.as_slice-6.ensures, ← c.as_slice-7.ensures.value, ← c.as_slice-8.ensures.value) c.are_both_ports-fit.ensures)
    (rw (← c.as_slice-9.ensures.value, ← c.as_slice-10.ensures.value) c.are_both_different-differ.ensures)
    (rw (← c.as_slice-11.ensures) c.have_addresses-ranges.ensures)
