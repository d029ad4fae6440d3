-- Each interval takes what its field takes.
use Rattle.header_classes.specs.Cell.{widths}
use Rattle.header_classes.proofs.Headers.{taken_box}
use Rattle.header_classes.proofs.cell.Cell.taken.Goals as goal

pub invariant_of-result : goal.invariant_of-result
unfolding widths
invariant_of-result c = (c.of_number.ensures.valid, (c.of_number-2.ensures.valid, (c.of_u16.ensures.valid, (c.of_u8.ensures.valid, (c.of_u16-2.ensures.valid, (c.of_u8-2.ensures.valid, (c.of_u8-3.ensures.valid, (c.of_address.ensures.valid, (c.of_address-2.ensures.valid, (c.of_u16-3.ensures.valid, (c.of_u16-4.ensures.valid, tt)))))))))))

pub returns : goal.returns
returns c = λ port h valid. taken_box c.args.matches.now port h _ _ _ _ _ _ _ _ _ _ _
    (c.of_number.ensures.taken h.dl_src valid.dl_src)
    (c.of_number-2.ensures.taken h.dl_dst valid.dl_dst)
    (c.of_u16.ensures.taken h.dl_vlan valid.dl_vlan)
    (c.of_u8.ensures.taken h.dl_vlan_pcp valid.dl_vlan_pcp)
    (c.of_u16-2.ensures.taken h.dl_type valid.dl_type)
    (c.of_u8-2.ensures.taken h.nw_tos valid.nw_tos)
    (c.of_u8-3.ensures.taken h.nw_proto valid.nw_proto)
    (c.of_address.ensures.taken h.nw_src valid.nw_src)
    (c.of_address-2.ensures.taken h.nw_dst valid.nw_dst)
    (c.of_u16-3.ensures.taken h.tp_src valid.tp_src)
    (c.of_u16-4.ensures.taken h.tp_dst valid.tp_dst)
