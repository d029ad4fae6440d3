-- The fields of a message and the parts of its bytes.
use Rattle.std.proofs.Common.{refl}
use Rattle.of10_view.proofs.Fields.{actions_from_parts, data_of_message, kind_of, kinds_from_parts, match_of_message, xid_of}
use Rattle.of10_view.proofs.laws.fields_are_readings_of_parts.Goals as goal

pub returns-clause-header : goal.returns-clause-header
returns-clause-header c = λ bytes m reads.
    let fine = c.what_is_not_refused.ensures.parts bytes reads.accepted in
    rw (kind_of bytes m fine.kind reads.fields, xid_of bytes m fine.kind reads.fields, fine.told) refl

pub returns-clause-matches : goal.returns-clause-matches
returns-clause-matches c = λ bytes m reads. match_of_message bytes m (c.what_is_not_refused.ensures.parts bytes reads.accepted).kind reads.fields

pub returns-clause-actions : goal.returns-clause-actions
returns-clause-actions c = λ bytes m reads.
    let fine = c.what_is_not_refused.ensures.parts bytes reads.accepted in
    let order = c.actions_stand_one_after_the_other.ensures in
    actions_from_parts bytes m (record { first = order.first; starts = order.starts; others = order.others })
    (c.what_is_not_refused.ensures.packet_out bytes fine) (c.what_is_not_refused.ensures.flow_mod bytes fine) fine.kind reads.fields

pub returns-clause-kinds : goal.returns-clause-kinds
returns-clause-kinds c = λ bytes m reads. kinds_from_parts bytes m (c.what_is_not_refused.ensures.parts bytes reads.accepted).kind reads.fields

pub returns-clause-data : goal.returns-clause-data
returns-clause-data c = λ bytes m reads. data_of_message bytes m (c.what_is_not_refused.ensures.parts bytes reads.accepted).kind reads.fields
