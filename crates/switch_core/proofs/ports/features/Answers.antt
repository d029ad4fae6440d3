-- One port more is described.
use Rattle.std.proofs.Common.{◌∙◌, ◌+◌, ◌++◌, ◌∷◌, [], List, map, ap, sym, arith}
use Rattle.std.specs.List.{range_with_len}
use Rattle.std.proofs.lemmas.List.Elements.{All-push, All-same}
use Rattle.std.proofs.lemmas.List.FromFn.{map-range_with_len_more}
use Rattle.of10_messages.specs.Valid.{IsValidPort}
use Rattle.of10_messages.specs.declared.port.PortDesc.{PortDesc}
use Rattle.switch_core.specs.Ports.{port_desc}
use Rattle.switch_core.proofs.ports.features.Goals as goal

pub loop-place-preserved : goal.loop-place-preserved
loop-place-preserved c =
    let describe = port_desc c.args.state.now in
    let n = c.loop-place.place in
    let so_far = c.loop-place.ports in
    let port = c.port_desc.result in
    let put = c.in_ok-push.ensures.ok in
    let more = map-range_with_len_more describe 1 n (n + 1) (omega arith) in
    record {
      ports = put ∙ ap (λ (ps : List PortDesc). ps ++ port ∷ []) c.loop-place.invariant.ports
          ∙ ap (λ (p : PortDesc). map describe (range_with_len 1 n) ++ p ∷ []) c.port_desc.ensures.port ∙ sym more;
      valid = All-same IsValidPort c.push.new.self (so_far ++ port ∷ []) put (All-push IsValidPort so_far port c.loop-place.invariant.valid c.port_desc.ensures.valid);
    }
