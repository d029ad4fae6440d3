use Rattle.std.proofs.Common.{◌≡◌, ◌∙◌, ◌++◌, OnOk, string_bytes, List, ℕ, ap, subst, append_assoc}
use Rattle.std.specs.Prelude.{codes}
use Rattle.std.specs.Fmt.{decimal}
use Rattle.report_text.specs.Verdicts.{header_text, walk_text}
use Rattle.report_text.proofs.verdicts.push_violated.Goals as goal

pub returns : goal.returns
returns c =
    let old : List ℕ = string_bytes c.args.text.now in
    let host : List ℕ = codes " violated host " ++ decimal c.args.host in
    let header : List ℕ = header_text c.args.header.now in
    let walk : List ℕ = walk_text c.args.walk.now in
    let written = ap (λ (t : List ℕ). t ++ walk) (c.in_ok-push_header.ensures ∙ ap (λ (t : List ℕ). t ++ header) c.in_ok-write.ensures.bytes) in
    subst (λ (t : List ℕ). OnOk c.push_walk.result (string_bytes c.push_walk.new.text ≡ t))
    (written ∙ append_assoc (old ++ host) header walk ∙ append_assoc old host (header ++ walk)) c.push_walk.ensures
