use Rattle.std.proofs.lemmas.Str.{IsUtf8-had}
use Rattle.doc_forms.proofs.written.json_bytes.Goals as goal

pub returns-clause-json : goal.returns-clause-json
returns-clause-json c = λ shallow.
    rw c.into_bytes.ensures.value (IsUtf8-had _ c.in_ok-to_string.field-0.ok, (c.in_ok-to_string.ensures {u = tt}).reads_back shallow)
